-- How many nestings are open at each token of what a rule reads.
use Rattle.std.specs.Prelude.{◌≡◌, ◌⊎◌, ℕ, zero, suc, ◌+◌, ◌<◌, ◌≤◌, true, false, List, [], ◌∷◌, ◌++◌, length, All}
use Rattle.mx_base.specs.declared.places.Place.{Place}
use Rattle.c_tokens.specs.declared.class.Class.TheVariants as k
use Rattle.c_tree.specs.declared.tree.Item.{Item}
use Rattle.c_grammar.specs.Lexemes.{Lexeme, same, look, among}
use Rattle.c_grammar.specs.Rules as n
use Rattle.c_grammar.specs.Rules.{N, Of, Rx, eps, no_else, tok, seq, alt, map, nest, scope, call, after_scope}
use Rattle.c_grammar.specs.Grammar.{rule}

-- Where d nestings are open, a rule at these tokens has this value and leaves these tokens and so many open nestings. `levels` has the number of
-- nestings that are open at each token that it reads, those that the token opens among them.
abbrev pub Nests_with : ((n : N) → ℕ → List Lexeme → Of n → List Lexeme → ℕ → List ℕ → Type 0) → {A : Type 0} → Rx A → ℕ → List Lexeme → A → List Lexeme → ℕ → List ℕ → Type 0
Nests_with R eps d ts v rest after levels = (rest ≡ ts) × (after ≡ d) × (levels ≡ [])
Nests_with R no_else d ts v rest after levels = (rest ≡ ts) × (after ≡ d) × (levels ≡ []) × (same (look ts) k.Else ≡ false)
Nests_with R (tok f c cs) d ts v rest after levels = (t : Lexeme) × (ts ≡ t ∷ rest) × (after ≡ d) × (levels ≡ d ∷ []) × (among t.class (c ∷ cs) ≡ true) × (f t ≡ v)
Nests_with R (seq r s) d ts v rest after levels =
    (mid : List Lexeme) × (between : ℕ) × (front : List ℕ) × (back : List ℕ) × Nests_with R r d ts v.0 mid between front × Nests_with R s between mid v.1 rest after back × (levels ≡ front ++ back)
Nests_with R (alt r s) d ts v rest after levels = Nests_with R r d ts v rest after levels ⊎ Nests_with R s d ts v rest after levels
Nests_with R (map {A} f r) d ts v rest after levels = (w : A) × Nests_with R r d ts w rest after levels × (f w ≡ v)
Nests_with R (nest r) d ts v rest after levels = Nests_with R r (d + 1) ts v rest after levels
Nests_with R (scope f r) d ts v rest after levels = (inner : ℕ) × Nests_with R r d ts v rest inner levels × (after ≡ after_scope f d)
Nests_with R (call n) d ts v rest after levels = R n d ts v rest after levels

-- by derivations of at most this height
abbrev pub Nests_within : ℕ → (n : N) → ℕ → List Lexeme → Of n → List Lexeme → ℕ → List ℕ → Type 0
Nests_within zero n d ts v rest after levels = ⊥
Nests_within (suc h) n d ts v rest after levels = Nests_with (Nests_within h) (rule n) d ts v rest after levels

pub record Nests (n : N) (d : ℕ) (ts : List Lexeme) (v : Of n) (rest : List Lexeme) (after : ℕ) (levels : List ℕ) : Type 0 where
  pub height : ℕ
  pub nests : Nests_within height n d ts v rest after levels

-- in a source with these items so many nestings are open at each of its tokens
pub record HasLevels (ts : List Lexeme) (items : List Item) (levels : List ℕ) : Type 0 where
  pub after : ℕ
  pub nests : Nests n.Source 0 ts items [] after levels

abbrev pub most_nestings : ℕ
most_nestings = 200

-- levels of which the one at this place is the first over a limit
pub record FirstOver (limit : ℕ) (levels : List ℕ) (at : ℕ) : Type 0 where
  pub low : List ℕ
  pub level : ℕ
  pub high : List ℕ
  pub is : levels ≡ low ++ level ∷ high
  pub counts : length low ≡ at
  pub within : All (λ l. l ≤ limit) low
  pub over : limit < level

-- The token at this place is the first that opens nesting 201: with the tokens before it, it begins a source, and in that it opens one nesting too
-- many and none of them does.
pub record TooDeep (ts : List Lexeme) (place : Place) : Type 0 where
  pub front : List Lexeme
  pub token : Lexeme
  pub behind : List Lexeme
  pub splits : ts ≡ front ++ token ∷ behind
  pub here : place ≡ token.place
  pub more : List Lexeme
  pub items : List Item
  pub levels : List ℕ
  pub has : HasLevels (front ++ token ∷ more) items levels
  pub first : FirstOver most_nestings levels (length front)
