-- What the end of a reading says of a source.
use Rattle.std.proofs.Common.{◌≡◌, ◌⊎◌, ◌<◌, ℕ, List, [], ◌∷◌, length, arith, true, false, Ok, Err, refl, sym, ◌∙◌, ap, subst, inl, inr}
use Rattle.mx_base.specs.declared.places.Place.{Place}
use Rattle.c_tree.specs.declared.tree.Item.{Item}
use Rattle.c_tree.specs.declared.tree.Tree.{Tree}
use Rattle.c_grammar.specs.Lexemes.{Lexeme, same}
use Rattle.c_grammar.specs.Rules as n
use Rattle.c_grammar.specs.Nesting.{TooDeep}
use Rattle.c_grammar.specs.Program.{IsSource, FirstBad, place_at}
use Rattle.c_grammar.specs.Reading.{Out, Halt, unfit, too_deep, parse, limit}
use Rattle.c_grammar.proofs.Steps.{parse_steps}
use Rattle.c_grammar.proofs.Whole as whole
use Rattle.c_grammar.proofs.Deepest.{too_deep_found, too_deep_only}
use Rattle.c_grammar.proofs.Sources.{one_bad, one_deep, bad_is_none}
use Rattle.parse_expressions.specs.At.{At}
use Rattle.c_reader.specs.declared.fault.ReadFault.TheVariants.{Expected, Deep}
use Rattle.c_reader.specs.Refusals.{Shallow}

clash : (p : List Item × List Lexeme × ℕ) (h : Halt) → ◌≡◌ {A = Out (List Item)} (Ok p) (Err h) → ⊥
clash p h e = cc

apart : (a b : List Lexeme) → ◌≡◌ {A = Out (List Item)} (Err (unfit a)) (Err (too_deep b)) → ⊥
apart a b e = cc

pub no_flag : false ≡ true → ⊥
no_flag e = cc

-- a parser that stands before the first token
pub from_start : (at : At) (ts : List Lexeme) (o : Out (List Item)) → at ≡ record { left = ts; depth = 0 } → parse limit n.Source at.depth at.left ≡ o → parse limit n.Source 0 ts ≡ o
from_start at ts o e g = ap (λ z. parse limit n.Source z.depth z.left) (sym e) ∙ g

-- ---- all tokens were read

pub all_read : (ts : List Lexeme) (v : List Item) (d : ℕ) → parse limit n.Source 0 ts ≡ Ok (v, [], d) → IsSource ts v
all_read ts v d e = whole.read_all limit ts v d e

pub only_read : (ts : List Lexeme) (v tree : List Item) (d : ℕ) → parse limit n.Source 0 ts ≡ Ok (v, [], d) → IsSource ts tree → v ≡ tree
only_read ts v tree d e p = whole.read_only limit ts v tree d e p

shallow_ok : (ts : List Lexeme) (v : List Item) (rest : List Lexeme) (d : ℕ) → parse limit n.Source 0 ts ≡ Ok (v, rest, d) → Shallow ts
shallow_ok ts v rest d e = λ place x. clash (v, rest, d) _ (sym e ∙ too_deep_only ts place x)

pub none_bad : (ts : List Lexeme) (v : List Item) (d : ℕ) (end place : Place) → parse limit n.Source 0 ts ≡ Ok (v, [], d) → FirstBad ts end place → ⊥
none_bad ts v d end place e x = bad_is_none ts end place v x (all_read ts v d e)

pub none_deep : (ts : List Lexeme) (v : List Item) (rest : List Lexeme) (d : ℕ) (place : Place) → parse limit n.Source 0 ts ≡ Ok (v, rest, d) → TooDeep ts place → ⊥
none_deep ts v rest d place e x = shallow_ok ts v rest d e place x

-- ---- a token is left over

pub left_bad : (ts : List Lexeme) (v : List Item) (rest : List Lexeme) (d : ℕ) (end : Place) → parse limit n.Source 0 ts ≡ Ok (v, rest, d) → (rest ≡ [] → ⊥) → FirstBad ts end (place_at rest end)
left_bad ts v [] d end e h = absurd (h refl)
left_bad ts v (t ∷ rest) d end e h = whole.left_over limit ts v t rest d end e

pub left_shallow : (ts : List Lexeme) (v : List Item) (rest : List Lexeme) (d : ℕ) → parse limit n.Source 0 ts ≡ Ok (v, rest, d) → Shallow ts
left_shallow = shallow_ok

pub left_none : (ts : List Lexeme) (v tree : List Item) (rest : List Lexeme) (d : ℕ) → parse limit n.Source 0 ts ≡ Ok (v, rest, d) → (rest ≡ [] → ⊥) → IsSource ts tree → ⊥
left_none ts v tree [] d e h p = h refl
left_none ts v tree (t ∷ rest) d e h p = whole.not_left limit ts v tree t rest d e p

-- the place told is the place meant
pub same_bad : (ts : List Lexeme) (end p q : Place) → FirstBad ts end p → FirstBad ts end q → p ≡ q
same_bad ts end p q x y = one_bad ts end p q x y

-- ---- a token does not fit

pub unfit_bad : (ts at : List Lexeme) (end : Place) → parse limit n.Source 0 ts ≡ Err (unfit at) → FirstBad ts end (place_at at end)
unfit_bad ts at end e = whole.stuck_at limit ts at end e

pub unfit_none : (ts at : List Lexeme) (tree : List Item) → parse limit n.Source 0 ts ≡ Err (unfit at) → IsSource ts tree → ⊥
unfit_none ts at tree e p = whole.not_stuck limit ts at tree e p

pub unfit_shallow : (ts at : List Lexeme) → parse limit n.Source 0 ts ≡ Err (unfit at) → Shallow ts
unfit_shallow ts at e = λ place x. apart at _ (sym e ∙ too_deep_only ts place x)

-- a text without tokens is a source
pub some_token : (at : List Lexeme) → parse limit n.Source 0 [] ≡ Err (unfit at) → ⊥
unfolding same
some_token at e =
    let q : parse limit n.Source 0 [] ≡ Ok ([], [], 0) = parse_steps n.Source 0 [] in
    clash ([], [], 0) (unfit at) (sym q ∙ e)

-- ---- a token opens one nesting too many

pub deep_deep : (ts at : List Lexeme) (end : Place) → parse limit n.Source 0 ts ≡ Err (too_deep at) → TooDeep ts (place_at at end)
deep_deep ts at end e = too_deep_found ts at end e

pub same_deep : (ts : List Lexeme) (p q : Place) → TooDeep ts p → TooDeep ts q → p ≡ q
same_deep ts p q x y = one_deep ts p q x y

-- ---- the clauses of the reader

tree_is : (v : List Item) (tree : Tree) → v ≡ tree.items → record { items = v } ≡ tree
tree_is v tree e = ap (λ z. record { items = z }) e

pub only_ok : (ts : List Lexeme) (v : List Item) (d : ℕ) → parse limit n.Source 0 ts ≡ Ok (v, [], d) → (tree : Tree) → IsSource ts tree.items → record { items = v } ≡ tree
only_ok ts v d e tree p = tree_is v tree (only_read ts v tree.items d e p)

place_some : (rest : List Lexeme) (a b : Place) → (rest ≡ [] → ⊥) → place_at rest a ≡ place_at rest b
place_some [] a b h = absurd (h refl)
place_some (t ∷ rest) a b h = refl

-- a token is left over
pub told_left : (ts : List Lexeme) (v : List Item) (rest : List Lexeme) (d : ℕ) (end place other : Place) → parse limit n.Source 0 ts ≡ Ok (v, rest, d) → (rest ≡ [] → ⊥) → place ≡ place_at rest other → FirstBad ts end place × Shallow ts
told_left ts v rest d end place other e h p = (subst (FirstBad ts end) (place_some rest end other h ∙ sym p) (left_bad ts v rest d end e h), shallow_ok ts v rest d e)

pub expected_left : (ts : List Lexeme) (v : List Item) (rest : List Lexeme) (d : ℕ) (end place other meant : Place) → parse limit n.Source 0 ts ≡ Ok (v, rest, d) → (rest ≡ [] → ⊥) → place ≡ place_at rest other → FirstBad ts end meant → Expected place ≡ Expected meant
expected_left ts v rest d end place other meant e h p x = ap (λ z. Expected z) (one_bad ts end place meant (told_left ts v rest d end place other e h p).0 x)

-- a token does not fit, or one is wanting
place_told : (ts at : List Lexeme) (end place other : Place) → parse limit n.Source 0 ts ≡ Err (unfit at) → (0 < length ts → other ≡ end) → place ≡ place_at at other → place ≡ place_at at end
place_told [] at end place other e h p = absurd (some_token at e)
place_told (t ∷ ts) at end place other e h p = let s : 0 < length (t ∷ ts) = omega arith in p ∙ ap (place_at at) (h s)

pub told_unfit : (ts at : List Lexeme) (end place other : Place) → parse limit n.Source 0 ts ≡ Err (unfit at) → (0 < length ts → other ≡ end) → place ≡ place_at at other → FirstBad ts end place × Shallow ts
told_unfit ts at end place other e h p = (subst (FirstBad ts end) (sym (place_told ts at end place other e h p)) (unfit_bad ts at end e), unfit_shallow ts at e)

pub expected_unfit : (ts at : List Lexeme) (end place other meant : Place) → parse limit n.Source 0 ts ≡ Err (unfit at) → (0 < length ts → other ≡ end) → place ≡ place_at at other → FirstBad ts end meant → Expected place ≡ Expected meant
expected_unfit ts at end place other meant e h p x = ap (λ z. Expected z) (one_bad ts end place meant (told_unfit ts at end place other e h p).0 x)

-- a token opens one nesting too many
pub told_deep : (ts at : List Lexeme) (place other : Place) → parse limit n.Source 0 ts ≡ Err (too_deep at) → place ≡ place_at at other → TooDeep ts place
told_deep ts at place other e p = subst (TooDeep ts) (sym p) (deep_deep ts at other e)

pub same_told : (ts at : List Lexeme) (place other meant : Place) → parse limit n.Source 0 ts ≡ Err (too_deep at) → place ≡ place_at at other → TooDeep ts meant → Deep place ≡ Deep meant
same_told ts at place other meant e p x = ap (λ z. Deep z) (one_deep ts place meant (told_deep ts at place other e p) x)
