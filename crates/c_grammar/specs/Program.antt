-- What a program is, what begins one, and the first token that does not fit.
use Rattle.std.specs.Prelude.{◌≡◌, ℕ, List, [], ◌∷◌, ◌++◌}
use Rattle.mx_base.specs.declared.places.Place.{Place}
use Rattle.c_tokens.specs.declared.token.Token.{Token}
use Rattle.c_tree.specs.declared.tree.Item.{Item}
use Rattle.c_tree.specs.declared.tree.Tree.{Tree}
use Rattle.c_grammar.specs.Lexemes.{Lexeme, lexemes}
use Rattle.c_grammar.specs.Rules as n
use Rattle.c_grammar.specs.Grammar.{Reads}

-- the tokens are a source with these items
abbrev pub IsSource : List Lexeme → List Item → Type 0
IsSource ts items = Reads n.Source ts items []

-- the tokens of a text are a program with this tree
abbrev pub IsProgram : List ℕ → List Token → Tree → Type 0
IsProgram bytes tokens tree = IsSource (lexemes bytes tokens) tree.items

-- the tokens begin a source
pub record Begins (ts : List Lexeme) : Type 0 where
  pub more : List Lexeme
  pub items : List Item
  pub is : IsSource (ts ++ more) items

-- the tokens with the next one begin no source, or, where there is no next one, are none
abbrev pub Fails : List Lexeme → List Lexeme → Type 0
Fails front [] = (items : List Item) → IsSource front items → ⊥
Fails front (t ∷ ts) = Begins (front ++ t ∷ []) → ⊥

-- the place of the first of these tokens, or the place after the last byte of the text
abbrev pub place_at : List Lexeme → Place → Place
place_at [] end = end
place_at (t ∷ ts) end = t.place

-- the first token that does not fit stands at this place: the tokens before it begin a source, and with it they begin none
pub record FirstBad (ts : List Lexeme) (end place : Place) : Type 0 where
  pub front : List Lexeme
  pub at : List Lexeme
  pub splits : ts ≡ front ++ at
  pub begins : Begins front
  pub fails : Fails front at
  pub here : place ≡ place_at at end
