-- Laws of sources: each has one tree, and what is none has one first token that does not fit.
use Rattle.std.specs.Prelude.{List, ℕ, ◌↔◌, ◌≡◌, ◌⊎◌}
use Rattle.mx_base.specs.declared.places.Place.{Place}
use Rattle.c_tree.specs.declared.tree.Item.{Item}
use Rattle.c_grammar.specs.Lexemes.{Lexeme}
use Rattle.c_grammar.specs.Nesting.{HasLevels, TooDeep}
use Rattle.c_grammar.specs.Program.{IsSource, FirstBad}

abbrev pub OneTree : Type 0
OneTree = (ts : List Lexeme) (a b : List Item) → IsSource ts a → IsSource ts b → a ≡ b

-- tokens are a source, or one of them, or their end, is the first that does not fit
abbrev pub SourceOrBad : Type 0
SourceOrBad = (ts : List Lexeme) (end : Place) → ((items : List Item) × IsSource ts items) ⊎ ((place : Place) × FirstBad ts end place)

-- and not both
abbrev pub BadIsNone : Type 0
BadIsNone = (ts : List Lexeme) (end place : Place) (items : List Item) → FirstBad ts end place → IsSource ts items → ⊥

abbrev pub OneBad : Type 0
OneBad = (ts : List Lexeme) (end p q : Place) → FirstBad ts end p → FirstBad ts end q → p ≡ q

-- a source is what has levels of nesting: each token of it has one
abbrev pub SourcesHaveLevels : Type 0
SourcesHaveLevels = (ts : List Lexeme) (items : List Item) → IsSource ts items ↔ ((levels : List ℕ) × HasLevels ts items levels)

abbrev pub OneDeep : Type 0
OneDeep = (ts : List Lexeme) (p q : Place) → TooDeep ts p → TooDeep ts q → p ≡ q
