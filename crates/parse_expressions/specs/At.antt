-- Where a parser stands: the tokens that are left, as the grammar sees them, and how many nestings are open.
use Rattle.std.specs.Prelude.{ℕ, List}
use Rattle.c_grammar.specs.Lexemes.{Lexeme}

pub record At : Type 0 where
  pub left : List Lexeme
  pub depth : ℕ
