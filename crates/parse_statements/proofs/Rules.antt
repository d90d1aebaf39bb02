-- Each rule of the grammar as an equation of what reading it gives.
use Rattle.std.proofs.Common.{◌≡◌, ℕ, List}
use Rattle.c_grammar.specs.Lexemes.{Lexeme}
use Rattle.c_grammar.specs.Rules as n
use Rattle.c_grammar.specs.Reading.{parse, steps, limit}
use Rattle.c_grammar.proofs.Steps.{parse_steps}

pub step_declared : (d : ℕ) (ts : List Lexeme) → parse limit n.Declared d ts ≡ steps n.Declared d ts
step_declared d ts = parse_steps n.Declared d ts

pub step_initialised : (d : ℕ) (ts : List Lexeme) → parse limit n.Initialised d ts ≡ steps n.Initialised d ts
step_initialised d ts = parse_steps n.Initialised d ts

pub step_maybe_init : (d : ℕ) (ts : List Lexeme) → parse limit n.MaybeInit d ts ≡ steps n.MaybeInit d ts
step_maybe_init d ts = parse_steps n.MaybeInit d ts

pub step_condition : (d : ℕ) (ts : List Lexeme) → parse limit n.Condition d ts ≡ steps n.Condition d ts
step_condition d ts = parse_steps n.Condition d ts

pub step_returned : (d : ℕ) (ts : List Lexeme) → parse limit n.Returned d ts ≡ steps n.Returned d ts
step_returned d ts = parse_steps n.Returned d ts

pub step_block : (d : ℕ) (ts : List Lexeme) → parse limit n.Block d ts ≡ steps n.Block d ts
step_block d ts = parse_steps n.Block d ts

pub step_branch : (d : ℕ) (ts : List Lexeme) → parse limit n.Branch d ts ≡ steps n.Branch d ts
step_branch d ts = parse_steps n.Branch d ts

pub step_if_else : (d : ℕ) (ts : List Lexeme) → parse limit n.IfElse d ts ≡ steps n.IfElse d ts
step_if_else d ts = parse_steps n.IfElse d ts

pub step_otherwise : (d : ℕ) (ts : List Lexeme) → parse limit n.Otherwise d ts ≡ steps n.Otherwise d ts
step_otherwise d ts = parse_steps n.Otherwise d ts

pub step_while_do : (d : ℕ) (ts : List Lexeme) → parse limit n.WhileDo d ts ≡ steps n.WhileDo d ts
step_while_do d ts = parse_steps n.WhileDo d ts

pub step_do_while : (d : ℕ) (ts : List Lexeme) → parse limit n.DoWhile d ts ≡ steps n.DoWhile d ts
step_do_while d ts = parse_steps n.DoWhile d ts

pub step_statement : (d : ℕ) (ts : List Lexeme) → parse limit n.Statement d ts ≡ steps n.Statement d ts
step_statement d ts = parse_steps n.Statement d ts

pub step_nested : (d : ℕ) (ts : List Lexeme) → parse limit n.Nested d ts ≡ steps n.Nested d ts
step_nested d ts = parse_steps n.Nested d ts
