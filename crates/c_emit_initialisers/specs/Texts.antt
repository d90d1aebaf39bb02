-- The text that an expression is.
use Rattle.std.specs.Prelude.{◌≡◌, ℕ, List, [], ◌∷◌}
use Rattle.mx_base.specs.declared.numbers.IntKind.{IntKind}
use Rattle.mx_base.specs.Numbers.{extended}
use Rattle.c_tree.specs.declared.tree.Expr.{Expr}
use Rattle.bounds_plan.specs.elaboration.Source.{Reached, Around}
use Rattle.bounds_plan.specs.elaboration.Expressions.{expression}
use Rattle.bounds_plan.specs.elaboration.Initialisers.{bytes_of}

-- its bytes, wherever it stands; what is no text has none
abbrev pub HasText : Expr → List ℕ → Type 0
HasText e bytes = (around : Around) (r : Reached) → bytes_of (expression e around r).text ≡ bytes

-- the word of the first byte, which is 0 behind the end, and the bytes behind it
abbrev pub first_word : IntKind → List ℕ → ℕ
first_word kind [] = 0
first_word kind (b ∷ more) = extended kind b

abbrev pub behind_first : List ℕ → List ℕ
behind_first [] = []
behind_first (b ∷ more) = more
