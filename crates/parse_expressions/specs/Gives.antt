-- What a function that reads returns.
use Rattle.std.specs.Prelude.{◌≡◌, ℕ, ◌+◌, true, false, List, [], ◌∷◌, Result, Ok, Err}
use Rattle.c_tokens.specs.declared.class.Class.{Class}
use Rattle.c_grammar.specs.Lexemes.{Lexeme, look, among}
use Rattle.c_grammar.specs.Reading.{Out, unfit, too_deep, and_then, take_tok, limit}
use Rattle.parse_expressions.specs.At.{At}
use Rattle.parse_expressions.specs.declared.fault.Fault.{Fault}
use Rattle.parse_expressions.specs.declared.fault.Fault.TheVariants.{Unexpected, Deep, OutOfMemory}

-- A result is what reading gives. The parser stands after what was read, or at the token that does not fit or opens one nesting too many. Want of
-- memory says nothing.
abbrev pub Gives : {A : Type 0} → Out A → Result A Fault → At → Type 0
Gives out (Ok v) new = out ≡ Ok (v, new.left, new.depth)
Gives out (Err Unexpected) new = out ≡ Err (unfit new.left)
Gives out (Err Deep) new = out ≡ Err (too_deep new.left)
Gives out (Err OutOfMemory) new = Unit {0}

-- a token of one of these classes, which opens a nesting
abbrev pub Opens : {A : Type 0} → (Lexeme → A) → Class → List Class → At → Result A Fault → At → Type 0
Opens f c cs old (Ok v) new = (among (look old.left) (c ∷ cs) ≡ true) × (limit old.depth ≡ true) × (take_tok f c cs (old.depth + 1) old.left ≡ Ok (v, new.left, new.depth))
Opens f c cs old (Err Unexpected) new = (among (look old.left) (c ∷ cs) ≡ false) × (new.left ≡ old.left)
Opens f c cs old (Err Deep) new = (among (look old.left) (c ∷ cs) ≡ true) × (limit old.depth ≡ false) × (new.left ≡ old.left)
Opens f c cs old (Err OutOfMemory) new = Unit {0}

-- the value through a function
abbrev pub through : {A B : Type 0} → (A → B) → Out A → Out B
through {A} {B} f out = and_then {B = B} out (λ v rest d. Ok (f v, rest, d))

-- a value is made, unless memory is wanting
abbrev pub Makes : {A : Type 0} → A → Result A Fault → Type 0
Makes v (Ok w) = w ≡ v
Makes v (Err fault) = fault ≡ OutOfMemory

-- what is read in a nesting where so many are open, which end with it so that others are
abbrev pub Closes : {A : Type 0} → Out A → ℕ → ℕ → Result A Fault → At → Type 0
Closes out inner depth (Ok v) new = (out ≡ Ok (v, new.left, inner)) × (new.depth ≡ depth)
Closes out inner depth (Err Unexpected) new = out ≡ Err (unfit new.left)
Closes out inner depth (Err Deep) new = out ≡ Err (too_deep new.left)
Closes out inner depth (Err OutOfMemory) new = Unit {0}
