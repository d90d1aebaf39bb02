-- The levels of binary operators by number, the tightest at 0.
use Rattle.std.specs.Prelude.{ℕ, zero, suc, Bool, false, ◌||◌, List, ◌∷◌}
use Rattle.c_tokens.specs.declared.class.Class.{Class}
use Rattle.c_grammar.specs.declared.parts.Level.{Level}
use Rattle.c_grammar.specs.declared.parts.Level.TheVariants as l
use Rattle.c_grammar.specs.declared.parts.Operand.{Operand}
use Rattle.c_grammar.specs.Lexemes.{Lexeme, among}
use Rattle.c_grammar.specs.Rules as n
use Rattle.c_grammar.specs.Grammar.{first_of, others_of}
use Rattle.c_grammar.specs.Reading.{Out, parse, limit}

abbrev pub level_at : ℕ → Level
level_at zero = l.Product
level_at (suc zero) = l.Sum
level_at (suc (suc zero)) = l.Shift
level_at (suc (suc (suc zero))) = l.Order
level_at (suc (suc (suc (suc zero)))) = l.Equality
level_at (suc (suc (suc (suc (suc zero))))) = l.BitAnd
level_at (suc (suc (suc (suc (suc (suc zero)))))) = l.BitXor
level_at (suc (suc (suc (suc (suc (suc (suc zero))))))) = l.BitOr
level_at (suc (suc (suc (suc (suc (suc (suc (suc zero)))))))) = l.Both
level_at _ = l.Either

-- a token of this class is an operator of the level
abbrev pub is_operator : ℕ → Class → Bool
is_operator level c = among c (first_of (level_at level) ∷ others_of (level_at level))

-- a token of this class is an operator of one of the first so many levels
abbrev pub is_within : ℕ → Class → Bool
is_within zero c = false
is_within (suc level) c = is_within level c || is_operator level c

-- What reading gives of operands with operators of the first so many levels between them.
abbrev pub sides : ℕ → ℕ → List Lexeme → Out Operand
sides zero d ts = parse limit n.Unary d ts
sides (suc level) d ts = parse limit (n.Binary (level_at level)) d ts
