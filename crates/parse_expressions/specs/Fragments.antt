-- Parts of rules that functions read by themselves.
use Rattle.std.specs.Prelude.{ℕ, List}
use Rattle.c_tokens.specs.declared.class.Class.TheVariants as k
use Rattle.c_grammar.specs.declared.parts.Operand.{Operand}
use Rattle.c_grammar.specs.declared.parts.KindName.{KindName}
use Rattle.c_grammar.specs.Rules as n
use Rattle.c_grammar.specs.Rules.{Rx, call}
use Rattle.c_grammar.specs.Grammar.{◌~◌, ◌=>◌, mark, name, level, closing}

-- an expression and the parenthesis after it, which ends the nesting of the one before it
abbrev pub inside : Rx Operand
inside = closing (call n.Assignment ~ mark k.CloseParen) => (λ p. p.0)

-- a type and the parenthesis after it, likewise
abbrev pub type_inside : Rx KindName
type_inside = closing (call n.TypeName ~ mark k.CloseParen) => (λ p. p.0)

-- a variable or a call
abbrev pub named : Rx Operand
named = name ~ call n.MaybeCall => (λ p. p.1 p.0)

-- an expression with which its nestings end
abbrev pub whole : Rx Operand
whole = level (call n.Assignment)
