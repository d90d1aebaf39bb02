use Rattle.std.proofs.Common.{◌≡◌, drop}
use Rattle.std.specs.Prelude.{fold}
use Rattle.asm_text.specs.Lexical.{with_digit, value_of}
use Rattle.asm_text.proofs.lexical.value_of.Given as goal

-- the digits that are left are added to the value of those before
abbrev pub invariant-loop-d : goal.invariant-loop-d
invariant-loop-d l = fold (with_digit l.base) l.value (drop l.d-index l.digits) ≡ value_of l.base l.digits
