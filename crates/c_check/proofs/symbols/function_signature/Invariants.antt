use Rattle.std.proofs.Common.{◌≡◌, ◌++◌, map, drop}
use Rattle.std.specs.Prelude.{◌∷◌}
use Rattle.c_check.specs.Symbols.{letter}
use Rattle.c_check.proofs.symbols.function_signature.Given as goal

abbrev pub invariant-params : goal.invariant-params
invariant-params l = l.bytes.items ++ map letter (drop l.param-index l.function.params) ≡ 102 ∷ letter l.function.result ∷ 40 ∷ map letter l.function.params
