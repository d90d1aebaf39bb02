use Rattle.std.proofs.Common.{◌≡◌, ◌^◌, ◌<◌, drop}
use Rattle.c_tokens.proofs.Values.{value_after}
use Rattle.c_tokens.proofs.numbers.value_of.Given as goal

abbrev pub invariant-loop-d : goal.invariant-loop-d
invariant-loop-d l = record {
  rest : value_after l.base 0 l.digits ≡ value_after l.base l.value (drop l.d-index l.digits);
  fits : l.value < 2 ^ 64;
}
