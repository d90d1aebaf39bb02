use Rattle.std.proofs.Common.{◌≡◌, ◌+◌, ◌-◌, ◌^◌, ◌≤◌, min, drop, ap, arith}
use Rattle.std.proofs.lemmas.List.{drop_all}
use Rattle.c_check_statements.specs.Functions.{pointers_in}
use Rattle.c_check_statements.proofs.functions.pointers_in.Goals as goal

pub returns : goal.returns
returns c = let none : pointers_in (drop c.params.param-index c.args.params.now) ≡ 0 = ap pointers_in (drop_all c.params.param-index c.args.params.now c.params-test.false) in
    let kept : min (pointers_in c.args.params.now) (2 ^ 32 - 1) ≡ min (c.params.count + pointers_in (drop c.params.param-index c.args.params.now)) (2 ^ 32 - 1) = c.params.invariant.0 in let few : c.params.count ≤ 2 ^ 32 - 1 = c.params.invariant.1 in omega arith
