use Rattle.std.proofs.Common.{◌-◌, take, drop, arith}
use Rattle.call_gates.specs.Gates.{clear_all, not_carrying}
use Rattle.call_gates.proofs.Sizes.{few_clears}
use Rattle.call_gates.proofs.Sound.{rest_sound}
use Rattle.call_gates.proofs.Bytes.{valid_as, size_as, rest_of_carriers}
use Rattle.call_gates.proofs.parts.clear_rest.Goals as goal

pub put-requires : goal.put-requires
put-requires c = record {
  valid = valid_as (take (6 - c.args.n) (drop c.args.n c.clear_carriers-all.result)) (clear_all (not_carrying c.args.n)) (rest_of_carriers c.clear_carriers-all.result c.args.n c.requires.few c.clear_carriers-all.ensures) (rest_sound c.args.n c.requires.few);
  room = let size = size_as (take (6 - c.args.n) (drop c.args.n c.clear_carriers-all.result)) (clear_all (not_carrying c.args.n)) (rest_of_carriers c.clear_carriers-all.result c.args.n c.requires.few c.clear_carriers-all.ensures) (rest_sound c.args.n c.requires.few) in let few = few_clears c.args.n c.requires.few in let room = c.requires.room in omega arith;
}

pub returns-clause-bound : goal.returns-clause-bound
returns-clause-bound c = let size = size_as (take (6 - c.args.n) (drop c.args.n c.clear_carriers-all.result)) (clear_all (not_carrying c.args.n)) (rest_of_carriers c.clear_carriers-all.result c.args.n c.requires.few c.clear_carriers-all.ensures) (rest_sound c.args.n c.requires.few) in let few = few_clears c.args.n c.requires.few in let more = c.put.ensures.len in omega arith
