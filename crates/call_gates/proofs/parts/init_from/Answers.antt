use Rattle.std.proofs.Common.{arith}
use Rattle.call_gates.specs.Gates.{init_from}
use Rattle.call_gates.proofs.Sizes.{few_inits}
use Rattle.call_gates.proofs.Sound.{inits_sound}
use Rattle.call_gates.proofs.Bytes.{valid_as, size_as}
use Rattle.call_gates.proofs.parts.init_from.Goals as goal

pub put-requires : goal.put-requires
put-requires c = record {
  valid = valid_as c.init_all.result (init_from c.args.none 0) c.init_all.ensures (inits_sound c.args.none 0 c.requires.zero (omega arith));
  room = let size = size_as c.init_all.result (init_from c.args.none 0) c.init_all.ensures (inits_sound c.args.none 0 c.requires.zero (omega arith)) in let few = few_inits c.args.none 0 (omega arith) in let room = c.requires.room in omega arith;
}

pub returns-in-0-clause-bound : goal.returns-in-0-clause-bound
returns-in-0-clause-bound c = let size = size_as c.init_all.result (init_from c.args.none 0) c.init_all.ensures (inits_sound c.args.none 0 c.requires.zero (omega arith)) in let few = few_inits c.args.none 0 (omega arith) in let more = c.put.ensures.len in omega arith

pub put-requires-in-1 : goal.put-requires-in-1
put-requires-in-1 c = record {
  valid = valid_as c.init_three.result (init_from c.args.none 1) c.init_three.ensures (inits_sound c.args.none 1 c.requires.zero (omega arith));
  room = let size = size_as c.init_three.result (init_from c.args.none 1) c.init_three.ensures (inits_sound c.args.none 1 c.requires.zero (omega arith)) in let few = few_inits c.args.none 1 (omega arith) in let room = c.requires.room in omega arith;
}

pub returns-in-1-clause-bound : goal.returns-in-1-clause-bound
returns-in-1-clause-bound c = let size = size_as c.init_three.result (init_from c.args.none 1) c.init_three.ensures (inits_sound c.args.none 1 c.requires.zero (omega arith)) in let few = few_inits c.args.none 1 (omega arith) in let more = c.put-in-1.ensures.len in omega arith

pub put-requires-in-2 : goal.put-requires-in-2
put-requires-in-2 c = record {
  valid = valid_as c.init_two.result (init_from c.args.none 2) c.init_two.ensures (inits_sound c.args.none 2 c.requires.zero (omega arith));
  room = let size = size_as c.init_two.result (init_from c.args.none 2) c.init_two.ensures (inits_sound c.args.none 2 c.requires.zero (omega arith)) in let few = few_inits c.args.none 2 (omega arith) in let room = c.requires.room in omega arith;
}

pub returns-in-2-clause-bound : goal.returns-in-2-clause-bound
returns-in-2-clause-bound c = let size = size_as c.init_two.result (init_from c.args.none 2) c.init_two.ensures (inits_sound c.args.none 2 c.requires.zero (omega arith)) in let few = few_inits c.args.none 2 (omega arith) in let more = c.put-in-2.ensures.len in omega arith

pub put-requires-in-3 : goal.put-requires-in-3
put-requires-in-3 c = record {
  valid = valid_as c.init_one.result (init_from c.args.none 3) c.init_one.ensures (inits_sound c.args.none 3 c.requires.zero (omega arith));
  room = let size = size_as c.init_one.result (init_from c.args.none 3) c.init_one.ensures (inits_sound c.args.none 3 c.requires.zero (omega arith)) in let few = few_inits c.args.none 3 (omega arith) in let room = c.requires.room in omega arith;
}

pub returns-in-3-clause-bound : goal.returns-in-3-clause-bound
returns-in-3-clause-bound c = let size = size_as c.init_one.result (init_from c.args.none 3) c.init_one.ensures (inits_sound c.args.none 3 c.requires.zero (omega arith)) in let few = few_inits c.args.none 3 (omega arith) in let more = c.put-in-3.ensures.len in omega arith
