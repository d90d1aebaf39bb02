use Rattle.std.proofs.Common.{[]}
use Rattle.c_check.proofs.TableStructs.{struct-holds, struct-begun, structs-more, known-more}
use Rattle.c_check.proofs.numbers.number_structs.Goals as goal

pub number_struct-requires-clause-begun : goal.number_struct-requires-clause-begun
number_struct-requires-clause-begun c =
    struct-begun c.structs.table c.args.structs.now c.structs.info-index c.info-item.result c.structs.invariant.laid c.structs-test.true c.info-item.is [] c.requires.laid c.requires.room

pub number_struct-requires-clause-built : goal.number_struct-requires-clause-built
number_struct-requires-clause-built c = struct-holds c.structs.table c.args.structs.now c.structs.info-index c.info-item.result c.structs.invariant.laid c.structs-test.true c.info-item.is

pub structs-preserved : goal.structs-preserved
structs-preserved c = record {
  laid = structs-more c.structs.table c.args.structs.now c.structs.info-index c.info-item.result c.structs.invariant.laid c.structs-test.true c.info-item.is c.number_struct.new.table
      c.in_ok-members.ensures.added c.in_ok-members.ensures.few;
  known = known-more c.structs.table c.number_struct.new.table c.structs.known c.push.new.self c.args.structs.now c.structs.info-index record { members = c.in_ok-members.members } c.info-item.result
      c.structs-test.true c.info-item.is c.in_ok-members.ensures.extends c.structs.invariant.known c.in_ok-members.ensures.known c.in_ok-push.ensures.ok;
}
