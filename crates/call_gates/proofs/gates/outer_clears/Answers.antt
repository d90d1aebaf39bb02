use Rattle.std.proofs.Common.{arith}
use Rattle.call_sigs.specs.Signatures.{signature_of, result_of_letter}
use Rattle.call_gates.specs.Gates.{clear_all, others}
use Rattle.call_gates.proofs.Sizes.{one_result}
use Rattle.call_gates.proofs.Sound.{others_sound}
use Rattle.call_gates.proofs.Bytes.{valid_as, size_as}
use Rattle.call_gates.proofs.Made.{clears_made}
use Rattle.call_gates.proofs.gates.outer_clears.Goals as goal

pub put-requires : goal.put-requires
put-requires c = record {
  valid = valid_as c.clear_others.result (clear_all others) c.clear_others.ensures others_sound;
  room = let size = size_as c.clear_others.result (clear_all others) c.clear_others.ensures others_sound in
      let one = c.extend_result.ensures.bound in
      let room = c.requires in
      omega arith;
}

pub init_from-requires-clause-few : goal.init_from-requires-clause-few
init_from-requires-clause-few c = let few = one_result (result_of_letter c.args.sig.now.result) in let same = c.count_result_pointers.ensures in omega arith

pub init_from-requires-clause-room : goal.init_from-requires-clause-room
init_from-requires-clause-room c =
    let size = size_as c.clear_others.result (clear_all others) c.clear_others.ensures others_sound in
    let one = c.extend_result.ensures.bound in
    let two = c.put.ensures.len in
    let room = c.requires in
    omega arith

pub returns-clause-items : goal.returns-clause-items
returns-clause-items c = clears_made (signature_of c.args.sig.now.result c.args.sig.now.params.items) _ _ _ _ _ c.count_result_pointers.result c.extend_result.ensures.items c.clear_others.ensures c.put.ensures.items c.count_result_pointers.ensures c.init_from.ensures.items

pub returns-clause-bound : goal.returns-clause-bound
returns-clause-bound c =
    let size = size_as c.clear_others.result (clear_all others) c.clear_others.ensures others_sound in
    let one = c.extend_result.ensures.bound in
    let two = c.put.ensures.len in
    let three = c.init_from.ensures.bound in
    omega arith
