use Rattle.std.proofs.Common.{◌≡◌, length, ap, arith}
use Rattle.call_gates.specs.Gates.{start_gate}
use Rattle.call_gates.proofs.Sound.{start_sound}
use Rattle.call_gates.proofs.Bytes.{valid_as, size_as}
use Rattle.call_gates.proofs.gates.start.Goals as goal

pub put-requires : goal.put-requires
put-requires c = record {
  valid = let high = c.requires.1 in valid_as c.start_list.result (start_gate c.args.main) c.start_list.ensures (start_sound c.args.main (omega arith));
  room = let high = c.requires.1 in
      let none : length c.new-code.result.items ≡ 0 = ap length c.new-code.ensures in
      let size = size_as c.start_list.result (start_gate c.args.main) c.start_list.ensures (start_sound c.args.main (omega arith)) in
      omega arith;
}
