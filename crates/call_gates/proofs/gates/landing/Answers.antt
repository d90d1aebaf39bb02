use Rattle.std.proofs.Common.{◌≡◌, length, ap, arith}
use Rattle.call_gates.specs.Gates.{landing_gate}
use Rattle.call_gates.proofs.Sound.{landing_sound}
use Rattle.call_gates.proofs.Bytes.{valid_as, size_as}
use Rattle.call_gates.proofs.Made.{only_put}
use Rattle.call_gates.proofs.gates.landing.Goals as goal

pub put-requires : goal.put-requires
put-requires c = record {
  valid = valid_as c.landing_list.result landing_gate c.landing_list.ensures landing_sound;
  room = let none : length c.new-out.result.items ≡ 0 = ap length c.new-out.ensures in
      let size = size_as c.landing_list.result landing_gate c.landing_list.ensures landing_sound in
      omega arith;
}

pub returns : goal.returns
returns c = only_put landing_gate _ _ _ c.new-out.ensures c.landing_list.ensures c.put.ensures.items
