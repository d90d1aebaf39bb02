use Rattle.std.proofs.Common.{◌≡◌, ◌*◌, [], replicate, vec_capacity, rules}
use Rattle.paged_memory.proofs.SlotLists.{sound_empty}
use Rattle.paged_memory.proofs.memory.Memory.make.Goals as goal

pub invariant_of-result : goal.invariant_of-result
invariant_of-result c =
    let none : c.in_ok-slots.slots.items ≡ [] = search rules in
    let zeros : c.in_ok-bytes.bytes.items ≡ replicate (c.args.frames * 4096) 0 = search rules in
    let room : vec_capacity c.in_ok-slots.slots ≡ c.args.frames = search rules in (
      sound_empty c.in_ok-slots.slots.items c.in_ok-bytes.bytes.items c.args.frames none zeros c.ranges.frames.fits,
      room,
      c.in_ok-known.ensures c.in_ok-slots.slots.items,
    )
