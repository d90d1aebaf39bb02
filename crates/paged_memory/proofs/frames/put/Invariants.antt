use Rattle.std.proofs.Common.{length, ◌-◌, ◌≡◌, ◌≤◌, take, vec_capacity}
use Rattle.mx_base.specs.Memory.{with_list}
use Rattle.paged_memory.specs.Touched.{touched_by}
use Rattle.paged_memory.specs.Frames.{byte_under, frame_in, pages_in, IsSound, KeepsFrames}
use Rattle.paged_memory.proofs.frames.put.Given as goal

abbrev pub invariant-loop-at : goal.invariant-loop-at
invariant-loop-at l = record {
  within : l.at ≤ length l.bytes;
  sound : IsSound l.slots.items l.frames l.capacity;
  reserved : vec_capacity l.slots ≡ l.capacity;
  bytes : byte_under (frame_in l.slots.items) l.frames ≡ with_list (byte_under (frame_in l.initial.slots.items) l.initial.frames) l.a (take l.at l.bytes);
  pages : pages_in l.slots.items ≡ touched_by l.at l.a (pages_in l.initial.slots.items);
  kept : KeepsFrames l.initial.slots.items l.slots.items;
}

abbrev pub decreases-loop-at : goal.decreases-loop-at
decreases-loop-at l = length l.bytes - l.at
