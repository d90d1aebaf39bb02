-- Bytes with the frames of the pages that were written, as a memory of the instruction table.
use Rattle.std.specs.Prelude.{◌≡◌, ℕ, nat_lt, if◌then◌else◌, List, Result, Ok, Err, ⊤}
use Rattle.mx_base.specs.Bounds.{full_bounds}
use Rattle.mx_base.specs.Memory.{Bytes}
use Rattle.paged_memory.specs.declared.stops.MemStop.{MemStop}
use Rattle.paged_memory.specs.declared.stops.MemStop.TheVariants.{Unmapped, NoFrames}
use Rattle.paged_memory.specs.Answers.{load_answer, store_answer}
use Rattle.paged_memory.specs.Touched.{touched_by, frames_for}
use Rattle.paged_memory.specs.Framed.{Framed}
use Rattle.x86_forms.specs.Requests.{Store, Outcome, Done, Failed, Refused}

-- bytes that were written, if there are frames for the pages that are touched then
abbrev pub framed_answer : Framed → List ℕ → Result Bytes MemStop → Result Framed MemStop
framed_answer x touched (Ok bytes) =
    if nat_lt x.capacity (frames_for touched) then Err (NoFrames (frames_for x.touched) x.capacity) else Ok (record { bytes = bytes; touched = touched; capacity = x.capacity })
framed_answer x touched (Err stop) = Err stop

unfoldable pub framed_write : Framed → ℕ → ℕ → ℕ → Result Framed MemStop
framed_write x at size value = framed_answer x (touched_by size at x.touched) (store_answer size x.bytes at value)

-- no plain instruction loads or keeps bounds
abbrev pub framed : Store Framed MemStop
framed = record {
  read = λ x at size. load_answer size x.bytes at;
  write = framed_write;
  load = λ x at value. Ok (full_bounds, x);
  keep = λ x at value b. Ok x;
  status = λ stop before. before;
}

-- ---- bytes alone

-- a memory of bytes that never lacks frames
abbrev pub unframed : Store Bytes MemStop
unframed = record {
  read = λ bytes at size. load_answer size bytes at;
  write = λ bytes at size value. store_answer size bytes at value;
  load = λ bytes at value. Ok (full_bounds, bytes);
  keep = λ bytes at value b. Ok bytes;
  status = λ stop before. before;
}

abbrev pub IsDone : Outcome Bytes MemStop → Type 0
IsDone (Done after bytes) = ⊤
IsDone (Failed fault left bytes) = ⊥
IsDone (Refused stop left bytes) = ⊥

-- an instruction ended over bytes as it did over them and frames; where frames were too few, it is done over bytes
abbrev pub SameOverBytes : Outcome Framed MemStop → Outcome Bytes MemStop → Type 0
SameOverBytes (Done after x) end = end ≡ Done after x.bytes
SameOverBytes (Failed fault left x) end = end ≡ Failed fault left x.bytes
SameOverBytes (Refused (Unmapped a) left x) end = end ≡ Refused (Unmapped a) left x.bytes
SameOverBytes (Refused (NoFrames in_use capacity) left x) end = IsDone end
