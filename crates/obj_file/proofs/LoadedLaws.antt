-- What stands in memory before the first event: the segments, which lie in order and apart, and zeros.
use Rattle.std.proofs.Common.{◌≡◌, ℕ, ◌+◌, ◌<◌, Bool, List, [], ◌∷◌, length, refl, ◌∙◌, arith, inl, inr}
use Rattle.std.specs.List.{AllByRecursion}
use Rattle.std.proofs.lemmas.Bool.{cases_lt}
use Rattle.mx_base.specs.Memory.{Bytes, no_bytes, with_list}
use Rattle.mx_base.proofs.MemoryLemmas.{list_at-same, list_at-with_list, with_list_below, with_list_above}
use Rattle.obj_file.specs.declared.image.Image.{Image}
use Rattle.obj_file.specs.declared.image.Segment.{Segment}
use Rattle.obj_file.specs.InTurn.{InTurn}
use Rattle.obj_file.specs.Image.{segment_end, IsSegment, IsImage}
use Rattle.obj_file.specs.Loaded.{with_segments, state_at_start, Holds, IsOutside}

-- segments don't reach below where they may begin
below_segments : (xs : List Segment) (from : ℕ) (m : Bytes) (a : ℕ) → InTurn IsSegment segment_end from xs → a < from → with_segments m xs a ≡ m a
below_segments [] from m a h below = refl
below_segments (s ∷ xs) from m a h below =
    let after = h.0.after in
    below_segments xs (segment_end from s) (with_list m s.at s.bytes) a h.1 (omega arith) ∙ with_list_below s.bytes m s.at a (omega arith)

stand : (xs : List Segment) (from : ℕ) (m : Bytes) → InTurn IsSegment segment_end from xs → AllByRecursion (Holds (with_segments m xs)) xs
stand [] from m h = tt
stand (s ∷ xs) from m h =
    let placed = with_list m s.at s.bytes in
    let kept = list_at-same (length s.bytes) (with_segments placed xs) placed s.at (λ x low high. below_segments xs (segment_end from s) placed x h.1 high) in
    (kept ∙ list_at-with_list s.bytes m s.at, stand xs (segment_end from s) placed h.1)

outside : (s : Segment) (m : Bytes) (a : ℕ) → IsOutside a s → with_list m s.at s.bytes a ≡ m a
outside s m a out =
    elim (cases_lt a s.at) [
      | inl below ↦ with_list_below s.bytes m s.at a below
      | inr from ↦
          elim (cases_lt a (s.at + length s.bytes)) [
            | inl within ↦ absurd (out from within)
            | inr above ↦ with_list_above s.bytes m s.at a above
          ]
    ]

left : (xs : List Segment) (m : Bytes) (a : ℕ) → AllByRecursion (IsOutside a) xs → with_segments m xs a ≡ m a
left [] m a h = refl
left (s ∷ xs) m a h = left xs (with_list m s.at s.bytes) a h.1 ∙ outside s m a h.0

pub segments_stand : (v : Image) (preserve : Bool) (input : List ℕ) → IsImage v → AllByRecursion (Holds (state_at_start v.segments preserve input).memory.bytes) v.segments
unfolding state_at_start
segments_stand v preserve input image = stand v.segments 0 no_bytes image.segments

pub zeros_elsewhere : (v : Image) (preserve : Bool) (input : List ℕ) (a : ℕ) → AllByRecursion (IsOutside a) v.segments → (state_at_start v.segments preserve input).memory.bytes a ≡ 0
unfolding state_at_start
zeros_elsewhere v preserve input a out = left v.segments no_bytes a out
