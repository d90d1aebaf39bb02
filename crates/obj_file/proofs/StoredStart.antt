-- The machine at its start: an image's segments lie before the directory and the tables, and its registers hold words.
use Rattle.std.proofs.Common.{◌≡◌, ℕ, ◌+◌, ◌<◌, ◌≤◌, ◌^◌, Bool, true, false, cond, nat_eq, None, List, [], ◌∷◌, length, refl, ◌∙◌, arith}
use Rattle.std.specs.List.{All}
use Rattle.std.proofs.lemmas.List.Elements.{All-head, All-tail}
use Rattle.std.proofs.lemmas.Bool.Decides.{nat_tests}
use Rattle.mx_base.specs.Memory.{Bytes, AreBytes, no_bytes, with_list, with_byte}
use Rattle.mx_base.specs.Regions.{region_end, control_stack}
use Rattle.mx_base.proofs.MemoryLemmas.{with_list_above, AreBytes-with_byte}
use Rattle.x86_forms.specs.Processor.{rsp}
use Rattle.obj_file.specs.declared.image.Image.{Image}
use Rattle.obj_file.specs.declared.image.Segment.{Segment}
use Rattle.obj_file.specs.Image.{room_at, segment_end, IsSegment, IsImage}
use Rattle.obj_file.specs.InTurn.{InTurn}
use Rattle.obj_file.specs.Loaded.{with_segments, processor_at_start, state_at_start}
use Rattle.obj_file.specs.Stored.{stored_at_start}
use Rattle.obj_file.specs.StoreLaw.{HoldsWords, StandsIn, StatesAlike, HaveBytes, megabyte_entry_at}
use Rattle.obj_file.proofs.StoredBytes.{number_of_zeros}

room_end : (at n : ℕ) → 1 ≤ n → n ≤ room_at at → at + n ≤ 0x2100_0000
unfolding room_at
room_end at n some within = grind (arith, nat_tests)

-- no segment reaches further
segments_before : (segments : List Segment) (from : ℕ) (m : Bytes) (a : ℕ) → InTurn IsSegment segment_end from segments → 0x2100_0000 ≤ a → with_segments m segments a ≡ m a
segments_before [] from m a h far = refl
segments_before (s ∷ rest) from m a h far =
    let end = room_end s.at (length s.bytes) h.0.some h.0.within in
    segments_before rest (segment_end from s) (with_list m s.at s.bytes) a h.1 far ∙ with_list_above s.bytes m s.at a (omega arith)

list_bytes : (bs : List ℕ) (m : Bytes) (a : ℕ) → AreBytes m → All (λ b. b < 256) bs → AreBytes (with_list m a bs)
unfolding with_list
list_bytes [] m a bytes small = bytes
list_bytes (b ∷ bs) m a bytes small =
    list_bytes bs (with_byte m a b) (a + 1) (AreBytes-with_byte m a b bytes (All-head (λ b. b < 256) b bs small)) (All-tail (λ b. b < 256) b bs small)

pub segments_bytes : (segments : List Segment) (m : Bytes) → AreBytes m → HaveBytes segments → AreBytes (with_segments m segments)
segments_bytes [] m bytes h = bytes
segments_bytes (s ∷ rest) m bytes h = segments_bytes rest (with_list m s.at s.bytes) (list_bytes s.bytes m s.at bytes h.0) h.1

words_at_start : (preserve : Bool) → HoldsWords (processor_at_start preserve)
words_at_start preserve = record {
  regs_fit = λ k. elim (nat_eq k rsp) as (λ t. cond t (region_end control_stack) 0 < 2 ^ 64) [ true ↦ omega arith | false ↦ omega arith ];
  bounds_fit = λ k. (omega arith, omega arith);
}

module _ (v : Image) (image : IsImage v) (bytes : HaveBytes v.segments) where
  zeros : (a : ℕ) → 0x2100_0000 ≤ a → with_segments no_bytes v.segments a ≡ 0
  zeros a far = segments_before v.segments 0 no_bytes a image.segments far

  stands_at_start : StandsIn (record { bytes = with_segments no_bytes v.segments; made = 0 }) (record { bytes = with_segments no_bytes v.segments; bounds = record { kept = λ g. None; touched = [] } })
  stands_at_start = record {
    made = refl;
    few = omega arith;
    bounded = λ k low. absurd (omega arith);
    distinct = λ j k lower low e. absurd (omega arith);
    named = λ k low. absurd (omega arith);
    unnamed = λ m low none. number_of_zeros 8 (with_segments no_bytes v.segments) (megabyte_entry_at m) (λ z from to. zeros z (omega arith));
    entries = λ k r low slot. absurd (omega arith);
    unkept = λ g none. refl;
    words = λ g. tt;
    unmade = λ a from to. zeros a (omega arith);
    others = λ a out. refl;
    each_byte = segments_bytes v.segments no_bytes (λ a. omega arith) bytes;
  }

  pub starts_alike : (preserve : Bool) (input : List ℕ) → StatesAlike (state_at_start v.segments preserve input) (stored_at_start v.segments preserve input)
  unfolding state_at_start stored_at_start
  starts_alike preserve input = record { processor = refl; guest = refl; steps = refl; memory = stands_at_start; words = words_at_start preserve }
