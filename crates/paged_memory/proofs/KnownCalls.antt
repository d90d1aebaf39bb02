-- Loads and stores at a kept page.
use Rattle.std.specs.Prelude.{length}
use Rattle.std.specs.Int.{w64, from_le_bytes, to_le_bytes}
use Rattle.std.proofs.Common.{◌≡◌, ℕ, ◌+◌, ◌-◌, ◌*◌, ◌/◌, ◌%◌, ◌<◌, ◌≤◌, true, IsTrue, None, Result, Ok, List, ◌++◌, take, drop, replicate, length-take-le, refl, sym, ap, ◌∙◌, subst, arith}
use Rattle.mx_base.specs.Memory.{Bytes, list_at, with_list, number_at, first_refused}
use Rattle.mx_base.specs.Regions.{is_writable}
use Rattle.paged_memory.specs.declared.slots.Slot.{Slot}
use Rattle.paged_memory.specs.declared.stops.MemStop.{MemStop}
use Rattle.paged_memory.specs.Touched.{has_page}
use Rattle.paged_memory.specs.Paged.{bytes_of}
use Rattle.paged_memory.specs.Answers.{is_width, load_answer, store_answer, write_answer, Writes}
use Rattle.paged_memory.specs.Frames.{frame_in, pages_in, byte_under, put_at, paged_of, IsSound}
use Rattle.paged_memory.specs.Known.{StandAt}
use Rattle.paged_memory.proofs.Numbers.{number_of_list, with_number_bytes, width_most, width_some}
use Rattle.paged_memory.proofs.PageLists.{piece_old}
use Rattle.paged_memory.proofs.PageBytes.{list_of_frame, put_at-under}
use Rattle.paged_memory.proofs.SlotLists.{frame_in_has, length-pages_in, sound_put, lie_within, some_has}
use Rattle.paged_memory.proofs.View.{bytes_of-paged_of, written_to}
use Rattle.paged_memory.proofs.Answered.{read_allowed, load_done, write_allowed, writes_store}
use Rattle.paged_memory.proofs.KnownPages.{stand_writable, stand_readable}

place_is : (slots : List Slot) (a n at : ℕ) → StandAt slots a n at → at / 4096 * 4096 + a % 4096 ≡ at
place_is slots a n at s = let place = s.place in omega (arith, place)

-- the bytes lie among the frames
pub stand_within : (slots : List Slot) (frames : List ℕ) (capacity a n at : ℕ) → IsSound slots frames capacity → StandAt slots a n at → at + n ≤ length frames
stand_within slots frames capacity a n at sound s =
    let room = lie_within slots frames capacity (a / 4096) (at / 4096) sound s.there in
    let place = s.place in
    let inside = s.inside in
    omega (arith, room, place, inside)

pub load_known : (slots : List Slot) (frames : List ℕ) (capacity a n at v : ℕ) → IsSound slots frames capacity → IsTrue (is_width n) → StandAt slots a n at
    → v ≡ from_le_bytes w64 (take n (drop at frames) ++ replicate (8 - n) 0) → Ok v ≡ load_answer n (bytes_of (paged_of slots frames capacity)) a
load_known slots frames capacity a n at v sound width s is =
    let most = width_most n width in
    let bytes = list_of_frame n (frame_in slots) frames a (at / 4096) s.inside s.there (lie_within slots frames capacity (a / 4096) (at / 4096) sound s.there) ∙ ap (λ p. take n (drop p frames)) (place_is slots a n at s) in
    let number : v ≡ number_at n (byte_under (frame_in slots) frames) a =
    is ∙ ap (λ (xs : List ℕ). from_le_bytes w64 (xs ++ replicate (8 - n) 0)) (sym bytes) ∙ number_of_list n width (byte_under (frame_in slots) frames) a (8 - n) (omega (arith, most)) in
    load_done n (byte_under (frame_in slots) frames) a v (sym (read_allowed n a (stand_readable slots a n at s))) number
    ∙ ap (λ b. load_answer n b a) (sym (bytes_of-paged_of slots frames capacity))

pub sound_known : (slots : List Slot) (frames fs bytes : List ℕ) (capacity a n at : ℕ) → IsSound slots frames capacity → StandAt slots a n at → length bytes ≡ n → fs ≡ put_at frames at bytes → IsSound slots fs capacity
sound_known slots frames fs bytes capacity a n at sound s long is =
    let low = sound.below (a / 4096) (at / 4096) s.there in
    let place = s.place in
    let inside = s.inside in
    subst (λ (f : List ℕ). IsSound slots f capacity) (sym is) (sound_put slots frames capacity at bytes (omega (arith, low, place, inside, long)) sound)

pub length-low : (n v : ℕ) → IsTrue (is_width n) → length (take n (to_le_bytes w64 v)) ≡ n
length-low n v width =
    let most = width_most n width in
    length-take-le n (to_le_bytes w64 v) (omega (arith, most))

store_bytes : (slots : List Slot) (frames fs bytes : List ℕ) (capacity a n at : ℕ) → IsSound slots frames capacity → 0 < n → StandAt slots a n at → length bytes ≡ n → fs ≡ put_at frames at bytes
    → Writes (length bytes) a (Ok (with_list (bytes_of (paged_of slots frames capacity)) a bytes)) (paged_of slots frames capacity) (paged_of slots fs capacity) (Ok (tt {0}))
store_bytes slots frames fs bytes capacity a n at sound some s long is =
    let inside = s.inside in
    let fits : a % 4096 + length bytes ≤ 4096 = omega (arith, inside, long) in
    let more : 0 < length bytes = omega (arith, some, long) in
    let has : has_page (pages_in slots) (a / 4096) ≡ true = some_has (frame_in slots (a / 4096)) (at / 4096) (has_page (pages_in slots) (a / 4096)) s.there (frame_in_has slots (a / 4096)) in
    let pages = piece_old (length bytes) a (pages_in slots) more fits has in
    let few = sound.few in
    let count = length-pages_in slots in
    let same = ap length pages in
    let put : fs ≡ put_at frames (at / 4096 * 4096 + a % 4096) bytes = is ∙ ap (λ p. put_at frames p bytes) (sym (place_is slots a n at s)) in
    written_to slots slots frames fs bytes capacity a
    (ap (byte_under (frame_in slots)) put ∙ put_at-under (frame_in slots) frames bytes a (at / 4096) sound.apart s.there (lie_within slots frames capacity (a / 4096) (at / 4096) sound s.there) fits)
    (sym pages) (omega (arith, few, count, same))

-- a write of so many bytes there
pub write_known : (slots : List Slot) (frames fs bytes : List ℕ) (capacity a at : ℕ) → IsSound slots frames capacity → 0 < length bytes → StandAt slots a (length bytes) at → fs ≡ put_at frames at bytes
    → Writes (length bytes) a (write_answer bytes (bytes_of (paged_of slots frames capacity)) a) (paged_of slots frames capacity) (paged_of slots fs capacity) (Ok (tt {0}))
write_known slots frames fs bytes capacity a at sound some s is =
    subst (λ (w : Result Bytes MemStop). Writes (length bytes) a w (paged_of slots frames capacity) (paged_of slots fs capacity) (Ok (tt {0})))
    (sym (write_allowed bytes (bytes_of (paged_of slots frames capacity)) a (stand_writable slots a (length bytes) at s)))
    (store_bytes slots frames fs bytes capacity a (length bytes) at sound some s refl is)

-- the bytes that a read gives there
pub read_known : (slots : List Slot) (frames : List ℕ) (capacity a n at : ℕ) → IsSound slots frames capacity → StandAt slots a n at → take n (drop at frames) ≡ list_at n (bytes_of (paged_of slots frames capacity)) a
read_known slots frames capacity a n at sound s =
    ap (λ p. take n (drop p frames)) (sym (place_is slots a n at s))
    ∙ sym (list_of_frame n (frame_in slots) frames a (at / 4096) s.inside s.there (lie_within slots frames capacity (a / 4096) (at / 4096) sound s.there))
    ∙ ap (λ m. list_at n m a) (sym (bytes_of-paged_of slots frames capacity))

pub store_known : (slots : List Slot) (frames fs : List ℕ) (capacity a n at v : ℕ) → IsSound slots frames capacity → IsTrue (is_width n) → StandAt slots a n at
    → fs ≡ put_at frames at (take n (to_le_bytes w64 v))
    → Writes n a (store_answer n (bytes_of (paged_of slots frames capacity)) a v) (paged_of slots frames capacity) (paged_of slots fs capacity) (Ok (tt {0}))
store_known slots frames fs capacity a n at v sound width s is =
    let long = length-low n v width in
    let free : first_refused is_writable (length (take n (to_le_bytes w64 v))) a ≡ None = ap (λ k. first_refused is_writable k a) long ∙ stand_writable slots a n at s in
    writes_store n a v (take n (to_le_bytes w64 v)) (paged_of slots frames capacity) (paged_of slots fs capacity) (Ok (tt {0})) long
    (with_number_bytes n (bytes_of (paged_of slots frames capacity)) a v width)
    (subst (λ (w : Result Bytes MemStop). Writes (length (take n (to_le_bytes w64 v))) a w (paged_of slots frames capacity) (paged_of slots fs capacity) (Ok (tt {0})))
    (sym (write_allowed (take n (to_le_bytes w64 v)) (bytes_of (paged_of slots frames capacity)) a free))
    (store_bytes slots frames fs (take n (to_le_bytes w64 v)) capacity a n at sound (width_some n width) s long is))
