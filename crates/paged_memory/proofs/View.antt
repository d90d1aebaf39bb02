-- What callers see of slots and frames has the bytes and pages that stand there.
use Rattle.std.proofs.Common.{◌≡◌, ℕ, ◌+◌, ◌-◌, ◌*◌, ◌/◌, ◌%◌, ◌<◌, ◌≤◌, true, false, cond, ◌==◌, Some, List, [], ◌∷◌, length, map, Ok, ◌++◌, take, drop, refl, sym, ap, ◌∙◌, arith}
use Rattle.std.specs.Prelude.{slice_index, slice_range}
use Rattle.std.specs.List.{find}
use Rattle.std.proofs.lemmas.List.{get_or-take, get_or-drop}
use Rattle.paged_memory.specs.declared.slots.Slot.{Slot}
use Rattle.paged_memory.specs.Paged.{page_bytes, byte_of_page, bytes_of, touched_of}
use Rattle.paged_memory.specs.Frames.{frame_in, frame_number, pages_in, byte_in, byte_under, page_of, paged_of}
use Rattle.mx_base.specs.Memory.{with_list}
use Rattle.paged_memory.specs.Touched.{touched_by}
use Rattle.paged_memory.specs.Answers.{IsShort, Writes}
use Rattle.paged_memory.proofs.SlotLists.{length-pages_in}
use Rattle.std.proofs.lemmas.Grind.{common_steps}

within_page : (frames : List ℕ) (p off : ℕ) → off < 4096 → slice_index (slice_range frames p (p + 4096)) off ≡ slice_index frames (p + off)
within_page frames p off h =
    let n : p + 4096 - p ≡ 4096 = omega arith in
    ap (λ k. slice_index (take k (drop p frames)) off) n ∙ get_or-take 4096 (drop p frames) off 0 h ∙ get_or-drop p frames off 0

found : (slots : List Slot) (frames : List ℕ) (page off : ℕ) → off < 4096 → byte_of_page (page_bytes (map (page_of frames) slots) page) off ≡ byte_in frames (frame_in slots page) off
found [] frames page off h = refl
found (s ∷ ss) frames page off h = elim (s.page == page) as (λ b. byte_of_page (cond b (Some (slice_range frames (s.frame * 4096) (s.frame * 4096 + 4096))) (page_bytes (map (page_of frames) ss) page)) off ≡ byte_in frames (frame_number (cond b (Some s) (find (λ s. s.page == page) ss))) off) [
  | true ↦ within_page frames (s.frame * 4096) off h
  | false ↦ found ss frames page off h
]

pub bytes_of-paged_of : (slots : List Slot) (frames : List ℕ) (capacity : ℕ) → bytes_of (paged_of slots frames capacity) ≡ byte_under (frame_in slots) frames
unfolding bytes_of
bytes_of-paged_of slots frames capacity = λ i a. found slots frames (a / 4096) (a % 4096) (omega arith) i

same_pages : (slots : List Slot) (frames : List ℕ) → map (λ q. q.0) (map (page_of frames) slots) ≡ pages_in slots
same_pages [] frames = refl
same_pages (s ∷ ss) frames = ap (λ t. s.page ∷ t) (same_pages ss frames)

pub touched_of-paged_of : (slots : List Slot) (frames : List ℕ) (capacity : ℕ) → touched_of (paged_of slots frames capacity) ≡ pages_in slots
unfolding touched_of
touched_of-paged_of slots frames capacity = same_pages slots frames

-- ---- what a write leaves

pub short_of : (slots : List Slot) (frames : List ℕ) (capacity n a need used : ℕ) → length (pages_in slots) + need ≡ length (touched_by n a (pages_in slots)) → length slots ≤ capacity
    → capacity - length slots < need → used ≡ length slots → IsShort n a (paged_of slots frames capacity) used capacity
short_of slots frames capacity n a need used counted few over same =
    let seen = touched_of-paged_of slots frames capacity in
    let pages = length-pages_in slots in
    let want = ap (λ t. length (touched_by n a t)) seen in
    record {
      few = omega (arith, want, counted, pages);
      in_use = same ∙ sym pages ∙ sym (ap length seen);
      capacity = refl;
    }

pub written_to : (slots new : List Slot) (frames fs bytes : List ℕ) (capacity a : ℕ) → byte_under (frame_in new) fs ≡ with_list (byte_under (frame_in slots) frames) a bytes
    → pages_in new ≡ touched_by (length bytes) a (pages_in slots) → length (touched_by (length bytes) a (pages_in slots)) ≤ capacity
    → Writes (length bytes) a (Ok (with_list (bytes_of (paged_of slots frames capacity)) a bytes)) (paged_of slots frames capacity) (paged_of new fs capacity) (Ok (tt {0}))
written_to slots new frames fs bytes capacity a same pages room =
    let before = touched_of-paged_of slots frames capacity in
    let after = touched_of-paged_of new fs capacity in
    let count = ap length (after ∙ pages) in (
      ap Ok (ap (λ m. with_list m a bytes) (bytes_of-paged_of slots frames capacity) ∙ sym same ∙ sym (bytes_of-paged_of new fs capacity)),
      record {
        touched = after ∙ pages ∙ sym (ap (touched_by (length bytes) a) before);
        enough = omega (arith, count, room);
        capacity = refl;
      },
    )

-- a slice that is written back into its vector whole
pub written_back : (xs ys : List ℕ) (n : ℕ) → length xs ≡ n → take n (xs ++ ys) ≡ xs
written_back xs ys n e = grind (arith, common_steps)
