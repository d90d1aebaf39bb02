-- Pages that are kept stay right, and tell where bytes stand.
use Rattle.std.proofs.Common.{◌≡◌, ℕ, ◌+◌, ◌*◌, ◌/◌, ◌%◌, ◌^◌, ◌<◌, ◌≤◌, true, None, Some, List, set, sym, ap, ◌∙◌, subst, arith}
use Rattle.std.proofs.lemmas.List.{length-set}
use Rattle.std.proofs.lemmas.List.Elements.{All-weaker, All-set}
use Rattle.mx_base.specs.Memory.{first_refused}
use Rattle.mx_base.specs.Regions.{is_writable, is_readable}
use Rattle.paged_memory.specs.declared.slots.Slot.{Slot}
use Rattle.paged_memory.specs.Frames.{frame_in, KeepsFrames}
use Rattle.paged_memory.specs.Known.{IsKnown, IsOpen, AreKnown, StandAt}
use Rattle.paged_memory.proofs.Regions.{refused-none, readable_writable, writable_in_page}

known_still : (old new : List Slot) → KeepsFrames old new → (k : Slot) → IsKnown old k → IsKnown new k
known_still old new kept k is page = ((kept k.page k.frame (is page).0), (is page).1)

pub known_kept : (old new known : List Slot) → KeepsFrames old new → AreKnown old known → AreKnown new known
known_kept old new known kept is = record { count = is.count; held = All-weaker (IsKnown old) (IsKnown new) (known_still old new kept) known is.held }

pub known_put : (slots known : List Slot) (place : ℕ) (k : Slot) → IsKnown slots k → AreKnown slots known → AreKnown slots (set known place k)
known_put slots known place k is held = record { count = length-set known place k ∙ held.count; held = All-set (IsKnown slots) known place k is held.held }

-- a page with an address that can be written
pub open_page : (a : ℕ) → is_writable a ≡ true → IsOpen (a / 4096)
open_page a e x same = writable_in_page a x same ∙ e

-- where bytes stand by a kept page
pub stands : (slots : List Slot) (k : Slot) (a n : ℕ) → IsKnown slots k → k.page ≡ a / 4096 → a < 2 ^ 64 → a % 4096 + n ≤ 4096 → StandAt slots a n (k.frame * 4096 + a % 4096)
stands slots k a n is same below inside =
    let low : k.page < 2 ^ 52 = omega (arith, same, below) in
    let frame : (k.frame * 4096 + a % 4096) / 4096 ≡ k.frame = omega arith in
    record {
      inside = inside;
      there = ap (frame_in slots) (sym same) ∙ (is low).0 ∙ ap Some (sym frame);
      place = omega arith;
      writable = subst IsOpen same (is low).1;
    }

-- bytes that stand so may be written, and read
pub stand_writable : (slots : List Slot) (a n at : ℕ) → StandAt slots a n at → first_refused is_writable n a ≡ None
stand_writable slots a n at s =
    let inside = s.inside in
    refused-none is_writable n a (λ x from below. s.writable x (omega (arith, inside, from, below)))

pub stand_readable : (slots : List Slot) (a n at : ℕ) → StandAt slots a n at → first_refused is_readable n a ≡ None
stand_readable slots a n at s =
    let inside = s.inside in
    refused-none is_readable n a (λ x from below. readable_writable x (s.writable x (omega (arith, inside, from, below))))
