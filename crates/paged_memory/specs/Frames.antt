-- How pages and their frames stand for a memory. All but the last definitions speak of any one-to-one map from pages to frames.
use Rattle.std.specs.Prelude.{◌≡◌, ℕ, ◌+◌, ◌*◌, ◌/◌, ◌%◌, ◌^◌, ◌<◌, ◌≤◌, nat_lt, ◌==◌, if◌then◌else◌, List, [], ◌∷◌, ◌++◌, length, Option, Some, None, slice_index, map, take, drop, slice_range}
use Rattle.std.specs.List.{find}
use Rattle.std.specs.List.Sorted.{IsNonDecreasingBy}
use Rattle.paged_memory.specs.declared.slots.Slot.{Slot}
use Rattle.mx_base.specs.Memory.{Bytes}
use Rattle.paged_memory.specs.Touched.{touched_with}
use Rattle.paged_memory.specs.Paged.{Paged}

-- the byte at a place of a frame: there are zeros where no frame is
abbrev pub byte_in : List ℕ → Option ℕ → ℕ → ℕ
byte_in frames None at = 0
byte_in frames (Some frame) at = slice_index frames (frame * 4096 + at)

-- the byte at each address
abbrev pub byte_under : (ℕ → Option ℕ) → List ℕ → Bytes
byte_under frame_at frames = λ a. byte_in frames (frame_at (a / 4096)) (a % 4096)

-- no two pages share a frame
abbrev pub IsOneToOne : (ℕ → Option ℕ) → Type 0
IsOneToOne frame_at = (p q f : ℕ) → frame_at p ≡ Some f → frame_at q ≡ Some f → p ≡ q

-- each frame lies whole among the frames
abbrev pub LieWithin : (ℕ → Option ℕ) → List ℕ → Type 0
LieWithin frame_at frames = (p f : ℕ) → frame_at p ≡ Some f → f * 4096 + 4096 ≤ length frames

-- these bytes in place of those from a place on
abbrev pub put_at : List ℕ → ℕ → List ℕ → List ℕ
put_at xs at bytes = take at xs ++ (bytes ++ drop (at + length bytes) xs)

-- ---- frames that slots give to pages

abbrev pub frame_number : Option Slot → Option ℕ
frame_number None = None
frame_number (Some s) = Some s.frame

abbrev pub frame_in : List Slot → ℕ → Option ℕ
frame_in slots page = frame_number (find (λ s. s.page == page) slots)

-- slots in the order of their pages
abbrev pub AreByPage : List Slot → Type 0
AreByPage slots = IsNonDecreasingBy (λ s. s.page) slots

abbrev pub pages_in : List Slot → List ℕ
pages_in slots = map (λ s. s.page) slots

-- a slot among others by page
abbrev pub slot_placed : Slot → List Slot → List Slot
slot_placed n [] = n ∷ []
slot_placed n (s ∷ ss) = if nat_lt n.page s.page then n ∷ s ∷ ss else s ∷ slot_placed n ss

-- slots stand by page, no two pages share a frame, and frames that no page has are zeros
pub record IsSound (slots : List Slot) (frames : List ℕ) (capacity : ℕ) : Type 0 where
  pub room : length frames ≡ capacity * 4096
  pub few : length slots ≤ capacity
  pub fits : capacity < 2 ^ 32
  pub sorted : AreByPage slots
  pub below : (p f : ℕ) → frame_in slots p ≡ Some f → f < length slots
  pub apart : IsOneToOne (frame_in slots)
  pub clean : (i : ℕ) → length slots * 4096 ≤ i → slice_index frames i ≡ 0

-- the pages that had a frame have it still
abbrev pub KeepsFrames : List Slot → List Slot → Type 0
KeepsFrames old new = (p f : ℕ) → frame_in old p ≡ Some f → frame_in new p ≡ Some f

-- a page has a frame now, and no byte is another one
pub record HasFrame (old new : List Slot) (page frame : ℕ) : Type 0 where
  pub there : frame_in new page ≡ Some frame
  pub kept : KeepsFrames old new
  pub pages : pages_in new ≡ touched_with page (pages_in old)
  pub sound : (frames : List ℕ) (capacity : ℕ) → IsSound old frames capacity → length new ≤ capacity → IsSound new frames capacity
  pub same : (frames : List ℕ) (capacity : ℕ) → IsSound old frames capacity → byte_under (frame_in new) frames ≡ byte_under (frame_in old) frames

-- ---- what callers see

abbrev pub page_of : List ℕ → Slot → ℕ × List ℕ
page_of frames s = (s.page, slice_range frames (s.frame * 4096) (s.frame * 4096 + 4096))

abbrev pub paged_of : List Slot → List ℕ → ℕ → Paged
paged_of slots frames capacity = record { pages = map (page_of frames) slots; capacity = capacity }
