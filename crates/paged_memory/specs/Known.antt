-- Pages that were written and are kept apart, so that their bytes are found with one look.
use Rattle.std.specs.Prelude.{◌≡◌, ℕ, ◌+◌, ◌/◌, ◌%◌, ◌^◌, ◌<◌, ◌≤◌, true, List, Some, length}
use Rattle.std.specs.List.{All}
use Rattle.mx_base.specs.Regions.{is_writable}
use Rattle.paged_memory.specs.declared.slots.Slot.{Slot}
use Rattle.paged_memory.specs.Frames.{frame_in}

-- how many pages are kept at most
abbrev pub known_count : ℕ
known_count = 256

-- each address of the page can be written
abbrev pub IsOpen : ℕ → Type 0
IsOpen page = (x : ℕ) → x / 4096 ≡ page → is_writable x ≡ true

-- a kept page has its frame, and can be written; a number past the last page stands for none
abbrev pub IsKnown : List Slot → Slot → Type 0
IsKnown slots k = k.page < 2 ^ 52 → (frame_in slots k.page ≡ Some k.frame) × IsOpen k.page

pub record AreKnown (slots known : List Slot) : Type 0 where
  pub count : length known ≡ known_count
  pub held : All (IsKnown slots) known

-- n bytes at an address stand at this place of the frames: in one page, which can be written
pub record StandAt (slots : List Slot) (a n at : ℕ) : Type 0 where
  pub inside : a % 4096 + n ≤ 4096
  pub there : frame_in slots (a / 4096) ≡ Some (at / 4096)
  pub place : at % 4096 ≡ a % 4096
  pub writable : IsOpen (a / 4096)
