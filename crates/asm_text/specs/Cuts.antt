-- Texts cut at a byte.
use Rattle.std.specs.Prelude.{ℕ, ◌+◌, Bool, nat_eq, List, [], length, Option, Some, None}
use Rattle.std.specs.List.{slice_split}

abbrev pub is : ℕ → ℕ → Bool
is at b = nat_eq b at

-- the parts of what is left, if anything is
abbrev pub parts_left : ℕ → Option (List ℕ) → List (List ℕ)
parts_left at None = []
parts_left at (Some text) = slice_split (is at) text

-- more than the bytes that are left
abbrev pub room_of : Option (List ℕ) → ℕ
room_of None = 0
room_of (Some text) = length text + 1
