-- The room of a function: a scalar parameter or local to which no `&` is applied is private, the others stand in the data frame in order, each at
-- the next multiple of its alignment. At most 64 are private, and the frame has at most 1,048,576 bytes, a multiple of 16.
use Rattle.std.specs.Prelude.{ℕ, ◌+◌, ◌==◌, nat_lt, min, Bool, false, not, ◌&&◌, ◌||◌, if◌then◌else◌, is_some, List, [], ◌∷◌, Some}
use Rattle.c_types.specs.Types.{CType}
use Rattle.c_check_rules.specs.declared.names.StructInfo.{StructInfo}
use Rattle.c_check_rules.specs.Conversions.{is_scalar}
use Rattle.c_check_statements.specs.declared.state.BodyVariable.{BodyVariable}
use Rattle.c_check_statements.specs.declared.frames.Room.{Room}
use Rattle.c_check_statements.specs.Placing.{kind_placed}

abbrev pub frame_limit : ℕ
frame_limit = 1048576

abbrev pub is_private : BodyVariable → Bool
is_private v = is_scalar v.kind && not v.taken

-- how many variables are private, counted to 65, and the first byte of the frame after the others; None where that is over the limit
abbrev pub no_room : Room
no_room = record { privates = 0; free = Some 0 }

abbrev pub room_after : List StructInfo → Room → BodyVariable → Room
room_after structs room v = if is_private v then record room { privates = min 65 (room.privates + 1) } else record room { free = kind_placed frame_limit structs room.free v.kind }

abbrev pub room_of : List StructInfo → Room → List BodyVariable → Room
room_of structs room [] = room
room_of structs room (v ∷ more) = room_of structs (room_after structs room v) more

abbrev pub is_large : Room → Bool
is_large room = nat_lt 64 room.privates || not (is_some room.free)

-- whether a number is in a list
abbrev pub is_among : ℕ → List ℕ → Bool
is_among n [] = false
is_among n (m ∷ more) = (m == n) || is_among n more

-- of these marks, numbered from the first number on, those stand that stood, and those of the numbers in a list
abbrev pub marked : (first : ℕ) → List ℕ → List Bool → List Bool
marked first numbers [] = []
marked first numbers (mark ∷ more) = (mark || is_among first numbers) ∷ marked (first + 1) numbers more

-- the variables of these types, numbered from the first number on, of which `&` is applied to those of the taken numbers
abbrev pub variables_from : (number : ℕ) → (taken : List ℕ) → List CType → List BodyVariable
variables_from number taken [] = []
variables_from number taken (kind ∷ more) = record { kind = kind; taken = is_among number taken } ∷ variables_from (number + 1) taken more
