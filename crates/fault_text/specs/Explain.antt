-- The line that tells why a run stopped.
use Rattle.std.specs.Prelude.{ℕ, ◌==◌, false, if◌then◌else◌, Option, None, Some, List, [], ◌++◌, codes, find, slice_get}
use Rattle.std.specs.Fmt.{digits, decimal}
use Rattle.mx_base.specs.declared.stops.Breach.{Breach}
use Rattle.mx_base.specs.declared.stops.Stop.{Stop}
use Rattle.mx_base.specs.declared.stops.Stop.TheVariants.{Exit, Bounds, Unmapped, Divide, Undefined, StackOver, OutOfTurns, Strayed, NoTable, NoFrames, ReadFault, WriteFault}
use Rattle.obj_file.specs.declared.image.Image.{Image}
use Rattle.obj_file.specs.declared.image.Spot4.{Spot4}

-- a number in lower-case hexadecimal digits without leading zeros
abbrev pub hex : ℕ → List ℕ
hex n = digits 16 false n

-- the value that was checked, and the bounds that it left
abbrev pub bounds_text : Breach → List ℕ
bounds_text b = codes "bounds: 0x" ++ hex b.value ++ codes " outside [0x" ++ hex b.lb ++ codes ", 0x" ++ hex b.ub ++ codes "]"

-- the access that a check stands for: kind 0 is not known, 1 a read, 2 a write; its size is in bytes
unfoldable pub access_text : ℕ → ℕ → List ℕ
access_text kind size =
    if kind == 0 then []
    else if kind == 1 then codes ", read of " ++ decimal size
    else codes ", write of " ++ decimal size

-- a place in a file of this name
abbrev pub spot_in : List ℕ → Spot4 → List ℕ
spot_in name spot = access_text spot.kind spot.size ++ codes " at " ++ name ++ codes ":" ++ decimal spot.line ++ codes ":" ++ decimal spot.col

-- the address of an instruction of which no place is told
abbrev pub code_text : ℕ → List ℕ
code_text rip = codes " at code 0x" ++ hex rip

abbrev pub named_text : ℕ → Spot4 → Option (List ℕ) → List ℕ
named_text rip spot (Some name) = spot_in name spot
named_text rip spot None = code_text rip

abbrev pub spot_text : ℕ → List (List ℕ) → Option Spot4 → List ℕ
spot_text rip files (Some spot) = named_text rip spot (slice_get files spot.file)
spot_text rip files None = code_text rip

-- where an instruction stands: its place in the sources, if the image has one for its address
abbrev pub place_text : Image → ℕ → List ℕ
place_text image rip = spot_text rip image.files (find (λ spot. spot.at == rip) image.places)

-- the line without its line feed
abbrev pub text_of : Stop → Image → List ℕ
text_of (Exit code) image = codes "exit " ++ decimal code
text_of (Bounds breach) image = bounds_text breach ++ place_text image breach.rip
text_of (Unmapped at) image = codes "unmapped: 0x" ++ hex at
text_of Divide image = codes "divide"
text_of (Undefined at) image = codes "undefined: 0x" ++ hex at
text_of StackOver image = codes "stack over"
text_of OutOfTurns image = codes "out of turns"
text_of (Strayed at) image = codes "strayed: 0x" ++ hex at
text_of NoTable image = codes "no table"
text_of (NoFrames in_use capacity) image = codes "no frames: " ++ decimal in_use ++ codes " of " ++ decimal capacity
text_of ReadFault image = codes "read fault"
text_of WriteFault image = codes "write fault"

abbrev pub line_of : Stop → Image → List ℕ
line_of stop image = text_of stop image ++ codes "\n"
