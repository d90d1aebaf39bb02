-- The text of the code of objects and images.
use Rattle.std.specs.Prelude.{◌≡◌, ℕ, Bool, ◌||◌, if◌then◌else◌, List, [], ◌∷◌, ◌++◌}
use Rattle.mx_base.specs.Regions.{is_in, instrumented_code, legacy_code}
use Rattle.disasm.specs.Listing.{Lists}
use Rattle.obj_file.specs.declared.image.Image.{Image}
use Rattle.obj_file.specs.declared.image.Segment.{Segment}
use Rattle.obj_file.specs.declared.object.Object.{Object}

-- an address of code
abbrev pub is_code_at : ℕ → Bool
is_code_at at = is_in instrumented_code at || is_in legacy_code at

abbrev pub code_of : Segment → List (List ℕ)
code_of s = if is_code_at s.at then s.bytes ∷ [] else []

abbrev pub codes_of : List Segment → List (List ℕ)
codes_of [] = []
codes_of (s ∷ rest) = code_of s ++ codes_of rest

-- the code parts of an object, and of an image in the order of their addresses
abbrev pub object_codes : Object → List (List ℕ)
object_codes o = o.code ∷ []

abbrev pub image_codes : Image → List (List ℕ)
image_codes v = codes_of v.segments

-- the text has the lines of code parts in turn
pub data IsListing : List (List ℕ) → List ℕ → Type 0 where
  Nothing : IsListing [] []
  Part : (code text : List ℕ) (rest : List (List ℕ)) (more : List ℕ) → Lists code text → IsListing rest more
      → IsListing (code ∷ rest) (text ++ more)

-- the listing of a segment's code was added, if it has code
abbrev pub AddsCode : Segment → List ℕ → List ℕ → Type 0
AddsCode s old new = (text : List ℕ) × IsListing (code_of s) text × (new ≡ old ++ text)
