-- The image of objects.
use Rattle.std.specs.Prelude.{ℕ, ◌+◌, not, ◌&&◌, ◌==◌, Bool, if◌then◌else◌, List, [], ◌∷◌, ◌++◌, length, map, take}
use Rattle.std.specs.List.{filter}
use Rattle.std.specs.Option.{unwrap_or}
use Rattle.obj_file.specs.declared.object.Object.{Object}
use Rattle.obj_file.specs.declared.object.Spot3.{Spot3}
use Rattle.obj_file.specs.declared.image.Image.{Image}
use Rattle.obj_file.specs.declared.image.Segment.{Segment}
use Rattle.obj_file.specs.declared.image.Spot4.{Spot4}
use Rattle.obj_linker.specs.declared.parts.SymbolId.{SymbolId}
use Rattle.obj_linker.specs.declared.plan.Plan.{Plan}
use Rattle.obj_linker.specs.Symbols.{numbered, symbol_id, sig_at, find, Named, ids, is_some_text}
use Rattle.obj_linker.specs.Placement.{spot_of, own_address, outer_at, stub_at, plan_of}
use Rattle.obj_linker.specs.Fixing.{meant_by, fixed_part}

-- the code of the gates between C and legacy code, in bytes; functions are told by their signatures
pub record Gates : Type 0 where
  pub start : (main : ℕ) → List ℕ
  pub landing : List ℕ
  pub outer : (sig : List ℕ) → (inner at : ℕ) → List ℕ
  pub stub : (sig : List ℕ) → (target at : ℕ) → List ℕ

-- `main`
abbrev pub main_name : List ℕ
main_name = 109 ∷ 97 ∷ 105 ∷ 110 ∷ []

abbrev pub main_id : Named → SymbolId
main_id defined = unwrap_or (find main_name defined) (symbol_id 0 0)

-- ---- segments

abbrev pub segment : ℕ → List ℕ → Segment
segment at bytes = record { at = at; bytes = bytes }

abbrev pub start_at : ℕ
start_at = 0x0100_0000

abbrev pub landing_at : ℕ
landing_at = 0x0100_0400

abbrev pub outer_segment : Gates → List Object → Plan → ℕ → SymbolId → List Segment
outer_segment g os plan number id = segment (outer_at number) (g.outer (sig_at os id) (own_address os plan id) (outer_at number)) ∷ []

abbrev pub stub_segment : Gates → List Object → Plan → ℕ → SymbolId → List Segment
stub_segment g os plan number id = segment (stub_at plan number) (g.stub (sig_at os id) (own_address os plan (meant_by os plan id)) (stub_at plan number)) ∷ []

-- a part that is not empty
abbrev pub part_segment : ℕ → List ℕ → List Segment
part_segment at bytes = if length bytes == 0 then [] else segment at bytes ∷ []

abbrev pub code_part : List Object → Plan → ℕ → Object → List Segment
code_part os plan object o = part_segment (spot_of plan object).code (fixed_part os plan object o 1)

abbrev pub code_segment : List Object → Plan → ℕ → Object → List Segment
code_segment os plan object o = if o.legacy then [] else code_part os plan object o

abbrev pub legacy_segment : List Object → Plan → ℕ → Object → List Segment
legacy_segment os plan object o = if o.legacy then code_part os plan object o else []

abbrev pub data_segment : List Object → Plan → ℕ → Object → List Segment
data_segment os plan object o = part_segment (spot_of plan object).stored (fixed_part os plan object o 2)

-- in order of addresses: gates, instrumented code, stubs, legacy code, data
abbrev pub segments : Gates → List Object → Plan → List Segment
segments g os plan =
    segment start_at (g.start (own_address os plan (main_id plan.definitions)))
    ∷ segment landing_at g.landing
    ∷ numbered (outer_segment g os plan) 0 (ids plan.functions)
    ++ numbered (code_segment os plan) 0 os
    ++ numbered (stub_segment g os plan) 0 (ids plan.stubs)
    ++ numbered (legacy_segment os plan) 0 os
    ++ numbered (data_segment os plan) 0 os

-- ---- files and places

-- an object whose file is told: it has a name, and there are places in it
abbrev pub has_file : Object → Bool
has_file o = is_some_text o.file && not (length o.places == 0)

abbrev pub files : List Object → List (List ℕ)
files os = map (λ o. o.file) (filter has_file os)

abbrev pub place_at : (code file : ℕ) → Spot3 → Spot4
place_at code file p = record { at = code + p.offset; file = file; line = p.line; col = p.col; kind = p.kind; size = p.size }

abbrev pub places_in : Plan → ℕ → Object → (file : ℕ) → List Spot4
places_in plan object o file = if has_file o then map (place_at (spot_of plan object).code file) o.places else []

-- the places of an object, whose file has the number of files before it
abbrev pub places_of : List Object → Plan → ℕ → Object → List Spot4
places_of os plan object o = places_in plan object o (length (files (take object os)))

abbrev pub places : List Object → Plan → List Spot4
places os plan = numbered (places_of os plan) 0 os

-- ---- the image

abbrev pub image_with : Gates → List Object → Plan → Image
image_with g os plan = record { outers = length plan.functions; segments = segments g os plan; files = files os; places = places os plan }

-- the image of objects that have one
abbrev pub image_of : Gates → List Object → Image
image_of g os = image_with g os (plan_of os)
