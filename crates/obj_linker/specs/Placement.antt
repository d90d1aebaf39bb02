-- Where the parts of objects stand, and the stubs between them.
use Rattle.std.specs.Prelude.{ℕ, ◌+◌, ◌-◌, ◌*◌, ◌/◌, Bool, not, ◌&&◌, ◌==◌, if◌then◌else◌, Option, None, Some, List, [], ◌∷◌, length, slice_get, false}
use Rattle.std.specs.List.{fold, flat_map}
use Rattle.std.specs.Option.{unwrap_or}
use Rattle.obj_file.specs.declared.object.Object.{Object}
use Rattle.obj_file.specs.declared.object.Fix.{Fix}
use Rattle.obj_linker.specs.declared.parts.SymbolId.{SymbolId}
use Rattle.obj_linker.specs.declared.parts.Spot.{Spot}
use Rattle.obj_linker.specs.declared.parts.Ends.{Ends}
use Rattle.obj_linker.specs.declared.plan.Plan.{Plan}
use Rattle.obj_linker.specs.Symbols.{numbered, symbol_id, symbol_at, name_at, is_code, is_legacy_function, Named, find, named_by, definitions, functions}

-- the next multiple of a size
abbrev pub aligned : (size at : ℕ) → ℕ
aligned size at = (at + (size - 1)) / size * size

-- ---- parts

-- where parts begin: instrumented code, legacy code, and data
abbrev pub starts : Ends
starts = record { code = 0x0200_0000; legacy = 0x1200_0000; stored = 0x2000_0000 }

-- an object's parts stand at the next multiples of 16 after the parts of their kinds
abbrev pub spot_after : Ends → Object → Spot
spot_after ends o = record { code = aligned 16 (if o.legacy then ends.legacy else ends.code); stored = aligned 16 ends.stored }

abbrev pub ends_with : Spot → Ends → Object → Ends
ends_with spot ends o = record {
  code = if o.legacy then ends.code else spot.code + length o.code;
  legacy = if o.legacy then spot.code + length o.code else ends.legacy;
  stored = spot.stored + length o.stored;
}

abbrev pub ends_after : Ends → Object → Ends
ends_after ends o = ends_with (spot_after ends o) ends o

abbrev pub spots_after : Ends → List Object → List Spot
spots_after ends [] = []
spots_after ends (o ∷ os) = spot_after ends o ∷ spots_after (ends_after ends o) os

-- the addresses of each object's parts
abbrev pub spots : List Object → List Spot
spots os = spots_after starts os

-- the addresses after the last parts
abbrev pub ends_of : List Object → Ends
ends_of os = fold ends_after starts os

-- ---- stubs

-- a relative fix-up of an instrumented object
abbrev pub is_call : Object → Fix → Bool
is_call o f = not o.legacy && (f.form == 2)

abbrev pub leads_to_legacy : List Object → Option SymbolId → Bool
leads_to_legacy os None = false
leads_to_legacy os (Some id) = is_legacy_function os id

-- the symbol of a relative fix-up of an instrumented object, where that names a legacy function
abbrev pub stub_call : List Object → Named → ℕ → Object → Fix → List SymbolId
stub_call os defined object o f =
    if is_call o f && leads_to_legacy os (find (name_at os (symbol_id object f.symbol)) defined) then symbol_id object f.symbol ∷ [] else []

abbrev pub stub_calls_of : List Object → Named → ℕ → Object → List SymbolId
stub_calls_of os defined object o = flat_map (stub_call os defined object o) o.fixes

-- the calls of legacy functions, by object and fix-up order
abbrev pub stub_calls : List Object → Named → List SymbolId
stub_calls os defined = numbered (stub_calls_of os defined) 0 os

-- the size of a stub and of an outer entry
abbrev pub gate_room : ℕ
gate_room = 128

abbrev pub stub_start : List Object → ℕ
stub_start os = aligned gate_room (ends_of os).code

-- the address after the last stub, or without one after the last instrumented part
abbrev pub code_end : ℕ → (ends first : ℕ) → ℕ
code_end stubs ends first = if stubs == 0 then ends else first + gate_room * stubs

-- ---- the plan of an image

abbrev pub plan_with : List Object → Named → Plan
plan_with os defined = record {
  definitions = defined;
  functions = functions os;
  stubs = named_by os (stub_calls os defined);
  spots = spots os;
  stubs_at = stub_start os;
}

abbrev pub plan_of : List Object → Plan
plan_of os = plan_with os (definitions os)

-- ---- addresses

abbrev pub no_spot : Spot
no_spot = record { code = 0; stored = 0 }

abbrev pub spot_of : Plan → ℕ → Spot
spot_of plan object = unwrap_or (slice_get plan.spots object) no_spot

-- where a definition itself stands: of a C function its inner entry
abbrev pub own_address : List Object → Plan → SymbolId → ℕ
own_address os plan id = (if is_code os id then (spot_of plan id.object).code else (spot_of plan id.object).stored) + (symbol_at os id).offset

abbrev pub outer_at : ℕ → ℕ
outer_at number = 0x0101_0000 + gate_room * number

abbrev pub stub_at : Plan → ℕ → ℕ
stub_at plan number = plan.stubs_at + gate_room * number
