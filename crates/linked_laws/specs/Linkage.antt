-- What objects say of the two kinds of functions in their image.
use Rattle.std.specs.Prelude.{ℕ, Bool, List, length, slice_get}
use Rattle.std.specs.Option.{unwrap_or}
use Rattle.obj_file.specs.declared.object.Object.{Object}
use Rattle.obj_file.specs.Machine.{Reading}
use Rattle.legacy_calls.specs.Legacy.{Linkage}
use Rattle.obj_linker.specs.declared.parts.SymbolId.{SymbolId}
use Rattle.obj_linker.specs.Symbols.{ids, place_of, sig_at, symbol_id}
use Rattle.obj_linker.specs.Placement.{plan_of, own_address, stub_at}
use Rattle.obj_linker.specs.Fixing.{meant_by}
use Rattle.obj_linker.specs.Gating.{told_signature}
use Rattle.obj_linker.specs.Image.{main_name}

-- the symbol of a C function by its number, and the symbol by which C calls a legacy function, by the number of its stub
abbrev pub function_at : List Object → ℕ → SymbolId
function_at os f = unwrap_or (slice_get (ids (plan_of os).functions) f) (symbol_id 0 0)

abbrev pub called_at : List Object → ℕ → SymbolId
called_at os g = unwrap_or (slice_get (ids (plan_of os).stubs) g) (symbol_id 0 0)

-- where the inner entry of a C function stands, and where a stub
abbrev pub inner_of : List Object → ℕ → ℕ
inner_of os f = own_address os (plan_of os) (function_at os f)

abbrev pub stub_of : List Object → ℕ → ℕ
stub_of os g = stub_at (plan_of os) g

-- with the reader of instructions and BNDPRESERVE by which the image is run: how many C functions there are and how many legacy functions
-- C calls, their signatures, and where each legacy function begins
abbrev pub linkage_of : (List ℕ → Reading) → (preserve : Bool) → List Object → Linkage
linkage_of reads preserve os = record {
  reads = reads;
  preserve = preserve;
  outers = length (plan_of os).functions;
  own = λ f. told_signature (sig_at os (function_at os f));
  stubs = length (plan_of os).stubs;
  legacy = λ g. told_signature (sig_at os (called_at os g));
  begins = λ g. own_address os (plan_of os) (meant_by os (plan_of os) (called_at os g));
}

-- the number of `main`
abbrev pub main_of : List Object → ℕ
main_of os = place_of main_name (plan_of os).functions
