-- What the linker makes of code: each field holds the value of its fix-up.
use Rattle.std.specs.Prelude.{ℕ, ◌+◌, ◌==◌, Bool, true, false, if◌then◌else◌, IsTrue, ℤ, pos, List, map}
use Rattle.std.specs.List.{fold}
use Rattle.obj_file.specs.declared.object.Fix.{Fix}
use Rattle.fat_ir.specs.declared.program.FatFun.{FatFun}
use Rattle.fat_ir.specs.Functions.{Parameter}
use Rattle.fat_ir.specs.Step.{Located, ObjectAt, FunctionAt}
use Rattle.step_code.specs.Steps.{Plan}
use Rattle.step_code.specs.Functions.{Layout}
use Rattle.code_emit.specs.declared.fields.Field.{Field}
use Rattle.code_emit.specs.Unlinked.{label_at, fields_of_steps, steps_at}
use Rattle.obj_file.specs.declared.object.Object.{Object}
use Rattle.obj_linker.specs.declared.plan.Plan.{Plan as Link}
use Rattle.obj_linker.specs.Symbols.{symbol_id, name_at}
use Rattle.obj_linker.specs.Fixing.{value_of, fits, field_bytes, with_field, seen_address, meant_by}

-- ---- symbols

abbrev pub located_at : (function : Bool) → ℕ → Located
located_at true a = FunctionAt a
located_at false a = ObjectAt a

-- a plan whose symbols stand at addresses, some of them functions
abbrev pub with_symbols : Plan → (is_function : ℕ → Bool) → (address : ℕ → ℕ) → Plan
with_symbols p is_function address = record {
  home = p.home;
  is_bounds = p.is_bounds;
  spare = p.spare;
  exit = p.exit;
  pointer = p.pointer;
  located = λ s. located_at (is_function s) (address s);
}

-- before the link each symbol stands at 0
abbrev pub unlinked_plan : Plan → (is_function : ℕ → Bool) → Plan
unlinked_plan p is_function = with_symbols p is_function (λ s. 0)

-- labels have offsets in the part of code, and after the link addresses
abbrev pub linked_layout : Plan → (units : ℕ) → (first last : ℕ → ℕ) → (code : ℕ) → (labels : List ℕ) → Layout
linked_layout p units first last code labels = record {
  plan = p;
  units = units;
  first = first;
  last = last;
  label_at = λ k. code + label_at labels k;
}

-- ---- fix-ups

-- a field of code as a fix-up: relative, or absolute in 4 bytes, and nothing is added
abbrev pub fix_of : Field → Fix
fix_of f = record { part = 1; offset = f.offset; form = if f.relative then 2 else 1; symbol = f.symbol; addend = pos 0 }

-- those of a function that begins at an offset
abbrev pub fixes_of_function : Plan → (is_function : ℕ → Bool) → FatFun → List Parameter → (units at : ℕ) → List Fix
fixes_of_function p is_function f parameters units at =
    map fix_of (fields_of_steps (unlinked_plan p is_function) (steps_at (unlinked_plan p is_function) f parameters units at) f.steps)

-- the part of code stands at an address; calls see the inner entries of functions, and all else the addresses of symbols
module _ (code : ℕ) (entry_at address : ℕ → ℕ) where
  abbrev pub fix_target : Fix → ℕ
  fix_target f = if f.form == 2 then entry_at f.symbol else address f.symbol

  abbrev pub fix_value : Fix → ℤ
  fix_value f = value_of (fix_target f) (code + f.offset) f

  abbrev pub Fits : Fix → Type 0
  Fits f = IsTrue (fits f.form (fix_value f))

  abbrev pub filled : List ℕ → Fix → List ℕ
  filled bytes f = with_field bytes f.offset (field_bytes f.form (fix_value f))

  abbrev pub all_filled : List ℕ → List Fix → List ℕ
  all_filled bytes fixes = fold filled bytes fixes

-- ---- the linker

-- where an object's code sees a symbol: at a call the inner entry of a C function and the stub of a legacy function; elsewhere its address
abbrev pub seen_in : List Object → Link → (object : ℕ) → (call : Bool) → (symbol : ℕ) → ℕ
seen_in os link object call symbol =
    seen_address os link call (name_at os (symbol_id object symbol)) (meant_by os link (symbol_id object symbol))
