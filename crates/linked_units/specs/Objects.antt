-- An object of a unit's functions, and a function among them.
use Rattle.std.specs.Prelude.{◌≡◌, ℕ, Bool, true, false, List, ◌∷◌, ◌++◌, length, map}
use Rattle.std.specs.List.{All}
use Rattle.obj_file.specs.declared.object.Fix.{Fix}
use Rattle.obj_file.specs.declared.object.Object.{Object}
use Rattle.code_emit.specs.declared.fields.Field.{Field}
use Rattle.linked_code.specs.Filled.{fix_of, with_symbols, linked_layout}
use Rattle.linked_code.specs.Labelled.{LabelsFit}
use Rattle.obj_linker.specs.Symbols.{is_some_text}
use Rattle.step_code.specs.Functions.{Layout}
use Rattle.unit_object.specs.Units.{Coded, fields_from, labels_from, unit_bytes, unit_fields, unit_spots}

-- its code is that of the functions, one behind the other; each of their fields has a fix-up, and those of data come behind them; it tells
-- its file, and the places of the functions' checks
pub record IsUnit (is_function : ℕ → Bool) (unit : List Coded) (o : Object) : Type 0 where
  pub instrumented : o.legacy ≡ false
  pub code : o.code ≡ unit_bytes is_function 0 unit
  pub stored : List Fix
  pub fixes : o.fixes ≡ map fix_of (unit_fields is_function 0 unit) ++ stored
  pub of_data : All (λ (f : Fix). f.part ≡ 2) stored
  pub file : is_some_text o.file ≡ true
  pub places : o.places ≡ unit_spots is_function 0 unit

-- a function of a unit stands at an offset: behind those before it
pub record StandsAt (is_function : ℕ → Bool) (unit : List Coded) (at : ℕ) (c : Coded) : Type 0 where
  pub before : List Coded
  pub behind : List Coded
  pub is : unit ≡ before ++ (c ∷ behind)
  pub offset : at ≡ length (unit_bytes is_function 0 before)

-- its labels are noted in a list with room for each, which begins as zeros; no two are the same
pub record LabelsAreNoted (c : Coded) : Type 0 where
  pub fit : LabelsFit c.plan.exit (length c.labels) c.fun.steps
  pub zeros : All (λ (n : ℕ). n ≡ 0) c.labels

-- how it is laid out after the link, where the part of code and symbols stand at addresses and values have these spans
abbrev pub layout_at : (is_function : ℕ → Bool) → (code : ℕ) → (address : ℕ → ℕ) → (first last : ℕ → ℕ) → (at : ℕ) → Coded → Layout
layout_at is_function code address first last at c =
    linked_layout (with_symbols c.plan is_function address) c.units first last code (labels_from is_function at c)

-- its calls lead where the linker has the symbols that they name
abbrev pub CallsLead : (is_function : ℕ → Bool) → (at : ℕ) → Coded → (seen entry_at : ℕ → ℕ) → Type 0
CallsLead is_function at c seen entry_at =
    All (λ (f : Field). f.relative ≡ true → seen f.symbol ≡ entry_at f.symbol) (fields_from is_function at c)
