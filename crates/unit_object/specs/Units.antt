-- The code of a unit's functions, one behind the other, before the link and after it.
use Rattle.std.specs.Prelude.{ℕ, ◌+◌, Bool, List, [], ◌∷◌, ◌++◌, length, slice_set}
use Rattle.obj_file.specs.declared.object.Spot3.{Spot3}
use Rattle.fat_ir.specs.declared.program.FatFun.{FatFun}
use Rattle.fat_ir.specs.Functions.{Parameter}
use Rattle.step_code.specs.Steps.{Plan}
use Rattle.step_code.specs.Functions.{Layout, bytes_of_function}
use Rattle.code_emit.specs.declared.fields.Field.{Field}
use Rattle.code_emit.specs.Unlinked.{unlinked_function, function_labels, fields_of_steps, spots_of_steps, steps_at}
use Rattle.linked_code.specs.Filled.{unlinked_plan, with_symbols, linked_layout}

-- a function with what its code goes by: its plan, its parameters, how many words of the control stack its frame has, a list with room for
-- its labels, and the first and the last step of each value's span
pub record Coded : Type 0 where
  pub fun : FatFun
  pub plan : Plan
  pub parameters : List Parameter
  pub units : ℕ
  pub labels : List ℕ
  pub first : ℕ → ℕ
  pub last : ℕ → ℕ

module _ (is_function : ℕ → Bool) where
  abbrev pub plan_before : Coded → Plan
  plan_before c = unlinked_plan c.plan is_function

  -- ---- a function that begins at an offset of the part of code

  abbrev pub labels_from : ℕ → Coded → List ℕ
  labels_from at c = function_labels (plan_before c) c.fun c.parameters c.units at c.labels

  abbrev pub bytes_from : ℕ → Coded → List ℕ
  bytes_from at c = unlinked_function (plan_before c) c.fun c.parameters c.units (labels_from at c) at

  abbrev pub fields_from : ℕ → Coded → List Field
  fields_from at c = fields_of_steps (plan_before c) (steps_at (plan_before c) c.fun c.parameters c.units at) c.fun.steps

  abbrev pub spots_from : ℕ → Coded → List Spot3
  spots_from at c = spots_of_steps (plan_before c) (steps_at (plan_before c) c.fun c.parameters c.units at) c.fun.steps

  -- the offset behind it
  abbrev pub past : ℕ → Coded → ℕ
  past at c = at + length (bytes_from at c)

  -- ---- functions, one behind the other

  abbrev pub unit_bytes : ℕ → List Coded → List ℕ
  unit_bytes at [] = []
  unit_bytes at (c ∷ cs) = bytes_from at c ++ unit_bytes (past at c) cs

  abbrev pub unit_fields : ℕ → List Coded → List Field
  unit_fields at [] = []
  unit_fields at (c ∷ cs) = fields_from at c ++ unit_fields (past at c) cs

  abbrev pub unit_spots : ℕ → List Coded → List Spot3
  unit_spots at [] = []
  unit_spots at (c ∷ cs) = spots_from at c ++ unit_spots (past at c) cs

  -- the offset at which each function begins, noted at its name in a list
  abbrev pub starts_noted : ℕ → List Coded → List ℕ → List ℕ
  starts_noted at [] starts = starts
  starts_noted at (c ∷ cs) starts = starts_noted (past at c) cs (slice_set starts c.fun.name at)

  -- ---- after the link, where the part of code stands at an address

  module _ (code : ℕ) (entry_at address : ℕ → ℕ) where
    abbrev pub layout_from : ℕ → Coded → Layout
    layout_from at c = linked_layout (with_symbols c.plan is_function address) c.units c.first c.last code (labels_from at c)

    abbrev pub linked_from : ℕ → Coded → List ℕ
    linked_from at c = bytes_of_function c.fun c.parameters (layout_from at c) entry_at (code + at)

    abbrev pub linked_unit : ℕ → List Coded → List ℕ
    linked_unit at [] = []
    linked_unit at (c ∷ cs) = linked_from at c ++ linked_unit (past at c) cs
