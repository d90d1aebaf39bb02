-- The plan of a source: where its globals stand, the bytes of its data, and the frame of each function with a body.
use Rattle.std.specs.Prelude.{ℕ, ◌≤◌, List, map, length, All}
use Rattle.c_tree.specs.declared.tree.Item.{Item}
use Rattle.c_types.specs.Types.{Types, StructType, structs_of}
use Rattle.place_plan.specs.declared.plans.Plan.{Plan}
use Rattle.c_check.specs.declared.checked.CheckedBody.{CheckedBody}
use Rattle.place_plan.specs.Data.{Global, offsets_from}
use Rattle.place_plan.specs.Frames.{Variable, frame_plan}
use Rattle.place_plan.specs.Image.{image_of}
use Rattle.place_plan.specs.Locals.{variables_of, CanBePlaced}

abbrev pub planned : List StructType → List Global → (numbers constants literals : List ℕ) → (bodies : List (List Variable)) → List Item → Plan
planned structs globals numbers constants literals bodies items = record {
  globals = offsets_from structs 0 globals;
  image = image_of structs globals numbers constants literals items;
  frames = map (frame_plan structs) bodies;
}

-- ---- by numbers of types

abbrev pub body_variables : Types → CheckedBody → List Variable
body_variables table b = variables_of table b.variables

-- the variables of a function have values, and room in its frame
abbrev pub HasRoom : Types → CheckedBody → Type 0
HasRoom table b = All (CanBePlaced table) b.variables × (length b.variables ≤ 98304) × ((frame_plan (structs_of table) (body_variables table b)).size ≤ 1048576)
