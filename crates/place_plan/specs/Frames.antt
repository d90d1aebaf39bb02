-- Where the parameters and locals of a function stand. A scalar to which no `&` is applied is private; the others stand in the data frame in order of
-- declaration, from its lowest address on, each at the next multiple of its alignment, and the frame is rounded up to 16 bytes.
use Rattle.std.specs.Prelude.{ℕ, zero, suc, ◌+◌, Bool, true, false, List, [], ◌∷◌}
use Rattle.c_types.specs.declared.layout.Layout.{Layout}
use Rattle.c_types.specs.Types.{CType, Void, Int, Pointer, Array, Struct, StructType}
use Rattle.c_types.specs.Layouts.{next_multiple, layout_of}
use Rattle.place_plan.specs.declared.plans.Spot.{Spot}
use Rattle.place_plan.specs.declared.plans.Spot.TheVariants.{Private, Frame}
use Rattle.place_plan.specs.declared.plans.FramePlan.{FramePlan}
use Rattle.place_plan.specs.declared.frames.Free.{Free}

-- a parameter or local: its type, and whether `&` is applied to it
pub record Variable : Type 0 where
  pub type : CType
  pub taken : Bool

abbrev pub variable : CType → (taken : Bool) → Variable
variable type taken = record { type = type; taken = taken }

-- how many private values a variable has, if it is private: a number one, a pointer its number and its bounds
abbrev pub scalar_values : CType → ℕ
scalar_values Void = 0
scalar_values (Int kind) = 1
scalar_values (Pointer target) = 2
scalar_values (Array element count) = 0
scalar_values (Struct number) = 0

abbrev pub values_of : (taken : Bool) → CType → ℕ
values_of true type = 0
values_of false type = scalar_values type

-- the next private value and the next byte of the frame that are free
abbrev pub nothing_taken : Free
nothing_taken = record { value = 0; byte = 0 }

-- a variable of so many private values and this layout: where it stands, and what is free after it
abbrev pub spot_at : (values : ℕ) → Layout → Free → Spot
spot_at zero layout free = Frame (next_multiple free.byte layout.align)
spot_at (suc n) layout free = Private free.value

abbrev pub free_after : (values : ℕ) → Layout → Free → Free
free_after zero layout free = record free { byte = next_multiple free.byte layout.align + layout.size }
free_after (suc n) layout free = record free { value = free.value + suc n }

-- variables one after another
abbrev pub spots_from : List StructType → Free → List Variable → List Spot
spots_from structs free [] = []
spots_from structs free (v ∷ more) = spot_at (values_of v.taken v.type) (layout_of structs v.type) free ∷ spots_from structs (free_after (values_of v.taken v.type) (layout_of structs v.type) free) more

abbrev pub free_after_all : List StructType → Free → List Variable → Free
free_after_all structs free [] = free
free_after_all structs free (v ∷ more) = free_after_all structs (free_after (values_of v.taken v.type) (layout_of structs v.type) free) more

abbrev pub frame_plan : List StructType → List Variable → FramePlan
frame_plan structs variables = record { size = next_multiple (free_after_all structs nothing_taken variables).byte 16; spots = spots_from structs nothing_taken variables }
