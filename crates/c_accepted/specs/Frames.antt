-- A layout that is planned by what is known of a source: each variable of a body that is private by the rules stands in a private variable, and each
-- other one in the data frame.
use Rattle.std.specs.Prelude.{◌≡◌, ℕ, ◌+◌, true, false, List, [], ◌∷◌, map, slice_index_or}
use Rattle.c_types.specs.Types.{CType}
use Rattle.c_check_rules.specs.declared.names.StructInfo.{StructInfo}
use Rattle.c_check_statements.specs.declared.state.Body.{Body}
use Rattle.c_check_statements.specs.declared.state.BodyVariable.{BodyVariable}
use Rattle.c_check_statements.specs.Frames.{is_private}
use Rattle.c_check.specs.Standing.{structs_seen}
use Rattle.bounds_plan.specs.laws.Roots.{Begins, ParametersFramed}
use Rattle.bounds_plan.specs.elaboration.Source.{Stand, Private, Frame, FrameLayout, SourceLayout}
use Rattle.bounds_plan.specs.elaboration.Places.{private_values}
use Rattle.bounds_plan.specs.elaboration.Functions.{Defined, no_frame, framed_variables}

abbrev pub StandAs : BodyVariable → Stand → Type 0
StandAs v Private = is_private v ≡ true
StandAs v (Frame offset) = is_private v ≡ false

abbrev pub AllStand : List BodyVariable → List Stand → Type 0
AllStand [] [] = Unit {0}
AllStand [] (s ∷ more) = ⊥
AllStand (v ∷ others) [] = ⊥
AllStand (v ∷ others) (s ∷ more) = StandAs v s × AllStand others more

-- the frames of a layout are those of these bodies, in order
abbrev pub AllPlanned : List Body → List FrameLayout → Type 0
AllPlanned [] [] = Unit {0}
AllPlanned [] (f ∷ more) = ⊥
AllPlanned (b ∷ others) [] = ⊥
AllPlanned (b ∷ others) (f ∷ more) = AllStand b.variables f.stands × AllPlanned others more

-- each function that is defined has its parameters of the data frame among the variables of the frame, with their sizes
abbrev pub AllFramed : List Defined → Type 0
AllFramed [] = Unit {0}
AllFramed (d ∷ more) = ParametersFramed d.function.variables d.function.parameters × AllFramed more

-- ---- functions and their bodies

abbrev pub types_of : List BodyVariable → List CType
types_of = map (λ v. v.kind)

-- what is known of a body is that of a function: its number, and the types of its parameters and locals, by which its private values, the variables of
-- its data frame and the frame's size are those of a frame of the layout
pub record IsOfBody (structs : List StructInfo) (frame : FrameLayout) (b : Body) (d : Defined) : Type 0 where
  pub number : d.number ≡ b.number
  pub known : List StructInfo
  pub earlier : Begins known structs
  pub privates : d.function.privates ≡ private_values (types_of b.variables) frame.stands
  pub variables : d.function.variables ≡ framed_variables (structs_seen known) (types_of b.variables) frame.stands
  pub size : d.function.frame ≡ frame.size

-- the functions that are defined are those of the bodies, in order, each with the frame of its place
abbrev pub AreOfBodies : List StructInfo → SourceLayout → (at : ℕ) → List Defined → List Body → Type 0
AreOfBodies structs layout at [] [] = Unit {0}
AreOfBodies structs layout at [] (b ∷ more) = ⊥
AreOfBodies structs layout at (d ∷ others) [] = ⊥
AreOfBodies structs layout at (d ∷ others) (b ∷ more) = IsOfBody structs (slice_index_or layout.frames at no_frame) b d × AreOfBodies structs layout (at + 1) others more
