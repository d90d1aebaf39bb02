-- What is owed of the functions of units, so that the image of their linked objects is that of a program: homes as they are assigned, and
-- symbols that mean to the program what they mean to the linker.
use Rattle.std.specs.Prelude.{◌≡◌, ◌<◌, ◌≤◌, ℕ, ◌+◌, Bool, true, false, Some, List, length, slice_get}
use Rattle.obj_file.specs.declared.object.Object.{Object}
use Rattle.fat_ir.specs.Step.{Located}
use Rattle.bounds_plan.specs.steps.Code.{fat_function, fat_parameters, most_pairs}
use Rattle.bounds_plan.specs.steps.Compiled.{FitsProgram, compiled}
use Rattle.bounds_plan.specs.meaning.Functions.{FunctionOfC, Linked}
use Rattle.bounds_plan.specs.steps.Sorts.{pairs_of}
use Rattle.reg_assign.specs.declared.homes.Homes.{Homes}
use Rattle.reg_assign.specs.Granted.{AreGranted}
use Rattle.reg_assign.specs.Homes.{AreHomes}
use Rattle.asked_steps.specs.Assigned.{HasSpare}
use Rattle.asked_steps.specs.Trees.{FunctionWithin}
use Rattle.asked_steps.specs.Wishes.{parameters_wish}
use Rattle.call_sigs.specs.Signatures.{Pointer}
use Rattle.legacy_calls.specs.Legacy.{Linkage}
use Rattle.program_laws.specs.Compiled.{kinds_of}
use Rattle.program_laws.specs.Functions.{entries_of, returns_in, takes_in}
use Rattle.obj_linker.specs.Placement.{plan_of, spot_of}
use Rattle.linked_code.specs.Filled.{located_at, seen_in}
use Rattle.linked_laws.specs.Linkage.{inner_of, stub_of}
use Rattle.unit_object.specs.Units.{Coded}
use Rattle.linked_units.specs.Accesses.{AllStandIn, file_in}
use Rattle.linked_units.specs.Objects.{CallsLead, IsUnit, LabelsAreNoted, StandsAt}

-- where a unit's symbols stand in the image
abbrev pub located_in : List Object → (object : ℕ) → (is_function : ℕ → Bool) → ℕ → Located
located_in os object is_function symbol = located_at (is_function symbol) (seen_in os (plan_of os) object false symbol)

-- a function in the unit of an object
pub record IsInUnit (os : List Object) (object : ℕ) (is_function : ℕ → Bool) (at : ℕ) (c : Coded) : Type 0 where
  pub o : Object
  pub there : slice_get os object ≡ Some o
  pub unit : List Coded
  pub is_unit : IsUnit is_function unit o
  pub stands : StandsAt is_function unit at c

-- its code is that of a compiled function, whose values have the homes that were assigned, where its parameters wish for registers. Four
-- words of its frame are behind the homes, and its data frame has at most 64 MB
pub record IsCoded (name : ℕ) (f : FunctionOfC) (c : Coded) : Type 0 where
  pub fun : c.fun ≡ fat_function name f
  pub parameters : c.parameters ≡ fat_parameters f.parameters
  pub homes : Homes
  pub are : AreHomes c.fun homes
  pub spare : HasSpare c.fun homes c.plan
  pub units : c.units ≡ homes.words + 4
  pub short : length c.fun.steps < 0xffff_ffff_ffff_ffff
  pub granted : AreGranted (parameters_wish f) homes
  pub labels : LabelsAreNoted c
  pub few_bytes : f.frame ≤ 0x0400_0000

module _ (k : Linkage) (os : List Object) where
  -- it is the function of a number, and its unit's symbols stand and are called where the program has them. Its tree keeps to the limits
  pub record IsBound (object : ℕ) (is_function : ℕ → Bool) (at : ℕ) (c : Coded) (name : ℕ) (l : Linked) (f : ℕ) : Type 0 where
    pub stands : (spot_of (plan_of os) object).code + at ≡ inner_of os f
    pub located : (symbol : ℕ) → located_in os object is_function symbol ≡ l.located symbol
    pub calls : CallsLead is_function at c (seen_in os (plan_of os) object true) (entries_of (inner_of os) (stub_of os) (compiled name l))
    pub signature : (k.own f).parameters ≡ kinds_of l.fun.parameters
    pub pointer : (k.own f).result ≡ Pointer → c.plan.pointer ≡ true
    pub within : FunctionWithin (located_in os object is_function) c.plan.pointer (returns_in k (compiled name l)) (takes_in k (compiled name l)) l.fun

  -- a function of a program is one of a unit. The files of the image have these numbers in the sources
  pub record IsOfUnit (number : ℕ → ℕ) (name : ℕ) (l : Linked) (f : ℕ) : Type 0 where
    pub object : ℕ
    pub is_function : ℕ → Bool
    pub at : ℕ
    pub c : Coded
    pub in_unit : IsInUnit os object is_function at c
    pub coded : IsCoded name l.fun c
    pub bound : IsBound object is_function at c name l f
    pub files : AllStandIn (number (file_in os object)) c.fun.steps

  -- each function of the image is, and the program is one that steps can follow
  pub record IsProgram (number takes_outside : ℕ → ℕ) (program : ℕ → Linked) (name : ℕ → ℕ) : Type 0 where
    pub fits : FitsProgram takes_outside program
    pub signatures : (f : ℕ) → (k.own f).parameters ≡ kinds_of (program f).fun.parameters
    pub few_pairs : (f : ℕ) → pairs_of (program f).fun.body ≤ most_pairs
    pub each : (f : ℕ) → f < k.outers → IsOfUnit number (name f) (program f) f
