-- A program of functions of accepted sources, each of whose symbols is linked to what its source means by it.
use Rattle.std.specs.Prelude.{◌≡◌, ◌⊎◌, ◌≤◌, ℕ, Some, List, length, slice_get, slice_index_or}
use Rattle.mx_base.specs.declared.settings.Flags.{Flags}
use Rattle.c_tree.specs.declared.tree.Tree.{Tree}
use Rattle.c_tree.specs.Formed.{IsFormed}
use Rattle.c_check.specs.Accepted.{IsAccepted, after}
use Rattle.fat_ir.specs.Functions.{Target, OfC, Outside}
use Rattle.bounds_plan.specs.meaning.Functions.{FunctionOfC, Linked}
use Rattle.bounds_plan.specs.laws.Roots.{StandsIn}
use Rattle.bounds_plan.specs.elaboration.Source.{SourceLayout, Signature}
use Rattle.bounds_plan.specs.elaboration.Functions.{Defined, elaborated, signatures_of}
use Rattle.c_accepted.specs.Alike.{meanings_of}

-- ---- sources

-- an accepted source, with a layout and flags by which it is elaborated
pub record Source : Type 0 where
  pub tree : Tree
  pub room : ℕ
  pub formed : IsFormed tree
  pub few : room ≤ 32768
  pub accepted : IsAccepted tree room
  pub layout : SourceLayout
  pub flags : Flags

-- the functions that it defines, and those that it declares
abbrev pub defined_by : Source → List Defined
defined_by s = elaborated s.tree (meanings_of (after s.tree).notes) s.layout s.flags

abbrev pub declared_by : Source → List Signature
declared_by s = signatures_of s.tree (meanings_of (after s.tree).notes) s.layout s.flags

-- ---- programs

-- a function that the source defines
pub record IsOneOf (defined : List Defined) (f : FunctionOfC) : Type 0 where
  pub d : Defined
  pub stands : StandsIn d defined
  pub is : f ≡ d.function

-- and it is the one of this number
pub record IsNumbered (defined : List Defined) (number : ℕ) (f : FunctionOfC) : Type 0 where
  pub one : IsOneOf defined f
  pub number_is : one.d.number ≡ number

-- a function that a source declares is called as the source itself defines it, or it is one of another source or outside of the program that takes as
-- many arguments as it is declared with
abbrev pub CallsRight : (takes_outside : ℕ → ℕ) → (ℕ → Linked) → List Defined → (number : ℕ) → Signature → Target → Type 0
CallsRight takes_outside program defined number s (OfC g) = IsNumbered defined number (program g).fun ⊎ (length (program g).fun.parameters ≡ length s.parameters)
CallsRight takes_outside program defined number s (Outside g) = takes_outside g ≡ length s.parameters

-- a function of a program is one that a source defines, and its symbols are linked to what the source declares
pub record IsFromSource (takes_outside : ℕ → ℕ) (program : ℕ → Linked) (l : Linked) : Type 0 where
  pub source : Source
  pub one : IsOneOf (defined_by source) l.fun
  pub calls : (number : ℕ) (s : Signature) → slice_get (declared_by source) number ≡ Some s → CallsRight takes_outside program (defined_by source) number s (l.targets (slice_index_or source.layout.functions number 0))

-- each is
abbrev pub IsLinked : (takes_outside : ℕ → ℕ) → (ℕ → Linked) → Type 0
IsLinked takes_outside program = (f : ℕ) → IsFromSource takes_outside program (program f)

-- there is such a program of the functions of a source
pub record CanBeLinked (source : Source) : Type 0 where
  pub takes_outside : ℕ → ℕ
  pub program : ℕ → Linked
  pub functions : (f : ℕ) → IsOneOf (defined_by source) (program f).fun
  pub linked : IsLinked takes_outside program
