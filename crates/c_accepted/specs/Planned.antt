-- The layout of a source by its plan: its globals, functions and literals have the numbers of their symbols in the list of the source.
use Rattle.std.specs.Prelude.{ℕ, zero, suc, ◌+◌, ◌≤◌, Option, None, Some, List, [], ◌∷◌, map, length}
use Rattle.mx_base.specs.declared.settings.Flags.{Flags}
use Rattle.c_tree.specs.declared.tree.Tree.{Tree}
use Rattle.c_tree.specs.Formed.{IsFormed}
use Rattle.c_check_statements.specs.declared.state.State.{State}
use Rattle.c_check.specs.Accepted.{IsAccepted, after}
use Rattle.c_check.specs.declared.symbols.Subject.{Subject}
use Rattle.c_check.specs.declared.symbols.Subject.TheVariants.{Global, Function}
use Rattle.c_check.specs.Symbols.{named, place_from}
use Rattle.place_plan.specs.declared.plans.Spot.{Spot}
use Rattle.place_plan.specs.declared.plans.Spot.TheVariants as spot
use Rattle.place_plan.specs.declared.plans.FramePlan.{FramePlan}
use Rattle.place_plan.specs.Source.{plan_of}
use Rattle.bounds_plan.specs.elaboration.Source.{Stand, Private, Frame, FrameLayout, SourceLayout}
use Rattle.c_accepted.specs.Linked.{Source}

-- ---- frames

abbrev pub stand_of : Spot → Stand
stand_of (spot.Private value) = Private
stand_of (spot.Frame offset) = Frame offset

abbrev pub layout_frame : FramePlan → FrameLayout
layout_frame plan = record { size = plan.size; stands = map stand_of plan.spots }

abbrev pub planned_frames : Tree → List FrameLayout
planned_frames tree = map layout_frame (plan_of tree).frames

-- ---- symbols

-- what has no symbol has a number of its own behind those of all symbols
abbrev pub number_or : (other : ℕ) → Option ℕ → ℕ
number_or other None = other
number_or other (Some n) = n

abbrev pub numbers_from : (ℕ → Subject) → (named : List Subject) → (behind first count : ℕ) → List ℕ
numbers_from subject named behind first zero = []
numbers_from subject named behind first (suc n) = number_or (behind + first) (place_from 0 (subject first) named) ∷ numbers_from subject named behind (first + 1) n

-- these have symbols, in this order, and behind them the literals
abbrev pub layout_by : State → (named : List Subject) → (literals : List ℕ) → List FrameLayout → SourceLayout
layout_by state named literals frames = record {
  globals = numbers_from Global named (length named + 1) 0 (length state.scope.variables);
  functions = numbers_from Function named (length named + 1 + length state.scope.variables) 0 (length state.scope.functions);
  texts = length named;
  literals = literals;
  frames = frames;
}

-- the layout of a source whose literals stand at these offsets behind their symbol
abbrev pub layout_of_plan : Tree → (literals : List ℕ) → SourceLayout
layout_of_plan tree literals = layout_by (after tree) (named tree) literals (planned_frames tree)

abbrev pub planned_source : (tree : Tree) (room : ℕ) → IsFormed tree → room ≤ 32768 → IsAccepted tree room → (literals : List ℕ) → Flags → Source
planned_source tree room formed few accepted literals flags = record { tree = tree; room = room; formed = formed; few = few; accepted = accepted; layout = layout_of_plan tree literals; flags = flags }
