-- How the small programs end that are given as syntax trees, by their meaning and by the steps that they are compiled to.
use Rattle.std.specs.Prelude.{◌≡◌, ℕ, ◌+◌, ◌-◌, ◌*◌, ◌==◌, nat_lt, slice_index, if◌then◌else◌, Option, None, Some, List, [], ◌∷◌}
use Rattle.std.specs.List.{position_or_len}
use Rattle.mx_base.specs.declared.limits.Bounds.{Bounds}
use Rattle.mx_base.specs.declared.settings.Flags.{Flags}
use Rattle.mx_base.specs.Memory.{Bytes}
use Rattle.mx_base.specs.StopOfC.{StopOfC}
use Rattle.mx_base.specs.World.{world_at_start}
use Rattle.fat_ir.specs.Step.{ObjectAt}
use Rattle.fat_ir.specs.Functions.{OfC, calls as steps_calls, exited as exited_steps}
use Rattle.bounds_plan.specs.meaning.Core.{Skip}
use Rattle.bounds_plan.specs.meaning.Functions.{FunctionOfC, Linked, calls, exited}
use Rattle.bounds_plan.specs.elaboration.Functions.{Defined, elaborated}
use Rattle.bounds_plan.specs.laws.Worked.{Told, told, told_of_steps, compiled, log_with, nothing_outside, no_steps_outside, function}
use Rattle.bounds_plan.specs.laws.WorkedSources.{Source}

-- the function of a number
abbrev pub function_of : List Defined → ℕ → FunctionOfC
function_of [] number = function [] Skip
function_of (d ∷ more) number = if d.number == number then d.function else function_of more number

-- a source that stands alone: its symbols are its functions and its objects, which stand at these addresses
abbrev pub linked_by : List Defined → (symbols : List ℕ) → (address : ℕ → ℕ) → ℕ → Linked
linked_by defined symbols address number = record {
  fun = function_of defined number;
  targets = λ symbol. OfC (position_or_len (λ other. other == symbol) symbols);
  located = λ symbol. ObjectAt (address symbol);
}

-- its run from a function on where so many calls may be entered, by its meaning and by its steps
unfoldable pub runs_of : List Defined → (symbols : List ℕ) → (address : ℕ → ℕ) → (stored : Bytes) → (depth main : ℕ) → List Bounds → (turns : ℕ) → Option Told
runs_of defined symbols address stored depth main made turns = told (exited (calls (linked_by defined symbols address) nothing_outside depth main [] (world_at_start stored [] turns) (log_with made)))

unfoldable pub steps_run_of : List Defined → (symbols : List ℕ) → (address : ℕ → ℕ) → (stored : Bytes) → (depth main turns : ℕ) → Option Told
steps_run_of defined symbols address stored depth main turns = told_of_steps (exited_steps (steps_calls (λ f. compiled (linked_by defined symbols address f)) no_steps_outside depth main [] (world_at_start stored [] turns)))

-- the literals stand behind their symbol when the program starts, and every other byte is 0
abbrev pub data_of : Source → (address : ℕ → ℕ) → Bytes
data_of s address = λ a. if nat_lt a (address s.layout.texts) then 0 else slice_index s.literals (a - address s.layout.texts)

abbrev pub run_source : Source → Flags → (address : ℕ → ℕ) → (depth main : ℕ) → List Bounds → (turns : ℕ) → Option Told
run_source s flags address depth main made turns = runs_of (elaborated s.tree s.meanings s.layout flags) s.layout.functions address (data_of s address) depth main made turns

abbrev pub run_source_steps : Source → Flags → (address : ℕ → ℕ) → (depth main turns : ℕ) → Option Told
run_source_steps s flags address depth main turns = steps_run_of (elaborated s.tree s.meanings s.layout flags) s.layout.functions address (data_of s address) depth main turns

-- a source ends so, by its meaning and by its steps; neither list of made bounds decides anything
abbrev pub EndSo : Source → Flags → (address : ℕ → ℕ) → (depth main turns : ℕ) → Option Told → Type 0
EndSo s flags address depth main turns end = (run_source s flags address depth main [] turns ≡ end) × (run_source_steps s flags address depth main turns ≡ end)

-- the same of a program of which only the stop and the output are told
pub record Said : Type 0 where
  pub stop : StopOfC
  pub out : List ℕ

abbrev pub said : Option Told → Option Said
said None = None
said (Some t) = Some record { stop = t.stop; out = t.out }

abbrev pub saying : StopOfC → List ℕ → Option Said
saying stop out = Some record { stop = stop; out = out }

-- each symbol has 256 bytes of data to itself
abbrev pub objects_apart : ℕ → ℕ
objects_apart symbol = 0x2000_0000 + 256 * symbol

abbrev pub SaysSo : Source → Flags → (address : ℕ → ℕ) → (depth main turns : ℕ) → StopOfC → (out : List ℕ) → Type 0
SaysSo s flags address depth main turns stop out = (said (run_source s flags address depth main [] turns) ≡ saying stop out) × (said (run_source_steps s flags address depth main turns) ≡ saying stop out)
