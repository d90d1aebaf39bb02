-- The machine over the store of bounds in C's words: a load and a keep make the table that they need, and nothing else is served.
use Rattle.std.specs.Prelude.{ℕ, nat_lt, if◌then◌else◌, Option, None, Some, Result, Ok, Err, List}
use Rattle.std.specs.Option.{option_map}
use Rattle.mx_base.specs.declared.limits.Bounds.{Bounds}
use Rattle.mx_base.specs.BoundsStore.{load_bounds, keep_bounds}
use Rattle.mx_base.specs.Walk.{directory_entry_at, walk_end}
use Rattle.x86_forms.specs.Processor.{Processor}
use Rattle.obj_file.specs.Machine.{Reading, Refusal, Misses, Invalid, Ground, State, Event, Goes, Stops}
use Rattle.obj_file.specs.Loaded.{Mode, configuration}
use Rattle.obj_file.specs.Stored.{Stored, with_store, stored_store, stored_ground}

abbrev pub had_or_lacking : {A : Type 0} → ℕ → Option A → Result A Refusal
had_or_lacking entry_at None = Err (Invalid entry_at)
had_or_lacking entry_at (Some v) = Ok v

-- an answer of the store for an address: there is none where addresses have no bounds, and none where a table is wanting
abbrev pub answer_in_c : {A : Type 0} → ℕ → ℕ → Option A → Result A Refusal
answer_in_c cfg la o = if nat_lt la walk_end then had_or_lacking (directory_entry_at cfg la) o else Err (Misses la)

unfoldable pub load_in_c : ℕ → Stored → ℕ → ℕ → Result (Bounds × Stored) Refusal
load_in_c cfg y la value = answer_in_c cfg la (option_map (λ p. (p.0, with_store y p.1)) (load_bounds y.bounds la value))

unfoldable pub keep_in_c : ℕ → Stored → ℕ → ℕ → Bounds → Result Stored Refusal
keep_in_c cfg y la value b = answer_in_c cfg la (option_map (with_store y) (keep_bounds y.bounds la value b))

abbrev pub ground_in_c : (List ℕ → Reading) → ℕ → Mode → Ground Stored
ground_in_c reads outers mode = record (stored_ground reads outers mode) {
  store = record (stored_store (configuration mode.preserve)) { load = load_in_c (configuration mode.preserve); keep = keep_in_c (configuration mode.preserve) };
  serve = λ y entry_at. Err (Invalid entry_at);
}

-- ---- BNDSTATUS aside

abbrev pub but_status : Processor → Processor
but_status c = record c { status = 0 }

abbrev pub state_but_status : {X : Type 0} → State X → State X
state_but_status s = record s { processor = but_status s.processor }

abbrev pub event_but_status : {X : Type 0} → Event X → Event X
event_but_status (Goes turn t) = Goes turn (state_but_status t)
event_but_status (Stops turn why t) = Stops turn why (state_but_status t)
