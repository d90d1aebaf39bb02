-- What the homes of a function's values owe so that its steps are what code asks: beside homes by spans, that values there at calls and
-- services have words of the frame, and that four spare words are nobody's.
use Rattle.std.specs.Prelude.{◌≡◌, ℕ, ◌+◌, ◌<◌, ◌≤◌, true, false, slice_index_or, length}
use Rattle.fat_ir.specs.declared.program.FatFun.{FatFun}
use Rattle.fat_ir.specs.declared.step.FatStep.{FatStep}
use Rattle.fat_ir.specs.declared.step.FatStep.TheVariants as s
use Rattle.fat_ir.specs.Spans.{Range, Holds, StandsAt}
use Rattle.step_code.specs.Steps.{Plan}
use Rattle.step_code.specs.Homes.{Apart, HaveHomes, IsSlot}
use Rattle.step_code.specs.declared.homes.Home.TheVariants.{Slot}

-- a step that calls, or asks for a service
abbrev pub Leaves : FatStep → Type 0
Leaves (s.Call symbol args to bounds) = Unit {0}
Leaves (s.Service service arg to) = Unit {0}
Leaves _ = ⊥

pub record HomesServe (f : FatFun) (units : ℕ) (p : Plan) (range : ℕ → Range) : Type 0 where
  pub have : HaveHomes f units p range
  pub short : length f.steps < 0xffff_ffff_ffff_ffff
  pub ends : (v : ℕ) → (range v).past ≤ length f.steps
  -- values have the sorts of the function's numbering
  pub sorts : (v : ℕ) → v < f.private + f.temps → slice_index_or f.bounds v false ≡ p.is_bounds v
  pub at_calls : (i : ℕ) (step : FatStep) → StandsAt f.steps i step → Leaves step → (v : ℕ) → Holds (range v) i → IsSlot (p.home v)
  pub spare : p.spare + 3 < units
  pub spare_first : (v : ℕ) → Apart (p.is_bounds v) (p.home v) true (Slot p.spare)
  pub spare_second : (v : ℕ) → Apart (p.is_bounds v) (p.home v) true (Slot (p.spare + 2))
