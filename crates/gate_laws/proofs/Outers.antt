-- Outer entries: through each a C function does what it means.
use Rattle.std.specs.Prelude.{true, Option}
use Rattle.std.proofs.Common.{◌≡◌, ℕ, ◌+◌, ◌<◌, ◌∙◌, sym, subst}
use Rattle.mx_base.specs.Memory.{Bytes}
use Rattle.mx_base.specs.StopOfC.{AccessOfC}
use Rattle.x86_forms.specs.Watch.{outer_entry, is_in_outer}
use Rattle.fat_ir.specs.Calls.{Callee, Outcome, Comes, Stops, Stuck}
use Rattle.fat_ir.specs.Laws.{Leads}
use Rattle.call_gates.specs.Gates.{outer_keeps, extend_parameters, outer_restores, outer_clears}
use Rattle.gate_laws.specs.Moments.{Moment, Final}
use Rattle.legacy_calls.specs.Legacy.{Linkage, Foreign, arguments_from, lent}
use Rattle.gate_laws.specs.Effects.{end_of}
use Rattle.legacy_calls.specs.Laws.{KeepsStacks}
use Rattle.gate_laws.specs.Standing.{EndsAs, Calls, CallEnds, Alongside, AtDoor}
use Rattle.gate_laws.proofs.DoorEntry.{moment, reaches, calls_function}
use Rattle.gate_laws.proofs.DoorReturn.{out_at_return, strays_at_return, back_at_return}
use Rattle.gate_laws.specs.Owed.{HasRoomAndCode, IsOuter}
use Rattle.gate_laws.specs.Crossings.{DoorEnds, EachDoor}

module _ (k : Linkage) (image : Bytes) (places : ℕ → Option AccessOfC) (depth : ℕ) (inner : ℕ → ℕ) (all : (f : ℕ) → f < k.outers → IsOuter k image f (inner f))
    (inside : (f : ℕ) → f < k.outers → is_in_outer k.outers (end_of (end_of (end_of (end_of (outer_entry f) outer_keeps) (extend_parameters 0 (k.own f).parameters) + 6) outer_restores) (outer_clears (k.own f))) ≡ true)
    (own : Callee) (calls : Calls k image places depth 64 k.outers inner k.own own) (stacks : KeepsStacks own) where
  module _ (z : Bytes) (l : Foreign) (m : Moment) (f : ℕ) (space : HasRoomAndCode image depth z) (beside : Alongside k z l m) (door : AtDoor k l f) where
    ends : (r : Outcome) → CallEnds k image places depth (k.own f).result (moment k image places depth f (inner f) (all f door.few) z l m space.0 space.1 beside door (reaches k image places depth f (inner f) (all f door.few) z l m space.0 space.1 beside door).0) r
        → Leads (λ u. (u.legacy_sp ≡ l.processor.regs 4) × (u.data_sp ≡ l.world.data_sp)) (λ u. Unit {0}) r → DoorEnds k image places z (k.own f).result l m r
    ends (Comes v w) (n, on, back) same =
        let o = all f door.few in
        let reach = reaches k image places depth f (inner f) o z l m space.0 space.1 beside door in
        let came = reach.1 ∙ on in (
          out_at_return k image places depth f (inner f) o z l m space.0 space.1 beside door v w reach.0 n back same.0 same.1 (inside f door.few) came,
          λ j e. (
            strays_at_return k image places depth f (inner f) o z l m space.0 space.1 beside door v w reach.0 n back same.0 same.1 (inside f door.few) came j e,
            back_at_return k image places depth f (inner f) o z l m space.0 space.1 beside door v w reach.0 n back same.0 same.1 (inside f door.few) came j e,
          ),
        )
    ends (Stops why w) h same = subst (λ (g : Final). EndsAs places why w g) (sym (reaches k image places depth f (inner f) (all f door.few) z l m space.0 space.1 beside door).1) h
    ends Stuck h same = tt

  pub each_door : EachDoor k image places (HasRoomAndCode image depth) own
  each_door z l m f space beside door =
      let o = all f door.few in
      let reach = reaches k image places depth f (inner f) o z l m space.0 space.1 beside door in
      ends z l m f space beside door (own f (arguments_from 0 0 (k.own f).parameters l.processor) (lent l))
      (calls f _ (lent l) _ door.few (calls_function k image places depth f (inner f) o z l m space.0 space.1 beside door reach.0))
      (stacks f _ (lent l))
