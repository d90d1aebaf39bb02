-- Stub and landing together: a call of a legacy function does what it means, as far as legacy code does.
use Rattle.std.specs.Prelude.{Option, None, Some, List, true}
use Rattle.std.proofs.Common.{ℕ, ◌+◌, ◌<◌, ◌≤◌, refl, ◌∙◌}
use Rattle.mx_base.specs.Access.{Refusal, refusal}
use Rattle.mx_base.specs.Memory.{Bytes, number_at}
use Rattle.mx_base.specs.StopOfC.{AccessOfC}
use Rattle.mx_base.specs.World.{World}
use Rattle.x86_forms.specs.Processor.{below_stack}
use Rattle.fat_ir.specs.Values.{Value}
use Rattle.fat_ir.specs.Calls.{with_turns}
use Rattle.call_gates.specs.Gates.{landing_gate, landing_at, control_cell, stub_body_size}
use Rattle.gate_laws.specs.Moments.{Moment}
use Rattle.legacy_calls.specs.Legacy.{Linkage}
use Rattle.gate_laws.specs.Placed.{IsPlaced}
use Rattle.gate_laws.specs.Standing.{AtCall}
use Rattle.gate_laws.proofs.Entry.{Entry, out_at_call, entry}
use Rattle.gate_laws.proofs.Return.{out_at_landing, back_at_landing}
use Rattle.gate_laws.specs.Owed.{HasRoomAndCode, IsStub}
use Rattle.gate_laws.specs.Crossings.{EachStub, StubEnds}

module _ (k : Linkage) (image : Bytes) (places : ℕ → Option AccessOfC) (few_outers : k.outers ≤ 65536) (landing_placed : IsPlaced k image landing_at landing_gate)
    (depth : ℕ) (stub : ℕ → ℕ) (all : (g : ℕ) → g < k.stubs → IsStub k image g (stub g)) where
  joined : (g : ℕ) (few : g < k.stubs) (args : List Value) (w : World) (m : Moment) (call : AtCall k image depth 112 (stub g) (k.legacy g) args w m) (j : ℕ) (o : Option Refusal)
      → Entry k image places depth g args m (with_turns j w) (m.state.processor.rip + 6) (stub g + stub_body_size (k.legacy g)) (number_at 8 m.state.memory.bytes control_cell) o
      → StubEnds k image places (HasRoomAndCode image depth) depth g args m (with_turns j w) o
  joined g few args w m call j (Some why) h = h
  joined g few args w m call j None b = (
    b.moment.state.memory.bytes,
    b.moment,
    b.same,
    (b.space, b.code.code),
    b.alongside,
    λ l n beside landed. (
      out_at_landing k image places few_outers landing_placed depth g (stub g) args w m (all g few) call (with_turns j w) _ _ refl refl b l n beside landed,
      back_at_landing k image places few_outers landing_placed depth g (stub g) args w m (all g few) call (with_turns j w) _ _ refl refl b l n beside landed,
    ),
  )

  pub each_stub : EachStub k image places (HasRoomAndCode image depth) depth stub
  each_stub g args w m few call = (
    (λ e. out_at_call k image places depth g (stub g) args w m (all g few) call (call.stands.shares.turns ∙ e)),
    (λ j e. joined g few args w m call j (refusal true 8 (below_stack w.legacy_sp)) (entry k image places depth g (stub g) args w m (all g few) call j (call.stands.shares.turns ∙ e))),
  )
