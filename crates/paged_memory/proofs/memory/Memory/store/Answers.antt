use Rattle.std.specs.Prelude.{length}
use Rattle.std.specs.Int.{w64, to_le_bytes}
use Rattle.std.proofs.Common.{◌∙◌, ap, sym, subst, ◌+◌, ◌≤◌, List, ℕ, Ok, take, drop}
use Rattle.paged_memory.specs.declared.slots.Slot.{Slot}
use Rattle.paged_memory.specs.Paged.{Paged, bytes_of}
use Rattle.paged_memory.specs.Answers.{store_answer, Writes}
use Rattle.paged_memory.specs.Frames.{put_at, paged_of, IsSound}
use Rattle.paged_memory.specs.Known.{AreKnown}
use Rattle.paged_memory.proofs.View.{written_back}
use Rattle.paged_memory.proofs.KnownCalls.{stand_within, sound_known, store_known, length-low}
use Rattle.paged_memory.proofs.memory.Memory.store.Goals as goal

pub put_number-requires-clause-within : goal.put_number-requires-clause-within
put_number-requires-clause-within c =
    let stand = c.in-Some.ensures c.self.inside.slots.items (subst (λ (k : List Slot). AreKnown c.self.inside.slots.items k) (sym c.deref.ensures.value) c.self.invariant.2) in
    subst (λ (f : List ℕ). c.in-Some.at + c.args.n ≤ length f) (sym c.deref_mut.ensures.value) (stand_within c.self.inside.slots.items c.self.inside.frames.items c.self.inside.capacity c.args.a c.args.n c.in-Some.at c.self.invariant.0 stand)

pub invariant_of-self : goal.invariant_of-self
invariant_of-self c =
    let stand = c.in-Some.ensures c.self.inside.slots.items (subst (λ (k : List Slot). AreKnown c.self.inside.slots.items k) (sym c.deref.ensures.value) c.self.invariant.2) in
    let back = written_back c.put_number.new.frames (drop (length c.put_number.new.frames) c.self.inside.frames.items) c.self.inside.frames.len (c.put_number.auto.frames ∙ c.deref_mut.ensures.len) in
    let is = c.put_number.ensures ∙ ap (λ (f : List ℕ). put_at f c.in-Some.at (take c.args.n (to_le_bytes w64 c.args.v))) c.deref_mut.ensures.value in (
      subst (λ (f : List ℕ). IsSound c.self.inside.slots.items f c.self.inside.capacity) (sym back)
          (sound_known c.self.inside.slots.items c.self.inside.frames.items c.put_number.new.frames (take c.args.n (to_le_bytes w64 c.args.v)) c.self.inside.capacity c.args.a c.args.n c.in-Some.at c.self.invariant.0 stand
          (length-low c.args.n c.args.v c.requires) is),
      c.self.invariant.1,
      c.self.invariant.2,
    )

pub returns-in-Some-clause-answer : goal.returns-in-Some-clause-answer
returns-in-Some-clause-answer c =
    let stand = c.in-Some.ensures c.self.inside.slots.items (subst (λ (k : List Slot). AreKnown c.self.inside.slots.items k) (sym c.deref.ensures.value) c.self.invariant.2) in
    let back = written_back c.put_number.new.frames (drop (length c.put_number.new.frames) c.self.inside.frames.items) c.self.inside.frames.len (c.put_number.auto.frames ∙ c.deref_mut.ensures.len) in
    let is = c.put_number.ensures ∙ ap (λ (f : List ℕ). put_at f c.in-Some.at (take c.args.n (to_le_bytes w64 c.args.v))) c.deref_mut.ensures.value in
    subst (λ (f : List ℕ). Writes c.args.n c.args.a (store_answer c.args.n (bytes_of c.args.self.now) c.args.a c.args.v) c.args.self.now (paged_of c.self.inside.slots.items f c.self.inside.capacity) (Ok (tt {0}))) (sym back)
    (subst (λ (s : Paged). Writes c.args.n c.args.a (store_answer c.args.n (bytes_of s) c.args.a c.args.v) s (paged_of c.self.inside.slots.items c.put_number.new.frames c.self.inside.capacity) (Ok (tt {0}))) c.self.view_is
    (store_known c.self.inside.slots.items c.self.inside.frames.items c.put_number.new.frames c.self.inside.capacity c.args.a c.args.n c.in-Some.at c.args.v c.self.invariant.0 c.requires stand is))
