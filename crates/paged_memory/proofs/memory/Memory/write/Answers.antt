use Rattle.std.specs.Prelude.{length}
use Rattle.std.proofs.Common.{◌∙◌, ap, sym, subst, refl, ◌+◌, ◌≤◌, List, ℕ, Ok, drop}
use Rattle.paged_memory.specs.declared.slots.Slot.{Slot}
use Rattle.paged_memory.specs.Paged.{Paged, bytes_of}
use Rattle.paged_memory.specs.Answers.{write_answer, Writes}
use Rattle.paged_memory.specs.Frames.{put_at, paged_of, IsSound}
use Rattle.paged_memory.specs.Known.{AreKnown}
use Rattle.paged_memory.proofs.View.{written_back}
use Rattle.paged_memory.proofs.KnownCalls.{stand_within, sound_known, write_known}
use Rattle.paged_memory.proofs.memory.Memory.write.Goals as goal

pub put_part-requires : goal.put_part-requires
put_part-requires c =
    let stand = c.in-Some.ensures c.self.inside.slots.items (subst (λ (k : List Slot). AreKnown c.self.inside.slots.items k) (sym c.deref.ensures.value) c.self.invariant.2) in
    subst (λ (f : List ℕ). c.in-Some.at + length c.args.bytes.now ≤ length f) (sym c.deref_mut.ensures.value) (stand_within c.self.inside.slots.items c.self.inside.frames.items c.self.inside.capacity c.args.a (length c.args.bytes.now) c.in-Some.at c.self.invariant.0 stand)

pub invariant_of-self : goal.invariant_of-self
invariant_of-self c =
    let stand = c.in-Some.ensures c.self.inside.slots.items (subst (λ (k : List Slot). AreKnown c.self.inside.slots.items k) (sym c.deref.ensures.value) c.self.invariant.2) in
    let back = written_back c.put_part.new.frames (drop (length c.put_part.new.frames) c.self.inside.frames.items) c.self.inside.frames.len (c.put_part.auto.frames ∙ c.deref_mut.ensures.len) in
    let is = c.put_part.ensures ∙ ap (λ (f : List ℕ). put_at f c.in-Some.at c.args.bytes.now) c.deref_mut.ensures.value in (
      subst (λ (f : List ℕ). IsSound c.self.inside.slots.items f c.self.inside.capacity) (sym back)
          (sound_known c.self.inside.slots.items c.self.inside.frames.items c.put_part.new.frames c.args.bytes.now c.self.inside.capacity c.args.a (length c.args.bytes.now) c.in-Some.at c.self.invariant.0 stand refl is),
      c.self.invariant.1,
      c.self.invariant.2,
    )

pub returns-in-Some-clause-answer : goal.returns-in-Some-clause-answer
returns-in-Some-clause-answer c =
    let stand = c.in-Some.ensures c.self.inside.slots.items (subst (λ (k : List Slot). AreKnown c.self.inside.slots.items k) (sym c.deref.ensures.value) c.self.invariant.2) in
    let back = written_back c.put_part.new.frames (drop (length c.put_part.new.frames) c.self.inside.frames.items) c.self.inside.frames.len (c.put_part.auto.frames ∙ c.deref_mut.ensures.len) in
    let is = c.put_part.ensures ∙ ap (λ (f : List ℕ). put_at f c.in-Some.at c.args.bytes.now) c.deref_mut.ensures.value in
    subst (λ (f : List ℕ). Writes (length c.args.bytes.now) c.args.a (write_answer c.args.bytes.now (bytes_of c.args.self.now) c.args.a) c.args.self.now (paged_of c.self.inside.slots.items f c.self.inside.capacity) (Ok (tt {0}))) (sym back)
    (subst (λ (s : Paged). Writes (length c.args.bytes.now) c.args.a (write_answer c.args.bytes.now (bytes_of s) c.args.a) s (paged_of c.self.inside.slots.items c.put_part.new.frames c.self.inside.capacity) (Ok (tt {0}))) c.self.view_is
    (write_known c.self.inside.slots.items c.self.inside.frames.items c.put_part.new.frames c.args.bytes.now c.self.inside.capacity c.args.a c.in-Some.at c.self.invariant.0 c.requires.some stand is))
