use Rattle.std.specs.Prelude.{length}
use Rattle.std.proofs.Common.{◌∙◌, ap, sym, subst, ◌+◌, ◌≤◌, List, ℕ, take, drop}
use Rattle.mx_base.specs.Memory.{list_at}
use Rattle.paged_memory.specs.declared.slots.Slot.{Slot}
use Rattle.paged_memory.specs.Paged.{bytes_of}
use Rattle.paged_memory.specs.Known.{AreKnown}
use Rattle.paged_memory.proofs.Answered.{read_allowed}
use Rattle.paged_memory.proofs.KnownPages.{stand_readable}
use Rattle.paged_memory.proofs.KnownCalls.{stand_within, read_known}
use Rattle.paged_memory.proofs.memory.Memory.read.Goals as goal

pub get_part-requires : goal.get_part-requires
get_part-requires c =
    let stand = c.in-Some.ensures c.self.inside.slots.items (subst (λ (k : List Slot). AreKnown c.self.inside.slots.items k) (sym c.deref.ensures.value) c.self.invariant.2) in
    subst (λ (f : List ℕ). c.in-Some.at + length c.args.buf.now ≤ length f) (sym c.deref-in-Some.ensures.value) (stand_within c.self.inside.slots.items c.self.inside.frames.items c.self.inside.capacity c.args.a (length c.args.buf.now) c.in-Some.at c.self.invariant.0 stand)

pub returns-in-Some-clause-answer : goal.returns-in-Some-clause-answer
returns-in-Some-clause-answer c =
    let stand = c.in-Some.ensures c.self.inside.slots.items (subst (λ (k : List Slot). AreKnown c.self.inside.slots.items k) (sym c.deref.ensures.value) c.self.invariant.2) in
    sym (read_allowed (length c.args.buf.now) c.args.a (stand_readable c.self.inside.slots.items c.args.a (length c.args.buf.now) c.in-Some.at stand))

pub returns-in-Some-clause-done : goal.returns-in-Some-clause-done
returns-in-Some-clause-done c =
    let stand = c.in-Some.ensures c.self.inside.slots.items (subst (λ (k : List Slot). AreKnown c.self.inside.slots.items k) (sym c.deref.ensures.value) c.self.invariant.2) in
    c.get_part.ensures ∙ ap (λ (f : List ℕ). take (length c.args.buf.now) (drop c.in-Some.at f)) c.deref-in-Some.ensures.value
    ∙ read_known c.self.inside.slots.items c.self.inside.frames.items c.self.inside.capacity c.args.a (length c.args.buf.now) c.in-Some.at c.self.invariant.0 stand
    ∙ ap (λ s. list_at (length c.args.buf.now) (bytes_of s) c.args.a) c.self.view_is
