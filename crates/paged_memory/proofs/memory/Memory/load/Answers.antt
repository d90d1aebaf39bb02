use Rattle.std.specs.Prelude.{length}
use Rattle.std.specs.Int.{w64, from_le_bytes}
use Rattle.std.proofs.Common.{◌∙◌, ap, sym, subst, ◌+◌, ◌-◌, ◌≤◌, ◌++◌, List, ℕ, take, drop, replicate}
use Rattle.paged_memory.specs.declared.slots.Slot.{Slot}
use Rattle.paged_memory.specs.Paged.{bytes_of}
use Rattle.paged_memory.specs.Answers.{load_answer}
use Rattle.paged_memory.specs.Known.{AreKnown}
use Rattle.paged_memory.proofs.KnownCalls.{stand_within, load_known}
use Rattle.paged_memory.proofs.memory.Memory.load.Goals as goal

pub number_in-requires-clause-within : goal.number_in-requires-clause-within
number_in-requires-clause-within c =
    let stand = c.in-Some.ensures c.self.inside.slots.items (subst (λ (k : List Slot). AreKnown c.self.inside.slots.items k) (sym c.deref.ensures.value) c.self.invariant.2) in
    subst (λ (f : List ℕ). c.in-Some.at + c.args.n ≤ length f) (sym c.deref-in-Some.ensures.value) (stand_within c.self.inside.slots.items c.self.inside.frames.items c.self.inside.capacity c.args.a c.args.n c.in-Some.at c.self.invariant.0 stand)

pub returns-in-Some : goal.returns-in-Some
returns-in-Some c =
    let stand = c.in-Some.ensures c.self.inside.slots.items (subst (λ (k : List Slot). AreKnown c.self.inside.slots.items k) (sym c.deref.ensures.value) c.self.invariant.2) in
    load_known c.self.inside.slots.items c.self.inside.frames.items c.self.inside.capacity c.args.a c.args.n c.in-Some.at c.number_in.result c.self.invariant.0 c.requires stand
    (c.number_in.ensures ∙ ap (λ (f : List ℕ). from_le_bytes w64 (take c.args.n (drop c.in-Some.at f) ++ replicate (8 - c.args.n) 0)) c.deref-in-Some.ensures.value)
    ∙ ap (λ s. load_answer c.args.n (bytes_of s) c.args.a) c.self.view_is
