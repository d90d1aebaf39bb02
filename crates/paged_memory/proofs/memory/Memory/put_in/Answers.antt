use Rattle.std.specs.Prelude.{length}
use Rattle.std.proofs.Common.{◌≡◌, ◌∙◌, sym, ap, arith, subst, refl, ℕ, ◌+◌, drop, Ok, List}
use Rattle.mx_base.specs.Memory.{with_list}
use Rattle.paged_memory.specs.declared.slots.Slot.{Slot}
use Rattle.paged_memory.specs.Paged.{Paged, bytes_of}
use Rattle.paged_memory.specs.Touched.{touched_by}
use Rattle.paged_memory.specs.Frames.{pages_in, frame_in, byte_under, paged_of}
use Rattle.paged_memory.specs.Answers.{IsShort, Writes}
use Rattle.paged_memory.proofs.View.{short_of, written_to, written_back}
use Rattle.paged_memory.proofs.SlotLists.{length-pages_in}
use Rattle.paged_memory.proofs.memory.Memory.put_in.Goals as goal

pub returns-then-need-self-clause-answer : goal.returns-then-need-self-clause-answer
returns-then-need-self-clause-answer c =
    let counted = subst (λ (xs : List Slot). length (pages_in xs) + c.missing-need.result ≡ length (touched_by (length c.args.bytes.now) c.args.a (pages_in xs))) c.deref.ensures.value c.missing-need.ensures in
    let few = c.self.invariant.0.few in
    let used = ap length c.as_slice.ensures.value in
    let over = c.if-need-self.true in (
      refl,
      subst (λ (s : Paged). IsShort (length c.args.bytes.now) c.args.a s (length c.as_slice-then-need-self.result.now) c.self.inside.capacity) c.self.view_is
          (short_of c.self.inside.slots.items c.self.inside.frames.items c.self.inside.capacity (length c.args.bytes.now) c.args.a c.missing-need.result (length c.as_slice-then-need-self.result.now)
          counted few (omega (arith, used, over)) (ap length c.as_slice-then-need-self.ensures.value)),
    )

pub returns-clause-answer : goal.returns-clause-answer
returns-clause-answer c =
    let counted = subst (λ (xs : List Slot). length (pages_in xs) + c.missing-need.result ≡ length (touched_by (length c.args.bytes.now) c.args.a (pages_in xs))) c.deref.ensures.value c.missing-need.ensures in
    let few = c.self.invariant.0.few in
    let used = ap length c.as_slice.ensures.value in
    let pages = length-pages_in c.self.inside.slots.items in
    let fits = c.if-need-self.false in
    let back = written_back c.put.new.frames (drop (length c.put.new.frames) c.self.inside.frames.items) c.self.inside.frames.len (c.put.auto.frames ∙ c.deref_mut.ensures.len) in
    subst (λ (f : List ℕ). Writes (length c.args.bytes.now) c.args.a (Ok (with_list (bytes_of c.args.self.now) c.args.a c.args.bytes.now)) c.args.self.now (paged_of c.put.new.slots.items f c.self.inside.capacity) (Ok (tt {0}))) (sym back)
    (subst (λ (s : Paged). Writes (length c.args.bytes.now) c.args.a (Ok (with_list (bytes_of s) c.args.a c.args.bytes.now)) s (paged_of c.put.new.slots.items c.put.new.frames c.self.inside.capacity) (Ok (tt {0}))) c.self.view_is
    (written_to c.self.inside.slots.items c.put.new.slots.items c.self.inside.frames.items c.put.new.frames c.args.bytes.now c.self.inside.capacity c.args.a
    (c.put.ensures.bytes ∙ ap (λ f. with_list (byte_under (frame_in c.self.inside.slots.items) f) c.args.a c.args.bytes.now) c.deref_mut.ensures.value)
    c.put.ensures.pages (omega (arith, counted, few, used, pages, fits))))
