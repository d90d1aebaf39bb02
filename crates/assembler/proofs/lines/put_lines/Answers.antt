use Rattle.std.proofs.Common.{◌∙◌, ap, sym, subst, List, length, arith}
use Rattle.std.specs.Option.{option_copied}
use Rattle.asm_text.specs.declared.parts.Cursor.{Cursor}
use Rattle.asm_text.specs.Cuts.{parts_left, room_of}
use Rattle.asm_text.specs.Seen.{seen_line}
use Rattle.asm_text.specs.Assembly.{Label, Draft, placed, start, texts_of, labelled, drafted}
use Rattle.assembler.specs.Held.{placed_at, AreDistinct}
use Rattle.assembler.specs.Seen.{seen_draft}
use Rattle.assembler.specs.Good.{IsWithin}
use Rattle.assembler.proofs.LabelLemmas.{labels_distinct, few_labelled}
use Rattle.assembler.proofs.StepLemmas.{within_start, drafted_on}
use Rattle.assembler.proofs.UseLemmas.{lines_on, next_line}
use Rattle.assembler.proofs.lines.put_lines.Goals as goal

pub loop-left-init : goal.loop-left-init
loop-left-init c =
    let at = c.start-at.result in
    let code = ap (λ (x : Cursor). x.code) c.start-at.ensures in
    let stored = ap (λ (x : Cursor). x.stored) c.start-at.ensures in
    let line = ap (λ (x : Cursor). x.line) c.start-at.ensures in
    let few = c.requires.few in
    record {
      drafted = (λ i. drafted c.args.labels.now (c.requires.bare i) (placed (c.start-at.ensures i) (texts_of c.args.text.now)));
      within = subst (IsWithin c.args.labels.now at) (sym c.requires.bare) (within_start c.args.labels.now at code stored);
      small = (omega (arith, code), omega (arith, stored));
      room = omega (arith, few);
      few = omega (arith, few, line);
    }

pub add_line-requires-clause-distinct : goal.add_line-requires-clause-distinct
add_line-requires-clause-distinct c = subst AreDistinct (sym c.requires.labels) (labels_distinct (placed start (texts_of c.args.text.now)))

pub add_line-requires-clause-defined : goal.add_line-requires-clause-defined
add_line-requires-clause-defined c =
    let count = c.len-defined.ensures.count ∙ ap (λ (d : Draft). length d.symbols) c.requires.bare in
    let few = few_labelled c.args.text.now c.requires.few in
    let same = ap (λ (ls : List Label). length (labelled ls)) c.requires.labels in
    (count, omega (arith, count, few, same))

pub loop-left-preserved : goal.loop-left-preserved
loop-left-preserved c =
    let labels = c.args.labels.now in
    let d = seen_draft c.loop-left.d in
    let line = ap (λ (x : Cursor). x.line) c.after-at.ensures.next ∙ next_line c.loop-left.at c.sound_line-line.result.kind in
    let room = ap (λ o. room_of (option_copied o)) c.in-Some.is in
    let before = c.loop-left.invariant.room in
    let few = c.loop-left.invariant.few in
    let shorter = c.cut_at-cut.ensures.shorter in
    let more = placed c.after-at.result (parts_left 10 (option_copied c.cut_at-cut.result.more)) in
    record {
      drafted =
          sym (drafted_on labels d (seen_draft c.add_line.new.d) (placed_at c.loop-left.at c.sound_line-line.result) more c.in_ok-add_line.ensures.told)
          ∙ (ap (drafted labels d)
          (sym (lines_on (parts_left 10 (option_copied c.loop-left.left)) (parts_left 10 (option_copied c.cut_at-cut.result.more)) c.cut_at-cut.result.part.now c.loop-left.at c.after-at.result (seen_line c.sound_line-line.result)
          (ap (λ o. parts_left 10 (option_copied o)) c.in-Some.is ∙ c.cut_at-cut.ensures.parts) c.sound_line-line.ensures.line c.after-at.ensures.next))
          ∙ c.loop-left.invariant.drafted);
      within = subst (λ (x : Cursor). IsWithin labels x (seen_draft c.add_line.new.d)) (sym c.after-at.ensures.next) c.in_ok-add_line.ensures.within;
      small = c.after-at.ensures.small;
      room = omega (arith, shorter, room, before);
      few = omega (arith, line, shorter, room, few);
    }
