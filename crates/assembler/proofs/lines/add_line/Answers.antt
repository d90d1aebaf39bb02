use Rattle.std.proofs.Common.{sym, subst}
use Rattle.asm_text.specs.Assembly.{after}
use Rattle.assembler.specs.Seen.{seen_draft}
use Rattle.assembler.specs.Held.{placed_at}
use Rattle.assembler.specs.Good.{IsWithin}
use Rattle.assembler.proofs.StepLemmas.{accepted_by, may_sign, within_after}
use Rattle.assembler.proofs.lines.add_line.Goals as goal

pub put_line-requires-clause-near : goal.put_line-requires-clause-near
put_line-requires-clause-near c =
    (accepted_by c.args.labels.now (seen_draft c.args.d.now) (placed_at c.args.at c.args.l.now) c.args.defined c.fault_of.result c.requires.defined.0 c.fault_of.ensures c.in_default.is).near

pub put_line-requires-clause-sign : goal.put_line-requires-clause-sign
put_line-requires-clause-sign c =
    let p = placed_at c.args.at c.args.l.now in
    let d = seen_draft c.args.d.now in
    may_sign c.args.labels.now d p c.requires.within c.requires.sound (accepted_by c.args.labels.now d p c.args.defined c.fault_of.result c.requires.defined.0 c.fault_of.ensures c.in_default.is)

pub returns-clause-within : goal.returns-clause-within
returns-clause-within c =
    let p = placed_at c.args.at c.args.l.now in
    let d = seen_draft c.args.d.now in
    let accepted = accepted_by c.args.labels.now d p c.args.defined c.fault_of.result c.requires.defined.0 c.fault_of.ensures c.in_default.is in
    subst (IsWithin c.args.labels.now (after c.args.at c.args.l.now.kind)) (sym c.in_ok-put_line.ensures) (within_after c.args.labels.now d p c.requires.within accepted)
