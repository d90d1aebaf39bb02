use Rattle.std.proofs.Common.{◌∙◌}
use Rattle.x86_alu.specs.Alu.{flags_in}
use Rattle.x86_alu.proofs.Shifting.{shl-result, shl-kept, shl-flags}
use Rattle.x86_alu.proofs.shifts.shift_left.Goals as goal

pub returns-then-c-eq0-clause-value : goal.returns-then-c-eq0-clause-value
returns-then-c-eq0-clause-value c = c.low-r.ensures.value ∙ shl-result c.args.w c.args.a c.args.b c.count-c.result c.requires.width c.count-c.ensures.value

pub returns-then-c-eq0-clause-flags : goal.returns-then-c-eq0-clause-flags
returns-then-c-eq0-clause-flags c = shl-kept c.args.w c.args.a c.args.b c.count-c.result (flags_in c.args.before) c.count-c.ensures.value c.if-c-eq0.true

pub returns-clause-value : goal.returns-clause-value
returns-clause-value c = c.low-r.ensures.value ∙ shl-result c.args.w c.args.a c.args.b c.count-c.result c.requires.width c.count-c.ensures.value

pub returns-clause-flags : goal.returns-clause-flags
returns-clause-flags c =
    c.flags.ensures
    ∙ shl-flags c.args.w c.args.a c.args.b c.count-c.result c.low-r.result c.bit-out.result c.left_overflow.result (flags_in c.args.before) c.requires.width c.count-c.ensures.value c.if-c-eq0.false
    (returns-clause-value c) (cc (c.bit-out.ensures, c.from.ensures)) c.left_overflow.ensures
