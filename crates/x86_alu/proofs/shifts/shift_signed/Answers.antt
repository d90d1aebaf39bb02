use Rattle.std.proofs.Common.{◌∙◌, ap, FitsSigned, rules}
use Rattle.std.specs.Int.{w64, int_shr}
use Rattle.x86_forms.specs.Arithmetic.{bits_of}
use Rattle.x86_alu.specs.Alu.{flags_in}
use Rattle.x86_alu.proofs.Shifting.{sar-result, sar-kept, sar-flags, cast-shifted}
use Rattle.x86_alu.proofs.shifts.shift_signed.Goals as goal

pub returns-then-c-eq0-clause-value : goal.returns-then-c-eq0-clause-value
returns-then-c-eq0-clause-value c =
    let word : FitsSigned w64 c.signed_value.result = search rules in
    c.word_of-r.ensures.value
    ∙ ap (bits_of c.args.w) (cast-shifted c.signed_value.result c.from.result c.count-c.result word c.from.ensures)
    ∙ ap (λ z. bits_of c.args.w (int_shr z c.count-c.result)) c.signed_value.ensures
    ∙ sar-result c.args.w c.args.a c.args.b c.count-c.result c.count-c.ensures.value

pub returns-then-c-eq0-clause-flags : goal.returns-then-c-eq0-clause-flags
returns-then-c-eq0-clause-flags c = sar-kept c.args.w c.args.a c.args.b c.count-c.result (flags_in c.args.before) c.count-c.ensures.value c.if-c-eq0.true

pub returns-clause-value : goal.returns-clause-value
returns-clause-value c =
    let word : FitsSigned w64 c.signed_value.result = search rules in
    c.word_of-r.ensures.value
    ∙ ap (bits_of c.args.w) (cast-shifted c.signed_value.result c.from.result c.count-c.result word c.from.ensures)
    ∙ ap (λ z. bits_of c.args.w (int_shr z c.count-c.result)) c.signed_value.ensures
    ∙ sar-result c.args.w c.args.a c.args.b c.count-c.result c.count-c.ensures.value

pub returns-clause-flags : goal.returns-clause-flags
returns-clause-flags c =
    c.flags.ensures
    ∙ sar-flags c.args.w c.args.a c.args.b c.count-c.result c.word_of-r.result c.bit-out.result (flags_in c.args.before) c.requires.width c.count-c.ensures.value c.if-c-eq0.false
    (returns-clause-value c) c.bit-out.ensures
