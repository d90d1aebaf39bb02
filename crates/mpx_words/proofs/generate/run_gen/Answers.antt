use Rattle.std.proofs.Common.{◌∙◌, [], refl}
use Rattle.mpx_words.proofs.Choices.{memory_answers}
use Rattle.mpx_words.proofs.Printing.{gen_serves, printed_answers, as_text}
use Rattle.mpx_words.proofs.generate.run_gen.Goals as goal

pub returns-in-Err : goal.returns-in-Err
returns-in-Err g c = λ reads files input. memory_answers reads _ [] _ _ _ (record { files = λ n. refl; writes = refl; input = refl; out = refl }) refl c.report.ensures

pub returns-in-Ok : goal.returns-in-Ok
returns-in-Ok g c = λ reads files input.
    printed_answers reads _ _ _ _ _ (gen_serves reads _ _) (λ n. refl) refl refl refl (as_text (c.as_slice.ensures.value ∙ c.in-Ok.ensures) c.print.ensures)
