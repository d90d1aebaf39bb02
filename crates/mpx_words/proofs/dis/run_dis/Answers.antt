use Rattle.std.proofs.Common.{ℕ, List, refl}
use Rattle.std.specs.declared.vec.Vec.{Vec}
use Rattle.std.specs.Global.{Global}
use Rattle.mpx_words.specs.Files.{by_form}
use Rattle.mpx_words.specs.Listing.{object_codes, image_codes}
use Rattle.mpx_words.proofs.Choices.{refused_answers}
use Rattle.mpx_words.proofs.Formed.{same_counts}
use Rattle.mpx_words.proofs.Printing.{dis_refused, dis_serves, printed_answers, as_text}
use Rattle.mpx_words.proofs.dis.run_dis.Goals as goal

pub returns-in-Err : goal.returns-in-Err
returns-in-Err g c = λ reads input.
    refused_answers (by_form object_codes image_codes) reads _ _ refl _ _ _ (dis_refused reads _ _) _ c.in-Err.ensures.yields (same_counts (Vec ℕ Global) (List (List ℕ)) _ _ _ c.in-Err.ensures.counts)
    (record { files = c.in-Err.ensures.contents; writes = c.in-Err.ensures.write_faults; input = refl; out = refl }) c.report.ensures

pub returns-in-Ok : goal.returns-in-Ok
returns-in-Ok g c = λ reads input.
    printed_answers reads _ _ _ _ _ (dis_serves reads _ _ c.in-Ok.text c.in-Ok.ensures.yields) c.in-Ok.ensures.contents c.in-Ok.ensures.counts c.in-Ok.ensures.write_faults refl (as_text c.as_slice.ensures.value c.print.ensures)
