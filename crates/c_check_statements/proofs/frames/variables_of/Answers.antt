use Rattle.std.proofs.Common.{◌≡◌, ap, ◌∙◌, false, length, slice_index_or, arith, append_assoc}
use Rattle.std.proofs.lemmas.Grind.{common_steps}
use Rattle.c_check_statements.specs.Frames.{is_among}
use Rattle.c_check_statements.proofs.Marking.{mark_of}
use Rattle.c_check_statements.proofs.frames.variables_of.Goals as goal

pub kinds-preserved : goal.kinds-preserved
kinds-preserved c =
    let number = c.kinds.number in
    let taken : c.is_marked-taken.result ≡ is_among number c.args.taken.now =
    c.is_marked-taken.ensures ∙ (ap (λ l. slice_index_or l number false) (c.as_slice.ensures.value ∙ c.in_ok-marks.ensures) ∙ mark_of number (length c.args.kinds.now) c.args.taken.now c.kinds-test.true) in
    grind (arith, common_steps, append_assoc, taken)
