use Rattle.std.proofs.Common.{◌∙◌, refl}
use Rattle.mpx_words.specs.Files.{image_form}
use Rattle.mpx_words.proofs.Choices.{memory_answers, refused_answers, stream_same}
use Rattle.mpx_words.proofs.Stopping.{exec_refused, ran_answers, report_of}
use Rattle.mpx_words.proofs.exec.run_exec.Goals as goal

pub returns-in-Err : goal.returns-in-Err
returns-in-Err g c = λ reads exact.
    refused_answers image_form reads _ _ refl _ _ _ (exec_refused reads _ _ _) _ c.in-Err.ensures.loads c.in-Err.ensures.counts
    (record { files = c.in-Err.ensures.contents; writes = c.in-Err.ensures.write_faults; input = refl; out = refl }) c.report.ensures

pub returns-in-Err-run_image : goal.returns-in-Err-run_image
returns-in-Err-run_image g c = λ reads exact.
    let ran = c.in-Err-run_image.ensures.runs reads exact in
    memory_answers reads _ c.args.name.now _ _ _ (record {
      files = c.in-Ok.ensures.contents;
      writes = c.in-Ok.ensures.write_faults;
      input = stream_same _ _ _ _ ran.1 c.in-Err-run_image.ensures.counts.0;
      out = stream_same _ _ _ _ ran.0 c.in-Err-run_image.ensures.counts.1;
    }) c.in-Ok.ensures.counts c.report-in-Err-run_image.ensures

pub returns : goal.returns
returns g c = λ reads exact.
    ran_answers reads _ _ c.in-Ok.image _ _ _ c.in-Ok.ensures.loads c.in-Ok.ensures.contents c.in-Ok.ensures.counts c.in-Ok.ensures.write_faults c.in-Ok-run_image.stop
    (c.in-Ok-run_image.ensures.runs reads exact) c.in-Ok-run_image.ensures.counts
    (report_of _ _ _ _ _ _ _ (c.as_slice.ensures.value ∙ c.explain.ensures) c.stop_status.ensures c.report_line.ensures)
