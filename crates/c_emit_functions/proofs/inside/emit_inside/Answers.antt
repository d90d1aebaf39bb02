use Rattle.std.proofs.Common.{ap, ◌∙◌, map, slice_index_or}
use Rattle.std.proofs.lemmas.Result.{IfOk-weaker}
use Rattle.place_plan.specs.declared.plans.Plan.{Plan}
use Rattle.bounds_plan.specs.elaboration.Functions.{no_frame}
use Rattle.c_accepted.specs.Planned.{layout_frame}
use Rattle.steps_known.specs.Known.{around_of}
use Rattle.c_emit_functions.specs.Parameters.{parameters_of}
use Rattle.c_emit_functions.proofs.InsideLemmas.{function_is}
use Rattle.c_emit_functions.proofs.inside.emit_inside.Goals as goal

pub returns-clause-fun : goal.returns-clause-fun
returns-clause-fun c =
    let body = c.args.gone.now.after.body in
    let frames = c.as_slice.ensures ∙ ap (λ (p : Plan). p.frames) c.requires.source.placed in
    let size = c.frame_size-frame.ensures ∙ ap (λ fs. (slice_index_or (map layout_frame fs) body no_frame).size) frames in
    IfOk-weaker c.emit_function.result _ _ (λ e h.
    function_is c.args.source.now c.args.gone.now c.args.head.now c.args.body.now c.args.variables.now c.requires.variables e.fun
    (around_of c.known_inside-known.result) c.function.result c.frame_size-frame.result (parameters_of c.args.parameters.now)
    c.as_slice-2.result.now c.known_inside-known.ensures.around c.function.ensures c.requires.parameters c.as_slice-2.ensures size h)
    c.emit_function.ensures.fun
