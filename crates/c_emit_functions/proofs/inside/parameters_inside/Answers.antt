use Rattle.std.proofs.Common.{ap, ◌∙◌, List, map}
use Rattle.std.proofs.lemmas.Result.{IfOk-weaker}
use Rattle.c_types.specs.declared.shape.TypeId.{TypeId}
use Rattle.c_types.specs.Types.{type_at}
use Rattle.steps_facts.specs.Around.{sorts_of}
use Rattle.steps_items.specs.Around.{table_of}
use Rattle.c_emit_functions.specs.Parameters.{parameters_standing}
use Rattle.c_emit_functions.proofs.InsideLemmas.{parameters_are}
use Rattle.c_emit_functions.proofs.inside.parameters_inside.Goals as goal

pub returns : goal.returns
returns c = let table = table_of c.args.source.now in
    let sorts = c.as_slice-2.ensures ∙ c.in_ok-sorts.ensures
    ∙ ap (λ (ts : List TypeId). sorts_of (map (type_at table) ts)) c.as_slice.ensures in
    IfOk-weaker c.parameters_at.result _ _ (λ ps h. h
    ∙ ap (λ ss. parameters_standing ss c.as_slice-3.result.now) sorts
    ∙ ap (λ ss. parameters_standing (sorts_of (map (type_at table) c.args.head.now.parameters)) ss) c.as_slice-3.ensures
    ∙ parameters_are c.args.source.now c.args.gone.now c.args.head.now c.args.body.now c.args.variables.now
    c.requires.variables) c.parameters_at.ensures
