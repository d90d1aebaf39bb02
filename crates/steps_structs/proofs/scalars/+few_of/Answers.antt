use Rattle.std.proofs.Common.{sym, ◌∙◌}
use Rattle.std.proofs.lemmas.Result.{IfOk-weaker}
use Rattle.steps_structs.specs.Structs.{structs_known}
use Rattle.steps_structs.proofs.ScalarLemmas.{array_few, array_none}
use Rattle.steps_structs.proofs.scalars.+few_of.Goals as goal

pub returns-in-Some : goal.returns-in-Some
returns-in-Some t c = IfOk-weaker c.repeated.result _ _
    (λ all e. e ∙ array_few c.args.types.now (structs_known c.args.types.now c.args.structs.now) c.args.shape c.shape-inner.result c.in-Array.element c.in-Array.count c.in_ok-one-in-Array.one c.in-Some.scalars c.as_slice.result.now
    c.in-Array.is c.shape-inner.ensures.means c.in_ok-one-in-Array.ensures (sym c.in-Some.is ∙ c.in_ok-part-in-Array.ensures) c.as_slice.ensures) c.repeated.ensures

pub returns-in-None : goal.returns-in-None
returns-in-None t c = array_none c.args.types.now (structs_known c.args.types.now c.args.structs.now) c.args.shape c.shape-inner.result c.in-Array.element c.in-Array.count
    c.in-Array.is c.shape-inner.ensures.means c.requires.named (sym c.in-None.is ∙ c.in_ok-part-in-Array.ensures)
