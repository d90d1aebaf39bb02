use Rattle.std.proofs.Common.{◌++◌, ◌∷◌, [], ◌-◌, append_assoc, ◌∙◌}
use Rattle.step_code.specs.Homing as spec
use Rattle.code_emit.specs.Plans.{plan_of, parameters_of}
use Rattle.code_emit.proofs.Loops.{map_ok}
use Rattle.code_emit.proofs.homing.put_homing.Goals as goal

pub returns : goal.returns
returns c =
    let p = plan_of c.args.p.now in
    let qs = parameters_of c.args.parameters.now in
    let begins = spec.unset_from p c.in_ok-from.from (c.args.private - c.in_ok-from.from) [] in
    map_ok c.unset_from.result (λ e. e
    ∙ (λ j. c.in_ok-append.ensures j ++ begins)
    ∙ append_assoc c.home_arguments.new.out.items (c.set.result ∷ []) begins
    ∙ c.in_ok-home_arguments.ensures (c.set.result ∷ begins)
    ∙ (λ j. c.args.out.now.items ++ spec.home_arguments p 0 c.args.private 0 0 qs (c.set.ensures j ∷ spec.unset_from p (c.in_ok-from.ensures j) (c.args.private - c.in_ok-from.ensures j) []))) c.unset_from.ensures
