use Rattle.std.proofs.Common.{◌++◌, ◌∷◌, [], ◌∙◌, ap}
use Rattle.step_code.specs.Steps as spec
use Rattle.step_code.specs.declared.pieces.Piece.TheVariants as piece
use Rattle.x86_forms.specs.Examples as x
use Rattle.x86_forms.specs.declared.instr.Instr.TheVariants as i
use Rattle.code_emit.specs.Plans.{plan_of}
use Rattle.code_emit.proofs.Loops.{map_ok}
use Rattle.code_emit.proofs.operators.lower_compare.Goals as goal

pub returns : goal.returns
returns c =
    let p = plan_of c.args.p.now in
    let to = c.put.ensures ∙ ap (λ h. spec.put h 0) c.home.ensures in
    let code = c.condition.ensures ∙ ap (spec.condition c.args.op) c.has_sign.ensures in
    map_ok c.append.result (λ e. e
    ∙ (λ j. c.load_two.new.out.items ++ (c.alu.ensures j ∷ piece.Plain (i.Set (code j) (c.in_reg.ensures j)) ∷ piece.Plain (i.Movzx 8 (x.reg 0) (c.in_reg-2.ensures j)) ∷ to j ∷ []))
    ∙ c.in_ok-load_two.ensures _) c.append.ensures
