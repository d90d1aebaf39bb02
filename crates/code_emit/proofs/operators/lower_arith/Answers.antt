use Rattle.std.proofs.Common.{◌++◌, ◌∷◌, [], ◌∙◌, ap}
use Rattle.step_code.specs.Steps as spec
use Rattle.step_code.specs.declared.pieces.Piece.TheVariants as piece
use Rattle.code_emit.specs.Plans.{plan_of}
use Rattle.code_emit.proofs.Loops.{map_ok}
use Rattle.code_emit.proofs.operators.lower_arith.Goals as goal

pub returns : goal.returns
returns c =
    let p = plan_of c.args.p.now in
    let end = piece.Plain (spec.extend_instr c.args.kind 0) ∷ spec.put (p.home c.args.to) 0 ∷ [] in
    let more = spec.operation c.args.op c.args.kind end in
    let to = c.put.ensures ∙ ap (λ h. spec.put h 0) c.home.ensures in
    map_ok c.append.result (λ e. e
    ∙ (λ j. c.operation.new.out.items ++ (piece.Plain (c.extend.ensures j) ∷ to j ∷ []))
    ∙ c.in_ok-operation.ensures end
    ∙ c.in_ok-load_two.ensures more
    ∙ (λ j. c.args.out.now.items ++ spec.load_two p (c.needs_words.ensures j) c.args.kind c.args.a c.args.b more)) c.append.ensures
