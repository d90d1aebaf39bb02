use Rattle.std.proofs.Common.{◌++◌, ◌∷◌, [], ◌+◌, ◌∙◌, ap}
use Rattle.step_code.specs.Steps as spec
use Rattle.step_code.specs.declared.pieces.Piece.TheVariants as piece
use Rattle.code_emit.proofs.Loops.{map_ok}
use Rattle.code_emit.proofs.steps.lower_meet.Goals as goal

pub returns : goal.returns
returns c =
    let a = c.get_bounds.ensures ∙ ap (spec.get_bounds 0) c.home.ensures in
    let b = c.get_bounds-2.ensures ∙ ap (spec.get_bounds 0) c.home-2.ensures in
    let to = c.put_bounds.ensures ∙ ap (λ h. spec.put_bounds h 0) c.home-3.ensures in
    let k = c.args.p.now.spare in
    map_ok c.append.result (λ e. e ∙ (λ j. c.args.out.now.items ++ (a j ∷ piece.KeepBounds k 0 ∷ b j ∷ piece.KeepBounds (k + 2) 0
    ∷ piece.LoadSlot 0 k ∷ piece.LoadSlot 1 (k + 2) ∷ c.compared.ensures j ∷ piece.Hop 3 3 ∷ c.moved.ensures j ∷ piece.KeepSlot k 0
    ∷ piece.LoadSlot 0 (k + 1) ∷ piece.LoadSlot 1 (k + 3) ∷ c.compared-2.ensures j ∷ piece.Hop 3 3 ∷ c.moved-2.ensures j ∷ piece.KeepSlot (k + 1) 0
    ∷ piece.LoadBounds 0 k ∷ to j ∷ []))) c.append.ensures
