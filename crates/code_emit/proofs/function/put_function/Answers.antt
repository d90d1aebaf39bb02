use Rattle.std.proofs.Common.{◌++◌, ◌∙◌, List, ℕ, ap, length}
use Rattle.fat_ir.specs.declared.step.FatStep.{FatStep}
use Rattle.step_code.specs.declared.pieces.Piece.{Piece}
use Rattle.step_code.specs.Entry.{inner_entry, inner_return}
use Rattle.step_code.specs.Functions.{plain}
use Rattle.step_code.specs.Homing.{homing}
use Rattle.step_code.specs.Steps.{end_pieces}
use Rattle.code_emit.specs.Plans.{plan_of, parameters_of}
use Rattle.code_emit.specs.Unlinked as u
use Rattle.code_emit.proofs.Loops.{map_ok, five_parts}
use Rattle.code_emit.proofs.function.put_function.Goals as goal

pub returns : goal.returns
returns c =
    let p = plan_of c.args.p.now in
    let labels = c.args.labels.now in
    let c0 : List ℕ = c.args.code.now.items in
    let c1 : List ℕ = c.put_pieces.new.code.items in
    let c2 : List ℕ = c.put_pieces-2.new.code.items in
    let c3 : List ℕ = c.put_steps.new.code.items in
    let c4 : List ℕ = c.put_pieces-3.new.code.items in
    let home = c.as_slice.ensures.value ∙ c.in_ok-put_homing.ensures ∙ ap (λ (l : List Piece). l ++ homing p c.args.f.now.private (parameters_of c.args.parameters.now)) c.new-home.ensures.items in
    map_ok c.put_pieces-4.result (λ e. five_parts p labels c0 c1 c2 c3 c4 c.put_pieces-4.new.code.items
    (plain (inner_entry c.args.f.now.frame c.args.units)) (homing p c.args.f.now.private (parameters_of c.args.parameters.now)) c.args.f.now.steps end_pieces (plain (inner_return c.args.f.now.frame c.args.units))
    (c.in_ok-put_pieces.ensures ∙ ap (λ (l : List Piece). c0 ++ u.unlinked_pieces labels (length c0) l) c.inner_entry.ensures)
    (c.in_ok-put_pieces-2.ensures ∙ ap (λ (l : List Piece). c1 ++ u.unlinked_pieces labels (length c1) l) home)
    (c.in_ok-put_steps.ensures ∙ ap (λ (l : List FatStep). c2 ++ u.unlinked_steps p labels (length c2) l) c.as_slice-2.ensures)
    (c.in_ok-put_pieces-3.ensures ∙ ap (λ (l : List Piece). c3 ++ u.unlinked_pieces labels (length c3) l) c.end.ensures)
    (e ∙ ap (λ (l : List Piece). c4 ++ u.unlinked_pieces labels (length c4) l) c.inner_return.ensures)) c.put_pieces-4.ensures
