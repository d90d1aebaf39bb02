-- A step has at most one field that the linker fills.
use Rattle.std.proofs.Common.{ℕ, ◌+◌, ◌≤◌, Option, None, Some, List, [], ◌∷◌, length, arith}
use Rattle.std.proofs.lemmas.List.{length-append}
use Rattle.fat_ir.specs.declared.step.FatStep.{FatStep}
use Rattle.fat_ir.specs.declared.step.FatStep.TheVariants as s
use Rattle.step_code.specs.Steps.{Plan, lower}
use Rattle.step_code.specs.Bytes.{size_of_pieces}
use Rattle.code_emit.specs.Unlinked.{fields_of_step, fields_of_steps}

module _ (p : Plan) where
  step_fields : (at : ℕ) (step : FatStep) → length (fields_of_step p at step) ≤ 1
  step_fields at (s.Call symbol args to bounds) = omega arith
  step_fields at (s.Place to bounds (Some symbol) offset size) = omega arith
  step_fields at (s.Place to bounds None offset size) = omega arith
  step_fields at _ = omega arith

  pub few_fields : (at : ℕ) (steps : List FatStep) → length (fields_of_steps p at steps) ≤ length steps
  few_fields at [] = omega arith
  few_fields at (step ∷ steps) =
      let a = step_fields at step in
      let h = few_fields (at + size_of_pieces (lower p step)) steps in
      let e = length-append (fields_of_step p at step) (fields_of_steps p (at + size_of_pieces (lower p step)) steps) in omega arith
