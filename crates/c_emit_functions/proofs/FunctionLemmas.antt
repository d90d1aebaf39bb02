-- The steps of a function, one part behind another.
use Rattle.std.proofs.Common.{◌≡◌, ℕ, ap, ◌∙◌, List, [], ◌∷◌, ◌++◌}
use Rattle.std.proofs.lemmas.List.{append_assoc}
use Rattle.fat_ir.specs.declared.step.FatStep.{FatStep}
use Rattle.fat_ir.specs.declared.step.FatStep.TheVariants as s
use Rattle.bounds_plan.specs.meaning.Core.{Statement}
use Rattle.bounds_plan.specs.steps.Code.{code_of}
use Rattle.steps_pieces.specs.Put.{Put}
use Rattle.c_emit_statements.specs.Bodies.{went_statement}

-- parameters arrive, then comes the body with labels from 1 on, and at the end label 0
pub steps_stand : (arrived s0 s1 last : List FatStep) (q : Put) (x : Statement) (d : ℕ) → s0 ≡ [] → s1 ≡ s0 ++ arrived
    → q ≡ went_statement x d 0 0 (record { steps = s1; label = 1 }) → last ≡ q.steps ++ s.Label 0 ∷ []
    → last ≡ arrived ++ (code_of x d 1 0 0 ++ s.Label 0 ∷ [])
unfolding went_statement
steps_stand arrived s0 s1 last q x d none first body ends =
    let end : List FatStep = s.Label 0 ∷ [] in
    ends ∙ ap (λ (p : Put). p.steps ++ end) body ∙ append_assoc s1 (code_of x d 1 0 0) end
    ∙ ap (λ steps. steps ++ (code_of x d 1 0 0 ++ end)) (first ∙ ap (λ steps. steps ++ arrived) none)
