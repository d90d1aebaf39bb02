-- The plan that is passed is that of a unit before the link.
use Rattle.std.specs.Prelude.{false, if◌then◌else◌, slice_index_or}
use Rattle.std.proofs.Common.{◌≡◌, Bool, true, refl}
use Rattle.fat_ir.specs.Step.{ObjectAt, FunctionAt}
use Rattle.code_emit.specs.declared.plan.FunctionPlan.{FunctionPlan}
use Rattle.code_emit.specs.Plans.{plan_of}
use Rattle.linked_code.specs.Filled.{located_at, unlinked_plan}

same_located : (function : Bool) → (if function then FunctionAt 0 else ObjectAt 0) ≡ located_at function 0
same_located true = refl
same_located false = refl

pub same_plan : (q : FunctionPlan) → plan_of q ≡ unlinked_plan (plan_of q) (λ s. slice_index_or q.functions.now s false)
same_plan q = λ i. record {
  home = (plan_of q).home;
  is_bounds = (plan_of q).is_bounds;
  spare = q.spare;
  exit = q.exit;
  pointer = q.pointer;
  located = λ s. same_located (slice_index_or q.functions.now s false) i;
}
