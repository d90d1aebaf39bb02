-- Homes can be given to the values of all functions that a source is elaborated to.
use Rattle.std.proofs.Common.{ℕ, ◌+◌, ◌≤◌, List, [], ◌∷◌, arith}
use Rattle.mx_base.specs.declared.settings.Flags.{Flags}
use Rattle.c_tree.specs.declared.tree.Tree.{Tree}
use Rattle.bounds_plan.specs.steps.Code.{most_pairs}
use Rattle.bounds_plan.specs.elaboration.Source.{Meanings, SourceLayout}
use Rattle.bounds_plan.specs.elaboration.Functions.{Defined, elaborated, signatures_of}
use Rattle.bounds_plan.specs.elaboration.Waits.{items_waits}
use Rattle.bounds_plan.specs.elaboration.Laws.{TakesParameters, AllTakeFew, HaveFewPrivates, HaveFewVariables, AllFit, AllNeed, AllAssignable}
use Rattle.bounds_plan.proofs.Few.{few_parameters, few_variables}
use Rattle.bounds_plan.proofs.FittingItems.{elaborated_fit}
use Rattle.bounds_plan.proofs.WaitingItems.{elaborated_need}
use Rattle.bounds_plan.proofs.Spans.{assignable}

all_assignable : (takes : ℕ → ℕ) (n : ℕ) (all : List Defined) → n ≤ most_pairs → AllFit takes all → AllNeed n all → HaveFewVariables all → AllAssignable all
all_assignable takes n [] le fits need few = tt
all_assignable takes n (d ∷ more) le fits need few =
    ((λ name. assignable takes d.function fits.0 name (let h = need.0 in omega (arith, h, le)) few.0.1 few.0.2 few.0.0), all_assignable takes n more le fits.1 need.1 few.1)

pub elaborated_assignable : (tree : Tree) (meanings : Meanings) (layout : SourceLayout) (flags : Flags) (takes : ℕ → ℕ) → TakesParameters takes layout (signatures_of tree meanings layout flags) → AllTakeFew tree.items → HaveFewPrivates layout
    → items_waits tree.items ≤ 80 → AllAssignable (elaborated tree meanings layout flags)
elaborated_assignable tree meanings layout flags takes same few privates le =
    all_assignable takes (items_waits tree.items + 8) (elaborated tree meanings layout flags) (omega (arith, le)) (elaborated_fit takes tree meanings layout flags same)
    (elaborated_need tree meanings layout flags (few_parameters tree meanings layout flags few privates)) (few_variables tree meanings layout flags few privates)
