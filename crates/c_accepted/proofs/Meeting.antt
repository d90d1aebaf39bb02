-- The functions of an accepted source, in a planned layout, are as is asked of them.
use Rattle.std.proofs.Common.{ℕ, ◌+◌, ◌≤◌, List, [], ◌∷◌, arith}
use Rattle.mx_base.specs.declared.settings.Flags.{Flags}
use Rattle.c_tree.specs.declared.tree.Tree.{Tree}
use Rattle.c_tree.specs.Formed.{IsFormed}
use Rattle.c_tree.proofs.FewStars.{formed_has_few_stars}
use Rattle.c_check.specs.Accepted.{IsAccepted, after}
use Rattle.c_check.proofs.StandingItems.{numbered_source}
use Rattle.bounds_plan.specs.elaboration.Source.{SourceLayout}
use Rattle.bounds_plan.specs.elaboration.Functions.{Defined, elaborated, signatures_of}
use Rattle.bounds_plan.specs.elaboration.Waits.{items_waits}
use Rattle.bounds_plan.specs.elaboration.Laws.{AllFit, AllNeed, AllCopyInside, AllAssignable}
use Rattle.bounds_plan.proofs.Copying.{elaborated_whole}
use Rattle.bounds_plan.proofs.Few.{few_parameters}
use Rattle.bounds_plan.proofs.FittingItems.{elaborated_fit}
use Rattle.bounds_plan.proofs.WaitingItems.{elaborated_need}
use Rattle.c_accepted.specs.Alike.{meanings_of, AllCopySmall}
use Rattle.c_accepted.specs.Frames.{AllPlanned, AllFramed}
use Rattle.c_accepted.specs.Meeting.{AllMeet}
use Rattle.c_accepted.specs.Symbols.{arguments_of, HaveSymbols, AllTakeBySymbol}
use Rattle.c_accepted.proofs.Elaborating.{copy_small, parameters_framed}
use Rattle.c_accepted.proofs.Limits.{stay_small}
use Rattle.c_accepted.proofs.Linking.{both_copies, take_by_symbol}
use Rattle.c_accepted.proofs.Small.{parameters_few, waits_few, privates_few}
use Rattle.c_accepted.proofs.Taking.{symbols_take, all_assignable}

all_meet : (takes : ℕ → ℕ) (layout : SourceLayout) (waits : ℕ) (ds : List Defined) → waits ≤ 80 → AllFit takes ds → AllTakeBySymbol takes layout ds → AllNeed (waits + 8) ds → AllAssignable ds → AllCopySmall ds → AllCopyInside ds → AllFramed ds → AllMeet takes layout ds
all_meet takes layout waits [] few fit called need homes small inside framed = tt
all_meet takes layout waits (d ∷ more) few fit called need homes small inside framed =
    let here = need.0 in (
      record { fits = fit.0; called = called.0; pairs = omega (arith, here, few); homes = homes.0; copies = both_copies d.function.body small.0 inside.0; parameters = framed.0 },
      all_meet takes layout waits more few fit.1 called.1 need.1 homes.1 small.1 inside.1 framed.1,
    )

pub planned_meet : (tree : Tree) (room : ℕ) → IsFormed tree → room ≤ 32768 → IsAccepted tree room → (layout : SourceLayout) (flags : Flags) → AllPlanned (after tree).bodies layout.frames → let w = meanings_of (after tree).notes in let ss = signatures_of tree w layout flags in
    HaveSymbols layout ss → AllMeet (arguments_of layout.functions ss) layout (elaborated tree w layout flags)
planned_meet tree room formed few h layout flags planned symbols =
    let w = meanings_of (after tree).notes in let ss = signatures_of tree w layout flags in let takes = arguments_of layout.functions ss in
    all_meet takes layout (items_waits tree.items) (elaborated tree w layout flags) (waits_few tree room h) (elaborated_fit takes tree w layout flags (symbols_take layout ss symbols)) (take_by_symbol tree room formed few h layout flags symbols)
    (elaborated_need tree w layout flags (few_parameters tree w layout flags (parameters_few tree room h) (privates_few tree room h layout planned))) (all_assignable tree room h w layout flags planned symbols)
    (copy_small tree room formed few h (stay_small (after tree) (numbered_source tree room formed (formed_has_few_stars tree formed) few h).structs) layout flags) (elaborated_whole tree w layout flags) (parameters_framed tree room formed few h layout flags planned)
