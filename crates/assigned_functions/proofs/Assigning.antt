-- All functions are assigned homes, once no more are left.
use Rattle.std.proofs.Common.{ℕ, ◌≤◌, List, [], ◌++◌, length, drop, subst, sym, append-nil}
use Rattle.std.proofs.lemmas.List.{drop_all}
use Rattle.code_emit.specs.declared.plan.CompiledFunction.{CompiledFunction}
use Rattle.reg_assign.specs.declared.homes.Homes.{Homes}
use Rattle.assigned_functions.specs.Assigned.{AreAssigned}

pub all_assigned : (fs : List CompiledFunction) (all : List Homes) (i : ℕ) → length fs ≤ i
    → ((rest : List Homes) → AreAssigned (drop i fs) rest → AreAssigned fs (all ++ rest)) → AreAssigned fs all
all_assigned fs all i le so_far =
    subst (AreAssigned fs) (append-nil all) (so_far [] (subst (λ (l : List CompiledFunction). AreAssigned l []) (sym (drop_all i fs le)) tt))
