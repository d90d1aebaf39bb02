-- The functions of a linked program are within the limits of code.
use Rattle.std.proofs.Common.{ℕ, sym, subst, Bool, List, [], ◌∷◌, ◌++◌}
use Rattle.std.specs.Prelude.{Option}
use Rattle.std.specs.List.{AllByRecursion}
use Rattle.fat_ir.specs.Step.{Located}
use Rattle.bounds_plan.specs.elaboration.Types.{sort_of}
use Rattle.bounds_plan.specs.meaning.Functions.{Linked}
use Rattle.c_accepted.specs.Linked.{declared_by, IsLinked}
use Rattle.asked_steps.specs.Trees.{FunctionWithin}
use Rattle.accepted_trees.specs.Limits.{gives_pointer, SymbolsServe, FunctionKeeps, LayoutWithin}
use Rattle.accepted_trees.proofs.Functions.{functions_keep}

each_there : {X : Type 0} (P : X → Type 0) (before : List X) (x : X) (after : List X) → AllByRecursion P (before ++ (x ∷ after)) → P x
each_there P [] x after h = h.0
each_there P (y ∷ before) x after h = each_there P before x after h.1

module _ (located : ℕ → Located) (returns : ℕ → Bool) (takes : ℕ → List (ℕ × Option ℕ) → Bool) where
  pub linked_keep : (takes_outside : ℕ → ℕ) (program : ℕ → Linked) (linked : IsLinked takes_outside program) (f : ℕ) → let source = (linked f).source in LayoutWithin source.layout → SymbolsServe located returns takes source.layout (declared_by source)
      → FunctionKeeps located returns takes (declared_by source) record { number = (linked f).one.d.number; function = (program f).fun }
  linked_keep takes_outside program linked f layout serve =
      let source = (linked f).source in let one = (linked f).one in
      let all = functions_keep located returns takes source.tree source.room source.formed source.few source.accepted source.layout source.flags layout serve in
      let there = each_there (FunctionKeeps located returns takes (declared_by source)) one.stands.before one.d one.stands.after (subst (AllByRecursion (FunctionKeeps located returns takes (declared_by source))) one.stands.is all) in record {
        signature = there.signature;
        known = there.known;
        within = subst (λ g. FunctionWithin located (gives_pointer (sort_of there.signature.result)) returns takes g) (sym one.is) there.within;
      }
