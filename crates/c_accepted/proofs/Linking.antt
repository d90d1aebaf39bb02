-- A program of an accepted source, linked to what the source means, is as its steps have it.
use Rattle.std.proofs.Common.{◌≡◌, inl, inr, ℕ, ◌≤◌, sym, ap, ◌∙◌, subst, List, [], ◌∷◌, ◌++◌, length}
use Rattle.std.specs.Prelude.{Some, slice_get, slice_index_or}
use Rattle.mx_base.specs.declared.settings.Flags.{Flags}
use Rattle.c_tree.specs.declared.tree.Tree.{Tree}
use Rattle.c_tree.specs.Formed.{IsFormed}
use Rattle.c_check.specs.Accepted.{IsAccepted, after}
use Rattle.c_check.proofs.StandingItems.{numbered_source}
use Rattle.fat_ir.specs.Functions.{Target, OfC, Outside}
use Rattle.bounds_plan.specs.steps.Compiled.{FitsFunction, parameters_of, taken_by, FitsProgram}
use Rattle.bounds_plan.specs.meaning.Core.{Effect, Nothing, OfNumber, OfPointer, CopyStruct, Statement, Skip, Do, Then, If, While, DoWhile, For, Break, Continue, Return, ReturnNumber, ReturnPtr}
use Rattle.bounds_plan.specs.meaning.Functions.{FunctionOfC, Linked}
use Rattle.bounds_plan.specs.laws.Laws.{AllInside, LieInside, OfEffect, OfCopies, CopiesWhole}
use Rattle.bounds_plan.specs.elaboration.Source.{SourceLayout, Signature}
use Rattle.bounds_plan.specs.elaboration.Functions.{Defined, elaborated, signatures_of}
use Rattle.bounds_plan.specs.elaboration.Laws.{TakesParameters, AllFit, AllCopyInside}
use Rattle.bounds_plan.proofs.FittingItems.{elaborated_fit}
use Rattle.bounds_plan.proofs.Copying.{elaborated_whole}
use Rattle.c_accepted.specs.Alike.{meanings_of, TakesWhatItHas, AllTakeWhatTheyHave, IsSmall, AllCopySmall}
use Rattle.c_accepted.specs.Linked.{defined_by, declared_by, CallsRight, IsLinked}
use Rattle.c_accepted.specs.Symbols.{arguments_of, HaveSymbols, AllTakeBySymbol}
use Rattle.c_accepted.proofs.Elaborating.{take_what_they_have, copy_small}
use Rattle.c_accepted.proofs.Limits.{stay_small}
use Rattle.c_accepted.proofs.Taking.{symbols_take}
use Rattle.c_tree.proofs.FewStars.{formed_has_few_stars}

-- ---- one of the functions

all_fit_at : (takes : ℕ → ℕ) (before after all : List Defined) (d : Defined) → all ≡ before ++ (d ∷ after) → AllFit takes all → FitsFunction takes d.function
all_fit_at takes before after all d e h = at before (subst (AllFit takes) e h)
  where
    at : (before : List Defined) → AllFit takes (before ++ (d ∷ after)) → FitsFunction takes d.function
    at [] k = k.0
    at (x ∷ more) k = at more k.1

all_take_at : (ss : List Signature) (before after all : List Defined) (d : Defined) → all ≡ before ++ (d ∷ after) → AllTakeWhatTheyHave ss all → TakesWhatItHas ss d
all_take_at ss before after all d e h = at before (subst (AllTakeWhatTheyHave ss) e h)
  where
    at : (before : List Defined) → AllTakeWhatTheyHave ss (before ++ (d ∷ after)) → TakesWhatItHas ss d
    at [] k = k.0
    at (x ∷ more) k = at more k.1

same_signature : (ss : List Signature) (n m : ℕ) (s t : Signature) → n ≡ m → slice_get ss n ≡ Some s → slice_get ss m ≡ Some t → s ≡ t
same_signature ss n m s t e p q = cc

-- ---- calls

takes_right : (takes_outside : ℕ → ℕ) (program : ℕ → Linked) (ss : List Signature) (defined : List Defined) (number : ℕ) (s : Signature) (target : Target) → AllTakeWhatTheyHave ss defined → slice_get ss number ≡ Some s
    → CallsRight takes_outside program defined number s target → taken_by (parameters_of program) takes_outside target ≡ length s.parameters
takes_right takes_outside program ss defined number s (OfC g) all known (inl h) =
    let t = all_take_at ss h.one.stands.before h.one.stands.after defined h.one.d h.one.stands.is all in
    let same = same_signature ss h.one.d.number number t.signature s h.number_is t.known known in
    ap (λ (f : FunctionOfC). length f.parameters) h.one.is ∙ (t.takes ∙ ap (λ (x : Signature). length x.parameters) same)
takes_right takes_outside program ss defined number s (OfC g) all known (inr h) = h
takes_right takes_outside program ss defined number s (Outside g) all known h = h

pub linked_fits : (takes_outside : ℕ → ℕ) (program : ℕ → Linked) → IsLinked takes_outside program → FitsProgram takes_outside program
linked_fits takes_outside program l f =
    let from = l f in let x = from.source in let w = meanings_of (after x.tree).notes in let one = from.one in
    let takes : ℕ → ℕ = (λ symbol. taken_by (parameters_of program) takes_outside ((program f).targets symbol)) in
    let right : TakesParameters takes x.layout (declared_by x) = (λ number s known. takes_right takes_outside program (declared_by x) (defined_by x) number s ((program f).targets (slice_index_or x.layout.functions number 0))
    (take_what_they_have x.tree x.room x.formed x.few x.accepted x.layout x.flags) known (from.calls number s known)) in
    subst (FitsFunction takes) (sym one.is) (all_fit_at takes one.stands.before one.stands.after (defined_by x) one.d one.stands.is (elaborated_fit takes x.tree w x.layout x.flags right))

-- ---- symbols

by_symbol : (takes : ℕ → ℕ) (layout : SourceLayout) (ss : List Signature) (defined : List Defined) → TakesParameters takes layout ss → AllTakeWhatTheyHave ss defined → AllTakeBySymbol takes layout defined
by_symbol takes layout ss [] t all = tt
by_symbol takes layout ss (d ∷ more) t all = (t d.number all.0.signature all.0.known ∙ sym all.0.takes, by_symbol takes layout ss more t all.1)

pub take_by_symbol : (tree : Tree) (room : ℕ) → IsFormed tree → room ≤ 32768 → IsAccepted tree room → (layout : SourceLayout) (flags : Flags) → let w = meanings_of (after tree).notes in let ss = signatures_of tree w layout flags in
    HaveSymbols layout ss → AllTakeBySymbol (arguments_of layout.functions ss) layout (elaborated tree w layout flags)
take_by_symbol tree room formed few h layout flags symbols = let w = meanings_of (after tree).notes in let ss = signatures_of tree w layout flags in
    by_symbol (arguments_of layout.functions ss) layout ss (elaborated tree w layout flags) (symbols_take layout ss symbols) (take_what_they_have tree room formed few h layout flags)

-- ---- structs that are copied

both_effect : (e : Effect) → OfEffect IsSmall e → OfEffect AllInside e → OfEffect LieInside e
both_effect Nothing h k = tt
both_effect (OfNumber x) h k = tt
both_effect (OfPointer p) h k = tt
both_effect (CopyStruct size scalars to_place to from_place from) h k = (h, k)

pub both_copies : (s : Statement) → OfCopies IsSmall s → OfCopies AllInside s → OfCopies LieInside s
both_copies Skip h k = tt
both_copies (Do e) h k = both_effect e h k
both_copies (Then a b) h k = (both_copies a h.0 k.0, both_copies b h.1 k.1)
both_copies (If test a b) h k = (both_copies a h.0 k.0, both_copies b h.1 k.1)
both_copies (While test body) h k = both_copies body h k
both_copies (DoWhile body test) h k = both_copies body h k
both_copies (For test step body) h k = (both_effect step h.0 k.0, both_copies body h.1 k.1)
both_copies Break h k = tt
both_copies Continue h k = tt
both_copies Return h k = tt
both_copies (ReturnNumber e) h k = tt
both_copies (ReturnPtr p) h k = tt

both_at : (before after : List Defined) (d : Defined) → AllCopySmall (before ++ (d ∷ after)) → AllCopyInside (before ++ (d ∷ after)) → OfCopies LieInside d.function.body
both_at [] after d h k = both_copies d.function.body h.0 k.0
both_at (x ∷ before) after d h k = both_at before after d h.1 k.1

pub linked_whole : (takes_outside : ℕ → ℕ) (program : ℕ → Linked) → IsLinked takes_outside program → CopiesWhole program
linked_whole takes_outside program l f = let from = l f in let x = from.source in let one = from.one in
    let small = copy_small x.tree x.room x.formed x.few x.accepted (stay_small (after x.tree) (numbered_source x.tree x.room x.formed (formed_has_few_stars x.tree x.formed) x.few x.accepted).structs) x.layout x.flags in
    subst (λ (g : FunctionOfC). OfCopies LieInside g.body) (sym one.is) (both_at one.stands.before one.stands.after one.d (subst AllCopySmall one.stands.is small)
    (subst AllCopyInside one.stands.is (elaborated_whole x.tree (meanings_of (after x.tree).notes) x.layout x.flags)))
