-- The functions of a source can be linked to one another by their symbols, if each has one of its own, and to functions outside.
use Rattle.std.proofs.Common.{◌≡◌, inl, ◌≤◌, ℕ, zero, suc, ◌+◌, ◌<◌, ◌==◌, refl, sym, ap, ◌∙◌, subst, Bool, true, false, List, [], ◌∷◌, ◌++◌, length, length-append, append_assoc, if◌then◌else◌, arith}
use Rattle.std.specs.Prelude.{Some, slice_get, slice_index_or}
use Rattle.std.proofs.lemmas.Bool.Decides.{nat_tests}
use Rattle.std.proofs.lemmas.Option.{get_or_from_slice_get}
use Rattle.c_types.specs.Types.{Void}
use Rattle.fat_ir.specs.Functions.{Target, OfC, Outside}
use Rattle.fat_ir.specs.Step.{FunctionAt}
use Rattle.bounds_plan.specs.meaning.Functions.{Linked}
use Rattle.bounds_plan.specs.laws.Roots.{StandsIn}
use Rattle.bounds_plan.specs.elaboration.Source.{SourceLayout, Signature}
use Rattle.bounds_plan.specs.elaboration.Functions.{Defined}
use Rattle.c_accepted.specs.Linked.{Source, defined_by, declared_by, IsOneOf, CallsRight, CanBeLinked}
use Rattle.c_accepted.specs.Symbols.{AllDiffer, HaveSymbols}
use Rattle.c_accepted.proofs.Taking.{other_symbol, got_within}

-- ---- the number of a symbol

abbrev place : List ℕ → ℕ → ℕ
place [] symbol = 0
place (f ∷ fs) symbol = if f == symbol then 0 else suc (place fs symbol)

place_of : (fs : List ℕ) (n : ℕ) → AllDiffer fs → n < length fs → place fs (slice_index_or fs n 0) ≡ n
place_of [] n h lt = absurd (omega arith)
place_of (f ∷ fs) zero h lt = let same : (f == f) ≡ true = grind (arith, nat_tests) in ap (λ b. if b then 0 else suc (place fs f)) same
place_of (f ∷ fs) (suc n) h lt =
    let differ = other_symbol f fs n (omega arith) h.0 in let other : (f == slice_index_or fs n 0) ≡ false = grind (arith, nat_tests, differ) in
    ap (λ b. if b then 0 else suc (place fs (slice_index_or fs n 0))) other ∙ ap suc (place_of fs n h.1 (omega arith))

-- ---- what a number is linked to: the first function of that number from here on, or one outside

abbrev target : List Defined → (at number : ℕ) → Target
target [] at number = Outside number
target (d ∷ more) at number = if d.number == number then OfC at else target more (at + 1) number

pub no_signature : Signature
no_signature = record { result = Void; parameters = [] }

module _ (layout : SourceLayout) (signatures : List Signature) (first : Defined) (others : List Defined) where
  abbrev all : List Defined
  all = first ∷ others

  abbrev takes : ℕ → ℕ
  takes number = length (slice_index_or signatures number no_signature).parameters

  abbrev linked_to : ℕ → Linked
  linked_to f = record { fun = (slice_index_or all f first).function; targets = λ symbol. target all 0 (place layout.functions symbol); located = λ symbol. FunctionAt 0 }

  stands_or : (before more : List Defined) (n : ℕ) → all ≡ before ++ more → StandsIn (slice_index_or more n first) all
  stands_or before [] n e = record { before = []; after = others; is = refl }
  stands_or before (d ∷ more) zero e = record { before = before; after = more; is = e }
  stands_or before (d ∷ more) (suc n) e = stands_or (before ++ (d ∷ [])) more n (e ∙ sym (append_assoc before (d ∷ []) more))

  got_behind : (before more : List Defined) (d : Defined) → slice_index_or (before ++ (d ∷ more)) (length before) first ≡ d
  got_behind [] more d = refl
  got_behind (x ∷ before) more d = got_behind before more d

  calls_by : (b : Bool) (before more : List Defined) (d : Defined) (at number : ℕ) (s : Signature) → (d.number == number) ≡ b → all ≡ before ++ (d ∷ more) → at ≡ length before → CallsRight takes linked_to all number s (target more (at + 1) number)
      → CallsRight takes linked_to all number s (if b then OfC at else target more (at + 1) number)
  calls_by true before more d at number s t e l rest =
      let here : slice_index_or all at first ≡ d = (λ i. slice_index_or (e i) (l i) first) ∙ got_behind before more d in inl record {
        one = record { d = d; stands = record { before = before; after = more; is = e }; is = ap (λ (x : Defined). x.function) here };
        number_is = grind (arith, nat_tests);
      }
  calls_by false before more d at number s t e l rest = rest

  calls_right : (before more : List Defined) (at number : ℕ) (s : Signature) → all ≡ before ++ more → at ≡ length before → slice_get signatures number ≡ Some s → CallsRight takes linked_to all number s (target more at number)
  calls_right before [] at number s e l known = ap (λ (x : Signature). length x.parameters) (get_or_from_slice_get signatures number s no_signature known)
  calls_right before (d ∷ more) at number s e l known = calls_by (d.number == number) before more d at number s refl e l
      (calls_right (before ++ (d ∷ [])) more (at + 1) number s (e ∙ sym (append_assoc before (d ∷ []) more)) (omega (arith, length-append before (d ∷ []), l)) known)

  pub right_calls : HaveSymbols layout signatures → (number : ℕ) (s : Signature) → slice_get signatures number ≡ Some s → CallsRight takes linked_to all number s (target all 0 (place layout.functions (slice_index_or layout.functions number 0)))
  right_calls h number s known = subst (λ n. CallsRight takes linked_to all number s (target all 0 n)) (sym (place_of layout.functions number h.differ (omega (arith, got_within signatures number s known, h.enough))))
      (calls_right [] all 0 number s refl refl known)

  pub right_functions : (f : ℕ) → IsOneOf all (linked_to f).fun
  right_functions f = record { d = slice_index_or all f first; stands = stands_or [] all f refl; is = refl }

  pub link_source : (source : Source) → source.layout ≡ layout → declared_by source ≡ signatures → defined_by source ≡ all → HaveSymbols layout signatures → CanBeLinked source
  link_source source l d e h = record {
    takes_outside = takes;
    program = linked_to;
    functions = λ f. subst (λ ds. IsOneOf ds (linked_to f).fun) (sym e) (right_functions f);
    linked = λ f. record {
      source = source;
      one = subst (λ ds. IsOneOf ds (linked_to f).fun) (sym e) (right_functions f);
      calls = λ number s known. subst (λ ds. CallsRight takes linked_to ds number s ((linked_to f).targets (slice_index_or source.layout.functions number 0))) (sym e)
          (subst (λ (x : SourceLayout). CallsRight takes linked_to all number s ((linked_to f).targets (slice_index_or x.functions number 0))) (sym l) (right_calls h number s (subst (λ xs. slice_get xs number ≡ Some s) d known)));
    };
  }

link_by : (source : Source) (ds : List Defined) → defined_by source ≡ ds → 1 ≤ length ds → HaveSymbols source.layout (declared_by source) → CanBeLinked source
link_by source [] e le h = absurd (omega arith)
link_by source (first ∷ others) e le h = link_source source.layout (declared_by source) first others source refl refl e h

pub can_link : (source : Source) → 1 ≤ length (defined_by source) → HaveSymbols source.layout (declared_by source) → CanBeLinked source
can_link source le h = link_by source (defined_by source) refl le h
