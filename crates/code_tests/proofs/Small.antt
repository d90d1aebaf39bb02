-- Functions of few values can have homes, and their parameters may wish.
use Rattle.std.proofs.Common.{ℕ, zero, suc, ◌+◌, ◌≡◌, ◌<◌, ◌≤◌, refl, sym, subst, Bool, true, false, List, [], ◌∷◌, length, Some, arith, slice_get, nat_lt, ◌&&◌, slice_index_or}
use Rattle.std.specs.List.{All}
use Rattle.std.proofs.lemmas.Bool.{and_parts}
use Rattle.std.proofs.lemmas.Bool.Decides.{nat_tests}
use Rattle.fat_ir.specs.declared.program.FatFun.{FatFun}
use Rattle.fat_ir.specs.declared.step.FatStep.{FatStep}
use Rattle.fat_ir.specs.Spans.{named, Rising, InFewSpans, IsAssignable}
use Rattle.reg_assign.specs.declared.wishes.Wishes.{Wishes}
use Rattle.reg_assign.specs.Wishing.{WishesFor, AreWishes}
use Rattle.code_tests.specs.Functions.{adding, calling, first_one, first_two}

rising_few : (least n : ℕ) (vs : List ℕ) → Rising least vs → All (λ v. v < n) vs → least ≤ n → least + length vs ≤ n
rising_few least n [] r a le = omega arith
rising_few least n (v ∷ vs) r a le = let low = r.0 in let lt = a zero v (omega arith) in
    let h = rising_few (v + 1) n vs r.1 (λ k d less. a (suc k) d (omega arith)) (omega arith) in omega arith

abbrev values_below : (n : ℕ) → List ℕ → Bool
values_below n [] = true
values_below n (v ∷ vs) = nat_lt v n && values_below n vs

abbrev steps_below : (n : ℕ) → List FatStep → Bool
steps_below n [] = true
steps_below n (step ∷ rest) = values_below n (named step) && steps_below n rest

all_below : (n : ℕ) (vs : List ℕ) → values_below n vs ≡ true → All (λ v. v < n) vs
all_below n [] e k d lt = absurd (omega arith)
all_below n (v ∷ vs) e zero d lt = let a = (and_parts (nat_lt v n) (values_below n vs) e).0 in grind (arith, nat_tests)
all_below n (v ∷ vs) e (suc k) d lt = all_below n vs (and_parts (nat_lt v n) (values_below n vs) e).1 k d (omega arith)

named_below : (n : ℕ) (steps : List FatStep) → steps_below n steps ≡ true → (i : ℕ) (step : FatStep) → slice_get steps i ≡ Some step → All (λ v. v < n) (named step)
named_below n [] e i step s = cc
named_below n (x ∷ rest) e zero step s = let same : x ≡ step = cc in
    subst (λ y. All (λ v. v < n) (named y)) same (all_below n (named x) (and_parts (values_below n (named x)) (steps_below n rest) e).0)
named_below n (x ∷ rest) e (suc i) step s = named_below n rest (and_parts (values_below n (named x)) (steps_below n rest) e).1 i step s

few_values : (f : FatFun) (sort : Bool) → f.private + f.temps ≤ 152 → (i : ℕ) → InFewSpans 152 f sort i
few_values f sort few i values rising all = let h = rising_few 0 (f.private + f.temps) values rising (λ k d lt. (all k d lt).0.0) (omega arith) in omega arith

small_can : (f : FatFun) → length f.bounds ≡ f.private + f.temps → f.arrived ≤ f.temps → f.private + f.temps ≤ 152 → steps_below (f.private + f.temps) f.steps ≡ true → IsAssignable f
small_can f numbered arrived few below = record {
  numbered = numbered;
  arrived = arrived;
  below = named_below (f.private + f.temps) f.steps below;
  numbers = few_values f false few;
  bounds = few_values f true few;
}

pub calling_can : (f : FatFun) → f ≡ calling → IsAssignable f
calling_can f e = subst IsAssignable (sym e) (small_can calling refl (omega arith) (omega arith) refl)

pub adding_can : (f : FatFun) → f ≡ adding → IsAssignable f
adding_can f e = subst IsAssignable (sym e) (small_can adding refl (omega arith) (omega arith) refl)

of_one : (v place : ℕ) → WishesFor (0 ∷ []) v place → (place ≡ 0) × (0 ≡ v)
of_one v zero w = (refl, w.1)
of_one v (suc place) w = absurd (let a = w.0 in omega arith)

of_two : (v place : ℕ) → WishesFor (0 ∷ 1 ∷ []) v place → (place ≡ v) × (v < 2)
of_two v zero w = let e = w.1 in (omega arith, omega arith)
of_two v (suc zero) w = let e = w.1 in (omega arith, omega arith)
of_two v (suc (suc place)) w = absurd (let a = w.0 in omega arith)

of_none : (v place : ℕ) → WishesFor [] v place → ⊥
of_none v place w = absurd (let a = w.0 in omega arith)

numbers_below : (v : ℕ) → v < 2 → slice_index_or (false ∷ false ∷ false ∷ []) v false ≡ false
numbers_below zero lt = refl
numbers_below (suc zero) lt = refl
numbers_below (suc (suc v)) lt = absurd (omega arith)

pub two_may : (f : FatFun) (w : Wishes) → f ≡ calling → w ≡ first_two → AreWishes f w
two_may f w e g = subst (λ x. AreWishes x w) (sym e) (subst (AreWishes calling) (sym g) (record {
  numbers = record {
    few = omega arith;
    first = λ v is. let h = (of_two v is.place is.wishes).1 in omega arith;
    kind = λ v is. numbers_below v (of_two v is.place is.wishes).1;
    once = λ v place other a b. let h = (of_two v place a).0 in let k = (of_two v other b).0 in omega arith;
  };
  bounds = record {
    few = omega arith;
    first = λ v is. absurd (of_none v is.place is.wishes);
    kind = λ v is. absurd (of_none v is.place is.wishes);
    once = λ v place other a. absurd (of_none v place a);
  };
}))

pub one_may : (f : FatFun) (w : Wishes) → f ≡ adding → w ≡ first_one → AreWishes f w
one_may f w e g = subst (λ x. AreWishes x w) (sym e) (subst (AreWishes adding) (sym g) (record {
  numbers = record {
    few = omega arith;
    first = λ v is. let h = (of_one v is.place is.wishes).1 in omega arith;
    kind = λ v is. subst (λ x. slice_index_or (false ∷ true ∷ false ∷ false ∷ false ∷ []) x false ≡ false) (of_one v is.place is.wishes).1 refl;
    once = λ v place other a b. let h = (of_one v place a).0 in let k = (of_one v other b).0 in omega arith;
  };
  bounds = record {
    few = omega arith;
    first = λ v is. absurd (of_none v is.place is.wishes);
    kind = λ v is. absurd (of_none v is.place is.wishes);
    once = λ v place other a. absurd (of_none v place a);
  };
}))
