-- Values of a function that runs stand in their homes.
use Rattle.code_laws.specs.Runs.{IsKnown, IsSort, AtHome, In as InHomes}
use Rattle.step_code.specs.Homes.{Assigned}
use Rattle.std.specs.Prelude.{nat_lt}
use Rattle.std.proofs.Common.{◌≡◌, ℕ, ◌^◌, ◌<◌, ◌≤◌, inl, inr, Bool, true, false, cond, List, refl, arith, ◌∙◌, sym, subst}
use Rattle.std.proofs.lemmas.Bool.Decides.{nat_tests, eqb_tells}
use Rattle.mx_base.specs.declared.limits.Bounds.{Bounds as BoundsPair}
use Rattle.fat_ir.specs.declared.step.FatStep.{FatStep}
use Rattle.fat_ir.specs.Values.{Held, Nothing, Number, Pair, Values, with_held, private_alone}
use Rattle.code_laws.specs.Views.{View}
use Rattle.step_code.specs.Steps.{Plan}
use Rattle.code_laws.specs.Views.{number_home, pair_home, with_number_home, with_pair_home}
use Rattle.code_laws.proofs.Homes.{Scratched, number_scratched, pair_scratched, number_kept, pair_kept_number, number_kept_pair, pair_kept_pair, number_put, pair_put}
use Rattle.step_code.specs.Homes.{Apart}

module _ (units private : ℕ) (steps : List FatStep) (p : Plan) (first last : ℕ → ℕ) (assigned : Assigned units private steps p first last) where
  abbrev In : ℕ → Values → View → Type 0
  In i values v = InHomes units private steps p first last assigned i values v

  abbrev Has : ℕ → ℕ → Type 0
  Has i x = (first x ≤ i) × (i ≤ last x)

  home_scratched : (x : ℕ) (h : Held) (v u : View) → IsSort (p.is_bounds x) h → Scratched v u → AtHome v (p.home x) h → AtHome u (p.home x) h
  home_scratched x Nothing v u sort scr at = tt
  home_scratched x (Number n) v u sort scr at = number_scratched units v u (p.home x) scr (assigned.number_fits x sort) ∙ at
  home_scratched x (Pair b) v u sort scr at = pair_scratched units v u (p.home x) scr (assigned.pair_fits x sort) ∙ at

  -- scratch registers may change, and places go by
  pub in_on : (i j : ℕ) (values : Values) (v u : View) → i ≤ j → Scratched v u → In i values v → In j values u
  in_on i j values v u le scr h = record {
    at_home = λ x l. home_scratched x (values x) v u (h.sorted x) scr (h.at_home x (omega arith));
    begun = λ x k. let b = h.begun x k in omega arith;
    sorted = h.sorted;
  }

  number_stays : (to n x : ℕ) (h : Held) (v : View) → IsSort (p.is_bounds x) h → p.is_bounds to ≡ false → (IsKnown h → Apart (p.is_bounds x) (p.home x) (p.is_bounds to) (p.home to)) → AtHome v (p.home x) h
      → AtHome (with_number_home (p.home to) n v) (p.home x) h
  number_stays to n x Nothing v sort is apart at = tt
  number_stays to n x (Number m) v sort is apart at = number_kept v n (p.home x) (p.home to) (subst (λ (b : Bool). Apart b (p.home x) false (p.home to)) sort (subst (λ (b : Bool). Apart (p.is_bounds x) (p.home x) b (p.home to)) is (apart tt))) ∙ at
  number_stays to n x (Pair b) v sort is apart at = pair_kept_number v n (p.home x) (p.home to) (subst (λ (b : Bool). Apart b (p.home x) false (p.home to)) sort (subst (λ (b : Bool). Apart (p.is_bounds x) (p.home x) b (p.home to)) is (apart tt))) ∙ at

  pair_stays : (to : ℕ) (b : BoundsPair) (x : ℕ) (h : Held) (v : View) → IsSort (p.is_bounds x) h → p.is_bounds to ≡ true → (IsKnown h → Apart (p.is_bounds x) (p.home x) (p.is_bounds to) (p.home to)) → AtHome v (p.home x) h
      → AtHome (with_pair_home (p.home to) b v) (p.home x) h
  pair_stays to b x Nothing v sort is apart at = tt
  pair_stays to b x (Number m) v sort is apart at = number_kept_pair v b (p.home x) (p.home to) (subst (λ (b : Bool). Apart b (p.home x) true (p.home to)) sort (subst (λ (b : Bool). Apart (p.is_bounds x) (p.home x) b (p.home to)) is (apart tt))) ∙ at
  pair_stays to b x (Pair c) v sort is apart at = pair_kept_pair v b (p.home x) (p.home to) (subst (λ (b : Bool). Apart b (p.home x) true (p.home to)) sort (subst (λ (b : Bool). Apart (p.is_bounds x) (p.home x) b (p.home to)) is (apart tt))) ∙ at

  -- a number is put into its home
  pub put_in : (i to n : ℕ) (values : Values) (v : View) → Has i to → p.is_bounds to ≡ false → In i values v → In i (with_held to (Number n) values) (with_number_home (p.home to) n v)
  put_in i to n values v has is h = record {
    at_home = λ x l. elim (eqb_tells x to) as (λ _. AtHome (with_number_home (p.home to) n v) (p.home x) (with_held to (Number n) values x)) [
      | inl e ↦ subst (λ (t : Bool). AtHome (with_number_home (p.home to) n v) (p.home x) (cond t (Number n) (values x))) (sym e.0) (subst (λ (z : ℕ). number_home (with_number_home (p.home to) n v) (p.home z) ≡ n) (sym e.1) (number_put units v n (p.home to) (assigned.number_fits to is)))
      | inr e ↦ subst (λ (t : Bool). AtHome (with_number_home (p.home to) n v) (p.home x) (cond t (Number n) (values x))) (sym e.0) (number_stays to n x (values x) v (h.sorted x) is (λ k. assigned.apart x to i e.1 (h.begun x k) l has.0 has.1) (h.at_home x l))
    ];
    begun = λ x. elim (eqb_tells x to) as (λ _. IsKnown (with_held to (Number n) values x) → first x ≤ i) [
      | inl e ↦ λ k. subst (λ (z : ℕ). first z ≤ i) (sym e.1) has.0
      | inr e ↦ subst (λ (t : Bool). IsKnown (cond t (Number n) (values x)) → first x ≤ i) (sym e.0) (h.begun x)
    ];
    sorted = λ x. elim (eqb_tells x to) as (λ _. IsSort (p.is_bounds x) (with_held to (Number n) values x)) [
      | inl e ↦ subst (λ (t : Bool). IsSort (p.is_bounds x) (cond t (Number n) (values x))) (sym e.0) (subst (λ (z : ℕ). p.is_bounds z ≡ false) (sym e.1) is)
      | inr e ↦ subst (λ (t : Bool). IsSort (p.is_bounds x) (cond t (Number n) (values x))) (sym e.0) (h.sorted x)
    ];
  }

  -- and bounds
  pub put_pair_in : (i to : ℕ) (b : BoundsPair) (values : Values) (v : View) → Has i to → p.is_bounds to ≡ true → b.ub < 2 ^ 64 → In i values v → In i (with_held to (Pair b) values) (with_pair_home (p.home to) b v)
  put_pair_in i to b values v has is small h = record {
    at_home = λ x l. elim (eqb_tells x to) as (λ _. AtHome (with_pair_home (p.home to) b v) (p.home x) (with_held to (Pair b) values x)) [
      | inl e ↦ subst (λ (t : Bool). AtHome (with_pair_home (p.home to) b v) (p.home x) (cond t (Pair b) (values x))) (sym e.0) (subst (λ (z : ℕ). pair_home (with_pair_home (p.home to) b v) (p.home z) ≡ b) (sym e.1) (pair_put units v b (p.home to) small (assigned.pair_fits to is)))
      | inr e ↦ subst (λ (t : Bool). AtHome (with_pair_home (p.home to) b v) (p.home x) (cond t (Pair b) (values x))) (sym e.0) (pair_stays to b x (values x) v (h.sorted x) is (λ k. assigned.apart x to i e.1 (h.begun x k) l has.0 has.1) (h.at_home x l))
    ];
    begun = λ x. elim (eqb_tells x to) as (λ _. IsKnown (with_held to (Pair b) values x) → first x ≤ i) [
      | inl e ↦ λ k. subst (λ (z : ℕ). first z ≤ i) (sym e.1) has.0
      | inr e ↦ subst (λ (t : Bool). IsKnown (cond t (Pair b) (values x)) → first x ≤ i) (sym e.0) (h.begun x)
    ];
    sorted = λ x. elim (eqb_tells x to) as (λ _. IsSort (p.is_bounds x) (with_held to (Pair b) values x)) [
      | inl e ↦ subst (λ (t : Bool). IsSort (p.is_bounds x) (cond t (Pair b) (values x))) (sym e.0) (subst (λ (z : ℕ). p.is_bounds z ≡ true) (sym e.1) is)
      | inr e ↦ subst (λ (t : Bool). IsSort (p.is_bounds x) (cond t (Pair b) (values x))) (sym e.0) (h.sorted x)
    ];
  }

  -- what a known value is, at its home
  pub number_in : (i x m : ℕ) (values : Values) (v : View) → In i values v → Has i x → values x ≡ Number m → number_home v (p.home x) ≡ m
  number_in i x m values v h has is = subst (AtHome v (p.home x)) is (h.at_home x has.1)

  pub number_sort : (i x m : ℕ) (values : Values) (v : View) → In i values v → values x ≡ Number m → p.is_bounds x ≡ false
  number_sort i x m values v h is = subst (IsSort (p.is_bounds x)) is (h.sorted x)

  pub pair_in : (i x : ℕ) (b : BoundsPair) (values : Values) (v : View) → In i values v → Has i x → values x ≡ Pair b → pair_home v (p.home x) ≡ b
  pair_in i x b values v h has is = subst (AtHome v (p.home x)) is (h.at_home x has.1)

  pub pair_sort : (i x : ℕ) (b : BoundsPair) (values : Values) (v : View) → In i values v → values x ≡ Pair b → p.is_bounds x ≡ true
  pair_sort i x b values v h is = subst (IsSort (p.is_bounds x)) is (h.sorted x)

  -- on a way back only private values stay
  alone_home : (x : ℕ) (t : Bool) (h : Held) (v u : View) → IsSort (p.is_bounds x) h → Scratched v u → (t ≡ true → AtHome v (p.home x) h) → AtHome u (p.home x) (cond t h Nothing)
  alone_home x true h v u sort scr at = home_scratched x h v u sort scr (at refl)
  alone_home x false h v u sort scr at = tt

  pub in_back : (i j : ℕ) (values : Values) (v u : View) → Scratched v u → ((x : ℕ) → x < private → j ≤ last x → i ≤ last x) → In i values v → In j (private_alone private values) u
  in_back i j values v u scr round h = record {
    at_home = λ x l. alone_home x (nat_lt x private) (values x) v u (h.sorted x) scr (λ e. h.at_home x (round x (grind (arith, nat_tests)) l));
    begun = λ x. elim (nat_lt x private) as (λ t. nat_lt x private ≡ t → IsKnown (cond t (values x) Nothing) → first x ≤ j) [
      | true ↦ λ e k. let z = assigned.private_first x (grind (arith, nat_tests)) in omega arith
      | false ↦ λ e k. absurd k
    ] refl;
    sorted = λ x. elim (nat_lt x private) as (λ t. IsSort (p.is_bounds x) (cond t (values x) Nothing)) [ true ↦ h.sorted x | false ↦ tt ];
  }
