-- No step of a function lies in the spans of more values than its private variables and its pairs of temporaries have: the temporaries in which
-- parameters arrive are named in the first steps alone, and of the pairs only the first one there.
use Rattle.std.proofs.Common.{ℕ, zero, suc, ◌+◌, ◌*◌, ◌≡◌, ◌≤◌, ◌<◌, refl, sym, ap, ◌∙◌, subst, ◌⊎◌, inl, inr, List, [], ◌∷◌, ◌++◌, Option, Some, None, Bool, true, false, cond, nat_lt, arith}
use Rattle.std.specs.Prelude.{slice_index_or, length}
use Rattle.std.specs.List.{All, Contains}
use Rattle.std.proofs.lemmas.Bool.Decides.{nat_tests}
use Rattle.std.proofs.lemmas.List.{length-append, append_assoc, get_or_append_left, get_or-append-add}
use Rattle.std.proofs.lemmas.List.Elements.{All-nil, All-cons, All-append, All-contains}
use Rattle.std.proofs.lemmas.Option.{slice_get_within}
use Rattle.fat_ir.specs.declared.program.FatFun.{FatFun}
use Rattle.fat_ir.specs.declared.step.FatStep.{FatStep}
use Rattle.fat_ir.specs.declared.step.FatStep.TheVariants as s
use Rattle.fat_ir.specs.Named.{maybe, in_arguments}
use Rattle.fat_ir.specs.Spans.{named, StandsAt, Spans, InSpan, HasSort, Rising, InFewSpans, most_at_once, IsAssignable}
use Rattle.bounds_plan.specs.meaning.Functions.{Parameter, Private, Framed, FunctionOfC}
use Rattle.bounds_plan.specs.steps.Code.{code_of, arrivals, arrived, in_turn, most_pairs, fat_function}
use Rattle.bounds_plan.specs.steps.Follows.{IsNumber, IsPointer}
use Rattle.bounds_plan.specs.steps.Compiled.{sorts_of, FitsFunction}
use Rattle.bounds_plan.specs.steps.Sorts.{pairs_of, OfSome, OfArguments, NamesRight, AllNameRight, NumberIn, BoundsIn, how_many, same_sort}
use Rattle.bounds_plan.proofs.Counting.{weights, at_most_weights, weights_add, three_parts, weights_of, no_weights, sort_itself, turns_count}
use Rattle.bounds_plan.proofs.Sorts as sorted

-- ---- the values that a step names

module _ (N B Q : ℕ → Type 0) (n : (v : ℕ) → N v → Q v) (b : (v : ℕ) → B v → Q v) where
  none : All Q []
  none = All-nil Q

  one : (v : ℕ) → Q v → All Q (v ∷ [])
  one v h = All-cons Q v [] h none

  two : (v w : ℕ) → Q v → Q w → All Q (v ∷ w ∷ [])
  two v w h g = All-cons Q v (w ∷ []) h (one w g)

  three : (v w x : ℕ) → Q v → Q w → Q x → All Q (v ∷ w ∷ x ∷ [])
  three v w x h g k = All-cons Q v (w ∷ x ∷ []) h (two w x g k)

  some_number : (o : Option ℕ) → OfSome N o → All Q (maybe o)
  some_number None h = none
  some_number (Some v) h = one v (n v h)

  some_bounds : (o : Option ℕ) → OfSome B o → All Q (maybe o)
  some_bounds None h = none
  some_bounds (Some v) h = one v (b v h)

  arguments : (all : List (ℕ × Option ℕ)) → OfArguments N B all → All Q (in_arguments all)
  arguments [] h = none
  arguments (a ∷ rest) h = All-cons Q a.0 _ (n a.0 h.0) (All-append Q (maybe a.1) (in_arguments rest) (some_bounds a.1 h.1) (arguments rest h.2))

  copied : (to from : ℕ) → (N to × N from) ⊎ (B to × B from) → All Q (from ∷ to ∷ [])
  copied to from (inl h) = two from to (n from h.1) (n to h.0)
  copied to from (inr h) = two from to (b from h.1) (b to h.0)

  all_named : (step : FatStep) → NamesRight N B step → All Q (named step)
  all_named (s.Const to k) h = one to (n to h)
  all_named (s.Copy to from) h = copied to from h
  all_named (s.Arith to op kind x y) h = three x y to (n x h.1) (n y h.2) (n to h.0)
  all_named (s.Compare to op kind x y) h = three x y to (n x h.1) (n y h.2) (n to h.0)
  all_named (s.Extend to from kind) h = two from to (n from h.1) (n to h.0)
  all_named (s.Place to bounds symbol offset size) h = two to bounds (n to h.0) (b bounds h.1)
  all_named (s.Make to p k) h = three p k to (n p h.1) (n k h.2) (b to h.0)
  all_named (s.Meet to x y) h = three x y to (b x h.1) (b y h.2) (b to h.0)
  all_named (s.Bound to from upper) h = two from to (b from h.1) (n to h.0)
  all_named (s.Judge value size bounds write place) h = two value bounds (n value h.0) (b bounds h.1)
  all_named (s.Load p to kind) h = two p to (n p h.0) (n to h.1)
  all_named (s.Store p from kind) h = two p from (n p h.0) (n from h.1)
  all_named (s.LoadPtr p to bounds) h = three p to bounds (n p h.0) (n to h.1) (b bounds h.2)
  all_named (s.StorePtr p from bounds) h = three p from bounds (n p h.0) (n from h.1) (b bounds h.2)
  all_named (s.Label k) h = none
  all_named (s.Jump k) h = none
  all_named (s.JumpIf from k) h = one from (n from h)
  all_named (s.Call symbol args to bounds) h = All-append Q (in_arguments args) (maybe to ++ maybe bounds) (arguments args h.0) (All-append Q (maybe to) (maybe bounds) (some_number to h.1) (some_bounds bounds h.2))
  all_named (s.Service service arg to) h = All-append Q (maybe arg) (maybe to) (some_number arg h.0) (some_number to h.1)
  all_named (s.Give from bounds) h = All-append Q (maybe from ++ maybe bounds) [] (All-append Q (maybe from) (maybe bounds) (some_number from h.0) (some_bounds bounds h.1)) none

  step_at : (steps : List FatStep) (i : ℕ) (step : FatStep) → StandsAt steps i step → AllNameRight N B steps → All Q (named step)
  step_at [] i step stands h = cc
  step_at (x ∷ steps) zero step stands h = let e : x ≡ step = cc in subst (λ y. All Q (named y)) e (all_named x h.0)
  step_at (x ∷ steps) (suc i) step stands h = step_at steps i step stands h.1

-- ---- the first steps and the others

-- a step of two lists one after another is one of the first, or one of the second
stands_in : (a b : List FatStep) (i : ℕ) (step : FatStep) → StandsAt (a ++ b) i step → ((i < length a) × StandsAt a i step) ⊎ ((length a ≤ i) × ((j : ℕ) × StandsAt b j step))
stands_in [] b i step h = inr (omega arith, (i, h))
stands_in (x ∷ a) b zero step h = inl (omega arith, h)
stands_in (x ∷ a) b (suc i) step h = by_cases (stands_in a b i step h)
  where
    by_cases : ((i < length a) × StandsAt a i step) ⊎ ((length a ≤ i) × ((j : ℕ) × StandsAt b j step)) → ((suc i < suc (length a)) × StandsAt a i step) ⊎ ((suc (length a) ≤ suc i) × ((j : ℕ) × StandsAt b j step))
    by_cases (inl g) = inl ((let lt = g.0 in omega (arith, lt)), g.1)
    by_cases (inr g) = inr ((let le = g.0 in omega (arith, le)), g.1)

no_label : (ps : List Parameter) (t d i k : ℕ) → StandsAt (arrivals ps t d) i (s.Label k) → ⊥
no_label [] t d i k h = cc
no_label (Private x kind ∷ ps) t d i k h = no_label ps t d i k h
no_label (Framed offset (Some kind) ∷ ps) t d zero k h = cc
no_label (Framed offset (Some kind) ∷ ps) t d (suc zero) k h = cc
no_label (Framed offset (Some kind) ∷ ps) t d (suc (suc i)) k h = no_label ps (t + 1) d i k h
no_label (Framed offset None ∷ ps) t d zero k h = cc
no_label (Framed offset None ∷ ps) t d (suc zero) k h = cc
no_label (Framed offset None ∷ ps) t d (suc (suc i)) k h = no_label ps (t + 2) d i k h

long_enough : (ps : List Parameter) (t d : ℕ) → length (arrived ps) ≤ length (arrivals ps t d)
long_enough [] t d = omega arith
long_enough (Private x kind ∷ ps) t d = long_enough ps t d
long_enough (Framed offset (Some kind) ∷ ps) t d = let h = long_enough ps (t + 1) d in omega (arith, h)
long_enough (Framed offset None ∷ ps) t d = let h = long_enough ps (t + 2) d in omega (arith, h)

few_arrive : (b : Bool) (ps : List Parameter) → how_many b (arrived ps) ≤ length ps
few_arrive b [] = omega arith
few_arrive b (Private x kind ∷ ps) = let h = few_arrive b ps in omega (arith, h)
few_arrive true (Framed offset (Some kind) ∷ ps) = let h = few_arrive true ps in omega (arith, h)
few_arrive false (Framed offset (Some kind) ∷ ps) = let h = few_arrive false ps in omega (arith, h)
few_arrive true (Framed offset None ∷ ps) = let h = few_arrive true ps in omega (arith, h)
few_arrive false (Framed offset None ∷ ps) = let h = few_arrive false ps in omega (arith, h)

module _ (takes : ℕ → ℕ) (f : FunctionOfC) (fits : FitsFunction takes f) (name : ℕ) where
  abbrev home : ℕ
  home = length f.privates

  abbrev base : ℕ
  base = home + length (arrived f.parameters)

  abbrev entry : List FatStep
  entry = arrivals f.parameters home base

  abbrev rest : List FatStep
  rest = code_of f.body base 1 0 0 ++ (s.Label 0 ∷ [])

  abbrev fat : FatFun
  fat = fat_function name f

  -- the first steps name no pair but the first
  abbrev Early : ℕ → Type 0
  Early v = v < base + 2

  -- the others name no value in which a parameter arrives
  abbrev Late : ℕ → Type 0
  Late v = home ≤ v → base ≤ v

  early_number : (x : ℕ) → IsNumber home (sorts_of f) x → Early x
  early_number x h = let lt = h.0 in omega (arith, lt)

  early_pointer : (x : ℕ) → IsPointer home (sorts_of f) x → Early x × Early (x + 1)
  early_pointer x h = let lt = h.0 in (omega (arith, lt), omega (arith, lt))

  late_number : (x : ℕ) → IsNumber home (sorts_of f) x → Late x
  late_number x h = λ le. let lt = h.0 in omega (arith, lt, le)

  late_pointer : (x : ℕ) → IsPointer home (sorts_of f) x → Late x × Late (x + 1)
  late_pointer x h = (λ le. let lt = h.0 in omega (arith, lt, le), λ le. let lt = h.0 in omega (arith, lt, le))

  arrive : (ps : List Parameter) (t : ℕ) → t + length (arrived ps) ≤ base → sorted.Arrive home (sorts_of f) takes Early Early early_number early_pointer ps t
  unfolding sorted.Arrive
  arrive [] t le = tt
  arrive (Private x kind ∷ ps) t le = arrive ps t le
  arrive (Framed offset (Some kind) ∷ ps) t le = (omega (arith, le), arrive ps (t + 1) (omega (arith, le)))
  arrive (Framed offset None ∷ ps) t le = ((omega (arith, le), omega (arith, le)), arrive ps (t + 2) (omega (arith, le)))

  entry_early : AllNameRight Early Early entry
  entry_early = sorted.arrivals_right home (sorts_of f) takes Early Early early_number early_pointer f.parameters home base (arrive f.parameters home (omega arith)) (omega arith, omega arith)

  rest_late : AllNameRight Late Late rest
  rest_late = sorted.both home (sorts_of f) takes Late Late late_number late_pointer (code_of f.body base 1 0 0) _
      (sorted.right_of home (sorts_of f) takes Late Late late_number late_pointer f.body base 1 0 0 fits.body (λ i lt. (λ le. omega arith, λ le. omega arith))) (tt, tt)

  names_early : (i v : ℕ) (step : FatStep) → StandsAt entry i step → Contains (named step) v → v < base + 2
  names_early i v step stands has = All-contains Early (named step) v (step_at Early Early Early (λ x h. h) (λ x h. h) entry i step stands entry_early) has

  names_late : (i v : ℕ) (step : FatStep) → StandsAt rest i step → Contains (named step) v → home ≤ v → base ≤ v
  names_late i v step stands has = All-contains Late (named step) v (step_at Late Late Late (λ x h. h) (λ x h. h) rest i step stands rest_late) has

  -- ---- spans

  -- a pair but the first has its span behind the first steps
  behind : (v : ℕ) → base + 2 ≤ v → Spans fat v record { from = length entry; past = length (entry ++ rest) }
  behind v high = record {
    names = λ i step stands has. by_cases i step (slice_get_within (entry ++ rest) i step stands) has (stands_in entry rest i step stands);
    first = λ lt. absurd (omega (arith, lt, high));
    whole = λ label jump back from i low high' h j low' most. let ends = slice_get_within (entry ++ rest) jump back.step back.ends in (omega (arith, from, low'), omega (arith, ends, most));
  }
    where
      by_cases : (i : ℕ) (step : FatStep) → i < length (entry ++ rest) → Contains (named step) v → ((i < length entry) × StandsAt entry i step) ⊎ ((length entry ≤ i) × ((j : ℕ) × StandsAt rest j step)) → (length entry ≤ i) × (i < length (entry ++ rest))
      by_cases i step lt has (inl h) = absurd (omega (arith, high, names_early i v step h.1 has))
      by_cases i step lt has (inr h) = (h.0, lt)

  -- a value in which a parameter arrives has its span in the first steps
  within : (v : ℕ) → home ≤ v → v < base → Spans fat v record { from = 0; past = length entry }
  within v low lt = record {
    names = λ i step stands has. by_cases i step has (stands_in entry rest i step stands);
    first = λ lt'. let some = long_enough f.parameters home base in (omega arith, omega (arith, some, low, lt));
    whole = λ label jump back from i low' high h j low'' most. absurd (no_way_back label back.number (let lt' = h.1 in omega (arith, low', lt')) (stands_in entry rest label (s.Label back.number) back.begins));
  }
    where
      by_cases : (i : ℕ) (step : FatStep) → Contains (named step) v → ((i < length entry) × StandsAt entry i step) ⊎ ((length entry ≤ i) × ((j : ℕ) × StandsAt rest j step)) → (0 ≤ i) × (i < length entry)
      by_cases i step has (inl h) = (omega arith, h.0)
      by_cases i step has (inr h) = let g = h.1 in absurd (omega (arith, lt, names_late g.0 v step g.1 has low))

      no_way_back : (label k : ℕ) → label < length entry → ((label < length entry) × StandsAt entry label (s.Label k)) ⊎ ((length entry ≤ label) × ((j : ℕ) × StandsAt rest j (s.Label k))) → ⊥
      no_way_back label k less (inl h) = no_label f.parameters home base label k h.1
      no_way_back label k less (inr h) = let le = h.0 in omega (arith, less, le)

  in_entry : (v i : ℕ) → InSpan fat v i → i < length entry → v < base + 2
  in_entry v i inside lt = by_cases (nat_lt v (base + 2)) refl
    where
      by_cases : (c : Bool) → nat_lt v (base + 2) ≡ c → v < base + 2
      by_cases true e = grind (arith, nat_tests, e)
      by_cases false e = let high : base + 2 ≤ v = grind (arith, nat_tests, e) in let h = (inside record { from = length entry; past = length (entry ++ rest) } (behind v high)).0 in absurd (omega (arith, h, lt))

  in_rest : (v i : ℕ) → InSpan fat v i → length entry ≤ i → home ≤ v → base ≤ v
  in_rest v i inside le low = by_cases (nat_lt v base) refl
    where
      by_cases : (c : Bool) → nat_lt v base ≡ c → base ≤ v
      by_cases true e = let lt : v < base = grind (arith, nat_tests, e) in let h = (inside record { from = 0; past = length entry } (within v low lt)).1 in absurd (omega (arith, h, le))
      by_cases false e = grind (arith, nat_tests, e)

  -- ---- how many of a sort

  abbrev list : List Bool
  list = f.privates ++ arrived f.parameters ++ in_turn most_pairs

  abbrev sort_at : (b : Bool) → ℕ → ℕ
  sort_at b v = same_sort b (slice_index_or list v false)

  split : list ≡ f.privates ++ (arrived f.parameters ++ in_turn most_pairs)
  split = append_assoc f.privates (arrived f.parameters) (in_turn most_pairs)

  private_at : (x : ℕ) → x < home → slice_index_or list x false ≡ slice_index_or f.privates x false
  private_at x lt = ap (λ (xs : List Bool). slice_index_or xs x false) split ∙ get_or_append_left f.privates (arrived f.parameters ++ in_turn most_pairs) false x lt

  arrived_at : (v x : ℕ) → v ≡ home + x → x < length (arrived f.parameters) → slice_index_or list v false ≡ slice_index_or (arrived f.parameters) x false
  arrived_at v x e lt = ap (λ (xs : List Bool). slice_index_or xs v false) split ∙ ap (λ j. slice_index_or (f.privates ++ (arrived f.parameters ++ in_turn most_pairs)) j false) e
      ∙ get_or-append-add f.privates (arrived f.parameters ++ in_turn most_pairs) x false ∙ get_or_append_left (arrived f.parameters) (in_turn most_pairs) false x lt

  pair_at : (v x : ℕ) → v ≡ base + x → slice_index_or list v false ≡ slice_index_or (in_turn most_pairs) x false
  pair_at v x e =
      let size : base ≡ length (f.privates ++ arrived f.parameters) = sym (length-append f.privates (arrived f.parameters)) in
      ap (λ j. slice_index_or list j false) (e ∙ ap (λ k. k + x) size) ∙ get_or-append-add (f.privates ++ arrived f.parameters) (in_turn most_pairs) x false

  -- the private values
  privates_count : (w : ℕ → ℕ) (b : Bool) → ((v : ℕ) → v < home → w v ≡ sort_at b v) → weights w 0 home ≤ how_many b f.privates
  privates_count w b h = weights_of w b f.privates 0 (λ v x e lt. by_place v x (e ∙ omega arith) lt)
    where
      by_place : (v x : ℕ) → v ≡ x → x < home → w v ≡ same_sort b (slice_index_or f.privates x false)
      by_place v x e lt = ap w e ∙ h x lt ∙ ap (same_sort b) (private_at x lt)

  first_pair : (x : ℕ) → x < 2 → slice_index_or (in_turn most_pairs) x false ≡ slice_index_or (false ∷ true ∷ []) x false
  first_pair zero lt = refl
  first_pair (suc zero) lt = refl
  first_pair (suc (suc x)) lt = absurd (omega (arith, lt))

  -- the first steps: private values, those in which parameters arrive, and a pair
  entry_count : (b : Bool) (values : List ℕ) → Rising 0 values → All (λ v. (v < base + 2) × (1 ≤ sort_at b v)) values → length values ≤ how_many b f.privates + (how_many b (arrived f.parameters) + how_many b (in_turn 1))
  entry_count b values up h = three_parts (length values) (weights (sort_at b) 0 (home + (length (arrived f.parameters) + 2))) (weights (sort_at b) home (length (arrived f.parameters) + 2)) (weights (sort_at b) 0 home)
      (weights (sort_at b) home (length (arrived f.parameters))) (weights (sort_at b) base 2) (how_many b f.privates) (how_many b (arrived f.parameters)) (how_many b (in_turn 1))
      (at_most_weights (sort_at b) (home + (length (arrived f.parameters) + 2)) 0 (base + 2) values (omega arith) up h)
      (weights_add (sort_at b) 0 home (length (arrived f.parameters) + 2) home (omega arith))
      (weights_add (sort_at b) home (length (arrived f.parameters)) 2 base refl)
      (privates_count (sort_at b) b (λ v lt. refl))
      (weights_of (sort_at b) b (arrived f.parameters) home (λ v x e lt. ap (same_sort b) (arrived_at v x e lt)))
      (weights_of (sort_at b) b (false ∷ true ∷ []) base (λ v x e lt. ap (same_sort b) (pair_at v x e ∙ first_pair x lt)))

  -- the others: private values and pairs
  abbrev late_weight : (b : Bool) → ℕ → ℕ
  late_weight b v = cond (nat_lt v home) (sort_at b v) (cond (nat_lt v base) 0 (sort_at b v))

  late_low : (b : Bool) (v : ℕ) → v < home → late_weight b v ≡ sort_at b v
  late_low b v lt = let e : nat_lt v home ≡ true = grind (arith, nat_tests, lt) in ap (λ c. cond c (sort_at b v) (cond (nat_lt v base) 0 (sort_at b v))) e

  late_middle : (b : Bool) (v : ℕ) → home ≤ v → v < base → late_weight b v ≡ 0
  late_middle b v low lt =
      let e : nat_lt v home ≡ false = grind (arith, nat_tests, low) in
      let g : nat_lt v base ≡ true = grind (arith, nat_tests, lt) in
      ap (λ c. cond c (sort_at b v) (cond (nat_lt v base) 0 (sort_at b v))) e ∙ ap (λ c. cond c 0 (sort_at b v)) g

  late_high : (b : Bool) (v : ℕ) → base ≤ v → late_weight b v ≡ sort_at b v
  late_high b v high =
      let e : nat_lt v home ≡ false = grind (arith, nat_tests, high) in
      let g : nat_lt v base ≡ false = grind (arith, nat_tests, high) in
      ap (λ c. cond c (sort_at b v) (cond (nat_lt v base) 0 (sort_at b v))) e ∙ ap (λ c. cond c 0 (sort_at b v)) g

  rest_count : (b : Bool) (values : List ℕ) → Rising 0 values → All (λ v. (v < base + 2 * most_pairs) × (1 ≤ late_weight b v)) values → length values ≤ how_many b f.privates + (0 + how_many b (in_turn most_pairs))
  rest_count b values up h = three_parts (length values) (weights (late_weight b) 0 (home + (length (arrived f.parameters) + length (in_turn most_pairs)))) (weights (late_weight b) home (length (arrived f.parameters) + length (in_turn most_pairs)))
      (weights (late_weight b) 0 home) (weights (late_weight b) home (length (arrived f.parameters))) (weights (late_weight b) base (length (in_turn most_pairs))) (how_many b f.privates) 0 (how_many b (in_turn most_pairs))
      (at_most_weights (late_weight b) (home + (length (arrived f.parameters) + length (in_turn most_pairs))) 0 (base + 2 * most_pairs) values (omega arith) up h)
      (weights_add (late_weight b) 0 home (length (arrived f.parameters) + length (in_turn most_pairs)) home (omega arith))
      (weights_add (late_weight b) home (length (arrived f.parameters)) (length (in_turn most_pairs)) base refl)
      (privates_count (late_weight b) b (late_low b))
      (let none = no_weights (late_weight b) home (length (arrived f.parameters)) (late_middle b) in none_is none)
      (weights_of (late_weight b) b (in_turn most_pairs) base (λ v x e lt. late_high b v (pair_high v x e) ∙ ap (same_sort b) (pair_at v x e)))
    where
      none_is : {n : ℕ} → n ≡ 0 → n ≤ 0
      none_is {n} e = omega (arith, e)

      pair_high : (v x : ℕ) → v ≡ base + x → base ≤ v
      pair_high v x e = omega (arith, e)

  -- ---- spans that share a step

  few_spans : (b : Bool) → how_many b f.privates ≤ 64 → length f.parameters ≤ 6 → (i : ℕ) → InFewSpans most_at_once fat b i
  few_spans b few six i values up h = by_cases (nat_lt i (length entry)) refl
    where
      enough : (n p q r : ℕ) → n ≤ p + (q + r) → p ≤ 64 → q + r ≤ 88 → n ≤ most_at_once
      enough n p q r all few pairs = omega (arith, all, few, pairs)

      some_of : (v : ℕ) → HasSort fat b v → 1 ≤ sort_at b v
      some_of v has = subst (λ c. 1 ≤ same_sort b c) (sym has.1) (sort_itself b)

      late_of : (v : ℕ) → HasSort fat b v → (home ≤ v → base ≤ v) → 1 ≤ late_weight b v
      late_of v has late = by_place (nat_lt v home) refl
        where
          by_place : (c : Bool) → nat_lt v home ≡ c → 1 ≤ late_weight b v
          by_place true e = let lt : v < home = grind (arith, nat_tests, e) in let g = late_low b v lt in let s = some_of v has in omega (arith, g, s)
          by_place false e = let low : home ≤ v = grind (arith, nat_tests, e) in let g = late_high b v (late low) in let s = some_of v has in omega (arith, g, s)

      by_cases : (c : Bool) → nat_lt i (length entry) ≡ c → length values ≤ most_at_once
      by_cases true e =
          let lt : i < length entry = grind (arith, nat_tests, e) in
          let all = entry_count b values up (λ k d less. let g = h k d less in (in_entry (slice_index_or values k d) i g.1 lt, some_of (slice_index_or values k d) g.0)) in
          let a = few_arrive b f.parameters in
          let q = turns_count b 1 in
          enough (length values) (how_many b f.privates) (how_many b (arrived f.parameters)) (how_many b (in_turn 1)) all few (omega (arith, a, six, q))
      by_cases false e =
          let le : length entry ≤ i = grind (arith, nat_tests, e) in
          let all = rest_count b values up (λ k d less. let g = h k d less in let lt = g.0.0 in (omega (arith, lt), late_of (slice_index_or values k d) g.0 (in_rest (slice_index_or values k d) i g.1 le))) in
          let q = turns_count b most_pairs in
          enough (length values) (how_many b f.privates) 0 (how_many b (in_turn most_pairs)) all few (omega (arith, q))

  pub assignable : pairs_of f.body ≤ most_pairs → how_many false f.privates ≤ 64 → how_many true f.privates ≤ 64 → length f.parameters ≤ 6 → IsAssignable fat
  assignable le numbers bounds six = record {
    numbered = sorted.all-numbered f name;
    arrived = omega arith;
    below = λ i step stands. step_at (NumberIn fat) (BoundsIn fat) (λ v. v < fat.private + fat.temps) (λ v h. h.0) (λ v h. h.0) fat.steps i step stands (sorted.steps-right takes f fits le name);
    numbers = few_spans false numbers six;
    bounds = few_spans true bounds six;
  }
