-- Steps that name values of their sorts, within limits, with labels that are there and homes that serve, are what code asks.
use Rattle.std.specs.Prelude.{nat_lt, if◌then◌else◌, slice_index_or}
use Rattle.std.proofs.Common.{◌≡◌, ℕ, suc, ◌+◌, ◌<◌, ◌≤◌, ◌⊎◌, inl, inr, Bool, true, false, ◌==◌, Option, None, Some, List, [], ◌∷◌, ◌++◌, length, refl, arith, ◌∙◌, sym, subst}
use Rattle.std.proofs.lemmas.Bool.Decides.{nat_tests}
use Rattle.std.proofs.lemmas.List.{length-append, append_assoc}
use Rattle.std.proofs.lemmas.List.Elements.{All-contains_itself}
use Rattle.fat_ir.specs.declared.program.FatFun.{FatFun}
use Rattle.fat_ir.specs.declared.step.FatStep.{FatStep}
use Rattle.fat_ir.specs.declared.step.FatStep.TheVariants as s
use Rattle.fat_ir.specs.Laws.{LacksLabel}
use Rattle.fat_ir.specs.Named.{maybe, in_arguments}
use Rattle.fat_ir.specs.Spans.{named, StandsAt, Range, Holds}
use Rattle.step_code.specs.Asked.{FineStep, FineSteps, ArgsFineOf, ToFineOf, ToNamedOf}
use Rattle.step_code.specs.Homes.{IsSlot, first_in, last_in}
use Rattle.step_code.specs.Steps.{Plan}
use Rattle.bounds_plan.specs.laws.Laws.{times, JumpsTo}
use Rattle.bounds_plan.specs.steps.Sorts.{pairs_of, OfSome, NamesRight, AllNameRight, NumberIn, BoundsIn}
use Rattle.bounds_plan.specs.steps.Code.{fat_function, most_pairs}
use Rattle.bounds_plan.specs.steps.Compiled.{FitsFunction}
use Rattle.bounds_plan.specs.meaning.Functions.{FunctionOfC}
use Rattle.asked_steps.specs.Alone.{IsLimited, AllLimited}
use Rattle.asked_steps.specs.Trees.{FunctionWithin}
use Rattle.asked_steps.proofs.Limits.{function_limited}
use Rattle.asked_steps.specs.Homes.{HomesServe, Leaves}

-- ---- elements one by one

abbrev Each : (ℕ → Type 0) → List ℕ → Type 0
Each P [] = Unit {0}
Each P (x ∷ xs) = P x × Each P xs

each_of : (P : ℕ → Type 0) (xs : List ℕ) → ((k : ℕ) → k < length xs → P (slice_index_or xs k 0)) → Each P xs
each_of P [] h = tt
each_of P (x ∷ xs) h = (h 0 (omega arith), each_of P xs (λ k less. h (suc k) (omega arith)))

front : (P : ℕ → Type 0) (a b : List ℕ) → Each P (a ++ b) → Each P a
front P [] b h = tt
front P (x ∷ a) b h = (h.0, front P a b h.1)

back : (P : ℕ → Type 0) (a b : List ℕ) → Each P (a ++ b) → Each P b
back P [] b h = h
back P (x ∷ a) b h = back P a b h.1

-- ---- labels

no_times : (k : ℕ) (steps : List FatStep) → LacksLabel k steps → times k steps ≡ 0
no_times k [] h = refl
no_times k (s.Label n ∷ rest) h = let e : (k == n) ≡ false = grind (arith, nat_tests, h.0) in rw e (let r = no_times k rest h.1 in omega arith)
no_times k (x ∷ rest) h = no_times k rest h

there : (k : ℕ) (steps : List FatStep) → times k steps ≡ 1 → LacksLabel k steps → ⊥
there k steps once lacks = let e = no_times k steps lacks in absurd (omega arith)

-- ---- spans

within_span : (r : Range) (i : ℕ) → Holds r i → (first_in r ≤ i) × (i ≤ last_in r)
within_span r i h = let from = h.0 in let past = h.1 in let e : nat_lt r.from r.past ≡ true = grind (arith, nat_tests) in
    (subst (λ (b : Bool). (if b then r.from else 0xffff_ffff_ffff_ffff) ≤ i) (sym e) from, omega arith)

held_by : (r : Range) (i : ℕ) → i < 0xffff_ffff_ffff_ffff → first_in r ≤ i → i ≤ last_in r → Holds r i
held_by r i short low high = elim (nat_lt r.from r.past) as (λ b. nat_lt r.from r.past ≡ b → (if b then r.from else 0xffff_ffff_ffff_ffff) ≤ i → Holds r i) [
  | true ↦ λ e l. let some : r.from < r.past = grind (arith, nat_tests) in (l, omega arith)
  | false ↦ λ e l. absurd (omega arith)
] refl low

module _ (f : FatFun) (units : ℕ) (p : Plan) (range : ℕ → Range) (serve : HomesServe f units p range)
    (returns : ℕ → Bool) (takes : ℕ → List (ℕ × Option ℕ) → Bool) where
  abbrev first : ℕ → ℕ
  first x = first_in (range x)

  abbrev last : ℕ → ℕ
  last x = last_in (range x)

  abbrev Named : ℕ → ℕ → Type 0
  Named i x = (first x ≤ i) × (i ≤ last x)

  abbrev Number : ℕ → Type 0
  Number v = NumberIn f v

  abbrev Bounds : ℕ → Type 0
  Bounds v = BoundsIn f v

  abbrev Fine : ℕ → FatStep → Type 0
  Fine i step = FineStep units p p.located f.steps first last returns takes i step

  is_number : (v : ℕ) → Number v → p.is_bounds v ≡ false
  is_number v h = sym (serve.sorts v h.0) ∙ h.1

  are_bounds : (v : ℕ) → Bounds v → p.is_bounds v ≡ true
  are_bounds v h = sym (serve.sorts v h.0) ∙ h.1

  names : (i : ℕ) (step : FatStep) → StandsAt f.steps i step → Each (Named i) (named step)
  names i step stands = each_of (Named i) (named step) (λ k less. within_span (range (slice_index_or (named step) k 0)) i
      ((serve.have.spans (slice_index_or (named step) k 0)).names i step stands (All-contains_itself (named step) k 0 less)))

  slots : (i : ℕ) (step : FatStep) → i < length f.steps → StandsAt f.steps i step → Leaves step → (x : ℕ) → Named i x → IsSlot (p.home x)
  slots i step few stands leaves x h = let short = serve.short in serve.at_calls i step stands leaves x (held_by (range x) i (omega arith) h.0 h.1)

  arguments : (i : ℕ) (args : List (ℕ × Option ℕ)) (rest : List ℕ) → Each (Named i) (in_arguments args ++ rest) → ArgsFineOf units p p.located f.steps first last returns takes i args
  arguments i [] rest h = tt
  arguments i ((a, None) ∷ more) rest h = (h.0, arguments i more rest h.1)
  arguments i ((a, Some b) ∷ more) rest h = (h.0, h.1.0, arguments i more rest h.1.1)

  to_number : (i : ℕ) (to : Option ℕ) → Each (Named i) (maybe to) → OfSome Number to → ToFineOf units p p.located f.steps first last returns takes i to false
  to_number i None h sort = tt
  to_number i (Some v) h sort = (h.0, is_number v sort)

  to_bounds : (i : ℕ) (to : Option ℕ) → Each (Named i) (maybe to) → OfSome Bounds to → ToFineOf units p p.located f.steps first last returns takes i to true
  to_bounds i None h sort = tt
  to_bounds i (Some v) h sort = (h.0, are_bounds v sort)

  to_named : (i : ℕ) (to : Option ℕ) → Each (Named i) (maybe to) → ToNamedOf units p p.located f.steps first last returns takes i to
  to_named i None h = tt
  to_named i (Some v) h = h.0

  -- the label of a step that jumps stands among the steps
  abbrev Jumps : FatStep → Type 0
  Jumps (s.Jump n) = times n f.steps ≡ 1
  Jumps (s.JumpIf from n) = times n f.steps ≡ 1
  Jumps _ = Unit {0}

  abbrev Limited : FatStep → Type 0
  Limited step = IsLimited p.located p.pointer returns takes step

  fine : (i : ℕ) (step : FatStep) → i < length f.steps → StandsAt f.steps i step → NamesRight Number Bounds step → Limited step → Jumps step → Fine i step
  fine i (s.Const to n) few st sort lim jump = let h = names i (s.Const to n) st in (h.0, is_number to sort, lim)
  fine i (s.Copy to from) few st sort lim jump = let h = names i (s.Copy to from) st in (h.1.0, h.0, same sort)
    where
      same : (Number to × Number from) ⊎ (Bounds to × Bounds from) → p.is_bounds to ≡ p.is_bounds from
      same (inl n) = is_number to n.0 ∙ sym (is_number from n.1)
      same (inr b) = are_bounds to b.0 ∙ sym (are_bounds from b.1)
  fine i (s.Arith to op kind a b) few st sort lim jump = let h = names i (s.Arith to op kind a b) st in (h.1.1.0, h.0, h.1.0, is_number to sort.0)
  fine i (s.Compare to op kind a b) few st sort lim jump = let h = names i (s.Compare to op kind a b) st in (h.1.1.0, h.0, h.1.0, is_number to sort.0)
  fine i (s.Extend to from kind) few st sort lim jump = let h = names i (s.Extend to from kind) st in (h.1.0, h.0, is_number to sort.0)
  fine i (s.Place to bounds None offset size) few st sort lim jump = let h = names i (s.Place to bounds None offset size) st in (h.0, h.1.0, is_number to sort.0, are_bounds bounds sort.1, lim.0, lim.1, tt)
  fine i (s.Place to bounds (Some symbol) offset size) few st sort lim jump = let h = names i (s.Place to bounds (Some symbol) offset size) st in (h.0, h.1.0, is_number to sort.0, are_bounds bounds sort.1, lim.0, lim.1, (refl, lim.2))
  fine i (s.Make to q n) few st sort lim jump = let h = names i (s.Make to q n) st in (h.1.1.0, h.0, h.1.0, are_bounds to sort.0)
  fine i (s.Meet to a b) few st sort lim jump = let h = names i (s.Meet to a b) st in (h.1.1.0, h.0, h.1.0, are_bounds to sort.0, serve.spare, serve.spare_first, serve.spare_second)
  fine i (s.Bound to from upper) few st sort lim jump = let h = names i (s.Bound to from upper) st in let spare = serve.spare in (h.1.0, h.0, is_number to sort.0, (omega arith, serve.spare_first))
  fine i (s.Judge value size bounds write place) few st sort lim jump = let h = names i (s.Judge value size bounds write place) st in (h.0, h.1.0, lim.0, lim.1)
  fine i (s.Load q to kind) few st sort lim jump = let h = names i (s.Load q to kind) st in (h.0, h.1.0, is_number to sort.1)
  fine i (s.Store q from kind) few st sort lim jump = let h = names i (s.Store q from kind) st in (h.0, h.1.0)
  fine i (s.LoadPtr q to bounds) few st sort lim jump = let h = names i (s.LoadPtr q to bounds) st in (h.0, h.1.0, h.1.1.0, is_number to sort.1, are_bounds bounds sort.2)
  fine i (s.StorePtr q from bounds) few st sort lim jump = let h = names i (s.StorePtr q from bounds) st in (h.0, h.1.0, h.1.1.0)
  fine i (s.Label n) few st sort lim jump = tt
  fine i (s.Jump n) few st sort lim jump = there n f.steps jump
  fine i (s.JumpIf from n) few st sort lim jump = let h = names i (s.JumpIf from n) st in (h.0, there n f.steps jump)
  fine i (s.Call symbol args to bounds) few st sort lim jump =
      let h = names i (s.Call symbol args to bounds) st in
      let rest = back (Named i) (in_arguments args) (maybe to ++ maybe bounds) h in (
        arguments i args (maybe to ++ maybe bounds) h,
        lim.0,
        to_number i to (front (Named i) (maybe to) (maybe bounds) rest) sort.1,
        to_bounds i bounds (back (Named i) (maybe to) (maybe bounds) rest) sort.2,
        lim.1,
        slots i (s.Call symbol args to bounds) few st tt,
        lim.2,
      )
  fine i (s.Service service arg to) few st sort lim jump =
      let h = names i (s.Service service arg to) st in
      (to_named i arg (front (Named i) (maybe arg) (maybe to) h), to_number i to (back (Named i) (maybe arg) (maybe to) h) sort.1, slots i (s.Service service arg to) few st tt)
  fine i (s.Give (Some from) None) few st sort lim jump = let h = names i (s.Give (Some from) None) st in (h.0, lim)
  fine i (s.Give (Some from) (Some b)) few st sort lim jump = let h = names i (s.Give (Some from) (Some b)) st in (h.0, h.1.0)
  fine i (s.Give None None) few st sort lim jump = tt
  fine i (s.Give None (Some b)) few st sort lim jump = absurd lim

  stands_behind : (a : List FatStep) (x : FatStep) (rest : List FatStep) (i : ℕ) → f.steps ≡ a ++ x ∷ rest → length a ≡ i → (i < length f.steps) × StandsAt f.steps i x
  stands_behind a x rest i e at = subst (λ (l : List FatStep). (i < length l) × StandsAt l i x) (sym e) (subst (λ (k : ℕ). (k < length (a ++ x ∷ rest)) × StandsAt (a ++ x ∷ rest) k x) at (at_length a x rest))
    where
      at_length : (a : List FatStep) (x : FatStep) (rest : List FatStep) → (length a < length (a ++ x ∷ rest)) × StandsAt (a ++ x ∷ rest) (length a) x
      at_length [] x rest = (omega arith, refl)
      at_length (y ∷ a) x rest = let h = at_length a x rest in let less = h.0 in (omega arith, h.1)

  all_fine : (a steps : List FatStep) (i : ℕ) → f.steps ≡ a ++ steps → length a ≡ i → AllNameRight Number Bounds steps → AllLimited p.located p.pointer returns takes steps → JumpsTo (λ k. times k f.steps ≡ 1) steps
      → FineSteps units p p.located f.steps first last returns takes i steps
  all_fine a [] i e at sort lim jumps = tt
  all_fine a (x ∷ rest) i e at sort lim jumps =
      let h = stands_behind a x rest i e at in
      let long : length (a ++ x ∷ []) ≡ i + 1 = length-append a (x ∷ []) ∙ omega arith in
      (fine i x h.0 h.1 sort.0 lim.0 (jump_of x rest jumps), all_fine (a ++ x ∷ []) rest (i + 1) (e ∙ sym (append_assoc a (x ∷ []) rest)) long sort.1 lim.1 (jumps_behind x rest jumps))
    where
      jump_of : (x : FatStep) (rest : List FatStep) → JumpsTo (λ k. times k f.steps ≡ 1) (x ∷ rest) → Jumps x
      jump_of (s.Jump n) rest h = h.0
      jump_of (s.JumpIf from n) rest h = h.0
      jump_of x rest h = tt

      jumps_behind : (x : FatStep) (rest : List FatStep) → JumpsTo (λ k. times k f.steps ≡ 1) (x ∷ rest) → JumpsTo (λ k. times k f.steps ≡ 1) rest
      jumps_behind (s.Jump n) rest h = h.1
      jumps_behind (s.JumpIf from n) rest h = h.1
      jumps_behind x rest h = h

  pub steps_are_fine : AllNameRight Number Bounds f.steps → AllLimited p.located p.pointer returns takes f.steps → JumpsTo (λ k. times k f.steps ≡ 1) f.steps
      → FineSteps units p p.located f.steps first last returns takes 0 f.steps
  steps_are_fine sort lim jumps = all_fine [] f.steps 0 refl refl sort lim jumps

-- those of a compiled function, by what is known of all compiled functions
pub compiled_is_fine : ((takes : ℕ → ℕ) (f : FunctionOfC) → FitsFunction takes f → pairs_of f.body ≤ most_pairs → (name : ℕ) → AllNameRight (NumberIn (fat_function name f)) (BoundsIn (fat_function name f)) (fat_function name f).steps)
    → ((f : FunctionOfC) (name : ℕ) → JumpsTo (λ k. times k (fat_function name f).steps ≡ 1) (fat_function name f).steps)
    → (count : ℕ → ℕ) (f : FunctionOfC) → FitsFunction count f → pairs_of f.body ≤ most_pairs → (name units : ℕ) (p : Plan) (range : ℕ → Range) → HomesServe (fat_function name f) units p range
    → (returns : ℕ → Bool) (takes : ℕ → List (ℕ × Option ℕ) → Bool) → FunctionWithin p.located p.pointer returns takes f
    → FineSteps units p p.located (fat_function name f).steps (λ x. first_in (range x)) (λ x. last_in (range x)) returns takes 0 (fat_function name f).steps
compiled_is_fine sorts labels count f fits few name units p range serve returns takes within =
    steps_are_fine (fat_function name f) units p range serve returns takes (sorts count f fits few name) (function_limited p.located p.pointer returns takes f within name) (labels f name)
