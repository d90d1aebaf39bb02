-- The steps of a function gone through: each value's range holds each step that names it.
use Rattle.std.proofs.Common.{ℕ, zero, suc, ◌+◌, ◌≡◌, ◌<◌, ◌≤◌, refl, sym, ap, subst, List, [], ◌∷◌, length, Some, arith, get_or, slice_get, replicate, nat_lt, true, false}
use Rattle.std.specs.List.{All, Contains}
use Rattle.std.proofs.lemmas.Bool.Decides.{nat_tests}
use Rattle.std.proofs.lemmas.List.{length-replicate}
use Rattle.std.proofs.lemmas.List.Elements.{Contains-get_or}
use Rattle.fat_ir.specs.declared.program.FatFun.{FatFun}
use Rattle.fat_ir.specs.declared.step.FatStep.{FatStep}
use Rattle.fat_ir.specs.Spans.{named, StandsAt, Range, Holds, Spans, IsAssignable}
use Rattle.reg_assign.specs.declared.lives.LiveRange.{LiveRange}
use Rattle.reg_assign.specs.declared.lives.Lives.{Lives}
use Rattle.reg_assign.specs.Lives.{nowhere, touched, all_touched, steps_touched, range_in, from_of, past_of}
use Rattle.reg_assign.proofs.Touching.{touches}
use Rattle.reg_assign.proofs.Living.{Sound, sound_touch, covered_kept, covered_now}

-- ---- lists

pub all_head : (P : ℕ → Type 0) (x : ℕ) (xs : List ℕ) → All P (x ∷ xs) → P x
all_head P x xs h = h zero x (omega arith)

pub all_tail : (P : ℕ → Type 0) (x : ℕ) (xs : List ℕ) → All P (x ∷ xs) → All P xs
all_tail P x xs h = λ k d lt. h (suc k) d (omega arith)

pub all_cons : (P : ℕ → Type 0) (x : ℕ) (xs : List ℕ) → P x → All P xs → All P (x ∷ xs)
all_cons P x xs h t zero d lt = h
all_cons P x xs h t (suc k) d lt = t k d (omega arith)

nothing_there : (n v : ℕ) → range_in (replicate n record { from = 0; past = 0 }) v ≡ record { from = 0; past = 0 }
nothing_there zero v = refl
nothing_there (suc n) zero = refl
nothing_there (suc n) (suc v) = nothing_there n v

abbrev pub Covers : Lives → (v i : ℕ) → Type 0
Covers l v i = (from_of l v ≤ i) × (i < past_of l v)

module _ (f : FatFun) where
  -- a value that may be touched here
  abbrev pub Touchable : ℕ → ℕ → Type 0
  Touchable at v = (v < length f.bounds) × ((s : Range) → Spans f v s → Holds s at)

  pub sound_nowhere : Sound f 0 (nowhere (length f.bounds))
  sound_nowhere = let none : (v : ℕ) → past_of (nowhere (length f.bounds)) v ≡ 0 = λ v. ap (λ (r : LiveRange). r.past) (nothing_there (length f.bounds) v) in record {
    sized = length-replicate (length f.bounds) record { from = 0; past = 0 };
    proper = λ v some. let e = none v in absurd (omega arith);
    least = λ v some. let e = none v in absurd (omega arith);
    listed = λ j lt. absurd (omega arith);
    once = λ v some. let e = none v in absurd (omega arith);
    apart = λ j k lt within. absurd (omega arith);
    rising = λ j k lt within. absurd (omega arith);
  }

  -- ---- values of one step

  pub sound_one : (at v : ℕ) (l : Lives) → Sound f at l → Touchable at v → Sound f at (touched at v l)
  sound_one at v l sound h = sound_touch f at v l (touched at v l) (touches at v l (let e = sound.sized in let lt = h.0 in omega arith)) sound h.1

  kept_one : (at v : ℕ) (l : Lives) → Sound f at l → Touchable at v → (u i : ℕ) → i ≤ at → Covers l u i → Covers (touched at v l) u i
  kept_one at v l sound h = covered_kept f at v l (touched at v l) (touches at v l (let e = sound.sized in let lt = h.0 in omega arith)) sound h.1

  now_one : (at v : ℕ) (l : Lives) → Sound f at l → Touchable at v → Covers (touched at v l) v at
  now_one at v l sound h = covered_now f at v l (touched at v l) (touches at v l (let e = sound.sized in let lt = h.0 in omega arith)) sound h.1

  pub sound_all : (at : ℕ) (vs : List ℕ) (l : Lives) → Sound f at l → All (Touchable at) vs → Sound f at (all_touched at vs l)
  sound_all at [] l sound h = sound
  sound_all at (v ∷ vs) l sound h = sound_all at vs (touched at v l) (sound_one at v l sound (all_head (Touchable at) v vs h)) (all_tail (Touchable at) v vs h)

  pub kept_all : (at : ℕ) (vs : List ℕ) (l : Lives) → Sound f at l → All (Touchable at) vs → (u i : ℕ) → i ≤ at → Covers l u i → Covers (all_touched at vs l) u i
  kept_all at [] l sound h u i le c = c
  kept_all at (v ∷ vs) l sound h u i le c = let this = all_head (Touchable at) v vs h in
      kept_all at vs (touched at v l) (sound_one at v l sound this) (all_tail (Touchable at) v vs h) u i le (kept_one at v l sound this u i le c)

  now_at : (at : ℕ) (vs : List ℕ) (l : Lives) → Sound f at l → All (Touchable at) vs → (v k : ℕ) → k < length vs → get_or vs k v ≡ v → Covers (all_touched at vs l) v at
  now_at at [] l sound h v k lt e = absurd (omega arith)
  now_at at (x ∷ vs) l sound h v zero lt e = let this = all_head (Touchable at) x vs h in
      kept_all at vs (touched at x l) (sound_one at x l sound this) (all_tail (Touchable at) x vs h) v at (omega arith) (subst (λ y. Covers (touched at x l) y at) e (now_one at x l sound this))
  now_at at (x ∷ vs) l sound h v (suc k) lt e = let this = all_head (Touchable at) x vs h in
      now_at at vs (touched at x l) (sound_one at x l sound this) (all_tail (Touchable at) x vs h) v k (omega arith) e

  pub now_all : (at : ℕ) (vs : List ℕ) (l : Lives) → Sound f at l → All (Touchable at) vs → (v : ℕ) → Contains vs v → Covers (all_touched at vs l) v at
  now_all at vs l sound h v c = now_at at vs l sound h v c.0 c.1 c.2

  -- ---- all steps

  pub later : (at : ℕ) (l : Lives) → Sound f at l → Sound f (at + 1) l
  later at l sound = record {
    sized = sound.sized;
    proper = λ v some. let p = sound.proper v some in let p0 = p.0 in let p1 = p.1 in let p2 = p.2 in (omega arith, omega arith, omega arith);
    least = sound.least;
    listed = sound.listed;
    once = sound.once;
    apart = sound.apart;
    rising = sound.rising;
  }

  module _ (can : IsAssignable f) where
    abbrev pub Rest : ℕ → List FatStep → Type 0
    Rest at rest = (j : ℕ) (step : FatStep) → slice_get rest j ≡ Some step → StandsAt f.steps (at + j) step

    pub rest_of : (at : ℕ) (step : FatStep) (rest : List FatStep) → Rest at (step ∷ rest) → Rest (at + 1) rest
    rest_of at step rest r j x e = subst (λ i. StandsAt f.steps i x) (omega arith) (r (suc j) x e)

    pub here : (at : ℕ) (step : FatStep) (rest : List FatStep) → Rest at (step ∷ rest) → StandsAt f.steps at step
    here at step rest r = subst (λ i. StandsAt f.steps i step) (omega arith) (r zero step refl)

    pub touchable : (at : ℕ) (step : FatStep) → StandsAt f.steps at step → All (Touchable at) (named step)
    touchable at step stands k d lt = let v = get_or (named step) k d in
        (let b = can.below at step stands k d lt in let n = can.numbered in omega arith, λ s spans. spans.names at step stands (Contains-get_or (named step) k d lt))

    pub sound_steps : (at : ℕ) (rest : List FatStep) (l : Lives) → Rest at rest → Sound f at l → Sound f (at + length rest) (steps_touched at rest l)
    sound_steps at [] l r sound = subst (λ n. Sound f n l) (omega arith) sound
    sound_steps at (step ∷ rest) l r sound = subst (λ n. Sound f n (steps_touched (at + 1) rest (all_touched at (named step) l))) (omega arith)
        (sound_steps (at + 1) rest (all_touched at (named step) l) (rest_of at step rest r) (later at (all_touched at (named step) l) (sound_all at (named step) l sound (touchable at step (here at step rest r)))))

    pub kept_steps : (at : ℕ) (rest : List FatStep) (l : Lives) → Rest at rest → Sound f at l → (u i : ℕ) → i ≤ at → Covers l u i → Covers (steps_touched at rest l) u i
    kept_steps at [] l r sound u i le c = c
    kept_steps at (step ∷ rest) l r sound u i le c = let all = touchable at step (here at step rest r) in
        kept_steps (at + 1) rest (all_touched at (named step) l) (rest_of at step rest r) (later at (all_touched at (named step) l) (sound_all at (named step) l sound all)) u i (omega arith)
        (kept_all at (named step) l sound all u i le c)

    pub named_steps : (at : ℕ) (rest : List FatStep) (l : Lives) → Rest at rest → Sound f at l → (j : ℕ) (step : FatStep) (v : ℕ) → slice_get rest j ≡ Some step → Contains (named step) v → Covers (steps_touched at rest l) v (at + j)
    named_steps at [] l r sound j step v e c = cc
    named_steps at (x ∷ rest) l r sound zero step v e c = let all = touchable at x (here at x rest r) in let same : x ≡ step = cc in
        subst (Covers (steps_touched at (x ∷ rest) l) v) (omega arith)
        (kept_steps (at + 1) rest (all_touched at (named x) l) (rest_of at x rest r) (later at (all_touched at (named x) l) (sound_all at (named x) l sound all)) v at (omega arith)
        (now_all at (named x) l sound all v (subst (λ y. Contains (named y) v) (sym same) c)))
    named_steps at (x ∷ rest) l r sound (suc j) step v e c = let all = touchable at x (here at x rest r) in
        subst (Covers (steps_touched at (x ∷ rest) l) v) (omega arith)
        (named_steps (at + 1) rest (all_touched at (named x) l) (rest_of at x rest r) (later at (all_touched at (named x) l) (sound_all at (named x) l sound all)) j step v e c)

    pub ended_steps : (at : ℕ) (rest : List FatStep) (l : Lives) → Rest at rest → Sound f at l → (v : ℕ) → past_of l v ≤ at → past_of (steps_touched at rest l) v ≤ at + length rest
    ended_steps at [] l r sound v le = omega arith
    ended_steps at (x ∷ rest) l r sound v le = let next = sound_all at (named x) l sound (touchable at x (here at x rest r)) in
        let h = ended_steps (at + 1) rest (all_touched at (named x) l) (rest_of at x rest r) (later at (all_touched at (named x) l) next) v (within next) in omega arith
      where
        within : Sound f at (all_touched at (named x) l) → past_of (all_touched at (named x) l) v ≤ at + 1
        within next = elim (nat_lt 0 (past_of (all_touched at (named x) l) v)) as (λ b. nat_lt 0 (past_of (all_touched at (named x) l) v) ≡ b → past_of (all_touched at (named x) l) v ≤ at + 1) [
          | true ↦ λ e. let some : 0 < past_of (all_touched at (named x) l) v = grind (arith, nat_tests) in let p = (next.proper v some).2 in omega arith
          | false ↦ λ e. let none : past_of (all_touched at (named x) l) v ≤ 0 = grind (arith, nat_tests) in omega arith
        ] refl
