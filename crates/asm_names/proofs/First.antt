-- The first number that passes, step by step.
use Rattle.std.proofs.Common.{◌≡◌, ℕ, suc, ◌+◌, ◌-◌, ◌<◌, ◌≤◌, Bool, true, false, Some, None, ap, sym, ◌∙◌, refl, cond, arith}
use Rattle.asm_names.specs.First.{first_from}

step : (passes : ℕ → Bool) (m k : ℕ) → first_from passes (suc m) k ≡ cond (passes k) (Some k) (first_from passes m (k + 1))
unfolding first_from
step passes m k = refl

less : (n k : ℕ) → k < n → n - k ≡ suc (n - (k + 1))
less n k h = omega arith

-- it is found here
pub first_here : (passes : ℕ → Bool) (n k : ℕ) → k < n → passes k ≡ true → first_from passes (n - k) k ≡ Some k
first_here passes n k h is = ap (λ m. first_from passes m k) (less n k h) ∙ step passes (n - (k + 1)) k ∙ ap (λ b. cond b (Some k) (first_from passes (n - (k + 1)) (k + 1))) is

-- or further on
pub first_on : (passes : ℕ → Bool) (n k : ℕ) → k < n → passes k ≡ false → first_from passes (n - (k + 1)) (k + 1) ≡ first_from passes (n - k) k
first_on passes n k h is = sym (ap (λ m. first_from passes m k) (less n k h) ∙ step passes (n - (k + 1)) k ∙ ap (λ b. cond b (Some k) (first_from passes (n - (k + 1)) (k + 1))) is)

-- or nowhere
pub first_none : (passes : ℕ → Bool) (n k : ℕ) → n ≤ k → first_from passes (n - k) k ≡ None
unfolding first_from
first_none passes n k h = let e : n - k ≡ 0 = omega arith in ap (λ m. first_from passes m k) e
