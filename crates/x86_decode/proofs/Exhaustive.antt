-- Tests over all numbers below a limit, and over all states before the operands.
use Rattle.std.proofs.Common.{◌≡◌, ◌<◌, ◌≤◌, ◌+◌, ◌-◌, true, false, Bool, ℕ, zero, suc, arith, nat_eq, refl, sym, subst, ap, ◌∙◌, inl, inr}
use Rattle.std.specs.Prelude.{if◌then◌else◌, ◌&&◌, ◌||◌, ◌⊎◌}
use Rattle.std.proofs.lemmas.Bool.{and_parts, cases_eq, ne_eqb}
use Rattle.x86_decode.specs.Steps.{live_rex}
use Rattle.x86_decode.proofs.ReadFront.{IsRex}

abbrev pub every : ℕ → (ℕ → Bool) → Bool
every zero p = true
every (suc n) p = p n && every n p

abbrev pub some : ℕ → (ℕ → Bool) → Bool
some zero p = false
some (suc n) p = p n || some n p

at_case : (i n : ℕ) (p : ℕ → Bool) → (i < n → p i ≡ true) → p n ≡ true → i < suc n → (i ≡ n) ⊎ (i ≡ n → ⊥) → p i ≡ true
at_case i n p ih here h (inl k) = subst (λ j. p j ≡ true) (sym k) here
at_case i n p ih here h (inr k) = ih (omega arith)

pub every-at : (n i : ℕ) (p : ℕ → Bool) → every n p ≡ true → i < n → p i ≡ true
every-at zero i p e h = absurd (omega arith)
every-at (suc n) i p e h =
    let k = and_parts (p n) (every n p) e in at_case i n p (λ l. every-at n i p k.1 l) k.0 h (cases_eq i n)

-- a number that passes
pub record Passes (n : ℕ) (p : ℕ → Bool) : Type 0 where
  pub at : ℕ
  pub below : at < n
  pub passes : p at ≡ true

some_case : (n : ℕ) (p : ℕ → Bool) (b : Bool) → p n ≡ b → (b || some n p) ≡ true → (some n p ≡ true → Passes n p) → Passes (suc n) p
some_case n p true e h ih = record { at = n; below = omega arith; passes = e }
some_case n p false e h ih = let k = ih h in record { at = k.at; below = let l = k.below in omega arith; passes = k.passes }

pub some-at : (n : ℕ) (p : ℕ → Bool) → some n p ≡ true → Passes n p
some-at zero p e = absurd (cc)
some-at (suc n) p e = some_case n p (p n) refl e (λ k. some-at n p k)

or_true : (b : Bool) → (b || true) ≡ true
or_true true = refl
or_true false = refl

-- 0 is no REX, and k the REX byte 0x3F + k
abbrev pub rex_at : ℕ → ℕ
rex_at k = if nat_eq k 0 then 0 else 0x3F + k

-- each REX that may stand behind a prefix, and none
abbrev pub each_rex : ℕ → (ℕ → Bool) → Bool
each_rex p f = every 17 (λ k. if nat_eq k 0 || live_rex p (rex_at k) then f (rex_at k) else true)

pub each_rex-at : (p rex : ℕ) (f : ℕ → Bool) → each_rex p f ≡ true → IsRex p rex → f rex ≡ true
each_rex-at p rex f e (inl z) = subst (λ r. f r ≡ true) (sym z) (every-at 17 0 (λ k. if nat_eq k 0 || live_rex p (rex_at k) then f (rex_at k) else true) e (omega arith))
each_rex-at p rex f e (inr z) = at_rex (rex - 0x3F) (omega arith) (omega arith) (omega arith)
  where
    at_rex : (k : ℕ) → k < 17 → 1 ≤ k → 0x3F + k ≡ rex → f rex ≡ true
    at_rex k l m n =
        let nz : nat_eq k 0 ≡ false = ne_eqb k 0 (λ q. absurd (omega arith)) in
        let r : rex_at k ≡ rex = simp nz n in
        let t : live_rex p (rex_at k) ≡ true = subst (λ x. live_rex p x ≡ true) (sym r) z.1 in
        let c : (nat_eq k 0 || live_rex p (rex_at k)) ≡ true = ap (λ x. nat_eq k 0 || x) t ∙ or_true (nat_eq k 0) in
        let q = every-at 17 k (λ k. if nat_eq k 0 || live_rex p (rex_at k) then f (rex_at k) else true) e l in
        subst (λ x. f x ≡ true) r (simp c at q)
