-- Where control strays.
use Rattle.std.proofs.Common.{◌≡◌, ℕ, ◌-◌, ◌/◌, ◌%◌, ◌<◌, ◌≤◌, ◌≢◌, ◌⊎◌, Bool, true, false, cond, Some, None, refl, ap, sym, arith, inl, inr}
use Rattle.std.specs.Prelude.{not, ◌&&◌, ◌||◌, nat_eq}
use Rattle.std.proofs.lemmas.Bool.Decides.{nat_tests}
use Rattle.mx_base.specs.Regions.{instrumented_code, is_in}
use Rattle.x86_forms.specs.Watch.{landing, first_outer, outer_entry, is_in_outer, begins_outer, may_enter, is_legacy_control, control_strays}
use Rattle.x86_forms.specs.WatchLaws.{LiesInOuter, StraysInto}

in_outer-lies : (outers a : ℕ) → is_in_outer outers a ≡ true → LiesInOuter outers a
unfolding is_in_outer
in_outer-lies outers a h =
    let low : first_outer ≤ a = grind (arith, nat_tests) in
    let high : a < outer_entry outers = grind (arith, nat_tests) in
    ((a - first_outer) / 128, omega arith, omega arith, omega arith)

lies-in_outer : (outers a : ℕ) → LiesInOuter outers a → is_in_outer outers a ≡ true
unfolding is_in_outer
lies-in_outer outers a (k, below, low, high) = grind (arith, nat_tests)

entry-begins : (outers k a : ℕ) → k < outers → a ≡ outer_entry k → begins_outer outers a ≡ true
unfolding begins_outer is_in_outer
entry-begins outers k a below e = grind (arith, nat_tests)

-- the entry that begins there
begins-entry : (outers a : ℕ) → begins_outer outers a ≡ true → (k : ℕ) × (k < outers) × (a ≡ outer_entry k)
unfolding begins_outer is_in_outer
begins-entry outers a h =
    let low : first_outer ≤ a = grind (arith, nat_tests) in
    let high : a < outer_entry outers = grind (arith, nat_tests) in
    let even : (a - first_outer) % 128 ≡ 0 = grind (arith, nat_tests) in
    ((a - first_outer) / 128, omega arith, omega arith)

-- ---- tests

both_true : (a b : Bool) → (a && b) ≡ true → (a ≡ true) × (b ≡ true)
both_true true b h = (refl, h)
both_true false b h = absurd (cc)

either_true : (a b : Bool) → (a || b) ≡ true → (a ≡ true) ⊎ (b ≡ true)
either_true true b h = inl refl
either_true false b h = inr h

neither : (a b : Bool) → not (a || b) ≡ true → (a ≡ false) × (b ≡ false)
neither true b h = absurd (cc)
neither false true h = absurd (cc)
neither false false h = (refl, refl)

is_not : (a : Bool) → not a ≡ true → a ≡ false
is_not true h = absurd (cc)
is_not false h = refl

chosen : (b : Bool) (to x : ℕ) → cond b (Some to) None ≡ Some x → (b ≡ true) × (x ≡ to)
chosen true to x h = (refl, cc)
chosen false to x h = absurd (cc)

clash : true ≡ false → ⊥
clash e = absurd (cc)

-- ---- control

legacy_of : (from : ℕ) (ret : Bool) (outers : ℕ) → is_legacy_control from ret outers ≡ true → (is_in instrumented_code from ≡ false) ⊎ ((ret ≡ true) × LiesInOuter outers from)
unfolding is_legacy_control
legacy_of from ret outers h = elim (either_true _ _ h) [
  | inl e ↦ inl (is_not _ e)
  | inr e ↦ let parts = both_true ret (is_in_outer outers from) e in inr (parts.0, in_outer-lies outers from parts.1)
]

legacy_from : (from : ℕ) (ret : Bool) (outers : ℕ) → (is_in instrumented_code from ≡ false) ⊎ ((ret ≡ true) × LiesInOuter outers from) → is_legacy_control from ret outers ≡ true
unfolding is_legacy_control
legacy_from from ret outers (inl e) = rw e refl
legacy_from from ret outers (inr (r, lies)) = let there = lies-in_outer outers from lies in elim (is_in instrumented_code from) as (λ b. (not b || (ret && is_in_outer outers from)) ≡ true) [ true ↦ rw (r, there) refl | false ↦ refl ]

may_not : (to : ℕ) (call : Bool) (outers : ℕ) → may_enter to call outers ≡ false → (to ≢ landing) × (call ≡ true → (k : ℕ) → k < outers → to ≢ outer_entry k)
unfolding may_enter
may_not to call outers h = let parts = neither (nat_eq to landing) (call && begins_outer outers to) (ap not h) in
    let off : nat_eq to landing ≡ false = parts.0 in
    ((λ e. absurd (grind (arith, nat_tests))), λ c k below e. let starts = entry-begins outers k to below e in let no : (call && begins_outer outers to) ≡ false = parts.1 in clash (rw (c, starts) at no))

may_not-from : (to : ℕ) (call : Bool) (outers : ℕ) → to ≢ landing → (call ≡ true → (k : ℕ) → k < outers → to ≢ outer_entry k) → may_enter to call outers ≡ false
unfolding may_enter
may_not-from to call outers off none =
    let first : nat_eq to landing ≡ false = grind (arith, nat_tests) in
    let second : (call && begins_outer outers to) ≡ false = no_entry call (begins_outer outers to) (λ c b. let r = begins-entry outers to b in none c r.0 r.1 r.2) in
    rw (first, second) refl
  where
    no_entry : (a b : Bool) → (a ≡ true → b ≡ true → ⊥) → (a && b) ≡ false
    no_entry true true h = absurd (h refl refl)
    no_entry true false h = refl
    no_entry false b h = refl

pub strays-into : (from to : ℕ) (call ret : Bool) (outers x : ℕ) → control_strays from to call ret outers ≡ Some x → StraysInto from to call ret outers x
unfolding control_strays
strays-into from to call ret outers x h =
    let parts = chosen (is_legacy_control from ret outers && is_in instrumented_code to && not (may_enter to call outers)) to x h in
    let outer = both_true (is_legacy_control from ret outers && is_in instrumented_code to) (not (may_enter to call outers)) parts.0 in
    let inner = both_true (is_legacy_control from ret outers) (is_in instrumented_code to) outer.0 in
    let none = may_not to call outers (is_not (may_enter to call outers) outer.1) in
    record { address = parts.1; inside = inner.1; legacy = legacy_of from ret outers inner.0; no_landing = none.0; no_entry = none.1 }

pub into-strays : (from to : ℕ) (call ret : Bool) (outers x : ℕ) → StraysInto from to call ret outers x → control_strays from to call ret outers ≡ Some x
unfolding control_strays
into-strays from to call ret outers x f =
    let a = legacy_from from ret outers f.legacy in
    let b = f.inside in
    let c = may_not-from to call outers f.no_landing f.no_entry in
    rw (a, b, c) (ap Some (sym f.address))
