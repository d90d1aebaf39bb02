-- Which of some addresses is the first that no region allows.
use Rattle.std.proofs.Common.{◌≡◌, ℕ, zero, suc, ◌+◌, ◌-◌, ◌/◌, ◌%◌, ◌<◌, ◌≤◌, min, Bool, true, false, cond, ◌&&◌, ◌||◌, nat_lt, nat_le, Option, None, Some, List, [], ◌∷◌, refl, sym, ap, ◌∙◌, subst, arith, inl, inr}
use Rattle.std.specs.List.{list_any}
use Rattle.std.proofs.lemmas.Bool.Decides.{nat_tests}
use Rattle.std.proofs.lemmas.Bool.{cases_lt}
use Rattle.mx_base.specs.Regions.{Region, regions, is_in, is_readable, is_writable, is_executable}
use Rattle.mx_base.specs.Memory.{first_refused, first_refused_around}
use Rattle.mx_base.specs.Bounds.{addresses}
use Rattle.paged_memory.specs.Ends.{end_among, run_end}

pub refused-here : (test : ℕ → Bool) (n a : ℕ) → 0 < n → test a ≡ false → first_refused test n a ≡ Some a
unfolding first_refused
refused-here test zero a some e = absurd (omega arith)
refused-here test (suc n) a some e = rw e refl

pub refused-none : (test : ℕ → Bool) (n a : ℕ) → ((x : ℕ) → a ≤ x → x < a + n → test x ≡ true) → first_refused test n a ≡ None
unfolding first_refused
refused-none test zero a all = refl
refused-none test (suc n) a all = rw (all a (omega arith) (omega arith)) (refused-none test n (a + 1) (λ x from below. all x (omega arith) (omega arith)))

refused-pass : (test : ℕ → Bool) (n a : ℕ) → test a ≡ true → first_refused test (suc n) a ≡ first_refused test n (a + 1)
unfolding first_refused
refused-pass test n a e = rw e refl

refused-after : (test : ℕ → Bool) (k n a : ℕ) → k < n → ((x : ℕ) → a ≤ x → x < a + k → test x ≡ true) → test (a + k) ≡ false → first_refused test n a ≡ Some (a + k)
refused-after test zero n a more all end =
    let here : a + 0 ≡ a = omega arith in
    refused-here test n a more (subst (λ x. test x ≡ false) here end) ∙ ap Some (sym here)
refused-after test (suc k) zero a more all end = absurd (omega arith)
refused-after test (suc k) (suc n) a more all end =
    let there : a + suc k ≡ a + 1 + k = omega arith in
    refused-pass test n a (all a (omega arith) (omega arith))
    ∙ refused-after test k n (a + 1) (omega arith) (λ x from below. all x (omega arith) (omega arith)) (subst (λ x. test x ≡ false) there end)
    ∙ ap Some (sym there)

-- the first refused one, from an end up to which all pass and at which none does
pub refused_by_end : (test : ℕ → Bool) (n a end : ℕ) → a ≤ end → ((x : ℕ) → a ≤ x → x < end → test x ≡ true) → test end ≡ false
    → first_refused test n a ≡ cond (nat_lt (end - a) n) (Some end) None
refused_by_end test n a end from all over = elim (cases_lt (end - a) n) [
  | inl more ↦
      let whole : a + (end - a) ≡ end = omega arith in
      let tells : nat_lt (end - a) n ≡ true = grind (arith, nat_tests) in
      refused-after test (end - a) n a more (λ x low below. all x low (omega arith)) (subst (λ x. test x ≡ false) (sym whole) over) ∙ ap Some whole ∙ (rw tells refl)
  | inr fits ↦
      let tells : nat_lt (end - a) n ≡ false = grind (arith, nat_tests) in
      refused-none test n a (λ x low below. all x low (omega arith)) ∙ (rw tells refl)
]

-- ---- regions

abbrev lies_among : (Region → Bool) → List Region → ℕ → Bool
lies_among test rs a = list_any (λ r. test r && is_in r a) rs

abbrev Covers : (Region → Bool) → List Region → ℕ → ℕ → Type 0
Covers test rs a end = (a ≤ end) × ((x : ℕ) → a ≤ x → x < end → lies_among test rs x ≡ true)

or_right : (b c : Bool) → c ≡ true → (b || c) ≡ true
or_right true c e = refl
or_right false c e = e

both_of : (b : Bool) (r : Region) (a : ℕ) → (b && is_in r a) ≡ true → (b ≡ true) × (r.from ≤ a) × (a < r.from + r.size)
both_of true r a e = (refl, (let low : r.from ≤ a = grind (arith, nat_tests) in low), (let high : a < r.from + r.size = grind (arith, nat_tests) in high))
both_of false r a e = absurd (cc)

covers : (test : Region → Bool) (rs : List Region) (a : ℕ) → Covers test rs a (end_among test rs a)
covers test [] a = (omega arith, λ x from below. absurd (omega arith))
covers test (r ∷ rs) a = elim (test r && is_in r a) as (λ b. (test r && is_in r a) ≡ b → Covers test (r ∷ rs) a (cond b (r.from + r.size) (end_among test rs a))) [
  | true ↦ λ e. let inside : (test r ≡ true) × (r.from ≤ a) × (a < r.from + r.size) = both_of (test r) r a e in (
    omega arith,
    λ x from below. let has : is_in r x ≡ true = grind (arith, nat_tests) in rw (inside.0, has) refl,
  )
  | false ↦ λ e. let rest = covers test rs a in (rest.0, λ x from below. or_right (test r && is_in r x) (lies_among test rs x) (rest.1 x from below))
] refl

or_second : (b c : Bool) → ((b && false) || c) ≡ true → c ≡ true
or_second true c e = e
or_second false c e = e

-- no region of a list that the test passes begins where one ends
abbrev EndsFree : (Region → Bool) → List Region → List Region → Type 0
EndsFree test [] all = Unit {0}
EndsFree test (r ∷ rs) all = (lies_among test all (r.from + r.size) ≡ false) × EndsFree test rs all

over : (test : Region → Bool) (rs all : List Region) (a : ℕ) → EndsFree test rs all → (lies_among test rs a ≡ false → lies_among test all a ≡ false) → lies_among test all (end_among test rs a) ≡ false
over test [] all a free same = same refl
over test (r ∷ rs) all a free same = elim (test r && is_in r a) as (λ b. (test r && is_in r a) ≡ b → lies_among test all (cond b (r.from + r.size) (end_among test rs a)) ≡ false) [
  | true ↦ λ e. free.0
  | false ↦ λ e. over test rs all a free.1 (λ away. same (rw (e, away) refl))
] refl

pub run_end_covers : (test : Region → Bool) (a : ℕ) → Covers test regions a (run_end test a)
unfolding run_end
run_end_covers test a = covers test regions a

pub writable_refused : (n a : ℕ) → first_refused is_writable n a ≡ cond (nat_lt (run_end (λ r. r.write) a - a) n) (Some (run_end (λ r. r.write) a)) None
unfolding is_writable run_end
writable_refused n a =
    let run = covers (λ r. r.write) regions a in
    refused_by_end is_writable n a (end_among (λ r. r.write) regions a) run.0 run.1
    (over (λ r. r.write) regions regions a (refl, (refl, (refl, (refl, (refl, (refl, (refl, (refl, (refl, (refl, tt)))))))))) (λ e. e))

pub readable_refused : (n a : ℕ) → first_refused is_readable n a ≡ cond (nat_lt (run_end (λ r. true) a - a) n) (Some (run_end (λ r. true) a)) None
unfolding is_readable run_end
readable_refused n a =
    let run = covers (λ r. true) regions a in
    refused_by_end is_readable n a (end_among (λ r. true) regions a) run.0 run.1
    (over (λ r. true) regions regions a (refl, (refl, (refl, (refl, (refl, (refl, (refl, (refl, (refl, (refl, tt)))))))))) (λ e. e))

pub executable_end : (a : ℕ) → is_executable (run_end (λ r. r.execute) a) ≡ false
unfolding is_executable run_end
executable_end a = over (λ r. r.execute) regions regions a (refl, (refl, (refl, (refl, (refl, (refl, (refl, (refl, (refl, (refl, tt)))))))))) (λ e. e)

reaches : (a : ℕ) → a < run_end (λ r. r.execute) a → is_executable a ≡ true
unfolding is_executable run_end
reaches a below = (covers (λ r. r.execute) regions a).1 a (omega arith) below

-- an address below its region's end can be written
pub writable_below : (a : ℕ) → a < run_end (λ r. r.write) a → is_writable a ≡ true
unfolding is_writable run_end
writable_below a below = (covers (λ r. r.write) regions a).1 a (omega arith) below

-- regions begin and end with pages, so that one address of a page tells of all
aligned : (r : Region) (a x : ℕ) → r.from % 4096 ≡ 0 → r.size % 4096 ≡ 0 → x / 4096 ≡ a / 4096 → is_in r x ≡ is_in r a
aligned r a x from size same =
    let low : nat_le r.from x ≡ nat_le r.from a = grind (arith, nat_tests) in
    let high : nat_lt x (r.from + r.size) ≡ nat_lt a (r.from + r.size) = grind (arith, nat_tests) in
    λ i. low i && high i

abbrev AreAligned : List Region → Type 0
AreAligned [] = Unit {0}
AreAligned (r ∷ rs) = (r.from % 4096 ≡ 0) × ((r.size % 4096 ≡ 0) × AreAligned rs)

same_in_page : (test : Region → Bool) (rs : List Region) (a x : ℕ) → AreAligned rs → x / 4096 ≡ a / 4096 → lies_among test rs x ≡ lies_among test rs a
same_in_page test [] a x all same = refl
same_in_page test (r ∷ rs) a x all same = λ i. (test r && aligned r a x all.0 all.1.0 same i) || same_in_page test rs a x all.1.1 same i

pub writable_in_page : (a x : ℕ) → x / 4096 ≡ a / 4096 → is_writable x ≡ is_writable a
unfolding is_writable
writable_in_page a x same =
    same_in_page (λ r. r.write) regions a x (refl, (refl, (refl, (refl, (refl, (refl, (refl, (refl, (refl, (refl, (refl, (refl, (refl, (refl, (refl, (refl, (refl, (refl, (refl, (refl, tt)))))))))))))))))))) same

lies_weaker : (test : Region → Bool) (rs : List Region) (a : ℕ) → lies_among test rs a ≡ true → lies_among (λ r. true) rs a ≡ true
lies_weaker test [] a e = e
lies_weaker test (r ∷ rs) a e = elim (is_in r a) as (λ b. ((test r && b) || lies_among test rs a) ≡ true → (b || lies_among (λ r. true) rs a) ≡ true) [
  | true ↦ λ h. refl
  | false ↦ λ h. lies_weaker test rs a (or_second (test r) (lies_among test rs a) h)
] e

pub readable_writable : (a : ℕ) → is_writable a ≡ true → is_readable a ≡ true
unfolding is_writable is_readable
readable_writable a e = lies_weaker (λ r. r.write) regions a e

-- an address is executable exactly where its region reaches past it
pub executable_by_end : (a : ℕ) → is_executable a ≡ nat_lt a (run_end (λ r. r.execute) a)
executable_by_end a = elim (cases_lt a (run_end (λ r. r.execute) a)) [
  | inl below ↦
      let tells : nat_lt a (run_end (λ r. r.execute) a) ≡ true = grind (arith, nat_tests) in
      reaches a below ∙ sym tells
  | inr at ↦
      let from = (run_end_covers (λ r. r.execute) a).0 in
      let same : run_end (λ r. r.execute) a ≡ a = omega (arith, from, at) in
      let tells : nat_lt a (run_end (λ r. r.execute) a) ≡ false = grind (arith, nat_tests) in
      ap is_executable (sym same) ∙ executable_end a ∙ sym tells
]

-- ---- by an end that was found

by_end : (n a e end : ℕ) (o : Option ℕ) → e ≡ end → o ≡ cond (nat_lt (end - a) n) (Some end) None → e - a < n → o ≡ Some e
by_end n a e end o same is past =
    let tells : nat_lt (end - a) n ≡ true = grind (arith, nat_tests) in
    is ∙ (rw tells (ap Some (sym same)))

all_by_end : (n a e end : ℕ) (o : Option ℕ) → e ≡ end → o ≡ cond (nat_lt (end - a) n) (Some end) None → n ≤ e - a → o ≡ None
all_by_end n a e end o same is fits =
    let tells : nat_lt (end - a) n ≡ false = grind (arith, nat_tests) in
    is ∙ (rw tells refl)

pub readable_past : (n a e : ℕ) → e ≡ run_end (λ r. true) a → e - a < n → first_refused is_readable n a ≡ Some e
readable_past n a e same past = by_end n a e (run_end (λ r. true) a) (first_refused is_readable n a) same (readable_refused n a) past

pub readable_all : (n a e : ℕ) → e ≡ run_end (λ r. true) a → n ≤ e - a → first_refused is_readable n a ≡ None
readable_all n a e same fits = all_by_end n a e (run_end (λ r. true) a) (first_refused is_readable n a) same (readable_refused n a) fits

pub writable_past : (n a e : ℕ) → e ≡ run_end (λ r. r.write) a → e - a < n → first_refused is_writable n a ≡ Some e
writable_past n a e same past = by_end n a e (run_end (λ r. r.write) a) (first_refused is_writable n a) same (writable_refused n a) past

pub writable_all : (n a e : ℕ) → e ≡ run_end (λ r. r.write) a → n ≤ e - a → first_refused is_writable n a ≡ None
writable_all n a e same fits = all_by_end n a e (run_end (λ r. r.write) a) (first_refused is_writable n a) same (writable_refused n a) fits

-- ---- bytes that may go past the last address

pub around_past : (n a e : ℕ) → e ≡ run_end (λ r. true) a → a ≤ e → e < addresses → e - a < n → first_refused_around is_readable n a ≡ Some e
unfolding first_refused_around
around_past n a e same from fits past =
    let more : e - a < min n (addresses - a) = omega arith in
    rw (readable_past (min n (addresses - a)) a e same more) refl

pub around_all : (n a e : ℕ) → e ≡ run_end (λ r. true) a → a ≤ e → e < addresses → n ≤ e - a → first_refused_around is_readable n a ≡ None
unfolding first_refused_around
around_all n a e same from fits all =
    let less : min n (addresses - a) ≤ e - a = omega arith in
    let none : n - (addresses - a) ≡ 0 = omega arith in
    rw (readable_all (min n (addresses - a)) a e same less, none) (refused-none is_readable 0 0 (λ x low high. absurd (omega arith)))
