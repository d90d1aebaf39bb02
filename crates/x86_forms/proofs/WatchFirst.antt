-- The first sealed byte of an access, and where control strays.
use Rattle.std.proofs.Common.{◌≡◌, ℕ, zero, suc, ◌+◌, ◌-◌, ◌<◌, ◌≤◌, min, Bool, true, false, cond, nat_lt, Option, None, Some, refl, ap, sym, ◌∙◌, arith}
use Rattle.std.specs.Prelude.{not}
use Rattle.std.specs.Option.{option_or}
use Rattle.std.proofs.lemmas.Bool.Decides.{nat_tests}
use Rattle.mx_base.specs.Bounds.{addresses, moved}
use Rattle.mx_base.specs.Memory.{first_refused, first_refused_around}
use Rattle.mx_base.specs.Regions.{is_sealed}
use Rattle.mx_base.proofs.MemoryLemmas.{first_refused-none, first_refused-all}
use Rattle.x86_forms.specs.declared.instr.Instr.{Instr}
use Rattle.x86_forms.specs.declared.spans.Span.{Span}
use Rattle.x86_forms.specs.Watch.{is_watched, first_sealed, access_strays}
use Rattle.x86_forms.specs.WatchLaws.{IsFirstSealed, StraysAt, HasNoSealedByte}

-- ---- the first of some addresses that fails a test

pub record IsFirst (test : ℕ → Bool) (n a k x : ℕ) : Type 0 where
  pub within : k < n
  pub address : x ≡ a + k
  pub fails : test x ≡ false
  pub before : (j : ℕ) → j < k → test (a + j) ≡ true

first_later : (test : ℕ → Bool) (n a k x : ℕ) → test a ≡ true → IsFirst test n (a + 1) k x → IsFirst test (suc n) a (suc k) x
first_later test n a k x e f = record { within = omega (arith, f.within); address = omega (arith, f.address); fails = f.fails; before = early }
  where
    early : (j : ℕ) → j < suc k → test (a + j) ≡ true
    early zero h = let same : a + zero ≡ a = omega arith in rw same e
    early (suc j) h = let same : a + suc j ≡ a + 1 + j = omega arith in rw same (f.before j (omega arith))

pub first_refused-some : (test : ℕ → Bool) (n a x : ℕ) → first_refused test n a ≡ Some x → (k : ℕ) × IsFirst test n a k x
unfolding first_refused
first_refused-some test zero a x h = absurd (cc)
first_refused-some test (suc n) a x h = elim (test a) as (λ b. test a ≡ b → cond b (first_refused test n (a + 1)) (Some a) ≡ Some x → (k : ℕ) × IsFirst test (suc n) a k x) [
  | true ↦ λ e g. let r = first_refused-some test n (a + 1) x g in (suc r.0, first_later test n a r.0 x e r.1)
  | false ↦ λ e g. let same : a ≡ x = cc in (0, record { within = omega arith; address = omega arith; fails = rw (← same) e; before = λ j k. absurd (omega arith) })
] refl h

-- the first one is unique
pub first_refused-first : (test : ℕ → Bool) (n a k x : ℕ) → IsFirst test n a k x → first_refused test n a ≡ Some x
unfolding first_refused
first_refused-first test zero a k x f = absurd (omega (arith, f.within))
first_refused-first test (suc n) a zero x f = let same : x ≡ a = omega (arith, f.address) in let e : test a ≡ false = rw (← same) f.fails in rw e (ap Some (sym same))
first_refused-first test (suc n) a (suc k) x f =
    let here : a + 0 ≡ a = omega arith in
    let e : test a ≡ true = rw here at (f.before 0 (omega arith)) in
    rw e (first_refused-first test n (a + 1) k x (record {
      within = omega (arith, f.within);
      address = omega (arith, f.address);
      fails = f.fails;
      before = λ j h. let same : a + 1 + j ≡ a + suc j = omega arith in rw same (f.before (suc j) (omega arith));
    }))

-- ---- bytes that may go around

unsealed : (b : Bool) → not b ≡ true → b ≡ false
unsealed true h = absurd (cc)
unsealed false h = refl

sealed : (b : Bool) → not b ≡ false → b ≡ true
sealed true h = refl
sealed false h = absurd (cc)

moved_low : (a j : ℕ) → a + j < addresses → moved a j ≡ a + j
unfolding moved
moved_low a j h = omega arith

moved_high : (a j k : ℕ) → a + j ≡ addresses + k → k < addresses → moved a j ≡ k
unfolding moved
moved_high a j k h l = omega arith

abbrev plain : ℕ → Bool
plain a = not (is_sealed a)

-- none of the first bytes is sealed: those up to the last address
low_unsealed : (a n j : ℕ) → a < addresses → first_refused plain (min n (addresses - a)) a ≡ None → j < n → a + j < addresses → is_sealed (moved a j) ≡ false
low_unsealed a n j h e l m = rw (moved_low a j m) (unsealed _ (first_refused-none plain (min n (addresses - a)) a (a + j) e (omega arith) (omega arith)))

high_unsealed : (a n j : ℕ) → a < addresses → n < addresses → first_refused plain (n - (addresses - a)) 0 ≡ None → j < n → addresses ≤ a + j → is_sealed (moved a j) ≡ false
high_unsealed a n j h g e l m =
    let there : moved a j ≡ a + j - addresses = moved_high a j (a + j - addresses) (omega arith) (omega arith) in
    rw there (unsealed _ (first_refused-none plain (n - (addresses - a)) 0 (a + j - addresses) e (omega arith) (omega arith)))

-- bytes before and after the last address
by_half : (a j : ℕ) {P : Type 0} → (a + j < addresses → P) → (addresses ≤ a + j → P) → P
by_half a j {P} low high = elim (nat_lt (a + j) addresses) as (λ b. nat_lt (a + j) addresses ≡ b → P) [
  | true ↦ λ e. low (grind (arith, nat_tests))
  | false ↦ λ e. high (grind (arith, nat_tests))
] refl

both_none : {X : Type 0} (o p : Option X) → option_or o p ≡ None → (o ≡ None) × (p ≡ None)
both_none None p h = (refl, h)
both_none (Some y) p h = absurd (cc)

one_some : {X : Type 0} (o p : Option X) (x : X) {P : Type 0} → option_or o p ≡ Some x → (o ≡ Some x → P) → (o ≡ None → p ≡ Some x → P) → P
one_some None p x h f g = g refl h
one_some (Some y) p x h f g = f h

pub no_sealed : (s : Span) → s.at < addresses → s.size < addresses → first_sealed s ≡ None → HasNoSealedByte s
unfolding first_sealed first_refused_around
no_sealed s h g e = let none = both_none (first_refused plain (min s.size (addresses - s.at)) s.at) (first_refused plain (s.size - (addresses - s.at)) 0) e in
    λ k l. by_half s.at k (λ m. low_unsealed s.at s.size k h none.0 l m) (λ m. high_unsealed s.at s.size k h g none.1 l m)

sealed_low : (s : Span) (x k : ℕ) → s.at < addresses → IsFirst plain (min s.size (addresses - s.at)) s.at k x → IsFirstSealed s k x
sealed_low s x k h f = record {
  within = omega (arith, f.within);
  address = f.address ∙ sym (moved_low s.at k (omega (arith, f.within)));
  sealed = sealed _ f.fails;
  before = λ j l. rw (moved_low s.at j (omega (arith, f.within))) (unsealed _ (f.before j l));
}

sealed_high : (s : Span) (x k : ℕ) → s.at < addresses → s.size < addresses → first_refused plain (min s.size (addresses - s.at)) s.at ≡ None → IsFirst plain (s.size - (addresses - s.at)) 0 k x → IsFirstSealed s (addresses - s.at + k) x
sealed_high s x k h g e f = record {
  within = omega (arith, f.within);
  address = omega (arith, f.address) ∙ sym (moved_high s.at (addresses - s.at + k) k (omega arith) (omega (arith, f.within)));
  sealed = sealed _ f.fails;
  before = λ j l. by_half s.at j (λ m. low_unsealed s.at s.size j h e (omega (arith, f.within)) m)
      (λ m. let here : 0 + (s.at + j - addresses) ≡ s.at + j - addresses = omega arith in
      let there : moved s.at j ≡ s.at + j - addresses = moved_high s.at j (s.at + j - addresses) (omega arith) (omega (arith, f.within)) in
      rw there (unsealed _ (rw here at (f.before (s.at + j - addresses) (omega arith)))));
}

pub first_sealed-is : (s : Span) (x : ℕ) → s.at < addresses → s.size < addresses → first_sealed s ≡ Some x → (k : ℕ) × IsFirstSealed s k x
unfolding first_sealed first_refused_around
first_sealed-is s x h g e = one_some (first_refused plain (min s.size (addresses - s.at)) s.at) (first_refused plain (s.size - (addresses - s.at)) 0) x e
    (λ d. let r = first_refused-some plain (min s.size (addresses - s.at)) s.at x d in (r.0, sealed_low s x r.0 h r.1))
    (λ n d. let r = first_refused-some plain (s.size - (addresses - s.at)) 0 x d in (addresses - s.at + r.0, sealed_high s x r.0 h g n r.1))

shut : (b : Bool) → b ≡ true → not b ≡ false
shut true h = refl
shut false h = absurd (cc)

opened : (b : Bool) → b ≡ false → not b ≡ true
opened true h = absurd (cc)
opened false h = refl

first_low : (s : Span) (x k : ℕ) → s.at + k < addresses → IsFirstSealed s k x → first_refused plain (min s.size (addresses - s.at)) s.at ≡ Some x
first_low s x k m f = first_refused-first plain (min s.size (addresses - s.at)) s.at k x record {
  within = omega (arith, f.within);
  address = f.address ∙ moved_low s.at k m;
  fails = shut _ f.sealed;
  before = λ j l. let there = moved_low s.at j (omega arith) in rw there at (opened _ (f.before j l));
}

none_low : (s : Span) (x k : ℕ) → s.at < addresses → addresses ≤ s.at + k → IsFirstSealed s k x → first_refused plain (min s.size (addresses - s.at)) s.at ≡ None
none_low s x k h m f = first_refused-all plain (min s.size (addresses - s.at)) s.at (λ y l u.
    let here : s.at + (y - s.at) ≡ y = omega arith in
    let there : moved s.at (y - s.at) ≡ y = moved_low s.at (y - s.at) (omega arith) ∙ here in
    rw there at (opened _ (f.before (y - s.at) (omega arith))))

first_high : (s : Span) (x k : ℕ) → s.at < addresses → s.size < addresses → addresses ≤ s.at + k → IsFirstSealed s k x → first_refused plain (s.size - (addresses - s.at)) 0 ≡ Some x
first_high s x k h g m f = first_refused-first plain (s.size - (addresses - s.at)) 0 (s.at + k - addresses) x record {
  within = omega (arith, f.within);
  address = f.address ∙ moved_high s.at k (s.at + k - addresses) (omega arith) (omega (arith, f.within)) ∙ omega arith;
  fails = shut _ f.sealed;
  before = λ j l. let there : moved s.at (addresses - s.at + j) ≡ 0 + j = moved_high s.at (addresses - s.at + j) (0 + j) (omega arith) (omega (arith, f.within)) in
      rw there at (opened _ (f.before (addresses - s.at + j) (omega arith)));
}

or_some : {X : Type 0} (o p : Option X) (x : X) → o ≡ Some x → option_or o p ≡ Some x
or_some None p x h = absurd (cc)
or_some (Some y) p x h = h

or_second : {X : Type 0} (o p : Option X) (x : X) → o ≡ None → p ≡ Some x → option_or o p ≡ Some x
or_second None p x h k = k
or_second (Some y) p x h k = absurd (cc)

pub first_sealed-found : (s : Span) (k x : ℕ) → s.at < addresses → s.size < addresses → IsFirstSealed s k x → first_sealed s ≡ Some x
unfolding first_sealed first_refused_around
first_sealed-found s k x h g f = by_half s.at k
    (λ m. or_some _ _ x (first_low s x k m f))
    (λ m. or_second _ _ x (none_low s x k h m f) (first_high s x k h g m f))

-- ---- accesses

pub access-strays : (i : Instr) (from : ℕ) (s : Span) (x : ℕ) → s.at < addresses → s.size < addresses → access_strays i from s ≡ Some x → StraysAt i from s x
unfolding access_strays
access-strays i from s x h g e = elim (is_watched i from s) as (λ b. is_watched i from s ≡ b → cond b (first_sealed s) None ≡ Some x → StraysAt i from s x) [
  | true ↦ λ w d. record { watched = w; first = first_sealed-is s x h g d }
  | false ↦ λ w d. absurd (cc)
] refl e

pub access-found : (i : Instr) (from : ℕ) (s : Span) (x : ℕ) → s.at < addresses → s.size < addresses → StraysAt i from s x → access_strays i from s ≡ Some x
unfolding access_strays
access-found i from s x h g f = rw f.watched (first_sealed-found s f.first.0 x h g f.first.1)

pub access-fine : (i : Instr) (from : ℕ) (s : Span) → s.at < addresses → s.size < addresses → is_watched i from s ≡ true → access_strays i from s ≡ None → HasNoSealedByte s
unfolding access_strays
access-fine i from s h g w e = no_sealed s h g (rw w at e)
