-- What is written is read back, and nothing else changes.
use Rattle.std.proofs.Common.{Option, ◌≡◌, ℕ, zero, suc, ◌+◌, ◌-◌, ◌*◌, ◌/◌, ◌%◌, ◌^◌, min, ◌<◌, ◌≤◌, Bool, true, false, cond, ◌==◌, nat_lt, None, Some, List, [], ◌∷◌, length, refl, ap, ◌∙◌, arith}
use Rattle.std.proofs.lemmas.Bool.Decides.{nat_tests}
use Rattle.std.proofs.Math.Arith.{mod-mul}
use Rattle.std.proofs.Math.Nat.{pow-suc}
use Rattle.mx_base.specs.Memory.{Bytes, with_byte, number_at, with_number, list_at, with_list, AreBytes, first_refused, first_refused_around}
use Rattle.mx_base.specs.Bounds.{addresses}
use Rattle.std.specs.Option.{option_or}

pub with_byte_here : (m : Bytes) (a b : ℕ) → with_byte m a b a ≡ b
with_byte_here m a b = grind (arith, nat_tests)

pub with_byte_below : (m : Bytes) (a b x : ℕ) → x < a → with_byte m a b x ≡ m x
with_byte_below m a b x below = grind (arith, nat_tests)

pub with_byte_above : (m : Bytes) (a b x : ℕ) → a < x → with_byte m a b x ≡ m x
with_byte_above m a b x above = grind (arith, nat_tests)

-- ---- numbers

pub number-none : (m : Bytes) (a : ℕ) → number_at 0 m a ≡ 0
unfolding number_at
number-none m a = refl

pub number-more : (n : ℕ) (m : Bytes) (a : ℕ) → number_at (suc n) m a ≡ m a + 256 * number_at n m (a + 1)
unfolding number_at
number-more n m a = refl

pub with_number-none : (m : Bytes) (a v : ℕ) → with_number 0 m a v ≡ m
unfolding with_number
with_number-none m a v = refl

pub with_number-more : (n : ℕ) (m : Bytes) (a v : ℕ) → with_number (suc n) m a v ≡ with_number n (with_byte m a (v % 256)) (a + 1) (v / 256)
unfolding with_number
with_number-more n m a v = refl

pub with_number_below : (n : ℕ) (m : Bytes) (a v x : ℕ) → x < a → with_number n m a v x ≡ m x
unfolding with_number
with_number_below zero m a v x below = refl
with_number_below (suc n) m a v x below = with_number_below n (with_byte m a (v % 256)) (a + 1) (v / 256) x (omega arith) ∙ with_byte_below m a (v % 256) x below

pub with_number_above : (n : ℕ) (m : Bytes) (a v x : ℕ) → a + n ≤ x → with_number n m a v x ≡ m x
unfolding with_number
with_number_above zero m a v x above = refl
with_number_above (suc n) m a v x above = with_number_above n (with_byte m a (v % 256)) (a + 1) (v / 256) x (omega arith) ∙ with_byte_above m a (v % 256) x (omega arith)

power-some : (n : ℕ) → 0 < 256 ^ n
power-some zero = omega arith
power-some (suc n) = let more = pow-suc 256 n in let some = power-some n in omega (arith, more, some)

pub number_at-with_number : (n : ℕ) (m : Bytes) (a v : ℕ) → number_at n (with_number n m a v) a ≡ v % 256 ^ n
unfolding number_at with_number
number_at-with_number zero m a v = omega arith
number_at-with_number (suc n) m a v =
    let first = with_number_below n (with_byte m a (v % 256)) (a + 1) (v / 256) a (omega arith) ∙ with_byte_here m a (v % 256) in
    let rest = number_at-with_number n (with_byte m a (v % 256)) (a + 1) (v / 256) in
    let digits = mod-mul v {m = 256 ^ n} {c = 256} (power-some n) (omega arith) in
    rw (first, rest, pow-suc 256 n) (omega (arith, digits))

-- a number depends on its own bytes alone
pub number_at-same : (n : ℕ) (m k : Bytes) (a : ℕ) → ((x : ℕ) → a ≤ x → x < a + n → m x ≡ k x) → number_at n m a ≡ number_at n k a
unfolding number_at
number_at-same zero m k a same = refl
number_at-same (suc n) m k a same =
    let rest = number_at-same n m k (a + 1) (λ x low high. same x (omega arith) (omega arith)) in
    let first = same a (omega arith) (omega arith) in
    rw (first, rest) refl

pub number_at-lt : (n : ℕ) (m : Bytes) (a : ℕ) → AreBytes m → number_at n m a < 256 ^ n
unfolding number_at
number_at-lt zero m a bytes = omega arith
number_at-lt (suc n) m a bytes =
    let rest = number_at-lt n m (a + 1) bytes in
    let first = bytes a in
    rw (pow-suc 256 n) (omega (arith, rest, first))

pub AreBytes-with_byte : (m : Bytes) (a b : ℕ) → AreBytes m → b < 256 → AreBytes (with_byte m a b)
AreBytes-with_byte m a b bytes small x = elim (x == a) as (λ t. cond t b (m x) < 256) [ true ↦ small | false ↦ bytes x ]

pub AreBytes-with_number : (n : ℕ) (m : Bytes) (a v : ℕ) → AreBytes m → AreBytes (with_number n m a v)
unfolding with_number
AreBytes-with_number zero m a v bytes = bytes
AreBytes-with_number (suc n) m a v bytes = AreBytes-with_number n (with_byte m a (v % 256)) (a + 1) (v / 256) (AreBytes-with_byte m a (v % 256) bytes (omega arith))

-- ---- lists

pub with_list_below : (bs : List ℕ) (m : Bytes) (a x : ℕ) → x < a → with_list m a bs x ≡ m x
unfolding with_list
with_list_below [] m a x below = refl
with_list_below (b ∷ bs) m a x below = with_list_below bs (with_byte m a b) (a + 1) x (omega arith) ∙ with_byte_below m a b x below

pub with_list_above : (bs : List ℕ) (m : Bytes) (a x : ℕ) → a + length bs ≤ x → with_list m a bs x ≡ m x
unfolding with_list
with_list_above [] m a x above = refl
with_list_above (b ∷ bs) m a x above = with_list_above bs (with_byte m a b) (a + 1) x (omega arith) ∙ with_byte_above m a b x (omega arith)

pub list_at-with_list : (bs : List ℕ) (m : Bytes) (a : ℕ) → list_at (length bs) (with_list m a bs) a ≡ bs
unfolding list_at with_list
list_at-with_list [] m a = refl
list_at-with_list (b ∷ bs) m a =
    let first = with_list_below bs (with_byte m a b) (a + 1) a (omega arith) ∙ with_byte_here m a b in
    rw (first, list_at-with_list bs (with_byte m a b) (a + 1)) refl

pub list_at-same : (n : ℕ) (m k : Bytes) (a : ℕ) → ((x : ℕ) → a ≤ x → x < a + n → m x ≡ k x) → list_at n m a ≡ list_at n k a
unfolding list_at
list_at-same zero m k a same = refl
list_at-same (suc n) m k a same =
    let rest = list_at-same n m k (a + 1) (λ x low high. same x (omega arith) (omega arith)) in
    let first = same a (omega arith) (omega arith) in
    rw (first, rest) refl

pub length-list_at : (n : ℕ) (m : Bytes) (a : ℕ) → length (list_at n m a) ≡ n
unfolding list_at
length-list_at zero m a = refl
length-list_at (suc n) m a = ap suc (length-list_at n m (a + 1))

-- ---- tests of the bytes in order

first_of_two : (a x : ℕ) {P : Type 0} → a ≤ x → (a ≡ x → P) → (a + 1 ≤ x → P) → P
first_of_two a x {P} low here above = elim (nat_lt a x) as (λ b. nat_lt a x ≡ b → P) [
  | true ↦ λ e. above (grind (arith, nat_tests))
  | false ↦ λ e. here (grind (arith, nat_tests))
] refl

-- where none is refused, each passes; and where each passes, none is refused
pub first_refused-none : (test : ℕ → Bool) (n a x : ℕ) → first_refused test n a ≡ None → a ≤ x → x < a + n → test x ≡ true
unfolding first_refused
first_refused-none test zero a x none low high = absurd (omega arith)
first_refused-none test (suc n) a x none low high = elim (test a) as (λ b. test a ≡ b → cond b (first_refused test n (a + 1)) (Some a) ≡ None → test x ≡ true) [
  | true ↦ λ e h. first_of_two a x low (λ same. rw (← same) e) (λ above. first_refused-none test n (a + 1) x h above (omega arith))
  | false ↦ λ e h. absurd (cc)
] refl none

pub first_refused-all : (test : ℕ → Bool) (n a : ℕ) → ((x : ℕ) → a ≤ x → x < a + n → test x ≡ true) → first_refused test n a ≡ None
unfolding first_refused
first_refused-all test zero a all = refl
first_refused-all test (suc n) a all =
    let first = all a (omega arith) (omega arith) in
    rw first (first_refused-all test n (a + 1) (λ x low high. all x (omega arith) (omega arith)))

or_none : {X : Type 0} (o : Option X) → option_or o None ≡ o
or_none None = refl
or_none (Some x) = refl

-- bytes that end at the last address or before go around nothing
pub first_refused_around-plain : (test : ℕ → Bool) (n a : ℕ) → a + n ≤ addresses → first_refused_around test n a ≡ first_refused test n a
unfolding first_refused_around first_refused
first_refused_around-plain test n a within =
    let all : min n (addresses - a) ≡ n = omega arith in
    let rest : n - (addresses - a) ≡ 0 = omega arith in
    rw (all, rest) (or_none (first_refused test n a))
