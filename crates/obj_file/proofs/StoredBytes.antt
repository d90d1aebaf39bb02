-- Bytes: what a write leaves and what depends on which of them.
use Rattle.std.proofs.Common.{◌≡◌, ℕ, zero, suc, ◌+◌, ◌/◌, ◌%◌, ◌^◌, ◌<◌, ◌≤◌, ◌⊎◌, cond, ◌==◌, inl, inr, refl, ap, ◌∙◌, arith}
use Rattle.std.specs.List.{All}
use Rattle.std.proofs.lemmas.List.Elements.{All-cons}
use Rattle.mx_base.specs.Memory.{Bytes, AreBytes, with_byte, number_at, with_number, list_at}
use Rattle.mx_base.specs.Walk.{TableEntry, entry_in, with_entry}
use Rattle.mx_base.proofs.MemoryLemmas.{with_number_below, with_number_above, number_at-with_number, number_at-same, AreBytes-with_number}

-- ---- numbers

pub with_number_apart : (n : ℕ) (m : Bytes) (a v z : ℕ) → (z < a) ⊎ (a + n ≤ z) → with_number n m a v z ≡ m z
with_number_apart n m a v z apart = elim apart [ inl h ↦ with_number_below n m a v z h | inr h ↦ with_number_above n m a v z h ]

-- the same number written over two memories leaves them the same where they were
pub with_number_both : (n : ℕ) (m k : Bytes) (a v z : ℕ) → m z ≡ k z → with_number n m a v z ≡ with_number n k a v z
unfolding with_number
with_number_both zero m k a v z same = same
with_number_both (suc n) m k a v z same = with_number_both n (with_byte m a (v % 256)) (with_byte k a (v % 256)) (a + 1) (v / 256) z (ap (λ b. cond (z == a) (v % 256) b) same)

pub number_apart : (m : Bytes) (at to v : ℕ) → (at + 8 ≤ to) ⊎ (to + 8 ≤ at) → number_at 8 (with_number 8 m to v) at ≡ number_at 8 m at
number_apart m at to v apart = elim apart [
  | inl h ↦ number_at-same 8 (with_number 8 m to v) m at (λ z low high. with_number_below 8 m to v z (omega arith))
  | inr h ↦ number_at-same 8 (with_number 8 m to v) m at (λ z low high. with_number_above 8 m to v z (omega arith))
]

pub word_back : (m : Bytes) (at v : ℕ) → v < 2 ^ 64 → number_at 8 (with_number 8 m at v) at ≡ v
word_back m at v small = number_at-with_number 8 m at v ∙ omega arith

pub number_of_zeros : (n : ℕ) (m : Bytes) (a : ℕ) → ((z : ℕ) → a ≤ z → z < a + n → m z ≡ 0) → number_at n m a ≡ 0
unfolding number_at
number_of_zeros zero m a zeros = refl
number_of_zeros (suc n) m a zeros =
    let first = zeros a (omega arith) (omega arith) in
    let rest = number_of_zeros n m (a + 1) (λ z low high. zeros z (omega arith) (omega arith)) in
    omega (arith, first, rest)

-- ---- table entries

pub entry_in-same : (m k : Bytes) (at : ℕ) → ((z : ℕ) → at ≤ z → z < at + 24 → m z ≡ k z) → entry_in m at ≡ entry_in k at
unfolding entry_in
entry_in-same m k at same =
    let a : number_at 8 m at ≡ number_at 8 k at = number_at-same 8 m k at (λ z low high. same z (omega arith) (omega arith)) in
    let b : number_at 8 m (at + 8) ≡ number_at 8 k (at + 8) = number_at-same 8 m k (at + 8) (λ z low high. same z (omega arith) (omega arith)) in
    let d : number_at 8 m (at + 16) ≡ number_at 8 k (at + 16) = number_at-same 8 m k (at + 16) (λ z low high. same z (omega arith) (omega arith)) in
    λ i. record { lb = a i; held = b i; value = d i }

pub entry_of_zeros : (m : Bytes) (at : ℕ) → ((z : ℕ) → at ≤ z → z < at + 24 → m z ≡ 0) → ◌≡◌ {A = TableEntry} (entry_in m at) record { lb = 0; held = 0; value = 0 }
unfolding entry_in
entry_of_zeros m at zeros =
    let a : number_at 8 m at ≡ 0 = number_of_zeros 8 m at (λ z low high. zeros z (omega arith) (omega arith)) in
    let b : number_at 8 m (at + 8) ≡ 0 = number_of_zeros 8 m (at + 8) (λ z low high. zeros z (omega arith) (omega arith)) in
    let d : number_at 8 m (at + 16) ≡ 0 = number_of_zeros 8 m (at + 16) (λ z low high. zeros z (omega arith) (omega arith)) in
    λ i. record { lb = a i; held = b i; value = d i }

pub with_entry_apart : (m : Bytes) (at z : ℕ) (e : TableEntry) → (z < at) ⊎ (at + 24 ≤ z) → with_entry m at e z ≡ m z
unfolding with_entry
with_entry_apart m at z e apart =
    let first = with_number 8 m at e.lb in
    let second = with_number 8 first (at + 8) e.held in
    elim apart [
      | inl h ↦ with_number_below 8 second (at + 16) e.value z (omega arith) ∙ with_number_below 8 first (at + 8) e.held z (omega arith) ∙ with_number_below 8 m at e.lb z h
      | inr h ↦ with_number_above 8 second (at + 16) e.value z (omega arith) ∙ with_number_above 8 first (at + 8) e.held z (omega arith) ∙ with_number_above 8 m at e.lb z (omega arith)
    ]

pub entry_back : (m : Bytes) (at : ℕ) (e : TableEntry) → e.lb < 2 ^ 64 → e.held < 2 ^ 64 → e.value < 2 ^ 64 → entry_in (with_entry m at e) at ≡ e
unfolding entry_in with_entry
entry_back m at e lb held value =
    let first = with_number 8 m at e.lb in
    let second = with_number 8 first (at + 8) e.held in
    let a : number_at 8 (with_number 8 second (at + 16) e.value) at ≡ e.lb = number_apart second at (at + 16) e.value (inl (omega arith)) ∙ number_apart first at (at + 8) e.held (inl (omega arith)) ∙ word_back m at e.lb lb in
    let b : number_at 8 (with_number 8 second (at + 16) e.value) (at + 8) ≡ e.held = number_apart second (at + 8) (at + 16) e.value (inl (omega arith)) ∙ word_back first (at + 8) e.held held in
    let d : number_at 8 (with_number 8 second (at + 16) e.value) (at + 16) ≡ e.value = word_back second (at + 16) e.value value in
    λ i. record { lb = a i; held = b i; value = d i }

pub AreBytes-with_entry : (m : Bytes) (at : ℕ) (e : TableEntry) → AreBytes m → AreBytes (with_entry m at e)
unfolding with_entry
AreBytes-with_entry m at e bytes =
    let first = with_number 8 m at e.lb in
    let second = with_number 8 first (at + 8) e.held in
    AreBytes-with_number 8 second (at + 16) e.value (AreBytes-with_number 8 first (at + 8) e.held (AreBytes-with_number 8 m at e.lb bytes))

-- entries that share no byte
pub entry_apart : (m : Bytes) (at to : ℕ) (e : TableEntry) → (at + 32 ≤ to) ⊎ (to + 32 ≤ at) → entry_in (with_entry m to e) at ≡ entry_in m at
entry_apart m at to e apart = entry_in-same (with_entry m to e) m at (λ z low high. with_entry_apart m to z e (elim apart [
  | inl h ↦ inl (omega arith)
  | inr h ↦ inr (omega arith)
]))

-- ---- lists

pub bytes-list_at : (n : ℕ) (m : Bytes) (a : ℕ) → AreBytes m → All (λ b. b < 256) (list_at n m a)
unfolding list_at
bytes-list_at zero m a bytes = λ k d low. absurd (omega arith)
bytes-list_at (suc n) m a bytes = All-cons (λ b. b < 256) (m a) (list_at n m (a + 1)) (bytes a) (bytes-list_at n m (a + 1) bytes)
