-- What a store of a table entry leaves, and what is read back.
use Rattle.std.proofs.Common.{◌≡◌, ℕ, ◌+◌, ◌^◌, ◌<◌, ◌≤◌, ◌∙◌, arith}
use Rattle.mx_base.specs.Memory.{Bytes, number_at, with_number}
use Rattle.mx_base.specs.Walk.{TableEntry, entry_in, with_entry}
use Rattle.mx_base.proofs.MemoryLemmas.{with_number_below, with_number_above, number_at-with_number, number_at-same}

pub stored_below : (m : Bytes) (at x : ℕ) (e : TableEntry) → x < at → with_entry m at e x ≡ m x
unfolding with_entry
stored_below m at x e below =
    with_number_below 8 (with_number 8 (with_number 8 m at e.lb) (at + 8) e.held) (at + 16) e.value x (omega arith)
    ∙ with_number_below 8 (with_number 8 m at e.lb) (at + 8) e.held x (omega arith) ∙ with_number_below 8 m at e.lb x below

pub stored_above : (m : Bytes) (at x : ℕ) (e : TableEntry) → at + 24 ≤ x → with_entry m at e x ≡ m x
unfolding with_entry
stored_above m at x e above =
    with_number_above 8 (with_number 8 (with_number 8 m at e.lb) (at + 8) e.held) (at + 16) e.value x (omega arith)
    ∙ with_number_above 8 (with_number 8 m at e.lb) (at + 8) e.held x (omega arith) ∙ with_number_above 8 m at e.lb x (omega arith)

-- a number that stands before a write is read as before
number_before : (m : Bytes) (at to v : ℕ) → at + 8 ≤ to → number_at 8 (with_number 8 m to v) at ≡ number_at 8 m at
number_before m at to v before = number_at-same 8 (with_number 8 m to v) m at (λ x low high. with_number_below 8 m to v x (omega arith))

word_back : (m : Bytes) (at v : ℕ) → v < 2 ^ 64 → number_at 8 (with_number 8 m at v) at ≡ v
word_back m at v small = number_at-with_number 8 m at v ∙ omega arith

pub stored_back : (m : Bytes) (at : ℕ) (e : TableEntry) → e.lb < 2 ^ 64 → e.held < 2 ^ 64 → e.value < 2 ^ 64 → entry_in (with_entry m at e) at ≡ e
unfolding entry_in with_entry
stored_back m at e lb held value =
    let first = with_number 8 m at e.lb in
    let second = with_number 8 first (at + 8) e.held in
    let a : number_at 8 (with_number 8 second (at + 16) e.value) at ≡ e.lb = number_before second at (at + 16) e.value (omega arith) ∙ number_before first at (at + 8) e.held (omega arith) ∙ word_back m at e.lb lb in
    let b : number_at 8 (with_number 8 second (at + 16) e.value) (at + 8) ≡ e.held = number_before second (at + 8) (at + 16) e.value (omega arith) ∙ word_back first (at + 8) e.held held in
    let d : number_at 8 (with_number 8 second (at + 16) e.value) (at + 16) ≡ e.value = word_back second (at + 16) e.value value in
    λ i. record { lb = a i; held = b i; value = d i }
