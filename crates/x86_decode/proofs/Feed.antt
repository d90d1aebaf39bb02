-- What bytes, one after another, make of a state.
use Rattle.std.proofs.Common.{◌≡◌, ◌+◌, ℕ, suc, arith, refl, List, [], ◌∷◌, ◌++◌, length, sym, ap, ◌∙◌}
use Rattle.std.specs.Prelude.{Ok}
use Rattle.x86_forms.specs.declared.instr.Instr.{Instr}
use Rattle.x86_decode.specs.declared.states.State.{State}
use Rattle.x86_decode.specs.declared.states.Next.{Next}
use Rattle.x86_decode.specs.declared.states.Next.TheVariants.{Dead, Go, End}
use Rattle.x86_decode.specs.Run.{run, outcome}
use Rattle.x86_decode.specs.Steps.{step_of}

abbrev pub next_of : ℕ → Next → Next
next_of b Dead = Dead
next_of b (Go s) = step_of s b
next_of b (End i) = Dead

abbrev pub feed : List ℕ → Next → Next
feed [] n = n
feed (b ∷ bs) n = feed bs (next_of b n)

pub feed-append : (xs ys : List ℕ) (n : Next) → feed (xs ++ ys) n ≡ feed ys (feed xs n)
feed-append [] ys n = refl
feed-append (x ∷ xs) ys n = feed-append xs ys (next_of x n)

pub feed-dead : (xs : List ℕ) → feed xs Dead ≡ Dead
feed-dead [] = refl
feed-dead (x ∷ xs) = feed-dead xs

-- after an instruction nothing may follow
pub feed-end : (xs : List ℕ) (i j : Instr) → feed xs (End j) ≡ End i → (xs ≡ []) × (i ≡ j)
feed-end [] i j e = (refl, cc)
feed-end (x ∷ xs) i j e = let k : Dead ≡ End i = sym (feed-dead xs) ∙ e in absurd (cc)

run_next : (xs rest : List ℕ) (n : ℕ) (i : Instr) (next : Next) → ((s : State) → feed xs (Go s) ≡ End i → run (xs ++ rest) s (suc n) ≡ Ok (i, suc n + length xs))
    → feed xs next ≡ End i → outcome (λ s'. run (xs ++ rest) s' (suc n)) (suc n) next ≡ Ok (i, n + suc (length xs))
run_next xs rest n i Dead ih e = let k : Dead ≡ End i = sym (feed-dead xs) ∙ e in absurd (cc)
run_next xs rest n i (Go s) ih e = ih s e ∙ ap (λ m. Ok (i, m)) (omega arith)
run_next xs rest n i (End j) ih e =
    let f = feed-end xs i j e in rw (f.0, f.1) (ap (λ m. Ok (j, m)) (omega arith))

-- what is spelled in full is read, whatever follows
pub run_feed : (xs rest : List ℕ) (s : State) (n : ℕ) (i : Instr) → feed xs (Go s) ≡ End i → run (xs ++ rest) s n ≡ Ok (i, n + length xs)
unfolding run
run_feed [] rest s n i e = absurd (cc)
run_feed (x ∷ xs) rest s n i e = run_next xs rest n i (step_of s x) (λ s' k. run_feed xs rest s' (suc n) i k) e
