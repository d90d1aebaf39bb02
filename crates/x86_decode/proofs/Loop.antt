use Rattle.std.proofs.Common.{◌≡◌, ◌<◌, ◌≤◌, ◌+◌, ℕ, suc, List, ◌∷◌, length, get_or, drop, refl, ap, add-one, arith, drop-cons}
use Rattle.std.proofs.lemmas.List.{drop_all}
use Rattle.x86_decode.specs.declared.states.State.{State}
use Rattle.x86_decode.specs.declared.states.Next.{Next}
use Rattle.x86_decode.specs.declared.reader.Undecoded.TheVariants.{Short}
use Rattle.std.specs.Prelude.{Err}
use Rattle.x86_decode.specs.Steps.{step_of}
use Rattle.x86_decode.specs.Run.{run, outcome, least_of}

run_cons : (b : ℕ) (bs : List ℕ) (s : State) (n : ℕ) → run (b ∷ bs) s n ≡ outcome (λ s'. run bs s' (suc n)) (suc n) (step_of s b)
unfolding run
run_cons b bs s n = refl

-- a byte further
pub run_at : (bs : List ℕ) (i : ℕ) (s : State) (next : Next) → i < length bs → next ≡ step_of s (get_or bs i 0) → run (drop i bs) s i ≡ outcome (λ s'. run (drop (i + 1) bs) s' (i + 1)) (i + 1) next
run_at bs i s next h e = rw (add-one, drop-cons bs i 0 h, run_cons, e) refl

pub run_end : (bs : List ℕ) (i : ℕ) (s : State) → length bs ≤ i → i ≤ length bs → run (drop i bs) s i ≡ Err (Short (length bs + least_of s))
unfolding run
run_end bs i s h k = rw (drop_all i bs h) (ap (λ n. Err (Short (n + least_of s))) (omega arith))
