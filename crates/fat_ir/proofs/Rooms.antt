-- The room for passes never runs out before the turns do.
use Rattle.std.proofs.Common.{ℕ, zero, suc, ◌≡◌, ◌<◌, refl, List, arith}
use Rattle.mx_base.specs.World.{World}
use Rattle.fat_ir.specs.declared.step.FatStep.{FatStep}
use Rattle.fat_ir.specs.Calls.{Outcome, with_turns, turn_from}
use Rattle.fat_ir.specs.Step.{Symbols, State, Going, Next, To, Reached, On, Over}
use Rattle.fat_ir.specs.Run.{pass, back, followed, run_to, steps_run}
use Rattle.fat_ir.specs.Laws.{LeftByCalls, NoMoreTurns}
use Rattle.fat_ir.proofs.Runs.{Led, led-pass}
use Rattle.fat_ir.proofs.Worlds.{fewer}

-- a turn is taken alike where what follows is alike with one turn less
turn-alike : (n : ℕ) (w : World) (f g : World → Outcome) → w.turns ≡ n → ((u : World) → u.turns < w.turns → f u ≡ g u) → turn_from n w f ≡ turn_from n w g
turn-alike zero w f g e alike = refl
turn-alike (suc n) w f g e alike = alike (with_turns n w) (omega (arith, e))

followed-alike : (private : ℕ) (f g : ℕ → State → Outcome) (w : World) (r : Reached) → Led NoMoreTurns NoMoreTurns fewer w r → ((label : ℕ) (t : State) → t.world.turns < w.turns → f label t ≡ g label t) → followed private f r ≡ followed private g r
followed-alike private f g w (On Next t) h alike = refl
followed-alike private f g w (On (To label) t) h alike = turn-alike t.world.turns t.world _ _ refl (λ u less. alike label (back private record t { world = u }) (omega (arith, h, less)))
followed-alike private f g w (Over o) h alike = refl

rooms-alike : (symbols : Symbols) → LeftByCalls NoMoreTurns symbols.call → (private : ℕ) (steps : List FatStep) (n m label : ℕ) (s : State) → s.world.turns < n → s.world.turns < m → run_to symbols private steps n label s ≡ run_to symbols private steps m label s
rooms-alike symbols h private steps zero m label s p q = absurd (omega (arith, p))
rooms-alike symbols h private steps (suc n) zero label s p q = absurd (omega (arith, q))
rooms-alike symbols h private steps (suc n) (suc m) label s p q = followed-alike private _ _ s.world _ (led-pass NoMoreTurns NoMoreTurns fewer symbols h steps (To label) s) (λ label t less. rooms-alike symbols h private steps n m label t (omega (arith, p, less)) (omega (arith, q, less)))

pub run-by-passes : (symbols : Symbols) → LeftByCalls NoMoreTurns symbols.call → (private : ℕ) (steps : List FatStep) (going : Going) (s : State) → steps_run symbols private steps going s ≡ followed private (λ label t. steps_run symbols private steps (To label) t) (pass symbols steps going s)
run-by-passes symbols h private steps going s = followed-alike private _ _ s.world _ (led-pass NoMoreTurns NoMoreTurns fewer symbols h steps going s) (λ label t less. rooms-alike symbols h private steps s.world.turns (suc t.world.turns) label t less (omega arith))
