-- Lists of steps one after another, and the way to a label.
use Rattle.std.proofs.Common.{ℕ, ◌≡◌, refl, sym, ap, ◌∙◌, List, [], ◌∷◌, ◌++◌, true, false, cond, ◌==◌, arith}
use Rattle.std.specs.Prelude.{◌≢◌}
use Rattle.std.proofs.lemmas.Bool.Decides.{nat_tests}
use Rattle.fat_ir.specs.declared.step.FatStep.{FatStep}
use Rattle.fat_ir.specs.declared.step.FatStep.TheVariants.{Label}
use Rattle.fat_ir.specs.Step.{Symbols, State, Going, Next, To, Reached, On, Over}
use Rattle.fat_ir.specs.Run.{moves, and_then, pass}
use Rattle.fat_ir.specs.Laws.{LacksLabel}

then-then : (r : Reached) (f g : Going → State → Reached) → and_then (and_then r f) g ≡ and_then r (λ going s. and_then (f going s) g)
then-then (On going s) f g = refl
then-then (Over outcome) f g = refl

pub pass-append : (symbols : Symbols) (a b : List FatStep) (going : Going) (s : State) → pass symbols (a ++ b) going s ≡ and_then (pass symbols a going s) (pass symbols b)
pass-append symbols [] b going s = refl
pass-append symbols (i ∷ a) b going s = ap (λ f. and_then (moves symbols i going s) f) (λ j going s. pass-append symbols a b going s j) ∙ sym (then-then (moves symbols i going s) (pass symbols a) (pass symbols b))

differ : (a b : ℕ) → a ≢ b → (a == b) ≡ false
differ a b h = grind (arith, nat_tests)

alike : (a : ℕ) → (a == a) ≡ true
alike a = grind (arith, nat_tests)

pub pass-over : (symbols : Symbols) (a : List FatStep) (label : ℕ) (s : State) → LacksLabel label a → pass symbols a (To label) s ≡ On (To label) s
pass-over symbols [] label s h = refl
pass-over symbols (Label n ∷ a) label s h = ap (λ b. and_then (cond b (On Next s) (On (To label) s)) (pass symbols a)) (differ label n h.0) ∙ pass-over symbols a label s h.1
pass-over symbols (_ ∷ a) label s h = pass-over symbols a label s h

pub pass-here : (symbols : Symbols) (a : List FatStep) (label : ℕ) (s : State) → pass symbols (Label label ∷ a) (To label) s ≡ pass symbols a Next s
pass-here symbols a label s = ap (λ b. and_then (cond b (On Next s) (On (To label) s)) (pass symbols a)) (alike label)
