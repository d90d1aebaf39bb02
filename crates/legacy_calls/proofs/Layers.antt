-- Two laws of the steps that the gates ask for: a call that comes back leaves both stacks as they were, and none takes turns back.
use Rattle.std.proofs.Common.{◌≡◌, ℕ, refl, ◌∙◌, arith}
use Rattle.mx_base.specs.World.{World}
use Rattle.fat_ir.specs.Functions.{Linked, calls}
use Rattle.fat_ir.specs.Laws.{LeftByCalls, NoMoreTurns, Anywhere}
use Rattle.fat_ir.proofs.Worlds.{frames_given_back}
use Rattle.legacy_calls.specs.Legacy.{Linkage, outside}
use Rattle.legacy_calls.specs.Laws.{KeepsStacks}
use Rattle.legacy_calls.proofs.Fewer.{outside_takes_none}
use Rattle.fat_ir.proofs.Runs.{Keeps, led-calls}
use Rattle.legacy_calls.proofs.BySteps.{legacy_stack_given_back, both_led}

abbrev SameLegacy : World → World → Type 0
SameLegacy w u = u.legacy_sp ≡ w.legacy_sp

same_legacy : Keeps SameLegacy Anywhere
same_legacy = record {
  same = λ w. refl;
  join = λ w u v h g. g ∙ h;
  ends = λ w. tt;
  last = λ w u v h g. tt;
  read = λ w n a e. refl;
  wrote = λ w n a v e. refl;
  stored = λ w s. refl;
  served = λ w number word answer g e. refl;
  turned = λ w n e. refl;
}

few_turns : Keeps NoMoreTurns NoMoreTurns
few_turns = record {
  same = λ w. omega arith;
  join = λ w u v h g. omega (arith, h, g);
  ends = λ w. omega arith;
  last = λ w u v h g. omega (arith, h, g);
  read = λ w n a e. omega arith;
  wrote = λ w n a v e. omega arith;
  stored = λ w s. omega arith;
  served = λ w number word answer g e. omega arith;
  turned = λ w n e. omega (arith, e);
}

module _ (k : Linkage) (program : ℕ → Linked) where
  pub stacks : (depth : ℕ) → KeepsStacks (calls program (outside k) depth)
  stacks depth f args w = both_led (calls program (outside k) depth f args w) (λ u. u.legacy_sp ≡ w.legacy_sp) (λ u. u.data_sp ≡ w.data_sp)
      (led-calls SameLegacy Anywhere same_legacy (λ w sp. refl) program (outside k) (λ own h g args w. legacy_stack_given_back k own g args w) depth f args w)
      (frames_given_back program (outside k) depth f args w)

  pub left : (depth : ℕ) → LeftByCalls NoMoreTurns (calls program (outside k) depth)
  left depth f args w = led-calls NoMoreTurns NoMoreTurns few_turns (λ w sp. omega arith) program (outside k) (outside_takes_none k) depth f args w
