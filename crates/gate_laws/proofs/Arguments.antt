-- The arguments that legacy code left in registers are those with which an outer entry calls its function.
use Rattle.std.specs.Prelude.{◌≢◌, true, false, nat_eq, Option, None, Some, List, [], ◌∷◌, length}
use Rattle.std.proofs.Common.{◌≡◌, ℕ, zero, suc, ◌+◌, ◌<◌, ◌≤◌, refl, arith, ap, ◌∙◌}
use Rattle.std.proofs.lemmas.Bool.Decides.{nat_tests}
use Rattle.mx_base.specs.declared.numbers.IntKind.{IntKind}
use Rattle.mx_base.specs.Numbers.{extended}
use Rattle.x86_forms.specs.Processor.{Processor, with_reg}
use Rattle.call_sigs.specs.Signatures.{parameter_register, pointers}
use Rattle.legacy_calls.specs.Legacy.{word_as, arguments_from}
use Rattle.gate_laws.specs.Standing.{Arrive}
use Rattle.gate_laws.specs.Effects.{arrived}

each_six : (P : ℕ → Type 0) → P 0 → P 1 → P 2 → P 3 → P 4 → P 5 → (i : ℕ) → i < 6 → P i
each_six P p0 p1 p2 p3 p4 p5 zero h = p0
each_six P p0 p1 p2 p3 p4 p5 (suc zero) h = p1
each_six P p0 p1 p2 p3 p4 p5 (suc (suc zero)) h = p2
each_six P p0 p1 p2 p3 p4 p5 (suc (suc (suc zero))) h = p3
each_six P p0 p1 p2 p3 p4 p5 (suc (suc (suc (suc zero)))) h = p4
each_six P p0 p1 p2 p3 p4 p5 (suc (suc (suc (suc (suc zero))))) h = p5
each_six P p0 p1 p2 p3 p4 p5 (suc (suc (suc (suc (suc (suc n)))))) h = absurd (omega arith)

-- parameters have registers of their own
register_apart : (i : ℕ) → i < 6 → (j : ℕ) → j < 6 → i ≢ j → nat_eq (parameter_register i) (parameter_register j) ≡ false
register_apart = each_six (λ i. (j : ℕ) → j < 6 → i ≢ j → nat_eq (parameter_register i) (parameter_register j) ≡ false)
    (each_six (λ j. 0 ≢ j → nat_eq (parameter_register 0) (parameter_register j) ≡ false) (λ h. absurd (h refl)) (λ h. refl) (λ h. refl) (λ h. refl) (λ h. refl) (λ h. refl))
    (each_six (λ j. 1 ≢ j → nat_eq (parameter_register 1) (parameter_register j) ≡ false) (λ h. refl) (λ h. absurd (h refl)) (λ h. refl) (λ h. refl) (λ h. refl) (λ h. refl))
    (each_six (λ j. 2 ≢ j → nat_eq (parameter_register 2) (parameter_register j) ≡ false) (λ h. refl) (λ h. refl) (λ h. absurd (h refl)) (λ h. refl) (λ h. refl) (λ h. refl))
    (each_six (λ j. 3 ≢ j → nat_eq (parameter_register 3) (parameter_register j) ≡ false) (λ h. refl) (λ h. refl) (λ h. refl) (λ h. absurd (h refl)) (λ h. refl) (λ h. refl))
    (each_six (λ j. 4 ≢ j → nat_eq (parameter_register 4) (parameter_register j) ≡ false) (λ h. refl) (λ h. refl) (λ h. refl) (λ h. refl) (λ h. absurd (h refl)) (λ h. refl))
    (each_six (λ j. 5 ≢ j → nat_eq (parameter_register 5) (parameter_register j) ≡ false) (λ h. refl) (λ h. refl) (λ h. refl) (λ h. refl) (λ h. refl) (λ h. absurd (h refl)))

arrived_other : (j : ℕ) (ps : List (Option IntKind)) (regs : ℕ → ℕ) (r : ℕ) → ((i : ℕ) → j ≤ i → i < j + length ps → nat_eq r (parameter_register i) ≡ false) → arrived j ps regs r ≡ regs r
arrived_other j [] regs r h = refl
arrived_other j (p ∷ ps) regs r h =
    arrived_other (j + 1) ps (with_reg regs (parameter_register j) (word_as p (regs (parameter_register j)))) r (λ i low high. h i (omega arith) (omega arith))
    ∙ (let e = h j (omega arith) (omega arith) in rw e refl)

own_reg : (regs : ℕ → ℕ) (r v : ℕ) → with_reg regs r v r ≡ v
own_reg regs r v = let e : nat_eq r r ≡ true = nat_same r in rw e refl
  where
    nat_same : (n : ℕ) → nat_eq n n ≡ true
    nat_same n = grind (arith, nat_tests)

module _ (j : ℕ) (ps : List (Option IntKind)) (c : Processor) (regs : ℕ → ℕ) (same : (i : ℕ) → j ≤ i → i < 6 → regs (parameter_register i) ≡ c.regs (parameter_register i)) (few : j + suc (length ps) ≤ 6) where
  later : (p : Option IntKind) → (i : ℕ) → j + 1 ≤ i → i < 6 → with_reg regs (parameter_register j) (word_as p (regs (parameter_register j))) (parameter_register i) ≡ c.regs (parameter_register i)
  later p i low high = let e = register_apart i high j (omega arith) (λ h. absurd (omega arith)) in rw e (same i (omega arith) high)

  mine : (p : Option IntKind) → arrived (j + 1) ps (with_reg regs (parameter_register j) (word_as p (regs (parameter_register j)))) (parameter_register j) ≡ word_as p (c.regs (parameter_register j))
  mine p =
      arrived_other (j + 1) ps (with_reg regs (parameter_register j) (word_as p (regs (parameter_register j)))) (parameter_register j) (λ i low high. register_apart j (omega arith) i (omega arith) (λ h. absurd (omega arith)))
      ∙ own_reg regs (parameter_register j) (word_as p (regs (parameter_register j))) ∙ ap (word_as p) (same j (omega arith) (omega arith))

pub arguments_arrive : (j b : ℕ) (ps : List (Option IntKind)) (c d : Processor) (regs : ℕ → ℕ) → j + length ps ≤ 6 → b + pointers ps ≤ 4
    → ((i : ℕ) → j ≤ i → i < 6 → regs (parameter_register i) ≡ c.regs (parameter_register i)) → ((i : ℕ) → i < 4 → d.bounds i ≡ c.bounds i) → d.regs ≡ arrived j ps regs
    → Arrive j b ps (arguments_from j b ps c) d
arguments_arrive j b [] c d regs few pointed same bounds is = tt
arguments_arrive j b (None ∷ ps) c d regs few pointed same bounds is = (
  ap (λ (f : ℕ → ℕ). f (parameter_register j)) is ∙ mine j ps c regs same few None,
  bounds b (omega arith),
  arguments_arrive (j + 1) (b + 1) ps c d (with_reg regs (parameter_register j) (regs (parameter_register j))) (omega arith) (omega arith) (later j ps c regs same few None) bounds is,
)
arguments_arrive j b (Some kind ∷ ps) c d regs few pointed same bounds is = (
  ap (λ (f : ℕ → ℕ). f (parameter_register j)) is ∙ mine j ps c regs same few (Some kind),
  arguments_arrive (j + 1) b ps c d (with_reg regs (parameter_register j) (extended kind (regs (parameter_register j)))) (omega arith) (omega arith) (later j ps c regs same few (Some kind)) bounds is,
)
