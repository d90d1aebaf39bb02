-- Steps of parts one behind another, with own steps between and behind them.
use Rattle.std.proofs.Common.{◌≡◌, ℕ, ◌+◌, Bool, List, ◌++◌, refl, sym, ap, ◌∙◌, arith}
use Rattle.std.proofs.lemmas.List.{append_assoc}
use Rattle.fat_ir.specs.declared.step.FatStep.{FatStep}
use Rattle.bounds_plan.specs.elaboration.Types.{kind_of}
use Rattle.bounds_plan.specs.elaboration.Expressions.{Found}
use Rattle.steps_facts.specs.declared.seen.Sorted.{Sorted}
use Rattle.steps_pieces.specs.Wanted.{code_wanted, labels_wanted, code_given, labels_given}
use Rattle.steps_pieces.specs.Put.{Put, added, skipped, goes, went, went_given}

pub same_goes : (c c' : ℕ → List FatStep) (n n' : ℕ) (s : Put) → c s.label ≡ c' s.label → n ≡ n' → goes c n s ≡ goes c' n' s
same_goes c c' n n' s h g = ap (λ (z : List FatStep). record { steps = s.steps ++ z; label = s.label + n }) h ∙ ap (λ (z : ℕ). record { steps = s.steps ++ c' s.label; label = s.label + z }) g

-- an expression, by other steps and as many labels
pub went_as : (w : Bool) (f : Found) (d : ℕ) (c : ℕ → List FatStep) (n : ℕ) (s : Put) → code_wanted w f d s.label ≡ c s.label → labels_wanted w f ≡ n → went w f d s ≡ goes c n s
unfolding went
went_as w f d c n s h g = same_goes (λ l. code_wanted w f d l) c (labels_wanted w f) n s h g

pub given_as : (to : Sorted) (f : Found) (d : ℕ) (c : ℕ → List FatStep) (n : ℕ) (s : Put) → code_given to (kind_of f.type) f.value d s.label ≡ c s.label → labels_given to f.value ≡ n → went_given to f d s ≡ goes c n s
unfolding went_given
given_as to f d c n s h g = same_goes (λ l. code_given to (kind_of f.type) f.value d l) c (labels_given to f.value) n s h g

-- what was put down, by its parts
put_down : List FatStep → ℕ → Put
put_down steps label = record { steps = steps; label = label }

pub both : (x y : List FatStep) (m n : ℕ) → x ≡ y → m ≡ n → ◌≡◌ {A = Put} (record { steps = x; label = m }) (record { steps = y; label = n })
unfolding put_down
both x y m n h g = ap (λ (z : List FatStep). put_down z m) h ∙ ap (λ (z : ℕ). put_down y z) g

pub zero_on : (n : ℕ) → n + 0 ≡ n
zero_on n = omega arith

pub no_skip : (s : Put) → skipped 0 s ≡ s
unfolding skipped
no_skip s = ap (λ (z : ℕ). record { steps = s.steps; label = z }) (zero_on s.label)

-- own steps alone
pub own : (X : List FatStep) (s : Put) → goes (λ l. X) 0 s ≡ added X s
unfolding added
own X s = ap (λ (z : ℕ). record { steps = s.steps ++ X; label = z }) (zero_on s.label)

-- a part, and own steps
pub one : (A : ℕ → List FatStep) (n : ℕ) (X : List FatStep) (s : Put) → goes (λ l. A l ++ X) n s ≡ added X (goes A n s)
unfolding added
one A n X s = ap (λ (z : List FatStep). record { steps = z; label = s.label + n }) (sym (append_assoc s.steps (A s.label) X))

-- the same behind k labels
pub one_from : (k : ℕ) (A : ℕ → List FatStep) (n : ℕ) (X : List FatStep) (s : Put) → goes (λ l. A (l + k) ++ X) (k + n) s ≡ added X (goes A n (skipped k s))
unfolding added skipped
one_from k A n X s = both _ _ _ _ (sym (append_assoc s.steps (A (s.label + k)) X)) (omega arith)

-- a part, and another one
pub next : (A B : ℕ → List FatStep) (n m : ℕ) (s : Put) → goes (λ l. A l ++ B (l + n)) (n + m) s ≡ goes B m (goes A n s)
next A B n m s = both _ _ _ _ (sym (append_assoc s.steps (A s.label) (B (s.label + n)))) (omega arith)

chain2 : (s0 A B Y : List FatStep) → ((s0 ++ A) ++ B) ++ Y ≡ s0 ++ (A ++ (B ++ Y))
chain2 s0 A B Y = simp append_assoc refl

chain3 : (s0 A X B Y : List FatStep) → (((s0 ++ A) ++ X) ++ B) ++ Y ≡ s0 ++ (A ++ (X ++ (B ++ Y)))
chain3 s0 A X B Y = simp append_assoc refl

chain5 : (s0 C J B X A Y : List FatStep) → (((((s0 ++ C) ++ J) ++ B) ++ X) ++ A) ++ Y ≡ s0 ++ (C ++ (J ++ (B ++ (X ++ (A ++ Y)))))
chain5 s0 C J B X A Y = simp append_assoc refl

-- two parts, and own steps
pub pair : (A B : ℕ → List FatStep) (n m : ℕ) (Y : List FatStep) (s : Put) → goes (λ l. A l ++ (B (l + n) ++ Y)) (n + m) s ≡ added Y (goes B m (goes A n s))
unfolding added
pair A B n m Y s = both _ _ _ _ (sym (chain2 s.steps (A s.label) (B (s.label + n)) Y)) (omega arith)

-- two parts with own steps between and behind them
pub two : (A B : ℕ → List FatStep) (n m : ℕ) (X Y : List FatStep) (s : Put) → goes (λ l. A l ++ (X ++ (B (l + n) ++ Y))) (n + m) s ≡ added Y (goes B m (added X (goes A n s)))
unfolding added
two A B n m X Y s = both _ _ _ _ (sym (chain3 s.steps (A s.label) X (B (s.label + n)) Y)) (omega arith)

-- the same behind k labels
pub two_from : (k : ℕ) (A B : ℕ → List FatStep) (n m : ℕ) (X Y : List FatStep) (s : Put)
    → goes (λ l. A (l + k) ++ (X ++ (B (l + k + n) ++ Y))) (k + n + m) s ≡ added Y (goes B m (added X (goes A n (skipped k s))))
unfolding added skipped
two_from k A B n m X Y s = both _ _ _ _ (sym (chain3 s.steps (A (s.label + k)) X (B (s.label + k + n)) Y)) (omega arith)

-- three parts behind k labels
pub three_from : (k : ℕ) (C B A : ℕ → List FatStep) (n m o : ℕ) (J X Y : List FatStep) (s : Put)
    → goes (λ l. C (l + k) ++ (J ++ (B (l + k + n) ++ (X ++ (A (l + k + n + m) ++ Y))))) (k + n + m + o) s ≡ added Y (goes A o (added X (goes B m (added J (goes C n (skipped k s))))))
unfolding added skipped
three_from k C B A n m o J X Y s = both _ _ _ _ (sym (chain5 s.steps (C (s.label + k)) J (B (s.label + k + n)) X (A (s.label + k + n + m)) Y)) (omega arith)
