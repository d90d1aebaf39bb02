-- Labels in steps and where they stand.
use Rattle.std.specs.Prelude.{if◌then◌else◌}
use Rattle.std.proofs.Common.{◌≡◌, ◌≢◌, ℕ, ◌<◌, ◌≤◌, ◌⊎◌, inl, inr, true, false, ◌==◌, Option, List, [], ◌∷◌, ◌++◌, refl, arith, ap, ◌∙◌, sym, subst}
use Rattle.std.proofs.lemmas.Bool.Decides.{nat_tests, eqb_tells}
use Rattle.mx_base.specs.StopOfC.{AccessOfC}
use Rattle.fat_ir.specs.declared.step.FatStep.{FatStep}
use Rattle.fat_ir.specs.declared.step.FatStep.TheVariants as s
use Rattle.fat_ir.specs.Laws.{LacksLabel}
use Rattle.fat_ir.specs.Step.{Symbols, State, Next, To, Reached, On}
use Rattle.fat_ir.specs.Run.{passes, and_then, pass}
use Rattle.x86_forms.specs.declared.instr.Instr.{Instr}
use Rattle.x86_forms.proofs.ShortCode.{spelling-short}
use Rattle.step_code.specs.declared.pieces.Piece.{Piece}
use Rattle.code_laws.specs.Seen.{Setting}
use Rattle.code_laws.specs.Laid.{Stands}
use Rattle.step_code.specs.Steps.{Plan, lower}
use Rattle.code_laws.specs.Laid.{StandAll, LaidStep, Laid}

-- ---- steps on the way to a label

pub record Found (k : ℕ) (is : List FatStep) : Type 0 where
  pub before : List FatStep
  pub behind : List FatStep
  pub parts : is ≡ before ++ s.Label k ∷ behind
  pub lacks : LacksLabel k before

found_later : (k : ℕ) (step : FatStep) (is : List FatStep) → ((a : List FatStep) → LacksLabel k a → LacksLabel k (step ∷ a)) → LacksLabel k is ⊎ Found k is → LacksLabel k (step ∷ is) ⊎ Found k (step ∷ is)
found_later k step is more (inl lacks) = inl (more is lacks)
found_later k step is more (inr f) = inr (record { before = step ∷ f.before; behind = f.behind; parts = ap (λ (l : List FatStep). step ∷ l) f.parts; lacks = more f.before f.lacks })

found_label : (k n : ℕ) (is : List FatStep) → ((k == n) ≡ true) × (k ≡ n) ⊎ ((k == n) ≡ false) × (k ≢ n) → LacksLabel k is ⊎ Found k is → LacksLabel k (s.Label n ∷ is) ⊎ Found k (s.Label n ∷ is)
found_label k n is (inl e) f = inr (record { before = []; behind = is; parts = ap (λ (m : ℕ). s.Label m ∷ is) (sym e.1); lacks = tt })
found_label k n is (inr e) f = found_later k (s.Label n) is (λ a h. (e.1, h)) f

pub find : (k : ℕ) (is : List FatStep) → LacksLabel k is ⊎ Found k is
find k [] = inl tt
find k (s.Label n ∷ is) = found_label k n is (eqb_tells k n) (find k is)
find k (step ∷ is) = found_later k step is (λ a h. h) (find k is)

label_passed : (k n : ℕ) (t : State) → k ≢ n → passes k (s.Label n) t ≡ On (To k) t
label_passed k n t h = let e : (k == n) ≡ false = grind (arith, nat_tests) in ap (λ b. if b then On Next t else On (To k) t) e

pub pass_over : (symbols : Symbols) (k : ℕ) (a b : List FatStep) (t : State) → LacksLabel k a → pass symbols (a ++ b) (To k) t ≡ pass symbols b (To k) t
pass_over symbols k [] b t h = refl
pass_over symbols k (s.Label n ∷ a) b t h = ap (λ (r : Reached). and_then r (pass symbols (a ++ b))) (label_passed k n t h.0) ∙ pass_over symbols k a b t h.1
pass_over symbols k (step ∷ a) b t h = pass_over symbols k a b t h

pub pass_none : (symbols : Symbols) (k : ℕ) (a : List FatStep) (t : State) → LacksLabel k a → pass symbols a (To k) t ≡ On (To k) t
pass_none symbols k [] t h = refl
pass_none symbols k (s.Label n ∷ a) t h = ap (λ (r : Reached). and_then r (pass symbols a)) (label_passed k n t h.0) ∙ pass_none symbols k a t h.1
pass_none symbols k (step ∷ a) t h = pass_none symbols k a t h

pub pass_here : (symbols : Symbols) (k : ℕ) (b : List FatStep) (t : State) → pass symbols (s.Label k ∷ b) (To k) t ≡ pass symbols b Next t
pass_here symbols k b t = let e : (k == k) ≡ true = grind (arith, nat_tests) in ap (λ c. and_then (if c then On Next t else On (To k) t) (pass symbols b)) e

pub pass_found : (symbols : Symbols) (k : ℕ) (is : List FatStep) (f : Found k is) (t : State) → pass symbols is (To k) t ≡ pass symbols f.behind Next t
pass_found symbols k is f t = ap (λ (l : List FatStep). pass symbols l (To k) t) f.parts ∙ pass_over symbols k f.before (s.Label k ∷ f.behind) t f.lacks ∙ pass_here symbols k f.behind t

-- ---- places

module _ (S : Setting) where
  pub stands_on : (at next : ℕ) (i : Instr) → Stands S.code at i next → (at < next) × (next ≤ 0x1100_0000)
  stands_on at next i h = let some = (spelling-short i h.valid).some in let e = h.is_next in (omega arith, h.high)

module _ (S : Setting) (p : Plan) (access_of : ℕ → Option AccessOfC) where
  pub stand_up : (at : ℕ) (ps : List Piece) (end : ℕ) → StandAll S.code S.label_at S.entry_at at ps end → at ≤ end
  stand_up at [] end h = omega arith
  stand_up at (q ∷ ps) end h = let rest = stand_up h.0 ps end h.2 in let e = h.1.is_next in omega arith

  pub step_up : (at : ℕ) (step : FatStep) (end : ℕ) → LaidStep S.code S.label_at S.entry_at p access_of at step end → at ≤ end
  step_up at (s.Judge value size bounds write place) end h = stand_up at (lower p (s.Judge value size bounds write place)) end h.0
  step_up at (s.Label n) end h = let e = h.0 in omega arith
  step_up at step end h = stand_up at (lower p step) end h

  pub laid_up : (at : ℕ) (is : List FatStep) (end : ℕ) → Laid S.code S.label_at S.entry_at p access_of at is end → at ≤ end
  laid_up at [] end h = omega arith
  laid_up at (step ∷ is) end h = let first = step_up at step h.0 h.1 in let rest = laid_up h.0 is end h.2 in omega arith

  pub laid_join : (at : ℕ) (a b : List FatStep) (mid end : ℕ) → Laid S.code S.label_at S.entry_at p access_of at a mid → Laid S.code S.label_at S.entry_at p access_of mid b end → Laid S.code S.label_at S.entry_at p access_of at (a ++ b) end
  laid_join at [] b mid end h k = subst (λ (x : ℕ). Laid S.code S.label_at S.entry_at p access_of x b end) (sym h) k
  laid_join at (step ∷ a) b mid end h k = (h.0, h.1, laid_join h.0 a b mid end h.2 k)

  pub record Split (at : ℕ) (a b : List FatStep) (end : ℕ) : Type 0 where
    pub mid : ℕ
    pub front : Laid S.code S.label_at S.entry_at p access_of at a mid
    pub back : Laid S.code S.label_at S.entry_at p access_of mid b end

  pub laid_split : (at : ℕ) (a b : List FatStep) (end : ℕ) → Laid S.code S.label_at S.entry_at p access_of at (a ++ b) end → Split at a b end
  laid_split at [] b end h = record { mid = at; front = refl; back = h }
  laid_split at (step ∷ a) b end h = let r = laid_split h.0 a b end h.2 in record { mid = r.mid; front = (h.0, h.1, r.front); back = r.back }
