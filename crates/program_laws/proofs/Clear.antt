-- Homes that are assigned by the wishes of parameters hold no argument that is still to come.
use Rattle.std.proofs.Common.{◌≡◌, ℕ, zero, suc, ◌+◌, ◌-◌, ◌<◌, ◌≤◌, inl, inr, true, false, None, Some, List, [], ◌∷◌, length, refl, arith, ap, ◌∙◌, sym, subst, get_or}
use Rattle.std.specs.Prelude.{nat_eq}
use Rattle.std.proofs.lemmas.Bool.{cases_lt}
use Rattle.std.proofs.lemmas.Bool.Decides.{nat_tests}
use Rattle.bounds_plan.specs.steps.Code.{fat_function, fat_parameters}
use Rattle.bounds_plan.specs.steps.Compiled.{ParametersStand, sorts_of}
use Rattle.bounds_plan.specs.meaning.Functions.{FunctionOfC, Parameter, Private, Framed}
use Rattle.step_code.specs.declared.homes.Home.{Home}
use Rattle.step_code.specs.declared.homes.Home.TheVariants.{Reg, Slot, Bnd}
use Rattle.step_code.specs.Homes.{IsPairHome, IsSlot}
use Rattle.step_code.specs.Homing.{Clear}
use Rattle.step_code.specs.Steps.{Plan, arg_reg}
use Rattle.reg_assign.specs.declared.homes.Homes.{Homes}
use Rattle.reg_assign.specs.Granted.{AreGranted}
use Rattle.reg_assign.specs.Homes.{register_at, home_in, AreHomes}
use Rattle.reg_assign.specs.Laws.{HasHomes}
use Rattle.reg_assign.specs.Wishing.{WishesFor}
use Rattle.asked_steps.specs.Wishes.{numbers_in, bounds_in, behind_two, parameters_wish}
use Rattle.asked_steps.proofs.Parameters.{AllCome, Comes, all_come}
use Rattle.program_laws.specs.Compiled.{AreClear}

-- the register that the i-th number wishes for is none in which an earlier argument arrives
other_register : (i j : ℕ) → i < 6 → j < i → nat_eq (arg_reg j) (register_at i) ≡ false
other_register zero j few lt = absurd (omega arith)
other_register (suc zero) zero few lt = refl
other_register (suc zero) (suc j) few lt = absurd (omega arith)
other_register (suc (suc zero)) zero few lt = refl
other_register (suc (suc zero)) (suc zero) few lt = refl
other_register (suc (suc zero)) (suc (suc j)) few lt = absurd (omega arith)
other_register (suc (suc (suc zero))) zero few lt = refl
other_register (suc (suc (suc zero))) (suc zero) few lt = refl
other_register (suc (suc (suc zero))) (suc (suc zero)) few lt = refl
other_register (suc (suc (suc zero))) (suc (suc (suc j))) few lt = absurd (omega arith)
other_register (suc (suc (suc (suc zero)))) zero few lt = refl
other_register (suc (suc (suc (suc zero)))) (suc zero) few lt = refl
other_register (suc (suc (suc (suc zero)))) (suc (suc zero)) few lt = refl
other_register (suc (suc (suc (suc zero)))) (suc (suc (suc zero))) few lt = refl
other_register (suc (suc (suc (suc zero)))) (suc (suc (suc (suc j)))) few lt = absurd (omega arith)
other_register (suc (suc (suc (suc (suc zero))))) zero few lt = refl
other_register (suc (suc (suc (suc (suc zero))))) (suc zero) few lt = refl
other_register (suc (suc (suc (suc (suc zero))))) (suc (suc zero)) few lt = refl
other_register (suc (suc (suc (suc (suc zero))))) (suc (suc (suc zero))) few lt = refl
other_register (suc (suc (suc (suc (suc zero))))) (suc (suc (suc (suc zero)))) few lt = refl
other_register (suc (suc (suc (suc (suc zero))))) (suc (suc (suc (suc (suc j))))) few lt = absurd (omega arith)
other_register (suc (suc (suc (suc (suc (suc i)))))) j few lt = absurd (omega arith)

module _ (p : Plan) (first : ℕ → ℕ) where
  slot_clear : (i b : ℕ) (h : Home) → IsSlot h → Clear p first i b h
  slot_clear i b (Slot k) s = tt
  slot_clear i b (Reg r) s = absurd s
  slot_clear i b (Bnd x) s = absurd s

  -- bounds of the first two pointers: BND2 and BND3 hold none before them
  early_clear : (units i b : ℕ) (h : Home) → b < 2 → IsPairHome units h → Clear p first i b h
  early_clear units i b (Slot k) lt fits = tt
  early_clear units i b (Reg r) lt fits = absurd fits
  early_clear units i b (Bnd x) lt fits = λ t less. let z = fits.bnd0 in grind (arith, nat_tests)

  late_clear : (i b place : ℕ) → b ≡ place + 2 → Clear p first i b (Bnd (place + 2))
  late_clear i b place e = λ t less. grind (arith, nat_tests)

  -- a list stands in another from a place on
  abbrev Stands : (all : List ℕ) → (from : ℕ) → List ℕ → Type 0
  Stands all from xs = (k v : ℕ) → WishesFor xs v k → WishesFor all v (from + k)

  stands_head : (all : List ℕ) (from x : ℕ) (xs : List ℕ) → Stands all from (x ∷ xs) → WishesFor all x from
  stands_head all from x xs s = let e : from + 0 ≡ from = omega arith in subst (WishesFor all x) e (s zero x (omega arith, refl))

  stands_tail : (all : List ℕ) (from x : ℕ) (xs : List ℕ) → Stands all from (x ∷ xs) → Stands all (from + 1) xs
  stands_tail all from x xs s = λ k v w. let e : from + suc k ≡ (from + 1) + k = omega arith in subst (WishesFor all v) e (s (suc k) v (let a = w.0 in omega arith, w.1))

  -- one that stands behind the first two
  late_stands : (all : List ℕ) (v place : ℕ) → WishesFor all v (place + 2) → WishesFor (behind_two all) v place
  late_stands [] v place w = absurd (let a = w.0 in omega arith)
  late_stands (x ∷ []) v place w = absurd (let a = w.0 in omega arith)
  late_stands (x ∷ y ∷ rest) v place w = let e : place + 2 ≡ suc (suc place) = omega arith in
      (let a = w.0 in omega arith, sym (ap (λ n. get_or (x ∷ y ∷ rest) n 0) e) ∙ w.1)

  module _ (name : ℕ) (f : FunctionOfC) (h : Homes) (units : ℕ) (has : HasHomes (fat_function name f) h units p) (are : AreHomes (fat_function name f) h)
      (few : length (parameters_wish f).numbers ≤ 6) (granted : AreGranted (parameters_wish f) h) where
    abbrev private : ℕ
    private = length f.privates

    abbrev numbers : List ℕ
    numbers = numbers_in 0 private (fat_parameters f.parameters)

    abbrev bounds : List ℕ
    bounds = bounds_in 0 private (fat_parameters f.parameters)

    number_clear : (x i b : ℕ) → WishesFor numbers x i → Clear p first i b (p.home x)
    number_clear x i b w = subst (Clear p first i b) (sym (has.home x)) (elim (granted.numbers x i w) [
      | inl e ↦ subst (Clear p first i b) (sym e) (λ j lt. other_register i j (let a = w.0 in omega arith) lt)
      | inr s ↦ slot_clear i b (home_in h.homes x) s
    ])

    pair_clear : (x i b : ℕ) → WishesFor bounds x b → Comes name f true x → Clear p first i b (p.home x)
    pair_clear x i b w c = subst (Clear p first i b) (sym (has.home x)) (elim (cases_lt b 2) [
      | inl lt ↦ early_clear h.words i b (home_in h.homes x) lt (are.pair_fits x c.1)
      | inr le ↦ let e : b ≡ (b - 2) + 2 = omega arith in
          elim (granted.bounds x (b - 2) (late_stands bounds x (b - 2) (subst (WishesFor bounds x) e w))) [
            | inl g ↦ subst (Clear p first i b) (sym g) (late_clear i b (b - 2) e)
            | inr s ↦ slot_clear i b (home_in h.homes x) s
          ]
    ])

    clear : (home temp i b : ℕ) (ps : List Parameter) → AllCome name f home temp ps
        → Stands numbers i (numbers_in home temp (fat_parameters ps)) → Stands bounds b (bounds_in home temp (fat_parameters ps)) → AreClear p first home temp i b ps
    clear home temp i b [] c s t = tt
    clear home temp i b (Private x (Some kind) ∷ ps) c s t = let rest = numbers_in (home + 1) temp (fat_parameters ps) in
        (number_clear home i b (stands_head numbers i home rest s), clear (home + 1) temp (i + 1) b ps c.1 (stands_tail numbers i home rest s) t)
    clear home temp i b (Private x None ∷ ps) c s t = let rest = numbers_in (home + 2) temp (fat_parameters ps) in let more = bounds_in (home + 2) temp (fat_parameters ps) in (
      (number_clear home i b (stands_head numbers i home rest s), pair_clear (home + 1) i b (stands_head bounds b (home + 1) more t) c.1),
      clear (home + 2) temp (i + 1) (b + 1) ps c.2 (stands_tail numbers i home rest s) (stands_tail bounds b (home + 1) more t),
    )
    clear home temp i b (Framed offset (Some kind) ∷ ps) c s t = let rest = numbers_in home (temp + 1) (fat_parameters ps) in
        (number_clear temp i b (stands_head numbers i temp rest s), clear home (temp + 1) (i + 1) b ps c.1 (stands_tail numbers i temp rest s) t)
    clear home temp i b (Framed offset None ∷ ps) c s t = let rest = numbers_in home (temp + 2) (fat_parameters ps) in let more = bounds_in home (temp + 2) (fat_parameters ps) in (
      (number_clear temp i b (stands_head numbers i temp rest s), pair_clear (temp + 1) i b (stands_head bounds b (temp + 1) more t) c.1),
      clear home (temp + 2) (i + 1) (b + 1) ps c.2 (stands_tail numbers i temp rest s) (stands_tail bounds b (temp + 1) more t),
    )

    pub homes_clear : ParametersStand private (sorts_of f) 0 f.parameters → AreClear p first 0 private 0 0 f.parameters
    homes_clear stand = clear 0 private 0 0 f.parameters (all_come name f stand)
        (λ k v w. let e : k ≡ 0 + k = omega arith in subst (WishesFor numbers v) e w) (λ k v w. let e : k ≡ 0 + k = omega arith in subst (WishesFor bounds v) e w)
