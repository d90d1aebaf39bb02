-- A plan with assigned homes has homes as the code of steps asks.
use Rattle.std.proofs.Common.{ℕ, ◌≤◌, sym, ◌∙◌, subst, arith}
use Rattle.fat_ir.specs.declared.program.FatFun.{FatFun}
use Rattle.step_code.specs.declared.homes.Home.{Home}
use Rattle.step_code.specs.declared.homes.Home.TheVariants.{Reg, Slot, Bnd}
use Rattle.step_code.specs.Steps.{Plan}
use Rattle.step_code.specs.Homes.{HaveHomes, IsNumberHome, IsPairHome, Apart}
use Rattle.reg_assign.specs.declared.homes.Homes.{Homes}
use Rattle.reg_assign.specs.Homes.{is_bounds_in, home_in, AreHomes}
use Rattle.reg_assign.specs.Laws.{HasHomes}

number_in_more : (words units : ℕ) (h : Home) → words ≤ units → IsNumberHome words h → IsNumberHome units h
number_in_more words units (Reg r) le is = is
number_in_more words units (Slot k) le is = omega arith
number_in_more words units (Bnd b) le is = absurd is

pair_in_more : (words units : ℕ) (h : Home) → words ≤ units → IsPairHome words h → IsPairHome units h
pair_in_more words units (Reg r) le is = absurd is
pair_in_more words units (Slot k) le is = omega arith
pair_in_more words units (Bnd b) le is = is

pub have_homes : (f : FatFun) (h : Homes) (units : ℕ) (p : Plan) → HasHomes f h units p → (are : AreHomes f h) → HaveHomes f units p are.span
have_homes f h units p has are = record {
  spans = are.spans;
  apart = λ u v i ne a b. subst (λ x. Apart x (p.home u) (p.is_bounds v) (p.home v)) (sym (has.is_bounds u)) (subst (λ x. Apart (is_bounds_in f u) x (p.is_bounds v) (p.home v)) (sym (has.home u))
      (subst (λ x. Apart (is_bounds_in f u) (home_in h.homes u) x (p.home v)) (sym (has.is_bounds v)) (subst (λ x. Apart (is_bounds_in f u) (home_in h.homes u) (is_bounds_in f v) x) (sym (has.home v))
      (are.apart u v i ne (are.least u i a) (are.least v i b)))));
  number_fits = λ v e. number_in_more h.words units (p.home v) has.room (subst (IsNumberHome h.words) (sym (has.home v)) (are.number_fits v (sym (has.is_bounds v) ∙ e)));
  pair_fits = λ v e. pair_in_more h.words units (p.home v) has.room (subst (IsPairHome h.words) (sym (has.home v)) (are.pair_fits v (sym (has.is_bounds v) ∙ e)));
}
