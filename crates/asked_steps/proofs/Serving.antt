-- Homes that are assigned serve.
use Rattle.std.proofs.Common.{◌≡◌, ℕ, ◌+◌, ◌<◌, ◌≤◌, inl, Bool, true, false, length, refl, arith, sym, subst}
use Rattle.fat_ir.specs.declared.program.FatFun.{FatFun}
use Rattle.fat_ir.specs.declared.step.FatStep.{FatStep}
use Rattle.fat_ir.specs.declared.step.FatStep.TheVariants as s
use Rattle.step_code.specs.declared.homes.Home.{Home}
use Rattle.step_code.specs.declared.homes.Home.TheVariants.{Reg, Slot, Bnd}
use Rattle.step_code.specs.Homes.{Apart, HaveHomes, IsNumberHome, IsPairHome, IsSlot}
use Rattle.step_code.specs.Steps.{Plan}
use Rattle.reg_assign.specs.declared.homes.Homes.{Homes}
use Rattle.reg_assign.specs.Homes.{AreHomes, home_in, is_bounds_in}
use Rattle.reg_assign.specs.Noise.{is_call}
use Rattle.asked_steps.specs.Assigned.{HasSpare}
use Rattle.asked_steps.specs.Homes.{HomesServe, Leaves}

is_call_there : (step : FatStep) → Leaves step → is_call step ≡ true
is_call_there (s.Call symbol args to bounds) h = refl
is_call_there (s.Service service arg to) h = refl
is_call_there (s.Const to n) h = absurd h
is_call_there (s.Copy to from) h = absurd h
is_call_there (s.Arith to op kind a b) h = absurd h
is_call_there (s.Compare to op kind a b) h = absurd h
is_call_there (s.Extend to from kind) h = absurd h
is_call_there (s.Place to bounds symbol offset size) h = absurd h
is_call_there (s.Make to p n) h = absurd h
is_call_there (s.Meet to a b) h = absurd h
is_call_there (s.Bound to from upper) h = absurd h
is_call_there (s.Judge value size bounds write place) h = absurd h
is_call_there (s.Load p to kind) h = absurd h
is_call_there (s.Store p from kind) h = absurd h
is_call_there (s.LoadPtr p to bounds) h = absurd h
is_call_there (s.StorePtr p from bounds) h = absurd h
is_call_there (s.Label n) h = absurd h
is_call_there (s.Jump n) h = absurd h
is_call_there (s.JumpIf from n) h = absurd h
is_call_there (s.Give from bounds) h = absurd h

-- a home within so many words lies before those behind
number_before : (words k : ℕ) (h : Home) → words ≤ k → IsNumberHome words h → Apart false h true (Slot k)
number_before words k (Reg r) le is = tt
number_before words k (Slot j) le is = inl (omega arith)
number_before words k (Bnd b) le is = tt

pair_before : (words k : ℕ) (h : Home) → words ≤ k → IsPairHome words h → Apart true h true (Slot k)
pair_before words k (Reg r) le is = tt
pair_before words k (Slot j) le is = inl (omega arith)
pair_before words k (Bnd b) le is = tt

module _ (f : FatFun) (h : Homes) (p : Plan) (spare : HasSpare f h p) (are : AreHomes f h) where
  before : (k v : ℕ) → h.words ≤ k → Apart (p.is_bounds v) (p.home v) true (Slot k)
  before k v le =
      subst (λ (b : Bool). Apart b (p.home v) true (Slot k)) (sym (spare.has.is_bounds v))
      (subst (λ (g : Home). Apart (is_bounds_in f v) g true (Slot k)) (sym (spare.has.home v)) (by_sort (is_bounds_in f v) refl))
    where
      by_sort : (b : Bool) → is_bounds_in f v ≡ b → Apart b (home_in h.homes v) true (Slot k)
      by_sort false e = number_before h.words k (home_in h.homes v) le (are.number_fits v e)
      by_sort true e = pair_before h.words k (home_in h.homes v) le (are.pair_fits v e)

  pub serving : HaveHomes f (h.words + 4) p are.span → 1 ≤ length f.steps → length f.steps < 0xffff_ffff_ffff_ffff → HomesServe f (h.words + 4) p are.span
  serving have some short = record {
    have = have;
    short = short;
    ends = are.ends some;
    sorts = λ v few. sym (spare.has.is_bounds v);
    at_calls = λ i step stands leaves v held. subst IsSlot (sym (spare.has.home v)) (are.calls v i step stands (is_call_there step leaves) (are.least v i held));
    spare = let e = spare.spare in omega arith;
    spare_first = λ v. before p.spare v (let e = spare.spare in omega arith);
    spare_second = λ v. before (p.spare + 2) v (let e = spare.spare in omega arith);
  }
