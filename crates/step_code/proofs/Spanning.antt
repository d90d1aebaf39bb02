-- Homes by spans: what assigning homes promises is what code asks.
use Rattle.std.specs.Prelude.{nat_lt, if◌then◌else◌, slice_get}
use Rattle.std.proofs.Common.{◌≡◌, ℕ, ◌<◌, ◌≤◌, true, false, Some, List, [], ◌∷◌, ◌++◌, length, refl, arith, ap, ◌∙◌, sym, subst}
use Rattle.std.proofs.lemmas.Bool.Decides.{nat_tests}
use Rattle.fat_ir.specs.declared.program.FatFun.{FatFun}
use Rattle.fat_ir.specs.declared.step.FatStep.{FatStep}
use Rattle.fat_ir.specs.declared.step.FatStep.TheVariants as s
use Rattle.fat_ir.specs.Spans.{StandsAt, JumpsToLabel, WayBack, Range, Holds}
use Rattle.step_code.specs.Steps.{Plan}
use Rattle.step_code.specs.Homes.{Assigned, HaveHomes, first_in, last_in}

stands_there : (a : List FatStep) (x : FatStep) (rest : List FatStep) → slice_get (a ++ x ∷ rest) (length a) ≡ Some x
stands_there [] x rest = refl
stands_there (y ∷ a) x rest = stands_there a x rest

held_by : (r : Range) (i : ℕ) → i < 0xffff_ffff_ffff_ffff → first_in r ≤ i → i ≤ last_in r → Holds r i
held_by r i short low high = elim (nat_lt r.from r.past) as (λ b. nat_lt r.from r.past ≡ b → (if b then r.from else 0xffff_ffff_ffff_ffff) ≤ i → Holds r i) [
  | true ↦ λ e l. let some : r.from < r.past = grind (arith, nat_tests) in (l, omega arith)
  | false ↦ λ e l. absurd (omega arith)
] refl low

begins_at : (r : Range) (i : ℕ) → Holds r i → first_in r ≡ r.from
begins_at r i h = let from = h.0 in let past = h.1 in let e : nat_lt r.from r.past ≡ true = grind (arith, nat_tests) in ap (λ b. if b then r.from else 0xffff_ffff_ffff_ffff) e

module _ (f : FatFun) (units : ℕ) (p : Plan) (range : ℕ → Range) (have : HaveHomes f units p range) (short : length f.steps < 0xffff_ffff_ffff_ffff) (ends : (v : ℕ) → (range v).past ≤ length f.steps) where
  private_first : (x : ℕ) → x < f.private → first_in (range x) ≡ 0
  private_first x few = let h = (have.spans x).first (omega arith) in let from = h.0 in begins_at (range x) 0 h ∙ omega arith

  round : (x k : ℕ) (a rest pre more : List FatStep) (step : FatStep) → f.steps ≡ a ++ s.Label k ∷ rest → f.steps ≡ pre ++ step ∷ more → JumpsToLabel k step → length a ≤ length pre
      → first_in (range x) ≤ length a → length a ≤ last_in (range x) → length pre ≤ last_in (range x)
  round x k a rest pre more step e g jumps le from to =
      let end = ends x in
      let held = held_by (range x) (length a) (omega arith) from to in
      let way : WayBack f.steps (length a) (length pre) = record {
        number = k;
        step = step;
        earlier = le;
        begins = subst (λ (l : List FatStep). StandsAt l (length a) (s.Label k)) (sym e) (stands_there a (s.Label k) rest);
        ends = subst (λ (l : List FatStep). StandsAt l (length pre) step) (sym g) (stands_there pre step more);
        jumps = jumps;
      } in
      let at = (have.spans x).whole (length a) (length pre) way held.0 (length a) (omega arith) le held (length pre) le (omega arith) in
      let past = at.1 in omega arith

  pub homes_assigned : Assigned units f.private f.steps p (λ x. first_in (range x)) (λ x. last_in (range x))
  homes_assigned = record {
    private_first = private_first;
    apart = λ x y i differ from to from_y to_y. let end = ends x in let i_short : i < 0xffff_ffff_ffff_ffff = omega arith in have.apart x y i differ (held_by (range x) i i_short from to) (held_by (range y) i i_short from_y to_y);
    round = round;
    number_fits = have.number_fits;
    pair_fits = have.pair_fits;
  }
