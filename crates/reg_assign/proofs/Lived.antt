-- The ranges in which values live are their spans.
use Rattle.std.proofs.Common.{ℕ, zero, suc, ◌+◌, ◌≡◌, ◌<◌, ◌≤◌, inl, inr, refl, sym, ap, ◌∙◌, subst, List, [], ◌∷◌, ◌++◌, false, true, length, Some, arith, get_or, map, slice_get}
use Rattle.std.specs.List.{All, Contains}
use Rattle.std.proofs.lemmas.Bool.{cases_lt, false≢true, true≢false}
use Rattle.fat_ir.specs.declared.program.FatFun.{FatFun}
use Rattle.fat_ir.specs.declared.step.FatStep.{FatStep}
use Rattle.fat_ir.specs.declared.step.FatStep.TheVariants.{Label}
use Rattle.fat_ir.specs.Spans.{named, StandsAt, WayBack, Range, Holds, Spans, IsAssignable}
use Rattle.reg_assign.specs.declared.lives.LiveRange.{LiveRange}
use Rattle.reg_assign.specs.declared.lives.Lives.{Lives}
use Rattle.reg_assign.specs.declared.loops.Loop.{Loop}
use Rattle.reg_assign.specs.Lives.{nowhere, all_touched, steps_touched, from_on, entered, range_in, from_of, past_of, lives}
use Rattle.reg_assign.specs.Loops.{jumps_noted, loops_from, loops_in, extended, extended_range}
use Rattle.reg_assign.specs.Ranges.{lived, AreSpans}
use Rattle.reg_assign.specs.declared.wishes.Wishes.{Wishes}
use Rattle.reg_assign.specs.Wishing.{IsWishing, AreWishes, StandAhead}
use Rattle.reg_assign.proofs.Wishing.{wishing_one, wishing_left, wishing_right, wishing_contained, wishing_at}
use Rattle.reg_assign.proofs.Ahead.{OnlyWishing, Ahead, only_all, ahead_all, ahead_steps}
use Rattle.reg_assign.proofs.Living.{Sound}
use Rattle.reg_assign.proofs.Looping.{noted_near, noted_last, noted_from, extended_grows, extended_zero, reaches, no_farther}
use Rattle.reg_assign.proofs.Walking.{all_cons, Covers, sound_nowhere, sound_all, now_all, later, touchable, sound_steps, kept_steps, named_steps, ended_steps}

-- ---- numbers in turn

all_from_on : (P : ℕ → Type 0) (v n : ℕ) → ((u : ℕ) → v ≤ u → u < v + n → P u) → All P (from_on v n)
all_from_on P v zero h = λ k d lt. absurd (omega arith)
all_from_on P v (suc n) h = all_cons P v (from_on (v + 1) n) (h v (omega arith) (omega arith)) (all_from_on P (v + 1) n (λ u low high. h u (omega arith) (omega arith)))

from_on_at : (v n k d : ℕ) → k < n → (k < length (from_on v n)) × (get_or (from_on v n) k d ≡ v + k)
from_on_at v zero k d lt = absurd (omega arith)
from_on_at v (suc n) zero d lt = (omega arith, omega arith)
from_on_at v (suc n) (suc k) d lt = let h = from_on_at (v + 1) n k d (omega arith) in let h0 = h.0 in let h1 = h.1 in (omega arith, omega arith)

abbrev until : ℕ → LiveRange
until n = record { from = 0; past = n }

extended_in : (ls : List Loop) (rs : List LiveRange) (v : ℕ) → range_in (map (extended_range ls) rs) v ≡ extended_range ls (range_in rs v)
extended_in ls [] v = ap until (sym (extended_zero 0 ls))
extended_in ls (r ∷ rs) zero = refl
extended_in ls (r ∷ rs) (suc v) = extended_in ls rs v

module _ (ahead : List ℕ) (f : FatFun) (can : IsAssignable f) (low : (v : ℕ) → IsWishing ahead v → v < f.private + f.arrived) where
  first : Lives
  first = nowhere (length f.bounds)

  led : Lives
  led = all_touched 0 ahead (nowhere (length f.bounds))

  begun : Lives
  begun = entered ahead (f.private + f.arrived) (nowhere (length f.bounds))

  base : Lives
  base = steps_touched 0 f.steps begun

  touchable_first : (v : ℕ) → v < f.private + f.arrived → (v < length f.bounds) × ((s : Range) → Spans f v s → Holds s 0)
  touchable_first v lt = (let n = can.numbered in let a = can.arrived in omega arith, λ s spans. spans.first lt)

  abbrev Touchable : ℕ → Type 0
  Touchable v = (v < length f.bounds) × ((s : Range) → Spans f v s → Holds s 0)

  sound_first : Sound f 0 first
  unfolding first
  sound_first = sound_nowhere f

  all_first : All Touchable (from_on 0 (f.private + f.arrived))
  all_first = all_from_on Touchable 0 (f.private + f.arrived) (λ u low high. touchable_first u (omega arith))

  all_ahead : All Touchable ahead
  all_ahead = λ k d lt. touchable_first (get_or ahead k d) (low (get_or ahead k d) (wishing_at ahead k d lt))

  sound_led : Sound f 0 led
  unfolding led first
  sound_led = sound_all f 0 ahead first sound_first all_ahead

  only_led : OnlyWishing f ahead led
  unfolding led first
  only_led = only_all f ahead ahead first sound_first all_ahead (λ k d lt. wishing_at ahead k d lt) (λ k lt. absurd (omega arith))

  has_led : (v : ℕ) → IsWishing ahead v → 0 < past_of led v
  unfolding led first
  has_led v w = let c = (now_all f 0 ahead first sound_first all_ahead v (wishing_contained ahead v w)).1 in omega arith

  sound_begun : Sound f 0 begun
  unfolding begun led
  sound_begun = sound_all f 0 (from_on 0 (f.private + f.arrived)) led sound_led all_first

  begun_covers : (v : ℕ) → v < f.private + f.arrived → Covers begun v 0
  unfolding begun led
  begun_covers v lt = let h = from_on_at 0 (f.private + f.arrived) v v lt in now_all f 0 (from_on 0 (f.private + f.arrived)) led sound_led all_first v (v, h.0, h.1 ∙ omega arith)

  ahead_begun : Ahead f ahead begun
  unfolding begun led
  ahead_begun = ahead_all f ahead 0 (from_on 0 (f.private + f.arrived)) led sound_led all_first
      (record { has = has_led; front = λ j k lt within w. only_led j (omega arith) })

  all_stand : (j : ℕ) (step : FatStep) → slice_get f.steps j ≡ Some step → StandsAt f.steps (0 + j) step
  all_stand j step e = subst (λ i. StandsAt f.steps i step) (omega arith) e

  sound_base : Sound f (0 + length f.steps) base
  unfolding base
  sound_base = sound_steps f can 0 f.steps begun all_stand sound_begun

  ahead_base : Ahead f ahead base
  unfolding base
  ahead_base = ahead_steps f ahead can 0 f.steps begun all_stand sound_begun ahead_begun

  covers_first : (v : ℕ) → v < f.private + f.arrived → Covers base v 0
  unfolding base
  covers_first v lt = kept_steps f can 0 f.steps begun all_stand sound_begun v 0 (omega arith) (begun_covers v lt)

  covers_named : (i : ℕ) (step : FatStep) (v : ℕ) → StandsAt f.steps i step → Contains (named step) v → Covers base v i
  unfolding base
  covers_named i step v stands c = subst (Covers (steps_touched 0 f.steps begun) v) (omega arith) (named_steps f can 0 f.steps begun all_stand sound_begun i step v stands c)

  past_begun : (v : ℕ) → past_of begun v ≤ 1
  past_begun v = elim (cases_lt 0 (past_of begun v)) [ inl more ↦ let p = (sound_begun.proper v more).2 in omega arith | inr none ↦ omega arith ]

  ends_base : (steps : List FatStep) → f.steps ≡ steps → 1 ≤ length steps → (v : ℕ) → past_of base v ≤ length steps
  unfolding base
  ends_base [] e le v = absurd (omega arith)
  ends_base (x ∷ rest) e le v =
      let stands : (j : ℕ) (step : FatStep) → slice_get (x ∷ rest) j ≡ Some step → StandsAt f.steps j step = λ j step g. subst (λ s. slice_get s j ≡ Some step) (sym e) g in
      let all = touchable f can 0 x (stands zero x refl) in
      let next = sound_all f 0 (named x) begun sound_begun all in
      let within : past_of (all_touched 0 (named x) begun) v ≤ 0 + 1 = elim (cases_lt 0 (past_of (all_touched 0 (named x) begun) v)) [ inl more ↦ (next.proper v more).2 | inr none ↦ omega arith ] in
      let h = ended_steps f can (0 + 1) rest (all_touched 0 (named x) begun) (λ j step g. subst (λ i. StandsAt f.steps i step) (omega arith) (stands (suc j) step g)) (later f 0 (all_touched 0 (named x) begun) next) v within in
      subst (λ s. past_of (steps_touched 0 s begun) v ≤ length (x ∷ rest)) (sym e) (omega arith)

  -- ---- on to the ends of loops

  abbrev past_jump_to : ℕ → ℕ
  past_jump_to n = jumps_noted n 0 0 f.steps

  abbrev all : Lives
  all = lives ahead f

  range_all : (v : ℕ) → range_in all.ranges v ≡ extended_range (loops_in f.steps) (range_in base.ranges v)
  unfolding base begun
  range_all v = extended_in (loops_in f.steps) base.ranges v

  from_all : (v : ℕ) → from_of all v ≡ from_of base v
  from_all v = ap (λ (r : LiveRange). r.from) (range_all v)

  past_all : (v : ℕ) → past_of all v ≡ extended (from_of base v) (past_of base v) (loops_from past_jump_to 0 f.steps)
  past_all v = ap (λ (r : LiveRange). r.past) (range_all v)

  longer : (v : ℕ) → past_of base v ≤ past_of all v
  longer v = let e = past_all v in let g = extended_grows (from_of base v) (past_of base v) (loops_from past_jump_to 0 f.steps) in omega arith

  covers_all : (v i : ℕ) → Covers base v i → Holds (lived all v) i
  covers_all v i c = let c0 = c.0 in let c1 = c.1 in let e = from_all v in let g = longer v in (omega arith, omega arith)

  whole : (v label jump : ℕ) → WayBack f.steps label jump → from_of all v ≤ label → (i : ℕ) → label ≤ i → i ≤ jump → Holds (lived all v) i → (j : ℕ) → label ≤ j → j ≤ jump → Holds (lived all v) j
  whole v label jump way low i low_i high_i held j low_j high_j =
      let e = from_all v in let p = past_all v in let earlier = way.earlier in let held1 = held.1 in
      let last = noted_last way.number 0 0 f.steps (omega arith) jump way.step way.ends way.jumps in
      let r = reaches past_jump_to (from_of base v) (past_of base v) 0 f.steps label way.number way.begins (omega arith) (omega arith) (omega arith) in
      (omega arith, omega arith)

  spans_all : (v : ℕ) → Spans f v (lived all v)
  spans_all v = record {
    names = λ i step stands c. covers_all v i (covers_named i step v stands c);
    first = λ lt. covers_all v 0 (covers_first v lt);
    whole = λ label jump way low i low_i high_i held j low_j high_j. whole v label jump way low i low_i high_i held j low_j high_j;
  }

  -- a way back that another range of the value reaches into, from a label where it may begin
  left : (v : ℕ) (s : Range) → Spans f v s → 0 < past_of base v → (j n : ℕ) → slice_get f.steps j ≡ Some (Label n) → 0 + j < past_jump_to n → from_of base v ≤ 0 + j → 0 + j < s.past → past_jump_to n ≤ s.past
  left v s spans more j n e lt low high = elim (noted_from n 0 0 f.steps) [
    | inl none ↦ absurd (omega arith)
    | inr g ↦
        let is = g.is in
        let begins = (sound_base.least v more s spans).0.0 in
        let way : WayBack f.steps j g.place = record { number = n; step = g.step; earlier = omega arith; begins = e; ends = g.stands; jumps = g.jumps } in
        let h = (spans.whole j g.place way (omega arith) j (omega arith) (omega arith) (omega arith, omega arith) g.place (omega arith) (omega arith)).1 in omega arith
  ]

  some_base : (v : ℕ) → 0 < past_of all v → 0 < past_of base v
  some_base v more = elim (cases_lt 0 (past_of base v)) [
    | inl h ↦ h
    | inr none ↦ let z : past_of base v ≡ 0 = omega arith in
        let e = past_all v ∙ (ap (λ p. extended (from_of base v) p (loops_from past_jump_to 0 f.steps)) z ∙ extended_zero (from_of base v) (loops_from past_jump_to 0 f.steps)) in absurd (omega arith)
  ]

  some_all : (v : ℕ) → 0 < past_of base v → 0 < past_of all v
  some_all v more = let g = longer v in omega arith

  least_all : (v : ℕ) (s : Range) → Spans f v s → (i : ℕ) → Holds (lived all v) i → Holds s i
  least_all v s spans i held = let held0 = held.0 in let held1 = held.1 in
      let more = some_base v (omega arith) in
      let l = sound_base.least v more s spans in let l0 = l.0.0 in let l1 = l.1.1 in
      let e = from_all v in let p = past_all v in
      let n = no_farther past_jump_to (from_of base v) (past_of base v) 0 s.past f.steps (omega arith) (left v s spans more) in (omega arith, omega arith)

  within_base : (v : ℕ) → 0 < past_of base v → v < length f.bounds
  within_base v more = elim (cases_lt v (length base.ranges)) [
    | inl lt ↦ let e = sound_base.sized in omega arith
    | inr le ↦ let e = ap (λ (r : LiveRange). r.past) (beyond base.ranges v le) in absurd (omega arith)
  ]
    where
      beyond : (rs : List LiveRange) (v : ℕ) → length rs ≤ v → range_in rs v ≡ record { from = 0; past = 0 }
      beyond [] v le = refl
      beyond (r ∷ rs) zero le = absurd (omega arith)
      beyond (r ∷ rs) (suc v) le = beyond rs v (omega arith)

  pub lives_are_spans : AreSpans f all
  unfolding base begun
  lives_are_spans = record {
    spans = spans_all;
    least = least_all;
    some = λ v more. let p = (sound_base.proper v (some_base v more)).0 in let e = from_all v in let g = longer v in omega arith;
    within = λ v more. within_base v (some_base v more);
    ends = λ le v. let e = past_all v in let b = ends_base f.steps refl le v in
        let n = no_farther past_jump_to (from_of base v) (past_of base v) 0 (length f.steps) f.steps b (λ j n e lt low high. let g = noted_near n 0 0 f.steps (omega arith) in omega arith) in omega arith;
    listed = λ j lt. some_all (get_or base.order j 0) (sound_base.listed j lt);
    once = λ v more. sound_base.once v (some_base v more);
    apart = sound_base.apart;
    rising = λ j k lt within. let r = sound_base.rising j k lt within in let a = from_all (get_or base.order j 0) in let b = from_all (get_or base.order k 0) in omega arith;
  }

  pub lives_ahead : (j k : ℕ) → j < k → k < length all.order → IsWishing ahead (get_or all.order k 0) → IsWishing ahead (get_or all.order j 0)
  unfolding base begun
  lives_ahead = ahead_base.front

-- numbers and bounds that wish stand ahead together
module _ (f : FatFun) (l : Lives) (w : Wishes) (is : l ≡ lives (w.numbers ++ w.bounds) f) (can : IsAssignable f) (are : AreWishes f w) where
  low_all : (v : ℕ) → IsWishing (w.numbers ++ w.bounds) v → v < f.private + f.arrived
  low_all v h = elim (wishing_one w.numbers w.bounds v h) [ inl n ↦ are.numbers.first v n | inr b ↦ are.bounds.first v b ]

  pub spans_of : AreSpans f l
  spans_of = subst (AreSpans f) (sym is) (lives_are_spans (w.numbers ++ w.bounds) f can low_all)

  pub numbers_ahead : StandAhead f l false w.numbers
  numbers_ahead = subst (λ m. StandAhead f m false w.numbers) (sym is) (λ j k lt within h kind.
      let u = get_or (lives (w.numbers ++ w.bounds) f).order j 0 in
      elim (wishing_one w.numbers w.bounds u (lives_ahead (w.numbers ++ w.bounds) f can low_all j k lt within
      (wishing_left w.numbers w.bounds (get_or (lives (w.numbers ++ w.bounds) f).order k 0) h))) [
        | inl n ↦ n
        | inr b ↦ absurd (false≢true (sym kind ∙ are.bounds.kind u b))
      ])

  pub bounds_ahead : StandAhead f l true w.bounds
  bounds_ahead = subst (λ m. StandAhead f m true w.bounds) (sym is) (λ j k lt within h kind.
      let u = get_or (lives (w.numbers ++ w.bounds) f).order j 0 in
      elim (wishing_one w.numbers w.bounds u (lives_ahead (w.numbers ++ w.bounds) f can low_all j k lt within
      (wishing_right w.numbers w.bounds (get_or (lives (w.numbers ++ w.bounds) f).order k 0) h))) [
        | inl n ↦ absurd (true≢false (sym kind ∙ are.numbers.kind u n))
        | inr b ↦ b
      ])
