-- Loops: the last jump to each label, and how far a range goes that reaches into them.
use Rattle.std.proofs.Common.{ℕ, zero, suc, ◌+◌, ◌≡◌, ◌<◌, ◌≤◌, ◌⊎◌, inl, inr, refl, sym, ap, ◌∙◌, subst, List, [], ◌∷◌, ◌++◌, length, Some, arith, slice_get, nat_eq, nat_lt, nat_le, true, false, if◌then◌else◌}
use Rattle.std.proofs.lemmas.Bool.Decides.{nat_tests}
use Rattle.fat_ir.specs.declared.step.FatStep.{FatStep}
use Rattle.fat_ir.specs.declared.step.FatStep.TheVariants.{Label, Jump, JumpIf}
use Rattle.fat_ir.specs.Spans.{JumpsToLabel}
use Rattle.reg_assign.specs.declared.loops.Loop.{Loop}
use Rattle.reg_assign.specs.Loops.{past_jump, jumps_noted, loop_at, loops_from, farther, extended}

-- ---- the last jump to a label

jump_grows : (n before at : ℕ) (step : FatStep) → before ≤ at → before ≤ past_jump n before at step
jump_grows n before at (Jump k) le = elim (nat_eq k n) as (λ b. before ≤ (if b then at + 1 else before)) [ true ↦ omega arith | false ↦ omega arith ]
jump_grows n before at (JumpIf from k) le = elim (nat_eq k n) as (λ b. before ≤ (if b then at + 1 else before)) [ true ↦ omega arith | false ↦ omega arith ]
jump_grows n before at _ le = omega arith

jump_near : (n before at : ℕ) (step : FatStep) → before ≤ at → past_jump n before at step ≤ at + 1
jump_near n before at (Jump k) le = elim (nat_eq k n) as (λ b. (if b then at + 1 else before) ≤ at + 1) [ true ↦ omega arith | false ↦ omega arith ]
jump_near n before at (JumpIf from k) le = elim (nat_eq k n) as (λ b. (if b then at + 1 else before) ≤ at + 1) [ true ↦ omega arith | false ↦ omega arith ]
jump_near n before at _ le = omega arith

jump_here : (n before at : ℕ) (step : FatStep) → JumpsToLabel n step → past_jump n before at step ≡ at + 1
jump_here n before at (Jump k) e = let t : nat_eq k n ≡ true = grind (arith, nat_tests) in ap (λ b. if b then at + 1 else before) t
jump_here n before at (JumpIf from k) e = let t : nat_eq k n ≡ true = grind (arith, nat_tests) in ap (λ b. if b then at + 1 else before) t
jump_here n before at _ e = absurd e

jump_or : (n before at : ℕ) (step : FatStep) → (past_jump n before at step ≡ before) ⊎ (JumpsToLabel n step × (past_jump n before at step ≡ at + 1))
jump_or n before at (Jump k) = elim (nat_eq k n) as (λ b. nat_eq k n ≡ b → ((if b then at + 1 else before) ≡ before) ⊎ ((k ≡ n) × ((if b then at + 1 else before) ≡ at + 1))) [
  | true ↦ λ e. let same : k ≡ n = grind (arith, nat_tests) in inr (same, refl)
  | false ↦ λ e. inl refl
] refl
jump_or n before at (JumpIf from k) = elim (nat_eq k n) as (λ b. nat_eq k n ≡ b → ((if b then at + 1 else before) ≡ before) ⊎ ((k ≡ n) × ((if b then at + 1 else before) ≡ at + 1))) [
  | true ↦ λ e. let same : k ≡ n = grind (arith, nat_tests) in inr (same, refl)
  | false ↦ λ e. inl refl
] refl
jump_or n before at _ = inl refl

noted_grows : (n before at : ℕ) (steps : List FatStep) → before ≤ at → before ≤ jumps_noted n before at steps
noted_grows n before at [] le = omega arith
noted_grows n before at (x ∷ steps) le = let a = jump_grows n before at x le in let b = jump_near n before at x le in let h = noted_grows n (past_jump n before at x) (at + 1) steps b in omega arith

pub noted_near : (n before at : ℕ) (steps : List FatStep) → before ≤ at → jumps_noted n before at steps ≤ at + length steps
noted_near n before at [] le = omega arith
noted_near n before at (x ∷ steps) le = let b = jump_near n before at x le in let h = noted_near n (past_jump n before at x) (at + 1) steps b in omega arith

pub noted_last : (n before at : ℕ) (steps : List FatStep) → before ≤ at → (j : ℕ) (step : FatStep) → slice_get steps j ≡ Some step → JumpsToLabel n step → at + j < jumps_noted n before at steps
noted_last n before at [] le j step e h = cc
noted_last n before at (x ∷ steps) le zero step e h = let same : x ≡ step = cc in let a = jump_here n before at x (subst (JumpsToLabel n) (sym same) h) in
    let g = noted_grows n (past_jump n before at x) (at + 1) steps (omega arith) in omega arith
noted_last n before at (x ∷ steps) le (suc j) step e h = let b = jump_near n before at x le in let g = noted_last n (past_jump n before at x) (at + 1) steps b j step e h in omega arith

-- a jump, so many steps behind `at`
pub record JumpBefore (n at past : ℕ) (steps : List FatStep) : Type 0 where
  pub place : ℕ
  pub step : FatStep
  pub stands : slice_get steps place ≡ Some step
  pub jumps : JumpsToLabel n step
  pub is : past ≡ at + place + 1

pub noted_from : (n before at : ℕ) (steps : List FatStep) → (jumps_noted n before at steps ≡ before) ⊎ JumpBefore n at (jumps_noted n before at steps) steps
noted_from n before at [] = inl refl
noted_from n before at (x ∷ steps) = by_rest (noted_from n (past_jump n before at x) (at + 1) steps) (jump_or n before at x)
  where
    by_rest : (jumps_noted n (past_jump n before at x) (at + 1) steps ≡ past_jump n before at x) ⊎ JumpBefore n (at + 1) (jumps_noted n (past_jump n before at x) (at + 1) steps) steps
        → (past_jump n before at x ≡ before) ⊎ (JumpsToLabel n x × (past_jump n before at x ≡ at + 1))
        → (jumps_noted n (past_jump n before at x) (at + 1) steps ≡ before) ⊎ JumpBefore n at (jumps_noted n (past_jump n before at x) (at + 1) steps) (x ∷ steps)
    by_rest (inl e) (inl g) = inl (e ∙ g)
    by_rest (inl e) (inr g) = let g1 = g.1 in inr (record { place = 0; step = x; stands = refl; jumps = g.0; is = omega arith })
    by_rest (inr j) _ = let is = j.is in inr (record { place = suc j.place; step = j.step; stands = j.stands; jumps = j.jumps; is = omega arith })

-- ---- how far ranges go

farther_grows : (from p : ℕ) (l : Loop) → p ≤ farther from p l
farther_grows from p l = elim (nat_le from l.label) as (λ a. p ≤ (if a then (if nat_lt l.label p then (if nat_lt p l.past then l.past else p) else p) else p)) [
  | true ↦ elim (nat_lt l.label p) as (λ b. p ≤ (if b then (if nat_lt p l.past then l.past else p) else p)) [
    | true ↦ elim (nat_lt p l.past) as (λ c. nat_lt p l.past ≡ c → p ≤ (if c then l.past else p)) [ true ↦ λ e. grind (arith, nat_tests) | false ↦ λ e. omega arith ] refl
    | false ↦ omega arith
  ]
  | false ↦ omega arith
]

-- it reaches into the loop, and goes to its end
farther_in : (from p : ℕ) (l : Loop) → from ≤ l.label → l.label < p → l.past ≤ farther from p l
farther_in from p l low high = let a : nat_le from l.label ≡ true = grind (arith, nat_tests) in let b : nat_lt l.label p ≡ true = grind (arith, nat_tests) in
    subst (λ x. l.past ≤ (if x then (if nat_lt l.label p then (if nat_lt p l.past then l.past else p) else p) else p)) (sym a)
    (subst (λ x. l.past ≤ (if x then (if nat_lt p l.past then l.past else p) else p)) (sym b)
    (elim (nat_lt p l.past) as (λ c. nat_lt p l.past ≡ c → l.past ≤ (if c then l.past else p)) [ true ↦ λ e. omega arith | false ↦ λ e. grind (arith, nat_tests) ] refl))

farther_out : (from p : ℕ) (l : Loop) → p ≤ l.label → farther from p l ≡ p
farther_out from p l le = let b : nat_lt l.label p ≡ false = grind (arith, nat_tests) in
    elim (nat_le from l.label) as (λ a. (if a then (if nat_lt l.label p then (if nat_lt p l.past then l.past else p) else p) else p) ≡ p) [
      | true ↦ ap (λ x. if x then (if nat_lt p l.past then l.past else p) else p) b
      | false ↦ refl
    ]

farther_least : (from p r : ℕ) (l : Loop) → p ≤ r → (from ≤ l.label → l.label < r → l.past ≤ r) → farther from p l ≤ r
farther_least from p r l le h = elim (nat_le from l.label) as (λ a. nat_le from l.label ≡ a → (if a then (if nat_lt l.label p then (if nat_lt p l.past then l.past else p) else p) else p) ≤ r) [
  | true ↦ λ ea. elim (nat_lt l.label p) as (λ b. nat_lt l.label p ≡ b → (if b then (if nat_lt p l.past then l.past else p) else p) ≤ r) [
    | true ↦ λ eb. let low : from ≤ l.label = grind (arith, nat_tests) in let high : l.label < p = grind (arith, nat_tests) in let k = h low (omega arith) in
        elim (nat_lt p l.past) as (λ c. (if c then l.past else p) ≤ r) [ true ↦ k | false ↦ le ]
    | false ↦ λ eb. le
  ] refl
  | false ↦ λ ea. le
] refl

pub extended_grows : (from p : ℕ) (ls : List Loop) → p ≤ extended from p ls
extended_grows from p [] = omega arith
extended_grows from p (l ∷ ls) = let a = farther_grows from p l in let h = extended_grows from (farther from p l) ls in omega arith

pub extended_zero : (from : ℕ) (ls : List Loop) → extended from 0 ls ≡ 0
extended_zero from [] = refl
extended_zero from (l ∷ ls) = ap (λ p. extended from p ls) (farther_out from 0 l (omega arith)) ∙ extended_zero from ls

extended_append : (from p : ℕ) (ls ms : List Loop) → extended from p (ls ++ ms) ≡ extended from (extended from p ls) ms
extended_append from p [] ms = refl
extended_append from p (l ∷ ls) ms = extended_append from (farther from p l) ls ms

abbrev this : (label past : ℕ) → Loop
this label past = record { label = label; past = past }

-- the loops of one step: none, or that of its label
module _ (past : ℕ → ℕ) where
  loop_or : (at : ℕ) (step : FatStep) → (loop_at past at step ≡ []) ⊎ ((n : ℕ) × (step ≡ Label n) × (at < past n) × (loop_at past at step ≡ this at (past n) ∷ []))
  loop_or at (Label n) = elim (nat_lt at (past n)) as (λ b. nat_lt at (past n) ≡ b → ((if b then this at (past n) ∷ [] else []) ≡ [])
      ⊎ ((k : ℕ) × (Label n ≡ Label k) × (at < past k) × ((if b then this at (past n) ∷ [] else []) ≡ this at (past k) ∷ []))) [
        | true ↦ λ e. let lt : at < past n = grind (arith, nat_tests) in inr (n, refl, lt, refl)
        | false ↦ λ e. inl refl
      ] refl
  loop_or at _ = inl refl

  loop_of_label : (at n : ℕ) → at < past n → loop_at past at (Label n) ≡ this at (past n) ∷ []
  loop_of_label at n lt = let e : nat_lt at (past n) ≡ true = grind (arith, nat_tests) in ap (λ b. if b then this at (past n) ∷ [] else []) e

  -- how far a range goes at one step
  one : (from p at : ℕ) → FatStep → ℕ
  one from p at step = extended from p (loop_at past at step)

  one_is : (from p at : ℕ) (step : FatStep) (rest : List FatStep) → extended from p (loops_from past at (step ∷ rest)) ≡ extended from (one from p at step) (loops_from past (at + 1) rest)
  unfolding one
  one_is from p at step rest = extended_append from p (loop_at past at step) (loops_from past (at + 1) rest)

  one_grows : (from p at : ℕ) (step : FatStep) → p ≤ one from p at step
  unfolding one
  one_grows from p at step = extended_grows from p (loop_at past at step)

  one_stays : (from p at : ℕ) (step : FatStep) → p ≤ at → one from p at step ≡ p
  unfolding one
  one_stays from p at step le = elim (loop_or at step) [
    | inl e ↦ ap (extended from p) e
    | inr h ↦ ap (extended from p) h.3 ∙ farther_out from p (this at (past h.0)) le
  ]

  one_in : (from p at n : ℕ) → at < past n → from ≤ at → at < p → past n ≤ one from p at (Label n)
  unfolding one
  one_in from p at n some low high = subst (λ ls. past n ≤ extended from p ls) (sym (loop_of_label at n some)) (farther_in from p (this at (past n)) low high)

  one_least : (from p at r : ℕ) (step : FatStep) → p ≤ r → ((n : ℕ) → step ≡ Label n → at < past n → from ≤ at → at < r → past n ≤ r) → one from p at step ≤ r
  unfolding one
  one_least from p at r step le h = elim (loop_or at step) [
    | inl e ↦ subst (λ ls. extended from p ls ≤ r) (sym e) le
    | inr g ↦ subst (λ ls. extended from p ls ≤ r) (sym g.3) (farther_least from p r (this at (past g.0)) le (λ low high. h g.0 g.1 g.2 low high))
  ]

  stays : (from p at : ℕ) (steps : List FatStep) → p ≤ at → extended from p (loops_from past at steps) ≡ p
  stays from p at [] le = refl
  stays from p at (x ∷ steps) le = let e = one_stays from p at x le in
      one_is from p at x steps ∙ (ap (λ q. extended from q (loops_from past (at + 1) steps)) e ∙ stays from p (at + 1) steps (omega arith))

  -- where it reaches a label, it goes on to the last jump back
  pub reaches : (from p at : ℕ) (steps : List FatStep) (j n : ℕ) → slice_get steps j ≡ Some (Label n) → at + j < past n → from ≤ at + j → at + j < extended from p (loops_from past at steps)
      → past n ≤ extended from p (loops_from past at steps)
  reaches from p at [] j n e some low high = cc
  reaches from p at (x ∷ steps) zero n e some low high = elim (nat_lt at p) as (λ b. nat_lt at p ≡ b → past n ≤ extended from p (loops_from past at (x ∷ steps))) [
    | true ↦ λ t. let lt : at < p = grind (arith, nat_tests) in let same : x ≡ Label n = cc in
        let a = subst (λ y. past n ≤ one from p at y) (sym same) (one_in from p at n (omega arith) (omega arith) lt) in
        let g = extended_grows from (one from p at x) (loops_from past (at + 1) steps) in let i = one_is from p at x steps in omega arith
    | false ↦ λ t. let ge : p ≤ at = grind (arith, nat_tests) in let s = stays from p at (x ∷ steps) ge in absurd (omega arith)
  ] refl
  reaches from p at (x ∷ steps) (suc j) n e some low high = let i = one_is from p at x steps in
      let h = reaches from (one from p at x) (at + 1) steps j n e (omega arith) (omega arith) (omega arith) in omega arith

  -- and no farther than where each label that is reached is left
  pub no_farther : (from p at r : ℕ) (steps : List FatStep) → p ≤ r → ((j n : ℕ) → slice_get steps j ≡ Some (Label n) → at + j < past n → from ≤ at + j → at + j < r → past n ≤ r)
      → extended from p (loops_from past at steps) ≤ r
  no_farther from p at r [] le h = le
  no_farther from p at r (x ∷ steps) le h =
      let a = one_least from p at r x le (λ n e some low high. h zero n (ap Some e) (omega arith) (omega arith) (omega arith)) in
      let i = one_is from p at x steps in
      let g = no_farther from (one from p at x) (at + 1) r steps a (λ j n e some low high. h (suc j) n e (omega arith) (omega arith) (omega arith)) in omega arith
