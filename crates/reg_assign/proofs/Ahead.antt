-- In the order in which values begin to live, those that wish stand ahead: they were touched before the others.
use Rattle.std.proofs.Common.{ℕ, ◌+◌, ◌≡◌, ◌<◌, ◌⊎◌, inl, inr, sym, ap, subst, List, [], ◌∷◌, ◌++◌, length, arith, get_or}
use Rattle.std.specs.List.{All}
use Rattle.std.proofs.lemmas.Bool.{cases_eq, cases_lt}
use Rattle.std.proofs.lemmas.List.{length-append, get_or_append_left, get_or_at}
use Rattle.fat_ir.specs.declared.program.FatFun.{FatFun}
use Rattle.fat_ir.specs.declared.step.FatStep.{FatStep}
use Rattle.fat_ir.specs.Spans.{named, IsAssignable}
use Rattle.reg_assign.specs.declared.lives.LiveRange.{LiveRange}
use Rattle.reg_assign.specs.declared.lives.Lives.{Lives}
use Rattle.reg_assign.specs.Lives.{touched, all_touched, steps_touched, past_of}
use Rattle.reg_assign.specs.Wishing.{IsWishing}
use Rattle.reg_assign.proofs.Living.{Sound}
use Rattle.reg_assign.proofs.Touching.{Touch, touches}
use Rattle.reg_assign.proofs.Walking.{all_head, all_tail, Touchable, sound_one, sound_all, touchable, Rest, rest_of, here, later}

-- the order stays at a touch, or the value stands behind it that lived nowhere
order_of : (at v : ℕ) (l m : Lives) → Touch at v l m → (m.order ≡ l.order) ⊎ ((past_of l v ≡ 0) × (m.order ≡ l.order ++ v ∷ []))
order_of at v l m t = elim (cases_lt 0 (past_of l v)) [
  | inl more ↦ inl (t.again more).1
  | inr none ↦ let z : past_of l v ≡ 0 = omega arith in inr (z, (t.fresh z).1)
]

module _ (f : FatFun) (ws : List ℕ) where
  -- only values that wish live anywhere
  abbrev pub OnlyWishing : Lives → Type 0
  OnlyWishing l = (k : ℕ) → k < length l.order → IsWishing ws (get_or l.order k 0)

  -- those that wish all live, and stand before the others
  pub record Ahead (l : Lives) : Type 0 where
    pub has : (v : ℕ) → IsWishing ws v → 0 < past_of l v
    pub front : (j k : ℕ) → j < k → k < length l.order → IsWishing ws (get_or l.order k 0) → IsWishing ws (get_or l.order j 0)

  only_touch : (at v : ℕ) (l m : Lives) → Touch at v l m → IsWishing ws v → OnlyWishing l → OnlyWishing m
  only_touch at v l m t mine only = elim (order_of at v l m t) [
    | inl e ↦ subst (λ (o : List ℕ). (k : ℕ) → k < length o → IsWishing ws (get_or o k 0)) (sym e) only
    | inr g ↦ subst (λ (o : List ℕ). (k : ℕ) → k < length o → IsWishing ws (get_or o k 0)) (sym g.1) (λ k lt. elim (cases_lt k (length l.order)) [
      | inl within ↦ subst (IsWishing ws) (sym (get_or_append_left l.order (v ∷ []) 0 k within)) (only k within)
      | inr le ↦ let n = length-append l.order (v ∷ []) in let e : length l.order ≡ k = omega arith in subst (IsWishing ws) (sym (get_or_at l.order v [] 0 k e)) mine
    ])
  ]

  pub only_all : (vs : List ℕ) (l : Lives) → Sound f 0 l → All (Touchable f 0) vs → All (IsWishing ws) vs → OnlyWishing l → OnlyWishing (all_touched 0 vs l)
  only_all [] l sound can mine only = only
  only_all (v ∷ vs) l sound can mine only = let h = all_head (Touchable f 0) v vs can in
      only_all vs (touched 0 v l) (sound_one f 0 v l sound h) (all_tail (Touchable f 0) v vs can) (all_tail (IsWishing ws) v vs mine)
      (only_touch 0 v l (touched 0 v l) (touches 0 v l (let e = sound.sized in let lt = h.0 in omega arith)) (all_head (IsWishing ws) v vs mine) only)

  ahead_touch : (at v : ℕ) (l m : Lives) → Touch at v l m → Ahead l → Ahead m
  ahead_touch at v l m t ahead = record {
    has = λ u w. elim (cases_eq u v) [
      | inl e ↦ subst (λ x. 0 < past_of m x) (sym e) (let p = t.past in omega arith)
      | inr ne ↦ let p = ap (λ (r : LiveRange). r.past) (t.other u ne) in let h = ahead.has u w in omega arith
    ];
    front = elim (order_of at v l m t) [
      | inl e ↦ subst (λ (o : List ℕ). (j k : ℕ) → j < k → k < length o → IsWishing ws (get_or o k 0) → IsWishing ws (get_or o j 0)) (sym e) ahead.front
      | inr g ↦ subst (λ (o : List ℕ). (j k : ℕ) → j < k → k < length o → IsWishing ws (get_or o k 0) → IsWishing ws (get_or o j 0)) (sym g.1) (longer g.0)
    ];
  }
    where
      longer : past_of l v ≡ 0 → (j k : ℕ) → j < k → k < length (l.order ++ v ∷ []) → IsWishing ws (get_or (l.order ++ v ∷ []) k 0) → IsWishing ws (get_or (l.order ++ v ∷ []) j 0)
      longer none j k lt within w = let n = length-append l.order (v ∷ []) in elim (cases_lt k (length l.order)) [
        | inl short ↦ subst (IsWishing ws) (sym (get_or_append_left l.order (v ∷ []) 0 j (omega arith)))
            (ahead.front j k lt short (subst (IsWishing ws) (get_or_append_left l.order (v ∷ []) 0 k short) w))
        | inr le ↦ let e : length l.order ≡ k = omega arith in let h = ahead.has v (subst (IsWishing ws) (get_or_at l.order v [] 0 k e) w) in absurd (omega arith)
      ]

  pub ahead_all : (at : ℕ) (vs : List ℕ) (l : Lives) → Sound f at l → All (Touchable f at) vs → Ahead l → Ahead (all_touched at vs l)
  ahead_all at [] l sound can ahead = ahead
  ahead_all at (v ∷ vs) l sound can ahead = let h = all_head (Touchable f at) v vs can in
      ahead_all at vs (touched at v l) (sound_one f at v l sound h) (all_tail (Touchable f at) v vs can)
      (ahead_touch at v l (touched at v l) (touches at v l (let e = sound.sized in let lt = h.0 in omega arith)) ahead)

  pub ahead_steps : (can : IsAssignable f) (at : ℕ) (rest : List FatStep) (l : Lives) → Rest f can at rest → Sound f at l → Ahead l → Ahead (steps_touched at rest l)
  ahead_steps can at [] l r sound ahead = ahead
  ahead_steps can at (step ∷ rest) l r sound ahead = let all = touchable f can at step (here f can at step rest r) in
      ahead_steps can (at + 1) rest (all_touched at (named step) l) (rest_of f can at step rest r) (later f at (all_touched at (named step) l) (sound_all f at (named step) l sound all))
      (ahead_all at (named step) l sound all ahead)
