-- What holds of the ranges and their order while steps are gone through.
use Rattle.std.proofs.Common.{ℕ, ◌+◌, ◌-◌, ◌≡◌, ◌≢◌, ◌<◌, ◌≤◌, inl, inr, refl, sym, ap, ◌∙◌, subst, [], ◌∷◌, ◌++◌, length, arith, get_or}
use Rattle.std.proofs.lemmas.Bool.{cases_eq, cases_lt}
use Rattle.std.proofs.lemmas.List.{length-append, get_or_append_left, get_or_at}
use Rattle.fat_ir.specs.declared.program.FatFun.{FatFun}
use Rattle.fat_ir.specs.Spans.{Range, Holds, Spans}
use Rattle.reg_assign.specs.declared.lives.LiveRange.{LiveRange}
use Rattle.reg_assign.specs.declared.lives.Lives.{Lives}
use Rattle.reg_assign.specs.Lives.{from_of, past_of}
use Rattle.reg_assign.proofs.Touching.{Touch}

pub record Sound (f : FatFun) (at : ℕ) (l : Lives) : Type 0 where
  pub sized : length l.ranges ≡ length f.bounds
  pub proper : (v : ℕ) → 0 < past_of l v → (from_of l v < past_of l v) × (from_of l v ≤ at) × (past_of l v ≤ at + 1)
  pub least : (v : ℕ) → 0 < past_of l v → (s : Range) → Spans f v s → Holds s (from_of l v) × Holds s (past_of l v - 1)
  pub listed : (j : ℕ) → j < length l.order → 0 < past_of l (get_or l.order j 0)
  pub once : (v : ℕ) → 0 < past_of l v → (j : ℕ) × (j < length l.order) × (get_or l.order j 0 ≡ v)
  pub apart : (j k : ℕ) → j < k → k < length l.order → get_or l.order j 0 ≢ get_or l.order k 0
  pub rising : (j k : ℕ) → j < k → k < length l.order → from_of l (get_or l.order j 0) ≤ from_of l (get_or l.order k 0)

module _ (f : FatFun) (at v : ℕ) (l m : Lives) (t : Touch at v l m) (sound : Sound f at l) (holds : (s : Range) → Spans f v s → Holds s at) where
  from_other : (u : ℕ) → u ≢ v → from_of m u ≡ from_of l u
  from_other u ne = ap (λ (r : LiveRange). r.from) (t.other u ne)

  past_other : (u : ℕ) → u ≢ v → past_of m u ≡ past_of l u
  past_other u ne = ap (λ (r : LiveRange). r.past) (t.other u ne)

  -- one that lived already begins where it began
  from_kept : (u : ℕ) → 0 < past_of l u → from_of m u ≡ from_of l u
  from_kept u some = elim (cases_eq u v) [
    | inl e ↦ subst (λ x. 0 < past_of l x → from_of m x ≡ from_of l x) (sym e) (λ more. (t.again more).0) some
    | inr ne ↦ from_other u ne
  ]

  past_kept : (u : ℕ) → 0 < past_of l u → 0 < past_of m u
  past_kept u some = elim (cases_eq u v) [
    | inl e ↦ subst (λ x. 0 < past_of m x) (sym e) (let p = t.past in omega arith)
    | inr ne ↦ let p = past_other u ne in omega arith
  ]

  proper_at : (u : ℕ) → 0 < past_of m u → (from_of m u < past_of m u) × (from_of m u ≤ at) × (past_of m u ≤ at + 1)
  proper_at u some = elim (cases_eq u v) [
    | inl e ↦ subst (λ x. (from_of m x < past_of m x) × (from_of m x ≤ at) × (past_of m x ≤ at + 1)) (sym e) (elim (cases_lt 0 (past_of l v)) [
      | inl more ↦ let a = (t.again more).0 in let b = (sound.proper v more).1 in let p = t.past in (omega arith, omega arith, omega arith)
      | inr none ↦ let a = (t.fresh (omega arith)).0 in let p = t.past in (omega arith, omega arith, omega arith)
    ])
    | inr ne ↦ let a = from_other u ne in let p = past_other u ne in let h = sound.proper u (omega arith) in let h0 = h.0 in let h1 = h.1 in let h2 = h.2 in (omega arith, omega arith, omega arith)
  ]

  least_at : (u : ℕ) → 0 < past_of m u → (s : Range) → Spans f u s → Holds s (from_of m u) × Holds s (past_of m u - 1)
  least_at u some s spans = elim (cases_eq u v) [
    | inl e ↦ let here = holds s (subst (λ x. Spans f x s) e spans) in
        subst (λ x. Holds s (from_of m x) × Holds s (past_of m x - 1)) (sym e)
        (let last : at ≡ past_of m v - 1 = (let p = t.past in omega arith) in
        elim (cases_lt 0 (past_of l v)) [
          | inl more ↦ (subst (Holds s) (sym (t.again more).0) (sound.least v more s (subst (λ x. Spans f x s) e spans)).0, subst (Holds s) last here)
          | inr none ↦ (subst (Holds s) (sym (t.fresh (omega arith)).0) here, subst (Holds s) last here)
        ])
    | inr ne ↦ subst (λ r. Holds s r.from × Holds s (r.past - 1)) (sym (t.other u ne)) (sound.least u (let p = past_other u ne in omega arith) s spans)
  ]

  -- one that lives as before, in the same order
  same_order : 0 < past_of l v → Sound f at m
  same_order more = let e = (t.again more).1 in record {
    sized = t.sized ∙ sound.sized;
    proper = proper_at;
    least = least_at;
    listed = subst (λ order. (j : ℕ) → j < length order → 0 < past_of m (get_or order j 0)) (sym e) (λ j lt. past_kept _ (sound.listed j lt));
    once = λ u some. subst (λ order. (j : ℕ) × (j < length order) × (get_or order j 0 ≡ u)) (sym e) (sound.once u (elim (cases_eq u v) [
      | inl same ↦ subst (λ x. 0 < past_of l x) (sym same) more
      | inr ne ↦ let p = past_other u ne in omega arith
    ]));
    apart = subst (λ order. (j k : ℕ) → j < k → k < length order → get_or order j 0 ≢ get_or order k 0) (sym e) sound.apart;
    rising = subst (λ order. (j k : ℕ) → j < k → k < length order → from_of m (get_or order j 0) ≤ from_of m (get_or order k 0)) (sym e)
        (λ j k lt within. let a = from_kept (get_or l.order j 0) (sound.listed j (omega arith)) in let b = from_kept (get_or l.order k 0) (sound.listed k within) in let r = sound.rising j k lt within in omega arith);
  }

  -- one that begins to live, behind the others
  in_longer : (j : ℕ) → j < length l.order → get_or (l.order ++ v ∷ []) j 0 ≡ get_or l.order j 0
  in_longer j lt = get_or_append_left l.order (v ∷ []) 0 j lt

  last_in_longer : (j : ℕ) → length l.order ≤ j → j < length (l.order ++ v ∷ []) → (j ≡ length l.order) × (get_or (l.order ++ v ∷ []) j 0 ≡ v)
  last_in_longer j le lt = let n = length-append l.order (v ∷ []) in let e : length l.order ≡ j = omega arith in (sym e, get_or_at l.order v [] 0 j e)

  some_longer : past_of l v ≡ 0 → (j : ℕ) → j < length (l.order ++ v ∷ []) → 0 < past_of m (get_or (l.order ++ v ∷ []) j 0)
  some_longer none j lt = elim (cases_lt j (length l.order)) [
    | inl within ↦ subst (λ x. 0 < past_of m x) (sym (in_longer j within)) (past_kept _ (sound.listed j within))
    | inr le ↦ subst (λ x. 0 < past_of m x) (sym (last_in_longer j le lt).1) (let p = t.past in omega arith)
  ]

  once_longer : past_of l v ≡ 0 → (u : ℕ) → 0 < past_of m u → (j : ℕ) × (j < length (l.order ++ v ∷ [])) × (get_or (l.order ++ v ∷ []) j 0 ≡ u)
  once_longer none u some = let n = length-append l.order (v ∷ []) in elim (cases_eq u v) [
    | inl e ↦ (length l.order, omega arith, get_or_at l.order v [] 0 (length l.order) refl ∙ sym e)
    | inr ne ↦ let p = past_other u ne in let o = sound.once u (omega arith) in let o1 = o.1 in (o.0, omega arith, in_longer o.0 o.1 ∙ o.2)
  ]

  apart_longer : past_of l v ≡ 0 → (j k : ℕ) → j < k → k < length (l.order ++ v ∷ []) → get_or (l.order ++ v ∷ []) j 0 ≢ get_or (l.order ++ v ∷ []) k 0
  apart_longer none j k lt within same = let n = length-append l.order (v ∷ []) in let before = sound.listed j (omega arith) in
      elim (cases_lt k (length l.order)) [
        | inl short ↦ sound.apart j k lt short (sym (in_longer j (omega arith)) ∙ same ∙ in_longer k short)
        | inr le ↦ let e : get_or l.order j 0 ≡ v = sym (in_longer j (omega arith)) ∙ same ∙ (last_in_longer k le within).1 in
            let p = subst (λ x. 0 < past_of l x) e before in absurd (omega arith)
      ]

  rising_longer : past_of l v ≡ 0 → (j k : ℕ) → j < k → k < length (l.order ++ v ∷ []) → from_of m (get_or (l.order ++ v ∷ []) j 0) ≤ from_of m (get_or (l.order ++ v ∷ []) k 0)
  rising_longer none j k lt within = let n = length-append l.order (v ∷ []) in
      let short : j < length l.order = omega arith in
      let ej = ap (λ x. from_of m x) (in_longer j short) in
      let fj = from_kept (get_or l.order j 0) (sound.listed j short) in
      elim (cases_lt k (length l.order)) [
        | inl also ↦ let ek = ap (λ x. from_of m x) (in_longer k also) in let fk = from_kept (get_or l.order k 0) (sound.listed k also) in let r = sound.rising j k lt also in omega arith
        | inr le ↦ let ek = ap (λ x. from_of m x) (last_in_longer k le within).1 in let fk = (t.fresh none).0 in let b = (sound.proper (get_or l.order j 0) (sound.listed j short)).1 in omega arith
      ]

  new_order : past_of l v ≡ 0 → Sound f at m
  new_order none = let e = (t.fresh none).1 in record {
    sized = t.sized ∙ sound.sized;
    proper = proper_at;
    least = least_at;
    listed = subst (λ order. (j : ℕ) → j < length order → 0 < past_of m (get_or order j 0)) (sym e) (some_longer none);
    once = subst (λ order. (u : ℕ) → 0 < past_of m u → (j : ℕ) × (j < length order) × (get_or order j 0 ≡ u)) (sym e) (once_longer none);
    apart = subst (λ order. (j k : ℕ) → j < k → k < length order → get_or order j 0 ≢ get_or order k 0) (sym e) (apart_longer none);
    rising = subst (λ order. (j k : ℕ) → j < k → k < length order → from_of m (get_or order j 0) ≤ from_of m (get_or order k 0)) (sym e) (rising_longer none);
  }

  pub sound_touch : Sound f at m
  sound_touch = elim (cases_lt 0 (past_of l v)) [ inl more ↦ same_order more | inr none ↦ new_order (omega arith) ]

  -- the steps up to this one at which another value, or the same, lived already
  pub covered_kept : (u i : ℕ) → i ≤ at → (from_of l u ≤ i) × (i < past_of l u) → (from_of m u ≤ i) × (i < past_of m u)
  covered_kept u i le h = let h0 = h.0 in let h1 = h.1 in let f = from_kept u (omega arith) in elim (cases_eq u v) [
    | inl e ↦ let p : past_of m u ≡ at + 1 = ap (λ x. past_of m x) e ∙ t.past in (omega arith, omega arith)
    | inr ne ↦ let p = past_other u ne in (omega arith, omega arith)
  ]

  pub covered_now : (from_of m v ≤ at) × (at < past_of m v)
  covered_now = let p = t.past in let q = proper_at v (omega arith) in let q1 = q.1 in (omega arith, omega arith)
