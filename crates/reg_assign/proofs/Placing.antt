-- Places are given in the order in which values begin to live: values that live at one step have different places, there are enough, and none
-- has a slot while a register is free.
use Rattle.std.proofs.Common.{ℕ, ◌+◌, ◌≡◌, ◌≢◌, ◌<◌, ◌≤◌, ◌⊎◌, inl, inr, refl, sym, ap, ◌∙◌, subst, List, length, arith, get_or, nat_le, nat_lt, true, false, Bool, ◌&&◌, not, slice_index_or}
use Rattle.std.proofs.lemmas.Bool.{cases_eq, cases_lt, cases_Bool, and_parts, and_from, not-true}
use Rattle.std.proofs.lemmas.Bool.Decides.{nat_tests}
use Rattle.fat_ir.specs.declared.program.FatFun.{FatFun}
use Rattle.fat_ir.specs.Spans.{HasSort, InSpan, InFewSpans, IsAssignable}
use Rattle.reg_assign.specs.declared.lives.Lives.{Lives}
use Rattle.reg_assign.specs.Lives.{from_of, past_of}
use Rattle.reg_assign.specs.Ranges.{AreSpans}
use Rattle.reg_assign.specs.Places.{IsPick, is_quiet, Crowded, ArePlaced}
use Rattle.reg_assign.specs.Wishing.{WishesFor, IsWishing, IsWish, MayWish, StandAhead}
use Rattle.reg_assign.proofs.Counting.{picked, picked_rise, picked_pass, Found, many_and_one}

sort_test : Bool → Bool → Bool
sort_test true b = b
sort_test false b = not b

sort_tested : (sort b : Bool) → sort_test sort b ≡ true → b ≡ sort
unfolding sort_test
sort_tested true b e = e
sort_tested false b e = not-true b e

sort_passes : (sort b : Bool) → b ≡ sort → sort_test sort b ≡ true
unfolding sort_test
sort_passes true b e = e
sort_passes false b e = ap not e

module _ (f : FatFun) (l : Lives) (sort : Bool) (registers : ℕ) (wishes : List ℕ) where
  abbrev pub Mine : ℕ → Type 0
  Mine v = slice_index_or f.bounds v false ≡ sort

  -- one of the first k values in order
  abbrev pub Done : (k v : ℕ) → Type 0
  Done k v = (j : ℕ) × (j < k) × (get_or l.order j 0 ≡ v)

  -- the value that a place is taken by
  pub record Holder (k : ℕ) (until place : ℕ → ℕ) (c : ℕ) : Type 0 where
    pub value : ℕ
    pub done : Done k value
    pub mine : Mine value
    pub there : place value ≡ c
    pub past : past_of l value ≡ until c

  -- the first k values in order have their places
  pub record Placed (k : ℕ) (until place : ℕ → ℕ) : Type 0 where
    pub within : (v : ℕ) → place v < registers + 152
    pub idle : (v : ℕ) → past_of l v ≡ 0 → place v ≡ 0
    pub later : (v : ℕ) → Done k v → Mine v → past_of l v ≤ until (place v)
    pub apart : (u v : ℕ) → u ≢ v → Done k u → Done k v → Mine u → Mine v → place u ≡ place v → (past_of l u ≤ from_of l v) ⊎ (past_of l v ≤ from_of l u)
    pub holder : (c : ℕ) → c < registers + 152 → (until c ≡ 0) ⊎ Holder k until place c
    pub slots : (v : ℕ) → Done k v → Mine v → is_quiet f l v ≡ false → registers ≤ place v
    pub crowded : (v : ℕ) → Done k v → Mine v → registers ≤ place v → is_quiet f l v ≡ true → Crowded f (is_quiet f l) sort registers (from_of l v)
    pub granted : (v : ℕ) → Done k v → Mine v → IsWishing wishes v → WishesFor wishes v (place v) ⊎ (registers ≤ place v)

  pub none_placed : (until place : ℕ → ℕ) → ((c : ℕ) → until c ≡ 0) → ((v : ℕ) → place v ≡ 0) → Placed 0 until place
  none_placed until place zeros none = record {
    within = λ v. let e = none v in omega arith;
    idle = λ v e. none v;
    later = λ v d. absurd (let a = d.1 in omega arith);
    apart = λ u v ne d. absurd (let a = d.1 in omega arith);
    holder = λ c lt. inl (zeros c);
    slots = λ v d. absurd (let a = d.1 in omega arith);
    crowded = λ v d. absurd (let a = d.1 in omega arith);
    granted = λ v d. absurd (let a = d.1 in omega arith);
  }

  live : (i u : ℕ) → Bool
  live i u = sort_test sort (slice_index_or f.bounds u false) && (nat_le (from_of l u) i && nat_lt i (past_of l u))

  live_is : (i u : ℕ) → live i u ≡ true → Mine u × (from_of l u ≤ i) × (i < past_of l u)
  unfolding live
  live_is i u e = let a = and_parts _ _ e in let b = and_parts (nat_le (from_of l u) i) (nat_lt i (past_of l u)) a.1 in let b0 = b.0 in let b1 = b.1 in
      (sort_tested sort _ a.0, grind (arith, nat_tests), grind (arith, nat_tests))

  lives_there : (i u : ℕ) → Mine u → from_of l u ≤ i → i < past_of l u → live i u ≡ true
  unfolding live
  lives_there i u mine low high = let a : nat_le (from_of l u) i ≡ true = grind (arith, nat_tests) in let b : nat_lt i (past_of l u) ≡ true = grind (arith, nat_tests) in
      and_from _ _ (sort_passes sort _ mine) (and_from _ _ a b)

  quiet_live : (i u : ℕ) → Bool
  quiet_live i u = is_quiet f l u && live i u

  module _ (can : IsAssignable f) (are : AreSpans f l) (may : MayWish f sort registers wishes) (ahead : StandAhead f l sort wishes) where
    few : (i : ℕ) → InFewSpans 152 f sort i
    few i = elim sort as (λ b. InFewSpans 152 f b i) [ true ↦ can.bounds i | false ↦ can.numbers i ]

    in_span : (i u : ℕ) → u < 0 + length f.bounds → live i u ≡ true → HasSort f sort u × InSpan f u i
    in_span i u lt e = let a = live_is i u e in let n = can.numbered in ((omega arith, a.0), λ r spans. are.least u r spans i (a.1, a.2))

    enough : (i : ℕ) → 152 < length (picked (live i) 0 (length f.bounds)) → ⊥
    enough i many = let h = few i (picked (live i) 0 (length f.bounds)) (picked_rise (live i) 0 0 (length f.bounds) (omega arith))
        (picked_pass (live i) (λ u. HasSort f sort u × InSpan f u i) 0 (length f.bounds) (in_span i)) in omega arith

    crowd : (i : ℕ) → registers < length (picked (quiet_live i) 0 (length f.bounds)) → Crowded f (is_quiet f l) sort registers i
    unfolding quiet_live
    crowd i many = record {
      values = picked (quiet_live i) 0 (length f.bounds);
      rising = picked_rise (quiet_live i) 0 0 (length f.bounds) (omega arith);
      quiet_here = picked_pass (quiet_live i) (λ u. HasSort f sort u × InSpan f u i × (is_quiet f l u ≡ true)) 0 (length f.bounds)
          (λ u lt e. let a = and_parts (is_quiet f l u) (live i u) e in let s = in_span i u lt a.1 in (s.0, s.1, a.0));
      many = many;
    }

    -- ---- one value more

    module _ (k : ℕ) (short : k < length l.order) (until place : ℕ → ℕ) (placed : Placed k until place) where
      abbrev pub v : ℕ
      v = get_or l.order k 0

      lived : (u : ℕ) → Done k u → 0 < past_of l u
      lived u d = let a = d.1 in subst (λ x. 0 < past_of l x) d.2 (are.listed d.0 (omega arith))

      lived_now : 0 < past_of l v
      lived_now = are.listed k short

      differs : (u : ℕ) → Done k u → u ≢ v
      differs u d e = are.apart d.0 k d.1 short (d.2 ∙ e)

      before : (u : ℕ) → Done k u → from_of l u ≤ from_of l v
      before u d = let r = are.rising d.0 k d.1 short in let e = ap (λ x. from_of l x) d.2 in omega arith

      -- one of the first k, or this one
      old_or : (u : ℕ) → Done (k + 1) u → Done k u ⊎ (u ≡ v)
      old_or u d = elim (cases_lt d.0 k) [
        | inl lt ↦ inl (d.0, lt, d.2)
        | inr le ↦ let a = d.1 in let e : d.0 ≡ k = omega arith in inr (sym d.2 ∙ ap (λ j. get_or l.order j 0) e)
      ]

      pub other_kind : (Mine v → ⊥) → Placed (k + 1) until place
      other_kind other = record {
        within = placed.within;
        idle = placed.idle;
        later = λ u d mine. placed.later u (old u d mine) mine;
        apart = λ u w ne d e mine also. placed.apart u w ne (old u d mine) (old w e also) mine also;
        holder = λ c lt. elim (placed.holder c lt) [
          | inl z ↦ inl z
          | inr h ↦ inr (record { value = h.value; done = (h.done.0, (let a = h.done.1 in omega arith), h.done.2); mine = h.mine; there = h.there; past = h.past })
        ];
        slots = λ u d mine. placed.slots u (old u d mine) mine;
        crowded = λ u d mine. placed.crowded u (old u d mine) mine;
        granted = λ u d mine. placed.granted u (old u d mine) mine;
      }
        where
          old : (u : ℕ) → Done (k + 1) u → Mine u → Done k u
          old u d mine = elim (old_or u d) [ inl h ↦ h | inr e ↦ absurd (other (subst Mine e mine)) ]

      module _ (mine : Mine v) (wished : ℕ) (wish : IsWish wishes v wished) (chosen : ℕ)
          (pick : IsPick until (registers + 152) (from_of l v) (is_quiet f l v) wished registers chosen) where
        -- a place that is taken at this step has a value that lives there
        taken : (c : ℕ) → c < registers + 152 → from_of l v < until c → Holder k until place c
        taken c lt high = elim (placed.holder c lt) [ inl z ↦ absurd (omega arith) | inr h ↦ h ]

        live_holder : (c : ℕ) → from_of l v < until c → (h : Holder k until place c) → live (from_of l v) h.value ≡ true
        live_holder c high h = let p = h.past in lives_there (from_of l v) h.value h.mine (before h.value h.done) (omega arith)

        found : (c : ℕ) → c < registers + 152 → from_of l v < until c → (g : Found (live (from_of l v)) place (length f.bounds) c) × (g.value ≢ v)
        found c lt high = let h = taken c lt high in
            (record { value = h.value; below = are.within h.value (lived h.value h.done); passes = live_holder c high h; there = h.there }, differs h.value h.done)

        live_now : live (from_of l v) v ≡ true
        live_now = lives_there (from_of l v) v mine (omega arith) (are.some v lived_now)

        pub fits : chosen < registers + 152
        fits = elim (cases_lt chosen (registers + 152)) [
          | inl lt ↦ lt
          | inr le ↦ absurd (enough (from_of l v) (many_and_one place (length f.bounds) registers 152 (live (from_of l v)) v (are.within v lived_now) live_now
              (λ c low lt. found c lt (pick.busy c (omega arith) (inl low)))))
        ]

        -- the place that it wishes for is free: the values before it wish too, for others
        free_wish : WishesFor wishes v wished → until wished ≤ from_of l v
        free_wish w = let few = may.few in let w0 = w.0 in elim (cases_lt (from_of l v) (until wished)) [
          | inr le ↦ le
          | inl high ↦ let h = taken wished (omega arith) high in
              let is = subst (IsWishing wishes) h.done.2 (ahead h.done.0 k h.done.1 short (record { place = wished; wishes = w }) (subst Mine (sym h.done.2) h.mine)) in
              elim (placed.granted h.value h.done h.mine is) [
                | inl g ↦ absurd (differs h.value h.done (sym (subst (λ c. WishesFor wishes h.value c) h.there g).1 ∙ w.1))
                | inr slot ↦ let t = h.there in absurd (omega arith)
              ]
        ]

        granted_now : WishesFor wishes v wished → is_quiet f l v ≡ true → chosen ≡ wished
        granted_now w quiet = let low = pick.low quiet in let free = free_wish w in elim (cases_lt wished chosen) [
          | inl lt ↦ let high = pick.busy wished lt (inr (quiet, omega arith)) in absurd (omega arith)
          | inr le ↦ omega arith
        ]

        -- one that wishes has no slot while it is quiet
        least_now : registers ≤ chosen → is_quiet f l v ≡ true → wished ≡ 0
        least_now slot quiet = elim wish [
          | inl w ↦ let e = granted_now w quiet in let few = may.few in let w0 = w.0 in absurd (omega arith)
          | inr none ↦ none.0
        ]

        granted_or : IsWishing wishes v → WishesFor wishes v chosen ⊎ (registers ≤ chosen)
        granted_or is = elim (cases_Bool (is_quiet f l v)) [
          | inl quiet ↦ elim wish [
            | inl w ↦ inl (subst (WishesFor wishes v) (sym (granted_now w quiet)) w)
            | inr none ↦ absurd (none.1 is.place is.wishes)
          ]
          | inr noisy ↦ inr (pick.slot noisy)
        ]

        crowded_now : registers ≤ chosen → is_quiet f l v ≡ true → Crowded f (is_quiet f l) sort registers (from_of l v)
        unfolding quiet_live
        crowded_now slot quiet = crowd (from_of l v) (many_and_one place (length f.bounds) 0 registers (quiet_live (from_of l v)) v (are.within v lived_now) (and_from _ _ quiet live_now)
            (λ c low lt.
            let least = least_now slot quiet in
            let high = pick.busy c (omega arith) (inr (quiet, omega arith)) in
            let h = taken c (omega arith) high in
            let q : is_quiet f l h.value ≡ true = elim (cases_Bool (is_quiet f l h.value)) [
              | inl e ↦ e
              | inr e ↦ let s = placed.slots h.value h.done h.mine e in let t = h.there in absurd (omega arith)
            ] in
            (record { value = h.value; below = are.within h.value (lived h.value h.done); passes = and_from _ _ q (live_holder c high h); there = h.there }, differs h.value h.done)))

        module _ (until2 place2 : ℕ → ℕ) (here : place2 v ≡ chosen) (place_other : (u : ℕ) → u ≢ v → place2 u ≡ place u) (taken_now : until2 chosen ≡ past_of l v) (until_other : (c : ℕ) → c ≢ chosen → until2 c ≡ until c) where
          free : until chosen ≤ from_of l v
          free = pick.free fits

          goes_on : (u : ℕ) → Done k u → Mine u → place u ≡ chosen → past_of l u ≤ from_of l v
          goes_on u d m e = let a = placed.later u d m in let b = ap until e in let c = free in omega arith

          kept : (u : ℕ) → Done k u → place2 u ≡ place u
          kept u d = place_other u (differs u d)

          longer : (u : ℕ) → Done k u → Done (k + 1) u
          longer u d = let a = d.1 in (d.0, omega arith, d.2)

          done_now : Done (k + 1) v
          done_now = (k, omega arith, refl)

          later_now : (u : ℕ) → Done (k + 1) u → Mine u → past_of l u ≤ until2 (place2 u)
          later_now u d m = elim (old_or u d) [
            | inr e ↦ subst (λ x. past_of l x ≤ until2 (place2 x)) (sym e) (let a = ap until2 here in let b = taken_now in omega arith)
            | inl old ↦ subst (λ c. past_of l u ≤ until2 c) (sym (kept u old)) (elim (cases_eq (place u) chosen) [
              | inl e ↦ let a = goes_on u old m e in let b = are.some v lived_now in let c = ap until2 e in let g = taken_now in omega arith
              | inr ne ↦ let a = placed.later u old m in let b = until_other (place u) ne in omega arith
            ])
          ]

          apart_now : (u w : ℕ) → u ≢ w → Done (k + 1) u → Done (k + 1) w → Mine u → Mine w → place2 u ≡ place2 w → (past_of l u ≤ from_of l w) ⊎ (past_of l w ≤ from_of l u)
          apart_now u w ne d g m n same = elim (old_or u d) [
            | inl old ↦ elim (old_or w g) [
              | inl also ↦ placed.apart u w ne old also m n (sym (kept u old) ∙ (same ∙ kept w also))
              | inr e ↦ inl (subst (λ x. past_of l u ≤ from_of l x) (sym e) (goes_on u old m (sym (kept u old) ∙ (same ∙ (ap place2 e ∙ here)))))
            ]
            | inr e ↦ elim (old_or w g) [
              | inl also ↦ inr (subst (λ x. past_of l w ≤ from_of l x) (sym e) (goes_on w also n (sym (kept w also) ∙ (sym same ∙ (ap place2 e ∙ here)))))
              | inr h ↦ absurd (ne (e ∙ sym h))
            ]
          ]

          holder_now : (c : ℕ) → c < registers + 152 → (until2 c ≡ 0) ⊎ Holder (k + 1) until2 place2 c
          holder_now c lt = elim (cases_eq c chosen) [
            | inl e ↦ inr (record { value = v; done = done_now; mine = mine; there = here ∙ sym e; past = sym (ap until2 e ∙ taken_now) })
            | inr ne ↦ elim (placed.holder c lt) [
              | inl z ↦ inl (until_other c ne ∙ z)
              | inr h ↦ inr (record { value = h.value; done = longer h.value h.done; mine = h.mine; there = kept h.value h.done ∙ h.there; past = h.past ∙ sym (until_other c ne) })
            ]
          ]

          pub one_more : Placed (k + 1) until2 place2
          one_more = record {
            within = λ u. elim (cases_eq u v) [ inl e ↦ (let a = ap place2 e in let b = here in let c = fits in omega arith) | inr ne ↦ (let a = placed.within u in let b = place_other u ne in omega arith) ];
            idle = λ u none. elim (cases_eq u v) [ inl e ↦ absurd (let a = lived_now in let b = ap (λ x. past_of l x) e in omega arith) | inr ne ↦ place_other u ne ∙ placed.idle u none ];
            later = later_now;
            apart = apart_now;
            holder = holder_now;
            slots = λ u d m q. elim (old_or u d) [
              | inl old ↦ (let a = placed.slots u old m q in let b = kept u old in omega arith)
              | inr e ↦ (let a = pick.slot (subst (λ x. is_quiet f l x ≡ false) e q) in let b = ap place2 e in let c = here in omega arith)
            ];
            crowded = λ u d m slot q. elim (old_or u d) [
              | inl old ↦ placed.crowded u old m (let b = kept u old in omega arith) q
              | inr e ↦ subst (λ x. Crowded f (is_quiet f l) sort registers (from_of l x)) (sym e) (crowded_now (let b = ap place2 e in let c = here in omega arith) (subst (λ x. is_quiet f l x ≡ true) e q))
            ];
            granted = λ u d m is. elim (old_or u d) [
              | inl old ↦ subst (λ c. WishesFor wishes u c ⊎ (registers ≤ c)) (sym (kept u old)) (placed.granted u old m is)
              | inr e ↦ subst (λ c. WishesFor wishes u c ⊎ (registers ≤ c)) (sym (ap place2 e ∙ here))
                  (subst (λ x. WishesFor wishes x chosen ⊎ (registers ≤ chosen)) (sym e) (granted_or (subst (IsWishing wishes) e is)))
            ];
          }

    -- ---- all values

    pub all_placed : (until place : ℕ → ℕ) → Placed (length l.order) until place → ArePlaced f l sort registers wishes place
    all_placed until place placed = record {
      within = placed.within;
      idle = placed.idle;
      apart = λ u v ne more also mine m e. placed.apart u v ne (are.once u more) (are.once v also) mine m e;
      slots = λ v more mine q. placed.slots v (are.once v more) mine q;
      crowded = λ v more mine slot q. placed.crowded v (are.once v more) mine slot q;
      granted = λ v more mine is. placed.granted v (are.once v more) mine is;
    }
