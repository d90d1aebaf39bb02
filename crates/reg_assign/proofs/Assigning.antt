-- Homes by places keep what is promised of homes.
use Rattle.std.proofs.Common.{ℕ, zero, suc, ◌+◌, ◌*◌, ◌-◌, ◌≡◌, ◌≢◌, ◌<◌, ◌≤◌, ◌⊎◌, inl, inr, refl, sym, ap, ◌∙◌, subst, List, [], ◌∷◌, length, arith, get_or, slice_index_or, nat_eq, nat_lt, true, false, Bool, if◌then◌else◌}
use Rattle.std.proofs.lemmas.Bool.{cases_lt, cases_order, cases_Bool, true≢false}
use Rattle.std.proofs.lemmas.Bool.Decides.{nat_tests}
use Rattle.fat_ir.specs.declared.program.FatFun.{FatFun}
use Rattle.fat_ir.specs.declared.step.FatStep.{FatStep}
use Rattle.fat_ir.specs.Spans.{StandsAt, Holds, InSpan}
use Rattle.step_code.specs.declared.homes.Home.{Home}
use Rattle.step_code.specs.declared.homes.Home.TheVariants.{Reg, Slot, Bnd}
use Rattle.step_code.specs.Homes.{IsHomeReg, IsHomeBnd, IsNumberHome, IsPairHome, Apart, IsSlot}
use Rattle.reg_assign.specs.declared.lives.Lives.{Lives}
use Rattle.reg_assign.specs.Lives.{range_in, from_of, past_of}
use Rattle.reg_assign.specs.Noise.{is_call}
use Rattle.reg_assign.specs.Ranges.{lived, AreSpans}
use Rattle.reg_assign.specs.Places.{is_quiet, Crowded, ArePlaced}
use Rattle.reg_assign.specs.Homes.{register_at, number_home, pair_home, is_bounds_in, home_in, homes_by, IsNamed, IsQuiet, HoldsCall, InManyQuiet, AreHomes}
use Rattle.reg_assign.specs.declared.wishes.Wishes.{Wishes}
use Rattle.reg_assign.specs.Wishing.{WishesFor, IsWishing, AreWishes}
use Rattle.reg_assign.specs.Granted.{AreGranted}
use Rattle.reg_assign.proofs.Noises.{quiet_is_quiet, noisy_has_call}

-- ---- homes by places

number_register : (p : ℕ) → p < 6 → number_home p ≡ Reg (register_at p)
number_register p lt = let e : nat_lt p 6 ≡ true = grind (arith, nat_tests) in ap (λ b. if b then Reg (register_at p) else Slot (p - 6)) e

number_slot : (p : ℕ) → 6 ≤ p → number_home p ≡ Slot (p - 6)
number_slot p le = let e : nat_lt p 6 ≡ false = grind (arith, nat_tests) in ap (λ b. if b then Reg (register_at p) else Slot (p - 6)) e

pair_register : (words p : ℕ) → p < 2 → pair_home words p ≡ Bnd (p + 2)
pair_register words p lt = let e : nat_lt p 2 ≡ true = grind (arith, nat_tests) in ap (λ b. if b then Bnd (p + 2) else Slot (words + 2 * (p - 2))) e

pair_slot : (words p : ℕ) → 2 ≤ p → pair_home words p ≡ Slot (words + 2 * (p - 2))
pair_slot words p le = let e : nat_lt p 2 ≡ false = grind (arith, nat_tests) in ap (λ b. if b then Bnd (p + 2) else Slot (words + 2 * (p - 2))) e

-- the place of a register
place_of : ℕ → ℕ
place_of r = if nat_eq r 7 then 0 else (if nat_eq r 6 then 1 else (if nat_eq r 10 then 2 else (if nat_eq r 11 then 3 else (if nat_eq r 8 then 4 else 5))))

place_back : (p : ℕ) → p < 6 → place_of (register_at p) ≡ p
unfolding place_of
place_back zero lt = refl
place_back (suc zero) lt = refl
place_back (suc (suc zero)) lt = refl
place_back (suc (suc (suc zero))) lt = refl
place_back (suc (suc (suc (suc zero)))) lt = refl
place_back (suc (suc (suc (suc (suc zero))))) lt = refl
place_back (suc (suc (suc (suc (suc (suc n)))))) lt = absurd (omega arith)

free_register : (p : ℕ) → p < 6 → IsHomeReg (register_at p)
free_register zero lt = record { free = record { rbx = refl; rsp = refl; rbp = refl; r12 = refl; r13 = refl; r14 = refl; r15 = refl }; rax = refl; rcx = refl; rdx = refl }
free_register (suc zero) lt = record { free = record { rbx = refl; rsp = refl; rbp = refl; r12 = refl; r13 = refl; r14 = refl; r15 = refl }; rax = refl; rcx = refl; rdx = refl }
free_register (suc (suc zero)) lt = record { free = record { rbx = refl; rsp = refl; rbp = refl; r12 = refl; r13 = refl; r14 = refl; r15 = refl }; rax = refl; rcx = refl; rdx = refl }
free_register (suc (suc (suc zero))) lt = record { free = record { rbx = refl; rsp = refl; rbp = refl; r12 = refl; r13 = refl; r14 = refl; r15 = refl }; rax = refl; rcx = refl; rdx = refl }
free_register (suc (suc (suc (suc zero)))) lt = record { free = record { rbx = refl; rsp = refl; rbp = refl; r12 = refl; r13 = refl; r14 = refl; r15 = refl }; rax = refl; rcx = refl; rdx = refl }
free_register (suc (suc (suc (suc (suc zero))))) lt = record { free = record { rbx = refl; rsp = refl; rbp = refl; r12 = refl; r13 = refl; r14 = refl; r15 = refl }; rax = refl; rcx = refl; rdx = refl }
free_register (suc (suc (suc (suc (suc (suc n)))))) lt = absurd (omega arith)

register_named : (p : ℕ) → register_at p < 16
register_named zero = omega arith
register_named (suc zero) = omega arith
register_named (suc (suc zero)) = omega arith
register_named (suc (suc (suc zero))) = omega arith
register_named (suc (suc (suc (suc zero)))) = omega arith
register_named (suc (suc (suc (suc (suc n))))) = omega arith

number_named : (words p : ℕ) → words ≤ 152 → p < 6 + words → IsNamed (number_home p)
number_named words p few lt = elim (cases_lt p 6) [
  | inl a ↦ subst IsNamed (sym (number_register p a)) (register_named p)
  | inr a ↦ subst IsNamed (sym (number_slot p a)) (omega (arith, few, lt))
]

pair_named : (words taken p : ℕ) → words ≤ 152 → taken ≤ 152 → p < 2 + taken → IsNamed (pair_home words p)
pair_named words taken p few also lt = elim (cases_lt p 2) [
  | inl a ↦ subst IsNamed (sym (pair_register words p a)) (omega (arith, a))
  | inr a ↦ subst IsNamed (sym (pair_slot words p a)) (omega (arith, few, also, lt, a))
]

numbers_apart : (p q : ℕ) → p ≢ q → Apart false (number_home p) false (number_home q)
numbers_apart p q ne = elim (cases_lt p 6) [
  | inl a ↦ subst (λ g. Apart false g false (number_home q)) (sym (number_register p a)) (elim (cases_lt q 6) [
    | inl b ↦ subst (λ h. Apart false (Reg (register_at p)) false h) (sym (number_register q b)) (λ e. ne (sym (place_back p a) ∙ (ap place_of e ∙ place_back q b)))
    | inr b ↦ subst (λ h. Apart false (Reg (register_at p)) false h) (sym (number_slot q b)) tt
  ])
  | inr a ↦ subst (λ g. Apart false g false (number_home q)) (sym (number_slot p a)) (elim (cases_lt q 6) [
    | inl b ↦ subst (λ h. Apart false (Slot (p - 6)) false h) (sym (number_register q b)) tt
    | inr b ↦ subst (λ h. Apart false (Slot (p - 6)) false h) (sym (number_slot q b)) (elim (cases_order p q) [
      | inl e ↦ absurd (ne e)
      | inr o ↦ elim o [ inl lt ↦ inl (omega arith) | inr gt ↦ inr (omega arith) ]
    ])
  ])
]

pairs_apart : (words p q : ℕ) → p ≢ q → Apart true (pair_home words p) true (pair_home words q)
pairs_apart words p q ne = elim (cases_lt p 2) [
  | inl a ↦ subst (λ g. Apart true g true (pair_home words q)) (sym (pair_register words p a)) (elim (cases_lt q 2) [
    | inl b ↦ subst (λ h. Apart true (Bnd (p + 2)) true h) (sym (pair_register words q b)) (λ e. ne (omega arith))
    | inr b ↦ subst (λ h. Apart true (Bnd (p + 2)) true h) (sym (pair_slot words q b)) tt
  ])
  | inr a ↦ subst (λ g. Apart true g true (pair_home words q)) (sym (pair_slot words p a)) (elim (cases_lt q 2) [
    | inl b ↦ subst (λ h. Apart true (Slot (words + 2 * (p - 2))) true h) (sym (pair_register words q b)) tt
    | inr b ↦ subst (λ h. Apart true (Slot (words + 2 * (p - 2))) true h) (sym (pair_slot words q b)) (elim (cases_order p q) [
      | inl e ↦ absurd (ne e)
      | inr o ↦ elim o [ inl lt ↦ inl (omega arith) | inr gt ↦ inr (omega arith) ]
    ])
  ])
]

mixed_apart : (words p q : ℕ) → p < 6 + words → Apart false (number_home p) true (pair_home words q)
mixed_apart words p q few = elim (cases_lt p 6) [
  | inl a ↦ subst (λ g. Apart false g true (pair_home words q)) (sym (number_register p a)) (elim (cases_lt q 2) [
    | inl b ↦ subst (λ h. Apart false (Reg (register_at p)) true h) (sym (pair_register words q b)) tt
    | inr b ↦ subst (λ h. Apart false (Reg (register_at p)) true h) (sym (pair_slot words q b)) tt
  ])
  | inr a ↦ subst (λ g. Apart false g true (pair_home words q)) (sym (number_slot p a)) (elim (cases_lt q 2) [
    | inl b ↦ subst (λ h. Apart false (Slot (p - 6)) true h) (sym (pair_register words q b)) tt
    | inr b ↦ subst (λ h. Apart false (Slot (p - 6)) true h) (sym (pair_slot words q b)) (inl (omega arith))
  ])
]

mixed_apart_too : (words p q : ℕ) → p < 6 + words → Apart true (pair_home words q) false (number_home p)
mixed_apart_too words p q few = elim (cases_lt p 6) [
  | inl a ↦ subst (λ g. Apart true (pair_home words q) false g) (sym (number_register p a)) (elim (cases_lt q 2) [
    | inl b ↦ subst (λ h. Apart true h false (Reg (register_at p))) (sym (pair_register words q b)) tt
    | inr b ↦ subst (λ h. Apart true h false (Reg (register_at p))) (sym (pair_slot words q b)) tt
  ])
  | inr a ↦ subst (λ g. Apart true (pair_home words q) false g) (sym (number_slot p a)) (elim (cases_lt q 2) [
    | inl b ↦ subst (λ h. Apart true h false (Slot (p - 6))) (sym (pair_register words q b)) tt
    | inr b ↦ subst (λ h. Apart true h false (Slot (p - 6))) (sym (pair_slot words q b)) (inr (omega arith))
  ])
]

number_home_fits : (units p : ℕ) → p < 6 + units → IsNumberHome units (number_home p)
number_home_fits units p few = elim (cases_lt p 6) [
  | inl a ↦ subst (IsNumberHome units) (sym (number_register p a)) (free_register p a)
  | inr a ↦ subst (IsNumberHome units) (sym (number_slot p a)) (omega arith)
]

free_pair : (p : ℕ) → p < 2 → IsHomeBnd (p + 2)
free_pair zero lt = record { bnd0 = refl; bnd1 = refl }
free_pair (suc zero) lt = record { bnd0 = refl; bnd1 = refl }
free_pair (suc (suc n)) lt = absurd (omega arith)

pair_home_fits : (words pairs p : ℕ) → p < 2 + pairs → IsPairHome (words + 2 * pairs) (pair_home words p)
pair_home_fits words pairs p few = elim (cases_lt p 2) [
  | inl a ↦ subst (IsPairHome (words + 2 * pairs)) (sym (pair_register words p a)) (free_pair p a)
  | inr a ↦ subst (IsPairHome (words + 2 * pairs)) (sym (pair_slot words p a)) (omega arith)
]

slot_of_number : (p : ℕ) → IsSlot (number_home p) → 6 ≤ p
slot_of_number p slot = elim (cases_lt p 6) [ inl a ↦ absurd (subst IsSlot (number_register p a) slot) | inr a ↦ a ]

slot_of_pair : (words p : ℕ) → IsSlot (pair_home words p) → 2 ≤ p
slot_of_pair words p slot = elim (cases_lt p 2) [ inl a ↦ absurd (subst IsSlot (pair_register words p a) slot) | inr a ↦ a ]

-- ---- homes of values

module _ (number bounds : ℕ → ℕ) (words : ℕ) where
  home_by : Bool → ℕ → Home
  home_by b v = if b then pair_home words (bounds v) else number_home (number v)

  homes_at : (bs : List Bool) (s v : ℕ) → v < length bs → home_in (homes_by number bounds words s bs) v ≡ home_by (slice_index_or bs v false) (s + v)
  unfolding home_by
  homes_at [] s v lt = absurd (omega arith)
  homes_at (b ∷ bs) s zero lt = let e : s ≡ s + 0 = omega arith in ap (λ w. if b then pair_home words (bounds w) else number_home (number w)) e
  homes_at (b ∷ bs) s (suc v) lt = let e : (s + 1) + v ≡ s + suc v = omega arith in
      homes_at bs (s + 1) v (omega arith) ∙ ap (λ w. if slice_index_or bs v false then pair_home words (bounds w) else number_home (number w)) e

  homes_past : (bs : List Bool) (s v : ℕ) → length bs ≤ v → (home_in (homes_by number bounds words s bs) v ≡ Reg 7) × (slice_index_or bs v false ≡ false)
  homes_past [] s v le = (refl, refl)
  homes_past (b ∷ bs) s zero le = absurd (omega arith)
  homes_past (b ∷ bs) s (suc v) le = homes_past bs (s + 1) v (omega arith)

  homes_length : (bs : List Bool) (s : ℕ) → length (homes_by number bounds words s bs) ≡ length bs
  homes_length [] s = refl
  homes_length (b ∷ bs) s = ap suc (homes_length bs (s + 1))

module _ (f : FatFun) (l : Lives) (are : AreSpans f l) where
  ends_of : (v : ℕ) → 1 ≤ length f.steps → (range_in l.ranges v).past ≤ length f.steps
  ends_of v some = are.ends some v

  holds_of : (v i : ℕ) → InSpan f v i → Holds (lived l v) i
  holds_of v i h = h (lived l v) (are.spans v)

  in_span_of : (v i : ℕ) → Holds (lived l v) i → InSpan f v i
  in_span_of v i h s spans = are.least v s spans i h

  quiet_means : (v : ℕ) → is_quiet f l v ≡ true → IsQuiet f v
  quiet_means v q i step stands h = let held = holds_of v i h in quiet_is_quiet f.steps (range_in l.ranges v) (ends_of v) q i step stands held.0 held.1

  noisy_means : (v : ℕ) → 0 < past_of l v → is_quiet f l v ≡ false → HoldsCall f v
  noisy_means v more q = let le = are.some v more in
      let c = noisy_has_call f.steps (range_in l.ranges v) (ends_of v) (omega arith) q in
      record { place = c.place; step = c.step; stands = c.stands; in_span = in_span_of v c.place (c.low, c.high); call = c.call }

  many_means : (sort : Bool) (most v : ℕ) → 0 < past_of l v → Crowded f (is_quiet f l) sort most (from_of l v) → InManyQuiet f sort most v
  many_means sort most v more c = record {
    place = from_of l v;
    in_span = in_span_of v (from_of l v) (omega arith, are.some v more);
    values = c.values;
    rising = c.rising;
    quiet = λ k d lt. (let h = c.quiet_here k d lt in (h.0, h.1, quiet_means (get_or c.values k d) h.2));
    many = c.many;
  }

  module _ (sort : Bool) (registers : ℕ) (some : 1 ≤ registers) (wishes : List ℕ) (place : ℕ → ℕ) (placed : ArePlaced f l sort registers wishes place) where
    lives_at : (v : ℕ) → registers ≤ place v → 0 < past_of l v
    lives_at v slot = elim (cases_lt 0 (past_of l v)) [ inl more ↦ more | inr none ↦ let e = placed.idle v (omega arith) in absurd (omega arith) ]

    slots_mean : (v : ℕ) → is_bounds_in f v ≡ sort → registers ≤ place v → HoldsCall f v ⊎ InManyQuiet f sort registers v
    slots_mean v mine slot = let more = lives_at v slot in elim (cases_Bool (is_quiet f l v)) [
      | inl q ↦ inr (many_means sort registers v more (placed.crowded v more mine slot q))
      | inr q ↦ inl (noisy_means v more q)
    ]

    calls_have_slots : (v i : ℕ) (step : FatStep) → is_bounds_in f v ≡ sort → StandsAt f.steps i step → is_call step ≡ true → InSpan f v i → registers ≤ place v
    calls_have_slots v i step mine stands call h = let held = (holds_of v i h).1 in elim (cases_Bool (is_quiet f l v)) [
      | inl q ↦ absurd (true≢false (sym call ∙ quiet_means v q i step stands h))
      | inr q ↦ placed.slots v (omega arith) mine q
    ]

    places_differ : (u v i : ℕ) → u ≢ v → is_bounds_in f u ≡ sort → is_bounds_in f v ≡ sort → InSpan f u i → InSpan f v i → place u ≢ place v
    places_differ u v i ne mine also a b e = let h = holds_of u i a in let g = holds_of v i b in let h0 = h.0 in let h1 = h.1 in let g0 = g.0 in let g1 = g.1 in
        elim (placed.apart u v ne (omega arith) (omega arith) mine also e) [ inl le ↦ omega arith | inr le ↦ omega arith ]

  module _ (wishes : Wishes) (number bounds : ℕ → ℕ) (numbers : ArePlaced f l false 6 wishes.numbers number) (pairs : ArePlaced f l true 2 wishes.bounds bounds) (words taken : ℕ) (few_words : words ≤ 152) (few_pairs : taken ≤ 152)
      (all_numbers : (v : ℕ) → number v < 6 + words) (all_pairs : (v : ℕ) → bounds v < 2 + taken) where
    abbrev homes : List Home
    homes = homes_by number bounds words 0 f.bounds

    home_is : (v : ℕ) → home_in homes v ≡ home_by number bounds words (is_bounds_in f v) v
    unfolding home_by
    home_is v = elim (cases_lt v (length f.bounds)) [
      | inl lt ↦ homes_at number bounds words f.bounds 0 v lt ∙ (let e : 0 + v ≡ v = omega arith in ap (λ w. if is_bounds_in f v then pair_home words (bounds w) else number_home (number w)) e)
      | inr le ↦ let h = homes_past number bounds words f.bounds 0 v le in
          let none : past_of l v ≡ 0 = elim (cases_lt 0 (past_of l v)) [ inl more ↦ let w = are.within v more in absurd (omega arith) | inr z ↦ omega arith ] in
          h.0 ∙ (ap number_home (sym (numbers.idle v none)) ∙ ap (λ b. if b then pair_home words (bounds v) else number_home (number v)) (sym h.1))
    ]

    number_is : (v : ℕ) → is_bounds_in f v ≡ false → home_in homes v ≡ number_home (number v)
    unfolding home_by
    number_is v e = home_is v ∙ ap (λ b. if b then pair_home words (bounds v) else number_home (number v)) e

    pair_is : (v : ℕ) → is_bounds_in f v ≡ true → home_in homes v ≡ pair_home words (bounds v)
    unfolding home_by
    pair_is v e = home_is v ∙ ap (λ b. if b then pair_home words (bounds v) else number_home (number v)) e

    apart_homes : (u v i : ℕ) → u ≢ v → InSpan f u i → InSpan f v i → (a b : Bool) → is_bounds_in f u ≡ a → is_bounds_in f v ≡ b → Apart a (home_in homes u) b (home_in homes v)
    apart_homes u v i ne g h false false e d = subst (λ x. Apart false x false (home_in homes v)) (sym (number_is u e)) (subst (λ y. Apart false (number_home (number u)) false y) (sym (number_is v d))
        (numbers_apart (number u) (number v) (places_differ false 6 (omega arith) wishes.numbers number numbers u v i ne e d g h)))
    apart_homes u v i ne g h true true e d = subst (λ x. Apart true x true (home_in homes v)) (sym (pair_is u e)) (subst (λ y. Apart true (pair_home words (bounds u)) true y) (sym (pair_is v d))
        (pairs_apart words (bounds u) (bounds v) (places_differ true 2 (omega arith) wishes.bounds bounds pairs u v i ne e d g h)))
    apart_homes u v i ne g h false true e d = subst (λ x. Apart false x true (home_in homes v)) (sym (number_is u e)) (subst (λ y. Apart false (number_home (number u)) true y) (sym (pair_is v d))
        (mixed_apart words (number u) (bounds v) (all_numbers u)))
    apart_homes u v i ne g h true false e d = subst (λ x. Apart true x false (home_in homes v)) (sym (pair_is u e)) (subst (λ y. Apart true (pair_home words (bounds u)) false y) (sym (number_is v d))
        (mixed_apart_too words (number v) (bounds u) (all_numbers v)))

    call_slot : (v i : ℕ) (step : FatStep) → StandsAt f.steps i step → is_call step ≡ true → InSpan f v i → (b : Bool) → is_bounds_in f v ≡ b → IsSlot (home_in homes v)
    call_slot v i step stands call h false e = let le = calls_have_slots false 6 (omega arith) wishes.numbers number numbers v i step e stands call h in
        subst IsSlot (sym (number_is v e ∙ number_slot (number v) le)) tt
    call_slot v i step stands call h true e = let le = calls_have_slots true 2 (omega arith) wishes.bounds bounds pairs v i step e stands call h in
        subst IsSlot (sym (pair_is v e ∙ pair_slot words (bounds v) le)) tt

    home_named : (v : ℕ) (b : Bool) → is_bounds_in f v ≡ b → IsNamed (home_in homes v)
    home_named v false e = subst IsNamed (sym (number_is v e)) (number_named words (number v) few_words (all_numbers v))
    home_named v true e = subst IsNamed (sym (pair_is v e)) (pair_named words taken (bounds v) few_words few_pairs (all_pairs v))

    pub assigned : AreHomes f record { homes = homes; words = words + 2 * taken }
    assigned = record {
      numbered = homes_length number bounds words f.bounds 0;
      few = omega arith;
      span = lived l;
      spans = are.spans;
      least = in_span_of;
      ends = are.ends;
      apart = λ u v i ne g h. apart_homes u v i ne g h (is_bounds_in f u) (is_bounds_in f v) refl refl;
      number_fits = λ v e. subst (IsNumberHome (words + 2 * taken)) (sym (number_is v e)) (number_home_fits (words + 2 * taken) (number v) (let a = all_numbers v in omega arith));
      pair_fits = λ v e. subst (IsPairHome (words + 2 * taken)) (sym (pair_is v e)) (pair_home_fits words taken (bounds v) (all_pairs v));
      calls = λ v i step stands call h. call_slot v i step stands call h (is_bounds_in f v) refl;
      number_slots = λ v e slot. slots_mean false 6 (omega arith) wishes.numbers number numbers v e (slot_of_number (number v) (subst IsSlot (number_is v e) slot));
      pair_slots = λ v e slot. slots_mean true 2 (omega arith) wishes.bounds bounds pairs v e (slot_of_pair words (bounds v) (subst IsSlot (pair_is v e) slot));
      named = λ v. home_named v (is_bounds_in f v) refl;
    }

    module _ (may : AreWishes f wishes) where
      lives_first : (v : ℕ) → v < f.private + f.arrived → 0 < past_of l v
      lives_first v lt = let h = ((are.spans v).first lt).1 in omega arith

      number_granted : (v place : ℕ) → WishesFor wishes.numbers v place → (home_in homes v ≡ Reg (register_at place)) ⊎ IsSlot (home_in homes v)
      number_granted v place w = let is : IsWishing wishes.numbers v = record { place = place; wishes = w } in let kind = may.numbers.kind v is in
          elim (numbers.granted v (lives_first v (may.numbers.first v is)) kind is) [
            | inl g ↦ inl (number_is v kind ∙ (number_register (number v) (let a = g.0 in let b = may.numbers.few in omega arith)
                ∙ ap (λ c. Reg (register_at c)) (may.numbers.once v (number v) place g w)))
            | inr le ↦ inr (subst IsSlot (sym (number_is v kind ∙ number_slot (number v) le)) tt)
          ]

      pair_granted : (v place : ℕ) → WishesFor wishes.bounds v place → (home_in homes v ≡ Bnd (place + 2)) ⊎ IsSlot (home_in homes v)
      pair_granted v place w = let is : IsWishing wishes.bounds v = record { place = place; wishes = w } in let kind = may.bounds.kind v is in
          elim (pairs.granted v (lives_first v (may.bounds.first v is)) kind is) [
            | inl g ↦ inl (pair_is v kind ∙ (pair_register words (bounds v) (let a = g.0 in let b = may.bounds.few in omega arith)
                ∙ ap (λ c. Bnd (c + 2)) (may.bounds.once v (bounds v) place g w)))
            | inr le ↦ inr (subst IsSlot (sym (pair_is v kind ∙ pair_slot words (bounds v) le)) tt)
          ]

      pub granted : AreGranted wishes record { homes = homes; words = words + 2 * taken }
      granted = record { numbers = number_granted; bounds = pair_granted }

-- the same of lists of places
module _ (f : FatFun) (l : Lives) (are : AreSpans f l) (w : Wishes) (may : AreWishes f w) (wished_ns wished_bs : List ℕ) (e5 : wished_ns ≡ w.numbers) (e6 : wished_bs ≡ w.bounds)
    (ns bs : List ℕ) (placed : ArePlaced f l false 6 wished_ns (λ v. get_or ns v 0)) (also : ArePlaced f l true 2 wished_bs (λ v. get_or bs v 0))
    (words taken : ℕ) (few : words ≤ 152) (few_too : taken ≤ 152) (some_ns some_bs other_ns other_bs : List ℕ) (e1 : some_ns ≡ ns) (e2 : some_bs ≡ bs) (e3 : other_ns ≡ ns) (e4 : other_bs ≡ bs)
    (all : (v : ℕ) → get_or some_ns v 0 < 6 + words) (all_too : (v : ℕ) → get_or some_bs v 0 < 2 + taken)
    (given : List Home) (is : given ≡ homes_by (λ v. get_or other_ns v 0) (λ v. get_or other_bs v 0) words 0 f.bounds) where
  numbers_placed : ArePlaced f l false 6 w.numbers (λ v. get_or ns v 0)
  numbers_placed = subst (λ xs. ArePlaced f l false 6 xs (λ v. get_or ns v 0)) e5 placed

  pairs_placed : ArePlaced f l true 2 w.bounds (λ v. get_or bs v 0)
  pairs_placed = subst (λ xs. ArePlaced f l true 2 xs (λ v. get_or bs v 0)) e6 also

  homes_are : given ≡ homes_by (λ v. get_or ns v 0) (λ v. get_or bs v 0) words 0 f.bounds
  homes_are = is ∙ (ap (λ xs. homes_by (λ v. get_or xs v 0) (λ v. get_or other_bs v 0) words 0 f.bounds) e3 ∙ ap (λ xs. homes_by (λ v. get_or ns v 0) (λ v. get_or xs v 0) words 0 f.bounds) e4)

  all_numbers_within : (v : ℕ) → get_or ns v 0 < 6 + words
  all_numbers_within = subst (λ xs. (v : ℕ) → get_or xs v 0 < 6 + words) e1 all

  all_pairs_within : (v : ℕ) → get_or bs v 0 < 2 + taken
  all_pairs_within = subst (λ xs. (v : ℕ) → get_or xs v 0 < 2 + taken) e2 all_too

  pub assigned_by : AreHomes f record { homes = given; words = words + 2 * taken }
  assigned_by = subst (λ hs. AreHomes f record { homes = hs; words = words + 2 * taken }) (sym homes_are)
      (assigned f l are w (λ v. get_or ns v 0) (λ v. get_or bs v 0) numbers_placed pairs_placed words taken few few_too all_numbers_within all_pairs_within)

  pub granted_by : AreGranted w record { homes = given; words = words + 2 * taken }
  granted_by = subst (λ hs. AreGranted w record { homes = hs; words = words + 2 * taken }) (sym homes_are)
      (granted f l are w (λ v. get_or ns v 0) (λ v. get_or bs v 0) numbers_placed pairs_placed words taken few few_too all_numbers_within all_pairs_within may)
