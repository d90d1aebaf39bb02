-- A field that is read is the field that was written, and what was written is read again.
use Rattle.std.proofs.Common.{◌≡◌, ℕ, zero, suc, ◌+◌, ◌^◌, ◌<◌, ◌≤◌, Bool, true, false, cond, ltb, List, [], ◌∷◌, ◌++◌, length, get_or, take, drop, Result, Ok, Err, refl, sym, ap, subst, ◌∙◌, append_assoc, arith, inl, inr}
use Rattle.std.specs.List.{flat_map}
use Rattle.std.specs.Prelude.{nat_lt, nat_le, ◌&&◌}
use Rattle.std.specs.Int.{Width, w8, w32, w64, byte_len, from_le_bytes, to_le_bytes}
use Rattle.std.proofs.lemmas.Bool.{cases_lt, ltb-false, le-ltb}
use Rattle.std.proofs.lemmas.Bool.Decides.{nat_tests}
use Rattle.std.proofs.lemmas.List.{append-nil, take_at, drop_at, take-append-drop, length-append, length-take, get_or-drop, get_or-take, get_or_past}
use Rattle.std.proofs.lemmas.List.Concat.{flat_map-cons}
use Rattle.std.proofs.lemmas.Nat.{le_bytes_4, le_bytes_8, from_le_bytes-to_le_bytes_4, from_le_bytes-to_le_bytes_8}
use Rattle.obj_file.specs.InTurn.{InTurn, le, sized, counted}
use Rattle.obj_file.specs.Fields.{and_then, ◌>>=◌, number_at, bytes_at, checked, number_in, sized_at, many_at, counted_at, ended, offset, whole}

abbrev pub IsBytes : List ℕ → Type 0
IsBytes bytes = (i : ℕ) → get_or bytes i 0 < 256

pub IsBytes-drop : (n : ℕ) (bytes : List ℕ) → IsBytes bytes → IsBytes (drop n bytes)
IsBytes-drop n bytes h i = rw get_or-drop (h (n + i))

pub IsBytes-take : (n : ℕ) (bytes : List ℕ) → IsBytes bytes → IsBytes (take n bytes)
IsBytes-take n bytes h i =
    elim (cases_lt i n) [
      | inl lt ↦ rw (get_or-take n bytes i 0 lt) (h i)
      | inr le ↦ rw (get_or_past (take n bytes) i 0 (omega (arith, length-take n bytes))) (omega arith)
    ]

-- the value of a step that did not fail
pub and_then_ok : {A B : Type 0} (r : Result A ℕ) (f : A → Result B ℕ) (y : B) → and_then r f ≡ Ok y → (x : A) × (r ≡ Ok x) × (f x ≡ Ok y)
unfolding and_then
and_then_ok (Ok x) f y e = (x, refl, e)
and_then_ok (Err d) f y e = absurd cc

pub and_then-ok : {A B : Type 0} (r : Result A ℕ) (f : A → Result B ℕ) (x : A) → r ≡ Ok x → and_then r f ≡ f x
unfolding and_then
and_then-ok r f x e = rw e refl

-- a test that did not fail
guard_ok : {A : Type 0} (b : Bool) (d : ℕ) (x y : A) → cond b (Err d) (Ok x) ≡ Ok y → (b ≡ false) × (x ≡ y)
guard_ok true d x y e = absurd cc
guard_ok false d x y e = (refl, cc)

guard_true : {A : Type 0} (b : Bool) (d : ℕ) (x y : A) → cond b (Ok x) (Err d) ≡ Ok y → (b ≡ true) × (x ≡ y)
guard_true true d x y e = (refl, cc)
guard_true false d x y e = absurd cc

abbrev done : {A : Type 0} → A → Result A ℕ
done x = Ok x

pub ok_is : {A : Type 0} (x y : A) → done x ≡ done y → x ≡ y
ok_is x y e = cc

-- what a reader took from the front
pub record Takes (bytes text rest : List ℕ) : Type 0 where
  pub parts : bytes ≡ text ++ rest
  pub rest_fits : IsBytes rest

pub Takes-then : (a x b y c : List ℕ) → Takes a x b → Takes b y c → Takes a (x ++ y) c
Takes-then a x b y c p q = record { parts = p.parts ∙ ap (λ (t : List ℕ). x ++ t) q.parts ∙ sym (append_assoc x y c); rest_fits = q.rest_fits }

-- a reader of a field reads exactly what its spelling writes, of the values that fit
pub record Agrees {A : Type 0} (field : List ℕ → Result (A × List ℕ) ℕ) (text : A → List ℕ) (Fits : A → Type 0) : Type 0 where
  pub takes : (bytes : List ℕ) (x : A × List ℕ) → IsBytes bytes → field bytes ≡ Ok x → Takes bytes (text x.0) x.1 × Fits x.0
  pub again : (x : A) (rest : List ℕ) → Fits x → field (text x ++ rest) ≡ Ok (x, rest)

-- ---- numbers

pub record IsWide (w : Width) (limit : ℕ) : Type 0 where
  pub len : (n : ℕ) → length (to_le_bytes w n) ≡ byte_len w
  pub back : (bytes : List ℕ) → length bytes ≡ byte_len w → IsBytes bytes → to_le_bytes w (from_le_bytes w bytes) ≡ bytes
  pub again : (n : ℕ) → n < limit → from_le_bytes w (to_le_bytes w n) ≡ n
  pub below : (bytes : List ℕ) → IsBytes bytes → from_le_bytes w bytes < limit

back_8 : (bytes : List ℕ) → length bytes ≡ 1 → IsBytes bytes → to_le_bytes w8 (from_le_bytes w8 bytes) ≡ bytes
back_8 [] len fits = absurd (omega (arith, len))
back_8 (b ∷ []) len fits = ap (λ n. n ∷ []) (omega (arith, fits 0))
back_8 (b ∷ c ∷ bytes) len fits = absurd (omega (arith, len))

pub wide8 : IsWide w8 256
wide8 = record {
  len = λ n. refl;
  back = back_8;
  again = λ n lt. omega (arith, lt);
  below = λ bytes fits. omega (arith, fits 0);
}

pub wide32 : IsWide w32 (2 ^ 32)
wide32 = record {
  len = λ n. refl;
  back = λ bytes len fits. le_bytes_4 bytes _ len fits refl;
  again = λ n lt. from_le_bytes-to_le_bytes_4 n lt;
  below = λ bytes fits. omega (arith, fits 0, fits 1, fits 2, fits 3);
}

pub wide64 : IsWide w64 (2 ^ 64)
wide64 = record {
  len = λ n. refl;
  back = λ bytes len fits. le_bytes_8 bytes _ len fits refl;
  again = λ n lt. from_le_bytes-to_le_bytes_8 n lt;
  below = λ bytes fits. omega (arith, fits 0, fits 1, fits 2, fits 3, fits 4, fits 5, fits 6, fits 7);
}

number_takes : (w : Width) (limit : ℕ) (wide : IsWide w limit) (bytes : List ℕ) (x : ℕ × List ℕ) → IsBytes bytes → number_at w bytes ≡ Ok x → Takes bytes (le w x.0) x.1 × (x.0 < limit)
unfolding number_at le
number_takes w limit wide bytes x fits e =
    let g = guard_ok (ltb (length bytes) (byte_len w)) (length bytes) (from_le_bytes w (take (byte_len w) bytes), drop (byte_len w) bytes) x e in
    let long : byte_len w ≤ length bytes = ltb-false _ _ g.0 in
    let n-is : from_le_bytes w (take (byte_len w) bytes) ≡ x.0 = ap (λ (p : ℕ × List ℕ). p.0) g.1 in
    let rest-is : drop (byte_len w) bytes ≡ x.1 = ap (λ (p : ℕ × List ℕ). p.1) g.1 in
    let front : to_le_bytes w x.0 ≡ take (byte_len w) bytes = rw (← n-is) (wide.back (take (byte_len w) bytes) (omega (arith, length-take (byte_len w) bytes)) (IsBytes-take (byte_len w) bytes fits)) in
    (record { parts = rw (front, ← rest-is) (sym (take-append-drop (byte_len w) bytes)); rest_fits = rw (← rest-is) (IsBytes-drop (byte_len w) bytes fits) }, rw (← n-is) (wide.below (take (byte_len w) bytes) (IsBytes-take (byte_len w) bytes fits)))

number_again : (w : Width) (limit : ℕ) (wide : IsWide w limit) (n : ℕ) (rest : List ℕ) → n < limit → number_at w (le w n ++ rest) ≡ Ok (n, rest)
unfolding number_at le
number_again w limit wide n rest lt =
    let len = wide.len n in
    let long : ltb (length (to_le_bytes w n ++ rest)) (byte_len w) ≡ false = le-ltb _ _ (omega (arith, length-append (to_le_bytes w n) rest)) in
    rw (long, take_at (to_le_bytes w n) rest (byte_len w) len, drop_at (to_le_bytes w n) rest (byte_len w) len, wide.again n lt) refl

pub number_agrees : (w : Width) (limit : ℕ) (wide : IsWide w limit) → Agrees (number_at w) (le w) (λ n. n < limit)
number_agrees w limit wide = record { takes = number_takes w limit wide; again = number_again w limit wide }

-- ---- tests

checked_takes : {A : Type 0} (test : A → Bool) (field : List ℕ → Result (A × List ℕ) ℕ) (text : A → List ℕ) (Fits : A → Type 0) → Agrees field text Fits
    → (bytes : List ℕ) (x : A × List ℕ) → IsBytes bytes → checked test field bytes ≡ Ok x → Takes bytes (text x.0) x.1 × (Fits x.0 × (test x.0 ≡ true))
unfolding checked
checked_takes {A} test field text Fits agrees bytes x fits e =
    let a = and_then_ok (field bytes) (λ y. cond (test y.0) (Ok y) (Err (length bytes))) x e in
    let g = guard_true (test a.0.0) (length bytes) a.0 x a.2 in
    let t = agrees.takes bytes a.0 fits a.1 in
    subst (λ (y : A × List ℕ). Takes bytes (text y.0) y.1 × (Fits y.0 × (test y.0 ≡ true))) g.1 (t.0, (t.1, g.0))

checked_again : {A : Type 0} (test : A → Bool) (field : List ℕ → Result (A × List ℕ) ℕ) (text : A → List ℕ) (Fits : A → Type 0) → Agrees field text Fits
    → (x : A) (rest : List ℕ) → Fits x × (test x ≡ true) → checked test field (text x ++ rest) ≡ Ok (x, rest)
unfolding checked
checked_again test field text Fits agrees x rest fits =
    and_then-ok (field (text x ++ rest)) (λ y. cond (test y.0) (Ok y) (Err (length (text x ++ rest)))) (x, rest) (agrees.again x rest fits.0) ∙ rw (fits.1) refl

pub checked_agrees : {A : Type 0} (test : A → Bool) (field : List ℕ → Result (A × List ℕ) ℕ) (text : A → List ℕ) (Fits : A → Type 0) → Agrees field text Fits → Agrees (checked test field) text (λ x. Fits x × (test x ≡ true))
checked_agrees test field text Fits agrees = record { takes = checked_takes test field text Fits agrees; again = checked_again test field text Fits agrees }

-- the same field, where the values that fit are told in other words
pub told : {A : Type 0} (field : List ℕ → Result (A × List ℕ) ℕ) (text : A → List ℕ) (Fits Goes : A → Type 0) → Agrees field text Fits → ((x : A) → Fits x → Goes x) → ((x : A) → Goes x → Fits x) → Agrees field text Goes
told field text Fits Goes agrees there back = record {
  takes = λ bytes x fits e. let t = agrees.takes bytes x fits e in (t.0, there x.0 t.1);
  again = λ x rest goes. agrees.again x rest (back x goes);
}

pub record InRange (low end n : ℕ) : Type 0 where
  pub from : low ≤ n
  pub below : n < end

in_range : (low end n : ℕ) → (nat_le low n && nat_lt n end) ≡ true → InRange low end n
in_range low end n h = record { from = grind (arith, nat_tests); below = grind (arith, nat_tests) }

range_test : (low end n : ℕ) → InRange low end n → (nat_le low n && nat_lt n end) ≡ true
range_test low end n h = let a = h.from in let b = h.below in grind (arith, nat_tests)

pub number_in_agrees : (w : Width) (limit : ℕ) (wide : IsWide w limit) (low end : ℕ) → end ≤ limit → Agrees (number_in w low end) (le w) (InRange low end)
unfolding number_in
number_in_agrees w limit wide low end le_limit =
    told (number_in w low end) (le w) (λ n. (n < limit) × ((nat_le low n && nat_lt n end) ≡ true)) (InRange low end) (checked_agrees (λ n. nat_le low n && nat_lt n end) (number_at w) (le w) (λ n. n < limit) (number_agrees w limit wide))
    (λ n h. in_range low end n h.1) (λ n h. (let b = h.below in omega arith, range_test low end n h))

-- ---- bytes

bytes_takes : (n : ℕ) (bytes : List ℕ) (x : List ℕ × List ℕ) → IsBytes bytes → bytes_at n bytes ≡ Ok x → Takes bytes x.0 x.1 × (length x.0 ≡ n)
unfolding bytes_at
bytes_takes n bytes x fits e =
    let g = guard_ok (ltb (length bytes) n) (length bytes) (take n bytes, drop n bytes) x e in
    let long : n ≤ length bytes = ltb-false _ _ g.0 in
    let t : Takes bytes (take n bytes) (drop n bytes) = record { parts = sym (take-append-drop n bytes); rest_fits = IsBytes-drop n bytes fits } in
    let len : length (take n bytes) ≡ n = omega (arith, length-take n bytes) in
    subst (λ (y : List ℕ × List ℕ). Takes bytes y.0 y.1 × (length y.0 ≡ n)) g.1 (t, len)

bytes_again : (n : ℕ) (text rest : List ℕ) → length text ≡ n → bytes_at n (text ++ rest) ≡ Ok (text, rest)
unfolding bytes_at
bytes_again n text rest len =
    let long : ltb (length (text ++ rest)) n ≡ false = le-ltb _ _ (omega (arith, length-append text rest)) in
    rw (long, take_at text rest n len, drop_at text rest n len) refl

pub bytes_agrees : (n : ℕ) → Agrees (bytes_at n) (λ text. text) (λ text. length text ≡ n)
bytes_agrees n = record { takes = bytes_takes n; again = bytes_again n }

pub record IsSized (low end : ℕ) (test : List ℕ → Bool) (text : List ℕ) : Type 0 where
  pub len : InRange low end (length text)
  pub holds : test text ≡ true

sized_takes : (w : Width) (limit : ℕ) (wide : IsWide w limit) (low end : ℕ) (test : List ℕ → Bool) → end ≤ limit
    → (bytes : List ℕ) (x : List ℕ × List ℕ) → IsBytes bytes → sized_at w low end test bytes ≡ Ok x → Takes bytes (sized w x.0) x.1 × IsSized low end test x.0
unfolding sized_at sized
sized_takes w limit wide low end test le_limit bytes x fits e =
    let a = and_then_ok (number_in w low end bytes) (λ n. checked test (bytes_at n.0) n.1) x e in
    let t0 = (number_in_agrees w limit wide low end le_limit).takes bytes a.0 fits a.1 in
    let t1 = (checked_agrees test (bytes_at a.0.0) (λ text. text) (λ text. length text ≡ a.0.0) (bytes_agrees a.0.0)).takes a.0.1 x t0.0.rest_fits a.2 in
    let both = Takes-then bytes (le w a.0.0) a.0.1 x.0 x.1 t0.0 t1.0 in
    (rw (t1.1.0) both, record { len = rw (t1.1.0) t0.1; holds = t1.1.1 })

sized_again : (w : Width) (limit : ℕ) (wide : IsWide w limit) (low end : ℕ) (test : List ℕ → Bool) → end ≤ limit → (text rest : List ℕ) → IsSized low end test text → sized_at w low end test (sized w text ++ rest) ≡ Ok (text, rest)
unfolding sized_at sized
sized_again w limit wide low end test le_limit text rest fits =
    let first = (number_in_agrees w limit wide low end le_limit).again (length text) (text ++ rest) fits.len in
    let second = (checked_agrees test (bytes_at (length text)) (λ t. t) (λ t. length t ≡ length text) (bytes_agrees (length text))).again text rest (refl, fits.holds) in
    rw (append_assoc (le w (length text)) text rest) (and_then-ok (number_in w low end (le w (length text) ++ (text ++ rest))) (λ n. checked test (bytes_at n.0) n.1) (length text, text ++ rest) first ∙ second)

pub sized_agrees : (w : Width) (limit : ℕ) (wide : IsWide w limit) (low end : ℕ) (test : List ℕ → Bool) → end ≤ limit → Agrees (sized_at w low end test) (sized w) (IsSized low end test)
sized_agrees w limit wide low end test le_limit = record { takes = sized_takes w limit wide low end test le_limit; again = sized_again w limit wide low end test le_limit }

-- ---- lists

many_takes : {S A : Type 0} (field : S → List ℕ → Result (A × List ℕ) ℕ) (next : S → A → S) (text : A → List ℕ) (Fits : S → A → Type 0) → ((s : S) → Agrees (field s) text (Fits s))
    → (n : ℕ) (s : S) (bytes : List ℕ) (x : List A × List ℕ) → IsBytes bytes → many_at field next n s bytes ≡ Ok x → Takes bytes (flat_map text x.0) x.1 × ((length x.0 ≡ n) × InTurn Fits next s x.0)
unfolding many_at
many_takes {S} {A} field next text Fits agrees zero s bytes x fits e =
    subst (λ (y : List A × List ℕ). Takes bytes (flat_map text y.0) y.1 × ((length y.0 ≡ 0) × InTurn Fits next s y.0)) (ok_is ([], bytes) x e) (record { parts = refl; rest_fits = fits }, (refl, tt))
many_takes {S} {A} field next text Fits agrees (suc n) s bytes x fits e =
    let a = and_then_ok (field s bytes) (λ first. many_at field next n (next s first.0) first.1 >>= λ others. Ok (first.0 ∷ others.0, others.1)) x e in
    let b = and_then_ok (many_at field next n (next s a.0.0) a.0.1) (λ others. Ok (a.0.0 ∷ others.0, others.1)) x a.2 in
    let first = (agrees s).takes bytes a.0 fits a.1 in
    let second = many_takes field next text Fits agrees n (next s a.0.0) a.0.1 b.0 first.0.rest_fits b.1 in
    let both = Takes-then bytes (text a.0.0) a.0.1 (flat_map text b.0.0) b.0.1 first.0 second.0 in
    let made : List A × List ℕ = (a.0.0 ∷ b.0.0, b.0.1) in
    subst (λ (y : List A × List ℕ). Takes bytes (flat_map text y.0) y.1 × ((length y.0 ≡ suc n) × InTurn Fits next s y.0)) (ok_is made x b.2) (rw flat_map-cons both, (ap suc second.1.0, (first.1, second.1.1)))

many_again : {S A : Type 0} (field : S → List ℕ → Result (A × List ℕ) ℕ) (next : S → A → S) (text : A → List ℕ) (Fits : S → A → Type 0) → ((s : S) → Agrees (field s) text (Fits s))
    → (s : S) (xs : List A) (rest : List ℕ) → InTurn Fits next s xs → many_at field next (length xs) s (flat_map text xs ++ rest) ≡ Ok (xs, rest)
unfolding many_at
many_again field next text Fits agrees s [] rest fits = refl
many_again field next text Fits agrees s (x ∷ xs) rest fits =
    let regrouped : flat_map text (x ∷ xs) ++ rest ≡ text x ++ (flat_map text xs ++ rest) = ap (λ (t : List ℕ). t ++ rest) (flat_map-cons text x xs) ∙ append_assoc (text x) (flat_map text xs) rest in
    let first = (agrees s).again x (flat_map text xs ++ rest) fits.0 in
    let second = many_again field next text Fits agrees (next s x) xs rest fits.1 in
    ap (many_at field next (suc (length xs)) s) regrouped
    ∙ and_then-ok (field s (text x ++ (flat_map text xs ++ rest))) (λ one. many_at field next (length xs) (next s one.0) one.1 >>= λ others. Ok (one.0 ∷ others.0, others.1)) (x, flat_map text xs ++ rest) first
    ∙ and_then-ok (many_at field next (length xs) (next s x) (flat_map text xs ++ rest)) (λ others. Ok (x ∷ others.0, others.1)) (xs, rest) second

pub record IsCounted {S A : Type 0} (Fits : S → A → Type 0) (next : S → A → S) (most : ℕ) (s : S) (xs : List A) : Type 0 where
  pub few : length xs ≤ most
  pub each : InTurn Fits next s xs

counted_takes : {S A : Type 0} (field : S → List ℕ → Result (A × List ℕ) ℕ) (next : S → A → S) (text : A → List ℕ) (Fits : S → A → Type 0) → ((s : S) → Agrees (field s) text (Fits s))
    → (most : ℕ) → most < 2 ^ 32 → (s : S) (bytes : List ℕ) (x : List A × List ℕ) → IsBytes bytes → counted_at field next most s bytes ≡ Ok x → Takes bytes (counted text x.0) x.1 × IsCounted Fits next most s x.0
unfolding counted_at counted
counted_takes field next text Fits agrees most fit s bytes x fits e =
    let a = and_then_ok (number_in w32 0 (most + 1) bytes) (λ n. many_at field next n.0 s n.1) x e in
    let t0 = (number_in_agrees w32 (2 ^ 32) wide32 0 (most + 1) (omega arith)).takes bytes a.0 fits a.1 in
    let t1 = many_takes field next text Fits agrees a.0.0 s a.0.1 x t0.0.rest_fits a.2 in
    let both = Takes-then bytes (le w32 a.0.0) a.0.1 (flat_map text x.0) x.1 t0.0 t1.0 in
    let len = t1.1.0 in
    let below = t0.1.below in
    (rw len both, record { few = omega arith; each = t1.1.1 })

counted_again : {S A : Type 0} (field : S → List ℕ → Result (A × List ℕ) ℕ) (next : S → A → S) (text : A → List ℕ) (Fits : S → A → Type 0) → ((s : S) → Agrees (field s) text (Fits s))
    → (most : ℕ) → most < 2 ^ 32 → (s : S) (xs : List A) (rest : List ℕ) → IsCounted Fits next most s xs → counted_at field next most s (counted text xs ++ rest) ≡ Ok (xs, rest)
unfolding counted_at counted
counted_again field next text Fits agrees most fit s xs rest fits =
    let few = fits.few in
    let first = (number_in_agrees w32 (2 ^ 32) wide32 0 (most + 1) (omega arith)).again (length xs) (flat_map text xs ++ rest) (record { from = omega arith; below = omega arith }) in
    let second = many_again field next text Fits agrees s xs rest fits.each in
    rw (append_assoc (le w32 (length xs)) (flat_map text xs) rest) (and_then-ok (number_in w32 0 (most + 1) (le w32 (length xs) ++ (flat_map text xs ++ rest))) (λ n. many_at field next n.0 s n.1) (length xs, flat_map text xs ++ rest) first ∙ second)

pub counted_agrees : {S A : Type 0} (field : S → List ℕ → Result (A × List ℕ) ℕ) (next : S → A → S) (text : A → List ℕ) (Fits : S → A → Type 0) → ((s : S) → Agrees (field s) text (Fits s))
    → (most : ℕ) → most < 2 ^ 32 → (s : S) → Agrees (counted_at field next most s) (counted text) (IsCounted Fits next most s)
counted_agrees field next text Fits agrees most fit s = record { takes = counted_takes field next text Fits agrees most fit s; again = counted_again field next text Fits agrees most fit s }

-- ---- all of the bytes

offset_ok : {A : Type 0} (bytes : List ℕ) (r : Result A ℕ) (x : A) → offset bytes r ≡ Ok x → r ≡ Ok x
offset_ok bytes (Ok y) x e = e
offset_ok bytes (Err left) x e = absurd cc

nil_of : (rest : List ℕ) → nat_lt 0 (length rest) ≡ false → rest ≡ []
nil_of [] h = refl
nil_of (b ∷ rest) h = absurd (let g = ltb-false _ _ h in omega arith)

abbrev read_to : {A : Type 0} → A → List ℕ → Result (A × List ℕ) ℕ
read_to x rest = Ok (x, rest)

none_left : {A : Type 0} (x y : A) (rest : List ℕ) → x ≡ y → rest ≡ [] → read_to x rest ≡ read_to y []
none_left x y rest e f = rw (e, f) refl

pub whole_found : {A : Type 0} (field : List ℕ → Result (A × List ℕ) ℕ) (bytes : List ℕ) (x : A) → whole field bytes ≡ Ok x → field bytes ≡ Ok (x, [])
unfolding whole
whole_found {A} field bytes x e =
    let a = and_then_ok (field bytes) ended x (offset_ok bytes (field bytes >>= ended) x e) in
    let g = guard_ok (nat_lt 0 (length a.0.1)) (length a.0.1) a.0.0 x a.2 in
    a.1 ∙ none_left a.0.0 x a.0.1 g.1 (nil_of a.0.1 g.0)

-- what a reader took is all of the bytes, where none are left
pub takes_all : (bytes text : List ℕ) → Takes bytes text [] → bytes ≡ text
takes_all bytes text t = t.parts ∙ append-nil text

pub whole_again : {A : Type 0} (field : List ℕ → Result (A × List ℕ) ℕ) (text : List ℕ) (x : A) → field (text ++ []) ≡ Ok (x, []) → whole field text ≡ Ok x
unfolding whole
whole_again {A} field text x e =
    let read : field text ≡ Ok (x, []) = ap field (sym (append-nil text)) ∙ e in
    ap (offset text) (and_then-ok (field text) ended (x, []) read)
