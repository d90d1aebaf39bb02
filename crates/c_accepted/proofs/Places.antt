-- The numbers of globals and functions by the places of their symbols.
use Rattle.std.proofs.Common.{◌≡◌, refl, sym, ap, ◌∙◌, ℕ, zero, suc, ◌+◌, ◌<◌, ◌≤◌, ◌==◌, if◌then◌else◌, Bool, true, false, List, [], ◌∷◌, ◌++◌, map, length, arith}
use Rattle.std.specs.Prelude.{◌≢◌, Option, None, Some, slice_get, slice_index_or}
use Rattle.std.proofs.lemmas.Bool.{eqb-true}
use Rattle.c_check.specs.declared.symbols.Subject.{Subject}
use Rattle.c_check.specs.declared.symbols.Subject.TheVariants.{Global, Function, Literals}
use Rattle.c_check.specs.Symbols.{is_same, place_from}
use Rattle.c_accepted.specs.Planned.{number_or, numbers_from}
use Rattle.c_accepted.specs.Symbols.{Lacks, AllDiffer}

pub place_within : (at : ℕ) (s : Subject) (named : List Subject) (p : ℕ) → place_from at s named ≡ Some p → (at ≤ p) × (p < at + length named)
place_within at s [] p h = cc
place_within at s (x ∷ more) p h = by (is_same s x) (λ e. place_within (at + 1) s more p e) h
  where
    by : (b : Bool) → (place_from (at + 1) s more ≡ Some p → (at + 1 ≤ p) × (p < at + 1 + length more)) → (if b then Some at else place_from (at + 1) s more) ≡ Some p → (at ≤ p) × (p < at + length (x ∷ more))
    by true later e = let same : at ≡ p = cc in (omega (arith, same), omega (arith, same))
    by false later e = let low = (later e).0 in let high = (later e).1 in (omega (arith, low), omega (arith, high))

same_function : (at : ℕ) (named : List Subject) (i j p : ℕ) → place_from at (Function i) named ≡ Some p → place_from at (Function j) named ≡ Some p → i ≡ j
same_function at [] i j p h k = cc
same_function at (Function m ∷ more) i j p h k = by (i == m) (j == m) (λ h k. same_function (at + 1) more i j p h k) refl refl h k
  where
    by : (b c : Bool) → (place_from (at + 1) (Function i) more ≡ Some p → place_from (at + 1) (Function j) more ≡ Some p → i ≡ j) → (i == m) ≡ b → (j == m) ≡ c → (if b then Some at else place_from (at + 1) (Function i) more) ≡ Some p → (if c then Some at else place_from (at + 1) (Function j) more) ≡ Some p → i ≡ j
    by true true behind e f h k = eqb-true i m e ∙ sym (eqb-true j m f)
    by true false behind e f h k = let same : at ≡ p = cc in let later = (place_within (at + 1) (Function j) more p k).0 in absurd (omega (arith, same, later))
    by false true behind e f h k = let same : at ≡ p = cc in let later = (place_within (at + 1) (Function i) more p h).0 in absurd (omega (arith, same, later))
    by false false behind e f h k = behind h k
same_function at (Global m ∷ more) i j p h k = same_function (at + 1) more i j p h k
same_function at (Literals ∷ more) i j p h k = same_function (at + 1) more i j p h k

-- ---- functions have numbers of their own

lacks_earlier : (named : List Subject) (behind i first count : ℕ) → i < first → length named ≤ behind → Lacks (number_or (behind + i) (place_from 0 (Function i) named)) (numbers_from Function named behind first count)
lacks_earlier named behind i first zero lt le = tt
lacks_earlier named behind i first (suc n) lt le = (differs, lacks_earlier named behind i (first + 1) n (omega (arith, lt)) le)
  where
    by : (a b : Option ℕ) → place_from 0 (Function i) named ≡ a → place_from 0 (Function first) named ≡ b → number_or (behind + i) a ≡ number_or (behind + first) b → ⊥
    by None None h k e = omega (arith, lt, e)
    by (Some p) None h k e = let few = (place_within 0 (Function i) named p h).1 in omega (arith, few, le, e)
    by None (Some q) h k e = let few = (place_within 0 (Function first) named q k).1 in omega (arith, few, le, e)
    by (Some p) (Some q) h k e = let same = same_function 0 named i first q (h ∙ ap Some e) k in omega (arith, lt, same)

    differs : number_or (behind + i) (place_from 0 (Function i) named) ≢ number_or (behind + first) (place_from 0 (Function first) named)
    differs e = by (place_from 0 (Function i) named) (place_from 0 (Function first) named) refl refl e

pub numbers_differ : (named : List Subject) (behind first count : ℕ) → length named ≤ behind → AllDiffer (numbers_from Function named behind first count)
numbers_differ named behind first zero le = tt
numbers_differ named behind first (suc count) le = (lacks_earlier named behind first (first + 1) count (omega arith) le, numbers_differ named behind (first + 1) count le)

pub as_many_numbers : (subject : ℕ → Subject) (named : List Subject) (behind first count : ℕ) → length (numbers_from subject named behind first count) ≡ count
as_many_numbers subject named behind first zero = refl
as_many_numbers subject named behind first (suc count) = ap suc (as_many_numbers subject named behind (first + 1) count)

-- ---- no global has the number of the literals

number_apart : (named : List Subject) (behind first : ℕ) (place : Option ℕ) → place_from 0 (Global first) named ≡ place → length named < behind → number_or (behind + first) place ≡ length named → ⊥
number_apart named behind first None h lt e = omega (arith, lt, e)
number_apart named behind first (Some p) h lt e = let few = (place_within 0 (Global first) named p h).1 in omega (arith, few, e)

pub numbers_apart : (named : List Subject) (behind first count number : ℕ) → 1 ≤ length named → length named < behind → slice_index_or (numbers_from Global named behind first count) number 0 ≡ length named → ⊥
numbers_apart named behind first zero number some lt e = omega (arith, some, e)
numbers_apart named behind first (suc n) zero some lt e = number_apart named behind first (place_from 0 (Global first) named) refl lt e
numbers_apart named behind first (suc n) (suc number) some lt e = numbers_apart named behind (first + 1) n number some lt e

-- ---- what has a symbol has its number

pub numbered : (subject : ℕ → Subject) (named : List Subject) (behind first count n p : ℕ) → n < count → place_from 0 (subject (first + n)) named ≡ Some p → slice_index_or (numbers_from subject named behind first count) n 0 ≡ p
numbered subject named behind first zero n p lt h = absurd (omega (arith, lt))
numbered subject named behind first (suc count) zero p lt h =
    let same : first + 0 ≡ first = omega arith in let found : place_from 0 (subject first) named ≡ Some p = ap (λ m. place_from 0 (subject m) named) (sym same) ∙ h in ap (number_or (behind + first)) found
numbered subject named behind first (suc count) (suc n) p lt h =
    let same : first + 1 + n ≡ first + suc n = omega arith in numbered subject named behind (first + 1) count n p (omega (arith, lt)) (ap (λ m. place_from 0 (subject m) named) same ∙ h)

-- ---- and stands at its number

is_it : (a b : Subject) → is_same a b ≡ true → a ≡ b
is_it (Global n) (Global m) h = ap Global (eqb-true n m h)
is_it (Global n) (Function m) h = cc
is_it (Global n) Literals h = cc
is_it (Function n) (Global m) h = cc
is_it (Function n) (Function m) h = ap Function (eqb-true n m h)
is_it (Function n) Literals h = cc
is_it Literals (Global m) h = cc
is_it Literals (Function m) h = cc
is_it Literals Literals h = refl

-- at its place it is found, whatever comes behind all
pub found_at : {A : Type 0} (f : Subject → A) (rest : List A) (at : ℕ) (s : Subject) (named : List Subject) (k : ℕ) → place_from at s named ≡ Some (at + k) → slice_get (map f named ++ rest) k ≡ Some (f s)
found_at f rest at s [] k h = cc
found_at {A} f rest at s (x ∷ more) k h = by (is_same s x) (λ k e. found_at f rest (at + 1) s more k e) refl h
  where
    behind : (k : ℕ) → ((k : ℕ) → place_from (at + 1) s more ≡ Some (at + 1 + k) → slice_get (map f more ++ rest) k ≡ Some (f s)) → place_from (at + 1) s more ≡ Some (at + k) → slice_get (map f (x ∷ more) ++ rest) k ≡ Some (f s)
    behind zero later e = let late = (place_within (at + 1) s more (at + 0) e).0 in absurd (omega (arith, late))
    behind (suc k) later e = let same : at + suc k ≡ at + 1 + k = omega arith in later k (e ∙ ap Some same)

    here : (k : ℕ) → is_same s x ≡ true → at ≡ at + k → slice_get (map f (x ∷ more) ++ rest) k ≡ Some (f s)
    here zero same e = ap (λ y. Some (f y)) (sym (is_it s x same))
    here (suc k) same e = absurd (omega (arith, e))

    by : (b : Bool) → ((k : ℕ) → place_from (at + 1) s more ≡ Some (at + 1 + k) → slice_get (map f more ++ rest) k ≡ Some (f s)) → is_same s x ≡ b → (if b then Some at else place_from (at + 1) s more) ≡ Some (at + k) → slice_get (map f (x ∷ more) ++ rest) k ≡ Some (f s)
    by true later same e = let there : at ≡ at + k = cc in here k same there
    by false later same e = behind k later e

pub next_found : {A : Type 0} (f : Subject → A) (named : List Subject) (y : A) → slice_get (map f named ++ y ∷ []) (length named) ≡ Some y
next_found f [] y = refl
next_found f (x ∷ more) y = next_found f more y
