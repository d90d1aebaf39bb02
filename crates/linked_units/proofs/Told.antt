-- The places of an image are found by their addresses.
use Rattle.std.specs.Prelude.{find, if◌then◌else◌}
use Rattle.std.proofs.Common.{◌≡◌, refl, sym, ap, ◌∙◌, ℕ, ◌+◌, ◌<◌, ◌≤◌, ◌==◌, not, Bool, true, false, true≢false, None, Some, List, [], ◌∷◌, arith}
use Rattle.std.specs.List.{AllByRecursion}
use Rattle.std.specs.Option.{option_map}
use Rattle.std.proofs.lemmas.Bool.Decides.{nat_tests}
use Rattle.mx_base.specs.Regions.{is_in, instrumented_code}
use Rattle.x86_forms.specs.Watch.{is_legacy}
use Rattle.obj_file.specs.InTurn.{InTurn}
use Rattle.obj_file.specs.Image.{IsPlace, after_place}
use Rattle.obj_file.specs.declared.image.Image.{Image}
use Rattle.obj_file.specs.declared.image.Spot4.{Spot4}
use Rattle.linked_units.specs.Accesses.{access_of, accesses_of}
use Rattle.linked_units.proofs.Lists.{all_then}

abbrev pub FoundIn : List Spot4 → Spot4 → Type 0
FoundIn all p = find (λ (q : Spot4). q.at == p.at) all ≡ Some p

behind_all : (files from : ℕ) (xs : List Spot4) → InTurn (IsPlace files) after_place from xs → AllByRecursion (λ (p : Spot4). from ≤ p.at) xs
behind_all files from [] turn = tt
behind_all files from (x ∷ xs) turn =
    let after = turn.0.after in
    (after, all_then (λ (p : Spot4). after_place from x ≤ p.at) (λ (p : Spot4). from ≤ p.at) xs (λ p le. omega (arith, le, after)) (behind_all files (after_place from x) xs turn.1))

found_later : (x p : Spot4) (xs : List Spot4) → x.at < p.at → FoundIn xs p → FoundIn (x ∷ xs) p
found_later x p xs less found =
    let apart : (x.at == p.at) ≡ false = grind (arith, nat_tests) in
    ap (λ b. if b then Some x else find (λ (q : Spot4). q.at == p.at) xs) apart ∙ found

both : (x : Spot4) (xs ys : List Spot4) → AllByRecursion (λ (p : Spot4). x.at + 1 ≤ p.at) ys → AllByRecursion (FoundIn xs) ys → AllByRecursion (FoundIn (x ∷ xs)) ys
both x xs [] behind found = tt
both x xs (p ∷ ys) behind found = (found_later x p xs (let le = behind.0 in omega (arith, le)) found.0, both x xs ys behind.1 found.1)

pub each_found : (files from : ℕ) (xs : List Spot4) → InTurn (IsPlace files) after_place from xs → AllByRecursion (FoundIn xs) xs
each_found files from [] turn = tt
each_found files from (x ∷ xs) turn =
    let same : (x.at == x.at) ≡ true = grind (arith, nat_tests) in
    (ap (λ b. if b then Some x else find (λ (q : Spot4). q.at == x.at) xs) same, both x xs xs (behind_all files (after_place from x) xs turn.1) (each_found files (after_place from x) xs turn.1))

-- ---- none elsewhere

none_elsewhere : (at : ℕ) → is_in instrumented_code at ≡ false → (files from : ℕ) (xs : List Spot4) → InTurn (IsPlace files) after_place from xs → find (λ (p : Spot4). p.at == at) xs ≡ None
none_elsewhere at outside files from [] turn = refl
none_elsewhere at outside files from (x ∷ xs) turn = by (none_elsewhere at outside files (after_place from x) xs turn.1) (x.at == at) refl
  where
    by : find (λ (p : Spot4). p.at == at) xs ≡ None → (b : Bool) → (x.at == at) ≡ b → (if b then Some x else find (λ (p : Spot4). p.at == at) xs) ≡ None
    by more true e =
        let same : x.at ≡ at = grind (arith, nat_tests) in
        let inside : is_in instrumented_code x.at ≡ true = turn.0.in_code in
        absurd (true≢false (sym inside ∙ (ap (is_in instrumented_code) same ∙ outside)))
    by more false e = more

pub none_in_legacy : (number : ℕ → ℕ) (v : Image) (files : ℕ) → InTurn (IsPlace files) after_place 0 v.places → (at : ℕ) → is_legacy at ≡ true → accesses_of number v at ≡ None
none_in_legacy number v files turn at legacy = ap (option_map (access_of number)) (none_elsewhere at (by (is_in instrumented_code at) refl legacy) files 0 v.places turn)
  where
    by : (b : Bool) → is_in instrumented_code at ≡ b → not b ≡ true → is_in instrumented_code at ≡ false
    by true e h = cc
    by false e h = e
