-- A function among those of a unit, before the link and after it.
use Rattle.std.specs.Prelude.{map}
use Rattle.std.specs.List.{AllByRecursion}
use Rattle.std.proofs.Common.{◌≡◌, refl, sym, ap, ◌∙◌, subst, ℕ, ◌+◌, Bool, List, [], ◌∷◌, ◌++◌, length, arith, append_assoc, length-append}
use Rattle.std.proofs.lemmas.List.{map-append}
use Rattle.obj_file.specs.declared.object.Fix.{Fix}
use Rattle.obj_file.specs.declared.object.Spot3.{Spot3}
use Rattle.linked_code.specs.Filled.{fix_of, Fits}
use Rattle.linked_code.proofs.Labels.{zeros, length_zeros}
use Rattle.unit_object.specs.Units.{Coded, bytes_from, fields_from, spots_from, past, unit_bytes, unit_fields, unit_spots, linked_from, linked_unit}
use Rattle.unit_object.proofs.Long.{all_long, same_middle}
use Rattle.unit_object.proofs.Unit.{unit_linked}
use Rattle.linked_units.proofs.Lists.{both_front, both_back}

module _ (is_function : ℕ → Bool) where
  -- where the function behind others begins
  pub behind_all : ℕ → List Coded → ℕ
  behind_all at [] = at
  behind_all at (c ∷ cs) = behind_all (past is_function at c) cs

  pub behind_length : (at : ℕ) (cs : List Coded) → behind_all at cs ≡ at + length (unit_bytes is_function at cs)
  unfolding behind_all
  behind_length at [] = omega arith
  behind_length at (c ∷ cs) =
      let rest = behind_length (past is_function at c) cs in
      let both = length-append (bytes_from is_function at c) (unit_bytes is_function (past is_function at c) cs) in
      omega (arith, rest, both)

  -- ---- fields and places

  abbrev pub unit_fixes : ℕ → List Coded → List Fix
  unit_fixes at cs = map fix_of (unit_fields is_function at cs)

  fixes_first : (at : ℕ) (c : Coded) (cs : List Coded) → unit_fixes at (c ∷ cs) ≡ map fix_of (fields_from is_function at c) ++ unit_fixes (past is_function at c) cs
  fixes_first at c cs = map-append fix_of (fields_from is_function at c) (unit_fields is_function (past is_function at c) cs)

  module _ (P : Fix → Type 0) where
    pub fixes_there : (at : ℕ) (before : List Coded) (c : Coded) (behind : List Coded) → AllByRecursion P (unit_fixes at (before ++ (c ∷ behind)))
        → AllByRecursion P (map fix_of (fields_from is_function (behind_all at before) c))
    unfolding behind_all
    fixes_there at [] c behind all = both_front P (map fix_of (fields_from is_function at c)) _ (subst (AllByRecursion P) (fixes_first at c behind) all)
    fixes_there at (x ∷ before) c behind all =
        fixes_there (past is_function at x) before c behind
        (both_back P (map fix_of (fields_from is_function at x)) _ (subst (AllByRecursion P) (fixes_first at x (before ++ (c ∷ behind))) all))

    pub fixes_before : (at : ℕ) (before others : List Coded) → AllByRecursion P (unit_fixes at (before ++ others)) → AllByRecursion P (unit_fixes at before)
    fixes_before at [] others all = tt
    fixes_before at (x ∷ before) others all =
        let parts = subst (AllByRecursion P) (fixes_first at x (before ++ others)) all in
        let own = map fix_of (fields_from is_function at x) in
        let later = fixes_before (past is_function at x) before others (both_back P own _ parts) in
        subst (AllByRecursion P) (sym (fixes_first at x before)) (joined own (unit_fixes (past is_function at x) before) (both_front P own _ parts) later)
      where
        joined : (xs ys : List Fix) → AllByRecursion P xs → AllByRecursion P ys → AllByRecursion P (xs ++ ys)
        joined [] ys all more = more
        joined (x ∷ xs) ys all more = (all.0, joined xs ys all.1 more)

  pub spots_there : (P : Spot3 → Type 0) (at : ℕ) (before : List Coded) (c : Coded) (behind : List Coded) → AllByRecursion P (unit_spots is_function at (before ++ (c ∷ behind)))
      → AllByRecursion P (spots_from is_function (behind_all at before) c)
  unfolding behind_all
  spots_there P at [] c behind all = both_front P (spots_from is_function at c) _ all
  spots_there P at (x ∷ before) c behind all = spots_there P (past is_function at x) before c behind (both_back P (spots_from is_function at x) _ all)

  -- ---- after the link

  module _ (code : ℕ) (entry_at address : ℕ → ℕ) where
    abbrev linked : ℕ → List Coded → List ℕ
    linked at cs = linked_unit is_function code entry_at address at cs

    pub linked_parts : (at : ℕ) (before : List Coded) (c : Coded) (behind : List Coded) → linked at (before ++ (c ∷ behind))
        ≡ linked at before ++ (linked_from is_function code entry_at address (behind_all at before) c ++ linked (past is_function (behind_all at before) c) behind)
    unfolding behind_all
    linked_parts at [] c behind = refl
    linked_parts at (x ∷ before) c behind =
        let own = linked_from is_function code entry_at address at x in
        ap (λ (l : List ℕ). own ++ l) (linked_parts (past is_function at x) before c behind) ∙ sym (append_assoc own (linked (past is_function at x) before) _)

    pub linked_length : (at : ℕ) (cs : List Coded) → AllByRecursion (Fits code entry_at address) (unit_fixes at cs) → length (linked at cs) ≡ length (unit_bytes is_function at cs)
    linked_length at cs fit =
        let front = zeros at in
        let there : at ≡ length front = sym (length_zeros at) in
        let fit_there = subst (λ (n : ℕ). AllByRecursion (Fits code entry_at address) (unit_fixes n cs)) there fit in
        let filled = unit_linked is_function code entry_at address cs front [] fit_there in
        let long = all_long code entry_at address (unit_fixes (length front) cs) (front ++ (unit_bytes is_function (length front) cs ++ [])) in
        let same = same_middle front (linked (length front) cs) (unit_bytes is_function (length front) cs) [] (ap length (sym filled) ∙ long) in
        subst (λ (n : ℕ). length (linked n cs) ≡ length (unit_bytes is_function n cs)) (sym there) same
