-- The code part of an object of functions, after the link.
use Rattle.std.specs.Prelude.{ℤ, map, not, ◌&&◌, IsTrue}
use Rattle.std.specs.List.{fold, All, AllByRecursion}
use Rattle.std.proofs.Common.{◌≡◌, ℕ, ◌+◌, Bool, true, false, List, [], ◌∷◌, ◌++◌, length, refl, ap, ◌∙◌, sym, subst, append_assoc, append-nil, length-append}
use Rattle.std.proofs.lemmas.List.{map-append}
use Rattle.std.proofs.lemmas.List.Sums.{fold-append}
use Rattle.obj_file.specs.declared.object.Fix.{Fix}
use Rattle.obj_file.specs.declared.object.Object.{Object}
use Rattle.code_emit.specs.declared.fields.Field.{Field}
use Rattle.linked_code.specs.Filled.{fix_of, filled, all_filled, Fits, seen_in}
use Rattle.linked_code.proofs.Bytes.{all_each, each_front, each_behind}
use Rattle.linked_code.proofs.Going.{linked_function}
use Rattle.linked_code.proofs.Linker.{fields_filled}
use Rattle.obj_linker.specs.declared.plan.Plan.{Plan as Link}
use Rattle.obj_linker.specs.Fitting.{FixesFit}
use Rattle.obj_linker.specs.Fixing.{fixed, fixed_part, fits, fix_value, value_of}
use Rattle.obj_linker.specs.Placement.{spot_of}
use Rattle.unit_object.specs.Units.{Coded, labels_from, bytes_from, fields_from, past, unit_bytes, unit_fields, linked_from, linked_unit}
use Rattle.unit_object.proofs.Long.{each_all, all_long, same_middle}

module _ (is_function : ℕ → Bool) (code : ℕ) (entry_at address : ℕ → ℕ) where
  abbrev fill : List ℕ → List Field → List ℕ
  fill bytes fields = all_filled code entry_at address bytes (map fix_of fields)

  abbrev Fit : List Field → Type 0
  Fit fields = AllByRecursion (Fits code entry_at address) (map fix_of fields)

  one_linked : (c : Coded) (before behind : List ℕ) → Fit (fields_from is_function (length before) c)
      → fill (before ++ (bytes_from is_function (length before) c ++ behind)) (fields_from is_function (length before) c)
      ≡ before ++ (linked_from is_function code entry_at address (length before) c ++ behind)
  one_linked c before behind fit =
      linked_function c.plan is_function (labels_from is_function (length before) c) code entry_at address c.fun c.parameters c.units c.first c.last before behind
      (each_all (Fits code entry_at address) (map fix_of (fields_from is_function (length before) c)) fit)

  pub unit_linked : (unit : List Coded) (before behind : List ℕ) → Fit (unit_fields is_function (length before) unit)
      → fill (before ++ (unit_bytes is_function (length before) unit ++ behind)) (unit_fields is_function (length before) unit)
      ≡ before ++ (linked_unit is_function code entry_at address (length before) unit ++ behind)
  unit_linked [] before behind fit = refl
  unit_linked (c ∷ cs) before behind fit =
      let at = length before in
      let ours = bytes_from is_function at c in
      let made = linked_from is_function code entry_at address at c in
      let fields = fields_from is_function at c in
      let later = unit_fields is_function (past is_function at c) cs in
      let more = unit_bytes is_function (past is_function at c) cs in
      let both = map-append fix_of fields later in
      let fit_both = subst (λ (l : List Fix). AllByRecursion (Fits code entry_at address) l) both fit in
      let fit_first = each_front (Fits code entry_at address) (map fix_of fields) (map fix_of later) fit_both in
      let fit_rest = each_behind (Fits code entry_at address) (map fix_of fields) (map fix_of later) fit_both in
      let one = one_linked c before (more ++ behind) fit_first in
      let same : length ours ≡ length made = same_middle before ours made (more ++ behind) (sym (all_long code entry_at address (map fix_of fields) (before ++ (ours ++ (more ++ behind)))) ∙ ap length one) in
      let long : past is_function at c ≡ length (before ++ made) = ap (λ (n : ℕ). at + n) same ∙ sym (length-append before made) in
      let fit_there = subst (λ (n : ℕ). Fit (unit_fields is_function n cs)) long fit_rest in
      let rest = unit_linked cs (before ++ made) behind fit_there in
      (λ i. all_filled code entry_at address (before ++ (append_assoc ours more behind i)) (both i))
      ∙ fold-append (filled code entry_at address) (before ++ (ours ++ (more ++ behind))) (map fix_of fields) (map fix_of later)
      ∙ (λ i. fill ((one ∙ sym (append_assoc before made (more ++ behind))) i) later)
      ∙ (λ i. fill ((before ++ made) ++ (unit_bytes is_function (long i) cs ++ behind)) (unit_fields is_function (long i) cs))
      ∙ rest
      ∙ (λ i. (before ++ made) ++ (linked_unit is_function code entry_at address (sym long i) cs ++ behind))
      ∙ append_assoc before made (linked_unit is_function code entry_at address (past is_function at c) cs ++ behind)
      ∙ ap (λ (l : List ℕ). before ++ l) (sym (append_assoc made (linked_unit is_function code entry_at address (past is_function at c) cs) behind))

-- ---- objects

module _ (os : List Object) (link : Link) (object : ℕ) (o : Object) where
  data_stays : (bytes : List ℕ) (stored : List Fix) → AllByRecursion (λ (f : Fix). f.part ≡ 2) stored → fold (fixed os link object o 1) bytes stored ≡ bytes
  data_stays bytes [] all = refl
  data_stays bytes (f ∷ stored) all =
      ap (λ (part : ℕ). fold (fixed os link object o 1) (fixed os link object o 1 bytes record { part = part; offset = f.offset; form = f.form; symbol = f.symbol; addend = f.addend }) stored) all.0
      ∙ data_stays bytes stored all.1

  abbrev pub FitsLink : Fix → Type 0
  FitsLink f = IsTrue (fits f.form (fix_value os link object o f))

  abbrev FitsHere : Fix → Type 0
  FitsHere f = Fits (spot_of link object).code (seen_in os link object true) (seen_in os link object false) f

  abbrev value_in : (legacy relative : Bool) → (offset symbol : ℕ) → ℤ
  value_in legacy relative offset symbol =
      value_of (seen_in os link object (not legacy && relative) symbol) ((spot_of link object).code + offset) (fix_of record { offset = offset; symbol = symbol; relative = relative })

  one_fits : o.legacy ≡ false → (relative : Bool) (offset symbol : ℕ) → FitsLink (fix_of record { offset = offset; symbol = symbol; relative = relative })
      → FitsHere (fix_of record { offset = offset; symbol = symbol; relative = relative })
  one_fits instrumented true offset symbol fit = subst (λ (legacy : Bool). IsTrue (fits 2 (value_in legacy true offset symbol))) instrumented fit
  one_fits instrumented false offset symbol fit = subst (λ (legacy : Bool). IsTrue (fits 1 (value_in legacy false offset symbol))) instrumented fit

  pub fields_fit : o.legacy ≡ false → (fields : List Field) → AllByRecursion FitsLink (map fix_of fields) → AllByRecursion FitsHere (map fix_of fields)
  fields_fit instrumented [] all = tt
  fields_fit instrumented (f ∷ fields) all = (one_fits instrumented f.relative f.offset f.symbol all.0, fields_fit instrumented fields all.1)

  pub object_linked : (is_function : ℕ → Bool) (unit : List Coded) (stored : List Fix)
      → o.legacy ≡ false → o.code ≡ unit_bytes is_function 0 unit → o.fixes ≡ map fix_of (unit_fields is_function 0 unit) ++ stored
      → All (λ (f : Fix). f.part ≡ 2) stored → FixesFit os link object o
      → fixed_part os link object o 1
      ≡ linked_unit is_function (spot_of link object).code (seen_in os link object true) (seen_in os link object false) 0 unit
  object_linked is_function unit stored instrumented is_code is_fixes of_data fit =
      let fields = unit_fields is_function 0 unit in
      let bytes = unit_bytes is_function 0 unit in
      let code = (spot_of link object).code in
      let calls = seen_in os link object true in
      let others = seen_in os link object false in
      let fit_all = subst (λ (l : List Fix). AllByRecursion FitsLink l) is_fixes (all_each FitsLink o.fixes fit.each) in
      let fit_fields = fields_fit instrumented fields (each_front FitsLink (map fix_of fields) stored fit_all) in
      let linked = linked_unit is_function code calls others 0 unit in
      (λ i. fold (fixed os link object o 1) (is_code i) (is_fixes i))
      ∙ fold-append (fixed os link object o 1) bytes (map fix_of fields) stored
      ∙ data_stays (fold (fixed os link object o 1) bytes (map fix_of fields)) stored (all_each (λ (f : Fix). f.part ≡ 2) stored of_data)
      ∙ fields_filled os link object o instrumented bytes fields
      ∙ ap (λ (l : List ℕ). all_filled code calls others l (map fix_of fields)) (sym (append-nil bytes))
      ∙ unit_linked is_function code calls others unit [] [] fit_fields
      ∙ append-nil linked
