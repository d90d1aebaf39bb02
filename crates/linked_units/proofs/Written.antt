-- What the image of linked objects has of a function of a unit.
use Rattle.std.specs.Prelude.{map, IsTrue, not, ◌&&◌, slice_set}
use Rattle.std.specs.List.{AllByRecursion}
use Rattle.std.specs.Option.{option_map}
use Rattle.std.proofs.Common.{◌≡◌, ◌^◌, Option, refl, sym, ap, ◌∙◌, subst, ℕ, ◌+◌, ◌<◌, ◌≤◌, ◌==◌, Bool, true, false, if◌then◌else◌, Some, List, [], ◌∷◌, ◌++◌, length, slice_get, arith, append-nil, length-append, get_or-set_same}
use Rattle.std.proofs.lemmas.Bool.Decides.{nat_tests}
use Rattle.mx_base.specs.Memory.{list_at}
use Rattle.mx_base.specs.StopOfC.{AccessOfC}
use Rattle.mx_base.specs.declared.places.Place.{Place}
use Rattle.obj_file.specs.declared.image.Image.{Image}
use Rattle.obj_file.specs.declared.image.Spot4.{Spot4}
use Rattle.obj_file.specs.declared.object.Fix.{Fix}
use Rattle.obj_file.specs.declared.object.Object.{Object}
use Rattle.obj_file.specs.declared.object.Spot3.{Spot3}
use Rattle.fat_ir.specs.declared.program.FatFun.{FatFun}
use Rattle.fat_ir.specs.declared.step.FatStep.{FatStep}
use Rattle.fat_ir.specs.declared.step.FatStep.TheVariants as s
use Rattle.fat_ir.specs.Functions.{Parameter}
use Rattle.step_code.specs.Bytes.{size_of_pieces, size_of_steps, bytes_of_pieces, bytes_of_steps, lower_check, places_of_steps, upper_check, AllValid, AllStepsValid}
use Rattle.step_code.specs.Entry.{inner_entry, inner_return}
use Rattle.step_code.specs.Functions.{Layout, IsWritten, plain, homing_at, steps_at, end_at, return_at, past_function, bytes_of_function}
use Rattle.step_code.specs.Homing.{homing}
use Rattle.step_code.specs.Steps.{Plan, lower, end_pieces}
use Rattle.step_code.proofs.Sizes.{length_bytes, length_steps}
use Rattle.code_emit.specs.declared.fields.Field.{Field}
use Rattle.code_emit.specs.Unlinked.{label_at, labels_noted, fields_of_step, fields_of_steps, spot_of}
use Rattle.code_emit.specs.Unlinked as u
use Rattle.obj_linker.specs.declared.plan.Plan.{Plan as Link}
use Rattle.obj_linker.specs.Fixing.{field_bytes, fits, fixed_part, value_of, with_field}
use Rattle.obj_linker.specs.Fitting.{FixesFit}
use Rattle.obj_linker.specs.Image.{place_at, places, places_of}
use Rattle.obj_linker.specs.Placement.{plan_of, spot_of as part_of}
use Rattle.obj_linker.specs.Symbols.{is_some_text}
use Rattle.obj_linker.proofs.Fitted.{fixes_fit}
use Rattle.obj_linker.proofs.Members.{got}
use Rattle.asked_steps.specs.Alone.{AllLimited}
use Rattle.valid_code.specs.Named.{CallsAreNear, HomesAreNamed, pointers_of}
use Rattle.valid_code.proofs.Homing.{homing_valid}
use Rattle.valid_code.proofs.Steps.{steps_valid}
use Rattle.linked_code.specs.Filled.{located_at, linked_layout, fix_of, fixes_of_function, fix_target, filled, all_filled, Fits, seen_in, unlinked_plan, with_symbols}
use Rattle.linked_code.specs.Labelled.{Tells}
use Rattle.linked_code.proofs.Bytes.{all_each, each_front}
use Rattle.linked_code.proofs.Going.{linked_function, fields_first}
use Rattle.linked_code.proofs.Labels.{zeros, length_zeros, as_many, same_size, steps_there, function_here, exit_here}
use Rattle.linked_code.proofs.Same.{same_homing}
use Rattle.linked_laws.specs.Linked.{AreLinked, bytes_in}
use Rattle.linked_laws.proofs.Answer.{passed}
use Rattle.linked_laws.proofs.Formed.{formed}
use Rattle.linked_laws.proofs.Parts.{code_length}
use Rattle.linked_laws.proofs.Standing.{parts_stand}
use Rattle.unit_object.specs.Units.{Coded, fields_from, linked_from, linked_unit, past, spots_from, unit_bytes, unit_fields, unit_spots}
use Rattle.unit_object.proofs.Long.{each_all}
use Rattle.unit_object.proofs.Unit.{FitsLink, object_linked, fields_fit}
use Rattle.linked_units.specs.Accesses.{AllStandIn, access_of, accesses_of, file_in}
use Rattle.linked_units.specs.Objects.{CallsLead, IsUnit, LabelsAreNoted, StandsAt, layout_at}
use Rattle.linked_units.proofs.Lists.{AllLow, set_low, zeros_low, all_mapped, both_front, both_back, of_first, parts_of_list}
use Rattle.linked_units.proofs.Parts.{behind_all, behind_length, fixes_there, fixes_before, spots_there, linked_parts, linked_length, unit_fixes}
use Rattle.linked_units.proofs.Spots.{code_lies}
use Rattle.linked_units.proofs.Told.{FoundIn, each_found}

-- ---- entries that agree on what is called

module _ (code : ℕ) (e g address : ℕ → ℕ) where
  field_alike : (f : Field) → (f.relative ≡ true → e f.symbol ≡ g f.symbol) → fix_target code e address (fix_of f) ≡ fix_target code g address (fix_of f)
  field_alike f same = by f.relative same
    where
      by : (r : Bool) → (r ≡ true → e f.symbol ≡ g f.symbol)
          → (if (if r then 2 else 1) == 2 then e f.symbol else address f.symbol) ≡ (if (if r then 2 else 1) == 2 then g f.symbol else address f.symbol)
      by true same = same refl
      by false same = refl

  fields_alike : (fs : List Field) → AllByRecursion (λ (f : Field). f.relative ≡ true → e f.symbol ≡ g f.symbol) fs
      → AllByRecursion (λ (f : Fix). fix_target code e address f ≡ fix_target code g address f) (map fix_of fs)
  fields_alike [] all = tt
  fields_alike (f ∷ fs) all = (field_alike f all.0, fields_alike fs all.1)

  fit_too : (fixes : List Fix) → AllByRecursion (λ (f : Fix). fix_target code e address f ≡ fix_target code g address f) fixes
      → AllByRecursion (Fits code e address) fixes → AllByRecursion (Fits code g address) fixes
  fit_too [] same fit = tt
  fit_too (f ∷ fs) same fit = (subst (λ (t : ℕ). IsTrue (fits f.form (value_of t (code + f.offset) f))) same.0 fit.0, fit_too fs same.1 fit.1)

  filled_alike : (fixes : List Fix) (bytes : List ℕ) → AllByRecursion (λ (f : Fix). fix_target code e address f ≡ fix_target code g address f) fixes
      → all_filled code e address bytes fixes ≡ all_filled code g address bytes fixes
  filled_alike [] bytes same = refl
  filled_alike (f ∷ fs) bytes same =
      filled_alike fs (filled code e address bytes f) same.1
      ∙ ap (λ (l : List ℕ). all_filled code g address l fs)
      (ap (λ (t : ℕ). with_field bytes f.offset (field_bytes f.form (value_of t (code + f.offset) f))) same.0)

cancel_front : (front xs ys : List ℕ) → front ++ (xs ++ []) ≡ front ++ (ys ++ []) → xs ≡ ys
cancel_front [] xs ys same = sym (append-nil xs) ∙ (same ∙ append-nil ys)
cancel_front (b ∷ front) xs ys same = cancel_front front xs ys (let rest : front ++ (xs ++ []) ≡ front ++ (ys ++ []) = cc in rest)

-- ---- one function

module _ (p : Plan) (is_function : ℕ → Bool) (code : ℕ) (address : ℕ → ℕ) (f : FatFun) (parameters : List Parameter) (units : ℕ) (first last : ℕ → ℕ) (labels : List ℕ) (at : ℕ) where
  abbrev noted : List ℕ
  noted = u.function_labels (unlinked_plan p is_function) f parameters units at labels

  abbrev layout : Layout
  layout = linked_layout (with_symbols p is_function address) units first last code noted

  -- its bytes go by the entries of what it calls alone
  bytes_alike : (e g : ℕ → ℕ)
      → AllByRecursion (λ (x : Fix). fix_target code e address x ≡ fix_target code g address x) (fixes_of_function p is_function f parameters units at)
      → AllByRecursion (Fits code e address) (fixes_of_function p is_function f parameters units at)
      → bytes_of_function f parameters layout e (code + at) ≡ bytes_of_function f parameters layout g (code + at)
  bytes_alike e g same fit =
      let front = zeros at in
      let there : at ≡ length front = sym (length_zeros at) in
      let fixes : ℕ → List Fix = λ n. fixes_of_function p is_function f parameters units n in
      let same_there = subst (λ (n : ℕ). AllByRecursion (λ (x : Fix). fix_target code e address x ≡ fix_target code g address x) (fixes n)) there same in
      let fit_there = subst (λ (n : ℕ). AllByRecursion (Fits code e address) (fixes n)) there fit in
      let fit_g = fit_too code e g address (fixes (length front)) same_there fit_there in
      let by_e = linked_function p is_function noted code e address f parameters units first last front [] (each_all (Fits code e address) (fixes (length front)) fit_there) in
      let by_g = linked_function p is_function noted code g address f parameters units first last front [] (each_all (Fits code g address) (fixes (length front)) fit_g) in
      let whole = sym by_e ∙ (filled_alike code e g address (fixes (length front)) _ same_there ∙ by_g) in
      subst (λ (n : ℕ). bytes_of_function f parameters layout e (code + n) ≡ bytes_of_function f parameters layout g (code + n)) (sym there) (cancel_front front _ _ whole)

  bytes_long : (e : ℕ → ℕ) (from : ℕ) → from + length (bytes_of_function f parameters layout e from) ≡ past_function f parameters layout from
  bytes_long e from =
      let entry = plain (inner_entry f.frame units) in
      let homed = homing layout.plan f.private parameters in
      let return = plain (inner_return f.frame units) in
      let at_homing = homing_at f parameters layout from in
      let at_steps = steps_at f parameters layout from in
      let at_end = end_at f parameters layout from in
      let at_return = return_at f parameters layout from in
      let one = bytes_of_pieces layout.label_at e from entry in
      let two = bytes_of_pieces layout.label_at e at_homing homed in
      let three = bytes_of_steps layout.plan layout.label_at e at_steps f.steps in
      let four = bytes_of_pieces layout.label_at e at_end end_pieces in
      let five = bytes_of_pieces layout.label_at e at_return return in
      let a = length_bytes layout.label_at e from entry in
      let b = length_bytes layout.label_at e at_homing homed in
      let c = length_steps layout.plan layout.label_at e at_steps f.steps in
      let d = length_bytes layout.label_at e at_end end_pieces in
      let z = length_bytes layout.label_at e at_return return in
      let i = length-append one (two ++ (three ++ (four ++ five))) in
      let j = length-append two (three ++ (four ++ five)) in
      let k = length-append three (four ++ five) in
      let l = length-append four five in
      omega (arith, a, b, c, d, z, i, j, k, l)

  -- ---- labels

  noted_low : (most from : ℕ) (steps : List FatStep) (ls : List ℕ) → AllLow most ls → from + size_of_steps (unlinked_plan p is_function) steps ≤ most
      → AllLow most (labels_noted (unlinked_plan p is_function) from steps ls)
  noted_low most from [] ls low le = low
  noted_low most from (s.Label n ∷ steps) ls low le = noted_low most (from + size_of_pieces (lower (unlinked_plan p is_function) (s.Label n))) steps (slice_set ls n from)
      (set_low most ls n from low (omega (arith, le))) (omega (arith, le))
  noted_low most from (step ∷ steps) ls low le = noted_low most (from + size_of_pieces (lower (unlinked_plan p is_function) step)) steps ls low (omega (arith, le))

  labels_low : AllByRecursion (λ (n : ℕ). n ≡ 0) labels → AllLow (u.return_at (unlinked_plan p is_function) f parameters units at) noted
  labels_low zeros =
      let old = unlinked_plan p is_function in
      let most = u.return_at old f parameters units at in
      let from = u.steps_at old f parameters units at in
      set_low most (labels_noted old from f.steps labels) p.exit most (noted_low most from f.steps labels (zeros_low most labels zeros) (omega arith)) (omega arith)

  -- ---- places of checks

  module _ (v : Image) (number : ℕ → ℕ) (file : ℕ) where
    abbrev TellsSpot : Spot3 → Type 0
    TellsSpot spot = FoundIn v.places (place_at code file spot)

    write_told : (write : Bool) → ((if write then 2 else 1) == 2) ≡ write
    write_told true = refl
    write_told false = refl

    check_told : (offset : ℕ) (place : Place) (write : Bool) (size : ℕ) → place.file ≡ number file
        → TellsSpot (spot_of (offset, record { place = place; write = write; size = size }))
        → accesses_of number v (code + offset) ≡ Some record { place = place; write = write; size = size }
    check_told offset place write size same told =
        ap (option_map (access_of number)) told
        ∙ (λ i. Some record { place = record { file = sym same i; line = place.line; col = place.col }; write = write_told write i; size = size })

    there_told : (there offset : ℕ) (place : Place) (write : Bool) (size : ℕ) → there ≡ code + offset → place.file ≡ number file
        → TellsSpot (spot_of (offset, record { place = place; write = write; size = size }))
        → accesses_of number v there ≡ Some record { place = place; write = write; size = size }
    there_told there offset place write size is same told = ap (accesses_of number v) is ∙ check_told offset place write size same told

    module _ (e : ℕ → ℕ) where
      abbrev fixes_from : ℕ → List FatStep → List Fix
      fixes_from from steps = map fix_of (fields_of_steps (unlinked_plan p is_function) from steps)

      checks_told : (steps : List FatStep) (from there : ℕ) → there ≡ code + from → AllByRecursion (Fits code e address) (fixes_from from steps) → AllStandIn (number file) steps
          → AllByRecursion (λ (check : ℕ × AccessOfC). TellsSpot (spot_of check)) (places_of_steps (unlinked_plan p is_function) from steps)
          → AllByRecursion (Tells (accesses_of number v)) (places_of_steps (with_symbols p is_function address) there steps)
      checks_told [] from there is fit stand told = tt
      checks_told (s.Judge value size bounds write place ∷ steps) from there is fit stand told =
          let old = unlinked_plan p is_function in
          let new = with_symbols p is_function address in
          let step = s.Judge value size bounds write place in (
            there_told (lower_check new there value bounds) (lower_check old from value bounds) place write size (omega (arith, is)) stand.0 told.0,
            (
              there_told (upper_check new there value bounds) (upper_check old from value bounds) place write size (omega (arith, is)) stand.0 told.1.0,
              checks_told steps (from + size_of_pieces (lower old step)) (there + size_of_pieces (lower (with_symbols p is_function address) step)) (omega (arith, is)) fit stand.1 told.1.1,
            ),
          )
      checks_told (step ∷ steps) from there is fit stand told =
          let old = unlinked_plan p is_function in
          let own = map fix_of (fields_of_step old from step) in
          let later = fixes_from (from + size_of_pieces (lower old step)) steps in
          let parts = subst (AllByRecursion (Fits code e address)) (fields_first p is_function [] code e address from step steps) fit in
          let same = same_size p is_function code e address step from (both_front (Fits code e address) own later parts) in
          checks_told steps (from + size_of_pieces (lower old step)) (there + size_of_pieces (lower (with_symbols p is_function address) step)) (omega (arith, is, same))
          (both_back (Fits code e address) own later parts) stand.1 told

-- ---- the image

told_if : (text : Bool) → text ≡ true → (P : Spot4 → Type 0) (g : Spot3 → Spot4) (ps : List Spot3) → AllByRecursion P (if (text && not (length ps == 0)) then map g ps else [])
    → AllByRecursion (λ (s : Spot3). P (g s)) ps
told_if text is P g [] all = tt
told_if text is P g (x ∷ ps) all =
    let some : (length (x ∷ ps) == 0) ≡ false = grind (arith, nat_tests) in
    let yes : (text && not (length (x ∷ ps) == 0)) ≡ true = (λ i. is i && not (some i)) in
    all_mapped P g (x ∷ ps) (subst (λ b. AllByRecursion P (if b then map g (x ∷ ps) else [])) yes all)

module _ (os : List Object) (v : Image) (linked : AreLinked os v) (k : ℕ) (o : Object) (there : slice_get os k ≡ Some o) where
  abbrev link : Link
  link = plan_of os

  abbrev code : ℕ
  code = (part_of link k).code

  abbrev calls : ℕ → ℕ
  calls = seen_in os link k true

  abbrev others : ℕ → ℕ
  others = seen_in os link k false

  abbrev Told : Spot3 → Type 0
  Told spot = FoundIn v.places (place_at code (file_in os k) spot)

  all_fit : FixesFit os link k o
  all_fit = (let g = got os k o there in fixes_fit os link k o (passed os v linked).far g.less (sym (g.is o)))

  spots_told : is_some_text o.file ≡ true → AllByRecursion Told o.places
  spots_told named =
      let all = each_found (length v.files) 0 v.places (formed os v linked).places in
      let of_plan : v.places ≡ places os link = ap (λ (w : Image). w.places) (passed os v linked).image in
      told_if (is_some_text o.file) named (FoundIn v.places) (place_at code (file_in os k)) o.places
      (of_first (FoundIn v.places) (places_of os link) os (subst (AllByRecursion (FoundIn v.places)) of_plan all) k o there)

  module _ (is_function : ℕ → Bool) (unit : List Coded) (is : IsUnit is_function unit o) (at : ℕ) (c : Coded) (stands : StandsAt is_function unit at c) where
    unit_fits : AllByRecursion (Fits code calls others) (unit_fixes is_function 0 unit)
    unit_fits =
        let both = subst (AllByRecursion (FitsLink os link k o)) is.fixes (all_each (FitsLink os link k o) o.fixes all_fit.each) in
        fields_fit os link k o is.instrumented (unit_fields is_function 0 unit) (each_front (FitsLink os link k o) (unit_fixes is_function 0 unit) is.stored both)

    divided_fits : AllByRecursion (Fits code calls others) (unit_fixes is_function 0 (stands.before ++ (c ∷ stands.behind)))
    divided_fits = subst (λ (cs : List Coded). AllByRecursion (Fits code calls others) (unit_fixes is_function 0 cs)) stands.is unit_fits

    at_is : behind_all is_function 0 stands.before ≡ at
    at_is = behind_length is_function 0 stands.before ∙ ((let e : 0 + length (unit_bytes is_function 0 stands.before) ≡ length (unit_bytes is_function 0 stands.before) = omega arith in e) ∙ sym stands.offset)

    own_fits : AllByRecursion (Fits code calls others) (map fix_of (fields_from is_function at c))
    own_fits = subst (λ (n : ℕ). AllByRecursion (Fits code calls others) (map fix_of (fields_from is_function n c))) at_is
        (fixes_there is_function (Fits code calls others) 0 stands.before c stands.behind divided_fits)

    own_spots : AllByRecursion Told (spots_from is_function at c)
    own_spots =
        let all = subst (AllByRecursion Told) is.places (spots_told is.file) in
        subst (λ (n : ℕ). AllByRecursion Told (spots_from is_function n c)) at_is
        (spots_there is_function Told 0 stands.before c stands.behind (subst (λ (cs : List Coded). AllByRecursion Told (unit_spots is_function 0 cs)) stands.is all))

    -- its bytes in the image, and how far they go
    record HasBytes : Type 0 where
      bytes : list_at (length (linked_from is_function code calls others at c)) (bytes_in v) (code + at) ≡ linked_from is_function code calls others at c
      within : at + length (linked_from is_function code calls others at c) ≤ length o.code

    has_bytes : HasBytes
    has_bytes =
        let before = stands.before in
        let behind = stands.behind in
        let m = bytes_in v in
        let front = linked_unit is_function code calls others 0 before in
        let start = behind_all is_function 0 before in
        let mine = linked_from is_function code calls others start c in
        let rest = linked_unit is_function code calls others (past is_function start c) behind in
        let whole : fixed_part os link k o 1 ≡ front ++ (mine ++ rest) =
        object_linked os link k o is_function unit is.stored is.instrumented is.code is.fixes is.of_data all_fit
        ∙ (ap (λ (cs : List Coded). linked_unit is_function code calls others 0 cs) stands.is ∙ linked_parts is_function code calls others 0 before c behind) in
        let holds = subst (λ (l : List ℕ). list_at (length l) m code ≡ l) whole ((parts_stand os v linked).code k o there) in
        let own = (parts_of_list m (code + length front) mine rest (parts_of_list m code front (mine ++ rest) holds).1).0 in
        let front_is : length front ≡ at =
        linked_length is_function code calls others 0 before (fixes_before is_function (Fits code calls others) 0 before (c ∷ behind) divided_fits) ∙ sym stands.offset in
        let moved = subst (λ (n : ℕ). list_at (length mine) m (code + n) ≡ mine) front_is own in
        let size : length (fixed_part os link k o 1) ≡ length o.code = code_length os link k o in
        let parts : length (fixed_part os link k o 1) ≡ length front + (length mine + length rest) = ap length whole ∙ (length-append front (mine ++ rest) ∙ ap (λ (n : ℕ). length front + n) (length-append mine rest)) in
        let room : at + length mine ≤ length o.code = omega (arith, size, parts, front_is) in
        record {
          bytes = subst (λ (n : ℕ). list_at (length (linked_from is_function code calls others n c)) m (code + at) ≡ linked_from is_function code calls others n c) at_is moved;
          within = subst (λ (n : ℕ). at + length (linked_from is_function code calls others n c) ≤ length o.code) at_is room;
        }

    module _ (noted : LabelsAreNoted c) (number : ℕ → ℕ) (stand : AllStandIn (number (file_in os k)) c.fun.steps) (entry_at : ℕ → ℕ) (leads : CallsLead is_function at c calls entry_at) (first last : ℕ → ℕ) where
      abbrev old : Plan
      old = unlinked_plan c.plan is_function

      abbrev laid : Layout
      laid = layout_at is_function code others first last at c

      alike : AllByRecursion (λ (x : Fix). fix_target code calls others x ≡ fix_target code entry_at others x) (map fix_of (fields_from is_function at c))
      alike = fields_alike code calls entry_at others (fields_from is_function at c) (all_each (λ (f : Field). f.relative ≡ true → calls f.symbol ≡ entry_at f.symbol) (fields_from is_function at c) leads)

      entries_fit : AllByRecursion (Fits code entry_at others) (map fix_of (fields_from is_function at c))
      entries_fit = fit_too code calls entry_at others (map fix_of (fields_from is_function at c)) alike own_fits

      same_bytes : linked_from is_function code calls others at c ≡ bytes_of_function c.fun c.parameters laid entry_at (code + at)
      same_bytes = bytes_alike c.plan is_function code others c.fun c.parameters c.units first last c.labels at calls entry_at alike own_fits

      steps_are : steps_at c.fun c.parameters laid (code + at) ≡ code + u.steps_at old c.fun c.parameters c.units at
      steps_are =
          let same = ap size_of_pieces (same_homing c.plan is_function (λ s. 0) others c.fun.private c.parameters) in
          steps_there code at (size_of_pieces (plain (inner_entry c.fun.frame c.units))) _ _ same

      tells : AllByRecursion (Tells (accesses_of number v)) (places_of_steps laid.plan (steps_at c.fun c.parameters laid (code + at)) c.fun.steps)
      tells =
          let from = u.steps_at old c.fun c.parameters c.units at in
          checks_told c.plan is_function code others c.fun c.parameters c.units first last c.labels at v number (file_in os k) entry_at c.fun.steps from (steps_at c.fun c.parameters laid (code + at)) steps_are
          entries_fit stand (all_mapped Told spot_of (places_of_steps old from c.fun.steps) own_spots)

      ends : laid.label_at laid.plan.exit ≡ return_at c.fun c.parameters laid (code + at)
      ends = exit_here c.plan is_function code entry_at others c.fun c.parameters c.units first last c.labels at noted.fit (each_all (Fits code entry_at others) (map fix_of (fields_from is_function at c)) entries_fit)

      ends_high : past_function c.fun c.parameters laid (code + at) ≤ 0x1100_0000
      ends_high =
          let long = bytes_long c.plan is_function code others c.fun c.parameters c.units first last c.labels at entry_at (code + at) in
          let same = ap length same_bytes in
          let within = has_bytes.within in
          let high = (code_lies os v linked k o there is.instrumented).high in
          omega (arith, long, same, within, high)

      return_low : code + u.return_at old c.fun c.parameters c.units at ≤ 0x1100_0000
      return_low =
          let from = u.steps_at old c.fun c.parameters c.units at in
          let many = labels_noted old from c.fun.steps c.labels in
          let exit_low : c.plan.exit < length many = subst (λ (n : ℕ). c.plan.exit < n) (sym (as_many c.plan is_function code entry_at others c.fun.steps from c.labels)) noted.fit.low in
          let stands_there = get_or-set_same many c.plan.exit (u.return_at old c.fun c.parameters c.units at) 0 exit_low in
          let there_is = sym (ap (λ (n : ℕ). code + n) stands_there) ∙ ends in
          let high = ends_high in
          omega (arith, there_is, high)

      labels_near : (j : ℕ) → laid.label_at j < 2 ^ 31
      labels_near j =
          let low = labels_low c.plan is_function code others c.fun c.parameters c.units first last c.labels at (all_each (λ (n : ℕ). n ≡ 0) c.labels noted.zeros) j in
          let high = return_low in
          omega (arith, low, high)

      are_there : AllValid laid.label_at entry_at (homing_at c.fun c.parameters laid (code + at)) (homing laid.plan c.fun.private c.parameters)
          → AllStepsValid laid.plan laid.label_at entry_at (steps_at c.fun c.parameters laid (code + at)) c.fun.steps
          → IsWritten c.fun c.parameters laid (bytes_in v) (accesses_of number v) entry_at (code + at)
      are_there homing_valid steps_valid = record {
        low = (let low = (code_lies os v linked k o there is.instrumented).low in omega (arith, low));
        high = ends_high;
        bytes = subst (λ (l : List ℕ). list_at (length l) (bytes_in v) (code + at) ≡ l) same_bytes has_bytes.bytes;
        homing_valid = homing_valid;
        steps_valid = steps_valid;
        here = function_here c.plan is_function code entry_at others c.fun c.parameters c.units first last c.labels (accesses_of number v) at noted.fit
            (each_all (Fits code entry_at others) (map fix_of (fields_from is_function at c)) entries_fit) (each_all (Tells (accesses_of number v)) _ tells);
        exit = ends;
        small_labels = λ j. (let low = labels_near j in omega (arith, low));
      }

pub are_written : (os : List Object) (v : Image) → AreLinked os v → (k : ℕ) (o : Object) → slice_get os k ≡ Some o
    → (is_function : ℕ → Bool) (unit : List Coded) → IsUnit is_function unit o → (at : ℕ) (c : Coded) → StandsAt is_function unit at c → LabelsAreNoted c
    → HomesAreNamed c.plan → pointers_of c.parameters ≤ 4
    → (number : ℕ → ℕ) → AllStandIn (number (file_in os k)) c.fun.steps
    → (entry_at : ℕ → ℕ) → CallsLead is_function at c (seen_in os (plan_of os) k true) entry_at → CallsAreNear entry_at c.fun.steps
    → (returns : ℕ → Bool) (takes : ℕ → List (ℕ × Option ℕ) → Bool)
    → AllLimited (λ symbol. located_at (is_function symbol) (seen_in os (plan_of os) k false symbol)) c.plan.pointer returns takes c.fun.steps
    → (first last : ℕ → ℕ)
    → IsWritten c.fun c.parameters (layout_at is_function (part_of (plan_of os) k).code (seen_in os (plan_of os) k false) first last at c) (bytes_in v) (accesses_of number v) entry_at ((part_of (plan_of os) k).code + at)
are_written os v linked k o there is_function unit is at c stands noted named few number stand entry_at leads near returns takes limited first last =
    let l = laid os v linked k o there is_function unit is at c stands noted number stand entry_at leads first last in
    let start = (part_of (plan_of os) k).code + at in
    let high = ends_high os v linked k o there is_function unit is at c stands noted number stand entry_at leads first last in
    let labels = labels_near os v linked k o there is_function unit is at c stands noted number stand entry_at leads first last in
    let plan_named : HomesAreNamed l.plan = record { homes = named.homes; spare = named.spare } in
    let homing_low : homing_at c.fun c.parameters l start + size_of_pieces (homing l.plan c.fun.private c.parameters) < 2 ^ 31 = omega (arith, high) in
    let steps_low : steps_at c.fun c.parameters l start + size_of_steps l.plan c.fun.steps < 2 ^ 31 = omega (arith, high) in
    are_there os v linked k o there is_function unit is at c stands noted number stand entry_at leads first last
    (homing_valid l.label_at entry_at l.plan plan_named (homing_at c.fun c.parameters l start) c.fun.private c.parameters few homing_low)
    (steps_valid l.label_at entry_at labels l.plan plan_named returns takes (steps_at c.fun c.parameters l start) c.fun.steps limited near steps_low)
