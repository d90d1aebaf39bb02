-- Each label is where it stands once its function is linked, and each check has its access.
use Rattle.std.specs.Prelude.{map, slice_set}
use Rattle.std.specs.List.{All, AllByRecursion}
use Rattle.std.proofs.Common.{◌≡◌, ◌≢◌, ℕ, zero, suc, ◌+◌, ◌<◌, Bool, Option, List, [], ◌∷◌, length, refl, arith, ap, ◌∙◌, sym, subst, length-set, get_or-set_same, get_or-set_other}
use Rattle.mx_base.specs.StopOfC.{AccessOfC}
use Rattle.obj_file.specs.declared.object.Fix.{Fix}
use Rattle.fat_ir.specs.declared.program.FatFun.{FatFun}
use Rattle.fat_ir.specs.declared.step.FatStep.{FatStep}
use Rattle.fat_ir.specs.declared.step.FatStep.TheVariants as s
use Rattle.fat_ir.specs.Functions.{Parameter}
use Rattle.fat_ir.specs.Laws.{LacksLabel}
use Rattle.step_code.specs.Steps.{Plan, lower, end_pieces}
use Rattle.step_code.specs.Entry.{inner_entry}
use Rattle.step_code.specs.Functions.{plain, Layout, steps_at, return_at}
use Rattle.step_code.specs.Bytes.{size_of_pieces, size_of_steps, places_of_steps, AllHere}
use Rattle.code_emit.specs.Unlinked.{label_at, labels_noted, function_labels, fields_of_step, fields_of_steps}
use Rattle.code_emit.specs.Unlinked as u
use Rattle.linked_code.specs.Filled.{with_symbols, unlinked_plan, linked_layout, fix_of, fixes_of_function, Fits}
use Rattle.linked_code.specs.Labelled.{EachOnce, LabelsFit, Tells}
use Rattle.linked_code.proofs.Bytes.{all_each, each_front, each_behind}
use Rattle.linked_code.proofs.Same.{same_homing}
use Rattle.linked_code.proofs.Going.{step_goes, steps_go, fields_first}

pub zeros : ℕ → List ℕ
zeros zero = []
zeros (suc n) = 0 ∷ zeros n

pub length_zeros : (n : ℕ) → length (zeros n) ≡ n
unfolding zeros
length_zeros zero = refl
length_zeros (suc n) = ap suc (length_zeros n)

pub further : (code at there m n : ℕ) → there ≡ code + at → m ≡ n → there + n ≡ code + (at + m)
further code at there m n is same = omega (arith, is, same)

pub steps_there : (code at a m n : ℕ) → m ≡ n → code + at + a + n ≡ code + (at + a + m)
steps_there code at a m n same = omega (arith, same)

end_there : (code at a m n s t e : ℕ) → m ≡ n → s ≡ t → code + (at + a + m + s + e) ≡ code + at + a + n + t + e
end_there code at a m n s t e same also = omega (arith, same, also)

module _ (p : Plan) (is_function : ℕ → Bool) (code : ℕ) (entry_at address : ℕ → ℕ) where
  abbrev pub old : Plan
  old = unlinked_plan p is_function

  abbrev pub new : Plan
  new = with_symbols p is_function address

  abbrev pub Fit : List Fix → Type 0
  Fit fixes = AllByRecursion (Fits code entry_at address) fixes

  abbrev pub fixes_from : ℕ → List FatStep → List Fix
  fixes_from at steps = map fix_of (fields_of_steps old at steps)

  pub same_size : (step : FatStep) (at : ℕ) → Fit (map fix_of (fields_of_step old at step)) → size_of_pieces (lower old step) ≡ size_of_pieces (lower new step)
  same_size step at fit =
      let fit_there = subst (λ (n : ℕ). Fit (map fix_of (fields_of_step old n step))) (sym (length_zeros at)) fit in
      (step_goes p is_function [] code entry_at address step (zeros at) [] fit_there).1

  pub same_sizes : (steps : List FatStep) (at : ℕ) → Fit (fixes_from at steps) → size_of_steps old steps ≡ size_of_steps new steps
  same_sizes steps at fit =
      let fit_there = subst (λ (n : ℕ). Fit (fixes_from n steps)) (sym (length_zeros at)) fit in
      (steps_go p is_function [] code entry_at address steps (zeros at) [] fit_there).1

  -- ---- labels

  kept : (n : ℕ) (steps : List FatStep) (at : ℕ) (labels : List ℕ) → LacksLabel n steps → label_at (labels_noted old at steps labels) n ≡ label_at labels n
  kept n [] at labels lacks = refl
  kept n (s.Label m ∷ steps) at labels lacks = kept n steps (at + size_of_pieces (lower old (s.Label m))) (slice_set labels m at) lacks.1 ∙ get_or-set_other labels m n at 0 lacks.0
  kept n (step ∷ steps) at labels lacks = kept n steps (at + size_of_pieces (lower old step)) labels lacks

  pub as_many : (steps : List FatStep) (at : ℕ) (labels : List ℕ) → length (labels_noted old at steps labels) ≡ length labels
  as_many [] at labels = refl
  as_many (s.Label m ∷ steps) at labels = as_many steps (at + size_of_pieces (lower old (s.Label m))) (slice_set labels m at) ∙ length-set labels m at
  as_many (step ∷ steps) at labels = as_many steps (at + size_of_pieces (lower old step)) labels

  module _ (access_of : ℕ → Option AccessOfC) (exit end limit : ℕ) where
    abbrev Told : List (ℕ × AccessOfC) → Type 0
    Told checks = AllByRecursion (Tells access_of) checks

    abbrev final : (at : ℕ) → List FatStep → List ℕ → ℕ → ℕ
    final at steps labels k = code + label_at (slice_set (labels_noted old at steps labels) exit end) k

    all_here : (steps : List FatStep) (at there : ℕ) (labels : List ℕ) → there ≡ code + at → length labels ≡ limit → LacksLabel exit steps → EachOnce limit steps
        → Fit (fixes_from at steps) → Told (places_of_steps new there steps) → AllHere new (final at steps labels) access_of there steps
    all_here [] at there labels is long own once fit told = tt
    all_here (s.Label n ∷ steps) at there labels is long own once fit told =
        let next = at + size_of_pieces (lower old (s.Label n)) in
        let now = slice_set labels n at in
        let low : n < length labels = subst (λ (k : ℕ). n < k) (sym long) once.0 in
        let apart : n ≢ exit = λ same. own.0 (sym same) in
        let stands : label_at (slice_set (labels_noted old next steps now) exit end) n ≡ at =
        get_or-set_other (labels_noted old next steps now) exit n end 0 apart ∙ kept n steps next now once.1 ∙ get_or-set_same labels n at 0 low in (
          ap (λ (m : ℕ). code + m) stands ∙ sym is,
          all_here steps next (there + size_of_pieces (lower new (s.Label n))) now (further code at there _ _ is refl) (length-set labels n at ∙ long) own.1 once.2 fit told,
        )
    all_here (s.Judge value size bounds write place ∷ steps) at there labels is long own once fit told =
        let step = s.Judge value size bounds write place in (
          (told.0, told.1.0),
          all_here steps (at + size_of_pieces (lower old step)) (there + size_of_pieces (lower new step)) labels (further code at there _ _ is refl) long own once fit told.1.1,
        )
    all_here (step ∷ steps) at there labels is long own once fit told =
        let size = size_of_pieces (lower old step) in
        let fixes = map fix_of (fields_of_step old at step) in
        let fit_both = subst (λ (l : List Fix). Fit l) (fields_first p is_function [] code entry_at address at step steps) fit in
        let same = same_size step at (each_front (Fits code entry_at address) fixes (fixes_from (at + size) steps) fit_both) in (
          tt,
          all_here steps (at + size) (there + size_of_pieces (lower new step)) labels (further code at there size (size_of_pieces (lower new step)) is same) long own once
              (each_behind (Fits code entry_at address) fixes (fixes_from (at + size) steps) fit_both) told,
        )

  -- ---- functions

  abbrev layout : FatFun → List Parameter → (units : ℕ) → (first last : ℕ → ℕ) → (labels : List ℕ) → (at : ℕ) → Layout
  layout f parameters units first last labels at = linked_layout new units first last code (function_labels old f parameters units at labels)

  pub function_here : (f : FatFun) (parameters : List Parameter) (units : ℕ) (first last : ℕ → ℕ) (labels : List ℕ) (access_of : ℕ → Option AccessOfC) (at : ℕ)
      → LabelsFit p.exit (length labels) f.steps → All (Fits code entry_at address) (fixes_of_function p is_function f parameters units at)
      → All (Tells access_of) (places_of_steps new (steps_at f parameters (layout f parameters units first last labels at) (code + at)) f.steps)
      → AllHere new (layout f parameters units first last labels at).label_at access_of (steps_at f parameters (layout f parameters units first last labels at) (code + at)) f.steps
  function_here f parameters units first last labels access_of at labelled fits tells =
      let same = ap size_of_pieces (same_homing p is_function (λ s. 0) address f.private parameters) in
      let there = steps_there code at (size_of_pieces (plain (inner_entry f.frame units))) _ _ same in
      all_here access_of p.exit (u.return_at old f parameters units at) (length labels) f.steps (u.steps_at old f parameters units at) (steps_at f parameters (layout f parameters units first last labels at) (code + at))
      labels there refl labelled.own labelled.once (all_each (Fits code entry_at address) _ fits) (all_each (Tells access_of) _ tells)

  pub exit_here : (f : FatFun) (parameters : List Parameter) (units : ℕ) (first last : ℕ → ℕ) (labels : List ℕ) (at : ℕ)
      → LabelsFit p.exit (length labels) f.steps → All (Fits code entry_at address) (fixes_of_function p is_function f parameters units at)
      → (layout f parameters units first last labels at).label_at p.exit ≡ return_at f parameters (layout f parameters units first last labels at) (code + at)
  exit_here f parameters units first last labels at labelled fits =
      let noted = labels_noted old (u.steps_at old f parameters units at) f.steps labels in
      let low : p.exit < length noted = subst (λ (k : ℕ). p.exit < k) (sym (as_many f.steps (u.steps_at old f parameters units at) labels)) labelled.low in
      let same = ap size_of_pieces (same_homing p is_function (λ s. 0) address f.private parameters) in
      let also = same_sizes f.steps (u.steps_at old f parameters units at) (all_each (Fits code entry_at address) _ fits) in
      ap (λ (n : ℕ). code + n) (get_or-set_same noted p.exit (u.return_at old f parameters units at) 0 low)
      ∙ end_there code at (size_of_pieces (plain (inner_entry f.frame units))) _ _ _ _ (size_of_pieces end_pieces) same also
