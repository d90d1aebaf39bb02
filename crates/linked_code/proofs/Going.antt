-- The bytes of steps before the link, with the fields of each filled, are those after it.
use Rattle.std.specs.Prelude.{ℤ, pos, ◌+ℤ◌, IsTrue, map}
use Rattle.std.specs.List.{All, AllByRecursion}
use Rattle.std.proofs.Common.{◌≡◌, ℕ, suc, ◌+◌, ◌^◌, ◌<◌, Bool, true, false, Option, None, Some, List, [], ◌∷◌, ◌++◌, length, refl, arith, ap, ◌∙◌, sym, subst, append_assoc, length-append}
use Rattle.std.proofs.lemmas.Bool.Decides.{nat_tests}
use Rattle.std.proofs.lemmas.Grind.{common_steps}
use Rattle.std.proofs.lemmas.Int.{ints}
use Rattle.std.proofs.lemmas.List.{map-append}
use Rattle.std.proofs.lemmas.List.Sums.{fold-append}
use Rattle.mx_base.specs.Numbers.{is_signed}
use Rattle.obj_file.specs.declared.object.Fix.{Fix}
use Rattle.x86_forms.specs.declared.instr.Instr.TheVariants.{MovImm, Lea, AluTo, Set, Movzx}
use Rattle.x86_forms.specs.Examples.{reg, in_reg, based}
use Rattle.x86_forms.specs.Spelling.{low_bytes}
use Rattle.fat_ir.specs.declared.program.FatFun.{FatFun}
use Rattle.fat_ir.specs.declared.step.FatStep.{FatStep}
use Rattle.fat_ir.specs.declared.step.FatStep.TheVariants as s
use Rattle.fat_ir.specs.Functions.{Parameter}
use Rattle.step_code.specs.declared.pieces.Piece.{Piece}
use Rattle.step_code.specs.declared.pieces.Piece.TheVariants.{Plain, Serve, CallTo}
use Rattle.step_code.specs.Pieces.{relative}
use Rattle.step_code.specs.Steps.{Plan, lower, get, get_bounds, put, put_bounds, extend_instr, operation, condition, load_args, put_number_at, put_pair_at, located_piece, located_bounds, needs_words, service_number, lower_give, end_pieces}
use Rattle.step_code.specs.Entry.{inner_entry, inner_return}
use Rattle.step_code.specs.Functions.{plain, bytes_of_function}
use Rattle.step_code.specs.Homing.{homing}
use Rattle.step_code.specs.Bytes.{size_of_piece, size_of_pieces, bytes_of_pieces, size_of_steps, bytes_of_steps}
use Rattle.step_code.proofs.Sizes.{four_bytes, length_bytes}
use Rattle.code_emit.specs.Unlinked.{unlinked_pieces, unlinked_steps, unlinked_function, fields_of_step, fields_of_steps}
use Rattle.code_emit.proofs.Loops.{length_unlinked}
use Rattle.obj_linker.specs.Fixing.{fits, with_field}
use Rattle.linked_code.specs.Filled.{located_at, with_symbols, unlinked_plan, linked_layout, fix_of, fixes_of_function, fix_value, Fits, filled, all_filled}
use Rattle.linked_code.proofs.Bytes.{all_each, each_front, each_behind, field_in_piece, four_low, call_bytes, move_bytes}
use Rattle.linked_code.proofs.Quiet as q
use Rattle.linked_code.proofs.Quiet.{Quiet, linked_labels, quiet_bytes, unlinked_append, bytes_append}
use Rattle.linked_code.proofs.Same as e

located_move : (function : Bool) (a : ℕ) → located_piece (located_at function a) ≡ Plain (MovImm 64 (reg 0) (pos a))
located_move true a = refl
located_move false a = refl

same_bounds : (function : Bool) (a b size : ℕ) → located_bounds (located_at function a) size ≡ located_bounds (located_at function b) size
same_bounds true a b size = refl
same_bounds false a b size = refl

quiet_bounds : (function : Bool) (a size : ℕ) (rest : List Piece) → Quiet rest → Quiet (located_bounds (located_at function a) size ∷ rest)
quiet_bounds true a size rest quiet = (tt, quiet)
quiet_bounds false a size rest quiet = (tt, quiet)

six : (symbol : ℕ) → size_of_piece (CallTo symbol) ≡ 6
six symbol = ap length (call_bytes (relative 0 0)) ∙ ap (λ (n : ℕ). suc (suc n)) (four_bytes (relative 0 0))

seven : (a : ℕ) → a < 2 ^ 31 → size_of_piece (Plain (MovImm 64 (reg 0) (pos a))) ≡ 7
seven a few = ap length (move_bytes a few) ∙ ap (λ (n : ℕ). suc (suc (suc n))) (four_bytes (pos a))

between : (before entry homed steps last behind : List ℕ) → before ++ ((entry ++ (homed ++ (steps ++ last))) ++ behind) ≡ ((before ++ entry) ++ homed) ++ (steps ++ (last ++ behind))
between before entry homed steps last behind =
    ap (λ (l : List ℕ). before ++ l) (append_assoc entry (homed ++ (steps ++ last)) behind
    ∙ ap (λ (l : List ℕ). entry ++ l) (append_assoc homed (steps ++ last) behind ∙ ap (λ (l : List ℕ). homed ++ l) (append_assoc steps last behind)))
    ∙ sym (append_assoc before entry (homed ++ (steps ++ (last ++ behind))))
    ∙ sym (append_assoc (before ++ entry) homed (steps ++ (last ++ behind)))

sums : (a b c : ℕ) → a + b + c ≡ a + (b + c)
sums a b c = omega arith

four_sums : (code at a m n : ℕ) → m ≡ n → code + (at + a + m) ≡ code + at + a + n
four_sums code at a m n is = omega (arith, is)

five_sums : (code at a m n s t : ℕ) → m ≡ n → s ≡ t → code + (at + a + m + s) ≡ code + at + a + n + t
five_sums code at a m n s t is same = omega (arith, is, same)

right_sum : (code at m n : ℕ) → m ≡ n → code + (at + m) ≡ code + at + n
right_sum code at m n is = omega (arith, is)

module _ (p : Plan) (is_function : ℕ → Bool) (labels : List ℕ) (code : ℕ) (entry_at address : ℕ → ℕ) where
  abbrev old : Plan
  old = unlinked_plan p is_function

  abbrev new : Plan
  new = with_symbols p is_function address

  abbrev at_labels : ℕ → ℕ
  at_labels = linked_labels labels code entry_at

  abbrev linked : ℕ → List Piece → List ℕ
  linked at ps = bytes_of_pieces at_labels entry_at (code + at) ps

  abbrev Fit : List Fix → Type 0
  Fit fixes = AllByRecursion (Fits code entry_at address) fixes

  abbrev fill : List ℕ → List Fix → List ℕ
  fill bytes fixes = all_filled code entry_at address bytes fixes

  abbrev fixes_at : ℕ → FatStep → List Fix
  fixes_at at step = map fix_of (fields_of_step old at step)

  abbrev FilledStep : FatStep → (before behind : List ℕ) → Type 0
  FilledStep step before behind =
      fill (before ++ (unlinked_pieces labels (length before) (lower old step) ++ behind)) (fixes_at (length before) step)
      ≡ before ++ (linked (length before) (lower new step) ++ behind)

  abbrev Goes : FatStep → Type 0
  Goes step = (before behind : List ℕ) → Fit (fixes_at (length before) step)
      → FilledStep step before behind × (size_of_pieces (lower old step) ≡ size_of_pieces (lower new step))

  abbrev HasNoFields : FatStep → Type 0
  HasNoFields step = (at : ℕ) → fixes_at at step ≡ []

  -- a step without fields
  alike : (step : FatStep) → HasNoFields step → lower old step ≡ lower new step → Quiet (lower new step) → Goes step
  alike step none same quiet before behind fit = (
    (λ i. fill (before ++ (unlinked_pieces labels (length before) (same i) ++ behind)) (none (length before) i))
        ∙ ap (λ (l : List ℕ). before ++ (l ++ behind)) (quiet_bytes labels code entry_at (lower new step) quiet (length before) (code + length before) refl),
    ap size_of_pieces same,
  )

  -- ---- a call

  abbrev call_fix : (offset symbol : ℕ) → Fix
  call_fix offset symbol = record { part = 1; offset = offset; form = 2; symbol = symbol; addend = pos 0 }

  call_filled : (symbol : ℕ) (first rest : List Piece) → Quiet first → Quiet rest → (before behind : List ℕ) → Fits code entry_at address (call_fix (length before + size_of_pieces first + 2) symbol)
      → filled code entry_at address (before ++ (unlinked_pieces labels (length before) (first ++ (CallTo symbol ∷ rest)) ++ behind)) (call_fix (length before + size_of_pieces first + 2) symbol)
      ≡ before ++ (linked (length before) (first ++ (CallTo symbol ∷ rest)) ++ behind)
  call_filled symbol first rest quiet quiet_rest before behind fit =
      let at = length before in
      let offset = at + size_of_pieces first + 2 in
      let value = fix_value code entry_at address (call_fix offset symbol) in
      let size = size_of_piece (CallTo symbol) in
      let z = relative (entry_at symbol) (code + at + size_of_pieces first + size) in
      let ours = unlinked_pieces labels at first in
      let more = unlinked_pieces labels (at + size_of_pieces first + size) rest in
      let head : List ℕ = 0xF2 ∷ 0xE8 ∷ [] in
      let long : size ≡ 6 = six symbol in
      let same : value ≡ z = omega (arith, ints) in
      let place : offset ≡ length before + length ours + 2 = ap (λ (n : ℕ). at + n + 2) (sym (length_unlinked labels at first)) in
      let there : code + at + size_of_pieces first + size ≡ code + (at + size_of_pieces first + size) = omega arith in
      let calm = quiet_bytes labels code entry_at first quiet at (code + at) refl in
      let calm_rest = quiet_bytes labels code entry_at rest quiet_rest (at + size_of_pieces first + size) (code + at + size_of_pieces first + size) there in
      (λ i. with_field (before ++ ((unlinked_append labels at first (CallTo symbol ∷ rest) ∙ ap (λ (l : List ℕ). ours ++ (l ++ more)) (call_bytes (pos 0))) i ++ behind)) offset ((four_low value fit ∙ ap (low_bytes 4) same) i))
      ∙ field_in_piece before ours head (low_bytes 4 (pos 0)) (low_bytes 4 z) more behind offset place (four_bytes z ∙ sym (four_bytes (pos 0)))
      ∙ (λ i. before ++ ((calm i ++ (sym (call_bytes z) i ++ calm_rest i)) ++ behind))
      ∙ ap (λ (l : List ℕ). before ++ (l ++ behind)) (sym (bytes_append at_labels entry_at (code + at) first (CallTo symbol ∷ rest)))

  call_goes : (symbol : ℕ) (args : List (ℕ × Option ℕ)) (to bounds : Option ℕ) → Goes (s.Call symbol args to bounds)
  call_goes symbol args to bounds before behind fit =
      let first = e.same_args p is_function (λ s. 0) address args 0 0 in
      let rest = ap (λ (l : List Piece). put_number_at old to l) (e.same_pair_at p is_function (λ s. 0) address bounds) ∙ e.same_number_at p is_function (λ s. 0) address to (put_pair_at new bounds) in
      let same : lower old (s.Call symbol args to bounds) ≡ lower new (s.Call symbol args to bounds) = λ i. first i ++ (CallTo symbol ∷ rest i) in
      let fields : fixes_at (length before) (s.Call symbol args to bounds) ≡ call_fix (length before + size_of_pieces (load_args new args 0 0) + 2) symbol ∷ [] =
      ap (λ (l : List Piece). call_fix (length before + size_of_pieces l + 2) symbol ∷ []) first in
      let fits_new = subst (λ (l : List Fix). Fit l) fields fit in (
        (λ i. fill (before ++ (unlinked_pieces labels (length before) (same i) ++ behind)) (fields i))
            ∙ call_filled symbol (load_args new args 0 0) (put_number_at new to (put_pair_at new bounds)) (q.quiet_args new args 0 0) (q.quiet_number_at new to _ (q.quiet_pair_at new bounds)) before behind fits_new.0,
        ap size_of_pieces same,
      )

  -- ---- the address of a symbol

  abbrev place_fix : (offset symbol : ℕ) → Fix
  place_fix offset symbol = record { part = 1; offset = offset; form = 1; symbol = symbol; addend = pos 0 }

  abbrev move : ℕ → Piece
  move a = Plain (MovImm 64 (reg 0) (pos a))

  few_address : (offset symbol : ℕ) → Fits code entry_at address (place_fix offset symbol) → address symbol < 2 ^ 31
  few_address offset symbol fit =
      let same : pos (address symbol) +ℤ pos 0 ≡ pos (address symbol) = omega (arith, ints) in
      let fit_alone : IsTrue (fits 1 (pos (address symbol))) = subst (λ (z : ℤ). IsTrue (fits 1 z)) same fit in
      grind (arith, nat_tests, common_steps, fit_alone)

  move_filled : (symbol : ℕ) (rest : List Piece) → Quiet rest → (before behind : List ℕ) → Fits code entry_at address (place_fix (length before + 3) symbol)
      → filled code entry_at address (before ++ (unlinked_pieces labels (length before) (move 0 ∷ rest) ++ behind)) (place_fix (length before + 3) symbol)
      ≡ before ++ (linked (length before) (move (address symbol) ∷ rest) ++ behind)
  move_filled symbol rest quiet before behind fit =
      let at = length before in
      let value = fix_value code entry_at address (place_fix (at + 3) symbol) in
      let a = address symbol in
      let few : a < 2 ^ 31 = few_address (at + 3) symbol fit in
      let none : 0 < 2 ^ 31 = omega arith in
      let head : List ℕ = 0x48 ∷ 0xC7 ∷ 0xC0 ∷ [] in
      let more = unlinked_pieces labels (at + size_of_piece (move 0)) rest in
      let long : size_of_piece (move a) ≡ 7 = seven a few in
      let long_0 : size_of_piece (move 0) ≡ 7 = seven 0 none in
      let same : value ≡ pos a = omega (arith, ints) in
      let place : at + 3 ≡ at + 0 + 3 = omega arith in
      let there : code + at + size_of_piece (move a) ≡ code + (at + size_of_piece (move 0)) = omega (arith, long, long_0) in
      let calm_rest = quiet_bytes labels code entry_at rest quiet (at + size_of_piece (move 0)) (code + at + size_of_piece (move a)) there in
      (λ i. with_field (before ++ ((move_bytes 0 none i ++ more) ++ behind)) (at + 3) ((four_low value fit ∙ ap (low_bytes 4) same) i))
      ∙ field_in_piece before [] head (low_bytes 4 (pos 0)) (low_bytes 4 (pos a)) more behind (at + 3) place (four_bytes (pos a) ∙ sym (four_bytes (pos 0)))
      ∙ (λ i. before ++ ((sym (move_bytes a few) i ++ calm_rest i) ++ behind))

  place_goes : (to bounds symbol offset size : ℕ) → Goes (s.Place to bounds (Some symbol) offset size)
  place_goes to bounds symbol offset size before behind fit =
      let here = is_function symbol in
      let a = address symbol in
      let few : a < 2 ^ 31 = few_address (length before + 3) symbol fit.0 in
      let none : 0 < 2 ^ 31 = omega arith in
      let rest : List Piece = Plain (Lea (reg 0) (based 0 (pos offset))) ∷ put (p.home to) 0 ∷ located_bounds (located_at here a) size ∷ put_bounds (p.home bounds) 0 ∷ [] in
      let last : Quiet (put_bounds (p.home bounds) 0 ∷ []) = (q.quiet_put_bounds (p.home bounds) 0, tt) in
      let quiet : Quiet rest = (tt, (q.quiet_put (p.home to) 0, quiet_bounds here a size (put_bounds (p.home bounds) 0 ∷ []) last)) in
      let before_link : lower old (s.Place to bounds (Some symbol) offset size) ≡ move 0 ∷ rest =
      λ i. located_move here 0 i ∷ Plain (Lea (reg 0) (based 0 (pos offset))) ∷ put (p.home to) 0 ∷ same_bounds here 0 a size i ∷ put_bounds (p.home bounds) 0 ∷ [] in
      let after_link : lower new (s.Place to bounds (Some symbol) offset size) ≡ move a ∷ rest = λ i. located_move here a i ∷ rest in
      let long : size_of_piece (move 0) ≡ size_of_piece (move a) = seven 0 none ∙ sym (seven a few) in (
        (λ i. filled code entry_at address (before ++ (unlinked_pieces labels (length before) (before_link i) ++ behind)) (place_fix (length before + 3) symbol))
            ∙ move_filled symbol rest quiet before behind fit.0
            ∙ ap (λ (l : List Piece). before ++ (linked (length before) l ++ behind)) (sym after_link),
        ap size_of_pieces before_link ∙ ap (λ (n : ℕ). n + size_of_pieces rest) long ∙ ap size_of_pieces (sym after_link),
      )

  -- ---- each kind of step

  quiet_give : (from bounds : Option ℕ) → Quiet (lower_give new from bounds)
  quiet_give (Some a) None = (q.quiet_get 0 (p.home a), (tt, tt))
  quiet_give (Some a) (Some b) = (q.quiet_get 0 (p.home a), (q.quiet_get_bounds 0 (p.home b), (tt, tt)))
  quiet_give None None = (tt, (tt, (tt, tt)))
  quiet_give None (Some b) = tt

  pub step_goes : (step : FatStep) → Goes step
  step_goes (s.Const to n) = alike (s.Const to n) (λ at. refl) refl (tt, (q.quiet_put (p.home to) 0, tt))
  step_goes (s.Copy to from) =
      let pair : List Piece = get_bounds 0 (p.home from) ∷ put_bounds (p.home to) 0 ∷ [] in
      let number : List Piece = get 0 (p.home from) ∷ put (p.home to) 0 ∷ [] in
      let quiet_pair : Quiet pair = (q.quiet_get_bounds 0 (p.home from), (q.quiet_put_bounds (p.home to) 0, tt)) in
      let quiet_number : Quiet number = (q.quiet_get 0 (p.home from), (q.quiet_put (p.home to) 0, tt)) in
      alike (s.Copy to from) (λ at. refl) refl (q.quiet_if (p.is_bounds to) pair number quiet_pair quiet_number)
  step_goes (s.Arith to op kind a b) =
      let last : List Piece = Plain (extend_instr kind 0) ∷ put (p.home to) 0 ∷ [] in
      let quiet : Quiet last = (tt, (q.quiet_put (p.home to) 0, tt)) in
      alike (s.Arith to op kind a b) (λ at. refl) (e.same_two p is_function (λ s. 0) address (needs_words op) kind a b (operation op kind last))
      (q.quiet_two new (needs_words op) kind a b (operation op kind last) (q.quiet_operation op kind last quiet))
  step_goes (s.Compare to op kind a b) =
      let last : List Piece = Plain (AluTo 5 64 (reg 1) (in_reg 0)) ∷ Plain (Set (condition op (is_signed kind)) (in_reg 0)) ∷ Plain (Movzx 8 (reg 0) (in_reg 0)) ∷ put (p.home to) 0 ∷ [] in
      let quiet : Quiet last = (tt, (tt, (tt, (q.quiet_put (p.home to) 0, tt)))) in
      alike (s.Compare to op kind a b) (λ at. refl) refl (q.quiet_two new true kind a b last quiet)
  step_goes (s.Extend to from kind) = alike (s.Extend to from kind) (λ at. refl) refl (q.quiet_get 0 (p.home from), (tt, (q.quiet_put (p.home to) 0, tt)))
  step_goes (s.Place to bounds None offset size) = alike (s.Place to bounds None offset size) (λ at. refl) refl (tt, (tt, (q.quiet_put (p.home to) 0, (tt, (q.quiet_put_bounds (p.home bounds) 0, tt)))))
  step_goes (s.Place to bounds (Some symbol) offset size) = place_goes to bounds symbol offset size
  step_goes (s.Make to x n) = alike (s.Make to x n) (λ at. refl) refl (q.quiet_get 0 (p.home x), (q.quiet_get 1 (p.home n), (tt, (q.quiet_put_bounds (p.home to) 0, tt))))
  step_goes (s.Meet to a b) = alike (s.Meet to a b) (λ at. refl) refl
      (q.quiet_get_bounds 0 (p.home a), (tt, (q.quiet_get_bounds 0 (p.home b), (tt, (tt, (tt, (tt, (tt, (tt, (tt, (tt, (tt, (tt, (tt, (tt, (tt, (tt, (q.quiet_put_bounds (p.home to) 0, tt))))))))))))))))))
  step_goes (s.Bound to from upper) = alike (s.Bound to from upper) (λ at. refl) refl (q.quiet_get_bounds 0 (p.home from), (tt, (tt, (tt, (q.quiet_put (p.home to) 0, tt)))))
  step_goes (s.Judge value size bounds write place) = alike (s.Judge value size bounds write place) (λ at. refl) refl (q.quiet_get 0 (p.home value), (q.quiet_get_bounds 0 (p.home bounds), (tt, (tt, tt))))
  step_goes (s.Load x to kind) = alike (s.Load x to kind) (λ at. refl) refl (q.quiet_get 0 (p.home x), (tt, (q.quiet_put (p.home to) 0, tt)))
  step_goes (s.Store x from kind) = alike (s.Store x from kind) (λ at. refl) refl (q.quiet_get 0 (p.home x), (q.quiet_get 1 (p.home from), (tt, tt)))
  step_goes (s.LoadPtr x to bounds) = alike (s.LoadPtr x to bounds) (λ at. refl) refl
      (q.quiet_get 0 (p.home x), (tt, (tt, (q.quiet_put (p.home to) 1, (q.quiet_put_bounds (p.home bounds) 0, tt)))))
  step_goes (s.StorePtr x from bounds) = alike (s.StorePtr x from bounds) (λ at. refl) refl
      (q.quiet_get 0 (p.home x), (q.quiet_get 1 (p.home from), (tt, (q.quiet_get_bounds 0 (p.home bounds), (tt, tt)))))
  step_goes (s.Label n) = alike (s.Label n) (λ at. refl) refl tt
  step_goes (s.Jump n) = alike (s.Jump n) (λ at. refl) refl (tt, tt)
  step_goes (s.JumpIf from n) = alike (s.JumpIf from n) (λ at. refl) refl (q.quiet_get 0 (p.home from), (tt, (tt, tt)))
  step_goes (s.Call symbol args to bounds) = call_goes symbol args to bounds
  step_goes (s.Service service arg to) = alike (s.Service service arg to) (λ at. refl)
      (λ i. e.same_word_arg p is_function (λ s. 0) address arg i ∷ Plain (MovImm 64 (reg 0) (pos (service_number service))) ∷ Serve ∷ e.same_number_at p is_function (λ s. 0) address to [] i)
      (q.quiet_word_arg new arg, (tt, (tt, q.quiet_number_at new to [] tt)))
  step_goes (s.Give from bounds) = alike (s.Give from bounds) (λ at. refl) (e.same_give p is_function (λ s. 0) address from bounds) (quiet_give from bounds)

  -- ---- steps and functions

  abbrev fixes_from : ℕ → List FatStep → List Fix
  fixes_from at steps = map fix_of (fields_of_steps old at steps)

  pub fields_first : (at : ℕ) (step : FatStep) (steps : List FatStep) → fixes_from at (step ∷ steps) ≡ fixes_at at step ++ fixes_from (at + size_of_pieces (lower old step)) steps
  fields_first at step steps = map-append fix_of (fields_of_step old at step) (fields_of_steps old (at + size_of_pieces (lower old step)) steps)

  pub steps_go : (steps : List FatStep) (before behind : List ℕ) → Fit (fixes_from (length before) steps)
      → (fill (before ++ (unlinked_steps old labels (length before) steps ++ behind)) (fixes_from (length before) steps)
      ≡ before ++ (bytes_of_steps new at_labels entry_at (code + length before) steps ++ behind))
      × (size_of_steps old steps ≡ size_of_steps new steps)
  steps_go [] before behind fit = (refl, refl)
  steps_go (step ∷ steps) before behind fit =
      let at = length before in
      let size = size_of_pieces (lower old step) in
      let fields = fields_first at step steps in
      let fit_both = subst (λ (l : List Fix). Fit l) fields fit in
      let fixes = fixes_at at step in
      let later = fixes_from (at + size) steps in
      let ours = unlinked_pieces labels at (lower old step) in
      let more = unlinked_steps old labels (at + size) steps in
      let made = linked at (lower new step) in
      let first = step_goes step before (more ++ behind) (each_front (Fits code entry_at address) fixes later fit_both) in
      let long : at + size ≡ length (before ++ made) = ap (λ (n : ℕ). at + n) (first.1 ∙ sym (length_bytes at_labels entry_at (code + at) (lower new step))) ∙ sym (length-append before made) in
      let fit_later = subst (λ (n : ℕ). Fit (fixes_from n steps)) long (each_behind (Fits code entry_at address) fixes later fit_both) in
      let rest = steps_go steps (before ++ made) behind fit_later in
      let there : code + length (before ++ made) ≡ code + at + size_of_pieces (lower new step) = ap (λ (n : ℕ). code + n) (sym long) ∙ right_sum code at size (size_of_pieces (lower new step)) first.1 in (
        (λ i. fill (before ++ (append_assoc ours more behind i)) (fields i))
            ∙ fold-append (filled code entry_at address) (before ++ (ours ++ (more ++ behind))) fixes later
            ∙ (λ i. fill ((first.0 ∙ sym (append_assoc before made (more ++ behind))) i) later)
            ∙ (λ i. fill ((before ++ made) ++ (unlinked_steps old labels (long i) steps ++ behind)) (fixes_from (long i) steps))
            ∙ rest.0
            ∙ append_assoc before made (bytes_of_steps new at_labels entry_at (code + length (before ++ made)) steps ++ behind)
            ∙ ap (λ (l : List ℕ). before ++ l) (sym (append_assoc made (bytes_of_steps new at_labels entry_at (code + length (before ++ made)) steps) behind))
            ∙ ap (λ (n : ℕ). before ++ ((made ++ bytes_of_steps new at_labels entry_at n steps) ++ behind)) there,
        (λ i. first.1 i + rest.1 i),
      )

  module _ (f : FatFun) (parameters : List Parameter) (units : ℕ) (first last : ℕ → ℕ) (before behind : List ℕ) where
    abbrev entry : List Piece
    entry = plain (inner_entry f.frame units)

    abbrev return : List Piece
    return = plain (inner_return f.frame units)

    abbrev homed : List Piece
    homed = homing new f.private parameters

    function_filled : Fit (fixes_of_function p is_function f parameters units (length before))
        → fill (before ++ (unlinked_function old f parameters units labels (length before) ++ behind)) (fixes_of_function p is_function f parameters units (length before))
        ≡ before ++ (bytes_of_function f parameters (linked_layout new units first last code labels) entry_at (code + length before) ++ behind)
    function_filled fit =
        let at = length before in
        let same = e.same_homing p is_function (λ s. 0) address f.private parameters in
        let size_entry = size_of_pieces entry in
        let size_homed = size_of_pieces (homing old f.private parameters) in
        let size_steps = size_of_steps old f.steps in
        let size_end = size_of_pieces end_pieces in
        let at_steps = at + size_entry + size_homed in
        let entered = unlinked_pieces labels at entry in
        let arrived = unlinked_pieces labels (at + size_entry) (homing old f.private parameters) in
        let done = unlinked_steps old labels at_steps f.steps in
        let ended = unlinked_pieces labels (at_steps + size_steps) end_pieces ++ unlinked_pieces labels (at_steps + size_steps + size_end) return in
        let front = (before ++ entered) ++ arrived in
        let long : at_steps ≡ length front =
        (λ i. at + sym (length_unlinked labels at entry) i + sym (length_unlinked labels (at + size_entry) (homing old f.private parameters)) i)
        ∙ ap (λ (n : ℕ). n + length arrived) (sym (length-append before entered)) ∙ sym (length-append (before ++ entered) arrived) in
        let fit_there = subst (λ (n : ℕ). Fit (fixes_from n f.steps)) long fit in
        let gone = steps_go f.steps front (ended ++ behind) fit_there in
        let sizes_homed : size_homed ≡ size_of_pieces homed = ap size_of_pieces same in
        let there : code + length front ≡ code + at + size_entry + size_of_pieces homed = ap (λ (n : ℕ). code + n) (sym long) ∙ four_sums code at size_entry size_homed (size_of_pieces homed) sizes_homed in
        let quiet_entry = quiet_bytes labels code entry_at entry (q.quiet_plain (inner_entry f.frame units)) at (code + at) refl in
        let quiet_homed = ap (λ (l : List Piece). unlinked_pieces labels (at + size_entry) l) same
        ∙ quiet_bytes labels code entry_at homed (q.quiet_homing new f.private parameters) (at + size_entry) (code + at + size_entry) (sums code at size_entry) in
        let end_there : code + at + size_entry + size_of_pieces homed + size_of_steps new f.steps ≡ code + (at_steps + size_steps) =
        sym (five_sums code at size_entry size_homed (size_of_pieces homed) size_steps (size_of_steps new f.steps) sizes_homed gone.1) in
        let quiet_end = quiet_bytes labels code entry_at end_pieces (tt, (tt, tt)) (at_steps + size_steps) (code + at + size_entry + size_of_pieces homed + size_of_steps new f.steps) end_there in
        let quiet_return = quiet_bytes labels code entry_at return (q.quiet_plain (inner_return f.frame units)) (at_steps + size_steps + size_end) (code + at + size_entry + size_of_pieces homed + size_of_steps new f.steps + size_end)
        (ap (λ (n : ℕ). n + size_end) end_there ∙ sums code (at_steps + size_steps) size_end) in
        (λ i. fill (between before entered arrived done ended behind i) (fixes_from at_steps f.steps))
        ∙ (λ i. fill (front ++ (unlinked_steps old labels (long i) f.steps ++ (ended ++ behind))) (fixes_from (long i) f.steps))
        ∙ gone.0
        ∙ (λ i. front ++ (bytes_of_steps new at_labels entry_at (there i) f.steps ++ (ended ++ behind)))
        ∙ sym (between before entered arrived (bytes_of_steps new at_labels entry_at (code + at + size_entry + size_of_pieces homed) f.steps) ended behind)
        ∙ (λ i. before ++ ((quiet_entry i ++ (quiet_homed i ++ (bytes_of_steps new at_labels entry_at (code + at + size_entry + size_of_pieces homed) f.steps ++ (quiet_end i ++ quiet_return i)))) ++ behind))

  pub linked_function : (f : FatFun) (parameters : List Parameter) (units : ℕ) (first last : ℕ → ℕ) (before behind : List ℕ)
      → All (Fits code entry_at address) (fixes_of_function p is_function f parameters units (length before))
      → fill (before ++ (unlinked_function old f parameters units labels (length before) ++ behind)) (fixes_of_function p is_function f parameters units (length before))
      ≡ before ++ (bytes_of_function f parameters (linked_layout new units first last code labels) entry_at (code + length before) ++ behind)
  linked_function f parameters units first last before behind all =
      function_filled f parameters units first last before behind (all_each (Fits code entry_at address) (fixes_of_function p is_function f parameters units (length before)) all)
