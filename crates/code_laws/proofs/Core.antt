-- The code of a function does its steps, over any meaning of calls.
use Rattle.code_laws.specs.Runs.{Ends, CallEnds, Calls}
use Rattle.step_code.specs.Asked.{IsLow, IsSome, PlaceFineOf, SpareFineOf, ArgsFineOf, ToFineOf, ToNamedOf, FineStep, FineSteps}
use Rattle.std.specs.Prelude.{nat_lt, nat_le, if◌then◌else◌, ℤ, pos, negsuc, ◌-ℤ◌, not}
use Rattle.std.proofs.Common.{◌≡◌, ℕ, zero, suc, ◌+◌, ◌-◌, ◌*◌, ◌/◌, ◌%◌, ◌^◌, ◌<◌, ◌≤◌, ◌⊎◌, inl, inr, Bool, true, false, cond, ◌==◌, nat_eq, Option, None, Some, List, [], ◌∷◌, ◌++◌, length, refl, arith, ap, ◌∙◌, sym, subst, append_assoc, length-append}
use Rattle.std.proofs.lemmas.Bool.Decides.{nat_tests}
use Rattle.mx_base.specs.declared.limits.Bounds.{Bounds as BoundsPair}
use Rattle.mx_base.specs.declared.numbers.IntKind.{IntKind}
use Rattle.mx_base.specs.declared.numbers.IntKind.TheVariants.{I8, U8, I16, U16, I32, U32, I64, U64}
use Rattle.mx_base.specs.declared.places.Place.{Place as PlaceOf}
use Rattle.mx_base.specs.declared.stops.Stop.{Stop}
use Rattle.mx_base.specs.declared.stops.Stop.TheVariants as stop
use Rattle.mx_base.specs.declared.operators.Arithmetic.{Arithmetic}
use Rattle.mx_base.specs.declared.operators.Arithmetic.TheVariants.{Div, Add, Mul, Rem, Shl, Shr, BitAnd, BitOr, BitXor, Sub}
use Rattle.mx_base.specs.declared.operators.Comparison.{Comparison}
use Rattle.mx_base.specs.declared.services.CService.{CService}
use Rattle.mx_base.specs.declared.services.CService.TheVariants as in_c
use Rattle.mx_base.specs.Operators.{word_compares, word_arithmetic}
use Rattle.mx_base.specs.StopOfC.{Bounds, Divide, Exit, AtAccess, AccessOfC, site_of}
use Rattle.mx_base.specs.Bounds.{leaving_value, last_byte}
use Rattle.mx_base.specs.Walk.{violation_status}
use Rattle.mx_base.specs.World.{World}
use Rattle.fat_ir.specs.declared.step.FatStep.{FatStep}
use Rattle.fat_ir.specs.declared.step.FatStep.TheVariants as s
use Rattle.fat_ir.specs.Calls.{Outcome, Comes, Stops, Stuck, turn_from}
use Rattle.fat_ir.specs.Laws.{LacksLabel}
use Rattle.fat_ir.specs.Run.{and_then, pass, followed, back, run_to, steps_run, no_value}
use Rattle.fat_ir.specs.Spans.{JumpsToLabel}
use Rattle.fat_ir.specs.Step.{Symbols, State, Going, Next, To, Reached, On, number_then, bounds_then, held_then, judged, unless_refused}
use Rattle.fat_ir.specs.Values.{Held, Nothing, Number, Pair, Values, with_held, private_alone, Value}
use Rattle.obj_file.specs.Stored.{Stored}
use Rattle.x86_forms.specs.declared.instr.Base.TheVariants.{None as NoBase}
use Rattle.x86_forms.specs.declared.instr.Instr.TheVariants.{MovImm, Bndmk, Bndcl, Bndcu, JmpRel, Test}
use Rattle.x86_forms.specs.declared.instr.Rm.TheVariants.{Mem as InMem}
use Rattle.x86_forms.specs.Examples.{reg, in_reg, based}
use Rattle.step_code.specs.declared.homes.Home.{Home}
use Rattle.step_code.specs.declared.homes.Home.TheVariants.{Reg, Slot, Bnd}
use Rattle.step_code.specs.declared.pieces.Piece.{Piece}
use Rattle.step_code.specs.declared.pieces.Piece.TheVariants.{Plain}
use Rattle.code_laws.specs.Views.{View, Came, jumped}
use Rattle.code_laws.specs.Seen.{Setting, IsSetting, Seen}
use Rattle.code_laws.specs.Laid.{Stands}
use Rattle.step_code.specs.Steps.{Plan, get, put, get_bounds, put_bounds, word_imm, lower_arith, end_pieces, greater_of}
use Rattle.code_laws.specs.Views.{number_home, pair_home, with_number_home, with_pair_home}
use Rattle.code_laws.specs.Laid.{StandAll, Laid, LaidStep}
use Rattle.code_laws.specs.Runs.{Whole}
use Rattle.code_laws.proofs.Leading.{Turned, After, with_turns, leads_then}
use Rattle.code_laws.specs.Runs.{whole_of, Leads, Ended}
use Rattle.std.specs.Int.{cast_unsigned, w64}
use Rattle.mx_base.specs.Numbers.{as_signed, extended, size_of}
use Rattle.x86_forms.specs.Arithmetic.{low, holds, flags_of, flags_after}
use Rattle.std.specs.Prelude.{bit_and}
use Rattle.std.specs.Int.Bits.{and_self}
use Rattle.mx_base.specs.Bounds.{full_bounds, complement, bounds_at, moved, met}
use Rattle.std.proofs.Common.{max, min}
use Rattle.code_laws.specs.Views.{with_slot, pair_at, with_pair_at as with_pair_words}
use Rattle.code_laws.proofs.Greater.{LeavesHomes, greater_goes}
use Rattle.code_laws.proofs.Homes.{number_kept, pair_kept_number}
use Rattle.code_laws.proofs.Pieces.{load_bounds as load_words}
use Rattle.fat_ir.specs.Step.{Located, ObjectAt, FunctionAt, pointer_into}
use Rattle.step_code.specs.Steps.{located_piece, located_bounds}
use Rattle.x86_forms.specs.declared.instr.Instr.{Instr}
use Rattle.x86_forms.specs.declared.instr.Instr.TheVariants.{Lea}
use Rattle.x86_forms.specs.Examples.{indexed}
use Rattle.code_laws.specs.Views.{regs_put}
use Rattle.x86_forms.specs.Arithmetic.{result_of}
use Rattle.code_laws.proofs.Frames.{slot_small}
use Rattle.code_laws.proofs.Pieces.{load_slot, load_cell}
use Rattle.fat_ir.specs.Step.{goes, with_number, with_number_at, with_pair_at, arguments_then, came_back, jumps_unless_0, computed}
use Rattle.step_code.specs.Steps.{extend_instr, load_args, put_number_at, put_pair_at, arg_reg}
use Rattle.step_code.specs.declared.pieces.Piece.TheVariants.{CallTo}
use Rattle.code_laws.proofs.Calling.{arg_free, arg_apart, same_reg, same_bound, LeavesBefore, at_slot}
use Rattle.code_laws.specs.Runs.{ArgsStand}
use Rattle.step_code.specs.Homes.{IsSlot}
use Rattle.code_laws.specs.Runs.{AtHome, IsKnown, IsSort}
use Rattle.code_laws.proofs.Homes.{number_kept_pair, pair_kept_pair, pair_put}
use Rattle.step_code.specs.Homes.{Apart}
use Rattle.x86_forms.specs.declared.instr.Instr.TheVariants.{One, Nop, AluTo}
use Rattle.step_code.specs.declared.pieces.Piece.TheVariants.{LoadSlot, LoadBounds}
use Rattle.step_code.specs.Pieces.{instr_of}
use Rattle.mx_base.specs.Services.{Served, Answers, Exits, Overflows, service_of, c_service}
use Rattle.fat_ir.specs.Step.{number_or_0_then, answered}
use Rattle.mx_base.specs.Guests.{GuestFits, AnswerFits}
use Rattle.step_code.specs.Steps.{service_number, word_arg}
use Rattle.code_laws.proofs.Serving.{IsOfC, SameServed, AfterService, answered_view, serve}
use Rattle.mx_base.proofs.GuestLemmas.{served_fits}
use Rattle.code_laws.proofs.Numbers.{after_word, sum, diff, flags_by, shift_flags_by, add_row, sub_row, and_row, or_row, xor_row, imul_row, left_row, right_row, wide_row, idiv_row, div_row, kept_row, minus_is, extend_row, quotient_kept_in, plus_is, compared_flags, with_low, cmp_row, set_row, widen_row}
use Rattle.code_laws.proofs.Words.{wide_same, by_words, by_shift, times_is, and_is, or_is, xor_is, extended_low}
use Rattle.code_laws.proofs.Operators.{left_is, right_is, right_operation, sign_word, quotient_of, over_by, rest_by, signed_division, plain_division, compares_is}
use Rattle.mx_base.specs.Numbers.{value_of, is_signed}
use Rattle.std.specs.Option.{option_map}
use Rattle.x86_forms.specs.Arithmetic as op
use Rattle.x86_forms.specs.Arithmetic.{Cmp, divided, divided_signed}
use Rattle.x86_forms.specs.Table.{quotient_kept}
use Rattle.x86_forms.specs.declared.instr.Instr.TheVariants.{MovTo, Imul, ShiftCl, Wide, Set, Movzx}
use Rattle.step_code.specs.Steps.{is_narrow, widen, needs_words, load_two, operation, condition, shift_width, right_shift}
use Rattle.code_laws.proofs.Homes.{scratched_by, moved_row}
use Rattle.step_code.specs.Homes.{IsHomeReg}
use Rattle.x86_forms.specs.Arithmetic.{Flags}
use Rattle.step_code.specs.Steps.{lower_compare}
use Rattle.obj_file.specs.Machine.{is_call, is_return, is_service}
use Rattle.x86_forms.specs.Accesses.{accesses}
use Rattle.x86_forms.specs.Processor.{with_reg}
use Rattle.step_code.specs.Pieces.{relative}
use Rattle.x86_forms.specs.Processor.{Processor, part_written, address}
use Rattle.x86_forms.specs.Requests.{Ends as RequestEnds, Fails as RequestFails, Violates, Divides}
use Rattle.x86_forms.specs.Table.{row, at_next, checked}
use Rattle.std.proofs.lemmas.Int.{ints}
use Rattle.code_laws.specs.Views.{with_word, with_bound, unless_refused as View_refused}
use Rattle.step_code.specs.Pieces.{read_instr}
use Rattle.mx_base.specs.Access.{Refusal, Strays, Misses, refusal}
use Rattle.mx_base.specs.Memory.{number_at}
use Rattle.mx_base.specs.World.{read_noted, number_written, with_store, loaded_or_stopped, stored_or_stopped, pointer_read, pointer_written}
use Rattle.mx_base.specs.BoundsStore.{BoundsStore, load_bounds, keep_bounds}
use Rattle.mx_base.specs.Walk.{walk_end}
use Rattle.fat_ir.specs.Step.{pointer_came, pointer_went, with_pointer}
use Rattle.code_laws.specs.Views.{pair_loaded, pair_kept, walked}
use Rattle.code_laws.proofs.Pairing.{load_pair, keep_pair}
use Rattle.code_laws.proofs.Accessing.{pointer_fits, written_near, extended-word}
use Rattle.code_laws.proofs.Accessing.{read_goes, reads_at, write_goes, writes_at, write_instr}
use Rattle.code_laws.proofs.Pieces.{plain_goes, plain_fails, with_reg_leaves, leaves_all, go, go_if}
use Rattle.step_code.specs.Homes.{IsFree}
use Rattle.code_laws.proofs.Homes.{Scratched, rax_scratched, rcx_scratched, rdx_scratched, bnd0_scratched, number_scratched, pair_scratched, at_address, with_scratch, with_scratch_bounds, get_goes, put_goes, get_bounds_goes, put_bounds_goes}
use Rattle.code_laws.proofs.Inside.{in_on, in_back, put_in, put_pair_in, number_in, number_sort, pair_in, pair_sort}
use Rattle.step_code.specs.Homes.{Assigned}
use Rattle.code_laws.specs.Runs.{In, Has}
use Rattle.code_laws.proofs.Labels.{Found, find, stands_on, pass_none, pass_found, laid_up, laid_join, laid_split}

rax_free : IsFree 0
rax_free = record { rbx = refl; rsp = refl; rbp = refl; r12 = refl; r13 = refl; r14 = refl; r15 = refl }

rcx_free : IsFree 1
rcx_free = record { rbx = refl; rsp = refl; rbp = refl; r12 = refl; r13 = refl; r14 = refl; r15 = refl }

rdx_free : IsFree 2
rdx_free = record { rbx = refl; rsp = refl; rbp = refl; r12 = refl; r13 = refl; r14 = refl; r15 = refl }

const_word : (old x : ℕ) → x < 2 ^ 64 → part_written 64 old (low 64 (cast_unsigned w64 (as_signed (2 ^ 64) x))) ≡ x
unfolding part_written as_signed
const_word old x small = elim (nat_lt x (2 ^ 64 / 2)) as (λ b. nat_lt x (2 ^ 64 / 2) ≡ b → low 64 (low 64 (cast_unsigned w64 (if b then pos x else negsuc (2 ^ 64 - 1 - x)))) ≡ x) [
  | true ↦ λ e. omega arith
  | false ↦ λ e. omega arith
] refl

const_row : (c : Processor) (next x : ℕ) → x < 2 ^ 64 → row (MovImm 64 (reg 0) (word_imm x)) next c ≡ RequestEnds (with_word (at_next c next) 0 x)
unfolding row
const_row c next x small = ap (λ (n : ℕ). RequestEnds (with_word (at_next c next) 0 n)) (const_word (c.regs 0) x small)

lower_row : (c : Processor) (next : ℕ) (b : Bool) → nat_lt (c.regs 0) (c.bounds 0).lb ≡ b
    → row (Bndcl 0 (in_reg 0)) next c ≡ (if b then RequestFails (Violates (c.regs 0) (c.bounds 0)) (record c { status = violation_status }) else RequestEnds (at_next c next))
unfolding row
lower_row c next true is = rw is refl
lower_row c next false is = rw is refl

disp_is : (size : ℕ) (z : ℤ) → z ≡ pos size -ℤ pos 1 → 1 ≤ size → cast_unsigned w64 z ≡ size - 1
disp_is size (pos k) e some = let f : k + 1 ≡ size = omega (arith, ints) in omega arith
disp_is size (negsuc k) e some = let f : 1 ≡ size + suc k = omega (arith, ints) in absurd (omega arith)

upper_address : (c : Processor) (next size : ℕ) → 1 ≤ size → address c.regs next (based 0 (pos size -ℤ pos 1)) ≡ last_byte (c.regs 0) size
unfolding address last_byte
upper_address c next size some = let e = disp_is size (pos size -ℤ pos 1) refl some in omega arith

upper_row : (c : Processor) (next size : ℕ) (b : Bool) → 1 ≤ size → nat_lt (c.bounds 0).ub (last_byte (c.regs 0) size) ≡ b
    → row (Bndcu 0 (InMem (based 0 (pos size -ℤ pos 1)))) next c ≡ (if b then RequestFails (Violates (last_byte (c.regs 0) size) (c.bounds 0)) (record c { status = violation_status }) else RequestEnds (at_next c next))
unfolding row
upper_row c next size b some is = ap (λ (w : ℕ). checked c next (nat_lt (c.bounds 0).ub w) w (c.bounds 0)) (upper_address c next size some)
    ∙ ap (λ (t : Bool). checked c next t (last_byte (c.regs 0) size) (c.bounds 0)) is

test_row : (c : Processor) (next : ℕ) → row (Test 64 (reg 0) (in_reg 0)) next c ≡ RequestEnds (record (at_next c next) { flags = flags_of 64 (bit_and (c.regs 0 % 2 ^ 64) (c.regs 0 % 2 ^ 64)) false false })
unfolding row flags_after
test_row c next = refl

same_bits : (g : ℕ) → bit_and g g ≡ g
same_bits g = and_self g

test_tells_none : (g : ℕ) → g < 2 ^ 64 → g ≡ 0 → holds 5 (flags_of 64 (bit_and (g % 2 ^ 64) (g % 2 ^ 64)) false false) ≡ false
unfolding holds
test_tells_none g small is = rw (same_bits (g % 2 ^ 64)) (let e : g % 2 ^ 64 ≡ 0 = omega arith in rw e refl)

test_tells_some : (g : ℕ) → g < 2 ^ 64 → (g ≡ 0 → ⊥) → holds 5 (flags_of 64 (bit_and (g % 2 ^ 64) (g % 2 ^ 64)) false false) ≡ true
unfolding holds
test_tells_some g small is = rw (same_bits (g % 2 ^ 64)) (let e : g % 2 ^ 64 ≡ g = omega arith in rw e (let d : (g == 0) ≡ false = grind (arith, nat_tests) in ap not d))

zero_rdx : (c : Processor) (next : ℕ) → row (MovImm 64 (reg 2) (pos 0)) next c ≡ RequestEnds (with_word (at_next c next) 2 0)
unfolding row part_written
zero_rdx c next = refl

cases_zero : (z : ℕ) → (z ≡ 0) ⊎ (0 < z)
cases_zero zero = inl refl
cases_zero (suc z) = inr (omega arith)

not_row : (c : Processor) (next : ℕ) → c.regs 0 < 2 ^ 64 → row (One 0 64 (in_reg 0)) next c ≡ RequestEnds (with_word (at_next c next) 0 (complement (c.regs 0)))
unfolding row part_written result_of flags_after
not_row c next small = let e : (2 ^ 64 - 1 - c.regs 0 % 2 ^ 64) % 2 ^ 64 ≡ complement (c.regs 0) = omega arith in ap (λ (n : ℕ). RequestEnds (with_word (at_next c next) 0 n)) e

nop_row : (c : Processor) (next : ℕ) → row Nop next c ≡ RequestEnds (at_next c next)
unfolding row
nop_row c next = refl

lea_row : (c : Processor) (next offset : ℕ) → row (Lea (reg 0) (based 0 (pos offset))) next c ≡ RequestEnds (with_word (at_next c next) 0 (moved (c.regs 0) offset))
unfolding row part_written address moved
lea_row c next offset = let e : (c.regs 0 + 0 + offset) % 2 ^ 64 % 2 ^ 64 ≡ (c.regs 0 + offset) % 2 ^ 64 = omega arith in ap (λ (n : ℕ). RequestEnds (with_word (at_next c next) 0 n)) e

make_row : (c : Processor) (next : ℕ) → row (Bndmk 0 (indexed 0 1 1 (negsuc 0))) next c ≡ RequestEnds (with_bound (at_next c next) 0 (bounds_at (c.regs 0) (c.regs 1)))
unfolding row address bounds_at
make_row c next = let e : (c.regs 0 + c.regs 1 * 1 + (2 ^ 64 - 1)) % 2 ^ 64 ≡ (c.regs 0 + c.regs 1 + (2 ^ 64 - 1)) % 2 ^ 64 = omega arith in ap (λ (u : ℕ). RequestEnds (with_bound (at_next c next) 0 (record { lb = c.regs 0; ub = u }))) e

sized_row : (c : Processor) (next size : ℕ) → size < 2 ^ 31 → row (Bndmk 0 (based 0 (pos size -ℤ pos 1))) next c ≡ RequestEnds (with_bound (at_next c next) 0 (bounds_at (c.regs 0) size))
unfolding row address bounds_at
sized_row c next zero few = let e : (c.regs 0 + 0 + (2 ^ 64 - 1)) % 2 ^ 64 ≡ (c.regs 0 + 0 + (2 ^ 64 - 1)) % 2 ^ 64 = refl in ap (λ (u : ℕ). RequestEnds (with_bound (at_next c next) 0 (record { lb = c.regs 0; ub = u }))) e
sized_row c next (suc size) few = let d = disp_is (suc size) (pos (suc size) -ℤ pos 1) refl (omega arith) in
    let e : (c.regs 0 + 0 + cast_unsigned w64 (pos (suc size) -ℤ pos 1)) % 2 ^ 64 ≡ (c.regs 0 + suc size + (2 ^ 64 - 1)) % 2 ^ 64 = omega arith in ap (λ (u : ℕ). RequestEnds (with_bound (at_next c next) 0 (record { lb = c.regs 0; ub = u }))) e

cond_same : (b : Bool) (x : ℕ) → cond b x x ≡ x
cond_same true x = refl
cond_same false x = refl

rax_put : (home : Home) (x : ℕ) (regs : ℕ → ℕ) → regs_put home x (with_reg regs 0 x) 0 ≡ x
rax_put (Reg r) x regs = cond_same (nat_eq 0 r) x
rax_put (Slot k) x regs = refl
rax_put (Bnd b) x regs = refl

address_row : (c : Processor) (next a : ℕ) → a < 2 ^ 63 → row (MovImm 64 (reg 0) (pos a)) next c ≡ RequestEnds (with_word (at_next c next) 0 a)
unfolding row part_written
address_row c next a low = let e : a % 2 ^ 64 % 2 ^ 64 ≡ a = omega arith in ap (λ (n : ℕ). RequestEnds (with_word (at_next c next) 0 n)) e

apart_word : (b : Bool) (h : Home) (s k : ℕ) → s ≤ k → k ≤ s + 1 → Apart b h true (Slot s) → Apart b h false (Slot k)
apart_word b (Slot j) s k low high (inl a) = inl (omega arith)
apart_word b (Slot j) s k low high (inr a) = inr (omega arith)
apart_word b (Reg r) s k low high a = tt
apart_word b (Bnd d) s k low high a = tt

-- words of the frame after a write
same_slot : (j n : ℕ) (slots : ℕ → ℕ) → with_slot j n slots j ≡ n
same_slot j n slots = let e : nat_eq j j ≡ true = grind (arith, nat_tests) in ap (λ (b : Bool). cond b n (slots j)) e

other_slot : (i j n : ℕ) (slots : ℕ → ℕ) → (i < j) ⊎ (j < i) → with_slot j n slots i ≡ slots i
other_slot i j n slots apart = let e : nat_eq i j ≡ false = elim apart [
  | inl l ↦ grind (arith, nat_tests)
  | inr l ↦ grind (arith, nat_tests)
] in ap (λ (b : Bool). cond b n (slots i)) e

word_low : (t : ℕ) (a : BoundsPair) (slots : ℕ → ℕ) → with_pair_words t a slots t ≡ a.lb
word_low t a slots = other_slot t (t + 1) (complement a.ub) (with_slot t a.lb slots) (inl (omega arith)) ∙ same_slot t a.lb slots

hit_two : (i k : ℕ) (b : BoundsPair) (slots : ℕ → ℕ) → i < k → with_pair_words k b slots i ≡ slots i
hit_two i k b slots l = other_slot i (k + 1) (complement b.ub) (with_slot k b.lb slots) (inl (omega arith)) ∙ other_slot i k b.lb slots (inl l)

-- what meeting leaves in the two words
met_words : (slots : ℕ → ℕ) (t : ℕ) (a b : BoundsPair) (s5 s6 : ℕ → ℕ) → a.ub < 2 ^ 64 → b.ub < 2 ^ 64
    → (let s4 = with_pair_words (t + 2) b (with_pair_words t a slots) in s5 ≡ with_slot t (max (s4 t) (s4 (t + 2))) s4) → s6 ≡ with_slot (t + 1) (max (s5 (t + 1)) (s5 (t + 3))) s5 → pair_at s6 t ≡ met a b
met_words slots t a b s5 s6 small_a small_b is5 is6 =
    let s4 = with_pair_words (t + 2) b (with_pair_words t a slots) in
    let a0 : s4 t ≡ a.lb = hit_two t (t + 2) b (with_pair_words t a slots) (omega arith) ∙ word_low t a slots in
    let a1 : s4 (t + 1) ≡ complement a.ub = hit_two (t + 1) (t + 2) b (with_pair_words t a slots) (omega arith) ∙ same_slot (t + 1) (complement a.ub) (with_slot t a.lb slots) in
    let b0 : s4 (t + 2) ≡ b.lb = word_low (t + 2) b (with_pair_words t a slots) in
    let e : t + 3 ≡ t + 2 + 1 = omega arith in
    let b1 : s4 (t + 3) ≡ complement b.ub = ap s4 e ∙ same_slot (t + 2 + 1) (complement b.ub) (with_slot (t + 2) b.lb (with_pair_words t a slots)) in
    let m0 = max (s4 t) (s4 (t + 2)) in
    let low5 : s5 t ≡ max a.lb b.lb = ap (λ (f : ℕ → ℕ). f t) is5 ∙ same_slot t m0 s4 ∙ (λ i. max (a0 i) (b0 i)) in
    let c1 : s5 (t + 1) ≡ complement a.ub = ap (λ (f : ℕ → ℕ). f (t + 1)) is5 ∙ other_slot (t + 1) t m0 s4 (inr (omega arith)) ∙ a1 in
    let d1 : s5 (t + 3) ≡ complement b.ub = ap (λ (f : ℕ → ℕ). f (t + 3)) is5 ∙ other_slot (t + 3) t m0 s4 (inr (omega arith)) ∙ b1 in
    let m1 = max (s5 (t + 1)) (s5 (t + 3)) in
    let low6 : s6 t ≡ max a.lb b.lb = ap (λ (f : ℕ → ℕ). f t) is6 ∙ other_slot t (t + 1) m1 s5 (inl (omega arith)) ∙ low5 in
    let high6 : s6 (t + 1) ≡ max (complement a.ub) (complement b.ub) = ap (λ (f : ℕ → ℕ). f (t + 1)) is6 ∙ same_slot (t + 1) m1 s5 ∙ (λ i. max (c1 i) (d1 i)) in
    let upper : complement (max (complement a.ub) (complement b.ub)) ≡ min a.ub b.ub = omega arith in
    λ i. record { lb = low6 i; ub = (ap complement high6 ∙ upper) i }

zero_rdi : (c : Processor) (next : ℕ) → row (MovImm 64 (reg 7) (pos 0)) next c ≡ RequestEnds (with_word (at_next c next) 7 0)
unfolding row part_written
zero_rdi c next = refl

number_row : (c : Processor) (next : ℕ) (service : CService) → row (MovImm 64 (reg 0) (pos (service_number service))) next c ≡ RequestEnds (with_word (at_next c next) 0 (service_number service))
unfolding row part_written
number_row c next in_c.Print = refl
number_row c next in_c.Put = refl
number_row c next in_c.Get = refl
number_row c next in_c.Alloc = refl
number_row c next in_c.Free = refl
number_row c next in_c.Exit = refl

service_is : (service : CService) → service_of (service_number service) ≡ c_service service
unfolding service_of c_service
service_is in_c.Print = refl
service_is in_c.Put = refl
service_is in_c.Get = refl
service_is in_c.Alloc = refl
service_is in_c.Free = refl
service_is in_c.Exit = refl

of_c : (service : CService) → IsOfC (c_service service)
unfolding c_service
of_c in_c.Print = tt
of_c in_c.Put = tt
of_c in_c.Get = tt
of_c in_c.Alloc = tt
of_c in_c.Free = tt
of_c in_c.Exit = tt

zero_row : (c : Processor) (next : ℕ) → row (MovImm 64 (reg 0) (pos 0)) next c ≡ RequestEnds (with_word (at_next c next) 0 0)
unfolding row part_written
zero_row c next = refl

full_row : (c : Processor) (next : ℕ) → row (Bndmk 0 (record { base = NoBase; index = None; disp = negsuc 0 })) next c ≡ RequestEnds (with_bound (at_next c next) 0 full_bounds)
unfolding row address
full_row c next = refl

abbrev pub judged_of : ℕ → BoundsPair → ℕ → AccessOfC → Values → View → Reached
judged_of x b size access values v = judged (leaving_value x size b) b access (record { values = values; world = v.world })

abbrev pub st : Values → View → State
st values v = record { values = values; world = v.world }

module _ (S : Setting) (ok : IsSetting S) (p : Plan) (access_of : ℕ → Option AccessOfC) (symbols : Symbols) (private : ℕ) (steps : List FatStep) (first last : ℕ → ℕ)
    (assigned : Assigned S.units private steps p first last) (base end : ℕ) (laid : Laid S.code S.label_at S.entry_at p access_of base steps end) (tail : StandAll S.code S.label_at S.entry_at end end_pieces (S.label_at p.exit))
    (returns : ℕ → Bool) (takes : ℕ → List (ℕ × Option ℕ) → Bool) (calls : Calls S ok p access_of symbols returns takes) where
  abbrev Holds_in : ℕ → Values → View → Type 0
  Holds_in i values v = In S.units private steps p first last assigned i values v

  abbrev Result_of : ℕ → Reached → Outcome
  Result_of n r = followed private (run_to symbols private steps n) r

  abbrev Named : ℕ → ℕ → Type 0
  Named i x = Has S.units private steps p first last assigned i x

  abbrev pub PlaceFine : Option ℕ → Type 0
  PlaceFine symbol = PlaceFineOf S.units p symbols.located steps first last returns takes symbol

  abbrev pub SpareFine : Type 0
  SpareFine = SpareFineOf S.units p symbols.located steps first last returns takes

  abbrev pub ArgsFine : ℕ → List (ℕ × Option ℕ) → Type 0
  ArgsFine i args = ArgsFineOf S.units p symbols.located steps first last returns takes i args

  abbrev pub ToFine : ℕ → Option ℕ → Bool → Type 0
  ToFine i to sort = ToFineOf S.units p symbols.located steps first last returns takes i to sort

  abbrev pub ToNamed : ℕ → Option ℕ → Type 0
  ToNamed i to = ToNamedOf S.units p symbols.located steps first last returns takes i to

  abbrev pub Fine1 : ℕ → FatStep → Type 0
  Fine1 i step = FineStep S.units p symbols.located steps first last returns takes i step

  abbrev pub Fine : ℕ → List FatStep → Type 0
  Fine i is = FineSteps S.units p symbols.located steps first last returns takes i is

  fine_back : (i : ℕ) (a b : List FatStep) → Fine i (a ++ b) → Fine (i + length a) b
  fine_back i [] b h = let e : i ≡ i + 0 = omega arith in subst (λ (x : ℕ). Fine x b) e h
  fine_back i (step ∷ a) b h = let e : i + 1 + length a ≡ i + suc (length a) = omega arith in subst (λ (x : ℕ). Fine x b) e (fine_back (i + 1) a b h.1)

  -- a run from the steps that follow `pre`
  abbrev pub From : ℕ → List FatStep → List FatStep → Type 0
  From n pre is = (values : Values) (v : View) (y : Stored) (k : ℕ) → steps ≡ pre ++ is → Seen S v y → Holds_in (length pre) values v → Laid S.code S.label_at S.entry_at p access_of base pre v.processor.rip → Laid S.code S.label_at S.entry_at p access_of v.processor.rip is end
      → Fine (length pre) is → v.world.turns ≤ n → Ends S p access_of (whole_of S v y k) (Result_of n (pass symbols is Next (st values v)))

  abbrev pub All : ℕ → Type 0
  All n = (pre is : List FatStep) → From n pre is

  count : (a : List FatStep) (step : FatStep) → length (a ++ step ∷ []) ≡ length a + 1
  count a step = length-append a (step ∷ []) ∙ (let e : length a + 1 ≡ length a + 1 = refl in e)

  -- the run goes on with the next step
  cont : (n : ℕ) (pre is : List FatStep) (step : FatStep) → From n (pre ++ step ∷ []) is → (at next : ℕ) (values : Values) (u : View) (y : Stored) (k : ℕ) → steps ≡ pre ++ step ∷ is → Seen S u y
      → Holds_in (length pre + 1) values u → Laid S.code S.label_at S.entry_at p access_of base pre at → LaidStep S.code S.label_at S.entry_at p access_of at step next → u.processor.rip ≡ next → Laid S.code S.label_at S.entry_at p access_of next is end → Fine (length pre + 1) is → u.world.turns ≤ n
      → Ends S p access_of (whole_of S u y k) (Result_of n (pass symbols is Next (st values u)))
  cont n pre is step rec at next values u y k e seen h front one is_at later fine le =
      rec values u y k (e ∙ sym (append_assoc pre (step ∷ []) is)) seen
      (subst (λ (i : ℕ). Holds_in i values u) (sym (count pre step)) h)
      (subst (λ (a : ℕ). Laid S.code S.label_at S.entry_at p access_of base (pre ++ step ∷ []) a) (sym is_at) (laid_join S p access_of base pre (step ∷ []) at next front (next, one, refl)))
      (subst (λ (a : ℕ). Laid S.code S.label_at S.entry_at p access_of a is end) (sym is_at) later)
      (subst (λ (i : ℕ). Fine i is) (sym (count pre step)) fine) le

  retold : (out : Whole Stored) (r q : Outcome) → r ≡ q → Ends S p access_of out q → Ends S p access_of out r
  retold out r q e h = subst (λ (x : Outcome). Ends S p access_of out x) (sym e) h

  -- ---- values that are read

  pub need_number : (n : ℕ) (out : Whole Stored) (rest : Going → State → Reached) (h : Held) (go : ℕ → Reached) → ((m : ℕ) → h ≡ Number m → Ends S p access_of out (Result_of n (and_then (go m) rest)))
      → Ends S p access_of out (Result_of n (and_then (number_then h go) rest))
  need_number n out rest Nothing go f = tt
  need_number n out rest (Number m) go f = f m refl
  need_number n out rest (Pair b) go f = tt

  pub need_bounds : (n : ℕ) (out : Whole Stored) (rest : Going → State → Reached) (h : Held) (go : BoundsPair → Reached) → ((b : BoundsPair) → h ≡ Pair b → Ends S p access_of out (Result_of n (and_then (go b) rest)))
      → Ends S p access_of out (Result_of n (and_then (bounds_then h go) rest))
  need_bounds n out rest Nothing go f = tt
  need_bounds n out rest (Number m) go f = tt
  need_bounds n out rest (Pair b) go f = f b refl

  -- ---- jumps

  same_scratched : (v : View) (a : ℕ) → Scratched v (record v { processor = record v.processor { rip = a } })
  same_scratched v a = record { regs = λ r h. refl; bounds = λ b h. refl; slots = refl }

  turned_scratched : (v : View) (a m : ℕ) → Scratched v (with_turns m (record v { processor = record v.processor { rip = a } }))
  turned_scratched v a m = record { regs = λ r h. refl; bounds = λ b h. refl; slots = refl }

  -- the label stands behind
  jump_ahead : (n : ℕ) (pre is : List FatStep) (step : FatStep) (k : ℕ) (f : Found k is) → ((more : List FatStep) → From n more f.behind) → (values : Values) (v : View) (out : Whole Stored) (at next : ℕ)
      → steps ≡ pre ++ step ∷ is → Holds_in (length pre) values v → Laid S.code S.label_at S.entry_at p access_of base pre at → LaidStep S.code S.label_at S.entry_at p access_of at step next → Laid S.code S.label_at S.entry_at p access_of next is end → Fine (length pre + 1) is → v.processor.rip < next → v.world.turns ≤ n
      → After S out (jumped v (S.label_at k)) → Ends S p access_of out (Result_of n (pass symbols is (To k) (st values v)))
  jump_ahead n pre is step k f rec values v out at next e h front one later fine low le went =
      let u : View = record v { processor = record v.processor { rip = S.label_at k } } in
      let parts : steps ≡ (pre ++ step ∷ f.before) ++ s.Label k ∷ f.behind = e ∙ ap (λ (l : List FatStep). pre ++ step ∷ l) f.parts ∙ sym (append_assoc pre (step ∷ f.before) (s.Label k ∷ f.behind)) in
      let split = laid_split S p access_of next f.before (s.Label k ∷ f.behind) end (subst (λ (l : List FatStep). Laid S.code S.label_at S.entry_at p access_of next l end) f.parts later) in
      let here = split.back.1.1 in
      let stay = split.back.1.0 in
      let up = laid_up S p access_of next f.before split.mid split.front in
      let ahead : nat_le (S.label_at k) v.processor.rip ≡ false = grind (arith, nat_tests) in
      let leads : Leads S out u = subst (λ (b : Bool). After S out (if b then Came.Turn u else Came.On u)) ahead went in
      let more = (pre ++ step ∷ f.before) ++ s.Label k ∷ [] in
      let size : length more ≡ length pre + 1 + length f.before + 1 = count (pre ++ step ∷ f.before) (s.Label k) ∙ ap (λ (x : ℕ). x + 1) (length-append pre (step ∷ f.before) ∙ (let z : length pre + suc (length f.before) ≡ length pre + 1 + length f.before = omega arith in z)) in
      let fine_2 = (fine_back (length pre + 1) f.before (s.Label k ∷ f.behind) (subst (Fine (length pre + 1)) f.parts fine)).1 in
      let front_2 : Laid S.code S.label_at S.entry_at p access_of base more (S.label_at k) =
      laid_join S p access_of base (pre ++ step ∷ f.before) (s.Label k ∷ []) split.mid (S.label_at k) (laid_join S p access_of base pre (step ∷ f.before) at split.mid front (next, one, split.front)) (S.label_at k, (sym here, here), refl) in
      leads_then S (λ o. Ends S p access_of o (Result_of n (pass symbols is (To k) (st values v)))) out u leads
      (λ y j seen. retold _ _ _ (ap (Result_of n) (pass_found symbols k is f (st values v)))
      (rec more values u y j (parts ∙ sym (append_assoc (pre ++ step ∷ f.before) (s.Label k ∷ []) f.behind)) seen
      (in_on S.units private steps p first last assigned (length pre) (length more) values v u (omega arith) (same_scratched v (S.label_at k)) h)
      front_2 (subst (λ (a : ℕ). Laid S.code S.label_at S.entry_at p access_of a f.behind end) (sym stay ∙ sym here) split.back.2) (subst (λ (i : ℕ). Fine i f.behind) (sym size) fine_2) le))

  -- the label stands before, and a turn is taken
  turn_case : (k : ℕ) (f : Found k steps) (i : ℕ) (values : Values) (v : View) (out : Whole Stored) (turns n : ℕ) → ((n' : ℕ) → suc n' ≡ n → All n') → v.world.turns ≡ turns → turns ≤ n → Holds_in i values v
      → ((x : ℕ) → x < private → length f.before + 1 ≤ last x → i ≤ last x) → S.label_at k ≤ 0x7fff_ffff → Laid S.code S.label_at S.entry_at p access_of base (f.before ++ s.Label k ∷ []) (S.label_at k) → Laid S.code S.label_at S.entry_at p access_of (S.label_at k) f.behind end → Fine 0 steps
      → Turned S out turns (record v { processor = record v.processor { rip = S.label_at k } }) → Ends S p access_of out (turn_from turns v.world (λ w. run_to symbols private steps n k (back private (record (st values v) { world = w }))))
  turn_case k f i values v out zero n earlier left le h round small front later fine went = inl (refl, went)
  turn_case k f i values v out (suc m) zero earlier left le h round small front later fine went = absurd (omega arith)
  turn_case k f i values v out (suc m) (suc n) earlier left le h round small front later fine went =
      let u : View = with_turns m (record v { processor = record v.processor { rip = S.label_at k } }) in
      let more = f.before ++ s.Label k ∷ [] in
      let parts : steps ≡ more ++ f.behind = f.parts ∙ sym (append_assoc f.before (s.Label k ∷ []) f.behind) in
      let size : length more ≡ length f.before + 1 = count f.before (s.Label k) in
      let same : 0 + length f.before + 1 ≡ length f.before + 1 = omega arith in
      let fine_2 : Fine (length f.before + 1) f.behind = subst (λ (i : ℕ). Fine i f.behind) same (fine_back 0 f.before (s.Label k ∷ f.behind) (subst (Fine 0) f.parts fine)).1 in
      leads_then S (λ o. Ends S p access_of o (Result_of n (pass symbols steps (To k) (st (private_alone private values) u)))) out u went
      (λ y j seen. retold _ _ _ (ap (Result_of n) (pass_found symbols k steps f (st (private_alone private values) u)))
      (earlier n refl more f.behind (private_alone private values) u y j parts seen
      (in_back S.units private steps p first last assigned i (length more) values v u (turned_scratched v (S.label_at k) m) (λ x few l. round x few (omega arith)) h)
      front later (subst (λ (i : ℕ). Fine i f.behind) (sym size) fine_2) (omega arith)))

  abbrev found_whole : (k : ℕ) (pre is : List FatStep) (g : Found k pre) → steps ≡ pre ++ is → Found k steps
  found_whole k pre is g e = record { before = g.before; behind = g.behind ++ is; parts = e ∙ ap (λ (l : List FatStep). l ++ is) g.parts ∙ append_assoc g.before (s.Label k ∷ g.behind) is; lacks = g.lacks }

  jump_behind : (n : ℕ) (pre is : List FatStep) (step : FatStep) (k : ℕ) (g : Found k pre) → LacksLabel k is → JumpsToLabel k step → ((n' : ℕ) → suc n' ≡ n → All n') → (values : Values) (v : View) (out : Whole Stored) (at next : ℕ)
      → steps ≡ pre ++ step ∷ is → Holds_in (length pre) values v → Laid S.code S.label_at S.entry_at p access_of base pre at → LaidStep S.code S.label_at S.entry_at p access_of at step next → Laid S.code S.label_at S.entry_at p access_of next is end → Fine 0 steps → at ≤ v.processor.rip → v.processor.rip < 0x1100_0000 → v.world.turns ≤ n
      → After S out (jumped v (S.label_at k)) → Ends S p access_of out (Result_of n (pass symbols is (To k) (st values v)))
  jump_behind n pre is step k g lacks jumps earlier values v out at next e h front one later fine from small le went =
      let u : View = record v { processor = record v.processor { rip = S.label_at k } } in
      let f = found_whole k pre (step ∷ is) g e in
      let split = laid_split S p access_of base g.before (s.Label k ∷ g.behind) at (subst (λ (l : List FatStep). Laid S.code S.label_at S.entry_at p access_of base l at) g.parts front) in
      let stay = split.back.1.0 in
      let here = split.back.1.1 in
      let up = laid_up S p access_of split.back.0 g.behind at split.back.2 in
      let behind : nat_le (S.label_at k) v.processor.rip ≡ true = grind (arith, nat_tests) in
      let turned : Turned S out v.world.turns u = subst (λ (b : Bool). After S out (if b then Came.Turn u else Came.On u)) behind went in
      let size : length pre ≡ length g.before + suc (length g.behind) = ap length g.parts ∙ length-append g.before (s.Label k ∷ g.behind) in
      retold out _ _ (ap (Result_of n) (pass_none symbols k is (st values v) lacks))
      (turn_case k f (length pre) values v out v.world.turns n earlier refl le h
      (λ x few l. let z = assigned.private_first x few in assigned.round x k g.before f.behind pre is step f.parts e jumps (omega arith) (omega arith) (omega arith))
      (omega arith)
      (laid_join S p access_of base g.before (s.Label k ∷ []) split.mid (S.label_at k) split.front (S.label_at k, (sym here, here), refl))
      (subst (λ (a : ℕ). Laid S.code S.label_at S.entry_at p access_of a f.behind end) (sym stay ∙ sym here) (laid_join S p access_of split.back.0 g.behind (step ∷ is) at end split.back.2 (next, one, later)))
      fine turned)

  lacks_join : (k : ℕ) (a b : List FatStep) → LacksLabel k a → LacksLabel k b → LacksLabel k (a ++ b)
  lacks_join k [] b h g = g
  lacks_join k (s.Label m ∷ a) b h g = (h.0, lacks_join k a b h.1 g)
  lacks_join k (step ∷ a) b h g = lacks_join k a b h g

  jump_goes : (n : ℕ) (pre is : List FatStep) (step : FatStep) (k : ℕ) → (LacksLabel k steps → ⊥) → (LacksLabel k is → LacksLabel k (step ∷ is)) → JumpsToLabel k step
      → ((more behind : List FatStep) → length behind < suc (length is) → From n more behind) → ((n' : ℕ) → suc n' ≡ n → All n') → (values : Values) (v : View) (out : Whole Stored) (at next : ℕ)
      → steps ≡ pre ++ step ∷ is → Holds_in (length pre) values v → Laid S.code S.label_at S.entry_at p access_of base pre at → LaidStep S.code S.label_at S.entry_at p access_of at step next → Laid S.code S.label_at S.entry_at p access_of next is end → Fine 0 steps → Fine (length pre + 1) is
      → at ≤ v.processor.rip → v.processor.rip < next → v.processor.rip < 0x1100_0000 → v.world.turns ≤ n
      → After S out (jumped v (S.label_at k)) → LacksLabel k is ⊎ Found k is → LacksLabel k pre ⊎ Found k pre → Ends S p access_of out (Result_of n (pass symbols is (To k) (st values v)))
  jump_goes n pre is step k there ls jumps rec earlier values v out at next e h front one later all fine from low small le went (inr f) _ =
      let size : length is ≡ length f.before + suc (length f.behind) = ap length f.parts ∙ length-append f.before (s.Label k ∷ f.behind) in
      jump_ahead n pre is step k f (λ more. rec more f.behind (omega arith)) values v out at next e h front one later fine low le went
  jump_goes n pre is step k there ls jumps rec earlier values v out at next e h front one later all fine from low small le went (inl lacks) (inr g) =
      jump_behind n pre is step k g lacks jumps earlier values v out at next e h front one later all from small le went
  jump_goes n pre is step k there ls jumps rec earlier values v out at next e h front one later all fine from low small le went (inl lacks) (inl none) =
      absurd (there (subst (LacksLabel k) (sym e) (lacks_join k pre (step ∷ is) none (ls lacks))))

  -- ---- steps

  abbrev pub StepGoes : ℕ → List FatStep → FatStep → List FatStep → Type 0
  StepGoes n pre step is = From n (pre ++ step ∷ []) is → From n pre (step ∷ is)

  thru : (out : Whole Stored) (u : View) (r : Outcome) → Leads S out u → ((y : Stored) (j : ℕ) → Seen S u y → Ends S p access_of (whole_of S u y j) r) → Ends S p access_of out r
  thru out u r leads go = leads_then S (λ o. Ends S p access_of o r) out u leads go

  -- a value is put, and the next step comes
  after_put : (i to m : ℕ) (values : Values) (v w : View) → Holds_in i values v → Scratched v w → Named i to → p.is_bounds to ≡ false → Holds_in (i + 1) (with_held to (Number m) values) (with_number_home (p.home to) m w)
  after_put i to m values v w h scr has is =
      let h1 = in_on S.units private steps p first last assigned i i values v w (omega arith) scr h in
      let h2 = put_in S.units private steps p first last assigned i to m values w has is h1 in
      in_on S.units private steps p first last assigned i (i + 1) (with_held to (Number m) values) (with_number_home (p.home to) m w) (with_number_home (p.home to) m w) (omega arith) (record { regs = λ r h. refl; bounds = λ b h. refl; slots = refl }) h2

  after_put_pair : (i to : ℕ) (b : BoundsPair) (values : Values) (v w : View) → Holds_in i values v → Scratched v w → Named i to → p.is_bounds to ≡ true → b.ub < 2 ^ 64 → Holds_in (i + 1) (with_held to (Pair b) values) (with_pair_home (p.home to) b w)
  after_put_pair i to b values v w h scr has is small =
      let h1 = in_on S.units private steps p first last assigned i i values v w (omega arith) scr h in
      let h2 = put_pair_in S.units private steps p first last assigned i to b values w has is small h1 in
      in_on S.units private steps p first last assigned i (i + 1) (with_held to (Pair b) values) (with_pair_home (p.home to) b w) (with_pair_home (p.home to) b w) (omega arith) (record { regs = λ r h. refl; bounds = λ b h. refl; slots = refl }) h2

  const_goes : (n : ℕ) (pre is : List FatStep) (to x : ℕ) → StepGoes n pre (s.Const to x) is
  const_goes n pre is to x rec values v y k e seen h front laid fine le =
      let f = fine.0 in
      let a = laid.1 in
      let b = a.2 in
      let v1 = with_scratch v a.0 0 x in
      let v2 = with_number_home (p.home to) x (at_address v1 b.0) in
      let q = rax_scratched v a.0 x in
      thru _ v1 _ (plain_goes S ok v y k a.0 _ v1.processor (record { seen = seen; stands = a.1 }) (record { call = refl; return = refl; service = refl; accesses_none = refl; is_row = const_row v.processor a.0 x f.2; is_next = refl; leaves = with_reg_leaves v.processor.regs 0 x rax_free; preserve = refl }))
      (λ y1 k1 seen1. thru _ v2 _ (put_goes S ok v1 y1 k1 b.0 0 (p.home to) (record { seen = seen1; stands = b.1 }) (assigned.number_fits to f.1))
      (λ y2 k2 seen2. cont n pre is (s.Const to x) rec v.processor.rip laid.0 (with_held to (Number x) values) v2 y2 k2 e seen2
      (after_put (length pre) to x values v (at_address v1 b.0) h (record { regs = q.regs; bounds = q.bounds; slots = q.slots }) f.0 f.1) front laid.1 b.2 laid.2 fine.1 le))

  copy_number : (n : ℕ) (pre is : List FatStep) (to from m : ℕ) → From n (pre ++ s.Copy to from ∷ []) is → (values : Values) (v : View) (y : Stored) (k next : ℕ) → steps ≡ pre ++ s.Copy to from ∷ is → Seen S v y → Holds_in (length pre) values v
      → Laid S.code S.label_at S.entry_at p access_of base pre v.processor.rip → LaidStep S.code S.label_at S.entry_at p access_of v.processor.rip (s.Copy to from) next → StandAll S.code S.label_at S.entry_at v.processor.rip (get 0 (p.home from) ∷ put (p.home to) 0 ∷ []) next → Laid S.code S.label_at S.entry_at p access_of next is end → Fine1 (length pre) (s.Copy to from) → Fine (length pre + 1) is → v.world.turns ≤ n
      → values from ≡ Number m → Ends S p access_of (whole_of S v y k) (Result_of n (pass symbols is Next (st (with_held to (Number m) values) v)))
  copy_number n pre is to from m rec values v y k next e seen h front one a later f fine le known =
      let b = a.2 in
      let sort = number_sort S.units private steps p first last assigned (length pre) from m values v h known in
      let is_number : p.is_bounds to ≡ false = f.2 ∙ sort in
      let value = number_in S.units private steps p first last assigned (length pre) from m values v h f.1 known in
      let v1 = with_scratch v a.0 0 (number_home v (p.home from)) in
      let v2 = with_number_home (p.home to) (number_home v (p.home from)) (at_address v1 b.0) in
      let q = rax_scratched v a.0 (number_home v (p.home from)) in
      thru _ v1 _ (get_goes S ok v y k a.0 0 (p.home from) (record { seen = seen; stands = a.1 }) (assigned.number_fits from sort) rax_free)
      (λ y1 k1 seen1. thru _ v2 _ (put_goes S ok v1 y1 k1 b.0 0 (p.home to) (record { seen = seen1; stands = b.1 }) (assigned.number_fits to is_number))
      (λ y2 k2 seen2. cont n pre is (s.Copy to from) rec v.processor.rip next (with_held to (Number m) values) v2 y2 k2 e seen2
      (subst (λ (z : ℕ). Holds_in (length pre + 1) (with_held to (Number m) values) (with_number_home (p.home to) z (at_address v1 b.0))) (sym value)
      (after_put (length pre) to m values v (at_address v1 b.0) h (record { regs = q.regs; bounds = q.bounds; slots = q.slots }) f.0 is_number)) front one b.2 later fine le))

  copy_goes : (n : ℕ) (pre is : List FatStep) (to from : ℕ) → StepGoes n pre (s.Copy to from) is
  copy_goes n pre is to from rec values v y k e seen h front laid fine le = by_sort (values from) refl (p.is_bounds to) refl
    where
      Goal : Reached → Type 0
      Goal r = Ends S p access_of (whole_of S v y k) (Result_of n (and_then r (pass symbols is)))

      by_sort : (x : Held) → values from ≡ x → (b : Bool) → p.is_bounds to ≡ b → Goal (held_then x (λ g. On Next (record (st values v) { values = with_held to g values })))
      by_sort Nothing known b sort = tt
      by_sort (Number m) known true sort = let a = number_sort S.units private steps p first last assigned (length pre) from m values v h known in let c : true ≡ false = sym sort ∙ fine.0.2 ∙ a in absurd (cc)
      by_sort (Number m) known false sort =
          copy_number n pre is to from m rec values v y k laid.0 e seen h front laid.1 (subst (λ (t : Bool). StandAll S.code S.label_at S.entry_at v.processor.rip (if t then get_bounds 0 (p.home from) ∷ put_bounds (p.home to) 0 ∷ [] else get 0 (p.home from) ∷ put (p.home to) 0 ∷ []) laid.0) sort laid.1) laid.2 fine.0 fine.1 le known
      by_sort (Pair m) known false sort = let a = pair_sort S.units private steps p first last assigned (length pre) from m values v h known in let c : false ≡ true = sym sort ∙ fine.0.2 ∙ a in absurd (cc)
      by_sort (Pair m) known true sort =
          let a = subst (λ (t : Bool). StandAll S.code S.label_at S.entry_at v.processor.rip (if t then get_bounds 0 (p.home from) ∷ put_bounds (p.home to) 0 ∷ [] else get 0 (p.home from) ∷ put (p.home to) 0 ∷ []) laid.0) sort laid.1 in
          let b = a.2 in
          let from_sort = pair_sort S.units private steps p first last assigned (length pre) from m values v h known in
          let value = pair_in S.units private steps p first last assigned (length pre) from m values v h fine.0.1 known in
          let v1 = with_scratch_bounds v a.0 0 (pair_home v (p.home from)) in
          let v2 = with_pair_home (p.home to) (pair_home v (p.home from)) (at_address v1 b.0) in
          let q = bnd0_scratched v a.0 (pair_home v (p.home from)) in
          thru _ v1 _ (get_bounds_goes S ok v y k a.0 0 (p.home from) (record { seen = seen; stands = a.1 }) (assigned.pair_fits from from_sort))
          (λ y1 k1 seen1. thru _ v2 _ (put_bounds_goes S ok v1 y1 k1 b.0 0 (p.home to) (record { seen = seen1; stands = b.1 }) (assigned.pair_fits to sort))
          (λ y2 k2 seen2. cont n pre is (s.Copy to from) rec v.processor.rip laid.0 (with_held to (Pair m) values) v2 y2 k2 e seen2
          (subst (λ (z : BoundsPair). Holds_in (length pre + 1) (with_held to (Pair m) values) (with_pair_home (p.home to) z (at_address v1 b.0))) (sym value)
          (after_put_pair (length pre) to m values v (at_address v1 b.0) h (record { regs = q.regs; bounds = q.bounds; slots = q.slots }) fine.0.0 sort (subst (λ (z : BoundsPair). z.ub < 2 ^ 64) value (seen1.words.bounds_fit 0).1))) front laid.1 b.2 laid.2 fine.1 le))

  -- ---- judgements

  -- both checks, and where one fails the stop with the access that stands for its address
  checks : (n : ℕ) (v : View) (y : Stored) (k n1 n2 size : ℕ) (access : AccessOfC) (values : Values) (rest : Going → State → Reached) → 1 ≤ size → size < 2 ^ 31 → Seen S v y
      → Stands S.code v.processor.rip (Bndcl 0 (in_reg 0)) n1 → Stands S.code n1 (Bndcu 0 (InMem (based 0 (pos size -ℤ pos 1)))) n2 → access_of v.processor.rip ≡ Some access → access_of n1 ≡ Some access
      → ((y3 : Stored) (k3 : ℕ) → Seen S (at_address (at_address v n1) n2) y3 → Ends S p access_of (whole_of S (at_address (at_address v n1) n2) y3 k3) (Result_of n (rest Next (st values v))))
      → Ends S p access_of (whole_of S v y k) (Result_of n (and_then (judged_of (v.processor.regs 0) (v.processor.bounds 0) size access values v) rest))
  unfolding leaving_value
  checks n v y k n1 n2 size access values rest some few seen s1 s2 here there onward =
      let x = v.processor.regs 0 in
      let b = v.processor.bounds 0 in
      let x2 = last_byte x size in
      let Claim : Option ℕ → Type 0 = λ o. Ends S p access_of (whole_of S v y k) (Result_of n (and_then (judged o b access (st values v)) rest)) in
      elim (nat_lt x b.lb) as (λ t. nat_lt x b.lb ≡ t → Claim (if t then Some x else if nat_lt b.ub x2 then Some x2 else None)) [
        | true ↦ λ below. inr (
          stop.Bounds (record { value = x; lb = b.lb; ub = b.ub; rip = v.processor.rip }),
          plain_fails S ok v y k n1 (Bndcl 0 (in_reg 0)) (Violates x b) _ (record { seen = seen; stands = s1 }) refl refl refl refl (lower_row v.processor n1 true below),
          ap (λ (o : Option AccessOfC). Some (Bounds x b (site_of v.processor.rip o))) here,
        )
        | false ↦ λ within.
            let v1 = at_address v n1 in
            elim (nat_lt b.ub x2) as (λ t. nat_lt b.ub x2 ≡ t → Claim (if t then Some x2 else None)) [
              | true ↦ λ above. thru (whole_of S v y k) v1 (Stops (Bounds x2 b (AtAccess access)) v.world) (plain_goes S ok v y k n1 _ v1.processor (record { seen = seen; stands = s1 }) (record { call = refl; return = refl; service = refl; accesses_none = refl; is_row = lower_row v.processor n1 false within; is_next = refl; leaves = leaves_all v.processor.regs; preserve = refl }))
                  (λ y1 k1 seen1. inr (
                    stop.Bounds (record { value = x2; lb = b.lb; ub = b.ub; rip = n1 }),
                    plain_fails S ok v1 y1 k1 n2 _ (Violates x2 b) _ (record { seen = seen1; stands = s2 }) refl refl refl refl (upper_row v1.processor n2 size true some above),
                    ap (λ (o : Option AccessOfC). Some (Bounds x2 b (site_of n1 o))) there,
                  ))
              | false ↦ λ fine. thru _ v1 _ (plain_goes S ok v y k n1 _ v1.processor (record { seen = seen; stands = s1 }) (record { call = refl; return = refl; service = refl; accesses_none = refl; is_row = lower_row v.processor n1 false within; is_next = refl; leaves = leaves_all v.processor.regs; preserve = refl }))
                  (λ y1 k1 seen1. thru _ (at_address v1 n2) _ (plain_goes S ok v1 y1 k1 n2 _ (at_next v1.processor n2) (record { seen = seen1; stands = s2 }) (record { call = refl; return = refl; service = refl; accesses_none = refl; is_row = upper_row v1.processor n2 size false some fine; is_next = refl; leaves = leaves_all v1.processor.regs; preserve = refl })) onward)
            ] refl
      ] refl

  judge_goes : (n : ℕ) (pre is : List FatStep) (value size bounds : ℕ) (write : Bool) (place : PlaceOf) → StepGoes n pre (s.Judge value size bounds write place) is
  judge_goes n pre is value size bounds write place rec values v y k e seen h front laid fine le =
      need_number n _ (pass symbols is) (values value) _ (λ m known. need_bounds n _ (pass symbols is) (values bounds) _ (λ b held.
      let f = fine.0 in
      let a = laid.1.0 in
      let a2 = a.2 in
      let a3 = a2.2 in
      let a4 = a3.2 in
      let number_sorted = number_sort S.units private steps p first last assigned (length pre) value m values v h known in
      let pair_sorted = pair_sort S.units private steps p first last assigned (length pre) bounds b values v h held in
      let x = number_home v (p.home value) in
      let v1 = with_scratch v a.0 0 x in
      let c = pair_home v1 (p.home bounds) in
      let v2 = with_scratch_bounds v1 a2.0 0 c in
      let q = rax_scratched v a.0 x in
      let is_m : x ≡ m = number_in S.units private steps p first last assigned (length pre) value m values v h f.0 known in
      let is_b : c ≡ b = pair_scratched S.units v v1 (p.home bounds) q (assigned.pair_fits bounds pair_sorted) ∙ pair_in S.units private steps p first last assigned (length pre) bounds b values v h f.1 held in
      thru _ v1 _ (get_goes S ok v y k a.0 0 (p.home value) (record { seen = seen; stands = a.1 }) (assigned.number_fits value number_sorted) rax_free)
      (λ y1 k1 seen1. thru _ v2 _ (get_bounds_goes S ok v1 y1 k1 a2.0 0 (p.home bounds) (record { seen = seen1; stands = a2.1 }) (assigned.pair_fits bounds pair_sorted))
      (λ y2 k2 seen2.
      subst (λ (z : ℕ). Ends S p access_of (whole_of S v2 y2 k2) (Result_of n (and_then (judged_of z b size record { place = place; write = write; size = size } values v) (pass symbols is)))) is_m
      (subst (λ (z : BoundsPair). Ends S p access_of (whole_of S v2 y2 k2) (Result_of n (and_then (judged_of x z size record { place = place; write = write; size = size } values v) (pass symbols is)))) is_b
      (checks n v2 y2 k2 a3.0 a4.0 size record { place = place; write = write; size = size } values (pass symbols is) f.2 f.3 seen2 a3.1 a4.1 laid.1.1 laid.1.2
      (λ y3 k3 seen3. cont n pre is (s.Judge value size bounds write place) rec v.processor.rip laid.0 values (at_address (at_address v2 a3.0) a4.0) y3 k3 e seen3
      (in_on S.units private steps p first last assigned (length pre) (length pre + 1) values v (at_address (at_address v2 a3.0) a4.0) (omega arith) (let d = bnd0_scratched v1 a2.0 c in record { regs = q.regs; bounds = λ z t. d.bounds z t ∙ q.bounds z t; slots = q.slots }) h)
      front laid.1 a4.2 laid.2 fine.1 le)))))))

  -- ---- memory

  -- how a piece that may be refused is the step that may be
  refused_goes : (n : ℕ) (out : Whole Stored) (o : Option Refusal) (v u : View) (values : Values) (done : Reached) (rest : Going → State → Reached) → After S out (View_refused v o (Came.On u)) → (o ≡ None → Leads S out u → Ends S p access_of out (Result_of n (and_then done rest)))
      → Ends S p access_of out (Result_of n (and_then (unless_refused o (st values v) done) rest))
  refused_goes n out None v u values done rest went onward = onward refl went
  refused_goes n out (Some (Strays x)) v u values done rest went onward = inr (stop.Strayed x, went, refl)
  refused_goes n out (Some (Misses x)) v u values done rest went onward = inr (stop.Unmapped x, went, refl)

  load_goes : (n : ℕ) (pre is : List FatStep) (q to : ℕ) (kind : IntKind) → StepGoes n pre (s.Load q to kind) is
  load_goes n pre is q to kind rec values v y k e seen h front laid fine le =
      need_number n _ (pass symbols is) (values q) _ (λ a known.
      let f = fine.0 in
      let l = laid.1 in
      let l2 = l.2 in
      let l3 = l2.2 in
      let sort = number_sort S.units private steps p first last assigned (length pre) q a values v h known in
      let x = number_home v (p.home q) in
      let is_a : x ≡ a = number_in S.units private steps p first last assigned (length pre) q a values v h f.0 known in
      let v1 = with_scratch v l.0 0 x in
      let after : ℕ → View = λ z. record { processor = with_word (at_next v1.processor l2.0) 0 (extended kind (number_at (size_of kind) v.world.bytes z)); slots = v.slots; world = read_noted (size_of kind) v.world z } in
      let value = extended kind (number_at (size_of kind) v.world.bytes a) in
      let v2 = after a in
      let v3 = with_number_home (p.home to) value (at_address v2 l3.0) in
      let c = rax_scratched v l.0 x in
      let d = rax_scratched v1 l2.0 value in
      thru _ v1 _ (get_goes S ok v y k l.0 0 (p.home q) (record { seen = seen; stands = l.1 }) (assigned.number_fits q sort) rax_free)
      (λ y1 k1 seen1.
      refused_goes n _ (refusal false (size_of kind) a) v1 v2 values _ (pass symbols is)
      (subst (λ (z : ℕ). After S (whole_of S v1 y1 k1) (View_refused v1 (refusal false (size_of kind) z) (Came.On (after z)))) is_a
      (read_goes S ok v1 y1 k1 l2.0 x (size_of kind) 0 (read_instr kind 0 0) (extended kind) (record { seen = seen1; stands = l2.1 }) rax_free (seen1.words.regs_fit 0) (reads_at S ok kind v1 l2.0 0 0 refl (seen1.words.regs_fit 0))))
      (λ none went. thru _ v2 _ went (λ y2 k2 seen2. thru _ v3 _ (put_goes S ok v2 y2 k2 l3.0 0 (p.home to) (record { seen = seen2; stands = l3.1 }) (assigned.number_fits to f.2))
      (λ y3 k3 seen3. cont n pre is (s.Load q to kind) rec v.processor.rip laid.0 (with_held to (Number value) values) v3 y3 k3 e seen3
      (after_put (length pre) to value values v (at_address v2 l3.0) h (record { regs = λ r t. d.regs r t ∙ c.regs r t; bounds = c.bounds; slots = refl }) f.1 f.2) front laid.1 l3.2 laid.2 fine.1 le)))))

  store_goes : (n : ℕ) (pre is : List FatStep) (q from : ℕ) (kind : IntKind) → StepGoes n pre (s.Store q from kind) is
  store_goes n pre is q from kind rec values v y k e seen h front laid fine le =
      need_number n _ (pass symbols is) (values q) _ (λ a known. need_number n _ (pass symbols is) (values from) _ (λ m written.
      let f = fine.0 in
      let l = laid.1 in
      let l2 = l.2 in
      let l3 = l2.2 in
      let sort = number_sort S.units private steps p first last assigned (length pre) q a values v h known in
      let from_sort = number_sort S.units private steps p first last assigned (length pre) from m values v h written in
      let x = number_home v (p.home q) in
      let is_a : x ≡ a = number_in S.units private steps p first last assigned (length pre) q a values v h f.0 known in
      let v1 = with_scratch v l.0 0 x in
      let c = rax_scratched v l.0 x in
      let z = number_home v1 (p.home from) in
      let is_m : z ≡ m = number_scratched S.units v v1 (p.home from) c (assigned.number_fits from from_sort) ∙ number_in S.units private steps p first last assigned (length pre) from m values v h f.1 written in
      let v2 = with_scratch v1 l2.0 1 z in
      let d = rcx_scratched v1 l2.0 z in
      let after : ℕ → ℕ → View = λ a m. record { processor = at_next v2.processor l3.0; slots = v.slots; world = number_written (size_of kind) v.world a m } in
      thru _ v1 _ (get_goes S ok v y k l.0 0 (p.home q) (record { seen = seen; stands = l.1 }) (assigned.number_fits q sort) rax_free)
      (λ y1 k1 seen1. thru _ v2 _ (get_goes S ok v1 y1 k1 l2.0 1 (p.home from) (record { seen = seen1; stands = l2.1 }) (assigned.number_fits from from_sort) rcx_free)
      (λ y2 k2 seen2.
      refused_goes n _ (refusal true (size_of kind) a) v2 (after a m) values _ (pass symbols is)
      (subst (λ (g : ℕ). After S (whole_of S v2 y2 k2) (View_refused v2 (refusal true (size_of kind) g) (Came.On (after g m)))) is_a
      (subst (λ (g : ℕ). After S (whole_of S v2 y2 k2) (View_refused v2 (refusal true (size_of kind) x) (Came.On (after x g)))) is_m
      (write_goes S ok v2 y2 k2 l3.0 x (size_of kind) z (write_instr S ok kind 0 1) (record { seen = seen2; stands = l3.1 }) (seen2.words.regs_fit 0) (writes_at S ok kind v2 l3.0 0 1 refl (seen2.words.regs_fit 0)))))
      (λ none went. thru _ (after a m) _ went (λ y3 k3 seen3. cont n pre is (s.Store q from kind) rec v.processor.rip laid.0 values (after a m) y3 k3 e seen3
      (in_on S.units private steps p first last assigned (length pre) (length pre + 1) values v (after a m) (omega arith) (record { regs = λ r t. d.regs r t ∙ c.regs r t; bounds = c.bounds; slots = refl }) h)
      front laid.1 l3.2 laid.2 fine.1 le))))))

  -- ---- pointers

  loaded_goes : (n : ℕ) (out : Whole Stored) (v : View) (b a : ℕ) (c : Processor) (o : Option (BoundsPair × BoundsStore)) (values : Values) (w0 : World) (to bounds value : ℕ) (rest : Going → State → Reached) → After S out (pair_loaded v b a c o)
      → ((q : BoundsPair × BoundsStore) → o ≡ Some q → Leads S out (record v { processor = with_bound c b q.0; world = with_store v.world q.1 }) → Ends S p access_of out (Result_of n (rest Next (with_pointer to bounds (record { number = value; bounds = q.0 }) (record { values = values; world = with_store v.world q.1 })))))
      → Ends S p access_of out (Result_of n (and_then (pointer_came to bounds (loaded_or_stopped v.world value o) (record { values = values; world = w0 })) rest))
  loaded_goes n out v b a c None values w0 to bounds value rest went onward = inr (stop.NoTable, went, refl)
  loaded_goes n out v b a c (Some q) values w0 to bounds value rest went onward = onward q refl went

  kept_goes : (n : ℕ) (out : Whole Stored) (v : View) (c : Processor) (o : Option BoundsStore) (values : Values) (rest : Going → State → Reached) (s : State) → After S out (pair_kept v c o)
      → ((t : BoundsStore) → o ≡ Some t → Leads S out (record v { processor = c; world = with_store v.world t }) → Ends S p access_of out (Result_of n (rest Next (record s { world = with_store v.world t }))))
      → Ends S p access_of out (Result_of n (and_then (pointer_went (stored_or_stopped v.world o) s) rest))
  kept_goes n out v c None values rest s went onward = inr (stop.NoTable, went, refl)
  kept_goes n out v c (Some t) values rest s went onward = onward t refl went

  load_ptr_goes : (n : ℕ) (pre is : List FatStep) (q to bounds : ℕ) → StepGoes n pre (s.LoadPtr q to bounds) is
  unfolding pointer_read
  load_ptr_goes n pre is q to bounds rec values v y k e seen h front laid fine le =
      need_number n _ (pass symbols is) (values q) _ (λ a known.
      let f = fine.0 in
      let l = laid.1 in
      let l2 = l.2 in
      let l3 = l2.2 in
      let l4 = l3.2 in
      let l5 = l4.2 in
      let sort = number_sort S.units private steps p first last assigned (length pre) q a values v h known in
      let x = number_home v (p.home q) in
      let is_a : x ≡ a = number_in S.units private steps p first last assigned (length pre) q a values v h f.0 known in
      let v1 = with_scratch v l.0 0 x in
      let after : ℕ → ℕ → View = λ z m. record { processor = with_word (at_next v1.processor l2.0) 1 m; slots = v.slots; world = read_noted 8 v.world z } in
      let value = number_at 8 v.world.bytes a in
      let c = rax_scratched v l.0 x in
      thru _ v1 _ (get_goes S ok v y k l.0 0 (p.home q) (record { seen = seen; stands = l.1 }) (assigned.number_fits q sort) rax_free)
      (λ y1 k1 seen1.
      let small : a < 2 ^ 64 = subst (λ (z : ℕ). z < 2 ^ 64) is_a (seen1.words.regs_fit 0) in
      refused_goes n _ (refusal false 8 a) v1 (after a (extended U64 value)) values _ (pass symbols is)
      (subst (λ (z : ℕ). After S (whole_of S v1 y1 k1) (View_refused v1 (refusal false 8 z) (Came.On (after z (extended U64 (number_at 8 v.world.bytes z)))))) is_a
      (read_goes S ok v1 y1 k1 l2.0 x 8 1 (read_instr U64 1 0) (extended U64) (record { seen = seen1; stands = l2.1 }) rcx_free (seen1.words.regs_fit 0) (reads_at S ok U64 v1 l2.0 1 0 refl (seen1.words.regs_fit 0))))
      (λ none went.
      let fits = pointer_fits S ok v1 y1 a seen1.memory small none in
      let word = extended-word S ok value fits.0 in
      let v2 = after a value in
      let d = rcx_scratched v1 l2.0 value in
      thru _ v2 _ (subst (λ (m : ℕ). Leads S (whole_of S v1 y1 k1) (after a m)) word went) (λ y2 k2 seen2.
      loaded_goes n _ v2 0 a (walked v2.world.store a (at_next v2.processor l3.0)) (load_bounds v.world.store a value) values v.world to bounds value (pass symbols is)
      (subst (λ (z : ℕ). After S (whole_of S v2 y2 k2) (pair_loaded v2 0 z (walked v2.world.store z (at_next v2.processor l3.0)) (load_bounds v2.world.store z value))) is_a
      (load_pair S ok v2 y2 k2 l3.0 0 0 1 (record { seen = seen2; stands = l3.1 }) (subst (λ (z : ℕ). z < walk_end) (sym is_a) fits.1)))
      (λ g found went2.
      let v3 : View = record v2 { processor = with_bound (walked v2.world.store a (at_next v2.processor l3.0)) 0 g.0; world = with_store v2.world g.1 } in
      let v4 = with_number_home (p.home to) value (at_address v3 l4.0) in
      let v5 = with_pair_home (p.home bounds) g.0 (at_address v4 l5.0) in
      thru _ v3 _ went2 (λ y3 k3 seen3.
      thru _ v4 _ (put_goes S ok v3 y3 k3 l4.0 1 (p.home to) (record { seen = seen3; stands = l4.1 }) (assigned.number_fits to f.3))
      (λ y4 k4 seen4. thru _ v5 _ (put_bounds_goes S ok v4 y4 k4 l5.0 0 (p.home bounds) (record { seen = seen4; stands = l5.1 }) (assigned.pair_fits bounds f.4))
      (λ y5 k5 seen5. cont n pre is (s.LoadPtr q to bounds) rec v.processor.rip laid.0 (with_held bounds (Pair g.0) (with_held to (Number value) values)) v5 y5 k5 e seen5
      (let b = bnd0_scratched v2 l3.0 g.0 in
      let h1 = in_on S.units private steps p first last assigned (length pre) (length pre) values v (at_address v3 l4.0) (omega arith) (record { regs = λ r t. d.regs r t ∙ c.regs r t; bounds = λ z t. b.bounds z t ∙ c.bounds z t; slots = refl }) h in
      let h2 = put_in S.units private steps p first last assigned (length pre) to value values (at_address v3 l4.0) f.1 f.3 h1 in
      after_put_pair (length pre) bounds g.0 (with_held to (Number value) values) v4 (at_address v4 l5.0) h2 (record { regs = λ r t. refl; bounds = λ z t. refl; slots = refl }) f.2 f.4 (seen3.words.bounds_fit 0).1)
      front laid.1 l5.2 laid.2 fine.1 le))))))))

  store_ptr_goes : (n : ℕ) (pre is : List FatStep) (q from bounds : ℕ) → StepGoes n pre (s.StorePtr q from bounds) is
  unfolding pointer_written
  store_ptr_goes n pre is q from bounds rec values v y k e seen h front laid fine le =
      need_number n _ (pass symbols is) (values q) _ (λ a known. need_number n _ (pass symbols is) (values from) _ (λ m written. need_bounds n _ (pass symbols is) (values bounds) _ (λ b held.
      let f = fine.0 in
      let l = laid.1 in
      let l2 = l.2 in
      let l3 = l2.2 in
      let l4 = l3.2 in
      let l5 = l4.2 in
      let sort = number_sort S.units private steps p first last assigned (length pre) q a values v h known in
      let from_sort = number_sort S.units private steps p first last assigned (length pre) from m values v h written in
      let pair_sorted = pair_sort S.units private steps p first last assigned (length pre) bounds b values v h held in
      let x = number_home v (p.home q) in
      let is_a : x ≡ a = number_in S.units private steps p first last assigned (length pre) q a values v h f.0 known in
      let v1 = with_scratch v l.0 0 x in
      let c = rax_scratched v l.0 x in
      let z = number_home v1 (p.home from) in
      let is_m : z ≡ m = number_scratched S.units v v1 (p.home from) c (assigned.number_fits from from_sort) ∙ number_in S.units private steps p first last assigned (length pre) from m values v h f.1 written in
      let v2 = with_scratch v1 l2.0 1 z in
      let d = rcx_scratched v1 l2.0 z in
      let after : ℕ → ℕ → View = λ a m. record { processor = at_next v2.processor l3.0; slots = v.slots; world = number_written 8 v.world a m } in
      let v3 = after a m in
      let both : Scratched v v3 = record { regs = λ r t. d.regs r t ∙ c.regs r t; bounds = c.bounds; slots = refl } in
      let w = pair_home v3 (p.home bounds) in
      let is_b : w ≡ b = pair_scratched S.units v v3 (p.home bounds) both (assigned.pair_fits bounds pair_sorted) ∙ pair_in S.units private steps p first last assigned (length pre) bounds b values v h f.2 held in
      let v4 = with_scratch_bounds v3 l4.0 0 w in
      thru _ v1 _ (get_goes S ok v y k l.0 0 (p.home q) (record { seen = seen; stands = l.1 }) (assigned.number_fits q sort) rax_free)
      (λ y1 k1 seen1. thru _ v2 _ (get_goes S ok v1 y1 k1 l2.0 1 (p.home from) (record { seen = seen1; stands = l2.1 }) (assigned.number_fits from from_sort) rcx_free)
      (λ y2 k2 seen2.
      let small : a < 2 ^ 64 = subst (λ (z : ℕ). z < 2 ^ 64) is_a (seen2.words.regs_fit 0) in
      refused_goes n _ (refusal true 8 a) v2 v3 values _ (pass symbols is)
      (subst (λ (g : ℕ). After S (whole_of S v2 y2 k2) (View_refused v2 (refusal true 8 g) (Came.On (after g m)))) is_a
      (subst (λ (g : ℕ). After S (whole_of S v2 y2 k2) (View_refused v2 (refusal true 8 x) (Came.On (after x g)))) is_m
      (write_goes S ok v2 y2 k2 l3.0 x 8 z (write_instr S ok U64 0 1) (record { seen = seen2; stands = l3.1 }) (seen2.words.regs_fit 0) (writes_at S ok U64 v2 l3.0 0 1 refl (seen2.words.regs_fit 0)))))
      (λ none went. thru _ v3 _ went (λ y3 k3 seen3. thru _ v4 _ (get_bounds_goes S ok v3 y3 k3 l4.0 0 (p.home bounds) (record { seen = seen3; stands = l4.1 }) (assigned.pair_fits bounds pair_sorted))
      (λ y4 k4 seen4.
      kept_goes n _ v4 (walked v.world.store a (at_next v4.processor l5.0)) (keep_bounds v.world.store a m b) values (pass symbols is) (st values v)
      (subst (λ (g : ℕ). After S (whole_of S v4 y4 k4) (pair_kept v4 (walked v.world.store g (at_next v4.processor l5.0)) (keep_bounds v.world.store g m b))) is_a
      (subst (λ (g : ℕ). After S (whole_of S v4 y4 k4) (pair_kept v4 (walked v.world.store x (at_next v4.processor l5.0)) (keep_bounds v.world.store x g b))) is_m
      (subst (λ (g : BoundsPair). After S (whole_of S v4 y4 k4) (pair_kept v4 (walked v.world.store x (at_next v4.processor l5.0)) (keep_bounds v.world.store x z g))) is_b
      (keep_pair S ok v4 y4 k4 l5.0 0 1 0 (record { seen = seen4; stands = l5.1 }) (subst (λ (g : ℕ). g < walk_end) (sym is_a) (written_near S ok a small none))))))
      (λ t found went2.
      let v5 : View = record v4 { processor = walked v.world.store a (at_next v4.processor l5.0); world = with_store v4.world t } in
      let g = bnd0_scratched v3 l4.0 w in
      thru _ v5 _ went2 (λ y5 k5 seen5. cont n pre is (s.StorePtr q from bounds) rec v.processor.rip laid.0 values v5 y5 k5 e seen5
      (in_on S.units private steps p first last assigned (length pre) (length pre + 1) values v v5 (omega arith) (record { regs = both.regs; bounds = λ z t. g.bounds z t ∙ c.bounds z t; slots = refl }) h)
      front laid.1 l5.2 laid.2 fine.1 le))))))))))

  -- ---- jumps and the end

  label_goes : (n : ℕ) (pre is : List FatStep) (x : ℕ) → StepGoes n pre (s.Label x) is
  label_goes n pre is x rec values v y k e seen h front laid fine le =
      cont n pre is (s.Label x) rec v.processor.rip laid.0 values v y k e seen (in_on S.units private steps p first last assigned (length pre) (length pre + 1) values v v (omega arith) (record { regs = λ r t. refl; bounds = λ b t. refl; slots = refl }) h)
      front laid.1 laid.1.0 laid.2 fine.1 le

  abbrev pub Upto : ℕ → ℕ → Type 0
  Upto n len = (pre is : List FatStep) → length is ≤ len → From n pre is

  jump_step : (n len : ℕ) (pre is : List FatStep) (x : ℕ) → length is ≤ len → Upto n len → ((n' : ℕ) → suc n' ≡ n → All n') → Fine 0 steps → From n pre (s.Jump x ∷ is)
  jump_step n len pre is x short rec earlier all values v y k e seen h front laid fine le =
      let a = laid.1 in
      let up = a.1.is_next in
      let high = a.1.high in
      let some = stands_on S _ _ _ a.1 in
      let stay = a.2 in
      jump_goes n pre is (s.Jump x) x fine.0 (λ z. z) refl (λ more behind few. rec more behind (omega arith)) earlier values v (whole_of S v y k) v.processor.rip laid.0 e h front laid.1 laid.2 all fine.1 (omega arith) (omega arith) (omega arith) le
      (go S ok v y k a.0 (S.label_at x) (record { seen = seen; stands = a.1 }) (ok.labels x)) (find x is) (find x pre)

  jumps_if : (n : ℕ) (out : Whole Stored) (m : ℕ) (x : ℕ) (t : State) (rest : Going → State → Reached) → (m ≡ 0 → Ends S p access_of out (Result_of n (rest Next t))) → ((m ≡ 0 → ⊥) → Ends S p access_of out (Result_of n (rest (To x) t)))
      → Ends S p access_of out (Result_of n (and_then (jumps_unless_0 m x t) rest))
  jumps_if n out zero x t rest a b = a refl
  jumps_if n out (suc m) x t rest a b = b (λ e. absurd (omega arith))

  jump_if_step : (n len : ℕ) (pre is : List FatStep) (from x : ℕ) → length is ≤ len → Upto n len → ((n' : ℕ) → suc n' ≡ n → All n') → Fine 0 steps → From n pre (s.JumpIf from x ∷ is)
  jump_if_step n len pre is from x short rec earlier all values v y k e seen h front laid fine le =
      need_number n _ (pass symbols is) (values from) _ (λ m known.
      let f = fine.0 in
      let l = laid.1 in
      let l2 = l.2 in
      let l3 = l2.2 in
      let sort = number_sort S.units private steps p first last assigned (length pre) from m values v h known in
      let g = number_home v (p.home from) in
      let is_m : g ≡ m = number_in S.units private steps p first last assigned (length pre) from m values v h f.0 known in
      let v1 = with_scratch v l.0 0 g in
      let q = rax_scratched v l.0 g in
      let c2 : Processor = record (at_next v1.processor l2.0) { flags = flags_of 64 (bit_and (g % 2 ^ 64) (g % 2 ^ 64)) false false } in
      let v2 : View = record v1 { processor = c2 } in
      let scr : Scratched v v2 = record { regs = q.regs; bounds = q.bounds; slots = q.slots } in
      thru _ v1 _ (get_goes S ok v y k l.0 0 (p.home from) (record { seen = seen; stands = l.1 }) (assigned.number_fits from sort) rax_free)
      (λ y1 k1 seen1. thru _ v2 _ (plain_goes S ok v1 y1 k1 l2.0 _ c2 (record { seen = seen1; stands = l2.1 }) (record { call = refl; return = refl; service = refl; accesses_none = refl; is_row = test_row v1.processor l2.0; is_next = refl; leaves = leaves_all v1.processor.regs; preserve = refl }))
      (λ y2 k2 seen2.
      let went = go_if S ok v2 y2 k2 l3.0 5 (S.label_at x) (record { seen = seen2; stands = l3.1 }) (ok.labels x) in
      let small : g < 2 ^ 64 = seen1.words.regs_fit 0 in
      let h2 = in_on S.units private steps p first last assigned (length pre) (length pre) values v v2 (omega arith) scr h in
      jumps_if n _ m x (st values v) (pass symbols is)
      (λ zero_is.
      let v3 = at_address v2 l3.0 in
      thru _ v3 _ (subst (λ (b : Bool). After S (whole_of S v2 y2 k2) (if b then jumped v2 (S.label_at x) else Came.On v3)) (test_tells_none g small (is_m ∙ zero_is)) went)
      (λ y3 k3 seen3. cont n pre is (s.JumpIf from x) (rec (pre ++ s.JumpIf from x ∷ []) is short) v.processor.rip laid.0 values v3 y3 k3 e seen3
      (in_on S.units private steps p first last assigned (length pre) (length pre + 1) values v v3 (omega arith) (record { regs = q.regs; bounds = q.bounds; slots = q.slots }) h) front laid.1 l3.2 laid.2 fine.1 le))
      (λ some_is.
      let up = l3.1.is_next in
      let high = l3.1.high in
      let some = stands_on S _ _ _ l3.1 in
      let stay = l3.2 in
      let first_up = l.1.is_next in
      let second_up = l2.1.is_next in
      jump_goes n pre is (s.JumpIf from x) x f.1 (λ z. z) refl (λ more behind few. rec more behind (omega arith)) earlier values v2 (whole_of S v2 y2 k2) v.processor.rip laid.0 e h2 front laid.1 laid.2 all fine.1 (omega arith) (omega arith) (omega arith) le
      (subst (λ (b : Bool). After S (whole_of S v2 y2 k2) (if b then jumped v2 (S.label_at x) else Came.On (at_address v2 l3.0))) (test_tells_some g small (λ z. some_is (sym is_m ∙ z))) went) (find x is) (find x pre)))))

  -- the end of the function lies ahead
  exit_ahead : end < S.label_at p.exit
  exit_ahead = let a = stands_on S _ _ _ tail.1 in let b = stands_on S _ _ _ tail.2.1 in let c = tail.2.2 in omega arith

  exits : (v : View) (y : Stored) (k next : ℕ) → Seen S v y → Stands S.code v.processor.rip (JmpRel true (relative (S.label_at p.exit) next)) next → v.processor.rip < S.label_at p.exit → Leads S (whole_of S v y k) (record v { processor = record v.processor { rip = S.label_at p.exit } })
  exits v y k next seen stands ahead =
      let u : View = record v { processor = record v.processor { rip = S.label_at p.exit } } in
      let forward : nat_le (S.label_at p.exit) v.processor.rip ≡ false = grind (arith, nat_tests) in
      subst (λ (b : Bool). After S (whole_of S v y k) (if b then Came.Turn u else Came.On u)) forward (go S ok v y k next (S.label_at p.exit) (record { seen = seen; stands = stands }) (ok.labels p.exit))

  give_number : (n : ℕ) (pre is : List FatStep) (from : ℕ) → From n pre (s.Give (Some from) None ∷ is)
  give_number n pre is from values v y k e seen h front laid fine le =
      need_number n _ (pass symbols is) (values from) _ (λ m known.
      let f = fine.0 in
      let l = laid.1 in
      let l2 = l.2 in
      let sort = number_sort S.units private steps p first last assigned (length pre) from m values v h known in
      let g = number_home v (p.home from) in
      let is_m : g ≡ m = number_in S.units private steps p first last assigned (length pre) from m values v h f.0 known in
      let v1 = with_scratch v l.0 0 g in
      let later = laid_up S p access_of laid.0 is end laid.2 in
      let up = l2.1.is_next in
      let some = stands_on S _ _ _ l2.1 in
      let stay = l2.2 in
      let ahead = exit_ahead in
      thru _ v1 (Comes (record { number = m; bounds = full_bounds }) v.world) (get_goes S ok v y k l.0 0 (p.home from) (record { seen = seen; stands = l.1 }) (assigned.number_fits from sort) rax_free)
      (λ y1 k1 seen1. record {
        view = record v1 { processor = record v1.processor { rip = S.label_at p.exit } };
        leads = exits v1 y1 k1 l2.0 seen1 l2.1 (omega arith);
        at = refl;
        number = is_m;
        bounds = λ pointer. let c : true ≡ false = sym pointer ∙ f.1 in absurd (cc);
        world = refl;
      }))

  give_pointer : (n : ℕ) (pre is : List FatStep) (from bounds : ℕ) → From n pre (s.Give (Some from) (Some bounds) ∷ is)
  give_pointer n pre is from bounds values v y k e seen h front laid fine le =
      need_number n _ (pass symbols is) (values from) _ (λ m known. need_bounds n _ (pass symbols is) (values bounds) _ (λ b held.
      let f = fine.0 in
      let l = laid.1 in
      let l2 = l.2 in
      let l3 = l2.2 in
      let sort = number_sort S.units private steps p first last assigned (length pre) from m values v h known in
      let pair_sorted = pair_sort S.units private steps p first last assigned (length pre) bounds b values v h held in
      let g = number_home v (p.home from) in
      let is_m : g ≡ m = number_in S.units private steps p first last assigned (length pre) from m values v h f.0 known in
      let v1 = with_scratch v l.0 0 g in
      let q = rax_scratched v l.0 g in
      let w = pair_home v1 (p.home bounds) in
      let is_b : w ≡ b = pair_scratched S.units v v1 (p.home bounds) q (assigned.pair_fits bounds pair_sorted) ∙ pair_in S.units private steps p first last assigned (length pre) bounds b values v h f.1 held in
      let v2 = with_scratch_bounds v1 l2.0 0 w in
      let later = laid_up S p access_of laid.0 is end laid.2 in
      let up = l3.1.is_next in
      let some = stands_on S _ _ _ l3.1 in
      let stay = l3.2 in
      let ahead = exit_ahead in
      thru _ v1 (Comes (record { number = m; bounds = b }) v.world) (get_goes S ok v y k l.0 0 (p.home from) (record { seen = seen; stands = l.1 }) (assigned.number_fits from sort) rax_free)
      (λ y1 k1 seen1. thru _ v2 (Comes (record { number = m; bounds = b }) v.world) (get_bounds_goes S ok v1 y1 k1 l2.0 0 (p.home bounds) (record { seen = seen1; stands = l2.1 }) (assigned.pair_fits bounds pair_sorted))
      (λ y2 k2 seen2. record {
        view = record v2 { processor = record v2.processor { rip = S.label_at p.exit } };
        leads = exits v2 y2 k2 l3.0 seen2 l3.1 (omega arith);
        at = refl;
        number = is_m;
        bounds = λ pointer. is_b;
        world = refl;
      }))))

  -- `return;`
  give_none : (n : ℕ) (pre is : List FatStep) → From n pre (s.Give None None ∷ is)
  give_none n pre is values v y k e seen h front laid fine le =
      let l = laid.1 in
      let l2 = l.2 in
      let l3 = l2.2 in
      let v1 = with_scratch v l.0 0 0 in
      let v2 = with_scratch_bounds v1 l2.0 0 full_bounds in
      let later = laid_up S p access_of laid.0 is end laid.2 in
      let up = l3.1.is_next in
      let some = stands_on S _ _ _ l3.1 in
      let stay = l3.2 in
      let ahead = exit_ahead in
      thru _ v1 (Comes no_value v.world) (plain_goes S ok v y k l.0 _ v1.processor (record { seen = seen; stands = l.1 }) (record { call = refl; return = refl; service = refl; accesses_none = refl; is_row = zero_row v.processor l.0; is_next = refl; leaves = with_reg_leaves v.processor.regs 0 0 rax_free; preserve = refl }))
      (λ y1 k1 seen1. thru _ v2 (Comes no_value v.world) (plain_goes S ok v1 y1 k1 l2.0 _ v2.processor (record { seen = seen1; stands = l2.1 }) (record { call = refl; return = refl; service = refl; accesses_none = refl; is_row = full_row v1.processor l2.0; is_next = refl; leaves = leaves_all v1.processor.regs; preserve = refl }))
      (λ y2 k2 seen2. record {
        view = record v2 { processor = record v2.processor { rip = S.label_at p.exit } };
        leads = exits v2 y2 k2 l3.0 seen2 l3.1 (omega arith);
        at = refl;
        number = refl;
        bounds = λ pointer. refl;
        world = refl;
      }))

  -- the end of the list
  end_goes : (n : ℕ) (pre : List FatStep) → From n pre []
  end_goes n pre values v y k e seen h front laid fine le =
      let t : StandAll S.code S.label_at S.entry_at v.processor.rip end_pieces (S.label_at p.exit) = subst (λ (a : ℕ). StandAll S.code S.label_at S.entry_at a end_pieces (S.label_at p.exit)) (sym laid) tail in
      let v1 = with_scratch v t.0 0 0 in
      let v2 = with_scratch_bounds v1 t.2.0 0 full_bounds in
      thru _ v1 (Comes no_value v.world) (plain_goes S ok v y k t.0 _ v1.processor (record { seen = seen; stands = t.1 }) (record { call = refl; return = refl; service = refl; accesses_none = refl; is_row = zero_row v.processor t.0; is_next = refl; leaves = with_reg_leaves v.processor.regs 0 0 rax_free; preserve = refl }))
      (λ y1 k1 seen1. record {
        view = v2;
        leads = plain_goes S ok v1 y1 k1 t.2.0 _ v2.processor (record { seen = seen1; stands = t.2.1 }) (record { call = refl; return = refl; service = refl; accesses_none = refl; is_row = full_row v1.processor t.2.0; is_next = refl; leaves = leaves_all v1.processor.regs; preserve = refl });
        at = t.2.2;
        number = refl;
        bounds = λ pointer. refl;
        world = refl;
      })

  ended_with : (out : Whole Stored) (why : Stop) (w u : World) → w ≡ u → Ended S out why w → Ended S out why u
  ended_with out why w u same h = subst (λ (x : World). Ended S out why x) same h

  -- ---- arithmetic

  extend_goes : (kind : IntKind) (r : ℕ) → IsFree r → (v : View) (y : Stored) (k next : ℕ) → Seen S v y → Stands S.code v.processor.rip (extend_instr kind r) next → Leads S (whole_of S v y k) (with_scratch v next r (extended kind (v.processor.regs r)))
  extend_goes kind r free v y k next seen stands = plain_goes S ok v y k next (extend_instr kind r) (with_word (at_next v.processor next) r (extended kind (v.processor.regs r))) (record { seen = seen; stands = stands }) (record {
    call = elim kind as (λ z. is_call (extend_instr z r) ≡ false) [ I8 ↦ refl | U8 ↦ refl | I16 ↦ refl | U16 ↦ refl | I32 ↦ refl | U32 ↦ refl | I64 ↦ refl | U64 ↦ refl ];
    return = elim kind as (λ z. is_return (extend_instr z r) ≡ false) [ I8 ↦ refl | U8 ↦ refl | I16 ↦ refl | U16 ↦ refl | I32 ↦ refl | U32 ↦ refl | I64 ↦ refl | U64 ↦ refl ];
    service = elim kind as (λ z. is_service (extend_instr z r) ≡ false) [ I8 ↦ refl | U8 ↦ refl | I16 ↦ refl | U16 ↦ refl | I32 ↦ refl | U32 ↦ refl | I64 ↦ refl | U64 ↦ refl ];
    accesses_none = elim kind as (λ z. accesses (extend_instr z r) next v.processor.regs ≡ []) [ I8 ↦ refl | U8 ↦ refl | I16 ↦ refl | U16 ↦ refl | I32 ↦ refl | U32 ↦ refl | I64 ↦ refl | U64 ↦ refl ];
    is_row = extend_row S ok kind v.processor next r (seen.words.regs_fit r);
    is_next = refl;
    leaves = with_reg_leaves v.processor.regs r (extended kind (v.processor.regs r)) free;
    preserve = refl;
  })

  -- what comes with an operator: the step in its place, and both operands
  pub record Operands (pre is : List FatStep) (step : FatStep) (to a b : ℕ) (values : Values) (v : View) (y : Stored) (next x z : ℕ) (n : ℕ) : Type 0 where
    pub rec : From n (pre ++ step ∷ []) is
    pub parts : steps ≡ pre ++ step ∷ is
    pub seen : Seen S v y
    pub inside : Holds_in (length pre) values v
    pub front : Laid S.code S.label_at S.entry_at p access_of base pre v.processor.rip
    pub one : LaidStep S.code S.label_at S.entry_at p access_of v.processor.rip step next
    pub later : Laid S.code S.label_at S.entry_at p access_of next is end
    pub fine : Fine (length pre + 1) is
    pub left : v.world.turns ≤ n
    pub to_named : Named (length pre) to
    pub a_named : Named (length pre) a
    pub b_named : Named (length pre) b
    pub number : p.is_bounds to ≡ false
    pub a_known : values a ≡ Number x
    pub b_known : values b ≡ Number z

  -- a register that is no home
  abbrev IsScratch : ℕ → Type 0
  IsScratch r = (q : ℕ) → IsHomeReg q → nat_eq q r ≡ false

  rax_scratch : IsScratch 0
  rax_scratch q h = h.rax

  rcx_scratch : IsScratch 1
  rcx_scratch q h = h.rcx

  -- a word made one of 64 bits where its type is narrow
  record Widened (kind : IntKind) (r : ℕ) (v u : View) : Type 0 where
    pub scratched : Scratched v u
    pub world : u.world ≡ v.world
    pub is : u.processor.regs r ≡ extended kind (v.processor.regs r)
    pub others : (q : ℕ) → nat_eq q r ≡ false → u.processor.regs q ≡ v.processor.regs q

  written_there : (r m : ℕ) (regs : ℕ → ℕ) → with_reg regs r m r ≡ m
  written_there r m regs = let e : nat_eq r r ≡ true = grind (arith, nat_tests) in ap (λ (b : Bool). cond b m (regs r)) e

  widen_goes : (kind : IntKind) (r : ℕ) → IsFree r → IsScratch r → (rest : List Piece) (v : View) (y : Stored) (k next : ℕ) (out : Outcome) → Seen S v y → StandAll S.code S.label_at S.entry_at v.processor.rip (widen kind r rest) next
      → ((u : View) (z : Stored) (j : ℕ) → Seen S u z → Widened kind r v u → StandAll S.code S.label_at S.entry_at u.processor.rip rest next → Ends S p access_of (whole_of S u z j) out)
      → Ends S p access_of (whole_of S v y k) out
  widen_goes kind r free scratch rest v y k next out seen laid go =
      let g = v.processor.regs r in
      elim (is_narrow kind) as (λ b. is_narrow kind ≡ b → StandAll S.code S.label_at S.entry_at v.processor.rip (if b then Plain (extend_instr kind r) ∷ rest else rest) next → Ends S p access_of (whole_of S v y k) out) [
        | true ↦ λ narrow l.
            let u = with_scratch v l.0 r (extended kind g) in
            thru _ u out (extend_goes kind r free v y k l.0 seen l.1)
            (λ z j seen1. go u z j seen1 (record {
              scratched = record { regs = λ q h. ap (λ (b : Bool). cond b (extended kind g) (v.processor.regs q)) (scratch q h); bounds = λ q h. refl; slots = refl };
              world = refl;
              is = written_there r (extended kind g) v.processor.regs;
              others = λ q h. ap (λ (b : Bool). cond b (extended kind g) (v.processor.regs q)) h;
            }) l.2)
        | false ↦ λ wide l. go v y k seen (record { scratched = record { regs = λ q h. refl; bounds = λ q h. refl; slots = refl }; world = refl; is = sym (wide_same kind g wide (seen.words.regs_fit r)); others = λ q h. refl }) l
      ] refl laid

  -- both operands in rax and rcx
  record Loaded (v u : View) (x z : ℕ) : Type 0 where
    pub scratched : Scratched v u
    pub world : u.world ≡ v.world
    pub in_rax : u.processor.regs 0 ≡ x
    pub in_rcx : u.processor.regs 1 ≡ z

  abbrev worded : Bool → IntKind → ℕ → ℕ
  worded true kind x = extended kind x
  worded false kind x = x

  load_two_goes : (words : Bool) (kind : IntKind) (n : ℕ) (pre is : List FatStep) (step : FatStep) (to a b : ℕ) (values : Values) (v : View) (y : Stored) (k next x z : ℕ) (rest : List Piece) (out : Outcome) → Operands pre is step to a b values v y next x z n
      → StandAll S.code S.label_at S.entry_at v.processor.rip (load_two p words kind a b rest) next
      → ((u : View) (w : Stored) (j : ℕ) → Seen S u w → Loaded v u (worded words kind x) (worded words kind z) → StandAll S.code S.label_at S.entry_at u.processor.rip rest next → Ends S p access_of (whole_of S u w j) out)
      → Ends S p access_of (whole_of S v y k) out
  load_two_goes true kind n pre is step to a b values v y k next x z rest out q l go =
      let a_sort = number_sort S.units private steps p first last assigned (length pre) a x values v q.inside q.a_known in
      let b_sort = number_sort S.units private steps p first last assigned (length pre) b z values v q.inside q.b_known in
      let g = number_home v (p.home a) in
      let is_x : g ≡ x = number_in S.units private steps p first last assigned (length pre) a x values v q.inside q.a_named q.a_known in
      let v1 = with_scratch v l.0 0 g in
      let c = rax_scratched v l.0 g in
      thru _ v1 out (get_goes S ok v y k l.0 0 (p.home a) (record { seen = q.seen; stands = l.1 }) (assigned.number_fits a a_sort) rax_free)
      (λ y1 k1 seen1. widen_goes kind 0 rax_free rax_scratch (get 1 (p.home b) ∷ widen kind 1 rest) v1 y1 k1 next out seen1 l.2
      (λ u1 y2 k2 seen2 wide1 l2.
      let w = number_home u1 (p.home b) in
      let both = scratched_by v v1 u1 c wide1.scratched in
      let is_z : w ≡ z = number_scratched S.units v u1 (p.home b) both (assigned.number_fits b b_sort) ∙ number_in S.units private steps p first last assigned (length pre) b z values v q.inside q.b_named q.b_known in
      let u2 = with_scratch u1 l2.0 1 w in
      thru _ u2 out (get_goes S ok u1 y2 k2 l2.0 1 (p.home b) (record { seen = seen2; stands = l2.1 }) (assigned.number_fits b b_sort) rcx_free)
      (λ y3 k3 seen3. widen_goes kind 1 rcx_free rcx_scratch rest u2 y3 k3 next out seen3 l2.2
      (λ u3 y4 k4 seen4 wide2 l4. go u3 y4 k4 seen4 (record {
        scratched = scratched_by v u2 u3 (scratched_by v u1 u2 both (rcx_scratched u1 l2.0 w)) wide2.scratched;
        world = wide2.world ∙ wide1.world;
        in_rax = wide2.others 0 refl ∙ wide1.is ∙ ap (extended kind) is_x;
        in_rcx = wide2.is ∙ ap (extended kind) is_z;
      }) l4))))
  load_two_goes false kind n pre is step to a b values v y k next x z rest out q l go =
      let l2 = l.2 in
      let a_sort = number_sort S.units private steps p first last assigned (length pre) a x values v q.inside q.a_known in
      let b_sort = number_sort S.units private steps p first last assigned (length pre) b z values v q.inside q.b_known in
      let g = number_home v (p.home a) in
      let is_x : g ≡ x = number_in S.units private steps p first last assigned (length pre) a x values v q.inside q.a_named q.a_known in
      let v1 = with_scratch v l.0 0 g in
      let c = rax_scratched v l.0 g in
      let w = number_home v1 (p.home b) in
      let is_z : w ≡ z = number_scratched S.units v v1 (p.home b) c (assigned.number_fits b b_sort) ∙ number_in S.units private steps p first last assigned (length pre) b z values v q.inside q.b_named q.b_known in
      let v2 = with_scratch v1 l2.0 1 w in
      thru _ v1 out (get_goes S ok v y k l.0 0 (p.home a) (record { seen = q.seen; stands = l.1 }) (assigned.number_fits a a_sort) rax_free)
      (λ y1 k1 seen1. thru _ v2 out (get_goes S ok v1 y1 k1 l2.0 1 (p.home b) (record { seen = seen1; stands = l2.1 }) (assigned.number_fits b b_sort) rcx_free)
      (λ y2 k2 seen2. go v2 y2 k2 seen2 (record { scratched = scratched_by v v1 v2 c (rcx_scratched v1 l2.0 w); world = refl; in_rax = is_x; in_rcx = is_z }) l2.2))

  -- the result, in rax, is put into its home
  result_goes : (n : ℕ) (pre is : List FatStep) (step : FatStep) (to a b : ℕ) (values : Values) (v : View) (y : Stored) (next x z value : ℕ) → Operands pre is step to a b values v y next x z n
      → (u : View) (w : Stored) (j : ℕ) → Seen S u w → Scratched v u → u.world ≡ v.world → u.processor.regs 0 ≡ value → StandAll S.code S.label_at S.entry_at u.processor.rip (put (p.home to) 0 ∷ []) next
      → Ends S p access_of (whole_of S u w j) (Result_of n (pass symbols is Next (st (with_held to (Number value) values) v)))
  result_goes n pre is step to a b values v y next x z value q u w j seen scr same has l =
      let u2 = with_number_home (p.home to) value (at_address u l.0) in
      subst (λ (m : World). Ends S p access_of (whole_of S u w j) (Result_of n (pass symbols is Next (record { values = with_held to (Number value) values; world = m })))) same
      (thru _ u2 _ (subst (λ (m : ℕ). Leads S (whole_of S u w j) (with_number_home (p.home to) m (at_address u l.0))) has (put_goes S ok u w j l.0 0 (p.home to) (record { seen = seen; stands = l.1 }) (assigned.number_fits to q.number)))
      (λ y1 k1 seen1. cont n pre is step q.rec v.processor.rip next (with_held to (Number value) values) u2 y1 k1 q.parts seen1
      (after_put (length pre) to value values v (at_address u l.0) q.inside (record { regs = scr.regs; bounds = scr.bounds; slots = scr.slots }) q.to_named q.number) q.front q.one l.2 q.later q.fine
      (subst (λ (m : World). m.turns ≤ n) (sym same) q.left)))

  -- made a number of its type before
  extended_goes : (kind : IntKind) (n : ℕ) (pre is : List FatStep) (step : FatStep) (to a b : ℕ) (values : Values) (v : View) (y : Stored) (next x z m : ℕ) → Operands pre is step to a b values v y next x z n
      → (u : View) (w : Stored) (j : ℕ) → Seen S u w → Scratched v u → u.world ≡ v.world → u.processor.regs 0 ≡ m → StandAll S.code S.label_at S.entry_at u.processor.rip (Plain (extend_instr kind 0) ∷ put (p.home to) 0 ∷ []) next
      → Ends S p access_of (whole_of S u w j) (Result_of n (pass symbols is Next (st (with_held to (Number (extended kind m)) values) v)))
  extended_goes kind n pre is step to a b values v y next x z m q u w j seen scr same has l =
      let g = u.processor.regs 0 in
      let u1 = with_scratch u l.0 0 (extended kind g) in
      thru _ u1 _ (extend_goes kind 0 rax_free u w j l.0 seen l.1)
      (λ y1 k1 seen1. result_goes n pre is step to a b values v y next x z (extended kind m) q u1 y1 k1 seen1 (scratched_by v u u1 scr (rax_scratched u l.0 (extended kind g))) same (ap (extended kind) has) l.2)

  -- an instruction that makes rax a function of rax and rcx
  pub record Yields (i : Instr) (f : ℕ → ℕ → ℕ) (flags : Processor → Flags) : Type 0 where
    pub call : is_call i ≡ false
    pub return : is_return i ≡ false
    pub service : is_service i ≡ false
    pub accesses_none : (next : ℕ) (regs : ℕ → ℕ) → accesses i next regs ≡ []
    pub is_row : (c : Processor) (next : ℕ) → row i next c ≡ RequestEnds (after_word f flags c next)

  adds : Yields (AluTo 0 64 (reg 1) (in_reg 0)) sum (flags_by op.Add)
  adds = record { call = refl; return = refl; service = refl; accesses_none = λ next regs. refl; is_row = add_row }

  subtracts : Yields (AluTo 3 64 (reg 1) (in_reg 0)) diff (flags_by op.Sub)
  subtracts = record { call = refl; return = refl; service = refl; accesses_none = λ next regs. refl; is_row = sub_row }

  multiplies : Yields (Imul 64 (reg 0) (in_reg 1)) (by_words op.Imul) (flags_by op.Imul)
  multiplies = record { call = refl; return = refl; service = refl; accesses_none = λ next regs. refl; is_row = imul_row }

  ands : Yields (AluTo 2 64 (reg 1) (in_reg 0)) (by_words op.And) (flags_by op.And)
  ands = record { call = refl; return = refl; service = refl; accesses_none = λ next regs. refl; is_row = and_row }

  ors : Yields (AluTo 1 64 (reg 1) (in_reg 0)) (by_words op.Or) (flags_by op.Or)
  ors = record { call = refl; return = refl; service = refl; accesses_none = λ next regs. refl; is_row = or_row }

  xors : Yields (AluTo 4 64 (reg 1) (in_reg 0)) (by_words op.Xor) (flags_by op.Xor)
  xors = record { call = refl; return = refl; service = refl; accesses_none = λ next regs. refl; is_row = xor_row }

  shifts_left : (kind : IntKind) → Yields (ShiftCl 0 (shift_width kind) (in_reg 0)) (by_shift (shift_width kind) op.Shl) (shift_flags_by (shift_width kind) op.Shl)
  shifts_left kind = record { call = refl; return = refl; service = refl; accesses_none = λ next regs. refl; is_row = λ c next. left_row kind c next }

  shifts_right : (kind : IntKind) → Yields (ShiftCl (right_shift kind) (shift_width kind) (in_reg 0)) (by_shift (shift_width kind) (right_operation kind)) (shift_flags_by (shift_width kind) (right_operation kind))
  shifts_right kind = record { call = refl; return = refl; service = refl; accesses_none = λ next regs. refl; is_row = λ c next. right_row kind c next }

  one_goes : (op : Arithmetic) (instr : Instr) (f : ℕ → ℕ → ℕ) (given : Processor → Flags) (kind : IntKind) (n : ℕ) (pre is : List FatStep) (step : FatStep) (to a b : ℕ) (values : Values) (v : View) (y : Stored) (next x z g h : ℕ) → Yields instr f given → word_arithmetic op kind x z ≡ Some (extended kind (f g h))
      → Operands pre is step to a b values v y next x z n → (u : View) (w : Stored) (j : ℕ) → Seen S u w → Loaded v u g h → StandAll S.code S.label_at S.entry_at u.processor.rip (Plain instr ∷ Plain (extend_instr kind 0) ∷ put (p.home to) 0 ∷ []) next
      → Ends S p access_of (whole_of S u w j) (Result_of n (and_then (computed to (word_arithmetic op kind x z) (st values v)) (pass symbols is)))
  one_goes op instr f given kind n pre is step to a b values v y next x z g h yields value_is q u w j seen two l =
      let m = f (u.processor.regs 0) (u.processor.regs 1) in
      let u1 : View = record u { processor = after_word f given u.processor l.0 } in
      let r = rax_scratched u l.0 m in
      let has : m ≡ f g h = λ i. f (two.in_rax i) (two.in_rcx i) in
      retold _ _ _ (ap (λ (o : Option ℕ). Result_of n (and_then (computed to o (st values v)) (pass symbols is))) value_is)
      (thru _ u1 _ (plain_goes S ok u w j l.0 instr u1.processor (record { seen = seen; stands = l.1 }) (record { call = yields.call; return = yields.return; service = yields.service; accesses_none = yields.accesses_none l.0 u.processor.regs; is_row = yields.is_row u.processor l.0; is_next = refl; leaves = with_reg_leaves u.processor.regs 0 m rax_free; preserve = refl }))
      (λ y1 k1 seen1. extended_goes kind n pre is step to a b values v y next x z (f g h) q u1 y1 k1 seen1 (record { regs = λ t e. r.regs t e ∙ two.scratched.regs t e; bounds = two.scratched.bounds; slots = two.scratched.slots }) two.world has l.2))

  -- ---- division

  -- how quotient and rest come from rdx, rax and rcx: an instruction that prepares rdx, and one that divides
  pub record Divided (ready : Instr) (i : Instr) (high : ℕ → ℕ) (by : ℕ → ℕ → ℕ → Option (ℕ × ℕ)) : Type 0 where
    pub ready_plain : (is_call ready ≡ false) × (is_return ready ≡ false) × (is_service ready ≡ false) × ((next : ℕ) (regs : ℕ → ℕ) → accesses ready next regs ≡ [])
    pub ready_row : (c : Processor) (next : ℕ) → row ready next c ≡ RequestEnds (with_word (at_next c next) 2 (high (c.regs 0)))
    pub plain : (is_call i ≡ false) × (is_return i ≡ false) × (is_service i ≡ false) × ((next : ℕ) (regs : ℕ → ℕ) → accesses i next regs ≡ [])
    pub is_row : (c : Processor) (next : ℕ) → row i next c ≡ quotient_kept c next 64 (by (c.regs 2) (c.regs 0) (c.regs 1))

  divides_signed : Divided (Wide 64) (One 3 64 (in_reg 1)) sign_word (λ high x z. divided_signed 64 (low 64 high) (low 64 x) (low 64 z))
  divides_signed = record { ready_plain = (refl, refl, refl, λ next regs. refl); ready_row = wide_row; plain = (refl, refl, refl, λ next regs. refl); is_row = idiv_row }

  divides_plain : Divided (MovImm 64 (reg 2) (pos 0)) (One 2 64 (in_reg 1)) (λ x. 0) (λ high x z. divided 64 (low 64 high) (low 64 x) (low 64 z))
  divides_plain = record { ready_plain = (refl, refl, refl, λ next regs. refl); ready_row = zero_rdx; plain = (refl, refl, refl, λ next regs. refl); is_row = div_row }

  abbrev quotient_view : View → ℕ → ℕ × ℕ → View
  quotient_view u next t = record u { processor = quotient_kept_in u.processor next (low 64 t.0) (low 64 t.1) }

  -- it stops where there is none, and goes on with both where there are
  division_goes : (ready i : Instr) (high : ℕ → ℕ) (by : ℕ → ℕ → ℕ → Option (ℕ × ℕ)) → Divided ready i high by → (v u : View) (w : Stored) (j next g h : ℕ) (rest : List Piece) (out : Outcome) (o : Option (ℕ × ℕ)) → Seen S u w → Loaded v u g h
      → by (high g) g h ≡ o → StandAll S.code S.label_at S.entry_at u.processor.rip (Plain ready ∷ Plain i ∷ rest) next
      → (o ≡ None → out ≡ Stops Divide v.world)
      → ((t : ℕ × ℕ) → o ≡ Some t → (u2 : View) (y2 : Stored) (k2 : ℕ) → Seen S u2 y2 → Scratched v u2 → u2.world ≡ v.world → u2.processor.regs 0 ≡ low 64 t.0 → u2.processor.regs 2 ≡ low 64 t.1 → StandAll S.code S.label_at S.entry_at u2.processor.rip rest next → Ends S p access_of (whole_of S u2 y2 k2) out)
      → Ends S p access_of (whole_of S u w j) out
  division_goes ready i high by d v u w j next g h rest out o seen two gives l none some =
      let l2 = l.2 in
      let m = high (u.processor.regs 0) in
      let u1 = with_scratch u l.0 2 m in
      let r = rdx_scratched u l.0 m in
      let found : by m (u.processor.regs 0) (u.processor.regs 1) ≡ o = (λ i. by (high (two.in_rax i)) (two.in_rax i) (two.in_rcx i)) ∙ gives in
      thru _ u1 out (plain_goes S ok u w j l.0 ready u1.processor (record { seen = seen; stands = l.1 }) (record { call = d.ready_plain.0; return = d.ready_plain.1; service = d.ready_plain.2; accesses_none = d.ready_plain.3 l.0 u.processor.regs; is_row = d.ready_row u.processor l.0; is_next = refl; leaves = with_reg_leaves u.processor.regs 2 m rdx_free; preserve = refl }))
      (λ y1 k1 seen1.
      let at_row : row i l2.0 u1.processor ≡ quotient_kept u1.processor l2.0 64 o = d.is_row u1.processor l2.0 ∙ ap (quotient_kept u1.processor l2.0 64) found in
      elim o as (λ t. o ≡ t → Ends S p access_of (whole_of S u1 y1 k1) out) [
        | None ↦ λ is. retold (whole_of S u1 y1 k1) out (Stops Divide v.world) (none is)
            (inr (stop.Divide, ended_with (whole_of S u1 y1 k1) stop.Divide u.world v.world two.world (plain_fails S ok u1 y1 k1 l2.0 i Divides u1.processor (record { seen = seen1; stands = l2.1 }) d.plain.0 d.plain.1 d.plain.2 (d.plain.3 l2.0 u1.processor.regs) (at_row ∙ ap (quotient_kept u1.processor l2.0 64) is)), refl))
        | Some t ↦ λ is.
            let u2 = quotient_view u1 l2.0 t in
            let r4 = rax_scratched u1 l2.0 (low 64 t.0) in
            let r5 = rdx_scratched (with_scratch u1 l2.0 0 (low 64 t.0)) l2.0 (low 64 t.1) in
            let two_left = with_reg_leaves u1.processor.regs 0 (low 64 t.0) rax_free in
            let three = with_reg_leaves (with_reg u1.processor.regs 0 (low 64 t.0)) 2 (low 64 t.1) rdx_free in
            thru _ u2 out (plain_goes S ok u1 y1 k1 l2.0 i u2.processor (record { seen = seen1; stands = l2.1 }) (record {
              call = d.plain.0;
              return = d.plain.1;
              service = d.plain.2;
              accesses_none = d.plain.3 l2.0 u1.processor.regs;
              is_row = at_row ∙ ap (quotient_kept u1.processor l2.0 64) is ∙ kept_row u1.processor l2.0 t;
              is_next = refl;
              leaves = record { rbx = three.rbx ∙ two_left.rbx; rsp = three.rsp ∙ two_left.rsp; rbp = three.rbp ∙ two_left.rbp; r12 = three.r12 ∙ two_left.r12; r13 = three.r13 ∙ two_left.r13; r14 = three.r14 ∙ two_left.r14; r15 = three.r15 ∙ two_left.r15 };
              preserve = refl;
            }))
            (λ y2 k2 seen2. some t is u2 y2 k2 seen2 (record { regs = λ q e. r5.regs q e ∙ r4.regs q e ∙ r.regs q e ∙ two.scratched.regs q e; bounds = two.scratched.bounds; slots = two.scratched.slots }) two.world refl refl l2.2)
      ] refl)

  abbrev Goal_of : ℕ → List FatStep → (to : ℕ) → Arithmetic → IntKind → (x z : ℕ) → Values → View → Outcome
  Goal_of n is to op kind x z values v = Result_of n (and_then (computed to (word_arithmetic op kind x z) (st values v)) (pass symbols is))

  computed_so : (n : ℕ) (is : List FatStep) (to : ℕ) (op : Arithmetic) (kind : IntKind) (x z : ℕ) (values : Values) (v : View) (o : Option ℕ) → word_arithmetic op kind x z ≡ o → Goal_of n is to op kind x z values v ≡ Result_of n (and_then (computed to o (st values v)) (pass symbols is))
  computed_so n is to op kind x z values v o e = ap (λ (t : Option ℕ). Result_of n (and_then (computed to t (st values v)) (pass symbols is))) e

  over_goes : (ready i : Instr) (high : ℕ → ℕ) (by : ℕ → ℕ → ℕ → Option (ℕ × ℕ)) → Divided ready i high by → (kind : IntKind) (n : ℕ) (pre is : List FatStep) (step : FatStep) (to a b : ℕ) (values : Values) (v : View) (y : Stored) (next x z : ℕ) → Operands pre is step to a b values v y next x z n
      → by (high (extended kind x)) (extended kind x) (extended kind z) ≡ quotient_of kind (value_of kind x) (value_of kind z)
      → (u : View) (w : Stored) (j : ℕ) → Seen S u w → Loaded v u (extended kind x) (extended kind z) → StandAll S.code S.label_at S.entry_at u.processor.rip (Plain ready ∷ Plain i ∷ Plain (extend_instr kind 0) ∷ put (p.home to) 0 ∷ []) next
      → Ends S p access_of (whole_of S u w j) (Goal_of n is to Div kind x z values v)
  over_goes ready i high by d kind n pre is step to a b values v y next x z q gives u w j seen two l =
      division_goes ready i high by d v u w j next (extended kind x) (extended kind z) (Plain (extend_instr kind 0) ∷ put (p.home to) 0 ∷ []) _ _ seen two gives l
      (λ none. computed_so n is to Div kind x z values v None (over_by kind x z ∙ ap (option_map (λ (t : ℕ × ℕ). extended kind t.0)) none))
      (λ t some u2 y2 k2 seen2 scr same rax rdx l2.
      retold _ _ _ (computed_so n is to Div kind x z values v (Some (extended kind (low 64 t.0))) (over_by kind x z ∙ ap (option_map (λ (t : ℕ × ℕ). extended kind t.0)) some ∙ ap (λ (m : ℕ). let o : Option ℕ = Some m in o) (sym (extended_low kind t.0))))
      (extended_goes kind n pre is step to a b values v y next x z (low 64 t.0) q u2 y2 k2 seen2 scr same rax l2))

  rest_goes : (ready i : Instr) (high : ℕ → ℕ) (by : ℕ → ℕ → ℕ → Option (ℕ × ℕ)) → Divided ready i high by → (kind : IntKind) (n : ℕ) (pre is : List FatStep) (step : FatStep) (to a b : ℕ) (values : Values) (v : View) (y : Stored) (next x z : ℕ) → Operands pre is step to a b values v y next x z n
      → by (high (extended kind x)) (extended kind x) (extended kind z) ≡ quotient_of kind (value_of kind x) (value_of kind z)
      → (u : View) (w : Stored) (j : ℕ) → Seen S u w → Loaded v u (extended kind x) (extended kind z) → StandAll S.code S.label_at S.entry_at u.processor.rip (Plain ready ∷ Plain i ∷ Plain (MovTo 64 (reg 2) (in_reg 0)) ∷ Plain (extend_instr kind 0) ∷ put (p.home to) 0 ∷ []) next
      → Ends S p access_of (whole_of S u w j) (Goal_of n is to Rem kind x z values v)
  rest_goes ready i high by d kind n pre is step to a b values v y next x z q gives u w j seen two l =
      division_goes ready i high by d v u w j next (extended kind x) (extended kind z) (Plain (MovTo 64 (reg 2) (in_reg 0)) ∷ Plain (extend_instr kind 0) ∷ put (p.home to) 0 ∷ []) _ _ seen two gives l
      (λ none. computed_so n is to Rem kind x z values v None (rest_by kind x z ∙ ap (option_map (λ (t : ℕ × ℕ). extended kind t.1)) none))
      (λ t some u2 y2 k2 seen2 scr same rax rdx l2.
      let g = u2.processor.regs 2 in
      let u3 = with_scratch u2 l2.0 0 g in
      retold _ _ _ (computed_so n is to Rem kind x z values v (Some (extended kind (low 64 t.1))) (rest_by kind x z ∙ ap (option_map (λ (t : ℕ × ℕ). extended kind t.1)) some ∙ ap (λ (m : ℕ). let o : Option ℕ = Some m in o) (sym (extended_low kind t.1))))
      (thru _ u3 _ (plain_goes S ok u2 y2 k2 l2.0 _ u3.processor (record { seen = seen2; stands = l2.1 }) (record { call = refl; return = refl; service = refl; accesses_none = refl; is_row = moved_row u2.processor l2.0 2 0 (seen2.words.regs_fit 2); is_next = refl; leaves = with_reg_leaves u2.processor.regs 0 g rax_free; preserve = refl }))
      (λ y3 k3 seen3. extended_goes kind n pre is step to a b values v y next x z (low 64 t.1) q u3 y3 k3 seen3 (scratched_by v u2 u3 scr (rax_scratched u2 l2.0 g)) same rdx l2.2)))

  -- ---- each operator

  operation_goes : (op : Arithmetic) (kind : IntKind) (n : ℕ) (pre is : List FatStep) (step : FatStep) (to a b : ℕ) (values : Values) (v : View) (y : Stored) (next x z : ℕ) → Operands pre is step to a b values v y next x z n
      → (u : View) (w : Stored) (j : ℕ) → Seen S u w → Loaded v u (worded (needs_words op) kind x) (worded (needs_words op) kind z) → StandAll S.code S.label_at S.entry_at u.processor.rip (operation op kind (Plain (extend_instr kind 0) ∷ put (p.home to) 0 ∷ [])) next
      → Ends S p access_of (whole_of S u w j) (Goal_of n is to op kind x z values v)
  operation_goes Add kind n pre is step to a b values v y next x z q u w j seen two l = one_goes Add _ sum (flags_by op.Add) kind n pre is step to a b values v y next x z x z adds (plus_is kind x z) q u w j seen two l
  operation_goes Sub kind n pre is step to a b values v y next x z q u w j seen two l = one_goes Sub _ diff (flags_by op.Sub) kind n pre is step to a b values v y next x z x z subtracts (minus_is kind x z) q u w j seen two l
  operation_goes Mul kind n pre is step to a b values v y next x z q u w j seen two l = one_goes Mul _ (by_words op.Imul) (flags_by op.Imul) kind n pre is step to a b values v y next x z (extended kind x) (extended kind z) multiplies (times_is kind x z) q u w j seen two l
  operation_goes BitAnd kind n pre is step to a b values v y next x z q u w j seen two l = one_goes BitAnd _ (by_words op.And) (flags_by op.And) kind n pre is step to a b values v y next x z (extended kind x) (extended kind z) ands (and_is kind x z) q u w j seen two l
  operation_goes BitOr kind n pre is step to a b values v y next x z q u w j seen two l = one_goes BitOr _ (by_words op.Or) (flags_by op.Or) kind n pre is step to a b values v y next x z (extended kind x) (extended kind z) ors (or_is kind x z) q u w j seen two l
  operation_goes BitXor kind n pre is step to a b values v y next x z q u w j seen two l = one_goes BitXor _ (by_words op.Xor) (flags_by op.Xor) kind n pre is step to a b values v y next x z (extended kind x) (extended kind z) xors (xor_is kind x z) q u w j seen two l
  operation_goes Shl kind n pre is step to a b values v y next x z q u w j seen two l =
      one_goes Shl _ (by_shift (shift_width kind) op.Shl) (shift_flags_by (shift_width kind) op.Shl) kind n pre is step to a b values v y next x z (extended kind x) (extended kind z) (shifts_left kind) (left_is kind x z) q u w j seen two l
  operation_goes Shr kind n pre is step to a b values v y next x z q u w j seen two l =
      one_goes Shr _ (by_shift (shift_width kind) (right_operation kind)) (shift_flags_by (shift_width kind) (right_operation kind)) kind n pre is step to a b values v y next x z (extended kind x) (extended kind z) (shifts_right kind) (right_is kind x z) q u w j seen two l
  operation_goes Div kind n pre is step to a b values v y next x z q u w j seen two l =
      let rest = Plain (extend_instr kind 0) ∷ put (p.home to) 0 ∷ [] in
      elim (is_signed kind) as (λ s. is_signed kind ≡ s → StandAll S.code S.label_at S.entry_at u.processor.rip (if s then Plain (Wide 64) ∷ Plain (One 3 64 (in_reg 1)) ∷ rest else Plain (MovImm 64 (reg 2) (pos 0)) ∷ Plain (One 2 64 (in_reg 1)) ∷ rest) next → Ends S p access_of (whole_of S u w j) (Goal_of n is to Div kind x z values v)) [
        | true ↦ λ sign l. over_goes _ _ _ _ divides_signed kind n pre is step to a b values v y next x z q (signed_division kind x z sign) u w j seen two l
        | false ↦ λ plain l. over_goes _ _ _ _ divides_plain kind n pre is step to a b values v y next x z q (plain_division kind x z plain) u w j seen two l
      ] refl l
  operation_goes Rem kind n pre is step to a b values v y next x z q u w j seen two l =
      let rest = Plain (MovTo 64 (reg 2) (in_reg 0)) ∷ Plain (extend_instr kind 0) ∷ put (p.home to) 0 ∷ [] in
      elim (is_signed kind) as (λ s. is_signed kind ≡ s → StandAll S.code S.label_at S.entry_at u.processor.rip (if s then Plain (Wide 64) ∷ Plain (One 3 64 (in_reg 1)) ∷ rest else Plain (MovImm 64 (reg 2) (pos 0)) ∷ Plain (One 2 64 (in_reg 1)) ∷ rest) next → Ends S p access_of (whole_of S u w j) (Goal_of n is to Rem kind x z values v)) [
        | true ↦ λ sign l. rest_goes _ _ _ _ divides_signed kind n pre is step to a b values v y next x z q (signed_division kind x z sign) u w j seen two l
        | false ↦ λ plain l. rest_goes _ _ _ _ divides_plain kind n pre is step to a b values v y next x z q (plain_division kind x z plain) u w j seen two l
      ] refl l

  arith_by : (n : ℕ) (pre is : List FatStep) (step : FatStep) (to a b : ℕ) (op : Arithmetic) (kind : IntKind) (values : Values) (v : View) (y : Stored) (k next x z : ℕ) → Operands pre is step to a b values v y next x z n
      → StandAll S.code S.label_at S.entry_at v.processor.rip (lower_arith p op kind to a b) next → Ends S p access_of (whole_of S v y k) (Result_of n (and_then (computed to (word_arithmetic op kind x z) (st values v)) (pass symbols is)))
  arith_by n pre is step to a b op kind values v y k next x z q l =
      load_two_goes (needs_words op) kind n pre is step to a b values v y k next x z (operation op kind (Plain (extend_instr kind 0) ∷ put (p.home to) 0 ∷ [])) _ q l (λ u w j seen two l2. operation_goes op kind n pre is step to a b values v y next x z q u w j seen two l2)

  arith_goes : (n : ℕ) (pre is : List FatStep) (to : ℕ) (op : Arithmetic) (a b : ℕ) (kind : IntKind) → StepGoes n pre (s.Arith to op kind a b) is
  arith_goes n pre is to op a b kind rec values v y k e seen h front laid fine le =
      need_number n _ (pass symbols is) (values a) _ (λ x known_a. need_number n _ (pass symbols is) (values b) _ (λ z known_b.
      arith_by n pre is (s.Arith to op kind a b) to a b op kind values v y k laid.0 x z
      (record { rec = rec; parts = e; seen = seen; inside = h; front = front; one = laid.1; later = laid.2; fine = fine.1; left = le; to_named = fine.0.0; a_named = fine.0.1; b_named = fine.0.2; number = fine.0.3; a_known = known_a; b_known = known_b }) laid.1))

  -- ---- comparisons

  comparison_goes : (op : Comparison) (kind : IntKind) (n : ℕ) (pre is : List FatStep) (step : FatStep) (to a b : ℕ) (values : Values) (v : View) (y : Stored) (next x z : ℕ) → Operands pre is step to a b values v y next x z n
      → (u : View) (w : Stored) (j : ℕ) → Seen S u w → Loaded v u (extended kind x) (extended kind z)
      → StandAll S.code S.label_at S.entry_at u.processor.rip (Plain (AluTo 5 64 (reg 1) (in_reg 0)) ∷ Plain (Set (condition op (is_signed kind)) (in_reg 0)) ∷ Plain (Movzx 8 (reg 0) (in_reg 0)) ∷ put (p.home to) 0 ∷ []) next
      → Ends S p access_of (whole_of S u w j) (Result_of n (and_then (goes (with_number to (word_compares op kind x z) (st values v))) (pass symbols is)))
  comparison_goes op kind n pre is step to a b values v y next x z q u w j seen two l =
      let l2 = l.2 in
      let l3 = l2.2 in
      let code = condition op (is_signed kind) in
      let g = u.processor.regs 0 in
      let u1 : View = record u { processor = record (at_next u.processor l.0) { flags = compared_flags u.processor } } in
      let t : Bool = holds code (compared_flags u.processor) in
      let bit = if t then 1 else 0 in
      let u2 = with_scratch u1 l2.0 0 (with_low g bit) in
      let r2 = rax_scratched u1 l2.0 (with_low g bit) in
      let u3 = with_scratch u2 l3.0 0 bit in
      let r3 = rax_scratched u2 l3.0 bit in
      let value = word_compares op kind x z in
      let has : bit ≡ value = (λ i. if holds code (flags_after Cmp 64 (low 64 (two.in_rax i)) (low 64 (two.in_rcx i)) u.processor.flags) then 1 else 0) ∙ sym (compares_is op kind x z u.processor.flags) in
      thru _ u1 _ (plain_goes S ok u w j l.0 _ u1.processor (record { seen = seen; stands = l.1 }) (record { call = refl; return = refl; service = refl; accesses_none = refl; is_row = cmp_row u.processor l.0; is_next = refl; leaves = leaves_all u.processor.regs; preserve = refl }))
      (λ y1 k1 seen1. thru _ u2 _ (plain_goes S ok u1 y1 k1 l2.0 _ u2.processor (record { seen = seen1; stands = l2.1 }) (record { call = refl; return = refl; service = refl; accesses_none = refl; is_row = set_row code u1.processor l2.0; is_next = refl; leaves = with_reg_leaves u1.processor.regs 0 (with_low g bit) rax_free; preserve = refl }))
      (λ y2 k2 seen2. thru _ u3 _ (plain_goes S ok u2 y2 k2 l3.0 _ u3.processor (record { seen = seen2; stands = l3.1 }) (record { call = refl; return = refl; service = refl; accesses_none = refl; is_row = widen_row u2.processor l3.0 g t refl; is_next = refl; leaves = with_reg_leaves u2.processor.regs 0 bit rax_free; preserve = refl }))
      (λ y3 k3 seen3. result_goes n pre is step to a b values v y next x z value q u3 y3 k3 seen3 (record { regs = λ r e. r3.regs r e ∙ r2.regs r e ∙ two.scratched.regs r e; bounds = two.scratched.bounds; slots = two.scratched.slots }) two.world has l3.2)))

  compare_by : (n : ℕ) (pre is : List FatStep) (step : FatStep) (to a b : ℕ) (op : Comparison) (kind : IntKind) (values : Values) (v : View) (y : Stored) (k next x z : ℕ) → Operands pre is step to a b values v y next x z n
      → StandAll S.code S.label_at S.entry_at v.processor.rip (lower_compare p op kind to a b) next → Ends S p access_of (whole_of S v y k) (Result_of n (and_then (goes (with_number to (word_compares op kind x z) (st values v))) (pass symbols is)))
  compare_by n pre is step to a b op kind values v y k next x z q l =
      load_two_goes true kind n pre is step to a b values v y k next x z (Plain (AluTo 5 64 (reg 1) (in_reg 0)) ∷ Plain (Set (condition op (is_signed kind)) (in_reg 0)) ∷ Plain (Movzx 8 (reg 0) (in_reg 0)) ∷ put (p.home to) 0 ∷ []) _ q l (λ u w j seen two l2. comparison_goes op kind n pre is step to a b values v y next x z q u w j seen two l2)

  compare_step : (n : ℕ) (pre is : List FatStep) (to : ℕ) (op : Comparison) (a b : ℕ) (kind : IntKind) → StepGoes n pre (s.Compare to op kind a b) is
  compare_step n pre is to op a b kind rec values v y k e seen h front laid fine le =
      need_number n _ (pass symbols is) (values a) _ (λ x known_a. need_number n _ (pass symbols is) (values b) _ (λ z known_b.
      compare_by n pre is (s.Compare to op kind a b) to a b op kind values v y k laid.0 x z
      (record { rec = rec; parts = e; seen = seen; inside = h; front = front; one = laid.1; later = laid.2; fine = fine.1; left = le; to_named = fine.0.0; a_named = fine.0.1; b_named = fine.0.2; number = fine.0.3; a_known = known_a; b_known = known_b }) laid.1))

  -- ---- calls

  at_call : (i : ℕ) (values : Values) (v u : View) → ((x : ℕ) → Named i x → IsSlot (p.home x)) → u.slots ≡ v.slots → Holds_in i values v → Holds_in i values u
  at_call i values v u slots same h = record { at_home = λ x l. by_known x l (values x) refl (h.at_home x l); begun = h.begun; sorted = h.sorted }
    where
      by_known : (x : ℕ) → i ≤ last x → (g : Held) → values x ≡ g → AtHome v (p.home x) g → AtHome u (p.home x) g
      by_known x l Nothing is at = tt
      by_known x l (Number m) is at = at_slot v u (p.home x) (Number m) (slots x (h.begun x (subst IsKnown (sym is) tt), l)) same at
      by_known x l (Pair b) is at = at_slot v u (p.home x) (Pair b) (slots x (h.begun x (subst IsKnown (sym is) tt), l)) same at

  load_all : (n place : ℕ) (values : Values) (v0 : View) → Holds_in place values v0 → ((x : ℕ) → Named place x → IsSlot (p.home x)) → (args : List (ℕ × Option ℕ)) → ArgsFine place args → (i j : ℕ) → i + length args ≤ 6
      → (v : View) (y : Stored) (k : ℕ) (more : List Piece) (stop_at : ℕ) → StandAll S.code S.label_at S.entry_at v.processor.rip (load_args p args i j ++ more) stop_at → Seen S v y → v.slots ≡ v0.slots → (go : List Value → Reached) (rest : Going → State → Reached)
      → ((xs : List Value) (u : View) (z : Stored) (m : ℕ) → Seen S u z → StandAll S.code S.label_at S.entry_at u.processor.rip more stop_at → ArgsStand i j args xs u → LeavesBefore i j v u → Ends S p access_of (whole_of S u z m) (Result_of n (and_then (go xs) rest)))
      → Ends S p access_of (whole_of S v y k) (Result_of n (and_then (arguments_then values args go) rest))
  load_all n place values v0 h slots [] fine i j few v y k more stop_at l seen same go rest f = f [] v y k seen l tt (record { regs = λ m t. refl; bounds = λ m t. refl; slots = refl; world = refl })
  load_all n place values v0 h slots ((x, None) ∷ args) fine i j few v y k more stop_at l seen same go rest f =
      need_number n _ rest (values x) _ (λ m known.
      let h1 = at_call place values v0 v slots same h in
      let sort = number_sort S.units private steps p first last assigned place x m values v h1 known in
      let is_m = number_in S.units private steps p first last assigned place x m values v h1 fine.0 known in
      let v1 = with_scratch v l.0 (arg_reg i) (number_home v (p.home x)) in
      thru _ v1 _ (get_goes S ok v y k l.0 (arg_reg i) (p.home x) (record { seen = seen; stands = l.1 }) (assigned.number_fits x sort) (arg_free i))
      (λ y1 k1 seen1. load_all n place values v0 h slots args fine.1 (suc i) j (omega arith) v1 y1 k1 more stop_at l.2 seen1 same (λ vs. go (record { number = m; bounds = full_bounds } ∷ vs)) rest
      (λ xs u z t seen2 l2 stand leaves. f (record { number = m; bounds = full_bounds } ∷ xs) u z t seen2 l2
      (leaves.regs i (omega arith) ∙ same_reg v.processor.regs (arg_reg i) (number_home v (p.home x)) ∙ is_m, refl, stand)
      (record {
        regs = λ g less. leaves.regs g (omega arith) ∙ ap (λ b. cond b (number_home v (p.home x)) (v.processor.regs (arg_reg g))) (arg_apart g i less (omega arith));
        bounds = leaves.bounds;
        slots = leaves.slots;
        world = leaves.world;
      }))))
  load_all n place values v0 h slots ((x, Some b) ∷ args) fine i j few v y k more stop_at l seen same go rest f =
      need_number n _ rest (values x) _ (λ m known. need_bounds n _ rest (values b) _ (λ w held.
      let h1 = at_call place values v0 v slots same h in
      let l2 = l.2 in
      let sort = number_sort S.units private steps p first last assigned place x m values v h1 known in
      let is_m = number_in S.units private steps p first last assigned place x m values v h1 fine.0 known in
      let v1 = with_scratch v l.0 (arg_reg i) (number_home v (p.home x)) in
      let h2 = at_call place values v0 v1 slots same h in
      let pair_sorted = pair_sort S.units private steps p first last assigned place b w values v1 h2 held in
      let is_w = pair_in S.units private steps p first last assigned place b w values v1 h2 fine.1 held in
      let v2 = with_scratch_bounds v1 l2.0 j (pair_home v1 (p.home b)) in
      thru _ v1 _ (get_goes S ok v y k l.0 (arg_reg i) (p.home x) (record { seen = seen; stands = l.1 }) (assigned.number_fits x sort) (arg_free i))
      (λ y1 k1 seen1. thru _ v2 _ (get_bounds_goes S ok v1 y1 k1 l2.0 j (p.home b) (record { seen = seen1; stands = l2.1 }) (assigned.pair_fits b pair_sorted))
      (λ y2 k2 seen2. load_all n place values v0 h slots args fine.2 (suc i) (suc j) (omega arith) v2 y2 k2 more stop_at l2.2 seen2 same (λ vs. go (record { number = m; bounds = w } ∷ vs)) rest
      (λ xs u z t seen3 l3 stand leaves. f (record { number = m; bounds = w } ∷ xs) u z t seen3 l3
      (leaves.regs i (omega arith) ∙ same_reg v.processor.regs (arg_reg i) (number_home v (p.home x)) ∙ is_m, leaves.bounds j (omega arith) ∙ same_bound v1.processor.bounds j (pair_home v1 (p.home b)) ∙ is_w, stand)
      (record {
        regs = λ g less. leaves.regs g (omega arith) ∙ ap (λ b. cond b (number_home v (p.home x)) (v.processor.regs (arg_reg g))) (arg_apart g i less (omega arith));
        bounds = λ g less. leaves.bounds g (omega arith) ∙ ap (λ t. cond t (pair_home v1 (p.home b)) (v.processor.bounds g)) (let apart : nat_eq g j ≡ false = grind (arith, nat_tests) in apart);
        slots = leaves.slots;
        world = leaves.world;
      }))))))

  -- the results of a call are put
  call_results : (n : ℕ) (pre is : List FatStep) (step : FatStep) (to bounds : Option ℕ) → From n (pre ++ step ∷ []) is → (values : Values) (r : View) (y : Stored) (k at next : ℕ) → steps ≡ pre ++ step ∷ is → Seen S r y → Holds_in (length pre) values r
      → Laid S.code S.label_at S.entry_at p access_of base pre at → LaidStep S.code S.label_at S.entry_at p access_of at step next → Laid S.code S.label_at S.entry_at p access_of next is end → Fine (length pre + 1) is → r.world.turns ≤ n → ToFine (length pre) to false → ToFine (length pre) bounds true
      → StandAll S.code S.label_at S.entry_at r.processor.rip (put_number_at p to (put_pair_at p bounds)) next → (value : Value) → r.processor.regs 0 ≡ value.number → (IsSome bounds → r.processor.bounds 0 ≡ value.bounds)
      → Ends S p access_of (whole_of S r y k) (Result_of n (pass symbols is Next (with_pair_at bounds value.bounds (with_number_at to value.number (st values r)))))
  call_results n pre is step None None rec values r y k at next e seen h front one later fine le f g l value is_number is_bounds =
      cont n pre is step rec at next values r y k e seen (in_on S.units private steps p first last assigned (length pre) (length pre + 1) values r r (omega arith) (record { regs = λ r t. refl; bounds = λ b t. refl; slots = refl }) h) front one l later fine le
  call_results n pre is step (Some to) None rec values r y k at next e seen h front one later fine le f g l value is_number is_bounds =
      let v1 = with_number_home (p.home to) value.number (at_address r l.0) in
      thru _ v1 _ (subst (λ (m : ℕ). Leads S (whole_of S r y k) (with_number_home (p.home to) m (at_address r l.0))) is_number (put_goes S ok r y k l.0 0 (p.home to) (record { seen = seen; stands = l.1 }) (assigned.number_fits to f.1)))
      (λ y1 k1 seen1. cont n pre is step rec at next (with_held to (Number value.number) values) v1 y1 k1 e seen1
      (after_put (length pre) to value.number values r (at_address r l.0) h (record { regs = λ r t. refl; bounds = λ b t. refl; slots = refl }) f.0 f.1) front one l.2 later fine le)
  call_results n pre is step None (Some bounds) rec values r y k at next e seen h front one later fine le f g l value is_number is_bounds =
      let v1 = with_pair_home (p.home bounds) value.bounds (at_address r l.0) in
      thru _ v1 _ (subst (λ (m : BoundsPair). Leads S (whole_of S r y k) (with_pair_home (p.home bounds) m (at_address r l.0))) (is_bounds tt) (put_bounds_goes S ok r y k l.0 0 (p.home bounds) (record { seen = seen; stands = l.1 }) (assigned.pair_fits bounds g.1)))
      (λ y1 k1 seen1. cont n pre is step rec at next (with_held bounds (Pair value.bounds) values) v1 y1 k1 e seen1
      (after_put_pair (length pre) bounds value.bounds values r (at_address r l.0) h (record { regs = λ r t. refl; bounds = λ b t. refl; slots = refl }) g.0 g.1 (subst (λ (z : BoundsPair). z.ub < 2 ^ 64) (is_bounds tt) (seen.words.bounds_fit 0).1)) front one l.2 later fine le)
  call_results n pre is step (Some to) (Some bounds) rec values r y k at next e seen h front one later fine le f g l value is_number is_bounds =
      let l2 = l.2 in
      let v1 = with_number_home (p.home to) value.number (at_address r l.0) in
      let v2 = with_pair_home (p.home bounds) value.bounds (at_address v1 l2.0) in
      let h1 = in_on S.units private steps p first last assigned (length pre) (length pre) values r (at_address r l.0) (omega arith) (record { regs = λ r t. refl; bounds = λ b t. refl; slots = refl }) h in
      let h2 = put_in S.units private steps p first last assigned (length pre) to value.number values (at_address r l.0) f.0 f.1 h1 in
      thru _ v1 _ (subst (λ (m : ℕ). Leads S (whole_of S r y k) (with_number_home (p.home to) m (at_address r l.0))) is_number (put_goes S ok r y k l.0 0 (p.home to) (record { seen = seen; stands = l.1 }) (assigned.number_fits to f.1)))
      (λ y1 k1 seen1. thru _ v2 _ (subst (λ (m : BoundsPair). Leads S (whole_of S v1 y1 k1) (with_pair_home (p.home bounds) m (at_address v1 l2.0))) (is_bounds tt) (put_bounds_goes S ok v1 y1 k1 l2.0 0 (p.home bounds) (record { seen = seen1; stands = l2.1 }) (assigned.pair_fits bounds g.1)))
      (λ y2 k2 seen2. cont n pre is step rec at next (with_held bounds (Pair value.bounds) (with_held to (Number value.number) values)) v2 y2 k2 e seen2
      (after_put_pair (length pre) bounds value.bounds (with_held to (Number value.number) values) v1 (at_address v1 l2.0) h2 (record { regs = λ r t. refl; bounds = λ b t. refl; slots = refl }) g.0 g.1 (subst (λ (z : BoundsPair). z.ub < 2 ^ 64) (is_bounds tt) (seen.words.bounds_fit 0).1)) front one l2.2 later fine le))

  call_goes : (n : ℕ) (pre is : List FatStep) (symbol : ℕ) (args : List (ℕ × Option ℕ)) (to bounds : Option ℕ) → StepGoes n pre (s.Call symbol args to bounds) is
  call_goes n pre is symbol args to bounds rec values v y k e seen h front laid fine le =
      let f = fine.0 in
      load_all n (length pre) values v h f.5 args f.0 0 0 (let few = f.1 in omega arith) v y k (CallTo symbol ∷ put_number_at p to (put_pair_at p bounds)) laid.0 laid.1 seen refl _ (pass symbols is)
      (λ xs u z m seen2 l stand leaves. called xs u z m seen2 l leaves (symbols.call symbol xs v.world)
      (subst (λ (w : World). CallEnds S p access_of u l.0 (returns symbol) (whole_of S u z m) (symbols.call symbol xs w)) leaves.world (calls symbol args xs u z m l.0 fine.0.6 (record { seen = seen2; stands = l.1 }) stand)))
    where
      called : (xs : List Value) (u : View) (z : Stored) (m : ℕ) → Seen S u z → (l : StandAll S.code S.label_at S.entry_at u.processor.rip (CallTo symbol ∷ put_number_at p to (put_pair_at p bounds)) laid.0) → LeavesBefore 0 0 v u → (o : Outcome) → CallEnds S p access_of u l.0 (returns symbol) (whole_of S u z m) o
          → Ends S p access_of (whole_of S u z m) (Result_of n (and_then (came_back to bounds o (st values v)) (pass symbols is)))
      called xs u z m seen2 l leaves Stuck ends = tt
      called xs u z m seen2 l leaves (Stops why w) ends = ends
      called xs u z m seen2 l leaves (Comes value w) c =
          let r = c.view in
          let turns : v.world.turns ≡ u.world.turns = ap (λ (w : World). w.turns) (sym leaves.world) in
          let left : r.world.turns ≤ n = subst (λ (w : World). w.turns ≤ n) (sym c.world) (let x = c.left in omega arith) in
          thru (whole_of S u z m) r _ c.leads
          (λ y1 k1 seen3. subst (λ (w : World). Ends S p access_of (whole_of S r y1 k1) (Result_of n (pass symbols is Next (with_pair_at bounds value.bounds (with_number_at to value.number (record { values = values; world = w })))))) c.world
          (call_results n pre is (s.Call symbol args to bounds) to bounds rec values r y1 k1 v.processor.rip laid.0 e seen3 (at_call (length pre) values v r fine.0.5 (c.slots ∙ leaves.slots) h) front laid.1 laid.2 fine.1 left fine.0.2 fine.0.3
          (subst (λ (a : ℕ). StandAll S.code S.label_at S.entry_at a (put_number_at p to (put_pair_at p bounds)) laid.0) (sym c.at) l.2) value c.number (λ some. c.bounds (fine.0.4 some))))

  -- ---- numbers

  extend_step : (n : ℕ) (pre is : List FatStep) (to from : ℕ) (kind : IntKind) → StepGoes n pre (s.Extend to from kind) is
  extend_step n pre is to from kind rec values v y k e seen h front laid fine le =
      need_number n _ (pass symbols is) (values from) _ (λ m known.
      let f = fine.0 in
      let l = laid.1 in
      let l2 = l.2 in
      let l3 = l2.2 in
      let sort = number_sort S.units private steps p first last assigned (length pre) from m values v h known in
      let g = number_home v (p.home from) in
      let is_m : g ≡ m = number_in S.units private steps p first last assigned (length pre) from m values v h f.1 known in
      let v1 = with_scratch v l.0 0 g in
      let c = rax_scratched v l.0 g in
      let v2 = with_scratch v1 l2.0 0 (extended kind g) in
      let d = rax_scratched v1 l2.0 (extended kind g) in
      let value = extended kind m in
      let v3 = with_number_home (p.home to) value (at_address v2 l3.0) in
      thru _ v1 _ (get_goes S ok v y k l.0 0 (p.home from) (record { seen = seen; stands = l.1 }) (assigned.number_fits from sort) rax_free)
      (λ y1 k1 seen1. thru _ v2 _ (extend_goes kind 0 rax_free v1 y1 k1 l2.0 seen1 l2.1)
      (λ y2 k2 seen2. thru _ v3 _ (subst (λ (z : ℕ). Leads S (whole_of S v2 y2 k2) (with_number_home (p.home to) z (at_address v2 l3.0))) (ap (extended kind) is_m) (put_goes S ok v2 y2 k2 l3.0 0 (p.home to) (record { seen = seen2; stands = l3.1 }) (assigned.number_fits to f.2)))
      (λ y3 k3 seen3. cont n pre is (s.Extend to from kind) rec v.processor.rip laid.0 (with_held to (Number value) values) v3 y3 k3 e seen3
      (after_put (length pre) to value values v (at_address v2 l3.0) h (record { regs = λ r t. d.regs r t ∙ c.regs r t; bounds = λ b t. refl; slots = refl }) f.0 f.2) front laid.1 l3.2 laid.2 fine.1 le))))

  -- the spare words may be written: no value is at home there
  spare_stays : (x : ℕ) (g : Held) (b : BoundsPair) (v : View) → SpareFine → IsSort (p.is_bounds x) g → AtHome v (p.home x) g → AtHome (with_pair_home (Slot p.spare) b v) (p.home x) g
  spare_stays x Nothing b v fine sort at = tt
  spare_stays x (Number m) b v fine sort at = number_kept_pair v b (p.home x) (Slot p.spare) (subst (λ (t : Bool). Apart t (p.home x) true (Slot p.spare)) sort (fine.1 x)) ∙ at
  spare_stays x (Pair c) b v fine sort at = pair_kept_pair v b (p.home x) (Slot p.spare) (subst (λ (t : Bool). Apart t (p.home x) true (Slot p.spare)) sort (fine.1 x)) ∙ at

  bound_word : (n : ℕ) (pre is : List FatStep) (to from : ℕ) (upper : Bool) → From n (pre ++ s.Bound to from upper ∷ []) is → (values : Values) (v v2 : View) (y : Stored) (k : ℕ) (b : BoundsPair) (next : ℕ) → steps ≡ pre ++ s.Bound to from upper ∷ is → Seen S v2 y → Holds_in (length pre) values v2
      → Laid S.code S.label_at S.entry_at p access_of base pre v.processor.rip → LaidStep S.code S.label_at S.entry_at p access_of v.processor.rip (s.Bound to from upper) next → Laid S.code S.label_at S.entry_at p access_of next is end → Fine (length pre + 1) is → v.world.turns ≤ n → Fine1 (length pre) (s.Bound to from upper) → v2.world ≡ v.world → pair_home v2 (Slot p.spare) ≡ b
      → StandAll S.code S.label_at S.entry_at v2.processor.rip (LoadSlot 0 (if upper then p.spare + 1 else p.spare) ∷ Plain (if upper then One 0 64 (in_reg 0) else Nop) ∷ put (p.home to) 0 ∷ []) next
      → Ends S p access_of (whole_of S v2 y k) (Result_of n (pass symbols is Next (st (with_held to (Number (if upper then b.ub else b.lb)) values) v)))
  bound_word n pre is to from true rec values v v2 y k b next e seen h front one later fine le f same is_b l =
      let l2 = l.2 in
      let l3 = l2.2 in
      let held = v2.slots (p.spare + 1) in
      let small : held < 2 ^ 64 = slot_small S ok v2.slots v2.world y (p.spare + 1) seen.memory f.3.0 in
      let v3 = with_scratch v2 l.0 0 held in
      let c = rax_scratched v2 l.0 held in
      let v4 = with_scratch v3 l2.0 0 (complement held) in
      let d = rax_scratched v3 l2.0 (complement held) in
      let is_value : complement held ≡ b.ub = ap (λ (x : BoundsPair). x.ub) is_b in
      let v5 = with_number_home (p.home to) b.ub (at_address v4 l3.0) in
      thru _ v3 _ (load_slot S ok v2 y k l.0 0 (p.spare + 1) (record { seen = seen; stands = l.1 }) f.3.0 rax_free)
      (λ y3 k3 seen3. thru _ v4 _ (plain_goes S ok v3 y3 k3 l2.0 _ v4.processor (record { seen = seen3; stands = l2.1 }) (record { call = refl; return = refl; service = refl; accesses_none = refl; is_row = not_row v3.processor l2.0 small; is_next = refl; leaves = with_reg_leaves v3.processor.regs 0 (complement held) rax_free; preserve = refl }))
      (λ y4 k4 seen4. thru _ v5 _ (subst (λ (z : ℕ). Leads S (whole_of S v4 y4 k4) (with_number_home (p.home to) z (at_address v4 l3.0))) is_value (put_goes S ok v4 y4 k4 l3.0 0 (p.home to) (record { seen = seen4; stands = l3.1 }) (assigned.number_fits to f.2)))
      (λ y5 k5 seen5. subst (λ (w : World). Ends S p access_of (whole_of S v5 y5 k5) (Result_of n (pass symbols is Next (record { values = with_held to (Number b.ub) values; world = w })))) same
      (cont n pre is (s.Bound to from true) rec v.processor.rip next (with_held to (Number b.ub) values) v5 y5 k5 e seen5
      (after_put (length pre) to b.ub values v2 (at_address v4 l3.0) h (record { regs = λ r t. d.regs r t ∙ c.regs r t; bounds = λ b t. refl; slots = refl }) f.0 f.2) front one l3.2 later fine (subst (λ (w : World). w.turns ≤ n) (sym same) le)))))
  bound_word n pre is to from false rec values v v2 y k b next e seen h front one later fine le f same is_b l =
      let l2 = l.2 in
      let l3 = l2.2 in
      let held = v2.slots p.spare in
      let v3 = with_scratch v2 l.0 0 held in
      let c = rax_scratched v2 l.0 held in
      let v4 = at_address v3 l2.0 in
      let is_value : held ≡ b.lb = ap (λ (x : BoundsPair). x.lb) is_b in
      let v5 = with_number_home (p.home to) b.lb (at_address v4 l3.0) in
      thru _ v3 _ (load_slot S ok v2 y k l.0 0 p.spare (record { seen = seen; stands = l.1 }) (let few = f.3.0 in omega arith) rax_free)
      (λ y3 k3 seen3. thru _ v4 _ (plain_goes S ok v3 y3 k3 l2.0 _ v4.processor (record { seen = seen3; stands = l2.1 }) (record { call = refl; return = refl; service = refl; accesses_none = refl; is_row = nop_row v3.processor l2.0; is_next = refl; leaves = leaves_all v3.processor.regs; preserve = refl }))
      (λ y4 k4 seen4. thru _ v5 _ (subst (λ (z : ℕ). Leads S (whole_of S v4 y4 k4) (with_number_home (p.home to) z (at_address v4 l3.0))) is_value (put_goes S ok v4 y4 k4 l3.0 0 (p.home to) (record { seen = seen4; stands = l3.1 }) (assigned.number_fits to f.2)))
      (λ y5 k5 seen5. subst (λ (w : World). Ends S p access_of (whole_of S v5 y5 k5) (Result_of n (pass symbols is Next (record { values = with_held to (Number b.lb) values; world = w })))) same
      (cont n pre is (s.Bound to from false) rec v.processor.rip next (with_held to (Number b.lb) values) v5 y5 k5 e seen5
      (after_put (length pre) to b.lb values v2 (at_address v4 l3.0) h (record { regs = c.regs; bounds = λ b t. refl; slots = refl }) f.0 f.2) front one l3.2 later fine (subst (λ (w : World). w.turns ≤ n) (sym same) le)))))

  bound_step : (n : ℕ) (pre is : List FatStep) (to from : ℕ) (upper : Bool) → StepGoes n pre (s.Bound to from upper) is
  bound_step n pre is to from upper rec values v y k e seen h front laid fine le =
      need_bounds n _ (pass symbols is) (values from) _ (λ b held.
      let f = fine.0 in
      let l = laid.1 in
      let l2 = l.2 in
      let sort = pair_sort S.units private steps p first last assigned (length pre) from b values v h held in
      let w = pair_home v (p.home from) in
      let is_b : w ≡ b = pair_in S.units private steps p first last assigned (length pre) from b values v h f.1 held in
      let v1 = with_scratch_bounds v l.0 0 w in
      let c = bnd0_scratched v l.0 w in
      let w1 = at_address v1 l2.0 in
      let v2 = with_pair_home (Slot p.spare) w w1 in
      let h1 = in_on S.units private steps p first last assigned (length pre) (length pre) values v w1 (omega arith) (record { regs = c.regs; bounds = c.bounds; slots = refl }) h in
      let h2 : Holds_in (length pre) values v2 = record { at_home = λ x t. spare_stays x (values x) w w1 f.3 (h.sorted x) (h1.at_home x t); begun = h.begun; sorted = h.sorted } in
      thru _ v1 _ (get_bounds_goes S ok v y k l.0 0 (p.home from) (record { seen = seen; stands = l.1 }) (assigned.pair_fits from sort))
      (λ y1 k1 seen1.
      let there : pair_home v2 (Slot p.spare) ≡ w = pair_put S.units w1 w (Slot p.spare) (seen1.words.bounds_fit 0).1 f.3.0 in
      thru _ v2 _ (put_bounds_goes S ok v1 y1 k1 l2.0 0 (Slot p.spare) (record { seen = seen1; stands = l2.1 }) f.3.0)
      (λ y2 k2 seen2. bound_word n pre is to from upper rec values v v2 y2 k2 b laid.0 e seen2 h2 front laid.1 laid.2 fine.1 le f refl (there ∙ is_b) l2.2)))

  -- ---- services

  word_goes : (n : ℕ) (rest : Going → State → Reached) (place : ℕ) (arg : Option ℕ) (values : Values) (v : View) (y : Stored) (k next : ℕ) (go : ℕ → Reached) → ToNamed place arg → Holds_in place values v → Seen S v y → Stands S.code v.processor.rip (instr_of S.label_at S.entry_at next (word_arg p arg)) next
      → ((m : ℕ) (z : Stored) (j : ℕ) → Seen S (with_scratch v next 7 m) z → Ends S p access_of (whole_of S (with_scratch v next 7 m) z j) (Result_of n (and_then (go m) rest)))
      → Ends S p access_of (whole_of S v y k) (Result_of n (and_then (number_or_0_then values arg go) rest))
  word_goes n rest place None values v y k next go named h seen stands f =
      thru _ (with_scratch v next 7 0) _ (plain_goes S ok v y k next _ (with_word (at_next v.processor next) 7 0) (record { seen = seen; stands = stands }) (record { call = refl; return = refl; service = refl; accesses_none = refl; is_row = zero_rdi v.processor next; is_next = refl; leaves = with_reg_leaves v.processor.regs 7 0 (arg_free 0); preserve = refl })) (λ z j seen1. f 0 z j seen1)
  word_goes n rest place (Some a) values v y k next go named h seen stands f =
      need_number n _ rest (values a) _ (λ m known.
      let sort = number_sort S.units private steps p first last assigned place a m values v h known in
      let is_m = number_in S.units private steps p first last assigned place a m values v h named known in
      let here = subst (λ (z : ℕ). Leads S (whole_of S v y k) (with_scratch v next 7 z)) is_m (get_goes S ok v y k next 7 (p.home a) (record { seen = seen; stands = stands }) (assigned.number_fits a sort) (arg_free 0)) in
      thru _ (with_scratch v next 7 m) _ here (λ z j seen1. f m z j seen1))

  -- the answer of a service
  answer_goes : (n : ℕ) (pre is : List FatStep) (step : FatStep) (to : Option ℕ) → From n (pre ++ step ∷ []) is → (values : Values) (v w : View) (out : Whole Stored) (at next n1 : ℕ) → steps ≡ pre ++ step ∷ is → Holds_in (length pre) values v → w.slots ≡ v.slots → w.world ≡ v.world → GuestFits v.world.guest
      → Laid S.code S.label_at S.entry_at p access_of base pre at → LaidStep S.code S.label_at S.entry_at p access_of at step next → Laid S.code S.label_at S.entry_at p access_of next is end → Fine (length pre + 1) is → v.world.turns ≤ n → ToFine (length pre) to false → ((x : ℕ) → Named (length pre) x → IsSlot (p.home x))
      → StandAll S.code S.label_at S.entry_at n1 (put_number_at p to []) next → (q : Served Stop) (c : Served Refusal) → AfterService S ok out w n1 q → SameServed q c → AnswerFits c
      → Ends S p access_of out (Result_of n (and_then (answered to c (st values v)) (pass symbols is)))
  answer_goes n pre is step to rec values v w out at next n1 e h same_slots same fits front one later fine le f slots l (Exits a) (Exits b) went same_q ok_q =
      inr (stop.Exit a, ended_with out (stop.Exit a) w.world v.world same went, ap (λ (x : ℕ). Some (Exit x)) same_q)
  answer_goes n pre is step to rec values v w out at next n1 e h same_slots same fits front one later fine le f slots l Overflows Overflows went same_q ok_q =
      inr (stop.StackOver, ended_with out stop.StackOver w.world v.world same went, refl)
  answer_goes n pre is step to rec values v w out at next n1 e h same_slots same fits front one later fine le f slots l (Answers a g) (Answers b d) went same_q ok_q =
      let small : a < 2 ^ 64 = subst (λ (x : ℕ). x < 2 ^ 64) (sym same_q.0) ok_q.0 in
      let fits_g : GuestFits g = subst GuestFits (sym same_q.1) ok_q.1 in
      let u = answered_view w n1 a g in
      thru out u _ (went small fits_g) (λ z j seen.
      subst (λ (r : World). Ends S p access_of (whole_of S u z j) (Result_of n (pass symbols is Next (with_number_at to b (record { values = values; world = r }))))) (λ i. record (same i) { guest = same_q.1 i })
      (call_results n pre is step to None rec values u z j at next e seen (at_call (length pre) values v u slots same_slots h) front one later fine (subst (λ (r : World). r.turns ≤ n) (sym same) le) f tt l (record { number = b; bounds = full_bounds }) same_q.0 (λ some. absurd some)))
  answer_goes n pre is step to rec values v w out at next n1 e h same_slots same fits front one later fine le f slots l _ _ went same_q ok_q = absurd same_q

  service_step : (n : ℕ) (pre is : List FatStep) (service : CService) (arg to : Option ℕ) → StepGoes n pre (s.Service service arg to) is
  service_step n pre is service arg to rec values v y k e seen h front laid fine le =
      let f = fine.0 in
      let l = laid.1 in
      let l2 = l.2 in
      let l3 = l2.2 in
      word_goes n (pass symbols is) (length pre) arg values v y k l.0 _ f.0 h seen l.1 (λ m z j seen1.
      let v1 = with_scratch v l.0 7 m in
      let v2 = with_scratch v1 l2.0 0 (service_number service) in
      thru _ v2 _ (plain_goes S ok v1 z j l2.0 _ v2.processor (record { seen = seen1; stands = l2.1 }) (record { call = refl; return = refl; service = refl; accesses_none = refl; is_row = number_row v1.processor l2.0 service; is_next = refl; leaves = with_reg_leaves v1.processor.regs 0 (service_number service) rax_free; preserve = refl }))
      (λ z2 j2 seen2.
      let served_one = serve S ok v2 z2 j2 l3.0 (c_service service) (record { seen = seen2; stands = l3.1 }) (service_is service) (of_c service) in
      answer_goes n pre is (s.Service service arg to) to rec values v v2 (whole_of S v2 z2 j2) v.processor.rip laid.0 l3.0 e h refl refl seen.memory.guest_fits front laid.1 laid.2 fine.1 le f.1 f.2 l3.2 served_one.0 _ served_one.1 served_one.2
      (served_fits v.world.guest seen.memory.guest_fits (c_service service) v.world.bytes (λ from n. refusal false n from) m 0 0 (omega arith))))

  -- ---- bounds that are made

  make_step : (n : ℕ) (pre is : List FatStep) (to q m : ℕ) → StepGoes n pre (s.Make to q m) is
  make_step n pre is to q m rec values v y k e seen h front laid fine le =
      need_number n _ (pass symbols is) (values q) _ (λ x known. need_number n _ (pass symbols is) (values m) _ (λ z known_m.
      let f = fine.0 in
      let l = laid.1 in
      let l2 = l.2 in
      let l3 = l2.2 in
      let l4 = l3.2 in
      let sort = number_sort S.units private steps p first last assigned (length pre) q x values v h known in
      let sort_m = number_sort S.units private steps p first last assigned (length pre) m z values v h known_m in
      let g = number_home v (p.home q) in
      let is_x : g ≡ x = number_in S.units private steps p first last assigned (length pre) q x values v h f.1 known in
      let v1 = with_scratch v l.0 0 g in
      let c = rax_scratched v l.0 g in
      let w = number_home v1 (p.home m) in
      let is_z : w ≡ z = number_scratched S.units v v1 (p.home m) c (assigned.number_fits m sort_m) ∙ number_in S.units private steps p first last assigned (length pre) m z values v h f.2 known_m in
      let v2 = with_scratch v1 l2.0 1 w in
      let d = rcx_scratched v1 l2.0 w in
      let v3 = with_scratch_bounds v2 l3.0 0 (bounds_at g w) in
      let b = bnd0_scratched v2 l3.0 (bounds_at g w) in
      let value = bounds_at x z in
      let v4 = with_pair_home (p.home to) value (at_address v3 l4.0) in
      let is_value : bounds_at g w ≡ value = λ i. bounds_at (is_x i) (is_z i) in
      thru _ v1 _ (get_goes S ok v y k l.0 0 (p.home q) (record { seen = seen; stands = l.1 }) (assigned.number_fits q sort) rax_free)
      (λ y1 k1 seen1. thru _ v2 _ (get_goes S ok v1 y1 k1 l2.0 1 (p.home m) (record { seen = seen1; stands = l2.1 }) (assigned.number_fits m sort_m) rcx_free)
      (λ y2 k2 seen2. thru _ v3 _ (plain_goes S ok v2 y2 k2 l3.0 _ v3.processor (record { seen = seen2; stands = l3.1 }) (record { call = refl; return = refl; service = refl; accesses_none = refl; is_row = make_row v2.processor l3.0; is_next = refl; leaves = leaves_all v2.processor.regs; preserve = refl }))
      (λ y3 k3 seen3. thru _ v4 _ (subst (λ (z : BoundsPair). Leads S (whole_of S v3 y3 k3) (with_pair_home (p.home to) z (at_address v3 l4.0))) is_value (put_bounds_goes S ok v3 y3 k3 l4.0 0 (p.home to) (record { seen = seen3; stands = l4.1 }) (assigned.pair_fits to f.3)))
      (λ y4 k4 seen4. cont n pre is (s.Make to q m) rec v.processor.rip laid.0 (with_held to (Pair value) values) v4 y4 k4 e seen4
      (after_put_pair (length pre) to value values v (at_address v3 l4.0) h (record { regs = λ r t. d.regs r t ∙ c.regs r t; bounds = b.bounds; slots = refl }) f.0 f.3 (subst (λ (z : BoundsPair). z.ub < 2 ^ 64) is_value (seen3.words.bounds_fit 0).1)) front laid.1 l4.2 laid.2 fine.1 le))))))

  home_scratched_by : (x : ℕ) (g : Held) (v u : View) → IsSort (p.is_bounds x) g → Scratched v u → AtHome v (p.home x) g → AtHome u (p.home x) g
  home_scratched_by x Nothing v u sort scr at = tt
  home_scratched_by x (Number n) v u sort scr at = number_scratched S.units v u (p.home x) scr (assigned.number_fits x sort) ∙ at
  home_scratched_by x (Pair b) v u sort scr at = pair_scratched S.units v u (p.home x) scr (assigned.pair_fits x sort) ∙ at

  -- words of the frame that are no home may be written
  pair_slot_stays : (k : ℕ) → ((x : ℕ) → Apart (p.is_bounds x) (p.home x) true (Slot k)) → (x : ℕ) (g : Held) (b : BoundsPair) (v : View) → IsSort (p.is_bounds x) g → AtHome v (p.home x) g → AtHome (with_pair_home (Slot k) b v) (p.home x) g
  pair_slot_stays k apart x Nothing b v sort at = tt
  pair_slot_stays k apart x (Number m) b v sort at = number_kept_pair v b (p.home x) (Slot k) (subst (λ (t : Bool). Apart t (p.home x) true (Slot k)) sort (apart x)) ∙ at
  pair_slot_stays k apart x (Pair c) b v sort at = pair_kept_pair v b (p.home x) (Slot k) (subst (λ (t : Bool). Apart t (p.home x) true (Slot k)) sort (apart x)) ∙ at

  word_stays : (s k : ℕ) → s ≤ k → k ≤ s + 1 → ((x : ℕ) → Apart (p.is_bounds x) (p.home x) true (Slot s)) → (x : ℕ) (g : Held) (m : ℕ) (v : View) → IsSort (p.is_bounds x) g → AtHome v (p.home x) g → AtHome (with_number_home (Slot k) m v) (p.home x) g
  word_stays s k low high apart x Nothing m v sort at = tt
  word_stays s k low high apart x (Number n) m v sort at = number_kept v m (p.home x) (Slot k) (apart_word false (p.home x) s k low high (subst (λ (t : Bool). Apart t (p.home x) true (Slot s)) sort (apart x))) ∙ at
  word_stays s k low high apart x (Pair c) m v sort at = pair_kept_number v m (p.home x) (Slot k) (apart_word true (p.home x) s k low high (subst (λ (t : Bool). Apart t (p.home x) true (Slot s)) sort (apart x))) ∙ at

  meet_step : (n : ℕ) (pre is : List FatStep) (to a b : ℕ) → StepGoes n pre (s.Meet to a b) is
  meet_step n pre is to a b rec values v y k e seen h front laid fine le =
      need_bounds n _ (pass symbols is) (values a) _ (λ ba held_a. need_bounds n _ (pass symbols is) (values b) _ (λ bb held_b.
      let f = fine.0 in
      let t = p.spare in
      let l = laid.1 in
      let l2 = l.2 in
      let l3 = l2.2 in
      let l4 = l3.2 in
      let sort_a = pair_sort S.units private steps p first last assigned (length pre) a ba values v h held_a in
      let sort_b = pair_sort S.units private steps p first last assigned (length pre) b bb values v h held_b in
      let wa = pair_home v (p.home a) in
      let is_a : wa ≡ ba = pair_in S.units private steps p first last assigned (length pre) a ba values v h f.1 held_a in
      let v1 = with_scratch_bounds v l.0 0 wa in
      let c1 = bnd0_scratched v l.0 wa in
      let w1 = at_address v1 l2.0 in
      let h1 = in_on S.units private steps p first last assigned (length pre) (length pre) values v w1 (omega arith) (record { regs = c1.regs; bounds = c1.bounds; slots = refl }) h in
      let v2 = with_pair_home (Slot t) wa w1 in
      let h2 : Holds_in (length pre) values v2 = record { at_home = λ x d. pair_slot_stays t f.5 x (values x) wa w1 (h.sorted x) (h1.at_home x d); begun = h.begun; sorted = h.sorted } in
      let wb = pair_home v2 (p.home b) in
      let is_b : wb ≡ bb = pair_in S.units private steps p first last assigned (length pre) b bb values v2 h2 f.2 held_b in
      let v3 = with_scratch_bounds v2 l3.0 0 wb in
      let c3 = bnd0_scratched v2 l3.0 wb in
      let w3 = at_address v3 l4.0 in
      let h3 = in_on S.units private steps p first last assigned (length pre) (length pre) values v2 w3 (omega arith) (record { regs = c3.regs; bounds = c3.bounds; slots = refl }) h2 in
      let v4 = with_pair_home (Slot (t + 2)) wb w3 in
      let h4 : Holds_in (length pre) values v4 = record { at_home = λ x d. pair_slot_stays (t + 2) f.6 x (values x) wb w3 (h.sorted x) (h3.at_home x d); begun = h.begun; sorted = h.sorted } in
      let room = f.4 in
      let rest : List Piece = LoadBounds 0 t ∷ put_bounds (p.home to) 0 ∷ [] in
      thru _ v1 _ (get_bounds_goes S ok v y k l.0 0 (p.home a) (record { seen = seen; stands = l.1 }) (assigned.pair_fits a sort_a))
      (λ y1 k1 seen1. thru _ v2 _ (put_bounds_goes S ok v1 y1 k1 l2.0 0 (Slot t) (record { seen = seen1; stands = l2.1 }) (omega arith))
      (λ y2 k2 seen2. thru _ v3 _ (get_bounds_goes S ok v2 y2 k2 l3.0 0 (p.home b) (record { seen = seen2; stands = l3.1 }) (assigned.pair_fits b sort_b))
      (λ y3 k3 seen3. thru _ v4 _ (put_bounds_goes S ok v3 y3 k3 l4.0 0 (Slot (t + 2)) (record { seen = seen3; stands = l4.1 }) (omega arith))
      (λ y4 k4 seen4.
      let Claim : Whole Stored → Type 0 = λ o. Ends S p access_of o (Result_of n (pass symbols is Next (st (with_held to (Pair (met ba bb)) values) v))) in
      greater_goes S ok Claim v4 y4 k4 t (t + 2) (greater_of (t + 1) (t + 3) ++ rest) laid.0 l4.2 (omega arith) (omega arith) seen4 (λ u5 y5 k5 seen5 l5 keep5 slots5.
      greater_goes S ok Claim u5 y5 k5 (t + 1) (t + 3) rest laid.0 l5 (omega arith) (omega arith) seen5 (λ u6 y6 k6 seen6 l6 keep6 slots6.
      let ends = met_words v.slots t wa wb u5.slots u6.slots (seen1.words.bounds_fit 0).1 (seen3.words.bounds_fit 0).1 slots5 slots6 in
      let value : pair_at u6.slots t ≡ met ba bb = ends ∙ (λ i. met (is_a i) (is_b i)) in
      let h5 : Holds_in (length pre) values u6 = record {
        at_home = λ x d. left_words x (values x) v4 u5 u6 t _ _ (h.sorted x) f.5 slots5 slots6 keep5 keep6 (h4.at_home x d);
        begun = h.begun;
        sorted = h.sorted;
      } in
      let v7 = with_scratch_bounds u6 l6.0 0 (pair_at u6.slots t) in
      let c7 = bnd0_scratched u6 l6.0 (pair_at u6.slots t) in
      let l7 = l6.2 in
      let v8 = with_pair_home (p.home to) (met ba bb) (at_address v7 l7.0) in
      let same : u6.world ≡ v.world = keep6.world ∙ keep5.world in
      thru _ v7 _ (load_words S ok u6 y6 k6 l6.0 0 t (record { seen = seen6; stands = l6.1 }) (omega arith))
      (λ y7 k7 seen7. thru _ v8 _ (subst (λ (z : BoundsPair). Leads S (whole_of S v7 y7 k7) (with_pair_home (p.home to) z (at_address v7 l7.0))) value (put_bounds_goes S ok v7 y7 k7 l7.0 0 (p.home to) (record { seen = seen7; stands = l7.1 }) (assigned.pair_fits to f.3)))
      (λ y8 k8 seen8. subst (λ (w : World). Ends S p access_of (whole_of S v8 y8 k8) (Result_of n (pass symbols is Next (record { values = with_held to (Pair (met ba bb)) values; world = w })))) same
      (cont n pre is (s.Meet to a b) rec v.processor.rip laid.0 (with_held to (Pair (met ba bb)) values) v8 y8 k8 e seen8
      (after_put_pair (length pre) to (met ba bb) values u6 (at_address v7 l7.0) h5 (record { regs = c7.regs; bounds = c7.bounds; slots = refl }) f.0 f.3 (subst (λ (z : BoundsPair). z.ub < 2 ^ 64) value (seen7.words.bounds_fit 0).1)) front laid.1 l7.2 laid.2 fine.1 (subst (λ (w : World). w.turns ≤ n) (sym same) le))))))))))))
    where
      left_words : (x : ℕ) (g : Held) (v4 u5 u6 : View) (t m1 m2 : ℕ) → IsSort (p.is_bounds x) g → ((x : ℕ) → Apart (p.is_bounds x) (p.home x) true (Slot t)) → u5.slots ≡ with_slot t m1 v4.slots → u6.slots ≡ with_slot (t + 1) m2 u5.slots → LeavesHomes S ok v4 u5 → LeavesHomes S ok u5 u6 → AtHome v4 (p.home x) g → AtHome u6 (p.home x) g
      left_words x g v4 u5 u6 t m1 m2 sort apart s5 s6 k5 k6 at =
          let a5 = home_scratched_by x g (with_number_home (Slot t) m1 v4) u5 sort (record { regs = k5.regs; bounds = λ b d. ap (λ (f : ℕ → BoundsPair). f b) k5.bounds; slots = s5 }) (word_stays t t (omega arith) (omega arith) apart x g m1 v4 sort at) in
          home_scratched_by x g (with_number_home (Slot (t + 1)) m2 u5) u6 sort (record { regs = k6.regs; bounds = λ b d. ap (λ (f : ℕ → BoundsPair). f b) k6.bounds; slots = s6 }) (word_stays t (t + 1) (omega arith) (omega arith) apart x g m2 u5 sort a5)

  sized_goes : (w : View) (z : Stored) (j next size x : ℕ) → size < 2 ^ 31 → Seen S w z → w.processor.regs 0 ≡ x → Stands S.code w.processor.rip (Bndmk 0 (based 0 (pos size -ℤ pos 1))) next → Leads S (whole_of S w z j) (with_scratch_bounds w next 0 (bounds_at x size))
  sized_goes w z j next size x few seen is_x stands = subst (λ (a : ℕ). Leads S (whole_of S w z j) (with_scratch_bounds w next 0 (bounds_at a size))) is_x
      (plain_goes S ok w z j next _ (with_bound (at_next w.processor next) 0 (bounds_at (w.processor.regs 0) size)) (record { seen = seen; stands = stands }) (record { call = refl; return = refl; service = refl; accesses_none = refl; is_row = sized_row w.processor next size few; is_next = refl; leaves = leaves_all w.processor.regs; preserve = refl }))

  -- an address, its offset and its bounds, from what is in rax
  place_from : (n : ℕ) (pre is : List FatStep) (to bounds : ℕ) (symbol : Option ℕ) (offset size : ℕ) → From n (pre ++ s.Place to bounds symbol offset size ∷ []) is → (values : Values) (v : View) (y : Stored) (k next n1 a : ℕ) (instr : Instr) (given : ℕ → BoundsPair) → steps ≡ pre ++ s.Place to bounds symbol offset size ∷ is
      → Holds_in (length pre) values v → Laid S.code S.label_at S.entry_at p access_of base pre v.processor.rip → LaidStep S.code S.label_at S.entry_at p access_of v.processor.rip (s.Place to bounds symbol offset size) next → Laid S.code S.label_at S.entry_at p access_of next is end → Fine1 (length pre) (s.Place to bounds symbol offset size) → Fine (length pre + 1) is → v.world.turns ≤ n
      → Seen S (with_scratch v n1 0 a) y → StandAll S.code S.label_at S.entry_at n1 (Plain (Lea (reg 0) (based 0 (pos offset))) ∷ put (p.home to) 0 ∷ Plain instr ∷ put_bounds (p.home bounds) 0 ∷ []) next
      → ((w : View) (z : Stored) (j n3 : ℕ) → Seen S w z → w.processor.regs 0 ≡ moved a offset → Stands S.code w.processor.rip instr n3 → Leads S (whole_of S w z j) (with_scratch_bounds w n3 0 (given (moved a offset))))
      → Ends S p access_of (whole_of S (with_scratch v n1 0 a) y k) (Result_of n (pass symbols is Next (with_pointer to bounds (record { number = moved a offset; bounds = given (moved a offset) }) (st values v))))
  place_from n pre is to bounds symbol offset size rec values v y k next n1 a instr given e h front one later f fine le seen l makes =
      let l2 = l.2 in
      let l3 = l2.2 in
      let l4 = l3.2 in
      let x = moved a offset in
      let v1 = with_scratch v n1 0 a in
      let c = rax_scratched v n1 a in
      let v2 = with_scratch v1 l.0 0 x in
      let d = rax_scratched v1 l.0 x in
      let w = at_address v2 l2.0 in
      let v3 = with_number_home (p.home to) x w in
      let v4 = with_scratch_bounds v3 l3.0 0 (given x) in
      let v5 = with_pair_home (p.home bounds) (given x) (at_address v4 l4.0) in
      let h1 = in_on S.units private steps p first last assigned (length pre) (length pre) values v w (omega arith) (record { regs = λ r t. d.regs r t ∙ c.regs r t; bounds = c.bounds; slots = refl }) h in
      let h2 = put_in S.units private steps p first last assigned (length pre) to x values w f.0 f.2 h1 in
      let b = bnd0_scratched v3 l3.0 (given x) in
      thru _ v2 _ (plain_goes S ok v1 y k l.0 _ v2.processor (record { seen = seen; stands = l.1 }) (record { call = refl; return = refl; service = refl; accesses_none = refl; is_row = lea_row v1.processor l.0 offset; is_next = refl; leaves = with_reg_leaves v1.processor.regs 0 x rax_free; preserve = refl }))
      (λ y2 k2 seen2. thru _ v3 _ (put_goes S ok v2 y2 k2 l2.0 0 (p.home to) (record { seen = seen2; stands = l2.1 }) (assigned.number_fits to f.2))
      (λ y3 k3 seen3. thru _ v4 _ (makes v3 y3 k3 l3.0 seen3 (rax_put (p.home to) x v1.processor.regs) l3.1)
      (λ y4 k4 seen4. thru _ v5 _ (put_bounds_goes S ok v4 y4 k4 l4.0 0 (p.home bounds) (record { seen = seen4; stands = l4.1 }) (assigned.pair_fits bounds f.3))
      (λ y5 k5 seen5. cont n pre is (s.Place to bounds symbol offset size) rec v.processor.rip next (with_held bounds (Pair (given x)) (with_held to (Number x) values)) v5 y5 k5 e seen5
      (after_put_pair (length pre) bounds (given x) (with_held to (Number x) values) v3 (at_address v4 l4.0) h2 (record { regs = λ r t. refl; bounds = b.bounds; slots = refl }) f.1 f.3 (seen4.words.bounds_fit 0).1) front one l4.2 later fine le))))

  place_step : (n : ℕ) (pre is : List FatStep) (to bounds : ℕ) (symbol : Option ℕ) (offset size : ℕ) → StepGoes n pre (s.Place to bounds symbol offset size) is
  place_step n pre is to bounds None offset size rec values v y k e seen h front laid fine le =
      let l = laid.1 in
      thru _ (with_scratch v l.0 0 v.world.data_sp) _ (load_cell S ok v y k l.0 0 (record { seen = seen; stands = l.1 }) rax_free)
      (λ y1 k1 seen1. place_from n pre is to bounds None offset size rec values v y1 k1 laid.0 l.0 v.world.data_sp _ (λ x. bounds_at x size) e h front laid.1 laid.2 fine.0 fine.1 le seen1 l.2
      (λ w z j n3 seen2 is_x stands. sized_goes w z j n3 size (moved v.world.data_sp offset) fine.0.4 seen2 is_x stands))
  place_step n pre is to bounds (Some symbol) offset size rec values v y k e seen h front laid fine le =
      by_located (p.located symbol) refl
    where
      by_located : (g : Located) → p.located symbol ≡ g → Ends S p access_of (whole_of S v y k) (Result_of n (pass symbols is Next (with_pointer to bounds (pointer_into (symbols.located symbol) offset size) (st values v))))
      by_located (ObjectAt a) found =
          let same : symbols.located symbol ≡ ObjectAt a = fine.0.6.0 ∙ found in
          let low : a < 2 ^ 63 = subst IsLow found fine.0.6.1 in
          let l = subst (λ (g : Located). StandAll S.code S.label_at S.entry_at v.processor.rip (located_piece g ∷ Plain (Lea (reg 0) (based 0 (pos offset))) ∷ put (p.home to) 0 ∷ located_bounds g size ∷ put_bounds (p.home bounds) 0 ∷ []) laid.0) found laid.1 in
          retold _ _ _ (ap (λ (g : Located). Result_of n (pass symbols is Next (with_pointer to bounds (pointer_into g offset size) (st values v)))) same)
          (thru _ (with_scratch v l.0 0 a) _ (plain_goes S ok v y k l.0 _ (with_word (at_next v.processor l.0) 0 a) (record { seen = seen; stands = l.1 }) (record { call = refl; return = refl; service = refl; accesses_none = refl; is_row = address_row v.processor l.0 a low; is_next = refl; leaves = with_reg_leaves v.processor.regs 0 a rax_free; preserve = refl }))
          (λ y1 k1 seen1. place_from n pre is to bounds (Some symbol) offset size rec values v y1 k1 laid.0 l.0 a _ (λ x. bounds_at x size) e h front laid.1 laid.2 fine.0 fine.1 le seen1 l.2
          (λ w z j n3 seen2 is_x stands. sized_goes w z j n3 size (moved a offset) fine.0.4 seen2 is_x stands)))
      by_located (FunctionAt a) found =
          let same : symbols.located symbol ≡ FunctionAt a = fine.0.6.0 ∙ found in
          let low : a < 2 ^ 63 = subst IsLow found fine.0.6.1 in
          let l = subst (λ (g : Located). StandAll S.code S.label_at S.entry_at v.processor.rip (located_piece g ∷ Plain (Lea (reg 0) (based 0 (pos offset))) ∷ put (p.home to) 0 ∷ located_bounds g size ∷ put_bounds (p.home bounds) 0 ∷ []) laid.0) found laid.1 in
          retold _ _ _ (ap (λ (g : Located). Result_of n (pass symbols is Next (with_pointer to bounds (pointer_into g offset size) (st values v)))) same)
          (thru _ (with_scratch v l.0 0 a) _ (plain_goes S ok v y k l.0 _ (with_word (at_next v.processor l.0) 0 a) (record { seen = seen; stands = l.1 }) (record { call = refl; return = refl; service = refl; accesses_none = refl; is_row = address_row v.processor l.0 a low; is_next = refl; leaves = with_reg_leaves v.processor.regs 0 a rax_free; preserve = refl }))
          (λ y1 k1 seen1. place_from n pre is to bounds (Some symbol) offset size rec values v y1 k1 laid.0 l.0 a _ (λ x. full_bounds) e h front laid.1 laid.2 fine.0 fine.1 le seen1 l.2
          (λ w z j n3 seen2 is_x stands. plain_goes S ok w z j n3 _ (with_bound (at_next w.processor n3) 0 full_bounds) (record { seen = seen2; stands = stands }) (record { call = refl; return = refl; service = refl; accesses_none = refl; is_row = full_row w.processor n3; is_next = refl; leaves = leaves_all w.processor.regs; preserve = refl }))))

  -- ---- all steps

  core : (n : ℕ) → ((n' : ℕ) → suc n' ≡ n → All n') → Fine 0 steps → (len : ℕ) (is : List FatStep) (pre : List FatStep) → length is ≤ len → From n pre is
  core n earlier all len [] pre l = end_goes n pre
  core n earlier all zero (step ∷ is) pre l = absurd (omega arith)
  core n earlier all (suc len) (s.Const to x ∷ is) pre l = const_goes n pre is to x (core n earlier all len is (pre ++ s.Const to x ∷ []) (omega arith))
  core n earlier all (suc len) (s.Copy to from ∷ is) pre l = copy_goes n pre is to from (core n earlier all len is (pre ++ s.Copy to from ∷ []) (omega arith))
  core n earlier all (suc len) (s.Arith to op kind a b ∷ is) pre l = arith_goes n pre is to op a b kind (core n earlier all len is (pre ++ s.Arith to op kind a b ∷ []) (omega arith))
  core n earlier all (suc len) (s.Compare to op kind a b ∷ is) pre l = compare_step n pre is to op a b kind (core n earlier all len is (pre ++ s.Compare to op kind a b ∷ []) (omega arith))
  core n earlier all (suc len) (s.Make to q m ∷ is) pre l = make_step n pre is to q m (core n earlier all len is (pre ++ s.Make to q m ∷ []) (omega arith))
  core n earlier all (suc len) (s.Place to bounds symbol offset size ∷ is) pre l = place_step n pre is to bounds symbol offset size (core n earlier all len is (pre ++ s.Place to bounds symbol offset size ∷ []) (omega arith))
  core n earlier all (suc len) (s.Meet to a b ∷ is) pre l = meet_step n pre is to a b (core n earlier all len is (pre ++ s.Meet to a b ∷ []) (omega arith))
  core n earlier all (suc len) (s.Extend to from kind ∷ is) pre l = extend_step n pre is to from kind (core n earlier all len is (pre ++ s.Extend to from kind ∷ []) (omega arith))
  core n earlier all (suc len) (s.Bound to from upper ∷ is) pre l = bound_step n pre is to from upper (core n earlier all len is (pre ++ s.Bound to from upper ∷ []) (omega arith))
  core n earlier all (suc len) (s.Judge value size bounds write place ∷ is) pre l = judge_goes n pre is value size bounds write place (core n earlier all len is (pre ++ s.Judge value size bounds write place ∷ []) (omega arith))
  core n earlier all (suc len) (s.Load q to kind ∷ is) pre l = load_goes n pre is q to kind (core n earlier all len is (pre ++ s.Load q to kind ∷ []) (omega arith))
  core n earlier all (suc len) (s.Store q from kind ∷ is) pre l = store_goes n pre is q from kind (core n earlier all len is (pre ++ s.Store q from kind ∷ []) (omega arith))
  core n earlier all (suc len) (s.LoadPtr q to bounds ∷ is) pre l = load_ptr_goes n pre is q to bounds (core n earlier all len is (pre ++ s.LoadPtr q to bounds ∷ []) (omega arith))
  core n earlier all (suc len) (s.StorePtr q from bounds ∷ is) pre l = store_ptr_goes n pre is q from bounds (core n earlier all len is (pre ++ s.StorePtr q from bounds ∷ []) (omega arith))
  core n earlier all (suc len) (s.Label x ∷ is) pre l = label_goes n pre is x (core n earlier all len is (pre ++ s.Label x ∷ []) (omega arith))
  core n earlier all (suc len) (s.Jump x ∷ is) pre l = jump_step n len pre is x (omega arith) (λ more rest few. core n earlier all len rest more few) earlier all
  core n earlier all (suc len) (s.JumpIf from x ∷ is) pre l = jump_if_step n len pre is from x (omega arith) (λ more rest few. core n earlier all len rest more few) earlier all
  core n earlier all (suc len) (s.Call symbol args to bounds ∷ is) pre l = call_goes n pre is symbol args to bounds (core n earlier all len is (pre ++ s.Call symbol args to bounds ∷ []) (omega arith))
  core n earlier all (suc len) (s.Service service arg to ∷ is) pre l = service_step n pre is service arg to (core n earlier all len is (pre ++ s.Service service arg to ∷ []) (omega arith))
  core n earlier all (suc len) (s.Give (Some from) None ∷ is) pre l = give_number n pre is from
  core n earlier all (suc len) (s.Give (Some from) (Some bounds) ∷ is) pre l = give_pointer n pre is from bounds
  core n earlier all (suc len) (s.Give None None ∷ is) pre l = give_none n pre is
  core n earlier all (suc len) (step ∷ is) pre l = λ values v y k e seen h front laid fine le. absurd fine.0

  main : (n : ℕ) → Fine 0 steps → All n
  main zero all = λ pre is. core zero (λ n' e. absurd (omega arith)) all (length is) is pre (omega arith)
  main (suc n) all = λ pre is. core (suc n) (λ n' e. subst All (let same : n ≡ n' = omega arith in same) (main n all)) all (length is) is pre (omega arith)

  -- a function, from its first step: its private values stand in their homes
  pub function_goes : Fine 0 steps → (values : Values) (v : View) (y : Stored) (k : ℕ) → Seen S v y → Holds_in 0 values v → v.processor.rip ≡ base
      → Ends S p access_of (whole_of S v y k) (steps_run symbols private steps Next (record { values = values; world = v.world }))
  function_goes all values v y k seen h at =
      main v.world.turns all [] steps values v y k refl seen h (sym at) (subst (λ (a : ℕ). Laid S.code S.label_at S.entry_at p access_of a steps end) (sym at) laid) all (omega arith)
