-- What each piece does to the machine is what it does to the view.
use Rattle.code_laws.specs.Runs.{Ready as ReadyAt}
use Rattle.step_code.specs.Homes.{IsFree}
use Rattle.std.proofs.lemmas.Bool.Decides.{nat_tests}
use Rattle.obj_file.specs.StoreLaw.{is_of_bounds}
use Rattle.mx_base.specs.Bounds.{moved}
use Rattle.obj_file.specs.Finals.{all_keep_out}
use Rattle.obj_file.proofs.FinalLaws.{span_stayed}
use Rattle.std.specs.Prelude.{◌&&◌, not, if◌then◌else◌, Result, Ok, ℤ, pos, negsuc, ◌-ℤ◌}
use Rattle.std.specs.Int.{cast_unsigned, w64}
use Rattle.std.proofs.lemmas.Int.{ints}
use Rattle.x86_forms.specs.Arithmetic.{holds}
use Rattle.std.proofs.Common.{◌≡◌, ℕ, suc, ◌+◌, ◌*◌, ◌/◌, ◌^◌, ◌%◌, ◌<◌, ◌≤◌, Bool, true, false, cond, nat_eq, Option, None, Some, List, [], ◌∷◌, refl, arith, ap, ◌∙◌, subst}
use Rattle.std.specs.Option.{option_or}
use Rattle.mx_base.specs.declared.limits.Bounds.{Bounds as BoundsPair}
use Rattle.mx_base.specs.Bounds.{complement}
use Rattle.x86_forms.specs.declared.instr.Instr.{Instr}
use Rattle.x86_forms.specs.declared.instr.Rm.TheVariants.{Mem as InMem}
use Rattle.x86_forms.specs.declared.instr.Instr.TheVariants.{MovTo, MovFrom, BndmovTo, BndmovFrom, JmpRel, Jcc}
use Rattle.x86_forms.specs.declared.spans.Span.{Span}
use Rattle.x86_forms.specs.Accesses.{accesses, reach_of}
use Rattle.x86_forms.specs.Examples.{reg}
use Rattle.x86_forms.specs.Processor.{Processor, address, with_reg, part_written, branch_target}
use Rattle.x86_forms.specs.Requests.{Ends, Fails, Fault}
use Rattle.x86_forms.specs.Table.{row, at_next, from_stored}
use Rattle.x86_forms.specs.Watch.{is_watched, is_c_access, is_c_operand, operand_of, access_strays, first_sealed}
use Rattle.x86_forms.proofs.ShortCode.{spelling-short}
use Rattle.obj_file.specs.Machine.{reach_strays, is_read, fault_stop, is_call, is_return, is_service}
use Rattle.obj_file.specs.Runs.{c_accesses_among}
use Rattle.obj_file.specs.Stored.{Stored}
use Rattle.obj_file.specs.StoreLaw.{AreWords, HoldsWords}
use Rattle.obj_file.proofs.StoredWords.{KeepWords, row_words}
use Rattle.mx_base.specs.Memory.{first_refused}
use Rattle.mx_base.specs.Regions.{is_readable}
use Rattle.mx_base.proofs.MemoryLemmas.{number_at-lt, first_refused-all}
use Rattle.obj_file.specs.Stored.{stored_read}
use Rattle.code_laws.proofs.Frames.{cells_readable}
use Rattle.step_code.specs.Pieces.{cell, data_sp_cell}
use Rattle.code_laws.specs.Views.{View, On, jumped, with_word, with_bound, pair_at, with_slot, with_pair_at}
use Rattle.step_code.specs.Pieces.{relative, of_frame}
use Rattle.code_laws.specs.Seen.{Setting, IsSetting, machine_of, Holds, Seen, state_of}
use Rattle.code_laws.proofs.Events.{inside_code}
use Rattle.code_laws.proofs.Frames.{frame_address, slot_read, slot_small, slot_write, pair_read, pair_write}
use Rattle.code_laws.proofs.Leading.{executed_ends, executed_fails, executed_reads, executed_writes, After, Here, goes_quiet, jump_goes, halts_here}
use Rattle.code_laws.specs.Runs.{whole_of, Leads, Ended}

-- ---- registers

-- the registers that it leaves
pub record LeavesRegs (before after : ℕ → ℕ) : Type 0 where
  pub rbx : after 3 ≡ before 3
  pub rsp : after 4 ≡ before 4
  pub rbp : after 5 ≡ before 5
  pub r12 : after 12 ≡ before 12
  pub r13 : after 13 ≡ before 13
  pub r14 : after 14 ≡ before 14
  pub r15 : after 15 ≡ before 15

pub leaves_all : (regs : ℕ → ℕ) → LeavesRegs regs regs
leaves_all regs = record { rbx = refl; rsp = refl; rbp = refl; r12 = refl; r13 = refl; r14 = refl; r15 = refl }

pub with_reg_leaves : (regs : ℕ → ℕ) (r v : ℕ) → IsFree r → LeavesRegs regs (with_reg regs r v)
with_reg_leaves regs r v f = record {
  rbx = ap (λ b. cond b v (regs 3)) f.rbx;
  rsp = ap (λ b. cond b v (regs 4)) f.rsp;
  rbp = ap (λ b. cond b v (regs 5)) f.rbp;
  r12 = ap (λ b. cond b v (regs 12)) f.r12;
  r13 = ap (λ b. cond b v (regs 13)) f.r13;
  r14 = ap (λ b. cond b v (regs 14)) f.r14;
  r15 = ap (λ b. cond b v (regs 15)) f.r15;
}

pub word_words : (c : Processor) (r v : ℕ) → v < 2 ^ 64 → HoldsWords c → HoldsWords (with_word c r v)
word_words c r v small h = record { regs_fit = λ k. elim (nat_eq k r) as (λ t. cond t v (c.regs k) < 2 ^ 64) [ true ↦ small | false ↦ h.regs_fit k ]; bounds_fit = h.bounds_fit }

pub bound_words : (c : Processor) (b : ℕ) (x : BoundsPair) → AreWords x → HoldsWords c → HoldsWords (with_bound c b x)
bound_words c b x small h = record { regs_fit = h.regs_fit; bounds_fit = λ k. elim (nat_eq k b) as (λ t. AreWords (cond t x (c.bounds k))) [ true ↦ small | false ↦ h.bounds_fit k ] }

pub full_part : (old v : ℕ) → v < 2 ^ 64 → part_written 64 old (v % 2 ^ 64) ≡ v
unfolding part_written
full_part old v small = omega arith

-- ---- accesses of the frame are none of C's

fine_both : (b d : Bool) (o : Option ℕ) → option_or (if not b && false then o else None) (if d then None else None) ≡ None
fine_both true true o = refl
fine_both true false o = refl
fine_both false true o = refl
fine_both false false o = refl

frame_fine : (from : ℕ) (i : Instr) (s : Span) → 0x0100_0000 ≤ from → from < 0x1100_0000 → is_c_operand (operand_of i) ≡ false → reach_strays i from (reach_of (s ∷ [])) ≡ None
unfolding reach_strays access_strays is_watched is_c_access
frame_fine from i s low high none = rw (inside_code from low high, none) (fine_both s.implicit (is_read (Some s)) (first_sealed s))

-- ---- and keep out of the directory and the tables

low_avoids : (x : ℕ) → x < 0x8000_0000 → is_of_bounds x ≡ false
unfolding is_of_bounds
low_avoids x h = grind (arith, nat_tests)

moved_is : (at k : ℕ) → at + k < 0x8000_0000 → moved at k ≡ at + k
unfolding moved
moved_is at k h = omega arith

low_away : (at k : ℕ) → at + k < 0x8000_0000 → is_of_bounds (moved at k) ≡ false
low_away at k h = ap is_of_bounds (moved_is at k h) ∙ low_avoids (at + k) h

pub low_out : (i : Instr) (from : ℕ) (s : Span) → s.at + s.size ≤ 0x8000_0000 → all_keep_out false i from (s ∷ []) ≡ true
low_out i from s low = let out = span_stayed false i from s (λ unwatched k few. low_away s.at k (omega arith)) in rw out refl

pub frame_out : (i : Instr) (from at a size : ℕ) (write implicit : Bool) → at ≡ a → a + size ≤ 0x8000_0000 → all_keep_out false i from (record { at = at; size = size; write = write; implicit = implicit } ∷ []) ≡ true
frame_out i from at a size write implicit is low = low_out i from (record { at = at; size = size; write = write; implicit = implicit }) (omega arith)

module _ (S : Setting) (ok : IsSetting S) where
  abbrev Ready : View → Stored → Instr → ℕ → Type 0
  Ready v y i next = ReadyAt S ok v y i next

  pub forward : (v : View) (y : Stored) (i : Instr) (next : ℕ) → Ready v y i next → v.processor.rip < next
  forward v y i next h = let short = (spelling-short i h.stands.valid).some in let e = h.stands.is_next in omega arith

  pub seen_after : (v : View) (y z : Stored) (c : Processor) (slots : ℕ → ℕ) → Seen S v y → HoldsWords c → LeavesRegs v.processor.regs c.regs → c.preserve ≡ v.processor.preserve → Holds S slots v.world z
      → Seen S (record { processor = c; slots = slots; world = v.world }) z
  seen_after v y z c slots seen words leaves preserve memory = record {
    memory = memory;
    words = words;
    stack = leaves.rsp ∙ seen.stack;
    preserve = preserve ∙ seen.preserve;
    far = record {
      rbx = leaves.rbx ∙ seen.far.rbx;
      rbp = leaves.rbp ∙ seen.far.rbp;
      r12 = leaves.r12 ∙ seen.far.r12;
      r13 = leaves.r13 ∙ seen.far.r13;
      r14 = leaves.r14 ∙ seen.far.r14;
      r15 = leaves.r15 ∙ seen.far.r15;
    };
  }

  -- an instruction that asks memory for nothing
  pub record IsPlain (i : Instr) (next : ℕ) (before after : Processor) : Type 0 where
    pub call : is_call i ≡ false
    pub return : is_return i ≡ false
    pub service : is_service i ≡ false
    pub accesses_none : accesses i next before.regs ≡ []
    pub is_row : row i next before ≡ Ends after
    pub is_next : after.rip ≡ next
    pub leaves : LeavesRegs before.regs after.regs
    pub preserve : after.preserve ≡ before.preserve

  pub none_fine : (i : Instr) (from : ℕ) (spans : List Span) → spans ≡ [] → reach_strays i from (reach_of spans) ≡ None
  unfolding reach_strays
  none_fine i from spans is = ap (λ (l : List Span). reach_strays i from (reach_of l)) is

  pub none_out : (i : Instr) (from : ℕ) (spans : List Span) → spans ≡ [] → all_keep_out false i from spans ≡ true
  none_out i from spans is = ap (all_keep_out false i from) is

  pub plain_goes : (v : View) (y : Stored) (n next : ℕ) (i : Instr) (c : Processor) → Ready v y i next → IsPlain i next v.processor c → Leads S (whole_of S v y n) (record v { processor = c })
  plain_goes v y n next i c h p =
      let ahead = forward v y i next h in
      let end = h.stands.high in
      let keep : KeepWords (Ends c) = subst KeepWords p.is_row (row_words i next v.processor h.stands.valid (omega arith) h.seen.words) in
      goes_quiet S ok v c v.slots y y n next i (record { seen = h.seen; stands = h.stands; ordinary = record { call = p.call; return = p.return; service = p.service }; out = none_out i v.processor.rip _ p.accesses_none })
      (none_fine i v.processor.rip _ p.accesses_none) (ap (c_accesses_among i) p.accesses_none)
      (executed_ends (machine_of S) i next (state_of v y n) c p.is_row) (let e = p.is_next in omega arith)
      (seen_after v y y c v.slots h.seen keep p.leaves p.preserve h.seen.memory)

  pub load_slot : (v : View) (y : Stored) (n next r k : ℕ) → Ready v y (MovFrom 64 (reg r) (of_frame k)) next → k < S.units → IsFree r
      → Leads S (whole_of S v y n) (record v { processor = with_word (at_next v.processor next) r (v.slots k) })
  unfolding row is_c_access
  load_slot v y n next r k h few free =
      let i = MovFrom 64 (reg r) (of_frame k) in
      let c : Processor = with_word (at_next v.processor next) r (v.slots k) in
      let l = ok.low in
      let u = ok.high in
      let small = slot_small S ok v.slots v.world y k h.seen.memory few in
      let at : address v.processor.regs next (of_frame k) ≡ S.sp + 8 * k = frame_address v.processor.regs next S.sp k h.seen.stack (omega arith) in
      goes_quiet S ok v c v.slots y y n next i (record { seen = h.seen; stands = h.stands; ordinary = record { call = refl; return = refl; service = refl }; out = frame_out i v.processor.rip _ (S.sp + 8 * k) 8 false false at (omega arith) })
      (frame_fine v.processor.rip i _ h.stands.low (let e = h.stands.high in let a = forward v y i next h in omega arith) refl) refl
      (executed_reads (machine_of S) i next (state_of v y n) (address v.processor.regs next (of_frame k)) 8 (v.slots k) false _ c refl
      (rw at (slot_read S ok v.slots v.world y k h.seen.memory few))
      (let t : Processor = at_next v.processor next in ap (λ (x : ℕ). Ends (with_word t r x)) (let e : part_written 64 (v.processor.regs r) (v.slots k % 2 ^ 64) ≡ v.slots k = full_part (v.processor.regs r) (v.slots k) small in e)))
      (forward v y i next h)
      (seen_after v y y c v.slots h.seen (word_words (at_next v.processor next) r (v.slots k) small (record { regs_fit = h.seen.words.regs_fit; bounds_fit = h.seen.words.bounds_fit })) (with_reg_leaves v.processor.regs r (v.slots k) free) refl h.seen.memory)

  pub keep_slot : (v : View) (y : Stored) (n next k r : ℕ) → Ready v y (MovTo 64 (reg r) (InMem (of_frame k))) next → k < S.units
      → Leads S (whole_of S v y n) (record v { processor = at_next v.processor next; slots = with_slot k (v.processor.regs r) v.slots })
  unfolding row is_c_access
  keep_slot v y n next k r h few =
      let i = MovTo 64 (reg r) (InMem (of_frame k)) in
      let c : Processor = at_next v.processor next in
      let x = v.processor.regs r in
      let l = ok.low in
      let u = ok.high in
      let small = h.seen.words.regs_fit r in
      let at : address v.processor.regs next (of_frame k) ≡ S.sp + 8 * k = frame_address v.processor.regs next S.sp k h.seen.stack (omega arith) in
      let value : x % 2 ^ 64 % 2 ^ 64 ≡ x = omega arith in
      let written = slot_write S ok v.slots v.world y k x h.seen.memory few small in
      goes_quiet S ok v c (with_slot k x v.slots) y _ n next i (record { seen = h.seen; stands = h.stands; ordinary = record { call = refl; return = refl; service = refl }; out = frame_out i v.processor.rip _ (S.sp + 8 * k) 8 true false at (omega arith) })
      (frame_fine v.processor.rip i _ h.stands.low (let e = h.stands.high in let a = forward v y i next h in omega arith) refl) refl
      (executed_writes (machine_of S) i next (state_of v y n) (address v.processor.regs next (of_frame k)) 8 (x % 2 ^ 64 % 2 ^ 64) false c _ refl (rw (at, value) written.0))
      (forward v y i next h)
      (seen_after v y _ c (with_slot k x v.slots) h.seen (record { regs_fit = h.seen.words.regs_fit; bounds_fit = h.seen.words.bounds_fit }) (leaves_all v.processor.regs) refl written.1)

  pub load_bounds : (v : View) (y : Stored) (n next b k : ℕ) → Ready v y (BndmovFrom b (InMem (of_frame k))) next → k + 1 < S.units
      → Leads S (whole_of S v y n) (record v { processor = with_bound (at_next v.processor next) b (pair_at v.slots k) })
  unfolding row is_c_access
  load_bounds v y n next b k h few =
      let i = BndmovFrom b (InMem (of_frame k)) in
      let c : Processor = with_bound (at_next v.processor next) b (pair_at v.slots k) in
      let l = ok.low in
      let u = ok.high in
      let first = slot_small S ok v.slots v.world y k h.seen.memory (omega arith) in
      let second = slot_small S ok v.slots v.world y (k + 1) h.seen.memory few in
      let at : address v.processor.regs next (of_frame k) ≡ S.sp + 8 * k = frame_address v.processor.regs next S.sp k h.seen.stack (omega arith) in
      let lb : (v.slots k + 2 ^ 64 * v.slots (k + 1)) % 2 ^ 64 ≡ v.slots k = omega arith in
      let held : (v.slots k + 2 ^ 64 * v.slots (k + 1)) / 2 ^ 64 % 2 ^ 64 ≡ v.slots (k + 1) = omega arith in
      let is : from_stored (v.slots k + 2 ^ 64 * v.slots (k + 1)) ≡ pair_at v.slots k = λ i. record { lb = lb i; ub = complement (held i) } in
      goes_quiet S ok v c v.slots y y n next i (record { seen = h.seen; stands = h.stands; ordinary = record { call = refl; return = refl; service = refl }; out = frame_out i v.processor.rip _ (S.sp + 8 * k) 16 false false at (omega arith) })
      (frame_fine v.processor.rip i _ h.stands.low (let e = h.stands.high in let a = forward v y i next h in omega arith) refl) refl
      (executed_reads (machine_of S) i next (state_of v y n) (address v.processor.regs next (of_frame k)) 16 (v.slots k + 2 ^ 64 * v.slots (k + 1)) false _ c refl
      (rw at (pair_read S ok v.slots v.world y k h.seen.memory few))
      (let t : Processor = at_next v.processor next in ap (λ (x : BoundsPair). Ends (with_bound t b x)) is))
      (forward v y i next h)
      (seen_after v y y c v.slots h.seen (bound_words (at_next v.processor next) b (pair_at v.slots k) (first, omega arith) (record { regs_fit = h.seen.words.regs_fit; bounds_fit = h.seen.words.bounds_fit })) (leaves_all v.processor.regs) refl h.seen.memory)

  pub keep_bounds : (v : View) (y : Stored) (n next k b : ℕ) → Ready v y (BndmovTo b (of_frame k)) next → k + 1 < S.units
      → Leads S (whole_of S v y n) (record v { processor = at_next v.processor next; slots = with_pair_at k (v.processor.bounds b) v.slots })
  unfolding row is_c_access
  keep_bounds v y n next k b h few =
      let i = BndmovTo b (of_frame k) in
      let c : Processor = at_next v.processor next in
      let x = v.processor.bounds b in
      let l = ok.low in
      let u = ok.high in
      let small = h.seen.words.bounds_fit b in
      let at : address v.processor.regs next (of_frame k) ≡ S.sp + 8 * k = frame_address v.processor.regs next S.sp k h.seen.stack (omega arith) in
      let written = pair_write S ok v.slots v.world y k x h.seen.memory few small.0 small.1 in
      goes_quiet S ok v c (with_pair_at k x v.slots) y _ n next i (record { seen = h.seen; stands = h.stands; ordinary = record { call = refl; return = refl; service = refl }; out = frame_out i v.processor.rip _ (S.sp + 8 * k) 16 true false at (omega arith) })
      (frame_fine v.processor.rip i _ h.stands.low (let e = h.stands.high in let a = forward v y i next h in omega arith) refl) refl
      (executed_writes (machine_of S) i next (state_of v y n) (address v.processor.regs next (of_frame k)) 16 (x.lb + complement x.ub * 2 ^ 64) false c _ refl (rw at written.0))
      (forward v y i next h)
      (seen_after v y _ c (with_pair_at k x v.slots) h.seen (record { regs_fit = h.seen.words.regs_fit; bounds_fit = h.seen.words.bounds_fit }) (leaves_all v.processor.regs) refl written.1)

  -- an instruction that fails
  pub plain_fails : (v : View) (y : Stored) (n next : ℕ) (i : Instr) (f : Fault) (c : Processor) → Ready v y i next → is_call i ≡ false → is_return i ≡ false → is_service i ≡ false
      → accesses i next v.processor.regs ≡ [] → row i next v.processor ≡ Fails f c → Ended S (whole_of S v y n) (fault_stop v.processor.rip f) v.world
  plain_fails v y n next i f c h call return service none is =
      halts_here S ok v y n next i (fault_stop v.processor.rip f) (record (state_of v y n) { processor = c }) (record { seen = h.seen; stands = h.stands; ordinary = record { call = call; return = return; service = service }; out = none_out i v.processor.rip _ none })
      (none_fine i v.processor.rip _ none) (executed_fails (machine_of S) i next (state_of v y n) f c is) refl h.seen.memory.store

  rel_back : (t n : ℕ) (z : ℤ) → z ≡ pos t -ℤ pos n → t < 2 ^ 62 → n < 2 ^ 62 → (n + cast_unsigned w64 z) % 2 ^ 64 ≡ t
  rel_back t n (pos k) e small less = let f : t ≡ k + n = omega (arith, ints) in omega arith
  rel_back t n (negsuc k) e small less = let f : t + suc k ≡ n = omega (arith, ints) in omega arith

  pub target_of : (next target : ℕ) → target < 2 ^ 62 → next < 2 ^ 62 → branch_target next (relative target next) ≡ target
  target_of next target small less = rel_back target next (relative target next) refl small less

  seen_at : (v : View) (y : Stored) (target : ℕ) → Seen S v y → Seen S (record v { processor = record v.processor { rip = target } }) y
  seen_at v y target seen = seen_after v y y (record v.processor { rip = target }) v.slots seen (record { regs_fit = seen.words.regs_fit; bounds_fit = seen.words.bounds_fit }) (leaves_all v.processor.regs) refl seen.memory

  pub go : (v : View) (y : Stored) (n next target : ℕ) → Ready v y (JmpRel true (relative target next)) next → target < 2 ^ 62 → After S (whole_of S v y n) (jumped v target)
  unfolding row
  go v y n next target h small =
      let i = JmpRel true (relative target next) in
      let end = h.stands.high in
      jump_goes S ok v y n next target i (record { seen = h.seen; stands = h.stands; ordinary = record { call = refl; return = refl; service = refl }; out = refl })
      (none_fine i v.processor.rip _ refl) refl
      (executed_ends (machine_of S) i next (state_of v y n) (record v.processor { rip = target }) (ap (λ (a : ℕ). Ends (record v.processor { rip = a })) (target_of next target small (omega arith))))
      (seen_at v y target h.seen)

  go_row : (c : Processor) (code next target : ℕ) (b : Bool) → target < 2 ^ 62 → next < 2 ^ 62 → holds code c.flags ≡ b
      → row (Jcc true code (relative target next)) next c ≡ Ends (record c { rip = if b then target else next })
  unfolding row
  go_row c code next target true small less is = rw is (ap (λ (a : ℕ). Ends (record c { rip = a })) (target_of next target small less))
  go_row c code next target false small less is = rw is refl

  pub go_if : (v : View) (y : Stored) (n next code target : ℕ) → Ready v y (Jcc true code (relative target next)) next → target < 2 ^ 62
      → After S (whole_of S v y n) (if holds code v.processor.flags then jumped v target else On (record v { processor = at_next v.processor next }))
  go_if v y n next code target h small =
      let i = Jcc true code (relative target next) in
      let end = h.stands.high in
      let here : Here S ok v y i next = record { seen = h.seen; stands = h.stands; ordinary = record { call = refl; return = refl; service = refl }; out = refl } in
      elim (holds code v.processor.flags) as (λ b. holds code v.processor.flags ≡ b → After S (whole_of S v y n) (if b then jumped v target else On (record v { processor = at_next v.processor next }))) [
        | true ↦ λ is. jump_goes S ok v y n next target i here (none_fine i v.processor.rip _ refl) refl
            (executed_ends (machine_of S) i next (state_of v y n) (record v.processor { rip = target }) (go_row v.processor code next target true small (omega arith) is)) (seen_at v y target h.seen)
        | false ↦ λ is. plain_goes v y n next i (at_next v.processor next) h (record { call = refl; return = refl; service = refl; accesses_none = refl; is_row = go_row v.processor code next target false small (omega arith) is; is_next = refl; leaves = leaves_all v.processor.regs; preserve = refl })
      ] refl

  cell_fine : (i : Instr) (from : ℕ) (s : Span) → 0x0100_0000 ≤ from → from < 0x1100_0000 → is_c_operand (operand_of i) ≡ false → reach_strays i from (reach_of (s ∷ [])) ≡ None
  cell_fine i from s low high none = frame_fine from i s low high none

  -- the data stack pointer is taken from its cell
  pub load_cell : (v : View) (y : Stored) (n next r : ℕ) → Ready v y (MovFrom 64 (reg r) (cell data_sp_cell)) next → IsFree r → Leads S (whole_of S v y n) (record v { processor = with_word (at_next v.processor next) r v.world.data_sp })
  unfolding row is_c_access stored_read address
  load_cell v y n next r h free =
      let i = MovFrom 64 (reg r) (cell data_sp_cell) in
      let x = v.world.data_sp in
      let c : Processor = with_word (at_next v.processor next) r x in
      let value = h.seen.memory.data_cell in
      let small : x < 2 ^ 64 = let e = number_at-lt 8 y.bytes 0x7000_0010 h.seen.memory.each_byte in omega arith in
      let fine : first_refused is_readable 8 0x7000_0010 ≡ None = first_refused-all is_readable 8 0x7000_0010 (λ a from to. cells_readable a (omega arith) (omega arith)) in
      goes_quiet S ok v c v.slots y y n next i (record { seen = h.seen; stands = h.stands; ordinary = record { call = refl; return = refl; service = refl }; out = frame_out i v.processor.rip 0x7000_0010 0x7000_0010 8 false false refl (omega arith) })
      (frame_fine v.processor.rip i _ h.stands.low (let e = h.stands.high in let a = forward v y i next h in omega arith) refl) refl
      (executed_reads (machine_of S) i next (state_of v y n) 0x7000_0010 8 x false _ c refl (rw fine (ap (λ (z : ℕ). let o : Result ℕ _ = Ok z in o) value))
      (let t : Processor = at_next v.processor next in ap (λ (z : ℕ). Ends (with_word t r z)) (let e : part_written 64 (v.processor.regs r) (x % 2 ^ 64) ≡ x = full_part (v.processor.regs r) x small in e)))
      (forward v y i next h)
      (seen_after v y y c v.slots h.seen (word_words (at_next v.processor next) r x small (record { regs_fit = h.seen.words.regs_fit; bounds_fit = h.seen.words.bounds_fit })) (with_reg_leaves v.processor.regs r x free) refl h.seen.memory)
