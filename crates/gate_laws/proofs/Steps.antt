-- Single instructions of instrumented code, as equations between runs.
use Rattle.std.specs.Prelude.{Bool, true, false, ◌||◌, nat_le, None, List, [], ◌∷◌, ◌++◌}
use Rattle.std.proofs.Common.{◌≡◌, ℕ, suc, ◌+◌, ◌<◌, ◌≤◌, refl, arith, ap, ◌∙◌}
use Rattle.std.proofs.lemmas.Bool.Decides.{nat_tests}
use Rattle.mx_base.specs.World.{Access}
use Rattle.mx_base.specs.Regions.{instrumented_code, is_in, is_executable}
use Rattle.x86_forms.specs.declared.instr.Instr.{Instr}
use Rattle.x86_forms.specs.declared.instr.Instr.TheVariants.{MovTo, MovFrom, MovMemImm, MovImm, Movsxd, Movzx, Movsx, Lea, AluTo, AluFrom, AluImm, Test as TestRm, Imul as ImulRm, One, Wide, ShiftCl, ShiftImm, Set, Push, Pop, CallRel, JmpRel, CallRm, JmpRm, Jcc, Ret, Syscall, Ud2, Nop, Bndmk, Bndcl, Bndcu, Bndcn, BndmovTo, BndmovFrom, Bndldx, Bndstx}
use Rattle.x86_forms.specs.declared.spans.Span.{Span}
use Rattle.x86_forms.specs.Processor.{Processor}
use Rattle.x86_forms.specs.Accesses.{accesses, reach_of}
use Rattle.x86_forms.specs.Requests.{Done, run}
use Rattle.x86_forms.specs.Table.{row}
use Rattle.x86_forms.specs.Watch.{is_legacy, control_strays, is_legacy_control}
use Rattle.obj_file.specs.Machine.{Reading, Is, Ground, State, Does, Goes, event, event_of, deed_of, deed_by, executed, reading_at, next_address, reach_strays, is_call, is_return, is_service, counted, left_by, owes}
use Rattle.obj_file.specs.Runs.{c_accesses_by}
use Rattle.obj_file.specs.Stored.{Stored, stored_ground}
use Rattle.obj_file.specs.StoreLaw.{service_reads}
use Rattle.obj_file.proofs.FinalLaws.{final_quiet, final_turn}
use Rattle.obj_file.specs.Finals.{final, clean_now, all_keep_out}
use Rattle.gate_laws.specs.Moments.{is_plain}

-- ---- one event

module _ (g : Ground Stored) where
  -- an event without a turn, and its accesses
  pub goes : (s t : State Stored) (turns : ℕ) (before now : List Access) → event g s ≡ Goes false t → c_accesses_by s (reading_at g s) ≡ now → clean_now g s ≡ true
      → final g record { state = s; turns = turns; accesses = before } ≡ final g record { state = t; turns = turns; accesses = before ++ now }
  goes s t turns before now e a c = final_quiet g record { state = s; turns = turns; accesses = before } t e c ∙ ap (λ (l : List Access). final g record { state = t; turns = turns; accesses = before ++ l }) a

  pub takes_turn : (s t : State Stored) (turns : ℕ) (before now : List Access) → event g s ≡ Goes true t → c_accesses_by s (reading_at g s) ≡ now → clean_now g s ≡ true
      → final g record { state = s; turns = suc turns; accesses = before } ≡ final g record { state = t; turns = turns; accesses = before ++ now }
  takes_turn s t turns before now e a c = final_turn g record { state = s; turns = suc turns; accesses = before } turns t refl e c ∙ ap (λ (l : List Access). final g record { state = t; turns = turns; accesses = before ++ l }) a

-- ---- plain instructions

quiet_service : (i : Instr) → is_plain i ≡ true → is_service i ≡ false
quiet_service (MovTo w r rm) h = refl
quiet_service (MovFrom w r m) h = refl
quiet_service (MovMemImm w m imm) h = refl
quiet_service (MovImm w r imm) h = refl
quiet_service (Movsxd r rm) h = refl
quiet_service (Movzx from r rm) h = refl
quiet_service (Movsx w from r rm) h = refl
quiet_service (Lea r m) h = refl
quiet_service (AluTo op w r rm) h = refl
quiet_service (AluFrom op w r m) h = refl
quiet_service (AluImm op w rm imm) h = refl
quiet_service (TestRm w r rm) h = refl
quiet_service (ImulRm w r rm) h = refl
quiet_service (One op w rm) h = refl
quiet_service (Wide w) h = refl
quiet_service (ShiftCl op w rm) h = refl
quiet_service (ShiftImm op w rm imm) h = refl
quiet_service (Set op rm) h = refl
quiet_service (Push r) h = refl
quiet_service (Pop r) h = refl
quiet_service (CallRel prefixed rel) h = refl
quiet_service (JmpRel prefixed rel) h = refl
quiet_service (CallRm prefixed rm) h = refl
quiet_service (JmpRm prefixed rm) h = refl
quiet_service (Jcc prefixed op rel) h = refl
quiet_service (Ret prefixed) h = refl
quiet_service Syscall h = absurd (cc)
quiet_service Ud2 h = refl
quiet_service Nop h = refl
quiet_service (Bndmk b m) h = refl
quiet_service (Bndcl b rm) h = refl
quiet_service (Bndcu b rm) h = refl
quiet_service (Bndcn b rm) h = refl
quiet_service (BndmovTo b m) h = refl
quiet_service (BndmovFrom b rm) h = refl
quiet_service (Bndldx b m) h = refl
quiet_service (Bndstx b m) h = refl

quiet_return : (i : Instr) → is_plain i ≡ true → is_return i ≡ false
quiet_return (MovTo w r rm) h = refl
quiet_return (MovFrom w r m) h = refl
quiet_return (MovMemImm w m imm) h = refl
quiet_return (MovImm w r imm) h = refl
quiet_return (Movsxd r rm) h = refl
quiet_return (Movzx from r rm) h = refl
quiet_return (Movsx w from r rm) h = refl
quiet_return (Lea r m) h = refl
quiet_return (AluTo op w r rm) h = refl
quiet_return (AluFrom op w r m) h = refl
quiet_return (AluImm op w rm imm) h = refl
quiet_return (TestRm w r rm) h = refl
quiet_return (ImulRm w r rm) h = refl
quiet_return (One op w rm) h = refl
quiet_return (Wide w) h = refl
quiet_return (ShiftCl op w rm) h = refl
quiet_return (ShiftImm op w rm imm) h = refl
quiet_return (Set op rm) h = refl
quiet_return (Push r) h = refl
quiet_return (Pop r) h = refl
quiet_return (CallRel prefixed rel) h = refl
quiet_return (JmpRel prefixed rel) h = refl
quiet_return (CallRm prefixed rm) h = refl
quiet_return (JmpRm prefixed rm) h = refl
quiet_return (Jcc prefixed op rel) h = refl
quiet_return (Ret prefixed) h = absurd (cc)
quiet_return Syscall h = refl
quiet_return Ud2 h = refl
quiet_return Nop h = refl
quiet_return (Bndmk b m) h = refl
quiet_return (Bndcl b rm) h = refl
quiet_return (Bndcu b rm) h = refl
quiet_return (Bndcn b rm) h = refl
quiet_return (BndmovTo b m) h = refl
quiet_return (BndmovFrom b rm) h = refl
quiet_return (Bndldx b m) h = refl
quiet_return (Bndstx b m) h = refl

quiet_call : (i : Instr) → is_plain i ≡ true → is_call i ≡ false
quiet_call (MovTo w r rm) h = refl
quiet_call (MovFrom w r m) h = refl
quiet_call (MovMemImm w m imm) h = refl
quiet_call (MovImm w r imm) h = refl
quiet_call (Movsxd r rm) h = refl
quiet_call (Movzx from r rm) h = refl
quiet_call (Movsx w from r rm) h = refl
quiet_call (Lea r m) h = refl
quiet_call (AluTo op w r rm) h = refl
quiet_call (AluFrom op w r m) h = refl
quiet_call (AluImm op w rm imm) h = refl
quiet_call (TestRm w r rm) h = refl
quiet_call (ImulRm w r rm) h = refl
quiet_call (One op w rm) h = refl
quiet_call (Wide w) h = refl
quiet_call (ShiftCl op w rm) h = refl
quiet_call (ShiftImm op w rm imm) h = refl
quiet_call (Set op rm) h = refl
quiet_call (Push r) h = refl
quiet_call (Pop r) h = refl
quiet_call (CallRel prefixed rel) h = absurd (cc)
quiet_call (JmpRel prefixed rel) h = refl
quiet_call (CallRm prefixed rm) h = absurd (cc)
quiet_call (JmpRm prefixed rm) h = refl
quiet_call (Jcc prefixed op rel) h = refl
quiet_call (Ret prefixed) h = refl
quiet_call Syscall h = refl
quiet_call Ud2 h = refl
quiet_call Nop h = refl
quiet_call (Bndmk b m) h = refl
quiet_call (Bndcl b rm) h = refl
quiet_call (Bndcu b rm) h = refl
quiet_call (Bndcn b rm) h = refl
quiet_call (BndmovTo b m) h = refl
quiet_call (BndmovFrom b rm) h = refl
quiet_call (Bndldx b m) h = refl
quiet_call (Bndstx b m) h = refl

spans_none : (l : List Span) → l ++ [] ≡ l
spans_none [] = refl
spans_none (x ∷ l) = ap (λ (r : List Span). x ∷ r) (spans_none l)

-- ---- one instruction of instrumented code

in_code : (a : ℕ) → is_in instrumented_code a ≡ true → is_executable a ≡ true
unfolding is_executable
in_code a h = grind (arith, nat_tests)

-- the address after it does not go round
pub next_fits : (a n : ℕ) → is_in instrumented_code a ≡ true → n ≤ 15 → next_address a n ≡ a + n
next_fits a n h l = grind (arith, nat_tests)

not_legacy : (a : ℕ) → is_in instrumented_code a ≡ true → is_legacy a ≡ false
not_legacy a h = rw h refl

module _ (reads : List ℕ → Reading) (outers : ℕ) (preserve : Bool) where
  abbrev G : Ground Stored
  G = stored_ground reads outers record { preserve = preserve; bare = false }

  pub by_reading : (s : State Stored) (r : Reading) → is_in instrumented_code s.processor.rip ≡ true → reading_at G s ≡ r
      → event G s ≡ event_of s (owes r) (deed_by G s r)
  unfolding event
  by_reading s r code is = rw (in_code s.processor.rip code) (rw is refl)

  judged : (s : State Stored) (i : Instr) (n : ℕ) (p : Processor) (y : Stored) → is_in instrumented_code s.processor.rip ≡ true
      → reach_strays i s.processor.rip (reach_of (accesses i (s.processor.rip + n) s.processor.regs)) ≡ None
      → is_service i ≡ false → (is_return i ≡ false)
      → run G.store s.processor (row i (s.processor.rip + n) s.processor) s.memory ≡ Done p y
      → deed_of G i (s.processor.rip + n) s ≡ Does (left_by s p y)
  unfolding deed_of executed control_strays is_legacy_control
  judged s i n p y code fine plain stays does = rw (fine, plain, does, stays, code) refl

  fall : (a b : ℕ) → a < b → nat_le b a ≡ false
  fall a b h = grind (arith, nat_tests)

  -- an instruction that goes on, whatever it does to the processor and to memory
  pub plain_goes : (s : State Stored) (i : Instr) (n : ℕ) (p : Processor) (y : Stored) → is_in instrumented_code s.processor.rip ≡ true → n ≤ 15
      → reading_at G s ≡ Is i n → is_plain i ≡ true
      → reach_strays i s.processor.rip (reach_of (accesses i (s.processor.rip + n) s.processor.regs)) ≡ None
      → run G.store s.processor (row i (s.processor.rip + n) s.processor) s.memory ≡ Done p y
      → s.processor.rip < p.rip
      → event G s ≡ Goes false (counted (left_by s p y))
  plain_goes s i n p y code small is plain fine does forward =
      by_reading s (Is i n) code is
      ∙ ap (λ a. event_of s (is_call i || is_return i) (deed_of G i a s)) (next_fits s.processor.rip n code small)
      ∙ ap (event_of s (is_call i || is_return i)) (judged s i n p y code fine (quiet_service i plain) (quiet_return i plain) does)
      ∙ (let call = quiet_call i plain in let ret = quiet_return i plain in rw (code, call, ret, fall s.processor.rip p.rip forward) refl)

  -- what is clean of an instruction that stands there
  pub clean_there : (s : State Stored) (i : Instr) (n : ℕ) → is_in instrumented_code s.processor.rip ≡ true → n ≤ 15 → reading_at G s ≡ Is i n
      → all_keep_out false i s.processor.rip (accesses i (s.processor.rip + n) s.processor.regs ++ service_reads i s.processor) ≡ true → clean_now G s ≡ true
  clean_there s i n code small is out =
      rw (in_code s.processor.rip code, is) (ap (λ a. all_keep_out false i s.processor.rip (accesses i a s.processor.regs ++ service_reads i s.processor)) (next_fits s.processor.rip n code small) ∙ out)

  pub clean_plain : (s : State Stored) (i : Instr) (n : ℕ) → is_in instrumented_code s.processor.rip ≡ true → n ≤ 15 → reading_at G s ≡ Is i n → is_service i ≡ false
      → all_keep_out false i s.processor.rip (accesses i (s.processor.rip + n) s.processor.regs) ≡ true → clean_now G s ≡ true
  clean_plain s i n code small is plain out = clean_there s i n code small is (rw plain (ap (all_keep_out false i s.processor.rip) (spans_none (accesses i (s.processor.rip + n) s.processor.regs)) ∙ out))

  pub plain_service : (i : Instr) → is_plain i ≡ true → is_service i ≡ false
  plain_service = quiet_service
