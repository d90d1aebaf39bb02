-- BNDPRESERVE stays as it is.
use Rattle.std.specs.Prelude.{Result, Ok, Err}
use Rattle.std.proofs.Common.{◌≡◌, ℕ, ◌==◌, Bool, true, false, Option, None, Some, refl, ap, ◌∙◌, subst}
use Rattle.std.proofs.lemmas.Bool.{cond_both}
use Rattle.mx_base.specs.declared.limits.Bounds.{Bounds}
use Rattle.mx_base.specs.declared.stops.Stop.{Stop}
use Rattle.mx_base.specs.Services.{Served, Answers, Exits, Overflows, Refused as Denied}
use Rattle.mx_base.specs.Regions.{is_executable}
use Rattle.x86_forms.specs.declared.instr.Instr.{Instr}
use Rattle.x86_forms.specs.declared.instr.Rm.{Rm}
use Rattle.x86_forms.specs.declared.instr.Rm.TheVariants.{Reg as InReg, Mem as InMem}
use Rattle.x86_forms.specs.declared.instr.Instr.TheVariants.{MovTo, MovFrom, MovMemImm, MovImm, Movsxd, Movzx, Movsx, Lea, AluTo, AluFrom, AluImm, Test as TestRm, Imul as ImulRm, One, Wide, ShiftCl, ShiftImm, Set, Push, Pop, CallRel, JmpRel, CallRm, JmpRm, Jcc, Ret, Syscall, Ud2, Nop, Bndmk, Bndcl, Bndcu, Bndcn, BndmovTo, BndmovFrom, Bndldx, Bndstx}
use Rattle.x86_forms.specs.Arithmetic.{Operation, Test, Imul, Not, Neg, writes_result, result_of, divided, divided_signed}
use Rattle.x86_forms.specs.Processor.{Processor, rax, rdx}
use Rattle.x86_forms.specs.Requests.{Program, Store, Outcome, Done, Failed, Refused, run}
use Rattle.x86_forms.specs.Table.{row, value_then, written_to, operated, one_operand, quotient_kept, checked, alu_operation, shift_operation, reg_value, with_flags_after}
use Rattle.x86_forms.proofs.TableKeeps.{IsTidy, Ended, tidy_run}
use Rattle.obj_file.specs.Machine.{Reading, Is, Part, Neither, Refusal, Misses, Invalid, Lacks, Ground, State, Deed, Does, Halts, Event, Goes, Stops, ended, executed, served_or_ended, restarted, unless_strayed, answered, asked, with_service, is_service, control_judged, deed_of, deed_by, reading_at, event_of, event, owes}
use Rattle.obj_file.specs.Stored.{Stored}

abbrev pub Kept : Processor → Processor → Type 0
Kept c d = d.preserve ≡ c.preserve

module _ (c : Processor) (next : ℕ) where
  abbrev Tidy : Program → Type 0
  Tidy p = IsTidy c (Kept c) p

  tidy_value : (w : ℕ) (rm : Rm) (rest : ℕ → Program) → ((v : ℕ) → Tidy (rest v)) → Tidy (value_then c next w rm rest)
  tidy_value w (InReg r) rest k = k _
  tidy_value w (InMem m) rest k = λ v. k _

  tidy_written : (w : ℕ) (rm : Rm) (v : ℕ) (after : Processor) → Kept c after → Tidy (written_to c next w rm v after)
  tidy_written w (InReg r) v after e = e
  tidy_written w (InMem m) v after e = e

  tidy_operated : (op : Operation) (w : ℕ) (rm : Rm) (a b : ℕ) → Tidy (operated c next op w rm a b)
  tidy_operated op w rm a b = cond_both (writes_result op) _ _ (λ p. Tidy p) (λ e. tidy_written w rm (result_of op w a b) (with_flags_after c next op w a b) refl) (λ e. refl)

  tidy_quotient : (w : ℕ) (q : Option (ℕ × ℕ)) → Tidy (quotient_kept c next w q)
  tidy_quotient w None = refl
  tidy_quotient w (Some q) = refl

  tidy_one : (op w : ℕ) (rm : Rm) (a : ℕ) → Tidy (one_operand c next op w rm a)
  tidy_one op w rm a =
      cond_both (op == 0) _ _ (λ p. Tidy p) (λ e. tidy_operated Not w rm a 0)
      (λ e. cond_both (op == 1) _ _ (λ p. Tidy p) (λ f. tidy_operated Neg w rm a 0)
      (λ f. cond_both (op == 2) _ _ (λ p. Tidy p)
      (λ g. tidy_quotient w (divided w (reg_value c w rdx) (reg_value c w rax) a))
      (λ g. tidy_quotient w (divided_signed w (reg_value c w rdx) (reg_value c w rax) a))))

  tidy_checked : (d : Bool) (v : ℕ) (b : Bounds) → Tidy (checked c next d v b)
  tidy_checked true v b = refl
  tidy_checked false v b = refl

  pub keeps_row : (i : Instr) → Tidy (row i next c)
  unfolding row
  keeps_row (MovTo w r rm) = tidy_written w rm _ _ refl
  keeps_row (MovFrom w r m) = λ v. refl
  keeps_row (MovMemImm w m imm) = refl
  keeps_row (MovImm w r imm) = refl
  keeps_row (Movsxd r rm) = tidy_value 32 rm _ (λ v. refl)
  keeps_row (Movsx w from r rm) = tidy_value from rm _ (λ v. refl)
  keeps_row (Movzx from r rm) = tidy_value from rm _ (λ v. refl)
  keeps_row (Lea r m) = refl
  keeps_row (AluTo op w r rm) = tidy_value w rm _ (λ v. tidy_operated (alu_operation op) w rm v _)
  keeps_row (AluFrom op w r m) = λ v. tidy_operated (alu_operation op) w (InReg r) _ _
  keeps_row (AluImm op w rm imm) = tidy_value w rm _ (λ v. tidy_operated (alu_operation op) w rm v _)
  keeps_row (TestRm w r rm) = tidy_value w rm _ (λ v. tidy_operated Test w rm v (reg_value c w r.0))
  keeps_row (ImulRm w r rm) = tidy_value w rm _ (λ v. tidy_operated Imul w (InReg r) (reg_value c w r.0) v)
  keeps_row (One op w rm) = tidy_value w rm _ (λ v. tidy_one op w rm v)
  keeps_row (Wide w) = refl
  keeps_row (ShiftCl op w rm) = tidy_value w rm _ (λ v. tidy_operated (shift_operation op) w rm v _)
  keeps_row (ShiftImm op w rm imm) = tidy_value w rm _ (λ v. tidy_operated (shift_operation op) w rm v _)
  keeps_row (Set op rm) = tidy_written 8 rm _ _ refl
  keeps_row (Push r) = refl
  keeps_row (Pop r) = λ v. refl
  keeps_row (CallRel prefixed rel) = refl
  keeps_row (CallRm prefixed rm) = tidy_value 64 rm _ (λ v. refl)
  keeps_row (JmpRel prefixed rel) = refl
  keeps_row (JmpRm prefixed rm) = tidy_value 64 rm _ (λ v. refl)
  keeps_row (Jcc prefixed op rel) = refl
  keeps_row (Ret prefixed) = λ v. refl
  keeps_row Syscall = refl
  keeps_row Ud2 = refl
  keeps_row Nop = refl
  keeps_row (Bndmk b m) = refl
  keeps_row (Bndcl b rm) = tidy_checked _ _ _
  keeps_row (Bndcu b rm) = tidy_checked _ _ _
  keeps_row (Bndcn b rm) = tidy_checked _ _ _
  keeps_row (BndmovTo b m) = refl
  keeps_row (BndmovFrom b (InReg r)) = refl
  keeps_row (BndmovFrom b (InMem m)) = λ v. refl
  keeps_row (Bndldx b m) = λ x. refl
  keeps_row (Bndstx b m) = refl

abbrev DeedKept : Bool → Deed Stored → Type 0
DeedKept b (Does t) = t.processor.preserve ≡ b
DeedKept b (Halts why t) = Unit {0}

abbrev EventKept : Bool → Event Stored → Type 0
EventKept b (Goes turn t) = t.processor.preserve ≡ b
EventKept b (Stops turn why t) = Unit {0}

module _ (g : Ground Stored) (s : State Stored) where
  abbrev was : Bool
  was = s.processor.preserve

  abbrev Ran : Store Stored Refusal → Processor → Stored → Instr → ℕ → Type 0
  Ran m p x i next = Ended m p (Kept p) x (run m p (row i next p) x)

  again : (p : Processor) (o : Outcome Stored Refusal) (x : Stored) → p.preserve ≡ was → Ended g.store p (Kept p) x o → DeedKept was (ended s o)
  again p (Done a y) x e h = h.ends ∙ e
  again p (Failed f a y) x e h = tt
  again p (Refused o a y) x e h = tt

  restart : (i : Instr) (next : ℕ) (p : Processor) (x : Stored) (r : Result Stored Refusal) → p.preserve ≡ was → DeedKept was (restarted g i next s p x r)
  restart i next p x (Err o) e = tt
  restart i next p x (Ok y) e = again p _ y e (tidy_run g.store p (Kept p) (row i next p) y (keeps_row p next i))

  served : (i : Instr) (next : ℕ) (o : Outcome Stored Refusal) → Ended g.store s.processor (Kept s.processor) s.memory o → DeedKept was (served_or_ended g i next s o)
  served i next (Refused (Invalid entry_at) p x) h = restart i next p x _ (ap (λ (c : Processor). c.preserve) h.leaves.0)
  served i next (Refused (Misses at) p x) h = tt
  served i next (Refused (Lacks in_use capacity) p x) h = tt
  served i next (Done p x) h = h.ends
  served i next (Failed f p x) h = tt

  done : (i : Instr) (next : ℕ) → DeedKept was (executed g i next s)
  unfolding executed
  done i next = served i next _ (tidy_run g.store s.processor (Kept s.processor) (row i next s.processor) s.memory (keeps_row s.processor next i))

  answer : (t : State Stored) (a : Served Stop) → t.processor.preserve ≡ was → DeedKept was (answered s t a)
  answer t (Answers word u) e = e
  answer t (Exits code) e = tt
  answer t Overflows e = tt
  answer t (Denied why) e = tt

  service : (d : Deed Stored) → DeedKept was d → DeedKept was (with_service g s d)
  service (Does t) e = answer t (asked g s) e
  service (Halts why t) e = tt

  unless : (o : Option ℕ) (t : State Stored) (d : Deed Stored) → DeedKept was d → DeedKept was (unless_strayed o t d)
  unless None t d h = h
  unless (Some x) t d h = tt

  control : (i : Instr) (from : ℕ) (d : Deed Stored) → DeedKept was d → DeedKept was (control_judged g i from d)
  control i from (Does t) h = unless _ t (Does t) h
  control i from (Halts why t) h = tt

  deed : (i : Instr) (next : ℕ) → DeedKept was (deed_of g i next s)
  unfolding deed_of
  deed i next = unless _ s _ (control i s.processor.rip _ (cond_both (is_service i) _ _ (λ d. DeedKept was d) (λ e. service _ (done i next)) (λ e. done i next)))

  by_reading : (r : Reading) → DeedKept was (deed_by g s r)
  by_reading (Is i size) = deed i _
  by_reading Part = tt
  by_reading Neither = tt

  of_deed : (owed : Bool) (d : Deed Stored) → DeedKept was d → EventKept was (event_of s owed d)
  of_deed owed (Does t) h = h
  of_deed owed (Halts why t) h = tt

  all : EventKept was (event g s)
  unfolding event
  all = cond_both (is_executable s.processor.rip) _ _ (λ e. EventKept was e) (λ _. of_deed (owes (reading_at g s)) (deed_by g s (reading_at g s)) (by_reading (reading_at g s))) (λ _. tt)

  pub preserve_stays : (turn : Bool) (t : State Stored) → event g s ≡ Goes turn t → t.processor.preserve ≡ was
  preserve_stays turn t e = subst (λ (x : Event Stored). EventKept was x) e all
