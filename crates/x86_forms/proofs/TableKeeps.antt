-- What a row leaves: all but BNDSTATUS where it isn't done, and the bounds registers that it doesn't set.
use Rattle.std.proofs.Common.{◌≡◌, ℕ, ◌==◌, Bool, true, false, refl, ap, sym, subst, ◌∙◌}
use Rattle.std.specs.Prelude.{Option, Some, None, if◌then◌else◌, not, ◌||◌, Result, Ok, Err}
use Rattle.std.proofs.lemmas.Bool.{cond_both}
use Rattle.mx_base.specs.declared.limits.Bounds.{Bounds}
use Rattle.x86_forms.specs.declared.instr.Instr.{Instr}
use Rattle.x86_forms.specs.declared.instr.Rm.{Rm}
use Rattle.x86_forms.specs.declared.instr.Rm.TheVariants.{Reg as InReg, Mem as InMem}
use Rattle.x86_forms.specs.declared.instr.Instr.TheVariants.{MovTo, MovFrom, MovMemImm, MovImm, Movsxd, Movzx, Movsx, Lea, AluTo, AluFrom, AluImm, Test as TestRm, Imul as ImulRm, One, Wide, ShiftCl, ShiftImm, Set, Push, Pop, CallRel, JmpRel, CallRm, JmpRm, Jcc, Ret, Syscall, Ud2, Nop, Bndmk, Bndcl, Bndcu, Bndcn, BndmovTo, BndmovFrom, Bndldx, Bndstx}
use Rattle.x86_forms.specs.Arithmetic.{Operation, Test, Imul, Not, Neg, writes_result, result_of, divided, divided_signed}
use Rattle.x86_forms.specs.Processor.{Processor, rax, rdx}
use Rattle.x86_forms.specs.Requests.{Program, Ends, Fails, Reads, Writes, Loads, Keeps, Store, Outcome, Refused, run, refused_with, either_way}
use Rattle.x86_forms.specs.Table.{row, init_bounds, value_then, written_to, operated, one_operand, quotient_kept, checked, alu_operation, shift_operation, reg_value, with_flags_after, with_bnd, at_next}
use Rattle.x86_forms.specs.TableLaws.{status_after, LeavesAll, widens, sets_register, BoundsAfter, WhereDone}

-- a program that asks for nothing more

abbrev pub IsLast : (Processor → Type 0) → Program → Type 0
IsLast Q (Ends after) = Q after
IsLast Q (Fails fault left) = ⊥
IsLast Q (Reads at size implicit next) = ⊥
IsLast Q (Writes at size value implicit next) = ⊥
IsLast Q (Loads at value next) = ⊥
IsLast Q (Keeps at value b next) = ⊥

-- a program changes memory only by its last request, fails before it, and ends in what Q says
abbrev pub IsTidy : Processor → (Processor → Type 0) → Program → Type 0
IsTidy c Q (Ends after) = Q after
IsTidy c Q (Fails fault left) = left ≡ refused_with (status_after fault c.status) c
IsTidy c Q (Reads at size implicit next) = (v : ℕ) → IsTidy c Q (next v)
IsTidy c Q (Writes at size value implicit next) = IsLast Q next
IsTidy c Q (Loads at value next) = (b : Bounds) → IsLast Q (next b)
IsTidy c Q (Keeps at value b next) = IsLast Q next

-- ---- runs of such programs

pub record Ended {X O : Type 0} (s : Store X O) (c : Processor) (Q : Processor → Type 0) (x : X) (e : Outcome X O) : Type 0 where
  pub leaves : LeavesAll s c x e
  pub ends : WhereDone Q e

module _ {X O : Type 0} (s : Store X O) (c : Processor) (Q : Processor → Type 0) where
  last_run : (p : Program) (x y : X) → IsLast Q p → Ended s c Q x (run s c p y)
  unfolding run
  last_run (Ends after) x y h = record { leaves = tt; ends = h }
  last_run (Fails fault left) x y h = absurd h
  last_run (Reads at size implicit next) x y h = absurd h
  last_run (Writes at size value implicit next) x y h = absurd h
  last_run (Loads at value next) x y h = absurd h
  last_run (Keeps at value b next) x y h = absurd h

  refused : (x : X) (o : O) → Ended s c Q x (Refused o (refused_with (s.status o c.status) c) x)
  refused x o = record { leaves = (refl, refl); ends = tt }

  after_read : (x : X) (a : Result ℕ O) (f : ℕ → Program) → ((v : ℕ) → Ended s c Q x (run s c (f v) x)) → Ended s c Q x (either_way a (λ v. run s c (f v) x) (λ o. Refused o (refused_with (s.status o c.status) c) x))
  after_read x (Ok v) f h = h v
  after_read x (Err o) f h = refused x o

  after_change : (x : X) (a : Result X O) (p : Program) → IsLast Q p → Ended s c Q x (either_way a (λ y. run s c p y) (λ o. Refused o (refused_with (s.status o c.status) c) x))
  after_change x (Ok y) p h = last_run p x y h
  after_change x (Err o) p h = refused x o

  after_load : (x : X) (a : Result (Bounds × X) O) (f : Bounds → Program) → ((b : Bounds) → IsLast Q (f b)) → Ended s c Q x (either_way a (λ p. run s c (f p.0) p.1) (λ o. Refused o (refused_with (s.status o c.status) c) x))
  after_load x (Ok p) f h = last_run (f p.0) x p.1 (h p.0)
  after_load x (Err o) f h = refused x o

  pub tidy_run : (p : Program) (x : X) → IsTidy c Q p → Ended s c Q x (run s c p x)
  unfolding run
  tidy_run (Ends after) x h = record { leaves = tt; ends = h }
  tidy_run (Fails fault left) x h = record { leaves = (h, refl); ends = tt }
  tidy_run (Reads at size implicit next) x h = after_read x _ next (λ v. tidy_run (next v) x (h v))
  tidy_run (Writes at size value implicit next) x h = after_change x _ next h
  tidy_run (Loads at value next) x h = after_load x _ next h
  tidy_run (Keeps at value b next) x h = after_change x _ next h

-- ---- rows

true-false : {A : Type 0} (b : Bool) → b ≡ true → b ≡ false → A
true-false b h k = elim_bool (sym h ∙ k)
  where
    Is : Bool → Type 0
    Is true = Unit {0}
    Is false = ⊥

    elim_bool : {A : Type 0} → true ≡ false → A
    elim_bool e = absurd (subst (λ (b : Bool). Is b) e tt)

same : (i : Instr) (c after : Processor) → widens i c.preserve ≡ false → after.bounds ≡ c.bounds → BoundsAfter i c after
same i c after h e = record { widened = λ k. true-false _ k h; left = λ k _ _. ap (λ (f : ℕ → Bounds). f k) e }

branch : (i : Instr) (c after : Processor) (d : Bool) → widens i c.preserve ≡ not d → after.bounds ≡ (if d then c.bounds else init_bounds) → BoundsAfter i c after
branch i c after true h e = same i c after h e
branch i c after false h e = record { widened = λ k. e; left = λ k l _. true-false _ h l }

-- one bounds register is set
sets : (i : Instr) (c : Processor) (next b : ℕ) (x : Bounds) → widens i c.preserve ≡ false → ((k : ℕ) → sets_register i k ≡ (k == b)) → BoundsAfter i c (with_bnd (at_next c next) b x)
sets i c next b x h e = record { widened = λ k. true-false _ k h; left = λ k _ l. rw (sym (e k) ∙ l) refl }

module _ (i : Instr) (c : Processor) (next : ℕ) (h : widens i c.preserve ≡ false) where
  abbrev Tidy : Program → Type 0
  Tidy p = IsTidy c (BoundsAfter i c) p

  tidy_value : (w : ℕ) (rm : Rm) (rest : ℕ → Program) → ((v : ℕ) → Tidy (rest v)) → Tidy (value_then c next w rm rest)
  tidy_value w (InReg r) rest k = k _
  tidy_value w (InMem m) rest k = λ v. k _

  tidy_written : (w : ℕ) (rm : Rm) (v : ℕ) (after : Processor) → after.bounds ≡ c.bounds → Tidy (written_to c next w rm v after)
  tidy_written w (InReg r) v after e = same i c _ h e
  tidy_written w (InMem m) v after e = same i c after h e

  tidy_operated : (op : Operation) (w : ℕ) (rm : Rm) (a b : ℕ) → Tidy (operated c next op w rm a b)
  tidy_operated op w rm a b = cond_both (writes_result op) _ _ (λ p. Tidy p) (λ e. tidy_written w rm (result_of op w a b) (with_flags_after c next op w a b) refl) (λ e. same i c (with_flags_after c next op w a b) h refl)

  tidy_quotient : (w : ℕ) (q : Option (ℕ × ℕ)) → Tidy (quotient_kept c next w q)
  tidy_quotient w None = refl
  tidy_quotient w (Some q) = same i c _ h refl

  tidy_one : (op w : ℕ) (rm : Rm) (a : ℕ) → Tidy (one_operand c next op w rm a)
  tidy_one op w rm a =
      cond_both (op == 0) _ _ (λ p. Tidy p) (λ e. tidy_operated Not w rm a 0)
      (λ e. cond_both (op == 1) _ _ (λ p. Tidy p) (λ f. tidy_operated Neg w rm a 0)
      (λ f. cond_both (op == 2) _ _ (λ p. Tidy p)
      (λ g. tidy_quotient w (divided w (reg_value c w rdx) (reg_value c w rax) a))
      (λ g. tidy_quotient w (divided_signed w (reg_value c w rdx) (reg_value c w rax) a))))

  tidy_checked : (d : Bool) (v : ℕ) (b : Bounds) → Tidy (checked c next d v b)
  tidy_checked true v b = refl
  tidy_checked false v b = same i c _ h refl

pub tidy_row : (i : Instr) (next : ℕ) (c : Processor) → IsTidy c (BoundsAfter i c) (row i next c)
unfolding row
tidy_row (MovTo w r rm) next c = tidy_written (MovTo w r rm) c next refl w rm _ _ refl
tidy_row (MovFrom w r m) next c = λ v. same (MovFrom w r m) c _ refl refl
tidy_row (MovMemImm w m imm) next c = same (MovMemImm w m imm) c _ refl refl
tidy_row (MovImm w r imm) next c = same (MovImm w r imm) c _ refl refl
tidy_row (Movsxd r rm) next c = tidy_value (Movsxd r rm) c next refl 32 rm _ (λ v. same (Movsxd r rm) c _ refl refl)
tidy_row (Movsx w from r rm) next c = tidy_value (Movsx w from r rm) c next refl from rm _ (λ v. same (Movsx w from r rm) c _ refl refl)
tidy_row (Movzx from r rm) next c = tidy_value (Movzx from r rm) c next refl from rm _ (λ v. same (Movzx from r rm) c _ refl refl)
tidy_row (Lea r m) next c = same (Lea r m) c _ refl refl
tidy_row (AluTo op w r rm) next c = tidy_value (AluTo op w r rm) c next refl w rm _ (λ v. tidy_operated (AluTo op w r rm) c next refl (alu_operation op) w rm v _)
tidy_row (AluFrom op w r m) next c = λ v. tidy_operated (AluFrom op w r m) c next refl (alu_operation op) w (InReg r) _ _
tidy_row (AluImm op w rm imm) next c = tidy_value (AluImm op w rm imm) c next refl w rm _ (λ v. tidy_operated (AluImm op w rm imm) c next refl (alu_operation op) w rm v _)
tidy_row (TestRm w r rm) next c = tidy_value (TestRm w r rm) c next refl w rm _ (λ v. tidy_operated (TestRm w r rm) c next refl Test w rm v _)
tidy_row (ImulRm w r rm) next c = tidy_value (ImulRm w r rm) c next refl w rm _ (λ v. tidy_operated (ImulRm w r rm) c next refl Imul w (InReg r) _ v)
tidy_row (One op w rm) next c = tidy_value (One op w rm) c next refl w rm _ (λ v. tidy_one (One op w rm) c next refl op w rm v)
tidy_row (Wide w) next c = same (Wide w) c _ refl refl
tidy_row (ShiftCl op w rm) next c = tidy_value (ShiftCl op w rm) c next refl w rm _ (λ v. tidy_operated (ShiftCl op w rm) c next refl (shift_operation op) w rm v _)
tidy_row (ShiftImm op w rm imm) next c = tidy_value (ShiftImm op w rm imm) c next refl w rm _ (λ v. tidy_operated (ShiftImm op w rm imm) c next refl (shift_operation op) w rm v _)
tidy_row (Set op rm) next c = tidy_written (Set op rm) c next refl 8 rm _ _ refl
tidy_row (Push r) next c = same (Push r) c _ refl refl
tidy_row (Pop r) next c = λ v. same (Pop r) c _ refl refl
tidy_row (CallRel prefixed rel) next c = branch (CallRel prefixed rel) c _ (prefixed || c.preserve) refl refl
tidy_row (CallRm prefixed (InReg r)) next c = branch (CallRm prefixed (InReg r)) c _ (prefixed || c.preserve) refl refl
tidy_row (CallRm prefixed (InMem m)) next c = λ v. branch (CallRm prefixed (InMem m)) c _ (prefixed || c.preserve) refl refl
tidy_row (JmpRel prefixed rel) next c = branch (JmpRel prefixed rel) c _ (prefixed || c.preserve) refl refl
tidy_row (JmpRm prefixed (InReg r)) next c = branch (JmpRm prefixed (InReg r)) c _ (prefixed || c.preserve) refl refl
tidy_row (JmpRm prefixed (InMem m)) next c = λ v. branch (JmpRm prefixed (InMem m)) c _ (prefixed || c.preserve) refl refl
tidy_row (Jcc prefixed op rel) next c = branch (Jcc prefixed op rel) c _ (prefixed || c.preserve) refl refl
tidy_row (Ret prefixed) next c = λ v. branch (Ret prefixed) c _ (prefixed || c.preserve) refl refl
tidy_row Syscall next c = same Syscall c _ refl refl
tidy_row Ud2 next c = refl
tidy_row Nop next c = same Nop c _ refl refl
tidy_row (Bndmk b m) next c = sets (Bndmk b m) c next b _ refl (λ k. refl)
tidy_row (Bndcl b rm) next c = tidy_checked (Bndcl b rm) c next refl _ _ _
tidy_row (Bndcu b rm) next c = tidy_checked (Bndcu b rm) c next refl _ _ _
tidy_row (Bndcn b rm) next c = tidy_checked (Bndcn b rm) c next refl _ _ _
tidy_row (BndmovTo b m) next c = same (BndmovTo b m) c _ refl refl
tidy_row (BndmovFrom b (InReg r)) next c = sets (BndmovFrom b (InReg r)) c next b _ refl (λ k. refl)
tidy_row (BndmovFrom b (InMem m)) next c = λ v. sets (BndmovFrom b (InMem m)) c next b _ refl (λ k. refl)
tidy_row (Bndldx b m) next c = λ x. sets (Bndldx b m) c next b x refl (λ k. refl)
tidy_row (Bndstx b m) next c = same (Bndstx b m) c _ refl refl
