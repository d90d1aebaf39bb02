-- The requests that a row makes to memory are the accesses of its instruction.
use Rattle.std.proofs.Common.{◌≡◌, ℕ, ◌==◌, Bool, true, false, nat_lt, refl, arith, List, [], ◌++◌, subst}
use Rattle.std.specs.Prelude.{Option, Some, None, if◌then◌else◌}
use Rattle.std.proofs.lemmas.Bool.{cond_both}
use Rattle.std.proofs.lemmas.Grind.{common_steps}
use Rattle.mx_base.specs.declared.limits.Bounds.{Bounds}
use Rattle.x86_forms.specs.declared.instr.Instr.{Instr}
use Rattle.x86_forms.specs.declared.instr.Rm.{Rm}
use Rattle.x86_forms.specs.declared.instr.Rm.TheVariants.{Reg as InReg, Mem as InMem}
use Rattle.x86_forms.specs.declared.instr.Instr.TheVariants.{MovTo, MovFrom, MovMemImm, MovImm, Movsxd, Movzx, Movsx, Lea, AluTo, AluFrom, AluImm, Test as TestRm, Imul as ImulRm, One, Wide, ShiftCl, ShiftImm, Set, Push, Pop, CallRel, JmpRel, CallRm, JmpRm, Jcc, Ret, Syscall, Ud2, Nop, Bndmk, Bndcl, Bndcu, Bndcn, BndmovTo, BndmovFrom, Bndldx, Bndstx}
use Rattle.x86_forms.specs.declared.spans.Span.{Span}
use Rattle.x86_forms.specs.Arithmetic.{Operation, Not, Neg, writes_result, result_of, divided, divided_signed}
use Rattle.x86_forms.specs.Processor.{Processor, rax, rdx}
use Rattle.x86_forms.specs.Requests.{Program}
use Rattle.x86_forms.specs.Accesses.{accesses, operand_reads, operand_writes}
use Rattle.x86_forms.specs.Table.{row, value_then, written_to, operated, one_operand, quotient_kept, checked, bounds_then, alu_operation, shift_operation, reg_value, with_flags_after}
use Rattle.x86_forms.specs.TableLaws.{AsksFor}

alu_writes : (op : ℕ) → writes_result (alu_operation op) ≡ nat_lt op 5
alu_writes op = grind (arith, common_steps)

shift_writes : (op : ℕ) → writes_result (shift_operation op) ≡ true
shift_writes op = grind (arith, common_steps)

asks_value : (c : Processor) (next w : ℕ) (rm : Rm) (rest : ℕ → Program) (ss : List Span) → ((v : ℕ) → AsksFor (rest v) ss) → AsksFor (value_then c next w rm rest) (operand_reads c.regs next w rm ++ ss)
asks_value c next w (InReg r) rest ss h = h _
asks_value c next w (InMem m) rest ss h = (refl, λ v. h _)

asks_read : (c : Processor) (next w : ℕ) (rm : Rm) (rest : ℕ → Program) → ((v : ℕ) → AsksFor (rest v) []) → AsksFor (value_then c next w rm rest) (operand_reads c.regs next w rm)
asks_read c next w (InReg r) rest h = h _
asks_read c next w (InMem m) rest h = (refl, λ v. h _)

asks_bounds : (c : Processor) (next : ℕ) (rm : Rm) (rest : Bounds → Program) → ((b : Bounds) → AsksFor (rest b) []) → AsksFor (bounds_then c next rm rest) (operand_reads c.regs next 128 rm)
asks_bounds c next (InReg r) rest h = h _
asks_bounds c next (InMem m) rest h = (refl, λ v. h _)

asks_written : (c : Processor) (next w : ℕ) (rm : Rm) (v : ℕ) (after : Processor) → AsksFor (written_to c next w rm v after) (operand_writes c.regs next w rm)
asks_written c next w (InReg r) v after = tt
asks_written c next w (InMem m) v after = (refl, tt)

asks_if : (d : Bool) (p q : Program) (ss : List Span) → AsksFor p ss → AsksFor q [] → AsksFor (if d then p else q) (if d then ss else [])
asks_if true p q ss h k = h
asks_if false p q ss h k = k

asks_operated : (c : Processor) (next : ℕ) (op : Operation) (w : ℕ) (rm : Rm) (a b : ℕ) → AsksFor (operated c next op w rm a b) (if writes_result op then operand_writes c.regs next w rm else [])
asks_operated c next op w rm a b = asks_if (writes_result op) _ _ _ (asks_written c next w rm (result_of op w a b) (with_flags_after c next op w a b)) tt

asks_alu : (c : Processor) (next op w : ℕ) (rm : Rm) (a b : ℕ) → AsksFor (operated c next (alu_operation op) w rm a b) (if nat_lt op 5 then operand_writes c.regs next w rm else [])
asks_alu c next op w rm a b = subst (λ (d : Bool). AsksFor (operated c next (alu_operation op) w rm a b) (if d then operand_writes c.regs next w rm else [])) (alu_writes op) (asks_operated c next (alu_operation op) w rm a b)

asks_shift : (c : Processor) (next op w : ℕ) (rm : Rm) (a b : ℕ) → AsksFor (operated c next (shift_operation op) w rm a b) (operand_writes c.regs next w rm)
asks_shift c next op w rm a b = subst (λ (d : Bool). AsksFor (operated c next (shift_operation op) w rm a b) (if d then operand_writes c.regs next w rm else [])) (shift_writes op) (asks_operated c next (shift_operation op) w rm a b)

-- to a register it asks for nothing
asks_alu_reg : (c : Processor) (next op w : ℕ) (rm : Rm) (a b : ℕ) → operand_writes c.regs next w rm ≡ [] → AsksFor (operated c next (alu_operation op) w rm a b) []
asks_alu_reg c next op w rm a b e = cond_both (writes_result (alu_operation op)) _ _ (λ p. AsksFor p []) (λ h. subst (λ (ss : List Span). AsksFor (written_to c next w rm (result_of (alu_operation op) w a b) (with_flags_after c next (alu_operation op) w a b)) ss) e (asks_written c next w rm (result_of (alu_operation op) w a b) (with_flags_after c next (alu_operation op) w a b))) (λ h. tt)

asks_quotient : (c : Processor) (next w : ℕ) (q : Option (ℕ × ℕ)) → AsksFor (quotient_kept c next w q) []
asks_quotient c next w None = tt
asks_quotient c next w (Some q) = tt

asks_one : (c : Processor) (next op w : ℕ) (rm : Rm) (a : ℕ) → AsksFor (one_operand c next op w rm a) (if nat_lt op 2 then operand_writes c.regs next w rm else [])
asks_one c next op w rm a =
    cond_both (op == 0) _ _ (λ p. AsksFor p (if nat_lt op 2 then operand_writes c.regs next w rm else []))
    (λ e. let k : nat_lt op 2 ≡ true = grind (arith, common_steps, e) in rw k (asks_operated c next Not w rm a 0))
    (λ e. cond_both (op == 1) _ _ (λ p. AsksFor p (if nat_lt op 2 then operand_writes c.regs next w rm else []))
    (λ f. let k : nat_lt op 2 ≡ true = grind (arith, common_steps, f) in rw k (asks_operated c next Neg w rm a 0))
    (λ f. let k : nat_lt op 2 ≡ false = grind (arith, common_steps, e, f) in rw k
    (cond_both (op == 2) _ _ (λ p. AsksFor p [])
    (λ g. asks_quotient c next w (divided w (reg_value c w rdx) (reg_value c w rax) a))
    (λ g. asks_quotient c next w (divided_signed w (reg_value c w rdx) (reg_value c w rax) a)))))

asks_checked : (c : Processor) (next : ℕ) (d : Bool) (v : ℕ) (b : Bounds) → AsksFor (checked c next d v b) []
asks_checked c next true v b = tt
asks_checked c next false v b = tt

pub asks_row : (i : Instr) (next : ℕ) (c : Processor) → AsksFor (row i next c) (accesses i next c.regs)
unfolding row
asks_row (MovTo w r rm) next c = asks_written c next w rm _ _
asks_row (MovFrom w r m) next c = (refl, λ v. tt)
asks_row (MovMemImm w m imm) next c = (refl, tt)
asks_row (MovImm w r imm) next c = tt
asks_row (Movsxd r rm) next c = asks_read c next 32 rm _ (λ v. tt)
asks_row (Movsx w from r rm) next c = asks_read c next from rm _ (λ v. tt)
asks_row (Movzx from r rm) next c = asks_read c next from rm _ (λ v. tt)
asks_row (Lea r m) next c = tt
asks_row (AluTo op w r rm) next c = asks_value c next w rm _ _ (λ v. asks_alu c next op w rm v (reg_value c w r.0))
asks_row (AluFrom op w r m) next c = (refl, λ v. asks_alu_reg c next op w (InReg r) _ _ refl)
asks_row (AluImm op w rm imm) next c = asks_value c next w rm _ _ (λ v. asks_alu c next op w rm v _)
asks_row (TestRm w r rm) next c = asks_read c next w rm _ (λ v. tt)
asks_row (ImulRm w r rm) next c = asks_read c next w rm _ (λ v. tt)
asks_row (One op w rm) next c = asks_value c next w rm _ _ (λ v. asks_one c next op w rm v)
asks_row (Wide w) next c = tt
asks_row (ShiftCl op w rm) next c = asks_value c next w rm _ _ (λ v. asks_shift c next op w rm v _)
asks_row (ShiftImm op w rm imm) next c = asks_value c next w rm _ _ (λ v. asks_shift c next op w rm v _)
asks_row (Set op rm) next c = asks_written c next 8 rm _ _
asks_row (Push r) next c = (refl, tt)
asks_row (Pop r) next c = (refl, λ v. tt)
asks_row (CallRel prefixed rel) next c = (refl, tt)
asks_row (CallRm prefixed rm) next c = asks_value c next 64 rm _ _ (λ v. (refl, tt))
asks_row (JmpRel prefixed rel) next c = tt
asks_row (JmpRm prefixed rm) next c = asks_read c next 64 rm _ (λ v. tt)
asks_row (Jcc prefixed op rel) next c = tt
asks_row (Ret prefixed) next c = (refl, λ v. tt)
asks_row Syscall next c = tt
asks_row Ud2 next c = tt
asks_row Nop next c = tt
asks_row (Bndmk b m) next c = tt
asks_row (Bndcl b rm) next c = asks_checked c next _ _ _
asks_row (Bndcu b rm) next c = asks_checked c next _ _ _
asks_row (Bndcn b rm) next c = asks_checked c next _ _ _
asks_row (BndmovTo b m) next c = (refl, tt)
asks_row (BndmovFrom b rm) next c = asks_bounds c next rm _ (λ b. tt)
asks_row (Bndldx b m) next c = λ b. tt
asks_row (Bndstx b m) next c = tt
