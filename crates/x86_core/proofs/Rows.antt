-- The rows of the instruction table, as the code computes their parts.
use Rattle.std.proofs.Common.{◌≡◌, ℕ, Bool, true, false, refl, sym, ap, ◌∙◌, ℤ, ◌-◌, ◌^◌}
use Rattle.std.specs.Prelude.{if◌then◌else◌}
use Rattle.std.specs.Int.{from_bool}
use Rattle.std.proofs.lemmas.Bool.{ne_eqb}
use Rattle.x86_forms.specs.declared.instr.Instr.TheVariants as i
use Rattle.x86_forms.specs.declared.instr.Reg.{Reg}
use Rattle.x86_forms.specs.declared.instr.Mem.{Mem}
use Rattle.x86_forms.specs.declared.instr.Rm.{Rm}
use Rattle.x86_forms.specs.declared.instr.Rm.TheVariants.{Reg as InReg, Mem as InMem}
use Rattle.x86_forms.specs.Arithmetic.{Operation, Test, Imul, low, signed, bits_of, is_negative, divided_signed, holds}
use Rattle.x86_forms.specs.Processor.{Processor, rax, rcx, rdx, rsp, r11, address, above_stack, branch_target}
use Rattle.x86_forms.specs.Requests.{Ends, Fails, Reads, Undefines}
use Rattle.x86_forms.specs.Table.{row, at_next, with_flags, with_result, with_stack, branched, reg_value, imm_value, value_then, written_to, pushed, operated, one_operand, quotient_kept, alu_operation, shift_operation}
use Rattle.x86_core.specs.declared.cpu.Done.{Done}
use Rattle.x86_core.specs.declared.cpu.Done.TheVariants.{Next, Branch}
use Rattle.x86_core.specs.Steps.{moved}

pub row-MovTo : (c : Processor) (next w v : ℕ) (r : Reg) (rm : Rm) → v ≡ reg_value c w r.0 → row (i.MovTo w r rm) next c ≡ written_to c next w rm v (with_flags (at_next c next) c.flags)
unfolding row
row-MovTo c next w v r rm e = ap (λ v. written_to c next w rm v (at_next c next)) (sym e)

pub row-MovFrom : (c : Processor) (next w : ℕ) (r : Reg) (m : Mem) → row (i.MovFrom w r m) next c ≡ value_then c next w (InMem m) (λ v. Ends (with_result (at_next c next) w r.0 v))
unfolding row
row-MovFrom c next w r m = refl

pub row-MovMemImm : (c : Processor) (next w v : ℕ) (m : Mem) (imm : ℤ) → v ≡ imm_value w imm → row (i.MovMemImm w m imm) next c ≡ written_to c next w (InMem m) v (with_flags (at_next c next) c.flags)
unfolding row
row-MovMemImm c next w v m imm e = ap (λ v. written_to c next w (InMem m) v (at_next c next)) (sym e)

pub row-MovImm : (c : Processor) (next w v : ℕ) (r : Reg) (imm : ℤ) → v ≡ imm_value w imm → row (i.MovImm w r imm) next c ≡ written_to c next w (InReg r) v (with_flags (at_next c next) c.flags)
unfolding row
row-MovImm c next w v r imm e = ap (λ v. written_to c next w (InReg r) v (at_next c next)) (sym e)

pub row-Movsxd : (c : Processor) (next : ℕ) (r : Reg) (rm : Rm) → row (i.Movsxd r rm) next c ≡ value_then c next 32 rm (λ v. Ends (with_result (at_next c next) 64 r.0 (bits_of 64 (signed 32 v))))
unfolding row
row-Movsxd c next r rm = refl

pub row-Movsx : (c : Processor) (next w from : ℕ) (r : Reg) (rm : Rm) → row (i.Movsx w from r rm) next c ≡ value_then c next from rm (λ v. Ends (with_result (at_next c next) w r.0 (bits_of w (signed from v))))
unfolding row
row-Movsx c next w from r rm = refl

pub row-Movzx : (c : Processor) (next from : ℕ) (r : Reg) (rm : Rm) → row (i.Movzx from r rm) next c ≡ value_then c next from rm (λ v. Ends (with_result (at_next c next) 32 r.0 v))
unfolding row
row-Movzx c next from r rm = refl

pub row-Lea : (c : Processor) (next v : ℕ) (r : Reg) (m : Mem) → v ≡ address c.regs next m → row (i.Lea r m) next c ≡ written_to c next 64 (InReg r) v (with_flags (at_next c next) c.flags)
unfolding row
row-Lea c next v r m e = ap (λ v. written_to c next 64 (InReg r) v (at_next c next)) (sym e)

pub row-AluTo : (c : Processor) (next op w b : ℕ) (o : Operation) (r : Reg) (rm : Rm) → o ≡ alu_operation op → b ≡ reg_value c w r.0 → row (i.AluTo op w r rm) next c ≡ value_then c next w rm (λ a. operated c next o w rm a b)
unfolding row
row-AluTo c next op w b o r rm eo eb = λ k. value_then c next w rm (λ a. operated c next (sym eo k) w rm a (sym eb k))

pub row-AluFrom : (c : Processor) (next op w : ℕ) (o : Operation) (r : Reg) (m : Mem) → o ≡ alu_operation op → row (i.AluFrom op w r m) next c ≡ value_then c next w (InMem m) (λ b. operated c next o w (InReg r) (reg_value c w r.0) b)
unfolding row
row-AluFrom c next op w o r m eo = λ k. value_then c next w (InMem m) (λ b. operated c next (sym eo k) w (InReg r) (reg_value c w r.0) b)

pub row-AluImm : (c : Processor) (next op w b : ℕ) (o : Operation) (rm : Rm) (imm : ℤ) → o ≡ alu_operation op → b ≡ imm_value w imm → row (i.AluImm op w rm imm) next c ≡ value_then c next w rm (λ a. operated c next o w rm a b)
unfolding row
row-AluImm c next op w b o rm imm eo eb = λ k. value_then c next w rm (λ a. operated c next (sym eo k) w rm a (sym eb k))

pub row-Test : (c : Processor) (next w b : ℕ) (r : Reg) (rm : Rm) → b ≡ reg_value c w r.0 → row (i.Test w r rm) next c ≡ value_then c next w rm (λ a. operated c next Test w rm a b)
unfolding row
row-Test c next w b r rm eb = λ k. value_then c next w rm (λ a. operated c next Test w rm a (sym eb k))

pub row-Imul : (c : Processor) (next w : ℕ) (r : Reg) (rm : Rm) → row (i.Imul w r rm) next c ≡ value_then c next w rm (λ b. operated c next Imul w (InReg r) (reg_value c w r.0) b)
unfolding row
row-Imul c next w r rm = refl

pub row-One : (c : Processor) (next op w : ℕ) (rm : Rm) → row (i.One op w rm) next c ≡ value_then c next w rm (one_operand c next op w rm)
unfolding row
row-One c next op w rm = refl

pub signed_division : (c : Processor) (next op w : ℕ) (rm : Rm) (a : ℕ) → (op ≡ 0 → ⊥) → (op ≡ 1 → ⊥) → (op ≡ 2 → ⊥) → one_operand c next op w rm a ≡ quotient_kept c next w (divided_signed w (reg_value c w rdx) (reg_value c w rax) a)
signed_division c next op w rm a n0 n1 n2 = simp (ne_eqb op 0 n0, ne_eqb op 1 n1, ne_eqb op 2 n2) refl

pub bit-chosen : (b : Bool) → from_bool b ≡ (if b then 1 else 0)
bit-chosen true = refl
bit-chosen false = refl

pub row-Wide : (c : Processor) (next w : ℕ) (after : Processor) → after ≡ with_result (at_next c next) w rdx (if is_negative w (reg_value c w rax) then 2 ^ w - 1 else 0) → row (i.Wide w) next c ≡ Ends after
unfolding row
row-Wide c next w after e = ap Ends (sym e)

pub row-ShiftCl : (c : Processor) (next op w b : ℕ) (o : Operation) (rm : Rm) → o ≡ shift_operation op → b ≡ reg_value c 8 rcx → row (i.ShiftCl op w rm) next c ≡ value_then c next w rm (λ a. operated c next o w rm a b)
unfolding row
row-ShiftCl c next op w b o rm eo eb = λ k. value_then c next w rm (λ a. operated c next (sym eo k) w rm a (sym eb k))

pub row-ShiftImm : (c : Processor) (next op w b : ℕ) (o : Operation) (rm : Rm) (imm : ℤ) → o ≡ shift_operation op → b ≡ imm_value 8 imm → row (i.ShiftImm op w rm imm) next c ≡ value_then c next w rm (λ a. operated c next o w rm a b)
unfolding row
row-ShiftImm c next op w b o rm imm eo eb = λ k. value_then c next w rm (λ a. operated c next (sym eo k) w rm a (sym eb k))

pub row-Set : (c : Processor) (next op v : ℕ) (rm : Rm) → v ≡ (if holds op c.flags then 1 else 0) → row (i.Set op rm) next c ≡ written_to c next 8 rm v (with_flags (at_next c next) c.flags)
unfolding row
row-Set c next op v rm e = ap (λ v. written_to c next 8 rm v (at_next c next)) (sym e)

pub row-Push : (c : Processor) (next : ℕ) (r : Reg) → row (i.Push r) next c ≡ pushed c (c.regs r.0) (at_next c next)
unfolding row
row-Push c next r = refl

pub row-Pop : (c : Processor) (next : ℕ) (r : Reg) → row (i.Pop r) next c ≡ Reads (c.regs rsp) 8 true (λ v. Ends (with_result (with_stack (at_next c next) (above_stack (c.regs rsp))) 64 r.0 v))
unfolding row
row-Pop c next r = refl

pub row-CallRel : (c : Processor) (next to : ℕ) (prefixed : Bool) (rel : ℤ) (done : Done) → done ≡ Branch true false true prefixed → to ≡ branch_target next rel → row (i.CallRel prefixed rel) next c ≡ pushed c next (moved done c to)
unfolding row
row-CallRel c next to prefixed rel done ed et = λ k. pushed c next (moved (sym ed k) c (sym et k))

pub row-CallRm : (c : Processor) (next : ℕ) (prefixed : Bool) (rm : Rm) (done : Done) → done ≡ Branch true false true prefixed → row (i.CallRm prefixed rm) next c ≡ value_then c next 64 rm (λ target. pushed c next (moved done c target))
unfolding row
row-CallRm c next prefixed rm done ed = λ k. value_then c next 64 rm (λ target. pushed c next (moved (sym ed k) c target))

pub row-JmpRel : (c : Processor) (next to : ℕ) (prefixed : Bool) (rel : ℤ) (done : Done) → done ≡ Branch false false true prefixed → to ≡ branch_target next rel → row (i.JmpRel prefixed rel) next c ≡ Ends (moved done c to)
unfolding row
row-JmpRel c next to prefixed rel done ed et = λ k. Ends (moved (sym ed k) c (sym et k))

pub row-JmpRm : (c : Processor) (next : ℕ) (prefixed : Bool) (rm : Rm) (done : Done) → done ≡ Branch false false true prefixed → row (i.JmpRm prefixed rm) next c ≡ value_then c next 64 rm (λ target. Ends (moved done c target))
unfolding row
row-JmpRm c next prefixed rm done ed = λ k. value_then c next 64 rm (λ target. Ends (moved (sym ed k) c target))

pub row-Jcc : (c : Processor) (next op to target : ℕ) (prefixed taken : Bool) (rel : ℤ) (done : Done) → done ≡ Branch false false taken prefixed → taken ≡ holds op c.flags → target ≡ branch_target next rel → to ≡ (if taken then target else next) → row (i.Jcc prefixed op rel) next c ≡ Ends (moved done c to)
unfolding row
row-Jcc c next op to target prefixed taken rel done ed eh et e =
    let chosen : (if holds op c.flags then branch_target next rel else next) ≡ to = (λ k. if sym eh k then sym et k else next) ∙ sym e in
    ap (λ to. Ends (branched c prefixed to)) chosen ∙ (λ k. Ends (moved (sym ed k) c to))

pub row-Ret : (c : Processor) (next : ℕ) (prefixed : Bool) (done : Done) → done ≡ Branch false true true prefixed → row (i.Ret prefixed) next c ≡ Reads (c.regs rsp) 8 true (λ target. Ends (with_stack (moved done c (low 64 target)) (above_stack (c.regs rsp))))
unfolding row
row-Ret c next prefixed done ed = λ k. Reads (c.regs rsp) 8 true (λ target. Ends (with_stack (moved (sym ed k) c (low 64 target)) (above_stack (c.regs rsp))))

pub row-Syscall : (c : Processor) (next : ℕ) (after : Processor) → after ≡ with_result (with_result (at_next c next) 64 rcx next) 64 r11 0 → row i.Syscall next c ≡ Ends after
unfolding row
row-Syscall c next after e = ap Ends (sym e)

pub row-Ud2 : (c : Processor) (next : ℕ) → row i.Ud2 next c ≡ Fails Undefines c
unfolding row
row-Ud2 c next = refl

pub row-Nop : (c : Processor) (next : ℕ) → row i.Nop next c ≡ Ends (moved Next c next)
unfolding row
row-Nop c next = refl
