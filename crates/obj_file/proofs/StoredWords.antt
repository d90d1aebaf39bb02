-- Valid instructions leave words in registers and bounds registers, and keep no others.
use Rattle.std.proofs.Common.{◌≡◌, ℕ, ◌<◌, ◌^◌, Bool, true, false, cond, ◌==◌, ◌||◌, ◌&&◌, nat_eq, Option, Some, None, inl, inr, refl, sym, subst, arith}
use Rattle.std.proofs.lemmas.Bool.{and_parts, or_cases, cond_both}
use Rattle.std.proofs.lemmas.Bool.Decides.{nat_tests}
use Rattle.mx_base.specs.declared.limits.Bounds.{Bounds}
use Rattle.x86_forms.specs.declared.instr.Instr.{Instr}
use Rattle.x86_forms.specs.declared.instr.Reg.{Reg}
use Rattle.x86_forms.specs.declared.instr.Base.{Base}
use Rattle.x86_forms.specs.declared.instr.Base.TheVariants.{None as NoBase, Reg as BaseReg, Rip}
use Rattle.x86_forms.specs.declared.instr.Mem.{Mem}
use Rattle.x86_forms.specs.declared.instr.Rm.{Rm}
use Rattle.x86_forms.specs.declared.instr.Rm.TheVariants.{Reg as InReg, Mem as InMem}
use Rattle.x86_forms.specs.declared.instr.Instr.TheVariants.{MovTo, MovFrom, MovMemImm, MovImm, Movsxd, Movzx, Movsx, Lea, AluTo, AluFrom, AluImm, Test as TestRm, Imul as ImulRm, One, Wide, ShiftCl, ShiftImm, Set, Push, Pop, CallRel, JmpRel, CallRm, JmpRm, Jcc, Ret, Syscall, Ud2, Nop, Bndmk, Bndcl, Bndcu, Bndcn, BndmovTo, BndmovFrom, Bndldx, Bndstx}
use Rattle.x86_forms.specs.Arithmetic.{Operation, Not, Neg, Test, Imul, low, writes_result, result_of, divided, divided_signed}
use Rattle.x86_forms.specs.Processor.{Processor, rax, rdx, rsp, part_written, base_value, index_register, address, below_stack, above_stack}
use Rattle.x86_forms.specs.Requests.{Program, Ends, Fails, Reads, Writes, Loads, Keeps}
use Rattle.x86_forms.specs.Table.{row, value_then, written_to, operated, one_operand, quotient_kept, checked, bounds_then, reg_value, with_result, with_stack, with_bnd, with_flags_after, init_bounds, branched, from_stored, at_next}
use Rattle.x86_forms.specs.Validity.{valid_of, width_ok, word_ok}
use Rattle.obj_file.specs.StoreLaw.{AreWords, HoldsWords}

-- wherever a program ends, and whatever it keeps, these are words
abbrev pub KeepWords : Program → Type 0
KeepWords (Ends after) = HoldsWords after
KeepWords (Fails fault left) = HoldsWords left
KeepWords (Reads at size implicit next) = (v : ℕ) → KeepWords (next v)
KeepWords (Writes at size value implicit next) = KeepWords next
KeepWords (Loads at value next) = (b : Bounds) → AreWords b → KeepWords (next b)
KeepWords (Keeps at value b next) = (value < 2 ^ 64) × AreWords b × KeepWords next

-- ---- registers

either_width : (w k : ℕ) (rest : Bool) {P : Type 0} → (rest || nat_eq w k) ≡ true → (rest ≡ true → P) → (w ≡ k → P) → P
either_width w k rest {P} h first last = elim (or_cases rest (nat_eq w k) h) [ inl e ↦ first e | inr e ↦ last (grind (arith, nat_tests)) ]

pub each_width : (P : ℕ → Type 0) (w : ℕ) → width_ok w ≡ true → P 8 → P 16 → P 32 → P 64 → P w
each_width P w h a b c d =
    either_width w 64 (nat_eq w 8 || nat_eq w 16 || nat_eq w 32) h (λ h. either_width w 32 (nat_eq w 8 || nat_eq w 16) h (λ h. either_width w 16 (nat_eq w 8) h
    (λ h. let e : w ≡ 8 = grind (arith, nat_tests) in subst P (sym e) a) (λ e. subst P (sym e) b)) (λ e. subst P (sym e) c)) (λ e. subst P (sym e) d)

pub wide_width : (w : ℕ) → word_ok w ≡ true → width_ok w ≡ true
wide_width w h = grind (arith, nat_tests)

part_word : (w old v : ℕ) → width_ok w ≡ true → old < 2 ^ 64 → part_written w old v < 2 ^ 64
unfolding part_written
part_word w old v ok small = each_width (λ n. part_written n old v < 2 ^ 64) w ok (omega arith) (omega arith) (omega arith) (omega arith)

pub result_words : (c : Processor) (w r v : ℕ) → width_ok w ≡ true → HoldsWords c → HoldsWords (with_result c w r v)
result_words c w r v ok h = record {
  regs_fit = λ k. elim (nat_eq k r) as (λ t. cond t (part_written w (c.regs r) v) (c.regs k) < 2 ^ 64) [ true ↦ part_word w (c.regs r) v ok (h.regs_fit r) | false ↦ h.regs_fit k ];
  bounds_fit = h.bounds_fit;
}

stack_words : (c : Processor) (sp : ℕ) → sp < 2 ^ 64 → HoldsWords c → HoldsWords (with_stack c sp)
stack_words c sp small h = record {
  regs_fit = λ k. elim (nat_eq k rsp) as (λ t. cond t sp (c.regs k) < 2 ^ 64) [ true ↦ small | false ↦ h.regs_fit k ];
  bounds_fit = h.bounds_fit;
}

bnd_words : (c : Processor) (b : ℕ) (x : Bounds) → AreWords x → HoldsWords c → HoldsWords (with_bnd c b x)
bnd_words c b x words h = record {
  regs_fit = h.regs_fit;
  bounds_fit = λ k. elim (nat_eq k b) as (λ t. AreWords (cond t x (c.bounds k))) [ true ↦ words | false ↦ h.bounds_fit k ];
}

branched_words : (c : Processor) (prefixed : Bool) (target : ℕ) → HoldsWords c → HoldsWords (branched c prefixed target)
branched_words c prefixed target h = record {
  regs_fit = h.regs_fit;
  bounds_fit = λ k. elim (prefixed || c.preserve) as (λ t. AreWords ((cond t c.bounds init_bounds) k)) [ true ↦ h.bounds_fit k | false ↦ (omega arith, omega arith) ];
}

-- ---- operands

keep_value : (c : Processor) (next w : ℕ) (rm : Rm) (rest : ℕ → Program) → ((v : ℕ) → KeepWords (rest v)) → KeepWords (value_then c next w rm rest)
keep_value c next w (InReg r) rest h = h _
keep_value c next w (InMem m) rest h = λ v. h _

keep_written : (c : Processor) (next w : ℕ) (rm : Rm) (v : ℕ) (after : Processor) → width_ok w ≡ true → HoldsWords after → KeepWords (written_to c next w rm v after)
keep_written c next w (InReg r) v after ok h = result_words after w r.0 v ok h
keep_written c next w (InMem m) v after ok h = h

keep_operated : (c : Processor) (next : ℕ) (op : Operation) (w : ℕ) (rm : Rm) (a b : ℕ) → width_ok w ≡ true → HoldsWords c → KeepWords (operated c next op w rm a b)
keep_operated c next op w rm a b ok h = cond_both (writes_result op) _ _ KeepWords (λ e. keep_written c next w rm (result_of op w a b) (with_flags_after c next op w a b) ok h) (λ e. h)

keep_quotient : (c : Processor) (next w : ℕ) (q : Option (ℕ × ℕ)) → width_ok w ≡ true → HoldsWords c → KeepWords (quotient_kept c next w q)
keep_quotient c next w None ok h = h
keep_quotient c next w (Some q) ok h = result_words (with_result (at_next c next) w rax q.0) w rdx q.1 ok (result_words (at_next c next) w rax q.0 ok h)

keep_one : (c : Processor) (next op w : ℕ) (rm : Rm) (a : ℕ) → width_ok w ≡ true → HoldsWords c → KeepWords (one_operand c next op w rm a)
keep_one c next op w rm a ok h =
    cond_both (op == 0) _ _ KeepWords (λ e. keep_operated c next Not w rm a 0 ok h)
    (λ e. cond_both (op == 1) _ _ KeepWords (λ f. keep_operated c next Neg w rm a 0 ok h)
    (λ f. cond_both (op == 2) _ _ KeepWords
    (λ g. keep_quotient c next w (divided w (reg_value c w rdx) (reg_value c w rax) a) ok h)
    (λ g. keep_quotient c next w (divided_signed w (reg_value c w rdx) (reg_value c w rax) a) ok h)))

keep_checked : (c : Processor) (next : ℕ) (d : Bool) (v : ℕ) (b : Bounds) → HoldsWords c → KeepWords (checked c next d v b)
keep_checked c next true v b h = h
keep_checked c next false v b h = h

stored_words : (v : ℕ) → AreWords (from_stored v)
stored_words v = (omega arith, omega arith)

keep_bounds : (c : Processor) (next b : ℕ) (rm : Rm) → HoldsWords c → KeepWords (bounds_then c next rm (λ x. Ends (with_bnd (at_next c next) b x)))
keep_bounds c next b (InReg r) h = bnd_words (at_next c next) b (c.bounds r.0) (h.bounds_fit r.0) h
keep_bounds c next b (InMem m) h = λ v. bnd_words (at_next c next) b (from_stored v) (stored_words v) h

base_word : (regs : ℕ → ℕ) (next : ℕ) (base : Base) → ((k : ℕ) → regs k < 2 ^ 64) → next < 2 ^ 64 → base_value regs next base < 2 ^ 64
base_word regs next NoBase h small = omega arith
base_word regs next (BaseReg r) h small = h r.0
base_word regs next Rip h small = small

pub address_word : (regs : ℕ → ℕ) (next : ℕ) (m : Mem) → address regs next m < 2 ^ 64
unfolding address
address_word regs next m = omega arith

index_word : (regs : ℕ → ℕ) (index : Option (Reg × ℕ)) → ((k : ℕ) → regs k < 2 ^ 64) → index_register regs index < 2 ^ 64
index_word regs None h = omega arith
index_word regs (Some x) h = h x.0.0

-- ---- rows

pub first_of_three : (x y z : Bool) → (x && y && z) ≡ true → x ≡ true
first_of_three x y z h = (and_parts x y ((and_parts (x && y) z h).0)).0

pub second_of_three : (x y z : Bool) → (x && y && z) ≡ true → y ≡ true
second_of_three x y z h = (and_parts x y ((and_parts (x && y) z h).0)).1

pub row_words : (i : Instr) (next : ℕ) (c : Processor) → valid_of i ≡ true → next < 2 ^ 64 → HoldsWords c → KeepWords (row i next c)
unfolding row
row_words (MovTo w r rm) next c ok small h = keep_written c next w rm _ _ (first_of_three _ _ _ ok) h
row_words (MovFrom w r m) next c ok small h = λ v. result_words (at_next c next) w r.0 _ (first_of_three _ _ _ ok) h
row_words (MovMemImm w m imm) next c ok small h = h
row_words (MovImm w r imm) next c ok small h = result_words (at_next c next) w r.0 _ (wide_width w (first_of_three _ _ _ ok)) h
row_words (Movsxd r rm) next c ok small h = keep_value c next 32 rm _ (λ v. result_words (at_next c next) 64 r.0 _ refl h)
row_words (Movsx w from r rm) next c ok small h = keep_value c next from rm _ (λ v. result_words (at_next c next) w r.0 _ (wide_width w (first_of_three _ _ _ ((and_parts _ _ ok).0))) h)
row_words (Movzx from r rm) next c ok small h = keep_value c next from rm _ (λ v. result_words (at_next c next) 32 r.0 _ refl h)
row_words (Lea r m) next c ok small h = result_words (at_next c next) 64 r.0 _ refl h
row_words (AluTo op w r rm) next c ok small h = keep_value c next w rm _ (λ v. keep_operated c next _ w rm v _ (wide_width w (second_of_three _ _ _ ((and_parts _ _ ok).0))) h)
row_words (AluFrom op w r m) next c ok small h = λ v. keep_operated c next _ w (InReg r) _ _ (wide_width w (second_of_three _ _ _ ((and_parts _ _ ok).0))) h
row_words (AluImm op w rm imm) next c ok small h = keep_value c next w rm _ (λ v. keep_operated c next _ w rm v _ (wide_width w (second_of_three _ _ _ ((and_parts _ _ ok).0))) h)
row_words (TestRm w r rm) next c ok small h = keep_value c next w rm _ (λ v. keep_operated c next Test w rm v (reg_value c w r.0) (wide_width w (first_of_three _ _ _ ok)) h)
row_words (ImulRm w r rm) next c ok small h = keep_value c next w rm _ (λ v. keep_operated c next Imul w (InReg r) _ v (wide_width w (first_of_three _ _ _ ok)) h)
row_words (One op w rm) next c ok small h = keep_value c next w rm _ (λ v. keep_one c next op w rm v (wide_width w (second_of_three _ _ _ ok)) h)
row_words (Wide w) next c ok small h = result_words (at_next c next) w rdx _ (wide_width w ok) h
row_words (ShiftCl op w rm) next c ok small h = keep_value c next w rm _ (λ v. keep_operated c next _ w rm v _ (wide_width w (second_of_three _ _ _ ok)) h)
row_words (ShiftImm op w rm imm) next c ok small h = keep_value c next w rm _ (λ v. keep_operated c next _ w rm v _ (wide_width w (second_of_three _ _ _ ((and_parts _ _ ok).0))) h)
row_words (Set op rm) next c ok small h = keep_written c next 8 rm _ _ refl h
row_words (Push r) next c ok small h = stack_words (at_next c next) (below_stack (c.regs rsp)) (omega arith) h
row_words (Pop r) next c ok small h = λ v. result_words (with_stack (at_next c next) (above_stack (c.regs rsp))) 64 r.0 v refl (stack_words (at_next c next) (above_stack (c.regs rsp)) (omega arith) h)
row_words (CallRel prefixed rel) next c ok small h = stack_words (branched c prefixed next) (below_stack (c.regs rsp)) (omega arith) (branched_words c prefixed next h)
row_words (CallRm prefixed rm) next c ok small h = keep_value c next 64 rm _ (λ v. stack_words (branched c prefixed v) (below_stack (c.regs rsp)) (omega arith) (branched_words c prefixed v h))
row_words (JmpRel prefixed rel) next c ok small h = branched_words c prefixed next h
row_words (JmpRm prefixed rm) next c ok small h = keep_value c next 64 rm _ (λ v. branched_words c prefixed v h)
row_words (Jcc prefixed op rel) next c ok small h = branched_words c prefixed next h
row_words (Ret prefixed) next c ok small h = λ v. stack_words (branched c prefixed (low 64 v)) (above_stack (c.regs rsp)) (omega arith) (branched_words c prefixed (low 64 v) h)
row_words Syscall next c ok small h = result_words (with_result (at_next c next) 64 1 next) 64 11 0 refl (result_words (at_next c next) 64 1 next refl h)
row_words Ud2 next c ok small h = h
row_words Nop next c ok small h = h
row_words (Bndmk b m) next c ok small h = bnd_words (at_next c next) b _ (base_word c.regs next m.base h.regs_fit small, address_word c.regs next m) h
row_words (Bndcl b rm) next c ok small h = keep_checked c next _ _ _ h
row_words (Bndcu b rm) next c ok small h = keep_checked c next _ _ _ h
row_words (Bndcn b rm) next c ok small h = keep_checked c next _ _ _ h
row_words (BndmovTo b m) next c ok small h = h
row_words (BndmovFrom b rm) next c ok small h = keep_bounds c next b rm h
row_words (Bndldx b m) next c ok small h = λ x words. bnd_words (at_next c next) b x words h
row_words (Bndstx b m) next c ok small h = (index_word c.regs m.index h.regs_fit, h.bounds_fit b, h)
