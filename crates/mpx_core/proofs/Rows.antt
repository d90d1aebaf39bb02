-- The rows of the MPX instructions, as the code computes their parts.
use Rattle.std.proofs.Common.{◌≡◌, ℕ, ◌-◌, ◌^◌, ◌<◌, nat_lt, false, Result, refl, sym, ap, ◌∙◌, subst, arith}
use Rattle.mx_base.specs.declared.limits.Bounds.{Bounds}
use Rattle.mx_base.specs.Bounds.{complement}
use Rattle.paged_memory.specs.Paged.{Paged}
use Rattle.x86_forms.specs.declared.instr.Instr.{Instr}
use Rattle.x86_forms.specs.declared.instr.Instr.TheVariants as i
use Rattle.x86_forms.specs.declared.instr.Mem.{Mem}
use Rattle.x86_forms.specs.declared.instr.Rm.{Rm}
use Rattle.x86_forms.specs.declared.instr.Rm.TheVariants.{Reg as InReg, Mem as InMem}
use Rattle.x86_forms.specs.Processor.{Processor, address, base_value, pointer_address, index_register}
use Rattle.x86_forms.specs.Requests.{Program, Ends, Reads, Writes, Loads, Keeps}
use Rattle.x86_forms.specs.Table.{row, at_next, with_bnd, checked, checked_value, as_stored, from_stored}
use Rattle.mpx_core.specs.declared.registers.BndRegs.{BndRegs}
use Rattle.mpx_core.specs.declared.registers.BndStop.{BndStop}
use Rattle.mpx_core.specs.Registers.{held_bounds}
use Rattle.mpx_core.specs.Operands.{value_checked}
use Rattle.mpx_core.specs.Steps.{Beside, seen, Does, taken}
use Rattle.mpx_core.proofs.Views.{twice}

-- a step that does the row of an instruction does that of the instruction that it is
pub rowed : (s : Beside) (regs : ℕ → ℕ) (next : ℕ) (b b' : BndRegs) (m m' : Paged) (j k : Instr) (p : Program) (answer : Result (Unit {0}) BndStop) → j ≡ k → row k next (seen s regs b) ≡ p
    → Does s regs next b m p b' m' answer → Does s regs next b m (row j next (seen s regs b)) b' m' answer
rowed s regs next b b' m m' j k p answer is e h =
    subst (λ (q : Program). Does s regs next b m q b' m' answer) (sym (ap (λ (x : Instr). row x next (seen s regs b)) is ∙ e)) h

pub made : (lb ub base to : ℕ) → lb ≡ base → ub ≡ to → ub < 2 ^ 64 → ◌≡◌ {A = Bounds} record { lb = base; ub = to } (held_bounds lb (0xffff_ffff_ffff_ffff - ub))
made lb ub base to low high fits =
    let there : to ≡ complement (complement ub) = sym high ∙ sym (twice ub (omega (arith, fits))) in
    λ j. record { lb = sym low j; ub = there j }

pub row-Bndmk : (c : Processor) (next k : ℕ) (m : Mem) → row (i.Bndmk k m) next c ≡ Ends (with_bnd (at_next c next) k (record { lb = base_value c.regs next m.base; ub = address c.regs next m }))
unfolding row
row-Bndmk c next k m = refl

pub value_of : (s : Beside) (regs : ℕ → ℕ) (next : ℕ) (b : BndRegs) (rm : Rm) → value_checked regs next rm ≡ checked_value (seen s regs b) next rm
value_of s regs next b (InReg r) = refl
value_of s regs next b (InMem m) = refl

pub row-Bndcl : (c : Processor) (next k v : ℕ) (rm : Rm) → v ≡ checked_value c next rm → row (i.Bndcl k rm) next c ≡ checked c next (nat_lt v (c.bounds k).lb) v (c.bounds k)
unfolding row
row-Bndcl c next k v rm e = ap (λ w. checked c next (nat_lt w (c.bounds k).lb) w (c.bounds k)) (sym e)

pub row-Bndcu : (c : Processor) (next k v : ℕ) (rm : Rm) → v ≡ checked_value c next rm → row (i.Bndcu k rm) next c ≡ checked c next (nat_lt (c.bounds k).ub v) v (c.bounds k)
unfolding row
row-Bndcu c next k v rm e = ap (λ w. checked c next (nat_lt (c.bounds k).ub w) w (c.bounds k)) (sym e)

pub row-Bndcn : (c : Processor) (next k v held : ℕ) (rm : Rm) → v ≡ checked_value c next rm → held ≡ complement (c.bounds k).ub → row (i.Bndcn k rm) next c ≡ checked c next (nat_lt held v) v (c.bounds k)
unfolding row
row-Bndcn c next k v held rm e is = λ j. checked c next (nat_lt (sym is j) (sym e j)) (sym e j) (c.bounds k)

pub row-BndmovTo : (c : Processor) (next k at : ℕ) (m : Mem) → at ≡ address c.regs next m → row (i.BndmovTo k m) next c ≡ Writes at 16 (as_stored (c.bounds k)) false (Ends (at_next c next))
unfolding row
row-BndmovTo c next k at m e = ap (λ a. Writes a 16 (as_stored (c.bounds k)) false (Ends (at_next c next))) (sym e)

pub row-BndmovFrom : (c : Processor) (next k : ℕ) (rm : Rm) → row (i.BndmovFrom k rm) next c ≡ taken c next k rm
unfolding row
row-BndmovFrom c next k rm = refl

-- a step that takes bounds from an operand takes them from the operand that it is
pub taken_from : (s : Beside) (regs : ℕ → ℕ) (next : ℕ) (b b' : BndRegs) (m m' : Paged) (k : ℕ) (rm j : Rm) (p : Program) (answer : Result (Unit {0}) BndStop) → rm ≡ j → taken (seen s regs b) next k j ≡ p
    → Does s regs next b m p b' m' answer → Does s regs next b m (taken (seen s regs b) next k rm) b' m' answer
taken_from s regs next b b' m m' k rm j p answer is e h = subst (λ (q : Program). Does s regs next b m q b' m' answer) (sym (ap (taken (seen s regs b) next k) is ∙ e)) h

pub taken-Mem : (c : Processor) (next k at : ℕ) (m : Mem) → at ≡ address c.regs next m → taken c next k (InMem m) ≡ Reads at 16 false (λ v. Ends (with_bnd (at_next c next) k (from_stored v)))
taken-Mem c next k at m e = ap (λ a. Reads a 16 false (λ v. Ends (with_bnd (at_next c next) k (from_stored v)))) (sym e)

pub row-Bndldx : (c : Processor) (next k la value : ℕ) (m : Mem) → la ≡ pointer_address c.regs next m → value ≡ index_register c.regs m.index → row (i.Bndldx k m) next c ≡ Loads la value (λ x. Ends (with_bnd (at_next c next) k x))
unfolding row
row-Bndldx c next k la value m e f = λ j. Loads (sym e j) (sym f j) (λ x. Ends (with_bnd (at_next c next) k x))

pub row-Bndstx : (c : Processor) (next k la value : ℕ) (m : Mem) → la ≡ pointer_address c.regs next m → value ≡ index_register c.regs m.index → row (i.Bndstx k m) next c ≡ Keeps la value (c.bounds k) (Ends (at_next c next))
unfolding row
row-Bndstx c next k la value m e f = λ j. Keeps (sym e j) (sym f j) (c.bounds k) (Ends (at_next c next))
