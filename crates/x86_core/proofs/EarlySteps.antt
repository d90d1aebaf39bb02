-- What each form of the first path does to a state, in few words.
use Rattle.std.proofs.Common.{◌≡◌, ℕ, ◌-◌, ◌%◌, ◌^◌, ◌<◌, true, refl, sym, ap, ◌∙◌, subst, arith}
use Rattle.std.specs.Prelude.{ℤ, slice_index, slice_set}
use Rattle.std.specs.Int.{w64, cast_unsigned}
use Rattle.x86_forms.specs.declared.instr.Instr.TheVariants.{MovMemImm, Movzx, Bndmk, Syscall}
use Rattle.x86_forms.specs.declared.instr.Mem.{Mem}
use Rattle.x86_forms.specs.declared.instr.Reg.{Reg}
use Rattle.x86_forms.specs.declared.instr.Rm.TheVariants.{Mem as InMem}
use Rattle.x86_forms.specs.EarlyEffects.{EarlyState, EarlyEffect, Goes, Sends, memory_start, is_mapped, row_effect, served, effect}
use Rattle.x86_forms.specs.Processor.{rax, with_reg, with_bounds, part_written, base_value, address}
use Rattle.x86_forms.specs.Requests.{run}
use Rattle.x86_forms.specs.Table.{row}
use Rattle.x86_core.specs.declared.early.machine.Step.{Step}
use Rattle.x86_core.specs.declared.early.machine.Step.TheVariants.{On}
use Rattle.x86_core.specs.EarlyMachine.{Does}

abbrev pub with_rip : EarlyState → ℕ → EarlyState
with_rip s next = record s { processor = record s.processor { rip = next } }

abbrev pub set_number : EarlyState → ℕ → ℕ → EarlyState
set_number s r n = record s { processor = record s.processor { regs = with_reg s.processor.regs r n } }

abbrev pub set_array : EarlyState → ℕ → ℕ → EarlyState
set_array s k v = record s { array = slice_set s.array k v }

-- a step that went on to the next instruction
pub went : (e : EarlyEffect) (r : Step) (now t : EarlyState) → e ≡ Goes t → r ≡ On → now ≡ t → Does e r now
went e r now t h k l = subst (λ (x : Step). Does e x now) (sym k) (h ∙ ap Goes (sym l))

pub store_goes : (m : Mem) (imm : ℤ) (next : ℕ) (s : EarlyState) (at k v : ℕ) → at ≡ address s.processor.regs next m → is_mapped at s.array ≡ true → k ≡ at - memory_start → v ≡ cast_unsigned w64 imm % 0x100
    → effect (MovMemImm 8 m imm) next s ≡ Goes (with_rip (set_array s k v) next)
unfolding effect row_effect row run
store_goes m imm next s at k v where_at mapped place value =
    let there : address s.processor.regs next m ≡ at = sym where_at in
    let low : cast_unsigned w64 imm % 2 ^ 8 % 2 ^ 8 ≡ v = omega (arith, value) in
    let spot : at - memory_start ≡ k = sym place in
    rw (there, mapped, low, spot) refl

pub load_goes : (r : Reg) (m : Mem) (next : ℕ) (s : EarlyState) (at k v : ℕ) → at ≡ address s.processor.regs next m → is_mapped at s.array ≡ true → k ≡ at - memory_start → v ≡ slice_index s.array k → v < 256
    → effect (Movzx 8 r (InMem m)) next s ≡ Goes (with_rip (set_number s r.0 v) next)
unfolding effect row_effect row run part_written
load_goes r m next s at k v where_at mapped place value byte =
    let there : address s.processor.regs next m ≡ at = sym where_at in
    let spot : at - memory_start ≡ k = sym place in
    let is : slice_index s.array k ≡ v = sym value in
    let low : v % 2 ^ 8 % 2 ^ 32 ≡ v = omega arith in
    rw (there, mapped, spot, is, low) refl

pub bounds_goes : (b : ℕ) (m : Mem) (next : ℕ) (s : EarlyState) (lb ub : ℕ) → lb ≡ base_value s.processor.regs next m.base → ub ≡ address s.processor.regs next m
    → effect (Bndmk b m) next s ≡ Goes (with_rip (record s { processor = record s.processor { bounds = with_bounds s.processor.bounds b (record { lb = lb; ub = ub }) } }) next)
unfolding effect row_effect row run
bounds_goes b m next s lb ub low high = rw (low, high) refl

pub put_sends : (next : ℕ) (s : EarlyState) → s.processor.regs rax ≡ 0x1003 → next < 2 ^ 64
    → effect Syscall next s ≡ Sends (s.processor.regs 7 % 0x100) (with_rip (set_number (set_number (set_number s 1 next) 11 0) rax 0) next)
unfolding effect row_effect row run served part_written
put_sends next s number fits = let low : next % 2 ^ 64 ≡ next = omega arith in rw (number, low) refl
