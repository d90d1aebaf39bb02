-- Arguments in their registers, and what a call comes to.
use Rattle.step_code.specs.Homes.{IsSlot}
use Rattle.std.proofs.Common.{◌≡◌, ℕ, zero, suc, ◌<◌, true, false, cond, nat_eq, refl, arith, ap, ◌∙◌}
use Rattle.std.proofs.lemmas.Bool.Decides.{nat_tests}
use Rattle.mx_base.specs.declared.limits.Bounds.{Bounds as BoundsPair}
use Rattle.fat_ir.specs.Values.{Held, Nothing, Number, Pair}
use Rattle.step_code.specs.declared.homes.Home.{Home}
use Rattle.step_code.specs.declared.homes.Home.TheVariants.{Reg, Slot, Bnd}
use Rattle.code_laws.specs.Views.{View, pair_at}
use Rattle.step_code.specs.Steps.{arg_reg}
use Rattle.step_code.specs.Homes.{IsFree}
use Rattle.code_laws.specs.Runs.{AtHome}

pub arg_free : (i : ℕ) → IsFree (arg_reg i)
arg_free zero = record { rbx = refl; rsp = refl; rbp = refl; r12 = refl; r13 = refl; r14 = refl; r15 = refl }
arg_free (suc zero) = record { rbx = refl; rsp = refl; rbp = refl; r12 = refl; r13 = refl; r14 = refl; r15 = refl }
arg_free (suc (suc zero)) = record { rbx = refl; rsp = refl; rbp = refl; r12 = refl; r13 = refl; r14 = refl; r15 = refl }
arg_free (suc (suc (suc zero))) = record { rbx = refl; rsp = refl; rbp = refl; r12 = refl; r13 = refl; r14 = refl; r15 = refl }
arg_free (suc (suc (suc (suc zero)))) = record { rbx = refl; rsp = refl; rbp = refl; r12 = refl; r13 = refl; r14 = refl; r15 = refl }
arg_free (suc (suc (suc (suc (suc n))))) = record { rbx = refl; rsp = refl; rbp = refl; r12 = refl; r13 = refl; r14 = refl; r15 = refl }

-- the registers of two arguments differ
pub arg_apart : (m i : ℕ) → m < i → i < 6 → nat_eq (arg_reg m) (arg_reg i) ≡ false
arg_apart m zero l few = absurd (omega arith)
arg_apart zero (suc zero) l few = refl
arg_apart (suc m) (suc zero) l few = absurd (omega arith)
arg_apart zero (suc (suc zero)) l few = refl
arg_apart (suc zero) (suc (suc zero)) l few = refl
arg_apart (suc (suc m)) (suc (suc zero)) l few = absurd (omega arith)
arg_apart zero (suc (suc (suc zero))) l few = refl
arg_apart (suc zero) (suc (suc (suc zero))) l few = refl
arg_apart (suc (suc zero)) (suc (suc (suc zero))) l few = refl
arg_apart (suc (suc (suc m))) (suc (suc (suc zero))) l few = absurd (omega arith)
arg_apart zero (suc (suc (suc (suc zero)))) l few = refl
arg_apart (suc zero) (suc (suc (suc (suc zero)))) l few = refl
arg_apart (suc (suc zero)) (suc (suc (suc (suc zero)))) l few = refl
arg_apart (suc (suc (suc zero))) (suc (suc (suc (suc zero)))) l few = refl
arg_apart (suc (suc (suc (suc m)))) (suc (suc (suc (suc zero)))) l few = absurd (omega arith)
arg_apart zero (suc (suc (suc (suc (suc zero))))) l few = refl
arg_apart (suc zero) (suc (suc (suc (suc (suc zero))))) l few = refl
arg_apart (suc (suc zero)) (suc (suc (suc (suc (suc zero))))) l few = refl
arg_apart (suc (suc (suc zero))) (suc (suc (suc (suc (suc zero))))) l few = refl
arg_apart (suc (suc (suc (suc zero)))) (suc (suc (suc (suc (suc zero))))) l few = refl
arg_apart (suc (suc (suc (suc (suc m))))) (suc (suc (suc (suc (suc zero))))) l few = absurd (omega arith)
arg_apart m (suc (suc (suc (suc (suc (suc i)))))) l few = absurd (omega arith)

pub same_reg : (regs : ℕ → ℕ) (r n : ℕ) → cond (nat_eq r r) n (regs r) ≡ n
same_reg regs r n = let e : nat_eq r r ≡ true = grind (arith, nat_tests) in ap (λ b. cond b n (regs r)) e

pub same_bound : (bounds : ℕ → BoundsPair) (r : ℕ) (x : BoundsPair) → cond (nat_eq r r) x (bounds r) ≡ x
same_bound bounds r x = let e : nat_eq r r ≡ true = grind (arith, nat_tests) in ap (λ b. cond b x (bounds r)) e

-- what loading arguments leaves
pub record LeavesBefore (i j : ℕ) (v u : View) : Type 0 where
  pub regs : (m : ℕ) → m < i → u.processor.regs (arg_reg m) ≡ v.processor.regs (arg_reg m)
  pub bounds : (m : ℕ) → m < j → u.processor.bounds m ≡ v.processor.bounds m
  pub slots : u.slots ≡ v.slots
  pub world : u.world ≡ v.world

pub at_slot : (v u : View) (home : Home) (h : Held) → IsSlot home → u.slots ≡ v.slots → AtHome v home h → AtHome u home h
at_slot v u (Slot k) Nothing is same at = tt
at_slot v u (Slot k) (Number n) is same at = ap (λ (f : ℕ → ℕ). f k) same ∙ at
at_slot v u (Slot k) (Pair b) is same at = ap (λ (f : ℕ → ℕ). pair_at f k) same ∙ at
at_slot v u (Reg r) h is same at = absurd is
at_slot v u (Bnd b) h is same at = absurd is
