-- The bounds registers as the instruction table sees them.
use Rattle.std.proofs.Common.{◌≡◌, ℕ, zero, suc, ◌≤◌, Bool, true, false, cond, List, [], ◌∷◌, refl, sym, ◌∙◌, arith}
use Rattle.std.specs.Prelude.{slice_index, nat_eq}
use Rattle.mx_base.specs.declared.limits.Bounds.{Bounds}
use Rattle.mx_base.specs.Bounds.{complement}
use Rattle.x86_forms.specs.Processor.{with_reg, with_bounds}
use Rattle.x86_forms.specs.Table.{init_bounds, at_next, with_bnd}
use Rattle.mpx_core.specs.declared.registers.BndRegs.{BndRegs}
use Rattle.mpx_core.specs.Registers.{held_bounds, bounds_of, preserves}
use Rattle.mpx_core.specs.Steps.{Beside, seen}

pair : (t : Bool) (a b c d : ℕ) → held_bounds (cond t a c) (cond t b d) ≡ cond t (held_bounds a b) (held_bounds c d)
pair true a b c d = refl
pair false a b c d = refl

pairs : (f g : ℕ → ℕ) (k lb held : ℕ) → (λ j. held_bounds (with_reg f k lb j) (with_reg g k held j)) ≡ with_bounds (λ j. held_bounds (f j) (g j)) k (held_bounds lb held)
pairs f g k lb held = λ i j. pair (nat_eq j k) lb held (f j) (g j) i

-- one register set, by its two words
pub words_set : (lbs helds lbs' helds' : List ℕ) (k lb held : ℕ) → slice_index lbs' ≡ with_reg (slice_index lbs) k lb → slice_index helds' ≡ with_reg (slice_index helds) k held
    → (λ j. held_bounds (slice_index lbs' j) (slice_index helds' j)) ≡ with_bounds (λ j. held_bounds (slice_index lbs j) (slice_index helds j)) k (held_bounds lb held)
words_set lbs helds lbs' helds' k lb held p q = (λ i j. held_bounds (p i j) (q i j)) ∙ pairs (slice_index lbs) (slice_index helds) k lb held

no_word : (j : ℕ) → slice_index (0 ∷ 0 ∷ 0 ∷ 0 ∷ []) j ≡ 0
no_word zero = refl
no_word (suc zero) = refl
no_word (suc (suc zero)) = refl
no_word (suc (suc (suc zero))) = refl
no_word (suc (suc (suc (suc j)))) = refl

-- all registers set to INIT
pub no_bounds : (λ j. held_bounds (slice_index (0 ∷ 0 ∷ 0 ∷ 0 ∷ []) j) (slice_index (0 ∷ 0 ∷ 0 ∷ 0 ∷ []) j)) ≡ init_bounds
no_bounds = λ i j. held_bounds (no_word j i) (no_word j i)

pub twice : (a : ℕ) → a ≤ 0xffff_ffff_ffff_ffff → complement (complement a) ≡ a
twice a fits = omega arith

-- the processor with one bounds register set
pub seen_set : (s : Beside) (regs : ℕ → ℕ) (next : ℕ) (b b' : BndRegs) (k : ℕ) (x : Bounds) → bounds_of b' ≡ with_bounds (bounds_of b) k x → b'.cfg ≡ b.cfg → b'.status ≡ b.status
    → with_bnd (at_next (seen s regs b) next) k x ≡ at_next (seen s regs b') next
seen_set s regs next b b' k x e ec es = λ i. record { regs = regs; flags = s.flags; rip = next; bounds = sym e i; preserve = preserves (sym ec i); status = sym es i }
