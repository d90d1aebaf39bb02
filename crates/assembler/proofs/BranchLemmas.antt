-- Branches to local labels.
use Rattle.std.proofs.Common.{◌≡◌, sym, ◌∙◌, ℕ, ◌^◌, true, false, not, Some, List, FitsSigned}
use Rattle.std.specs.Prelude.{◌&&◌, IsTrue, ℤ, pos, negsuc}
use Rattle.std.specs.Int.{w32}
use Rattle.std.proofs.lemmas.Bool.{and_parts, and_from, ltb-true, lt-ltb, not-false}
use Rattle.x86_forms.specs.declared.instr.Instr.{Instr}
use Rattle.x86_forms.specs.declared.instr.Instr.TheVariants.{CallRel, JmpRel, Jcc}
use Rattle.x86_forms.specs.Fits.{fits_32}
use Rattle.x86_forms.specs.Validity.{valid_of, condition_ok}
use Rattle.asm_text.specs.declared.parts.Kind.TheVariants as k
use Rattle.asm_text.specs.Lexical.{either, is_local}
use Rattle.asm_text.specs.Assembly.{Label, Placed, local_target, with_target, way, is_far}

pub word_32 : (z : ℤ) → fits_32 z ≡ true → FitsSigned w32 z
word_32 (pos n) e = record { sfits = ltb-true n (2 ^ 31) e }
word_32 (negsuc n) e = record { sfits = ltb-true n (2 ^ 31) e }

pub word_32_is : (z : ℤ) → FitsSigned w32 z → fits_32 z ≡ true
word_32_is (pos n) f = lt-ltb n (2 ^ 31) f.sfits
word_32_is (negsuc n) f = lt-ltb n (2 ^ 31) f.sfits

pub valid_target : (i : Instr) (z : ℤ) → IsTrue (valid_of i) → fits_32 z ≡ true → IsTrue (valid_of (with_target i z))
unfolding with_target
valid_target (CallRel p rel) z v f = f
valid_target (JmpRel p rel) z v f = f
valid_target (Jcc p op rel) z v f = and_from (condition_ok op) (fits_32 z) (and_parts (condition_ok op) (fits_32 rel) v).0 f
valid_target i z v f = v

-- a target that isn't far
pub near_fits : (labels : List Label) (p : Placed) (i : Instr) (t : ℕ) → is_far labels p (k.Code i) ≡ false → is_local p.line.name ≡ true → Some t ≡ local_target labels p.line.name → fits_32 (way p i t) ≡ true
unfolding is_far
near_fits labels p i t near local found =
    not-false (fits_32 (way p i t)) ((λ j. sym local j && either (found j) (λ target. not (fits_32 (way p i target))) false) ∙ near)
