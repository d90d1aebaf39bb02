-- The parts of the gates that touch registers alone, walked.
use Rattle.std.specs.Prelude.{nat_lt, nat_eq, if◌then◌else◌, Option, None, Some, List, [], ◌∷◌, ◌++◌, ◌^◌, ◌%◌, ℤ, pos, negsuc}
use Rattle.std.specs.Int.Bits.{xor_self}
use Rattle.std.proofs.Common.{◌≡◌, ℕ, ◌+◌, ◌<◌, inl, inr, refl, arith, ap, ◌∙◌, sym, cond, subst}
use Rattle.std.proofs.lemmas.Bool.{cond_both}
use Rattle.std.proofs.lemmas.Bool.Decides.{eqb_tells}
use Rattle.mx_base.specs.declared.numbers.IntKind.{IntKind}
use Rattle.mx_base.specs.declared.numbers.IntKind.TheVariants.{I8, U8, I16, U16, I32, U32, I64, U64}
use Rattle.mx_base.specs.Memory.{Bytes}
use Rattle.mx_base.specs.Numbers.{extended, value_of, word_of, number_of, residue, as_signed}
use Rattle.mx_base.proofs.NumbersLemmas.{residue-as_signed}
use Rattle.x86_forms.specs.declared.instr.Rm.TheVariants.{Reg as InReg}
use Rattle.x86_forms.specs.declared.instr.Instr.TheVariants.{MovTo, MovImm, Movsxd, Movzx, Movsx, AluTo}
use Rattle.x86_forms.specs.Arithmetic.{bits_of, signed, low, Flags, result_of, flags_after, is_negative}
use Rattle.x86_forms.specs.Processor.{Processor, part_written, with_reg}
use Rattle.x86_forms.specs.Requests.{Ends}
use Rattle.x86_forms.specs.Table.{row, imm_value}
use Rattle.obj_file.specs.Stored.{Stored}
use Rattle.call_sigs.specs.Signatures.{parameter_register}
use Rattle.call_gates.specs.Gates.{Code, reg, in_reg, clear_all, extends, extends_parameter, extend_parameters}
use Rattle.legacy_calls.specs.Legacy.{Linkage, word_as, zero_flags}
use Rattle.gate_laws.specs.Placed.{HasCode, StandsAt, IsPlaced}
use Rattle.gate_laws.specs.Effects.{end_of, cleared, arrived}
use Rattle.gate_laws.proofs.Walks.{Leads, then_on, free_leads}

-- ---- words

residue_below : (m : ℕ) (z : ℤ) → 0 < m → residue m z < m
unfolding residue
residue_below m (pos a) some = omega arith
residue_below m (negsuc a) some = omega arith

pub extended_small : (kind : IntKind) (x : ℕ) → extended kind x < 2 ^ 64
unfolding extended word_of
extended_small kind x = residue_below (2 ^ 64) (value_of kind x) (omega arith)

pub word_small : (p : Option IntKind) (x : ℕ) → x < 2 ^ 64 → word_as p x < 2 ^ 64
word_small None x small = small
word_small (Some kind) x small = extended_small kind x

signed_8 : (old x : ℕ) → part_written 64 old (bits_of 64 (signed 8 (low 8 x))) ≡ extended I8 x
unfolding part_written extended word_of value_of number_of
signed_8 old x = let s = residue_below (2 ^ 64) (as_signed 256 (x % 256)) (omega arith) in omega arith

signed_16 : (old x : ℕ) → part_written 64 old (bits_of 64 (signed 16 (low 16 x))) ≡ extended I16 x
unfolding part_written extended word_of value_of number_of
signed_16 old x = let s = residue_below (2 ^ 64) (as_signed 65536 (x % 65536)) (omega arith) in omega arith

signed_32 : (old x : ℕ) → part_written 64 old (bits_of 64 (signed 32 (low 32 x))) ≡ extended I32 x
unfolding part_written extended word_of value_of number_of
signed_32 old x = let s = residue_below (2 ^ 64) (as_signed 0x1_0000_0000 (x % 0x1_0000_0000)) (omega arith) in omega arith

plain_8 : (old x : ℕ) → part_written 32 old (low 8 x) ≡ extended U8 x
unfolding part_written extended word_of value_of number_of residue
plain_8 old x = omega arith

plain_16 : (old x : ℕ) → part_written 32 old (low 16 x) ≡ extended U16 x
unfolding part_written extended word_of value_of number_of residue
plain_16 old x = omega arith

plain_32 : (old x : ℕ) → part_written 32 old (low 32 x) ≡ extended U32 x
unfolding part_written extended word_of value_of number_of residue
plain_32 old x = omega arith

signed_64 : (x : ℕ) → x < 2 ^ 64 → extended I64 x ≡ x
unfolding extended word_of value_of number_of
signed_64 x small = let e = residue-as_signed (2 ^ 63) x small in let f : x % 2 ^ 64 ≡ x = omega arith in rw f e

plain_64 : (x : ℕ) → x < 2 ^ 64 → extended U64 x ≡ x
unfolding extended word_of value_of number_of residue
plain_64 x small = omega arith

-- a register that is given what it holds
pub same_regs : (regs : ℕ → ℕ) (r v : ℕ) → v ≡ regs r → with_reg regs r v ≡ regs
same_regs regs r v e = λ i x. (elim (eqb_tells x r) as (λ h. cond (nat_eq x r) v (regs x) ≡ regs x) [
  | inl h ↦ let same = h.1 in rw h.0 (e ∙ ap regs (sym same))
  | inr h ↦ rw h.0 refl
]) i

module _ (k : Linkage) (image : Bytes) where
  -- ---- single instructions

  pub copy_leads : (to from v size : ℕ) (c : Processor) (y : Stored) → StandsAt k image c.rip (MovTo 64 (reg from) (InReg (reg to))) size → 0 < size → HasCode image y → c.regs from ≡ v → v < 2 ^ 64
      → Leads k image c y (record c { rip = c.rip + size; regs = with_reg c.regs to v }) y
  unfolding row part_written
  copy_leads to from v size c y st some code is small =
      let word : v % 2 ^ 64 ≡ v = omega arith in
      free_leads k image (MovTo 64 (reg from) (InReg (reg to))) size c (record c { rip = c.rip + size; regs = with_reg c.regs to v }) y st code refl refl (rw (is, word, word) refl) (omega arith)

  low_imm : (old n : ℕ) → n < 2 ^ 31 → part_written 32 old (imm_value 32 (pos n)) ≡ n
  unfolding part_written
  low_imm old n small = omega arith

  pub set_leads : (r n size : ℕ) (c : Processor) (y : Stored) → StandsAt k image c.rip (MovImm 32 (reg r) (pos n)) size → 0 < size → HasCode image y → n < 2 ^ 31
      → Leads k image c y (record c { rip = c.rip + size; regs = with_reg c.regs r n }) y
  unfolding row
  set_leads r n size c y st some code small =
      free_leads k image (MovImm 32 (reg r) (pos n)) size c (record c { rip = c.rip + size; regs = with_reg c.regs r n }) y st code refl refl
      (ap (λ (v : ℕ). let d : Processor = record c { rip = c.rip + size; regs = with_reg c.regs r v } in Ends d) (low_imm (c.regs r) n small)) (omega arith)

  pub clear_leads : (r size : ℕ) (c : Processor) (y : Stored) → StandsAt k image c.rip (AluTo 4 32 (reg r) (InReg (reg r))) size → 0 < size → HasCode image y
      → Leads k image c y (record c { rip = c.rip + size; regs = with_reg c.regs r 0; flags = zero_flags }) y
  unfolding row part_written result_of flags_after is_negative
  clear_leads r size c y st some code =
      free_leads k image (AluTo 4 32 (reg r) (InReg (reg r))) size c (record c { rip = c.rip + size; regs = with_reg c.regs r 0; flags = zero_flags }) y st code refl refl (rw (xor_self (c.regs r % 2 ^ 32)) refl) (omega arith)

  -- ---- parts

  pub clear_all_leads : (rs : List ℕ) (c : Processor) (y : Stored) → IsPlaced k image c.rip (clear_all rs) → HasCode image y → c.flags ≡ zero_flags
      → Leads k image c y (record c { rip = end_of c.rip (clear_all rs); regs = cleared rs c.regs }) y
  clear_all_leads [] c y p code flags = λ g n turns made. (n, refl)
  clear_all_leads (r ∷ rs) c y p code flags =
      let d : Processor = record c { rip = c.rip + (if nat_lt r 8 then 2 else 3); regs = with_reg c.regs r 0 } in
      let some : 0 < (if nat_lt r 8 then 2 else 3) = cond_both (nat_lt r 8) 2 3 (λ (n : ℕ). 0 < n) (λ _. omega arith) (λ _. omega arith) in
      then_on k image c d (record c { rip = end_of c.rip (clear_all (r ∷ rs)); regs = cleared (r ∷ rs) c.regs }) y y y
      (subst (λ (f : Flags). Leads k image c y (record c { rip = c.rip + (if nat_lt r 8 then 2 else 3); regs = with_reg c.regs r 0; flags = f }) y) (sym flags) (clear_leads r _ c y p.0 some code))
      (clear_all_leads rs d y p.1 code flags)

  -- a register is made the word of a kind
  pub extend_leads : (kind : IntKind) (r : ℕ) (c : Processor) (y : Stored) → IsPlaced k image c.rip (extends kind r) → HasCode image y → c.regs r < 2 ^ 64
      → Leads k image c y (record c { rip = end_of c.rip (extends kind r); regs = with_reg c.regs r (extended kind (c.regs r)) }) y
  unfolding row
  extend_leads I8 r c y p code small = free_leads k image (Movsx 64 8 (reg r) (in_reg r)) 4 c (record c { rip = c.rip + 4; regs = with_reg c.regs r (extended I8 (c.regs r)) }) y p.0 code refl refl (rw (signed_8 (c.regs r) (c.regs r)) refl) (omega arith)
  extend_leads U8 r c y p code small = free_leads k image (Movzx 8 (reg r) (in_reg r)) _ c (record c { rip = c.rip + (if nat_lt r 4 then 3 else 4); regs = with_reg c.regs r (extended U8 (c.regs r)) }) y p.0 code refl refl (rw (plain_8 (c.regs r) (c.regs r)) refl) (cond_both (nat_lt r 4) 3 4 (λ (n : ℕ). c.rip < c.rip + n) (λ _. omega arith) (λ _. omega arith))
  extend_leads I16 r c y p code small = free_leads k image (Movsx 64 16 (reg r) (in_reg r)) 4 c (record c { rip = c.rip + 4; regs = with_reg c.regs r (extended I16 (c.regs r)) }) y p.0 code refl refl (rw (signed_16 (c.regs r) (c.regs r)) refl) (omega arith)
  extend_leads U16 r c y p code small = free_leads k image (Movzx 16 (reg r) (in_reg r)) _ c (record c { rip = c.rip + (if nat_lt r 8 then 3 else 4); regs = with_reg c.regs r (extended U16 (c.regs r)) }) y p.0 code refl refl (rw (plain_16 (c.regs r) (c.regs r)) refl) (cond_both (nat_lt r 8) 3 4 (λ (n : ℕ). c.rip < c.rip + n) (λ _. omega arith) (λ _. omega arith))
  extend_leads I32 r c y p code small = free_leads k image (Movsxd (reg r) (in_reg r)) 3 c (record c { rip = c.rip + 3; regs = with_reg c.regs r (extended I32 (c.regs r)) }) y p.0 code refl refl (rw (signed_32 (c.regs r) (c.regs r)) refl) (omega arith)
  extend_leads U32 r c y p code small = free_leads k image (MovTo 32 (reg r) (in_reg r)) _ c (record c { rip = c.rip + (if nat_lt r 8 then 2 else 3); regs = with_reg c.regs r (extended U32 (c.regs r)) }) y p.0 code refl refl (rw (plain_32 (c.regs r) (c.regs r)) refl) (cond_both (nat_lt r 8) 2 3 (λ (n : ℕ). c.rip < c.rip + n) (λ _. omega arith) (λ _. omega arith))
  extend_leads I64 r c y p code small = subst (λ (regs : ℕ → ℕ). Leads k image c y (record c { regs = regs }) y) (sym (same_regs c.regs r (extended I64 (c.regs r)) (signed_64 (c.regs r) small))) (λ g n turns made. (n, refl))
  extend_leads U64 r c y p code small = subst (λ (regs : ℕ → ℕ). Leads k image c y (record c { regs = regs }) y) (sym (same_regs c.regs r (extended U64 (c.regs r)) (plain_64 (c.regs r) small))) (λ g n turns made. (n, refl))

  pub parameter_leads : (p : Option IntKind) (r : ℕ) (c : Processor) (y : Stored) → IsPlaced k image c.rip (extends_parameter p r) → HasCode image y → c.regs r < 2 ^ 64
      → Leads k image c y (record c { rip = end_of c.rip (extends_parameter p r); regs = with_reg c.regs r (word_as p (c.regs r)) }) y
  parameter_leads None r c y q code small = subst (λ (regs : ℕ → ℕ). Leads k image c y (record c { regs = regs }) y) (sym (same_regs c.regs r (c.regs r) refl)) (λ g n turns made. (n, refl))
  parameter_leads (Some kind) r c y q code small = extend_leads kind r c y q code small

  -- ---- code in parts

  end_append : (a b : Code) (at : ℕ) → end_of at (a ++ b) ≡ end_of (end_of at a) b
  end_append [] b at = refl
  end_append (x ∷ a) b at = end_append a b (at + x.1)

  pub placed_front : (a b : Code) (at : ℕ) → IsPlaced k image at (a ++ b) → IsPlaced k image at a
  placed_front [] b at p = tt
  placed_front (x ∷ a) b at p = (p.0, placed_front a b (at + x.1) p.1)

  pub placed_back : (a b : Code) (at : ℕ) → IsPlaced k image at (a ++ b) → IsPlaced k image (end_of at a) b
  placed_back [] b at p = p
  placed_back (x ∷ a) b at p = placed_back a b (at + x.1) p.1

  pub words_stay : (regs : ℕ → ℕ) (r v : ℕ) → ((x : ℕ) → regs x < 2 ^ 64) → v < 2 ^ 64 → (x : ℕ) → with_reg regs r v x < 2 ^ 64
  words_stay regs r v small fits x = cond_both (nat_eq x r) v (regs x) (λ (n : ℕ). n < 2 ^ 64) (λ _. fits) (λ _. small x)

  -- all parameters become words of their kinds
  pub parameters_lead : (j : ℕ) (ps : List (Option IntKind)) (c : Processor) (y : Stored) → IsPlaced k image c.rip (extend_parameters j ps) → HasCode image y → ((x : ℕ) → c.regs x < 2 ^ 64)
      → Leads k image c y (record c { rip = end_of c.rip (extend_parameters j ps); regs = arrived j ps c.regs }) y
  parameters_lead j [] c y q code small = λ g n turns made. (n, refl)
  parameters_lead j (p ∷ ps) c y q code small =
      let r = parameter_register j in
      let first = extends_parameter p r in
      let rest = extend_parameters (j + 1) ps in
      let regs = with_reg c.regs r (word_as p (c.regs r)) in
      let d : Processor = record c { rip = end_of c.rip first; regs = regs } in
      subst (λ (a : ℕ). Leads k image c y (record c { rip = a; regs = arrived (j + 1) ps regs }) y) (sym (end_append first rest c.rip))
      (then_on k image c d (record c { rip = end_of (end_of c.rip first) rest; regs = arrived (j + 1) ps regs }) y y y
      (parameter_leads p r c y (placed_front first rest c.rip q) code (small r))
      (parameters_lead (j + 1) ps d y (placed_back first rest c.rip q) code (words_stay c.regs r (word_as p (c.regs r)) small (word_small p (c.regs r) (small r)))))

  pub arrived_small : (j : ℕ) (ps : List (Option IntKind)) (regs : ℕ → ℕ) → ((x : ℕ) → regs x < 2 ^ 64) → (x : ℕ) → arrived j ps regs x < 2 ^ 64
  arrived_small j [] regs small = small
  arrived_small j (p ∷ ps) regs small = arrived_small (j + 1) ps _ (words_stay regs (parameter_register j) _ small (word_small p _ (small (parameter_register j))))
