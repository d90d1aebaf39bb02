-- What was read of a row with ModRM is what its instruction spells.
use Rattle.std.proofs.Common.{◌≡◌, ◌+◌, ◌-◌, ◌*◌, ◌/◌, ◌%◌, true, false, Bool, ℕ, arith, nat_eq, ℤ, refl, List, [], ◌∷◌, ◌++◌, sym, subst, ap, ◌∙◌, inl, inr, append_assoc}
use Rattle.std.specs.Prelude.{if◌then◌else◌, ◌&&◌, ◌||◌, ◌⊎◌}
use Rattle.std.proofs.lemmas.Bool.{and_right}
use Rattle.std.proofs.lemmas.Grind.{common_steps}
use Rattle.x86_forms.specs.declared.instr.Rm.{Rm}
use Rattle.x86_forms.specs.declared.layout.Operands.TheVariants.{InModrm}
use Rattle.x86_forms.specs.Spelling.{Spells, bytes_of, prefix_bytes, escape_bytes, rex_bytes, rex_bits, forces_rex, rm_bytes, low_bytes, operand_bytes}
use Rattle.x86_decode.specs.declared.rows.Row.{Row}
use Rattle.x86_decode.specs.declared.states.Head.{Head}
use Rattle.x86_decode.specs.Rows.{build, imm_len, is_bare, is_in_opcode, any_reg, low_in_reg, low_in_rm}
use Rattle.x86_decode.specs.Steps.{rex_w, rex_r, rex_x, rex_b, low_agrees, imm_fine}
use Rattle.x86_decode.proofs.Builds.{whole, imm_fits, builds}
use Rattle.x86_decode.proofs.Keys.{Keyed, key_of_row}
use Rattle.x86_decode.proofs.Parts.{rex_part}
use Rattle.x86_decode.proofs.ReadFront.{IsPrefix, IsRex}
use Rattle.x86_decode.proofs.ReadOperands.{FitsRm, rm_index, rm_base}
use Rattle.x86_decode.proofs.ReadRex.{Takes, forced, wide_bit, bits_sum}

-- what stands before the operands
abbrev pub head_bytes : Head → List ℕ
head_bytes h = prefix_bytes h.prefix ++ (rex_part h.rex ++ (escape_bytes h.escape ++ (h.opcode ∷ [])))

-- the head is one that begins the row
pub record HeadOk (h : Head) (row : Row) : Type 0 where
  pub prefix : IsPrefix h.prefix
  pub rex : IsRex h.prefix h.rex
  pub keyed : Keyed h.prefix (rex_w h.rex) h.escape h.opcode row

-- and the row has ModRM
pub record ModOk (h : Head) (row : Row) : Type 0 where
  pub bare : is_bare row ≡ false
  pub inside : is_in_opcode row ≡ false
  pub high : (nat_eq (rex_r h.rex) 0 || any_reg row) ≡ true

-- REX again from its bits
pub bits_back : (rex : ℕ) → rex / 16 ≡ 4 → 0x40 + (8 * (rex / 8 % 2) + (4 * rex_r rex + (2 * rex_x rex + rex_b rex))) ≡ rex
bits_back rex h = omega arith

some_bit : (rex bits : ℕ) → low_agrees rex false ≡ true → rex / 16 ≡ 4 → 0x40 + bits ≡ rex → rex_bytes false bits ≡ rex_part rex
unfolding rex_bytes
some_bit rex bits h k e =
    let n : nat_eq rex 0 ≡ false = grind (arith, common_steps) in
    let m : nat_eq rex 0x40 ≡ false = grind (arith, common_steps) in
    let b : nat_eq bits 0 ≡ false = grind (arith, common_steps) in
    simp (n, b, e)

pub rex_back : (rex bits : ℕ) (low : Bool) → low_agrees rex low ≡ true → ((rex ≡ 0) × (bits ≡ 0)) ⊎ ((rex / 16 ≡ 4) × (0x40 + bits ≡ rex)) → rex_bytes low bits ≡ rex_part rex
unfolding rex_bytes
rex_back rex bits true h (inl e) = let k : low_agrees 0 true ≡ true = subst (λ n. low_agrees n true ≡ true) e.0 h in absurd (cc)
rex_back rex bits false h (inl e) = rw (e.0, e.1) refl
rex_back rex bits true h (inr e) =
    let n : nat_eq rex 0 ≡ false = grind (arith, common_steps) in
    let b : (nat_eq bits 0 && false) ≡ false = and_right (nat_eq bits 0) false refl in simp (n, b, e.1)
rex_back rex bits false h (inr e) = some_bit rex bits h e.0 e.1

pub wide_bit-odd : (n : ℕ) → wide_bit (nat_eq (n % 2) 1) ≡ n % 2
unfolding wide_bit
wide_bit-odd n = grind (arith, common_steps)

rex_of_operands : (p rex g : ℕ) (a : Bool) (rm : Rm) (b low : Bool) → IsRex p rex → rex_r rex ≡ g / 8 → rex_x rex ≡ rm_index rm → rex_b rex ≡ rm_base rm → low_agrees rex low ≡ true
    → rex_bytes low (rex_bits (rex_w rex) (InModrm g a rm b)) ≡ rex_part rex
rex_of_operands p rex g a rm b low c er ex eb l =
    rw (bits_sum (rex_w rex) g a rm b, wide_bit-odd (rex / 8)) (rex_back rex _ low l (by_rex c))
  where
    by_rex : IsRex p rex → ((rex ≡ 0) × (8 * (rex / 8 % 2) + (4 * (g / 8) + (2 * rm_index rm + rm_base rm)) ≡ 0)) ⊎ ((rex / 16 ≡ 4) × (0x40 + (8 * (rex / 8 % 2) + (4 * (g / 8) + (2 * rm_index rm + rm_base rm))) ≡ rex))
    by_rex (inl z) = inl (z, omega arith)
    by_rex (inr z) = inr (z.0, omega (arith, bits_back rex z.0))

whole_bytes : (h : Head) (row : Row) (g : ℕ) (rm : Rm) (z : ℤ) → Keyed h.prefix (rex_w h.rex) h.escape h.opcode row → is_in_opcode row ≡ false
    → rex_bytes (forced row g rm) (rex_bits (rex_w h.rex) (InModrm g (low_in_reg row) rm (low_in_rm row))) ≡ rex_part h.rex
    → bytes_of (whole row g rm z) ≡ prefix_bytes h.prefix ++ (rex_part h.rex ++ (escape_bytes h.escape ++ ((h.opcode ∷ rm_bytes g rm) ++ low_bytes (imm_len row) z)))
unfolding operand_bytes forces_rex
whole_bytes h row g rm z k i e =
    let o : (key_of_row row).opcode ≡ h.opcode = k.opcode ∙ opcode_same i in
    simp (k.prefix, k.wide, k.escape, o, e)
  where
    opcode_same : is_in_opcode row ≡ false → (if is_in_opcode row then h.opcode - h.opcode % 8 else h.opcode) ≡ h.opcode
    opcode_same i = simp i

regroup : (p r e : List ℕ) (o : ℕ) (m i : List ℕ) → p ++ (r ++ (e ++ ((o ∷ m) ++ i))) ≡ (p ++ (r ++ (e ++ (o ∷ [])))) ++ (m ++ i)
regroup p r e o m i = simp append_assoc

takes_of : (h : Head) (row : Row) (g : ℕ) (rm : Rm) → ModOk h row → FitsRm h row g rm → Takes row g rm
takes_of h row g rm m f = record {
  bare = m.bare;
  inside = m.inside;
  high = subst (λ n. (nat_eq n 0 || any_reg row) ≡ true) f.high m.high;
  code = f.code;
  form = f.form;
  small = let e = f.high in omega arith;
  valid = f.valid;
}

-- the operands have been read: with the immediate they are the spelling
pub whole_spells : (h : Head) (row : Row) (g : ℕ) (rm : Rm) (z : ℤ) → HeadOk h row → ModOk h row → FitsRm h row g rm → imm_fits row z ≡ true → imm_fine row z ≡ true
    → Spells (head_bytes h ++ (rm_bytes g rm ++ low_bytes (imm_len row) z)) (build row g rm z)
whole_spells h row g rm z k m f i q =
    let b = builds row g rm z k.keyed.ok (takes_of h row g rm m f) i q in
    let r = rex_of_operands h.prefix h.rex g (low_in_reg row) rm (low_in_rm row) (forced row g rm) k.rex f.high f.index f.base f.low in
    record {
      valid = b.valid;
      bytes = sym (ap bytes_of b.layout ∙ whole_bytes h row g rm z k.keyed m.inside r ∙ regroup (prefix_bytes h.prefix) (rex_part h.rex) (escape_bytes h.escape) h.opcode (rm_bytes g rm) (low_bytes (imm_len row) z));
    }
