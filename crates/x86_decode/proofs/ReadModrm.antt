-- A row with ModRM: from the first byte to the immediate.
use Rattle.std.proofs.Common.{◌≡◌, ◌<◌, ◌+◌, ◌/◌, IsTrue, true, false, Bool, ℕ, arith, nat_lt, nat_eq, ℤ, refl, List, ◌∷◌, ◌++◌, sym, ap, ◌∙◌, subst, inl, inr}
use Rattle.std.specs.Prelude.{Some, ◌&&◌, ◌||◌, not, ◌⊎◌}
use Rattle.std.proofs.lemmas.Grind.{common_steps}
use Rattle.std.proofs.lemmas.Bool.{cond_both, cases_Bool}
use Rattle.x86_forms.specs.declared.instr.Rm.{Rm}
use Rattle.x86_forms.specs.declared.layout.Layout.{Layout}
use Rattle.x86_forms.specs.declared.layout.Operands.TheVariants.{InModrm}
use Rattle.x86_forms.specs.Spelling.{bytes_of, prefix_bytes, escape_bytes, rex_bits, high_bits, forces_rex, rm_bytes, low_bytes, operand_bytes}
use Rattle.x86_forms.specs.Validity.{rm_ok}
use Rattle.x86_forms.proofs.RexBits.{rex_bits-lt, rm_high-lt}
use Rattle.x86_decode.specs.declared.rows.Row.{Row}
use Rattle.x86_decode.specs.declared.states.State.TheVariants.{Start}
use Rattle.x86_decode.specs.declared.states.Next.TheVariants.{Go}
use Rattle.x86_decode.specs.Rows.{row_of, low_in_reg, low_in_rm}
use Rattle.x86_decode.specs.Steps.{opcode_step, key_of, live_rex, rex_r, done}
use Rattle.x86_decode.proofs.Feed.{feed, feed-append}
use Rattle.x86_decode.proofs.Parts.{rex_part}
use Rattle.x86_decode.proofs.ReadFront.{IsPrefix, IsRex, Plain, front_one, front_two}
use Rattle.x86_decode.proofs.ReadRex.{Takes, rex_for, rex_of, forced, opcode_ops, rex_of_part, rexed}

-- an opcode byte that stands without 0F
abbrev pub is_opcode : ℕ → Bool
is_opcode b = not (nat_eq b 0x66) && not (nat_eq b 0xF2) && not (nat_eq b 0xF3) && not (nat_eq (b / 16) 4) && not (nat_eq b 0x0F)

not_false : (b : Bool) → not b ≡ true → b ≡ false
not_false true h = absurd (cc)
not_false false h = refl

plain_of : (b : ℕ) → is_opcode b ≡ true → Plain b
plain_of b h =
    record { operand = grind (arith, common_steps); bnd = grind (arith, common_steps); rep = grind (arith, common_steps) }

-- prefix, REX, 0F or none, and the opcode
pub read_opcode : (p rex : ℕ) (e : Bool) (op : ℕ) (bs : List ℕ) → IsPrefix p → IsRex p rex → (e || is_opcode op) ≡ true → (not e || not (nat_eq p 0x66) || nat_eq (rex_r rex) 0) ≡ true
    → feed (prefix_bytes p ++ (rex_part rex ++ (escape_bytes e ++ (op ∷ bs)))) (Go Start) ≡ feed bs (opcode_step p rex e op)
unfolding escape_bytes
read_opcode p rex true op bs q r o k = front_two p rex op bs q r k
read_opcode p rex false op bs q r o k = front_one p rex op bs q r (plain_of op o) (grind (arith, common_steps)) (grind (arith, common_steps))

-- the opcode of a row that has ModRM, and its operands
pub record Reads (p : ℕ) (w e : Bool) (op : ℕ) (row : Row) (g : ℕ) (rm : Rm) : Type 0 where
  pub prefix : IsPrefix p
  pub opcode : (e || is_opcode op) ≡ true
  pub begins : row_of p w e (key_of e op) ≡ Some row
  pub takes : Takes row g rm
  pub rex : IsRex p (rex_for row w g rm)
  pub high : (not e || not (nat_eq p 0x66) || nat_eq (rex_r (rex_for row w g rm)) 0) ≡ true

abbrev pub layout_for : ℕ → Bool → Bool → ℕ → Row → ℕ → Rm → ℕ → ℤ → Layout
layout_for p w e op row g rm n imm = record { prefix = p; wide = w; escape = e; opcode = op; operands = InModrm g (low_in_reg row) rm (low_in_rm row); imm = imm; imm_len = n }

pub read_modrm : (p : ℕ) (w e : Bool) (op : ℕ) (row : Row) (g : ℕ) (rm : Rm) (n : ℕ) (imm : ℤ) → Reads p w e op row g rm
    → feed (bytes_of (layout_for p w e op row g rm n imm)) (Go Start)
    ≡ feed (low_bytes n imm) (done (record { prefix = p; rex = rex_for row w g rm; escape = e; opcode = op }) row g rm)
unfolding operand_bytes forces_rex rex_bits high_bits
read_modrm p w e op row g rm n imm r =
    ap (λ xs. feed (prefix_bytes p ++ (xs ++ (escape_bytes e ++ ((op ∷ rm_bytes g rm) ++ low_bytes n imm)))) (Go Start)) (rex_of_part (forced row g rm) (rex_bits w (InModrm g false rm false)))
    ∙ read_opcode p (rex_for row w g rm) e op (rm_bytes g rm ++ low_bytes n imm) r.prefix r.rex r.opcode r.high
    ∙ feed-append (rm_bytes g rm) (low_bytes n imm) _
    ∙ ap (λ m. feed (low_bytes n imm) m) (opcode_ops p w e op g rm row r.begins r.takes)

-- REX as each prefix lets it stand
pub rex_plain : (w : Bool) (row : Row) (g : ℕ) (rm : Rm) → g < 16 → IsTrue (rm_ok rm) → IsRex 0 (rex_for row w g rm)
rex_plain w row g rm h k = rex_under (forced row g rm) (rex_bits w (InModrm g false rm false)) (rex_bits-lt w g false rm false h k)
  where
    rex_under : (f : Bool) (bits : ℕ) → bits < 16 → IsRex 0 (rex_of f bits)
    rex_under f bits h = cond_both (nat_eq bits 0 && not f) _ _ (λ n. IsRex 0 n) (λ e. inl refl) (λ e. inr (omega arith, refl))

some_rex : (bits : ℕ) → nat_eq bits 0 ≡ false → rex_of false bits ≡ 0x40 + bits
some_rex bits e = simp e

zero_rex : (bits : ℕ) → nat_eq bits 0 ≡ true → rex_of false bits ≡ 0
zero_rex bits e = simp e

-- behind a prefix nothing forces REX, so that it has a bit
rex_live : (p bits : ℕ) → (nat_eq bits 0 ≡ false → live_rex p (0x40 + bits) ≡ true) → bits < 16 → (nat_eq bits 0 ≡ true) ⊎ (nat_eq bits 0 ≡ false) → IsRex p (rex_of false bits)
rex_live p bits l h (inl e) = inl (zero_rex bits e)
rex_live p bits l h (inr e) = inr (subst (λ n. (n / 16 ≡ 4) × (live_rex p n ≡ true)) (sym (some_rex bits e)) (omega arith, l e))

alive_66 : (bits : ℕ) → bits < 8 → nat_eq bits 0 ≡ false → live_rex 0x66 (0x40 + bits) ≡ true
alive_66 bits h e =
    let m : nat_lt (0x40 + bits) 0x48 ≡ true = grind (arith, common_steps) in
    let n : nat_eq (0x40 + bits) 0x40 ≡ false = grind (arith, common_steps) in simp (m, n)

alive_bnd : (p bits : ℕ) → nat_eq p 0 ≡ false → nat_eq p 0x66 ≡ false → bits < 4 → nat_eq bits 0 ≡ false → live_rex p (0x40 + bits) ≡ true
alive_bnd p bits a b h e =
    let m : nat_lt (0x40 + bits) 0x44 ≡ true = grind (arith, common_steps) in
    let n : nat_eq (0x40 + bits) 0x40 ≡ false = grind (arith, common_steps) in simp (a, b, m, n)

narrow_bits : (g : ℕ) (rm : Rm) → g < 16 → IsTrue (rm_ok rm) → rex_bits false (InModrm g false rm false) < 8
unfolding rex_bits high_bits
narrow_bits g rm h k = omega (arith, rm_high-lt rm k)

bnd_bits : (g : ℕ) (rm : Rm) → g < 8 → IsTrue (rm_ok rm) → rex_bits false (InModrm g false rm false) < 4
unfolding rex_bits high_bits
bnd_bits g rm h k = omega (arith, rm_high-lt rm k)

pub rex_66 : (row : Row) (g : ℕ) (rm : Rm) → forced row g rm ≡ false → g < 16 → IsTrue (rm_ok rm) → IsRex 0x66 (rex_for row false g rm)
rex_66 row g rm f h k =
    let b = narrow_bits g rm h k in
    subst (λ x. IsRex 0x66 (rex_of x (rex_bits false (InModrm g false rm false)))) (sym f)
    (rex_live 0x66 _ (alive_66 _ b) (omega arith) (cases_Bool (nat_eq (rex_bits false (InModrm g false rm false)) 0)))

-- behind F2 and F3 the reg field is a digit or a bounds register
pub rex_bnd : (p : ℕ) (row : Row) (g : ℕ) (rm : Rm) → nat_eq p 0 ≡ false → nat_eq p 0x66 ≡ false → forced row g rm ≡ false → g < 8 → IsTrue (rm_ok rm) → IsRex p (rex_for row false g rm)
rex_bnd p row g rm a c f h k =
    let b = bnd_bits g rm h k in
    subst (λ x. IsRex p (rex_of x (rex_bits false (InModrm g false rm false)))) (sym f)
    (rex_live p _ (alive_bnd p _ a c b) (omega arith) (cases_Bool (nat_eq (rex_bits false (InModrm g false rm false)) 0)))

-- behind 66 and 0F too
pub rex_bnd_66 : (row : Row) (g : ℕ) (rm : Rm) → forced row g rm ≡ false → g < 8 → IsTrue (rm_ok rm) → IsRex 0x66 (rex_for row false g rm)
rex_bnd_66 row g rm f h k = rex_66 row g rm f (omega arith) k

pub high_zero : (w : Bool) (row : Row) (g : ℕ) (rm : Rm) → g < 8 → IsTrue (rm_ok rm) → nat_eq (rex_r (rex_for row w g rm)) 0 ≡ true
high_zero w row g rm h k = let x = rexed (forced row g rm) w g rm (omega arith) k in let z : g / 8 ≡ 0 = omega arith in rw (x.r, z) refl
