-- What a row says again of the bytes that begin it.
use Rattle.std.proofs.Common.{◌≡◌, ◌<◌, ◌+◌, ◌-◌, ◌*◌, ◌%◌, true, false, Bool, ℕ, nat_eq, nat_lt, refl, sym, subst, inl, inr}
use Rattle.std.specs.Prelude.{Option, Some, None, if◌then◌else◌, ◌&&◌, not}
use Rattle.std.proofs.lemmas.Bool.{and_parts, eqb-true}
use Rattle.x86_forms.specs.Layout.{is_byte, is_wide, size_prefix, bnd_prefix, alu_digit}
use Rattle.x86_forms.specs.Validity.{width_ok, word_ok, narrow_ok, condition_ok}
use Rattle.x86_decode.specs.declared.rows.Row.{Row}
use Rattle.x86_decode.specs.declared.rows.Row.TheVariants.{MovTo, MovFrom, MovMem, MovImm, Movsxd, Movzx, Movsx, Lea, AluTo, AluFrom, AluImm, Test, Imul, One, Wide, ShiftCl, ShiftImm, Set, Push, Pop, CallRel, JmpRel, Ff, Jcc, Ret, Syscall, Ud2, Nop, Bndmk, Bndcl, Bndcu, Bndcn, BndmovTo, BndmovFrom, Bndldx, Bndstx}
use Rattle.x86_decode.specs.Rows.{row_of, one_plain, two_plain, one_66, two_66, one_f2, two_f2, two_f3, is_in_opcode}
use Rattle.x86_decode.specs.Steps.{key_of}
use Rattle.x86_decode.proofs.ReadFront.{IsPrefix}
use Rattle.x86_decode.proofs.Exhaustive.{every, every-at}

pub record Key : Type 0 where
  pub prefix : ℕ
  pub wide : Bool
  pub escape : Bool
  pub opcode : ℕ

abbrev pub key : ℕ → Bool → Bool → ℕ → Key
key p w e op = record { prefix = p; wide = w; escape = e; opcode = op }

-- the parts that a row fixes
abbrev pub key_of_row : Row → Key
key_of_row (MovTo w) = key (size_prefix w) (is_wide w) false (if is_byte w then 0x88 else 0x89)
key_of_row (MovFrom w) = key (size_prefix w) (is_wide w) false (if is_byte w then 0x8A else 0x8B)
key_of_row (MovMem w) = key (size_prefix w) (is_wide w) false (if is_byte w then 0xC6 else 0xC7)
key_of_row (MovImm w) = key 0 (is_wide w) false 0xB8
key_of_row Movsxd = key 0 true false 0x63
key_of_row (Movzx f) = key 0 false true (if is_byte f then 0xB6 else 0xB7)
key_of_row (Movsx w f) = key 0 (is_wide w) true (if is_byte f then 0xBE else 0xBF)
key_of_row Lea = key 0 true false 0x8D
key_of_row (AluTo op w) = key 0 (is_wide w) false (8 * alu_digit op + 1)
key_of_row (AluFrom op w) = key 0 (is_wide w) false (8 * alu_digit op + 3)
key_of_row (AluImm w long) = key 0 (is_wide w) false (if long then 0x81 else 0x83)
key_of_row (Test w) = key 0 (is_wide w) false 0x85
key_of_row (Imul w) = key 0 (is_wide w) true 0xAF
key_of_row (One w) = key 0 (is_wide w) false 0xF7
key_of_row (Wide w) = key 0 (is_wide w) false 0x99
key_of_row (ShiftCl w) = key 0 (is_wide w) false 0xD3
key_of_row (ShiftImm w) = key 0 (is_wide w) false 0xC1
key_of_row (Set c) = key 0 false true (0x90 + c)
key_of_row Push = key 0 false false 0x50
key_of_row Pop = key 0 false false 0x58
key_of_row (CallRel b) = key (bnd_prefix b) false false 0xE8
key_of_row (JmpRel b) = key (bnd_prefix b) false false 0xE9
key_of_row (Ff b) = key (bnd_prefix b) false false 0xFF
key_of_row (Jcc b c) = key (bnd_prefix b) false true (0x80 + c)
key_of_row (Ret b) = key (bnd_prefix b) false false 0xC3
key_of_row Syscall = key 0 false true 5
key_of_row Ud2 = key 0 false true 0x0B
key_of_row Nop = key 0 false false 0x90
key_of_row Bndmk = key 0xF3 false true 0x1B
key_of_row Bndcl = key 0xF3 false true 0x1A
key_of_row Bndcu = key 0xF2 false true 0x1A
key_of_row Bndcn = key 0xF2 false true 0x1B
key_of_row BndmovTo = key 0x66 false true 0x1B
key_of_row BndmovFrom = key 0x66 false true 0x1A
key_of_row Bndldx = key 0 false true 0x1A
key_of_row Bndstx = key 0 false true 0x1B

-- the numbers in a row are those of valid instructions
abbrev pub row_ok : Row → Bool
row_ok (MovTo w) = width_ok w
row_ok (MovFrom w) = width_ok w
row_ok (MovMem w) = width_ok w
row_ok (MovImm w) = word_ok w
row_ok (Movzx f) = narrow_ok f
row_ok (Movsx w f) = word_ok w && narrow_ok f
row_ok (AluTo op w) = nat_lt op 6 && word_ok w
row_ok (AluFrom op w) = nat_lt op 6 && word_ok w
row_ok (AluImm w long) = word_ok w
row_ok (Test w) = word_ok w
row_ok (Imul w) = word_ok w
row_ok (One w) = word_ok w
row_ok (Wide w) = word_ok w
row_ok (ShiftCl w) = word_ok w
row_ok (ShiftImm w) = word_ok w
row_ok (Set c) = condition_ok c
row_ok (Jcc b c) = condition_ok c
row_ok _ = true

-- the opcode without the register that a row puts into it
abbrev pub base_opcode : Row → ℕ → ℕ
base_opcode row op = if is_in_opcode row then op - op % 8 else op

pub record Keyed (p : ℕ) (w e : Bool) (op : ℕ) (row : Row) : Type 0 where
  pub prefix : (key_of_row row).prefix ≡ p
  pub wide : (key_of_row row).wide ≡ w
  pub escape : (key_of_row row).escape ≡ e
  pub opcode : (key_of_row row).opcode ≡ base_opcode row op
  pub ok : row_ok row ≡ true

abbrev bool_eq : Bool → Bool → Bool
bool_eq true b = b
bool_eq false b = not b

bool_eq-true : (a b : Bool) → bool_eq a b ≡ true → a ≡ b
bool_eq-true true true h = refl
bool_eq-true true false h = absurd (cc)
bool_eq-true false true h = absurd (cc)
bool_eq-true false false h = refl

abbrev keyed_row : ℕ → Bool → Bool → ℕ → Row → Bool
keyed_row p w e op row =
    nat_eq (key_of_row row).prefix p && bool_eq (key_of_row row).wide w && bool_eq (key_of_row row).escape e && nat_eq (key_of_row row).opcode (base_opcode row op) && row_ok row

abbrev keyed_next : ℕ → Bool → Bool → ℕ → Option Row → Bool
keyed_next p w e op None = true
keyed_next p w e op (Some row) = keyed_row p w e op row

abbrev keyed_all : ℕ → Bool → Bool → Bool
keyed_all p w e = every 256 (λ op. keyed_next p w e op (row_of p w e (key_of e op)))

keyed_parts : (p : ℕ) (w e : Bool) (op : ℕ) (row : Row) → keyed_row p w e op row ≡ true → Keyed p w e op row
keyed_parts p w e op row h =
    let a = and_parts (nat_eq (key_of_row row).prefix p && bool_eq (key_of_row row).wide w && bool_eq (key_of_row row).escape e && nat_eq (key_of_row row).opcode (base_opcode row op)) (row_ok row) h in
    let b = and_parts (nat_eq (key_of_row row).prefix p && bool_eq (key_of_row row).wide w && bool_eq (key_of_row row).escape e) (nat_eq (key_of_row row).opcode (base_opcode row op)) a.0 in
    let c = and_parts (nat_eq (key_of_row row).prefix p && bool_eq (key_of_row row).wide w) (bool_eq (key_of_row row).escape e) b.0 in
    let d = and_parts (nat_eq (key_of_row row).prefix p) (bool_eq (key_of_row row).wide w) c.0 in
    record { prefix = eqb-true _ _ d.0; wide = bool_eq-true _ _ d.1; escape = bool_eq-true _ _ c.1; opcode = eqb-true _ _ b.1; ok = a.1 }

all_0 : (w e : Bool) → keyed_all 0 w e ≡ true
unfolding row_of one_plain two_plain is_in_opcode
all_0 true true = refl
all_0 true false = refl
all_0 false true = refl
all_0 false false = refl

all_66 : (w e : Bool) → keyed_all 0x66 w e ≡ true
unfolding row_of one_66 two_66 is_in_opcode
all_66 true true = refl
all_66 true false = refl
all_66 false true = refl
all_66 false false = refl

all_f2 : (w e : Bool) → keyed_all 0xF2 w e ≡ true
unfolding row_of one_f2 two_f2 is_in_opcode
all_f2 true true = refl
all_f2 true false = refl
all_f2 false true = refl
all_f2 false false = refl

all_f3 : (w e : Bool) → keyed_all 0xF3 w e ≡ true
unfolding row_of two_f3 is_in_opcode
all_f3 true true = refl
all_f3 true false = refl
all_f3 false true = refl
all_f3 false false = refl

keyed_prefix : (p : ℕ) (w e : Bool) → IsPrefix p → keyed_all p w e ≡ true
keyed_prefix p w e (inl k) = subst (λ p. keyed_all p w e ≡ true) (sym k) (all_0 w e)
keyed_prefix p w e (inr (inl k)) = subst (λ p. keyed_all p w e ≡ true) (sym k) (all_66 w e)
keyed_prefix p w e (inr (inr (inl k))) = subst (λ p. keyed_all p w e ≡ true) (sym k) (all_f2 w e)
keyed_prefix p w e (inr (inr (inr k))) = subst (λ p. keyed_all p w e ≡ true) (sym k) (all_f3 w e)

-- the row of an opcode has the opcode's parts
pub keyed : (p : ℕ) (w e : Bool) (op : ℕ) (row : Row) → IsPrefix p → op < 256 → row_of p w e (key_of e op) ≡ Some row → Keyed p w e op row
keyed p w e op row q l h =
    keyed_parts p w e op row
    (subst (λ o. keyed_next p w e op o ≡ true) h (every-at 256 op (λ op. keyed_next p w e op (row_of p w e (key_of e op))) (keyed_prefix p w e q) l))
