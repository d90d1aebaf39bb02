use Rattle.std.proofs.Common.{◌≡◌, ◌<◌, ◌+◌, ◌*◌, ◌/◌, ◌%◌, IsTrue, true, false, Bool, ℕ, arith, nat_eq, refl, [], ◌∷◌, ap, ◌∙◌}
use Rattle.std.specs.Prelude.{Some, if◌then◌else◌, ◌&&◌, ◌||◌, not}
use Rattle.std.proofs.lemmas.Grind.{common_steps}
use Rattle.std.proofs.lemmas.Bool.{cond_both, and_parts, ne_eqb, eqb-true}
use Rattle.x86_forms.specs.declared.instr.Rm.{Rm}
use Rattle.x86_forms.specs.declared.instr.Rm.TheVariants.{Reg as InReg, Mem as InMem}
use Rattle.x86_forms.specs.declared.layout.Operands.TheVariants.{InModrm}
use Rattle.x86_forms.specs.Validity.{rm_ok}
use Rattle.x86_forms.specs.Spelling.{rex_bytes, rex_bits, high_bits, rm_high, is_low, rm_is_low, rm_bytes}
use Rattle.x86_forms.proofs.RexBits.{index_high-lt, base_high-lt}
use Rattle.x86_decode.specs.declared.rows.Row.{Row}
use Rattle.x86_decode.specs.declared.states.Head.{Head}
use Rattle.x86_decode.specs.declared.states.State.TheVariants.{ModRm}
use Rattle.x86_decode.specs.declared.states.Next.TheVariants.{Go}
use Rattle.x86_decode.specs.Rows.{row_of, any_reg, low_in_reg, low_in_rm, is_bare, is_in_opcode, takes}
use Rattle.x86_decode.specs.Steps.{begin, opcode_step, key_of, rex_w, rex_r, rex_x, rex_b, done, low_agrees}
use Rattle.x86_decode.proofs.Feed.{feed}
use Rattle.x86_decode.proofs.Parts.{rex_part}
use Rattle.x86_decode.proofs.ReadOperands.{rm_all, rm_index, rm_base, rm_form}

-- the REX byte, or 0 for none
abbrev pub rex_of : Bool → ℕ → ℕ
rex_of forced bits = if nat_eq bits 0 && not forced then 0 else 0x40 + bits

pub rex_of_part : (f : Bool) (bits : ℕ) → rex_bytes f bits ≡ rex_part (rex_of f bits)
unfolding rex_bytes
rex_of_part f bits = elim (nat_eq bits 0 && not f) as (λ c. (if c then [] else (0x40 + bits) ∷ []) ≡ rex_part (if c then 0 else 0x40 + bits)) [ true ↦ refl | false ↦ rw (ne_eqb (0x40 + bits) 0 (λ z. absurd (omega arith))) refl ]

bits_zero : (f : Bool) (bits : ℕ) → (nat_eq bits 0 && not f) ≡ true → bits ≡ 0
bits_zero f bits e = eqb-true bits 0 (and_parts (nat_eq bits 0) (not f) e).0

-- the bits again
pub r_of : (f : Bool) (w r x b : ℕ) → w < 2 → r < 2 → x < 2 → b < 2 → rex_r (rex_of f (8 * w + (4 * r + (2 * x + b)))) ≡ r
r_of f w r x b hw hr hx hb =
    cond_both (nat_eq (8 * w + (4 * r + (2 * x + b))) 0 && not f) _ _ (λ n. rex_r n ≡ r)
    (λ e. let z : 8 * w + (4 * r + (2 * x + b)) ≡ 0 = bits_zero f _ e in omega arith) (λ e. omega arith)

pub x_of : (f : Bool) (w r x b : ℕ) → w < 2 → r < 2 → x < 2 → b < 2 → rex_x (rex_of f (8 * w + (4 * r + (2 * x + b)))) ≡ x
x_of f w r x b hw hr hx hb =
    cond_both (nat_eq (8 * w + (4 * r + (2 * x + b))) 0 && not f) _ _ (λ n. rex_x n ≡ x)
    (λ e. let z : 8 * w + (4 * r + (2 * x + b)) ≡ 0 = bits_zero f _ e in omega arith) (λ e. omega arith)

pub b_of : (f : Bool) (w r x b : ℕ) → w < 2 → r < 2 → x < 2 → b < 2 → rex_b (rex_of f (8 * w + (4 * r + (2 * x + b)))) ≡ b
b_of f w r x b hw hr hx hb =
    cond_both (nat_eq (8 * w + (4 * r + (2 * x + b))) 0 && not f) _ _ (λ n. rex_b n ≡ b)
    (λ e. let z : 8 * w + (4 * r + (2 * x + b)) ≡ 0 = bits_zero f _ e in omega arith) (λ e. omega arith)

pub w_of : (f : Bool) (w r x b : ℕ) → w < 2 → r < 2 → x < 2 → b < 2 → rex_of f (8 * w + (4 * r + (2 * x + b))) / 8 % 2 ≡ w
w_of f w r x b hw hr hx hb =
    cond_both (nat_eq (8 * w + (4 * r + (2 * x + b))) 0 && not f) _ _ (λ n. n / 8 % 2 ≡ w)
    (λ e. let z : 8 * w + (4 * r + (2 * x + b)) ≡ 0 = bits_zero f _ e in omega arith) (λ e. omega arith)

both_ways' : (n : ℕ) → (nat_eq n 0 && false) ≡ true → ⊥
both_ways' n e = let k : false ≡ true = (and_parts (nat_eq n 0) false e).1 in absurd (cc)

high_agrees : (n : ℕ) → (n ≡ 0 → ⊥) → low_agrees n true ≡ true
high_agrees n h = let k : nat_eq n 0 ≡ false = ne_eqb n 0 h in
    cond_both (nat_eq n 0) _ _ (λ c. c ≡ true) (λ e. absurd (cc)) (λ e. cond_both (nat_eq n 0x40) _ _ (λ c. c ≡ true) (λ f. refl) (λ f. refl))

more_agrees : (bits : ℕ) → (bits ≡ 0 → ⊥) → low_agrees (0x40 + bits) false ≡ true
more_agrees bits h =
    let k : nat_eq (0x40 + bits) 0 ≡ false = ne_eqb _ _ (λ z. absurd (omega arith)) in
    let l : nat_eq (0x40 + bits) 0x40 ≡ false = ne_eqb _ _ (λ z. h (omega arith)) in simp (k, l)

-- REX agrees with what forces_rex it
pub agrees : (f : Bool) (bits : ℕ) → low_agrees (rex_of f bits) f ≡ true
agrees true bits =
    cond_both (nat_eq bits 0 && false) _ _ (λ n. low_agrees n true ≡ true)
    (λ e. absurd (both_ways' bits e)) (λ e. high_agrees (0x40 + bits) (λ z. absurd (omega arith)))
agrees false bits =
    cond_both (nat_eq bits 0 && true) _ _ (λ n. low_agrees n false ≡ true)
    (λ e. refl) (λ e. more_agrees bits (λ z. grind (arith, common_steps)))

-- the bits of operands in registers and memory
pub record Rexed (f w : Bool) (g : ℕ) (rm : Rm) : Type 0 where
  pub r : rex_r (rex_of f (rex_bits w (InModrm g false rm false))) ≡ g / 8
  pub x : rex_x (rex_of f (rex_bits w (InModrm g false rm false))) ≡ rm_index rm
  pub b : rex_b (rex_of f (rex_bits w (InModrm g false rm false))) ≡ rm_base rm
  pub wide : rex_w (rex_of f (rex_bits w (InModrm g false rm false))) ≡ w

unfoldable pub wide_bit : Bool → ℕ
wide_bit true = 1
wide_bit false = 0

pub bits_sum : (w : Bool) (g : ℕ) (a : Bool) (rm : Rm) (b : Bool) → rex_bits w (InModrm g a rm b) ≡ 8 * wide_bit w + (4 * (g / 8) + (2 * rm_index rm + rm_base rm))
unfolding rex_bits high_bits rm_high wide_bit
bits_sum true g a (InReg r) b = omega arith
bits_sum false g a (InReg r) b = omega arith
bits_sum true g a (InMem m) b = omega arith
bits_sum false g a (InMem m) b = omega arith

index_small : (rm : Rm) → IsTrue (rm_ok rm) → rm_index rm < 2
index_small (InReg r) h = omega arith
index_small (InMem m) h = index_high-lt m.index (grind (arith, common_steps))

base_small : (rm : Rm) → IsTrue (rm_ok rm) → rm_base rm < 2
base_small (InReg r) h = grind (arith, common_steps)
base_small (InMem m) h = base_high-lt m.base m.index (grind (arith, common_steps))

wide_small : (w : Bool) → wide_bit w < 2
unfolding wide_bit
wide_small true = omega arith
wide_small false = omega arith

wide_back : (w : Bool) (n : ℕ) → n ≡ wide_bit w → nat_eq n 1 ≡ w
unfolding wide_bit
wide_back true n e = rw e refl
wide_back false n e = rw e refl

pub rexed : (f w : Bool) (g : ℕ) (rm : Rm) → g < 16 → IsTrue (rm_ok rm) → Rexed f w g rm
rexed f w g rm h k =
    let ww = wide_small w in
    let gg : g / 8 < 2 = omega arith in
    let xx = index_small rm k in
    let bb = base_small rm k in
    record {
      r = rw (bits_sum w g false rm false) (r_of f _ _ _ _ ww gg xx bb);
      x = rw (bits_sum w g false rm false) (x_of f _ _ _ _ ww gg xx bb);
      b = rw (bits_sum w g false rm false) (b_of f _ _ _ _ ww gg xx bb);
      wide = rw (bits_sum w g false rm false) (wide_back w _ (w_of f _ _ _ _ ww gg xx bb));
    }

-- what a row with operands takes
pub record Takes (row : Row) (g : ℕ) (rm : Rm) : Type 0 where
  pub bare : is_bare row ≡ false
  pub inside : is_in_opcode row ≡ false
  pub high : (nat_eq (g / 8) 0 || any_reg row) ≡ true
  pub code : takes row (g % 8) ≡ true
  pub form : rm_form row rm ≡ true
  pub small : g < 16
  pub valid : IsTrue (rm_ok rm)

abbrev pub forced : Row → ℕ → Rm → Bool
forced row g rm = (low_in_reg row && is_low g) || (low_in_rm row && rm_is_low rm)

abbrev pub rex_for : Row → Bool → ℕ → Rm → ℕ
rex_for row w g rm = rex_of (forced row g rm) (rex_bits w (InModrm g false rm false))

not_forced : (rex : ℕ) → low_agrees rex false ≡ true → nat_eq rex 0x40 ≡ false
not_forced rex h = grind (arith, common_steps)

or_mid : (a c : Bool) → (a || true || c) ≡ true
or_mid true c = refl
or_mid false c = refl

or_last : (a : Bool) → (a || true) ≡ true
or_last true = refl
or_last false = refl

low_row : (rex : ℕ) (a b c d : Bool) → low_agrees rex ((a && b) || (c && d)) ≡ true → (not (nat_eq rex 0x40) || a || c) ≡ true
low_row rex true b c d h = or_mid (not (nat_eq rex 0x40)) c
low_row rex false b true d h = or_last (not (nat_eq rex 0x40) || false)
low_row rex false b false d h = let k : nat_eq rex 0x40 ≡ false = not_forced rex h in simp k

begin_ops : (head : Head) (row : Row) (g : ℕ) (rm : Rm) → Takes row g rm → rex_r head.rex ≡ g / 8 → low_agrees head.rex (forced row g rm) ≡ true → begin head row ≡ Go (ModRm head row)
unfolding begin
begin_ops head row g rm t r l =
    let o : (nat_eq (rex_r head.rex) 0 || any_reg row) ≡ true = rw r t.high in
    simp (t.bare, t.inside, o, low_row head.rex (low_in_reg row) (is_low g) (low_in_rm row) (rm_is_low rm) l)

-- an opcode and its operands
pub opcode_ops : (p : ℕ) (w escape : Bool) (op g : ℕ) (rm : Rm) (row : Row) → row_of p w escape (key_of escape op) ≡ Some row → Takes row g rm
    → feed (rm_bytes g rm) (opcode_step p (rex_for row w g rm) escape op) ≡ done (record { prefix = p; rex = rex_for row w g rm; escape = escape; opcode = op }) row g rm
unfolding opcode_step
opcode_ops p w escape op g rm row e t =
    let x = rexed (forced row g rm) w g rm t.small t.valid in
    let l = agrees (forced row g rm) (rex_bits w (InModrm g false rm false)) in
    let head : Head = record { prefix = p; rex = rex_for row w g rm; escape = escape; opcode = op } in
    let s : opcode_step p (rex_for row w g rm) escape op ≡ Go (ModRm head row) =
    rw (x.wide, e) (begin_ops head row g rm t x.r l) in
    ap (λ n. feed (rm_bytes g rm) n) s
    ∙ rm_all head row g rm (record { high = x.r; code = t.code; index = x.x; base = x.b; low = l; form = t.form; valid = t.valid })
