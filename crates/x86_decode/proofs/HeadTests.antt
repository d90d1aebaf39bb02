-- Tests over the states before the operands: how many bytes are still needed.
use Rattle.std.proofs.Common.{◌≡◌, ◌<◌, ◌+◌, ◌/◌, true, false, Bool, ℕ, nat_eq, refl, sym, subst, inl, inr, arith, List}
use Rattle.std.specs.Prelude.{if◌then◌else◌, ◌&&◌, ◌⊎◌, nat_le}
use Rattle.std.proofs.lemmas.Bool.{ne_eqb}
use Rattle.x86_forms.specs.Spelling.{is_low}
use Rattle.x86_decode.specs.declared.rows.Row.{Row}
use Rattle.x86_decode.specs.declared.states.Head.{Head}
use Rattle.x86_decode.specs.declared.states.State.{State}
use Rattle.x86_decode.specs.declared.states.State.TheVariants.{Start, Prefix, Rex, Escape, ModRm}
use Rattle.x86_decode.specs.declared.states.Next.{Next}
use Rattle.x86_decode.specs.declared.states.Next.TheVariants.{Dead, Go, End}
use Rattle.x86_decode.specs.Rows.{one_plain, two_plain, one_66, two_66, one_f2, two_f2, two_f3, row_of, is_bare, is_in_opcode, imm_len, any_reg, takes, takes_reg, low_in_reg, low_in_rm, allows_rip, allows_no_base, build}
use Rattle.x86_decode.specs.Run.{least_of}
use Rattle.x86_decode.specs.Steps.{step_of, begin, opcode_step, after_prefix, escape_or_opcode, done, over, no_base, modrm_reg, modrm_mem, modrm_step}
use Rattle.x86_decode.proofs.ReadFront.{IsPrefix, IsRex}
use Rattle.x86_decode.proofs.Reached.{RexOk, EscapeOk, escapes}
use Rattle.x86_decode.proofs.Exhaustive.{every, every-at, some, each_rex, each_rex-at}

-- a byte takes at most one off what is needed
abbrev pub lower_next : ℕ → Next → Bool
lower_next n Dead = true
lower_next n (Go s) = nat_le n (1 + least_of s)
lower_next n (End i) = nat_le n 1

abbrev lower_state : State → Bool
lower_state s = every 256 (λ b. lower_next (least_of s) (step_of s b))

-- the byte is one of those that complete the state soonest
abbrev pub nearer : ℕ → Next → Bool
nearer n Dead = false
nearer n (End i) = nat_eq n 1
nearer n (Go s) = nat_eq n (1 + least_of s)

abbrev pub soonest : State → Bool
soonest s = some 256 (λ b. nearer (least_of s) (step_of s b))

-- a test of all states before the operands
abbrev over_rex : (State → Bool) → ℕ → Bool
over_rex f p = each_rex p (λ rex. (if nat_eq rex 0 then true else f (Rex p rex)) && (if escapes p rex then f (Escape p rex) else true))

pub record Heads (f : State → Bool) : Type 0 where
  pub start : f Start ≡ true
  pub prefix_66 : f (Prefix 0x66) ≡ true
  pub prefix_f2 : f (Prefix 0xF2) ≡ true
  pub prefix_f3 : f (Prefix 0xF3) ≡ true
  pub rex_none : over_rex f 0 ≡ true
  pub rex_66 : over_rex f 0x66 ≡ true
  pub rex_f2 : over_rex f 0xF2 ≡ true
  pub rex_f3 : over_rex f 0xF3 ≡ true

at_prefix : (f : State → Bool) (p : ℕ) → Heads f → IsPrefix p → over_rex f p ≡ true
at_prefix f p h (inl e) = subst (λ p. over_rex f p ≡ true) (sym e) h.rex_none
at_prefix f p h (inr (inl e)) = subst (λ p. over_rex f p ≡ true) (sym e) h.rex_66
at_prefix f p h (inr (inr (inl e))) = subst (λ p. over_rex f p ≡ true) (sym e) h.rex_f2
at_prefix f p h (inr (inr (inr e))) = subst (λ p. over_rex f p ≡ true) (sym e) h.rex_f3

at_rex : (f : State → Bool) (p rex : ℕ) → Heads f → IsPrefix p → IsRex p rex → ((if nat_eq rex 0 then true else f (Rex p rex)) && (if escapes p rex then f (Escape p rex) else true)) ≡ true
at_rex f p rex h q r = each_rex-at p rex (λ rex. (if nat_eq rex 0 then true else f (Rex p rex)) && (if escapes p rex then f (Escape p rex) else true)) (at_prefix f p h q) r

pub heads-start : (f : State → Bool) → Heads f → f Start ≡ true
heads-start f h = h.start

pub heads-prefix : (f : State → Bool) (p : ℕ) → Heads f → (p ≡ 0x66) ⊎ ((p ≡ 0xF2) ⊎ (p ≡ 0xF3)) → f (Prefix p) ≡ true
heads-prefix f p h (inl e) = subst (λ p. f (Prefix p) ≡ true) (sym e) h.prefix_66
heads-prefix f p h (inr (inl e)) = subst (λ p. f (Prefix p) ≡ true) (sym e) h.prefix_f2
heads-prefix f p h (inr (inr e)) = subst (λ p. f (Prefix p) ≡ true) (sym e) h.prefix_f3

first_part : (b : Bool) (x y : Bool) → b ≡ false → ((if b then true else x) && y) ≡ true → x ≡ true
first_part b true y e h = refl
first_part b false y e h = let k : ((if false then true else false) && y) ≡ true = subst (λ b. ((if b then true else false) && y) ≡ true) e h in absurd (cc)

second_part : (b : Bool) (x y : Bool) → b ≡ true → (x && (if b then y else true)) ≡ true → y ≡ true
second_part b x true e h = refl
second_part b x false e h = both x (subst (λ b. (x && (if b then false else true)) ≡ true) e h)
  where
    both : (x : Bool) → (x && false) ≡ true → false ≡ true
    both true h = h
    both false h = h

pub heads-rex : (f : State → Bool) (p rex : ℕ) (read : List ℕ) → Heads f → RexOk p rex read → f (Rex p rex) ≡ true
heads-rex f p rex read h k =
    first_part (nat_eq rex 0) (f (Rex p rex)) (if escapes p rex then f (Escape p rex) else true) (not_zero k.rex_byte) (at_rex f p rex h k.prefix (inr (k.rex_byte, k.live)))
  where
    not_zero : rex / 16 ≡ 4 → nat_eq rex 0 ≡ false
    not_zero e = ne_eqb _ _ (λ z. absurd (omega arith))

pub heads-escape : (f : State → Bool) (p rex : ℕ) (read : List ℕ) → Heads f → EscapeOk p rex read → f (Escape p rex) ≡ true
heads-escape f p rex read h k =
    second_part (escapes p rex) (if nat_eq rex 0 then true else f (Rex p rex)) (f (Escape p rex)) k.escape (at_rex f p rex h k.prefix k.rex_fits)

pub heads_lower : Heads (λ s. lower_state s)
unfolding one_plain two_plain one_66 two_66 one_f2 two_f2 two_f3 row_of is_bare is_in_opcode imm_len any_reg low_in_reg low_in_rm build step_of begin opcode_step after_prefix escape_or_opcode done least_of
heads_lower = record { start = refl; prefix_66 = refl; prefix_f2 = refl; prefix_f3 = refl; rex_none = refl; rex_66 = refl; rex_f2 = refl; rex_f3 = refl }

pub heads_soonest : Heads (λ s. soonest s)
unfolding is_low one_plain two_plain one_66 two_66 one_f2 two_f2 two_f3 row_of is_bare is_in_opcode imm_len any_reg takes takes_reg low_in_reg low_in_rm allows_rip allows_no_base build step_of begin opcode_step after_prefix escape_or_opcode done over no_base modrm_reg modrm_mem modrm_step least_of
heads_soonest = record { start = refl; prefix_66 = refl; prefix_f2 = refl; prefix_f3 = refl; rex_none = refl; rex_66 = refl; rex_f2 = refl; rex_f3 = refl }

-- each row that begins has a byte that completes it soonest
abbrev pub soon_next : Next → Bool
soon_next Dead = true
soon_next (End i) = true
soon_next (Go (ModRm head row)) = soonest (ModRm head row)
soon_next (Go s) = true

abbrev rows_of : Bool → ℕ → Bool
rows_of e p = each_rex p (λ rex. every 256 (λ op. soon_next (opcode_step p rex e op)))

rows_0 : (e : Bool) → rows_of e 0 ≡ true
unfolding is_low one_plain two_plain row_of is_bare is_in_opcode imm_len any_reg takes takes_reg low_in_reg low_in_rm allows_rip allows_no_base build step_of begin opcode_step done over no_base modrm_reg modrm_mem modrm_step least_of
rows_0 true = refl
rows_0 false = refl

rows_66 : (e : Bool) → rows_of e 0x66 ≡ true
unfolding is_low one_66 two_66 row_of is_bare is_in_opcode imm_len any_reg takes takes_reg low_in_reg low_in_rm allows_rip allows_no_base build step_of begin opcode_step done over no_base modrm_reg modrm_mem modrm_step least_of
rows_66 true = refl
rows_66 false = refl

rows_f2 : (e : Bool) → rows_of e 0xF2 ≡ true
unfolding is_low one_f2 two_f2 row_of is_bare is_in_opcode imm_len any_reg takes takes_reg low_in_reg low_in_rm allows_rip allows_no_base build step_of begin opcode_step done over no_base modrm_reg modrm_mem modrm_step least_of
rows_f2 true = refl
rows_f2 false = refl

rows_f3 : (e : Bool) → rows_of e 0xF3 ≡ true
unfolding is_low two_f3 row_of is_bare is_in_opcode imm_len any_reg takes takes_reg low_in_reg low_in_rm allows_rip allows_no_base build step_of begin opcode_step done over no_base modrm_reg modrm_mem modrm_step least_of
rows_f3 true = refl
rows_f3 false = refl

rows_prefix : (e : Bool) (p : ℕ) → IsPrefix p → rows_of e p ≡ true
rows_prefix e p (inl k) = subst (λ p. rows_of e p ≡ true) (sym k) (rows_0 e)
rows_prefix e p (inr (inl k)) = subst (λ p. rows_of e p ≡ true) (sym k) (rows_66 e)
rows_prefix e p (inr (inr (inl k))) = subst (λ p. rows_of e p ≡ true) (sym k) (rows_f2 e)
rows_prefix e p (inr (inr (inr k))) = subst (λ p. rows_of e p ≡ true) (sym k) (rows_f3 e)

pub soon-row : (p rex : ℕ) (e : Bool) (op : ℕ) (head : Head) (row : Row) → IsPrefix p → IsRex p rex → op < 256 → opcode_step p rex e op ≡ Go (ModRm head row) → soonest (ModRm head row) ≡ true
soon-row p rex e op head row q r s h =
    subst (λ x. soon_next x ≡ true) h
    (every-at 256 op (λ op. soon_next (opcode_step p rex e op)) (each_rex-at p rex (λ rex. every 256 (λ op. soon_next (opcode_step p rex e op))) (rows_prefix e p q) r) s)
