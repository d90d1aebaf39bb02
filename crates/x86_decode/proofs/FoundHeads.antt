-- Prefix, REX, 0F and opcode: what leads on from there spells an instruction.
use Rattle.std.proofs.Common.{◌≡◌, ◌≤◌, ◌<◌, ◌+◌, ◌-◌, ◌*◌, ◌/◌, ◌%◌, IsTrue, true, false, Bool, ℕ, arith, nat_eq, nat_lt, ℤ, refl, List, [], ◌∷◌, ◌++◌, sym, subst, ap, ◌∙◌, append_assoc, inl, inr}
use Rattle.std.specs.Prelude.{Option, Some, None, if◌then◌else◌, ◌&&◌, ◌||◌, not, ◌⊎◌}
use Rattle.std.proofs.lemmas.Bool.{and_parts, or_cases, eqb-true, ne_eqb}
use Rattle.std.proofs.lemmas.Grind.{common_steps}
use Rattle.std.proofs.lemmas.List.{append-nil}
use Rattle.x86_forms.specs.declared.instr.Rm.{Rm}
use Rattle.x86_forms.specs.declared.instr.Rm.TheVariants.{Reg as InReg}
use Rattle.x86_forms.specs.declared.layout.Layout.{Layout}
use Rattle.x86_forms.specs.declared.layout.Operands.{Operands}
use Rattle.x86_forms.specs.declared.layout.Operands.TheVariants.{Bare, InOpcode}
use Rattle.x86_forms.specs.Fits.{fits_32}
use Rattle.x86_forms.specs.Layout.{layout_of}
use Rattle.x86_forms.specs.Spelling.{bytes_of, low_bytes, prefix_bytes, escape_bytes, rex_bytes, rex_bits, high_bits, forces_rex, operand_bytes}
use Rattle.x86_forms.specs.Validity.{valid_of, condition_ok, mov_imm_ok}
use Rattle.x86_decode.specs.declared.rows.Row.{Row}
use Rattle.x86_decode.specs.declared.rows.Row.TheVariants.{MovImm, Wide, Push, Pop, CallRel, JmpRel, Jcc, Ret, Syscall, Ud2, Nop}
use Rattle.x86_decode.specs.declared.states.Head.{Head}
use Rattle.x86_decode.specs.declared.states.State.TheVariants.{Start, Prefix, Rex, Escape}
use Rattle.x86_decode.specs.Rows.{row_of, build, imm_len, is_bare, is_in_opcode, any_reg, low_in_reg, low_in_rm}
use Rattle.x86_decode.specs.Steps.{rex_w, rex_r, rex_x, rex_b, low_agrees, register, begin, begins, opcode_step, key_of, live_rex, after_prefix, escape_or_opcode, step_of, imm_fine}
use Rattle.x86_decode.proofs.Builds.{imm_fits, zero_is, reg_small, both as both_true}
use Rattle.x86_decode.proofs.Cases.{word_cases}
use Rattle.x86_decode.proofs.FoundImm.{leads-done}
use Rattle.x86_decode.proofs.FoundOperands.{not_true}
use Rattle.x86_decode.proofs.Keys.{keyed, key_of_row, row_ok}
use Rattle.x86_decode.proofs.Parts.{rex_part}
use Rattle.x86_decode.proofs.ReadFront.{IsPrefix, IsRex}
use Rattle.x86_decode.proofs.Reached.{Awaits, RexOk, EscapeOk, Leads, leads-dead, both}
use Rattle.x86_decode.proofs.Written.{HeadOk, head_bytes, rex_back, bits_back}

abbrev layout_with : Row → Operands → ℤ → Layout
layout_with row ops z = record { prefix = (key_of_row row).prefix; wide = (key_of_row row).wide; escape = (key_of_row row).escape; opcode = (key_of_row row).opcode; operands = ops; imm = z; imm_len = imm_len row }

pub record BuildsWith (row : Row) (ops : Operands) (g : ℕ) (rm : Rm) (z : ℤ) : Type 0 where
  pub valid : IsTrue (valid_of (build row g rm z))
  pub layout : layout_of (build row g rm z) ≡ layout_with row ops z

-- rows whose opcode says all
builds-bare : (row : Row) (g : ℕ) (rm : Rm) (z : ℤ) → is_bare row ≡ true → row_ok row ≡ true → imm_fits row z ≡ true → BuildsWith row Bare g rm z
unfolding is_bare build imm_len
builds-bare (Wide w) g rm z b o f = record { valid = o; layout = ap (λ y. layout_with (Wide w) Bare y) (sym (zero_is z f)) }
builds-bare (Ret p) g rm z b o f = record { valid = refl; layout = ap (λ y. layout_with (Ret p) Bare y) (sym (zero_is z f)) }
builds-bare Syscall g rm z b o f = record { valid = refl; layout = ap (λ y. layout_with Syscall Bare y) (sym (zero_is z f)) }
builds-bare Ud2 g rm z b o f = record { valid = refl; layout = ap (λ y. layout_with Ud2 Bare y) (sym (zero_is z f)) }
builds-bare Nop g rm z b o f = record { valid = refl; layout = ap (λ y. layout_with Nop Bare y) (sym (zero_is z f)) }
builds-bare (CallRel p) g rm z b o f = record { valid = f; layout = refl }
builds-bare (JmpRel p) g rm z b o f = record { valid = f; layout = refl }
builds-bare (Jcc p c) g rm z b o f = record { valid = both_true (condition_ok c) (fits_32 z) o f; layout = refl }
builds-bare row g rm z b o f = absurd (cc)

bare-inside : (row : Row) → is_bare row ≡ true → is_in_opcode row ≡ false
unfolding is_bare is_in_opcode
bare-inside Push b = absurd (cc)
bare-inside Pop b = absurd (cc)
bare-inside (MovImm w) b = absurd (cc)
bare-inside row b = refl

bare_rex : (rex : ℕ) → (nat_eq rex 0 || nat_eq rex 0x48) ≡ true → rex_bytes false (rex_bits (rex_w rex) Bare) ≡ rex_part rex
unfolding rex_bytes rex_bits high_bits
bare_rex rex h = elim (or_cases (nat_eq rex 0) (nat_eq rex 0x48) h) [
  | inl e ↦ subst (λ rex. rex_bytes false (rex_bits (rex_w rex) Bare) ≡ rex_part rex) (sym (eqb-true rex 0 e)) refl
  | inr e ↦ subst (λ rex. rex_bytes false (rex_bits (rex_w rex) Bare) ≡ rex_part rex) (sym (eqb-true rex 0x48 e)) refl
]

regroup : (p r e : List ℕ) (o : ℕ) (i : List ℕ) → p ++ (r ++ (e ++ ((o ∷ []) ++ i))) ≡ (p ++ (r ++ (e ++ (o ∷ [])))) ++ i
regroup p r e o i = simp append_assoc

opcode_same : (b : Bool) (op : ℕ) → b ≡ false → (if b then op - op % 8 else op) ≡ op
opcode_same b op e = rw e refl

bare_bytes : (h : Head) (row : Row) (z : ℤ) → HeadOk h row → is_bare row ≡ true → (nat_eq h.rex 0 || nat_eq h.rex 0x48) ≡ true → bytes_of (layout_with row Bare z) ≡ head_bytes h ++ low_bytes (imm_len row) z
unfolding operand_bytes forces_rex
bare_bytes h row z k b x =
    let o : (key_of_row row).opcode ≡ h.opcode = k.keyed.opcode ∙ opcode_same (is_in_opcode row) h.opcode (bare-inside row b) in
    simp (k.keyed.prefix, k.keyed.wide, k.keyed.escape, o, bare_rex h.rex x) (regroup (prefix_bytes h.prefix) (rex_part h.rex) (escape_bytes h.escape) h.opcode (low_bytes (imm_len row) z))

awaits-bare : (h : Head) (row : Row) (g : ℕ) (rm : Rm) → HeadOk h row → is_bare row ≡ true → (nat_eq h.rex 0 || nat_eq h.rex 0x48) ≡ true → Awaits row g rm (head_bytes h)
awaits-bare h row g rm k b x = λ z f q.
    let w = builds-bare row g rm z b k.keyed.ok f in
    record { valid = w.valid; bytes = sym (ap bytes_of w.layout ∙ bare_bytes h row z k b x) }

-- rows with a register in the opcode
not_wide : (z : ℤ) → imm_fine (MovImm 64) z ≡ true → fits_32 z ≡ false
unfolding imm_fine
not_wide z h = not_true (fits_32 z) h

builds-MovImm : (w g : ℕ) (rm : Rm) (z : ℤ) → row_ok (MovImm w) ≡ true → imm_fits (MovImm w) z ≡ true → imm_fine (MovImm w) z ≡ true → g < 16 → BuildsWith (MovImm w) (InOpcode g) g rm z
unfolding build imm_len
builds-MovImm w g rm z o f q s =
    word_cases w (λ w. imm_fits (MovImm w) z ≡ true → imm_fine (MovImm w) z ≡ true → BuildsWith (MovImm w) (InOpcode g) g rm z) o
    (λ f q. record { valid = both_true (nat_lt g 16) (fits_32 z) (reg_small g s) f; layout = refl })
    (λ f q. record { valid = both_true (nat_lt g 16) (mov_imm_ok 64 z) (reg_small g s) f; layout = rw (not_wide z q) refl }) f q

builds-opcode : (row : Row) (g : ℕ) (rm : Rm) (z : ℤ) → is_in_opcode row ≡ true → row_ok row ≡ true → imm_fits row z ≡ true → imm_fine row z ≡ true → g < 16 → BuildsWith row (InOpcode g) g rm z
unfolding is_in_opcode build imm_len
builds-opcode Push g rm z b o f q s = record { valid = reg_small g s; layout = ap (λ y. layout_with Push (InOpcode g) y) (sym (zero_is z f)) }
builds-opcode Pop g rm z b o f q s = record { valid = reg_small g s; layout = ap (λ y. layout_with Pop (InOpcode g) y) (sym (zero_is z f)) }
builds-opcode (MovImm w) g rm z b o f q s = builds-MovImm w g rm z o f q s
builds-opcode row g rm z b o f q s = absurd (cc)

low_rex : (rex : ℕ) → nat_eq rex 0x40 ≡ false → low_agrees rex false ≡ true
low_rex rex h = both_ways (nat_eq rex 0)
  where
    both_ways : (b : Bool) → (if b then true else if nat_eq rex 0x40 then false else true) ≡ true
    both_ways true = refl
    both_ways false = rw h refl

wide_part : (n : ℕ) → (if nat_eq (n % 2) 1 then 8 else 0) ≡ 8 * (n % 2)
wide_part n = grind (arith, common_steps)

opcode_rex : (p rex g : ℕ) → IsRex p rex → rex_r rex ≡ 0 → rex_x rex ≡ 0 → nat_eq rex 0x40 ≡ false → rex_b rex ≡ g / 8 → rex_bytes false (rex_bits (rex_w rex) (InOpcode g)) ≡ rex_part rex
unfolding rex_bits high_bits
opcode_rex p rex g c r x n b = rw (wide_part (rex / 8)) (rex_back rex _ false (low_rex rex n) (by_rex c))
  where
    by_rex : IsRex p rex → ((rex ≡ 0) × (8 * (rex / 8 % 2) + g / 8 ≡ 0)) ⊎ ((rex / 16 ≡ 4) × (0x40 + (8 * (rex / 8 % 2) + g / 8) ≡ rex))
    by_rex (inl z) = inl (z, omega arith)
    by_rex (inr z) = inr (z.0, omega (arith, bits_back rex z.0))

opcode_back : (b : Bool) (op g o : ℕ) → b ≡ true → o ≡ (if b then op - op % 8 else op) → g % 8 ≡ op % 8 → o + g % 8 ≡ op
opcode_back b op g o e f k = let f' : o ≡ op - op % 8 = subst (λ b. o ≡ (if b then op - op % 8 else op)) e f in omega arith

opcode_bytes : (h : Head) (row : Row) (g : ℕ) (z : ℤ) → HeadOk h row → is_in_opcode row ≡ true → rex_r h.rex ≡ 0 → rex_x h.rex ≡ 0 → nat_eq h.rex 0x40 ≡ false → rex_b h.rex ≡ g / 8 → g % 8 ≡ h.opcode % 8
    → bytes_of (layout_with row (InOpcode g) z) ≡ head_bytes h ++ low_bytes (imm_len row) z
unfolding operand_bytes forces_rex
opcode_bytes h row g z k b r x n y l =
    let o : (key_of_row row).opcode + g % 8 ≡ h.opcode = opcode_back (is_in_opcode row) h.opcode g (key_of_row row).opcode b k.keyed.opcode l in
    simp (k.keyed.prefix, k.keyed.wide, k.keyed.escape, o, opcode_rex h.prefix h.rex g k.rex r x n y) (regroup (prefix_bytes h.prefix) (rex_part h.rex) (escape_bytes h.escape) h.opcode (low_bytes (imm_len row) z))

awaits-opcode : (h : Head) (row : Row) (g : ℕ) (rm : Rm) → HeadOk h row → is_in_opcode row ≡ true → rex_r h.rex ≡ 0 → rex_x h.rex ≡ 0 → nat_eq h.rex 0x40 ≡ false → rex_b h.rex ≡ g / 8 → g % 8 ≡ h.opcode % 8 → g < 16 → Awaits row g rm (head_bytes h)
awaits-opcode h row g rm k b r x n y l s = λ z f q.
    let w = builds-opcode row g rm z b k.keyed.ok f q s in
    record { valid = w.valid; bytes = sym (ap bytes_of w.layout ∙ opcode_bytes h row g z k b r x n y l) }

-- a row begins
rex_b-le : (rex : ℕ) → rex_b rex ≤ 1
rex_b-le rex = omega arith

leads-begin : (h : Head) (row : Row) → HeadOk h row → h.opcode < 256 → opcode_step h.prefix h.rex h.escape h.opcode ≡ begin h row → Leads (head_bytes h) (begin h row)
unfolding begin
leads-begin h row k s from =
    both (head_bytes h) (is_bare row) _ _
    (λ e. both (head_bytes h) (nat_eq h.rex 0 || nat_eq h.rex 0x48) _ _
    (λ x. leads-done h row 0 (InReg (register 0)) (head_bytes h) k.keyed.ok (awaits-bare h row 0 (InReg (register 0)) k e x))
    (λ x. leads-dead _))
    (λ e. both (head_bytes h) (is_in_opcode row) _ _
    (λ i. both (head_bytes h) (nat_eq (rex_r h.rex) 0 && nat_eq (rex_x h.rex) 0 && not (nat_eq h.rex 0x40)) _ _
    (λ x. let x' = and_parts (nat_eq (rex_r h.rex) 0 && nat_eq (rex_x h.rex) 0) (not (nat_eq h.rex 0x40)) x in let y = and_parts (nat_eq (rex_r h.rex) 0) (nat_eq (rex_x h.rex) 0) x'.0 in
    leads-done h row (h.opcode % 8 + 8 * rex_b h.rex) (InReg (register 0)) (head_bytes h) k.keyed.ok
    (awaits-opcode h row (h.opcode % 8 + 8 * rex_b h.rex) (InReg (register 0)) k i (eqb-true _ _ y.0) (eqb-true _ _ y.1) (not_true (nat_eq h.rex 0x40) x'.1) (omega arith) (omega arith) (omega (arith, rex_b-le h.rex))))
    (λ x. leads-dead _))
    (λ i. both (head_bytes h) ((nat_eq (rex_r h.rex) 0 || any_reg row) && (not (nat_eq h.rex 0x40) || low_in_reg row || low_in_rm row)) _ _
    (λ x. let x' = and_parts (nat_eq (rex_r h.rex) 0 || any_reg row) (not (nat_eq h.rex 0x40) || low_in_reg row || low_in_rm row) x in
    record { leads = record { head = k; modrm = record { bare = e; inside = i; high = x'.0 }; begins = from ∙ rw (e, i, x) refl; small = s; bytes = refl } })
    (λ x. leads-dead _)))

leads-begins : (o : Option Row) (p rex : ℕ) (e : Bool) (op : ℕ) → IsPrefix p → IsRex p rex → op < 256 → row_of p (rex_w rex) e (key_of e op) ≡ o
    → Leads (head_bytes (record { prefix = p; rex = rex; escape = e; opcode = op })) (begins o (record { prefix = p; rex = rex; escape = e; opcode = op }))
unfolding opcode_step
leads-begins None p rex e op q r s h = leads-dead _
leads-begins (Some row) p rex e op q r s h =
    leads-begin (record { prefix = p; rex = rex; escape = e; opcode = op }) row
    (record { prefix = q; rex = r; keyed = keyed p (rex_w rex) e op row q s h }) s (ap (λ o. begins o (record { prefix = p; rex = rex; escape = e; opcode = op })) h)

leads-opcode : (p rex : ℕ) (e : Bool) (op : ℕ) (read : List ℕ) → IsPrefix p → IsRex p rex → op < 256 → read ≡ prefix_bytes p ++ (rex_part rex ++ escape_bytes e) → Leads (read ++ (op ∷ [])) (opcode_step p rex e op)
unfolding opcode_step
leads-opcode p rex e op read q r s h =
    subst (λ xs. Leads xs (opcode_step p rex e op)) (sym (ap (λ xs. xs ++ (op ∷ [])) h ∙ group (prefix_bytes p) (rex_part rex) (escape_bytes e) (op ∷ [])))
    (leads-begins (row_of p (rex_w rex) e (key_of e op)) p rex e op q r s refl)
  where
    group : (a b c d : List ℕ) → (a ++ (b ++ c)) ++ d ≡ a ++ (b ++ (c ++ d))
    group a b c d = simp append_assoc

leads-rex : (p rex b : ℕ) (read : List ℕ) → IsPrefix p → IsRex p rex → b < 256 → read ≡ prefix_bytes p ++ rex_part rex → Leads (read ++ (b ∷ [])) (escape_or_opcode p rex b)
unfolding escape_or_opcode escape_bytes
leads-rex p rex b read q r s h =
    both _ (nat_eq b 0x0F) _ _
    (λ e. both _ (not (nat_eq p 0x66) || nat_eq (rex_r rex) 0) _ _
    (λ x. record {
      leads = record {
        prefix = q;
        rex_fits = r;
        escape = x;
        bytes = ap (λ xs. xs ++ (b ∷ [])) h ∙ append_assoc (prefix_bytes p) (rex_part rex) (b ∷ []) ∙ ap (λ c. prefix_bytes p ++ (rex_part rex ++ (c ∷ []))) (eqb-true b 0x0F e);
      };
    })
    (λ x. leads-dead _))
    (λ e. leads-opcode p rex false b read q r s (h ∙ ap (λ xs. prefix_bytes p ++ xs) (sym (append-nil (rex_part rex)))))

leads-prefix : (p b : ℕ) (read : List ℕ) → IsPrefix p → b < 256 → read ≡ prefix_bytes p → Leads (read ++ (b ∷ [])) (after_prefix p b)
unfolding after_prefix
leads-prefix p b read q s h =
    both _ (nat_eq (b / 16) 4) _ _
    (λ e. both _ (live_rex p b) _ _
    (λ l. record { leads = record { prefix = q; rex_byte = eqb-true _ _ e; live = l; bytes = ap (λ xs. xs ++ (b ∷ [])) h } })
    (λ l. leads-dead _))
    (λ e. leads-rex p 0 b read q (inl refl) s (h ∙ sym (append-nil (prefix_bytes p))))

start_prefix : (b : ℕ) → (nat_eq b 0x66 || nat_eq b 0xF2 || nat_eq b 0xF3) ≡ true → (b ≡ 0x66) ⊎ ((b ≡ 0xF2) ⊎ (b ≡ 0xF3))
start_prefix b h = elim (or_cases (nat_eq b 0x66 || nat_eq b 0xF2) (nat_eq b 0xF3) h) [
  | inr e ↦ inr (inr (eqb-true _ _ e))
  | inl k ↦ elim (or_cases (nat_eq b 0x66) (nat_eq b 0xF2) k) [ inl e ↦ inl (eqb-true _ _ e) | inr e ↦ inr (inl (eqb-true _ _ e)) ]
]

pub leads-start : (b : ℕ) (read : List ℕ) → read ≡ [] → b < 256 → Leads (read ++ (b ∷ [])) (step_of Start b)
unfolding step_of prefix_bytes
leads-start b read h s =
    both _ (nat_eq b 0x66 || nat_eq b 0xF2 || nat_eq b 0xF3) _ _
    (λ e. record { leads = (start_prefix b e, ap (λ xs. xs ++ (b ∷ [])) h) })
    (λ e. leads-prefix 0 b read (inl refl) s h)

pub prefix_of : (p : ℕ) → (p ≡ 0x66) ⊎ ((p ≡ 0xF2) ⊎ (p ≡ 0xF3)) → prefix_bytes p ≡ p ∷ []
unfolding prefix_bytes
prefix_of p (inl e) = subst (λ p. prefix_bytes p ≡ p ∷ []) (sym e) refl
prefix_of p (inr (inl e)) = subst (λ p. prefix_bytes p ≡ p ∷ []) (sym e) refl
prefix_of p (inr (inr e)) = subst (λ p. prefix_bytes p ≡ p ∷ []) (sym e) refl

pub leads-after_prefix : (p b : ℕ) (read : List ℕ) → ((p ≡ 0x66) ⊎ ((p ≡ 0xF2) ⊎ (p ≡ 0xF3))) × (read ≡ p ∷ []) → b < 256 → Leads (read ++ (b ∷ [])) (step_of (Prefix p) b)
unfolding step_of
leads-after_prefix p b read k s = leads-prefix p b read (inr k.0) s (k.1 ∙ sym (prefix_of p k.0))

pub leads-after_rex : (p rex b : ℕ) (read : List ℕ) → RexOk p rex read → b < 256 → Leads (read ++ (b ∷ [])) (step_of (Rex p rex) b)
unfolding step_of
leads-after_rex p rex b read k s =
    leads-rex p rex b read k.prefix (inr (k.rex_byte, k.live)) s (k.bytes ∙ ap (λ xs. prefix_bytes p ++ xs) (sym (rex_some rex k.rex_byte)))
  where
    rex_some : (rex : ℕ) → rex / 16 ≡ 4 → rex_part rex ≡ rex ∷ []
    rex_some rex e = let k : nat_eq rex 0 ≡ false = ne_eqb _ _ (λ z. absurd (omega arith)) in simp k

pub leads-after_escape : (p rex b : ℕ) (read : List ℕ) → EscapeOk p rex read → b < 256 → Leads (read ++ (b ∷ [])) (step_of (Escape p rex) b)
unfolding step_of escape_bytes
leads-after_escape p rex b read k s = leads-opcode p rex true b read k.prefix k.rex_fits s k.bytes
