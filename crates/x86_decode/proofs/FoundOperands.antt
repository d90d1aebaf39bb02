-- ModRM, SIB and displacement: what leads on from there spells an instruction.
use Rattle.std.proofs.Common.{◌≡◌, ◌≤◌, ◌<◌, ◌+◌, ◌*◌, ◌/◌, ◌%◌, true, false, Bool, ℕ, arith, nat_eq, nat_lt, ℤ, pos, refl, List, [], ◌∷◌, ◌++◌, length, get_or, take, sym, subst, ap, ◌∙◌, append_assoc, inl, inr}
use Rattle.std.specs.Prelude.{Option, Some, None, if◌then◌else◌, ◌&&◌, ◌||◌, not, negsuc, slice_set, ◌⊎◌}
use Rattle.std.proofs.lemmas.Bool.{and_left, and_right, eqb-true, cases_eq}
use Rattle.std.proofs.lemmas.Grind.{common_steps}
use Rattle.std.proofs.lemmas.List.{append-nil}
use Rattle.std.proofs.lemmas.List.Elements.{All-set}
use Rattle.std.proofs.Math.ListN.{length-set}
use Rattle.x86_forms.specs.declared.instr.Reg.{Reg}
use Rattle.x86_forms.specs.declared.instr.Base.{Base}
use Rattle.x86_forms.specs.declared.instr.Base.TheVariants.{Reg as BaseReg}
use Rattle.x86_forms.specs.Fits.{fits_8, fits_32}
use Rattle.x86_forms.specs.Spelling.{low_bytes, mod_of, disp_bytes, is_zero, modrm, sib, over_base, mem_bytes, rm_bytes, index_high, base_high, is_low}
use Rattle.x86_forms.specs.Validity.{index_ok, base_ok}
use Rattle.x86_decode.specs.declared.rows.Row.{Row}
use Rattle.x86_decode.specs.declared.states.Head.{Head}
use Rattle.x86_decode.specs.declared.states.State.TheVariants.{Disp}
use Rattle.x86_decode.specs.Rows.{low_in_reg, low_in_rm}
use Rattle.x86_decode.specs.Steps.{rex_x, rex_b, low_agrees, register, mem, zeros_4, over, disp_len, disp_value, disp_fine, disp_end, step_of}
use Rattle.x86_decode.proofs.Cases.{each-at}
use Rattle.x86_decode.proofs.FoundImm.{leads-operands, more_bytes}
use Rattle.x86_decode.proofs.ModrmSteps.{FitsMem}
use Rattle.x86_decode.proofs.NumberBytes.{low_bytes_8, fits_8-cast, low_bytes_32, fits_32-cast, cells_of_4}
use Rattle.x86_decode.proofs.ReadOperands.{FitsRm, base_form, or_right, not_low}
use Rattle.x86_decode.proofs.Reached.{AreBytes, DispOk, Spelled, disp_fits, Leads, leads-dead, both}
use Rattle.x86_decode.proofs.Written.{HeadOk, ModOk, head_bytes}

-- a displacement from its cells
pub record DispBack (mode : ℕ) (cells : List ℕ) : Type 0 where
  pub fits_field : disp_fits mode (disp_value mode cells) ≡ true
  pub bytes : low_bytes (disp_len mode) (disp_value mode cells) ≡ take (disp_len mode) cells

fits_8-fits_32 : (z : ℤ) → fits_8 z ≡ true → fits_32 z ≡ true
fits_8-fits_32 (pos n) h = grind (arith, common_steps)
fits_8-fits_32 (negsuc n) h = grind (arith, common_steps)

pub not_true : (b : Bool) → not b ≡ true → b ≡ false
not_true true h = absurd (cc)
not_true false h = refl

fine_2 : (d : ℤ) → disp_fine false 2 d ≡ true → fits_8 d ≡ false
unfolding disp_fine
fine_2 d h = not_true (fits_8 d) h

disp_back_1 : (cells : List ℕ) → length cells ≡ 4 → AreBytes cells → DispBack 1 cells
unfolding disp_value
disp_back_1 cells l s = cells_of_4 (λ cells. DispBack 1 cells) (λ a b c d ha hb hc hd. record { fits_field = fits_8-cast a ha; bytes = low_bytes_8 a ha }) cells l s

disp_back_4 : (mode : ℕ) (cells : List ℕ) → nat_eq mode 1 ≡ false → length cells ≡ 4 → AreBytes cells → DispBack mode cells
unfolding disp_value
disp_back_4 mode cells e l s =
    cells_of_4 (λ cells. DispBack mode cells)
    (λ a b c d ha hb hc hd. record {
      fits_field = rw e (fits_32-cast (a + b * 256 + c * 65536 + d * 16777216) (omega arith));
      bytes = rw e (low_bytes_32 a b c d ha hb hc hd);
    }) cells l s

disp_back : (mode : ℕ) (cells : List ℕ) (b : Bool) → nat_eq mode 1 ≡ b → length cells ≡ 4 → AreBytes cells → DispBack mode cells
disp_back mode cells true e l s = subst (λ m. DispBack m cells) (sym (eqb-true mode 1 e)) (disp_back_1 cells l s)
disp_back mode cells false e l s = disp_back_4 mode cells e l s

leads-disp_end : (h : Head) (row : Row) (reg mode : ℕ) (base : Base) (index : Option (Reg × ℕ)) (free : Bool) (cells read front : List ℕ) → HeadOk h row → ModOk h row → length cells ≡ 4 → AreBytes cells
    → ((d : ℤ) → disp_fits mode d ≡ true → disp_fine free mode d ≡ true → Spelled h row reg (mem base index d) (front ++ low_bytes (disp_len mode) d)) → read ≡ front ++ take (disp_len mode) cells
    → Leads read (disp_end h row reg mode base index free cells)
unfolding disp_end
leads-disp_end h row reg mode base index free cells read front k m l s q e =
    let b = disp_back mode cells (nat_eq mode 1) refl l s in
    both read (disp_fine free mode (disp_value mode cells)) _ _
    (λ f. leads-operands h row reg (mem base index (disp_value mode cells)) read k m
    (subst (λ xs. Spelled h row reg (mem base index (disp_value mode cells)) xs) (ap (λ xs. front ++ xs) b.bytes ∙ sym e) (q (disp_value mode cells) b.fits_field f)))
    (λ f. leads-dead read)

disp_len-le : (mode : ℕ) → disp_len mode ≤ 4
disp_len-le mode = grind (arith, common_steps)

pub leads-disp : (h : Head) (row : Row) (reg mode : ℕ) (base : Base) (index : Option (Reg × ℕ)) (free : Bool) (have b : ℕ) (cells read : List ℕ) → DispOk h row reg mode base index free have cells read → b < 256
    → Leads (read ++ (b ∷ [])) (step_of (Disp h row reg mode base index free have cells) b)
unfolding step_of
leads-disp h row reg mode base index free have b cells read k s =
    let l : length (slice_set cells have b) ≡ 4 = length-set cells have b ∙ k.four in
    let t : AreBytes (slice_set cells have b) = All-set (λ b. b < 256) cells have b s k.small in
    let room : have < length cells = room_for (disp_len mode) k.part k.four (disp_len-le mode) in
    let m : read ++ (b ∷ []) ≡ k.front ++ take (have + 1) (slice_set cells have b) = more_bytes k.front cells read have b k.bytes room in
    both (read ++ (b ∷ [])) (nat_eq (have + 1) (disp_len mode)) _ _
    (λ e. let n : have + 1 ≡ disp_len mode = eqb-true _ _ e in
    leads-disp_end h row reg mode base index free (slice_set cells have b) (read ++ (b ∷ [])) k.front k.head k.modrm l t k.spelled (subst (λ n. read ++ (b ∷ []) ≡ k.front ++ take n (slice_set cells have b)) n m))
    (λ e. record { leads = record { head = k.head; modrm = k.modrm; front = k.front; bytes = m; four = l; small = t; part = next_part e k.part; free_mode = k.free_mode; spelled = k.spelled } })
  where
    room_for : (n : ℕ) → have < n → length cells ≡ 4 → n ≤ 4 → have < length cells
    room_for n p l q = omega arith

    next_part : nat_eq (have + 1) (disp_len mode) ≡ false → have < disp_len mode → have + 1 < disp_len mode
    next_part e p = grind (arith, common_steps)

-- memory operands
pub fits_rm : (h : Head) (row : Row) (reg : ℕ) (base : Base) (index : Option (Reg × ℕ)) (d : ℤ) → FitsMem h row reg → rex_x h.rex ≡ index_high index → rex_b h.rex ≡ base_high base → base_form row base ≡ true
    → base_ok base index ≡ true → index_ok index ≡ true → fits_32 d ≡ true → FitsRm h row reg (mem base index d)
fits_rm h row reg base index d f x b o p q r = record {
  high = f.high;
  code = f.code;
  index = x;
  base = b;
  low = ap (low_agrees h.rex) (ap (λ c. (low_in_reg row && is_low reg) || (low_in_rm row && c)) (not_low (record { base = base; index = index; disp = d })) ∙ or_right (low_in_reg row && is_low reg) (low_in_rm row)) ∙ f.low;
  form = o;
  valid = rw (p, q, r) refl;
}

-- what stands before the displacement, over a base register
abbrev pub front_of : ℕ → ℕ → ℕ → Option (Reg × ℕ) → List ℕ
front_of mode reg r None = if nat_eq (r % 8) 4 then modrm mode reg 4 ∷ sib None r ∷ [] else modrm mode reg r ∷ []
front_of mode reg r (Some x) = modrm mode reg 4 ∷ sib (Some x) r ∷ []

cond_front : (b : Bool) (x y t : List ℕ) → (if b then x ++ t else y ++ t) ≡ (if b then x else y) ++ t
cond_front true x y t = refl
cond_front false x y t = refl

over_front : (reg r : ℕ) (index : Option (Reg × ℕ)) (d : ℤ) → over_base reg r index d ≡ front_of (mod_of r d) reg r index ++ disp_bytes (mod_of r d) d
unfolding over_base
over_front reg r None d = cond_front (nat_eq (r % 8) 4) (modrm (mod_of r d) reg 4 ∷ sib None r ∷ []) (modrm (mod_of r d) reg r ∷ []) (disp_bytes (mod_of r d) d)
over_front reg r (Some x) d = refl

-- the mod field again from the displacement that it allows
mode_0 : (r : ℕ) → nat_eq (r % 8) 5 ≡ false → mod_of r (pos 0) ≡ 0
unfolding mod_of
mode_0 r e = simp e

mode_1 : (r : ℕ) (d : ℤ) → fits_8 d ≡ true → disp_fine (nat_eq (r % 8) 5) 1 d ≡ true → mod_of r d ≡ 1
unfolding mod_of disp_fine
mode_1 r d f k = at (nat_eq (r % 8) 5) k
  where
    at : (b : Bool) → (if b then true else not (is_zero d)) ≡ true → ◌≡◌ {A = ℕ} (if is_zero d && not b then 0 else if fits_8 d then 1 else 2) 1
    at true k = rw (and_right (is_zero d) false refl, f) refl
    at false k = rw (and_left (is_zero d) true (not_true (is_zero d) k), f) refl

not_zero : (d : ℤ) → fits_8 d ≡ false → is_zero d ≡ false
not_zero (pos n) h = grind (arith, common_steps)
not_zero (negsuc n) h = refl

mode_2 : (r : ℕ) (d : ℤ) → fits_8 d ≡ false → mod_of r d ≡ 2
unfolding mod_of
mode_2 r d h = rw (and_left (is_zero d) (not (nat_eq (r % 8) 5)) (not_zero d h), h) refl

-- a displacement over a base register, by its mod field
disp_1 : (d : ℤ) → disp_bytes 1 d ≡ low_bytes 1 d
unfolding disp_bytes
disp_1 d = refl

disp_2 : (d : ℤ) → disp_bytes 2 d ≡ low_bytes 4 d
unfolding disp_bytes
disp_2 d = refl

over_1 : (reg r : ℕ) (index : Option (Reg × ℕ)) (d : ℤ) → fits_8 d ≡ true → disp_fine (nat_eq (r % 8) 5) 1 d ≡ true → over_base reg r index d ≡ front_of 1 reg r index ++ low_bytes 1 d
over_1 reg r index d f k = over_front reg r index d ∙ ap (λ m. front_of m reg r index ++ disp_bytes m d) (mode_1 r d f k) ∙ ap (λ xs. front_of 1 reg r index ++ xs) (disp_1 d)

over_2 : (reg r : ℕ) (index : Option (Reg × ℕ)) (d : ℤ) → fits_8 d ≡ false → over_base reg r index d ≡ front_of 2 reg r index ++ low_bytes 4 d
over_2 reg r index d k = over_front reg r index d ∙ ap (λ m. front_of m reg r index ++ disp_bytes m d) (mode_2 r d k) ∙ ap (λ xs. front_of 2 reg r index ++ xs) (disp_2 d)

over_0 : (reg r : ℕ) (index : Option (Reg × ℕ)) → nat_eq (r % 8) 5 ≡ false → over_base reg r index (pos 0) ≡ front_of 0 reg r index
unfolding disp_bytes
over_0 reg r index e = over_front reg r index (pos 0) ∙ ap (λ m. front_of m reg r index ++ disp_bytes m (pos 0)) (mode_0 r e) ∙ append-nil (front_of 0 reg r index)

-- what is known where a base register has been read
pub record OverOk (h : Head) (row : Row) (reg mode r : ℕ) (index : Option (Reg × ℕ)) (read : List ℕ) : Type 0 where
  pub head : HeadOk h row
  pub modrm : ModOk h row
  pub operands : FitsMem h row reg
  pub high_index : rex_x h.rex ≡ index_high index
  pub high_base : rex_b h.rex ≡ r / 8
  pub valid_index : index_ok index ≡ true
  pub bytes : read ≡ head_bytes h ++ front_of mode reg r index

over_spelled : (h : Head) (row : Row) (reg mode r : ℕ) (index : Option (Reg × ℕ)) (read tail : List ℕ) (d : ℤ) → OverOk h row reg mode r index read → fits_32 d ≡ true → over_base reg r index d ≡ front_of mode reg r index ++ tail
    → Spelled h row reg (mem (BaseReg (register r)) index d) (read ++ tail)
unfolding rm_bytes mem_bytes base_high
over_spelled h row reg mode r index read tail d k f e = record {
  fits = fits_rm h row reg (BaseReg (register r)) index d k.operands k.high_index k.high_base refl (reg_ok r (rex_b h.rex) k.high_base (rex_b-le h.rex)) k.valid_index f;
  bytes = ap (λ xs. xs ++ tail) k.bytes ∙ append_assoc (head_bytes h) (front_of mode reg r index) tail ∙ ap (λ xs. head_bytes h ++ xs) (sym e);
}
  where
    rex_b-le : (rex : ℕ) → rex_b rex ≤ 1
    rex_b-le rex = omega arith

    reg_ok : (r b : ℕ) → b ≡ r / 8 → b ≤ 1 → nat_lt r 16 ≡ true
    reg_ok r b e l = grind (arith, common_steps)

pub zeros_small : AreBytes zeros_4
zeros_small = λ k d h. each-at 4 k (λ k. get_or zeros_4 k d < 256) ((((tt, omega arith), omega arith), omega arith), omega arith) h

-- the mod field is 1 or 2
over_disp : (h : Head) (row : Row) (reg mode r : ℕ) (index : Option (Reg × ℕ)) (read : List ℕ) → OverOk h row reg mode r index read → (mode ≡ 1) ⊎ (mode ≡ 2) → (d : ℤ) → disp_fits mode d ≡ true → disp_fine (nat_eq mode 1 && nat_eq (r % 8) 5) mode d ≡ true
    → Spelled h row reg (mem (BaseReg (register r)) index d) (read ++ low_bytes (disp_len mode) d)
over_disp h row reg mode r index read k (inl m) d f q =
    let k1 : OverOk h row reg 1 r index read = subst (λ m. OverOk h row reg m r index read) m k in
    let f1 : disp_fits 1 d ≡ true = subst (λ m. disp_fits m d ≡ true) m f in
    let q1 : disp_fine (nat_eq (r % 8) 5) 1 d ≡ true = subst (λ m. disp_fine (nat_eq m 1 && nat_eq (r % 8) 5) m d ≡ true) m q in
    subst (λ m. Spelled h row reg (mem (BaseReg (register r)) index d) (read ++ low_bytes (disp_len m) d)) (sym m)
    (over_spelled h row reg 1 r index read (low_bytes 1 d) d k1 (fits_8-fits_32 d f1) (over_1 reg r index d f1 q1))
over_disp h row reg mode r index read k (inr m) d f q =
    let k1 : OverOk h row reg 2 r index read = subst (λ m. OverOk h row reg m r index read) m k in
    let f1 : disp_fits 2 d ≡ true = subst (λ m. disp_fits m d ≡ true) m f in
    let q1 : disp_fine false 2 d ≡ true = subst (λ m. disp_fine (nat_eq m 1 && nat_eq (r % 8) 5) m d ≡ true) m q in
    subst (λ m. Spelled h row reg (mem (BaseReg (register r)) index d) (read ++ low_bytes (disp_len m) d)) (sym m)
    (over_spelled h row reg 2 r index read (low_bytes 4 d) d k1 f1 (over_2 reg r index d (fine_2 d q1)))

pub leads-over : (h : Head) (row : Row) (reg mode r : ℕ) (index : Option (Reg × ℕ)) (read : List ℕ) → OverOk h row reg mode r index read → mode < 3 → (nat_eq mode 0 && nat_eq (r % 8) 5) ≡ false → Leads read (over h row reg mode r index)
unfolding over
leads-over h row reg mode r index read k l n =
    both read (nat_eq mode 0) _ _
    (λ e. leads-operands h row reg (mem (BaseReg (register r)) index (pos 0)) read k.head k.modrm (at_0 e))
    (λ e. record {
      leads = record {
        head = k.head;
        modrm = k.modrm;
        front = read;
        bytes = sym (append-nil read);
        four = refl;
        small = zeros_small;
        part = part_0 mode;
        free_mode = λ z. absurd (cc);
        spelled = λ d f q. over_disp h row reg mode r index read k (one_two e) d f q;
      };
    })
  where
    part_0 : (mode : ℕ) → 0 < disp_len mode
    part_0 mode = grind (arith, common_steps)

    one_two : nat_eq mode 0 ≡ false → (mode ≡ 1) ⊎ (mode ≡ 2)
    one_two e = elim (cases_eq mode 1) [ inl x ↦ inl x | inr x ↦ inr (grind (arith, common_steps)) ]

    at_0 : nat_eq mode 0 ≡ true → Spelled h row reg (mem (BaseReg (register r)) index (pos 0)) read
    at_0 e =
        let z : mode ≡ 0 = eqb-true mode 0 e in
        let k0 : OverOk h row reg 0 r index read = subst (λ m. OverOk h row reg m r index read) z k in
        let n0 : nat_eq (r % 8) 5 ≡ false = subst (λ m. (nat_eq m 0 && nat_eq (r % 8) 5) ≡ false) z n in
        subst (λ xs. Spelled h row reg (mem (BaseReg (register r)) index (pos 0)) xs) (append-nil read)
        (over_spelled h row reg 0 r index read [] (pos 0) k0 refl (over_0 reg r index n0 ∙ sym (append-nil (front_of 0 reg r index))))
