-- The bytes ModRM and SIB: what leads on from there spells an instruction.
use Rattle.std.proofs.Common.{◌≡◌, ◌≤◌, ◌<◌, ◌+◌, ◌*◌, ◌/◌, ◌%◌, true, false, Bool, ℕ, arith, nat_eq, nat_lt, ℤ, refl, List, [], ◌∷◌, ◌++◌, sym, subst, ap, ◌∙◌, append_assoc}
use Rattle.std.specs.Prelude.{Option, Some, None, ◌&&◌, ◌||◌, not, is_none}
use Rattle.std.proofs.lemmas.Bool.{and_parts, eqb-true}
use Rattle.std.proofs.lemmas.Grind.{common_steps}
use Rattle.std.proofs.lemmas.List.{append-nil}
use Rattle.x86_forms.specs.declared.instr.Reg.{Reg}
use Rattle.x86_forms.specs.declared.instr.Base.{Base}
use Rattle.x86_forms.specs.declared.instr.Base.TheVariants.{None as NoBase, Rip}
use Rattle.x86_forms.specs.declared.instr.Rm.TheVariants.{Reg as InReg}
use Rattle.x86_forms.specs.Spelling.{low_bytes, modrm, sib, mem_bytes, rm_bytes, scale_code, index_high, base_high, is_low, rm_is_low}
use Rattle.x86_forms.specs.Validity.{index_ok, base_ok, scale_ok}
use Rattle.x86_decode.specs.declared.rows.Row.{Row}
use Rattle.x86_decode.specs.declared.states.Head.{Head}
use Rattle.x86_decode.specs.Rows.{takes, takes_reg, low_in_reg, low_in_rm, allows_rip, allows_no_base}
use Rattle.x86_decode.specs.Steps.{rex_r, rex_x, rex_b, low_agrees, register, over, no_base, modrm_reg, modrm_mem, modrm_step, sib_base, sib_step, scale_of, reg_field, index_field}
use Rattle.x86_decode.proofs.Cases.{each-at}
use Rattle.x86_decode.proofs.FoundImm.{leads-operands}
use Rattle.x86_decode.proofs.FoundOperands.{fits_rm, not_true, front_of, leads-over, zeros_small}
use Rattle.x86_decode.proofs.ModrmSteps.{FitsMem}
use Rattle.x86_decode.proofs.ReadOperands.{base_form}
use Rattle.x86_decode.proofs.Reached.{SibOk, ModrmOk, Spelled, Leads, leads-dead, both}
use Rattle.x86_decode.proofs.Written.{HeadOk, ModOk, head_bytes}

-- the fields of REX and ModRM again
rex_r-le : (rex : ℕ) → rex_r rex ≤ 1
rex_r-le rex = omega arith

rex_x-le : (rex : ℕ) → rex_x rex ≤ 1
rex_x-le rex = omega arith

rex_b-le : (rex : ℕ) → rex_b rex ≤ 1
rex_b-le rex = omega arith

high_of : (n k : ℕ) → n < 8 → k ≡ (n + 8 * k) / 8
high_of n k h = omega arith

low_of : (n k : ℕ) → n < 8 → (n + 8 * k) % 8 ≡ n
low_of n k h = omega arith

reg_below : (n k : ℕ) → n < 8 → k ≤ 1 → nat_lt (n + 8 * k) 16 ≡ true
reg_below n k h l = grind (arith, common_steps)

below_8 : (n : ℕ) → n % 8 < 8
below_8 n = omega arith

modrm_is : (b m g r : ℕ) → b < 256 → b / 64 ≡ m → g % 8 ≡ b / 8 % 8 → r % 8 ≡ b % 8 → modrm m g r ≡ b
unfolding modrm
modrm_is b m g r h k e f = omega arith

-- a register operand
reg_spelled : (h : Head) (row : Row) (b : ℕ) (read : List ℕ) → ModrmOk h row read → b < 256 → b / 64 ≡ 3 → takes row (b / 8 % 8) ≡ true
    → rex_x h.rex ≡ 0 → takes_reg row (b % 8 + 8 * rex_b h.rex) ≡ true → low_agrees h.rex ((low_in_reg row && is_low (reg_field h b)) || (low_in_rm row && is_low (b % 8 + 8 * rex_b h.rex))) ≡ true
    → Spelled h row (reg_field h b) (InReg (register (b % 8 + 8 * rex_b h.rex))) (read ++ (b ∷ []))
unfolding rm_bytes rm_is_low
reg_spelled h row b read k s three t x f l = record {
  fits = record {
    high = high_of (b / 8 % 8) (rex_r h.rex) (below_8 (b / 8));
    code = subst (λ n. takes row n ≡ true) (sym (low_of (b / 8 % 8) (rex_r h.rex) (below_8 (b / 8)))) t;
    index = x;
    base = high_of (b % 8) (rex_b h.rex) (below_8 b);
    low = l;
    form = f;
    valid = reg_below (b % 8) (rex_b h.rex) (below_8 b) (rex_b-le h.rex);
  };
  bytes = ap (λ xs. xs ++ (b ∷ [])) k.bytes ∙ ap (λ c. head_bytes h ++ (c ∷ [])) (sym (modrm_is b 3 (reg_field h b) (b % 8 + 8 * rex_b h.rex) s three (low_of (b / 8 % 8) (rex_r h.rex) (below_8 (b / 8))) (low_of (b % 8) (rex_b h.rex) (below_8 b))));
}

leads-reg : (h : Head) (row : Row) (b : ℕ) (read : List ℕ) → ModrmOk h row read → b < 256 → b / 64 ≡ 3 → takes row (b / 8 % 8) ≡ true
    → Leads (read ++ (b ∷ [])) (modrm_reg h row (reg_field h b) (b % 8 + 8 * rex_b h.rex))
unfolding modrm_reg
leads-reg h row b read k s three t =
    let r : ℕ = b % 8 + 8 * rex_b h.rex in
    both (read ++ (b ∷ [])) (nat_eq (rex_x h.rex) 0 && takes_reg row r && low_agrees h.rex ((low_in_reg row && is_low (reg_field h b)) || (low_in_rm row && is_low r))) _ _
    (λ e. let p = and_parts (nat_eq (rex_x h.rex) 0 && takes_reg row r) (low_agrees h.rex ((low_in_reg row && is_low (reg_field h b)) || (low_in_rm row && is_low r))) e in
    let q = and_parts (nat_eq (rex_x h.rex) 0) (takes_reg row r) p.0 in
    leads-operands h row (reg_field h b) (InReg (register r)) (read ++ (b ∷ [])) k.head k.modrm (reg_spelled h row b read k s three t (eqb-true _ _ q.0) q.1 p.1))
    (λ e. leads-dead _)

-- no base register
pub record NoBaseOk (h : Head) (row : Row) (reg : ℕ) (base : Base) (index : Option (Reg × ℕ)) (front read : List ℕ) : Type 0 where
  pub head : HeadOk h row
  pub modrm : ModOk h row
  pub operands : FitsMem h row reg
  pub high_index : rex_x h.rex ≡ index_high index
  pub high_base : rex_b h.rex ≡ base_high base
  pub valid_index : index_ok index ≡ true
  pub valid_base : base_ok base index ≡ true
  pub form : base_form row base ≡ true
  pub spelling : (d : ℤ) → mem_bytes reg base index d ≡ front ++ low_bytes 4 d
  pub bytes : read ≡ head_bytes h ++ front

leads-no_base : (h : Head) (row : Row) (reg : ℕ) (base : Base) (index : Option (Reg × ℕ)) (front read : List ℕ) → NoBaseOk h row reg base index front read → Leads read (no_base h row reg base index)
unfolding no_base rm_bytes
leads-no_base h row reg base index front read k = record {
  leads = record {
    head = k.head;
    modrm = k.modrm;
    front = read;
    bytes = sym (append-nil read);
    four = refl;
    small = zeros_small;
    part = omega arith;
    free_mode = λ z. refl;
    spelled = λ d f q. record {
      fits = fits_rm h row reg base index d k.operands k.high_index k.high_base k.form k.valid_base k.valid_index f;
      bytes = ap (λ xs. xs ++ low_bytes 4 d) k.bytes ∙ append_assoc (head_bytes h) front (low_bytes 4 d) ∙ ap (λ xs. head_bytes h ++ xs) (sym (k.spelling d));
    };
  };
}

-- a memory operand
fits_mem : (h : Head) (row : Row) (b : ℕ) → takes row (b / 8 % 8) ≡ true → low_agrees h.rex (low_in_reg row && is_low (reg_field h b)) ≡ true → FitsMem h row (reg_field h b)
fits_mem h row b t l = record {
  high = high_of (b / 8 % 8) (rex_r h.rex) (below_8 (b / 8));
  code = subst (λ n. takes row n ≡ true) (sym (low_of (b / 8 % 8) (rex_r h.rex) (below_8 (b / 8)))) t;
  low = l;
}

not_not : (b : Bool) → not b ≡ false → b ≡ true
not_not true h = refl
not_not false h = absurd (cc)

leads-rip : (h : Head) (row : Row) (b : ℕ) (read : List ℕ) → ModrmOk h row read → b < 256 → FitsMem h row (reg_field h b) → rex_x h.rex ≡ 0 → rex_b h.rex ≡ 0 → b / 64 ≡ 0 → b % 8 ≡ 5 → allows_rip row ≡ true
    → Leads (read ++ (b ∷ [])) (no_base h row (reg_field h b) Rip None)
unfolding mem_bytes index_high base_high
leads-rip h row b read k s f x y m five a =
    leads-no_base h row (reg_field h b) Rip None (b ∷ []) (read ++ (b ∷ [])) (record {
      head = k.head;
      modrm = k.modrm;
      operands = f;
      high_index = x;
      high_base = y;
      valid_index = refl;
      valid_base = refl;
      form = a;
      spelling = λ d. ap (λ c. c ∷ low_bytes 4 d) (modrm_is b 0 (reg_field h b) 5 s m (low_of (b / 8 % 8) (rex_r h.rex) (below_8 (b / 8))) (sym five));
      bytes = ap (λ xs. xs ++ (b ∷ [])) k.bytes;
    })

leads-plain : (h : Head) (row : Row) (b : ℕ) (read : List ℕ) → ModrmOk h row read → b < 256 → FitsMem h row (reg_field h b) → rex_x h.rex ≡ 0 → b / 64 < 3 → nat_eq (b % 8) 4 ≡ false → (nat_eq (b / 64) 0 && nat_eq (b % 8) 5) ≡ false
    → Leads (read ++ (b ∷ [])) (over h row (reg_field h b) (b / 64) (b % 8 + 8 * rex_b h.rex) None)
unfolding index_high
leads-plain h row b read k s f x m four five =
    let r : ℕ = b % 8 + 8 * rex_b h.rex in
    let l : r % 8 ≡ b % 8 = low_of (b % 8) (rex_b h.rex) (below_8 b) in
    let q : nat_eq (r % 8) 4 ≡ false = subst (λ n. nat_eq n 4 ≡ false) (sym l) four in
    let z : modrm (b / 64) (reg_field h b) r ≡ b = modrm_is b (b / 64) (reg_field h b) r s refl (low_of (b / 8 % 8) (rex_r h.rex) (below_8 (b / 8))) l in
    leads-over h row (reg_field h b) (b / 64) r None (read ++ (b ∷ [])) (record {
      head = k.head;
      modrm = k.modrm;
      operands = f;
      high_index = x;
      high_base = high_of (b % 8) (rex_b h.rex) (below_8 b);
      valid_index = refl;
      bytes = ap (λ xs. xs ++ (b ∷ [])) k.bytes ∙ ap (λ xs. head_bytes h ++ xs) (rw (q, z) refl);
    }) m (subst (λ n. (nat_eq (b / 64) 0 && nat_eq n 5) ≡ false) (sym l) five)

leads-mem : (h : Head) (row : Row) (b : ℕ) (read : List ℕ) → ModrmOk h row read → b < 256 → nat_eq (b / 64) 3 ≡ false → takes row (b / 8 % 8) ≡ true
    → Leads (read ++ (b ∷ [])) (modrm_mem h row (reg_field h b) b)
unfolding modrm_mem
leads-mem h row b read k s three t =
    both _ (not (low_agrees h.rex (low_in_reg row && is_low (reg_field h b)))) _ _ (λ e. leads-dead _)
    (λ e. let f = fits_mem h row b t (not_not (low_agrees h.rex (low_in_reg row && is_low (reg_field h b))) e) in
    both _ (nat_eq (b % 8) 4) _ _
    (λ g. record { leads = record { head = k.head; modrm = k.modrm; operands = f; small = s; low = g; memory = three; bytes = ap (λ xs. xs ++ (b ∷ [])) k.bytes } })
    (λ g. both _ (nat_eq (rex_x h.rex) 1) _ _ (λ x. leads-dead _)
    (λ x. let x0 : rex_x h.rex ≡ 0 = grind (arith, common_steps) in
    both _ (nat_eq (b / 64) 0 && nat_eq (b % 8) 5) _ _
    (λ n. let n' = and_parts (nat_eq (b / 64) 0) (nat_eq (b % 8) 5) n in
    both _ (nat_eq (rex_b h.rex) 0 && allows_rip row) _ _
    (λ y. let y' = and_parts (nat_eq (rex_b h.rex) 0) (allows_rip row) y in
    leads-rip h row b read k s f x0 (eqb-true _ _ y'.0) (eqb-true _ _ n'.0) (eqb-true _ _ n'.1) y'.1)
    (λ y. leads-dead _))
    (λ n. leads-plain h row b read k s f x0 (mode_below b s three) g n))))
  where
    mode_below : (b : ℕ) → b < 256 → nat_eq (b / 64) 3 ≡ false → b / 64 < 3
    mode_below b s e = grind (arith, common_steps)

pub leads-modrm : (h : Head) (row : Row) (b : ℕ) (read : List ℕ) → ModrmOk h row read → b < 256 → Leads (read ++ (b ∷ [])) (modrm_step h row b)
unfolding modrm_step
leads-modrm h row b read k s =
    both _ (not (takes row (b / 8 % 8))) _ _ (λ e. leads-dead _)
    (λ e. let t = not_not (takes row (b / 8 % 8)) e in
    both _ (nat_eq (b / 64) 3) _ _ (λ m. leads-reg h row b read k s (eqb-true _ _ m) t) (λ m. leads-mem h row b read k s m t))

-- SIB: the index that it says, and the byte again
pub record SibRead (h : Head) (b : ℕ) (index : Option (Reg × ℕ)) : Type 0 where
  pub high : rex_x h.rex ≡ index_high index
  pub valid : index_ok index ≡ true
  pub byte : (r : ℕ) → r % 8 ≡ b % 8 → sib index r ≡ b

scale_back : (c : ℕ) → c < 4 → scale_code (scale_of c) ≡ c
unfolding scale_code
scale_back c h = each-at 4 c (λ c. scale_code (scale_of c) ≡ c) ((((tt, refl), refl), refl), refl) h

scale_valid : (c : ℕ) → scale_ok (scale_of c) ≡ true
scale_valid c = grind (arith, common_steps)

sib_some : (h : Head) (b : ℕ) → b < 256 → nat_eq (index_field h b) 4 ≡ false → SibRead h b (Some (register (index_field h b), scale_of (b / 64)))
unfolding sib index_high
sib_some h b s n = record {
  high = high_of (b / 8 % 8) (rex_x h.rex) (below_8 (b / 8));
  valid = rw (reg_below (b / 8 % 8) (rex_x h.rex) (below_8 (b / 8)) (rex_x-le h.rex), n, scale_valid (b / 64)) refl;
  byte = λ r e. rw (scale_back (b / 64) (omega arith), low_of (b / 8 % 8) (rex_x h.rex) (below_8 (b / 8)), e) (omega arith);
}

sib_none : (h : Head) (b : ℕ) → b < 256 → nat_eq (index_field h b) 4 ≡ true → b / 64 ≡ 0 → SibRead h b None
unfolding sib index_high
sib_none h b s n z =
    let e : index_field h b ≡ 4 = eqb-true _ _ n in
    record { high = omega arith; valid = refl; byte = λ r f. omega arith }

leads-sib_over : (h : Head) (row : Row) (m b : ℕ) (index : Option (Reg × ℕ)) (read : List ℕ) → SibOk h row m read → b < 256 → SibRead h b index → (is_none index && not (nat_eq (b % 8) 4)) ≡ false → (nat_eq (m / 64) 0 && nat_eq (b % 8) 5) ≡ false
    → Leads (read ++ (b ∷ [])) (over h row (reg_field h m) (m / 64) (b % 8 + 8 * rex_b h.rex) index)
leads-sib_over h row m b index read k s q n five =
    let r : ℕ = b % 8 + 8 * rex_b h.rex in
    let l : r % 8 ≡ b % 8 = low_of (b % 8) (rex_b h.rex) (below_8 b) in
    leads-over h row (reg_field h m) (m / 64) r index (read ++ (b ∷ [])) (record {
      head = k.head;
      modrm = k.modrm;
      operands = k.operands;
      high_index = q.high;
      high_base = high_of (b % 8) (rex_b h.rex) (below_8 b);
      valid_index = q.valid;
      bytes = ap (λ xs. xs ++ (b ∷ [])) k.bytes ∙ append_assoc (head_bytes h) (m ∷ []) (b ∷ []) ∙ ap (λ xs. head_bytes h ++ xs) (sym (front index q n l));
    })
    (mode_below m k.small k.memory) (subst (λ n. (nat_eq (m / 64) 0 && nat_eq n 5) ≡ false) (sym l) five)
  where
    mode_below : (b : ℕ) → b < 256 → nat_eq (b / 64) 3 ≡ false → b / 64 < 3
    mode_below b s e = grind (arith, common_steps)

    modrm_m : modrm (m / 64) (reg_field h m) 4 ≡ m
    modrm_m = let z : m % 8 ≡ 4 = eqb-true _ _ k.low in modrm_is m (m / 64) (reg_field h m) 4 k.small refl (low_of (m / 8 % 8) (rex_r h.rex) (below_8 (m / 8))) (sym z)

    front : (index : Option (Reg × ℕ)) → SibRead h b index → (is_none index && not (nat_eq (b % 8) 4)) ≡ false → (b % 8 + 8 * rex_b h.rex) % 8 ≡ b % 8
        → front_of (m / 64) (reg_field h m) (b % 8 + 8 * rex_b h.rex) index ≡ m ∷ b ∷ []
    front None q n l =
        let four : nat_eq ((b % 8 + 8 * rex_b h.rex) % 8) 4 ≡ true = rw l (not_not (nat_eq (b % 8) 4) n) in
        rw (four, modrm_m, q.byte (b % 8 + 8 * rex_b h.rex) l) refl
    front (Some x) q n l = rw (modrm_m, q.byte (b % 8 + 8 * rex_b h.rex) l) refl

leads-sib_no_base : (h : Head) (row : Row) (m b : ℕ) (index : Option (Reg × ℕ)) (read : List ℕ) → SibOk h row m read → b < 256 → SibRead h b index → m / 64 ≡ 0 → b % 8 ≡ 5 → rex_b h.rex ≡ 0 → allows_no_base row ≡ true
    → Leads (read ++ (b ∷ [])) (no_base h row (reg_field h m) NoBase index)
unfolding mem_bytes base_high
leads-sib_no_base h row m b index read k s q mode five y a =
    let z : m % 8 ≡ 4 = eqb-true _ _ k.low in
    let c : modrm 0 (reg_field h m) 4 ≡ m = modrm_is m 0 (reg_field h m) 4 k.small mode (low_of (m / 8 % 8) (rex_r h.rex) (below_8 (m / 8))) (sym z) in
    let d : sib index 5 ≡ b = q.byte 5 (sym five) in
    leads-no_base h row (reg_field h m) NoBase index (m ∷ b ∷ []) (read ++ (b ∷ [])) (record {
      head = k.head;
      modrm = k.modrm;
      operands = k.operands;
      high_index = q.high;
      high_base = y;
      valid_index = q.valid;
      valid_base = refl;
      form = a;
      spelling = λ disp. rw (c, d) refl;
      bytes = ap (λ xs. xs ++ (b ∷ [])) k.bytes ∙ append_assoc (head_bytes h) (m ∷ []) (b ∷ []);
    })

leads-sib_base : (h : Head) (row : Row) (m b : ℕ) (index : Option (Reg × ℕ)) (read : List ℕ) → SibOk h row m read → b < 256 → SibRead h b index → Leads (read ++ (b ∷ [])) (sib_base h row m (b % 8) index)
unfolding sib_base
leads-sib_base h row m b index read k s q =
    both _ (nat_eq (m / 64) 0 && nat_eq (b % 8) 5) _ _
    (λ e. let e' = and_parts (nat_eq (m / 64) 0) (nat_eq (b % 8) 5) e in
    both _ (nat_eq (rex_b h.rex) 0 && allows_no_base row) _ _
    (λ f. let f' = and_parts (nat_eq (rex_b h.rex) 0) (allows_no_base row) f in
    leads-sib_no_base h row m b index read k s q (eqb-true _ _ e'.0) (eqb-true _ _ e'.1) (eqb-true _ _ f'.0) f'.1)
    (λ f. leads-dead _))
    (λ e. both _ (is_none index && not (nat_eq (b % 8) 4)) _ _ (λ f. leads-dead _) (λ f. leads-sib_over h row m b index read k s q f e))

pub leads-sib : (h : Head) (row : Row) (m b : ℕ) (read : List ℕ) → SibOk h row m read → b < 256 → Leads (read ++ (b ∷ [])) (sib_step h row m b)
unfolding sib_step
leads-sib h row m b read k s =
    both _ (not (nat_eq (index_field h b) 4)) _ _
    (λ e. leads-sib_base h row m b (Some (register (index_field h b), scale_of (b / 64))) read k s (sib_some h b s (not_true (nat_eq (index_field h b) 4) e)))
    (λ e. both _ (nat_eq (b / 64) 0) _ _
    (λ f. leads-sib_base h row m b None read k s (sib_none h b s (not_not (nat_eq (index_field h b) 4) e) (eqb-true _ _ f)))
    (λ f. leads-dead _))
