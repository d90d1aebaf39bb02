use Rattle.std.proofs.Common.{◌≡◌, ◌/◌, ◌%◌, IsTrue, true, false, Bool, ℕ, arith, nat_eq, ℤ, pos, refl, List, [], ◌∷◌, sym, ap, ◌∙◌}
use Rattle.std.specs.Prelude.{Option, Some, None, ◌&&◌, ◌||◌, not}
use Rattle.std.proofs.lemmas.Grind.{common_steps}
use Rattle.std.proofs.lemmas.Bool.{cond_both, and_parts}
use Rattle.std.specs.Int.{cast_signed, w8}
use Rattle.std.specs.Prelude.{negsuc}
use Rattle.x86_forms.specs.declared.instr.Reg.{Reg}
use Rattle.x86_forms.specs.declared.instr.Base.{Base}
use Rattle.x86_forms.specs.declared.instr.Base.TheVariants.{None as NoBase, Reg as BaseReg, Rip}
use Rattle.x86_forms.specs.declared.instr.Rm.{Rm}
use Rattle.x86_forms.specs.declared.instr.Rm.TheVariants.{Reg as InReg, Mem as InMem}
use Rattle.x86_forms.specs.Fits.{fits_8, fits_32}
use Rattle.x86_forms.specs.Spelling.{low_bytes, modrm, rm_bytes, mem_bytes, over_base, mod_of, disp_bytes, sib, is_zero}
use Rattle.x86_decode.specs.declared.rows.Row.{Row}
use Rattle.x86_decode.specs.declared.states.Head.{Head}
use Rattle.x86_decode.specs.declared.states.State.{State}
use Rattle.x86_decode.specs.declared.states.State.TheVariants.{ModRm, Sib, Disp}
use Rattle.x86_decode.specs.declared.states.Next.{Next}
use Rattle.x86_decode.specs.declared.states.Next.TheVariants.{Go}
use Rattle.x86_decode.specs.Steps.{done, over, no_base, disp_value, disp_fine, disp_end, step_of, register, mem, zeros_4}
use Rattle.x86_decode.proofs.Feed.{feed, next_of}
use Rattle.x86_decode.proofs.Numbers.{byte_back, four_back}
use Rattle.x86_decode.proofs.ModrmSteps.{FitsMem, step_reg, step_plain, step_to_sib, step_rip, step_sib_none, step_sib_some, step_sib_no_base}
use Rattle.x86_forms.specs.declared.instr.Mem.{Mem}
use Rattle.x86_forms.specs.Spelling.{is_low, rm_is_low, index_high, base_high}
use Rattle.x86_forms.specs.Validity.{rm_ok, index_ok, base_ok, mem_ok}
use Rattle.x86_decode.specs.Rows.{takes, takes_reg, low_in_reg, low_in_rm, allows_rip, allows_no_base}
use Rattle.x86_decode.specs.Steps.{rex_r, rex_x, rex_b, low_agrees}
use Rattle.std.proofs.lemmas.Bool.{not-true}

end_4 : (h : Head) (row : Row) (reg : ℕ) (b : Base) (x : Option (Reg × ℕ)) (free : Bool) (d : ℤ) → IsTrue (fits_32 d) → disp_fine free 2 d ≡ true
    → disp_end h row reg 2 b x free (low_bytes 4 d) ≡ done h row reg (mem b x d)
unfolding disp_end disp_value
end_4 h row reg b x free d k f = simp (four_back d k, f)

-- a displacement of four bytes
pub feed_disp_4 : (h : Head) (row : Row) (reg : ℕ) (b : Base) (x : Option (Reg × ℕ)) (free : Bool) (d : ℤ) → IsTrue (fits_32 d) → disp_fine free 2 d ≡ true
    → feed (low_bytes 4 d) (Go (Disp h row reg 2 b x free 0 zeros_4)) ≡ done h row reg (mem b x d)
unfolding low_bytes step_of
feed_disp_4 h row reg b x free d k f =
    let e : disp_end h row reg 2 b x free (low_bytes 4 d) ≡ done h row reg (mem b x d) = end_4 h row reg b x free d k f in e

end_0 : (h : Head) (row : Row) (reg : ℕ) (b : Base) (x : Option (Reg × ℕ)) (d : ℤ) → IsTrue (fits_32 d)
    → disp_end h row reg 0 b x true (low_bytes 4 d) ≡ done h row reg (mem b x d)
unfolding disp_end disp_value disp_fine
end_0 h row reg b x d k = simp (four_back d k)

-- four bytes with no base register
pub feed_no_base : (h : Head) (row : Row) (reg : ℕ) (b : Base) (x : Option (Reg × ℕ)) (d : ℤ) → IsTrue (fits_32 d)
    → feed (low_bytes 4 d) (no_base h row reg b x) ≡ done h row reg (mem b x d)
unfolding low_bytes step_of no_base
feed_no_base h row reg b x d k =
    let e : disp_end h row reg 0 b x true (low_bytes 4 d) ≡ done h row reg (mem b x d) = end_0 h row reg b x d k in e

end_1 : (h : Head) (row : Row) (reg : ℕ) (b : Base) (x : Option (Reg × ℕ)) (free : Bool) (d : ℤ) (c : ℕ) → cast_signed w8 c ≡ d → disp_fine free 1 d ≡ true
    → disp_end h row reg 1 b x free (c ∷ 0 ∷ 0 ∷ 0 ∷ []) ≡ done h row reg (mem b x d)
unfolding disp_end disp_value
end_1 h row reg b x free d c k f = simp (k, f)

-- a displacement of one byte
pub feed_disp_1 : (h : Head) (row : Row) (reg : ℕ) (b : Base) (x : Option (Reg × ℕ)) (free : Bool) (d : ℤ) → IsTrue (fits_8 d) → disp_fine free 1 d ≡ true
    → feed (low_bytes 1 d) (Go (Disp h row reg 1 b x free 0 zeros_4)) ≡ done h row reg (mem b x d)
unfolding low_bytes step_of
feed_disp_1 h row reg b x free d k f = end_1 h row reg b x free d _ (byte_back d k) f

pub zero_is : (d : ℤ) → is_zero d ≡ true → d ≡ pos 0
zero_is (pos n) e = grind (arith, common_steps)
zero_is (negsuc n) e = absurd (cc)

over_0 : (h : Head) (row : Row) (reg r : ℕ) (x : Option (Reg × ℕ)) (d : ℤ) → is_zero d ≡ true
    → feed (disp_bytes 0 d) (over h row reg 0 r x) ≡ done h row reg (mem (BaseReg (register r)) x d)
unfolding disp_bytes over
over_0 h row reg r x d e = ap (λ z. done h row reg (mem (BaseReg (register r)) x z)) (sym (zero_is d e))

over_1 : (h : Head) (row : Row) (reg r : ℕ) (x : Option (Reg × ℕ)) (d : ℤ) → IsTrue (fits_8 d) → disp_fine (nat_eq (r % 8) 5) 1 d ≡ true
    → feed (disp_bytes 1 d) (over h row reg 1 r x) ≡ done h row reg (mem (BaseReg (register r)) x d)
unfolding disp_bytes over
over_1 h row reg r x d k f = feed_disp_1 h row reg _ x _ d k f

over_2 : (h : Head) (row : Row) (reg r : ℕ) (x : Option (Reg × ℕ)) (d : ℤ) → IsTrue (fits_32 d) → fits_8 d ≡ false
    → feed (disp_bytes 2 d) (over h row reg 2 r x) ≡ done h row reg (mem (BaseReg (register r)) x d)
unfolding disp_bytes over disp_fine
over_2 h row reg r x d k f = feed_disp_4 h row reg _ x _ d k (simp f)

fine_1 : (b : Bool) (d : ℤ) → (is_zero d && not b) ≡ false → disp_fine b 1 d ≡ true
unfolding disp_fine
fine_1 true d e = refl
fine_1 false d e = grind (arith, common_steps)

-- a displacement over a base register
pub feed_over : (h : Head) (row : Row) (reg r : ℕ) (x : Option (Reg × ℕ)) (d : ℤ) → IsTrue (fits_32 d)
    → feed (disp_bytes (mod_of r d) d) (over h row reg (mod_of r d) r x) ≡ done h row reg (mem (BaseReg (register r)) x d)
unfolding mod_of
feed_over h row reg r x d k =
    let P : ℕ → Type 0 = λ m. feed (disp_bytes m d) (over h row reg m r x) ≡ done h row reg (mem (BaseReg (register r)) x d) in
    cond_both (is_zero d && not (nat_eq (r % 8) 5)) _ _ P
    (λ e. over_0 h row reg r x d (and_parts (is_zero d) (not (nat_eq (r % 8) 5)) e).0)
    (λ e. cond_both (fits_8 d) _ _ P
    (λ f. over_1 h row reg r x d (grind (arith, common_steps)) (fine_1 (nat_eq (r % 8) 5) d e))
    (λ f. over_2 h row reg r x d k f))

abbrev pub rm_index : Rm → ℕ
rm_index (InReg r) = 0
rm_index (InMem m) = index_high m.index

abbrev pub rm_base : Rm → ℕ
rm_base (InReg r) = r.0 / 8
rm_base (InMem m) = base_high m.base

abbrev pub base_form : Row → Base → Bool
base_form row NoBase = allows_no_base row
base_form row (BaseReg r) = true
base_form row Rip = allows_rip row

abbrev pub rm_form : Row → Rm → Bool
rm_form row (InReg r) = takes_reg row r.0
rm_form row (InMem m) = base_form row m.base

pub not_low : (m : Mem) → rm_is_low (InMem m) ≡ false
unfolding rm_is_low
not_low m = refl

-- the REX bits and the row fit the operands
pub record FitsRm (h : Head) (row : Row) (reg : ℕ) (rm : Rm) : Type 0 where
  pub high : rex_r h.rex ≡ reg / 8
  pub code : takes row (reg % 8) ≡ true
  pub index : rex_x h.rex ≡ rm_index rm
  pub base : rex_b h.rex ≡ rm_base rm
  pub low : low_agrees h.rex ((low_in_reg row && is_low reg) || (low_in_rm row && rm_is_low rm)) ≡ true
  pub form : rm_form row rm ≡ true
  pub valid : IsTrue (rm_ok rm)

pub or_right : (b c : Bool) → (b || (c && false)) ≡ b
or_right true true = refl
or_right true false = refl
or_right false true = refl
or_right false false = refl

mem_low : (rex : ℕ) (a b c : Bool) → low_agrees rex (a || (b && c)) ≡ true → c ≡ false → low_agrees rex a ≡ true
mem_low rex a b c h e = let k : (a || (b && c)) ≡ a = rw e (or_right a b) in ap (low_agrees rex) (sym k) ∙ h

fits_mem : (h : Head) (row : Row) (reg : ℕ) (m : Mem) → FitsRm h row reg (InMem m) → FitsMem h row reg
fits_mem h row reg m f = record { high = f.high; code = f.code; low = mem_low h.rex (low_in_reg row && is_low reg) (low_in_rm row) (rm_is_low (InMem m)) f.low (not_low m) }

mode_small : (r : ℕ) (d : ℤ) → nat_eq (mod_of r d) 3 ≡ false
unfolding mod_of
mode_small r d = cond_both (is_zero d && not (nat_eq (r % 8) 5)) _ _ (λ m. nat_eq m 3 ≡ false) (λ e. refl) (λ e. cond_both (fits_8 d) _ _ (λ m. nat_eq m 3 ≡ false) (λ f. refl) (λ f. refl))

mode_five : (r : ℕ) (d : ℤ) → (nat_eq (mod_of r d) 0 && nat_eq (r % 8) 5) ≡ false
unfolding mod_of
mode_five r d = cond_both (is_zero d && not (nat_eq (r % 8) 5)) _ _ (λ m. (nat_eq m 0 && nat_eq (r % 8) 5) ≡ false)
    (λ e. not-true (nat_eq (r % 8) 5) (and_parts (is_zero d) (not (nat_eq (r % 8) 5)) e).1)
    (λ e. cond_both (fits_8 d) _ _ (λ m. (nat_eq m 0 && nat_eq (r % 8) 5) ≡ false) (λ f. refl) (λ f. refl))

feed_one : (a : ℕ) (bs : List ℕ) (s : State) (n : Next) → step_of s a ≡ n → feed (a ∷ bs) (Go s) ≡ feed bs n
feed_one a bs s n e = ap (λ m. feed bs m) e

feed_two : (a c : ℕ) (bs : List ℕ) (s s' : State) (n : Next) → step_of s a ≡ Go s' → step_of s' c ≡ n → feed (a ∷ c ∷ bs) (Go s) ≡ feed bs n
feed_two a c bs s s' n e f = ap (λ m. feed bs m) (ap (λ m. next_of c m) e ∙ f)

mem_parts : (m : Mem) → IsTrue (mem_ok m) → IsTrue (base_ok m.base m.index) × IsTrue (index_ok m.index) × IsTrue (fits_32 m.disp)
mem_parts m h = (grind (arith, common_steps), grind (arith, common_steps), grind (arith, common_steps))

-- over a base register
rm_over : (h : Head) (row : Row) (reg r : ℕ) (x : Option (Reg × ℕ)) (d : ℤ) → FitsMem h row reg → rex_x h.rex ≡ index_high x → rex_b h.rex ≡ r / 8 → IsTrue (index_ok x) → IsTrue (fits_32 d)
    → feed (over_base reg r x d) (Go (ModRm h row)) ≡ done h row reg (mem (BaseReg (register r)) x d)
unfolding over_base step_of index_high
rm_over h row reg r None d f i b v k =
    cond_both (nat_eq (r % 8) 4) _ _ (λ bs. feed bs (Go (ModRm h row)) ≡ done h row reg (mem (BaseReg (register r)) None d))
    (λ e. feed_two (modrm (mod_of r d) reg 4) (sib None r) (disp_bytes (mod_of r d) d) (ModRm h row) (Sib h row (modrm (mod_of r d) reg 4)) _ (step_to_sib h row reg (mod_of r d) f (mode_small r d)) (step_sib_none h row reg (mod_of r d) r f.high i b e (grind (arith, common_steps))) ∙ feed_over h row reg r None d k)
    (λ e. feed_one (modrm (mod_of r d) reg r) (disp_bytes (mod_of r d) d) (ModRm h row) _ (step_plain h row reg (mod_of r d) r f i b (mode_small r d) e (mode_five r d)) ∙ feed_over h row reg r None d k)
rm_over h row reg r (Some x) d f i b v k =
    feed_two (modrm (mod_of r d) reg 4) (sib (Some x) r) (disp_bytes (mod_of r d) d) (ModRm h row) (Sib h row (modrm (mod_of r d) reg 4)) _ (step_to_sib h row reg (mod_of r d) f (mode_small r d))
    (step_sib_some h row reg (mod_of r d) r x f.high i b (grind (arith, common_steps)) (grind (arith, common_steps)) (mode_five r d)) ∙ feed_over h row reg r (Some x) d k

-- no base register
rm_no_base : (h : Head) (row : Row) (reg : ℕ) (x : Option (Reg × ℕ)) (d : ℤ) → FitsMem h row reg → rex_x h.rex ≡ index_high x → rex_b h.rex ≡ 0 → allows_no_base row ≡ true → IsTrue (index_ok x) → IsTrue (fits_32 d)
    → feed (mem_bytes reg NoBase x d) (Go (ModRm h row)) ≡ done h row reg (mem NoBase x d)
unfolding mem_bytes step_of index_high
rm_no_base h row reg x d f i b a v k =
    feed_two (modrm 0 reg 4) (sib x 5) (low_bytes 4 d) (ModRm h row) (Sib h row (modrm 0 reg 4)) _ (step_to_sib h row reg 0 f refl) (step_sib_no_base h row reg x f.high i b a v) ∙ feed_no_base h row reg NoBase x d k

rm_rip : (h : Head) (row : Row) (reg : ℕ) (d : ℤ) → FitsMem h row reg → rex_x h.rex ≡ 0 → rex_b h.rex ≡ 0 → allows_rip row ≡ true → IsTrue (fits_32 d)
    → feed (mem_bytes reg Rip None d) (Go (ModRm h row)) ≡ done h row reg (mem Rip None d)
unfolding mem_bytes step_of
rm_rip h row reg d f i b a k = feed_one (modrm 0 reg 5) (low_bytes 4 d) (ModRm h row) _ (step_rip h row reg f i b a) ∙ feed_no_base h row reg Rip None d k

rm_mem : (h : Head) (row : Row) (reg : ℕ) (base : Base) (x : Option (Reg × ℕ)) (d : ℤ) → FitsMem h row reg → rex_x h.rex ≡ index_high x → rex_b h.rex ≡ base_high base → base_form row base ≡ true
    → IsTrue (base_ok base x) → IsTrue (index_ok x) → IsTrue (fits_32 d) → feed (mem_bytes reg base x d) (Go (ModRm h row)) ≡ done h row reg (mem base x d)
unfolding mem_bytes base_high index_high
rm_mem h row reg NoBase x d f i b a o v k = rm_no_base h row reg x d f i b a v k
rm_mem h row reg (BaseReg r) x d f i b a o v k = rm_over h row reg r.0 x d f i b v k
rm_mem h row reg Rip None d f i b a o v k = rm_rip h row reg d f i b a k
rm_mem h row reg Rip (Some x) d f i b a o v k = absurd (grind (arith, common_steps))

-- ModRM, SIB and displacement
pub rm_all : (h : Head) (row : Row) (reg : ℕ) (rm : Rm) → FitsRm h row reg rm → feed (rm_bytes reg rm) (Go (ModRm h row)) ≡ done h row reg rm
unfolding rm_bytes step_of rm_is_low
rm_all h row reg (InReg r) f =
    feed_one (modrm 3 reg r.0) [] (ModRm h row) _ (step_reg h row reg r.0 (record { high = f.high; index = f.index; base = f.base; code = f.code; form = f.form; low = f.low }))
rm_all h row reg (InMem m) f =
    let v = mem_parts m f.valid in rm_mem h row reg m.base m.index m.disp (fits_mem h row reg m f) f.index f.base f.form v.0 v.1 v.2
