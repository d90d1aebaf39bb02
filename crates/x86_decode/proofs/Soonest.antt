-- Each state that was reached has a byte that completes it soonest. So an instruction of exactly so many bytes is there.
use Rattle.std.proofs.Common.{◌≡◌, ◌≤◌, ◌<◌, ◌+◌, ◌*◌, ◌/◌, ◌^◌, true, false, Bool, ℕ, zero, suc, arith, nat_eq, ℤ, pos, refl, List, [], ◌∷◌, ◌++◌, length, subst, sym, ap, append_assoc}
use Rattle.std.specs.Prelude.{Option, None, if◌then◌else◌, not, is_none, slice_set}
use Rattle.std.specs.Int.{cast_signed, from_le_bytes, w32, w64}
use Rattle.std.proofs.lemmas.Bool.{and_right, eqb-true, eq-eqb, lt-ltb, le-ltb}
use Rattle.x86_forms.specs.declared.instr.Instr.{Instr}
use Rattle.x86_forms.specs.declared.instr.Reg.{Reg}
use Rattle.x86_forms.specs.declared.instr.Base.{Base}
use Rattle.x86_forms.specs.declared.instr.Rm.{Rm}
use Rattle.x86_forms.specs.Fits.{fits_8, fits_32}
use Rattle.x86_forms.specs.Spelling.{Spells}
use Rattle.x86_forms.specs.Validity.{word_ok}
use Rattle.x86_decode.specs.declared.rows.Row.{Row}
use Rattle.x86_decode.specs.declared.rows.Row.TheVariants.{MovImm, AluImm}
use Rattle.x86_decode.specs.declared.states.Head.{Head}
use Rattle.x86_decode.specs.declared.states.State.{State}
use Rattle.x86_decode.specs.declared.states.State.TheVariants.{Start, Prefix, Rex, Escape, ModRm, Sib, Disp, Imm}
use Rattle.x86_decode.specs.declared.states.Next.{Next}
use Rattle.x86_decode.specs.declared.states.Next.TheVariants.{Dead, Go, End}
use Rattle.x86_decode.specs.Rows.{imm_len, build}
use Rattle.x86_decode.specs.Run.{least_of, mode_len}
use Rattle.x86_decode.specs.Steps.{rex_b, done, over, sib_base, sib_step, step_of, disp_end, imm_end, disp_value, imm_value, disp_fine, imm_fine, disp_len, signed, reg_field, index_field, mem, zeros_8}
use Rattle.x86_decode.proofs.Cases.{word_cases}
use Rattle.x86_decode.proofs.Found.{reached-go, spells-end}
use Rattle.x86_decode.proofs.HeadTests.{nearer, soonest, heads_soonest, heads-start, heads-prefix, heads-rex, heads-escape, soon-row}
use Rattle.x86_decode.proofs.Keys.{row_ok}
use Rattle.x86_decode.proofs.NumberBytes.{cells_of_4, cells_of_8}
use Rattle.x86_decode.proofs.Reached.{AreBytes, Reached, DispOk, ImmOk}
use Rattle.x86_decode.proofs.Exhaustive.{some-at}

pub record Near (n : ℕ) (x : Next) : Type 0 where
  pub near : nearer n x ≡ true

near_end : (n : ℕ) (i : Instr) → n ≡ 1 → Near n (End i)
near_end n i e = record { near = eq-eqb n 1 e }

near_go : (n : ℕ) (s : State) → n ≡ 1 + least_of s → Near n (Go s)
near_go n s e = record { near = eq-eqb n (1 + least_of s) e }

both : (n : ℕ) (b : Bool) (x y : Next) → (b ≡ true → Near n x) → (b ≡ false → Near n y) → Near n (if b then x else y)
both n true x y h k = h refl
both n false x y h k = k refl

near_done : (n : ℕ) (h : Head) (row : Row) (reg : ℕ) (rm : Rm) → n ≡ 1 + imm_len row → Near n (done h row reg rm)
unfolding done least_of
near_done n h row reg rm e = both n (nat_eq (imm_len row) 0) _ _
    (λ z. near_end n (build row reg rm (pos 0)) (let k : imm_len row ≡ 0 = eqb-true _ _ z in omega arith)) (λ z. near_go n (Imm h row reg rm 0 zeros_8) (omega arith))

near_over : (n : ℕ) (h : Head) (row : Row) (reg mode r : ℕ) (x : Option (Reg × ℕ)) → n ≡ 1 + mode_len mode + imm_len row → Near n (over h row reg mode r x)
unfolding over least_of
near_over n h row reg mode r x e = both n (nat_eq mode 0) _ _
    (λ z. near_done n h row reg _ (let k : mode_len mode ≡ 0 = rw z refl in omega arith))
    (λ z. near_go n _ (let k : mode_len mode ≡ disp_len mode = rw z refl in omega arith))

-- SIB 24: no index, or r12, over a base whose low bits are 4
near_base : (h : Head) (row : Row) (m : ℕ) (x : Option (Reg × ℕ)) → Near (1 + mode_len (m / 64) + imm_len row) (sib_base h row m 4 x)
unfolding sib_base
near_base h row m x =
    rw (and_right (nat_eq (m / 64) 0) false refl, and_right (is_none x) false refl) (near_over _ h row (reg_field h m) (m / 64) (4 + 8 * rex_b h.rex) x refl)

near_sib : (h : Head) (row : Row) (m : ℕ) → Near (least_of (Sib h row m)) (step_of (Sib h row m) 0x24)
unfolding step_of least_of sib_step
near_sib h row m = both _ (not (nat_eq (index_field h 0x24) 4)) _ _ (λ e. near_base h row m _) (λ e. near_base h row m None)

-- the last byte 1 makes a displacement that no shorter form has
far_8 : (n : ℕ) → 2 ^ 24 ≤ n → n < 2 ^ 25 → fits_8 (cast_signed w32 n) ≡ false
far_8 n h k = let e = lt-ltb n (2 ^ 31) (omega arith) in rw e (le-ltb n 128 (omega arith))

fine_free : (free : Bool) (mode : ℕ) (d : ℤ) → nat_eq mode 1 ≡ false → fits_8 d ≡ false → disp_fine free mode d ≡ true
unfolding disp_fine
fine_free true mode d e f = refl
fine_free false mode d e f = rw (e, f) refl

fine_byte : (free : Bool) (cells : List ℕ) → length cells ≡ 4 → AreBytes cells → disp_fine free 1 (disp_value 1 (slice_set cells 0 1)) ≡ true
unfolding disp_fine disp_value
fine_byte true cells l s = refl
fine_byte false cells l s = cells_of_4 (λ cells. disp_fine false 1 (disp_value 1 (slice_set cells 0 1)) ≡ true) (λ a b c d ha hb hc hd. refl) cells l s

fine_word : (free : Bool) (mode : ℕ) (cells : List ℕ) → nat_eq mode 1 ≡ false → length cells ≡ 4 → AreBytes cells → disp_fine free mode (disp_value mode (slice_set cells 3 1)) ≡ true
unfolding disp_value
fine_word free mode cells e l s =
    rw e (cells_of_4 (λ cells. disp_fine free mode (cast_signed w32 (from_le_bytes w32 (slice_set cells 3 1))) ≡ true)
    (λ a b c d ha hb hc hd. fine_free free mode (cast_signed w32 (a + b * 256 + c * 65536 + 1 * 16777216)) e (far_8 (a + b * 256 + c * 65536 + 1 * 16777216) (omega arith) (omega arith))) cells l s)

fine_last : (free : Bool) (mode have : ℕ) (cells : List ℕ) (b : Bool) → nat_eq mode 1 ≡ b → have + 1 ≡ disp_len mode → length cells ≡ 4 → AreBytes cells → disp_fine free mode (disp_value mode (slice_set cells have 1)) ≡ true
fine_last free mode have cells true e h l s =
    let m : mode ≡ 1 = eqb-true mode 1 e in let k : have ≡ 0 = subst (λ m. have + 1 ≡ disp_len m → have ≡ 0) (sym m) (λ h. omega arith) h in
    rw (m, k) (fine_byte free cells l s)
fine_last free mode have cells false e h l s =
    let k : have ≡ 3 = three (disp_len mode) h (rw e refl) in rw k (fine_word free mode cells e l s)
  where
    three : (n : ℕ) → have + 1 ≡ n → n ≡ 4 → have ≡ 3
    three n p q = omega arith

near_disp : (h : Head) (row : Row) (reg mode : ℕ) (base : Base) (index : Option (Reg × ℕ)) (free : Bool) (have : ℕ) (cells read : List ℕ) → DispOk h row reg mode base index free have cells read
    → Near (least_of (Disp h row reg mode base index free have cells)) (step_of (Disp h row reg mode base index free have cells) 1)
unfolding step_of least_of disp_end
near_disp h row reg mode base index free have cells read k =
    both _ (nat_eq (have + 1) (disp_len mode)) _ _
    (λ e. let n : have + 1 ≡ disp_len mode = eqb-true _ _ e in
    rw (fine_last free mode have cells (nat_eq mode 1) refl n k.four k.small) (near_done _ h row reg (mem base index (disp_value mode (slice_set cells have 1))) (omega arith)))
    (λ e. near_go _ (Disp h row reg mode base index free (have + 1) (slice_set cells have 1)) (let p = k.part in omega arith))

-- and an immediate too
far_32 : (n : ℕ) → 2 ^ 56 ≤ n → n < 2 ^ 57 → fits_32 (cast_signed w64 n) ≡ false
far_32 n h k = let e = lt-ltb n (2 ^ 63) (omega arith) in rw e (le-ltb n (2 ^ 31) (omega arith))

fine_alu : (w : ℕ) (cells : List ℕ) → length cells ≡ 8 → AreBytes cells → imm_fine (AluImm w true) (imm_value (AluImm w true) (slice_set cells 3 1)) ≡ true
unfolding imm_fine imm_value signed imm_len
fine_alu w cells l s =
    cells_of_8 (λ cells. not (fits_8 (cast_signed w32 (from_le_bytes w32 (slice_set cells 3 1)))) ≡ true)
    (λ a b c d e f g i ha hb hc hd he hf hg hi. ap not (far_8 (a + b * 256 + c * 65536 + 1 * 16777216) (omega arith) (omega arith))) cells l s

fine_mov : (cells : List ℕ) → length cells ≡ 8 → AreBytes cells → imm_fine (MovImm 64) (imm_value (MovImm 64) (slice_set cells 7 1)) ≡ true
unfolding imm_fine imm_value signed imm_len
fine_mov cells l s =
    cells_of_8 (λ cells. not (fits_32 (cast_signed w64 (from_le_bytes w64 (slice_set cells 7 1)))) ≡ true)
    (λ a b c d e f g i ha hb hc hd he hf hg hi. ap not (far_32 (from_le_bytes w64 (a ∷ b ∷ c ∷ d ∷ e ∷ f ∷ g ∷ 1 ∷ [])) (omega arith) (omega arith))) cells l s

fine_mov_word : (w have : ℕ) (cells : List ℕ) → word_ok w ≡ true → have + 1 ≡ imm_len (MovImm w) → length cells ≡ 8 → AreBytes cells → imm_fine (MovImm w) (imm_value (MovImm w) (slice_set cells have 1)) ≡ true
unfolding imm_fine imm_len
fine_mov_word w have cells o h l s =
    word_cases w (λ w. have + 1 ≡ imm_len (MovImm w) → imm_fine (MovImm w) (imm_value (MovImm w) (slice_set cells have 1)) ≡ true) o (λ h. refl)
    (λ h. let k : have ≡ 7 = omega arith in rw k (fine_mov cells l s)) h

fine_imm : (row : Row) (have : ℕ) (cells : List ℕ) → row_ok row ≡ true → have + 1 ≡ imm_len row → length cells ≡ 8 → AreBytes cells → imm_fine row (imm_value row (slice_set cells have 1)) ≡ true
unfolding imm_fine imm_len
fine_imm (MovImm w) have cells o h l s = fine_mov_word w have cells o h l s
fine_imm (AluImm w true) have cells o h l s = let k : have ≡ 3 = omega arith in rw k (fine_alu w cells l s)
fine_imm row have cells o h l s = refl

near_imm : (h : Head) (row : Row) (reg : ℕ) (rm : Rm) (have : ℕ) (cells read : List ℕ) → ImmOk row reg rm have cells read
    → Near (least_of (Imm h row reg rm have cells)) (step_of (Imm h row reg rm have cells) 1)
unfolding step_of least_of imm_end
near_imm h row reg rm have cells read k =
    both _ (nat_eq (have + 1) (imm_len row)) _ _
    (λ e. let n : have + 1 ≡ imm_len row = eqb-true _ _ e in
    rw (fine_imm row have cells k.ok n k.eight k.small) (near_end _ _ (omega arith)))
    (λ e. near_go _ (Imm h row reg rm (have + 1) (slice_set cells have 1)) (let p = k.part in omega arith))

pub record Soon (s : State) : Type 0 where
  pub byte : ℕ
  pub below : byte < 256
  pub near : Near (least_of s) (step_of s byte)

by_test : (s : State) → soonest s ≡ true → Soon s
by_test s h = let p = some-at 256 (λ b. nearer (least_of s) (step_of s b)) h in record { byte = p.at; below = p.below; near = record { near = p.passes } }

pub soon : (s : State) (read : List ℕ) → Reached s read → Soon s
soon Start read k = by_test Start (heads-start (λ s. soonest s) heads_soonest)
soon (Prefix p) read k = by_test (Prefix p) (heads-prefix (λ s. soonest s) p heads_soonest k.0)
soon (Rex p rex) read k = by_test (Rex p rex) (heads-rex (λ s. soonest s) p rex read heads_soonest k)
soon (Escape p rex) read k = by_test (Escape p rex) (heads-escape (λ s. soonest s) p rex read heads_soonest k)
soon (ModRm h row) read k = by_test (ModRm h row) (soon-row h.prefix h.rex h.escape h.opcode h row k.head.prefix k.head.rex k.small k.begins)
soon (Sib h row m) read k = record { byte = 0x24; below = omega arith; near = near_sib h row m }
soon (Disp h row reg mode base index free have cells) read k = record { byte = 1; below = omega arith; near = near_disp h row reg mode base index free have cells read k }
soon (Imm h row reg rm have cells) read k = record { byte = 1; below = omega arith; near = near_imm h row reg rm have cells read k }

-- an instruction that the bytes begin, as short as the state says
pub record Ending (n : ℕ) (read : List ℕ) : Type 0 where
  pub rest : List ℕ
  pub length_is : length rest ≡ n
  pub instr : Instr
  pub spells : Spells (read ++ rest) instr

by_next : (n : ℕ) (s : State) (read : List ℕ) (b : ℕ) (x : Next) → Reached s read → b < 256 → step_of s b ≡ x → nearer (suc n) x ≡ true → ((t : State) → least_of t ≡ n → Reached t (read ++ (b ∷ [])) → Ending n (read ++ (b ∷ []))) → Ending (suc n) read
by_next n s read b Dead k l e h ih = absurd (cc)
by_next n s read b (End i) k l e h ih = record { rest = b ∷ []; length_is = sym (eqb-true _ _ h); instr = i; spells = spells-end s i b read k l e }
by_next n s read b (Go t) k l e h ih =
    let c = ih t (let q : suc n ≡ 1 + least_of t = eqb-true _ _ h in omega arith) (reached-go s t b read k l e) in
    record { rest = b ∷ c.rest; length_is = ap suc c.length_is; instr = c.instr; spells = subst (λ xs. Spells xs c.instr) (append_assoc read (b ∷ []) c.rest) c.spells }

none_near : (x : Next) → nearer 0 x ≡ true → ⊥
none_near Dead h = absurd (cc)
none_near (End i) h = absurd (cc)
none_near (Go t) h = let q : 0 ≡ 1 + least_of t = eqb-true _ _ h in absurd (omega arith)

-- at least one byte is needed
pos_case : (s : State) (read : List ℕ) (n : ℕ) → least_of s ≡ n → Soon s → 1 ≤ least_of s
pos_case s read zero e q = let h : nearer 0 (step_of s q.byte) ≡ true = subst (λ n. nearer n (step_of s q.byte) ≡ true) e q.near.near in absurd (none_near (step_of s q.byte) h)
pos_case s read (suc n) e q = omega arith

pub least-pos : (s : State) (read : List ℕ) → Reached s read → 1 ≤ least_of s
least-pos s read k = pos_case s read (least_of s) refl (soon s read k)

pub completes : (n : ℕ) (s : State) (read : List ℕ) → least_of s ≡ n → Reached s read → Ending n read
completes zero s read e k =
    let q = soon s read k in let h : nearer 0 (step_of s q.byte) ≡ true = subst (λ n. nearer n (step_of s q.byte) ≡ true) e q.near.near in absurd (none_near (step_of s q.byte) h)
completes (suc n) s read e k =
    let q = soon s read k in
    by_next n s read q.byte (step_of s q.byte) k q.below refl (subst (λ n. nearer n (step_of s q.byte) ≡ true) e q.near.near) (λ t f r. completes n t (read ++ (q.byte ∷ [])) f r)
