-- An instruction has at most fifteen bytes.
use Rattle.std.proofs.Common.{◌≡◌, ◌≤◌, ◌<◌, ◌+◌, ◌-◌, ◌/◌, IsTrue, true, false, Bool, ℕ, suc, arith, nat_eq, refl, subst, sym, ◌∙◌}
use Rattle.std.specs.Prelude.{Option, Some, None, if◌then◌else◌}
use Rattle.std.proofs.lemmas.Bool.{eqb-true, ltb-true}
use Rattle.std.proofs.lemmas.Grind.{common_steps}
use Rattle.x86_forms.specs.declared.instr.Instr.{Instr}
use Rattle.x86_forms.specs.declared.instr.Reg.{Reg}
use Rattle.x86_forms.specs.declared.instr.Base.{Base}
use Rattle.x86_forms.specs.declared.instr.Rm.{Rm}
use Rattle.x86_decode.specs.declared.rows.Row.{Row}
use Rattle.x86_decode.specs.declared.rows.Row.TheVariants.{MovMem, MovImm, AluImm}
use Rattle.x86_decode.specs.declared.states.Head.{Head}
use Rattle.x86_decode.specs.declared.states.State.{State}
use Rattle.x86_decode.specs.declared.states.State.TheVariants.{Start, Prefix, Rex, Escape, ModRm, Sib, Disp, Imm}
use Rattle.x86_decode.specs.declared.states.Next.{Next}
use Rattle.x86_decode.specs.declared.states.Next.TheVariants.{Dead, Go, End}
use Rattle.x86_decode.specs.Rows.{imm_len, is_bare, is_in_opcode}
use Rattle.x86_decode.specs.Run.{least_of, mode_len}
use Rattle.x86_decode.specs.Steps.{begin, begins, opcode_step, after_prefix, escape_or_opcode, done, over, modrm_reg, modrm_mem, modrm_step, sib_step, no_base, sib_base, disp_len, disp_end, imm_end, step_of, is_partial}

-- the greatest number of bytes that may still come
unfoldable pub most_of : State → ℕ
most_of Start = 15
most_of (Prefix prefix) = 14
most_of (Rex prefix rex) = 13
most_of (Escape prefix rex) = 12
most_of (ModRm head row) = 6 + imm_len row
most_of (Sib head row modrm) = 5 + imm_len row
most_of (Disp head row reg mode base index free have bytes) = (disp_len mode - have) + imm_len row
most_of (Imm head row reg rm have bytes) = imm_len row - have

abbrev pub MostNext : ℕ → Next → Type 0
MostNext n Dead = Unit {0}
MostNext n (Go s) = suc (most_of s) ≤ n
MostNext n (End i) = 1 ≤ n

-- at most n bytes could come, this one among them
pub record Most (n : ℕ) (x : Next) : Type 0 where
  pub most : MostNext n x

most-dead : (n : ℕ) → Most n Dead
most-dead n = record { most = tt }

most-end : (n : ℕ) (i : Instr) → 1 ≤ n → Most n (End i)
most-end n i h = record { most = h }

most-go : (n : ℕ) (s : State) → suc (most_of s) ≤ n → Most n (Go s)
most-go n s h = record { most = h }

both : (n : ℕ) (b : Bool) (x y : Next) → Most n x → Most n y → Most n (if b then x else y)
both n true x y h k = h
both n false x y h k = k

both' : (n : ℕ) (b : Bool) (x y : Next) → (b ≡ true → Most n x) → (b ≡ false → Most n y) → Most n (if b then x else y)
both' n true x y h k = h refl
both' n false x y h k = k refl

pub imm_len-le : (row : Row) → imm_len row ≤ 8
unfolding imm_len
imm_len-le (MovMem w) = grind (arith, common_steps)
imm_len-le (MovImm w) = grind (arith, common_steps)
imm_len-le (AluImm w long) = grind (arith, common_steps)
imm_len-le row = omega arith

-- only a move of 64 bits to a register has eight bytes of immediate, and no ModRM
pub imm_len-modrm : (row : Row) → is_in_opcode row ≡ false → imm_len row ≤ 4
unfolding imm_len is_in_opcode
imm_len-modrm (MovMem w) h = grind (arith, common_steps)
imm_len-modrm (MovImm w) h = absurd (cc)
imm_len-modrm (AluImm w long) h = grind (arith, common_steps)
imm_len-modrm row h = omega arith

most-done : (n : ℕ) (head : Head) (row : Row) (reg : ℕ) (rm : Rm) → suc (imm_len row) ≤ n → Most n (done head row reg rm)
unfolding done most_of
most-done n head row reg rm h = both n (nat_eq (imm_len row) 0) _ _ (most-end n _ (omega arith)) (most-go n _ (omega arith))

most-over : (n : ℕ) (head : Head) (row : Row) (reg mode r : ℕ) (x : Option (Reg × ℕ)) → 5 + imm_len row ≤ n → Most n (over head row reg mode r x)
unfolding over most_of
most-over n head row reg mode r x h = both n (nat_eq mode 0) _ _ (most-done n head row reg _ (omega arith)) (most-go n _ (grind (arith, common_steps)))

most-no_base : (n : ℕ) (head : Head) (row : Row) (reg : ℕ) (b : Base) (x : Option (Reg × ℕ)) → 5 + imm_len row ≤ n → Most n (no_base head row reg b x)
unfolding no_base most_of
most-no_base n head row reg b x h = most-go n _ (omega arith)

most-reg : (head : Head) (row : Row) (reg r : ℕ) → Most (6 + imm_len row) (modrm_reg head row reg r)
unfolding modrm_reg
most-reg head row reg r = both _ _ _ _ (most-done _ head row reg _ (omega arith)) (most-dead _)

most-sib' : (head : Head) (row : Row) (b : ℕ) → Most (6 + imm_len row) (Go (Sib head row b))
unfolding most_of
most-sib' head row b = most-go _ _ (omega arith)

most-mem : (head : Head) (row : Row) (reg b : ℕ) → Most (6 + imm_len row) (modrm_mem head row reg b)
unfolding modrm_mem
most-mem head row reg b = search (arith, both, most-dead, most-over, most-no_base, most-sib') depth 12

most-modrm : (head : Head) (row : Row) (b : ℕ) → Most (6 + imm_len row) (modrm_step head row b)
unfolding modrm_step
most-modrm head row b = both _ _ _ _ (most-dead _) (both _ _ _ _ (most-reg head row _ _) (most-mem head row _ b))

most-base : (head : Head) (row : Row) (m low : ℕ) (x : Option (Reg × ℕ)) → Most (5 + imm_len row) (sib_base head row m low x)
unfolding sib_base
most-base head row m low x =
    both _ _ _ _ (both _ _ _ _ (most-no_base _ head row _ _ x (omega arith)) (most-dead _)) (both _ _ _ _ (most-dead _) (most-over _ head row _ _ _ x (omega arith)))

most-sib : (head : Head) (row : Row) (m b : ℕ) → Most (5 + imm_len row) (sib_step head row m b)
unfolding sib_step
most-sib head row m b = search (arith, both, most-dead, most-base)

most-modrm' : (n : ℕ) (head : Head) (row : Row) → 7 + imm_len row ≤ n → Most n (Go (ModRm head row))
unfolding most_of
most-modrm' n head row h = most-go n _ (omega arith)

most-begin : (head : Head) (row : Row) → Most 12 (begin head row)
unfolding begin
most-begin head row =
    both' _ (is_bare row) _ _ (λ e. both _ _ _ _ (most-done _ head row _ _ (omega (arith, imm_len-le row))) (most-dead _))
    (λ e. both' _ (is_in_opcode row) _ _ (λ f. both _ _ _ _ (most-done _ head row _ _ (omega (arith, imm_len-le row))) (most-dead _))
    (λ f. both _ _ _ _ (most-modrm' _ head row (omega (arith, imm_len-modrm row f))) (most-dead _)))

most-begins : (o : Option Row) (head : Head) → Most 12 (begins o head)
most-begins None head = most-dead _
most-begins (Some row) head = most-begin head row

most-more : (n m : ℕ) (x : Next) → n ≤ m → Most n x → Most m x
most-more n m Dead h k = record { most = tt }
most-more n m (Go s) h k = let l = k.most in record { most = omega arith }
most-more n m (End i) h k = let l = k.most in record { most = omega arith }

most-opcode : (n p rex : ℕ) (escape : Bool) (b : ℕ) → 12 ≤ n → Most n (opcode_step p rex escape b)
unfolding opcode_step
most-opcode n p rex escape b h = most-more 12 n _ h (most-begins _ _)

most-escape' : (n p rex : ℕ) → 13 ≤ n → Most n (Go (Escape p rex))
unfolding most_of
most-escape' n p rex h = most-go n _ (omega arith)

most-rex : (n p rex b : ℕ) → 13 ≤ n → Most n (escape_or_opcode p rex b)
unfolding escape_or_opcode
most-rex n p rex b h = both _ _ _ _ (both _ _ _ _ (most-escape' n p rex h) (most-dead _)) (most-opcode n p rex false b (omega arith))

most-rex' : (n p rex : ℕ) → 14 ≤ n → Most n (Go (Rex p rex))
unfolding most_of
most-rex' n p rex h = most-go n _ (omega arith)

most-prefix : (n p b : ℕ) → 14 ≤ n → Most n (after_prefix p b)
unfolding after_prefix
most-prefix n p b h = both _ _ _ _ (both _ _ _ _ (most-rex' n p b h) (most-dead _)) (most-rex n p 0 b (omega arith))

most-prefix' : (p : ℕ) → Most 15 (Go (Prefix p))
unfolding most_of
most-prefix' p = most-go _ _ (omega arith)

pub most-step : (s : State) (b : ℕ) → IsTrue (is_partial s) → Most (most_of s) (step_of s b)
unfolding step_of disp_end imm_end most_of
most-step Start b h = both _ _ _ _ (most-prefix' b) (most-prefix _ 0 b (omega arith))
most-step (Prefix p) b h = most-prefix _ p b (omega arith)
most-step (Rex p r) b h = most-rex _ p r b (omega arith)
most-step (Escape p r) b h = most-opcode _ p r true b (omega arith)
most-step (ModRm head row) b h = most-modrm head row b
most-step (Sib head row m) b h = most-sib head row m b
most-step (Disp head row reg mode base index free have bytes) b h =
    both' _ (nat_eq (have + 1) (disp_len mode)) _ _
    (λ e. both _ _ _ _ (most-done _ head row reg _ (let k : have + 1 ≡ disp_len mode = eqb-true _ _ e in omega arith)) (most-dead _))
    (λ e. most-go _ _ (let k : have < disp_len mode = ltb-true _ _ h in omega arith))
most-step (Imm head row reg rm have bytes) b h =
    both' _ (nat_eq (have + 1) (imm_len row)) _ _
    (λ e. both _ _ _ _ (most-end _ _ (let k : have + 1 ≡ imm_len row = eqb-true _ _ e in omega arith)) (most-dead _))
    (λ e. most-go _ _ (let k : have < imm_len row = ltb-true _ _ h in omega arith))

pub most_of-go : (s : State) (b : ℕ) (n : Next) (s' : State) → IsTrue (is_partial s) → n ≡ step_of s b → n ≡ Go s' → suc (most_of s') ≤ most_of s
most_of-go s b n s' h e g = let k : Most (most_of s) (Go s') = subst (λ n. Most (most_of s) n) (sym e ∙ g) (most-step s b h) in k.most

pub most_of-end : (s : State) (b : ℕ) (n : Next) (i : Instr) → IsTrue (is_partial s) → n ≡ step_of s b → n ≡ End i → 1 ≤ most_of s
most_of-end s b n i h e g = let k : Most (most_of s) (End i) = subst (λ n. Most (most_of s) n) (sym e ∙ g) (most-step s b h) in k.most

mode_len-le : (mode : ℕ) → mode_len mode ≤ 4
mode_len-le mode = grind (arith, common_steps)

-- and no more than what is needed
pub least_of-most_of : (s : State) → least_of s ≤ most_of s
unfolding least_of most_of
least_of-most_of Start = omega arith
least_of-most_of (Prefix p) = grind (arith, common_steps)
least_of-most_of (Rex p r) = grind (arith, common_steps)
least_of-most_of (Escape p r) = grind (arith, common_steps)
least_of-most_of (ModRm head row) = omega arith
least_of-most_of (Sib head row m) = omega (arith, mode_len-le (m / 64))
least_of-most_of (Disp head row reg mode base index free have bytes) = omega arith
least_of-most_of (Imm head row reg rm have bytes) = omega arith
