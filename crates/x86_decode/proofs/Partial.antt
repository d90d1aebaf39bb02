use Rattle.std.proofs.Common.{◌≡◌, ◌+◌, IsTrue, true, false, Bool, ℕ, arith, nat_eq, refl, subst, sym, ◌∙◌}
use Rattle.std.specs.Prelude.{Option, Some, None, if◌then◌else◌}
use Rattle.std.proofs.lemmas.Bool.{cond_both}
use Rattle.std.proofs.lemmas.Grind.{common_steps}
use Rattle.x86_forms.specs.declared.instr.Instr.{Instr}
use Rattle.x86_forms.specs.declared.instr.Reg.{Reg}
use Rattle.x86_forms.specs.declared.instr.Base.{Base}
use Rattle.x86_forms.specs.declared.instr.Rm.{Rm}
use Rattle.x86_decode.specs.declared.rows.Row.{Row}
use Rattle.x86_decode.specs.declared.states.Head.{Head}
use Rattle.x86_decode.specs.declared.states.State.{State}
use Rattle.x86_decode.specs.declared.states.State.TheVariants.{Start, Prefix, Rex, Escape, ModRm, Sib, Disp, Imm}
use Rattle.x86_decode.specs.declared.states.Next.{Next}
use Rattle.x86_decode.specs.declared.states.Next.TheVariants.{Dead, Go, End}
use Rattle.x86_decode.specs.Rows.{imm_len}
use Rattle.x86_decode.specs.Steps.{begin, begins, opcode_step, after_prefix, escape_or_opcode, done, over, modrm_reg, modrm_mem, modrm_step, sib_step, no_base, sib_base, disp_len, disp_end, imm_end, step_of, is_partial}

-- what is read next is is_partial
abbrev pub OnGo : (State → Type 0) → Next → Type 0
OnGo P Dead = Unit {0}
OnGo P (Go s) = P s
OnGo P (End i) = Unit {0}

pub record W (n : Next) : Type 0 where
  pub w : OnGo (λ s. IsTrue (is_partial s)) n

pub w-dead : W Dead
w-dead = record { w = tt }

pub w-end : (i : Instr) → W (End i)
w-end i = record { w = tt }

-- each branch
pub both : (b : Bool) (x y : Next) → W x → W y → W (if b then x else y)
both true x y h k = h
both false x y h k = k

pub w-done : (head : Head) (row : Row) (reg : ℕ) (rm : Rm) → W (done head row reg rm)
unfolding done
w-done head row reg rm = cond_both (nat_eq (imm_len row) 0) _ _ (λ n. W n) (λ e. w-end _) (λ e. record { w = grind (arith, common_steps) })

pub w-over : (head : Head) (row : Row) (reg mode r : ℕ) (x : Option (Reg × ℕ)) → W (over head row reg mode r x)
unfolding over
w-over head row reg mode r x = cond_both (nat_eq mode 0) _ _ (λ n. W n) (λ e. w-done _ _ _ _) (λ e. record { w = grind (arith, common_steps) })

pub w-no_base : (head : Head) (row : Row) (reg : ℕ) (b : Base) (x : Option (Reg × ℕ)) → W (no_base head row reg b x)
unfolding no_base
w-no_base head row reg b x = record { w = grind (arith, common_steps) }

pub w-reg : (head : Head) (row : Row) (reg r : ℕ) → W (modrm_reg head row reg r)
unfolding modrm_reg
w-reg head row reg r = search (both, w-done, w-dead)

w-sib' : (head : Head) (row : Row) (b : ℕ) → W (Go (Sib head row b))
w-sib' head row b = record { w = refl }

w-modrm' : (head : Head) (row : Row) → W (Go (ModRm head row))
w-modrm' head row = record { w = refl }

w-rex' : (p r : ℕ) → W (Go (Rex p r))
w-rex' p r = record { w = refl }

w-escape' : (p r : ℕ) → W (Go (Escape p r))
w-escape' p r = record { w = refl }

w-prefix' : (p : ℕ) → W (Go (Prefix p))
w-prefix' p = record { w = refl }

pub w-mem : (head : Head) (row : Row) (reg b : ℕ) → W (modrm_mem head row reg b)
unfolding modrm_mem
w-mem head row reg b = search (both, w-over, w-no_base, w-dead, w-sib') depth 12

pub w-modrm : (head : Head) (row : Row) (b : ℕ) → W (modrm_step head row b)
unfolding modrm_step
w-modrm head row b = search (both, w-reg, w-mem, w-dead)

pub w-base : (head : Head) (row : Row) (m low : ℕ) (x : Option (Reg × ℕ)) → W (sib_base head row m low x)
unfolding sib_base
w-base head row m low x = search (both, w-over, w-no_base, w-dead)

pub w-sib : (head : Head) (row : Row) (m b : ℕ) → W (sib_step head row m b)
unfolding sib_step
w-sib head row m b = search (both, w-base, w-dead)

pub w-begin : (head : Head) (row : Row) → W (begin head row)
unfolding begin
w-begin head row = search (both, w-done, w-dead, w-modrm')

pub w-begins : (o : Option Row) (head : Head) → W (begins o head)
w-begins None head = w-dead
w-begins (Some row) head = w-begin head row

pub w-opcode : (p rex : ℕ) (escape : Bool) (b : ℕ) → W (opcode_step p rex escape b)
unfolding opcode_step
w-opcode p rex escape b = w-begins _ _

pub w-rex : (p rex b : ℕ) → W (escape_or_opcode p rex b)
unfolding escape_or_opcode
w-rex p rex b = search (both, w-opcode, w-dead, w-escape')

pub w-prefix : (p b : ℕ) → W (after_prefix p b)
unfolding after_prefix
w-prefix p b = search (both, w-rex, w-dead, w-rex')

pub w-step : (s : State) (b : ℕ) → IsTrue (is_partial s) → W (step_of s b)
unfolding step_of disp_end imm_end
w-step Start b h = search (both, w-prefix, w-prefix')
w-step (Prefix p) b h = w-prefix _ _
w-step (Rex p r) b h = w-rex _ _ _
w-step (Escape p r) b h = w-opcode _ _ _ _
w-step (ModRm head row) b h = w-modrm _ _ _
w-step (Sib head row m) b h = w-sib _ _ _ _
w-step (Disp head row reg mode base index free have bytes) b h =
    cond_both (nat_eq (have + 1) (disp_len mode)) _ _ (λ n. W n) (λ e. search (both, w-done, w-dead)) (λ e. record { w = grind (arith, common_steps) })
w-step (Imm head row reg rm have bytes) b h =
    cond_both (nat_eq (have + 1) (imm_len row)) _ _ (λ n. W n) (λ e. search (both, w-end, w-dead)) (λ e. record { w = grind (arith, common_steps) })

pub is_partial_next : (s : State) (b : ℕ) (n : Next) (s' : State) → IsTrue (is_partial s) → n ≡ step_of s b → n ≡ Go s' → IsTrue (is_partial s')
is_partial_next s b n s' h e g = let k : W (Go s') = subst (λ n. W n) (sym e ∙ g) (w-step s b h) in k.w
