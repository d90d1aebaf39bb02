-- A byte takes at most one off what is still needed. So what completes a state has at least as many bytes as it needs.
use Rattle.std.proofs.Common.{◌≡◌, ◌≤◌, ◌<◌, ◌+◌, ◌*◌, ◌/◌, ◌%◌, true, false, Bool, ℕ, suc, arith, nat_eq, refl, List, [], ◌∷◌, ◌++◌, length, sym, ◌∙◌}
use Rattle.std.specs.Prelude.{Option, Some, None, if◌then◌else◌, ◌&&◌, ◌||◌, not, is_none, slice_set}
use Rattle.std.proofs.lemmas.Grind.{common_steps}
use Rattle.std.proofs.lemmas.Bool.{and_parts, leb-true, eqb-true}
use Rattle.x86_forms.specs.declared.instr.Instr.{Instr}
use Rattle.x86_forms.specs.declared.instr.Reg.{Reg}
use Rattle.x86_forms.specs.declared.instr.Base.{Base}
use Rattle.x86_forms.specs.declared.instr.Base.TheVariants.{None as NoBase, Rip}
use Rattle.x86_forms.specs.declared.instr.Rm.{Rm}
use Rattle.x86_forms.specs.Spelling.{is_low}
use Rattle.x86_decode.specs.declared.rows.Row.{Row}
use Rattle.x86_decode.specs.declared.states.Head.{Head}
use Rattle.x86_decode.specs.declared.states.State.{State}
use Rattle.x86_decode.specs.declared.states.State.TheVariants.{Start, Prefix, Rex, Escape, ModRm, Sib, Disp, Imm}
use Rattle.x86_decode.specs.declared.states.Next.{Next}
use Rattle.x86_decode.specs.declared.states.Next.TheVariants.{Dead, Go, End}
use Rattle.x86_decode.specs.Rows.{imm_len, takes, takes_reg, low_in_reg, low_in_rm, allows_rip, allows_no_base}
use Rattle.x86_decode.specs.Run.{least_of, mode_len}
use Rattle.x86_decode.specs.Steps.{rex_b, rex_x, low_agrees, register, scale_of, done, over, no_base, modrm_reg, modrm_mem, modrm_step, sib_base, sib_step, step_of, disp_end, imm_end, disp_value, imm_value, disp_fine, imm_fine, disp_len, reg_field, index_field, mem}
use Rattle.x86_decode.proofs.Feed.{feed, feed-dead}
use Rattle.x86_decode.proofs.Found.{reached-go}
use Rattle.x86_decode.proofs.HeadTests.{lower_next, heads_lower, heads-start, heads-prefix, heads-rex, heads-escape}
use Rattle.x86_decode.proofs.Reached.{AreBytes, Reached}
use Rattle.x86_decode.proofs.Exhaustive.{every, every-at}

-- at least n bytes were needed before this byte
pub record Low (n : ℕ) (x : Next) : Type 0 where
  pub low : lower_next n x ≡ true

pub low_dead : (n : ℕ) → Low n Dead
low_dead n = record { low = refl }

pub low_end : (n : ℕ) (i : Instr) → n ≤ 1 → Low n (End i)
low_end n i h = record { low = grind (arith, common_steps) }

pub low_go : (n : ℕ) (s : State) → n ≤ 1 + least_of s → Low n (Go s)
low_go n s h = record { low = grind (arith, common_steps) }

pub both : (n : ℕ) (b : Bool) (x y : Next) → (b ≡ true → Low n x) → (b ≡ false → Low n y) → Low n (if b then x else y)
both n true x y h k = h refl
both n false x y h k = k refl

pub low_done : (n : ℕ) (h : Head) (row : Row) (reg : ℕ) (rm : Rm) → n ≤ 1 + imm_len row → Low n (done h row reg rm)
unfolding done least_of
low_done n h row reg rm k = both n (nat_eq (imm_len row) 0) _ _
    (λ e. let z : imm_len row ≡ 0 = eqb-true _ _ e in low_end n _ (omega arith)) (λ e. low_go n _ (omega arith))

pub low_over : (n : ℕ) (h : Head) (row : Row) (reg mode r : ℕ) (x : Option (Reg × ℕ)) → n ≤ 1 + mode_len mode + imm_len row → Low n (over h row reg mode r x)
unfolding over least_of
low_over n h row reg mode r x k = both n (nat_eq mode 0) _ _
    (λ e. let z : mode_len mode ≡ 0 = rw e refl in low_done n h row reg _ (omega arith))
    (λ e. low_go n _ (let z : mode_len mode ≡ disp_len mode = rw e refl in omega arith))

pub low_no_base : (n : ℕ) (h : Head) (row : Row) (reg : ℕ) (b : Base) (x : Option (Reg × ℕ)) → n ≤ 5 + imm_len row → Low n (no_base h row reg b x)
unfolding no_base least_of
low_no_base n h row reg b x k = low_go n _ (omega arith)

abbrev pub reg_test : Head → Row → ℕ → ℕ → Bool
reg_test h row reg r = nat_eq (rex_x h.rex) 0 && takes_reg row r && low_agrees h.rex ((low_in_reg row && is_low reg) || (low_in_rm row && is_low r))

reg_test_x : (h : Head) (row : Row) (reg r : ℕ) → reg_test h row reg r ≡ true → rex_x h.rex ≡ 0
reg_test_x h row reg r e = eqb-true _ _ (and_parts _ _ (and_parts (nat_eq (rex_x h.rex) 0 && takes_reg row r) _ e).0).0

pub low_reg : (h : Head) (row : Row) (reg r : ℕ) → Low (1 + rex_x h.rex + imm_len row) (modrm_reg h row reg r)
unfolding modrm_reg
low_reg h row reg r = both _ (reg_test h row reg r) _ _ (λ e. low_done _ h row reg _ (let z = reg_test_x h row reg r e in omega arith)) (λ e. low_dead _)

not_one : (rex : ℕ) → nat_eq (rex_x rex) 1 ≡ false → rex_x rex ≡ 0
not_one rex e = grind (arith, common_steps)

x_small : (rex : ℕ) → rex_x rex ≤ 1
x_small rex = omega arith

pub low_mem : (h : Head) (row : Row) (reg b : ℕ) → Low (1 + rex_x h.rex + imm_len row) (modrm_mem h row reg b)
unfolding modrm_mem least_of
low_mem h row reg b =
    both _ (not (low_agrees h.rex (low_in_reg row && is_low reg))) _ _ (λ e. low_dead _)
    (λ e. both _ (nat_eq (b % 8) 4) _ _ (λ f. low_go _ (Sib h row b) (omega (arith, x_small h.rex)))
    (λ f. both _ (nat_eq (rex_x h.rex) 1) _ _ (λ g. low_dead _)
    (λ g. let z = not_one h.rex g in both _ (nat_eq (b / 64) 0 && nat_eq (b % 8) 5) _ _
    (λ i. both _ (nat_eq (rex_b h.rex) 0 && allows_rip row) _ _ (λ j. low_no_base _ h row reg Rip None (omega arith)) (λ j. low_dead _))
    (λ i. low_over _ h row reg (b / 64) (b % 8 + 8 * rex_b h.rex) None (omega arith)))))

pub low_modrm : (h : Head) (row : Row) (b : ℕ) → Low (1 + rex_x h.rex + imm_len row) (modrm_step h row b)
unfolding modrm_step
low_modrm h row b = both _ (not (takes row (b / 8 % 8))) _ _ (λ e. low_dead _)
    (λ e. both _ (nat_eq (b / 64) 3) _ _ (λ f. low_reg h row (reg_field h b) (b % 8 + 8 * rex_b h.rex)) (λ f. low_mem h row (reg_field h b) b))

pub low_base : (h : Head) (row : Row) (m l : ℕ) (x : Option (Reg × ℕ)) → Low (1 + mode_len (m / 64) + imm_len row) (sib_base h row m l x)
unfolding sib_base
low_base h row m l x =
    both _ (nat_eq (m / 64) 0 && nat_eq l 5) _ _
    (λ e. both _ (nat_eq (rex_b h.rex) 0 && allows_no_base row) _ _
    (λ f. low_no_base _ h row (reg_field h m) NoBase x (let k = (and_parts (nat_eq (m / 64) 0) (nat_eq l 5) e).0 in let z : mode_len (m / 64) ≡ 0 = rw k refl in omega arith)) (λ f. low_dead _))
    (λ e. both _ (is_none x && not (nat_eq l 4)) _ _ (λ f. low_dead _) (λ f. low_over _ h row (reg_field h m) (m / 64) (l + 8 * rex_b h.rex) x (omega arith)))

pub low_sib : (h : Head) (row : Row) (m b : ℕ) → Low (1 + mode_len (m / 64) + imm_len row) (sib_step h row m b)
unfolding sib_step
low_sib h row m b = both _ (not (nat_eq (index_field h b) 4)) _ _ (λ e. low_base h row m (b % 8) (Some (register (index_field h b), scale_of (b / 64))))
    (λ e. both _ (nat_eq (b / 64) 0) _ _ (λ f. low_base h row m (b % 8) None) (λ f. low_dead _))

low_disp : (h : Head) (row : Row) (reg mode : ℕ) (base : Base) (index : Option (Reg × ℕ)) (free : Bool) (have b : ℕ) (cells : List ℕ) → Low (least_of (Disp h row reg mode base index free have cells)) (step_of (Disp h row reg mode base index free have cells) b)
unfolding step_of least_of disp_end
low_disp h row reg mode base index free have b cells =
    both _ (nat_eq (have + 1) (disp_len mode)) _ _
    (λ e. both _ (disp_fine free mode (disp_value mode (slice_set cells have b))) _ _
    (λ f. low_done _ h row reg (mem base index (disp_value mode (slice_set cells have b))) (let k : have + 1 ≡ disp_len mode = eqb-true _ _ e in omega arith)) (λ f. low_dead _))
    (λ e. low_go _ (Disp h row reg mode base index free (have + 1) (slice_set cells have b)) (omega arith))

low_imm : (h : Head) (row : Row) (reg : ℕ) (rm : Rm) (have b : ℕ) (cells : List ℕ) → Low (least_of (Imm h row reg rm have cells)) (step_of (Imm h row reg rm have cells) b)
unfolding step_of least_of imm_end
low_imm h row reg rm have b cells =
    both _ (nat_eq (have + 1) (imm_len row)) _ _
    (λ e. both _ (imm_fine row (imm_value row (slice_set cells have b))) _ _
    (λ f. low_end _ _ (let k : have + 1 ≡ imm_len row = eqb-true _ _ e in omega arith)) (λ f. low_dead _))
    (λ e. low_go _ (Imm h row reg rm (have + 1) (slice_set cells have b)) (omega arith))

-- the states before the operands, by their tests
low_head : (s : State) (b : ℕ) → every 256 (λ b. lower_next (least_of s) (step_of s b)) ≡ true → b < 256 → Low (least_of s) (step_of s b)
low_head s b h l = record { low = every-at 256 b (λ b. lower_next (least_of s) (step_of s b)) h l }

abbrev lower_state : State → Bool
lower_state s = every 256 (λ b. lower_next (least_of s) (step_of s b))

low_modrm_state : (h : Head) (row : Row) (b : ℕ) → Low (least_of (ModRm h row)) (step_of (ModRm h row) b)
unfolding step_of least_of
low_modrm_state h row b = low_modrm h row b

low_sib_state : (h : Head) (row : Row) (m b : ℕ) → Low (least_of (Sib h row m)) (step_of (Sib h row m) b)
unfolding step_of least_of
low_sib_state h row m b = low_sib h row m b

pub low-step : (s : State) (b : ℕ) (read : List ℕ) → Reached s read → b < 256 → Low (least_of s) (step_of s b)
low-step Start b read k l = low_head Start b (heads-start (λ s. lower_state s) heads_lower) l
low-step (Prefix p) b read k l = low_head (Prefix p) b (heads-prefix (λ s. lower_state s) p heads_lower k.0) l
low-step (Rex p rex) b read k l = low_head (Rex p rex) b (heads-rex (λ s. lower_state s) p rex read heads_lower k) l
low-step (Escape p rex) b read k l = low_head (Escape p rex) b (heads-escape (λ s. lower_state s) p rex read heads_lower k) l
low-step (ModRm h row) b read k l = low_modrm_state h row b
low-step (Sib h row m) b read k l = low_sib_state h row m b
low-step (Disp h row reg mode base index free have cells) b read k l = low_disp h row reg mode base index free have b cells
low-step (Imm h row reg rm have cells) b read k l = low_imm h row reg rm have b cells

by_next : (xs : List ℕ) (n : ℕ) (i : Instr) (x : Next) → Low n x → ((t : State) → x ≡ Go t → feed xs (Go t) ≡ End i → least_of t ≤ length xs) → feed xs x ≡ End i → n ≤ suc (length xs)
by_next xs n i Dead l ih e = let k : Dead ≡ End i = sym (feed-dead xs) ∙ e in absurd (cc)
by_next xs n i (Go t) l ih e = let k = ih t refl e in let m = leb-true _ _ l.low in omega arith
by_next xs n i (End j) l ih e = let m = leb-true _ _ l.low in omega arith

pub tail_bytes : (x : ℕ) (xs : List ℕ) → AreBytes (x ∷ xs) → AreBytes xs
tail_bytes x xs h = λ k d q. h (suc k) d (omega arith)

pub head_byte : (x : ℕ) (xs : List ℕ) → AreBytes (x ∷ xs) → x < 256
head_byte x xs h = h 0 0 (omega arith)

pub least-low : (xs : List ℕ) (s : State) (read : List ℕ) (i : Instr) → Reached s read → AreBytes xs → feed xs (Go s) ≡ End i → least_of s ≤ length xs
least-low [] s read i k a e = absurd (cc)
least-low (x ∷ xs) s read i k a e =
    by_next xs (least_of s) i (step_of s x) (low-step s x read k (head_byte x xs a))
    (λ t f g. least-low xs t (read ++ (x ∷ [])) i (reached-go s t x read k (head_byte x xs a) f) (tail_bytes x xs a) g) e
