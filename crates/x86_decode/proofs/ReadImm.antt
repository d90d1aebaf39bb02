-- Immediates, from their bytes to the instruction.
use Rattle.std.proofs.Common.{◌≡◌, IsTrue, true, false, ℕ, suc, arith, nat_eq, ℤ, pos, List, [], ◌∷◌, ◌++◌, ap, ◌∙◌}
use Rattle.std.specs.Prelude.{if◌then◌else◌, slice_index}
use Rattle.std.proofs.lemmas.Bool.{ne_eqb}
use Rattle.x86_forms.specs.declared.instr.Rm.{Rm}
use Rattle.x86_forms.specs.Fits.{fits_8, fits_16, fits_32, fits_64, fits_count}
use Rattle.x86_forms.specs.Spelling.{low_bytes}
use Rattle.x86_decode.specs.declared.rows.Row.{Row}
use Rattle.x86_decode.specs.declared.states.Head.{Head}
use Rattle.x86_decode.specs.declared.states.State.TheVariants.{Imm}
use Rattle.x86_decode.specs.declared.states.Next.TheVariants.{Go, End}
use Rattle.x86_decode.specs.Rows.{imm_len, build}
use Rattle.x86_decode.specs.Steps.{done, step_of, imm_end, imm_value, imm_fine, signed, zeros_8, rel_value}
use Rattle.x86_decode.proofs.Feed.{feed}
use Rattle.x86_decode.proofs.Numbers.{byte_back, count_back, two_back, four_back, eight_back}

-- no immediate
pub imm_0 : (h : Head) (row : Row) (reg : ℕ) (rm : Rm) → imm_len row ≡ 0 → feed (low_bytes 0 (pos 0)) (done h row reg rm) ≡ End (build row reg rm (pos 0))
unfolding done low_bytes
imm_0 h row reg rm e = simp e

begin_imm : (h : Head) (row : Row) (reg : ℕ) (rm : Rm) (n : ℕ) → imm_len row ≡ suc n → done h row reg rm ≡ Go (Imm h row reg rm 0 zeros_8)
unfolding done
begin_imm h row reg rm n e = let k : nat_eq (suc n) 0 ≡ false = ne_eqb (suc n) 0 (λ z. absurd (omega arith)) in simp (e, k)

end_imm : (row : Row) (reg : ℕ) (rm : Rm) (bytes : List ℕ) (imm : ℤ) → imm_value row bytes ≡ imm → imm_fine row imm ≡ true → imm_end row reg rm bytes ≡ End (build row reg rm imm)
unfolding imm_end
end_imm row reg rm bytes imm e f = simp (e, f)

-- the cells that an immediate leaves at 0
abbrev pub rest_of : ℕ → List ℕ
rest_of n = if nat_eq n 1 then 0 ∷ 0 ∷ 0 ∷ 0 ∷ 0 ∷ 0 ∷ 0 ∷ [] else if nat_eq n 2 then 0 ∷ 0 ∷ 0 ∷ 0 ∷ 0 ∷ 0 ∷ [] else if nat_eq n 4 then 0 ∷ 0 ∷ 0 ∷ 0 ∷ [] else []

-- a row has this immediate of n bytes
pub record HasImm (row : Row) (n : ℕ) (imm : ℤ) : Type 0 where
  pub bytes : imm_len row ≡ n
  pub value : imm_value row (low_bytes n imm ++ rest_of n) ≡ imm
  pub fine : imm_fine row imm ≡ true

steps_1 : (h : Head) (row : Row) (reg : ℕ) (rm : Rm) (a : ℕ) → imm_len row ≡ 1
    → feed (a ∷ []) (Go (Imm h row reg rm 0 zeros_8)) ≡ imm_end row reg rm (a ∷ rest_of 1)
unfolding step_of
steps_1 h row reg rm a e = simp e

pub imm_1 : (h : Head) (row : Row) (reg : ℕ) (rm : Rm) (imm : ℤ) → HasImm row 1 imm → feed (low_bytes 1 imm) (done h row reg rm) ≡ End (build row reg rm imm)
unfolding low_bytes
imm_1 h row reg rm imm k =
    ap (λ n. feed (low_bytes 1 imm) n) (begin_imm h row reg rm 0 k.bytes) ∙ steps_1 h row reg rm _ k.bytes ∙ end_imm row reg rm _ imm k.value k.fine

steps_2 : (h : Head) (row : Row) (reg : ℕ) (rm : Rm) (a b : ℕ) → imm_len row ≡ 2
    → feed (a ∷ b ∷ []) (Go (Imm h row reg rm 0 zeros_8)) ≡ imm_end row reg rm (a ∷ b ∷ rest_of 2)
unfolding step_of
steps_2 h row reg rm a b e = simp e

pub imm_2 : (h : Head) (row : Row) (reg : ℕ) (rm : Rm) (imm : ℤ) → HasImm row 2 imm → feed (low_bytes 2 imm) (done h row reg rm) ≡ End (build row reg rm imm)
unfolding low_bytes
imm_2 h row reg rm imm k =
    ap (λ n. feed (low_bytes 2 imm) n) (begin_imm h row reg rm 1 k.bytes) ∙ steps_2 h row reg rm _ _ k.bytes ∙ end_imm row reg rm _ imm k.value k.fine

steps_4 : (h : Head) (row : Row) (reg : ℕ) (rm : Rm) (a b c d : ℕ) → imm_len row ≡ 4
    → feed (a ∷ b ∷ c ∷ d ∷ []) (Go (Imm h row reg rm 0 zeros_8)) ≡ imm_end row reg rm (a ∷ b ∷ c ∷ d ∷ rest_of 4)
unfolding step_of
steps_4 h row reg rm a b c d e = simp e

pub imm_4 : (h : Head) (row : Row) (reg : ℕ) (rm : Rm) (imm : ℤ) → HasImm row 4 imm → feed (low_bytes 4 imm) (done h row reg rm) ≡ End (build row reg rm imm)
unfolding low_bytes
imm_4 h row reg rm imm k =
    ap (λ n. feed (low_bytes 4 imm) n) (begin_imm h row reg rm 3 k.bytes) ∙ steps_4 h row reg rm _ _ _ _ k.bytes ∙ end_imm row reg rm _ imm k.value k.fine

steps_8 : (h : Head) (row : Row) (reg : ℕ) (rm : Rm) (a b c d e f g i : ℕ) → imm_len row ≡ 8
    → feed (a ∷ b ∷ c ∷ d ∷ e ∷ f ∷ g ∷ i ∷ []) (Go (Imm h row reg rm 0 zeros_8)) ≡ imm_end row reg rm (a ∷ b ∷ c ∷ d ∷ e ∷ f ∷ g ∷ i ∷ [])
unfolding step_of
steps_8 h row reg rm a b c d e f g i k = simp k

pub imm_8 : (h : Head) (row : Row) (reg : ℕ) (rm : Rm) (imm : ℤ) → HasImm row 8 imm → feed (low_bytes 8 imm) (done h row reg rm) ≡ End (build row reg rm imm)
unfolding low_bytes
imm_8 h row reg rm imm k =
    ap (λ n. feed (low_bytes 8 imm) n) (begin_imm h row reg rm 7 k.bytes) ∙ steps_8 h row reg rm _ _ _ _ _ _ _ _ k.bytes ∙ end_imm row reg rm _ imm k.value k.fine

-- signed numbers among eight cells
pub signed_1 : (z : ℤ) → IsTrue (fits_8 z) → signed 1 (low_bytes 1 z ++ rest_of 1) ≡ z
unfolding signed low_bytes
signed_1 z h = byte_back z h

pub signed_2 : (z : ℤ) → IsTrue (fits_16 z) → signed 2 (low_bytes 2 z ++ rest_of 2) ≡ z
unfolding signed low_bytes
signed_2 z h = two_back z h

pub signed_4 : (z : ℤ) → IsTrue (fits_32 z) → signed 4 (low_bytes 4 z ++ rest_of 4) ≡ z
unfolding signed low_bytes
signed_4 z h = four_back z h

pub signed_8 : (z : ℤ) → IsTrue (fits_64 z) → signed 8 (low_bytes 8 z ++ rest_of 8) ≡ z
unfolding signed low_bytes
signed_8 z h = eight_back z h

-- a target
pub rel_4 : (z : ℤ) → IsTrue (fits_32 z) → rel_value (low_bytes 4 z ++ rest_of 4) ≡ z
unfolding low_bytes
rel_4 z h = four_back z h

-- a count
pub count_1 : (z : ℤ) → IsTrue (fits_count z) → pos (slice_index (low_bytes 1 z ++ rest_of 1) 0) ≡ z
unfolding low_bytes
count_1 z h = count_back z h
