-- From the operands on: what leads on from there spells an instruction.
use Rattle.std.proofs.Common.{◌≡◌, ◌≤◌, ◌<◌, ◌+◌, true, false, ℕ, arith, nat_eq, pos, refl, List, [], ◌∷◌, ◌++◌, length, get_or, take, sym, subst, ap, ◌∙◌, append_assoc}
use Rattle.std.specs.Prelude.{slice_set}
use Rattle.std.proofs.lemmas.Bool.{eqb-true}
use Rattle.std.proofs.lemmas.Grind.{common_steps}
use Rattle.std.proofs.lemmas.List.{append-nil, take_more_set}
use Rattle.std.proofs.lemmas.List.Elements.{All-set}
use Rattle.std.proofs.Math.ListN.{length-set}
use Rattle.x86_forms.specs.declared.instr.Rm.{Rm}
use Rattle.x86_forms.specs.Spelling.{Spells, low_bytes, rm_bytes}
use Rattle.x86_decode.specs.declared.rows.Row.{Row}
use Rattle.x86_decode.specs.declared.rows.Row.TheVariants.{MovMem, MovImm, AluImm}
use Rattle.x86_decode.specs.declared.states.Head.{Head}
use Rattle.x86_decode.specs.declared.states.State.TheVariants.{Imm}
use Rattle.x86_decode.specs.Rows.{build, imm_len}
use Rattle.x86_decode.specs.Steps.{done, imm_end, imm_value, imm_fine, zeros_8, step_of}
use Rattle.x86_decode.proofs.Builds.{imm_fits}
use Rattle.x86_decode.proofs.Cases.{each-at}
use Rattle.x86_decode.proofs.ImmBack.{imm_back}
use Rattle.x86_decode.proofs.Keys.{row_ok}
use Rattle.x86_decode.proofs.Length.{imm_len-le}
use Rattle.x86_decode.proofs.Reached.{AreBytes, Awaits, ImmOk, Leads, leads-dead, both, Spelled}
use Rattle.x86_decode.proofs.Written.{HeadOk, ModOk, head_bytes, whole_spells}

fits_0 : (row : Row) → imm_fits row (pos 0) ≡ true
fits_0 (MovMem w) = grind (arith, common_steps)
fits_0 (MovImm w) = grind (arith, common_steps)
fits_0 (AluImm w true) = refl
fits_0 (AluImm w false) = refl
fits_0 row = refl

fine_0 : (row : Row) → imm_len row ≡ 0 → imm_fine row (pos 0) ≡ true
unfolding imm_len imm_fine
fine_0 (MovImm w) h = absurd (grind (arith, common_steps))
fine_0 (AluImm w true) h = absurd (omega arith)
fine_0 row h = refl

nothing_more : (read : List ℕ) (n : ℕ) → n ≡ 0 → read ++ low_bytes n (pos 0) ≡ read
unfolding low_bytes
nothing_more read n e = rw e (append-nil read)

zeros_small : AreBytes zeros_8
zeros_small = λ k d h. zeros_at k d h
  where
    zeros_at : (k d : ℕ) → k < 8 → get_or zeros_8 k d < 256
    zeros_at k d h = each-at 8 k (λ k. get_or zeros_8 k d < 256) ((((((((tt, omega arith), omega arith), omega arith), omega arith), omega arith), omega arith), omega arith), omega arith) h

pub leads-done : (h : Head) (row : Row) (reg : ℕ) (rm : Rm) (read : List ℕ) → row_ok row ≡ true → Awaits row reg rm read → Leads read (done h row reg rm)
unfolding done
leads-done h row reg rm read o a =
    both read (nat_eq (imm_len row) 0) _ _
    (λ e. let z : imm_len row ≡ 0 = eqb-true _ _ e in
    record { leads = subst (λ xs. Spells xs (build row reg rm (pos 0))) (nothing_more read (imm_len row) z) (a (pos 0) (fits_0 row) (fine_0 row z)) })
    (λ e. record { leads = record { ok = o; front = read; bytes = sym (append-nil read); eight = refl; small = zeros_small; part = grind (arith, common_steps); awaits = a } })

pub leads-operands : (h : Head) (row : Row) (reg : ℕ) (rm : Rm) (read : List ℕ) → HeadOk h row → ModOk h row → Spelled h row reg rm read → Leads read (done h row reg rm)
leads-operands h row reg rm read k m s =
    leads-done h row reg rm read k.keyed.ok
    (λ z f q. subst (λ xs. Spells xs (build row reg rm z)) (sym (ap (λ xs. xs ++ low_bytes (imm_len row) z) s.bytes ∙ append_assoc (head_bytes h) (rm_bytes reg rm) (low_bytes (imm_len row) z))) (whole_spells h row reg rm z k m s.fits f q))

-- one byte more
pub more_bytes : (front cells read : List ℕ) (have b : ℕ) → read ≡ front ++ take have cells → have < length cells → read ++ (b ∷ []) ≡ front ++ take (have + 1) (slice_set cells have b)
more_bytes front cells read have b e h =
    ap (λ xs. xs ++ (b ∷ [])) e ∙ append_assoc front (take have cells) (b ∷ []) ∙ ap (λ xs. front ++ xs) (sym (take_more_set cells have b h))

leads-imm_end : (row : Row) (reg : ℕ) (rm : Rm) (cells read : List ℕ) (front : List ℕ) → row_ok row ≡ true → length cells ≡ 8 → AreBytes cells → 0 < imm_len row → Awaits row reg rm front
    → read ≡ front ++ take (imm_len row) cells → Leads read (imm_end row reg rm cells)
unfolding imm_end
leads-imm_end row reg rm cells read front o l s p a e =
    let b = imm_back row cells o l s p in
    both read (imm_fine row (imm_value row cells)) _ _
    (λ f. record { leads = subst (λ xs. Spells xs (build row reg rm (imm_value row cells))) (ap (λ xs. front ++ xs) b.bytes ∙ sym e) (a (imm_value row cells) b.fits_field f) })
    (λ f. leads-dead read)

pub leads-imm : (h : Head) (row : Row) (reg : ℕ) (rm : Rm) (have b : ℕ) (cells read : List ℕ) → ImmOk row reg rm have cells read → b < 256 → Leads (read ++ (b ∷ [])) (step_of (Imm h row reg rm have cells) b)
unfolding step_of
leads-imm h row reg rm have b cells read k s =
    let l : length (slice_set cells have b) ≡ 8 = length-set cells have b ∙ k.eight in
    let t : AreBytes (slice_set cells have b) = All-set (λ b. b < 256) cells have b s k.small in
    let room : have < length cells = room_for (imm_len row) k.part k.eight (imm_len-le row) in
    let m : read ++ (b ∷ []) ≡ k.front ++ take (have + 1) (slice_set cells have b) = more_bytes k.front cells read have b k.bytes room in
    both (read ++ (b ∷ [])) (nat_eq (have + 1) (imm_len row)) _ _
    (λ e. let n : have + 1 ≡ imm_len row = eqb-true _ _ e in
    leads-imm_end row reg rm (slice_set cells have b) (read ++ (b ∷ [])) k.front k.ok l t (omega (arith, k.part)) k.awaits (subst (λ n. read ++ (b ∷ []) ≡ k.front ++ take n (slice_set cells have b)) n m))
    (λ e. record { leads = record { ok = k.ok; front = k.front; bytes = m; eight = l; small = t; part = next_part e k.part; awaits = k.awaits } })
  where
    room_for : (n : ℕ) → have < n → length cells ≡ 8 → n ≤ 8 → have < length cells
    room_for n p l q = omega arith

    next_part : nat_eq (have + 1) (imm_len row) ≡ false → have < imm_len row → have + 1 < imm_len row
    next_part e p = grind (arith, common_steps)
