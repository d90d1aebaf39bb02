-- Pieces whose spellings are laid down one after another stand in memory.
use Rattle.std.proofs.Common.{◌≡◌, ℕ, suc, ◌+◌, ◌≤◌, Option, List, [], ◌∷◌, ◌++◌, length, refl, arith, ap, ◌∙◌, sym, subst}
use Rattle.mx_base.specs.Memory.{Bytes, list_at}
use Rattle.mx_base.specs.StopOfC.{AccessOfC}
use Rattle.x86_forms.specs.declared.instr.Instr.TheVariants.{Bndcl}
use Rattle.x86_forms.specs.Examples.{in_reg}
use Rattle.x86_forms.specs.Spelling.{spelling}
use Rattle.fat_ir.specs.declared.step.FatStep.{FatStep}
use Rattle.fat_ir.specs.declared.step.FatStep.TheVariants as s
use Rattle.step_code.specs.declared.pieces.Piece.{Piece}
use Rattle.step_code.specs.declared.pieces.Piece.TheVariants.{Plain}
use Rattle.step_code.specs.Pieces.{instr_of}
use Rattle.step_code.specs.Steps.{Plan, get, get_bounds, lower}
use Rattle.step_code.specs.Bytes.{size_of_piece, size_of_pieces, bytes_of_pieces, AllValid, size_of_steps, bytes_of_steps, AllStepsValid, IsHere, AllHere}
use Rattle.step_code.proofs.Sizes.{piece_size, length_bytes}
use Rattle.code_laws.specs.Laid.{StandAll, LaidStep, Laid}

abbrev head_of : List ℕ → ℕ
head_of [] = 0
head_of (x ∷ xs) = x

abbrev rest_of : List ℕ → List ℕ
rest_of [] = []
rest_of (x ∷ xs) = xs

pub list_parts : (m : Bytes) (a : ℕ) (xs ys : List ℕ) → list_at (length (xs ++ ys)) m a ≡ xs ++ ys → (list_at (length xs) m a ≡ xs) × (list_at (length ys) m (a + length xs) ≡ ys)
unfolding list_at
list_parts m a [] ys e = let f : a ≡ a + 0 = omega arith in (refl, subst (λ (b : ℕ). list_at (length ys) m b ≡ ys) f e)
list_parts m a (x ∷ xs) ys e =
    let rest = list_parts m (a + 1) xs ys (ap rest_of e) in
    let f : a + 1 + length xs ≡ a + suc (length xs) = omega arith in
    ((λ i. head_of (e i) ∷ rest.0 i), subst (λ (b : ℕ). list_at (length ys) m b ≡ ys) f rest.1)

module _ (code : Bytes) (label_at entry_at : ℕ → ℕ) where
  pub pieces_stand : (at : ℕ) (ps : List Piece) → 0x0100_0000 ≤ at → at + size_of_pieces ps ≤ 0x1100_0000 → AllValid label_at entry_at at ps
      → list_at (length (bytes_of_pieces label_at entry_at at ps)) code at ≡ bytes_of_pieces label_at entry_at at ps → StandAll code label_at entry_at at ps (at + size_of_pieces ps)
  pieces_stand at [] low high valid bytes = omega arith
  pieces_stand at (p ∷ ps) low high valid bytes =
      let size = piece_size label_at entry_at (at + size_of_piece p) p in
      let parts = list_parts code at (spelling (instr_of label_at entry_at (at + size_of_piece p) p)) (bytes_of_pieces label_at entry_at (at + size_of_piece p) ps) bytes in
      let e : at + (size_of_piece p + size_of_pieces ps) ≡ at + size_of_piece p + size_of_pieces ps = omega arith in
      let there : at + length (spelling (instr_of label_at entry_at (at + size_of_piece p) p)) ≡ at + size_of_piece p = ap (λ (n : ℕ). at + n) size in (
        at + size_of_piece p,
        record { valid = valid.0; low = low; high = omega arith; bytes = parts.0; is_next = there },
        subst (λ (end : ℕ). StandAll code label_at entry_at (at + size_of_piece p) ps end) (sym e) (pieces_stand (at + size_of_piece p) ps (omega arith) (omega arith) valid.1
            (subst (λ (a : ℕ). list_at (length (bytes_of_pieces label_at entry_at (at + size_of_piece p) ps)) code a ≡ bytes_of_pieces label_at entry_at (at + size_of_piece p) ps) there parts.1)),
      )

  -- ---- steps

  -- where the pieces of a list stand
  abbrev pub Exactly : (at : ℕ) (ps : List Piece) (end : ℕ) → StandAll code label_at entry_at at ps end → Type 0
  Exactly at [] end h = Unit {0}
  Exactly at (p ∷ ps) end h = (h.0 ≡ at + size_of_piece p) × Exactly h.0 ps end h.2

  exactly : (at : ℕ) (ps : List Piece) (end : ℕ) (h : StandAll code label_at entry_at at ps end) → Exactly at ps end h
  exactly at [] end h = tt
  exactly at (p ∷ ps) end h = (sym h.1.is_next ∙ ap (λ (n : ℕ). at + n) (piece_size label_at entry_at h.0 p), exactly h.0 ps end h.2)

  step_stands : (p : Plan) (access_of : ℕ → Option AccessOfC) (at : ℕ) (step : FatStep) → IsHere p label_at access_of at step → StandAll code label_at entry_at at (lower p step) (at + size_of_pieces (lower p step)) → LaidStep code label_at entry_at p access_of at step (at + size_of_pieces (lower p step))
  step_stands p access_of at (s.Label n) here h = (h, here)
  step_stands p access_of at (s.Judge value size bounds write place) here h =
      let x = exactly at (lower p (s.Judge value size bounds write place)) (at + size_of_pieces (lower p (s.Judge value size bounds write place))) h in
      let first : h.2.0 ≡ at + size_of_piece (get 0 (p.home value)) + size_of_piece (get_bounds 0 (p.home bounds)) = x.1.0 ∙ ap (λ (a : ℕ). a + size_of_piece (get_bounds 0 (p.home bounds))) x.0 in
      let second : h.2.2.0 ≡ at + size_of_piece (get 0 (p.home value)) + size_of_piece (get_bounds 0 (p.home bounds)) + size_of_piece (Plain (Bndcl 0 (in_reg 0))) = x.1.1.0 ∙ ap (λ (a : ℕ). a + size_of_piece (Plain (Bndcl 0 (in_reg 0)))) first in
      (h, ap access_of first ∙ here.0, ap access_of second ∙ here.1)
  step_stands p access_of at step here h = h

  pub steps_stand : (p : Plan) (access_of : ℕ → Option AccessOfC) (at : ℕ) (steps : List FatStep) → 0x0100_0000 ≤ at → at + size_of_steps p steps ≤ 0x1100_0000 → AllStepsValid p label_at entry_at at steps → AllHere p label_at access_of at steps
      → list_at (length (bytes_of_steps p label_at entry_at at steps)) code at ≡ bytes_of_steps p label_at entry_at at steps → Laid code label_at entry_at p access_of at steps (at + size_of_steps p steps)
  steps_stand p access_of at [] low high valid here bytes = omega arith
  steps_stand p access_of at (step ∷ steps) low high valid here bytes =
      let size = size_of_pieces (lower p step) in
      let one = bytes_of_pieces label_at entry_at at (lower p step) in
      let more = bytes_of_steps p label_at entry_at (at + size) steps in
      let parts = list_parts code at one more bytes in
      let long : at + length one ≡ at + size = ap (λ (n : ℕ). at + n) (length_bytes label_at entry_at at (lower p step)) in
      let e : at + (size + size_of_steps p steps) ≡ at + size + size_of_steps p steps = omega arith in (
        at + size,
        step_stands p access_of at step here.0 (pieces_stand at (lower p step) low (omega arith) valid.0 parts.0),
        subst (λ (end : ℕ). Laid code label_at entry_at p access_of (at + size) steps end) (sym e) (steps_stand p access_of (at + size) steps (omega arith) (omega arith) valid.1 here.1 (subst (λ (a : ℕ). list_at (length more) code a ≡ more) long parts.1)),
      )
