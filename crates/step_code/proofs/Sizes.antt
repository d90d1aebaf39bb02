-- A piece has as many bytes wherever it stands.
use Rattle.std.specs.Prelude.{ℤ}
use Rattle.std.proofs.Common.{◌≡◌, ℕ, suc, ◌+◌, true, List, [], ◌∷◌, length, refl, ap, ◌∙◌, sym, length-append}
use Rattle.std.specs.Int.{to_le_bytes, cast_unsigned, w64}
use Rattle.std.proofs.lemmas.List.{length-take}
use Rattle.x86_forms.specs.declared.instr.Instr.TheVariants.{JmpRel, Jcc, CallRel}
use Rattle.x86_forms.specs.Spelling.{spelling, low_bytes, prefix_bytes, rex_bytes, escape_bytes, operand_bytes, forces_rex, rex_bits, high_bits}
use Rattle.fat_ir.specs.declared.step.FatStep.{FatStep}
use Rattle.step_code.specs.declared.pieces.Piece.{Piece}
use Rattle.step_code.specs.declared.pieces.Piece.TheVariants.{Plain, LoadSlot, KeepSlot, LoadBounds, KeepBounds, LoadCell, Read, Write, LoadPair, KeepPair, Go, GoIf, Hop, Serve, CallTo}
use Rattle.step_code.specs.Pieces.{instr_of}
use Rattle.step_code.specs.Steps.{Plan, lower}
use Rattle.step_code.specs.Bytes.{size_of_piece, size_of_pieces, bytes_of_pieces, size_of_steps, bytes_of_steps}

pub four_bytes : (z : ℤ) → length (low_bytes 4 z) ≡ 4
unfolding low_bytes
four_bytes z = length-take 4 (to_le_bytes w64 (cast_unsigned w64 z)) ∙ refl

-- a jump has as many bytes wherever it goes
jump_size : (z w : ℤ) → length (spelling (JmpRel true z)) ≡ length (spelling (JmpRel true w))
unfolding prefix_bytes rex_bytes escape_bytes operand_bytes rex_bits high_bits forces_rex
jump_size z w = ap (λ (n : ℕ). suc (suc n)) (four_bytes z ∙ sym (four_bytes w))

jump_if_size : (code : ℕ) (z w : ℤ) → length (spelling (Jcc true code z)) ≡ length (spelling (Jcc true code w))
unfolding prefix_bytes rex_bytes escape_bytes operand_bytes rex_bits high_bits forces_rex
jump_if_size code z w = ap (λ (n : ℕ). suc (suc (suc n))) (four_bytes z ∙ sym (four_bytes w))

call_size : (z w : ℤ) → length (spelling (CallRel true z)) ≡ length (spelling (CallRel true w))
unfolding prefix_bytes rex_bytes escape_bytes operand_bytes rex_bits high_bits forces_rex
call_size z w = ap (λ (n : ℕ). suc (suc n)) (four_bytes z ∙ sym (four_bytes w))

pub piece_size : (label_at entry_at : ℕ → ℕ) (next : ℕ) (p : Piece) → length (spelling (instr_of label_at entry_at next p)) ≡ size_of_piece p
piece_size label_at entry_at next (Plain i) = refl
piece_size label_at entry_at next (LoadSlot r k) = refl
piece_size label_at entry_at next (KeepSlot k r) = refl
piece_size label_at entry_at next (LoadBounds b k) = refl
piece_size label_at entry_at next (KeepBounds k b) = refl
piece_size label_at entry_at next (LoadCell r) = refl
piece_size label_at entry_at next (Read kind r p) = refl
piece_size label_at entry_at next (Write kind p r) = refl
piece_size label_at entry_at next (LoadPair b p v) = refl
piece_size label_at entry_at next (KeepPair p v b) = refl
piece_size label_at entry_at next (Go label) = jump_size _ _
piece_size label_at entry_at next (GoIf code label) = jump_if_size code _ _
piece_size label_at entry_at next (Hop code skip) = refl
piece_size label_at entry_at next Serve = refl
piece_size label_at entry_at next (CallTo symbol) = call_size _ _

pub length_bytes : (label_at entry_at : ℕ → ℕ) (at : ℕ) (ps : List Piece) → length (bytes_of_pieces label_at entry_at at ps) ≡ size_of_pieces ps
length_bytes label_at entry_at at [] = refl
length_bytes label_at entry_at at (p ∷ ps) =
    length-append (spelling (instr_of label_at entry_at (at + size_of_piece p) p)) (bytes_of_pieces label_at entry_at (at + size_of_piece p) ps)
    ∙ (λ i. piece_size label_at entry_at (at + size_of_piece p) p i + length_bytes label_at entry_at (at + size_of_piece p) ps i)

pub length_steps : (p : Plan) (label_at entry_at : ℕ → ℕ) (at : ℕ) (steps : List FatStep) → length (bytes_of_steps p label_at entry_at at steps) ≡ size_of_steps p steps
length_steps p label_at entry_at at [] = refl
length_steps p label_at entry_at at (step ∷ steps) =
    length-append (bytes_of_pieces label_at entry_at at (lower p step)) (bytes_of_steps p label_at entry_at (at + size_of_pieces (lower p step)) steps)
    ∙ (λ i. length_bytes label_at entry_at at (lower p step) i + length_steps p label_at entry_at (at + size_of_pieces (lower p step)) steps i)
