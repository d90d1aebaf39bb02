-- The sizes of pieces before they are linked.
use Rattle.std.proofs.Common.{◌≡◌, ℕ, List, length, refl}
use Rattle.x86_forms.specs.Spelling.{spelling}
use Rattle.step_code.specs.declared.pieces.Piece.{Piece}
use Rattle.step_code.specs.declared.pieces.Piece.TheVariants.{Plain, LoadSlot, KeepSlot, LoadBounds, KeepBounds, LoadCell, Read, Write, LoadPair, KeepPair, Go, GoIf, Hop, Serve, CallTo}
use Rattle.step_code.specs.Pieces.{instr_of}
use Rattle.step_code.specs.Bytes.{size_of_piece}
use Rattle.step_code.proofs.Sizes.{piece_size}
use Rattle.code_emit.specs.Unlinked.{blank, label_at}

pub blank_size : (labels : List ℕ) (next : ℕ) (p : Piece) → length (spelling (instr_of (label_at labels) (λ symbol. 0) next (blank p))) ≡ size_of_piece p
blank_size labels next (Plain i) = refl
blank_size labels next (LoadSlot r k) = refl
blank_size labels next (KeepSlot k r) = refl
blank_size labels next (LoadBounds b k) = refl
blank_size labels next (KeepBounds k b) = refl
blank_size labels next (LoadCell r) = refl
blank_size labels next (Read kind r p) = refl
blank_size labels next (Write kind p r) = refl
blank_size labels next (LoadPair b p v) = refl
blank_size labels next (KeepPair p v b) = refl
blank_size labels next (Go label) = piece_size (label_at labels) (λ symbol. 0) next (Go label)
blank_size labels next (GoIf code label) = piece_size (label_at labels) (λ symbol. 0) next (GoIf code label)
blank_size labels next (Hop code skip) = refl
blank_size labels next Serve = refl
blank_size labels next (CallTo symbol) = refl
