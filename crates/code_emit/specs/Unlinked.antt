-- The bytes of code before it is linked: the fields that the linker fills hold 0, and each symbol stands at 0.
use Rattle.std.specs.Prelude.{ℕ, ◌+◌, true, false, if◌then◌else◌, pos, Some, List, [], ◌∷◌, ◌++◌, map, slice_index_or, slice_set}
use Rattle.mx_base.specs.StopOfC.{AccessOfC}
use Rattle.x86_forms.specs.declared.instr.Instr.TheVariants.{CallRel}
use Rattle.x86_forms.specs.Spelling.{spelling}
use Rattle.obj_file.specs.declared.object.Spot3.{Spot3}
use Rattle.fat_ir.specs.declared.program.FatFun.{FatFun}
use Rattle.fat_ir.specs.declared.step.FatStep.{FatStep}
use Rattle.fat_ir.specs.declared.step.FatStep.TheVariants as s
use Rattle.fat_ir.specs.Functions.{Parameter}
use Rattle.step_code.specs.declared.pieces.Piece.{Piece}
use Rattle.step_code.specs.declared.pieces.Piece.TheVariants.{Plain, LoadSlot, KeepSlot, LoadBounds, KeepBounds, LoadCell, Read, Write, LoadPair, KeepPair, Go, GoIf, Hop, Serve, CallTo}
use Rattle.step_code.specs.Pieces.{instr_of}
use Rattle.step_code.specs.Steps.{Plan, lower, load_args, end_pieces}
use Rattle.step_code.specs.Entry.{inner_entry, inner_return}
use Rattle.step_code.specs.Functions.{plain}
use Rattle.step_code.specs.Homing.{homing}
use Rattle.step_code.specs.Bytes.{size_of_piece, size_of_pieces, size_of_steps, places_of_step, places_of_steps}
use Rattle.code_emit.specs.declared.fields.Field.{Field}

-- a call goes on behind itself until the linker fills its field
abbrev pub blank : Piece → Piece
blank (Plain i) = Plain i
blank (LoadSlot r k) = LoadSlot r k
blank (KeepSlot k r) = KeepSlot k r
blank (LoadBounds b k) = LoadBounds b k
blank (KeepBounds k b) = KeepBounds k b
blank (LoadCell r) = LoadCell r
blank (Read kind r p) = Read kind r p
blank (Write kind p r) = Write kind p r
blank (LoadPair b p v) = LoadPair b p v
blank (KeepPair p v b) = KeepPair p v b
blank (Go label) = Go label
blank (GoIf code label) = GoIf code label
blank (Hop code skip) = Hop code skip
blank Serve = Serve
blank (CallTo symbol) = Plain (CallRel true (pos 0))

-- where a label stands, by a list of the labels' offsets
abbrev pub label_at : List ℕ → ℕ → ℕ
label_at labels k = slice_index_or labels k 0

abbrev pub unlinked_piece : (labels : List ℕ) → (at : ℕ) → Piece → List ℕ
unlinked_piece labels at p = spelling (instr_of (label_at labels) (λ symbol. 0) (at + size_of_piece p) (blank p))

abbrev pub unlinked_pieces : (labels : List ℕ) → (at : ℕ) → List Piece → List ℕ
unlinked_pieces labels at [] = []
unlinked_pieces labels at (p ∷ ps) = unlinked_piece labels at p ++ unlinked_pieces labels (at + size_of_piece p) ps

abbrev pub unlinked_steps : Plan → (labels : List ℕ) → (at : ℕ) → List FatStep → List ℕ
unlinked_steps p labels at [] = []
unlinked_steps p labels at (step ∷ steps) = unlinked_pieces labels at (lower p step) ++ unlinked_steps p labels (at + size_of_pieces (lower p step)) steps

-- the offset of each label among steps noted in a list
abbrev pub noted : (at : ℕ) → FatStep → List ℕ → List ℕ
noted at (s.Label n) labels = slice_set labels n at
noted at step labels = labels

abbrev pub labels_noted : Plan → (at : ℕ) → List FatStep → List ℕ → List ℕ
labels_noted p at [] labels = labels
labels_noted p at (step ∷ steps) labels = labels_noted p (at + size_of_pieces (lower p step)) steps (noted at step labels)

-- ---- a whole function

module _ (p : Plan) (f : FatFun) (parameters : List Parameter) (units : ℕ) where
  -- where its parts stand, from the offset of its inner entry on
  abbrev pub homing_at : ℕ → ℕ
  homing_at at = at + size_of_pieces (plain (inner_entry f.frame units))

  abbrev pub steps_at : ℕ → ℕ
  steps_at at = homing_at at + size_of_pieces (homing p f.private parameters)

  abbrev pub end_at : ℕ → ℕ
  end_at at = steps_at at + size_of_steps p f.steps

  abbrev pub return_at : ℕ → ℕ
  return_at at = end_at at + size_of_pieces end_pieces

  -- its bytes
  abbrev pub unlinked_function : (labels : List ℕ) → (at : ℕ) → List ℕ
  unlinked_function labels at =
      unlinked_pieces labels at (plain (inner_entry f.frame units))
      ++ (unlinked_pieces labels (homing_at at) (homing p f.private parameters)
      ++ (unlinked_steps p labels (steps_at at) f.steps
      ++ (unlinked_pieces labels (end_at at) end_pieces
      ++ unlinked_pieces labels (return_at at) (plain (inner_return f.frame units)))))

  -- the offsets of its labels noted in a list, that of the end with them
  abbrev pub function_labels : (at : ℕ) → List ℕ → List ℕ
  function_labels at labels = slice_set (labels_noted p (steps_at at) f.steps labels) p.exit (return_at at)

-- ---- fields that the linker fills

-- the field of a call, behind its prefix and opcode; and that of the move of a symbol's address, behind three bytes
abbrev pub fields_of_step : Plan → (at : ℕ) → FatStep → List Field
fields_of_step p at (s.Call symbol args to bounds) =
    record { offset = at + size_of_pieces (load_args p args 0 0) + 2; symbol = symbol; relative = true } ∷ []
fields_of_step p at (s.Place to bounds (Some symbol) offset size) = record { offset = at + 3; symbol = symbol; relative = false } ∷ []
fields_of_step p at step = []

abbrev pub fields_of_steps : Plan → (at : ℕ) → List FatStep → List Field
fields_of_steps p at [] = []
fields_of_steps p at (step ∷ steps) = fields_of_step p at step ++ fields_of_steps p (at + size_of_pieces (lower p step)) steps

-- ---- places of checks

-- a check at an offset, as an object tells it
abbrev pub spot_of : ℕ × AccessOfC → Spot3
spot_of check = record {
  offset = check.0;
  line = check.1.place.line;
  col = check.1.place.col;
  kind = if check.1.write then 2 else 1;
  size = check.1.size;
}

abbrev pub spots_of_step : Plan → (at : ℕ) → FatStep → List Spot3
spots_of_step p at step = map spot_of (places_of_step p at step)

abbrev pub spots_of_steps : Plan → (at : ℕ) → List FatStep → List Spot3
spots_of_steps p at steps = map spot_of (places_of_steps p at steps)
