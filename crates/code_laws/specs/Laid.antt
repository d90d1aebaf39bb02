-- When code stands in memory: instructions, pieces and steps, one behind the other.
use Rattle.std.specs.Prelude.{◌≡◌, ℕ, ◌+◌, ◌≤◌, IsTrue, Option, Some, List, [], ◌∷◌, length}
use Rattle.mx_base.specs.Memory.{Bytes, list_at}
use Rattle.mx_base.specs.StopOfC.{AccessOfC}
use Rattle.x86_forms.specs.declared.instr.Instr.{Instr}
use Rattle.x86_forms.specs.Spelling.{spelling}
use Rattle.x86_forms.specs.Validity.{valid_of}
use Rattle.fat_ir.specs.declared.step.FatStep.{FatStep}
use Rattle.fat_ir.specs.declared.step.FatStep.TheVariants as s
use Rattle.step_code.specs.declared.pieces.Piece.{Piece}
use Rattle.step_code.specs.Pieces.{instr_of}
use Rattle.step_code.specs.Steps.{Plan, lower}

-- an instruction stands at an address, up to the next one
pub record Stands (code : Bytes) (at : ℕ) (i : Instr) (next : ℕ) : Type 0 where
  pub valid : IsTrue (valid_of i)
  pub low : 0x0100_0000 ≤ at
  pub high : next ≤ 0x1100_0000
  pub bytes : list_at (length (spelling i)) code at ≡ spelling i
  pub is_next : at + length (spelling i) ≡ next

-- they stand one after another, from an address on and up to another
abbrev pub StandAll : Bytes → (label_at entry_at : ℕ → ℕ) → ℕ → List Piece → ℕ → Type 0
StandAll code label_at entry_at at [] end = at ≡ end
StandAll code label_at entry_at at (p ∷ ps) end = (next : ℕ) × Stands code at (instr_of label_at entry_at next p) next × StandAll code label_at entry_at next ps end

-- the addresses of the two checks of a judgement have its access
abbrev pub HasAccess : (ℕ → Option AccessOfC) → AccessOfC → ℕ → Type 0
HasAccess access_of access at = access_of at ≡ Some access

abbrev pub LaidStep : Bytes → (label_at entry_at : ℕ → ℕ) → Plan → (ℕ → Option AccessOfC) → ℕ → FatStep → ℕ → Type 0
LaidStep code label_at entry_at p access_of at (s.Judge value size bounds write place) end = (h : StandAll code label_at entry_at at (lower p (s.Judge value size bounds write place)) end) × HasAccess access_of record { place = place; write = write; size = size } h.2.0 × HasAccess access_of record { place = place; write = write; size = size } h.2.2.0
LaidStep code label_at entry_at p access_of at (s.Label n) end = (at ≡ end) × (label_at n ≡ at)
LaidStep code label_at entry_at p access_of at step end = StandAll code label_at entry_at at (lower p step) end

abbrev pub Laid : Bytes → (label_at entry_at : ℕ → ℕ) → Plan → (ℕ → Option AccessOfC) → ℕ → List FatStep → ℕ → Type 0
Laid code label_at entry_at p access_of at [] end = at ≡ end
Laid code label_at entry_at p access_of at (step ∷ steps) end = (next : ℕ) × LaidStep code label_at entry_at p access_of at step next × Laid code label_at entry_at p access_of next steps end
