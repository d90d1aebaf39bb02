-- The bytes of pieces and steps from an address on, and what stands among them: labels, the places of checks, and fix-ups.
use Rattle.std.specs.Prelude.{◌≡◌, ℕ, ◌+◌, ◌==◌, if◌then◌else◌, IsTrue, Option, None, Some, List, [], ◌∷◌, ◌++◌, length}
use Rattle.mx_base.specs.StopOfC.{AccessOfC}
use Rattle.x86_forms.specs.declared.instr.Instr.TheVariants.{Bndcl}
use Rattle.x86_forms.specs.Examples.{in_reg}
use Rattle.x86_forms.specs.Spelling.{spelling}
use Rattle.x86_forms.specs.Validity.{valid_of}
use Rattle.fat_ir.specs.declared.step.FatStep.{FatStep}
use Rattle.fat_ir.specs.declared.step.FatStep.TheVariants as s
use Rattle.step_code.specs.declared.pieces.Piece.{Piece}
use Rattle.step_code.specs.declared.pieces.Piece.TheVariants.{Plain}
use Rattle.step_code.specs.Pieces.{instr_of}
use Rattle.step_code.specs.Steps.{Plan, get, get_bounds, lower}

-- ---- pieces

-- how many bytes a piece has, wherever it stands
abbrev pub size_of_piece : Piece → ℕ
size_of_piece p = length (spelling (instr_of (λ k. 0) (λ k. 0) 0 p))

abbrev pub size_of_pieces : List Piece → ℕ
size_of_pieces [] = 0
size_of_pieces (p ∷ ps) = size_of_piece p + size_of_pieces ps

abbrev pub bytes_of_pieces : (label_at entry_at : ℕ → ℕ) → (at : ℕ) → List Piece → List ℕ
bytes_of_pieces label_at entry_at at [] = []
bytes_of_pieces label_at entry_at at (p ∷ ps) = spelling (instr_of label_at entry_at (at + size_of_piece p) p) ++ bytes_of_pieces label_at entry_at (at + size_of_piece p) ps

-- each of them is an instruction
abbrev pub AllValid : (label_at entry_at : ℕ → ℕ) → (at : ℕ) → List Piece → Type 0
AllValid label_at entry_at at [] = Unit {0}
AllValid label_at entry_at at (p ∷ ps) = IsTrue (valid_of (instr_of label_at entry_at (at + size_of_piece p) p)) × AllValid label_at entry_at (at + size_of_piece p) ps

-- ---- steps

abbrev pub size_of_steps : Plan → List FatStep → ℕ
size_of_steps p [] = 0
size_of_steps p (step ∷ steps) = size_of_pieces (lower p step) + size_of_steps p steps

abbrev pub bytes_of_steps : Plan → (label_at entry_at : ℕ → ℕ) → (at : ℕ) → List FatStep → List ℕ
bytes_of_steps p label_at entry_at at [] = []
bytes_of_steps p label_at entry_at at (step ∷ steps) = bytes_of_pieces label_at entry_at at (lower p step) ++ bytes_of_steps p label_at entry_at (at + size_of_pieces (lower p step)) steps

abbrev pub AllStepsValid : Plan → (label_at entry_at : ℕ → ℕ) → (at : ℕ) → List FatStep → Type 0
AllStepsValid p label_at entry_at at [] = Unit {0}
AllStepsValid p label_at entry_at at (step ∷ steps) = AllValid label_at entry_at at (lower p step) × AllStepsValid p label_at entry_at (at + size_of_pieces (lower p step)) steps

-- ---- labels

-- where a label stands among steps that begin at an address: the first of its number
abbrev pub label_in : Plan → (at : ℕ) → List FatStep → ℕ → Option ℕ
label_in p at [] k = None
label_in p at (s.Label n ∷ steps) k = if k == n then Some at else label_in p at steps k
label_in p at (step ∷ steps) k = label_in p (at + size_of_pieces (lower p step)) steps k

-- ---- places of checks

-- the two checks of a judgement, the lower and the upper, have its access: they stand at these addresses
abbrev pub lower_check : Plan → (at value bounds : ℕ) → ℕ
lower_check p at value bounds = at + size_of_piece (get 0 (p.home value)) + size_of_piece (get_bounds 0 (p.home bounds))

abbrev pub upper_check : Plan → (at value bounds : ℕ) → ℕ
upper_check p at value bounds = lower_check p at value bounds + size_of_piece (Plain (Bndcl 0 (in_reg 0)))

abbrev pub places_of_step : Plan → (at : ℕ) → FatStep → List (ℕ × AccessOfC)
places_of_step p at (s.Judge value size bounds write place) =
    let access : AccessOfC = record { place = place; write = write; size = size } in
    (lower_check p at value bounds, access) ∷ (upper_check p at value bounds, access) ∷ []
places_of_step p at step = []

abbrev pub places_of_steps : Plan → (at : ℕ) → List FatStep → List (ℕ × AccessOfC)
places_of_steps p at [] = []
places_of_steps p at (step ∷ steps) = places_of_step p at step ++ places_of_steps p (at + size_of_pieces (lower p step)) steps

-- ---- what is asked of the labels' and checks' addresses: each label is where it stands, and the checks of each judgement have its access

abbrev pub IsHere : Plan → (label_at : ℕ → ℕ) → (ℕ → Option AccessOfC) → (at : ℕ) → FatStep → Type 0
IsHere p label_at access_of at (s.Label n) = label_at n ≡ at
IsHere p label_at access_of at (s.Judge value size bounds write place) =
    (access_of (lower_check p at value bounds) ≡ Some record { place = place; write = write; size = size })
    × (access_of (upper_check p at value bounds) ≡ Some record { place = place; write = write; size = size })
IsHere p label_at access_of at step = Unit {0}

abbrev pub AllHere : Plan → (label_at : ℕ → ℕ) → (ℕ → Option AccessOfC) → (at : ℕ) → List FatStep → Type 0
AllHere p label_at access_of at [] = Unit {0}
AllHere p label_at access_of at (step ∷ steps) = IsHere p label_at access_of at step × AllHere p label_at access_of (at + size_of_pieces (lower p step)) steps
