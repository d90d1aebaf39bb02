-- What bytes begin with, and what begins with them.
use Rattle.std.specs.Prelude.{◌≡◌, ℕ, ◌≤◌, ◌<◌, List, [], ◌++◌, length, take}
use Rattle.x86_forms.specs.declared.instr.Instr.{Instr}
use Rattle.x86_forms.specs.Spelling.{Spells}

-- no spelling is a prefix of another, and no bytes spell two instructions
abbrev pub OneForm : Type 0
OneForm = (xs rest : List ℕ) (i j : Instr) → Spells xs i → Spells (xs ++ rest) j → (rest ≡ []) × (i ≡ j)

-- the first n bytes spell i
pub record BeginsWith (bytes : List ℕ) (i : Instr) (n : ℕ) : Type 0 where
  pub within : n ≤ length bytes
  pub spells : Spells (take n bytes) i

-- no instruction begins the bytes, and they begin none
pub record BeginsNothing (bytes : List ℕ) : Type 0 where
  pub no_front : (i : Instr) (n : ℕ) → BeginsWith bytes i n → ⊥
  pub no_whole : (i : Instr) (rest : List ℕ) → Spells (bytes ++ rest) i → ⊥

-- an instruction of n bytes that begins with these
pub record Completion (bytes : List ℕ) (n : ℕ) : Type 0 where
  pub instr : Instr
  pub rest : List ℕ
  pub spells : Spells (bytes ++ rest) instr
  pub size : length (bytes ++ rest) ≡ n

-- the bytes are a proper prefix of an instruction, and the shortest such one has `need` bytes
pub record IsCutShort (bytes : List ℕ) (need : ℕ) : Type 0 where
  pub proper : length bytes < need
  pub shortest : Completion bytes need
  pub least : (i : Instr) (rest : List ℕ) → Spells (bytes ++ rest) i → need ≤ length (bytes ++ rest)
