-- The parts of an opcode that its row fixes, and what stands before the operands.
use Rattle.std.specs.Prelude.{ℕ, nat_eq, if◌then◌else◌, List, [], ◌∷◌}

-- the bytes of REX, or none
abbrev pub rex_part : ℕ → List ℕ
rex_part rex = if nat_eq rex 0 then [] else rex ∷ []
