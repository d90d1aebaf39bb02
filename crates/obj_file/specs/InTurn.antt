-- Lists in which each element keeps a rule that knows what comes before it.
use Rattle.std.specs.Prelude.{ℕ, List, [], ◌∷◌, ◌++◌, length}
use Rattle.std.specs.List.{flat_map}
use Rattle.std.specs.Int.{Width, w32, to_le_bytes}

-- each element keeps the rule at the state that the elements before it leave, the first at s
abbrev pub InTurn : {S A : Type 0} → (S → A → Type 0) → (S → A → S) → S → List A → Type 0
InTurn Rule next s [] = Unit {0}
InTurn Rule next s (x ∷ xs) = Rule s x × InTurn Rule next (next s x) xs

-- a number in the bytes of its width, the low one first
unfoldable pub le : Width → ℕ → List ℕ
le w n = to_le_bytes w n

-- a length of a width, and the bytes
unfoldable pub sized : Width → List ℕ → List ℕ
sized w bytes = le w (length bytes) ++ bytes

-- four bytes of count, and each element's text
unfoldable pub counted : {A : Type 0} → (A → List ℕ) → List A → List ℕ
counted text xs = le w32 (length xs) ++ flat_map text xs
