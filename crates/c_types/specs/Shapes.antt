-- When two shapes are the same, and what a shape gives to a hash.
use Rattle.std.specs.Prelude.{ℕ, List, [], ◌∷◌, Bool, nat_eq}
use Rattle.std.specs.Ordering.{on}
use Rattle.std.specs.Cmp.Lexicographic.{pointwise}
use Rattle.std.specs.Hash as fed
use Rattle.mx_base.specs.declared.numbers.IntKind.{IntKind}
use Rattle.mx_base.specs.declared.numbers.IntKind.TheVariants.{I8, U8, I16, U16, I32, U32, I64, U64}
use Rattle.c_types.specs.declared.shape.Shape.{Shape}
use Rattle.c_types.specs.declared.shape.Shape.TheVariants as s

-- the integers of C in order
abbrev pub place_of : IntKind → ℕ
place_of I8 = 0
place_of U8 = 1
place_of I16 = 2
place_of U16 = 3
place_of I32 = 4
place_of U32 = 5
place_of I64 = 6
place_of U64 = 7

-- the variant of a shape and what it holds
abbrev pub numbers_of : Shape → List ℕ
numbers_of s.Void = 0 ∷ 0 ∷ 0 ∷ []
numbers_of (s.Int kind) = 1 ∷ place_of kind ∷ 0 ∷ []
numbers_of (s.Pointer target) = 2 ∷ target.0 ∷ 0 ∷ []
numbers_of (s.Array element count) = 3 ∷ element.0 ∷ count ∷ []
numbers_of (s.Struct number) = 4 ∷ number ∷ 0 ∷ []

abbrev pub is_same : Shape → Shape → Bool
is_same = on numbers_of (pointwise nat_eq)

abbrev pub written : Shape → List (List ℕ)
written shape = fed.slice fed.u64 (numbers_of shape)
