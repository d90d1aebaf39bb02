-- A type as a list of pairs of numbers, by which two types are told apart.
use Rattle.std.specs.Prelude.{◌≡◌, ℕ, zero, suc, List, [], ◌∷◌, refl}
use Rattle.std.proofs.Common.{ap}
use Rattle.std.specs.Coded.{Coded, code_by, coded×, coded_ℕ, coded_list}
use Rattle.mx_base.specs.declared.numbers.IntKind.{IntKind}
use Rattle.mx_base.specs.declared.numbers.IntKind.TheVariants.{I8, U8, I16, U16, I32, U32, I64, U64}
use Rattle.c_types.specs.Types.{CType, Void, Int, Pointer, Array, Struct}

abbrev pub int_number : IntKind → ℕ
int_number I8 = 0
int_number U8 = 1
int_number I16 = 2
int_number U16 = 3
int_number I32 = 4
int_number U32 = 5
int_number I64 = 6
int_number U64 = 7

abbrev pub int_of_number : ℕ → IntKind
int_of_number zero = I8
int_of_number (suc zero) = U8
int_of_number (suc (suc zero)) = I16
int_of_number (suc (suc (suc zero))) = U16
int_of_number (suc (suc (suc (suc zero)))) = I32
int_of_number (suc (suc (suc (suc (suc zero))))) = U32
int_of_number (suc (suc (suc (suc (suc (suc zero)))))) = I64
int_of_number (suc (suc (suc (suc (suc (suc (suc n))))))) = U64

abbrev pub numbers_of : CType → List (ℕ × ℕ)
numbers_of Void = (0, 0) ∷ []
numbers_of (Int kind) = (1, int_number kind) ∷ []
numbers_of (Pointer t) = (2, 0) ∷ numbers_of t
numbers_of (Array t count) = (3, count) ∷ numbers_of t
numbers_of (Struct number) = (4, number) ∷ []

abbrev pub type_with : ℕ → ℕ → CType → CType
type_with zero n t = Void
type_with (suc zero) n t = Int (int_of_number n)
type_with (suc (suc zero)) n t = Pointer t
type_with (suc (suc (suc zero))) n t = Array t n
type_with (suc (suc (suc (suc m)))) n t = Struct n

abbrev pub type_of_numbers : List (ℕ × ℕ) → CType
type_of_numbers [] = Void
type_of_numbers (p ∷ more) = type_with p.0 p.1 (type_of_numbers more)

pub int_back : (kind : IntKind) → int_of_number (int_number kind) ≡ kind
int_back I8 = refl
int_back U8 = refl
int_back I16 = refl
int_back U16 = refl
int_back I32 = refl
int_back U32 = refl
int_back I64 = refl
int_back U64 = refl

pub type_back : (t : CType) → type_of_numbers (numbers_of t) ≡ t
type_back Void = refl
type_back (Int kind) = ap Int (int_back kind)
type_back (Pointer t) = ap Pointer (type_back t)
type_back (Array t count) = ap (λ u. Array u count) (type_back t)
type_back (Struct number) = refl

abbrev pub type_code : Coded CType
type_code = code_by (List (ℕ × ℕ)) (coded_list (coded× coded_ℕ coded_ℕ)) numbers_of type_of_numbers type_back
