-- What a function takes and gives, as far as the border between C and legacy code knows it.
use Rattle.std.specs.Prelude.{ℕ, ◌≤◌, ◌+◌, ◌==◌, Bool, true, false, if◌then◌else◌, Option, None, Some, List, [], ◌∷◌, length}
use Rattle.mx_base.specs.declared.numbers.IntKind.{IntKind}
use Rattle.mx_base.specs.declared.numbers.IntKind.TheVariants.{I8, U8, I16, U16, I32, U32, I64, U64}

-- nothing, a pointer, or a number of a kind
pub data Result : Type 0 where
  Nothing : Result
  Pointer : Result
  Of : (kind : IntKind) → Result

-- a parameter is a number of a kind, or without a kind a pointer
pub record Signature : Type 0 where
  pub result : Result
  pub parameters : List (Option IntKind)

-- the registers in which the parameters stand: rdi, rsi, rdx, rcx, r8 and r9
abbrev pub parameter_register : ℕ → ℕ
parameter_register k = if k == 0 then 7 else if k == 1 then 6 else if k == 2 then 2 else if k == 3 then 1 else if k == 4 then 8 else 9

abbrev pub is_pointer : Option IntKind → Bool
is_pointer None = true
is_pointer (Some kind) = false

-- how many of the parameters are pointers
abbrev pub pointers : List (Option IntKind) → ℕ
pointers [] = 0
pointers (None ∷ ps) = 1 + pointers ps
pointers (Some kind ∷ ps) = pointers ps

-- and of the result
abbrev pub result_pointers : Result → ℕ
result_pointers Nothing = 0
result_pointers Pointer = 1
result_pointers (Of kind) = 0

-- ---- letters

-- the kind of a number by its letter; `p` is that of a pointer
abbrev pub kind_of_letter : ℕ → Option IntKind
kind_of_letter b =
    if b == 99 then Some I8 else if b == 67 then Some U8
    else if b == 104 then Some I16 else if b == 72 then Some U16
    else if b == 105 then Some I32 else if b == 73 then Some U32
    else if b == 108 then Some I64 else if b == 76 then Some U64
    else None

abbrev pub result_of_kind : Option IntKind → Result
result_of_kind None = Pointer
result_of_kind (Some kind) = Of kind

-- the same for a result, where `v` is that of none
abbrev pub result_of_letter : ℕ → Result
result_of_letter b = if b == 118 then Nothing else result_of_kind (kind_of_letter b)

abbrev pub kinds_of_letters : List ℕ → List (Option IntKind)
kinds_of_letters [] = []
kinds_of_letters (b ∷ bs) = kind_of_letter b ∷ kinds_of_letters bs

-- the signature of a result's letter and the parameters' letters
abbrev pub signature_of : (result : ℕ) → (parameters : List ℕ) → Signature
signature_of result parameters = record { result = result_of_letter result; parameters = kinds_of_letters parameters }

-- the parameters have registers: at most six, of which at most four are pointers
pub record HasRegisters (s : Signature) : Type 0 where
  pub few : length s.parameters ≤ 6
  pub pointed : pointers s.parameters ≤ 4
