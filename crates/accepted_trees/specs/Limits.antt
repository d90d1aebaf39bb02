-- What keeps the trees of a source within the limits of code: types of small sizes, places at small offsets, symbols that stand low, and functions that
-- are called as they are declared.
use Rattle.std.specs.Prelude.{◌≡◌, ◌<◌, ◌≤◌, ◌^◌, ◌+◌, ℕ, Bool, true, false, Option, None, Some, List, [], ◌∷◌, length, slice_get, slice_index, slice_index_or}
use Rattle.std.specs.List.{AllByRecursion}
use Rattle.c_types.specs.Types.{CType, Void, Int, Pointer, Array, Struct, StructType, members_of}
use Rattle.c_check_rules.specs.Conversions.{is_scalar}
use Rattle.fat_ir.specs.Step.{Located}
use Rattle.bounds_plan.specs.laws.Laws.{most_bytes}
use Rattle.bounds_plan.specs.elaboration.Types.{Sort, ANumber, APointer, AWhole, NoValue, sort_of, size_in}
use Rattle.bounds_plan.specs.elaboration.Source.{Stand, SourceLayout, Meanings, Signature, Around}
use Rattle.bounds_plan.specs.elaboration.Places.{offset_of, offset_in, member_type}
use Rattle.bounds_plan.specs.elaboration.Functions.{Defined, no_frame}
use Rattle.step_code.specs.Asked.{IsLow}
use Rattle.asked_steps.specs.Trees.{FunctionWithin}

-- ---- types and places

-- it has from 1 to 16,777,216 bytes
abbrev pub HasSmallSize : List StructType → CType → Type 0
HasSmallSize structs type = (1 ≤ size_in structs type) × (size_in structs type ≤ most_bytes)

-- each array and struct of a type has, also one that it points to
abbrev pub TypeWithin : List StructType → CType → Type 0
TypeWithin structs Void = Unit {0}
TypeWithin structs (Int kind) = Unit {0}
TypeWithin structs (Pointer target) = TypeWithin structs target
TypeWithin structs (Array element count) = TypeWithin structs element × HasSmallSize structs (Array element count)
TypeWithin structs (Struct number) = HasSmallSize structs (Struct number)

abbrev pub TypesWithin : List StructType → List CType → Type 0
TypesWithin structs types = AllByRecursion (TypeWithin structs) types

-- the types that are noted of expressions and declarations
pub record MeaningsWithin (structs : List StructType) (m : Meanings) : Type 0 where
  pub kinds : TypesWithin structs m.kinds
  pub declared : TypesWithin structs m.declared

-- no struct is larger, and its members have such types and lie inside it
pub record StructsWithin (structs : List StructType) : Type 0 where
  pub sizes : (number : ℕ) → size_in structs (Struct number) ≤ most_bytes
  pub types : (number : ℕ) → TypesWithin structs (members_of structs number)
  pub inside : (number index : ℕ) → offset_in structs number index + size_in structs (member_type structs number index) ≤ size_in structs (Struct number)

-- a parameter or local of the data frame stands at an offset below 2^31
abbrev pub StandWithin : Stand → Type 0
StandWithin stand = offset_of stand < 2 ^ 31

-- ---- calls

-- whether a function whose result is of this sort gives a pointer
abbrev pub gives_pointer : Sort → Bool
gives_pointer (ANumber kind) = false
gives_pointer APointer = true
gives_pointer AWhole = false
gives_pointer NoValue = false

-- values of these types as a call passes them, from the first of its temporaries on: a number, or a pointer with its bounds behind it
abbrev pub passed_as : Sort → (first : ℕ) → ℕ × Option ℕ
passed_as (ANumber kind) first = (first, None)
passed_as APointer first = (first, Some (first + 1))
passed_as AWhole first = (first, None)
passed_as NoValue first = (first, None)

abbrev pub passed : List CType → (first : ℕ) → List (ℕ × Option ℕ)
passed [] first = []
passed (t ∷ ts) first = passed_as (sort_of t) first ∷ passed ts (first + 2)

abbrev pub AreScalars : List CType → Type 0
AreScalars types = AllByRecursion (λ t. is_scalar t ≡ true) types

-- a function has at most six parameters, of scalar types
pub record SignatureWithin (s : Signature) : Type 0 where
  pub few : length s.parameters ≤ 6
  pub scalars : AreScalars s.parameters

abbrev pub SignaturesWithin : List Signature → Type 0
SignaturesWithin signatures = (number : ℕ) (s : Signature) → slice_get signatures number ≡ Some s → SignatureWithin s

module _ (located : ℕ → Located) (returns : ℕ → Bool) (takes : ℕ → List (ℕ × Option ℕ) → Bool) where
  -- a symbol takes what its function's parameters are, and gives a pointer if the function does
  pub record SymbolServes (symbol : ℕ) (s : Signature) : Type 0 where
    pub takes_them : (first : ℕ) → takes symbol (passed s.parameters first) ≡ true
    pub gives_one : sort_of s.result ≡ APointer → returns symbol ≡ true

  -- each symbol stands low, and those of functions serve them
  pub record SymbolsServe (layout : SourceLayout) (signatures : List Signature) : Type 0 where
    pub low : (symbol : ℕ) → IsLow (located symbol)
    pub serve : (number : ℕ) (s : Signature) → slice_get signatures number ≡ Some s → SymbolServes (slice_index_or layout.functions number 0) s

  -- ---- what is around an expression

  pub record AroundWithin (around : Around) : Type 0 where
    pub structs : StructsWithin around.structs
    pub variables : TypesWithin around.structs around.variables
    pub stands : AllByRecursion StandWithin around.stands
    pub literals : (number : ℕ) → slice_index around.layout.literals number < 2 ^ 31
    pub signatures : SignaturesWithin around.signatures
    pub symbols : SymbolsServe around.layout around.signatures

  -- ---- functions of a source

  -- a function whose signature is among these keeps to the limits, where it gives a pointer exactly if its result is one
  pub record FunctionKeeps (signatures : List Signature) (d : Defined) : Type 0 where
    pub signature : Signature
    pub known : slice_get signatures d.number ≡ Some signature
    pub within : FunctionWithin located (gives_pointer (sort_of signature.result)) returns takes d.function

  abbrev pub AllFunctionsKeep : List Signature → List Defined → Type 0
  AllFunctionsKeep signatures defined = AllByRecursion (FunctionKeeps signatures) defined

-- the variables of data frames stand at offsets below 2^31, and so do literals behind their symbol
pub record LayoutWithin (layout : SourceLayout) : Type 0 where
  pub frames : (body : ℕ) → AllByRecursion StandWithin (slice_index_or layout.frames body no_frame).stands
  pub literals : (number : ℕ) → slice_index layout.literals number < 2 ^ 31
