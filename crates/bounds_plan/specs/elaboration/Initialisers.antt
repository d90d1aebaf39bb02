-- What the initialiser of a parameter or local is in the core tree: its scalars are written in order of their offsets, each expression being
-- evaluated and written before the next one, and the rest is written as 0 (C: 6.7.9, with the rest of a local written too).
use Rattle.std.specs.Prelude.{ℕ, zero, suc, ◌+◌, Option, None, Some, List, [], ◌∷◌, ◌++◌, map}
use Rattle.mx_base.specs.declared.numbers.IntKind.{IntKind}
use Rattle.mx_base.specs.declared.places.Place.{Place}
use Rattle.mx_base.specs.Numbers.{extended}
use Rattle.narrowing.specs.declared.member.Rule.TheVariants.{Keep}
use Rattle.c_tree.specs.declared.tree.Expr.{Expr}
use Rattle.c_tree.specs.declared.tree.Init.{Init, fold-Init}
use Rattle.c_tree.specs.declared.tree.InitKind.{InitKind-F}
use Rattle.c_tree.specs.declared.tree.InitKind.TheOpen as i
use Rattle.c_types.specs.Types.{CType, Void, Int, Pointer, Array, Struct, StructType, members_of}
use Rattle.c_types.specs.Layouts.{layout_of, offsets_from}
use Rattle.bounds_plan.specs.meaning.Core.{Word, Null, Member, Scalar, Effect}
use Rattle.bounds_plan.specs.elaboration.Scalars.{scalars_of, scalar_at}
use Rattle.bounds_plan.specs.elaboration.Types.{Numeric, Address, ANumber, APointer, sort_of, kind_of, size_in, given}
use Rattle.bounds_plan.specs.elaboration.Source.{Reached, Around}
use Rattle.bounds_plan.specs.elaboration.Places.{Lvalue, NumberVariable, PointerVariable, InMemory, written_as}
use Rattle.bounds_plan.specs.elaboration.Expressions.{Found, Reading, effect_of, struct_copied, without_literals}

-- what an initialiser does, in order, and how far the tree was gone through after it
pub record Filled : Type 0 where
  pub effects : List Effect
  pub after : Reached

-- an initialiser by what it fills: a part of this type, so many bytes from the front of a variable
abbrev pub Filling : Type 0
Filling = Around → CType → Lvalue → ℕ → Reached → Filled

-- the part of a variable at an offset, which has the variable's bounds
abbrev pub part_at : ℕ → Lvalue → Lvalue
part_at zero l = l
part_at (suc n) (NumberVariable x) = NumberVariable x
part_at (suc n) (PointerVariable x) = PointerVariable x
part_at (suc n) (InMemory p) = InMemory (Member (suc n) Keep p)

-- ---- the rest is 0

abbrev pub zero_as : Option IntKind → (place : Place) → Lvalue → Effect
zero_as (Some kind) place l = effect_of (written_as (ANumber kind) place l (Numeric (Word 0)))
zero_as None place l = effect_of (written_as APointer place l (Address Null))

abbrev pub zero_written : (place : Place) → Lvalue → Scalar → Effect
zero_written place l x = zero_as x.kind place (part_at x.offset l)

abbrev pub zeros : List StructType → (place : Place) → CType → Lvalue → ℕ → List Effect
zeros structs place type l offset = map (zero_written place l) (map (scalar_at offset) (scalars_of structs type))

-- the rest of a struct, by the types and offsets of its members
abbrev pub member_zeros : List StructType → (place : Place) → List CType → List ℕ → Lvalue → ℕ → List Effect
member_zeros structs place [] offsets l offset = []
member_zeros structs place (t ∷ ts) [] l offset = []
member_zeros structs place (t ∷ ts) (o ∷ os) l offset = zeros structs place t l (offset + o) ++ member_zeros structs place ts os l offset

-- ---- one expression

-- the bytes of a text in an array of so many elements of this type; the byte 0 at its end is among the rest, if there is room
abbrev pub text_filled : (place : Place) → IntKind → (count : ℕ) → Lvalue → ℕ → (step : ℕ) → List ℕ → List Effect
text_filled place kind zero l offset step bytes = []
text_filled place kind (suc n) l offset step [] = effect_of (written_as (ANumber kind) place (part_at offset l) (Numeric (Word 0))) ∷ text_filled place kind n l (offset + step) step []
text_filled place kind (suc n) l offset step (b ∷ more) = effect_of (written_as (ANumber kind) place (part_at offset l) (Numeric (Word (extended kind b)))) ∷ text_filled place kind n l (offset + step) step more

abbrev pub bytes_of : Option (List ℕ) → List ℕ
bytes_of None = []
bytes_of (Some bytes) = bytes

abbrev pub scalar_filled : CType → (place : Place) → Lvalue → ℕ → Found → List Effect
scalar_filled type place l offset f = effect_of (written_as (sort_of type) place (part_at offset l) (given type f.type f.value)) ∷ []

-- a scalar is assigned, an array of `char` takes the bytes of a text, and a struct is copied
abbrev pub one_filled : Around → CType → (place : Place) → Lvalue → ℕ → Found → List Effect
one_filled around Void place l offset f = []
one_filled around (Int kind) place l offset f = scalar_filled (Int kind) place l offset f
one_filled around (Pointer target) place l offset f = scalar_filled (Pointer target) place l offset f
one_filled around (Array element count) place l offset f = text_filled place (kind_of element) count l offset (size_in around.structs element) (bytes_of f.text)
one_filled around (Struct number) place l offset f = struct_copied around.structs (Struct number) (part_at offset l) place f ∷ []

-- a text that fills an array is no literal
abbrev pub after_one : CType → Reached → Reached → Reached
after_one Void before after = after
after_one (Int kind) before after = after
after_one (Pointer target) before after = after
after_one (Array element count) before after = without_literals before after
after_one (Struct number) before after = after

-- ---- a list in braces

abbrev pub then_filled : List Effect → Filled → Filled
then_filled effects rest = record { effects = effects ++ rest.effects; after = rest.after }

-- so many elements of this type and size
abbrev pub elements_filled : List Filling → Around → CType → (place : Place) → (size count : ℕ) → Lvalue → ℕ → Reached → Filled
elements_filled [] around element place size count l offset r = record { effects = zeros around.structs place (Array element count) l offset; after = r }
elements_filled (f ∷ more) around element place size zero l offset r = record { effects = []; after = r }
elements_filled (f ∷ more) around element place size (suc n) l offset r = let x = f around element l offset r in
    then_filled x.effects (elements_filled more around element place size n l (offset + size) x.after)

-- members of these types at these offsets
abbrev pub members_filled : List Filling → Around → (place : Place) → List CType → List ℕ → Lvalue → ℕ → Reached → Filled
members_filled [] around place types offsets l offset r = record { effects = member_zeros around.structs place types offsets l offset; after = r }
members_filled (f ∷ more) around place [] offsets l offset r = record { effects = []; after = r }
members_filled (f ∷ more) around place (t ∷ ts) [] l offset r = record { effects = []; after = r }
members_filled (f ∷ more) around place (t ∷ ts) (o ∷ os) l offset r = let x = f around t l (offset + o) r in
    then_filled x.effects (members_filled more around place ts os l offset x.after)

-- an array by its elements, and a struct by its members; a scalar has no list
abbrev pub many_filled : List Filling → (place : Place) → Filling
many_filled all place around Void l offset r = record { effects = []; after = r }
many_filled all place around (Int kind) l offset r = record { effects = []; after = r }
many_filled all place around (Pointer target) l offset r = record { effects = []; after = r }
many_filled all place around (Array element count) l offset r = elements_filled all around element place (size_in around.structs element) count l offset r
many_filled all place around (Struct number) l offset r = members_filled all around place (members_of around.structs number) (offsets_from 0 (map (layout_of around.structs) (members_of around.structs number))) l offset r

-- ---- initialisers, by what is found of their expressions

abbrev pub init_step : (Expr → Reading) → InitKind-F (Place → Filling) Filling → Place → Filling
init_step read (i.One x) place around type l offset r = let f = read x around r in
    record { effects = one_filled around type place l offset f; after = after_one type r f.after }
init_step read (i.Many all) place around type l offset r = many_filled all place around type l offset r

abbrev pub initialiser : (Expr → Reading) → Init → Filling
initialiser read = fold-Init (Place → Filling) Filling (init_step read) (λ x. x.kind x.place)
