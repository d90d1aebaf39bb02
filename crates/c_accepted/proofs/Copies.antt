-- No initialiser copies a struct that is larger than may be, where no struct is.
use Rattle.std.proofs.Common.{ℕ, zero, suc, ◌+◌, List, [], ◌∷◌, ◌++◌, map}
use Rattle.std.specs.Prelude.{Option, None, Some}
use Rattle.mx_base.specs.declared.numbers.IntKind.{IntKind}
use Rattle.mx_base.specs.declared.places.Place.{Place}
use Rattle.mx_base.specs.Numbers.{extended}
use Rattle.c_tree.specs.declared.tree.Init.{Init}
use Rattle.c_tree.specs.declared.tree.InitKind.{InitKind-F}
use Rattle.c_tree.specs.declared.tree.InitKind.TheOpen as i
use Rattle.c_types.specs.Types.{CType, Void, Int, Pointer, Array, Struct, StructType, members_of}
use Rattle.c_types.specs.Layouts.{layout_of, offsets_from}
use Rattle.bounds_plan.specs.meaning.Core.{Word, Null, Scalar, Effect}
use Rattle.bounds_plan.specs.laws.Laws.{OfEffect, OfCopies}
use Rattle.bounds_plan.specs.elaboration.Scalars.{scalars_of, scalar_at}
use Rattle.bounds_plan.specs.elaboration.Types.{Numeric, Address, ANumber, APointer, sort_of, kind_of, size_in, given}
use Rattle.bounds_plan.specs.elaboration.Source.{Reached, Around}
use Rattle.bounds_plan.specs.elaboration.Places.{Lvalue, written_as}
use Rattle.bounds_plan.specs.elaboration.Expressions.{Found, expression}
use Rattle.bounds_plan.specs.elaboration.Initialisers.{Filling, part_at, zero_as, zero_written, zeros, member_zeros, text_filled, bytes_of, one_filled, elements_filled, members_filled, many_filled, init_step, initialiser}
use Rattle.bounds_plan.specs.elaboration.Statements.{in_order}
use Rattle.c_tree.proofs.Inductions.{InitA, InitB, bare_inits, every_inits}
use Rattle.c_accepted.specs.Alike.{IsSmall}
use Rattle.c_accepted.proofs.Gives.{AreSmall, value_small}

AllSmall : List Effect → Type 0
AllSmall [] = Unit {0}
AllSmall (x ∷ more) = OfEffect IsSmall x × AllSmall more

append_small : (xs ys : List Effect) → AllSmall xs → AllSmall ys → AllSmall (xs ++ ys)
unfolding AllSmall
append_small [] ys h k = k
append_small (x ∷ xs) ys h k = (h.0, append_small xs ys h.1 k)

abbrev Fill : Filling → Type 0
Fill fill = (around : Around) → AreSmall around.structs → (type : CType) (l : Lvalue) (offset : ℕ) (r : Reached) → AllSmall (fill around type l offset r).effects

abbrev FillAt : (Place → Filling) → Type 0
FillAt fill = (place : Place) → Fill (fill place)

zero_small : (o : Option IntKind) (place : Place) (l : Lvalue) → OfEffect IsSmall (zero_as o place l)
zero_small (Some kind) place l = value_small (written_as (ANumber kind) place l (Numeric (Word 0)))
zero_small None place l = value_small (written_as APointer place l (Address Null))

zeros_small : (scalars : List Scalar) (place : Place) (l : Lvalue) → AllSmall (map (zero_written place l) scalars)
unfolding AllSmall
zeros_small [] place l = tt
zeros_small (x ∷ more) place l = (zero_small x.kind place (part_at x.offset l), zeros_small more place l)

member_zeros_small : (structs : List StructType) (place : Place) (types : List CType) (offsets : List ℕ) (l : Lvalue) (offset : ℕ) → AllSmall (member_zeros structs place types offsets l offset)
unfolding AllSmall
member_zeros_small structs place [] offsets l offset = tt
member_zeros_small structs place (t ∷ ts) [] l offset = tt
member_zeros_small structs place (t ∷ ts) (o ∷ os) l offset = append_small (zeros structs place t l (offset + o)) (member_zeros structs place ts os l offset) (zeros_small (map (scalar_at (offset + o)) (scalars_of structs t)) place l) (member_zeros_small structs place ts os l offset)

text_small : (place : Place) (kind : IntKind) (count : ℕ) (l : Lvalue) (offset step : ℕ) (bytes : List ℕ) → AllSmall (text_filled place kind count l offset step bytes)
unfolding AllSmall
text_small place kind zero l offset step bytes = tt
text_small place kind (suc n) l offset step [] = (value_small (written_as (ANumber kind) place (part_at offset l) (Numeric (Word 0))), text_small place kind n l (offset + step) step [])
text_small place kind (suc n) l offset step (b ∷ more) = (value_small (written_as (ANumber kind) place (part_at offset l) (Numeric (Word (extended kind b)))), text_small place kind n l (offset + step) step more)

one_small : (around : Around) → AreSmall around.structs → (type : CType) (place : Place) (l : Lvalue) (offset : ℕ) (f : Found) → AllSmall (one_filled around type place l offset f)
unfolding AllSmall
one_small around small Void place l offset f = tt
one_small around small (Int kind) place l offset f = (value_small (written_as (sort_of (Int kind)) place (part_at offset l) (given (Int kind) f.type f.value)), tt)
one_small around small (Pointer target) place l offset f = (value_small (written_as (sort_of (Pointer target)) place (part_at offset l) (given (Pointer target) f.type f.value)), tt)
one_small around small (Array element count) place l offset f = text_small place (kind_of element) count l offset (size_in around.structs element) (bytes_of f.text)
one_small around small (Struct number) place l offset f = (small number, tt)

abbrev Fills : Type 0
Fills = (fill : Filling) × Fill fill

elements_small : (all : List Fills) (around : Around) → AreSmall around.structs → (element : CType) (place : Place) (size count : ℕ) (l : Lvalue) (offset : ℕ) (r : Reached) → AllSmall (elements_filled (map (λ y. y.0) all) around element place size count l offset r).effects
unfolding AllSmall
elements_small [] around small element place size count l offset r = zeros_small (map (scalar_at offset) (scalars_of around.structs (Array element count))) place l
elements_small (f ∷ more) around small element place size zero l offset r = tt
elements_small (f ∷ more) around small element place size (suc n) l offset r = append_small (f.0 around element l offset r).effects _ (f.1 around small element l offset r) (elements_small more around small element place size n l (offset + size) (f.0 around element l offset r).after)

members_small : (all : List Fills) (around : Around) → AreSmall around.structs → (place : Place) (types : List CType) (offsets : List ℕ) (l : Lvalue) (offset : ℕ) (r : Reached) → AllSmall (members_filled (map (λ y. y.0) all) around place types offsets l offset r).effects
unfolding AllSmall
members_small [] around small place types offsets l offset r = member_zeros_small around.structs place types offsets l offset
members_small (f ∷ more) around small place [] offsets l offset r = tt
members_small (f ∷ more) around small place (t ∷ ts) [] l offset r = tt
members_small (f ∷ more) around small place (t ∷ ts) (o ∷ os) l offset r = append_small (f.0 around t l (offset + o) r).effects _ (f.1 around small t l (offset + o) r) (members_small more around small place ts os l offset (f.0 around t l (offset + o) r).after)

many_small : (all : List Fills) (place : Place) → Fill (many_filled (map (λ y. y.0) all) place)
unfolding AllSmall
many_small all place around small Void l offset r = tt
many_small all place around small (Int kind) l offset r = tt
many_small all place around small (Pointer target) l offset r = tt
many_small all place around small (Array element count) l offset r = elements_small all around small element place (size_in around.structs element) count l offset r
many_small all place around small (Struct number) l offset r = members_small all around small place (members_of around.structs number) (offsets_from 0 (map (layout_of around.structs) (members_of around.structs number))) l offset r

init_small : (y : InitKind-F (InitA (Place → Filling) Filling (init_step expression) (λ x. x.kind x.place) FillAt Fill) (InitB (Place → Filling) Filling (init_step expression) (λ x. x.kind x.place) FillAt Fill))
    → FillAt (init_step expression (bare_inits (Place → Filling) Filling (init_step expression) (λ x. x.kind x.place) FillAt Fill y))
init_small (i.One x) place around small type l offset r = one_small around small type place l offset (expression x around r)
init_small (i.Many all) place around small type l offset r = many_small all place around small type l offset r

initialisers_all : (x : Init) → Fill (initialiser expression x)
initialisers_all x = every_inits (Place → Filling) Filling (init_step expression) (λ x. x.kind x.place) FillAt Fill init_small (λ y. y.kind.1 y.place) x

order_small : (xs : List Effect) → AllSmall xs → OfCopies IsSmall (in_order xs)
unfolding AllSmall
order_small [] h = tt
order_small (x ∷ more) h = (h.0, order_small more h.1)

pub initialisers_small : (x : Init) (around : Around) → AreSmall around.structs → (type : CType) (l : Lvalue) (offset : ℕ) (r : Reached) → OfCopies IsSmall (in_order (initialiser expression x around type l offset r).effects)
initialisers_small x around small type l offset r = order_small _ (initialisers_all x around small type l offset r)
