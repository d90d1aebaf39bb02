-- What is found of each form of expression: its type, how far the tree was gone through, and that no struct is copied that is larger than may be.
use Rattle.std.proofs.Common.{◌≡◌, ℕ, ◌==◌, ◌≤◌, refl, sym, subst, Bool, true, false, if◌then◌else◌, List}
use Rattle.std.specs.Prelude.{Option, None, Some}
use Rattle.mx_base.specs.declared.places.Place.{Place}
use Rattle.mx_base.specs.declared.operators.Arithmetic.{Arithmetic}
use Rattle.c_tree.specs.declared.operators.UnaryOp.{UnaryOp}
use Rattle.c_tree.specs.declared.operators.UnaryOp.TheVariants as u
use Rattle.c_types.specs.Types.{CType, Void, Int, Pointer, Array, Struct, StructType}
use Rattle.c_check_rules.specs.declared.predeclared.Bind.{Bind}
use Rattle.c_check_rules.specs.declared.predeclared.Bind.TheVariants.{Global, Local, Fun, Service, Builtin}
use Rattle.c_accepted.specs.Alike.{IsSmall}
use Rattle.bounds_plan.specs.laws.Laws.{OfEffect, most_bytes}
use Rattle.bounds_plan.specs.elaboration.Types.{Value, Numeric, Address, pointer_in, sort_of, size_in}
use Rattle.bounds_plan.specs.elaboration.Source.{Reached, Around}
use Rattle.bounds_plan.specs.elaboration.Places.{Lvalue, InMemory, address_in, read_as}
use Rattle.bounds_plan.specs.elaboration.Expressions.{Found, effect_of, no_place, a_place, named, negative, inverse, is_zero, unary, assigned, assignment_effect, assign_by, stepped_by}

-- no struct is
abbrev pub AreSmall : List StructType → Type 0
AreSmall structs = (number : ℕ) → size_in structs (Struct number) ≤ most_bytes

pub record Gives (structs : List StructType) (type : CType) (after : Reached) (f : Found) : Type 0 where
  pub type_is : f.type ≡ type
  pub after_is : f.after ≡ after
  pub copies : AreSmall structs → OfEffect IsSmall f.effect

pub value_small : (v : Value) → OfEffect IsSmall (effect_of v)
value_small (Numeric e) = tt
value_small (Address p) = tt

pub no_place_gives : (structs : List StructType) (type : CType) (v : Value) (place : Place) (after : Reached) → Gives structs type after (no_place type v place after)
no_place_gives structs type v place after = record { type_is = refl; after_is = refl; copies = λ small. value_small v }

pub a_place_gives : (structs : List StructType) (type : CType) (l : Lvalue) (place : Place) (after : Reached) → Gives structs type after (a_place type l place after)
a_place_gives structs type l place after = record { type_is = refl; after_is = refl; copies = λ small. value_small (read_as (sort_of type) place l) }

pub named_gives : (around : Around) (type : CType) (m : Bind) (place : Place) (after : Reached) → Gives around.structs type after (named around type m place after)
named_gives around type (Global number) place after = a_place_gives _ type _ place after
named_gives around type (Local number) place after = a_place_gives _ type _ place after
named_gives around type (Fun number) place after = no_place_gives _ type _ place after
named_gives around type (Service service) place after = no_place_gives _ type _ place after
named_gives around type (Builtin builtin) place after = no_place_gives _ type _ place after

pub unary_gives : (structs : List StructType) (op : UnaryOp) (type : CType) (a : Found) (place : Place) (after : Reached) → Gives structs type after (unary op type a place after)
unary_gives structs u.Neg type a place after = no_place_gives structs type (Numeric (negative a)) place after
unary_gives structs u.BitNot type a place after = no_place_gives structs type (Numeric (inverse a)) place after
unary_gives structs u.Not type a place after = no_place_gives structs type (Numeric (is_zero a)) place after
unary_gives structs u.Deref type a place after = a_place_gives structs type (InMemory (pointer_in a.value)) place after
unary_gives structs u.AddressOf type a place after = no_place_gives structs type (Address (address_in a.lvalue)) place after

-- what is assigned to is no array
abbrev pub NoArray : CType → Type 0
NoArray Void = Unit {0}
NoArray (Int kind) = Unit {0}
NoArray (Pointer target) = Unit {0}
NoArray (Array element count) = ⊥
NoArray (Struct number) = Unit {0}

assignment_small : (structs : List StructType) (type : CType) (a b : Found) → a.type ≡ type → NoArray type → AreSmall structs → OfEffect IsSmall (assignment_effect (sort_of type) structs a b)
assignment_small structs Void a b e h small = value_small (assigned a b)
assignment_small structs (Int kind) a b e h small = value_small (assigned a b)
assignment_small structs (Pointer target) a b e h small = value_small (assigned a b)
assignment_small structs (Array element count) a b e h small = absurd h
assignment_small structs (Struct number) a b e h small = subst (λ t. size_in structs t ≤ most_bytes) (sym e) (small number)

pub assign_gives : (around : Around) (op : Option Arithmetic) (type : CType) (a b : Found) (place : Place) (after : Reached) → a.type ≡ type → NoArray type → Gives around.structs type after (assign_by op around a b place after)
assign_gives around None type a b place after e h = record { type_is = e; after_is = refl; copies = λ small. subst (λ t. OfEffect IsSmall (assignment_effect (sort_of t) around.structs a b)) (sym e) (assignment_small around.structs type a b e h small) }
assign_gives around (Some op) type a b place after e h = record { type_is = e; after_is = refl; copies = λ small. value_small _ }

pub stepped_gives : (around : Around) (up before : Bool) (type : CType) (a : Found) (place : Place) (after : Reached) → a.type ≡ type → Gives around.structs type after (stepped_by around up before a place after)
stepped_gives around up before type a place after e = record { type_is = e; after_is = refl; copies = λ small. value_small _ }
