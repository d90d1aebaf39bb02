-- What is found of an expression is within the limits of code where what is found of its parts is.
use Rattle.std.proofs.Common.{◌≡◌, ℕ, zero, suc, ◌+◌, ◌^◌, ◌<◌, ◌==◌, refl, sym, ap, ◌∙◌, subst, not, ◌&&◌, Bool, true, false, List, [], ◌∷◌, length, if◌then◌else◌, arith}
use Rattle.std.specs.Prelude.{Option, None, Some, slice_get}
use Rattle.mx_base.specs.declared.numbers.IntKind.{IntKind}
use Rattle.mx_base.specs.declared.numbers.IntKind.TheVariants.{I32, I64, U64}
use Rattle.mx_base.specs.declared.places.Place.{Place}
use Rattle.mx_base.specs.declared.operators.Arithmetic.{Arithmetic}
use Rattle.mx_base.specs.declared.operators.Arithmetic.TheVariants.{Mul, Div, Rem, Add, Sub, Shl, Shr, BitAnd, BitXor, BitOr}
use Rattle.mx_base.specs.declared.operators.Comparison.{Comparison}
use Rattle.mx_base.specs.declared.services.CService.{CService}
use Rattle.mx_base.specs.declared.services.CService.TheVariants as in_c
use Rattle.narrowing.specs.declared.member.Rule.{Rule}
use Rattle.narrowing.specs.declared.member.Rule.TheVariants.{Keep, Meet}
use Rattle.narrowing.specs.Member.{member_keeps}
use Rattle.narrowing.specs.Element.{element_meets}
use Rattle.c_tree.specs.declared.operators.UnaryOp.{UnaryOp}
use Rattle.c_tree.specs.declared.operators.UnaryOp.TheVariants as u
use Rattle.c_tree.specs.declared.operators.Logical.{Logical}
use Rattle.c_tree.specs.declared.operators.Logical.TheVariants as l
use Rattle.c_tree.specs.declared.operators.BinaryOp.{BinaryOp}
use Rattle.c_tree.specs.declared.operators.BinaryOp.TheVariants as o
use Rattle.c_types.specs.Types.{CType, Void, Int, Pointer, Array, Struct, StructType}
use Rattle.c_check_rules.specs.Conversions.{is_scalar}
use Rattle.bounds_plan.specs.meaning.Core.{NumberExpr, Word, Convert, PointerExpr, Arguments}
use Rattle.fat_ir.specs.Step.{Located}
use Rattle.bounds_plan.specs.steps.Code.{arguments_at}
use Rattle.bounds_plan.specs.steps.Follows.{count}
use Rattle.asked_steps.specs.Trees.{RuleWithin, CallWithin, Within, WithinPtr, WithinAll, EffectWithin}
use Rattle.accepted_trees.specs.Limits.{HasSmallSize, TypeWithin, StructsWithin, passed_as, passed, AreScalars, SignatureWithin, SymbolServes}
use Rattle.accepted_trees.proofs.Sizes.{size_word, step_word, scalars_within}
use Rattle.bounds_plan.specs.elaboration.Types.{Value, Numeric, Address, number_in, pointer_in, Sort, ANumber, APointer, AWhole, NoValue, sort_of, is_array, kind_of, size_in, step_in, promoted, common, done_in, keeps, converted, right_operand, wanted_pointer, given_as, given, cast_as}
use Rattle.c_check_rules.specs.declared.predeclared.Bind.{Bind}
use Rattle.c_check_rules.specs.declared.predeclared.Bind.TheVariants.{Global, Local, Fun, Service, Builtin as OfBounds}
use Rattle.c_check_rules.specs.declared.predeclared.Builtin.{Builtin}
use Rattle.c_check_rules.specs.declared.predeclared.Builtin.TheVariants as on_bounds
use Rattle.bounds_plan.specs.elaboration.Source.{Reached, Signature, Around}
use Rattle.bounds_plan.specs.elaboration.Places.{Lvalue, NumberVariable, PointerVariable, InMemory, address_in, loaded_as, read_as, stored_as, written_as, changed_at, changed_as, offset_in, is_trailing, member_at, under_rule}
use Rattle.bounds_plan.specs.elaboration.Expressions.{Found, effect_of, no_place, a_place, symbol_of, promoted_number, minus_one, negative, inverse, is_zero, unary, calculated, arithmetic, compared, logical, binary, chosen_as, assigned, struct_copied, assignment_effect, changed, assign_by, stepped_by, with_argument, arguments_for, called_as, argument_at, number_of_argument, pointer_of_argument, served, built_in, function_called, called, index_rule, index}

module _ (located : ℕ → Located) (pointer : Bool) (returns : ℕ → Bool) (takes : ℕ → List (ℕ × Option ℕ) → Bool) where
  abbrev pub ValueWithin : Value → Type 0
  ValueWithin (Numeric e) = Within located pointer returns takes e
  ValueWithin (Address p) = WithinPtr located pointer returns takes p

  abbrev pub PlaceWithin : Lvalue → Type 0
  PlaceWithin (NumberVariable x) = Unit {0}
  PlaceWithin (PointerVariable x) = Unit {0}
  PlaceWithin (InMemory p) = WithinPtr located pointer returns takes p

  pub record FoundWithin (structs : List StructType) (f : Found) : Type 0 where
    pub type : TypeWithin structs f.type
    pub value : ValueWithin f.value
    pub lvalue : PlaceWithin f.lvalue
    pub effect : EffectWithin located pointer returns takes f.effect

  -- ---- values and places

  pub number_within : (v : Value) → ValueWithin v → Within located pointer returns takes (number_in v)
  number_within (Numeric e) h = h
  number_within (Address p) h = h

  pub pointer_within : (v : Value) → ValueWithin v → WithinPtr located pointer returns takes (pointer_in v)
  pointer_within (Numeric e) h = h
  pointer_within (Address p) h = h

  wanted_within : (v : Value) → ValueWithin v → WithinPtr located pointer returns takes (wanted_pointer v)
  wanted_within (Numeric e) h = tt
  wanted_within (Address p) h = h

  pub effect_within : (v : Value) → ValueWithin v → EffectWithin located pointer returns takes (effect_of v)
  effect_within (Numeric e) h = h
  effect_within (Address p) h = h

  kept_or_converted : (b : Bool) (to : IntKind) (e : NumberExpr) → Within located pointer returns takes e → Within located pointer returns takes (if b then e else Convert to e)
  kept_or_converted true to e h = h
  kept_or_converted false to e h = h

  converted_within : (from to : IntKind) (e : NumberExpr) → Within located pointer returns takes e → Within located pointer returns takes (converted from to e)
  converted_within from to e h = kept_or_converted (keeps from to) to e h

  right_within : (op : Arithmetic) (from to : IntKind) (e : NumberExpr) → Within located pointer returns takes e → Within located pointer returns takes (right_operand op from to e)
  right_within Mul from to e h = converted_within from to e h
  right_within Div from to e h = converted_within from to e h
  right_within Rem from to e h = converted_within from to e h
  right_within Add from to e h = converted_within from to e h
  right_within Sub from to e h = converted_within from to e h
  right_within Shl from to e h = h
  right_within Shr from to e h = h
  right_within BitAnd from to e h = converted_within from to e h
  right_within BitXor from to e h = converted_within from to e h
  right_within BitOr from to e h = converted_within from to e h

  given_as_within : (sort : Sort) (from : CType) (v : Value) → ValueWithin v → ValueWithin (given_as sort from v)
  given_as_within (ANumber kind) from v h = converted_within (kind_of from) kind (number_in v) (number_within v h)
  given_as_within APointer from v h = wanted_within v h
  given_as_within AWhole from v h = h
  given_as_within NoValue from v h = h

  pub given_within : (to from : CType) (v : Value) → ValueWithin v → ValueWithin (given to from v)
  given_within to from v h = given_as_within (sort_of to) from v h

  pub cast_within : (sort : Sort) (from : CType) (v : Value) → ValueWithin v → ValueWithin (cast_as sort from v)
  cast_within (ANumber kind) from v h = converted_within (kind_of from) kind (number_in v) (number_within v h)
  cast_within APointer from v h = pointer_within v h
  cast_within AWhole from v h = h
  cast_within NoValue from v h = h

  pub address_within : (l : Lvalue) → PlaceWithin l → WithinPtr located pointer returns takes (address_in l)
  address_within (NumberVariable x) h = tt
  address_within (PointerVariable x) h = tt
  address_within (InMemory p) h = h

  loaded_within : (sort : Sort) (place : Place) (p : PointerExpr) → WithinPtr located pointer returns takes p → ValueWithin (loaded_as sort place p)
  loaded_within (ANumber kind) place p h = h
  loaded_within APointer place p h = h
  loaded_within AWhole place p h = h
  loaded_within NoValue place p h = h

  read_within : (sort : Sort) (place : Place) (l : Lvalue) → PlaceWithin l → ValueWithin (read_as sort place l)
  read_within sort place (NumberVariable x) h = h
  read_within sort place (PointerVariable x) h = h
  read_within sort place (InMemory p) h = loaded_within sort place p h

  stored_within : (sort : Sort) (place : Place) (p : PointerExpr) (v : Value) → WithinPtr located pointer returns takes p → ValueWithin v → ValueWithin (stored_as sort place p v)
  stored_within (ANumber kind) place p v h k = (h, number_within v k)
  stored_within APointer place p v h k = (h, pointer_within v k)
  stored_within AWhole place p v h k = h
  stored_within NoValue place p v h k = h

  pub written_within : (sort : Sort) (place : Place) (l : Lvalue) (v : Value) → PlaceWithin l → ValueWithin v → ValueWithin (written_as sort place l v)
  written_within sort place (NumberVariable x) v h k = number_within v k
  written_within sort place (PointerVariable x) v h k = pointer_within v k
  written_within sort place (InMemory p) v h k = stored_within sort place p v h k

  changed_at_within : (sort : Sort) (place : Place) (p : PointerExpr) (op : Arithmetic) (from : IntKind) (size : ℕ) (e : NumberExpr) (old : Bool) → size < 2 ^ 64 → WithinPtr located pointer returns takes p → Within located pointer returns takes e → ValueWithin (changed_at sort place p op from size e old)
  changed_at_within (ANumber kind) place p op from size e old z h k = (h, right_within op from (done_in op kind from) e k)
  changed_at_within APointer place p op from size e old z h k = (z, h, k)
  changed_at_within AWhole place p op from size e old z h k = h
  changed_at_within NoValue place p op from size e old z h k = h

  changed_as_within : (kind : IntKind) (sort : Sort) (place : Place) (l : Lvalue) (op : Arithmetic) (from : IntKind) (size : ℕ) (e : NumberExpr) (old : Bool) → size < 2 ^ 64 → PlaceWithin l → Within located pointer returns takes e
      → ValueWithin (changed_as kind sort place l op from size e old)
  changed_as_within kind sort place (NumberVariable x) op from size e old z h k = right_within op from (done_in op kind from) e k
  changed_as_within kind sort place (PointerVariable x) op from size e old z h k = (z, k)
  changed_as_within kind sort place (InMemory p) op from size e old z h k = changed_at_within sort place p op from size e old z h k

  -- ---- what is found

  pub no_place_within : (structs : List StructType) (type : CType) (v : Value) (place : Place) (after : Reached) → TypeWithin structs type → ValueWithin v → FoundWithin structs (no_place type v place after)
  no_place_within structs type v place after t h = record { type = t; value = h; lvalue = pointer_within v h; effect = effect_within v h }

  pub a_place_within : (structs : List StructType) (type : CType) (l : Lvalue) (place : Place) (after : Reached) → TypeWithin structs type → PlaceWithin l → FoundWithin structs (a_place type l place after)
  a_place_within structs type l place after t h = let v = read_as (sort_of type) place l in let k = read_within (sort_of type) place l h in record { type = t; value = k; lvalue = h; effect = effect_within v k }

  -- ---- operators

  all_bits : minus_one < 2 ^ 64
  all_bits = omega arith

  no_bits : 0 < 2 ^ 64
  no_bits = omega arith

  promoted_within : (structs : List StructType) (a : Found) → FoundWithin structs a → Within located pointer returns takes (promoted_number a)
  promoted_within structs a h = converted_within (kind_of a.type) (promoted (kind_of a.type)) (number_in a.value) (number_within a.value h.value)

  pub unary_within : (structs : List StructType) (op : UnaryOp) (type : CType) (a : Found) (place : Place) (after : Reached) → TypeWithin structs type → FoundWithin structs a → FoundWithin structs (unary op type a place after)
  unary_within structs u.Neg type a place after t h = no_place_within structs type (Numeric (negative a)) place after t (promoted_within structs a h, all_bits)
  unary_within structs u.BitNot type a place after t h = no_place_within structs type (Numeric (inverse a)) place after t (promoted_within structs a h, all_bits)
  unary_within structs u.Not type a place after t h = no_place_within structs type (Numeric (is_zero a)) place after t (number_within a.value h.value, no_bits)
  unary_within structs u.Deref type a place after t h = a_place_within structs type (InMemory (pointer_in a.value)) place after t (pointer_within a.value h.value)
  unary_within structs u.AddressOf type a place after t h = no_place_within structs type (Address (address_in a.lvalue)) place after t (address_within a.lvalue h.lvalue)

  calculated_within : (op : Arithmetic) (ka kb : IntKind) (a b : NumberExpr) → Within located pointer returns takes a → Within located pointer returns takes b → Within located pointer returns takes (calculated op ka kb a b)
  calculated_within op ka kb a b h k = (converted_within ka (done_in op ka kb) a h, right_within op kb (done_in op ka kb) b k)

  arithmetic_within : (structs : List StructType) (op : Arithmetic) (s t : CType) (v w : Value) → TypeWithin structs s → TypeWithin structs t → ValueWithin v → ValueWithin w → ValueWithin (arithmetic structs op s t v w)
  arithmetic_within structs op s t (Numeric a) (Numeric b) y z h k = calculated_within op (kind_of s) (kind_of t) a b h k
  arithmetic_within structs op s t (Address p) (Numeric i) y z h k = (step_word structs s y, h, k)
  arithmetic_within structs op s t (Numeric i) (Address p) y z h k = (step_word structs t z, h, k)
  arithmetic_within structs op s t (Address p) (Address q) y z h k = ((h, k), step_word structs s y)

  compared_within : (op : Comparison) (ka kb : IntKind) (v w : Value) → ValueWithin v → ValueWithin w → Within located pointer returns takes (compared op ka kb v w)
  compared_within op ka kb (Numeric a) (Numeric b) h k = (converted_within ka (common ka kb) a h, converted_within kb (common ka kb) b k)
  compared_within op ka kb (Address p) (Numeric b) h k = (h, k)
  compared_within op ka kb (Numeric a) (Address q) h k = (h, k)
  compared_within op ka kb (Address p) (Address q) h k = (h, k)

  logical_within : (op : Logical) (a b : NumberExpr) → Within located pointer returns takes a → Within located pointer returns takes b → Within located pointer returns takes (logical op a b)
  logical_within l.And a b h k = (h, k)
  logical_within l.Or a b h k = (h, k)

  pub binary_within : (op : BinaryOp) (around : Around) (a b : Found) → FoundWithin around.structs a → FoundWithin around.structs b → ValueWithin (binary op around a b)
  binary_within (o.Arithmetic op) around a b h k = arithmetic_within around.structs op a.type b.type a.value b.value h.type k.type h.value k.value
  binary_within (o.Comparison op) around a b h k = compared_within op (kind_of a.type) (kind_of b.type) a.value b.value h.value k.value
  binary_within (o.Logical op) around a b h k = logical_within op _ _ (number_within a.value h.value) (number_within b.value k.value)

  pub chosen_within : (structs : List StructType) (sort : Sort) (c a b : Found) → FoundWithin structs c → FoundWithin structs a → FoundWithin structs b → ValueWithin (chosen_as sort c a b)
  chosen_within structs (ANumber kind) c a b h k l =
      (number_within c.value h.value, converted_within (kind_of a.type) kind (number_in a.value) (number_within a.value k.value), converted_within (kind_of b.type) kind (number_in b.value) (number_within b.value l.value))
  chosen_within structs APointer c a b h k l = (number_within c.value h.value, wanted_within a.value k.value, wanted_within b.value l.value)
  chosen_within structs AWhole c a b h k l = (number_within c.value h.value, wanted_within a.value k.value, wanted_within b.value l.value)
  chosen_within structs NoValue c a b h k l = (number_within c.value h.value, wanted_within a.value k.value, wanted_within b.value l.value)

  -- ---- assignments

  assigned_within : (structs : List StructType) (a b : Found) → FoundWithin structs a → FoundWithin structs b → ValueWithin (assigned a b)
  assigned_within structs a b h k = written_within (sort_of a.type) a.place a.lvalue (given a.type b.type b.value) h.lvalue (given_within a.type b.type b.value k.value)

  -- the size of what is copied is from 1 to 16,777,216
  pub copied_within : (structs : List StructType) (type : CType) (l : Lvalue) (to : Place) (b : Found) → TypeWithin structs type → HasSmallSize structs type → PlaceWithin l → FoundWithin structs b → EffectWithin located pointer returns takes (struct_copied structs type l to b)
  copied_within structs type l to b t small h k = let le = small.1 in
      (small.0, omega (arith, le), scalars_within structs type t, address_within l h, address_within b.lvalue k.lvalue)

  effect_assigned : (structs : List StructType) (type : CType) (a b : Found) → a.type ≡ type → FoundWithin structs a → FoundWithin structs b → EffectWithin located pointer returns takes (assignment_effect (sort_of type) structs a b)
  effect_assigned structs Void a b e h k = effect_within (assigned a b) (assigned_within structs a b h k)
  effect_assigned structs (Int kind) a b e h k = effect_within (assigned a b) (assigned_within structs a b h k)
  effect_assigned structs (Pointer target) a b e h k = effect_within (assigned a b) (assigned_within structs a b h k)
  effect_assigned structs (Array element count) a b e h k = copied_within structs a.type a.lvalue a.place b h.type (subst (HasSmallSize structs) (sym e) (subst (TypeWithin structs) e h.type).1) h.lvalue k
  effect_assigned structs (Struct number) a b e h k = copied_within structs a.type a.lvalue a.place b h.type (subst (HasSmallSize structs) (sym e) (subst (TypeWithin structs) e h.type)) h.lvalue k

  changed_within : (structs : List StructType) (op : Arithmetic) (a : Found) (from : IntKind) (e : NumberExpr) (old : Bool) → FoundWithin structs a → Within located pointer returns takes e → ValueWithin (changed structs op a from e old)
  changed_within structs op a from e old h k = changed_as_within (kind_of a.type) (sort_of a.type) a.place a.lvalue op from (step_in structs a.type) e old (step_word structs a.type h.type) h.lvalue k

  pub assign_within : (op : Option Arithmetic) (around : Around) (a b : Found) (place : Place) (after : Reached) → FoundWithin around.structs a → FoundWithin around.structs b → FoundWithin around.structs (assign_by op around a b place after)
  assign_within None around a b place after h k = let v = assigned_within around.structs a b h k in
      record { type = h.type; value = v; lvalue = pointer_within (assigned a b) v; effect = effect_assigned around.structs a.type a b refl h k }
  assign_within (Some op) around a b place after h k = no_place_within around.structs a.type (changed around.structs op a (kind_of b.type) (number_in b.value) false) place after h.type
      (changed_within around.structs op a (kind_of b.type) (number_in b.value) false h (number_within b.value k.value))

  one_bit : 1 < 2 ^ 64
  one_bit = omega arith

  pub stepped_within : (around : Around) (up before : Bool) (a : Found) (place : Place) (after : Reached) → FoundWithin around.structs a → FoundWithin around.structs (stepped_by around up before a place after)
  stepped_within around up before a place after h = no_place_within around.structs a.type _ place after h.type (changed_within around.structs (if up then Add else Sub) a I32 (Word 1) (not before) h one_bit)

  -- ---- calls

  abbrev pub AllFoundWithin : List StructType → List Found → Type 0
  AllFoundWithin structs [] = Unit {0}
  AllFoundWithin structs (a ∷ more) = FoundWithin structs a × AllFoundWithin structs more

  with_within : (v : Value) (rest : Arguments) → ValueWithin v → WithinAll located pointer returns takes rest → WithinAll located pointer returns takes (with_argument v rest)
  with_within (Numeric e) rest h k = (h, k)
  with_within (Address p) rest h k = (h, k)

  arguments_within : (structs : List StructType) (types : List CType) (all : List Found) → AllFoundWithin structs all → WithinAll located pointer returns takes (arguments_for types all)
  arguments_within structs [] all h = tt
  arguments_within structs (t ∷ ts) [] h = with_within (given t Void (Numeric (Word 0))) (arguments_for ts []) (given_within t Void (Numeric (Word 0)) no_bits) (arguments_within structs ts [] tt)
  arguments_within structs (t ∷ ts) (a ∷ more) h = with_within (given t a.type a.value) (arguments_for ts more) (given_within t a.type a.value h.0.value) (arguments_within structs ts more h.1)

  one_more : (v : Value) (rest : Arguments) → count (with_argument v rest) ≡ suc (count rest)
  one_more (Numeric e) rest = refl
  one_more (Address p) rest = refl

  as_many_arguments : (types : List CType) (all : List Found) → count (arguments_for types all) ≡ length types
  as_many_arguments [] all = refl
  as_many_arguments (t ∷ ts) [] = one_more (given t Void (Numeric (Word 0))) (arguments_for ts []) ∙ ap suc (as_many_arguments ts [])
  as_many_arguments (t ∷ ts) (a ∷ more) = one_more (given t a.type a.value) (arguments_for ts more) ∙ ap suc (as_many_arguments ts more)

  -- an argument for a scalar is passed as one of its type
  given_passed : (t from : CType) (v : Value) (rest : Arguments) (d : ℕ) → is_scalar t ≡ true → arguments_at (with_argument (given t from v) rest) d ≡ passed_as (sort_of t) d ∷ arguments_at rest (d + 2)
  given_passed Void from v rest d h = cc
  given_passed (Int kind) from v rest d h = refl
  given_passed (Pointer target) from v rest d h = refl
  given_passed (Array element n) from v rest d h = cc
  given_passed (Struct number) from v rest d h = cc

  arguments_passed : (types : List CType) (all : List Found) (d : ℕ) → AreScalars types → arguments_at (arguments_for types all) d ≡ passed types d
  arguments_passed [] all d h = refl
  arguments_passed (t ∷ ts) [] d h = given_passed t Void (Numeric (Word 0)) (arguments_for ts []) d h.0 ∙ ap (λ xs. passed_as (sort_of t) d ∷ xs) (arguments_passed ts [] (d + 2) h.1)
  arguments_passed (t ∷ ts) (a ∷ more) d h = given_passed t a.type a.value (arguments_for ts more) d h.0 ∙ ap (λ xs. passed_as (sort_of t) d ∷ xs) (arguments_passed ts more (d + 2) h.1)

  call_within : (symbol : ℕ) (s : Signature) (all : List Found) → SignatureWithin s → SymbolServes located returns takes symbol s → CallWithin located pointer returns takes symbol (arguments_for s.parameters all)
  call_within symbol s all h serves = let few = h.few in let many = as_many_arguments s.parameters all in
      (omega (arith, few, many), λ d. ap (takes symbol) (arguments_passed s.parameters all d h.scalars) ∙ serves.takes_them d)

  called_as_within : (sort : Sort) (symbol : ℕ) (args : Arguments) → CallWithin located pointer returns takes symbol args → WithinAll located pointer returns takes args → (sort ≡ APointer → returns symbol ≡ true) → ValueWithin (called_as sort symbol args)
  called_as_within (ANumber kind) symbol args c h k = (c, h)
  called_as_within APointer symbol args c h k = (c, h, k refl)
  called_as_within AWhole symbol args c h k = (c, h)
  called_as_within NoValue symbol args c h k = (c, h)

  -- ---- services and builtins

  argument_within : (structs : List StructType) (n : ℕ) (all : List Found) → AllFoundWithin structs all → FoundWithin structs (argument_at n all)
  argument_within structs n [] h = record { type = tt; value = no_bits; lvalue = no_bits; effect = no_bits }
  argument_within structs zero (a ∷ more) h = h.0
  argument_within structs (suc n) (a ∷ more) h = argument_within structs n more h.1

  number_argument_within : (structs : List StructType) (kind : IntKind) (n : ℕ) (all : List Found) → AllFoundWithin structs all → Within located pointer returns takes (number_of_argument kind n all)
  number_argument_within structs kind n all h = converted_within (kind_of (argument_at n all).type) kind (number_in (argument_at n all).value) (number_within (argument_at n all).value (argument_within structs n all h).value)

  pointer_argument_within : (structs : List StructType) (n : ℕ) (all : List Found) → AllFoundWithin structs all → WithinPtr located pointer returns takes (pointer_of_argument n all)
  pointer_argument_within structs n all h = wanted_within (argument_at n all).value (argument_within structs n all h).value

  served_within : (structs : List StructType) (service : CService) (all : List Found) → AllFoundWithin structs all → ValueWithin (served service all)
  served_within structs in_c.Print all h = number_argument_within structs I64 0 all h
  served_within structs in_c.Put all h = number_argument_within structs I32 0 all h
  served_within structs in_c.Get all h = tt
  served_within structs in_c.Alloc all h = number_argument_within structs U64 0 all h
  served_within structs in_c.Free all h = pointer_argument_within structs 0 all h
  served_within structs in_c.Exit all h = number_argument_within structs I32 0 all h

  built_in_within : (structs : List StructType) (builtin : Builtin) (all : List Found) → AllFoundWithin structs all → WithinPtr located pointer returns takes (built_in builtin all)
  built_in_within structs on_bounds.SetBounds all h = (pointer_argument_within structs 0 all h, number_argument_within structs U64 1 all h)
  built_in_within structs on_bounds.NarrowBounds all h = (pointer_argument_within structs 0 all h, pointer_argument_within structs 1 all h, number_argument_within structs U64 2 all h)
  built_in_within structs on_bounds.CopyBounds all h = (pointer_argument_within structs 0 all h, pointer_argument_within structs 1 all h)
  built_in_within structs on_bounds.InitBounds all h = pointer_argument_within structs 0 all h
  built_in_within structs on_bounds.LowerBound all h = pointer_argument_within structs 0 all h
  built_in_within structs on_bounds.UpperBound all h = pointer_argument_within structs 0 all h

  -- a function that is called as it is declared, and gives a pointer where the call has the type of one
  abbrev pub CallsRight : Around → CType → Bind → Type 0
  CallsRight around type (Fun number) = (s : Signature) → slice_get around.signatures number ≡ Some s → SignatureWithin s × SymbolServes located returns takes (symbol_of around number) s × (sort_of type ≡ APointer → sort_of s.result ≡ APointer)
  CallsRight around type (Service service) = Unit {0}
  CallsRight around type (OfBounds builtin) = Unit {0}
  CallsRight around type (Global number) = Unit {0}
  CallsRight around type (Local number) = Unit {0}

  function_called_within : (around : Around) (type : CType) (number : ℕ) (o : Option Signature) (all : List Found)
      → ((s : Signature) → o ≡ Some s → SignatureWithin s × SymbolServes located returns takes (symbol_of around number) s × (sort_of type ≡ APointer → sort_of s.result ≡ APointer))
      → AllFoundWithin around.structs all → ValueWithin (function_called around type number o all)
  function_called_within around type number None all right h = no_bits
  function_called_within around type number (Some s) all right h = let r = right s refl in
      called_as_within (sort_of type) (symbol_of around number) (arguments_for s.parameters all) (call_within (symbol_of around number) s all r.0 r.1) (arguments_within around.structs s.parameters all h) (λ e. r.1.gives_one (r.2 e))

  pub called_within : (around : Around) (type : CType) (m : Bind) (all : List Found) → CallsRight around type m → AllFoundWithin around.structs all → ValueWithin (called around type m all)
  called_within around type (Fun number) all right h = function_called_within around type number (slice_get around.signatures number) all right h
  called_within around type (Service service) all right h = served_within around.structs service all h
  called_within around type (OfBounds builtin) all right h = built_in_within around.structs builtin all h
  called_within around type (Global number) all right h = no_bits
  called_within around type (Local number) all right h = no_bits

  -- ---- members and elements

  pub ruled_within : (rule : Rule) (p : PointerExpr) → RuleWithin rule → WithinPtr located pointer returns takes p → WithinPtr located pointer returns takes (under_rule rule p)
  ruled_within Keep p r h = h
  ruled_within (Meet offset size) p r h = (no_bits, r, h)

  pub either_rule : (b : Bool) (offset size : ℕ) → offset < 2 ^ 64 → size < 2 ^ 64 → RuleWithin (if b then Meet offset size else Keep)
  either_rule true offset size h k = (h, k)
  either_rule false offset size h k = tt

  pub rule_or_kept : (b : Bool) (offset size : ℕ) → offset < 2 ^ 64 → size < 2 ^ 64 → RuleWithin (if b then Keep else Meet offset size)
  rule_or_kept true offset size h k = tt
  rule_or_kept false offset size h k = (h, k)

  pub index_within : (around : Around) (type : CType) (a i : Found) → TypeWithin around.structs type → FoundWithin around.structs a → FoundWithin around.structs i → PlaceWithin (index around type a i)
  index_within around type a i t h k = let size = size_word around.structs type t in
      ruled_within (index_rule around type a) _ (either_rule (element_meets around.flags (is_array a.type && is_array type)) 0 (size_in around.structs type) no_bits size) (size, pointer_within a.value h.value, number_within i.value k.value)

  pub member_at_within : (around : Around) (struct at : ℕ) (type : CType) (p : PointerExpr) → StructsWithin around.structs → TypeWithin around.structs type → WithinPtr located pointer returns takes p → WithinPtr located pointer returns takes (member_at around.flags around.structs struct at type p)
  member_at_within around struct at type p structs t h =
      let le = structs.inside struct at in let most = structs.sizes struct in let small : offset_in around.structs struct at < 2 ^ 64 = omega (arith, le, most) in
      (small, rule_or_kept (member_keeps around.flags (at == 0) (is_trailing around.structs struct at type)) (offset_in around.structs struct at) (size_in around.structs type) small (size_word around.structs type t), h)
