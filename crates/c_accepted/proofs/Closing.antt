-- What is found of an expression names no objects but those that its parts name, whatever these are.
use Rattle.std.proofs.Common.{ℕ, zero, suc, ◌==◌, not, Bool, true, false, List, [], ◌∷◌, if◌then◌else◌}
use Rattle.std.specs.Prelude.{Option, None, Some, slice_get}
use Rattle.mx_base.specs.declared.numbers.IntKind.{IntKind}
use Rattle.mx_base.specs.declared.numbers.IntKind.TheVariants.{I32, I64, U64}
use Rattle.mx_base.specs.declared.places.Place.{Place}
use Rattle.mx_base.specs.declared.operators.Arithmetic.{Arithmetic}
use Rattle.mx_base.specs.declared.operators.Arithmetic.TheVariants.{Mul, Div, Rem, Add, Sub, Shl, Shr, BitAnd, BitXor, BitOr}
use Rattle.mx_base.specs.declared.operators.Comparison.{Comparison}
use Rattle.mx_base.specs.declared.services.CService.{CService}
use Rattle.mx_base.specs.declared.services.CService.TheVariants as in_c
use Rattle.narrowing.specs.declared.member.Rule.{Rule}
use Rattle.narrowing.specs.declared.member.Rule.TheVariants.{Keep, Meet}
use Rattle.c_tree.specs.declared.operators.UnaryOp.{UnaryOp}
use Rattle.c_tree.specs.declared.operators.UnaryOp.TheVariants as u
use Rattle.c_tree.specs.declared.operators.Logical.{Logical}
use Rattle.c_tree.specs.declared.operators.Logical.TheVariants as l
use Rattle.c_tree.specs.declared.operators.BinaryOp.{BinaryOp}
use Rattle.c_tree.specs.declared.operators.BinaryOp.TheVariants as o
use Rattle.c_types.specs.Types.{CType, Void, StructType}
use Rattle.bounds_plan.specs.meaning.Core.{NumberExpr, Word, Convert, PointerExpr, Arguments}
use Rattle.bounds_plan.specs.laws.Roots.{Names, NamesPtr, NamesAll, NamesEffect}
use Rattle.bounds_plan.specs.elaboration.Types.{Value, Numeric, Address, number_in, pointer_in, Sort, ANumber, APointer, AWhole, NoValue, sort_of, kind_of, step_in, promoted, common, done_in, keeps, converted, right_operand, wanted_pointer, given_as, given, cast_as}
use Rattle.c_check_rules.specs.declared.predeclared.Bind.{Bind}
use Rattle.c_check_rules.specs.declared.predeclared.Bind.TheVariants.{Global, Local, Fun, Service, Builtin as OfBounds}
use Rattle.c_check_rules.specs.declared.predeclared.Builtin.{Builtin}
use Rattle.c_check_rules.specs.declared.predeclared.Builtin.TheVariants as on_bounds
use Rattle.bounds_plan.specs.elaboration.Source.{Reached, Signature, Around}
use Rattle.bounds_plan.specs.elaboration.Places.{Lvalue, NumberVariable, PointerVariable, InMemory, address_in, loaded_as, read_as, stored_as, written_as, changed_at, changed_as, under_rule}
use Rattle.bounds_plan.specs.elaboration.Expressions.{Found, effect_of, no_place, a_place, symbol_of, promoted_number, negative, inverse, is_zero, unary, calculated, arithmetic, compared, logical, binary, chosen_as, assigned, struct_copied, assignment_effect, changed, assign_by, stepped_by, with_argument, arguments_for, called_as, argument_at, number_of_argument, pointer_of_argument, served, built_in, function_called, called, index_rule, index}

module _ (S : ℕ → ℕ → ℕ → Type 0) (F : ℕ → ℕ → Type 0) (P : ℕ → Type 0) where
  abbrev pub NamesValue : Value → Type 0
  NamesValue (Numeric e) = Names S F P e
  NamesValue (Address p) = NamesPtr S F P p

  abbrev pub NamesPlace : Lvalue → Type 0
  NamesPlace (NumberVariable x) = Unit {0}
  NamesPlace (PointerVariable x) = P x
  NamesPlace (InMemory p) = NamesPtr S F P p

  pub record NamesFound (f : Found) : Type 0 where
    pub value : NamesValue f.value
    pub lvalue : NamesPlace f.lvalue
    pub effect : NamesEffect S F P f.effect

  -- ---- values and places

  pub number_names : (v : Value) → NamesValue v → Names S F P (number_in v)
  number_names (Numeric e) h = h
  number_names (Address p) h = h

  pub pointer_names : (v : Value) → NamesValue v → NamesPtr S F P (pointer_in v)
  pointer_names (Numeric e) h = h
  pointer_names (Address p) h = h

  wanted_names : (v : Value) → NamesValue v → NamesPtr S F P (wanted_pointer v)
  wanted_names (Numeric e) h = tt
  wanted_names (Address p) h = h

  pub effect_names : (v : Value) → NamesValue v → NamesEffect S F P (effect_of v)
  effect_names (Numeric e) h = h
  effect_names (Address p) h = h

  kept_or_converted : (b : Bool) (to : IntKind) (e : NumberExpr) → Names S F P e → Names S F P (if b then e else Convert to e)
  kept_or_converted true to e h = h
  kept_or_converted false to e h = h

  converted_names : (from to : IntKind) (e : NumberExpr) → Names S F P e → Names S F P (converted from to e)
  converted_names from to e h = kept_or_converted (keeps from to) to e h

  right_names : (op : Arithmetic) (from to : IntKind) (e : NumberExpr) → Names S F P e → Names S F P (right_operand op from to e)
  right_names Mul from to e h = converted_names from to e h
  right_names Div from to e h = converted_names from to e h
  right_names Rem from to e h = converted_names from to e h
  right_names Add from to e h = converted_names from to e h
  right_names Sub from to e h = converted_names from to e h
  right_names Shl from to e h = h
  right_names Shr from to e h = h
  right_names BitAnd from to e h = converted_names from to e h
  right_names BitXor from to e h = converted_names from to e h
  right_names BitOr from to e h = converted_names from to e h

  given_as_names : (sort : Sort) (from : CType) (v : Value) → NamesValue v → NamesValue (given_as sort from v)
  given_as_names (ANumber kind) from v h = converted_names (kind_of from) kind (number_in v) (number_names v h)
  given_as_names APointer from v h = wanted_names v h
  given_as_names AWhole from v h = h
  given_as_names NoValue from v h = h

  pub given_names : (to from : CType) (v : Value) → NamesValue v → NamesValue (given to from v)
  given_names to from v h = given_as_names (sort_of to) from v h

  pub cast_names : (sort : Sort) (from : CType) (v : Value) → NamesValue v → NamesValue (cast_as sort from v)
  cast_names (ANumber kind) from v h = converted_names (kind_of from) kind (number_in v) (number_names v h)
  cast_names APointer from v h = pointer_names v h
  cast_names AWhole from v h = h
  cast_names NoValue from v h = h

  pub address_names : (l : Lvalue) → NamesPlace l → NamesPtr S F P (address_in l)
  address_names (NumberVariable x) h = tt
  address_names (PointerVariable x) h = tt
  address_names (InMemory p) h = h

  loaded_names : (sort : Sort) (place : Place) (p : PointerExpr) → NamesPtr S F P p → NamesValue (loaded_as sort place p)
  loaded_names (ANumber kind) place p h = h
  loaded_names APointer place p h = h
  loaded_names AWhole place p h = h
  loaded_names NoValue place p h = h

  read_names : (sort : Sort) (place : Place) (l : Lvalue) → NamesPlace l → NamesValue (read_as sort place l)
  read_names sort place (NumberVariable x) h = h
  read_names sort place (PointerVariable x) h = h
  read_names sort place (InMemory p) h = loaded_names sort place p h

  stored_names : (sort : Sort) (place : Place) (p : PointerExpr) (v : Value) → NamesPtr S F P p → NamesValue v → NamesValue (stored_as sort place p v)
  stored_names (ANumber kind) place p v h k = (h, number_names v k)
  stored_names APointer place p v h k = (h, pointer_names v k)
  stored_names AWhole place p v h k = h
  stored_names NoValue place p v h k = h

  pub written_names : (sort : Sort) (place : Place) (l : Lvalue) (v : Value) → NamesPlace l → NamesValue v → NamesValue (written_as sort place l v)
  written_names sort place (NumberVariable x) v h k = number_names v k
  written_names sort place (PointerVariable x) v h k = (h, pointer_names v k)
  written_names sort place (InMemory p) v h k = stored_names sort place p v h k

  changed_at_names : (sort : Sort) (place : Place) (p : PointerExpr) (op : Arithmetic) (from : IntKind) (size : ℕ) (e : NumberExpr) (old : Bool) → NamesPtr S F P p → Names S F P e → NamesValue (changed_at sort place p op from size e old)
  changed_at_names (ANumber kind) place p op from size e old h k = (h, right_names op from (done_in op kind from) e k)
  changed_at_names APointer place p op from size e old h k = (h, k)
  changed_at_names AWhole place p op from size e old h k = h
  changed_at_names NoValue place p op from size e old h k = h

  changed_as_names : (kind : IntKind) (sort : Sort) (place : Place) (l : Lvalue) (op : Arithmetic) (from : IntKind) (size : ℕ) (e : NumberExpr) (old : Bool) → NamesPlace l → Names S F P e → NamesValue (changed_as kind sort place l op from size e old)
  changed_as_names kind sort place (NumberVariable x) op from size e old h k = right_names op from (done_in op kind from) e k
  changed_as_names kind sort place (PointerVariable x) op from size e old h k = (h, k)
  changed_as_names kind sort place (InMemory p) op from size e old h k = changed_at_names sort place p op from size e old h k

  -- ---- what is found

  pub no_place_names : (type : CType) (v : Value) (place : Place) (after : Reached) → NamesValue v → NamesFound (no_place type v place after)
  no_place_names type v place after h = record { value = h; lvalue = pointer_names v h; effect = effect_names v h }

  pub a_place_names : (type : CType) (l : Lvalue) (place : Place) (after : Reached) → NamesPlace l → NamesFound (a_place type l place after)
  a_place_names type l place after h = record { value = read_names (sort_of type) place l h; lvalue = h; effect = effect_names (read_as (sort_of type) place l) (read_names (sort_of type) place l h) }

  -- ---- operators

  promoted_names : (a : Found) → NamesFound a → Names S F P (promoted_number a)
  promoted_names a h = converted_names (kind_of a.type) (promoted (kind_of a.type)) (number_in a.value) (number_names a.value h.value)

  pub unary_names : (op : UnaryOp) (type : CType) (a : Found) (place : Place) (after : Reached) → NamesFound a → NamesFound (unary op type a place after)
  unary_names u.Neg type a place after h = no_place_names type (Numeric (negative a)) place after (promoted_names a h, tt)
  unary_names u.BitNot type a place after h = no_place_names type (Numeric (inverse a)) place after (promoted_names a h, tt)
  unary_names u.Not type a place after h = no_place_names type (Numeric (is_zero a)) place after (number_names a.value h.value, tt)
  unary_names u.Deref type a place after h = a_place_names type (InMemory (pointer_in a.value)) place after (pointer_names a.value h.value)
  unary_names u.AddressOf type a place after h = no_place_names type (Address (address_in a.lvalue)) place after (address_names a.lvalue h.lvalue)

  calculated_names : (op : Arithmetic) (ka kb : IntKind) (a b : NumberExpr) → Names S F P a → Names S F P b → Names S F P (calculated op ka kb a b)
  calculated_names op ka kb a b h k = (converted_names ka (done_in op ka kb) a h, right_names op kb (done_in op ka kb) b k)

  arithmetic_names : (structs : List StructType) (op : Arithmetic) (s t : CType) (v w : Value) → NamesValue v → NamesValue w → NamesValue (arithmetic structs op s t v w)
  arithmetic_names structs op s t (Numeric a) (Numeric b) h k = calculated_names op (kind_of s) (kind_of t) a b h k
  arithmetic_names structs op s t (Address p) (Numeric i) h k = (h, k)
  arithmetic_names structs op s t (Numeric i) (Address p) h k = (h, k)
  arithmetic_names structs op s t (Address p) (Address q) h k = ((h, k), tt)

  compared_names : (op : Comparison) (ka kb : IntKind) (v w : Value) → NamesValue v → NamesValue w → Names S F P (compared op ka kb v w)
  compared_names op ka kb (Numeric a) (Numeric b) h k = (converted_names ka (common ka kb) a h, converted_names kb (common ka kb) b k)
  compared_names op ka kb (Address p) (Numeric b) h k = (h, k)
  compared_names op ka kb (Numeric a) (Address q) h k = (h, k)
  compared_names op ka kb (Address p) (Address q) h k = (h, k)

  logical_names : (op : Logical) (a b : NumberExpr) → Names S F P a → Names S F P b → Names S F P (logical op a b)
  logical_names l.And a b h k = (h, k)
  logical_names l.Or a b h k = (h, k)

  pub binary_names : (op : BinaryOp) (around : Around) (a b : Found) → NamesFound a → NamesFound b → NamesValue (binary op around a b)
  binary_names (o.Arithmetic op) around a b h k = arithmetic_names around.structs op a.type b.type a.value b.value h.value k.value
  binary_names (o.Comparison op) around a b h k = compared_names op (kind_of a.type) (kind_of b.type) a.value b.value h.value k.value
  binary_names (o.Logical op) around a b h k = logical_names op _ _ (number_names a.value h.value) (number_names b.value k.value)

  pub chosen_names : (sort : Sort) (c a b : Found) → NamesFound c → NamesFound a → NamesFound b → NamesValue (chosen_as sort c a b)
  chosen_names (ANumber kind) c a b h k l = (number_names c.value h.value, converted_names (kind_of a.type) kind (number_in a.value) (number_names a.value k.value), converted_names (kind_of b.type) kind (number_in b.value) (number_names b.value l.value))
  chosen_names APointer c a b h k l = (number_names c.value h.value, wanted_names a.value k.value, wanted_names b.value l.value)
  chosen_names AWhole c a b h k l = (number_names c.value h.value, wanted_names a.value k.value, wanted_names b.value l.value)
  chosen_names NoValue c a b h k l = (number_names c.value h.value, wanted_names a.value k.value, wanted_names b.value l.value)

  -- ---- assignments

  assigned_names : (a b : Found) → NamesFound a → NamesFound b → NamesValue (assigned a b)
  assigned_names a b h k = written_names (sort_of a.type) a.place a.lvalue (given a.type b.type b.value) h.lvalue (given_names a.type b.type b.value k.value)

  pub copied_names : (structs : List StructType) (type : CType) (l : Lvalue) (to : Place) (b : Found) → NamesPlace l → NamesFound b → NamesEffect S F P (struct_copied structs type l to b)
  copied_names structs type l to b h k = (address_names l h, address_names b.lvalue k.lvalue)

  assignment_effect_names : (sort : Sort) (structs : List StructType) (a b : Found) → NamesFound a → NamesFound b → NamesEffect S F P (assignment_effect sort structs a b)
  assignment_effect_names (ANumber kind) structs a b h k = effect_names (assigned a b) (assigned_names a b h k)
  assignment_effect_names APointer structs a b h k = effect_names (assigned a b) (assigned_names a b h k)
  assignment_effect_names AWhole structs a b h k = copied_names structs a.type a.lvalue a.place b h.lvalue k
  assignment_effect_names NoValue structs a b h k = effect_names (assigned a b) (assigned_names a b h k)

  changed_names : (structs : List StructType) (op : Arithmetic) (a : Found) (from : IntKind) (e : NumberExpr) (old : Bool) → NamesFound a → Names S F P e → NamesValue (changed structs op a from e old)
  changed_names structs op a from e old h k = changed_as_names (kind_of a.type) (sort_of a.type) a.place a.lvalue op from (step_in structs a.type) e old h.lvalue k

  pub assign_names : (op : Option Arithmetic) (around : Around) (a b : Found) (place : Place) (after : Reached) → NamesFound a → NamesFound b → NamesFound (assign_by op around a b place after)
  assign_names None around a b place after h k = record { value = assigned_names a b h k; lvalue = pointer_names (assigned a b) (assigned_names a b h k); effect = assignment_effect_names (sort_of a.type) around.structs a b h k }
  assign_names (Some op) around a b place after h k = no_place_names a.type (changed around.structs op a (kind_of b.type) (number_in b.value) false) place after
      (changed_names around.structs op a (kind_of b.type) (number_in b.value) false h (number_names b.value k.value))

  pub stepped_names : (around : Around) (up before : Bool) (a : Found) (place : Place) (after : Reached) → NamesFound a → NamesFound (stepped_by around up before a place after)
  stepped_names around up before a place after h = no_place_names a.type _ place after (changed_names around.structs (if up then Add else Sub) a I32 (Word 1) (not before) h tt)

  -- ---- calls

  abbrev pub AllFound_name : List Found → Type 0
  AllFound_name [] = Unit {0}
  AllFound_name (a ∷ more) = NamesFound a × AllFound_name more

  with_names : (v : Value) (rest : Arguments) → NamesValue v → NamesAll S F P rest → NamesAll S F P (with_argument v rest)
  with_names (Numeric e) rest h k = (h, k)
  with_names (Address p) rest h k = (h, k)

  arguments_name : (types : List CType) (all : List Found) → AllFound_name all → NamesAll S F P (arguments_for types all)
  arguments_name [] all h = tt
  arguments_name (t ∷ ts) [] h = with_names (given t Void (Numeric (Word 0))) (arguments_for ts []) (given_names t Void (Numeric (Word 0)) tt) (arguments_name ts [] tt)
  arguments_name (t ∷ ts) (a ∷ more) h = with_names (given t a.type a.value) (arguments_for ts more) (given_names t a.type a.value h.0.value) (arguments_name ts more h.1)

  called_as_names : (sort : Sort) (symbol : ℕ) (args : Arguments) → NamesAll S F P args → NamesValue (called_as sort symbol args)
  called_as_names (ANumber kind) symbol args h = h
  called_as_names APointer symbol args h = h
  called_as_names AWhole symbol args h = h
  called_as_names NoValue symbol args h = h

  function_called_names : (around : Around) (type : CType) (number : ℕ) (o : Option Signature) (all : List Found) → AllFound_name all → NamesValue (function_called around type number o all)
  function_called_names around type number None all h = tt
  function_called_names around type number (Some s) all h = called_as_names (sort_of type) (symbol_of around number) (arguments_for s.parameters all) (arguments_name s.parameters all h)

  argument_names : (n : ℕ) (all : List Found) → AllFound_name all → NamesFound (argument_at n all)
  argument_names n [] h = record { value = tt; lvalue = tt; effect = tt }
  argument_names zero (a ∷ more) h = h.0
  argument_names (suc n) (a ∷ more) h = argument_names n more h.1

  number_argument_names : (kind : IntKind) (n : ℕ) (all : List Found) → AllFound_name all → Names S F P (number_of_argument kind n all)
  number_argument_names kind n all h = converted_names (kind_of (argument_at n all).type) kind (number_in (argument_at n all).value) (number_names (argument_at n all).value (argument_names n all h).value)

  pointer_argument_names : (n : ℕ) (all : List Found) → AllFound_name all → NamesPtr S F P (pointer_of_argument n all)
  pointer_argument_names n all h = wanted_names (argument_at n all).value (argument_names n all h).value

  served_names : (service : CService) (all : List Found) → AllFound_name all → NamesValue (served service all)
  served_names in_c.Print all h = number_argument_names I64 0 all h
  served_names in_c.Put all h = number_argument_names I32 0 all h
  served_names in_c.Get all h = tt
  served_names in_c.Alloc all h = number_argument_names U64 0 all h
  served_names in_c.Free all h = pointer_argument_names 0 all h
  served_names in_c.Exit all h = number_argument_names I32 0 all h

  built_in_names : (builtin : Builtin) (all : List Found) → AllFound_name all → NamesPtr S F P (built_in builtin all)
  built_in_names on_bounds.SetBounds all h = (pointer_argument_names 0 all h, number_argument_names U64 1 all h)
  built_in_names on_bounds.NarrowBounds all h = (pointer_argument_names 0 all h, pointer_argument_names 1 all h, number_argument_names U64 2 all h)
  built_in_names on_bounds.CopyBounds all h = (pointer_argument_names 0 all h, pointer_argument_names 1 all h)
  built_in_names on_bounds.InitBounds all h = pointer_argument_names 0 all h
  built_in_names on_bounds.LowerBound all h = pointer_argument_names 0 all h
  built_in_names on_bounds.UpperBound all h = pointer_argument_names 0 all h

  pub called_names : (around : Around) (type : CType) (m : Bind) (all : List Found) → AllFound_name all → NamesValue (called around type m all)
  called_names around type (Fun number) all h = function_called_names around type number (slice_get around.signatures number) all h
  called_names around type (Service service) all h = served_names service all h
  called_names around type (OfBounds builtin) all h = built_in_names builtin all h
  called_names around type (Global number) all h = tt
  called_names around type (Local number) all h = tt

  -- ---- elements

  rule_names : (rule : Rule) (p : PointerExpr) → NamesPtr S F P p → NamesPtr S F P (under_rule rule p)
  rule_names Keep p h = h
  rule_names (Meet offset size) p h = h

  pub index_names : (around : Around) (type : CType) (a i : Found) → NamesFound a → NamesFound i → NamesPlace (index around type a i)
  index_names around type a i h k = rule_names (index_rule around type a) _ (pointer_names a.value h.value, number_names i.value k.value)
