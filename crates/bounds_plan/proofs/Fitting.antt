-- What a source is elaborated to names private values of the right sort and gives each call as many arguments as its symbol takes.
use Rattle.std.proofs.Common.{◌≡◌, ℕ, zero, suc, not, Bool, true, false, refl, List, [], ◌∷◌, map, length, if◌then◌else◌, ap, sym, ◌∙◌}
use Rattle.std.specs.Prelude.{Option, None, Some, slice_get}
use Rattle.mx_base.specs.declared.numbers.IntKind.{IntKind}
use Rattle.mx_base.specs.declared.numbers.IntKind.TheVariants.{I32, I64, U64}
use Rattle.mx_base.specs.declared.places.Place.{Place}
use Rattle.mx_base.specs.declared.operators.Arithmetic.{Arithmetic}
use Rattle.mx_base.specs.declared.operators.Arithmetic.TheVariants.{Mul, Div, Rem, Add, Sub, Shl, Shr, BitAnd, BitXor, BitOr}
use Rattle.mx_base.specs.declared.operators.Comparison.{Comparison}
use Rattle.mx_base.specs.declared.services.CService.{CService}
use Rattle.mx_base.specs.declared.services.CService.TheVariants as in_c
use Rattle.narrowing.specs.declared.member.Rule.{Rule}
use Rattle.narrowing.specs.declared.member.Rule.TheVariants.{Keep, Meet}
use Rattle.c_tree.specs.declared.operators.UnaryOp.{UnaryOp}
use Rattle.c_tree.specs.declared.operators.UnaryOp.TheVariants as u
use Rattle.c_tree.specs.declared.operators.Logical.{Logical}
use Rattle.c_tree.specs.declared.operators.Logical.TheVariants as l
use Rattle.c_tree.specs.declared.operators.BinaryOp.{BinaryOp}
use Rattle.c_tree.specs.declared.operators.BinaryOp.TheVariants as o
use Rattle.c_tree.specs.declared.tree.ExprKind.{ExprKind-F}
use Rattle.c_tree.specs.declared.tree.ExprKind.TheOpen as e
use Rattle.c_tree.specs.declared.tree.Expr.{Expr}
use Rattle.c_types.specs.Types.{CType, Void, StructType}
use Rattle.bounds_plan.specs.meaning.Core.{NumberExpr, Word, Convert, PointerExpr, Arguments}
use Rattle.bounds_plan.specs.steps.Follows.{count, IsNumber, IsPointer, Fits, FitsPtr, FitsAll, FitsEffect}
use Rattle.bounds_plan.specs.elaboration.Types.{Value, Numeric, Address, number_in, pointer_in, Sort, ANumber, APointer, AWhole, NoValue, sort_of, kind_of, step_in, promoted, common, done_in, keeps, converted, right_operand, wanted_pointer, given_as, given, cast_as}
use Rattle.c_check_rules.specs.declared.predeclared.Bind.{Bind}
use Rattle.c_check_rules.specs.declared.predeclared.Bind.TheVariants.{Global, Local, Fun, Service, Builtin as OfBounds}
use Rattle.c_check_rules.specs.declared.predeclared.Builtin.{Builtin}
use Rattle.c_check_rules.specs.declared.predeclared.Builtin.TheVariants as on_bounds
use Rattle.bounds_plan.specs.elaboration.Source.{Reached, Signature, Around, kind_at, bind_at}
use Rattle.bounds_plan.specs.elaboration.Places.{Lvalue, NumberVariable, PointerVariable, InMemory, address_in, loaded_as, read_as, stored_as, written_as, changed_at, changed_as, variable_of, under_rule}
use Rattle.bounds_plan.specs.elaboration.Expressions.{Found, Reading, effect_of, no_place, a_place, symbol_of, named, promoted_number, negative, inverse, is_zero, unary, calculated, arithmetic, compared, logical, binary, chosen_as, assigned, struct_copied, assignment_effect, changed, assign_by, stepped_by, find_all, with_argument, arguments_for, called_as, argument_at, number_of_argument, pointer_of_argument, served, built_in, function_called, called, member, arrow, index_rule, index, step, expression}
use Rattle.c_tree.proofs.Inductions.{ExprA, ExprB, bare_exprs, every_exprs}

module _ (private : ℕ) (is_bounds : ℕ → Bool) (takes : ℕ → ℕ) where
  abbrev pub FitsValue : Value → Type 0
  FitsValue (Numeric e) = Fits private is_bounds takes e
  FitsValue (Address p) = FitsPtr private is_bounds takes p

  abbrev pub FitsPlace : Lvalue → Type 0
  FitsPlace (NumberVariable x) = IsNumber private is_bounds x
  FitsPlace (PointerVariable x) = IsPointer private is_bounds x
  FitsPlace (InMemory p) = FitsPtr private is_bounds takes p

  pub record FitsFound (f : Found) : Type 0 where
    pub value : FitsValue f.value
    pub lvalue : FitsPlace f.lvalue
    pub effect : FitsEffect private is_bounds takes f.effect

  pub record Ready (around : Around) : Type 0 where
    pub variables : (number : ℕ) → FitsPlace (variable_of around.structs around.variables around.stands 0 number)
    pub calls : (number : ℕ) (s : Signature) → slice_get around.signatures number ≡ Some s → takes (symbol_of around number) ≡ length s.parameters

  abbrev pub Good : Reading → Type 0
  Good read = (around : Around) → Ready around → (r : Reached) → FitsFound (read around r)

  abbrev pub GoodAt : (Place → Reading) → Type 0
  GoodAt read = (place : Place) → Good (read place)

  -- ---- values and places

  number_fits : (v : Value) → FitsValue v → Fits private is_bounds takes (number_in v)
  number_fits (Numeric e) h = h
  number_fits (Address p) h = h

  pointer_fits : (v : Value) → FitsValue v → FitsPtr private is_bounds takes (pointer_in v)
  pointer_fits (Numeric e) h = h
  pointer_fits (Address p) h = h

  wanted_fits : (v : Value) → FitsValue v → FitsPtr private is_bounds takes (wanted_pointer v)
  wanted_fits (Numeric e) h = tt
  wanted_fits (Address p) h = h

  pub effect_fits : (v : Value) → FitsValue v → FitsEffect private is_bounds takes (effect_of v)
  effect_fits (Numeric e) h = h
  effect_fits (Address p) h = h

  kept_or_converted : (b : Bool) (to : IntKind) (e : NumberExpr) → Fits private is_bounds takes e → Fits private is_bounds takes (if b then e else Convert to e)
  kept_or_converted true to e h = h
  kept_or_converted false to e h = h

  converted_fits : (from to : IntKind) (e : NumberExpr) → Fits private is_bounds takes e → Fits private is_bounds takes (converted from to e)
  converted_fits from to e h = kept_or_converted (keeps from to) to e h

  right_fits : (op : Arithmetic) (from to : IntKind) (e : NumberExpr) → Fits private is_bounds takes e → Fits private is_bounds takes (right_operand op from to e)
  right_fits Mul from to e h = converted_fits from to e h
  right_fits Div from to e h = converted_fits from to e h
  right_fits Rem from to e h = converted_fits from to e h
  right_fits Add from to e h = converted_fits from to e h
  right_fits Sub from to e h = converted_fits from to e h
  right_fits Shl from to e h = h
  right_fits Shr from to e h = h
  right_fits BitAnd from to e h = converted_fits from to e h
  right_fits BitXor from to e h = converted_fits from to e h
  right_fits BitOr from to e h = converted_fits from to e h

  given_as_fits : (sort : Sort) (from : CType) (v : Value) → FitsValue v → FitsValue (given_as sort from v)
  given_as_fits (ANumber kind) from v h = converted_fits (kind_of from) kind (number_in v) (number_fits v h)
  given_as_fits APointer from v h = wanted_fits v h
  given_as_fits AWhole from v h = h
  given_as_fits NoValue from v h = h

  pub given_fits : (to from : CType) (v : Value) → FitsValue v → FitsValue (given to from v)
  given_fits to from v h = given_as_fits (sort_of to) from v h

  cast_fits : (sort : Sort) (from : CType) (v : Value) → FitsValue v → FitsValue (cast_as sort from v)
  cast_fits (ANumber kind) from v h = converted_fits (kind_of from) kind (number_in v) (number_fits v h)
  cast_fits APointer from v h = pointer_fits v h
  cast_fits AWhole from v h = h
  cast_fits NoValue from v h = h

  pub address_fits : (l : Lvalue) → FitsPlace l → FitsPtr private is_bounds takes (address_in l)
  address_fits (NumberVariable x) h = tt
  address_fits (PointerVariable x) h = tt
  address_fits (InMemory p) h = h

  loaded_fits : (sort : Sort) (place : Place) (p : PointerExpr) → FitsPtr private is_bounds takes p → FitsValue (loaded_as sort place p)
  loaded_fits (ANumber kind) place p h = h
  loaded_fits APointer place p h = h
  loaded_fits AWhole place p h = h
  loaded_fits NoValue place p h = h

  read_fits : (sort : Sort) (place : Place) (l : Lvalue) → FitsPlace l → FitsValue (read_as sort place l)
  read_fits sort place (NumberVariable x) h = h
  read_fits sort place (PointerVariable x) h = h
  read_fits sort place (InMemory p) h = loaded_fits sort place p h

  stored_fits : (sort : Sort) (place : Place) (p : PointerExpr) (v : Value) → FitsPtr private is_bounds takes p → FitsValue v → FitsValue (stored_as sort place p v)
  stored_fits (ANumber kind) place p v h k = (h, number_fits v k)
  stored_fits APointer place p v h k = (h, pointer_fits v k)
  stored_fits AWhole place p v h k = h
  stored_fits NoValue place p v h k = h

  pub written_fits : (sort : Sort) (place : Place) (l : Lvalue) (v : Value) → FitsPlace l → FitsValue v → FitsValue (written_as sort place l v)
  written_fits sort place (NumberVariable x) v h k = (h, number_fits v k)
  written_fits sort place (PointerVariable x) v h k = (h, pointer_fits v k)
  written_fits sort place (InMemory p) v h k = stored_fits sort place p v h k

  changed_at_fits : (sort : Sort) (place : Place) (p : PointerExpr) (op : Arithmetic) (from : IntKind) (size : ℕ) (e : NumberExpr) (old : Bool) → FitsPtr private is_bounds takes p → Fits private is_bounds takes e → FitsValue (changed_at sort place p op from size e old)
  changed_at_fits (ANumber kind) place p op from size e old h k = (h, right_fits op from (done_in op kind from) e k)
  changed_at_fits APointer place p op from size e old h k = (h, k)
  changed_at_fits AWhole place p op from size e old h k = h
  changed_at_fits NoValue place p op from size e old h k = h

  changed_as_fits : (kind : IntKind) (sort : Sort) (place : Place) (l : Lvalue) (op : Arithmetic) (from : IntKind) (size : ℕ) (e : NumberExpr) (old : Bool) → FitsPlace l → Fits private is_bounds takes e → FitsValue (changed_as kind sort place l op from size e old)
  changed_as_fits kind sort place (NumberVariable x) op from size e old h k = (h, right_fits op from (done_in op kind from) e k)
  changed_as_fits kind sort place (PointerVariable x) op from size e old h k = (h, k)
  changed_as_fits kind sort place (InMemory p) op from size e old h k = changed_at_fits sort place p op from size e old h k

  -- ---- what is found

  no_place_fits : (type : CType) (v : Value) (place : Place) (after : Reached) → FitsValue v → FitsFound (no_place type v place after)
  no_place_fits type v place after h = record { value = h; lvalue = pointer_fits v h; effect = effect_fits v h }

  a_place_fits : (type : CType) (l : Lvalue) (place : Place) (after : Reached) → FitsPlace l → FitsFound (a_place type l place after)
  a_place_fits type l place after h = record { value = read_fits (sort_of type) place l h; lvalue = h; effect = effect_fits (read_as (sort_of type) place l) (read_fits (sort_of type) place l h) }

  named_fits : (around : Around) → Ready around → (type : CType) (m : Bind) (place : Place) (after : Reached) → FitsFound (named around type m place after)
  named_fits around ready type (Global number) place after = a_place_fits type _ place after tt
  named_fits around ready type (Local number) place after = a_place_fits type (variable_of around.structs around.variables around.stands 0 number) place after (ready.variables number)
  named_fits around ready type (Fun number) place after = no_place_fits type _ place after tt
  named_fits around ready type (Service service) place after = no_place_fits type _ place after tt
  named_fits around ready type (OfBounds builtin) place after = no_place_fits type _ place after tt

  -- ---- operators

  promoted_fits : (a : Found) → FitsFound a → Fits private is_bounds takes (promoted_number a)
  promoted_fits a h = converted_fits (kind_of a.type) (promoted (kind_of a.type)) (number_in a.value) (number_fits a.value h.value)

  unary_fits : (op : UnaryOp) (type : CType) (a : Found) (place : Place) (after : Reached) → FitsFound a → FitsFound (unary op type a place after)
  unary_fits u.Neg type a place after h = no_place_fits type (Numeric (negative a)) place after (promoted_fits a h, tt)
  unary_fits u.BitNot type a place after h = no_place_fits type (Numeric (inverse a)) place after (promoted_fits a h, tt)
  unary_fits u.Not type a place after h = no_place_fits type (Numeric (is_zero a)) place after (number_fits a.value h.value, tt)
  unary_fits u.Deref type a place after h = a_place_fits type (InMemory (pointer_in a.value)) place after (pointer_fits a.value h.value)
  unary_fits u.AddressOf type a place after h = no_place_fits type (Address (address_in a.lvalue)) place after (address_fits a.lvalue h.lvalue)

  calculated_fits : (op : Arithmetic) (ka kb : IntKind) (a b : NumberExpr) → Fits private is_bounds takes a → Fits private is_bounds takes b → Fits private is_bounds takes (calculated op ka kb a b)
  calculated_fits op ka kb a b h k = (converted_fits ka (done_in op ka kb) a h, right_fits op kb (done_in op ka kb) b k)

  arithmetic_fits : (structs : List StructType) (op : Arithmetic) (s t : CType) (v w : Value) → FitsValue v → FitsValue w → FitsValue (arithmetic structs op s t v w)
  arithmetic_fits structs op s t (Numeric a) (Numeric b) h k = calculated_fits op (kind_of s) (kind_of t) a b h k
  arithmetic_fits structs op s t (Address p) (Numeric i) h k = (h, k)
  arithmetic_fits structs op s t (Numeric i) (Address p) h k = (h, k)
  arithmetic_fits structs op s t (Address p) (Address q) h k = ((h, k), tt)

  compared_fits : (op : Comparison) (ka kb : IntKind) (v w : Value) → FitsValue v → FitsValue w → Fits private is_bounds takes (compared op ka kb v w)
  compared_fits op ka kb (Numeric a) (Numeric b) h k = (converted_fits ka (common ka kb) a h, converted_fits kb (common ka kb) b k)
  compared_fits op ka kb (Address p) (Numeric b) h k = (h, k)
  compared_fits op ka kb (Numeric a) (Address q) h k = (h, k)
  compared_fits op ka kb (Address p) (Address q) h k = (h, k)

  logical_fits : (op : Logical) (a b : NumberExpr) → Fits private is_bounds takes a → Fits private is_bounds takes b → Fits private is_bounds takes (logical op a b)
  logical_fits l.And a b h k = (h, k)
  logical_fits l.Or a b h k = (h, k)

  binary_fits : (op : BinaryOp) (around : Around) (a b : Found) → FitsFound a → FitsFound b → FitsValue (binary op around a b)
  binary_fits (o.Arithmetic op) around a b h k = arithmetic_fits around.structs op a.type b.type a.value b.value h.value k.value
  binary_fits (o.Comparison op) around a b h k = compared_fits op (kind_of a.type) (kind_of b.type) a.value b.value h.value k.value
  binary_fits (o.Logical op) around a b h k = logical_fits op _ _ (number_fits a.value h.value) (number_fits b.value k.value)

  chosen_fits : (sort : Sort) (c a b : Found) → FitsFound c → FitsFound a → FitsFound b → FitsValue (chosen_as sort c a b)
  chosen_fits (ANumber kind) c a b h k l = (number_fits c.value h.value, converted_fits (kind_of a.type) kind (number_in a.value) (number_fits a.value k.value), converted_fits (kind_of b.type) kind (number_in b.value) (number_fits b.value l.value))
  chosen_fits APointer c a b h k l = (number_fits c.value h.value, wanted_fits a.value k.value, wanted_fits b.value l.value)
  chosen_fits AWhole c a b h k l = (number_fits c.value h.value, wanted_fits a.value k.value, wanted_fits b.value l.value)
  chosen_fits NoValue c a b h k l = (number_fits c.value h.value, wanted_fits a.value k.value, wanted_fits b.value l.value)

  -- ---- assignments

  assigned_fits : (a b : Found) → FitsFound a → FitsFound b → FitsValue (assigned a b)
  assigned_fits a b h k = written_fits (sort_of a.type) a.place a.lvalue (given a.type b.type b.value) h.lvalue (given_fits a.type b.type b.value k.value)

  pub copied_fits : (structs : List StructType) (type : CType) (l : Lvalue) (to : Place) (b : Found) → FitsPlace l → FitsFound b → FitsEffect private is_bounds takes (struct_copied structs type l to b)
  copied_fits structs type l to b h k = (address_fits l h, address_fits b.lvalue k.lvalue)

  assignment_effect_fits : (sort : Sort) (structs : List StructType) (a b : Found) → FitsFound a → FitsFound b → FitsEffect private is_bounds takes (assignment_effect sort structs a b)
  assignment_effect_fits (ANumber kind) structs a b h k = effect_fits (assigned a b) (assigned_fits a b h k)
  assignment_effect_fits APointer structs a b h k = effect_fits (assigned a b) (assigned_fits a b h k)
  assignment_effect_fits AWhole structs a b h k = copied_fits structs a.type a.lvalue a.place b h.lvalue k
  assignment_effect_fits NoValue structs a b h k = effect_fits (assigned a b) (assigned_fits a b h k)

  changed_fits : (structs : List StructType) (op : Arithmetic) (a : Found) (from : IntKind) (e : NumberExpr) (old : Bool) → FitsFound a → Fits private is_bounds takes e → FitsValue (changed structs op a from e old)
  changed_fits structs op a from e old h k = changed_as_fits (kind_of a.type) (sort_of a.type) a.place a.lvalue op from (step_in structs a.type) e old h.lvalue k

  assign_fits : (op : Option Arithmetic) (around : Around) (a b : Found) (place : Place) (after : Reached) → FitsFound a → FitsFound b → FitsFound (assign_by op around a b place after)
  assign_fits None around a b place after h k = record { value = assigned_fits a b h k; lvalue = pointer_fits (assigned a b) (assigned_fits a b h k); effect = assignment_effect_fits (sort_of a.type) around.structs a b h k }
  assign_fits (Some op) around a b place after h k = no_place_fits a.type (changed around.structs op a (kind_of b.type) (number_in b.value) false) place after
      (changed_fits around.structs op a (kind_of b.type) (number_in b.value) false h (number_fits b.value k.value))

  stepped_fits : (around : Around) (up before : Bool) (a : Found) (place : Place) (after : Reached) → FitsFound a → FitsFound (stepped_by around up before a place after)
  stepped_fits around up before a place after h = no_place_fits a.type _ place after (changed_fits around.structs (if up then Add else Sub) a I32 (Word 1) (not before) h tt)

  -- ---- calls

  pub AllFound_fit : List Found → Type 0
  AllFound_fit [] = Unit {0}
  AllFound_fit (a ∷ more) = FitsFound a × AllFound_fit more

  found_all_fit : (all : List ((b : Reading) × Good b)) (around : Around) → Ready around → (r : Reached) → AllFound_fit (find_all (map (λ y. y.0) all) around r).all
  unfolding AllFound_fit
  found_all_fit [] around ready r = tt
  found_all_fit (a ∷ more) around ready r = (a.1 around ready r, found_all_fit more around ready (a.0 around r).after)

  with_fits : (v : Value) (rest : Arguments) → FitsValue v → FitsAll private is_bounds takes rest → FitsAll private is_bounds takes (with_argument v rest)
  with_fits (Numeric e) rest h k = (h, k)
  with_fits (Address p) rest h k = (h, k)

  with_counts : (v : Value) (rest : Arguments) → count (with_argument v rest) ≡ suc (count rest)
  with_counts (Numeric e) rest = refl
  with_counts (Address p) rest = refl

  arguments_fit : (types : List CType) (all : List Found) → AllFound_fit all → FitsAll private is_bounds takes (arguments_for types all)
  unfolding AllFound_fit
  arguments_fit [] all h = tt
  arguments_fit (t ∷ ts) [] h = with_fits (given t Void (Numeric (Word 0))) (arguments_for ts []) (given_fits t Void (Numeric (Word 0)) tt) (arguments_fit ts [] tt)
  arguments_fit (t ∷ ts) (a ∷ more) h = with_fits (given t a.type a.value) (arguments_for ts more) (given_fits t a.type a.value h.0.value) (arguments_fit ts more h.1)

  arguments_count : (types : List CType) (all : List Found) → count (arguments_for types all) ≡ length types
  arguments_count [] all = refl
  arguments_count (t ∷ ts) [] = with_counts (given t Void (Numeric (Word 0))) (arguments_for ts []) ∙ ap suc (arguments_count ts [])
  arguments_count (t ∷ ts) (a ∷ more) = with_counts (given t a.type a.value) (arguments_for ts more) ∙ ap suc (arguments_count ts more)

  called_as_fits : (sort : Sort) (symbol : ℕ) (args : Arguments) → count args ≡ takes symbol → FitsAll private is_bounds takes args → FitsValue (called_as sort symbol args)
  called_as_fits (ANumber kind) symbol args h k = (h, k)
  called_as_fits APointer symbol args h k = (h, k)
  called_as_fits AWhole symbol args h k = (h, k)
  called_as_fits NoValue symbol args h k = (h, k)

  function_called_fits : (around : Around) (type : CType) (number : ℕ) (o : Option Signature) (all : List Found) → ((s : Signature) → o ≡ Some s → takes (symbol_of around number) ≡ length s.parameters) → AllFound_fit all → FitsValue (function_called around type number o all)
  function_called_fits around type number None all so h = tt
  function_called_fits around type number (Some s) all so h = called_as_fits (sort_of type) (symbol_of around number) (arguments_for s.parameters all)
      (arguments_count s.parameters all ∙ sym (so s refl)) (arguments_fit s.parameters all h)

  argument_fits : (n : ℕ) (all : List Found) → AllFound_fit all → FitsFound (argument_at n all)
  unfolding AllFound_fit
  argument_fits n [] h = record { value = tt; lvalue = tt; effect = tt }
  argument_fits zero (a ∷ more) h = h.0
  argument_fits (suc n) (a ∷ more) h = argument_fits n more h.1

  number_argument_fits : (kind : IntKind) (n : ℕ) (all : List Found) → AllFound_fit all → Fits private is_bounds takes (number_of_argument kind n all)
  number_argument_fits kind n all h = converted_fits (kind_of (argument_at n all).type) kind (number_in (argument_at n all).value) (number_fits (argument_at n all).value (argument_fits n all h).value)

  pointer_argument_fits : (n : ℕ) (all : List Found) → AllFound_fit all → FitsPtr private is_bounds takes (pointer_of_argument n all)
  pointer_argument_fits n all h = wanted_fits (argument_at n all).value (argument_fits n all h).value

  served_fits : (service : CService) (all : List Found) → AllFound_fit all → FitsValue (served service all)
  served_fits in_c.Print all h = number_argument_fits I64 0 all h
  served_fits in_c.Put all h = number_argument_fits I32 0 all h
  served_fits in_c.Get all h = tt
  served_fits in_c.Alloc all h = number_argument_fits U64 0 all h
  served_fits in_c.Free all h = pointer_argument_fits 0 all h
  served_fits in_c.Exit all h = number_argument_fits I32 0 all h

  built_in_fits : (builtin : Builtin) (all : List Found) → AllFound_fit all → FitsPtr private is_bounds takes (built_in builtin all)
  built_in_fits on_bounds.SetBounds all h = (pointer_argument_fits 0 all h, number_argument_fits U64 1 all h)
  built_in_fits on_bounds.NarrowBounds all h = (pointer_argument_fits 0 all h, pointer_argument_fits 1 all h, number_argument_fits U64 2 all h)
  built_in_fits on_bounds.CopyBounds all h = (pointer_argument_fits 0 all h, pointer_argument_fits 1 all h)
  built_in_fits on_bounds.InitBounds all h = pointer_argument_fits 0 all h
  built_in_fits on_bounds.LowerBound all h = pointer_argument_fits 0 all h
  built_in_fits on_bounds.UpperBound all h = pointer_argument_fits 0 all h

  called_fits : (around : Around) → Ready around → (type : CType) (m : Bind) (all : List Found) → AllFound_fit all → FitsValue (called around type m all)
  called_fits around ready type (Fun number) all h = function_called_fits around type number (slice_get around.signatures number) all (ready.calls number) h
  called_fits around ready type (Service service) all h = served_fits service all h
  called_fits around ready type (OfBounds builtin) all h = built_in_fits builtin all h
  called_fits around ready type (Global number) all h = tt
  called_fits around ready type (Local number) all h = tt

  -- ---- elements

  rule_fits : (rule : Rule) (p : PointerExpr) → FitsPtr private is_bounds takes p → FitsPtr private is_bounds takes (under_rule rule p)
  rule_fits Keep p h = h
  rule_fits (Meet offset size) p h = h

  index_fits : (around : Around) (type : CType) (a i : Found) → FitsFound a → FitsFound i → FitsPlace (index around type a i)
  index_fits around type a i h k = rule_fits (index_rule around type a) _ (pointer_fits a.value h.value, number_fits i.value k.value)

  -- ---- expressions
  abbrev bare : ExprKind-F (ExprA (Place → Reading) Reading step (λ x. x.kind x.place) GoodAt Good) (ExprB (Place → Reading) Reading step (λ x. x.kind x.place) GoodAt Good) → ExprKind-F (Place → Reading) Reading
  bare = bare_exprs (Place → Reading) Reading step (λ x. x.kind x.place) GoodAt Good

  step_fits : (y : ExprKind-F (ExprA (Place → Reading) Reading step (λ x. x.kind x.place) GoodAt Good) (ExprB (Place → Reading) Reading step (λ x. x.kind x.place) GoodAt Good)) → GoodAt (step (bare y))
  step_fits (e.Number n kind) place around ready r = no_place_fits (kind_at around r) (Numeric (Word n)) place _ tt
  step_fits (e.Text bytes) place around ready r = record { value = tt; lvalue = tt; effect = tt }
  step_fits (e.Var name) place around ready r = named_fits around ready (kind_at around r) (bind_at around r) place _
  step_fits (e.Unary op a) place around ready r = unary_fits op _ (a.0 around r) place _ (a.1 around ready r)
  step_fits (e.Binary op a c) place around ready r = no_place_fits _ (binary op around (a.0 around r) (c.0 around (a.0 around r).after)) place _
      (binary_fits op around (a.0 around r) (c.0 around (a.0 around r).after) (a.1 around ready r) (c.1 around ready (a.0 around r).after))
  step_fits (e.Assign op a c) place around ready r = assign_fits op around (a.0 around r) (c.0 around (a.0 around r).after) place _ (a.1 around ready r) (c.1 around ready (a.0 around r).after)
  step_fits (e.StepBy up before a) place around ready r = stepped_fits around up before (a.0 around r) place _ (a.1 around ready r)
  step_fits (e.Cond c a d) place around ready r = let x = c.0 around r in let y = a.0 around x.after in let z = d.0 around y.after in
      no_place_fits (kind_at around z.after) (chosen_as (sort_of (kind_at around z.after)) x y z) place _ (chosen_fits (sort_of (kind_at around z.after)) x y z (c.1 around ready r) (a.1 around ready x.after) (d.1 around ready y.after))
  step_fits (e.Call name all) place around ready r = let xs = find_all (map (λ y. y.0) all) around r in
      no_place_fits (kind_at around xs.after) (called around (kind_at around xs.after) (bind_at around xs.after) xs.all) place _ (called_fits around ready (kind_at around xs.after) (bind_at around xs.after) xs.all (found_all_fit all around ready r))
  step_fits (e.Index a i) place around ready r = let x = a.0 around r in let y = i.0 around x.after in
      a_place_fits (kind_at around y.after) (index around (kind_at around y.after) x y) place _ (index_fits around (kind_at around y.after) x y (a.1 around ready r) (i.1 around ready x.after))
  step_fits (e.Member a name) place around ready r = let x = a.0 around r in a_place_fits (kind_at around x.after) (member around (kind_at around x.after) x name) place _ (pointer_fits x.value (a.1 around ready r).value)
  step_fits (e.Arrow a name) place around ready r = let x = a.0 around r in a_place_fits (kind_at around x.after) (arrow around (kind_at around x.after) x name) place _ (pointer_fits x.value (a.1 around ready r).value)
  step_fits (e.Cast base stars a) place around ready r = let x = a.0 around r in no_place_fits (kind_at around x.after) _ place _ (cast_fits (sort_of (kind_at around x.after)) x.type x.value (a.1 around ready r).value)
  step_fits (e.SizeOfKind base stars) place around ready r = no_place_fits _ _ place _ tt
  step_fits (e.SizeOfValue a) place around ready r = no_place_fits _ _ place _ tt

  pub expressions_fit : (x : Expr) → Good (expression x)
  expressions_fit x = every_exprs (Place → Reading) Reading step (λ x. x.kind x.place) GoodAt Good step_fits (λ y. y.kind.1 y.place) x
