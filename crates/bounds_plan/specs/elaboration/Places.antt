-- Places: what can be read, assigned to, or have its address taken; and the addresses of variables, members and elements.
use Rattle.std.specs.Prelude.{ℕ, zero, suc, ◌+◌, ◌==◌, ◌&&◌, Bool, true, false, List, [], ◌∷◌, ◌++◌, length, map, slice_index, slice_index_or}
use Rattle.std.specs.List.{position_or_len}
use Rattle.std.specs.Str.{bytes_eq}
use Rattle.mx_base.specs.declared.numbers.IntKind.{IntKind}
use Rattle.mx_base.specs.declared.places.Place.{Place}
use Rattle.mx_base.specs.declared.settings.Flags.{Flags}
use Rattle.mx_base.specs.declared.operators.Arithmetic.{Arithmetic}
use Rattle.narrowing.specs.declared.member.Rule.{Rule}
use Rattle.narrowing.specs.declared.member.Rule.TheVariants.{Keep, Meet}
use Rattle.narrowing.specs.Member.{member_rule}
use Rattle.c_types.specs.Types.{CType, Void, Int, Pointer, Array, Struct, StructType, members_of}
use Rattle.c_types.specs.Layouts.{layout_of, offsets_from}
use Rattle.bounds_plan.specs.meaning.Core.{NumberExpr, Variable, Assign, Load, Store, Update, UpdateAt, PointerExpr, Null, InFrame, VariablePtr, AssignPtr, Member, Element, ElementAfter, LoadPtr, StorePtr, Advance, AdvanceAt}
use Rattle.bounds_plan.specs.elaboration.Types.{Value, Numeric, Address, number_in, pointer_in, Sort, ANumber, APointer, AWhole, NoValue, sort_of, is_array, size_in, done_in, right_operand}
use Rattle.bounds_plan.specs.elaboration.Source.{Stand, Private, Frame}
use Rattle.c_check_rules.specs.Operators.{takes_away}

-- a place is a private variable of a number or a pointer, by its value, or stands in memory at an address
pub data Lvalue : Type 0 where
  NumberVariable : (x : ℕ) → Lvalue
  PointerVariable : (x : ℕ) → Lvalue
  InMemory : (p : PointerExpr) → Lvalue

-- the address of a place. A private variable has none: no `&` is applied to it, and it is neither an array nor a struct
abbrev pub address_in : Lvalue → PointerExpr
address_in (NumberVariable x) = Null
address_in (PointerVariable x) = Null
address_in (InMemory p) = p

-- ---- the three things done with a place: it is read, written, and changed. `place` is where it stands in the sources

-- what is read at an address; of an array or a struct the value is the address
abbrev pub loaded_as : Sort → (place : Place) → PointerExpr → Value
loaded_as (ANumber kind) place p = Numeric (Load kind place p)
loaded_as APointer place p = Address (LoadPtr place p)
loaded_as AWhole place p = Address p
loaded_as NoValue place p = Address p

abbrev pub read_as : Sort → (place : Place) → Lvalue → Value
read_as sort place (NumberVariable x) = Numeric (Variable x)
read_as sort place (PointerVariable x) = Address (VariablePtr x)
read_as sort place (InMemory p) = loaded_as sort place p

-- a value of the place's type is written
abbrev pub stored_as : Sort → (place : Place) → PointerExpr → Value → Value
stored_as (ANumber kind) place p v = Numeric (Store kind place p (number_in v))
stored_as APointer place p v = Address (StorePtr place p (pointer_in v))
stored_as AWhole place p v = Address p
stored_as NoValue place p v = Address p

abbrev pub written_as : Sort → (place : Place) → Lvalue → Value → Value
written_as sort place (NumberVariable x) v = Numeric (Assign x (number_in v))
written_as sort place (PointerVariable x) v = Address (AssignPtr x (pointer_in v))
written_as sort place (InMemory p) v = stored_as sort place p v

-- a place takes the value of an operator on its own value and a number e of the type `from`: a number is changed in the type in which the operator
-- is done, and a pointer by e elements of `size` bytes. The value is that before where `old` says so
abbrev pub changed_at : Sort → (place : Place) → PointerExpr → Arithmetic → (from : IntKind) → (size : ℕ) → NumberExpr → (old : Bool) → Value
changed_at (ANumber kind) place p op from size e old = Numeric (UpdateAt kind place p op (done_in op kind from) (right_operand op from (done_in op kind from) e) old)
changed_at APointer place p op from size e old = Address (AdvanceAt place p (takes_away op) size e old)
changed_at AWhole place p op from size e old = Address p
changed_at NoValue place p op from size e old = Address p

abbrev pub changed_as : (kind : IntKind) → Sort → (place : Place) → Lvalue → Arithmetic → (from : IntKind) → (size : ℕ) → NumberExpr → (old : Bool) → Value
changed_as kind sort place (NumberVariable x) op from size e old = Numeric (Update x kind op (done_in op kind from) (right_operand op from (done_in op kind from) e) old)
changed_as kind sort place (PointerVariable x) op from size e old = Address (Advance x (takes_away op) size e old)
changed_as kind sort place (InMemory p) op from size e old = changed_at sort place p op from size e old

-- ---- variables

-- the values of a private variable, of each of which is said whether it is bounds: a number, and a pointer's number and then its bounds. Arrays and
-- structs are never private
abbrev pub private_values_of : Sort → Stand → List Bool
private_values_of (ANumber kind) Private = false ∷ []
private_values_of APointer Private = false ∷ true ∷ []
private_values_of AWhole Private = []
private_values_of NoValue Private = []
private_values_of (ANumber kind) (Frame offset) = []
private_values_of APointer (Frame offset) = []
private_values_of AWhole (Frame offset) = []
private_values_of NoValue (Frame offset) = []

-- those of parameters and locals of these types, in order of declaration
abbrev pub private_values : List CType → List Stand → List Bool
private_values [] stands = []
private_values (t ∷ ts) [] = []
private_values (t ∷ ts) (s ∷ ss) = private_values_of (sort_of t) s ++ private_values ts ss

abbrev pub offset_of : Stand → ℕ
offset_of Private = 0
offset_of (Frame offset) = offset

-- a parameter or local of this size; its first private value is x, if it has one
abbrev pub variable_at : Sort → Stand → (x size : ℕ) → Lvalue
variable_at (ANumber kind) Private x size = NumberVariable x
variable_at APointer Private x size = PointerVariable x
variable_at AWhole Private x size = InMemory (InFrame 0 size)
variable_at NoValue Private x size = InMemory (InFrame 0 size)
variable_at (ANumber kind) (Frame offset) x size = InMemory (InFrame offset size)
variable_at APointer (Frame offset) x size = InMemory (InFrame offset size)
variable_at AWhole (Frame offset) x size = InMemory (InFrame offset size)
variable_at NoValue (Frame offset) x size = InMemory (InFrame offset size)

-- the parameter or local of a number among those of these types, of which the first has its private values from x on
abbrev pub variable_of : List StructType → List CType → List Stand → (x number : ℕ) → Lvalue
variable_of structs [] stands x number = InMemory Null
variable_of structs (t ∷ ts) [] x number = InMemory Null
variable_of structs (t ∷ ts) (s ∷ ss) x zero = variable_at (sort_of t) s x (size_in structs t)
variable_of structs (t ∷ ts) (s ∷ ss) x (suc n) = variable_of structs ts ss (x + length (private_values_of (sort_of t) s)) n

-- ---- members and elements

-- the how-manieth name of a list
abbrev pub place_among : List (List ℕ) → List ℕ → ℕ
place_among names name = position_or_len (bytes_eq name) names

-- the struct of a type, and that which a pointer points to
abbrev pub struct_of : CType → ℕ
struct_of Void = 0
struct_of (Int kind) = 0
struct_of (Pointer target) = 0
struct_of (Array element count) = 0
struct_of (Struct number) = number

abbrev pub offset_in : List StructType → (struct index : ℕ) → ℕ
offset_in structs struct index = slice_index (offsets_from 0 (map (layout_of structs) (members_of structs struct))) index

abbrev pub member_type : List StructType → (struct index : ℕ) → CType
member_type structs struct index = slice_index_or (members_of structs struct) index Void

-- whether a member of this type is the last one of its struct, and an array
abbrev pub is_trailing : List StructType → (struct index : ℕ) → CType → Bool
is_trailing structs struct index type = index + 1 == length (members_of structs struct) && is_array type

-- the member of this place and type in a struct at p
abbrev pub member_at : Flags → List StructType → (struct index : ℕ) → CType → PointerExpr → PointerExpr
member_at flags structs struct index type p =
    Member (offset_in structs struct index) (member_rule flags (index == 0) (is_trailing structs struct index type) (offset_in structs struct index) (size_in structs type)) p

-- the address so many elements of this size further, or before; and a number of elements plus a pointer, of which the number comes first
abbrev pub element_at : (minus : Bool) → (size : ℕ) → PointerExpr → (i : NumberExpr) → PointerExpr
element_at minus size p i = Element minus size p i

abbrev pub element_after : (size : ℕ) → (i : NumberExpr) → PointerExpr → PointerExpr
element_after size i p = ElementAfter size i p

-- an element under its rule: where its bounds are met with its bytes, it is the part at offset 0 of itself
abbrev pub under_rule : Rule → PointerExpr → PointerExpr
under_rule Keep p = p
under_rule (Meet offset size) p = Member 0 (Meet offset size) p
