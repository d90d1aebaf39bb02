-- Which values are numbers.
use Rattle.std.proofs.Common.{◌≡◌, ℕ, Bool, Option, None, Some, List, refl}
use Rattle.std.specs.Prelude.{slice_get}
use Rattle.mx_base.specs.declared.numbers.IntKind.{IntKind}
use Rattle.mx_base.specs.declared.places.Place.{Place}
use Rattle.mx_base.specs.declared.operators.Arithmetic.{Arithmetic}
use Rattle.mx_base.specs.declared.services.CService.{CService}
use Rattle.mx_base.specs.declared.services.CService.TheVariants as in_c
use Rattle.c_tree.specs.declared.operators.BinaryOp.{BinaryOp}
use Rattle.c_tree.specs.declared.operators.BinaryOp.TheVariants as j
use Rattle.c_types.specs.Types.{CType, StructType}
use Rattle.c_check_rules.specs.declared.predeclared.Bind.{Bind}
use Rattle.c_check_rules.specs.declared.predeclared.Bind.TheVariants.{Global, Local, Fun, Service, Builtin}
use Rattle.bounds_plan.specs.meaning.Core.{NumberExpr, Arguments}
use Rattle.bounds_plan.specs.elaboration.Types.{Value, Numeric, Address, Sort, ANumber, APointer, AWhole, NoValue, sort_of, given_as, cast_as}
use Rattle.bounds_plan.specs.elaboration.Places.{Lvalue, NumberVariable, PointerVariable, InMemory, read_as, written_as, changed_as}
use Rattle.bounds_plan.specs.elaboration.Source.{Around, Signature}
use Rattle.bounds_plan.specs.elaboration.Expressions.{Found, arithmetic, binary, chosen_as, served, called_as, function_called, called, arguments_for, symbol_of}
use Rattle.steps_facts.specs.Seen.{sorted, is_number, spot_of}
use Rattle.steps_facts.specs.Around.{parameters_of}
use Rattle.steps_pieces.specs.Operators.{same, gives_number}
use Rattle.steps_pieces.specs.Wanted.{loads_number, reads_number, given_number}
use Rattle.c_look.specs.Looks.{result_number, function_number, service_number, called_number}

-- ---- which values are numbers

pub read_number : (t : Sort) (lv : Lvalue) (p : Place) → is_number (read_as t p lv) ≡ reads_number (spot_of lv) (sorted t)
read_number t (NumberVariable x) p = refl
read_number t (PointerVariable x) p = refl
read_number (ANumber kind) (InMemory q) p = refl
read_number APointer (InMemory q) p = refl
read_number AWhole (InMemory q) p = refl
read_number NoValue (InMemory q) p = refl

pub written_number : (s : Sort) (lv : Lvalue) (p : Place) (v : Value) → is_number (written_as s p lv v) ≡ reads_number (spot_of lv) (sorted s)
written_number s (NumberVariable x) p v = refl
written_number s (PointerVariable x) p v = refl
written_number (ANumber kind) (InMemory q) p v = refl
written_number APointer (InMemory q) p v = refl
written_number AWhole (InMemory q) p v = refl
written_number NoValue (InMemory q) p v = refl

pub changed_number : (kind : IntKind) (s : Sort) (lv : Lvalue) (p : Place) (op : Arithmetic) (from : IntKind) (size : ℕ) (e : NumberExpr) (old : Bool) → is_number (changed_as kind s p lv op from size e old) ≡ reads_number (spot_of lv) (sorted s)
changed_number kind s (NumberVariable x) p op from size e old = refl
changed_number kind s (PointerVariable x) p op from size e old = refl
changed_number kind (ANumber k) (InMemory q) p op from size e old = refl
changed_number kind APointer (InMemory q) p op from size e old = refl
changed_number kind AWhole (InMemory q) p op from size e old = refl
changed_number kind NoValue (InMemory q) p op from size e old = refl

arithmetic_number : (structs : List StructType) (op : Arithmetic) (t v : CType) (x y : Value) → is_number (arithmetic structs op t v x y) ≡ same (is_number x) (is_number y)
arithmetic_number structs op t v (Numeric a) (Numeric b) = refl
arithmetic_number structs op t v (Address p) (Numeric b) = refl
arithmetic_number structs op t v (Numeric a) (Address q) = refl
arithmetic_number structs op t v (Address p) (Address q) = refl

pub binary_number : (op : BinaryOp) (around : Around) (a b : Found) → is_number (binary op around a b) ≡ gives_number op (is_number a.value) (is_number b.value)
binary_number (j.Arithmetic op) around a b = arithmetic_number around.structs op a.type b.type a.value b.value
binary_number (j.Comparison op) around a b = refl
binary_number (j.Logical op) around a b = refl

pub chosen_number : (s : Sort) (c a b : Found) → is_number (chosen_as s c a b) ≡ loads_number (sorted s)
chosen_number (ANumber kind) c a b = refl
chosen_number APointer c a b = refl
chosen_number AWhole c a b = refl
chosen_number NoValue c a b = refl

pub cast_number : (s : Sort) (t : CType) (v : Value) → is_number (cast_as s t v) ≡ given_number (sorted s) (is_number v)
cast_number (ANumber kind) t v = refl
cast_number APointer t v = refl
cast_number AWhole t v = refl
cast_number NoValue t v = refl

pub given_is_number : (s : Sort) (t : CType) (v : Value) → is_number (given_as s t v) ≡ given_number (sorted s) (is_number v)
given_is_number (ANumber kind) t v = refl
given_is_number APointer t v = refl
given_is_number AWhole t v = refl
given_is_number NoValue t v = refl

gives_result : (k : Sort) (symbol : ℕ) (args : Arguments) → is_number (called_as k symbol args) ≡ result_number (sorted k)
gives_result (ANumber kind) symbol args = refl
gives_result APointer symbol args = refl
gives_result AWhole symbol args = refl
gives_result NoValue symbol args = refl

gives_function : (around : Around) (t : CType) (number : ℕ) (g : Option Signature) (all : List Found) → is_number (function_called around t number g all) ≡ function_number (parameters_of g) (sorted (sort_of t))
gives_function around t number None all = refl
gives_function around t number (Some g) all = gives_result (sort_of t) (symbol_of around number) (arguments_for g.parameters all)

gives_service : (s : CService) (all : List Found) → is_number (served s all) ≡ service_number s
gives_service in_c.Print all = refl
gives_service in_c.Put all = refl
gives_service in_c.Get all = refl
gives_service in_c.Alloc all = refl
gives_service in_c.Free all = refl
gives_service in_c.Exit all = refl

pub called_is_number : (around : Around) (t : CType) (b : Bind) (all : List Found) → is_number (called around t b all) ≡ called_number around (sorted (sort_of t)) b
called_is_number around t (Global number) all = refl
called_is_number around t (Local number) all = refl
called_is_number around t (Fun number) all = gives_function around t number (slice_get around.signatures number) all
called_is_number around t (Service service) all = gives_service service all
called_is_number around t (Builtin builtin) all = refl
