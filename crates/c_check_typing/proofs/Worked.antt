-- The rules on small expressions. In scope are `int x`, `char *p` and `struct S s`, where `struct S { int a; char b[4]; }`, with `int f(void *)`.
use Rattle.std.proofs.Common.{◌≡◌, ℕ, true, false, List, [], ◌∷◌, rules}
use Rattle.std.specs.Prelude.{None, Some, codes}
use Rattle.mx_base.specs.declared.places.Place.{Place}
use Rattle.mx_base.specs.declared.numbers.IntKind.TheVariants.{I8, I32, I64, U64}
use Rattle.mx_base.specs.Numbers.{value_of, number_of, as_signed, wrapped, residue}
use Rattle.mx_base.specs.declared.operators.Arithmetic.TheVariants.{Div, Sub}
use Rattle.mx_base.specs.Operators.{word_arithmetic, arithmetic}
use Rattle.c_tree.specs.declared.operators.UnaryOp.TheVariants as u
use Rattle.c_tree.specs.declared.operators.BinaryOp.TheVariants as p
use Rattle.c_tree.specs.declared.tree.Expr.{Expr, the_lemmas}
use Rattle.c_tree.specs.declared.tree.ExprKind.{ExprKind}
use Rattle.c_tree.specs.declared.tree.ExprKind.TheVariants as v
use Rattle.c_tree.specs.declared.tree.Base.TheVariants as b
use Rattle.c_types.specs.Types.{Void, Int, Pointer, Array, Struct}
use Rattle.c_check_rules.specs.declared.constants.Constant.TheVariants as c
use Rattle.c_check_rules.specs.declared.names.Scope.{Scope}
use Rattle.c_check_rules.specs.declared.names.StructInfo.{StructInfo}
use Rattle.c_check_rules.specs.Names.{found_in}
use Rattle.c_check_typing.specs.declared.fault.CheckKind.{CheckKind}
use Rattle.c_check_typing.specs.declared.fault.CheckKind.TheVariants.{Unknown, BadType, NotPlace}
use Rattle.c_check_typing.specs.declared.fault.Broken.{Broken}
use Rattle.c_check_typing.specs.Notes.{value, no_notes, leaf, one, two}
use Rattle.c_check_typing.specs.Rules.{name_own, unary_own, binary_own, assign_own, member_own, size_own, size_of_kind_own, call_own}
use Rattle.c_check_typing.specs.Expressions.{seen, call}

abbrev spot : ℕ → Place
spot col = record { file = 0; line = 1; col = col }

abbrev at : ℕ → ExprKind → Expr
at col kind = record { place = spot col; kind = kind }

abbrev broken : ℕ → CheckKind → Broken
broken col kind = record { kind = kind; place = spot col }

abbrev s_info : StructInfo
s_info = record { tag = codes "S"; laid = Some (record { size = 8; align = 4 }); scalars = 5; members = record { name = codes "a"; kind = Int I32 } ∷ record { name = codes "b"; kind = Array (Int I8) 4 } ∷ [] }

abbrev scope : Scope
scope = record {
  structs = s_info ∷ [];
  variables = record { name = codes "x"; kind = Pointer (Int I64); defined = true } ∷ [];
  functions = record { name = codes "f"; result = Int I32; params = Pointer Void ∷ []; defined = false } ∷ [];
  locals = record { name = codes "x"; kind = Int I32; number = 0 } ∷ record { name = codes "p"; kind = Pointer (Int I8); number = 1 } ∷ record { name = codes "s"; kind = Struct 0; number = 2 } ∷ [];
  from = 0;
  made = [];
  result = None;
  in_loop = false;
  at_body = false;
}

abbrev name : ℕ → List ℕ → Expr
name col bytes = at col (v.Var bytes)

abbrev number : ℕ → ℕ → Expr
number col n = at col (v.Number n I32)

-- the local x hides the global x
local_first : (seen (name 1 (codes "x")) false scope).typed ≡ Some (record (value (Int I32) c.No) { is_place = true; local = Some 0 })
unfolding leaf name_own found_in
local_first = search (rules, the_lemmas)

unknown_name : (seen (name 1 (codes "y")) false scope).broken ≡ broken 1 Unknown ∷ []
unfolding leaf name_own found_in
unknown_name = search (rules, the_lemmas)

-- `x = 1`, and `1 = x`
assigned : ((seen (at 1 (v.Assign None (name 1 (codes "x")) (number 5 1))) false scope).after no_notes).kinds ≡ Int I32 ∷ Int I32 ∷ Int I32 ∷ []
unfolding leaf two name_own assign_own found_in
assigned = search (rules, the_lemmas)

number_assigned : (seen (at 1 (v.Assign None (number 1 1) (name 5 (codes "x")))) false scope).broken ≡ broken 1 NotPlace ∷ []
unfolding leaf two name_own assign_own found_in
number_assigned = search (rules, the_lemmas)

-- `&x` takes the local, and `*x` is no pointer
taken : ((seen (at 1 (v.Unary u.AddressOf (name 2 (codes "x")))) false scope).after no_notes).taken ≡ 0 ∷ []
unfolding leaf one name_own unary_own found_in
taken = search (rules, the_lemmas)

no_pointer : (seen (at 1 (v.Unary u.Deref (name 2 (codes "x")))) false scope).broken ≡ broken 1 BadType ∷ []
unfolding leaf one name_own unary_own found_in
no_pointer = search (rules, the_lemmas)

-- `(s = s).z` breaks two rules at one node
two_rules : (seen (at 1 (v.Member (at 1 (v.Assign None (name 2 (codes "s")) (name 6 (codes "s")))) (codes "z"))) false scope).broken ≡ broken 1 Unknown ∷ broken 1 NotPlace ∷ []
unfolding leaf one two name_own assign_own member_own found_in
two_rules = search (rules, the_lemmas)

-- `f(f)`, and `-f`
function_given : (seen (at 1 (v.Call (codes "f") (name 3 (codes "f") ∷ []))) false scope).broken ≡ []
unfolding leaf call name_own call_own found_in
function_given = search (rules, the_lemmas)

function_alone : (seen (at 1 (v.Unary u.Neg (name 2 (codes "f")))) false scope).broken ≡ broken 2 BadType ∷ []
unfolding leaf one name_own unary_own found_in
function_alone = search (rules, the_lemmas)

-- the arguments of `g(y, z)` come before its name
arguments_first : (seen (at 1 (v.Call (codes "g") (name 3 (codes "y") ∷ name 6 (codes "z") ∷ []))) false scope).broken ≡ broken 3 Unknown ∷ broken 6 Unknown ∷ broken 1 Unknown ∷ []
unfolding leaf call name_own call_own found_in
arguments_first = search (rules, the_lemmas)

-- `1 / 0` stops as a constant, and `p - p` is a `long`
stops : (seen (at 1 (v.Binary (p.Arithmetic Div) (number 1 1) (number 5 0))) false scope).typed ≡ Some (value (Int I32) c.Stops)
unfolding leaf two binary_own word_arithmetic arithmetic value_of number_of as_signed wrapped residue
stops = search (rules, the_lemmas)

distance : (seen (at 1 (v.Binary (p.Arithmetic Sub) (name 1 (codes "p")) (name 5 (codes "p")))) false scope).typed ≡ Some (value (Int I64) c.No)
unfolding leaf two name_own binary_own found_in
distance = search (rules, the_lemmas)

-- `sizeof(struct S)`
sized : (seen (at 1 (v.SizeOfKind (b.Struct (codes "S")) 0)) false scope).typed ≡ Some (value (Int U64) (c.Value 8))
unfolding leaf size_own size_of_kind_own
sized = search (rules, the_lemmas)
