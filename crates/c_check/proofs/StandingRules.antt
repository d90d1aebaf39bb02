-- What the rules of expressions give stands, where their operands do.
use Rattle.std.proofs.Common.{◌≡◌, ℕ, ◌+◌, ◌≤◌, ◌<◌, refl, sym, ap, Bool, true, false, if◌then◌else◌, ◌&&◌, ◌==◌, nat_lt, is_some, Option, None, Some, List, [], ◌∷◌, ◌++◌, length, append-nil, arith}
use Rattle.std.proofs.lemmas.Bool.Decides.{nat_tests}
use Rattle.mx_base.specs.declared.numbers.IntKind.{IntKind}
use Rattle.mx_base.specs.declared.numbers.IntKind.TheVariants.{I8, I32, U64}
use Rattle.mx_base.specs.declared.operators.Arithmetic.{Arithmetic}
use Rattle.mx_base.specs.declared.operators.Arithmetic.TheVariants.{Mul, Div, Rem, Add, Sub, Shl, Shr, BitAnd, BitXor, BitOr}
use Rattle.c_tree.specs.declared.operators.UnaryOp.{UnaryOp}
use Rattle.c_tree.specs.declared.operators.UnaryOp.TheVariants as un
use Rattle.c_tree.specs.declared.operators.BinaryOp.{BinaryOp}
use Rattle.c_tree.specs.declared.operators.BinaryOp.TheVariants as bin
use Rattle.c_tree.specs.declared.tree.Base.{Base}
use Rattle.c_types.specs.Types.{CType, Int, Pointer, Array}
use Rattle.c_check_rules.specs.declared.kinds.Outer.{Outer}
use Rattle.c_check_rules.specs.declared.kinds.Outer.TheVariants as o
use Rattle.c_check_rules.specs.declared.constants.Constant.{Constant}
use Rattle.c_check_rules.specs.declared.constants.Constant.TheVariants as c
use Rattle.c_check_rules.specs.declared.names.Scope.{Scope}
use Rattle.c_check_rules.specs.declared.names.StructInfo.{StructInfo}
use Rattle.c_check_rules.specs.declared.predeclared.Bind.{Bind}
use Rattle.c_check_rules.specs.declared.predeclared.Bind.TheVariants as d
use Rattle.c_check_rules.specs.declared.predeclared.Found.{Found}
use Rattle.c_check_rules.specs.declared.predeclared.Found.TheVariants as f
use Rattle.c_check_rules.specs.Kinds.{outer_of, inner_of, same_kinds}
use Rattle.c_check_rules.specs.Conversions.{is_scalar, is_void_pointer, compared_form, promoted, product_form, shift_form, stepped, sum_form, difference_form, answers_int, arithmetic_kind, binary_kind, joined, choice_form, choice_kind}
use Rattle.c_check_rules.specs.Sizes.{limit, size_in}
use Rattle.c_check_typing.specs.declared.typed.Typed.{Typed}
use Rattle.c_check_typing.specs.declared.typed.Notes.{Notes}
use Rattle.c_check_typing.specs.declared.fault.CheckKind.{CheckKind}
use Rattle.c_check_typing.specs.declared.fault.CheckKind.TheVariants.{BadCount}
use Rattle.c_check_typing.specs.Notes.{value, Own, fine, wrong, nothing, judged, with_taken}
use Rattle.c_check_typing.specs.Rules.{decayed, of_kind, number_own, literal, text_typed, text_own, named, function_named, name_own, sign_own, not_own, target_own, address_own, unary_own, binary_own, choice_own, assign_own, step_own, index_own, member_own, arrow_own, base_kind, starred, cast_value, cast_to, cast_own, size_by, size_own, size_of_named, size_of_kind_own, call_own}
use Rattle.c_check.proofs.Standing.{IfKnown, StandsBy, stands_more, int_stands, inner_stands, decayed_stands, starred_stands, text_stands}
use Rattle.c_check.proofs.StandingScopes.{MembersBy, IsCore, base_known, FoundBy, member_stands}

abbrev pub own_kinds : Option Typed → List CType
own_kinds None = []
own_kinds (Some t) = t.kind ∷ []

abbrev pub TypedBy : (most : ℕ) → List StructInfo → Typed → Type 0
TypedBy most structs t = StandsBy most structs t.kind

-- what a node gives stands, and it notes just that
pub record OwnBy (most : ℕ) (structs : List StructInfo) (own : Own) : Type 0 where
  pub typed : IfKnown (TypedBy most structs) own.typed
  pub kinds : (notes : Notes) → (own.noted notes).kinds ≡ notes.kinds ++ own_kinds own.typed
  pub declared : (notes : Notes) → (own.noted notes).declared ≡ notes.declared

-- and where it breaks no rule, it gives something
pub record GoodOwn (most : ℕ) (structs : List StructInfo) (own : Own) : Type 0 where
  pub own_by : OwnBy most structs own
  pub whole : own.broken ≡ [] → is_some own.typed ≡ true

module _ (most : ℕ) (structs : List StructInfo) where
  pub nothing_own : OwnBy most structs nothing
  nothing_own = record { typed = tt; kinds = λ notes. sym (append-nil notes.kinds); declared = λ notes. refl }

  fine_own : (t : Typed) → StandsBy most structs t.kind → GoodOwn most structs (fine t)
  fine_own t h = record { own_by = record { typed = h; kinds = λ notes. refl; declared = λ notes. refl }; whole = λ e. refl }

  wrong_own : (kind : CheckKind) (more : List CheckKind) → GoodOwn most structs (wrong (kind ∷ more))
  wrong_own kind more = record { own_by = record { typed = tt; kinds = λ notes. sym (append-nil notes.kinds); declared = λ notes. refl }; whole = λ e. cc }

  judged_own : (kinds : List CheckKind) (t : Typed) → StandsBy most structs t.kind → GoodOwn most structs (judged kinds t)
  judged_own [] t h = fine_own t h
  judged_own (kind ∷ more) t h = wrong_own kind more

  named_own : (bind : Bind) (t : Typed) → StandsBy most structs t.kind → GoodOwn most structs (named bind t)
  named_own bind t h = record { own_by = record { typed = h; kinds = λ notes. refl; declared = λ notes. refl }; whole = λ e. refl }

  own_if : (b : Bool) (x y : Own) → GoodOwn most structs x → GoodOwn most structs y → GoodOwn most structs (if b then x else y)
  own_if true x y h g = h
  own_if false x y h g = g

  record Known (t : Option CType) : Type 0 where
    is : IfKnown (StandsBy most structs) t

  known_if : (b : Bool) (x y : Option CType) → Known x → Known y → Known (if b then x else y)
  known_if true x y h g = h
  known_if false x y h g = g

  known : (t : CType) → StandsBy most structs t → Known (Some t)
  known t h = record { is = h }

  unknown : Known None
  unknown = record { is = tt }

  kind_own : (t : Option CType) (constant : Constant) → Known t → GoodOwn most structs (of_kind t constant)
  kind_own None constant h = wrong_own _ []
  kind_own (Some t) constant h = fine_own _ h.is

  integer : (k : IntKind) → StandsBy most structs (Int k)
  integer k = int_stands most structs (Int k) refl refl

  an_integer : (k : IntKind) → Known (Some (Int k))
  an_integer k = record { is = integer k }

  -- ---- leaves

  pub number_good : (n : ℕ) (kind : IntKind) → GoodOwn most structs (number_own n kind)
  number_good n kind = fine_own _ (integer kind)

  pub text_good : 1 ≤ most → (bytes : List ℕ) → GoodOwn most structs (text_own bytes)
  unfolding text_own
  text_good le bytes = by_cases (nat_lt (length bytes) limit) refl
    where
      n : ℕ
      n = length bytes

      by_cases : (b : Bool) → nat_lt (length bytes) limit ≡ b → GoodOwn most structs (if b then literal bytes (text_typed (length bytes)) else wrong (BadCount ∷ []))
      by_cases true e = let lt : n < limit = grind (arith, nat_tests) in
          record { own_by = record { typed = text_stands n most structs lt le; kinds = λ notes. refl; declared = λ notes. refl }; whole = λ e. refl }
      by_cases false e = wrong_own _ []

  function_good : 1 ≤ most → (functions : Bool) (bind : Bind) → GoodOwn most structs (function_named functions bind)
  function_good le true (d.Fun n) = named_own _ _ (refl, le)
  function_good le true (d.Global n) = wrong_own _ []
  function_good le true (d.Local n) = wrong_own _ []
  function_good le true (d.Service n) = wrong_own _ []
  function_good le true (d.Builtin n) = wrong_own _ []
  function_good le false bind = wrong_own _ []

  pub name_good : 1 ≤ most → (functions : Bool) (found : Found) → FoundBy most structs found → GoodOwn most structs (name_own functions found)
  unfolding name_own
  name_good le functions f.Missing h = wrong_own _ []
  name_good le functions (f.Variable bind kind) h = named_own bind _ h
  name_good le functions (f.Callable bind result params) h = function_good le functions bind

  size_good : (size : Option ℕ) → GoodOwn most structs (size_by size)
  size_good None = wrong_own _ []
  size_good (Some n) = fine_own _ (integer U64)

  pub size_of_good : (t : CType) → GoodOwn most structs (size_own structs t)
  unfolding size_own
  size_of_good t = size_good (size_in structs t)

  size_named_good : (stars : ℕ) (t : Option CType) → GoodOwn most structs (size_of_named structs stars t)
  size_named_good stars None = wrong_own _ []
  size_named_good stars (Some t) = size_of_good (starred stars t)

  -- ---- operators of two operands

  products : (x y : Outer) → Known (product_form x y)
  products (o.Int k) (o.Int l) = an_integer _
  products _ _ = unknown

  shifts : (x y : Outer) → Known (shift_form x y)
  shifts (o.Int k) (o.Int l) = an_integer _
  shifts _ _ = unknown

  steps : (t : CType) → StandsBy most structs t → Known (stepped structs t)
  steps t h = known_if _ _ _ (known t h) unknown

  sums : (x y : Outer) (a c : CType) → StandsBy most structs a → StandsBy most structs c → Known (sum_form structs x y a c)
  sums (o.Int k) (o.Int l) a c h g = an_integer _
  sums o.Pointer (o.Int l) a c h g = steps a h
  sums (o.Int k) o.Pointer a c h g = steps c g
  sums _ _ a c h g = unknown

  differences : (x y : Outer) (a c : CType) → StandsBy most structs a → Known (difference_form structs x y a c)
  differences (o.Int k) (o.Int l) a c h = an_integer _
  differences o.Pointer (o.Int l) a c h = steps a h
  differences o.Pointer o.Pointer a c h = known_if _ _ _ (an_integer _) unknown
  differences _ _ a c h = unknown

  answers : (b : Bool) → Known (answers_int b)
  answers true = an_integer _
  answers false = unknown

  arithmetic_known : (op : Arithmetic) (a c : CType) → StandsBy most structs a → StandsBy most structs c → Known (arithmetic_kind structs op a c)
  arithmetic_known Mul a c h g = products (outer_of a) (outer_of c)
  arithmetic_known Div a c h g = products (outer_of a) (outer_of c)
  arithmetic_known Rem a c h g = products (outer_of a) (outer_of c)
  arithmetic_known Add a c h g = sums (outer_of a) (outer_of c) a c h g
  arithmetic_known Sub a c h g = differences (outer_of a) (outer_of c) a c h
  arithmetic_known Shl a c h g = shifts (outer_of a) (outer_of c)
  arithmetic_known Shr a c h g = shifts (outer_of a) (outer_of c)
  arithmetic_known BitAnd a c h g = products (outer_of a) (outer_of c)
  arithmetic_known BitXor a c h g = products (outer_of a) (outer_of c)
  arithmetic_known BitOr a c h g = products (outer_of a) (outer_of c)

  binary_known : (op : BinaryOp) (a c : CType) (x y : Bool) → StandsBy most structs a → StandsBy most structs c → Known (binary_kind structs op a c x y)
  binary_known (bin.Arithmetic op) a c x y h g = arithmetic_known op a c h g
  binary_known (bin.Comparison op) a c x y h g = answers (compared_form (outer_of a) (outer_of c) a c x y)
  binary_known (bin.Logical op) a c x y h g = answers (is_scalar a && is_scalar c)

  joins : (a c : CType) → StandsBy most structs a → StandsBy most structs c → Known (joined a c)
  joins a c h g = known_if (same_kinds a c) _ _ (known a h) (known_if (is_void_pointer a) _ _ (known a h) (known_if (is_void_pointer c) _ _ (known c g) unknown))

  choices : (x y : Outer) (a c : CType) (v w : Bool) → StandsBy most structs a → StandsBy most structs c → Known (choice_form x y a c v w)
  choices (o.Int k) (o.Int l) a c v w h g = an_integer _
  choices (o.Int k) o.Pointer a c v w h g = known_if v _ _ (known c g) unknown
  choices o.Pointer (o.Int l) a c v w h g = known_if w _ _ (known a h) unknown
  choices o.Pointer o.Pointer a c v w h g = joins a c h g
  choices _ _ a c v w h g = unknown

  pub binary_good : (op : BinaryOp) (t u : Typed) → TypedBy most structs t → TypedBy most structs u → GoodOwn most structs (binary_own structs op t u)
  unfolding binary_own
  binary_good op t u h g = kind_own (binary_kind structs op (decayed t.kind) (decayed u.kind) t.is_zero u.is_zero) _ (binary_known op (decayed t.kind) (decayed u.kind) t.is_zero u.is_zero (decayed_stands most structs t.kind h) (decayed_stands most structs u.kind g))

  pub choice_good : (c t u : Typed) → TypedBy most structs t → TypedBy most structs u → GoodOwn most structs (choice_own c t u)
  unfolding choice_own
  choice_good c t u h g = own_if _ _ _ (kind_own (choice_kind (decayed t.kind) (decayed u.kind) t.is_zero u.is_zero) _
      (choices (outer_of (decayed t.kind)) (outer_of (decayed u.kind)) (decayed t.kind) (decayed u.kind) t.is_zero u.is_zero (decayed_stands most structs t.kind h) (decayed_stands most structs u.kind g))) (wrong_own _ [])

  -- ---- operators of one operand

  sign_good : (op : UnaryOp) (x : Outer) (constant : Constant) → GoodOwn most structs (sign_own op x constant)
  sign_good op o.Void constant = wrong_own _ []
  sign_good op (o.Int k) constant = fine_own _ (integer (promoted k))
  sign_good op o.Pointer constant = wrong_own _ []
  sign_good op (o.Array count) constant = wrong_own _ []
  sign_good op (o.Struct n) constant = wrong_own _ []

  not_good : (t : Typed) → GoodOwn most structs (not_own t)
  not_good t = own_if _ _ _ (fine_own _ (integer I32)) (wrong_own _ [])

  target_good : (t : Typed) → TypedBy most structs t → GoodOwn most structs (target_own structs t)
  target_good t h = own_if _ _ _ (fine_own _ (inner_stands most structs t.kind h)) (wrong_own _ [])

  taken_kinds : (local : Option ℕ) (notes : Notes) → (with_taken local notes).kinds ≡ notes.kinds
  taken_kinds None notes = refl
  taken_kinds (Some n) notes = refl

  taken_declared : (local : Option ℕ) (notes : Notes) → (with_taken local notes).declared ≡ notes.declared
  taken_declared None notes = refl
  taken_declared (Some n) notes = refl

  pointed : (less : ℕ) → less + 1 ≤ most → (t : CType) → StandsBy less structs t → StandsBy most structs (Pointer t)
  pointed less le t h = let few = h.1 in (h.0, omega arith)

  address_good : (less : ℕ) → less + 1 ≤ most → (t : Typed) → TypedBy less structs t → GoodOwn most structs (address_own t)
  address_good less le t h = own_if t.is_place _ _ (record {
    own_by = record { typed = pointed less le t.kind h; kinds = λ notes. ap (λ ks. ks ++ (Pointer t.kind ∷ [])) (taken_kinds t.local notes); declared = λ notes. taken_declared t.local notes };
    whole = λ e. refl;
  }) (wrong_own _ [])

  pub unary_good : (less : ℕ) → less + 1 ≤ most → (op : UnaryOp) (t : Typed) → TypedBy less structs t → GoodOwn most structs (unary_own structs op t)
  unfolding unary_own
  unary_good less le un.Neg t h = sign_good un.Neg (outer_of t.kind) t.constant
  unary_good less le un.BitNot t h = sign_good un.BitNot (outer_of t.kind) t.constant
  unary_good less le un.Not t h = not_good t
  unary_good less le un.Deref t h = target_good t (stands_more less most structs (omega arith) t.kind h)
  unary_good less le un.AddressOf t h = address_good less le t h

  -- ---- the others

  pub assign_good : (op : Option Arithmetic) (t u : Typed) → TypedBy most structs t → GoodOwn most structs (assign_own structs op t u)
  unfolding assign_own
  assign_good op t u h = judged_own _ _ h

  pub step_good : (t : Typed) → TypedBy most structs t → GoodOwn most structs (step_own structs t)
  unfolding step_own
  step_good t h = judged_own _ _ h

  pub index_good : (t u : Typed) → TypedBy most structs t → GoodOwn most structs (index_own structs t u)
  unfolding index_own
  index_good t u h = own_if _ _ _ (fine_own _ (inner_stands most structs t.kind h)) (wrong_own _ [])

  pub member_good : MembersBy most structs → (name : List ℕ) (t : Typed) → GoodOwn most structs (member_own structs name t)
  unfolding member_own
  member_good members name t = judged_own _ _ (member_stands most structs members t.kind name)

  pub arrow_good : MembersBy most structs → (name : List ℕ) (t : Typed) → GoodOwn most structs (arrow_own structs name t)
  unfolding arrow_own
  arrow_good members name t = judged_own _ _ (member_stands most structs members (inner_of t.kind) name)

  pub call_good : (found : Found) (fits : Option Bool) → FoundBy most structs found → OwnBy most structs (call_own found fits)
  unfolding call_own
  call_good f.Missing fits h = (wrong_own _ []).own_by
  call_good (f.Variable bind kind) fits h = (wrong_own _ []).own_by
  call_good (f.Callable bind result params) None h = nothing_own
  call_good (f.Callable bind result params) (Some true) h = (named_own bind _ h).own_by
  call_good (f.Callable bind result params) (Some false) h = (wrong_own _ []).own_by

  pub call_whole : (found : Found) (fits : Option Bool) → is_some fits ≡ true → (call_own found fits).broken ≡ [] → is_some (call_own found fits).typed ≡ true
  unfolding call_own
  call_whole f.Missing fits e h = cc
  call_whole (f.Variable bind kind) fits e h = cc
  call_whole (f.Callable bind result params) None e h = cc
  call_whole (f.Callable bind result params) (Some true) e h = refl
  call_whole (f.Callable bind result params) (Some false) e h = cc

module _ (most : ℕ) (scope : Scope) where
  cast_value_good : (t : CType) (u : Typed) → StandsBy most scope.structs t → GoodOwn most scope.structs (cast_value t u)
  cast_value_good t u h = own_if most scope.structs _ _ _ (fine_own most scope.structs _ h) (wrong_own most scope.structs _ [])

  cast_to_good : (t : Option CType) (stars : ℕ) (u : Typed) → stars ≤ most → IfKnown (IsCore scope.structs) t → GoodOwn most scope.structs (cast_to t stars (Some u))
  cast_to_good None stars u le h = wrong_own most scope.structs _ []
  cast_to_good (Some t) stars u le h = cast_value_good (starred stars t) u (starred_stands most scope.structs stars t h.0 h.1 le)

  pub cast_good : (base : Base) (stars : ℕ) (u : Typed) → stars ≤ most → GoodOwn most scope.structs (cast_own scope base stars (Some u))
  unfolding cast_own
  cast_good base stars u le = cast_to_good (base_kind scope base) stars u le (base_known scope base)

  cast_to_none : (t : Option CType) (stars : ℕ) → OwnBy most scope.structs (cast_to t stars None)
  cast_to_none None stars = (wrong_own most scope.structs _ []).own_by
  cast_to_none (Some t) stars = nothing_own most scope.structs

  pub cast_none : (base : Base) (stars : ℕ) → OwnBy most scope.structs (cast_own scope base stars None)
  unfolding cast_own
  cast_none base stars = cast_to_none (base_kind scope base) stars

  pub size_of_kind_good : (base : Base) (stars : ℕ) → GoodOwn most scope.structs (size_of_kind_own scope base stars)
  unfolding size_of_kind_own
  size_of_kind_good base stars = size_named_good most scope.structs stars (base_kind scope base)
