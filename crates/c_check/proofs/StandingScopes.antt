-- Scopes whose types stand, and what names, tags and members in them stand for.
use Rattle.std.proofs.Common.{◌≡◌, ℕ, zero, suc, ◌+◌, ◌-◌, ◌≤◌, ◌<◌, ◌==◌, nat_lt, refl, ap, Bool, true, false, if◌then◌else◌, is_some, Option, None, Some, List, [], ◌∷◌, length, slice_get, bytes_eq, arith}
use Rattle.mx_base.specs.declared.numbers.IntKind.TheVariants.{I32}
use Rattle.c_tree.specs.declared.tree.Base.{Base}
use Rattle.c_tree.specs.declared.tree.Base.TheVariants as b
use Rattle.c_types.specs.Types.{CType, Void, Int, Pointer}
use Rattle.c_check_rules.specs.declared.kinds.Outer.{Outer}
use Rattle.c_check_rules.specs.declared.kinds.Outer.TheVariants as o
use Rattle.c_check_rules.specs.declared.names.Scope.{Scope}
use Rattle.c_check_rules.specs.declared.names.StructInfo.{StructInfo}
use Rattle.c_check_rules.specs.declared.names.Member.{Member}
use Rattle.c_check_rules.specs.declared.names.Variable.{Variable}
use Rattle.c_check_rules.specs.declared.names.Function.{Function}
use Rattle.c_check_rules.specs.declared.names.Local.{Local}
use Rattle.c_check_rules.specs.declared.predeclared.Bind.{Bind}
use Rattle.c_check_rules.specs.declared.predeclared.Found.{Found}
use Rattle.c_check_rules.specs.declared.predeclared.Found.TheVariants as f
use Rattle.c_check_rules.specs.Kinds.{outer_of}
use Rattle.c_check_rules.specs.Names.{last_at, tags, tag_at, numbered, found_in, among_locals, among_variables, among_functions, local_found, variable_found, function_found, local_at, variable_at, function_at, member_kind, member_of, last_member}
use Rattle.mx_base.specs.declared.services.CService.{CService}
use Rattle.mx_base.specs.declared.services.CService.TheVariants as in_c
use Rattle.c_check_rules.specs.declared.predeclared.Builtin.{Builtin}
use Rattle.c_check_rules.specs.declared.predeclared.Builtin.TheVariants as i
use Rattle.c_check_rules.specs.Predeclared.{service_named, builtin_named, predeclared_by, service, builtin}
use Rattle.c_check_rules.specs.Sizes.{is_within}
use Rattle.c_check_typing.specs.Rules.{base_kind, struct_kind, members_in, members_by, member_in, or_void}
use Rattle.c_check.specs.Standing.{layers_of}
use Rattle.c_check.proofs.Standing.{Each, each_other, IfKnown, StandsBy, ValueBy, stands_more, value_more}

-- the types of a struct's members
abbrev pub MembersBy : (most : ℕ) → List StructInfo → Type 0
MembersBy most structs = (n : ℕ) (info : StructInfo) → slice_get structs n ≡ Some info → Each (λ (x : Member). StandsBy most structs x.kind) info.members

pub record ScopeBy (most : ℕ) (scope : Scope) : Type 0 where
  pub members : MembersBy most scope.structs
  pub variables : Each (λ (v : Variable). ValueBy most scope.structs v.kind) scope.variables
  pub functions : Each (λ (x : Function). StandsBy most scope.structs x.result) scope.functions
  pub locals : Each (λ (x : Local). StandsBy most scope.structs x.kind) scope.locals
  pub made : Each (ValueBy most scope.structs) scope.made

pub members_more : (most more : ℕ) (structs : List StructInfo) → most ≤ more → MembersBy most structs → MembersBy more structs
members_more most more structs le h = λ n info e. each_other (λ (x : Member). StandsBy most structs x.kind) (λ (x : Member). StandsBy more structs x.kind) (λ x. stands_more most more structs le x.kind) info.members (h n info e)

pub scope_more : (most more : ℕ) (scope : Scope) → most ≤ more → ScopeBy most scope → ScopeBy more scope
scope_more most more scope le h = record {
  members = members_more most more scope.structs le h.members;
  variables = each_other (λ (x : Variable). ValueBy most scope.structs x.kind) (λ (x : Variable). ValueBy more scope.structs x.kind) (λ x. value_more most more scope.structs le x.kind) scope.variables h.variables;
  functions = each_other (λ (x : Function). StandsBy most scope.structs x.result) (λ (x : Function). StandsBy more scope.structs x.result) (λ x. stands_more most more scope.structs le x.result) scope.functions h.functions;
  locals = each_other (λ (x : Local). StandsBy most scope.structs x.kind) (λ (x : Local). StandsBy more scope.structs x.kind) (λ x. stands_more most more scope.structs le x.kind) scope.locals h.locals;
  made = each_other (ValueBy most scope.structs) (ValueBy more scope.structs) (value_more most more scope.structs le) scope.made h.made;
}

-- ---- what stands in lists

pub got_of_each : {X : Type 0} (P : X → Type 0) (xs : List X) (n : ℕ) → Each P xs → IfKnown P (slice_get xs n)
got_of_each P [] n h = tt
got_of_each P (x ∷ xs) zero h = h.0
got_of_each P (x ∷ xs) (suc n) h = got_of_each P xs n h.1

pub got_within : {X : Type 0} (xs : List X) (n : ℕ) → n < length xs → is_some (slice_get xs n) ≡ true
got_within [] n h = absurd (omega arith)
got_within (x ∷ xs) zero h = refl
got_within (x ∷ xs) (suc n) h = got_within xs n (omega arith)

if_last : (b : Bool) (at high : ℕ) (found : Option ℕ) → at < high → IfKnown (λ (n : ℕ). n < high) found → IfKnown (λ (n : ℕ). n < high) (if b then Some at else found)
if_last true at high found h g = h
if_last false at high found h g = g

last_within : (name : List ℕ) (names : List (List ℕ)) (at high : ℕ) (found : Option ℕ) → at + length names ≤ high → IfKnown (λ (n : ℕ). n < high) found → IfKnown (λ (n : ℕ). n < high) (last_at name names at found)
last_within name [] at high found h g = g
last_within name (n ∷ more) at high found h g = last_within name more (at + 1) high _ (omega arith) (if_last (bytes_eq n name) at high found (omega arith) g)

tags_long : (structs : List StructInfo) → length (tags structs) ≡ length structs
tags_long [] = refl
tags_long (x ∷ xs) = ap suc (tags_long xs)

-- ---- bases

abbrev pub IsCore : List StructInfo → CType → Type 0
IsCore structs t = (is_within structs t ≡ true) × (layers_of t ≡ 0)

struct_known : (structs : List StructInfo) (at : Option ℕ) → IfKnown (λ (n : ℕ). n < length structs) at → IfKnown (IsCore structs) (struct_kind at)
struct_known structs None h = tt
struct_known structs (Some at) h = (got_within structs (numbered at) (omega arith), refl)

pub base_known : (scope : Scope) (base : Base) → IfKnown (IsCore scope.structs) (base_kind scope base)
base_known scope b.Void = (refl, refl)
base_known scope (b.Int kind) = (refl, refl)
base_known scope (b.Struct tag) = struct_known scope.structs (tag_at scope tag) (last_within tag (tags scope.structs) 0 (length scope.structs) None (omega (arith, tags_long scope.structs)) tt)

-- ---- names

module _ (most : ℕ) (structs : List StructInfo) where
  abbrev pub FoundBy : Found → Type 0
  FoundBy f.Missing = Unit {0}
  FoundBy (f.Variable bind kind) = StandsBy most structs kind
  FoundBy (f.Callable bind result params) = StandsBy most structs result

  record IsFound (found : Found) : Type 0 where
    is : FoundBy found

  gives : (bind : Bind) (t : CType) (params : List CType) → StandsBy most structs t → IsFound (f.Callable bind t params)
  gives bind t params h = record { is = h }

  service_found : 1 ≤ most → (name : CService) → IsFound (service name)
  service_found h in_c.Print = gives _ Void _ (refl, omega arith)
  service_found h in_c.Put = gives _ Void _ (refl, omega arith)
  service_found h in_c.Get = gives _ (Int I32) _ (refl, omega arith)
  service_found h in_c.Alloc = gives _ (Pointer Void) _ (refl, h)
  service_found h in_c.Free = gives _ (Int I32) _ (refl, omega arith)
  service_found h in_c.Exit = gives _ Void _ (refl, omega arith)

  builtin_found : 1 ≤ most → (name : Builtin) → IsFound (builtin name)
  builtin_found h i.SetBounds = gives _ (Pointer Void) _ (refl, h)
  builtin_found h i.NarrowBounds = gives _ (Pointer Void) _ (refl, h)
  builtin_found h i.CopyBounds = gives _ (Pointer Void) _ (refl, h)
  builtin_found h i.InitBounds = gives _ (Pointer Void) _ (refl, h)
  builtin_found h i.LowerBound = gives _ (Pointer Void) _ (refl, h)
  builtin_found h i.UpperBound = gives _ (Pointer Void) _ (refl, h)

  predeclared_found : 1 ≤ most → (p : Option CService) (q : Option Builtin) → FoundBy (predeclared_by p q)
  predeclared_found h (Some p) q = (service_found h p).is
  predeclared_found h None (Some q) = (builtin_found h q).is
  predeclared_found h None None = tt

  local_known : (x : Option Local) → IfKnown (λ (x : Local). StandsBy most structs x.kind) x → FoundBy (local_found x)
  local_known None h = tt
  local_known (Some x) h = h

  variable_known : (at : ℕ) (x : Option Variable) → IfKnown (λ (x : Variable). ValueBy most structs x.kind) x → FoundBy (variable_found at x)
  variable_known at None h = tt
  variable_known at (Some x) h = h.0

  function_known : (at : ℕ) (x : Option Function) → IfKnown (λ (x : Function). StandsBy most structs x.result) x → FoundBy (function_found at x)
  function_known at None h = tt
  function_known at (Some x) h = h

pub found_more : (most more : ℕ) (structs : List StructInfo) → most ≤ more → (found : Found) → FoundBy most structs found → FoundBy more structs found
found_more most more structs le f.Missing h = tt
found_more most more structs le (f.Variable bind kind) h = stands_more most more structs le kind h
found_more most more structs le (f.Callable bind result params) h = stands_more most more structs le result h

module _ (most : ℕ) (scope : Scope) (h : ScopeBy most scope) (some : 1 ≤ most) (name : List ℕ) where
  in_functions : (at : Option ℕ) → FoundBy most scope.structs (among_functions scope name at)
  in_functions None = predeclared_found most scope.structs some (service_named name) (builtin_named name)
  in_functions (Some at) = function_known most scope.structs at (slice_get scope.functions at) (got_of_each (λ (x : Function). StandsBy most scope.structs x.result) scope.functions at h.functions)

  in_variables : (at : Option ℕ) → FoundBy most scope.structs (among_variables scope name at)
  in_variables None = in_functions (function_at scope name)
  in_variables (Some at) = variable_known most scope.structs at (slice_get scope.variables at) (got_of_each (λ (x : Variable). ValueBy most scope.structs x.kind) scope.variables at h.variables)

  in_locals : (at : Option ℕ) → FoundBy most scope.structs (among_locals scope name at)
  in_locals None = in_variables (variable_at scope name)
  in_locals (Some at) = local_known most scope.structs (slice_get scope.locals at) (got_of_each (λ (x : Local). StandsBy most scope.structs x.kind) scope.locals at h.locals)

  pub name_found : FoundBy most scope.structs (found_in scope name)
  unfolding found_in
  name_found = in_locals (local_at scope name)

-- ---- members

module _ (most : ℕ) (structs : List StructInfo) (members : MembersBy most structs) where
  abbrev MemberBy : Member → Type 0
  MemberBy x = StandsBy most structs x.kind

  of_struct : (n : ℕ) (info : Option StructInfo) → slice_get structs n ≡ info → Each MemberBy (members_in info)
  of_struct n None e = tt
  of_struct n (Some info) e = members n info e

  of_outer : (outer : Outer) → Each MemberBy (members_by structs outer)
  of_outer o.Void = tt
  of_outer (o.Int k) = tt
  of_outer o.Pointer = tt
  of_outer (o.Array count) = tt
  of_outer (o.Struct n) = of_struct n (slice_get structs n) refl

  kind_known : (x : Option Member) → IfKnown MemberBy x → IfKnown (StandsBy most structs) (member_kind x)
  kind_known None h = tt
  kind_known (Some x) h = h

  of_last : (all : List Member) (at : Option ℕ) → Each MemberBy all → IfKnown (StandsBy most structs) (member_of all at)
  of_last all None h = tt
  of_last all (Some at) h = kind_known (slice_get all at) (got_of_each MemberBy all at h)

  void_or_stands : (t : Option CType) → IfKnown (StandsBy most structs) t → StandsBy most structs (or_void t)
  void_or_stands None h = (refl, omega arith)
  void_or_stands (Some t) h = h

  pub member_stands : (t : CType) (name : List ℕ) → StandsBy most structs (or_void (member_in structs t name))
  member_stands t name = void_or_stands (member_in structs t name) (of_last (members_by structs (outer_of t)) (last_member (members_by structs (outer_of t)) name) (of_outer (outer_of t)))
