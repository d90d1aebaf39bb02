-- An expression without broken rules names each global with its size.
use Rattle.std.proofs.Common.{◌≡◌, inl, inr, ℕ, zero, suc, ◌+◌, ◌<◌, ◌≤◌, ◌==◌, nat_lt, refl, sym, ap, subst, Bool, true, false, List, [], ◌∷◌, length, if◌then◌else◌, arith}
use Rattle.std.specs.Prelude.{Option, None, Some, slice_get, ◌-◌}
use Rattle.mx_base.specs.declared.places.Place.{Place}
use Rattle.mx_base.specs.declared.services.CService.{CService}
use Rattle.mx_base.specs.declared.services.CService.TheVariants as in_c
use Rattle.c_types.specs.Types.{CType, Void, StructType}
use Rattle.c_check_rules.specs.declared.names.Scope.{Scope}
use Rattle.c_check_rules.specs.declared.names.Variable.{Variable}
use Rattle.c_check_rules.specs.declared.names.Function.{Function}
use Rattle.c_check_rules.specs.declared.names.Local.{Local as LocalName}
use Rattle.c_check_rules.specs.declared.predeclared.Bind.{Bind}
use Rattle.c_check_rules.specs.declared.predeclared.Bind.TheVariants as d
use Rattle.c_check_rules.specs.declared.predeclared.Found.{Found as FoundName}
use Rattle.c_check_rules.specs.declared.predeclared.Found.TheVariants as f
use Rattle.c_check_rules.specs.Names.{numbered, found_in, among_locals, among_variables, among_functions, local_found, variable_found, function_found, local_at, variable_at, function_at}
use Rattle.c_check_rules.specs.declared.predeclared.Builtin.{Builtin}
use Rattle.c_check_rules.specs.declared.predeclared.Builtin.TheVariants as on_bounds
use Rattle.c_check_rules.specs.Predeclared.{service_named, builtin_named, predeclared_by, service, builtin}
use Rattle.c_check_typing.specs.declared.typed.Notes.{Notes}
use Rattle.c_check_typing.specs.Notes.{leaf, with_kind, with_bind}
use Rattle.c_check_typing.specs.Rules.{function_named, name_own}
use Rattle.bounds_plan.specs.elaboration.Types.{Sort, ANumber, APointer, AWhole, NoValue, sort_of, size_in}
use Rattle.bounds_plan.specs.elaboration.Places.{Lvalue, private_values_of, variable_at as placed_at, variable_of}
use Rattle.bounds_plan.specs.elaboration.Source.{Stand, Private, Frame, Reached, Around, kind_at, bind_at}
use Rattle.bounds_plan.specs.elaboration.Expressions.{Found, named}
use Rattle.c_accepted.specs.Alike.{meanings_of, IsAt, Front}
use Rattle.c_accepted.specs.Wholes.{HasItsType, HasNumber, StayGlobals, IsWhole}
use Rattle.c_accepted.proofs.Empty.{none_at}
use Rattle.c_accepted.proofs.Going.{got_behind}
use Rattle.c_accepted.proofs.Closing.{NamesPlace, NamesFound, no_place_names, a_place_names}

-- these globals are among the others, of which there are so many that all have numbers
pub record KnownBy (variables known : List Variable) : Type 0 where
  pub few : length variables ≤ 4294967295
  pub stay : StayGlobals known variables

pub known_on : (variables old new : List Variable) → new ≡ old → KnownBy variables old → KnownBy variables new
known_on variables old new e h = subst (KnownBy variables) (sym e) h

-- ---- what is found by a name

abbrev pub IsKnown : List Variable → Bind → CType → Type 0
IsKnown variables (d.Global number) kind = HasNumber variables number kind
IsKnown variables (d.Local number) kind = Unit {0}
IsKnown variables (d.Fun number) kind = Unit {0}
IsKnown variables (d.Service service) kind = Unit {0}
IsKnown variables (d.Builtin builtin) kind = Unit {0}

abbrev pub FoundKnown : List Variable → FoundName → Type 0
FoundKnown variables f.Missing = Unit {0}
FoundKnown variables (f.Variable bind kind) = IsKnown variables bind kind
FoundKnown variables (f.Callable bind result params) = Unit {0}

service_known : (variables : List Variable) (service_of : CService) → FoundKnown variables (service service_of)
service_known variables in_c.Print = tt
service_known variables in_c.Put = tt
service_known variables in_c.Get = tt
service_known variables in_c.Alloc = tt
service_known variables in_c.Free = tt
service_known variables in_c.Exit = tt

builtin_known : (variables : List Variable) (builtin_of : Builtin) → FoundKnown variables (builtin builtin_of)
builtin_known variables on_bounds.SetBounds = tt
builtin_known variables on_bounds.NarrowBounds = tt
builtin_known variables on_bounds.CopyBounds = tt
builtin_known variables on_bounds.InitBounds = tt
builtin_known variables on_bounds.LowerBound = tt
builtin_known variables on_bounds.UpperBound = tt

predeclared_known : (variables : List Variable) (as_service : Option CService) (as_builtin : Option Builtin) → FoundKnown variables (predeclared_by as_service as_builtin)
predeclared_known variables (Some p) q = service_known variables p
predeclared_known variables None (Some q) = builtin_known variables q
predeclared_known variables None None = tt

local_known : (variables : List Variable) (x : Option LocalName) → FoundKnown variables (local_found x)
local_known variables None = tt
local_known variables (Some x) = tt

function_known : (variables : List Variable) (at : ℕ) (x : Option Function) → FoundKnown variables (function_found at x)
function_known variables at None = tt
function_known variables at (Some x) = tt

pub within : (variables : List Variable) (at : ℕ) (x : Variable) → slice_get variables at ≡ Some x → at < length variables
within [] at x e = cc
within (v ∷ more) zero x e = omega arith
within (v ∷ more) (suc n) x e = omega (arith, within more n x e)

numbered_same : (n : ℕ) → n < 4294967295 → n ≡ numbered n
numbered_same n lt = omega arith

variable_known : (variables known : List Variable) (at : ℕ) (o : Option Variable) → KnownBy variables known → slice_get known at ≡ o → FoundKnown variables (variable_found at o)
variable_known variables known at None k e = tt
variable_known variables known at (Some x) k e = let there = k.stay at x.kind record { variable = x; known = e; has = refl } in
    subst (λ n. HasNumber variables n x.kind) (numbered_same at (let lt = within variables at there.variable there.known in let few = k.few in omega (arith, lt, few))) there

module _ (scope : Scope) (variables : List Variable) (few : KnownBy variables scope.variables) (name : List ℕ) where
  in_functions : (at : Option ℕ) → FoundKnown variables (among_functions scope name at)
  in_functions None = predeclared_known variables (service_named name) (builtin_named name)
  in_functions (Some at) = function_known variables at (slice_get scope.functions at)

  in_variables : (at : Option ℕ) → FoundKnown variables (among_variables scope name at)
  in_variables None = in_functions (function_at scope name)
  in_variables (Some at) = variable_known variables scope.variables at (slice_get scope.variables at) few refl

  in_locals : (at : Option ℕ) → FoundKnown variables (among_locals scope name at)
  in_locals None = in_variables (variable_at scope name)
  in_locals (Some at) = local_known variables (slice_get scope.locals at)

  pub found_known : FoundKnown variables (found_in scope name)
  unfolding found_in
  found_known = in_locals (local_at scope name)

-- ---- names

abbrev pub Whole : List Variable → Around → Found → Type 0
Whole variables around = NamesFound (IsWhole variables around.structs around.layout) (λ offset size. Unit {0}) (λ x. Unit {0})

abbrev pub WholePlace : List Variable → Around → Lvalue → Type 0
WholePlace variables around = NamesPlace (IsWhole variables around.structs around.layout) (λ offset size. Unit {0}) (λ x. Unit {0})

module _ (S : ℕ → ℕ → ℕ → Type 0) where
  first_named : (sort : Sort) (s : Stand) (x size : ℕ) → NamesPlace S (λ offset size. Unit {0}) (λ x. Unit {0}) (placed_at sort s x size)
  first_named (ANumber kind) Private x size = tt
  first_named APointer Private x size = tt
  first_named AWhole Private x size = tt
  first_named NoValue Private x size = tt
  first_named (ANumber kind) (Frame offset) x size = tt
  first_named APointer (Frame offset) x size = tt
  first_named AWhole (Frame offset) x size = tt
  first_named NoValue (Frame offset) x size = tt

  pub variable_named : (structs : List StructType) (ts : List CType) (ss : List Stand) (x number : ℕ) → NamesPlace S (λ offset size. Unit {0}) (λ x. Unit {0}) (variable_of structs ts ss x number)
  variable_named structs [] ss x number = tt
  variable_named structs (t ∷ ts) [] x number = tt
  variable_named structs (t ∷ ts) (s ∷ ss) x zero = first_named (sort_of t) s x (size_in structs t)
  variable_named structs (t ∷ ts) (s ∷ ss) x (suc n) = variable_named structs ts ss (x + length (private_values_of (sort_of t) s)) n

named_whole : (variables : List Variable) (around : Around) (type : CType) (bind : Bind) (place : Place) (after : Reached) → IsKnown variables bind type → Whole variables around (named around type bind place after)
named_whole variables around type (d.Global number) place after h = a_place_names _ _ _ type _ place after (inl record { number = number; variable = h.variable; known = h.known; at = refl; begins = refl; has = ap (size_in around.structs) (sym h.has) })
named_whole variables around type (d.Local number) place after h = a_place_names _ _ _ type _ place after (variable_named (IsWhole variables around.structs around.layout) around.structs around.variables around.stands 0 number)
named_whole variables around type (d.Fun number) place after h = no_place_names _ _ _ type _ place after (inr (inl record { number = number; at = refl; begins = refl; has = refl }))
named_whole variables around type (d.Service service) place after h = no_place_names _ _ _ type _ place after tt
named_whole variables around type (d.Builtin builtin) place after h = no_place_names _ _ _ type _ place after tt

kind_there : (bind : Bind) (kind : CType) (n : Notes) (around : Around) (r : Reached) → Front (meanings_of (with_kind kind (with_bind bind n))) around.meanings → IsAt r (meanings_of n) → kind_at around r ≡ kind
kind_there bind kind n around r w at = got_behind n.kinds around.meanings.kinds kind Void r.kind w.kinds at.kind

bind_there : (bind : Bind) (kind : CType) (n : Notes) (around : Around) (r : Reached) → Front (meanings_of (with_kind kind (with_bind bind n))) around.meanings → IsAt r (meanings_of n) → bind_at around r ≡ bind
bind_there bind kind n around r w at = got_behind n.binds around.meanings.binds bind (d.Local 0) r.name w.binds at.name

bound_whole : (variables : List Variable) (bind : Bind) (kind : CType) (place : Place) (after : Reached) → IsKnown variables bind kind → (n : Notes) (around : Around) (r : Reached) → Front (meanings_of (with_kind kind (with_bind bind n))) around.meanings → IsAt r (meanings_of n)
    → Whole variables around (named around (kind_at around r) (bind_at around r) place after)
bound_whole variables bind kind place after h n around r w at = subst (λ k. Whole variables around (named around k (bind_at around r) place after)) (sym (kind_there bind kind n around r w at))
    (subst (λ b. Whole variables around (named around kind b place after)) (sym (bind_there bind kind n around r w at)) (named_whole variables around kind bind place after h))

fun_whole : (variables : List Variable) (functions : Bool) (bind : Bind) (place : Place) (after : Reached) → (function_named functions bind).broken ≡ [] → (n : Notes) (around : Around) (r : Reached) → Front (meanings_of ((function_named functions bind).noted n)) around.meanings → IsAt r (meanings_of n)
    → Whole variables around (named around (kind_at around r) (bind_at around r) place after)
fun_whole variables true (d.Fun number) place after h n around r w at = bound_whole variables (d.Fun number) _ place after tt n around r w at
fun_whole variables true (d.Global number) place after h n around r w at = cc
fun_whole variables true (d.Local number) place after h n around r w at = cc
fun_whole variables true (d.Service service) place after h n around r w at = cc
fun_whole variables true (d.Builtin builtin) place after h n around r w at = cc
fun_whole variables false bind place after h n around r w at = cc

own_whole : (variables : List Variable) (functions : Bool) (found : FoundName) (place : Place) (after : Reached) → FoundKnown variables found → (name_own functions found).broken ≡ [] → (n : Notes) (around : Around) (r : Reached) → Front (meanings_of ((name_own functions found).noted n)) around.meanings → IsAt r (meanings_of n)
    → Whole variables around (named around (kind_at around r) (bind_at around r) place after)
unfolding name_own
own_whole variables functions f.Missing place after k h n around r w at = cc
own_whole variables functions (f.Variable bind kind) place after k h n around r w at = bound_whole variables bind kind place after k n around r w at
own_whole variables functions (f.Callable bind result params) place after k h n around r w at = fun_whole variables functions bind place after h n around r w at

pub name_whole : (variables : List Variable) (functions : Bool) (found : FoundName) (place : Place) (after : Reached) → FoundKnown variables found → (leaf place (name_own functions found)).broken ≡ [] → (n : Notes) (around : Around) (r : Reached) → Front (meanings_of ((leaf place (name_own functions found)).after n)) around.meanings → IsAt r (meanings_of n)
    → Whole variables around (named around (kind_at around r) (bind_at around r) place after)
unfolding leaf
name_whole variables functions found place after k h n around r w at = own_whole variables functions found place after k (none_at place _ h) n around r w at

own_type : (functions : Bool) (found : FoundName) → (name_own functions found).broken ≡ [] → (n : Notes) (around : Around) (r : Reached) → Front (meanings_of ((name_own functions found).noted n)) around.meanings → IsAt r (meanings_of n) → HasItsType found (kind_at around r)
unfolding name_own
own_type functions f.Missing h n around r w at = cc
own_type functions (f.Variable bind kind) h n around r w at = kind_there bind kind n around r w at
own_type functions (f.Callable bind result params) h n around r w at = tt

pub names_typed : (place : Place) (functions : Bool) (found : FoundName) → (leaf place (name_own functions found)).broken ≡ [] → (n : Notes) (around : Around) (r : Reached) → Front (meanings_of ((leaf place (name_own functions found)).after n)) around.meanings → IsAt r (meanings_of n)
    → HasItsType found (kind_at around r)
unfolding leaf
names_typed place functions found h n around r w at = own_type functions found (none_at place _ h) n around r w at
