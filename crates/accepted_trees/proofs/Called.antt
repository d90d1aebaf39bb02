-- What a name that is called means: a function with the result that the checker finds.
use Rattle.std.proofs.Common.{◌≡◌, ℕ, zero, suc, ◌<◌, ◌≤◌, ◌==◌, ◌-◌, nat_lt, refl, sym, ap, ◌∙◌, subst, Bool, true, false, List, [], ◌∷◌, length, if◌then◌else◌, arith}
use Rattle.std.specs.Prelude.{Option, None, Some, slice_get}
use Rattle.fat_ir.specs.Step.{Located}
use Rattle.mx_base.specs.declared.services.CService.{CService}
use Rattle.mx_base.specs.declared.services.CService.TheVariants as in_c
use Rattle.c_types.specs.Types.{CType}
use Rattle.c_check_rules.specs.declared.names.Scope.{Scope}
use Rattle.c_check_rules.specs.declared.names.Variable.{Variable}
use Rattle.c_check_rules.specs.declared.names.Function.{Function}
use Rattle.c_check_rules.specs.declared.names.Local.{Local as LocalName}
use Rattle.c_check_rules.specs.declared.predeclared.Bind.{Bind}
use Rattle.c_check_rules.specs.declared.predeclared.Bind.TheVariants as d
use Rattle.c_check_rules.specs.declared.predeclared.Found.{Found}
use Rattle.c_check_rules.specs.declared.predeclared.Found.TheVariants as f
use Rattle.c_check_rules.specs.Names.{numbered, found_in, among_locals, among_variables, among_functions, local_found, variable_found, function_found, local_at, variable_at, function_at}
use Rattle.c_check_rules.specs.declared.predeclared.Builtin.{Builtin}
use Rattle.c_check_rules.specs.declared.predeclared.Builtin.TheVariants as on_bounds
use Rattle.c_check_rules.specs.Predeclared.{service_named, builtin_named, predeclared_by, service, builtin}
use Rattle.c_check_typing.specs.declared.typed.Notes.{Notes}
use Rattle.c_check_typing.specs.Notes.{with_kind, with_bind}
use Rattle.c_check_typing.specs.Rules.{call_with, call_own}
use Rattle.bounds_plan.specs.elaboration.Types.{sort_of}
use Rattle.bounds_plan.specs.elaboration.Source.{Signature, Reached, Around, kind_at, bind_at}
use Rattle.c_accepted.specs.Alike.{meanings_of, signature_seen, signatures_seen, IsAt, Front}
use Rattle.c_accepted.proofs.Going.{got_behind}
use Rattle.accepted_trees.specs.Limits.{SignaturesWithin, SymbolsServe}
use Rattle.accepted_trees.proofs.Closing.{CallsRight}

-- a function of this number that gives this type
pub record Declares (functions : List Function) (number : ℕ) (result : CType) : Type 0 where
  pub function : Function
  pub known : slice_get functions number ≡ Some function
  pub gives : function.result ≡ result

abbrev pub IsSigned : List Function → Bind → CType → Type 0
IsSigned functions (d.Fun number) result = Declares functions number result
IsSigned functions (d.Global number) result = Unit {0}
IsSigned functions (d.Local number) result = Unit {0}
IsSigned functions (d.Service service) result = Unit {0}
IsSigned functions (d.Builtin builtin) result = Unit {0}

abbrev pub FoundSigned : List Function → Found → Type 0
FoundSigned functions f.Missing = Unit {0}
FoundSigned functions (f.Variable bind kind) = Unit {0}
FoundSigned functions (f.Callable bind result params) = IsSigned functions bind result

service_signed : (functions : List Function) (service_of : CService) → FoundSigned functions (service service_of)
service_signed functions in_c.Print = tt
service_signed functions in_c.Put = tt
service_signed functions in_c.Get = tt
service_signed functions in_c.Alloc = tt
service_signed functions in_c.Free = tt
service_signed functions in_c.Exit = tt

builtin_signed : (functions : List Function) (builtin_of : Builtin) → FoundSigned functions (builtin builtin_of)
builtin_signed functions on_bounds.SetBounds = tt
builtin_signed functions on_bounds.NarrowBounds = tt
builtin_signed functions on_bounds.CopyBounds = tt
builtin_signed functions on_bounds.InitBounds = tt
builtin_signed functions on_bounds.LowerBound = tt
builtin_signed functions on_bounds.UpperBound = tt

predeclared_signed : (functions : List Function) (as_service : Option CService) (as_builtin : Option Builtin) → FoundSigned functions (predeclared_by as_service as_builtin)
predeclared_signed functions (Some p) q = service_signed functions p
predeclared_signed functions None (Some q) = builtin_signed functions q
predeclared_signed functions None None = tt

local_signed : (functions : List Function) (x : Option LocalName) → FoundSigned functions (local_found x)
local_signed functions None = tt
local_signed functions (Some x) = tt

variable_signed : (functions : List Function) (at : ℕ) (x : Option Variable) → FoundSigned functions (variable_found at x)
variable_signed functions at None = tt
variable_signed functions at (Some x) = tt

below : (functions : List Function) (at : ℕ) (x : Function) → slice_get functions at ≡ Some x → at < length functions
below [] at x e = cc
below (v ∷ more) zero x e = omega arith
below (v ∷ more) (suc n) x e = omega (arith, below more n x e)

numbered_same : (n : ℕ) → n < 4294967295 → n ≡ numbered n
numbered_same n lt = omega arith

function_signed : (functions : List Function) (at : ℕ) (o : Option Function) → length functions ≤ 4294967295 → slice_get functions at ≡ o → FoundSigned functions (function_found at o)
function_signed functions at None few e = tt
function_signed functions at (Some x) few e = subst (λ n. Declares functions n x.result) (numbered_same at (let lt = below functions at x e in omega (arith, lt, few))) record { function = x; known = e; gives = refl }

module _ (scope : Scope) (few : length scope.functions ≤ 4294967295) (name : List ℕ) where
  in_functions : (at : Option ℕ) → FoundSigned scope.functions (among_functions scope name at)
  in_functions None = predeclared_signed scope.functions (service_named name) (builtin_named name)
  in_functions (Some at) = function_signed scope.functions at (slice_get scope.functions at) few refl

  in_variables : (at : Option ℕ) → FoundSigned scope.functions (among_variables scope name at)
  in_variables None = in_functions (function_at scope name)
  in_variables (Some at) = variable_signed scope.functions at (slice_get scope.variables at)

  in_locals : (at : Option ℕ) → FoundSigned scope.functions (among_locals scope name at)
  in_locals None = in_variables (variable_at scope name)
  in_locals (Some at) = local_signed scope.functions (slice_get scope.locals at)

  pub found_signed : FoundSigned scope.functions (found_in scope name)
  unfolding found_in
  found_signed = in_locals (local_at scope name)

-- ---- by the elaboration

mapped_at : (functions : List Function) (n : ℕ) (x : Function) → slice_get functions n ≡ Some x → slice_get (signatures_seen functions) n ≡ Some (signature_seen x)
mapped_at [] n x e = cc
mapped_at (f ∷ more) zero x e = let same : f ≡ x = cc in ap (λ y. Some (signature_seen y)) same
mapped_at (f ∷ more) (suc n) x e = mapped_at more n x e

same_some : {X : Type 0} (x y : X) → Some x ≡ Some y → x ≡ y
same_some x y e = cc

-- the result of a function is that of its signature
gives_same : (functions : List Function) (signatures : List Signature) (number : ℕ) (result : CType) (s : Signature) → signatures ≡ signatures_seen functions → Declares functions number result → slice_get signatures number ≡ Some s → s.result ≡ result
gives_same functions signatures number result s same is e =
    ap (λ (x : Signature). x.result) (same_some s (signature_seen is.function) (sym e ∙ (ap (λ xs. slice_get xs number) same ∙ mapped_at functions number is.function is.known))) ∙ is.gives

module _ (located : ℕ → Located) (pointer : Bool) (returns : ℕ → Bool) (takes : ℕ → List (ℕ × Option ℕ) → Bool) where
  abbrev Right : Around → CType → Bind → Type 0
  Right around kind bind = CallsRight located pointer returns takes around kind bind

  bound_right : (functions : List Function) (around : Around) (bind : Bind) (result : CType) → around.signatures ≡ signatures_seen functions → SignaturesWithin around.signatures → SymbolsServe located returns takes around.layout around.signatures
      → IsSigned functions bind result → Right around result bind
  bound_right functions around (d.Fun number) result same within serve is = λ s e. (within number s e, serve.serve number s e, λ p. ap sort_of (gives_same functions around.signatures number result s same is e) ∙ p)
  bound_right functions around (d.Global number) result same within serve is = tt
  bound_right functions around (d.Local number) result same within serve is = tt
  bound_right functions around (d.Service service) result same within serve is = tt
  bound_right functions around (d.Builtin builtin) result same within serve is = tt

  there : (around : Around) (bind : Bind) (kind : CType) (n : Notes) (r : Reached) → Front (meanings_of (with_kind kind (with_bind bind n))) around.meanings → IsAt r (meanings_of n) → Right around kind bind → Right around (kind_at around r) (bind_at around r)
  there around bind kind n r w at h = subst (λ k. Right around k (bind_at around r)) (sym (got_behind n.kinds around.meanings.kinds kind _ r.kind w.kinds at.kind))
      (subst (λ b. Right around kind b) (sym (got_behind n.binds around.meanings.binds bind (d.Local 0) r.name w.binds at.name)) h)

  with_right : (functions : List Function) (around : Around) (bind : Bind) (result : CType) (fits : Bool) (n : Notes) (r : Reached) → around.signatures ≡ signatures_seen functions → SignaturesWithin around.signatures
      → SymbolsServe located returns takes around.layout around.signatures → IsSigned functions bind result → (call_with bind result (Some fits)).broken ≡ [] → Front (meanings_of ((call_with bind result (Some fits)).noted n)) around.meanings → IsAt r (meanings_of n)
      → Right around (kind_at around r) (bind_at around r)
  with_right functions around bind result true n r same within serve is h w at = there around bind result n r w at (bound_right functions around bind result same within serve is)
  with_right functions around bind result false n r same within serve is h w at = cc

  -- a call without broken rules is of a function as it is declared, or of no function
  pub call_right : (functions : List Function) (around : Around) (found : Found) (fits : Bool) (n : Notes) (r : Reached) → around.signatures ≡ signatures_seen functions → SignaturesWithin around.signatures
      → SymbolsServe located returns takes around.layout around.signatures → FoundSigned functions found → (call_own found (Some fits)).broken ≡ [] → Front (meanings_of ((call_own found (Some fits)).noted n)) around.meanings → IsAt r (meanings_of n)
      → Right around (kind_at around r) (bind_at around r)
  unfolding call_own
  call_right functions around f.Missing fits n r same within serve is h w at = cc
  call_right functions around (f.Variable bind kind) fits n r same within serve is h w at = cc
  call_right functions around (f.Callable bind result params) fits n r same within serve is h w at = with_right functions around bind result fits n r same within serve is h w at
