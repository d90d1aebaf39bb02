-- What is seen of an expression in a scope, from its leaves up.
use Rattle.std.specs.Prelude.{◌≡◌, Bool, true, false, ◌&&◌, List, [], ◌∷◌, ◌++◌, Option, None, Some, Result, Ok, Err}
use Rattle.mx_base.specs.declared.places.Place.{Place}
use Rattle.c_tree.specs.declared.tree.Expr.{Expr, fold-Expr}
use Rattle.c_tree.specs.declared.tree.ExprKind.{ExprKind-F}
use Rattle.c_tree.specs.declared.tree.ExprKind.TheOpen as e
use Rattle.c_types.specs.Types.{CType}
use Rattle.c_check_rules.specs.declared.predeclared.Found.{Found}
use Rattle.c_check_rules.specs.declared.names.Scope.{Scope}
use Rattle.c_check_rules.specs.Names.{found_in}
use Rattle.c_check_typing.specs.declared.typed.Typed.{Typed}
use Rattle.c_check_typing.specs.declared.typed.Notes.{Notes}
use Rattle.c_check_typing.specs.declared.fault.Broken.{Broken}
use Rattle.c_check_typing.specs.declared.fault.CheckFault.{CheckFault}
use Rattle.c_check_typing.specs.declared.fault.CheckFault.TheVariants.{Refused, OutOfMemory}
use Rattle.c_check_typing.specs.Refusals.{FirstIs, broken_at}
use Rattle.c_check_typing.specs.Notes.{Seen, leaf, one, two, three, node, unevaluated, unchanged, with_typed}
use Rattle.c_check_typing.specs.Rules.{number_own, text_own, name_own, unary_own, binary_own, choice_own, assign_own, step_own, index_own, member_own, arrow_own, cast_own, size_own, size_of_kind_own, call_own, params_of, params_after, takes_function, argument_fits, is_empty}

-- an expression by its scope, and whether the name of a function may stand there
abbrev pub Reading : Type 0
Reading = (functions : Bool) → Scope → Seen

-- ---- arguments

-- whether arguments fit their parameters, as far as their types are known
pub record Arguments : Type 0 where
  pub fit : Option Bool
  pub after : Notes → Notes
  pub broken : List Broken

abbrev pub and_fits : Option Bool → List CType → Option Typed → Option Bool
and_fits None params a = None
and_fits (Some fit) params None = None
and_fits (Some fit) params (Some t) = Some (fit && argument_fits params t)

-- no parameter is left without an argument
abbrev pub all_given : Option Bool → List CType → Option Bool
all_given None params = None
all_given (Some fit) params = Some (fit && is_empty params)

abbrev pub argument_before : Seen → Arguments → Arguments
argument_before a rest = record { fit = rest.fit; after = λ notes. rest.after (a.after notes); broken = a.broken ++ rest.broken }

-- arguments for these parameters, from the left, after some that fit or not
abbrev pub arguments : Scope → (fit : Option Bool) → List CType → List Reading → Arguments
arguments scope fit params [] = record { fit = all_given fit params; after = unchanged; broken = [] }
arguments scope fit params (a ∷ more) = argument_before (a (takes_function params) scope) (arguments scope (and_fits fit params (a (takes_function params) scope).typed) (params_after params) more)

abbrev pub call_seen : Place → Found → Arguments → Seen
call_seen place found args = node place args.broken args.after (call_own found args.fit)

-- a call, whose arguments come before its name
unfoldable pub call : Place → Scope → Found → List Reading → Seen
call place scope found all = call_seen place found (arguments scope (Some true) (params_of found) all)

-- ---- expressions

abbrev pub kind_step : ExprKind-F (Place → Reading) Reading → Place → Reading
kind_step (e.Number n kind) place functions scope = leaf place (number_own n kind)
kind_step (e.Text bytes) place functions scope = leaf place (text_own bytes)
kind_step (e.Var name) place functions scope = leaf place (name_own functions (found_in scope name))
kind_step (e.Unary op a) place functions scope = one place (a false scope) (λ x. with_typed x (unary_own scope.structs op))
kind_step (e.Binary op a b) place functions scope = two place (a false scope) (b false scope) (binary_own scope.structs op)
kind_step (e.Assign op a b) place functions scope = two place (a false scope) (b false scope) (assign_own scope.structs op)
kind_step (e.StepBy up before a) place functions scope = one place (a false scope) (λ x. with_typed x (step_own scope.structs))
kind_step (e.Cond c a b) place functions scope = three place (c false scope) (a false scope) (b false scope) choice_own
kind_step (e.Call name all) place functions scope = call place scope (found_in scope name) all
kind_step (e.Index a b) place functions scope = two place (a false scope) (b false scope) (index_own scope.structs)
kind_step (e.Member a name) place functions scope = one place (a false scope) (λ x. with_typed x (member_own scope.structs name))
kind_step (e.Arrow a name) place functions scope = one place (a false scope) (λ x. with_typed x (arrow_own scope.structs name))
kind_step (e.Cast base stars a) place functions scope = one place (a false scope) (cast_own scope base stars)
kind_step (e.SizeOfKind base stars) place functions scope = leaf place (size_of_kind_own scope base stars)
kind_step (e.SizeOfValue a) place functions scope = one place (unevaluated (a false scope)) (λ x. with_typed x (λ t. size_own scope.structs t.kind))

abbrev pub seen : Expr → Reading
seen = fold-Expr (Place → Reading) Reading kind_step (λ x. x.kind x.place)

-- ---- what a walk through arguments answers: whether they fit, and the notes after them, or the first rule that is broken in them

abbrev pub reads_all : Arguments → (old : Notes) → Result Bool CheckFault → (new : Notes) → Type 0
reads_all args old (Ok fit) new = (args.broken ≡ []) × (args.fit ≡ Some fit) × (new ≡ args.after old)
reads_all args old (Err (Refused kind at)) new = FirstIs args.broken (broken_at at kind)
reads_all args old (Err OutOfMemory) new = Unit {0}

pub record ReadsAll (args : Arguments) (old : Notes) (result : Result Bool CheckFault) (new : Notes) : Type 0 where
  pub is : reads_all args old result new
