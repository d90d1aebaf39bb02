-- A name means to the elaboration what the checker finds by it.
use Rattle.std.proofs.Common.{◌≡◌, refl, sym, subst, Bool, true, false, List, [], ◌∷◌, ◌++◌}
use Rattle.std.specs.Prelude.{Option, Some}
use Rattle.mx_base.specs.declared.places.Place.{Place}
use Rattle.c_types.specs.Types.{CType}
use Rattle.c_check_rules.specs.declared.predeclared.Bind.{Bind}
use Rattle.c_check_rules.specs.declared.predeclared.Bind.TheVariants as d
use Rattle.c_check_rules.specs.declared.predeclared.Found.{Found}
use Rattle.c_check_rules.specs.declared.predeclared.Found.TheVariants as f
use Rattle.c_check_typing.specs.declared.typed.Notes.{Notes}
use Rattle.c_check_typing.specs.Notes.{Own, leaf}
use Rattle.c_check_typing.specs.Rules.{function_named, name_own, call_with, call_own}
use Rattle.c_check_typing.specs.Expressions.{Arguments, call_seen}
use Rattle.bounds_plan.specs.laws.Roots.{Begins}
use Rattle.bounds_plan.specs.elaboration.Source.{Reached, Around, bind_at}
use Rattle.c_accepted.specs.Alike.{meanings_of, IsAt, Front, MeansIt}
use Rattle.c_accepted.proofs.Empty.{second_empty, none_at}
use Rattle.c_accepted.proofs.Going.{got_behind}

-- a node that notes what its name is bound to
record NotesName (found : Found) (own : Own) : Type 0 where
  bind : Bind
  means : MeansIt found bind
  notes : (n : Notes) → (own.noted n).binds ≡ n.binds ++ (bind ∷ [])

function_noted : (functions : Bool) (bind : Bind) (result : CType) (params : List CType) → (function_named functions bind).broken ≡ [] → NotesName (f.Callable bind result params) (function_named functions bind)
function_noted true (d.Fun number) result params h = record { bind = d.Fun number; means = refl; notes = λ n. refl }
function_noted true (d.Global number) result params h = cc
function_noted true (d.Local number) result params h = cc
function_noted true (d.Service service) result params h = cc
function_noted true (d.Builtin builtin) result params h = cc
function_noted false bind result params h = cc

name_noted : (functions : Bool) (found : Found) → (name_own functions found).broken ≡ [] → NotesName found (name_own functions found)
unfolding name_own
name_noted functions f.Missing h = cc
name_noted functions (f.Variable bind kind) h = record { bind = bind; means = refl; notes = λ n. refl }
name_noted functions (f.Callable bind result params) h = function_noted functions bind result params h

call_with_noted : (bind : Bind) (result : CType) (params : List CType) (fits : Bool) → (call_with bind result (Some fits)).broken ≡ [] → NotesName (f.Callable bind result params) (call_with bind result (Some fits))
call_with_noted bind result params true h = record { bind = bind; means = refl; notes = λ n. refl }
call_with_noted bind result params false h = cc

call_noted : (found : Found) (fits : Bool) → (call_own found (Some fits)).broken ≡ [] → NotesName found (call_own found (Some fits))
unfolding call_own
call_noted f.Missing fits h = cc
call_noted (f.Variable bind kind) fits h = cc
call_noted (f.Callable bind result params) fits h = call_with_noted bind result params fits h

there : (found : Found) (own : Own) → NotesName found own → (n : Notes) (around : Around) (r : Reached) → Front (meanings_of (own.noted n)) around.meanings → IsAt r (meanings_of n) → MeansIt found (bind_at around r)
there found own named n around r w h = subst (MeansIt found) (sym (got_behind n.binds around.meanings.binds named.bind (d.Local 0) r.name (subst (λ bs. Begins bs around.meanings.binds) (named.notes n) w.binds) h.name)) named.means

pub names_mean : (place : Place) (functions : Bool) (found : Found) → (leaf place (name_own functions found)).broken ≡ [] → (n : Notes) (around : Around) (r : Reached) → Front (meanings_of ((leaf place (name_own functions found)).after n)) around.meanings → IsAt r (meanings_of n)
    → MeansIt found (bind_at around r)
unfolding leaf
names_mean place functions found h n around r w a = there found (name_own functions found) (name_noted functions found (none_at place _ h)) n around r w a

known_fit : (found : Found) (fit : Option Bool) (fits : Bool) → fit ≡ Some fits → (call_own found fit).broken ≡ [] → NotesName found (call_own found fit)
known_fit found fit fits e h = subst (λ o. (call_own found o).broken ≡ [] → NotesName found (call_own found o)) (sym e) (call_noted found fits) h

pub calls_mean : (place : Place) (found : Found) (args : Arguments) (fits : Bool) → args.fit ≡ Some fits → (call_seen place found args).broken ≡ [] → (n : Notes) (around : Around) (r : Reached) → Front (meanings_of ((call_seen place found args).after n)) around.meanings → IsAt r (meanings_of (args.after n))
    → MeansIt found (bind_at around r)
calls_mean place found args fits e h n around r w a = there found (call_own found args.fit) (known_fit found args.fit fits e (none_at place _ (second_empty args.broken _ h))) (args.after n) around r w a
