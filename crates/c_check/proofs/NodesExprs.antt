-- An expression breaks what its parts break, from left to right, and then its own rules.
use Rattle.std.proofs.Common.{◌≡◌, ap, sym, ◌∙◌, refl, Bool, true, false, List, [], ◌∷◌, ◌++◌, map, append-nil, rules}
use Rattle.std.specs.Prelude.{flat_map, Option, Some}
use Rattle.mx_base.specs.declared.places.Place.{Place}
use Rattle.c_tree.specs.declared.tree.Expr.{Expr, the_lemmas}
use Rattle.c_tree.specs.declared.tree.ExprKind.{ExprKind, ExprKind-F, fold-ExprKind, fold_out-ExprKind, map-ExprKind, out-ExprKind}
use Rattle.c_tree.specs.declared.tree.ExprKind.TheOpen as e
use Rattle.c_types.specs.Types.{CType}
use Rattle.c_check_rules.specs.Names.{found_in}
use Rattle.c_check_typing.specs.declared.fault.Broken.{Broken}
use Rattle.c_check_typing.specs.Refusals.{all_at}
use Rattle.c_check_typing.specs.Notes.{leaf, one, two, three, unevaluated}
use Rattle.c_check_typing.specs.Rules as rule
use Rattle.c_check_typing.specs.Expressions.{Reading, seen, kind_step, call, arguments}
use Rattle.c_check_statements.specs.declared.state.State.{State}
use Rattle.c_check.specs.Nodes.{expr_parts, argument_nodes}
use Rattle.c_check.specs.NodeRules.{expr_own, broken_in}

abbrev layer : ExprKind-F ExprKind Expr → ExprKind-F (Place → Reading) Reading
layer = map-ExprKind ExprKind Expr (Place → Reading) Reading (fold-ExprKind (Place → Reading) Reading kind_step (λ x. x.kind x.place)) seen

opened : (x : Expr) → seen x ≡ fold-ExprKind (Place → Reading) Reading kind_step (λ y. y.kind y.place) x.kind x.place
opened x = search (rules, the_lemmas)

pub seen_by_form : (x : Expr) → seen x ≡ kind_step (layer (out-ExprKind x.kind)) x.place
seen_by_form x = opened x ∙ ap (λ (r : Place → Reading). r x.place) (fold_out-ExprKind (Place → Reading) Reading kind_step (λ y. y.kind y.place) x.kind)

pub arguments_broken : (state : State) (all : List Expr) (fit : Option Bool) (params : List CType)
    → (arguments state.scope fit params (map seen all)).broken ≡ flat_map broken_in (argument_nodes params all state)
arguments_broken state [] fit params = refl
arguments_broken state (x ∷ more) fit params = ap (λ (l : List Broken). (seen x (rule.takes_function params) state.scope).broken ++ l)
    (arguments_broken state more _ (rule.params_after params))

first_of_one : (xs ys : List Broken) → xs ++ ys ≡ (xs ++ []) ++ ys
first_of_one xs ys = ap (λ (l : List Broken). l ++ ys) (sym (append-nil xs))

first_of_two : (xs ys zs : List Broken) → (xs ++ ys) ++ zs ≡ (xs ++ (ys ++ [])) ++ zs
first_of_two xs ys zs = ap (λ (l : List Broken). (xs ++ l) ++ zs) (sym (append-nil ys))

first_of_three : (xs ys zs ws : List Broken) → (xs ++ (ys ++ zs)) ++ ws ≡ (xs ++ (ys ++ (zs ++ []))) ++ ws
first_of_three xs ys zs ws = ap (λ (l : List Broken). (xs ++ (ys ++ l)) ++ ws) (sym (append-nil zs))

module _ (p : Place) (functions : Bool) (state : State) where
  abbrev broken_of : Expr → List Broken
  broken_of x = (seen x false state.scope).broken

  abbrev own_at : ExprKind-F ExprKind Expr → List Broken
  own_at k = all_at p (expr_own k functions state).broken

  form_broken : (k : ExprKind-F ExprKind Expr) → (kind_step (layer k) p functions state.scope).broken ≡ flat_map broken_in (expr_parts k state) ++ own_at k
  unfolding leaf one two three unevaluated call
  form_broken (e.Number n kind) = refl
  form_broken (e.Text bytes) = refl
  form_broken (e.Var name) = refl
  form_broken (e.Unary op a) = first_of_one (broken_of a) (own_at (e.Unary op a))
  form_broken (e.Binary op a b) = first_of_two (broken_of a) (broken_of b) (own_at (e.Binary op a b))
  form_broken (e.Assign op a b) = first_of_two (broken_of a) (broken_of b) (own_at (e.Assign op a b))
  form_broken (e.StepBy up before a) = first_of_one (broken_of a) (own_at (e.StepBy up before a))
  form_broken (e.Cond c a b) = first_of_three (broken_of c) (broken_of a) (broken_of b) (own_at (e.Cond c a b))
  form_broken (e.Call name all) = ap (λ (l : List Broken). l ++ own_at (e.Call name all)) (arguments_broken state all (Some true) (rule.params_of (found_in state.scope name)))
  form_broken (e.Index a b) = first_of_two (broken_of a) (broken_of b) (own_at (e.Index a b))
  form_broken (e.Member a name) = first_of_one (broken_of a) (own_at (e.Member a name))
  form_broken (e.Arrow a name) = first_of_one (broken_of a) (own_at (e.Arrow a name))
  form_broken (e.Cast base stars a) = first_of_one (broken_of a) (own_at (e.Cast base stars a))
  form_broken (e.SizeOfKind base stars) = refl
  form_broken (e.SizeOfValue a) = first_of_one (broken_of a) (own_at (e.SizeOfValue a))

pub expr_broken : (x : Expr) (functions : Bool) (state : State)
    → (seen x functions state.scope).broken ≡ flat_map broken_in (expr_parts (out-ExprKind x.kind) state) ++ all_at x.place (expr_own (out-ExprKind x.kind) functions state).broken
expr_broken x functions state = ap (λ (r : Reading). (r functions state.scope).broken) (seen_by_form x) ∙ form_broken x.place functions state (out-ExprKind x.kind)
