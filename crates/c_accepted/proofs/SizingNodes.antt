-- The same of expressions, node by node.
use Rattle.std.proofs.Common.{◌≡◌, inr, ℕ, ◌≤◌, refl, sym, ap, subst, Bool, true, false, List, [], ◌∷◌, ◌++◌, map, length}
use Rattle.std.specs.Prelude.{Option, None, Some}
use Rattle.mx_base.specs.declared.places.Place.{Place}
use Rattle.c_tree.specs.declared.tree.Expr.{Expr}
use Rattle.c_tree.specs.declared.tree.ExprKind.{ExprKind-F}
use Rattle.c_tree.specs.declared.tree.ExprKind.TheOpen as e
use Rattle.c_types.specs.Types.{CType}
use Rattle.c_check_rules.specs.declared.names.Scope.{Scope}
use Rattle.c_check_rules.specs.declared.names.Variable.{Variable}
use Rattle.c_check_rules.specs.Names.{found_in}
use Rattle.c_check_typing.specs.declared.typed.Typed.{Typed}
use Rattle.c_check_typing.specs.declared.typed.Notes.{Notes}
use Rattle.c_check_typing.specs.Notes.{Own, one, two, three}
use Rattle.c_check_typing.specs.Rules.{params_of, params_after, takes_function, call_own}
use Rattle.c_check_typing.specs.Expressions.{Reading as Checking, arguments, and_fits, call, seen}
use Rattle.bounds_plan.specs.elaboration.Types.{sort_of}
use Rattle.bounds_plan.specs.elaboration.Source.{Reached, Around, kind_at, bind_at}
use Rattle.bounds_plan.specs.elaboration.Expressions.{Reading, called, find_all, binary, chosen_as, member, arrow, index, step, expression}
use Rattle.c_tree.proofs.Inductions.{ExprA, ExprB, bare_exprs, every_exprs}
use Rattle.c_accepted.specs.Alike.{meanings_of, IsAt, Front}
use Rattle.c_accepted.specs.Wholes.{IsWhole, NamesWholes}
use Rattle.c_accepted.proofs.Empty.{first_empty, second_empty, none_at}
use Rattle.c_accepted.proofs.Going.{front_then}
use Rattle.c_accepted.proofs.Closing.{AllFound_name, no_place_names, a_place_names, unary_names, binary_names, chosen_names, assign_names, stepped_names, cast_names, called_names, index_names, pointer_names}
use Rattle.c_accepted.proofs.Owns.{IsFine, any, Fine, unary_fine, binary_fine, choice_fine, assign_fine, step_fine, index_fine, member_fine, arrow_fine, cast_fine, call_fine}
use Rattle.c_accepted.proofs.Expressions.{front_own, fine_at, both_own, both_fine, all_own, BothA, BothB, step_both, struct_both, AreAlike, AreAlikeAt, PartsB, ArgumentsGo, arguments_go, name_at, every_step, both, checks_same, reads_same}
use Rattle.c_accepted.proofs.Sizing.{KnownBy, Whole, found_known, name_whole}

abbrev pub AreWhole : BothB → Type 0
AreWhole b = (functions : Bool) (scope : Scope) → (b.0 functions scope).broken ≡ [] → (vs : List Variable) → KnownBy vs scope.variables → (n : Notes) (around : Around) (r : Reached) → Front (meanings_of ((b.0 functions scope).after n)) around.meanings → IsAt r (meanings_of n) → Whole vs around (b.1 around r)

abbrev AreGood : BothB → Type 0
AreGood b = AreAlike b × AreWhole b

abbrev AreGoodAt : BothA → Type 0
AreGoodAt a = (place : Place) → AreGood (a.0 place, a.1 place)

abbrev GoodA : Type 0
GoodA = ExprA BothA BothB step_both struct_both AreGoodAt AreGood

abbrev GoodB : Type 0
GoodB = ExprB BothA BothB step_both struct_both AreGoodAt AreGood

abbrev bare : ExprKind-F GoodA GoodB → ExprKind-F BothA BothB
bare = bare_exprs BothA BothB step_both struct_both AreGoodAt AreGood

-- the one fact alone
abbrev weak : GoodB → PartsB
weak y = (y.0, y.1.0)

weak_same : (all : List GoodB) → map (λ y. y.0) (map weak all) ≡ map (λ y. y.0) all
weak_same [] = refl
weak_same (a ∷ more) = ap (λ bs. a.0 ∷ bs) (weak_same more)

-- ---- parts

any_fine : (own : Own) (kinds : CType → Type 0) → IsFine own None kinds → IsFine own None any
any_fine own kinds fine = record { typed = fine.typed; is = fine.is; notes = fine.notes; kind = tt }

one_whole : (place : Place) (own : Option Typed → Own) (scope : Scope) (a : GoodB) → ((t : Typed) → Fine (own (Some t))) → (one place (a.0.0 false scope) own).broken ≡ [] → (vs : List Variable) → KnownBy vs scope.variables → (n : Notes) (around : Around) (r : Reached)
    → Front (meanings_of ((one place (a.0.0 false scope) own).after n)) around.meanings → IsAt r (meanings_of n) → Whole vs around (a.0.1 around r)
unfolding one
one_whole place own scope a fine h vs few n around r w at = let s = a.0.0 false scope in let free = first_empty s.broken _ h in let x = a.1.0 false scope free in
    let here = fine_at own None any s.typed (Some x.typed) x.is (fine x.typed) (none_at place (own s.typed).broken (second_empty s.broken _ h)) in
    a.1.1 false scope free vs few n around r (front_then _ _ _ (front_own (own s.typed) None any here (s.after n)) w) at

two_whole : (place : Place) (own : Typed → Typed → Own) (scope : Scope) (a c : GoodB) → ((t u : Typed) → Fine (own t u)) → (two place (a.0.0 false scope) (c.0.0 false scope) own).broken ≡ [] → (vs : List Variable) → KnownBy vs scope.variables → (n : Notes) (around : Around) (r : Reached)
    → Front (meanings_of ((two place (a.0.0 false scope) (c.0.0 false scope) own).after n)) around.meanings → IsAt r (meanings_of n) → Whole vs around (a.0.1 around r) × Whole vs around (c.0.1 around (a.0.1 around r).after)
unfolding two
two_whole place own scope a c fine h vs few n around r w at = let s = a.0.0 false scope in let t = c.0.0 false scope in let parts = first_empty (s.broken ++ t.broken) _ h in
    let free = first_empty s.broken _ parts in let free1 = second_empty s.broken t.broken parts in let x = a.1.0 false scope free in let y = c.1.0 false scope free1 in
    let here = both_fine own any s.typed t.typed x.typed y.typed x.is y.is (fine x.typed y.typed) (none_at place _ (second_empty (s.broken ++ t.broken) _ h)) in
    let w1 = front_then _ _ _ (front_own (both_own own s.typed t.typed) None any here (t.after (s.after n))) w in let w0 = front_then _ _ _ (y.goes.on (s.after n)) w1 in
    (a.1.1 false scope free vs few n around r w0 at, c.1.1 false scope free1 vs few (s.after n) around (a.0.1 around r).after w1 (x.goes.at n around r w0 at))

three_whole : (place : Place) (own : Typed → Typed → Typed → Own) (scope : Scope) (a b c : GoodB) → ((t u v : Typed) → Fine (own t u v)) → (three place (a.0.0 false scope) (b.0.0 false scope) (c.0.0 false scope) own).broken ≡ [] → (vs : List Variable) → KnownBy vs scope.variables
    → (n : Notes) (around : Around) (r : Reached) → Front (meanings_of ((three place (a.0.0 false scope) (b.0.0 false scope) (c.0.0 false scope) own).after n)) around.meanings → IsAt r (meanings_of n)
    → Whole vs around (a.0.1 around r) × Whole vs around (b.0.1 around (a.0.1 around r).after) × Whole vs around (c.0.1 around (b.0.1 around (a.0.1 around r).after).after)
unfolding three
three_whole place own scope a b c fine h vs few n around r w at = let s = a.0.0 false scope in let t = b.0.0 false scope in let u = c.0.0 false scope in
    let parts = first_empty (s.broken ++ (t.broken ++ u.broken)) _ h in let others = second_empty s.broken (t.broken ++ u.broken) parts in
    let free = first_empty s.broken _ parts in let free1 = first_empty t.broken u.broken others in let free2 = second_empty t.broken u.broken others in
    let x = a.1.0 false scope free in let y = b.1.0 false scope free1 in let z = c.1.0 false scope free2 in
    let here = fine_at (λ o. all_own own o t.typed u.typed) None any s.typed (Some x.typed) x.is (fine_at (λ o. all_own own (Some x.typed) o u.typed) None any t.typed (Some y.typed) y.is
    (fine_at (λ o. all_own own (Some x.typed) (Some y.typed) o) None any u.typed (Some z.typed) z.is (fine x.typed y.typed z.typed))) (none_at place _ (second_empty (s.broken ++ (t.broken ++ u.broken)) _ h)) in
    let w2 = front_then _ _ _ (front_own (all_own own s.typed t.typed u.typed) None any here (u.after (t.after (s.after n)))) w in
    let w1 = front_then _ _ _ (z.goes.on (t.after (s.after n))) w2 in let w0 = front_then _ _ _ (y.goes.on (s.after n)) w1 in
    let r1 = (a.0.1 around r).after in let at1 = x.goes.at n around r w0 at in
    (a.1.1 false scope free vs few n around r w0 at, b.1.1 false scope free1 vs few (s.after n) around r1 w1 at1, c.1.1 false scope free2 vs few (t.after (s.after n)) around (b.0.1 around r1).after w2 (y.goes.at (s.after n) around r1 w1 at1))

-- ---- calls

abbrev checks : List GoodB → List Checking
checks all = map (λ b. b.0) (map (λ y. y.0) all)

abbrev finds : List GoodB → List Reading
finds all = map (λ b. b.1) (map (λ y. y.0) all)

abbrev AllGo : Scope → Option Bool → List CType → List BothB → Type 0
AllGo scope fit params bs = (arguments scope fit params (map (λ b. b.0) bs)).broken ≡ [] → ArgumentsGo (arguments scope fit params (map (λ b. b.0) bs)) (λ around r. (find_all (map (λ b. b.1) bs) around r).after)

all_go : (all : List GoodB) (scope : Scope) (fit : Bool) (params : List CType) → AllGo scope (Some fit) params (map (λ y. y.0) all)
all_go all scope fit params = subst (AllGo scope (Some fit) params) (weak_same all) (arguments_go (map weak all) scope fit params)

abbrev AllWhole : Scope → Option Bool → List CType → List GoodB → Type 0
AllWhole scope fit params all = (arguments scope fit params (checks all)).broken ≡ [] → (vs : List Variable) → KnownBy vs scope.variables → (n : Notes) (around : Around) (r : Reached) → Front (meanings_of ((arguments scope fit params (checks all)).after n)) around.meanings → IsAt r (meanings_of n)
    → AllFound_name (IsWhole vs around.structs around.layout) (λ offset size. Unit {0}) (λ x. Unit {0}) (find_all (finds all) around r).all

all_whole : (all : List GoodB) (scope : Scope) (fit : Bool) (params : List CType) → AllWhole scope (Some fit) params all
all_whole [] scope fit params h vs few n around r w at = tt
all_whole (a ∷ more) scope fit params h vs few n around r w at = let s = a.0.0 (takes_function params) scope in let free = first_empty s.broken _ h in let others = second_empty s.broken _ h in
    let x = a.1.0 (takes_function params) scope free in let same = sym (ap (and_fits (Some fit) params) x.is) in let fits = and_fits (Some fit) params s.typed in
    let go = subst (λ o. AllGo scope o (params_after params) (map (λ y. y.0) more)) same (all_go more scope _ (params_after params)) others in
    let rest = subst (λ o. AllWhole scope o (params_after params) more) same (all_whole more scope _ (params_after params)) others vs few in
    let w0 = front_then _ _ _ (go.goes.on (s.after n)) w in
    (a.1.1 (takes_function params) scope free vs few n around r w0 at, rest (s.after n) around (a.0.1 around r).after w (x.goes.at n around r w0 at))

call_whole : (name : List ℕ) (all : List GoodB) (place : Place) (scope : Scope) → (call place scope (found_in scope name) (checks all)).broken ≡ [] → (vs : List Variable) → KnownBy vs scope.variables → (n : Notes) (around : Around) (r : Reached)
    → Front (meanings_of ((call place scope (found_in scope name) (checks all)).after n)) around.meanings → IsAt r (meanings_of n) → Whole vs around (step (e.Call name (finds all)) place around r)
unfolding call
call_whole name all place scope h vs few n around r w at = let found = found_in scope name in let args = arguments scope (Some true) (params_of found) (checks all) in let free = first_empty args.broken _ h in
    let go = all_go all scope true (params_of found) free in let named = name_at (call_own found) args.fit go.fits go.is (call_fine found go.fits) (none_at place _ (second_empty args.broken _ h)) in
    let w0 = front_then _ _ _ (front_own (call_own found args.fit) (Some named.bind) any named.fine (args.after n)) w in let xs = find_all (finds all) around r in
    no_place_names _ _ _ (kind_at around xs.after) (called around (kind_at around xs.after) (bind_at around xs.after) xs.all) place _
    (called_names _ _ _ around (kind_at around xs.after) (bind_at around xs.after) xs.all (all_whole all scope true (params_of found) free vs few n around r w0 at))

-- ---- expressions

alike_step : (y : ExprKind-F GoodA GoodB) → AreAlikeAt (step_both (bare y))
alike_step (e.Number n kind) = every_step (e.Number n kind)
alike_step (e.Text bytes) = every_step (e.Text bytes)
alike_step (e.Var name) = every_step (e.Var name)
alike_step (e.Unary op a) = every_step (e.Unary op (weak a))
alike_step (e.Binary op a c) = every_step (e.Binary op (weak a) (weak c))
alike_step (e.Assign op a c) = every_step (e.Assign op (weak a) (weak c))
alike_step (e.StepBy up before a) = every_step (e.StepBy up before (weak a))
alike_step (e.Cond c a d) = every_step (e.Cond (weak c) (weak a) (weak d))
alike_step (e.Call name all) = subst (λ bs. AreAlikeAt (step_both (e.Call name bs))) (weak_same all) (every_step (e.Call name (map weak all)))
alike_step (e.Index a i) = every_step (e.Index (weak a) (weak i))
alike_step (e.Member a name) = every_step (e.Member (weak a) name)
alike_step (e.Arrow a name) = every_step (e.Arrow (weak a) name)
alike_step (e.Cast base stars a) = every_step (e.Cast base stars (weak a))
alike_step (e.SizeOfKind base stars) = every_step (e.SizeOfKind base stars)
alike_step (e.SizeOfValue a) = every_step (e.SizeOfValue (weak a))

whole_step : (y : ExprKind-F GoodA GoodB) (place : Place) → AreWhole ((step_both (bare y)).0 place, (step_both (bare y)).1 place)
whole_step (e.Number k kind) place functions scope h vs few n around r w at = no_place_names _ _ _ _ _ place _ tt
whole_step (e.Text bytes) place functions scope h vs few n around r w at = let there = inr (inr record { number = r.literal; at = refl; begins = refl }) in record { value = there; lvalue = there; effect = there }
whole_step (e.Var name) place functions scope h vs few n around r w at = name_whole vs functions (found_in scope name) place _ (found_known scope vs few name) h n around r w at
whole_step (e.Unary op a) place functions scope h vs few n around r w at = unary_names _ _ _ op _ (a.0.1 around r) place _ (one_whole place _ scope a (unary_fine scope.structs op) h vs few n around r w at)
whole_step (e.Binary op a c) place functions scope h vs few n around r w at = let x = a.0.1 around r in let y = c.0.1 around x.after in let k = two_whole place _ scope a c (binary_fine scope.structs op) h vs few n around r w at in
    no_place_names _ _ _ _ (binary op around x y) place _ (binary_names _ _ _ op around x y k.0 k.1)
whole_step (e.Assign op a c) place functions scope h vs few n around r w at = let x = a.0.1 around r in
    let k = two_whole place _ scope a c (λ t u free. any_fine _ _ (assign_fine scope.structs op t u free)) h vs few n around r w at in assign_names _ _ _ op around x (c.0.1 around x.after) place _ k.0 k.1
whole_step (e.StepBy up before a) place functions scope h vs few n around r w at = stepped_names _ _ _ around up before (a.0.1 around r) place _ (one_whole place _ scope a (λ t free. any_fine _ _ (step_fine scope.structs t free)) h vs few n around r w at)
whole_step (e.Cond c a d) place functions scope h vs few n around r w at = let x = c.0.1 around r in let y = a.0.1 around x.after in let z = d.0.1 around y.after in let k = three_whole place _ scope c a d choice_fine h vs few n around r w at in
    no_place_names _ _ _ (kind_at around z.after) (chosen_as (sort_of (kind_at around z.after)) x y z) place _ (chosen_names _ _ _ (sort_of (kind_at around z.after)) x y z k.0 k.1 k.2)
whole_step (e.Call name all) place functions scope h vs few n around r w at = call_whole name all place scope h vs few n around r w at
whole_step (e.Index a i) place functions scope h vs few n around r w at = let x = a.0.1 around r in let y = i.0.1 around x.after in let k = two_whole place _ scope a i (index_fine scope.structs) h vs few n around r w at in
    a_place_names _ _ _ (kind_at around y.after) (index around (kind_at around y.after) x y) place _ (index_names _ _ _ around (kind_at around y.after) x y k.0 k.1)
whole_step (e.Member a name) place functions scope h vs few n around r w at = let x = a.0.1 around r in
    a_place_names _ _ _ (kind_at around x.after) (member around (kind_at around x.after) x name) place _ (pointer_names _ _ _ x.value (one_whole place _ scope a (member_fine scope.structs name) h vs few n around r w at).value)
whole_step (e.Arrow a name) place functions scope h vs few n around r w at = let x = a.0.1 around r in
    a_place_names _ _ _ (kind_at around x.after) (arrow around (kind_at around x.after) x name) place _ (pointer_names _ _ _ x.value (one_whole place _ scope a (arrow_fine scope.structs name) h vs few n around r w at).value)
whole_step (e.Cast base stars a) place functions scope h vs few n around r w at = let x = a.0.1 around r in
    no_place_names _ _ _ (kind_at around x.after) _ place _ (cast_names _ _ _ (sort_of (kind_at around x.after)) x.type x.value (one_whole place _ scope a (cast_fine scope base stars) h vs few n around r w at).value)
whole_step (e.SizeOfKind base stars) place functions scope h vs few n around r w at = no_place_names _ _ _ _ _ place _ tt
whole_step (e.SizeOfValue a) place functions scope h vs few n around r w at = no_place_names _ _ _ _ _ place _ tt

good_step : (y : ExprKind-F GoodA GoodB) → AreGoodAt (step_both (bare y))
good_step y place = (alike_step y place, whole_step y place)

pub expressions_whole : (x : Expr) → AreWhole (seen x, expression x)
expressions_whole x = subst (λ check. AreWhole (check, expression x)) (checks_same x) (subst (λ read. AreWhole ((both x).0, read)) (reads_same x) (every_exprs BothA BothB step_both struct_both AreGoodAt AreGood good_step (λ y. y.kind.1 y.place) x).1)

pub effects_whole : (x : Expr) (functions : Bool) (scope : Scope) → length scope.variables ≤ 4294967295 → (seen x functions scope).broken ≡ [] → (n : Notes) (around : Around) (r : Reached) → Front (meanings_of ((seen x functions scope).after n)) around.meanings → IsAt r (meanings_of n)
    → NamesWholes scope.variables around (expression x around r).effect
effects_whole x functions scope few h n around r w at = (expressions_whole x functions scope h scope.variables record { few = few; stay = λ number type there. there } n around r w at).effect
