-- The elaboration and the checker go through an expression alike, and find the same type.
use Rattle.std.proofs.Common.{◌≡◌, ℕ, refl, sym, ap, ◌∙◌, subst, Bool, true, false, ◌||◌, List, [], ◌∷◌, ◌++◌, map}
use Rattle.std.specs.Prelude.{Option, None, Some}
use Rattle.mx_base.specs.declared.places.Place.{Place}
use Rattle.mx_base.specs.declared.operators.Arithmetic.{Arithmetic}
use Rattle.c_tree.specs.declared.tree.Expr.{Expr, Expr-F, fold-Expr}
use Rattle.c_tree.specs.declared.tree.ExprKind.{ExprKind-F}
use Rattle.c_tree.specs.declared.tree.ExprKind.TheFolds as ef
use Rattle.c_tree.specs.declared.tree.ExprKind.TheOpen as e
use Rattle.c_types.specs.Types.{CType, Void, Int, Pointer, Array, Struct}
use Rattle.c_check_rules.specs.declared.names.Scope.{Scope}
use Rattle.c_check_rules.specs.declared.predeclared.Bind.{Bind}
use Rattle.c_check_rules.specs.Kinds.{outer_of}
use Rattle.c_check_rules.specs.Names.{found_in}
use Rattle.c_check_typing.specs.declared.typed.Typed.{Typed}
use Rattle.c_check_typing.specs.declared.typed.Notes.{Notes}
use Rattle.c_check_typing.specs.declared.fault.Broken.{Broken}
use Rattle.c_check_typing.specs.declared.fault.CheckKind.TheVariants.{NotPlace}
use Rattle.c_check_typing.specs.Refusals.{breaks}
use Rattle.c_check_typing.specs.Notes.{Own, Seen, node, leaf, one, two, three, unevaluated, unchanged, with_typed, judged}
use Rattle.c_check_typing.specs.Rules.{params_of, params_after, takes_function, is_array, is_no_target, is_no_source, assign_own, step_own, call_own}
use Rattle.c_check_typing.specs.Expressions.{Reading as Checking, Arguments, arguments, and_fits, call, kind_step, seen}
use Rattle.bounds_plan.specs.laws.Laws.{OfEffect}
use Rattle.bounds_plan.specs.elaboration.Source.{Meanings, Reached, Around, kind_at, bind_at, past_kind, past_literal}
use Rattle.bounds_plan.specs.elaboration.Expressions.{Reading, find_all, without_literals, step, expression}
use Rattle.c_tree.proofs.Inductions.{ExprA, ExprB, bare_exprs, every_exprs, exprs_fused}
use Rattle.c_accepted.specs.Alike.{IsSmall, meanings_of, IsAt, Front}
use Rattle.c_accepted.proofs.Empty.{first_empty, second_empty, none_at, not_broken, neither}
use Rattle.c_accepted.proofs.Going.{front_then, passed, front_added, past_added, kind_stands, Goes, goes_nowhere, goes_then}
use Rattle.c_accepted.proofs.Gives.{AreSmall, Gives, no_place_gives, a_place_gives, named_gives, unary_gives, NoArray, assign_gives, stepped_gives}
use Rattle.c_accepted.proofs.Owns.{IsFine, any, Fine, FineName, number_fine, text_fine, unary_fine, binary_fine, choice_fine, assign_fine, step_fine, index_fine, member_fine, arrow_fine, cast_fine, size_fine, size_of_kind_fine, name_fine, call_fine}

-- an expression without broken rules: the checker knows its type, both go through it alike, and the elaboration finds that type
pub record Alike (s : Seen) (read : Reading) : Type 0 where
  pub typed : Typed
  pub is : s.typed ≡ Some typed
  pub goes : Goes s.after (λ around r. (read around r).after)
  pub type : (n : Notes) (around : Around) (r : Reached) → Front (meanings_of (s.after n)) around.meanings → IsAt r (meanings_of n) → (read around r).type ≡ typed.kind
  pub copies : (n : Notes) (around : Around) (r : Reached) → Front (meanings_of (s.after n)) around.meanings → IsAt r (meanings_of n) → AreSmall around.structs → OfEffect IsSmall (read around r).effect

-- ---- one node

pub front_own : (own : Own) (bind : Option Bind) (kinds : CType → Type 0) → (fine : IsFine own bind kinds) → (n : Notes) → Front (meanings_of n) (meanings_of (own.noted n))
front_own own bind kinds fine n = subst (Front (meanings_of n)) (sym (fine.notes n)) (front_added fine.typed.kind bind (meanings_of n))

abbrev GivesThere : Own → (Notes → Notes) → Option Bind → Typed → (Around → Reached → Reached) → Reading → Type 0
GivesThere own f bind t p read = (n : Notes) (around : Around) (r : Reached) → Front (meanings_of (own.noted (f n))) around.meanings → IsAt r (meanings_of n) → Gives around.structs t.kind (passed bind (p around r)) (read around r)

node_goes : (f : Notes → Notes) (own : Own) (bind : Option Bind) (kinds : CType → Type 0) → (fine : IsFine own bind kinds) → (p : Around → Reached → Reached) → Goes f p → (read : Reading)
    → GivesThere own f bind fine.typed p read → Goes (λ n. own.noted (f n)) (λ around r. (read around r).after)
node_goes f own bind kinds fine p goes read gives = record {
  on = λ n. front_then _ _ _ (goes.on n) (front_own own bind kinds fine (f n));
  still = λ n. ap (λ (m : Meanings). m.declared) (fine.notes (f n)) ∙ goes.still n;
  at = λ n around r w a. subst (λ x. IsAt x (meanings_of (own.noted (f n)))) (sym (gives n around r w a).after_is) (subst (IsAt (passed bind (p around r))) (sym (fine.notes (f n)))
      (past_added fine.typed.kind bind (meanings_of (f n)) (p around r) (goes.at n around r (front_then _ _ _ (front_own own bind kinds fine (f n)) w) a)));
}

node_alike : (place : Place) (broken : List Broken) (f : Notes → Notes) (own : Own) (bind : Option Bind) (kinds : CType → Type 0) → (fine : IsFine own bind kinds) → (p : Around → Reached → Reached) → Goes f p → (read : Reading)
    → GivesThere own f bind fine.typed p read → Alike (node place broken f own) read
node_alike place broken f own bind kinds fine p goes read gives = record {
  typed = fine.typed;
  is = fine.is;
  goes = node_goes f own bind kinds fine p goes read gives;
  type = λ n around r w a. (gives n around r w a).type_is;
  copies = λ n around r w a. (gives n around r w a).copies;
}

-- one whose type the elaboration takes from the notes
kind_alike : (place : Place) (broken : List Broken) (f : Notes → Notes) (own : Own) (bind : Option Bind) (kinds : CType → Type 0) → (fine : IsFine own bind kinds) → (p : Around → Reached → Reached) → Goes f p → (read : Reading)
    → ((around : Around) (r : Reached) → Gives around.structs (kind_at around (p around r)) (passed bind (p around r)) (read around r)) → Alike (node place broken f own) read
kind_alike place broken f own bind kinds fine p goes read gives = node_alike place broken f own bind kinds fine p goes read (λ n around r w a. record {
  type_is = (gives around r).type_is ∙ kind_stands fine.typed.kind bind (meanings_of (f n)) around.meanings (p around r) (subst (λ m. Front m around.meanings) (fine.notes (f n)) w)
      (goes.at n around r (front_then _ _ _ (front_own own bind kinds fine (f n)) w) a);
  after_is = (gives around r).after_is;
  copies = (gives around r).copies;
})

-- ---- nodes with parts

pub fine_at : (own : Option Typed → Own) (bind : Option Bind) (kinds : CType → Type 0) (seen t : Option Typed) → seen ≡ t → ((own t).broken ≡ [] → IsFine (own t) bind kinds) → (own seen).broken ≡ [] → IsFine (own seen) bind kinds
fine_at own bind kinds seen t same h b = subst (λ x. (own x).broken ≡ [] → IsFine (own x) bind kinds) (sym same) h b

leaf_alike : (place : Place) (own : Own) → Fine own → (leaf place own).broken ≡ [] → (read : Reading) → ((around : Around) (r : Reached) → Gives around.structs (kind_at around r) (past_kind r) (read around r)) → Alike (leaf place own) read
unfolding leaf
leaf_alike place own fine h read gives = kind_alike place [] unchanged own None any (fine (none_at place own.broken h)) (λ around r. r) goes_nowhere read gives

one_alike : (place : Place) (a : Seen) (own : Option Typed → Own) (first : Reading) → Alike a first → ((t : Typed) → Fine (own (Some t))) → (one place a own).broken ≡ [] → (read : Reading)
    → ((around : Around) (r : Reached) → Gives around.structs (kind_at around (first around r).after) (past_kind (first around r).after) (read around r)) → Alike (one place a own) read
unfolding one
one_alike place a own first x fine h read gives = kind_alike place a.broken a.after (own a.typed) None any (fine_at own None any a.typed (Some x.typed) x.is (fine x.typed) (none_at place (own a.typed).broken (second_empty a.broken _ h)))
    (λ around r. (first around r).after) x.goes read gives

abbrev pub both_own : (Typed → Typed → Own) → Option Typed → Option Typed → Own
both_own own a b = with_typed a (λ t. with_typed b (own t))

pub both_fine : (own : Typed → Typed → Own) (kinds : CType → Type 0) (a b : Option Typed) (t u : Typed) → a ≡ Some t → b ≡ Some u → ((own t u).broken ≡ [] → IsFine (own t u) None kinds) → (both_own own a b).broken ≡ [] → IsFine (both_own own a b) None kinds
both_fine own kinds a b t u p q h = fine_at (λ x. both_own own x b) None kinds a (Some t) p (fine_at (λ y. with_typed y (own t)) None kinds b (Some u) q h)

two_alike : (place : Place) (a b : Seen) (own : Typed → Typed → Own) (first second : Reading) → Alike a first → Alike b second → ((t u : Typed) → Fine (own t u)) → (two place a b own).broken ≡ [] → (read : Reading)
    → ((around : Around) (r : Reached) → Gives around.structs (kind_at around (second around (first around r).after).after) (past_kind (second around (first around r).after).after) (read around r)) → Alike (two place a b own) read
unfolding two
two_alike place a b own first second x y fine h read gives = kind_alike place (a.broken ++ b.broken) (λ n. b.after (a.after n)) (both_own own a.typed b.typed) None any
    (both_fine own any a.typed b.typed x.typed y.typed x.is y.is (fine x.typed y.typed) (none_at place _ (second_empty (a.broken ++ b.broken) _ h)))
    (λ around r. (second around (first around r).after).after) (goes_then a.after b.after _ _ x.goes y.goes) read gives

abbrev pub all_own : (Typed → Typed → Typed → Own) → Option Typed → Option Typed → Option Typed → Own
all_own own a b c = with_typed a (λ t. with_typed b (λ u. with_typed c (own t u)))

three_alike : (place : Place) (a b c : Seen) (own : Typed → Typed → Typed → Own) (first second third : Reading) → Alike a first → Alike b second → Alike c third → ((t u v : Typed) → Fine (own t u v)) → (three place a b c own).broken ≡ [] → (read : Reading)
    → ((around : Around) (r : Reached) → let last = (third around (second around (first around r).after).after).after in Gives around.structs (kind_at around last) (past_kind last) (read around r)) → Alike (three place a b c own) read
unfolding three
three_alike place a b c own first second third x y z fine h read gives = kind_alike place (a.broken ++ (b.broken ++ c.broken)) (λ n. c.after (b.after (a.after n))) (all_own own a.typed b.typed c.typed) None any
    (fine_at (λ o. all_own own o b.typed c.typed) None any a.typed (Some x.typed) x.is (fine_at (λ o. with_typed o (λ u. with_typed c.typed (own x.typed u))) None any b.typed (Some y.typed) y.is
    (fine_at (λ o. with_typed o (own x.typed y.typed)) None any c.typed (Some z.typed) z.is (fine x.typed y.typed z.typed))) (none_at place _ (second_empty (a.broken ++ (b.broken ++ c.broken)) _ h)))
    (λ around r. (third around (second around (first around r).after).after).after) (goes_then (λ n. b.after (a.after n)) c.after _ _ (goes_then a.after b.after _ _ x.goes y.goes) z.goes) read gives

-- ---- assignments

target_no_array : (kind : CType) (place_of : Bool) → (place_of || is_array (outer_of kind)) ≡ false → NoArray kind
target_no_array Void b h = tt
target_no_array (Int k) b h = tt
target_no_array (Pointer t) b h = tt
target_no_array (Array t n) true h = cc
target_no_array (Array t n) false h = cc
target_no_array (Struct n) b h = tt

judged_empty : (kinds : List _) (t : Typed) → (judged kinds t).broken ≡ [] → kinds ≡ []
judged_empty [] t h = refl
judged_empty (k ∷ more) t h = cc

assign_no_array : (structs : List _) (op : Option Arithmetic) (a e : Typed) → (assign_own structs op a e).broken ≡ [] → NoArray a.kind
unfolding assign_own
assign_no_array structs op a e h = target_no_array a.kind _ (neither (is_no_target a) (is_no_source e) (not_broken NotPlace _ (first_empty (breaks NotPlace _) _ (judged_empty _ _ h)))).0

assign_alike : (place : Place) (structs : List _) (op : Option Arithmetic) (a b : Seen) (first second : Reading) → Alike a first → Alike b second → (two place a b (assign_own structs op)).broken ≡ []
    → Alike (two place a b (assign_own structs op)) (step (e.Assign op first second) place)
unfolding two
assign_alike place structs op a b first second x y h =
    let own = both_own (assign_own structs op) a.typed b.typed in
    let free : own.broken ≡ [] = none_at place own.broken (second_empty (a.broken ++ b.broken) _ h) in
    let here : (assign_own structs op x.typed y.typed).broken ≡ [] = subst (λ o. (with_typed o (assign_own structs op x.typed)).broken ≡ []) y.is (subst (λ o. (both_own (assign_own structs op) o b.typed).broken ≡ []) x.is free) in
    let whole = assign_no_array structs op x.typed y.typed here in
    let fine = both_fine (assign_own structs op) (λ kind. x.typed.kind ≡ kind) a.typed b.typed x.typed y.typed x.is y.is (assign_fine structs op x.typed y.typed) free in
    node_alike place (a.broken ++ b.broken) (λ n. b.after (a.after n)) own None _ fine (λ around r. (second around (first around r).after).after) (goes_then a.after b.after _ _ x.goes y.goes) _
    (λ n around r w at. assign_gives around op fine.typed.kind (first around r) (second around (first around r).after) place _
    (x.type n around r (front_then _ _ _ (y.goes.on (a.after n)) (front_then _ _ _ (front_own own None _ fine (b.after (a.after n))) w)) at ∙ fine.kind) (subst NoArray fine.kind whole))

step_alike : (place : Place) (structs : List _) (up before : Bool) (a : Seen) (first : Reading) → Alike a first → (one place a (λ x. with_typed x (step_own structs))).broken ≡ []
    → Alike (one place a (λ x. with_typed x (step_own structs))) (step (e.StepBy up before first) place)
unfolding one
step_alike place structs up before a first x h =
    let own = with_typed a.typed (step_own structs) in
    let fine = fine_at (λ o. with_typed o (step_own structs)) None (λ kind. x.typed.kind ≡ kind) a.typed (Some x.typed) x.is (step_fine structs x.typed) (none_at place own.broken (second_empty a.broken _ h)) in
    node_alike place a.broken a.after own None _ fine (λ around r. (first around r).after) x.goes _
    (λ n around r w at. stepped_gives around up before fine.typed.kind (first around r) place _ (x.type n around r (front_then _ _ _ (front_own own None _ fine (a.after n)) w) at ∙ fine.kind))

-- ---- the two folds beside each other

abbrev pub BothA : Type 0
BothA = (Place → Checking) × (Place → Reading)

abbrev pub BothB : Type 0
BothB = Checking × Reading

abbrev pub step_both : ExprKind-F BothA BothB → BothA
step_both y = (kind_step (ef.map-ExprKind BothA BothB (Place → Checking) Checking (λ a. a.0) (λ b. b.0) y), step (ef.map-ExprKind BothA BothB (Place → Reading) Reading (λ a. a.1) (λ b. b.1) y))

abbrev pub struct_both : Expr-F BothA BothB → BothB
struct_both x = (x.kind.0 x.place, x.kind.1 x.place)

abbrev pub AreAlike : BothB → Type 0
AreAlike b = (functions : Bool) (scope : Scope) → (b.0 functions scope).broken ≡ [] → Alike (b.0 functions scope) b.1

abbrev pub AreAlikeAt : BothA → Type 0
AreAlikeAt a = (place : Place) → AreAlike (a.0 place, a.1 place)

abbrev pub PartsA : Type 0
PartsA = ExprA BothA BothB step_both struct_both AreAlikeAt AreAlike

abbrev pub PartsB : Type 0
PartsB = ExprB BothA BothB step_both struct_both AreAlikeAt AreAlike

abbrev bare : ExprKind-F PartsA PartsB → ExprKind-F BothA BothB
bare = bare_exprs BothA BothB step_both struct_both AreAlikeAt AreAlike

-- ---- calls

abbrev pub checks : List PartsB → List Checking
checks all = map (λ b. b.0) (map (λ y. y.0) all)

abbrev pub finds : List PartsB → List Reading
finds all = map (λ b. b.1) (map (λ y. y.0) all)

pub record ArgumentsGo (args : Arguments) (p : Around → Reached → Reached) : Type 0 where
  pub fits : Bool
  pub is : args.fit ≡ Some fits
  pub goes : Goes args.after p

pub arguments_go : (all : List PartsB) (scope : Scope) (fit : Bool) (params : List CType) → (arguments scope (Some fit) params (checks all)).broken ≡ [] → ArgumentsGo (arguments scope (Some fit) params (checks all)) (λ around r. (find_all (finds all) around r).after)
arguments_go [] scope fit params h = record { fits = _; is = refl; goes = goes_nowhere }
arguments_go (a ∷ more) scope fit params h = let s = a.0.0 (takes_function params) scope in
    let x = a.1 (takes_function params) scope (first_empty s.broken _ h) in
    let fits = and_fits (Some fit) params s.typed in
    let rest = subst (λ o. (arguments scope o (params_after params) (checks more)).broken ≡ [] → ArgumentsGo (arguments scope o (params_after params) (checks more)) (λ around r. (find_all (finds more) around r).after))
    (sym (ap (and_fits (Some fit) params) x.is)) (arguments_go more scope _ (params_after params)) (second_empty s.broken _ h) in
    record { fits = rest.fits; is = rest.is; goes = goes_then s.after (arguments scope fits (params_after params) (checks more)).after _ _ x.goes rest.goes }

pub name_at : (own : Option Bool → Own) (fit : Option Bool) (fits : Bool) → fit ≡ Some fits → ((own (Some fits)).broken ≡ [] → FineName (own (Some fits))) → (own fit).broken ≡ [] → FineName (own fit)
name_at own fit fits same h b = subst (λ x. (own x).broken ≡ [] → FineName (own x)) (sym same) h b

call_alike : (name : List ℕ) (all : List PartsB) (place : Place) (scope : Scope) → (call place scope (found_in scope name) (checks all)).broken ≡ []
    → Alike (call place scope (found_in scope name) (checks all)) (step (e.Call name (finds all)) place)
unfolding call
call_alike name all place scope h = let found = found_in scope name in let args = arguments scope (Some true) (params_of found) (checks all) in
    let go = arguments_go all scope true (params_of found) (first_empty args.broken _ h) in
    let named = name_at (call_own found) args.fit go.fits go.is (call_fine found go.fits) (none_at place _ (second_empty args.broken _ h)) in
    kind_alike place args.broken args.after (call_own found args.fit) (Some named.bind) any named.fine (λ around r. (find_all (finds all) around r).after) go.goes _ (λ around r. no_place_gives _ _ _ place _)

var_alike : (name : List ℕ) (place : Place) (functions : Bool) (scope : Scope) → (kind_step (e.Var name) place functions scope).broken ≡ [] → Alike (kind_step (e.Var name) place functions scope) (step (e.Var name) place)
unfolding leaf
var_alike name place functions scope h = let named = name_fine functions (found_in scope name) (none_at place _ h) in
    kind_alike place [] unchanged _ (Some named.bind) any named.fine (λ around r. r) goes_nowhere _ (λ around r. named_gives around _ (bind_at around r) place _)

-- a text is the next literal
text_goes : Goes unchanged (λ around r. past_literal r)
text_goes = record { on = λ n. goes_nowhere.on n; still = λ n. refl; at = λ n around r w h. record { kind = h.kind; name = h.name; declaration = h.declaration } }

text_alike : (bytes : List ℕ) (place : Place) (functions : Bool) (scope : Scope) → (kind_step (e.Text bytes) place functions scope).broken ≡ [] → Alike (kind_step (e.Text bytes) place functions scope) (step (e.Text bytes) place)
unfolding leaf
text_alike bytes place functions scope h = kind_alike place [] unchanged _ None any (text_fine bytes (none_at place _ h)) (λ around r. past_literal r) text_goes _
    (λ around r. record { type_is = refl; after_is = refl; copies = λ small. tt })

-- ---- `sizeof`

abbrev unevaluated_read : Reading → Reading
unevaluated_read read around r = record (read around r) { after = without_literals r (read around r).after }

unevaluated_alike : (a : Seen) (read : Reading) → Alike a read → Alike (unevaluated a) (unevaluated_read read)
unfolding unevaluated
unevaluated_alike a read x = record {
  typed = x.typed;
  is = x.is;
  goes = record { on = λ n. x.goes.on n; still = λ n. x.goes.still n; at = λ n around r w h. let k = x.goes.at n around r w h in record { kind = k.kind; name = k.name; declaration = k.declaration } };
  type = x.type;
  copies = x.copies;
}

pub unevaluated_broken : (place : Place) (a : Seen) (own : Option Typed → Own) → (one place (unevaluated a) own).broken ≡ [] → a.broken ≡ []
unfolding one unevaluated
unevaluated_broken place a own h = first_empty a.broken _ h

-- ---- expressions

pub one_first : (place : Place) (a : Seen) (own : Option Typed → Own) → (one place a own).broken ≡ [] → a.broken ≡ []
unfolding one
one_first place a own h = first_empty a.broken _ h

pub two_first : (place : Place) (a b : Seen) (own : Typed → Typed → Own) → (two place a b own).broken ≡ [] → a.broken ≡ []
unfolding two
two_first place a b own h = first_empty a.broken _ (first_empty (a.broken ++ b.broken) _ h)

pub two_second : (place : Place) (a b : Seen) (own : Typed → Typed → Own) → (two place a b own).broken ≡ [] → b.broken ≡ []
unfolding two
two_second place a b own h = second_empty a.broken b.broken (first_empty (a.broken ++ b.broken) _ h)

pub three_parts : (place : Place) (a b c : Seen) (own : Typed → Typed → Typed → Own) → (three place a b c own).broken ≡ [] → (a.broken ≡ []) × (b.broken ≡ []) × (c.broken ≡ [])
unfolding three
three_parts place a b c own h = let k = first_empty (a.broken ++ (b.broken ++ c.broken)) _ h in let l = second_empty a.broken (b.broken ++ c.broken) k in
    (first_empty a.broken _ k, first_empty b.broken c.broken l, second_empty b.broken c.broken l)

pub every_step : (y : ExprKind-F PartsA PartsB) → AreAlikeAt (step_both (bare y))
every_step (e.Number n kind) place functions scope h = leaf_alike place _ (number_fine n kind) h _ (λ around r. no_place_gives _ _ _ place _)
every_step (e.Text bytes) place functions scope h = text_alike bytes place functions scope h
every_step (e.Var name) place functions scope h = var_alike name place functions scope h
every_step (e.Unary op a) place functions scope h = one_alike place _ _ a.0.1 (a.1 false scope (one_first place _ _ h)) (unary_fine scope.structs op) h _ (λ around r. unary_gives _ op _ (a.0.1 around r) place _)
every_step (e.Binary op a c) place functions scope h = two_alike place _ _ _ a.0.1 c.0.1 (a.1 false scope (two_first place _ _ _ h)) (c.1 false scope (two_second place _ _ _ h)) (binary_fine scope.structs op) h _ (λ around r. no_place_gives _ _ _ place _)
every_step (e.Assign op a c) place functions scope h = assign_alike place scope.structs op _ _ a.0.1 c.0.1 (a.1 false scope (two_first place _ _ _ h)) (c.1 false scope (two_second place _ _ _ h)) h
every_step (e.StepBy up before a) place functions scope h = step_alike place scope.structs up before _ a.0.1 (a.1 false scope (one_first place _ _ h)) h
every_step (e.Cond c a d) place functions scope h = let p = three_parts place _ _ _ _ h in three_alike place _ _ _ _ c.0.1 a.0.1 d.0.1 (c.1 false scope p.0) (a.1 false scope p.1) (d.1 false scope p.2) choice_fine h _ (λ around r. no_place_gives _ _ _ place _)
every_step (e.Call name all) place functions scope h = call_alike name all place scope h
every_step (e.Index a i) place functions scope h = two_alike place _ _ _ a.0.1 i.0.1 (a.1 false scope (two_first place _ _ _ h)) (i.1 false scope (two_second place _ _ _ h)) (index_fine scope.structs) h _ (λ around r. a_place_gives _ _ _ place _)
every_step (e.Member a name) place functions scope h = one_alike place _ _ a.0.1 (a.1 false scope (one_first place _ _ h)) (member_fine scope.structs name) h _ (λ around r. a_place_gives _ _ _ place _)
every_step (e.Arrow a name) place functions scope h = one_alike place _ _ a.0.1 (a.1 false scope (one_first place _ _ h)) (arrow_fine scope.structs name) h _ (λ around r. a_place_gives _ _ _ place _)
every_step (e.Cast base stars a) place functions scope h = one_alike place _ _ a.0.1 (a.1 false scope (one_first place _ _ h)) (cast_fine scope base stars) h _ (λ around r. no_place_gives _ _ _ place _)
every_step (e.SizeOfKind base stars) place functions scope h = leaf_alike place _ (size_of_kind_fine scope base stars) h _ (λ around r. no_place_gives _ _ _ place _)
every_step (e.SizeOfValue a) place functions scope h = one_alike place _ _ (unevaluated_read a.0.1) (unevaluated_alike _ a.0.1 (a.1 false scope (unevaluated_broken place _ _ h))) (λ t. size_fine scope.structs t.kind) h _ (λ around r. no_place_gives _ _ _ place _)

abbrev pub both : Expr → BothB
both = fold-Expr BothA BothB step_both struct_both

pub checks_same : (x : Expr) → (both x).0 ≡ seen x
checks_same x = exprs_fused BothA BothB (Place → Checking) Checking step_both struct_both kind_step (λ x. x.kind x.place) (λ a. a.0) (λ b. b.0) (λ y. refl) (λ y. refl) x

pub reads_same : (x : Expr) → (both x).1 ≡ expression x
reads_same x = exprs_fused BothA BothB (Place → Reading) Reading step_both struct_both step (λ x. x.kind x.place) (λ a. a.1) (λ b. b.1) (λ y. refl) (λ y. refl) x

pub expressions_alike : (x : Expr) → AreAlike (seen x, expression x)
expressions_alike x = subst (λ check. AreAlike (check, expression x)) (checks_same x) (subst (λ read. AreAlike ((both x).0, read)) (reads_same x) (every_exprs BothA BothB step_both struct_both AreAlikeAt AreAlike every_step (λ y. y.kind.1 y.place) x))
