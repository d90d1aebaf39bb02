-- What is seen of an expression stands: by induction, with its nodes and its stars.
use Rattle.std.proofs.Common.{◌≡◌, ℕ, ◌+◌, ◌≤◌, refl, sym, ap, ◌∙◌, subst, Bool, true, false, is_some, Option, None, Some, List, [], ◌∷◌, ◌++◌, map, length, length-append, arith}
use Rattle.mx_base.specs.declared.places.Place.{Place}
use Rattle.c_tree.specs.declared.tree.Expr.{Expr, Expr-F}
use Rattle.c_tree.specs.declared.tree.ExprKind.{ExprKind-F}
use Rattle.c_tree.specs.declared.tree.ExprKind.TheFolds as ef
use Rattle.c_tree.specs.declared.tree.ExprKind.TheOpen as e
use Rattle.c_tree.specs.Count as count
use Rattle.c_tree.specs.Stars as star
use Rattle.c_tree.proofs.Inductions.{ExprA, ExprB, bare_exprs, every_exprs, exprs_fused}
use Rattle.c_types.specs.Types.{CType}
use Rattle.c_check_rules.specs.declared.names.Scope.{Scope}
use Rattle.c_check_rules.specs.declared.names.StructInfo.{StructInfo}
use Rattle.c_check_rules.specs.declared.predeclared.Found.{Found}
use Rattle.c_check_rules.specs.Names.{found_in}
use Rattle.c_check_typing.specs.declared.typed.Typed.{Typed}
use Rattle.c_check_typing.specs.declared.typed.Notes.{Notes}
use Rattle.c_check_typing.specs.declared.fault.Broken.{Broken}
use Rattle.c_check_typing.specs.Refusals.{all_at}
use Rattle.c_check_typing.specs.Notes.{Own, Seen, node, leaf, one, two, three, unevaluated, unchanged, with_typed}
use Rattle.c_check_typing.specs.Rules.{unary_own, binary_own, assign_own, step_own, choice_own, index_own, member_own, arrow_own, cast_own, size_own, size_of_kind_own, call_own, number_own, text_own, name_own, params_of, params_after, takes_function}
use Rattle.c_check_typing.specs.Expressions.{Reading, Arguments, and_fits, all_given, arguments, call_seen, call, kind_step, seen}
use Rattle.c_check.proofs.Emptied.{first_empty, second_empty, none_at}
use Rattle.c_check.proofs.Standing.{Each, each_joined, IfKnown, StandsBy, stands_more}
use Rattle.c_check.proofs.StandingScopes.{ScopeBy, members_more, FoundBy, found_more, name_found}
use Rattle.c_check.proofs.StandingRules.{own_kinds, TypedBy, OwnBy, GoodOwn, nothing_own, number_good, text_good, name_good, size_of_good, binary_good, choice_good, unary_good, assign_good, step_good, index_good, member_good, arrow_good, call_good, call_whole, cast_good, cast_none, size_of_kind_good}

-- what a part adds to the notes stands, and it adds a type for each node at most
pub record AfterBy (structs : List StructInfo) (most n : ℕ) (after : Notes → Notes) : Type 0 where
  pub kinds : (top : ℕ) (notes : Notes) → most + n ≤ top → Each (StandsBy top structs) notes.kinds → Each (StandsBy top structs) (after notes).kinds
  pub long : (notes : Notes) → length (after notes).kinds ≤ length notes.kinds + n
  pub declared : (notes : Notes) → (after notes).declared ≡ notes.declared

-- what is seen of an expression of n nodes where types have at most so many layers
pub record GoodSeen (structs : List StructInfo) (most n : ℕ) (s : Seen) : Type 0 where
  pub typed : IfKnown (TypedBy (most + n) structs) s.typed
  pub after : AfterBy structs most n s.after
  pub whole : s.broken ≡ [] → is_some s.typed ≡ true

module _ (structs : List StructInfo) (most : ℕ) where
  pub after_none : AfterBy structs most 0 unchanged
  after_none = record { kinds = λ top notes le h. h; long = λ notes. omega arith; declared = λ notes. refl }

  pub after_both : (n m : ℕ) (f g : Notes → Notes) → AfterBy structs most n f → AfterBy structs most m g → AfterBy structs most (n + m) (λ notes. g (f notes))
  after_both n m f g h k = record {
    kinds = λ top notes le all. k.kinds top (f notes) (omega arith) (h.kinds top notes (omega arith) all);
    long = λ notes. (let a = h.long notes in let b = k.long (f notes) in omega arith);
    declared = λ notes. k.declared (f notes) ∙ h.declared notes;
  }

  own_long : (t : Option Typed) → length (own_kinds t) ≤ 1
  own_long None = omega arith
  own_long (Some t) = omega arith

  own_each : (less top : ℕ) → less ≤ top → (t : Option Typed) → IfKnown (TypedBy less structs) t → Each (StandsBy top structs) (own_kinds t)
  own_each less top le None h = tt
  own_each less top le (Some t) h = (stands_more less top structs le t.kind h, tt)

  node_after : (n : ℕ) (after : Notes → Notes) (own : Own) → AfterBy structs most n after → OwnBy (most + (n + 1)) structs own → AfterBy structs most (n + 1) (λ notes. own.noted (after notes))
  node_after n after own h k = record {
    kinds = λ top notes le all. subst (Each (StandsBy top structs)) (sym (k.kinds (after notes)))
        (each_joined (StandsBy top structs) (after notes).kinds (own_kinds own.typed) (h.kinds top notes (omega arith) all) (own_each (most + (n + 1)) top le own.typed k.typed));
    long = λ notes. (let a = h.long notes in let b = own_long own.typed in let same : length (own.noted (after notes)).kinds ≡ length (after notes).kinds + length (own_kinds own.typed) = ap length (k.kinds (after notes)) ∙ length-append (after notes).kinds (own_kinds own.typed) in omega arith);
    declared = λ notes. k.declared (after notes) ∙ h.declared notes;
  }

  pub node_seen : (n : ℕ) (place : Place) (broken : List Broken) (after : Notes → Notes) (own : Own) → AfterBy structs most n after → OwnBy (most + (n + 1)) structs own
      → (broken ≡ [] → own.broken ≡ [] → is_some own.typed ≡ true) → GoodSeen structs most (n + 1) (node place broken after own)
  node_seen n place broken after own h k w = record {
    typed = k.typed;
    after = node_after n after own h k;
    whole = λ e. w (first_empty broken (all_at place own.broken) e) (none_at place own.broken (second_empty broken (all_at place own.broken) e));
  }

  pub leaf_seen : (place : Place) (own : Own) → GoodOwn (most + 1) structs own → GoodSeen structs most 1 (leaf place own)
  unfolding leaf
  leaf_seen place own h = node_seen 0 place [] unchanged own after_none h.own_by (λ e. h.whole)

  -- ---- nodes with parts

  by_one : (less b : ℕ) (own : Option Typed → Own) → ((t : Typed) → TypedBy less structs t → GoodOwn b structs (own (Some t))) → OwnBy b structs (own None) → (t : Option Typed) → IfKnown (TypedBy less structs) t → OwnBy b structs (own t)
  by_one less b own good none None h = none
  by_one less b own good none (Some t) h = (good t h).own_by

  whole_one : (less b : ℕ) (own : Option Typed → Own) → ((t : Typed) → TypedBy less structs t → GoodOwn b structs (own (Some t))) → (t : Option Typed) → IfKnown (TypedBy less structs) t → is_some t ≡ true → (own t).broken ≡ [] → is_some (own t).typed ≡ true
  whole_one less b own good None h e g = cc
  whole_one less b own good (Some t) h e g = (good t h).whole g

  pub one_seen : (n : ℕ) (place : Place) (a : Seen) (own : Option Typed → Own) → GoodSeen structs most n a → ((t : Typed) → TypedBy (most + n) structs t → GoodOwn (most + (n + 1)) structs (own (Some t)))
      → OwnBy (most + (n + 1)) structs (own None) → GoodSeen structs most (n + 1) (one place a own)
  unfolding one
  one_seen n place a own h good none = node_seen n place a.broken a.after (own a.typed) h.after (by_one (most + n) (most + (n + 1)) own good none a.typed h.typed)
      (λ e. whole_one (most + n) (most + (n + 1)) own good a.typed h.typed (h.whole e))

  abbrev GoodFor2 : (less b : ℕ) → (Typed → Typed → Own) → Type 0
  GoodFor2 less b own = (t u : Typed) → TypedBy less structs t → TypedBy less structs u → GoodOwn b structs (own t u)

  by_two : (less b : ℕ) (own : Typed → Typed → Own) → GoodFor2 less b own → (t u : Option Typed) → IfKnown (TypedBy less structs) t → IfKnown (TypedBy less structs) u → OwnBy b structs (with_typed t (λ x. with_typed u (own x)))
  by_two less b own good None u h g = nothing_own b structs
  by_two less b own good (Some t) None h g = nothing_own b structs
  by_two less b own good (Some t) (Some u) h g = (good t u h g).own_by

  whole_two : (less b : ℕ) (own : Typed → Typed → Own) → GoodFor2 less b own → (t u : Option Typed) → IfKnown (TypedBy less structs) t → IfKnown (TypedBy less structs) u → is_some t ≡ true → is_some u ≡ true
      → (with_typed t (λ x. with_typed u (own x))).broken ≡ [] → is_some (with_typed t (λ x. with_typed u (own x))).typed ≡ true
  whole_two less b own good None u h g d f k = cc
  whole_two less b own good (Some t) None h g d f k = cc
  whole_two less b own good (Some t) (Some u) h g d f k = (good t u h g).whole k

  typed_more : (less more : ℕ) → less ≤ more → (t : Option Typed) → IfKnown (TypedBy less structs) t → IfKnown (TypedBy more structs) t
  typed_more less more le None h = tt
  typed_more less more le (Some t) h = stands_more less more structs le t.kind h

  pub two_seen : (n m : ℕ) (place : Place) (a c : Seen) (own : Typed → Typed → Own) → GoodSeen structs most n a → GoodSeen structs most m c → GoodFor2 (most + (n + m)) (most + (n + m + 1)) own
      → GoodSeen structs most (n + m + 1) (two place a c own)
  unfolding two
  two_seen n m place a c own h k good =
      let t = typed_more (most + n) (most + (n + m)) (omega arith) a.typed h.typed in
      let u = typed_more (most + m) (most + (n + m)) (omega arith) c.typed k.typed in
      node_seen (n + m) place (a.broken ++ c.broken) (λ notes. c.after (a.after notes)) _ (after_both n m a.after c.after h.after k.after) (by_two (most + (n + m)) (most + (n + m + 1)) own good a.typed c.typed t u)
      (λ e. whole_two (most + (n + m)) (most + (n + m + 1)) own good a.typed c.typed t u (h.whole (first_empty a.broken c.broken e)) (k.whole (second_empty a.broken c.broken e)))

  abbrev GoodFor3 : (less b : ℕ) → (Typed → Typed → Typed → Own) → Type 0
  GoodFor3 less b own = (s t u : Typed) → TypedBy less structs t → TypedBy less structs u → GoodOwn b structs (own s t u)

  by_three : (less b : ℕ) (own : Typed → Typed → Typed → Own) → GoodFor3 less b own → (s t u : Option Typed) → IfKnown (TypedBy less structs) t → IfKnown (TypedBy less structs) u → OwnBy b structs (with_typed s (λ x. with_typed t (λ y. with_typed u (own x y))))
  by_three less b own good None t u h g = nothing_own b structs
  by_three less b own good (Some s) None u h g = nothing_own b structs
  by_three less b own good (Some s) (Some t) None h g = nothing_own b structs
  by_three less b own good (Some s) (Some t) (Some u) h g = (good s t u h g).own_by

  whole_three : (less b : ℕ) (own : Typed → Typed → Typed → Own) → GoodFor3 less b own → (s t u : Option Typed) → IfKnown (TypedBy less structs) t → IfKnown (TypedBy less structs) u → is_some s ≡ true → is_some t ≡ true → is_some u ≡ true
      → (with_typed s (λ x. with_typed t (λ y. with_typed u (own x y)))).broken ≡ [] → is_some (with_typed s (λ x. with_typed t (λ y. with_typed u (own x y)))).typed ≡ true
  whole_three less b own good None t u h g c d f k = cc
  whole_three less b own good (Some s) None u h g c d f k = cc
  whole_three less b own good (Some s) (Some t) None h g c d f k = cc
  whole_three less b own good (Some s) (Some t) (Some u) h g c d f k = (good s t u h g).whole k

  pub three_seen : (n m l : ℕ) (place : Place) (a c d : Seen) (own : Typed → Typed → Typed → Own) → GoodSeen structs most n a → GoodSeen structs most m c → GoodSeen structs most l d
      → GoodFor3 (most + (n + m + l)) (most + (n + m + l + 1)) own → GoodSeen structs most (n + m + l + 1) (three place a c d own)
  unfolding three
  three_seen n m l place a c d own h k j good =
      let t = typed_more (most + m) (most + (n + m + l)) (omega arith) c.typed k.typed in
      let u = typed_more (most + l) (most + (n + m + l)) (omega arith) d.typed j.typed in
      node_seen (n + m + l) place (a.broken ++ (c.broken ++ d.broken)) (λ notes. d.after (c.after (a.after notes))) _
      (after_both (n + m) l (λ notes. c.after (a.after notes)) d.after (after_both n m a.after c.after h.after k.after) j.after)
      (by_three (most + (n + m + l)) (most + (n + m + l + 1)) own good a.typed c.typed d.typed t u)
      (λ e. whole_three (most + (n + m + l)) (most + (n + m + l + 1)) own good a.typed c.typed d.typed t u (h.whole (first_empty a.broken (c.broken ++ d.broken) e))
      (k.whole (first_empty c.broken d.broken (second_empty a.broken (c.broken ++ d.broken) e))) (j.whole (second_empty c.broken d.broken (second_empty a.broken (c.broken ++ d.broken) e))))

  pub unevaluated_seen : (n : ℕ) (a : Seen) → GoodSeen structs most n a → GoodSeen structs most n (unevaluated a)
  unfolding unevaluated
  unevaluated_seen n a h = record {
    typed = h.typed;
    after = record { kinds = λ top notes le all. h.after.kinds top notes le all; long = λ notes. h.after.long notes; declared = λ notes. h.after.declared notes };
    whole = h.whole;
  }

-- ---- the induction

-- what holds of what is seen of an expression with so many nodes and stars, in each scope whose types stand
abbrev pub GoodReading : Reading → (nodes stars : ℕ) → Type 0
GoodReading r n s = (1 ≤ n) × ((scope : Scope) (most : ℕ) (functions : Bool) → 1 ≤ most → ScopeBy most scope → s ≤ most → GoodSeen scope.structs most n (r functions scope))

abbrev KindFolds : Type 0
KindFolds = (Place → Reading) × ℕ × ℕ

abbrev ExprFolds : Type 0
ExprFolds = Reading × ℕ × ℕ

abbrev step_all : ExprKind-F KindFolds ExprFolds → KindFolds
step_all y = (
  kind_step (ef.map-ExprKind KindFolds ExprFolds (Place → Reading) Reading (λ a. a.0) (λ b. b.0) y),
  count.expr_step (ef.map-ExprKind KindFolds ExprFolds ℕ ℕ (λ a. a.1) (λ b. b.1) y),
  star.expr_step (ef.map-ExprKind KindFolds ExprFolds ℕ ℕ (λ a. a.2) (λ b. b.2) y),
)

abbrev struct_all : Expr-F KindFolds ExprFolds → ExprFolds
struct_all y = (y.kind.0 y.place, y.kind.1, y.kind.2)

abbrev GoodKind : KindFolds → Type 0
GoodKind a = (place : Place) → GoodReading (a.0 place) a.1 a.2

abbrev GoodExpr : ExprFolds → Type 0
GoodExpr b = GoodReading b.0 b.1 b.2

abbrev PartA : Type 0
PartA = ExprA KindFolds ExprFolds step_all struct_all GoodKind GoodExpr

abbrev PartB : Type 0
PartB = ExprB KindFolds ExprFolds step_all struct_all GoodKind GoodExpr

-- ---- arguments

pub record GoodArguments (structs : List StructInfo) (most n : ℕ) (before : Option Bool) (args : Arguments) : Type 0 where
  pub after : AfterBy structs most n args.after
  pub whole : args.broken ≡ [] → is_some before ≡ true → is_some args.fit ≡ true

given_whole : (fit : Option Bool) (params : List CType) → is_some fit ≡ true → is_some (all_given fit params) ≡ true
given_whole None params h = cc
given_whole (Some b) params h = refl

and_whole : (fit : Option Bool) (params : List CType) (t : Option Typed) → is_some fit ≡ true → is_some t ≡ true → is_some (and_fits fit params t) ≡ true
and_whole None params t h g = cc
and_whole (Some b) params None h g = cc
and_whole (Some b) params (Some t) h g = refl

arguments_good : (scope : Scope) (most : ℕ) → 1 ≤ most → ScopeBy most scope → (all : List PartB) → star.most (map (λ b. b.2) (map (λ y. y.0) all)) ≤ most → (fit : Option Bool) (params : List CType)
    → GoodArguments scope.structs most (count.total (map (λ b. b.1) (map (λ y. y.0) all))) fit (arguments scope fit params (map (λ b. b.0) (map (λ y. y.0) all)))
arguments_good scope most some h [] le fit params = record { after = after_none scope.structs most; whole = λ e g. given_whole fit params g }
arguments_good scope most some h (x ∷ more) le fit params =
    let a : Seen = x.0.0 (takes_function params) scope in
    let one : GoodSeen scope.structs most x.0.1 a = x.1.1 scope most (takes_function params) some h (omega arith) in
    let next : Option Bool = and_fits fit params a.typed in
    let rest = arguments_good scope most some h more (omega arith) next (params_after params) in
    let others : Arguments = arguments scope next (params_after params) (map (λ b. b.0) (map (λ y. y.0) more)) in
    record {
      after = after_both scope.structs most x.0.1 _ a.after others.after one.after rest.after;
      whole = λ e g. rest.whole (second_empty a.broken others.broken e) (and_whole fit params a.typed g (one.whole (first_empty a.broken others.broken e)));
    }

call_seen_good : (scope : Scope) (most n : ℕ) (place : Place) (found : Found) (args : Arguments) → GoodArguments scope.structs most n (Some true) args → FoundBy most scope.structs found → GoodSeen scope.structs most (n + 1) (call_seen place found args)
call_seen_good scope most n place found args g known =
    node_seen scope.structs most n place args.broken args.after (call_own found args.fit) g.after
    (call_good (most + (n + 1)) scope.structs found args.fit (found_more most (most + (n + 1)) scope.structs (omega arith) found known))
    (λ b. call_whole (most + (n + 1)) scope.structs found args.fit (g.whole b refl))

calls_good : (scope : Scope) (most : ℕ) → 1 ≤ most → ScopeBy most scope → (place : Place) (name : List ℕ) (all : List PartB) → star.most (map (λ b. b.2) (map (λ y. y.0) all)) ≤ most
    → GoodSeen scope.structs most (count.total (map (λ b. b.1) (map (λ y. y.0) all)) + 1) (call place scope (found_in scope name) (map (λ b. b.0) (map (λ y. y.0) all)))
unfolding call
calls_good scope most some h place name all le =
    call_seen_good scope most _ place (found_in scope name) _ (arguments_good scope most some h all le (Some true) (params_of (found_in scope name))) (name_found most scope h some name)

-- ---- one layer

up : (structs : List StructInfo) (less more : ℕ) → less ≤ more → (t : Typed) → TypedBy less structs t → TypedBy more structs t
up structs less more le t h = stands_more less more structs le t.kind h

part : (x : PartB) (scope : Scope) (most : ℕ) → 1 ≤ most → ScopeBy most scope → x.0.2 ≤ most → GoodSeen scope.structs most x.0.1 (x.0.0 false scope)
part x scope most some h le = x.1.1 scope most false some h le

kinds_good : (y : ExprKind-F PartA PartB) → GoodKind (step_all (bare_exprs KindFolds ExprFolds step_all struct_all GoodKind GoodExpr y))
kinds_good (e.Number n kind) = λ place. (omega arith, λ scope most functions some h le. leaf_seen scope.structs most place (number_own n kind) (number_good (most + 1) scope.structs n kind))
kinds_good (e.Text bytes) = λ place. (omega arith, λ scope most functions some h le. leaf_seen scope.structs most place (text_own bytes) (text_good (most + 1) scope.structs (omega arith) bytes))
kinds_good (e.Var name) = λ place. (
  omega arith,
  λ scope most functions some h le. leaf_seen scope.structs most place (name_own functions (found_in scope name))
      (name_good (most + 1) scope.structs (omega arith) functions (found_in scope name) (found_more most (most + 1) scope.structs (omega arith) (found_in scope name) (name_found most scope h some name))),
)
kinds_good (e.Unary op a) = λ place. (
  omega arith,
  λ scope most functions some h le. one_seen scope.structs most a.0.1 place (a.0.0 false scope) (λ x. with_typed x (unary_own scope.structs op)) (part a scope most some h le)
      (λ t k. unary_good (most + (a.0.1 + 1)) scope.structs (most + a.0.1) (omega arith) op t k) (nothing_own (most + (a.0.1 + 1)) scope.structs),
)
kinds_good (e.Binary op a c) = λ place. (
  omega arith,
  λ scope most functions some h le. two_seen scope.structs most a.0.1 c.0.1 place (a.0.0 false scope) (c.0.0 false scope) (binary_own scope.structs op)
      (part a scope most some h (omega arith)) (part c scope most some h (omega arith))
      (λ t u k l. binary_good (most + (a.0.1 + c.0.1 + 1)) scope.structs op t u (up scope.structs (most + (a.0.1 + c.0.1)) _ (omega arith) t k) (up scope.structs (most + (a.0.1 + c.0.1)) _ (omega arith) u l)),
)
kinds_good (e.Assign op a c) = λ place. (
  omega arith,
  λ scope most functions some h le. two_seen scope.structs most a.0.1 c.0.1 place (a.0.0 false scope) (c.0.0 false scope) (assign_own scope.structs op)
      (part a scope most some h (omega arith)) (part c scope most some h (omega arith))
      (λ t u k l. assign_good (most + (a.0.1 + c.0.1 + 1)) scope.structs op t u (up scope.structs (most + (a.0.1 + c.0.1)) _ (omega arith) t k)),
)
kinds_good (e.StepBy counts before a) = λ place. (
  omega arith,
  λ scope most functions some h le. one_seen scope.structs most a.0.1 place (a.0.0 false scope) (λ x. with_typed x (step_own scope.structs)) (part a scope most some h le)
      (λ t k. step_good (most + (a.0.1 + 1)) scope.structs t (up scope.structs (most + a.0.1) _ (omega arith) t k)) (nothing_own (most + (a.0.1 + 1)) scope.structs),
)
kinds_good (e.Cond c a d) = λ place. (
  omega arith,
  λ scope most functions some h le. three_seen scope.structs most c.0.1 a.0.1 d.0.1 place (c.0.0 false scope) (a.0.0 false scope) (d.0.0 false scope) choice_own
      (part c scope most some h (omega arith)) (part a scope most some h (omega arith)) (part d scope most some h (omega arith))
      (λ s t u k l. choice_good (most + (c.0.1 + a.0.1 + d.0.1 + 1)) scope.structs s t u (up scope.structs (most + (c.0.1 + a.0.1 + d.0.1)) _ (omega arith) t k) (up scope.structs (most + (c.0.1 + a.0.1 + d.0.1)) _ (omega arith) u l)),
)
kinds_good (e.Call name all) = λ place. (omega arith, λ scope most functions some h le. calls_good scope most some h place name all le)
kinds_good (e.Index a c) = λ place. (
  omega arith,
  λ scope most functions some h le. two_seen scope.structs most a.0.1 c.0.1 place (a.0.0 false scope) (c.0.0 false scope) (index_own scope.structs)
      (part a scope most some h (omega arith)) (part c scope most some h (omega arith))
      (λ t u k l. index_good (most + (a.0.1 + c.0.1 + 1)) scope.structs t u (up scope.structs (most + (a.0.1 + c.0.1)) _ (omega arith) t k)),
)
kinds_good (e.Member a name) = λ place. (
  omega arith,
  λ scope most functions some h le. one_seen scope.structs most a.0.1 place (a.0.0 false scope) (λ x. with_typed x (member_own scope.structs name)) (part a scope most some h le)
      (λ t k. member_good (most + (a.0.1 + 1)) scope.structs (members_more most (most + (a.0.1 + 1)) scope.structs (omega arith) h.members) name t) (nothing_own (most + (a.0.1 + 1)) scope.structs),
)
kinds_good (e.Arrow a name) = λ place. (
  omega arith,
  λ scope most functions some h le. one_seen scope.structs most a.0.1 place (a.0.0 false scope) (λ x. with_typed x (arrow_own scope.structs name)) (part a scope most some h le)
      (λ t k. arrow_good (most + (a.0.1 + 1)) scope.structs (members_more most (most + (a.0.1 + 1)) scope.structs (omega arith) h.members) name t) (nothing_own (most + (a.0.1 + 1)) scope.structs),
)
kinds_good (e.Cast base stars a) = λ place. (
  omega arith,
  λ scope most functions some h le. one_seen scope.structs most a.0.1 place (a.0.0 false scope) (cast_own scope base stars) (part a scope most some h (omega arith))
      (λ t k. cast_good (most + (a.0.1 + 1)) scope base stars t (omega arith)) (cast_none (most + (a.0.1 + 1)) scope base stars),
)
kinds_good (e.SizeOfKind base stars) = λ place. (omega arith, λ scope most functions some h le. leaf_seen scope.structs most place (size_of_kind_own scope base stars) (size_of_kind_good (most + 1) scope base stars))
kinds_good (e.SizeOfValue a) = λ place. (
  omega arith,
  λ scope most functions some h le. one_seen scope.structs most a.0.1 place (unevaluated (a.0.0 false scope)) (λ x. with_typed x (λ t. size_own scope.structs t.kind))
      (unevaluated_seen scope.structs most a.0.1 (a.0.0 false scope) (part a scope most some h le)) (λ t k. size_of_good (most + (a.0.1 + 1)) scope.structs t.kind) (nothing_own (most + (a.0.1 + 1)) scope.structs),
)

-- ---- expressions

moved : (r r' : Reading) (n n' s s' : ℕ) → r ≡ r' → n ≡ n' → s ≡ s' → GoodReading r n s → GoodReading r' n' s'
moved r r' n n' s s' a b c h = subst (λ x. GoodReading x n' s') a (subst (λ x. GoodReading r x s') b (subst (λ x. GoodReading r n x) c h))

pub expr_good : (x : Expr) → GoodReading (seen x) (count.expr_nodes x) (star.expr_stars x)
expr_good x = moved _ (seen x) _ (count.expr_nodes x) _ (star.expr_stars x)
    (exprs_fused KindFolds ExprFolds (Place → Reading) Reading step_all struct_all kind_step (λ x. x.kind x.place) (λ a. a.0) (λ b. b.0) (λ y. refl) (λ y. refl) x)
    (exprs_fused KindFolds ExprFolds ℕ ℕ step_all struct_all count.expr_step (λ x. x.kind) (λ a. a.1) (λ b. b.1) (λ y. refl) (λ y. refl) x)
    (exprs_fused KindFolds ExprFolds ℕ ℕ step_all struct_all star.expr_step (λ x. x.kind) (λ a. a.2) (λ b. b.2) (λ y. refl) (λ y. refl) x)
    (every_exprs KindFolds ExprFolds step_all struct_all GoodKind GoodExpr kinds_good (λ y. y.kind.1 y.place) x)
