-- From the walks through a node's parts, and the end of the node itself, the walk through the node.
use Rattle.std.proofs.Common.{◌≡◌, refl, sym, ◌∙◌, ap, subst, Bool, true, List, [], ◌∷◌, ◌++◌, map, ◌&&◌, ℕ, suc, ◌+◌, ◌<◌, ◌≤◌, length, take, drop, slice_index_or, add-one, drop-cons}
use Rattle.std.proofs.lemmas.List.{drop_all}
use Rattle.std.specs.Prelude.{Option, Some, Result, Ok, Err}
use Rattle.mx_base.specs.declared.places.Place.{Place}
use Rattle.c_tree.specs.declared.tree.Expr.{Expr}
use Rattle.c_types.specs.Types.{CType}
use Rattle.c_check_rules.specs.declared.names.Scope.{Scope}
use Rattle.c_check_rules.specs.declared.predeclared.Found.{Found}
use Rattle.c_check_typing.specs.declared.typed.Typed.{Typed}
use Rattle.c_check_typing.specs.declared.typed.Notes.{Notes}
use Rattle.c_check_typing.specs.declared.fault.CheckKind.{CheckKind}
use Rattle.c_check_typing.specs.declared.fault.Broken.{Broken}
use Rattle.c_check_typing.specs.declared.fault.CheckFault.{CheckFault}
use Rattle.c_check_typing.specs.declared.fault.CheckFault.TheVariants.{Refused, OutOfMemory}
use Rattle.c_check_typing.specs.Refusals.{FirstIs, broken_at, all_at}
use Rattle.c_check_rules.specs.declared.predeclared.Bind.{Bind}
use Rattle.c_check_typing.specs.Notes.{Own, Seen, node, leaf, one, two, three, first_evaluated, unevaluated, with_typed, Ends, Reads}
use Rattle.c_check_typing.specs.Rules.{params_of, params_after, takes_function, argument_fits, is_empty, call_own}
use Rattle.c_check_typing.specs.Expressions.{Reading, Arguments, arguments, and_fits, seen, call, ReadsAll}

-- ---- lists of broken rules

pub first_stays : {xs : List Broken} {b : Broken} (ys : List Broken) → FirstIs xs b → FirstIs (xs ++ ys) b
first_stays ys h = record { more = h.more ++ ys; is = ap (λ (z : List Broken). z ++ ys) h.is }

pub first_after : {xs ys : List Broken} {b : Broken} → xs ≡ [] → FirstIs ys b → FirstIs (xs ++ ys) b
first_after {ys = ys} e h = record { more = h.more; is = ap (λ (z : List Broken). z ++ ys) e ∙ h.is }

none_with : {xs ys : List Broken} → xs ≡ [] → ys ≡ [] → xs ++ ys ≡ []
none_with {ys = ys} e f = ap (λ (z : List Broken). z ++ ys) e ∙ f

-- ---- nodes

-- parts without a broken rule, then the node itself
node_ends : (place : Place) (broken : List Broken) (after : Notes → Notes) (own : Own) (old mid new : Notes) (r : Result Typed CheckFault)
    → broken ≡ [] → mid ≡ after old → Ends own place mid r new → Reads (node place broken after own) old r new
node_ends place broken after own old mid new (Ok t) e m h = record { is = (none_with e (ap (λ (ks : List CheckKind). all_at place ks) h.is.0), h.is.1, h.is.2 ∙ ap (λ (n : Notes). own.noted n) m) }
node_ends place broken after own old mid new (Err (Refused kind at)) e m h = record { is = first_after e h.is }
node_ends place broken after own old mid new (Err OutOfMemory) e m h = record { is = tt }

-- a part that has a broken rule first, or wants memory, ends the whole so
part_stops : {part whole : Seen} {old mid first new : Notes} (x : CheckFault)
    → ((b : Broken) → FirstIs part.broken b → FirstIs whole.broken b) → Reads part mid (Err x) new → Reads whole old (Err x) first
part_stops (Refused kind at) f h = record { is = f (broken_at at kind) h.is }
part_stops OutOfMemory f h = record { is = tt }

pub leaf_ends : {place : Place} {own : Own} {old new : Notes} {r : Result Typed CheckFault} → Ends own place old r new → Reads (leaf place own) old r new
unfolding leaf
leaf_ends {place = place} {own = own} {old = old} {new = new} {r = r} h = node_ends place [] (λ (n : Notes). n) own old old new r refl refl h

pub one_ends : (own : Option Typed → Own) {place : Place} {a : Seen} {old mid new : Notes} {t : Typed} {r : Result Typed CheckFault}
    → Reads a old (Ok t) mid → Ends (own (Some t)) place mid r new → Reads (one place a own) old r new
unfolding one
one_ends own {place = place} {a = a} {old = old} {mid = mid} {new = new} {t = t} {r = r} h e = node_ends place a.broken a.after (own a.typed) old mid new r h.is.0 h.is.2
    (subst (λ (x : Option Typed). Ends (own x) place mid r new) (sym h.is.1) e)

pub one_stops : (place : Place) (own : Option Typed → Own) {a : Seen} {old mid : Notes} {x : CheckFault}
    → Reads a old (Err x) mid → Reads (one place a own) old (Err x) mid
unfolding one
one_stops place own {a = a} {x = x} h = part_stops x (λ (b : Broken) (k : FirstIs a.broken b). first_stays (all_at place (own a.typed).broken) k) h

pub two_ends : (own : Typed → Typed → Own) {place : Place} {a b : Seen} {old mid last new : Notes} {t u : Typed} {r : Result Typed CheckFault}
    → Reads a old (Ok t) mid → Reads b mid (Ok u) last → Ends (own t u) place last r new → Reads (two place a b own) old r new
unfolding two
two_ends own {place = place} {a = a} {b = b} {old = old} {mid = mid} {last = last} {new = new} {t = t} {u = u} {r = r} h k e =
    node_ends place (a.broken ++ b.broken) (λ (n : Notes). b.after (a.after n)) (with_typed a.typed (λ t. with_typed b.typed (own t))) old last new r
    (none_with h.is.0 k.is.0) (k.is.2 ∙ ap (λ (n : Notes). b.after n) h.is.2)
    (subst (λ (x : Option Typed). Ends (with_typed x (λ t. with_typed b.typed (own t))) place last r new) (sym h.is.1)
    (subst (λ (y : Option Typed). Ends (with_typed y (own t)) place last r new) (sym k.is.1) e))

pub two_stops : (place : Place) (b : Seen) (own : Typed → Typed → Own) {a : Seen} {old mid : Notes} {x : CheckFault}
    → Reads a old (Err x) mid → Reads (two place a b own) old (Err x) mid
unfolding two
two_stops place b own {a = a} {x = x} h =
    part_stops x (λ (f : Broken) (k : FirstIs a.broken f). first_stays (all_at place (with_typed a.typed (λ t. with_typed b.typed (own t))).broken) (first_stays b.broken k)) h

pub two_stops_late : (place : Place) (own : Typed → Typed → Own) {a b : Seen} {old mid last : Notes} {t : Typed} {x : CheckFault}
    → Reads a old (Ok t) mid → Reads b mid (Err x) last → Reads (two place a b own) old (Err x) last
unfolding two
two_stops_late place own {a = a} {b = b} {x = x} h k =
    part_stops x (λ (f : Broken) (j : FirstIs b.broken f). first_stays (all_at place (with_typed a.typed (λ t. with_typed b.typed (own t))).broken) (first_after h.is.0 j)) k

pub three_ends : (own : Typed → Typed → Typed → Own) {place : Place} {a b d : Seen} {old mid next last new : Notes} {t u v : Typed} {r : Result Typed CheckFault}
    → Reads a old (Ok t) mid → Reads b mid (Ok u) next → Reads d next (Ok v) last → Ends (own t u v) place last r new → Reads (three place a b d own) old r new
unfolding three
three_ends own {place = place} {a = a} {b = b} {d = d} {old = old} {mid = mid} {next = next} {last = last} {new = new} {t = t} {u = u} {v = v} {r = r} h k j e =
    node_ends place (a.broken ++ (b.broken ++ d.broken)) (λ (n : Notes). d.after (b.after (a.after n)))
    (with_typed a.typed (λ t. with_typed b.typed (λ u. with_typed d.typed (own t u)))) old last new r
    (none_with h.is.0 (none_with k.is.0 j.is.0)) (j.is.2 ∙ ap (λ (n : Notes). d.after n) (k.is.2 ∙ ap (λ (n : Notes). b.after n) h.is.2))
    (subst (λ (x : Option Typed). Ends (with_typed x (λ t. with_typed b.typed (λ u. with_typed d.typed (own t u)))) place last r new) (sym h.is.1)
    (subst (λ (y : Option Typed). Ends (with_typed y (λ u. with_typed d.typed (own t u))) place last r new) (sym k.is.1)
    (subst (λ (z : Option Typed). Ends (with_typed z (own t u)) place last r new) (sym j.is.1) e)))

pub three_stops : (place : Place) (b : Seen) (d : Seen) (own : Typed → Typed → Typed → Own) {a : Seen} {old mid : Notes} {x : CheckFault}
    → Reads a old (Err x) mid → Reads (three place a b d own) old (Err x) mid
unfolding three
three_stops place b d own {a = a} {x = x} h =
    part_stops x (λ (f : Broken) (k : FirstIs a.broken f). first_stays (all_at place (with_typed a.typed (λ t. with_typed b.typed (λ u. with_typed d.typed (own t u)))).broken) (first_stays (b.broken ++ d.broken) k)) h

pub three_stops_late : (place : Place) (d : Seen) (own : Typed → Typed → Typed → Own) {a b : Seen} {old mid next : Notes} {t : Typed} {x : CheckFault}
    → Reads a old (Ok t) mid → Reads b mid (Err x) next → Reads (three place a b d own) old (Err x) next
unfolding three
three_stops_late place d own {a = a} {b = b} {x = x} h k =
    part_stops x (λ (f : Broken) (j : FirstIs b.broken f). first_stays (all_at place (with_typed a.typed (λ t. with_typed b.typed (λ u. with_typed d.typed (own t u)))).broken) (first_after h.is.0 (first_stays d.broken j))) k

pub three_stops_last : (place : Place) (own : Typed → Typed → Typed → Own) {a b d : Seen} {old mid next last : Notes} {t u : Typed} {x : CheckFault}
    → Reads a old (Ok t) mid → Reads b mid (Ok u) next → Reads d next (Err x) last → Reads (three place a b d own) old (Err x) last
unfolding three
three_stops_last place own {a = a} {b = b} {d = d} {x = x} h k j =
    part_stops x (λ (f : Broken) (i : FirstIs d.broken f). first_stays (all_at place (with_typed a.typed (λ t. with_typed b.typed (λ u. with_typed d.typed (own t u)))).broken) (first_after h.is.0 (first_after k.is.0 i))) j

-- ---- calls

pub call_ends : (scope : Scope) (found : Found) (params : List CType) (all : List Reading) {place : Place} {fit : Bool} {old mid new : Notes} {r : Result Typed CheckFault}
    → params ≡ params_of found → ReadsAll (arguments scope (Some true) params all) old (Ok fit) mid → Ends (call_own found (Some fit)) place mid r new
    → Reads (call place scope found all) old r new
unfolding call
call_ends scope found params all {place = place} {fit = fit} {old = old} {mid = mid} {new = new} {r = r} p k e =
    let h = subst (λ (ps : List CType). ReadsAll (arguments scope (Some true) ps all) old (Ok fit) mid) p k in
    let args : Arguments = arguments scope (Some true) (params_of found) all in
    node_ends place args.broken args.after (call_own found args.fit) old mid new r h.is.0 h.is.2
    (subst (λ (x : Option Bool). Ends (call_own found x) place mid r new) (sym h.is.1) e)

call_stopped : (place : Place) (scope : Scope) (found : Found) (all : List Reading) {old mid : Notes} (x : CheckFault)
    → ReadsAll (arguments scope (Some true) (params_of found) all) old (Err x) mid → Reads (call place scope found all) old (Err x) mid
unfolding call
call_stopped place scope found all (Refused kind at) h =
    record { is = first_stays (all_at place (call_own found (arguments scope (Some true) (params_of found) all).fit).broken) h.is }
call_stopped place scope found all OutOfMemory h = record { is = tt }

pub call_stops : (place : Place) (scope : Scope) (found : Found) (params : List CType) (all : List Reading) {old mid : Notes} {x : CheckFault}
    → params ≡ params_of found → ReadsAll (arguments scope (Some true) params all) old (Err x) mid → Reads (call place scope found all) old (Err x) mid
call_stops place scope found params all {old = old} {mid = mid} {x = x} p h = call_stopped place scope found all x (subst (λ (ps : List CType). ReadsAll (arguments scope (Some true) ps all) old (Err x) mid) p h)

-- ---- arguments

pub argument_stops : (a : Reading) (scope : Scope) (fit : Bool) (params : List CType) (more : List Reading) {old mid : Notes} (x : CheckFault)
    → Reads (a (takes_function params) scope) old (Err x) mid → ReadsAll (arguments scope (Some fit) params (a ∷ more)) old (Err x) mid
argument_stops a scope fit params more (Refused kind at) h =
    record { is = first_stays (arguments scope (and_fits (Some fit) params (a (takes_function params) scope).typed) (params_after params) more).broken h.is }
argument_stops a scope fit params more OutOfMemory h = record { is = tt }

-- what is left after one more argument
pub record Left (whole rest : Arguments) (old new : Notes) : Type 0 where
  pub broken : whole.broken ≡ rest.broken
  pub fit : whole.fit ≡ rest.fit
  pub after : whole.after old ≡ rest.after new

pub argument_read : (a : Reading) (scope : Scope) (fit : Bool) (params : List CType) (more : List Reading) {old mid : Notes} {t : Typed}
    → Reads (a (takes_function params) scope) old (Ok t) mid
    → Left (arguments scope (Some fit) params (a ∷ more)) (arguments scope (Some (fit && argument_fits params t)) (params_after params) more) old mid
argument_read a scope fit params more {old = old} {mid = mid} {t = t} h =
    let rest = λ (x : Option Typed). arguments scope (and_fits (Some fit) params x) (params_after params) more in
    record {
      broken = ap (λ (z : List Broken). z ++ (rest (a (takes_function params) scope).typed).broken) h.is.0 ∙ ap (λ (x : Option Typed). (rest x).broken) h.is.1;
      fit = ap (λ (x : Option Typed). (rest x).fit) h.is.1;
      after = ap (λ (x : Option Typed). (rest x).after ((a (takes_function params) scope).after old)) h.is.1 ∙ ap (λ (n : Notes). (rest (Some t)).after n) (sym h.is.2);
    }

left_then : {w v u : Arguments} {old mid new : Notes} → Left w v old mid → Left v u mid new → Left w u old new
left_then h k = record { broken = h.broken ∙ k.broken; fit = h.fit ∙ k.fit; after = h.after ∙ k.after }

-- the same list, written otherwise
left_as : {w : Arguments} {old new : Notes} (scope : Scope) (fit : Bool) (params : List CType) {args more : List Expr}
    → args ≡ more → Left w (arguments scope (Some fit) params (map seen args)) old new → Left w (arguments scope (Some fit) params (map seen more)) old new
left_as {w = w} {old = old} {new = new} scope fit params e h = subst (λ (l : List Expr). Left w (arguments scope (Some fit) params (map seen l)) old new) e h

broken_first : {w v : Arguments} {old mid new : Notes} (x : CheckFault) → w.broken ≡ v.broken → ReadsAll v mid (Err x) new → ReadsAll w old (Err x) new
broken_first (Refused kind at) e h = record { is = subst (λ (bs : List Broken). FirstIs bs (broken_at at kind)) (sym e) h.is }
broken_first OutOfMemory e h = record { is = tt }

-- the next argument has the first broken rule
pub arguments_stop : {w : Arguments} {old mid new : Notes} {x : CheckFault} {r : Result Bool CheckFault} (a : Expr) (args more : List Expr) (scope : Scope) (fit : Bool) (params : List CType) (flag : Bool)
    → Left w (arguments scope (Some fit) params (map seen args)) old mid → args ≡ a ∷ more → flag ≡ takes_function params
    → Reads (seen a flag scope) mid (Err x) new → r ≡ Err x → ReadsAll w old r new
arguments_stop {w = w} {old = old} {mid = mid} {new = new} {x = x} a args more scope fit params flag l e g h is =
    subst (λ (q : Result Bool CheckFault). ReadsAll w old q new) (sym is)
    (broken_first x (left_as scope fit params e l).broken
    (argument_stops (seen a) scope fit params (map seen more) x (subst (λ (b : Bool). Reads (seen a b scope) mid (Err x) new) g h)))

-- the next argument breaks no rule
pub arguments_go : {w : Arguments} {old mid new : Notes} {t : Typed} (a : Expr) (args more : List Expr) (scope : Scope) (fit : Bool) (params : List CType) (flag fits next : Bool) (after : List CType)
    → Left w (arguments scope (Some fit) params (map seen args)) old mid → args ≡ a ∷ more → flag ≡ takes_function params
    → Reads (seen a flag scope) mid (Ok t) new → fits ≡ argument_fits params t → next ≡ (fit && fits) → after ≡ params_after params
    → Left w (arguments scope (Some next) after (map seen more)) old new
arguments_go {w = w} {old = old} {mid = mid} {new = new} {t = t} a args more scope fit params flag fits next after l e g h f n p =
    subst (λ (ps : List CType). Left w (arguments scope (Some next) ps (map seen more)) old new) (sym p)
    (subst (λ (b : Bool). Left w (arguments scope (Some b) (params_after params) (map seen more)) old new) (sym (n ∙ ap (λ (b : Bool). fit && b) f))
    (left_then (left_as scope fit params e l)
    (argument_read (seen a) scope fit params (map seen more) (subst (λ (b : Bool). Reads (seen a b scope) mid (Ok t) new) g h))))

-- all arguments are read
pub arguments_end : {w : Arguments} {old new : Notes} (args : List Expr) (scope : Scope) (fit : Bool) (params : List CType) (none all : Bool)
    → Left w (arguments scope (Some fit) params (map seen args)) old new → args ≡ [] → none ≡ is_empty params → all ≡ (fit && none) → ReadsAll w old (Ok all) new
arguments_end args scope fit params none all l e n g = let k = left_as scope fit params e l in
    record { is = (k.broken, k.fit ∙ ap (λ (b : Bool). Some b) (sym (g ∙ ap (λ (b : Bool). fit && b) n)), sym k.after) }

-- an argument and those after it
pub next_argument : (args : List Expr) (i : ℕ) (a : Expr) → i < length args → a ≡ slice_index_or args i a → drop i args ≡ a ∷ drop (i + 1) args
next_argument args i a h e = rw (add-one, drop-cons args i a) (ap (λ (x : Expr). x ∷ drop (suc i) args) (sym e))

pub no_argument : (args : List Expr) (i : ℕ) → length args ≤ i → drop i args ≡ []
no_argument args i h = drop_all i args h

-- ---- what is not evaluated

pub unevaluated_reads : {a : Seen} {old mid : Notes} {t : Typed} {count uses : ℕ} {kept : List ℕ} {used : List Bind}
    → count ≡ length old.literals → uses ≡ length old.used → kept ≡ take count mid.literals → used ≡ take uses mid.used → Reads a old (Ok t) mid → Reads (unevaluated a) old (Ok t) (record mid { literals = kept; used = used })
unfolding unevaluated
unevaluated_reads {a = a} {old = old} {mid = mid} {count = count} {uses = uses} {kept = kept} {used = used} e f k l h = record {
  is = (
    h.is.0,
    h.is.1,
    ap (λ (bytes : List ℕ). let n : Notes = record mid { literals = bytes; used = used } in n) k
        ∙ (ap (λ (binds : List Bind). let n : Notes = record mid { literals = take count mid.literals; used = binds } in n) l
        ∙ (ap (λ (n : ℕ). first_evaluated n uses mid) e ∙ (ap (λ (n : ℕ). first_evaluated (length old.literals) n mid) f ∙ ap (λ (n : Notes). first_evaluated (length old.literals) (length old.used) n) h.is.2))),
  );
}

pub unevaluated_stops : {a : Seen} {old mid : Notes} {x : CheckFault} → Reads a old (Err x) mid → Reads (unevaluated a) old (Err x) mid
unfolding unevaluated
unevaluated_stops {a = a} {x = x} h = part_stops x (λ (b : Broken) (k : FirstIs a.broken b). k) h
