-- Each global and function that a source knows stands in the order of the first declarations, so each that is defined or used has a symbol.
use Rattle.std.proofs.Common.{◌≡◌, ◌⊎◌, inl, inr, refl, sym, ap, ◌∙◌, subst, ℕ, zero, suc, ◌+◌, ◌<◌, ◌≤◌, nat_lt, if◌then◌else◌, Bool, true, false, List, [], ◌∷◌, ◌++◌, map, length, slice_set, arith}
use Rattle.std.specs.Prelude.{Option, None, Some, is_some, slice_get}
use Rattle.std.proofs.lemmas.Bool.{eq-eqb, ltb-true, ltb-false}
use Rattle.mx_base.specs.declared.places.Place.{Place}
use Rattle.c_tree.specs.declared.tree.Tree.{Tree}
use Rattle.c_tree.specs.declared.tree.Item.{Item}
use Rattle.c_tree.specs.declared.tree.ItemKind.{ItemKind}
use Rattle.c_tree.specs.declared.tree.ItemKind.TheVariants as k
use Rattle.c_tree.specs.declared.tree.Decl.{Decl}
use Rattle.c_tree.specs.declared.tree.Stmt.{Stmt}
use Rattle.c_types.specs.Types.{CType}
use Rattle.c_check_rules.specs.declared.names.Scope.{Scope}
use Rattle.c_check_rules.specs.declared.names.Variable.{Variable}
use Rattle.c_check_rules.specs.declared.names.Function.{Function}
use Rattle.c_check_rules.specs.declared.predeclared.Bind.{Bind}
use Rattle.c_check_rules.specs.declared.predeclared.Bind.TheVariants as b
use Rattle.c_check_rules.specs.Names.{numbered, variable_at, function_at}
use Rattle.c_check_statements.specs.declared.decls.Use.{Use}
use Rattle.c_check_statements.specs.declared.initialisers.Filled.TheVariants as f
use Rattle.c_check_statements.specs.declared.state.State.{State}
use Rattle.c_check_statements.specs.Walks.{◌then◌, walk_all}
use Rattle.c_check_statements.specs.Declarations.{introduced, declares, global_declared, function_declared, function_number, number_in, put_variable, put_function, with_first, with_variable, with_function}
use Rattle.c_check_statements.specs.Initialisers.{maybe_fills}
use Rattle.c_check_statements.specs.Statements.{maybe_statement}
use Rattle.c_check_statements.specs.Functions.{parameter, ends_function, enter_function, leave_function, function_inner, function_after}
use Rattle.c_check_statements.specs.Sources.{is_definition, item_kind, item, items, at_start}
use Rattle.c_check.specs.Accepted.{after}
use Rattle.c_check.specs.declared.symbols.Subject.{Subject}
use Rattle.c_check.specs.declared.symbols.Subject.TheVariants.{Global, Function as OfFunction, Literals}
use Rattle.c_check.specs.Symbols.{has_symbol, subject_of, if_symbol, with_subject, named_from, named, is_same, place_from, HasNumber}
use Rattle.c_check.proofs.KeptNames.{Known, known_of, Keeps, kept_then, kept_node, kept_inside, kept_and_then, kept_parameter, kept_maybe_fills, kept_maybe_statement, kept_struct}

-- ---- the order

abbrev Has : Bind → List Bind → Type 0
Has x [] = ⊥
Has x (y ∷ more) = (x ≡ y) ⊎ Has x more

has_more : (x y : Bind) (all : List Bind) → Has x all → Has x (all ++ y ∷ [])
has_more x y [] h = absurd h
has_more x y (z ∷ more) (inl e) = inl e
has_more x y (z ∷ more) (inr h) = inr (has_more x y more h)

has_last : (x : Bind) (all : List Bind) → Has x (all ++ x ∷ [])
has_last x [] = inl refl
has_last x (z ∷ more) = inr (has_last x more)

-- all of so many
abbrev AllIn : (ℕ → Bind) → (count : ℕ) → List Bind → Type 0
AllIn bind count order = (n : ℕ) → n < count → Has (bind (numbered n)) order

abbrev Ordered : Known → Type 0
Ordered known = AllIn b.Global (length known.1) known.0 × AllIn b.Fun (length known.2) known.0

one_more : (bind : ℕ → Bind) (count : ℕ) (order : List Bind) → AllIn bind count order → AllIn bind (count + 1) (order ++ bind (numbered count) ∷ [])
one_more bind count order h n lt = by (nat_lt n count) refl
  where
    by : (t : Bool) → nat_lt n count ≡ t → Has (bind (numbered n)) (order ++ bind (numbered count) ∷ [])
    by true e = has_more (bind (numbered n)) (bind (numbered count)) order (h n (ltb-true n count e))
    by false e = let past = ltb-false n count e in let same : count ≡ n = omega (arith, lt, past) in
        subst (λ m. Has (bind (numbered n)) (order ++ bind (numbered m) ∷ [])) (sym same) (has_last (bind (numbered n)) order)

as_many : {A : Type 0} (all : List A) (x : A) → length (all ++ x ∷ []) ≡ length all + 1
as_many [] x = refl
as_many (y ∷ more) x = let same : suc (length more + 1) ≡ suc (length more) + 1 = omega arith in ap suc (as_many more x) ∙ same

set_as_many : {A : Type 0} (all : List A) (at : ℕ) (x : A) → length (slice_set all at x) ≡ length all
set_as_many [] at x = refl
set_as_many (y ∷ more) zero x = refl
set_as_many (y ∷ more) (suc at) x = ap suc (set_as_many more at x)

-- ---- declarations

variable_put : (found : Option ℕ) (order : List Bind) (vs : List Variable) (fs : List Function) (v : Variable) → Ordered (order, vs, fs) → Ordered (with_first found (b.Global (number_in (length vs) found)) order, put_variable vs found v, fs)
variable_put None order vs fs v h = (
  subst (λ n. AllIn b.Global n (order ++ b.Global (numbered (length vs)) ∷ [])) (sym (as_many vs v)) (one_more b.Global (length vs) order h.0),
  (λ n lt. has_more (b.Fun (numbered n)) (b.Global (numbered (length vs))) order (h.1 n lt)),
)
variable_put (Some at) order vs fs v h = (subst (λ n. AllIn b.Global n order) (sym (set_as_many vs at v)) h.0, h.1)

function_put : (found : Option ℕ) (order : List Bind) (vs : List Variable) (fs : List Function) (x : Function) → Ordered (order, vs, fs) → Ordered (with_first found (b.Fun (number_in (length fs) found)) order, vs, put_function fs found x)
function_put None order vs fs x h = (
  (λ n lt. has_more (b.Global (numbered n)) (b.Fun (numbered (length fs))) order (h.0 n lt)),
  subst (λ n. AllIn b.Fun n (order ++ b.Fun (numbered (length fs)) ∷ [])) (sym (as_many fs x)) (one_more b.Fun (length fs) order h.1),
)
function_put (Some at) order vs fs x h = (h.0, subst (λ n. AllIn b.Fun n order) (sym (set_as_many fs at x)) h.1)

variable_ordered : (name : List ℕ) (defined : Bool) (kind : CType) (state : State) → Ordered (known_of state) → Ordered (known_of (with_variable name defined kind state))
variable_ordered name defined kind state h = variable_put (variable_at state.scope name) state.order state.scope.variables state.scope.functions _ h

function_ordered : (name : List ℕ) (params : List Decl) (defined : Bool) (kind : CType) (state : State) → Ordered (known_of state) → Ordered (known_of (with_function name params defined kind state))
function_ordered name params defined kind state h = function_put (function_at state.scope name) state.order state.scope.variables state.scope.functions _ h

introduced_ordered : (introduce : CType → State → State) (kind : Option CType) (state : State) → ((kind : CType) (state : State) → Ordered (known_of state) → Ordered (known_of (introduce kind state))) → Ordered (known_of state) → Ordered (known_of (introduced introduce kind state))
introduced_ordered introduce None state h g = g
introduced_ordered introduce (Some kind) state h g = h kind state g

declared_ordered : (usage : Use) (twice : Scope → Option CType → Bool) (wrong : Bool) (introduce : CType → State → State) (d : Decl) (state : State) → ((kind : CType) (state : State) → Ordered (known_of state) → Ordered (known_of (introduce kind state)))
    → Ordered (known_of state) → Ordered (known_of (declares usage twice wrong introduce d state).state)
unfolding declares
declared_ordered usage twice wrong introduce d state h g = introduced_ordered introduce _ _ h g

-- ---- items

kept_params : (params : List Decl) → Keeps (walk_all (map parameter params))
kept_params [] state = refl
kept_params (d ∷ more) state = kept_then (parameter d) (walk_all (map parameter more)) (kept_parameter d) (kept_params more) state

kept_leaving : (number : ℕ) (body : Option Stmt) (old new : State) → known_of (leave_function number body old new) ≡ known_of new
kept_leaving number None old new = refl
kept_leaving number (Some x) old new = refl

kept_after : (number : ℕ) (d : Decl) (params : List Decl) (body : Option Stmt) (place : Place) (result : Option CType) → Keeps (function_after number d params body place result)
kept_after number d params body place result = kept_inside (enter_function result) (function_inner d params body place) (leave_function number body) (λ state. refl) (kept_leaving number body)
    (kept_then (walk_all (map parameter params)) (maybe_statement body then ends_function d params body place) (kept_params params)
    (kept_then (maybe_statement body) (ends_function d params body place) (kept_maybe_statement body) (λ state. kept_node place _ state)))

kind_ordered : (x : ItemKind) (place : Place) (state : State) → Ordered (known_of state) → Ordered (known_of (item_kind x place state).state)
kind_ordered (k.Struct tag members) place state h = subst Ordered (sym (kept_struct tag members place state)) h
kind_ordered (k.Var external d init) place state h =
    subst Ordered (sym (kept_and_then (global_declared (is_definition external init) d state) (maybe_fills init f.Global) (λ kind. kept_maybe_fills init f.Global kind)))
    (declared_ordered _ _ _ (with_variable d.name (is_definition external init)) d state (variable_ordered d.name (is_definition external init)) h)
kind_ordered (k.Fun d params body) place state h =
    subst Ordered (sym (kept_and_then (function_declared (is_some body) params d state) (function_after (function_number d.name state.scope) d params body place) (kept_after (function_number d.name state.scope) d params body place)))
    (declared_ordered _ _ _ (with_function d.name params (is_some body)) d state (function_ordered d.name params (is_some body)) h)

items_ordered : (all : List Item) (state : State) → Ordered (known_of state) → Ordered (known_of (items all state).state)
unfolding ◌then◌
items_ordered [] state h = h
items_ordered (x ∷ more) state h = items_ordered more (item x state).state (kind_ordered x.kind x.place state h)

all_ordered : (tree : Tree) → Ordered (known_of (after tree))
all_ordered tree = items_ordered tree.items at_start ((λ n lt. absurd (omega (arith, lt))), (λ n lt. absurd (omega (arith, lt))))

-- ---- symbols

same_itself : (s : Subject) → is_same s s ≡ true
same_itself (Global n) = eq-eqb n n refl
same_itself (OfFunction n) = eq-eqb n n refl
same_itself Literals = refl

record Placed (at : ℕ) (s : Subject) (all : List Subject) : Type 0 where
  number : ℕ
  is : place_from at s all ≡ Some number

placed_behind : (at : ℕ) (s x : Subject) (more : List Subject) → Placed (at + 1) s more → Placed at s (x ∷ more)
placed_behind at s x more h = by (is_same s x) refl
  where
    by : (t : Bool) → is_same s x ≡ t → Placed at s (x ∷ more)
    by true e = record { number = at; is = ap (λ t. if t then Some at else place_from (at + 1) s more) e }
    by false e = record { number = h.number; is = ap (λ t. if t then Some at else place_from (at + 1) s more) e ∙ h.is }

placed_here : (at : ℕ) (s : Subject) (more : List Subject) → Placed at s (s ∷ more)
placed_here at s more = record { number = at; is = ap (λ t. if t then Some at else place_from (at + 1) s more) (same_itself s) }

placed_with : (found : Option Subject) (s : Subject) (more : List Subject) → ((at : ℕ) → Placed at s more) → (at : ℕ) → Placed at s (with_subject found more)
placed_with None s more h at = h at
placed_with (Some x) s more h at = placed_behind at s x more (h (at + 1))

placed : (state : State) (s : Subject) (bind : Bind) (order : List Bind) → subject_of bind ≡ Some s → has_symbol state s ≡ true → Has bind order → (at : ℕ) → Placed at s (named_from state order)
placed state s bind [] is has h at = absurd h
placed state s bind (y ∷ more) is has (inl e) at = subst (λ (found : Option Subject). Placed at s (with_subject found (named_from state more))) (sym found) (placed_here at s (named_from state more))
  where
    found : if_symbol state (subject_of y) ≡ Some s
    found = ap (λ (x : Option Subject). if_symbol state x) (ap subject_of (sym e) ∙ is) ∙ ap (λ t. if t then Some s else None) has
placed state s bind (y ∷ more) is has (inr h) at = placed_with (if_symbol state (subject_of y)) s (named_from state more) (placed state s bind more is has h) at

got_within : {A : Type 0} (all : List A) (n : ℕ) (x : A) → slice_get all n ≡ Some x → n < length all
got_within [] n x e = cc
got_within (y ∷ all) zero x e = omega arith
got_within (y ∷ all) (suc n) x e = let h = got_within all n x e in omega (arith, h)

not_clamped : (n : ℕ) → n ≤ 4294967295 → numbered n ≡ n
not_clamped n le = omega (arith, le)

pub globals_have_numbers : (tree : Tree) (n : ℕ) (v : Variable) → n ≤ 4294967295 → slice_get (after tree).scope.variables n ≡ Some v → has_symbol (after tree) (Global n) ≡ true → HasNumber tree (Global n)
unfolding named
globals_have_numbers tree n v le known has =
    let there = (all_ordered tree).0 n (got_within (after tree).scope.variables n v known) in
    let p = placed (after tree) (Global n) (b.Global n) (after tree).order refl has (subst (λ m. Has (b.Global m) (after tree).order) (not_clamped n le) there) 0 in
    record { number = p.number; is = p.is }

pub functions_have_numbers : (tree : Tree) (n : ℕ) (x : Function) → n ≤ 4294967295 → slice_get (after tree).scope.functions n ≡ Some x → has_symbol (after tree) (OfFunction n) ≡ true → HasNumber tree (OfFunction n)
unfolding named
functions_have_numbers tree n x le known has =
    let there = (all_ordered tree).1 n (got_within (after tree).scope.functions n x known) in
    let p = placed (after tree) (OfFunction n) (b.Fun n) (after tree).order refl has (subst (λ m. Has (b.Fun m) (after tree).order) (not_clamped n le) there) 0 in
    record { number = p.number; is = p.is }
