-- Global variables keep their numbers and types.
use Rattle.std.proofs.Common.{◌≡◌, ℕ, zero, suc, refl, sym, ◌∙◌, subst, Bool, false, List, [], ◌∷◌, ◌++◌, map, length, ◌≤◌, arith}
use Rattle.std.specs.Prelude.{Option, None, Some, is_some, slice_get, slice_set}
use Rattle.mx_base.specs.declared.places.Place.{Place}
use Rattle.c_tree.specs.declared.tree.Item.{Item}
use Rattle.c_tree.specs.declared.tree.ItemKind.{ItemKind}
use Rattle.c_tree.specs.declared.tree.ItemKind.TheVariants as k
use Rattle.c_tree.specs.declared.tree.Decl.{Decl}
use Rattle.c_tree.specs.declared.tree.Init.{Init}
use Rattle.c_tree.specs.declared.tree.Stmt.{Stmt}
use Rattle.c_tree.specs.declared.tree.Tree.{Tree}
use Rattle.c_types.specs.Types.{CType}
use Rattle.c_check_rules.specs.declared.names.Scope.{Scope}
use Rattle.c_check_rules.specs.declared.names.Variable.{Variable}
use Rattle.c_check_rules.specs.Names.{variable_at, function_at}
use Rattle.c_check_statements.specs.declared.decls.Use.TheVariants as u
use Rattle.c_check_statements.specs.declared.initialisers.Filled.TheVariants as f
use Rattle.c_check_statements.specs.declared.state.State.{State}
use Rattle.c_check_statements.specs.Declarations.{is_reserved, blocks_variable, variable_in, global_twice, is_main, put_variable, with_variable, global_declared, after_counts, function_twice, with_function, function_number, function_declared}
use Rattle.c_check_statements.specs.Functions.{parameter, enter_function, function_after, function_walk}
use Rattle.c_check_statements.specs.Initialisers.{maybe_fills}
use Rattle.c_check_statements.specs.Sources.{is_definition, global_walk, item_kind, item, items, at_start}
use Rattle.c_check_statements.specs.Walks.{◌then◌, walk_all}
use Rattle.c_check.specs.Accepted.{IsAccepted, after}
use Rattle.c_check.specs.Standing.{structs_seen}
use Rattle.bounds_plan.specs.elaboration.Source.{Around}
use Rattle.bounds_plan.specs.elaboration.Places.{InMemory}
use Rattle.bounds_plan.specs.meaning.Core.{Null}
use Rattle.c_types.specs.Types.{Void}
use Rattle.c_accepted.specs.Wholes.{HasNumber, StayGlobals}
use Rattle.c_accepted.proofs.Empty.{first_empty, second_empty, neither}
use Rattle.c_accepted.proofs.Heads.{same_type, params_well}
use Rattle.c_accepted.proofs.Naming.{untold}
use Rattle.c_accepted.proofs.Sizing.{within}
use Rattle.c_accepted.proofs.Declaring.{declares_well}
use Rattle.c_accepted.proofs.Stating.{after_declared, none_after, none_in}
use Rattle.c_accepted.proofs.Structures.{struct_well}
use Rattle.c_accepted.proofs.Filling.{initialisers_alike}
use Rattle.c_accepted.proofs.Bodies.{way, grows_maybe}
use Rattle.c_accepted.proofs.Small.{none_broken}

-- ---- lists

stay : (xs : List Variable) → StayGlobals xs xs
stay xs n type h = h

stay_then : (xs ys zs : List Variable) → StayGlobals xs ys → StayGlobals ys zs → StayGlobals xs zs
stay_then xs ys zs h g n type x = g n type (h n type x)

stay_as : (xs ys : List Variable) → ys ≡ xs → StayGlobals xs ys
stay_as xs ys e = subst (StayGlobals xs) (sym e) (stay xs)

deeper : (x : Variable) (xs : List Variable) (n : ℕ) (type : CType) → HasNumber xs n type → HasNumber (x ∷ xs) (suc n) type
deeper x xs n type h = record { variable = h.variable; known = h.known; has = h.has }

inner : (x : Variable) (xs : List Variable) (n : ℕ) (type : CType) → HasNumber (x ∷ xs) (suc n) type → HasNumber xs n type
inner x xs n type h = record { variable = h.variable; known = h.known; has = h.has }

add_stays : (xs : List Variable) (v : Variable) → StayGlobals xs (xs ++ (v ∷ []))
add_stays [] v n type h = let none : None ≡ Some h.variable = h.known in cc
add_stays (x ∷ xs) v zero type h = record { variable = h.variable; known = h.known; has = h.has }
add_stays (x ∷ xs) v (suc n) type h = deeper x (xs ++ (v ∷ [])) n type (add_stays xs v n type (inner x xs n type h))

set_stays : (xs : List Variable) (at : ℕ) (v : Variable) → ((w : Variable) → slice_get xs at ≡ Some w → w.kind ≡ v.kind) → StayGlobals xs (slice_set xs at v)
set_stays [] at v same n type h = h
set_stays (x ∷ xs) zero v same zero type h = record { variable = v; known = refl; has = sym (same h.variable h.known) ∙ h.has }
set_stays (x ∷ xs) zero v same (suc n) type h = deeper v xs n type (inner x xs n type h)
set_stays (x ∷ xs) (suc at) v same zero type h = record { variable = h.variable; known = h.known; has = h.has }
set_stays (x ∷ xs) (suc at) v same (suc n) type h = deeper x (slice_set xs at v) n type (set_stays xs at v same n type (inner x xs n type h))

record Last (x : Variable) (xs : List Variable) : Type 0 where
  got : Variable
  is : slice_get (x ∷ xs) (length xs) ≡ Some got

last : (x : Variable) (xs : List Variable) → Last x xs
last x [] = record { got = x; is = refl }
last x (y ∷ xs) = let l = last y xs in record { got = l.got; is = l.is }

pub stay_many : (xs ys : List Variable) → StayGlobals xs ys → length xs ≤ length ys
stay_many [] ys h = omega arith
stay_many (x ∷ xs) ys h = let l = last x xs in let there = h (length xs) l.got.kind record { variable = l.got; known = l.is; has = refl } in omega (arith, within ys (length xs) there.variable there.known)

-- ---- one variable

same_as : (w : Variable) (type : CType) → blocks_variable (Some w) (Some type) ≡ false → w.kind ≡ type
same_as w type h = same_type w.kind type (untold _ (neither w.defined _ h).1)

put_stays : (scope : Scope) (o : Option ℕ) (v : Variable) → blocks_variable (variable_in scope o) (Some v.kind) ≡ false → StayGlobals scope.variables (put_variable scope.variables o v)
put_stays scope None v h = add_stays scope.variables v
put_stays scope (Some at) v h = set_stays scope.variables at v (λ w e. same_as w v.kind (subst (λ o. blocks_variable o (Some v.kind) ≡ false) e h))

-- ---- items

-- the structs of a source are around it
around_it : State → Around
around_it state = record {
  structs = structs_seen state.scope.structs;
  tags = [];
  members = [];
  signatures = [];
  meanings = record { kinds = []; binds = []; declared = [] };
  layout = record { globals = []; functions = []; texts = 0; literals = []; frames = [] };
  flags = record { narrow = false; first_own = false; innermost = false; flexible = false };
  variables = [];
  stands = [];
  result = Void;
}

fills_keep : (init : Option Init) (kind : CType) (state : State) → (maybe_fills init f.Global (Some kind) state).broken ≡ [] → (maybe_fills init f.Global (Some kind) state).state.scope.variables ≡ state.scope.variables
unfolding around_it
fills_keep None kind state h = refl
fills_keep (Some x) kind state h = ((initialisers_alike x).moves f.Global kind state (around_it state) refl (InMemory Null) 0 h).grows.variables

global_stays : (external : Bool) (d : Decl) (init : Option Init) (state : State) → (global_walk external d init state).broken ≡ [] → StayGlobals state.scope.variables (global_walk external d init state).state.scope.variables
global_stays external d init state h =
    let defined = is_definition external init in let declared = global_declared defined d state in let behind = maybe_fills init f.Global in
    let known = declares_well u.Variable (global_twice d.name) (is_main d.name) (with_variable d.name defined) d state (none_in declared behind h) in
    let mid = with_variable d.name defined known.kind (after_counts state d) in
    let kept = fills_keep init known.kind mid (none_after declared behind known.kind mid known.is known.next h) in
    let once = (neither (is_some (function_at state.scope d.name)) _ (neither (is_reserved d.name) _ known.once).1).1 in
    subst (λ new. StayGlobals state.scope.variables new.scope.variables) (sym (after_declared declared behind known.kind mid known.is known.next))
    (stay_then state.scope.variables mid.scope.variables _ (put_stays state.scope (variable_at state.scope d.name) record { name = d.name; kind = known.kind; defined = defined } once) (stay_as mid.scope.variables _ kept))

function_stays : (d : Decl) (params : List Decl) (body : Option Stmt) (place : Place) (state : State) → (function_walk d params body place state).broken ≡ [] → StayGlobals state.scope.variables (function_walk d params body place state).state.scope.variables
unfolding around_it
function_stays d params body place state h =
    let declared = function_declared (is_some body) params d state in let number = function_number d.name state.scope in let behind = function_after number d params body place in
    let known = declares_well u.Result (function_twice d.name params) false (with_function d.name params (is_some body)) d state (none_in declared behind h) in
    let mid = with_function d.name params (is_some body) known.kind (after_counts state d) in
    let by = way number d params body place known.kind mid (none_after declared behind known.kind mid known.is known.next h) in
    let start = enter_function (Some known.kind) mid in let one = (walk_all (map parameter params) start).state in
    let p = (params_well params start (around_it start) refl by.through_params).moves.grows in
    let more = grows_maybe body one (around_it one) refl by.through_body in
    subst (λ new. StayGlobals state.scope.variables new.scope.variables) (sym (after_declared declared behind known.kind mid known.is known.next))
    (stay_as state.scope.variables _ (by.variables ∙ (more.grows.variables ∙ p.variables)))

item_stays : (x : ItemKind) (place : Place) (state : State) → (item_kind x place state).broken ≡ [] → StayGlobals state.scope.variables (item_kind x place state).state.scope.variables
item_stays (k.Struct tag members) place state h = stay_as state.scope.variables _ (struct_well tag members place state h).variables
item_stays (k.Var external d init) place state h = global_stays external d init state h
item_stays (k.Fun d params body) place state h = function_stays d params body place state h

pub items_stay : (all : List Item) (state : State) → (items all state).broken ≡ [] → StayGlobals state.scope.variables (items all state).state.scope.variables
unfolding ◌then◌
items_stay [] state h = stay state.scope.variables
items_stay (x ∷ more) state h = stay_then _ _ _ (item_stays x.kind x.place state (first_empty (item x state).broken _ h)) (items_stay more (item x state).state (second_empty (item x state).broken _ h))

later_stays : (front more : List Item) (state : State) → (items (front ++ more) state).broken ≡ [] → StayGlobals (items front state).state.scope.variables (items (front ++ more) state).state.scope.variables
unfolding ◌then◌
later_stays [] more state h = items_stay more state h
later_stays (x ∷ front) more state h = later_stays front more (item x state).state (second_empty (item x state).broken _ h)

pub globals_stay : (tree : Tree) (room : ℕ) → IsAccepted tree room → (front more : List Item) → tree.items ≡ front ++ more → StayGlobals (items front at_start).state.scope.variables (after tree).scope.variables
globals_stay tree room h front more e = subst (λ all. (items all at_start).broken ≡ [] → StayGlobals (items front at_start).state.scope.variables (items all at_start).state.scope.variables) (sym e) (later_stays front more at_start) (none_broken tree room h)
