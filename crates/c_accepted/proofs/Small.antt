-- What no broken rule of any item says of functions and their bodies.
use Rattle.std.proofs.Common.{◌≡◌, ℕ, zero, suc, ◌+◌, ◌≤◌, min, refl, sym, ap, ◌∙◌, subst, Bool, true, false, not, cond, nat_lt, List, [], ◌∷◌, ◌++◌, map, length, arith}
use Rattle.std.specs.Prelude.{Option, None, Some, is_some, slice_index_or}
use Rattle.mx_base.specs.declared.places.Place.{Place}
use Rattle.mx_base.specs.declared.settings.Flags.{Flags}
use Rattle.c_tree.specs.declared.tree.Tree.{Tree}
use Rattle.c_tree.specs.declared.tree.Item.{Item}
use Rattle.c_tree.specs.declared.tree.ItemKind.{ItemKind}
use Rattle.c_tree.specs.declared.tree.ItemKind.TheVariants as k
use Rattle.c_tree.specs.declared.tree.Decl.{Decl}
use Rattle.c_tree.specs.declared.tree.Stmt.{Stmt}
use Rattle.c_check_rules.specs.declared.names.StructInfo.{StructInfo}
use Rattle.c_check_typing.specs.declared.fault.CheckKind.TheVariants.{TooLarge, BadType, ManyParams, ManyPointers, FrameLarge}
use Rattle.c_check_typing.specs.Refusals.{breaks}
use Rattle.c_check_statements.specs.declared.initialisers.Filled.TheVariants as f
use Rattle.c_check_statements.specs.declared.state.State.{State}
use Rattle.c_check_statements.specs.declared.state.Body.{Body}
use Rattle.c_check_statements.specs.declared.state.BodyVariable.{BodyVariable}
use Rattle.c_check_statements.specs.declared.frames.Room.{Room}
use Rattle.c_check_statements.specs.Placing.{kind_placed}
use Rattle.c_check_statements.specs.Frames.{frame_limit, is_private, room_after, room_of, no_room, is_large}
use Rattle.c_check_statements.specs.Declarations.{and_then, function_declared, global_declared}
use Rattle.c_check_statements.specs.Functions.{parameter, function_kinds, is_frame_large, variables_of, enter_function, function_walk}
use Rattle.c_check_statements.specs.Initialisers.{maybe_fills}
use Rattle.c_check_statements.specs.Sources.{is_definition, item_kind, item, items, at_start}
use Rattle.c_check_statements.specs.Statements.{maybe_statement}
use Rattle.c_check_statements.specs.Waits.{waits_stmt as waits_checked}
use Rattle.c_check_statements.specs.Walks.{◌then◌, walk_all, at_node, inside}
use Rattle.c_check.specs.Accepted.{at_first, is_too_large, IsAccepted, after}
use Rattle.bounds_plan.specs.elaboration.Source.{Meanings, SourceLayout, Stand, Private, Frame, FrameLayout}
use Rattle.bounds_plan.specs.elaboration.Functions.{no_frame, elaborated, signatures_of}
use Rattle.bounds_plan.specs.elaboration.Waits.{waits_stmt, body_waits, item_waits, items_waits}
use Rattle.bounds_plan.specs.elaboration.Laws.{TakesParameters, TakesFew, AllTakeFew, privates_in, HaveFewPrivates, AllAssignable}
use Rattle.bounds_plan.proofs.Homes.{elaborated_assignable}
use Rattle.c_accepted.specs.Frames.{AllStand, AllPlanned}
use Rattle.c_accepted.proofs.Empty.{first_empty, second_empty, none_at, not_broken, neither, not_above}
use Rattle.c_check.proofs.KeptBodies.{Keeps, kept_then, kept_and_then, kept_parameter, kept_global, kept_function, kept_maybe_fills, kept_maybe_statement, kept_struct}

-- ---- one function

-- what is known at the end of a function, before its own rules
abbrev at_end : Decl → List Decl → Option Stmt → State → State
at_end d params body state = (maybe_statement body (walk_all (map parameter params) (enter_function (function_declared (is_some body) params d state).kind (function_declared (is_some body) params d state).state)).state).state

rules_of_function : (d : Decl) (params : List Decl) (body : Option Stmt) (place : Place) (state : State) → (function_walk d params body place state).broken ≡ [] → function_kinds d params body (at_end d params body state) ≡ []
unfolding and_then inside ◌then◌ at_node
rules_of_function d params body place state h = none_at place _ (second_empty (maybe_statement body (walk_all (map parameter params) (enter_function (function_declared (is_some body) params d state).kind (function_declared (is_some body) params d state).state)).state).broken _
    (second_empty (walk_all (map parameter params) (enter_function (function_declared (is_some body) params d state).kind (function_declared (is_some body) params d state).state)).broken _ (second_empty (function_declared (is_some body) params d state).broken _ h)))

few_params : (d : Decl) (params : List Decl) (body : Option Stmt) (state : State) → function_kinds d params body state ≡ [] → length params ≤ 6
few_params d params body state h = not_above 6 (length params) (not_broken ManyParams _ (first_empty (breaks ManyParams _) _ (second_empty (breaks BadType _) _ h)))

small_frame : (d : Decl) (params : List Decl) (body : Option Stmt) (state : State) → function_kinds d params body state ≡ [] → is_frame_large body state ≡ false
small_frame d params body state h = not_broken FrameLarge _ (second_empty (breaks ManyPointers _) _ (second_empty (breaks ManyParams _) _ (second_empty (breaks BadType _) _ h)))

same_waits : (b : Stmt) → waits_checked b ≡ waits_stmt b
same_waits b = refl

few_wait : (body : Option Stmt) (state : State) → is_frame_large body state ≡ false → body_waits body ≤ 80
few_wait None state h = omega arith
few_wait (Some b) state h = let le = not_above 80 (waits_checked b) (neither (nat_lt 80 (waits_checked b)) (is_large (room_of state.scope.structs no_room (variables_of state))) h).0 in omega (arith, le, same_waits b)

-- ---- private variables

abbrev one_if : Bool → ℕ
one_if true = 1
one_if false = 0

abbrev privates_of : List BodyVariable → ℕ
privates_of [] = 0
privates_of (v ∷ more) = one_if (is_private v) + privates_of more

counted_on : (structs : List StructInfo) (vs : List BodyVariable) (room : Room) → (room_of structs room vs).privates ≤ 64 → room.privates + privates_of vs ≤ 64
counted_on structs [] room h = omega (arith, h)
counted_on structs (v ∷ more) room h = by_cases (is_private v) refl (counted_on structs more (room_after structs room v) h)
  where
    by_cases : (b : Bool) → is_private v ≡ b → (room_after structs room v).privates + privates_of more ≤ 64 → room.privates + (one_if (is_private v) + privates_of more) ≤ 64
    by_cases true e g =
        let one : (room_after structs room v).privates ≡ min 65 (room.privates + 1) = ap (λ c. (cond c (record room { privates = min 65 (room.privates + 1) }) (record room { free = kind_placed frame_limit structs room.free v.kind })).privates) e in
        let here : one_if (is_private v) ≡ 1 = ap one_if e in
        omega (arith, g, one, here)
    by_cases false e g =
        let one : (room_after structs room v).privates ≡ room.privates = ap (λ c. (cond c (record room { privates = min 65 (room.privates + 1) }) (record room { free = kind_placed frame_limit structs room.free v.kind })).privates) e in
        let here : one_if (is_private v) ≡ 0 = ap one_if e in
        omega (arith, g, one, here)

few_private : (body : Stmt) (state : State) → is_frame_large (Some body) state ≡ false → privates_of (variables_of state) ≤ 64
few_private body state h =
    let room = room_of state.scope.structs no_room (variables_of state) in
    let large = (neither (nat_lt 80 (waits_checked body)) (is_large room) h).1 in
    let le : room.privates ≤ 64 = not_above 64 room.privates (neither (nat_lt 64 room.privates) (not (is_some room.free)) large).0 in
    let all : 0 + privates_of (variables_of state) ≤ 64 = counted_on state.scope.structs (variables_of state) no_room le in
    omega (arith, all)

abbrev AllFew : List Body → Type 0
AllFew [] = Unit {0}
AllFew (b ∷ more) = (privates_of b.variables ≤ 64) × AllFew more

one_more : (all : List Body) (b : Body) → AllFew all → privates_of b.variables ≤ 64 → AllFew (all ++ (b ∷ []))
one_more [] b h g = (g, tt)
one_more (a ∷ all) b h g = (h.0, one_more all b h.1 g)

pub kept_params : (params : List Decl) → Keeps (walk_all (map parameter params))
kept_params [] state = refl
kept_params (d ∷ more) state = kept_then (parameter d) (walk_all (map parameter more)) (kept_parameter d) (kept_params more) state

kept_at_end : (d : Decl) (params : List Decl) (body : Option Stmt) (state : State) → (at_end d params body state).bodies ≡ state.bodies
kept_at_end d params body state = kept_maybe_statement body _ ∙ (kept_params params (enter_function (function_declared (is_some body) params d state).kind (function_declared (is_some body) params d state).state) ∙ kept_function (is_some body) params d state)

-- ---- items

bodies_of_function : (d : Decl) (params : List Decl) (body : Option Stmt) (place : Place) (state : State) → (function_walk d params body place state).broken ≡ [] → AllFew state.bodies → AllFew (function_walk d params body place state).state.bodies
unfolding and_then inside ◌then◌ at_node
bodies_of_function d params None place state h few = subst AllFew (sym (kept_at_end d params None state)) few
bodies_of_function d params (Some b) place state h few =
    one_more (at_end d params (Some b) state).bodies _ (subst AllFew (sym (kept_at_end d params (Some b) state)) few) (few_private b (at_end d params (Some b) state) (small_frame d params (Some b) (at_end d params (Some b) state) (rules_of_function d params (Some b) place state h)))

bodies_of_item : (x : ItemKind) (place : Place) (state : State) → (item_kind x place state).broken ≡ [] → AllFew state.bodies → AllFew (item_kind x place state).state.bodies
bodies_of_item (k.Struct tag members) place state h few = subst AllFew (sym (kept_struct tag members place state)) few
bodies_of_item (k.Var external d init) place state h few = subst AllFew (sym (kept_and_then (global_declared (is_definition external init) d state) (maybe_fills init f.Global) (kept_maybe_fills init f.Global) ∙ kept_global (is_definition external init) d state)) few
bodies_of_item (k.Fun d params body) place state h few = bodies_of_function d params body place state h few

bodies_of_items : (all : List Item) (state : State) → (items all state).broken ≡ [] → AllFew state.bodies → AllFew (items all state).state.bodies
unfolding ◌then◌
bodies_of_items [] state h few = few
bodies_of_items (x ∷ more) state h few = bodies_of_items more (item x state).state (second_empty (item x state).broken _ h) (bodies_of_item x.kind x.place state (first_empty (item x state).broken _ h) few)

takes_few : (x : ItemKind) (place : Place) (state : State) → (item_kind x place state).broken ≡ [] → TakesFew x
takes_few (k.Struct tag members) place state h = tt
takes_few (k.Var external d init) place state h = tt
takes_few (k.Fun d params body) place state h = few_params d params body (at_end d params body state) (rules_of_function d params body place state h)

all_take_few : (all : List Item) (state : State) → (items all state).broken ≡ [] → AllTakeFew all
unfolding ◌then◌
all_take_few [] state h = tt
all_take_few (x ∷ more) state h = (takes_few x.kind x.place state (first_empty (item x state).broken _ h), all_take_few more (item x state).state (second_empty (item x state).broken _ h))

item_waits_few : (x : ItemKind) (place : Place) (state : State) → (item_kind x place state).broken ≡ [] → item_waits x ≤ 80
item_waits_few (k.Struct tag members) place state h = omega arith
item_waits_few (k.Var external d init) place state h = omega arith
item_waits_few (k.Fun d params body) place state h = few_wait body (at_end d params body state) (small_frame d params body (at_end d params body state) (rules_of_function d params body place state h))

all_wait_few : (all : List Item) (state : State) → (items all state).broken ≡ [] → items_waits all ≤ 80
unfolding ◌then◌
all_wait_few [] state h = omega arith
all_wait_few (x ∷ more) state h =
    let one = item_waits_few x.kind x.place state (first_empty (item x state).broken _ h) in
    let others = all_wait_few more (item x state).state (second_empty (item x state).broken _ h) in
    omega (arith, one, others)

-- an accepted source has no item that breaks a rule
pub none_broken : (tree : Tree) (room : ℕ) → IsAccepted tree room → (items tree.items at_start).broken ≡ []
none_broken tree room h = first_empty (items tree.items at_start).broken _ (second_empty (at_first tree.items (breaks TooLarge (is_too_large tree room))) _ h)

pub parameters_few : (tree : Tree) (room : ℕ) → IsAccepted tree room → AllTakeFew tree.items
parameters_few tree room h = all_take_few tree.items at_start (none_broken tree room h)

pub waits_few : (tree : Tree) (room : ℕ) → IsAccepted tree room → items_waits tree.items ≤ 80
waits_few tree room h = all_wait_few tree.items at_start (none_broken tree room h)

-- ---- the layout

same_privates : (vs : List BodyVariable) (stands : List Stand) → AllStand vs stands → privates_in stands ≡ privates_of vs
same_privates [] [] h = refl
same_privates [] (s ∷ more) h = absurd h
same_privates (v ∷ others) [] h = absurd h
same_privates (v ∷ others) (Private ∷ more) h =
    let here : one_if (is_private v) ≡ 1 = ap one_if h.0 in
    let rest = same_privates others more h.1 in
    omega (arith, here, rest)
same_privates (v ∷ others) (Frame offset ∷ more) h =
    let here : one_if (is_private v) ≡ 0 = ap one_if h.0 in
    let rest = same_privates others more h.1 in
    omega (arith, here, rest)

planned_few : (bodies : List Body) (frames : List FrameLayout) → AllPlanned bodies frames → AllFew bodies → (n : ℕ) → privates_in (slice_index_or frames n no_frame).stands ≤ 64
planned_few [] [] h few n = omega arith
planned_few [] (f ∷ more) h few n = absurd h
planned_few (b ∷ others) [] h few n = absurd h
planned_few (b ∷ others) (f ∷ more) h few zero = let same = same_privates b.variables f.stands h.0 in let le = few.0 in omega (arith, same, le)
planned_few (b ∷ others) (f ∷ more) h few (suc n) = planned_few others more h.1 few.1 n

pub privates_few : (tree : Tree) (room : ℕ) → IsAccepted tree room → (layout : SourceLayout) → AllPlanned (after tree).bodies layout.frames → HaveFewPrivates layout
privates_few tree room h layout planned = planned_few (after tree).bodies layout.frames planned (bodies_of_items tree.items at_start (none_broken tree room h) tt)

pub values_assignable : (tree : Tree) (room : ℕ) → IsAccepted tree room → (meanings : Meanings) (layout : SourceLayout) (flags : Flags) → AllPlanned (after tree).bodies layout.frames → (takes : ℕ → ℕ) → TakesParameters takes layout (signatures_of tree meanings layout flags) → AllAssignable (elaborated tree meanings layout flags)
values_assignable tree room h meanings layout flags planned takes same = elaborated_assignable tree meanings layout flags takes same (parameters_few tree room h) (privates_few tree room h layout planned) (waits_few tree room h)
