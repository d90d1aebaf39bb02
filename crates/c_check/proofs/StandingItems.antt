-- What is known of an accepted source can be numbered.
use Rattle.std.proofs.Common.{◌≡◌, ℕ, suc, ◌+◌, ◌≤◌, refl, sym, ap, subst, Bool, true, false, not, ◌&&◌, nat_lt, is_some, Option, None, Some, List, [], ◌∷◌, ◌++◌, map, length, All, arith}
use Rattle.std.specs.List.{list_all}
use Rattle.std.proofs.lemmas.List.Elements.{All-from_recursion}
use Rattle.mx_base.specs.declared.places.Place.{Place}
use Rattle.c_tree.specs.declared.tree.Tree.{Tree}
use Rattle.c_tree.specs.declared.tree.Item.{Item}
use Rattle.c_tree.specs.declared.tree.ItemKind.{ItemKind}
use Rattle.c_tree.specs.declared.tree.ItemKind.TheVariants as k
use Rattle.c_tree.specs.declared.tree.Decl.{Decl}
use Rattle.c_tree.specs.declared.tree.Init.{Init}
use Rattle.c_tree.specs.declared.tree.Stmt.{Stmt}
use Rattle.c_tree.specs.Count as count
use Rattle.c_tree.specs.Stars as star
use Rattle.c_tree.specs.Formed as formed
use Rattle.c_tree.specs.Names.{is_name}
use Rattle.c_types.specs.Types.{CType}
use Rattle.c_check_rules.specs.declared.names.StructInfo.{StructInfo}
use Rattle.c_check_rules.specs.declared.names.Variable.{Variable}
use Rattle.c_check_typing.specs.declared.fault.CheckKind.TheVariants.{TooLarge}
use Rattle.c_check_typing.specs.Refusals.{breaks}
use Rattle.c_check_statements.specs.declared.initialisers.Filled.TheVariants as f
use Rattle.c_check_statements.specs.declared.state.State.{State}
use Rattle.c_check_statements.specs.declared.state.Body.{Body}
use Rattle.c_check_statements.specs.Frames.{variables_from}
use Rattle.c_check_statements.specs.Declarations.{global_declared, function_declared, function_number}
use Rattle.c_check_statements.specs.Functions.{parameter, variables_of, ends_function, enter_function, with_body, without_names, leave_function, function_inner, function_after, function_walk}
use Rattle.c_check_statements.specs.Initialisers.{maybe_fills}
use Rattle.c_check_statements.specs.Statements.{maybe_statement}
use Rattle.c_check_statements.specs.Sources.{is_definition, global_walk, item_kind, item, items, at_start}
use Rattle.c_check_statements.specs.Walks.{◌then◌, walk_all}
use Rattle.c_check.specs.Accepted.{at_first, is_too_large, IsAccepted, after}
use Rattle.c_check.specs.Standing.{Stands, AreLaid, variables_in_all, VariableStands, BodyVariableStands, BodyStands, CanBeNumbered}
use Rattle.c_check.proofs.Emptied.{first_empty, second_empty, none_at, not_broken, not_above}
use Rattle.c_check.proofs.Growing.{both_hold}
use Rattle.c_check.proofs.Standing.{Each, each_pushed, each_other, StandsBy, ValueBy, stands_more, value_more}
use Rattle.c_check.proofs.StandingNames.{goes_parameter, goes_global, goes_function}
use Rattle.c_check.proofs.StandingStatements.{goes_and_then, goes_maybe_fills, goes_maybe_statement}
use Rattle.c_check.proofs.StandingStructs.{struct_closes}
use Rattle.c_check.proofs.StandingWalks.{VariableBy, BodyBy, Good, good_more, Keeps, Goes, goes_stay, goes_then, goes_node, goes_inside}

-- ---- functions

goes_params : (params : List Decl) → star.most (map star.decl_stars params) ≤ 255 → Goes (count.total (map count.decl_nodes params)) (walk_all (map parameter params))
goes_params [] le = goes_stay 0
goes_params (d ∷ more) le = goes_then (count.decl_nodes d) (count.total (map count.decl_nodes more)) (parameter d) (walk_all (map parameter more)) (goes_parameter d (omega arith)) (goes_params more (omega arith))

pub function_entered : (result : Option CType) (m : ℕ) (state : State) → Good m state → Keeps m state (enter_function result state)
function_entered result m state g =
    let few = g.few in
    let good : Good m (enter_function result state) = record {
      scope = record { members = g.scope.members; variables = g.scope.variables; functions = g.scope.functions; locals = tt; made = tt };
      notes = record { kinds = g.notes.kinds; declared = g.notes.declared };
      bodies = g.bodies;
      few = omega (arith, few);
    } in
    (good, refl)

pub variables_by : (most : ℕ) (structs : List StructInfo) (number : ℕ) (taken : List ℕ) (kinds : List CType) → Each (ValueBy most structs) kinds → Each (VariableBy most structs) (variables_from number taken kinds)
variables_by most structs number taken [] h = tt
variables_by most structs number taken (t ∷ more) h = (h.0, variables_by most structs (number + 1) taken more h.1)

variables_long : (number : ℕ) (taken : List ℕ) (kinds : List CType) → length (variables_from number taken kinds) ≡ length kinds
variables_long number taken [] = refl
variables_long number taken (t ∷ more) = ap suc (variables_long (number + 1) taken more)

bodies_long : (all : List Body) (x : Body) → variables_in_all (all ++ x ∷ []) ≡ variables_in_all all + length x.variables
bodies_long [] x = omega arith
bodies_long (b ∷ more) x = let rest = bodies_long more x in omega (arith, rest)

function_left : (number : ℕ) (body : Option Stmt) (m : ℕ) (old new : State) → Keeps m old new → Keeps m old (leave_function number body old new)
function_left number None m old new h =
    let few = h.0.few in
    let good : Good m (without_names new) = record {
      scope = record { members = h.0.scope.members; variables = h.0.scope.variables; functions = h.0.scope.functions; locals = tt; made = tt };
      notes = record { kinds = h.0.notes.kinds; declared = h.0.notes.declared };
      bodies = h.0.bodies;
      few = omega (arith, few);
    } in
    (good, h.1)
function_left number (Some b) m old new h =
    let few = h.0.few in
    let x : Body = record { number = number; variables = variables_of new } in
    let more = bodies_long new.bodies x in
    let long = variables_long 0 new.notes.taken new.scope.made in
    let good : Good m (without_names (with_body number (Some b) new)) = record {
      scope = record { members = h.0.scope.members; variables = h.0.scope.variables; functions = h.0.scope.functions; locals = tt; made = tt };
      notes = record { kinds = h.0.notes.kinds; declared = h.0.notes.declared };
      bodies = each_pushed (BodyBy (255 + m) new.scope.structs) new.bodies x h.0.bodies (variables_by (255 + m) new.scope.structs 0 new.notes.taken new.scope.made h.0.scope.made);
      few = omega (arith, few, more, long);
    } in
    (good, h.1)

pub goes_inner : (d : Decl) (params : List Decl) (body : Option Stmt) (place : Place) → star.most (map star.decl_stars params) ≤ 255 → star.maybe_stmt body ≤ 255
    → Goes (count.total (map count.decl_nodes params) + (count.maybe_stmt body + 1)) (function_inner d params body place)
goes_inner d params body place le few =
    goes_then (count.total (map count.decl_nodes params)) (count.maybe_stmt body + 1) (walk_all (map parameter params)) (maybe_statement body then ends_function d params body place) (goes_params params le)
    (goes_then (count.maybe_stmt body) 1 (maybe_statement body) (ends_function d params body place) (goes_maybe_statement body few) (λ m top state at g. goes_node 1 place _ m top state at g))

pub goes_function_walk : (d : Decl) (params : List Decl) (body : Option Stmt) (place : Place) → d.counts ≡ [] → star.decl_stars d ≤ 255 → star.most (map star.decl_stars params) ≤ 255 → star.maybe_stmt body ≤ 255
    → Goes (count.decl_nodes d + (count.total (map count.decl_nodes params) + (count.maybe_stmt body + 1))) (function_walk d params body place)
goes_function_walk d params body place none le few most m top state at g =
    let number = function_number d.name state.scope in
    goes_and_then (count.decl_nodes d) (count.total (map count.decl_nodes params) + (count.maybe_stmt body + 1)) (function_declared (is_some body) params d) (function_after number d params body place)
    (goes_function (is_some body) params d none le)
    (λ result. goes_inside _ (enter_function result) (function_inner d params body place) (leave_function number body) (function_entered result) (function_left number body) (goes_inner d params body place few most)) m top state at g

pub goes_variable : (external : Bool) (d : Decl) (init : Option Init) → star.decl_stars d ≤ 255 → star.maybe_init init ≤ 255 → Goes (count.decl_nodes d + count.maybe_init init) (global_walk external d init)
goes_variable external d init le few = goes_and_then (count.decl_nodes d) (count.maybe_init init) (global_declared (is_definition external init) d) (maybe_fills init f.Global)
    (goes_global (is_definition external init) d le) (goes_maybe_fills init few f.Global)

-- ---- items

-- the structs so far are laid, and all else stands
pub record Laid (m : ℕ) (state : State) : Type 0 where
  pub laid : AreLaid [] state.scope.structs
  pub good : Good m state

keeps_laid : (top : ℕ) (old new : State) → AreLaid [] old.scope.structs → Keeps top old new → Laid top new
keeps_laid top old new laid h = record { laid = subst (AreLaid []) (sym h.1) laid; good = h.0 }

not_empty : {X : Type 0} (xs : List X) → not (formed.is_empty xs) ≡ true → 1 ≤ length xs
not_empty [] h = absurd (no h)
  where
    no : false ≡ true → ⊥
    no e = cc
not_empty (x ∷ xs) h = omega arith

pub is_nothing : {X : Type 0} (xs : List X) → formed.is_empty xs ≡ true → xs ≡ []
is_nothing [] h = refl
is_nothing (x ∷ xs) h = cc

pub kind_laid : (x : ItemKind) (place : Place) (m top : ℕ) (state : State) → formed.formed_kind x ≡ true → star.kind_stars x ≤ 255 → m + count.kind_nodes x ≤ top → top ≤ 32768 → (item_kind x place state).broken ≡ [] → Laid m state → Laid top (item_kind x place state).state
kind_laid (k.Struct tag members) place m top state is le at within none h =
    let some = (both_hold (is_name tag) (not (formed.is_empty members)) (both_hold (is_name tag && not (formed.is_empty members)) (list_all formed.formed_decl members) is).0).1 in
    let next = struct_closes tag members place m top state le (omega (arith, at)) within (not_empty members some) h.laid h.good none in
    record { laid = next.0; good = next.1 }
kind_laid (k.Var external d init) place m top state is le at within none h = keeps_laid top state (global_walk external d init state).state h.laid (goes_variable external d init (omega (arith, le)) (omega (arith, le)) m top state (omega (arith, at)) h.good)
kind_laid (k.Fun d params body) place m top state is le at within none h =
    let outer = both_hold (formed.without_counts d && list_all formed.without_counts params) (formed.formed_body body) is in
    let bare = is_nothing d.counts (both_hold (formed.formed_decl d) (formed.is_empty d.counts) (both_hold (formed.without_counts d) (list_all formed.without_counts params) outer.0).0).1 in
    keeps_laid top state (function_walk d params body place state).state h.laid
    (goes_function_walk d params body place bare (omega (arith, le)) (omega (arith, le)) (omega (arith, le)) m top state (omega (arith, at)) h.good)

items_laid : (all : List Item) (m top : ℕ) (state : State) → list_all formed.formed_item all ≡ true → star.most (map (λ x. star.kind_stars x.kind) all) ≤ 255 → m + count.total (map count.item_nodes all) ≤ top → top ≤ 32768
    → (items all state).broken ≡ [] → Laid m state → Laid top (items all state).state
unfolding ◌then◌
items_laid [] m top state is le at within none h = record { laid = h.laid; good = good_more m top state (omega (arith, at)) h.good }
items_laid (x ∷ more) m top state is le at within none h =
    let both = both_hold (formed.formed_item x) (list_all formed.formed_item more) is in
    let one = kind_laid x.kind x.place m (m + count.item_nodes x) state (both_hold (formed.stands x.place) (formed.formed_kind x.kind) both.0).1 (omega (arith, le)) (omega arith) (omega (arith, at, within)) (first_empty (item x state).broken _ none) h in
    items_laid more (m + count.item_nodes x) top (item x state).state both.1 (omega (arith, le)) (omega (arith, at)) within (second_empty (item x state).broken _ none) one

-- ---- sources

pub start_good : Good 0 at_start
start_good = record {
  scope = record { members = λ n info e. cc; variables = tt; functions = tt; locals = tt; made = tt };
  notes = record { kinds = tt; declared = tt };
  bodies = tt;
  few = omega arith;
}

all_stand : (structs : List StructInfo) (most : ℕ) → most ≤ 33023 → (kinds : List CType) → Each (StandsBy most structs) kinds → All (Stands structs) kinds
all_stand structs most le kinds h = All-from_recursion (Stands structs) kinds (each_other (StandsBy most structs) (Stands structs) (stands_more most 33023 structs le) kinds h)

can_be_numbered : (m : ℕ) (state : State) → m ≤ 32768 → Laid m state → CanBeNumbered state
can_be_numbered m state le h =
    let structs = state.scope.structs in
    let most : 255 + m ≤ 33023 = omega (arith, le) in
    let few = h.good.few in
    record {
      structs = h.laid;
      kinds = all_stand structs (255 + m) most state.notes.kinds h.good.notes.kinds;
      declared = all_stand structs (255 + m) most state.notes.declared h.good.notes.declared;
      variables = All-from_recursion (VariableStands structs) state.scope.variables
          (each_other (λ (v : Variable). ValueBy (255 + m) structs v.kind) (VariableStands structs) (λ v. value_more (255 + m) 33023 structs most v.kind) state.scope.variables h.good.scope.variables);
      bodies = All-from_recursion (BodyStands structs) state.bodies
          (each_other (BodyBy (255 + m) structs) (BodyStands structs)
          (λ x g. All-from_recursion (BodyVariableStands structs) x.variables (each_other (VariableBy (255 + m) structs) (BodyVariableStands structs) (λ v. value_more (255 + m) 33023 structs most v.kind) x.variables g)) state.bodies h.good.bodies);
      few = omega (arith, few, le);
    }

-- an accepted source has no more nodes than there is room for
pub nodes_within : (room : ℕ) (all : List Item) → at_first all (breaks TooLarge (nat_lt room (count.total (map count.item_nodes all)))) ≡ [] → count.total (map count.item_nodes all) ≤ room
nodes_within room [] e = omega arith
nodes_within room (x ∷ more) e = not_above room (count.total (map count.item_nodes (x ∷ more))) (not_broken TooLarge (nat_lt room (count.total (map count.item_nodes (x ∷ more)))) (none_at x.place _ e))

pub numbered_source : (tree : Tree) (room : ℕ) → formed.IsFormed tree → star.HasFewStars tree → room ≤ 32768 → IsAccepted tree room → CanBeNumbered (after tree)
numbered_source tree room is few le h =
    let large = first_empty (at_first tree.items (breaks TooLarge (is_too_large tree room))) _ h in
    let none = first_empty (items tree.items at_start).broken _ (second_empty (at_first tree.items (breaks TooLarge (is_too_large tree room))) _ h) in
    let at = nodes_within room tree.items large in
    can_be_numbered (count.tree_nodes tree) (after tree) (omega (arith, at, le)) (items_laid tree.items 0 (count.tree_nodes tree) at_start is few (omega arith) (omega (arith, at, le)) none (record { laid = tt; good = start_good }))
