-- The variables of the functions of an accepted source have room, by all of its structs.
use Rattle.std.proofs.Common.{◌≡◌, ℕ, zero, suc, ◌+◌, ◌≤◌, min, refl, sym, ap, ap₂, ◌∙◌, subst, Bool, true, false, cond, not, ◌||◌, ◌&&◌, nat_lt, is_some, Option, None, Some, List, [], ◌∷◌, ◌++◌, map, length, slice_get, slice_set, arith}
use Rattle.std.specs.List.{list_all}
use Rattle.mx_base.specs.declared.places.Place.{Place}
use Rattle.c_tree.specs.declared.tree.Tree.{Tree}
use Rattle.c_tree.specs.declared.tree.Item.{Item}
use Rattle.c_tree.specs.declared.tree.ItemKind.{ItemKind}
use Rattle.c_tree.specs.declared.tree.ItemKind.TheVariants as k
use Rattle.c_tree.specs.declared.tree.Decl.{Decl}
use Rattle.c_tree.specs.declared.tree.Init.{Init}
use Rattle.c_tree.specs.declared.tree.Stmt.{Stmt}
use Rattle.c_tree.specs.Count as count
use Rattle.c_tree.specs.Stars as star
use Rattle.c_tree.specs.Formed as formed
use Rattle.c_types.specs.Types.{CType, Void, Int, Pointer, Array, Struct}
use Rattle.c_check_rules.specs.declared.names.Scope.{Scope}
use Rattle.c_check_rules.specs.declared.names.StructInfo.{StructInfo}
use Rattle.c_check_rules.specs.declared.names.Member.{Member}
use Rattle.c_check_rules.specs.Names.{tag_at}
use Rattle.c_check_rules.specs.Sizes.{times_in, laid_size, laid_of, size_in, align_in, is_sized}
use Rattle.c_check_typing.specs.declared.fault.CheckKind.TheVariants.{TooLarge, BadType, ManyParams, ManyPointers, FrameLarge}
use Rattle.c_check_typing.specs.Refusals.{breaks}
use Rattle.c_check_statements.specs.declared.initialisers.Filled.TheVariants as f
use Rattle.c_check_statements.specs.declared.state.State.{State}
use Rattle.c_check_statements.specs.declared.state.Body.{Body}
use Rattle.c_check_statements.specs.declared.state.BodyVariable.{BodyVariable}
use Rattle.c_check_statements.specs.declared.frames.Room.{Room}
use Rattle.c_check_statements.specs.Placing.{or_nothing, placed_after, kind_placed}
use Rattle.c_check_statements.specs.Frames.{frame_limit, is_private, room_after, room_of, no_room, is_large}
use Rattle.c_check_statements.specs.Declarations.{and_then, introduced, declares, global_declared, function_declared, function_number}
use Rattle.c_check_statements.specs.Functions.{parameter, function_kinds, is_frame_large, variables_of, ends_function, enter_function, function_inner, function_walk}
use Rattle.c_check_statements.specs.Initialisers.{maybe_fills}
use Rattle.c_check_statements.specs.Statements.{maybe_statement}
use Rattle.c_check_statements.specs.Structs.{open_struct, closed_struct, laid_struct, scalars_sum, kinds_in, member_declared, with_member, gathered, with_struct, struct_by, struct_walk}
use Rattle.c_check_statements.specs.Sources.{is_definition, global_walk, item_kind, item, items, at_start}
use Rattle.c_check_statements.specs.Waits.{waits_stmt}
use Rattle.c_check_statements.specs.Walks.{Walk, ◌then◌, walk_all, at_node, inside}
use Rattle.c_check_statements.proofs.Scopes.{scope_gathered}
use Rattle.c_check.specs.Accepted.{at_first, is_too_large, IsAccepted, after}
use Rattle.c_check.specs.Rooms.{HaveRoom}
use Rattle.c_check.proofs.Emptied.{first_empty, second_empty, none_at, not_broken, neither}
use Rattle.c_check.proofs.Growing.{both_hold, value_of}
use Rattle.c_check.proofs.KeptBodies.{Keeps as KeepsBodies, kept_then, kept_and_then, kept_parameter, kept_global, kept_function, kept_maybe_fills, kept_maybe_statement, kept_struct}
use Rattle.c_check.proofs.Standing.{Each, each_pushed, each_other, ValueBy}
use Rattle.c_check.proofs.StandingItems.{Laid, kind_laid, function_entered, goes_inner, goes_variable, goes_function_walk, variables_by, is_nothing, start_good, nodes_within}
use Rattle.c_check.proofs.StandingNames.{goes_function}
use Rattle.c_check.proofs.StandingWalks.{VariableBy, Good, Keeps}

-- ---- more structs leave sizes as they are

abbrev Sized : List StructInfo → BodyVariable → Type 0
Sized structs v = is_sized structs v.kind ≡ true

same_got : (xs ys : List StructInfo) (n : ℕ) (info : StructInfo) → slice_get xs n ≡ Some info → slice_get (xs ++ ys) n ≡ slice_get xs n
same_got [] ys n info h = cc
same_got (x ∷ xs) ys zero info h = refl
same_got (x ∷ xs) ys (suc n) info h = same_got xs ys n info h

element_sized : (size : Option ℕ) (count : ℕ) → is_some (times_in size count) ≡ true → is_some size ≡ true
element_sized None count h = cc
element_sized (Some n) count h = refl

module _ (xs ys : List StructInfo) where
  struct_there : (n : ℕ) (o : Option StructInfo) → slice_get xs n ≡ o → is_sized xs (Struct n) ≡ true → slice_get (xs ++ ys) n ≡ slice_get xs n
  struct_there n None e h = absurd (no (sym h ∙ ap (λ o. is_some (laid_size (laid_of o))) e))
    where
      no : true ≡ false → ⊥
      no c = cc
  struct_there n (Some info) e h = same_got xs ys n info e

  size_same : (t : CType) → is_sized xs t ≡ true → size_in (xs ++ ys) t ≡ size_in xs t
  size_same Void h = refl
  size_same (Int kind) h = refl
  size_same (Pointer t) h = refl
  size_same (Array t count) h = ap (λ s. times_in s count) (size_same t (element_sized (size_in xs t) count h))
  size_same (Struct n) h = size_of_got (struct_there n (slice_get xs n) refl h)
    where
      size_of_got : slice_get (xs ++ ys) n ≡ slice_get xs n → size_in (xs ++ ys) (Struct n) ≡ size_in xs (Struct n)
      size_of_got e = cc

  align_same : (t : CType) → is_sized xs t ≡ true → align_in (xs ++ ys) t ≡ align_in xs t
  align_same Void h = refl
  align_same (Int kind) h = refl
  align_same (Pointer t) h = refl
  align_same (Array t count) h = align_same t (element_sized (size_in xs t) count h)
  align_same (Struct n) h = align_of_got (struct_there n (slice_get xs n) refl h)
    where
      align_of_got : slice_get (xs ++ ys) n ≡ slice_get xs n → align_in (xs ++ ys) (Struct n) ≡ align_in xs (Struct n)
      align_of_got e = cc

  sized_more : (t : CType) → is_sized xs t ≡ true → is_sized (xs ++ ys) t ≡ true
  sized_more t h = ap is_some (size_same t h) ∙ h

  placed_same : (free : Option ℕ) (t : CType) → is_sized xs t ≡ true → kind_placed frame_limit (xs ++ ys) free t ≡ kind_placed frame_limit xs free t
  placed_same free t h = ap₂ (λ s a. placed_after frame_limit free (or_nothing s) a) (size_same t h) (align_same t h)

  room_step : (room : Room) (v : BodyVariable) → Sized xs v → room_after (xs ++ ys) room v ≡ room_after xs room v
  room_step room v h = ap (λ free. cond (is_private v) (record room { privates = min 65 (room.privates + 1) }) (record room { free = free })) (placed_same room.free v.kind h)

  room_same : (vs : List BodyVariable) (room : Room) → Each (Sized xs) vs → room_of (xs ++ ys) room vs ≡ room_of xs room vs
  room_same [] room h = refl
  room_same (v ∷ more) room h = ap (λ r. room_of (xs ++ ys) r more) (room_step room v h.0) ∙ room_same more (room_after xs room v) h.1

-- ---- what holds of the bodies so far

abbrev Roomy : List StructInfo → Body → Type 0
Roomy structs b = Each (Sized structs) b.variables × (is_large (room_of structs no_room b.variables) ≡ false)

abbrev AllRoomy : State → Type 0
AllRoomy state = Each (Roomy state.scope.structs) state.bodies

roomy_more : (xs ys : List StructInfo) (b : Body) → Roomy xs b → Roomy (xs ++ ys) b
roomy_more xs ys b h = (each_other (Sized xs) (Sized (xs ++ ys)) (λ v. sized_more xs ys v.kind) b.variables h.0, ap is_large (room_same xs ys b.variables no_room h.0) ∙ h.1)

-- structs that come behind others
abbrev Extends : (old new : List StructInfo) → Type 0
Extends old new = (more : List StructInfo) × (new ≡ old ++ more)

roomy_kept : (old new : State) → new.bodies ≡ old.bodies → Extends old.scope.structs new.scope.structs → AllRoomy old → AllRoomy new
roomy_kept old new same more h =
    subst₂ (λ (structs : List StructInfo) (bodies : List Body). Each (Roomy structs) bodies) (sym more.1) (sym same)
    (each_other (Roomy old.scope.structs) (Roomy (old.scope.structs ++ more.0)) (roomy_more old.scope.structs more.0) old.bodies h)
  where
    subst₂ : (F : List StructInfo → List Body → Type 0) {a b : List StructInfo} {c d : List Body} → a ≡ b → c ≡ d → F a c → F b d
    subst₂ F {a = a} {d = d} p q x = subst (λ s. F s d) p (subst (λ c. F a c) q x)

nothing_more : (xs : List StructInfo) → xs ≡ xs ++ []
nothing_more [] = refl
nothing_more (x ∷ xs) = ap (λ ys. x ∷ ys) (nothing_more xs)

same_structs : (old new : State) → new.scope.structs ≡ old.scope.structs → Extends old.scope.structs new.scope.structs
same_structs old new e = ([], e ∙ nothing_more old.scope.structs)

-- ---- structs

set_last : (xs : List StructInfo) (a s : StructInfo) → slice_set (xs ++ a ∷ []) (length xs) s ≡ xs ++ s ∷ []
set_last [] a s = refl
set_last (x ∷ xs) a s = ap (λ ys. x ∷ ys) (set_last xs a s)

struct_extends : (known : Bool) (tag : List ℕ) (members : List Decl) (place : Place) (state : State) → Extends state.scope.structs (struct_by known tag members place state).state.scope.structs
struct_extends true tag members place state = same_structs state (gathered [] members state).state (ap (λ (s : Scope). s.structs) (scope_gathered [] members state))
struct_extends false tag members place state =
    let g = gathered [] members (with_struct tag state) in
    let made = closed_struct tag (laid_struct g.state.scope.structs g.members) (scalars_sum g.state.scope.structs 0 (kinds_in g.members)) g.members in
    (made ∷ [], ap (λ (s : Scope). slice_set s.structs (length state.scope.structs) made) (scope_gathered [] members (with_struct tag state)) ∙ set_last state.scope.structs (open_struct tag) made)

-- ---- functions

abbrev declared_state : Decl → List Decl → Option Stmt → State → State
declared_state d params body state = (function_declared (is_some body) params d state).state

abbrev entered : Decl → List Decl → Option Stmt → State → State
entered d params body state = enter_function (function_declared (is_some body) params d state).kind (declared_state d params body state)

-- what is known at the end of a function, before its own rules
abbrev at_end : Decl → List Decl → Option Stmt → State → State
at_end d params body state = (maybe_statement body (walk_all (map parameter params) (entered d params body state)).state).state

rules_of_function : (d : Decl) (params : List Decl) (body : Option Stmt) (place : Place) (state : State) → (function_walk d params body place state).broken ≡ [] → function_kinds d params body (at_end d params body state) ≡ []
unfolding and_then inside ◌then◌ at_node
rules_of_function d params body place state h = none_at place _ (second_empty (maybe_statement body (walk_all (map parameter params) (entered d params body state)).state).broken _
    (second_empty (walk_all (map parameter params) (entered d params body state)).broken _ (second_empty (function_declared (is_some body) params d state).broken _ h)))

frame_small : (d : Decl) (params : List Decl) (b : Stmt) (place : Place) (state : State) → (function_walk d params (Some b) place state).broken ≡ []
    → is_large (room_of (at_end d params (Some b) state).scope.structs no_room (variables_of (at_end d params (Some b) state))) ≡ false
frame_small d params b place state h =
    let rules = rules_of_function d params (Some b) place state h in
    let end = at_end d params (Some b) state in
    let small = not_broken FrameLarge _ (second_empty (breaks ManyPointers _) _ (second_empty (breaks ManyParams _) _ (second_empty (breaks BadType _) _ rules))) in
    (neither (nat_lt 80 (waits_stmt b)) (is_large (room_of end.scope.structs no_room (variables_of end))) small).1

kept_params : (params : List Decl) → KeepsBodies (walk_all (map parameter params))
kept_params [] state = refl
kept_params (d ∷ more) state = kept_then (parameter d) (walk_all (map parameter more)) (kept_parameter d) (kept_params more) state

kept_at_end : (d : Decl) (params : List Decl) (body : Option Stmt) (state : State) → (at_end d params body state).bodies ≡ state.bodies
kept_at_end d params body state = kept_maybe_statement body _ ∙ (kept_params params (entered d params body state) ∙ kept_function (is_some body) params d state)

module _ (d : Decl) (params : List Decl) (b : Stmt) (place : Place) (none : d.counts ≡ []) (le : star.decl_stars d ≤ 255) (few : star.most (map star.decl_stars params) ≤ 255) (most : star.maybe_stmt (Some b) ≤ 255) where
  good_at_end : (m : ℕ) (state : State) → Good m state → Keeps (m + (count.decl_nodes d + (count.total (map count.decl_nodes params) + (count.maybe_stmt (Some b) + 1)))) state (at_end d params (Some b) state)
  unfolding ◌then◌ at_node
  good_at_end m state g =
      let top = m + (count.decl_nodes d + (count.total (map count.decl_nodes params) + (count.maybe_stmt (Some b) + 1))) in
      let one = goes_function true params d none le m (m + count.decl_nodes d) state (omega arith) g in
      let two = function_entered (function_declared true params d state).kind (m + count.decl_nodes d) (declared_state d params (Some b) state) one.0 in
      let three = goes_inner d params (Some b) place few most (m + count.decl_nodes d) top (entered d params (Some b) state) (omega arith) two.0 in
      (three.0, three.1 ∙ (two.1 ∙ one.1))

body_roomy : (m : ℕ) (end : State) → Good m end → is_large (room_of end.scope.structs no_room (variables_of end)) ≡ false → (number : ℕ) → Roomy end.scope.structs record { number = number; variables = variables_of end }
body_roomy m end g small number =
    (each_other (VariableBy (255 + m) end.scope.structs) (Sized end.scope.structs) (λ v h. h.1) (variables_of end) (variables_by (255 + m) end.scope.structs 0 end.notes.taken end.scope.made g.scope.made), small)

function_roomy : (d : Decl) (params : List Decl) (body : Option Stmt) (place : Place) (m : ℕ) (state : State) → d.counts ≡ [] → star.decl_stars d ≤ 255 → star.most (map star.decl_stars params) ≤ 255 → star.maybe_stmt body ≤ 255
    → (function_walk d params body place state).broken ≡ [] → Good m state → AllRoomy state → AllRoomy (function_walk d params body place state).state
unfolding and_then inside ◌then◌ at_node
function_roomy d params None place m state none le few most h g all =
    roomy_kept state (function_walk d params None place state).state (kept_at_end d params None state)
    (same_structs state (function_walk d params None place state).state (goes_function_walk d params None place none le few most m (m + (count.decl_nodes d + (count.total (map count.decl_nodes params) + (count.maybe_stmt None + 1)))) state (omega arith) g).1) all
function_roomy d params (Some b) place m state none le few most h g all =
    let end = at_end d params (Some b) state in
    let keeps = good_at_end d params b place none le few most m state g in
    let before = roomy_kept state end (kept_at_end d params (Some b) state) (same_structs state end keeps.1) all in
    each_pushed (Roomy end.scope.structs) end.bodies _ before (body_roomy _ end keeps.0 (frame_small d params b place state h) (function_number d.name state.scope))

-- ---- items

variable_roomy : (external : Bool) (d : Decl) (init : Option Init) (m : ℕ) (state : State) → star.decl_stars d ≤ 255 → star.maybe_init init ≤ 255 → Good m state → AllRoomy state → AllRoomy (global_walk external d init state).state
variable_roomy external d init m state le few g all =
    roomy_kept state (global_walk external d init state).state
    (kept_and_then (global_declared (is_definition external init) d state) (maybe_fills init f.Global) (kept_maybe_fills init f.Global) ∙ kept_global (is_definition external init) d state)
    (same_structs state (global_walk external d init state).state (goes_variable external d init le few m (m + (count.decl_nodes d + count.maybe_init init)) state (omega arith) g).1) all

kind_roomy : (x : ItemKind) (place : Place) (m : ℕ) (state : State) → formed.formed_kind x ≡ true → star.kind_stars x ≤ 255 → (item_kind x place state).broken ≡ [] → Good m state → AllRoomy state → AllRoomy (item_kind x place state).state
kind_roomy (k.Struct tag members) place m state is le none g all =
    roomy_kept state (struct_walk tag members place state).state (kept_struct tag members place state) (struct_extends (is_some (tag_at state.scope tag)) tag members place state) all
kind_roomy (k.Var external d init) place m state is le none g all = variable_roomy external d init m state (omega (arith, le)) (omega (arith, le)) g all
kind_roomy (k.Fun d params body) place m state is le none g all =
    let outer = both_hold (formed.without_counts d && list_all formed.without_counts params) (formed.formed_body body) is in
    let bare = is_nothing d.counts (both_hold (formed.formed_decl d) (formed.is_empty d.counts) (both_hold (formed.without_counts d) (list_all formed.without_counts params) outer.0).0).1 in
    function_roomy d params body place m state bare (omega (arith, le)) (omega (arith, le)) (omega (arith, le)) none g all

items_roomy : (all : List Item) (m top : ℕ) (state : State) → list_all formed.formed_item all ≡ true → star.most (map (λ x. star.kind_stars x.kind) all) ≤ 255 → m + count.total (map count.item_nodes all) ≤ top → top ≤ 32768
    → (items all state).broken ≡ [] → Laid m state → AllRoomy state → AllRoomy (items all state).state
unfolding ◌then◌
items_roomy [] m top state is le at within none h roomy = roomy
items_roomy (x ∷ more) m top state is le at within none h roomy =
    let both = both_hold (formed.formed_item x) (list_all formed.formed_item more) is in
    let kind = (both_hold (formed.stands x.place) (formed.formed_kind x.kind) both.0).1 in
    let here = first_empty (item x state).broken _ none in
    let one = kind_laid x.kind x.place m (m + count.item_nodes x) state kind (omega (arith, le)) (omega arith) (omega (arith, at, within)) here h in
    items_roomy more (m + count.item_nodes x) top (item x state).state both.1 (omega (arith, le)) (omega (arith, at)) within (second_empty (item x state).broken _ none) one
    (kind_roomy x.kind x.place m state kind (omega (arith, le)) here h.good roomy)

rooms_of : (structs : List StructInfo) (bodies : List Body) → Each (Roomy structs) bodies → HaveRoom structs bodies
rooms_of structs [] h = tt
rooms_of structs (b ∷ more) h = (h.0.1, rooms_of structs more h.1)

pub frames_have_room : (tree : Tree) (room : ℕ) → formed.IsFormed tree → star.HasFewStars tree → room ≤ 32768 → IsAccepted tree room → HaveRoom (after tree).scope.structs (after tree).bodies
frames_have_room tree room is few le h =
    let large = first_empty (at_first tree.items (breaks TooLarge (is_too_large tree room))) _ h in
    let none = first_empty (items tree.items at_start).broken _ (second_empty (at_first tree.items (breaks TooLarge (is_too_large tree room))) _ h) in
    let at = nodes_within room tree.items large in
    rooms_of (after tree).scope.structs (after tree).bodies (items_roomy tree.items 0 (count.tree_nodes tree) at_start is few (omega arith) (omega (arith, at, le)) none (record { laid = tt; good = start_good }) tt)
