-- What is known of an accepted source is enough for its plan.
use Rattle.std.proofs.Common.{◌≡◌, ℕ, suc, ◌+◌, ◌≤◌, ◌%◌, true, false, List, [], ◌∷◌, map, length, All, Bool, ◌++◌, refl, ap, ap₂, arith}
use Rattle.std.specs.List.{AllByRecursion}
use Rattle.std.proofs.lemmas.List.Elements.{All-from_recursion, All-tail}
use Rattle.mx_base.specs.declared.places.Place.{Place}
use Rattle.c_tree.specs.declared.tree.Tree.{Tree}
use Rattle.c_tree.specs.declared.tree.Item.{Item}
use Rattle.c_tree.specs.Formed.{IsFormed}
use Rattle.c_types.specs.Types.{CType, StructType, Types, structs_of}
use Rattle.c_types.specs.Layouts.{CanStand, next_multiple}
use Rattle.c_check_rules.specs.declared.names.StructInfo.{StructInfo}
use Rattle.c_check_rules.specs.declared.names.Variable.{Variable as Known}
use Rattle.c_check_rules.specs.Sizes.{is_sized}
use Rattle.c_check_statements.specs.declared.state.State.{State}
use Rattle.c_check_statements.specs.declared.state.Body.{Body}
use Rattle.c_check_statements.specs.declared.state.BodyVariable.{BodyVariable}
use Rattle.c_check_statements.specs.Frames.{room_of, no_room, is_large}
use Rattle.c_check.specs.declared.checked.GlobalVariable.{GlobalVariable}
use Rattle.c_check.specs.declared.checked.LocalVariable.{LocalVariable}
use Rattle.c_check.specs.declared.checked.CheckedBody.{CheckedBody}
use Rattle.c_check.specs.declared.checked.Checked.{Checked}
use Rattle.c_check_typing.specs.declared.fault.CheckKind.{CheckKind}
use Rattle.c_check_typing.specs.declared.fault.CheckKind.TheVariants.{TooLarge, LargeData}
use Rattle.c_check_typing.specs.declared.fault.Broken.{Broken}
use Rattle.c_check_typing.specs.Refusals.{breaks, all_at}
use Rattle.c_check_statements.specs.Sources.{items, at_start}
use Rattle.c_check.specs.Accepted.{at_first, is_too_large, is_data_large, IsAccepted, after}
use Rattle.c_check.specs.Checked.{global_kinds, local_kinds, AreBodies, Says, IsChecked}
use Rattle.c_check.specs.Rooms.{HaveRoom}
use Rattle.c_check.specs.Standing.{structs_seen, AreLaid, HoldsValues, VariableStands, BodyVariableStands, BodyStands, variables_in_all, CanBeNumbered}
use Rattle.place_plan.specs.Data.{Global, globals_end}
use Rattle.place_plan.specs.Frames.{Variable, frame_plan, free_after_all, nothing_taken}
use Rattle.place_plan.specs.Globals.{globals_of, CanBeLaid}
use Rattle.place_plan.specs.Locals.{CanBePlaced}
use Rattle.place_plan.specs.Plans.{body_variables, HasRoom}
use Rattle.place_plan.specs.Source.{variable_known, globals_size}
use Rattle.place_plan.proofs.Checking.{same_globals, same_variables}
use Rattle.place_plan.proofs.Room.{Agrees, GlobalsAgree, VariablesAgree, data_has_room, frame_has_room}

-- ---- what breaks no rule

second_empty : (xs ys : List Broken) → xs ++ ys ≡ [] → ys ≡ []
second_empty [] ys h = h
second_empty (x ∷ xs) ys h = cc

not_broken : (place : Place) (kind : CheckKind) (b : Bool) → all_at place (breaks kind b) ≡ [] → b ≡ false
not_broken place kind true h = cc
not_broken place kind false h = refl

fits : (all : List Item) → at_first all (breaks LargeData (is_data_large (items all at_start).state)) ≡ [] → is_data_large (items all at_start).state ≡ false
fits [] h = refl
fits (x ∷ more) h = not_broken x.place LargeData (is_data_large (items (x ∷ more) at_start).state) h

-- the data of an accepted source isn't too large
pub data_fits : (tree : Tree) (room : ℕ) → IsAccepted tree room → is_data_large (after tree) ≡ false
data_fits tree room h = fits tree.items (second_empty (items tree.items at_start).broken _ (second_empty (at_first tree.items (breaks TooLarge (is_too_large tree room))) _ h))

pub few_variables : (state : State) → CanBeNumbered state → variables_in_all state.bodies ≤ 98304
few_variables state h = let few = h.few in omega (arith, few)

-- ---- types that can stand

laid_each : (table : Types) (cs : List GlobalVariable) → All (CanStand table) (global_kinds cs) → AllByRecursion (CanBeLaid table) cs
laid_each table [] h = tt
laid_each table (c ∷ cs) h = let here = h 0 c.kind (omega arith) in ((here.0, here.1), laid_each table cs (All-tail (CanStand table) c.kind (global_kinds cs) h))

pub can_be_laid : (table : Types) (cs : List GlobalVariable) → All (CanStand table) (global_kinds cs) → All (CanBeLaid table) cs
can_be_laid table cs h = All-from_recursion (CanBeLaid table) cs (laid_each table cs h)

placed_each : (table : Types) (cs : List LocalVariable) → All (CanStand table) (local_kinds cs) → AllByRecursion (CanBePlaced table) cs
placed_each table [] h = tt
placed_each table (c ∷ cs) h = let here = h 0 c.kind (omega arith) in ((here.0, here.1), placed_each table cs (All-tail (CanStand table) c.kind (local_kinds cs) h))

can_be_placed : (table : Types) (cs : List LocalVariable) → All (CanStand table) (local_kinds cs) → All (CanBePlaced table) cs
can_be_placed table cs h = All-from_recursion (CanBePlaced table) cs (placed_each table cs h)

-- ---- sizes

abbrev pub AllAgree : List StructInfo → Type 0
AllAgree structs = (t : CType) → is_sized structs t ≡ true → Agrees structs (structs_seen structs) t

module _ (structs : List StructInfo) (agree : AllAgree structs) where
  globals_agree : (vs : List Known) → All (VariableStands structs) vs → GlobalsAgree structs (structs_seen structs) vs
  globals_agree [] h = tt
  globals_agree (v ∷ more) h = let here : HoldsValues structs v.kind = h 0 v (omega arith) in (agree v.kind here.1, globals_agree more (All-tail (VariableStands structs) v more h))

  pub variables_agree : (vs : List BodyVariable) → All (BodyVariableStands structs) vs → VariablesAgree structs (structs_seen structs) vs
  variables_agree [] h = tt
  variables_agree (v ∷ more) h = let here : HoldsValues structs v.kind = h 0 v (omega arith) in (agree v.kind here.1, variables_agree more (All-tail (BodyVariableStands structs) v more h))

-- ---- the data

pub data_known_small : (state : State) → CanBeNumbered state → AllAgree state.scope.structs → is_data_large state ≡ false → globals_size state + length state.notes.literals ≤ 16777216
data_known_small state numbered agree small =
    data_has_room state.scope.structs (structs_seen state.scope.structs) state.scope.variables (length state.notes.literals) (globals_agree state.scope.structs agree state.scope.variables numbered.variables) small

pub data_small : (state : State) (c : Checked) → Says state c → CanBeNumbered state → AllAgree state.scope.structs → is_data_large state ≡ false
    → globals_end (structs_of c.types) 0 (globals_of c.types c.variables) ≤ 16777216
data_small state c says numbered agree small =
    let same = same_globals c.types c.variables state.scope.variables says.variables.types says.variables.defined in
    let le = data_has_room state.scope.structs (structs_seen state.scope.structs) state.scope.variables (length state.notes.literals) (globals_agree state.scope.structs agree state.scope.variables numbered.variables) small in
    let ends = ap₂ (λ (s : List StructType) (g : List Global). globals_end s 0 g) says.structs same in omega (arith, ends, le)

-- ---- frames

abbrev pub FirstMultiple : Type 0
FirstMultiple = (n align m : ℕ) → 1 ≤ align → n ≤ m → m % align ≡ 0 → next_multiple n align ≤ m

counted : (cs : List LocalVariable) (vs : List BodyVariable) → map (λ v. v.taken) cs ≡ map (λ v. v.taken) vs → length cs ≡ length vs
counted [] [] h = refl
counted [] (v ∷ vs) h = cc
counted (c ∷ cs) [] h = cc
counted (c ∷ cs) (v ∷ vs) h = ap suc (counted cs vs cc)

module _ (table : Types) (structs : List StructInfo) (same : structs_of table ≡ structs_seen structs) (agree : AllAgree structs) (first : FirstMultiple) where
  frame_small : (c : CheckedBody) (b : Body) → body_variables table c ≡ map variable_known b.variables → BodyStands structs b → is_large (room_of structs no_room b.variables) ≡ false
      → (frame_plan (structs_of table) (body_variables table c)).size ≤ 1048576
  frame_small c b variables stands small =
      let le = frame_has_room structs (structs_seen structs) b.variables (variables_agree structs agree b.variables stands) small in
      let ends = ap₂ (λ (s : List StructType) (vs : List Variable). (free_after_all s nothing_taken vs).byte) same variables in
      first (free_after_all (structs_of table) nothing_taken (body_variables table c)).byte 16 1048576 (omega arith) (omega (arith, ends, le)) refl

  rooms_each : (cs : List CheckedBody) (bs : List Body) → AreBodies table cs bs → All (BodyStands structs) bs → HaveRoom structs bs → variables_in_all bs ≤ 98304 → AllByRecursion (HasRoom table) cs
  rooms_each [] bs h stand small few = tt
  rooms_each (c ∷ cs) [] h stand small few = absurd h
  rooms_each (c ∷ cs) (b ∷ bs) h stand small few =
      let many = counted c.variables b.variables h.1.taken in (
        (can_be_placed table c.variables h.1.can_stand, omega (arith, many, few), frame_small c b (same_variables table c.variables b.variables h.1.types h.1.taken) (stand 0 b (omega arith)) small.0),
        rooms_each cs bs h.2 (All-tail (BodyStands structs) b bs stand) small.1 (omega (arith, few)),
      )

  pub have_room : (cs : List CheckedBody) (bs : List Body) → AreBodies table cs bs → All (BodyStands structs) bs → HaveRoom structs bs → variables_in_all bs ≤ 98304 → All (HasRoom table) cs
  have_room cs bs h stand small few = All-from_recursion (HasRoom table) cs (rooms_each cs bs h stand small few)

-- the bytes of the data by the numbers of types are those by what is known
pub same_size : (state : State) (c : Checked) (n : ℕ) → Says state c → n ≡ globals_end (structs_of c.types) 0 (globals_of c.types c.variables) + length c.literals → n ≡ globals_size state + length state.notes.literals
same_size state c n says h =
    let same = same_globals c.types c.variables state.scope.variables says.variables.types says.variables.defined in
    let ends = ap₂ (λ (s : List StructType) (g : List Global). globals_end s 0 g) says.structs same in
    let texts = ap length says.literals in omega (arith, h, ends, texts)

-- ---- what the laws of checked sources give

abbrev pub Numbered : Type 0
Numbered = (tree : Tree) (room : ℕ) → room ≤ 32768 → IsFormed tree → IsAccepted tree room → CanBeNumbered (after tree)

pub numbered : Numbered → (tree : Tree) (c : Checked) → IsChecked tree c → CanBeNumbered (after tree)
numbered law tree c h = law tree h.room h.few h.formed h.accepted

abbrev pub SizesAgree : Type 0
SizesAgree = (structs : List StructInfo) (kind : CType) → AreLaid [] structs → is_sized structs kind ≡ true → Agrees structs (structs_seen structs) kind

pub sizes : SizesAgree → (state : State) → CanBeNumbered state → AllAgree state.scope.structs
sizes law state known t h = law state.scope.structs t known.structs h
