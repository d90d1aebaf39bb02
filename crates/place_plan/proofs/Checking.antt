-- What a checked source says by the numbers of types is what is known of it.
use Rattle.std.proofs.Common.{◌≡◌, ℕ, List, [], ◌∷◌, map, Bool, refl, ap, ap₂, ◌∙◌}
use Rattle.c_tree.specs.declared.tree.Item.{Item}
use Rattle.c_types.specs.Types.{CType, StructType, Types, type_at, structs_of}
use Rattle.c_check_rules.specs.declared.names.Variable.{Variable as Known}
use Rattle.c_check_statements.specs.declared.state.State.{State}
use Rattle.c_check_statements.specs.declared.state.Body.{Body}
use Rattle.c_check_statements.specs.declared.state.BodyVariable.{BodyVariable}
use Rattle.c_check.specs.declared.checked.GlobalVariable.{GlobalVariable}
use Rattle.c_check.specs.declared.checked.LocalVariable.{LocalVariable}
use Rattle.c_check.specs.declared.checked.CheckedBody.{CheckedBody}
use Rattle.c_check.specs.declared.checked.Checked.{Checked}
use Rattle.c_check.specs.Checked.{types_at, global_kinds, local_kinds, AreBodies, Says}
use Rattle.c_check.specs.Standing.{structs_seen}
use Rattle.place_plan.specs.Data.{Global}
use Rattle.place_plan.specs.Frames.{Variable}
use Rattle.place_plan.specs.Globals.{globals_of}
use Rattle.place_plan.specs.Locals.{variables_of}
use Rattle.place_plan.specs.Plans.{planned, body_variables}
use Rattle.place_plan.specs.Source.{global_known, variable_known, body_known, plan_by}

same_global : (kind other : CType) (defined known : Bool) → kind ≡ other → defined ≡ known → (let g : Global = record { type = kind; defined = defined } in g) ≡ record { type = other; defined = known }
same_global kind other defined known h k = ap₂ (λ t d. record { type = t; defined = d }) h k

pub same_globals : (table : Types) (cs : List GlobalVariable) (vs : List Known) → types_at table (global_kinds cs) ≡ map (λ v. v.kind) vs → map (λ v. v.defined) cs ≡ map (λ v. v.defined) vs
    → globals_of table cs ≡ map global_known vs
same_globals table [] [] h k = refl
same_globals table [] (v ∷ vs) h k = cc
same_globals table (c ∷ cs) [] h k = cc
same_globals table (c ∷ cs) (v ∷ vs) h k =
    let kind : type_at table c.kind ≡ v.kind = cc in let defined : c.defined ≡ v.defined = cc in
    let kinds : types_at table (global_kinds cs) ≡ map (λ v. v.kind) vs = cc in let rest : map (λ v. v.defined) cs ≡ map (λ v. v.defined) vs = cc in
    ap₂ (λ (x : Global) (xs : List Global). x ∷ xs) (same_global (type_at table c.kind) v.kind c.defined v.defined kind defined) (same_globals table cs vs kinds rest)

same_variable : (kind other : CType) (taken known : Bool) → kind ≡ other → taken ≡ known → (let g : Variable = record { type = kind; taken = taken } in g) ≡ record { type = other; taken = known }
same_variable kind other taken known h k = ap₂ (λ t d. record { type = t; taken = d }) h k

pub same_variables : (table : Types) (cs : List LocalVariable) (vs : List BodyVariable) → types_at table (local_kinds cs) ≡ map (λ v. v.kind) vs → map (λ v. v.taken) cs ≡ map (λ v. v.taken) vs
    → variables_of table cs ≡ map variable_known vs
same_variables table [] [] h k = refl
same_variables table [] (v ∷ vs) h k = cc
same_variables table (c ∷ cs) [] h k = cc
same_variables table (c ∷ cs) (v ∷ vs) h k =
    let kind : type_at table c.kind ≡ v.kind = cc in let taken : c.taken ≡ v.taken = cc in
    let kinds : types_at table (local_kinds cs) ≡ map (λ v. v.kind) vs = cc in let rest : map (λ v. v.taken) cs ≡ map (λ v. v.taken) vs = cc in
    ap₂ (λ (x : Variable) (xs : List Variable). x ∷ xs) (same_variable (type_at table c.kind) v.kind c.taken v.taken kind taken) (same_variables table cs vs kinds rest)

pub same_bodies : (table : Types) (cs : List CheckedBody) (bs : List Body) → AreBodies table cs bs → map (body_variables table) cs ≡ map body_known bs
same_bodies table [] [] h = refl
same_bodies table [] (b ∷ bs) h = absurd h
same_bodies table (c ∷ cs) [] h = absurd h
same_bodies table (c ∷ cs) (b ∷ bs) h = ap₂ (λ (x : List Variable) (xs : List (List Variable)). x ∷ xs) (same_variables table c.variables b.variables h.1.types h.1.taken) (same_bodies table cs bs h.2)

-- the plan by the numbers of types is the plan by what is known
pub same_plan : (state : State) (c : Checked) (items : List Item) → Says state c
    → planned (structs_of c.types) (globals_of c.types c.variables) c.global_items c.constants c.literals (map (body_variables c.types) c.bodies) items ≡ plan_by state items
same_plan state c items says =
    let globals = same_globals c.types c.variables state.scope.variables says.variables.types says.variables.defined in
    let bodies = same_bodies c.types c.bodies state.bodies says.bodies in
    let seen = structs_seen state.scope.structs in
    let known = map global_known state.scope.variables in
    ap (λ (s : List StructType). planned s (globals_of c.types c.variables) c.global_items c.constants c.literals (map (body_variables c.types) c.bodies) items) says.structs
    ∙ (ap (λ (g : List Global). planned seen g c.global_items c.constants c.literals (map (body_variables c.types) c.bodies) items) globals
    ∙ (ap (λ (n : List ℕ). planned seen known n c.constants c.literals (map (body_variables c.types) c.bodies) items) says.global_items
    ∙ (ap (λ (k : List ℕ). planned seen known state.global_items k c.literals (map (body_variables c.types) c.bodies) items) says.constants
    ∙ (ap (λ (l : List ℕ). planned seen known state.global_items state.notes.constants l (map (body_variables c.types) c.bodies) items) says.literals
    ∙ ap (λ (b : List (List Variable)). planned seen known state.global_items state.notes.constants state.notes.literals b items) bodies))))
