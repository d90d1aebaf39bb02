-- The numbers of types in a list, one after another.
use Rattle.std.proofs.Common.{◌≡◌, ℕ, ◌+◌, ◌*◌, ◌<◌, ◌≤◌, List, [], ◌∷◌, ◌++◌, map, length, get_or, take, drop, refl, ap, sym, ◌∙◌, subst, arith}
use Rattle.std.specs.List.{All}
use Rattle.std.proofs.lemmas.List.{take_more, drop_more, map_push, take_all, length-map, get_or-map}
use Rattle.std.proofs.lemmas.List.Elements.{All-weaker, All-get_or}
use Rattle.c_types.specs.declared.shape.TypeId.{TypeId}
use Rattle.c_types.specs.Types.{CType, StructType, Types, structs_of}
use Rattle.c_types.specs.Layouts.{CanStand, Extends}
use Rattle.c_types.proofs.Standing.{stands-stay}
use Rattle.c_check_rules.specs.declared.names.Variable.{Variable}
use Rattle.c_check_statements.specs.declared.state.Body.{Body}
use Rattle.c_check_statements.specs.declared.state.BodyVariable.{BodyVariable}
use Rattle.c_check.specs.declared.checked.GlobalVariable.{GlobalVariable}
use Rattle.c_check.specs.declared.checked.LocalVariable.{LocalVariable}
use Rattle.c_check.specs.declared.checked.CheckedBody.{CheckedBody}
use Rattle.c_check.specs.Checked.{Number, types_at, local_kinds, global_kinds, IsLocals, IsGlobals, AreBodies}
use Rattle.c_check.specs.Standing.{variables_in_all}
use Rattle.c_check.specs.Numbering.{IsElement, HasNumber, HoldsNumber, KnowsMembers, Grows, Numbers, global_types, local_types}
use Rattle.c_check.proofs.TableGrowth.{grows-none, grows-then, structs-still, number-none, number-more, number-still, all-can-stand}

-- what the structs of a table and their count tell stays as it grows
pub still : (P : List StructType → ℕ → Type 0) (start table : Types) → Grows start table → KnowsMembers start → P (structs_of start) start.begun → P (structs_of table) table.begun
still P start table g known h =
    subst (λ (b : ℕ). P (structs_of table) b) (sym g.begun) (subst (λ (ss : List StructType). P ss start.begun) (sym (structs-still start table g known)) h)

pub take-next : {X : Type 0} (xs : List X) (i : ℕ) (x : X) → i < length xs → x ≡ get_or xs i x → take (i + 1) xs ≡ take i xs ++ x ∷ []
take-next xs i x inside is = take_more xs i x inside ∙ ap (λ y. take i xs ++ y ∷ []) (sym is)

pub map-next : {X Y : Type 0} (f : X → Y) (xs : List X) (i : ℕ) (x : X) → i < length xs → x ≡ get_or xs i x → map f (take (i + 1) xs) ≡ map f (take i xs) ++ f x ∷ []
map-next f xs i x inside is = ap (map f) (take-next xs i x inside is) ∙ map_push f (take i xs) x

pub drop-next : {X : Type 0} (xs : List X) (i : ℕ) (x : X) → i < length xs → x ≡ get_or xs i x → drop i xs ≡ x ∷ drop (i + 1) xs
drop-next xs i x inside is = drop_more xs i x inside ∙ ap (λ y. y ∷ drop (i + 1) xs) (sym is)

pub at-next : {X : Type 0} (P : X → Type 0) (xs : List X) (i : ℕ) (x : X) → i < length xs → x ≡ get_or xs i x → All P xs → P x
at-next P xs i x inside is all = subst P (sym is) (All-get_or P xs i x inside all)

pub at-mapped : {X Y : Type 0} (P : Y → Type 0) (f : X → Y) (xs : List X) (i : ℕ) (x : X) → i < length xs → x ≡ get_or xs i x → All P (map f xs) → P (f x)
at-mapped P f xs i x inside is all =
    let within : i < length (map f xs) = omega (arith, length-map xs f) in
    subst P (get_or-map f xs i x (f x) inside ∙ ap f (sym is)) (All-get_or P (map f xs) i (f x) within all)

-- ---- a list of types

pub record Listed (start table : Types) (ids : List TypeId) (kinds : List CType) (i : ℕ) : Type 0 where
  pub grows : Grows start table
  pub number : Number table ids kinds
  pub few : length table.shapes ≤ length start.shapes + 33024 * i

pub listed-none : (start : Types) → Listed start start [] [] 0
listed-none start = record { grows = grows-none start; number = number-none start; few = omega arith }

pub listed-more : (start old new : Types) (ids more : List TypeId) (kinds others : List CType) (i : ℕ) (t : TypeId) (kind : CType) → Listed start old ids kinds i
    → Grows old new → Numbers new t kind → length new.shapes ≤ length old.shapes + 33024 → more ≡ ids ++ t ∷ [] → others ≡ kinds ++ kind ∷ [] → Listed start new more others (i + 1)
listed-more start old new ids more kinds others i t kind h g n few is are = record {
  grows = grows-then start old new h.grows g;
  number = subst (λ (ts : List TypeId). Number new ts others) (sym is) (subst (Number new (ids ++ t ∷ [])) (sym are) (number-more old new ids kinds t kind g.extends h.number n));
  few = omega (arith, h.few);
}

-- ---- variables

pub record GlobalsListed (start table : Types) (globals : List GlobalVariable) (variables : List Variable) (i : ℕ) : Type 0 where
  pub listed : Listed start table (global_kinds globals) (global_types variables) i
  pub defined : map (λ (v : GlobalVariable). v.defined) globals ≡ map (λ (v : Variable). v.defined) variables

pub globals-none : (start : Types) → GlobalsListed start start [] [] 0
globals-none start = record { listed = listed-none start; defined = refl }

pub globals-more : (start old new : Types) (globals more : List GlobalVariable) (variables : List Variable) (i : ℕ) (g : GlobalVariable) (v : Variable)
    → GlobalsListed start old globals (take i variables) i → i < length variables → v ≡ get_or variables i v
    → Grows old new → Numbers new g.kind v.kind → g.defined ≡ v.defined → length new.shapes ≤ length old.shapes + 33024 → more ≡ globals ++ g ∷ [] → GlobalsListed start new more (take (i + 1) variables) (i + 1)
globals-more start old new globals more variables i g v h inside at grows n same few is = record {
  listed = listed-more start old new (global_kinds globals) (global_kinds more) (global_types (take i variables)) (global_types (take (i + 1) variables)) i g.kind v.kind h.listed grows n few
      (ap global_kinds is ∙ map_push (λ (x : GlobalVariable). x.kind) globals g) (map-next (λ (x : Variable). x.kind) variables i v inside at);
  defined = ap (map (λ (x : GlobalVariable). x.defined)) is ∙ (map_push (λ (x : GlobalVariable). x.defined) globals g
      ∙ (ap (λ ds. ds ++ g.defined ∷ []) h.defined ∙ (ap (λ d. map (λ (x : Variable). x.defined) (take i variables) ++ d ∷ []) same ∙ sym (map-next (λ (x : Variable). x.defined) variables i v inside at))));
}

pub record LocalsListed (start table : Types) (locals : List LocalVariable) (variables : List BodyVariable) (i : ℕ) : Type 0 where
  pub listed : Listed start table (local_kinds locals) (local_types variables) i
  pub taken : map (λ (v : LocalVariable). v.taken) locals ≡ map (λ (v : BodyVariable). v.taken) variables

pub locals-none : (start : Types) → LocalsListed start start [] [] 0
locals-none start = record { listed = listed-none start; taken = refl }

pub locals-more : (start old new : Types) (locals more : List LocalVariable) (variables : List BodyVariable) (i : ℕ) (g : LocalVariable) (v : BodyVariable)
    → LocalsListed start old locals (take i variables) i → i < length variables → v ≡ get_or variables i v
    → Grows old new → Numbers new g.kind v.kind → g.taken ≡ v.taken → length new.shapes ≤ length old.shapes + 33024 → more ≡ locals ++ g ∷ [] → LocalsListed start new more (take (i + 1) variables) (i + 1)
locals-more start old new locals more variables i g v h inside at grows n same few is = record {
  listed = listed-more start old new (local_kinds locals) (local_kinds more) (local_types (take i variables)) (local_types (take (i + 1) variables)) i g.kind v.kind h.listed grows n few
      (ap local_kinds is ∙ map_push (λ (x : LocalVariable). x.kind) locals g) (map-next (λ (x : BodyVariable). x.kind) variables i v inside at);
  taken = ap (map (λ (x : LocalVariable). x.taken)) is ∙ (map_push (λ (x : LocalVariable). x.taken) locals g
      ∙ (ap (λ ds. ds ++ g.taken ∷ []) h.taken ∙ (ap (λ d. map (λ (x : BodyVariable). x.taken) (take i variables) ++ d ∷ []) same ∙ sym (map-next (λ (x : BodyVariable). x.taken) variables i v inside at))));
}

-- variables of which there are values
elements-of : (structs : List StructType) (begun : ℕ) (kinds : List CType) → All (HoldsNumber structs begun) kinds → All (IsElement structs) kinds
elements-of structs begun kinds all = All-weaker (HoldsNumber structs begun) (IsElement structs) (λ k h. h.1) kinds all

pub numbers-of : (structs : List StructType) (begun : ℕ) (kinds : List CType) → All (HoldsNumber structs begun) kinds → All (HasNumber structs begun) kinds
numbers-of structs begun kinds all = All-weaker (HoldsNumber structs begun) (HasNumber structs begun) (λ k h. h.0) kinds all

pub can-all-stand : (start table : Types) (ids : List TypeId) (kinds : List CType) → Grows start table → KnowsMembers start → Number table ids kinds
    → All (HoldsNumber (structs_of start) start.begun) kinds → All (CanStand table) ids
can-all-stand start table ids kinds g known n all =
    all-can-stand table ids kinds n.in_table n.types
    (elements-of (structs_of table) table.begun kinds (still (λ ss b. All (HoldsNumber ss b) kinds) start table g known all))

pub globals-end : (start table : Types) (globals : List GlobalVariable) (variables : List Variable) (i : ℕ) → GlobalsListed start table globals (take i variables) i → length variables ≤ i
    → KnowsMembers start → All (HoldsNumber (structs_of start) start.begun) (global_types variables) → IsGlobals table globals variables
globals-end start table globals variables i h end known all =
    let whole : take i variables ≡ variables = take_all i variables end in
    let n : Number table (global_kinds globals) (global_types variables) = subst (λ (vs : List Variable). Number table (global_kinds globals) (global_types vs)) whole h.listed.number in
    record {
      can_stand = can-all-stand start table (global_kinds globals) (global_types variables) h.listed.grows known n all;
      types = n.types;
      defined = h.defined ∙ ap (map (λ (v : Variable). v.defined)) whole;
    }

pub locals-end : (start table : Types) (locals : List LocalVariable) (variables : List BodyVariable) (i : ℕ) → LocalsListed start table locals (take i variables) i → length variables ≤ i
    → KnowsMembers start → All (HoldsNumber (structs_of start) start.begun) (local_types variables) → IsLocals table locals variables
locals-end start table locals variables i h end known all =
    let whole : take i variables ≡ variables = take_all i variables end in
    let n : Number table (local_kinds locals) (local_types variables) = subst (λ (vs : List BodyVariable). Number table (local_kinds locals) (local_types vs)) whole h.listed.number in
    record {
      can_stand = can-all-stand start table (local_kinds locals) (local_types variables) h.listed.grows known n all;
      types = n.types;
      taken = h.taken ∙ ap (map (λ (v : BodyVariable). v.taken)) whole;
    }

-- ---- what was numbered stays so

types-stand : (old new : Types) → Extends old new → (ids : List TypeId) (kinds : List CType) → All (CanStand old) ids → types_at old ids ≡ kinds → types_at new ids ≡ kinds
types-stand old new h ids kinds all is = (number-still old new h ids kinds (record { in_table = All-weaker (CanStand old) _ (λ t c. c.0) ids all; types = is })).types

pub globals-still : (old new : Types) → Extends old new → (globals : List GlobalVariable) (variables : List Variable) → IsGlobals old globals variables → IsGlobals new globals variables
globals-still old new h globals variables g = record {
  can_stand = All-weaker (CanStand old) (CanStand new) (stands-stay old new h) (global_kinds globals) g.can_stand;
  types = types-stand old new h (global_kinds globals) (global_types variables) g.can_stand g.types;
  defined = g.defined;
}

locals-still : (old new : Types) → Extends old new → (locals : List LocalVariable) (variables : List BodyVariable) → IsLocals old locals variables → IsLocals new locals variables
locals-still old new h locals variables g = record {
  can_stand = All-weaker (CanStand old) (CanStand new) (stands-stay old new h) (local_kinds locals) g.can_stand;
  types = types-stand old new h (local_kinds locals) (local_types variables) g.can_stand g.types;
  taken = g.taken;
}

bodies-still : (old new : Types) → Extends old new → (all : List CheckedBody) (bodies : List Body) → AreBodies old all bodies → AreBodies new all bodies
bodies-still old new h [] [] are = tt
bodies-still old new h [] (b ∷ more) are = are
bodies-still old new h (c ∷ others) [] are = are
bodies-still old new h (c ∷ others) (b ∷ more) are = (are.0, locals-still old new h c.variables b.variables are.1, bodies-still old new h others more are.2)

-- ---- bodies

bodies-push : (table : Types) (all : List CheckedBody) (bodies : List Body) (c : CheckedBody) (b : Body) → AreBodies table all bodies → c.number ≡ b.number → IsLocals table c.variables b.variables
    → AreBodies table (all ++ c ∷ []) (bodies ++ b ∷ [])
bodies-push table [] [] c b are same locals = (same, locals, tt)
bodies-push table [] (x ∷ more) c b are same locals = absurd are
bodies-push table (x ∷ others) [] c b are same locals = absurd are
bodies-push table (x ∷ others) (y ∷ more) c b are same locals = (are.0, are.1, bodies-push table others more c b are.2 same locals)

pub record BodiesListed (start table : Types) (all : List CheckedBody) (bodies : List Body) (i : ℕ) : Type 0 where
  pub grows : Grows start table
  pub are : AreBodies table all (take i bodies)
  pub few : length table.shapes + 33024 * variables_in_all (drop i bodies) ≤ length start.shapes + 33024 * variables_in_all bodies

pub bodies-none : (start : Types) (bodies : List Body) → BodiesListed start start [] bodies 0
bodies-none start bodies = record { grows = grows-none start; are = tt; few = omega arith }

pub bodies-more : (start old new : Types) (all more : List CheckedBody) (bodies : List Body) (i : ℕ) (c : CheckedBody) (b : Body) → BodiesListed start old all bodies i → i < length bodies → b ≡ get_or bodies i b
    → Grows old new → c.number ≡ b.number → IsLocals new c.variables b.variables → length new.shapes ≤ length old.shapes + 33024 * length b.variables → more ≡ all ++ c ∷ []
    → BodiesListed start new more bodies (i + 1)
bodies-more start old new all more bodies i c b h inside at g same locals few is = record {
  grows = grows-then start old new h.grows g;
  are = subst (λ (cs : List CheckedBody). AreBodies new cs (take (i + 1) bodies)) (sym is)
      (subst (AreBodies new (all ++ c ∷ [])) (sym (take-next bodies i b inside at))
      (bodies-push new all (take i bodies) c b (bodies-still old new g.extends all (take i bodies) h.are) same locals));
  few =
      let count : variables_in_all (drop i bodies) ≡ length b.variables + variables_in_all (drop (i + 1) bodies) = ap variables_in_all (drop-next bodies i b inside at) in
      omega (arith, h.few);
}

pub bodies-end : (start table : Types) (all : List CheckedBody) (bodies : List Body) (i : ℕ) → BodiesListed start table all bodies i → length bodies ≤ i → AreBodies table all bodies
bodies-end start table all bodies i h end = subst (AreBodies table all) (take_all i bodies end) h.are
