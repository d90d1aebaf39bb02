-- What is known of names stays while members are declared, and where names stand among those that are known.
use Rattle.std.proofs.Common.{◌≡◌, refl, ap, ◌∙◌, sym, Bool, true, false, ℕ, zero, suc, ◌+◌, ◌≤◌, nat_le, if◌then◌else◌, ◌⊎◌, inl, inr, Option, None, Some, List, [], ◌∷◌, ◌++◌, length, drop, slice_get, bytes_eq, arith}
use Rattle.std.proofs.lemmas.Bool.{le-leb, leb-true}
use Rattle.std.specs.Cmp.Lexicographic.{bytes_decides}
use Rattle.c_tree.specs.declared.tree.Decl.{Decl}
use Rattle.c_types.specs.Types.{CType}
use Rattle.c_check_rules.specs.declared.names.Local.{Local}
use Rattle.c_check_rules.specs.declared.names.Member.{Member}
use Rattle.c_check_rules.specs.declared.names.StructInfo.{StructInfo}
use Rattle.c_check_rules.specs.Named.{last_at}
use Rattle.c_check_rules.specs.Names.{tags, local_names}
use Rattle.c_check_statements.specs.declared.state.State.{State}
use Rattle.c_check_statements.specs.Declarations.{introduced, declares, has_name}
use Rattle.c_check_statements.specs.Structs.{member_declared, with_member, gathered, with_struct, open_struct}

scope_introduced : (introduce : CType → State → State) (kind : Option CType) (state : State) → ((t : CType) (s : State) → (introduce t s).scope ≡ s.scope) → (introduced introduce kind state).scope ≡ state.scope
scope_introduced introduce None state h = refl
scope_introduced introduce (Some t) state h = h t state

scope_member : (members : List Member) (d : Decl) (state : State) → (member_declared members d state).state.scope ≡ state.scope
unfolding declares
scope_member members d state = scope_introduced _ _ _ (λ t s. refl)

pub scope_gathered : (members : List Member) (all : List Decl) (state : State) → (gathered members all state).state.scope ≡ state.scope
scope_gathered members [] state = refl
scope_gathered members (d ∷ more) state = scope_gathered (with_member d.name (member_declared members d state).kind members) more (member_declared members d state).state ∙ scope_member members d state

-- a struct that was opened has its tag, also behind its members
last_tag : (structs : List StructInfo) (tag : List ℕ) → slice_get (tags (structs ++ open_struct tag ∷ [])) (length structs) ≡ Some tag
last_tag [] tag = refl
last_tag (s ∷ more) tag = last_tag more tag

pub gathered_tag : (tag : List ℕ) (all : List Decl) (state : State) → slice_get (tags (gathered [] all (with_struct tag state)).state.scope.structs) (length state.scope.structs) ≡ Some tag
gathered_tag tag all state = ap (λ scope. slice_get (tags scope.structs) (length state.scope.structs)) (scope_gathered [] all (with_struct tag state)) ∙ last_tag state.scope.structs tag

-- ---- names from a place on

-- whether a place is there that isn't before the first
abbrev pub from_place : (first : ℕ) → Option ℕ → Bool
from_place first None = false
from_place first (Some place) = nat_le first place

late_place : (n at p : ℕ) (name : List ℕ) (ns : List (List ℕ)) → n ≤ at → n ≤ p → from_place n (last_at name ns at (Some p)) ≡ true
late_place n at p name [] h g = le-leb n p g
late_place n at p name (x ∷ ns) h g = by (bytes_eq x name) (late_place n (at + 1) at name ns (omega arith) h) (late_place n (at + 1) p name ns (omega arith) g)
  where
    by : (b : Bool) → from_place n (last_at name ns (at + 1) (Some at)) ≡ true → from_place n (last_at name ns (at + 1) (Some p)) ≡ true → from_place n (last_at name ns (at + 1) (if b then Some at else Some p)) ≡ true
    by true here before = here
    by false here before = before

all_places : (n at : ℕ) (found : Option ℕ) (name : List ℕ) (ns : List (List ℕ)) → n ≤ at → from_place n found ≡ false → from_place n (last_at name ns at found) ≡ has_name name ns
all_places n at found name [] h none = none
all_places n at found name (x ∷ ns) h none = by (bytes_eq x name) (late_place n (at + 1) at name ns (omega arith) h) (all_places n (at + 1) found name ns (omega arith) none)
  where
    by : (b : Bool) → from_place n (last_at name ns (at + 1) (Some at)) ≡ true → from_place n (last_at name ns (at + 1) found) ≡ has_name name ns
        → from_place n (last_at name ns (at + 1) (if b then Some at else found)) ≡ (if b then true else has_name name ns)
    by true here later = here
    by false here later = later

places_from : (first at : ℕ) (found : Option ℕ) (name : List ℕ) (ns : List (List ℕ)) → from_place (at + first) found ≡ false → from_place (at + first) (last_at name ns at found) ≡ has_name name (drop first ns)
places_from zero at found name ns none = all_places (at + 0) at found name ns (omega arith) none
places_from (suc first) at found name [] none = none
places_from (suc first) at found name (x ∷ ns) none =
    let same : at + suc first ≡ at + 1 + first = omega arith in
    ap (λ n. from_place n (last_at name ns (at + 1) (if bytes_eq x name then Some at else found))) same
    ∙ places_from first (at + 1) (if bytes_eq x name then Some at else found) name ns (by (bytes_eq x name) (ap (λ n. from_place n found) (sym same) ∙ none))
  where
    late : (b : Bool) → nat_le (at + 1 + first) at ≡ b → b ≡ false
    late true e = absurd (let le = leb-true (at + 1 + first) at e in omega (arith, le))
    late false e = refl

    by : (b : Bool) → from_place (at + 1 + first) found ≡ false → from_place (at + 1 + first) (if b then Some at else found) ≡ false
    by true before = late (nat_le (at + 1 + first) at) refl
    by false before = before

drop_names : (first : ℕ) (locals : List Local) → drop first (local_names locals) ≡ local_names (drop first locals)
drop_names zero locals = refl
drop_names (suc first) [] = refl
drop_names (suc first) (x ∷ locals) = drop_names first locals

-- a name stands from a place on exactly where its last place isn't before it
pub stands_from : (name : List ℕ) (first : ℕ) (locals : List Local) → from_place first (last_at name (local_names locals) 0 None) ≡ has_name name (local_names (drop first locals))
stands_from name first locals =
    let same : first ≡ 0 + first = omega arith in
    ap (λ n. from_place n (last_at name (local_names locals) 0 None)) same ∙ (places_from first 0 None name (local_names locals) refl ∙ ap (has_name name) (drop_names first locals))

-- ---- the name at its last place

last_among : (name : List ℕ) (ns : List (List ℕ)) (first : ℕ) (found : Option ℕ) (at : ℕ) → last_at name ns first found ≡ Some at → (found ≡ Some at) ⊎ ((i : ℕ) × (at ≡ first + i) × (slice_get ns i ≡ Some name))
last_among name [] first found at h = inl h
last_among name (x ∷ ns) first found at h = by (bytes_eq x name) refl (last_among name ns (first + 1) (if bytes_eq x name then Some first else found) at h)
  where
    by : (b : Bool) → bytes_eq x name ≡ b → ((if b then Some first else found) ≡ Some at) ⊎ ((i : ℕ) × (at ≡ first + 1 + i) × (slice_get ns i ≡ Some name))
        → (found ≡ Some at) ⊎ ((i : ℕ) × (at ≡ first + i) × (slice_get (x ∷ ns) i ≡ Some name))
    by true e (inl here) = inr (0, (let same : first ≡ at = cc in omega arith), ap Some ((bytes_decides x name).0 e))
    by false e (inl before) = inl before
    by b e (inr later) = inr (suc later.0, (let place = later.1 in omega (arith, place)), later.2)

pub last_has_name : (name : List ℕ) (ns : List (List ℕ)) (at : ℕ) → last_at name ns 0 None ≡ Some at → slice_get ns at ≡ Some name
last_has_name name ns at h = by (last_among name ns 0 None at h)
  where
    by : (None ≡ Some at) ⊎ ((i : ℕ) × (at ≡ 0 + i) × (slice_get ns i ≡ Some name)) → slice_get ns at ≡ Some name
    by (inl none) = cc
    by (inr there) = let same : at ≡ there.0 = (let e = there.1 in omega (arith, e)) in ap (slice_get ns) same ∙ there.2
