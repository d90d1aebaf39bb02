-- A table that grows by types says the same of what it had.
use Rattle.std.proofs.Common.{◌≡◌, ◌≤◌, List, [], ◌∷◌, ◌++◌, map, refl, ap, sym, ◌∙◌, subst}
use Rattle.std.specs.List.{All, AllByRecursion}
use Rattle.std.proofs.lemmas.List.{map_push}
use Rattle.std.proofs.lemmas.List.Elements.{All-weaker, All-push, All-head, All-tail, All-cons, All-nil}
use Rattle.c_types.specs.declared.shape.TypeId.{TypeId}
use Rattle.c_types.specs.Types.{CType, Ended, Types, type_at, structs_of, has_size, IsIn}
use Rattle.c_types.specs.Layouts.{layout_of, CanStand, Extends}
use Rattle.c_types.proofs.Growth.{typed}
use Rattle.c_check.specs.Checked.{Number, types_at}
use Rattle.c_check.specs.Numbering.{IsElement, HasMembers, KnowsMembers, Grows, Numbers}

-- ---- one after another

extends-none : (t : Types) → Extends t t
extends-none t = record { stays = λ i h. (h, refl); laid = λ i h has. (has, refl, refl) }

pub extends-then : (a b c : Types) → Extends a b → Extends b c → Extends a c
extends-then a b c f g = record {
  stays = λ t h. ((g.stays t (f.stays t h).0).0, (g.stays t (f.stays t h).0).1 ∙ (f.stays t h).1);
  laid = λ t h has.
      let one = f.laid t h has in
      let two = g.laid t (f.stays t h).0 one.0 in
      (two.0, two.1 ∙ one.1, two.2 ∙ one.2);
}

pub grows-none : (t : Types) → Grows t t
grows-none t = record { extends = extends-none t; begun = refl; ended = refl }

pub grows-then : (a b c : Types) → Grows a b → Grows b c → Grows a c
grows-then a b c f g = record { extends = extends-then a b c f.extends g.extends; begun = g.begun ∙ f.begun; ended = g.ended ∙ f.ended }

-- ---- what stays

stay-in : (old new : Types) → Extends old new → (ids : List TypeId) → All (IsIn old) ids → All (IsIn new) ids
stay-in old new h ids all = All-weaker (IsIn old) (IsIn new) (λ t i. (h.stays t i).0) ids all

types-stay : (old new : Types) → Extends old new → (ids : List TypeId) → All (IsIn old) ids → types_at new ids ≡ types_at old ids
types-stay old new h [] all = refl
types-stay old new h (t ∷ ts) all = λ i. (h.stays t (All-head (IsIn old) t ts all)).1 i ∷ types-stay old new h ts (All-tail (IsIn old) t ts all) i

members-stay : (old new : Types) → Extends old new → (es : List Ended) → AllByRecursion (HasMembers old) es → AllByRecursion (HasMembers new) es
members-stay old new h [] all = tt
members-stay old new h (e ∷ es) all = (stay-in old new h e.members all.0, members-stay old new h es all.1)

pub knows-still : (old new : Types) → Grows old new → KnowsMembers old → KnowsMembers new
knows-still old new g known = subst (AllByRecursion (HasMembers new)) (sym g.ended) (members-stay old new g.extends old.ended known)

structs-stay : (old new : Types) → Extends old new → (es : List Ended) → AllByRecursion (HasMembers old) es → map (typed new) es ≡ map (typed old) es
structs-stay old new h [] all = refl
structs-stay old new h (e ∷ es) all = λ i. record { number = e.number; members = types-stay old new h e.members all.0 i } ∷ structs-stay old new h es all.1 i

pub structs-still : (old new : Types) → Grows old new → KnowsMembers old → structs_of new ≡ structs_of old
structs-still old new g known = ap (map (typed new)) g.ended ∙ structs-stay old new g.extends old.ended known

pub numbers-still : (old new : Types) → Extends old new → (t : TypeId) (kind : CType) → Numbers old t kind → Numbers new t kind
numbers-still old new h t kind n = ((h.stays t n.0).0, (h.stays t n.0).1 ∙ n.1)

pub number-still : (old new : Types) → Extends old new → (ids : List TypeId) (kinds : List CType) → Number old ids kinds → Number new ids kinds
number-still old new h ids kinds n = record { in_table = stay-in old new h ids n.in_table; types = types-stay old new h ids n.in_table ∙ n.types }

-- ---- one number more

pub number-none : (table : Types) → Number table [] []
number-none table = record { in_table = All-nil (IsIn table); types = refl }

pub number-more : (old new : Types) (ids : List TypeId) (kinds : List CType) (t : TypeId) (kind : CType) → Extends old new → Number old ids kinds → Numbers new t kind
    → Number new (ids ++ t ∷ []) (kinds ++ kind ∷ [])
number-more old new ids kinds t kind h n one =
    let before = number-still old new h ids kinds n in
    record {
      in_table = All-push (IsIn new) ids t before.in_table one.0;
      types = map_push (type_at new) ids t ∙ (ap (λ (ts : List CType). ts ++ type_at new t ∷ []) before.types ∙ ap (λ (k : CType). kinds ++ k ∷ []) one.1);
    }

-- ---- what may be a member

pub can-stand : (table : Types) (t : TypeId) (kind : CType) → Numbers table t kind → IsElement (structs_of table) kind → CanStand table t
can-stand table t kind n e = (
  n.0,
  ap (has_size (structs_of table)) n.1 ∙ e.0,
  subst (λ (k : CType). (layout_of (structs_of table) k).size ≤ 16777216) (sym n.1) e.1,
)

pub all-can-stand : (table : Types) (ids : List TypeId) (kinds : List CType) → All (IsIn table) ids → types_at table ids ≡ kinds → All (IsElement (structs_of table)) kinds → All (CanStand table) ids
all-can-stand table ids kinds inside is elements = by ids inside (subst (All (IsElement (structs_of table))) (sym is) elements)
  where
    by : (ids : List TypeId) → All (IsIn table) ids → All (IsElement (structs_of table)) (types_at table ids) → All (CanStand table) ids
    by [] inside elements = All-nil (CanStand table)
    by (t ∷ ts) inside elements = All-cons (CanStand table) t ts
        (can-stand table t (type_at table t) (All-head (IsIn table) t ts inside, refl) (All-head (IsElement (structs_of table)) (type_at table t) (types_at table ts) elements))
        (by ts (All-tail (IsIn table) t ts inside) (All-tail (IsElement (structs_of table)) (type_at table t) (types_at table ts) elements))
