-- Members by the numbers of their types.
use Rattle.std.proofs.Common.{◌≡◌, ℕ, zero, suc, ◌≤◌, ◌<◌, List, [], ◌∷◌, map, length, refl, ap, subst, arith}
use Rattle.std.specs.Prelude.{None, slice_get, slice_index_or}
use Rattle.c_types.specs.declared.shape.TypeId.{TypeId}
use Rattle.c_types.specs.Types.{CType, Types, type_at, structs_of}
use Rattle.c_types.specs.Layouts.{no_layout, layout_of, layout_at}

laid_there : (table : Types) (members : List TypeId) (place : ℕ) (d : TypeId) → place < length members
    → slice_index_or (map (layout_of (structs_of table)) (map (type_at table) members)) place no_layout ≡ layout_at table (slice_index_or members place d)
laid_there table [] place d lt = absurd (omega (arith, lt))
laid_there table (m ∷ ms) zero d lt = refl
laid_there table (m ∷ ms) (suc n) d lt = laid_there table ms n d (omega (arith, lt))

-- the layout of a member by the number of its type
pub member_laid : (table : Types) (members : List TypeId) (kinds : List CType) (place : ℕ) (d : TypeId) → map (type_at table) members ≡ kinds → place < length members
    → slice_index_or (map (layout_of (structs_of table)) kinds) place no_layout ≡ layout_at table (slice_index_or members place d)
member_laid table members kinds place d same lt = subst (λ ks. slice_index_or (map (layout_of (structs_of table)) ks) place no_layout ≡ layout_at table (slice_index_or members place d)) same (laid_there table members place d lt)

none_there : (table : Types) (members : List TypeId) (place : ℕ) → length members ≤ place → slice_get (map (type_at table) members) place ≡ None
none_there table [] place le = refl
none_there table (m ∷ ms) zero le = absurd (omega (arith, le))
none_there table (m ∷ ms) (suc n) le = none_there table ms n (omega (arith, le))

-- behind the last member there is none
pub member_missing : (table : Types) (members : List TypeId) (kinds : List CType) (place : ℕ) → map (type_at table) members ≡ kinds → length members ≤ place → slice_get kinds place ≡ None
member_missing table members kinds place same le = subst (λ ks. slice_get ks place ≡ None) same (none_there table members place le)

mapped_as_many : (table : Types) (members : List TypeId) → length (map (type_at table) members) ≡ length members
mapped_as_many table [] = refl
mapped_as_many table (m ∷ ms) = ap suc (mapped_as_many table ms)

pub as_many : (table : Types) (members : List TypeId) (kinds : List CType) → map (type_at table) members ≡ kinds → length kinds ≡ length members
as_many table members kinds same = subst (λ ks. length ks ≡ length members) same (mapped_as_many table members)
