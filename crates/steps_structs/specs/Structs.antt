-- The structs that are declared so far, each with the numbers of its members' types.
use Rattle.std.specs.Prelude.{◌≡◌, ℕ, ◌+◌, Option, None, Some, List, [], ◌∷◌, map, fold, length, All, slice_get}
use Rattle.c_tree.specs.declared.tree.Decl.{Decl}
use Rattle.c_types.specs.declared.shape.TypeId.{TypeId}
use Rattle.c_types.specs.declared.layout.Layout.{Layout}
use Rattle.c_types.specs.Types.{CType, Void, Int, Pointer, Array, Struct, StructType, Types, type_at, members_of, IsIn}
use Rattle.c_types.specs.Layouts.{no_layout, layout_of, layout_of_struct, struct_layout, offsets_from, next_multiple}
use Rattle.bounds_plan.specs.meaning.Core.{Scalar}
use Rattle.bounds_plan.specs.elaboration.Scalars.{joined_at, scalars_of, scalars_of_struct}
use Rattle.steps_facts.specs.declared.knows.Part.{Part}
use Rattle.steps_facts.specs.declared.knows.ScalarAt.{ScalarAt}
use Rattle.steps_structs.specs.declared.known.KnownStruct.{KnownStruct}
use Rattle.steps_structs.specs.Scalars.{few}

-- ---- structs

-- one struct more, whose number is how many there are before it
abbrev pub with_known : Types → List StructType → KnownStruct → List StructType
with_known table before k = record { number = length before; members = map (type_at table) k.members } ∷ before

-- the structs, the latest first
abbrev pub structs_known : Types → List KnownStruct → List StructType
structs_known table structs = fold (with_known table) [] structs

abbrev pub tags_known : List KnownStruct → List (List ℕ)
tags_known structs = map (λ (k : KnownStruct). k.tag) structs

abbrev pub members_ids : Option KnownStruct → List TypeId
members_ids None = []
members_ids (Some k) = k.members

abbrev pub names_known : List KnownStruct → List (List (List ℕ))
names_known structs = map (λ (k : KnownStruct). k.names) structs

-- ---- what is kept of them

abbrev pub kept : Option KnownStruct → Layout
kept None = no_layout
kept (Some k) = k.layout

abbrev pub scalars_kept : Option KnownStruct → Option (List ScalarAt)
scalars_kept None = Some []
scalars_kept (Some k) = k.scalars

-- the types of the members of one
abbrev pub members_kept : Types → Option KnownStruct → List CType
members_kept table None = []
members_kept table (Some k) = map (type_at table) k.members

abbrev pub HasKnown : Types → KnownStruct → Type 0
HasKnown table k = All (IsIn table) k.members

-- each struct is kept with its layout, its scalars and its members, whose types are in the table
pub record AreKnown (table : Types) (structs : List KnownStruct) : Type 0 where
  pub laid : (number : ℕ) → layout_of_struct (structs_known table structs) number ≡ kept (slice_get structs number)
  pub scalars : (number : ℕ) → scalars_kept (slice_get structs number) ≡ few (scalars_of_struct (structs_known table structs) number)
  pub types : (number : ℕ) → members_of (structs_known table structs) number ≡ members_kept table (slice_get structs number)
  pub members : All (HasKnown table) structs

-- the layout that members of these types make
abbrev pub laid_by : List StructType → List CType → Layout
laid_by structs members = struct_layout (map (layout_of structs) members)

-- the scalars of members that stand one behind another, the first at the first byte that is free
abbrev pub scalars_from : List StructType → (free : ℕ) → List CType → List Scalar
scalars_from structs free members = joined_at (offsets_from free (map (layout_of structs) members)) (map (scalars_of structs) members)

-- a struct with these members behind others
abbrev pub declared : Types → List KnownStruct → (tag : List ℕ) → List Decl → List TypeId → KnownStruct
declared table before tag decls members = record {
  tag = tag;
  names = map (λ (d : Decl). d.name) decls;
  members = members;
  layout = laid_by (structs_known table before) (map (type_at table) members);
  scalars = few (scalars_from (structs_known table before) 0 (map (type_at table) members));
}

-- how deep a type's arrays are nested
abbrev pub depth : CType → ℕ
depth Void = 0
depth (Int kind) = 0
depth (Pointer target) = 0
depth (Array element count) = depth element + 1
depth (Struct number) = 0

-- ---- members

-- members of these types with their places, the first at the first byte that is free and has its alignment
abbrev pub parts_from : Types → List StructType → (free : ℕ) → List TypeId → List Part
parts_from table structs free [] = []
parts_from table structs free (m ∷ ms) = let layout = layout_of structs (type_at table m) in let offset = next_multiple free layout.align in
    record { kind = m; offset = offset } ∷ parts_from table structs (offset + layout.size) ms
