-- The laws of sizes, alignments and offsets.
use Rattle.std.proofs.Common.{◌≡◌, ℕ, ◌+◌, ◌-◌, ◌*◌, ◌/◌, ◌%◌, ◌<◌, ◌≤◌, Bool, true, false, eqb, cond, List, [], ◌∷◌, map, length, get_or, zero, suc, refl, ap, sym, ◌∙◌, subst, arith, Option}
use Rattle.std.proofs.Math.Nat.{lt-div-mul-add, mul-mod_left, div-add-mod, mul_assoc, mul-mod_right}
use Rattle.std.proofs.lemmas.List.{length-map}
use Rattle.std.specs.List.{AllByRecursion}
use Rattle.mx_base.specs.declared.numbers.IntKind.{IntKind}
use Rattle.mx_base.specs.declared.numbers.IntKind.TheVariants.{I8, U8, I16, U16, I32, U32, I64, U64}
use Rattle.c_types.specs.declared.shape.TypeId.{TypeId}
use Rattle.c_types.specs.declared.layout.Layout.{Layout}
use Rattle.c_types.specs.declared.layout.StructLayout.{StructLayout}
use Rattle.c_types.specs.Types.{CType, Void, Int, Pointer, Array, Struct, StructType, Types, type_at, structs_of, is_ended, members_at, members_in, has_size, HasSize}
use Rattle.c_types.specs.Layouts.{width, next_multiple, offsets_from, end_from, widest, struct_layout, layout_by, layout_of, layout_of_struct, layout_at, member_layouts, member_layout, no_layout, offset_of, size_of}
use Rattle.c_types.specs.Sound.{IsSound}
use Rattle.c_types.proofs.LayoutLemmas.{IsAligned, all-layouts-aligned, widest-aligned, struct-laid}
use Rattle.c_types.proofs.Laying.{ended-of-member}

next-multiple : (n align : ℕ) → next_multiple n align % align ≡ 0
next-multiple n align = mul-mod_left ((n + (align - 1)) / align) align

next-enough : (n align : ℕ) → 1 ≤ align → n ≤ next_multiple n align
next-enough n align some = let positive : 0 < align = some in omega (arith, lt-div-mul-add {a = n + (align - 1)} {b = align} positive)

-- ---- members in order
first-past : (free : ℕ) (ms : List Layout) (i : ℕ) → AllByRecursion IsAligned ms → i < length ms → free ≤ get_or (offsets_from free ms) i 0
first-past free [] i all h = absurd (omega arith)
first-past free (m ∷ ms) zero all h = next-enough free m.align all.0.some
first-past free (m ∷ ms) (suc i) all h =
    let lt : i < length ms = omega arith in
    omega (arith, next-enough free m.align all.0.some, first-past (next_multiple free m.align + m.size) ms i all.1 lt)

pub in-order : (free : ℕ) (ms : List Layout) (i j : ℕ) → AllByRecursion IsAligned ms → i < j → j < length ms
    → get_or (offsets_from free ms) i 0 + (get_or ms i no_layout).size ≤ get_or (offsets_from free ms) j 0
in-order free [] i j all lt h = absurd (omega arith)
in-order free (m ∷ ms) i zero all lt h = absurd (omega arith)
in-order free (m ∷ ms) zero (suc j) all lt h = let below : j < length ms = omega arith in first-past (next_multiple free m.align + m.size) ms j all.1 below
in-order free (m ∷ ms) (suc i) (suc j) all lt h =
    let below : j < length ms = omega arith in
    let before : i < j = omega arith in
    in-order (next_multiple free m.align + m.size) ms i j all.1 before below

pub aligned-at : (free : ℕ) (ms : List Layout) (i : ℕ) → i < length ms → get_or (offsets_from free ms) i 0 % (get_or ms i no_layout).align ≡ 0
aligned-at free [] i h = absurd (omega arith)
aligned-at free (m ∷ ms) zero h = next-multiple free m.align
aligned-at free (m ∷ ms) (suc i) h = let below : i < length ms = omega arith in aligned-at (next_multiple free m.align + m.size) ms i below

end-past : (free : ℕ) (ms : List Layout) → AllByRecursion IsAligned ms → free ≤ end_from free ms
end-past free [] all = omega arith
end-past free (m ∷ ms) all = omega (arith, next-enough free m.align all.0.some, end-past (next_multiple free m.align + m.size) ms all.1)

before-end : (free : ℕ) (ms : List Layout) (i : ℕ) → AllByRecursion IsAligned ms → i < length ms → get_or (offsets_from free ms) i 0 + (get_or ms i no_layout).size ≤ end_from free ms
before-end free [] i all h = absurd (omega arith)
before-end free (m ∷ ms) zero all h = end-past (next_multiple free m.align + m.size) ms all.1
before-end free (m ∷ ms) (suc i) all h = let below : i < length ms = omega arith in before-end (next_multiple free m.align + m.size) ms i all.1 below

within-struct : (ms : List Layout) (i : ℕ) → AllByRecursion IsAligned ms → i < length ms → get_or (offsets_from 0 ms) i 0 + (get_or ms i no_layout).size ≤ (struct_layout ms).size
within-struct ms i all h = omega (arith, before-end 0 ms i all h, next-enough (end_from 0 ms) (widest ms) (widest-aligned ms all).0)

members-aligned : (table : Types) (t : TypeId) → AllByRecursion IsAligned (member_layouts table t)
members-aligned table t = all-layouts-aligned (structs_of table) (members_at table t)

members-counted : (table : Types) (t : TypeId) (n : ℕ) → n < length (members_at table t) → n < length (member_layouts table t)
members-counted table t n h = omega (arith, length-map (members_at table t) (layout_of (structs_of table)))

pub members-apart : (table : Types) (t : TypeId) (i j : ℕ) → i < j → j < length (members_at table t) → offset_of table t i + (member_layout table t i).size ≤ offset_of table t j
members-apart table t i j lt h = in-order 0 (member_layouts table t) i j (members-aligned table t) lt (members-counted table t j h)

pub members-at-multiples : (table : Types) (t : TypeId) (i : ℕ) → i < length (members_at table t) → offset_of table t i % (member_layout table t i).align ≡ 0
members-at-multiples table t i h = aligned-at 0 (member_layouts table t) i (members-counted table t i h)

-- ---- sizes are multiples of alignments
IsMultiple : Layout → Type 0
IsMultiple l = l.size % l.align ≡ 0

width-multiple : (kind : IntKind) → width kind % width kind ≡ 0
width-multiple I8 = refl
width-multiple U8 = refl
width-multiple I16 = refl
width-multiple U16 = refl
width-multiple I32 = refl
width-multiple U32 = refl
width-multiple I64 = refl
width-multiple U64 = refl

times-multiple : (n align count : ℕ) → n % align ≡ 0 → (n * count) % align ≡ 0
times-multiple n align count h =
    let whole : n ≡ align * (n / align) = omega (arith, div-add-mod n align) in
    ap (λ k. k * count % align) whole ∙ ap (λ k. k % align) (mul_assoc align (n / align) count) ∙ mul-mod_right align (n / align * count)

by-multiple : (of_struct : ℕ → Layout) → ((n : ℕ) → IsMultiple (of_struct n)) → (c : CType) → IsMultiple (layout_by of_struct c)
unfolding IsMultiple
by-multiple of_struct all Void = refl
by-multiple of_struct all (Int kind) = width-multiple kind
by-multiple of_struct all (Pointer target) = refl
by-multiple of_struct all (Array element count) = times-multiple (layout_by of_struct element).size (layout_by of_struct element).align count (by-multiple of_struct all element)
by-multiple of_struct all (Struct number) = all number

struct-multiple : (structs : List StructType) (number : ℕ) → IsMultiple (layout_of_struct structs number)
unfolding IsMultiple
struct-multiple [] number = refl
struct-multiple (e ∷ earlier) number = by (eqb e.number number) (struct-multiple earlier number)
  where
    by : (b : Bool) → IsMultiple (layout_of_struct earlier number) → IsMultiple (cond b (struct_layout (map (layout_of earlier) e.members)) (layout_of_struct earlier number))
    by true rest = next-multiple (end_from 0 (map (layout_of earlier) e.members)) (widest (map (layout_of earlier) e.members))
    by false rest = rest

pub size-multiple : (structs : List StructType) (c : CType) → (layout_of structs c).size % (layout_of structs c).align ≡ 0
unfolding IsMultiple
size-multiple structs c = by-multiple (layout_of_struct structs) (struct-multiple structs) c

-- ---- structs of a sound table
module _ (table : Types) (kept : List Layout) (structs : List (Option StructLayout)) (sound : IsSound table kept structs) where
  pub by-members : (t : TypeId) (number : ℕ) → type_at table t ≡ Struct number → HasSize table t → layout_at table t ≡ struct_layout (member_layouts table t)
  by-members t number is has =
      let there : is_ended (structs_of table) number ≡ true = sym (ap (has_size (structs_of table)) is) ∙ has in
      ap (layout_of (structs_of table)) is ∙ struct-laid (structs_of table) number sound.ended there
      ∙ ap (λ c. struct_layout (map (layout_of (structs_of table)) (members_in (structs_of table) c))) (sym is)

  is-struct : (t : TypeId) (member : ℕ) → member < length (members_at table t) → layout_at table t ≡ struct_layout (member_layouts table t)
  is-struct t member h = by (type_at table t) refl h
    where
      by : (c : CType) → type_at table t ≡ c → member < length (members_in (structs_of table) c) → layout_at table t ≡ struct_layout (member_layouts table t)
      by Void is h = absurd (omega arith)
      by (Int kind) is h = absurd (omega arith)
      by (Pointer target) is h = absurd (omega arith)
      by (Array element count) is h = absurd (omega arith)
      by (Struct number) is h = by-members t number is (ap (has_size (structs_of table)) is ∙ ended-of-member (structs_of table) number member h)

  pub members-within : (t : TypeId) (member : ℕ) → member < length (members_at table t) → offset_of table t member + (member_layout table t member).size ≤ size_of table t
  members-within t member h =
      subst (λ (l : Layout). offset_of table t member + (member_layout table t member).size ≤ l.size) (sym (is-struct t member h))
      (within-struct (member_layouts table t) member (members-aligned table t) (members-counted table t member h))
