-- The scalars of a type lie inside it.
use Rattle.std.proofs.Common.{◌≡◌, ℕ, zero, suc, ◌+◌, ◌-◌, ◌*◌, ◌≤◌, ◌<◌, ◌==◌, Bool, true, false, List, [], ◌∷◌, ◌++◌, map, if◌then◌else◌, arith}
use Rattle.std.proofs.Math.Nat.{lt-div-mul-add, mul-suc}
use Rattle.std.specs.Prelude.{Some}
use Rattle.mx_base.specs.declared.numbers.IntKind.{IntKind}
use Rattle.mx_base.specs.declared.numbers.IntKind.TheVariants.{I8, U8, I16, U16, I32, U32, I64, U64}
use Rattle.c_types.specs.declared.layout.Layout.{Layout}
use Rattle.c_types.specs.Types.{CType, Void, Int, Pointer, Array, Struct, StructType}
use Rattle.c_types.specs.Layouts.{width, next_multiple, offsets_from, end_from, widest, struct_layout, layout_by, layout_of_struct, layout_of}
use Rattle.bounds_plan.specs.meaning.Core.{Scalar}
use Rattle.bounds_plan.specs.laws.Laws.{scalar_size, AllInside}
use Rattle.bounds_plan.specs.elaboration.Scalars.{scalar_at, repeated, joined_at, scalars_by, scalars_of_struct, scalars_of}

next_enough : (n align : ℕ) → 1 ≤ align → n ≤ next_multiple n align
next_enough n align some = let positive : 0 < align = some in omega (arith, lt-div-mul-add {a = n + (align - 1)} {b = align} positive)

-- ---- alignments are at least 1

width_some : (kind : IntKind) → 1 ≤ width kind
width_some I8 = omega arith
width_some U8 = omega arith
width_some I16 = omega arith
width_some U16 = omega arith
width_some I32 = omega arith
width_some U32 = omega arith
width_some I64 = omega arith
width_some U64 = omega arith

by_some : (laid : ℕ → Layout) → ((n : ℕ) → 1 ≤ (laid n).align) → (t : CType) → 1 ≤ (layout_by laid t).align
by_some laid some Void = omega arith
by_some laid some (Int kind) = width_some kind
by_some laid some (Pointer target) = omega arith
by_some laid some (Array element count) = by_some laid some element
by_some laid some (Struct number) = some number

widest_some : (ms : List Layout) → 1 ≤ widest ms
widest_some [] = omega arith
widest_some (m ∷ ms) = omega (arith, widest_some ms)

either_some : (b : Bool) (x y : Layout) → 1 ≤ x.align → 1 ≤ y.align → 1 ≤ (if b then x else y).align
either_some true x y h k = h
either_some false x y h k = k

struct_some : (structs : List StructType) (n : ℕ) → 1 ≤ (layout_of_struct structs n).align
struct_some [] n = omega arith
struct_some (e ∷ earlier) n = either_some (e.number == n) (struct_layout (map (layout_by (layout_of_struct earlier)) e.members)) (layout_of_struct earlier n) (widest_some (map (layout_by (layout_of_struct earlier)) e.members)) (struct_some earlier n)

-- ---- scalars inside

inside_more : (n m : ℕ) (xs : List Scalar) → n ≤ m → AllInside n xs → AllInside m xs
inside_more n m [] le h = tt
inside_more n m (x ∷ xs) le h = let a = h.0 in (omega arith, inside_more n m xs le h.1)

shifted_inside : (o n m : ℕ) (xs : List Scalar) → o + n ≤ m → AllInside n xs → AllInside m (map (scalar_at o) xs)
shifted_inside o n m [] le h = tt
shifted_inside o n m (x ∷ xs) le h = let a = h.0 in (omega arith, shifted_inside o n m xs le h.1)

append_inside : (n : ℕ) (xs ys : List Scalar) → AllInside n xs → AllInside n ys → AllInside n (xs ++ ys)
append_inside n [] ys h k = k
append_inside n (x ∷ xs) ys h k = (h.0, append_inside n xs ys h.1 k)

repeated_inside : (count o size m : ℕ) (xs : List Scalar) → AllInside size xs → o + size * count ≤ m → AllInside m (repeated count o size xs)
repeated_inside zero o size m xs h le = tt
repeated_inside (suc n) o size m xs h le = let e : size * suc n ≡ size * n + size = mul-suc size n in
    append_inside m (map (scalar_at o) xs) (repeated n (o + size) size xs) (shifted_inside o size m xs (omega arith) h) (repeated_inside n (o + size) size m xs h (omega arith))

end_grows : (laid : ℕ → Layout) → ((n : ℕ) → 1 ≤ (laid n).align) → (free : ℕ) (ts : List CType) → free ≤ end_from free (map (layout_by laid) ts)
end_grows laid some free [] = omega arith
end_grows laid some free (t ∷ ts) = omega (arith, next_enough free (layout_by laid t).align (by_some laid some t), end_grows laid some (next_multiple free (layout_by laid t).align + (layout_by laid t).size) ts)

kind_inside : (kind : IntKind) → 0 + scalar_size (Some kind) ≤ width kind
kind_inside I8 = omega arith
kind_inside U8 = omega arith
kind_inside I16 = omega arith
kind_inside U16 = omega arith
kind_inside I32 = omega arith
kind_inside U32 = omega arith
kind_inside I64 = omega arith
kind_inside U64 = omega arith

module _ (laid : ℕ → Layout) (of_struct : ℕ → List Scalar) (some : (n : ℕ) → 1 ≤ (laid n).align) (inside : (n : ℕ) → AllInside (laid n).size (of_struct n)) where
  by_inside : (t : CType) → AllInside (layout_by laid t).size (scalars_by laid of_struct t)
  by_inside Void = tt
  by_inside (Int kind) = (kind_inside kind, tt)
  by_inside (Pointer target) = (omega arith, tt)
  by_inside (Array element count) = repeated_inside count 0 (layout_by laid element).size ((layout_by laid element).size * count) (scalars_by laid of_struct element) (by_inside element) (omega arith)
  by_inside (Struct number) = inside number

  joined_inside : (ts : List CType) (free m : ℕ) → end_from free (map (layout_by laid) ts) ≤ m → AllInside m (joined_at (offsets_from free (map (layout_by laid) ts)) (map (scalars_by laid of_struct) ts))
  joined_inside [] free m le = tt
  joined_inside (t ∷ ts) free m le = let o = next_multiple free (layout_by laid t).align in let size = (layout_by laid t).size in let g = end_grows laid some (o + size) ts in
      append_inside m (map (scalar_at o) (scalars_by laid of_struct t)) (joined_at (offsets_from (o + size) (map (layout_by laid) ts)) (map (scalars_by laid of_struct) ts))
      (shifted_inside o size m (scalars_by laid of_struct t) (omega arith) (by_inside t)) (joined_inside ts (o + size) m le)

either_inside : (b : Bool) (x y : Layout) (xs ys : List Scalar) → AllInside x.size xs → AllInside y.size ys → AllInside (if b then x else y).size (if b then xs else ys)
either_inside true x y xs ys h k = h
either_inside false x y xs ys h k = k

struct_inside : (structs : List StructType) (n : ℕ) → AllInside (layout_of_struct structs n).size (scalars_of_struct structs n)
struct_inside [] n = tt
struct_inside (e ∷ earlier) n = let laid = layout_of_struct earlier in let ms = map (layout_by laid) e.members in
    either_inside (e.number == n) (struct_layout ms) (laid n) _ _
    (joined_inside laid (scalars_of_struct earlier) (struct_some earlier) (struct_inside earlier) e.members 0 (struct_layout ms).size (next_enough (end_from 0 ms) (widest ms) (widest_some ms)))
    (struct_inside earlier n)

pub scalars_inside : (structs : List StructType) (t : CType) → AllInside (layout_of structs t).size (scalars_of structs t)
scalars_inside structs t = by_inside (layout_of_struct structs) (scalars_of_struct structs) (struct_some structs) (struct_inside structs) t
