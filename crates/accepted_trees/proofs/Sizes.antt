-- Types within the limits have small sizes, and their scalars small offsets.
use Rattle.std.proofs.Common.{◌≡◌, ℕ, zero, suc, ◌+◌, ◌-◌, ◌*◌, ◌^◌, ◌≤◌, ◌<◌, ◌==◌, Bool, true, false, List, [], ◌∷◌, ◌++◌, map, if◌then◌else◌, arith}
use Rattle.std.proofs.Math.Nat.{lt-div-mul-add, mul-suc}
use Rattle.mx_base.specs.declared.numbers.IntKind.{IntKind}
use Rattle.mx_base.specs.declared.numbers.IntKind.TheVariants.{I8, U8, I16, U16, I32, U32, I64, U64}
use Rattle.c_types.specs.declared.layout.Layout.{Layout}
use Rattle.c_types.specs.Types.{CType, Void, Int, Pointer, Array, Struct, StructType}
use Rattle.c_types.specs.Layouts.{width, next_multiple, offsets_from, end_from, widest, struct_layout, layout_by, layout_of_struct}
use Rattle.bounds_plan.specs.meaning.Core.{Scalar}
use Rattle.bounds_plan.specs.laws.Laws.{most_bytes}
use Rattle.bounds_plan.specs.elaboration.Scalars.{scalar_at, repeated, joined_at, scalars_by, scalars_of_struct, scalars_of}
use Rattle.bounds_plan.specs.elaboration.Types.{target_of, size_in, step_in}
use Rattle.asked_steps.specs.Trees.{ScalarsWithin}
use Rattle.accepted_trees.specs.Limits.{TypeWithin}

-- ---- sizes

width_small : (kind : IntKind) → width kind ≤ 8
width_small I8 = omega arith
width_small U8 = omega arith
width_small I16 = omega arith
width_small U16 = omega arith
width_small I32 = omega arith
width_small U32 = omega arith
width_small I64 = omega arith
width_small U64 = omega arith

pub size_small : (structs : List StructType) (t : CType) → TypeWithin structs t → size_in structs t ≤ most_bytes
size_small structs Void h = omega arith
size_small structs (Int kind) h = let le = width_small kind in omega (arith, le)
size_small structs (Pointer target) h = omega arith
size_small structs (Array element count) h = h.1.1
size_small structs (Struct number) h = h.1

pub target_within : (structs : List StructType) (t : CType) → TypeWithin structs t → TypeWithin structs (target_of t)
target_within structs Void h = tt
target_within structs (Int kind) h = tt
target_within structs (Pointer target) h = h
target_within structs (Array element count) h = h.0
target_within structs (Struct number) h = tt

pub size_word : (structs : List StructType) (t : CType) → TypeWithin structs t → size_in structs t < 2 ^ 64
size_word structs t h = let le = size_small structs t h in omega (arith, le)

pub step_word : (structs : List StructType) (t : CType) → TypeWithin structs t → step_in structs t < 2 ^ 64
step_word structs t h = size_word structs (target_of t) (target_within structs t h)

-- ---- alignments are at least 1

pub next_enough : (n align : ℕ) → 1 ≤ align → n ≤ next_multiple n align
next_enough n align some = let positive : 0 < align = some in omega (arith, lt-div-mul-add {a = n + (align - 1)} {b = align} positive)

pub width_some : (kind : IntKind) → 1 ≤ width kind
width_some I8 = omega arith
width_some U8 = omega arith
width_some I16 = omega arith
width_some U16 = omega arith
width_some I32 = omega arith
width_some U32 = omega arith
width_some I64 = omega arith
width_some U64 = omega arith

pub by_some : (laid : ℕ → Layout) → ((n : ℕ) → 1 ≤ (laid n).align) → (t : CType) → 1 ≤ (layout_by laid t).align
by_some laid some Void = omega arith
by_some laid some (Int kind) = width_some kind
by_some laid some (Pointer target) = omega arith
by_some laid some (Array element count) = by_some laid some element
by_some laid some (Struct number) = some number

pub widest_some : (ms : List Layout) → 1 ≤ widest ms
widest_some [] = omega arith
widest_some (m ∷ ms) = omega (arith, widest_some ms)

either_some : (b : Bool) (x y : Layout) → 1 ≤ x.align → 1 ≤ y.align → 1 ≤ (if b then x else y).align
either_some true x y h k = h
either_some false x y h k = k

pub struct_some : (structs : List StructType) (n : ℕ) → 1 ≤ (layout_of_struct structs n).align
struct_some [] n = omega arith
struct_some (e ∷ earlier) n = either_some (e.number == n) (struct_layout (map (layout_by (layout_of_struct earlier)) e.members)) (layout_of_struct earlier n) (widest_some (map (layout_by (layout_of_struct earlier)) e.members)) (struct_some earlier n)

-- ---- scalars begin within their type

-- they begin no further from its front
abbrev pub BeginBy : ℕ → List Scalar → Type 0
BeginBy most [] = Unit {0}
BeginBy most (x ∷ rest) = (x.offset ≤ most) × BeginBy most rest

shifted_begin : (o n m : ℕ) (xs : List Scalar) → o + n ≤ m → BeginBy n xs → BeginBy m (map (scalar_at o) xs)
shifted_begin o n m [] le h = tt
shifted_begin o n m (x ∷ xs) le h = let a = h.0 in (omega (arith, a, le), shifted_begin o n m xs le h.1)

append_begin : (n : ℕ) (xs ys : List Scalar) → BeginBy n xs → BeginBy n ys → BeginBy n (xs ++ ys)
append_begin n [] ys h k = k
append_begin n (x ∷ xs) ys h k = (h.0, append_begin n xs ys h.1 k)

repeated_begin : (count o size m : ℕ) (xs : List Scalar) → BeginBy size xs → o + size * count ≤ m → BeginBy m (repeated count o size xs)
repeated_begin zero o size m xs h le = tt
repeated_begin (suc n) o size m xs h le = let e : size * suc n ≡ size * n + size = mul-suc size n in
    append_begin m (map (scalar_at o) xs) (repeated n (o + size) size xs) (shifted_begin o size m xs (omega (arith, e, le)) h) (repeated_begin n (o + size) size m xs h (omega (arith, e, le)))

pub end_grows : (laid : ℕ → Layout) → ((n : ℕ) → 1 ≤ (laid n).align) → (free : ℕ) (ts : List CType) → free ≤ end_from free (map (layout_by laid) ts)
end_grows laid some free [] = omega arith
end_grows laid some free (t ∷ ts) = omega (arith, next_enough free (layout_by laid t).align (by_some laid some t), end_grows laid some (next_multiple free (layout_by laid t).align + (layout_by laid t).size) ts)

module _ (laid : ℕ → Layout) (of_struct : ℕ → List Scalar) (some : (n : ℕ) → 1 ≤ (laid n).align) (begin : (n : ℕ) → BeginBy (laid n).size (of_struct n)) where
  by_begin : (t : CType) → BeginBy (layout_by laid t).size (scalars_by laid of_struct t)
  by_begin Void = tt
  by_begin (Int kind) = (omega arith, tt)
  by_begin (Pointer target) = (omega arith, tt)
  by_begin (Array element count) = repeated_begin count 0 (layout_by laid element).size ((layout_by laid element).size * count) (scalars_by laid of_struct element) (by_begin element) (omega arith)
  by_begin (Struct number) = begin number

  joined_begin : (ts : List CType) (free m : ℕ) → end_from free (map (layout_by laid) ts) ≤ m → BeginBy m (joined_at (offsets_from free (map (layout_by laid) ts)) (map (scalars_by laid of_struct) ts))
  joined_begin [] free m le = tt
  joined_begin (t ∷ ts) free m le = let o = next_multiple free (layout_by laid t).align in let size = (layout_by laid t).size in let g = end_grows laid some (o + size) ts in
      append_begin m (map (scalar_at o) (scalars_by laid of_struct t)) (joined_at (offsets_from (o + size) (map (layout_by laid) ts)) (map (scalars_by laid of_struct) ts))
      (shifted_begin o size m (scalars_by laid of_struct t) (omega (arith, g, le)) (by_begin t)) (joined_begin ts (o + size) m le)

either_begin : (b : Bool) (x y : Layout) (xs ys : List Scalar) → BeginBy x.size xs → BeginBy y.size ys → BeginBy (if b then x else y).size (if b then xs else ys)
either_begin true x y xs ys h k = h
either_begin false x y xs ys h k = k

struct_begin : (structs : List StructType) (n : ℕ) → BeginBy (layout_of_struct structs n).size (scalars_of_struct structs n)
struct_begin [] n = tt
struct_begin (e ∷ earlier) n = let laid = layout_of_struct earlier in let ms = map (layout_by laid) e.members in
    either_begin (e.number == n) (struct_layout ms) (laid n) _ _
    (joined_begin laid (scalars_of_struct earlier) (struct_some earlier) (struct_begin earlier) e.members 0 (struct_layout ms).size (next_enough (end_from 0 ms) (widest ms) (widest_some ms)))
    (struct_begin earlier n)

pub scalars_begin : (structs : List StructType) (t : CType) → BeginBy (size_in structs t) (scalars_of structs t)
scalars_begin structs t = by_begin (layout_of_struct structs) (scalars_of_struct structs) (struct_some structs) (struct_begin structs) t

begin_within : (most : ℕ) (xs : List Scalar) → most ≤ most_bytes → BeginBy most xs → ScalarsWithin xs
begin_within most [] le h = tt
begin_within most (x ∷ xs) le h = let a = h.0 in (omega (arith, a, le), begin_within most xs le h.1)

pub scalars_within : (structs : List StructType) (t : CType) → TypeWithin structs t → ScalarsWithin (scalars_of structs t)
scalars_within structs t h = begin_within (size_in structs t) (scalars_of structs t) (size_small structs t h) (scalars_begin structs t)
