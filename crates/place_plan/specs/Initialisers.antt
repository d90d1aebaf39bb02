-- The bytes of initialisers, by the types that they fill. An integer has the low bytes of its constant, the lowest first; a pointer is 0; an array of
-- `char` takes the bytes of a text; the parts of a list in braces fill the elements or members in order, each where it stands. They are written over
-- zeros, so that what no initialiser says, between members and behind a text or a list, is 0 (C: 6.7.9).
use Rattle.std.specs.Prelude.{ℕ, ◌+◌, ◌*◌, nat_lt, Bool, true, false, if◌then◌else◌, List, [], ◌∷◌, ◌++◌, map, length, take, drop, slice_get, slice_index, Option, None, Some}
use Rattle.std.specs.Int.{w64, to_le_bytes}
use Rattle.mx_base.specs.declared.numbers.IntKind.{IntKind}
use Rattle.mx_base.specs.declared.numbers.IntKind.TheVariants.{I8, U8, I16, U16, I32, U32, I64, U64}
use Rattle.c_tree.specs.declared.tree.Expr.{Expr, fold-Expr}
use Rattle.c_tree.specs.declared.tree.ExprKind.{ExprKind-F}
use Rattle.c_tree.specs.declared.tree.ExprKind.TheOpen as e
use Rattle.c_tree.specs.declared.tree.Init.{Init, fold-Init}
use Rattle.c_tree.specs.declared.tree.InitKind.{InitKind-F}
use Rattle.c_tree.specs.declared.tree.InitKind.TheOpen as i
use Rattle.c_types.specs.Types.{CType, Void, Int, Pointer, Array, Struct, StructType, members_of}
use Rattle.c_types.specs.Layouts.{width, layout_of, offsets_from}

-- the bytes so far, and the constants that are left
pub record Filled : Type 0 where
  pub bytes : List ℕ
  pub left : List ℕ

abbrev pub filled : (bytes left : List ℕ) → Filled
filled bytes left = record { bytes = bytes; left = left }

abbrev pub first : List ℕ → ℕ
first [] = 0
first (x ∷ more) = x

abbrev pub rest : List ℕ → List ℕ
rest [] = []
rest (x ∷ more) = more

-- these bytes in place of those from a byte on
unfoldable pub written : (at : ℕ) → (new : List ℕ) → List ℕ → List ℕ
written at new bytes = take at bytes ++ (new ++ drop (at + length new) bytes)

-- ---- one expression

-- the low bytes of a word, the lowest first
unfoldable pub low_bytes : IntKind → (word : ℕ) → List ℕ
low_bytes kind word = take (width kind) (to_le_bytes w64 word)

-- the bytes of a text, without the byte 0 at its end; None of what is no text
abbrev pub text_step : ExprKind-F (Option (List ℕ)) (Option (List ℕ)) → Option (List ℕ)
text_step (e.Text bytes) = Some bytes
text_step x = None

abbrev pub text_of : Expr → Option (List ℕ)
text_of = fold-Expr (Option (List ℕ)) (Option (List ℕ)) text_step (λ x. x.kind)

abbrev pub is_char : CType → Bool
is_char Void = false
is_char (Int I8) = true
is_char (Int U8) = false
is_char (Int I16) = false
is_char (Int U16) = false
is_char (Int I32) = false
is_char (Int U32) = false
is_char (Int I64) = false
is_char (Int U64) = false
is_char (Pointer target) = false
is_char (Array element count) = false
is_char (Struct number) = false

-- a text in an array of so many elements
abbrev pub text_filled : (at count : ℕ) → Option (List ℕ) → List ℕ → List ℕ
text_filled at count None bytes = bytes
text_filled at count (Some text) bytes = written at (take count text) bytes

abbrev pub array_filled : (is_char : Bool) → (at count : ℕ) → Option (List ℕ) → List ℕ → List ℕ
array_filled true at count text bytes = text_filled at count text bytes
array_filled false at count text bytes = bytes

abbrev pub integer_filled : IntKind → (at : ℕ) → Filled → Filled
integer_filled kind at f = filled (written at (low_bytes kind (first f.left)) f.bytes) (rest f.left)

abbrev pub one_filled : CType → (at : ℕ) → Option (List ℕ) → Filled → Filled
one_filled Void at text f = f
one_filled (Int kind) at text f = integer_filled kind at f
one_filled (Pointer target) at text f = f
one_filled (Array element count) at text f = filled (array_filled (is_char element) at count text f.bytes) f.left
one_filled (Struct number) at text f = f

-- ---- a list in braces

-- a part of an array or struct: its type, and how many bytes from the front it begins
pub record Part : Type 0 where
  pub type : CType
  pub offset : ℕ

abbrev pub element_at : List StructType → CType → (count at : ℕ) → Option Part
element_at structs element count at = if nat_lt at count then Some (record { type = element; offset = (layout_of structs element).size * at }) else None

abbrev pub member_part : Option CType → (offset : ℕ) → Option Part
member_part None offset = None
member_part (Some type) offset = Some (record { type = type; offset = offset })

abbrev pub member_at : List StructType → (number at : ℕ) → Option Part
member_at structs number at = member_part (slice_get (members_of structs number) at) (slice_index (offsets_from 0 (map (layout_of structs) (members_of structs number))) at)

-- the part of this place; None where the type has no such part
abbrev pub part_of : List StructType → CType → (at : ℕ) → Option Part
part_of structs Void at = None
part_of structs (Int kind) at = None
part_of structs (Pointer target) at = None
part_of structs (Array element count) at = element_at structs element count at
part_of structs (Struct number) at = member_at structs number at

-- what is written, by the type that is filled and where it stands
abbrev pub Filling : Type 0
Filling = CType → (at : ℕ) → Filled → Filled

abbrev pub part_filled : Option Part → (at : ℕ) → Filling → Filled → Filled
part_filled None at x f = f
part_filled (Some p) at x f = x p.type (at + p.offset) f

-- the parts of a list, the first of which has this place
abbrev pub parts_filled : List StructType → CType → (at place : ℕ) → List Filling → Filled → Filled
parts_filled structs type at place [] f = f
parts_filled structs type at place (x ∷ more) f = parts_filled structs type at (place + 1) more (part_filled (part_of structs type place) at x f)

-- ---- initialisers

abbrev pub init_step : List StructType → InitKind-F Filling Filling → Filling
init_step structs (i.One x) type at f = one_filled type at (text_of x) f
init_step structs (i.Many all) type at f = parts_filled structs type at 0 all f

abbrev pub fills : List StructType → Init → Filling
fills structs = fold-Init Filling Filling (init_step structs) (λ x. x.kind)
