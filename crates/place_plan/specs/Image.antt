-- The bytes of a source's data: zeros where the globals stand that it defines, with each initialiser written where its global stands; and its text
-- literals behind them.
use Rattle.std.specs.Prelude.{ℕ, Bool, true, false, List, [], ◌∷◌, ◌++◌, replicate, slice_get, slice_index, Option, None, Some}
use Rattle.c_tree.specs.declared.tree.Init.{Init}
use Rattle.c_tree.specs.declared.tree.Item.{Item}
use Rattle.c_tree.specs.declared.tree.ItemKind.{ItemKind}
use Rattle.c_tree.specs.declared.tree.ItemKind.TheVariants as k
use Rattle.c_types.specs.Types.{CType, StructType}
use Rattle.place_plan.specs.Data.{Global, offsets_from, globals_end}
use Rattle.place_plan.specs.Initialisers.{Filled, filled, first, rest, Part, part_filled, fills}

-- the data so far, and the numbers of the globals that the declarations declare which are left
pub record Laid : Type 0 where
  pub so_far : Filled
  pub numbers : List ℕ

abbrev pub laid : Filled → (numbers : List ℕ) → Laid
laid so_far numbers = record { so_far = so_far; numbers = numbers }

-- where a global stands that the source defines
abbrev pub defined_at : (defined : Bool) → CType → (offset : ℕ) → Option Part
defined_at true type offset = Some (record { type = type; offset = offset })
defined_at false type offset = None

abbrev pub global_at : Option Global → (offset : ℕ) → Option Part
global_at None offset = None
global_at (Some g) offset = defined_at g.defined g.type offset

abbrev pub target_of : List Global → (offsets : List ℕ) → (number : ℕ) → Option Part
target_of globals offsets number = global_at (slice_get globals number) (slice_index offsets number)

abbrev pub init_laid : List StructType → Option Part → Option Init → Filled → Filled
init_laid structs target None f = f
init_laid structs target (Some init) f = part_filled target 0 (fills structs init) f

-- an item, and items one after another
abbrev pub kind_laid : List StructType → List Global → (offsets : List ℕ) → ItemKind → Laid → Laid
kind_laid structs globals offsets (k.Struct tag members) l = l
kind_laid structs globals offsets (k.Var external decl init) l = laid (init_laid structs (target_of globals offsets (first l.numbers)) init l.so_far) (rest l.numbers)
kind_laid structs globals offsets (k.Fun decl params body) l = l

abbrev pub items_laid : List StructType → List Global → (offsets : List ℕ) → List Item → Laid → Laid
items_laid structs globals offsets [] l = l
items_laid structs globals offsets (x ∷ more) l = items_laid structs globals offsets more (kind_laid structs globals offsets x.kind l)

-- the bytes of the globals, and the literals behind them
abbrev pub globals_laid : List StructType → List Global → (numbers constants : List ℕ) → List Item → List ℕ
globals_laid structs globals numbers constants items = (items_laid structs globals (offsets_from structs 0 globals) items (laid (filled (replicate (globals_end structs 0 globals) 0) constants) numbers)).so_far.bytes

abbrev pub image_of : List StructType → List Global → (numbers constants literals : List ℕ) → List Item → List ℕ
image_of structs globals numbers constants literals items = globals_laid structs globals numbers constants items ++ literals
