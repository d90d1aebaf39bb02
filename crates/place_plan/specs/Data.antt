-- Where the globals of a source stand that it defines: in order of declaration, each at the next multiple of its alignment. Its text literals stand
-- behind them.
use Rattle.std.specs.Prelude.{ℕ, ◌+◌, Bool, true, false, List, [], ◌∷◌}
use Rattle.c_types.specs.declared.layout.Layout.{Layout}
use Rattle.c_types.specs.Types.{CType, StructType}
use Rattle.c_types.specs.Layouts.{next_multiple, layout_of}

-- a global by its first declaration: its type, and whether the source defines it
pub record Global : Type 0 where
  pub type : CType
  pub defined : Bool

abbrev pub global : CType → (defined : Bool) → Global
global type defined = record { type = type; defined = defined }

-- one that the source doesn't define has no bytes there
abbrev pub offset_at : (defined : Bool) → Layout → (free : ℕ) → ℕ
offset_at true layout free = next_multiple free layout.align
offset_at false layout free = 0

abbrev pub end_after : (defined : Bool) → Layout → (free : ℕ) → ℕ
end_after true layout free = next_multiple free layout.align + layout.size
end_after false layout free = free

-- where each global stands, and the first byte after all
abbrev pub offsets_from : List StructType → (free : ℕ) → List Global → List ℕ
offsets_from structs free [] = []
offsets_from structs free (g ∷ more) = offset_at g.defined (layout_of structs g.type) free ∷ offsets_from structs (end_after g.defined (layout_of structs g.type) free) more

abbrev pub globals_end : List StructType → (free : ℕ) → List Global → ℕ
globals_end structs free [] = free
globals_end structs free (g ∷ more) = globals_end structs (end_after g.defined (layout_of structs g.type) free) more
