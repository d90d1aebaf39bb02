-- Where the globals of a source stand, by their numbers.
use Rattle.std.proofs.Common.{◌≡◌, ℕ, zero, suc, ◌+◌, ◌≤◌, ◌<◌, List, [], ◌∷◌, length, true, refl, ap, ◌∙◌, arith}
use Rattle.std.specs.Prelude.{Option, None, Some, IfSome, slice_get, slice_index_or}
use Rattle.c_types.specs.Types.{StructType, Types, structs_of}
use Rattle.c_types.specs.Layouts.{layout_of, size_of}
use Rattle.c_check.specs.declared.checked.GlobalVariable.{GlobalVariable}
use Rattle.place_plan.specs.declared.initialisers.Piece.{Piece}
use Rattle.place_plan.specs.Data.{Global, end_after, offsets_from}
use Rattle.place_plan.specs.Globals.{global_of, globals_of}

pub global_there : (table : Types) (globals : List GlobalVariable) (n : ℕ) (d : GlobalVariable) → n < length globals → slice_get (globals_of table globals) n ≡ Some (global_of table (slice_index_or globals n d))
global_there table [] n d lt = absurd (omega (arith, lt))
global_there table (g ∷ gs) zero d lt = refl
global_there table (g ∷ gs) (suc n) d lt = global_there table gs n d (omega (arith, lt))

pub global_missing : (table : Types) (globals : List GlobalVariable) (n : ℕ) → length globals ≤ n → slice_get (globals_of table globals) n ≡ None
global_missing table [] n le = refl
global_missing table (g ∷ gs) zero le = absurd (omega (arith, le))
global_missing table (g ∷ gs) (suc n) le = global_missing table gs n (omega (arith, le))

offsets_many : (structs : List StructType) (free : ℕ) (gs : List Global) → length (offsets_from structs free gs) ≡ length gs
offsets_many structs free [] = refl
offsets_many structs free (g ∷ gs) = ap suc (offsets_many structs (end_after g.defined (layout_of structs g.type) free) gs)

globals_many : (table : Types) (globals : List GlobalVariable) → length (globals_of table globals) ≡ length globals
globals_many table [] = refl
globals_many table (g ∷ gs) = ap suc (globals_many table gs)

pub as_many : (table : Types) (globals : List GlobalVariable) (offsets : List ℕ) → offsets ≡ offsets_from (structs_of table) 0 (globals_of table globals) → length offsets ≡ length globals
as_many table globals offsets same = ap length same ∙ (offsets_many (structs_of table) 0 (globals_of table globals) ∙ globals_many table globals)

pub number_there : (xs : List ℕ) (n d : ℕ) → n < length xs → slice_get xs n ≡ Some (slice_index_or xs n d)
number_there [] n d lt = absurd (omega (arith, lt))
number_there (x ∷ xs) zero d lt = refl
number_there (x ∷ xs) (suc n) d lt = number_there xs n d (omega (arith, lt))

abbrev pub Within : Types → (end : ℕ) → Piece → Type 0
Within table end p = p.offset + size_of table p.kind ≤ end

-- a piece that is a defined global where it stands ends within the data
pub within_data : (table : Types) (end : ℕ) (g : GlobalVariable) (offset : ℕ) (o : Option Piece) → (g.defined ≡ true → offset + size_of table g.kind ≤ end)
    → IfSome o (λ p. (p.kind ≡ g.kind) × (p.offset ≡ offset) × (g.defined ≡ true)) → IfSome o (Within table end)
within_data table end g offset None room h = tt
within_data table end g offset (Some p) room h = let le = room h.2 in let size = ap (size_of table) h.0 in omega (arith, le, size, h.1)
