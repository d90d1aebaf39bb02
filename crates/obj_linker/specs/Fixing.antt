-- What the fields of fix-ups hold.
use Rattle.std.specs.Prelude.{ℕ, ◌+◌, Bool, ◌&&◌, ◌||◌, ◌==◌, nat_le, if◌then◌else◌, ℤ, pos, negsuc, ◌+ℤ◌, ◌-ℤ◌, int_le, List, ◌++◌, length, take, drop}
use Rattle.std.specs.List.{fold}
use Rattle.std.specs.Option.{unwrap_or}
use Rattle.std.specs.Int.{w32, w64, cast_unsigned}
use Rattle.obj_file.specs.declared.object.Object.{Object}
use Rattle.obj_file.specs.declared.object.Fix.{Fix}
use Rattle.obj_file.specs.InTurn.{le}
use Rattle.obj_linker.specs.declared.parts.SymbolId.{SymbolId}
use Rattle.obj_linker.specs.declared.plan.Plan.{Plan}
use Rattle.obj_linker.specs.Symbols.{symbol_id, name_at, is_c_function, is_legacy_function, find, place_of}
use Rattle.obj_linker.specs.Placement.{is_call, spot_of, own_address, outer_at, stub_at}

-- ---- addresses of symbols

-- the address of a definition by its name: relative fix-ups of instrumented code see the inner entry of a C function and the stub of a
-- legacy function; all others see the outer entry of a C function and the legacy function itself
abbrev pub seen_address : List Object → Plan → (call : Bool) → List ℕ → SymbolId → ℕ
seen_address os plan call name id =
    if is_c_function os id then (if call then own_address os plan id else outer_at (place_of name plan.functions))
    else if call && is_legacy_function os id then stub_at plan (place_of name plan.stubs)
    else own_address os plan id

-- the definition of a symbol's name; without one the symbol itself
abbrev pub meant_by : List Object → Plan → SymbolId → SymbolId
meant_by os plan id = unwrap_or (find (name_at os id) plan.definitions) id

abbrev pub target : List Object → Plan → ℕ → Object → Fix → ℕ
target os plan object o f = seen_address os plan (is_call o f) (name_at os (symbol_id object f.symbol)) (meant_by os plan (symbol_id object f.symbol))

-- ---- values

abbrev pub field_at : Plan → ℕ → Fix → ℕ
field_at plan object f = (if f.part == 1 then (spot_of plan object).code else (spot_of plan object).stored) + f.offset

-- the address and the addend; where it is relative, less the address after the field
abbrev pub value_of : ℕ → ℕ → Fix → ℤ
value_of to field f = if f.form == 2 then (pos to +ℤ f.addend) -ℤ pos (field + 4) else pos to +ℤ f.addend

abbrev pub fix_value : List Object → Plan → ℕ → Object → Fix → ℤ
fix_value os plan object o f = value_of (target os plan object o f) (field_at plan object f) f

-- a field of 8 bytes takes every value, one of 4 bytes those that are signed numbers of 32 bits
abbrev pub fits : ℕ → ℤ → Bool
fits form value = form == 0 || (int_le (negsuc 0x7FFF_FFFF) value && int_le value (pos 0x7FFF_FFFF))

abbrev pub field_bytes : ℕ → ℤ → List ℕ
field_bytes form value = if form == 0 then le w64 (cast_unsigned w64 value) else le w32 (cast_unsigned w32 value)

-- ---- parts

-- bytes with others in their place from an offset on, as far as there is room for all of these
abbrev pub with_field : List ℕ → ℕ → List ℕ → List ℕ
with_field bytes at field = if nat_le (at + length field) (length bytes) then take at bytes ++ field ++ drop (at + length field) bytes else bytes

abbrev pub fixed : List Object → Plan → ℕ → Object → (part : ℕ) → List ℕ → Fix → List ℕ
fixed os plan object o part bytes f =
    if f.part == part then with_field bytes f.offset (field_bytes f.form (fix_value os plan object o f)) else bytes

-- the bytes of a part, each field with its value
abbrev pub fixed_part : List Object → Plan → ℕ → Object → (part : ℕ) → List ℕ
fixed_part os plan object o part = fold (fixed os plan object o part) (if part == 1 then o.code else o.stored) o.fixes
