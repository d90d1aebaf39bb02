-- The world that C and legacy code share, and beside it what decides nothing.
use Rattle.std.specs.Prelude.{ℕ, Bool, true, false, Option, None, Some, Result, Ok, Err, List, [], ◌∷◌, ◌++◌}
use Rattle.mx_base.specs.declared.limits.Bounds.{Bounds}
use Rattle.mx_base.specs.Regions.{data_stack, legacy_stack, region_end}
use Rattle.mx_base.specs.Memory.{Bytes, number_at, with_number}
use Rattle.mx_base.specs.BoundsStore.{BoundsStore, empty_store, keep_bounds, load_bounds}
use Rattle.mx_base.specs.Services.{Guest, guest_with}

-- the registers that C never touches
pub record FarRegisters : Type 0 where
  pub rbx : ℕ
  pub rbp : ℕ
  pub r12 : ℕ
  pub r13 : ℕ
  pub r14 : ℕ
  pub r15 : ℕ

abbrev pub far_at_start : FarRegisters
far_at_start = record { rbx = 0; rbp = 0; r12 = 0; r13 = 0; r14 = 0; r15 = 0 }

-- an access that was done, of C or of the call of a legacy function: whether it wrote, its first address, and how many bytes it had
pub record Access : Type 0 where
  pub write : Bool
  pub at : ℕ
  pub size : ℕ

-- the bytes that are not sealed, the bounds beside them, heap, input and output, the turns left, the far registers, the two stack
-- pointers, and the accesses of C so far. How deep functions are nested is no part of it: each meaning of calls knows its depth.
pub record World : Type 0 where
  pub bytes : Bytes
  pub store : BoundsStore
  pub guest : Guest
  pub turns : ℕ
  pub far : FarRegisters
  pub data_sp : ℕ
  pub legacy_sp : ℕ
  pub accesses : List Access

-- the world before the first event, with the bytes of an image's data and legacy code
abbrev pub world_at_start : Bytes → List ℕ → ℕ → World
world_at_start bytes input turns = record {
  bytes = bytes;
  store = empty_store;
  guest = guest_with input;
  turns = turns;
  far = far_at_start;
  data_sp = region_end data_stack;
  legacy_sp = region_end legacy_stack;
  accesses = [];
}

-- ---- accesses of C that were judged, and are done

abbrev pub noted : Access → World → World
noted a w = record w { accesses = w.accesses ++ a ∷ [] }

-- a read of n bytes
abbrev pub read_noted : ℕ → World → ℕ → World
read_noted n w p = noted record { write = false; at = p; size = n } w

-- a write of a number of n bytes
abbrev pub number_written : ℕ → World → ℕ → ℕ → World
number_written n w p v = noted record { write = true; at = p; size = n } record w { bytes = with_number n w.bytes p v }

abbrev pub with_store : World → BoundsStore → World
with_store w s = record w { store = s }

-- a world that goes on with a store, or that stops as it is, for want of a table
abbrev pub stored_or_stopped : World → Option BoundsStore → Result World World
stored_or_stopped w None = Err w
stored_or_stopped w (Some s) = Ok (with_store w s)

abbrev pub loaded_or_stopped : World → ℕ → Option (Bounds × BoundsStore) → Result (ℕ × Bounds × World) World
loaded_or_stopped w v None = Err w
loaded_or_stopped w v (Some p) = Ok (v, p.0, with_store w p.1)

-- a pointer is written: first its 8 bytes, and then its bounds are kept. An Err has the world as the stop NoTable leaves it, which
-- comes between the two.
unfoldable pub pointer_written : World → ℕ → ℕ → Bounds → Result World World
pointer_written w p v b = let t = number_written 8 w p v in stored_or_stopped t (keep_bounds t.store p v b)

-- a pointer is read: first its 8 bytes, and then its bounds are loaded; Ok has its value and its bounds
unfoldable pub pointer_read : World → ℕ → Result (ℕ × Bounds × World) World
pointer_read w p = let t = read_noted 8 w p in let v = number_at 8 w.bytes p in loaded_or_stopped t v (load_bounds t.store p v)

-- ---- what decides nothing

-- why a pointer has full bounds
pub data Cause : Type 0 where
  NullConstant : Cause
  FromInteger : Cause
  FunctionAddress : Cause
  UnsetPointer : Cause
  NoReturn : Cause
  NullBlock : Cause
  NothingKept : Cause
  InitBuiltin : Cause
  LegacyInit : Cause

-- where bounds come from: the place, from 0, of the bounds that were made, or the cause that made them full
pub data Root : Type 0 where
  MadeAt : (place : ℕ) → Root
  FullBy : (cause : Cause) → Root

pub record Rooted : Type 0 where
  pub bounds : Bounds
  pub root : Root

-- an access with its bounds, if it has any, and how many bounds were made and how many causes had happened by then
pub record Traced : Type 0 where
  pub access : Access
  pub bounds : Option Rooted
  pub made : ℕ
  pub causes : ℕ

-- the accesses, the bounds made and the causes that happened, each in order; the root of what is kept for each granule; the
-- pages written and the granules loaded or kept, each once, in the order of the first time; and the deepest that functions were
-- nested. The accesses of the trace are those of the world, in the same order.
pub record Log : Type 0 where
  pub trace : List Traced
  pub made : List Bounds
  pub causes : List Cause
  pub roots : ℕ → Option Root
  pub pages : List ℕ
  pub granules : List ℕ
  pub deepest : ℕ

-- before anything was made; the bounds of the globals and literals are the first that are
abbrev pub empty_log : Log
empty_log = record { trace = []; made = []; causes = []; roots = λ g. None; pages = []; granules = []; deepest = 0 }
