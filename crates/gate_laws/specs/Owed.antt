-- What is owed so that a run of an image ends as its program does: by the linker, that the gates stand where they are to stand; by what
-- is loaded; and by the code of the functions.
use Rattle.std.specs.Prelude.{◌≡◌, ◌≤◌, ◌<◌, ℕ, suc, ◌+◌, ◌*◌, ◌^◌, true, false, Option, None, [], length}
use Rattle.mx_base.specs.declared.numbers.IntKind.TheVariants.{I32}
use Rattle.mx_base.specs.BoundsStore.{empty_store}
use Rattle.mx_base.specs.Memory.{Bytes, number_at}
use Rattle.mx_base.specs.Regions.{instrumented_code, is_in, is_sealed}
use Rattle.mx_base.specs.StopOfC.{AccessOfC}
use Rattle.x86_forms.specs.Watch.{is_legacy, outer_entry}
use Rattle.obj_file.specs.StoreLaw.{ReadsValid}
use Rattle.obj_file.specs.Stored.{Stored}
use Rattle.fat_ir.specs.Calls.{Callee}
use Rattle.fat_ir.specs.Functions.{Linked, calls}
use Rattle.fat_ir.specs.Laws.{FramesGivenBack, LeftByCalls, NoMoreTurns}
use Rattle.call_sigs.specs.Signatures.{Of, pointers}
use Rattle.call_gates.specs.Gates.{control_cell, depth_cell, landing_at, landing_gate, outer_gate, start_at, start_gate, stub_gate}
use Rattle.legacy_calls.specs.Legacy.{Linkage, outside}
use Rattle.gate_laws.specs.Crossings.{deeper}
use Rattle.gate_laws.specs.Placed.{HasCode, IsPlaced}
use Rattle.gate_laws.specs.Standing.{Calls}

-- ---- the linker

-- the place of a stub, and its legacy function
pub record IsStub (k : Linkage) (image : Bytes) (g at : ℕ) : Type 0 where
  pub low : 0x0200_0000 ≤ at
  pub high : at + 128 ≤ 0x1100_0000
  pub target_low : 0x1200_0000 ≤ k.begins g
  pub target_high : k.begins g ≤ 0x1300_0000
  pub few : length (k.legacy g).parameters ≤ 6
  pub few_pointers : pointers (k.legacy g).parameters ≤ 4
  pub placed : IsPlaced k image at (stub_gate (k.legacy g) (k.begins g) at)

-- the control stack has room for so many functions, as legacy code began
abbrev pub HasSpace : ℕ → Bytes → Type 0
HasSpace depth z = (0x7100_0000 + 4088 * depth + 80 ≤ number_at 8 z control_cell) × (number_at 8 z control_cell + 32 ≤ 0x7200_0000) × (number_at 8 z depth_cell + depth ≡ 4096)

-- the place of an outer entry and of its function
pub record IsOuter (k : Linkage) (image : Bytes) (f inner : ℕ) : Type 0 where
  pub few : length (k.own f).parameters ≤ 6
  pub few_pointers : pointers (k.own f).parameters ≤ 4
  pub near : inner < 2 ^ 62
  pub placed : IsPlaced k image (outer_entry f) (outer_gate (k.own f) inner (outer_entry f))

-- the code of an image, also where legacy code began
abbrev pub HasRoomAndCode : Bytes → ℕ → Bytes → Type 0
HasRoomAndCode image depth z = HasSpace depth z × ((a : ℕ) → is_in instrumented_code a ≡ true → z a ≡ image a)

-- what the linker owes: the gates stand in the image where they are to stand, over signatures within their limits
pub record IsLinked (k : Linkage) (image : Bytes) (inner stub : ℕ → ℕ) : Type 0 where
  pub few_outers : k.outers ≤ 65536
  pub landing : IsPlaced k image landing_at landing_gate
  pub stubs : (g : ℕ) → g < k.stubs → IsStub k image g (stub g)
  pub outers : (f : ℕ) → f < k.outers → IsOuter k image f (inner f)

-- ---- what is loaded

-- what a start owes: `main` takes nothing and gives an int; the image is loaded, with the world's bytes where nothing is sealed
pub record IsLoaded (k : Linkage) (image : Bytes) (inner : ℕ → ℕ) (main : ℕ) (bytes : Bytes) (y : Stored) : Type 0 where
  pub few : main < k.outers
  pub is_main : k.own main ≡ record { result = Of I32; parameters = [] }
  pub start : IsPlaced k image start_at (start_gate (inner main))
  pub code : HasCode image y
  pub unsealed : (a : ℕ) → is_sealed a ≡ false → y.bytes a ≡ bytes a
  pub empty : y.bounds ≡ empty_store

-- ---- the code of the functions

pub record Layers (k : Linkage) (image : Bytes) (places : ℕ → Option AccessOfC) (program : ℕ → Linked) (inner stub : ℕ → ℕ) : Type 0 where
  -- the code of a function does its steps, over any meaning of what it calls; and where no more functions may be entered it stops
  pub lowered : (depth : ℕ) (own other : Callee) → Calls k image places depth 64 k.outers inner k.own own → Calls k image places depth 112 k.stubs stub k.legacy other
      → LeftByCalls NoMoreTurns own → LeftByCalls NoMoreTurns other → FramesGivenBack own → FramesGivenBack other → Calls k image places (suc depth) 64 k.outers inner k.own (deeper program own other)
  pub full : Calls k image places 0 64 k.outers inner k.own (calls program (outside k) 0)
  -- instructions are read valid, and places stand in instrumented code
  pub valid : ReadsValid k.reads
  pub placed : (a : ℕ) → is_legacy a ≡ true → places a ≡ None
