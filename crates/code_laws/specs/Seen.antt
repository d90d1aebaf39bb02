-- When a state of the machine is what the code of a function sees.
use Rattle.std.specs.Prelude.{◌≡◌, ℕ, ◌+◌, ◌*◌, ◌≤◌, ◌<◌, ◌^◌, Bool, false, List}
use Rattle.mx_base.specs.Memory.{Bytes, AreBytes, number_at}
use Rattle.mx_base.specs.Regions.{is_sealed}
use Rattle.mx_base.specs.World.{World, FarRegisters}
use Rattle.obj_file.specs.Machine.{Reading, IsReader, Ground, State}
use Rattle.obj_file.specs.Stored.{Stored, stored_ground}
use Rattle.obj_file.specs.StoreLaw.{HoldsWords, KeepsWords}
use Rattle.mx_base.specs.Guests.{GuestFits}
use Rattle.code_laws.specs.Views.{View}

-- where a function runs: how bytes are read, how many outer entries there are, whether BNDPRESERVE is set, the bytes of all instrumented code,
-- the bytes of the control stack above the frame, the frame's first address and how many words it has, the depth, and where labels and
-- symbols stand
pub record Setting : Type 0 where
  pub reads : List ℕ → Reading
  pub outers : ℕ
  pub preserve : Bool
  pub code : Bytes
  pub frozen : Bytes
  pub sp : ℕ
  pub units : ℕ
  pub depth : ℕ
  pub label_at : ℕ → ℕ
  pub entry_at : ℕ → ℕ

pub record IsSetting (S : Setting) : Type 0 where
  pub reader : IsReader S.reads
  pub low : 0x7100_0000 ≤ S.sp
  pub high : S.sp + 8 * S.units ≤ 0x7200_0000
  pub labels : (k : ℕ) → S.label_at k < 2 ^ 62

abbrev pub machine_of : Setting → Ground Stored
machine_of S = stored_ground S.reads S.outers record { preserve = S.preserve; bare = false }

-- the memory behind a view: bytes that are not sealed and bounds are those of the world, the frame has the words, the cells have the stack pointers
-- and the depth, and code and the control stack above the frame are as they are
pub record Holds (S : Setting) (slots : ℕ → ℕ) (w : World) (y : Stored) : Type 0 where
  pub open_bytes : (a : ℕ) → is_sealed a ≡ false → y.bytes a ≡ w.bytes a
  pub store : y.bounds ≡ w.store
  pub frame : (k : ℕ) → k < S.units → number_at 8 y.bytes (S.sp + 8 * k) ≡ slots k
  pub frozen : (a : ℕ) → S.sp + 8 * S.units ≤ a → a < 0x7200_0000 → y.bytes a ≡ S.frozen a
  pub code : (a : ℕ) → 0x0100_0000 ≤ a → a < 0x1100_0000 → y.bytes a ≡ S.code a
  pub data_cell : number_at 8 y.bytes 0x7000_0010 ≡ w.data_sp
  pub legacy_cell : number_at 8 y.bytes 0x7000_0008 ≡ w.legacy_sp
  pub depth_cell : number_at 8 y.bytes 0x7000_0018 ≡ S.depth
  pub each_byte : AreBytes y.bytes
  pub kept_words : (g : ℕ) → KeepsWords (y.bounds.kept g)
  pub guest_fits : GuestFits w.guest

-- the registers that C never touches
pub record SameFar (regs : ℕ → ℕ) (far : FarRegisters) : Type 0 where
  pub rbx : regs 3 ≡ far.rbx
  pub rbp : regs 5 ≡ far.rbp
  pub r12 : regs 12 ≡ far.r12
  pub r13 : regs 13 ≡ far.r13
  pub r14 : regs 14 ≡ far.r14
  pub r15 : regs 15 ≡ far.r15

-- a view, with a memory behind it
pub record Seen (S : Setting) (v : View) (y : Stored) : Type 0 where
  pub memory : Holds S v.slots v.world y
  pub words : HoldsWords v.processor
  pub stack : v.processor.regs 4 ≡ S.sp
  pub preserve : v.processor.preserve ≡ S.preserve
  pub far : SameFar v.processor.regs v.world.far

-- the state with this memory, after so many steps
abbrev pub state_of : View → Stored → ℕ → State Stored
state_of v y n = record { processor = v.processor; memory = y; guest = v.world.guest; steps = n }
