-- Small images of MPX code, run over the walk and over the store of bounds.
use Rattle.std.specs.Prelude.{ℕ, nat_eq, Bool, false, if◌then◌else◌, Option, None, Some, List, [], ◌∷◌, length, pos}
use Rattle.std.specs.List.{starts_with}
use Rattle.mx_base.specs.declared.limits.Bounds.{Bounds}
use Rattle.mx_base.specs.declared.stops.Stop.{Stop}
use Rattle.mx_base.specs.declared.stops.Stop.TheVariants as stop
use Rattle.mx_base.specs.BoundsStore.{Kept, granule}
use Rattle.mx_base.specs.Memory.{number_at}
use Rattle.mx_base.specs.Walk.{TableEntry, entry_in}
use Rattle.x86_forms.specs.declared.instr.Instr.{Instr}
use Rattle.x86_forms.specs.declared.instr.Instr.TheVariants.{MovImm, MovMemImm, Push, Bndmk, Bndldx, Bndstx}
use Rattle.x86_forms.specs.Examples.{reg, based, indexed}
use Rattle.x86_forms.specs.Spelling.{spelling}
use Rattle.obj_file.specs.declared.image.Image.{Image}
use Rattle.obj_file.specs.Machine.{Reading, Is, Neither}
use Rattle.obj_file.specs.Runs.{End, Out, Stopped}
use Rattle.obj_file.specs.Loaded.{Tabled, Mode}
use Rattle.obj_file.specs.Stored.{Stored}

-- mov ecx, 0x30000010; push rcx; bndmk bnd0, [rcx+7]; bndstx [rsp+rcx], bnd0; bndldx bnd1, [rsp+rcx]
abbrev pub example_code : List Instr
example_code = MovImm 32 (reg 1) (pos 0x3000_0010) ∷ Push (reg 1) ∷ Bndmk 0 (based 1 (pos 7)) ∷ Bndstx 0 (indexed 4 1 1 (pos 0)) ∷ Bndldx 1 (indexed 4 1 1 (pos 0)) ∷ []

-- as an assembler puts it
abbrev pub example_bytes : List ℕ
example_bytes =
    0xB9 ∷ 0x10 ∷ 0x00 ∷ 0x00 ∷ 0x30
    ∷ 0x51
    ∷ 0xF3 ∷ 0x0F ∷ 0x1B ∷ 0x41 ∷ 0x07
    ∷ 0x0F ∷ 0x1B ∷ 0x04 ∷ 0x0C
    ∷ 0x0F ∷ 0x1A ∷ 0x0C ∷ 0x0C
    ∷ []

abbrev pub image_with : List ℕ → Image
image_with bytes = record { outers = 0; segments = record { at = 0x0100_0000; bytes = bytes } ∷ []; files = []; places = [] }

abbrev pub example_image : Image
example_image = image_with example_bytes

-- with the watch on, or off
abbrev pub example_mode : Bool → Mode
example_mode bare = record { preserve = false; bare = bare }

-- a reader of some instructions alone
unfoldable pub reader_of : List Instr → List ℕ → Reading
reader_of [] bytes = Neither
reader_of (i ∷ rest) bytes = if starts_with nat_eq bytes (spelling i) then Is i (length (spelling i)) else reader_of rest bytes

-- what is looked at over the walk: the stop, BND1, BNDSTATUS, the tables made, the directory entry of the stack's megabyte, and the
-- last entry of the first table
pub record WalkSeen : Type 0 where
  pub why : Stop
  pub loaded : Bounds
  pub status : ℕ
  pub made : ℕ
  pub directory_entry : ℕ
  pub entry : TableEntry

abbrev pub walk_seen : End Tabled → Option WalkSeen
walk_seen (Out last) = None
walk_seen (Stopped why last) = Some (record {
  why = why;
  loaded = last.processor.bounds 1;
  status = last.processor.status;
  made = last.memory.made;
  directory_entry = number_at 8 last.memory.bytes 0x4000_0000_38f8;
  entry = entry_in last.memory.bytes 0x5000_003f_ffe0;
})

-- and over the store: the stop, BND1, BNDSTATUS, the touched megabytes, and what is kept at the top of the stack
pub record StoreSeen : Type 0 where
  pub why : Stop
  pub loaded : Bounds
  pub status : ℕ
  pub touched : List ℕ
  pub kept : Option Kept

abbrev pub store_seen : End Stored → Option StoreSeen
store_seen (Out last) = None
store_seen (Stopped why last) = Some (record {
  why = why;
  loaded = last.processor.bounds 1;
  status = last.processor.status;
  touched = last.memory.bounds.touched;
  kept = last.memory.bounds.kept (granule 0x71ff_fff8);
})

-- the code ends where no instruction is read. The stack's top has bounds in the megabyte 0x71f, which was served; BNDSTATUS tells that
-- its directory entry was invalid
abbrev pub example_stop : Stop
example_stop = stop.Undefined 0x0100_0013

abbrev pub example_bounds : Bounds
example_bounds = record { lb = 0x3000_0010; ub = 0x3000_0017 }

abbrev pub seen_over_walk : Option WalkSeen
seen_over_walk = Some (record {
  why = example_stop;
  loaded = example_bounds;
  status = 0x4000_0000_38fa;
  made = 1;
  directory_entry = 0x5000_0000_0001;
  entry = record { lb = 0x3000_0010; held = 0xffff_ffff_cfff_ffe8; value = 0x3000_0010 };
})

abbrev pub seen_over_store : Option StoreSeen
seen_over_store = Some (record {
  why = example_stop;
  loaded = example_bounds;
  status = 0x4000_0000_38fa;
  touched = 0x71f ∷ [];
  kept = Some (record { value = 0x3000_0010; bounds = example_bounds });
})

-- ---- code that writes the directory

-- mov rdi, 0x400000003900; bndmk bnd0, [rcx+7]; bndstx [rsp+rcx], bnd0; mov dword [rdi], 0; bndldx bnd1, [rsp+rcx]
abbrev pub rewriting_code : List Instr
rewriting_code = MovImm 64 (reg 7) (pos 0x4000_0000_3900) ∷ Bndmk 0 (based 1 (pos 7)) ∷ Bndstx 0 (indexed 4 1 1 (pos 0)) ∷ MovMemImm 32 (based 7 (pos 0)) (pos 0) ∷ Bndldx 1 (indexed 4 1 1 (pos 0)) ∷ []

abbrev pub rewriting_bytes : List ℕ
rewriting_bytes =
    0x48 ∷ 0xBF ∷ 0x00 ∷ 0x39 ∷ 0x00 ∷ 0x00 ∷ 0x00 ∷ 0x40 ∷ 0x00 ∷ 0x00
    ∷ 0xF3 ∷ 0x0F ∷ 0x1B ∷ 0x41 ∷ 0x07
    ∷ 0x0F ∷ 0x1B ∷ 0x04 ∷ 0x0C
    ∷ 0xC7 ∷ 0x07 ∷ 0x00 ∷ 0x00 ∷ 0x00 ∷ 0x00
    ∷ 0x0F ∷ 0x1A ∷ 0x0C ∷ 0x0C
    ∷ []

-- the bounds that the last instruction loads
abbrev pub loaded_at_stop : {X : Type 0} → End X → Option Bounds
loaded_at_stop (Out last) = None
loaded_at_stop (Stopped why last) = Some (last.processor.bounds 1)
