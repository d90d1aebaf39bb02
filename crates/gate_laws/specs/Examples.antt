-- A whole image with gates, run on a concrete state, and what is seen of it.
use Rattle.std.specs.Prelude.{ℕ, zero, suc, ◌+◌, ◌-◌, true, false, nat_eq, if◌then◌else◌, Option, None, Some, pos, negsuc, List, [], ◌∷◌, ◌++◌, length}
use Rattle.std.specs.List.{starts_with}
use Rattle.mx_base.specs.declared.limits.Bounds.{Bounds}
use Rattle.mx_base.specs.declared.stops.Stop.{Stop}
use Rattle.mx_base.specs.declared.stops.Stop.TheVariants.{Exit}
use Rattle.mx_base.specs.declared.numbers.IntKind.TheVariants.{I8, U8, I16, I32}
use Rattle.mx_base.specs.Memory.{number_at}
use Rattle.x86_forms.specs.declared.instr.Instr.{Instr}
use Rattle.x86_forms.specs.declared.instr.Instr.TheVariants.{Bndmk, CallRel}
use Rattle.x86_forms.specs.Arithmetic.{Flags}
use Rattle.x86_forms.specs.Spelling.{spelling}
use Rattle.obj_file.specs.declared.image.Image.{Image}
use Rattle.obj_file.specs.declared.image.Segment.{Segment}
use Rattle.obj_file.specs.Machine.{Reading, Is, Neither, State}
use Rattle.obj_file.specs.Runs.{End, Out, Stopped}
use Rattle.obj_file.specs.Stored.{Stored, stored_run}
use Rattle.obj_file.specs.Loaded.{Mode}
use Rattle.call_sigs.specs.Signatures.{Signature, Pointer, Of}
use Rattle.call_gates.specs.Gates.{Code, instructions, bytes_of_code, start_gate, landing_gate, stub_gate, outer_gate, behind, copies, sets, calls, returns, control_cell, legacy_cell, data_cell, depth_cell, start_at, landing_at}

-- a reader of these instructions
unfoldable pub reader_among : List Instr → List ℕ → Reading
reader_among [] bytes = Neither
reader_among (i ∷ rest) bytes = if starts_with nat_eq bytes (spelling i) then Is i (length (spelling i)) else reader_among rest bytes

-- ---- the image: main calls the legacy function t with a pointer and a char, which calls back the C function f

abbrev pub main_at : ℕ
main_at = 0x0200_0000

abbrev pub f_at : ℕ
f_at = 0x0200_0100

abbrev pub stub_at : ℕ
stub_at = 0x0200_0200

abbrev pub legacy_at : ℕ
legacy_at = 0x1200_0000

abbrev pub outer_of_f : ℕ
outer_of_f = 0x0101_0080

abbrev pub sig_of_main : Signature
sig_of_main = record { result = Of I32; parameters = [] }

abbrev pub sig_of_t : Signature
sig_of_t = record { result = Pointer; parameters = None ∷ Some I8 ∷ [] }

abbrev pub sig_of_f : Signature
sig_of_f = record { result = Of U8; parameters = Some I16 ∷ None ∷ [] }

-- main: mov edi, 0x20000000; bndmk bnd0, [rdi+3]; mov esi, 0x1fe; bnd call t; bnd ret
abbrev pub main_code : Code
main_code =
    sets 7 0x2000_0000 ∷ (Bndmk 0 (behind 7 (pos 3)), 5) ∷ sets 6 0x1fe
    ∷ calls stub_at (main_at + 21)
    ∷ returns ∷ []

-- t: mov rbx, rsi; mov rsi, rdi; mov edi, 0x18001; bndmk bnd3, [rbx+7]; bnd call f; bndmk bnd0, [rax+15]; bnd ret
abbrev pub legacy_part : Code
legacy_part =
    copies 3 6 ∷ copies 6 7 ∷ sets 7 0x18001
    ∷ (Bndmk 3 (behind 3 (pos 7)), 5)
    ∷ (CallRel true (negsuc (legacy_at + 22 - outer_of_f - 1)), 6)
    ∷ (Bndmk 0 (behind 0 (pos 15)), 5)
    ∷ returns ∷ []

-- f: mov rax, rdi; bnd ret
abbrev pub f_code : Code
f_code = copies 0 7 ∷ returns ∷ []

abbrev pub all_code : List (ℕ × Code)
all_code =
    (start_at, start_gate main_at)
    ∷ (landing_at, landing_gate)
    ∷ (outer_of_f, outer_gate sig_of_f f_at outer_of_f)
    ∷ (main_at, main_code)
    ∷ (f_at, f_code)
    ∷ (stub_at, stub_gate sig_of_t legacy_at stub_at)
    ∷ (legacy_at, legacy_part)
    ∷ []

abbrev pub segments_of : List (ℕ × Code) → List Segment
segments_of [] = []
segments_of (c ∷ rest) = record { at = c.0; bytes = bytes_of_code c.1 } ∷ segments_of rest

abbrev pub all_instructions : List (ℕ × Code) → List Instr
all_instructions [] = []
all_instructions (c ∷ rest) = instructions c.1 ++ all_instructions rest

abbrev pub small_image : Image
small_image = record { outers = 2; segments = segments_of all_code; files = []; places = [] }

abbrev pub watched_mode : Mode
watched_mode = record { preserve = false; bare = false }

abbrev pub run_with : ℕ → End Stored
run_with turns = stored_run (reader_among (all_instructions all_code)) small_image watched_mode turns []

-- what is looked at: where it is; registers 0 to 15; flags; the four bounds registers; the cells; the word at the stack pointer; and the stop
pub record Seen : Type 0 where
  pub rip : ℕ
  pub regs : List ℕ
  pub flags : Flags
  pub bounds : List (ℕ × ℕ)
  pub cells : List ℕ
  pub top : ℕ
  pub exit : Option Stop

abbrev pub regs_from : ℕ → ℕ → (ℕ → ℕ) → List ℕ
regs_from zero k regs = []
regs_from (suc n) k regs = regs k ∷ regs_from n (k + 1) regs

abbrev pub pair_of : Bounds → ℕ × ℕ
pair_of b = (b.lb, b.ub)

abbrev pub seen_at : State Stored → Option Stop → Seen
seen_at s why = record {
  rip = s.processor.rip;
  regs = regs_from 16 0 s.processor.regs;
  flags = s.processor.flags;
  bounds = pair_of (s.processor.bounds 0) ∷ pair_of (s.processor.bounds 1) ∷ pair_of (s.processor.bounds 2) ∷ pair_of (s.processor.bounds 3) ∷ [];
  cells = number_at 8 s.memory.bytes control_cell ∷ number_at 8 s.memory.bytes legacy_cell ∷ number_at 8 s.memory.bytes data_cell ∷ number_at 8 s.memory.bytes depth_cell ∷ [];
  top = number_at 8 s.memory.bytes (s.processor.regs 4);
  exit = why;
}

abbrev pub seen : End Stored → Seen
seen (Out s) = seen_at s None
seen (Stopped why s) = seen_at s (Some why)

-- ---- what is seen

abbrev pub zero_flags : Flags
zero_flags = record { cf = false; zf = true; sf = false; of = false }

abbrev pub init : ℕ × ℕ
init = (0, 0xffff_ffff_ffff_ffff)

-- before the first instruction of t: the pointer and the char, which is -2, and nothing else but the stack pointer
abbrev pub at_the_legacy_function : Seen
at_the_legacy_function = record {
  rip = legacy_at;
  regs = 0 ∷ 0 ∷ 0 ∷ 0 ∷ 0x607f_fff8 ∷ 0 ∷ 0xffff_ffff_ffff_fffe ∷ 0x2000_0000 ∷ 0 ∷ 0 ∷ 0 ∷ 0 ∷ 0 ∷ 0 ∷ 0 ∷ 0 ∷ [];
  flags = zero_flags;
  bounds = (0x2000_0000, 0x2000_0003) ∷ init ∷ init ∷ init ∷ [];
  cells = 0x71ff_ffd8 ∷ 0x6080_0000 ∷ 0x5400_0000 ∷ 0 ∷ [];
  top = landing_at;
  exit = None;
}

-- behind its call of f, whose result is of 8 bits: rbx is as it was, and all that carries nothing is clear
abbrev pub behind_the_callback : Seen
behind_the_callback = record {
  rip = legacy_at + 22;
  regs = 1 ∷ 0 ∷ 0 ∷ 0xffff_ffff_ffff_fffe ∷ 0x607f_fff8 ∷ 0 ∷ 0 ∷ 0 ∷ 0 ∷ 0 ∷ 0 ∷ 0 ∷ 0 ∷ 0 ∷ 0 ∷ 0 ∷ [];
  flags = zero_flags;
  bounds = init ∷ init ∷ init ∷ init ∷ [];
  cells = 0x71ff_ffd8 ∷ 0x6080_0000 ∷ 0x5400_0000 ∷ 0 ∷ [];
  top = landing_at;
  exit = None;
}

abbrev pub at_the_exit : Option Stop
at_the_exit = Some (Exit 1)

abbrev pub before_the_exit : Option Stop
before_the_exit = None
