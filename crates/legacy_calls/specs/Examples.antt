-- Calls of small legacy functions, run on a concrete world, and what is seen of them.
use Rattle.std.specs.Prelude.{ℕ, ◌/◌, ◌+◌, ◌-◌, Bool, true, false, Option, None, Some, ℤ, pos, negsuc, nat_eq, if◌then◌else◌, List, [], ◌∷◌, ◌++◌, length}
use Rattle.std.specs.List.{starts_with}
use Rattle.mx_base.specs.declared.limits.Bounds.{Bounds}
use Rattle.mx_base.specs.declared.numbers.IntKind.TheVariants.{I64}
use Rattle.mx_base.specs.Memory.{no_bytes, with_list}
use Rattle.mx_base.specs.World.{World, Cause, LegacyInit, Root, MadeAt, FullBy, Log, world_at_start, empty_log}
use Rattle.x86_forms.specs.declared.instr.Instr.{Instr}
use Rattle.x86_forms.specs.declared.instr.Reg.{Reg}
use Rattle.x86_forms.specs.declared.instr.Mem.{Mem}
use Rattle.x86_forms.specs.declared.instr.Rm.TheVariants.{Reg as InReg, Mem as InMem}
use Rattle.x86_forms.specs.declared.instr.Base.TheVariants.{Reg as BaseReg}
use Rattle.x86_forms.specs.Spelling.{spelling}
use Rattle.obj_file.specs.Machine.{Reading, Is, Neither}
use Rattle.x86_forms.specs.declared.instr.Instr.TheVariants.{MovTo, Bndmk, Bndldx, Bndstx, Ret, CallRel}
use Rattle.bounds_plan.specs.meaning.State.{Passed, OfNumber, OfPointer}
use Rattle.bounds_plan.specs.meaning.Expressions.{Answer, Comes, Stops, CalleeOfC}
use Rattle.call_sigs.specs.Signatures.{Pointer}
use Rattle.legacy_calls.specs.Legacy.{Linkage}
use Rattle.legacy_calls.specs.OfC.{outside_of_c}

-- ---- code

abbrev pub reg : ℕ → Reg
reg n = record { 0 = n }

abbrev pub behind : ℕ → ℤ → Mem
behind r n = record { base = BaseReg (reg r); index = None; disp = n }

abbrev pub bytes_of : List Instr → List ℕ
bytes_of [] = []
bytes_of (i ∷ rest) = spelling i ++ bytes_of rest

-- a reader of these instructions
unfoldable pub reader_among : List Instr → List ℕ → Reading
reader_among [] bytes = Neither
reader_among (i ∷ rest) bytes = if starts_with nat_eq bytes (spelling i) then Is i (length (spelling i)) else reader_among rest bytes

-- bndmk bnd1, [rdi+7]; mov [rsi], rdi; bndstx [rsi+rdi], bnd1: keeps bounds of 8 bytes for its first argument, at the address that is its second
abbrev pub keeps_code : List Instr
keeps_code = Bndmk 1 (behind 7 (pos 7)) ∷ MovTo 64 (reg 7) (InMem (behind 6 (pos 0))) ∷ Bndstx 1 record { base = BaseReg (reg 6); index = Some (reg 7, 1); disp = pos 0 } ∷ []

-- bndldx bnd0, [rsi+rdi+8], where nothing is kept
abbrev pub loads_code : List Instr
loads_code = Bndldx 0 record { base = BaseReg (reg 6); index = Some (reg 7, 1); disp = pos 8 } ∷ []

-- mov rax, rdi, and ret with or without the prefix
abbrev pub gives_back : Bool → List Instr
gives_back prefixed = MovTo 64 (reg 7) (InReg (reg 0)) ∷ Ret prefixed ∷ []

-- bnd call of the first outer entry; ret
abbrev pub calls_back : List Instr
calls_back = CallRel true (negsuc (0x1200_0000 + 6 - 0x0101_0000 - 1)) ∷ Ret true ∷ []

-- ---- calls of it

abbrev pub image_of : List Instr → Linkage
image_of code = record { reads = reader_among code; preserve = false; outers = 1; own = λ f. record { result = Pointer; parameters = None ∷ [] }; stubs = 1; legacy = λ g. record { result = Pointer; parameters = None ∷ Some I64 ∷ [] }; begins = λ g. 0x1200_0000 }

abbrev pub block : Bounds
block = record { lb = 0x2000_0000; ub = 0x2000_0003 }

abbrev pub world_with : List Instr → World
world_with code = world_at_start (with_list no_bytes 0x1200_0000 (bytes_of code)) [] 100

abbrev pub arguments_of_call : List Passed
arguments_of_call = OfPointer record { address = 0x2000_0000; rooted = record { bounds = block; root = MadeAt 0 } } ∷ OfNumber 0x2000_0010 ∷ []

-- a C function that gives back its argument, with its root
abbrev pub first_of : List Passed → Passed
first_of [] = OfNumber 0
first_of (v ∷ vs) = v

abbrev pub hands_back : CalleeOfC
hands_back f args w log = Comes (first_of args) w log

abbrev pub call_of : List Instr → Answer
call_of code = outside_of_c (image_of code) hands_back 0 arguments_of_call (world_with code) record empty_log { made = block ∷ [] }

-- what is looked at: the value with its root, the turns left, and the log
pub record Seen : Type 0 where
  pub value : Passed
  pub turns : ℕ
  pub accesses : ℕ
  pub made : List Bounds
  pub causes : List Cause
  pub root : Option Root
  pub pages : List ℕ
  pub granules : List ℕ

abbrev pub how_many : {A : Type 0} → List A → ℕ
how_many [] = 0
how_many (x ∷ xs) = 1 + how_many xs

abbrev pub seen_of : Passed → World → Log → Seen
seen_of v w log = record { value = v; turns = w.turns; accesses = how_many log.trace; made = log.made; causes = log.causes; root = log.roots (0x2000_0010 / 8); pages = log.pages; granules = log.granules }

abbrev pub seen : Answer → Seen
seen (Comes v w log) = seen_of v w log
seen (Stops why w log) = seen_of (OfNumber 0xdead) w log

-- ---- what is seen of four calls

abbrev pub wide : Bounds
wide = record { lb = 0x2000_0000; ub = 0x2000_0007 }

abbrev pub full : Bounds
full = record { lb = 0; ub = 0xffff_ffff_ffff_ffff }

abbrev pub pointer_with : Bounds → Root → Passed
pointer_with b root = OfPointer record { address = 0x2000_0000; rooted = record { bounds = b; root = root } }

-- bounds are kept, and the argument goes back with its own: both are made by that
abbrev pub kept_and_given : Seen
kept_and_given = record { value = pointer_with block (MadeAt 2); turns = 93; accesses = 1; made = block ∷ wide ∷ block ∷ []; causes = []; root = Some (MadeAt 1); pages = 0x607ff ∷ 0x20000 ∷ []; granules = 0x4000002 ∷ [] }

-- without the prefix the register is INIT
abbrev pub widened : Seen
widened = record { value = pointer_with full (FullBy LegacyInit); turns = 93; accesses = 1; made = block ∷ wide ∷ []; causes = LegacyInit ∷ []; root = Some (MadeAt 1); pages = 0x607ff ∷ 0x20000 ∷ []; granules = 0x4000002 ∷ [] }

-- a callback: the argument is made as it is handed over, and once more as the result is
abbrev pub called_back : Seen
called_back = record { value = pointer_with block (MadeAt 2); turns = 95; accesses = 1; made = block ∷ block ∷ block ∷ []; causes = []; root = None; pages = 0x607ff ∷ []; granules = [] }

-- a load asks for its granule
abbrev pub loaded : Seen
loaded = record { value = pointer_with full (FullBy LegacyInit); turns = 95; accesses = 1; made = block ∷ []; causes = LegacyInit ∷ []; root = None; pages = 0x607ff ∷ []; granules = 0x4000003 ∷ [] }
