-- The run of code bytes of the first path: the instructions that they spell, one after another. None of these
-- instructions jumps.
use Rattle.std.specs.Prelude.{◌≡◌, ℕ, ◌+◌, ◌%◌, ◌^◌, IsTrue, false, List, [], ◌∷◌, ◌++◌, length, replicate}
use Rattle.std.specs.List.{flat_map, AllByRecursion}
use Rattle.mx_base.specs.Bounds.{full_bounds}
use Rattle.x86_forms.specs.declared.instr.Instr.{Instr}
use Rattle.x86_forms.specs.Arithmetic.{no_flags}
use Rattle.x86_forms.specs.EarlyEffects.{EarlyState, EarlyEffect, Goes, Sends, Ends, CodeEnd, Undefined, effect}
use Rattle.x86_forms.specs.Spelling.{spelling}
use Rattle.x86_forms.specs.Validity.{valid_of}

-- the bytes that code puts, in order, and how it ends
pub record CodeRun : Type 0 where
  pub out : List ℕ
  pub ends : CodeEnd

abbrev pub ended : CodeEnd → CodeRun
ended e = record { out = []; ends = e }

abbrev pub sends_first : ℕ → CodeRun → CodeRun
sends_first b r = record { out = b ∷ r.out; ends = r.ends }

-- an effect, and then the run of what follows
abbrev pub then_run : EarlyEffect → (EarlyState → CodeRun) → CodeRun
then_run (Goes s) rest = rest s
then_run (Sends b s) rest = sends_first b (rest s)
then_run (Ends e) rest = ended e

-- the address after an instruction
unfoldable pub next_address : Instr → EarlyState → ℕ
next_address i s = (s.processor.rip + length (spelling i)) % 2 ^ 64

-- Instructions in a row. Where none is left the bytes begin none.
unfoldable pub program_run : List Instr → EarlyState → CodeRun
program_run [] s = ended Undefined
program_run (i ∷ program) s = then_run (effect i (next_address i s) s) (program_run program)

-- The code is the spellings of these instructions, one after another, and then bytes that begin with no instruction.
-- Since no spelling is a prefix of another, there is exactly one such program for each code.
pub record IsCodeOf (code : List ℕ) (program : List Instr) : Type 0 where
  pub rest : List ℕ
  pub valid : AllByRecursion (λ i. IsTrue (valid_of i)) program
  pub bytes : code ≡ flat_map spelling program ++ rest
  pub no_more : (i : Instr) (after : List ℕ) → IsTrue (valid_of i) → rest ≡ spelling i ++ after → ⊥

-- registers and memory are 0, and the bounds registers are INIT, which allows every address
abbrev pub started : ℕ → EarlyState
started size = record {
  processor = record { regs = λ r. 0; flags = no_flags; rip = 0x0100_0000; bounds = λ b. full_bounds; preserve = false; status = 0 };
  array = replicate size 0;
}

-- what code bytes do over so many bytes of memory
pub record CodeRuns (code : List ℕ) (size : ℕ) (run : CodeRun) : Type 0 where
  pub program : List Instr
  pub spells : IsCodeOf code program
  pub does : run ≡ program_run program (started size)
