-- The bytes of a program are the spellings of its instructions, each of which is valid.
use Rattle.std.proofs.Common.{◌≡◌, ℕ, ◌+◌, ◌-◌, ◌^◌, ◌<◌, ◌≤◌, true, List, [], ◌∷◌, ◌++◌, length, refl, sym, ap, arith, inl, inr, length-append}
use Rattle.std.specs.Prelude.{IsTrue, nat_lt}
use Rattle.std.specs.Int.{w8, cast_signed}
use Rattle.std.specs.List.{flat_map, AllByRecursion}
use Rattle.std.proofs.lemmas.Bool.{cases_lt, lt-ltb, le-ltb}
use Rattle.std.proofs.lemmas.List.{append-nil}
use Rattle.c_reader.specs.declared.early.Act.{Act}
use Rattle.c_reader.specs.declared.early.Act.TheVariants.{Write, PutAt, Put}
use Rattle.c_reader.specs.EarlyForm.{InRange}
use Rattle.c_reader.specs.EarlyMeaning.{array_at, early_run}
use Rattle.x86_forms.specs.declared.instr.Instr.{Instr}
use Rattle.x86_forms.specs.EarlyCode.{IsCodeOf, CodeRuns}
use Rattle.x86_forms.specs.Fits.{fits_8}
use Rattle.x86_forms.specs.Spelling.{spelling}
use Rattle.x86_forms.specs.Validity.{valid_of}
use Rattle.x86_forms.proofs.ShortCode.{spelling-short}
use Rattle.x86_lower.specs.EarlyProgram.{bounds_code, act_code, end_code, program_of, bytes_of, as_code_run}
use Rattle.x86_lower.proofs.EarlyRun.{program_runs}

abbrev AreValid : List Instr → Type 0
AreValid program = AllByRecursion (λ i. IsTrue (valid_of i)) program

AreValid-append : (a b : List Instr) → AreValid a → AreValid b → AreValid (a ++ b)
AreValid-append [] b p q = q
AreValid-append (i ∷ a) b p q = (p.0, AreValid-append a b p.1 q)

number_fits : (n : ℕ) → n < 2 ^ 31 → nat_lt n (2 ^ 31) ≡ true
number_fits n lt = lt-ltb n (2 ^ 31) lt

byte_fits : (v : ℕ) → v < 256 → fits_8 (cast_signed w8 v) ≡ true
byte_fits v h = elim (cases_lt v (2 ^ 7)) [
  | inl k ↦ let e = lt-ltb v (2 ^ 7) k in rw e (lt-ltb _ _ (omega arith))
  | inr k ↦ let e = le-ltb v (2 ^ 7) k in rw e (lt-ltb _ _ (omega arith))
]

act_valid : (a : Act) → InRange a → AreValid (act_code a)
act_valid (Write index value) r = (number_fits (array_at + index) (omega arith), (refl, (refl, (byte_fits value r.1, tt))))
act_valid (PutAt index) r = (number_fits (array_at + index) (omega arith), (refl, (refl, (refl, (refl, (refl, tt))))))
act_valid (Put value) r = (number_fits value (omega arith), (refl, (refl, tt)))

acts_valid : (acts : List Act) → AllByRecursion InRange acts → AreValid (flat_map act_code acts)
acts_valid [] r = tt
acts_valid (a ∷ acts) r = AreValid-append (act_code a) (flat_map act_code acts) (act_valid a r.0) (acts_valid acts r.1)

program_valid : (size : ℕ) (acts : List Act) (code : ℕ) → 1 ≤ size → size ≤ 4096 → code < 256 → AllByRecursion InRange acts → AreValid (program_of size acts code)
program_valid size acts code some most fits ranges =
    let last : nat_lt (size - 1) (2 ^ 31) ≡ true = number_fits (size - 1) (omega arith) in
    let bounds : AreValid (bounds_code size) = (refl, (rw last refl, tt)) in
    let end : AreValid (end_code code) = (number_fits code (omega arith), (refl, (refl, tt))) in
    AreValid-append (bounds_code size) (flat_map act_code acts ++ end_code code) bounds (AreValid-append (flat_map act_code acts) (end_code code) (acts_valid acts ranges) end)

-- no bytes begin with no instruction
no_bytes : (i : Instr) (after : List ℕ) → IsTrue (valid_of i) → [] ≡ spelling i ++ after → ⊥
no_bytes i after valid e =
    let some = (spelling-short i valid).some in
    let none : 0 ≡ length (spelling i ++ after) = ap length e in
    omega (arith, length-append (spelling i) after)

pub bytes_spelled : (size : ℕ) (acts : List Act) (code : ℕ) → 1 ≤ size → size ≤ 4096 → code < 256 → AllByRecursion InRange acts → IsCodeOf (bytes_of size acts code) (program_of size acts code)
bytes_spelled size acts code some most fits ranges = record {
  rest = [];
  valid = program_valid size acts code some most fits ranges;
  bytes = sym (append-nil (bytes_of size acts code));
  no_more = no_bytes;
}

pub bytes_run : (size : ℕ) (acts : List Act) (code : ℕ) → 1 ≤ size → size ≤ 4096 → code < 256 → AllByRecursion InRange acts → CodeRuns (bytes_of size acts code) size (as_code_run (early_run size acts code))
bytes_run size acts code some most fits ranges = record {
  program = program_of size acts code;
  spells = bytes_spelled size acts code some most fits ranges;
  does = sym (program_runs size acts code some most fits ranges);
}
