-- The instructions of a program do what it means.
use Rattle.std.proofs.Common.{◌≡◌, ℕ, ◌+◌, ◌-◌, ◌%◌, ◌^◌, ◌<◌, ◌≤◌, true, false, List, [], ◌∷◌, ◌++◌, length, get_or, refl, ap, ◌∙◌, arith, inl, inr}
use Rattle.std.specs.Prelude.{nat_lt, nat_le, slice_index, slice_set, replicate}
use Rattle.std.specs.Int.{w8, w64, cast_signed, cast_unsigned}
use Rattle.std.specs.List.{flat_map, AllByRecursion}
use Rattle.std.proofs.lemmas.Bool.{cases_lt, cases_eq, lt-ltb, le-ltb, and_from, le-leb}
use Rattle.std.proofs.lemmas.List.{length-set, get_or-set_same, get_or-set_other, set_past, get_or-replicate, get_or_past, length-replicate}
use Rattle.c_reader.specs.declared.early.Act.{Act}
use Rattle.c_reader.specs.declared.early.Act.TheVariants.{Write, PutAt, Put}
use Rattle.c_reader.specs.EarlyForm.{InRange}
use Rattle.c_reader.specs.EarlyMeaning.{array_at, acts_from, early_run}
use Rattle.mx_base.specs.declared.limits.Bounds.{Bounds}
use Rattle.x86_forms.specs.declared.instr.Instr.{Instr}
use Rattle.x86_forms.specs.declared.instr.Instr.TheVariants.{MovMemImm, Movzx, Bndmk, Bndcl, Bndcu, Syscall}
use Rattle.x86_forms.specs.declared.instr.Reg.{Reg}
use Rattle.x86_forms.specs.declared.instr.Rm.TheVariants.{Reg as InReg, Mem as InMem}
use Rattle.x86_forms.specs.EarlyEffects.{EarlyState, Violates, memory_start, is_mapped, row_effect, served, effect}
use Rattle.x86_forms.specs.EarlyCode.{CodeRun, ended, sends_first, program_run, next_address, started}
use Rattle.x86_forms.specs.Processor.{with_reg, with_bounds, part_written, address}
use Rattle.x86_forms.specs.Requests.{run}
use Rattle.x86_forms.specs.Table.{row}
use Rattle.x86_lower.specs.EarlyProgram.{rax, rcx, rbx, rdi, behind, load_number, element, bounds_code, pointer_code, service_code, act_code, end_code, program_of, as_code_run}
use Rattle.x86_lower.specs.EarlyChecks.{MakesBounds}

-- each number is a byte
pub record IsBytes (bytes : List ℕ) : Type 0 where
  pub at : (i : ℕ) → slice_index bytes i < 0x100

-- the low byte of a byte that is seen as a signed number
low_byte : (v : ℕ) → v < 256 → cast_unsigned w64 (cast_signed w8 v) % 2 ^ 8 % 2 ^ 8 ≡ v
low_byte v h = elim (cases_lt v (2 ^ 7)) [
  | inl k ↦ let e = lt-ltb v (2 ^ 7) k in rw e (omega arith)
  | inr k ↦ let e = le-ltb v (2 ^ 7) k in rw e (omega arith)
]

-- ---- one instruction

-- on to the next one
abbrev past : EarlyState → Instr → EarlyState
past s i = record { processor = record s.processor { rip = next_address i s }; array = s.array }

abbrev with_number : EarlyState → Instr → ℕ → ℕ → EarlyState
with_number s i r n = record { processor = record s.processor { rip = next_address i s; regs = with_reg s.processor.regs r n }; array = s.array }

number_goes : (r : Reg) (n : ℕ) (program : List Instr) (s : EarlyState) → n < 2 ^ 31 → program_run (load_number r n ∷ program) s ≡ program_run program (with_number s (load_number r n) r.0 n)
unfolding program_run effect row_effect row run part_written
number_goes r n program s lt = let e : n % 2 ^ 32 % 2 ^ 32 ≡ n = omega arith in rw e refl

lower_goes : (r : Reg) (program : List Instr) (s : EarlyState) → nat_lt (s.processor.regs r.0) (s.processor.bounds 0).lb ≡ false
    → program_run (Bndcl 0 (InReg r) ∷ program) s ≡ program_run program (past s (Bndcl 0 (InReg r)))
unfolding program_run effect row_effect row run
lower_goes r program s e = rw e refl

upper_goes : (r : Reg) (program : List Instr) (s : EarlyState) → nat_lt (s.processor.bounds 0).ub (s.processor.regs r.0) ≡ false
    → program_run (Bndcu 0 (InReg r) ∷ program) s ≡ program_run program (past s (Bndcu 0 (InReg r)))
unfolding program_run effect row_effect row run
upper_goes r program s e = rw e refl

upper_ends : (r : Reg) (program : List Instr) (s : EarlyState) → nat_lt (s.processor.bounds 0).ub (s.processor.regs r.0) ≡ true
    → program_run (Bndcu 0 (InReg r) ∷ program) s ≡ ended (Violates (s.processor.regs r.0) (s.processor.bounds 0).lb (s.processor.bounds 0).ub)
unfolding program_run effect row_effect row run
upper_ends r program s e = rw e refl

write_goes : (r : Reg) (v : ℕ) (program : List Instr) (s : EarlyState) → s.processor.regs r.0 < 2 ^ 64 → v < 256 → is_mapped (s.processor.regs r.0) s.array ≡ true
    → program_run (MovMemImm 8 (behind r 0) (cast_signed w8 v) ∷ program) s
    ≡ program_run program (record { processor = record s.processor { rip = next_address (MovMemImm 8 (behind r 0) (cast_signed w8 v)) s }; array = slice_set s.array (s.processor.regs r.0 - memory_start) v })
unfolding program_run effect row_effect row run address
write_goes r v program s fits byte mapped =
    let at : (s.processor.regs r.0 + 0 + 0) % 2 ^ 64 ≡ s.processor.regs r.0 = omega arith in
    let same : cast_unsigned w64 (cast_signed w8 v) % 2 ^ 8 % 2 ^ 8 ≡ v = low_byte v byte in
    rw (at, mapped, same) refl

read_goes : (to r : Reg) (program : List Instr) (s : EarlyState) → s.processor.regs r.0 < 2 ^ 64 → slice_index s.array (s.processor.regs r.0 - memory_start) < 256 → is_mapped (s.processor.regs r.0) s.array ≡ true
    → program_run (Movzx 8 to (InMem (behind r 0)) ∷ program) s
    ≡ program_run program (with_number s (Movzx 8 to (InMem (behind r 0))) to.0 (slice_index s.array (s.processor.regs r.0 - memory_start)))
unfolding program_run effect row_effect row run address part_written
read_goes to r program s fits byte mapped =
    let at : (s.processor.regs r.0 + 0 + 0) % 2 ^ 64 ≡ s.processor.regs r.0 = omega arith in
    let same : slice_index s.array (s.processor.regs r.0 - memory_start) % 2 ^ 8 % 2 ^ 32 ≡ slice_index s.array (s.processor.regs r.0 - memory_start) = omega arith in
    rw (at, mapped, same) refl

abbrev after_put : EarlyState → EarlyState
after_put s =
    let t : EarlyState = with_number s (load_number rax 0x1003) 0 0x1003 in
    record {
      processor = record s.processor { rip = next_address Syscall t; regs = with_reg (with_reg (with_reg t.processor.regs 1 (next_address Syscall t % 2 ^ 64)) 11 0) 0 0 };
      array = s.array;
    }

put_goes : (program : List Instr) (s : EarlyState) → program_run (service_code 0x1003 ++ program) s ≡ sends_first (s.processor.regs 7 % 0x100) (program_run program (after_put s))
unfolding program_run effect row_effect row run served part_written
put_goes program s = refl

-- ---- the acts

-- between two acts: bnd0 holds the array's bounds, and its bytes are bytes
pub record IsReady (b : Bounds) (array : List ℕ) : Type 0 where
  pub bounds : b ≡ record { lb = array_at; ub = array_at + length array - 1 }
  pub some : 1 ≤ length array
  pub most : length array ≤ 4096
  pub bytes : IsBytes array

-- an index that is within the array, as the checks and the access see it
record Inside (b : Bounds) (array : List ℕ) (index : ℕ) : Type 0 where
  not_below : nat_lt (array_at + index) b.lb ≡ false
  not_above : nat_lt b.ub (array_at + index) ≡ false
  mapped : is_mapped (array_at + index) array ≡ true
  place : array_at + index - memory_start ≡ index

inside : (b : Bounds) (array : List ℕ) (index : ℕ) → IsReady b array → index < length array → Inside b array index
inside b array index ready lt = record {
  not_below = rw ready.bounds (le-ltb _ _ (omega arith));
  not_above = let some = ready.some in rw ready.bounds (le-ltb _ _ (omega arith));
  mapped = and_from (nat_le memory_start (array_at + index)) (nat_lt (array_at + index) (memory_start + length array)) (le-leb memory_start (array_at + index) (omega arith)) (lt-ltb (array_at + index) (memory_start + length array) (omega arith));
  place = omega arith;
}

-- one that is not, as the checks see it
record Outside (b : Bounds) (array : List ℕ) (index : ℕ) : Type 0 where
  not_below : nat_lt (array_at + index) b.lb ≡ false
  above : nat_lt b.ub (array_at + index) ≡ true

outside : (b : Bounds) (array : List ℕ) (index : ℕ) → IsReady b array → length array ≤ index → Outside b array index
outside b array index ready le = record {
  not_below = rw ready.bounds (le-ltb _ _ (omega arith));
  above = let some = ready.some in rw ready.bounds (lt-ltb _ _ (omega arith));
}

abbrev loaded : EarlyState → ℕ → EarlyState
loaded s index = with_number s (load_number rcx (array_at + index)) 1 (array_at + index)

-- the pointer's address in rcx, after its two checks
abbrev pointing : EarlyState → ℕ → EarlyState
pointing s index = past (past (loaded s index) (Bndcl 0 (InReg rcx))) (Bndcu 0 (InReg rcx))

pointer_goes : (index : ℕ) (program : List Instr) (s : EarlyState) → index < 2 ^ 16 → Inside (s.processor.bounds 0) s.array index
    → program_run (pointer_code index ++ program) s ≡ program_run program (pointing s index)
pointer_goes index program s small i =
    number_goes rcx (array_at + index) (Bndcl 0 (InReg rcx) ∷ Bndcu 0 (InReg rcx) ∷ program) s (omega arith)
    ∙ lower_goes rcx (Bndcu 0 (InReg rcx) ∷ program) (loaded s index) i.not_below
    ∙ upper_goes rcx program (past (loaded s index) (Bndcl 0 (InReg rcx))) i.not_above

pointer_ends : (index : ℕ) (program : List Instr) (s : EarlyState) → index < 2 ^ 16 → Outside (s.processor.bounds 0) s.array index
    → program_run (pointer_code index ++ program) s ≡ ended (Violates (array_at + index) (s.processor.bounds 0).lb (s.processor.bounds 0).ub)
pointer_ends index program s small o =
    number_goes rcx (array_at + index) (Bndcl 0 (InReg rcx) ∷ Bndcu 0 (InReg rcx) ∷ program) s (omega arith)
    ∙ lower_goes rcx (Bndcu 0 (InReg rcx) ∷ program) (loaded s index) o.not_below
    ∙ upper_ends rcx program (past (loaded s index) (Bndcl 0 (InReg rcx))) o.above

-- the acts and the end do what they mean, from any state that is ready
abbrev Runs : List Act → ℕ → Type 0
Runs acts code = (s : EarlyState) → IsReady (s.processor.bounds 0) s.array → program_run (flat_map act_code acts ++ end_code code) s ≡ as_code_run (acts_from s.array acts code)

end_runs : (code : ℕ) → code < 256 → Runs [] code
unfolding program_run effect row_effect row run served part_written
end_runs code fits s ready = let low : code % 2 ^ 32 % 2 ^ 32 % 0x100 ≡ code = omega arith in rw low refl

put_runs : (value : ℕ) (acts : List Act) (code : ℕ) → value < 256 → Runs acts code → Runs (Put value ∷ acts) code
put_runs value acts code fits more s ready =
    let program : List Instr = flat_map act_code acts ++ end_code code in
    let low : value % 0x100 ≡ value = omega arith in
    number_goes rdi value (service_code 0x1003 ++ program) s (omega arith)
    ∙ put_goes program (with_number s (load_number rdi value) 7 value)
    ∙ rw low (ap (λ (r : CodeRun). sends_first value r) (more (after_put (with_number s (load_number rdi value) 7 value)) ready))

put_at_runs : (index : ℕ) (acts : List Act) (code : ℕ) → index < 2 ^ 16 → Runs acts code → Runs (PutAt index ∷ acts) code
put_at_runs index acts code small more s ready =
    let program : List Instr = flat_map act_code acts ++ end_code code in
    elim (cases_lt index (length s.array)) [
      | inl lt ↦
          let i = inside (s.processor.bounds 0) s.array index ready lt in
          let test : nat_lt index (length s.array) ≡ true = lt-ltb _ _ lt in
          let byte : slice_index s.array index < 256 = ready.bytes.at index in
          let low : slice_index s.array index % 0x100 ≡ slice_index s.array index = omega arith in
          let t : EarlyState = with_number (pointing s index) (Movzx 8 rdi (InMem element)) 7 (slice_index s.array (array_at + index - memory_start)) in
          let u : EarlyState = with_number (pointing s index) (Movzx 8 rdi (InMem element)) 7 (slice_index s.array index) in
          pointer_goes index (Movzx 8 rdi (InMem element) ∷ service_code 0x1003 ++ program) s small i
          ∙ read_goes rdi rcx (service_code 0x1003 ++ program) (pointing s index) (omega arith) (rw i.place byte) i.mapped
          ∙ put_goes program t
          ∙ rw (i.place, low, test) (ap (λ (r : CodeRun). sends_first (slice_index s.array index) r) (more (after_put u) ready))
      | inr le ↦
          let o = outside (s.processor.bounds 0) s.array index ready le in
          let test : nat_lt index (length s.array) ≡ false = le-ltb _ _ le in
          pointer_ends index (Movzx 8 rdi (InMem element) ∷ service_code 0x1003 ++ program) s small o ∙ rw (ready.bounds, test) refl
    ]

IsBytes-set : (xs : List ℕ) (i v : ℕ) → v < 256 → IsBytes xs → IsBytes (slice_set xs i v)
IsBytes-set xs i v fits h = record {
  at = λ k. elim (cases_eq k i) [
    | inl same ↦ elim (cases_lt i (length xs)) [
      | inl lt ↦ rw (same, get_or-set_same xs i v 0 lt) fits
      | inr le ↦ rw (set_past xs i v le) (h.at k)
    ]
    | inr other ↦ rw (get_or-set_other xs i k v 0 other) (h.at k)
  ];
}

write_runs : (index value : ℕ) (acts : List Act) (code : ℕ) → index < 2 ^ 16 → value < 256 → Runs acts code → Runs (Write index value ∷ acts) code
write_runs index value acts code small fits more s ready =
    let program : List Instr = flat_map act_code acts ++ end_code code in
    elim (cases_lt index (length s.array)) [
      | inl lt ↦
          let i = inside (s.processor.bounds 0) s.array index ready lt in
          let test : nat_lt index (length s.array) ≡ true = lt-ltb _ _ lt in
          let same : length (slice_set s.array index value) ≡ length s.array = length-set s.array index value in
          pointer_goes index (MovMemImm 8 element (cast_signed w8 value) ∷ program) s small i
          ∙ write_goes rcx value program (pointing s index) (omega arith) fits i.mapped
          ∙ rw (i.place, test) (more _ (record { bounds = rw same ready.bounds; some = rw same ready.some; most = rw same ready.most; bytes = IsBytes-set s.array index value fits ready.bytes }))
      | inr le ↦
          let o = outside (s.processor.bounds 0) s.array index ready le in
          let test : nat_lt index (length s.array) ≡ false = le-ltb _ _ le in
          pointer_ends index (MovMemImm 8 element (cast_signed w8 value) ∷ program) s small o ∙ rw (ready.bounds, test) refl
    ]

acts_run : (acts : List Act) (code : ℕ) → code < 256 → AllByRecursion InRange acts → Runs acts code
acts_run [] code fits ranges = end_runs code fits
acts_run (Write index value ∷ acts) code fits ranges = write_runs index value acts code ranges.0.0 ranges.0.1 (acts_run acts code fits ranges.1)
acts_run (PutAt index ∷ acts) code fits ranges = put_at_runs index acts code ranges.0 (acts_run acts code fits ranges.1)
acts_run (Put value ∷ acts) code fits ranges = put_runs value acts code ranges.0 (acts_run acts code fits ranges.1)

-- ---- the whole program

abbrev zeros : ℕ → List ℕ
zeros n = replicate n 0

length-zeros : (n : ℕ) → length (zeros n) ≡ n
length-zeros n = length-replicate n 0

IsBytes-zeros : (n : ℕ) → IsBytes (zeros n)
IsBytes-zeros n = record {
  at = λ i. elim (cases_lt i n) [
    | inl lt ↦ let none : get_or (zeros n) i 0 ≡ 0 = get_or-replicate n i 0 0 lt in rw none (omega arith)
    | inr le ↦ rw (get_or_past (zeros n) i 0 (omega (arith, length-zeros n))) (omega arith)
  ];
}

-- the state after the first two instructions
abbrev after_bounds : ℕ → EarlyState → EarlyState
after_bounds size s =
    let t : EarlyState = with_number s (load_number rbx array_at) 3 array_at in
    record {
      processor = record t.processor { rip = next_address (Bndmk 0 (behind rbx (size - 1))) t; bounds = with_bounds s.processor.bounds 0 (record { lb = array_at; ub = array_at + (size - 1) }) };
      array = s.array;
    }

bounds_goes : (size : ℕ) (body : List Instr) (s : EarlyState) → 1 ≤ size → size ≤ 4096 → program_run (bounds_code size ++ body) s ≡ program_run body (after_bounds size s)
unfolding program_run effect row_effect row run part_written address
bounds_goes size body s some most =
    let last : (array_at + (size - 1)) % 2 ^ 64 ≡ array_at + (size - 1) = omega arith in
    rw last refl

upper_is : (size : ℕ) → 1 ≤ size → array_at + (size - 1) ≡ array_at + size - 1
upper_is size some = omega arith

pub makes_bounds : (size : ℕ) → 1 ≤ size → size ≤ 4096 → MakesBounds size
makes_bounds size some most = record {
  state = after_bounds size (started size);
  leads = λ body. bounds_goes size body (started size) some most;
  bounds = rw (upper_is size some) refl;
}

pub program_runs : (size : ℕ) (acts : List Act) (code : ℕ) → 1 ≤ size → size ≤ 4096 → code < 256 → AllByRecursion InRange acts
    → program_run (program_of size acts code) (started size) ≡ as_code_run (early_run size acts code)
program_runs size acts code some most fits ranges =
    let len : length (zeros size) ≡ size = length-zeros size in
    bounds_goes size (flat_map act_code acts ++ end_code code) (started size) some most
    ∙ acts_run acts code fits ranges (after_bounds size (started size)) (record {
      bounds = rw (len, upper_is size some) refl;
      some = rw len some;
      most = rw len most;
      bytes = IsBytes-zeros size;
    })
