-- Additions, subtractions, comparisons, hops and the stop for want of stack, as equations between runs.
use Rattle.call_gates.specs.Gates.{in_reg}
use Rattle.obj_file.specs.Finals.{clean_now}
use Rattle.std.specs.Prelude.{if◌then◌else◌, pos}
use Rattle.std.proofs.Common.{◌≡◌, ℕ, ◌+◌, ◌-◌, ◌^◌, ◌%◌, ◌<◌, ◌≤◌, Bool, true, false, refl, arith, ap, ◌∙◌}
use Rattle.std.proofs.lemmas.Bool.Decides.{nat_tests}
use Rattle.mx_base.specs.declared.stops.Stop.TheVariants as stop
use Rattle.mx_base.specs.Memory.{Bytes}
use Rattle.mx_base.specs.Regions.{instrumented_code, is_in}
use Rattle.mx_base.specs.Services.{service_of, served}
use Rattle.x86_forms.specs.declared.instr.Instr.TheVariants.{AluImm, Jcc, Syscall}
use Rattle.x86_forms.specs.Arithmetic.{Flags, Add, Sub, Cmp, flags_after, result_of, low, holds}
use Rattle.x86_forms.specs.Processor.{Processor, with_reg, part_written}
use Rattle.x86_forms.specs.Requests.{Ends, run}
use Rattle.x86_forms.specs.Table.{row, imm_value}
use Rattle.x86_forms.proofs.Conditions.{compare_64}
use Rattle.obj_file.specs.Machine.{Is, State, Stops, event, event_of, deed_of, executed, asked, reach_strays}
use Rattle.obj_file.specs.Stored.{Stored}
use Rattle.legacy_calls.specs.Legacy.{Linkage, ground}
use Rattle.gate_laws.specs.Placed.{HasCode, StandsAt}
use Rattle.gate_laws.proofs.Steps.{by_reading, next_fits, clean_there}
use Rattle.gate_laws.proofs.Walks.{Leads, free_leads}

-- the flags of an operation with a constant
abbrev pub alu_flags : (r n : ℕ) → Processor → Flags
alu_flags r n c = c.flags

abbrev pub added_flags : (r n : ℕ) → Processor → Flags
added_flags r n c = flags_after Add 64 (low 64 (c.regs r)) (imm_value 64 (pos n)) c.flags

abbrev pub taken_flags : (r n : ℕ) → Processor → Flags
taken_flags r n c = flags_after Sub 64 (low 64 (c.regs r)) (imm_value 64 (pos n)) c.flags

abbrev pub compared_flags : (r n : ℕ) → Processor → Flags
compared_flags r n c = flags_after Cmp 64 (low 64 (c.regs r)) (imm_value 64 (pos n)) c.flags

add_row : (c : Processor) (next r x n : ℕ) → c.regs r ≡ x → x + n < 2 ^ 64 → n < 2 ^ 31 → row (AluImm 0 64 (in_reg r) (pos n)) next c ≡ Ends (record c { rip = next; regs = with_reg c.regs r (x + n); flags = added_flags r n c })
unfolding row result_of part_written
add_row c next r x n is small few =
    let e : (c.regs r % 2 ^ 64 + n % 2 ^ 64) % 2 ^ 64 % 2 ^ 64 ≡ x + n = omega arith in
    ap (λ (v : ℕ). Ends (record c { rip = next; regs = with_reg c.regs r v; flags = added_flags r n c })) e

take_row : (c : Processor) (next r x n : ℕ) → c.regs r ≡ x → n ≤ x → x < 2 ^ 64 → n < 2 ^ 31 → row (AluImm 3 64 (in_reg r) (pos n)) next c ≡ Ends (record c { rip = next; regs = with_reg c.regs r (x - n); flags = taken_flags r n c })
unfolding row result_of part_written
take_row c next r x n is fits small few =
    let e : (c.regs r % 2 ^ 64 + (2 ^ 64 - n % 2 ^ 64)) % 2 ^ 64 % 2 ^ 64 ≡ x - n = omega arith in
    ap (λ (v : ℕ). Ends (record c { rip = next; regs = with_reg c.regs r v; flags = taken_flags r n c })) e

compare_row : (c : Processor) (next r n : ℕ) → row (AluImm 5 64 (in_reg r) (pos n)) next c ≡ Ends (record c { rip = next; flags = compared_flags r n c })
unfolding row
compare_row c next r n = refl

module _ (r x n : ℕ) (c : Processor) (is : c.regs r ≡ x) (small : x < 2 ^ 64) (few : n < 2 ^ 31) where
  as_words : (condition : ℕ) → holds condition (compared_flags r n c) ≡ holds condition (flags_after Cmp 64 x n c.flags)
  as_words condition =
      let e : low 64 (c.regs r) ≡ x = omega arith in
      let f : imm_value 64 (pos n) ≡ n = omega arith in
      λ i. holds condition (flags_after Cmp 64 (e i) (f i) c.flags)

  pub is_below : x < n → holds 2 (compared_flags r n c) ≡ true
  is_below less = as_words 2 ∙ (compare_64 x n c.flags small (omega arith)).below.1 less

  pub not_below : n ≤ x → holds 2 (compared_flags r n c) ≡ false
  not_below le = as_words 2 ∙ by (holds 2 (flags_after Cmp 64 x n c.flags)) refl
    where
      by : (b : Bool) → holds 2 (flags_after Cmp 64 x n c.flags) ≡ b → holds 2 (flags_after Cmp 64 x n c.flags) ≡ false
      by true h = let wrong = (compare_64 x n c.flags small (omega arith)).below.0 h in absurd (omega arith)
      by false h = h

  pub is_least : n ≤ x → holds 3 (compared_flags r n c) ≡ true
  is_least le = as_words 3 ∙ (compare_64 x n c.flags small (omega arith)).at_least.1 le

  pub not_least : x < n → holds 3 (compared_flags r n c) ≡ false
  not_least less = as_words 3 ∙ by (holds 3 (flags_after Cmp 64 x n c.flags)) refl
    where
      by : (b : Bool) → holds 3 (flags_after Cmp 64 x n c.flags) ≡ b → holds 3 (flags_after Cmp 64 x n c.flags) ≡ false
      by true h = let wrong = (compare_64 x n c.flags small (omega arith)).at_least.0 h in absurd (omega arith)
      by false h = h

hop_row : (c : Processor) (condition next skip : ℕ) (b : Bool) → next + skip < 2 ^ 62 → holds condition c.flags ≡ b → row (Jcc true condition (pos skip)) next c ≡ Ends (record c { rip = if b then next + skip else next })
unfolding row
hop_row c condition next skip true small is = let e : (next + skip) % 2 ^ 64 ≡ next + skip = omega arith in rw is (ap (λ (a : ℕ). Ends (record c { rip = a })) e)
hop_row c condition next skip false small is = rw is refl

code_low : (a : ℕ) → is_in instrumented_code a ≡ true → a < 0x1100_0000
code_low a h = grind (arith, nat_tests)

module _ (k : Linkage) (image : Bytes) where
  pub add_leads : (r x n size : ℕ) (c : Processor) (y : Stored) → StandsAt k image c.rip (AluImm 0 64 (in_reg r) (pos n)) size → 0 < size → HasCode image y → c.regs r ≡ x → x + n < 2 ^ 64 → n < 2 ^ 31
      → Leads k image c y (record c { rip = c.rip + size; regs = with_reg c.regs r (x + n); flags = added_flags r n c }) y
  add_leads r x n size c y st some code is small few = free_leads k image (AluImm 0 64 (in_reg r) (pos n)) size c (record c { rip = c.rip + size; regs = with_reg c.regs r (x + n); flags = added_flags r n c }) y st code refl refl (add_row c (c.rip + size) r x n is small few) (omega arith)

  pub take_leads : (r x n size : ℕ) (c : Processor) (y : Stored) → StandsAt k image c.rip (AluImm 3 64 (in_reg r) (pos n)) size → 0 < size → HasCode image y → c.regs r ≡ x → n ≤ x → x < 2 ^ 64 → n < 2 ^ 31
      → Leads k image c y (record c { rip = c.rip + size; regs = with_reg c.regs r (x - n); flags = taken_flags r n c }) y
  take_leads r x n size c y st some code is fits small few = free_leads k image (AluImm 3 64 (in_reg r) (pos n)) size c (record c { rip = c.rip + size; regs = with_reg c.regs r (x - n); flags = taken_flags r n c }) y st code refl refl (take_row c (c.rip + size) r x n is fits small few) (omega arith)

  pub compare_leads : (r n size : ℕ) (c : Processor) (y : Stored) → StandsAt k image c.rip (AluImm 5 64 (in_reg r) (pos n)) size → 0 < size → HasCode image y
      → Leads k image c y (record c { rip = c.rip + size; flags = compared_flags r n c }) y
  compare_leads r n size c y st some code = free_leads k image (AluImm 5 64 (in_reg r) (pos n)) size c (record c { rip = c.rip + size; flags = compared_flags r n c }) y st code refl refl (compare_row c (c.rip + size) r n) (omega arith)

  -- a hop, over some bytes or not
  pub hop_over : (condition skip to : ℕ) (c : Processor) (y : Stored) → StandsAt k image c.rip (Jcc true condition (pos skip)) 7 → skip < 2 ^ 31 → HasCode image y → holds condition c.flags ≡ true → c.rip + 7 + skip ≡ to
      → Leads k image c y (record c { rip = to }) y
  hop_over condition skip to c y st few code holding at = let low = code_low c.rip st.inside in
      free_leads k image (Jcc true condition (pos skip)) 7 c (record c { rip = to }) y st code refl refl (hop_row c condition (c.rip + 7) skip true (omega arith) holding ∙ ap (λ (a : ℕ). Ends (record c { rip = a })) at) (omega arith)

  pub hop_not : (condition skip : ℕ) (c : Processor) (y : Stored) → StandsAt k image c.rip (Jcc true condition (pos skip)) 7 → skip < 2 ^ 31 → HasCode image y → holds condition c.flags ≡ false
      → Leads k image c y (record c { rip = c.rip + 7 }) y
  hop_not condition skip c y st few code holding = let low = code_low c.rip st.inside in
      free_leads k image (Jcc true condition (pos skip)) 7 c (record c { rip = c.rip + 7 }) y st code refl refl (hop_row c condition (c.rip + 7) skip false (omega arith) holding) (omega arith)

  -- the stop for want of stack
  pub tidy_overflow : (s : State Stored) → StandsAt k image s.processor.rip Syscall 2 → HasCode image s.memory → s.processor.regs 0 ≡ 0x1005 → clean_now (ground k) s ≡ true
  unfolding service_of
  tidy_overflow s st code is = clean_there k.reads k.outers k.preserve s Syscall 2 st.inside st.small (st.reads s refl code) (rw is refl)

  pub overflows_there : (s : State Stored) → StandsAt k image s.processor.rip Syscall 2 → HasCode image s.memory → s.processor.regs 0 ≡ 0x1005 → event (ground k) s ≡ Stops false stop.StackOver s
  unfolding deed_of executed asked reach_strays run row service_of served
  overflows_there s st code is =
      by_reading k.reads k.outers k.preserve s (Is Syscall 2) st.inside (st.reads s refl code)
      ∙ ap (λ a. event_of s false (deed_of (ground k) Syscall a s)) (next_fits s.processor.rip 2 st.inside st.small)
      ∙ (let inside = st.inside in rw (is, inside) refl)
