-- What the verdicts of the watch mean, byte by byte and address by address.
use Rattle.std.specs.Prelude.{◌≡◌, ℕ, ◌+◌, ◌<◌, ◌≤◌, ◌≢◌, ◌⊎◌, Bool, true, false, Option, None, Some}
use Rattle.mx_base.specs.Bounds.{moved}
use Rattle.mx_base.specs.Regions.{instrumented_code, is_in, is_sealed}
use Rattle.x86_forms.specs.declared.instr.Instr.{Instr}
use Rattle.x86_forms.specs.declared.instr.Mem.{Mem}
use Rattle.x86_forms.specs.declared.spans.Span.{Span}
use Rattle.x86_forms.specs.Processor.{address}
use Rattle.x86_forms.specs.Watch.{is_watched, landing, outer_entry, outer_size}

-- an access is at the address of the instruction's memory operand, unless it is implicit
abbrev pub IsAtOperand : (ℕ → ℕ) → ℕ → Option Mem → Span → Type 0
IsAtOperand regs next None s = s.implicit ≡ true
IsAtOperand regs next (Some m) s = (s.implicit ≡ true) ⊎ (s.at ≡ address regs next m)

-- byte k of an access is the first that is sealed, and x is its address
pub record IsFirstSealed (s : Span) (k x : ℕ) : Type 0 where
  pub within : k < s.size
  pub address : x ≡ moved s.at k
  pub sealed : is_sealed x ≡ true
  pub before : (j : ℕ) → j < k → is_sealed (moved s.at j) ≡ false

-- an access of the instruction at address `from` is watched, and x is the address of its first sealed byte
pub record StraysAt (i : Instr) (from : ℕ) (s : Span) (x : ℕ) : Type 0 where
  pub watched : is_watched i from s ≡ true
  pub first : (k : ℕ) × IsFirstSealed s k x

-- no byte of an access is sealed
abbrev pub HasNoSealedByte : Span → Type 0
HasNoSealedByte s = (k : ℕ) → k < s.size → is_sealed (moved s.at k) ≡ false

-- the address lies in an outer entry of so many
abbrev pub LiesInOuter : ℕ → ℕ → Type 0
LiesInOuter outers a = (k : ℕ) × (k < outers) × (outer_entry k ≤ a) × (a < outer_entry k + outer_size)

-- control goes from legacy code, or by the return of an outer entry, into instrumented code at x, which is neither the landing
-- nor an outer entry that is called
pub record StraysInto (from to : ℕ) (call ret : Bool) (outers x : ℕ) : Type 0 where
  pub address : x ≡ to
  pub inside : is_in instrumented_code to ≡ true
  pub legacy : (is_in instrumented_code from ≡ false) ⊎ ((ret ≡ true) × LiesInOuter outers from)
  pub no_landing : to ≢ landing
  pub no_entry : call ≡ true → (k : ℕ) → k < outers → to ≢ outer_entry k
