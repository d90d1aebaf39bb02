-- Which homes values may have, and what they and the spans of values must be.
use Rattle.std.specs.Prelude.{◌≡◌, ◌≢◌, ℕ, ◌+◌, ◌-◌, nat_lt, ◌<◌, ◌≤◌, ◌⊎◌, Bool, true, false, nat_eq, if◌then◌else◌, List, ◌∷◌, ◌++◌, length}
use Rattle.fat_ir.specs.declared.step.FatStep.{FatStep}
use Rattle.fat_ir.specs.declared.step.FatStep.TheVariants as s
use Rattle.fat_ir.specs.declared.program.FatFun.{FatFun}
use Rattle.fat_ir.specs.Spans.{JumpsToLabel, Range, Holds, Spans}
use Rattle.step_code.specs.declared.homes.Home.{Home}
use Rattle.step_code.specs.declared.homes.Home.TheVariants.{Reg, Slot, Bnd}
use Rattle.step_code.specs.Steps.{Plan}

-- a register that code of functions may write: neither the stack pointer nor one that C never touches
pub record IsFree (r : ℕ) : Type 0 where
  pub rbx : nat_eq 3 r ≡ false
  pub rsp : nat_eq 4 r ≡ false
  pub rbp : nat_eq 5 r ≡ false
  pub r12 : nat_eq 12 r ≡ false
  pub r13 : nat_eq 13 r ≡ false
  pub r14 : nat_eq 14 r ≡ false
  pub r15 : nat_eq 15 r ≡ false

-- a register that is a home: neither a scratch one nor one that C leaves
pub record IsHomeReg (r : ℕ) : Type 0 where
  pub free : IsFree r
  pub rax : nat_eq r 0 ≡ false
  pub rcx : nat_eq r 1 ≡ false
  pub rdx : nat_eq r 2 ≡ false

pub record IsHomeBnd (b : ℕ) : Type 0 where
  pub bnd0 : nat_eq b 0 ≡ false
  pub bnd1 : nat_eq b 1 ≡ false

-- a home that a number, or bounds, may have
abbrev pub IsNumberHome : ℕ → Home → Type 0
IsNumberHome units (Reg r) = IsHomeReg r
IsNumberHome units (Slot k) = k < units
IsNumberHome units (Bnd b) = ⊥

abbrev pub IsPairHome : ℕ → Home → Type 0
IsPairHome units (Reg r) = ⊥
IsPairHome units (Slot k) = k + 1 < units
IsPairHome units (Bnd b) = IsHomeBnd b

abbrev pub width : Bool → ℕ
width b = if b then 2 else 1

-- two homes share no word and no register
abbrev pub Apart : Bool → Home → Bool → Home → Type 0
Apart a (Slot j) b (Slot k) = (j + width a ≤ k) ⊎ (k + width b ≤ j)
Apart a (Reg r) b (Reg q) = r ≢ q
Apart a (Bnd c) b (Bnd d) = c ≢ d
Apart a g b h = Unit {0}

abbrev pub IsSlot : Home → Type 0
IsSlot (Slot k) = Unit {0}
IsSlot _ = ⊥

-- what homes and spans must be
pub record Assigned (units private : ℕ) (steps : List FatStep) (p : Plan) (first last : ℕ → ℕ) : Type 0 where
  pub private_first : (x : ℕ) → x < private → first x ≡ 0
  pub apart : (x y i : ℕ) → x ≢ y → first x ≤ i → i ≤ last x → first y ≤ i → i ≤ last y → Apart (p.is_bounds x) (p.home x) (p.is_bounds y) (p.home y)
  pub round : (x k : ℕ) (a rest pre more : List FatStep) (step : FatStep) → steps ≡ a ++ s.Label k ∷ rest → steps ≡ pre ++ step ∷ more → JumpsToLabel k step → length a ≤ length pre
      → first x ≤ length a → length a ≤ last x → length pre ≤ last x
  pub number_fits : (x : ℕ) → p.is_bounds x ≡ false → IsNumberHome units (p.home x)
  pub pair_fits : (x : ℕ) → p.is_bounds x ≡ true → IsPairHome units (p.home x)

-- homes for a function's values, in a frame of so many words: each value has a range with the three properties, values whose ranges share a
-- step have homes that share nothing, and each home is one for the value's sort
pub record HaveHomes (f : FatFun) (units : ℕ) (p : Plan) (range : ℕ → Range) : Type 0 where
  pub spans : (v : ℕ) → Spans f v (range v)
  pub apart : (u v i : ℕ) → u ≢ v → Holds (range u) i → Holds (range v) i → Apart (p.is_bounds u) (p.home u) (p.is_bounds v) (p.home v)
  pub number_fits : (v : ℕ) → p.is_bounds v ≡ false → IsNumberHome units (p.home v)
  pub pair_fits : (v : ℕ) → p.is_bounds v ≡ true → IsPairHome units (p.home v)

-- the first and the last step of a range; an empty one begins nowhere
abbrev pub first_in : Range → ℕ
first_in r = if nat_lt r.from r.past then r.from else 0xffff_ffff_ffff_ffff

abbrev pub last_in : Range → ℕ
last_in r = r.past - 1
