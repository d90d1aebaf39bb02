-- What is promised of the homes of a function's values.
use Rattle.std.specs.Prelude.{◌≡◌, ◌≢◌, ℕ, zero, suc, ◌+◌, ◌*◌, ◌-◌, ◌<◌, ◌≤◌, ◌⊎◌, nat_lt, Bool, true, false, if◌then◌else◌, List, [], ◌∷◌, length, slice_index_or}
use Rattle.std.specs.List.{All}
use Rattle.fat_ir.specs.declared.program.FatFun.{FatFun}
use Rattle.fat_ir.specs.declared.step.FatStep.{FatStep}
use Rattle.fat_ir.specs.Spans.{StandsAt, Range, Holds, Spans, InSpan, HasSort, Rising}
use Rattle.step_code.specs.declared.homes.Home.{Home}
use Rattle.step_code.specs.declared.homes.Home.TheVariants.{Reg, Slot, Bnd}
use Rattle.step_code.specs.Homes.{IsNumberHome, IsPairHome, Apart, IsSlot}
use Rattle.reg_assign.specs.declared.homes.Homes.{Homes}
use Rattle.reg_assign.specs.Noise.{is_call}

-- the registers that are homes of numbers, in the order of their places: rdi, rsi, r10, r11, r8, r9
abbrev pub register_at : ℕ → ℕ
register_at zero = 7
register_at (suc zero) = 6
register_at (suc (suc zero)) = 10
register_at (suc (suc (suc zero))) = 11
register_at (suc (suc (suc (suc zero)))) = 8
register_at (suc (suc (suc (suc (suc n))))) = 9

-- the home of a number by its place, and of bounds, whose slots stand behind so many words
abbrev pub number_home : ℕ → Home
number_home place = if nat_lt place 6 then Reg (register_at place) else Slot (place - 6)

abbrev pub pair_home : (words : ℕ) → ℕ → Home
pair_home words place = if nat_lt place 2 then Bnd (place + 2) else Slot (words + 2 * (place - 2))

abbrev pub is_bounds_in : FatFun → ℕ → Bool
is_bounds_in f v = slice_index_or f.bounds v false

-- the home of a value; what is no value of the function has a register
abbrev pub home_in : List Home → ℕ → Home
home_in homes v = slice_index_or homes v (Reg 7)

-- the homes of the values from v on, of which these are bounds, by the places of numbers and of bounds
abbrev pub homes_by : (number bounds : ℕ → ℕ) → (words v : ℕ) → List Bool → List Home
homes_by number bounds words v [] = []
homes_by number bounds words v (b ∷ bs) =
    (if b then pair_home words (bounds v) else number_home (number v)) ∷ homes_by number bounds words (v + 1) bs

-- a home that instructions can name: registers are below 16, bounds registers below 4, and a frame has at most 504 words
abbrev pub IsNamed : Home → Type 0
IsNamed (Reg r) = r < 16
IsNamed (Slot k) = k < 504
IsNamed (Bnd b) = b < 4

-- ---- when a value may have a slot

-- no call and no service stands in the span of a value
abbrev pub IsQuiet : FatFun → ℕ → Type 0
IsQuiet f v = (i : ℕ) (step : FatStep) → StandsAt f.steps i step → InSpan f v i → is_call step ≡ false

-- one does
pub record HoldsCall (f : FatFun) (v : ℕ) : Type 0 where
  pub place : ℕ
  pub step : FatStep
  pub stands : StandsAt f.steps place step
  pub in_span : InSpan f v place
  pub call : is_call step ≡ true

-- the span of a value holds a step that lies in more than so many quiet spans of numbers, or of bounds
pub record InManyQuiet (f : FatFun) (is_bounds : Bool) (most v : ℕ) : Type 0 where
  pub place : ℕ
  pub in_span : InSpan f v place
  pub values : List ℕ
  pub rising : Rising 0 values
  pub quiet : All (λ u. HasSort f is_bounds u × InSpan f u place × IsQuiet f u) values
  pub many : most < length values

-- ---- what is promised

-- Each value has its span. Values whose spans share a step have homes that share no word and no register. A value whose span holds a call
-- or a service has a slot. A number has one only there, or where its span holds a step in more than six quiet spans of numbers, and so have
-- bounds with more than two quiet spans of bounds. The words of the slots are the first of the frame, 456 at most. Instructions can name
-- each home.
pub record AreHomes (f : FatFun) (h : Homes) : Type 0 where
  pub numbered : length h.homes ≡ length f.bounds
  pub few : h.words ≤ 456
  pub span : ℕ → Range
  pub spans : (v : ℕ) → Spans f v (span v)
  pub least : (v i : ℕ) → Holds (span v) i → InSpan f v i
  pub ends : 1 ≤ length f.steps → (v : ℕ) → (span v).past ≤ length f.steps
  pub apart : (u v i : ℕ) → u ≢ v → InSpan f u i → InSpan f v i
      → Apart (is_bounds_in f u) (home_in h.homes u) (is_bounds_in f v) (home_in h.homes v)
  pub number_fits : (v : ℕ) → is_bounds_in f v ≡ false → IsNumberHome h.words (home_in h.homes v)
  pub pair_fits : (v : ℕ) → is_bounds_in f v ≡ true → IsPairHome h.words (home_in h.homes v)
  pub calls : (v i : ℕ) (step : FatStep) → StandsAt f.steps i step → is_call step ≡ true → InSpan f v i → IsSlot (home_in h.homes v)
  pub number_slots : (v : ℕ) → is_bounds_in f v ≡ false → IsSlot (home_in h.homes v) → HoldsCall f v ⊎ InManyQuiet f false 6 v
  pub pair_slots : (v : ℕ) → is_bounds_in f v ≡ true → IsSlot (home_in h.homes v) → HoldsCall f v ⊎ InManyQuiet f true 2 v
  pub named : (v : ℕ) → IsNamed (home_in h.homes v)
