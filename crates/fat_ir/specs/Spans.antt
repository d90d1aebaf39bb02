-- The spans of a function's values, and what a home for each value needs of them. The span of a value is the least range of steps with three
-- properties: it holds every step that names the value; for a private variable, and for a temporary in which a parameter arrives, it holds the
-- function's first step; and if it begins at or before a label and reaches into the range from that label to a later jump back to it, it holds that
-- whole range.
use Rattle.std.specs.Prelude.{◌≡◌, ℕ, ◌+◌, ◌<◌, ◌≤◌, max, min, Bool, true, false, Some, List, [], ◌∷◌, ◌++◌, length, slice_get, slice_index_or}
use Rattle.std.specs.List.{All, Contains}
use Rattle.fat_ir.specs.declared.program.FatFun.{FatFun}
use Rattle.fat_ir.specs.declared.step.FatStep.{FatStep}
use Rattle.fat_ir.specs.declared.step.FatStep.TheVariants.{Label, Jump, JumpIf}
use Rattle.fat_ir.specs.Named.{reads, writes}

-- the values that a step names
abbrev pub named : FatStep → List ℕ
named step = reads step ++ writes step

abbrev pub StandsAt : List FatStep → (place : ℕ) → FatStep → Type 0
StandsAt steps i step = slice_get steps i ≡ Some step

-- ---- ways back

abbrev pub JumpsToLabel : (number : ℕ) → FatStep → Type 0
JumpsToLabel number (Jump n) = n ≡ number
JumpsToLabel number (JumpIf from n) = n ≡ number
JumpsToLabel number _ = ⊥

-- the step at `jump` jumps back to the label at `label`
pub record WayBack (steps : List FatStep) (label jump : ℕ) : Type 0 where
  pub number : ℕ
  pub step : FatStep
  pub earlier : label ≤ jump
  pub begins : StandsAt steps label (Label number)
  pub ends : StandsAt steps jump step
  pub jumps : JumpsToLabel number step

-- ---- spans

-- the steps from one place on, up to another
pub record Range : Type 0 where
  pub from : ℕ
  pub past : ℕ

abbrev pub Holds : Range → ℕ → Type 0
Holds r i = (r.from ≤ i) × (i < r.past)

-- the steps that two ranges hold
abbrev pub shared : Range → Range → Range
shared r s = record { from = max r.from s.from; past = min r.past s.past }

-- a range with the three properties for a value v
pub record Spans (f : FatFun) (v : ℕ) (r : Range) : Type 0 where
  pub names : (i : ℕ) (step : FatStep) → StandsAt f.steps i step → Contains (named step) v → Holds r i
  pub first : v < f.private + f.arrived → Holds r 0
  pub whole : (label jump : ℕ) → WayBack f.steps label jump → r.from ≤ label → (i : ℕ) → label ≤ i → i ≤ jump → Holds r i → (j : ℕ) → label ≤ j → j ≤ jump → Holds r j

-- a step lies in the span of a value: each range with the three properties holds it
abbrev pub InSpan : FatFun → (v : ℕ) → (place : ℕ) → Type 0
InSpan f v i = (r : Range) → Spans f v r → Holds r i

-- ---- how many spans share a step

-- a value of a function that is bounds, or a number
abbrev pub HasSort : FatFun → (is_bounds : Bool) → (v : ℕ) → Type 0
HasSort f is_bounds v = (v < f.private + f.temps) × (slice_index_or f.bounds v false ≡ is_bounds)

-- values in order, each once, of which none is below the least
abbrev pub Rising : (least : ℕ) → List ℕ → Type 0
Rising least [] = Unit {0}
Rising least (v ∷ vs) = (least ≤ v) × Rising (v + 1) vs

-- a step lies in the spans of at most so many bounds, or numbers
abbrev pub InFewSpans : (most : ℕ) → FatFun → (is_bounds : Bool) → (place : ℕ) → Type 0
InFewSpans most f is_bounds i = (values : List ℕ) → Rising 0 values → All (λ v. HasSort f is_bounds v × InSpan f v i) values → length values ≤ most

-- how many numbers, and how many bounds, may share a step: those of 64 private variables and 88 temporaries
abbrev pub most_at_once : ℕ
most_at_once = 152

-- what homes for a function's values need
pub record IsAssignable (f : FatFun) : Type 0 where
  pub numbered : length f.bounds ≡ f.private + f.temps
  pub arrived : f.arrived ≤ f.temps
  pub below : (i : ℕ) (step : FatStep) → StandsAt f.steps i step → All (λ v. v < f.private + f.temps) (named step)
  pub numbers : (i : ℕ) → InFewSpans most_at_once f false i
  pub bounds : (i : ℕ) → InFewSpans most_at_once f true i
