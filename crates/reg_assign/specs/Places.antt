-- Places for the values of one kind, numbers or bounds: registers first, and then slots.
use Rattle.std.specs.Prelude.{◌≡◌, ◌≢◌, ℕ, ◌+◌, ◌<◌, ◌≤◌, ◌⊎◌, Bool, true, false, List, length, slice_index_or}
use Rattle.std.specs.List.{All}
use Rattle.fat_ir.specs.declared.program.FatFun.{FatFun}
use Rattle.fat_ir.specs.Spans.{Rising, HasSort, InSpan}
use Rattle.reg_assign.specs.declared.lives.Lives.{Lives}
use Rattle.reg_assign.specs.Lives.{range_in, from_of, past_of}
use Rattle.reg_assign.specs.Noise.{counts_from, quiet_by}
use Rattle.reg_assign.specs.Wishing.{IsWishing, WishesFor}

-- a place that a value may get at a step, where each place is taken up to another step: it is free there, unless none is; it is no
-- register if the value isn't quiet, and none before the least one; and all before it that the value may have are taken
pub record IsPick (until : ℕ → ℕ) (total at : ℕ) (quiet : Bool) (least registers place : ℕ) : Type 0 where
  pub within : place ≤ total
  pub free : place < total → until place ≤ at
  pub slot : quiet ≡ false → registers ≤ place
  pub low : quiet ≡ true → least ≤ place
  pub busy : (c : ℕ) → c < place → (registers ≤ c) ⊎ ((quiet ≡ true) × (least ≤ c)) → at < until c

-- whether the span of a value is without calls and services
abbrev pub is_quiet : FatFun → Lives → ℕ → Bool
is_quiet f l v = quiet_by (counts_from 0 f.steps) (range_in l.ranges v)

-- more than so many values of a kind have quiet spans that hold a step
pub record Crowded (f : FatFun) (quiet : ℕ → Bool) (sort : Bool) (most place : ℕ) : Type 0 where
  pub values : List ℕ
  pub rising : Rising 0 values
  pub quiet_here : All (λ u. HasSort f sort u × InSpan f u place × (quiet u ≡ true)) values
  pub many : most < length values

-- places of all values of a kind that live anywhere; the others have the first one
pub record ArePlaced (f : FatFun) (l : Lives) (sort : Bool) (registers : ℕ) (wishes : List ℕ) (place : ℕ → ℕ) : Type 0 where
  pub within : (v : ℕ) → place v < registers + 152
  pub idle : (v : ℕ) → past_of l v ≡ 0 → place v ≡ 0
  pub apart : (u v : ℕ) → u ≢ v → 0 < past_of l u → 0 < past_of l v → slice_index_or f.bounds u false ≡ sort
      → slice_index_or f.bounds v false ≡ sort → place u ≡ place v → (past_of l u ≤ from_of l v) ⊎ (past_of l v ≤ from_of l u)
  pub slots : (v : ℕ) → 0 < past_of l v → slice_index_or f.bounds v false ≡ sort → is_quiet f l v ≡ false → registers ≤ place v
  pub crowded : (v : ℕ) → 0 < past_of l v → slice_index_or f.bounds v false ≡ sort → registers ≤ place v → is_quiet f l v ≡ true
      → Crowded f (is_quiet f l) sort registers (from_of l v)
  pub granted : (v : ℕ) → 0 < past_of l v → slice_index_or f.bounds v false ≡ sort → IsWishing wishes v
      → WishesFor wishes v (place v) ⊎ (registers ≤ place v)
