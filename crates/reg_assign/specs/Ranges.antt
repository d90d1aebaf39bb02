-- What holds of the ranges in which values live.
use Rattle.std.specs.Prelude.{◌≡◌, ◌≢◌, ℕ, ◌<◌, ◌≤◌, length, slice_index_or}
use Rattle.fat_ir.specs.declared.program.FatFun.{FatFun}
use Rattle.fat_ir.specs.Spans.{Range, Holds, Spans}
use Rattle.reg_assign.specs.declared.lives.LiveRange.{LiveRange}
use Rattle.reg_assign.specs.declared.lives.Lives.{Lives}
use Rattle.reg_assign.specs.Lives.{range_in, from_of, past_of}

abbrev pub as_range : LiveRange → Range
as_range r = record { from = r.from; past = r.past }

-- the range of a value
abbrev pub lived : Lives → ℕ → Range
lived l v = as_range (range_in l.ranges v)

-- each value's range is its span: it has the three properties, and no step that another range with them lacks. Those that live anywhere
-- stand in order, each once, by the beginnings of their ranges
pub record AreSpans (f : FatFun) (l : Lives) : Type 0 where
  pub spans : (v : ℕ) → Spans f v (lived l v)
  pub least : (v : ℕ) (s : Range) → Spans f v s → (i : ℕ) → Holds (lived l v) i → Holds s i
  pub some : (v : ℕ) → 0 < past_of l v → from_of l v < past_of l v
  pub within : (v : ℕ) → 0 < past_of l v → v < length f.bounds
  pub ends : 1 ≤ length f.steps → (v : ℕ) → past_of l v ≤ length f.steps
  pub listed : (j : ℕ) → j < length l.order → 0 < past_of l (slice_index_or l.order j 0)
  pub once : (v : ℕ) → 0 < past_of l v → (j : ℕ) × (j < length l.order) × (slice_index_or l.order j 0 ≡ v)
  pub apart : (j k : ℕ) → j < k → k < length l.order → slice_index_or l.order j 0 ≢ slice_index_or l.order k 0
  pub rising : (j k : ℕ) → j < k → k < length l.order → from_of l (slice_index_or l.order j 0) ≤ from_of l (slice_index_or l.order k 0)
