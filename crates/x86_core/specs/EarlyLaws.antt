-- The run of code is determined by its bytes.
use Rattle.std.specs.Prelude.{◌≡◌, ℕ, ◌<◌, List}
use Rattle.std.specs.List.{All}
use Rattle.x86_forms.specs.EarlyCode.{CodeRun, CodeRuns}

-- this code has exactly one run
pub record RunsOnce (code : List ℕ) (size : ℕ) : Type 0 where
  pub run : CodeRun
  pub is : CodeRuns code size run
  pub only : (other : CodeRun) → CodeRuns code size other → other ≡ run

-- and all code has one
abbrev pub EachRunsOnce : Type 0
EachRunsOnce = (code : List ℕ) (size : ℕ) → All (λ b. b < 256) code → RunsOnce code size
