-- A source over memory.
use Rattle.std.specs.Prelude.{ℕ, List, drop}
use Rattle.mx_base.specs.Outside.{one_more}
use Rattle.mx_base.specs.Calls.{Planned, planned, after_call}

-- the bytes left, the calls, and how many of them failed
pub record SourceState : Type 0 where
  pub left : List ℕ
  pub calls : Planned
  pub faults : ℕ

-- with all its bytes left, before the first call
abbrev pub source_of : List ℕ → List ℕ → SourceState
source_of bytes fails = record { left = bytes; calls = planned fails; faults = 0 }

-- after a call that took n bytes
abbrev pub after_take : SourceState → ℕ → SourceState
after_take s n = record { left = drop n s.left; calls = after_call s.calls; faults = s.faults }

-- after a call that failed
abbrev pub after_refused : SourceState → SourceState
after_refused s = record { left = s.left; calls = after_call s.calls; faults = one_more s.faults }
