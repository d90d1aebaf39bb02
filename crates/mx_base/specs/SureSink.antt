-- A sink over memory that never fails.
use Rattle.std.specs.Prelude.{ℕ, ◌-◌, nat_lt, Bool, false, ◌||◌, Option, None, Some, if◌then◌else◌, List, [], ◌++◌, length, take}

-- the bytes held, how many may be, and whether any was dropped
pub record SureSinkState : Type 0 where
  pub held : List ℕ
  pub room : ℕ
  pub dropped : Bool

-- with nothing held
abbrev pub sure_sink_of : ℕ → SureSinkState
sure_sink_of room = record { held = []; room = room; dropped = false }

-- what it tells: what it holds, as long as nothing was dropped
abbrev pub sink_told : SureSinkState → Option (List ℕ)
sink_told s = if s.dropped then None else Some s.held

-- after a call with this piece: what doesn't fit is dropped
abbrev pub after_sure_put : SureSinkState → List ℕ → SureSinkState
after_sure_put s piece = let left = s.room - length s.held in
    record { held = s.held ++ take left piece; room = s.room; dropped = s.dropped || nat_lt left (length piece) }
