-- A sink over memory.
use Rattle.std.specs.Prelude.{ℕ, ◌-◌, ◌==◌, nat_lt, Bool, ◌&&◌, ◌||◌, List, [], ◌++◌, length, take}
use Rattle.mx_base.specs.Outside.{one_more}
use Rattle.mx_base.specs.Calls.{Planned, planned, is_to_fail, after_call}

-- the bytes held, how many may be, the calls, and how many of them failed
pub record SinkState : Type 0 where
  pub held : List ℕ
  pub room : ℕ
  pub calls : Planned
  pub faults : ℕ

-- with nothing held, before the first call
abbrev pub sink_of : ℕ → List ℕ → SinkState
sink_of room fails = record { held = []; room = room; calls = planned fails; faults = 0 }

-- how many more bytes it has room for
abbrev pub left_room : SinkState → ℕ
left_room s = s.room - length s.held

-- whether a put of this piece fails: it is to fail, or the piece has a byte and there is no room
abbrev pub refuses_put : SinkState → List ℕ → Bool
refuses_put s piece = is_to_fail s.calls || nat_lt 0 (length piece) && left_room s == 0

-- after a call that took the first n bytes of the piece
abbrev pub after_put : SinkState → List ℕ → ℕ → SinkState
after_put s piece n = record { held = s.held ++ take n piece; room = s.room; calls = after_call s.calls; faults = s.faults }

-- after a call that failed
abbrev pub after_refused : SinkState → SinkState
after_refused s = record { held = s.held; room = s.room; calls = after_call s.calls; faults = one_more s.faults }
