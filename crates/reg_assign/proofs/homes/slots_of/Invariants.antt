use Rattle.std.proofs.Common.{ℕ, ◌+◌, ◌<◌, ◌≤◌, get_or}
use Rattle.reg_assign.proofs.homes.slots_of.Given as goal

abbrev pub invariant-loop-place : goal.invariant-loop-place
invariant-loop-place l = record {
  few : l.slots ≤ 152;
  all : (v : ℕ) → v < l.place-index → get_or l.places v 0 < l.registers + l.slots;
}
