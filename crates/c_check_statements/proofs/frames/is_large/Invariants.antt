use Rattle.std.proofs.Common.{◌≡◌, drop}
use Rattle.c_check_statements.specs.Frames.{room_of, no_room}
use Rattle.c_check_statements.proofs.frames.is_large.Given as goal

abbrev pub invariant-variables : goal.invariant-variables
invariant-variables l = room_of l.structs no_room l.variables ≡ room_of l.structs l.room (drop l.v-index l.variables)
