-- The exit status after the stop of an image's run.
use Rattle.std.specs.Prelude.{ℕ}
use Rattle.mx_base.specs.declared.stops.Stop.{Stop}
use Rattle.mx_base.specs.declared.stops.Stop.TheVariants.{Exit, Bounds, Unmapped, Divide, Undefined, StackOver, OutOfTurns, Strayed, NoTable, NoFrames, ReadFault, WriteFault}

abbrev pub stop_status_of : Stop → ℕ
stop_status_of (Exit code) = 0
stop_status_of (Bounds breach) = 10
stop_status_of (Unmapped at) = 11
stop_status_of Divide = 11
stop_status_of (Undefined at) = 11
stop_status_of StackOver = 11
stop_status_of OutOfTurns = 12
stop_status_of (Strayed at) = 13
stop_status_of NoTable = 14
stop_status_of (NoFrames in_use capacity) = 14
stop_status_of ReadFault = 3
stop_status_of WriteFault = 4
