use Rattle.x86_forms.proofs.WatchDoors.{strays-into, into-strays}
use Rattle.x86_forms.proofs.watch_laws.legacy_control_enters_by_its_doors.Goals as goal

pub returns : goal.returns
returns c = λ from to call ret outers x. (strays-into from to call ret outers x, into-strays from to call ret outers x)
