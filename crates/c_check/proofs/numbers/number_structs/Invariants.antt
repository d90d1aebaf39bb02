use Rattle.std.proofs.Common.{take}
use Rattle.c_check.specs.Checked.{AreStructs}
use Rattle.c_check.proofs.TableStructs.{Structs}
use Rattle.c_check.proofs.numbers.number_structs.Given as goal

abbrev pub invariant-structs : goal.invariant-structs
invariant-structs l = record {
  laid : Structs l.table l.structs l.info-index;
  known : AreStructs l.table l.known (take l.info-index l.structs);
}
