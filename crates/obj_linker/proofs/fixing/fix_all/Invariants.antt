use Rattle.std.proofs.Common.{◌≡◌, take}
use Rattle.std.specs.List.{fold}
use Rattle.obj_linker.specs.Fixing.{fixed}
use Rattle.obj_linker.proofs.fixing.fix_all.Given as goal

abbrev pub invariant-all : goal.invariant-all
invariant-all l = l.bytes ≡ fold (fixed l.objects l.plan l.object l.o l.part) l.fn.bytes (take l.k l.o.fixes)
