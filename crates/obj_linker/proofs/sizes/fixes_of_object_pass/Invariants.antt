use Rattle.std.proofs.Common.{◌≡◌, [], take}
use Rattle.obj_linker.specs.Symbols.{numbered}
use Rattle.obj_linker.specs.Faults.{far_fix}
use Rattle.obj_linker.proofs.sizes.fixes_of_object_pass.Given as goal

abbrev pub invariant-all : goal.invariant-all
invariant-all l = numbered (far_fix l.objects l.plan l.object l.o) 0 (take l.fix l.o.fixes) ≡ []
