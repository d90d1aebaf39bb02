use Rattle.std.proofs.Common.{◌≡◌, [], take}
use Rattle.obj_linker.specs.Symbols.{numbered}
use Rattle.obj_linker.specs.Faults.{far_fix}
use Rattle.obj_linker.proofs.sizes.fixes_pass.Given as goal

abbrev pub invariant-all : goal.invariant-all
invariant-all l = numbered (λ object o. numbered (far_fix l.objects l.plan object o) 0 o.fixes) 0 (take l.object l.objects) ≡ []
