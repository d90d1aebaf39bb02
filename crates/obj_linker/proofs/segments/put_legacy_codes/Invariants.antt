use Rattle.std.proofs.Common.{◌≡◌, ◌++◌, take}
use Rattle.obj_linker.specs.Symbols.{numbered}
use Rattle.obj_linker.specs.Image.{legacy_segment}
use Rattle.obj_linker.proofs.segments.put_legacy_codes.Given as goal

abbrev pub invariant-all : goal.invariant-all
invariant-all l = l.out.items ≡ l.fn.out.items ++ numbered (legacy_segment l.objects l.plan) 0 (take l.object l.objects)
