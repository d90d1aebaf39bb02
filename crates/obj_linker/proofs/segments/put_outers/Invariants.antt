use Rattle.std.proofs.Common.{◌≡◌, ◌++◌, take}
use Rattle.obj_linker.specs.Symbols.{numbered, ids}
use Rattle.obj_linker.specs.Gating.{mpx_gates}
use Rattle.obj_linker.specs.Image.{outer_segment}
use Rattle.obj_linker.proofs.segments.put_outers.Given as goal

abbrev pub invariant-all : goal.invariant-all
invariant-all l = l.out.items ≡ l.fn.out.items ++ numbered (outer_segment mpx_gates l.objects l.plan) 0 (take l.number (ids l.plan.functions))
