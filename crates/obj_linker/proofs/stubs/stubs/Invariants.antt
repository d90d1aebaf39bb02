use Rattle.std.proofs.Common.{◌≡◌, take}
use Rattle.obj_linker.specs.Symbols.{named_by, numbered}
use Rattle.obj_linker.specs.Placement.{stub_calls_of}
use Rattle.obj_linker.proofs.stubs.stubs.Given as goal

abbrev pub invariant-all : goal.invariant-all
invariant-all l = l.stubs ≡ named_by l.objects (numbered (stub_calls_of l.objects l.defined) 0 (take l.object l.objects))
