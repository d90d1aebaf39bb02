use Rattle.std.proofs.Common.{◌≡◌, ◌++◌, take}
use Rattle.std.specs.List.{flat_map, AllByRecursion}
use Rattle.c_reader.specs.EarlyForm.{InRange}
use Rattle.x86_forms.specs.Spelling.{spelling}
use Rattle.x86_lower.specs.EarlyProgram.{bounds_code, act_code}
use Rattle.x86_lower.proofs.early.lower_early.Given as goal

abbrev pub invariant-loop-act : goal.invariant-loop-act
invariant-loop-act l = record {
  code : l.code.items ≡ flat_map spelling (bounds_code l.e.size) ++ flat_map spelling (flat_map act_code (take l.act-index l.act-items));
  numbers : AllByRecursion InRange (take l.act-index l.act-items);
}
