use Rattle.std.specs.Prelude.{IsTrue}
use Rattle.std.specs.List.{list_all}
use Rattle.std.proofs.Common.{◌≡◌, ◌++◌, drop}
use Rattle.x86_forms.specs.Validity.{valid_of}
use Rattle.call_gates.specs.Gates.{spelled}
use Rattle.call_gates.proofs.code.put.Given as goal

abbrev pub invariant-all : goal.invariant-all
invariant-all l = record {
  same : l.out.items ++ spelled (drop l.instr-index l.code) ≡ l.fn.out.items ++ spelled l.code;
  valid : IsTrue (list_all valid_of (drop l.instr-index l.code));
}
