use Rattle.std.proofs.Common.{◌≡◌, drop}
use Rattle.std.specs.List.{list_all}
use Rattle.obj_file.specs.Names.{is_parameter}
use Rattle.obj_file.proofs.names.are_parameter_letters.Given as goal

abbrev pub invariant-loop-b : goal.invariant-loop-b
invariant-loop-b l = list_all is_parameter (drop l.b-index l.params) ≡ list_all is_parameter l.params
