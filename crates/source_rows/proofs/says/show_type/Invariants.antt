use Rattle.c_types.specs.Types.{IsIn}
use Rattle.source_rows.proofs.says.show_type.Given as goal

abbrev pub invariant-layers : goal.invariant-layers
invariant-layers l = IsIn l.table l.at
