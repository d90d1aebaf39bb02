-- Globals by the numbers of their types in a table.
use Rattle.std.specs.Prelude.{List, map}
use Rattle.c_types.specs.Types.{Types, type_at, IsIn, HasSize}
use Rattle.c_check.specs.declared.checked.GlobalVariable.{GlobalVariable}
use Rattle.place_plan.specs.Data.{Global}

abbrev pub global_of : Types → GlobalVariable → Global
global_of table g = record { type = type_at table g.kind; defined = g.defined }

abbrev pub globals_of : Types → List GlobalVariable → List Global
globals_of table globals = map (global_of table) globals

-- a global has a type of the table that has a size
abbrev pub CanBeLaid : Types → GlobalVariable → Type 0
CanBeLaid table g = IsIn table g.kind × HasSize table g.kind
