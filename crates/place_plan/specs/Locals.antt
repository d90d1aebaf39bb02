-- Parameters and locals by the numbers of their types in a table.
use Rattle.std.specs.Prelude.{List, map}
use Rattle.c_types.specs.Types.{Types, type_at, IsIn, HasSize}
use Rattle.c_check.specs.declared.checked.LocalVariable.{LocalVariable}
use Rattle.place_plan.specs.Frames.{Variable}

abbrev pub variable_of : Types → LocalVariable → Variable
variable_of table l = record { type = type_at table l.kind; taken = l.taken }

abbrev pub variables_of : Types → List LocalVariable → List Variable
variables_of table locals = map (variable_of table) locals

-- a variable has a type of the table that has a size
abbrev pub CanBePlaced : Types → LocalVariable → Type 0
CanBePlaced table l = IsIn table l.kind × HasSize table l.kind
