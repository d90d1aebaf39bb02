-- What a row shows of the bodies of functions.
use Rattle.std.specs.Prelude.{List, All}
use Rattle.c_types.specs.Types.{Types}
use Rattle.c_types.specs.Layouts.{CanStand}
use Rattle.c_check.specs.declared.checked.CheckedBody.{CheckedBody}
use Rattle.c_check.specs.Checked.{local_kinds}

abbrev pub IsShown : Types → CheckedBody → Type 0
IsShown table body = All (CanStand table) (local_kinds body.variables)

-- the variables of each have types of the table
abbrev pub AreShown : Types → List CheckedBody → Type 0
AreShown table bodies = All (IsShown table) bodies
