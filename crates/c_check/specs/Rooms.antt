-- The frames of the functions of a source, by all of its structs.
use Rattle.std.specs.Prelude.{◌≡◌, false, List, [], ◌∷◌}
use Rattle.c_check_rules.specs.declared.names.StructInfo.{StructInfo}
use Rattle.c_check_statements.specs.declared.state.Body.{Body}
use Rattle.c_check_statements.specs.Frames.{room_of, no_room, is_large}

-- the variables of each function have room
abbrev pub HaveRoom : List StructInfo → List Body → Type 0
HaveRoom structs [] = Unit {0}
HaveRoom structs (b ∷ more) = (is_large (room_of structs no_room b.variables) ≡ false) × HaveRoom structs more
