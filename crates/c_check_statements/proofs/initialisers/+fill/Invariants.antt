use Rattle.std.proofs.Common.{◌≡◌, drop, map}
use Rattle.std.specs.Option.{option_copied}
use Rattle.c_check_statements.specs.Initialisers.{parts, fills}
use Rattle.c_check_statements.proofs.initialisers.+fill.Given as goal

abbrev pub invariant-read_parts-parts : goal.invariant-read_parts-parts
invariant-read_parts-parts l = parts l.filled (option_copied l.target) 0 (map fills l.all) l.initial.state ≡ parts l.filled (option_copied l.target) l.place (map fills (drop l.place l.all)) l.state
