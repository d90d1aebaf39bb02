-- Declarations of members and of parameters.
use Rattle.std.specs.Prelude.{Bool, true, false}
use Rattle.bounds_plan.specs.elaboration.Source.{Reached, past_declaration, past_member}

-- past a declaration, whose name means something if it is that of a variable
abbrev pub past_by : (variable : Bool) → Reached → Reached
past_by true r = past_declaration r
past_by false r = past_member r
