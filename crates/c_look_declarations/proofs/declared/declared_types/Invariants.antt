use Rattle.std.proofs.Common.{◌≡◌, ◌++◌, drop, map}
use Rattle.std.specs.Prelude.{All}
use Rattle.c_types.specs.Types.{type_at, IsIn}
use Rattle.bounds_plan.specs.elaboration.Expressions.{expression}
use Rattle.bounds_plan.specs.elaboration.Functions.{declared_all}
use Rattle.steps_facts.specs.Seen.{reached_of}
use Rattle.c_look_declarations.specs.Past.{past_by}
use Rattle.c_look_declarations.proofs.declared.declared_types.Given as goal

-- what is left declares what is left of all types, and goes as far
abbrev pub invariant-loop-d : goal.invariant-loop-d
invariant-loop-d g l =
    let around = g.K.Knows.around l.known in
    let table = g.K.Knows.table l.known in
    let rest = declared_all expression (past_by l.variables) (drop l.d-index l.all) around (reached_of l.after) in
    let whole = declared_all expression (past_by l.variables) l.all around (reached_of l.fn.r) in record {
      types : map (type_at table) l.types ++ rest.types ≡ whole.types;
      after : rest.after ≡ whole.after;
      known : All (IsIn table) l.types;
    }
