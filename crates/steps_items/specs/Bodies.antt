-- The variables of a function whose body stands next in a planned source.
use Rattle.std.specs.Prelude.{◌≡◌, List, ◌++◌, map, All, slice_index_or}
use Rattle.c_tree.specs.declared.tree.Stmt.{Stmt}
use Rattle.c_types.specs.declared.shape.TypeId.{TypeId}
use Rattle.c_types.specs.Types.{type_at, IsIn}
use Rattle.bounds_plan.specs.elaboration.Source.{Around, FrameLayout}
use Rattle.bounds_plan.specs.elaboration.Statements.{declarations}
use Rattle.bounds_plan.specs.elaboration.Functions.{next_types, no_frame, in_body}
use Rattle.steps_facts.specs.Seen.{reached_of}
use Rattle.steps_structs.specs.Structs.{structs_known}
use Rattle.steps_known.specs.Standings.{standings_from}
use Rattle.steps_source.specs.declared.source.PlannedSource.{PlannedSource}
use Rattle.steps_items.specs.declared.gone.Gone.{Gone}
use Rattle.steps_items.specs.declared.bodies.BodyVariables.{BodyVariables}
use Rattle.steps_items.specs.declared.gone.FunctionHead.{FunctionHead}
use Rattle.steps_items.specs.Around.{table_of, around_at, signature_at}

-- its frame
abbrev pub frame_at : PlannedSource → Gone → FrameLayout
frame_at source gone = slice_index_or (around_at source gone).layout.frames gone.after.body no_frame

-- its parameters and then what its body declares, each with where it stands
pub record AreVariables (source : PlannedSource) (gone : Gone) (parameters : List TypeId) (body : Stmt) (v : BodyVariables) : Type 0 where
  pub types : map (type_at (table_of source)) v.types ≡
      map (type_at (table_of source)) parameters ++ next_types (around_at source gone) (reached_of gone.after) (declarations body)
  pub known : All (IsIn (table_of source)) v.types
  pub standings : v.standings ≡
      standings_from (structs_known (table_of source) gone.structs) 0 (map (type_at (table_of source)) v.types) (frame_at source gone).stands

-- inside of the body of a function with this head, which stands next
abbrev pub around_inside : PlannedSource → Gone → FunctionHead → Stmt → Around
around_inside source gone head body = let around = around_at source gone in let signature = signature_at source head in
    in_body (signature.parameters ++ next_types around (reached_of gone.after) (declarations body)) (frame_at source gone).stands
    signature.result around
