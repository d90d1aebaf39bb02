use Rattle.std.proofs.Common.{sym, ap, ◌∙◌, subst, map, take, drop, ◌++◌, List, slice_index_or}
use Rattle.std.specs.Prelude.{All}
use Rattle.std.proofs.lemmas.List.{map-append}
use Rattle.std.proofs.lemmas.List.Elements.{All-append, All-take, All-drop}
use Rattle.c_types.specs.declared.shape.TypeId.{TypeId}
use Rattle.c_types.specs.Types.{type_at, IsIn}
use Rattle.c_check.specs.Accepted.{after}
use Rattle.place_plan.specs.declared.plans.Plan.{Plan}
use Rattle.bounds_plan.specs.elaboration.Statements.{declarations}
use Rattle.bounds_plan.specs.elaboration.Functions.{no_frame}
use Rattle.c_accepted.specs.Planned.{stand_of, layout_frame}
use Rattle.steps_structs.specs.Structs.{structs_known}
use Rattle.steps_known.specs.Standings.{standings_from}
use Rattle.steps_items.specs.Around.{table_of}
use Rattle.steps_items.proofs.BodyLemmas.{next_known}
use Rattle.steps_items.proofs.bodies.body_variables.Goals as goal

pub returns : goal.returns
returns c =
    let table = table_of c.args.source.now in
    let gone = c.args.gone.now in
    let said = c.requires.source.said.says.declared in
    let count = declarations c.args.body.now in
    let from = gone.after.declaration in
    let declared = c.args.source.now.checked.now.declared in
    let parameters = c.args.parameters.now in
    let locals = c.types_from-locals.ensures ∙ ap (λ n. take n (drop from c.as_slice.result.now)) c.in_ok-count.ensures ∙ ap (λ (ts : List TypeId). take count (drop from ts)) c.as_slice.ensures in
    let all = c.in_ok-types.ensures ∙ ap (λ (ts : List TypeId). parameters ++ ts) locals in
    let spots = c.spots_at-spots.ensures ∙ ap (λ fs. (slice_index_or (map layout_frame fs) gone.after.body no_frame).stands) (c.as_slice-2.ensures ∙ ap (λ (p : Plan). p.frames) c.requires.source.placed) in record {
      types = ap (map (type_at table)) all ∙ map-append (type_at table) parameters (take count (drop from declared))
          ∙ ap (λ ts. map (type_at table) parameters ++ ts) (next_known (type_at table) declared (after c.args.source.now.tree.now).notes.declared from count said.types);
      known = subst (All (IsIn table)) (sym all) (All-append (IsIn table) parameters (take count (drop from declared)) c.requires.parameters (All-take (IsIn table) count (drop from declared) (All-drop (IsIn table) from declared said.in_table)));
      standings = c.in_ok-standings.ensures
          ∙ ap (λ ss. standings_from (structs_known table ss) 0 (map (type_at table) c.as_slice-4.result.now) (map stand_of c.spots_at-spots.result.now)) c.as_slice-3.ensures
          ∙ ap (λ (ts : List TypeId). standings_from (structs_known table gone.structs) 0 (map (type_at table) ts) (map stand_of c.spots_at-spots.result.now)) c.as_slice-4.ensures
          ∙ ap (λ st. standings_from (structs_known table gone.structs) 0 (map (type_at table) c.in_ok-types.types) st) spots;
    }
