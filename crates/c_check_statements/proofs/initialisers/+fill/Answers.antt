use Rattle.std.proofs.Common.{List, length, ap, subst, ◌∙◌, rules}
use Rattle.std.specs.Option.{option_copied}
use Rattle.c_check_rules.specs.declared.names.StructInfo.{StructInfo}
use Rattle.c_check_statements.specs.Initialisers.{many_kinds, part_of}
use Rattle.c_check_statements.specs.Walks.{Judges}
use Rattle.c_check_statements.proofs.Steps.{then_stops, then_ends, node_ends}
use Rattle.c_check_statements.proofs.Forms.{walks_by, many_form}
use Rattle.c_check_statements.proofs.Filling.{parts_stop, parts_go}
use Rattle.c_check_statements.proofs.initialisers.+fill.Goals as goal

pub read_init-returns-in_err-read_parts-in-Many : goal.read_init-returns-in_err-read_parts-in-Many
read_init-returns-in_err-read_parts-in-Many t c = walks_by (many_form c.args.init.now _ c.as_slice-all.result.now _ _ _ c.in-Many.is c.as_slice-all.ensures) (then_stops _ _ c.in_err-read_parts-in-Many.ensures (search rules))

pub read_init-returns-in_ok-read_parts-in-Many : goal.read_init-returns-in_ok-read_parts-in-Many
read_init-returns-in_ok-read_parts-in-Many t c = walks_by (many_form c.args.init.now _ c.as_slice-all.result.now _ _ _ c.in-Many.is c.as_slice-all.ensures) (then_ends _ _ c.in_ok-read_parts-in-Many.ensures (node_ends (subst (λ (s : List StructInfo). Judges (many_kinds s (option_copied c.args.target) (length c.as_slice-all.result.now)) c.args.init.now.place c.judge_many.result) c.as_slice.ensures c.judge_many.ensures)))

pub read_parts-returns-in_err-read_init : goal.read_parts-returns-in_err-read_init
read_parts-returns-in_err-read_init t c = parts_stop _ _ c.args.all.now c.parts.place c.index-all-place.result _ _ _ c.parts.invariant c.parts-test.true c.index-all-place.is c.part.ensures (c.as_ref.ensures.value ∙ c.in_ok-kind.ensures ∙ ap (λ (s : List StructInfo). part_of s (option_copied c.args.target) c.parts.place) c.as_slice.ensures) c.in_err-read_init.ensures (search rules)

pub read_parts-parts-preserved : goal.read_parts-parts-preserved
read_parts-parts-preserved t c = parts_go _ _ c.args.all.now c.parts.place c.index-all-place.result _ _ _ c.parts.invariant c.parts-test.true c.index-all-place.is c.part.ensures (c.as_ref.ensures.value ∙ c.in_ok-kind.ensures ∙ ap (λ (s : List StructInfo). part_of s (option_copied c.args.target) c.parts.place) c.as_slice.ensures) c.in_ok-read_init.ensures
