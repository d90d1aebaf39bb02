use Rattle.std.proofs.Common.{refl, ap, ◌∙◌, ◌≡◌, []}
use Rattle.std.specs.Fmt.{digits}
use Rattle.mx_base.specs.Numbers.{residue, as_signed, number_of, value_of, wrapped, word_of, extended}
use Rattle.mx_base.specs.Operators.{arithmetic, compares, word_arithmetic, word_compares}
use Rattle.mx_base.specs.Bounds.{moved, last_byte, leaving_value, bounds_at}
use Rattle.mx_base.specs.Regions.{is_sealed, is_open_to_read, is_open_to_write}
use Rattle.mx_base.specs.Memory.{number_at, with_number, first_refused, first_refused_around}
use Rattle.mx_base.specs.Access.{refusal}
use Rattle.mx_base.specs.BoundsStore.{touched_with, keep_bounds, load_bounds, bounds_for}
use Rattle.mx_base.specs.Heap.{rounded, allocated, freed}
use Rattle.mx_base.specs.Services.{served, c_service}
use Rattle.mx_base.specs.World.{pointer_written, pointer_read}
use Rattle.bounds_plan.specs.meaning.Expressions.{stepped}
use denote.Hole.Carrier.{hidden}
use Rattle.c_tree.specs.declared.tree.ExprKind.TheBlock.{shape-the_row-Expr-0, hidden-the_row-Expr-0, shown-the_row-Expr-0, shape-the_row-Expr-1, hidden-the_row-Expr-1, shown-the_row-Expr-1}
use Rattle.c_tree.specs.declared.tree.InitKind.TheBlock.{shape-the_row-Init-0, hidden-the_row-Init-0, shown-the_row-Init-0}
use Rattle.c_tree.specs.declared.tree.StmtKind.TheBlock.{shape-the_row-Stmt-0, hidden-the_row-Stmt-0, shown-the_row-Stmt-0, shape-the_row-Stmt-1, hidden-the_row-Stmt-1, shown-the_row-Stmt-1}
use Rattle.bounds_plan.proofs.Laid.{elaborations_same, elaborated_laid}
use Rattle.bounds_plan.specs.elaboration.Functions.{gone_by}
use Rattle.std.specs.Prelude.{codes}
use Rattle.mx_base.specs.StopOfC.{Exit}
use Rattle.bounds_plan.specs.laws.WorkedForms.{calculates, changes, points, fills, goes_round, adds_in_order}
use Rattle.bounds_plan.specs.laws.Worked.{narrowing}
use Rattle.bounds_plan.specs.laws.WorkedRuns.{runs_of, steps_run_of, data_of, said, saying, objects_apart}
use Rattle.bounds_plan.proofs.sources.sources_with_every_form_say_so.Goals as goal

calculates_laid : said (runs_of (elaborated_laid calculates.tree calculates.meanings calculates.layout narrowing) calculates.layout.functions objects_apart (data_of calculates objects_apart) 4096 0 [] 1000) ≡ saying (Exit 44) (codes "-56\n200\n4464\n4294967295\n0\n-3\n-1\n-4\n268435455\n-11200\n2\n1\n1\n6\n-200\n0\n1\n-1\n4294967295\n15\n4294967240\n2147483648\n205\n1\n0\n0\n")
unfolding residue as_signed number_of value_of wrapped word_of extended arithmetic compares word_arithmetic word_compares moved last_byte leaving_value bounds_at is_sealed is_open_to_read is_open_to_write number_at with_number first_refused first_refused_around refusal touched_with keep_bounds load_bounds bounds_for rounded allocated freed served c_service pointer_written pointer_read digits stepped shape-the_row-Expr-0 hidden-the_row-Expr-0 shown-the_row-Expr-0 shape-the_row-Expr-1 hidden-the_row-Expr-1 shown-the_row-Expr-1 shape-the_row-Init-0 hidden-the_row-Init-0 shown-the_row-Init-0 shape-the_row-Stmt-0 hidden-the_row-Stmt-0 shown-the_row-Stmt-0 shape-the_row-Stmt-1 hidden-the_row-Stmt-1 shown-the_row-Stmt-1 hidden runs_of gone_by
calculates_laid = refl

calculates_steps_laid : said (steps_run_of (elaborated_laid calculates.tree calculates.meanings calculates.layout narrowing) calculates.layout.functions objects_apart (data_of calculates objects_apart) 4096 0 1000) ≡ saying (Exit 44) (codes "-56\n200\n4464\n4294967295\n0\n-3\n-1\n-4\n268435455\n-11200\n2\n1\n1\n6\n-200\n0\n1\n-1\n4294967295\n15\n4294967240\n2147483648\n205\n1\n0\n0\n")
unfolding residue as_signed number_of value_of wrapped word_of extended arithmetic compares word_arithmetic word_compares moved last_byte leaving_value bounds_at is_sealed is_open_to_read is_open_to_write number_at with_number first_refused first_refused_around refusal touched_with keep_bounds load_bounds bounds_for rounded allocated freed served c_service pointer_written pointer_read digits stepped shape-the_row-Expr-0 hidden-the_row-Expr-0 shown-the_row-Expr-0 shape-the_row-Expr-1 hidden-the_row-Expr-1 shown-the_row-Expr-1 shape-the_row-Init-0 hidden-the_row-Init-0 shown-the_row-Init-0 shape-the_row-Stmt-0 hidden-the_row-Stmt-0 shown-the_row-Stmt-0 shape-the_row-Stmt-1 hidden-the_row-Stmt-1 shown-the_row-Stmt-1 hidden steps_run_of gone_by
calculates_steps_laid = refl

pub returns-clause-calculates : goal.returns-clause-calculates
returns-clause-calculates c = (ap (λ e. said (runs_of (e calculates.tree calculates.meanings calculates.layout narrowing) calculates.layout.functions objects_apart (data_of calculates objects_apart) 4096 0 [] 1000)) elaborations_same ∙ calculates_laid, ap (λ e. said (steps_run_of (e calculates.tree calculates.meanings calculates.layout narrowing) calculates.layout.functions objects_apart (data_of calculates objects_apart) 4096 0 1000)) elaborations_same ∙ calculates_steps_laid)

changes_laid : said (runs_of (elaborated_laid changes.tree changes.meanings changes.layout narrowing) changes.layout.functions objects_apart (data_of changes objects_apart) 4096 0 [] 1000) ≡ saying (Exit 0) (codes "-56\n-2\n-8\n-2\n0\n1099511627776\n4\n4\n4\n13\n14\n0\n2\n2\n0\n4\n3\n44\n7\n")
unfolding residue as_signed number_of value_of wrapped word_of extended arithmetic compares word_arithmetic word_compares moved last_byte leaving_value bounds_at is_sealed is_open_to_read is_open_to_write number_at with_number first_refused first_refused_around refusal touched_with keep_bounds load_bounds bounds_for rounded allocated freed served c_service pointer_written pointer_read digits stepped shape-the_row-Expr-0 hidden-the_row-Expr-0 shown-the_row-Expr-0 shape-the_row-Expr-1 hidden-the_row-Expr-1 shown-the_row-Expr-1 shape-the_row-Init-0 hidden-the_row-Init-0 shown-the_row-Init-0 shape-the_row-Stmt-0 hidden-the_row-Stmt-0 shown-the_row-Stmt-0 shape-the_row-Stmt-1 hidden-the_row-Stmt-1 shown-the_row-Stmt-1 hidden runs_of gone_by
changes_laid = refl

changes_steps_laid : said (steps_run_of (elaborated_laid changes.tree changes.meanings changes.layout narrowing) changes.layout.functions objects_apart (data_of changes objects_apart) 4096 0 1000) ≡ saying (Exit 0) (codes "-56\n-2\n-8\n-2\n0\n1099511627776\n4\n4\n4\n13\n14\n0\n2\n2\n0\n4\n3\n44\n7\n")
unfolding residue as_signed number_of value_of wrapped word_of extended arithmetic compares word_arithmetic word_compares moved last_byte leaving_value bounds_at is_sealed is_open_to_read is_open_to_write number_at with_number first_refused first_refused_around refusal touched_with keep_bounds load_bounds bounds_for rounded allocated freed served c_service pointer_written pointer_read digits stepped shape-the_row-Expr-0 hidden-the_row-Expr-0 shown-the_row-Expr-0 shape-the_row-Expr-1 hidden-the_row-Expr-1 shown-the_row-Expr-1 shape-the_row-Init-0 hidden-the_row-Init-0 shown-the_row-Init-0 shape-the_row-Stmt-0 hidden-the_row-Stmt-0 shown-the_row-Stmt-0 shape-the_row-Stmt-1 hidden-the_row-Stmt-1 shown-the_row-Stmt-1 hidden steps_run_of gone_by
changes_steps_laid = refl

pub returns-clause-changes : goal.returns-clause-changes
returns-clause-changes c = (ap (λ e. said (runs_of (e changes.tree changes.meanings changes.layout narrowing) changes.layout.functions objects_apart (data_of changes objects_apart) 4096 0 [] 1000)) elaborations_same ∙ changes_laid, ap (λ e. said (steps_run_of (e changes.tree changes.meanings changes.layout narrowing) changes.layout.functions objects_apart (data_of changes objects_apart) 4096 0 1000)) elaborations_same ∙ changes_steps_laid)

points_laid : said (runs_of (elaborated_laid points.tree points.meanings points.layout narrowing) points.layout.functions objects_apart (data_of points objects_apart) 4096 0 [] 1000) ≡ saying (Exit 9) (codes "19\n32\n8\n12\n6\n5\n5\n5\n2\n1\n1\n1\n1\n1\n1\n0\n5\n10\n10\n1\n98\n97\n97\n98\n4\n0\n2\n1\n5\n")
unfolding residue as_signed number_of value_of wrapped word_of extended arithmetic compares word_arithmetic word_compares moved last_byte leaving_value bounds_at is_sealed is_open_to_read is_open_to_write number_at with_number first_refused first_refused_around refusal touched_with keep_bounds load_bounds bounds_for rounded allocated freed served c_service pointer_written pointer_read digits stepped shape-the_row-Expr-0 hidden-the_row-Expr-0 shown-the_row-Expr-0 shape-the_row-Expr-1 hidden-the_row-Expr-1 shown-the_row-Expr-1 shape-the_row-Init-0 hidden-the_row-Init-0 shown-the_row-Init-0 shape-the_row-Stmt-0 hidden-the_row-Stmt-0 shown-the_row-Stmt-0 shape-the_row-Stmt-1 hidden-the_row-Stmt-1 shown-the_row-Stmt-1 hidden runs_of gone_by
points_laid = refl

points_steps_laid : said (steps_run_of (elaborated_laid points.tree points.meanings points.layout narrowing) points.layout.functions objects_apart (data_of points objects_apart) 4096 0 1000) ≡ saying (Exit 9) (codes "19\n32\n8\n12\n6\n5\n5\n5\n2\n1\n1\n1\n1\n1\n1\n0\n5\n10\n10\n1\n98\n97\n97\n98\n4\n0\n2\n1\n5\n")
unfolding residue as_signed number_of value_of wrapped word_of extended arithmetic compares word_arithmetic word_compares moved last_byte leaving_value bounds_at is_sealed is_open_to_read is_open_to_write number_at with_number first_refused first_refused_around refusal touched_with keep_bounds load_bounds bounds_for rounded allocated freed served c_service pointer_written pointer_read digits stepped shape-the_row-Expr-0 hidden-the_row-Expr-0 shown-the_row-Expr-0 shape-the_row-Expr-1 hidden-the_row-Expr-1 shown-the_row-Expr-1 shape-the_row-Init-0 hidden-the_row-Init-0 shown-the_row-Init-0 shape-the_row-Stmt-0 hidden-the_row-Stmt-0 shown-the_row-Stmt-0 shape-the_row-Stmt-1 hidden-the_row-Stmt-1 shown-the_row-Stmt-1 hidden steps_run_of gone_by
points_steps_laid = refl

pub returns-clause-points : goal.returns-clause-points
returns-clause-points c = (ap (λ e. said (runs_of (e points.tree points.meanings points.layout narrowing) points.layout.functions objects_apart (data_of points objects_apart) 4096 0 [] 1000)) elaborations_same ∙ points_laid, ap (λ e. said (steps_run_of (e points.tree points.meanings points.layout narrowing) points.layout.functions objects_apart (data_of points objects_apart) 4096 0 1000)) elaborations_same ∙ points_steps_laid)

fills_laid : said (runs_of (elaborated_laid fills.tree fills.meanings fills.layout narrowing) fills.layout.functions objects_apart (data_of fills objects_apart) 4096 0 [] 1000) ≡ saying (Exit 0) (codes "32\n99\n98\n0\n120\n0\n3\n128\n1\n1\n2\n1\n104\n48\n5\n9\n4\n")
unfolding residue as_signed number_of value_of wrapped word_of extended arithmetic compares word_arithmetic word_compares moved last_byte leaving_value bounds_at is_sealed is_open_to_read is_open_to_write number_at with_number first_refused first_refused_around refusal touched_with keep_bounds load_bounds bounds_for rounded allocated freed served c_service pointer_written pointer_read digits stepped shape-the_row-Expr-0 hidden-the_row-Expr-0 shown-the_row-Expr-0 shape-the_row-Expr-1 hidden-the_row-Expr-1 shown-the_row-Expr-1 shape-the_row-Init-0 hidden-the_row-Init-0 shown-the_row-Init-0 shape-the_row-Stmt-0 hidden-the_row-Stmt-0 shown-the_row-Stmt-0 shape-the_row-Stmt-1 hidden-the_row-Stmt-1 shown-the_row-Stmt-1 hidden runs_of gone_by
fills_laid = refl

fills_steps_laid : said (steps_run_of (elaborated_laid fills.tree fills.meanings fills.layout narrowing) fills.layout.functions objects_apart (data_of fills objects_apart) 4096 0 1000) ≡ saying (Exit 0) (codes "32\n99\n98\n0\n120\n0\n3\n128\n1\n1\n2\n1\n104\n48\n5\n9\n4\n")
unfolding residue as_signed number_of value_of wrapped word_of extended arithmetic compares word_arithmetic word_compares moved last_byte leaving_value bounds_at is_sealed is_open_to_read is_open_to_write number_at with_number first_refused first_refused_around refusal touched_with keep_bounds load_bounds bounds_for rounded allocated freed served c_service pointer_written pointer_read digits stepped shape-the_row-Expr-0 hidden-the_row-Expr-0 shown-the_row-Expr-0 shape-the_row-Expr-1 hidden-the_row-Expr-1 shown-the_row-Expr-1 shape-the_row-Init-0 hidden-the_row-Init-0 shown-the_row-Init-0 shape-the_row-Stmt-0 hidden-the_row-Stmt-0 shown-the_row-Stmt-0 shape-the_row-Stmt-1 hidden-the_row-Stmt-1 shown-the_row-Stmt-1 hidden steps_run_of gone_by
fills_steps_laid = refl

pub returns-clause-fills : goal.returns-clause-fills
returns-clause-fills c = (ap (λ e. said (runs_of (e fills.tree fills.meanings fills.layout narrowing) fills.layout.functions objects_apart (data_of fills objects_apart) 4096 0 [] 1000)) elaborations_same ∙ fills_laid, ap (λ e. said (steps_run_of (e fills.tree fills.meanings fills.layout narrowing) fills.layout.functions objects_apart (data_of fills objects_apart) 4096 0 1000)) elaborations_same ∙ fills_steps_laid)

goes_round_laid : said (runs_of (elaborated_laid goes_round.tree goes_round.meanings goes_round.layout narrowing) goes_round.layout.functions objects_apart (data_of goes_round objects_apart) 4096 3 [] 1000) ≡ saying (Exit 13) (codes "18\n10\n2153767\n42\n3\n8\n77\n-1\n-1\n2\n")
unfolding residue as_signed number_of value_of wrapped word_of extended arithmetic compares word_arithmetic word_compares moved last_byte leaving_value bounds_at is_sealed is_open_to_read is_open_to_write number_at with_number first_refused first_refused_around refusal touched_with keep_bounds load_bounds bounds_for rounded allocated freed served c_service pointer_written pointer_read digits stepped shape-the_row-Expr-0 hidden-the_row-Expr-0 shown-the_row-Expr-0 shape-the_row-Expr-1 hidden-the_row-Expr-1 shown-the_row-Expr-1 shape-the_row-Init-0 hidden-the_row-Init-0 shown-the_row-Init-0 shape-the_row-Stmt-0 hidden-the_row-Stmt-0 shown-the_row-Stmt-0 shape-the_row-Stmt-1 hidden-the_row-Stmt-1 shown-the_row-Stmt-1 hidden runs_of gone_by
goes_round_laid = refl

goes_round_steps_laid : said (steps_run_of (elaborated_laid goes_round.tree goes_round.meanings goes_round.layout narrowing) goes_round.layout.functions objects_apart (data_of goes_round objects_apart) 4096 3 1000) ≡ saying (Exit 13) (codes "18\n10\n2153767\n42\n3\n8\n77\n-1\n-1\n2\n")
unfolding residue as_signed number_of value_of wrapped word_of extended arithmetic compares word_arithmetic word_compares moved last_byte leaving_value bounds_at is_sealed is_open_to_read is_open_to_write number_at with_number first_refused first_refused_around refusal touched_with keep_bounds load_bounds bounds_for rounded allocated freed served c_service pointer_written pointer_read digits stepped shape-the_row-Expr-0 hidden-the_row-Expr-0 shown-the_row-Expr-0 shape-the_row-Expr-1 hidden-the_row-Expr-1 shown-the_row-Expr-1 shape-the_row-Init-0 hidden-the_row-Init-0 shown-the_row-Init-0 shape-the_row-Stmt-0 hidden-the_row-Stmt-0 shown-the_row-Stmt-0 shape-the_row-Stmt-1 hidden-the_row-Stmt-1 shown-the_row-Stmt-1 hidden steps_run_of gone_by
goes_round_steps_laid = refl

pub returns-clause-goes_round : goal.returns-clause-goes_round
returns-clause-goes_round c = (ap (λ e. said (runs_of (e goes_round.tree goes_round.meanings goes_round.layout narrowing) goes_round.layout.functions objects_apart (data_of goes_round objects_apart) 4096 3 [] 1000)) elaborations_same ∙ goes_round_laid, ap (λ e. said (steps_run_of (e goes_round.tree goes_round.meanings goes_round.layout narrowing) goes_round.layout.functions objects_apart (data_of goes_round objects_apart) 4096 3 1000)) elaborations_same ∙ goes_round_steps_laid)

adds_in_order_laid : said (runs_of (elaborated_laid adds_in_order.tree adds_in_order.meanings adds_in_order.layout narrowing) adds_in_order.layout.functions objects_apart (data_of adds_in_order objects_apart) 4096 3 [] 1000) ≡ saying (Exit 0) (codes "1\n2\n5\n2\n1\n5\n1\n6\n")
unfolding residue as_signed number_of value_of wrapped word_of extended arithmetic compares word_arithmetic word_compares moved last_byte leaving_value bounds_at is_sealed is_open_to_read is_open_to_write number_at with_number first_refused first_refused_around refusal touched_with keep_bounds load_bounds bounds_for rounded allocated freed served c_service pointer_written pointer_read digits stepped shape-the_row-Expr-0 hidden-the_row-Expr-0 shown-the_row-Expr-0 shape-the_row-Expr-1 hidden-the_row-Expr-1 shown-the_row-Expr-1 shape-the_row-Init-0 hidden-the_row-Init-0 shown-the_row-Init-0 shape-the_row-Stmt-0 hidden-the_row-Stmt-0 shown-the_row-Stmt-0 shape-the_row-Stmt-1 hidden-the_row-Stmt-1 shown-the_row-Stmt-1 hidden runs_of gone_by
adds_in_order_laid = refl

adds_in_order_steps_laid : said (steps_run_of (elaborated_laid adds_in_order.tree adds_in_order.meanings adds_in_order.layout narrowing) adds_in_order.layout.functions objects_apart (data_of adds_in_order objects_apart) 4096 3 1000) ≡ saying (Exit 0) (codes "1\n2\n5\n2\n1\n5\n1\n6\n")
unfolding residue as_signed number_of value_of wrapped word_of extended arithmetic compares word_arithmetic word_compares moved last_byte leaving_value bounds_at is_sealed is_open_to_read is_open_to_write number_at with_number first_refused first_refused_around refusal touched_with keep_bounds load_bounds bounds_for rounded allocated freed served c_service pointer_written pointer_read digits stepped shape-the_row-Expr-0 hidden-the_row-Expr-0 shown-the_row-Expr-0 shape-the_row-Expr-1 hidden-the_row-Expr-1 shown-the_row-Expr-1 shape-the_row-Init-0 hidden-the_row-Init-0 shown-the_row-Init-0 shape-the_row-Stmt-0 hidden-the_row-Stmt-0 shown-the_row-Stmt-0 shape-the_row-Stmt-1 hidden-the_row-Stmt-1 shown-the_row-Stmt-1 hidden steps_run_of gone_by
adds_in_order_steps_laid = refl

pub returns-clause-adds_in_order : goal.returns-clause-adds_in_order
returns-clause-adds_in_order c = (ap (λ e. said (runs_of (e adds_in_order.tree adds_in_order.meanings adds_in_order.layout narrowing) adds_in_order.layout.functions objects_apart (data_of adds_in_order objects_apart) 4096 3 [] 1000)) elaborations_same ∙ adds_in_order_laid, ap (λ e. said (steps_run_of (e adds_in_order.tree adds_in_order.meanings adds_in_order.layout narrowing) adds_in_order.layout.functions objects_apart (data_of adds_in_order objects_apart) 4096 3 1000)) elaborations_same ∙ adds_in_order_steps_laid)
