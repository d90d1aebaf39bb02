use Rattle.std.proofs.Common.{refl, ap, ◌∙◌, ◌≡◌, true, []}
use Rattle.std.specs.Fmt.{digits}
use Rattle.mx_base.specs.Numbers.{residue, as_signed, number_of, value_of, wrapped, word_of, extended}
use Rattle.mx_base.specs.Operators.{arithmetic, compares, word_arithmetic, word_compares}
use Rattle.mx_base.specs.Bounds.{moved, last_byte, leaving_value, bounds_at}
use Rattle.mx_base.specs.Regions.{is_sealed, is_open_to_read, is_open_to_write}
use Rattle.mx_base.specs.Memory.{number_at, with_number, first_refused, first_refused_around}
use Rattle.mx_base.specs.Access.{refusal}
use Rattle.mx_base.specs.BoundsStore.{touched_with, keep_bounds, load_bounds, bounds_for}
use Rattle.mx_base.specs.Heap.{rounded, allocated, freed}
use Rattle.mx_base.specs.Services.{served, c_service}
use Rattle.mx_base.specs.World.{pointer_written, pointer_read}
use Rattle.bounds_plan.specs.meaning.Expressions.{stepped}
use denote.Hole.Carrier.{hidden}
use Rattle.c_tree.specs.declared.tree.ExprKind.TheBlock.{shape-the_row-Expr-0, hidden-the_row-Expr-0, shown-the_row-Expr-0, shape-the_row-Expr-1, hidden-the_row-Expr-1, shown-the_row-Expr-1}
use Rattle.c_tree.specs.declared.tree.InitKind.TheBlock.{shape-the_row-Init-0, hidden-the_row-Init-0, shown-the_row-Init-0}
use Rattle.c_tree.specs.declared.tree.StmtKind.TheBlock.{shape-the_row-Stmt-0, hidden-the_row-Stmt-0, shown-the_row-Stmt-0, shape-the_row-Stmt-1, hidden-the_row-Stmt-1, shown-the_row-Stmt-1}
use Rattle.bounds_plan.proofs.Laid.{elaborations_same, elaborated_laid}
use Rattle.bounds_plan.specs.elaboration.Functions.{gone_by}
use Rattle.std.specs.Prelude.{codes}
use Rattle.mx_base.specs.StopOfC.{Exit}
use Rattle.bounds_plan.specs.laws.Worked.{narrowing, other_flags_alone, first_object}
use Rattle.bounds_plan.specs.laws.WorkedSources.{prints_members}
use Rattle.bounds_plan.specs.laws.WorkedFlags.{trailing_array, nested_array, row_pointed_to}
use Rattle.bounds_plan.specs.laws.WorkedRuns.{runs_of, steps_run_of, data_of, said, saying}
use Rattle.bounds_plan.proofs.sources.flags_decide_bounds_so.Goals as goal

first_members_laid : said (runs_of (elaborated_laid prints_members.tree prints_members.meanings prints_members.layout narrowing) prints_members.layout.functions first_object (data_of prints_members first_object) 4096 0 [] 10) ≡ saying (Exit 0) (codes "536870912\n536870927\n536870916\n536870923\n")
unfolding residue as_signed number_of value_of wrapped word_of extended arithmetic compares word_arithmetic word_compares moved last_byte leaving_value bounds_at is_sealed is_open_to_read is_open_to_write number_at with_number first_refused first_refused_around refusal touched_with keep_bounds load_bounds bounds_for rounded allocated freed served c_service pointer_written pointer_read digits stepped shape-the_row-Expr-0 hidden-the_row-Expr-0 shown-the_row-Expr-0 shape-the_row-Expr-1 hidden-the_row-Expr-1 shown-the_row-Expr-1 shape-the_row-Init-0 hidden-the_row-Init-0 shown-the_row-Init-0 shape-the_row-Stmt-0 hidden-the_row-Stmt-0 shown-the_row-Stmt-0 shape-the_row-Stmt-1 hidden-the_row-Stmt-1 shown-the_row-Stmt-1 hidden runs_of gone_by
first_members_laid = refl

first_members_steps_laid : said (steps_run_of (elaborated_laid prints_members.tree prints_members.meanings prints_members.layout narrowing) prints_members.layout.functions first_object (data_of prints_members first_object) 4096 0 10) ≡ saying (Exit 0) (codes "536870912\n536870927\n536870916\n536870923\n")
unfolding residue as_signed number_of value_of wrapped word_of extended arithmetic compares word_arithmetic word_compares moved last_byte leaving_value bounds_at is_sealed is_open_to_read is_open_to_write number_at with_number first_refused first_refused_around refusal touched_with keep_bounds load_bounds bounds_for rounded allocated freed served c_service pointer_written pointer_read digits stepped shape-the_row-Expr-0 hidden-the_row-Expr-0 shown-the_row-Expr-0 shape-the_row-Expr-1 hidden-the_row-Expr-1 shown-the_row-Expr-1 shape-the_row-Init-0 hidden-the_row-Init-0 shown-the_row-Init-0 shape-the_row-Stmt-0 hidden-the_row-Stmt-0 shown-the_row-Stmt-0 shape-the_row-Stmt-1 hidden-the_row-Stmt-1 shown-the_row-Stmt-1 hidden steps_run_of gone_by
first_members_steps_laid = refl

pub returns-clause-first_members : goal.returns-clause-first_members
returns-clause-first_members c = (ap (λ e. said (runs_of (e prints_members.tree prints_members.meanings prints_members.layout narrowing) prints_members.layout.functions first_object (data_of prints_members first_object) 4096 0 [] 10)) elaborations_same ∙ first_members_laid, ap (λ e. said (steps_run_of (e prints_members.tree prints_members.meanings prints_members.layout narrowing) prints_members.layout.functions first_object (data_of prints_members first_object) 4096 0 10)) elaborations_same ∙ first_members_steps_laid)

first_members_own_laid : said (runs_of (elaborated_laid prints_members.tree prints_members.meanings prints_members.layout (record narrowing { first_own = true })) prints_members.layout.functions first_object (data_of prints_members first_object) 4096 0 [] 10) ≡ saying (Exit 0) (codes "536870912\n536870915\n536870916\n536870923\n")
unfolding residue as_signed number_of value_of wrapped word_of extended arithmetic compares word_arithmetic word_compares moved last_byte leaving_value bounds_at is_sealed is_open_to_read is_open_to_write number_at with_number first_refused first_refused_around refusal touched_with keep_bounds load_bounds bounds_for rounded allocated freed served c_service pointer_written pointer_read digits stepped shape-the_row-Expr-0 hidden-the_row-Expr-0 shown-the_row-Expr-0 shape-the_row-Expr-1 hidden-the_row-Expr-1 shown-the_row-Expr-1 shape-the_row-Init-0 hidden-the_row-Init-0 shown-the_row-Init-0 shape-the_row-Stmt-0 hidden-the_row-Stmt-0 shown-the_row-Stmt-0 shape-the_row-Stmt-1 hidden-the_row-Stmt-1 shown-the_row-Stmt-1 hidden runs_of gone_by
first_members_own_laid = refl

first_members_own_steps_laid : said (steps_run_of (elaborated_laid prints_members.tree prints_members.meanings prints_members.layout (record narrowing { first_own = true })) prints_members.layout.functions first_object (data_of prints_members first_object) 4096 0 10) ≡ saying (Exit 0) (codes "536870912\n536870915\n536870916\n536870923\n")
unfolding residue as_signed number_of value_of wrapped word_of extended arithmetic compares word_arithmetic word_compares moved last_byte leaving_value bounds_at is_sealed is_open_to_read is_open_to_write number_at with_number first_refused first_refused_around refusal touched_with keep_bounds load_bounds bounds_for rounded allocated freed served c_service pointer_written pointer_read digits stepped shape-the_row-Expr-0 hidden-the_row-Expr-0 shown-the_row-Expr-0 shape-the_row-Expr-1 hidden-the_row-Expr-1 shown-the_row-Expr-1 shape-the_row-Init-0 hidden-the_row-Init-0 shown-the_row-Init-0 shape-the_row-Stmt-0 hidden-the_row-Stmt-0 shown-the_row-Stmt-0 shape-the_row-Stmt-1 hidden-the_row-Stmt-1 shown-the_row-Stmt-1 hidden steps_run_of gone_by
first_members_own_steps_laid = refl

pub returns-clause-first_members_own : goal.returns-clause-first_members_own
returns-clause-first_members_own c = (ap (λ e. said (runs_of (e prints_members.tree prints_members.meanings prints_members.layout (record narrowing { first_own = true })) prints_members.layout.functions first_object (data_of prints_members first_object) 4096 0 [] 10)) elaborations_same ∙ first_members_own_laid, ap (λ e. said (steps_run_of (e prints_members.tree prints_members.meanings prints_members.layout (record narrowing { first_own = true })) prints_members.layout.functions first_object (data_of prints_members first_object) 4096 0 10)) elaborations_same ∙ first_members_own_steps_laid)

trailing_arrays_laid : said (runs_of (elaborated_laid trailing_array.tree trailing_array.meanings trailing_array.layout narrowing) trailing_array.layout.functions first_object (data_of trailing_array first_object) 4096 0 [] 10) ≡ saying (Exit 0) (codes "536870916\n")
unfolding residue as_signed number_of value_of wrapped word_of extended arithmetic compares word_arithmetic word_compares moved last_byte leaving_value bounds_at is_sealed is_open_to_read is_open_to_write number_at with_number first_refused first_refused_around refusal touched_with keep_bounds load_bounds bounds_for rounded allocated freed served c_service pointer_written pointer_read digits stepped shape-the_row-Expr-0 hidden-the_row-Expr-0 shown-the_row-Expr-0 shape-the_row-Expr-1 hidden-the_row-Expr-1 shown-the_row-Expr-1 shape-the_row-Init-0 hidden-the_row-Init-0 shown-the_row-Init-0 shape-the_row-Stmt-0 hidden-the_row-Stmt-0 shown-the_row-Stmt-0 shape-the_row-Stmt-1 hidden-the_row-Stmt-1 shown-the_row-Stmt-1 hidden runs_of gone_by
trailing_arrays_laid = refl

trailing_arrays_steps_laid : said (steps_run_of (elaborated_laid trailing_array.tree trailing_array.meanings trailing_array.layout narrowing) trailing_array.layout.functions first_object (data_of trailing_array first_object) 4096 0 10) ≡ saying (Exit 0) (codes "536870916\n")
unfolding residue as_signed number_of value_of wrapped word_of extended arithmetic compares word_arithmetic word_compares moved last_byte leaving_value bounds_at is_sealed is_open_to_read is_open_to_write number_at with_number first_refused first_refused_around refusal touched_with keep_bounds load_bounds bounds_for rounded allocated freed served c_service pointer_written pointer_read digits stepped shape-the_row-Expr-0 hidden-the_row-Expr-0 shown-the_row-Expr-0 shape-the_row-Expr-1 hidden-the_row-Expr-1 shown-the_row-Expr-1 shape-the_row-Init-0 hidden-the_row-Init-0 shown-the_row-Init-0 shape-the_row-Stmt-0 hidden-the_row-Stmt-0 shown-the_row-Stmt-0 shape-the_row-Stmt-1 hidden-the_row-Stmt-1 shown-the_row-Stmt-1 hidden steps_run_of gone_by
trailing_arrays_steps_laid = refl

pub returns-clause-trailing_arrays : goal.returns-clause-trailing_arrays
returns-clause-trailing_arrays c = (ap (λ e. said (runs_of (e trailing_array.tree trailing_array.meanings trailing_array.layout narrowing) trailing_array.layout.functions first_object (data_of trailing_array first_object) 4096 0 [] 10)) elaborations_same ∙ trailing_arrays_laid, ap (λ e. said (steps_run_of (e trailing_array.tree trailing_array.meanings trailing_array.layout narrowing) trailing_array.layout.functions first_object (data_of trailing_array first_object) 4096 0 10)) elaborations_same ∙ trailing_arrays_steps_laid)

trailing_arrays_flexible_laid : said (runs_of (elaborated_laid trailing_array.tree trailing_array.meanings trailing_array.layout (record narrowing { flexible = true })) trailing_array.layout.functions first_object (data_of trailing_array first_object) 4096 0 [] 10) ≡ saying (Exit 0) (codes "536870912\n")
unfolding residue as_signed number_of value_of wrapped word_of extended arithmetic compares word_arithmetic word_compares moved last_byte leaving_value bounds_at is_sealed is_open_to_read is_open_to_write number_at with_number first_refused first_refused_around refusal touched_with keep_bounds load_bounds bounds_for rounded allocated freed served c_service pointer_written pointer_read digits stepped shape-the_row-Expr-0 hidden-the_row-Expr-0 shown-the_row-Expr-0 shape-the_row-Expr-1 hidden-the_row-Expr-1 shown-the_row-Expr-1 shape-the_row-Init-0 hidden-the_row-Init-0 shown-the_row-Init-0 shape-the_row-Stmt-0 hidden-the_row-Stmt-0 shown-the_row-Stmt-0 shape-the_row-Stmt-1 hidden-the_row-Stmt-1 shown-the_row-Stmt-1 hidden runs_of gone_by
trailing_arrays_flexible_laid = refl

trailing_arrays_flexible_steps_laid : said (steps_run_of (elaborated_laid trailing_array.tree trailing_array.meanings trailing_array.layout (record narrowing { flexible = true })) trailing_array.layout.functions first_object (data_of trailing_array first_object) 4096 0 10) ≡ saying (Exit 0) (codes "536870912\n")
unfolding residue as_signed number_of value_of wrapped word_of extended arithmetic compares word_arithmetic word_compares moved last_byte leaving_value bounds_at is_sealed is_open_to_read is_open_to_write number_at with_number first_refused first_refused_around refusal touched_with keep_bounds load_bounds bounds_for rounded allocated freed served c_service pointer_written pointer_read digits stepped shape-the_row-Expr-0 hidden-the_row-Expr-0 shown-the_row-Expr-0 shape-the_row-Expr-1 hidden-the_row-Expr-1 shown-the_row-Expr-1 shape-the_row-Init-0 hidden-the_row-Init-0 shown-the_row-Init-0 shape-the_row-Stmt-0 hidden-the_row-Stmt-0 shown-the_row-Stmt-0 shape-the_row-Stmt-1 hidden-the_row-Stmt-1 shown-the_row-Stmt-1 hidden steps_run_of gone_by
trailing_arrays_flexible_steps_laid = refl

pub returns-clause-trailing_arrays_flexible : goal.returns-clause-trailing_arrays_flexible
returns-clause-trailing_arrays_flexible c = (ap (λ e. said (runs_of (e trailing_array.tree trailing_array.meanings trailing_array.layout (record narrowing { flexible = true })) trailing_array.layout.functions first_object (data_of trailing_array first_object) 4096 0 [] 10)) elaborations_same ∙ trailing_arrays_flexible_laid, ap (λ e. said (steps_run_of (e trailing_array.tree trailing_array.meanings trailing_array.layout (record narrowing { flexible = true })) trailing_array.layout.functions first_object (data_of trailing_array first_object) 4096 0 10)) elaborations_same ∙ trailing_arrays_flexible_steps_laid)

nested_arrays_laid : said (runs_of (elaborated_laid nested_array.tree nested_array.meanings nested_array.layout narrowing) nested_array.layout.functions first_object (data_of nested_array first_object) 4096 0 [] 10) ≡ saying (Exit 0) (codes "536870935\n")
unfolding residue as_signed number_of value_of wrapped word_of extended arithmetic compares word_arithmetic word_compares moved last_byte leaving_value bounds_at is_sealed is_open_to_read is_open_to_write number_at with_number first_refused first_refused_around refusal touched_with keep_bounds load_bounds bounds_for rounded allocated freed served c_service pointer_written pointer_read digits stepped shape-the_row-Expr-0 hidden-the_row-Expr-0 shown-the_row-Expr-0 shape-the_row-Expr-1 hidden-the_row-Expr-1 shown-the_row-Expr-1 shape-the_row-Init-0 hidden-the_row-Init-0 shown-the_row-Init-0 shape-the_row-Stmt-0 hidden-the_row-Stmt-0 shown-the_row-Stmt-0 shape-the_row-Stmt-1 hidden-the_row-Stmt-1 shown-the_row-Stmt-1 hidden runs_of gone_by
nested_arrays_laid = refl

nested_arrays_steps_laid : said (steps_run_of (elaborated_laid nested_array.tree nested_array.meanings nested_array.layout narrowing) nested_array.layout.functions first_object (data_of nested_array first_object) 4096 0 10) ≡ saying (Exit 0) (codes "536870935\n")
unfolding residue as_signed number_of value_of wrapped word_of extended arithmetic compares word_arithmetic word_compares moved last_byte leaving_value bounds_at is_sealed is_open_to_read is_open_to_write number_at with_number first_refused first_refused_around refusal touched_with keep_bounds load_bounds bounds_for rounded allocated freed served c_service pointer_written pointer_read digits stepped shape-the_row-Expr-0 hidden-the_row-Expr-0 shown-the_row-Expr-0 shape-the_row-Expr-1 hidden-the_row-Expr-1 shown-the_row-Expr-1 shape-the_row-Init-0 hidden-the_row-Init-0 shown-the_row-Init-0 shape-the_row-Stmt-0 hidden-the_row-Stmt-0 shown-the_row-Stmt-0 shape-the_row-Stmt-1 hidden-the_row-Stmt-1 shown-the_row-Stmt-1 hidden steps_run_of gone_by
nested_arrays_steps_laid = refl

pub returns-clause-nested_arrays : goal.returns-clause-nested_arrays
returns-clause-nested_arrays c = (ap (λ e. said (runs_of (e nested_array.tree nested_array.meanings nested_array.layout narrowing) nested_array.layout.functions first_object (data_of nested_array first_object) 4096 0 [] 10)) elaborations_same ∙ nested_arrays_laid, ap (λ e. said (steps_run_of (e nested_array.tree nested_array.meanings nested_array.layout narrowing) nested_array.layout.functions first_object (data_of nested_array first_object) 4096 0 10)) elaborations_same ∙ nested_arrays_steps_laid)

nested_arrays_innermost_laid : said (runs_of (elaborated_laid nested_array.tree nested_array.meanings nested_array.layout (record narrowing { innermost = true })) nested_array.layout.functions first_object (data_of nested_array first_object) 4096 0 [] 10) ≡ saying (Exit 0) (codes "536870923\n")
unfolding residue as_signed number_of value_of wrapped word_of extended arithmetic compares word_arithmetic word_compares moved last_byte leaving_value bounds_at is_sealed is_open_to_read is_open_to_write number_at with_number first_refused first_refused_around refusal touched_with keep_bounds load_bounds bounds_for rounded allocated freed served c_service pointer_written pointer_read digits stepped shape-the_row-Expr-0 hidden-the_row-Expr-0 shown-the_row-Expr-0 shape-the_row-Expr-1 hidden-the_row-Expr-1 shown-the_row-Expr-1 shape-the_row-Init-0 hidden-the_row-Init-0 shown-the_row-Init-0 shape-the_row-Stmt-0 hidden-the_row-Stmt-0 shown-the_row-Stmt-0 shape-the_row-Stmt-1 hidden-the_row-Stmt-1 shown-the_row-Stmt-1 hidden runs_of gone_by
nested_arrays_innermost_laid = refl

nested_arrays_innermost_steps_laid : said (steps_run_of (elaborated_laid nested_array.tree nested_array.meanings nested_array.layout (record narrowing { innermost = true })) nested_array.layout.functions first_object (data_of nested_array first_object) 4096 0 10) ≡ saying (Exit 0) (codes "536870923\n")
unfolding residue as_signed number_of value_of wrapped word_of extended arithmetic compares word_arithmetic word_compares moved last_byte leaving_value bounds_at is_sealed is_open_to_read is_open_to_write number_at with_number first_refused first_refused_around refusal touched_with keep_bounds load_bounds bounds_for rounded allocated freed served c_service pointer_written pointer_read digits stepped shape-the_row-Expr-0 hidden-the_row-Expr-0 shown-the_row-Expr-0 shape-the_row-Expr-1 hidden-the_row-Expr-1 shown-the_row-Expr-1 shape-the_row-Init-0 hidden-the_row-Init-0 shown-the_row-Init-0 shape-the_row-Stmt-0 hidden-the_row-Stmt-0 shown-the_row-Stmt-0 shape-the_row-Stmt-1 hidden-the_row-Stmt-1 shown-the_row-Stmt-1 hidden steps_run_of gone_by
nested_arrays_innermost_steps_laid = refl

pub returns-clause-nested_arrays_innermost : goal.returns-clause-nested_arrays_innermost
returns-clause-nested_arrays_innermost c = (ap (λ e. said (runs_of (e nested_array.tree nested_array.meanings nested_array.layout (record narrowing { innermost = true })) nested_array.layout.functions first_object (data_of nested_array first_object) 4096 0 [] 10)) elaborations_same ∙ nested_arrays_innermost_laid, ap (λ e. said (steps_run_of (e nested_array.tree nested_array.meanings nested_array.layout (record narrowing { innermost = true })) nested_array.layout.functions first_object (data_of nested_array first_object) 4096 0 10)) elaborations_same ∙ nested_arrays_innermost_steps_laid)

rows_pointed_to_innermost_laid : said (runs_of (elaborated_laid row_pointed_to.tree row_pointed_to.meanings row_pointed_to.layout (record narrowing { innermost = true })) row_pointed_to.layout.functions first_object (data_of row_pointed_to first_object) 4096 0 [] 10) ≡ saying (Exit 0) (codes "536870935\n")
unfolding residue as_signed number_of value_of wrapped word_of extended arithmetic compares word_arithmetic word_compares moved last_byte leaving_value bounds_at is_sealed is_open_to_read is_open_to_write number_at with_number first_refused first_refused_around refusal touched_with keep_bounds load_bounds bounds_for rounded allocated freed served c_service pointer_written pointer_read digits stepped shape-the_row-Expr-0 hidden-the_row-Expr-0 shown-the_row-Expr-0 shape-the_row-Expr-1 hidden-the_row-Expr-1 shown-the_row-Expr-1 shape-the_row-Init-0 hidden-the_row-Init-0 shown-the_row-Init-0 shape-the_row-Stmt-0 hidden-the_row-Stmt-0 shown-the_row-Stmt-0 shape-the_row-Stmt-1 hidden-the_row-Stmt-1 shown-the_row-Stmt-1 hidden runs_of gone_by
rows_pointed_to_innermost_laid = refl

rows_pointed_to_innermost_steps_laid : said (steps_run_of (elaborated_laid row_pointed_to.tree row_pointed_to.meanings row_pointed_to.layout (record narrowing { innermost = true })) row_pointed_to.layout.functions first_object (data_of row_pointed_to first_object) 4096 0 10) ≡ saying (Exit 0) (codes "536870935\n")
unfolding residue as_signed number_of value_of wrapped word_of extended arithmetic compares word_arithmetic word_compares moved last_byte leaving_value bounds_at is_sealed is_open_to_read is_open_to_write number_at with_number first_refused first_refused_around refusal touched_with keep_bounds load_bounds bounds_for rounded allocated freed served c_service pointer_written pointer_read digits stepped shape-the_row-Expr-0 hidden-the_row-Expr-0 shown-the_row-Expr-0 shape-the_row-Expr-1 hidden-the_row-Expr-1 shown-the_row-Expr-1 shape-the_row-Init-0 hidden-the_row-Init-0 shown-the_row-Init-0 shape-the_row-Stmt-0 hidden-the_row-Stmt-0 shown-the_row-Stmt-0 shape-the_row-Stmt-1 hidden-the_row-Stmt-1 shown-the_row-Stmt-1 hidden steps_run_of gone_by
rows_pointed_to_innermost_steps_laid = refl

pub returns-clause-rows_pointed_to_innermost : goal.returns-clause-rows_pointed_to_innermost
returns-clause-rows_pointed_to_innermost c = (ap (λ e. said (runs_of (e row_pointed_to.tree row_pointed_to.meanings row_pointed_to.layout (record narrowing { innermost = true })) row_pointed_to.layout.functions first_object (data_of row_pointed_to first_object) 4096 0 [] 10)) elaborations_same ∙ rows_pointed_to_innermost_laid, ap (λ e. said (steps_run_of (e row_pointed_to.tree row_pointed_to.meanings row_pointed_to.layout (record narrowing { innermost = true })) row_pointed_to.layout.functions first_object (data_of row_pointed_to first_object) 4096 0 10)) elaborations_same ∙ rows_pointed_to_innermost_steps_laid)

first_members_not_narrowed_laid : said (runs_of (elaborated_laid prints_members.tree prints_members.meanings prints_members.layout other_flags_alone) prints_members.layout.functions first_object (data_of prints_members first_object) 4096 0 [] 10) ≡ saying (Exit 0) (codes "536870912\n536870927\n536870912\n536870927\n")
unfolding residue as_signed number_of value_of wrapped word_of extended arithmetic compares word_arithmetic word_compares moved last_byte leaving_value bounds_at is_sealed is_open_to_read is_open_to_write number_at with_number first_refused first_refused_around refusal touched_with keep_bounds load_bounds bounds_for rounded allocated freed served c_service pointer_written pointer_read digits stepped shape-the_row-Expr-0 hidden-the_row-Expr-0 shown-the_row-Expr-0 shape-the_row-Expr-1 hidden-the_row-Expr-1 shown-the_row-Expr-1 shape-the_row-Init-0 hidden-the_row-Init-0 shown-the_row-Init-0 shape-the_row-Stmt-0 hidden-the_row-Stmt-0 shown-the_row-Stmt-0 shape-the_row-Stmt-1 hidden-the_row-Stmt-1 shown-the_row-Stmt-1 hidden runs_of gone_by
first_members_not_narrowed_laid = refl

first_members_not_narrowed_steps_laid : said (steps_run_of (elaborated_laid prints_members.tree prints_members.meanings prints_members.layout other_flags_alone) prints_members.layout.functions first_object (data_of prints_members first_object) 4096 0 10) ≡ saying (Exit 0) (codes "536870912\n536870927\n536870912\n536870927\n")
unfolding residue as_signed number_of value_of wrapped word_of extended arithmetic compares word_arithmetic word_compares moved last_byte leaving_value bounds_at is_sealed is_open_to_read is_open_to_write number_at with_number first_refused first_refused_around refusal touched_with keep_bounds load_bounds bounds_for rounded allocated freed served c_service pointer_written pointer_read digits stepped shape-the_row-Expr-0 hidden-the_row-Expr-0 shown-the_row-Expr-0 shape-the_row-Expr-1 hidden-the_row-Expr-1 shown-the_row-Expr-1 shape-the_row-Init-0 hidden-the_row-Init-0 shown-the_row-Init-0 shape-the_row-Stmt-0 hidden-the_row-Stmt-0 shown-the_row-Stmt-0 shape-the_row-Stmt-1 hidden-the_row-Stmt-1 shown-the_row-Stmt-1 hidden steps_run_of gone_by
first_members_not_narrowed_steps_laid = refl

pub returns-clause-first_members_not_narrowed : goal.returns-clause-first_members_not_narrowed
returns-clause-first_members_not_narrowed c = (ap (λ e. said (runs_of (e prints_members.tree prints_members.meanings prints_members.layout other_flags_alone) prints_members.layout.functions first_object (data_of prints_members first_object) 4096 0 [] 10)) elaborations_same ∙ first_members_not_narrowed_laid, ap (λ e. said (steps_run_of (e prints_members.tree prints_members.meanings prints_members.layout other_flags_alone) prints_members.layout.functions first_object (data_of prints_members first_object) 4096 0 10)) elaborations_same ∙ first_members_not_narrowed_steps_laid)

trailing_arrays_not_narrowed_laid : said (runs_of (elaborated_laid trailing_array.tree trailing_array.meanings trailing_array.layout other_flags_alone) trailing_array.layout.functions first_object (data_of trailing_array first_object) 4096 0 [] 10) ≡ saying (Exit 0) (codes "536870912\n")
unfolding residue as_signed number_of value_of wrapped word_of extended arithmetic compares word_arithmetic word_compares moved last_byte leaving_value bounds_at is_sealed is_open_to_read is_open_to_write number_at with_number first_refused first_refused_around refusal touched_with keep_bounds load_bounds bounds_for rounded allocated freed served c_service pointer_written pointer_read digits stepped shape-the_row-Expr-0 hidden-the_row-Expr-0 shown-the_row-Expr-0 shape-the_row-Expr-1 hidden-the_row-Expr-1 shown-the_row-Expr-1 shape-the_row-Init-0 hidden-the_row-Init-0 shown-the_row-Init-0 shape-the_row-Stmt-0 hidden-the_row-Stmt-0 shown-the_row-Stmt-0 shape-the_row-Stmt-1 hidden-the_row-Stmt-1 shown-the_row-Stmt-1 hidden runs_of gone_by
trailing_arrays_not_narrowed_laid = refl

trailing_arrays_not_narrowed_steps_laid : said (steps_run_of (elaborated_laid trailing_array.tree trailing_array.meanings trailing_array.layout other_flags_alone) trailing_array.layout.functions first_object (data_of trailing_array first_object) 4096 0 10) ≡ saying (Exit 0) (codes "536870912\n")
unfolding residue as_signed number_of value_of wrapped word_of extended arithmetic compares word_arithmetic word_compares moved last_byte leaving_value bounds_at is_sealed is_open_to_read is_open_to_write number_at with_number first_refused first_refused_around refusal touched_with keep_bounds load_bounds bounds_for rounded allocated freed served c_service pointer_written pointer_read digits stepped shape-the_row-Expr-0 hidden-the_row-Expr-0 shown-the_row-Expr-0 shape-the_row-Expr-1 hidden-the_row-Expr-1 shown-the_row-Expr-1 shape-the_row-Init-0 hidden-the_row-Init-0 shown-the_row-Init-0 shape-the_row-Stmt-0 hidden-the_row-Stmt-0 shown-the_row-Stmt-0 shape-the_row-Stmt-1 hidden-the_row-Stmt-1 shown-the_row-Stmt-1 hidden steps_run_of gone_by
trailing_arrays_not_narrowed_steps_laid = refl

pub returns-clause-trailing_arrays_not_narrowed : goal.returns-clause-trailing_arrays_not_narrowed
returns-clause-trailing_arrays_not_narrowed c = (ap (λ e. said (runs_of (e trailing_array.tree trailing_array.meanings trailing_array.layout other_flags_alone) trailing_array.layout.functions first_object (data_of trailing_array first_object) 4096 0 [] 10)) elaborations_same ∙ trailing_arrays_not_narrowed_laid, ap (λ e. said (steps_run_of (e trailing_array.tree trailing_array.meanings trailing_array.layout other_flags_alone) trailing_array.layout.functions first_object (data_of trailing_array first_object) 4096 0 10)) elaborations_same ∙ trailing_arrays_not_narrowed_steps_laid)

nested_arrays_not_narrowed_laid : said (runs_of (elaborated_laid nested_array.tree nested_array.meanings nested_array.layout other_flags_alone) nested_array.layout.functions first_object (data_of nested_array first_object) 4096 0 [] 10) ≡ saying (Exit 0) (codes "536870935\n")
unfolding residue as_signed number_of value_of wrapped word_of extended arithmetic compares word_arithmetic word_compares moved last_byte leaving_value bounds_at is_sealed is_open_to_read is_open_to_write number_at with_number first_refused first_refused_around refusal touched_with keep_bounds load_bounds bounds_for rounded allocated freed served c_service pointer_written pointer_read digits stepped shape-the_row-Expr-0 hidden-the_row-Expr-0 shown-the_row-Expr-0 shape-the_row-Expr-1 hidden-the_row-Expr-1 shown-the_row-Expr-1 shape-the_row-Init-0 hidden-the_row-Init-0 shown-the_row-Init-0 shape-the_row-Stmt-0 hidden-the_row-Stmt-0 shown-the_row-Stmt-0 shape-the_row-Stmt-1 hidden-the_row-Stmt-1 shown-the_row-Stmt-1 hidden runs_of gone_by
nested_arrays_not_narrowed_laid = refl

nested_arrays_not_narrowed_steps_laid : said (steps_run_of (elaborated_laid nested_array.tree nested_array.meanings nested_array.layout other_flags_alone) nested_array.layout.functions first_object (data_of nested_array first_object) 4096 0 10) ≡ saying (Exit 0) (codes "536870935\n")
unfolding residue as_signed number_of value_of wrapped word_of extended arithmetic compares word_arithmetic word_compares moved last_byte leaving_value bounds_at is_sealed is_open_to_read is_open_to_write number_at with_number first_refused first_refused_around refusal touched_with keep_bounds load_bounds bounds_for rounded allocated freed served c_service pointer_written pointer_read digits stepped shape-the_row-Expr-0 hidden-the_row-Expr-0 shown-the_row-Expr-0 shape-the_row-Expr-1 hidden-the_row-Expr-1 shown-the_row-Expr-1 shape-the_row-Init-0 hidden-the_row-Init-0 shown-the_row-Init-0 shape-the_row-Stmt-0 hidden-the_row-Stmt-0 shown-the_row-Stmt-0 shape-the_row-Stmt-1 hidden-the_row-Stmt-1 shown-the_row-Stmt-1 hidden steps_run_of gone_by
nested_arrays_not_narrowed_steps_laid = refl

pub returns-clause-nested_arrays_not_narrowed : goal.returns-clause-nested_arrays_not_narrowed
returns-clause-nested_arrays_not_narrowed c = (ap (λ e. said (runs_of (e nested_array.tree nested_array.meanings nested_array.layout other_flags_alone) nested_array.layout.functions first_object (data_of nested_array first_object) 4096 0 [] 10)) elaborations_same ∙ nested_arrays_not_narrowed_laid, ap (λ e. said (steps_run_of (e nested_array.tree nested_array.meanings nested_array.layout other_flags_alone) nested_array.layout.functions first_object (data_of nested_array first_object) 4096 0 10)) elaborations_same ∙ nested_arrays_not_narrowed_steps_laid)
