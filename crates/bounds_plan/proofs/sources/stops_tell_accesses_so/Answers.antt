use Rattle.std.proofs.Common.{refl, ap, ◌∙◌, ◌≡◌, []}
use Rattle.std.specs.Fmt.{digits}
use Rattle.mx_base.specs.Numbers.{residue, as_signed, number_of, value_of, wrapped, word_of, extended}
use Rattle.mx_base.specs.Operators.{arithmetic, compares, word_arithmetic, word_compares}
use Rattle.mx_base.specs.Bounds.{moved, last_byte, leaving_value, bounds_at}
use Rattle.mx_base.specs.Regions.{is_sealed, is_open_to_read, is_open_to_write}
use Rattle.mx_base.specs.Memory.{number_at, with_number, first_refused, first_refused_around}
use Rattle.mx_base.specs.Access.{refusal}
use Rattle.mx_base.specs.BoundsStore.{touched_with, keep_bounds, load_bounds, bounds_for}
use Rattle.mx_base.specs.Heap.{rounded, allocated, freed}
use Rattle.mx_base.specs.Services.{served, c_service}
use Rattle.mx_base.specs.World.{pointer_written, pointer_read}
use Rattle.bounds_plan.specs.meaning.Expressions.{stepped}
use denote.Hole.Carrier.{hidden}
use Rattle.c_tree.specs.declared.tree.ExprKind.TheBlock.{shape-the_row-Expr-0, hidden-the_row-Expr-0, shown-the_row-Expr-0, shape-the_row-Expr-1, hidden-the_row-Expr-1, shown-the_row-Expr-1}
use Rattle.c_tree.specs.declared.tree.InitKind.TheBlock.{shape-the_row-Init-0, hidden-the_row-Init-0, shown-the_row-Init-0}
use Rattle.c_tree.specs.declared.tree.StmtKind.TheBlock.{shape-the_row-Stmt-0, hidden-the_row-Stmt-0, shown-the_row-Stmt-0, shape-the_row-Stmt-1, hidden-the_row-Stmt-1, shown-the_row-Stmt-1}
use Rattle.bounds_plan.proofs.Laid.{elaborations_same, elaborated_laid}
use Rattle.bounds_plan.specs.elaboration.Functions.{gone_by}
use Rattle.mx_base.specs.StopOfC.{Bounds, read_of, write_of}
use Rattle.bounds_plan.specs.laws.Worked.{narrowing, pair, at}
use Rattle.bounds_plan.specs.laws.WorkedFlags.{steps_element_4, adds_to_element_4, copies_from_bytes, copies_to_bytes}
use Rattle.bounds_plan.specs.laws.WorkedRuns.{runs_of, steps_run_of, data_of, said, saying, objects_apart}
use Rattle.bounds_plan.proofs.sources.stops_tell_accesses_so.Goals as goal

stepped_laid : said (runs_of (elaborated_laid steps_element_4.tree steps_element_4.meanings steps_element_4.layout narrowing) steps_element_4.layout.functions objects_apart (data_of steps_element_4 objects_apart) 4096 0 [] 10) ≡ saying (Bounds 0x2000_0004 (pair 0x2000_0000 0x2000_0003) (read_of 1 (at 2 20))) []
unfolding residue as_signed number_of value_of wrapped word_of extended arithmetic compares word_arithmetic word_compares moved last_byte leaving_value bounds_at is_sealed is_open_to_read is_open_to_write number_at with_number first_refused first_refused_around refusal touched_with keep_bounds load_bounds bounds_for rounded allocated freed served c_service pointer_written pointer_read digits stepped shape-the_row-Expr-0 hidden-the_row-Expr-0 shown-the_row-Expr-0 shape-the_row-Expr-1 hidden-the_row-Expr-1 shown-the_row-Expr-1 shape-the_row-Init-0 hidden-the_row-Init-0 shown-the_row-Init-0 shape-the_row-Stmt-0 hidden-the_row-Stmt-0 shown-the_row-Stmt-0 shape-the_row-Stmt-1 hidden-the_row-Stmt-1 shown-the_row-Stmt-1 hidden runs_of gone_by
stepped_laid = refl

stepped_steps_laid : said (steps_run_of (elaborated_laid steps_element_4.tree steps_element_4.meanings steps_element_4.layout narrowing) steps_element_4.layout.functions objects_apart (data_of steps_element_4 objects_apart) 4096 0 10) ≡ saying (Bounds 0x2000_0004 (pair 0x2000_0000 0x2000_0003) (read_of 1 (at 2 20))) []
unfolding residue as_signed number_of value_of wrapped word_of extended arithmetic compares word_arithmetic word_compares moved last_byte leaving_value bounds_at is_sealed is_open_to_read is_open_to_write number_at with_number first_refused first_refused_around refusal touched_with keep_bounds load_bounds bounds_for rounded allocated freed served c_service pointer_written pointer_read digits stepped shape-the_row-Expr-0 hidden-the_row-Expr-0 shown-the_row-Expr-0 shape-the_row-Expr-1 hidden-the_row-Expr-1 shown-the_row-Expr-1 shape-the_row-Init-0 hidden-the_row-Init-0 shown-the_row-Init-0 shape-the_row-Stmt-0 hidden-the_row-Stmt-0 shown-the_row-Stmt-0 shape-the_row-Stmt-1 hidden-the_row-Stmt-1 shown-the_row-Stmt-1 hidden steps_run_of gone_by
stepped_steps_laid = refl

pub returns-clause-stepped : goal.returns-clause-stepped
returns-clause-stepped c = (ap (λ e. said (runs_of (e steps_element_4.tree steps_element_4.meanings steps_element_4.layout narrowing) steps_element_4.layout.functions objects_apart (data_of steps_element_4 objects_apart) 4096 0 [] 10)) elaborations_same ∙ stepped_laid, ap (λ e. said (steps_run_of (e steps_element_4.tree steps_element_4.meanings steps_element_4.layout narrowing) steps_element_4.layout.functions objects_apart (data_of steps_element_4 objects_apart) 4096 0 10)) elaborations_same ∙ stepped_steps_laid)

added_to_laid : said (runs_of (elaborated_laid adds_to_element_4.tree adds_to_element_4.meanings adds_to_element_4.layout narrowing) adds_to_element_4.layout.functions objects_apart (data_of adds_to_element_4 objects_apart) 4096 0 [] 10) ≡ saying (Bounds 0x2000_0004 (pair 0x2000_0000 0x2000_0003) (read_of 1 (at 2 18))) []
unfolding residue as_signed number_of value_of wrapped word_of extended arithmetic compares word_arithmetic word_compares moved last_byte leaving_value bounds_at is_sealed is_open_to_read is_open_to_write number_at with_number first_refused first_refused_around refusal touched_with keep_bounds load_bounds bounds_for rounded allocated freed served c_service pointer_written pointer_read digits stepped shape-the_row-Expr-0 hidden-the_row-Expr-0 shown-the_row-Expr-0 shape-the_row-Expr-1 hidden-the_row-Expr-1 shown-the_row-Expr-1 shape-the_row-Init-0 hidden-the_row-Init-0 shown-the_row-Init-0 shape-the_row-Stmt-0 hidden-the_row-Stmt-0 shown-the_row-Stmt-0 shape-the_row-Stmt-1 hidden-the_row-Stmt-1 shown-the_row-Stmt-1 hidden runs_of gone_by
added_to_laid = refl

added_to_steps_laid : said (steps_run_of (elaborated_laid adds_to_element_4.tree adds_to_element_4.meanings adds_to_element_4.layout narrowing) adds_to_element_4.layout.functions objects_apart (data_of adds_to_element_4 objects_apart) 4096 0 10) ≡ saying (Bounds 0x2000_0004 (pair 0x2000_0000 0x2000_0003) (read_of 1 (at 2 18))) []
unfolding residue as_signed number_of value_of wrapped word_of extended arithmetic compares word_arithmetic word_compares moved last_byte leaving_value bounds_at is_sealed is_open_to_read is_open_to_write number_at with_number first_refused first_refused_around refusal touched_with keep_bounds load_bounds bounds_for rounded allocated freed served c_service pointer_written pointer_read digits stepped shape-the_row-Expr-0 hidden-the_row-Expr-0 shown-the_row-Expr-0 shape-the_row-Expr-1 hidden-the_row-Expr-1 shown-the_row-Expr-1 shape-the_row-Init-0 hidden-the_row-Init-0 shown-the_row-Init-0 shape-the_row-Stmt-0 hidden-the_row-Stmt-0 shown-the_row-Stmt-0 shape-the_row-Stmt-1 hidden-the_row-Stmt-1 shown-the_row-Stmt-1 hidden steps_run_of gone_by
added_to_steps_laid = refl

pub returns-clause-added_to : goal.returns-clause-added_to
returns-clause-added_to c = (ap (λ e. said (runs_of (e adds_to_element_4.tree adds_to_element_4.meanings adds_to_element_4.layout narrowing) adds_to_element_4.layout.functions objects_apart (data_of adds_to_element_4 objects_apart) 4096 0 [] 10)) elaborations_same ∙ added_to_laid, ap (λ e. said (steps_run_of (e adds_to_element_4.tree adds_to_element_4.meanings adds_to_element_4.layout narrowing) adds_to_element_4.layout.functions objects_apart (data_of adds_to_element_4 objects_apart) 4096 0 10)) elaborations_same ∙ added_to_steps_laid)

struct_read_laid : said (runs_of (elaborated_laid copies_from_bytes.tree copies_from_bytes.meanings copies_from_bytes.layout narrowing) copies_from_bytes.layout.functions objects_apart (data_of copies_from_bytes objects_apart) 4096 0 [] 10) ≡ saying (Bounds 0x2000_0107 (pair 0x2000_0100 0x2000_0103) (read_of 8 (at 2 21))) []
unfolding residue as_signed number_of value_of wrapped word_of extended arithmetic compares word_arithmetic word_compares moved last_byte leaving_value bounds_at is_sealed is_open_to_read is_open_to_write number_at with_number first_refused first_refused_around refusal touched_with keep_bounds load_bounds bounds_for rounded allocated freed served c_service pointer_written pointer_read digits stepped shape-the_row-Expr-0 hidden-the_row-Expr-0 shown-the_row-Expr-0 shape-the_row-Expr-1 hidden-the_row-Expr-1 shown-the_row-Expr-1 shape-the_row-Init-0 hidden-the_row-Init-0 shown-the_row-Init-0 shape-the_row-Stmt-0 hidden-the_row-Stmt-0 shown-the_row-Stmt-0 shape-the_row-Stmt-1 hidden-the_row-Stmt-1 shown-the_row-Stmt-1 hidden runs_of gone_by
struct_read_laid = refl

struct_read_steps_laid : said (steps_run_of (elaborated_laid copies_from_bytes.tree copies_from_bytes.meanings copies_from_bytes.layout narrowing) copies_from_bytes.layout.functions objects_apart (data_of copies_from_bytes objects_apart) 4096 0 10) ≡ saying (Bounds 0x2000_0107 (pair 0x2000_0100 0x2000_0103) (read_of 8 (at 2 21))) []
unfolding residue as_signed number_of value_of wrapped word_of extended arithmetic compares word_arithmetic word_compares moved last_byte leaving_value bounds_at is_sealed is_open_to_read is_open_to_write number_at with_number first_refused first_refused_around refusal touched_with keep_bounds load_bounds bounds_for rounded allocated freed served c_service pointer_written pointer_read digits stepped shape-the_row-Expr-0 hidden-the_row-Expr-0 shown-the_row-Expr-0 shape-the_row-Expr-1 hidden-the_row-Expr-1 shown-the_row-Expr-1 shape-the_row-Init-0 hidden-the_row-Init-0 shown-the_row-Init-0 shape-the_row-Stmt-0 hidden-the_row-Stmt-0 shown-the_row-Stmt-0 shape-the_row-Stmt-1 hidden-the_row-Stmt-1 shown-the_row-Stmt-1 hidden steps_run_of gone_by
struct_read_steps_laid = refl

pub returns-clause-struct_read : goal.returns-clause-struct_read
returns-clause-struct_read c = (ap (λ e. said (runs_of (e copies_from_bytes.tree copies_from_bytes.meanings copies_from_bytes.layout narrowing) copies_from_bytes.layout.functions objects_apart (data_of copies_from_bytes objects_apart) 4096 0 [] 10)) elaborations_same ∙ struct_read_laid, ap (λ e. said (steps_run_of (e copies_from_bytes.tree copies_from_bytes.meanings copies_from_bytes.layout narrowing) copies_from_bytes.layout.functions objects_apart (data_of copies_from_bytes objects_apart) 4096 0 10)) elaborations_same ∙ struct_read_steps_laid)

struct_written_laid : said (runs_of (elaborated_laid copies_to_bytes.tree copies_to_bytes.meanings copies_to_bytes.layout narrowing) copies_to_bytes.layout.functions objects_apart (data_of copies_to_bytes objects_apart) 4096 0 [] 10) ≡ saying (Bounds 0x2000_0107 (pair 0x2000_0100 0x2000_0103) (write_of 8 (at 2 17))) []
unfolding residue as_signed number_of value_of wrapped word_of extended arithmetic compares word_arithmetic word_compares moved last_byte leaving_value bounds_at is_sealed is_open_to_read is_open_to_write number_at with_number first_refused first_refused_around refusal touched_with keep_bounds load_bounds bounds_for rounded allocated freed served c_service pointer_written pointer_read digits stepped shape-the_row-Expr-0 hidden-the_row-Expr-0 shown-the_row-Expr-0 shape-the_row-Expr-1 hidden-the_row-Expr-1 shown-the_row-Expr-1 shape-the_row-Init-0 hidden-the_row-Init-0 shown-the_row-Init-0 shape-the_row-Stmt-0 hidden-the_row-Stmt-0 shown-the_row-Stmt-0 shape-the_row-Stmt-1 hidden-the_row-Stmt-1 shown-the_row-Stmt-1 hidden runs_of gone_by
struct_written_laid = refl

struct_written_steps_laid : said (steps_run_of (elaborated_laid copies_to_bytes.tree copies_to_bytes.meanings copies_to_bytes.layout narrowing) copies_to_bytes.layout.functions objects_apart (data_of copies_to_bytes objects_apart) 4096 0 10) ≡ saying (Bounds 0x2000_0107 (pair 0x2000_0100 0x2000_0103) (write_of 8 (at 2 17))) []
unfolding residue as_signed number_of value_of wrapped word_of extended arithmetic compares word_arithmetic word_compares moved last_byte leaving_value bounds_at is_sealed is_open_to_read is_open_to_write number_at with_number first_refused first_refused_around refusal touched_with keep_bounds load_bounds bounds_for rounded allocated freed served c_service pointer_written pointer_read digits stepped shape-the_row-Expr-0 hidden-the_row-Expr-0 shown-the_row-Expr-0 shape-the_row-Expr-1 hidden-the_row-Expr-1 shown-the_row-Expr-1 shape-the_row-Init-0 hidden-the_row-Init-0 shown-the_row-Init-0 shape-the_row-Stmt-0 hidden-the_row-Stmt-0 shown-the_row-Stmt-0 shape-the_row-Stmt-1 hidden-the_row-Stmt-1 shown-the_row-Stmt-1 hidden steps_run_of gone_by
struct_written_steps_laid = refl

pub returns-clause-struct_written : goal.returns-clause-struct_written
returns-clause-struct_written c = (ap (λ e. said (runs_of (e copies_to_bytes.tree copies_to_bytes.meanings copies_to_bytes.layout narrowing) copies_to_bytes.layout.functions objects_apart (data_of copies_to_bytes objects_apart) 4096 0 [] 10)) elaborations_same ∙ struct_written_laid, ap (λ e. said (steps_run_of (e copies_to_bytes.tree copies_to_bytes.meanings copies_to_bytes.layout narrowing) copies_to_bytes.layout.functions objects_apart (data_of copies_to_bytes objects_apart) 4096 0 10)) elaborations_same ∙ struct_written_steps_laid)
