use Rattle.std.proofs.Common.{refl, ap, ◌∙◌, ◌≡◌, [], ◌∷◌}
use Rattle.std.specs.Fmt.{digits}
use Rattle.mx_base.specs.Numbers.{residue, as_signed, number_of, value_of, wrapped, word_of, extended}
use Rattle.mx_base.specs.Operators.{arithmetic, compares, word_arithmetic, word_compares}
use Rattle.mx_base.specs.Bounds.{moved, last_byte, leaving_value, bounds_at}
use Rattle.mx_base.specs.Regions.{is_sealed, is_open_to_read, is_open_to_write}
use Rattle.mx_base.specs.Memory.{number_at, with_number, first_refused, first_refused_around}
use Rattle.mx_base.specs.Access.{refusal}
use Rattle.mx_base.specs.BoundsStore.{touched_with, keep_bounds, load_bounds, bounds_for}
use Rattle.mx_base.specs.Heap.{rounded, allocated, freed}
use Rattle.mx_base.specs.Services.{served, c_service}
use Rattle.mx_base.specs.World.{pointer_written, pointer_read}
use Rattle.bounds_plan.specs.meaning.Expressions.{stepped}
use denote.Hole.Carrier.{hidden}
use Rattle.c_tree.specs.declared.tree.ExprKind.TheBlock.{shape-the_row-Expr-0, hidden-the_row-Expr-0, shown-the_row-Expr-0, shape-the_row-Expr-1, hidden-the_row-Expr-1, shown-the_row-Expr-1}
use Rattle.c_tree.specs.declared.tree.InitKind.TheBlock.{shape-the_row-Init-0, hidden-the_row-Init-0, shown-the_row-Init-0}
use Rattle.c_tree.specs.declared.tree.StmtKind.TheBlock.{shape-the_row-Stmt-0, hidden-the_row-Stmt-0, shown-the_row-Stmt-0, shape-the_row-Stmt-1, hidden-the_row-Stmt-1, shown-the_row-Stmt-1}
use Rattle.bounds_plan.proofs.Laid.{elaborations_same, elaborated_laid}
use Rattle.bounds_plan.specs.elaboration.Functions.{gone_by}
use Rattle.std.specs.Prelude.{codes}
use Rattle.mx_base.specs.StopOfC.{OutOfTurns}
use Rattle.bounds_plan.specs.laws.WorkedSources.{copies_pointers, descends_1, descends_2, divides_by_0, fills_block, frees_twice, keeps_pointer, prints_7, prints_members, reads_last_byte, reads_past_end, spoils_pointer, spreads_pointers, writes_element_3, writes_element_4}
use Rattle.bounds_plan.specs.laws.WorkedRuns.{runs_of, steps_run_of, data_of}
use Rattle.bounds_plan.specs.laws.Worked.{ends, narrowing, not_narrowing, read, written, array_and_pointer, first_object, pairs_of_pointers}
use Rattle.bounds_plan.proofs.sources.small_sources_run_out_so.Goals as goal

prints_laid : runs_of (elaborated_laid prints_7.tree prints_7.meanings prints_7.layout narrowing) prints_7.layout.functions first_object (data_of prints_7 first_object) 4096 0 [] 1 ≡ ends OutOfTurns (codes "7\n") 0 [] []
unfolding residue as_signed number_of value_of wrapped word_of extended arithmetic compares word_arithmetic word_compares moved last_byte leaving_value bounds_at is_sealed is_open_to_read is_open_to_write number_at with_number first_refused first_refused_around refusal touched_with keep_bounds load_bounds bounds_for rounded allocated freed served c_service pointer_written pointer_read digits stepped shape-the_row-Expr-0 hidden-the_row-Expr-0 shown-the_row-Expr-0 shape-the_row-Expr-1 hidden-the_row-Expr-1 shown-the_row-Expr-1 shape-the_row-Init-0 hidden-the_row-Init-0 shown-the_row-Init-0 shape-the_row-Stmt-0 hidden-the_row-Stmt-0 shown-the_row-Stmt-0 shape-the_row-Stmt-1 hidden-the_row-Stmt-1 shown-the_row-Stmt-1 hidden runs_of gone_by
prints_laid = refl

prints_steps_laid : steps_run_of (elaborated_laid prints_7.tree prints_7.meanings prints_7.layout narrowing) prints_7.layout.functions first_object (data_of prints_7 first_object) 4096 0 1 ≡ ends OutOfTurns (codes "7\n") 0 [] []
unfolding residue as_signed number_of value_of wrapped word_of extended arithmetic compares word_arithmetic word_compares moved last_byte leaving_value bounds_at is_sealed is_open_to_read is_open_to_write number_at with_number first_refused first_refused_around refusal touched_with keep_bounds load_bounds bounds_for rounded allocated freed served c_service pointer_written pointer_read digits stepped shape-the_row-Expr-0 hidden-the_row-Expr-0 shown-the_row-Expr-0 shape-the_row-Expr-1 hidden-the_row-Expr-1 shown-the_row-Expr-1 shape-the_row-Init-0 hidden-the_row-Init-0 shown-the_row-Init-0 shape-the_row-Stmt-0 hidden-the_row-Stmt-0 shown-the_row-Stmt-0 shape-the_row-Stmt-1 hidden-the_row-Stmt-1 shown-the_row-Stmt-1 hidden steps_run_of gone_by
prints_steps_laid = refl

pub returns-clause-prints : goal.returns-clause-prints
returns-clause-prints c = (ap (λ e. runs_of (e prints_7.tree prints_7.meanings prints_7.layout narrowing) prints_7.layout.functions first_object (data_of prints_7 first_object) 4096 0 [] 1) elaborations_same ∙ prints_laid, ap (λ e. steps_run_of (e prints_7.tree prints_7.meanings prints_7.layout narrowing) prints_7.layout.functions first_object (data_of prints_7 first_object) 4096 0 1) elaborations_same ∙ prints_steps_laid)

inside_laid : runs_of (elaborated_laid writes_element_3.tree writes_element_3.meanings writes_element_3.layout narrowing) writes_element_3.layout.functions first_object (data_of writes_element_3 first_object) 4096 0 [] 1 ≡ ends OutOfTurns (1 ∷ []) 0 (written 0x2000_0003 1 ∷ read 0x2000_0003 1 ∷ []) []
unfolding residue as_signed number_of value_of wrapped word_of extended arithmetic compares word_arithmetic word_compares moved last_byte leaving_value bounds_at is_sealed is_open_to_read is_open_to_write number_at with_number first_refused first_refused_around refusal touched_with keep_bounds load_bounds bounds_for rounded allocated freed served c_service pointer_written pointer_read digits stepped shape-the_row-Expr-0 hidden-the_row-Expr-0 shown-the_row-Expr-0 shape-the_row-Expr-1 hidden-the_row-Expr-1 shown-the_row-Expr-1 shape-the_row-Init-0 hidden-the_row-Init-0 shown-the_row-Init-0 shape-the_row-Stmt-0 hidden-the_row-Stmt-0 shown-the_row-Stmt-0 shape-the_row-Stmt-1 hidden-the_row-Stmt-1 shown-the_row-Stmt-1 hidden runs_of gone_by
inside_laid = refl

inside_steps_laid : steps_run_of (elaborated_laid writes_element_3.tree writes_element_3.meanings writes_element_3.layout narrowing) writes_element_3.layout.functions first_object (data_of writes_element_3 first_object) 4096 0 1 ≡ ends OutOfTurns (1 ∷ []) 0 (written 0x2000_0003 1 ∷ read 0x2000_0003 1 ∷ []) []
unfolding residue as_signed number_of value_of wrapped word_of extended arithmetic compares word_arithmetic word_compares moved last_byte leaving_value bounds_at is_sealed is_open_to_read is_open_to_write number_at with_number first_refused first_refused_around refusal touched_with keep_bounds load_bounds bounds_for rounded allocated freed served c_service pointer_written pointer_read digits stepped shape-the_row-Expr-0 hidden-the_row-Expr-0 shown-the_row-Expr-0 shape-the_row-Expr-1 hidden-the_row-Expr-1 shown-the_row-Expr-1 shape-the_row-Init-0 hidden-the_row-Init-0 shown-the_row-Init-0 shape-the_row-Stmt-0 hidden-the_row-Stmt-0 shown-the_row-Stmt-0 shape-the_row-Stmt-1 hidden-the_row-Stmt-1 shown-the_row-Stmt-1 hidden steps_run_of gone_by
inside_steps_laid = refl

pub returns-clause-inside : goal.returns-clause-inside
returns-clause-inside c = (ap (λ e. runs_of (e writes_element_3.tree writes_element_3.meanings writes_element_3.layout narrowing) writes_element_3.layout.functions first_object (data_of writes_element_3 first_object) 4096 0 [] 1) elaborations_same ∙ inside_laid, ap (λ e. steps_run_of (e writes_element_3.tree writes_element_3.meanings writes_element_3.layout narrowing) writes_element_3.layout.functions first_object (data_of writes_element_3 first_object) 4096 0 1) elaborations_same ∙ inside_steps_laid)

first_byte_outside_laid : runs_of (elaborated_laid writes_element_4.tree writes_element_4.meanings writes_element_4.layout narrowing) writes_element_4.layout.functions first_object (data_of writes_element_4 first_object) 4096 0 [] 0 ≡ ends OutOfTurns [] 0 [] []
unfolding residue as_signed number_of value_of wrapped word_of extended arithmetic compares word_arithmetic word_compares moved last_byte leaving_value bounds_at is_sealed is_open_to_read is_open_to_write number_at with_number first_refused first_refused_around refusal touched_with keep_bounds load_bounds bounds_for rounded allocated freed served c_service pointer_written pointer_read digits stepped shape-the_row-Expr-0 hidden-the_row-Expr-0 shown-the_row-Expr-0 shape-the_row-Expr-1 hidden-the_row-Expr-1 shown-the_row-Expr-1 shape-the_row-Init-0 hidden-the_row-Init-0 shown-the_row-Init-0 shape-the_row-Stmt-0 hidden-the_row-Stmt-0 shown-the_row-Stmt-0 shape-the_row-Stmt-1 hidden-the_row-Stmt-1 shown-the_row-Stmt-1 hidden runs_of gone_by
first_byte_outside_laid = refl

first_byte_outside_steps_laid : steps_run_of (elaborated_laid writes_element_4.tree writes_element_4.meanings writes_element_4.layout narrowing) writes_element_4.layout.functions first_object (data_of writes_element_4 first_object) 4096 0 0 ≡ ends OutOfTurns [] 0 [] []
unfolding residue as_signed number_of value_of wrapped word_of extended arithmetic compares word_arithmetic word_compares moved last_byte leaving_value bounds_at is_sealed is_open_to_read is_open_to_write number_at with_number first_refused first_refused_around refusal touched_with keep_bounds load_bounds bounds_for rounded allocated freed served c_service pointer_written pointer_read digits stepped shape-the_row-Expr-0 hidden-the_row-Expr-0 shown-the_row-Expr-0 shape-the_row-Expr-1 hidden-the_row-Expr-1 shown-the_row-Expr-1 shape-the_row-Init-0 hidden-the_row-Init-0 shown-the_row-Init-0 shape-the_row-Stmt-0 hidden-the_row-Stmt-0 shown-the_row-Stmt-0 shape-the_row-Stmt-1 hidden-the_row-Stmt-1 shown-the_row-Stmt-1 hidden steps_run_of gone_by
first_byte_outside_steps_laid = refl

pub returns-clause-first_byte_outside : goal.returns-clause-first_byte_outside
returns-clause-first_byte_outside c = (ap (λ e. runs_of (e writes_element_4.tree writes_element_4.meanings writes_element_4.layout narrowing) writes_element_4.layout.functions first_object (data_of writes_element_4 first_object) 4096 0 [] 0) elaborations_same ∙ first_byte_outside_laid, ap (λ e. steps_run_of (e writes_element_4.tree writes_element_4.meanings writes_element_4.layout narrowing) writes_element_4.layout.functions first_object (data_of writes_element_4 first_object) 4096 0 0) elaborations_same ∙ first_byte_outside_steps_laid)

last_byte_outside_laid : runs_of (elaborated_laid reads_past_end.tree reads_past_end.meanings reads_past_end.layout narrowing) reads_past_end.layout.functions first_object (data_of reads_past_end first_object) 4096 0 [] 0 ≡ ends OutOfTurns [] 0 [] []
unfolding residue as_signed number_of value_of wrapped word_of extended arithmetic compares word_arithmetic word_compares moved last_byte leaving_value bounds_at is_sealed is_open_to_read is_open_to_write number_at with_number first_refused first_refused_around refusal touched_with keep_bounds load_bounds bounds_for rounded allocated freed served c_service pointer_written pointer_read digits stepped shape-the_row-Expr-0 hidden-the_row-Expr-0 shown-the_row-Expr-0 shape-the_row-Expr-1 hidden-the_row-Expr-1 shown-the_row-Expr-1 shape-the_row-Init-0 hidden-the_row-Init-0 shown-the_row-Init-0 shape-the_row-Stmt-0 hidden-the_row-Stmt-0 shown-the_row-Stmt-0 shape-the_row-Stmt-1 hidden-the_row-Stmt-1 shown-the_row-Stmt-1 hidden runs_of gone_by
last_byte_outside_laid = refl

last_byte_outside_steps_laid : steps_run_of (elaborated_laid reads_past_end.tree reads_past_end.meanings reads_past_end.layout narrowing) reads_past_end.layout.functions first_object (data_of reads_past_end first_object) 4096 0 0 ≡ ends OutOfTurns [] 0 [] []
unfolding residue as_signed number_of value_of wrapped word_of extended arithmetic compares word_arithmetic word_compares moved last_byte leaving_value bounds_at is_sealed is_open_to_read is_open_to_write number_at with_number first_refused first_refused_around refusal touched_with keep_bounds load_bounds bounds_for rounded allocated freed served c_service pointer_written pointer_read digits stepped shape-the_row-Expr-0 hidden-the_row-Expr-0 shown-the_row-Expr-0 shape-the_row-Expr-1 hidden-the_row-Expr-1 shown-the_row-Expr-1 shape-the_row-Init-0 hidden-the_row-Init-0 shown-the_row-Init-0 shape-the_row-Stmt-0 hidden-the_row-Stmt-0 shown-the_row-Stmt-0 shape-the_row-Stmt-1 hidden-the_row-Stmt-1 shown-the_row-Stmt-1 hidden steps_run_of gone_by
last_byte_outside_steps_laid = refl

pub returns-clause-last_byte_outside : goal.returns-clause-last_byte_outside
returns-clause-last_byte_outside c = (ap (λ e. runs_of (e reads_past_end.tree reads_past_end.meanings reads_past_end.layout narrowing) reads_past_end.layout.functions first_object (data_of reads_past_end first_object) 4096 0 [] 0) elaborations_same ∙ last_byte_outside_laid, ap (λ e. steps_run_of (e reads_past_end.tree reads_past_end.meanings reads_past_end.layout narrowing) reads_past_end.layout.functions first_object (data_of reads_past_end first_object) 4096 0 0) elaborations_same ∙ last_byte_outside_steps_laid)

block_laid : runs_of (elaborated_laid fills_block.tree fills_block.meanings fills_block.layout narrowing) fills_block.layout.functions first_object (data_of fills_block first_object) 4096 0 [] 5 ≡ ends OutOfTurns (codes "0\n1\n2\n3\n4\n") 0 (written 0x3000_0000 1 ∷ read 0x3000_0000 1 ∷ written 0x3000_0001 1 ∷ read 0x3000_0001 1 ∷ written 0x3000_0002 1 ∷ read 0x3000_0002 1 ∷ written 0x3000_0003 1 ∷ read 0x3000_0003 1 ∷ written 0x3000_0004 1 ∷ read 0x3000_0004 1 ∷ []) []
unfolding residue as_signed number_of value_of wrapped word_of extended arithmetic compares word_arithmetic word_compares moved last_byte leaving_value bounds_at is_sealed is_open_to_read is_open_to_write number_at with_number first_refused first_refused_around refusal touched_with keep_bounds load_bounds bounds_for rounded allocated freed served c_service pointer_written pointer_read digits stepped shape-the_row-Expr-0 hidden-the_row-Expr-0 shown-the_row-Expr-0 shape-the_row-Expr-1 hidden-the_row-Expr-1 shown-the_row-Expr-1 shape-the_row-Init-0 hidden-the_row-Init-0 shown-the_row-Init-0 shape-the_row-Stmt-0 hidden-the_row-Stmt-0 shown-the_row-Stmt-0 shape-the_row-Stmt-1 hidden-the_row-Stmt-1 shown-the_row-Stmt-1 hidden runs_of gone_by
block_laid = refl

block_steps_laid : steps_run_of (elaborated_laid fills_block.tree fills_block.meanings fills_block.layout narrowing) fills_block.layout.functions first_object (data_of fills_block first_object) 4096 0 5 ≡ ends OutOfTurns (codes "0\n1\n2\n3\n4\n") 0 (written 0x3000_0000 1 ∷ read 0x3000_0000 1 ∷ written 0x3000_0001 1 ∷ read 0x3000_0001 1 ∷ written 0x3000_0002 1 ∷ read 0x3000_0002 1 ∷ written 0x3000_0003 1 ∷ read 0x3000_0003 1 ∷ written 0x3000_0004 1 ∷ read 0x3000_0004 1 ∷ []) []
unfolding residue as_signed number_of value_of wrapped word_of extended arithmetic compares word_arithmetic word_compares moved last_byte leaving_value bounds_at is_sealed is_open_to_read is_open_to_write number_at with_number first_refused first_refused_around refusal touched_with keep_bounds load_bounds bounds_for rounded allocated freed served c_service pointer_written pointer_read digits stepped shape-the_row-Expr-0 hidden-the_row-Expr-0 shown-the_row-Expr-0 shape-the_row-Expr-1 hidden-the_row-Expr-1 shown-the_row-Expr-1 shape-the_row-Init-0 hidden-the_row-Init-0 shown-the_row-Init-0 shape-the_row-Stmt-0 hidden-the_row-Stmt-0 shown-the_row-Stmt-0 shape-the_row-Stmt-1 hidden-the_row-Stmt-1 shown-the_row-Stmt-1 hidden steps_run_of gone_by
block_steps_laid = refl

pub returns-clause-block : goal.returns-clause-block
returns-clause-block c = (ap (λ e. runs_of (e fills_block.tree fills_block.meanings fills_block.layout narrowing) fills_block.layout.functions first_object (data_of fills_block first_object) 4096 0 [] 5) elaborations_same ∙ block_laid, ap (λ e. steps_run_of (e fills_block.tree fills_block.meanings fills_block.layout narrowing) fills_block.layout.functions first_object (data_of fills_block first_object) 4096 0 5) elaborations_same ∙ block_steps_laid)

pointer_back_laid : runs_of (elaborated_laid keeps_pointer.tree keeps_pointer.meanings keeps_pointer.layout narrowing) keeps_pointer.layout.functions array_and_pointer (data_of keeps_pointer array_and_pointer) 4096 0 [] 0 ≡ ends OutOfTurns [] 0 [] []
unfolding residue as_signed number_of value_of wrapped word_of extended arithmetic compares word_arithmetic word_compares moved last_byte leaving_value bounds_at is_sealed is_open_to_read is_open_to_write number_at with_number first_refused first_refused_around refusal touched_with keep_bounds load_bounds bounds_for rounded allocated freed served c_service pointer_written pointer_read digits stepped shape-the_row-Expr-0 hidden-the_row-Expr-0 shown-the_row-Expr-0 shape-the_row-Expr-1 hidden-the_row-Expr-1 shown-the_row-Expr-1 shape-the_row-Init-0 hidden-the_row-Init-0 shown-the_row-Init-0 shape-the_row-Stmt-0 hidden-the_row-Stmt-0 shown-the_row-Stmt-0 shape-the_row-Stmt-1 hidden-the_row-Stmt-1 shown-the_row-Stmt-1 hidden runs_of gone_by
pointer_back_laid = refl

pointer_back_steps_laid : steps_run_of (elaborated_laid keeps_pointer.tree keeps_pointer.meanings keeps_pointer.layout narrowing) keeps_pointer.layout.functions array_and_pointer (data_of keeps_pointer array_and_pointer) 4096 0 0 ≡ ends OutOfTurns [] 0 [] []
unfolding residue as_signed number_of value_of wrapped word_of extended arithmetic compares word_arithmetic word_compares moved last_byte leaving_value bounds_at is_sealed is_open_to_read is_open_to_write number_at with_number first_refused first_refused_around refusal touched_with keep_bounds load_bounds bounds_for rounded allocated freed served c_service pointer_written pointer_read digits stepped shape-the_row-Expr-0 hidden-the_row-Expr-0 shown-the_row-Expr-0 shape-the_row-Expr-1 hidden-the_row-Expr-1 shown-the_row-Expr-1 shape-the_row-Init-0 hidden-the_row-Init-0 shown-the_row-Init-0 shape-the_row-Stmt-0 hidden-the_row-Stmt-0 shown-the_row-Stmt-0 shape-the_row-Stmt-1 hidden-the_row-Stmt-1 shown-the_row-Stmt-1 hidden steps_run_of gone_by
pointer_back_steps_laid = refl

pub returns-clause-pointer_back : goal.returns-clause-pointer_back
returns-clause-pointer_back c = (ap (λ e. runs_of (e keeps_pointer.tree keeps_pointer.meanings keeps_pointer.layout narrowing) keeps_pointer.layout.functions array_and_pointer (data_of keeps_pointer array_and_pointer) 4096 0 [] 0) elaborations_same ∙ pointer_back_laid, ap (λ e. steps_run_of (e keeps_pointer.tree keeps_pointer.meanings keeps_pointer.layout narrowing) keeps_pointer.layout.functions array_and_pointer (data_of keeps_pointer array_and_pointer) 4096 0 0) elaborations_same ∙ pointer_back_steps_laid)

pointer_spoiled_laid : runs_of (elaborated_laid spoils_pointer.tree spoils_pointer.meanings spoils_pointer.layout narrowing) spoils_pointer.layout.functions array_and_pointer (data_of spoils_pointer array_and_pointer) 4096 0 [] 1 ≡ ends OutOfTurns [] 0 (written 0x2000_0008 8 ∷ read 0x2000_0008 1 ∷ written 0x2000_0008 1 ∷ read 0x2000_0008 8 ∷ written 0x2000_0005 1 ∷ []) (0x200 ∷ [])
unfolding residue as_signed number_of value_of wrapped word_of extended arithmetic compares word_arithmetic word_compares moved last_byte leaving_value bounds_at is_sealed is_open_to_read is_open_to_write number_at with_number first_refused first_refused_around refusal touched_with keep_bounds load_bounds bounds_for rounded allocated freed served c_service pointer_written pointer_read digits stepped shape-the_row-Expr-0 hidden-the_row-Expr-0 shown-the_row-Expr-0 shape-the_row-Expr-1 hidden-the_row-Expr-1 shown-the_row-Expr-1 shape-the_row-Init-0 hidden-the_row-Init-0 shown-the_row-Init-0 shape-the_row-Stmt-0 hidden-the_row-Stmt-0 shown-the_row-Stmt-0 shape-the_row-Stmt-1 hidden-the_row-Stmt-1 shown-the_row-Stmt-1 hidden runs_of gone_by
pointer_spoiled_laid = refl

pointer_spoiled_steps_laid : steps_run_of (elaborated_laid spoils_pointer.tree spoils_pointer.meanings spoils_pointer.layout narrowing) spoils_pointer.layout.functions array_and_pointer (data_of spoils_pointer array_and_pointer) 4096 0 1 ≡ ends OutOfTurns [] 0 (written 0x2000_0008 8 ∷ read 0x2000_0008 1 ∷ written 0x2000_0008 1 ∷ read 0x2000_0008 8 ∷ written 0x2000_0005 1 ∷ []) (0x200 ∷ [])
unfolding residue as_signed number_of value_of wrapped word_of extended arithmetic compares word_arithmetic word_compares moved last_byte leaving_value bounds_at is_sealed is_open_to_read is_open_to_write number_at with_number first_refused first_refused_around refusal touched_with keep_bounds load_bounds bounds_for rounded allocated freed served c_service pointer_written pointer_read digits stepped shape-the_row-Expr-0 hidden-the_row-Expr-0 shown-the_row-Expr-0 shape-the_row-Expr-1 hidden-the_row-Expr-1 shown-the_row-Expr-1 shape-the_row-Init-0 hidden-the_row-Init-0 shown-the_row-Init-0 shape-the_row-Stmt-0 hidden-the_row-Stmt-0 shown-the_row-Stmt-0 shape-the_row-Stmt-1 hidden-the_row-Stmt-1 shown-the_row-Stmt-1 hidden steps_run_of gone_by
pointer_spoiled_steps_laid = refl

pub returns-clause-pointer_spoiled : goal.returns-clause-pointer_spoiled
returns-clause-pointer_spoiled c = (ap (λ e. runs_of (e spoils_pointer.tree spoils_pointer.meanings spoils_pointer.layout narrowing) spoils_pointer.layout.functions array_and_pointer (data_of spoils_pointer array_and_pointer) 4096 0 [] 1) elaborations_same ∙ pointer_spoiled_laid, ap (λ e. steps_run_of (e spoils_pointer.tree spoils_pointer.meanings spoils_pointer.layout narrowing) spoils_pointer.layout.functions array_and_pointer (data_of spoils_pointer array_and_pointer) 4096 0 1) elaborations_same ∙ pointer_spoiled_steps_laid)

megabytes_laid : runs_of (elaborated_laid spreads_pointers.tree spreads_pointers.meanings spreads_pointers.layout narrowing) spreads_pointers.layout.functions first_object (data_of spreads_pointers first_object) 4096 0 [] 1 ≡ ends OutOfTurns [] 0 (written 0x3000_0000 8 ∷ written 0x3000_0008 8 ∷ written 0x3010_0000 8 ∷ []) (0x300 ∷ 0x301 ∷ [])
unfolding residue as_signed number_of value_of wrapped word_of extended arithmetic compares word_arithmetic word_compares moved last_byte leaving_value bounds_at is_sealed is_open_to_read is_open_to_write number_at with_number first_refused first_refused_around refusal touched_with keep_bounds load_bounds bounds_for rounded allocated freed served c_service pointer_written pointer_read digits stepped shape-the_row-Expr-0 hidden-the_row-Expr-0 shown-the_row-Expr-0 shape-the_row-Expr-1 hidden-the_row-Expr-1 shown-the_row-Expr-1 shape-the_row-Init-0 hidden-the_row-Init-0 shown-the_row-Init-0 shape-the_row-Stmt-0 hidden-the_row-Stmt-0 shown-the_row-Stmt-0 shape-the_row-Stmt-1 hidden-the_row-Stmt-1 shown-the_row-Stmt-1 hidden runs_of gone_by
megabytes_laid = refl

megabytes_steps_laid : steps_run_of (elaborated_laid spreads_pointers.tree spreads_pointers.meanings spreads_pointers.layout narrowing) spreads_pointers.layout.functions first_object (data_of spreads_pointers first_object) 4096 0 1 ≡ ends OutOfTurns [] 0 (written 0x3000_0000 8 ∷ written 0x3000_0008 8 ∷ written 0x3010_0000 8 ∷ []) (0x300 ∷ 0x301 ∷ [])
unfolding residue as_signed number_of value_of wrapped word_of extended arithmetic compares word_arithmetic word_compares moved last_byte leaving_value bounds_at is_sealed is_open_to_read is_open_to_write number_at with_number first_refused first_refused_around refusal touched_with keep_bounds load_bounds bounds_for rounded allocated freed served c_service pointer_written pointer_read digits stepped shape-the_row-Expr-0 hidden-the_row-Expr-0 shown-the_row-Expr-0 shape-the_row-Expr-1 hidden-the_row-Expr-1 shown-the_row-Expr-1 shape-the_row-Init-0 hidden-the_row-Init-0 shown-the_row-Init-0 shape-the_row-Stmt-0 hidden-the_row-Stmt-0 shown-the_row-Stmt-0 shape-the_row-Stmt-1 hidden-the_row-Stmt-1 shown-the_row-Stmt-1 hidden steps_run_of gone_by
megabytes_steps_laid = refl

pub returns-clause-megabytes : goal.returns-clause-megabytes
returns-clause-megabytes c = (ap (λ e. runs_of (e spreads_pointers.tree spreads_pointers.meanings spreads_pointers.layout narrowing) spreads_pointers.layout.functions first_object (data_of spreads_pointers first_object) 4096 0 [] 1) elaborations_same ∙ megabytes_laid, ap (λ e. steps_run_of (e spreads_pointers.tree spreads_pointers.meanings spreads_pointers.layout narrowing) spreads_pointers.layout.functions first_object (data_of spreads_pointers first_object) 4096 0 1) elaborations_same ∙ megabytes_steps_laid)

unmapped_laid : runs_of (elaborated_laid reads_last_byte.tree reads_last_byte.meanings reads_last_byte.layout narrowing) reads_last_byte.layout.functions first_object (data_of reads_last_byte first_object) 4096 0 [] 0 ≡ ends OutOfTurns [] 0 [] []
unfolding residue as_signed number_of value_of wrapped word_of extended arithmetic compares word_arithmetic word_compares moved last_byte leaving_value bounds_at is_sealed is_open_to_read is_open_to_write number_at with_number first_refused first_refused_around refusal touched_with keep_bounds load_bounds bounds_for rounded allocated freed served c_service pointer_written pointer_read digits stepped shape-the_row-Expr-0 hidden-the_row-Expr-0 shown-the_row-Expr-0 shape-the_row-Expr-1 hidden-the_row-Expr-1 shown-the_row-Expr-1 shape-the_row-Init-0 hidden-the_row-Init-0 shown-the_row-Init-0 shape-the_row-Stmt-0 hidden-the_row-Stmt-0 shown-the_row-Stmt-0 shape-the_row-Stmt-1 hidden-the_row-Stmt-1 shown-the_row-Stmt-1 hidden runs_of gone_by
unmapped_laid = refl

unmapped_steps_laid : steps_run_of (elaborated_laid reads_last_byte.tree reads_last_byte.meanings reads_last_byte.layout narrowing) reads_last_byte.layout.functions first_object (data_of reads_last_byte first_object) 4096 0 0 ≡ ends OutOfTurns [] 0 [] []
unfolding residue as_signed number_of value_of wrapped word_of extended arithmetic compares word_arithmetic word_compares moved last_byte leaving_value bounds_at is_sealed is_open_to_read is_open_to_write number_at with_number first_refused first_refused_around refusal touched_with keep_bounds load_bounds bounds_for rounded allocated freed served c_service pointer_written pointer_read digits stepped shape-the_row-Expr-0 hidden-the_row-Expr-0 shown-the_row-Expr-0 shape-the_row-Expr-1 hidden-the_row-Expr-1 shown-the_row-Expr-1 shape-the_row-Init-0 hidden-the_row-Init-0 shown-the_row-Init-0 shape-the_row-Stmt-0 hidden-the_row-Stmt-0 shown-the_row-Stmt-0 shape-the_row-Stmt-1 hidden-the_row-Stmt-1 shown-the_row-Stmt-1 hidden steps_run_of gone_by
unmapped_steps_laid = refl

pub returns-clause-unmapped : goal.returns-clause-unmapped
returns-clause-unmapped c = (ap (λ e. runs_of (e reads_last_byte.tree reads_last_byte.meanings reads_last_byte.layout narrowing) reads_last_byte.layout.functions first_object (data_of reads_last_byte first_object) 4096 0 [] 0) elaborations_same ∙ unmapped_laid, ap (λ e. steps_run_of (e reads_last_byte.tree reads_last_byte.meanings reads_last_byte.layout narrowing) reads_last_byte.layout.functions first_object (data_of reads_last_byte first_object) 4096 0 0) elaborations_same ∙ unmapped_steps_laid)

narrowed_laid : runs_of (elaborated_laid prints_members.tree prints_members.meanings prints_members.layout narrowing) prints_members.layout.functions first_object (data_of prints_members first_object) 4096 0 [] 1 ≡ ends OutOfTurns (codes "536870912\n536870927\n536870916\n536870923\n") 0 [] []
unfolding residue as_signed number_of value_of wrapped word_of extended arithmetic compares word_arithmetic word_compares moved last_byte leaving_value bounds_at is_sealed is_open_to_read is_open_to_write number_at with_number first_refused first_refused_around refusal touched_with keep_bounds load_bounds bounds_for rounded allocated freed served c_service pointer_written pointer_read digits stepped shape-the_row-Expr-0 hidden-the_row-Expr-0 shown-the_row-Expr-0 shape-the_row-Expr-1 hidden-the_row-Expr-1 shown-the_row-Expr-1 shape-the_row-Init-0 hidden-the_row-Init-0 shown-the_row-Init-0 shape-the_row-Stmt-0 hidden-the_row-Stmt-0 shown-the_row-Stmt-0 shape-the_row-Stmt-1 hidden-the_row-Stmt-1 shown-the_row-Stmt-1 hidden runs_of gone_by
narrowed_laid = refl

narrowed_steps_laid : steps_run_of (elaborated_laid prints_members.tree prints_members.meanings prints_members.layout narrowing) prints_members.layout.functions first_object (data_of prints_members first_object) 4096 0 1 ≡ ends OutOfTurns (codes "536870912\n536870927\n536870916\n536870923\n") 0 [] []
unfolding residue as_signed number_of value_of wrapped word_of extended arithmetic compares word_arithmetic word_compares moved last_byte leaving_value bounds_at is_sealed is_open_to_read is_open_to_write number_at with_number first_refused first_refused_around refusal touched_with keep_bounds load_bounds bounds_for rounded allocated freed served c_service pointer_written pointer_read digits stepped shape-the_row-Expr-0 hidden-the_row-Expr-0 shown-the_row-Expr-0 shape-the_row-Expr-1 hidden-the_row-Expr-1 shown-the_row-Expr-1 shape-the_row-Init-0 hidden-the_row-Init-0 shown-the_row-Init-0 shape-the_row-Stmt-0 hidden-the_row-Stmt-0 shown-the_row-Stmt-0 shape-the_row-Stmt-1 hidden-the_row-Stmt-1 shown-the_row-Stmt-1 hidden steps_run_of gone_by
narrowed_steps_laid = refl

pub returns-clause-narrowed : goal.returns-clause-narrowed
returns-clause-narrowed c = (ap (λ e. runs_of (e prints_members.tree prints_members.meanings prints_members.layout narrowing) prints_members.layout.functions first_object (data_of prints_members first_object) 4096 0 [] 1) elaborations_same ∙ narrowed_laid, ap (λ e. steps_run_of (e prints_members.tree prints_members.meanings prints_members.layout narrowing) prints_members.layout.functions first_object (data_of prints_members first_object) 4096 0 1) elaborations_same ∙ narrowed_steps_laid)

not_narrowed_laid : runs_of (elaborated_laid prints_members.tree prints_members.meanings prints_members.layout not_narrowing) prints_members.layout.functions first_object (data_of prints_members first_object) 4096 0 [] 1 ≡ ends OutOfTurns (codes "536870912\n536870927\n536870912\n536870927\n") 0 [] []
unfolding residue as_signed number_of value_of wrapped word_of extended arithmetic compares word_arithmetic word_compares moved last_byte leaving_value bounds_at is_sealed is_open_to_read is_open_to_write number_at with_number first_refused first_refused_around refusal touched_with keep_bounds load_bounds bounds_for rounded allocated freed served c_service pointer_written pointer_read digits stepped shape-the_row-Expr-0 hidden-the_row-Expr-0 shown-the_row-Expr-0 shape-the_row-Expr-1 hidden-the_row-Expr-1 shown-the_row-Expr-1 shape-the_row-Init-0 hidden-the_row-Init-0 shown-the_row-Init-0 shape-the_row-Stmt-0 hidden-the_row-Stmt-0 shown-the_row-Stmt-0 shape-the_row-Stmt-1 hidden-the_row-Stmt-1 shown-the_row-Stmt-1 hidden runs_of gone_by
not_narrowed_laid = refl

not_narrowed_steps_laid : steps_run_of (elaborated_laid prints_members.tree prints_members.meanings prints_members.layout not_narrowing) prints_members.layout.functions first_object (data_of prints_members first_object) 4096 0 1 ≡ ends OutOfTurns (codes "536870912\n536870927\n536870912\n536870927\n") 0 [] []
unfolding residue as_signed number_of value_of wrapped word_of extended arithmetic compares word_arithmetic word_compares moved last_byte leaving_value bounds_at is_sealed is_open_to_read is_open_to_write number_at with_number first_refused first_refused_around refusal touched_with keep_bounds load_bounds bounds_for rounded allocated freed served c_service pointer_written pointer_read digits stepped shape-the_row-Expr-0 hidden-the_row-Expr-0 shown-the_row-Expr-0 shape-the_row-Expr-1 hidden-the_row-Expr-1 shown-the_row-Expr-1 shape-the_row-Init-0 hidden-the_row-Init-0 shown-the_row-Init-0 shape-the_row-Stmt-0 hidden-the_row-Stmt-0 shown-the_row-Stmt-0 shape-the_row-Stmt-1 hidden-the_row-Stmt-1 shown-the_row-Stmt-1 hidden steps_run_of gone_by
not_narrowed_steps_laid = refl

pub returns-clause-not_narrowed : goal.returns-clause-not_narrowed
returns-clause-not_narrowed c = (ap (λ e. runs_of (e prints_members.tree prints_members.meanings prints_members.layout not_narrowing) prints_members.layout.functions first_object (data_of prints_members first_object) 4096 0 [] 1) elaborations_same ∙ not_narrowed_laid, ap (λ e. steps_run_of (e prints_members.tree prints_members.meanings prints_members.layout not_narrowing) prints_members.layout.functions first_object (data_of prints_members first_object) 4096 0 1) elaborations_same ∙ not_narrowed_steps_laid)

struct_copied_laid : runs_of (elaborated_laid copies_pointers.tree copies_pointers.meanings copies_pointers.layout narrowing) copies_pointers.layout.functions pairs_of_pointers (data_of copies_pointers pairs_of_pointers) 4096 0 [] 0 ≡ ends OutOfTurns [] 0 [] []
unfolding residue as_signed number_of value_of wrapped word_of extended arithmetic compares word_arithmetic word_compares moved last_byte leaving_value bounds_at is_sealed is_open_to_read is_open_to_write number_at with_number first_refused first_refused_around refusal touched_with keep_bounds load_bounds bounds_for rounded allocated freed served c_service pointer_written pointer_read digits stepped shape-the_row-Expr-0 hidden-the_row-Expr-0 shown-the_row-Expr-0 shape-the_row-Expr-1 hidden-the_row-Expr-1 shown-the_row-Expr-1 shape-the_row-Init-0 hidden-the_row-Init-0 shown-the_row-Init-0 shape-the_row-Stmt-0 hidden-the_row-Stmt-0 shown-the_row-Stmt-0 shape-the_row-Stmt-1 hidden-the_row-Stmt-1 shown-the_row-Stmt-1 hidden runs_of gone_by
struct_copied_laid = refl

struct_copied_steps_laid : steps_run_of (elaborated_laid copies_pointers.tree copies_pointers.meanings copies_pointers.layout narrowing) copies_pointers.layout.functions pairs_of_pointers (data_of copies_pointers pairs_of_pointers) 4096 0 0 ≡ ends OutOfTurns [] 0 [] []
unfolding residue as_signed number_of value_of wrapped word_of extended arithmetic compares word_arithmetic word_compares moved last_byte leaving_value bounds_at is_sealed is_open_to_read is_open_to_write number_at with_number first_refused first_refused_around refusal touched_with keep_bounds load_bounds bounds_for rounded allocated freed served c_service pointer_written pointer_read digits stepped shape-the_row-Expr-0 hidden-the_row-Expr-0 shown-the_row-Expr-0 shape-the_row-Expr-1 hidden-the_row-Expr-1 shown-the_row-Expr-1 shape-the_row-Init-0 hidden-the_row-Init-0 shown-the_row-Init-0 shape-the_row-Stmt-0 hidden-the_row-Stmt-0 shown-the_row-Stmt-0 shape-the_row-Stmt-1 hidden-the_row-Stmt-1 shown-the_row-Stmt-1 hidden steps_run_of gone_by
struct_copied_steps_laid = refl

pub returns-clause-struct_copied : goal.returns-clause-struct_copied
returns-clause-struct_copied c = (ap (λ e. runs_of (e copies_pointers.tree copies_pointers.meanings copies_pointers.layout narrowing) copies_pointers.layout.functions pairs_of_pointers (data_of copies_pointers pairs_of_pointers) 4096 0 [] 0) elaborations_same ∙ struct_copied_laid, ap (λ e. steps_run_of (e copies_pointers.tree copies_pointers.meanings copies_pointers.layout narrowing) copies_pointers.layout.functions pairs_of_pointers (data_of copies_pointers pairs_of_pointers) 4096 0 0) elaborations_same ∙ struct_copied_steps_laid)

too_deep_laid : runs_of (elaborated_laid descends_2.tree descends_2.meanings descends_2.layout narrowing) descends_2.layout.functions first_object (data_of descends_2 first_object) 3 1 [] 2 ≡ ends OutOfTurns [] 0 [] []
unfolding residue as_signed number_of value_of wrapped word_of extended arithmetic compares word_arithmetic word_compares moved last_byte leaving_value bounds_at is_sealed is_open_to_read is_open_to_write number_at with_number first_refused first_refused_around refusal touched_with keep_bounds load_bounds bounds_for rounded allocated freed served c_service pointer_written pointer_read digits stepped shape-the_row-Expr-0 hidden-the_row-Expr-0 shown-the_row-Expr-0 shape-the_row-Expr-1 hidden-the_row-Expr-1 shown-the_row-Expr-1 shape-the_row-Init-0 hidden-the_row-Init-0 shown-the_row-Init-0 shape-the_row-Stmt-0 hidden-the_row-Stmt-0 shown-the_row-Stmt-0 shape-the_row-Stmt-1 hidden-the_row-Stmt-1 shown-the_row-Stmt-1 hidden runs_of gone_by
too_deep_laid = refl

too_deep_steps_laid : steps_run_of (elaborated_laid descends_2.tree descends_2.meanings descends_2.layout narrowing) descends_2.layout.functions first_object (data_of descends_2 first_object) 3 1 2 ≡ ends OutOfTurns [] 0 [] []
unfolding residue as_signed number_of value_of wrapped word_of extended arithmetic compares word_arithmetic word_compares moved last_byte leaving_value bounds_at is_sealed is_open_to_read is_open_to_write number_at with_number first_refused first_refused_around refusal touched_with keep_bounds load_bounds bounds_for rounded allocated freed served c_service pointer_written pointer_read digits stepped shape-the_row-Expr-0 hidden-the_row-Expr-0 shown-the_row-Expr-0 shape-the_row-Expr-1 hidden-the_row-Expr-1 shown-the_row-Expr-1 shape-the_row-Init-0 hidden-the_row-Init-0 shown-the_row-Init-0 shape-the_row-Stmt-0 hidden-the_row-Stmt-0 shown-the_row-Stmt-0 shape-the_row-Stmt-1 hidden-the_row-Stmt-1 shown-the_row-Stmt-1 hidden steps_run_of gone_by
too_deep_steps_laid = refl

pub returns-clause-too_deep : goal.returns-clause-too_deep
returns-clause-too_deep c = (ap (λ e. runs_of (e descends_2.tree descends_2.meanings descends_2.layout narrowing) descends_2.layout.functions first_object (data_of descends_2 first_object) 3 1 [] 2) elaborations_same ∙ too_deep_laid, ap (λ e. steps_run_of (e descends_2.tree descends_2.meanings descends_2.layout narrowing) descends_2.layout.functions first_object (data_of descends_2 first_object) 3 1 2) elaborations_same ∙ too_deep_steps_laid)

deep_laid : runs_of (elaborated_laid descends_1.tree descends_1.meanings descends_1.layout narrowing) descends_1.layout.functions first_object (data_of descends_1 first_object) 3 1 [] 3 ≡ ends OutOfTurns [] 0 [] []
unfolding residue as_signed number_of value_of wrapped word_of extended arithmetic compares word_arithmetic word_compares moved last_byte leaving_value bounds_at is_sealed is_open_to_read is_open_to_write number_at with_number first_refused first_refused_around refusal touched_with keep_bounds load_bounds bounds_for rounded allocated freed served c_service pointer_written pointer_read digits stepped shape-the_row-Expr-0 hidden-the_row-Expr-0 shown-the_row-Expr-0 shape-the_row-Expr-1 hidden-the_row-Expr-1 shown-the_row-Expr-1 shape-the_row-Init-0 hidden-the_row-Init-0 shown-the_row-Init-0 shape-the_row-Stmt-0 hidden-the_row-Stmt-0 shown-the_row-Stmt-0 shape-the_row-Stmt-1 hidden-the_row-Stmt-1 shown-the_row-Stmt-1 hidden runs_of gone_by
deep_laid = refl

deep_steps_laid : steps_run_of (elaborated_laid descends_1.tree descends_1.meanings descends_1.layout narrowing) descends_1.layout.functions first_object (data_of descends_1 first_object) 3 1 3 ≡ ends OutOfTurns [] 0 [] []
unfolding residue as_signed number_of value_of wrapped word_of extended arithmetic compares word_arithmetic word_compares moved last_byte leaving_value bounds_at is_sealed is_open_to_read is_open_to_write number_at with_number first_refused first_refused_around refusal touched_with keep_bounds load_bounds bounds_for rounded allocated freed served c_service pointer_written pointer_read digits stepped shape-the_row-Expr-0 hidden-the_row-Expr-0 shown-the_row-Expr-0 shape-the_row-Expr-1 hidden-the_row-Expr-1 shown-the_row-Expr-1 shape-the_row-Init-0 hidden-the_row-Init-0 shown-the_row-Init-0 shape-the_row-Stmt-0 hidden-the_row-Stmt-0 shown-the_row-Stmt-0 shape-the_row-Stmt-1 hidden-the_row-Stmt-1 shown-the_row-Stmt-1 hidden steps_run_of gone_by
deep_steps_laid = refl

pub returns-clause-deep : goal.returns-clause-deep
returns-clause-deep c = (ap (λ e. runs_of (e descends_1.tree descends_1.meanings descends_1.layout narrowing) descends_1.layout.functions first_object (data_of descends_1 first_object) 3 1 [] 3) elaborations_same ∙ deep_laid, ap (λ e. steps_run_of (e descends_1.tree descends_1.meanings descends_1.layout narrowing) descends_1.layout.functions first_object (data_of descends_1 first_object) 3 1 3) elaborations_same ∙ deep_steps_laid)

division_laid : runs_of (elaborated_laid divides_by_0.tree divides_by_0.meanings divides_by_0.layout narrowing) divides_by_0.layout.functions first_object (data_of divides_by_0 first_object) 4096 0 [] 0 ≡ ends OutOfTurns [] 0 [] []
unfolding residue as_signed number_of value_of wrapped word_of extended arithmetic compares word_arithmetic word_compares moved last_byte leaving_value bounds_at is_sealed is_open_to_read is_open_to_write number_at with_number first_refused first_refused_around refusal touched_with keep_bounds load_bounds bounds_for rounded allocated freed served c_service pointer_written pointer_read digits stepped shape-the_row-Expr-0 hidden-the_row-Expr-0 shown-the_row-Expr-0 shape-the_row-Expr-1 hidden-the_row-Expr-1 shown-the_row-Expr-1 shape-the_row-Init-0 hidden-the_row-Init-0 shown-the_row-Init-0 shape-the_row-Stmt-0 hidden-the_row-Stmt-0 shown-the_row-Stmt-0 shape-the_row-Stmt-1 hidden-the_row-Stmt-1 shown-the_row-Stmt-1 hidden runs_of gone_by
division_laid = refl

division_steps_laid : steps_run_of (elaborated_laid divides_by_0.tree divides_by_0.meanings divides_by_0.layout narrowing) divides_by_0.layout.functions first_object (data_of divides_by_0 first_object) 4096 0 0 ≡ ends OutOfTurns [] 0 [] []
unfolding residue as_signed number_of value_of wrapped word_of extended arithmetic compares word_arithmetic word_compares moved last_byte leaving_value bounds_at is_sealed is_open_to_read is_open_to_write number_at with_number first_refused first_refused_around refusal touched_with keep_bounds load_bounds bounds_for rounded allocated freed served c_service pointer_written pointer_read digits stepped shape-the_row-Expr-0 hidden-the_row-Expr-0 shown-the_row-Expr-0 shape-the_row-Expr-1 hidden-the_row-Expr-1 shown-the_row-Expr-1 shape-the_row-Init-0 hidden-the_row-Init-0 shown-the_row-Init-0 shape-the_row-Stmt-0 hidden-the_row-Stmt-0 shown-the_row-Stmt-0 shape-the_row-Stmt-1 hidden-the_row-Stmt-1 shown-the_row-Stmt-1 hidden steps_run_of gone_by
division_steps_laid = refl

pub returns-clause-division : goal.returns-clause-division
returns-clause-division c = (ap (λ e. runs_of (e divides_by_0.tree divides_by_0.meanings divides_by_0.layout narrowing) divides_by_0.layout.functions first_object (data_of divides_by_0 first_object) 4096 0 [] 0) elaborations_same ∙ division_laid, ap (λ e. steps_run_of (e divides_by_0.tree divides_by_0.meanings divides_by_0.layout narrowing) divides_by_0.layout.functions first_object (data_of divides_by_0 first_object) 4096 0 0) elaborations_same ∙ division_steps_laid)

freed_twice_laid : runs_of (elaborated_laid frees_twice.tree frees_twice.meanings frees_twice.layout narrowing) frees_twice.layout.functions first_object (data_of frees_twice first_object) 4096 0 [] 1 ≡ ends OutOfTurns (codes "0\n-1\n-1\n") 0 [] []
unfolding residue as_signed number_of value_of wrapped word_of extended arithmetic compares word_arithmetic word_compares moved last_byte leaving_value bounds_at is_sealed is_open_to_read is_open_to_write number_at with_number first_refused first_refused_around refusal touched_with keep_bounds load_bounds bounds_for rounded allocated freed served c_service pointer_written pointer_read digits stepped shape-the_row-Expr-0 hidden-the_row-Expr-0 shown-the_row-Expr-0 shape-the_row-Expr-1 hidden-the_row-Expr-1 shown-the_row-Expr-1 shape-the_row-Init-0 hidden-the_row-Init-0 shown-the_row-Init-0 shape-the_row-Stmt-0 hidden-the_row-Stmt-0 shown-the_row-Stmt-0 shape-the_row-Stmt-1 hidden-the_row-Stmt-1 shown-the_row-Stmt-1 hidden runs_of gone_by
freed_twice_laid = refl

freed_twice_steps_laid : steps_run_of (elaborated_laid frees_twice.tree frees_twice.meanings frees_twice.layout narrowing) frees_twice.layout.functions first_object (data_of frees_twice first_object) 4096 0 1 ≡ ends OutOfTurns (codes "0\n-1\n-1\n") 0 [] []
unfolding residue as_signed number_of value_of wrapped word_of extended arithmetic compares word_arithmetic word_compares moved last_byte leaving_value bounds_at is_sealed is_open_to_read is_open_to_write number_at with_number first_refused first_refused_around refusal touched_with keep_bounds load_bounds bounds_for rounded allocated freed served c_service pointer_written pointer_read digits stepped shape-the_row-Expr-0 hidden-the_row-Expr-0 shown-the_row-Expr-0 shape-the_row-Expr-1 hidden-the_row-Expr-1 shown-the_row-Expr-1 shape-the_row-Init-0 hidden-the_row-Init-0 shown-the_row-Init-0 shape-the_row-Stmt-0 hidden-the_row-Stmt-0 shown-the_row-Stmt-0 shape-the_row-Stmt-1 hidden-the_row-Stmt-1 shown-the_row-Stmt-1 hidden steps_run_of gone_by
freed_twice_steps_laid = refl

pub returns-clause-freed_twice : goal.returns-clause-freed_twice
returns-clause-freed_twice c = (ap (λ e. runs_of (e frees_twice.tree frees_twice.meanings frees_twice.layout narrowing) frees_twice.layout.functions first_object (data_of frees_twice first_object) 4096 0 [] 1) elaborations_same ∙ freed_twice_laid, ap (λ e. steps_run_of (e frees_twice.tree frees_twice.meanings frees_twice.layout narrowing) frees_twice.layout.functions first_object (data_of frees_twice first_object) 4096 0 1) elaborations_same ∙ freed_twice_steps_laid)
