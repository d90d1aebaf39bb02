use Rattle.std.proofs.Common.{refl}
use Rattle.std.specs.Fmt.{digits}
use Rattle.mx_base.specs.Numbers.{residue, as_signed, number_of, value_of, wrapped, word_of, extended}
use Rattle.mx_base.specs.Operators.{arithmetic, compares, word_arithmetic, word_compares}
use Rattle.mx_base.specs.Bounds.{moved, last_byte, leaving_value, bounds_at}
use Rattle.mx_base.specs.Regions.{is_sealed, is_open_to_read, is_open_to_write}
use Rattle.mx_base.specs.Memory.{number_at, with_number, first_refused, first_refused_around}
use Rattle.mx_base.specs.Access.{refusal}
use Rattle.mx_base.specs.BoundsStore.{touched_with, keep_bounds, load_bounds, bounds_for}
use Rattle.mx_base.specs.Heap.{rounded, allocated, freed}
use Rattle.mx_base.specs.Services.{served, c_service}
use Rattle.mx_base.specs.World.{pointer_written, pointer_read}
use Rattle.bounds_plan.specs.meaning.Expressions.{stepped}
use Rattle.bounds_plan.proofs.worked.compiled_programs_run_so.Goals as goal

pub returns-clause-prints : goal.returns-clause-prints
unfolding residue as_signed number_of value_of wrapped word_of extended arithmetic compares word_arithmetic word_compares moved last_byte leaving_value bounds_at is_sealed is_open_to_read is_open_to_write number_at with_number first_refused first_refused_around refusal touched_with keep_bounds load_bounds bounds_for rounded allocated freed served c_service pointer_written pointer_read digits stepped
returns-clause-prints c = refl

pub returns-clause-inside : goal.returns-clause-inside
unfolding residue as_signed number_of value_of wrapped word_of extended arithmetic compares word_arithmetic word_compares moved last_byte leaving_value bounds_at is_sealed is_open_to_read is_open_to_write number_at with_number first_refused first_refused_around refusal touched_with keep_bounds load_bounds bounds_for rounded allocated freed served c_service pointer_written pointer_read digits stepped
returns-clause-inside c = refl

pub returns-clause-first_byte_outside : goal.returns-clause-first_byte_outside
unfolding residue as_signed number_of value_of wrapped word_of extended arithmetic compares word_arithmetic word_compares moved last_byte leaving_value bounds_at is_sealed is_open_to_read is_open_to_write number_at with_number first_refused first_refused_around refusal touched_with keep_bounds load_bounds bounds_for rounded allocated freed served c_service pointer_written pointer_read digits stepped
returns-clause-first_byte_outside c = refl

pub returns-clause-last_byte_outside : goal.returns-clause-last_byte_outside
unfolding residue as_signed number_of value_of wrapped word_of extended arithmetic compares word_arithmetic word_compares moved last_byte leaving_value bounds_at is_sealed is_open_to_read is_open_to_write number_at with_number first_refused first_refused_around refusal touched_with keep_bounds load_bounds bounds_for rounded allocated freed served c_service pointer_written pointer_read digits stepped
returns-clause-last_byte_outside c = refl

pub returns-clause-block : goal.returns-clause-block
unfolding residue as_signed number_of value_of wrapped word_of extended arithmetic compares word_arithmetic word_compares moved last_byte leaving_value bounds_at is_sealed is_open_to_read is_open_to_write number_at with_number first_refused first_refused_around refusal touched_with keep_bounds load_bounds bounds_for rounded allocated freed served c_service pointer_written pointer_read digits stepped
returns-clause-block c = refl

pub returns-clause-pointer_back : goal.returns-clause-pointer_back
unfolding residue as_signed number_of value_of wrapped word_of extended arithmetic compares word_arithmetic word_compares moved last_byte leaving_value bounds_at is_sealed is_open_to_read is_open_to_write number_at with_number first_refused first_refused_around refusal touched_with keep_bounds load_bounds bounds_for rounded allocated freed served c_service pointer_written pointer_read digits stepped
returns-clause-pointer_back c = refl

pub returns-clause-pointer_spoiled : goal.returns-clause-pointer_spoiled
unfolding residue as_signed number_of value_of wrapped word_of extended arithmetic compares word_arithmetic word_compares moved last_byte leaving_value bounds_at is_sealed is_open_to_read is_open_to_write number_at with_number first_refused first_refused_around refusal touched_with keep_bounds load_bounds bounds_for rounded allocated freed served c_service pointer_written pointer_read digits stepped
returns-clause-pointer_spoiled c = refl

pub returns-clause-megabytes : goal.returns-clause-megabytes
unfolding residue as_signed number_of value_of wrapped word_of extended arithmetic compares word_arithmetic word_compares moved last_byte leaving_value bounds_at is_sealed is_open_to_read is_open_to_write number_at with_number first_refused first_refused_around refusal touched_with keep_bounds load_bounds bounds_for rounded allocated freed served c_service pointer_written pointer_read digits stepped
returns-clause-megabytes c = refl

pub returns-clause-unmapped : goal.returns-clause-unmapped
unfolding residue as_signed number_of value_of wrapped word_of extended arithmetic compares word_arithmetic word_compares moved last_byte leaving_value bounds_at is_sealed is_open_to_read is_open_to_write number_at with_number first_refused first_refused_around refusal touched_with keep_bounds load_bounds bounds_for rounded allocated freed served c_service pointer_written pointer_read digits stepped
returns-clause-unmapped c = refl

pub returns-clause-narrowed : goal.returns-clause-narrowed
unfolding residue as_signed number_of value_of wrapped word_of extended arithmetic compares word_arithmetic word_compares moved last_byte leaving_value bounds_at is_sealed is_open_to_read is_open_to_write number_at with_number first_refused first_refused_around refusal touched_with keep_bounds load_bounds bounds_for rounded allocated freed served c_service pointer_written pointer_read digits stepped
returns-clause-narrowed c = refl

pub returns-clause-not_narrowed : goal.returns-clause-not_narrowed
unfolding residue as_signed number_of value_of wrapped word_of extended arithmetic compares word_arithmetic word_compares moved last_byte leaving_value bounds_at is_sealed is_open_to_read is_open_to_write number_at with_number first_refused first_refused_around refusal touched_with keep_bounds load_bounds bounds_for rounded allocated freed served c_service pointer_written pointer_read digits stepped
returns-clause-not_narrowed c = refl

pub returns-clause-struct_copied : goal.returns-clause-struct_copied
unfolding residue as_signed number_of value_of wrapped word_of extended arithmetic compares word_arithmetic word_compares moved last_byte leaving_value bounds_at is_sealed is_open_to_read is_open_to_write number_at with_number first_refused first_refused_around refusal touched_with keep_bounds load_bounds bounds_for rounded allocated freed served c_service pointer_written pointer_read digits stepped
returns-clause-struct_copied c = refl

pub returns-clause-five_turns : goal.returns-clause-five_turns
unfolding residue as_signed number_of value_of wrapped word_of extended arithmetic compares word_arithmetic word_compares moved last_byte leaving_value bounds_at is_sealed is_open_to_read is_open_to_write number_at with_number first_refused first_refused_around refusal touched_with keep_bounds load_bounds bounds_for rounded allocated freed served c_service pointer_written pointer_read digits stepped
returns-clause-five_turns c = refl

pub returns-clause-no_turn : goal.returns-clause-no_turn
unfolding residue as_signed number_of value_of wrapped word_of extended arithmetic compares word_arithmetic word_compares moved last_byte leaving_value bounds_at is_sealed is_open_to_read is_open_to_write number_at with_number first_refused first_refused_around refusal touched_with keep_bounds load_bounds bounds_for rounded allocated freed served c_service pointer_written pointer_read digits stepped
returns-clause-no_turn c = refl

pub returns-clause-too_deep : goal.returns-clause-too_deep
unfolding residue as_signed number_of value_of wrapped word_of extended arithmetic compares word_arithmetic word_compares moved last_byte leaving_value bounds_at is_sealed is_open_to_read is_open_to_write number_at with_number first_refused first_refused_around refusal touched_with keep_bounds load_bounds bounds_for rounded allocated freed served c_service pointer_written pointer_read digits stepped
returns-clause-too_deep c = refl

pub returns-clause-deep : goal.returns-clause-deep
unfolding residue as_signed number_of value_of wrapped word_of extended arithmetic compares word_arithmetic word_compares moved last_byte leaving_value bounds_at is_sealed is_open_to_read is_open_to_write number_at with_number first_refused first_refused_around refusal touched_with keep_bounds load_bounds bounds_for rounded allocated freed served c_service pointer_written pointer_read digits stepped
returns-clause-deep c = refl

pub returns-clause-division : goal.returns-clause-division
unfolding residue as_signed number_of value_of wrapped word_of extended arithmetic compares word_arithmetic word_compares moved last_byte leaving_value bounds_at is_sealed is_open_to_read is_open_to_write number_at with_number first_refused first_refused_around refusal touched_with keep_bounds load_bounds bounds_for rounded allocated freed served c_service pointer_written pointer_read digits stepped
returns-clause-division c = refl

pub returns-clause-freed_twice : goal.returns-clause-freed_twice
unfolding residue as_signed number_of value_of wrapped word_of extended arithmetic compares word_arithmetic word_compares moved last_byte leaving_value bounds_at is_sealed is_open_to_read is_open_to_write number_at with_number first_refused first_refused_around refusal touched_with keep_bounds load_bounds bounds_for rounded allocated freed served c_service pointer_written pointer_read digits stepped
returns-clause-freed_twice c = refl

pub returns-clause-skipped : goal.returns-clause-skipped
unfolding residue as_signed number_of value_of wrapped word_of extended arithmetic compares word_arithmetic word_compares moved last_byte leaving_value bounds_at is_sealed is_open_to_read is_open_to_write number_at with_number first_refused first_refused_around refusal touched_with keep_bounds load_bounds bounds_for rounded allocated freed served c_service pointer_written pointer_read digits stepped
returns-clause-skipped c = refl

pub returns-clause-skipped_few_turns : goal.returns-clause-skipped_few_turns
unfolding residue as_signed number_of value_of wrapped word_of extended arithmetic compares word_arithmetic word_compares moved last_byte leaving_value bounds_at is_sealed is_open_to_read is_open_to_write number_at with_number first_refused first_refused_around refusal touched_with keep_bounds load_bounds bounds_for rounded allocated freed served c_service pointer_written pointer_read digits stepped
returns-clause-skipped_few_turns c = refl

pub returns-clause-parameter : goal.returns-clause-parameter
unfolding residue as_signed number_of value_of wrapped word_of extended arithmetic compares word_arithmetic word_compares moved last_byte leaving_value bounds_at is_sealed is_open_to_read is_open_to_write number_at with_number first_refused first_refused_around refusal touched_with keep_bounds load_bounds bounds_for rounded allocated freed served c_service pointer_written pointer_read digits stepped
returns-clause-parameter c = refl

pub returns-clause-lent : goal.returns-clause-lent
unfolding residue as_signed number_of value_of wrapped word_of extended arithmetic compares word_arithmetic word_compares moved last_byte leaving_value bounds_at is_sealed is_open_to_read is_open_to_write number_at with_number first_refused first_refused_around refusal touched_with keep_bounds load_bounds bounds_for rounded allocated freed served c_service pointer_written pointer_read digits stepped
returns-clause-lent c = refl

pub returns-clause-lent_outside : goal.returns-clause-lent_outside
unfolding residue as_signed number_of value_of wrapped word_of extended arithmetic compares word_arithmetic word_compares moved last_byte leaving_value bounds_at is_sealed is_open_to_read is_open_to_write number_at with_number first_refused first_refused_around refusal touched_with keep_bounds load_bounds bounds_for rounded allocated freed served c_service pointer_written pointer_read digits stepped
returns-clause-lent_outside c = refl

pub returns-clause-added_in_order : goal.returns-clause-added_in_order
unfolding residue as_signed number_of value_of wrapped word_of extended arithmetic compares word_arithmetic word_compares moved last_byte leaving_value bounds_at is_sealed is_open_to_read is_open_to_write number_at with_number first_refused first_refused_around refusal touched_with keep_bounds load_bounds bounds_for rounded allocated freed served c_service pointer_written pointer_read digits stepped
returns-clause-added_in_order c = refl
