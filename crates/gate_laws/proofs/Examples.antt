-- The small image, computed.
use Rattle.std.proofs.Common.{◌≡◌, refl}
use Rattle.mx_base.specs.BoundsStore.{bounds_for, touched_with}
use Rattle.mx_base.specs.Numbers.{residue, as_signed}
use Rattle.mx_base.specs.Services.{service_of, served}
use Rattle.mx_base.specs.Memory.{number_at, with_number, list_at, with_list, first_refused, first_refused_around}
use Rattle.mx_base.specs.Regions.{is_readable, is_writable, is_executable, is_sealed}
use Rattle.mx_base.specs.Walk.{directory_entry_at}
use Rattle.x86_forms.specs.Arithmetic.{result_of, flags_after, difference_flags, is_negative, holds_signed}
use Rattle.x86_forms.specs.Processor.{part_written, address, pointer_address}
use Rattle.x86_forms.specs.Requests.{run}
use Rattle.x86_forms.specs.Spelling.{low_bytes, mod_of, disp_bytes, scale_code, modrm, sib, over_base, mem_bytes, rm_bytes, index_high, base_high, rm_high, high_bits, is_low, rm_is_low, forces_rex, rex_bits, rex_bytes, prefix_bytes, escape_bytes, operand_bytes}
use Rattle.x86_forms.specs.Table.{row}
use Rattle.x86_forms.specs.Watch.{is_watched, is_c_access, first_sealed, access_strays, control_strays, is_in_outer, begins_outer, may_enter, is_legacy_control}
use Rattle.obj_file.specs.Machine.{executed, reach_strays, asked, deed_of, reading_at, event}
use Rattle.obj_file.specs.Runs.{run_within, room, run_of, accesses_within, accesses_of}
use Rattle.obj_file.specs.Stored.{stored_read, stored_write, is_touched, stored_load, stored_keep, megabyte_touched, stored_at_start, stored_run, stored_accesses}
use Rattle.gate_laws.specs.Examples.{reader_among, seen, run_with, at_the_legacy_function, behind_the_callback, at_the_exit, before_the_exit}

pub entry_so : seen (run_with 2) ≡ at_the_legacy_function
unfolding run_of room run_within stored_run stored_accesses accesses_of accesses_within stored_at_start event reading_at reader_among deed_of executed reach_strays asked run row part_written address pointer_address stored_read stored_write is_touched stored_load stored_keep megabyte_touched touched_with directory_entry_at bounds_for number_at with_number list_at with_list first_refused first_refused_around is_readable is_writable is_executable is_sealed is_watched is_c_access first_sealed access_strays control_strays is_in_outer begins_outer may_enter is_legacy_control low_bytes mod_of disp_bytes scale_code modrm sib over_base mem_bytes rm_bytes index_high base_high rm_high high_bits is_low rm_is_low forces_rex rex_bits rex_bytes prefix_bytes escape_bytes operand_bytes result_of flags_after difference_flags is_negative holds_signed residue as_signed service_of served
entry_so = refl

pub callback_so : seen (run_with 10) ≡ behind_the_callback
unfolding run_of room run_within stored_run stored_accesses accesses_of accesses_within stored_at_start event reading_at reader_among deed_of executed reach_strays asked run row part_written address pointer_address stored_read stored_write is_touched stored_load stored_keep megabyte_touched touched_with directory_entry_at bounds_for number_at with_number list_at with_list first_refused first_refused_around is_readable is_writable is_executable is_sealed is_watched is_c_access first_sealed access_strays control_strays is_in_outer begins_outer may_enter is_legacy_control low_bytes mod_of disp_bytes scale_code modrm sib over_base mem_bytes rm_bytes index_high base_high rm_high high_bits is_low rm_is_low forces_rex rex_bits rex_bytes prefix_bytes escape_bytes operand_bytes result_of flags_after difference_flags is_negative holds_signed residue as_signed service_of served
callback_so = refl

pub exit_so : (seen (run_with 14)).exit ≡ at_the_exit
unfolding run_of room run_within stored_run stored_accesses accesses_of accesses_within stored_at_start event reading_at reader_among deed_of executed reach_strays asked run row part_written address pointer_address stored_read stored_write is_touched stored_load stored_keep megabyte_touched touched_with directory_entry_at bounds_for number_at with_number list_at with_list first_refused first_refused_around is_readable is_writable is_executable is_sealed is_watched is_c_access first_sealed access_strays control_strays is_in_outer begins_outer may_enter is_legacy_control low_bytes mod_of disp_bytes scale_code modrm sib over_base mem_bytes rm_bytes index_high base_high rm_high high_bits is_low rm_is_low forces_rex rex_bits rex_bytes prefix_bytes escape_bytes operand_bytes result_of flags_after difference_flags is_negative holds_signed residue as_signed service_of served
exit_so = refl

pub before_so : (seen (run_with 13)).exit ≡ before_the_exit
unfolding run_of room run_within stored_run stored_accesses accesses_of accesses_within stored_at_start event reading_at reader_among deed_of executed reach_strays asked run row part_written address pointer_address stored_read stored_write is_touched stored_load stored_keep megabyte_touched touched_with directory_entry_at bounds_for number_at with_number list_at with_list first_refused first_refused_around is_readable is_writable is_executable is_sealed is_watched is_c_access first_sealed access_strays control_strays is_in_outer begins_outer may_enter is_legacy_control low_bytes mod_of disp_bytes scale_code modrm sib over_base mem_bytes rm_bytes index_high base_high rm_high high_bits is_low rm_is_low forces_rex rex_bits rex_bytes prefix_bytes escape_bytes operand_bytes result_of flags_after difference_flags is_negative holds_signed residue as_signed service_of served
before_so = refl
