-- The table does what the examples say: each is computed.
use Rattle.std.proofs.Common.{refl}
use Rattle.std.specs.List.{AllByRecursion}
use Rattle.mx_base.specs.BoundsStore.{bounds_for}
use Rattle.mx_base.specs.Memory.{number_at, with_number}
use Rattle.mx_base.specs.Numbers.{residue, as_signed}
use Rattle.x86_forms.specs.Arithmetic.{is_negative, holds_signed, has_bit, result_of, difference_flags, moved_out, shift_overflow, flags_after, divided, divided_signed, holds}
use Rattle.x86_forms.specs.Processor.{part_written, address, pointer_address}
use Rattle.x86_forms.specs.Requests.{run}
use Rattle.x86_forms.specs.Table.{row}
use Rattle.x86_forms.specs.Examples.{Does}
use Rattle.x86_forms.specs.ExamplesOfBranches.{examples_of_calls, examples_of_jumps}

pub does_calls : AllByRecursion Does examples_of_calls
unfolding Does run row address pointer_address part_written result_of flags_after difference_flags moved_out shift_overflow has_bit holds_signed is_negative divided divided_signed holds residue as_signed number_at with_number bounds_for
does_calls = (refl, (refl, (refl, (refl, (refl, (refl, (refl, (refl, (refl, tt)))))))))

pub does_jumps : AllByRecursion Does examples_of_jumps
unfolding Does run row address pointer_address part_written result_of flags_after difference_flags moved_out shift_overflow has_bit holds_signed is_negative divided divided_signed holds residue as_signed number_at with_number bounds_for
does_jumps = (refl, (refl, (refl, (refl, (refl, (refl, (refl, (refl, (refl, (refl, (refl, (refl, tt))))))))))))
