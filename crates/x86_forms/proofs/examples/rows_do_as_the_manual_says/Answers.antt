use Rattle.x86_forms.proofs.DoesOfMoves.{does_mov, does_extensions, does_addresses, does_others}
use Rattle.x86_forms.proofs.DoesOfNumbers.{does_sums, does_logic, does_products, does_shifts}
use Rattle.x86_forms.proofs.DoesOfBranches.{does_calls, does_jumps}
use Rattle.x86_forms.proofs.DoesOfBounds.{does_checks, does_bounds_moved}
use Rattle.x86_forms.proofs.examples.rows_do_as_the_manual_says.Goals as goal

pub returns-clause-moves : goal.returns-clause-moves
returns-clause-moves c = does_mov

pub returns-clause-extensions : goal.returns-clause-extensions
returns-clause-extensions c = does_extensions

pub returns-clause-addresses : goal.returns-clause-addresses
returns-clause-addresses c = does_addresses

pub returns-clause-others : goal.returns-clause-others
returns-clause-others c = does_others

pub returns-clause-sums : goal.returns-clause-sums
returns-clause-sums c = does_sums

pub returns-clause-logic : goal.returns-clause-logic
returns-clause-logic c = does_logic

pub returns-clause-products : goal.returns-clause-products
returns-clause-products c = does_products

pub returns-clause-shifts : goal.returns-clause-shifts
returns-clause-shifts c = does_shifts

pub returns-clause-calls : goal.returns-clause-calls
returns-clause-calls c = does_calls

pub returns-clause-jumps : goal.returns-clause-jumps
returns-clause-jumps c = does_jumps

pub returns-clause-checks : goal.returns-clause-checks
returns-clause-checks c = does_checks

pub returns-clause-bounds : goal.returns-clause-bounds
returns-clause-bounds c = does_bounds_moved
