use Rattle.std.proofs.Common.{◌≡◌, false, ap, sym, subst, ◌∙◌, arith}
use Rattle.std.specs.Prelude.{Some, slice_get, slice_index, slice_index_or}
use Rattle.c_types.specs.Types.{structs_of}
use Rattle.place_plan.specs.Globals.{global_of, globals_of}
use Rattle.place_plan.specs.Data.{offsets_from, globals_end}
use Rattle.place_plan.specs.Image.{global_at}
use Rattle.place_plan.proofs.Targets.{global_there, global_missing, as_many, number_there, within_data}
use Rattle.place_plan.proofs.image.target_of.Goals as goal

pub bounds-offsets-number : goal.bounds-offsets-number
bounds-offsets-number c = let many = as_many c.args.table.now c.args.globals.now c.args.offsets.now c.requires.offsets in omega (arith, many)

pub returns-then-number-globals-clause-value : goal.returns-then-number-globals-clause-value
returns-then-number-globals-clause-value c = c.piece_of.ensures.value c.args.table.now
    ∙ ap (λ o. global_at o (slice_index c.args.offsets.now c.args.number)) (sym (global_there c.args.table.now c.args.globals.now c.args.number record { kind = record { 0 = 0 }; defined = false } c.if-number-globals.true))

pub returns-then-number-globals-clause-room : goal.returns-then-number-globals-clause-room
returns-then-number-globals-clause-room c = let table = c.args.table.now in let globals = c.args.globals.now in let g = slice_index_or globals c.args.number record { kind = record { 0 = 0 }; defined = false } in
    let offset = slice_index_or c.args.offsets.now c.args.number 0 in
    let many = as_many table globals c.args.offsets.now c.requires.offsets in
    let there = global_there table globals c.args.number record { kind = record { 0 = 0 }; defined = false } c.if-number-globals.true in
    let stands : slice_get (offsets_from (structs_of table) 0 (globals_of table globals)) c.args.number ≡ Some offset =
    subst (λ xs. slice_get xs c.args.number ≡ Some offset) c.requires.offsets (number_there c.args.offsets.now c.args.number 0 (omega (arith, many))) in
    within_data table (globals_end (structs_of table) 0 (globals_of table globals)) g offset c.piece_of.result
    (λ d. c.data_stands_apart.ensures.within (structs_of table) (globals_of table globals) c.args.number offset (global_of table g) there d stands) c.piece_of.ensures.is

pub returns-else-number-globals-clause-value : goal.returns-else-number-globals-clause-value
returns-else-number-globals-clause-value c = sym (ap (λ o. global_at o (slice_index c.args.offsets.now c.args.number)) (global_missing c.args.table.now c.args.globals.now c.args.number c.if-number-globals.false))
