use Rattle.std.proofs.Common.{false, suc, drop, drop-cons, slice_index_or, ap, arith}
use Rattle.c_types.specs.Types.{structs_of}
use Rattle.place_plan.specs.Data.{globals_end}
use Rattle.place_plan.specs.Globals.{global_of, globals_of}
use Rattle.place_plan.proofs.Ends.{data_grows, next_data}
use Rattle.place_plan.proofs.data.lay_globals.Goals as goal

pub place_global-offset-requires-clause-before : goal.place_global-offset-requires-clause-before
place_global-offset-requires-clause-before c = let s = structs_of c.args.table.now in
    let a = data_grows s (c.sizes_are_multiples.ensures.some s) c.loop-global.end (globals_of c.args.table.now (drop c.loop-global.global-index c.args.globals.now)) in
    omega (arith, a, c.loop-global.invariant.ends, c.requires.small)

pub place_global-offset-requires-clause-end : goal.place_global-offset-requires-clause-end
place_global-offset-requires-clause-end c = let s = structs_of c.args.table.now in
    let global = slice_index_or c.args.globals.now c.loop-global.global-index record { kind = record { 0 = 0 }; defined = false } in
    let more = drop (suc c.loop-global.global-index) c.args.globals.now in
    let a = next_data s (c.sizes_are_multiples.ensures.some s) c.loop-global.end (global_of c.args.table.now global) (globals_of c.args.table.now more) in
    let d = drop-cons c.args.globals.now c.loop-global.global-index record { kind = record { 0 = 0 }; defined = false } (omega arith) in
    let e = ap (λ xs. globals_end s c.loop-global.end (globals_of c.args.table.now xs)) d in
    omega (arith, a, e, c.loop-global.invariant.ends, c.requires.small)
