use Rattle.std.proofs.Common.{false, suc, drop, drop-cons, slice_index_or, ap, arith}
use Rattle.c_types.specs.Types.{structs_of}
use Rattle.place_plan.specs.declared.frames.Free.{Free}
use Rattle.place_plan.specs.Frames.{free_after_all, nothing_taken}
use Rattle.place_plan.specs.Locals.{variable_of, variables_of}
use Rattle.place_plan.proofs.Ends.{next_enough, ends_grow, next_ends}
use Rattle.place_plan.proofs.frames.place_locals.Goals as goal

pub place_local-spot-requires-clause-before : goal.place_local-spot-requires-clause-before
place_local-spot-requires-clause-before c = let s = structs_of c.args.table.now in
    let a = ends_grow s (c.sizes_are_multiples.ensures.some s) c.loop-local.free (variables_of c.args.table.now (drop c.loop-local.local-index c.args.locals.now)) in
    let b = next_enough (free_after_all s nothing_taken (variables_of c.args.table.now c.args.locals.now)).byte 16 (omega arith) in
    let e = ap (λ (f : Free). f.byte) c.loop-local.invariant.ends in
    omega (arith, a, b, e, c.requires.small)

pub place_local-spot-requires-clause-byte : goal.place_local-spot-requires-clause-byte
place_local-spot-requires-clause-byte c = let s = structs_of c.args.table.now in
    let local = slice_index_or c.args.locals.now c.loop-local.local-index record { kind = record { 0 = 0 }; taken = false } in
    let more = drop (suc c.loop-local.local-index) c.args.locals.now in
    let a = next_ends s (c.sizes_are_multiples.ensures.some s) c.loop-local.free (variable_of c.args.table.now local) (variables_of c.args.table.now more) in
    let d = drop-cons c.args.locals.now c.loop-local.local-index record { kind = record { 0 = 0 }; taken = false } (omega arith) in
    let b = next_enough (free_after_all s nothing_taken (variables_of c.args.table.now c.args.locals.now)).byte 16 (omega arith) in
    let e = ap (λ xs. (free_after_all s c.loop-local.free (variables_of c.args.table.now xs)).byte) d in
    let f = ap (λ (f : Free). f.byte) c.loop-local.invariant.ends in
    omega (arith, a, b, e, f, c.requires.small)
