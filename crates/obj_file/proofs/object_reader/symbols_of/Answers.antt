use Rattle.std.proofs.Common.{◌≡◌, ◌++◌, ◌∷◌, []}
use Rattle.std.proofs.lemmas.Result.{err_from_is_err_and}
use Rattle.obj_file.specs.Fields.{many_at}
use Rattle.obj_file.specs.Object.{after_symbol}
use Rattle.obj_file.specs.ObjectReading.{symbol_at}
use Rattle.obj_file.proofs.Loop.{begins, goes_on, ends, is_done}
use Rattle.obj_file.proofs.object_reader.symbols_of.Goals as goal

pub loop-init : goal.loop-init
loop-init c = rw c.new-symbols.ensures.items (begins (symbol_at c.args.parts) after_symbol c.args.count [] c.args.bytes.now)

pub returns-in_err-symbol : goal.returns-in_err-symbol
returns-in_err-symbol c =
    let p = err_from_is_err_and c.from_residual.result c.from_residual.ensures.1 in
    rw (p.1, p.2) (ends (symbol_at c.args.parts) after_symbol c.in_err-symbol.field-0.0 c.loop.symbols.items c.args.count c.loop.counter c.loop.symbols.items c.loop.rest.now (many_at (symbol_at c.args.parts) after_symbol c.args.count [] c.args.bytes.now) c.loop-test.true (rw c.as_slice.ensures.value at c.in_err-symbol.ensures) c.loop.invariant)

pub loop-preserved : goal.loop-preserved
loop-preserved c =
    let e : c.push.new.self.items ≡ c.loop.symbols.items ++ c.in_ok-symbol.symbol ∷ [] = c.in_ok-push.ensures.items in
    rw e (goes_on (symbol_at c.args.parts) after_symbol c.loop.symbols.items c.args.count c.loop.counter c.loop.symbols.items c.loop.rest.now c.in_ok-symbol.symbol c.in_ok-symbol.after.now (many_at (symbol_at c.args.parts) after_symbol c.args.count [] c.args.bytes.now) c.loop-test.true (rw c.as_slice.ensures.value at c.in_ok-symbol.ensures) c.loop.invariant)

pub returns : goal.returns
returns c = is_done (symbol_at c.args.parts) after_symbol c.loop.symbols.items c.args.count c.loop.counter c.loop.symbols.items c.loop.rest.now (many_at (symbol_at c.args.parts) after_symbol c.args.count [] c.args.bytes.now) c.loop-test.false c.loop.invariant
