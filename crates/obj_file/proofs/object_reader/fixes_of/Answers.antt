use Rattle.std.proofs.Common.{◌≡◌, ◌++◌, ◌∷◌, []}
use Rattle.std.proofs.lemmas.Result.{err_from_is_err_and}
use Rattle.obj_file.specs.Fields.{many_at}
use Rattle.obj_file.specs.Object.{fix_end, no_fix}
use Rattle.obj_file.specs.ObjectReading.{fix_at}
use Rattle.obj_file.proofs.Loop.{begins, goes_on, ends, is_done}
use Rattle.obj_file.proofs.object_reader.fixes_of.Goals as goal

pub loop-init : goal.loop-init
loop-init c = rw c.new-fixes.ensures.items (begins (fix_at c.args.parts c.args.symbols) fix_end c.args.count no_fix c.args.bytes.now)

pub returns-in_err-fix : goal.returns-in_err-fix
returns-in_err-fix c =
    let p = err_from_is_err_and c.from_residual.result c.from_residual.ensures.1 in
    rw (p.1, p.2) (ends (fix_at c.args.parts c.args.symbols) fix_end c.in_err-fix.field-0.0 c.loop.fixes.items c.args.count c.loop.counter c.loop.before c.loop.rest.now (many_at (fix_at c.args.parts c.args.symbols) fix_end c.args.count no_fix c.args.bytes.now) c.loop-test.true c.in_err-fix.ensures.gives c.loop.invariant)

pub loop-preserved : goal.loop-preserved
loop-preserved c =
    let e : c.push.new.self.items ≡ c.loop.fixes.items ++ c.in_ok-fix.fix ∷ [] = c.in_ok-push.ensures.items in
    rw (e, c.fix_size.ensures) (goes_on (fix_at c.args.parts c.args.symbols) fix_end c.loop.fixes.items c.args.count c.loop.counter c.loop.before c.loop.rest.now c.in_ok-fix.fix c.in_ok-fix.after.now (many_at (fix_at c.args.parts c.args.symbols) fix_end c.args.count no_fix c.args.bytes.now) c.loop-test.true c.in_ok-fix.ensures.gives c.loop.invariant)

pub returns : goal.returns
returns c = is_done (fix_at c.args.parts c.args.symbols) fix_end c.loop.fixes.items c.args.count c.loop.counter c.loop.before c.loop.rest.now (many_at (fix_at c.args.parts c.args.symbols) fix_end c.args.count no_fix c.args.bytes.now) c.loop-test.false c.loop.invariant
