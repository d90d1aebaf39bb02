use Rattle.std.proofs.Common.{◌≡◌, ◌++◌, ◌∷◌, [], ℕ}
use Rattle.std.proofs.lemmas.Result.{err_from_is_err_and}
use Rattle.obj_file.specs.Fields.{many_at}
use Rattle.obj_file.specs.ImageReading.{file_at}
use Rattle.obj_file.proofs.Loop.{begins, goes_on, ends, is_done}
use Rattle.obj_file.proofs.image_reader.files_of.Goals as goal

pub loop-init : goal.loop-init
loop-init c = rw c.new-files.ensures.items (begins (λ (_ : ℕ). file_at) (λ n _. n) c.args.count 0 c.args.bytes.now)

pub returns-in_err-file : goal.returns-in_err-file
returns-in_err-file c =
    let p = err_from_is_err_and c.from_residual.result c.from_residual.ensures.1 in
    rw (p.1, p.2) (ends (λ (_ : ℕ). file_at) (λ n _. n) c.in_err-file.field-0.0 c.loop.files.items c.args.count c.loop.counter 0 c.loop.rest.now (many_at (λ (_ : ℕ). file_at) (λ n _. n) c.args.count 0 c.args.bytes.now) c.loop-test.true c.in_err-file.ensures c.loop.invariant)

pub loop-preserved : goal.loop-preserved
loop-preserved c =
    let e : c.push.new.self.items ≡ c.loop.files.items ++ c.in_ok-file.file ∷ [] = c.in_ok-push.ensures.items in
    rw e (goes_on (λ (_ : ℕ). file_at) (λ n _. n) c.loop.files.items c.args.count c.loop.counter 0 c.loop.rest.now c.in_ok-file.file c.in_ok-file.after.now (many_at (λ (_ : ℕ). file_at) (λ n _. n) c.args.count 0 c.args.bytes.now) c.loop-test.true c.in_ok-file.ensures c.loop.invariant)

pub returns : goal.returns
returns c = is_done (λ (_ : ℕ). file_at) (λ n _. n) c.loop.files.items c.args.count c.loop.counter 0 c.loop.rest.now (many_at (λ (_ : ℕ). file_at) (λ n _. n) c.args.count 0 c.args.bytes.now) c.loop-test.false c.loop.invariant
