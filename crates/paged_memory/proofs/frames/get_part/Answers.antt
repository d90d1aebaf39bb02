use Rattle.std.specs.Prelude.{length}
use Rattle.std.proofs.Common.{◌≡◌, ◌∙◌, ap, arith, ◌+◌, ◌-◌, take, drop}
use Rattle.paged_memory.proofs.frames.get_part.Goals as goal

pub returns : goal.returns
returns c =
    let long : c.args.at + length c.args.buf.now - c.args.at ≡ length c.args.buf.now = omega arith in
    c.copy_from_slice.ensures.after ∙ ap (λ n. take n (drop c.args.at c.args.frames.now)) long
