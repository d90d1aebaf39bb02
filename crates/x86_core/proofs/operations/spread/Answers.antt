use Rattle.std.proofs.Common.{◌-◌, ◌^◌, ◌<◌, ◌≤◌, ◌∙◌, arith}
use Rattle.x86_core.proofs.Spreading.{spread-low, spread-high}
use Rattle.x86_core.proofs.operations.spread.Goals as goal

pub returns-then-v-half : goal.returns-then-v-half
returns-then-v-half c =
    let below : c.args.v < 2 ^ (c.args.from - 1) = omega arith in
    spread-low c.args.w c.args.from c.args.v c.requires.width c.requires.from below

pub returns-else-v-half : goal.returns-else-v-half
returns-else-v-half c =
    let high : 2 ^ (c.args.from - 1) ≤ c.args.v = omega arith in
    c.low.ensures.value ∙ spread-high c.args.w c.args.from c.args.v c.above.result c.requires.width c.requires.from high c.requires.below c.above.ensures
