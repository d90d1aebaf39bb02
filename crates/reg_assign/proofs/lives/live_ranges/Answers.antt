use Rattle.reg_assign.proofs.Lived.{numbers_ahead, bounds_ahead}
use Rattle.reg_assign.proofs.lives.live_ranges.Goals as goal

pub returns-clause-numbers : goal.returns-clause-numbers
returns-clause-numbers c = numbers_ahead c.args.fun.now c.in_ok-lives.lives c.args.wishes.now c.in_ok-lives.ensures c.requires.assignable c.requires.wishes

pub returns-clause-bounds : goal.returns-clause-bounds
returns-clause-bounds c = bounds_ahead c.args.fun.now c.in_ok-lives.lives c.args.wishes.now c.in_ok-lives.ensures c.requires.assignable c.requires.wishes
