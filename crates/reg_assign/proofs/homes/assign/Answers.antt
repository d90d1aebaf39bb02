use Rattle.std.proofs.Common.{true, subst, sym}
use Rattle.reg_assign.specs.Wishing.{StandAhead}
use Rattle.reg_assign.proofs.Assigning.{assigned_by, granted_by}
use Rattle.reg_assign.proofs.homes.assign.Goals as goal

pub place_values-requires-2-clause-ahead : goal.place_values-requires-2-clause-ahead
place_values-requires-2-clause-ahead c = subst (StandAhead c.args.fun.now c.in_ok-lives.lives true) (sym c.as_slice-5.ensures) c.in_ok-lives.ensures.bounds

pub returns-clause-homes : goal.returns-clause-homes
returns-clause-homes c = assigned_by c.args.fun.now c.in_ok-lives.lives c.in_ok-lives.ensures.spans c.args.wishes.now c.requires.wishes
    c.as_slice-3.result.now c.as_slice-5.result.now c.as_slice-3.ensures c.as_slice-5.ensures
    c.in_ok-numbers.numbers c.in_ok-bounds.bounds c.in_ok-numbers.ensures.placed c.in_ok-bounds.ensures.placed
    c.slots_of-words.result c.slots_of-pairs.result c.slots_of-words.ensures.few c.slots_of-pairs.ensures.few
    c.as_slice-6.result.now c.as_slice-7.result.now c.as_slice-8.result.now c.as_slice-9.result.now
    c.as_slice-6.ensures c.as_slice-7.ensures c.as_slice-8.ensures c.as_slice-9.ensures
    c.slots_of-words.ensures.all c.slots_of-pairs.ensures.all c.in_ok-homes.homes c.in_ok-homes.ensures

pub returns-clause-granted : goal.returns-clause-granted
returns-clause-granted c = granted_by c.args.fun.now c.in_ok-lives.lives c.in_ok-lives.ensures.spans c.args.wishes.now c.requires.wishes
    c.as_slice-3.result.now c.as_slice-5.result.now c.as_slice-3.ensures c.as_slice-5.ensures
    c.in_ok-numbers.numbers c.in_ok-bounds.bounds c.in_ok-numbers.ensures.placed c.in_ok-bounds.ensures.placed
    c.slots_of-words.result c.slots_of-pairs.result c.slots_of-words.ensures.few c.slots_of-pairs.ensures.few
    c.as_slice-6.result.now c.as_slice-7.result.now c.as_slice-8.result.now c.as_slice-9.result.now
    c.as_slice-6.ensures c.as_slice-7.ensures c.as_slice-8.ensures c.as_slice-9.ensures
    c.slots_of-words.ensures.all c.slots_of-pairs.ensures.all c.in_ok-homes.homes c.in_ok-homes.ensures
