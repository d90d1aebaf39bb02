use Rattle.std.proofs.Common.{◌≡◌, arith, rules}
use Rattle.std.specs.List.{AllByRecursion}
use Rattle.std.proofs.lemmas.Grind.{common_steps}
use Rattle.c_reader.specs.EarlyForm.{InRange}
use Rattle.x86_lower.specs.EarlyProgram.{bytes_of}
use Rattle.x86_lower.proofs.EarlyBytes.{bytes_run}
use Rattle.x86_lower.proofs.EarlyGuard.{bytes_guarded}
use Rattle.x86_lower.proofs.early.lower_early.Goals as goal

pub returns-clause-checked : goal.returns-clause-checked
returns-clause-checked c =
    let e = c.args.e.now in
    let is : c.push_end.new.out.items ≡ bytes_of e.size e.acts.items e.code = grind (arith, common_steps) in
    let ranges : AllByRecursion InRange e.acts.items = grind (arith, common_steps) in
    rw is (bytes_guarded e.size e.acts.items e.code c.requires.some c.requires.most (search rules) ranges)

pub returns-clause-effect : goal.returns-clause-effect
returns-clause-effect c =
    let e = c.args.e.now in
    let is : c.push_end.new.out.items ≡ bytes_of e.size e.acts.items e.code = grind (arith, common_steps) in
    let ranges : AllByRecursion InRange e.acts.items = grind (arith, common_steps) in
    rw is (bytes_run e.size e.acts.items e.code c.requires.some c.requires.most (search rules) ranges)
