use Rattle.std.proofs.Common.{sym, ◌<◌, ◌≤◌, ◌-◌, arith}
use Rattle.mx_base.specs.Bounds.{addresses}
use Rattle.seal_watch.proofs.Runs.{high_reached, high_missed}
use Rattle.seal_watch.proofs.sealed.sealed_from_zero.Goals as goal

pub returns-then-left-gt16777217 : goal.returns-then-left-gt16777217
returns-then-left-gt16777217 c =
    let fits : c.args.s.at < addresses = omega arith in
    let past : 0x0100_0001 < c.args.s.size - (0xffff_ffff_ffff_ffff - c.args.s.at) = omega arith in
    sym (high_reached c.args.s fits past)

pub returns-else-left-gt16777217 : goal.returns-else-left-gt16777217
returns-else-left-gt16777217 c =
    let fits : c.args.s.at < addresses = omega arith in
    let past : c.args.s.size - (0xffff_ffff_ffff_ffff - c.args.s.at) ≤ 0x0100_0001 = omega arith in
    sym (high_missed c.args.s fits past)
