use Rattle.std.proofs.Common.{arith, ◌<◌, ◌≤◌, length}
use Rattle.mpx_words.proofs.Formed.{loaded_few, loaded_many}
use Rattle.mpx_words.proofs.load.load_bytes.Goals as goal

pub returns-in-Ok-Some-clause-loads : goal.returns-in-Ok-Some-clause-loads
returns-in-Ok-Some-clause-loads g c =
    let few : length c.in-Ok-Some.bytes.items < 536870913 = omega (arith, c.in-Ok-Some.bytes.ok, c.len.ensures, c.if-len-lt-ENOUGH.true) in
    loaded_few _ _ _ c.in-Ok-Some.bytes c.in-Ok-Some.is c.in-Ok-Some.field-0-is c.read_front.ensures.bytes few

pub returns-in-Ok-Some-2-clause-loads : goal.returns-in-Ok-Some-2-clause-loads
returns-in-Ok-Some-2-clause-loads g c =
    let many : 536870913 ≤ length c.in-Ok-Some.bytes.items = omega (arith, c.in-Ok-Some.bytes.ok, c.len.ensures, c.if-len-lt-ENOUGH.false) in
    loaded_many _ _ _ c.in-Ok-Some.bytes c.in-Ok-Some.is c.in-Ok-Some.field-0-is c.read_front.ensures.bytes many
