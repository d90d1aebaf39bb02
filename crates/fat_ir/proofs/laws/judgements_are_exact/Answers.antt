use Rattle.fat_ir.proofs.Judgements.{passes-within, within-passed}
use Rattle.fat_ir.proofs.laws.judgements_are_exact.Goals as goal

pub returns-clause-within : goal.returns-clause-within
returns-clause-within c = λ symbols value size bounds write place s p b e d inside. passes-within (s.values value) (s.values bounds) p b record { place = place; write = write; size = size } s e d inside

pub returns-clause-passed : goal.returns-clause-passed
returns-clause-passed c = λ symbols value size bounds write place s t going e.
    let passed = within-passed (s.values value) (s.values bounds) record { place = place; write = write; size = size } s t going e in
    (passed.p, (passed.b, passed.number, passed.pair, passed.low, passed.high))
