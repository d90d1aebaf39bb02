use Rattle.std.proofs.Common.{◌∙◌, sym, ap, cond, Some, None}
use Rattle.std.proofs.lemmas.Bool.{lt-ltb, le-ltb}
use Rattle.assembler.proofs.UseLemmas.{earlier_mark}
use Rattle.assembler.proofs.labels.Labels.earlier.Goals as goal

pub returns-in-Some : goal.returns-in-Some
returns-in-Some c =
    sym (ap (λ b. cond b (Some c.in-Some.m) None) (lt-ltb c.in-Some.m.line c.args.line c.if-m-line.true))
    ∙ earlier_mark c.args.self.now c.args.name.now c.args.line (Some c.in-Some.m) c.requires c.in-Some.ensures

pub returns-in_default : goal.returns-in_default
returns-in_default c =
    sym (ap (λ b. cond b (Some c.in-Some.m) None) (le-ltb c.in-Some.m.line c.args.line c.if-m-line.false))
    ∙ earlier_mark c.args.self.now c.args.name.now c.args.line (Some c.in-Some.m) c.requires c.in-Some.ensures

pub returns-in_default-2 : goal.returns-in_default-2
returns-in_default-2 c = earlier_mark c.args.self.now c.args.name.now c.args.line None c.requires c.in_default.ensures
