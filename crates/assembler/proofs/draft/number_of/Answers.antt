use Rattle.std.proofs.Common.{◌≡◌, arith, rules}
use Rattle.asm_text.specs.Assembly.{number_of}
use Rattle.assembler.proofs.UseLemmas.{number_small}
use Rattle.assembler.proofs.draft.number_of.Goals as goal

pub returns-clause-small : goal.returns-clause-small
returns-clause-small c = let value : c.unwrap_or.result ≡ number_of c.args.symbols.now c.args.name.now = search rules in omega (arith, value, number_small c.args.symbols.now c.args.name.now)
