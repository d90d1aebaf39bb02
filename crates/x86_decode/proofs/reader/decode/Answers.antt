use Rattle.std.proofs.Common.{◌∙◌, sym, arith}
use Rattle.x86_decode.proofs.Again.{BeginsWith-run}
use Rattle.x86_decode.proofs.Decodes.{bytes_all, ok-says, undefined-says, short-says, says-undefined, says-short}
use Rattle.x86_decode.proofs.reader.decode.Goals as goal

pub returns : goal.returns
returns c = let a = bytes_all c.args.bytes.now (λ i. omega (arith, c.type_inv.bytes i)) in record {
  found = λ i n. (λ e. ok-says c.args.bytes.now i n a (sym c.answer.ensures ∙ e), λ b. c.answer.ensures ∙ BeginsWith-run c.args.bytes.now i n b);
  undefined = (λ e. undefined-says c.args.bytes.now (sym c.answer.ensures ∙ e), λ b. c.answer.ensures ∙ says-undefined c.args.bytes.now a b);
  short = λ need. (λ e. short-says c.args.bytes.now need a (sym c.answer.ensures ∙ e), λ b. c.answer.ensures ∙ says-short c.args.bytes.now need a b);
}
