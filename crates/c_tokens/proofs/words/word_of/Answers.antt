-- A word of five letters or more is the text that its bytes spell.
use Rattle.std.proofs.Common.{◌≡◌, ℕ, List, length, sym, ap, arith, rules}
use Rattle.std.specs.Prelude.{codes}
use Rattle.std.proofs.lemmas.Slice.Eq.{HasBytesAt, text_from_reads}
use Rattle.c_tokens.specs.Words.{word_of}
use Rattle.c_tokens.proofs.words.word_of.Goals as goal

word_of_spelled : (text spelling : List ℕ) → length text ≡ length spelling → HasBytesAt text 0 spelling → word_of spelling ≡ word_of text
word_of_spelled text spelling same_length bytes = sym (ap word_of (text_from_reads text spelling same_length bytes))

pub returns-in-short : goal.returns-in-short
unfolding word_of
returns-in-short c = word_of_spelled c.args.text.now (codes "short") (omega arith) (search rules)

pub returns-in-while : goal.returns-in-while
unfolding word_of
returns-in-while c = word_of_spelled c.args.text.now (codes "while") (omega arith) (search rules)

pub returns-in-break : goal.returns-in-break
unfolding word_of
returns-in-break c = word_of_spelled c.args.text.now (codes "break") (omega arith) (search rules)

pub returns-in-signed : goal.returns-in-signed
unfolding word_of
returns-in-signed c = word_of_spelled c.args.text.now (codes "signed") (omega arith) (search rules)

pub returns-in-sizeof : goal.returns-in-sizeof
unfolding word_of
returns-in-sizeof c = word_of_spelled c.args.text.now (codes "sizeof") (omega arith) (search rules)

pub returns-in-struct : goal.returns-in-struct
unfolding word_of
returns-in-struct c = word_of_spelled c.args.text.now (codes "struct") (omega arith) (search rules)

pub returns-in-extern : goal.returns-in-extern
unfolding word_of
returns-in-extern c = word_of_spelled c.args.text.now (codes "extern") (omega arith) (search rules)

pub returns-in-return : goal.returns-in-return
unfolding word_of
returns-in-return c = word_of_spelled c.args.text.now (codes "return") (omega arith) (search rules)

pub returns-in-unsigned : goal.returns-in-unsigned
unfolding word_of
returns-in-unsigned c = word_of_spelled c.args.text.now (codes "unsigned") (omega arith) (search rules)

pub returns-in-continue : goal.returns-in-continue
unfolding word_of
returns-in-continue c = word_of_spelled c.args.text.now (codes "continue") (omega arith) (search rules)
