use Rattle.std.proofs.Common.{◌≡◌, ◌∙◌, sym, rules, string_bytes}
use Rattle.mpx_words.proofs.Meanings.{two_words, apart_words}
use Rattle.mpx_words.proofs.command.behind.Goals as goal

pub returns-then-eq : goal.returns-then-eq
returns-then-eq c =
    let two = two_words string_bytes c.args.words.now c.index-words-0.result c.index-words-1.result c.if-words-ne2.false c.index-words-0.is c.index-words-1.is in
    let named : c.as_str.result.now ≡ c.args.name.now = search rules in
    let first = c.as_str.ensures.value in
    let word = c.as_str-word.ensures.value in
    cc

pub returns-else-eq : goal.returns-else-eq
returns-else-eq c = λ word e.
    let two = two_words string_bytes c.args.words.now c.index-words-0.result c.index-words-1.result c.if-words-ne2.false c.index-words-0.is c.index-words-1.is in
    let first = c.as_str.ensures.value in
    let same : c.as_str.result.now ≡ c.args.name.now = cc in apart_words _ _ (sym c.eq.ensures ∙ c.if-eq.false) same
