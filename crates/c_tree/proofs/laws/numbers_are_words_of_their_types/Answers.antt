use Rattle.std.proofs.Common.{refl}
use Rattle.mx_base.specs.Numbers.{extended, word_of, value_of, residue, number_of, as_signed}
use Rattle.c_tree.proofs.laws.numbers_are_words_of_their_types.Goals as goal

pub returns-clause-narrow : goal.returns-clause-narrow
returns-clause-narrow c = λ n. (refl, refl, refl, refl)

pub returns-clause-signed : goal.returns-clause-signed
unfolding extended word_of value_of residue number_of as_signed
returns-clause-signed c = (refl, refl, refl)

pub returns-clause-unsigned : goal.returns-clause-unsigned
unfolding extended word_of value_of residue number_of as_signed
returns-clause-unsigned c = (refl, refl)

pub returns-clause-long : goal.returns-clause-long
unfolding extended word_of value_of residue number_of as_signed
returns-clause-long c = (refl, refl, refl)
