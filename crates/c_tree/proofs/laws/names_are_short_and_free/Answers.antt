use Rattle.std.proofs.Common.{refl}
use Rattle.c_tree.specs.Names.{is_name, is_reserved}
use Rattle.c_tree.proofs.laws.names_are_short_and_free.Goals as goal

pub returns-clause-empty : goal.returns-clause-empty
unfolding is_name is_reserved
returns-clause-empty c = refl

pub returns-clause-word : goal.returns-clause-word
unfolding is_name is_reserved
returns-clause-word c = refl

pub returns-clause-free : goal.returns-clause-free
unfolding is_name is_reserved
returns-clause-free c = refl

pub returns-clause-digit : goal.returns-clause-digit
unfolding is_name is_reserved
returns-clause-digit c = refl

pub returns-clause-long : goal.returns-clause-long
unfolding is_name is_reserved
returns-clause-long c = refl

pub returns-clause-longest : goal.returns-clause-longest
unfolding is_name is_reserved
returns-clause-longest c = refl
