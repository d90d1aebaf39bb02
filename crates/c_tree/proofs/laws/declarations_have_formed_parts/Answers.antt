use Rattle.std.proofs.Common.{◌≡◌, Bool, true, false, ◌&&◌, rules, refl}
use Rattle.c_tree.specs.declared.tree.Expr.{the_lemmas}
use Rattle.c_tree.proofs.laws.declarations_have_formed_parts.Goals as goal

and_false : (t : Bool) → (t && false) ≡ false
and_false true = refl
and_false false = refl

pub returns-clause-stars : goal.returns-clause-stars
returns-clause-stars c = λ place. (search (rules, the_lemmas), search (rules, the_lemmas, and_false))
