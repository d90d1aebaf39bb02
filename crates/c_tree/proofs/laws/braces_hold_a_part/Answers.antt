use Rattle.std.proofs.Common.{◌≡◌, Bool, true, false, ◌&&◌, rules, refl}
use Rattle.c_tree.specs.declared.tree.Init.{the_lemmas}
use Rattle.c_tree.proofs.laws.braces_hold_a_part.Goals as goal

and_false : (t : Bool) → (t && false) ≡ false
and_false true = refl
and_false false = refl

pub returns : goal.returns
returns c = λ place. search (rules, the_lemmas, and_false)
