use Rattle.std.proofs.Common.{◌≡◌, suc, ap, refl, List, [], ◌∷◌, length, map, rules}
use Rattle.c_tree.specs.declared.tree.Init.{Init, the_lemmas}
use Rattle.c_check_statements.specs.Initialisers.{fills}
use Rattle.c_check.proofs.laws.initialisers_are_walked_by_their_parts.Goals as goal

as_many : (all : List Init) → length (map fills all) ≡ length all
as_many [] = refl
as_many (x ∷ more) = ap suc (as_many more)

pub returns-clause-one : goal.returns-clause-one
returns-clause-one c = λ place x filled target. search (rules, the_lemmas)

pub returns-clause-many : goal.returns-clause-many
returns-clause-many c = λ place all filled target. search (rules, the_lemmas, as_many)
