-- Objects that differ in how large their instrumented code is.
use Rattle.std.specs.Prelude.{◌≡◌, true, List, [], ◌∷◌, length}
use Rattle.obj_file.specs.declared.object.Object.{Object}

-- of the same kind, with as much data, and where they are legacy objects with as much code
pub record IsAlike (o p : Object) : Type 0 where
  pub legacy : p.legacy ≡ o.legacy
  pub stored : length p.stored ≡ length o.stored
  pub code : o.legacy ≡ true → length p.code ≡ length o.code

abbrev pub AreAlike : List Object → List Object → Type 0
AreAlike [] [] = Unit {0}
AreAlike [] (p ∷ ps) = ⊥
AreAlike (o ∷ os) [] = ⊥
AreAlike (o ∷ os) (p ∷ ps) = IsAlike o p × AreAlike os ps
