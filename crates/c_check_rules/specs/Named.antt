-- Where the last item of a name stands in a list of items, and how that is kept while items come and go at the end.
use Rattle.std.specs.Prelude.{◌≡◌, ℕ, ◌+◌, if◌then◌else◌, List, [], ◌∷◌, ◌++◌, Option, None, Some}
use Rattle.std.specs.Str.{bytes_eq}
use Rattle.std.specs.Global.{Global}
use Rattle.std.specs.Map.{lookup}
use Rattle.std.specs.declared.vec.Vec.{Vec}

-- the last place of a name in a list of names, whose first place is `at`; `found` where it has none
abbrev pub last_at : List ℕ → List (List ℕ) → (at : ℕ) → (found : Option ℕ) → Option ℕ
last_at name [] at found = found
last_at name (n ∷ more) at found = last_at name more (at + 1) (if bytes_eq n name then Some at else found)

-- of each name, behind those before it, where the last one like it stands before it
abbrev pub earlier : (before : List (List ℕ)) → List (List ℕ) → List (Option ℕ)
earlier before [] = []
earlier before (n ∷ more) = last_at n before 0 None ∷ earlier (before ++ n ∷ []) more

-- the place that is noted for a name
abbrev pub or_none : Option (Option ℕ) → Option ℕ
or_none None = None
or_none (Some place) = place

abbrev pub Places : Type 0
Places = List (Vec ℕ Global × Option ℕ)

abbrev pub noted_at : List ℕ → Places → Option ℕ
noted_at name places = or_none (lookup (λ n. bytes_eq name n.items) places)

-- of each of these names it is known where the last one like it stands before it, and of every name where its last one stands
pub record IsIndex (names : List (List ℕ)) (hidden : List (Option ℕ)) (places : Places) : Type 0 where
  pub before : hidden ≡ earlier [] names
  pub last : (name : List ℕ) → noted_at name places ≡ last_at name names 0 None
