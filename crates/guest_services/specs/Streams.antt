-- What is put into a sink whole, and taken from a source a byte at a time.
use Rattle.std.specs.Prelude.{◌≡◌, ℕ, ◌<◌, length, Option, None, Some, Result, Ok, Err, List, [], ◌∷◌}
use Rattle.mx_base.specs.Outside.{Adds, AddsFront, HasRisen}

-- what putting bytes leaves in a sink, and in its count of faults: only where there are bytes to put can it fail
abbrev pub PutsAll : {E : Type 0} → Option (List ℕ) → Option (List ℕ) → ℕ → ℕ → List ℕ → Result (Unit {0}) E → Type 0
PutsAll held held' faults faults' bytes (Ok done) = Adds held held' bytes × (faults' ≡ faults)
PutsAll held held' faults faults' bytes (Err e) = (0 < length bytes) × AddsFront held held' bytes × HasRisen faults faults'

-- nothing that is told speaks against these bytes
abbrev pub MayTell : Option (List ℕ) → List ℕ → Type 0
MayTell None bytes = Unit {0}
MayTell (Some told) bytes = told ≡ bytes

-- these bytes are left, where it was told what was there before
abbrev pub Leaves : Option (List ℕ) → Option (List ℕ) → List ℕ → Type 0
Leaves None new rest = Unit {0}
Leaves (Some told) new rest = new ≡ Some rest

-- what taking a byte answers and leaves
abbrev pub Gets : {E : Type 0} → Option (List ℕ) → Option (List ℕ) → Result (Option ℕ) E → Type 0
Gets old new (Ok None) = MayTell old [] × Leaves old new []
Gets old new (Ok (Some b)) = (rest : List ℕ) × MayTell old (b ∷ rest) × Leaves old new rest
Gets old new (Err e) = new ≡ old
