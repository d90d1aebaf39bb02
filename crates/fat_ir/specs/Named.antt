-- Which values a step names.
use Rattle.std.specs.Prelude.{ℕ, Option, None, Some, List, [], ◌∷◌, ◌++◌}
use Rattle.fat_ir.specs.declared.step.FatStep.{FatStep}
use Rattle.fat_ir.specs.declared.step.FatStep.TheVariants.{Const, Copy, Arith, Compare, Extend, Place, Make, Meet, Bound, Judge, Load, Store, LoadPtr, StorePtr, Label, Jump, JumpIf, Call, Service, Give}

abbrev pub maybe : Option ℕ → List ℕ
maybe None = []
maybe (Some v) = v ∷ []

abbrev pub in_arguments : List (ℕ × Option ℕ) → List ℕ
in_arguments [] = []
in_arguments (a ∷ rest) = a.0 ∷ maybe a.1 ++ in_arguments rest

-- the values that a step reads
abbrev pub reads : FatStep → List ℕ
reads (Const to n) = []
reads (Copy to from) = from ∷ []
reads (Arith to op kind a b) = a ∷ b ∷ []
reads (Compare to op kind a b) = a ∷ b ∷ []
reads (Extend to from kind) = from ∷ []
reads (Place to bounds symbol offset size) = []
reads (Make to p n) = p ∷ n ∷ []
reads (Meet to a b) = a ∷ b ∷ []
reads (Bound to from upper) = from ∷ []
reads (Judge value size bounds write place) = value ∷ bounds ∷ []
reads (Load p to kind) = p ∷ []
reads (Store p from kind) = p ∷ from ∷ []
reads (LoadPtr p to bounds) = p ∷ []
reads (StorePtr p from bounds) = p ∷ from ∷ bounds ∷ []
reads (Label n) = []
reads (Jump n) = []
reads (JumpIf from n) = from ∷ []
reads (Call symbol args to bounds) = in_arguments args
reads (Service service arg to) = maybe arg
reads (Give from bounds) = maybe from ++ maybe bounds

-- the values that a step may write
abbrev pub writes : FatStep → List ℕ
writes (Const to n) = to ∷ []
writes (Copy to from) = to ∷ []
writes (Arith to op kind a b) = to ∷ []
writes (Compare to op kind a b) = to ∷ []
writes (Extend to from kind) = to ∷ []
writes (Place to bounds symbol offset size) = to ∷ bounds ∷ []
writes (Make to p n) = to ∷ []
writes (Meet to a b) = to ∷ []
writes (Bound to from upper) = to ∷ []
writes (Judge value size bounds write place) = []
writes (Load p to kind) = to ∷ []
writes (Store p from kind) = []
writes (LoadPtr p to bounds) = to ∷ bounds ∷ []
writes (StorePtr p from bounds) = []
writes (Label n) = []
writes (Jump n) = []
writes (JumpIf from n) = []
writes (Call symbol args to bounds) = maybe to ++ maybe bounds
writes (Service service arg to) = maybe to
writes (Give from bounds) = []
