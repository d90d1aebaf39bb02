-- What code asks of steps, by homes and spans alone: each value is named within its span, each step writes a number to a number and bounds to
-- bounds, labels of jumps are there, numbers are words, sizes and offsets are below 2^31, and calls and services find values in slots alone.
use Rattle.std.specs.Prelude.{◌≡◌, ℕ, ◌+◌, ◌^◌, ◌<◌, ◌≤◌, Bool, true, false, Option, None, Some, List, [], ◌∷◌, length}
use Rattle.fat_ir.specs.declared.step.FatStep.{FatStep}
use Rattle.fat_ir.specs.declared.step.FatStep.TheVariants as s
use Rattle.fat_ir.specs.Laws.{LacksLabel}
use Rattle.fat_ir.specs.Step.{Located, ObjectAt, FunctionAt}
use Rattle.step_code.specs.declared.homes.Home.TheVariants.{Slot}
use Rattle.step_code.specs.Steps.{Plan}
use Rattle.step_code.specs.Homes.{Apart, IsSlot}

abbrev pub IsLow : Located → Type 0
IsLow (ObjectAt a) = a < 2 ^ 63
IsLow (FunctionAt a) = a < 2 ^ 63

abbrev pub IsSome : Option ℕ → Type 0
IsSome None = ⊥
IsSome (Some v) = Unit {0}

module _ (units : ℕ) (p : Plan) (located : ℕ → Located) (steps : List FatStep) (first last : ℕ → ℕ) (returns : ℕ → Bool) (takes : ℕ → List (ℕ × Option ℕ) → Bool) where
  abbrev pub NamedOf : ℕ → ℕ → Type 0
  NamedOf i x = (first x ≤ i) × (i ≤ last x)

  abbrev pub PlaceFineOf : Option ℕ → Type 0
  PlaceFineOf None = Unit {0}
  PlaceFineOf (Some symbol) = (located symbol ≡ p.located symbol) × IsLow (p.located symbol)

  -- the spare words are no home
  abbrev pub SpareFineOf : Type 0
  SpareFineOf = (p.spare + 1 < units) × ((x : ℕ) → Apart (p.is_bounds x) (p.home x) true (Slot p.spare))

  abbrev pub ArgsFineOf : ℕ → List (ℕ × Option ℕ) → Type 0
  ArgsFineOf i [] = Unit {0}
  ArgsFineOf i ((a, None) ∷ rest) = NamedOf i a × ArgsFineOf i rest
  ArgsFineOf i ((a, Some b) ∷ rest) = NamedOf i a × NamedOf i b × ArgsFineOf i rest

  abbrev pub ToFineOf : ℕ → Option ℕ → Bool → Type 0
  ToFineOf i None sort = Unit {0}
  ToFineOf i (Some v) sort = NamedOf i v × (p.is_bounds v ≡ sort)

  abbrev pub ToNamedOf : ℕ → Option ℕ → Type 0
  ToNamedOf i None = Unit {0}
  ToNamedOf i (Some v) = NamedOf i v

  -- what is asked of a step at place i
  abbrev pub FineStep : ℕ → FatStep → Type 0
  FineStep i (s.Const to n) = NamedOf i to × (p.is_bounds to ≡ false) × (n < 2 ^ 64)
  FineStep i (s.Copy to from) = NamedOf i to × NamedOf i from × (p.is_bounds to ≡ p.is_bounds from)
  FineStep i (s.Arith to op kind a b) = NamedOf i to × NamedOf i a × NamedOf i b × (p.is_bounds to ≡ false)
  FineStep i (s.Judge value size bounds write place) = NamedOf i value × NamedOf i bounds × (1 ≤ size) × (size < 2 ^ 31)
  FineStep i (s.Load q to kind) = NamedOf i q × NamedOf i to × (p.is_bounds to ≡ false)
  FineStep i (s.Store q from kind) = NamedOf i q × NamedOf i from
  FineStep i (s.LoadPtr q to bounds) = NamedOf i q × NamedOf i to × NamedOf i bounds × (p.is_bounds to ≡ false) × (p.is_bounds bounds ≡ true)
  FineStep i (s.StorePtr q from bounds) = NamedOf i q × NamedOf i from × NamedOf i bounds
  FineStep i (s.Extend to from kind) = NamedOf i to × NamedOf i from × (p.is_bounds to ≡ false)
  FineStep i (s.Bound to from upper) = NamedOf i to × NamedOf i from × (p.is_bounds to ≡ false) × SpareFineOf
  FineStep i (s.Compare to op kind a b) = NamedOf i to × NamedOf i a × NamedOf i b × (p.is_bounds to ≡ false)
  FineStep i (s.Meet to a b) = NamedOf i to × NamedOf i a × NamedOf i b × (p.is_bounds to ≡ true) × (p.spare + 3 < units) × ((x : ℕ) → Apart (p.is_bounds x) (p.home x) true (Slot p.spare)) × ((x : ℕ) → Apart (p.is_bounds x) (p.home x) true (Slot (p.spare + 2)))
  FineStep i (s.Make to q m) = NamedOf i to × NamedOf i q × NamedOf i m × (p.is_bounds to ≡ true)
  FineStep i (s.Place to bounds symbol offset size) = NamedOf i to × NamedOf i bounds × (p.is_bounds to ≡ false) × (p.is_bounds bounds ≡ true) × (size < 2 ^ 31) × (offset < 2 ^ 31) × PlaceFineOf symbol
  FineStep i (s.Label n) = Unit {0}
  FineStep i (s.Jump n) = LacksLabel n steps → ⊥
  FineStep i (s.JumpIf from n) = NamedOf i from × (LacksLabel n steps → ⊥)
  FineStep i (s.Call symbol args to bounds) = ArgsFineOf i args × (length args ≤ 6) × ToFineOf i to false × ToFineOf i bounds true × (IsSome bounds → returns symbol ≡ true) × ((x : ℕ) → NamedOf i x → IsSlot (p.home x)) × (takes symbol args ≡ true)
  FineStep i (s.Service service arg to) = ToNamedOf i arg × ToFineOf i to false × ((x : ℕ) → NamedOf i x → IsSlot (p.home x))
  FineStep i (s.Give (Some from) None) = NamedOf i from × (p.pointer ≡ false)
  FineStep i (s.Give (Some from) (Some b)) = NamedOf i from × NamedOf i b
  FineStep i (s.Give None None) = Unit {0}
  FineStep i _ = ⊥

  abbrev pub FineSteps : ℕ → List FatStep → Type 0
  FineSteps i [] = Unit {0}
  FineSteps i (step ∷ is) = FineStep i step × FineSteps (i + 1) is
