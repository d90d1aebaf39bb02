-- The steps of what is wanted of an expression, its value or the address of its place, and those that finish them.
use Rattle.std.specs.Prelude.{ℕ, ◌+◌, Bool, true, false, if◌then◌else◌, List, [], ◌∷◌, ◌++◌}
use Rattle.mx_base.specs.declared.numbers.IntKind.{IntKind}
use Rattle.mx_base.specs.declared.places.Place.{Place}
use Rattle.mx_base.specs.Numbers.{size_of}
use Rattle.fat_ir.specs.declared.step.FatStep.{FatStep}
use Rattle.fat_ir.specs.declared.step.FatStep.TheVariants as s
use Rattle.bounds_plan.specs.steps.Code.{labels, labels_ptr, code, code_ptr, full}
use Rattle.bounds_plan.specs.elaboration.Types.{Value, Numeric, Address, keeps}
use Rattle.bounds_plan.specs.elaboration.Places.{Lvalue, NumberVariable, PointerVariable, InMemory}
use Rattle.bounds_plan.specs.elaboration.Expressions.{Found}
use Rattle.steps_facts.specs.declared.seen.Sorted.{Sorted}
use Rattle.steps_facts.specs.declared.seen.Sorted.TheVariants as o
use Rattle.steps_facts.specs.declared.seen.Spot.{Spot}
use Rattle.steps_facts.specs.declared.seen.Spot.TheVariants as p

abbrev pub code_value : Value → (d l : ℕ) → List FatStep
code_value (Numeric e) d l = code e d l
code_value (Address q) d l = code_ptr q d l

abbrev pub labels_value : Value → ℕ
labels_value (Numeric e) = labels e
labels_value (Address q) = labels_ptr q

-- a private variable has no address
abbrev pub code_lvalue : Lvalue → (d l : ℕ) → List FatStep
code_lvalue (NumberVariable x) d l = []
code_lvalue (PointerVariable x) d l = []
code_lvalue (InMemory q) d l = code_ptr q d l

abbrev pub labels_lvalue : Lvalue → ℕ
labels_lvalue (NumberVariable x) = 0
labels_lvalue (PointerVariable x) = 0
labels_lvalue (InMemory q) = labels_ptr q

-- the address of its place, or the value
abbrev pub code_wanted : (place : Bool) → Found → (d l : ℕ) → List FatStep
code_wanted true f d l = code_lvalue f.lvalue d l
code_wanted false f d l = code_value f.value d l

abbrev pub labels_wanted : (place : Bool) → Found → ℕ
labels_wanted true f = labels_lvalue f.lvalue
labels_wanted false f = labels_value f.value

-- ---- steps that finish

-- a value as an address: an integer gets full bounds
abbrev pub addressing : (number : Bool) → (d : ℕ) → List FatStep
addressing true d = full (d + 1) (d + 2)
addressing false d = []

abbrev pub ending : (place number : Bool) → (d : ℕ) → List FatStep
ending true number d = addressing number d
ending false number d = []

-- a number in another type
abbrev pub extending : (from to : IntKind) → (d : ℕ) → List FatStep
extending from to d = if keeps from to then [] else (s.Extend d d to ∷ [])

-- what is read at the address in d
abbrev pub loading : Sorted → Place → (d : ℕ) → List FatStep
loading (o.Number kind) place d = s.Judge d (size_of kind) (d + 1) false place ∷ s.Load d d kind ∷ []
loading o.Pointer place d = s.Judge d 8 (d + 1) false place ∷ s.LoadPtr d d (d + 1) ∷ []
loading o.Whole place d = []
loading o.Nothing place d = []

abbrev pub reading : Spot → Sorted → Place → (d : ℕ) → List FatStep
reading (p.Number x) sort place d = s.Copy d x ∷ []
reading (p.Pointer x) sort place d = s.Copy d x ∷ s.Copy (d + 1) (x + 1) ∷ []
reading p.Memory sort place d = loading sort place d

abbrev pub read_unless : (wanted : Bool) → Spot → Sorted → Place → (d : ℕ) → List FatStep
read_unless true spot sort place d = []
read_unless false spot sort place d = reading spot sort place d

-- whether what is read is a number
abbrev pub loads_number : Sorted → Bool
loads_number (o.Number kind) = true
loads_number o.Pointer = false
loads_number o.Whole = false
loads_number o.Nothing = false

abbrev pub reads_number : Spot → Sorted → Bool
reads_number (p.Number x) sort = true
reads_number (p.Pointer x) sort = false
reads_number p.Memory sort = loads_number sort

-- the null pointer
abbrev pub null_at : (d : ℕ) → List FatStep
null_at d = s.Const d 0 ∷ s.Make (d + 1) d d ∷ []

-- ---- a value where one of a sort is wanted: a number is converted to it, and of a pointer the only number that may stand there is 0

abbrev pub code_pointer : Value → (d l : ℕ) → List FatStep
code_pointer (Numeric e) d l = null_at d
code_pointer (Address q) d l = code_ptr q d l

abbrev pub labels_pointer : Value → ℕ
labels_pointer (Numeric e) = 0
labels_pointer (Address q) = labels_ptr q

abbrev pub code_given : (to : Sorted) → (from : IntKind) → Value → (d l : ℕ) → List FatStep
code_given (o.Number kind) from v d l = code_value v d l ++ extending from kind d
code_given o.Pointer from v d l = code_pointer v d l
code_given o.Whole from v d l = code_value v d l
code_given o.Nothing from v d l = code_value v d l

abbrev pub labels_given : (to : Sorted) → Value → ℕ
labels_given (o.Number kind) v = labels_value v
labels_given o.Pointer v = labels_pointer v
labels_given o.Whole v = labels_value v
labels_given o.Nothing v = labels_value v

abbrev pub given_number : (to : Sorted) → (number : Bool) → Bool
given_number (o.Number kind) number = true
given_number o.Pointer number = false
given_number o.Whole number = number
given_number o.Nothing number = number
