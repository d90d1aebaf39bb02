-- Parts of a variable, by where the variable stands.
use Rattle.std.specs.Prelude.{ℕ, zero, suc, ◌+◌, true, false, List, [], ◌∷◌, map}
use Rattle.mx_base.specs.declared.numbers.IntKind.{IntKind}
use Rattle.mx_base.specs.declared.numbers.IntKind.TheVariants.{U64}
use Rattle.mx_base.specs.declared.places.Place.{Place}
use Rattle.fat_ir.specs.declared.step.FatStep.{FatStep}
use Rattle.fat_ir.specs.declared.step.FatStep.TheVariants as s
use Rattle.bounds_plan.specs.meaning.Core.{Word, Null, Effect, Scalar}
use Rattle.bounds_plan.specs.steps.Code.{code_ptr, offset_by, copied, copied_all}
use Rattle.bounds_plan.specs.elaboration.Scalars.{scalar_at}
use Rattle.bounds_plan.specs.elaboration.Types.{Numeric, Address, ANumber, APointer}
use Rattle.bounds_plan.specs.elaboration.Places.{written_as, address_in}
use Rattle.bounds_plan.specs.elaboration.Expressions.{Found, effect_of}
use Rattle.bounds_plan.specs.elaboration.Initialisers.{part_at, zero_written}
use Rattle.steps_facts.specs.declared.seen.Sorted.{Sorted}
use Rattle.steps_facts.specs.declared.knows.Standing.{Standing}
use Rattle.steps_facts.specs.Seen.{is_number, spot_of}
use Rattle.steps_facts.specs.Around.{standing_at}
use Rattle.steps_pieces.specs.Put.{Put, added, went_given}
use Rattle.steps_pieces.specs.Wanted.{code_lvalue, given_number}
use Rattle.steps_pieces.specs.Own.{storing, value_at}

-- so many bytes further than the address in d
abbrev pub further : (offset : ℕ) → (d : ℕ) → List FatStep
further zero d = []
further (suc n) d = offset_by (suc n) d d (d + 2)

-- the address of a part, which a private variable has not; and with the null pointer for that
unfoldable pub part_own : Standing → (offset : ℕ) → (d : ℕ) → List FatStep
part_own at offset d = code_lvalue (part_at offset (standing_at at)) d 0

unfoldable pub address_own : Standing → (offset : ℕ) → (d : ℕ) → List FatStep
address_own at offset d = code_ptr (address_in (part_at offset (standing_at at))) d 0

-- a number, or the null pointer, becomes what stands at an offset, and scalars there become 0
abbrev pub number_filled : IntKind → Standing → (offset : ℕ) → Place → (n : ℕ) → Effect
number_filled kind at offset place n = effect_of (written_as (ANumber kind) place (part_at offset (standing_at at)) (Numeric (Word n)))

abbrev pub null_filled : Standing → (offset : ℕ) → Place → Effect
null_filled at offset place = effect_of (written_as APointer place (part_at offset (standing_at at)) (Address Null))

abbrev pub zeros_filled : Standing → (offset : ℕ) → Place → List Scalar → List Effect
zeros_filled at offset place scalars = map (zero_written place (standing_at at)) (map (scalar_at offset) scalars)

-- what is found of an expression is written where a scalar of a sort stands
unfoldable pub went_scalar : Sorted → Standing → (offset : ℕ) → Place → Found → (d : ℕ) → Put → Put
went_scalar sort at offset place f d s = added (storing (spot_of (standing_at at)) sort (given_number sort (is_number f.value)) place d)
    (went_given sort f (value_at (spot_of (standing_at at)) d) (added (part_own at offset d) s))

-- the scalars of the struct at d + 2 are copied to the one at d, one after another
abbrev pub went_copies : List Scalar → (d : ℕ) → Put → Put
went_copies [] d s = s
went_copies (x ∷ rest) d s = went_copies rest d (added (copied x.offset x.kind d) s)

-- the same, once both accesses are judged
unfoldable pub copying : (size : ℕ) → List Scalar → (to from : Place) → (d : ℕ) → List FatStep
copying size scalars to from d = s.Extend (d + 2) (d + 2) U64 ∷ s.Judge (d + 2) size (d + 2 + 1) false from ∷ s.Extend d d U64
    ∷ s.Judge d size (d + 1) true to ∷ copied_all scalars d
