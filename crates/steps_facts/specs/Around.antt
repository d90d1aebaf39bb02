-- What is around a function, as it is asked for while its steps are put down.
use Rattle.std.specs.Prelude.{◌≡◌, ℕ, ◌+◌, ◌==◌, ◌&&◌, Bool, Option, None, Some, List, [], ◌∷◌, map, length, slice_get, slice_index_or}
use Rattle.narrowing.specs.declared.member.Rule.{Rule}
use Rattle.narrowing.specs.Member.{member_rule}
use Rattle.c_types.specs.Types.{CType, Types, type_at, IsIn, members_of}
use Rattle.bounds_plan.specs.meaning.Core.{Null, InFrame, Scalar}
use Rattle.bounds_plan.specs.elaboration.Types.{sort_of}
use Rattle.bounds_plan.specs.elaboration.Source.{Around, Signature}
use Rattle.bounds_plan.specs.elaboration.Places.{Lvalue, NumberVariable, PointerVariable, InMemory, offset_in, place_among}
use Rattle.steps_facts.specs.declared.seen.Sorted.{Sorted}
use Rattle.steps_facts.specs.declared.knows.Part.{Part}
use Rattle.steps_facts.specs.declared.knows.ScalarAt.{ScalarAt}
use Rattle.steps_facts.specs.declared.knows.Standing.{Standing}
use Rattle.steps_facts.specs.declared.knows.Standing.TheVariants as t
use Rattle.steps_facts.specs.Seen.{sorted}

-- ---- variables

abbrev pub standing_at : Standing → Lvalue
standing_at (t.Number x) = NumberVariable x
standing_at (t.Pointer x) = PointerVariable x
standing_at (t.Frame offset size) = InMemory (InFrame offset size)
standing_at t.Nowhere = InMemory Null

-- ---- functions: the sorts of the parameters of one

abbrev pub sorts_of : List CType → List Sorted
sorts_of [] = []
sorts_of (t ∷ ts) = sorted (sort_of t) ∷ sorts_of ts

abbrev pub parameters_of : Option Signature → Option (List Sorted)
parameters_of None = None
parameters_of (Some signature) = Some (sorts_of signature.parameters)

abbrev pub parameters_at : Around → (number : ℕ) → Option (List Sorted)
parameters_at around number = parameters_of (slice_get around.signatures number)

-- ---- members

-- the how-manieth member of a name
abbrev pub index_of : Around → (owner : ℕ) → List ℕ → ℕ
index_of around owner name = place_among (slice_index_or around.members owner []) name

abbrev pub OffsetIs : Around → (owner : ℕ) → List ℕ → ℕ → Type 0
OffsetIs around owner name offset = offset ≡ offset_in around.structs owner (index_of around owner name)

-- whether it is the last one and an array
abbrev pub trails : Around → (owner index : ℕ) → (array : Bool) → Bool
trails around owner index array = index + 1 == length (members_of around.structs owner) && array

abbrev pub RuleIs : Around → (owner : ℕ) → List ℕ → (size : ℕ) → (array : Bool) → Rule → Type 0
RuleIs around owner name size array rule = rule ≡ member_rule around.flags (index_of around owner name == 0) (trails around owner (index_of around owner name) array)
    (offset_in around.structs owner (index_of around owner name)) size

-- members with their types and offsets
abbrev pub part_types : Types → List Part → List CType
part_types table parts = map (λ (p : Part). type_at table p.kind) parts

abbrev pub part_offsets : List Part → List ℕ
part_offsets parts = map (λ (p : Part). p.offset) parts

abbrev pub IsPart : Types → Part → Type 0
IsPart table p = IsIn table p.kind

-- ---- scalars

abbrev pub scalar_of : ScalarAt → Scalar
scalar_of x = record { offset = x.offset; kind = x.kind }

abbrev pub scalars_seen : List ScalarAt → List Scalar
scalars_seen all = map scalar_of all
