-- The members of the structs of a checked source are those of its table.
use Rattle.std.proofs.Common.{◌≡◌, ℕ, zero, suc, ◌+◌, ◌≤◌, ◌<◌, ◌==◌, cond, true, false, List, [], ◌∷◌, map, length, All, refl, sym, ap, ◌∙◌, arith}
use Rattle.std.specs.Prelude.{Option, None, Some, slice_get}
use Rattle.std.proofs.lemmas.Bool.Decides.{nat_tests}
use Rattle.c_types.specs.declared.shape.TypeId.{TypeId}
use Rattle.c_types.specs.Types.{CType, StructType, Types, type_at, structs_of, members_of}
use Rattle.c_types.specs.Layouts.{CanStand}
use Rattle.c_check_rules.specs.declared.names.StructInfo.{StructInfo}
use Rattle.c_check_rules.specs.declared.names.Member.{Member}
use Rattle.c_check_statements.specs.Structs.{kinds_in}
use Rattle.c_check.specs.declared.checked.CheckedStruct.{CheckedStruct}
use Rattle.c_check.specs.Checked.{AreStructs}
use Rattle.c_check.specs.Standing.{structs_from, structs_seen, AreLaid}
use Rattle.place_plan.specs.Members.{known_members, AreKnown}

-- ---- the structs that are seen

abbrev kinds_or_none : Option StructInfo → List CType
kinds_or_none None = []
kinds_or_none (Some s) = kinds_in s.members

abbrev seen_as : ℕ → StructInfo → StructType
seen_as number s = record { number = number; members = kinds_in s.members }

first_is : (number : ℕ) (s : StructInfo) (earlier : List StructType) → members_of (seen_as number s ∷ earlier) number ≡ kinds_in s.members
first_is number s earlier = let same : (number == number) ≡ true = grind (arith, nat_tests) in ap (λ b. cond b (kinds_in s.members) (members_of earlier number)) same

other_is : (number n : ℕ) (s : StructInfo) (earlier : List StructType) → (number ≡ n → ⊥) → members_of (seen_as number s ∷ earlier) n ≡ members_of earlier n
other_is number n s earlier differ = let other : (number == n) ≡ false = grind (arith, nat_tests, differ) in ap (λ b. cond b (kinds_in s.members) (members_of earlier n)) other

before_first : (infos : List StructInfo) (k n : ℕ) (earlier : List StructType) → n < k → members_of (structs_from k earlier infos) n ≡ members_of earlier n
before_first [] k n earlier lt = refl
before_first (s ∷ more) k n earlier lt = before_first more (k + 1) n (seen_as k s ∷ earlier) (omega (arith, lt)) ∙ other_is k n s earlier (λ e. absurd (omega (arith, lt, e)))

seen_at : (infos : List StructInfo) (k j : ℕ) (earlier : List StructType) → members_of earlier (k + j) ≡ [] → members_of (structs_from k earlier infos) (k + j) ≡ kinds_or_none (slice_get infos j)
seen_at [] k j earlier none = none
seen_at (s ∷ more) k zero earlier none =
    let here : k + 0 ≡ k = omega arith in
    ap (λ n. members_of (structs_from (k + 1) (seen_as k s ∷ earlier) more) n) here ∙ (before_first more (k + 1) k (seen_as k s ∷ earlier) (omega arith) ∙ first_is k s earlier)
seen_at (s ∷ more) k (suc j) earlier none =
    let there : k + suc j ≡ (k + 1) + j = omega arith in
    let later : members_of (seen_as k s ∷ earlier) ((k + 1) + j) ≡ [] = other_is k ((k + 1) + j) s earlier (λ e. absurd (omega (arith, e))) ∙ (ap (λ n. members_of earlier n) (sym there) ∙ none) in
    ap (λ n. members_of (structs_from (k + 1) (seen_as k s ∷ earlier) more) n) there ∙ seen_at more (k + 1) j (seen_as k s ∷ earlier) later

members_seen : (infos : List StructInfo) (n : ℕ) → members_of (structs_seen infos) n ≡ kinds_or_none (slice_get infos n)
members_seen infos n = let here : n ≡ 0 + n = omega arith in ap (λ m. members_of (structs_seen infos) m) here ∙ seen_at infos 0 n [] refl

-- ---- the structs of the checked source

types_known : (table : Types) (cs : List CheckedStruct) (infos : List StructInfo) (n : ℕ) → AreStructs table cs infos → map (type_at table) (known_members cs n) ≡ kinds_or_none (slice_get infos n)
types_known table [] [] n h = refl
types_known table [] (s ∷ more) n h = absurd h
types_known table (c ∷ cs) [] n h = absurd h
types_known table (c ∷ cs) (s ∷ more) zero h = h.0.types
types_known table (c ∷ cs) (s ∷ more) (suc n) h = types_known table cs more n h.1

none_stand : (table : Types) → All (CanStand table) []
none_stand table i d lt = absurd (omega (arith, lt))

stand_known : (table : Types) (cs : List CheckedStruct) (infos : List StructInfo) (n : ℕ) → AreStructs table cs infos → All (CanStand table) (known_members cs n)
stand_known table [] [] n h = none_stand table
stand_known table [] (s ∷ more) n h = absurd h
stand_known table (c ∷ cs) [] n h = absurd h
stand_known table (c ∷ cs) (s ∷ more) zero h = h.0.can_stand
stand_known table (c ∷ cs) (s ∷ more) (suc n) h = stand_known table cs more n h.1

kinds_many : (members : List Member) → length (kinds_in members) ≡ length members
kinds_many [] = refl
kinds_many (m ∷ more) = ap suc (kinds_many more)

types_many : (table : Types) (ids : List TypeId) → length (map (type_at table) ids) ≡ length ids
types_many table [] = refl
types_many table (t ∷ more) = ap suc (types_many table more)

few_laid : (before infos : List StructInfo) (n : ℕ) → AreLaid before infos → length (kinds_or_none (slice_get infos n)) ≤ 32768
few_laid before [] n h = omega arith
few_laid before (s ∷ more) zero h = let few = h.0.few in let many = kinds_many s.members in omega (arith, few, many)
few_laid before (s ∷ more) (suc n) h = few_laid _ more n h.1

few_known : (table : Types) (cs : List CheckedStruct) (infos : List StructInfo) (n : ℕ) → AreStructs table cs infos → AreLaid [] infos → length (known_members cs n) ≤ 32768
few_known table cs infos n h laid =
    let few = few_laid [] infos n laid in let same = ap length (types_known table cs infos n h) in let many = types_many table (known_members cs n) in omega (arith, few, same, many)

pub are_known : (table : Types) (cs : List CheckedStruct) (infos : List StructInfo) → structs_of table ≡ structs_seen infos → AreStructs table cs infos → AreLaid [] infos → AreKnown table cs
are_known table cs infos same h laid = record {
  types = λ n. types_known table cs infos n h ∙ (sym (members_seen infos n) ∙ ap (λ (s : List StructType). members_of s n) (sym same));
  stand = λ n. stand_known table cs infos n h;
  few = λ n. few_known table cs infos n h laid;
}
