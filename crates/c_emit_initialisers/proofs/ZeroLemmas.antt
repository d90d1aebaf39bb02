-- Elements and members that become 0, one behind another.
use Rattle.std.proofs.Common.{◌≡◌, ℕ, zero, suc, ◌+◌, ◌-◌, ◌<◌, ◌≤◌, length, slice_index_or, drop, drop-cons, List, [], ◌∷◌, ◌++◌, map, refl, sym, ap, ◌∙◌, arith}
use Rattle.mx_base.specs.declared.places.Place.{Place}
use Rattle.c_types.specs.Types.{CType, Array, StructType, Types, type_at}
use Rattle.bounds_plan.specs.meaning.Core.{Effect, Scalar}
use Rattle.bounds_plan.specs.elaboration.Scalars.{scalar_at, repeated, scalars_of}
use Rattle.bounds_plan.specs.elaboration.Types.{size_in}
use Rattle.bounds_plan.specs.elaboration.Initialisers.{zero_written, zeros, member_zeros}
use Rattle.steps_facts.specs.declared.knows.Standing.{Standing}
use Rattle.steps_facts.specs.declared.knows.Part.{Part}
use Rattle.steps_facts.specs.Around.{standing_at, part_types, part_offsets}
use Rattle.steps_pieces.specs.Put.{Put}
use Rattle.steps_filling.specs.Effects.{went_effect, went_effects}
use Rattle.steps_filling.specs.Parts.{zeros_filled}

pub effects_on : (xs ys : List Effect) (d : ℕ) (s : Put) → went_effects (xs ++ ys) d s ≡ went_effects ys d (went_effects xs d s)
effects_on [] ys d s = refl
effects_on (x ∷ xs) ys d s = effects_on xs ys d (went_effect x d s)

maps_on : {A B : Type 0} (f : A → B) (xs ys : List A) → map f (xs ++ ys) ≡ map f xs ++ map f ys
maps_on f [] ys = refl
maps_on f (x ∷ xs) ys = ap (λ zs. f x ∷ zs) (maps_on f xs ys)

further_by : (a b c : ℕ) → a + (b + c) ≡ a + b + c
further_by a b c = omega arith

scalars_twice : (a b : ℕ) (xs : List Scalar) → map (scalar_at a) (map (scalar_at b) xs) ≡ map (scalar_at (a + b)) xs
scalars_twice a b [] = refl
scalars_twice a b (x ∷ xs) = ap (λ (zs : List Scalar). scalar_at a (scalar_at b x) ∷ zs) (scalars_twice a b xs)
    ∙ ap (λ (n : ℕ). let y : Scalar = record { offset = n; kind = x.kind } in y ∷ map (scalar_at (a + b)) xs) (further_by a b x.offset)

-- so many elements of this size
abbrev pub went_elements : (count size : ℕ) → List Scalar → Place → Standing → (to : ℕ) → (d : ℕ) → Put → Put
went_elements zero size xs place at to d s = s
went_elements (suc n) size xs place at to d s = went_elements n size xs place at (to + size) d (went_effects (zeros_filled at to place xs) d s)

filled_twice : (at : Standing) (offset o : ℕ) (place : Place) (xs ys : List Scalar) (d : ℕ) (s : Put)
    → went_effects (zeros_filled at offset place (map (scalar_at o) xs ++ ys)) d s ≡ went_effects (zeros_filled at offset place ys) d (went_effects (zeros_filled at (offset + o) place xs) d s)
filled_twice at offset o place xs ys d s =
    ap (λ (es : List Scalar). went_effects (map (zero_written place (standing_at at)) es) d s)
    (maps_on (scalar_at offset) (map (scalar_at o) xs) ys ∙ ap (λ (zs : List Scalar). zs ++ map (scalar_at offset) ys) (scalars_twice offset o xs))
    ∙ ap (λ (es : List Effect). went_effects es d s) (maps_on (zero_written place (standing_at at)) (map (scalar_at (offset + o)) xs) (map (scalar_at offset) ys))
    ∙ effects_on (zeros_filled at (offset + o) place xs) (zeros_filled at offset place ys) d s

elements_from : (n offset o size : ℕ) (xs : List Scalar) (place : Place) (at : Standing) (d : ℕ) (s : Put)
    → went_effects (zeros_filled at offset place (repeated n o size xs)) d s ≡ went_elements n size xs place at (offset + o) d s
elements_from zero offset o size xs place at d s = refl
elements_from (suc n) offset o size xs place at d s = filled_twice at offset o place xs (repeated n (o + size) size xs) d s
    ∙ elements_from n offset (o + size) size xs place at d (went_effects (zeros_filled at (offset + o) place xs) d s)
    ∙ ap (λ (to : ℕ). went_elements n size xs place at to d (went_effects (zeros_filled at (offset + o) place xs) d s)) (further_by offset o size)

zero_on : (n : ℕ) → n + 0 ≡ n
zero_on n = omega arith

pub elements_zero : (n offset size : ℕ) (xs : List Scalar) (place : Place) (at : Standing) (d : ℕ) (s : Put)
    → went_effects (zeros_filled at offset place (repeated n 0 size xs)) d s ≡ went_elements n size xs place at offset d s
elements_zero n offset size xs place at d s = elements_from n offset 0 size xs place at d s ∙ ap (λ (to : ℕ). went_elements n size xs place at to d s) (zero_on offset)

one_less : (n m : ℕ) → (n ≡ 0 → ⊥) → m ≡ n - 1 → n ≡ suc m
one_less zero m ne h = absurd (ne refl)
one_less (suc n) m ne h = omega arith

pub elements_on : (left less size : ℕ) (xs : List Scalar) (place : Place) (at : Standing) (to far d : ℕ) (s0 s1 : Put) → (left ≡ 0 → ⊥) → less ≡ left - 1 → far ≡ to + size → s1 ≡ went_effects (zeros_filled at to place xs) d s0
    → went_elements less size xs place at far d s1 ≡ went_elements left size xs place at to d s0
elements_on left less size xs place at to far d s0 s1 ne hl hf h = ap (λ (z : Put). went_elements less size xs place at far d z) h
    ∙ ap (λ (z : ℕ). went_elements less size xs place at z d (went_effects (zeros_filled at to place xs) d s0)) hf
    ∙ sym (ap (λ (z : ℕ). went_elements z size xs place at to d s0) (one_less left less ne hl))

pub elements_end : (count left offset to size : ℕ) (xs : List Scalar) (place : Place) (at : Standing) (d : ℕ) (s0 s1 : Put) → left ≡ 0 → went_elements left size xs place at to d s1 ≡ went_elements count size xs place at offset d s0
    → s1 ≡ went_effects (zeros_filled at offset place (repeated count 0 size xs)) d s0
elements_end count left offset to size xs place at d s0 s1 hl h = sym (ap (λ (z : ℕ). went_elements z size xs place at to d s1) hl) ∙ h ∙ sym (elements_zero count offset size xs place at d s0)

pub rest_walk : (structs : List StructType) (t : CType) (count size offset : ℕ) (xs : List Scalar) (place : Place) (at : Standing) (d : ℕ) (s0 s1 : Put) → xs ≡ scalars_of structs t → size ≡ size_in structs t
    → s1 ≡ went_effects (zeros_filled at offset place (repeated count 0 size xs)) d s0 → s1 ≡ went_effects (zeros structs place (Array t count) (standing_at at) offset) d s0
rest_walk structs t count size offset xs place at d s0 s1 hx hs h = h ∙ ap (λ (zs : List Scalar). went_effects (zeros_filled at offset place (repeated count 0 size zs)) d s0) hx
    ∙ ap (λ (n : ℕ). went_effects (zeros_filled at offset place (repeated count 0 n (scalars_of structs t))) d s0) hs

not_more : (n : ℕ) → n ≤ 0 → n ≡ 0
not_more n h = omega arith

pub elements_out : (count left offset to size : ℕ) (xs : List Scalar) (place : Place) (at : Standing) (d : ℕ) (s0 s1 : Put) → left ≤ 0 → went_elements left size xs place at to d s1 ≡ went_elements count size xs place at offset d s0
    → s1 ≡ went_effects (zeros_filled at offset place (repeated count 0 size xs)) d s0
elements_out count left offset to size xs place at d s0 s1 h g = elements_end count left offset to size xs place at d s0 s1 (not_more left h) g

-- what a loop has before it
pub drop_on : {A : Type 0} (all : List A) (i j : ℕ) (x : A) → i < length all → j ≡ suc i → drop i all ≡ slice_index_or all i x ∷ drop j all
drop_on all i j x h e = drop-cons all i x h ∙ ap (λ k. slice_index_or all i x ∷ drop k all) (sym e)

pub drop_item : {A : Type 0} (all : List A) (i j : ℕ) (x : A) → i < length all → j ≡ suc i → x ≡ slice_index_or all i x → drop i all ≡ x ∷ drop j all
drop_item all i j x h e is = drop_on all i j x h e ∙ ap (λ y. y ∷ drop j all) (sym is)

-- ---- members

members_zero : List StructType → Types → Place → List Part → Standing → (offset : ℕ) → List Effect
members_zero structs table place parts at offset = member_zeros structs place (part_types table parts) (part_offsets parts) (standing_at at) offset

pub members_on : (structs : List StructType) (table : Types) (place : Place) (parts more : List Part) (x : Part) (offset to : ℕ) (xs : List Scalar) (at : Standing) (d : ℕ) (s0 s1 : Put) → parts ≡ x ∷ more → to ≡ offset + x.offset
    → xs ≡ scalars_of structs (type_at table x.kind) → s1 ≡ went_effects (zeros_filled at to place xs) d s0
    → went_effects (member_zeros structs place (part_types table more) (part_offsets more) (standing_at at) offset) d s1 ≡ went_effects (member_zeros structs place (part_types table parts) (part_offsets parts) (standing_at at) offset) d s0
unfolding members_zero
members_on structs table place parts more x offset to xs at d s0 s1 is ht hx h =
    ap (λ (z : Put). went_effects (members_zero structs table place more at offset) d z) (h ∙ ap (λ (n : ℕ). went_effects (zeros_filled at n place xs) d s0) ht
    ∙ ap (λ (zs : List Scalar). went_effects (zeros_filled at (offset + x.offset) place zs) d s0) hx)
    ∙ sym (ap (λ (zs : List Part). went_effects (members_zero structs table place zs at offset) d s0) is
    ∙ effects_on (zeros structs place (type_at table x.kind) (standing_at at) (offset + x.offset)) (members_zero structs table place more at offset) d s0)
