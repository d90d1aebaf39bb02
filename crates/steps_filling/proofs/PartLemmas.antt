-- What is written to a part of a variable.
use Rattle.std.proofs.Common.{◌≡◌, ℕ, zero, suc, ◌+◌, Bool, true, false, Option, None, Some, List, [], ◌∷◌, ◌++◌, refl, sym, ap, ◌∙◌, arith}
use Rattle.std.specs.Prelude.{OnOk, Result, Ok, Err}
use Rattle.std.proofs.lemmas.List.{append-nil, append_assoc}
use Rattle.mx_base.specs.declared.numbers.IntKind.{IntKind}
use Rattle.mx_base.specs.declared.places.Place.{Place}
use Rattle.fat_ir.specs.declared.step.FatStep.{FatStep}
use Rattle.fat_ir.specs.declared.step.FatStep.TheVariants as s
use Rattle.mx_base.specs.declared.numbers.IntKind.TheVariants.{U64}
use Rattle.mx_base.specs.declared.operators.Arithmetic.TheVariants.{Add}
use Rattle.bounds_plan.specs.meaning.Core.{Word, Null, Effect, Scalar}
use Rattle.bounds_plan.specs.steps.Code.{code_effect, labels_effect, copied, copied_all, offset_by}
use Rattle.bounds_plan.specs.elaboration.Types.{Numeric, Address, ANumber, APointer}
use Rattle.bounds_plan.specs.elaboration.Places.{written_as}
use Rattle.bounds_plan.specs.elaboration.Expressions.{effect_of}
use Rattle.bounds_plan.specs.elaboration.Initialisers.{part_at}
use Rattle.steps_facts.specs.declared.seen.Sorted.{Sorted}
use Rattle.steps_facts.specs.declared.seen.Sorted.TheVariants as o
use Rattle.steps_facts.specs.declared.seen.Spot.{Spot}
use Rattle.steps_facts.specs.declared.knows.Standing.{Standing}
use Rattle.steps_facts.specs.declared.knows.Standing.TheVariants as t
use Rattle.steps_facts.specs.Seen.{SeenOf, spot_of}
use Rattle.steps_facts.specs.Around.{standing_at}
use Rattle.steps_pieces.specs.Put.{Put, added}
use Rattle.steps_pieces.specs.Wanted.{null_at, given_number}
use Rattle.steps_pieces.specs.Own.{word_own, storing, value_at, assigned_own}
use Rattle.steps_filling.specs.Effects.{went_effect}
use Rattle.steps_filling.specs.Parts.{further, part_own, address_own, went_copies, copying}

chain3 : (s0 A B C : List FatStep) → ((s0 ++ A) ++ B) ++ C ≡ s0 ++ (A ++ (B ++ C))
chain3 s0 A B C = simp append_assoc refl

put_down : List FatStep → ℕ → Put
put_down steps label = record { steps = steps; label = label }

both : (x y : List FatStep) (m n : ℕ) → x ≡ y → m ≡ n → ◌≡◌ {A = Put} (record { steps = x; label = m }) (record { steps = y; label = n })
unfolding put_down
both x y m n h g = ap (λ (z : List FatStep). put_down z m) h ∙ ap (λ (z : ℕ). put_down y z) g

on_zero : (n m : ℕ) → m ≡ 0 → n + m ≡ n
on_zero n m h = omega arith

-- an effect that takes no labels, by its steps in three parts
pub effect_by : (e : Effect) (A B C : List FatStep) (d : ℕ) (s : Put) → code_effect e d s.label ≡ A ++ (B ++ C) → labels_effect e ≡ 0
    → went_effect e d s ≡ added C (added B (added A s))
unfolding went_effect added
effect_by e A B C d s h g = both _ _ _ _ (ap (λ (z : List FatStep). s.steps ++ z) h ∙ sym (chain3 s.steps A B C)) (on_zero s.label (labels_effect e) g)

number_code : (kind : IntKind) (at : Standing) (offset : ℕ) (q : Place) (n d l : ℕ)
    → code_effect (effect_of (written_as (ANumber kind) q (part_at offset (standing_at at)) (Numeric (Word n)))) d l
    ≡ part_own at offset d ++ (word_own n false (value_at (spot_of (standing_at at)) d) ++ storing (spot_of (standing_at at)) (o.Number kind) true q d)
unfolding part_own word_own
number_code kind (t.Number x) zero q n d l = refl
number_code kind (t.Number x) (suc m) q n d l = refl
number_code kind (t.Pointer x) zero q n d l = refl
number_code kind (t.Pointer x) (suc m) q n d l = refl
number_code kind (t.Frame front size) zero q n d l = refl
number_code kind (t.Frame front size) (suc m) q n d l = refl
number_code kind t.Nowhere zero q n d l = refl
number_code kind t.Nowhere (suc m) q n d l = refl

number_labels : (kind : IntKind) (at : Standing) (offset : ℕ) (q : Place) (n : ℕ) → labels_effect (effect_of (written_as (ANumber kind) q (part_at offset (standing_at at)) (Numeric (Word n)))) ≡ 0
number_labels kind (t.Number x) zero q n = refl
number_labels kind (t.Number x) (suc m) q n = refl
number_labels kind (t.Pointer x) zero q n = refl
number_labels kind (t.Pointer x) (suc m) q n = refl
number_labels kind (t.Frame front size) zero q n = refl
number_labels kind (t.Frame front size) (suc m) q n = refl
number_labels kind t.Nowhere zero q n = refl
number_labels kind t.Nowhere (suc m) q n = refl

pub number_form : (kind : IntKind) (at : Standing) (offset : ℕ) (q : Place) (n d : ℕ) (s : Put)
    → went_effect (effect_of (written_as (ANumber kind) q (part_at offset (standing_at at)) (Numeric (Word n)))) d s
    ≡ added (storing (spot_of (standing_at at)) (o.Number kind) true q d) (added (word_own n false (value_at (spot_of (standing_at at)) d)) (added (part_own at offset d) s))
number_form kind at offset q n d s = effect_by _ _ _ _ d s (number_code kind at offset q n d s.label) (number_labels kind at offset q n)

null_code : (at : Standing) (offset : ℕ) (q : Place) (d l : ℕ)
    → code_effect (effect_of (written_as APointer q (part_at offset (standing_at at)) (Address Null))) d l
    ≡ part_own at offset d ++ (null_at (value_at (spot_of (standing_at at)) d) ++ storing (spot_of (standing_at at)) o.Pointer false q d)
unfolding part_own
null_code (t.Number x) zero q d l = refl
null_code (t.Number x) (suc m) q d l = refl
null_code (t.Pointer x) zero q d l = refl
null_code (t.Pointer x) (suc m) q d l = refl
null_code (t.Frame front size) zero q d l = refl
null_code (t.Frame front size) (suc m) q d l = refl
null_code t.Nowhere zero q d l = refl
null_code t.Nowhere (suc m) q d l = refl

null_labels : (at : Standing) (offset : ℕ) (q : Place) → labels_effect (effect_of (written_as APointer q (part_at offset (standing_at at)) (Address Null))) ≡ 0
null_labels (t.Number x) zero q = refl
null_labels (t.Number x) (suc m) q = refl
null_labels (t.Pointer x) zero q = refl
null_labels (t.Pointer x) (suc m) q = refl
null_labels (t.Frame front size) zero q = refl
null_labels (t.Frame front size) (suc m) q = refl
null_labels t.Nowhere zero q = refl
null_labels t.Nowhere (suc m) q = refl

pub null_form : (at : Standing) (offset : ℕ) (q : Place) (d : ℕ) (s : Put)
    → went_effect (effect_of (written_as APointer q (part_at offset (standing_at at)) (Address Null))) d s
    ≡ added (storing (spot_of (standing_at at)) o.Pointer false q d) (added (null_at (value_at (spot_of (standing_at at)) d)) (added (part_own at offset d) s))
null_form at offset q d s = effect_by _ _ _ _ d s (null_code at offset q d s.label) (null_labels at offset q)

-- ---- steps one behind another

pub on_ok : {T E : Type 0} (r : Result T E) (A B : Type 0) → (A → B) → OnOk r A → OnOk r B
on_ok (Ok x) A B f h = f h
on_ok (Err x) A B f h = tt

pub nothing_added : (s : Put) → added [] s ≡ s
unfolding added
nothing_added s = ap (λ (z : List FatStep). record { steps = z; label = s.label }) (append-nil s.steps)

pub added_on : (A B : List FatStep) (s : Put) → added B (added A s) ≡ added (A ++ B) s
unfolding added
added_on A B s = ap (λ (z : List FatStep). record { steps = z; label = s.label }) (append_assoc s.steps A B)

pub two_added : (A B : List FatStep) (s0 s1 s2 : Put) → s1 ≡ added A s0 → s2 ≡ added B s1 → s2 ≡ added (A ++ B) s0
two_added A B s0 s1 s2 h1 h2 = h2 ∙ ap (λ (z : Put). added B z) h1 ∙ added_on A B s0

-- ---- addresses of parts

pub no_further : (n d : ℕ) (s : Put) → n ≡ 0 → s ≡ added (further n d) s
no_further n d s h = sym (ap (λ (z : ℕ). added (further z d) s) h ∙ nothing_added s)

pub on_further : (n d : ℕ) (s0 s1 s2 : Put) → (n ≡ 0 → ⊥) → s1 ≡ added (s.Const (d + 2) n ∷ []) s0 → s2 ≡ added (s.Arith d Add U64 d (d + 2) ∷ []) s1 → s2 ≡ added (further n d) s0
on_further zero d s0 s1 s2 ne h1 h2 = absurd (ne refl)
on_further (suc n) d s0 s1 s2 ne h1 h2 = two_added _ _ s0 s1 s2 h1 h2

number_own : (x offset d : ℕ) → part_own (t.Number x) offset d ≡ []
unfolding part_own
number_own x zero d = refl
number_own x (suc n) d = refl

pointer_own : (x offset d : ℕ) → part_own (t.Pointer x) offset d ≡ []
unfolding part_own
pointer_own x zero d = refl
pointer_own x (suc n) d = refl

frame_own : (front size offset d : ℕ) → part_own (t.Frame front size) offset d ≡ (s.Place d (d + 1) None front size ∷ []) ++ further offset d
unfolding part_own
frame_own front size zero d = refl
frame_own front size (suc n) d = refl

nowhere_own : (offset d : ℕ) → part_own t.Nowhere offset d ≡ null_at d ++ further offset d
unfolding part_own
nowhere_own zero d = refl
nowhere_own (suc n) d = refl

own_by : (at at' : Standing) (offset d : ℕ) (A : List FatStep) (s0 s1 : Put) → at ≡ at' → part_own at' offset d ≡ A → s1 ≡ added A s0 → s1 ≡ added (part_own at offset d) s0
own_by at at' offset d A s0 s1 is h g = g ∙ ap (λ (z : List FatStep). added z s0) (sym h) ∙ ap (λ (z : Standing). added (part_own z offset d) s0) (sym is)

pub number_part : (at : Standing) (x offset d : ℕ) (s : Put) → at ≡ t.Number x → s ≡ added (part_own at offset d) s
number_part at x offset d s is = own_by at _ offset d [] s s is (number_own x offset d) (sym (nothing_added s))

pub pointer_part : (at : Standing) (x offset d : ℕ) (s : Put) → at ≡ t.Pointer x → s ≡ added (part_own at offset d) s
pointer_part at x offset d s is = own_by at _ offset d [] s s is (pointer_own x offset d) (sym (nothing_added s))

pub frame_part : (at : Standing) (front size offset d : ℕ) (s0 s1 s2 : Put) → at ≡ t.Frame front size → s1 ≡ added (s.Place d (d + 1) None front size ∷ []) s0 → s2 ≡ added (further offset d) s1 → s2 ≡ added (part_own at offset d) s0
frame_part at front size offset d s0 s1 s2 is h1 h2 = own_by at _ offset d _ s0 s2 is (frame_own front size offset d) (two_added _ _ s0 s1 s2 h1 h2)

pub nowhere_part : (at : Standing) (offset d : ℕ) (s0 s1 s2 : Put) → at ≡ t.Nowhere → s1 ≡ added (null_at d) s0 → s2 ≡ added (further offset d) s1 → s2 ≡ added (part_own at offset d) s0
nowhere_part at offset d s0 s1 s2 is h1 h2 = own_by at _ offset d _ s0 s2 is (nowhere_own offset d) (two_added _ _ s0 s1 s2 h1 h2)

-- ---- addresses of structs

number_address : (x offset d : ℕ) → address_own (t.Number x) offset d ≡ null_at d
unfolding address_own
number_address x zero d = refl
number_address x (suc n) d = refl

pointer_address : (x offset d : ℕ) → address_own (t.Pointer x) offset d ≡ null_at d
unfolding address_own
pointer_address x zero d = refl
pointer_address x (suc n) d = refl

frame_address : (front size offset d : ℕ) → address_own (t.Frame front size) offset d ≡ part_own (t.Frame front size) offset d
unfolding address_own part_own
frame_address front size zero d = refl
frame_address front size (suc n) d = refl

nowhere_address : (offset d : ℕ) → address_own t.Nowhere offset d ≡ part_own t.Nowhere offset d
unfolding address_own part_own
nowhere_address zero d = refl
nowhere_address (suc n) d = refl

address_by : (at at' : Standing) (offset d : ℕ) (A : List FatStep) (s0 s1 : Put) → at ≡ at' → address_own at' offset d ≡ A → s1 ≡ added A s0 → s1 ≡ added (address_own at offset d) s0
address_by at at' offset d A s0 s1 is h g = g ∙ ap (λ (z : List FatStep). added z s0) (sym h) ∙ ap (λ (z : Standing). added (address_own z offset d) s0) (sym is)

pub number_struct : (at : Standing) (x offset d : ℕ) (s0 s1 : Put) → at ≡ t.Number x → s1 ≡ added (null_at d) s0 → s1 ≡ added (address_own at offset d) s0
number_struct at x offset d s0 s1 is h = address_by at _ offset d _ s0 s1 is (number_address x offset d) h

pub pointer_struct : (at : Standing) (x offset d : ℕ) (s0 s1 : Put) → at ≡ t.Pointer x → s1 ≡ added (null_at d) s0 → s1 ≡ added (address_own at offset d) s0
pointer_struct at x offset d s0 s1 is h = address_by at _ offset d _ s0 s1 is (pointer_address x offset d) h

pub frame_struct : (at : Standing) (front size offset d : ℕ) (s0 s1 : Put) → at ≡ t.Frame front size → s1 ≡ added (part_own at offset d) s0 → s1 ≡ added (address_own at offset d) s0
frame_struct at front size offset d s0 s1 is h = address_by at _ offset d _ s0 s1 is (frame_address front size offset d) (h ∙ ap (λ (z : Standing). added (part_own z offset d) s0) is)

pub nowhere_struct : (at : Standing) (offset d : ℕ) (s0 s1 : Put) → at ≡ t.Nowhere → s1 ≡ added (part_own at offset d) s0 → s1 ≡ added (address_own at offset d) s0
nowhere_struct at offset d s0 s1 is h = address_by at _ offset d _ s0 s1 is (nowhere_address offset d) (h ∙ ap (λ (z : Standing). added (part_own z offset d) s0) is)

-- ---- what is written

stored_own : (x y : SeenOf) (d : ℕ) → assigned_own None x y false d ≡ storing x.spot x.facts.sort (given_number x.facts.sort y.number) x.place d
unfolding assigned_own
stored_own x y d = append-nil _

pub stored : (x y : SeenOf) (sort : Sorted) (spot : Spot) (number : Bool) (q : Place) (d : ℕ) (s0 s1 : Put) → x.facts.sort ≡ sort → x.spot ≡ spot → x.place ≡ q → y.number ≡ number
    → s1 ≡ added (assigned_own None x y false d) s0 → s1 ≡ added (storing spot sort (given_number sort number) q d) s0
stored x y sort spot number q d s0 s1 hs hp hq hn h = h ∙ ap (λ (z : List FatStep). added z s0) (stored_own x y d)
    ∙ ap (λ (z : Sorted). added (storing x.spot z (given_number z y.number) x.place d) s0) hs ∙ ap (λ (z : Spot). added (storing z sort (given_number sort y.number) x.place d) s0) hp
    ∙ ap (λ (z : Place). added (storing spot sort (given_number sort y.number) z d) s0) hq ∙ ap (λ (z : Bool). added (storing spot sort (given_number sort z) q d) s0) hn

pub number_walk : (kind : IntKind) (at : Standing) (offset : ℕ) (q : Place) (n d d2 : ℕ) (spot : Spot) (s0 s1 s2 s3 : Put) → spot ≡ spot_of (standing_at at) → d2 ≡ value_at spot d
    → s1 ≡ added (part_own at offset d) s0 → s2 ≡ added (word_own n false d2) s1 → s3 ≡ added (storing spot (o.Number kind) true q d) s2
    → s3 ≡ went_effect (effect_of (written_as (ANumber kind) q (part_at offset (standing_at at)) (Numeric (Word n)))) d s0
number_walk kind at offset q n d d2 spot s0 s1 s2 s3 hp hd h1 h2 h3 = let G : Spot → ℕ → Put = λ z m. added (storing z (o.Number kind) true q d) (added (word_own n false m) (added (part_own at offset d) s0)) in
    h3 ∙ ap (λ (z : Put). added (storing spot (o.Number kind) true q d) z) (h2 ∙ ap (λ (z : Put). added (word_own n false d2) z) h1)
    ∙ ap (λ (m : ℕ). G spot m) hd ∙ ap (λ (z : Spot). G z (value_at z d)) hp ∙ sym (number_form kind at offset q n d s0)

pub null_walk : (at : Standing) (offset : ℕ) (q : Place) (d d2 : ℕ) (spot : Spot) (s0 s1 s2 s3 : Put) → spot ≡ spot_of (standing_at at) → d2 ≡ value_at spot d
    → s1 ≡ added (part_own at offset d) s0 → s2 ≡ added (null_at d2) s1 → s3 ≡ added (storing spot o.Pointer false q d) s2
    → s3 ≡ went_effect (effect_of (written_as APointer q (part_at offset (standing_at at)) (Address Null))) d s0
null_walk at offset q d d2 spot s0 s1 s2 s3 hp hd h1 h2 h3 = let G : Spot → ℕ → Put = λ z m. added (storing z o.Pointer false q d) (added (null_at m) (added (part_own at offset d) s0)) in
    h3 ∙ ap (λ (z : Put). added (storing spot o.Pointer false q d) z) (h2 ∙ ap (λ (z : Put). added (null_at d2) z) h1)
    ∙ ap (λ (m : ℕ). G spot m) hd ∙ ap (λ (z : Spot). G z (value_at z d)) hp ∙ sym (null_form at offset q d s0)

-- ---- copies

four_added : (A B C D : List FatStep) (s0 s1 s2 s3 s4 : Put) → s1 ≡ added A s0 → s2 ≡ added B s1 → s3 ≡ added C s2 → s4 ≡ added D s3 → s4 ≡ added (A ++ (B ++ (C ++ D))) s0
four_added A B C D s0 s1 s2 s3 s4 h1 h2 h3 h4 = h4 ∙ ap (λ (z : Put). added D z) (h3 ∙ ap (λ (z : Put). added C z) (h2 ∙ ap (λ (z : Put). added B z) h1))
    ∙ added_on C D (added B (added A s0)) ∙ added_on B (C ++ D) (added A s0) ∙ added_on A (B ++ (C ++ D)) s0

pub pointer_copy : (offset d : ℕ) (k : Option IntKind) (s0 s1 s2 s3 s4 : Put) → k ≡ None → s1 ≡ added (offset_by offset (d + 6) (d + 2) (d + 4)) s0 → s2 ≡ added (s.LoadPtr (d + 6) (d + 6) (d + 6 + 1) ∷ []) s1
    → s3 ≡ added (offset_by offset (d + 4) d (d + 4)) s2 → s4 ≡ added (s.StorePtr (d + 4) (d + 6) (d + 6 + 1) ∷ []) s3 → s4 ≡ added (copied offset k d) s0
pointer_copy offset d k s0 s1 s2 s3 s4 is h1 h2 h3 h4 = four_added _ _ _ _ s0 s1 s2 s3 s4 h1 h2 h3 h4 ∙ ap (λ (z : Option IntKind). added (copied offset z d) s0) (sym is)

pub number_copy : (offset d : ℕ) (kind : IntKind) (k : Option IntKind) (s0 s1 s2 s3 s4 : Put) → k ≡ Some kind → s1 ≡ added (offset_by offset (d + 6) (d + 2) (d + 4)) s0 → s2 ≡ added (s.Load (d + 6) (d + 6) kind ∷ []) s1
    → s3 ≡ added (offset_by offset (d + 4) d (d + 4)) s2 → s4 ≡ added (s.Store (d + 4) (d + 6) kind ∷ []) s3 → s4 ≡ added (copied offset k d) s0
number_copy offset d kind k s0 s1 s2 s3 s4 is h1 h2 h3 h4 = four_added _ _ _ _ s0 s1 s2 s3 s4 h1 h2 h3 h4 ∙ ap (λ (z : Option IntKind). added (copied offset z d) s0) (sym is)

copies_added : (xs : List Scalar) (d : ℕ) (s : Put) → went_copies xs d s ≡ added (copied_all xs d) s
copies_added [] d s = sym (nothing_added s)
copies_added (x ∷ rest) d s = copies_added rest d (added (copied x.offset x.kind d) s) ∙ added_on (copied x.offset x.kind d) (copied_all rest d) s

pub copied_walk : (size n d : ℕ) (xs : List Scalar) (to from : Place) (s0 s1 s2 s3 s4 s5 : Put) → n ≡ size → s1 ≡ added (s.Extend (d + 2) (d + 2) U64 ∷ []) s0 → s2 ≡ added (s.Judge (d + 2) n (d + 2 + 1) false from ∷ []) s1
    → s3 ≡ added (s.Extend d d U64 ∷ []) s2 → s4 ≡ added (s.Judge d n (d + 1) true to ∷ []) s3 → s5 ≡ went_copies xs d s4 → s5 ≡ added (copying size xs to from d) s0
unfolding copying
copied_walk size n d xs to from s0 s1 s2 s3 s4 s5 hn h1 h2 h3 h4 h5 = h5 ∙ copies_added xs d s4 ∙ ap (λ (z : Put). added (copied_all xs d) z) (four_added _ _ _ _ s0 s1 s2 s3 s4 h1 h2 h3 h4) ∙ added_on _ (copied_all xs d) s0
    ∙ ap (λ (m : ℕ). added (s.Extend (d + 2) (d + 2) U64 ∷ s.Judge (d + 2) m (d + 2 + 1) false from ∷ s.Extend d d U64 ∷ s.Judge d m (d + 1) true to ∷ copied_all xs d) s0) hn
