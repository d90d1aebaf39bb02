-- What an expression fills as an initialiser.
use Rattle.std.proofs.Common.{◌≡◌, ℕ, zero, suc, ◌+◌, Bool, true, false, None, List, ◌++◌, refl, sym, ap, ◌∙◌}
use Rattle.std.specs.Prelude.{IfOk, Result, Ok, Err}
use Rattle.std.proofs.lemmas.List.{append-nil}
use Rattle.mx_base.specs.declared.numbers.IntKind.{IntKind}
use Rattle.mx_base.specs.declared.places.Place.{Place}
use Rattle.c_types.specs.declared.shape.TypeId.{TypeId}
use Rattle.c_types.specs.declared.shape.Shape.{Shape}
use Rattle.c_types.specs.Types.{CType, Void, Int, Pointer, Array, Struct, StructType, built}
use Rattle.fat_ir.specs.declared.step.FatStep.{FatStep}
use Rattle.bounds_plan.specs.meaning.Core.{Scalar}
use Rattle.bounds_plan.specs.steps.Code.{labels_ptr, code_ptr}
use Rattle.bounds_plan.specs.elaboration.Types.{Value, Numeric, Address, sort_of, size_in, kind_of, given}
use Rattle.bounds_plan.specs.elaboration.Scalars.{scalars_of}
use Rattle.bounds_plan.specs.elaboration.Places.{Lvalue, NumberVariable, PointerVariable, InMemory, written_as, address_in}
use Rattle.bounds_plan.specs.elaboration.Source.{Reached, Around}
use Rattle.bounds_plan.specs.elaboration.Expressions.{Found, effect_of, a_place, assigned, assign_by, struct_copied}
use Rattle.bounds_plan.specs.elaboration.Initialisers.{part_at, one_filled, after_one, bytes_of, text_filled}
use Rattle.steps_facts.specs.declared.seen.Sorted.{Sorted}
use Rattle.steps_facts.specs.declared.seen.Sorted.TheVariants as o
use Rattle.steps_facts.specs.declared.seen.Facts.{Facts}
use Rattle.steps_facts.specs.declared.seen.Spot.{Spot}
use Rattle.steps_facts.specs.declared.seen.Spot.TheVariants as sp
use Rattle.steps_facts.specs.declared.knows.Standing.{Standing}
use Rattle.steps_facts.specs.declared.knows.Standing.TheVariants as t
use Rattle.steps_facts.specs.Seen.{SeenOf, sorted, kind_in, facts_of, is_number, spot_of, seen_in}
use Rattle.steps_facts.specs.Around.{standing_at}
use Rattle.c_tree.specs.declared.operators.UnaryOp.TheVariants as u
use Rattle.steps_pieces.specs.Wanted.{code_value, labels_value, code_lvalue, labels_lvalue, given_number}
use Rattle.steps_pieces.specs.Own.{is_copied, value_at, storing, assigned_own, single_own, hidden}
use Rattle.steps_pieces.specs.Put.{Put, added, goes, went, went_given}
use Rattle.steps_filling.specs.Effects.{went_effect, went_effects}
use Rattle.steps_filling.specs.Parts.{part_own, address_own, went_scalar, copying}
use Rattle.c_emit.proofs.Goes.{same_goes, own, one, pair}
use Rattle.c_emit.proofs.Codes.{kind_by}
use Rattle.c_emit.proofs.Places.{assign_form}

pub if_ok : {T E : Type 0} (r : Result T E) (P Q : T → Type 0) → ((x : T) → P x → Q x) → IfOk r P → IfOk r Q
if_ok (Ok x) P Q f h = f x h
if_ok (Err x) P Q f h = tt

-- ---- the place that is filled

part_code : (at : Standing) (offset d l : ℕ) → code_lvalue (part_at offset (standing_at at)) d l ≡ part_own at offset d
unfolding part_own
part_code (t.Number x) zero d l = refl
part_code (t.Number x) (suc n) d l = refl
part_code (t.Pointer x) zero d l = refl
part_code (t.Pointer x) (suc n) d l = refl
part_code (t.Frame front size) zero d l = refl
part_code (t.Frame front size) (suc n) d l = refl
part_code t.Nowhere zero d l = refl
part_code t.Nowhere (suc n) d l = refl

part_labels : (at : Standing) (offset : ℕ) → labels_lvalue (part_at offset (standing_at at)) ≡ 0
part_labels (t.Number x) zero = refl
part_labels (t.Number x) (suc n) = refl
part_labels (t.Pointer x) zero = refl
part_labels (t.Pointer x) (suc n) = refl
part_labels (t.Frame front size) zero = refl
part_labels (t.Frame front size) (suc n) = refl
part_labels t.Nowhere zero = refl
part_labels t.Nowhere (suc n) = refl

part_spot : (at : Standing) (offset : ℕ) → spot_of (part_at offset (standing_at at)) ≡ spot_of (standing_at at)
part_spot (t.Number x) zero = refl
part_spot (t.Number x) (suc n) = refl
part_spot (t.Pointer x) zero = refl
part_spot (t.Pointer x) (suc n) = refl
part_spot (t.Frame front size) zero = refl
part_spot (t.Frame front size) (suc n) = refl
part_spot t.Nowhere zero = refl
part_spot t.Nowhere (suc n) = refl

address_code : (at : Standing) (offset d l : ℕ) → code_ptr (address_in (part_at offset (standing_at at))) d l ≡ address_own at offset d
unfolding address_own
address_code (t.Number x) zero d l = refl
address_code (t.Number x) (suc n) d l = refl
address_code (t.Pointer x) zero d l = refl
address_code (t.Pointer x) (suc n) d l = refl
address_code (t.Frame front size) zero d l = refl
address_code (t.Frame front size) (suc n) d l = refl
address_code t.Nowhere zero d l = refl
address_code t.Nowhere (suc n) d l = refl

address_labels : (at : Standing) (offset : ℕ) → labels_ptr (address_in (part_at offset (standing_at at))) ≡ 0
address_labels (t.Number x) zero = refl
address_labels (t.Number x) (suc n) = refl
address_labels (t.Pointer x) zero = refl
address_labels (t.Pointer x) (suc n) = refl
address_labels (t.Frame front size) zero = refl
address_labels (t.Frame front size) (suc n) = refl
address_labels t.Nowhere zero = refl
address_labels t.Nowhere (suc n) = refl

-- ---- a scalar

pub effect_value : (v : Value) (d : ℕ) (s : Put) → went_effect (effect_of v) d s ≡ goes (λ l. code_value v d l) (labels_value v) s
unfolding went_effect
effect_value (Numeric e) d s = refl
effect_value (Address p) d s = refl

place_went : (type : CType) (at : Standing) (offset : ℕ) (q : Place) (r : Reached) (d : ℕ) (s : Put) → went true (a_place type (part_at offset (standing_at at)) q r) d s ≡ added (part_own at offset d) s
unfolding went
place_went type at offset q r d s = same_goes (λ l. code_lvalue (part_at offset (standing_at at)) d l) (λ l. part_own at offset d) (labels_lvalue (part_at offset (standing_at at))) 0 s (part_code at offset d s.label) (part_labels at offset)
    ∙ own (part_own at offset d) s

stored_own : (x y : SeenOf) (d : ℕ) → assigned_own None x y false d ≡ storing x.spot x.facts.sort (given_number x.facts.sort y.number) x.place d
unfolding assigned_own
stored_own x y d = append-nil _

assigned_value : (around : Around) (a f : Found) (q : Place) (r : Reached) (d : ℕ) (s : Put) → went_effect (effect_of (assigned a f)) d s ≡ went false (assign_by None around a f q r) d s
unfolding went
assigned_value around a f q r d s = effect_value (assigned a f) d s

pub scalar_form : (around : Around) (type : CType) (at : Standing) (offset : ℕ) (q : Place) (f : Found) (d : ℕ) (s : Put) → is_copied (spot_of (standing_at at)) (sorted (sort_of type)) ≡ false
    → went_effect (effect_of (written_as (sort_of type) q (part_at offset (standing_at at)) (given type f.type f.value))) d s ≡ went_scalar (sorted (sort_of type)) at offset q f d s
unfolding went_scalar
scalar_form around type at offset q f d s h = let lv = part_at offset (standing_at at) in let a = a_place type lv q f.after in let k = sorted (sort_of type) in
    let x = seen_in around.structs a in let y = seen_in around.structs f in
    assigned_value around a f q f.after d s
    ∙ assign_form None false around a f q f.after d s (ap (λ (z : Spot). is_copied z k) (part_spot at offset) ∙ h)
    ∙ ap (λ (z : List FatStep). added z (went_given k f (value_at (spot_of lv) d) (went true a d s))) (stored_own x y d)
    ∙ ap (λ (z : Put). added (storing (spot_of lv) k (given_number k (is_number f.value)) q d) (went_given k f (value_at (spot_of lv) d) z)) (place_went type at offset q f.after d s)
    ∙ ap (λ (z : Spot). added (storing z k (given_number k (is_number f.value)) q d) (went_given k f (value_at z d) (added (part_own at offset d) s))) (part_spot at offset)

number_stays : (x : Spot) (k : IntKind) → is_copied x (o.Number k) ≡ false
number_stays (sp.Number y) k = refl
number_stays (sp.Pointer y) k = refl
number_stays sp.Memory k = refl

pointer_stays : (x : Spot) → is_copied x o.Pointer ≡ false
pointer_stays (sp.Number y) = refl
pointer_stays (sp.Pointer y) = refl
pointer_stays sp.Memory = refl

pub scalar_walk : (sort : Sorted) (at : Standing) (offset : ℕ) (place : Place) (f : Found) (spot : Spot) (number : Bool) (d d2 : ℕ) (s0 s1 s2 s3 : Put) → spot ≡ spot_of (standing_at at) → d2 ≡ value_at spot d
    → number ≡ is_number f.value → s1 ≡ added (part_own at offset d) s0 → s2 ≡ went_given sort f d2 s1 → s3 ≡ added (storing spot sort (given_number sort number) place d) s2 → s3 ≡ went_scalar sort at offset place f d s0
unfolding went_scalar
scalar_walk sort at offset place f spot number d d2 s0 s1 s2 s3 hp hd hn h1 h2 h3 = let G : Spot → Bool → ℕ → Put = λ z n m. added (storing z sort (given_number sort n) place d) (went_given sort f m (added (part_own at offset d) s0)) in
    h3 ∙ ap (λ (z : Put). added (storing spot sort (given_number sort number) place d) z) (h2 ∙ ap (λ (z : Put). went_given sort f d2 z) h1)
    ∙ ap (λ (m : ℕ). G spot number m) hd ∙ ap (λ (n : Bool). G spot n (value_at spot d)) hn ∙ ap (λ (z : Spot). G z (is_number f.value) (value_at z d)) hp

-- ---- a struct

hidden_code : (lv : Lvalue) (d l : ℕ) → code_ptr (address_in lv) d l ≡ code_lvalue lv d l ++ hidden (spot_of lv) d
hidden_code (NumberVariable x) d l = refl
hidden_code (PointerVariable x) d l = refl
hidden_code (InMemory p) d l = sym (append-nil (code_ptr p d l))

hidden_labels : (lv : Lvalue) → labels_ptr (address_in lv) ≡ labels_lvalue lv
hidden_labels (NumberVariable x) = refl
hidden_labels (PointerVariable x) = refl
hidden_labels (InMemory p) = refl

-- the address of a place, with the null pointer for that of a private variable
pub address_goes : (lv : Lvalue) (d : ℕ) (s : Put) → goes (λ l. code_ptr (address_in lv) d l) (labels_ptr (address_in lv)) s ≡ added (hidden (spot_of lv) d) (goes (λ l. code_lvalue lv d l) (labels_lvalue lv) s)
address_goes lv d s = same_goes (λ l. code_ptr (address_in lv) d l) (λ l. code_lvalue lv d l ++ hidden (spot_of lv) d) (labels_ptr (address_in lv)) (labels_lvalue lv) s (hidden_code lv d s.label) (hidden_labels lv)
    ∙ one (λ l. code_lvalue lv d l) (labels_lvalue lv) (hidden (spot_of lv) d) s

part_address : (at : Standing) (offset d : ℕ) (s : Put) → goes (λ l. code_ptr (address_in (part_at offset (standing_at at))) d l) (labels_ptr (address_in (part_at offset (standing_at at)))) s ≡ added (address_own at offset d) s
part_address at offset d s = same_goes (λ l. code_ptr (address_in (part_at offset (standing_at at))) d l) (λ l. address_own at offset d) (labels_ptr (address_in (part_at offset (standing_at at)))) 0 s
    (address_code at offset d s.label) (address_labels at offset) ∙ own (address_own at offset d) s

copied_effect : (structs : List StructType) (type : CType) (to : Lvalue) (q : Place) (f : Found) (d : ℕ) (s : Put) → went_effect (struct_copied structs type to q f) d s
    ≡ goes (λ l. code_ptr (address_in to) d l ++ (code_ptr (address_in f.lvalue) (d + 2) (l + labels_ptr (address_in to)) ++ copying (size_in structs type) (scalars_of structs type) q f.place d))
    (labels_ptr (address_in to) + labels_ptr (address_in f.lvalue)) s
unfolding went_effect copying
copied_effect structs type to q f d s = refl

hidden_own : (x : SeenOf) (k : Sorted) (w : Bool) (q : Place) (d : ℕ) → single_own u.AddressOf x k w q d ≡ hidden x.spot d
unfolding single_own
hidden_own x k w q d = refl

-- the address of the place that is found
pub place_address : (structs : List StructType) (f : Found) (x : SeenOf) (k : Sorted) (w : Bool) (p : Place) (d : ℕ) (s0 s1 s2 : Put) → x ≡ seen_in structs f → s1 ≡ went true f d s0 → s2 ≡ added (single_own u.AddressOf x k w p d) s1
    → s2 ≡ goes (λ l. code_ptr (address_in f.lvalue) d l) (labels_ptr (address_in f.lvalue)) s0
unfolding went
place_address structs f x k w p d s0 s1 s2 hx h1 h2 = h2 ∙ ap (λ (z : List FatStep). added z s1) (hidden_own x k w p d) ∙ ap (λ (z : Put). added (hidden x.spot d) z) h1
    ∙ ap (λ (z : SeenOf). added (hidden z.spot d) (goes (λ l. code_lvalue f.lvalue d l) (labels_lvalue f.lvalue) s0)) hx ∙ sym (address_goes f.lvalue d s0)

-- the struct at an address is copied from the place that is found
pub copied_walk : (structs : List StructType) (type : CType) (to : Lvalue) (q : Place) (f : Found) (x : SeenOf) (k : Sorted) (w : Bool) (p : Place) (size d : ℕ) (xs : List Scalar) (s0 s1 s2 s3 s4 : Put)
    → x ≡ seen_in structs f → size ≡ size_in structs type → xs ≡ scalars_of structs type
    → s1 ≡ goes (λ l. code_ptr (address_in to) d l) (labels_ptr (address_in to)) s0 → s2 ≡ went true f (d + 2) s1 → s3 ≡ added (single_own u.AddressOf x k w p (d + 2)) s2 → s4 ≡ added (copying size xs q x.place d) s3
    → s4 ≡ went_effect (struct_copied structs type to q f) d s0
copied_walk structs type to q f x k w p size d xs s0 s1 s2 s3 s4 hx hz hs h1 h2 h3 h4 = let C = copying (size_in structs type) (scalars_of structs type) q f.place d in
    let B : ℕ → List FatStep = λ l. code_ptr (address_in f.lvalue) (d + 2) l in let A : ℕ → List FatStep = λ l. code_ptr (address_in to) d l in
    h4 ∙ ap (λ (n : ℕ). added (copying n xs q x.place d) s3) hz ∙ ap (λ (es : List Scalar). added (copying (size_in structs type) es q x.place d) s3) hs
    ∙ ap (λ (z : SeenOf). added (copying (size_in structs type) (scalars_of structs type) q z.place d) s3) hx
    ∙ ap (λ (z : Put). added C z) (place_address structs f x k w p (d + 2) s1 s2 s3 hx h2 h3 ∙ ap (λ (z : Put). goes B (labels_ptr (address_in f.lvalue)) z) h1)
    ∙ sym (pair A B (labels_ptr (address_in to)) (labels_ptr (address_in f.lvalue)) C s0) ∙ sym (copied_effect structs type to q f d s0)

pub struct_walk : (structs : List StructType) (number : ℕ) (at : Standing) (offset : ℕ) (q : Place) (f : Found) (x : SeenOf) (k : Sorted) (w : Bool) (p : Place) (size d : ℕ) (xs : List Scalar) (s0 s1 s2 s3 s4 : Put)
    → x ≡ seen_in structs f → size ≡ size_in structs (Struct number) → xs ≡ scalars_of structs (Struct number)
    → s1 ≡ added (address_own at offset d) s0 → s2 ≡ went true f (d + 2) s1 → s3 ≡ added (single_own u.AddressOf x k w p (d + 2)) s2 → s4 ≡ added (copying size xs q x.place d) s3
    → s4 ≡ went_effect (struct_copied structs (Struct number) (part_at offset (standing_at at)) q f) d s0
struct_walk structs number at offset q f x k w p size d xs s0 s1 s2 s3 s4 hx hz hs h1 h2 h3 h4 =
    copied_walk structs (Struct number) (part_at offset (standing_at at)) q f x k w p size d xs s0 s1 s2 s3 s4 hx hz hs (h1 ∙ sym (part_address at offset d s0)) h2 h3 h4

-- ---- an array

pub text_walk : (around : Around) (t : CType) (count size : ℕ) (kind : IntKind) (facts : Facts) (at : Standing) (offset : ℕ) (q : Place) (f : Found) (text : List ℕ) (d : ℕ) (s0 s1 : Put) → facts ≡ facts_of around.structs t
    → kind ≡ kind_in facts.sort → size ≡ facts.size → bytes_of f.text ≡ text → s1 ≡ went_effects (text_filled q kind count (standing_at at) offset size text) d s0
    → s1 ≡ went_effects (one_filled around (Array t count) q (standing_at at) offset f) d s0
text_walk around t count size kind facts at offset q f text d s0 s1 hf hk hz ht h = let G : IntKind → ℕ → List ℕ → Put = λ k n b. went_effects (text_filled q k count (standing_at at) offset n b) d s0 in
    h ∙ ap (λ (k : IntKind). G k size text) hk ∙ ap (λ (n : ℕ). G (kind_in facts.sort) n text) hz ∙ ap (λ (z : Facts). G (kind_in z.sort) z.size text) hf
    ∙ ap (λ (k : IntKind). G k (size_in around.structs t) text) (sym (kind_by t)) ∙ ap (λ (b : List ℕ). G (kind_of t) (size_in around.structs t) b) (sym ht)

-- ---- by the shape of what is filled

pub shaped : (at : TypeId → CType) (t : CType) (x y : Shape) → t ≡ built at x → x ≡ y → t ≡ built at y
shaped at t x y means is = means ∙ ap (built at) is

pub one_none : (around : Around) (t : CType) (at : Standing) (offset : ℕ) (q : Place) (f : Found) (d : ℕ) (s s1 : Put) → t ≡ Void → s1 ≡ s → s1 ≡ went_effects (one_filled around t q (standing_at at) offset f) d s
one_none around t at offset q f d s s1 is h = h ∙ ap (λ (z : CType). went_effects (one_filled around z q (standing_at at) offset f) d s) (sym is)

pub one_number : (around : Around) (t : CType) (k : IntKind) (at : Standing) (offset : ℕ) (q : Place) (f : Found) (d : ℕ) (s s1 : Put) → t ≡ Int k → s1 ≡ went_scalar (o.Number k) at offset q f d s
    → s1 ≡ went_effects (one_filled around t q (standing_at at) offset f) d s
one_number around t k at offset q f d s s1 is h = h ∙ sym (scalar_form around (Int k) at offset q f d s (number_stays (spot_of (standing_at at)) k)) ∙ ap (λ (z : CType). went_effects (one_filled around z q (standing_at at) offset f) d s) (sym is)

pub one_pointer : (around : Around) (t target : CType) (at : Standing) (offset : ℕ) (q : Place) (f : Found) (d : ℕ) (s s1 : Put) → t ≡ Pointer target → s1 ≡ went_scalar o.Pointer at offset q f d s
    → s1 ≡ went_effects (one_filled around t q (standing_at at) offset f) d s
one_pointer around t target at offset q f d s s1 is h = h ∙ sym (scalar_form around (Pointer target) at offset q f d s (pointer_stays (spot_of (standing_at at)))) ∙ ap (λ (z : CType). went_effects (one_filled around z q (standing_at at) offset f) d s) (sym is)

pub one_other : (around : Around) (t u : CType) (at : Standing) (offset : ℕ) (q : Place) (f : Found) (d : ℕ) (s s1 : Put) → t ≡ u → s1 ≡ went_effects (one_filled around u q (standing_at at) offset f) d s
    → s1 ≡ went_effects (one_filled around t q (standing_at at) offset f) d s
one_other around t u at offset q f d s s1 is h = h ∙ ap (λ (z : CType). went_effects (one_filled around z q (standing_at at) offset f) d s) (sym is)

pub one_after : (t u : CType) (r a q : Reached) → t ≡ u → q ≡ after_one u r a → q ≡ after_one t r a
one_after t u r a q is h = h ∙ ap (λ (z : CType). after_one z r a) (sym is)
