-- The types of a list of shapes, and how they stay as the list grows.
use Rattle.std.proofs.Common.{◌≡◌, ℕ, ◌+◌, ◌<◌, List, [], ◌∷◌, ◌++◌, fold, length, get_or, take, drop, refl, ap, sym, ◌∙◌, arith}
use Rattle.std.proofs.lemmas.List.{get_or_append_left, get_or_push, take_more, take-append-drop, length-take-le, length_push}
use Rattle.std.proofs.lemmas.List.Sums.{fold-append}
use Rattle.c_types.specs.declared.shape.TypeId.{TypeId}
use Rattle.c_types.specs.declared.shape.Shape.{Shape}
use Rattle.c_types.specs.declared.shape.Shape.TheVariants as s
use Rattle.c_types.specs.Types.{CType, Void, Pointer, Array, built, types_of}
use Rattle.c_types.specs.Sound.{NamesBelow, AllNameBelow}

-- the type of a number in a list of types
abbrev pub among : List CType → TypeId → CType
among types t = get_or types t.0 Void

abbrev step : List CType → Shape → List CType
step before shape = before ++ built (among before) shape ∷ []

length-steps : (before : List CType) (shapes : List Shape) → length (fold step before shapes) ≡ length before + length shapes
length-steps before [] = omega arith
length-steps before (x ∷ xs) = omega (arith, length-steps (step before x) xs, length_push before (built (among before) x))

pub length-types_of : (shapes : List Shape) → length (types_of shapes) ≡ length shapes
length-types_of shapes = omega (arith, length-steps [] shapes)

get_or-steps : (before : List CType) (shapes : List Shape) (i : ℕ) → i < length before → get_or (fold step before shapes) i Void ≡ get_or before i Void
get_or-steps before [] i h = refl
get_or-steps before (x ∷ xs) i h =
    let longer : i < length (step before x) = omega (arith, length_push before (built (among before) x)) in
    get_or-steps (step before x) xs i longer ∙ get_or_append_left before (built (among before) x ∷ []) Void i h

-- one more shape
pub types_of-push : (shapes : List Shape) (shape : Shape) → types_of (shapes ++ shape ∷ []) ≡ types_of shapes ++ built (among (types_of shapes)) shape ∷ []
types_of-push shapes shape = fold-append step [] shapes (shape ∷ [])

-- the types that are there stay
pub type-stays : (shapes more : List Shape) (i : ℕ) → i < length shapes → get_or (types_of (shapes ++ more)) i Void ≡ get_or (types_of shapes) i Void
type-stays shapes more i h =
    let inside : i < length (types_of shapes) = omega (arith, length-types_of shapes) in
    ap (λ ts. get_or ts i Void) (fold-append step [] shapes more) ∙ get_or-steps (types_of shapes) more i inside

-- what a shape is built of matters only below the number that bounds its names
pub built-same : (begun n : ℕ) (f g : TypeId → CType) (shape : Shape) → NamesBelow begun n shape → ((t : TypeId) → t.0 < n → f t ≡ g t) → built f shape ≡ built g shape
built-same begun n f g s.Void h same = refl
built-same begun n f g (s.Int kind) h same = refl
built-same begun n f g (s.Pointer target) h same = ap Pointer (same target h)
built-same begun n f g (s.Array element count) h same = ap (λ c. Array c count) (same element h)
built-same begun n f g (s.Struct number) h same = refl

-- each type is built of its shape by the types of the table
pub type-built : (begun : ℕ) (shapes : List Shape) (i : ℕ) (d : Shape) → AllNameBelow begun shapes → i < length shapes
    → get_or (types_of shapes) i Void ≡ built (among (types_of shapes)) (get_or shapes i d)
type-built begun shapes i d below h =
    let front = take i shapes in
    let x = get_or shapes i d in
    let rest = drop (i + 1) shapes in
    let long : length front ≡ i = length-take-le i shapes (omega arith) in
    let parts : shapes ≡ (front ++ x ∷ []) ++ rest = sym (take-append-drop (i + 1) shapes) ∙ ap (λ a. a ++ rest) (take_more shapes i d h) in
    let here : i < length (front ++ x ∷ []) = omega (arith, length_push front x) in
    let one : get_or (types_of shapes) i Void ≡ get_or (types_of (front ++ x ∷ [])) i Void =
    ap (λ a. get_or (types_of a) i Void) parts ∙ type-stays (front ++ x ∷ []) rest i here in
    let two : get_or (types_of (front ++ x ∷ [])) i Void ≡ built (among (types_of front)) x =
    ap (λ ts. get_or ts i Void) (types_of-push front x) ∙ get_or_push (types_of front) (built (among (types_of front)) x) Void i (length-types_of front ∙ long) in
    let whole : shapes ≡ front ++ drop i shapes = sym (take-append-drop i shapes) in
    let agree : (t : TypeId) → t.0 < i → among (types_of front) t ≡ among (types_of shapes) t =
    λ t lt. sym (ap (λ a. get_or (types_of a) t.0 Void) whole ∙ type-stays front (drop i shapes) t.0 (omega arith)) in
    one ∙ two ∙ built-same begun i (among (types_of front)) (among (types_of shapes)) x (below i d h) agree
