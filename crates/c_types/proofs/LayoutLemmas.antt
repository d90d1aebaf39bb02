-- How layouts stay as structs are given their members, and what every layout keeps to.
use Rattle.std.proofs.Common.{◌≡◌, ℕ, ◌*◌, ◌≤◌, Bool, true, false, eqb, cond, ◌||◌, List, [], ◌∷◌, map, refl, ap, sym, ◌∙◌, subst, arith, true≢false}
use Rattle.std.specs.List.{AllByRecursion}
use Rattle.mx_base.specs.declared.numbers.IntKind.{IntKind}
use Rattle.mx_base.specs.declared.numbers.IntKind.TheVariants.{I8, U8, I16, U16, I32, U32, I64, U64}
use Rattle.c_types.specs.declared.layout.Layout.{Layout}
use Rattle.c_types.specs.Types.{CType, Void, Int, Pointer, Array, Struct, StructType, is_ended, members_of, has_size}
use Rattle.c_types.specs.Layouts.{width, layout_of, layout_of_struct, layout_by, struct_layout, widest}
use Rattle.c_types.specs.Sound.{IsSized, IsWithinLimits, AreEnded, kept_of}

-- what has a size keeps it
pub sized : (structs : List StructType) (c : CType) → IsWithinLimits structs c → has_size structs c ≡ true → IsSized structs c
sized structs Void elements has = absurd (true≢false (sym has))
sized structs (Int kind) elements has = tt
sized structs (Pointer target) elements has = tt
sized structs (Array element count) elements has = elements.0
sized structs (Struct number) elements has = has

-- and the other way round
pub has_size-sized : (structs : List StructType) (c : CType) → IsSized structs c → has_size structs c ≡ true
has_size-sized structs Void h = absurd h
has_size-sized structs (Int kind) h = refl
has_size-sized structs (Pointer target) h = refl
has_size-sized structs (Array element count) h = refl
has_size-sized structs (Struct number) h = h

same_number : (m n : ℕ) → eqb m n ≡ true → m ≡ n
same_number m n e = grind arith

same_itself : (n : ℕ) → eqb n n ≡ true
same_itself n = grind arith

-- a number that is in the list is not one that is not
pub apart : (structs : List StructType) (new number : ℕ) → is_ended structs new ≡ false → is_ended structs number ≡ true → eqb new number ≡ false
apart structs new number absent there = by (eqb new number) refl
  where
    by : (b : Bool) → eqb new number ≡ b → b ≡ false
    by false e = refl
    by true e = absurd (true≢false (sym there ∙ ap (is_ended structs) (sym (same_number new number e)) ∙ absent))

module _ (e : StructType) (earlier : List StructType) (absent : is_ended earlier e.number ≡ false) where
  -- one more struct is given its members: those before stay
  pub members-stay : (number : ℕ) → is_ended earlier number ≡ true → members_of (e ∷ earlier) number ≡ members_of earlier number
  members-stay number there = ap (λ b. cond b e.members (members_of earlier number)) (apart earlier e.number number absent there)

  pub ended-stays : (number : ℕ) → is_ended earlier number ≡ true → is_ended (e ∷ earlier) number ≡ true
  ended-stays number there = ap (λ b. b || is_ended earlier number) (apart earlier e.number number absent there) ∙ there

  pub struct-stays : (number : ℕ) → is_ended earlier number ≡ true → layout_of_struct (e ∷ earlier) number ≡ layout_of_struct earlier number
  struct-stays number there = ap (λ b. cond b (struct_layout (map (layout_of earlier) e.members)) (layout_of_struct earlier number)) (apart earlier e.number number absent there)

  pub layout-stays : (c : CType) → IsSized earlier c → layout_of (e ∷ earlier) c ≡ layout_of earlier c
  layout-stays Void h = absurd h
  layout-stays (Int kind) h = refl
  layout-stays (Pointer target) h = refl
  layout-stays (Array element count) h = ap (λ (l : Layout). record { size = l.size * count; align = l.align }) (layout-stays element h)
  layout-stays (Struct number) h = struct-stays number h

  pub sized-stays : (c : CType) → IsSized earlier c → IsSized (e ∷ earlier) c
  sized-stays Void h = absurd h
  sized-stays (Int kind) h = tt
  sized-stays (Pointer target) h = tt
  sized-stays (Array element count) h = sized-stays element h
  sized-stays (Struct number) h = ended-stays number h

  pub has_size-stays : (c : CType) → has_size earlier c ≡ true → has_size (e ∷ earlier) c ≡ true
  has_size-stays Void h = h
  has_size-stays (Int kind) h = refl
  has_size-stays (Pointer target) h = refl
  has_size-stays (Array element count) h = refl
  has_size-stays (Struct number) h = ended-stays number h

  pub elements-stay : (c : CType) → IsWithinLimits earlier c → IsWithinLimits (e ∷ earlier) c
  elements-stay Void h = tt
  elements-stay (Int kind) h = tt
  elements-stay (Pointer target) h = tt
  elements-stay (Array element count) h = (sized-stays element h.0, subst (λ (l : Layout). l.size ≤ 16777216) (sym (layout-stays element h.0)) h.1, h.2, h.3)
  elements-stay (Struct number) h = tt

  pub kept-stays : (c : CType) → IsWithinLimits earlier c → kept_of (e ∷ earlier) c ≡ kept_of earlier c
  kept-stays Void h = refl
  kept-stays (Int kind) h = refl
  kept-stays (Pointer target) h = refl
  kept-stays (Array element count) h = layout-stays (Array element count) h.0
  kept-stays (Struct number) h = refl

  pub all-elements-stay : (cs : List CType) → AllByRecursion (IsWithinLimits earlier) cs → AllByRecursion (IsWithinLimits (e ∷ earlier)) cs
  all-elements-stay [] h = tt
  all-elements-stay (c ∷ cs) h = (elements-stay c h.0, all-elements-stay cs h.1)

  pub all-kept-stay : (cs : List CType) → AllByRecursion (IsWithinLimits earlier) cs → map (kept_of (e ∷ earlier)) cs ≡ map (kept_of earlier) cs
  all-kept-stay [] h = refl
  all-kept-stay (c ∷ cs) h = λ i. kept-stays c h.0 i ∷ all-kept-stay cs h.1 i

  pub all-layouts-stay : (cs : List CType) → AllByRecursion (IsSized earlier) cs → map (layout_of (e ∷ earlier)) cs ≡ map (layout_of earlier) cs
  all-layouts-stay [] h = refl
  all-layouts-stay (c ∷ cs) h = λ i. layout-stays c h.0 i ∷ all-layouts-stay cs h.1 i

  pub all-sized-stay : (cs : List CType) → AllByRecursion (IsSized earlier) cs → AllByRecursion (IsSized (e ∷ earlier)) cs
  all-sized-stay [] h = tt
  all-sized-stay (c ∷ cs) h = (sized-stays c h.0, all-sized-stay cs h.1)

-- the members of a struct that has them have sizes
pub members-sized : (structs : List StructType) (number : ℕ) → AreEnded structs → is_ended structs number ≡ true → AllByRecursion (IsSized structs) (members_of structs number)
members-sized [] number all there = absurd (true≢false (sym there))
members-sized (e ∷ earlier) number all there = by (eqb e.number number) refl (members-sized earlier number all.2)
  where
    by : (b : Bool) → eqb e.number number ≡ b → (is_ended earlier number ≡ true → AllByRecursion (IsSized earlier) (members_of earlier number))
        → AllByRecursion (IsSized (e ∷ earlier)) (members_of (e ∷ earlier) number)
    by true same rest = subst (AllByRecursion (IsSized (e ∷ earlier))) (sym (ap (λ b. cond b e.members (members_of earlier number)) same)) (all-sized-stay e earlier all.0 e.members all.1)
    by false other rest =
        let before : is_ended earlier number ≡ true = sym (ap (λ b. b || is_ended earlier number) other) ∙ there in
        subst (AllByRecursion (IsSized (e ∷ earlier))) (sym (ap (λ b. cond b e.members (members_of earlier number)) other))
        (all-sized-stay e earlier all.0 (members_of earlier number) (rest before))

-- a struct is laid out by the layouts of its members
pub struct-laid : (structs : List StructType) (number : ℕ) → AreEnded structs → is_ended structs number ≡ true → layout_of_struct structs number ≡ struct_layout (map (layout_of structs) (members_of structs number))
struct-laid [] number all there = absurd (true≢false (sym there))
struct-laid (e ∷ earlier) number all there = by (eqb e.number number) refl (struct-laid earlier number all.2)
  where
    by : (b : Bool) → eqb e.number number ≡ b
        → (is_ended earlier number ≡ true → layout_of_struct earlier number ≡ struct_layout (map (layout_of earlier) (members_of earlier number)))
        → layout_of_struct (e ∷ earlier) number ≡ struct_layout (map (layout_of (e ∷ earlier)) (members_of (e ∷ earlier) number))
    by true same rest =
        ap (λ b. cond b (struct_layout (map (layout_of earlier) e.members)) (layout_of_struct earlier number)) same
        ∙ ap struct_layout (sym (all-layouts-stay e earlier all.0 e.members all.1))
        ∙ ap (λ ms. struct_layout (map (layout_of (e ∷ earlier)) ms)) (sym (ap (λ b. cond b e.members (members_of earlier number)) same))
    by false other rest =
        let before : is_ended earlier number ≡ true = sym (ap (λ b. b || is_ended earlier number) other) ∙ there in
        ap (λ b. cond b (struct_layout (map (layout_of earlier) e.members)) (layout_of_struct earlier number)) other
        ∙ rest before
        ∙ ap struct_layout (sym (all-layouts-stay e earlier all.0 (members_of earlier number) (members-sized earlier number all.2 before)))
        ∙ ap (λ ms. struct_layout (map (layout_of (e ∷ earlier)) ms)) (sym (ap (λ b. cond b e.members (members_of earlier number)) other))

-- every alignment is 1 to 8
pub record IsAligned (l : Layout) : Type 0 where
  pub some : 1 ≤ l.align
  pub few : l.align ≤ 8

width-aligned : (kind : IntKind) → (1 ≤ width kind) × (width kind ≤ 8)
width-aligned I8 = (omega arith, omega arith)
width-aligned U8 = (omega arith, omega arith)
width-aligned I16 = (omega arith, omega arith)
width-aligned U16 = (omega arith, omega arith)
width-aligned I32 = (omega arith, omega arith)
width-aligned U32 = (omega arith, omega arith)
width-aligned I64 = (omega arith, omega arith)
width-aligned U64 = (omega arith, omega arith)

pub widest-aligned : (ms : List Layout) → AllByRecursion IsAligned ms → (1 ≤ widest ms) × (widest ms ≤ 8)
widest-aligned [] h = (omega arith, omega arith)
widest-aligned (m ∷ ms) h =
    let first = h.0 in
    let rest = widest-aligned ms h.1 in
    (omega (arith, first.some, rest.0), omega (arith, first.few, rest.1))

by-aligned : (of_struct : ℕ → Layout) → ((n : ℕ) → IsAligned (of_struct n)) → (c : CType) → IsAligned (layout_by of_struct c)
by-aligned of_struct all Void = record { some = omega arith; few = omega arith }
by-aligned of_struct all (Int kind) = let w = width-aligned kind in record { some = w.0; few = w.1 }
by-aligned of_struct all (Pointer target) = record { some = omega arith; few = omega arith }
by-aligned of_struct all (Array element count) = let e = by-aligned of_struct all element in record { some = e.some; few = e.few }
by-aligned of_struct all (Struct number) = all number

all-by-aligned : (of_struct : ℕ → Layout) → ((n : ℕ) → IsAligned (of_struct n)) → (cs : List CType) → AllByRecursion IsAligned (map (layout_by of_struct) cs)
all-by-aligned of_struct all [] = tt
all-by-aligned of_struct all (c ∷ cs) = (by-aligned of_struct all c, all-by-aligned of_struct all cs)

struct-aligned : (structs : List StructType) (number : ℕ) → IsAligned (layout_of_struct structs number)
struct-aligned [] number = record { some = omega arith; few = omega arith }
struct-aligned (e ∷ earlier) number = by (eqb e.number number) (λ n. struct-aligned earlier n)
  where
    by : (b : Bool) → ((n : ℕ) → IsAligned (layout_of_struct earlier n)) → IsAligned (cond b (struct_layout (map (layout_of earlier) e.members)) (layout_of_struct earlier number))
    by true rest =
        let w = widest-aligned (map (layout_of earlier) e.members) (all-by-aligned (layout_of_struct earlier) rest e.members) in
        record { some = w.0; few = w.1 }
    by false rest = rest number

pub layout-aligned : (structs : List StructType) (c : CType) → IsAligned (layout_of structs c)
layout-aligned structs c = by-aligned (layout_of_struct structs) (struct-aligned structs) c

pub all-layouts-aligned : (structs : List StructType) (cs : List CType) → AllByRecursion IsAligned (map (layout_of structs) cs)
all-layouts-aligned structs cs = all-by-aligned (layout_of_struct structs) (struct-aligned structs) cs
