-- Sizes and alignments within the limits are those of the layouts.
use Rattle.std.proofs.Common.{◌≡◌, ℕ, zero, suc, ◌+◌, ◌*◌, ◌<◌, ◌≤◌, max, Bool, true, false, ◌&&◌, ◌||◌, eqb, leb, cond, is_some, List, [], ◌∷◌, ◌++◌, map, length, refl, ap, sym, ◌∙◌, subst, arith, Option, None, Some, slice_get, ◌⊎◌, inl, inr}
use Rattle.std.specs.List.{All}
use Rattle.std.proofs.lemmas.Bool.{and_parts, leb-true, eq-eqb, ne_eqb, false≢true, cases_order}
use Rattle.std.proofs.lemmas.Option.{none-some, same_Some, slice_get_within, slice_get_past}
use Rattle.std.proofs.lemmas.List.{length_push}
use Rattle.std.proofs.lemmas.List.Elements.{All-head, All-tail}
use Rattle.mx_base.specs.declared.numbers.IntKind.{IntKind}
use Rattle.mx_base.specs.declared.numbers.IntKind.TheVariants.{I8, U8, I16, U16, I32, U32, I64, U64}
use Rattle.c_types.specs.declared.layout.Layout.{Layout}
use Rattle.c_types.specs.Types.{CType, Void, Int, Pointer, Array, Struct, StructType, is_ended, has_size}
use Rattle.c_types.specs.Layouts.{width, next_multiple, end_from, widest, struct_layout, layout_of, layout_of_struct}
use Rattle.c_check_rules.specs.declared.names.StructInfo.{StructInfo}
use Rattle.c_check_rules.specs.Sizes.{limit, times_in, laid_of, laid_size, laid_align, size_in, align_in, is_sized, is_within}
use Rattle.c_check_statements.specs.Placing.{placed, placed_after, kind_placed, members_placed, members_align, struct_laid, sized, or_nothing, from_start}
use Rattle.c_check_statements.specs.Structs.{kinds_in, open_struct}
use Rattle.c_check.specs.Standing.{IsLaid, HoldsValues, Stands}
use Rattle.c_check.specs.Numbering.{IsElement, CanBeBuilt, HasNumber, HoldsNumber, struct_type}

-- the layouts that are known of structs are those that their members make
pub record Agrees (structs : List StructInfo) (seen : List StructType) : Type 0 where
  pub laid : (number : ℕ) (layout : Layout) → laid_of (slice_get structs number) ≡ Some layout
      → (is_ended seen number ≡ true) × (layout_of_struct seen number ≡ layout) × (layout.size ≤ 16777216)

pub agrees-none : Agrees [] []
agrees-none = record { laid = λ number layout h. absurd (none-some layout h) }

narrow : (kind : IntKind) → width kind ≤ 16777216
narrow I8 = omega arith
narrow U8 = omega arith
narrow I16 = omega arith
narrow U16 = omega arith
narrow I32 = omega arith
narrow U32 = omega arith
narrow I64 = omega arith
narrow U64 = omega arith

-- ---- a chosen value

some-if : {A : Type 0} (b : Bool) (x y : A) → cond b (Some x) None ≡ Some y → (b ≡ true) × (x ≡ y)
some-if true x y h = (refl, same_Some x y h)
some-if false x y h = absurd (none-some y h)

sized-some : (o : Option ℕ) → is_some o ≡ true → (n : ℕ) × (o ≡ Some n)
sized-some None h = absurd (false≢true h)
sized-some (Some n) h = (n, refl)

pub record Times (n count size : ℕ) : Type 0 where
  pub is : n * count ≡ size
  pub within : size ≤ 16777216
  pub some : 1 ≤ count
  pub few : count ≤ 16777216

times-some : (n count size : ℕ) → times_in (Some n) count ≡ Some size → Times n count size
times-some n count size h =
    let parts = some-if (leb 1 count && leb count limit && leb (n * count) limit) (n * count) size h in
    let both = and_parts (leb 1 count && leb count limit) (leb (n * count) limit) parts.0 in
    let counts = and_parts (leb 1 count) (leb count limit) both.0 in
    record {
      is = parts.1;
      within = subst (λ (s : ℕ). s ≤ 16777216) parts.1 (leb-true (n * count) 16777216 both.1);
      some = leb-true 1 count counts.0;
      few = leb-true count 16777216 counts.1;
    }

widest-some : (ms : List Layout) → 1 ≤ widest ms
widest-some [] = omega arith
widest-some (m ∷ ms) = omega (arith, widest-some ms)

-- ---- types

module _ (structs : List StructInfo) (seen : List StructType) (agree : Agrees structs seen) where
  pub record Sized (kind : CType) (size : ℕ) : Type 0 where
    pub has : has_size seen kind ≡ true
    pub is : (layout_of seen kind).size ≡ size
    pub within : size ≤ 16777216

  array-sized : (element : CType) (count size : ℕ) → ((n : ℕ) → size_in structs element ≡ Some n → Sized element n) → (o : Option ℕ) → size_in structs element ≡ o → times_in o count ≡ Some size
      → Sized (Array element count) size
  array-sized element count size inner None is h = absurd (none-some size h)
  array-sized element count size inner (Some n) is h =
      let s = inner n is in
      let t = times-some n count size h in
      record { has = refl; is = ap (λ (s : ℕ). s * count) s.is ∙ t.is; within = t.within }

  pub size-agrees : (kind : CType) (size : ℕ) → size_in structs kind ≡ Some size → Sized kind size
  size-agrees Void size h = absurd (none-some size h)
  size-agrees (Int kind) size h =
      let same : width kind ≡ size = same_Some (width kind) size h in
      record { has = refl; is = same; within = subst (λ (s : ℕ). s ≤ 16777216) same (narrow kind) }
  size-agrees (Pointer target) size h =
      let same : 8 ≡ size = same_Some 8 size h in
      record { has = refl; is = same; within = omega arith }
  size-agrees (Array element count) size h = array-sized element count size (size-agrees element) (size_in structs element) refl h
  size-agrees (Struct number) size h = by (laid_of (slice_get structs number)) refl h
    where
      by : (o : Option Layout) → laid_of (slice_get structs number) ≡ o → laid_size o ≡ Some size → Sized (Struct number) size
      by None is h = absurd (none-some size h)
      by (Some layout) is h =
          let a = agree.laid number layout is in
          let same : layout.size ≡ size = same_Some layout.size size h in
          record { has = a.0; is = ap (λ (l : Layout). l.size) a.1 ∙ same; within = subst (λ (s : ℕ). s ≤ 16777216) same a.2 }

  pub is-element : (kind : CType) → is_sized structs kind ≡ true → IsElement seen kind
  is-element kind h =
      let some = sized-some (size_in structs kind) h in
      let s = size-agrees kind some.0 some.1 in
      (s.has, subst (λ (n : ℕ). n ≤ 16777216) (sym s.is) s.within)

  element-sized : (element : CType) (count : ℕ) → is_sized structs (Array element count) ≡ true → is_sized structs element ≡ true
  element-sized element count h = by (size_in structs element) refl h
    where
      by : (o : Option ℕ) → size_in structs element ≡ o → is_some (times_in o count) ≡ true → is_sized structs element ≡ true
      by None is h = absurd (false≢true h)
      by (Some n) is h = ap is_some is

  pub align-agrees : (kind : CType) → is_sized structs kind ≡ true → align_in structs kind ≡ (layout_of seen kind).align
  align-agrees Void h = refl
  align-agrees (Int kind) h = refl
  align-agrees (Pointer target) h = refl
  align-agrees (Array element count) h = align-agrees element (element-sized element count h)
  align-agrees (Struct number) h = by (laid_of (slice_get structs number)) refl h
    where
      by : (o : Option Layout) → laid_of (slice_get structs number) ≡ o → is_some (laid_size o) ≡ true → laid_align (laid_of (slice_get structs number)) ≡ (layout_of_struct seen number).align
      by None is h = absurd (false≢true h)
      by (Some layout) is h = ap laid_align is ∙ ap (λ (l : Layout). l.align) (sym (agree.laid number layout is).1)

  -- ---- what can be numbered

  element-parts : (element : CType) (count : ℕ) → is_sized structs (Array element count) ≡ true → IsElement seen element × (1 ≤ count) × (count ≤ 16777216)
  element-parts element count h = by (size_in structs element) refl h
    where
      by : (o : Option ℕ) → size_in structs element ≡ o → is_some (times_in o count) ≡ true → IsElement seen element × (1 ≤ count) × (count ≤ 16777216)
      by None is h = absurd (false≢true h)
      by (Some n) is h =
          let some = sized-some (times_in (Some n) count) h in
          let t = times-some n count some.0 some.1 in
          (is-element element (ap is_some is), t.some, t.few)

  pub can-be-built : (kind : CType) → is_within structs kind ≡ true → CanBeBuilt seen (length structs) kind
  can-be-built Void h = tt
  can-be-built (Int kind) h = tt
  can-be-built (Pointer target) h = can-be-built target h
  can-be-built (Array element count) h =
      let parts = and_parts (is_sized structs (Array element count)) (is_within structs element) h in
      let e = element-parts element count parts.0 in
      (can-be-built element parts.1, e.0, e.1, e.2)
  can-be-built (Struct number) h = by (slice_get structs number) refl h
    where
      by : (o : Option StructInfo) → slice_get structs number ≡ o → is_some o ≡ true → number < length structs
      by None is h = absurd (false≢true h)
      by (Some info) is h = slice_get_within structs number info is

  pub has-number : (kind : CType) → Stands structs kind → HasNumber seen (length structs) kind
  has-number kind h = (can-be-built kind h.0, h.1)

  pub holds-number : (kind : CType) → HoldsValues structs kind → HoldsNumber seen (length structs) kind
  holds-number kind h = (has-number kind h.0, is-element kind h.1)

  -- ---- members

  placed-none : (kinds : List CType) → members_placed structs limit None kinds ≡ None
  placed-none [] = refl
  placed-none (kind ∷ more) = placed-none more

  -- a member stands where its layout says
  member-placed : (free : ℕ) (kind : CType) → HoldsValues structs kind → kind_placed limit structs (Some free) kind ≡ placed limit free (layout_of seen kind).size (layout_of seen kind).align
  member-placed free kind values =
      let some = sized-some (size_in structs kind) values.1 in
      ap (λ (o : Option ℕ). placed limit free (or_nothing o) (align_in structs kind)) some.1
      ∙ ap (λ (n : ℕ). placed limit free n (align_in structs kind)) (sym (size-agrees kind some.0 some.1).is)
      ∙ ap (λ (n : ℕ). placed limit free (layout_of seen kind).size n) (align-agrees kind values.1)

  ends-behind : (more : List CType) (next end : ℕ) → (members_placed structs limit (Some next) more ≡ Some end → end_from next (map (layout_of seen) more) ≡ end)
      → (b : Bool) → members_placed structs limit (cond b (Some next) None) more ≡ Some end → end_from next (map (layout_of seen) more) ≡ end
  ends-behind more next end rest true h = rest h
  ends-behind more next end rest false h = absurd (none-some end (sym (placed-none more) ∙ h))

  ends : (free : ℕ) (kinds : List CType) (end : ℕ) → All (HoldsValues structs) kinds → members_placed structs limit (Some free) kinds ≡ Some end → end_from free (map (layout_of seen) kinds) ≡ end
  ends free [] end all h = same_Some free end h
  ends free (kind ∷ more) end all h =
      let next = next_multiple free (layout_of seen kind).align + (layout_of seen kind).size in
      ends-behind more next end (ends next more end (All-tail (HoldsValues structs) kind more all)) (leb next limit)
      (ap (λ (o : Option ℕ). members_placed structs limit o more) (sym (member-placed free kind (All-head (HoldsValues structs) kind more all))) ∙ h)

  aligns : (align : ℕ) (kinds : List CType) → 1 ≤ align → All (HoldsValues structs) kinds → members_align structs align kinds ≡ max align (widest (map (layout_of seen) kinds))
  aligns align [] some all = omega arith
  aligns align (kind ∷ more) some all =
      let same : align_in structs kind ≡ (layout_of seen kind).align = align-agrees kind (All-head (HoldsValues structs) kind more all).1 in
      let rest : members_align structs (max align (align_in structs kind)) more ≡ max (max align (align_in structs kind)) (widest (map (layout_of seen) more)) =
      aligns (max align (align_in structs kind)) more (omega arith) (All-tail (HoldsValues structs) kind more all) in
      omega arith

  -- what the code makes of the members is their layout
  laid-by : (kinds : List CType) (layout : Layout) → All (HoldsValues structs) kinds → (o : Option ℕ) → members_placed structs limit from_start kinds ≡ o
      → sized (placed_after limit o 0 (members_align structs 1 kinds)) (members_align structs 1 kinds) ≡ Some layout
      → (struct_layout (map (layout_of seen) kinds) ≡ layout) × (layout.size ≤ 16777216)
  laid-by kinds layout all None is h = absurd (none-some layout h)
  laid-by kinds layout all (Some end) is-end h = by (leb (next_multiple end align + 0) limit) refl h
    where
      align : ℕ
      align = members_align structs 1 kinds

      widest-is : align ≡ widest (map (layout_of seen) kinds)
      widest-is =
          let made : align ≡ max 1 (widest (map (layout_of seen) kinds)) = aligns 1 kinds (omega arith) all in
          omega (arith, widest-some (map (layout_of seen) kinds))

      by : (b : Bool) → leb (next_multiple end align + 0) limit ≡ b → sized (cond b (Some (next_multiple end align + 0)) None) align ≡ Some layout
          → (struct_layout (map (layout_of seen) kinds) ≡ layout) × (layout.size ≤ 16777216)
      by false fits h = absurd (none-some layout h)
      by true fits h =
          let is = same_Some _ layout h in
          let size-is : next_multiple (end_from 0 (map (layout_of seen) kinds)) (widest (map (layout_of seen) kinds)) ≡ next_multiple end align + 0 =
          ap (λ (e : ℕ). next_multiple e (widest (map (layout_of seen) kinds))) (ends 0 kinds end all is-end) ∙ (ap (next_multiple end) (sym widest-is) ∙ omega arith) in
          let made : struct_layout (map (layout_of seen) kinds) ≡ record { size = next_multiple end align + 0; align = align } = λ i. record { size = size-is i; align = sym widest-is i } in
          (made ∙ is, subst (λ (l : Layout). l.size ≤ 16777216) is (leb-true (next_multiple end align + 0) 16777216 fits))

  pub struct-agrees : (kinds : List CType) (layout : Layout) → All (HoldsValues structs) kinds → struct_laid limit structs kinds ≡ Some layout
      → (struct_layout (map (layout_of seen) kinds) ≡ layout) × (layout.size ≤ 16777216)
  struct-agrees kinds layout all h = laid-by kinds layout all (members_placed structs limit from_start kinds) refl h

-- ---- one struct more

get-before : {A : Type 0} (xs ys : List A) (i : ℕ) → i < length xs → slice_get (xs ++ ys) i ≡ slice_get xs i
get-before [] ys i h = absurd (omega arith)
get-before (x ∷ xs) ys zero h = refl
get-before (x ∷ xs) ys (suc i) h = get-before xs ys i (omega arith)

get-at : {A : Type 0} (xs : List A) (x : A) (i : ℕ) → i ≡ length xs → slice_get (xs ++ x ∷ []) i ≡ Some x
get-at [] x zero h = refl
get-at [] x (suc i) h = absurd (omega arith)
get-at (y ∷ ys) x zero h = absurd (omega arith)
get-at (y ∷ ys) x (suc i) h = get-at ys x i (omega arith)

pub agrees-open : (structs : List StructInfo) (seen : List StructType) (tag : List ℕ) → Agrees structs seen → Agrees (structs ++ open_struct tag ∷ []) seen
agrees-open structs seen tag agree = record { laid = λ number layout h. by number layout h (cases_order number (length structs)) }
  where
    by : (number : ℕ) (layout : Layout) → laid_of (slice_get (structs ++ open_struct tag ∷ []) number) ≡ Some layout → (number ≡ length structs) ⊎ ((number < length structs) ⊎ (length structs < number))
        → (is_ended seen number ≡ true) × (layout_of_struct seen number ≡ layout) × (layout.size ≤ 16777216)
    by number layout h (inl same) = absurd (none-some layout (ap laid_of (sym (get-at structs (open_struct tag) number same)) ∙ h))
    by number layout h (inr (inl below)) = agree.laid number layout (ap laid_of (sym (get-before structs (open_struct tag ∷ []) number below)) ∙ h)
    by number layout h (inr (inr past)) =
        absurd (none-some layout (ap laid_of (sym (slice_get_past (structs ++ open_struct tag ∷ []) number (omega (arith, length_push structs (open_struct tag))))) ∙ h))

pub agrees-closed : (structs : List StructInfo) (seen : List StructType) (s : StructInfo) → Agrees structs seen → IsLaid structs s → Agrees (structs ++ s ∷ []) (struct_type (length structs) s ∷ seen)
agrees-closed structs seen s agree laid = record { laid = λ number layout h. by number layout h (cases_order number (length structs)) }
  where
    opened : Agrees (structs ++ open_struct s.tag ∷ []) seen
    opened = agrees-open structs seen s.tag agree

    made : (struct_layout (map (layout_of seen) (kinds_in s.members)) ≡ laid.layout) × (laid.layout.size ≤ 16777216)
    made = struct-agrees (structs ++ open_struct s.tag ∷ []) seen opened (kinds_in s.members) laid.layout laid.members laid.by_members

    by : (number : ℕ) (layout : Layout) → laid_of (slice_get (structs ++ s ∷ []) number) ≡ Some layout → (number ≡ length structs) ⊎ ((number < length structs) ⊎ (length structs < number))
        → (is_ended (struct_type (length structs) s ∷ seen) number ≡ true) × (layout_of_struct (struct_type (length structs) s ∷ seen) number ≡ layout) × (layout.size ≤ 16777216)
    by number layout h (inl same) =
        let itself : eqb (length structs) number ≡ true = eq-eqb (length structs) number (sym same) in
        let is : laid.layout ≡ layout = same_Some laid.layout layout (sym laid.laid ∙ (ap laid_of (sym (get-at structs s number same)) ∙ h)) in (
          ap (λ (b : Bool). b || is_ended seen number) itself,
          ap (λ (b : Bool). cond b (struct_layout (map (layout_of seen) (kinds_in s.members))) (layout_of_struct seen number)) itself ∙ (made.0 ∙ is),
          subst (λ (l : Layout). l.size ≤ 16777216) is made.1,
        )
    by number layout h (inr (inl below)) =
        let other : eqb (length structs) number ≡ false = ne_eqb (length structs) number (λ e. omega arith) in
        let a = agree.laid number layout (ap laid_of (sym (get-before structs (s ∷ []) number below)) ∙ h) in (
          ap (λ (b : Bool). b || is_ended seen number) other ∙ a.0,
          ap (λ (b : Bool). cond b (struct_layout (map (layout_of seen) (kinds_in s.members))) (layout_of_struct seen number)) other ∙ a.1,
          a.2,
        )
    by number layout h (inr (inr past)) = absurd (none-some layout (ap laid_of (sym (slice_get_past (structs ++ s ∷ []) number (omega (arith, length_push structs s)))) ∙ h))
