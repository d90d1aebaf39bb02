-- The fields of a part hold their values, and its other bytes are as they were.
use Rattle.std.proofs.Common.{◌≡◌, refl, sym, ap, ◌∙◌, subst, ℕ, zero, suc, ◌+◌, ◌-◌, ◌<◌, ◌≤◌, nat_le, nat_eq, ◌==◌, Bool, true, false, true≢false, if◌then◌else◌, Some, List, [], ◌∷◌, ◌++◌, length, take, drop, get_or, slice_get, inl, inr, eqb-true, leb-true, arith, length-append, length-take-le}
use Rattle.std.specs.Prelude.{ℤ}
use Rattle.std.specs.List.{AllByRecursion, fold}
use Rattle.std.specs.Int.{w32, w64, cast_unsigned}
use Rattle.std.proofs.lemmas.Bool.{cases_lt}
use Rattle.std.proofs.lemmas.Bool.Decides.{nat_tests}
use Rattle.std.proofs.lemmas.List.{get_or-take, get_or-drop, get_or_append_left, get_or-append_right}
use Rattle.mx_base.specs.Memory.{Bytes, list_at}
use Rattle.obj_file.specs.declared.object.Object.{Object}
use Rattle.obj_file.specs.declared.object.Fix.{Fix}
use Rattle.obj_file.specs.declared.parts.End.{End}
use Rattle.obj_file.specs.declared.parts.Parts.{Parts}
use Rattle.obj_file.specs.InTurn.{InTurn, le}
use Rattle.obj_file.specs.Object.{IsFix, fix_size, fix_end, part_len}
use Rattle.obj_linker.specs.declared.plan.Plan.{Plan}
use Rattle.obj_linker.specs.Fixing.{field_bytes, fix_value, with_field, fixed}
use Rattle.linked_laws.specs.Fields.{IsBeside}
use Rattle.linked_laws.proofs.Parts.{fixed_once}

-- ---- one field

-- the bytes of a field stand in its place
inside_field : (bytes : List ℕ) (at : ℕ) (field : List ℕ) (j : ℕ) → at + length field ≤ length bytes → j < length field → get_or (with_field bytes at field) (at + j) 0 ≡ get_or field j 0
inside_field bytes at field j room less = ap (λ b. get_or (if b then take at bytes ++ field ++ drop (at + length field) bytes else bytes) (at + j) 0) yes ∙ shown
  where
    yes : nat_le (at + length field) (length bytes) ≡ true
    yes = grind (arith, nat_tests)

    shown : get_or (take at bytes ++ field ++ drop (at + length field) bytes) (at + j) 0 ≡ get_or field j 0
    shown =
        let front = length-take-le at bytes (omega arith) in
        let two = length-append (take at bytes) field in
        get_or_append_left (take at bytes ++ field) (drop (at + length field) bytes) 0 (at + j) (omega arith)
        ∙ get_or-append_right (take at bytes) field at (at + j) 0 front (omega arith) ∙ ap (λ n. get_or field n 0) (let e : at + j - at ≡ j = omega arith in e)

-- and the others are as they were
below_field : (bytes : List ℕ) (at : ℕ) (field : List ℕ) (i : ℕ) → i < at → get_or (with_field bytes at field) i 0 ≡ get_or bytes i 0
below_field bytes at field i low = by (nat_le (at + length field) (length bytes)) refl
  where
    by : (b : Bool) → nat_le (at + length field) (length bytes) ≡ b → get_or (if b then take at bytes ++ field ++ drop (at + length field) bytes else bytes) i 0 ≡ get_or bytes i 0
    by true e =
        let room = leb-true (at + length field) (length bytes) e in
        let front = length-take-le at bytes (omega arith) in
        let two = length-append (take at bytes) field in
        get_or_append_left (take at bytes ++ field) (drop (at + length field) bytes) 0 i (omega arith) ∙ get_or_append_left (take at bytes) field 0 i (omega arith) ∙ get_or-take at bytes i 0 low
    by false e = refl

above_field : (bytes : List ℕ) (at : ℕ) (field : List ℕ) (i : ℕ) → at + length field ≤ i → get_or (with_field bytes at field) i 0 ≡ get_or bytes i 0
above_field bytes at field i high = by (nat_le (at + length field) (length bytes)) refl
  where
    by : (b : Bool) → nat_le (at + length field) (length bytes) ≡ b → get_or (if b then take at bytes ++ field ++ drop (at + length field) bytes else bytes) i 0 ≡ get_or bytes i 0
    by true e =
        let room = leb-true (at + length field) (length bytes) e in
        let front = length-take-le at bytes (omega arith) in
        let two = length-append (take at bytes) field in
        let n : ℕ = at + length field in
        get_or-append_right (take at bytes ++ field) (drop n bytes) n i 0 (omega arith) high ∙ get_or-drop n bytes (i - n) 0 ∙ ap (λ x. get_or bytes x 0) (let e : n + (i - n) ≡ i = omega arith in e)
    by false e = refl

pub field_length : (form : ℕ) (value : ℤ) → length (field_bytes form value) ≡ fix_size form
unfolding le
field_length form value = by (form == 0)
  where
    by : (b : Bool) → length (if b then le w64 (cast_unsigned w64 value) else le w32 (cast_unsigned w32 value)) ≡ (if b then 8 else 4)
    by true = refl
    by false = refl

-- ---- all fields

-- a byte before the end of a field
record IsPast (e : End) (part i : ℕ) : Type 0 where
  parts : part ≤ e.part
  byte : part ≡ e.part → i < e.at

module _ (os : List Object) (plan : Plan) (object : ℕ) (o : Object) (part : ℕ) where
  abbrev all_fixed : List Fix → List ℕ → List ℕ
  all_fixed fs bytes = fold (fixed os plan object o part) bytes fs

  abbrev field_of : Fix → List ℕ
  field_of f = field_bytes f.form (fix_value os plan object o f)

  -- a byte beside a field is as it was
  once_beside : (bytes : List ℕ) (f : Fix) (i : ℕ) → IsBeside part i f → get_or (fixed os plan object o part bytes f) i 0 ≡ get_or bytes i 0
  once_beside bytes f i beside = by (f.part == part) refl
    where
      by : (b : Bool) → (f.part == part) ≡ b → get_or (if b then with_field bytes f.offset (field_of f) else bytes) i 0 ≡ get_or bytes i 0
      by false e = refl
      by true e =
          let here = beside (eqb-true f.part part e) in
          let size = field_length f.form (fix_value os plan object o f) in
          elim (cases_lt i f.offset) [
            | inl low ↦ below_field bytes f.offset (field_of f) i low
            | inr from ↦
                elim (cases_lt i (f.offset + fix_size f.form)) [
                  | inl within ↦ absurd (here from within)
                  | inr high ↦ above_field bytes f.offset (field_of f) i (omega arith)
                ]
          ]

  pub all_beside : (fs : List Fix) (bytes : List ℕ) (i : ℕ) → AllByRecursion (IsBeside part i) fs → get_or (fold (fixed os plan object o part) bytes fs) i 0 ≡ get_or bytes i 0
  all_beside [] bytes i beside = refl
  all_beside (f ∷ fs) bytes i beside = all_beside fs (fixed os plan object o part bytes f) i beside.1 ∙ once_beside bytes f i beside.0

  module _ (parts : Parts) (symbols : ℕ) where
    -- fields behind a byte are beside it
    behind_beside : (before : End) (fs : List Fix) (i : ℕ) → InTurn (IsFix parts symbols) fix_end before fs → IsPast before part i → AllByRecursion (IsBeside part i) fs
    behind_beside before [] i turn past = tt
    behind_beside before (f ∷ fs) i turn past =
        let from = turn.0.from_part in
        let own = past.parts in
        let size : 4 ≤ fix_size f.form = long (nat_eq f.form 0) in
        let first : IsBeside part i f = λ same low high. starts (nat_eq f.part before.part) refl same from own turn.0.after low in
        let next : IsPast (fix_end before f) part i = record {
          parts = omega arith;
          byte = λ same. ends same (nat_eq f.part before.part) refl from own turn.0.after size;
        } in
        (first, behind_beside (fix_end before f) fs i turn.1 next)
      where
        long : (b : Bool) → 4 ≤ (if b then 8 else 4)
        long true = omega arith
        long false = omega arith

        starts : (b : Bool) → nat_eq f.part before.part ≡ b → f.part ≡ part → before.part ≤ f.part → part ≤ before.part → (if b then before.at else 0) ≤ f.offset → f.offset ≤ i → ⊥
        starts true e same from own after low =
            let at = past.byte (sym same ∙ eqb-true f.part before.part e) in
            let no : ⊥ = omega arith in
            no
        starts false e same from own after low =
            let here : f.part ≡ before.part = omega arith in
            let no : nat_eq f.part before.part ≡ true = grind (arith, nat_tests) in
            absurd (true≢false (sym no ∙ e))

        ends : part ≡ f.part → (b : Bool) → nat_eq f.part before.part ≡ b → before.part ≤ f.part → part ≤ before.part → (if b then before.at else 0) ≤ f.offset → 4 ≤ fix_size f.form → i < f.offset + fix_size f.form
        ends same true e from own after size =
            let at = past.byte (same ∙ eqb-true f.part before.part e) in
            omega arith
        ends same false e from own after size =
            let here : f.part ≡ before.part = omega arith in
            let no : nat_eq f.part before.part ≡ true = grind (arith, nat_tests) in
            absurd (true≢false (sym no ∙ e))

    -- the bytes of a field are those of its value
    pub field_stands : (before : End) (fs : List Fix) (bytes : List ℕ) (n : ℕ) (f : Fix) → InTurn (IsFix parts symbols) fix_end before fs → slice_get fs n ≡ Some f → f.part ≡ part
        → length bytes ≡ part_len parts part → (j : ℕ) → j < fix_size f.form → get_or (fold (fixed os plan object o part) bytes fs) (f.offset + j) 0 ≡ get_or (field_of f) j 0
    field_stands before [] bytes n f turn h of_part len j less = cc
    field_stands before (x ∷ fs) bytes zero f turn h of_part len j less =
        let same : x ≡ f = cc in
        let is : IsFix parts symbols before f = subst (IsFix parts symbols before) same turn.0 in
        let rest : InTurn (IsFix parts symbols) fix_end (fix_end before f) fs = subst (λ y. InTurn (IsFix parts symbols) fix_end (fix_end before y) fs) same turn.1 in
        let past : IsPast (fix_end before f) part (f.offset + j) = record { parts = omega arith; byte = λ e. omega arith } in
        let size = field_length f.form (fix_value os plan object o f) in
        let yes : (f.part == part) ≡ true = grind (arith, nat_tests) in
        let within : f.offset + fix_size f.form ≤ part_len parts part = subst (λ p. f.offset + fix_size f.form ≤ part_len parts p) of_part is.within in
        ap (λ y. get_or (fold (fixed os plan object o part) (fixed os plan object o part bytes y) fs) (f.offset + j) 0) same
        ∙ (all_beside fs (fixed os plan object o part bytes f) (f.offset + j) (behind_beside (fix_end before f) fs (f.offset + j) rest past)
        ∙ (ap (λ b. get_or (if b then with_field bytes f.offset (field_of f) else bytes) (f.offset + j) 0) yes
        ∙ inside_field bytes f.offset (field_of f) j (omega arith) (omega arith)))
    field_stands before (x ∷ fs) bytes (suc n) f turn h of_part len j less =
        field_stands (fix_end before x) fs (fixed os plan object o part bytes x) n f turn.1 h of_part (fixed_once os plan object o part bytes x ∙ len) j less

-- ---- in memory

-- a byte of a list that stands in memory
pub byte_of_list : (n : ℕ) (m : Bytes) (a i : ℕ) → i < n → get_or (list_at n m a) i 0 ≡ m (a + i)
unfolding list_at
byte_of_list zero m a i less = absurd (omega arith)
byte_of_list (suc n) m a zero less = ap m (let e : a ≡ a + 0 = omega arith in e)
byte_of_list (suc n) m a (suc i) less = byte_of_list n m (a + 1) i (omega arith) ∙ ap m (let e : a + 1 + i ≡ a + suc i = omega arith in e)

pub list_by_bytes : (xs : List ℕ) (m : Bytes) (a : ℕ) → ((j : ℕ) → j < length xs → m (a + j) ≡ get_or xs j 0) → list_at (length xs) m a ≡ xs
unfolding list_at
list_by_bytes [] m a each = refl
list_by_bytes (x ∷ xs) m a each =
    let first : m a ≡ x = ap m (let e : a ≡ a + 0 = omega arith in e) ∙ each 0 (omega arith) in
    let rest = list_by_bytes xs m (a + 1) (λ j less. ap m (let e : a + 1 + j ≡ a + suc j = omega arith in e) ∙ each (suc j) (omega arith)) in
    (λ i. first i ∷ rest i)
