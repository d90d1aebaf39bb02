-- In memory the fields of a linked image hold their values.
use Rattle.std.specs.Prelude.{FitsSigned, ℤ, pos, negsuc, int_le}
use Rattle.std.proofs.Common.{◌≡◌, ◌≢◌, refl, sym, ap, ◌∙◌, subst, ℕ, zero, suc, ◌+◌, ◌-◌, ◌%◌, ◌<◌, ◌≤◌, ◌^◌, ◌==◌, ◌&&◌, ◌||◌, Bool, true, false, true≢false, if◌then◌else◌, IsTrue, Some, List, [], ◌∷◌, length, get_or, slice_get, eqb-true, arith}
use Rattle.std.specs.List.{AllByRecursion, fold}
use Rattle.std.specs.Int.{w32, w64, cast_signed, cast_unsigned, from_le_bytes, to_le_bytes}
use Rattle.std.proofs.lemmas.Bool.{and_parts}
use Rattle.std.proofs.lemmas.Bool.Decides.{nat_tests}
use Rattle.std.proofs.lemmas.Int.{to_z-of_z}
use Rattle.std.proofs.lemmas.Nat.{from_le_bytes-to_le_bytes_4}
use Rattle.mx_base.specs.Memory.{Bytes, list_at, number_at, with_list}
use Rattle.mx_base.proofs.MemoryLemmas.{list_at-with_list, number_at-same, number_at-with_number}
use Rattle.paged_memory.proofs.Numbers.{with_number_bytes}
use Rattle.obj_file.specs.declared.object.Object.{Object}
use Rattle.obj_file.specs.declared.object.Fix.{Fix}
use Rattle.obj_file.specs.declared.image.Image.{Image}
use Rattle.obj_file.specs.declared.parts.End.{End}
use Rattle.obj_file.specs.declared.parts.Parts.{Parts}
use Rattle.obj_file.specs.InTurn.{InTurn, le}
use Rattle.obj_file.specs.Loaded.{Holds}
use Rattle.obj_file.specs.Object.{IsObject, IsFix, fix_size, fix_end, no_fix, part_len, parts_of}
use Rattle.obj_linker.specs.Fixing.{field_at, field_bytes, fits, fix_value, fixed, fixed_part}
use Rattle.obj_linker.specs.Image.{segment}
use Rattle.obj_linker.specs.Placement.{plan_of, spot_of}
use Rattle.obj_linker.proofs.Fitted.{fixes_fit}
use Rattle.obj_linker.proofs.Members.{got}
use Rattle.linked_laws.specs.Fields.{AreFilled, HoldsValue, IsBeside}
use Rattle.linked_laws.specs.Linked.{AreLinked, bytes_in}
use Rattle.linked_laws.proofs.Answer.{passed}
use Rattle.linked_laws.proofs.Fields.{all_beside, byte_of_list, field_length, field_stands, list_by_bytes}
use Rattle.linked_laws.proofs.Parts.{code_length, stored_length}
use Rattle.linked_laws.proofs.Standing.{parts_stand}

-- ---- numbers

number_of_four : (m : Bytes) (a : ℕ) → from_le_bytes w32 (list_at 4 m a) ≡ number_at 4 m a
unfolding list_at number_at
number_of_four m a = omega arith

fits_word : (value : ℤ) → int_le (negsuc 0x7FFF_FFFF) value ≡ true → int_le value (pos 0x7FFF_FFFF) ≡ true → FitsSigned w32 value
fits_word (pos n) low high = record { sfits = (let h : n ≤ 0x7FFF_FFFF = grind (arith, nat_tests) in omega arith) }
fits_word (negsuc n) low high = record { sfits = (let h : n ≤ 0x7FFF_FFFF = grind (arith, nat_tests) in omega arith) }

below_word : (value : ℤ) → FitsSigned w32 value → cast_unsigned w32 value < 2 ^ 32
below_word (pos n) h = (let small = h.sfits in omega arith)
below_word (negsuc n) h = omega arith

short_value : (m : Bytes) (at form : ℕ) (value : ℤ) → IsTrue (fits form value) → list_at (fix_size form) m at ≡ field_bytes form value → form ≢ 0 → cast_signed w32 (number_at 4 m at) ≡ value
unfolding le
short_value m at form value fit bytes short = by (form == 0) refl fit bytes
  where
    by : (b : Bool) → (form == 0) ≡ b → IsTrue (b || (int_le (negsuc 0x7FFF_FFFF) value && int_le value (pos 0x7FFF_FFFF)))
        → list_at (if b then 8 else 4) m at ≡ (if b then le w64 (cast_unsigned w64 value) else le w32 (cast_unsigned w32 value)) → cast_signed w32 (number_at 4 m at) ≡ value
    by true e fit bytes = absurd (short (eqb-true form 0 e))
    by false e fit bytes =
        let two = and_parts (int_le (negsuc 0x7FFF_FFFF) value) (int_le value (pos 0x7FFF_FFFF)) fit in
        let signed = fits_word value two.0 two.1 in
        ap (cast_signed w32) (sym (number_of_four m at) ∙ (ap (from_le_bytes w32) bytes ∙ from_le_bytes-to_le_bytes_4 (cast_unsigned w32 value) (below_word value signed)))
        ∙ to_z-of_z w32 value signed

same_number : (n : ℕ) (m other : Bytes) (a : ℕ) → list_at n m a ≡ list_at n other a → number_at n m a ≡ number_at n other a
same_number n m other a same =
    number_at-same n m other a
    (λ x low high.
    let there : a + (x - a) ≡ x = omega (arith, low) in
    let within : x - a < n = omega (arith, low, high) in
    ap m (sym there) ∙ (sym (byte_of_list n m a (x - a) within) ∙ (ap (λ xs. get_or xs (x - a) 0) same ∙ (byte_of_list n other a (x - a) within ∙ ap other there))))

number_of_eight : (m : Bytes) (a v : ℕ) → list_at 8 m a ≡ to_le_bytes w64 v → number_at 8 m a ≡ v % 2 ^ 64
number_of_eight m a v bytes =
    same_number 8 m (with_list m a (to_le_bytes w64 v)) a (bytes ∙ sym (list_at-with_list (to_le_bytes w64 v) m a))
    ∙ (ap (λ other. number_at 8 other a) (with_number_bytes 8 m a v refl) ∙ number_at-with_number 8 m a v)

long_value : (m : Bytes) (at form : ℕ) (value : ℤ) → list_at (fix_size form) m at ≡ field_bytes form value → form ≡ 0 → number_at 8 m at ≡ cast_unsigned w64 value % 2 ^ 64
unfolding le
long_value m at form value bytes long = by (form == 0) (ap (λ n. n == 0) long) bytes
  where
    by : (b : Bool) → b ≡ true → list_at (if b then 8 else 4) m at ≡ (if b then le w64 (cast_unsigned w64 value) else le w32 (cast_unsigned w32 value))
        → number_at 8 m at ≡ cast_unsigned w64 value % 2 ^ 64
    by true e bytes = number_of_eight m at (cast_unsigned w64 value) bytes
    by false e bytes = absurd (true≢false (sym e))

-- ---- bytes of parts

byte_there : (m : Bytes) (at : ℕ) (bytes : List ℕ) (i : ℕ) → Holds m (segment at bytes) → i < length bytes → m (at + i) ≡ get_or bytes i 0
byte_there m at bytes i holds less = sym (byte_of_list (length bytes) m at i less) ∙ ap (λ xs. get_or xs i 0) holds

-- a field of a part is in code or in data
part_of : (parts : Parts) (symbols : ℕ) (before : End) (fs : List Fix) (n : ℕ) (f : Fix) → InTurn (IsFix parts symbols) fix_end before fs → slice_get fs n ≡ Some f → (before.part ≤ f.part) × (f.part ≤ 2) × (f.offset + fix_size f.form ≤ part_len parts f.part)
part_of parts symbols before [] n f turn h = cc
part_of parts symbols before (x ∷ fs) zero f turn h =
    let same : x ≡ f = cc in
    let is : IsFix parts symbols before f = subst (IsFix parts symbols before) same turn.0 in
    (is.from_part, is.part, is.within)
part_of parts symbols before (x ∷ fs) (suc n) f turn h =
    let more = part_of parts symbols (fix_end before x) fs n f turn.1 h in
    let first = turn.0.from_part in
    let later : x.part ≤ f.part = more.0 in
    (omega arith, more.1, more.2)

module _ (os : List Object) (v : Image) (l : AreLinked os v) (k : ℕ) (o : Object) (there : slice_get os k ≡ Some o) where
  object_is : IsObject o
  object_is = (let g = got os k o there in subst IsObject (g.is o) (l.objects k o g.less))

  fit_there : (n : ℕ) (f : Fix) → slice_get o.fixes n ≡ Some f → IsTrue (fits f.form (fix_value os (plan_of os) k o f))
  fit_there n f h =
      let g = got os k o there in
      let all = fixes_fit os (plan_of os) k o (passed os v l).far g.less (sym (g.is o)) in
      let own = got o.fixes n f h in
      subst (λ (x : Fix). IsTrue (fits x.form (fix_value os (plan_of os) k o x))) (own.is f) (all.each n f own.less)

  -- in a part that stands at an address
  field_in : (part at : ℕ) (bytes : List ℕ) → Holds (bytes_in v) (segment at (fold (fixed os (plan_of os) k o part) bytes o.fixes)) → length (fold (fixed os (plan_of os) k o part) bytes o.fixes) ≡ length bytes
      → length bytes ≡ part_len (parts_of o) part → (n : ℕ) (f : Fix) → slice_get o.fixes n ≡ Some f → f.part ≡ part
      → HoldsValue (bytes_in v) (at + f.offset) f.form (fix_value os (plan_of os) k o f)
  field_in part at bytes holds same len n f h of_part =
      let plan = plan_of os in
      let value : ℤ = fix_value os plan k o f in
      let all : List ℕ = fold (fixed os plan k o part) bytes o.fixes in
      let size = field_length f.form value in
      let turn = object_is.fixes in
      let range = part_of (parts_of o) (length o.symbols) no_fix o.fixes n f turn h in
      let within : f.offset + fix_size f.form ≤ part_len (parts_of o) part = subst (λ p. f.offset + fix_size f.form ≤ part_len (parts_of o) p) of_part range.2 in
      let there : list_at (fix_size f.form) (bytes_in v) (at + f.offset) ≡ field_bytes f.form value =
      ap (λ s. list_at s (bytes_in v) (at + f.offset)) (sym size)
      ∙ list_by_bytes (field_bytes f.form value) (bytes_in v) (at + f.offset)
      (λ j less. ap (bytes_in v) (let e : at + f.offset + j ≡ at + (f.offset + j) = omega arith in e)
      ∙ (byte_there (bytes_in v) at all (f.offset + j) holds (omega (arith, less, within, same, len, size))
      ∙ field_stands os plan k o part (parts_of o) (length o.symbols) no_fix o.fixes bytes n f turn h of_part len j (omega (arith, less, size)))) in
      record { bytes = there; long = long_value (bytes_in v) (at + f.offset) f.form value there; short = short_value (bytes_in v) (at + f.offset) f.form value (fit_there n f h) there }

  pub field_there : (n : ℕ) (f : Fix) → slice_get o.fixes n ≡ Some f → HoldsValue (bytes_in v) (field_at (plan_of os) k f) f.form (fix_value os (plan_of os) k o f)
  unfolding part_len
  field_there n f h = by (f.part == 1) refl
    where
      range : (1 ≤ f.part) × (f.part ≤ 2) × (f.offset + fix_size f.form ≤ part_len (parts_of o) f.part)
      range = part_of (parts_of o) (length o.symbols) no_fix o.fixes n f object_is.fixes h

      by : (b : Bool) → (f.part == 1) ≡ b → HoldsValue (bytes_in v) ((if b then (spot_of (plan_of os) k).code else (spot_of (plan_of os) k).stored) + f.offset) f.form (fix_value os (plan_of os) k o f)
      by true e = field_in 1 (spot_of (plan_of os) k).code o.code ((parts_stand os v l).code k o there) (code_length os (plan_of os) k o) refl n f h (eqb-true f.part 1 e)
      by false e =
          let low = range.0 in
          let high = range.1 in
          let two : f.part ≡ 2 = other low high e in
          field_in 2 (spot_of (plan_of os) k).stored o.stored ((parts_stand os v l).stored k o there) (stored_length os (plan_of os) k o) refl n f h two
        where
          other : 1 ≤ f.part → f.part ≤ 2 → (f.part == 1) ≡ false → f.part ≡ 2
          other low high e = grind (arith, nat_tests)

  pub code_there : (i : ℕ) → i < length o.code → AllByRecursion (IsBeside 1 i) o.fixes → bytes_in v ((spot_of (plan_of os) k).code + i) ≡ get_or o.code i 0
  code_there i less beside =
      let size = code_length os (plan_of os) k o in
      byte_there (bytes_in v) (spot_of (plan_of os) k).code (fixed_part os (plan_of os) k o 1) i ((parts_stand os v l).code k o there) (omega arith)
      ∙ all_beside os (plan_of os) k o 1 o.fixes o.code i beside

  pub stored_there : (i : ℕ) → i < length o.stored → AllByRecursion (IsBeside 2 i) o.fixes → bytes_in v ((spot_of (plan_of os) k).stored + i) ≡ get_or o.stored i 0
  stored_there i less beside =
      let size = stored_length os (plan_of os) k o in
      byte_there (bytes_in v) (spot_of (plan_of os) k).stored (fixed_part os (plan_of os) k o 2) i ((parts_stand os v l).stored k o there) (omega arith)
      ∙ all_beside os (plan_of os) k o 2 o.fixes o.stored i beside

pub filled : (os : List Object) (v : Image) → AreLinked os v → AreFilled os (plan_of os) (bytes_in v)
filled os v l = record { fields = λ k o h. field_there os v l k o h; code = λ k o h. code_there os v l k o h; stored = λ k o h. stored_there os v l k o h }
