-- Where a name stands among the files held, and what a change there makes of them.
use Rattle.std.proofs.Common.{◌≡◌, ◌≢◌, ℕ, ◌+◌, ◌<◌, ◌≤◌, Bool, true, false, not, cond, Option, None, Some, List, [], ◌∷◌, ◌++◌, length, map, set, get_or, refl, sym, ap, ◌∙◌, arith, one-add, ◌-◌, take, drop, min, MatchOption, nat_lt}
use Rattle.std.specs.List.{position, position_or_len}
use Rattle.std.proofs.lemmas.List.{length-map, length-take, length-drop, take_all, get_or-take, map-set, map-append, take_more_set}
use Rattle.std.proofs.lemmas.Grind.{common_steps}
use Rattle.std.proofs.Math.Seq.{take-set-lt}
use Rattle.std.proofs.Math.ListN.{get_or-map}
use Rattle.std.proofs.lemmas.Bool.Decides.{nat_tests}
use Rattle.mx_base.specs.Slot.{SlotState}
use Rattle.std.specs.Str.{bytes_eq}
use Rattle.std.specs.Option.{option_map}
use Rattle.std.proofs.lemmas.Slice.Eq.{bytes_eq-Decides}
use Rattle.mx_base.specs.Shelf.{HeldFile, ShelfState, is_named, file_named, new_file, with_file, with_untold, has_room, IsPlaceOf}

abbrev pub place_in : List HeldFile → List ℕ → ℕ
place_in held name = position_or_len (is_named name) held

pub position_or_len-map : {X Y : Type 0} (f : X → Y) (p : Y → Bool) (xs : List X) → position_or_len p (map f xs) ≡ position_or_len (λ x. p (f x)) xs
position_or_len-map f p [] = refl
position_or_len-map f p (x ∷ xs) = ap (λ n. cond (not (p (f x))) (1 + n) 0) (position_or_len-map f p xs)

pub with_file-found : (held : List HeldFile) (name bytes : List ℕ) → place_in held name < length held → with_file held name bytes ≡ set held (place_in held name) (new_file name bytes)
with_file-found [] name bytes within = absurd (omega arith)
with_file-found (f ∷ fs) name bytes within =
    elim (bytes_eq f.name name) as (λ b. cond (not b) (1 + place_in fs name) 0 < length (f ∷ fs) → cond b (new_file name bytes ∷ fs) (f ∷ with_file fs name bytes) ≡ set (f ∷ fs) (cond (not b) (1 + place_in fs name) 0) (new_file name bytes)) [
      | true ↦ λ h. refl
      | false ↦ λ h. rw one-add (ap (λ l. f ∷ l) (with_file-found fs name bytes (omega arith)))
    ] within

pub with_file-absent : (held : List HeldFile) (name bytes : List ℕ) → length held ≤ place_in held name → with_file held name bytes ≡ held ++ new_file name bytes ∷ []
with_file-absent [] name bytes beyond = refl
with_file-absent (f ∷ fs) name bytes beyond =
    elim (bytes_eq f.name name) as (λ b. length (f ∷ fs) ≤ cond (not b) (1 + place_in fs name) 0 → cond b (new_file name bytes ∷ fs) (f ∷ with_file fs name bytes) ≡ f ∷ (fs ++ new_file name bytes ∷ [])) [
      | true ↦ λ h. absurd (omega arith)
      | false ↦ λ h. ap (λ l. f ∷ l) (with_file-absent fs name bytes (omega arith))
    ] beyond

abbrev pub untold : HeldFile → HeldFile
untold f = record f { told = false }

pub with_untold-found : (held : List HeldFile) (name : List ℕ) (d : HeldFile) → place_in held name < length held → with_untold held name ≡ set held (place_in held name) (untold (get_or held (place_in held name) d))
with_untold-found [] name d within = absurd (omega arith)
with_untold-found (f ∷ fs) name d within =
    elim (bytes_eq f.name name) as (λ b. cond (not b) (1 + place_in fs name) 0 < length (f ∷ fs) → cond b (untold f ∷ fs) (f ∷ with_untold fs name) ≡ set (f ∷ fs) (cond (not b) (1 + place_in fs name) 0) (untold (get_or (f ∷ fs) (cond (not b) (1 + place_in fs name) 0) d))) [
      | true ↦ λ h. refl
      | false ↦ λ h. rw one-add (ap (λ l. f ∷ l) (with_untold-found fs name d (omega arith)))
    ] within

pub with_untold-absent : (held : List HeldFile) (name : List ℕ) → length held ≤ place_in held name → with_untold held name ≡ held
with_untold-absent [] name beyond = refl
with_untold-absent (f ∷ fs) name beyond =
    elim (bytes_eq f.name name) as (λ b. length (f ∷ fs) ≤ cond (not b) (1 + place_in fs name) 0 → cond b (untold f ∷ fs) (f ∷ with_untold fs name) ≡ f ∷ fs) [
      | true ↦ λ h. absurd (omega arith)
      | false ↦ λ h. ap (λ l. f ∷ l) (with_untold-absent fs name (omega arith))
    ] beyond

pub file_named-found : (held : List HeldFile) (name : List ℕ) (d : HeldFile) → place_in held name < length held → file_named held name ≡ Some (get_or held (place_in held name) d)
file_named-found [] name d within = absurd (omega arith)
file_named-found (f ∷ fs) name d within =
    elim (bytes_eq f.name name) as (λ b. cond (not b) (1 + place_in fs name) 0 < length (f ∷ fs) → cond b (Some f) (file_named fs name) ≡ Some (get_or (f ∷ fs) (cond (not b) (1 + place_in fs name) 0) d)) [
      | true ↦ λ h. refl
      | false ↦ λ h. rw one-add (file_named-found fs name d (omega arith))
    ] within

pub file_named-absent : (held : List HeldFile) (name : List ℕ) → length held ≤ place_in held name → file_named held name ≡ None
file_named-absent [] name beyond = refl
file_named-absent (f ∷ fs) name beyond =
    elim (bytes_eq f.name name) as (λ b. length (f ∷ fs) ≤ cond (not b) (1 + place_in fs name) 0 → cond b (Some f) (file_named fs name) ≡ None) [
      | true ↦ λ h. absurd (omega arith)
      | false ↦ λ h. file_named-absent fs name (omega arith)
    ] beyond

pub IsPlaceOf-position : (slots : List SlotState) (name : List ℕ) (place : Option ℕ) → place ≡ position (λ s. is_named name s.file) slots → IsPlaceOf (map (λ s. s.file) slots) name place
IsPlaceOf-position slots name place is =
    let same = position_or_len-map (λ (s : SlotState). s.file) (is_named name) slots in
    let long = length-map slots (λ (s : SlotState). s.file) in
    rw (is, same, long) (
    elim (nat_lt (position_or_len (λ s. is_named name s.file) slots) (length slots)) as (λ b. nat_lt (position_or_len (λ s. is_named name s.file) slots) (length slots) ≡ b
    → MatchOption (cond b (Some (position_or_len (λ s. is_named name s.file) slots)) None) (length slots ≤ position_or_len (λ s. is_named name s.file) slots) (λ i. (i ≡ position_or_len (λ s. is_named name s.file) slots) × (i < length slots))) [
      | true ↦ λ e. (refl, grind (arith, nat_tests))
      | false ↦ λ e. grind (arith, nat_tests)
    ] refl)

-- the files of the first slots
abbrev pub held_of : ℕ → List SlotState → List HeldFile
held_of used slots = map (λ s. s.file) (take used slots)

-- a place among the files held, and the slot there
pub record SlotAt (used : ℕ) (slots : List SlotState) (name : List ℕ) (i : ℕ) (s : SlotState) : Type 0 where
  pub first : i ≡ place_in (held_of used slots) name
  pub within : i < length (held_of used slots)
  pub slot : s ≡ get_or slots i s

pub used_above : {used : ℕ} {slots : List SlotState} {name : List ℕ} {i : ℕ} {s : SlotState} → SlotAt used slots name i s → (i < used) × (i < length slots)
used_above {used} {slots} h = let e = length-map (take used slots) (λ (s : SlotState). s.file) in
    let m = length-take used slots in omega (arith, h.within, e, m)

pub held_at : {used : ℕ} {slots : List SlotState} {name : List ℕ} {i : ℕ} {s : SlotState} → SlotAt used slots name i s → get_or (held_of used slots) i s.file ≡ s.file
held_at {used} {slots} {name} {i} {s} h =
    let below = (used_above h).0 in
    get_or-map (λ (s : SlotState). s.file) (take used slots) i s ∙ ap (λ (s : SlotState). s.file) (get_or-take used slots i s below ∙ sym h.slot)

pub file_named-slot : {used : ℕ} {slots : List SlotState} {name : List ℕ} {i : ℕ} {s : SlotState} → SlotAt used slots name i s → file_named (held_of used slots) name ≡ Some s.file
file_named-slot {used} {slots} {name} {i} {s} h =
    let within : place_in (held_of used slots) name < length (held_of used slots) = rw (← h.first) h.within in
    file_named-found (held_of used slots) name s.file within ∙ ap Some (rw (← h.first) (held_at h))

pub with_file-slot : {used : ℕ} {slots : List SlotState} {name : List ℕ} {i : ℕ} {s : SlotState} (h : SlotAt used slots name i s) (bytes : List ℕ) (t : SlotState) → t.file ≡ new_file name bytes → held_of used (set slots i t) ≡ with_file (held_of used slots) name bytes
with_file-slot {used} {slots} {name} {i} {s} h bytes t is =
    let within : place_in (held_of used slots) name < length (held_of used slots) = rw (← h.first) h.within in
    let below = (used_above h).0 in
    rw (take-set-lt used slots i t below, map-set (λ (s : SlotState). s.file) (take used slots) i t, is, with_file-found (held_of used slots) name bytes within, ← h.first) refl

pub with_untold-slot : {used : ℕ} {slots : List SlotState} {name : List ℕ} {i : ℕ} {s : SlotState} (h : SlotAt used slots name i s) (t : SlotState) → t.file ≡ untold s.file → held_of used (set slots i t) ≡ with_untold (held_of used slots) name
with_untold-slot {used} {slots} {name} {i} {s} h t is =
    let within : place_in (held_of used slots) name < length (held_of used slots) = rw (← h.first) h.within in
    let below = (used_above h).0 in
    rw (take-set-lt used slots i t below, map-set (λ (s : SlotState). s.file) (take used slots) i t, is, with_untold-found (held_of used slots) name s.file within, ← h.first, held_at h) refl

pub with_file-next : (used : ℕ) (slots : List SlotState) (name bytes : List ℕ) (t : SlotState) → used < length slots → length (held_of used slots) ≤ place_in (held_of used slots) name → t.file ≡ new_file name bytes → held_of (used + 1) (set slots used t) ≡ with_file (held_of used slots) name bytes
with_file-next used slots name bytes t below beyond is =
    rw (take_more_set slots used t below, map-append (λ (s : SlotState). s.file) (take used slots) (t ∷ []), is, with_file-absent (held_of used slots) name bytes beyond) refl

pub drop-min : (bytes : List ℕ) (at : ℕ) → drop (min at (length bytes)) bytes ≡ drop at bytes
drop-min bytes at = grind (arith, common_steps)

-- ---- the name that a change is about, and every other name

pub bytes_eq_self : (xs : List ℕ) → bytes_eq xs xs ≡ true
bytes_eq_self xs = (bytes_eq-Decides xs xs).1 refl

pub bytes_eq_other : (xs ys : List ℕ) → xs ≢ ys → bytes_eq xs ys ≡ false
bytes_eq_other xs ys apart = elim (bytes_eq xs ys) as (λ b. bytes_eq xs ys ≡ b → b ≡ false) [
  | true ↦ λ e. absurd (apart ((bytes_eq-Decides xs ys).0 e))
  | false ↦ λ e. refl
] refl

pub file_named-with_file : (held : List HeldFile) (name bytes : List ℕ) → file_named (with_file held name bytes) name ≡ Some (new_file name bytes)
file_named-with_file [] name bytes = rw (bytes_eq_self name) refl
file_named-with_file (f ∷ fs) name bytes = elim (bytes_eq f.name name) as (λ b. bytes_eq f.name name ≡ b → file_named (cond b (new_file name bytes ∷ fs) (f ∷ with_file fs name bytes)) name ≡ Some (new_file name bytes)) [
  | true ↦ λ e. rw (bytes_eq_self name) refl
  | false ↦ λ e. rw e (file_named-with_file fs name bytes)
] refl

pub file_named-with_file_other : (held : List HeldFile) (name bytes other : List ℕ) → other ≢ name → file_named (with_file held name bytes) other ≡ file_named held other
file_named-with_file_other [] name bytes other apart = let no = bytes_eq_other name other (λ e. apart (sym e)) in rw no refl
file_named-with_file_other (f ∷ fs) name bytes other apart =
    let no = bytes_eq_other name other (λ e. apart (sym e)) in
    elim (bytes_eq f.name name) as (λ b. bytes_eq f.name name ≡ b → file_named (cond b (new_file name bytes ∷ fs) (f ∷ with_file fs name bytes)) other ≡ cond (bytes_eq f.name other) (Some f) (file_named fs other)) [
      | true ↦ λ e. let same = (bytes_eq-Decides f.name name).0 e in rw (no, same, no) refl
      | false ↦ λ e. ap (cond (bytes_eq f.name other) (Some f)) (file_named-with_file_other fs name bytes other apart)
    ] refl

pub file_named-with_untold : (held : List HeldFile) (name : List ℕ) → file_named (with_untold held name) name ≡ option_map untold (file_named held name)
file_named-with_untold [] name = refl
file_named-with_untold (f ∷ fs) name = elim (bytes_eq f.name name) as (λ b. bytes_eq f.name name ≡ b → file_named (cond b (untold f ∷ fs) (f ∷ with_untold fs name)) name ≡ option_map untold (cond b (Some f) (file_named fs name))) [
  | true ↦ λ e. rw e refl
  | false ↦ λ e. rw e (file_named-with_untold fs name)
] refl

pub file_named-with_untold_other : (held : List HeldFile) (name other : List ℕ) → other ≢ name → file_named (with_untold held name) other ≡ file_named held other
file_named-with_untold_other [] name other apart = refl
file_named-with_untold_other (f ∷ fs) name other apart =
    let no = bytes_eq_other name other (λ e. apart (sym e)) in
    elim (bytes_eq f.name name) as (λ b. bytes_eq f.name name ≡ b → file_named (cond b (untold f ∷ fs) (f ∷ with_untold fs name)) other ≡ cond (bytes_eq f.name other) (Some f) (file_named fs other)) [
      | true ↦ λ e. let same = (bytes_eq-Decides f.name name).0 e in rw (same, no) refl
      | false ↦ λ e. ap (cond (bytes_eq f.name other) (Some f)) (file_named-with_untold_other fs name other apart)
    ] refl

-- the slice from an offset on, where the offset is kept within the bytes
pub from_offset : (d bytes : List ℕ) (at m : ℕ) → d ≡ bytes → m ≡ min at (length bytes) → take (length d - m) (drop m d) ≡ drop at bytes
from_offset d bytes at m same is = rw (same, is, drop-min bytes at) (
    let long = length-drop at bytes in
    take_all (length bytes - min at (length bytes)) (drop at bytes) (omega (arith, long)))

pub shelf_same : (a b : ShelfState) → a.held ≡ b.held → a.files ≡ b.files → a.each ≡ b.each → a ≡ b
shelf_same a b p q r = λ i. record { held = p i; files = q i; each = r i }

-- ---- when there is room

pub has_room-held : (s : ShelfState) (name bytes : List ℕ) (f : HeldFile) → length name ≤ 255 → length bytes ≤ s.each → file_named s.held name ≡ Some f → true ≡ has_room s name bytes
has_room-held s name bytes f short fits held = rw held (grind (arith, nat_tests))

pub has_room-next : (s : ShelfState) (name bytes : List ℕ) → length name ≤ 255 → length bytes ≤ s.each → file_named s.held name ≡ None → length s.held < s.files → true ≡ has_room s name bytes
has_room-next s name bytes short fits absent below = rw absent (grind (arith, nat_tests))

pub has_room-full : (s : ShelfState) (name bytes : List ℕ) → file_named s.held name ≡ None → s.files ≤ length s.held → false ≡ has_room s name bytes
has_room-full s name bytes absent full = rw absent (grind (arith, nat_tests))

pub length-held_of : (used : ℕ) (slots : List SlotState) → used ≤ length slots → length (held_of used slots) ≡ used
length-held_of used slots below = length-map (take used slots) (λ (s : SlotState). s.file) ∙ (let e = length-take used slots in omega (arith, e))
