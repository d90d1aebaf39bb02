-- What a source is checked by has the places of its plan: the end of its data, and the end of each frame.
use Rattle.std.proofs.Common.{◌≡◌, ℕ, zero, suc, pred, ◌+◌, ◌≤◌, min, Bool, true, false, not, ◌&&◌, ◌||◌, nat_le, nat_lt, is_some, List, [], ◌∷◌, map, refl, sym, ap, ap₂, subst, ◌∙◌, arith}
use Rattle.std.specs.Prelude.{Option, None, Some, if◌then◌else◌}
use Rattle.std.proofs.lemmas.Bool.Decides.{nat_tests}
use Rattle.c_types.specs.declared.layout.Layout.{Layout}
use Rattle.c_types.specs.Types.{CType, Void, Int, Pointer, Array, Struct, StructType}
use Rattle.c_types.specs.Layouts.{next_multiple, layout_of}
use Rattle.c_check_rules.specs.declared.names.StructInfo.{StructInfo}
use Rattle.c_check_rules.specs.declared.names.Variable.{Variable as Known}
use Rattle.c_check_rules.specs.Conversions.{is_scalar}
use Rattle.c_check_rules.specs.Sizes.{limit, size_in, align_in}
use Rattle.c_check_statements.specs.declared.state.BodyVariable.{BodyVariable}
use Rattle.c_check_statements.specs.Frames.{is_private, room_of, no_room, is_large}
use Rattle.c_check_statements.specs.Placing.{or_nothing, from_start}
use Rattle.c_check.specs.Accepted.{variables_placed, is_over}
use Rattle.place_plan.specs.declared.frames.Free.{Free}
use Rattle.place_plan.specs.Data.{end_after, globals_end}
use Rattle.place_plan.specs.Frames.{values_of, free_after, free_after_all}
use Rattle.place_plan.specs.Source.{global_known, variable_known}

some_is : {X : Type 0} (x y : X) → Some x ≡ Some y → x ≡ y
some_is x y h = cc

-- the sizes by which a source is checked are those of its types
abbrev pub Agrees : List StructInfo → List StructType → CType → Type 0
Agrees structs seen t = (size_in structs t ≡ Some (layout_of seen t).size) × (align_in structs t ≡ (layout_of seen t).align)

same_after : (structs : List StructInfo) (seen : List StructType) (t : CType) (free : ℕ) → Agrees structs seen t
    → next_multiple free (layout_of seen t).align + (layout_of seen t).size ≡ next_multiple free (align_in structs t) + or_nothing (size_in structs t)
same_after structs seen t free h = ap₂ (λ a s. next_multiple free a + s) (sym h.1) (sym (ap or_nothing h.0))

-- ---- the data

abbrev pub GlobalsAgree : List StructInfo → List StructType → List Known → Type 0
GlobalsAgree structs seen [] = Unit {0}
GlobalsAgree structs seen (v ∷ more) = Agrees structs seen v.kind × GlobalsAgree structs seen more

none_placed : (structs : List StructInfo) (vs : List Known) → variables_placed structs None vs ≡ None
none_placed structs [] = refl
none_placed structs (v ∷ more) = by_cases v.defined (none_placed structs more)
  where
    by_cases : (d : Bool) → variables_placed structs None more ≡ None → variables_placed structs (if d then None else None) more ≡ None
    by_cases true h = h
    by_cases false h = h

data_ends : (structs : List StructInfo) (seen : List StructType) (vs : List Known) (free x : ℕ) → GlobalsAgree structs seen vs → variables_placed structs (Some free) vs ≡ Some x → globals_end seen free (map global_known vs) ≡ x
data_ends structs seen [] free x all h = some_is free x h
data_ends structs seen (v ∷ more) free x all h =
    by_cases v.defined (nat_le (next_multiple free (align_in structs v.kind) + or_nothing (size_in structs v.kind)) limit) h (λ from y g. data_ends structs seen more from y all.1 g)
  where
    after : ℕ
    after = next_multiple free (align_in structs v.kind) + or_nothing (size_in structs v.kind)

    by_cases : (d b : Bool) → variables_placed structs (if d then (if b then Some after else None) else Some free) more ≡ Some x
        → ((from y : ℕ) → variables_placed structs (Some from) more ≡ Some y → globals_end seen from (map global_known more) ≡ y)
        → globals_end seen (end_after d (layout_of seen v.kind) free) (map global_known more) ≡ x
    by_cases true true g rest = ap (λ n. globals_end seen n (map global_known more)) (same_after structs seen v.kind free all.0) ∙ rest after x g
    by_cases true false g rest = let none = none_placed structs more in cc
    by_cases false b g rest = rest free x g

data_within : (structs : List StructInfo) (seen : List StructType) (vs : List Known) (texts : ℕ) (o : Option ℕ) → GlobalsAgree structs seen vs → variables_placed structs from_start vs ≡ o → is_over o texts ≡ false
    → globals_end seen 0 (map global_known vs) + texts ≤ 16777216
data_within structs seen vs texts None all e h = cc
data_within structs seen vs texts (Some x) all e h = let end = data_ends structs seen vs 0 x all e in let le : x + texts ≤ 16777216 = within x texts h in omega (arith, end, le)
  where
    within : (x texts : ℕ) → nat_lt 16777216 (x + texts) ≡ false → x + texts ≤ 16777216
    within x texts h = grind (arith, nat_tests)

-- the data of a source that isn't too large has room
pub data_has_room : (structs : List StructInfo) (seen : List StructType) (vs : List Known) (texts : ℕ) → GlobalsAgree structs seen vs → is_over (variables_placed structs from_start vs) texts ≡ false
    → globals_end seen 0 (map global_known vs) + texts ≤ 16777216
data_has_room structs seen vs texts all h = data_within structs seen vs texts (variables_placed structs from_start vs) all refl h

-- ---- frames

abbrev pub VariablesAgree : List StructInfo → List StructType → List BodyVariable → Type 0
VariablesAgree structs seen [] = Unit {0}
VariablesAgree structs seen (v ∷ more) = Agrees structs seen v.kind × VariablesAgree structs seen more

private_values : (taken : Bool) (t : CType) → (is_scalar t && not taken) ≡ true → values_of taken t ≡ suc (pred (values_of taken t))
private_values true Void h = cc
private_values true (Int kind) h = cc
private_values true (Pointer target) h = cc
private_values true (Array element count) h = cc
private_values true (Struct number) h = cc
private_values false Void h = cc
private_values false (Int kind) h = refl
private_values false (Pointer target) h = refl
private_values false (Array element count) h = cc
private_values false (Struct number) h = cc

frame_values : (taken : Bool) (t : CType) → (is_scalar t && not taken) ≡ false → values_of taken t ≡ 0
frame_values true t h = refl
frame_values false Void h = refl
frame_values false (Int kind) h = cc
frame_values false (Pointer target) h = cc
frame_values false (Array element count) h = refl
frame_values false (Struct number) h = refl

byte_stays : (values : ℕ) (layout : Layout) (free : Free) → values ≡ suc (pred values) → (free_after values layout free).byte ≡ free.byte
byte_stays zero layout free h = absurd (omega (arith, h))
byte_stays (suc n) layout free h = refl

byte_moves : (values : ℕ) (layout : Layout) (free : Free) → values ≡ 0 → (free_after values layout free).byte ≡ next_multiple free.byte layout.align + layout.size
byte_moves zero layout free h = refl
byte_moves (suc n) layout free h = absurd (omega (arith, h))

none_free : (structs : List StructInfo) (vs : List BodyVariable) (p : ℕ) → (room_of structs record { privates = p; free = None } vs).free ≡ None
none_free structs [] p = refl
none_free structs (v ∷ more) p = by_cases (is_private v) (λ q. none_free structs more q)
  where
    by_cases : (b : Bool) → ((q : ℕ) → (room_of structs record { privates = q; free = None } more).free ≡ None)
        → (room_of structs (if b then record { privates = min 65 (p + 1); free = None } else record { privates = p; free = None }) more).free ≡ None
    by_cases true h = h (min 65 (p + 1))
    by_cases false h = h p

-- a frame ends here, and within the limit
abbrev EndsAt : List StructType → List BodyVariable → Free → ℕ → Type 0
EndsAt seen vs free x = ((free_after_all seen free (map variable_known vs)).byte ≡ x) × (free.byte ≤ 1048576 → x ≤ 1048576)

frame_ends : (structs : List StructInfo) (seen : List StructType) (vs : List BodyVariable) (free : Free) (p x : ℕ) → VariablesAgree structs seen vs
    → (room_of structs record { privates = p; free = Some free.byte } vs).free ≡ Some x → EndsAt seen vs free x
frame_ends structs seen [] free p x all h = let e = some_is free.byte x h in (e, λ le. omega (arith, e, le))
frame_ends structs seen (v ∷ more) free p x all h =
    by_cases (is_private v) (nat_le after 1048576) refl refl h (λ from q y g. frame_ends structs seen more from q y all.1 g)
  where
    after : ℕ
    after = next_multiple free.byte (align_in structs v.kind) + or_nothing (size_in structs v.kind)

    next : Free
    next = free_after (values_of v.taken v.kind) (layout_of seen v.kind) free

    within : (n : ℕ) → nat_le n 1048576 ≡ true → n ≤ 1048576
    within n h = grind (arith, nat_tests)

    by_cases : (b d : Bool) → is_private v ≡ b → nat_le after 1048576 ≡ d
        → (room_of structs (if b then record { privates = min 65 (p + 1); free = Some free.byte } else record { privates = p; free = if d then Some after else None }) more).free ≡ Some x
        → ((from : Free) (q y : ℕ) → (room_of structs record { privates = q; free = Some from.byte } more).free ≡ Some y → EndsAt seen more from y)
        → EndsAt seen (v ∷ more) free x
    by_cases true d e f g rest =
        let stays : next.byte ≡ free.byte = byte_stays (values_of v.taken v.kind) (layout_of seen v.kind) free (private_values v.taken v.kind e) in
        let end = rest next (min 65 (p + 1)) x (subst (λ n. (room_of structs record { privates = min 65 (p + 1); free = Some n } more).free ≡ Some x) (sym stays) g) in
        (end.0, λ le. end.1 (omega (arith, stays, le)))
    by_cases false true e f g rest =
        let moves : next.byte ≡ after = byte_moves (values_of v.taken v.kind) (layout_of seen v.kind) free (frame_values v.taken v.kind e) ∙ same_after structs seen v.kind free.byte all.0 in
        let end = rest next p x (subst (λ n. (room_of structs record { privates = p; free = Some n } more).free ≡ Some x) (sym moves) g) in
        let le = within after f in
        (end.0, λ old. end.1 (omega (arith, moves, le)))
    by_cases false false e f g rest = let none = none_free structs more p in cc

frame_within : (structs : List StructInfo) (seen : List StructType) (vs : List BodyVariable) (o : Option ℕ) → VariablesAgree structs seen vs → (room_of structs no_room vs).free ≡ o → is_some o ≡ true
    → (free_after_all seen record { value = 0; byte = 0 } (map variable_known vs)).byte ≤ 1048576
frame_within structs seen vs None all e h = cc
frame_within structs seen vs (Some x) all e h = let end = frame_ends structs seen vs record { value = 0; byte = 0 } 0 x all e in let le = end.1 (omega arith) in omega (arith, end.0, le)

small_is_there : (b : Bool) (o : Option ℕ) → (b || not (is_some o)) ≡ false → is_some o ≡ true
small_is_there b (Some x) h = refl
small_is_there true None h = cc
small_is_there false None h = cc

-- the frame of a function whose room isn't too large ends within the limit
pub frame_has_room : (structs : List StructInfo) (seen : List StructType) (vs : List BodyVariable) → VariablesAgree structs seen vs → is_large (room_of structs no_room vs) ≡ false
    → (free_after_all seen record { value = 0; byte = 0 } (map variable_known vs)).byte ≤ 1048576
frame_has_room structs seen vs all h =
    let room = room_of structs no_room vs in
    frame_within structs seen vs room.free all refl (small_is_there (nat_lt 64 room.privates) room.free h)
