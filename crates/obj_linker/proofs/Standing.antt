-- Where parts stand.
use Rattle.std.proofs.Common.{◌≡◌, refl, sym, ap, ◌∙◌, subst, ℕ, zero, suc, ◌+◌, ◌-◌, ◌*◌, ◌^◌, ◌<◌, ◌≤◌, Bool, true, false, if◌then◌else◌, Some, List, [], ◌∷◌, ◌++◌, length, take, get_or, slice_get, arith}
use Rattle.std.specs.List.{fold}
use Rattle.std.proofs.lemmas.Nat.{div-add-mod'}
use Rattle.std.proofs.lemmas.List.{take_more}
use Rattle.std.proofs.lemmas.List.Sums.{fold-append}
use Rattle.obj_file.specs.declared.object.Object.{Object}
use Rattle.obj_linker.specs.declared.parts.Spot.{Spot}
use Rattle.obj_linker.specs.declared.parts.Ends.{Ends}
use Rattle.obj_linker.specs.Placement.{aligned, starts, spot_after, ends_after, spots_after}
use Rattle.obj_linker.specs.Limits.{IsLowSpot, HasSmallParts}

-- ---- the loop

spots_more : (ends : Ends) (xs : List Object) (o : Object) → spots_after ends (xs ++ o ∷ []) ≡ spots_after ends xs ++ spot_after (fold ends_after ends xs) o ∷ []
spots_more ends [] o = refl
spots_more ends (x ∷ xs) o = ap (λ l. spot_after ends x ∷ l) (spots_more (ends_after ends x) xs o)

pub placed_more : (os : List Object) (k : ℕ) (o : Object) (ends : Ends) (items : List Spot) → k < length os → o ≡ get_or os k o → ends ≡ fold ends_after starts (take k os)
    → items ≡ spots_after starts (take k os) → items ++ spot_after ends o ∷ [] ≡ spots_after starts (take (k + 1) os)
placed_more os k o ends items h at is shown =
    (λ i. shown i ++ spot_after (is i) o ∷ [])
    ∙ (sym (spots_more starts (take k os) o) ∙ sym (ap (spots_after starts) (take_more os k o h ∙ ap (λ x. take k os ++ x ∷ []) (sym at))))

pub ends_more : (os : List Object) (k : ℕ) (o : Object) (ends : Ends) → k < length os → o ≡ get_or os k o → ends ≡ fold ends_after starts (take k os)
    → ends_after ends o ≡ fold ends_after starts (take (k + 1) os)
ends_more os k o ends h at is =
    ap (λ e. ends_after e o) is
    ∙ sym (ap (fold ends_after starts) (take_more os k o h ∙ ap (λ x. take k os ++ x ∷ []) (sym at)) ∙ fold-append ends_after starts (take k os) (o ∷ []))

-- ---- sizes

pub aligned_up : (at : ℕ) → at ≤ aligned 16 at
aligned_up at = (let all = div-add-mod' (at + (16 - 1)) 16 in omega arith)

pub aligned_gate : (at : ℕ) → (at ≤ aligned 128 at) × (aligned 128 at ≤ at + 127)
aligned_gate at = (let all = div-add-mod' (at + (128 - 1)) 128 in (omega arith, omega arith))

aligned_near : (at : ℕ) → aligned 16 at ≤ at + 15
aligned_near at = (let all = div-add-mod' (at + (16 - 1)) 16 in omega arith)

pub record Within (m : ℕ) (ends : Ends) : Type 0 where
  pub code : ends.code ≤ m
  pub legacy : ends.legacy ≤ m
  pub stored : ends.stored ≤ m

-- an object's small parts end at most 2^29 bytes after those before
pub within_more : (o : Object) → HasSmallParts o → (ends : Ends) (k : ℕ) → ends.code ≤ 2 ^ 30 + k * 2 ^ 29 → ends.legacy ≤ 2 ^ 30 + k * 2 ^ 29 → ends.stored ≤ 2 ^ 30 + k * 2 ^ 29
    → Within (2 ^ 30 + (k + 1) * 2 ^ 29) (ends_after ends o)
within_more o small ends k code legacy stored =
    let own = small.code in
    let own_stored = small.stored in
    let near = aligned_near ends.code in
    let near_legacy = aligned_near ends.legacy in
    let near_stored = aligned_near ends.stored in
    record {
      code = elim (o.legacy) as (λ b. (if b then ends.code else aligned 16 (if b then ends.legacy else ends.code) + length o.code) ≤ 2 ^ 30 + (k + 1) * 2 ^ 29) [
        | true ↦ omega arith
        | false ↦ omega arith
      ];
      legacy = elim (o.legacy) as (λ b. (if b then aligned 16 (if b then ends.legacy else ends.code) + length o.code else ends.legacy) ≤ 2 ^ 30 + (k + 1) * 2 ^ 29) [
        | true ↦ omega arith
        | false ↦ omega arith
      ];
      stored = omega arith;
    }

record Grows (a b : Ends) : Type 0 where
  code : a.code ≤ b.code
  legacy : a.legacy ≤ b.legacy
  stored : a.stored ≤ b.stored

grows_once : (ends : Ends) (o : Object) → Grows ends (ends_after ends o)
grows_once ends o = record {
  code = elim (o.legacy) as (λ b. ends.code ≤ (if b then ends.code else aligned 16 (if b then ends.legacy else ends.code) + length o.code)) [
    | true ↦ omega arith
    | false ↦ (let up = aligned_up ends.code in omega arith)
  ];
  legacy = elim (o.legacy) as (λ b. ends.legacy ≤ (if b then aligned 16 (if b then ends.legacy else ends.code) + length o.code else ends.legacy)) [
    | true ↦ (let up = aligned_up ends.legacy in omega arith)
    | false ↦ omega arith
  ];
  stored = (let up = aligned_up ends.stored in omega arith);
}

grows : (os : List Object) (ends : Ends) → Grows ends (fold ends_after ends os)
grows [] ends = record { code = omega arith; legacy = omega arith; stored = omega arith }
grows (o ∷ os) ends = (let one = grows_once ends o in let more = grows os (ends_after ends o) in record { code = omega arith; legacy = omega arith; stored = omega arith })

-- the address after the parts of a kind
abbrev pub end_of : Bool → Ends → ℕ
end_of legacy ends = if legacy then ends.legacy else ends.code

end_grows : (b : Bool) (x y : Ends) → Grows x y → end_of b x ≤ end_of b y
end_grows true x y g = g.legacy
end_grows false x y g = g.code

-- the k-th object's parts stand behind those before and before those behind
pub record Stands (os : List Object) (ends : Ends) (k : ℕ) (o : Object) : Type 0 where
  pub spot : Spot
  pub is : slice_get (spots_after ends os) k ≡ Some spot
  pub from : end_of o.legacy ends ≤ spot.code
  pub to : spot.code + length o.code ≤ end_of o.legacy (fold ends_after ends os)
  pub stored_from : ends.stored ≤ spot.stored
  pub stored_to : spot.stored + length o.stored ≤ (fold ends_after ends os).stored

own_end : (ends : Ends) (o : Object) → (spot_after ends o).code + length o.code ≤ end_of o.legacy (ends_after ends o)
own_end ends o =
    elim (o.legacy) as (λ b. aligned 16 (if b then ends.legacy else ends.code) + length o.code
    ≤ (if b then (if b then aligned 16 (if b then ends.legacy else ends.code) + length o.code else ends.legacy) else (if b then ends.code else aligned 16 (if b then ends.legacy else ends.code) + length o.code))) [
      | true ↦ omega arith
      | false ↦ omega arith
    ]

first_stands : (x : Object) (os : List Object) (ends : Ends) → Stands (x ∷ os) ends zero x
first_stands x os ends = record {
  spot = spot_after ends x;
  is = refl;
  from = aligned_up (end_of x.legacy ends);
  to = (let own = own_end ends x in let more = end_grows x.legacy (ends_after ends x) (fold ends_after (ends_after ends x) os) (grows os (ends_after ends x)) in
      le_trans ((spot_after ends x).code + length x.code) (end_of x.legacy (ends_after ends x)) (end_of x.legacy (fold ends_after (ends_after ends x) os)) own more);
  stored_from = aligned_up ends.stored;
  stored_to = (let more = grows os (ends_after ends x) in more.stored);
}
  where
    le_trans : (a b c : ℕ) → a ≤ b → b ≤ c → a ≤ c
    le_trans a b c p q = omega arith

more_stands : (x : Object) (os : List Object) (ends : Ends) (k : ℕ) (o : Object) → Stands os (ends_after ends x) k o → Stands (x ∷ os) ends (suc k) o
more_stands x os ends k o s = record {
  spot = s.spot;
  is = s.is;
  from = le_trans (end_of o.legacy ends) (end_of o.legacy (ends_after ends x)) s.spot.code (end_grows o.legacy ends (ends_after ends x) (grows_once ends x)) s.from;
  to = s.to;
  stored_from = le_trans ends.stored (ends_after ends x).stored s.spot.stored (grows_once ends x).stored s.stored_from;
  stored_to = s.stored_to;
}
  where
    le_trans : (a b c : ℕ) → a ≤ b → b ≤ c → a ≤ c
    le_trans a b c p q = omega arith

pub stands : (os : List Object) (ends : Ends) (k : ℕ) (o : Object) → slice_get os k ≡ Some o → Stands os ends k o
stands [] ends k o h = cc
stands (x ∷ os) ends zero o h = (let same : x ≡ o = cc in subst (λ y. Stands (x ∷ os) ends zero y) same (first_stands x os ends))
stands (x ∷ os) ends (suc k) o h = more_stands x os ends k o (stands os (ends_after ends x) k o h)

-- parts that end below 2^32 stand below 2^32
pub spots_low : (os : List Object) (ends : Ends) → (fold ends_after ends os).code < 2 ^ 32 → (fold ends_after ends os).legacy < 2 ^ 32 → (fold ends_after ends os).stored < 2 ^ 32
    → (k : ℕ) (d : Spot) → k < length (spots_after ends os) → IsLowSpot (get_or (spots_after ends os) k d)
unfolding first_stands
spots_low [] ends code legacy stored k d h = absurd (let no : ⊥ = omega (arith, h) in no)
spots_low (x ∷ os) ends code legacy stored zero d h =
    let s = first_stands x os ends in
    record {
      code = low x.legacy (spot_after ends x).code (length x.code) (fold ends_after (ends_after ends x) os) code legacy s.to;
      stored = (let to = s.stored_to in below (spot_after ends x).stored (length x.stored) (fold ends_after (ends_after ends x) os).stored to stored);
    }
  where
    below : (a n b : ℕ) → a + n ≤ b → b < 2 ^ 32 → a < 2 ^ 32
    below a n b p q = omega arith

    low : (b : Bool) (a n : ℕ) (final : Ends) → final.code < 2 ^ 32 → final.legacy < 2 ^ 32 → a + n ≤ end_of b final → a < 2 ^ 32
    low true a n final p q h = omega arith
    low false a n final p q h = omega arith
spots_low (x ∷ os) ends code legacy stored (suc k) d h =
    spots_low os (ends_after ends x) code legacy stored k d (let less : k < length (spots_after (ends_after ends x) os) = omega (arith, h) in less)

pub code_grows : (os : List Object) → 0x0200_0000 ≤ (fold ends_after starts os).code
code_grows os = (let more = grows os starts in more.code)
