-- Files and places of an image, and how many segments and places there are.
use Rattle.std.proofs.Common.{◌≡◌, refl, sym, ap, ◌∙◌, subst, ℕ, zero, suc, ◌+◌, ◌<◌, ◌≤◌, ◌==◌, ◌&&◌, not, Bool, true, false, true≢false, cond, if◌then◌else◌, Some, List, [], ◌∷◌, ◌++◌, length, take, slice_get, sum_by, count_by, arith, length-append}
use Rattle.std.specs.List.{AllByRecursion, filter, fold}
use Rattle.std.specs.Prelude.{map}
use Rattle.std.proofs.lemmas.Bool.Decides.{nat_tests}
use Rattle.std.proofs.lemmas.List.{length-map}
use Rattle.std.proofs.lemmas.List.Sums.{length-filter, sum_by-cons}
use Rattle.mx_base.specs.Regions.{is_in, instrumented_code}
use Rattle.obj_file.specs.declared.object.Object.{Object}
use Rattle.obj_file.specs.declared.object.Spot3.{Spot3}
use Rattle.obj_file.specs.declared.image.Segment.{Segment}
use Rattle.obj_file.specs.declared.image.Spot4.{Spot4}
use Rattle.obj_file.specs.InTurn.{InTurn}
use Rattle.obj_file.specs.Object.{IsObject, IsSpot, after_spot, most_places}
use Rattle.obj_file.specs.Image.{IsFileName, IsPlace, after_place}
use Rattle.obj_linker.specs.declared.parts.Ends.{Ends}
use Rattle.obj_linker.specs.declared.parts.Spot.{Spot}
use Rattle.obj_linker.specs.declared.plan.Plan.{Plan}
use Rattle.obj_linker.specs.Symbols.{numbered, is_some_text}
use Rattle.obj_linker.specs.Placement.{aligned, spot_after, ends_after, spots_after, spot_of}
use Rattle.obj_linker.specs.Fixing.{fixed_part}
use Rattle.obj_linker.specs.Image.{segment, has_file, files, place_at, places_of, part_segment, code_part, code_segment, legacy_segment, data_segment}
use Rattle.obj_linker.specs.Faults.{parts_of, count_of_places}
use Rattle.obj_linker.proofs.Standing.{aligned_up}
use Rattle.linked_laws.proofs.Parts.{code_length, stored_length}
use Rattle.linked_laws.proofs.Segments.{PlacedFrom, later, own_spot, code_up, code_grows, chain}

-- ---- files

has_text : (text : List ℕ) → is_some_text text ≡ true → 1 ≤ length text
has_text [] h = absurd (true≢false (sym h))
has_text (b ∷ bs) h = omega arith

and_first : (a b : Bool) → (a && b) ≡ true → a ≡ true
and_first true b h = refl
and_first false b h = absurd (true≢false (sym h))

file_name : (o : Object) → IsObject o → has_file o ≡ true → IsFileName o.file
file_name o is h = record { some = has_text o.file (and_first (is_some_text o.file) (not (length o.places == 0)) h); short = is.short_file; text = is.file }

pub file_names : (os : List Object) → AllByRecursion IsObject os → AllByRecursion IsFileName (files os)
file_names [] all = tt
file_names (o ∷ os) all = by (file_names os all.1) (has_file o) refl
  where
    by : AllByRecursion IsFileName (files os) → (b : Bool) → has_file o ≡ b → AllByRecursion IsFileName (map (λ (o : Object). o.file) (cond b (o ∷ filter has_file os) (filter has_file os)))
    by more true e = (file_name o all.0 e, more)
    by more false e = more

pub count_of_files : (os : List Object) → length (files os) ≡ count_by has_file os
count_of_files os = length-map (filter has_file os) (λ (o : Object). o.file) ∙ length-filter has_file os

-- files before an object that has one are fewer than all
fewer_before : (os : List Object) (k : ℕ) (o : Object) → slice_get os k ≡ Some o → has_file o ≡ true → length (files (take k os)) < length (files os)
fewer_before [] k o h has = cc
fewer_before (x ∷ os) zero o h has =
    let same : x ≡ o = cc in
    let own : has_file x ≡ true = ap has_file same ∙ has in
    subst (λ b. 0 < length (map (λ (o : Object). o.file) (cond b (x ∷ filter has_file os) (filter has_file os)))) (sym own) (omega arith)
fewer_before (x ∷ os) (suc k) o h has = by (has_file x) (fewer_before os k o h has)
  where
    by : (b : Bool) → length (files (take k os)) < length (files os)
        → length (map (λ (o : Object). o.file) (cond b (x ∷ filter has_file (take k os)) (filter has_file (take k os)))) < length (map (λ (o : Object). o.file) (cond b (x ∷ filter has_file os) (filter has_file os)))
    by true less = omega arith
    by false less = less

-- ---- places

-- places in order, from an address up to another
abbrev pub PlacesBetween : (files from to : ℕ) → List Spot4 → Type 0
PlacesBetween files from to [] = from ≤ to
PlacesBetween files from to (p ∷ rest) = IsPlace files from p × PlacesBetween files (after_place from p) to rest

pub places_lower : (files a b to : ℕ) (xs : List Spot4) → a ≤ b → PlacesBetween files b to xs → PlacesBetween files a to xs
places_lower files a b to [] h all = omega arith
places_lower files a b to (p ∷ xs) h all =
    let first = all.0 in
    let after = first.after in
    (record { after = omega arith; in_code = first.in_code; file = first.file; line = first.line; col = first.col; access = first.access }, all.1)

places_behind : (files a b c : ℕ) (xs ys : List Spot4) → PlacesBetween files a b xs → PlacesBetween files b c ys → PlacesBetween files a c (xs ++ ys)
places_behind files a b c [] ys h k = places_lower files a b c ys h k
places_behind files a b c (p ∷ xs) ys h k = (h.0, places_behind files (after_place a p) b c xs ys h.1 k)

pub places_in_turn : (files a b : ℕ) (xs : List Spot4) → PlacesBetween files a b xs → InTurn (IsPlace files) after_place a xs
places_in_turn files a b [] h = tt
places_in_turn files a b (p ∷ xs) h = (h.0, places_in_turn files (after_place a p) b xs h.1)

moved_place : (all code file size off : ℕ) (p : Spot3) → file < all → 0x0100_0000 ≤ code → code + size ≤ 0x1100_0000 → IsSpot size off p → IsPlace all (code + off) (place_at code file p)
moved_place all code file size off p few low high is =
    let after = is.after in
    let within = is.within in
    record {
      after = omega arith;
      in_code = (let yes : is_in instrumented_code (code + p.offset) ≡ true = grind (arith, nat_tests) in yes);
      file = few;
      line = is.line;
      col = is.col;
      access = is.access;
    }

moved_places : (all code file size off : ℕ) (ps : List Spot3) → file < all → 0x0100_0000 ≤ code → code + size ≤ 0x1100_0000 → off ≤ size → InTurn (IsSpot size) after_spot off ps
    → PlacesBetween all (code + off) (code + size) (map (place_at code file) ps)
moved_places all code file size off [] few low high near is = omega arith
moved_places all code file size off (p ∷ ps) few low high near is =
    let within = is.0.within in
    let next : code + (p.offset + 1) ≡ code + p.offset + 1 = omega arith in (
      moved_place all code file size off p few low high is.0,
      subst (λ a. PlacesBetween all a (code + size) (map (place_at code file) ps)) next (moved_places all code file size (p.offset + 1) ps few low high (omega arith) is.1),
    )

no_places : (legacy : Bool) (ps : List Spot3) → legacy ≡ true → length ps ≤ most_places legacy → ps ≡ []
no_places legacy [] is few = refl
no_places true (p ∷ ps) is few = absurd (omega arith)
no_places false (p ∷ ps) is few = absurd (true≢false (sym is))

module _ (os : List Object) (plan : Plan) where
  -- the objects from the n-th on
  abbrev pub FromObject : ℕ → List Object → Type 0
  FromObject n xs = (j : ℕ) (o : Object) → slice_get xs j ≡ Some o → slice_get os (n + j) ≡ Some o

  places_once : (n : ℕ) (o : Object) (ends : Ends) (s : Spot) → IsObject o → slice_get os n ≡ Some o → s ≡ spot_after ends o → 0x0200_0000 ≤ ends.code → (ends_after ends o).code ≤ 0x1100_0000
      → PlacesBetween (length (files os)) ends.code (ends_after ends o).code (if has_file o then map (place_at s.code (length (files (take n os)))) o.places else [])
  places_once n o ends s is there at low high = by (has_file o) refl o.legacy refl (ap (λ (x : Spot). x.code) at) high
    where
      by : (h : Bool) → has_file o ≡ h → (b : Bool) → o.legacy ≡ b → s.code ≡ aligned 16 (if b then ends.legacy else ends.code)
          → (if b then ends.code else aligned 16 (if b then ends.legacy else ends.code) + length o.code) ≤ 0x1100_0000
          → PlacesBetween (length (files os)) ends.code (if b then ends.code else aligned 16 (if b then ends.legacy else ends.code) + length o.code)
          (if h then map (place_at s.code (length (files (take n os)))) o.places else [])
      by false e true l at end = omega arith
      by false e false l at end = (let up = aligned_up ends.code in omega arith)
      by true e true l at end =
          let none = no_places o.legacy o.places l is.few_places in
          subst (λ ps. PlacesBetween (length (files os)) ends.code ends.code (map (place_at s.code (length (files (take n os)))) ps)) (sym none) (omega arith)
      by true e false l at end =
          let up = aligned_up ends.code in
          let few = fewer_before os n o there e in
          let from : ends.code ≤ s.code + 0 = omega arith in
          let to : s.code + length o.code ≡ aligned 16 ends.code + length o.code = ap (λ a. a + length o.code) at in
          places_lower (length (files os)) ends.code (s.code + 0) (aligned 16 ends.code + length o.code) (map (place_at s.code (length (files (take n os)))) o.places) from
          (subst (λ b. PlacesBetween (length (files os)) (s.code + 0) b (map (place_at s.code (length (files (take n os)))) o.places)) to
          (moved_places (length (files os)) s.code (length (files (take n os))) (length o.code) 0 o.places few (omega arith) (omega arith) (omega arith) is.places))

  pub places_between : (n : ℕ) (xs : List Object) (ends : Ends) → AllByRecursion IsObject xs → FromObject n xs → PlacedFrom os plan n (spots_after ends xs) → 0x0200_0000 ≤ ends.code
      → (fold ends_after ends xs).code ≤ 0x1100_0000 → PlacesBetween (length (files os)) ends.code (fold ends_after ends xs).code (numbered (places_of os plan) n xs)
  places_between n [] ends all from placed low high = omega arith
  places_between n (o ∷ xs) ends all from placed low high =
      let next = ends_after ends o in
      let up = code_up ends o in
      let more = code_grows xs next in
      let here : slice_get os n ≡ Some o = ap (slice_get os) (let e : n ≡ n + 0 = omega arith in e) ∙ from zero o refl in
      places_behind (length (files os)) ends.code next.code (fold ends_after next xs).code (places_of os plan n o) (numbered (places_of os plan) (n + 1) xs)
      (places_once n o ends (spot_of plan n) all.0 here (own_spot os plan n (spot_after ends o) (spots_after next xs) placed) low (chain next.code (fold ends_after next xs).code 0x1100_0000 more high))
      (places_between (n + 1) xs next all.1 (λ j x h. ap (slice_get os) (let e : n + 1 + j ≡ n + suc j = omega arith in e) ∙ from (suc j) x h)
      (later os plan n (spot_after ends o) (spots_after next xs) placed) (chain 0x0200_0000 ends.code next.code low up) high)

  -- ---- how many

  places_counted : (n : ℕ) (o : Object) → length (places_of os plan n o) ≡ (if has_file o then length o.places else 0)
  places_counted n o = by (has_file o)
    where
      by : (b : Bool) → length (if b then map (place_at (spot_of plan n).code (length (files (take n os)))) o.places else []) ≡ (if b then length o.places else 0)
      by true = length-map o.places (place_at (spot_of plan n).code (length (files (take n os))))
      by false = refl

  pub count_places : (n : ℕ) (xs : List Object) → length (numbered (places_of os plan) n xs) ≡ count_of_places xs
  count_places n [] = refl
  count_places n (o ∷ xs) =
      length-append (places_of os plan n o) (numbered (places_of os plan) (n + 1) xs)
      ∙ ((λ i. places_counted n o i + count_places (n + 1) xs i) ∙ sym (sum_by-cons (λ (o : Object). if has_file o then length o.places else 0) o xs))

  -- of the three kinds
  abbrev pub part_segments : ℕ → List Object → ℕ
  part_segments n xs = length (numbered (code_segment os plan) n xs) + length (numbered (legacy_segment os plan) n xs) + length (numbered (data_segment os plan) n xs)

  part_counted : (at : ℕ) (bytes own : List ℕ) → length bytes ≡ length own → length (part_segment at bytes) ≡ (if length own == 0 then 0 else 1)
  part_counted at bytes own same = ap (λ n. length (if n == 0 then [] else segment at bytes ∷ [])) same ∙ by (length own == 0)
    where
      by : (b : Bool) → length (if b then [] else segment at bytes ∷ []) ≡ (if b then 0 else 1)
      by true = refl
      by false = refl

  code_or_legacy : (n : ℕ) (o : Object) → length (code_segment os plan n o) + length (legacy_segment os plan n o) ≡ length (code_part os plan n o)
  code_or_legacy n o = by o.legacy (code_part os plan n o)
    where
      by : (b : Bool) (xs : List Segment) → length (if b then [] else xs) + length (if b then xs else []) ≡ length xs
      by true xs = omega arith
      by false xs = omega arith

  pub count_parts : (n : ℕ) (xs : List Object) → part_segments n xs ≡ sum_by parts_of xs
  count_parts n [] = omega arith
  count_parts n (o ∷ xs) =
      let a = length-append (code_segment os plan n o) (numbered (code_segment os plan) (n + 1) xs) in
      let b = length-append (legacy_segment os plan n o) (numbered (legacy_segment os plan) (n + 1) xs) in
      let c = length-append (data_segment os plan n o) (numbered (data_segment os plan) (n + 1) xs) in
      let d = code_or_legacy n o in
      let e = part_counted (spot_of plan n).code (fixed_part os plan n o 1) o.code (code_length os plan n o) in
      let f = part_counted (spot_of plan n).stored (fixed_part os plan n o 2) o.stored (stored_length os plan n o) in
      let g = count_parts (n + 1) xs in
      let h = sum_by-cons parts_of o xs in
      omega arith
