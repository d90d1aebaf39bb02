-- Images that are read are those that are spelled.
use Rattle.std.proofs.Common.{◌≡◌, ◌↔◌, ℕ, ◌+◌, ◌^◌, ◌<◌, ◌≤◌, true, List, [], ◌∷◌, ◌++◌, length, Result, Ok, Err, refl, sym, ap, subst, ◌∙◌, append_assoc, arith, inl, inr}
use Rattle.std.specs.Prelude.{nat_lt, nat_le, ◌&&◌, max, All, IfOk}
use Rattle.std.proofs.lemmas.List.Elements.{All-from_recursion}
use Rattle.obj_file.specs.declared.fault.FormFault.{FormFault}
use Rattle.std.specs.List.{AllByRecursion, flat_map}
use Rattle.std.specs.Int.{w8, w32, w64}
use Rattle.std.specs.Str.{is_utf8}
use Rattle.std.proofs.lemmas.Str.{IsUtf8-from_is_utf8, is_utf8-from_IsUtf8}
use Rattle.std.proofs.lemmas.Bool.Decides.{nat_tests}
use Rattle.std.proofs.lemmas.List.Concat.{flat_map-cons}
use Rattle.mx_base.specs.Regions.{is_in, instrumented_code}
use Rattle.obj_file.specs.declared.image.Image.{Image}
use Rattle.obj_file.specs.declared.image.Segment.{Segment}
use Rattle.obj_file.specs.declared.image.Spot4.{Spot4}
use Rattle.obj_file.specs.declared.parts.Version.{Version}
use Rattle.obj_file.specs.declared.parts.Version.TheVariants.{First, Second}
use Rattle.obj_file.specs.declared.parts.Access.{Access}
use Rattle.obj_file.specs.InTurn.{InTurn, le, sized, counted}
use Rattle.obj_file.specs.Fields.{and_then, ◌>>=◌, number_at, number_in, sized_at, counted_at, Tells}
use Rattle.obj_file.specs.Image.{room_at, segment_end, IsSegment, IsFileName, after_place, IsPlace, IsImage, image_magic, segment_text, file_text, place_text, image_text, SpellsImage}
use Rattle.obj_file.specs.Versions.{Shows, access_text, access_at, version_at}
use Rattle.obj_file.specs.StoreLaw.{HaveBytes}
use Rattle.obj_file.specs.ImageReading.{segment_start_at, segment_at, file_at, place_at, image_at, image_of}
use Rattle.obj_file.proofs.Agree.{IsBytes, and_then_ok, and_then-ok, ok_is, Takes, Takes-then, Agrees, wide8, wide32, wide64, number_agrees, checked_agrees, told, InRange, number_in_agrees, IsSized, sized_agrees, IsCounted, counted_agrees, whole_found, takes_all, whole_again}
use Rattle.obj_file.proofs.VersionLaws.{access_agrees, version_agrees, split_rules, join_rules, all_told, front_bytes, back_bytes, are_bytes}

-- ---- segments

pub record IsStart (from at : ℕ) : Type 0 where
  pub after : from ≤ at
  pub some : 0 < room_at at

room_small : (at : ℕ) → room_at at < 2 ^ 32
unfolding room_at
room_small at = grind (arith, nat_tests)

room_near : (at : ℕ) → 0 < room_at at → at < 2 ^ 64
unfolding room_at
room_near at h = grind (arith, nat_tests)

start_of : (from at : ℕ) → (nat_le from at && nat_lt 0 (room_at at)) ≡ true → IsStart from at
start_of from at h = record { after = grind (arith, nat_tests); some = grind (arith, nat_tests) }

start_test : (from at : ℕ) → IsStart from at → (nat_le from at && nat_lt 0 (room_at at)) ≡ true
start_test from at h = let a = h.after in let b = h.some in grind (arith, nat_tests)

start_agrees : (from : ℕ) → Agrees (segment_start_at from) (le w64) (IsStart from)
unfolding segment_start_at
start_agrees from =
    told (segment_start_at from) (le w64) (λ at. (at < 2 ^ 64) × ((nat_le from at && nat_lt 0 (room_at at)) ≡ true)) (IsStart from)
    (checked_agrees (λ at. nat_le from at && nat_lt 0 (room_at at)) (number_at w64) (le w64) (λ at. at < 2 ^ 64) (number_agrees w64 (2 ^ 64) wide64))
    (λ at h. start_of from at h.1) (λ at h. (room_near at h.some, start_test from at h))

held_agrees : (at : ℕ) → Agrees (sized_at w32 1 (room_at at + 1) (λ _. true)) (sized w32) (IsSized 1 (room_at at + 1) (λ _. true))
held_agrees at = sized_agrees w32 (2 ^ 32) wide32 1 (room_at at + 1) (λ _. true) (let small = room_small at in omega arith)

segment_takes : (from : ℕ) (bytes : List ℕ) (x : Segment × List ℕ) → IsBytes bytes → segment_at from bytes ≡ Ok x → Takes bytes (segment_text x.0) x.1 × IsSegment from x.0
unfolding segment_at segment_text
segment_takes from bytes x fits e =
    let a = and_then_ok (segment_start_at from bytes) (λ at. sized_at w32 1 (room_at at.0 + 1) (λ _. true) at.1 >>= λ held. Ok (record { at = at.0; bytes = held.0 }, held.1)) x e in
    let b = and_then_ok (sized_at w32 1 (room_at a.0.0 + 1) (λ _. true) a.0.1) (λ held. Ok (record { at = a.0.0; bytes = held.0 }, held.1)) x a.2 in
    let t0 = (start_agrees from).takes bytes a.0 fits a.1 in
    let t1 = (held_agrees a.0.0).takes a.0.1 b.0 t0.0.rest_fits b.1 in
    let made : Segment × List ℕ = (record { at = a.0.0; bytes = b.0.0 }, b.0.1) in
    let both = Takes-then bytes (le w64 a.0.0) a.0.1 (sized w32 b.0.0) b.0.1 t0.0 t1.0 in
    let len = t1.1.len in
    let low = len.from in
    let below = len.below in
    subst (λ (y : Segment × List ℕ). Takes bytes (segment_text y.0) y.1 × IsSegment from y.0) (ok_is made x b.2) (both, record { after = t0.1.after; some = low; within = omega arith })

segment_again : (from : ℕ) (s : Segment) (rest : List ℕ) → IsSegment from s → segment_at from (segment_text s ++ rest) ≡ Ok (s, rest)
unfolding segment_at segment_text
segment_again from s rest fits =
    let some = fits.some in
    let within = fits.within in
    let first = (start_agrees from).again s.at (sized w32 s.bytes ++ rest) (record { after = fits.after; some = omega arith }) in
    let second = (held_agrees s.at).again s.bytes rest (record { len = record { from = some; below = omega arith }; holds = refl }) in
    rw (append_assoc (le w64 s.at) (sized w32 s.bytes) rest)
    (and_then-ok (segment_start_at from (le w64 s.at ++ (sized w32 s.bytes ++ rest))) (λ at. sized_at w32 1 (room_at at.0 + 1) (λ _. true) at.1 >>= λ held. Ok (record { at = at.0; bytes = held.0 }, held.1)) (s.at, sized w32 s.bytes ++ rest) first
    ∙ and_then-ok (sized_at w32 1 (room_at s.at + 1) (λ _. true) (sized w32 s.bytes ++ rest)) (λ held. Ok (record { at = s.at; bytes = held.0 }, held.1)) (s.bytes, rest) second)

segment_agrees : (from : ℕ) → Agrees (segment_at from) segment_text (IsSegment from)
segment_agrees from = record { takes = segment_takes from; again = segment_again from }

-- ---- files

file_agrees : Agrees file_at file_text IsFileName
unfolding file_at file_text
file_agrees =
    told file_at file_text (IsSized 1 256 is_utf8) IsFileName (sized_agrees w8 256 wide8 1 256 is_utf8 (omega arith))
    (λ name h. record { some = h.len.from; short = h.len.below; text = IsUtf8-from_is_utf8 name h.holds })
    (λ name h. record { len = record { from = h.some; below = h.short }; holds = is_utf8-from_IsUtf8 name h.text })

in_turn_all : (P : List ℕ → Type 0) (s : ℕ) (xs : List (List ℕ)) → InTurn (λ (_ : ℕ). P) (λ n _. n) s xs → AllByRecursion P xs
in_turn_all P s [] h = tt
in_turn_all P s (x ∷ xs) h = (h.0, in_turn_all P s xs h.1)

all_in_turn : (P : List ℕ → Type 0) (s : ℕ) (xs : List (List ℕ)) → AllByRecursion P xs → InTurn (λ (_ : ℕ). P) (λ n _. n) s xs
all_in_turn P s [] h = tt
all_in_turn P s (x ∷ xs) h = (h.0, all_in_turn P s xs h.1)

-- ---- places

code_number : (from : ℕ) → Agrees (number_in w64 (max from 0x0100_0000) 0x1100_0000) (le w64) (InRange (max from 0x0100_0000) 0x1100_0000)
code_number from = number_in_agrees w64 (2 ^ 64) wide64 (max from 0x0100_0000) 0x1100_0000 (omega arith)

below_number : (files : ℕ) → files ≤ 2 ^ 32 → Agrees (number_in w32 0 files) (le w32) (InRange 0 files)
below_number files le = number_in_agrees w32 (2 ^ 32) wide32 0 files le

one_number : Agrees (number_in w32 1 (2 ^ 32)) (le w32) (InRange 1 (2 ^ 32))
one_number = number_in_agrees w32 (2 ^ 32) wide32 1 (2 ^ 32) (omega arith)

-- a place that a version can tell
abbrev IsPlaceIn : Version → ℕ → ℕ → Spot4 → Type 0
IsPlaceIn version files from p = IsPlace files from p × Shows version p.kind

place_takes : (version : Version) (files from : ℕ) → files ≤ 2 ^ 32 → (bytes : List ℕ) (x : Spot4 × List ℕ) → IsBytes bytes → place_at version files from bytes ≡ Ok x → Takes bytes (place_text version x.0) x.1 × IsPlaceIn version files from x.0
unfolding place_at place_text
place_takes version files from few bytes x fits e =
    let rest4 = λ (at file line col : ℕ) (access : Access × List ℕ). let made : Result (Spot4 × List ℕ) ℕ = Ok (record { at = at; file = file; line = line; col = col; kind = access.0.kind; size = access.0.size }, access.1) in made in
    let rest3 = λ (at file line : ℕ) (col : ℕ × List ℕ). access_at version col.1 >>= rest4 at file line col.0 in
    let rest2 = λ (at file : ℕ) (line : ℕ × List ℕ). number_in w32 1 (2 ^ 32) line.1 >>= rest3 at file line.0 in
    let rest1 = λ (at : ℕ) (file : ℕ × List ℕ). number_in w32 1 (2 ^ 32) file.1 >>= rest2 at file.0 in
    let rest0 = λ (at : ℕ × List ℕ). number_in w32 0 files at.1 >>= rest1 at.0 in
    let a = and_then_ok (number_in w64 (max from 0x0100_0000) 0x1100_0000 bytes) rest0 x e in
    let b = and_then_ok (number_in w32 0 files a.0.1) (rest1 a.0.0) x a.2 in
    let c = and_then_ok (number_in w32 1 (2 ^ 32) b.0.1) (rest2 a.0.0 b.0.0) x b.2 in
    let d = and_then_ok (number_in w32 1 (2 ^ 32) c.0.1) (rest3 a.0.0 b.0.0 c.0.0) x c.2 in
    let f = and_then_ok (access_at version d.0.1) (rest4 a.0.0 b.0.0 c.0.0 d.0.0) x d.2 in
    let t0 = (code_number from).takes bytes a.0 fits a.1 in
    let t1 = (below_number files few).takes a.0.1 b.0 t0.0.rest_fits b.1 in
    let t2 = one_number.takes b.0.1 c.0 t1.0.rest_fits c.1 in
    let t3 = one_number.takes c.0.1 d.0 t2.0.rest_fits d.1 in
    let t4 = (access_agrees version).takes d.0.1 f.0 t3.0.rest_fits f.1 in
    let e01 = Takes-then bytes (le w64 a.0.0) a.0.1 (le w32 b.0.0) b.0.1 t0.0 t1.0 in
    let e02 = Takes-then bytes (le w64 a.0.0 ++ le w32 b.0.0) b.0.1 (le w32 c.0.0) c.0.1 e01 t2.0 in
    let e03 = Takes-then bytes (le w64 a.0.0 ++ le w32 b.0.0 ++ le w32 c.0.0) c.0.1 (le w32 d.0.0) d.0.1 e02 t3.0 in
    let e04 = Takes-then bytes (le w64 a.0.0 ++ le w32 b.0.0 ++ le w32 c.0.0 ++ le w32 d.0.0) d.0.1 (access_text version f.0.0.kind f.0.0.size) f.0.1 e03 t4.0 in
    let made : Spot4 × List ℕ = (record { at = a.0.0; file = b.0.0; line = c.0.0; col = d.0.0; kind = f.0.0.kind; size = f.0.0.size }, f.0.1) in
    let low = t0.1.from in
    let below = t0.1.below in
    let in_code : is_in instrumented_code a.0.0 ≡ true = grind (arith, nat_tests) in
    subst (λ (y : Spot4 × List ℕ). Takes bytes (place_text version y.0) y.1 × IsPlaceIn version files from y.0) (ok_is made x f.2)
    (e04, (record { after = omega arith; in_code = in_code; file = t1.1.below; line = record { some = t2.1.from; fits = t2.1.below }; col = record { some = t3.1.from; fits = t3.1.below }; access = t4.1.0 }, t4.1.1))

place_again : (version : Version) (files from : ℕ) → files ≤ 2 ^ 32 → (p : Spot4) (rest : List ℕ) → IsPlaceIn version files from p → place_at version files from (place_text version p ++ rest) ≡ Ok (p, rest)
unfolding place_at place_text and_then
place_again version files from few p rest told =
    let fits = told.0 in
    let after = fits.after in
    let in_code : is_in instrumented_code p.at ≡ true = fits.in_code in
    let low : max from 0x0100_0000 ≤ p.at = grind (arith, nat_tests) in
    let below : p.at < 0x1100_0000 = grind (arith, nat_tests) in
    let file = fits.file in
    let tail = access_text version p.kind p.size ++ rest in
    let access : Access = record { kind = p.kind; size = p.size } in
    let e0 = (code_number from).again p.at (le w32 p.file ++ (le w32 p.line ++ (le w32 p.col ++ tail))) (record { from = low; below = below }) in
    let e1 = (below_number files few).again p.file (le w32 p.line ++ (le w32 p.col ++ tail)) (record { from = omega arith; below = file }) in
    let e2 = one_number.again p.line (le w32 p.col ++ tail) (record { from = fits.line.some; below = fits.line.fits }) in
    let e3 = one_number.again p.col tail (record { from = fits.col.some; below = fits.col.fits }) in
    let e4 = (access_agrees version).again access rest (fits.access, told.1) in
    let regrouped : place_text version p ++ rest ≡ le w64 p.at ++ (le w32 p.file ++ (le w32 p.line ++ (le w32 p.col ++ tail))) = simp append_assoc in
    ap (place_at version files from) regrouped ∙ simp (e0, e1, e2, e3, e4, and_then)

place_agrees : (version : Version) (files : ℕ) → files ≤ 2 ^ 32 → (from : ℕ) → Agrees (place_at version files from) (place_text version) (IsPlaceIn version files from)
place_agrees version files few from = record { takes = place_takes version files from few; again = place_again version files from few }

-- ---- images

magic_fits : (version : Version) → image_magic version < 2 ^ 32
magic_fits First = omega arith
magic_fits Second = omega arith

magic_agrees : Agrees (version_at (image_magic First) (image_magic Second)) (λ version. le w32 (image_magic version)) (λ version. Unit {0})
magic_agrees = version_agrees image_magic (record { fits = magic_fits; first = refl; other = refl; second = refl })

outers_agrees : Agrees (number_in w32 0 (65_536 + 1)) (le w32) (InRange 0 (65_536 + 1))
outers_agrees = number_in_agrees w32 (2 ^ 32) wide32 0 (65_536 + 1) (omega arith)

segments_agree : Agrees (counted_at segment_at segment_end 262_144 0) (counted segment_text) (IsCounted IsSegment segment_end 262_144 0)
segments_agree = counted_agrees segment_at segment_end segment_text IsSegment segment_agrees 262_144 (omega arith) 0

files_agree : Agrees (counted_at (λ (_ : ℕ). file_at) (λ n _. n) 65_536 0) (counted file_text) (IsCounted (λ (_ : ℕ). IsFileName) (λ n _. n) 65_536 0)
files_agree = counted_agrees (λ (_ : ℕ). file_at) (λ n _. n) file_text (λ (_ : ℕ). IsFileName) (λ _. file_agrees) 65_536 (omega arith) 0

places_agree : (version : Version) (files : ℕ) → files ≤ 65_536 → Agrees (counted_at (place_at version files) after_place 1_048_576 0) (counted (place_text version)) (IsCounted (IsPlaceIn version files) after_place 1_048_576 0)
places_agree version files few = counted_agrees (place_at version files) after_place (place_text version) (IsPlaceIn version files) (place_agrees version files (omega arith)) 1_048_576 (omega arith) 0

-- an image whose places a version can tell
abbrev IsImageIn : Version → Image → Type 0
IsImageIn version v = IsImage v × AllByRecursion (λ p. Shows version p.kind) v.places

image_takes : (bytes : List ℕ) (x : Image × List ℕ) → IsBytes bytes → image_at bytes ≡ Ok x → (version : Version) × Takes bytes (image_text version x.0) x.1 × IsImageIn version x.0
unfolding image_at image_text
image_takes bytes x fits e =
    let rest4 = λ (outers : ℕ) (segments : List Segment) (files : List (List ℕ)) (places : List Spot4 × List ℕ). let made : Result (Image × List ℕ) ℕ = Ok (record { outers = outers; segments = segments; files = files; places = places.0 }, places.1) in made in
    let rest3 = λ (version : Version) (outers : ℕ) (segments : List Segment) (files : List (List ℕ) × List ℕ). counted_at (place_at version (length files.0)) after_place 1_048_576 0 files.1 >>= rest4 outers segments files.0 in
    let rest2 = λ (version : Version) (outers : ℕ) (segments : List Segment × List ℕ). counted_at (λ (_ : ℕ). file_at) (λ n _. n) 65_536 0 segments.1 >>= rest3 version outers segments.0 in
    let rest1 = λ (version : Version) (outers : ℕ × List ℕ). counted_at segment_at segment_end 262_144 0 outers.1 >>= rest2 version outers.0 in
    let rest0 = λ (version : Version × List ℕ). number_in w32 0 (65_536 + 1) version.1 >>= rest1 version.0 in
    let m = and_then_ok (version_at (image_magic First) (image_magic Second) bytes) rest0 x e in
    let o = and_then_ok (number_in w32 0 (65_536 + 1) m.0.1) (rest1 m.0.0) x m.2 in
    let s = and_then_ok (counted_at segment_at segment_end 262_144 0 o.0.1) (rest2 m.0.0 o.0.0) x o.2 in
    let f = and_then_ok (counted_at (λ (_ : ℕ). file_at) (λ n _. n) 65_536 0 s.0.1) (rest3 m.0.0 o.0.0 s.0.0) x s.2 in
    let p = and_then_ok (counted_at (place_at m.0.0 (length f.0.0)) after_place 1_048_576 0 f.0.1) (rest4 o.0.0 s.0.0 f.0.0) x f.2 in
    let magic = le w32 (image_magic m.0.0) in
    let tm = magic_agrees.takes bytes m.0 fits m.1 in
    let to = outers_agrees.takes m.0.1 o.0 tm.0.rest_fits o.1 in
    let ts = segments_agree.takes o.0.1 s.0 to.0.rest_fits s.1 in
    let tf = files_agree.takes s.0.1 f.0 ts.0.rest_fits f.1 in
    let tp = (places_agree m.0.0 (length f.0.0) tf.1.few).takes f.0.1 p.0 tf.0.rest_fits p.1 in
    let few = to.1.below in
    let e1 = Takes-then bytes magic m.0.1 (le w32 o.0.0) o.0.1 tm.0 to.0 in
    let e2 = Takes-then bytes (magic ++ le w32 o.0.0) o.0.1 (counted segment_text s.0.0) s.0.1 e1 ts.0 in
    let e3 = Takes-then bytes (magic ++ le w32 o.0.0 ++ counted segment_text s.0.0) s.0.1 (counted file_text f.0.0) f.0.1 e2 tf.0 in
    let e4 = Takes-then bytes (magic ++ le w32 o.0.0 ++ counted segment_text s.0.0 ++ counted file_text f.0.0) f.0.1 (counted (place_text m.0.0) p.0.0) p.0.1 e3 tp.0 in
    let made : Image × List ℕ = (record { outers = o.0.0; segments = s.0.0; files = f.0.0; places = p.0.0 }, p.0.1) in
    let each = split_rules (IsPlace (length f.0.0)) (λ q. Shows m.0.0 q.kind) after_place 0 p.0.0 tp.1.each in
    let both = subst (λ (y : Image × List ℕ). Takes bytes (image_text m.0.0 y.0) y.1 × IsImageIn m.0.0 y.0) (ok_is made x p.2) (
      e4,
      (record { few_outers = omega arith; few_segments = ts.1.few; segments = ts.1.each; few_files = tf.1.few; files = in_turn_all IsFileName 0 f.0.0 tf.1.each; few_places = tp.1.few; places = each.0 }, each.1),
    ) in
    (m.0.0, both.0, both.1)

image_again : (version : Version) (v : Image) (rest : List ℕ) → IsImageIn version v → image_at (image_text version v ++ rest) ≡ Ok (v, rest)
unfolding image_at image_text and_then
image_again version v rest told =
    let fits = told.0 in
    let places = counted (place_text version) v.places ++ rest in
    let files = counted file_text v.files ++ places in
    let segments = counted segment_text v.segments ++ files in
    let em = magic_agrees.again version (le w32 v.outers ++ segments) tt in
    let few = fits.few_outers in
    let eo = outers_agrees.again v.outers segments (record { from = omega arith; below = omega arith }) in
    let es = segments_agree.again v.segments files (record { few = fits.few_segments; each = fits.segments }) in
    let ef = files_agree.again v.files places (record { few = fits.few_files; each = all_in_turn IsFileName 0 v.files fits.files }) in
    let each = join_rules (IsPlace (length v.files)) (λ q. Shows version q.kind) after_place 0 v.places fits.places told.1 in
    let ep = (places_agree version (length v.files) fits.few_files).again v.places rest (record { few = fits.few_places; each = each }) in
    let regrouped : image_text version v ++ rest ≡ le w32 (image_magic version) ++ (le w32 v.outers ++ segments) = simp append_assoc in
    ap image_at regrouped ∙ simp (em, eo, es, ef, ep, and_then)

spells : (version : Version) (bytes : List ℕ) (v : Image) → bytes ≡ image_text version v → AllByRecursion (λ p. Shows version p.kind) v.places → SpellsImage bytes v
spells First bytes v e told = inr (e, told)
spells Second bytes v e told = inl e

-- the version by which bytes spell an image
spelled_in : (bytes : List ℕ) (v : Image) → SpellsImage bytes v → (version : Version) × (bytes ≡ image_text version v) × AllByRecursion (λ p. Shows version p.kind) v.places
spelled_in bytes v (inl e) = (Second, e, all_told v.places)
spelled_in bytes v (inr h) = (First, h.0, h.1)

-- what is read is an image, and the bytes spell it
pub image_found : (bytes : List ℕ) (v : Image) → IsBytes bytes → image_of bytes ≡ Ok v → IsImage v × SpellsImage bytes v
unfolding image_of
image_found bytes v fits e =
    let t = image_takes bytes (v, []) fits (whole_found image_at bytes v e) in
    (t.2.0, spells t.0 bytes v (takes_all bytes (image_text t.0 v) t.1) t.2.1)

-- bytes that spell an image are read as that image
pub image_is_read : (bytes : List ℕ) (v : Image) → IsImage v → SpellsImage bytes v → image_of bytes ≡ Ok v
unfolding image_of
image_is_read bytes v fits spelled =
    let s = spelled_in bytes v spelled in
    ap image_of s.1 ∙ whole_again image_at (image_text s.0 v) v (image_again s.0 v [] (fits, s.2))

pub images_spelled : (bytes : List ℕ) (v : Image) → IsBytes bytes → (image_of bytes ≡ Ok v) ↔ (IsImage v × SpellsImage bytes v)
images_spelled bytes v fits = (λ e. image_found bytes v fits e, λ h. image_is_read bytes v h.0 h.1)

pub one_spelling : (bytes : List ℕ) (v w : Image) → IsImage v → IsImage w → SpellsImage bytes v → SpellsImage bytes w → v ≡ w
one_spelling bytes v w v_fits w_fits v_spelled w_spelled = ok_is v w (sym (image_is_read bytes v v_fits v_spelled) ∙ image_is_read bytes w w_fits w_spelled)

-- what a function says that tells of the image of bytes
pub is_found : (bytes : List ℕ) (r : Result Image FormFault) → IsBytes bytes → Tells r (image_of bytes) → IfOk r (λ v. IsImage v × SpellsImage bytes v)
is_found bytes (Ok v) fits told = image_found bytes v fits told
is_found bytes (Err e) fits told = tt

-- ---- bytes

segments_held : (xs : List Segment) → IsBytes (flat_map segment_text xs) → HaveBytes xs
unfolding segment_text sized
segments_held [] fits = tt
segments_held (s ∷ xs) fits =
    let both = subst IsBytes (flat_map-cons segment_text s xs) fits in
    let text = front_bytes (segment_text s) (flat_map segment_text xs) both in
    let held = back_bytes (le w32 (length s.bytes)) s.bytes (back_bytes (le w64 s.at) (sized w32 s.bytes) text) in
    (are_bytes s.bytes held, segments_held xs (back_bytes (segment_text s) (flat_map segment_text xs) both))

image_held : (version : Version) (v : Image) → IsBytes (image_text version v) → HaveBytes v.segments
unfolding image_text counted
image_held version v fits =
    let front = le w32 (image_magic version) ++ le w32 v.outers in
    let segments = counted segment_text v.segments in
    let files = counted file_text v.files in
    let to_files = front_bytes (front ++ segments ++ files) (counted (place_text version) v.places) fits in
    let all = back_bytes front segments (front_bytes (front ++ segments) files to_files) in
    segments_held v.segments (back_bytes (le w32 (length v.segments)) (flat_map segment_text v.segments) all)

-- what segments hold are bytes, where those that were read are
pub is_held : (bytes : List ℕ) (r : Result Image FormFault) → IsBytes bytes → Tells r (image_of bytes) → IfOk r (λ v. HaveBytes v.segments)
is_held bytes (Ok v) fits told =
    let s = spelled_in bytes v ((image_found bytes v fits told).1) in
    image_held s.0 v (subst IsBytes s.1 fits)
is_held bytes (Err e) fits told = tt

-- the bytes of segments fit a length of 32 bits
segments_fit : (from : ℕ) (xs : List Segment) → InTurn IsSegment segment_end from xs → AllByRecursion (λ s. length s.bytes < 2 ^ 32) xs
segments_fit from [] h = tt
segments_fit from (s ∷ xs) h = (let small = room_small s.at in let within = h.0.within in omega arith, segments_fit (segment_end from s) xs h.1)

pub segments_short : (xs : List Segment) → InTurn IsSegment segment_end 0 xs → All (λ s. length s.bytes < 2 ^ 32) xs
segments_short xs h = All-from_recursion (λ s. length s.bytes < 2 ^ 32) xs (segments_fit 0 xs h)
