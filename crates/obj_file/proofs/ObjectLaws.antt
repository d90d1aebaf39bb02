-- Objects that are read are those that are spelled.
use Rattle.std.proofs.Common.{Fits, ◌≡◌, ◌↔◌, ℕ, ℤ, ◌+◌, ◌-◌, ◌^◌, ◌<◌, ◌≤◌, Bool, true, false, List, [], ◌∷◌, ◌++◌, length, Result, Ok, Err, refl, sym, ap, subst, ◌∙◌, append_assoc, arith, inl, inr}
use Rattle.std.specs.Prelude.{nat_eq, nat_lt, nat_le, ◌&&◌, All, IfOk, FitsSigned}
use Rattle.std.specs.List.{AllByRecursion}
use Rattle.std.specs.Int.{w8, w32, w64, cast_signed, cast_unsigned}
use Rattle.std.specs.Str.{is_utf8, IsUtf8}
use Rattle.std.proofs.lemmas.Str.{IsUtf8-from_is_utf8, is_utf8-from_IsUtf8}
use Rattle.std.proofs.lemmas.Bool.Decides.{nat_tests}
use Rattle.std.proofs.lemmas.Int.{of_z-to_z, to_z-of_z}
use Rattle.std.proofs.Math.Facts.{sfits_to_z, Fits-of_z}
use Rattle.std.proofs.lemmas.List.Elements.{All-from_recursion}
use Rattle.obj_file.specs.declared.fault.FormFault.{FormFault}
use Rattle.obj_file.specs.declared.object.Object.{Object}
use Rattle.obj_file.specs.declared.object.Symbol.{Symbol}
use Rattle.obj_file.specs.declared.object.Fix.{Fix}
use Rattle.obj_file.specs.declared.object.Spot3.{Spot3}
use Rattle.obj_file.specs.declared.parts.Version.{Version}
use Rattle.obj_file.specs.declared.parts.Version.TheVariants.{First, Second}
use Rattle.obj_file.specs.declared.parts.Access.{Access}
use Rattle.obj_file.specs.declared.parts.Parts.{Parts}
use Rattle.obj_file.specs.declared.parts.End.{End}
use Rattle.obj_file.specs.declared.parts.Head.{Head}
use Rattle.obj_file.specs.InTurn.{InTurn, le, sized, counted}
use Rattle.obj_file.specs.Fields.{and_then, ◌>>=◌, number_at, number_in, sized_at, counted_at, Tells}
use Rattle.obj_file.specs.Object.{part_len, most_code, is_free_name, suits, least_sig, after_symbol, IsSymbol, fix_size, fix_end, free_from, no_fix, IsFix, most_places, after_spot, IsSpot, IsObject, object_magic, kind_of, symbol_text, fix_text, spot_text, object_text, SpellsObject}
use Rattle.obj_file.specs.Versions.{Shows, access_text, access_at, version_at}
use Rattle.obj_file.specs.ObjectReading.{symbol_at, form_at, addend_at, fix_at, spot_at, head_at, head_parts, object_at, object_of}
use Rattle.obj_file.proofs.Agree.{IsBytes, and_then_ok, ok_is, Takes, Takes-then, Agrees, wide8, wide32, wide64, number_agrees, checked_agrees, told, InRange, number_in_agrees, IsSized, sized_agrees, IsCounted, counted_agrees, whole_found, takes_all, whole_again}
use Rattle.obj_file.proofs.VersionLaws.{access_agrees, version_agrees, split_rules, join_rules, all_told, front_bytes, back_bytes, are_bytes}

-- ---- numbers

byte_in : (low end : ℕ) → end ≤ 256 → Agrees (number_in w8 low end) (le w8) (InRange low end)
byte_in low end few = number_in_agrees w8 256 wide8 low end few

word_in : (low end : ℕ) → end ≤ 2 ^ 32 → Agrees (number_in w32 low end) (le w32) (InRange low end)
word_in low end few = number_in_agrees w32 (2 ^ 32) wide32 low end few

-- the lengths of parts fit a number of 32 bits
pub record AreShort (parts : Parts) : Type 0 where
  pub code : parts.code < 2 ^ 32 - 1
  pub stored : parts.stored < 2 ^ 32 - 1

short_part : (parts : Parts) (part : ℕ) → AreShort parts → part_len parts part + 1 ≤ 2 ^ 32
unfolding part_len
short_part parts part short = let a = short.code in let b = short.stored in grind (arith, nat_tests)

-- ---- symbols

least_sig_fits : (legacy : Bool) → least_sig legacy ≤ 1
least_sig_fits true = omega arith
least_sig_fits false = omega arith

name_agrees : (seen : List Symbol) → Agrees (sized_at w8 1 64 (is_free_name seen)) (sized w8) (IsSized 1 64 (is_free_name seen))
name_agrees seen = sized_agrees w8 256 wide8 1 64 (is_free_name seen) (omega arith)

sig_agrees : (legacy : Bool) (part : ℕ) → Agrees (sized_at w8 (least_sig legacy) 64 (suits part)) (sized w8) (IsSized (least_sig legacy) 64 (suits part))
sig_agrees legacy part = sized_agrees w8 256 wide8 (least_sig legacy) 64 (suits part) (omega arith)

symbol_takes : (parts : Parts) → AreShort parts → (seen : List Symbol) (bytes : List ℕ) (x : Symbol × List ℕ) → IsBytes bytes → symbol_at parts seen bytes ≡ Ok x → Takes bytes (symbol_text x.0) x.1 × IsSymbol parts seen x.0
unfolding symbol_at symbol_text
symbol_takes parts short seen bytes x fits e =
    let rest3 = λ (part offset : ℕ) (name : List ℕ) (sig : List ℕ × List ℕ). let made : Result (Symbol × List ℕ) ℕ = Ok (record { part = part; offset = offset; name = name; sig = sig.0 }, sig.1) in made in
    let rest2 = λ (part offset : ℕ) (name : List ℕ × List ℕ). sized_at w8 (least_sig parts.legacy) 64 (suits part) name.1 >>= rest3 part offset name.0 in
    let rest1 = λ (part : ℕ) (offset : ℕ × List ℕ). sized_at w8 1 64 (is_free_name seen) offset.1 >>= rest2 part offset.0 in
    let rest0 = λ (part : ℕ × List ℕ). number_in w32 0 (part_len parts part.0 + 1) part.1 >>= rest1 part.0 in
    let a = and_then_ok (number_in w8 0 3 bytes) rest0 x e in
    let b = and_then_ok (number_in w32 0 (part_len parts a.0.0 + 1) a.0.1) (rest1 a.0.0) x a.2 in
    let c = and_then_ok (sized_at w8 1 64 (is_free_name seen) b.0.1) (rest2 a.0.0 b.0.0) x b.2 in
    let d = and_then_ok (sized_at w8 (least_sig parts.legacy) 64 (suits a.0.0) c.0.1) (rest3 a.0.0 b.0.0 c.0.0) x c.2 in
    let t0 = (byte_in 0 3 (omega arith)).takes bytes a.0 fits a.1 in
    let t1 = (word_in 0 (part_len parts a.0.0 + 1) (short_part parts a.0.0 short)).takes a.0.1 b.0 t0.0.rest_fits b.1 in
    let t2 = (name_agrees seen).takes b.0.1 c.0 t1.0.rest_fits c.1 in
    let t3 = (sig_agrees parts.legacy a.0.0).takes c.0.1 d.0 t2.0.rest_fits d.1 in
    let e1 = Takes-then bytes (le w8 a.0.0) a.0.1 (le w32 b.0.0) b.0.1 t0.0 t1.0 in
    let e2 = Takes-then bytes (le w8 a.0.0 ++ le w32 b.0.0) b.0.1 (sized w8 c.0.0) c.0.1 e1 t2.0 in
    let e3 = Takes-then bytes (le w8 a.0.0 ++ le w32 b.0.0 ++ sized w8 c.0.0) c.0.1 (sized w8 d.0.0) d.0.1 e2 t3.0 in
    let made : Symbol × List ℕ = (record { part = a.0.0; offset = b.0.0; name = c.0.0; sig = d.0.0 }, d.0.1) in
    let part = t0.1.below in
    let offset = t1.1.below in
    subst (λ (y : Symbol × List ℕ). Takes bytes (symbol_text y.0) y.1 × IsSymbol parts seen y.0) (ok_is made x d.2)
    (e3, record { part = omega arith; offset = omega arith; named = t2.1.len.from; short_name = t2.1.len.below; name = t2.1.holds; signed = t3.1.len.from; short_sig = t3.1.len.below; sig = t3.1.holds })

symbol_again : (parts : Parts) → AreShort parts → (seen : List Symbol) (s : Symbol) (rest : List ℕ) → IsSymbol parts seen s → symbol_at parts seen (symbol_text s ++ rest) ≡ Ok (s, rest)
unfolding symbol_at symbol_text and_then
symbol_again parts short seen s rest fits =
    let part = fits.part in
    let offset = fits.offset in
    let e0 = (byte_in 0 3 (omega arith)).again s.part (le w32 s.offset ++ (sized w8 s.name ++ (sized w8 s.sig ++ rest))) (record { from = omega arith; below = omega arith }) in
    let e1 = (word_in 0 (part_len parts s.part + 1) (short_part parts s.part short)).again s.offset (sized w8 s.name ++ (sized w8 s.sig ++ rest)) (record { from = omega arith; below = omega arith }) in
    let e2 = (name_agrees seen).again s.name (sized w8 s.sig ++ rest) (record { len = record { from = fits.named; below = fits.short_name }; holds = fits.name }) in
    let e3 = (sig_agrees parts.legacy s.part).again s.sig rest (record { len = record { from = fits.signed; below = fits.short_sig }; holds = fits.sig }) in
    let regrouped : symbol_text s ++ rest ≡ le w8 s.part ++ (le w32 s.offset ++ (sized w8 s.name ++ (sized w8 s.sig ++ rest))) = simp append_assoc in
    ap (symbol_at parts seen) regrouped ∙ simp (e0, e1, e2, e3, and_then)

symbol_agrees : (parts : Parts) → AreShort parts → (seen : List Symbol) → Agrees (symbol_at parts seen) symbol_text (IsSymbol parts seen)
symbol_agrees parts short seen = record { takes = symbol_takes parts short seen; again = symbol_again parts short seen }

-- ---- fix-ups

form_of_test : (parts : Parts) (part offset form : ℕ) → (nat_lt form 3 && nat_le (offset + fix_size form) (part_len parts part)) ≡ true → (form ≤ 2) × (offset + fix_size form ≤ part_len parts part)
form_of_test parts part offset form h = (grind (arith, nat_tests), grind (arith, nat_tests))

form_test : (parts : Parts) (part offset form : ℕ) → form ≤ 2 → offset + fix_size form ≤ part_len parts part → (nat_lt form 3 && nat_le (offset + fix_size form) (part_len parts part)) ≡ true
form_test parts part offset form few within = grind (arith, nat_tests)

form_agrees : (parts : Parts) (part offset : ℕ) → Agrees (form_at parts part offset) (le w8) (λ form. (form ≤ 2) × (offset + fix_size form ≤ part_len parts part))
unfolding form_at
form_agrees parts part offset =
    told (form_at parts part offset) (le w8) (λ form. (form < 256) × ((nat_lt form 3 && nat_le (offset + fix_size form) (part_len parts part)) ≡ true)) (λ form. (form ≤ 2) × (offset + fix_size form ≤ part_len parts part))
    (checked_agrees (λ form. nat_lt form 3 && nat_le (offset + fix_size form) (part_len parts part)) (number_at w8) (le w8) (λ form. form < 256) (number_agrees w8 256 wide8))
    (λ form h. form_of_test parts part offset form h.1) (λ form h. (let few = h.0 in omega arith, form_test parts part offset form h.0 h.1))

signed_fits : (n : ℕ) → n < 2 ^ 64 → FitsSigned w64 (cast_signed w64 n)
signed_fits n lt = let f : Fits w64 n = omega (arith, lt) in sfits_to_z {w = w64} {n = n} f

unsigned_fits : (z : ℤ) → FitsSigned w64 z → cast_unsigned w64 z < 2 ^ 64
unsigned_fits z fits = let f = Fits-of_z {w = w64} {z = z} fits in omega (arith, f)

addend_takes : (bytes : List ℕ) (x : ℤ × List ℕ) → IsBytes bytes → addend_at bytes ≡ Ok x → Takes bytes (le w64 (cast_unsigned w64 x.0)) x.1 × FitsSigned w64 x.0
unfolding addend_at
addend_takes bytes x fits e =
    let a = and_then_ok (number_at w64 bytes) (λ n. let made : Result (ℤ × List ℕ) ℕ = Ok (cast_signed w64 n.0, n.1) in made) x e in
    let t = (number_agrees w64 (2 ^ 64) wide64).takes bytes a.0 fits a.1 in
    let made : ℤ × List ℕ = (cast_signed w64 a.0.0, a.0.1) in
    subst (λ (y : ℤ × List ℕ). Takes bytes (le w64 (cast_unsigned w64 y.0)) y.1 × FitsSigned w64 y.0) (ok_is made x a.2) (rw (of_z-to_z w64 a.0.0 t.1) t.0, signed_fits a.0.0 t.1)

addend_again : (z : ℤ) (rest : List ℕ) → FitsSigned w64 z → addend_at (le w64 (cast_unsigned w64 z) ++ rest) ≡ Ok (z, rest)
unfolding addend_at and_then
addend_again z rest fits =
    let e = (number_agrees w64 (2 ^ 64) wide64).again (cast_unsigned w64 z) rest (unsigned_fits z fits) in
    rw e (ap (λ (y : ℤ). Ok (y, rest)) (to_z-of_z w64 z fits))

addend_agrees : Agrees addend_at (λ z. le w64 (cast_unsigned w64 z)) (FitsSigned w64)
addend_agrees = record { takes = addend_takes; again = addend_again }

fix_takes : (parts : Parts) → (symbols : ℕ) → symbols ≤ 2 ^ 32 → (before : End) (bytes : List ℕ) (x : Fix × List ℕ) → IsBytes bytes → fix_at parts symbols before bytes ≡ Ok x → Takes bytes (fix_text x.0) x.1 × IsFix parts symbols before x.0
unfolding fix_at fix_text
fix_takes parts symbols few before bytes x fits e =
    let rest4 = λ (part offset form symbol : ℕ) (addend : ℤ × List ℕ). let made : Result (Fix × List ℕ) ℕ = Ok (record { part = part; offset = offset; form = form; symbol = symbol; addend = addend.0 }, addend.1) in made in
    let rest3 = λ (part offset form : ℕ) (symbol : ℕ × List ℕ). addend_at symbol.1 >>= rest4 part offset form symbol.0 in
    let rest2 = λ (part offset : ℕ) (form : ℕ × List ℕ). number_in w32 0 symbols form.1 >>= rest3 part offset form.0 in
    let rest1 = λ (part : ℕ) (offset : ℕ × List ℕ). form_at parts part offset.0 offset.1 >>= rest2 part offset.0 in
    let rest0 = λ (part : ℕ × List ℕ). number_in w32 (free_from before part.0) (2 ^ 32) part.1 >>= rest1 part.0 in
    let a = and_then_ok (number_in w8 before.part 3 bytes) rest0 x e in
    let b = and_then_ok (number_in w32 (free_from before a.0.0) (2 ^ 32) a.0.1) (rest1 a.0.0) x a.2 in
    let c = and_then_ok (form_at parts a.0.0 b.0.0 b.0.1) (rest2 a.0.0 b.0.0) x b.2 in
    let d = and_then_ok (number_in w32 0 symbols c.0.1) (rest3 a.0.0 b.0.0 c.0.0) x c.2 in
    let f = and_then_ok (addend_at d.0.1) (rest4 a.0.0 b.0.0 c.0.0 d.0.0) x d.2 in
    let t0 = (byte_in before.part 3 (omega arith)).takes bytes a.0 fits a.1 in
    let t1 = (word_in (free_from before a.0.0) (2 ^ 32) (omega arith)).takes a.0.1 b.0 t0.0.rest_fits b.1 in
    let t2 = (form_agrees parts a.0.0 b.0.0).takes b.0.1 c.0 t1.0.rest_fits c.1 in
    let t3 = (word_in 0 symbols few).takes c.0.1 d.0 t2.0.rest_fits d.1 in
    let t4 = addend_agrees.takes d.0.1 f.0 t3.0.rest_fits f.1 in
    let e1 = Takes-then bytes (le w8 a.0.0) a.0.1 (le w32 b.0.0) b.0.1 t0.0 t1.0 in
    let e2 = Takes-then bytes (le w8 a.0.0 ++ le w32 b.0.0) b.0.1 (le w8 c.0.0) c.0.1 e1 t2.0 in
    let e3 = Takes-then bytes (le w8 a.0.0 ++ le w32 b.0.0 ++ le w8 c.0.0) c.0.1 (le w32 d.0.0) d.0.1 e2 t3.0 in
    let e4 = Takes-then bytes (le w8 a.0.0 ++ le w32 b.0.0 ++ le w8 c.0.0 ++ le w32 d.0.0) d.0.1 (le w64 (cast_unsigned w64 f.0.0)) f.0.1 e3 t4.0 in
    let made : Fix × List ℕ = (record { part = a.0.0; offset = b.0.0; form = c.0.0; symbol = d.0.0; addend = f.0.0 }, f.0.1) in
    let part = t0.1.below in
    subst (λ (y : Fix × List ℕ). Takes bytes (fix_text y.0) y.1 × IsFix parts symbols before y.0) (ok_is made x f.2)
    (e4, record { from_part = t0.1.from; part = omega arith; after = t1.1.from; form = t2.1.0; within = t2.1.1; symbol = t3.1.below; addend = t4.1 })

fix_again : (parts : Parts) → AreShort parts → (symbols : ℕ) → symbols ≤ 2 ^ 32 → (before : End) (f : Fix) (rest : List ℕ) → IsFix parts symbols before f → fix_at parts symbols before (fix_text f ++ rest) ≡ Ok (f, rest)
unfolding fix_at fix_text and_then
fix_again parts short symbols few before f rest fits =
    let part = fits.part in
    let within = fits.within in
    let room = short_part parts f.part short in
    let tail = le w64 (cast_unsigned w64 f.addend) ++ rest in
    let e0 = (byte_in before.part 3 (omega arith)).again f.part (le w32 f.offset ++ (le w8 f.form ++ (le w32 f.symbol ++ tail))) (record { from = fits.from_part; below = omega arith }) in
    let e1 = (word_in (free_from before f.part) (2 ^ 32) (omega arith)).again f.offset (le w8 f.form ++ (le w32 f.symbol ++ tail)) (record { from = fits.after; below = omega arith }) in
    let e2 = (form_agrees parts f.part f.offset).again f.form (le w32 f.symbol ++ tail) (fits.form, within) in
    let e3 = (word_in 0 symbols few).again f.symbol tail (record { from = omega arith; below = fits.symbol }) in
    let e4 = addend_agrees.again f.addend rest fits.addend in
    let regrouped : fix_text f ++ rest ≡ le w8 f.part ++ (le w32 f.offset ++ (le w8 f.form ++ (le w32 f.symbol ++ tail))) = simp append_assoc in
    ap (fix_at parts symbols before) regrouped ∙ simp (e0, e1, e2, e3, e4, and_then)

fix_agrees : (parts : Parts) → AreShort parts → (symbols : ℕ) → symbols ≤ 2 ^ 32 → (before : End) → Agrees (fix_at parts symbols before) fix_text (IsFix parts symbols before)
fix_agrees parts short symbols few before = record { takes = fix_takes parts symbols few before; again = fix_again parts short symbols few before }

-- ---- places

-- a place that a version can tell
abbrev IsSpotIn : Version → ℕ → ℕ → Spot3 → Type 0
IsSpotIn version code from p = IsSpot code from p × Shows version p.kind

spot_takes : (version : Version) (code : ℕ) → code ≤ 2 ^ 32 → (from : ℕ) (bytes : List ℕ) (x : Spot3 × List ℕ) → IsBytes bytes → spot_at version code from bytes ≡ Ok x → Takes bytes (spot_text version x.0) x.1 × IsSpotIn version code from x.0
unfolding spot_at spot_text
spot_takes version code few from bytes x fits e =
    let rest3 = λ (offset line col : ℕ) (access : Access × List ℕ). let made : Result (Spot3 × List ℕ) ℕ = Ok (record { offset = offset; line = line; col = col; kind = access.0.kind; size = access.0.size }, access.1) in made in
    let rest2 = λ (offset line : ℕ) (col : ℕ × List ℕ). access_at version col.1 >>= rest3 offset line col.0 in
    let rest1 = λ (offset : ℕ) (line : ℕ × List ℕ). number_in w32 1 (2 ^ 32) line.1 >>= rest2 offset line.0 in
    let rest0 = λ (offset : ℕ × List ℕ). number_in w32 1 (2 ^ 32) offset.1 >>= rest1 offset.0 in
    let a = and_then_ok (number_in w32 from code bytes) rest0 x e in
    let b = and_then_ok (number_in w32 1 (2 ^ 32) a.0.1) (rest1 a.0.0) x a.2 in
    let c = and_then_ok (number_in w32 1 (2 ^ 32) b.0.1) (rest2 a.0.0 b.0.0) x b.2 in
    let d = and_then_ok (access_at version c.0.1) (rest3 a.0.0 b.0.0 c.0.0) x c.2 in
    let t0 = (word_in from code few).takes bytes a.0 fits a.1 in
    let t1 = (word_in 1 (2 ^ 32) (omega arith)).takes a.0.1 b.0 t0.0.rest_fits b.1 in
    let t2 = (word_in 1 (2 ^ 32) (omega arith)).takes b.0.1 c.0 t1.0.rest_fits c.1 in
    let t3 = (access_agrees version).takes c.0.1 d.0 t2.0.rest_fits d.1 in
    let e1 = Takes-then bytes (le w32 a.0.0) a.0.1 (le w32 b.0.0) b.0.1 t0.0 t1.0 in
    let e2 = Takes-then bytes (le w32 a.0.0 ++ le w32 b.0.0) b.0.1 (le w32 c.0.0) c.0.1 e1 t2.0 in
    let e3 = Takes-then bytes (le w32 a.0.0 ++ le w32 b.0.0 ++ le w32 c.0.0) c.0.1 (access_text version d.0.0.kind d.0.0.size) d.0.1 e2 t3.0 in
    let made : Spot3 × List ℕ = (record { offset = a.0.0; line = b.0.0; col = c.0.0; kind = d.0.0.kind; size = d.0.0.size }, d.0.1) in
    subst (λ (y : Spot3 × List ℕ). Takes bytes (spot_text version y.0) y.1 × IsSpotIn version code from y.0) (ok_is made x d.2)
    (e3, (record { after = t0.1.from; within = t0.1.below; line = record { some = t1.1.from; fits = t1.1.below }; col = record { some = t2.1.from; fits = t2.1.below }; access = t3.1.0 }, t3.1.1))

spot_again : (version : Version) (code : ℕ) → code ≤ 2 ^ 32 → (from : ℕ) (p : Spot3) (rest : List ℕ) → IsSpotIn version code from p → spot_at version code from (spot_text version p ++ rest) ≡ Ok (p, rest)
unfolding spot_at spot_text and_then
spot_again version code few from p rest told =
    let fits = told.0 in
    let tail = access_text version p.kind p.size ++ rest in
    let access : Access = record { kind = p.kind; size = p.size } in
    let e0 = (word_in from code few).again p.offset (le w32 p.line ++ (le w32 p.col ++ tail)) (record { from = fits.after; below = fits.within }) in
    let e1 = (word_in 1 (2 ^ 32) (omega arith)).again p.line (le w32 p.col ++ tail) (record { from = fits.line.some; below = fits.line.fits }) in
    let e2 = (word_in 1 (2 ^ 32) (omega arith)).again p.col tail (record { from = fits.col.some; below = fits.col.fits }) in
    let e3 = (access_agrees version).again access rest (fits.access, told.1) in
    let regrouped : spot_text version p ++ rest ≡ le w32 p.offset ++ (le w32 p.line ++ (le w32 p.col ++ tail)) = simp append_assoc in
    ap (spot_at version code from) regrouped ∙ simp (e0, e1, e2, e3, and_then)

spot_agrees : (version : Version) (code : ℕ) → code ≤ 2 ^ 32 → (from : ℕ) → Agrees (spot_at version code from) (spot_text version) (IsSpotIn version code from)
spot_agrees version code few from = record { takes = spot_takes version code few from; again = spot_again version code few from }

-- ---- what stands before the symbols

pub record IsHead (h : Head) : Type 0 where
  pub file : IsUtf8 h.file
  pub short_file : length h.file < 256
  pub few_code : length h.code ≤ most_code h.legacy
  pub few_stored : length h.stored ≤ 16_777_216

head_text : Head → List ℕ
head_text h = le w32 (object_magic h.version) ++ le w8 (kind_of h.legacy) ++ sized w8 h.file ++ sized w32 h.code ++ sized w32 h.stored

code_fits : (legacy : Bool) → most_code legacy ≤ 251_658_240
code_fits true = omega arith
code_fits false = omega arith

kind_is : (kind : ℕ) → kind < 2 → kind_of (nat_eq kind 0) ≡ kind
kind_is kind few = grind (arith, nat_tests)

kind_back : (legacy : Bool) → nat_eq (kind_of legacy) 0 ≡ legacy
kind_back true = refl
kind_back false = refl

kind_few : (legacy : Bool) → kind_of legacy < 2
kind_few true = omega arith
kind_few false = omega arith

file_agrees : Agrees (sized_at w8 0 256 is_utf8) (sized w8) (IsSized 0 256 is_utf8)
file_agrees = sized_agrees w8 256 wide8 0 256 is_utf8 (omega arith)

held_agrees : (most : ℕ) → most ≤ 251_658_240 → Agrees (sized_at w32 0 (most + 1) (λ _. true)) (sized w32) (IsSized 0 (most + 1) (λ _. true))
held_agrees most few = sized_agrees w32 (2 ^ 32) wide32 0 (most + 1) (λ _. true) (omega arith)

magic_fits : (version : Version) → object_magic version < 2 ^ 32
magic_fits First = omega arith
magic_fits Second = omega arith

magic_agrees : Agrees (version_at (object_magic First) (object_magic Second)) (λ version. le w32 (object_magic version)) (λ version. Unit {0})
magic_agrees = version_agrees object_magic (record { fits = magic_fits; first = refl; other = refl; second = refl })

head_takes : (bytes : List ℕ) (x : Head × List ℕ) → IsBytes bytes → head_at bytes ≡ Ok x → Takes bytes (head_text x.0) x.1 × IsHead x.0
unfolding head_at head_text
head_takes bytes x fits e =
    let rest4 = λ (version : Version) (kind : ℕ) (file code : List ℕ) (stored : List ℕ × List ℕ). let made : Result (Head × List ℕ) ℕ = Ok (record { version = version; legacy = nat_eq kind 0; file = file; code = code; stored = stored.0 }, stored.1) in made in
    let rest3 = λ (version : Version) (kind : ℕ) (file : List ℕ) (code : List ℕ × List ℕ). sized_at w32 0 (16_777_216 + 1) (λ _. true) code.1 >>= rest4 version kind file code.0 in
    let rest2 = λ (version : Version) (kind : ℕ) (file : List ℕ × List ℕ). sized_at w32 0 (most_code (nat_eq kind 0) + 1) (λ _. true) file.1 >>= rest3 version kind file.0 in
    let rest1 = λ (version : Version) (kind : ℕ × List ℕ). sized_at w8 0 256 is_utf8 kind.1 >>= rest2 version kind.0 in
    let rest0 = λ (version : Version × List ℕ). number_in w8 0 2 version.1 >>= rest1 version.0 in
    let m = and_then_ok (version_at (object_magic First) (object_magic Second) bytes) rest0 x e in
    let k = and_then_ok (number_in w8 0 2 m.0.1) (rest1 m.0.0) x m.2 in
    let f = and_then_ok (sized_at w8 0 256 is_utf8 k.0.1) (rest2 m.0.0 k.0.0) x k.2 in
    let c = and_then_ok (sized_at w32 0 (most_code (nat_eq k.0.0 0) + 1) (λ _. true) f.0.1) (rest3 m.0.0 k.0.0 f.0.0) x f.2 in
    let s = and_then_ok (sized_at w32 0 (16_777_216 + 1) (λ _. true) c.0.1) (rest4 m.0.0 k.0.0 f.0.0 c.0.0) x c.2 in
    let magic = le w32 (object_magic m.0.0) in
    let tm = magic_agrees.takes bytes m.0 fits m.1 in
    let tk = (byte_in 0 2 (omega arith)).takes m.0.1 k.0 tm.0.rest_fits k.1 in
    let tf = file_agrees.takes k.0.1 f.0 tk.0.rest_fits f.1 in
    let tc = (held_agrees (most_code (nat_eq k.0.0 0)) (code_fits (nat_eq k.0.0 0))).takes f.0.1 c.0 tf.0.rest_fits c.1 in
    let ts = (held_agrees 16_777_216 (omega arith)).takes c.0.1 s.0 tc.0.rest_fits s.1 in
    let kind : k.0.0 ≡ kind_of (nat_eq k.0.0 0) = sym (kind_is k.0.0 tk.1.below) in
    let tk0 : Takes m.0.1 (le w8 (kind_of (nat_eq k.0.0 0))) k.0.1 = subst (λ (n : ℕ). Takes m.0.1 (le w8 n) k.0.1) kind tk.0 in
    let e1 = Takes-then bytes magic m.0.1 (le w8 (kind_of (nat_eq k.0.0 0))) k.0.1 tm.0 tk0 in
    let e2 = Takes-then bytes (magic ++ le w8 (kind_of (nat_eq k.0.0 0))) k.0.1 (sized w8 f.0.0) f.0.1 e1 tf.0 in
    let e3 = Takes-then bytes (magic ++ le w8 (kind_of (nat_eq k.0.0 0)) ++ sized w8 f.0.0) f.0.1 (sized w32 c.0.0) c.0.1 e2 tc.0 in
    let e4 = Takes-then bytes (magic ++ le w8 (kind_of (nat_eq k.0.0 0)) ++ sized w8 f.0.0 ++ sized w32 c.0.0) c.0.1 (sized w32 s.0.0) s.0.1 e3 ts.0 in
    let made : Head × List ℕ = (record { version = m.0.0; legacy = nat_eq k.0.0 0; file = f.0.0; code = c.0.0; stored = s.0.0 }, s.0.1) in
    let code = tc.1.len.below in
    let stored = ts.1.len.below in
    subst (λ (y : Head × List ℕ). Takes bytes (head_text y.0) y.1 × IsHead y.0) (ok_is made x s.2)
    (e4, record { file = IsUtf8-from_is_utf8 f.0.0 tf.1.holds; short_file = tf.1.len.below; few_code = omega arith; few_stored = omega arith })

head_again : (h : Head) (rest : List ℕ) → IsHead h → head_at (head_text h ++ rest) ≡ Ok (h, rest)
unfolding head_at head_text and_then
head_again h rest fits =
    let tail = sized w32 h.stored ++ rest in
    let few_code = fits.few_code in
    let few_stored = fits.few_stored in
    let em = magic_agrees.again h.version (le w8 (kind_of h.legacy) ++ (sized w8 h.file ++ (sized w32 h.code ++ tail))) tt in
    let ek = (byte_in 0 2 (omega arith)).again (kind_of h.legacy) (sized w8 h.file ++ (sized w32 h.code ++ tail)) (record { from = omega arith; below = kind_few h.legacy }) in
    let ef = file_agrees.again h.file (sized w32 h.code ++ tail) (record { len = record { from = omega arith; below = fits.short_file }; holds = is_utf8-from_IsUtf8 h.file fits.file }) in
    let ec = (held_agrees (most_code h.legacy) (code_fits h.legacy)).again h.code tail (record { len = record { from = omega arith; below = omega arith }; holds = refl }) in
    let es = (held_agrees 16_777_216 (omega arith)).again h.stored rest (record { len = record { from = omega arith; below = omega arith }; holds = refl }) in
    let eb = kind_back h.legacy in
    let regrouped : head_text h ++ rest ≡ le w32 (object_magic h.version) ++ (le w8 (kind_of h.legacy) ++ (sized w8 h.file ++ (sized w32 h.code ++ tail))) = simp append_assoc in
    ap head_at regrouped ∙ simp (em, ek, ef, eb, ec, es, and_then)

head_agrees : Agrees head_at head_text IsHead
head_agrees = record { takes = head_takes; again = head_again }

-- ---- objects

symbols_agree : (parts : Parts) → AreShort parts → Agrees (counted_at (symbol_at parts) after_symbol 65_536 []) (counted symbol_text) (IsCounted (IsSymbol parts) after_symbol 65_536 [])
symbols_agree parts short = counted_agrees (symbol_at parts) after_symbol symbol_text (IsSymbol parts) (symbol_agrees parts short) 65_536 (omega arith) []

fixes_agree : (parts : Parts) → AreShort parts → (symbols : ℕ) → symbols ≤ 65_536 → Agrees (counted_at (fix_at parts symbols) fix_end 1_048_576 no_fix) (counted fix_text) (IsCounted (IsFix parts symbols) fix_end 1_048_576 no_fix)
fixes_agree parts short symbols few = counted_agrees (fix_at parts symbols) fix_end fix_text (IsFix parts symbols) (fix_agrees parts short symbols (omega arith)) 1_048_576 (omega arith) no_fix

few_most : (legacy : Bool) → most_places legacy < 2 ^ 32
few_most true = omega arith
few_most false = omega arith

spots_agree : (version : Version) (code : ℕ) → code ≤ 2 ^ 32 → (legacy : Bool) → Agrees (counted_at (spot_at version code) after_spot (most_places legacy) 0) (counted (spot_text version)) (IsCounted (IsSpotIn version code) after_spot (most_places legacy) 0)
spots_agree version code few legacy = counted_agrees (spot_at version code) after_spot (spot_text version) (IsSpotIn version code) (spot_agrees version code few) (most_places legacy) (few_most legacy) 0

head_short : (h : Head) → IsHead h → AreShort (head_parts h)
head_short h head =
    let code = head.few_code in
    let stored = head.few_stored in
    let most = code_fits h.legacy in
    record { code = omega arith; stored = omega arith }

-- an object whose places a version can tell
abbrev IsObjectIn : Version → Object → Type 0
IsObjectIn version o = IsObject o × AllByRecursion (λ p. Shows version p.kind) o.places

object_takes : (bytes : List ℕ) (x : Object × List ℕ) → IsBytes bytes → object_at bytes ≡ Ok x → (version : Version) × Takes bytes (object_text version x.0) x.1 × IsObjectIn version x.0
unfolding object_at object_text head_text
object_takes bytes x fits e =
    let rest3 = λ (head : Head) (symbols : List Symbol) (fixes : List Fix) (places : List Spot3 × List ℕ). let made : Result (Object × List ℕ) ℕ = Ok (record { legacy = head.legacy; file = head.file; code = head.code; stored = head.stored; symbols = symbols; fixes = fixes; places = places.0 }, places.1) in made in
    let rest2 = λ (head : Head) (symbols : List Symbol) (fixes : List Fix × List ℕ). counted_at (spot_at head.version (length head.code)) after_spot (most_places head.legacy) 0 fixes.1 >>= rest3 head symbols fixes.0 in
    let rest1 = λ (head : Head) (symbols : List Symbol × List ℕ). counted_at (fix_at (head_parts head) (length symbols.0)) fix_end 1_048_576 no_fix symbols.1 >>= rest2 head symbols.0 in
    let rest0 = λ (head : Head × List ℕ). counted_at (symbol_at (head_parts head.0)) after_symbol 65_536 [] head.1 >>= rest1 head.0 in
    let h = and_then_ok (head_at bytes) rest0 x e in
    let s = and_then_ok (counted_at (symbol_at (head_parts h.0.0)) after_symbol 65_536 [] h.0.1) (rest1 h.0.0) x h.2 in
    let f = and_then_ok (counted_at (fix_at (head_parts h.0.0) (length s.0.0)) fix_end 1_048_576 no_fix s.0.1) (rest2 h.0.0 s.0.0) x s.2 in
    let p = and_then_ok (counted_at (spot_at h.0.0.version (length h.0.0.code)) after_spot (most_places h.0.0.legacy) 0 f.0.1) (rest3 h.0.0 s.0.0 f.0.0) x f.2 in
    let th = head_agrees.takes bytes h.0 fits h.1 in
    let short = head_short h.0.0 th.1 in
    let code = short.code in
    let ts = (symbols_agree (head_parts h.0.0) short).takes h.0.1 s.0 th.0.rest_fits s.1 in
    let tf = (fixes_agree (head_parts h.0.0) short (length s.0.0) ts.1.few).takes s.0.1 f.0 ts.0.rest_fits f.1 in
    let tp = (spots_agree h.0.0.version (length h.0.0.code) (omega arith) h.0.0.legacy).takes f.0.1 p.0 tf.0.rest_fits p.1 in
    let e1 = Takes-then bytes (head_text h.0.0) h.0.1 (counted symbol_text s.0.0) s.0.1 th.0 ts.0 in
    let e2 = Takes-then bytes (head_text h.0.0 ++ counted symbol_text s.0.0) s.0.1 (counted fix_text f.0.0) f.0.1 e1 tf.0 in
    let e3 = Takes-then bytes (head_text h.0.0 ++ counted symbol_text s.0.0 ++ counted fix_text f.0.0) f.0.1 (counted (spot_text h.0.0.version) p.0.0) p.0.1 e2 tp.0 in
    let made : Object × List ℕ = (record { legacy = h.0.0.legacy; file = h.0.0.file; code = h.0.0.code; stored = h.0.0.stored; symbols = s.0.0; fixes = f.0.0; places = p.0.0 }, p.0.1) in
    let each = split_rules (IsSpot (length h.0.0.code)) (λ q. Shows h.0.0.version q.kind) after_spot 0 p.0.0 tp.1.each in
    let both = subst (λ (y : Object × List ℕ). Takes bytes (object_text h.0.0.version y.0) y.1 × IsObjectIn h.0.0.version y.0) (ok_is made x p.2) (
      e3,
      (record { file = th.1.file; short_file = th.1.short_file; few_code = th.1.few_code; few_stored = th.1.few_stored; few_symbols = ts.1.few; symbols = ts.1.each; few_fixes = tf.1.few; fixes = tf.1.each; few_places = tp.1.few; places = each.0 }, each.1),
    ) in
    (h.0.0.version, both.0, both.1)

object_again : (version : Version) (o : Object) (rest : List ℕ) → IsObjectIn version o → object_at (object_text version o ++ rest) ≡ Ok (o, rest)
unfolding object_at object_text head_text and_then
object_again version o rest told =
    let fits = told.0 in
    let head : Head = record { version = version; legacy = o.legacy; file = o.file; code = o.code; stored = o.stored } in
    let is_head : IsHead head = record { file = fits.file; short_file = fits.short_file; few_code = fits.few_code; few_stored = fits.few_stored } in
    let short = head_short head is_head in
    let code = short.code in
    let places = counted (spot_text version) o.places ++ rest in
    let fixes = counted fix_text o.fixes ++ places in
    let eh = head_agrees.again head (counted symbol_text o.symbols ++ fixes) is_head in
    let es = (symbols_agree (head_parts head) short).again o.symbols fixes (record { few = fits.few_symbols; each = fits.symbols }) in
    let ef = (fixes_agree (head_parts head) short (length o.symbols) fits.few_symbols).again o.fixes places (record { few = fits.few_fixes; each = fits.fixes }) in
    let each = join_rules (IsSpot (length o.code)) (λ q. Shows version q.kind) after_spot 0 o.places fits.places told.1 in
    let ep = (spots_agree version (length o.code) (omega arith) o.legacy).again o.places rest (record { few = fits.few_places; each = each }) in
    let regrouped : object_text version o ++ rest ≡ head_text head ++ (counted symbol_text o.symbols ++ fixes) = simp append_assoc in
    ap object_at regrouped ∙ simp (eh, es, ef, ep, and_then)

spells : (version : Version) (bytes : List ℕ) (o : Object) → bytes ≡ object_text version o → AllByRecursion (λ p. Shows version p.kind) o.places → SpellsObject bytes o
spells First bytes o e told = inr (e, told)
spells Second bytes o e told = inl e

-- the version by which bytes spell an object
spelled_in : (bytes : List ℕ) (o : Object) → SpellsObject bytes o → (version : Version) × (bytes ≡ object_text version o) × AllByRecursion (λ p. Shows version p.kind) o.places
spelled_in bytes o (inl e) = (Second, e, all_told o.places)
spelled_in bytes o (inr h) = (First, h.0, h.1)

-- what is read is an object, and the bytes spell it
pub object_found : (bytes : List ℕ) (o : Object) → IsBytes bytes → object_of bytes ≡ Ok o → IsObject o × SpellsObject bytes o
unfolding object_of
object_found bytes o fits e =
    let t = object_takes bytes (o, []) fits (whole_found object_at bytes o e) in
    (t.2.0, spells t.0 bytes o (takes_all bytes (object_text t.0 o) t.1) t.2.1)

-- bytes that spell an object are read as that object
pub object_is_read : (bytes : List ℕ) (o : Object) → IsObject o → SpellsObject bytes o → object_of bytes ≡ Ok o
unfolding object_of
object_is_read bytes o fits spelled =
    let s = spelled_in bytes o spelled in
    ap object_of s.1 ∙ whole_again object_at (object_text s.0 o) o (object_again s.0 o [] (fits, s.2))

pub objects_spelled : (bytes : List ℕ) (o : Object) → IsBytes bytes → (object_of bytes ≡ Ok o) ↔ (IsObject o × SpellsObject bytes o)
objects_spelled bytes o fits = (λ e. object_found bytes o fits e, λ h. object_is_read bytes o h.0 h.1)

pub one_spelling : (bytes : List ℕ) (a b : Object) → IsObject a → IsObject b → SpellsObject bytes a → SpellsObject bytes b → a ≡ b
one_spelling bytes a b a_fits b_fits a_spelled b_spelled = ok_is a b (sym (object_is_read bytes a a_fits a_spelled) ∙ object_is_read bytes b b_fits b_spelled)

-- what a function says that tells of the object of bytes
pub is_found : (bytes : List ℕ) (r : Result Object FormFault) → IsBytes bytes → Tells r (object_of bytes) → IfOk r (λ o. IsObject o × SpellsObject bytes o)
is_found bytes (Ok o) fits told = object_found bytes o fits told
is_found bytes (Err e) fits told = tt

-- ---- bytes

object_held : (version : Version) (o : Object) → IsBytes (object_text version o) → All (λ b. b < 256) o.code × All (λ b. b < 256) o.stored
unfolding object_text sized
object_held version o fits =
    let front = le w32 (object_magic version) ++ le w8 (kind_of o.legacy) ++ sized w8 o.file in
    let parts = front ++ sized w32 o.code ++ sized w32 o.stored in
    let symbols = counted symbol_text o.symbols in
    let fixes = counted fix_text o.fixes in
    let to_fixes = front_bytes (parts ++ symbols ++ fixes) (counted (spot_text version) o.places) fits in
    let to_parts = front_bytes parts symbols (front_bytes (parts ++ symbols) fixes to_fixes) in
    let stored = back_bytes (le w32 (length o.stored)) o.stored (back_bytes (front ++ sized w32 o.code) (sized w32 o.stored) to_parts) in
    let code = back_bytes (le w32 (length o.code)) o.code (back_bytes front (sized w32 o.code) (front_bytes (front ++ sized w32 o.code) (sized w32 o.stored) to_parts)) in
    (are_bytes o.code code, are_bytes o.stored stored)

read_held : (bytes : List ℕ) (o : Object) → IsBytes bytes → object_of bytes ≡ Ok o → All (λ b. b < 256) o.code × All (λ b. b < 256) o.stored
read_held bytes o fits e =
    let s = spelled_in bytes o ((object_found bytes o fits e).1) in
    object_held s.0 o (subst IsBytes s.1 fits)

-- what parts hold are bytes, where those that were read are
pub code_held : (bytes : List ℕ) (r : Result Object FormFault) → IsBytes bytes → Tells r (object_of bytes) → IfOk r (λ o. All (λ b. b < 256) o.code)
code_held bytes (Ok o) fits told = (read_held bytes o fits told).0
code_held bytes (Err e) fits told = tt

pub stored_held : (bytes : List ℕ) (r : Result Object FormFault) → IsBytes bytes → Tells r (object_of bytes) → IfOk r (λ o. All (λ b. b < 256) o.stored)
stored_held bytes (Ok o) fits told = (read_held bytes o fits told).1
stored_held bytes (Err e) fits told = tt

-- names and signatures fit a length of 8 bits
names_fit : (parts : Parts) (seen xs : List Symbol) → InTurn (IsSymbol parts) after_symbol seen xs → AllByRecursion (λ s. length s.name < 256) xs
names_fit parts seen [] h = tt
names_fit parts seen (s ∷ xs) h = (let short = h.0.short_name in omega arith, names_fit parts (after_symbol seen s) xs h.1)

sigs_fit : (parts : Parts) (seen xs : List Symbol) → InTurn (IsSymbol parts) after_symbol seen xs → AllByRecursion (λ s. length s.sig < 256) xs
sigs_fit parts seen [] h = tt
sigs_fit parts seen (s ∷ xs) h = (let short = h.0.short_sig in omega arith, sigs_fit parts (after_symbol seen s) xs h.1)

pub names_short : (parts : Parts) (xs : List Symbol) → InTurn (IsSymbol parts) after_symbol [] xs → All (λ s. length s.name < 256) xs
names_short parts xs h = All-from_recursion (λ s. length s.name < 256) xs (names_fit parts [] xs h)

pub sigs_short : (parts : Parts) (xs : List Symbol) → InTurn (IsSymbol parts) after_symbol [] xs → All (λ s. length s.sig < 256) xs
sigs_short parts xs h = All-from_recursion (λ s. length s.sig < 256) xs (sigs_fit parts [] xs h)
