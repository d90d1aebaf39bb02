-- From the bytes of a file to what it is by a form.
use Rattle.std.proofs.Common.{◌≡◌, ◌∙◌, ℕ, ◌<◌, ◌≤◌, Bool, true, false, cond, Some, Ok, Err, List, length, take, refl, sym, ap, subst, arith}
use Rattle.std.specs.Prelude.{Result, Option}
use Rattle.std.proofs.lemmas.List.{take_all, length-take}
use Rattle.std.specs.declared.vec.Vec.{Vec}
use Rattle.std.specs.Global.{Global}
use Rattle.mx_base.specs.Outside.{FileFacts, Untold, Absent, Holds}
use Rattle.obj_file.specs.declared.fault.FormFault.{FormFault}
use Rattle.obj_file.specs.declared.fault.FormFault.TheVariants as fault
use Rattle.obj_file.specs.declared.image.Image.{Image}
use Rattle.obj_file.specs.declared.object.Object.{Object}
use Rattle.obj_file.specs.Fields.{Refuses}
use Rattle.obj_file.specs.ImageReading.{image_of}
use Rattle.obj_file.specs.ObjectReading.{object_of}
use Rattle.mpx_words.specs.declared.end.End.{End}
use Rattle.mpx_words.specs.declared.end.End.TheVariants as end
use Rattle.mpx_words.specs.Files.{MayBe, MayHold, Form, file_limit, begins_object, made_of, by_form, IsRefused, Loads, LoadsBytes, Yields, IsBad, Reads, Makes, refusal_of_form, LoadCounts}
use Rattle.mpx_words.specs.Sources.{IsFrontOf, ReadsFront}
use Rattle.mpx_words.specs.declared.source_file.SourceFault.{SourceFault}

-- ---- bytes

whole : (held front : List ℕ) → front ≡ take 536870913 held → length front < 536870913 → front ≡ held
whole held front e lt =
    let short : length held ≤ 536870913 = omega (arith, ap length e, length-take 536870913 held) in
    e ∙ take_all 536870913 held short

fewer : (facts : FileFacts) (front : List ℕ) → IsFrontOf 536870913 facts front → length front < 536870913 → MayHold facts front
fewer Untold front f lt = record { may = tt; few = omega arith }
fewer Absent front f lt = absurd f
fewer (Holds held) front f lt = record { may = ap Some (whole held front f lt); few = omega arith }

more : (facts : FileFacts) (front : List ℕ) → IsFrontOf 536870913 facts front → 536870913 ≤ length front → (bytes : List ℕ) × MayBe facts (Some bytes) × (file_limit < length bytes)
more Untold front f le = (front, tt, omega arith)
more Absent front f le = absurd f
more (Holds held) front f le = (held, refl, omega (arith, ap length f, length-take 536870913 held))

front_of : (facts : FileFacts) (r : Result (Option (Vec ℕ Global)) SourceFault) (o : Option (Vec ℕ Global)) (v : Vec ℕ Global) → r ≡ Ok o → o ≡ Some v → ReadsFront 536870913 facts r → IsFrontOf 536870913 facts v.items
front_of facts r o v e is h = subst (λ (p : Option (Vec ℕ Global)). ReadsFront 536870913 facts (Ok p)) is (subst (ReadsFront 536870913 facts) e h)

-- fewer bytes were read than asked for: they are all
pub loaded_few : (facts : FileFacts) (r : Result (Option (Vec ℕ Global)) SourceFault) (o : Option (Vec ℕ Global)) (v : Vec ℕ Global) → r ≡ Ok o → o ≡ Some v → ReadsFront 536870913 facts r → length v.items < 536870913 → MayHold facts v.items
loaded_few facts r o v e is h lt = fewer facts v.items (front_of facts r o v e is h) lt

-- as many: they are too many
pub loaded_many : (facts : FileFacts) (r : Result (Option (Vec ℕ Global)) SourceFault) (o : Option (Vec ℕ Global)) (v : Vec ℕ Global) → r ≡ Ok o → o ≡ Some v → ReadsFront 536870913 facts r → 536870913 ≤ length v.items → LoadsBytes facts (Err end.FileLarge)
loaded_many facts r o v e is h le = more facts v.items (front_of facts r o v e is h) le

-- ---- refusals

-- a file whose bytes are not read is refused by each form
pub refused_bytes : {X : Type 0} (form : Form X) (facts : FileFacts) (why : End) → LoadsBytes facts (Err why) → IsRefused form facts why
refused_bytes form facts end.Missing h = h
refused_bytes form facts end.FileLarge h = h
refused_bytes form facts end.ReadFault h = tt
refused_bytes form facts end.NoMemory h = tt
refused_bytes form facts (end.BadForm at) h = absurd h
refused_bytes form facts (end.BadLine line kind) h = absurd h
refused_bytes form facts (end.Exit code) h = absurd h
refused_bytes form facts (end.Bounds value lb ub) h = absurd h
refused_bytes form facts end.Unbuilt h = absurd h
refused_bytes form facts end.WordsRefused h = absurd h
refused_bytes form facts end.WriteFault h = absurd h

bad_bytes : {X : Type 0} (form : Form X) (facts : FileFacts) (bytes : List ℕ) (why : End) → MayHold facts bytes → IsBad form bytes why → IsRefused form facts why
bad_bytes form facts bytes (end.BadForm at) m h = (bytes, m, h)
bad_bytes form facts bytes (end.BadLine line kind) m h = (bytes, m, h)
bad_bytes form facts bytes end.NoMemory m h = tt
bad_bytes form facts bytes end.Missing m h = absurd h
bad_bytes form facts bytes end.FileLarge m h = absurd h
bad_bytes form facts bytes end.ReadFault m h = absurd h
bad_bytes form facts bytes (end.Exit code) m h = absurd h
bad_bytes form facts bytes (end.Bounds value lb ub) m h = absurd h
bad_bytes form facts bytes end.Unbuilt m h = absurd h
bad_bytes form facts bytes end.WordsRefused m h = absurd h
bad_bytes form facts bytes end.WriteFault m h = absurd h

-- what the bytes of a file are, the file is
pub loads : {X : Type 0} (form : Form X) (facts : FileFacts) (v : Vec ℕ Global) (bytes : List ℕ) (r : Result X End) → bytes ≡ v.items → MayHold facts v.items → Reads form bytes r → Loads form facts r
loads form facts v bytes (Ok x) same m h = (v.items, m, ap form (sym same) ∙ h)
loads form facts v bytes (Err why) same m h = bad_bytes form facts v.items why m (subst (λ (xs : List ℕ). IsBad form xs why) same h)

pub yields : {X : Type 0} (form : Form X) (Is : X → List ℕ → Type 0) (facts : FileFacts) (v : Vec ℕ Global) (bytes : List ℕ) (r : Result (Vec ℕ Global) End) → bytes ≡ v.items → MayHold facts v.items → Makes form Is bytes r → Yields form Is facts r
yields form Is facts v bytes (Ok t) same m h = (v.items, m, h.0, ap form (sym same) ∙ h.1, h.2)
yields form Is facts v bytes (Err why) same m h = bad_bytes form facts v.items why m (subst (λ (xs : List ℕ). IsBad form xs why) same h)

-- no read failed where the bytes were read
bad_counts : {X : Type 0} (Y : Type 0) (form : Form X) (bytes : List ℕ) (why : End) (old new : ℕ) → IsBad form bytes why → new ≡ old → LoadCounts {X = Y} (Err why) old new
bad_counts Y form bytes (end.BadForm at) old new h e = e
bad_counts Y form bytes (end.BadLine line kind) old new h e = e
bad_counts Y form bytes end.NoMemory old new h e = e
bad_counts Y form bytes end.Missing old new h e = absurd h
bad_counts Y form bytes end.FileLarge old new h e = absurd h
bad_counts Y form bytes end.ReadFault old new h e = absurd h
bad_counts Y form bytes (end.Exit code) old new h e = absurd h
bad_counts Y form bytes (end.Bounds value lb ub) old new h e = absurd h
bad_counts Y form bytes end.Unbuilt old new h e = absurd h
bad_counts Y form bytes end.WordsRefused old new h e = absurd h
bad_counts Y form bytes end.WriteFault old new h e = absurd h

pub load_counts : {X : Type 0} (form : Form X) (bytes : List ℕ) (r : Result X End) (old new : ℕ) → Reads form bytes r → new ≡ old → LoadCounts r old new
load_counts form bytes (Ok x) old new h e = e
load_counts {X} form bytes (Err why) old new h e = bad_counts X form bytes why old new h e

pub make_counts : {X : Type 0} (form : Form X) (Is : X → List ℕ → Type 0) (bytes : List ℕ) (r : Result (Vec ℕ Global) End) (old new : ℕ) → Makes form Is bytes r → new ≡ old → LoadCounts r old new
make_counts form Is bytes (Ok t) old new h e = e
make_counts form Is bytes (Err why) old new h e = bad_counts (Vec ℕ Global) form bytes why old new h e

pub same_counts : (X Y : Type 0) (why : End) (old new : ℕ) → LoadCounts {X = X} (Err why) old new → LoadCounts {X = Y} (Err why) old new
same_counts X Y end.ReadFault old new h = h
same_counts X Y (end.BadForm at) old new h = h
same_counts X Y (end.BadLine line kind) old new h = h
same_counts X Y end.NoMemory old new h = h
same_counts X Y end.Missing old new h = h
same_counts X Y end.FileLarge old new h = h
same_counts X Y (end.Exit code) old new h = h
same_counts X Y (end.Bounds value lb ub) old new h = h
same_counts X Y end.Unbuilt old new h = h
same_counts X Y end.WordsRefused old new h = h
same_counts X Y end.WriteFault old new h = h

-- ---- forms

-- bytes of another form are refused with the offset of what is bad
pub bad_made : {V X : Type 0} (make : V → X) (form : List ℕ → Result V ℕ) (bytes : List ℕ) (f : FormFault) (why : End) → why ≡ refusal_of_form f → Refuses f (form bytes) → IsBad (λ b. made_of make (form b)) bytes why
bad_made make form bytes (fault.BadForm at) why e h = subst (λ (w : End). IsBad (λ b. made_of make (form b)) bytes w) (sym e) (ap (made_of make) h)
bad_made make form bytes fault.OutOfMemory why e h = subst (λ (w : End). IsBad (λ b. made_of make (form b)) bytes w) (sym e) tt

same_bad : {X : Type 0} (form other : Form X) (bytes : List ℕ) (why : End) → form bytes ≡ other bytes → IsBad other bytes why → IsBad form bytes why
same_bad form other bytes (end.BadForm at) e h = e ∙ h
same_bad form other bytes (end.BadLine line kind) e h = e ∙ h
same_bad form other bytes end.NoMemory e h = tt
same_bad form other bytes end.Missing e h = h
same_bad form other bytes end.FileLarge e h = h
same_bad form other bytes end.ReadFault e h = h
same_bad form other bytes (end.Exit code) e h = h
same_bad form other bytes (end.Bounds value lb ub) e h = h
same_bad form other bytes end.Unbuilt e h = h
same_bad form other bytes end.WordsRefused e h = h
same_bad form other bytes end.WriteFault e h = h

same_makes : {X : Type 0} (form other : Form X) (Is : X → List ℕ → Type 0) (bytes : List ℕ) (r : Result (Vec ℕ Global) End) → form bytes ≡ other bytes → Makes other Is bytes r → Makes form Is bytes r
same_makes form other Is bytes (Ok t) e h = (h.0, e ∙ h.1, h.2)
same_makes form other Is bytes (Err why) e h = same_bad form other bytes why e h

module _ {X : Type 0} (of_object : Object → X) (of_image : Image → X) (Is : X → List ℕ → Type 0) (bytes : List ℕ) (r : Result (Vec ℕ Global) End) where
  pub makes_object : begins_object bytes ≡ true → Makes (λ b. made_of of_object (object_of b)) Is bytes r → Makes (by_form of_object of_image) Is bytes r
  makes_object e h = same_makes (by_form of_object of_image) (λ b. made_of of_object (object_of b)) Is bytes r (ap (λ (b : Bool). cond b (made_of of_object (object_of bytes)) (made_of of_image (image_of bytes))) e) h

  pub makes_image : begins_object bytes ≡ false → Makes (λ b. made_of of_image (image_of b)) Is bytes r → Makes (by_form of_object of_image) Is bytes r
  makes_image e h = same_makes (by_form of_object of_image) (λ b. made_of of_image (image_of b)) Is bytes r (ap (λ (b : Bool). cond b (made_of of_object (object_of bytes)) (made_of of_image (image_of bytes))) e) h
