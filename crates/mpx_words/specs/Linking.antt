-- The objects in files, one after another, and the image of all.
use Rattle.std.specs.Prelude.{◌≡◌, ◌≢◌, ℕ, Result, Ok, Err, List, [], ◌∷◌, ◌++◌, ◌≤◌, length, codes}
use Rattle.std.specs.declared.vec.Vec.{Vec}
use Rattle.std.specs.Fmt.{decimal}
use Rattle.std.specs.Global.{Global}
use Rattle.std.specs.List.{AllByRecursion}
use Rattle.mx_base.specs.Outside.{FileFacts}
use Rattle.obj_file.specs.declared.image.Image.{Image}
use Rattle.obj_file.specs.declared.object.Object.{Object}
use Rattle.obj_file.specs.Image.{image_spelling}
use Rattle.obj_file.specs.ObjectReading.{object_of}
use Rattle.obj_linker.specs.declared.fault.LinkFault.{LinkFault}
use Rattle.obj_linker.specs.declared.fault.LinkFault.TheVariants as fault
use Rattle.obj_linker.specs.Faults.{linked}
use Rattle.obj_linker.specs.Gating.{mpx_gates}
use Rattle.mpx_words.specs.declared.end.End.{End}
use Rattle.mpx_words.specs.declared.end.End.TheVariants.{Missing, FileLarge, BadForm, ReadFault, NoMemory}
use Rattle.mpx_words.specs.declared.link.Refused.{Refused}
use Rattle.mpx_words.specs.declared.link.Unlinked.{Unlinked}
use Rattle.mpx_words.specs.declared.link.Unlinked.TheVariants as unlinked
use Rattle.mpx_words.specs.Files.{Content, MayEachBe, Form, made_of, formed, LoadCounts}

-- why files have no image: one of them is refused, or the objects in them are
pub data Refusal : Type 0 where
  OfFile : (file : List ℕ) → End → Refusal
  OfLink : LinkFault → Refusal

-- ---- one after another

-- the value of a file before those of others, or the first refusal
abbrev pub before_others : {Y : Type 0} → (file : List ℕ) → Result Y End → Result (List Y) Refusal → Result (List Y) Refusal
before_others file (Ok y) (Ok ys) = Ok (y ∷ ys)
before_others file (Ok y) (Err refusal) = Err refusal
before_others file (Err end) others = Err (OfFile file end)

-- the value of each file, or the refusal of the first that has none
abbrev pub of_each : {X Y : Type 0} → (X → Result Y End) → (files : List (List ℕ)) → List X → Result (List Y) Refusal
of_each of_one (file ∷ files) (x ∷ xs) = before_others file (of_one x) (of_each of_one files xs)
of_each of_one files xs = Ok []

-- the bytes of a file
abbrev pub bytes_in : Content → Result (List ℕ) End
bytes_in content = formed Ok content

-- the object that bytes spell
abbrev pub object_form : Form Object
object_form bytes = made_of (λ o. o) (object_of bytes)

-- ---- all together

abbrev pub objects_of : (files : List (List ℕ)) → Result (List (List ℕ)) Refusal → Result (List Object) Refusal
objects_of files (Ok texts) = of_each object_form files texts
objects_of files (Err refusal) = Err refusal

abbrev pub or_refusal : Result Image LinkFault → Result Image Refusal
or_refusal (Ok v) = Ok v
or_refusal (Err f) = Err (OfLink f)

abbrev pub image_of_objects : Result (List Object) Refusal → Result Image Refusal
image_of_objects (Ok objects) = or_refusal (linked mpx_gates objects)
image_of_objects (Err refusal) = Err refusal

-- the image of files: all of them are read, then each is an object, and then these are linked; or what of this fails first
abbrev pub image_of_files : (files : List (List ℕ)) → List Content → Result Image Refusal
image_of_files files contents = image_of_objects (objects_of files (of_each bytes_in files contents))

-- ---- the line of a fault

abbrev pub text_of_fault : LinkFault → List ℕ
text_of_fault (fault.Twice name) = codes "Twice " ++ name
text_of_fault (fault.Missing name) = codes "Missing " ++ name
text_of_fault (fault.Clash name) = codes "Clash " ++ name
text_of_fault fault.NoMain = codes "NoMain"
text_of_fault (fault.ManyFunctions n) = codes "ManyFunctions " ++ decimal n
text_of_fault (fault.CodeLarge n) = codes "CodeLarge " ++ decimal n
text_of_fault (fault.LegacyLarge n) = codes "LegacyLarge " ++ decimal n
text_of_fault (fault.GlobalsLarge n) = codes "GlobalsLarge " ++ decimal n
text_of_fault (fault.ImageLarge n) = codes "ImageLarge " ++ decimal n
text_of_fault (fault.FarFix object fix) = codes "FarFix " ++ decimal object ++ codes " " ++ decimal fix
text_of_fault fault.OutOfMemory = codes "OutOfMemory"

abbrev pub line_of_fault : LinkFault → List ℕ
line_of_fault f = codes "link: " ++ text_of_fault f ++ codes "\n"

-- ---- as the code answers

-- a claim on what files may be, where such an end tells of them
abbrev pub TellsOfFile : End → Type 0 → Type 0
TellsOfFile Missing Claim = Claim
TellsOfFile FileLarge Claim = Claim
TellsOfFile (BadForm at) Claim = Claim
TellsOfFile ReadFault Claim = Unit {0}
TellsOfFile NoMemory Claim = Unit {0}
TellsOfFile end Claim = ⊥

-- what the bytes of files may be
abbrev pub MayRead : (List ℕ → FileFacts) → List (List ℕ) → Result (List (List ℕ)) Refusal → Type 0
MayRead told files read = (contents : List Content) × MayEachBe told files contents × (of_each bytes_in files contents ≡ read)

abbrev pub LoadsEach : (List ℕ → FileFacts) → List (List ℕ) → Result (Vec (List ℕ) Global) Refused → Type 0
LoadsEach told files (Ok texts) = MayRead told files (Ok texts.items)
LoadsEach told files (Err r) = TellsOfFile r.end (MayRead told files (Err (OfFile r.file.now r.end)))

-- the objects that bytes of files spell
abbrev pub ReadsEach : List (List ℕ) → List (List ℕ) → Result (Vec Object Global) Refused → Type 0
ReadsEach files texts (Ok objects) = of_each object_form files texts ≡ Ok objects.items
ReadsEach files texts (Err r) = TellsOfFile r.end (of_each object_form files texts ≡ Err (OfFile r.file.now r.end))

-- the spelling of the image of objects
abbrev pub SpellsLinked : List Object → Result (Vec ℕ Global) LinkFault → Type 0
SpellsLinked objects (Ok bytes) = (v : Image) × (linked mpx_gates objects ≡ Ok v) × (bytes.items ≡ image_spelling v)
SpellsLinked objects (Err fault.OutOfMemory) = Unit {0}
SpellsLinked objects (Err f) = linked mpx_gates objects ≡ Err f

abbrev pub IsUnlinked : (Result Image Refusal → Type 0) → Unlinked → Type 0
IsUnlinked Is (unlinked.File r) = TellsOfFile r.end (Is (Err (OfFile r.file.now r.end)))
IsUnlinked Is (unlinked.Link fault.OutOfMemory) = Unit {0}
IsUnlinked Is (unlinked.Link f) = Is (Err (OfLink f))

-- the spelling of an image, or why there is none
abbrev pub SpellsImageOf : (Result Image Refusal → Type 0) → Result (Vec ℕ Global) Unlinked → Type 0
SpellsImageOf Is (Ok bytes) = (v : Image) × Is (Ok v) × (bytes.items ≡ image_spelling v)
SpellsImageOf Is (Err why) = IsUnlinked Is why

-- the image of bytes of files
abbrev pub IsImageOfTexts : List (List ℕ) → List (List ℕ) → Result Image Refusal → Type 0
IsImageOfTexts files texts image = image_of_objects (of_each object_form files texts) ≡ image

-- what the image of files may be
abbrev pub MayLink : (List ℕ → FileFacts) → List (List ℕ) → Result Image Refusal → Type 0
MayLink told files image = (contents : List Content) × MayEachBe told files contents × (image_of_files files contents ≡ image)

-- names of at most 255 bytes
abbrev pub AreShort : List (List ℕ) → Type 0
AreShort names = AllByRecursion (λ name. length name ≤ 255) names

abbrev pub IsShortUnlinked : Unlinked → Type 0
IsShortUnlinked (unlinked.File r) = length r.file.now ≤ 255
IsShortUnlinked (unlinked.Link f) = Unit {0}

-- no read failed
abbrev pub WasRead : Unlinked → Type 0
WasRead (unlinked.File r) = r.end ≢ ReadFault
WasRead (unlinked.Link f) = Unit {0}

-- the count of failed reads rises exactly where a read failed
abbrev pub RefusedCounts : {X : Type 0} → Result X Refused → ℕ → ℕ → Type 0
RefusedCounts (Ok x) old new = new ≡ old
RefusedCounts {X} (Err r) old new = LoadCounts {X = X} (Err r.end) old new

abbrev pub UnlinkedCounts : {X : Type 0} → Result X Unlinked → ℕ → ℕ → Type 0
UnlinkedCounts (Ok x) old new = new ≡ old
UnlinkedCounts {X} (Err (unlinked.File r)) old new = LoadCounts {X = X} (Err r.end) old new
UnlinkedCounts (Err (unlinked.Link f)) old new = new ≡ old
