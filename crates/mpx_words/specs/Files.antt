-- What a file is read as.
use Rattle.std.specs.Prelude.{◌≡◌, ℕ, ◌<◌, ◌≤◌, nat_eq, nat_lt, Bool, ◌||◌, if◌then◌else◌, Option, None, Some, Result, Ok, Err, List, [], ◌∷◌, codes, length}
use Rattle.std.specs.List.{starts_with}
use Rattle.std.specs.declared.vec.Vec.{Vec}
use Rattle.std.specs.Global.{Global}
use Rattle.asm_text.specs.declared.fault.AsmKind.{AsmKind}
use Rattle.mx_base.specs.Outside.{FileFacts, Untold, Absent, Holds, HasRisen}
use Rattle.obj_file.specs.declared.fault.FormFault.{FormFault}
use Rattle.obj_file.specs.declared.fault.FormFault.TheVariants as fault
use Rattle.obj_file.specs.declared.image.Image.{Image}
use Rattle.obj_file.specs.declared.object.Object.{Object}
use Rattle.obj_file.specs.ImageReading.{image_of}
use Rattle.obj_file.specs.ObjectReading.{object_of}
use Rattle.mpx_words.specs.declared.end.End.{End}
use Rattle.mpx_words.specs.declared.end.End.TheVariants.{Missing, FileLarge, BadForm, BadLine, ReadFault, NoMemory}

-- the bytes of the file of a name, if there is one
abbrev pub Content : Type 0
Content = Option (List ℕ)

-- what a file may be by what is told of it
abbrev pub MayBe : FileFacts → Content → Type 0
MayBe Untold content = Unit {0}
MayBe Absent content = content ≡ None
MayBe (Holds bytes) content = content ≡ Some bytes

-- what files of these names may be, one after another
abbrev pub MayEachBe : (List ℕ → FileFacts) → List (List ℕ) → List Content → Type 0
MayEachBe told [] [] = Unit {0}
MayEachBe told (name ∷ names) (content ∷ contents) = MayBe (told name) content × MayEachBe told names contents
MayEachBe told [] (content ∷ contents) = ⊥
MayEachBe told (name ∷ names) [] = ⊥

-- the most bytes that a file may have
abbrev pub file_limit : ℕ
file_limit = 536870912

-- ---- forms

-- what bytes are, or how a command ends that asks for them to be so
abbrev pub Form : Type 0 → Type 0
Form X = List ℕ → Result X End

-- what a file is by a form that its bytes have, or why it is refused
abbrev pub formed : {X : Type 0} → Form X → Content → Result X End
formed form None = Err Missing
formed form (Some bytes) = if nat_lt file_limit (length bytes) then Err FileLarge else form bytes

-- what is made of a value, or that the bytes are bad at an offset
abbrev pub made_of : {V X : Type 0} → (V → X) → Result V ℕ → Result X End
made_of make (Ok v) = Ok (make v)
made_of make (Err at) = Err (BadForm at)

-- what is made of a value, or that a line of the text is refused
abbrev pub made_of_lines : {V X : Type 0} → (V → X) → Result V (ℕ × AsmKind) → Result X End
made_of_lines make (Ok v) = Ok (make v)
made_of_lines make (Err e) = Err (BadLine e.0 e.1)

-- the image that the bytes spell
abbrev pub image_form : Form Image
image_form bytes = made_of (λ v. v) (image_of bytes)

-- bytes that begin as an object, of either version
unfoldable pub begins_object : List ℕ → Bool
begins_object bytes = starts_with nat_eq bytes (codes "MXO1") || starts_with nat_eq bytes (codes "MXO2")

-- what is made of the object that the bytes spell, or else of the image
abbrev pub by_form : {X : Type 0} → (Object → X) → (Image → X) → Form X
by_form of_object of_image bytes = if begins_object bytes then made_of of_object (object_of bytes) else made_of of_image (image_of bytes)

-- ---- as the code answers

-- a file of this name may have these bytes, and they are not too many
pub record MayHold (facts : FileFacts) (bytes : List ℕ) : Type 0 where
  pub may : MayBe facts (Some bytes)
  pub few : length bytes ≤ file_limit

-- why a file is refused by a form
abbrev pub IsRefused : {X : Type 0} → Form X → FileFacts → End → Type 0
IsRefused form facts Missing = MayBe facts None
IsRefused form facts FileLarge = (bytes : List ℕ) × MayBe facts (Some bytes) × (file_limit < length bytes)
IsRefused form facts (BadForm at) = (bytes : List ℕ) × MayHold facts bytes × (form bytes ≡ Err (BadForm at))
IsRefused form facts (BadLine line kind) = (bytes : List ℕ) × MayHold facts bytes × (form bytes ≡ Err (BadLine line kind))
IsRefused form facts ReadFault = Unit {0}
IsRefused form facts NoMemory = Unit {0}
IsRefused form facts end = ⊥

-- the value of a file, or why it is refused
abbrev pub Loads : {X : Type 0} → Form X → FileFacts → Result X End → Type 0
Loads form facts (Ok x) = (bytes : List ℕ) × MayHold facts bytes × (form bytes ≡ Ok x)
Loads form facts (Err end) = IsRefused form facts end

-- the bytes of a file, all of them, or why they are not read
abbrev pub LoadsBytes : FileFacts → Result (Vec ℕ Global) End → Type 0
LoadsBytes facts (Ok v) = MayHold facts v.items
LoadsBytes facts (Err (BadForm at)) = ⊥
LoadsBytes facts (Err (BadLine line kind)) = ⊥
LoadsBytes facts (Err end) = IsRefused {X = List ℕ} Ok facts end

-- a text made of the value of a file
abbrev pub Yields : {X : Type 0} → Form X → (X → List ℕ → Type 0)
    → FileFacts → Result (Vec ℕ Global) End → Type 0
Yields {X} form Is facts (Ok v) =
    (bytes : List ℕ) × MayHold facts bytes × (x : X) × (form bytes ≡ Ok x) × Is x v.items
Yields form Is facts (Err end) = IsRefused form facts end

-- the same of bytes
abbrev pub IsBad : {X : Type 0} → Form X → List ℕ → End → Type 0
IsBad form bytes (BadForm at) = form bytes ≡ Err (BadForm at)
IsBad form bytes (BadLine line kind) = form bytes ≡ Err (BadLine line kind)
IsBad form bytes NoMemory = Unit {0}
IsBad form bytes end = ⊥

abbrev pub Reads : {X : Type 0} → Form X → List ℕ → Result X End → Type 0
Reads form bytes (Ok x) = form bytes ≡ Ok x
Reads form bytes (Err end) = IsBad form bytes end

abbrev pub Makes : {X : Type 0} → Form X → (X → List ℕ → Type 0)
    → List ℕ → Result (Vec ℕ Global) End → Type 0
Makes {X} form Is bytes (Ok v) = (x : X) × (form bytes ≡ Ok x) × Is x v.items
Makes form Is bytes (Err end) = IsBad form bytes end

-- a text is this one
abbrev pub IsText : List ℕ → List ℕ → Type 0
IsText text bytes = bytes ≡ text

-- why bytes of the wrong form are refused
abbrev pub refusal_of_form : FormFault → End
refusal_of_form (fault.BadForm at) = BadForm at
refusal_of_form fault.OutOfMemory = NoMemory

-- the count of failed reads rises exactly where a read failed
abbrev pub LoadCounts : {X : Type 0} → Result X End → ℕ → ℕ → Type 0
LoadCounts (Ok x) old new = new ≡ old
LoadCounts (Err ReadFault) old new = HasRisen old new
LoadCounts (Err end) old new = new ≡ old
