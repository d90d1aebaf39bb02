-- From what files and their bytes may be, one after another, to the answer of `link`.
use Rattle.std.proofs.Common.{◌≡◌, ◌≢◌, ◌∙◌, ℕ, ◌≤◌, Option, None, Some, Ok, Err, List, [], ◌∷◌, ◌++◌, length, refl, sym, ap, subst, append_assoc, append-nil, inl, inr, arith}
use Rattle.std.specs.Prelude.{Result, ◌⊎◌, IfErr, map}
use Rattle.std.specs.List.{All}
use Rattle.std.proofs.lemmas.List.Elements.{All-append, All-from_recursion}
use Rattle.std.specs.declared.vec.Vec.{Vec}
use Rattle.std.specs.Global.{Global}
use Rattle.mx_base.specs.Outside.{FileFacts, Untold, Absent, Holds, HoldsWhereTold, HasRisen}
use Rattle.obj_file.specs.declared.fault.FormFault.{FormFault}
use Rattle.obj_file.specs.declared.fault.FormFault.TheVariants as form
use Rattle.obj_file.specs.declared.image.Image.{Image}
use Rattle.obj_file.specs.declared.object.Object.{Object}
use Rattle.obj_file.specs.Fields.{Refuses}
use Rattle.obj_file.specs.Image.{image_spelling}
use Rattle.obj_file.specs.Machine.{Reading}
use Rattle.obj_file.specs.ObjectReading.{object_of}
use Rattle.obj_linker.specs.declared.fault.LinkFault.{LinkFault}
use Rattle.obj_linker.specs.declared.fault.LinkFault.TheVariants as fault
use Rattle.obj_linker.specs.Faults.{linked}
use Rattle.obj_linker.specs.Gating.{mpx_gates}
use Rattle.mpx_words.specs.declared.end.End.{End}
use Rattle.mpx_words.specs.declared.end.End.TheVariants as end
use Rattle.mpx_words.specs.declared.link.Refused.{Refused}
use Rattle.mpx_words.specs.declared.link.Unlinked.{Unlinked}
use Rattle.mpx_words.specs.declared.link.Unlinked.TheVariants as unlinked
use Rattle.mpx_words.specs.Answers.{Whole, FileUnread, LacksMemory, Answers, Serves, IsDone, Reports}
use Rattle.mpx_words.specs.Commands.{Link}
use Rattle.mpx_words.specs.Due.{Due, due_of_link, wrote}
use Rattle.mpx_words.specs.Ends.{line_of, status_of}
use Rattle.mpx_words.specs.Files.{Content, MayBe, MayEachBe, MayHold, LoadsBytes, LoadCounts, made_of, refusal_of_form}
use Rattle.mpx_words.specs.Linking.{Refusal, OfFile, OfLink, before_others, of_each, bytes_in, object_form, objects_of, or_refusal, image_of_objects, image_of_files, line_of_fault, TellsOfFile, MayRead, SpellsLinked, IsUnlinked, SpellsImageOf, IsImageOfTexts, MayLink, UnlinkedCounts, WasRead}
use Rattle.mpx_words.specs.Outside.{Stream, Outside}
use Rattle.mpx_words.specs.Sinks.{ReportsFault}
use Rattle.mpx_words.proofs.Formed.{same_counts as load_same}
use Rattle.mpx_words.proofs.Choices.{IsSame, kept, untouched, plain_one, formed_as, formed_many, memory_answers}

-- ---- one after another

-- values before those of the rest
abbrev pub behind : {Y : Type 0} → List Y → Result (List Y) Refusal → Result (List Y) Refusal
behind ys (Ok zs) = Ok (ys ++ zs)
behind ys (Err refusal) = Err refusal

behind_none : {Y : Type 0} (r : Result (List Y) Refusal) → behind [] r ≡ r
behind_none (Ok zs) = refl
behind_none (Err e) = refl

behind_one : {Y : Type 0} (file : List ℕ) (ys : List Y) (y : Y) (r : Result (List Y) Refusal) → behind ys (before_others file (Ok y) r) ≡ behind (ys ++ (y ∷ [])) r
behind_one file ys y (Ok zs) = ap Ok (sym (append_assoc ys (y ∷ []) zs))
behind_one file ys y (Err e) = refl

-- ---- the bytes of files

abbrev plainly : FileFacts → Content
plainly Untold = None
plainly Absent = None
plainly (Holds bytes) = Some bytes

may_plainly : (facts : FileFacts) → MayBe facts (plainly facts)
may_plainly Untold = tt
may_plainly Absent = refl
may_plainly (Holds bytes) = refl

module _ (told : List ℕ → FileFacts) where
  abbrev all_plainly : List (List ℕ) → List Content
  all_plainly [] = []
  all_plainly (name ∷ names) = plainly (told name) ∷ all_plainly names

  may_all : (names : List (List ℕ)) → MayEachBe told names (all_plainly names)
  may_all [] = tt
  may_all (name ∷ names) = (may_plainly (told name), may_all names)

  -- what is read when the rest is read too
  abbrev pub IsAhead : (all rest texts : List (List ℕ)) → Type 0
  IsAhead all rest texts = (contents : List Content) → MayEachBe told rest contents → MayRead told all (behind texts (of_each bytes_in rest contents))

  pub ahead_start : (all texts : List (List ℕ)) → texts ≡ [] → IsAhead all all texts
  ahead_start all texts e = λ contents may. (contents, may, sym (ap (λ (t : List (List ℕ)). behind t (of_each bytes_in all contents)) e ∙ behind_none (of_each bytes_in all contents)))

  pub ahead_next : (all rest after : List (List ℕ)) (name : List ℕ) (texts : List (List ℕ)) (bytes : List ℕ) (texts' : List (List ℕ)) → rest ≡ name ∷ after → MayHold (told name) bytes → texts' ≡ texts ++ (bytes ∷ [])
      → IsAhead all rest texts → IsAhead all after texts'
  ahead_next all rest after name texts bytes texts' e holds put ahead = λ contents may.
      let more = of_each bytes_in after contents in
      let h = ahead (Some bytes ∷ contents) (subst (λ (r : List (List ℕ)). MayEachBe told r (Some bytes ∷ contents)) (sym e) (holds.may, may)) in
      let one : of_each bytes_in rest (Some bytes ∷ contents) ≡ before_others name (Ok bytes) more =
      ap (λ (r : List (List ℕ)). of_each bytes_in r (Some bytes ∷ contents)) e ∙ ap (λ (x : Result (List ℕ) End). before_others name x more) (formed_as Ok bytes (Ok bytes) holds.few refl) in
      (h.0, h.1, h.2 ∙ (ap (behind texts) one ∙ (behind_one name texts bytes more ∙ ap (λ (t : List (List ℕ)). behind t more) (sym put))))

  pub ahead_end : (all rest texts : List (List ℕ)) → length rest ≡ 0 → IsAhead all rest texts → MayRead told all (Ok texts)
  ahead_end all [] texts e ahead = let h = ahead [] tt in (h.0, h.1, h.2 ∙ ap Ok (append-nil texts))
  ahead_end all (name ∷ rest) texts e ahead = absurd (omega (arith, e))

  stops : (all rest after : List (List ℕ)) (name : List ℕ) (texts : List (List ℕ)) (why : End) (content : Content) → rest ≡ name ∷ after → MayBe (told name) content → bytes_in content ≡ Err why
      → IsAhead all rest texts → MayRead told all (Err (OfFile name why))
  stops all rest after name texts why content e may is ahead =
      let others = all_plainly after in
      let more = of_each bytes_in after others in
      let h = ahead (content ∷ others) (subst (λ (r : List (List ℕ)). MayEachBe told r (content ∷ others)) (sym e) (may, may_all after)) in
      let one : of_each bytes_in rest (content ∷ others) ≡ Err (OfFile name why) =
      ap (λ (r : List (List ℕ)). of_each bytes_in r (content ∷ others)) e ∙ ap (λ (x : Result (List ℕ) End). before_others name x more) is in
      (h.0, h.1, h.2 ∙ ap (behind texts) one)

  -- a file that is not read
  pub refused_read : (all rest after : List (List ℕ)) (name : List ℕ) (texts : List (List ℕ)) (why : End) → rest ≡ name ∷ after → IsAhead all rest texts → LoadsBytes (told name) (Err why) → TellsOfFile why (MayRead told all (Err (OfFile name why)))
  refused_read all rest after name texts end.Missing e ahead h = stops all rest after name texts end.Missing None e h refl ahead
  refused_read all rest after name texts end.FileLarge e ahead h = stops all rest after name texts end.FileLarge (Some h.0) e h.1 (formed_many Ok h.0 h.2) ahead
  refused_read all rest after name texts end.ReadFault e ahead h = tt
  refused_read all rest after name texts end.NoMemory e ahead h = tt
  refused_read all rest after name texts (end.BadForm at) e ahead h = absurd h
  refused_read all rest after name texts (end.BadLine line kind) e ahead h = absurd h
  refused_read all rest after name texts (end.Exit code) e ahead h = absurd h
  refused_read all rest after name texts (end.Bounds value lb ub) e ahead h = absurd h
  refused_read all rest after name texts end.Unbuilt e ahead h = absurd h
  refused_read all rest after name texts end.WordsRefused e ahead h = absurd h
  refused_read all rest after name texts end.WriteFault e ahead h = absurd h

-- ---- their objects

-- what is spelled when the rest is spelled too
abbrev pub OfRest : (files texts files' texts' : List (List ℕ)) → List Object → Type 0
OfRest files texts files' texts' objects = of_each object_form files texts ≡ behind objects (of_each object_form files' texts')

pub rest_start : (files texts : List (List ℕ)) (objects : List Object) → objects ≡ [] → OfRest files texts files texts objects
rest_start files texts objects e = sym (ap (λ (os : List Object). behind os (of_each object_form files texts)) e ∙ behind_none (of_each object_form files texts))

module _ (files texts files' texts' others after : List (List ℕ)) (name bytes : List ℕ) (objects : List Object) (f : files' ≡ name ∷ others) (t : texts' ≡ bytes ∷ after) (h : OfRest files texts files' texts' objects) where
  first : of_each object_form files' texts' ≡ before_others name (object_form bytes) (of_each object_form others after)
  first = λ i. of_each object_form (f i) (t i)

  pub rest_next : (o : Object) (objects' : List Object) → object_of bytes ≡ Ok o → objects' ≡ objects ++ (o ∷ []) → OfRest files texts others after objects'
  rest_next o objects' is put =
      let more = of_each object_form others after in
      let one : before_others name (object_form bytes) more ≡ before_others name (Ok o) more = ap (λ (r : Result Object ℕ). before_others name (made_of (λ (x : Object). x) r) more) is in
      h ∙ (ap (behind objects) (first ∙ one) ∙ (behind_one name objects o more ∙ ap (λ (os : List Object). behind os more) (sym put)))

  -- bytes that spell no object
  pub refused_object : (x : FormFault) (why : End) → why ≡ refusal_of_form x → Refuses x (object_of bytes) → TellsOfFile why (of_each object_form files texts ≡ Err (OfFile name why))
  refused_object (form.BadForm at) why e is =
      let more = of_each object_form others after in
      let one : before_others name (object_form bytes) more ≡ Err (OfFile name (end.BadForm at)) = ap (λ (r : Result Object ℕ). before_others name (made_of (λ (x : Object). x) r) more) is in
      subst (λ (w : End). TellsOfFile w (of_each object_form files texts ≡ Err (OfFile name w))) (sym e) (h ∙ ap (behind objects) (first ∙ one))
  refused_object form.OutOfMemory why e is = subst (λ (w : End). TellsOfFile w (of_each object_form files texts ≡ Err (OfFile name w))) (sym e) tt

none_left : (files : List (List ℕ)) → of_each object_form files [] ≡ Ok []
none_left [] = refl
none_left (name ∷ names) = refl

no_file_left : (texts : List (List ℕ)) → of_each object_form [] texts ≡ Ok []
no_file_left [] = refl
no_file_left (bytes ∷ texts) = refl

pub rest_end : (files texts files' texts' : List (List ℕ)) (objects : List Object) → length texts' ≡ 0 → OfRest files texts files' texts' objects → of_each object_form files texts ≡ Ok objects
rest_end files texts files' [] objects e h = h ∙ (ap (behind objects) (none_left files') ∙ ap Ok (append-nil objects))
rest_end files texts files' (bytes ∷ texts') objects e h = absurd (omega (arith, e))

pub rest_unnamed : (files texts files' texts' : List (List ℕ)) (objects : List Object) → length files' ≡ 0 → OfRest files texts files' texts' objects → of_each object_form files texts ≡ Ok objects
rest_unnamed files texts [] texts' objects e h = h ∙ (ap (behind objects) (no_file_left texts') ∙ ap Ok (append-nil objects))
rest_unnamed files texts (name ∷ files') texts' objects e h = absurd (omega (arith, e))

-- ---- their image

-- a fault is that of the definition, unless memory is wanting
pub unlinked_as : (objects : List Object) (f : LinkFault) → (f ≢ fault.OutOfMemory → linked mpx_gates objects ≡ Err f) → SpellsLinked objects (Err f)
unlinked_as objects (fault.Twice name) h = h (λ e. cc)
unlinked_as objects (fault.Missing name) h = h (λ e. cc)
unlinked_as objects (fault.Clash name) h = h (λ e. cc)
unlinked_as objects fault.NoMain h = h (λ e. cc)
unlinked_as objects (fault.ManyFunctions n) h = h (λ e. cc)
unlinked_as objects (fault.CodeLarge n) h = h (λ e. cc)
unlinked_as objects (fault.LegacyLarge n) h = h (λ e. cc)
unlinked_as objects (fault.GlobalsLarge n) h = h (λ e. cc)
unlinked_as objects (fault.ImageLarge n) h = h (λ e. cc)
unlinked_as objects (fault.FarFix object fix) h = h (λ e. cc)
unlinked_as objects fault.OutOfMemory h = tt

-- a claim where an end tells of a file
tells : (why : End) (A B : Type 0) → (A → B) → TellsOfFile why A → TellsOfFile why B
tells end.Missing A B f h = f h
tells end.FileLarge A B f h = f h
tells (end.BadForm at) A B f h = f h
tells end.ReadFault A B f h = tt
tells end.NoMemory A B f h = tt
tells (end.BadLine line kind) A B f h = absurd h
tells (end.Exit code) A B f h = absurd h
tells (end.Bounds value lb ub) A B f h = absurd h
tells end.Unbuilt A B f h = absurd h
tells end.WordsRefused A B f h = absurd h
tells end.WriteFault A B f h = absurd h

module _ (Is Js : Result Image Refusal → Type 0) (k : (r : Result Image Refusal) → Is r → Js r) where
  fault_as : (f : LinkFault) → IsUnlinked Is (unlinked.Link f) → IsUnlinked Js (unlinked.Link f)
  fault_as (fault.Twice name) h = k _ h
  fault_as (fault.Missing name) h = k _ h
  fault_as (fault.Clash name) h = k _ h
  fault_as fault.NoMain h = k _ h
  fault_as (fault.ManyFunctions n) h = k _ h
  fault_as (fault.CodeLarge n) h = k _ h
  fault_as (fault.LegacyLarge n) h = k _ h
  fault_as (fault.GlobalsLarge n) h = k _ h
  fault_as (fault.ImageLarge n) h = k _ h
  fault_as (fault.FarFix object fix) h = k _ h
  fault_as fault.OutOfMemory h = tt

  pub spells_as : (r : Result (Vec ℕ Global) Unlinked) → SpellsImageOf Is r → SpellsImageOf Js r
  spells_as (Ok bytes) h = (h.0, k _ h.1, h.2)
  spells_as (Err (unlinked.File refused)) h = tells refused.end _ _ (k _) h
  spells_as (Err (unlinked.Link f)) h = fault_as f h

module _ (files texts : List (List ℕ)) where
  pub refused_texts : (file : List ℕ) (why : End) → TellsOfFile why (of_each object_form files texts ≡ Err (OfFile file why)) → TellsOfFile why (IsImageOfTexts files texts (Err (OfFile file why)))
  refused_texts file why h = tells why _ _ (ap image_of_objects) h

  module _ (objects : List Object) (read : of_each object_form files texts ≡ Ok objects) where
    of_linked : (r : Result Image LinkFault) → linked mpx_gates objects ≡ r → IsImageOfTexts files texts (or_refusal r)
    of_linked r h = ap image_of_objects read ∙ ap or_refusal h

    pub linked_texts : (bytes : Vec ℕ Global) → SpellsLinked objects (Ok bytes) → SpellsImageOf (IsImageOfTexts files texts) (Ok bytes)
    linked_texts bytes h = (h.0, of_linked (Ok h.0) h.1, h.2)

    pub unlinked_texts : (f : LinkFault) → SpellsLinked objects (Err f) → IsUnlinked (IsImageOfTexts files texts) (unlinked.Link f)
    unlinked_texts (fault.Twice name) h = of_linked _ h
    unlinked_texts (fault.Missing name) h = of_linked _ h
    unlinked_texts (fault.Clash name) h = of_linked _ h
    unlinked_texts fault.NoMain h = of_linked _ h
    unlinked_texts (fault.ManyFunctions n) h = of_linked _ h
    unlinked_texts (fault.CodeLarge n) h = of_linked _ h
    unlinked_texts (fault.LegacyLarge n) h = of_linked _ h
    unlinked_texts (fault.GlobalsLarge n) h = of_linked _ h
    unlinked_texts (fault.ImageLarge n) h = of_linked _ h
    unlinked_texts (fault.FarFix object fix) h = of_linked _ h
    unlinked_texts fault.OutOfMemory h = tt

module _ (told : List ℕ → FileFacts) (files : List (List ℕ)) where
  of_read : (read : Result (List (List ℕ)) Refusal) (image : Result Image Refusal) → MayRead told files read → image_of_objects (objects_of files read) ≡ image → MayLink told files image
  of_read read image h e = (h.0, h.1, ap (λ (r : Result (List (List ℕ)) Refusal). image_of_objects (objects_of files r)) h.2 ∙ e)

  pub refused_files : (file : List ℕ) (why : End) → TellsOfFile why (MayRead told files (Err (OfFile file why))) → TellsOfFile why (MayLink told files (Err (OfFile file why)))
  refused_files file why h = tells why _ _ (λ read. of_read (Err (OfFile file why)) (Err (OfFile file why)) read refl) h

  pub linked_files : (texts seen : List (List ℕ)) (r : Result (Vec ℕ Global) Unlinked) → seen ≡ texts → MayRead told files (Ok texts) → SpellsImageOf (IsImageOfTexts files seen) r → SpellsImageOf (MayLink told files) r
  linked_files texts seen r same read h = spells_as (IsImageOfTexts files seen) (MayLink told files) (λ image e. of_read (Ok texts) image read (ap (λ (t : List (List ℕ)). image_of_objects (of_each object_form files t)) (sym same) ∙ e)) r h

-- ---- the answer

module _ (reads : List ℕ → Reading) (name : List ℕ) (files : List (List ℕ)) (before : Outside) where
  pub serves : (r : Result Image Refusal) → MayLink before.files.told files r → (Claim : Due → Type 0) → Claim (due_of_link name before.input.told r) → Serves reads (Link name files) before Claim
  serves r h Claim claim = record {
    contents = h.0;
    may = h.1;
    due = due_of_link name before.input.told r;
    is = ap (due_of_link name before.input.told) (sym h.2);
    claim = claim;
  }

  -- the image, by its spelling
  pub serves_image : (v : Image) (bytes : List ℕ) → MayLink before.files.told files (Ok v) → bytes ≡ image_spelling v → (Claim : Due → Type 0) → Claim (wrote before.input.told name bytes) → Serves reads (Link name files) before Claim
  serves_image v bytes h e Claim claim = serves (Ok v) h Claim (subst (λ (b : List ℕ). Claim (wrote before.input.told name b)) e claim)

  module _ (after : Outside) (status : ℕ) (same : IsSame before after) where
    -- this line and status 1 are due, and nothing else
    refuses : (r : Result Image Refusal) (left : Option (List ℕ)) (due : Due) (line : List ℕ) → left ≡ before.input.told
        → due ≡ record { flow = Some (record { out = []; left = left }); line = Some line; status = 1; written = None; lack = None }
        → due_of_link name before.input.told r ≡ due → MayLink before.files.told files r → after.files.reads ≡ before.files.reads → Reports line 1 status before.err after.err → Answers reads (Link name files) before after status
    refuses r left due line l d e h counts reports = record {
      end = Whole (Some line) 1;
      works = serves r h (λ (x : Due). IsDone x (Some line) 1 before after) (subst (λ (x : Due). IsDone x (Some line) 1 before after) (sym (e ∙ d)) (record {
        line_due = refl;
        status_due = refl;
        plain = plain_one;
        enough = refl;
        flows = (kept before.out after.out same.out, ap (λ (s : Stream). s.told) same.input ∙ sym l);
        writes = same.files;
      }));
      input = same.input;
      counts = record { reads = counts; writes = same.writes; input = ap (λ (s : Stream). s.faults) same.input; out = ap (λ (s : Stream). s.faults) same.out };
      reports = reports;
    }

    -- a file is refused
    pub refused_answers : (file : List ℕ) (why : End) → TellsOfFile why (MayLink before.files.told files (Err (OfFile file why))) → LoadCounts {X = List ℕ} (Err why) before.files.reads after.files.reads
        → Reports (line_of file why) (status_of why) status before.err after.err → Answers reads (Link name files) before after status
    refused_answers file end.Missing h counts reports = refuses (Err (OfFile file end.Missing)) before.input.told _ (line_of file end.Missing) refl refl refl h counts reports
    refused_answers file end.FileLarge h counts reports = refuses (Err (OfFile file end.FileLarge)) before.input.told _ (line_of file end.FileLarge) refl refl refl h counts reports
    refused_answers file (end.BadForm at) h counts reports = refuses (Err (OfFile file (end.BadForm at))) before.input.told _ (line_of file (end.BadForm at)) refl refl refl h counts reports
    refused_answers file end.ReadFault h counts reports = record {
      end = FileUnread;
      works = untouched before after same;
      input = same.input;
      counts = record { reads = counts; writes = same.writes; input = ap (λ (s : Stream). s.faults) same.input; out = ap (λ (s : Stream). s.faults) same.out };
      reports = reports;
    }
    refused_answers file end.NoMemory h counts reports = memory_answers reads (Link name files) file before after status same counts reports
    refused_answers file (end.BadLine line kind) h counts reports = absurd h
    refused_answers file (end.Exit code) h counts reports = absurd h
    refused_answers file (end.Bounds value lb ub) h counts reports = absurd h
    refused_answers file end.Unbuilt h counts reports = absurd h
    refused_answers file end.WordsRefused h counts reports = absurd h
    refused_answers file end.WriteFault h counts reports = absurd h

    module _ (counts : after.files.reads ≡ before.files.reads) where
      -- the first fault is told, or there is no memory for its line
      faulted : (f : LinkFault) → MayLink before.files.told files (Err (OfLink f)) → Reports (line_of_fault f) 1 status before.err after.err ⊎ Reports (line_of [] end.NoMemory) 5 status before.err after.err
          → Answers reads (Link name files) before after status
      faulted f h (inl reports) = refuses (Err (OfLink f)) before.input.told _ (line_of_fault f) refl refl refl h counts reports
      faulted f h (inr reports) = memory_answers reads (Link name files) [] before after status same counts reports

      pub fault_answers : (f : LinkFault) → IsUnlinked (MayLink before.files.told files) (unlinked.Link f) → ReportsFault f status before.err after.err → Answers reads (Link name files) before after status
      fault_answers (fault.Twice symbol) h reports = faulted (fault.Twice symbol) h reports
      fault_answers (fault.Missing symbol) h reports = faulted (fault.Missing symbol) h reports
      fault_answers (fault.Clash symbol) h reports = faulted (fault.Clash symbol) h reports
      fault_answers fault.NoMain h reports = faulted fault.NoMain h reports
      fault_answers (fault.ManyFunctions n) h reports = faulted (fault.ManyFunctions n) h reports
      fault_answers (fault.CodeLarge n) h reports = faulted (fault.CodeLarge n) h reports
      fault_answers (fault.LegacyLarge n) h reports = faulted (fault.LegacyLarge n) h reports
      fault_answers (fault.GlobalsLarge n) h reports = faulted (fault.GlobalsLarge n) h reports
      fault_answers (fault.ImageLarge n) h reports = faulted (fault.ImageLarge n) h reports
      fault_answers (fault.FarFix object fix) h reports = faulted (fault.FarFix object fix) h reports
      fault_answers fault.OutOfMemory h reports = memory_answers reads (Link name files) [] before after status same counts reports

-- what is told of a refused file, and of a fault
module _ (Is : Result Image Refusal → Type 0) (u : Unlinked) where
  pub file_told : (r : Refused) → u ≡ unlinked.File r → IsUnlinked Is u → TellsOfFile r.end (Is (Err (OfFile r.file.now r.end)))
  file_told r e h = subst (λ (x : Unlinked). IsUnlinked Is x) e h

  pub fault_told : (f : LinkFault) → u ≡ unlinked.Link f → IsUnlinked Is u → IsUnlinked Is (unlinked.Link f)
  fault_told f e h = subst (λ (x : Unlinked). IsUnlinked Is x) e h

module _ (u : Unlinked) (old new : ℕ) (h : UnlinkedCounts {X = Vec ℕ Global} (Err u) old new) where
  pub file_counts : (r : Refused) → u ≡ unlinked.File r → LoadCounts {X = List ℕ} (Err r.end) old new
  file_counts r e = load_same (Vec ℕ Global) (List ℕ) r.end old new (subst (λ (x : Unlinked). UnlinkedCounts {X = Vec ℕ Global} (Err x) old new) e h)

  pub fault_counts : (f : LinkFault) → u ≡ unlinked.Link f → new ≡ old
  fault_counts f e = subst (λ (x : Unlinked). UnlinkedCounts {X = Vec ℕ Global} (Err x) old new) e h

pub none_mapped : {X : Type 0} (f : X → List ℕ) (xs : List X) → length xs ≡ 0 → length (map f xs) ≡ 0
none_mapped f [] e = refl
none_mapped f (x ∷ xs) e = absurd (omega (arith, e))

-- the line of a fault, where it is told
pub told_fault : (f : LinkFault) (status : ℕ) (before after : Stream) → f ≢ fault.OutOfMemory → Reports (line_of_fault f) 1 status before after → ReportsFault f status before after
told_fault (fault.Twice symbol) status before after n h = inl h
told_fault (fault.Missing symbol) status before after n h = inl h
told_fault (fault.Clash symbol) status before after n h = inl h
told_fault fault.NoMain status before after n h = inl h
told_fault (fault.ManyFunctions k) status before after n h = inl h
told_fault (fault.CodeLarge k) status before after n h = inl h
told_fault (fault.LegacyLarge k) status before after n h = inl h
told_fault (fault.GlobalsLarge k) status before after n h = inl h
told_fault (fault.ImageLarge k) status before after n h = inl h
told_fault (fault.FarFix object fix) status before after n h = inl h
told_fault fault.OutOfMemory status before after n h = absurd (n refl)

pub told_line : (f : LinkFault) (line : List ℕ) (status : ℕ) (before after : Stream) → f ≢ fault.OutOfMemory → line ≡ line_of_fault f → Reports line 1 status before after → ReportsFault f status before after
told_line f line status before after n e h = told_fault f status before after n (subst (λ (l : List ℕ). Reports l 1 status before after) e h)

-- no read failed where a text was no object
pub form_was_read : (x : FormFault) (why : End) → why ≡ refusal_of_form x → why ≢ end.ReadFault
form_was_read (form.BadForm at) why e r = let same : end.BadForm at ≡ end.ReadFault = sym e ∙ r in cc
form_was_read form.OutOfMemory why e r = let same : end.NoMemory ≡ end.ReadFault = sym e ∙ r in cc

same_count : (X : Type 0) (why : End) (old new : ℕ) → why ≢ end.ReadFault → new ≡ old → LoadCounts {X = X} (Err why) old new
same_count X end.ReadFault old new n e = absurd (n refl)
same_count X end.Missing old new n e = e
same_count X end.FileLarge old new n e = e
same_count X (end.BadForm at) old new n e = e
same_count X (end.BadLine line kind) old new n e = e
same_count X end.NoMemory old new n e = e
same_count X (end.Exit code) old new n e = e
same_count X (end.Bounds value lb ub) old new n e = e
same_count X end.Unbuilt old new n e = e
same_count X end.WordsRefused old new n e = e
same_count X end.WriteFault old new n e = e

pub same_counts : (r : Result (Vec ℕ Global) Unlinked) (old new : ℕ) → IfErr r WasRead → new ≡ old → UnlinkedCounts r old new
same_counts (Ok bytes) old new n e = e
same_counts (Err (unlinked.File refused)) old new n e = same_count (Vec ℕ Global) refused.end old new n e
same_counts (Err (unlinked.Link f)) old new n e = e

-- one thing more of a kind
pub all_with : {X : Type 0} (P : X → Type 0) (xs : List X) (x : X) → All P xs → P x → All P (xs ++ (x ∷ []))
all_with P xs x all h = All-append P xs (x ∷ []) all (All-from_recursion P (x ∷ []) (h, tt))
