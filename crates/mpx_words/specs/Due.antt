-- What is due of a command, by the contents of its files and the input that is told.
use Rattle.std.specs.Prelude.{◌≡◌, ℕ, Option, None, Some, Result, Ok, Err, List, [], ◌∷◌}
use Rattle.c_reader.specs.EarlyForm.{IsEarly}
use Rattle.c_reader.specs.EarlyMeaning.{EarlyEnd, Returns, Leaves, early_run}
use Rattle.c_reader.specs.declared.early.Act.{Act}
use Rattle.fault_text.specs.Explain as explain
use Rattle.mx_base.specs.declared.stops.Stop.{Stop}
use Rattle.mx_gen.specs.Program.{program_of}
use Rattle.mx_run.specs.Events.{out_of}
use Rattle.obj_file.specs.declared.image.Image.{Image}
use Rattle.obj_file.specs.Image.{image_spelling}
use Rattle.obj_file.specs.Machine.{Reading}
use Rattle.mpx_words.specs.declared.end.End.{End}
use Rattle.mpx_words.specs.declared.end.End.TheVariants.{Exit, Bounds, Missing, Unbuilt}
use Rattle.mpx_words.specs.declared.options.Settings.{Settings}
use Rattle.mpx_words.specs.Commands.{Command, Run, Exec, Dis, Gen, Make, Link}
use Rattle.mpx_words.specs.Ends.{status_of, line_of}
use Rattle.mpx_words.specs.Files.{Content, formed, by_form, image_form}
use Rattle.mpx_words.specs.Linking.{Refusal, OfFile, OfLink, image_of_files, line_of_fault}
use Rattle.mpx_words.specs.Listing.{object_codes, image_codes, IsListing}
use Rattle.mpx_words.specs.Makings.{made_by}
use Rattle.mpx_words.specs.Running.{run_by, lack_by, stop_of, rest_of}
use Rattle.mpx_words.specs.Stops.{stop_status_of}

-- what is put on standard output, and what is told then of the input that is left
pub record Flow : Type 0 where
  pub out : List ℕ
  pub left : Option (List ℕ)

-- a file with its bytes
pub record Written : Type 0 where
  pub name : List ℕ
  pub bytes : List ℕ

-- what is due: what flows, where that is known; the line on standard error, if there is one; the status; the file that is written, if
-- there is one; and, where the machine has too few frames, how many are in use and how many there are
pub record Due : Type 0 where
  pub flow : Option Flow
  pub line : Option (List ℕ)
  pub status : ℕ
  pub written : Option Written
  pub lack : Option (ℕ × ℕ)

-- ---- the kinds of it

-- this output, and the line of how it ended
abbrev pub reported : List ℕ → Option (List ℕ) → List ℕ → End → Due
reported file left out end = record {
  flow = Some (record { out = out; left = left });
  line = Some (line_of file end);
  status = status_of end;
  written = None;
  lack = None;
}

-- a file is refused
abbrev pub refused : List ℕ → Option (List ℕ) → End → Due
refused file left end = reported file left [] end

-- text on standard output, and nothing else
abbrev pub printed : Option (List ℕ) → List ℕ → Due
printed left text = record { flow = Some (record { out = text; left = left }); line = None; status = 0; written = None; lack = None }

-- a file is written, and nothing else is done
abbrev pub wrote : Option (List ℕ) → List ℕ → List ℕ → Due
wrote left name bytes = record {
  flow = Some (record { out = []; left = left });
  line = None;
  status = 0;
  written = Some (record { name = name; bytes = bytes });
  lack = None;
}

-- ---- a program of the early form

abbrev pub end_of : EarlyEnd → End
end_of (Returns code) = Exit code
end_of (Leaves value lb ub) = Bounds value lb ub

-- what a text puts, and how it ends: as the run of the program that it spells, or it is not built
pub data IsRunOfText (bytes out : List ℕ) (end : End) : Type 0 where
  IsProgram : (size : ℕ) (acts : List Act) (code : ℕ) → IsEarly bytes size acts code
      → out ≡ (early_run size acts code).out → end ≡ end_of (early_run size acts code).ends → IsRunOfText bytes out end
  IsNoProgram : ((size : ℕ) (acts : List Act) (code : ℕ) → IsEarly bytes size acts code → ⊥)
      → out ≡ [] → end ≡ Unbuilt → IsRunOfText bytes out end

abbrev pub IsRunOf : Content → List ℕ → End → Type 0
IsRunOf None out end = (out ≡ []) × (end ≡ Missing)
IsRunOf (Some bytes) out end = IsRunOfText bytes out end

-- ---- an image

-- the output of its run, the input left, and the line of its stop
abbrev pub due_of_run : (List ℕ → Reading) → Settings → Image → List ℕ → Due
due_of_run reads s v input =
    let end = run_by reads s v input in
    record {
      flow = Some (record { out = out_of end; left = Some (rest_of end) });
      line = Some (explain.line_of (stop_of end) v);
      status = stop_status_of (stop_of end);
      written = None;
      lack = lack_by reads s v input;
    }

-- over an input that is not told: the line of some stop
abbrev pub due_unseen : Image → Stop → Option (ℕ × ℕ) → Due
due_unseen v why lack = record { flow = None; line = Some (explain.line_of why v); status = stop_status_of why; written = None; lack = lack }

abbrev pub IsDueOfRun : (List ℕ → Reading) → Settings → Image → Option (List ℕ) → Due → Type 0
IsDueOfRun reads s v (Some input) due = due ≡ due_of_run reads s v input
IsDueOfRun reads s v None due = (why : Stop) × (lack : Option (ℕ × ℕ)) × (due ≡ due_unseen v why lack)

-- ---- a command

-- what is due of what a file is, or that it is refused
abbrev pub IsDueOf : {X : Type 0} → List ℕ → Option (List ℕ) → (X → Due → Type 0) → Result X End → Due → Type 0
IsDueOf file left IsDueOfIt (Ok x) due = IsDueOfIt x due
IsDueOf file left IsDueOfIt (Err end) due = due ≡ refused file left end

-- what is due of a link: the image is written, or a file is refused, or there is the line of the first fault
abbrev pub due_of_link : (name : List ℕ) → Option (List ℕ) → Result Image Refusal → Due
due_of_link name left (Ok v) = wrote left name (image_spelling v)
due_of_link name left (Err (OfFile file end)) = refused file left end
due_of_link name left (Err (OfLink fault)) = record {
  flow = Some (record { out = []; left = left });
  line = Some (line_of_fault fault);
  status = 1;
  written = None;
  lack = None;
}

-- what is due of the content of a command's one file
abbrev pub OfOne : (Content → Due → Type 0) → List Content → Due → Type 0
OfOne IsDueOfIt (content ∷ []) due = IsDueOfIt content due
OfOne IsDueOfIt contents due = ⊥

-- what is due of a command, by a reader of instructions, the contents of the files that it reads, and what is told of the input
abbrev pub IsDue : (List ℕ → Reading) → Command → List Content → Option (List ℕ) → Due → Type 0
IsDue reads (Run file) contents left due =
    OfOne (λ content due. (out : List ℕ) × (end : End) × IsRunOf content out end × (due ≡ reported file left out end)) contents due
IsDue reads (Exec s file) contents left due =
    OfOne (λ content due. IsDueOf file left (λ v. IsDueOfRun reads s v left) (formed image_form content) due) contents due
IsDue reads (Dis file) contents left due =
    OfOne (λ content due. IsDueOf file left (λ parts due. (text : List ℕ) × IsListing parts text × (due ≡ printed left text))
    (formed (by_form object_codes image_codes) content) due) contents due
IsDue reads (Gen n) contents left due = due ≡ printed left (program_of n)
IsDue reads (Make m name file) contents left due =
    OfOne (λ content due. IsDueOf file left (λ bytes due. due ≡ wrote left name bytes) (formed (made_by m) content) due) contents due
IsDue reads (Link name files) contents left due = due ≡ due_of_link name left (image_of_files files contents)
