-- Texts on standard output, and files that are written.
use Rattle.std.proofs.Common.{◌≡◌, ◌∙◌, ℕ, Option, None, Some, Ok, Err, List, [], ◌∷◌, refl, sym, ap, subst, arith}
use Rattle.std.specs.Prelude.{Result}
use Rattle.mx_base.specs.Outside.{Untold, HoldsWhereTold, HasRisen}
use Rattle.obj_file.specs.Machine.{Reading}
use Rattle.mpx_words.specs.declared.end.End.TheVariants.{WriteFault}
use Rattle.mpx_words.specs.Answers.{Whole, OutputUnwritten, FileUnwritten, Answers, Serves, IsDone, IsCut, IsPlain, IsUnwritten, KeepsFiles, KeepsOthers, Reports}
use Rattle.mx_gen.specs.Program.{program_of}
use Rattle.mpx_words.specs.Commands.{Command, Gen, Dis, Make, files_of}
use Rattle.std.specs.declared.vec.Vec.{Vec}
use Rattle.std.specs.Global.{Global}
use Rattle.mpx_words.specs.declared.end.End.{End}
use Rattle.mpx_words.specs.declared.making.Making.{Making}
use Rattle.mpx_words.specs.Listing.{object_codes, image_codes, IsListing}
use Rattle.mpx_words.specs.Due.{Due, IsDue, IsDueOf, refused, printed, wrote}
use Rattle.mpx_words.specs.Ends.{line_of}
use Rattle.mpx_words.specs.Files.{Content, MayEachBe, MayHold, Form, formed, by_form, Yields, IsText}
use Rattle.mpx_words.specs.Makings.{made_by}
use Rattle.mpx_words.specs.Outside.{Stream, Outside}
use Rattle.mpx_words.specs.Sinks.{Prints, All, Part}
use Rattle.mpx_words.proofs.Choices.{leaves, formed_as, kept}

plain_zero : IsPlain 0
plain_zero = record { not_refused = λ e. omega (arith, e); not_unread = λ e. omega (arith, e); not_unwritten = λ e. omega (arith, e) }

-- a text that is due was printed
module _ (reads : List ℕ → Reading) (c : Command) (before after : Outside) (status : ℕ) (text : List ℕ)
    (serves : (Claim : Due → Type 0) → Claim (printed before.input.told text) → Serves reads c before Claim)
    (files : KeepsFiles before after) (counts : after.files.reads ≡ before.files.reads) (writes : after.files.writes ≡ before.files.writes) (input : after.input ≡ before.input) where
  pub printed_answers : Prints text status before.out after.out before.err after.err → Answers reads c before after status
  printed_answers (All is adds faults same) = record {
    end = Whole None 0;
    works = serves (λ (due : Due). IsDone due None 0 before after) (record {
      line_due = refl;
      status_due = refl;
      plain = plain_zero;
      enough = refl;
      flows = (adds, ap (λ (s : Stream). s.told) input);
      writes = files;
    });
    input = leaves c before after input;
    counts = record { reads = counts; writes = writes; input = ap (λ (s : Stream). s.faults) input; out = faults };
    reports = (is, kept before.err after.err same, ap (λ (s : Stream). s.faults) same);
  }
  printed_answers (Part adds risen reports) = record {
    end = OutputUnwritten;
    works = serves (λ (due : Due). IsCut due before after) (record { flows = adds; files = files });
    input = leaves c before after input;
    counts = record { reads = counts; writes = writes; input = ap (λ (s : Stream). s.faults) input; out = risen };
    reports = reports;
  }

-- a claim on what is due of a file by its form
module _ {X : Type 0} (form : Form X) (reads : List ℕ → Reading) (c : Command) (file : List ℕ) (one : files_of c ≡ file ∷ []) (before : Outside) (due : Due) (bytes : List ℕ) (x : X)
    (holds : MayHold (before.files.told file) bytes) (is : form bytes ≡ Ok x)
    (is_due : formed form (Some bytes) ≡ Ok x → IsDue reads c (Some bytes ∷ []) before.input.told due) where
  pub serves_form : (Claim : Due → Type 0) → Claim due → Serves reads c before Claim
  serves_form Claim h = record {
    contents = Some bytes ∷ [];
    may = subst (λ names. MayEachBe before.files.told names (Some bytes ∷ [])) (sym one) (holds.may, tt);
    due = due;
    is = is_due (formed_as form bytes (Ok x) holds.few is);
    claim = h;
  }

-- a file that is due was written, or not
module _ (reads : List ℕ → Reading) (c : Command) (before after : Outside) (status : ℕ) (name bytes : List ℕ)
    (serves : (Claim : Due → Type 0) → Claim (wrote before.input.told name bytes) → Serves reads c before Claim)
    (others : KeepsOthers name before after) (counts : after.files.reads ≡ before.files.reads) (input : after.input ≡ before.input) (out : after.out ≡ before.out) where
  pub wrote_answers : status ≡ 0 → after.err ≡ before.err → HoldsWhereTold (after.files.told name) bytes → after.files.writes ≡ before.files.writes → Answers reads c before after status
  wrote_answers is same holds writes = record {
    end = Whole None 0;
    works = serves (λ (due : Due). IsDone due None 0 before after) (record {
      line_due = refl;
      status_due = refl;
      plain = plain_zero;
      enough = refl;
      flows = (kept before.out after.out out, ap (λ (s : Stream). s.told) input);
      writes = (holds, others);
    });
    input = leaves c before after input;
    counts = record { reads = counts; writes = writes; input = ap (λ (s : Stream). s.faults) input; out = ap (λ (s : Stream). s.faults) out };
    reports = (is, kept before.err after.err same, ap (λ (s : Stream). s.faults) same);
  }

  pub unwritten_answers : (file : List ℕ) → after.files.told name ≡ Untold → HasRisen before.files.writes after.files.writes → Reports (line_of file WriteFault) 4 status before.err after.err → Answers reads c before after status
  unwritten_answers file lost writes reports = record {
    end = FileUnwritten;
    works = serves (λ (due : Due). IsUnwritten due before after) (record {
      written = record { name = name; bytes = bytes };
      is = refl;
      flows = (kept before.out after.out out, ap (λ (s : Stream). s.told) input);
      lost = lost;
      others = others;
    });
    input = leaves c before after input;
    counts = record { reads = counts; writes = writes; input = ap (λ (s : Stream). s.faults) input; out = ap (λ (s : Stream). s.faults) out };
    reports = reports;
  }

-- ---- the commands

-- the same text was printed
pub as_text : {a b : List ℕ} {status : ℕ} {out out' err err' : Stream} → a ≡ b → Prints a status out out' err err' → Prints b status out out' err err'
as_text {status = status} {out = out} {out' = out'} {err = err} {err' = err'} e h = subst (λ (t : List ℕ). Prints t status out out' err err') e h

pub gen_serves : (reads : List ℕ → Reading) (n : ℕ) (before : Outside) (Claim : Due → Type 0) → Claim (printed before.input.told (program_of n)) → Serves reads (Gen n) before Claim
gen_serves reads n before Claim h = record {
  contents = [];
  may = tt;
  due = printed before.input.told (program_of n);
  is = refl;
  claim = h;
}

pub dis_refused : (reads : List ℕ → Reading) (file : List ℕ) (left : Option (List ℕ)) (content : Content) (why : End) → formed (by_form object_codes image_codes) content ≡ Err why → IsDue reads (Dis file) (content ∷ []) left (refused file left why)
dis_refused reads file left content why e = subst (λ r. IsDueOf file left (λ parts due. (text : List ℕ) × IsListing parts text × (due ≡ printed left text)) r (refused file left why)) (sym e) refl

pub dis_serves : (reads : List ℕ → Reading) (file : List ℕ) (before : Outside) (v : Vec ℕ Global) → Yields (by_form object_codes image_codes) IsListing (before.files.told file) (Ok v) → (Claim : Due → Type 0) → Claim (printed before.input.told v.items) → Serves reads (Dis file) before Claim
dis_serves reads file before v y = serves_form (by_form object_codes image_codes) reads (Dis file) file refl before (printed before.input.told v.items) y.0 y.2 y.1 y.3
    (λ e. subst (λ r. IsDueOf file before.input.told (λ parts due. (text : List ℕ) × IsListing parts text × (due ≡ printed before.input.told text)) r (printed before.input.told v.items)) (sym e) (v.items, y.4, refl))

pub make_refused : (reads : List ℕ → Reading) (m : Making) (name file : List ℕ) (left : Option (List ℕ)) (content : Content) (why : End) → formed (made_by m) content ≡ Err why → IsDue reads (Make m name file) (content ∷ []) left (refused file left why)
make_refused reads m name file left content why e = subst (λ r. IsDueOf file left (λ bytes due. due ≡ wrote left name bytes) r (refused file left why)) (sym e) refl

pub make_serves : (reads : List ℕ → Reading) (m : Making) (name file : List ℕ) (before : Outside) (v : Vec ℕ Global) → Yields (made_by m) IsText (before.files.told file) (Ok v) → (Claim : Due → Type 0) → Claim (wrote before.input.told name v.items) → Serves reads (Make m name file) before Claim
make_serves reads m name file before v y = serves_form (made_by m) reads (Make m name file) file refl before (wrote before.input.told name v.items) y.0 y.2 y.1 y.3
    (λ e. subst (λ r. IsDueOf file before.input.told (λ bytes due. due ≡ wrote before.input.told name bytes) r (wrote before.input.told name v.items)) (sym e) (ap (wrote before.input.told name) y.4))
