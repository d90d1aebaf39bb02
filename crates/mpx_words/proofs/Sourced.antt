-- From what was read of a source to the answer of `run`.
use Rattle.std.proofs.Common.{◌≡◌, ◌∙◌, ℕ, ◌≤◌, Option, None, Some, Ok, List, [], ◌∷◌, length, take, refl, ap, sym, subst, arith}
use Rattle.std.proofs.lemmas.List.{take_all, length-take}
use Rattle.std.specs.declared.vec.Vec.{Vec}
use Rattle.std.specs.Global.{Global}
use Rattle.c_reader.specs.EarlyForm.{IsEarly}
use Rattle.c_reader.specs.EarlyMeaning.{EarlyEnd, Returns, Leaves, early_run}
use Rattle.c_reader.specs.declared.early.Act.{Act}
use Rattle.mx_base.specs.Outside.{FileFacts, Untold, Absent, Holds, Adds}
use Rattle.obj_file.specs.Machine.{Reading}
use Rattle.mpx_words.specs.declared.end.End.{End}
use Rattle.mpx_words.specs.declared.end.End.TheVariants as end
use Rattle.mpx_words.specs.declared.source_file.TheConstants.{ENOUGH}
use Rattle.mpx_words.specs.Answers.{Whole, FileUnread, OutputUnwritten, LacksMemory, Answers, Serves, IsDone, IsCut, IsPlain, KeepsFiles, Reports}
use Rattle.mpx_words.specs.Commands.{Run}
use Rattle.mpx_words.specs.Due.{Due, end_of, IsRunOf, IsRunOfText, IsProgram, IsNoProgram, reported}
use Rattle.mpx_words.specs.Early.{RunsProgram, RunsText, RunsSource, SourceCounts, TextCounts}
use Rattle.mpx_words.specs.Ends.{line_of, status_of}
use Rattle.mpx_words.specs.Files.{Content, MayBe}
use Rattle.mpx_words.specs.Outside.{Stream, Outside}
use Rattle.mpx_words.specs.Sources.{IsFrontOf, ReadsFront}
use Rattle.mpx_words.proofs.Puts.{adds_nothing}

-- ---- a text

program_text : (bytes : List ℕ) (size : ℕ) (acts : List Act) (code : ℕ) (why : End) → IsEarly bytes size acts code → why ≡ end_of (early_run size acts code).ends → IsRunOfText bytes (early_run size acts code).out why
program_text bytes size acts code why early e = IsProgram size acts code early refl e

-- a program that the text spells ran
pub text_ran : (bytes : List ℕ) (size : ℕ) (acts : List Act) (code : ℕ) (why : End) (held held' : Option (List ℕ)) → IsEarly bytes size acts code → RunsProgram (early_run size acts code) why held held' → RunsText bytes why held held'
text_ran bytes size acts code end.ReadFault held held' early h = h
text_ran bytes size acts code end.NoMemory held held' early h = h
text_ran bytes size acts code end.WriteFault held held' early h = ((early_run size acts code).out, end_of (early_run size acts code).ends, program_text bytes size acts code _ early refl, h)
text_ran bytes size acts code (end.Exit n) held held' early h = ((early_run size acts code).out, program_text bytes size acts code _ early h.0, h.1)
text_ran bytes size acts code (end.Bounds value lb ub) held held' early h = ((early_run size acts code).out, program_text bytes size acts code _ early h.0, h.1)
text_ran bytes size acts code end.Missing held held' early h = ((early_run size acts code).out, program_text bytes size acts code _ early h.0, h.1)
text_ran bytes size acts code end.Unbuilt held held' early h = ((early_run size acts code).out, program_text bytes size acts code _ early h.0, h.1)
text_ran bytes size acts code end.FileLarge held held' early h = ((early_run size acts code).out, program_text bytes size acts code _ early h.0, h.1)
text_ran bytes size acts code (end.BadForm at) held held' early h = ((early_run size acts code).out, program_text bytes size acts code _ early h.0, h.1)
text_ran bytes size acts code (end.BadLine line kind) held held' early h = ((early_run size acts code).out, program_text bytes size acts code _ early h.0, h.1)
text_ran bytes size acts code end.WordsRefused held held' early h = ((early_run size acts code).out, program_text bytes size acts code _ early h.0, h.1)

-- a text that spells no program is refused, and nothing is put
pub text_unbuilt : (bytes : List ℕ) (held : Option (List ℕ)) → ((size : ℕ) (acts : List Act) (code : ℕ) → IsEarly bytes size acts code → ⊥) → RunsText bytes end.Unbuilt held held
text_unbuilt bytes held none = ([], IsNoProgram none refl refl, adds_nothing held)

-- ---- a file

whole : (held : List ℕ) → length held ≤ 65536 → take 65537 held ≡ held
whole held le = take_all 65537 held (omega arith)

short : (held front : List ℕ) → front ≡ take 65537 held → length front ≤ 65536 → front ≡ held
short held front e le =
    let fits : length held ≤ 65536 = omega (arith, ap length e, length-take 65537 held) in
    e ∙ whole held fits

held_run : (held front out : List ℕ) (why : End) → front ≡ take 65537 held → IsRunOfText front out why → IsRunOfText held out why
held_run held front out why e (IsProgram size acts code early o w) = IsProgram size acts code (subst (λ (xs : List ℕ). IsEarly xs size acts code) (short held front e early.small) early) o w
held_run held front out why e (IsNoProgram none o w) = IsNoProgram (λ size acts code early. none size acts code (subst (λ (xs : List ℕ). IsEarly xs size acts code) (sym (e ∙ whole held early.small)) early)) o w

-- what a file may be whose front was read
record Fronted (facts : FileFacts) (front : List ℕ) : Type 0 where
  content : Content
  may : MayBe facts content
  run : (out : List ℕ) (why : End) → IsRunOfText front out why → IsRunOf content out why

fronted : (facts : FileFacts) (front : List ℕ) → IsFrontOf ENOUGH facts front → Fronted facts front
fronted Untold front f = record { content = Some front; may = tt; run = λ out why h. h }
fronted Absent front f = absurd f
fronted (Holds held) front f = record { content = Some held; may = refl; run = λ out why h. held_run held front out why f h }

source_ran : (facts : FileFacts) (front : List ℕ) (why : End) (held held' : Option (List ℕ)) → Fronted facts front → RunsText front why held held' → RunsSource facts why held held'
source_ran facts front end.ReadFault held held' f h = absurd h
source_ran facts front end.NoMemory held held' f h = h
source_ran facts front end.WriteFault held held' f h = (f.content, f.may, h.0, h.1, f.run h.0 h.1 h.2, h.3)
source_ran facts front (end.Exit n) held held' f h = (f.content, f.may, h.0, f.run h.0 _ h.1, h.2)
source_ran facts front (end.Bounds value lb ub) held held' f h = (f.content, f.may, h.0, f.run h.0 _ h.1, h.2)
source_ran facts front end.Missing held held' f h = (f.content, f.may, h.0, f.run h.0 _ h.1, h.2)
source_ran facts front end.Unbuilt held held' f h = (f.content, f.may, h.0, f.run h.0 _ h.1, h.2)
source_ran facts front end.FileLarge held held' f h = (f.content, f.may, h.0, f.run h.0 _ h.1, h.2)
source_ran facts front (end.BadForm at) held held' f h = (f.content, f.may, h.0, f.run h.0 _ h.1, h.2)
source_ran facts front (end.BadLine line kind) held held' f h = (f.content, f.may, h.0, f.run h.0 _ h.1, h.2)
source_ran facts front end.WordsRefused held held' f h = (f.content, f.may, h.0, f.run h.0 _ h.1, h.2)

-- the text of a file ran, as reading answered it
pub file_ran : (facts : FileFacts) (o : Option (Vec ℕ Global)) (v : Vec ℕ Global) (bytes : List ℕ) (why : End) (held held' : Option (List ℕ)) → bytes ≡ v.items → o ≡ Some v → ReadsFront ENOUGH facts (Ok o) → RunsText bytes why held held' → RunsSource facts why held held'
file_ran facts o v bytes why held held' same is h ran =
    source_ran facts v.items why held held' (fronted facts v.items (subst (λ (p : Option (Vec ℕ Global)). ReadsFront ENOUGH facts (Ok p)) is h)) (subst (λ (xs : List ℕ). RunsText xs why held held') same ran)

pub file_missing : (facts : FileFacts) (held : Option (List ℕ)) → MayBe facts None → RunsSource facts end.Missing held held
file_missing facts held may = (None, may, [], (refl, refl), adds_nothing held)

-- ---- the answer

plain_end : (e : EarlyEnd) → IsPlain (status_of (end_of e))
plain_end (Returns code) = record { not_refused = λ e. omega (arith, e); not_unread = λ e. omega (arith, e); not_unwritten = λ e. omega (arith, e) }
plain_end (Leaves value lb ub) = record { not_refused = λ e. omega (arith, e); not_unread = λ e. omega (arith, e); not_unwritten = λ e. omega (arith, e) }

plain_one : IsPlain 1
plain_one = record { not_refused = λ e. omega (arith, e); not_unread = λ e. omega (arith, e); not_unwritten = λ e. omega (arith, e) }

plain_run : (content : Content) (out : List ℕ) (why : End) → IsRunOf content out why → IsPlain (status_of why)
plain_run None out why h = subst (λ (w : End). IsPlain (status_of w)) (sym h.1) plain_one
plain_run (Some bytes) out why (IsProgram size acts code early o e) = subst (λ (w : End). IsPlain (status_of w)) (sym e) (plain_end (early_run size acts code).ends)
plain_run (Some bytes) out why (IsNoProgram none o e) = subst (λ (w : End). IsPlain (status_of w)) (sym e) plain_one

module _ (reads : List ℕ → Reading) (file : List ℕ) (before after : Outside) (status : ℕ) (files : KeepsFiles before after) (writes : after.files.writes ≡ before.files.writes) (input : after.input ≡ before.input) where
  serves : (content : Content) (out : List ℕ) (why : End) → MayBe (before.files.told file) content → IsRunOf content out why → (Claim : Due → Type 0) → Claim (reported file before.input.told out why) → Serves reads (Run file) before Claim
  serves content out why may is Claim h = record {
    contents = content ∷ [];
    may = (may, tt);
    due = reported file before.input.told out why;
    is = (out, why, is, refl);
    claim = h;
  }

  whole_answers : (why : End) → (content : Content) × MayBe (before.files.told file) content × (out : List ℕ) × IsRunOf content out why × Adds before.out.told after.out.told out
      → (after.files.reads ≡ before.files.reads) × (after.out.faults ≡ before.out.faults) → Reports (line_of file why) (status_of why) status before.err after.err → Answers reads (Run file) before after status
  whole_answers why h counts reports = record {
    end = Whole (Some (line_of file why)) (status_of why);
    works = serves h.0 h.2 why h.1 h.3 (λ (due : Due). IsDone due (Some (line_of file why)) (status_of why) before after) (record {
      line_due = refl;
      status_due = refl;
      plain = plain_run h.0 h.2 why h.3;
      enough = refl;
      flows = (h.4, ap (λ (s : Stream). s.told) input);
      writes = files;
    });
    input = input;
    counts = record { reads = counts.0; writes = writes; input = ap (λ (s : Stream). s.faults) input; out = counts.1 };
    reports = reports;
  }

  pub source_answers : (why : End) → RunsSource (before.files.told file) why before.out.told after.out.told → SourceCounts why before.files.reads after.files.reads before.out.faults after.out.faults
      → Reports (line_of file why) (status_of why) status before.err after.err → Answers reads (Run file) before after status
  source_answers end.ReadFault h counts reports = record {
    end = FileUnread;
    works = record { out = subst (λ (t : Option (List ℕ)). Adds before.out.told t []) (sym h) (adds_nothing before.out.told); input = ap (λ (s : Stream). s.told) input; files = files };
    input = input;
    counts = record { reads = counts.0; writes = writes; input = ap (λ (s : Stream). s.faults) input; out = counts.1 };
    reports = reports;
  }
  source_answers end.NoMemory h counts reports = record {
    end = LacksMemory;
    works = record { out = subst (λ (t : Option (List ℕ)). Adds before.out.told t []) (sym h) (adds_nothing before.out.told); input = ap (λ (s : Stream). s.told) input; files = files };
    input = input;
    counts = record { reads = counts.0; writes = writes; input = ap (λ (s : Stream). s.faults) input; out = counts.1 };
    reports = reports;
  }
  source_answers end.WriteFault h counts reports = record {
    end = OutputUnwritten;
    works = serves h.0 h.2 h.3 h.1 h.4 (λ (due : Due). IsCut due before after) (record { flows = h.5; files = files });
    input = input;
    counts = record { reads = counts.0; writes = writes; input = ap (λ (s : Stream). s.faults) input; out = counts.1 };
    reports = reports;
  }
  source_answers (end.Exit n) h counts reports = whole_answers (end.Exit n) h counts reports
  source_answers (end.Bounds value lb ub) h counts reports = whole_answers (end.Bounds value lb ub) h counts reports
  source_answers end.Missing h counts reports = whole_answers end.Missing h counts reports
  source_answers end.Unbuilt h counts reports = whole_answers end.Unbuilt h counts reports
  source_answers end.FileLarge h counts reports = whole_answers end.FileLarge h counts reports
  source_answers (end.BadForm at) h counts reports = whole_answers (end.BadForm at) h counts reports
  source_answers (end.BadLine line kind) h counts reports = whole_answers (end.BadLine line kind) h counts reports
  source_answers end.WordsRefused h counts reports = whole_answers end.WordsRefused h counts reports

-- the counts of the work on a text, which reads no file
pub text_counts : (why : End) (bytes : List ℕ) (held held' : Option (List ℕ)) (reads reads' outs outs' : ℕ) → RunsText bytes why held held' → reads' ≡ reads → TextCounts why outs outs' → SourceCounts why reads reads' outs outs'
text_counts end.ReadFault bytes held held' reads reads' outs outs' h e c = absurd h
text_counts end.WriteFault bytes held held' reads reads' outs outs' h e c = (e, c)
text_counts end.NoMemory bytes held held' reads reads' outs outs' h e c = (e, c)
text_counts (end.Exit n) bytes held held' reads reads' outs outs' h e c = (e, c)
text_counts (end.Bounds value lb ub) bytes held held' reads reads' outs outs' h e c = (e, c)
text_counts end.Missing bytes held held' reads reads' outs outs' h e c = (e, c)
text_counts end.Unbuilt bytes held held' reads reads' outs outs' h e c = (e, c)
text_counts end.FileLarge bytes held held' reads reads' outs outs' h e c = (e, c)
text_counts (end.BadForm at) bytes held held' reads reads' outs outs' h e c = (e, c)
text_counts (end.BadLine line kind) bytes held held' reads reads' outs outs' h e c = (e, c)
text_counts end.WordsRefused bytes held held' reads reads' outs outs' h e c = (e, c)
