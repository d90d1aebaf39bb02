-- What is due of a refused file.
use Rattle.std.proofs.Common.{◌≡◌, ℕ, ◌<◌, ◌≤◌, Bool, true, false, cond, nat_lt, Option, None, Some, Ok, Err, List, [], ◌∷◌, length, refl, sym, ap, ◌∙◌, subst, arith}
use Rattle.std.specs.Prelude.{Result}
use Rattle.std.proofs.lemmas.Bool.Decides.{nat_tests}
use Rattle.mx_base.specs.Outside.{FileFacts, Untold, Absent, Holds, Adds}
use Rattle.obj_file.specs.Machine.{Reading}
use Rattle.mpx_words.specs.declared.end.End.{End}
use Rattle.mpx_words.specs.declared.end.End.TheVariants as end
use Rattle.mpx_words.specs.Answers.{LeavesInput, Whole, FileUnread, LacksMemory, Answers, Serves, Untouched, IsDone, IsPlain, KeepsFiles, Reports}
use Rattle.mpx_words.specs.Commands.{Command, Run, Exec, Dis, Gen, Make, Link, files_of}
use Rattle.mpx_words.specs.Due.{Due, IsDue, refused}
use Rattle.mpx_words.specs.Ends.{line_of, status_of}
use Rattle.mpx_words.specs.Files.{Content, MayBe, MayEachBe, file_limit, Form, formed, IsRefused, LoadCounts}
use Rattle.mpx_words.specs.Outside.{Stream, Outside, stream}
use Rattle.mpx_words.proofs.Puts.{adds_nothing}

-- ---- forms

few : (n : ℕ) → n ≤ file_limit → nat_lt file_limit n ≡ false
few n h = grind (arith, nat_tests)

many : (n : ℕ) → file_limit < n → nat_lt file_limit n ≡ true
many n h = grind (arith, nat_tests)

formed_few : {X : Type 0} (form : Form X) (bytes : List ℕ) → length bytes ≤ file_limit → formed form (Some bytes) ≡ form bytes
formed_few {X} form bytes le = ap (λ (b : Bool). cond b (Err end.FileLarge) (form bytes)) (few (length bytes) le)

pub formed_many : {X : Type 0} (form : Form X) (bytes : List ℕ) → file_limit < length bytes → formed form (Some bytes) ≡ Err end.FileLarge
formed_many {X} form bytes lt = ap (λ (b : Bool). cond b (Err end.FileLarge) (form bytes)) (many (length bytes) lt)

pub formed_as : {X : Type 0} (form : Form X) (bytes : List ℕ) (r : Result X End) → length bytes ≤ file_limit → form bytes ≡ r → formed form (Some bytes) ≡ r
formed_as form bytes r le e = formed_few form bytes le ∙ e

-- ---- what stays

-- nothing was done but to read files and to report
pub record IsSame (before after : Outside) : Type 0 where
  pub files : KeepsFiles before after
  pub writes : after.files.writes ≡ before.files.writes
  pub input : after.input ≡ before.input
  pub out : after.out ≡ before.out

pub kept : (a b : Stream) → b ≡ a → Adds a.told b.told []
kept a b e = subst (λ (s : Stream). Adds a.told s.told []) (sym e) (adds_nothing a.told)

pub untouched : (before after : Outside) → IsSame before after → Untouched before after
untouched before after h = record { out = kept before.out after.out h.out; input = ap (λ (s : Stream). s.told) h.input; files = h.files }

pub stream_same : (a b : Option (List ℕ)) (n m : ℕ) → b ≡ a → m ≡ n → stream b m ≡ stream a n
stream_same a b n m e h = λ i. stream (e i) (h i)

pub plain_one : IsPlain 1
plain_one = record { not_refused = λ e. omega (arith, e); not_unread = λ e. omega (arith, e); not_unwritten = λ e. omega (arith, e) }

pub leaves : (c : Command) (before after : Outside) → after.input ≡ before.input → LeavesInput c before after
leaves (Run file) before after e = e
leaves (Exec settings file) before after e = tt
leaves (Dis file) before after e = e
leaves (Gen n) before after e = e
leaves (Make m name file) before after e = e
leaves (Link name files) before after e = e

-- ---- a refused file

module _ {X : Type 0} (form : Form X) (reads : List ℕ → Reading) (c : Command) (file : List ℕ) (one : files_of c ≡ file ∷ []) (before after : Outside) (status : ℕ)
    (is_due : (content : Content) (why : End) → formed form content ≡ Err why → IsDue reads c (content ∷ []) before.input.told (refused file before.input.told why)) where
  serves : (content : Content) (why : End) → MayBe (before.files.told file) content → formed form content ≡ Err why → (Claim : Due → Type 0) → Claim (refused file before.input.told why) → Serves reads c before Claim
  serves content why may e Claim h = record {
    contents = content ∷ [];
    may = subst (λ names. MayEachBe before.files.told names (content ∷ [])) (sym one) (may, tt);
    due = refused file before.input.told why;
    is = is_due content why e;
    claim = h;
  }

  refuses : (why : End) (content : Content) → MayBe (before.files.told file) content → formed form content ≡ Err why → IsPlain (status_of why) → IsSame before after → after.files.reads ≡ before.files.reads
      → Reports (line_of file why) (status_of why) status before.err after.err → Answers reads c before after status
  refuses why content may e plain same counts reports = record {
    end = Whole (Some (line_of file why)) (status_of why);
    works = serves content why may e (λ (due : Due). IsDone due (Some (line_of file why)) (status_of why) before after) (record {
      line_due = refl;
      status_due = refl;
      plain = plain;
      enough = refl;
      flows = (kept before.out after.out same.out, ap (λ (s : Stream). s.told) same.input);
      writes = same.files;
    });
    input = leaves c before after same.input;
    counts = record { reads = counts; writes = same.writes; input = ap (λ (s : Stream). s.faults) same.input; out = ap (λ (s : Stream). s.faults) same.out };
    reports = reports;
  }

  -- the answer for it
  pub refused_answers : (why : End) → IsRefused form (before.files.told file) why → LoadCounts {X = X} (Err why) before.files.reads after.files.reads → IsSame before after
      → Reports (line_of file why) (status_of why) status before.err after.err → Answers reads c before after status
  refused_answers end.Missing may counts same reports = refuses end.Missing None may refl plain_one same counts reports
  refused_answers end.FileLarge h counts same reports = refuses end.FileLarge (Some h.0) h.1 (formed_many form h.0 h.2) plain_one same counts reports
  refused_answers (end.BadForm at) h counts same reports = refuses (end.BadForm at) (Some h.0) h.1.may (formed_as form h.0 (Err (end.BadForm at)) h.1.few h.2) plain_one same counts reports
  refused_answers (end.BadLine line kind) h counts same reports = refuses (end.BadLine line kind) (Some h.0) h.1.may (formed_as form h.0 (Err (end.BadLine line kind)) h.1.few h.2) plain_one same counts reports
  refused_answers end.ReadFault h counts same reports = record {
    end = FileUnread;
    works = untouched before after same;
    input = leaves c before after same.input;
    counts = record { reads = counts; writes = same.writes; input = ap (λ (s : Stream). s.faults) same.input; out = ap (λ (s : Stream). s.faults) same.out };
    reports = reports;
  }
  refused_answers end.NoMemory h counts same reports = record {
    end = LacksMemory;
    works = untouched before after same;
    input = leaves c before after same.input;
    counts = record { reads = counts; writes = same.writes; input = ap (λ (s : Stream). s.faults) same.input; out = ap (λ (s : Stream). s.faults) same.out };
    reports = reports;
  }
  refused_answers (end.Exit code) h counts same reports = absurd h
  refused_answers (end.Bounds value lb ub) h counts same reports = absurd h
  refused_answers end.Unbuilt h counts same reports = absurd h
  refused_answers end.WordsRefused h counts same reports = absurd h
  refused_answers end.WriteFault h counts same reports = absurd h

-- want of memory, before anything was done
pub memory_answers : (reads : List ℕ → Reading) (c : Command) (file : List ℕ) (before after : Outside) (status : ℕ) → IsSame before after → after.files.reads ≡ before.files.reads
    → Reports (line_of file end.NoMemory) 5 status before.err after.err → Answers reads c before after status
memory_answers reads c file before after status same counts reports = record {
  end = LacksMemory;
  works = untouched before after same;
  input = leaves c before after same.input;
  counts = record { reads = counts; writes = same.writes; input = ap (λ (s : Stream). s.faults) same.input; out = ap (λ (s : Stream). s.faults) same.out };
  reports = reports;
}
