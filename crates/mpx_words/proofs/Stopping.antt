-- How `exec` answers, by what the run of the image left.
use Rattle.std.proofs.Common.{◌≡◌, ℕ, Option, None, Some, Ok, Err, List, [], ◌∷◌, refl, sym, ap, subst, arith}
use Rattle.fault_text.specs.Explain as explain
use Rattle.mx_base.specs.declared.stops.Stop.{Stop}
use Rattle.mx_base.specs.declared.stops.Stop.TheVariants as stop
use Rattle.mx_base.specs.Outside.{Adds}
use Rattle.mx_run.specs.Events.{out_of}
use Rattle.obj_file.specs.declared.image.Image.{Image}
use Rattle.obj_file.specs.Machine.{Reading}
use Rattle.obj_file.specs.Runs as runs
use Rattle.obj_file.specs.Loaded.{Tabled}
use Rattle.mpx_words.specs.declared.options.Settings.{Settings}
use Rattle.mpx_words.specs.Answers.{Whole, InputUnread, OutputUnwritten, LacksFrames, Answers, Serves, IsDone, IsCut, IsPlain, KeepsFiles, Reports}
use Rattle.mpx_words.specs.declared.end.End.{End}
use Rattle.mpx_words.specs.Commands.{Exec}
use Rattle.mpx_words.specs.Due.{Due, IsDue, IsDueOf, IsDueOfRun, due_of_run, due_unseen, refused}
use Rattle.mpx_words.specs.Files.{Content, formed, image_form, Loads}
use Rattle.mpx_words.specs.Outside.{Stream, Outside}
use Rattle.mpx_words.specs.Running.{run_by, lack_by, stop_of, rest_of, Comes, TellsLack, RunsImage, RunCounts}
use Rattle.mpx_words.specs.Stops.{stop_status_of}
use Rattle.mpx_words.proofs.Printing.{serves_form}

-- ---- stops

-- a stop that neither the outside nor want of frames makes
abbrev IsOwn : Stop → Type 0
IsOwn (stop.NoFrames in_use capacity) = ⊥
IsOwn stop.ReadFault = ⊥
IsOwn stop.WriteFault = ⊥
IsOwn why = Unit {0}

plain : (why : Stop) → IsOwn why → IsPlain (stop_status_of why)
plain (stop.Exit code) own = record { not_refused = λ e. omega (arith, e); not_unread = λ e. omega (arith, e); not_unwritten = λ e. omega (arith, e) }
plain (stop.Bounds breach) own = record { not_refused = λ e. omega (arith, e); not_unread = λ e. omega (arith, e); not_unwritten = λ e. omega (arith, e) }
plain (stop.Unmapped a) own = record { not_refused = λ e. omega (arith, e); not_unread = λ e. omega (arith, e); not_unwritten = λ e. omega (arith, e) }
plain stop.Divide own = record { not_refused = λ e. omega (arith, e); not_unread = λ e. omega (arith, e); not_unwritten = λ e. omega (arith, e) }
plain (stop.Undefined a) own = record { not_refused = λ e. omega (arith, e); not_unread = λ e. omega (arith, e); not_unwritten = λ e. omega (arith, e) }
plain stop.StackOver own = record { not_refused = λ e. omega (arith, e); not_unread = λ e. omega (arith, e); not_unwritten = λ e. omega (arith, e) }
plain stop.OutOfTurns own = record { not_refused = λ e. omega (arith, e); not_unread = λ e. omega (arith, e); not_unwritten = λ e. omega (arith, e) }
plain (stop.Strayed a) own = record { not_refused = λ e. omega (arith, e); not_unread = λ e. omega (arith, e); not_unwritten = λ e. omega (arith, e) }
plain stop.NoTable own = record { not_refused = λ e. omega (arith, e); not_unread = λ e. omega (arith, e); not_unwritten = λ e. omega (arith, e) }
plain (stop.NoFrames in_use capacity) own = absurd own
plain stop.ReadFault own = absurd own
plain stop.WriteFault own = absurd own

enough : (lack : Option (ℕ × ℕ)) (why : Stop) → IsOwn why → TellsLack lack why → lack ≡ None
enough lack (stop.Exit code) own h = h
enough lack (stop.Bounds breach) own h = h
enough lack (stop.Unmapped a) own h = h
enough lack stop.Divide own h = h
enough lack (stop.Undefined a) own h = h
enough lack stop.StackOver own h = h
enough lack stop.OutOfTurns own h = h
enough lack (stop.Strayed a) own h = h
enough lack stop.NoTable own h = h
enough lack (stop.NoFrames in_use capacity) own h = absurd own
enough lack stop.ReadFault own h = absurd own
enough lack stop.WriteFault own h = absurd own

counts : (why : Stop) (ins ins' outs outs' : ℕ) → IsOwn why → RunCounts (Ok why) ins ins' outs outs' → (ins' ≡ ins) × (outs' ≡ outs)
counts (stop.Exit code) ins ins' outs outs' own h = h
counts (stop.Bounds breach) ins ins' outs outs' own h = h
counts (stop.Unmapped a) ins ins' outs outs' own h = h
counts stop.Divide ins ins' outs outs' own h = h
counts (stop.Undefined a) ins ins' outs outs' own h = h
counts stop.StackOver ins ins' outs outs' own h = h
counts stop.OutOfTurns ins ins' outs outs' own h = h
counts (stop.Strayed a) ins ins' outs outs' own h = h
counts stop.NoTable ins ins' outs outs' own h = h
counts (stop.NoFrames in_use capacity) ins ins' outs outs' own h = absurd own
counts stop.ReadFault ins ins' outs outs' own h = absurd own
counts stop.WriteFault ins ins' outs outs' own h = absurd own

-- the run ended so, and all of its output was put
record Ended (e : runs.End Tabled) (why : Stop) (held held' left' : Option (List ℕ)) : Type 0 where
  stops : stop_of e ≡ why
  puts : Adds held held' (out_of e)
  left : left' ≡ Some (rest_of e)

ended : (e f : runs.End Tabled) (why : Stop) (held held' left' : Option (List ℕ)) → e ≡ f → stop_of f ≡ why → Adds held held' (out_of f) → left' ≡ Some (rest_of f) → Ended e why held held' left'
ended e f why held held' left' same stops puts left = subst (λ (x : runs.End Tabled). Ended x why held held' left') (sym same) (record { stops = stops; puts = puts; left = left })

comes : (e : runs.End Tabled) (why : Stop) (held held' left' : Option (List ℕ)) → IsOwn why → Comes e why held held' left' → Ended e why held held' left'
comes e (stop.Exit code) held held' left' own h = ended e _ _ held held' left' h.1 refl h.2.puts h.2.left
comes e (stop.Bounds breach) held held' left' own h = ended e _ _ held held' left' h.1 refl h.2.puts h.2.left
comes e (stop.Unmapped a) held held' left' own h = ended e _ _ held held' left' h.1 refl h.2.puts h.2.left
comes e stop.Divide held held' left' own h = ended e _ _ held held' left' h.1 refl h.2.puts h.2.left
comes e (stop.Undefined a) held held' left' own h = ended e _ _ held held' left' h.1 refl h.2.puts h.2.left
comes e stop.StackOver held held' left' own h = ended e _ _ held held' left' h.1 refl h.2.puts h.2.left
comes e stop.OutOfTurns held held' left' own h = ended e _ _ held held' left' h.1 refl h.2.puts h.2.left
comes e (stop.Strayed a) held held' left' own h = ended e _ _ held held' left' h.1 refl h.2.puts h.2.left
comes e stop.NoTable held held' left' own h = ended e _ _ held held' left' h.1 refl h.2.puts h.2.left
comes e (stop.NoFrames in_use capacity) held held' left' own h = absurd own
comes e stop.ReadFault held held' left' own h = absurd own
comes e stop.WriteFault held held' left' own h = absurd own

-- ---- the command

module _ (reads : List ℕ → Reading) (s : Settings) (file : List ℕ) (v : Image) (before after : Outside) (status : ℕ)
    (loads : Loads image_form (before.files.told file) (Ok v)) (files : KeepsFiles before after) (unread : after.files.reads ≡ before.files.reads) (unwritten : after.files.writes ≡ before.files.writes) where
  serves : (due : Due) → IsDueOfRun reads s v before.input.told due → (Claim : Due → Type 0) → Claim due → Serves reads (Exec s file) before Claim
  serves due is = serves_form image_form reads (Exec s file) file refl before due loads.0 v loads.1 loads.2
      (λ e. subst (λ r. IsDueOf file before.input.told (λ (w : Image). IsDueOfRun reads s w before.input.told) r due) (sym e) is)

  -- by what is told of the input
  by_input : (Claim : Due → Type 0) (why : Stop) (lack : Option (ℕ × ℕ)) → ((input : List ℕ) → before.input.told ≡ Some input → Claim (due_of_run reads s v input)) → Claim (due_unseen v why lack) → Serves reads (Exec s file) before Claim
  by_input Claim why lack told untold = by before.input.told refl
    where
      by : (left : Option (List ℕ)) → before.input.told ≡ left → Serves reads (Exec s file) before Claim
      by (Some input) e = serves (due_of_run reads s v input) (subst (λ (l : Option (List ℕ)). IsDueOfRun reads s v l (due_of_run reads s v input)) (sym e) refl) Claim (told input e)
      by None e = serves (due_unseen v why lack) (subst (λ (l : Option (List ℕ)). IsDueOfRun reads s v l (due_unseen v why lack)) (sym e) (why, lack, refl)) Claim untold

  own_answers : (why : Stop) → IsOwn why → RunsImage reads s v before.input.told (Ok why) before.out.told after.out.told after.input.told
      → RunCounts (Ok why) before.input.faults after.input.faults before.out.faults after.out.faults → Reports (explain.line_of why v) (stop_status_of why) status before.err after.err → Answers reads (Exec s file) before after status
  own_answers why own ran rises reports =
      let same = counts why _ _ _ _ own rises in
      record {
        end = Whole (Some (explain.line_of why v)) (stop_status_of why);
        works = by_input (λ (due : Due). IsDone due (Some (explain.line_of why v)) (stop_status_of why) before after) why None (λ input e.
            let h = ran input e in
            let end = comes (run_by reads s v input) why before.out.told after.out.told after.input.told own h.1 in
            record {
              line_due = ap (λ (x : Stop). Some (explain.line_of x v)) (sym end.stops);
              status_due = ap stop_status_of (sym end.stops);
              plain = plain why own;
              enough = enough (lack_by reads s v input) why own h.0;
              flows = (end.puts, end.left);
              writes = files;
            }) (record { line_due = refl; status_due = refl; plain = plain why own; enough = refl; flows = tt; writes = files });
        input = tt;
        counts = record { reads = unread; writes = unwritten; input = same.0; out = same.1 };
        reports = reports;
      }

  -- the answer for a run that stopped so
  pub ran_answers : (why : Stop) → RunsImage reads s v before.input.told (Ok why) before.out.told after.out.told after.input.told
      → RunCounts (Ok why) before.input.faults after.input.faults before.out.faults after.out.faults → Reports (explain.line_of why v) (stop_status_of why) status before.err after.err → Answers reads (Exec s file) before after status
  ran_answers (stop.Exit code) ran rises reports = own_answers (stop.Exit code) tt ran rises reports
  ran_answers (stop.Bounds breach) ran rises reports = own_answers (stop.Bounds breach) tt ran rises reports
  ran_answers (stop.Unmapped a) ran rises reports = own_answers (stop.Unmapped a) tt ran rises reports
  ran_answers stop.Divide ran rises reports = own_answers stop.Divide tt ran rises reports
  ran_answers (stop.Undefined a) ran rises reports = own_answers (stop.Undefined a) tt ran rises reports
  ran_answers stop.StackOver ran rises reports = own_answers stop.StackOver tt ran rises reports
  ran_answers stop.OutOfTurns ran rises reports = own_answers stop.OutOfTurns tt ran rises reports
  ran_answers (stop.Strayed a) ran rises reports = own_answers (stop.Strayed a) tt ran rises reports
  ran_answers stop.NoTable ran rises reports = own_answers stop.NoTable tt ran rises reports
  ran_answers (stop.NoFrames in_use capacity) ran rises reports = record {
    end = LacksFrames in_use capacity;
    input = tt;
    works = by_input (λ (due : Due). (due.lack ≡ Some (in_use, capacity)) × IsCut due before after) stop.OutOfTurns (Some (in_use, capacity))
        (λ input e. let h = ran input e in (h.0, record { flows = h.1; files = files })) (refl, record { flows = tt; files = files });
    counts = record { reads = unread; writes = unwritten; input = rises.0; out = rises.1 };
    reports = reports;
  }
  ran_answers stop.ReadFault ran rises reports = record {
    end = InputUnread;
    input = tt;
    works = by_input (λ (due : Due). IsCut due before after) stop.ReadFault None (λ input e. record { flows = (ran input e).1; files = files }) (record { flows = tt; files = files });
    counts = record { reads = unread; writes = unwritten; input = rises.0; out = rises.1 };
    reports = reports;
  }
  ran_answers stop.WriteFault ran rises reports = record {
    end = OutputUnwritten;
    input = tt;
    works = by_input (λ (due : Due). IsCut due before after) stop.WriteFault None (λ input e. record { flows = (ran input e).1; files = files }) (record { flows = tt; files = files });
    counts = record { reads = unread; writes = unwritten; input = rises.0; out = rises.1 };
    reports = reports;
  }

pub exec_refused : (reads : List ℕ → Reading) (s : Settings) (file : List ℕ) (left : Option (List ℕ)) (content : Content) (why : End) → formed image_form content ≡ Err why → IsDue reads (Exec s file) (content ∷ []) left (refused file left why)
exec_refused reads s file left content why e = subst (λ r. IsDueOf file left (λ (v : Image). IsDueOfRun reads s v left) r (refused file left why)) (sym e) refl

-- a report of the same line and status
pub report_of : (a b : List ℕ) (x y status : ℕ) (before after : Stream) → a ≡ b → x ≡ y → Reports a x status before after → Reports b y status before after
report_of a b x y status before after e h r = subst (λ (l : List ℕ). Reports l y status before after) e (subst (λ (n : ℕ). Reports a n status before after) h r)
