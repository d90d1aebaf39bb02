-- The causes of statuses, for each command.
use Rattle.std.proofs.Common.{◌≡◌, ◌∙◌, ℕ, None, Some, sym, subst, inl, inr, arith, List, []}
use Rattle.std.specs.Prelude.{◌⊎◌, Option}
use Rattle.mx_base.specs.Outside.{HasRisen}
use Rattle.obj_file.specs.Machine.{Reading}
use Rattle.mpx_words.specs.Answers.{Ending, Whole, FileUnread, InputUnread, OutputUnwritten, FileUnwritten, LacksMemory, LacksFrames, line_at, status_at, Counts, Works, Reports, Put, Failed, ReportsIfDue, Answers, Refuses}
use Rattle.mpx_words.specs.declared.end.End.TheVariants.{WordsRefused}
use Rattle.mpx_words.specs.Commands.{Command}
use Rattle.mpx_words.specs.Ends.{line_of}
use Rattle.mpx_words.specs.Outside.{Stream, Outside}

-- a report has the status that is due, or is 4 after a fault
reported : (line : Option (List ℕ)) (due status : ℕ) (before after : Stream) → ReportsIfDue line due status before after → (status ≡ due) ⊎ ((status ≡ 4) × HasRisen before.faults after.faults)
reported None due status before after h = inl h.0
reported (Some line) due status before after (Put s a c) = inl s
reported (Some line) due status before after (Failed s a c) = inr (s, c)

module _ (reads : List ℕ → Reading) (c : Command) (before after : Outside) where
  not_two : (e : Ending) → Works reads c before after e → status_at e ≡ 2 → ⊥
  not_two (Whole line status) w h = w.claim.plain.not_refused h
  not_two FileUnread w h = omega (arith, h)
  not_two InputUnread w h = omega (arith, h)
  not_two OutputUnwritten w h = omega (arith, h)
  not_two FileUnwritten w h = omega (arith, h)
  not_two LacksMemory w h = omega (arith, h)
  not_two (LacksFrames in_use capacity) w h = omega (arith, h)

  three : (e : Ending) → Works reads c before after e → Counts e before after → status_at e ≡ 3 → HasRisen before.files.reads after.files.reads ⊎ HasRisen before.input.faults after.input.faults
  three (Whole line status) w k h = absurd (w.claim.plain.not_unread h)
  three FileUnread w k h = inl k.reads
  three InputUnread w k h = inr k.input
  three OutputUnwritten w k h = absurd (omega (arith, h))
  three FileUnwritten w k h = absurd (omega (arith, h))
  three LacksMemory w k h = absurd (omega (arith, h))
  three (LacksFrames in_use capacity) w k h = absurd (omega (arith, h))

  four : (e : Ending) → Works reads c before after e → Counts e before after → status_at e ≡ 4 → HasRisen before.files.writes after.files.writes ⊎ HasRisen before.out.faults after.out.faults
  four (Whole line status) w k h = absurd (w.claim.plain.not_unwritten h)
  four FileUnread w k h = absurd (omega (arith, h))
  four InputUnread w k h = absurd (omega (arith, h))
  four OutputUnwritten w k h = inr k.out
  four FileUnwritten w k h = inl k.writes
  four LacksMemory w k h = absurd (omega (arith, h))
  four (LacksFrames in_use capacity) w k h = absurd (omega (arith, h))

  module _ (status : ℕ) (a : Answers reads c before after status) where
    told : (status ≡ status_at a.end) ⊎ ((status ≡ 4) × HasRisen before.err.faults after.err.faults)
    told = reported (line_at a.end) (status_at a.end) status before.err after.err a.reports

    pub never_two : status ≡ 2 → ⊥
    never_two e = by told
      where
        by : (status ≡ status_at a.end) ⊎ ((status ≡ 4) × HasRisen before.err.faults after.err.faults) → ⊥
        by (inl s) = not_two a.end a.works (sym s ∙ e)
        by (inr h) = omega (arith, h.0, e)

    pub three_causes : status ≡ 3 → HasRisen before.files.reads after.files.reads ⊎ HasRisen before.input.faults after.input.faults
    three_causes e = by told
      where
        by : (status ≡ status_at a.end) ⊎ ((status ≡ 4) × HasRisen before.err.faults after.err.faults) → HasRisen before.files.reads after.files.reads ⊎ HasRisen before.input.faults after.input.faults
        by (inl s) = three a.end a.works a.counts (sym s ∙ e)
        by (inr h) = absurd (omega (arith, h.0, e))

    pub four_causes : status ≡ 4 → HasRisen before.files.writes after.files.writes ⊎ (HasRisen before.out.faults after.out.faults ⊎ HasRisen before.err.faults after.err.faults)
    four_causes e = by told
      where
        of_work : HasRisen before.files.writes after.files.writes ⊎ HasRisen before.out.faults after.out.faults → HasRisen before.files.writes after.files.writes ⊎ (HasRisen before.out.faults after.out.faults ⊎ HasRisen before.err.faults after.err.faults)
        of_work (inl w) = inl w
        of_work (inr o) = inr (inl o)

        by : (status ≡ status_at a.end) ⊎ ((status ≡ 4) × HasRisen before.err.faults after.err.faults) → HasRisen before.files.writes after.files.writes ⊎ (HasRisen before.out.faults after.out.faults ⊎ HasRisen before.err.faults after.err.faults)
        by (inl s) = of_work (four a.end a.works a.counts (sym s ∙ e))
        by (inr h) = inr (inr h.1)

-- refused words have status 2, or 4 where standard error failed
pub refusal_three : (before after : Outside) (status : ℕ) → Refuses before after status → status ≡ 3 → ⊥
refusal_three before after status r e = by r.reports
  where
    by : Reports (line_of [] WordsRefused) 2 status before.err after.err → ⊥
    by (Put s a c) = omega (arith, s, e)
    by (Failed s a c) = omega (arith, s, e)

pub refusal_four : (before after : Outside) (status : ℕ) → Refuses before after status → status ≡ 4 → HasRisen before.err.faults after.err.faults
refusal_four before after status r e = by r.reports
  where
    by : Reports (line_of [] WordsRefused) 2 status before.err after.err → HasRisen before.err.faults after.err.faults
    by (Put s a c) = absurd (omega (arith, s, e))
    by (Failed s a c) = c

-- the same command answered
pub answers_same : (reads : List ℕ → Reading) (c d : Command) (before after : Outside) (status : ℕ) → c ≡ d → Answers reads c before after status → Answers reads d before after status
answers_same reads c d before after status e a = subst (λ (x : Command). Answers reads x before after status) e a
