-- One event goes alike over the walk and over the store of bounds.
use Rattle.std.proofs.Common.{◌≡◌, ℕ, ◌-◌, ◌<◌, ◌≤◌, ◌^◌, min, Bool, true, false, cond, nat_le, ◌||◌, ◌==◌, not, Option, Some, None, List, [], ◌∷◌, ◌++◌, refl, ap, ◌∙◌, sym, subst, arith}
use Rattle.std.specs.List.{AllByRecursion}
use Rattle.std.proofs.lemmas.Bool.Decides.{nat_tests}
use Rattle.mx_base.specs.declared.stops.Stop.{Stop}
use Rattle.mx_base.specs.declared.stops.Stop.TheVariants as stop
use Rattle.mx_base.specs.Memory.{Bytes, list_at, first_refused_around}
use Rattle.mx_base.specs.Regions.{is_executable, is_readable}
use Rattle.mx_base.specs.Services.{Guest, Service, Write, Exit, Alloc, Free, Print, Put, Get, StackOver, NoService, Served, Answers, Exits, Overflows, Refused as Denied, service_of, served, written, minus}
use Rattle.mx_base.specs.Outside.{one_more}
use Rattle.mx_base.proofs.MemoryLemmas.{list_at-same}
use Rattle.x86_forms.specs.declared.instr.Instr.{Instr}
use Rattle.x86_forms.specs.declared.instr.Instr.TheVariants.{Syscall}
use Rattle.x86_forms.specs.declared.spans.Span.{Span}
use Rattle.x86_forms.specs.Accesses.{accesses, reach_of}
use Rattle.x86_forms.specs.Processor.{Processor, rax, rdx}
use Rattle.x86_forms.specs.Requests.{Outcome, Done, Failed, Refused, run}
use Rattle.x86_forms.specs.Table.{row, with_result}
use Rattle.x86_forms.specs.Validity.{valid_of}
use Rattle.x86_forms.specs.Watch.{is_legacy, access_strays, control_strays}
use Rattle.x86_forms.proofs.TableAccesses.{asks_row}
use Rattle.obj_file.specs.Machine.{Reading, Is, Part, Neither, Refusal, Misses, Invalid, Lacks, State, served_or_invalid, Deed, Does, Halts, fault_stop, refusal_stop, left_by, ended, restarted, served_or_ended, executed, unless_bare, reach_strays, unless_strayed, service_span, as_unmapped, strayed_or, bytes_judged, answered, rsi, rdi, asked, with_service, is_call, is_return, control_judged, with_service_of, deed_of, fetched_size, code_end, reading_at, next_address, deed_by, owes, event_of, event_by, event}
use Rattle.obj_file.specs.Loaded.{Tabled, Mode, configuration, tabled_store, table_made, ground_of}
use Rattle.obj_file.specs.Stored.{Stored, stored_store, megabyte_touched, stored_ground}
use Rattle.obj_file.specs.StoreLaw.{HoldsWords, StandsIn, StatesAlike, EventsAlike, ReadsValid, StaysOut, read_by, service_reads, ReadingStaysOut, EventStaysOut, megabyte_entry_at, is_of_bounds}
use Rattle.obj_file.proofs.StoredBytes.{bytes-list_at}
use Rattle.obj_file.proofs.StoredRequests.{avoided, IsWanting, ServedAlike, serves_alike}
use Rattle.obj_file.proofs.StoredWords.{result_words, row_words}
use Rattle.obj_file.proofs.StoredRows.{Clear, OutcomesAlike, runs_alike}
use Rattle.obj_file.proofs.StoredSpans.{few_accesses, passed_avoids, reach_clear}

abbrev pub DeedsAlike : Deed Tabled → Deed Stored → Type 0
DeedsAlike (Does s) (Does t) = StatesAlike s t
DeedsAlike (Halts why s) (Halts also t) = (why ≡ also) × StatesAlike s t
DeedsAlike _ _ = ⊥

-- a state over another memory
abbrev pub over : State Tabled → Stored → State Stored
over s y = record { processor = s.processor; memory = y; guest = s.guest; steps = s.steps }

over_alike : (s : State Tabled) (y : Stored) → StandsIn s.memory y → HoldsWords s.processor → StatesAlike s (over s y)
over_alike s y h words = record { processor = refl; guest = refl; steps = refl; memory = h; words = words }

-- what holds of a state over another memory holds of a state that is alike
pub from_over : (P : State Stored → Type 0) (s : State Tabled) (t : State Stored) → StatesAlike s t → P (over s t.memory) → P t
from_over P s t h p = let same : over s t.memory ≡ t = λ i. record { processor = h.processor i; memory = t.memory; guest = h.guest i; steps = h.steps i } in subst P same p

-- both deeds where states are alike before them
module _ (reads : List ℕ → Reading) (outers : ℕ) (mode : Mode) where
  -- ---- the row

  left_alike : (s : State Tabled) (y : Stored) (a b : Processor) (x : Tabled) (z : Stored) → a ≡ b → StandsIn x z → HoldsWords a → StatesAlike (left_by s a x) (left_by (over s y) b z)
  left_alike s y a b x z e h words = record { processor = e; guest = refl; steps = refl; memory = h; words = words }

  ended_alike : (s : State Tabled) (y : Stored) (regs : ℕ → ℕ) (o : Outcome Tabled Refusal) (p : Outcome Stored Refusal) → OutcomesAlike regs o p → DeedsAlike (ended s o) (ended (over s y) p)
  ended_alike s y regs (Done a x) (Done b z) h = left_alike s y a b x z h.0 h.1 h.2
  ended_alike s y regs (Failed f a x) (Failed g b z) h = (ap (fault_stop s.processor.rip) h.0, left_alike s y a b x z h.1 h.2 h.3)
  ended_alike s y regs (Refused o a x) (Refused p b z) h = (ap refusal_stop h.0, left_alike s y a b x z h.1 h.2 h.3)
  ended_alike s y regs (Done a x) (Failed g b z) h = absurd h
  ended_alike s y regs (Done a x) (Refused p b z) h = absurd h
  ended_alike s y regs (Failed f a x) (Done b z) h = absurd h
  ended_alike s y regs (Failed f a x) (Refused p b z) h = absurd h
  ended_alike s y regs (Refused o a x) (Done b z) h = absurd h
  ended_alike s y regs (Refused o a x) (Failed g b z) h = absurd h

  module _ (i : Instr) (next : ℕ) (ok : valid_of i ≡ true) (small : next < 2 ^ 64) (s : State Tabled) (y : Stored) (clear : Clear (accesses i next s.processor.regs)) where
    row_alike : (c : Processor) (x : Tabled) (z : Stored) → c.regs ≡ s.processor.regs → HoldsWords c → StandsIn x z
        → OutcomesAlike c.regs (run (tabled_store (configuration mode.preserve)) c (row i next c) x) (run (stored_store (configuration mode.preserve)) c (row i next c) z)
    row_alike c x z e words h = runs_alike mode.preserve c words (row i next c) (accesses i next c.regs) x z (asks_row i next c)
        (subst (λ (regs : ℕ → ℕ). Clear (accesses i next regs)) (sym e) clear) (row_words i next c ok small words) h

    served_so : (c : Processor) (x : Tabled) (z : Stored) (e f : ℕ) (o : Option Tabled) (p : Option Stored) → c.regs ≡ s.processor.regs → HoldsWords c → StandsIn x z → ServedAlike o p
        → DeedsAlike (restarted (ground_of reads outers mode) i next s c x (served_or_invalid e o)) (restarted (stored_ground reads outers mode) i next (over s y) c z (served_or_invalid f p))
    served_so c x z e f None None same words h both = (refl, left_alike s y c c x z refl h words)
    served_so c x z e f None (Some q) same words h both = absurd both
    served_so c x z e f (Some o) None same words h both = absurd both
    served_so c x z e f (Some o) (Some q) same words h both = ended_alike s y c.regs _ _ (row_alike c o q same words both)

    restarted_alike : (a b : Processor) (x : Tabled) (z : Stored) (e f : ℕ) → a ≡ b → a.regs ≡ s.processor.regs → HoldsWords a → StandsIn x z → e ≡ f → IsWanting z (Invalid e)
        → DeedsAlike (restarted (ground_of reads outers mode) i next s a x (served_or_invalid e (table_made x e))) (restarted (stored_ground reads outers mode) i next (over s y) b z (served_or_invalid f (megabyte_touched z f)))
    restarted_alike a b x z e f same regs words h also new =
        let place : f ≡ megabyte_entry_at new.0 = sym also ∙ new.3 in
        let there : ServedAlike (table_made x e) (megabyte_touched z f) = subst (λ (n : ℕ). ServedAlike (table_made x n) (megabyte_touched z f)) (sym new.3) (subst (λ (n : ℕ). ServedAlike (table_made x (megabyte_entry_at new.0)) (megabyte_touched z n)) (sym place) (serves_alike x z new.0 h new.1 new.2)) in
        subst (λ (c : Processor). DeedsAlike (restarted (ground_of reads outers mode) i next s a x (served_or_invalid e (table_made x e))) (restarted (stored_ground reads outers mode) i next (over s y) c z (served_or_invalid f (megabyte_touched z f)))) same
        (served_so a x z e f (table_made x e) (megabyte_touched z f) regs words h there)

    served_alike : (o : Outcome Tabled Refusal) (p : Outcome Stored Refusal) → OutcomesAlike s.processor.regs o p
        → DeedsAlike (served_or_ended (ground_of reads outers mode) i next s o) (served_or_ended (stored_ground reads outers mode) i next (over s y) p)
    served_alike (Done a x) (Done b z) h = ended_alike s y s.processor.regs (Done a x) (Done b z) h
    served_alike (Failed f a x) (Failed g b z) h = ended_alike s y s.processor.regs (Failed f a x) (Failed g b z) h
    served_alike (Refused (Misses m) a x) (Refused (Misses n) b z) h = ended_alike s y s.processor.regs (Refused (Misses m) a x) (Refused (Misses n) b z) h
    served_alike (Refused (Invalid e) a x) (Refused (Invalid f) b z) h = let same : e ≡ f = cc (h.0) in restarted_alike a b x z e f h.1 h.5 h.3 h.2 same h.4
    served_alike (Refused (Lacks u m) a x) (Refused (Lacks v n) b z) h = ended_alike s y s.processor.regs (Refused (Lacks u m) a x) (Refused (Lacks v n) b z) h
    served_alike (Refused (Misses m) a x) (Refused (Invalid f) b z) h = let no = h.0 in absurd (cc)
    served_alike (Refused (Misses m) a x) (Refused (Lacks v n) b z) h = let no = h.0 in absurd (cc)
    served_alike (Refused (Invalid e) a x) (Refused (Misses n) b z) h = let no = h.0 in absurd (cc)
    served_alike (Refused (Invalid e) a x) (Refused (Lacks v n) b z) h = let no = h.0 in absurd (cc)
    served_alike (Refused (Lacks u m) a x) (Refused (Misses n) b z) h = let no = h.0 in absurd (cc)
    served_alike (Refused (Lacks u m) a x) (Refused (Invalid f) b z) h = let no = h.0 in absurd (cc)
    served_alike (Done a x) (Failed g b z) h = absurd h
    served_alike (Done a x) (Refused p b z) h = absurd h
    served_alike (Failed f a x) (Done b z) h = absurd h
    served_alike (Failed f a x) (Refused p b z) h = absurd h
    served_alike (Refused o a x) (Done b z) h = absurd h
    served_alike (Refused o a x) (Failed g b z) h = absurd h

    pub executed_alike : StandsIn s.memory y → HoldsWords s.processor → DeedsAlike (executed (ground_of reads outers mode) i next s) (executed (stored_ground reads outers mode) i next (over s y))
    unfolding executed
    executed_alike h words = served_alike _ _ (row_alike s.processor s.memory y refl words h)

  -- ---- the service

  written_same : (m n : Bytes) (from size : ℕ) (g : Guest) (o : Option Stop) → (o ≡ None → list_at size m from ≡ list_at size n from) → written m from size g o ≡ written n from size g o
  written_same m n from size g None same = ap (λ (bytes : List ℕ). Answers size (record { heap = g.heap; input = g.input; out = g.out ++ bytes })) (same refl)
  written_same m n from size g (Some why) same = refl

  served_same : (service : Service) (m n : Bytes) (judge : ℕ → ℕ → Option Stop) (a b d : ℕ) (g : Guest) → (service ≡ Write → judge b d ≡ None → list_at d m b ≡ list_at d n b)
      → served m judge service a b d g ≡ served n judge service a b d g
  unfolding served
  served_same Write m n judge a b d g same = ap (λ (z : Served Stop). cond (not (a == 1)) (Answers (minus 9) g) (cond (d == 0) (Answers 0 g) z)) (written_same m n b d g (judge b d) (same refl))
  served_same Exit m n judge a b d g same = refl
  served_same Alloc m n judge a b d g same = refl
  served_same Free m n judge a b d g same = refl
  served_same Print m n judge a b d g same = refl
  served_same Put m n judge a b d g same = refl
  served_same Get m n judge a b d g same = refl
  served_same StackOver m n judge a b d g same = refl
  served_same NoService m n judge a b d g same = refl

  judged_first : (o : Option ℕ) (p : Option Stop) → strayed_or o p ≡ None → o ≡ None
  judged_first None p h = refl
  judged_first (Some x) p h = absurd (cc)

  asked_same : (s : State Tabled) (y : Stored) → StandsIn s.memory y → HoldsWords s.processor
      → AllByRecursion (StaysOut mode.bare Syscall s.processor.rip) (read_by (service_of (s.processor.regs rax)) (s.processor.regs rsi) (s.processor.regs rdx))
      → asked (ground_of reads outers mode) s ≡ asked (stored_ground reads outers mode) (over s y)
  unfolding asked
  asked_same s y h words out = served_same (service_of (s.processor.regs rax)) s.memory.bytes y.bytes (bytes_judged mode.bare s.processor.rip) (s.processor.regs rdi) (s.processor.regs rsi) (s.processor.regs rdx) s.guest
      (λ is none.
      let span = service_span (s.processor.regs rsi) (s.processor.regs rdx) in
      let mine : AllByRecursion (StaysOut mode.bare Syscall s.processor.rip) (read_by Write (s.processor.regs rsi) (s.processor.regs rdx)) =
      subst (λ (service : Service). AllByRecursion (StaysOut mode.bare Syscall s.processor.rip) (read_by service (s.processor.regs rsi) (s.processor.regs rdx))) is out in
      let avoids = passed_avoids mode.bare Syscall s.processor.rip span (words.regs_fit rsi, words.regs_fit rdx) mine.0
      (judged_first (unless_bare mode.bare (access_strays Syscall s.processor.rip span)) (as_unmapped (first_refused_around is_readable (s.processor.regs rdx) (s.processor.regs rsi))) none) in
      list_at-same (s.processor.regs rdx) s.memory.bytes y.bytes (s.processor.regs rsi) (λ z low high. h.others z (avoided span z avoids low high)))

  answered_alike : (s : State Tabled) (y : Stored) (t : State Tabled) (u : State Stored) (v : Served Stop) → StatesAlike s (over s y) → StatesAlike t u → DeedsAlike (answered s t v) (answered (over s y) u v)
  answered_alike s y t u (Answers word g) old new = record {
    processor = ap (λ c. with_result c 64 rax word) new.processor;
    guest = refl;
    steps = new.steps;
    memory = new.memory;
    words = result_words t.processor 64 rax word refl new.words;
  }
  answered_alike s y t u (Exits code) old new = (refl, old)
  answered_alike s y t u Overflows old new = (refl, old)
  answered_alike s y t u (Denied why) old new = (refl, old)

  with_service_alike : (s : State Tabled) (y : Stored) (d : Deed Tabled) (e : Deed Stored) → StatesAlike s (over s y)
      → asked (ground_of reads outers mode) s ≡ asked (stored_ground reads outers mode) (over s y) → DeedsAlike d e
      → DeedsAlike (with_service (ground_of reads outers mode) s d) (with_service (stored_ground reads outers mode) (over s y) e)
  with_service_alike s y (Does t) (Does u) old same h = subst (λ (v : Served Stop). DeedsAlike (answered s t (asked (ground_of reads outers mode) s)) (answered (over s y) u v)) same (answered_alike s y t u (asked (ground_of reads outers mode) s) old h)
  with_service_alike s y (Halts why t) (Halts also u) old same h = h
  with_service_alike s y (Does t) (Halts also u) old same h = absurd h
  with_service_alike s y (Halts why t) (Does u) old same h = absurd h

  service_alike : (i : Instr) (s : State Tabled) (y : Stored) (d : Deed Tabled) (e : Deed Stored) → StandsIn s.memory y → HoldsWords s.processor
      → AllByRecursion (StaysOut mode.bare i s.processor.rip) (service_reads i s.processor) → DeedsAlike d e
      → DeedsAlike (with_service_of (ground_of reads outers mode) i s d) (with_service_of (stored_ground reads outers mode) i (over s y) e)
  service_alike Syscall s y d e h words out both = with_service_alike s y d e (over_alike s y h words) (asked_same s y h words out) both
  service_alike i s y d e h words out both = both

  -- ---- control

  strayed_alike : (o p : Option ℕ) (t : State Tabled) (u : State Stored) (d : Deed Tabled) (e : Deed Stored) → o ≡ p → StatesAlike t u → DeedsAlike d e → DeedsAlike (unless_strayed o t d) (unless_strayed p u e)
  strayed_alike o p t u d e same states both = subst (λ (q : Option ℕ). DeedsAlike (unless_strayed o t d) (unless_strayed q u e)) same
      (elim o as (λ q. DeedsAlike (unless_strayed q t d) (unless_strayed q u e)) [ None ↦ both | Some x ↦ (refl, states) ])

  control_alike : (i : Instr) (from : ℕ) (d : Deed Tabled) (e : Deed Stored) → DeedsAlike d e → DeedsAlike (control_judged (ground_of reads outers mode) i from d) (control_judged (stored_ground reads outers mode) i from e)
  control_alike i from (Does t) (Does u) h = strayed_alike _ _ t u (Does t) (Does u) (ap (λ (c : Processor). unless_bare mode.bare (control_strays from c.rip (is_call i) (is_return i) outers)) h.processor) h h
  control_alike i from (Halts why t) (Halts also u) h = h
  control_alike i from (Does t) (Halts also u) h = absurd h
  control_alike i from (Halts why t) (Does u) h = absurd h

  -- ---- all of an instruction

  both_stay : (bare : Bool) (i : Instr) (from : ℕ) (ss ts : List Span) → AllByRecursion (StaysOut bare i from) (ss ++ ts) → AllByRecursion (StaysOut bare i from) ss × AllByRecursion (StaysOut bare i from) ts
  both_stay bare i from [] ts h = (tt, h)
  both_stay bare i from (s ∷ ss) ts h = let rest = both_stay bare i from ss ts h.1 in ((h.0, rest.0), rest.1)

  judged_alike : (o : Option ℕ) (s : State Tabled) (y : Stored) (d : Deed Tabled) (e : Deed Stored) → StatesAlike s (over s y) → (o ≡ None → DeedsAlike d e) → DeedsAlike (unless_strayed o s d) (unless_strayed o (over s y) e)
  judged_alike None s y d e states both = both refl
  judged_alike (Some x) s y d e states both = (refl, states)

  deed_alike : (i : Instr) (next : ℕ) (s : State Tabled) (y : Stored) → valid_of i ≡ true → next < 2 ^ 64 → StandsIn s.memory y → HoldsWords s.processor
      → AllByRecursion (StaysOut mode.bare i s.processor.rip) (accesses i next s.processor.regs ++ service_reads i s.processor)
      → DeedsAlike (deed_of (ground_of reads outers mode) i next s) (deed_of (stored_ground reads outers mode) i next (over s y))
  unfolding deed_of
  deed_alike i next s y ok small h words out =
      let parts = both_stay mode.bare i s.processor.rip (accesses i next s.processor.regs) (service_reads i s.processor) out in
      judged_alike (unless_bare mode.bare (reach_strays i s.processor.rip (reach_of (accesses i next s.processor.regs)))) s y _ _ (over_alike s y h words)
      (λ none.
      let clear = reach_clear mode.bare i s.processor.rip (accesses i next s.processor.regs) (few_accesses i next s.processor.regs ok words.regs_fit) parts.0 none in
      control_alike i s.processor.rip _ _ (service_alike i s y _ _ h words parts.1 (executed_alike i next ok small s y clear h words)))

  -- ---- fetching

  executable_low : (a : ℕ) → is_executable a ≡ true → a < 0x1300_0000
  unfolding is_executable
  executable_low a h = grind (arith, nat_tests)

  low_not_of_bounds : (a : ℕ) → a < 0x2000_0000 → is_of_bounds a ≡ false
  unfolding is_of_bounds
  low_not_of_bounds a low = grind (arith, nat_tests)

  pub reading_same : (s : State Tabled) (y : Stored) → StandsIn s.memory y → is_executable s.processor.rip ≡ true → reading_at (ground_of reads outers mode) s ≡ reading_at (stored_ground reads outers mode) (over s y)
  unfolding reading_at
  reading_same s y h code =
      let low = executable_low s.processor.rip code in
      ap reads (list_at-same (fetched_size s.processor.rip) s.memory.bytes y.bytes s.processor.rip (λ z from to.
      let close : fetched_size s.processor.rip ≤ 15 = fetched_few (code_end s.processor.rip - s.processor.rip) in
      h.others z (low_not_of_bounds z (omega arith))))
    where
      fetched_few : (n : ℕ) → min n 15 ≤ 15
      fetched_few n = omega arith

  deed_by_alike : (s : State Tabled) (y : Stored) (r : Reading) → ((i : Instr) (size : ℕ) → r ≡ Is i size → valid_of i ≡ true) → StandsIn s.memory y → HoldsWords s.processor → ReadingStaysOut mode.bare s.processor r
      → DeedsAlike (deed_by (ground_of reads outers mode) s r) (deed_by (stored_ground reads outers mode) (over s y) r)
  deed_by_alike s y (Is i size) valid h words out = deed_alike i (next_address s.processor.rip size) s y (valid i size refl) (omega arith) h words out
  deed_by_alike s y Part valid h words out = (refl, over_alike s y h words)
  deed_by_alike s y Neither valid h words out = (refl, over_alike s y h words)

  -- ---- events

  event_of_alike : (s : State Tabled) (y : Stored) (owed : Bool) (d : Deed Tabled) (e : Deed Stored) → DeedsAlike d e → EventsAlike (event_of s owed d) (event_of (over s y) owed e)
  event_of_alike s y owed (Does t) (Does u) h = (
    ap (λ (c : Processor). (is_legacy s.processor.rip || owed) || nat_le c.rip s.processor.rip) h.processor,
    record { processor = h.processor; guest = h.guest; steps = ap one_more h.steps; memory = h.memory; words = h.words },
  )
  event_of_alike s y owed (Halts why t) (Halts also u) h = (refl, h.0, h.1)
  event_of_alike s y owed (Does t) (Halts also u) h = absurd h
  event_of_alike s y owed (Halts why t) (Does u) h = absurd h

  event_by_alike : (s : State Tabled) (y : Stored) (r q : Reading) → r ≡ q → ((i : Instr) (size : ℕ) → r ≡ Is i size → valid_of i ≡ true) → StandsIn s.memory y → HoldsWords s.processor → ReadingStaysOut mode.bare s.processor r
      → EventsAlike (event_by (ground_of reads outers mode) s r) (event_by (stored_ground reads outers mode) (over s y) q)
  event_by_alike s y r q same valid h words out = subst (λ (z : Reading). EventsAlike (event_by (ground_of reads outers mode) s r) (event_by (stored_ground reads outers mode) (over s y) z)) same
      (event_of_alike s y (owes r) _ _ (deed_by_alike s y r valid h words out))

  event_over : (s : State Tabled) (y : Stored) → ReadsValid reads → StandsIn s.memory y → HoldsWords s.processor → EventStaysOut (ground_of reads outers mode) s
      → EventsAlike (event (ground_of reads outers mode) s) (event (stored_ground reads outers mode) (over s y))
  unfolding event EventStaysOut reading_at
  event_over s y valid h words out =
      elim (is_executable s.processor.rip) as (λ b. is_executable s.processor.rip ≡ b
      → EventsAlike (cond b (event_by (ground_of reads outers mode) s (reading_at (ground_of reads outers mode) s)) (event_of s false (Halts (stop.Unmapped s.processor.rip) s)))
      (cond b (event_by (stored_ground reads outers mode) (over s y) (reading_at (stored_ground reads outers mode) (over s y))) (event_of (over s y) false (Halts (stop.Unmapped s.processor.rip) (over s y))))) [
        | true ↦ λ code. event_by_alike s y _ _ (reading_same s y h code) (λ i size is. valid _ i size (bytes-list_at (fetched_size s.processor.rip) s.memory.bytes s.processor.rip h.each_byte) is) h words (out code)
        | false ↦ λ code. (refl, refl, over_alike s y h words)
      ] refl

  pub event_alike : (s : State Tabled) (t : State Stored) → ReadsValid reads → StatesAlike s t → EventStaysOut (ground_of reads outers mode) s
      → EventsAlike (event (ground_of reads outers mode) s) (event (stored_ground reads outers mode) t)
  event_alike s t valid h out = from_over (λ u. EventsAlike (event (ground_of reads outers mode) s) (event (stored_ground reads outers mode) u)) s t h (event_over s t.memory valid h.memory h.words out)
