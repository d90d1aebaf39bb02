-- A service that C knows by name.
use Rattle.obj_file.specs.StoreLaw.{service_reads, read_by}
use Rattle.obj_file.specs.Finals.{clean_now}
use Rattle.code_laws.proofs.Events.{clean_next}
use Rattle.std.specs.Prelude.{nat_le}
use Rattle.std.proofs.Common.{◌≡◌, ℕ, ◌^◌, ◌%◌, ◌<◌, true, false, Option, None, Some, List, [], ◌∷◌, refl, arith, ap, ◌∙◌, sym, subst}
use Rattle.std.proofs.lemmas.Bool.Decides.{nat_tests}
use Rattle.mx_base.specs.declared.stops.Stop.{Stop}
use Rattle.mx_base.specs.declared.stops.Stop.TheVariants as stop
use Rattle.mx_base.specs.Access.{Refusal, refusal}
use Rattle.mx_base.specs.Heap.{Heap, freed}
use Rattle.mx_base.specs.Memory.{Bytes}
use Rattle.mx_base.specs.Outside.{one_more}
use Rattle.mx_base.specs.Regions.{instrumented_code, is_in}
use Rattle.mx_base.specs.Services.{Service, Write, Exit, Alloc, Free, Print, Put, Get, StackOver, NoService, Guest, Served, Answers, Exits, Overflows, Refused, service_of, served, free_answer, gotten}
use Rattle.mx_base.specs.World.{Access}
use Rattle.x86_forms.specs.declared.instr.Instr.TheVariants.{Syscall}
use Rattle.x86_forms.specs.Accesses.{accesses, reach_of}
use Rattle.x86_forms.specs.Processor.{Processor, part_written}
use Rattle.x86_forms.specs.Requests.{Ends}
use Rattle.x86_forms.specs.Table.{row, at_next}
use Rattle.obj_file.specs.Machine.{State, Deed, Does, Halts, Goes, event, executed, deed_of, reach_strays, asked, answered, reading_at, bytes_judged}
use Rattle.obj_file.specs.Runs.{c_accesses_by}
use Rattle.obj_file.specs.Stored.{Stored}
use Rattle.mx_base.specs.Guests.{GuestFits}
use Rattle.code_laws.specs.Views.{View, with_word}
use Rattle.code_laws.specs.Seen.{Setting, IsSetting, machine_of, state_of}
use Rattle.code_laws.proofs.Events.{whole_quiet, whole_stop, Next, event_is, inside_code, control_fine}
use Rattle.code_laws.specs.Runs.{Whole, whole}
use Rattle.code_laws.proofs.Fetching.{next_of}
use Rattle.code_laws.proofs.Leading.{append_none, executed_ends}
use Rattle.code_laws.specs.Runs.{whole_of, Leads, Ended}
use Rattle.code_laws.proofs.Pieces.{with_reg_leaves, forward, none_fine, word_words}
use Rattle.step_code.specs.Homes.{IsFree}
use Rattle.code_laws.specs.Runs.{Ready}

-- the two ways in which a service's end is told
abbrev pub SameServed : Served Stop → Served Refusal → Type 0
SameServed (Answers a g) (Answers b h) = (a ≡ b) × (g ≡ h)
SameServed (Exits a) (Exits b) = a ≡ b
SameServed Overflows Overflows = Unit {0}
SameServed _ _ = ⊥

freed_same : (g : Guest) (o : Option Heap) → SameServed (free_answer g o) (free_answer g o)
freed_same g None = (refl, refl)
freed_same g (Some h) = (refl, refl)

gotten_same : (g : Guest) (input : List ℕ) → SameServed (gotten g input) (gotten g input)
gotten_same g [] = (refl, refl)
gotten_same g (b ∷ rest) = (refl, refl)

abbrev pub IsOfC : Service → Type 0
IsOfC Write = ⊥
IsOfC NoService = ⊥
IsOfC StackOver = ⊥
IsOfC _ = Unit {0}

of_c_reads : (service : Service) → IsOfC service → (b d : ℕ) → read_by service b d ≡ []
of_c_reads Write is b d = absurd is
of_c_reads Exit is b d = refl
of_c_reads Alloc is b d = refl
of_c_reads Free is b d = refl
of_c_reads Print is b d = refl
of_c_reads Put is b d = refl
of_c_reads Get is b d = refl
of_c_reads StackOver is b d = refl
of_c_reads NoService is b d = refl

-- a service of C reads no bytes, and its second and third words count for nothing
pub served_same : (service : Service) (m k : Bytes) (judge : ℕ → ℕ → Option Stop) (other : ℕ → ℕ → Option Refusal) (word b d : ℕ) (g : Guest) → IsOfC service → SameServed (served m judge service word b d g) (served k other service word 0 0 g)
unfolding served
served_same Write m k judge other word b d g is = absurd is
served_same Exit m k judge other word b d g is = refl
served_same Alloc m k judge other word b d g is = (refl, refl)
served_same Free m k judge other word b d g is = freed_same g (freed g.heap word)
served_same Print m k judge other word b d g is = (refl, refl)
served_same Put m k judge other word b d g is = (refl, refl)
served_same Get m k judge other word b d g is = gotten_same g g.input
served_same StackOver m k judge other word b d g is = absurd is
served_same NoService m k judge other word b d g is = absurd is

abbrev pub answered_view : View → ℕ → ℕ → Guest → View
answered_view v next word g = record v { processor = with_word (with_word (with_word (at_next v.processor next) 1 next) 11 0) 0 word; world = record v.world { guest = g } }

abbrev pub judged_service : State Stored → Served Stop → State Stored → Deed Stored
judged_service s q t = answered s t q

module _ (S : Setting) (ok : IsSetting S) where
  service_row : (c : Processor) (next : ℕ) → next < 2 ^ 64 → row Syscall next c ≡ Ends (with_word (with_word (at_next c next) 1 next) 11 0)
  unfolding row part_written
  service_row c next small = let e : next % 2 ^ 64 ≡ next = omega arith in ap (λ (n : ℕ). Ends (with_word (with_word (at_next c next) 1 n) 11 0)) e

  served_deed : (s t : State Stored) (next : ℕ) (q : Served Stop) → is_in instrumented_code s.processor.rip ≡ true → executed (machine_of S) Syscall next s ≡ Does t → asked (machine_of S) s ≡ q
      → reach_strays Syscall s.processor.rip (reach_of (accesses Syscall next s.processor.regs)) ≡ None → deed_of (machine_of S) Syscall next s ≡ judged_service s q t
  unfolding deed_of
  served_deed s t next (Answers word g) inside is asks fine = rw (fine, is, asks, control_fine s.processor.rip t.processor.rip false S.outers inside) refl
  served_deed s t next (Exits code) inside is asks fine = rw (fine, is, asks) refl
  served_deed s t next Overflows inside is asks fine = rw (fine, is, asks) refl
  served_deed s t next (Refused why) inside is asks fine = rw (fine, is, asks) refl

  full_word : (old word : ℕ) → word < 2 ^ 64 → part_written 64 old word ≡ word
  unfolding part_written
  full_word old word small = omega arith

  abbrev did : View → Stored → ℕ → ℕ → State Stored
  did v y n next = record { processor = with_word (with_word (at_next v.processor next) 1 next) 11 0; memory = y; guest = v.world.guest; steps = n }

  r11_free : IsFree 11
  r11_free = record { rbx = refl; rsp = refl; rbp = refl; r12 = refl; r13 = refl; r14 = refl; r15 = refl }

  -- what follows a service, by its answer. An answer is a word
  abbrev pub AfterService : Whole Stored → View → ℕ → Served Stop → Type 0
  AfterService out v next (Answers word g) = word < 2 ^ 64 → GuestFits g → Leads S out (answered_view v next word g)
  AfterService out v next (Exits code) = Ended S out (stop.Exit code) v.world
  AfterService out v next Overflows = Ended S out stop.StackOver v.world
  AfterService out v next (Refused why) = Ended S out why v.world

  pub serve_by : (v : View) (y : Stored) (n next : ℕ) (q : Served Stop) → Ready S ok v y Syscall next → service_reads Syscall v.processor ≡ [] → asked (machine_of S) (state_of v y n) ≡ q → AfterService (whole_of S v y n) v next q
  serve_by v y n next q h reads_none asks = by_answer q asks
    where
      next_one : Next (machine_of S) refl (state_of v y n) Syscall next
      next_one = next_of S ok v y n Syscall next h.seen h.stands

      inside : is_in instrumented_code v.processor.rip ≡ true
      inside = inside_code v.processor.rip next_one.low next_one.high

      is : executed (machine_of S) Syscall next (state_of v y n) ≡ Does (did v y n next)
      is = let end = h.stands.high in executed_ends (machine_of S) Syscall next (state_of v y n) _ (service_row v.processor next (omega arith))

      cleanly : clean_now (machine_of S) (state_of v y n) ≡ true
      cleanly = clean_next (machine_of S) refl (state_of v y n) Syscall next next_one reads_none refl

      fine : reach_strays Syscall v.processor.rip (reach_of (accesses Syscall next v.processor.regs)) ≡ None
      fine = none_fine S ok Syscall v.processor.rip _ refl

      deed : (q : Served Stop) → asked (machine_of S) (state_of v y n) ≡ q → deed_of (machine_of S) Syscall next (state_of v y n) ≡ answered (state_of v y n) (did v y n next) q
      deed q asks = served_deed (state_of v y n) (did v y n next) next q inside is asks fine

      stopped : (why : Stop) → deed_of (machine_of S) Syscall next (state_of v y n) ≡ Halts why (state_of v y n) → Ended S (whole_of S v y n) why v.world
      stopped why d = record {
        last = state_of v y n;
        is = whole_stop (machine_of S) v.world.turns v.world.accesses (state_of v y n) (state_of v y n) why (event_is (machine_of S) refl (state_of v y n) Syscall next next_one ∙ rw (d, inside) refl) cleanly;
        guest = refl;
        store = h.seen.memory.store;
      }

      by : c_accesses_by (state_of v y n) (reading_at (machine_of S) (state_of v y n)) ≡ []
      by = rw (next_one.reads, inside) refl

      by_answer : (q : Served Stop) → asked (machine_of S) (state_of v y n) ≡ q → AfterService (whole_of S v y n) v next q
      by_answer (Exits code) asks = stopped (stop.Exit code) (deed (Exits code) asks)
      by_answer Overflows asks = stopped stop.StackOver (deed Overflows asks)
      by_answer (Refused why) asks = stopped why (deed (Refused why) asks)
      by_answer (Answers word g) asks = λ small fits.
          let u = answered_view v next word g in
          let ahead = forward S ok v y Syscall next h in
          let end = h.stands.high in
          let later : nat_le next v.processor.rip ≡ false = grind (arith, nat_tests) in
          let d : deed_of (machine_of S) Syscall next (state_of v y n) ≡ Does (state_of u y n) = deed (Answers word g) asks ∙ ap (λ (x : ℕ). let t : Deed Stored = Does (record { processor = with_word (with_word (with_word (at_next v.processor next) 1 next) 11 0) 0 x; memory = y; guest = g; steps = n }) in t) (full_word (v.processor.regs 0) word small) in
          let e : event (machine_of S) (state_of v y n) ≡ Goes false (state_of u y (one_more n)) = event_is (machine_of S) refl (state_of v y n) Syscall next next_one ∙ rw (d, inside, later) refl in
          let leaves_a = with_reg_leaves v.processor.regs 1 next (record { rbx = refl; rsp = refl; rbp = refl; r12 = refl; r13 = refl; r14 = refl; r15 = refl }) in
          record {
            memory = y;
            steps = one_more n;
            same = whole_quiet (machine_of S) v.world.turns v.world.accesses [] (state_of v y n) (state_of u y (one_more n)) e by cleanly
                ∙ ap (λ (l : List Access). whole (machine_of S) v.world.turns l (state_of u y (one_more n))) (append_none v.world.accesses);
            seen = record {
              memory = record { open_bytes = h.seen.memory.open_bytes; store = h.seen.memory.store; frame = h.seen.memory.frame; frozen = h.seen.memory.frozen; code = h.seen.memory.code; data_cell = h.seen.memory.data_cell; legacy_cell = h.seen.memory.legacy_cell; depth_cell = h.seen.memory.depth_cell; each_byte = h.seen.memory.each_byte; kept_words = h.seen.memory.kept_words; guest_fits = fits };
              words = word_words (with_word (with_word (at_next v.processor next) 1 next) 11 0) 0 word small (word_words (with_word (at_next v.processor next) 1 next) 11 0 (omega arith) (word_words (at_next v.processor next) 1 next (omega arith) (record { regs_fit = h.seen.words.regs_fit; bounds_fit = h.seen.words.bounds_fit })));
              stack = h.seen.stack;
              preserve = h.seen.preserve;
              far = record { rbx = h.seen.far.rbx; rbp = h.seen.far.rbp; r12 = h.seen.far.r12; r13 = h.seen.far.r13; r14 = h.seen.far.r14; r15 = h.seen.far.r15 };
            };
          }

  -- a service of C: what the machine does is what its meaning does
  pub serve : (v : View) (y : Stored) (n next : ℕ) (service : Service) → Ready S ok v y Syscall next → service_of (v.processor.regs 0) ≡ service → IsOfC service
      → (q : Served Stop) × AfterService (whole_of S v y n) v next q × SameServed q (served v.world.bytes (λ from n. refusal false n from) service (v.processor.regs 7) 0 0 v.world.guest)
  unfolding asked
  serve v y n next service h is of_c =
      let q = served y.bytes (bytes_judged false v.processor.rip) (service_of (v.processor.regs 0)) (v.processor.regs 7) (v.processor.regs 6) (v.processor.regs 2) v.world.guest in (
        q,
        serve_by v y n next q h (ap (λ (z : Service). read_by z (v.processor.regs 6) (v.processor.regs 2)) is ∙ of_c_reads service of_c (v.processor.regs 6) (v.processor.regs 2)) refl,
        subst (λ (z : Service). SameServed (served y.bytes (bytes_judged false v.processor.rip) z (v.processor.regs 7) (v.processor.regs 6) (v.processor.regs 2) v.world.guest) (served v.world.bytes (λ from n. refusal false n from) service (v.processor.regs 7) 0 0 v.world.guest)) (sym is)
            (served_same service y.bytes v.world.bytes (bytes_judged false v.processor.rip) (λ from n. refusal false n from) (v.processor.regs 7) (v.processor.regs 6) (v.processor.regs 2) v.world.guest of_c),
      )
