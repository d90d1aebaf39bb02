-- Events of code that stands in memory, and runs with the accesses that they make.
use Rattle.code_laws.specs.Runs.{whole}
use Rattle.std.specs.Prelude.{◌||◌, nat_le}
use Rattle.std.proofs.Common.{◌≡◌, ℕ, zero, suc, ◌<◌, ◌≤◌, Bool, true, false, Option, None, Some, List, [], ◌∷◌, ◌++◌, refl, arith, ap, ◌∙◌}
use Rattle.std.proofs.lemmas.Bool.Decides.{nat_tests}
use Rattle.mx_base.specs.declared.stops.Stop.{Stop}
use Rattle.mx_base.specs.declared.stops.Stop.TheVariants as stop
use Rattle.mx_base.specs.Regions.{instrumented_code, is_in, is_executable}
use Rattle.mx_base.specs.World.{Access}
use Rattle.x86_forms.specs.declared.instr.Instr.{Instr}
use Rattle.x86_forms.specs.Accesses.{accesses, reach_of}
use Rattle.x86_forms.specs.Watch.{is_legacy_control, control_strays}
use Rattle.obj_file.specs.Machine.{Is, Ground, State, Does, Halts, Goes, Stops, event, event_of, executed, reach_strays, deed_of, reading_at, next_address, is_call, is_return, is_service, counted}
use Rattle.obj_file.specs.Runs.{Out, Stopped, c_accesses_by}
use Rattle.obj_file.specs.Stored.{Stored}
use Rattle.obj_file.specs.StoreLaw.{service_reads}
use Rattle.x86_forms.specs.declared.spans.Span.{Span}
use Rattle.obj_file.specs.Finals.{Moment, final, final_after, clean_now, all_keep_out}
use Rattle.obj_file.proofs.FinalLaws.{final_step, final_quiet, final_turn}

append_nothing : {A : Type 0} → (l : List A) → l ++ [] ≡ l
append_nothing [] = refl
append_nothing {A} (x ∷ l) = ap (λ (r : List A). x ∷ r) (append_nothing l)

module _ (g : Ground Stored) where
  abbrev moment : ℕ → List Access → State Stored → Moment Stored
  moment turns before s = record { state = s; turns = turns; accesses = before }

  pub whole_quiet : (turns : ℕ) (before now : List Access) (s t : State Stored) → event g s ≡ Goes false t → c_accesses_by s (reading_at g s) ≡ now → clean_now g s ≡ true → whole g turns before s ≡ whole g turns (before ++ now) t
  unfolding whole
  whole_quiet turns before now s t is by clean = final_quiet g (moment turns before s) t is clean ∙ ap (λ (l : List Access). final g (moment turns (before ++ l) t)) by

  pub whole_turn : (turns : ℕ) (before now : List Access) (s t : State Stored) → event g s ≡ Goes true t → c_accesses_by s (reading_at g s) ≡ now → clean_now g s ≡ true → whole g (suc turns) before s ≡ whole g turns (before ++ now) t
  unfolding whole
  whole_turn turns before now s t is by clean = final_turn g (moment (suc turns) before s) turns t refl is clean ∙ ap (λ (l : List Access). final g (moment turns (before ++ l) t)) by

  pub whole_out : (before : List Access) (s t : State Stored) → event g s ≡ Goes true t → clean_now g s ≡ true → whole g zero before s ≡ record { end = Out s; accesses = before; clean = true }
  unfolding whole
  whole_out before s t is clean = final_step g (moment zero before s) ∙ ap (final_after g (moment zero before s)) is ∙ ap (λ (c : Bool). record { end = Out s; accesses = before; clean = c }) clean

  pub whole_stop : (turns : ℕ) (before : List Access) (s last : State Stored) (why : Stop) → event g s ≡ Stops false why last → clean_now g s ≡ true → whole g turns before s ≡ record { end = Stopped why last; accesses = before; clean = true }
  unfolding whole
  whole_stop turns before s last why is clean = final_step g (moment turns before s) ∙ ap (final_after g (moment turns before s)) is ∙ ap (λ (c : Bool). record { end = Stopped why last; accesses = before; clean = c }) clean

-- ---- instrumented code

pub inside_code : (a : ℕ) → 0x0100_0000 ≤ a → a < 0x1100_0000 → is_in instrumented_code a ≡ true
inside_code a low high = grind (arith, nat_tests)

pub code_executes : (a : ℕ) → 0x0100_0000 ≤ a → a < 0x1100_0000 → is_executable a ≡ true
unfolding is_executable
code_executes a low high = grind (arith, nat_tests)

pub control_fine : (from to : ℕ) (call : Bool) (outers : ℕ) → is_in instrumented_code from ≡ true → control_strays from to call false outers ≡ None
unfolding control_strays is_legacy_control
control_fine from to call outers inside = rw inside refl

module _ {X : Type 0} (g : Ground X) (watched : g.bare ≡ false) where
  -- the instruction of instrumented code that is next
  pub record Next (s : State X) (i : Instr) (next : ℕ) : Type 0 where
    pub size : ℕ
    pub low : 0x0100_0000 ≤ s.processor.rip
    pub high : s.processor.rip < 0x1100_0000
    pub reads : reading_at g s ≡ Is i size
    pub is_next : next_address s.processor.rip size ≡ next

  -- an instruction that is no call, no return and no service
  pub record IsOrdinary (i : Instr) : Type 0 where
    pub call : is_call i ≡ false
    pub return : is_return i ≡ false
    pub service : is_service i ≡ false

  pub event_is : (s : State X) (i : Instr) (next : ℕ) → Next s i next → event g s ≡ event_of s (is_call i || is_return i) (deed_of g i next s)
  unfolding event
  event_is s i next n = rw (code_executes s.processor.rip n.low n.high, n.reads) (ap (λ (k : ℕ). event_of s (is_call i || is_return i) (deed_of g i k s)) n.is_next)

  -- nothing that it touches lies in the directory or the tables
  pub clean_next : (s : State X) (i : Instr) (next : ℕ) → Next s i next → service_reads i s.processor ≡ [] → all_keep_out false i s.processor.rip (accesses i next s.processor.regs) ≡ true → clean_now g s ≡ true
  clean_next s i next n none out = rw (code_executes s.processor.rip n.low n.high, n.reads)
      (ap (λ (b : Bool). all_keep_out b i s.processor.rip (accesses i (next_address s.processor.rip n.size) s.processor.regs ++ service_reads i s.processor)) watched
      ∙ ap (λ (k : ℕ). all_keep_out false i s.processor.rip (accesses i k s.processor.regs ++ service_reads i s.processor)) n.is_next
      ∙ ap (λ (l : List Span). all_keep_out false i s.processor.rip (accesses i next s.processor.regs ++ l)) none ∙ ap (all_keep_out false i s.processor.rip) (append_nothing (accesses i next s.processor.regs)) ∙ out)

  pub no_service_reads : (s : State X) (i : Instr) → is_service i ≡ false → service_reads i s.processor ≡ []
  no_service_reads s i quiet = rw quiet refl

  abbrev strays : Instr → ℕ → State X → Option ℕ
  strays i next s = reach_strays i s.processor.rip (reach_of (accesses i next s.processor.regs))

  not_legacy : (s : State X) (i : Instr) (next : ℕ) → Next s i next → is_in instrumented_code s.processor.rip ≡ true
  not_legacy s i next n = inside_code s.processor.rip n.low n.high

  pub deed_does : (s t : State X) (i : Instr) (next : ℕ) → Next s i next → IsOrdinary i → strays i next s ≡ None → executed g i next s ≡ Does t → deed_of g i next s ≡ Does t
  unfolding deed_of
  deed_does s t i next n o fine is = rw (fine, is, o.service, o.call, o.return, watched, control_fine s.processor.rip t.processor.rip false g.outers (not_legacy s i next n)) refl

  pub event_goes : (s t : State X) (i : Instr) (next : ℕ) → Next s i next → IsOrdinary i → strays i next s ≡ None → executed g i next s ≡ Does t
      → event g s ≡ Goes (nat_le t.processor.rip s.processor.rip) (counted t)
  event_goes s t i next n o fine is = event_is s i next n ∙ rw (deed_does s t i next n o fine is, o.call, o.return, not_legacy s i next n) refl

  deed_halts : (s last : State X) (why : Stop) (i : Instr) (next : ℕ) → IsOrdinary i → strays i next s ≡ None → executed g i next s ≡ Halts why last → deed_of g i next s ≡ Halts why last
  unfolding deed_of
  deed_halts s last why i next o fine is = rw (fine, is, o.service, watched) refl

  pub event_halts : (s last : State X) (why : Stop) (i : Instr) (next : ℕ) → Next s i next → IsOrdinary i → strays i next s ≡ None → executed g i next s ≡ Halts why last
      → event g s ≡ Stops false why last
  event_halts s last why i next n o fine is = event_is s i next n ∙ rw (deed_halts s last why i next o fine is, o.call, o.return, not_legacy s i next n) refl

  deed_strays : (s : State X) (x : ℕ) (i : Instr) (next : ℕ) → strays i next s ≡ Some x → deed_of g i next s ≡ Halts (stop.Strayed x) s
  unfolding deed_of
  deed_strays s x i next fine = rw (fine, watched) refl

  pub event_strays : (s : State X) (x : ℕ) (i : Instr) (next : ℕ) → Next s i next → IsOrdinary i → strays i next s ≡ Some x → event g s ≡ Stops false (stop.Strayed x) s
  event_strays s x i next n o fine = event_is s i next n ∙ rw (deed_strays s x i next fine, o.call, o.return, not_legacy s i next n) refl
