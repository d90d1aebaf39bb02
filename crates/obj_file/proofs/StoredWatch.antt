-- Of the accesses that the watch judges nothing is asked.
use Rattle.std.proofs.Common.{◌≡◌, ℕ, Bool, true, false, ◌||◌, List, [], ◌∷◌, ◌++◌, ap, sym, subst}
use Rattle.std.specs.List.{AllByRecursion}
use Rattle.x86_forms.specs.declared.instr.Instr.{Instr}
use Rattle.x86_forms.specs.declared.spans.Span.{Span}
use Rattle.x86_forms.specs.Processor.{Processor}
use Rattle.x86_forms.specs.Accesses.{accesses}
use Rattle.x86_forms.specs.Watch.{is_legacy, is_watched, is_c_access}
use Rattle.obj_file.specs.Machine.{Reading, Is, Part, Neither, Ground, State, reading_at, next_address}
use Rattle.obj_file.specs.StoreLaw.{StaysOut, service_reads, ReadingStaysOut, EventStaysOut}

pub watched_stays : (i : Instr) (from : ℕ) (s : Span) → is_watched i from s ≡ true → StaysOut false i from s
watched_stays i from s looks not_judged = absurd (cc)

legacy_watched : (i : Instr) (from : ℕ) (s : Span) → is_legacy from ≡ true → is_watched i from s ≡ true
unfolding is_watched
legacy_watched i from s legacy = ap (λ b. b || is_c_access i s) legacy

each_stays : (i : Instr) (from : ℕ) (ss : List Span) → is_legacy from ≡ true → AllByRecursion (StaysOut false i from) ss
each_stays i from [] legacy = tt
each_stays i from (s ∷ ss) legacy = (watched_stays i from s (legacy_watched i from s legacy), each_stays i from ss legacy)

reading_stays : (c : Processor) (r : Reading) → is_legacy c.rip ≡ true → ReadingStaysOut false c r
reading_stays c (Is i size) legacy = each_stays i c.rip (accesses i (next_address c.rip size) c.regs ++ service_reads i c) legacy
reading_stays c Part legacy = tt
reading_stays c Neither legacy = tt

pub legacy_stays : {X : Type 0} (g : Ground X) (s : State X) → g.bare ≡ false → is_legacy s.processor.rip ≡ true → EventStaysOut g s
unfolding EventStaysOut
legacy_stays g s watching legacy code = subst (λ (b : Bool). ReadingStaysOut b s.processor (reading_at g s)) (sym watching) (reading_stays s.processor (reading_at g s) legacy)
