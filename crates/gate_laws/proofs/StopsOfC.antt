-- A stop of legacy code is one of C's, without a place.
use Rattle.std.specs.Prelude.{if◌then◌else◌, not, nat_lt, Result, Ok, Err}
use Rattle.std.proofs.Common.{◌≡◌, ℕ, ◌==◌, Bool, true, false, Option, None, Some, List, [], ◌∷◌, refl, subst}
use Rattle.std.proofs.lemmas.Bool.{cond_both}
use Rattle.mx_base.specs.declared.limits.Bounds.{Bounds}
use Rattle.mx_base.specs.declared.stops.Stop.{Stop}
use Rattle.mx_base.specs.BoundsStore.{BoundsStore, megabyte}
use Rattle.mx_base.specs.Walk.{walk_end, directory_entry_at}
use Rattle.mx_base.specs.Memory.{Bytes, first_refused, number_at, with_number}
use Rattle.mx_base.specs.Regions.{is_executable, is_readable, is_writable}
use Rattle.mx_base.specs.Services.{Guest, Service, Write, Exit, Alloc, Free, Print, Put, Get, StackOver, NoService, Served, Answers, Exits, Overflows, Refused as Denied, service_of, served, written, free_answer, gotten, minus}
use Rattle.mx_base.specs.Heap.{Heap, freed}
use Rattle.obj_file.specs.Loaded.{unless_missing}
use Rattle.mx_base.specs.StopOfC.{stop_in_c, AccessOfC}
use Rattle.x86_forms.specs.declared.instr.Instr.{Instr}
use Rattle.x86_forms.specs.declared.instr.Instr.TheVariants.{Syscall}
use Rattle.x86_forms.specs.Processor.{Processor, rax}
use Rattle.x86_forms.specs.Requests.{Fault, Divides, Undefines, Violates, Program, Ends, Fails, Reads, Writes, Loads, Keeps, Outcome, Done, Failed, Refused, run, either_way}
use Rattle.x86_forms.specs.Table.{row}
use Rattle.x86_forms.specs.Watch.{access_strays}
use Rattle.obj_file.specs.Machine.{Reading, Is, Part, Neither, Refusal, Misses, Invalid, Lacks, State, Deed, Does, Halts, Event, Goes, Stops, ended, executed, fault_stop, served_or_invalid, served_or_ended, restarted, unless_strayed, strayed_or, as_unmapped, service_span, bytes_judged, answered, asked, with_service, is_service, control_judged, deed_of, deed_by, reading_at, event_of, event, owes}
use Rattle.obj_file.specs.Stored.{Stored, stored_store, stored_read, stored_write, stored_load, stored_keep, unless_untouched, megabyte_touched, is_touched}
use Rattle.legacy_calls.specs.Legacy.{Linkage, ground, stop_of}

-- a store that never lacks a frame
abbrev Full : {A : Type 0} → Result A Refusal → Type 0
Full (Ok v) = Unit {0}
Full (Err (Misses at)) = Unit {0}
Full (Err (Invalid entry_at)) = Unit {0}
Full (Err (Lacks in_use capacity)) = ⊥

abbrev FullEnd : Outcome Stored Refusal → Type 0
FullEnd (Done p y) = Unit {0}
FullEnd (Failed f p y) = Unit {0}
FullEnd (Refused (Misses at) p y) = Unit {0}
FullEnd (Refused (Invalid entry_at) p y) = Unit {0}
FullEnd (Refused (Lacks in_use capacity) p y) = ⊥

either_full : {A : Type 0} (r : Result A Refusal) (f : A → Outcome Stored Refusal) (g : Refusal → Processor) (y : Stored) → Full r → ((a : A) → FullEnd (f a)) → FullEnd (either_way r f (λ o. Refused o (g o) y))
either_full (Ok a) f g y h k = k a
either_full (Err (Misses at)) f g y h k = tt
either_full (Err (Invalid at)) f g y h k = tt
either_full (Err (Lacks u c)) f g y h k = absurd h

missing_full : {A : Type 0} (o : Option ℕ) (v : A) → Full (unless_missing o v)
missing_full None v = tt
missing_full (Some x) v = tt

if_full : {A : Type 0} (b : Bool) (r q : Result A Refusal) → Full r → Full q → Full (if b then r else q)
if_full true r q h k = h
if_full false r q h k = k

module _ (cfg : ℕ) where
  read_full : (y : Stored) (at size : ℕ) → Full (stored_read y at size)
  unfolding stored_read
  read_full y at size = missing_full (first_refused is_readable size at) (number_at size y.bytes at)

  write_full : (y : Stored) (at size v : ℕ) → Full (stored_write y at size v)
  unfolding stored_write
  write_full y at size v = missing_full (first_refused is_writable size at) (record { bytes = with_number size y.bytes at v; bounds = y.bounds })

  touched_full : {A : Type 0} (s : BoundsStore) (la : ℕ) (v : A) → Full (unless_untouched cfg s la v)
  touched_full s la v = if_full (nat_lt la walk_end) (if is_touched s (megabyte la) then Ok v else Err (Invalid (directory_entry_at cfg la))) (Err (Misses la))
      (if_full (is_touched s (megabyte la)) (Ok v) (Err (Invalid (directory_entry_at cfg la))) tt tt) tt

  load_full : (y : Stored) (la v : ℕ) → Full (stored_load cfg y la v)
  unfolding stored_load
  load_full y la v = touched_full y.bounds la _

  keep_full : (y : Stored) (la v : ℕ) (b : Bounds) → Full (stored_keep cfg y la v b)
  unfolding stored_keep
  keep_full y la v b = touched_full y.bounds la _

  run_full : (c : Processor) (p : Program) (y : Stored) → FullEnd (run (stored_store cfg) c p y)
  unfolding run
  run_full c (Ends a) y = tt
  run_full c (Fails f a) y = tt
  run_full c (Reads at size im f) y = either_full _ _ _ y (read_full y at size) (λ v. run_full c (f v) y)
  run_full c (Writes at size v im p) y = either_full _ _ _ y (write_full y at size v) (λ z. run_full c p z)
  run_full c (Loads at v f) y = either_full _ _ _ y (load_full y at v) (λ b. run_full c (f b.0) b.1)
  run_full c (Keeps at v b p) y = either_full _ _ _ y (keep_full y at v b) (λ z. run_full c p z)

module _ (k : Linkage) (places : ℕ → Option AccessOfC) (s : State Stored) (none : places s.processor.rip ≡ None) where
  abbrev OfC : Stop → Type 0
  OfC why = stop_in_c places why ≡ Some (stop_of why)

  abbrev DeedOfC : Deed Stored → Type 0
  DeedOfC (Does t) = Unit {0}
  DeedOfC (Halts why t) = OfC why

  abbrev EventOfC : Event Stored → Type 0
  EventOfC (Goes turn t) = Unit {0}
  EventOfC (Stops turn why t) = OfC why

  fault : (f : Fault) → OfC (fault_stop s.processor.rip f)
  fault Divides = refl
  fault Undefines = refl
  fault (Violates value b) = rw none refl

  ending : (o : Outcome Stored Refusal) → FullEnd o → DeedOfC (ended s o)
  ending (Done p y) h = tt
  ending (Failed f p y) h = fault f
  ending (Refused (Misses at) p y) h = refl
  ending (Refused (Invalid at) p y) h = refl
  ending (Refused (Lacks u c) p y) h = absurd h

  restart : (i : Instr) (next : ℕ) (p : Processor) (x : Stored) (r : Result Stored Refusal) → Full r → DeedOfC (restarted (ground k) i next s p x r)
  restart i next p x (Ok y) h = ending _ (run_full _ p (row i next p) y)
  restart i next p x (Err (Misses at)) h = refl
  restart i next p x (Err (Invalid at)) h = refl
  restart i next p x (Err (Lacks u c)) h = absurd h

  invalid_full : (at : ℕ) (o : Option Stored) → Full (served_or_invalid at o)
  invalid_full at None = tt
  invalid_full at (Some y) = tt

  serving : (i : Instr) (next : ℕ) (o : Outcome Stored Refusal) → FullEnd o → DeedOfC (served_or_ended (ground k) i next s o)
  serving i next (Refused (Invalid at) p x) h = restart i next p x _ (invalid_full at (megabyte_touched x at))
  serving i next (Refused (Misses at) p x) h = refl
  serving i next (Refused (Lacks u c) p x) h = absurd h
  serving i next (Done p x) h = tt
  serving i next (Failed f p x) h = fault f

  done : (i : Instr) (next : ℕ) → DeedOfC (executed (ground k) i next s)
  unfolding executed
  done i next = serving i next _ (run_full _ s.processor (row i next s.processor) s.memory)

  -- services
  abbrev ServedOfC : Served Stop → Type 0
  ServedOfC (Answers word u) = Unit {0}
  ServedOfC (Exits code) = Unit {0}
  ServedOfC Overflows = Unit {0}
  ServedOfC (Denied why) = OfC why

  abbrev MaybeOfC : Option Stop → Type 0
  MaybeOfC None = Unit {0}
  MaybeOfC (Some why) = OfC why

  unmapped_of_c : (o : Option ℕ) → MaybeOfC (as_unmapped o)
  unmapped_of_c None = tt
  unmapped_of_c (Some x) = refl

  strayed_of_c : (o : Option ℕ) (p : Option Stop) → MaybeOfC p → MaybeOfC (strayed_or o p)
  strayed_of_c None p h = h
  strayed_of_c (Some x) p h = refl

  written_of_c : (m : Bytes) (from size : ℕ) (g : Guest) (o : Option Stop) → MaybeOfC o → ServedOfC (written m from size g o)
  written_of_c m from size g None h = tt
  written_of_c m from size g (Some why) h = h

  free_of_c : (g : Guest) (o : Option Heap) → ServedOfC (free_answer g o)
  free_of_c g None = tt
  free_of_c g (Some x) = tt

  if_of_c : (b : Bool) (r q : Served Stop) → ServedOfC r → ServedOfC q → ServedOfC (if b then r else q)
  if_of_c true r q h k = h
  if_of_c false r q h k = k

  gotten_of_c : (g : Guest) (l : List ℕ) → ServedOfC (gotten g l)
  gotten_of_c g [] = tt
  gotten_of_c g (x ∷ l) = tt

  served_of_c : (service : Service) (m : Bytes) (judge : ℕ → ℕ → Option Stop) (a b d : ℕ) (g : Guest) → ((x y : ℕ) → MaybeOfC (judge x y)) → ServedOfC (served m judge service a b d g)
  unfolding served
  served_of_c Write m judge a b d g h = if_of_c (not (a == 1)) (Answers (minus 9) g) (if d == 0 then Answers 0 g else written m b d g (judge b d)) tt (if_of_c (d == 0) (Answers 0 g) (written m b d g (judge b d)) tt (written_of_c m b d g (judge b d) (h b d)))
  served_of_c Exit m judge a b d g h = tt
  served_of_c Alloc m judge a b d g h = tt
  served_of_c Free m judge a b d g h = free_of_c g (freed g.heap a)
  served_of_c Print m judge a b d g h = tt
  served_of_c Put m judge a b d g h = tt
  served_of_c Get m judge a b d g h = gotten_of_c g g.input
  served_of_c StackOver m judge a b d g h = tt
  served_of_c NoService m judge a b d g h = tt

  asked_of_c : ServedOfC (asked (ground k) s)
  unfolding asked
  asked_of_c = served_of_c (service_of (s.processor.regs rax)) _ (bytes_judged false s.processor.rip) _ _ _ _ (λ x y. strayed_of_c (access_strays Syscall s.processor.rip (service_span x y)) _ (unmapped_of_c _))

  answer : (t : State Stored) (a : Served Stop) → ServedOfC a → DeedOfC (answered s t a)
  answer t (Answers word u) e = tt
  answer t (Exits code) e = refl
  answer t Overflows e = refl
  answer t (Denied why) e = e

  service : (d : Deed Stored) → DeedOfC d → DeedOfC (with_service (ground k) s d)
  service (Does t) e = answer t (asked (ground k) s) asked_of_c
  service (Halts why t) e = e

  unless : (o : Option ℕ) (t : State Stored) (d : Deed Stored) → DeedOfC d → DeedOfC (unless_strayed o t d)
  unless None t d h = h
  unless (Some x) t d h = refl

  control : (i : Instr) (from : ℕ) (d : Deed Stored) → DeedOfC d → DeedOfC (control_judged (ground k) i from d)
  control i from (Does t) h = unless _ t (Does t) h
  control i from (Halts why t) h = h

  deed : (i : Instr) (next : ℕ) → DeedOfC (deed_of (ground k) i next s)
  unfolding deed_of
  deed i next = unless _ s _ (control i s.processor.rip _ (cond_both (is_service i) _ _ (λ d. DeedOfC d) (λ e. service _ (done i next)) (λ e. done i next)))

  by_reading : (r : Reading) → DeedOfC (deed_by (ground k) s r)
  by_reading (Is i size) = deed i _
  by_reading Part = refl
  by_reading Neither = refl

  of_deed : (owed : Bool) (d : Deed Stored) → DeedOfC d → EventOfC (event_of s owed d)
  of_deed owed (Does t) h = h
  of_deed owed (Halts why t) h = h

  all : EventOfC (event (ground k) s)
  unfolding event
  all = cond_both (is_executable s.processor.rip) _ _ (λ e. EventOfC e) (λ _. of_deed (owes (reading_at (ground k) s)) (deed_by (ground k) s (reading_at (ground k) s)) (by_reading (reading_at (ground k) s))) (λ _. refl)

  pub stops_of_c : (turn : Bool) (why : Stop) (t : State Stored) → event (ground k) s ≡ Stops turn why t → OfC why
  stops_of_c turn why t e = subst (λ (x : Event Stored). EventOfC x) e all
