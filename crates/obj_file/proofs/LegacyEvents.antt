-- An event of legacy code is the same over the world and on the machine.
use Rattle.std.specs.Prelude.{Result, Ok, Err, ⊤, if◌then◌else◌, ◌||◌, ◌&&◌, not, nat_le}
use Rattle.std.proofs.Common.{◌≡◌, ℕ, zero, suc, ◌+◌, ◌-◌, ◌*◌, ◌%◌, ◌<◌, ◌≤◌, ◌^◌, min, Bool, true, false, cond, ◌==◌, Option, None, Some, inl, inr, List, [], ◌∷◌, ◌++◌, refl, ap, ◌∙◌, sym, subst, arith}
use Rattle.std.specs.Option.{option_or}
use Rattle.std.proofs.lemmas.Bool.{cases_lt}
use Rattle.std.proofs.lemmas.Bool.Decides.{nat_tests}
use Rattle.mx_base.specs.declared.limits.Bounds.{Bounds}
use Rattle.mx_base.specs.declared.stops.Stop.{Stop}
use Rattle.mx_base.specs.declared.stops.Stop.TheVariants as stop
use Rattle.mx_base.specs.Bounds.{addresses, moved}
use Rattle.mx_base.specs.Memory.{Bytes, list_at, first_refused, first_refused_around}
use Rattle.mx_base.specs.Regions.{instrumented_code, legacy_code, is_in, is_executable, is_readable, is_sealed}
use Rattle.mx_base.specs.Services.{Guest, Service, Write, Exit, Alloc, Free, Print, Put, Get, StackOver, NoService, Served, Answers, Exits, Overflows, Refused as Denied, service_of, served, written, minus}
use Rattle.mx_base.proofs.MemoryLemmas.{list_at-same, first_refused-none, first_refused_around-plain}
use Rattle.x86_forms.specs.declared.instr.Instr.{Instr}
use Rattle.x86_forms.specs.declared.instr.Instr.TheVariants.{Syscall}
use Rattle.x86_forms.specs.declared.spans.Span.{Span}
use Rattle.x86_forms.specs.Accesses.{accesses, reach_of}
use Rattle.x86_forms.specs.Processor.{Processor, rax, rdx}
use Rattle.x86_forms.specs.Requests.{Program, Ends, Fails, Reads, Writes, Loads, Keeps}
use Rattle.x86_forms.specs.Table.{row, with_result}
use Rattle.x86_forms.specs.TableLaws.{AsksFor}
use Rattle.x86_forms.specs.Validity.{valid_of}
use Rattle.x86_forms.specs.Watch.{is_legacy, is_watched, access_strays, control_strays}
use Rattle.x86_forms.specs.WatchLaws.{HasNoSealedByte}
use Rattle.x86_forms.proofs.TableAccesses.{asks_row}
use Rattle.x86_forms.proofs.WatchFirst.{access-fine}
use Rattle.obj_file.specs.Machine.{Reading, Is, Part, Neither, Ground, State, Deed, Does, Halts, Event, Goes, Stops, executed, reach_strays, span_strays, is_read, is_all, unless_bare, unless_strayed, service_span, as_unmapped, strayed_or, bytes_judged, answered, rsi, rdi, asked, with_service, with_service_of, is_service, is_call, is_return, control_judged, deed_of, deed_by, fetched_size, code_end, reading_at, next_address, owes, event_of, event_by, event}
use Rattle.obj_file.specs.StoreLaw.{AreWords, HoldsWords, KeepsWords, ReadsValid}
use Rattle.obj_file.specs.Stored.{Stored, stored_ground}
use Rattle.obj_file.proofs.StoredBytes.{bytes-list_at}
use Rattle.obj_file.proofs.StoredPlaces.{near_readable}
use Rattle.obj_file.proofs.StoredWords.{result_words}
use Rattle.obj_file.proofs.StoredSpans.{Fits, AreFew, few_accesses}
use Rattle.obj_file.specs.LegacyEvents.{Like, SameUnsealed, SameSealed, StatesLike, EventsLike}
use Rattle.obj_file.proofs.LegacyPrograms.{LikeProgram, rows_like, like_result}
use Rattle.obj_file.proofs.LegacyRows.{IsOpen, Clear}
use Rattle.obj_file.proofs.LegacyDeeds.{DeedsLike, executed_like}

-- ---- accesses

spans_same : (p q : Program) (s t : List Span) → LikeProgram p q → AsksFor p s → AsksFor q t → s ≡ t
spans_same (Ends a) (Ends b) [] [] l h g = refl
spans_same (Ends a) (Ends b) (x ∷ s) t l h g = absurd h
spans_same (Ends a) (Ends b) [] (x ∷ t) l h g = absurd g
spans_same (Fails f a) (Fails e b) [] [] l h g = refl
spans_same (Fails f a) (Fails e b) (x ∷ s) t l h g = absurd h
spans_same (Fails f a) (Fails e b) [] (x ∷ t) l h g = absurd g
spans_same (Reads at size im f) (Reads at' size' im' f') (x ∷ s) (y ∷ t) l h g =
    let first : x ≡ y = h.0 ∙ (λ i. record { at = l.0 i; size = l.1 i; write = false; implicit = l.2 i }) ∙ sym g.0 in
    let rest = spans_same (f 0) (f' 0) s t (l.3 0) (h.1 0) (g.1 0) in λ i. first i ∷ rest i
spans_same (Reads at size im f) (Reads at' size' im' f') [] t l h g = absurd h
spans_same (Reads at size im f) (Reads at' size' im' f') (x ∷ s) [] l h g = absurd g
spans_same (Writes at size v im p) (Writes at' size' v' im' q) (x ∷ s) (y ∷ t) l h g =
    let first : x ≡ y = h.0 ∙ (λ i. record { at = l.0 i; size = l.1 i; write = true; implicit = l.3 i }) ∙ sym g.0 in
    let rest = spans_same p q s t l.4 h.1 g.1 in λ i. first i ∷ rest i
spans_same (Writes at size v im p) (Writes at' size' v' im' q) [] t l h g = absurd h
spans_same (Writes at size v im p) (Writes at' size' v' im' q) (x ∷ s) [] l h g = absurd g
spans_same (Loads at v f) (Loads at' v' f') s t l h g = let b : Bounds = record { lb = 0; ub = 0 } in spans_same (f b) (f' b) s t (l.2 b) (h b) (g b)
spans_same (Keeps at v b p) (Keeps at' v' b' q) s t l h g = spans_same p q s t l.3 h g
spans_same p q s t l h g = absurd l

pub readable_around : (n a : ℕ) → a < addresses → first_refused is_readable n a ≡ None → first_refused_around is_readable n a ≡ None
readable_around zero a low none = first_refused_around-plain is_readable 0 a (omega arith) ∙ none
readable_around (suc n) a low none =
    let last = near_readable (a + n) (first_refused-none is_readable (suc n) a (a + n) none (omega arith) (omega arith)) in
    first_refused_around-plain is_readable (suc n) a (omega arith) ∙ none

top_unread : is_readable (addresses - 1) ≡ true → ⊥
unfolding is_readable
top_unread h = absurd (cc)

pub or_none : (o p : Option ℕ) → option_or o p ≡ None → (o ≡ None) × (p ≡ None)
or_none None p h = (refl, h)
or_none (Some x) p h = absurd (cc)

module _ (i : Instr) (from : ℕ) (legacy : is_legacy from ≡ true) where
  pub looks : (s : Span) → is_watched i from s ≡ true
  unfolding is_watched
  looks s = rw legacy refl

  open_span : (s : Span) → Fits s → access_strays i from s ≡ None → IsOpen s
  open_span s fits none = (fits.0, fits.1, access-fine i from s fits.0 fits.1 (looks s) none)

  pub second_fine : (a b : Span) → a.at < addresses → (if is_read (Some a) then span_strays i from (Some b) else None) ≡ None → first_refused is_readable a.size a.at ≡ None → access_strays i from b ≡ None
  second_fine a b low h read = subst (λ o. (if is_all o then span_strays i from (Some b) else None) ≡ None) (readable_around a.size a.at low read) h

  -- what the watch lets pass is not sealed
  open_clear : (ss : List Span) → AreFew ss → reach_strays i from (reach_of ss) ≡ None → Clear ss
  unfolding reach_strays
  open_clear [] few none = tt
  open_clear (a ∷ []) few none = (open_span a few ((or_none (access_strays i from a) _ none).0), λ read. tt)
  open_clear (a ∷ b ∷ []) few none =
      let parts = or_none (access_strays i from a) _ none in
      (open_span a few.0 parts.0, λ read. (open_span b few.1 (second_fine a b few.0.0 parts.1 read), λ read. tt))
  open_clear (a ∷ b ∷ d ∷ rest) few none = absurd few

around_none : (n a x : ℕ) → a < addresses → n < addresses → first_refused_around is_readable n a ≡ None → a ≤ x → x < a + n → a + n ≤ addresses
unfolding first_refused_around
around_none n a x low few none from to = elim (cases_lt addresses (a + n)) [
  | inl over ↦ let parts = or_none (first_refused is_readable (min n (addresses - a)) a) _ none in
      let last = first_refused-none is_readable (min n (addresses - a)) a (addresses - 1) parts.0 (omega arith) (omega arith) in absurd (top_unread last)
  | inr within ↦ within
]

-- the bytes that a write reads
unsealed_there : (at size y : ℕ) → HasNoSealedByte (service_span at size) → at < addresses → size < addresses → first_refused_around is_readable size at ≡ None → at ≤ y → y < at + size → is_sealed y ≡ false
unfolding moved
unsealed_there at size y fine low few none from to =
    let within = around_none size at y low few none from to in
    let e : (at + (y - at)) % addresses ≡ y = omega arith in subst (λ (a : ℕ). is_sealed a ≡ false) e (fine (y - at) (omega arith))

-- ---- services

written_same : (m n : Bytes) (from size : ℕ) (g : Guest) (o : Option Stop) → (o ≡ None → list_at size m from ≡ list_at size n from) → written m from size g o ≡ written n from size g o
written_same m n from size g None same = ap (λ (bytes : List ℕ). Answers size (record { heap = g.heap; input = g.input; out = g.out ++ bytes })) (same refl)
written_same m n from size g (Some why) same = refl

served_same : (service : Service) (m n : Bytes) (judge : ℕ → ℕ → Option Stop) (a b d : ℕ) (g : Guest) → (judge b d ≡ None → list_at d m b ≡ list_at d n b)
    → served m judge service a b d g ≡ served n judge service a b d g
unfolding served
served_same Write m n judge a b d g same = ap (λ (z : Served Stop). cond (not (a == 1)) (Answers (minus 9) g) (cond (d == 0) (Answers 0 g) z)) (written_same m n b d g (judge b d) same)
served_same Exit m n judge a b d g same = refl
served_same Alloc m n judge a b d g same = refl
served_same Free m n judge a b d g same = refl
served_same Print m n judge a b d g same = refl
served_same Put m n judge a b d g same = refl
served_same Get m n judge a b d g same = refl
served_same StackOver m n judge a b d g same = refl
served_same NoService m n judge a b d g same = refl

executable_legacy : (a : ℕ) → is_executable a ≡ true → is_legacy a ≡ true → is_in legacy_code a ≡ true
unfolding is_executable
executable_legacy a can legacy = grind (arith, nat_tests)

fetched_end : (a : ℕ) → is_legacy a ≡ true → is_in legacy_code a ≡ true → a + fetched_size a ≤ 0x1300_0000
fetched_end a legacy inside = grind (arith, nat_tests)

legacy_unsealed : (x a : ℕ) → is_in legacy_code a ≡ true → a ≤ x → x < 0x1300_0000 → is_sealed x ≡ false
unfolding is_sealed
legacy_unsealed x a inside from to = grind (arith, nat_tests)

module _ (reads : List ℕ → Reading) (outers : ℕ) (preserve : Bool) (valid : ReadsValid reads) (s t : State Stored) (legacy : is_legacy t.processor.rip ≡ true) (old : StatesLike t.memory s t) where
  abbrev G : Ground Stored
  G = stored_ground reads outers record { preserve = preserve; bare = false }

  abbrev x : Stored
  x = t.memory

  rip_same : s.processor.rip ≡ t.processor.rip
  rip_same = old.like.rip

  -- the service
  asked_same : asked G s ≡ asked G t
  unfolding asked
  asked_same =
      let a = old.like.regs 0 (omega arith) in
      let b = old.like.regs 7 (omega arith) in
      let c = old.like.regs 6 (omega arith) in
      let d = old.like.regs 2 (omega arith) in
      (λ i. served s.memory.bytes (bytes_judged false (rip_same i)) (service_of (a i)) (b i) (c i) (d i) (sym old.guest i))
      ∙ served_same (service_of (t.processor.regs rax)) s.memory.bytes t.memory.bytes (bytes_judged false t.processor.rip) (t.processor.regs rdi) (t.processor.regs rsi) (t.processor.regs rdx) t.guest
      (λ none. bytes_same (t.processor.regs rsi) (t.processor.regs rdx) (old.words.regs_fit rsi) (old.words.regs_fit rdx) none)
    where
      strayed_none : (o : Option ℕ) (p : Option Stop) → strayed_or o p ≡ None → (o ≡ None) × (p ≡ None)
      strayed_none None p h = (refl, h)
      strayed_none (Some y) p h = absurd (cc)

      unmapped_none : (o : Option ℕ) → as_unmapped o ≡ None → o ≡ None
      unmapped_none None h = refl
      unmapped_none (Some y) h = absurd (cc)

      bytes_same : (at size : ℕ) → at < addresses → size < addresses → bytes_judged false t.processor.rip at size ≡ None → list_at size s.memory.bytes at ≡ list_at size t.memory.bytes at
      bytes_same at size low few none =
          let parts = strayed_none (access_strays Syscall t.processor.rip (service_span at size)) _ none in
          let fine : HasNoSealedByte (service_span at size) = access-fine Syscall t.processor.rip (service_span at size) low few (looks Syscall t.processor.rip legacy (service_span at size)) parts.0 in
          sym (list_at-same size t.memory.bytes s.memory.bytes at (λ y from to. old.same.unsealed y (unsealed_there at size y fine low few (unmapped_none _ parts.1) from to)))

  answered_like : (a b : State Stored) (v : Served Stop) → StatesLike x a b → DeedsLike x (answered s a v) (answered t b v)
  answered_like a b (Answers word g) new = record { like = like_result a.processor b.processor 64 0 word word (omega arith) refl new.like; same = new.same; left = new.left; words = result_words b.processor 64 0 word refl new.words; guest = refl }
  answered_like a b (Exits code) new = (refl, old)
  answered_like a b Overflows new = (refl, old)
  answered_like a b (Denied why) new = (refl, old)

  with_service_like : (d e : Deed Stored) → DeedsLike x d e → DeedsLike x (with_service G s d) (with_service G t e)
  with_service_like (Does a) (Does b) h = subst (λ (v : Served Stop). DeedsLike x (answered s a v) (answered t b (asked G t))) (sym asked_same) (answered_like a b (asked G t) h)
  with_service_like (Halts why a) (Halts also b) h = h
  with_service_like (Does a) (Halts also b) h = absurd h
  with_service_like (Halts why a) (Does b) h = absurd h

  service_like : (i : Instr) (d e : Deed Stored) → DeedsLike x d e → DeedsLike x (with_service_of G i s d) (with_service_of G i t e)
  service_like Syscall d e h = with_service_like d e h
  service_like i d e h = h

  -- control
  strayed_like : (o p : Option ℕ) (a b : State Stored) (d e : Deed Stored) → o ≡ p → StatesLike x a b → DeedsLike x d e → DeedsLike x (unless_strayed o a d) (unless_strayed p b e)
  strayed_like o p a b d e same states both = subst (λ (q : Option ℕ). DeedsLike x (unless_strayed o a d) (unless_strayed q b e)) same
      (elim o as (λ q. DeedsLike x (unless_strayed q a d) (unless_strayed q b e)) [ None ↦ both | Some y ↦ (refl, states) ])

  control_like : (i : Instr) (from to : ℕ) (d e : Deed Stored) → from ≡ to → DeedsLike x d e → DeedsLike x (control_judged G i from d) (control_judged G i to e)
  control_like i from to (Does a) (Does b) same h = strayed_like _ _ a b (Does a) (Does b) (λ j. control_strays (same j) (h.like.rip j) (is_call i) (is_return i) outers) h h
  control_like i from to (Halts why a) (Halts also b) same h = h
  control_like i from to (Does a) (Halts also b) same h = absurd h
  control_like i from to (Halts why a) (Does b) same h = absurd h

  -- an instruction
  deed_like : (i : Instr) (next : ℕ) → valid_of i ≡ true → next < 2 ^ 64 → DeedsLike x (deed_of G i next s) (deed_of G i next t)
  unfolding deed_of
  deed_like i next ok small =
      let spans : accesses i next s.processor.regs ≡ accesses i next t.processor.regs = spans_same (row i next s.processor) (row i next t.processor) _ _ (rows_like s.processor t.processor next old.like i ok) (asks_row i next s.processor) (asks_row i next t.processor) in
      let strays : reach_strays i s.processor.rip (reach_of (accesses i next s.processor.regs)) ≡ reach_strays i t.processor.rip (reach_of (accesses i next t.processor.regs)) = λ j. reach_strays i (rip_same j) (reach_of (spans j)) in
      either _ _ _ _ strays (λ none.
      let clear = open_clear i t.processor.rip legacy (accesses i next t.processor.regs) (few_accesses i next t.processor.regs ok old.words.regs_fit) none in
      control_like i s.processor.rip t.processor.rip _ _ rip_same (service_like i _ _ (executed_like reads outers preserve i next ok small s t x rip_same old.guest clear old.like old.words old.same old.left)))
    where
      either : (o p : Option ℕ) (d e : Deed Stored) → o ≡ p → (p ≡ None → DeedsLike x d e) → DeedsLike x (unless_strayed o s d) (unless_strayed p t e)
      either o p d e same h = subst (λ (q : Option ℕ). DeedsLike x (unless_strayed q s d) (unless_strayed p t e)) (sym same) (elim p as (λ q. p ≡ q → DeedsLike x (unless_strayed q s d) (unless_strayed q t e)) [ None ↦ h | Some y ↦ λ _. (refl, old) ] refl)

  deed_by_like : (r : Reading) → ((i : Instr) (size : ℕ) → r ≡ Is i size → valid_of i ≡ true) → DeedsLike x (deed_by G s r) (deed_by G t r)
  deed_by_like (Is i size) ok = subst (λ (a : ℕ). DeedsLike x (deed_of G i (next_address a size) s) (deed_of G i (next_address t.processor.rip size) t)) (sym rip_same) (deed_like i (next_address t.processor.rip size) (ok i size refl) (omega arith))
  deed_by_like Part ok = ((λ j. stop.Unmapped (rip_same j + fetched_size (rip_same j))), old)
  deed_by_like Neither ok = ((λ j. stop.Undefined (rip_same j)), old)

  event_of_like : (owed : Bool) (d e : Deed Stored) → DeedsLike x d e → EventsLike x (event_of s owed d) (event_of t owed e)
  event_of_like owed (Does a) (Does b) h = (λ j. (is_legacy (rip_same j) || owed) || nat_le (h.like.rip j) (rip_same j), record { like = h.like; same = h.same; left = h.left; words = h.words; guest = h.guest })
  event_of_like owed (Halts why a) (Halts also b) h = (λ j. is_legacy (rip_same j) || owed, h.0, h.1)
  event_of_like owed (Does a) (Halts also b) h = absurd h
  event_of_like owed (Halts why a) (Does b) h = absurd h

  reading_same : is_executable t.processor.rip ≡ true → reading_at G s ≡ reading_at G t
  unfolding reading_at
  reading_same can =
      let inside = executable_legacy t.processor.rip can legacy in
      let end = fetched_end t.processor.rip legacy inside in
      ap reads ((λ j. list_at (fetched_size (rip_same j)) s.memory.bytes (rip_same j))
      ∙ sym (list_at-same (fetched_size t.processor.rip) t.memory.bytes s.memory.bytes t.processor.rip (λ y from to. old.same.unsealed y (legacy_unsealed y t.processor.rip inside from (omega arith)))))

  pub event_like : EventsLike x (event G s) (event G t)
  unfolding event reading_at
  event_like = subst (λ (b : Bool). EventsLike x (cond b (event_by G s (reading_at G s)) (event_of s false (Halts (stop.Unmapped s.processor.rip) s))) (event G t)) (λ j. is_executable (sym rip_same j))
      (elim (is_executable t.processor.rip) as (λ b. is_executable t.processor.rip ≡ b → EventsLike x (cond b (event_by G s (reading_at G s)) (event_of s false (Halts (stop.Unmapped s.processor.rip) s)))
      (cond b (event_by G t (reading_at G t)) (event_of t false (Halts (stop.Unmapped t.processor.rip) t)))) [
        | true ↦ λ can. subst (λ (r : Reading). EventsLike x (event_by G s r) (event_by G t (reading_at G t))) (sym (reading_same can))
            (event_of_like (owes (reading_at G t)) _ _ (deed_by_like (reading_at G t) (λ i size is. valid _ i size (bytes-list_at (fetched_size t.processor.rip) t.memory.bytes t.processor.rip old.left.each_byte) is)))
        | false ↦ λ can. event_of_like false (Halts (stop.Unmapped s.processor.rip) s) (Halts (stop.Unmapped t.processor.rip) t) ((λ j. stop.Unmapped (rip_same j)), old)
      ] refl)
