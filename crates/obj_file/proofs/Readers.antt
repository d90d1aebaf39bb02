-- Exact readers of instructions read the same, so runs by them are equal; and what is spelled at an address of code is read there.
use Rattle.std.specs.Prelude.{Result, Ok, Err, nat_le, ◌||◌}
use Rattle.std.specs.List.{All}
use Rattle.std.specs.Option.{option_map}
use Rattle.std.proofs.Common.{◌≡◌, ℕ, zero, suc, ◌+◌, ◌-◌, ◌<◌, ◌≤◌, min, nat_lt, Bool, true, false, cond, Option, None, Some, List, [], ◌∷◌, ◌++◌, length, take, refl, arith, ap, ◌∙◌, sym, subst}
use Rattle.std.proofs.lemmas.Bool.Decides.{nat_tests}
use Rattle.mx_base.specs.declared.limits.Bounds.{Bounds}
use Rattle.mx_base.specs.declared.stops.Stop.TheVariants as stop
use Rattle.mx_base.specs.BoundsStore.{BoundsStore, most_tables}
use Rattle.mx_base.specs.Memory.{Bytes, AreBytes, no_bytes, list_at, with_number, first_refused}
use Rattle.mx_base.specs.Regions.{is_executable, is_readable, is_writable}
use Rattle.mx_base.specs.Services.{Guest}
use Rattle.mx_base.specs.Walk.{walk, entry_size, entry_for, with_entry, with_next_table, next_entry}
use Rattle.mx_base.specs.World.{Access}
use Rattle.mx_base.proofs.MemoryLemmas.{length-list_at, AreBytes-with_number}
use Rattle.x86_forms.specs.declared.instr.Instr.{Instr}
use Rattle.x86_forms.specs.Spelling.{Spells, spelling}
use Rattle.x86_forms.proofs.ShortCode.{spelling-short}
use Rattle.obj_file.specs.declared.image.Image.{Image}
use Rattle.obj_file.specs.declared.image.Segment.{Segment}
use Rattle.obj_file.specs.Machine.{Reading, Is, Part, Neither, Begins, BeginsPart, IsReader, Ground, State, Halts, Event, Goes, Stops, event, event_of, event_by, reading_at, deed_of, executed, asked, fetched_size, code_end, served_or_invalid}
use Rattle.obj_file.specs.Runs.{End, Out, Stopped, after, run_within, run_of, room, c_accesses_by, and_later, accesses_within, accesses_of}
use Rattle.obj_file.specs.Loaded.{Tabled, Mode, ground_of, configuration, with_bytes, tabled_write, tabled_load, tabled_keep, table_made, with_segments, image_run, image_accesses, state_at_start}
use Rattle.obj_file.specs.Stored.{Stored, stored_ground, stored_write, stored_load, stored_keep, megabyte_touched, stored_run, stored_accesses, stored_at_start}
use Rattle.obj_file.specs.StoreLaw.{HaveBytes}
use Rattle.obj_file.specs.Keeping.{KeepsByRequests, EventLeaves}
use Rattle.obj_file.specs.Readers.{read_by}
use Rattle.obj_file.proofs.StoredBytes.{bytes-list_at, AreBytes-with_entry}
use Rattle.obj_file.proofs.EventsKeep.{event_keeps}
use Rattle.obj_file.proofs.StoredStart.{segments_bytes}
use Rattle.obj_file.proofs.CodeStays.{missing_ok, no_guest, untouched_ok, touched_same, walked_ok}

-- ---- what is read

module _ (reads other : List ℕ → Reading) (exact : IsReader reads) (also : IsReader other) where
  pub same_reading : (bytes : List ℕ) → All (λ b. b < 256) bytes → reads bytes ≡ other bytes
  same_reading bytes fit = by (reads bytes) (other bytes) refl refl
    where
      by : (r o : Reading) → reads bytes ≡ r → other bytes ≡ o → r ≡ o
      by (Is i size) o e d = sym ((also.whole bytes i size fit).1 ((exact.whole bytes i size fit).0 e)) ∙ d
      by Part o e d = sym ((also.part bytes fit).1 ((exact.part bytes fit).0 e)) ∙ d
      by Neither (Is i size) e d = sym e ∙ (exact.whole bytes i size fit).1 ((also.whole bytes i size fit).0 d)
      by Neither Part e d = sym e ∙ (exact.part bytes fit).1 ((also.part bytes fit).0 d)
      by Neither Neither e d = refl

-- ---- runs

module _ {X : Type 0} (g : Ground X) (other : List ℕ → Reading) (exact : IsReader g.reads) (also : IsReader other) (stays : (s : State X) → AreBytes (g.bytes s.memory) → EventLeaves (λ t. AreBytes (g.bytes t.memory)) (event g s)) where
  abbrev H : Ground X
  H = read_by g other

  by_same : (s : State X) (r : Reading) → event_by g s r ≡ event_by H s r
  unfolding deed_of executed asked
  by_same s (Is i size) = refl
  by_same s Part = refl
  by_same s Neither = refl

  reads_same : (s : State X) → AreBytes (g.bytes s.memory) → reading_at g s ≡ reading_at H s
  unfolding reading_at
  reads_same s bytes = same_reading g.reads other exact also _ (bytes-list_at (fetched_size s.processor.rip) (g.bytes s.memory) s.processor.rip bytes)

  event_same : (s : State X) → AreBytes (g.bytes s.memory) → event g s ≡ event H s
  unfolding event
  event_same s bytes = ap (λ (e : Event X). cond (is_executable s.processor.rip) e (event_of s false (Halts (stop.Unmapped s.processor.rip) s))) (by_same s (reading_at g s) ∙ ap (event_by H s) (reads_same s bytes))

  after_same : (f k : ℕ → State X → End X) (turns : ℕ) (s : State X) (e : Event X) → ((u : ℕ) (t : State X) → AreBytes (g.bytes t.memory) → f u t ≡ k u t) → EventLeaves (λ t. AreBytes (g.bytes t.memory)) e → after f turns s e ≡ after k turns s e
  after_same f k turns s (Goes false t) ih h = ih turns t h
  after_same f k zero s (Goes true t) ih h = refl
  after_same f k (suc turns) s (Goes true t) ih h = ih turns t h
  after_same f k turns s (Stops false why t) ih h = refl
  after_same f k zero s (Stops true why t) ih h = refl
  after_same f k (suc turns) s (Stops true why t) ih h = refl

  within_same : (n turns : ℕ) (s : State X) → AreBytes (g.bytes s.memory) → run_within g n turns s ≡ run_within H n turns s
  unfolding run_within
  within_same zero turns s bytes = refl
  within_same (suc n) turns s bytes = after_same (run_within g n) (run_within H n) turns s (event g s) (within_same n) (stays s bytes) ∙ ap (after (run_within H n) turns s) (event_same s bytes)

  pub run_same : (turns : ℕ) (s : State X) → AreBytes (g.bytes s.memory) → run_of g turns s ≡ run_of (read_by g other) turns s
  unfolding run_of
  run_same turns s bytes = within_same (room turns s) turns s bytes

  later_same : (f k : ℕ → State X → List Access) (turns : ℕ) (now : List Access) (e : Event X) → ((u : ℕ) (t : State X) → AreBytes (g.bytes t.memory) → f u t ≡ k u t) → EventLeaves (λ t. AreBytes (g.bytes t.memory)) e → and_later f turns now e ≡ and_later k turns now e
  later_same f k turns now (Goes false t) ih h = ap (λ (l : List Access). now ++ l) (ih turns t h)
  later_same f k zero now (Goes true t) ih h = refl
  later_same f k (suc turns) now (Goes true t) ih h = ap (λ (l : List Access). now ++ l) (ih turns t h)
  later_same f k turns now (Stops turn why t) ih h = refl

  accesses_same : (n turns : ℕ) (s : State X) → AreBytes (g.bytes s.memory) → accesses_within g n turns s ≡ accesses_within H n turns s
  unfolding accesses_within
  accesses_same zero turns s bytes = refl
  accesses_same (suc n) turns s bytes = later_same (accesses_within g n) (accesses_within H n) turns (c_accesses_by s (reading_at g s)) (event g s) (accesses_same n) (stays s bytes)
      ∙ ap (λ (r : Reading). and_later (accesses_within H n) turns (c_accesses_by s r) (event g s)) (reads_same s bytes)
      ∙ ap (and_later (accesses_within H n) turns (c_accesses_by s (reading_at H s))) (event_same s bytes)

  pub accesses_same_of : (turns : ℕ) (s : State X) → AreBytes (g.bytes s.memory) → accesses_of g turns s ≡ accesses_of (read_by g other) turns s
  unfolding accesses_of
  accesses_same_of turns s bytes = accesses_same (room turns s) turns s bytes

-- ---- bytes stay bytes

as_bytes : (m k : Bytes) → m ≡ k → AreBytes m → AreBytes k
as_bytes m k e h a = subst (λ (n : Bytes). n a < 256) e (h a)

module _ (reads : List ℕ → Reading) (outers : ℕ) (mode : Mode) where
  abbrev GS : Ground Stored
  GS = stored_ground reads outers mode

  stored_write_bytes : (y z : Stored) (at size v : ℕ) → stored_write y at size v ≡ Ok z → AreBytes y.bytes → AreBytes z.bytes
  unfolding stored_write
  stored_write_bytes y z at size v e h =
      let made : Stored = record { bytes = with_number size y.bytes at v; bounds = y.bounds } in
      let ok = missing_ok (first_refused is_writable size at) made z e in
      as_bytes made.bytes z.bytes (ap (λ (w : Stored). w.bytes) ok.1) (AreBytes-with_number size y.bytes at v h)

  stored_load_bytes : (y : Stored) (la v : ℕ) (p : Bounds × Stored) → stored_load (configuration mode.preserve) y la v ≡ Ok p → AreBytes y.bytes → AreBytes p.1.bytes
  unfolding stored_load
  stored_load_bytes y la v p e h = let ok = untouched_ok (configuration mode.preserve) y.bounds la _ p e in as_bytes y.bytes p.1.bytes (ap (λ (q : Bounds × Stored). q.1.bytes) ok) h

  stored_keep_bytes : (y z : Stored) (la v : ℕ) (b : Bounds) → stored_keep (configuration mode.preserve) y la v b ≡ Ok z → AreBytes y.bytes → AreBytes z.bytes
  unfolding stored_keep
  stored_keep_bytes y z la v b e h = let ok = untouched_ok (configuration mode.preserve) y.bounds la _ z e in as_bytes y.bytes z.bytes (ap (λ (w : Stored). w.bytes) ok) h

  stored_serve_bytes : (y z : Stored) (entry_at : ℕ) → served_or_invalid entry_at (megabyte_touched y entry_at) ≡ Ok z → AreBytes y.bytes → AreBytes z.bytes
  unfolding megabyte_touched
  stored_serve_bytes y z entry_at e h = as_bytes y.bytes z.bytes (touched_same y z entry_at _ e) h

  pub stored_bytes_stay : (s : State Stored) → AreBytes s.memory.bytes → EventLeaves (λ t. AreBytes t.memory.bytes) (event (stored_ground reads outers mode) s)
  stored_bytes_stay s h = first (event GS s) (event_keeps GS (λ x y. AreBytes x.bytes → AreBytes y.bytes) (record {
    same = λ x k. k;
    join = λ x y z k l m. l (k m);
    write = stored_write_bytes;
    load = stored_load_bytes;
    keep = stored_keep_bytes;
    serve = λ x y entry_at lacks e. stored_serve_bytes x y entry_at e;
  }) (λ a b. Unit {0}) (no_guest GS) s)
    where
      first : (e : Event Stored) → EventLeaves (λ t. (AreBytes s.memory.bytes → AreBytes t.memory.bytes) × Unit {0}) e → EventLeaves (λ t. AreBytes t.memory.bytes) e
      first (Goes turn t) k = k.0 h
      first (Stops turn why t) k = k.0 h

  abbrev GT : Ground Tabled
  GT = ground_of reads outers mode

  tabled_write_bytes : (x y : Tabled) (at size v : ℕ) → tabled_write x at size v ≡ Ok y → AreBytes x.bytes → AreBytes y.bytes
  unfolding tabled_write
  tabled_write_bytes x y at size v e h =
      let made = with_bytes x (with_number size x.bytes at v) in
      let ok = missing_ok (first_refused is_writable size at) made y e in
      as_bytes made.bytes y.bytes (ap (λ (w : Tabled). w.bytes) ok.1) (AreBytes-with_number size x.bytes at v h)

  tabled_load_bytes : (x : Tabled) (la v : ℕ) (p : Bounds × Tabled) → tabled_load (configuration mode.preserve) x la v ≡ Ok p → AreBytes x.bytes → AreBytes p.1.bytes
  unfolding tabled_load
  tabled_load_bytes x la v p e h =
      let w = walked_ok (walk x.bytes (configuration mode.preserve) la) _ p e in
      let ok = missing_ok (first_refused is_readable entry_size w.0) _ p w.1 in as_bytes x.bytes p.1.bytes (ap (λ (q : Bounds × Tabled). q.1.bytes) ok.1) h

  tabled_keep_bytes : (x y : Tabled) (la v : ℕ) (b : Bounds) → tabled_keep (configuration mode.preserve) x la v b ≡ Ok y → AreBytes x.bytes → AreBytes y.bytes
  unfolding tabled_keep
  tabled_keep_bytes x y la v b e h =
      let w = walked_ok (walk x.bytes (configuration mode.preserve) la) _ y e in
      let made = with_bytes x (with_entry x.bytes w.0 (entry_for v b)) in
      let ok = missing_ok (first_refused is_writable entry_size w.0) made y w.1 in
      as_bytes made.bytes y.bytes (ap (λ (z : Tabled). z.bytes) ok.1) (AreBytes-with_entry x.bytes w.0 (entry_for v b) h)

  tabled_serve_bytes : (x y : Tabled) (entry_at : ℕ) → served_or_invalid entry_at (table_made x entry_at) ≡ Ok y → AreBytes x.bytes → AreBytes y.bytes
  unfolding table_made with_next_table
  tabled_serve_bytes x y entry_at e h = by_room (nat_lt x.made most_tables) e
    where
      by_room : (b : Bool) → served_or_invalid entry_at (option_map (λ bytes. record { bytes = bytes; made = x.made + 1 }) (cond b (Some (with_number 8 x.bytes entry_at (next_entry x.made))) None)) ≡ Ok y → AreBytes y.bytes
      by_room true k =
          let made : Tabled = record { bytes = with_number 8 x.bytes entry_at (next_entry x.made); made = x.made + 1 } in
          let same : made ≡ y = cc in
          as_bytes made.bytes y.bytes (ap (λ (z : Tabled). z.bytes) same) (AreBytes-with_number 8 x.bytes entry_at (next_entry x.made) h)
      by_room false k = absurd cc

  pub tabled_bytes_stay : (s : State Tabled) → AreBytes s.memory.bytes → EventLeaves (λ t. AreBytes t.memory.bytes) (event (ground_of reads outers mode) s)
  tabled_bytes_stay s h = first (event GT s) (event_keeps GT (λ x y. AreBytes x.bytes → AreBytes y.bytes) (record {
    same = λ x k. k;
    join = λ x y z k l m. l (k m);
    write = tabled_write_bytes;
    load = tabled_load_bytes;
    keep = tabled_keep_bytes;
    serve = λ x y entry_at lacks e. tabled_serve_bytes x y entry_at e;
  }) (λ a b. Unit {0}) (no_guest GT) s)
    where
      first : (e : Event Tabled) → EventLeaves (λ t. (AreBytes s.memory.bytes → AreBytes t.memory.bytes) × Unit {0}) e → EventLeaves (λ t. AreBytes t.memory.bytes) e
      first (Goes turn t) k = k.0 h
      first (Stops turn why t) k = k.0 h

-- ---- what is spelled

take-list_at : (n k : ℕ) (m : Bytes) (a : ℕ) → k ≤ n → take k (list_at n m a) ≡ list_at k m a
unfolding list_at
take-list_at zero zero m a h = refl
take-list_at zero (suc k) m a h = absurd (omega arith)
take-list_at (suc n) zero m a h = refl
take-list_at (suc n) (suc k) m a h = ap (λ (l : List ℕ). m a ∷ l) (take-list_at n k m (a + 1) (omega arith))

code_ends : (a : ℕ) → is_executable a ≡ true → a ≤ code_end a
unfolding is_executable
code_ends a code = grind (arith, nat_tests)

module _ {X : Type 0} (g : Ground X) (exact : IsReader g.reads) (s : State X) (bytes : AreBytes (g.bytes s.memory)) where
  abbrev at : ℕ
  at = s.processor.rip

  abbrev fetched : List ℕ
  fetched = list_at (fetched_size at) (g.bytes s.memory) at

  pub spelled_read : (i : Instr) (size : ℕ) → at + size ≤ code_end at → Spells (list_at size (g.bytes s.memory) at) i → reading_at g s ≡ Is i size
  unfolding reading_at
  spelled_read i size within h =
      let short = spelling-short i h.valid in
      let most = short.most in
      let long : length (list_at size (g.bytes s.memory) at) ≡ length (spelling i) = ap (λ (l : List ℕ). length l) h.bytes in
      let count = length-list_at size (g.bytes s.memory) at in
      let enough : size ≤ fetched_size at = omega (arith, long, count, most) in
      let all : size ≤ length fetched = let n = length-list_at (fetched_size at) (g.bytes s.memory) at in omega (arith, n, enough) in
      (exact.whole fetched i size (bytes-list_at (fetched_size at) (g.bytes s.memory) at bytes)).1
      (all, subst (λ (l : List ℕ). Spells l i) (sym (take-list_at (fetched_size at) size (g.bytes s.memory) at enough)) h)

  pub read_spelled : is_executable at ≡ true → (i : Instr) (size : ℕ) → reading_at g s ≡ Is i size → (at + size ≤ code_end at) × Spells (list_at size (g.bytes s.memory) at) i
  unfolding reading_at
  read_spelled code i size e =
      let begins = (exact.whole fetched i size (bytes-list_at (fetched_size at) (g.bytes s.memory) at bytes)).0 e in
      let first = begins.0 in
      let n = length-list_at (fetched_size at) (g.bytes s.memory) at in
      let enough : size ≤ fetched_size at = omega (arith, n, first) in
      let ends = code_ends at code in
      (omega (arith, enough, ends), subst (λ (l : List ℕ). Spells l i) (take-list_at (fetched_size at) size (g.bytes s.memory) at enough) begins.1)

-- ---- images

start_bytes : (segments : List Segment) → HaveBytes segments → AreBytes (with_segments no_bytes segments)
start_bytes segments h = segments_bytes segments no_bytes (λ a. omega arith) h

module _ (reads other : List ℕ → Reading) (exact : IsReader reads) (also : IsReader other) (v : Image) (bytes : HaveBytes v.segments) (mode : Mode) (turns : ℕ) (input : List ℕ) where
  pub same_run : image_run reads v mode turns input ≡ image_run other v mode turns input
  unfolding image_run state_at_start
  same_run = run_same (ground_of reads v.outers mode) other exact also (tabled_bytes_stay reads v.outers mode) turns (state_at_start v.segments mode.preserve input) (start_bytes v.segments bytes)

  pub same_accesses : image_accesses reads v mode turns input ≡ image_accesses other v mode turns input
  unfolding image_accesses state_at_start
  same_accesses = accesses_same_of (ground_of reads v.outers mode) other exact also (tabled_bytes_stay reads v.outers mode) turns (state_at_start v.segments mode.preserve input) (start_bytes v.segments bytes)

  pub same_stored_run : stored_run reads v mode turns input ≡ stored_run other v mode turns input
  unfolding stored_run stored_at_start
  same_stored_run = run_same (stored_ground reads v.outers mode) other exact also (stored_bytes_stay reads v.outers mode) turns (stored_at_start v.segments mode.preserve input) (start_bytes v.segments bytes)

  pub same_stored_accesses : stored_accesses reads v mode turns input ≡ stored_accesses other v mode turns input
  unfolding stored_accesses stored_at_start
  same_stored_accesses = accesses_same_of (stored_ground reads v.outers mode) other exact also (stored_bytes_stay reads v.outers mode) turns (stored_at_start v.segments mode.preserve input) (start_bytes v.segments bytes)
