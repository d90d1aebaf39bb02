-- Runs over frames by exact readers of instructions are equal.
use Rattle.std.specs.Prelude.{Result, Ok, Err}
use Rattle.std.specs.Option.{option_map}
use Rattle.std.proofs.Common.{◌≡◌, ℕ, ◌+◌, ◌<◌, Bool, true, false, cond, nat_lt, None, Some, List, [], refl, ap, subst, arith}
use Rattle.mx_base.specs.declared.limits.Bounds.{Bounds}
use Rattle.mx_base.specs.BoundsStore.{most_tables}
use Rattle.mx_base.specs.Memory.{Bytes, AreBytes, no_bytes, with_number, first_refused}
use Rattle.mx_base.specs.Regions.{is_readable, is_writable}
use Rattle.mx_base.specs.Walk.{walk, entry_size, entry_for, with_entry, with_next_table, next_entry}
use Rattle.mx_base.proofs.MemoryLemmas.{AreBytes-with_number}
use Rattle.paged_memory.specs.Touched.{frames_for}
use Rattle.obj_file.specs.declared.image.Image.{Image}
use Rattle.obj_file.specs.Machine.{Reading, IsReader, Refusal, Lacks, Ground, State, Event, Goes, Stops, event, served_or_invalid}
use Rattle.obj_file.specs.Loaded.{Tabled, configuration, with_bytes, tabled_write, tabled_load, tabled_keep, table_made, state_at_start}
use Rattle.obj_file.specs.StoreLaw.{HaveBytes}
use Rattle.obj_file.specs.Keeping.{EventLeaves}
use Rattle.obj_file.proofs.CodeStays.{missing_ok, no_guest, walked_ok}
use Rattle.obj_file.proofs.EventsKeep.{event_keeps}
use Rattle.obj_file.proofs.Readers.{run_same}
use Rattle.obj_file.proofs.StoredBytes.{AreBytes-with_entry}
use Rattle.obj_file.proofs.StoredStart.{segments_bytes}
use Rattle.mx_run.specs.Backed.{Backed, backed_answer, loaded_beside, backed_write, backed_load, backed_keep, table_backed, ground, over_frames}
use Rattle.mx_run.specs.Machines.{framed_run}
use Rattle.mx_run.specs.Placing.{touched_after}
use Rattle.mx_run.proofs.ReaderLaws.{reader_reads}
use Rattle.mpx_words.specs.declared.options.Settings.{Settings}
use Rattle.mpx_words.specs.Running.{framed_run_by, mode_of}

-- ---- bytes stay bytes

as_bytes : (m k : Bytes) → m ≡ k → AreBytes m → AreBytes k
as_bytes m k e h a = subst (λ (n : Bytes). n a < 256) e (h a)

write_bytes : (x y : Tabled) (at size v : ℕ) → tabled_write x at size v ≡ Ok y → AreBytes x.bytes → AreBytes y.bytes
unfolding tabled_write
write_bytes x y at size v e h =
    let made = with_bytes x (with_number size x.bytes at v) in
    let ok = missing_ok (first_refused is_writable size at) made y e in
    as_bytes made.bytes y.bytes (ap (λ (w : Tabled). w.bytes) ok.1) (AreBytes-with_number size x.bytes at v h)

load_bytes : (cfg : ℕ) (x : Tabled) (la v : ℕ) (p : Bounds × Tabled) → tabled_load cfg x la v ≡ Ok p → AreBytes x.bytes → AreBytes p.1.bytes
unfolding tabled_load
load_bytes cfg x la v p e h =
    let w = walked_ok (walk x.bytes cfg la) _ p e in
    let ok = missing_ok (first_refused is_readable entry_size w.0) _ p w.1 in as_bytes x.bytes p.1.bytes (ap (λ (q : Bounds × Tabled). q.1.bytes) ok.1) h

keep_bytes : (cfg : ℕ) (x y : Tabled) (la v : ℕ) (b : Bounds) → tabled_keep cfg x la v b ≡ Ok y → AreBytes x.bytes → AreBytes y.bytes
unfolding tabled_keep
keep_bytes cfg x y la v b e h =
    let w = walked_ok (walk x.bytes cfg la) _ y e in
    let made = with_bytes x (with_entry x.bytes w.0 (entry_for v b)) in
    let ok = missing_ok (first_refused is_writable entry_size w.0) made y w.1 in
    as_bytes made.bytes y.bytes (ap (λ (z : Tabled). z.bytes) ok.1) (AreBytes-with_entry x.bytes w.0 (entry_for v b) h)

serve_bytes : (x y : Tabled) (entry_at : ℕ) → served_or_invalid entry_at (table_made x entry_at) ≡ Ok y → AreBytes x.bytes → AreBytes y.bytes
unfolding table_made with_next_table
serve_bytes x y entry_at e h = by_room (nat_lt x.made most_tables) e
  where
    by_room : (b : Bool) → served_or_invalid entry_at (option_map (λ bytes. record { bytes = bytes; made = x.made + 1 }) (cond b (Some (with_number 8 x.bytes entry_at (next_entry x.made))) None)) ≡ Ok y → AreBytes y.bytes
    by_room true k =
        let made : Tabled = record { bytes = with_number 8 x.bytes entry_at (next_entry x.made); made = x.made + 1 } in
        let same : made ≡ y = cc in
        as_bytes made.bytes y.bytes (ap (λ (z : Tabled). z.bytes) same) (AreBytes-with_number 8 x.bytes entry_at (next_entry x.made) h)
    by_room false k = absurd cc

-- what was answered over frames was answered without
record Answered (a : Result Tabled Refusal) (y : Backed) : Type 0 where
  made : Tabled
  is : a ≡ Ok made
  same : made.bytes ≡ y.tabled.bytes

answered : (x y : Backed) (touched : List ℕ) (a : Result Tabled Refusal) → backed_answer x touched a ≡ Ok y → Answered a y
answered x y touched (Err o) e = absurd cc
answered x y touched (Ok t) e = by_room (nat_lt x.capacity (frames_for touched)) e
  where
    by_room : (b : Bool) → cond b (Err (Lacks (frames_for x.touched) x.capacity)) (Ok (record { tabled = t; touched = touched; capacity = x.capacity })) ≡ Ok y → Answered (Ok t) y
    by_room true k = absurd cc
    by_room false k =
        let made : Backed = record { tabled = t; touched = touched; capacity = x.capacity } in
        let same : made ≡ y = cc in
        record { made = t; is = refl; same = ap (λ (z : Backed). z.tabled.bytes) same }

loaded : (x : Backed) (a : Result (Bounds × Tabled) Refusal) (p : Bounds × Backed) → loaded_beside x a ≡ Ok p → (q : Bounds × Tabled) × (a ≡ Ok q) × (q.1.bytes ≡ p.1.tabled.bytes)
loaded x (Err o) p e = absurd cc
loaded x (Ok q) p e =
    let made : Bounds × Backed = (q.0, record { tabled = q.1; touched = x.touched; capacity = x.capacity }) in
    let same : made ≡ p = cc in
    (q, refl, ap (λ (z : Bounds × Backed). z.1.tabled.bytes) same)

module _ (cfg outers : ℕ) (bare : Bool) where
  abbrev G : Ground Backed
  G = ground cfg outers bare

  backed_write_bytes : (x y : Backed) (at size v : ℕ) → backed_write x at size v ≡ Ok y → AreBytes x.tabled.bytes → AreBytes y.tabled.bytes
  unfolding backed_write
  backed_write_bytes x y at size v e h = let a = answered x y _ _ e in as_bytes a.made.bytes y.tabled.bytes a.same (write_bytes x.tabled a.made at size v a.is h)

  backed_load_bytes : (x : Backed) (la v : ℕ) (p : Bounds × Backed) → backed_load cfg x la v ≡ Ok p → AreBytes x.tabled.bytes → AreBytes p.1.tabled.bytes
  unfolding backed_load
  backed_load_bytes x la v p e h = let a = loaded x _ p e in as_bytes a.0.1.bytes p.1.tabled.bytes a.2 (load_bytes cfg x.tabled la v a.0 a.1 h)

  backed_keep_bytes : (x y : Backed) (la v : ℕ) (b : Bounds) → backed_keep cfg x la v b ≡ Ok y → AreBytes x.tabled.bytes → AreBytes y.tabled.bytes
  unfolding backed_keep
  backed_keep_bytes x y la v b e h = let a = answered x y _ _ e in as_bytes a.made.bytes y.tabled.bytes a.same (keep_bytes cfg x.tabled a.made la v b a.is h)

  backed_serve_bytes : (x y : Backed) (entry_at : ℕ) → table_backed x entry_at ≡ Ok y → AreBytes x.tabled.bytes → AreBytes y.tabled.bytes
  unfolding table_backed
  backed_serve_bytes x y entry_at e h = let a = answered x y _ _ e in as_bytes a.made.bytes y.tabled.bytes a.same (serve_bytes x.tabled a.made entry_at a.is h)

  backed_bytes_stay : (s : State Backed) → AreBytes s.memory.tabled.bytes → EventLeaves (λ t. AreBytes t.memory.tabled.bytes) (event G s)
  backed_bytes_stay s h = first (event G s) (event_keeps G (λ x y. AreBytes x.tabled.bytes → AreBytes y.tabled.bytes) (record {
    same = λ x k. k;
    join = λ x y z k l m. l (k m);
    write = backed_write_bytes;
    load = backed_load_bytes;
    keep = backed_keep_bytes;
    serve = λ x y entry_at lacks e. backed_serve_bytes x y entry_at e;
  }) (λ a b. Unit {0}) (no_guest G) s)
    where
      first : (e : Event Backed) → EventLeaves (λ t. (AreBytes s.memory.tabled.bytes → AreBytes t.memory.tabled.bytes) × Unit {0}) e → EventLeaves (λ t. AreBytes t.memory.tabled.bytes) e
      first (Goes turn t) k = k.0 h
      first (Stops turn why t) k = k.0 h

-- ---- images

-- the run of an image over frames is the same by each exact reader
pub framed_same : (reads : List ℕ → Reading) → IsReader reads → (s : Settings) (v : Image) → HaveBytes v.segments → (input : List ℕ) → framed_run v (mode_of s) s.frames s.turns input ≡ framed_run_by reads s v input
unfolding framed_run framed_run_by state_at_start
framed_same reads exact s v bytes input =
    run_same (ground (configuration s.preserve) v.outers s.bare) reads reader_reads exact (backed_bytes_stay (configuration s.preserve) v.outers s.bare) s.turns
    (over_frames (state_at_start v.segments s.preserve input) (touched_after [] v.segments) s.frames) (segments_bytes v.segments no_bytes (λ a. omega arith) bytes)
