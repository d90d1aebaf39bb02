-- A program of requests over bytes and frames, and over the bytes alone.
use Rattle.std.proofs.Common.{ℕ, Bool, true, false, nat_lt, List, refl}
use Rattle.std.specs.Prelude.{Option, Some, None, Ok, Err, if◌then◌else◌}
use Rattle.mx_base.specs.Bounds.{full_bounds}
use Rattle.mx_base.specs.Regions.{is_readable, is_writable}
use Rattle.mx_base.specs.Memory.{Bytes, number_at, with_number, first_refused}
use Rattle.paged_memory.specs.declared.stops.MemStop.TheVariants.{NoFrames}
use Rattle.paged_memory.specs.Answers.{unless_refused, load_answer, store_answer}
use Rattle.paged_memory.specs.Touched.{touched_by, frames_for}
use Rattle.x86_forms.specs.Processor.{Processor}
use Rattle.x86_forms.specs.Requests.{Program, Ends, Fails, Reads, Writes, Loads, Keeps, Refused, run, either_way}
use Rattle.x86_forms.proofs.TableKeeps.{IsLast, IsTidy}
use Rattle.paged_memory.specs.Framed.{Framed}
use Rattle.x86_core.specs.Framed.{framed, unframed, framed_answer, framed_write, SameOverBytes}

module _ (c : Processor) (Q : Processor → Type 0) where
  last : (p : Program) (x : Framed) → IsLast Q p → SameOverBytes (run framed c p x) (run unframed c p x.bytes)
  unfolding run
  last (Ends after) x h = refl
  last (Fails fault left) x h = absurd h
  last (Reads at size implicit next) x h = absurd h
  last (Writes at size value implicit next) x h = absurd h
  last (Loads at value next) x h = absurd h
  last (Keeps at value b next) x h = absurd h

  read : (x : Framed) (refused : Option ℕ) (v : ℕ) (next : ℕ → Program) → ((v : ℕ) → SameOverBytes (run framed c (next v) x) (run unframed c (next v) x.bytes)) → SameOverBytes (either_way (unless_refused refused v) (λ v. run framed c (next v) x) (λ o. Refused o c x)) (either_way (unless_refused refused v) (λ v. run unframed c (next v) x.bytes) (λ o. Refused o c x.bytes))
  read x None v next h = h v
  read x (Some a) v next h = refl

  short : (x : Framed) (bytes : Bytes) (touched : List ℕ) (few : Bool) (next : Program) → IsLast Q next → SameOverBytes (either_way (if few then Err (NoFrames (frames_for x.touched) x.capacity) else Ok (record { bytes = bytes; touched = touched; capacity = x.capacity })) (λ y. run framed c next y) (λ o. Refused o c x)) (run unframed c next bytes)
  unfolding run
  short x bytes touched true (Ends after) h = tt
  short x bytes touched true (Fails fault left) h = absurd h
  short x bytes touched true (Reads at size implicit next) h = absurd h
  short x bytes touched true (Writes at size value implicit next) h = absurd h
  short x bytes touched true (Loads at value next) h = absurd h
  short x bytes touched true (Keeps at value b next) h = absurd h
  short x bytes touched false next h = last next (record { bytes = bytes; touched = touched; capacity = x.capacity }) h

  write : (x : Framed) (refused : Option ℕ) (bytes : Bytes) (touched : List ℕ) (next : Program) → IsLast Q next → SameOverBytes (either_way (framed_answer x touched (unless_refused refused bytes)) (λ y. run framed c next y) (λ o. Refused o c x)) (either_way (unless_refused refused bytes) (λ bytes. run unframed c next bytes) (λ o. Refused o c x.bytes))
  write x None bytes touched next h = short x bytes touched (nat_lt x.capacity (frames_for touched)) next h
  write x (Some a) bytes touched next h = refl

  pub tidy_over_bytes : (p : Program) (x : Framed) → IsTidy c Q p → SameOverBytes (run framed c p x) (run unframed c p x.bytes)
  unfolding run load_answer store_answer framed_write
  tidy_over_bytes (Ends after) x h = refl
  tidy_over_bytes (Fails fault left) x h = refl
  tidy_over_bytes (Reads at size implicit next) x h = read x (first_refused is_readable size at) (number_at size x.bytes at) next (λ v. tidy_over_bytes (next v) x (h v))
  tidy_over_bytes (Writes at size value implicit next) x h = write x (first_refused is_writable size at) (with_number size x.bytes at value) (touched_by size at x.touched) next h
  tidy_over_bytes (Loads at value next) x h = last (next full_bounds) x (h full_bounds)
  tidy_over_bytes (Keeps at value b next) x h = last next x h
