-- Each instruction ends alike over a memory with the directory and the tables and over one with a store of bounds, if one stands for the
-- other and its accesses leave the directory and the tables to walks.
use Rattle.std.proofs.Common.{◌≡◌, ℕ, Bool, Option, Some, None, List, [], ◌∷◌, refl, ap, subst}
use Rattle.std.specs.Prelude.{Result, Ok, Err, ⊤}
use Rattle.mx_base.specs.declared.limits.Bounds.{Bounds}
use Rattle.mx_base.specs.Memory.{number_at, with_number, first_refused}
use Rattle.mx_base.specs.Regions.{is_readable, is_writable}
use Rattle.mx_base.proofs.MemoryLemmas.{first_refused-all, first_refused-none}
use Rattle.x86_forms.specs.declared.spans.Span.{Span}
use Rattle.x86_forms.specs.Processor.{Processor}
use Rattle.x86_forms.specs.Requests.{Program, Ends, Fails, Reads, Writes, Loads, Keeps, Outcome, Done, Failed, Refused, run, refused_with, either_way}
use Rattle.x86_forms.specs.TableLaws.{AsksFor, read_span, write_span}
use Rattle.obj_file.specs.Machine.{Refusal}
use Rattle.obj_file.specs.Loaded.{Tabled, with_bytes, unless_missing, configuration, status_after, tabled_read, tabled_write, tabled_store}
use Rattle.obj_file.specs.Stored.{Stored, stored_read, stored_write, stored_store}
use Rattle.obj_file.specs.StoreLaw.{AreWords, HoldsWords, StandsIn, AvoidsBounds}
use Rattle.obj_file.proofs.StoredPlaces.{writable_readable}
use Rattle.obj_file.proofs.StoredRequests.{reads_alike, written_stands, AnswersAlike, IsWanting, LoadsAlike, loads_alike, keeps_alike}
use Rattle.obj_file.proofs.StoredWords.{KeepWords}

-- each access avoids the directory and the tables, as far as those before it are done
abbrev pub Clear : List Span → Type 0
Clear [] = ⊤
Clear (s ∷ rest) = AvoidsBounds s × (first_refused is_readable s.size s.at ≡ None → Clear rest)

-- both end in the same way and with the same processor, over memories of which one stands for the other; a refused one has the registers
-- that it had
abbrev pub OutcomesAlike : (ℕ → ℕ) → Outcome Tabled Refusal → Outcome Stored Refusal → Type 0
OutcomesAlike regs (Done a x) (Done b y) = (a ≡ b) × StandsIn x y × HoldsWords a
OutcomesAlike regs (Failed f a x) (Failed g b y) = (f ≡ g) × (a ≡ b) × StandsIn x y × HoldsWords a
OutcomesAlike regs (Refused o a x) (Refused p b y) = (o ≡ p) × (a ≡ b) × StandsIn x y × HoldsWords a × IsWanting y o × (a.regs ≡ regs)
OutcomesAlike regs _ _ = ⊥

module _ (preserve : Bool) (c : Processor) (words : HoldsWords c) where
  abbrev tabled : Program → Tabled → Outcome Tabled Refusal
  tabled p x = run (tabled_store (configuration preserve)) c p x

  abbrev stored : Program → Stored → Outcome Stored Refusal
  stored p y = run (stored_store (configuration preserve)) c p y

  abbrev left : Refusal → Processor
  left o = refused_with (status_after o c.status) c

  after_read : (x : Tabled) (y : Stored) (o : Option ℕ) (v : ℕ) (b : Result ℕ Refusal) (f : ℕ → Program) → unless_missing o v ≡ b → StandsIn x y
      → (o ≡ None → OutcomesAlike c.regs (tabled (f v) x) (stored (f v) y))
      → OutcomesAlike c.regs (either_way (unless_missing o v) (λ v. tabled (f v) x) (λ e. Refused e (left e) x)) (either_way b (λ v. stored (f v) y) (λ e. Refused e (left e) y))
  after_read x y o v b f e h k = subst (λ (z : Result ℕ Refusal). OutcomesAlike c.regs (either_way (unless_missing o v) (λ v. tabled (f v) x) (λ e. Refused e (left e) x)) (either_way z (λ v. stored (f v) y) (λ e. Refused e (left e) y))) e
      (elim o as (λ q. o ≡ q → OutcomesAlike c.regs (either_way (unless_missing q v) (λ v. tabled (f v) x) (λ e. Refused e (left e) x)) (either_way (unless_missing q v) (λ v. stored (f v) y) (λ e. Refused e (left e) y))) [
        | None ↦ λ is. k is
        | Some at ↦ λ is. (refl, refl, h, words, tt, refl)
      ] refl)

  after_write : (x u : Tabled) (y v : Stored) (o : Option ℕ) (p : Program) → StandsIn x y → (o ≡ None → OutcomesAlike c.regs (tabled p u) (stored p v))
      → OutcomesAlike c.regs (either_way (unless_missing o u) (λ z. tabled p z) (λ e. Refused e (left e) x)) (either_way (unless_missing o v) (λ z. stored p z) (λ e. Refused e (left e) y))
  after_write x u y v o p h k =
      elim o as (λ q. o ≡ q → OutcomesAlike c.regs (either_way (unless_missing q u) (λ z. tabled p z) (λ e. Refused e (left e) x)) (either_way (unless_missing q v) (λ z. stored p z) (λ e. Refused e (left e) y))) [
        | None ↦ λ is. k is
        | Some at ↦ λ is. (refl, refl, h, words, tt, refl)
      ] refl

  wanting : (x : Tabled) (y : Stored) (o p : Refusal) → (o ≡ p) × IsWanting y o → StandsIn x y → OutcomesAlike c.regs (Refused o (left o) x) (Refused p (left p) y)
  wanting x y o p e h = (e.0, ap left e.0, h, words, e.1, refl)

  after_load : (x : Tabled) (y : Stored) (a : Result (Bounds × Tabled) Refusal) (b : Result (Bounds × Stored) Refusal) (f : Bounds → Program) → AnswersAlike LoadsAlike (IsWanting y) a b → StandsIn x y
      → ((z : Bounds) (u : Tabled) (v : Stored) → AreWords z → StandsIn u v → OutcomesAlike c.regs (tabled (f z) u) (stored (f z) v))
      → OutcomesAlike c.regs (either_way a (λ p. tabled (f p.0) p.1) (λ e. Refused e (left e) x)) (either_way b (λ p. stored (f p.0) p.1) (λ e. Refused e (left e) y))
  after_load x y (Ok p) (Ok q) f e h k = subst (λ (z : Bounds). OutcomesAlike c.regs (tabled (f p.0) p.1) (stored (f z) q.1)) e.0 (k p.0 p.1 q.1 e.2 e.1)
  after_load x y (Ok p) (Err o) f e h k = absurd e
  after_load x y (Err o) (Ok q) f e h k = absurd e
  after_load x y (Err o) (Err p) f e h k = wanting x y o p e h

  after_keep : (x : Tabled) (y : Stored) (a : Result Tabled Refusal) (b : Result Stored Refusal) (p : Program) → AnswersAlike StandsIn (IsWanting y) a b → StandsIn x y
      → ((u : Tabled) (v : Stored) → StandsIn u v → OutcomesAlike c.regs (tabled p u) (stored p v))
      → OutcomesAlike c.regs (either_way a (λ z. tabled p z) (λ e. Refused e (left e) x)) (either_way b (λ z. stored p z) (λ e. Refused e (left e) y))
  after_keep x y (Ok u) (Ok v) p e h k = k u v e
  after_keep x y (Ok u) (Err o) p e h k = absurd e
  after_keep x y (Err o) (Ok v) p e h k = absurd e
  after_keep x y (Err o) (Err q) p e h k = wanting x y o q e h

  abbrev First : List Span → Span → Type 0
  First rest s = AvoidsBounds s × (first_refused is_readable s.size s.at ≡ None → Clear rest)

  written_readable : (size at : ℕ) → first_refused is_writable size at ≡ None → first_refused is_readable size at ≡ None
  written_readable size at none = first_refused-all is_readable size at (λ z low high. writable_readable z (first_refused-none is_writable size at z none low high))

  -- a program that asks for such accesses
  pub runs_alike : (p : Program) (spans : List Span) (x : Tabled) (y : Stored) → AsksFor p spans → Clear spans → KeepWords p → StandsIn x y
      → OutcomesAlike c.regs (run (tabled_store (configuration preserve)) c p x) (run (stored_store (configuration preserve)) c p y)
  unfolding run tabled_read tabled_write stored_read stored_write
  runs_alike (Ends after) [] x y asks out keep h = (refl, h, keep)
  runs_alike (Ends after) (s ∷ rest) x y asks out keep h = absurd asks
  runs_alike (Fails fault last) [] x y asks out keep h = (refl, refl, h, keep)
  runs_alike (Fails fault last) (s ∷ rest) x y asks out keep h = absurd asks
  runs_alike (Reads at size implicit next) [] x y asks out keep h = absurd asks
  runs_alike (Reads at size implicit next) (s ∷ rest) x y asks out keep h =
      let first : First rest (read_span at size implicit) = subst (First rest) asks.0 out in
      after_read x y (first_refused is_readable size at) (number_at size x.bytes at) _ next (reads_alike x y (read_span at size implicit) h first.0) h
      (λ none. runs_alike (next (number_at size x.bytes at)) rest x y (asks.1 (number_at size x.bytes at)) (first.1 none) (keep (number_at size x.bytes at)) h)
  runs_alike (Writes at size value implicit next) [] x y asks out keep h = absurd asks
  runs_alike (Writes at size value implicit next) (s ∷ rest) x y asks out keep h =
      let first : First rest (write_span at size implicit) = subst (First rest) asks.0 out in
      after_write x (with_bytes x (with_number size x.bytes at value)) y (record { bytes = with_number size y.bytes at value; bounds = y.bounds }) (first_refused is_writable size at) next h
      (λ none. runs_alike next rest (with_bytes x (with_number size x.bytes at value)) (record { bytes = with_number size y.bytes at value; bounds = y.bounds }) asks.1
      (first.1 (written_readable size at none)) keep (written_stands x y (write_span at size implicit) value h first.0))
  runs_alike (Loads at value next) spans x y asks out keep h =
      after_load x y _ _ next (loads_alike x y preserve at value h) h (λ z u v small s. runs_alike (next z) spans u v (asks z) out (keep z small) s)
  runs_alike (Keeps at value b next) spans x y asks out keep h =
      after_keep x y _ _ next (keeps_alike x y preserve at value b h keep.0 keep.1) h (λ u v s. runs_alike next spans u v asks out keep.2 s)
