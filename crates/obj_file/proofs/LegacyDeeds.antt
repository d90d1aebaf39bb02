-- An instruction of legacy code does alike over the world and on the machine, its serving included.
use Rattle.std.specs.Prelude.{Result, Ok, Err}
use Rattle.std.proofs.Common.{◌≡◌, ℕ, ◌*◌, ◌-◌, ◌/◌, ◌<◌, ◌^◌, Bool, true, false, Option, None, Some, List, [], ◌∷◌, refl, ap, ◌∙◌, sym, subst, arith}
use Rattle.std.specs.Option.{option_map}
use Rattle.mx_base.specs.declared.limits.Bounds.{Bounds}
use Rattle.mx_base.specs.declared.stops.Stop.{Stop}
use Rattle.mx_base.specs.BoundsStore.{BoundsStore, touch, touched_with, with_touched, megabyte}
use Rattle.mx_base.specs.Services.{Guest}
use Rattle.x86_forms.specs.declared.instr.Instr.{Instr}
use Rattle.x86_forms.specs.declared.spans.Span.{Span}
use Rattle.x86_forms.specs.Accesses.{accesses}
use Rattle.x86_forms.specs.Processor.{Processor}
use Rattle.x86_forms.specs.Requests.{Program, Ends, Fails, Reads, Writes, Loads, Keeps, Outcome, Done, Failed, Refused, run}
use Rattle.x86_forms.specs.Table.{row}
use Rattle.x86_forms.specs.TableLaws.{AsksFor}
use Rattle.x86_forms.specs.Validity.{valid_of}
use Rattle.x86_forms.proofs.TableAccesses.{asks_row}
use Rattle.obj_file.specs.Loaded.{configuration}
use Rattle.obj_file.specs.Machine.{Reading, Refusal, Misses, Invalid, Lacks, Ground, State, Deed, Does, Halts, fault_stop, refusal_stop, left_by, ended, restarted, served_or_ended, executed, served_or_invalid}
use Rattle.obj_file.specs.Stored.{Stored, stored_ground, with_store, stored_store, megabyte_touched, address_of_entry}
use Rattle.obj_file.specs.StoreLaw.{AreWords, HoldsWords, KeepsWords}
use Rattle.obj_file.proofs.StoredWords.{KeepWords, row_words}
use Rattle.obj_file.specs.LegacyEvents.{Like, SameUnsealed, SameSealed, StatesLike}
use Rattle.obj_file.proofs.LegacyPrograms.{LikeProgram, rows_like}
use Rattle.obj_file.proofs.LegacyRows.{Clear, Alike, runs_blind}

abbrev pub DeedsLike : Stored → Deed Stored → Deed Stored → Type 0
DeedsLike x (Does s) (Does t) = StatesLike x s t
DeedsLike x (Halts why s) (Halts also t) = (why ≡ also) × StatesLike x s t
DeedsLike x _ _ = ⊥

module _ (reads : List ℕ → Reading) (outers : ℕ) (preserve : Bool) (i : Instr) (next : ℕ) (ok : valid_of i ≡ true) (small : next < 2 ^ 64) (s t : State Stored) (x : Stored) (rip : s.processor.rip ≡ t.processor.rip) (guest : t.guest ≡ s.guest)
    (clear : Clear (accesses i next t.processor.regs)) where
  abbrev G : Ground Stored
  G = stored_ground reads outers record { preserve = preserve; bare = false }

  left_like : (a b : Processor) (y z : Stored) → Like a b → SameUnsealed y z → SameSealed x z → HoldsWords b → StatesLike x (left_by s a y) (left_by t b z)
  left_like a b y z like same left words = record { like = like; same = same; left = left; words = words; guest = guest }

  ended_like : (regs : ℕ → ℕ) (o p : Outcome Stored Refusal) → Alike regs x o p → DeedsLike x (ended s o) (ended t p)
  ended_like regs (Done a y) (Done b z) h = left_like a b y z h.0 h.1 h.2 h.3
  ended_like regs (Failed f a y) (Failed g b z) h = ((λ j. fault_stop (rip j) (h.0 j)), left_like a b y z h.1 h.2 h.3 h.4)
  ended_like regs (Refused o a y) (Refused p b z) h = (ap refusal_stop h.0, left_like a b y z h.1 h.2 h.3 h.4)
  ended_like regs o p h = absurd h

  row_like : (a b : Processor) (y z : Stored) → b.regs ≡ t.processor.regs → Like a b → HoldsWords b → SameUnsealed y z → SameSealed x z
      → Alike b.regs x (run G.store a (row i next a) y) (run G.store b (row i next b) z)
  row_like a b y z regs like words same left =
      runs_blind (configuration preserve) a b like words x (row i next a) (row i next b) (accesses i next b.regs) y z (rows_like a b next like i ok) (row_words i next b ok small words) (asks_row i next b)
      (subst (λ (r : ℕ → ℕ). Clear (accesses i next r)) (sym regs) clear) same left

  -- what is served is the same, since it is seen from the store alone
  touched_like : (a b : Processor) (y z : Stored) (e f : ℕ) (o : Option (List ℕ)) → b.regs ≡ t.processor.regs → Like a b → HoldsWords b → SameUnsealed y z → SameSealed x z
      → DeedsLike x (restarted G i next s a y (served_or_invalid e (option_map (with_store y) (option_map (with_touched z.bounds) o)))) (restarted G i next t b z (served_or_invalid f (option_map (with_store z) (option_map (with_touched z.bounds) o))))
  touched_like a b y z e f None regs like words same left = (refl, left_like a b y z like same left words)
  touched_like a b y z e f (Some l) regs like words same left = ended_like b.regs _ _
      (row_like a b (with_store y (with_touched z.bounds l)) (with_store z (with_touched z.bounds l)) regs like words (record { unsealed = same.unsealed; bounds = refl })
      (record { sealed = left.sealed; each_byte = left.each_byte; kept_words = left.kept_words }))

  served_like : (o p : Outcome Stored Refusal) → Alike t.processor.regs x o p → DeedsLike x (served_or_ended G i next s o) (served_or_ended G i next t p)
  unfolding megabyte_touched
  served_like (Refused (Invalid e) a y) (Refused (Invalid f) b z) h =
      let same : e ≡ f = cc (h.0) in
      subst (λ (n : ℕ). DeedsLike x (restarted G i next s a y (served_or_invalid n (option_map (with_store y) (touch y.bounds (address_of_entry n))))) (restarted G i next t b z (served_or_invalid f (option_map (with_store z) (touch z.bounds (address_of_entry f)))))) (sym same)
      (subst (λ (q : BoundsStore). DeedsLike x (restarted G i next s a y (served_or_invalid f (option_map (with_store y) (touch q (address_of_entry f))))) (restarted G i next t b z (served_or_invalid f (option_map (with_store z) (touch z.bounds (address_of_entry f)))))) h.2.bounds
      (touched_like a b y z f f (touched_with z.bounds.touched (megabyte (address_of_entry f))) h.5 h.1 h.4 h.2 h.3))
  served_like (Refused (Misses m) a y) (Refused (Misses n) b z) h = ended_like t.processor.regs (Refused (Misses m) a y) (Refused (Misses n) b z) h
  served_like (Refused (Lacks u m) a y) (Refused (Lacks v n) b z) h = ended_like t.processor.regs (Refused (Lacks u m) a y) (Refused (Lacks v n) b z) h
  served_like (Refused (Misses m) a y) (Refused (Invalid f) b z) h = let no = h.0 in absurd (cc)
  served_like (Refused (Misses m) a y) (Refused (Lacks v n) b z) h = let no = h.0 in absurd (cc)
  served_like (Refused (Invalid e) a y) (Refused (Misses n) b z) h = let no = h.0 in absurd (cc)
  served_like (Refused (Invalid e) a y) (Refused (Lacks v n) b z) h = let no = h.0 in absurd (cc)
  served_like (Refused (Lacks u m) a y) (Refused (Misses n) b z) h = let no = h.0 in absurd (cc)
  served_like (Refused (Lacks u m) a y) (Refused (Invalid f) b z) h = let no = h.0 in absurd (cc)
  served_like (Done a y) (Done b z) h = ended_like t.processor.regs (Done a y) (Done b z) h
  served_like (Failed f a y) (Failed g b z) h = ended_like t.processor.regs (Failed f a y) (Failed g b z) h
  served_like o p h = absurd h

  -- an instruction whose accesses are not sealed is executed alike
  pub executed_like : Like s.processor t.processor → HoldsWords t.processor → SameUnsealed s.memory t.memory → SameSealed x t.memory → DeedsLike x (executed G i next s) (executed G i next t)
  unfolding executed
  executed_like like words same left = served_like _ _ (row_like s.processor t.processor s.memory t.memory refl like words same left)
