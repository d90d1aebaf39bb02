-- The run of code, an instruction at a time.
use Rattle.std.proofs.Common.{◌≡◌, ℕ, ◌+◌, ◌-◌, ◌%◌, ◌^◌, ◌<◌, List, [], ◌∷◌, ◌++◌, length, take, drop, refl, sym, ap, ◌∙◌, subst, arith, append_assoc, length-drop}
use Rattle.std.specs.Prelude.{Option, None, Some, Result, Ok, Err, ◌↔◌}
use Rattle.std.proofs.lemmas.List.{append-nil}
use Rattle.std.proofs.Math.Seq.{take-length}
use Rattle.mx_base.specs.Outside.{Adds, AddsFront}
use Rattle.x86_forms.specs.declared.instr.Instr.{Instr}
use Rattle.x86_forms.specs.EarlyEffects.{EarlyState, EarlyEffect, Goes, Sends, Ends, CodeEnd, Undefined, effect}
use Rattle.x86_forms.specs.EarlyCode.{CodeRun, CodeRuns, IsCodeOf, ended, then_run, program_run, next_address, started}
use Rattle.x86_decode.specs.declared.reader.Undecoded.{Undecoded}
use Rattle.x86_decode.specs.Reading.{BeginsWith}
use Rattle.x86_core.specs.declared.early.EarlyStop.{EarlyStop}
use Rattle.x86_core.specs.declared.early.EarlyStop.TheVariants as stops
use Rattle.x86_core.specs.declared.early.machine.Step.TheVariants.{End}
use Rattle.x86_core.specs.EarlyMachine.{TellsEnd, Does}
use Rattle.x86_core.specs.EarlyRuns.{EndsAs, RunsCode}
use Rattle.x86_core.proofs.EarlyPrograms.{ok, instr_in, size_in, Leads, OnlyFront, leads, none_left, size_is, some_bytes}

-- ---- what a sink holds

Adds-none : (old : Option (List ℕ)) → Adds old old []
Adds-none None = tt
Adds-none (Some bytes) = sym (append-nil bytes)

Adds-then : (a b c : Option (List ℕ)) (x y : List ℕ) → Adds a b x → Adds b c y → Adds a c (x ++ y)
Adds-then a b None x y p q = tt
Adds-then a None (Some c) x y p q = absurd q
Adds-then None (Some b) (Some c) x y p q = absurd p
Adds-then (Some a) (Some b) (Some c) x y p q = q ∙ ap (λ (l : List ℕ). l ++ y) p ∙ append_assoc a x y

-- ---- a run so far

-- what a run puts before it goes on as `rest` does, with what the sink held and holds
pub record SoFar (run : CodeRun) (held held' : Option (List ℕ)) (rest : CodeRun) : Type 0 where
  pub out : List ℕ
  pub adds : Adds held held' out
  pub is : run ≡ record { out = out ++ rest.out; ends = rest.ends }

SoFar-at : (run : CodeRun) (held held' : Option (List ℕ)) (rest rest' : CodeRun) → rest ≡ rest' → SoFar run held held' rest → SoFar run held held' rest'
SoFar-at run held held' rest rest' e s = subst (λ (r : CodeRun). SoFar run held held' r) e s

-- the run goes on with the bytes that are left, from this state
pub record Now (run : CodeRun) (held held' : Option (List ℕ)) (bytes : List ℕ) (s : EarlyState) : Type 0 where
  pub program : List Instr
  pub spells : IsCodeOf bytes program
  pub so_far : SoFar run held held' (program_run program s)

pub begun : (code : List ℕ) (size : ℕ) (run : CodeRun) (held : Option (List ℕ)) (s : EarlyState) → s ≡ started size → CodeRuns code size run → Now run held held code s
begun code size run held s e r = record {
  program = r.program;
  spells = r.spells;
  so_far = record { out = []; adds = Adds-none held; is = r.does ∙ ap (program_run r.program) (sym e) };
}

ended_as : (run : CodeRun) (e : CodeEnd) (held held' : Option (List ℕ)) → SoFar run held held' (ended e) → EndsAs run e held held'
ended_as run e held held' s = record {
  ends = ap (λ (x : CodeRun). x.ends) s.is;
  adds = subst (λ (l : List ℕ). Adds held held' l) (sym (ap (λ (x : CodeRun). x.out) s.is ∙ append-nil s.out)) s.adds;
}

-- nothing begins the bytes
pub nothing_left : (run : CodeRun) (held held' : Option (List ℕ)) (bytes : List ℕ) (s : EarlyState) → ((i : Instr) (n : ℕ) → BeginsWith bytes i n → ⊥) → Now run held held' bytes s → EndsAs run Undefined held held'
unfolding program_run
nothing_left run held held' bytes s none now =
    let end : program_run now.program s ≡ ended Undefined = rw (none_left bytes now.program none now.spells) refl in
    ended_as run Undefined held held' (SoFar-at run held held' _ _ end now.so_far)

-- ---- one instruction

abbrev refused : Undecoded → Result (Instr × ℕ) Undecoded
refused why = Err why

-- what the decoder's answer says of the bytes
pub front_only : (bytes : List ℕ) (i : Instr) (n : ℕ) → ((j : Instr) (m : ℕ) → (ok i n ≡ ok j m) ↔ BeginsWith bytes j m) → OnlyFront bytes i n
front_only bytes i n found = record {
  same = λ j m b. let f : ok i n ≡ ok j m = (found j m).1 b in sym (ap (instr_in j) f);
  size = λ j m b. let f : ok i n ≡ ok j m = (found j m).1 b in sym (ap size_in f);
}

pub no_front : (bytes : List ℕ) (why : Undecoded) → ((j : Instr) (m : ℕ) → (refused why ≡ ok j m) ↔ BeginsWith bytes j m) → (j : Instr) (m : ℕ) → BeginsWith bytes j m → ⊥
no_front bytes why found j m b = let f : refused why ≡ ok j m = (found j m).1 b in cc

-- one instruction was read, and the address after it computed
pub record Reading (bytes : List ℕ) (i : Instr) (n next : ℕ) (s : EarlyState) : Type 0 where
  pub begins : BeginsWith bytes i n
  pub only : OnlyFront bytes i n
  pub next_is : next_address i s ≡ next

pub reading : (bytes : List ℕ) (i : Instr) (n next : ℕ) (s : EarlyState) → ((j : Instr) (m : ℕ) → (ok i n ≡ ok j m) ↔ BeginsWith bytes j m) → next ≡ (s.processor.rip + n) % 2 ^ 64 → Reading bytes i n next s
unfolding next_address
reading bytes i n next s found e =
    let b = (found i n).0 refl in
    record { begins = b; only = front_only bytes i n found; next_is = rw (size_is bytes i n b) (sym e) }

run_first : (program left : List Instr) (i : Instr) (next : ℕ) (s : EarlyState) → program ≡ i ∷ left → next_address i s ≡ next → program_run program s ≡ then_run (effect i next s) (program_run left)
unfolding program_run
run_first program left i next s e f = rw (e, f) refl

-- the bytes after the first n, as a slice has them
abbrev pub after : ℕ → List ℕ → List ℕ
after n bytes = take (length bytes - n) (drop n bytes)

after_is : (n : ℕ) (bytes : List ℕ) → after n bytes ≡ drop n bytes
after_is n bytes = ap (λ (k : ℕ). take k (drop n bytes)) (sym (length-drop n bytes)) ∙ take-length (drop n bytes)

pub after_less : (bytes : List ℕ) (i : Instr) (n : ℕ) → BeginsWith bytes i n → length (after n bytes) < length bytes
after_less bytes i n b =
    let l : length (after n bytes) ≡ length bytes - n = ap length (after_is n bytes) ∙ length-drop n bytes in
    omega (arith, some_bytes bytes i n b, b.within)

module _ (run : CodeRun) (held held' : Option (List ℕ)) (bytes : List ℕ) (i : Instr) (n next : ℕ) (s : EarlyState) (r : Reading bytes i n next s) (now : Now run held held' bytes s) where
  front : Leads bytes now.program i n
  front = leads bytes now.program i n r.begins r.only now.spells

  step : program_run now.program s ≡ then_run (effect i next s) (program_run front.left)
  step = run_first now.program front.left i next s front.is r.next_is

  left_spells : IsCodeOf (after n bytes) front.left
  left_spells = subst (λ (xs : List ℕ). IsCodeOf xs front.left) (sym (after_is n bytes)) front.spells

  here : (e : EarlyEffect) → effect i next s ≡ e → SoFar run held held' (then_run e (program_run front.left))
  here e is = SoFar-at run held held' _ _ (step ∙ ap (λ (x : EarlyEffect). then_run x (program_run front.left)) is) now.so_far

  pub goes_on : (t : EarlyState) → effect i next s ≡ Goes t → Now run held held' (after n bytes) t
  goes_on t e = record { program = front.left; spells = left_spells; so_far = here (Goes t) e }

  pub sends_on : (b : ℕ) (t : EarlyState) (held'' : Option (List ℕ)) → effect i next s ≡ Sends b t → Adds held' held'' (b ∷ []) → Now run held held'' (after n bytes) t
  sends_on b t held'' e adds =
      let at = here (Sends b t) e in
      let rest = program_run front.left t in
      record {
        program = front.left;
        spells = left_spells;
        so_far = record {
          out = at.out ++ b ∷ [];
          adds = Adds-then held held' held'' at.out (b ∷ []) at.adds adds;
          is = at.is ∙ ap (λ (l : List ℕ). record { out = l; ends = rest.ends }) (sym (append_assoc at.out (b ∷ []) rest.out));
        };
      }

  pub fault : (b : ℕ) (t : EarlyState) (held'' : Option (List ℕ)) → effect i next s ≡ Sends b t → Adds held' held'' [] → AddsFront held held'' run.out
  fault b t held'' e adds =
      let at = here (Sends b t) e in
      record {
        front = at.out;
        rest = b ∷ (program_run front.left t).out;
        splits = ap (λ (x : CodeRun). x.out) at.is;
        adds = subst (λ (l : List ℕ). Adds held held'' l) (append-nil at.out) (Adds-then held held' held'' at.out [] at.adds adds);
      }

  pub ends_here : (e : CodeEnd) → effect i next s ≡ Ends e → EndsAs run e held held'
  ends_here e is = ended_as run e held held' (here (Ends e) is)

-- ---- stops

-- a step that ended the run, by the end that its effect tells of
pub record Stopped (e : EarlyEffect) (stop : EarlyStop) : Type 0 where
  pub end : CodeEnd
  pub is : e ≡ Ends end
  pub tells : TellsEnd stop end

pub stopped : (e : EarlyEffect) (stop : EarlyStop) (s : EarlyState) → Does e (End stop) s → Stopped e stop
stopped (Ends end) stop s d = record { end = end; is = refl; tells = d }
stopped (Goes t) stop s d = absurd d
stopped (Sends b t) stop s d = absurd d

pub runs_code : (run : CodeRun) (held held' : Option (List ℕ)) (stop : EarlyStop) (e : CodeEnd) → TellsEnd stop e → EndsAs run e held held' → RunsCode run held held' (Ok stop)
runs_code run held held' (stops.Exit code) e tells ends = subst (λ (x : CodeEnd). EndsAs run x held held') tells ends
runs_code run held held' (stops.Bounds value lb ub) e tells ends = subst (λ (x : CodeEnd). EndsAs run x held held') tells ends
runs_code run held held' stops.Unmapped e tells ends = subst (λ (x : CodeEnd). EndsAs run x held held') tells ends
runs_code run held held' stops.Undefined e tells ends = subst (λ (x : CodeEnd). EndsAs run x held held') tells ends
runs_code run held held' stops.WriteFault e tells ends = absurd tells
