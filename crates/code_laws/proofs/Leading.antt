-- How an instruction leads from one view to another.
use Rattle.code_laws.specs.Runs.{Leads as LeadsTo, Ended as EndedBy, RunsOut as EndsOut}
use Rattle.std.specs.Prelude.{nat_le, if◌then◌else◌, Ok, Err}
use Rattle.std.proofs.Common.{◌≡◌, ℕ, zero, suc, ◌<◌, Bool, true, false, None, Some, List, [], ◌∷◌, ◌++◌, refl, arith, ap, ◌∙◌, sym, subst}
use Rattle.std.proofs.lemmas.Bool.Decides.{nat_tests}
use Rattle.mx_base.specs.declared.limits.Bounds.{Bounds}
use Rattle.mx_base.specs.declared.stops.Stop.{Stop}
use Rattle.mx_base.specs.declared.stops.Stop.TheVariants as stop
use Rattle.mx_base.specs.Outside.{one_more}
use Rattle.mx_base.specs.World.{World, Access}
use Rattle.x86_forms.specs.declared.instr.Instr.{Instr}
use Rattle.x86_forms.specs.Accesses.{accesses, reach_of}
use Rattle.x86_forms.specs.Processor.{Processor}
use Rattle.x86_forms.specs.Requests.{Program, Ends, Fails, Reads, Writes, Loads, Keeps, Fault, run}
use Rattle.x86_forms.specs.Table.{row}
use Rattle.obj_file.specs.Machine.{Misses, Invalid, Ground, State, Does, Halts, Goes, executed, reach_strays, reading_at, fault_stop, event}
use Rattle.obj_file.specs.Runs.{c_accesses_by, c_accesses_among}
use Rattle.obj_file.specs.Stored.{Stored}
use Rattle.code_laws.specs.Views.{View, Came, On, Turn, Over, jumped}
use Rattle.code_laws.specs.Seen.{Setting, IsSetting, machine_of, Seen, state_of}
use Rattle.code_laws.specs.Laid.{Stands}
use Rattle.code_laws.proofs.Events.{whole_quiet, whole_turn, whole_out, whole_stop, IsOrdinary, event_goes, event_halts, event_strays, inside_code, clean_next, no_service_reads}
use Rattle.code_laws.specs.Runs.{Whole, whole}
use Rattle.obj_file.specs.Finals.{clean_now, all_keep_out}
use Rattle.code_laws.proofs.Fetching.{next_of}

pub append_none : (l : List Access) → l ++ [] ≡ l
append_none [] = refl
append_none (x ∷ l) = ap (λ (r : List Access). x ∷ r) (append_none l)

-- ---- execution

module _ {X : Type 0} (g : Ground X) (i : Instr) (next : ℕ) (s : State X) where
  pub executed_ends : (c : Processor) → row i next s.processor ≡ Ends c → executed g i next s ≡ Does (record s { processor = c })
  unfolding executed run
  executed_ends c e = rw e refl

  pub executed_fails : (f : Fault) (c : Processor) → row i next s.processor ≡ Fails f c → executed g i next s ≡ Halts (fault_stop s.processor.rip f) (record s { processor = c })
  unfolding executed run
  executed_fails f c e = rw e refl

  pub executed_reads : (at size v : ℕ) (implicit : Bool) (p : ℕ → Program) (c : Processor) → row i next s.processor ≡ Reads at size implicit p → g.store.read s.memory at size ≡ Ok v → p v ≡ Ends c
      → executed g i next s ≡ Does (record s { processor = c })
  unfolding executed run
  executed_reads at size v implicit p c e r f = rw (e, r, f) refl

  pub executed_misread : (at size x : ℕ) (implicit : Bool) (p : ℕ → Program) → row i next s.processor ≡ Reads at size implicit p → g.store.read s.memory at size ≡ Err (Misses x)
      → executed g i next s ≡ Halts (stop.Unmapped x) (record s { processor = record s.processor { status = g.store.status (Misses x) s.processor.status } })
  unfolding executed run
  executed_misread at size x implicit p e r = rw (e, r) refl

  pub executed_writes : (at size v : ℕ) (implicit : Bool) (c : Processor) (y : X) → row i next s.processor ≡ Writes at size v implicit (Ends c) → g.store.write s.memory at size v ≡ Ok y
      → executed g i next s ≡ Does (record s { processor = c; memory = y })
  unfolding executed run
  executed_writes at size v implicit c y e r = rw (e, r) refl

  pub executed_miswritten : (at size v x : ℕ) (implicit : Bool) (p : Program) → row i next s.processor ≡ Writes at size v implicit p → g.store.write s.memory at size v ≡ Err (Misses x)
      → executed g i next s ≡ Halts (stop.Unmapped x) (record s { processor = record s.processor { status = g.store.status (Misses x) s.processor.status } })
  unfolding executed run
  executed_miswritten at size v x implicit p e r = rw (e, r) refl

module _ {X : Type 0} (g : Ground X) (i : Instr) (next : ℕ) (s : State X) where
  -- the processor once an entry names no table
  abbrev pub untold : ℕ → Processor
  untold e = record s.processor { status = g.store.status (Invalid e) s.processor.status }

  pub executed_loads : (at value : ℕ) (f : Bounds → Program) (b : Bounds) (y : X) (c : Processor) → row i next s.processor ≡ Loads at value f → g.store.load s.memory at value ≡ Ok (b, y) → f b ≡ Ends c
      → executed g i next s ≡ Does (record s { processor = c; memory = y })
  unfolding executed run
  executed_loads at value f b y c e r k = rw (e, r, k) refl

  pub executed_loads_served : (at value e : ℕ) (f k : Bounds → Program) (x : X) (b : Bounds) (y : X) (c : Processor) → row i next s.processor ≡ Loads at value f → g.store.load s.memory at value ≡ Err (Invalid e) → g.serve s.memory e ≡ Ok x
      → row i next (untold e) ≡ Loads at value k → g.store.load x at value ≡ Ok (b, y) → k b ≡ Ends c → executed g i next s ≡ Does (record s { processor = c; memory = y })
  unfolding executed run
  executed_loads_served at value e f k x b y c is r served again load ends = rw (is, r, served, again, load, ends) refl

  pub executed_loads_never : (at value e : ℕ) (f : Bounds → Program) → row i next s.processor ≡ Loads at value f → g.store.load s.memory at value ≡ Err (Invalid e) → g.serve s.memory e ≡ Err (Invalid e)
      → executed g i next s ≡ Halts stop.NoTable (record s { processor = untold e })
  unfolding executed run
  executed_loads_never at value e f is r served = rw (is, r, served) refl

  pub executed_keeps : (at value : ℕ) (b : Bounds) (p : Program) (y : X) (c : Processor) → row i next s.processor ≡ Keeps at value b p → g.store.keep s.memory at value b ≡ Ok y → p ≡ Ends c
      → executed g i next s ≡ Does (record s { processor = c; memory = y })
  unfolding executed run
  executed_keeps at value b p y c e r k = rw (e, r, k) refl

  pub executed_keeps_served : (at value e : ℕ) (b : Bounds) (p q : Program) (x y : X) (c : Processor) → row i next s.processor ≡ Keeps at value b p → g.store.keep s.memory at value b ≡ Err (Invalid e) → g.serve s.memory e ≡ Ok x
      → row i next (untold e) ≡ Keeps at value b q → g.store.keep x at value b ≡ Ok y → q ≡ Ends c → executed g i next s ≡ Does (record s { processor = c; memory = y })
  unfolding executed run
  executed_keeps_served at value e b p q x y c is r served again keep ends = rw (is, r, served, again, keep, ends) refl

  pub executed_keeps_never : (at value e : ℕ) (b : Bounds) (p : Program) → row i next s.processor ≡ Keeps at value b p → g.store.keep s.memory at value b ≡ Err (Invalid e) → g.serve s.memory e ≡ Err (Invalid e)
      → executed g i next s ≡ Halts stop.NoTable (record s { processor = untold e })
  unfolding executed run
  executed_keeps_never at value e b p is r served = rw (is, r, served) refl

-- ---- what a run comes to

abbrev pub with_turns : ℕ → View → View
with_turns n v = record v { world = record v.world { turns = n } }

module _ (S : Setting) where
  abbrev whole_of : View → Stored → ℕ → Whole Stored
  whole_of v y n = whole (machine_of S) v.world.turns v.world.accesses (state_of v y n)

  abbrev Leads : Whole Stored → View → Type 0
  Leads out v = LeadsTo S out v

  abbrev RunsOut : Whole Stored → World → Type 0
  RunsOut out w = EndsOut S out w

  abbrev pub Turned : Whole Stored → ℕ → View → Type 0
  Turned out zero v = RunsOut out v.world
  Turned out (suc n) v = Leads out (with_turns n v)

  abbrev pub After : Whole Stored → Came → Type 0
  After out (On v) = Leads out v
  After out (Turn v) = Turned out v.world.turns v
  After out (Over why w) = EndedBy S out why w

  -- what holds of the run from there holds of the run
  pub leads_then : (P : Whole Stored → Type 0) (out : Whole Stored) (v : View) → Leads out v → ((y : Stored) (n : ℕ) → Seen S v y → P (whole_of v y n)) → P out
  leads_then P out v h go = subst P (sym h.same) (go h.memory h.steps h.seen)

module _ (S : Setting) (ok : IsSetting S) where
  -- the instruction at a view
  pub record Here (v : View) (y : Stored) (i : Instr) (next : ℕ) : Type 0 where
    pub seen : Seen S v y
    pub stands : Stands S.code v.processor.rip i next
    pub ordinary : IsOrdinary (machine_of S) refl i
    pub out : all_keep_out false i v.processor.rip (accesses i next v.processor.regs) ≡ true

  pub clean_here : (v : View) (y : Stored) (n : ℕ) (i : Instr) (next : ℕ) → Here v y i next → clean_now (machine_of S) (state_of v y n) ≡ true
  clean_here v y n i next h = clean_next (machine_of S) refl (state_of v y n) i next (next_of S ok v y n i next h.seen h.stands) (no_service_reads (machine_of S) refl (state_of v y n) i h.ordinary.service) h.out

  pub c_accesses_next : (v : View) (y : Stored) (n : ℕ) (i : Instr) (next : ℕ) (now : List Access) → Here v y i next → c_accesses_among i (accesses i next v.processor.regs) ≡ now
      → c_accesses_by (state_of v y n) (reading_at (machine_of S) (state_of v y n)) ≡ now
  c_accesses_next v y n i next now h is =
      let next_one = next_of S ok v y n i next h.seen h.stands in
      rw (next_one.reads, inside_code v.processor.rip next_one.low next_one.high, next_one.is_next) is

  pub goes_on : (v u : View) (y z : Stored) (n next : ℕ) (i : Instr) (now : List Access) → Here v y i next
      → reach_strays i v.processor.rip (reach_of (accesses i next v.processor.regs)) ≡ None → c_accesses_among i (accesses i next v.processor.regs) ≡ now
      → executed (machine_of S) i next (state_of v y n) ≡ Does (record { processor = u.processor; memory = z; guest = u.world.guest; steps = n })
      → v.processor.rip < u.processor.rip → u.world.turns ≡ v.world.turns → u.world.accesses ≡ v.world.accesses ++ now → Seen S u z
      → Leads S (whole_of S v y n) u
  goes_on v u y z n next i now h fine by is forward turns made seen =
      let next_one = next_of S ok v y n i next h.seen h.stands in
      let t : State Stored = state_of u z n in
      let later : nat_le u.processor.rip v.processor.rip ≡ false = grind (arith, nat_tests) in
      let e : event (machine_of S) (state_of v y n) ≡ Goes false (state_of u z (one_more n)) =
      event_goes (machine_of S) refl (state_of v y n) t i next next_one h.ordinary fine is ∙ ap (λ (b : Bool). Goes b (state_of u z (one_more n))) later in
      record {
        memory = z;
        steps = one_more n;
        same = whole_quiet (machine_of S) v.world.turns v.world.accesses now (state_of v y n) (state_of u z (one_more n)) e (c_accesses_next v y n i next now h by) (clean_here v y n i next h)
            ∙ (λ j. whole (machine_of S) (sym turns j) (sym made j) (state_of u z (one_more n)));
        seen = seen;
      }

  -- the same where no access of C is made, and the world stays
  pub goes_quiet : (v : View) (c : Processor) (slots : ℕ → ℕ) (y z : Stored) (n next : ℕ) (i : Instr) → Here v y i next
      → reach_strays i v.processor.rip (reach_of (accesses i next v.processor.regs)) ≡ None → c_accesses_among i (accesses i next v.processor.regs) ≡ []
      → executed (machine_of S) i next (state_of v y n) ≡ Does (record { processor = c; memory = z; guest = v.world.guest; steps = n })
      → v.processor.rip < c.rip → Seen S (record { processor = c; slots = slots; world = v.world }) z
      → Leads S (whole_of S v y n) (record { processor = c; slots = slots; world = v.world })
  goes_quiet v c slots y z n next i h fine by is forward seen =
      goes_on v (record { processor = c; slots = slots; world = v.world }) y z n next i [] h fine by is forward refl (sym (append_none v.world.accesses)) seen

  turned_on : (v : View) (y : Stored) (n next target : ℕ) (i : Instr) (turns : ℕ) → v.world.turns ≡ turns → Here v y i next → c_accesses_among i (accesses i next v.processor.regs) ≡ []
      → event (machine_of S) (state_of v y n) ≡ Goes true (state_of (record v { processor = record v.processor { rip = target } }) y (one_more n))
      → Seen S (record v { processor = record v.processor { rip = target } }) y
      → Turned S (whole (machine_of S) turns v.world.accesses (state_of v y n)) turns (record v { processor = record v.processor { rip = target } })
  turned_on v y n next target i zero left h by e seen = record {
    last = state_of v y n;
    is = whole_out (machine_of S) v.world.accesses (state_of v y n) _ e (clean_here v y n i next h);
    guest = refl;
    store = h.seen.memory.store;
  }
  turned_on v y n next target i (suc turns) left h by e seen =
      let u : View = with_turns turns (record v { processor = record v.processor { rip = target } }) in
      record {
        memory = y;
        steps = one_more n;
        same = whole_turn (machine_of S) turns v.world.accesses [] (state_of v y n) _ e (c_accesses_next v y n i next [] h by) (clean_here v y n i next h)
            ∙ ap (λ (l : List Access). whole (machine_of S) turns l (state_of u y (one_more n))) (append_none v.world.accesses);
        seen = record { memory = record { open_bytes = seen.memory.open_bytes; store = seen.memory.store; frame = seen.memory.frame; frozen = seen.memory.frozen; code = seen.memory.code; data_cell = seen.memory.data_cell; legacy_cell = seen.memory.legacy_cell; depth_cell = seen.memory.depth_cell; each_byte = seen.memory.each_byte; kept_words = seen.memory.kept_words; guest_fits = seen.memory.guest_fits }; words = seen.words; stack = seen.stack; preserve = seen.preserve; far = seen.far };
      }

  -- a jump, which takes a turn unless it leads forward
  pub jump_goes : (v : View) (y : Stored) (n next target : ℕ) (i : Instr) → Here v y i next
      → reach_strays i v.processor.rip (reach_of (accesses i next v.processor.regs)) ≡ None → c_accesses_among i (accesses i next v.processor.regs) ≡ []
      → executed (machine_of S) i next (state_of v y n) ≡ Does (state_of (record v { processor = record v.processor { rip = target } }) y n)
      → Seen S (record v { processor = record v.processor { rip = target } }) y
      → After S (whole_of S v y n) (jumped v target)
  jump_goes v y n next target i h fine by is seen =
      let next_one = next_of S ok v y n i next h.seen h.stands in
      let u : View = record v { processor = record v.processor { rip = target } } in
      let e = event_goes (machine_of S) refl (state_of v y n) (state_of u y n) i next next_one h.ordinary fine is in
      elim (nat_le target v.processor.rip) as (λ b. nat_le target v.processor.rip ≡ b → After S (whole_of S v y n) (if b then Turn u else On u)) [
        | true ↦ λ back. turned_on v y n next target i v.world.turns refl h by (e ∙ ap (λ (b : Bool). Goes b (state_of u y (one_more n))) back) seen
        | false ↦ λ ahead. goes_quiet v u.processor v.slots y y n next i h fine by is (grind (arith, nat_tests)) seen
      ] refl

  pub halts_here : (v : View) (y : Stored) (n next : ℕ) (i : Instr) (why : Stop) (last : State Stored) → Here v y i next
      → reach_strays i v.processor.rip (reach_of (accesses i next v.processor.regs)) ≡ None
      → executed (machine_of S) i next (state_of v y n) ≡ Halts why last → last.guest ≡ v.world.guest → last.memory.bounds ≡ v.world.store
      → EndedBy S (whole_of S v y n) why v.world
  halts_here v y n next i why last h fine is guest store = record {
    last = last;
    is = whole_stop (machine_of S) v.world.turns v.world.accesses (state_of v y n) last why
        (event_halts (machine_of S) refl (state_of v y n) last why i next (next_of S ok v y n i next h.seen h.stands) h.ordinary fine is) (clean_here v y n i next h);
    guest = guest;
    store = store;
  }

  pub strays_here : (v : View) (y : Stored) (n next x : ℕ) (i : Instr) → Here v y i next
      → reach_strays i v.processor.rip (reach_of (accesses i next v.processor.regs)) ≡ Some x → EndedBy S (whole_of S v y n) (stop.Strayed x) v.world
  strays_here v y n next x i h strays = record {
    last = state_of v y n;
    is = whole_stop (machine_of S) v.world.turns v.world.accesses (state_of v y n) (state_of v y n) (stop.Strayed x)
        (event_strays (machine_of S) refl (state_of v y n) x i next (next_of S ok v y n i next h.seen h.stands) h.ordinary strays) (clean_here v y n i next h);
    guest = refl;
    store = h.seen.memory.store;
  }
