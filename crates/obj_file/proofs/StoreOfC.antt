-- Events over the store of bounds, with the serving inside them, are those in C's words, BNDSTATUS aside.
use Rattle.std.specs.Prelude.{Result, Ok, Err, if◌then◌else◌, nat_le, ◌||◌}
use Rattle.std.specs.Option.{option_map}
use Rattle.std.proofs.Common.{◌≡◌, ◌≢◌, ℕ, ◌+◌, ◌<◌, ◌≤◌, nat_lt, nat_eq, ◌==◌, Bool, true, false, cond, Option, None, Some, List, [], ◌∷◌, ◌++◌, length, inl, inr, refl, arith, ap, ◌∙◌, sym, subst}
use Rattle.std.proofs.lemmas.Bool.{cases_lt, cases_Bool, cond_both}
use Rattle.std.proofs.lemmas.Bool.Decides.{nat_tests}
use Rattle.mx_base.specs.declared.limits.Bounds.{Bounds}
use Rattle.mx_base.specs.declared.stops.Stop.{Stop}
use Rattle.mx_base.specs.declared.stops.Stop.TheVariants as stop
use Rattle.mx_base.specs.Bounds.{full_bounds}
use Rattle.mx_base.specs.BoundsStore.{BoundsStore, Kept, granule, megabyte, with_kept, with_touched, most_tables, touched_with, bounds_for, load_bounds, keep_bounds}
use Rattle.mx_base.specs.Memory.{first_refused, number_at, with_number}
use Rattle.mx_base.specs.Regions.{is_executable, is_readable, is_writable}
use Rattle.mx_base.specs.Services.{Served, Answers, Exits, Overflows, Refused as Denied}
use Rattle.mx_base.specs.Walk.{walk_end, directory_entry_at}
use Rattle.x86_forms.specs.declared.instr.Instr.{Instr}
use Rattle.x86_forms.specs.declared.instr.Mem.{Mem}
use Rattle.x86_forms.specs.declared.instr.Rm.{Rm}
use Rattle.x86_forms.specs.declared.instr.Rm.TheVariants.{Reg as InReg, Mem as InMem}
use Rattle.x86_forms.specs.declared.instr.Instr.TheVariants.{MovTo, MovFrom, MovMemImm, MovImm, Movsxd, Movzx, Movsx, Lea, AluTo, AluFrom, AluImm, Test as TestRm, Imul as ImulRm, One, Wide, ShiftCl, ShiftImm, Set, Push, Pop, CallRel, JmpRel, CallRm, JmpRm, Jcc, Ret, Syscall, Ud2, Nop, Bndmk, Bndcl, Bndcu, Bndcn, BndmovTo, BndmovFrom, Bndldx, Bndstx}
use Rattle.x86_forms.specs.Accesses.{accesses, reach_of}
use Rattle.x86_forms.specs.Arithmetic.{Operation, Not, Neg, Test, Imul, writes_result, divided, divided_signed, result_of}
use Rattle.x86_forms.specs.Processor.{Processor, rax, rdx, pointer_address, index_register}
use Rattle.x86_forms.specs.Requests.{Program, Ends, Fails, Reads, Writes, Loads, Keeps, Outcome, Done, Failed, Refused, run, refused_with, either_way}
use Rattle.x86_forms.specs.Table.{row, at_next, with_bnd, value_then, written_to, operated, one_operand, quotient_kept, checked, bounds_then, reg_value, with_flags_after}
use Rattle.obj_file.specs.Machine.{Reading, Is, Part, Neither, Refusal, Misses, Invalid, Lacks, Ground, State, Deed, Does, Halts, Event, ended, restarted, served_or_ended, executed, unless_bare, reach_strays, unless_strayed, answered, asked, with_service, with_service_of, is_service, control_judged, deed_of, reading_at, deed_by, event_of, event_by, event, left_by, served_or_invalid}
use Rattle.obj_file.specs.Loaded.{Mode, configuration, unless_missing, status_after}
use Rattle.obj_file.specs.Stored.{Stored, with_store, is_touched, unless_untouched, stored_read, stored_write, stored_load, stored_keep, stored_ground, done_or, once_more, with_serving, megabyte_touched}
use Rattle.obj_file.specs.StoreLaw.{megabyte_entry_at}
use Rattle.obj_file.specs.StoreOfC.{had_or_lacking, answer_in_c, load_in_c, keep_in_c, ground_in_c, but_status, state_but_status, event_but_status}
use Rattle.obj_file.proofs.StoredRequests.{store_far, store_touched, store_untouched, touched_new, touched_full, megabyte_served}
use Rattle.obj_file.proofs.StoredServed.{touched_after, loads_served, keeps_served}

abbrev deed_but_status : {X : Type 0} → Deed X → Deed X
deed_but_status (Does t) = Does (state_but_status t)
deed_but_status (Halts why t) = Halts why (state_but_status t)

-- ---- rows that ask nothing of the store of bounds

abbrev AsksNoBounds : Program → Type 0
AsksNoBounds (Ends a) = Unit {0}
AsksNoBounds (Fails f a) = Unit {0}
AsksNoBounds (Reads at size im f) = (v : ℕ) → AsksNoBounds (f v)
AsksNoBounds (Writes at size v im p) = AsksNoBounds p
AsksNoBounds (Loads at v f) = ⊥
AsksNoBounds (Keeps at v b p) = ⊥

none_value : (c : Processor) (next w : ℕ) (rm : Rm) (f : ℕ → Program) → ((v : ℕ) → AsksNoBounds (f v)) → AsksNoBounds (value_then c next w rm f)
none_value c next w (InReg r) f h = h _
none_value c next w (InMem m) f h = λ v. h _

none_bounds : (c : Processor) (next : ℕ) (rm : Rm) (f : Bounds → Program) → ((b : Bounds) → AsksNoBounds (f b)) → AsksNoBounds (bounds_then c next rm f)
none_bounds c next (InReg r) f h = h _
none_bounds c next (InMem m) f h = λ v. h _

none_written : (c : Processor) (next w : ℕ) (rm : Rm) (v : ℕ) (after : Processor) → AsksNoBounds (written_to c next w rm v after)
none_written c next w (InReg r) v after = tt
none_written c next w (InMem m) v after = tt

none_if : (d : Bool) (p q : Program) → AsksNoBounds p → AsksNoBounds q → AsksNoBounds (if d then p else q)
none_if true p q h k = h
none_if false p q h k = k

none_operated : (c : Processor) (next : ℕ) (op : Operation) (w : ℕ) (rm : Rm) (a b : ℕ) → AsksNoBounds (operated c next op w rm a b)
none_operated c next op w rm a b = none_if (writes_result op) _ _ (none_written c next w rm (result_of op w a b) (with_flags_after c next op w a b)) tt

none_quotient : (c : Processor) (next w : ℕ) (q : Option (ℕ × ℕ)) → AsksNoBounds (quotient_kept c next w q)
none_quotient c next w None = tt
none_quotient c next w (Some q) = tt

none_one : (c : Processor) (next op w : ℕ) (rm : Rm) (a : ℕ) → AsksNoBounds (one_operand c next op w rm a)
none_one c next op w rm a = none_if (op == 0) _ _ (none_operated c next Not w rm a 0) (none_if (op == 1) _ _ (none_operated c next Neg w rm a 0)
    (none_if (op == 2) _ _ (none_quotient c next w (divided w (reg_value c w rdx) (reg_value c w rax) a)) (none_quotient c next w (divided_signed w (reg_value c w rdx) (reg_value c w rax) a))))

none_checked : (c : Processor) (next : ℕ) (d : Bool) (v : ℕ) (b : Bounds) → AsksNoBounds (checked c next d v b)
none_checked c next true v b = tt
none_checked c next false v b = tt

-- ---- one request to the store of bounds

-- how a request whose megabyte may have to be touched goes over a memory
data Asked {A : Type 0} (ask : Stored → Result A Refusal) (answer : Stored → A) (y : Stored) : Type 0 where
  Had : (is : ask y ≡ Ok (answer y)) → Asked ask answer y
  Touched : (z : Stored) → (entry_at : ℕ) → (kept : z.bounds.kept ≡ y.bounds.kept) → (is : ask y ≡ Err (Invalid entry_at)) → (serves : megabyte_touched y entry_at ≡ Some z) → (again : ask z ≡ Ok (answer z)) → Asked ask answer y
  Full : (entry_at : ℕ) → (is : ask y ≡ Err (Invalid entry_at)) → (serves : megabyte_touched y entry_at ≡ None) → Asked ask answer y

asked_near : {A : Type 0} (preserve : Bool) (y : Stored) (la : ℕ) (answer : Stored → A) → la < walk_end → Asked (λ z. unless_untouched (configuration preserve) z.bounds la (answer z)) answer y
asked_near preserve y la answer near = elim (cases_Bool (is_touched y.bounds (megabyte la))) [
  | inl some ↦ Had (store_touched (configuration preserve) la y.bounds (answer y) near some)
  | inr none ↦ elim (cases_lt (length y.bounds.touched) most_tables) [
    | inl room ↦ let z : Stored = with_store y (with_touched y.bounds (y.bounds.touched ++ megabyte la ∷ [])) in
        Touched z (megabyte_entry_at (megabyte la)) refl (store_untouched preserve la y.bounds (answer y) near none)
        (megabyte_served y (megabyte la) (Some (y.bounds.touched ++ megabyte la ∷ [])) (touched_new y.bounds (megabyte la) none room))
        (store_touched (configuration preserve) la z.bounds (answer z) near (touched_after y.bounds (megabyte la)))
    | inr full ↦ Full (megabyte_entry_at (megabyte la)) (store_untouched preserve la y.bounds (answer y) near none) (megabyte_served y (megabyte la) None (touched_full y.bounds (megabyte la) none full))
  ]
]

module _ (reads : List ℕ → Reading) (outers : ℕ) (mode : Mode) (i : Instr) (next : ℕ) (s : State Stored) where
  abbrev GS : Ground Stored
  GS = stored_ground reads outers mode

  abbrev GC : Ground Stored
  GC = ground_in_c reads outers mode

  -- the row's one request is to the store of bounds, and it ends with the answer
  module _ {A : Type 0} (ask : Stored → Result A Refusal) (answer : Stored → A) (ends : Processor → A → Processor) (leaves : A → Stored)
      (same_ends : (c : Processor) (status : ℕ) (a : A) → but_status (ends (refused_with status c) a) ≡ but_status (ends c a)) where
    abbrev outcome : Processor → Stored → Result A Refusal → Outcome Stored Refusal
    outcome c y r = either_way r (λ a. Done (ends c a) (leaves a)) (λ o. Refused o (refused_with (status_after o c.status) c) y)

    abbrev done : A → Deed Stored
    done a = Does (state_but_status (left_by s (ends s.processor a) (leaves a)))

    abbrev halted : Deed Stored
    halted = Halts stop.NoTable (state_but_status s)

    abbrev goes_as : Option A → Deed Stored
    goes_as None = halted
    goes_as (Some a) = done a

    abbrev by_row : Type 0
    by_row = (status : ℕ) (z : Stored) → run GS.store (refused_with status s.processor) (row i next (refused_with status s.processor)) z ≡ outcome (refused_with status s.processor) z (ask z)

    stored_deed : by_row → Asked ask answer s.memory → deed_but_status (served_or_ended GS i next s (outcome s.processor s.memory (ask s.memory))) ≡ goes_as (with_serving ask s.memory (ask s.memory))
    stored_deed rows (Had is) = ap (λ r. deed_but_status (served_or_ended GS i next s (outcome s.processor s.memory r))) is ∙ sym (ap (λ r. goes_as (with_serving ask s.memory r)) is)
    stored_deed rows (Touched z entry_at kept is serves again) =
        let p = refused_with (status_after (Invalid entry_at) s.processor.status) s.processor in
        ap (λ r. deed_but_status (served_or_ended GS i next s (outcome s.processor s.memory r))) is
        ∙ ap (λ o. deed_but_status (restarted GS i next s p s.memory (served_or_invalid entry_at o))) serves
        ∙ ap (λ o. deed_but_status (ended s o)) (rows (status_after (Invalid entry_at) s.processor.status) z ∙ ap (outcome p z) again)
        ∙ ap (λ (c : Processor). Does (record s { processor = c; memory = leaves (answer z) })) (same_ends s.processor (status_after (Invalid entry_at) s.processor.status) (answer z))
        ∙ sym (ap (λ r. goes_as (with_serving ask s.memory r)) is ∙ ap (λ o. goes_as (once_more ask o)) serves ∙ ap (λ r. goes_as (done_or None r)) again)
    stored_deed rows (Full entry_at is serves) =
        let p = refused_with (status_after (Invalid entry_at) s.processor.status) s.processor in
        ap (λ r. deed_but_status (served_or_ended GS i next s (outcome s.processor s.memory r))) is
        ∙ ap (λ o. deed_but_status (restarted GS i next s p s.memory (served_or_invalid entry_at o))) serves
        ∙ sym (ap (λ r. goes_as (with_serving ask s.memory r)) is ∙ ap (λ o. goes_as (once_more ask o)) serves)

    c_deed : (entry_at : ℕ) (o : Option A) → deed_but_status (served_or_ended GC i next s (outcome s.processor s.memory (had_or_lacking entry_at o))) ≡ goes_as o
    c_deed entry_at None = refl
    c_deed entry_at (Some a) = refl

  -- a program that asks nothing of the store of bounds
  plain_same : (c : Processor) (p : Program) → AsksNoBounds p → (y : Stored) → served_or_ended GS i next s (run GS.store c p y) ≡ served_or_ended GC i next s (run GC.store c p y)
  unfolding run stored_read stored_write
  plain_same c (Ends a) h y = refl
  plain_same c (Fails f a) h y = refl
  plain_same c (Reads at size im f) h y = by (λ v. plain_same c (f v) (h v) y) (first_refused is_readable size at)
    where
      by : ((v : ℕ) → served_or_ended GS i next s (run GS.store c (f v) y) ≡ served_or_ended GC i next s (run GC.store c (f v) y)) → (o : Option ℕ) → served_or_ended GS i next s (either_way (unless_missing o (number_at size y.bytes at)) (λ v. run GS.store c (f v) y) (λ r. Refused r (refused_with (status_after r c.status) c) y))
          ≡ served_or_ended GC i next s (either_way (unless_missing o (number_at size y.bytes at)) (λ v. run GC.store c (f v) y) (λ r. Refused r (refused_with (status_after r c.status) c) y))
      by same None = same (number_at size y.bytes at)
      by same (Some x) = refl
  plain_same c (Writes at size v im p) h y = by (plain_same c p h) (first_refused is_writable size at)
    where
      by : ((z : Stored) → served_or_ended GS i next s (run GS.store c p z) ≡ served_or_ended GC i next s (run GC.store c p z)) → (o : Option ℕ) → served_or_ended GS i next s (either_way (unless_missing o (record { bytes = with_number size y.bytes at v; bounds = y.bounds })) (λ z. run GS.store c p z) (λ r. Refused r (refused_with (status_after r c.status) c) y))
          ≡ served_or_ended GC i next s (either_way (unless_missing o (record { bytes = with_number size y.bytes at v; bounds = y.bounds })) (λ z. run GC.store c p z) (λ r. Refused r (refused_with (status_after r c.status) c) y))
      by same None = same (record { bytes = with_number size y.bytes at v; bounds = y.bounds })
      by same (Some x) = refl
  plain_same c (Loads at v f) h y = absurd h
  plain_same c (Keeps at v b p) h y = absurd h

  plain_deed : AsksNoBounds (row i next s.processor) → deed_but_status (executed GS i next s) ≡ deed_but_status (executed GC i next s)
  unfolding executed
  plain_deed h = ap deed_but_status (plain_same s.processor (row i next s.processor) h s.memory)

near_test : (la : ℕ) → la < walk_end → nat_lt la walk_end ≡ true
near_test la near = grind (arith, nat_tests)

far_test : (la : ℕ) → walk_end ≤ la → nat_lt la walk_end ≡ false
far_test la far = grind (arith, nat_tests)

module _ (reads : List ℕ → Reading) (outers : ℕ) (mode : Mode) (next : ℕ) (s : State Stored) where
  abbrev g : Ground Stored
  g = stored_ground reads outers mode

  abbrev h : Ground Stored
  h = ground_in_c reads outers mode

  abbrev cfg : ℕ
  cfg = configuration mode.preserve

  -- ---- BNDLDX

  module _ (b : ℕ) (m : Mem) where
    abbrev la : ℕ
    la = pointer_address s.processor.regs next m

    abbrev value : ℕ
    value = index_register s.processor.regs m.index

    abbrev loaded : Stored → Bounds × Stored
    loaded z = (bounds_for value (z.bounds.kept (granule la)), z)

    abbrev load_ends : Processor → Bounds × Stored → Processor
    load_ends c a = with_bnd (at_next c next) b a.0

    load_rows : by_row reads outers mode (Bndldx b m) next s (λ z. unless_untouched cfg z.bounds la (loaded z)) loaded load_ends (λ a. a.1) (λ c status a. refl)
    unfolding run row stored_load
    load_rows status z = refl

    pub load_goes : la < walk_end → deed_but_status (executed g (Bndldx b m) next s)
        ≡ goes_as reads outers mode (Bndldx b m) next s (λ z. unless_untouched cfg z.bounds la (loaded z)) loaded load_ends (λ a. a.1) (λ c status a. refl) (option_map (λ p. (p.0, with_store s.memory p.1)) (load_bounds s.memory.bounds la value))
    unfolding executed run row stored_load
    load_goes near = stored_deed reads outers mode (Bndldx b m) next s (λ z. unless_untouched cfg z.bounds la (loaded z)) loaded load_ends (λ a. a.1) (λ c status a. refl) load_rows (asked_near mode.preserve s.memory la loaded near)
        ∙ ap (goes_as reads outers mode (Bndldx b m) next s (λ z. unless_untouched cfg z.bounds la (loaded z)) loaded load_ends (λ a. a.1) (λ c status a. refl)) (loads_served mode.preserve s.memory la value near)

    load_near : la < walk_end → deed_but_status (executed g (Bndldx b m) next s) ≡ deed_but_status (executed h (Bndldx b m) next s)
    unfolding executed run row load_in_c
    load_near near =
        load_goes near
        ∙ sym (c_deed reads outers mode (Bndldx b m) next s (λ z. unless_untouched cfg z.bounds la (loaded z)) loaded load_ends (λ a. a.1) (λ c status a. refl) (directory_entry_at cfg la) (option_map (λ p. (p.0, with_store s.memory p.1)) (load_bounds s.memory.bounds la value)))
        ∙ sym (ap (λ t. deed_but_status (served_or_ended h (Bndldx b m) next s (either_way (cond t (had_or_lacking (directory_entry_at cfg la) (option_map (λ p. (p.0, with_store s.memory p.1)) (load_bounds s.memory.bounds la value))) (Err (Misses la)))
        (λ a. Done (load_ends s.processor a) a.1) (λ o. Refused o (refused_with (status_after o s.processor.status) s.processor) s.memory)))) (near_test la near))

    load_far : walk_end ≤ la → deed_but_status (executed g (Bndldx b m) next s) ≡ deed_but_status (executed h (Bndldx b m) next s)
    unfolding executed run row load_in_c stored_load
    load_far far = let f = far_test la far in rw f refl

    load_deed : deed_but_status (executed g (Bndldx b m) next s) ≡ deed_but_status (executed h (Bndldx b m) next s)
    load_deed = elim (cases_lt la walk_end) [ inl near ↦ load_near near | inr far ↦ load_far far ]

    abbrev bounds_left : Deed Stored → Bounds
    bounds_left (Does t) = t.processor.bounds b
    bounds_left (Halts why t) = full_bounds

    abbrev is_done : Deed Stored → Bool
    is_done (Does t) = true
    is_done (Halts why t) = false

    loaded_there : (c : Processor) (x : Bounds) → (with_bnd (at_next c next) b x).bounds b ≡ x
    loaded_there c x = grind (arith, nat_tests)

    by_touch : (t : State Stored) (o : Option (List ℕ))
        → Does (state_but_status t) ≡ goes_as reads outers mode (Bndldx b m) next s (λ z. unless_untouched cfg z.bounds la (loaded z)) loaded load_ends (λ a. a.1) (λ c status a. refl)
        (option_map (λ (p : Bounds × BoundsStore). (p.0, with_store s.memory p.1)) (option_map (λ (u : BoundsStore). (bounds_for value (u.kept (granule la)), u)) (option_map (with_touched s.memory.bounds) o)))
        → t.processor.bounds b ≡ bounds_for value (s.memory.bounds.kept (granule la))
    by_touch t None e = let never : true ≡ false = ap is_done e in absurd cc
    by_touch t (Some l) e = ap bounds_left e ∙ loaded_there s.processor (bounds_for value (s.memory.bounds.kept (granule la)))

    load_halts : walk_end ≤ la → is_done (executed g (Bndldx b m) next s) ≡ false
    unfolding executed run row stored_load
    load_halts far = let f = far_test la far in rw f refl

    -- the bounds register after a BNDLDX that is done
    pub load_gives : (t : State Stored) → executed (stored_ground reads outers mode) (Bndldx b m) next s ≡ Does t
        → t.processor.bounds b ≡ bounds_for (index_register s.processor.regs m.index) (s.memory.bounds.kept (granule (pointer_address s.processor.regs next m)))
    unfolding load_bounds
    load_gives t e = elim (cases_lt la walk_end) [
      | inl near ↦ by_touch t (touched_with s.memory.bounds.touched (megabyte la)) (sym (ap deed_but_status e) ∙ load_goes near)
      | inr far ↦ let never : true ≡ false = sym (ap is_done e) ∙ load_halts far in absurd cc
    ]

    -- ---- BNDSTX

    abbrev kept : Stored → Stored
    kept z = with_store z (with_kept z.bounds la value (s.processor.bounds b))

    abbrev keep_ends : Processor → Stored → Processor
    keep_ends c a = at_next c next

    keep_rows : by_row reads outers mode (Bndstx b m) next s (λ z. unless_untouched cfg z.bounds la (kept z)) kept keep_ends (λ a. a) (λ c status a. refl)
    unfolding run row stored_keep
    keep_rows status z = refl

    keep_near : la < walk_end → deed_but_status (executed g (Bndstx b m) next s) ≡ deed_but_status (executed h (Bndstx b m) next s)
    unfolding executed run row stored_keep keep_in_c
    keep_near near =
        stored_deed reads outers mode (Bndstx b m) next s (λ z. unless_untouched cfg z.bounds la (kept z)) kept keep_ends (λ a. a) (λ c status a. refl) keep_rows (asked_near mode.preserve s.memory la kept near)
        ∙ ap (goes_as reads outers mode (Bndstx b m) next s (λ z. unless_untouched cfg z.bounds la (kept z)) kept keep_ends (λ a. a) (λ c status a. refl)) (keeps_served mode.preserve s.memory la value (s.processor.bounds b) near)
        ∙ sym (c_deed reads outers mode (Bndstx b m) next s (λ z. unless_untouched cfg z.bounds la (kept z)) kept keep_ends (λ a. a) (λ c status a. refl) (directory_entry_at cfg la) (option_map (with_store s.memory) (keep_bounds s.memory.bounds la value (s.processor.bounds b))))
        ∙ sym (ap (λ t. deed_but_status (served_or_ended h (Bndstx b m) next s (either_way (cond t (had_or_lacking (directory_entry_at cfg la) (option_map (with_store s.memory) (keep_bounds s.memory.bounds la value (s.processor.bounds b)))) (Err (Misses la)))
        (λ a. Done (keep_ends s.processor a) a) (λ o. Refused o (refused_with (status_after o s.processor.status) s.processor) s.memory)))) (near_test la near))

    keep_far : walk_end ≤ la → deed_but_status (executed g (Bndstx b m) next s) ≡ deed_but_status (executed h (Bndstx b m) next s)
    unfolding executed run row keep_in_c stored_keep
    keep_far far = let f = far_test la far in rw f refl

    keep_deed : deed_but_status (executed g (Bndstx b m) next s) ≡ deed_but_status (executed h (Bndstx b m) next s)
    keep_deed = elim (cases_lt la walk_end) [ inl near ↦ keep_near near | inr far ↦ keep_far far ]

  -- ---- each instruction

  abbrev plain : (i : Instr) → AsksNoBounds (row i next s.processor) → deed_but_status (executed g i next s) ≡ deed_but_status (executed h i next s)
  plain i e = plain_deed reads outers mode i next s e

  executed_same : (i : Instr) → deed_but_status (executed g i next s) ≡ deed_but_status (executed h i next s)
  unfolding row
  executed_same (MovTo w r rm) = plain (MovTo w r rm) (none_written s.processor next w rm _ _)
  executed_same (MovFrom w r m) = plain (MovFrom w r m) (λ v. tt)
  executed_same (MovMemImm w m imm) = plain (MovMemImm w m imm) tt
  executed_same (MovImm w r imm) = plain (MovImm w r imm) tt
  executed_same (Movsxd r rm) = plain (Movsxd r rm) (none_value s.processor next 32 rm _ (λ v. tt))
  executed_same (Movzx from r rm) = plain (Movzx from r rm) (none_value s.processor next from rm _ (λ v. tt))
  executed_same (Movsx w from r rm) = plain (Movsx w from r rm) (none_value s.processor next from rm _ (λ v. tt))
  executed_same (Lea r m) = plain (Lea r m) tt
  executed_same (AluTo op w r rm) = plain (AluTo op w r rm) (none_value s.processor next w rm _ (λ v. none_operated s.processor next _ w rm v _))
  executed_same (AluFrom op w r m) = plain (AluFrom op w r m) (λ v. none_operated s.processor next _ w (InReg r) _ _)
  executed_same (AluImm op w rm imm) = plain (AluImm op w rm imm) (none_value s.processor next w rm _ (λ v. none_operated s.processor next _ w rm v _))
  executed_same (TestRm w r rm) = plain (TestRm w r rm) (none_value s.processor next w rm _ (λ v. none_operated s.processor next Test w rm v (reg_value s.processor w r.0)))
  executed_same (ImulRm w r rm) = plain (ImulRm w r rm) (none_value s.processor next w rm _ (λ v. none_operated s.processor next Imul w (InReg r) (reg_value s.processor w r.0) v))
  executed_same (One op w rm) = plain (One op w rm) (none_value s.processor next w rm _ (λ v. none_one s.processor next op w rm v))
  executed_same (Wide w) = plain (Wide w) tt
  executed_same (ShiftCl op w rm) = plain (ShiftCl op w rm) (none_value s.processor next w rm _ (λ v. none_operated s.processor next _ w rm v _))
  executed_same (ShiftImm op w rm imm) = plain (ShiftImm op w rm imm) (none_value s.processor next w rm _ (λ v. none_operated s.processor next _ w rm v _))
  executed_same (Set op rm) = plain (Set op rm) (none_written s.processor next 8 rm _ _)
  executed_same (Push r) = plain (Push r) tt
  executed_same (Pop r) = plain (Pop r) (λ v. tt)
  executed_same (CallRel prefixed rel) = plain (CallRel prefixed rel) tt
  executed_same (JmpRel prefixed rel) = plain (JmpRel prefixed rel) tt
  executed_same (CallRm prefixed rm) = plain (CallRm prefixed rm) (none_value s.processor next 64 rm _ (λ v. tt))
  executed_same (JmpRm prefixed rm) = plain (JmpRm prefixed rm) (none_value s.processor next 64 rm _ (λ v. tt))
  executed_same (Jcc prefixed op rel) = plain (Jcc prefixed op rel) tt
  executed_same (Ret prefixed) = plain (Ret prefixed) (λ v. tt)
  executed_same Syscall = plain Syscall tt
  executed_same Ud2 = plain Ud2 tt
  executed_same Nop = plain Nop tt
  executed_same (Bndmk b m) = plain (Bndmk b m) tt
  executed_same (Bndcl b rm) = plain (Bndcl b rm) (none_checked s.processor next _ _ _)
  executed_same (Bndcu b rm) = plain (Bndcu b rm) (none_checked s.processor next _ _ _)
  executed_same (Bndcn b rm) = plain (Bndcn b rm) (none_checked s.processor next _ _ _)
  executed_same (BndmovTo b m) = plain (BndmovTo b m) tt
  executed_same (BndmovFrom b rm) = plain (BndmovFrom b rm) (none_bounds s.processor next rm _ (λ x. tt))
  executed_same (Bndldx b m) = load_deed b m
  executed_same (Bndstx b m) = keep_deed b m

-- ---- what stands around an instruction doesn't see BNDSTATUS

module _ (g : Ground Stored) where
  strayed_but : (o : Option ℕ) (s : State Stored) (d : Deed Stored) → deed_but_status (unless_strayed o s d) ≡ unless_strayed o (state_but_status s) (deed_but_status d)
  strayed_but None s d = refl
  strayed_but (Some x) s d = refl

  control_but : (i : Instr) (from : ℕ) (d : Deed Stored) → deed_but_status (control_judged g i from d) ≡ control_judged g i from (deed_but_status d)
  control_but i from (Does t) = strayed_but _ t (Does t)
  control_but i from (Halts why t) = refl

  answer_but : (s t : State Stored) (a : Served Stop) → deed_but_status (answered s t a) ≡ answered (state_but_status s) (state_but_status t) a
  answer_but s t (Answers word h) = refl
  answer_but s t (Exits code) = refl
  answer_but s t Overflows = refl
  answer_but s t (Denied why) = refl

  service_but : (s : State Stored) (d : Deed Stored) → deed_but_status (with_service g s d) ≡ with_service g (state_but_status s) (deed_but_status d)
  unfolding asked
  service_but s (Does t) = answer_but s t (asked g s)
  service_but s (Halts why t) = refl

  service_of_but : (i : Instr) (s : State Stored) (d : Deed Stored) → deed_but_status (with_service_of g i s d) ≡ with_service_of g i (state_but_status s) (deed_but_status d)
  service_of_but i s d = by (is_service i)
    where
      by : (b : Bool) → deed_but_status (cond b (with_service g s d) d) ≡ cond b (with_service g (state_but_status s) (deed_but_status d)) (deed_but_status d)
      by true = service_but s d
      by false = refl

  of_but : (s : State Stored) (owed : Bool) (d : Deed Stored) → event_but_status (event_of s owed d) ≡ event_of (state_but_status s) owed (deed_but_status d)
  of_but s owed (Does t) = refl
  of_but s owed (Halts why t) = refl

module _ (reads : List ℕ → Reading) (outers : ℕ) (mode : Mode) (s : State Stored) where
  abbrev over_store : Ground Stored
  over_store = stored_ground reads outers mode

  abbrev over_c : Ground Stored
  over_c = ground_in_c reads outers mode

  service_same : (i : Instr) (t : State Stored) (d : Deed Stored) → with_service_of over_store i t d ≡ with_service_of over_c i t d
  unfolding asked
  service_same i t (Does u) = refl
  service_same i t (Halts why u) = refl

  deed_same : (i : Instr) (next : ℕ) → deed_but_status (deed_of over_store i next s) ≡ deed_but_status (deed_of over_c i next s)
  unfolding deed_of
  deed_same i next =
      let a = executed over_store i next s in
      let b = executed over_c i next s in
      let inner : deed_but_status (with_service_of over_store i s a) ≡ deed_but_status (with_service_of over_c i s b) =
      service_of_but over_store i s a ∙ ap (with_service_of over_store i (state_but_status s)) (executed_same reads outers mode next s i) ∙ service_same i (state_but_status s) (deed_but_status b) ∙ sym (service_of_but over_c i s b) in
      let strays = unless_bare mode.bare (reach_strays i s.processor.rip (reach_of (accesses i next s.processor.regs))) in
      let d = control_judged over_store i s.processor.rip (with_service_of over_store i s a) in
      let e = control_judged over_c i s.processor.rip (with_service_of over_c i s b) in
      let judged : deed_but_status d ≡ deed_but_status e =
      control_but over_store i s.processor.rip (with_service_of over_store i s a) ∙ ap (control_judged over_store i s.processor.rip) inner ∙ sym (control_but over_c i s.processor.rip (with_service_of over_c i s b)) in
      strayed_but over_store strays s d ∙ ap (unless_strayed strays (state_but_status s)) judged ∙ sym (strayed_but over_c strays s e)

  by_same : (r : Reading) → event_but_status (event_by over_store s r) ≡ event_but_status (event_by over_c s r)
  by_same (Is i size) = of_but over_store s _ (deed_by over_store s (Is i size)) ∙ ap (event_of (state_but_status s) _) (deed_same i _) ∙ sym (of_but over_c s _ (deed_by over_c s (Is i size)))
  by_same Part = refl
  by_same Neither = refl

  pub event_in_c : event_but_status (event (stored_ground reads outers mode) s) ≡ event_but_status (event (ground_in_c reads outers mode) s)
  unfolding event reading_at
  event_in_c = by (is_executable s.processor.rip)
    where
      by : (c : Bool) → event_but_status (cond c (event_by over_store s (reading_at over_store s)) (event_of s false (Halts (stop.Unmapped s.processor.rip) s))) ≡ event_but_status (cond c (event_by over_c s (reading_at over_c s)) (event_of s false (Halts (stop.Unmapped s.processor.rip) s)))
      by true = by_same (reading_at over_store s)
      by false = refl

-- ---- the values

pub bounds_matching : (v : ℕ) (k : Kept) → k.value ≡ v → bounds_for v (Some k) ≡ k.bounds
unfolding bounds_for
bounds_matching v k e = grind (arith, nat_tests)

pub bounds_differing : (v : ℕ) (k : Kept) → k.value ≢ v → bounds_for v (Some k) ≡ full_bounds
unfolding bounds_for
bounds_differing v k e = grind (arith, nat_tests)

pub bounds_of_none : (v : ℕ) → bounds_for v None ≡ full_bounds
unfolding bounds_for
bounds_of_none v = refl
