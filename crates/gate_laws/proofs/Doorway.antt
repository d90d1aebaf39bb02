-- Control that leaves legacy code has come to the landing, or to a door.
use Rattle.std.specs.Prelude.{◌≢◌, if◌then◌else◌, ◌&&◌, ◌||◌, not, nat_lt, nat_le, nat_eq, ◌%◌, ◌/◌}
use Rattle.std.proofs.Common.{◌≡◌, ℕ, ◌-◌, ◌<◌, ◌≤◌, Bool, true, false, Option, None, Some, refl, ap, ◌∙◌, sym, subst, arith}
use Rattle.std.proofs.lemmas.Bool.{cond_both, and_parts}
use Rattle.std.proofs.lemmas.Bool.Decides.{nat_tests}
use Rattle.mx_base.specs.Memory.{AreBytes, first_refused, first_refused_around}
use Rattle.mx_base.specs.Regions.{instrumented_code, is_in, is_executable, is_readable, is_writable, is_sealed}
use Rattle.mx_base.specs.World.{World}
use Rattle.x86_forms.specs.declared.instr.Instr.{Instr}
use Rattle.x86_forms.specs.declared.instr.Mem.{Mem}
use Rattle.x86_forms.specs.declared.instr.Rm.TheVariants.{Reg as InReg, Mem as InMem}
use Rattle.x86_forms.specs.declared.instr.Instr.TheVariants.{CallRel, CallRm}
use Rattle.x86_forms.specs.declared.spans.Span.{Span}
use Rattle.x86_forms.specs.Accesses.{accesses, reach_of, push, span}
use Rattle.x86_forms.specs.Processor.{Processor, below_stack, address, branch_target}
use Rattle.x86_forms.specs.Requests.{Outcome, Done, Refused, run, either_way}
use Rattle.x86_forms.specs.Table.{row, pushed, branched, value_then, with_stack, reg_value}
use Rattle.x86_forms.specs.Validity.{valid_of}
use Rattle.x86_forms.specs.Watch.{is_legacy, access_strays, first_sealed, control_strays, is_legacy_control, may_enter, begins_outer, is_in_outer, landing, outer_entry, first_outer, outer_size}
use Rattle.obj_file.specs.Machine.{Reading, Is, Part, Neither, Refusal, State, Deed, Does, Halts, Event, Goes, Stops, executed, served_or_ended, reach_strays, span_strays, is_read, unless_strayed, with_service_of, control_judged, is_call, is_return, deed_of, deed_by, next_address, fetched_size, reading_at, event_of, event, owes}
use Rattle.obj_file.specs.Loaded.{unless_missing}
use Rattle.obj_file.specs.StoreLaw.{HoldsWords, ReadsValid}
use Rattle.obj_file.specs.Stored.{Stored, stored_read, stored_write}
use Rattle.obj_file.proofs.StoredBytes.{bytes-list_at}
use Rattle.obj_file.proofs.StoredSpans.{few_accesses}
use Rattle.legacy_calls.specs.Legacy.{Linkage, ground}
use Rattle.gate_laws.specs.Standing.{IsAdmitted}
use Rattle.obj_file.proofs.LegacyRows.{read_where_written}
use Rattle.gate_laws.proofs.Each.{Admits}
use Rattle.obj_file.proofs.LegacyEvents.{looks, or_none, second_fine}

is_free : ℕ → Bool
is_free a = not (is_sealed a)

sealed_none : (i : Instr) (from : ℕ) (s : Span) → is_legacy from ≡ true → access_strays i from s ≡ None → first_refused_around (λ a. not (is_sealed a)) s.size s.at ≡ None
unfolding access_strays first_sealed
sealed_none i from s legacy none = ap (λ (b : Bool). if b then first_refused_around (λ a. not (is_sealed a)) s.size s.at else None) (sym (looks i from legacy s)) ∙ none

enters : (from to : ℕ) (call ret : Bool) (outers : ℕ) → is_legacy from ≡ true → is_legacy to ≡ false → to ≢ landing → control_strays from to call ret outers ≡ None → (call ≡ true) × (begins_outer outers to ≡ true)
unfolding control_strays is_legacy_control may_enter
enters from to call ret outers legacy inside away none =
    by (is_legacy from) (is_in instrumented_code to) (nat_eq to landing) call (begins_outer outers to) (ret && is_in_outer outers from) legacy inside (λ e. away (grind (arith, nat_tests))) none
  where
    by : (l i n c b r : Bool) → l ≡ true → not i ≡ false → (n ≡ true → ⊥) → (if (l || r) && i && not (n || (c && b)) then Some to else None) ≡ None → (c ≡ true) × (b ≡ true)
    by true true true c b r e f g h = absurd (g refl)
    by true true false true true r e f g h = (refl, refl)
    by true true false true false r e f g h = absurd (cc)
    by true true false false b r e f g h = absurd (cc)
    by true false n c b r e f g h = absurd (cc)
    by false i n c b r e f g h = absurd (cc)

door_of : (outers to : ℕ) → begins_outer outers to ≡ true → (f : ℕ) × (f < outers) × (to ≡ outer_entry f)
unfolding begins_outer is_in_outer
door_of outers to h =
    let parts = and_parts (nat_le first_outer to && nat_lt to (outer_entry outers)) (nat_eq ((to - first_outer) % outer_size) 0) h in
    let ends = and_parts (nat_le first_outer to) (nat_lt to (outer_entry outers)) parts.0 in
    let low : first_outer ≤ to = grind (arith, nat_tests) in
    let high : to < outer_entry outers = grind (arith, nat_tests) in
    let even : (to - first_outer) % outer_size ≡ 0 = grind (arith, nat_tests) in
    ((to - first_outer) / outer_size, omega arith, omega arith)

module _ (k : Linkage) (s : State Stored) (legacy : is_legacy s.processor.rip ≡ true) (words : HoldsWords s.processor) where
  abbrev Pushed : Processor → Type 0
  Pushed p = (first_refused is_readable 8 (p.regs 4) ≡ None) × (first_refused_around (λ a. not (is_sealed a)) 8 (p.regs 4) ≡ None)

  abbrev AfterCall : Deed Stored → Type 0
  AfterCall (Does t) = Pushed t.processor
  AfterCall (Halts why t) = Unit {0}

  abbrev sp : ℕ
  sp = below_stack (s.processor.regs 4)

  push_by : (i : Instr) (next : ℕ) (after : Processor) (y : Stored) (g : Refusal → Processor) (o : Option ℕ) → first_refused is_writable 8 sp ≡ o → first_refused_around (λ a. not (is_sealed a)) 8 sp ≡ None
      → AfterCall (served_or_ended (ground k) i next s (either_way (unless_missing o y) (λ z. Done (with_stack after sp) z) (λ e. Refused e (g e) s.memory)))
  push_by i next after y g None e free = (read_where_written 8 sp e, free)
  push_by i next after y g (Some x) e free = tt

  push_does : (i : Instr) (next v : ℕ) (after : Processor) → first_refused_around (λ a. not (is_sealed a)) 8 sp ≡ None → AfterCall (served_or_ended (ground k) i next s (run (ground k).store s.processor (pushed s.processor v after) s.memory))
  unfolding run stored_write
  push_does i next v after free = push_by i next after _ _ (first_refused is_writable 8 sp) refl free

  read_by : (i : Instr) (next : ℕ) (at v : ℕ) (f : ℕ → Outcome Stored Refusal) (g : Refusal → Processor) (o : Option ℕ) → first_refused is_readable 8 at ≡ o
      → ((u : ℕ) → first_refused is_readable 8 at ≡ None → AfterCall (served_or_ended (ground k) i next s (f u)))
      → AfterCall (served_or_ended (ground k) i next s (either_way (unless_missing o v) f (λ e. Refused e (g e) s.memory)))
  read_by i next at v f g None e h = h v e
  read_by i next at v f g (Some x) e h = tt

  memory_does : (prefixed : Bool) (m : Mem) (next : ℕ) → valid_of (CallRm prefixed (InMem m)) ≡ true → reach_strays (CallRm prefixed (InMem m)) s.processor.rip (reach_of (accesses (CallRm prefixed (InMem m)) next s.processor.regs)) ≡ None
      → AfterCall (served_or_ended (ground k) (CallRm prefixed (InMem m)) next s (run (ground k).store s.processor (value_then s.processor next 64 (InMem m) (λ target. pushed s.processor next (branched s.processor prefixed target))) s.memory))
  unfolding run stored_read reach_strays
  memory_does prefixed m next ok none =
      let few = few_accesses (CallRm prefixed (InMem m)) next s.processor.regs ok words.regs_fit in
      let i : Instr = CallRm prefixed (InMem m) in
      let from = s.processor.rip in
      let a : Span = span (address s.processor.regs next m) 64 false in
      let b : Span = push s.processor.regs in
      let parts = or_none (span_strays i from (Some a)) (if is_read (Some a) then span_strays i from (Some b) else None) none in
      read_by (CallRm prefixed (InMem m)) next (address s.processor.regs next m) _ _ _ (first_refused is_readable 8 (address s.processor.regs next m)) refl
      (λ u can. push_does (CallRm prefixed (InMem m)) next next _ (sealed_none (CallRm prefixed (InMem m)) s.processor.rip b legacy (second_fine (CallRm prefixed (InMem m)) s.processor.rip legacy a b few.0.0 parts.1 can)))

  call_does : (i : Instr) (next : ℕ) → is_call i ≡ true → valid_of i ≡ true → reach_strays i s.processor.rip (reach_of (accesses i next s.processor.regs)) ≡ None → AfterCall (with_service_of (ground k) i s (executed (ground k) i next s))
  unfolding executed row reach_strays
  call_does (CallRel prefixed rel) next is ok none =
      push_does (CallRel prefixed rel) next next (branched s.processor prefixed (branch_target next rel)) (sealed_none (CallRel prefixed rel) s.processor.rip _ legacy ((or_none _ _ none).0))
  call_does (CallRm prefixed (InReg r)) next is ok none =
      push_does (CallRm prefixed (InReg r)) next next (branched s.processor prefixed (reg_value s.processor 64 r.0)) (sealed_none (CallRm prefixed (InReg r)) s.processor.rip _ legacy ((or_none _ _ none).0))
  call_does (CallRm prefixed (InMem m)) next is ok none = memory_does prefixed m next ok none
  call_does i next is ok none = absurd (cc)

  module _ (w : World) where
    abbrev DeedAdmits : Deed Stored → Type 0
    DeedAdmits (Does t) = IsAdmitted k record { processor = t.processor; world = w }
    DeedAdmits (Halts why t) = Unit {0}

    abbrev EventAdmits : Event Stored → Type 0
    EventAdmits (Goes turn t) = IsAdmitted k record { processor = t.processor; world = w }
    EventAdmits (Stops turn why t) = Unit {0}

    judged_by : (i : Instr) (t : State Stored) (o : Option ℕ) → control_strays s.processor.rip t.processor.rip (is_call i) (is_return i) k.outers ≡ o → (is_call i ≡ true → Pushed t.processor) → DeedAdmits (unless_strayed o t (Does t))
    judged_by i t (Some x) e called = tt
    judged_by i t None e called = λ inside away.
        let in_by = enters s.processor.rip t.processor.rip (is_call i) (is_return i) k.outers legacy inside away e in
        let door = door_of k.outers t.processor.rip in_by.1 in
        let free = called in_by.0 in
        (door.0, record { few = door.1; here = door.2; readable = free.0; unsealed = free.1 })

    judged : (i : Instr) (d : Deed Stored) → (is_call i ≡ true → AfterCall d) → DeedAdmits (control_judged (ground k) i s.processor.rip d)
    judged i (Does t) called = judged_by i t _ refl called
    judged i (Halts why t) called = tt

    reach_by : (o : Option ℕ) (d : Deed Stored) → (o ≡ None → DeedAdmits d) → DeedAdmits (unless_strayed o s d)
    reach_by None d h = h refl
    reach_by (Some x) d h = tt

    deed : (i : Instr) (next : ℕ) → valid_of i ≡ true → DeedAdmits (deed_of (ground k) i next s)
    unfolding deed_of
    deed i next ok = by (reach_strays i s.processor.rip (reach_of (accesses i next s.processor.regs))) refl
      where
        by : (o : Option ℕ) → reach_strays i s.processor.rip (reach_of (accesses i next s.processor.regs)) ≡ o
            → DeedAdmits (unless_strayed o s (control_judged (ground k) i s.processor.rip (with_service_of (ground k) i s (executed (ground k) i next s))))
        by o e = reach_by o _ (λ none. judged i (with_service_of (ground k) i s (executed (ground k) i next s)) (λ call. call_does i next call ok (e ∙ none)))

    by_reading : (r : Reading) → ((i : Instr) (size : ℕ) → r ≡ Is i size → valid_of i ≡ true) → DeedAdmits (deed_by (ground k) s r)
    by_reading (Is i size) ok = deed i (next_address s.processor.rip size) (ok i size refl)
    by_reading Part ok = tt
    by_reading Neither ok = tt

    of_deed : (owed : Bool) (d : Deed Stored) → DeedAdmits d → EventAdmits (event_of s owed d)
    of_deed owed (Does t) h = h
    of_deed owed (Halts why t) h = h

    all : ReadsValid k.reads → AreBytes s.memory.bytes → EventAdmits (event (ground k) s)
    unfolding event reading_at
    all valid bytes = cond_both (is_executable s.processor.rip) _ _ (λ e. EventAdmits e)
        (λ _. of_deed (owes (reading_at (ground k) s)) (deed_by (ground k) s (reading_at (ground k) s)) (by_reading (reading_at (ground k) s) (λ i size is. valid _ i size (bytes-list_at (fetched_size s.processor.rip) s.memory.bytes s.processor.rip bytes) is))) (λ _. tt)

pub all_admitted : (k : Linkage) → ReadsValid k.reads → Admits k
all_admitted k valid s t turn w legacy words bytes e = subst (λ (x : Event Stored). EventAdmits k s legacy words w x) e (all k s legacy words w valid bytes)
