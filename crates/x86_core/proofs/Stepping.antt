-- Requests to a memory of frames, by what the memory answers.
use Rattle.std.proofs.Common.{◌≡◌, ℕ, ◌<◌, ◌≤◌, Bool, true, false, nat_lt, List, length, refl, sym, ap, ◌∙◌, arith}
use Rattle.std.specs.Prelude.{Result, Ok, Err, IsOk, Option, Some, None, slice_index}
use Rattle.std.proofs.lemmas.Bool.{cond-true, cond-false, lt-ltb, le-ltb}
use Rattle.mx_base.specs.Memory.{Bytes}
use Rattle.paged_memory.specs.declared.stops.MemStop.{MemStop}
use Rattle.paged_memory.specs.declared.stops.MemStop.TheVariants.{Unmapped, NoFrames}
use Rattle.paged_memory.specs.Answers.{load_answer, store_answer, Writes as WritesIn, Touches}
use Rattle.paged_memory.specs.Touched.{touched_by, frames_for}
use Rattle.paged_memory.specs.Paged.{Paged, bytes_of, touched_of}
use Rattle.x86_forms.specs.declared.instr.Rm.{Rm}
use Rattle.x86_forms.specs.declared.instr.Rm.TheVariants.{Reg as InReg, Mem as InMem}
use Rattle.x86_forms.specs.declared.instr.Reg.{Reg}
use Rattle.x86_forms.specs.declared.instr.Mem.{Mem as Operand}
use Rattle.x86_forms.specs.Arithmetic.{low, Operation, writes_result, result_of, no_flags}
use Rattle.x86_forms.specs.Processor.{Processor, address, bytes_in, rax, rdx, rsp, with_reg, below_stack}
use Rattle.x86_alu.specs.Alu.{flags_in}
use Rattle.x86_forms.specs.Requests.{Program, Ends, Fails, Reads, Writes, Undefines, Done, Refused, run, either_way}
use Rattle.x86_forms.specs.declared.instr.Instr.{Instr}
use Rattle.x86_forms.specs.Table.{row, value_then, written_to, with_result, with_flags, with_flags_after, at_next, operated, quotient_kept, with_stack, pushed}
use Rattle.paged_memory.specs.Framed.{Framed, framed_of}
use Rattle.x86_core.specs.Framed.{framed, framed_answer, framed_write}
use Rattle.x86_core.specs.declared.cpu.Cpu.{Cpu}
use Rattle.x86_core.specs.declared.cpu.Done as d
use Rattle.x86_core.specs.declared.cpu.CoreStop.{CoreStop}
use Rattle.x86_core.specs.declared.cpu.CoreStop.TheVariants.{Mem, Divide, Undefined}
use Rattle.x86_core.specs.Steps.{BoundsState, seen, Does, bounds_after, moved, outcome_of, core_answer, StoresAs, operand_value, low_answer}

-- ---- stores

pub stored : (old new : Paged) (n a v : ℕ) → store_answer n (bytes_of old) a v ≡ Ok (bytes_of new) → Touches n a old new → framed_write (framed_of old) a n v ≡ Ok (framed_of new)
unfolding framed_write
stored old new n a v e t =
    let touched = touched_by n a (touched_of old) in
    let same : touched_of new ≡ touched = t.touched in
    let enough : length touched ≤ old.capacity = omega (arith, t.enough, t.capacity, ap (length {A = ℕ}) same) in
    let left : Framed = record { bytes = bytes_of new; touched = touched; capacity = old.capacity } in
    ap (framed_answer (framed_of old) touched) e
    ∙ cond-false (nat_lt old.capacity (frames_for touched)) (Err (NoFrames (frames_for (touched_of old)) old.capacity)) (Ok left) (le-ltb old.capacity (frames_for touched) enough)
    ∙ (λ i. Ok (record { bytes = bytes_of new; touched = sym same i; capacity = sym t.capacity i }))

short_answer : (x : Framed) (touched : List ℕ) (used frames : ℕ) (r : Result Bytes MemStop) → IsOk r → x.capacity < frames_for touched → used ≡ frames_for x.touched → frames ≡ x.capacity → framed_answer x touched r ≡ Err (NoFrames used frames)
short_answer x touched used frames (Ok b) h few eu ef =
    cond-true (nat_lt x.capacity (frames_for touched)) (Err (NoFrames (frames_for x.touched) x.capacity)) (Ok (record { bytes = b; touched = touched; capacity = x.capacity })) (lt-ltb x.capacity (frames_for touched) few)
    ∙ (λ i. Err (NoFrames (sym eu i) (sym ef i)))
short_answer x touched used frames (Err stop) h few eu ef = absurd cc

pub refused_store : (old new : Paged) (n a v : ℕ) (stop : MemStop) → WritesIn n a (store_answer n (bytes_of old) a v) old new (Err stop) → framed_write (framed_of old) a n v ≡ Err stop
unfolding framed_write
refused_store old new n a v (Unmapped x) h = ap (framed_answer (framed_of old) (touched_by n a (touched_of old))) h
refused_store old new n a v (NoFrames used frames) h = short_answer (framed_of old) (touched_by n a (touched_of old)) used frames (store_answer n (bytes_of old) a v) h.0 h.1.few h.1.in_use h.1.capacity

-- ---- requests

pub run-ends : (c after : Processor) (x : Framed) → run framed c (Ends after) x ≡ Done after x
unfolding run
run-ends c after x = refl

pub run-write_ok : (c : Processor) (p : Program) (x y : Framed) (a n v : ℕ) (implicit : Bool) → framed_write x a n v ≡ Ok y → run framed c (Writes a n v implicit p) x ≡ run framed c p y
unfolding run
run-write_ok c p x y a n v implicit e = ap (λ r. either_way r (λ y. run framed c p y) (λ o. Refused o c x)) e

pub run-write_err : (c : Processor) (p : Program) (x : Framed) (a n v : ℕ) (implicit : Bool) (o : MemStop) → framed_write x a n v ≡ Err o → run framed c (Writes a n v implicit p) x ≡ Refused o c x
unfolding run
run-write_err c p x a n v implicit o e = ap (λ r. either_way r (λ y. run framed c p y) (λ o. Refused o c x)) e

pub run-read_ok : (c : Processor) (k : ℕ → Program) (x : Framed) (a n v : ℕ) (implicit : Bool) → load_answer n x.bytes a ≡ Ok v → run framed c (Reads a n implicit k) x ≡ run framed c (k v) x
unfolding run
run-read_ok c k x a n v implicit e = ap (λ r. either_way r (λ v. run framed c (k v) x) (λ o. Refused o c x)) e

pub run-read_err : (c : Processor) (k : ℕ → Program) (x : Framed) (a n : ℕ) (implicit : Bool) (o : MemStop) → load_answer n x.bytes a ≡ Err o → run framed c (Reads a n implicit k) x ≡ Refused o c x
unfolding run
run-read_err c k x a n implicit o e = ap (λ r. either_way r (λ v. run framed c (k v) x) (λ o. Refused o c x)) e

-- ---- operands

low_ok : (w v : ℕ) (r : Result ℕ MemStop) (c : Processor) (k : ℕ → Program) (x : Framed) → low_answer w r ≡ Ok v → either_way r (λ v. run framed c (k (low w v)) x) (λ o. Refused o c x) ≡ run framed c (k v) x
low_ok w v (Ok u) c k x e = let same : low w u ≡ v = cc in ap (λ v. run framed c (k v) x) same
low_ok w v (Err o) c k x e = absurd cc

low_err : (w : ℕ) (o : MemStop) (r : Result ℕ MemStop) (c : Processor) (k : ℕ → Program) (x : Framed) → low_answer w r ≡ Err o → either_way r (λ v. run framed c (k (low w v)) x) (λ o. Refused o c x) ≡ Refused o c x
low_err w o (Ok u) c k x e = absurd cc
low_err w o (Err q) c k x e = let same : q ≡ o = cc in ap (λ o. Refused o c x) same

pub run-value_ok : (c : Processor) (next w : ℕ) (rm : Rm) (k : ℕ → Program) (x : Framed) (v : ℕ) → operand_value c.regs next x.bytes w rm ≡ Ok v → run framed c (value_then c next w rm k) x ≡ run framed c (k v) x
unfolding run
run-value_ok c next w (InReg r) k x v e = let same : low w (c.regs r.0) ≡ v = cc in ap (λ v. run framed c (k v) x) same
run-value_ok c next w (InMem m) k x v e = low_ok w v (load_answer (bytes_in w) x.bytes (address c.regs next m)) c k x e

pub run-value_err : (c : Processor) (next w : ℕ) (rm : Rm) (k : ℕ → Program) (x : Framed) (o : MemStop) → operand_value c.regs next x.bytes w rm ≡ Err o → run framed c (value_then c next w rm k) x ≡ Refused o c x
unfolding run
run-value_err c next w (InReg r) k x o e = absurd cc
run-value_err c next w (InMem m) k x o e = low_err w o (load_answer (bytes_in w) x.bytes (address c.regs next m)) c k x e

-- ---- steps, by what an operand's value and a store are found to be

core_ok : (r : Result ℕ MemStop) (v : ℕ) → Ok v ≡ core_answer r → r ≡ Ok v
core_ok (Ok u) v e = let same : u ≡ v = cc in ap Ok same
core_ok (Err o) v e = absurd cc

core_err : (r : Result ℕ MemStop) (stop : CoreStop) → Err stop ≡ core_answer r → (o : MemStop) × (r ≡ Err o) × (stop ≡ Mem o)
core_err (Ok u) stop e = absurd cc
core_err (Err o) stop e = let same : stop ≡ Mem o = cc in (o, refl, same)

refused-outcome : (s : BoundsState) (cpu : Cpu) (m : Paged) (o : MemStop) (stop : CoreStop) (answer : Result d.Done CoreStop) → stop ≡ Mem o → answer ≡ Err stop → Refused o (seen s cpu) (framed_of m) ≡ outcome_of s cpu m answer
refused-outcome s cpu m o stop answer es ea = ap (outcome_of s cpu m) (sym (ea ∙ ap Err es))

pub value_found : (s : BoundsState) (cpu cpu' : Cpu) (m m' : Paged) (next w : ℕ) (rm : Rm) (k : ℕ → Program) (v : ℕ) (answer : Result d.Done CoreStop) → Ok v ≡ core_answer (operand_value (slice_index cpu.regs) next (bytes_of m) w rm) → Does s cpu m (k v) cpu' m' answer → Does s cpu m (value_then (seen s cpu) next w rm k) cpu' m' answer
value_found s cpu cpu' m m' next w rm k v answer e h = run-value_ok (seen s cpu) next w rm k (framed_of m) v (core_ok (operand_value (slice_index cpu.regs) next (bytes_of m) w rm) v e) ∙ h

pub value_refused : (s : BoundsState) (cpu : Cpu) (m : Paged) (next w : ℕ) (rm : Rm) (k : ℕ → Program) (stop : CoreStop) (answer : Result d.Done CoreStop) → Err stop ≡ core_answer (operand_value (slice_index cpu.regs) next (bytes_of m) w rm) → answer ≡ Err stop → Does s cpu m (value_then (seen s cpu) next w rm k) cpu m answer
value_refused s cpu m next w rm k stop answer e ea =
    let cause = core_err (operand_value (slice_index cpu.regs) next (bytes_of m) w rm) stop e in
    run-value_err (seen s cpu) next w rm k (framed_of m) cause.0 cause.1 ∙ refused-outcome s cpu m cause.0 stop answer cause.2 ea

-- a load of 8 bytes, as for the stack
pub load_found : (s : BoundsState) (cpu cpu' : Cpu) (m m' : Paged) (a n : ℕ) (implicit : Bool) (k : ℕ → Program) (v : ℕ) (answer : Result d.Done CoreStop) → Ok v ≡ core_answer (load_answer n (bytes_of m) a) → Does s cpu m (k v) cpu' m' answer → Does s cpu m (Reads a n implicit k) cpu' m' answer
load_found s cpu cpu' m m' a n implicit k v answer e h = run-read_ok (seen s cpu) k (framed_of m) a n v implicit (core_ok (load_answer n (bytes_of m) a) v e) ∙ h

pub load_refused : (s : BoundsState) (cpu : Cpu) (m : Paged) (a n : ℕ) (implicit : Bool) (k : ℕ → Program) (stop : CoreStop) (answer : Result d.Done CoreStop) → Err stop ≡ core_answer (load_answer n (bytes_of m) a) → answer ≡ Err stop → Does s cpu m (Reads a n implicit k) cpu m answer
load_refused s cpu m a n implicit k stop answer e ea =
    let cause = core_err (load_answer n (bytes_of m) a) stop e in
    run-read_err (seen s cpu) k (framed_of m) a n implicit cause.0 cause.1 ∙ refused-outcome s cpu m cause.0 stop answer cause.2 ea

-- a store
pub write_done : (s : BoundsState) (cpu cpu' : Cpu) (m m' : Paged) (a n v : ℕ) (implicit : Bool) (after : Processor) (done : d.Done) → framed_write (framed_of m) a n v ≡ Ok (framed_of m') → after ≡ seen (bounds_after done s) cpu' → Does s cpu m (Writes a n v implicit (Ends after)) cpu' m' (Ok done)
write_done s cpu cpu' m m' a n v implicit after done e h = run-write_ok (seen s cpu) (Ends after) (framed_of m) (framed_of m') a n v implicit e ∙ run-ends (seen s cpu) after (framed_of m') ∙ ap (λ after. Done after (framed_of m')) h

pub write_refused : (s : BoundsState) (cpu : Cpu) (m m' : Paged) (a n v : ℕ) (implicit : Bool) (p : Program) (stop : CoreStop) (answer : Result d.Done CoreStop) → StoresAs (framed_write (framed_of m) a n v) (framed_of m') (Err stop) → m' ≡ m → answer ≡ Err stop → Does s cpu m (Writes a n v implicit p) cpu m' answer
write_refused s cpu m m' a n v implicit p (Mem o) answer e em ea =
    run-write_err (seen s cpu) p (framed_of m) a n v implicit o e ∙ ap (λ m. Refused o (seen s cpu) (framed_of m)) (sym em) ∙ refused-outcome s cpu m' o (Mem o) answer refl ea
write_refused s cpu m m' a n v implicit p Divide answer e em ea = absurd e
write_refused s cpu m m' a n v implicit p Undefined answer e em ea = absurd e

-- an end
pub ends : (s : BoundsState) (cpu cpu' : Cpu) (m : Paged) (after : Processor) (done : d.Done) → after ≡ seen (bounds_after done s) cpu' → Does s cpu m (Ends after) cpu' m (Ok done)
ends s cpu cpu' m after done h = run-ends (seen s cpu) after (framed_of m) ∙ ap (λ after. Done after (framed_of m)) h

-- ---- results

pub put_register : (s : BoundsState) (cpu cpu' : Cpu) (m : Paged) (next w v : ℕ) (r : Reg) (rm : Rm) (after : Processor) → rm ≡ InReg r → with_result after w r.0 v ≡ seen s cpu' → Does s cpu m (written_to (seen s cpu) next w rm v after) cpu' m (Ok d.TheVariants.Next)
put_register s cpu cpu' m next w v r rm after e h =
    ap (λ rm. run framed (seen s cpu) (written_to (seen s cpu) next w rm v after) (framed_of m)) e ∙ ends s cpu cpu' m (with_result after w r.0 v) d.TheVariants.Next h

at_memory : (s : BoundsState) (cpu : Cpu) (x : Framed) (next w v : ℕ) (mem : Operand) (rm : Rm) (after : Processor) (a u : ℕ) → rm ≡ InMem mem → a ≡ address (slice_index cpu.regs) next mem → u ≡ low w v → run framed (seen s cpu) (written_to (seen s cpu) next w rm v after) x ≡ run framed (seen s cpu) (Writes a (bytes_in w) u false (Ends after)) x
at_memory s cpu x next w v mem rm after a u e ea eu =
    ap (λ rm. run framed (seen s cpu) (written_to (seen s cpu) next w rm v after) x) e
    ∙ (λ i. run framed (seen s cpu) (Writes (sym ea i) (bytes_in w) (sym eu i) false (Ends after)) x)

pub put_memory : (s : BoundsState) (cpu cpu' : Cpu) (m m' : Paged) (next w v : ℕ) (mem : Operand) (rm : Rm) (after : Processor) (a u : ℕ) → rm ≡ InMem mem → a ≡ address (slice_index cpu.regs) next mem → u ≡ low w v → framed_write (framed_of m) a (bytes_in w) u ≡ Ok (framed_of m') → after ≡ seen s cpu' → Does s cpu m (written_to (seen s cpu) next w rm v after) cpu' m' (Ok d.TheVariants.Next)
put_memory s cpu cpu' m m' next w v mem rm after a u e ea eu ew h =
    at_memory s cpu (framed_of m) next w v mem rm after a u e ea eu ∙ write_done s cpu cpu' m m' a (bytes_in w) u false after d.TheVariants.Next ew h

pub put_refused : (s : BoundsState) (cpu : Cpu) (m m' : Paged) (next w v : ℕ) (mem : Operand) (rm : Rm) (after : Processor) (a u : ℕ) (stop : CoreStop) (answer : Result d.Done CoreStop) → rm ≡ InMem mem → a ≡ address (slice_index cpu.regs) next mem → u ≡ low w v → StoresAs (framed_write (framed_of m) a (bytes_in w) u) (framed_of m') (Err stop) → m' ≡ m → answer ≡ Err stop → Does s cpu m (written_to (seen s cpu) next w rm v after) cpu m' answer
put_refused s cpu m m' next w v mem rm after a u stop answer e ea eu ew em er =
    at_memory s cpu (framed_of m) next w v mem rm after a u e ea eu ∙ write_refused s cpu m m' a (bytes_in w) u false (Ends after) stop answer ew em er

pub operated_flags : (s : BoundsState) (cpu cpu' : Cpu) (m : Paged) (next : ℕ) (op : Operation) (w : ℕ) (rm : Rm) (a b : ℕ) → writes_result op ≡ false → with_flags_after (seen s cpu) next op w a b ≡ seen s cpu' → Does s cpu m (operated (seen s cpu) next op w rm a b) cpu' m (Ok d.TheVariants.Next)
operated_flags s cpu cpu' m next op w rm a b e h =
    let after = with_flags_after (seen s cpu) next op w a b in
    ap (λ p. run framed (seen s cpu) p (framed_of m)) (cond-false (writes_result op) (written_to (seen s cpu) next w rm (result_of op w a b) after) (Ends after) e) ∙ ends s cpu cpu' m after d.TheVariants.Next h

pub divided_none : (s : BoundsState) (cpu : Cpu) (m : Paged) (next w : ℕ) (q : Option (ℕ × ℕ)) → None ≡ q → Does s cpu m (quotient_kept (seen s cpu) next w q) cpu m (Err Divide)
unfolding run
divided_none s cpu m next w q e = ap (λ q. run framed (seen s cpu) (quotient_kept (seen s cpu) next w q) (framed_of m)) (sym e)

pub divided_some : (s : BoundsState) (cpu cpu' : Cpu) (m : Paged) (next w : ℕ) (q : Option (ℕ × ℕ)) (x y : ℕ) → Some (x, y) ≡ q → with_flags (with_result (with_result (at_next (seen s cpu) next) w rax x) w rdx y) no_flags ≡ seen s cpu' → Does s cpu m (quotient_kept (seen s cpu) next w q) cpu' m (Ok d.TheVariants.Next)
divided_some s cpu cpu' m next w q x y e h =
    ap (λ q. run framed (seen s cpu) (quotient_kept (seen s cpu) next w q) (framed_of m)) (sym e)
    ∙ ends s cpu cpu' m (with_flags (with_result (with_result (at_next (seen s cpu) next) w rax x) w rdx y) no_flags) d.TheVariants.Next h

-- ---- the stack and targets

pub moved_to : (s : BoundsState) (cpu : Cpu) (done : d.Done) (to : ℕ) → moved done (seen s cpu) to ≡ seen (bounds_after done s) (record cpu { rip = to })
moved_to s cpu d.TheVariants.Next to = refl
moved_to s cpu (d.TheVariants.Branch call ret taken prefixed) to = refl
moved_to s cpu d.TheVariants.Service to = refl

pub moved_stack : (s : BoundsState) (cpu : Cpu) (done : d.Done) (to to' sp : ℕ) (regs : List ℕ) → to ≡ to' → slice_index regs ≡ with_reg (slice_index cpu.regs) rsp sp → with_stack (moved done (seen s cpu) to) sp ≡ seen (bounds_after done s) (record { rip = to'; regs = regs; flags = cpu.flags })
moved_stack s cpu done to to' sp regs e er =
    ap (λ c. with_stack c sp) (moved_to s cpu done to)
    ∙ (λ k. let b = bounds_after done s in record { regs = sym er k; flags = flags_in cpu.flags; rip = e k; bounds = b.bounds; preserve = b.preserve; status = b.status })

pushed_at : (s : BoundsState) (cpu : Cpu) (x : Framed) (v u sp : ℕ) (after : Processor) → sp ≡ below_stack (slice_index cpu.regs rsp) → u ≡ low 64 v → run framed (seen s cpu) (pushed (seen s cpu) v after) x ≡ run framed (seen s cpu) (Writes sp 8 u true (Ends (with_stack after sp))) x
pushed_at s cpu x v u sp after es eu = λ k. run framed (seen s cpu) (Writes (sym es k) 8 (sym eu k) true (Ends (with_stack after (sym es k)))) x

pub push_done : (s : BoundsState) (cpu cpu' : Cpu) (m m' : Paged) (v u sp : ℕ) (after : Processor) (done : d.Done) → sp ≡ below_stack (slice_index cpu.regs rsp) → u ≡ low 64 v → framed_write (framed_of m) sp 8 u ≡ Ok (framed_of m') → with_stack after sp ≡ seen (bounds_after done s) cpu' → Does s cpu m (pushed (seen s cpu) v after) cpu' m' (Ok done)
push_done s cpu cpu' m m' v u sp after done es eu ew h = pushed_at s cpu (framed_of m) v u sp after es eu ∙ write_done s cpu cpu' m m' sp 8 u true (with_stack after sp) done ew h

pub push_refused : (s : BoundsState) (cpu : Cpu) (m m' : Paged) (v u sp : ℕ) (after : Processor) (stop : CoreStop) (answer : Result d.Done CoreStop) → sp ≡ below_stack (slice_index cpu.regs rsp) → u ≡ low 64 v → StoresAs (framed_write (framed_of m) sp 8 u) (framed_of m') (Err stop) → m' ≡ m → answer ≡ Err stop → Does s cpu m (pushed (seen s cpu) v after) cpu m' answer
push_refused s cpu m m' v u sp after stop answer es eu ew em er = pushed_at s cpu (framed_of m) v u sp after es eu ∙ write_refused s cpu m m' sp 8 u true (Ends (with_stack after sp)) stop answer ew em er

-- ---- rows

-- a step that does an instruction's row, as it is written out
pub rowed : (s : BoundsState) (cpu cpu' : Cpu) (m m' : Paged) (i j : Instr) (next next' : ℕ) (p : Program) (answer : Result d.Done CoreStop) → i ≡ j → next ≡ next' → row j next (seen s cpu) ≡ p → Does s cpu m p cpu' m' answer → Does s cpu m (row i next' (seen s cpu)) cpu' m' answer
rowed s cpu cpu' m m' i j next next' p answer ei en ep h =
    (λ k. run framed (seen s cpu) (row (ei k) (sym en k) (seen s cpu)) (framed_of m)) ∙ ap (λ p. run framed (seen s cpu) p (framed_of m)) ep ∙ h

pub went : (s : BoundsState) (cpu cpu' : Cpu) (m : Paged) (done : d.Done) (to : ℕ) (answer : Result d.Done CoreStop) → cpu' ≡ record cpu { rip = to } → answer ≡ Ok done → Does s cpu m (Ends (moved done (seen s cpu) to)) cpu' m answer
went s cpu cpu' m done to answer ec ea = ends s cpu (record cpu { rip = to }) m (moved done (seen s cpu) to) done (moved_to s cpu done to) ∙ (λ k. outcome_of s (sym ec k) m (sym ea k))

pub fails : (s : BoundsState) (cpu : Cpu) (m : Paged) → Does s cpu m (Fails Undefines (seen s cpu)) cpu m (Err Undefined)
unfolding run
fails s cpu m = refl
