use Rattle.std.specs.Prelude.{slice_index}
use Rattle.std.specs.Fmt.{signed_decimal}
use Rattle.std.proofs.Common.{sym, refl, subst, arith, ℕ, ◌%◌, List, [], ◌∷◌, ◌++◌}
use Rattle.mx_base.specs.Numbers.{value_of}
use Rattle.mx_base.specs.declared.numbers.IntKind.TheVariants.{I64}
use Rattle.mx_base.specs.Services.{minus}
use Rattle.paged_memory.specs.Paged.{bytes_of}
use Rattle.guest_services.specs.declared.services.Served.{Served as Answer}
use Rattle.guest_services.specs.declared.services.Served.TheVariants.{Value, Exit, StackOver, ReadFault}
use Rattle.guest_services.specs.Calls.{Ends, meant}
use Rattle.guest_services.proofs.Sinks.{Adds-none}
use Rattle.guest_services.proofs.Serving.{told, tells, exits, overflows, allocs, frees, frees_nothing, puts, gets, gets_nothing, read_faults, answers, no_means, print_means, put_means}
use Rattle.guest_services.proofs.services.call.Goals as goal

abbrev word : List ℕ → ℕ → ℕ
word args k = slice_index args k

pub returns-in-1-clause-answer : goal.returns-in-1-clause-answer
returns-in-1-clause-answer g c =
    ((told (g.I.Source.left c.args.input.now)), tells (g.I.Source.left c.args.input.now), subst (λ (n : ℕ). Ends (meant (bytes_of c.args.m.now) n (word c.args.args 0) (word c.args.args 1) (word c.args.args 2) c.args.heap.now (told (g.I.Source.left c.args.input.now))) record { heap = c.args.heap.now; left = (g.I.Source.left c.args.input.now); held = (g.O.Sink.held c.args.out.now) } record { heap = c.args.heap.now; left = (g.I.Source.left c.args.input.now); held = (g.O.Sink.held c.write.new.out) } c.write.result) (sym c.in-1.is) (c.write.ensures.answer c.args.heap.now (g.I.Source.left c.args.input.now) (told (g.I.Source.left c.args.input.now)) (tells (g.I.Source.left c.args.input.now))))

pub returns-in-60-clause-answer : goal.returns-in-60-clause-answer
returns-in-60-clause-answer g c =
    ((told (g.I.Source.left c.args.input.now)), tells (g.I.Source.left c.args.input.now), subst (λ (n : ℕ). Ends (meant (bytes_of c.args.m.now) n (word c.args.args 0) (word c.args.args 1) (word c.args.args 2) c.args.heap.now (told (g.I.Source.left c.args.input.now))) record { heap = c.args.heap.now; left = (g.I.Source.left c.args.input.now); held = (g.O.Sink.held c.args.out.now) } record { heap = c.args.heap.now; left = (g.I.Source.left c.args.input.now); held = (g.O.Sink.held c.args.out.now) } (Exit (word c.args.args 0 % 256))) (sym c.in-60.is) (exits (bytes_of c.args.m.now) (word c.args.args 0) (word c.args.args 1) (word c.args.args 2) c.args.heap.now (told (g.I.Source.left c.args.input.now)) (g.I.Source.left c.args.input.now) (g.O.Sink.held c.args.out.now)))

pub returns-in-4096-clause-answer : goal.returns-in-4096-clause-answer
returns-in-4096-clause-answer g c =
    ((told (g.I.Source.left c.args.input.now)), tells (g.I.Source.left c.args.input.now), subst (λ (n : ℕ). Ends (meant (bytes_of c.args.m.now) n (word c.args.args 0) (word c.args.args 1) (word c.args.args 2) c.args.heap.now (told (g.I.Source.left c.args.input.now))) record { heap = c.args.heap.now; left = (g.I.Source.left c.args.input.now); held = (g.O.Sink.held c.args.out.now) } record { heap = c.alloc.new.self; left = (g.I.Source.left c.args.input.now); held = (g.O.Sink.held c.args.out.now) } (Value c.alloc.result)) (sym c.in-4096.is) (allocs (bytes_of c.args.m.now) (word c.args.args 0) (word c.args.args 1) (word c.args.args 2) c.alloc.result c.args.heap.now c.alloc.new.self (told (g.I.Source.left c.args.input.now)) (g.I.Source.left c.args.input.now) (g.O.Sink.held c.args.out.now) c.alloc.ensures (tells (g.I.Source.left c.args.input.now))))

pub returns-then-free-clause-answer : goal.returns-then-free-clause-answer
returns-then-free-clause-answer g c =
    ((told (g.I.Source.left c.args.input.now)), tells (g.I.Source.left c.args.input.now), subst (λ (n : ℕ). Ends (meant (bytes_of c.args.m.now) n (word c.args.args 0) (word c.args.args 1) (word c.args.args 2) c.args.heap.now (told (g.I.Source.left c.args.input.now))) record { heap = c.args.heap.now; left = (g.I.Source.left c.args.input.now); held = (g.O.Sink.held c.args.out.now) } record { heap = c.free.new.self; left = (g.I.Source.left c.args.input.now); held = (g.O.Sink.held c.args.out.now) } (Value 0)) (sym c.in-4097.is) (frees (bytes_of c.args.m.now) (word c.args.args 0) (word c.args.args 1) (word c.args.args 2) c.args.heap.now c.free.new.self (told (g.I.Source.left c.args.input.now)) (g.I.Source.left c.args.input.now) (g.O.Sink.held c.args.out.now) c.if-free.ensures (tells (g.I.Source.left c.args.input.now))))

pub returns-else-free-clause-answer : goal.returns-else-free-clause-answer
returns-else-free-clause-answer g c = let freed = c.if-free.ensures in
    ((told (g.I.Source.left c.args.input.now)), tells (g.I.Source.left c.args.input.now), subst (λ (n : ℕ). Ends (meant (bytes_of c.args.m.now) n (word c.args.args 0) (word c.args.args 1) (word c.args.args 2) c.args.heap.now (told (g.I.Source.left c.args.input.now))) record { heap = c.args.heap.now; left = (g.I.Source.left c.args.input.now); held = (g.O.Sink.held c.args.out.now) } record { heap = c.free.new.self; left = (g.I.Source.left c.args.input.now); held = (g.O.Sink.held c.args.out.now) } (Value 18446744073709551615)) (sym c.in-4097.is) (frees_nothing (bytes_of c.args.m.now) (word c.args.args 0) (word c.args.args 1) (word c.args.args 2) c.args.heap.now c.free.new.self (told (g.I.Source.left c.args.input.now)) (g.I.Source.left c.args.input.now) (g.O.Sink.held c.args.out.now) freed.0 freed.1 (tells (g.I.Source.left c.args.input.now))))

pub returns-in-4098-clause-answer : goal.returns-in-4098-clause-answer
returns-in-4098-clause-answer g c =
    ((told (g.I.Source.left c.args.input.now)), tells (g.I.Source.left c.args.input.now), subst (λ (n : ℕ). Ends (meant (bytes_of c.args.m.now) n (word c.args.args 0) (word c.args.args 1) (word c.args.args 2) c.args.heap.now (told (g.I.Source.left c.args.input.now))) record { heap = c.args.heap.now; left = (g.I.Source.left c.args.input.now); held = (g.O.Sink.held c.args.out.now) } record { heap = c.args.heap.now; left = (g.I.Source.left c.args.input.now); held = (g.O.Sink.held c.print.new.out) } c.put_answer.result) (sym c.in-4098.is) (subst (λ (r : Answer). Ends (meant (bytes_of c.args.m.now) 0x1002 (word c.args.args 0) (word c.args.args 1) (word c.args.args 2) c.args.heap.now (told (g.I.Source.left c.args.input.now))) record { heap = c.args.heap.now; left = (g.I.Source.left c.args.input.now); held = (g.O.Sink.held c.args.out.now) } record { heap = c.args.heap.now; left = (g.I.Source.left c.args.input.now); held = (g.O.Sink.held c.print.new.out) } r) (sym c.put_answer.ensures.answer) (puts (meant (bytes_of c.args.m.now) 0x1002 (word c.args.args 0) (word c.args.args 1) (word c.args.args 2) c.args.heap.now (told (g.I.Source.left c.args.input.now))) c.args.heap.now (g.I.Source.left c.args.input.now) (g.O.Sink.held c.args.out.now) (g.O.Sink.held c.print.new.out) (g.O.Sink.faults c.args.out.now) (g.O.Sink.faults c.print.new.out) (told (g.I.Source.left c.args.input.now)) (signed_decimal (value_of I64 (word c.args.args 0)) ++ 10 ∷ []) c.print.result (print_means (bytes_of c.args.m.now) (word c.args.args 0) (word c.args.args 1) (word c.args.args 2) c.args.heap.now (told (g.I.Source.left c.args.input.now))) (tells (g.I.Source.left c.args.input.now)) c.print.ensures)))

pub returns-in-4099-clause-answer : goal.returns-in-4099-clause-answer
returns-in-4099-clause-answer g c =
    ((told (g.I.Source.left c.args.input.now)), tells (g.I.Source.left c.args.input.now), subst (λ (n : ℕ). Ends (meant (bytes_of c.args.m.now) n (word c.args.args 0) (word c.args.args 1) (word c.args.args 2) c.args.heap.now (told (g.I.Source.left c.args.input.now))) record { heap = c.args.heap.now; left = (g.I.Source.left c.args.input.now); held = (g.O.Sink.held c.args.out.now) } record { heap = c.args.heap.now; left = (g.I.Source.left c.args.input.now); held = (g.O.Sink.held c.put_all.new.out) } c.put_answer-in-4099.result) (sym c.in-4099.is) (subst (λ (r : Answer). Ends (meant (bytes_of c.args.m.now) 0x1003 (word c.args.args 0) (word c.args.args 1) (word c.args.args 2) c.args.heap.now (told (g.I.Source.left c.args.input.now))) record { heap = c.args.heap.now; left = (g.I.Source.left c.args.input.now); held = (g.O.Sink.held c.args.out.now) } record { heap = c.args.heap.now; left = (g.I.Source.left c.args.input.now); held = (g.O.Sink.held c.put_all.new.out) } r) (sym c.put_answer-in-4099.ensures.answer) (puts (meant (bytes_of c.args.m.now) 0x1003 (word c.args.args 0) (word c.args.args 1) (word c.args.args 2) c.args.heap.now (told (g.I.Source.left c.args.input.now))) c.args.heap.now (g.I.Source.left c.args.input.now) (g.O.Sink.held c.args.out.now) (g.O.Sink.held c.put_all.new.out) (g.O.Sink.faults c.args.out.now) (g.O.Sink.faults c.put_all.new.out) (told (g.I.Source.left c.args.input.now)) (word c.args.args 0 % 256 ∷ []) c.put_all.result (put_means (bytes_of c.args.m.now) (word c.args.args 0) (word c.args.args 1) (word c.args.args 2) c.args.heap.now (told (g.I.Source.left c.args.input.now))) (tells (g.I.Source.left c.args.input.now)) c.put_all.ensures)))

pub returns-in-Ok-None-clause-answer : goal.returns-in-Ok-None-clause-answer
returns-in-Ok-None-clause-answer g c =
    let got = rw c.in-Ok-None.field-0-is at c.in-Ok-None.ensures.answer in
    ([], got.0, subst (λ (n : ℕ). Ends (meant (bytes_of c.args.m.now) n (word c.args.args 0) (word c.args.args 1) (word c.args.args 2) c.args.heap.now []) record { heap = c.args.heap.now; left = (g.I.Source.left c.args.input.now); held = (g.O.Sink.held c.args.out.now) } record { heap = c.args.heap.now; left = (g.I.Source.left c.get.new.input); held = (g.O.Sink.held c.args.out.now) } (Value 18446744073709551615)) (sym c.in-4100.is) (gets_nothing (bytes_of c.args.m.now) (word c.args.args 0) (word c.args.args 1) (word c.args.args 2) c.args.heap.now (g.I.Source.left c.args.input.now) (g.I.Source.left c.get.new.input) (g.O.Sink.held c.args.out.now) got.1))

pub returns-in-Ok-Some-clause-answer : goal.returns-in-Ok-Some-clause-answer
returns-in-Ok-Some-clause-answer g c =
    let got = rw c.in-Ok-Some.field-0-is at c.in-Ok-Some.ensures.answer in
    (c.in-Ok-Some.byte ∷ got.0, got.1, subst (λ (n : ℕ). Ends (meant (bytes_of c.args.m.now) n (word c.args.args 0) (word c.args.args 1) (word c.args.args 2) c.args.heap.now (c.in-Ok-Some.byte ∷ got.0)) record { heap = c.args.heap.now; left = (g.I.Source.left c.args.input.now); held = (g.O.Sink.held c.args.out.now) } record { heap = c.args.heap.now; left = (g.I.Source.left c.get.new.input); held = (g.O.Sink.held c.args.out.now) } (Value c.in-Ok-Some.byte)) (sym c.in-4100.is) (gets (bytes_of c.args.m.now) (word c.args.args 0) (word c.args.args 1) (word c.args.args 2) c.in-Ok-Some.byte c.args.heap.now got.0 (g.I.Source.left c.args.input.now) (g.I.Source.left c.get.new.input) (g.O.Sink.held c.args.out.now) got.2))

pub returns-in-Err-clause-answer : goal.returns-in-Err-clause-answer
returns-in-Err-clause-answer g c =
    (told (g.I.Source.left c.args.input.now), tells (g.I.Source.left c.args.input.now), subst (λ (n : ℕ). Ends (meant (bytes_of c.args.m.now) n (word c.args.args 0) (word c.args.args 1) (word c.args.args 2) c.args.heap.now (told (g.I.Source.left c.args.input.now))) record { heap = c.args.heap.now; left = (g.I.Source.left c.args.input.now); held = (g.O.Sink.held c.args.out.now) } record { heap = c.args.heap.now; left = (g.I.Source.left c.get.new.input); held = (g.O.Sink.held c.args.out.now) } ReadFault) (sym c.in-4100.is) (read_faults (bytes_of c.args.m.now) (word c.args.args 0) (word c.args.args 1) (word c.args.args 2) c.args.heap.now (told (g.I.Source.left c.args.input.now)) (g.I.Source.left c.args.input.now) (g.I.Source.left c.get.new.input) (g.O.Sink.held c.args.out.now) c.in-Err.ensures.answer))

pub returns-in_default-clause-answer : goal.returns-in_default-clause-answer
returns-in_default-clause-answer g c = (
  told (g.I.Source.left c.args.input.now),
  tells (g.I.Source.left c.args.input.now),
  answers (meant (bytes_of c.args.m.now) c.args.number (word c.args.args 0) (word c.args.args 1) (word c.args.args 2) c.args.heap.now (told (g.I.Source.left c.args.input.now))) (minus 38) 18446744073709551578 c.args.heap.now (g.I.Source.left c.args.input.now) (g.O.Sink.held c.args.out.now) (g.O.Sink.held c.args.out.now) (told (g.I.Source.left c.args.input.now)) []
      (no_means (bytes_of c.args.m.now) c.args.number (word c.args.args 0) (word c.args.args 1) (word c.args.args 2) c.args.heap.now (told (g.I.Source.left c.args.input.now)) (omega arith) (omega arith) (omega arith) (omega arith) (omega arith) (omega arith) (omega arith) (omega arith)) refl (tells (g.I.Source.left c.args.input.now)) (Adds-none (g.O.Sink.held c.args.out.now)),
)

pub returns-in-4101-clause-answer : goal.returns-in-4101-clause-answer
returns-in-4101-clause-answer g c =
    ((told (g.I.Source.left c.args.input.now)), tells (g.I.Source.left c.args.input.now), subst (λ (n : ℕ). Ends (meant (bytes_of c.args.m.now) n (word c.args.args 0) (word c.args.args 1) (word c.args.args 2) c.args.heap.now (told (g.I.Source.left c.args.input.now))) record { heap = c.args.heap.now; left = (g.I.Source.left c.args.input.now); held = (g.O.Sink.held c.args.out.now) } record { heap = c.args.heap.now; left = (g.I.Source.left c.args.input.now); held = (g.O.Sink.held c.args.out.now) } StackOver) (sym c.in-4101.is) (overflows (bytes_of c.args.m.now) (word c.args.args 0) (word c.args.args 1) (word c.args.args 2) c.args.heap.now (told (g.I.Source.left c.args.input.now)) (g.I.Source.left c.args.input.now) (g.O.Sink.held c.args.out.now)))
