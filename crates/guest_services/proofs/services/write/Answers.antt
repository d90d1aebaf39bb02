use Rattle.std.proofs.Common.{◌∙◌, sym, refl, []}
use Rattle.mx_base.specs.Services.{minus}
use Rattle.mx_base.specs.Memory.{list_at}
use Rattle.paged_memory.specs.Paged.{bytes_of}
use Rattle.guest_services.specs.Calls.{meant}
use Rattle.guest_services.proofs.Sinks.{Adds-none}
use Rattle.guest_services.proofs.Serving.{write_elsewhere, write_nothing, write_refused, write_done, answers, faults, refuses}
use Rattle.guest_services.proofs.services.write.Goals as goal

pub returns-then-descriptor-ne1-clause-answer : goal.returns-then-descriptor-ne1-clause-answer
returns-then-descriptor-ne1-clause-answer g c = λ heap left input may.
    answers (meant (bytes_of c.args.m.now) 1 c.args.descriptor c.args.from c.args.n heap input) (minus 9) 18446744073709551607 heap left (g.O.Sink.held c.args.out.now) (g.O.Sink.held c.args.out.now) input []
    (write_elsewhere (bytes_of c.args.m.now) c.args.descriptor c.args.from c.args.n heap input c.if-descriptor-ne1.true) refl may (Adds-none (g.O.Sink.held c.args.out.now))

pub returns-then-n-eq0-clause-answer : goal.returns-then-n-eq0-clause-answer
returns-then-n-eq0-clause-answer g c = λ heap left input may.
    answers (meant (bytes_of c.args.m.now) 1 c.args.descriptor c.args.from c.args.n heap input) 0 0 heap left (g.O.Sink.held c.args.out.now) (g.O.Sink.held c.args.out.now) input []
    (write_nothing (bytes_of c.args.m.now) c.args.descriptor c.args.from c.args.n heap input c.if-descriptor-ne1.false c.if-n-eq0.true) refl may (Adds-none (g.O.Sink.held c.args.out.now))

pub returns-in-Some-clause-answer : goal.returns-in-Some-clause-answer
returns-in-Some-clause-answer g c = λ heap left input may.
    refuses (meant (bytes_of c.args.m.now) 1 c.args.descriptor c.args.from c.args.n heap input) c.in-Some.a c.in-Some.a heap left (g.O.Sink.held c.args.out.now)
    (write_refused (bytes_of c.args.m.now) c.args.descriptor c.args.from c.args.n heap input c.in-Some.a c.if-descriptor-ne1.false c.if-n-eq0.false (sym c.in-Some.ensures.first)) refl

pub returns-in-Ok-clause-answer : goal.returns-in-Ok-clause-answer
returns-in-Ok-clause-answer g c = λ heap left input may.
    let put = c.in-Ok.ensures in
    answers (meant (bytes_of c.args.m.now) 1 c.args.descriptor c.args.from c.args.n heap input) c.args.n c.args.n heap left (g.O.Sink.held c.args.out.now) (g.O.Sink.held c.put_bytes.new.out) input (list_at c.args.n (bytes_of c.args.m.now) c.args.from)
    (write_done (bytes_of c.args.m.now) c.args.descriptor c.args.from c.args.n heap input c.if-descriptor-ne1.false c.if-n-eq0.false (sym c.first_unmapped.ensures.first ∙ c.in_default.is)) refl may put.0

pub returns-in-Err-clause-answer : goal.returns-in-Err-clause-answer
returns-in-Err-clause-answer g c = λ heap left input may.
    let put = c.in-Err.ensures in
    faults (meant (bytes_of c.args.m.now) 1 c.args.descriptor c.args.from c.args.n heap input) c.args.n heap left (g.O.Sink.held c.args.out.now) (g.O.Sink.held c.put_bytes.new.out) input (list_at c.args.n (bytes_of c.args.m.now) c.args.from)
    (write_done (bytes_of c.args.m.now) c.args.descriptor c.args.from c.args.n heap input c.if-descriptor-ne1.false c.if-n-eq0.false (sym c.first_unmapped.ensures.first ∙ c.in_default.is)) put.0 put.1
