use Rattle.std.specs.Prelude.{length, replicate}
use Rattle.std.proofs.Common.{◌≡◌, ◌∙◌, sym, ap, arith, subst, ℕ, ◌+◌, ◌≤◌, take, List, refl, length-take-le}
use Rattle.mx_base.specs.Outside.{Adds, AddsFront}
use Rattle.mx_base.specs.Regions.{is_readable}
use Rattle.mx_base.specs.Memory.{list_at}
use Rattle.paged_memory.specs.Paged.{bytes_of}
use Rattle.paged_memory.specs.Answers.{read_answer}
use Rattle.paged_memory.proofs.Answered.{read_allowed}
use Rattle.paged_memory.proofs.PageBytes.{list_at-none, length-list_at}
use Rattle.guest_services.proofs.Sinks.{Adds-none, bytes_more, bytes_front, risen_from, refused_part}
use Rattle.guest_services.proofs.output.put_bytes.Goals as goal

abbrev buffer : List ℕ
buffer = replicate 64 0

long : (n : ℕ) → n ≤ 64 → length (take n buffer) ≡ n
long n most = length-take-le n buffer most

pub loop-at-init : goal.loop-at-init
loop-at-init g c = record {
  within = omega arith;
  sent = subst (λ (xs : List ℕ). Adds (g.O.Sink.held c.args.out.now) (g.O.Sink.held c.args.out.now) xs) (sym (list_at-none (bytes_of c.args.m.now) c.args.from)) (Adds-none (g.O.Sink.held c.args.out.now));
  no_fault = refl;
}

pub unreachable-requires : goal.unreachable-requires
unreachable-requires g c =
    let below = c.loop-at-test.true in
    let least = c.min-count.ensures in
    let fits : c.loop-at.at + c.min-count.result ≤ c.args.n = omega (arith, below, least) in
    let all = read_allowed c.min-count.result (c.args.from + c.loop-at.at) (refused_part is_readable c.args.n c.args.from c.loop-at.at c.min-count.result c.requires.mapped fits) in
    let count = long c.min-count.result (omega (arith, least)) in
    let clash = c.in-Err.ensures.answer ∙ ap (λ k. read_answer k (c.args.from + c.loop-at.at)) count ∙ all in
    cc

pub returns-in-Err-put_all : goal.returns-in-Err-put_all
returns-in-Err-put_all g c =
    let below = c.loop-at-test.true in
    let least = c.min-count.ensures in
    let fits : c.loop-at.at + c.min-count.result ≤ c.args.n = omega (arith, below, least) in
    let count = long c.min-count.result (omega (arith, least)) in
    let same = c.in-Ok.ensures.done ∙ ap (λ k. list_at k (bytes_of c.args.m.now) (c.args.from + c.loop-at.at)) count in
    let put = c.in-Err-put_all.ensures in
    let all = length-list_at c.args.n (bytes_of c.args.m.now) c.args.from in (
      omega (arith, all, below),
      bytes_front (g.O.Sink.held c.args.out.now) (g.O.Sink.held c.loop-at.out) (g.O.Sink.held c.put_all.new.out) (bytes_of c.args.m.now) c.args.from c.loop-at.at c.min-count.result c.args.n fits c.loop-at.invariant.sent
          (subst (λ (xs : List ℕ). AddsFront (g.O.Sink.held c.loop-at.out) (g.O.Sink.held c.put_all.new.out) xs) same put.1),
      risen_from (g.O.Sink.faults c.args.out.now) (g.O.Sink.faults c.loop-at.out) (g.O.Sink.faults c.put_all.new.out) c.loop-at.invariant.no_fault put.2,
    )

pub loop-at-preserved : goal.loop-at-preserved
loop-at-preserved g c =
    let below = c.loop-at-test.true in
    let least = c.min-count.ensures in
    let fits : c.loop-at.at + c.min-count.result ≤ c.args.n = omega (arith, below, least) in
    let count = long c.min-count.result (omega (arith, least)) in
    let same = c.in-Ok.ensures.done ∙ ap (λ k. list_at k (bytes_of c.args.m.now) (c.args.from + c.loop-at.at)) count in
    let put = c.in-Ok-put_all.ensures in
    record {
      within = fits;
      sent = bytes_more (g.O.Sink.held c.args.out.now) (g.O.Sink.held c.loop-at.out) (g.O.Sink.held c.put_all.new.out) (bytes_of c.args.m.now) c.args.from c.loop-at.at c.min-count.result c.loop-at.invariant.sent
          (subst (λ (xs : List ℕ). Adds (g.O.Sink.held c.loop-at.out) (g.O.Sink.held c.put_all.new.out) xs) same put.0);
      no_fault = put.1 ∙ c.loop-at.invariant.no_fault;
    }
