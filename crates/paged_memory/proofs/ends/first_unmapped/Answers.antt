use Rattle.std.proofs.Common.{sym, arith, subst, true, ℕ, ◌≤◌}
use Rattle.paged_memory.proofs.Regions.{run_end_covers, around_past, around_all, readable_all}
use Rattle.paged_memory.proofs.ends.first_unmapped.Goals as goal

pub overflow_sub-end : goal.overflow_sub-end
overflow_sub-end c = subst (λ (e : ℕ). c.args.a ≤ e) (sym c.any_end-end.ensures.end) (run_end_covers (λ r. true) c.args.a).0

pub returns-then-n-end-clause-first : goal.returns-then-n-end-clause-first
returns-then-n-end-clause-first c =
    let from = subst (λ (e : ℕ). c.args.a ≤ e) (sym c.any_end-end.ensures.end) (run_end_covers (λ r. true) c.args.a).0 in
    sym (around_past c.args.n c.args.a c.any_end-end.result c.any_end-end.ensures.end from c.any_end-end.type_inv c.if-n-end.true)

pub returns-then-n-end-clause-all : goal.returns-then-n-end-clause-all
returns-then-n-end-clause-all c = λ none. absurd (cc)

pub returns-else-n-end-clause-first : goal.returns-else-n-end-clause-first
returns-else-n-end-clause-first c =
    let from = subst (λ (e : ℕ). c.args.a ≤ e) (sym c.any_end-end.ensures.end) (run_end_covers (λ r. true) c.args.a).0 in
    sym (around_all c.args.n c.args.a c.any_end-end.result c.any_end-end.ensures.end from c.any_end-end.type_inv c.if-n-end.false)

pub returns-else-n-end-clause-all : goal.returns-else-n-end-clause-all
returns-else-n-end-clause-all c = λ none.
    let from = subst (λ (e : ℕ). c.args.a ≤ e) (sym c.any_end-end.ensures.end) (run_end_covers (λ r. true) c.args.a).0 in
    let fits = c.any_end-end.type_inv in
    let all = c.if-n-end.false in
    (readable_all c.args.n c.args.a c.any_end-end.result c.any_end-end.ensures.end c.if-n-end.false, omega (arith, from, fits, all))
