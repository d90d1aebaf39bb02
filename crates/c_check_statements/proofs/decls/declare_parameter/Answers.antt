use Rattle.std.proofs.Common.{ℕ, List, refl, ap, ◌∙◌, rules}
use Rattle.c_check_statements.specs.Declarations.{stands_here}
use Rattle.c_check_statements.proofs.Declaring.{of_counts, counts_stop, judge_stop, judge_ends}
use Rattle.c_check_statements.proofs.decls.declare_parameter.Goals as goal

pub returns-in_err-counts : goal.returns-in_err-counts
returns-in_err-counts c = counts_stop _ _ _ _ _ _ (of_counts _ c.as_slice.ensures c.in_err-counts.ensures) (search rules)

pub returns-in_err-kind : goal.returns-in_err-kind
returns-in_err-kind c = judge_stop _ _ _ _ _ _ _ _ (of_counts _ c.as_slice.ensures c.in_ok-counts.ensures) (c.is_here-twice.ensures ∙ ap (λ (n : List ℕ). stands_here n c.args.state.now.scope) c.as_slice-2.ensures) refl c.in_err-kind.ensures (search rules)

pub returns : goal.returns
returns c = judge_ends _ _ _ _ _ _ _ _ (of_counts _ c.as_slice.ensures c.in_ok-counts.ensures) (c.is_here-twice.ensures ∙ ap (λ (n : List ℕ). stands_here n c.args.state.now.scope) c.as_slice-2.ensures) refl c.in_ok-kind.ensures c.in_ok-add_local.ensures
