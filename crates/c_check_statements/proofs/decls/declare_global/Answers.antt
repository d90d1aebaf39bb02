use Rattle.std.proofs.Common.{ℕ, List, ap, ◌∙◌, rules}
use Rattle.std.specs.Prelude.{Option}
use Rattle.c_types.specs.Types.{CType}
use Rattle.c_check_statements.specs.Declarations.{global_twice, is_main}
use Rattle.c_check_statements.proofs.Declaring.{of_counts, counts_stop, judge_stop, judge_ends}
use Rattle.c_check_statements.proofs.decls.declare_global.Goals as goal

pub returns-in_err-counts : goal.returns-in_err-counts
returns-in_err-counts c = counts_stop _ _ _ _ _ _ (of_counts _ c.as_slice.ensures c.in_err-counts.ensures) (search rules)

pub returns-in_err-kind : goal.returns-in_err-kind
returns-in_err-kind c = judge_stop _ _ _ _ _ _ _ _ (of_counts _ c.as_slice.ensures c.in_ok-counts.ensures) (c.global_twice-twice.ensures ∙ ap (λ (n : List ℕ). global_twice n c.args.state.now.scope c.in_ok-known.known) c.as_slice-2.ensures ∙ ap (λ (k : Option CType). global_twice c.args.decl.now.name c.args.state.now.scope k) c.in_ok-known.ensures) (c.is_main-wrong.ensures ∙ ap (λ (n : List ℕ). is_main n) c.as_slice-3.ensures) c.in_err-kind.ensures (search rules)

pub returns : goal.returns
returns c = judge_ends _ _ _ _ _ _ _ _ (of_counts _ c.as_slice.ensures c.in_ok-counts.ensures) (c.global_twice-twice.ensures ∙ ap (λ (n : List ℕ). global_twice n c.args.state.now.scope c.in_ok-known.known) c.as_slice-2.ensures ∙ ap (λ (k : Option CType). global_twice c.args.decl.now.name c.args.state.now.scope k) c.in_ok-known.ensures) (c.is_main-wrong.ensures ∙ ap (λ (n : List ℕ). is_main n) c.as_slice-3.ensures) c.in_ok-kind.ensures c.in_ok-add_variable.ensures
