use Rattle.std.proofs.Common.{◌∙◌, sym, ap}
use Rattle.c_tree.specs.declared.tree.StmtKind.TheVariants as v
use Rattle.steps_facts.specs.Seen.{reached_of}
use Rattle.c_emit_initialisers.proofs.OneLemmas.{if_ok}
use Rattle.c_emit_statements.proofs.WalkLemmas.{for_goes, tested_goes}
use Rattle.c_emit_statements.proofs.walks.+past.Goals as goal

pub past_statement-returns-in_ok-n-in-For : goal.past_statement-returns-in_ok-n-in-For
past_statement-returns-in_ok-n-in-For g t c = if_ok c.past_statement-in-For.result _ _
    (λ q h. for_goes c.args.s.now c.in-For.first c.in-For.test c.in-For.next c.get-looped.result.now (g.K.Knows.around c.args.known.now) (reached_of c.args.r) (reached_of c.in_ok-f-in-For.f) (reached_of c.in_ok-t-in-For.t) (reached_of c.in_ok-n-in-For.n) (reached_of q)
    (c.in-For.is ∙ ap (λ x. v.For c.in-For.first c.in-For.test c.in-For.next x) (sym c.get-looped.ensures)) c.in_ok-f-in-For.ensures
    (c.in_ok-t-in-For.ensures ∙ tested_goes c.in-For.test (g.K.Knows.around c.args.known.now) (reached_of c.in_ok-f-in-For.f)) c.in_ok-n-in-For.ensures h) c.past_statement-in-For.ensures
