use Rattle.std.proofs.Common.{sym, ap, ◌∙◌}
use Rattle.c_check_statements.proofs.Scopes.{from_place, stands_from}
use Rattle.c_check_statements.proofs.decls.is_here.Goals as goal

pub returns-in-Some : goal.returns-in-Some
returns-in-Some c = ap (from_place c.args.scope.now.from) (sym c.in-Some.is ∙ c.local.ensures) ∙ stands_from c.args.name.now c.args.scope.now.from c.args.scope.now.locals

pub returns-in-None : goal.returns-in-None
returns-in-None c = ap (from_place c.args.scope.now.from) (sym c.in-None.is ∙ c.local.ensures) ∙ stands_from c.args.name.now c.args.scope.now.from c.args.scope.now.locals
