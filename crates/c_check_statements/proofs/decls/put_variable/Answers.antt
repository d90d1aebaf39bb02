use Rattle.std.proofs.Common.{sym, ◌∙◌}
use Rattle.c_check_rules.specs.Names.{variable_names}
use Rattle.c_check_statements.proofs.Scopes.{last_has_name}
use Rattle.c_check_statements.proofs.decls.put_variable.Goals as goal

pub set-requires : goal.set-requires
set-requires c = last_has_name c.args.v.name (variable_names c.args.all.now) c.in-Some.at (sym c.requires ∙ c.in-Some.is)
