use Rattle.std.proofs.Common.{sym, ◌∙◌}
use Rattle.c_check_rules.specs.Names.{function_names}
use Rattle.c_check_statements.proofs.Scopes.{last_has_name}
use Rattle.c_check_statements.proofs.decls.put_function.Goals as goal

pub set-requires : goal.set-requires
set-requires c = last_has_name c.args.f.name (function_names c.args.all.now) c.in-Some.at (sym c.requires ∙ c.in-Some.is)
