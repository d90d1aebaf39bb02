use Rattle.std.proofs.Common.{List, sym, subst}
use Rattle.c_tree.specs.declared.tree.Item.{Item}
use Rattle.c_grammar.specs.Reading.{Out}
use Rattle.parse_expressions.specs.Gives.{Gives}
use Rattle.c_reader.proofs.Sources as proof
use Rattle.c_reader.proofs.items.after_name.Goals as goal

pub returns-then-sees-clause-gives : goal.returns-then-sees-clause-gives
returns-then-sees-clause-gives c = subst (λ (o : Out (List Item)). Gives o c.function.result c.function.new.at) (sym (proof.name_function c.args.at.now.depth c.args.at.now.left c.args.typed c.args.stars c.args.name (sym c.if-sees.ensures))) c.function.ensures.gives

pub returns-else-sees-clause-gives : goal.returns-else-sees-clause-gives
returns-else-sees-clause-gives c = subst (λ (o : Out (List Item)). Gives o c.globals.result c.globals.new.at) (sym (proof.name_globals c.args.at.now.depth c.args.at.now.left c.args.typed c.args.stars c.args.name (sym c.if-sees.ensures))) c.globals.ensures.gives
