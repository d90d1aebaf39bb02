use Rattle.std.proofs.Common.{List, sym, subst}
use Rattle.c_tree.specs.declared.tree.Item.{Item}
use Rattle.c_grammar.specs.Reading.{Out}
use Rattle.parse_expressions.specs.Gives.{Gives}
use Rattle.c_reader.proofs.Sources as proof
use Rattle.c_reader.proofs.items.after_tag.Goals as goal

pub returns-then-sees-clause-gives : goal.returns-then-sees-clause-gives
returns-then-sees-clause-gives c = subst (λ (o : Out (List Item)). Gives o c.struct_item.result c.struct_item.new.at) (sym (proof.tag_members c.args.at.now.depth c.args.at.now.left c.args.start c.args.tag (sym c.if-sees.ensures))) c.struct_item.ensures.gives

pub returns-clause-gives : goal.returns-clause-gives
returns-clause-gives c = subst (λ (o : Out (List Item)). Gives o c.named_item.result c.named_item.new.at) (sym (proof.tag_item c.args.at.now.depth c.args.at.now.left c.args.start c.args.tag (sym c.if-sees.ensures))) c.named_item.ensures.gives
