use Rattle.std.proofs.Common.{sym, ◌∙◌}
use Rattle.std.proofs.lemmas.Map.Entries.{length-keys_of}
use Rattle.c_types.proofs.Steps.{IsAdded, added}
use Rattle.c_types.proofs.table.TypeTable.add.Goals as goal

all : (c : goal.In_ok-insert) → IsAdded c.insert.new.self.entries c.self.inside.structs.items c.self.inside.ended.items c.args.self.now c.args.s
all c = added c.self.inside.shapes.entries c.self.inside.structs.items c.self.inside.ended.items c.self.invariant c.args.s c.kept_for-kept.result c.insert.new.self.entries c.args.self.now
    c.self.view_is c.requires.built c.requires.absent c.kept_for-kept.ensures c.in_ok-insert.ensures.entries

pub invariant_of-self-2 : goal.invariant_of-self-2
invariant_of-self-2 c = (all c).sound

pub returns-clause-added : goal.returns-clause-added
returns-clause-added c = (all c).is

pub returns-clause-once : goal.returns-clause-once
returns-clause-once c = (all c).sound.differ

pub returns-clause-means : goal.returns-clause-means
returns-clause-means c = (all c).means c.len-next.result (rw (← c.self.view_is) (c.len-next.ensures.len ∙ sym (length-keys_of c.self.inside.shapes.entries)))

pub returns-clause-extends : goal.returns-clause-extends
returns-clause-extends c = (all c).extends
