use Rattle.std.proofs.Common.{Some, slice_set}
use Rattle.c_types.proofs.Steps.{IsGiven, given, given-is}
use Rattle.std.proofs.Common.{sym, ◌∙◌}
use Rattle.c_types.proofs.table.TypeTable.end_struct.Goals as goal

all : (c : goal.Joined-index_mut) → IsGiven c.self.inside.shapes.entries (slice_set c.self.inside.structs.items c.args.s (Some c.in_ok-laid.laid)) c.push.new.self.items c.args.self.now c.args.s c.args.members.now
all c = given c.self.inside.shapes.entries c.self.inside.structs.items c.self.inside.ended.items c.self.invariant c.in_ok-laid.laid c.args.s c.args.members.now c.in_ok-members.members.items
    c.push.new.self.items c.args.self.now c.self.view_is c.requires.unfinished.0 (sym (given-is c.args.self.now c.args.s) ∙ c.requires.unfinished.1) c.requires.members c.in_ok-laid.ensures.layout c.in_ok-laid.ensures.offsets
    c.in_ok-members.ensures.items c.in_ok-push.ensures.items

pub invariant_of-self-2 : goal.invariant_of-self-2
invariant_of-self-2 c = (all c).sound

pub returns-clause-extends : goal.returns-clause-extends
returns-clause-extends c = (all c).extends

pub returns-clause-sized : goal.returns-clause-sized
returns-clause-sized c = (all c).sized

pub returns-clause-members : goal.returns-clause-members
returns-clause-members c = (all c).has_members
