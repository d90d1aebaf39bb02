use Rattle.std.proofs.Common.{rules}
use Rattle.c_check_statements.specs.Sources.{item}
use Rattle.c_check_statements.proofs.Steps.{list_stops, list_goes, list_ends}
use Rattle.c_check_statements.proofs.items.read_items.Goals as goal

pub returns-in_err-read_item : goal.returns-in_err-read_item
returns-in_err-read_item c = list_stops item c.args.items.now c.items.item-index c.item-item.result c.items.invariant c.items-test.true c.item-item.is c.in_err-read_item.ensures (search rules)

pub items-preserved : goal.items-preserved
items-preserved c = list_goes item c.args.items.now c.items.item-index c.item-item.result c.items.invariant c.items-test.true c.item-item.is c.in_ok-read_item.ensures

pub returns : goal.returns
returns c = list_ends item c.args.items.now c.items.item-index c.items.invariant c.items-test.false
