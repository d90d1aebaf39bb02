use Rattle.listing_laws.proofs.Back.{read_back, same_object, no_line}
use Rattle.listing_laws.proofs.again.reassembled.Goals as goal

pub assemble-requires : goal.assemble-requires
assemble-requires c = (read_back _ _ _ c.requires c.type_inv.code c.in_ok-text.ensures c.as_slice.ensures.value).short

pub returns-in-Ok : goal.returns-in-Ok
returns-in-Ok c = same_object _ _ _ c.in-Ok.ensures.told (read_back _ _ _ c.requires c.type_inv.code c.in_ok-text.ensures c.as_slice.ensures.value).object

pub unreachable-requires : goal.unreachable-requires
unreachable-requires c = no_line _ _ _ _ _ c.in-Err-Line.ensures.told c.in-Err-Line.field-0-is (read_back _ _ _ c.requires c.type_inv.code c.in_ok-text.ensures c.as_slice.ensures.value).object
