use Rattle.linked_laws.proofs.Bytes.{segments_have_bytes}
use Rattle.linked_laws.proofs.laws.linked_segments_hold_bytes.Goals as goal

pub returns : goal.returns
returns c = segments_have_bytes
