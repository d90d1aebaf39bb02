use Rattle.gate_laws.proofs.Placing.{placed_by_bytes}
use Rattle.gate_laws.proofs.laws.code_stands_where_its_bytes_are.Goals as goal

pub returns : goal.returns
returns c = λ k reader image code at. placed_by_bytes k reader image code at
