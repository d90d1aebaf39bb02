use Rattle.std.proofs.Common.{rules}
use Rattle.c_check_statements.proofs.Filling.{filling_stops, filling_ends}
use Rattle.c_check_statements.proofs.initialisers.read_filling.Goals as goal

pub returns-in_err-t : goal.returns-in_err-t
returns-in_err-t c = filling_stops _ _ _ c.in_err-t.ensures (search rules)

pub returns : goal.returns
returns c = filling_ends _ _ _ _ c.in_ok-t.ensures c.fills_target-fills.ensures c.len-literals.ensures c.len-used.ensures c.keep_texts.ensures
