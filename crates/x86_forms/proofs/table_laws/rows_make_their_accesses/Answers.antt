use Rattle.x86_forms.proofs.TableAccesses.{asks_row}
use Rattle.x86_forms.proofs.table_laws.rows_make_their_accesses.Goals as goal

pub returns : goal.returns
returns c = asks_row
