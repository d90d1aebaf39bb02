use Rattle.x86_forms.specs.Table.{row}
use Rattle.x86_forms.proofs.TableAlike.{run_alike}
use Rattle.x86_forms.proofs.table_laws.memories_do_rows_alike.Goals as goal

pub returns : goal.returns
returns g c = λ m n h i next before x y r. run_alike _ m n h before (row i next before) x y r
