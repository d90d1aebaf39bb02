use Rattle.x86_forms.proofs.TableKeeps.{tidy_row, tidy_run}
use Rattle.x86_forms.proofs.table_laws.failing_rows_leave_all.Goals as goal

pub returns : goal.returns
returns g c = λ s i next before x. (tidy_run s before _ _ x (tidy_row i next before)).leaves
