use Rattle.x86_forms.specs.Table.{row}
use Rattle.x86_forms.proofs.TableKeeps.{tidy_row}
use Rattle.x86_core.proofs.Frames.{tidy_over_bytes}
use Rattle.x86_core.proofs.laws.rows_need_frames_alone.Goals as goal

pub returns : goal.returns
returns c = λ i next before x. tidy_over_bytes before _ (row i next before) x (tidy_row i next before)
