use Rattle.obj_file.proofs.Readers.{read_spelled, spelled_read}
use Rattle.obj_file.proofs.reader_laws.instructions_are_read_where_they_are_spelled.Goals as goal

pub returns : goal.returns
returns x c g s i size exact bytes code = (read_spelled g exact s bytes code i size, λ h. spelled_read g exact s bytes i size h.0 h.1)
