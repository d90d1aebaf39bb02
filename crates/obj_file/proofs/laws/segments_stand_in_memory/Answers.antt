use Rattle.obj_file.proofs.LoadedLaws as loaded
use Rattle.obj_file.proofs.laws.segments_stand_in_memory.Goals as goal

pub returns-clause-segments : goal.returns-clause-segments
returns-clause-segments c = loaded.segments_stand

pub returns-clause-zeros : goal.returns-clause-zeros
returns-clause-zeros c = loaded.zeros_elsewhere
