use Rattle.c_tree.proofs.FewStars.{formed_has_few_stars}
use Rattle.c_check.proofs.Roomy.{frames_have_room}
use Rattle.c_check.proofs.laws.accepted_frames_have_room.Goals as goal

pub returns : goal.returns
returns c = λ tree room few formed accepted. frames_have_room tree room formed (formed_has_few_stars tree formed) few accepted
