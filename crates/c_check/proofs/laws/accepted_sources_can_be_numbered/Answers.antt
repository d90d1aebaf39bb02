use Rattle.c_tree.proofs.FewStars.{formed_has_few_stars}
use Rattle.c_check.proofs.StandingItems.{numbered_source}
use Rattle.c_check.proofs.laws.accepted_sources_can_be_numbered.Goals as goal

pub returns : goal.returns
returns c = λ tree room few formed accepted. numbered_source tree room formed (formed_has_few_stars tree formed) few accepted
