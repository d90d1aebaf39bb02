use Rattle.bounds_plan.proofs.Keeps.{kept_fits, only_kept_fits, kept_word}
use Rattle.bounds_plan.proofs.elaborate_laws.kept_words_lose_nothing.Goals as goal

pub returns-clause-kept : goal.returns-clause-kept
returns-clause-kept c = kept_fits

pub returns-clause-only : goal.returns-clause-only
returns-clause-only c = only_kept_fits

pub returns-clause-word : goal.returns-clause-word
returns-clause-word c = kept_word
