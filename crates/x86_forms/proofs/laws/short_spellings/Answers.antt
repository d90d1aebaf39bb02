use Rattle.x86_forms.proofs.ShortCode.{spelling-short}
use Rattle.x86_forms.proofs.laws.short_spellings.Goals as goal

pub returns : goal.returns
returns c = spelling-short
