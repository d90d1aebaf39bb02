use Rattle.c_types.proofs.LawLemmas.{size-multiple}
use Rattle.c_types.proofs.LayoutLemmas.{layout-aligned}
use Rattle.c_types.proofs.laws.sizes_are_multiples.Goals as goal

pub returns-clause-multiple : goal.returns-clause-multiple
returns-clause-multiple c = size-multiple

pub returns-clause-some : goal.returns-clause-some
returns-clause-some c structs type = (layout-aligned structs type).some

pub returns-clause-few : goal.returns-clause-few
returns-clause-few c structs type = (layout-aligned structs type).few
