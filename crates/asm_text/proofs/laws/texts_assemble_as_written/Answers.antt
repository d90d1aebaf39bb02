use Rattle.asm_text.proofs.Evaluated.{codes_bounds, codes_all, stores_all, refuses_shape, refuses_others, example_whole}
use Rattle.asm_text.proofs.laws.texts_assemble_as_written.Goals as goal

pub returns-clause-bounds_code : goal.returns-clause-bounds_code
returns-clause-bounds_code c = codes_bounds

pub returns-clause-code : goal.returns-clause-code
returns-clause-code c = codes_all

pub returns-clause-stored : goal.returns-clause-stored
returns-clause-stored c = stores_all

pub returns-clause-shapes : goal.returns-clause-shapes
returns-clause-shapes c = refuses_shape

pub returns-clause-refusals : goal.returns-clause-refusals
returns-clause-refusals c = refuses_others

pub returns-clause-whole : goal.returns-clause-whole
returns-clause-whole c = example_whole
