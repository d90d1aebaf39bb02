use Rattle.std.proofs.Common.{ap, ◌∙◌}
use Rattle.mx_base.specs.BoundsStore.{bounds_for}
use Rattle.x86_forms.specs.Processor.{index_register}
use Rattle.obj_file.proofs.StoreOfC.{load_gives, bounds_matching, bounds_differing, bounds_of_none}
use Rattle.obj_file.proofs.store_laws.bndldx_gives_kept_bounds_where_values_match.Goals as goal

pub returns-clause-matches : goal.returns-clause-matches
returns-clause-matches c reads outers mode s t b m next k does kept same = load_gives reads outers mode next s b m t does ∙ ap (bounds_for (index_register s.processor.regs m.index)) kept ∙ bounds_matching (index_register s.processor.regs m.index) k same

pub returns-clause-differs : goal.returns-clause-differs
returns-clause-differs c reads outers mode s t b m next k does kept apart = load_gives reads outers mode next s b m t does ∙ ap (bounds_for (index_register s.processor.regs m.index)) kept ∙ bounds_differing (index_register s.processor.regs m.index) k apart

pub returns-clause-none : goal.returns-clause-none
returns-clause-none c reads outers mode s t b m next does kept = load_gives reads outers mode next s b m t does ∙ ap (bounds_for (index_register s.processor.regs m.index)) kept ∙ bounds_of_none (index_register s.processor.regs m.index)
