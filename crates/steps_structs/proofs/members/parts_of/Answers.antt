use Rattle.std.proofs.Common.{ap, ◌∙◌, sym, subst, map}
use Rattle.std.proofs.lemmas.Result.{IfOk-weaker}
use Rattle.std.specs.Prelude.{All}
use Rattle.c_types.specs.Types.{IsIn}
use Rattle.c_types.specs.Layouts.{layout_of, offsets_from}
use Rattle.steps_facts.specs.Around.{part_types, part_offsets, IsPart}
use Rattle.steps_structs.specs.Structs.{structs_known}
use Rattle.steps_structs.proofs.StructLemmas.{ids_known}
use Rattle.steps_structs.proofs.PartLemmas.{types_of_parts, offsets_of_parts, parts_known}
use Rattle.steps_structs.proofs.members.parts_of.Goals as goal

pub returns-clause-types : goal.returns-clause-types
returns-clause-types c = let s = structs_known c.args.types.now c.args.structs.now in
    IfOk-weaker c.placed.result _ _ (λ parts e. ap (part_types c.args.types.now) e ∙ types_of_parts c.args.types.now s 0 c.members-all.result.now
    ∙ c.members-all.ensures.types c.args.types.now ∙ sym (c.requires.types c.args.owner)) c.placed.ensures

pub returns-clause-offsets : goal.returns-clause-offsets
returns-clause-offsets c = let s = structs_known c.args.types.now c.args.structs.now in
    IfOk-weaker c.placed.result _ _ (λ parts e. ap part_offsets e ∙ offsets_of_parts c.args.types.now s 0 c.members-all.result.now
    ∙ ap (λ ts. offsets_from 0 (map (layout_of s) ts)) (c.members-all.ensures.types c.args.types.now ∙ sym (c.requires.types c.args.owner))) c.placed.ensures

pub returns-clause-known : goal.returns-clause-known
returns-clause-known c = let s = structs_known c.args.types.now c.args.structs.now in
    IfOk-weaker c.placed.result _ _ (λ parts e. subst (All (IsPart c.args.types.now)) (sym e) (parts_known c.args.types.now s 0 c.members-all.result.now
    (subst (All (IsIn c.args.types.now)) (sym c.members-all.ensures.ids) (ids_known c.args.types.now c.args.structs.now c.args.owner c.requires.members)))) c.placed.ensures
