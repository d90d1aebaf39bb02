use Rattle.bounds_plan.specs.elaboration.Types.{sort_of}
use Rattle.c_accepted.specs.Linked.{declared_by}
use Rattle.accepted_trees.specs.Limits.{gives_pointer}
use Rattle.program_laws.specs.Functions.{returns_in, takes_in}
use Rattle.linked_trees.specs.Declared.{IsLinkedTo, returns_declared, takes_declared}
use Rattle.linked_trees.proofs.Calls.{within_too}
use Rattle.linked_trees.proofs.Declared.{declared_serve, linked_gives, linked_takes}
use Rattle.linked_trees.proofs.laws.linked_functions_are_within_limits.Goals as goal

pub returns : goal.returns
returns c = λ located takes_outside program linked f layout have low k l calls.
    let source = (linked f).source in
    let signatures = declared_by source in
    let symbols = source.layout.functions in
    let keeps = c.linked_functions_keep_to_limits.ensures located (returns_declared symbols signatures) (takes_declared symbols signatures) takes_outside program linked f layout
    (declared_serve located source.layout signatures have low) in
    record {
      signature = keeps.signature;
      known = keeps.known;
      within = within_too located (gives_pointer (sort_of keeps.signature.result)) (returns_declared symbols signatures) (returns_in k l) (takes_declared symbols signatures) (takes_in k l)
          (IsLinkedTo k l source.layout signatures)
          (λ symbol is. linked_gives located source.layout signatures have k l symbol is)
          (λ symbol is args. linked_takes located source.layout signatures have k l symbol is args)
          (program f).fun keeps.within calls;
    }
