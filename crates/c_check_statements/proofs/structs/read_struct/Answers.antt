use Rattle.std.proofs.Common.{◌∙◌, slice_get}
use Rattle.c_check_rules.specs.Names.{tags}
use Rattle.c_check_statements.specs.Structs.{gathered}
use Rattle.c_check_statements.proofs.Scopes.{gathered_tag}
use Rattle.c_check_statements.proofs.structs.read_struct.Goals as goal

pub close_struct-requires : goal.close_struct-requires
close_struct-requires c =
    let gathers = c.in_ok-read_members-2.ensures.is in
    let known = gathers.2 ∙ (λ i. (gathered (c.new-members.ensures i) c.args.decls.now (c.in_ok-open_struct.ensures i)).state) in
    (λ i. slice_get (tags (known i).scope.structs) (c.len-number.ensures i)) ∙ gathered_tag c.args.tag.now c.args.decls.now c.args.state.now
