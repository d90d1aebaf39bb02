use Rattle.std.proofs.Common.{ap, ◌∙◌, sym, subst, refl, ◌++◌, ◌∷◌, []}
use Rattle.steps_structs.specs.Structs.{AreKnown, declared, structs_known}
use Rattle.steps_structs.proofs.StructLemmas.{known_more, structs_more}
use Rattle.steps_structs.proofs.known.declare_struct.Goals as goal

pub returns-clause-known : goal.returns-clause-known
returns-clause-known c = let ks = c.args.structs.now in let k = declared c.args.types.now ks c.args.tag.now c.args.decls.now c.args.members.now in
    subst (AreKnown c.args.types.now) (sym (c.in_ok-push.ensures.ok ∙ ap (λ x. ks ++ x ∷ []) (c.in_ok-known.ensures ∙ ap (λ xs. declared c.args.types.now xs c.args.tag.now c.args.decls.now c.args.members.now) c.as_slice.ensures))) (known_more c.args.types.now ks k c.requires.known c.requires.members refl refl)

pub returns-clause-structs : goal.returns-clause-structs
returns-clause-structs c = let ks = c.args.structs.now in let k = declared c.args.types.now ks c.args.tag.now c.args.decls.now c.args.members.now in
    ap (structs_known c.args.types.now) (c.in_ok-push.ensures.ok ∙ ap (λ x. ks ++ x ∷ []) (c.in_ok-known.ensures ∙ ap (λ xs. declared c.args.types.now xs c.args.tag.now c.args.decls.now c.args.members.now) c.as_slice.ensures)) ∙ structs_more c.args.types.now ks k
