use Rattle.std.proofs.Common.{◌≡◌, ◌<◌, map, length}
use Rattle.c_types.specs.Types.{structs_of, members_of, members_at}
use Rattle.c_types.specs.Layouts.{layout_of, offsets_from}
use Rattle.std.proofs.Common.{arith, ap, sym, ◌∙◌, subst, get_or}
use Rattle.std.proofs.lemmas.List.{length-map, get_or_read}
use Rattle.c_types.proofs.Laying.{length-offsets_from, ended-of-member, members-of-struct}
use Rattle.c_types.proofs.table.TypeTable.offset.Goals as goal

members-are : (c : goal.In-Struct) → members_at c.args.self.now c.args.t ≡ members_of (structs_of c.args.self.now) c.in-Struct.number
members-are c = members-of-struct c.args.self.now c.args.t c.in-Struct.number c.in-Struct.ensures.means

pub laid-requires-clause-ended : goal.laid-requires-clause-ended
laid-requires-clause-ended c =
    ended-of-member (structs_of c.args.self.now) c.in-Struct.number c.args.member (subst (λ ms. c.args.member < length ms) (members-are c) c.requires.member)

inside : (c : goal.After-laid) → c.args.member < length c.laid.result.now.offsets.items
inside c =
    let structs = structs_of c.args.self.now in
    let are = members-of-struct c.args.self.now c.args.t c.in-Struct.number c.in-Struct.ensures.means in
    let long = ap length c.laid.ensures.offsets ∙ length-offsets_from 0 (map (layout_of structs) (members_of structs c.in-Struct.number)) ∙ length-map (members_of structs c.in-Struct.number) (layout_of structs) in
    subst (λ n. c.args.member < n) (sym long) (subst (λ ms. c.args.member < length ms) are c.requires.member)

pub index-requires : goal.index-requires
index-requires c = let here = inside c in omega (arith, here, c.laid.result.now.offsets.ok)

pub returns : goal.returns
returns c =
    let structs = structs_of c.args.self.now in
    let are = members-of-struct c.args.self.now c.args.t c.in-Struct.number c.in-Struct.ensures.means in
    let long = ap length c.laid.ensures.offsets ∙ length-offsets_from 0 (map (layout_of structs) (members_of structs c.in-Struct.number)) ∙ length-map (members_of structs c.in-Struct.number) (layout_of structs) in
    let within : c.args.member < length c.laid.result.now.offsets.items = subst (λ n. c.args.member < n) (sym long) (subst (λ ms. c.args.member < length ms) are c.requires.member) in
    get_or_read c.laid.result.now.offsets.items c.args.member c.index.result.now within c.index.ensures 0
    ∙ ap (λ xs. get_or xs c.args.member 0) c.laid.ensures.offsets
    ∙ ap (λ ms. get_or (offsets_from 0 (map (layout_of structs) ms)) c.args.member 0) (sym are)
