use Rattle.std.proofs.Common.{refl, sym, ap, ◌∙◌, ◌+◌, ◌++◌, map, arith, length, slice_index_or}
use Rattle.std.proofs.lemmas.List.{length-append, length-map}
use Rattle.bounds_plan.specs.elaboration.Scalars.{scalars_of}
use Rattle.steps_structs.specs.Scalars.{few, moved}
use Rattle.steps_structs.specs.Structs.{structs_known}
use Rattle.steps_structs.proofs.ScalarLemmas.{members_on, members_ended}
use Rattle.steps_structs.proofs.scalars.scalars_laid.Goals as goal

pub loop-member-preserved : goal.loop-member-preserved
loop-member-preserved c =
    let structs = structs_known c.args.types.now c.args.structs.now in
    let put = c.in_ok-put_moved.ensures ∙ ap (λ p. c.loop-member.all ++ map (moved c.in_ok-offset.offset) p) c.as_slice.ensures in
    let long = ap length put ∙ length-append c.loop-member.all (map (moved c.in_ok-offset.offset) c.in-Some.part) ∙ ap (λ n. length c.loop-member.all + n) (length-map c.in-Some.part (moved c.in_ok-offset.offset)) in record {
      rest = members_on c.args.types.now structs c.args.members.now c.loop-member.member-index _ c.loop-member.free c.in_ok-offset.offset c.in_ok-free.free c.in_ok-one.one
          (slice_index_or c.args.members.now c.loop-member.member-index (record { 0 = 0 })) c.loop-member.all c.put_moved.new.all c.in-Some.part _
          c.loop-member-test.true (omega arith) refl c.in_ok-one.ensures c.in_ok-offset.ensures c.in_ok-free.ensures
          (sym c.in-Some.is ∙ c.in_ok-part.ensures ∙ ap (λ t. few (scalars_of structs t)) (sym c.shape-shape.ensures.means)) put c.loop-member.invariant.rest;
      few = omega (arith, long, c.len.ensures, c.len-in-loop-member.ensures, c.if-len.false);
    }

pub returns : goal.returns
returns c = members_ended c.args.types.now (structs_known c.args.types.now c.args.structs.now) c.args.members.now c.loop-member.member-index c.loop-member.free c.loop-member.all _
    (omega (arith, c.loop-member-test.false)) c.loop-member.invariant.rest c.loop-member.invariant.few
