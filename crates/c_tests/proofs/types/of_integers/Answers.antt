use Rattle.std.proofs.Common.{◌≡◌, ◌<◌, length, ap, sym, subst, arith, false, length-append}
use Rattle.std.proofs.lemmas.Option.{slice_get_within}
use Rattle.std.specs.List.{All}
use Rattle.c_types.specs.Types.{is_given}
use Rattle.c_types.specs.Layouts.{CanStand}
use Rattle.c_types.proofs.Standing.{one-more-stands}
use Rattle.c_tests.proofs.types.of_integers.Goals as goal

pub loop-kind-preserved : goal.loop-kind-preserved
loop-kind-preserved c =
    let long = simp length-append at (ap length c.in_ok-push.ensures.items) in (
      subst (All (CanStand c.intern.new.self)) (sym c.in_ok-push.ensures.items)
          (one-more-stands c.loop-kind.table c.intern.new.self c.loop-kind.members.items c.in_ok-member.member _ _ c.intern.ensures.extends c.in_ok-member.ensures.found c.in_ok-member.ensures.means c.loop-kind.invariant.0),
      (
        subst (λ n. c.in_ok-number.number < n) (sym c.intern.ensures.structs.0) c.loop-kind.invariant.1.0,
        subst (λ es. is_given es c.in_ok-number.number ≡ false) (sym c.intern.ensures.structs.1) c.loop-kind.invariant.1.1,
      ),
      omega (arith, c.intern.ensures.more, c.loop-kind.invariant.2),
      omega (arith, long, c.loop-kind.invariant.3),
    )

pub returns-clause-inside : goal.returns-clause-inside
returns-clause-inside c = slice_get_within _ _ _ c.in_ok-t.ensures.found
