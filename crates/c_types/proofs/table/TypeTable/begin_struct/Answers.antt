use Rattle.std.proofs.Common.{ap, length-append, reverse, subst, sym, arith, length, false, ◌≡◌}
use Rattle.std.specs.Map.{values_of}
use Rattle.c_types.specs.Types.{is_given}
use Rattle.c_types.specs.Sound.{table_of}
use Rattle.c_types.proofs.Steps.{step-begun, open-begun}
use Rattle.c_types.proofs.table.TypeTable.begin_struct.Goals as goal

-- src/table.rt:75:5
pub invariant_of-self-2 : goal.invariant_of-self-2
invariant_of-self-2 c = rw c.in_ok-push.ensures.items (step-begun c.self.inside.shapes.entries c.self.inside.structs.items c.self.inside.ended.items c.self.invariant)

pub returns-clause-unfinished : goal.returns-clause-unfinished
returns-clause-unfinished c =
    let i = c.self.inside in
    let table = table_of i.shapes.entries i.structs.items i.ended.items in
    let long : c.len-number.result ≡ length i.structs.items = omega (arith, c.len-number.ensures, i.structs.ok) in (
      omega (arith, long, simp length-append at (ap length c.in_ok-push.ensures.items)),
      subst (λ n. is_given (reverse i.ended.items) n ≡ false) (sym long) (open-begun table (values_of i.shapes.entries) i.structs.items c.self.invariant),
    )
