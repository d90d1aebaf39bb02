use Rattle.std.proofs.Common.{◌≤◌, slice_index_or}
use Rattle.c_types.specs.declared.shape.TypeId.{TypeId}
use Rattle.c_types.specs.Types.{Types, structs_of, type_at}
use Rattle.c_types.specs.Layouts.{layout_at}
use Rattle.std.proofs.Common.{arith, sym, subst}
use Rattle.c_types.specs.declared.layout.Layout.{Layout}
use Rattle.c_types.proofs.LayoutLemmas.{IsAligned, layout-aligned}
use Rattle.c_types.proofs.Laying.{laying-none, laying-step}
use Rattle.c_types.proofs.table.TypeTable.lay_out.Goals as goal

pub loop-member-init : goal.loop-member-init
loop-member-init c = (laying-none c.in_ok-offsets.offsets.items _ c.in_ok-offsets.ensures.items, omega arith, omega arith, omega arith)

aligned-at : (table : Types) (t : TypeId) → IsAligned (layout_at table t)
aligned-at table t = layout-aligned (structs_of table) (type_at table t)

aligned : (c : goal.After-layout-layout) → IsAligned c.layout-layout.result
aligned c = subst IsAligned (sym c.layout-layout.ensures) (aligned-at c.args.self.now (slice_index_or c.args.members.now c.loop-member.member-index (record { 0 = 0 })))

pub round_up-offset-requires-clause-some : goal.round_up-offset-requires-clause-some
round_up-offset-requires-clause-some c = (aligned c).some

pub round_up-offset-requires-clause-few : goal.round_up-offset-requires-clause-few
round_up-offset-requires-clause-few c = (aligned c).few

pub overflow_add-end : goal.overflow_add-end
overflow_add-end c =
    let can = c.requires.members c.loop-member.member-index (record { 0 = 0 }) c.loop-member-test.true in
    let size : c.layout-layout.result.size ≤ 16777216 = subst (λ (l : Layout). l.size ≤ 16777216) (sym c.layout-layout.ensures) can.2 in
    let few : c.layout-layout.result.align ≤ 8 = subst (λ (l : Layout). l.align ≤ 8) (sym c.layout-layout.ensures) (aligned-at c.args.self.now (slice_index_or c.args.members.now c.loop-member.member-index (record { 0 = 0 }))).few in
    omega (arith, size, few)

pub loop-member-preserved : goal.loop-member-preserved
loop-member-preserved c =
    let can = c.requires.members c.loop-member.member-index (record { 0 = 0 }) c.loop-member-test.true in
    let size : c.layout-layout.result.size ≤ 16777216 = subst (λ (l : Layout). l.size ≤ 16777216) (sym c.layout-layout.ensures) can.2 in
    let some : 1 ≤ c.layout-layout.result.align = subst (λ (l : Layout). 1 ≤ l.align) (sym c.layout-layout.ensures) (aligned-at c.args.self.now (slice_index_or c.args.members.now c.loop-member.member-index (record { 0 = 0 }))).some in
    let few : c.layout-layout.result.align ≤ 8 = subst (λ (l : Layout). l.align ≤ 8) (sym c.layout-layout.ensures) (aligned-at c.args.self.now (slice_index_or c.args.members.now c.loop-member.member-index (record { 0 = 0 }))).few in (
      laying-step (layout_at c.args.self.now) c.args.members.now c.loop-member.member-index (record { 0 = 0 }) c.loop-member.offsets.items c.push.new.self.items
          c.loop-member.end c.loop-member.align c.round_up-offset.result c.max-align.result c.layout-layout.result
          c.loop-member-test.true c.layout-layout.ensures c.round_up-offset.ensures.value c.in_ok-push.ensures.items c.max-align.ensures c.loop-member.invariant.0,
      omega (arith, size, few),
      omega (arith, some),
      omega (arith, few),
    )
