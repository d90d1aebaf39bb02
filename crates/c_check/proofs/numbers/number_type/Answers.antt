use Rattle.std.proofs.Common.{◌-◌, ap, sym, ◌∙◌, subst, arith}
use Rattle.c_types.specs.Layouts.{CanBuild}
use Rattle.c_check_rules.specs.Kinds.{core_of}
use Rattle.c_check.specs.Standing.{layers_of}
use Rattle.c_check.specs.Numbering.{core_shape}
use Rattle.c_check.proofs.TableLayers.{core-can, interned, layered-core, layer-can, layered-more, layers-length}
use Rattle.c_check.proofs.numbers.number_type.Goals as goal

pub intern-requires-clause-built : goal.intern-requires-clause-built
intern-requires-clause-built c =
    subst (CanBuild c.args.table.now) (sym (c.core_shape.ensures ∙ ap core_shape c.core.ensures))
    (core-can c.args.table.now (core_of c.args.kind.now) c.layers-layers.result.now c.args.kind.now c.layers-layers.ensures c.requires.built.0)

pub layers-init : goal.layers-init
layers-init c =
    layered-core c.args.table.now c.intern.new.self c.in_ok-t.t (core_of c.args.kind.now) c.layers-layers.result.now
    (interned c.args.table.now c.intern.new.self c.core_shape.result (core_shape (core_of c.args.kind.now)) c.in_ok-t.t (c.core_shape.ensures ∙ ap core_shape c.core.ensures)
    c.in_ok-t.ensures.found c.in_ok-t.ensures.means c.in_ok-t.ensures.more c.in_ok-t.ensures.extends c.in_ok-t.ensures.structs)

pub intern-requires-in-layers-clause-room : goal.intern-requires-in-layers-clause-room
intern-requires-in-layers-clause-room c =
    omega (arith, c.layers.invariant.few, ap layers_of c.layers-layers.ensures, layers-length (core_of c.args.kind.now) c.layers-layers.result.now, c.requires.built.1)

pub intern-requires-in-layers-clause-built : goal.intern-requires-in-layers-clause-built
intern-requires-in-layers-clause-built c =
    layer-can c.args.table.now c.layers.table c.layers.t (core_of c.args.kind.now) c.layers-layers.result.now c.args.kind.now (c.layers.i - 1) c.layers.i _ c.layer_shape.result c.layer_shape.ensures
    c.layers.invariant (omega arith) c.requires.members c.layers-layers.ensures c.requires.built.0

pub layers-preserved : goal.layers-preserved
layers-preserved c =
    layered-more c.args.table.now c.layers.table c.intern-in-layers.new.self c.layers.t c.in_ok-t-2.t (core_of c.args.kind.now) c.layers-layers.result.now (c.layers.i - 1) c.layers.i _
    c.layers.invariant (omega arith)
    (interned c.layers.table c.intern-in-layers.new.self c.layer_shape.result _ c.in_ok-t-2.t c.layer_shape.ensures
    c.in_ok-t-2.ensures.found c.in_ok-t-2.ensures.means c.in_ok-t-2.ensures.more c.in_ok-t-2.ensures.extends c.in_ok-t-2.ensures.structs)

pub returns-clause-few : goal.returns-clause-few
returns-clause-few c =
    omega (arith, c.layers.invariant.few, ap layers_of c.layers-layers.ensures, layers-length (core_of c.args.kind.now) c.layers-layers.result.now, c.requires.built.1)
