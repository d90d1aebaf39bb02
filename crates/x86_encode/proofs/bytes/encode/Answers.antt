use Rattle.std.proofs.Common.{subst, sym}
use Rattle.x86_forms.specs.Room.{IsWritable}
use Rattle.x86_forms.proofs.Writable.{layout_of-IsWritable}
use Rattle.x86_encode.proofs.bytes.encode.Goals as goal

pub emit-requires : goal.emit-requires
emit-requires c = subst (λ l. IsWritable l) (sym c.lay_out.ensures) (layout_of-IsWritable c.args.i.now c.requires)
