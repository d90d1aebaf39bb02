use Rattle.std.specs.Prelude.{length}
use Rattle.std.proofs.Common.{◌∙◌, sym, ap}
use Rattle.paged_memory.specs.Paged.{touched_of}
use Rattle.paged_memory.proofs.View.{touched_of-paged_of}
use Rattle.paged_memory.proofs.SlotLists.{length-pages_in}
use Rattle.paged_memory.proofs.memory.Memory.touched.Goals as goal

pub returns : goal.returns
returns c =
    ap length c.as_slice.ensures.value ∙ sym (length-pages_in c.self.inside.slots.items)
    ∙ sym (ap length (touched_of-paged_of c.self.inside.slots.items c.self.inside.frames.items c.self.inside.capacity))
    ∙ ap (λ s. length (touched_of s)) c.self.view_is
