use Rattle.std.proofs.Common.{◌∙◌, ◌/◌, sym}
use Rattle.paged_memory.proofs.KnownPages.{known_put, open_page}
use Rattle.paged_memory.proofs.known.keep_page.Goals as goal

pub returns-in-Some : goal.returns-in-Some
returns-in-Some c =
    known_put c.args.slots.now c.args.known.now.items c.place_in.result (record { page = c.args.a / 4096; frame = c.in-Some.frame }) (λ low. (sym c.frame_of.ensures ∙ c.in-Some.is, open_page c.args.a c.requires.open)) c.requires.known
