use Rattle.std.proofs.Common.{ap}
use Rattle.mpx_words.specs.Files.{made_of}
use Rattle.mpx_words.specs.Listing.{object_codes}
use Rattle.mpx_words.proofs.Listings.{listing_same}
use Rattle.mpx_words.proofs.dis.list_object.Goals as goal

pub returns-in-Ok-all : goal.returns-in-Ok-all
returns-in-Ok-all c = (object_codes c.in-Ok.object, ap (made_of object_codes) c.in-Ok.ensures.exact, listing_same _ _ _ c.as_slice.ensures c.in-Ok-all.ensures)
