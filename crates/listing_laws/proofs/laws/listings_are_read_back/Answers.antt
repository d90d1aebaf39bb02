use Rattle.listing_laws.proofs.Whole.{listing_back}
use Rattle.listing_laws.proofs.laws.listings_are_read_back.Goals as goal

pub returns : goal.returns
returns c = listing_back
