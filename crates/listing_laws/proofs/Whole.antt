-- Listings are short, and read back.
use Rattle.std.proofs.Common.{arith}
use Rattle.listing_laws.specs.Read.{ListingsAreRead}
use Rattle.listing_laws.proofs.Listings.{listing_read}
use Rattle.listing_laws.proofs.Sizes.{listing_size}

pub listing_back : ListingsAreRead
listing_back code text few all lists = record { short = omega (arith, few, listing_size code text lists); object = listing_read code text few all lists }
