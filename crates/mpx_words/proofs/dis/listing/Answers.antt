use Rattle.mpx_words.specs.Listing.{object_codes, image_codes, IsListing}
use Rattle.mpx_words.specs.Files.{by_form}
use Rattle.mpx_words.proofs.Formed.{refused_bytes, yields, make_counts}
use Rattle.mpx_words.proofs.dis.listing.Goals as goal

pub returns-in-Err-clause-yields : goal.returns-in-Err-clause-yields
returns-in-Err-clause-yields g c = refused_bytes (by_form object_codes image_codes) _ _ c.in-Err.ensures.loads

pub returns-in-Ok-clause-yields : goal.returns-in-Ok-clause-yields
returns-in-Ok-clause-yields g c = yields (by_form object_codes image_codes) IsListing _ c.in-Ok.bytes _ _ c.as_slice.ensures.value c.in-Ok.ensures.loads c.listing_of.ensures

pub returns-in-Ok-clause-counts : goal.returns-in-Ok-clause-counts
returns-in-Ok-clause-counts g c = make_counts (by_form object_codes image_codes) IsListing _ _ _ _ c.listing_of.ensures c.in-Ok.ensures.counts
