use Rattle.mpx_words.specs.Files.{IsText}
use Rattle.mpx_words.specs.Makings.{made_by}
use Rattle.mpx_words.proofs.Formed.{refused_bytes, yields, make_counts}
use Rattle.mpx_words.proofs.making.made_of_file.Goals as goal

pub returns-in-Err-clause-yields : goal.returns-in-Err-clause-yields
returns-in-Err-clause-yields g c = refused_bytes (made_by c.args.making) _ _ c.in-Err.ensures.loads

pub returns-in-Ok-clause-yields : goal.returns-in-Ok-clause-yields
returns-in-Ok-clause-yields g c = yields (made_by c.args.making) IsText _ c.in-Ok.bytes _ _ c.as_slice.ensures.value c.in-Ok.ensures.loads c.made_of_bytes.ensures

pub returns-in-Ok-clause-counts : goal.returns-in-Ok-clause-counts
returns-in-Ok-clause-counts g c = make_counts (made_by c.args.making) IsText _ _ _ _ c.made_of_bytes.ensures c.in-Ok.ensures.counts
