use Rattle.std.proofs.Common.{◌∙◌, ◌++◌, ap, sym}
use Rattle.mpx_words.proofs.Listings.{adds_none, adds_code}
use Rattle.mpx_words.proofs.dis.list_segment.Goals as goal

pub returns-then-not-is_code : goal.returns-then-not-is_code
returns-then-not-is_code c = adds_none c.args.segment.now c.args.out.now.items (sym c.is_code.ensures ∙ c.if-not-is_code.true)

pub returns-in-Ok-extend_from_slice : goal.returns-in-Ok-extend_from_slice
returns-in-Ok-extend_from_slice c =
    adds_code c.args.segment.now c.as_slice.result.now c.in-Ok.text.items c.args.out.now.items _ (sym c.is_code.ensures ∙ c.if-not-is_code.false) c.as_slice.ensures c.in-Ok.ensures
    (c.in-Ok-extend_from_slice.ensures.items ∙ ap (λ t. c.args.out.now.items ++ t) c.as_slice-in-Ok.ensures.value)
