use Rattle.std.proofs.Common.{◌≡◌, ◌++◌, codes}
use Rattle.disasm.proofs.Lines.{listed_more, listed_all}
use Rattle.disasm.proofs.listing.all.Goals as goal

pub loop-rest-preserved : goal.loop-rest-preserved
loop-rest-preserved c =
    let text = c.in_ok-extend_from_slice.ensures.items in
    let feed = c.in_ok-extend_from_slice-2.ensures.items in
    let line = c.as_slice.ensures.value in
    let out : c.extend_from_slice-in-loop-rest.new.self.items ≡ (c.loop-rest.out.items ++ c.one-line.result.text.items) ++ codes "\n" = cc in
    listed_more _ c.loop-rest.rest.now _ _ _ _ _ c.loop-rest.invariant c.one-line.ensures.line out c.split_at.ensures.back

pub returns : goal.returns
returns c = listed_all _ c.loop-rest.rest.now _ c.loop-rest.invariant c.loop-rest-test.ensures
