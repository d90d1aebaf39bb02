use Rattle.std.proofs.Common.{◌∙◌, ap, [], ◌∷◌, ◌++◌, arith}
use Rattle.assembler.proofs.UseLemmas.{blanked_from}
use Rattle.assembler.proofs.bytes.put_blanked.Goals as goal

pub returns : goal.returns
returns c =
    c.in_ok-extend_from_slice-3.ensures.items
    ∙ (ap (λ l. l ++ c.split_at-2.result.1.now) (c.in_ok-extend_from_slice-2.ensures.items ∙ ap (λ l. l ++ (0 ∷ 0 ∷ 0 ∷ 0 ∷ [])) c.in_ok-extend_from_slice.ensures.items)
    ∙ blanked_from c.args.out.now.items c.args.code.now c.split_at.result.0.now c.split_at.result.1.now c.split_at-2.result.1.now c.args.behind _ c.split_at.ensures.front c.split_at.ensures.back c.split_at-2.ensures.back (omega arith))
