use Rattle.std.proofs.Common.{arith, ◌≡◌, ◌<◌, ◌≤◌, length, drop, sym, ◌∙◌, ap}
use Rattle.std.proofs.lemmas.Bool.{eqb-true}
use Rattle.c_tokens.specs.declared.piece.Piece.TheVariants as p
use Rattle.c_tokens.specs.Pieces.{piece}
use Rattle.c_tokens.specs.Tokens.{led_by}
use Rattle.c_tokens.proofs.Turns.{left_of, stands_on, some_left, none_left, gap_turn, lexeme_turn, end_turn}
use Rattle.c_tokens.proofs.Whole.{tokens_longest}
use Rattle.c_tokens.proofs.cut.tokens.Goals as goal

pub loop-at-preserved-in-Gap : goal.loop-at-preserved-in-Gap
loop-at-preserved-in-Gap c =
    let bytes = c.args.bytes.now in
    let at = c.loop-at.at in
    let kept = c.loop-at.invariant in
    let size = c.in-Gap.size in
    let next = c.advanced-at.ensures in
    let some : at.from < length bytes = some_left kept.stands (omega (arith, c.in-Gap.ensures.within.0, c.in-Gap.ensures.within.1)) in
    let is : piece (drop at.from bytes) ≡ p.Gap size = cc (c.in-Gap.ensures.value, kept.stands.rest_is) in
    record {
      same = kept.same ∙ gap_turn c.args.file bytes at.from c.loop-at.tokens.items size some is c.in-Gap.ensures.within.0 ∙ ap (λ n. led_by c.loop-at.tokens.items (left_of c.args.file bytes n)) (sym next.from);
      stands = stands_on kept.stands size c.advanced-at.result.rest.now c.advanced-at.result.from c.advanced-at.result.place c.in-Gap.ensures.within.1 next.rest next.from next.place next.line next.col;
    }

pub loop-at-preserved : goal.loop-at-preserved
loop-at-preserved c =
    let bytes = c.args.bytes.now in
    let at = c.loop-at.at in
    let kept = c.loop-at.invariant in
    let size = c.in-Lexeme.size in
    let next = c.advanced-after.ensures in
    let some : at.from < length bytes = some_left kept.stands (omega (arith, c.in-Lexeme.ensures.within.0, c.in-Lexeme.ensures.within.1)) in
    let is : piece (drop at.from bytes) ≡ p.Lexeme c.in-Lexeme.kind c.in-Lexeme.class size = cc (c.in-Lexeme.ensures.value, kept.stands.rest_is) in
    let turned = kept.same ∙ lexeme_turn c.args.file bytes at.from c.loop-at.tokens.items c.in-Lexeme.kind c.in-Lexeme.class size some is c.in-Lexeme.ensures.within.0 in
    record {
      same = rw (c.in_ok-push-in-Lexeme.ensures.items, next.from, kept.stands.place_is) turned;
      stands = stands_on kept.stands size c.advanced-after.result.rest.now c.advanced-after.result.from c.advanced-after.result.place c.in-Lexeme.ensures.within.1 next.rest next.from next.place next.line next.col;
    }

pub returns-clause-longest : goal.returns-clause-longest
returns-clause-longest c =
    let bytes = c.args.bytes.now in
    let at = c.loop-at.at in
    let kept = c.loop-at.invariant in
    let end : length bytes ≤ at.from = none_left kept.stands (eqb-true (length at.rest.now) 0 (sym c.loop-at-test.ensures)) in
    tokens_longest c.args.file bytes c.loop-at.tokens.items (kept.same ∙ end_turn c.args.file bytes at.from c.loop-at.tokens.items end)
