use Rattle.std.proofs.Common.{◌≡◌, ◌∙◌, ℕ, [], ap, refl, inl, inr, Ok, Err, length, arith}
use Rattle.std.proofs.lemmas.List.{length-map}
use Rattle.c_grammar.specs.Lexemes.{lexemes, seen}
use Rattle.c_grammar.specs.Reading.{unfit, too_deep}
use Rattle.c_grammar.proofs.SoundTokens.{programs_are_formed}
use Rattle.c_reader.proofs.Refused as proof
use Rattle.c_reader.proofs.reader.read.Goals as goal

pub returns-then-is_done-clause-found : goal.returns-then-is_done-clause-found
returns-then-is_done-clause-found c = proof.all_read (lexemes c.args.bytes.now c.args.tokens.now) c.in-Ok.items c.items.new.at.depth (proof.from_start c.new-at.result (lexemes c.args.bytes.now c.args.tokens.now) (Ok (c.in-Ok.items, [], c.items.new.at.depth)) c.new-at.ensures (c.in-Ok.ensures.gives ∙ ap (λ z. Ok (c.in-Ok.items, z, c.items.new.at.depth)) (c.if-is_done.ensures.0 refl)))

pub returns-then-is_done-clause-formed : goal.returns-then-is_done-clause-formed
returns-then-is_done-clause-formed c = programs_are_formed c.requires.are.0 c.args.bytes.now c.args.tokens.now (record { items = c.in-Ok.items }) c.requires.are.1 (proof.all_read (lexemes c.args.bytes.now c.args.tokens.now) c.in-Ok.items c.items.new.at.depth (proof.from_start c.new-at.result (lexemes c.args.bytes.now c.args.tokens.now) (Ok (c.in-Ok.items, [], c.items.new.at.depth)) c.new-at.ensures (c.in-Ok.ensures.gives ∙ ap (λ z. Ok (c.in-Ok.items, z, c.items.new.at.depth)) (c.if-is_done.ensures.0 refl))))

pub returns-then-is_done-clause-only : goal.returns-then-is_done-clause-only
returns-then-is_done-clause-only c = proof.only_ok (lexemes c.args.bytes.now c.args.tokens.now) c.in-Ok.items c.items.new.at.depth (proof.from_start c.new-at.result (lexemes c.args.bytes.now c.args.tokens.now) (Ok (c.in-Ok.items, [], c.items.new.at.depth)) c.new-at.ensures (c.in-Ok.ensures.gives ∙ ap (λ z. Ok (c.in-Ok.items, z, c.items.new.at.depth)) (c.if-is_done.ensures.0 refl)))

pub returns-then-is_done-clause-expected : goal.returns-then-is_done-clause-expected
returns-then-is_done-clause-expected c = λ file place h x s. proof.none_bad (lexemes c.args.bytes.now c.args.tokens.now) c.in-Ok.items c.items.new.at.depth _ place (proof.from_start c.new-at.result (lexemes c.args.bytes.now c.args.tokens.now) (Ok (c.in-Ok.items, [], c.items.new.at.depth)) c.new-at.ensures (c.in-Ok.ensures.gives ∙ ap (λ z. Ok (c.in-Ok.items, z, c.items.new.at.depth)) (c.if-is_done.ensures.0 refl))) x

pub returns-then-is_done-clause-deep : goal.returns-then-is_done-clause-deep
returns-then-is_done-clause-deep c = λ place x. proof.none_deep (lexemes c.args.bytes.now c.args.tokens.now) c.in-Ok.items [] c.items.new.at.depth place (proof.from_start c.new-at.result (lexemes c.args.bytes.now c.args.tokens.now) (Ok (c.in-Ok.items, [], c.items.new.at.depth)) c.new-at.ensures (c.in-Ok.ensures.gives ∙ ap (λ z. Ok (c.in-Ok.items, z, c.items.new.at.depth)) (c.if-is_done.ensures.0 refl))) x

pub returns-else-is_done-clause-only : goal.returns-else-is_done-clause-only
returns-else-is_done-clause-only c = λ tree p. proof.left_none (lexemes c.args.bytes.now c.args.tokens.now) c.in-Ok.items tree.items c.items.new.at.left c.items.new.at.depth (proof.from_start c.new-at.result (lexemes c.args.bytes.now c.args.tokens.now) (Ok (c.in-Ok.items, c.items.new.at.left, c.items.new.at.depth)) c.new-at.ensures c.in-Ok.ensures.gives) (λ h. proof.no_flag (c.if-is_done.ensures.1 h)) p

pub returns-else-is_done-clause-told : goal.returns-else-is_done-clause-told
returns-else-is_done-clause-told c = λ file h. proof.told_left (lexemes c.args.bytes.now c.args.tokens.now) c.in-Ok.items c.items.new.at.left c.items.new.at.depth _ c.place.result c.end_after.result (proof.from_start c.new-at.result (lexemes c.args.bytes.now c.args.tokens.now) (Ok (c.in-Ok.items, c.items.new.at.left, c.items.new.at.depth)) c.new-at.ensures c.in-Ok.ensures.gives) (λ h. proof.no_flag (c.if-is_done.ensures.1 h)) c.place.ensures

pub returns-else-is_done-clause-expected : goal.returns-else-is_done-clause-expected
returns-else-is_done-clause-expected c = λ file place h x s. inl (proof.expected_left (lexemes c.args.bytes.now c.args.tokens.now) c.in-Ok.items c.items.new.at.left c.items.new.at.depth _ c.place.result c.end_after.result place (proof.from_start c.new-at.result (lexemes c.args.bytes.now c.args.tokens.now) (Ok (c.in-Ok.items, c.items.new.at.left, c.items.new.at.depth)) c.new-at.ensures c.in-Ok.ensures.gives) (λ h. proof.no_flag (c.if-is_done.ensures.1 h)) c.place.ensures x)

pub returns-else-is_done-clause-deep : goal.returns-else-is_done-clause-deep
returns-else-is_done-clause-deep c = λ place x. absurd (proof.none_deep (lexemes c.args.bytes.now c.args.tokens.now) c.in-Ok.items c.items.new.at.left c.items.new.at.depth place (proof.from_start c.new-at.result (lexemes c.args.bytes.now c.args.tokens.now) (Ok (c.in-Ok.items, c.items.new.at.left, c.items.new.at.depth)) c.new-at.ensures c.in-Ok.ensures.gives) x)

pub returns-in-Err-Unexpected-clause-only : goal.returns-in-Err-Unexpected-clause-only
returns-in-Err-Unexpected-clause-only c = λ tree p. proof.unfit_none (lexemes c.args.bytes.now c.args.tokens.now) c.items.new.at.left tree.items (proof.from_start c.new-at.result (lexemes c.args.bytes.now c.args.tokens.now) (Err (unfit c.items.new.at.left)) c.new-at.ensures (rw c.in-Err-Unexpected.field-0-is at c.in-Err-Unexpected.ensures.gives)) p

pub returns-in-Err-Unexpected-clause-told : goal.returns-in-Err-Unexpected-clause-told
returns-in-Err-Unexpected-clause-told c = λ file h. proof.told_unfit (lexemes c.args.bytes.now c.args.tokens.now) c.items.new.at.left _ c.place-in-Err-Unexpected.result c.end_after-in-Err-Unexpected.result (proof.from_start c.new-at.result (lexemes c.args.bytes.now c.args.tokens.now) (Err (unfit c.items.new.at.left)) c.new-at.ensures (rw c.in-Err-Unexpected.field-0-is at c.in-Err-Unexpected.ensures.gives)) (λ s. c.end_after-in-Err-Unexpected.ensures file h (omega (arith, length-map c.args.tokens.now (seen c.args.bytes.now), s))) c.place-in-Err-Unexpected.ensures

pub returns-in-Err-Unexpected-clause-expected : goal.returns-in-Err-Unexpected-clause-expected
returns-in-Err-Unexpected-clause-expected c = λ file place h x s. inl (proof.expected_unfit (lexemes c.args.bytes.now c.args.tokens.now) c.items.new.at.left _ c.place-in-Err-Unexpected.result c.end_after-in-Err-Unexpected.result place (proof.from_start c.new-at.result (lexemes c.args.bytes.now c.args.tokens.now) (Err (unfit c.items.new.at.left)) c.new-at.ensures (rw c.in-Err-Unexpected.field-0-is at c.in-Err-Unexpected.ensures.gives)) (λ s. c.end_after-in-Err-Unexpected.ensures file h (omega (arith, length-map c.args.tokens.now (seen c.args.bytes.now), s))) c.place-in-Err-Unexpected.ensures x)

pub returns-in-Err-Unexpected-clause-deep : goal.returns-in-Err-Unexpected-clause-deep
returns-in-Err-Unexpected-clause-deep c = λ place x. absurd (proof.unfit_shallow (lexemes c.args.bytes.now c.args.tokens.now) c.items.new.at.left (proof.from_start c.new-at.result (lexemes c.args.bytes.now c.args.tokens.now) (Err (unfit c.items.new.at.left)) c.new-at.ensures (rw c.in-Err-Unexpected.field-0-is at c.in-Err-Unexpected.ensures.gives)) place x)

pub returns-in-Err-Deep-clause-only : goal.returns-in-Err-Deep-clause-only
returns-in-Err-Deep-clause-only c = λ tree p. proof.told_deep (lexemes c.args.bytes.now c.args.tokens.now) c.items.new.at.left c.place-in-Err-Deep.result c.end_after-in-Err-Deep.result (proof.from_start c.new-at.result (lexemes c.args.bytes.now c.args.tokens.now) (Err (too_deep c.items.new.at.left)) c.new-at.ensures (rw c.in-Err-Deep.field-0-is at c.in-Err-Deep.ensures.gives)) c.place-in-Err-Deep.ensures

pub returns-in-Err-Deep-clause-told : goal.returns-in-Err-Deep-clause-told
returns-in-Err-Deep-clause-told c = λ file h. proof.told_deep (lexemes c.args.bytes.now c.args.tokens.now) c.items.new.at.left c.place-in-Err-Deep.result c.end_after-in-Err-Deep.result (proof.from_start c.new-at.result (lexemes c.args.bytes.now c.args.tokens.now) (Err (too_deep c.items.new.at.left)) c.new-at.ensures (rw c.in-Err-Deep.field-0-is at c.in-Err-Deep.ensures.gives)) c.place-in-Err-Deep.ensures

pub returns-in-Err-Deep-clause-expected : goal.returns-in-Err-Deep-clause-expected
returns-in-Err-Deep-clause-expected c = λ file place h x s. absurd (s _ (proof.told_deep (lexemes c.args.bytes.now c.args.tokens.now) c.items.new.at.left c.place-in-Err-Deep.result c.end_after-in-Err-Deep.result (proof.from_start c.new-at.result (lexemes c.args.bytes.now c.args.tokens.now) (Err (too_deep c.items.new.at.left)) c.new-at.ensures (rw c.in-Err-Deep.field-0-is at c.in-Err-Deep.ensures.gives)) c.place-in-Err-Deep.ensures))

pub returns-in-Err-Deep-clause-deep : goal.returns-in-Err-Deep-clause-deep
returns-in-Err-Deep-clause-deep c = λ place x. inl (proof.same_told (lexemes c.args.bytes.now c.args.tokens.now) c.items.new.at.left c.place-in-Err-Deep.result c.end_after-in-Err-Deep.result place (proof.from_start c.new-at.result (lexemes c.args.bytes.now c.args.tokens.now) (Err (too_deep c.items.new.at.left)) c.new-at.ensures (rw c.in-Err-Deep.field-0-is at c.in-Err-Deep.ensures.gives)) c.place-in-Err-Deep.ensures x)
