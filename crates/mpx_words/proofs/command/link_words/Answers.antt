use Rattle.std.proofs.Common.{◌≡◌, ◌∙◌, ◌∷◌, ℕ, List, IsTrue, rules, sym, ap, map, string_bytes, codes, arith}
use Rattle.mpx_words.specs.Words.{is_file_word}
use Rattle.mpx_words.proofs.Meanings.{mapped_length}
use Rattle.mpx_words.proofs.command.link_words.Goals as goal

pub returns-then-are_objects : goal.returns-then-are_objects
returns-then-are_objects c =
    let named : c.in_ok-writing.writing.command.now ≡ codes "link" = search rules in
    let is : IsTrue (is_file_word c.in_ok-writing.writing.to.now) = search rules in
    let same = mapped_length string_bytes c.in_ok-writing.writing.files.now in (
      c.in_ok-writing.ensures ∙ ap (λ (n : List ℕ). n ∷ codes "--out" ∷ c.in_ok-writing.writing.to.now ∷ map string_bytes c.in_ok-writing.writing.files.now) named,
      is,
      sym c.are_objects.ensures ∙ c.if-are_objects.true,
      omega (arith, same, c.if-count-ge1.true),
      omega (arith, same, c.if-count-lt4294967296.true),
    )
