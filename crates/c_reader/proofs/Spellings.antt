-- The tokens of a text are those that it spells.
use Rattle.std.proofs.Common.{◌≡◌, ℕ, true, false, List, [], ◌∷◌, ◌++◌, refl, sym, ◌∙◌, ap, subst, inl, inr}
use Rattle.std.specs.List.{AllByRecursion}
use Rattle.std.proofs.lemmas.Bool.{cases_Bool, and_left, true≢false}
use Rattle.c_reader.specs.EarlyForm.{is_blank, is_word, begins_word, joined, tokens_of}
use Rattle.c_reader.specs.Spelling.{IsWord, Spells, TokensAreSpelled}
use Rattle.c_reader.specs.Spelling.Spells.{nothing, blank, mark, run}
use Rattle.c_reader.proofs.Tokens.{word_not_blank, blank_step, joined_step, alone_step}

run_step : (b : ℕ) (more text : List ℕ) → IsWord b → AllByRecursion IsWord more → begins_word text ≡ false → tokens_of (b ∷ (more ++ text)) ≡ (b ∷ more) ∷ tokens_of text
run_step b [] text first rest ends = alone_step b text (word_not_blank b first) (rw (first, ends) refl)
run_step b (c ∷ more) text first rest ends = joined_step b (c ∷ (more ++ text)) first rest.0 ∙ ap (joined b) (run_step c more text rest.0 rest.1 ends)

tokens_from_spelling : (text : List ℕ) (tokens : List (List ℕ)) → Spells text tokens → tokens_of text ≡ tokens
tokens_from_spelling _ _ nothing = refl
tokens_from_spelling _ _ (blank b text tokens is_one more) = blank_step b text is_one ∙ tokens_from_spelling text tokens more
tokens_from_spelling _ _ (mark b text tokens solid alone more) = alone_step b text solid (and_left _ _ alone) ∙ ap (λ ts. (b ∷ []) ∷ ts) (tokens_from_spelling text tokens more)
tokens_from_spelling _ _ (run b letters text tokens first rest ends more) = run_step b letters text first rest ends ∙ ap (λ ts. (b ∷ letters) ∷ ts) (tokens_from_spelling text tokens more)

longer_run : (b : ℕ) (text : List ℕ) (tokens : List (List ℕ)) → IsWord b → begins_word text ≡ true → Spells text tokens → Spells (b ∷ text) (joined b tokens)
longer_run b _ _ first more nothing = absurd (true≢false (sym more))
longer_run b _ _ first more (blank c text tokens is_one spelled) = absurd (true≢false (sym is_one ∙ word_not_blank c more))
longer_run b _ _ first more (mark c text tokens solid alone spelled) = absurd (true≢false (sym more ∙ alone))
longer_run b _ _ first more (run c letters text tokens second rest ends spelled) = run b (c ∷ letters) text tokens first (second, rest) ends spelled

spelling_of : (text : List ℕ) → Spells text (tokens_of text)
spelling_of [] = nothing
spelling_of (b ∷ text) = elim (cases_Bool (is_blank b)) [
  | inl is_one ↦ let P = Spells (b ∷ text) in subst P (sym (blank_step b text is_one)) (blank b text (tokens_of text) is_one (spelling_of text))
  | inr solid ↦ elim (cases_Bool (is_word b)) [
    | inr alone ↦ let P = Spells (b ∷ text) in subst P (sym (alone_step b text solid (and_left _ _ alone))) (mark b text (tokens_of text) solid alone (spelling_of text))
    | inl first ↦ elim (cases_Bool (begins_word text)) [
      | inl more ↦ let P = Spells (b ∷ text) in subst P (sym (joined_step b text first more)) (longer_run b text (tokens_of text) first more (spelling_of text))
      | inr ends ↦ let P = Spells (b ∷ text) in subst P (sym (alone_step b text solid (rw (first, ends) refl))) (run b [] text (tokens_of text) first tt ends (spelling_of text))
    ]
  ]
]

pub tokens_are_spelled : TokensAreSpelled
tokens_are_spelled text tokens = (λ e. let P = Spells text in subst P e (spelling_of text), tokens_from_spelling text tokens)
