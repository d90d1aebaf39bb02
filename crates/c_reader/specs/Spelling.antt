-- A text and the tokens that it spells, and that the definitions of the early form leave no choice.
use Rattle.std.specs.Prelude.{◌≡◌, ◌↔◌, ℕ, true, false, List, [], ◌∷◌, ◌++◌}
use Rattle.std.specs.List.{AllByRecursion}
use Rattle.c_reader.specs.declared.early.Act.{Act}
use Rattle.c_reader.specs.EarlyForm.{is_blank, is_word, begins_word, tokens_of, IsEarly}

abbrev pub IsWord : ℕ → Type 0
IsWord b = is_word b ≡ true

-- Blanks may stand before, between and after the tokens. A token is a run of letters and digits that none follows, or
-- one other byte: so a blank is needed only between two runs.
pub data Spells : List ℕ → List (List ℕ) → Type 0 where
  nothing : Spells [] []
  blank : (b : ℕ) (text : List ℕ) (tokens : List (List ℕ)) → is_blank b ≡ true → Spells text tokens → Spells (b ∷ text) tokens
  mark : (b : ℕ) (text : List ℕ) (tokens : List (List ℕ)) → is_blank b ≡ false → is_word b ≡ false → Spells text tokens → Spells (b ∷ text) ((b ∷ []) ∷ tokens)
  run : (b : ℕ) (more text : List ℕ) (tokens : List (List ℕ)) → IsWord b → AllByRecursion IsWord more → begins_word text ≡ false → Spells text tokens → Spells (b ∷ (more ++ text)) ((b ∷ more) ∷ tokens)

abbrev pub TokensAreSpelled : Type 0
TokensAreSpelled = (text : List ℕ) (tokens : List (List ℕ)) → (tokens_of text ≡ tokens) ↔ Spells text tokens

abbrev pub PartsAreUnique : Type 0
PartsAreUnique = (bytes : List ℕ) (size code size' code' : ℕ) (acts acts' : List Act) → IsEarly bytes size acts code → IsEarly bytes size' acts' code'
    → (size ≡ size') × (acts ≡ acts') × (code ≡ code')
