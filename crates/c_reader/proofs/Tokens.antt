-- The tokens of a text from its front on.
use Rattle.std.proofs.Common.{◌≡◌, ℕ, suc, ◌<◌, Bool, true, false, ◌&&◌, List, [], ◌∷◌, length, take, drop, refl, sym, ◌∙◌, ap, inl, inr, arith, one-add}
use Rattle.std.specs.List.{prefix_len}
use Rattle.std.specs.Prelude.{max}
use Rattle.std.proofs.lemmas.Bool.{cases_Bool, and_left}
use Rattle.std.proofs.lemmas.Bool.Decides.{nat_tests}
use Rattle.c_reader.specs.EarlyForm.{is_blank, is_word, begins_word, joined, tokens_of}
use Rattle.c_reader.specs.EarlyReading.{begins_blank}

run_more : (p : ℕ → Bool) (b : ℕ) (bs : List ℕ) → p b ≡ true → prefix_len p (b ∷ bs) ≡ suc (prefix_len p bs)
run_more p b bs e = rw (e, one-add) refl

run_none : (p : ℕ → Bool) (b : ℕ) (bs : List ℕ) → p b ≡ false → prefix_len p (b ∷ bs) ≡ 0
run_none p b bs e = rw e refl

pub word_not_blank : (b : ℕ) → is_word b ≡ true → is_blank b ≡ false
word_not_blank b word = grind (arith, nat_tests)

-- a blank gives no token, a letter before another joins the token after it, and every other byte stands alone
pub blank_step : (b : ℕ) (bs : List ℕ) → is_blank b ≡ true → tokens_of (b ∷ bs) ≡ tokens_of bs
blank_step b bs blank = rw blank refl

pub joined_step : (b : ℕ) (bs : List ℕ) → is_word b ≡ true → begins_word bs ≡ true → tokens_of (b ∷ bs) ≡ joined b (tokens_of bs)
joined_step b bs word more = rw (word_not_blank b word, word, more) refl

pub alone_step : (b : ℕ) (bs : List ℕ) → is_blank b ≡ false → (is_word b && begins_word bs) ≡ false → tokens_of (b ∷ bs) ≡ (b ∷ []) ∷ tokens_of bs
alone_step b bs solid alone = rw (solid, alone) refl

pub blanks_in_front : (text : List ℕ) → tokens_of (drop (prefix_len is_blank text) text) ≡ tokens_of text
blanks_in_front [] = refl
blanks_in_front (b ∷ bs) = elim (cases_Bool (is_blank b)) [
  | inl e ↦ rw (run_more is_blank b bs e) (blanks_in_front bs ∙ sym (blank_step b bs e))
  | inr e ↦ rw (run_none is_blank b bs e) refl
]

pub solid_in_front : (text : List ℕ) → begins_blank (drop (prefix_len is_blank text) text) ≡ false
solid_in_front [] = refl
solid_in_front (b ∷ bs) = elim (cases_Bool (is_blank b)) [
  | inl e ↦ rw (run_more is_blank b bs e) (solid_in_front bs)
  | inr e ↦ rw (run_none is_blank b bs e) e
]

word_in_front : (b : ℕ) (bs : List ℕ) → is_word b ≡ true → tokens_of (b ∷ bs) ≡ (b ∷ take (prefix_len is_word bs) bs) ∷ tokens_of (drop (prefix_len is_word bs) bs)
word_in_front b [] word = alone_step b [] (word_not_blank b word) (rw word refl)
word_in_front b (c ∷ cs) word = elim (cases_Bool (is_word c)) [
  | inl e ↦ rw (run_more is_word c cs e) (joined_step b (c ∷ cs) word e ∙ ap (joined b) (word_in_front c cs e))
  | inr e ↦ rw (run_none is_word c cs e) (alone_step b (c ∷ cs) (word_not_blank b word) (rw (word, e) refl))
]

pub token_in_front : (text : List ℕ) → 0 < length text → begins_blank text ≡ false → tokens_of text ≡ take (max (prefix_len is_word text) 1) text ∷ tokens_of (drop (max (prefix_len is_word text) 1) text)
token_in_front [] some solid = absurd (omega arith)
token_in_front (b ∷ bs) some solid = elim (cases_Bool (is_word b)) [
  | inl e ↦
      let most : max (suc (prefix_len is_word bs)) 1 ≡ suc (prefix_len is_word bs) = omega arith in
      rw (run_more is_word b bs e, most) (word_in_front b bs e)
  | inr e ↦ rw (run_none is_word b bs e) (alone_step b bs solid (and_left _ _ e))
]
