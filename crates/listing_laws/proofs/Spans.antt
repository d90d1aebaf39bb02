-- Texts cut where a test fails first, and the words at their fronts.
use Rattle.std.proofs.Common.{◌≡◌, ℕ, suc, ◌+◌, Bool, true, false, true≢false, cond, not, List, [], ◌∷◌, ◌++◌, length, take, drop, refl, sym, ap, ◌∙◌, arith}
use Rattle.std.specs.Prelude.{◌&&◌}
use Rattle.std.specs.List.{list_all, prefix_len, take_while}
use Rattle.asm_text.specs.Lexical.{is_blank, is_word_byte, skip, word_at, after_word}

-- the test fails at the front, if there is one
abbrev pub stops : (ℕ → Bool) → List ℕ → Bool
stops p [] = true
stops p (x ∷ xs) = not (p x)

length_stop : (p : ℕ → Bool) (rest : List ℕ) → stops p rest ≡ true → prefix_len p rest ≡ 0
length_stop p [] h = refl
length_stop p (x ∷ xs) h = by (p x) h
  where
    by : (b : Bool) → not b ≡ true → cond b (1 + prefix_len p xs) 0 ≡ 0
    by true h = absurd (true≢false (sym h))
    by false h = refl

-- as long as the text before passes and the text behind stops
pub span_len : (p : ℕ → Bool) (a rest : List ℕ) → list_all p a ≡ true → stops p rest ≡ true → prefix_len p (a ++ rest) ≡ length a
span_len p [] rest h s = length_stop p rest s
span_len p (x ∷ a) rest h s = by (p x) h (λ more. span_len p a rest more s)
  where
    by : (b : Bool) → (b && list_all p a) ≡ true → (list_all p a ≡ true → prefix_len p (a ++ rest) ≡ length a) → cond b (1 + prefix_len p (a ++ rest)) 0 ≡ suc (length a)
    by true h more = let e = more h in omega (arith, e)
    by false h more = absurd (true≢false (sym h))

pub take_front : (a rest : List ℕ) → take (length a) (a ++ rest) ≡ a
take_front [] rest = refl
take_front (x ∷ a) rest = ap (λ l. x ∷ l) (take_front a rest)

pub drop_front : (a rest : List ℕ) → drop (length a) (a ++ rest) ≡ rest
drop_front [] rest = refl
drop_front (x ∷ a) rest = drop_front a rest

pub span_taken : (p : ℕ → Bool) (a rest : List ℕ) → list_all p a ≡ true → stops p rest ≡ true → take_while p (a ++ rest) ≡ a
span_taken p a rest h s = ap (λ n. take n (a ++ rest)) (span_len p a rest h s) ∙ take_front a rest

pub span_dropped : (p : ℕ → Bool) (a rest : List ℕ) → list_all p a ≡ true → stops p rest ≡ true → drop (prefix_len p (a ++ rest)) (a ++ rest) ≡ rest
span_dropped p a rest h s = ap (λ n. drop n (a ++ rest)) (span_len p a rest h s) ∙ drop_front a rest

-- ---- blanks

pub skip_none : (text : List ℕ) → stops is_blank text ≡ true → skip text ≡ text
unfolding skip
skip_none text s = ap (λ n. drop n text) (length_stop is_blank text s)

pub skip_space : (text : List ℕ) → skip (32 ∷ text) ≡ skip text
unfolding skip
skip_space text = let e : 1 + prefix_len is_blank text ≡ suc (prefix_len is_blank text) = omega arith in ap (λ n. drop n (32 ∷ text)) e

-- ---- words

pub front_word : (w rest : List ℕ) → list_all is_word_byte w ≡ true → stops is_word_byte rest ≡ true → stops is_blank (w ++ rest) ≡ true → word_at (w ++ rest) ≡ w
unfolding word_at
front_word w rest h s b = ap (take_while is_word_byte) (skip_none (w ++ rest) b) ∙ span_taken is_word_byte w rest h s

pub behind_word : (w rest : List ℕ) → list_all is_word_byte w ≡ true → stops is_word_byte rest ≡ true → stops is_blank (w ++ rest) ≡ true → after_word (w ++ rest) ≡ rest
unfolding after_word
behind_word w rest h s b = ap (λ l. drop (prefix_len is_word_byte l) l) (skip_none (w ++ rest) b) ∙ span_dropped is_word_byte w rest h s
