-- Where a byte stands.
use Rattle.std.proofs.Common.{◌≡◌, ℕ, ◌+◌, Bool, true, false, cond, List, [], ◌∷◌, ◌++◌, append_assoc, append-nil, refl, sym, ◌∙◌, ap, arith, not}
use Rattle.std.specs.Prelude.{fold, count_by}
use Rattle.std.specs.List.{suffix_len, prefix_len}
use Rattle.std.proofs.lemmas.List.{reverse-append}
use Rattle.std.proofs.lemmas.List.Sums.{fold-append}
use Rattle.mx_base.specs.declared.places.Place.{Place}
use Rattle.c_tokens.specs.Places.{is_line_feed, place_after, step}

suffix_len_push : (p : ℕ → Bool) (xs : List ℕ) (b : ℕ) → suffix_len p (xs ++ b ∷ []) ≡ cond (p b) (1 + suffix_len p xs) 0
suffix_len_push p xs b = ap (prefix_len p) (reverse-append xs (b ∷ []))

joined : (file line col : ℕ) (t : Bool) → record { file = file; line = line + cond t 1 0 + 1; col = cond (not t) (1 + col) 0 + 1 } ≡ cond {A = Place} t (record { file = file; line = line + 1 + 1; col = 1 }) (record { file = file; line = line + 1; col = col + 1 + 1 })
joined file line col true = refl
joined file line col false = let same_line : line + 0 + 1 ≡ line + 1 = omega arith in let same_col : 1 + col + 1 ≡ col + 1 + 1 = omega arith in ap (λ n. record { file = file; line = n; col = 1 + col + 1 }) same_line ∙ ap (λ n. record { file = file; line = line + 1; col = n }) same_col

pub place_step : (file : ℕ) (before : List ℕ) (b : ℕ) → place_after file (before ++ b ∷ []) ≡ step (place_after file before) b
unfolding place_after
place_step file before b =
    let lines = fold-append (λ a x. a + cond (is_line_feed x) 1 0) 0 before (b ∷ []) in
    let cols = suffix_len_push (λ b. not (is_line_feed b)) before b in
    ap (λ n. record { file = file; line = n + 1; col = suffix_len (λ b. not (is_line_feed b)) (before ++ b ∷ []) + 1 }) lines
    ∙ ap (λ n. record { file = file; line = count_by is_line_feed before + cond (is_line_feed b) 1 0 + 1; col = n + 1 }) cols
    ∙ joined file (count_by is_line_feed before) (suffix_len (λ b. not (is_line_feed b)) before) (is_line_feed b)

pub place_more : (file : ℕ) (before inside : List ℕ) → fold step (place_after file before) inside ≡ place_after file (before ++ inside)
place_more file before [] = ap (place_after file) (sym (append-nil before))
place_more file before (b ∷ bs) =
    ap (λ place. fold step place bs) (sym (place_step file before b)) ∙ place_more file (before ++ b ∷ []) bs ∙ ap (place_after file) (append_assoc before (b ∷ []) bs)
