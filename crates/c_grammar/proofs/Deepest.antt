-- Where reading stops as too deep stands the first token that opens one nesting too many.
use Rattle.std.proofs.Common.{◌≡◌, ℕ, suc, ◌<◌, ◌≤◌, List, [], ◌∷◌, ◌++◌, append_assoc, length, Ok, Err, refl, sym, ◌∙◌, ap, subst, arith}
use Rattle.std.specs.List.{All}
use Rattle.std.proofs.lemmas.List.{append_cancel_right, append_cancel_left}
use Rattle.std.proofs.lemmas.List.Elements.{All-head, All-tail}
use Rattle.mx_base.specs.declared.places.Place.{Place}
use Rattle.c_tree.specs.declared.tree.Item.{Item}
use Rattle.c_grammar.specs.Lexemes.{Lexeme, look}
use Rattle.c_grammar.specs.Rules as n
use Rattle.c_grammar.specs.Rules.{call}
use Rattle.c_grammar.specs.Nesting.{Nests, FirstOver, TooDeep, most_nestings}
use Rattle.c_grammar.specs.Reading.{Out, unfit, too_deep, parse, limit}
use Rattle.c_grammar.specs.Program.{IsSource, place_at}
use Rattle.c_grammar.proofs.Good.{Begun}
use Rattle.c_grammar.proofs.Levels.{Deep, High, deep_parse, levelled, forget}
use Rattle.c_grammar.proofs.Fronts.{Same, Alike, same_parse}
use Rattle.c_grammar.proofs.Whole.{quiet_end, calm_end, good_at, not_stuck}

deep_at : (ts : List Lexeme) (o : Out (List Item)) → parse limit n.Source 0 ts ≡ o → Deep most_nestings (call n.Source) 0 ts o
deep_at ts o e = subst (Deep most_nestings (call n.Source) 0 ts) e (deep_parse most_nestings n.Source 0 (omega arith) ts)

same_at : (ts : List Lexeme) (o : Out (List Item)) → parse limit n.Source 0 ts ≡ o → Same limit (call n.Source) 0 ts o
same_at ts o e = subst (Same limit (call n.Source) 0 ts) e (same_parse limit n.Source 0 ts)

joined : (front word at : List Lexeme) (t : Lexeme) → (front ++ t ∷ []) ++ word ≡ front ++ t ∷ word
joined front word at t = append_assoc front (t ∷ []) word

pub too_deep_found : (ts at : List Lexeme) (end : Place) → parse limit n.Source 0 ts ≡ Err (too_deep at) → TooDeep ts (place_at at end)
too_deep_found ts at end e =
    let x : Begun (call n.Source) ts at = good_at limit ts (Err (too_deep at)) e in
    let h : High most_nestings (call n.Source) 0 ts at = deep_at ts (Err (too_deep at)) e in
    let fronts : h.front ≡ x.front = append_cancel_right h.front x.front at (sym h.splits ∙ x.splits) in
    let source : IsSource (x.front ++ x.token ∷ (x.word ++ [])) x.begun.value = subst (λ z. IsSource z x.begun.value) (joined x.front (x.word ++ []) at x.token) (x.begun.reads [] calm_end) in
    let l = levelled n.Source 0 (x.front ++ x.token ∷ (x.word ++ [])) x.begun.value [] source in
    record {
      front = x.front;
      token = x.token;
      behind = x.behind;
      splits = x.splits ∙ ap (λ z. x.front ++ z) x.is_at;
      here = ap (λ z. place_at z end) x.is_at;
      more = x.word ++ [];
      items = x.begun.value;
      levels = l.1;
      has = record { after = l.0; nests = l.2 };
      first = subst (λ z. FirstOver most_nestings l.1 (length z)) fronts (h.only (x.token ∷ (x.word ++ [])) x.begun.value [] l.0 l.1 (sym (ap look x.is_at)) (subst (λ z. Nests n.Source 0 (z ++ x.token ∷ (x.word ++ [])) x.begun.value [] l.0 l.1) (sym fronts) l.2) quiet_end);
    }

-- ---- the first over a limit is one

not_within : (M : ℕ) (low high : List ℕ) (level : ℕ) → M < level → All (λ l. l ≤ M) (low ++ level ∷ high) → ⊥
not_within M [] high level o w = let h : level ≤ M = All-head (λ l. l ≤ M) level high w in omega (arith, o, h)
not_within M (a ∷ low) high level o w = not_within M low high level o (All-tail (λ l. l ≤ M) a (low ++ level ∷ high) w)

same_length : (M : ℕ) (low low' high high' : List ℕ) (a a' : ℕ) → M < a → M < a' → All (λ l. l ≤ M) low → All (λ l. l ≤ M) low' → low ++ a ∷ high ≡ low' ++ a' ∷ high' → length low ≡ length low'
same_length M [] [] high high' a a' o o' w w' e = refl
same_length M [] (b ∷ low') high high' a a' o o' w w' e =
    let h : b ≤ M = All-head (λ l. l ≤ M) b low' w' in
    let s : a ≡ b = cc in
    absurd (omega (arith, o, h, s))
same_length M (b ∷ low) [] high high' a a' o o' w w' e =
    let h : b ≤ M = All-head (λ l. l ≤ M) b low w in
    let s : b ≡ a' = cc in
    absurd (omega (arith, o', h, s))
same_length M (b ∷ low) (c ∷ low') high high' a a' o o' w w' e = ap suc (same_length M low low' high high' a a' o o' (All-tail (λ l. l ≤ M) b low w) (All-tail (λ l. l ≤ M) c low' w') (tails b c (low ++ a ∷ high) (low' ++ a' ∷ high') e))
  where
    tails : (b c : ℕ) (xs ys : List ℕ) → b ∷ xs ≡ c ∷ ys → xs ≡ ys
    tails b c xs ys e = cc

one_first : (M : ℕ) (ls : List ℕ) (i j : ℕ) → FirstOver M ls i → FirstOver M ls j → i ≡ j
one_first M ls i j x y = sym x.counts ∙ same_length M x.low y.low x.high y.high x.level y.level x.over y.over x.within y.within (sym x.is ∙ y.is) ∙ y.counts

-- ---- fronts of one length

one_front : (a b xs ys : List Lexeme) → a ++ xs ≡ b ++ ys → length a ≡ length b → a ≡ b
one_front [] [] xs ys e h = refl
one_front [] (t ∷ b) xs ys e h = absurd (omega (arith, h))
one_front (t ∷ a) [] xs ys e h = absurd (omega (arith, h))
one_front (t ∷ a) (u ∷ b) xs ys e h =
    let i : t ≡ u = cc in
    let r : a ≡ b = one_front a b xs ys (rests t u (a ++ xs) (b ++ ys) e) (omega (arith, h)) in
    ap (λ z. z ∷ a) i ∙ ap (λ z. u ∷ z) r
  where
    rests : (t u : Lexeme) (xs ys : List Lexeme) → t ∷ xs ≡ u ∷ ys → xs ≡ ys
    rests t u xs ys e = cc

-- ---- a text that is too deep is found to be

module _ (ts : List Lexeme) (place : Place) (x : TooDeep ts place) where
  abbrev full : List Lexeme
  full = x.front ++ x.token ∷ x.more

  at_next : (at : List Lexeme) → High most_nestings (call n.Source) 0 full at → Alike limit (call n.Source) 0 full at (λ mid. Err (too_deep mid)) → parse limit n.Source 0 ts ≡ Err (too_deep (x.token ∷ x.behind))
  at_next at h s =
      let o : FirstOver most_nestings x.levels (length h.front) = h.only at x.items [] x.has.after x.levels refl (subst (λ z. Nests n.Source 0 z x.items [] x.has.after x.levels) h.splits x.has.nests) quiet_end in
      let count : length h.front ≡ length x.front = one_first most_nestings x.levels (length h.front) (length x.front) o x.first in
      let front : h.front ≡ x.front = one_front h.front x.front at (x.token ∷ x.more) (sym h.splits) count in
      let next : at ≡ x.token ∷ x.more = append_cancel_left x.front at (x.token ∷ x.more) (ap (λ z. z ++ at) (sym front) ∙ sym h.splits) in
      let front' : s.front ≡ x.front = append_cancel_right s.front x.front at (sym s.splits ∙ ap (λ z. x.front ++ z) (sym next)) in
      ap (parse limit n.Source 0) (x.splits ∙ ap (λ z. z ++ x.token ∷ x.behind) (sym front')) ∙ s.alike (x.token ∷ x.behind) (sym (ap look next))

  by_out : (o : Out (List Item)) → parse limit n.Source 0 full ≡ o → Deep most_nestings (call n.Source) 0 full o → Same limit (call n.Source) 0 full o → parse limit n.Source 0 ts ≡ Err (too_deep (x.token ∷ x.behind))
  by_out (Ok p) e d s =
      let one = d.only p.1 x.items [] x.has.after x.levels refl (subst (λ z. Nests n.Source 0 z x.items [] x.has.after x.levels) d.splits x.has.nests) quiet_end in
      absurd (not_within most_nestings x.first.low x.first.high x.first.level x.first.over (subst (All (λ l. l ≤ most_nestings)) x.first.is one.2))
  by_out (Err (unfit at)) e d s = absurd (not_stuck limit full at x.items e (forget (call n.Source) 0 full x.items [] x.has.after x.levels x.has.nests))
  by_out (Err (too_deep at)) e d s = at_next at d s

  pub too_deep_only : parse limit n.Source 0 ts ≡ Err (too_deep (x.token ∷ x.behind))
  too_deep_only = by_out (parse limit n.Source 0 full) refl (deep_at full (parse limit n.Source 0 full) refl) (same_at full (parse limit n.Source 0 full) refl)
