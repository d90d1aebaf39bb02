-- Marks at the fronts of texts.
use Rattle.std.proofs.Common.{◌≡◌, ℕ, suc, Bool, true, false, true≢false, cond, not, List, [], ◌∷◌, length, drop, Some, None, refl, sym, ap, ◌∙◌, arith, nat_eq, nat_lt}
use Rattle.std.specs.Prelude.{◌&&◌, slice_index}
use Rattle.std.proofs.lemmas.Bool.Decides.{nat_tests}
use Rattle.asm_text.specs.Lexical.{is_blank, skip, ended, mark_at}
use Rattle.asm_text.specs.Cuts.{is}
use Rattle.listing_laws.proofs.Spans.{stops, skip_none, skip_space}

some_bytes : (n : ℕ) → nat_lt 0 (suc n) ≡ true
some_bytes n = grind (arith, nat_tests)

-- the mark stands here
pub mark_here : (m : ℕ) (rest : List ℕ) → not (is_blank m) ≡ true → mark_at m (m ∷ rest) ≡ Some rest
unfolding mark_at
mark_here m rest b = ap (λ l. cond (nat_lt 0 (length l) && nat_eq (slice_index l 0) m) (Some (drop 1 l)) None) (skip_none (m ∷ rest) b) ∙ (λ i. cond (some_bytes (length rest) i && same i) (Some rest) None)
  where
    same : nat_eq m m ≡ true
    same = grind (arith, nat_tests)

-- another byte does, or none
pub mark_none : (m : ℕ) (text : List ℕ) → stops is_blank text ≡ true → stops (is m) text ≡ true → mark_at m text ≡ None
unfolding mark_at
mark_none m text b s = ap (λ l. cond (nat_lt 0 (length l) && nat_eq (slice_index l 0) m) (Some (drop 1 l)) None) (skip_none text b) ∙ by text s
  where
    also : (x y : Bool) → not y ≡ true → (x && y) ≡ false
    also true true h = absurd (true≢false (sym h))
    also true false h = refl
    also false y h = refl

    by : (l : List ℕ) → stops (is m) l ≡ true → cond (nat_lt 0 (length l) && nat_eq (slice_index l 0) m) (Some (drop 1 l)) None ≡ None
    by [] h = refl
    by (x ∷ l) h = ap (λ c. cond c (Some l) None) (also (nat_lt 0 (suc (length l))) (nat_eq x m) h)

-- a space stands before
pub mark_space : (m : ℕ) (text : List ℕ) → mark_at m (32 ∷ text) ≡ mark_at m text
unfolding mark_at
mark_space m text = ap (λ l. cond (nat_lt 0 (length l) && nat_eq (slice_index l 0) m) (Some (drop 1 l)) None) (skip_space text)

pub not_ended : (x : ℕ) (rest : List ℕ) → not (is_blank x) ≡ true → ended (x ∷ rest) ≡ false
unfolding ended
not_ended x rest b = ap (λ l. nat_eq (length l) 0) (skip_none (x ∷ rest) b) ∙ (grind (arith, nat_tests))

pub ended_space : (text : List ℕ) → ended (32 ∷ text) ≡ ended text
unfolding ended
ended_space text = ap (λ l. nat_eq (length l) 0) (skip_space text)

pub ended_nothing : ended [] ≡ true
unfolding ended skip
ended_nothing = refl
