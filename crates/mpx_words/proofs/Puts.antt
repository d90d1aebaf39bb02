-- Putting a text in pieces.
use Rattle.std.proofs.Common.{ℕ, ◌+◌, Option, None, Some, List, [], ◌++◌, take, drop, sym, ap, ◌∙◌, subst, append_assoc, arith}
use Rattle.std.proofs.Math.Seq.{take-add}
use Rattle.std.proofs.lemmas.Grind.{common_steps}
use Rattle.std.proofs.lemmas.List.{take-append-drop}
use Rattle.mx_base.specs.Outside.{Adds, AddsFront}

pub adds_nothing : (h : Option (List ℕ)) → Adds h h []
adds_nothing None = tt
adds_nothing (Some xs) = grind (arith, common_steps)

-- one piece after another
pub adds_both : (a b c : Option (List ℕ)) (xs ys : List ℕ) → Adds a b xs → Adds b c ys → Adds a c (xs ++ ys)
adds_both a b None xs ys p q = tt
adds_both a None (Some c) xs ys p q = absurd q
adds_both None (Some b) (Some c) xs ys p q = absurd p
adds_both (Some a) (Some b) (Some c) xs ys p q = q ∙ (ap (λ (t : List ℕ). t ++ ys) p ∙ append_assoc a xs ys)

-- the front that was put, and more of what is left
pub adds_more : (a b c : Option (List ℕ)) (n k : ℕ) (xs : List ℕ) → Adds a b (take n xs) → Adds b c (take k (drop n xs)) → Adds a c (take (n + k) xs)
adds_more a b c n k xs p q = rw (take-add n k xs) (adds_both a b c _ _ p q)

-- a front was put, and then nothing more
pub adds_front : (a b c : Option (List ℕ)) (n : ℕ) (xs : List ℕ) → Adds a b (take n xs) → Adds b c [] → AddsFront a c xs
adds_front a b c n xs p q = record {
  front = take n xs;
  rest = drop n xs;
  splits = sym (take-append-drop n xs);
  adds = subst (λ (t : List ℕ). Adds a c t) (grind (arith, common_steps)) (adds_both a b c (take n xs) [] p q);
}
