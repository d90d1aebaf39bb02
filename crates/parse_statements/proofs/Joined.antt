-- Lists that are read item by item, where some items were read before.
use Rattle.std.proofs.Common.{◌≡◌, ℕ, List, [], ◌∷◌, ◌++◌, Ok, Err, refl, sym, ◌∙◌, ap, append_assoc, append-nil}
use Rattle.c_grammar.specs.Lexemes.{Lexeme}
use Rattle.c_grammar.specs.Reading.{Out, Halt, and_then}
use Rattle.parse_expressions.specs.Gives.{through}

-- nothing was read before
pub from_none : {A : Type 0} (o : Out (List A)) → o ≡ through (λ more. [] ++ more) o
from_none (Ok p) = refl
from_none (Err at) = refl

-- ---- one item, of which what is listed is made; g makes it of each item that follows

regroup : {A B : Type 0} (f : A → B) (g : List A → List B) → ((a : A) (more : List A) → g (a ∷ more) ≡ f a ∷ g more) → (xs : List B) (a : A) (o : Out (List A))
    → through (λ more. xs ++ g more) (through (λ more. a ∷ more) o) ≡ through (λ more. (xs ++ f a ∷ []) ++ g more) o
regroup f g e xs a (Err at) = refl
regroup f g e xs a (Ok p) = ap (λ z. Ok (z, p.1, p.2)) (ap (λ z. xs ++ z) (e a p.0) ∙ sym (append_assoc xs (f a ∷ []) (g p.0)))

pub push_more : {A B : Type 0} (f : A → B) (g : List A → List B) → ((a : A) (more : List A) → g (a ∷ more) ≡ f a ∷ g more) → (xs : List B) (o : Out (List A)) (r : Out A) (m : ℕ → List Lexeme → Out (List A)) (a : A) (mid : List Lexeme) (d : ℕ)
    → o ≡ and_then r (λ a mid d. through (λ more. a ∷ more) (m d mid)) → r ≡ Ok (a, mid, d) → through (λ more. xs ++ g more) o ≡ through (λ more. (xs ++ f a ∷ []) ++ g more) (m d mid)
push_more f g e xs o r m a mid d h k =
    ap (through (λ more. xs ++ g more)) (h ∙ ap (λ z. and_then z (λ a mid d. through (λ more. a ∷ more) (m d mid))) k) ∙ regroup f g e xs a (m d mid)

pub push_stop : {A B : Type 0} (g : List A → List B) (xs : List B) (o : Out (List A)) (r : Out A) (m : ℕ → List Lexeme → Out (List A)) (at : Halt)
    → o ≡ and_then r (λ a mid d. through (λ more. a ∷ more) (m d mid)) → r ≡ Err at → through (λ more. xs ++ g more) o ≡ Err at
push_stop g xs o r m at h k = ap (through (λ more. xs ++ g more)) (h ∙ ap (λ z. and_then z (λ a mid d. through (λ more. a ∷ more) (m d mid))) k)

pub push_none : {A B : Type 0} (g : List A → List B) (xs : List B) (o : Out (List A)) (ts : List Lexeme) (d : ℕ) → o ≡ Ok ([], ts, d) → g [] ≡ [] → through (λ more. xs ++ g more) o ≡ Ok (xs, ts, d)
push_none g xs o ts d h k = ap (through (λ more. xs ++ g more)) h ∙ ap (λ z. Ok (z, ts, d)) (ap (λ z. xs ++ z) k ∙ append-nil xs)

-- ---- items of which each gives several

joins : {A : Type 0} (xs ys : List A) (o : Out (List A)) → through (λ more. xs ++ more) (through (λ more. ys ++ more) o) ≡ through (λ more. (xs ++ ys) ++ more) o
joins xs ys (Err at) = refl
joins xs ys (Ok p) = ap (λ z. Ok (z, p.1, p.2)) (sym (append_assoc xs ys p.0))

pub append_more : {A B : Type 0} (f : A → List B) (xs : List B) (o : Out (List B)) (r : Out A) (m : ℕ → List Lexeme → Out (List B)) (a : A) (mid : List Lexeme) (d : ℕ)
    → o ≡ and_then r (λ a mid d. through (λ more. f a ++ more) (m d mid)) → r ≡ Ok (a, mid, d) → through (λ more. xs ++ more) o ≡ through (λ more. (xs ++ f a) ++ more) (m d mid)
append_more f xs o r m a mid d h k = ap (through (λ more. xs ++ more)) (h ∙ ap (λ z. and_then z (λ a mid d. through (λ more. f a ++ more) (m d mid))) k) ∙ joins xs (f a) (m d mid)

pub append_stop : {A B : Type 0} (f : A → List B) (xs : List B) (o : Out (List B)) (r : Out A) (m : ℕ → List Lexeme → Out (List B)) (at : Halt)
    → o ≡ and_then r (λ a mid d. through (λ more. f a ++ more) (m d mid)) → r ≡ Err at → through (λ more. xs ++ more) o ≡ Err at
append_stop f xs o r m at h k = ap (through (λ more. xs ++ more)) (h ∙ ap (λ z. and_then z (λ a mid d. through (λ more. f a ++ more) (m d mid))) k)

pub append_none : {B : Type 0} (xs : List B) (o : Out (List B)) (ts : List Lexeme) (d : ℕ) → o ≡ Ok ([], ts, d) → through (λ more. xs ++ more) o ≡ Ok (xs, ts, d)
append_none xs o ts d h = ap (through (λ more. xs ++ more)) h ∙ ap (λ z. Ok (z, ts, d)) (append-nil xs)
