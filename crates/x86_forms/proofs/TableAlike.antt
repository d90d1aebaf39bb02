-- Two memories that answer alike do each program alike.
use Rattle.std.proofs.Common.{◌≡◌, ℕ, refl, subst}
use Rattle.std.specs.Prelude.{Result, Ok, Err}
use Rattle.mx_base.specs.declared.limits.Bounds.{Bounds}
use Rattle.x86_forms.specs.Processor.{Processor}
use Rattle.x86_forms.specs.Requests.{Program, Ends, Fails, Reads, Writes, Loads, Keeps, Store, Refused, run, refused_with, either_way}
use Rattle.x86_forms.specs.TableLaws.{AnswerAlike, SameAnswer, SameBounds, SameOutcome}

module _ {X Y O : Type 0} (R : X → Y → Type 0) (m : Store X O) (n : Store Y O) (h : AnswerAlike R m n) (c : Processor) where
  refused : (x : X) (y : Y) (o p : O) → o ≡ p → R x y → SameOutcome {X = X} {Y = Y} {O = O} R (Refused o (refused_with (m.status o c.status) c) x) (Refused p (refused_with (n.status p c.status) c) y)
  refused x y o p e r = subst (λ (q : O). SameOutcome {X = X} {Y = Y} {O = O} R (Refused o (refused_with (m.status o c.status) c) x) (Refused q (refused_with (n.status q c.status) c) y)) e (refl, (λ i. refused_with (h.status o c.status i) c), r)

  after_read : (x : X) (y : Y) (a b : Result ℕ O) (f : ℕ → Program) → a ≡ b → R x y → ((v : ℕ) → SameOutcome R (run m c (f v) x) (run n c (f v) y))
      → SameOutcome R (either_way a (λ v. run m c (f v) x) (λ o. Refused o (refused_with (m.status o c.status) c) x)) (either_way b (λ v. run n c (f v) y) (λ o. Refused o (refused_with (n.status o c.status) c) y))
  after_read x y a b f e r k = subst (λ (z : Result ℕ O). SameOutcome R (either_way a (λ v. run m c (f v) x) (λ o. Refused o (refused_with (m.status o c.status) c) x)) (either_way z (λ v. run n c (f v) y) (λ o. Refused o (refused_with (n.status o c.status) c) y))) e (same_read x y a f r k)
    where
      same_read : (x : X) (y : Y) (a : Result ℕ O) (f : ℕ → Program) → R x y → ((v : ℕ) → SameOutcome R (run m c (f v) x) (run n c (f v) y))
          → SameOutcome R (either_way a (λ v. run m c (f v) x) (λ o. Refused o (refused_with (m.status o c.status) c) x)) (either_way a (λ v. run n c (f v) y) (λ o. Refused o (refused_with (n.status o c.status) c) y))
      same_read x y (Ok v) f r k = k v
      same_read x y (Err o) f r k = refused x y o o refl r

  after_change : (x : X) (y : Y) (a : Result X O) (b : Result Y O) (p : Program) → SameAnswer R a b → R x y → ((u : X) (v : Y) → R u v → SameOutcome R (run m c p u) (run n c p v))
      → SameOutcome R (either_way a (λ u. run m c p u) (λ o. Refused o (refused_with (m.status o c.status) c) x)) (either_way b (λ u. run n c p u) (λ o. Refused o (refused_with (n.status o c.status) c) y))
  after_change x y (Ok u) (Ok v) p e r k = k u v e
  after_change x y (Ok u) (Err q) p e r k = absurd e
  after_change x y (Err o) (Ok v) p e r k = absurd e
  after_change x y (Err o) (Err q) p e r k = refused x y o q e r

  after_load : (x : X) (y : Y) (a : Result (Bounds × X) O) (b : Result (Bounds × Y) O) (f : Bounds → Program) → SameBounds R a b → R x y → ((z : Bounds) (u : X) (v : Y) → R u v → SameOutcome R (run m c (f z) u) (run n c (f z) v))
      → SameOutcome R (either_way a (λ p. run m c (f p.0) p.1) (λ o. Refused o (refused_with (m.status o c.status) c) x)) (either_way b (λ p. run n c (f p.0) p.1) (λ o. Refused o (refused_with (n.status o c.status) c) y))
  after_load x y (Ok p) (Ok q) f e r k = subst (λ (z : Bounds). SameOutcome R (run m c (f p.0) p.1) (run n c (f z) q.1)) e.0 (k p.0 p.1 q.1 e.1)
  after_load x y (Ok p) (Err o) f e r k = absurd e
  after_load x y (Err o) (Ok q) f e r k = absurd e
  after_load x y (Err o) (Err p) f e r k = refused x y o p e r

  pub run_alike : (p : Program) (x : X) (y : Y) → R x y → SameOutcome R (run m c p x) (run n c p y)
  unfolding run
  run_alike (Ends after) x y r = (refl, r)
  run_alike (Fails fault left) x y r = (refl, refl, r)
  run_alike (Reads at size implicit next) x y r = after_read x y _ _ next (h.read x y at size r) r (λ v. run_alike (next v) x y r)
  run_alike (Writes at size value implicit next) x y r = after_change x y _ _ next (h.write x y at size value r) r (λ u v s. run_alike next u v s)
  run_alike (Loads at value next) x y r = after_load x y _ _ next (h.load x y at value r) r (λ b u v s. run_alike (next b) u v s)
  run_alike (Keeps at value b next) x y r = after_change x y _ _ next (h.keep x y at value b r) r (λ u v s. run_alike next u v s)
