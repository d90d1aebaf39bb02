-- What a sink holds after several pieces.
use Rattle.std.proofs.Common.{◌≡◌, ℕ, zero, suc, ◌+◌, ◌-◌, ◌<◌, ◌≤◌, length, length-append, Bool, true, false, cond, Option, None, Some, List, [], ◌++◌, take, drop, refl, sym, ap, ◌∙◌, subst, append_assoc, append-nil, arith}
use Rattle.std.proofs.lemmas.List.{take-append-drop, take-take, drop-take}
use Rattle.std.proofs.Common.{Result, Ok, Err}
use Rattle.guest_services.specs.Streams.{PutsAll}
use Rattle.mx_base.specs.Outside.{Adds, AddsFront, HasRisen}
use Rattle.mx_base.specs.Memory.{Bytes, list_at, first_refused}
use Rattle.paged_memory.proofs.PageBytes.{list_at-add}

pub Adds-none : (old : Option (List ℕ)) → Adds old old []
Adds-none None = tt
Adds-none (Some bytes) = sym (append-nil bytes)

pub Adds-then : (a b c : Option (List ℕ)) (x y : List ℕ) → Adds a b x → Adds b c y → Adds a c (x ++ y)
Adds-then a b None x y p q = tt
Adds-then a None (Some c) x y p q = absurd q
Adds-then None (Some b) (Some c) x y p q = absurd p
Adds-then (Some a) (Some b) (Some c) x y p q = q ∙ ap (λ (l : List ℕ). l ++ y) p ∙ append_assoc a x y

pub front_of_part : (a b : Option (List ℕ)) (x y : List ℕ) → AddsFront a b x → AddsFront a b (x ++ y)
front_of_part a b x y f = record {
  front = f.front;
  rest = f.rest ++ y;
  splits = ap (λ (l : List ℕ). l ++ y) f.splits ∙ append_assoc f.front f.rest y;
  adds = f.adds;
}

pub front_then : (a b c : Option (List ℕ)) (x y : List ℕ) → Adds a b x → AddsFront b c y → AddsFront a c (x ++ y)
front_then a b c x y p f = record {
  front = x ++ f.front;
  rest = f.rest;
  splits = ap (λ (l : List ℕ). x ++ l) f.splits ∙ sym (append_assoc x f.front f.rest);
  adds = Adds-then a b c x f.front p f.adds;
}

pub front_none : (a b : Option (List ℕ)) (x : List ℕ) → Adds a b [] → AddsFront a b x
front_none a b x p = record { front = []; rest = x; splits = refl; adds = p }

pub risen_from : (a b c : ℕ) → b ≡ a → HasRisen b c → HasRisen a c
risen_from a b c e r = subst (λ (x : ℕ). HasRisen x c) e r

-- a piece of some bytes more
pub piece_more : (a b c : Option (List ℕ)) (bytes : List ℕ) (at k : ℕ) → Adds a b (take at bytes) → Adds b c (take k (drop at bytes)) → Adds a c (take (at + k) bytes)
piece_more a b c bytes at k p q =
    let parts : take at bytes ++ take k (drop at bytes) ≡ take (at + k) bytes =
    (λ i. sym (take-take at (at + k) bytes (omega arith)) i ++ sym (drop-take at k bytes) i) ∙ take-append-drop at (take (at + k) bytes) in
    subst (λ (l : List ℕ). Adds a c l) parts (Adds-then a b c (take at bytes) (take k (drop at bytes)) p q)

pub front_more : (a b c : Option (List ℕ)) (bytes : List ℕ) (at : ℕ) → Adds a b (take at bytes) → Adds b c [] → AddsFront a c bytes
front_more a b c bytes at p q = record {
  front = take at bytes;
  rest = drop at bytes;
  splits = sym (take-append-drop at bytes);
  adds = subst (λ (l : List ℕ). Adds a c l) (append-nil (take at bytes)) (Adds-then a b c (take at bytes) [] p q);
}

-- a piece of the bytes of a memory more

pub bytes_more : (a b c : Option (List ℕ)) (m : Bytes) (from at k : ℕ) → Adds a b (list_at at m from) → Adds b c (list_at k m (from + at)) → Adds a c (list_at (at + k) m from)
bytes_more a b c m from at k p q = subst (λ (l : List ℕ). Adds a c l) (sym (list_at-add at k m from)) (Adds-then a b c (list_at at m from) (list_at k m (from + at)) p q)

pub bytes_front : (a b c : Option (List ℕ)) (m : Bytes) (from at k n : ℕ) → at + k ≤ n → Adds a b (list_at at m from) → AddsFront b c (list_at k m (from + at)) → AddsFront a c (list_at n m from)
bytes_front a b c m from at k n fits p q =
    let whole : at + k + (n - (at + k)) ≡ n = omega arith in
    subst (λ (l : List ℕ). AddsFront a c l) (sym (list_at-add (at + k) (n - (at + k)) m from) ∙ ap (λ j. list_at j m from) whole)
    (front_of_part a c (list_at (at + k) m from) (list_at (n - (at + k)) m (from + (at + k)))
    (subst (λ (l : List ℕ). AddsFront a c l) (sym (list_at-add at k m from)) (front_then a b c (list_at at m from) (list_at k m (from + at)) p q)))

-- ---- bytes that were judged

refused_tail : (b : Bool) (o : Option ℕ) (a : ℕ) → cond b o (Some a) ≡ None → o ≡ None
refused_tail true o a e = e
refused_tail false o a e = absurd (cc)

refused_head : (b : Bool) (o : Option ℕ) (a : ℕ) → cond b o (Some a) ≡ None → b ≡ true
refused_head true o a e = refl
refused_head false o a e = absurd (cc)

pub refused_part : (test : ℕ → Bool) (n a at k : ℕ) → first_refused test n a ≡ None → at + k ≤ n → first_refused test k (a + at) ≡ None
unfolding first_refused
refused_part test n a at zero e fits = refl
refused_part test zero a at (suc k) e fits = absurd (omega arith)
refused_part test (suc n) a zero (suc k) e fits =
    let here : a + 0 ≡ a = omega arith in
    let next : a + 1 + 0 ≡ a + 1 = omega arith in
    let rest = refused_part test n (a + 1) 0 k (refused_tail (test a) (first_refused test n (a + 1)) a e) (omega arith) in
    rw (here, refused_head (test a) (first_refused test n (a + 1)) a e) (ap (first_refused test k) (sym next) ∙ rest)
refused_part test (suc n) a (suc at) (suc k) e fits =
    let there : a + suc at ≡ a + 1 + at = omega arith in
    ap (first_refused test (suc k)) there ∙ refused_part test n (a + 1) at (suc k) (refused_tail (test a) (first_refused test n (a + 1)) a e) (omega arith)

more_than : (x y : List ℕ) → 0 < length y → 0 < length (x ++ y)
more_than x y some = let long = length-append x y in omega (arith, long, some)

pub some_front : (x y : List ℕ) → 0 < length x → 0 < length (x ++ y)
some_front x y some = let long = length-append x y in omega (arith, long, some)

-- two pieces, the second after the first
pub puts_then : {E : Type 0} (a b c : Option (List ℕ)) (f f' f'' : ℕ) (x y : List ℕ) (r : Result (Unit {0}) E) → Adds a b x → f' ≡ f → PutsAll b c f' f'' y r → PutsAll a c f f'' (x ++ y) r
puts_then a b c f f' f'' x y (Ok done) adds same put = (Adds-then a b c x y adds put.0, put.1 ∙ same)
puts_then a b c f f' f'' x y (Err e) adds same put = (more_than x y put.0, front_then a b c x y adds put.1, risen_from f f' f'' same put.2)
