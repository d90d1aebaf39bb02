-- The nestings that are open at the tokens of what is read: none is over the limit before reading stops, and where it stops as too deep one is.
use Rattle.std.proofs.Common.{◌≡◌, ℕ, zero, suc, ◌+◌, ◌<◌, ◌≤◌, Bool, true, false, ◌||◌, ◌&&◌, if◌then◌else◌, ◌⊎◌, inl, inr, List, [], ◌∷◌, ◌++◌, append_assoc, length, Ok, Err, refl, sym, ◌∙◌, ap, subst, nat_lt, arith}
use Rattle.std.specs.List.{All}
use Rattle.std.proofs.lemmas.List.{length-append}
use Rattle.std.proofs.lemmas.List.Elements.{All-nil, All-cons, All-append}
use borrow.Author.Tests.{ltb-true, ltb-false}
use Rattle.c_tokens.specs.declared.class.Class.{Class}
use Rattle.c_tokens.specs.declared.class.Class.TheVariants as k
use Rattle.c_grammar.specs.Lexemes.{Lexeme, same, look, among}
use Rattle.c_grammar.specs.Rules.{N, Of, Rx, eps, no_else, tok, seq, alt, map, nest, scope, call, after_scope, Reads_with}
use Rattle.c_grammar.specs.Grammar.{rule, Reads_within, Reads}
use Rattle.c_grammar.specs.Nesting.{Nests_with, Nests_within, Nests, FirstOver}
use Rattle.c_grammar.specs.Reading.{Out, unfit, too_deep, Allow, deeper, and_then, skips_of, skips, starts, take_tok, parse_with, size, parse}
use Rattle.c_grammar.proofs.Checks.{and_left, and_right, or_left, or_right, clash, is_not, fine}
use Rattle.c_grammar.proofs.Relation.{and_true, or_left_true, or_right_true, table_fine, table_skips}
use Rattle.c_grammar.proofs.Good.{Quiet, Reader, Calls, look_front, quiet_before, quiet_name, not_right, not_left}
use Rattle.c_grammar.proofs.Steps.{Below, calls_mono, calls_of, parse_shrinks, parse_step}

-- ---- the relation by itself

abbrev pub Nesting : Type 1
Nesting = (m : N) → ℕ → List Lexeme → Of m → List Lexeme → ℕ → List ℕ → Type 0

nests_mono : (R R' : Nesting) → ((m : N) (d : ℕ) (ts : List Lexeme) (v : Of m) (rest : List Lexeme) (e : ℕ) (ls : List ℕ) → R m d ts v rest e ls → R' m d ts v rest e ls) → {A : Type 0} (r : Rx A) (d : ℕ) (ts : List Lexeme) (v : A) (rest : List Lexeme) (e : ℕ) (ls : List ℕ) → Nests_with R r d ts v rest e ls → Nests_with R' r d ts v rest e ls
nests_mono R R' f eps d ts v rest e ls h = h
nests_mono R R' f no_else d ts v rest e ls h = h
nests_mono R R' f (tok g c cs) d ts v rest e ls h = h
nests_mono R R' f (seq r s) d ts v rest e ls h = (h.0, h.1, h.2, h.3, nests_mono R R' f r d ts v.0 h.0 h.1 h.2 h.4, nests_mono R R' f s h.1 h.0 v.1 rest e h.3 h.5, h.6)
nests_mono R R' f (alt r s) d ts v rest e ls (inl h) = inl (nests_mono R R' f r d ts v rest e ls h)
nests_mono R R' f (alt r s) d ts v rest e ls (inr h) = inr (nests_mono R R' f s d ts v rest e ls h)
nests_mono R R' f (map g r) d ts v rest e ls h = (h.0, nests_mono R R' f r d ts h.0 rest e ls h.1, h.2)
nests_mono R R' f (nest r) d ts v rest e ls h = nests_mono R R' f r (d + 1) ts v rest e ls h
nests_mono R R' f (scope g r) d ts v rest e ls h = (h.0, nests_mono R R' f r d ts v rest h.0 ls h.1, h.2)
nests_mono R R' f (call m) d ts v rest e ls h = f m d ts v rest e ls h

nests_open_at : (h : ℕ) (m : N) (d : ℕ) (ts : List Lexeme) (v : Of m) (rest : List Lexeme) (e : ℕ) (ls : List ℕ) → Nests_within h m d ts v rest e ls → Nests_with Nests (rule m) d ts v rest e ls
nests_open_at zero m d ts v rest e ls x = absurd x
nests_open_at (suc h) m d ts v rest e ls x = nests_mono (Nests_within h) Nests (λ m' d' us w end e' ms y. record { height = h; nests = y }) (rule m) d ts v rest e ls x

-- a rule's name nests what the rule nests
nests_open : (m : N) (d : ℕ) (ts : List Lexeme) (v : Of m) (rest : List Lexeme) (e : ℕ) (ls : List ℕ) → Nests m d ts v rest e ls → Nests_with Nests (rule m) d ts v rest e ls
nests_open m d ts v rest e ls x = nests_open_at x.height m d ts v rest e ls x.nests

-- without the levels
forget_with : (R : Nesting) (R' : (m : N) → List Lexeme → Of m → List Lexeme → Type 0) → ((m : N) (d : ℕ) (ts : List Lexeme) (v : Of m) (rest : List Lexeme) (e : ℕ) (ls : List ℕ) → R m d ts v rest e ls → R' m ts v rest) → {A : Type 0} (r : Rx A) (d : ℕ) (ts : List Lexeme) (v : A) (rest : List Lexeme) (e : ℕ) (ls : List ℕ) → Nests_with R r d ts v rest e ls → Reads_with R' r ts v rest
forget_with R R' f eps d ts v rest e ls h = h.0
forget_with R R' f no_else d ts v rest e ls h = (h.0, h.3)
forget_with R R' f (tok g c cs) d ts v rest e ls h = (h.0, h.1, h.4, h.5)
forget_with R R' f (seq r s) d ts v rest e ls h = (h.0, forget_with R R' f r d ts v.0 h.0 h.1 h.2 h.4, forget_with R R' f s h.1 h.0 v.1 rest e h.3 h.5)
forget_with R R' f (alt r s) d ts v rest e ls (inl h) = inl (forget_with R R' f r d ts v rest e ls h)
forget_with R R' f (alt r s) d ts v rest e ls (inr h) = inr (forget_with R R' f s d ts v rest e ls h)
forget_with R R' f (map g r) d ts v rest e ls h = (h.0, forget_with R R' f r d ts h.0 rest e ls h.1, h.2)
forget_with R R' f (nest r) d ts v rest e ls h = forget_with R R' f r (d + 1) ts v rest e ls h
forget_with R R' f (scope g r) d ts v rest e ls h = forget_with R R' f r d ts v rest h.0 ls h.1
forget_with R R' f (call m) d ts v rest e ls h = f m d ts v rest e ls h

forget_within : (h : ℕ) (m : N) (d : ℕ) (ts : List Lexeme) (v : Of m) (rest : List Lexeme) (e : ℕ) (ls : List ℕ) → Nests_within h m d ts v rest e ls → Reads_within h m ts v rest
forget_within zero m d ts v rest e ls x = x
forget_within (suc h) m d ts v rest e ls x = forget_with (Nests_within h) (Reads_within h) (forget_within h) (rule m) d ts v rest e ls x

forget_name : (m : N) (d : ℕ) (ts : List Lexeme) (v : Of m) (rest : List Lexeme) (e : ℕ) (ls : List ℕ) → Nests m d ts v rest e ls → Reads m ts v rest
forget_name m d ts v rest e ls x = record { height = x.height; reads = forget_within x.height m d ts v rest e ls x.nests }

pub forget : {A : Type 0} (r : Rx A) (d : ℕ) (ts : List Lexeme) (v : A) (rest : List Lexeme) (e : ℕ) (ls : List ℕ) → Nests_with Nests r d ts v rest e ls → Reads_with Reads r ts v rest
forget r d ts v rest e ls x = forget_with Nests Reads forget_name r d ts v rest e ls x

-- what is read has levels
abbrev Levelled : Nesting → {A : Type 0} → Rx A → ℕ → List Lexeme → A → List Lexeme → Type 0
Levelled R r d ts v rest = (e : ℕ) × (ls : List ℕ) × Nests_with R r d ts v rest e ls

levelled_with : (R' : (m : N) → List Lexeme → Of m → List Lexeme → Type 0) (R : Nesting) → ((m : N) (d : ℕ) (ts : List Lexeme) (v : Of m) (rest : List Lexeme) → R' m ts v rest → Levelled R (call m) d ts v rest) → {A : Type 0} (r : Rx A) (d : ℕ) (ts : List Lexeme) (v : A) (rest : List Lexeme) → Reads_with R' r ts v rest → Levelled R r d ts v rest
levelled_with R' R f eps d ts v rest h = (d, [], (h, refl, refl))
levelled_with R' R f no_else d ts v rest h = (d, [], (h.0, refl, refl, h.1))
levelled_with R' R f (tok g c cs) d ts v rest h = (d, d ∷ [], (h.0, h.1, refl, refl, h.2, h.3))
levelled_with R' R f (seq r s) d ts v rest h =
    let x = levelled_with R' R f r d ts v.0 h.0 h.1 in
    let y = levelled_with R' R f s x.0 h.0 v.1 rest h.2 in
    (y.0, x.1 ++ y.1, (h.0, x.0, x.1, y.1, x.2, y.2, refl))
levelled_with R' R f (alt r s) d ts v rest (inl h) = let x = levelled_with R' R f r d ts v rest h in (x.0, x.1, inl x.2)
levelled_with R' R f (alt r s) d ts v rest (inr h) = let x = levelled_with R' R f s d ts v rest h in (x.0, x.1, inr x.2)
levelled_with R' R f (map g r) d ts v rest h = let x = levelled_with R' R f r d ts h.0 rest h.1 in (x.0, x.1, (h.0, x.2, h.2))
levelled_with R' R f (nest r) d ts v rest h = levelled_with R' R f r (d + 1) ts v rest h
levelled_with R' R f (scope g r) d ts v rest h = let x = levelled_with R' R f r d ts v rest h in (after_scope g d, x.1, (x.0, x.2, refl))
levelled_with R' R f (call m) d ts v rest h = f m d ts v rest h

levelled_within : (h : ℕ) (m : N) (d : ℕ) (ts : List Lexeme) (v : Of m) (rest : List Lexeme) → Reads_within h m ts v rest → Levelled (Nests_within h) (call m) d ts v rest
levelled_within zero m d ts v rest x = absurd x
levelled_within (suc h) m d ts v rest x = levelled_with (Reads_within h) (Nests_within h) (levelled_within h) (rule m) d ts v rest x

pub levelled : (m : N) (d : ℕ) (ts : List Lexeme) (v : Of m) (rest : List Lexeme) → Reads m ts v rest → (e : ℕ) × (ls : List ℕ) × Nests m d ts v rest e ls
levelled m d ts v rest x = let y = levelled_within x.height m d ts v rest x.reads in (y.0, y.1, record { height = x.height; nests = y.2 })

-- ---- the level of a first token

-- nothing is read and no nesting ends, or the first token has at least the nestings that were open
abbrev Rises : Bool → ℕ → ℕ → List ℕ → Type 0
Rises skip d e ls = ((ls ≡ []) × (d ≤ e) × (skip ≡ true)) ⊎ ((l : ℕ) × (more : List ℕ) × (ls ≡ l ∷ more) × (d ≤ l))

rises_seq : (p q : Bool) (d m e : ℕ) (f b : List ℕ) → Rises p d m f → Rises q m e b → Rises (p && q) d e (f ++ b)
rises_seq p q d m e f b (inr x) y = inr (x.0, x.1 ++ b, ap (λ z. z ++ b) x.2, x.3)
rises_seq p q d m e f b (inl x) (inl y) =
    let d_m : d ≤ m = x.1 in
    let m_e : m ≤ e = y.1 in
    inl (ap (λ z. z ++ b) x.0 ∙ y.0, omega (arith, d_m, m_e), and_true _ _ x.2 y.2)
rises_seq p q d m e f b (inl x) (inr y) =
    let d_m : d ≤ m = x.1 in
    let m_l : m ≤ y.0 = y.3 in
    inr (y.0, y.1, ap (λ z. z ++ b) x.0 ∙ y.2, omega (arith, d_m, m_l))

rises_left : (p q : Bool) (d e : ℕ) (ls : List ℕ) → Rises p d e ls → Rises (p || q) d e ls
rises_left p q d e ls (inl x) = inl (x.0, x.1, or_left_true _ _ x.2)
rises_left p q d e ls (inr x) = inr x

rises_right : (p q : Bool) (d e : ℕ) (ls : List ℕ) → Rises q d e ls → Rises (p || q) d e ls
rises_right p q d e ls (inl x) = inl (x.0, x.1, or_right_true _ _ x.2)
rises_right p q d e ls (inr x) = inr x

rises_nest : (p : Bool) (d e : ℕ) (ls : List ℕ) → Rises p (d + 1) e ls → Rises p d e ls
rises_nest p d e ls (inl x) = let h : d + 1 ≤ e = x.1 in inl (x.0, omega (arith, h), x.2)
rises_nest p d e ls (inr x) = let h : d + 1 ≤ x.0 = x.3 in inr (x.0, x.1, x.2, omega (arith, h))

rises_scope : (p : Bool) (d e e' : ℕ) (ls : List ℕ) → p ≡ false → Rises p d e ls → Rises p d e' ls
rises_scope p d e e' ls f (inl x) = absurd (clash x.2 f)
rises_scope p d e e' ls f (inr x) = inr x

rises_with : (R : Nesting) → ((m : N) (d : ℕ) (ts : List Lexeme) (v : Of m) (rest : List Lexeme) (e : ℕ) (ls : List ℕ) → R m d ts v rest e ls → Rises (skips_of m) d e ls) → {A : Type 0} (r : Rx A) → fine r ≡ true → (d : ℕ) (ts : List Lexeme) (v : A) (rest : List Lexeme) (e : ℕ) (ls : List ℕ) → Nests_with R r d ts v rest e ls → Rises (skips r) d e ls
rises_with R f eps w d ts v rest e ls h = inl (h.2, subst (λ z. d ≤ z) (sym h.1) (omega arith), refl)
rises_with R f no_else w d ts v rest e ls h = inl (h.2, subst (λ z. d ≤ z) (sym h.1) (omega arith), refl)
rises_with R f (tok g c cs) w d ts v rest e ls h = inr (d, [], h.3, omega arith)
rises_with R f (seq r s) w d ts v rest e ls h = subst (Rises (skips r && skips s) d e) (sym h.6) (rises_seq (skips r) (skips s) d h.1 e h.2 h.3 (rises_with R f r (and_left _ _ (and_left _ _ w)) d ts v.0 h.0 h.1 h.2 h.4) (rises_with R f s (and_right (fine r) _ (and_left _ _ w)) h.1 h.0 v.1 rest e h.3 h.5))
rises_with R f (alt r s) w d ts v rest e ls (inl h) = rises_left (skips r) (skips s) d e ls (rises_with R f r (and_left _ _ (and_left _ _ w)) d ts v rest e ls h)
rises_with R f (alt r s) w d ts v rest e ls (inr h) = rises_right (skips r) (skips s) d e ls (rises_with R f s (and_right (fine r) _ (and_left _ _ w)) d ts v rest e ls h)
rises_with R f (map g r) w d ts v rest e ls h = rises_with R f r w d ts h.0 rest e ls h.1
rises_with R f (nest r) w d ts v rest e ls h = rises_nest (skips r) d e ls (rises_with R f r (and_left _ _ w) (d + 1) ts v rest e ls h)
rises_with R f (scope g r) w d ts v rest e ls h = rises_scope (skips r) d h.0 e ls (is_not _ (and_right _ _ w)) (rises_with R f r (and_left _ _ w) d ts v rest h.0 ls h.1)
rises_with R f (call m) w d ts v rest e ls h = f m d ts v rest e ls h

rises_within : (h : ℕ) (m : N) (d : ℕ) (ts : List Lexeme) (v : Of m) (rest : List Lexeme) (e : ℕ) (ls : List ℕ) → Nests_within h m d ts v rest e ls → Rises (skips_of m) d e ls
rises_within zero m d ts v rest e ls x = absurd x
rises_within (suc h) m d ts v rest e ls x = subst (λ b. Rises b d e ls) (table_skips m) (rises_with (Nests_within h) (rises_within h) (rule m) (table_fine m) d ts v rest e ls x)

rises : {A : Type 0} (r : Rx A) → fine r ≡ true → (d : ℕ) (ts : List Lexeme) (v : A) (rest : List Lexeme) (e : ℕ) (ls : List ℕ) → Nests_with Nests r d ts v rest e ls → Rises (skips r) d e ls
rises r w d ts v rest e ls x = rises_with Nests (λ m d' us u end e' ms y. rises_within y.height m d' us u end e' ms y.nests) r w d ts v rest e ls x

-- ---- what reading to a limit says of levels

abbrev pub under : ℕ → Allow
under M d = nat_lt d M

abbrev Within : ℕ → List ℕ → Type 0
Within M = All (λ l. l ≤ M)

-- in each other text with the same front and the same next class
pub record Low (M : ℕ) {A : Type 0} (r : Rx A) (d : ℕ) (ts mid : List Lexeme) (after : ℕ) : Type 0 where
  pub front : List Lexeme
  pub splits : ts ≡ front ++ mid
  pub fits : after ≤ M
  pub only : (mid' : List Lexeme) (v' : A) (rest' : List Lexeme) (e : ℕ) (ls : List ℕ) → look mid' ≡ look mid → Nests_with Nests r d (front ++ mid') v' rest' e ls → Quiet r rest' → (rest' ≡ mid') × (e ≡ after) × Within M ls × (length ls ≡ length front)

pub record High (M : ℕ) {A : Type 0} (r : Rx A) (d : ℕ) (ts at : List Lexeme) : Type 0 where
  pub front : List Lexeme
  pub splits : ts ≡ front ++ at
  pub only : (mid' : List Lexeme) (v' : A) (rest' : List Lexeme) (e : ℕ) (ls : List ℕ) → look mid' ≡ look at → Nests_with Nests r d (front ++ mid') v' rest' e ls → Quiet r rest' → FirstOver M ls (length front)

abbrev pub Deep : ℕ → {A : Type 0} → Rx A → ℕ → List Lexeme → Out A → Type 0
Deep M r d ts (Ok p) = Low M r d ts p.1 p.2
Deep M r d ts (Err (unfit at)) = Unit {0}
Deep M r d ts (Err (too_deep at)) = High M r d ts at

later : (M : ℕ) (f b : List ℕ) (n : ℕ) → FirstOver M f n → FirstOver M (f ++ b) n
later M f b n x = record { low = x.low; level = x.level; high = x.high ++ b; is = ap (λ z. z ++ b) x.is ∙ append_assoc x.low (x.level ∷ x.high) b; counts = x.counts; within = x.within; over = x.over }

earlier : (M : ℕ) (f b : List ℕ) (m n : ℕ) → Within M f → length f ≡ m → FirstOver M b n → FirstOver M (f ++ b) (m + n)
earlier M f b m n w e x = record {
  low = f ++ x.low;
  level = x.level;
  high = x.high;
  is = ap (λ z. f ++ z) x.is ∙ sym (append_assoc f x.low (x.level ∷ x.high));
  counts = length-append f x.low ∙ ap (λ z. z + length x.low) e ∙ ap (λ z. m + z) x.counts;
  within = All-append (λ l. l ≤ M) f x.low w x.within;
  over = x.over;
}

module _ (M : ℕ) {A B : Type 0} (r : Rx A) (s : Rx B) (w : fine (seq r s) ≡ true) (d : ℕ) where
  seq_high : (ts at : List Lexeme) → High M r d ts at → High M (seq r s) d ts at
  seq_high ts at x = record {
    front = x.front;
    splits = x.splits;
    only = λ mid' v' rest' e ls lk rd q. subst (λ z. FirstOver M z (length x.front)) (sym rd.6) (later M rd.2 rd.3 (length x.front) (x.only mid' v'.0 rd.0 rd.1 rd.2 lk rd.4 (quiet_before r s w rd.0 v'.1 rest' (forget s rd.1 rd.0 v'.1 rest' e rd.3 rd.5) q)));
  }

  module _ (ts mid : List Lexeme) (m : ℕ) (x : Low M r d ts mid m) where
    abbrev Split : List Lexeme → List Lexeme → B → List Lexeme → ℕ → List ℕ → Type 0
    Split front mid' v' rest' e ls = (f : List ℕ) × (b : List ℕ) × (ls ≡ f ++ b) × Within M f × (length f ≡ length x.front) × Nests_with Nests s m (front ++ mid') v' rest' e b

    -- what the first reads ends where it did
    split : (front after mid' : List Lexeme) (v' : A × B) (rest' : List Lexeme) (e : ℕ) (ls : List ℕ) → mid ≡ front ++ after → look mid' ≡ look after → Nests_with Nests (seq r s) d ((x.front ++ front) ++ mid') v' rest' e ls → Quiet (seq r s) rest' → Split front mid' v'.1 rest' e ls
    split front after mid' v' rest' e ls sp lk rd q =
        let one = x.only (front ++ mid') v'.0 rd.0 rd.1 rd.2 (look_front front after mid' lk ∙ ap look (sym sp)) (subst (λ z. Nests_with Nests r d z v'.0 rd.0 rd.1 rd.2) (append_assoc x.front front mid') rd.4) (quiet_before r s w rd.0 v'.1 rest' (forget s rd.1 rd.0 v'.1 rest' e rd.3 rd.5) q) in
        (rd.2, rd.3, rd.6, one.2, one.3, subst (λ z. Nests_with Nests s z (front ++ mid') v'.1 rest' e rd.3) one.1 (subst (λ z. Nests_with Nests s rd.1 z v'.1 rest' e rd.3) one.0 rd.5))

    splits_both : (front after : List Lexeme) → mid ≡ front ++ after → ts ≡ (x.front ++ front) ++ after
    splits_both front after e = x.splits ∙ ap (λ z. x.front ++ z) e ∙ sym (append_assoc x.front front after)

    seq_low : (rest : List Lexeme) (after : ℕ) → Low M s m mid rest after → Low M (seq r s) d ts rest after
    seq_low rest after y = record {
      front = x.front ++ y.front;
      splits = splits_both y.front rest y.splits;
      fits = y.fits;
      only = λ mid' v' rest' e ls lk rd q.
          let z = split y.front rest mid' v' rest' e ls y.splits lk rd q in
          let two = y.only mid' v'.1 rest' e z.1 lk z.5 (or_left _ _ q) in
          (two.0, two.1, subst (Within M) (sym z.2) (All-append (λ l. l ≤ M) z.0 z.1 z.3 two.2), ap length z.2 ∙ length-append z.0 z.1 ∙ ap (λ u. u + length z.1) z.4 ∙ ap (λ u. length x.front + u) two.3 ∙ sym (length-append x.front y.front));
    }

    seq_late : (at : List Lexeme) → High M s m mid at → High M (seq r s) d ts at
    seq_late at y = record {
      front = x.front ++ y.front;
      splits = splits_both y.front at y.splits;
      only = λ mid' v' rest' e ls lk rd q.
          let z = split y.front at mid' v' rest' e ls y.splits lk rd q in
          let two = y.only mid' v'.1 rest' e z.1 lk z.5 (or_left _ _ q) in
          subst (λ u. FirstOver M ls u) (sym (length-append x.front y.front)) (subst (λ u. FirstOver M u (length x.front + length y.front)) (sym z.2) (earlier M z.0 z.1 (length x.front) (length y.front) z.3 z.4 two));
    }

    seq_then : (o : Out B) → Deep M s m mid o → (a : A) → Deep M (seq r s) d ts (and_then {B = A × B} o (λ b rest e. Ok ((a, b), rest, e)))
    seq_then (Ok p) y a = seq_low p.1 p.2 y
    seq_then (Err (unfit at)) y a = tt
    seq_then (Err (too_deep at)) y a = seq_late at y

  seq_case : (ts : List Lexeme) (next : ℕ → List Lexeme → Out B) (o : Out A) → Deep M r d ts o → ((a : A) (mid : List Lexeme) (e : ℕ) → o ≡ Ok (a, mid, e) → e ≤ M → Deep M s e mid (next e mid)) → Deep M (seq r s) d ts (and_then {B = A × B} o (λ a mid e. and_then {B = A × B} (next e mid) (λ b rest e'. Ok ((a, b), rest, e'))))
  seq_case ts next (Ok p) x y = seq_then ts p.1 p.2 x (next p.2 p.1) (y p.0 p.1 p.2 refl x.fits) p.0
  seq_case ts next (Err (unfit at)) x y = tt
  seq_case ts next (Err (too_deep at)) x y = seq_high ts at x

module _ (M : ℕ) {A : Type 0} (r s : Rx A) (w : fine (alt r s) ≡ true) (d : ℕ) (ts : List Lexeme) where
  module _ (b : starts r (look ts) ≡ true) where
    left_low : (mid : List Lexeme) (m : ℕ) (x : Low M r d ts mid m) (mid' : List Lexeme) (v' : A) (rest' : List Lexeme) (e : ℕ) (ls : List ℕ) → look mid' ≡ look mid → (Nests_with Nests r d (x.front ++ mid') v' rest' e ls ⊎ Nests_with Nests s d (x.front ++ mid') v' rest' e ls) → Quiet (alt r s) rest' → (rest' ≡ mid') × (e ≡ m) × Within M ls × (length ls ≡ length x.front)
    left_low mid m x mid' v' rest' e ls lk (inl rd) q = x.only mid' v' rest' e ls lk rd (or_left _ _ (or_left _ _ q))
    left_low mid m x mid' v' rest' e ls lk (inr rd) q = absurd (not_right r s w ts b x.front mid mid' v' rest' x.splits lk (forget s d _ v' rest' e ls rd) q)

    left_high : (at : List Lexeme) (x : High M r d ts at) (mid' : List Lexeme) (v' : A) (rest' : List Lexeme) (e : ℕ) (ls : List ℕ) → look mid' ≡ look at → (Nests_with Nests r d (x.front ++ mid') v' rest' e ls ⊎ Nests_with Nests s d (x.front ++ mid') v' rest' e ls) → Quiet (alt r s) rest' → FirstOver M ls (length x.front)
    left_high at x mid' v' rest' e ls lk (inl rd) q = x.only mid' v' rest' e ls lk rd (or_left _ _ (or_left _ _ q))
    left_high at x mid' v' rest' e ls lk (inr rd) q = absurd (not_right r s w ts b x.front at mid' v' rest' x.splits lk (forget s d _ v' rest' e ls rd) q)

    left_case : (o : Out A) → Deep M r d ts o → Deep M (alt r s) d ts o
    left_case (Ok p) x = record { front = x.front; splits = x.splits; fits = x.fits; only = left_low p.1 p.2 x }
    left_case (Err (unfit at)) x = tt
    left_case (Err (too_deep at)) x = record { front = x.front; splits = x.splits; only = left_high at x }

  module _ (b : starts r (look ts) ≡ false) where
    right_low : (mid : List Lexeme) (m : ℕ) (x : Low M s d ts mid m) (mid' : List Lexeme) (v' : A) (rest' : List Lexeme) (e : ℕ) (ls : List ℕ) → look mid' ≡ look mid → (Nests_with Nests r d (x.front ++ mid') v' rest' e ls ⊎ Nests_with Nests s d (x.front ++ mid') v' rest' e ls) → Quiet (alt r s) rest' → (rest' ≡ mid') × (e ≡ m) × Within M ls × (length ls ≡ length x.front)
    right_low mid m x mid' v' rest' e ls lk (inr rd) q = x.only mid' v' rest' e ls lk rd (or_right _ _ (or_left _ _ q))
    right_low mid m x mid' v' rest' e ls lk (inl rd) q = absurd (not_left r s w ts b x.front mid mid' v' rest' x.splits lk (forget r d _ v' rest' e ls rd))

    right_high : (at : List Lexeme) (x : High M s d ts at) (mid' : List Lexeme) (v' : A) (rest' : List Lexeme) (e : ℕ) (ls : List ℕ) → look mid' ≡ look at → (Nests_with Nests r d (x.front ++ mid') v' rest' e ls ⊎ Nests_with Nests s d (x.front ++ mid') v' rest' e ls) → Quiet (alt r s) rest' → FirstOver M ls (length x.front)
    right_high at x mid' v' rest' e ls lk (inr rd) q = x.only mid' v' rest' e ls lk rd (or_right _ _ (or_left _ _ q))
    right_high at x mid' v' rest' e ls lk (inl rd) q = absurd (not_left r s w ts b x.front at mid' v' rest' x.splits lk (forget r d _ v' rest' e ls rd))

    right_case : (o : Out A) → Deep M s d ts o → Deep M (alt r s) d ts o
    right_case (Ok p) x = record { front = x.front; splits = x.splits; fits = x.fits; only = right_low p.1 p.2 x }
    right_case (Err (unfit at)) x = tt
    right_case (Err (too_deep at)) x = record { front = x.front; splits = x.splits; only = right_high at x }

  alt_case : (b : Bool) → starts r (look ts) ≡ b → (o o' : Out A) → Deep M r d ts o → Deep M s d ts o' → Deep M (alt r s) d ts (if b then o else o')
  alt_case true e o o' x y = left_case e o x
  alt_case false e o o' x y = right_case e o' y

map_case : (M : ℕ) {A B : Type 0} (g : A → B) (r : Rx A) (d : ℕ) (ts : List Lexeme) (o : Out A) → Deep M r d ts o → Deep M (map g r) d ts (and_then {B = B} o (λ a rest e. Ok (g a, rest, e)))
map_case M g r d ts (Ok p) x = record { front = x.front; splits = x.splits; fits = x.fits; only = λ mid' v' rest' e ls lk rd q. x.only mid' rd.0 rest' e ls lk rd.1 q }
map_case M g r d ts (Err (unfit at)) x = tt
map_case M g r d ts (Err (too_deep at)) x = record { front = x.front; splits = x.splits; only = λ mid' v' rest' e ls lk rd q. x.only mid' rd.0 rest' e ls lk rd.1 q }

scope_fits : (M : ℕ) (b : Bool) (d : ℕ) → d ≤ M → after_scope b d ≤ M
scope_fits M false d h = h
scope_fits M true d h = omega (arith, h)

scope_case : (M : ℕ) (b : Bool) {A : Type 0} (r : Rx A) (d : ℕ) → d ≤ M → (ts : List Lexeme) (o : Out A) → Deep M r d ts o → Deep M (scope b r) d ts (and_then {B = A} o (λ a rest e. Ok (a, rest, after_scope b d)))
scope_case M b r d h ts (Ok p) x = record {
  front = x.front;
  splits = x.splits;
  fits = scope_fits M b d h;
  only = λ mid' v' rest' e ls lk rd q. let one = x.only mid' v' rest' rd.0 ls lk rd.1 q in (one.0, rd.2, one.2, one.3);
}
scope_case M b r d h ts (Err (unfit at)) x = tt
scope_case M b r d h ts (Err (too_deep at)) x = record { front = x.front; splits = x.splits; only = λ mid' v' rest' e ls lk rd q. x.only mid' v' rest' rd.0 ls lk rd.1 q }

same_nest : (M : ℕ) {A : Type 0} (r : Rx A) (d : ℕ) (ts : List Lexeme) (o : Out A) → Deep M r (d + 1) ts o → Deep M (nest r) d ts o
same_nest M r d ts (Ok p) x = record { front = x.front; splits = x.splits; fits = x.fits; only = x.only }
same_nest M r d ts (Err (unfit at)) x = tt
same_nest M r d ts (Err (too_deep at)) x = record { front = x.front; splits = x.splits; only = x.only }

over_first : (M d : ℕ) (skip : Bool) (e : ℕ) (ls : List ℕ) → M ≤ d → skip ≡ false → Rises skip (d + 1) e ls → FirstOver M ls 0
over_first M d skip e ls h f (inl x) = absurd (clash x.2 f)
over_first M d skip e ls h f (inr x) =
    let l : d + 1 ≤ x.0 = x.3 in
    record { low = []; level = x.0; high = x.1; is = x.2; counts = refl; within = All-nil (λ z. z ≤ M); over = omega (arith, h, l) }

nest_case : (M : ℕ) {A : Type 0} (r : Rx A) → fine (nest r) ≡ true → (d : ℕ) (ts : List Lexeme) (b c : Bool) → nat_lt d M ≡ c → (o : Out A) → (d + 1 ≤ M → Deep M r (d + 1) ts o) → Deep M (nest r) d ts (deeper b c ts o)
nest_case M r w d ts false c e o x = tt
nest_case M r w d ts true true e o x = same_nest M r d ts o (x (let h : d < M = ltb-true d M e in omega (arith, h)))
nest_case M r w d ts true false e o x = record {
  front = [];
  splits = refl;
  only = λ mid' v' rest' e' ls lk rd q. over_first M d (skips r) e' ls (ltb-false d M e) (is_not _ (and_right _ _ w)) (rises r (and_left _ _ w) (d + 1) mid' v' rest' e' ls rd);
}

tok_case : (M : ℕ) {A : Type 0} (g : Lexeme → A) (c : Class) (cs : List Class) (d : ℕ) → d ≤ M → (t : Lexeme) (ts : List Lexeme) (b : Bool) → Deep M (tok g c cs) d (t ∷ ts) (if b then Ok (g t, ts, d) else Err (unfit (t ∷ ts)))
tok_case M g c cs d h t ts false = tt
tok_case M g c cs d h t ts true = record {
  front = t ∷ [];
  splits = refl;
  fits = h;
  only = λ mid' v' rest' e ls lk rd q. (tail_is t rd.0 mid' rest' rd.1, rd.2, subst (Within M) (sym rd.3) (All-cons (λ l. l ≤ M) d [] h (All-nil (λ l. l ≤ M))), ap length rd.3);
}
  where
    tail_is : (t u : Lexeme) (ms rs : List Lexeme) → t ∷ ms ≡ u ∷ rs → rs ≡ ms
    tail_is t u ms rs e = cc

nothing : (M : ℕ) (front mid' rest' : List Lexeme) (d e : ℕ) (ls : List ℕ) → rest' ≡ mid' → e ≡ d → ls ≡ [] → (rest' ≡ mid') × (e ≡ d) × Within M ls × (length ls ≡ 0)
nothing M front mid' rest' d e ls a b c = (a, b, subst (Within M) (sym c) (All-nil (λ l. l ≤ M)), ap length c)

else_case : (M d : ℕ) → d ≤ M → (ts : List Lexeme) (b : Bool) → Deep M no_else d ts (if b then Err (unfit ts) else Ok (tt, ts, d))
else_case M d h ts true = tt
else_case M d h ts false = record { front = []; splits = refl; fits = h; only = λ mid' v' rest' e ls lk rd q. nothing M [] mid' rest' d e ls rd.0 rd.1 rd.2 }

abbrev Known : ℕ → Reader → N → ℕ → List Lexeme → Type 0
Known M P m d us = d ≤ M → Deep M (call m) d us (P m d us)

deep : (M : ℕ) (P : Reader) {A : Type 0} (r : Rx A) → fine r ≡ true → (d : ℕ) → d ≤ M → (ts : List Lexeme) → Calls (under M) (Known M P) P r d ts → Deep M r d ts (parse_with (under M) P r d ts)
unfolding take_tok
deep M P eps f d h ts x = record { front = []; splits = refl; fits = h; only = λ mid' v' rest' e ls lk rd q. nothing M [] mid' rest' d e ls rd.0 rd.1 rd.2 }
deep M P no_else f d h ts x = else_case M d h ts (same (look ts) k.Else)
deep M P (tok g c cs) f d h [] x = tt
deep M P (tok g c cs) f d h (t ∷ ts) x = tok_case M g c cs d h t ts (among t.class (c ∷ cs))
deep M P (seq r s) f d h ts x = seq_case M r s f d ts (parse_with (under M) P s) (parse_with (under M) P r d ts) (deep M P r (and_left _ _ (and_left _ _ f)) d h ts x.0) (λ a mid e eq le. deep M P s (and_right (fine r) _ (and_left _ _ f)) e le mid (x.1 a mid e eq))
deep M P (alt r s) f d h ts x = alt_case M r s f d ts (starts r (look ts)) refl (parse_with (under M) P r d ts) (parse_with (under M) P s d ts) (deep M P r (and_left _ _ (and_left _ _ f)) d h ts x.0) (deep M P s (and_right (fine r) _ (and_left _ _ f)) d h ts x.1)
deep M P (map g r) f d h ts x = map_case M g r d ts (parse_with (under M) P r d ts) (deep M P r f d h ts x)
deep M P (nest r) f d h ts x = nest_case M r f d ts (starts r (look ts)) (nat_lt d M) refl (parse_with (under M) P r (d + 1) ts) (λ le. deep M P r (and_left _ _ f) (d + 1) le ts x)
deep M P (scope g r) f d h ts x = scope_case M g r d h ts (parse_with (under M) P r d ts) (deep M P r (and_left _ _ f) d h ts x)
deep M P (call m) f d h ts x = x h

deep_name : (M : ℕ) (m : N) (d : ℕ) (ts : List Lexeme) (o : Out (Of m)) → Deep M (rule m) d ts o → Deep M (call m) d ts o
deep_name M m d ts (Ok p) x = record { front = x.front; splits = x.splits; fits = x.fits; only = λ mid' v' rest' e ls lk rd q. x.only mid' v' rest' e ls lk (nests_open m d _ v' rest' e ls rd) (quiet_name m rest' q) }
deep_name M m d ts (Err (unfit at)) x = tt
deep_name M m d ts (Err (too_deep at)) x = record { front = x.front; splits = x.splits; only = λ mid' v' rest' e ls lk rd q. x.only mid' v' rest' e ls lk (nests_open m d _ v' rest' e ls rd) (quiet_name m rest' q) }

deep_below : (M k : ℕ) (m : N) (d : ℕ) → d ≤ M → (ts : List Lexeme) → size m ts < k → Deep M (call m) d ts (parse (under M) m d ts)
deep_below M zero m d le ts h = absurd (omega arith)
deep_below M (suc k) m d le ts h =
    let L = under M in
    let x : Deep M (call m) d ts (parse_with L (parse L) (rule m) d ts) = deep_name M m d ts (parse_with L (parse L) (rule m) d ts) (deep M (parse L) (rule m) (table_fine m) d le ts (calls_mono L (Below (size m ts)) (Known M (parse L)) (parse L) (λ m' e us l. λ le'. deep_below M k m' e le' us (omega arith)) (rule m) d ts (calls_of L (parse L) (parse_shrinks L) m d ts))) in
    subst (Deep M (call m) d ts) (sym (parse_step L m d ts)) x

-- where reading to a limit ends well no level is over it, and where it stops as too deep that token is the first to be over it
pub deep_parse : (M : ℕ) (m : N) (d : ℕ) → d ≤ M → (ts : List Lexeme) → Deep M (call m) d ts (parse (under M) m d ts)
deep_parse M m d le ts = deep_below M (suc (size m ts)) m d le ts (omega arith)
