-- The grammar's relation by itself: heights, and what may come first.
use Rattle.std.proofs.Common.{◌≡◌, ℕ, zero, suc, ◌+◌, ◌≤◌, Bool, true, false, not, ◌||◌, ◌&&◌, if◌then◌else◌, ◌⊎◌, inl, inr, List, ◌∷◌, refl, sym, ◌∙◌, ap, subst, arith}
use Rattle.c_tokens.specs.declared.class.Class.{Class}
use Rattle.c_grammar.specs.Lexemes.{Lexeme, look, among}
use Rattle.c_grammar.specs.Rules as n
use Rattle.c_grammar.specs.Rules.{N, Of, Rx, eps, no_else, tok, seq, alt, map, nest, scope, call, Reads_with}
use Rattle.c_grammar.specs.Grammar.{rule, Reads_within, Reads}
use Rattle.c_grammar.specs.Reading.{begins, skips_of, skips, starts, rank}
use Rattle.c_grammar.proofs.Checks.{every, and_left, and_right, all_checked, nulls_of, nulls, more, goes, calm, fine, tables, equal, implies, ends_within, lower}

-- ---- heights

pub mono : (R R' : (n : N) → List Lexeme → Of n → List Lexeme → Type 0) → ((n : N) (ts : List Lexeme) (v : Of n) (rest : List Lexeme) → R n ts v rest → R' n ts v rest) → {A : Type 0} (r : Rx A) (ts : List Lexeme) (v : A) (rest : List Lexeme) → Reads_with R r ts v rest → Reads_with R' r ts v rest
mono R R' f eps ts v rest h = h
mono R R' f no_else ts v rest h = h
mono R R' f (tok g c cs) ts v rest h = h
mono R R' f (seq r s) ts v rest h = (h.0, mono R R' f r ts v.0 h.0 h.1, mono R R' f s h.0 v.1 rest h.2)
mono R R' f (alt r s) ts v rest (inl h) = inl (mono R R' f r ts v rest h)
mono R R' f (alt r s) ts v rest (inr h) = inr (mono R R' f s ts v rest h)
mono R R' f (map g r) ts v rest h = (h.0, mono R R' f r ts h.0 rest h.1, h.2)
mono R R' f (nest r) ts v rest h = mono R R' f r ts v rest h
mono R R' f (scope g r) ts v rest h = mono R R' f r ts v rest h
mono R R' f (call n) ts v rest h = f n ts v rest h

up : (h k : ℕ) → h ≤ k → (n : N) (ts : List Lexeme) (v : Of n) (rest : List Lexeme) → Reads_within h n ts v rest → Reads_within k n ts v rest
up zero k le n ts v rest x = absurd x
up (suc h) zero le n ts v rest x = absurd (omega arith)
up (suc h) (suc k) le n ts v rest x = mono (Reads_within h) (Reads_within k) (up h k (omega arith)) (rule n) ts v rest x

close : {A : Type 0} (r : Rx A) (ts : List Lexeme) (v : A) (rest : List Lexeme) → Reads_with Reads r ts v rest → (h : ℕ) × Reads_with (Reads_within h) r ts v rest
close eps ts v rest x = (0, x)
close no_else ts v rest x = (0, x)
close (tok f c cs) ts v rest x = (0, x)
close (seq r s) ts v rest x =
    let a = close r ts v.0 x.0 x.1 in
    let b = close s x.0 v.1 rest x.2 in
    (a.0 + b.0, (x.0, mono (Reads_within a.0) (Reads_within (a.0 + b.0)) (up a.0 (a.0 + b.0) (omega arith)) r ts v.0 x.0 a.1, mono (Reads_within b.0) (Reads_within (a.0 + b.0)) (up b.0 (a.0 + b.0) (omega arith)) s x.0 v.1 rest b.1))
close (alt r s) ts v rest (inl x) = let a = close r ts v rest x in (a.0, inl a.1)
close (alt r s) ts v rest (inr x) = let a = close s ts v rest x in (a.0, inr a.1)
close (map g r) ts v rest x = let a = close r ts x.0 rest x.1 in (a.0, (x.0, a.1, x.2))
close (nest r) ts v rest x = close r ts v rest x
close (scope f r) ts v rest x = close r ts v rest x
close (call n) ts v rest x = (x.height, x.reads)

-- a rule's name reads what the rule reads
pub closes : (n : N) (ts : List Lexeme) (v : Of n) (rest : List Lexeme) → Reads_with Reads (rule n) ts v rest → Reads n ts v rest
closes n ts v rest x = let c = close (rule n) ts v rest x in record { height = suc c.0; reads = c.1 }

opens_at : (h : ℕ) (n : N) (ts : List Lexeme) (v : Of n) (rest : List Lexeme) → Reads_within h n ts v rest → Reads_with Reads (rule n) ts v rest
opens_at zero n ts v rest x = absurd x
opens_at (suc h) n ts v rest x = mono (Reads_within h) Reads (λ m us w end y. record { height = h; reads = y }) (rule n) ts v rest x

pub opens : (n : N) (ts : List Lexeme) (v : Of n) (rest : List Lexeme) → Reads n ts v rest → Reads_with Reads (rule n) ts v rest
opens n ts v rest x = opens_at x.height n ts v rest x.reads

-- ---- what the tables say

equal_is : (a b : Bool) → equal a b ≡ true → a ≡ b
equal_is true b h = sym h
equal_is false true h = h
equal_is false false h = refl

implies_is : (a b : Bool) → implies a b ≡ true → a ≡ true → b ≡ true
implies_is true b h p = h
implies_is false b h p = cc

pub table_fine : (n : N) → fine (rule n) ≡ true
table_fine n = and_left _ _ (and_left _ _ (all_checked n))

pub table_calm : (n : N) → calm (rule n) ≡ true
table_calm n = and_right _ _ (and_left _ _ (all_checked n))

tables_of : (n : N) → tables n ≡ true
tables_of n = and_left _ _ (and_right _ _ (all_checked n))

pub table_begins : (n : N) (c : Class) → starts (rule n) c ≡ among c (begins n)
table_begins n c = equal_is _ _ (every (λ d. equal (starts (rule n) d) (among d (begins n))) (and_left _ _ (tables_of n)) c)

pub table_nulls : (n : N) (c : Class) → nulls (rule n) c ≡ nulls_of n c
table_nulls n c = equal_is _ _ (every (λ d. equal (nulls (rule n) d) (nulls_of n d)) (and_left _ _ (and_right _ _ (tables_of n))) c)

pub table_goes : (n : N) (c : Class) → more (rule n) c ≡ true → among c (goes n) ≡ true
table_goes n c = implies_is _ _ (every (λ d. implies (more (rule n) d) (among d (goes n))) (and_right _ _ (and_right _ _ (tables_of n))) c)

pub table_skips : (n : N) → skips (rule n) ≡ skips_of n
table_skips n = equal_is _ _ (and_left _ _ (and_left _ _ (and_right _ _ (and_right _ _ (all_checked n)))))

pub table_ends : (n : N) → ends_within 40 n ≡ true
table_ends n = and_right (equal (skips (rule n)) (skips_of n) && lower (rule n) (rank n)) _ (and_right (tables n) _ (and_right (fine (rule n) && calm (rule n)) _ (all_checked n)))

pub table_lower : (n : N) → lower (rule n) (rank n) ≡ true
table_lower n = and_right (equal (skips (rule n)) (skips_of n)) _ (and_left _ (ends_within 40 n) (and_right (tables n) _ (and_right (fine (rule n) && calm (rule n)) _ (all_checked n))))

-- ---- what comes first

abbrev pub First : (Class → Bool) → (Class → Bool) → List Lexeme → List Lexeme → Type 0
First nul start ts rest = ((rest ≡ ts) × (nul (look ts) ≡ true)) ⊎ (start (look ts) ≡ true)

pub if_left : (b a d : Bool) → a ≡ true → (if b then a || d else a) ≡ true
if_left true true d h = refl
if_left true false d h = cc
if_left false a d h = h

pub if_right : (b a d : Bool) → b ≡ true → d ≡ true → (if b then a || d else a) ≡ true
if_right true true d h p = refl
if_right true false d h p = p
if_right false a d h p = cc

pub or_left_true : (a b : Bool) → a ≡ true → (a || b) ≡ true
or_left_true true b h = refl
or_left_true false b h = cc

pub or_right_true : (a b : Bool) → b ≡ true → (a || b) ≡ true
or_right_true true b h = refl
or_right_true false b h = h

pub and_true : (a b : Bool) → a ≡ true → b ≡ true → (a && b) ≡ true
and_true true b h p = p
and_true false b h p = h

or_cases : (a b : Bool) → (a || b) ≡ true → (a ≡ true) ⊎ (b ≡ true)
or_cases true b h = inl refl
or_cases false b h = inr h

skips_call : (n : N) (c : Class) → nulls_of n c ≡ true → skips_of n ≡ true
skips_call n.Otherwise c h = refl
skips_call m c h = h

pub skips_nulls : {A : Type 0} (r : Rx A) (c : Class) → nulls r c ≡ true → skips r ≡ true
skips_nulls eps c h = refl
skips_nulls no_else c h = refl
skips_nulls (tok f d ds) c h = h
skips_nulls (seq r s) c h = and_true _ _ (skips_nulls r c (and_left _ _ h)) (skips_nulls s c (and_right _ _ h))
skips_nulls (alt r s) c h = elim (or_cases (nulls r c) (nulls s c) h) [ inl p ↦ or_left_true _ _ (skips_nulls r c p) | inr p ↦ or_right_true _ _ (skips_nulls s c p) ]
skips_nulls (map f r) c h = skips_nulls r c h
skips_nulls (nest r) c h = skips_nulls r c h
skips_nulls (scope f r) c h = skips_nulls r c h
skips_nulls (call n) c h = skips_call n c h

seq_first : {A B : Type 0} (r : Rx A) (s : Rx B) (ts mid rest : List Lexeme) → First (nulls r) (starts r) ts mid → First (nulls s) (starts s) mid rest → First (nulls (seq r s)) (starts (seq r s)) ts rest
seq_first r s ts mid rest (inr p) g = inr (if_left _ _ _ p)
seq_first r s ts mid rest (inl p) (inl q) = inl (q.0 ∙ p.0, and_true _ _ p.1 (subst (λ x. nulls s (look x) ≡ true) p.0 q.1))
seq_first r s ts mid rest (inl p) (inr q) = inr (if_right _ _ _ (skips_nulls r (look ts) p.1) (subst (λ x. starts s (look x) ≡ true) p.0 q))

alt_first_left : {A : Type 0} (r s : Rx A) (ts rest : List Lexeme) → First (nulls r) (starts r) ts rest → First (nulls (alt r s)) (starts (alt r s)) ts rest
alt_first_left r s ts rest (inl p) = inl (p.0, or_left_true _ _ p.1)
alt_first_left r s ts rest (inr p) = inr (or_left_true _ _ p)

alt_first_right : {A : Type 0} (r s : Rx A) (ts rest : List Lexeme) → First (nulls s) (starts s) ts rest → First (nulls (alt r s)) (starts (alt r s)) ts rest
alt_first_right r s ts rest (inl p) = inl (p.0, or_right_true _ _ p.1)
alt_first_right r s ts rest (inr p) = inr (or_right_true _ _ p)

first_with : (R : (n : N) → List Lexeme → Of n → List Lexeme → Type 0) → ((n : N) (ts : List Lexeme) (v : Of n) (rest : List Lexeme) → R n ts v rest → First (nulls_of n) (λ c. among c (begins n)) ts rest) → {A : Type 0} (r : Rx A) (ts : List Lexeme) (v : A) (rest : List Lexeme) → Reads_with R r ts v rest → First (nulls r) (starts r) ts rest
first_with R f eps ts v rest h = inl (h, refl)
first_with R f no_else ts v rest h = inl (h.0, ap not h.1)
first_with R f (tok g c cs) ts v rest h = inr (subst (λ x. among (look x) (c ∷ cs) ≡ true) (sym h.1) h.2)
first_with R f (seq r s) ts v rest h = seq_first r s ts h.0 rest (first_with R f r ts v.0 h.0 h.1) (first_with R f s h.0 v.1 rest h.2)
first_with R f (alt r s) ts v rest (inl h) = alt_first_left r s ts rest (first_with R f r ts v rest h)
first_with R f (alt r s) ts v rest (inr h) = alt_first_right r s ts rest (first_with R f s ts v rest h)
first_with R f (map g r) ts v rest h = first_with R f r ts h.0 rest h.1
first_with R f (nest r) ts v rest h = first_with R f r ts v rest h
first_with R f (scope g r) ts v rest h = first_with R f r ts v rest h
first_with R f (call n) ts v rest h = f n ts v rest h

first_table : (n : N) (ts rest : List Lexeme) → First (nulls (rule n)) (starts (rule n)) ts rest → First (nulls_of n) (λ c. among c (begins n)) ts rest
first_table n ts rest (inl p) = inl (p.0, sym (table_nulls n (look ts)) ∙ p.1)
first_table n ts rest (inr p) = inr (sym (table_begins n (look ts)) ∙ p)

first_within : (h : ℕ) (n : N) (ts : List Lexeme) (v : Of n) (rest : List Lexeme) → Reads_within h n ts v rest → First (nulls_of n) (λ c. among c (begins n)) ts rest
first_within zero n ts v rest x = absurd x
first_within (suc h) n ts v rest x = first_table n ts rest (first_with (Reads_within h) (first_within h) (rule n) ts v rest x)

-- a rule reads nothing, or the next token begins it
pub first : {A : Type 0} (r : Rx A) (ts : List Lexeme) (v : A) (rest : List Lexeme) → Reads_with Reads r ts v rest → First (nulls r) (starts r) ts rest
first = first_with Reads (λ n ts v rest x. first_within x.height n ts v rest x.reads)
