-- What reading from left to right finds: the one value, or the first token with which nothing can be read.
use Rattle.std.proofs.Common.{◌≡◌, ℕ, zero, suc, ◌+◌, Bool, true, false, not, ◌||◌, ◌&&◌, if◌then◌else◌, ◌⊎◌, inl, inr, List, [], ◌∷◌, ◌++◌, append_assoc, Ok, Err, refl, sym, ◌∙◌, ap, subst}
use denote.Enum.Bare.{true_same}
use Rattle.c_tokens.specs.contracts.class.Class.{the_type}
use Rattle.c_tokens.specs.declared.class.Class.{Class}
use Rattle.c_tokens.specs.declared.class.Class.TheVariants as k
use Rattle.c_grammar.specs.Lexemes.{Lexeme, same, look, among}
use Rattle.c_grammar.specs.Rules.{N, Of, Rx, eps, no_else, tok, seq, alt, map, nest, scope, call, after_scope, Reads_with}
use Rattle.c_grammar.specs.Grammar.{rule, Reads}
use Rattle.c_grammar.specs.Reading.{Out, unfit, too_deep, Allow, deeper, and_then, skips, starts, take_tok, parse_with}
use Rattle.c_grammar.proofs.Checks.{kinds, all_of, every, and_left, and_right, or_left, or_right, not_both, is_false, is_not, clash, nulls, more, calm, fine, ends_with, ends_within}
use Rattle.c_grammar.proofs.Relation.{First, first, closes, opens, skips_nulls, and_true, or_left_true, table_fine, table_calm, table_begins, table_nulls, table_goes, table_ends}

-- ---- the statement

-- no `else` comes next
abbrev pub Calm : List Lexeme → Type 0
Calm ts = same (look ts) k.Else ≡ false

-- what may stand in place of mid
abbrev pub Fits : List Lexeme → List Lexeme → Type 0
Fits mid mid' = (look mid' ≡ look mid) ⊎ Calm mid'

-- what comes next does not go on with what the rule has read
abbrev pub Quiet : {A : Type 0} → Rx A → List Lexeme → Type 0
Quiet r rest = more r (look rest) ≡ false

pub record Parsed {A : Type 0} (r : Rx A) (ts : List Lexeme) (v : A) (mid : List Lexeme) : Type 0 where
  pub front : List Lexeme
  pub splits : ts ≡ front ++ mid
  -- the tokens in front have this value
  pub reads : (mid' : List Lexeme) → Fits mid mid' → Reads_with Reads r (front ++ mid') v mid'
  -- and no other, and no more of them or fewer
  pub only : (mid' : List Lexeme) (v' : A) (rest' : List Lexeme) → look mid' ≡ look mid → Reads_with Reads r (front ++ mid') v' rest' → Quiet r rest' → (v' ≡ v) × (rest' ≡ mid')
  pub early : front ≡ [] → starts r (look mid) ≡ false

-- a word that completes what was read
pub record Completes {A : Type 0} (r : Rx A) (front word : List Lexeme) : Type 0 where
  pub value : A
  pub reads : (rest : List Lexeme) → Calm rest → Reads_with Reads r (front ++ (word ++ rest)) value rest

pub record Stuck {A : Type 0} (r : Rx A) (ts at : List Lexeme) : Type 0 where
  pub front : List Lexeme
  pub splits : ts ≡ front ++ at
  pub word : List Lexeme
  -- the tokens in front begin what the rule reads
  pub begun : Completes r front word
  -- and with the next token they do not
  pub never : (mid' : List Lexeme) (v' : A) (rest' : List Lexeme) → look mid' ≡ look at → Reads_with Reads r (front ++ mid') v' rest' → Quiet r rest' → ⊥
  pub early : front ≡ [] → (starts r (look at) ≡ false) × (nulls r (look at) ≡ false)
  pub calm_word : calm r ≡ true → front ≡ [] → (rest : List Lexeme) → Calm rest → Calm (word ++ rest)

-- the tokens in front and the next one begin what the rule reads
pub record Begun {A : Type 0} (r : Rx A) (ts at : List Lexeme) : Type 0 where
  pub front : List Lexeme
  pub token : Lexeme
  pub behind : List Lexeme
  pub is_at : at ≡ token ∷ behind
  pub splits : ts ≡ front ++ at
  pub word : List Lexeme
  pub begun : Completes r (front ++ token ∷ []) word

abbrev pub Good : {A : Type 0} → Rx A → List Lexeme → Out A → Type 0
Good r ts (Ok p) = Parsed r ts p.0 p.1
Good r ts (Err (unfit at)) = Stuck r ts at
Good r ts (Err (too_deep at)) = Begun r ts at

-- ---- words that each rule reads

pub record Word {A : Type 0} (r : Rx A) : Type 0 where
  pub word : List Lexeme
  pub value : A
  pub reads : (rest : List Lexeme) → Calm rest → Reads_with Reads r (word ++ rest) value rest
  pub calm_word : calm r ≡ true → (rest : List Lexeme) → Calm rest → Calm (word ++ rest)

abbrev a_token : Class → Lexeme
a_token c = record { place = record { file = 0; line = 0; col = 0 }; class = c; text = [] }

same_self : (c : Class) → same c c ≡ true
unfolding same
same_self c = true_same the_type c c refl

among_first : (c : Class) (cs : List Class) → among c (c ∷ cs) ≡ true
among_first c [] = same_self c
among_first c (e ∷ cs) = or_left_true _ _ (same_self c)

word_seq : {A B : Type 0} (r : Rx A) (s : Rx B) → calm s ≡ true → Word r → Word s → Word (seq r s)
word_seq r s cs a b = record {
  word = a.word ++ b.word;
  value = (a.value, b.value);
  reads = λ rest q. (b.word ++ rest, subst (λ x. Reads_with Reads r x a.value (b.word ++ rest)) (sym (append_assoc a.word b.word rest)) (a.reads (b.word ++ rest) (b.calm_word cs rest q)), b.reads rest q);
  calm_word = λ h rest q. subst Calm (sym (append_assoc a.word b.word rest)) (a.calm_word (and_left _ _ h) (b.word ++ rest) (b.calm_word cs rest q));
}

fine_calm : {A B : Type 0} (r : Rx A) (s : Rx B) → fine (seq r s) ≡ true → calm s ≡ true
fine_calm r s h = and_left _ _ (and_left _ _ (and_right (fine r && fine s) _ h))

words : (E : N → Bool) → ((n : N) → E n ≡ true → Word (call n)) → {A : Type 0} (r : Rx A) → fine r ≡ true → ends_with E r ≡ true → Word r
words E w eps f h = record { word = []; value = tt; reads = λ rest q. refl; calm_word = λ c rest q. q }
words E w no_else f h = record { word = []; value = tt; reads = λ rest q. (refl, q); calm_word = λ c rest q. q }
words E w (tok g c cs) f h = record { word = a_token c ∷ []; value = g (a_token c); reads = λ rest q. (a_token c, refl, among_first c cs, refl); calm_word = λ p rest q. is_not _ p }
words E w (seq r s) f h = word_seq r s (fine_calm r s f) (words E w r (and_left _ _ (and_left _ _ f)) (and_left _ _ h)) (words E w s (and_right (fine r) _ (and_left _ _ f)) (and_right _ _ h))
words E w (alt r s) f h =
    let b = words E w s (and_right (fine r) _ (and_left _ _ f)) h in
    record { word = b.word; value = b.value; reads = λ rest q. inr (b.reads rest q); calm_word = b.calm_word }
words E w (map g r) f h =
    let b = words E w r f h in
    record { word = b.word; value = g b.value; reads = λ rest q. (b.value, b.reads rest q, refl); calm_word = b.calm_word }
words E w (nest r) f h =
    let b = words E w r (and_left _ _ f) h in
    record { word = b.word; value = b.value; reads = b.reads; calm_word = b.calm_word }
words E w (scope g r) f h =
    let b = words E w r (and_left _ _ f) h in
    record { word = b.word; value = b.value; reads = b.reads; calm_word = b.calm_word }
words E w (call n) f h = w n h

word_within : (h : ℕ) (n : N) → ends_within h n ≡ true → Word (call n)
word_within zero n e = absurd (clash e refl)
word_within (suc h) n e =
    let b = words (ends_within h) (word_within h) (rule n) (table_fine n) e in
    record { word = b.word; value = b.value; reads = λ rest q. closes n _ _ _ (b.reads rest q); calm_word = λ c rest q. b.calm_word (table_calm n) rest q }

all_end : {A : Type 0} (r : Rx A) → ends_with (λ n. true) r ≡ true
all_end eps = refl
all_end no_else = refl
all_end (tok f c cs) = refl
all_end (seq r s) = and_true _ _ (all_end r) (all_end s)
all_end (alt r s) = all_end s
all_end (map g r) = all_end r
all_end (nest r) = all_end r
all_end (scope f r) = all_end r
all_end (call n) = refl

pub word_of : {A : Type 0} (r : Rx A) → fine r ≡ true → Word r
word_of r f = words (λ n. true) (λ n e. word_within 40 n (table_ends n)) r f (all_end r)

-- ---- fronts

pub look_front : (front mid mid' : List Lexeme) → look mid' ≡ look mid → look (front ++ mid') ≡ look (front ++ mid)
look_front [] mid mid' h = h
look_front (t ∷ front) mid mid' h = refl

fits_front : (front mid mid' : List Lexeme) → Fits mid mid' → Fits (front ++ mid) (front ++ mid')
fits_front [] mid mid' h = h
fits_front (t ∷ front) mid mid' h = inl refl

fits_word : (front at rest : List Lexeme) → (front ≡ [] → Calm rest) → Fits (front ++ at) (front ++ rest)
fits_word [] at rest f = inr (f refl)
fits_word (t ∷ front) at rest f = inl refl

both_empty : (a b : List Lexeme) → a ++ b ≡ [] → (a ≡ []) × (b ≡ [])
both_empty [] b h = (refl, h)
both_empty (t ∷ a) b h = cc

and_false : (a b : Bool) → (a && b) ≡ false → a ≡ true → b ≡ false
and_false true b h p = h
and_false false b h p = cc

and_false_left : (a b : Bool) → a ≡ false → (a && b) ≡ false
and_false_left true b h = cc
and_false_left false b h = refl

and_false_right : (a b : Bool) → b ≡ false → (a && b) ≡ false
and_false_right true b h = h
and_false_right false b h = refl

or_false : (a b : Bool) → a ≡ false → b ≡ false → (a || b) ≡ false
or_false true b h p = cc
or_false false b h p = p

if_false : (b a d : Bool) → b ≡ false → a ≡ false → (if b then a || d else a) ≡ false
if_false true a d h p = cc
if_false false a d h p = p

if_both_false : (b a d : Bool) → a ≡ false → d ≡ false → (if b then a || d else a) ≡ false
if_both_false true a d h p = or_false a d h p
if_both_false false a d h p = h

not_or : (a b : Bool) → (not a || b) ≡ true → b ≡ false → a ≡ false
not_or true b h p = cc
not_or false b h p = refl

pair_is : {A B : Type 0} (p : A × B) (a : A) (b : B) → p.0 ≡ a → p.1 ≡ b → p ≡ (a, b)
pair_is {A} {B} p a b h k =
    let f : A → A × B = λ z. (z, p.1) in
    let g : B → A × B = λ z. (a, z) in
    ap f h ∙ ap g k

-- ---- one rule after another

fine_apart : {A B : Type 0} (r : Rx A) (s : Rx B) → fine (seq r s) ≡ true → (c : Class) → not (more r c && starts s c) ≡ true
fine_apart r s h = every (λ c. not (more r c && starts s c)) (and_right (calm s) _ (and_left _ _ (and_right (fine r && fine s) _ h)))

fine_skips : {A B : Type 0} (r : Rx A) (s : Rx B) → fine (seq r s) ≡ true → (c : Class) → (not (skips r) || nulls r c) ≡ true
fine_skips r s h = every (λ c. not (skips r) || nulls r c) (and_right (calm s && all_of (λ c. not (more r c && starts s c)) kinds) _ (and_right (fine r && fine s) _ h))

fine_right : {A B : Type 0} (r : Rx A) (s : Rx B) → fine (seq r s) ≡ true → fine s ≡ true
fine_right r s f = and_right (fine r) _ (and_left _ _ f)

quiet_at : {A B : Type 0} (r : Rx A) (s : Rx B) → fine (seq r s) ≡ true → (mid rest : List Lexeme) → First (nulls s) (starts s) mid rest → Quiet (seq r s) rest → Quiet r mid
quiet_at r s f mid rest (inl p) q = and_false _ _ (subst (λ x. (nulls s (look x) && more r (look x)) ≡ false) p.0 (or_right _ _ q)) p.1
quiet_at r s f mid rest (inr p) q = is_false _ (λ m. not_both _ _ (fine_apart r s f (look mid)) m p)

pub quiet_before : {A B : Type 0} (r : Rx A) (s : Rx B) → fine (seq r s) ≡ true → (mid : List Lexeme) (v : B) (rest : List Lexeme) → Reads_with Reads s mid v rest → Quiet (seq r s) rest → Quiet r mid
quiet_before r s f mid v rest h q = quiet_at r s f mid rest (first s mid v rest h) q

module _ {A B : Type 0} (r : Rx A) (s : Rx B) (f : fine (seq r s) ≡ true) where
  seq_stuck : (ts at : List Lexeme) → Stuck r ts at → Stuck (seq r s) ts at
  seq_stuck ts at x =
      let w = word_of s (fine_right r s f) in
      let cs = fine_calm r s f in
      record {
        front = x.front;
        splits = x.splits;
        word = x.word ++ w.word;
        begun = record {
          value = (x.begun.value, w.value);
          reads = λ rest q. (w.word ++ rest, subst (λ z. Reads_with Reads r (x.front ++ z) x.begun.value (w.word ++ rest)) (sym (append_assoc x.word w.word rest)) (x.begun.reads (w.word ++ rest) (w.calm_word cs rest q)), w.reads rest q);
        };
        never = λ mid' v' rest' lk rd q. x.never mid' v'.0 rd.0 lk rd.1 (quiet_before r s f rd.0 v'.1 rest' rd.2 q);
        early = λ e. (if_false _ _ _ (not_or _ _ (fine_skips r s f (look at)) (x.early e).1) (x.early e).0, and_false_left _ _ (x.early e).1);
        calm_word = λ c e rest q. subst Calm (sym (append_assoc x.word w.word rest)) (x.calm_word (and_left _ _ c) e (w.word ++ rest) (w.calm_word cs rest q));
      }

  seq_deep : (ts at : List Lexeme) → Begun r ts at → Begun (seq r s) ts at
  seq_deep ts at x =
      let w = word_of s (fine_right r s f) in
      let cs = fine_calm r s f in
      record {
        front = x.front;
        token = x.token;
        behind = x.behind;
        is_at = x.is_at;
        splits = x.splits;
        word = x.word ++ w.word;
        begun = record {
          value = (x.begun.value, w.value);
          reads = λ rest q. (w.word ++ rest, subst (λ z. Reads_with Reads r ((x.front ++ x.token ∷ []) ++ z) x.begun.value (w.word ++ rest)) (sym (append_assoc x.word w.word rest)) (x.begun.reads (w.word ++ rest) (w.calm_word cs rest q)), w.reads rest q);
        };
      }

  module _ (ts : List Lexeme) (a : A) (mid : List Lexeme) (x : Parsed r ts a mid) where
    -- what the first reads in another text, where the second stands after it
    seq_only : (front after mid' : List Lexeme) (v' : A × B) (rest' : List Lexeme) → mid ≡ front ++ after → look mid' ≡ look after → Reads_with Reads (seq r s) ((x.front ++ front) ++ mid') v' rest' → Quiet (seq r s) rest' → (v'.0 ≡ a) × Reads_with Reads s (front ++ mid') v'.1 rest'
    seq_only front after mid' v' rest' e lk rd q =
        let one = x.only (front ++ mid') v'.0 rd.0 (look_front front after mid' lk ∙ ap look (sym e)) (subst (λ z. Reads_with Reads r z v'.0 rd.0) (append_assoc x.front front mid') rd.1) (quiet_before r s f rd.0 v'.1 rest' rd.2 q) in
        (one.0, subst (λ z. Reads_with Reads s z v'.1 rest') one.1 rd.2)

    splits_both : (front after : List Lexeme) → mid ≡ front ++ after → ts ≡ (x.front ++ front) ++ after
    splits_both front after e = x.splits ∙ ap (λ z. x.front ++ z) e ∙ sym (append_assoc x.front front after)

    starts_neither : (front after : List Lexeme) → mid ≡ front ++ after → x.front ++ front ≡ [] → (front ≡ [] → starts s (look after) ≡ false) → starts (seq r s) (look after) ≡ false
    starts_neither front after e n g =
        let b = both_empty x.front front n in
        let same_mid : mid ≡ after = e ∙ ap (λ z. z ++ after) b.1 in
        if_both_false _ _ _ (subst (λ z. starts r (look z) ≡ false) same_mid (x.early b.0)) (g b.1)

    seq_ok : (b : B) (rest : List Lexeme) → Parsed s mid b rest → Parsed (seq r s) ts (a, b) rest
    seq_ok b rest y = record {
      front = x.front ++ y.front;
      splits = splits_both y.front rest y.splits;
      reads = λ mid' h. (y.front ++ mid', subst (λ z. Reads_with Reads r z a (y.front ++ mid')) (sym (append_assoc x.front y.front mid')) (x.reads (y.front ++ mid') (subst (λ z. Fits z (y.front ++ mid')) (sym y.splits) (fits_front y.front rest mid' h))), y.reads mid' h);
      only = λ mid' v' rest' lk rd q.
          let one = seq_only y.front rest mid' v' rest' y.splits lk rd q in
          let two = y.only mid' v'.1 rest' lk one.1 (or_left _ _ q) in
          (pair_is v' a b one.0 two.0, two.1);
      early = λ n. starts_neither y.front rest y.splits n y.early;
    }

    seq_late : (at : List Lexeme) → Stuck s mid at → Stuck (seq r s) ts at
    seq_late at y = record {
      front = x.front ++ y.front;
      splits = splits_both y.front at y.splits;
      word = y.word;
      begun = record {
        value = (a, y.begun.value);
        reads = λ rest q. (y.front ++ (y.word ++ rest), subst (λ z. Reads_with Reads r z a (y.front ++ (y.word ++ rest))) (sym (append_assoc x.front y.front (y.word ++ rest))) (x.reads (y.front ++ (y.word ++ rest)) (subst (λ z. Fits z (y.front ++ (y.word ++ rest))) (sym y.splits) (fits_word y.front at (y.word ++ rest) (λ e. y.calm_word (fine_calm r s f) e rest q)))), y.begun.reads rest q);
      };
      never = λ mid' v' rest' lk rd q. y.never mid' v'.1 rest' lk (seq_only y.front at mid' v' rest' y.splits lk rd q).1 (or_left _ _ q);
      early = λ n. (starts_neither y.front at y.splits n (λ e. (y.early e).0), and_false_right _ _ (y.early (both_empty x.front y.front n).1).1);
      calm_word = λ c n rest q. y.calm_word (and_right _ _ c) (both_empty x.front y.front n).1 rest q;
    }

later_fits : (front at behind word rest : List Lexeme) (t : Lexeme) → at ≡ t ∷ behind → Fits (front ++ at) ((front ++ t ∷ []) ++ (word ++ rest))
later_fits [] at behind word rest t e = inl (sym (ap look e))
later_fits (u ∷ front) at behind word rest t e = inl refl

seq_late_deep : {A B : Type 0} (r : Rx A) (s : Rx B) (ts : List Lexeme) (a : A) (mid : List Lexeme) → Parsed r ts a mid → (at : List Lexeme) → Begun s mid at → Begun (seq r s) ts at
seq_late_deep r s ts a mid x at y =
    let g = λ (rest : List Lexeme). (y.front ++ y.token ∷ []) ++ (y.word ++ rest) in
    record {
      front = x.front ++ y.front;
      token = y.token;
      behind = y.behind;
      is_at = y.is_at;
      splits = x.splits ∙ ap (λ z. x.front ++ z) y.splits ∙ sym (append_assoc x.front y.front at);
      word = y.word;
      begun = record {
        value = (a, y.begun.value);
        reads = λ rest q. (g rest, subst (λ z. Reads_with Reads r z a (g rest)) (sym (append_assoc x.front (y.front ++ y.token ∷ []) (y.word ++ rest)) ∙ ap (λ z. z ++ (y.word ++ rest)) (sym (append_assoc x.front y.front (y.token ∷ [])))) (x.reads (g rest) (subst (λ z. Fits z (g rest)) (sym y.splits) (later_fits y.front at y.behind y.word rest y.token y.is_at))), y.begun.reads rest q);
      };
    }

-- ---- the other rules

eps_ok : (ts : List Lexeme) → Parsed eps ts tt ts
eps_ok ts = record { front = []; splits = refl; reads = λ mid' h. refl; only = λ mid' v' rest' lk rd q. (refl, rd); early = λ n. refl }

else_calm : (ts mid' : List Lexeme) → Calm ts → Fits ts mid' → Calm mid'
else_calm ts mid' c (inl p) = subst (λ z. same z k.Else ≡ false) (sym p) c
else_calm ts mid' c (inr p) = p

no_else_case : (ts : List Lexeme) (b : Bool) → same (look ts) k.Else ≡ b → (d : ℕ) → Good no_else ts (if b then Err (unfit ts) else Ok (tt, ts, d))
no_else_case ts true e d = record {
  front = [];
  splits = refl;
  word = [];
  begun = record { value = tt; reads = λ rest q. (refl, q) };
  never = λ mid' v' rest' lk rd q. clash (subst (λ z. same z k.Else ≡ true) (sym lk) e) rd.1;
  early = λ n. (refl, ap not e);
  calm_word = λ c n rest q. q;
}
no_else_case ts false e d = record {
  front = [];
  splits = refl;
  reads = λ mid' h. (refl, else_calm ts mid' e h);
  only = λ mid' v' rest' lk rd q. (refl, rd.0);
  early = λ n. refl;
}

-- no token of these classes stands first
tok_stuck : {A : Type 0} (g : Lexeme → A) (c : Class) (cs : List Class) (ts : List Lexeme) → among (look ts) (c ∷ cs) ≡ false → Stuck (tok g c cs) ts ts
tok_stuck g c cs ts e = record {
  front = [];
  splits = refl;
  word = a_token c ∷ [];
  begun = record { value = g (a_token c); reads = λ rest q. (a_token c, refl, among_first c cs, refl) };
  never = λ mid' v' rest' lk rd q. clash (subst (λ z. among (look z) (c ∷ cs) ≡ true) (sym rd.1) rd.2) (subst (λ z. among z (c ∷ cs) ≡ false) (sym lk) e);
  early = λ n. (e, refl);
  calm_word = λ p n rest q. is_not _ p;
}

tok_only : {A : Type 0} (g : Lexeme → A) (t t' : Lexeme) (v' : A) (mid' rest' : List Lexeme) → t ∷ mid' ≡ t' ∷ rest' → g t' ≡ v' → (v' ≡ g t) × (rest' ≡ mid')
tok_only g t t' v' mid' rest' e h = let s : t' ≡ t = cc in (sym h ∙ ap g s, cc)

tok_ok : {A : Type 0} (g : Lexeme → A) (c : Class) (cs : List Class) (t : Lexeme) (ts : List Lexeme) → among t.class (c ∷ cs) ≡ true → Parsed (tok g c cs) (t ∷ ts) (g t) ts
tok_ok g c cs t ts e = record {
  front = t ∷ [];
  splits = refl;
  reads = λ mid' h. (t, refl, e, refl);
  only = λ mid' v' rest' lk rd q. tok_only g t rd.0 v' mid' rest' rd.1 rd.3;
  early = λ n. cc n;
}

tok_case : {A : Type 0} (g : Lexeme → A) (c : Class) (cs : List Class) (t : Lexeme) (ts : List Lexeme) (b : Bool) → among t.class (c ∷ cs) ≡ b → (d : ℕ) → Good (tok g c cs) (t ∷ ts) (if b then Ok (g t, ts, d) else Err (unfit (t ∷ ts)))
tok_case g c cs t ts true e d = tok_ok g c cs t ts e
tok_case g c cs t ts false e d = tok_stuck g c cs (t ∷ ts) e

tok_good : {A : Type 0} (g : Lexeme → A) (c : Class) (cs : List Class) → fine (tok g c cs) ≡ true → (d : ℕ) (ts : List Lexeme) → Good (tok g c cs) ts (take_tok g c cs d ts)
unfolding take_tok
tok_good g c cs f d [] = tok_stuck g c cs [] (is_not _ f)
tok_good g c cs f d (t ∷ ts) = tok_case g c cs t ts (among t.class (c ∷ cs)) refl d

map_case : {A B : Type 0} (g : A → B) (r : Rx A) (ts : List Lexeme) (o : Out A) → Good r ts o → Good (map g r) ts (and_then {B = B} o (λ a rest d. Ok (g a, rest, d)))
map_case g r ts (Ok p) x = record {
  front = x.front;
  splits = x.splits;
  reads = λ mid' h. (p.0, x.reads mid' h, refl);
  only = λ mid' v' rest' lk rd q.
      let one = x.only mid' rd.0 rest' lk rd.1 q in
      (sym rd.2 ∙ ap g one.0, one.1);
  early = x.early;
}
map_case g r ts (Err (too_deep at)) x = record {
  front = x.front;
  token = x.token;
  behind = x.behind;
  is_at = x.is_at;
  splits = x.splits;
  word = x.word;
  begun = record { value = g x.begun.value; reads = λ rest q. (x.begun.value, x.begun.reads rest q, refl) };
}
map_case g r ts (Err (unfit at)) x = record {
  front = x.front;
  splits = x.splits;
  word = x.word;
  begun = record { value = g x.begun.value; reads = λ rest q. (x.begun.value, x.begun.reads rest q, refl) };
  never = λ mid' v' rest' lk rd q. x.never mid' rd.0 rest' lk rd.1 q;
  early = x.early;
  calm_word = x.calm_word;
}

module _ {A : Type 0} (r : Rx A) (ts : List Lexeme) where
  nest_case : (o : Out A) → Good r ts o → Good (nest r) ts o
  nest_case (Ok p) x = record { front = x.front; splits = x.splits; reads = x.reads; only = x.only; early = x.early }
  nest_case (Err (unfit at)) x = record { front = x.front; splits = x.splits; word = x.word; begun = record { value = x.begun.value; reads = x.begun.reads }; never = x.never; early = x.early; calm_word = x.calm_word }
  nest_case (Err (too_deep at)) x = record { front = x.front; token = x.token; behind = x.behind; is_at = x.is_at; splits = x.splits; word = x.word; begun = record { value = x.begun.value; reads = x.begun.reads } }

  scope_case : (f : Bool) (d : ℕ) (o : Out A) → Good r ts o → Good (scope f r) ts (and_then {B = A} o (λ a rest d'. Ok (a, rest, after_scope f d)))
  scope_case f d (Ok p) x = record { front = x.front; splits = x.splits; reads = x.reads; only = x.only; early = x.early }
  scope_case f d (Err (unfit at)) x = record { front = x.front; splits = x.splits; word = x.word; begun = record { value = x.begun.value; reads = x.begun.reads }; never = x.never; early = x.early; calm_word = x.calm_word }
  scope_case f d (Err (too_deep at)) x = record { front = x.front; token = x.token; behind = x.behind; is_at = x.is_at; splits = x.splits; word = x.word; begun = record { value = x.begun.value; reads = x.begun.reads } }

  -- where one nesting too many opens, the token must begin what the rule reads
  -- the next token does not begin it
  nest_unfit : fine (nest r) ≡ true → starts r (look ts) ≡ false → Stuck (nest r) ts ts
  nest_unfit f e =
      let w = word_of r (and_left _ _ f) in
      let n : nulls r (look ts) ≡ false = is_false _ (λ p. clash (skips_nulls r (look ts) p) (is_not _ (and_right _ _ f))) in
      record {
        front = [];
        splits = refl;
        word = w.word;
        begun = record { value = w.value; reads = w.reads };
        never = λ mid' v' rest' lk rd q. never_first mid' rest' lk n (first r mid' v' rest' rd);
        early = λ p. (e, n);
        calm_word = λ c p rest q. w.calm_word c rest q;
      }
    where
      never_first : (mid' rest' : List Lexeme) → look mid' ≡ look ts → nulls r (look ts) ≡ false → First (nulls r) (starts r) mid' rest' → ⊥
      never_first mid' rest' lk n (inl p) = clash p.1 (subst (λ z. nulls r z ≡ false) (sym lk) n)
      never_first mid' rest' lk n (inr p) = clash p (subst (λ z. starts r z ≡ false) (sym lk) e)

  deeper_case : fine (nest r) ≡ true → (b c : Bool) → starts r (look ts) ≡ b → (starts r (look ts) ≡ true → c ≡ false → Begun r ts ts) → (o : Out A) → Good r ts o → Good (nest r) ts (deeper b c ts o)
  deeper_case f false c e z o x = nest_unfit f e
  deeper_case f true true e z o x = nest_case o x
  deeper_case f true false e z o x = nest_case (Err (too_deep ts)) (z e refl)

-- ---- alternatives

fine_one : {A : Type 0} (r s : Rx A) → fine (alt r s) ≡ true → (c : Class) → not (starts r c && starts s c) ≡ true
fine_one r s h = every (λ c. not (starts r c && starts s c)) (and_right (not (skips r)) _ (and_right (fine r && fine s) _ h))

fine_reads : {A : Type 0} (r s : Rx A) → fine (alt r s) ≡ true → skips r ≡ false
fine_reads r s h = is_not _ (and_left _ _ (and_right (fine r && fine s) _ h))

module _ {A : Type 0} (r s : Rx A) (f : fine (alt r s) ≡ true) (ts : List Lexeme) where
  nulls_never : (c : Class) → nulls r c ≡ false
  nulls_never c = is_false _ (λ p. clash (skips_nulls r c p) (fine_reads r s f))

  module _ (e : starts r (look ts) ≡ true) where
    not_right_at : (us rest : List Lexeme) → look us ≡ look ts → First (nulls s) (starts s) us rest → Quiet (alt r s) rest → ⊥
    not_right_at us rest lk (inl p) q = clash (and_true _ _ (subst (λ z. starts r z ≡ true) (sym (ap look p.0 ∙ lk)) e) (subst (λ z. nulls s (look z) ≡ true) (sym p.0) p.1)) (or_right _ _ q)
    not_right_at us rest lk (inr p) q = not_both _ _ (fine_one r s f (look us)) (subst (λ z. starts r z ≡ true) (sym lk) e) p

    pub not_right : (front mid mid' : List Lexeme) (v' : A) (rest' : List Lexeme) → ts ≡ front ++ mid → look mid' ≡ look mid → Reads_with Reads s (front ++ mid') v' rest' → Quiet (alt r s) rest' → ⊥
    not_right front mid mid' v' rest' sp lk rd q = not_right_at (front ++ mid') rest' (look_front front mid mid' lk ∙ ap look (sym sp)) (first s _ _ _ rd) q

    not_empty : (front at : List Lexeme) → ts ≡ front ++ at → front ≡ [] → starts r (look at) ≡ false → ⊥
    not_empty front at sp n h = clash e (subst (λ z. starts r (look z) ≡ false) (sym (sp ∙ ap (λ z. z ++ at) n)) h)

    left_only : (front mid : List Lexeme) (v : A) (x : Parsed r ts v mid) (mid' : List Lexeme) (v' : A) (rest' : List Lexeme) → look mid' ≡ look mid → (Reads_with Reads r (x.front ++ mid') v' rest' ⊎ Reads_with Reads s (x.front ++ mid') v' rest') → Quiet (alt r s) rest' → (v' ≡ v) × (rest' ≡ mid')
    left_only front mid v x mid' v' rest' lk (inl rd) q = x.only mid' v' rest' lk rd (or_left _ _ (or_left _ _ q))
    left_only front mid v x mid' v' rest' lk (inr rd) q = absurd (not_right x.front mid mid' v' rest' x.splits lk rd q)

    left_never : (at : List Lexeme) (x : Stuck r ts at) (mid' : List Lexeme) (v' : A) (rest' : List Lexeme) → look mid' ≡ look at → (Reads_with Reads r (x.front ++ mid') v' rest' ⊎ Reads_with Reads s (x.front ++ mid') v' rest') → Quiet (alt r s) rest' → ⊥
    left_never at x mid' v' rest' lk (inl rd) q = x.never mid' v' rest' lk rd (or_left _ _ (or_left _ _ q))
    left_never at x mid' v' rest' lk (inr rd) q = not_right x.front at mid' v' rest' x.splits lk rd q

    left_case : (o : Out A) → Good r ts o → Good (alt r s) ts o
    left_case (Ok p) x = record {
      front = x.front;
      splits = x.splits;
      reads = λ mid' h. inl (x.reads mid' h);
      only = left_only x.front p.1 p.0 x;
      early = λ n. absurd (not_empty x.front p.1 x.splits n (x.early n));
    }
    left_case (Err (too_deep at)) x = record {
      front = x.front;
      token = x.token;
      behind = x.behind;
      is_at = x.is_at;
      splits = x.splits;
      word = x.word;
      begun = record { value = x.begun.value; reads = λ rest q. inl (x.begun.reads rest q) };
    }
    left_case (Err (unfit at)) x = record {
      front = x.front;
      splits = x.splits;
      word = x.word;
      begun = record { value = x.begun.value; reads = λ rest q. inl (x.begun.reads rest q) };
      never = left_never at x;
      early = λ n. absurd (not_empty x.front at x.splits n (x.early n).0);
      calm_word = λ c n. absurd (not_empty x.front at x.splits n (x.early n).0);
    }

  module _ (e : starts r (look ts) ≡ false) where
    not_left_at : (us rest : List Lexeme) → look us ≡ look ts → First (nulls r) (starts r) us rest → ⊥
    not_left_at us rest lk (inl p) = clash p.1 (nulls_never (look us))
    not_left_at us rest lk (inr p) = clash p (subst (λ z. starts r z ≡ false) (sym lk) e)

    pub not_left : (front mid mid' : List Lexeme) (v' : A) (rest' : List Lexeme) → ts ≡ front ++ mid → look mid' ≡ look mid → Reads_with Reads r (front ++ mid') v' rest' → ⊥
    not_left front mid mid' v' rest' sp lk rd = not_left_at (front ++ mid') rest' (look_front front mid mid' lk ∙ ap look (sym sp)) (first r _ _ _ rd)

    right_only : (mid : List Lexeme) (v : A) (x : Parsed s ts v mid) (mid' : List Lexeme) (v' : A) (rest' : List Lexeme) → look mid' ≡ look mid → (Reads_with Reads r (x.front ++ mid') v' rest' ⊎ Reads_with Reads s (x.front ++ mid') v' rest') → Quiet (alt r s) rest' → (v' ≡ v) × (rest' ≡ mid')
    right_only mid v x mid' v' rest' lk (inl rd) q = absurd (not_left x.front mid mid' v' rest' x.splits lk rd)
    right_only mid v x mid' v' rest' lk (inr rd) q = x.only mid' v' rest' lk rd (or_right _ _ (or_left _ _ q))

    right_never : (at : List Lexeme) (x : Stuck s ts at) (mid' : List Lexeme) (v' : A) (rest' : List Lexeme) → look mid' ≡ look at → (Reads_with Reads r (x.front ++ mid') v' rest' ⊎ Reads_with Reads s (x.front ++ mid') v' rest') → Quiet (alt r s) rest' → ⊥
    right_never at x mid' v' rest' lk (inl rd) q = not_left x.front at mid' v' rest' x.splits lk rd
    right_never at x mid' v' rest' lk (inr rd) q = x.never mid' v' rest' lk rd (or_right _ _ (or_left _ _ q))

    starts_here : (front at : List Lexeme) → ts ≡ front ++ at → front ≡ [] → starts r (look at) ≡ false
    starts_here front at sp n = subst (λ z. starts r (look z) ≡ false) (sp ∙ ap (λ z. z ++ at) n) e

    right_case : (o : Out A) → Good s ts o → Good (alt r s) ts o
    right_case (Ok p) x = record {
      front = x.front;
      splits = x.splits;
      reads = λ mid' h. inr (x.reads mid' h);
      only = right_only p.1 p.0 x;
      early = λ n. or_false _ _ (starts_here x.front p.1 x.splits n) (x.early n);
    }
    right_case (Err (too_deep at)) x = record {
      front = x.front;
      token = x.token;
      behind = x.behind;
      is_at = x.is_at;
      splits = x.splits;
      word = x.word;
      begun = record { value = x.begun.value; reads = λ rest q. inr (x.begun.reads rest q) };
    }
    right_case (Err (unfit at)) x = record {
      front = x.front;
      splits = x.splits;
      word = x.word;
      begun = record { value = x.begun.value; reads = λ rest q. inr (x.begun.reads rest q) };
      never = right_never at x;
      early = λ n. (or_false _ _ (starts_here x.front at x.splits n) (x.early n).0, or_false _ _ (nulls_never (look at)) (x.early n).1);
      calm_word = x.calm_word;
    }

alt_case : {A : Type 0} (r s : Rx A) → fine (alt r s) ≡ true → (ts : List Lexeme) (b : Bool) → starts r (look ts) ≡ b → (o o' : Out A) → Good r ts o → Good s ts o' → Good (alt r s) ts (if b then o else o')
alt_case r s f ts true e o o' x y = left_case r s f ts e o x
alt_case r s f ts false e o o' x y = right_case r s f ts e o' y

-- ---- all of a rule

abbrev pub Reader : Type 0
Reader = (n : N) → ℕ → List Lexeme → Out (Of n)

-- each rule that is called by its name, where it is called, is read so
abbrev pub Calls : Allow → ((n : N) → ℕ → List Lexeme → Type 0) → Reader → {A : Type 0} → Rx A → ℕ → List Lexeme → Type 0
Calls L Q P eps d ts = Unit {0}
Calls L Q P no_else d ts = Unit {0}
Calls L Q P (tok f c cs) d ts = Unit {0}
Calls L Q P (seq {A} {B} r s) d ts = Calls L Q P r d ts × ((a : A) (mid : List Lexeme) (d' : ℕ) → parse_with L P r d ts ≡ Ok (a, mid, d') → Calls L Q P s d' mid)
Calls L Q P (alt r s) d ts = Calls L Q P r d ts × Calls L Q P s d ts
Calls L Q P (map f r) d ts = Calls L Q P r d ts
Calls L Q P (nest r) d ts = Calls L Q P r (d + 1) ts
Calls L Q P (scope f r) d ts = Calls L Q P r d ts
Calls L Q P (call n) d ts = Q n d ts

seq_then : {A B : Type 0} (r : Rx A) (s : Rx B) (f : fine (seq r s) ≡ true) (ts : List Lexeme) (a : A) (mid : List Lexeme) → Parsed r ts a mid → (o : Out B) → Good s mid o → Good (seq r s) ts (and_then {B = A × B} o (λ b rest d. Ok ((a, b), rest, d)))
seq_then r s f ts a mid x (Ok p) y = seq_ok r s f ts a mid x p.0 p.1 y
seq_then r s f ts a mid x (Err (unfit at)) y = seq_late r s f ts a mid x at y
seq_then r s f ts a mid x (Err (too_deep at)) y = seq_late_deep r s ts a mid x at y

seq_case : {A B : Type 0} (r : Rx A) (s : Rx B) (f : fine (seq r s) ≡ true) (ts : List Lexeme) (next : ℕ → List Lexeme → Out B) (o : Out A) → Good r ts o → ((a : A) (mid : List Lexeme) (d : ℕ) → o ≡ Ok (a, mid, d) → Good s mid (next d mid)) → Good (seq r s) ts (and_then {B = A × B} o (λ a mid d. and_then {B = A × B} (next d mid) (λ b rest d'. Ok ((a, b), rest, d'))))
seq_case r s f ts next (Ok p) x y = seq_then r s f ts p.0 p.1 x (next p.2 p.1) (y p.0 p.1 p.2 refl)
seq_case r s f ts next (Err (unfit at)) x y = seq_stuck r s f ts at x
seq_case r s f ts next (Err (too_deep at)) x y = seq_deep r s f ts at x

-- where a limit is met, the token must begin what the rule reads
abbrev pub Meets : Allow → Type 1
Meets L = (A : Type 0) (r : Rx A) → fine r ≡ true → (d : ℕ) (ts : List Lexeme) → starts r (look ts) ≡ true → L d ≡ false → Begun r ts ts

pub good : (L : Allow) → Meets L → (P : Reader) {A : Type 0} (r : Rx A) → fine r ≡ true → (d : ℕ) (ts : List Lexeme) → Calls L (λ n d' us. Good (call n) us (P n d' us)) P r d ts → Good r ts (parse_with L P r d ts)
good L m P eps f d ts x = eps_ok ts
good L m P no_else f d ts x = no_else_case ts (same (look ts) k.Else) refl d
good L m P (tok g c cs) f d ts x = tok_good g c cs f d ts
good L m P (seq r s) f d ts x = seq_case r s f ts (parse_with L P s) (parse_with L P r d ts) (good L m P r (and_left _ _ (and_left _ _ f)) d ts x.0) (λ a mid d' e. good L m P s (fine_right r s f) d' mid (x.1 a mid d' e))
good L m P (alt r s) f d ts x = alt_case r s f ts (starts r (look ts)) refl (parse_with L P r d ts) (parse_with L P s d ts) (good L m P r (and_left _ _ (and_left _ _ f)) d ts x.0) (good L m P s (and_right (fine r) _ (and_left _ _ f)) d ts x.1)
good L m P (map g r) f d ts x = map_case g r ts (parse_with L P r d ts) (good L m P r f d ts x)
good L m P (nest {A} r) f d ts x = deeper_case r ts f (starts r (look ts)) (L d) refl (m A r (and_left _ _ f) d ts) (parse_with L P r (d + 1) ts) (good L m P r (and_left _ _ f) (d + 1) ts x)
good L m P (scope g r) f d ts x = scope_case r ts g d (parse_with L P r d ts) (good L m P r (and_left _ _ f) d ts x)
good L m P (call n) f d ts x = x

pub quiet_name : (n : N) (rest : List Lexeme) → Quiet (call n) rest → Quiet (rule n) rest
quiet_name n rest q = is_false _ (λ p. clash (table_goes n (look rest) p) q)

-- a rule's name is read as the rule is
pub good_name : (n : N) (ts : List Lexeme) (o : Out (Of n)) → Good (rule n) ts o → Good (call n) ts o
good_name n ts (Ok p) x = record {
  front = x.front;
  splits = x.splits;
  reads = λ mid' h. closes n _ _ _ (x.reads mid' h);
  only = λ mid' v' rest' lk rd q. x.only mid' v' rest' lk (opens n _ _ _ rd) (quiet_name n rest' q);
  early = λ e. sym (table_begins n _) ∙ x.early e;
}
good_name n ts (Err (too_deep at)) x = record {
  front = x.front;
  token = x.token;
  behind = x.behind;
  is_at = x.is_at;
  splits = x.splits;
  word = x.word;
  begun = record { value = x.begun.value; reads = λ rest q. closes n _ _ _ (x.begun.reads rest q) };
}
good_name n ts (Err (unfit at)) x = record {
  front = x.front;
  splits = x.splits;
  word = x.word;
  begun = record { value = x.begun.value; reads = λ rest q. closes n _ _ _ (x.begun.reads rest q) };
  never = λ mid' v' rest' lk rd q. x.never mid' v' rest' lk (opens n _ _ _ rd) (quiet_name n rest' q);
  early = λ e. (sym (table_begins n _) ∙ (x.early e).0, sym (table_nulls n _) ∙ (x.early e).1);
  calm_word = λ c. x.calm_word (table_calm n);
}
