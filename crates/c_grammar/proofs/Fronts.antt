-- Reading depends on the tokens that it reads and on the class of the next one alone.
use Rattle.std.proofs.Common.{◌≡◌, ℕ, zero, suc, ◌+◌, ◌<◌, Bool, true, false, if◌then◌else◌, List, [], ◌∷◌, ◌++◌, append_assoc, Ok, Err, refl, sym, ◌∙◌, ap, subst, arith}
use Rattle.c_tokens.specs.declared.class.Class.{Class}
use Rattle.c_tokens.specs.declared.class.Class.TheVariants as k
use Rattle.c_grammar.specs.Lexemes.{Lexeme, same, look, among}
use Rattle.c_grammar.specs.Rules.{N, Of, Rx, eps, no_else, tok, seq, alt, map, nest, scope, call, after_scope}
use Rattle.c_grammar.specs.Grammar.{rule}
use Rattle.c_grammar.specs.Reading.{Out, unfit, too_deep, Allow, deeper, and_then, starts, take_tok, parse_with, size, parse}
use Rattle.c_grammar.proofs.Good.{Calls, look_front}
use Rattle.c_grammar.proofs.Steps.{Below, calls_mono, calls_of, parse_shrinks, parse_step}

-- at each other text with the same front and the same next class reading gives the same
pub record Alike (L : Allow) {A : Type 0} (r : Rx A) (d : ℕ) (ts mid : List Lexeme) (out : List Lexeme → Out A) : Type 0 where
  pub front : List Lexeme
  pub splits : ts ≡ front ++ mid
  pub alike : (mid' : List Lexeme) → look mid' ≡ look mid → parse_with L (parse L) r d (front ++ mid') ≡ out mid'

abbrev pub Same : Allow → {A : Type 0} → Rx A → ℕ → List Lexeme → Out A → Type 0
Same L r d ts (Ok p) = Alike L r d ts p.1 (λ mid. Ok (p.0, mid, p.2))
Same L r d ts (Err (unfit at)) = Unit {0}
Same L r d ts (Err (too_deep at)) = Alike L r d ts at (λ mid. Err (too_deep mid))

module _ (L : Allow) {A B : Type 0} (r : Rx A) (s : Rx B) (d : ℕ) where
  abbrev Both : ℕ → List Lexeme → A → Out (A × B)
  Both e mid a = and_then {B = A × B} (parse_with L (parse L) s e mid) (λ b rest e'. Ok ((a, b), rest, e'))

  abbrev After : Out A → Out (A × B)
  After o = and_then {B = A × B} o (λ a mid e. Both e mid a)

  abbrev Done : A → Out B → Out (A × B)
  Done a o = and_then {B = A × B} o (λ b rest e'. Ok ((a, b), rest, e'))

  both : (ts mid : List Lexeme) (m : ℕ) (a : A) → Alike L r d ts mid (λ u. Ok (a, u, m)) → (o : Out B) → Same L s m mid o → Same L (seq r s) d ts (Done a o)
  both ts mid m a x (Ok p) y = record {
    front = x.front ++ y.front;
    splits = x.splits ∙ ap (λ z. x.front ++ z) y.splits ∙ sym (append_assoc x.front y.front p.1);
    alike = λ mid' lk. ap (λ z. After (parse_with L (parse L) r d z)) (append_assoc x.front y.front mid') ∙ ap After (x.alike (y.front ++ mid') (look_front y.front p.1 mid' lk ∙ ap look (sym y.splits))) ∙ ap (Done a) (y.alike mid' lk);
  }
  both ts mid m a x (Err (unfit at)) y = tt
  both ts mid m a x (Err (too_deep at)) y = record {
    front = x.front ++ y.front;
    splits = x.splits ∙ ap (λ z. x.front ++ z) y.splits ∙ sym (append_assoc x.front y.front at);
    alike = λ mid' lk. ap (λ z. After (parse_with L (parse L) r d z)) (append_assoc x.front y.front mid') ∙ ap After (x.alike (y.front ++ mid') (look_front y.front at mid' lk ∙ ap look (sym y.splits))) ∙ ap (Done a) (y.alike mid' lk);
  }

  seq_case : (ts : List Lexeme) (o : Out A) → Same L r d ts o → ((a : A) (mid : List Lexeme) (e : ℕ) → o ≡ Ok (a, mid, e) → Same L s e mid (parse_with L (parse L) s e mid)) → Same L (seq r s) d ts (After o)
  seq_case ts (Ok p) x y = both ts p.1 p.2 p.0 x (parse_with L (parse L) s p.2 p.1) (y p.0 p.1 p.2 refl)
  seq_case ts (Err (unfit at)) x y = tt
  seq_case ts (Err (too_deep at)) x y = record { front = x.front; splits = x.splits; alike = λ mid' lk. ap After (x.alike mid' lk) }

starts_same : {A : Type 0} (r : Rx A) (ts front mid mid' : List Lexeme) (b : Bool) → starts r (look ts) ≡ b → ts ≡ front ++ mid → look mid' ≡ look mid → starts r (look (front ++ mid')) ≡ b
starts_same r ts front mid mid' b e s lk = ap (starts r) (look_front front mid mid' lk ∙ ap look (sym s)) ∙ e

module _ (L : Allow) {A : Type 0} (r s : Rx A) (d : ℕ) (ts : List Lexeme) where
  abbrev Chosen : List Lexeme → Bool → Out A
  Chosen us b = if b then parse_with L (parse L) r d us else parse_with L (parse L) s d us

  alt_left : (mid : List Lexeme) (out : List Lexeme → Out A) → starts r (look ts) ≡ true → Alike L r d ts mid out → Alike L (alt r s) d ts mid out
  alt_left mid out e x = record { front = x.front; splits = x.splits; alike = λ mid' lk. ap (Chosen (x.front ++ mid')) (starts_same r ts x.front mid mid' true e x.splits lk) ∙ x.alike mid' lk }

  alt_right : (mid : List Lexeme) (out : List Lexeme → Out A) → starts r (look ts) ≡ false → Alike L s d ts mid out → Alike L (alt r s) d ts mid out
  alt_right mid out e x = record { front = x.front; splits = x.splits; alike = λ mid' lk. ap (Chosen (x.front ++ mid')) (starts_same r ts x.front mid mid' false e x.splits lk) ∙ x.alike mid' lk }

  alt_case : (b : Bool) → starts r (look ts) ≡ b → (o o' : Out A) → Same L r d ts o → Same L s d ts o' → Same L (alt r s) d ts (if b then o else o')
  alt_case true e (Ok p) o' x y = alt_left p.1 (λ mid. Ok (p.0, mid, p.2)) e x
  alt_case true e (Err (unfit at)) o' x y = tt
  alt_case true e (Err (too_deep at)) o' x y = alt_left at (λ mid. Err (too_deep mid)) e x
  alt_case false e o (Ok p) x y = alt_right p.1 (λ mid. Ok (p.0, mid, p.2)) e y
  alt_case false e o (Err (unfit at)) x y = tt
  alt_case false e o (Err (too_deep at)) x y = alt_right at (λ mid. Err (too_deep mid)) e y

map_case : (L : Allow) {A B : Type 0} (g : A → B) (r : Rx A) (d : ℕ) (ts : List Lexeme) (o : Out A) → Same L r d ts o → Same L (map g r) d ts (and_then {B = B} o (λ a rest e. Ok (g a, rest, e)))
map_case L {A} {B} g r d ts (Ok p) x = record { front = x.front; splits = x.splits; alike = λ mid' lk. ap (λ z. and_then {B = B} z (λ a rest e. Ok (g a, rest, e))) (x.alike mid' lk) }
map_case L g r d ts (Err (unfit at)) x = tt
map_case L {A} {B} g r d ts (Err (too_deep at)) x = record { front = x.front; splits = x.splits; alike = λ mid' lk. ap (λ z. and_then {B = B} z (λ a rest e. Ok (g a, rest, e))) (x.alike mid' lk) }

scope_case : (L : Allow) (b : Bool) {A : Type 0} (r : Rx A) (d : ℕ) (ts : List Lexeme) (o : Out A) → Same L r d ts o → Same L (scope b r) d ts (and_then {B = A} o (λ a rest e. Ok (a, rest, after_scope b d)))
scope_case L b {A} r d ts (Ok p) x = record { front = x.front; splits = x.splits; alike = λ mid' lk. ap (λ z. and_then {B = A} z (λ a rest e. Ok (a, rest, after_scope b d))) (x.alike mid' lk) }
scope_case L b r d ts (Err (unfit at)) x = tt
scope_case L b {A} r d ts (Err (too_deep at)) x = record { front = x.front; splits = x.splits; alike = λ mid' lk. ap (λ z. and_then {B = A} z (λ a rest e. Ok (a, rest, after_scope b d))) (x.alike mid' lk) }

module _ (L : Allow) {A : Type 0} (r : Rx A) (d : ℕ) (ts : List Lexeme) where
  abbrev Opened : List Lexeme → Bool → Bool → Out A
  Opened us b c = deeper b c us (parse_with L (parse L) r (d + 1) us)

  nest_open : (mid : List Lexeme) (out : List Lexeme → Out A) → starts r (look ts) ≡ true → L d ≡ true → Alike L r (d + 1) ts mid out → Alike L (nest r) d ts mid out
  nest_open mid out e l x = record { front = x.front; splits = x.splits; alike = λ mid' lk. ap (λ z. Opened (x.front ++ mid') z (L d)) (starts_same r ts x.front mid mid' true e x.splits lk) ∙ ap (Opened (x.front ++ mid') true) l ∙ x.alike mid' lk }

  nest_case : (b c : Bool) → starts r (look ts) ≡ b → L d ≡ c → (o : Out A) → Same L r (d + 1) ts o → Same L (nest r) d ts (deeper b c ts o)
  nest_case false c e l o x = tt
  nest_case true true e l (Ok p) x = nest_open p.1 (λ mid. Ok (p.0, mid, p.2)) e l x
  nest_case true true e l (Err (unfit at)) x = tt
  nest_case true true e l (Err (too_deep at)) x = nest_open at (λ mid. Err (too_deep mid)) e l x
  nest_case true false e l o x = record { front = []; splits = refl; alike = λ mid' lk. ap (λ z. Opened mid' z (L d)) (starts_same r ts [] ts mid' true e refl lk) ∙ ap (Opened mid' true) l }

else_case : (L : Allow) (d : ℕ) (ts : List Lexeme) (b : Bool) → same (look ts) k.Else ≡ b → Same L no_else d ts (if b then Err (unfit ts) else Ok (tt, ts, d))
else_case L d ts true e = tt
else_case L d ts false e = record { front = []; splits = refl; alike = λ mid' lk. ap (λ z. if z then Err (unfit mid') else Ok (tt, mid', d)) (ap (λ z. same z k.Else) lk ∙ e) }

tok_case : (L : Allow) {A : Type 0} (g : Lexeme → A) (c : Class) (cs : List Class) (d : ℕ) (t : Lexeme) (ts : List Lexeme) (b : Bool) → among t.class (c ∷ cs) ≡ b → Same L (tok g c cs) d (t ∷ ts) (if b then Ok (g t, ts, d) else Err (unfit (t ∷ ts)))
unfolding take_tok
tok_case L g c cs d t ts false e = tt
tok_case L {A} g c cs d t ts true e = record { front = t ∷ []; splits = refl; alike = λ mid' lk. ap (λ z. if z then Ok (g t, mid', d) else Err (unfit (t ∷ mid'))) e }

same_all : (L : Allow) {A : Type 0} (r : Rx A) (d : ℕ) (ts : List Lexeme) → Calls L (λ m e us. Same L (call m) e us (parse L m e us)) (parse L) r d ts → Same L r d ts (parse_with L (parse L) r d ts)
unfolding take_tok
same_all L eps d ts x = record { front = []; splits = refl; alike = λ mid' lk. refl }
same_all L no_else d ts x = else_case L d ts (same (look ts) k.Else) refl
same_all L (tok g c cs) d [] x = tt
same_all L (tok g c cs) d (t ∷ ts) x = tok_case L g c cs d t ts (among t.class (c ∷ cs)) refl
same_all L (seq r s) d ts x = seq_case L r s d ts (parse_with L (parse L) r d ts) (same_all L r d ts x.0) (λ a mid e eq. same_all L s e mid (x.1 a mid e eq))
same_all L (alt r s) d ts x = alt_case L r s d ts (starts r (look ts)) refl (parse_with L (parse L) r d ts) (parse_with L (parse L) s d ts) (same_all L r d ts x.0) (same_all L s d ts x.1)
same_all L (map g r) d ts x = map_case L g r d ts (parse_with L (parse L) r d ts) (same_all L r d ts x)
same_all L (nest r) d ts x = nest_case L r d ts (starts r (look ts)) (L d) refl refl (parse_with L (parse L) r (d + 1) ts) (same_all L r (d + 1) ts x)
same_all L (scope g r) d ts x = scope_case L g r d ts (parse_with L (parse L) r d ts) (same_all L r d ts x)
same_all L (call m) d ts x = x

same_name : (L : Allow) (m : N) (d : ℕ) (ts : List Lexeme) (o : Out (Of m)) → Same L (rule m) d ts o → Same L (call m) d ts o
same_name L m d ts (Ok p) x = record { front = x.front; splits = x.splits; alike = λ mid' lk. parse_step L m d (x.front ++ mid') ∙ x.alike mid' lk }
same_name L m d ts (Err (unfit at)) x = tt
same_name L m d ts (Err (too_deep at)) x = record { front = x.front; splits = x.splits; alike = λ mid' lk. parse_step L m d (x.front ++ mid') ∙ x.alike mid' lk }

same_below : (L : Allow) (k : ℕ) (m : N) (d : ℕ) (ts : List Lexeme) → size m ts < k → Same L (call m) d ts (parse L m d ts)
same_below L zero m d ts h = absurd (omega arith)
same_below L (suc k) m d ts h =
    let x : Same L (call m) d ts (parse_with L (parse L) (rule m) d ts) = same_name L m d ts (parse_with L (parse L) (rule m) d ts) (same_all L (rule m) d ts (calls_mono L (Below (size m ts)) (λ m' e us. Same L (call m') e us (parse L m' e us)) (parse L) (λ m' e us l. same_below L k m' e us (omega arith)) (rule m) d ts (calls_of L (parse L) (parse_shrinks L) m d ts))) in
    subst (Same L (call m) d ts) (sym (parse_step L m d ts)) x

pub same_parse : (L : Allow) (m : N) (d : ℕ) (ts : List Lexeme) → Same L (call m) d ts (parse L m d ts)
same_parse L m d ts = same_below L (suc (size m ts)) m d ts (omega arith)
