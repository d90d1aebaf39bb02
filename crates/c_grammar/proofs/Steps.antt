-- Reading does not depend on the bound of its recursion, and what it finds.
use Rattle.std.proofs.Common.{◌≡◌, ℕ, zero, suc, ◌+◌, ◌*◌, ◌<◌, ◌≤◌, Bool, true, false, ◌||◌, ◌&&◌, if◌then◌else◌, List, [], ◌∷◌, ◌++◌, length, Ok, Err, refl, sym, ◌∙◌, ap, subst, arith, lit<, inr}
use borrow.Author.Tests.{ltb-true}
use Rattle.c_tokens.specs.declared.class.Class.TheVariants as k
use Rattle.c_grammar.specs.Lexemes.{Lexeme, same, look, among}
use Rattle.c_grammar.specs.declared.parts.Level.TheVariants as l
use Rattle.c_grammar.specs.Rules as n
use Rattle.c_grammar.specs.Rules.{N, Of, Rx, eps, no_else, tok, seq, alt, map, nest, scope, call, after_scope, Reads_with}
use Rattle.c_grammar.specs.Grammar.{rule, Reads}
use Rattle.c_grammar.specs.Reading.{Out, unfit, too_deep, Allow, deeper, and_then, skips_of, skips, starts, take_tok, parse_with, rank, size, parse_within, parse, steps_with, steps, steps_of, limit}
use Rattle.c_grammar.proofs.Checks.{and_left, and_right, clash, lower, fine}
use Rattle.c_grammar.proofs.Relation.{table_skips, table_lower, table_fine}
use Rattle.c_grammar.proofs.Good.{Good, Calls, good, good_name, Reader, Meets, Begun, Completes}

-- ---- tokens are used up

pub record Uses (skip : Bool) (mid ts : List Lexeme) : Type 0 where
  pub no_more : length mid ≤ length ts
  pub fewer : skip ≡ false → length mid < length ts

abbrev Shrinks : Reader → Type 0
Shrinks P = (n : N) (d : ℕ) (ts : List Lexeme) (v : Of n) (mid : List Lexeme) (d' : ℕ) → P n d ts ≡ Ok (v, mid, d') → Uses (skips_of n) mid ts

abbrev UsesOut : {A : Type 0} → Bool → List Lexeme → Out A → Type 0
UsesOut b ts (Ok p) = Uses b p.1 ts
UsesOut b ts (Err at) = Unit {0}

tok_uses : {A : Type 0} (v : A) (d : ℕ) (t : Lexeme) (ts : List Lexeme) (b : Bool) → UsesOut {A = A} false (t ∷ ts) (if b then Ok (v, ts, d) else Err (unfit (t ∷ ts)))
tok_uses v d t ts true = record { no_more = omega arith; fewer = λ h. omega arith }
tok_uses v d t ts false = tt

fewer_of : (b d : Bool) (ts mid rest : List Lexeme) → Uses b mid ts → Uses d rest mid → (b && d) ≡ false → length rest < length ts
fewer_of false d ts mid rest x z h = let f : length mid < length ts = x.fewer refl in omega (arith, z.no_more, f)
fewer_of true d ts mid rest x z h = let f : length rest < length mid = z.fewer h in omega (arith, x.no_more, f)

then_uses : {A B : Type 0} (b d : Bool) (ts : List Lexeme) (a : A) (mid : List Lexeme) → Uses b mid ts → (o : Out B) → UsesOut d mid o → UsesOut {A = A × B} (b && d) ts (and_then {B = A × B} o (λ v rest d. Ok ((a, v), rest, d)))
then_uses b d ts a mid x (Err at) z = tt
then_uses b d ts a mid x (Ok q) z = record { no_more = omega (arith, x.no_more, z.no_more); fewer = fewer_of b d ts mid q.1 x z }

seq_uses : {A B : Type 0} (b d : Bool) (ts : List Lexeme) (next : ℕ → List Lexeme → Out B) (o : Out A) → UsesOut b ts o → ((e : ℕ) (mid : List Lexeme) → UsesOut d mid (next e mid)) → UsesOut {A = A × B} (b && d) ts (and_then {B = A × B} o (λ a mid e. and_then {B = A × B} (next e mid) (λ v rest e'. Ok ((a, v), rest, e'))))
seq_uses b d ts next (Err at) x y = tt
seq_uses b d ts next (Ok p) x y = then_uses b d ts p.0 p.1 x (next p.2 p.1) (y p.2 p.1)

alt_uses : {A : Type 0} (b d e : Bool) (ts : List Lexeme) (o o' : Out A) → UsesOut b ts o → UsesOut d ts o' → UsesOut (b || d) ts (if e then o else o')
alt_uses b d true ts (Ok p) o' x y = record { no_more = x.no_more; fewer = λ h. x.fewer (left_false b d h) }
  where
    left_false : (b d : Bool) → (b || d) ≡ false → b ≡ false
    left_false true d h = h
    left_false false d h = refl
alt_uses b d true ts (Err at) o' x y = tt
alt_uses b d false ts o (Ok p) x y = record { no_more = y.no_more; fewer = λ h. y.fewer (right_false b d h) }
  where
    right_false : (b d : Bool) → (b || d) ≡ false → d ≡ false
    right_false true d h = cc
    right_false false d h = h
alt_uses b d false ts o (Err at) x y = tt

map_uses : {A B : Type 0} (f : A → B) (b : Bool) (ts : List Lexeme) (o : Out A) → UsesOut b ts o → UsesOut {A = B} b ts (and_then {B = B} o (λ a rest d. Ok (f a, rest, d)))
map_uses f b ts (Ok p) x = x
map_uses f b ts (Err at) x = tt

call_uses : (P : Reader) → Shrinks P → (n : N) (d : ℕ) (ts : List Lexeme) (o : Out (Of n)) → P n d ts ≡ o → UsesOut (skips_of n) ts o
call_uses P s n d ts (Ok p) e = s n d ts p.0 p.1 p.2 e
call_uses P s n d ts (Err at) e = tt

else_uses : (d : ℕ) (ts : List Lexeme) (b : Bool) → UsesOut {A = Unit {0}} true ts (if b then Err (unfit ts) else Ok (tt, ts, d))
else_uses d ts true = tt
else_uses d ts false = record { no_more = omega arith; fewer = λ h. cc }

deeper_uses : {A : Type 0} (b c e : Bool) (ts : List Lexeme) (o : Out A) → UsesOut b ts o → UsesOut b ts (deeper c e ts o)
deeper_uses b true true ts o x = x
deeper_uses b true false ts o x = tt
deeper_uses b false e ts o x = tt

scope_uses : {A : Type 0} (d : ℕ) (b : Bool) (ts : List Lexeme) (o : Out A) → UsesOut b ts o → UsesOut b ts (and_then {B = A} o (λ a rest d'. Ok (a, rest, d)))
scope_uses d b ts (Ok p) x = x
scope_uses d b ts (Err at) x = tt

uses : (L : Allow) (P : Reader) → Shrinks P → {A : Type 0} (r : Rx A) (d : ℕ) (ts : List Lexeme) → UsesOut (skips r) ts (parse_with L P r d ts)
unfolding take_tok
uses L P s eps d ts = record { no_more = omega arith; fewer = λ h. cc }
uses L P s no_else d ts = else_uses d ts _
uses L P s (tok f c cs) d [] = tt
uses L P s (tok f c cs) d (t ∷ ts) = tok_uses (f t) d t ts (among t.class (c ∷ cs))
uses L P s (seq r q) d ts = seq_uses (skips r) (skips q) ts (parse_with L P q) (parse_with L P r d ts) (uses L P s r d ts) (λ e mid. uses L P s q e mid)
uses L P s (alt r q) d ts = alt_uses (skips r) (skips q) (starts r (look ts)) ts (parse_with L P r d ts) (parse_with L P q d ts) (uses L P s r d ts) (uses L P s q d ts)
uses L P s (map f r) d ts = map_uses f (skips r) ts (parse_with L P r d ts) (uses L P s r d ts)
uses L P s (nest r) d ts = deeper_uses (skips r) (starts r (look ts)) (L d) ts (parse_with L P r (d + 1) ts) (uses L P s r (d + 1) ts)
uses L P s (scope f r) d ts = scope_uses (after_scope f d) (skips r) ts (parse_with L P r d ts) (uses L P s r d ts)
uses L P s (call n) d ts = call_uses P s n d ts (P n d ts) refl

uses_ok : {A : Type 0} (b : Bool) (ts : List Lexeme) (o : Out A) (v : A) (mid : List Lexeme) (d' : ℕ) → UsesOut b ts o → o ≡ Ok (v, mid, d') → Uses b mid ts
uses_ok b ts o v mid d' x e = subst (UsesOut b ts) e x

within_shrinks : (L : Allow) (h : ℕ) → Shrinks (parse_within L h)
within_shrinks L zero n d ts v mid d' e = cc
within_shrinks L (suc h) n d ts v mid d' e = subst (λ b. Uses b mid ts) (table_skips n) (uses_ok (skips (rule n)) ts (parse_with L (parse_within L h) (rule n) d ts) v mid d' (uses L (parse_within L h) (within_shrinks L h) (rule n) d ts) e)

pub parse_shrinks : (L : Allow) → Shrinks (parse L)
unfolding parse
parse_shrinks L n d ts v mid d' e = within_shrinks L (suc (size n ts)) n d ts v mid d' e

-- ---- calls are of smaller size

abbrev pub Below : ℕ → N → ℕ → List Lexeme → Type 0
Below bound n d ts = size n ts < bound

rank_small : (m : N) → rank m < 32
rank_small n.Source = lit< tt
rank_small n.External = lit< tt
rank_small n.AfterTag = lit< tt
rank_small n.AfterName = lit< tt
rank_small n.Ending = lit< tt
rank_small n.Parameters = lit< tt
rank_small n.AfterVoid = lit< tt
rank_small n.Parameter = lit< tt
rank_small n.MoreParameters = lit< tt
rank_small n.Width = lit< tt
rank_small n.MaybeWidth = lit< tt
rank_small n.Integer = lit< tt
rank_small n.PlainBase = lit< tt
rank_small n.ObjectBase = lit< tt
rank_small n.AnyBase = lit< tt
rank_small n.TypeName = lit< tt
rank_small (n.Stars most) = lit< tt
rank_small n.Member = lit< tt
rank_small n.Members = lit< tt
rank_small n.Declared = lit< tt
rank_small n.MoreDeclared = lit< tt
rank_small n.Counts = lit< tt
rank_small n.Initialised = lit< tt
rank_small n.MoreInitialised = lit< tt
rank_small n.MaybeInit = lit< tt
rank_small n.Initialiser = lit< tt
rank_small n.MoreInitialisers = lit< tt
rank_small n.Block = lit< tt
rank_small n.Statements = lit< tt
rank_small n.Statement = lit< tt
rank_small n.Local = lit< tt
rank_small n.Branch = lit< tt
rank_small n.Nested = lit< tt
rank_small n.Condition = lit< tt
rank_small n.IfElse = lit< tt
rank_small n.Otherwise = lit< tt
rank_small n.WhileDo = lit< tt
rank_small n.DoWhile = lit< tt
rank_small n.ForDo = lit< tt
rank_small n.Returned = lit< tt
rank_small n.Simple = lit< tt
rank_small n.MaybeExpression = lit< tt
rank_small n.Assignment = lit< tt
rank_small n.AssignmentTail = lit< tt
rank_small n.Conditional = lit< tt
rank_small n.ConditionalTail = lit< tt
rank_small (n.Side l.Product) = lit< tt
rank_small (n.Side l.Sum) = lit< tt
rank_small (n.Side l.Shift) = lit< tt
rank_small (n.Side l.Order) = lit< tt
rank_small (n.Side l.Equality) = lit< tt
rank_small (n.Side l.BitAnd) = lit< tt
rank_small (n.Side l.BitXor) = lit< tt
rank_small (n.Side l.BitOr) = lit< tt
rank_small (n.Side l.Both) = lit< tt
rank_small (n.Side l.Either) = lit< tt
rank_small (n.Binary l.Product) = lit< tt
rank_small (n.Binary l.Sum) = lit< tt
rank_small (n.Binary l.Shift) = lit< tt
rank_small (n.Binary l.Order) = lit< tt
rank_small (n.Binary l.Equality) = lit< tt
rank_small (n.Binary l.BitAnd) = lit< tt
rank_small (n.Binary l.BitXor) = lit< tt
rank_small (n.Binary l.BitOr) = lit< tt
rank_small (n.Binary l.Both) = lit< tt
rank_small (n.Binary l.Either) = lit< tt
rank_small (n.BinaryTail l.Product) = lit< tt
rank_small (n.BinaryTail l.Sum) = lit< tt
rank_small (n.BinaryTail l.Shift) = lit< tt
rank_small (n.BinaryTail l.Order) = lit< tt
rank_small (n.BinaryTail l.Equality) = lit< tt
rank_small (n.BinaryTail l.BitAnd) = lit< tt
rank_small (n.BinaryTail l.BitXor) = lit< tt
rank_small (n.BinaryTail l.BitOr) = lit< tt
rank_small (n.BinaryTail l.Both) = lit< tt
rank_small (n.BinaryTail l.Either) = lit< tt
rank_small n.Unary = lit< tt
rank_small n.Opened = lit< tt
rank_small n.Plain = lit< tt
rank_small n.Sized = lit< tt
rank_small n.SizedOpened = lit< tt
rank_small n.Atom = lit< tt
rank_small n.MaybeCall = lit< tt
rank_small n.Arguments = lit< tt
rank_small n.MoreArguments = lit< tt
rank_small n.Part = lit< tt
rank_small n.Parts = lit< tt

module _ (L : Allow) (P : Reader) (s : Shrinks P) (bound : ℕ) where
  calls_any : {A : Type 0} (r : Rx A) (d : ℕ) (ts : List Lexeme) → 32 * length ts + 32 ≤ bound → Calls L (Below bound) P r d ts
  calls_any eps d ts h = tt
  calls_any no_else d ts h = tt
  calls_any (tok f c cs) d ts h = tt
  calls_any (seq r q) d ts h = (
    calls_any r d ts h,
    λ a mid d' e.
        let u = uses_ok (skips r) ts (parse_with L P r d ts) a mid d' (uses L P s r d ts) e in
        calls_any q d' mid (omega (arith, u.no_more)),
  )
  calls_any (alt r q) d ts h = (calls_any r d ts h, calls_any q d ts h)
  calls_any (map f r) d ts h = calls_any r d ts h
  calls_any (nest r) d ts h = calls_any r (d + 1) ts h
  calls_any (scope f r) d ts h = calls_any r d ts h
  calls_any (call n) d ts h = omega (arith, rank_small n)

  after_below : {A : Type 0} (m : ℕ) (b : Bool) (r : Rx A) → (lower r m ≡ true → (d : ℕ) (us : List Lexeme) → 32 * length us + m ≤ bound → Calls L (Below bound) P r d us) → (if b then lower r m else true) ≡ true → (d : ℕ) (ts mid : List Lexeme) → Uses b mid ts → 32 * length ts + m ≤ bound → Calls L (Below bound) P r d mid
  after_below m true r f l d ts mid u h = f l d mid (omega (arith, u.no_more))
  after_below m false r f l d ts mid u h = let g : length mid < length ts = u.fewer refl in calls_any r d mid (omega (arith, g))

  calls_below : {A : Type 0} (m : ℕ) (r : Rx A) → lower r m ≡ true → (d : ℕ) (ts : List Lexeme) → 32 * length ts + m ≤ bound → Calls L (Below bound) P r d ts
  calls_below m eps l d ts h = tt
  calls_below m no_else l d ts h = tt
  calls_below m (tok f c cs) l d ts h = tt
  calls_below m (seq r q) l d ts h = (calls_below m r (and_left _ _ l) d ts h, λ a mid d' e. after_below m (skips r) q (calls_below m q) (and_right _ _ l) d' ts mid (uses_ok (skips r) ts (parse_with L P r d ts) a mid d' (uses L P s r d ts) e) h)
  calls_below m (alt r q) l d ts h = (calls_below m r (and_left _ _ l) d ts h, calls_below m q (and_right _ _ l) d ts h)
  calls_below m (map f r) l d ts h = calls_below m r l d ts h
  calls_below m (nest r) l d ts h = calls_below m r l (d + 1) ts h
  calls_below m (scope f r) l d ts h = calls_below m r l d ts h
  calls_below m (call n) l d ts h = omega (arith, ltb-true (rank n) m l)

-- ---- readers that agree on the calls agree

pub calls_mono : (L : Allow) (Q Q' : (n : N) → ℕ → List Lexeme → Type 0) (P : Reader) → ((n : N) (d : ℕ) (ts : List Lexeme) → Q n d ts → Q' n d ts) → {A : Type 0} (r : Rx A) (d : ℕ) (ts : List Lexeme) → Calls L Q P r d ts → Calls L Q' P r d ts
calls_mono L Q Q' P f eps d ts x = tt
calls_mono L Q Q' P f no_else d ts x = tt
calls_mono L Q Q' P f (tok g c cs) d ts x = tt
calls_mono L Q Q' P f (seq r q) d ts x = (calls_mono L Q Q' P f r d ts x.0, λ a mid d' e. calls_mono L Q Q' P f q d' mid (x.1 a mid d' e))
calls_mono L Q Q' P f (alt r q) d ts x = (calls_mono L Q Q' P f r d ts x.0, calls_mono L Q Q' P f q d ts x.1)
calls_mono L Q Q' P f (map g r) d ts x = calls_mono L Q Q' P f r d ts x
calls_mono L Q Q' P f (nest r) d ts x = calls_mono L Q Q' P f r (d + 1) ts x
calls_mono L Q Q' P f (scope g r) d ts x = calls_mono L Q Q' P f r d ts x
calls_mono L Q Q' P f (call n) d ts x = f n d ts x

seq_agree : {A B : Type 0} (o : Out A) (next next' : ℕ → List Lexeme → Out B) → ((a : A) (mid : List Lexeme) (d : ℕ) → o ≡ Ok (a, mid, d) → next d mid ≡ next' d mid) → and_then {B = A × B} o (λ a mid d. and_then {B = A × B} (next d mid) (λ b rest d'. Ok ((a, b), rest, d'))) ≡ and_then {B = A × B} o (λ a mid d. and_then {B = A × B} (next' d mid) (λ b rest d'. Ok ((a, b), rest, d')))
seq_agree {A} {B} (Ok p) next next' f = ap (λ z. and_then {B = A × B} z (λ b rest d'. Ok ((p.0, b), rest, d'))) (f p.0 p.1 p.2 refl)
seq_agree (Err at) next next' f = refl

agree : (L : Allow) (P P' : Reader) {A : Type 0} (r : Rx A) (d : ℕ) (ts : List Lexeme) → Calls L (λ n e us. P n e us ≡ P' n e us) P r d ts → parse_with L P r d ts ≡ parse_with L P' r d ts
agree L P P' eps d ts x = refl
agree L P P' no_else d ts x = refl
agree L P P' (tok f c cs) d ts x = refl
agree L P P' (seq {A} {B} r q) d ts x =
    seq_agree (parse_with L P r d ts) (parse_with L P q) (parse_with L P' q) (λ a mid d' e. agree L P P' q d' mid (x.1 a mid d' e))
    ∙ ap (λ z. and_then {B = A × B} z (λ a mid d'. and_then {B = A × B} (parse_with L P' q d' mid) (λ b rest d''. Ok ((a, b), rest, d'')))) (agree L P P' r d ts x.0)
agree L P P' (alt r q) d ts x = ap (λ z. if starts r (look ts) then z else parse_with L P q d ts) (agree L P P' r d ts x.0) ∙ ap (λ z. if starts r (look ts) then parse_with L P' r d ts else z) (agree L P P' q d ts x.1)
agree L P P' (map {A} {B} f r) d ts x = ap (λ z. and_then {B = B} z (λ a rest d'. Ok (f a, rest, d'))) (agree L P P' r d ts x)
agree L P P' (nest r) d ts x = ap (deeper (starts r (look ts)) (L d) ts) (agree L P P' r (d + 1) ts x)
agree L P P' (scope {A} f r) d ts x = ap (λ z. and_then {B = A} z (λ a rest d'. Ok (a, rest, after_scope f d))) (agree L P P' r d ts x)
agree L P P' (call n) d ts x = x

pub calls_of : (L : Allow) (P : Reader) → Shrinks P → (n : N) (d : ℕ) (ts : List Lexeme) → Calls L (Below (size n ts)) P (rule n) d ts
calls_of L P s n d ts = calls_below L P s (size n ts) (rank n) (rule n) (table_lower n) d ts (omega arith)

-- a larger bound changes nothing
stable : (L : Allow) (k h h' : ℕ) (n : N) (d : ℕ) (ts : List Lexeme) → size n ts < k → size n ts < h → size n ts < h' → parse_within L h n d ts ≡ parse_within L h' n d ts
stable L zero h h' n d ts a b c = absurd (omega arith)
stable L (suc k) zero h' n d ts a b c = absurd (omega arith)
stable L (suc k) (suc h) zero n d ts a b c = absurd (omega arith)
stable L (suc k) (suc h) (suc h') n d ts a b c =
    agree L (parse_within L h) (parse_within L h') (rule n) d ts (calls_mono L (Below (size n ts)) (λ m e us. parse_within L h m e us ≡ parse_within L h' m e us) (parse_within L h) (λ m e us l. stable L k h h' m e us (omega arith) (omega arith) (omega arith)) (rule n) d ts (calls_of L (parse_within L h) (within_shrinks L h) n d ts))

-- what a rule's name reads is what the rule reads
pub parse_step : (L : Allow) (n : N) (d : ℕ) (ts : List Lexeme) → parse L n d ts ≡ parse_with L (parse L) (rule n) d ts
unfolding parse
parse_step L n d ts =
    let P = parse_within L (size n ts) in
    agree L P (parse L) (rule n) d ts (calls_mono L (Below (size n ts)) (λ m e us. P m e us ≡ parse L m e us) P (λ m e us l. stable L (size n ts) (size n ts) (suc (size m us)) m e us l l (omega arith)) (rule n) d ts (calls_of L P (within_shrinks L (size n ts)) n d ts))

-- ---- what is found

good_below : (L : Allow) → Meets L → (k : ℕ) (n : N) (d : ℕ) (ts : List Lexeme) → size n ts < k → Good (call n) ts (parse L n d ts)
good_below L m zero n d ts h = absurd (omega arith)
good_below L m (suc k) n d ts h =
    let x : Good (call n) ts (parse_with L (parse L) (rule n) d ts) = good_name n ts (parse_with L (parse L) (rule n) d ts) (good L m (parse L) (rule n) (table_fine n) d ts (calls_mono L (Below (size n ts)) (λ m' e us. Good (call m') us (parse L m' e us)) (parse L) (λ m' e us l. good_below L m k m' e us (omega arith)) (rule n) d ts (calls_of L (parse L) (parse_shrinks L) n d ts))) in
    subst (Good (call n) ts) (sym (parse_step L n d ts)) x

-- ---- with no limit, and then with one

abbrev no_limit : Allow
no_limit d = true

free : Meets no_limit
free A r f d ts s l = absurd (clash refl l)

-- what a rule finds, where each of its calls is as the names' readers
found : (L : Allow) → Meets L → {A : Type 0} (r : Rx A) → fine r ≡ true → (d : ℕ) (ts : List Lexeme) → Good r ts (parse_with L (parse L) r d ts)
found L m r f d ts = good L m (parse L) r f d ts (calls_mono L (Below (32 * length ts + 32)) (λ n e us. Good (call n) us (parse L n e us)) (parse L) (λ n e us l. good_below L m (32 * length ts + 32) n e us l) r d ts (calls_any L (parse L) (parse_shrinks L) (32 * length ts + 32) r d ts (omega arith)))

front_one : (t : Lexeme) (front mid : List Lexeme) → t ∷ [] ≡ front ++ mid → (front ≡ [] → ⊥) → front ≡ t ∷ []
front_one t [] mid e h = absurd (h refl)
front_one t (u ∷ []) mid e h = cc
front_one t (u ∷ w ∷ front) mid e h = absurd (impossible (cc))
  where
    impossible : [] ≡ w ∷ (front ++ mid) → ⊥
    impossible k = cc

deep_one : (t : Lexeme) (front : List Lexeme) (u : Lexeme) (behind : List Lexeme) → t ∷ [] ≡ front ++ (u ∷ behind) → front ++ u ∷ [] ≡ t ∷ []
deep_one t [] u behind e = cc
deep_one t (w ∷ []) u behind e = absurd (cc)
deep_one t (w ∷ v ∷ front) u behind e = absurd (cc)

at_start : {A : Type 0} (r : Rx A) (t : Lexeme) (behind word : List Lexeme) → Completes r (t ∷ []) word → Begun r (t ∷ behind) (t ∷ behind)
at_start r t behind word c = record { front = []; token = t; behind = behind; is_at = refl; splits = refl; word = word; begun = record { value = c.value; reads = c.reads } }

started : {A : Type 0} (r : Rx A) (t : Lexeme) (behind : List Lexeme) → starts r t.class ≡ true → (o : Out A) → Good r (t ∷ []) o → Begun r (t ∷ behind) (t ∷ behind)
started r t behind b (Ok p) x =
    let f : x.front ≡ t ∷ [] = front_one t x.front p.1 x.splits (λ n. clash b (subst (λ z. starts r (look z) ≡ false) (sym (x.splits ∙ ap (λ z. z ++ p.1) n)) (x.early n))) in
    at_start r t behind [] (record { value = p.0; reads = λ rest q. subst (λ z. Reads_with Reads r (z ++ rest) p.0 rest) f (x.reads rest (inr q)) })
started r t behind b (Err (unfit at)) x =
    let f : x.front ≡ t ∷ [] = front_one t x.front at x.splits (λ n. clash b (subst (λ z. starts r (look z) ≡ false) (sym (x.splits ∙ ap (λ z. z ++ at) n)) (x.early n).0)) in
    at_start r t behind x.word (record { value = x.begun.value; reads = λ rest q. subst (λ z. Reads_with Reads r (z ++ (x.word ++ rest)) x.begun.value rest) f (x.begun.reads rest q) })
started r t behind b (Err (too_deep at)) x =
    let f : x.front ++ x.token ∷ [] ≡ t ∷ [] = deep_one t x.front x.token x.behind (x.splits ∙ ap (λ z. x.front ++ z) x.is_at) in
    at_start r t behind x.word (record { value = x.begun.value; reads = λ rest q. subst (λ z. Reads_with Reads r (z ++ (x.word ++ rest)) x.begun.value rest) f (x.begun.reads rest q) })

no_front : (front mid : List Lexeme) → [] ≡ front ++ mid → (front ≡ []) × (mid ≡ [])
no_front [] mid e = (refl, sym e)
no_front (t ∷ front) mid e = cc

none_starts : {A : Type 0} (r : Rx A) → starts r (look []) ≡ true → (o : Out A) → Good r [] o → ⊥
none_starts r b (Ok p) x =
    let e = no_front x.front p.1 x.splits in
    clash b (subst (λ z. starts r (look z) ≡ false) e.1 (x.early e.0))
none_starts r b (Err (unfit at)) x =
    let e = no_front x.front at x.splits in
    clash b (subst (λ z. starts r (look z) ≡ false) e.1 (x.early e.0).0)
none_starts r b (Err (too_deep at)) x =
    let e = no_front x.front at x.splits in
    let k : [] ≡ x.token ∷ x.behind = sym e.1 ∙ x.is_at in
    cc

limited : (L : Allow) → Meets L
limited L A r f d [] b l = absurd (none_starts r b (parse_with no_limit (parse no_limit) r d []) (found no_limit free r f d []))
limited L A r f d (t ∷ behind) b l = started r t behind b (parse_with no_limit (parse no_limit) r d (t ∷ [])) (found no_limit free r f d (t ∷ []))

-- reading to a limit finds the one value, the first token that does not fit, or one that fits and opens a nesting too many
pub good_parse : (L : Allow) (n : N) (d : ℕ) (ts : List Lexeme) → Good (call n) ts (parse L n d ts)
good_parse L n d ts = good_below L (limited L) (suc (size n ts)) n d ts (omega arith)

-- ---- a rule as a chain of steps

pub then_ok : {A B : Type 0} (o : Out A) (f g : A → List Lexeme → ℕ → Out B) → ((a : A) (mid : List Lexeme) (d : ℕ) → f a mid d ≡ g a mid d) → and_then o f ≡ and_then o g
then_ok (Ok p) f g h = h p.0 p.1 p.2
then_ok (Err at) f g h = refl

inner_seq : {A B C : Type 0} (a : A) (o : Out B) (f : A × B → List Lexeme → ℕ → Out C) → and_then (and_then {B = A × B} o (λ b rest d. Ok ((a, b), rest, d))) f ≡ and_then o (λ b rest d. f (a, b) rest d)
inner_seq a (Ok q) f = refl
inner_seq a (Err at) f = refl

then_seq : {A B C : Type 0} (o : Out A) (next : ℕ → List Lexeme → Out B) (f : A × B → List Lexeme → ℕ → Out C) → and_then (and_then {B = A × B} o (λ a mid d. and_then {B = A × B} (next d mid) (λ b rest d'. Ok ((a, b), rest, d')))) f ≡ and_then o (λ a mid d. and_then (next d mid) (λ b rest d'. f (a, b) rest d'))
then_seq (Err at) next f = refl
then_seq (Ok p) next f = inner_seq p.0 (next p.2 p.1) f

then_if : {A B : Type 0} (b : Bool) (o o' : Out A) (f : A → List Lexeme → ℕ → Out B) → and_then (if b then o else o') f ≡ (if b then and_then o f else and_then o' f)
then_if true o o' f = refl
then_if false o o' f = refl

then_deeper : {A B : Type 0} (b c : Bool) (ts : List Lexeme) (o : Out A) (f : A → List Lexeme → ℕ → Out B) → and_then (deeper b c ts o) f ≡ deeper b c ts (and_then o f)
then_deeper false c ts o f = refl
then_deeper true true ts o f = refl
then_deeper true false ts o f = refl

then_map : {A B C : Type 0} (g : A → B) (o : Out A) (f : B → List Lexeme → ℕ → Out C) → and_then (and_then {B = B} o (λ a rest d. Ok (g a, rest, d))) f ≡ and_then o (λ a rest d. f (g a) rest d)
then_map g (Ok p) f = refl
then_map g (Err at) f = refl

then_scope : {A C : Type 0} (d : ℕ) (o : Out A) (f : A → List Lexeme → ℕ → Out C) → and_then (and_then {B = A} o (λ a rest d'. Ok (a, rest, d))) f ≡ and_then o (λ a rest d'. f a rest d)
then_scope d (Ok p) f = refl
then_scope d (Err at) f = refl

pub as_steps : (L : Allow) (P : Reader) {A B : Type 0} (r : Rx A) (d : ℕ) (ts : List Lexeme) (f : A → List Lexeme → ℕ → Out B) → and_then (parse_with L P r d ts) f ≡ steps_with L P r d ts f
as_steps L P eps d ts f = refl
as_steps L P no_else d ts f = then_if (same (look ts) k.Else) (Err (unfit ts)) (Ok (tt, ts, d)) f
as_steps L P (tok g c cs) d ts f = refl
as_steps L P (seq r s) d ts f =
    then_seq (parse_with L P r d ts) (parse_with L P s) f
    ∙ then_ok (parse_with L P r d ts) (λ a mid d'. and_then (parse_with L P s d' mid) (λ b rest d''. f (a, b) rest d'')) (λ a mid d'. steps_with L P s d' mid (λ b rest d''. f (a, b) rest d'')) (λ a mid d'. as_steps L P s d' mid (λ b rest d''. f (a, b) rest d''))
    ∙ as_steps L P r d ts (λ a mid d'. steps_with L P s d' mid (λ b rest d''. f (a, b) rest d''))
as_steps L P (alt r s) d ts f =
    then_if (starts r (look ts)) (parse_with L P r d ts) (parse_with L P s d ts) f
    ∙ ap (λ z. if starts r (look ts) then z else and_then (parse_with L P s d ts) f) (as_steps L P r d ts f)
    ∙ ap (λ z. if starts r (look ts) then steps_with L P r d ts f else z) (as_steps L P s d ts f)
as_steps L P (map g r) d ts f = then_map g (parse_with L P r d ts) f ∙ as_steps L P r d ts (λ a rest d'. f (g a) rest d')
as_steps L P (nest r) d ts f =
    then_deeper (starts r (look ts)) (L d) ts (parse_with L P r (d + 1) ts) f
    ∙ ap (deeper (starts r (look ts)) (L d) ts) (as_steps L P r (d + 1) ts f)
as_steps L P (scope g r) d ts f = then_scope (after_scope g d) (parse_with L P r d ts) f ∙ as_steps L P r d ts (λ a rest d'. f a rest (after_scope g d))
as_steps L P (call n) d ts f = refl

pub then_done : {A : Type 0} (o : Out A) → o ≡ and_then o (λ v rest d. Ok (v, rest, d))
then_done (Ok p) = refl
then_done (Err at) = refl

pub parse_steps : (n : N) (d : ℕ) (ts : List Lexeme) → parse limit n d ts ≡ steps n d ts
parse_steps n d ts = parse_step limit n d ts ∙ then_done (parse_with limit (parse limit) (rule n) d ts) ∙ as_steps limit (parse limit) (rule n) d ts (λ v rest d'. Ok (v, rest, d'))

-- what a rule reads, and then something else
pub fragment : {A B : Type 0} (r : Rx A) (d : ℕ) (ts : List Lexeme) (f : A → List Lexeme → ℕ → Out B) → and_then (steps_of r d ts) f ≡ steps_with limit (parse limit) r d ts f
fragment r d ts f =
    ap (λ o. and_then o f) (sym (then_done (parse_with limit (parse limit) r d ts) ∙ as_steps limit (parse limit) r d ts (λ v rest d'. Ok (v, rest, d'))))
    ∙ as_steps limit (parse limit) r d ts f
