-- A source has one tree, and what is none has one first token that does not fit.
use Rattle.std.proofs.Common.{◌≡◌, ◌⊎◌, inl, inr, ℕ, zero, suc, ◌+◌, ◌<◌, Bool, true, false, if◌then◌else◌, List, [], ◌∷◌, ◌++◌, append_assoc, append-nil, Ok, Err, refl, sym, ◌∙◌, ap, subst, arith}
use Rattle.mx_base.specs.declared.places.Place.{Place}
use Rattle.c_tokens.specs.declared.class.Class.TheVariants as k
use Rattle.c_tree.specs.declared.tree.Item.{Item}
use Rattle.c_grammar.specs.Lexemes.{Lexeme, same, look, among}
use Rattle.c_grammar.specs.Rules as n
use Rattle.c_grammar.specs.Rules.{N, Of, Rx, eps, no_else, tok, seq, alt, map, nest, scope, call, after_scope}
use Rattle.c_grammar.specs.Grammar.{rule}
use Rattle.c_grammar.specs.Reading.{Out, unfit, too_deep, Allow, and_then, starts, take_tok, parse_with, size, parse, limit}
use Rattle.c_grammar.specs.Program.{IsSource, Begins, Fails, FirstBad, place_at}
use Rattle.c_grammar.specs.SourceLaws.{SourcesHaveLevels, OneTree, SourceOrBad, BadIsNone, OneBad, OneDeep}
use Rattle.c_grammar.proofs.Good.{Calls}
use Rattle.c_grammar.proofs.Steps.{Below, calls_mono, calls_of, parse_shrinks, parse_step}
use Rattle.c_grammar.proofs.Whole.{read_all, read_only, not_left, not_stuck, left_over, stuck_at, one_more}
use Rattle.c_grammar.proofs.Deepest.{too_deep_only}
use Rattle.c_grammar.proofs.Levels.{forget, levelled}

-- ---- with no limit nothing is too deep

abbrev free : Allow
free d = true

abbrev Shallow : {A : Type 0} → Out A → Type 0
Shallow (Ok p) = Unit {0}
Shallow (Err (unfit at)) = Unit {0}
Shallow (Err (too_deep at)) = ⊥

then_shallow : {A B : Type 0} (o : Out A) (f : A → List Lexeme → ℕ → Out B) → Shallow o → ((a : A) (mid : List Lexeme) (e : ℕ) → o ≡ Ok (a, mid, e) → Shallow (f a mid e)) → Shallow (and_then o f)
then_shallow (Ok p) f x y = y p.0 p.1 p.2 refl
then_shallow (Err (unfit at)) f x y = tt
then_shallow (Err (too_deep at)) f x y = x

if_shallow : {A : Type 0} (b : Bool) (o o' : Out A) → Shallow o → Shallow o' → Shallow (if b then o else o')
if_shallow true o o' x y = x
if_shallow false o o' x y = y

shallow : {A : Type 0} (r : Rx A) (d : ℕ) (ts : List Lexeme) → Calls free (λ m e us. Shallow (parse free m e us)) (parse free) r d ts → Shallow (parse_with free (parse free) r d ts)
unfolding take_tok
shallow eps d ts x = tt
shallow no_else d ts x = if_shallow {A = Unit {0}} (same (look ts) k.Else) (Err (unfit ts)) (Ok (tt, ts, d)) tt tt
shallow (tok g c cs) d [] x = tt
shallow (tok {A} g c cs) d (t ∷ ts) x = if_shallow {A = A} (among t.class (c ∷ cs)) (Ok (g t, ts, d)) (Err (unfit (t ∷ ts))) tt tt
shallow (seq {A} {B} r s) d ts x = then_shallow {B = A × B} (parse_with free (parse free) r d ts) _ (shallow r d ts x.0) (λ a mid e eq. then_shallow {B = A × B} (parse_with free (parse free) s e mid) _ (shallow s e mid (x.1 a mid e eq)) (λ b rest e' eq'. tt))
shallow (alt r s) d ts x = if_shallow (starts r (look ts)) (parse_with free (parse free) r d ts) (parse_with free (parse free) s d ts) (shallow r d ts x.0) (shallow s d ts x.1)
shallow (map {A} {B} g r) d ts x = then_shallow {B = B} (parse_with free (parse free) r d ts) _ (shallow r d ts x) (λ a rest e eq. tt)
shallow (nest r) d ts x = if_shallow (starts r (look ts)) (parse_with free (parse free) r (d + 1) ts) (Err (unfit ts)) (shallow r (d + 1) ts x) tt
shallow (scope {A} g r) d ts x = then_shallow {B = A} (parse_with free (parse free) r d ts) _ (shallow r d ts x) (λ a rest e eq. tt)
shallow (call m) d ts x = x

shallow_below : (h : ℕ) (m : N) (d : ℕ) (ts : List Lexeme) → size m ts < h → Shallow (parse free m d ts)
shallow_below zero m d ts l = absurd (omega arith)
shallow_below (suc h) m d ts l = subst Shallow (sym (parse_step free m d ts)) (shallow (rule m) d ts (calls_mono free (Below (size m ts)) (λ m' e us. Shallow (parse free m' e us)) (parse free) (λ m' e us b. shallow_below h m' e us (omega arith)) (rule m) d ts (calls_of free (parse free) (parse_shrinks free) m d ts)))

-- ---- the laws of sources

trees : (ts : List Lexeme) (a b : List Item) → IsSource ts a → IsSource ts b → (o : Out (List Item)) → parse free n.Source 0 ts ≡ o → Shallow o → a ≡ b
trees ts a b x y (Ok p) e s = by_rest p.0 p.1 p.2 e
  where
    by_rest : (v : List Item) (rest : List Lexeme) (d : ℕ) → parse free n.Source 0 ts ≡ Ok (v, rest, d) → a ≡ b
    by_rest v [] d e = sym (read_only free ts v a d e x) ∙ read_only free ts v b d e y
    by_rest v (t ∷ rest) d e = absurd (not_left free ts v a t rest d e x)
trees ts a b x y (Err (unfit at)) e s = absurd (not_stuck free ts at a e x)
trees ts a b x y (Err (too_deep at)) e s = absurd s

pub one_tree : OneTree
one_tree ts a b x y = trees ts a b x y (parse free n.Source 0 ts) refl (shallow_below (suc (size n.Source ts)) n.Source 0 ts (omega arith))

either : (ts : List Lexeme) (end : Place) (o : Out (List Item)) → parse free n.Source 0 ts ≡ o → Shallow o → ((items : List Item) × IsSource ts items) ⊎ ((place : Place) × FirstBad ts end place)
either ts end (Ok p) e s = by_rest p.0 p.1 p.2 e
  where
    by_rest : (v : List Item) (rest : List Lexeme) (d : ℕ) → parse free n.Source 0 ts ≡ Ok (v, rest, d) → ((items : List Item) × IsSource ts items) ⊎ ((place : Place) × FirstBad ts end place)
    by_rest v [] d e = inl (v, read_all free ts v d e)
    by_rest v (t ∷ rest) d e = inr (t.place, left_over free ts v t rest d end e)
either ts end (Err (unfit at)) e s = inr (place_at at end, stuck_at free ts at end e)
either ts end (Err (too_deep at)) e s = absurd s

pub source_or_bad : SourceOrBad
source_or_bad ts end = either ts end (parse free n.Source 0 ts) refl (shallow_below (suc (size n.Source ts)) n.Source 0 ts (omega arith))

fails_none : (front at : List Lexeme) (items : List Item) → Fails front at → IsSource (front ++ at) items → ⊥
fails_none front [] items f x = f items (subst (λ z. IsSource z items) (append-nil front) x)
fails_none front (t ∷ at) items f x = f (record { more = at; items = items; is = subst (λ z. IsSource z items) (sym (one_more front at t)) x })

pub bad_is_none : BadIsNone
bad_is_none ts end place items x y = fails_none x.front x.at items x.fails (subst (λ z. IsSource z items) x.splits y)

-- what begins with more begins a source too
shorter : (front more : List Lexeme) → Begins (front ++ more) → Begins front
shorter front more x = record { more = more ++ x.more; items = x.items; is = subst (λ z. IsSource z x.items) (append_assoc front more x.more) x.is }

-- of two fronts of a text the one that fails is not the shorter one
apart : (base a b at at' : List Lexeme) (end : Place) → a ++ at ≡ b ++ at' → Begins (base ++ a) → Begins (base ++ b) → Fails (base ++ a) at → Fails (base ++ b) at' → place_at at end ≡ place_at at' end
apart base [] [] at at' end e x y f g = ap (λ z. place_at z end) e
apart base [] (t ∷ b) [] at' end e x y f g = cc
apart base [] (t ∷ b) (u ∷ at) at' end e x y f g =
    let s : t ≡ u = cc in
    let p : base ++ t ∷ b ≡ (base ++ t ∷ []) ++ b = sym (append_assoc base (t ∷ []) b) in
    absurd (f (subst Begins (ap (λ z. z ++ u ∷ []) (sym (append-nil base))) (subst (λ z. Begins (base ++ z ∷ [])) s (shorter (base ++ t ∷ []) b (subst Begins p y)))))
apart base (t ∷ a) [] at [] end e x y f g = cc
apart base (t ∷ a) [] at (u ∷ at') end e x y f g =
    let s : t ≡ u = cc in
    let p : base ++ t ∷ a ≡ (base ++ t ∷ []) ++ a = sym (append_assoc base (t ∷ []) a) in
    absurd (g (subst Begins (ap (λ z. z ++ u ∷ []) (sym (append-nil base))) (subst (λ z. Begins (base ++ z ∷ [])) s (shorter (base ++ t ∷ []) a (subst Begins p x)))))
apart base (t ∷ a) (u ∷ b) at at' end e x y f g =
    let s : u ≡ t = cc in
    let p : base ++ t ∷ a ≡ (base ++ t ∷ []) ++ a = sym (append_assoc base (t ∷ []) a) in
    let q : base ++ u ∷ b ≡ (base ++ t ∷ []) ++ b = ap (λ z. base ++ z ∷ b) s ∙ sym (append_assoc base (t ∷ []) b) in
    apart (base ++ t ∷ []) a b at at' end (rests t u (a ++ at) (b ++ at') e) (subst Begins p x) (subst Begins q y) (subst (λ z. Fails z at) p f) (subst (λ z. Fails z at') q g)
  where
    rests : (t u : Lexeme) (xs ys : List Lexeme) → t ∷ xs ≡ u ∷ ys → xs ≡ ys
    rests t u xs ys e = cc

pub one_bad : OneBad
one_bad ts end p q x y = x.here ∙ apart [] x.front y.front x.at y.at end (sym x.splits ∙ y.splits) x.begins y.begins x.fails y.fails ∙ sym y.here

stop : Out (List Item) → List Lexeme
stop (Ok p) = []
stop (Err (unfit at)) = []
stop (Err (too_deep at)) = at

first_place : (t u : Lexeme) (a b : List Lexeme) → t ∷ a ≡ u ∷ b → t.place ≡ u.place
first_place t u a b e = let i : t ≡ u = cc in ap (λ z. z.place) i

stop_place : (t u : Lexeme) (a b : List Lexeme) (o : Out (List Item)) → o ≡ Err (too_deep (t ∷ a)) → o ≡ Err (too_deep (u ∷ b)) → t.place ≡ u.place
unfolding stop
stop_place t u a b o e f = first_place t u a b (sym (ap stop e) ∙ ap stop f)

pub one_deep : OneDeep
one_deep ts p q x y = x.here ∙ stop_place x.token y.token x.behind y.behind (parse limit n.Source 0 ts) (too_deep_only ts p x) (too_deep_only ts q y) ∙ sym y.here

pub sources_have_levels : SourcesHaveLevels
sources_have_levels ts items = (
  λ x.
      let l = levelled n.Source 0 ts items [] x in
      (l.1, record { after = l.0; nests = l.2 }),
  λ x. forget (call n.Source) 0 ts items [] x.1.after x.0 x.1.nests,
)
