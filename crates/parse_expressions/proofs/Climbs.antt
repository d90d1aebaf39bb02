-- Operands with operators of several levels between them, read in one go.
use Rattle.std.proofs.Common.{◌≡◌, ◌⊎◌, ℕ, zero, suc, ◌<◌, ◌≤◌, ◌+◌, Bool, true, false, ◌||◌, if◌then◌else◌, List, [], ◌∷◌, Ok, Err, refl, sym, ◌∙◌, ap, subst, arith, inl, inr}
use Rattle.std.proofs.Math.Nat.{eq-or-lt_of_le}
use Rattle.c_grammar.specs.declared.parts.Operand.{Operand}
use Rattle.c_grammar.specs.declared.parts.Mark.{Mark}
use Rattle.c_grammar.specs.declared.parts.Level.TheVariants as l
use Rattle.c_grammar.specs.Lexemes.{Lexeme, look, among}
use Rattle.c_grammar.specs.Nodes as made
use Rattle.c_grammar.specs.Rules as n
use Rattle.c_grammar.specs.Grammar.{first_of, others_of}
use Rattle.c_grammar.specs.Reading.{Out, Halt, too_deep, deeper, and_then, take_tok, parse, steps, limit}
use Rattle.c_grammar.proofs.Steps.{parse_steps}
use Rattle.parse_expressions.specs.Gives.{through}
use Rattle.parse_expressions.specs.Levels.{level_at, is_operator, is_within, sides}

then_done : {A : Type 0} (o : Out A) → and_then o (λ v rest d. Ok (v, rest, d)) ≡ o
then_done (Ok p) = refl
then_done (Err at) = refl

-- what is between operators of the level of this number
abbrev Side : ℕ → ℕ → List Lexeme → Type 0
Side m d ts = parse limit (n.Side (level_at m)) d ts ≡ sides m d ts

side_is : (m d : ℕ) (ts : List Lexeme) → m < 10 → Side m d ts
side_is zero d ts h = parse_steps (n.Side l.Product) d ts ∙ then_done (parse limit n.Unary d ts)
side_is (suc zero) d ts h = parse_steps (n.Side l.Sum) d ts ∙ then_done (parse limit (n.Binary l.Product) d ts)
side_is (suc (suc zero)) d ts h = parse_steps (n.Side l.Shift) d ts ∙ then_done (parse limit (n.Binary l.Sum) d ts)
side_is (suc (suc (suc zero))) d ts h = parse_steps (n.Side l.Order) d ts ∙ then_done (parse limit (n.Binary l.Shift) d ts)
side_is (suc (suc (suc (suc zero)))) d ts h = parse_steps (n.Side l.Equality) d ts ∙ then_done (parse limit (n.Binary l.Order) d ts)
side_is (suc (suc (suc (suc (suc zero))))) d ts h = parse_steps (n.Side l.BitAnd) d ts ∙ then_done (parse limit (n.Binary l.Equality) d ts)
side_is (suc (suc (suc (suc (suc (suc zero)))))) d ts h = parse_steps (n.Side l.BitXor) d ts ∙ then_done (parse limit (n.Binary l.BitAnd) d ts)
side_is (suc (suc (suc (suc (suc (suc (suc zero))))))) d ts h = parse_steps (n.Side l.BitOr) d ts ∙ then_done (parse limit (n.Binary l.BitXor) d ts)
side_is (suc (suc (suc (suc (suc (suc (suc (suc zero)))))))) d ts h = parse_steps (n.Side l.Both) d ts ∙ then_done (parse limit (n.Binary l.BitOr) d ts)
side_is (suc (suc (suc (suc (suc (suc (suc (suc (suc zero))))))))) d ts h = parse_steps (n.Side l.Either) d ts ∙ then_done (parse limit (n.Binary l.Both) d ts)
side_is (suc (suc (suc (suc (suc (suc (suc (suc (suc (suc m)))))))))) d ts h = absurd (omega arith)

-- operators of the level of this number, with operands after them
tail : ℕ → Operand → ℕ → List Lexeme → Out Operand
tail m v d ts = through (λ (f : Operand → Operand). f v) (parse limit (n.BinaryTail (level_at m)) d ts)

-- what stands after an operand, of the first so many levels
pub climbs : ℕ → Operand → ℕ → List Lexeme → Out Operand
climbs zero left d ts = Ok (left, ts, d)
climbs (suc m) left d ts = and_then (climbs m left d ts) (λ v mid d'. tail m v d' mid)

then_assoc : {A B C : Type 0} (o : Out A) (f : A → List Lexeme → ℕ → Out B) (g : B → List Lexeme → ℕ → Out C) → and_then (and_then o f) g ≡ and_then o (λ a mid d. and_then (f a mid d) g)
then_assoc (Ok p) f g = refl
then_assoc (Err at) f g = refl

then_same : {A B : Type 0} (o : Out A) (f g : A → List Lexeme → ℕ → Out B) → ((a : A) (mid : List Lexeme) (d : ℕ) → f a mid d ≡ g a mid d) → and_then o f ≡ and_then o g
then_same (Ok p) f g h = h p.0 p.1 p.2
then_same (Err at) f g h = refl

binary_is : (m d : ℕ) (ts : List Lexeme) → m < 10 → parse limit (n.Binary (level_at m)) d ts ≡ and_then (sides m d ts) (λ v mid d'. tail m v d' mid)
unfolding tail
binary_is m d ts h = parse_steps (n.Binary (level_at m)) d ts ∙ ap (λ o. and_then o (λ v mid d'. through (λ (f : Operand → Operand). f v) (parse limit (n.BinaryTail (level_at m)) d' mid))) (side_is m d ts h)

-- operands and operators are an operand and what stands after it
all_climb : (m d : ℕ) (ts : List Lexeme) → m ≤ 10 → sides m d ts ≡ and_then (parse limit n.Unary d ts) (λ v mid d'. climbs m v d' mid)
unfolding climbs
all_climb zero d ts h = sym (then_done (parse limit n.Unary d ts))
all_climb (suc m) d ts h =
    binary_is m d ts (omega arith)
    ∙ ap (λ o. and_then o (λ v mid d'. tail m v d' mid)) (all_climb m d ts (omega arith))
    ∙ then_assoc (parse limit n.Unary d ts) (λ v mid d'. climbs m v d' mid) (λ v mid d'. tail m v d' mid)

pub climb_begins : (m d d' : ℕ) (ts mid : List Lexeme) (v : Operand) → parse limit n.Unary d ts ≡ Ok (v, mid, d') → m ≤ 10 → sides m d ts ≡ climbs m v d' mid
climb_begins m d d' ts mid v e h = all_climb m d ts h ∙ ap (λ o. and_then o (λ v mid d'. climbs m v d' mid)) e

pub climb_stops : (m d : ℕ) (ts : List Lexeme) (at : Halt) → parse limit n.Unary d ts ≡ Err at → m ≤ 10 → sides m d ts ≡ Err at
climb_stops m d ts at e h = all_climb m d ts h ∙ ap (λ o. and_then o (λ v mid d'. climbs m v d' mid)) e

-- ---- no operator comes next

neither_left : (a b : Bool) → (a || b) ≡ false → a ≡ false
neither_left false b e = refl
neither_left true b e = e

neither_right : (a b : Bool) → (a || b) ≡ false → b ≡ false
neither_right false b e = e
neither_right true b e = absurd (cc)

tail_none : (m d : ℕ) (ts : List Lexeme) (v : Operand) → is_operator m (look ts) ≡ false → tail m v d ts ≡ Ok (v, ts, d)
unfolding tail
tail_none m d ts v e =
    let q : parse limit (n.BinaryTail (level_at m)) d ts ≡ Ok ((λ left. left), ts, d) = parse_steps (n.BinaryTail (level_at m)) d ts ∙ rw e refl in
    ap (through (λ (f : Operand → Operand). f v)) q

pub climb_none : (m d : ℕ) (ts : List Lexeme) (v : Operand) → is_within m (look ts) ≡ false → climbs m v d ts ≡ Ok (v, ts, d)
unfolding climbs
climb_none zero d ts v e = refl
climb_none (suc m) d ts v e =
    ap (λ o. and_then o (λ v mid d'. tail m v d' mid)) (climb_none m d ts v (neither_left (is_within m (look ts)) (is_operator m (look ts)) e))
    ∙ tail_none m d ts v (neither_right (is_within m (look ts)) (is_operator m (look ts)) e)

-- ---- an operator comes next

abbrev tail_steps : ℕ → Operand → ℕ → List Lexeme → Out Operand
tail_steps m v d ts =
    and_then (take_tok made.mark_of (first_of (level_at m)) (others_of (level_at m)) (d + 1) ts) (λ op mid d'.
    and_then (parse limit (n.Side (level_at m)) d' mid) (λ right rest d''.
    tail m (made.joined op v right) d'' rest))

apply_tail : (v : Operand) (o : Out Mark) (m : ℕ) → through (λ (f : Operand → Operand). f v) (and_then o (λ op mid d'. and_then (parse limit (n.Side (level_at m)) d' mid) (λ right rest d''. and_then (parse limit (n.BinaryTail (level_at m)) d'' rest) (λ f rest' e. Ok ((λ left. f (made.joined op left right)), rest', e)))))
    ≡ and_then o (λ op mid d'. and_then (parse limit (n.Side (level_at m)) d' mid) (λ right rest d''. tail m (made.joined op v right) d'' rest))
unfolding tail
apply_tail v (Err at) m = refl
apply_tail v (Ok p) m = inner v p.0 (parse limit (n.Side (level_at m)) p.2 p.1) m
  where
    last : (v right : Operand) (op : Mark) (o : Out (Operand → Operand)) → through (λ (f : Operand → Operand). f v) (and_then o (λ f rest' e. Ok ((λ left. f (made.joined op left right)), rest', e))) ≡ through (λ (f : Operand → Operand). f (made.joined op v right)) o
    last v right op (Ok p) = refl
    last v right op (Err at) = refl

    inner : (v : Operand) (op : Mark) (o : Out Operand) (m : ℕ) → through (λ (f : Operand → Operand). f v) (and_then o (λ right rest d''. and_then (parse limit (n.BinaryTail (level_at m)) d'' rest) (λ f rest' e. Ok ((λ left. f (made.joined op left right)), rest', e))))
        ≡ and_then o (λ right rest d''. through (λ (f : Operand → Operand). f (made.joined op v right)) (parse limit (n.BinaryTail (level_at m)) d'' rest))
    inner v op (Err at) m = refl
    inner v op (Ok p) m = last v p.0 op (parse limit (n.BinaryTail (level_at m)) p.2 p.1)

tail_more : (m d : ℕ) (ts : List Lexeme) (v : Operand) → is_operator m (look ts) ≡ true → limit d ≡ true → tail m v d ts ≡ tail_steps m v d ts
unfolding tail
tail_more m d ts v e h =
    let q : parse limit (n.BinaryTail (level_at m)) d ts ≡ and_then (take_tok made.mark_of (first_of (level_at m)) (others_of (level_at m)) (d + 1) ts) (λ op mid d'. and_then (parse limit (n.Side (level_at m)) d' mid) (λ right rest d''. and_then (parse limit (n.BinaryTail (level_at m)) d'' rest) (λ f rest' e. Ok ((λ left. f (made.joined op left right)), rest', e)))) = parse_steps (n.BinaryTail (level_at m)) d ts ∙ rw (e, h) refl in
    ap (through (λ (f : Operand → Operand). f v)) q ∙ apply_tail v (take_tok made.mark_of (first_of (level_at m)) (others_of (level_at m)) (d + 1) ts) m

tail_deep : (m d : ℕ) (ts : List Lexeme) (v : Operand) → is_operator m (look ts) ≡ true → limit d ≡ false → tail m v d ts ≡ Err (too_deep ts)
unfolding tail
tail_deep m d ts v e h =
    let q : parse limit (n.BinaryTail (level_at m)) d ts ≡ Err (too_deep ts) = parse_steps (n.BinaryTail (level_at m)) d ts ∙ rw (e, h) refl in
    ap (through (λ (f : Operand → Operand). f v)) q

up_last : (m d d' : ℕ) (ts rest : List Lexeme) (v w : Operand) → is_within m (look ts) ≡ false → is_within m (look rest) ≡ false → tail m v d ts ≡ tail m w d' rest → climbs (suc m) v d ts ≡ climbs (suc m) w d' rest
unfolding climbs
up_last m d d' ts rest v w a b e =
    ap (λ o. and_then o (λ v mid d'. tail m v d' mid)) (climb_none m d ts v a) ∙ e ∙ sym (ap (λ o. and_then o (λ v mid d'. tail m v d' mid)) (climb_none m d' rest w b))

up : (m k d d' : ℕ) (ts rest : List Lexeme) (v w : Operand) → k < m → is_within k (look ts) ≡ false → is_within k (look rest) ≡ false → tail k v d ts ≡ tail k w d' rest → climbs m v d ts ≡ climbs m w d' rest
unfolding climbs
up zero k d d' ts rest v w h a b e = absurd (omega arith)
up (suc m) k d d' ts rest v w h a b e = elim (eq-or-lt_of_le {n = k} {m = m} (omega arith)) [
  | inl i ↦ subst (λ z. climbs (suc z) v d ts ≡ climbs (suc z) w d' rest) i (up_last k d d' ts rest v w a b e)
  | inr i ↦ ap (λ o. and_then o (λ v mid d'. tail m v d' mid)) (up m k d d' ts rest v w i a b e)
]

up_last_stops : (m d : ℕ) (ts : List Lexeme) (v : Operand) (at : Halt) → is_within m (look ts) ≡ false → tail m v d ts ≡ Err at → climbs (suc m) v d ts ≡ Err at
unfolding climbs
up_last_stops m d ts v at a e = ap (λ o. and_then o (λ v mid d'. tail m v d' mid)) (climb_none m d ts v a) ∙ e

up_stops : (m k d : ℕ) (ts : List Lexeme) (v : Operand) (at : Halt) → k < m → is_within k (look ts) ≡ false → tail k v d ts ≡ Err at → climbs m v d ts ≡ Err at
unfolding climbs
up_stops zero k d ts v at h a e = absurd (omega arith)
up_stops (suc m) k d ts v at h a e = elim (eq-or-lt_of_le {n = k} {m = m} (omega arith)) [
  | inl i ↦ subst (λ z. climbs (suc z) v d ts ≡ Err at) i (up_last_stops k d ts v at a e)
  | inr i ↦ ap (λ o. and_then o (λ v mid d'. tail m v d' mid)) (up_stops m k d ts v at i a e)
]

-- an operator of a level, and its right side
pub climb_turn : (m k d d1 d2 : ℕ) (ts mid rest : List Lexeme) (op : Mark) (left right : Operand) → k < m → m ≤ 10 → is_within k (look ts) ≡ false → is_operator k (look ts) ≡ true → limit d ≡ true
    → take_tok made.mark_of (first_of (level_at k)) (others_of (level_at k)) (d + 1) ts ≡ Ok (op, mid, d1) → sides k d1 mid ≡ Ok (right, rest, d2) → is_within k (look rest) ≡ false
    → climbs m left d ts ≡ climbs m (made.joined op left right) d2 rest
climb_turn m k d d1 d2 ts mid rest op left right h t a o g e s b =
    let side : parse limit (n.Side (level_at k)) d1 mid ≡ Ok (right, rest, d2) = side_is k d1 mid (omega arith) ∙ s in
    up m k d d2 ts rest left (made.joined op left right) h a b (tail_more k d ts left o g ∙ rw (e, side) refl)

pub climb_right_stops : (m k d d1 : ℕ) (ts mid : List Lexeme) (op : Mark) (left : Operand) (at : Halt) → k < m → m ≤ 10 → is_within k (look ts) ≡ false → is_operator k (look ts) ≡ true → limit d ≡ true
    → take_tok made.mark_of (first_of (level_at k)) (others_of (level_at k)) (d + 1) ts ≡ Ok (op, mid, d1) → sides k d1 mid ≡ Err at
    → climbs m left d ts ≡ Err at
climb_right_stops m k d d1 ts mid op left at h t a o g e s =
    let side : parse limit (n.Side (level_at k)) d1 mid ≡ Err at = side_is k d1 mid (omega arith) ∙ s in
    up_stops m k d ts left at h a (tail_more k d ts left o g ∙ rw (e, side) refl)

pub climb_deep : (m k d : ℕ) (ts : List Lexeme) (left : Operand) → k < m → is_within k (look ts) ≡ false → is_operator k (look ts) ≡ true → limit d ≡ false → climbs m left d ts ≡ Err (too_deep ts)
climb_deep m k d ts left h a o g = up_stops m k d ts left (too_deep ts) h a (tail_deep k d ts left o g)
