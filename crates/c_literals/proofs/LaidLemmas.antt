-- The literals of expressions by their form, and those of parts that stand one behind another.
use Rattle.std.proofs.Common.{◌≡◌, ℕ, zero, suc, ◌+◌, ◌<◌, Option, Some, refl, sym, ap, ◌∙◌, List, [], ◌∷◌, ◌++◌, map, length, take, drop, slice_index_or, slice_get, arith, rules}
use Rattle.std.proofs.lemmas.Option.{none-some}
use Rattle.std.proofs.lemmas.List.{length-append}
use Rattle.std.proofs.Math.Seq.{drop-cons}
use Rattle.mx_base.specs.declared.places.Place.{Place}
use Rattle.mx_base.specs.declared.operators.Arithmetic.{Arithmetic}
use Rattle.c_tree.specs.declared.operators.UnaryOp.{UnaryOp}
use Rattle.c_tree.specs.declared.operators.BinaryOp.{BinaryOp}
use Rattle.c_tree.specs.declared.tree.Expr.{Expr, the_lemmas}
use Rattle.c_tree.specs.declared.tree.ExprKind.{ExprKind}
use Rattle.c_tree.specs.declared.tree.ExprKind.TheVariants as v
use Rattle.c_accepted.specs.Literals.{text_sizes, joined}
use Rattle.c_literals.specs.declared.literals.Literals.{Literals}
use Rattle.c_literals.specs.Laid.{none, with_literal, with_literals}

pub both_laid : (l : Literals) (a b : List ℕ) → with_literals (with_literals l a) b ≡ with_literals l (a ++ b)
both_laid l [] b = refl
both_laid l (size ∷ more) b = both_laid (with_literal l size) more b

-- ---- by form

sizes_at : Place → ExprKind → List ℕ
sizes_at p k = text_sizes (record { place = p; kind = k })

by_kind : (x : Expr) (k : ExprKind) → x.kind ≡ k → text_sizes x ≡ sizes_at x.place k
unfolding sizes_at
by_kind x k is = ap (λ (z : ExprKind). sizes_at x.place z) is

binary_at : (p : Place) (op : BinaryOp) (a b : Expr) → sizes_at p (v.Binary op a b) ≡ text_sizes a ++ text_sizes b
unfolding sizes_at
binary_at p op a b = search (rules, the_lemmas)

assign_at : (p : Place) (op : Option Arithmetic) (a b : Expr) → sizes_at p (v.Assign op a b) ≡ text_sizes a ++ text_sizes b
unfolding sizes_at
assign_at p op a b = search (rules, the_lemmas)

cond_at : (p : Place) (test a b : Expr) → sizes_at p (v.Cond test a b) ≡ text_sizes test ++ (text_sizes a ++ text_sizes b)
unfolding sizes_at
cond_at p test a b = search (rules, the_lemmas)

index_at : (p : Place) (a i : Expr) → sizes_at p (v.Index a i) ≡ text_sizes a ++ text_sizes i
unfolding sizes_at
index_at p a i = search (rules, the_lemmas)

pub binary_sizes : (x : Expr) (op : BinaryOp) (a b : Expr) → x.kind ≡ v.Binary op a b → text_sizes x ≡ text_sizes a ++ text_sizes b
binary_sizes x op a b is = by_kind x (v.Binary op a b) is ∙ binary_at x.place op a b

pub assign_sizes : (x : Expr) (op : Option Arithmetic) (a b : Expr) → x.kind ≡ v.Assign op a b → text_sizes x ≡ text_sizes a ++ text_sizes b
assign_sizes x op a b is = by_kind x (v.Assign op a b) is ∙ assign_at x.place op a b

pub cond_sizes : (x : Expr) (test a b : Expr) → x.kind ≡ v.Cond test a b → text_sizes x ≡ text_sizes test ++ (text_sizes a ++ text_sizes b)
cond_sizes x test a b is = by_kind x (v.Cond test a b) is ∙ cond_at x.place test a b

pub index_sizes : (x : Expr) (a i : Expr) → x.kind ≡ v.Index a i → text_sizes x ≡ text_sizes a ++ text_sizes i
index_sizes x a i is = by_kind x (v.Index a i) is ∙ index_at x.place a i

-- ---- one part behind another

pub two_laid : (sizes a b : List ℕ) (l0 l1 l2 : Literals) → sizes ≡ a ++ b → l1 ≡ with_literals l0 a → l2 ≡ with_literals l1 b → l2 ≡ with_literals l0 sizes
two_laid sizes a b l0 l1 l2 is h k = k ∙ ap (λ l. with_literals l b) h ∙ both_laid l0 a b ∙ ap (with_literals l0) (sym is)

pub three_laid : (sizes a b c : List ℕ) (l0 l1 l2 l3 : Literals) → sizes ≡ a ++ (b ++ c) → l1 ≡ with_literals l0 a → l2 ≡ with_literals l1 b → l3 ≡ with_literals l2 c → l3 ≡ with_literals l0 sizes
three_laid sizes a b c l0 l1 l2 l3 is h k m = two_laid sizes a (b ++ c) l0 l1 l3 is h (two_laid (b ++ c) b c l1 l2 l3 refl k m)

pub next_laid : (all : List Expr) (x : Expr) (i : ℕ) (l0 l1 whole : Literals) → i < length all → x ≡ slice_index_or all i x → l1 ≡ with_literals l0 (text_sizes x)
    → with_literals l0 (joined (map text_sizes (drop i all))) ≡ whole → with_literals l1 (joined (map text_sizes (drop (i + 1) all))) ≡ whole
next_laid all x i l0 l1 whole h e is w =
    let next : suc i ≡ i + 1 = omega arith in
    let rest = joined (map text_sizes (drop (i + 1) all)) in
    let on = drop-cons all i x h ∙ ap (λ y. y ∷ drop (suc i) all) (sym e) ∙ ap (λ k. x ∷ drop k all) next in
    ap (λ l. with_literals l rest) is ∙ both_laid l0 (text_sizes x) rest ∙ sym (ap (λ (xs : List Expr). with_literals l0 (joined (map text_sizes xs))) on) ∙ w

-- ---- where each one stands

got_push : (xs : List ℕ) (y k x : ℕ) → slice_get xs k ≡ Some x → slice_get (xs ++ y ∷ []) k ≡ Some x
got_push [] y k x e = absurd (none-some x e)
got_push (z ∷ zs) y zero x e = e
got_push (z ∷ zs) y (suc k) x e = got_push zs y k x e

at_push : (xs : List ℕ) (y k : ℕ) → k ≡ length xs → slice_get (xs ++ y ∷ []) k ≡ Some y
at_push [] y zero e = refl
at_push [] y (suc k) e = absurd (omega (arith, e))
at_push (z ∷ zs) y zero e = absurd (omega (arith, e))
at_push (z ∷ zs) y (suc k) e = at_push zs y k (omega (arith, e))

kept : (l : Literals) (sizes : List ℕ) (k x : ℕ) → slice_get l.offsets k ≡ Some x → slice_get (with_literals l sizes).offsets k ≡ Some x
kept l [] k x e = e
kept l (s ∷ more) k x e = kept (with_literal l s) more k x (got_push l.offsets l.end k x e)

begins : (l : Literals) (sizes : List ℕ) (n size k : ℕ) → slice_get sizes n ≡ Some size → k ≡ length l.offsets + n → slice_get (with_literals l sizes).offsets k ≡ Some (with_literals l (take n sizes)).end
begins l [] n size k e at = absurd (none-some size e)
begins l (s ∷ more) zero size k e at = kept (with_literal l s) more k l.end (at_push l.offsets l.end k (omega (arith, at)))
begins l (s ∷ more) (suc n) size k e at = let longer = length-append l.offsets (l.end ∷ []) in begins (with_literal l s) more n size k e (omega (arith, at, longer))

pub literal_begins : (sizes : List ℕ) (n size : ℕ) → slice_get sizes n ≡ Some size → slice_get (with_literals none sizes).offsets n ≡ Some (with_literals none (take n sizes)).end
literal_begins sizes n size e = begins none sizes n size n e (omega arith)

ends : (l : Literals) (sizes : List ℕ) (size : ℕ) → (with_literals l (sizes ++ size ∷ [])).end ≡ (with_literals l sizes).end + size
ends l [] size = refl
ends l (s ∷ more) size = ends (with_literal l s) more size

pub literal_ends : (sizes : List ℕ) (size : ℕ) → (with_literals none (sizes ++ size ∷ [])).end ≡ (with_literals none sizes).end + size
literal_ends sizes size = ends none sizes size
