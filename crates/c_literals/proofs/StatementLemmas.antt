-- The literals of statements by their form, and how far these go.
use Rattle.std.proofs.Common.{◌≡◌, ℕ, suc, ◌+◌, ◌<◌, Option, None, Some, refl, sym, ap, ◌∙◌, List, [], ◌∷◌, ◌++◌, map, length, drop, slice_index_or, arith, rules}
use Rattle.std.specs.Prelude.{Result, Ok, Err, IfOk, OnOk}
use Rattle.std.proofs.lemmas.List.{append-nil}
use Rattle.std.proofs.Math.Seq.{drop-cons}
use Rattle.mx_base.specs.declared.places.Place.{Place}
use Rattle.c_tree.specs.declared.tree.Decl.{Decl}
use Rattle.c_tree.specs.declared.tree.Expr.{Expr}
use Rattle.c_tree.specs.declared.tree.Init.{Init}
use Rattle.c_tree.specs.declared.tree.Stmt.{Stmt, the_lemmas}
use Rattle.c_tree.specs.declared.tree.StmtKind.{StmtKind}
use Rattle.c_tree.specs.declared.tree.StmtKind.TheVariants as v
use Rattle.c_tree.specs.declared.tree.StmtKind.TheOpen as o
use Rattle.c_types.specs.Types.{CType}
use Rattle.bounds_plan.specs.elaboration.Source.{Reached, Around, declared_at}
use Rattle.bounds_plan.specs.elaboration.Expressions.{expression}
use Rattle.bounds_plan.specs.elaboration.Initialisers.{initialiser}
use Rattle.bounds_plan.specs.elaboration.Statements.{maybe, done_by, tested_by, declared, past_counts, returned_by, all_stated}
use Rattle.c_accepted.specs.Literals.{text_sizes, joined}
use Rattle.c_accepted.specs.SourceLiterals.{maybe_sizes, init_sizes, counts_sizes, decls_sizes, declared_sizes, Listed, all_sizes, listed_step, listed}
use Rattle.c_literals.specs.declared.literals.Literals.{Literals}
use Rattle.c_literals.specs.Laid.{with_literals, variable_sizes, statings}
use Rattle.c_literals.proofs.LaidLemmas.{both_laid, two_laid, three_laid}

-- ---- by form

whole : Place → StmtKind → Listed
whole p k = listed (record { place = p; kind = k })

by_kind : (x : Stmt) (k : StmtKind) (b : Listed) → x.kind ≡ k → whole x.place k ≡ b → listed x ≡ b
unfolding whole
by_kind x k b is h = ap (λ (z : StmtKind). whole x.place z) is ∙ h

value_at : (p : Place) (value : Option Expr) → whole p (v.Value value) ≡ listed_step (o.Value value)
unfolding whole
value_at p value = search (rules, the_lemmas)

local_at : (p : Place) (d : Decl) (init : Option Init) → whole p (v.Local d init) ≡ listed_step (o.Local d init)
unfolding whole
local_at p d init = search (rules, the_lemmas)

alone_at : (p : Place) (test : Expr) (a : Stmt) → whole p (v.If test a None) ≡ listed_step (o.If test (listed a) None)
unfolding whole
alone_at p test a = search (rules, the_lemmas)

else_at : (p : Place) (test : Expr) (a b : Stmt) → whole p (v.If test a (Some b)) ≡ listed_step (o.If test (listed a) (Some (listed b)))
unfolding whole
else_at p test a b = search (rules, the_lemmas)

while_at : (p : Place) (test : Expr) (body : Stmt) → whole p (v.While test body) ≡ listed_step (o.While test (listed body))
unfolding whole
while_at p test body = search (rules, the_lemmas)

do_at : (p : Place) (body : Stmt) (test : Expr) → whole p (v.DoWhile body test) ≡ listed_step (o.DoWhile (listed body) test)
unfolding whole
do_at p body test = search (rules, the_lemmas)

for_at : (p : Place) (first test next : Option Expr) (body : Stmt) → whole p (v.For first test next body) ≡ listed_step (o.For first test next (listed body))
unfolding whole
for_at p first test next body = search (rules, the_lemmas)

break_at : (p : Place) → whole p v.Break ≡ listed_step o.Break
unfolding whole
break_at p = search (rules, the_lemmas)

continue_at : (p : Place) → whole p v.Continue ≡ listed_step o.Continue
unfolding whole
continue_at p = search (rules, the_lemmas)

return_at : (p : Place) (value : Option Expr) → whole p (v.Return value) ≡ listed_step (o.Return value)
unfolding whole
return_at p value = search (rules, the_lemmas)

block_at : (p : Place) (all : List Stmt) → whole p (v.Block all) ≡ listed_step (o.Block (map listed all))
unfolding whole
block_at p all = search (rules, the_lemmas)

-- ---- parts

pub counts_joined : (all : List Expr) → joined (map text_sizes all) ≡ counts_sizes all
counts_joined [] = refl
counts_joined (x ∷ more) = ap (λ (ys : List ℕ). text_sizes x ++ ys) (counts_joined more)

tested_after : (test : Option Expr) (around : Around) (r : Reached) → (tested_by (maybe expression test) around r).after ≡ (done_by (maybe expression test) around r).after
tested_after None around r = refl
tested_after (Some x) around r = refl

returned_after : (given : Option Expr) (around : Around) (r : Reached) → (returned_by (maybe expression given) around r).after ≡ (done_by (maybe expression given) around r).after
returned_after None around r = refl
returned_after (Some x) around r = refl

-- what holds also holds where a call succeeds
pub where_ok : {T E P : Type 0} (r : Result T E) → P → OnOk r P
where_ok (Ok x) h = h
where_ok (Err x) h = tt

pub if_ok : {T E : Type 0} (r : Result T E) (P Q : T → Type 0) → ((x : T) → P x → Q x) → IfOk r P → IfOk r Q
if_ok (Ok x) P Q f h = f x h
if_ok (Err x) P Q f h = tt

pub filled_sizes : (init : Option Init) (x : Init) (around : Around) (t : CType) (here at : Reached) (l0 l1 : Literals) → init ≡ Some x → here ≡ at → t ≡ declared_at around here
    → l1 ≡ with_literals l0 (init_sizes x around t) → l1 ≡ with_literals l0 (declared_sizes init around at)
filled_sizes init x around t here at l0 l1 is e f h = h ∙ ap (λ (z : CType). with_literals l0 (init_sizes x around z)) (f ∙ ap (λ (z : Reached). declared_at around z) e)
    ∙ sym (ap (λ (z : Option Init). with_literals l0 (declared_sizes z around at)) is)

-- ---- a statement, where its literals were laid from l0 on up to l and it goes from r to q

pub record Passed (b : Listed) (around : Around) (r q : Reached) (l0 l : Literals) : Type 0 where
  pub put : l ≡ with_literals l0 (b.0 around r)
  pub after : q ≡ (b.1 around r).after

passed_by : (x : Stmt) (b : Listed) (around : Around) (r q : Reached) (l0 l : Literals) → listed x ≡ b → Passed b around r q l0 l → Passed (listed x) around r q l0 l
passed_by x b around r q l0 l e h = record {
  put = h.put ∙ sym (ap (λ (z : Listed). with_literals l0 (z.0 around r)) e);
  after = h.after ∙ sym (ap (λ (z : Listed). (z.1 around r).after) e);
}

-- from another place that is the same
from_same : (b : Listed) (around : Around) (r s q : Reached) (l0 l : Literals) → s ≡ r → Passed b around s q l0 l → Passed b around r q l0 l
from_same b around r s q l0 l e h = record {
  put = h.put ∙ ap (λ (z : Reached). with_literals l0 (b.0 around z)) e;
  after = h.after ∙ ap (λ (z : Reached). (b.1 around z).after) e;
}

pub value_passed : (x : Stmt) (value : Option Expr) (around : Around) (r q : Reached) (l0 l : Literals) → x.kind ≡ v.Value value
    → l ≡ with_literals l0 (maybe_sizes value) → q ≡ (done_by (maybe expression value) around r).after → Passed (listed x) around r q l0 l
value_passed x value around r q l0 l is h e = passed_by x (listed_step (o.Value value)) around r q l0 l (by_kind x (v.Value value) _ is (value_at x.place value)) record { put = h; after = e }

pub return_passed : (x : Stmt) (value : Option Expr) (around : Around) (r q : Reached) (l0 l : Literals) → x.kind ≡ v.Return value
    → l ≡ with_literals l0 (maybe_sizes value) → q ≡ (done_by (maybe expression value) around r).after → Passed (listed x) around r q l0 l
return_passed x value around r q l0 l is h e = passed_by x (listed_step (o.Return value)) around r q l0 l (by_kind x (v.Return value) _ is (return_at x.place value))
    record { put = h; after = e ∙ sym (returned_after value around r) }

pub local_passed : (x : Stmt) (d : Decl) (init : Option Init) (around : Around) (r q : Reached) (l0 l : Literals) → x.kind ≡ v.Local d init
    → l ≡ with_literals l0 (variable_sizes d init around r) → q ≡ (declared (maybe (initialiser expression) init) around (past_counts expression d around r)).after → Passed (listed x) around r q l0 l
local_passed x d init around r q l0 l is h e = passed_by x (listed_step (o.Local d init)) around r q l0 l (by_kind x (v.Local d init) _ is (local_at x.place d init)) record { put = h; after = e }

pub break_passed : (x : Stmt) (around : Around) (r : Reached) (l : Literals) → x.kind ≡ v.Break → Passed (listed x) around r r l l
break_passed x around r l is = passed_by x (listed_step o.Break) around r r l l (by_kind x v.Break _ is (break_at x.place)) record { put = refl; after = refl }

pub continue_passed : (x : Stmt) (around : Around) (r : Reached) (l : Literals) → x.kind ≡ v.Continue → Passed (listed x) around r r l l
continue_passed x around r l is = passed_by x (listed_step o.Continue) around r r l l (by_kind x v.Continue _ is (continue_at x.place)) record { put = refl; after = refl }

pub alone_passed : (x : Stmt) (test : Expr) (a : Stmt) (around : Around) (r c q : Reached) (l0 l1 l2 : Literals) → x.kind ≡ v.If test a None
    → l1 ≡ with_literals l0 (text_sizes test) → c ≡ (expression test around r).after → Passed (listed a) around c q l1 l2 → Passed (listed x) around r q l0 l2
alone_passed x test a around r c q l0 l1 l2 is h e w = let at = (expression test around r).after in let u = from_same (listed a) around at c q l1 l2 e w in
    passed_by x (listed_step (o.If test (listed a) None)) around r q l0 l2 (by_kind x (v.If test a None) _ is (alone_at x.place test a)) record {
      put = two_laid _ (text_sizes test) ((listed a).0 around at) l0 l1 l2 (ap (λ (ys : List ℕ). text_sizes test ++ ys) (append-nil ((listed a).0 around at))) h u.put;
      after = u.after;
    }

pub else_passed : (x : Stmt) (test : Expr) (a b : Stmt) (around : Around) (r c d q : Reached) (l0 l1 l2 l3 : Literals) → x.kind ≡ v.If test a (Some b)
    → l1 ≡ with_literals l0 (text_sizes test) → c ≡ (expression test around r).after → Passed (listed a) around c d l1 l2 → Passed (listed b) around d q l2 l3 → Passed (listed x) around r q l0 l3
else_passed x test a b around r c d q l0 l1 l2 l3 is h e w z = let at = (expression test around r).after in let u = from_same (listed a) around at c d l1 l2 e w in
    let t = from_same (listed b) around ((listed a).1 around at).after d q l2 l3 u.after z in
    passed_by x (listed_step (o.If test (listed a) (Some (listed b)))) around r q l0 l3 (by_kind x (v.If test a (Some b)) _ is (else_at x.place test a b)) record {
      put = three_laid _ (text_sizes test) ((listed a).0 around at) ((listed b).0 around ((listed a).1 around at).after) l0 l1 l2 l3 refl h u.put t.put;
      after = t.after;
    }

pub while_passed : (x : Stmt) (test : Expr) (a : Stmt) (around : Around) (r c q : Reached) (l0 l1 l2 : Literals) → x.kind ≡ v.While test a
    → l1 ≡ with_literals l0 (text_sizes test) → c ≡ (expression test around r).after → Passed (listed a) around c q l1 l2 → Passed (listed x) around r q l0 l2
while_passed x test a around r c q l0 l1 l2 is h e w = let at = (expression test around r).after in let u = from_same (listed a) around at c q l1 l2 e w in
    passed_by x (listed_step (o.While test (listed a))) around r q l0 l2 (by_kind x (v.While test a) _ is (while_at x.place test a)) record {
      put = two_laid _ (text_sizes test) ((listed a).0 around at) l0 l1 l2 refl h u.put;
      after = u.after;
    }

pub do_passed : (x : Stmt) (a : Stmt) (test : Expr) (around : Around) (r c q : Reached) (l0 l1 l2 : Literals) → x.kind ≡ v.DoWhile a test
    → Passed (listed a) around r c l0 l1 → l2 ≡ with_literals l1 (text_sizes test) → q ≡ (expression test around c).after → Passed (listed x) around r q l0 l2
do_passed x a test around r c q l0 l1 l2 is w h e = passed_by x (listed_step (o.DoWhile (listed a) test)) around r q l0 l2 (by_kind x (v.DoWhile a test) _ is (do_at x.place a test)) record {
  put = two_laid _ ((listed a).0 around r) (text_sizes test) l0 l1 l2 refl w.put h;
  after = e ∙ ap (λ (z : Reached). (expression test around z).after) w.after;
}

pub for_passed : (x : Stmt) (first test next : Option Expr) (a : Stmt) (around : Around) (r f t n q : Reached) (l0 l1 l2 l3 l4 : Literals) → x.kind ≡ v.For first test next a
    → l1 ≡ with_literals l0 (maybe_sizes first) → f ≡ (done_by (maybe expression first) around r).after → l2 ≡ with_literals l1 (maybe_sizes test) → t ≡ (done_by (maybe expression test) around f).after
    → l3 ≡ with_literals l2 (maybe_sizes next) → n ≡ (done_by (maybe expression next) around t).after → Passed (listed a) around n q l3 l4 → Passed (listed x) around r q l0 l4
for_passed x first test next a around r f t n q l0 l1 l2 l3 l4 is hf ef ht et hn en w =
    let f' = (done_by (maybe expression first) around r).after in let t' = (tested_by (maybe expression test) around f').after in let n' = (done_by (maybe expression next) around t').after in
    let at_t = et ∙ ap (λ (z : Reached). (done_by (maybe expression test) around z).after) ef ∙ sym (tested_after test around f') in
    let at_n = en ∙ ap (λ (z : Reached). (done_by (maybe expression next) around z).after) at_t in
    let u = from_same (listed a) around n' n q l3 l4 at_n w in
    passed_by x (listed_step (o.For first test next (listed a))) around r q l0 l4 (by_kind x (v.For first test next a) _ is (for_at x.place first test next a)) record {
      put = two_laid _ (maybe_sizes first) (maybe_sizes test ++ (maybe_sizes next ++ (listed a).0 around n')) l0 l1 l4 refl hf
          (three_laid _ (maybe_sizes test) (maybe_sizes next) ((listed a).0 around n') l1 l2 l3 l4 refl ht hn u.put);
      after = u.after;
    }

-- statements one behind another
pub block_passed : (x : Stmt) (all : List Stmt) (around : Around) (r q : Reached) (l0 l : Literals) → x.kind ≡ v.Block all
    → l ≡ with_literals l0 (all_sizes (map listed all) around r) → q ≡ (all_stated (statings all) around r).after → Passed (listed x) around r q l0 l
block_passed x all around r q l0 l is h e = passed_by x (listed_step (o.Block (map listed all))) around r q l0 l (by_kind x (v.Block all) _ is (block_at x.place all)) record { put = h; after = e }

-- ---- loops: what is left has the literals that are left

pub decls_laid : (all : List Decl) (d : Decl) (i : ℕ) (l0 l1 wanted : Literals) → i < length all → d ≡ slice_index_or all i d → l1 ≡ with_literals l0 (counts_sizes d.counts)
    → with_literals l0 (decls_sizes (drop i all)) ≡ wanted → with_literals l1 (decls_sizes (drop (i + 1) all)) ≡ wanted
decls_laid all d i l0 l1 wanted h e is w =
    let next : suc i ≡ i + 1 = omega arith in
    let rest = decls_sizes (drop (i + 1) all) in
    let on = drop-cons all i d h ∙ ap (λ y. y ∷ drop (suc i) all) (sym e) ∙ ap (λ k. d ∷ drop k all) next in
    ap (λ (l : Literals). with_literals l rest) is ∙ both_laid l0 (counts_sizes d.counts) rest ∙ sym (ap (λ (xs : List Decl). with_literals l0 (decls_sizes xs)) on) ∙ w

-- statements that stand from r on have these literals, laid from l on, and go as far as `end`
pub record Left (all : List Stmt) (around : Around) (r end : Reached) (l wanted : Literals) : Type 0 where
  pub put : with_literals l (all_sizes (map listed all) around r) ≡ wanted
  pub after : (all_stated (statings all) around r).after ≡ end

pub left_next : (all : List Stmt) (x : Stmt) (i : ℕ) (around : Around) (r q end : Reached) (l0 l1 wanted : Literals) → i < length all → x ≡ slice_index_or all i x
    → l1 ≡ with_literals l0 ((listed x).0 around r) → q ≡ ((listed x).1 around r).after → Left (drop i all) around r end l0 wanted → Left (drop (i + 1) all) around q end l1 wanted
left_next all x i around r q end l0 l1 wanted h e is goes left =
    let next : suc i ≡ i + 1 = omega arith in
    let more = drop (i + 1) all in
    let on = drop-cons all i x h ∙ ap (λ y. y ∷ drop (suc i) all) (sym e) ∙ ap (λ k. x ∷ drop k all) next in
    let sizes = λ (z : Reached). all_sizes (map listed more) around z in record {
      put = ap (λ (z : Reached). with_literals l1 (sizes z)) goes ∙ ap (λ (l : Literals). with_literals l (sizes ((listed x).1 around r).after)) is
          ∙ both_laid l0 ((listed x).0 around r) (sizes ((listed x).1 around r).after)
          ∙ sym (ap (λ (xs : List Stmt). with_literals l0 (all_sizes (map listed xs) around r)) on) ∙ left.put;
      after = ap (λ (z : Reached). (all_stated (statings more) around z).after) goes ∙ sym (ap (λ (xs : List Stmt). (all_stated (statings xs) around r).after) on) ∙ left.after;
    }
