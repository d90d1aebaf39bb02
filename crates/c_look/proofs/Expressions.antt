-- What an expression is elaborated to by its form.
use Rattle.std.proofs.Common.{◌≡◌, ℕ, Bool, Option, List, map, ap, ◌∙◌, rules}
use Rattle.mx_base.specs.declared.places.Place.{Place}
use Rattle.mx_base.specs.declared.numbers.IntKind.{IntKind}
use Rattle.c_tree.specs.declared.tree.Base.{Base}
use Rattle.mx_base.specs.declared.operators.Arithmetic.{Arithmetic}
use Rattle.c_tree.specs.declared.operators.UnaryOp.{UnaryOp}
use Rattle.c_tree.specs.declared.operators.BinaryOp.{BinaryOp}
use Rattle.c_tree.specs.declared.tree.Expr.{Expr, the_lemmas}
use Rattle.c_tree.specs.declared.tree.ExprKind.{ExprKind}
use Rattle.c_tree.specs.declared.tree.ExprKind.TheVariants as v
use Rattle.bounds_plan.specs.meaning.Core.{Word}
use Rattle.bounds_plan.specs.elaboration.Types.{Numeric, sort_of, cast_to}
use Rattle.bounds_plan.specs.elaboration.Source.{Reached, Around, kind_at, bind_at, past_kind, past_name}
use Rattle.bounds_plan.specs.elaboration.Expressions.{Found, no_place, a_place, literal, named, unary, binary, assign_by, stepped_by, chosen_as, find_all, called, index, member, arrow, size_word, starred, based, without_literals, expression}

-- an expression of a kind
whole : Place → ExprKind → Around → Reached → Found
whole p k around r = expression (record { place = p; kind = k }) around r

by_kind : (e : Expr) (k : ExprKind) (around : Around) (r : Reached) (f : Found) → e.kind ≡ k → whole e.place k around r ≡ f → expression e around r ≡ f
unfolding whole
by_kind e k around r f is h = ap (λ (z : ExprKind). whole e.place z around r) is ∙ h

number_at : (p : Place) (n : ℕ) (k : IntKind) (around : Around) (r : Reached) → whole p (v.Number n k) around r ≡ no_place (kind_at around r) (Numeric (Word n)) p (past_kind r)
unfolding whole
number_at p n k around r = search (rules, the_lemmas)

text_at : (p : Place) (bytes : List ℕ) (around : Around) (r : Reached) → whole p (v.Text bytes) around r ≡ literal around (kind_at around r) p bytes r
unfolding whole
text_at p bytes around r = search (rules, the_lemmas)

name_at : (p : Place) (name : List ℕ) (around : Around) (r : Reached) → whole p (v.Var name) around r ≡ named around (kind_at around r) (bind_at around r) p (past_name (past_kind r))
unfolding whole
name_at p name around r = search (rules, the_lemmas)

unary_at : (p : Place) (op : UnaryOp) (a : Expr) (around : Around) (r : Reached) → let x = expression a around r in whole p (v.Unary op a) around r ≡ unary op (kind_at around x.after) x p (past_kind x.after)
unfolding whole
unary_at p op a around r = search (rules, the_lemmas)

binary_at : (p : Place) (op : BinaryOp) (a b : Expr) (around : Around) (r : Reached) → let x = expression a around r in let y = expression b around x.after in
    whole p (v.Binary op a b) around r ≡ no_place (kind_at around y.after) (binary op around x y) p (past_kind y.after)
unfolding whole
binary_at p op a b around r = search (rules, the_lemmas)

assign_at : (p : Place) (op : Option Arithmetic) (a b : Expr) (around : Around) (r : Reached) → let x = expression a around r in let y = expression b around x.after in
    whole p (v.Assign op a b) around r ≡ assign_by op around x y p (past_kind y.after)
unfolding whole
assign_at p op a b around r = search (rules, the_lemmas)

step_at : (p : Place) (up before : Bool) (a : Expr) (around : Around) (r : Reached) → let x = expression a around r in whole p (v.StepBy up before a) around r ≡ stepped_by around up before x p (past_kind x.after)
unfolding whole
step_at p up before a around r = search (rules, the_lemmas)

cond_at : (p : Place) (c a b : Expr) (around : Around) (r : Reached) → let x = expression c around r in let y = expression a around x.after in let z = expression b around y.after in
    whole p (v.Cond c a b) around r ≡ no_place (kind_at around z.after) (chosen_as (sort_of (kind_at around z.after)) x y z) p (past_kind z.after)
unfolding whole
cond_at p c a b around r = search (rules, the_lemmas)

call_at : (p : Place) (name : List ℕ) (es : List Expr) (around : Around) (r : Reached) → let xs = find_all (map expression es) around r in
    whole p (v.Call name es) around r ≡ no_place (kind_at around xs.after) (called around (kind_at around xs.after) (bind_at around xs.after) xs.all) p (past_name (past_kind xs.after))
unfolding whole
call_at p name es around r = search (rules, the_lemmas)

index_at : (p : Place) (a i : Expr) (around : Around) (r : Reached) → let x = expression a around r in let y = expression i around x.after in
    whole p (v.Index a i) around r ≡ a_place (kind_at around y.after) (index around (kind_at around y.after) x y) p (past_kind y.after)
unfolding whole
index_at p a i around r = search (rules, the_lemmas)

member_at : (p : Place) (a : Expr) (name : List ℕ) (around : Around) (r : Reached) → let x = expression a around r in
    whole p (v.Member a name) around r ≡ a_place (kind_at around x.after) (member around (kind_at around x.after) x name) p (past_kind x.after)
unfolding whole
member_at p a name around r = search (rules, the_lemmas)

arrow_at : (p : Place) (a : Expr) (name : List ℕ) (around : Around) (r : Reached) → let x = expression a around r in
    whole p (v.Arrow a name) around r ≡ a_place (kind_at around x.after) (arrow around (kind_at around x.after) x name) p (past_kind x.after)
unfolding whole
arrow_at p a name around r = search (rules, the_lemmas)

cast_at : (p : Place) (base : Base) (stars : ℕ) (a : Expr) (around : Around) (r : Reached) → let x = expression a around r in
    whole p (v.Cast base stars a) around r ≡ no_place (kind_at around x.after) (cast_to (kind_at around x.after) x.type x.value) p (past_kind x.after)
unfolding whole
cast_at p base stars a around r = search (rules, the_lemmas)

size_at : (p : Place) (base : Base) (stars : ℕ) (around : Around) (r : Reached) → whole p (v.SizeOfKind base stars) around r ≡ no_place (kind_at around r) (size_word around (starred stars (based around base))) p (past_kind r)
unfolding whole
size_at p base stars around r = search (rules, the_lemmas)

sizeof_at : (p : Place) (a : Expr) (around : Around) (r : Reached) → let x = expression a around r in
    whole p (v.SizeOfValue a) around r ≡ no_place (kind_at around x.after) (size_word around x.type) p (past_kind (without_literals r x.after))
unfolding whole
sizeof_at p a around r = search (rules, the_lemmas)

-- ---- the same of an expression whose kind is known

pub is_number : (e : Expr) (n : ℕ) (k : IntKind) (around : Around) (r : Reached) → e.kind ≡ v.Number n k → expression e around r ≡ no_place (kind_at around r) (Numeric (Word n)) e.place (past_kind r)
is_number e n k around r is = by_kind e (v.Number n k) around r _ is (number_at e.place n k around r)

pub is_text : (e : Expr) (bytes : List ℕ) (around : Around) (r : Reached) → e.kind ≡ v.Text bytes → expression e around r ≡ literal around (kind_at around r) e.place bytes r
is_text e bytes around r is = by_kind e (v.Text bytes) around r _ is (text_at e.place bytes around r)

pub is_name : (e : Expr) (name : List ℕ) (around : Around) (r : Reached) → e.kind ≡ v.Var name → expression e around r ≡ named around (kind_at around r) (bind_at around r) e.place (past_name (past_kind r))
is_name e name around r is = by_kind e (v.Var name) around r _ is (name_at e.place name around r)

pub is_unary : (e : Expr) (op : UnaryOp) (a : Expr) (around : Around) (r : Reached) → e.kind ≡ v.Unary op a → let x = expression a around r in expression e around r ≡ unary op (kind_at around x.after) x e.place (past_kind x.after)
is_unary e op a around r is = by_kind e (v.Unary op a) around r _ is (unary_at e.place op a around r)

pub is_binary : (e : Expr) (op : BinaryOp) (a b : Expr) (around : Around) (r : Reached) → e.kind ≡ v.Binary op a b → let x = expression a around r in let y = expression b around x.after in
    expression e around r ≡ no_place (kind_at around y.after) (binary op around x y) e.place (past_kind y.after)
is_binary e op a b around r is = by_kind e (v.Binary op a b) around r _ is (binary_at e.place op a b around r)

pub is_assign : (e : Expr) (op : Option Arithmetic) (a b : Expr) (around : Around) (r : Reached) → e.kind ≡ v.Assign op a b → let x = expression a around r in let y = expression b around x.after in
    expression e around r ≡ assign_by op around x y e.place (past_kind y.after)
is_assign e op a b around r is = by_kind e (v.Assign op a b) around r _ is (assign_at e.place op a b around r)

pub is_step : (e : Expr) (up before : Bool) (a : Expr) (around : Around) (r : Reached) → e.kind ≡ v.StepBy up before a → let x = expression a around r in expression e around r ≡ stepped_by around up before x e.place (past_kind x.after)
is_step e up before a around r is = by_kind e (v.StepBy up before a) around r _ is (step_at e.place up before a around r)

pub is_cond : (e c a b : Expr) (around : Around) (r : Reached) → e.kind ≡ v.Cond c a b → let x = expression c around r in let y = expression a around x.after in let z = expression b around y.after in
    expression e around r ≡ no_place (kind_at around z.after) (chosen_as (sort_of (kind_at around z.after)) x y z) e.place (past_kind z.after)
is_cond e c a b around r is = by_kind e (v.Cond c a b) around r _ is (cond_at e.place c a b around r)

pub is_call : (e : Expr) (name : List ℕ) (es : List Expr) (around : Around) (r : Reached) → e.kind ≡ v.Call name es → let xs = find_all (map expression es) around r in
    expression e around r ≡ no_place (kind_at around xs.after) (called around (kind_at around xs.after) (bind_at around xs.after) xs.all) e.place (past_name (past_kind xs.after))
is_call e name es around r is = by_kind e (v.Call name es) around r _ is (call_at e.place name es around r)

pub is_index : (e a i : Expr) (around : Around) (r : Reached) → e.kind ≡ v.Index a i → let x = expression a around r in let y = expression i around x.after in
    expression e around r ≡ a_place (kind_at around y.after) (index around (kind_at around y.after) x y) e.place (past_kind y.after)
is_index e a i around r is = by_kind e (v.Index a i) around r _ is (index_at e.place a i around r)

pub is_member : (e a : Expr) (name : List ℕ) (around : Around) (r : Reached) → e.kind ≡ v.Member a name → let x = expression a around r in
    expression e around r ≡ a_place (kind_at around x.after) (member around (kind_at around x.after) x name) e.place (past_kind x.after)
is_member e a name around r is = by_kind e (v.Member a name) around r _ is (member_at e.place a name around r)

pub is_arrow : (e a : Expr) (name : List ℕ) (around : Around) (r : Reached) → e.kind ≡ v.Arrow a name → let x = expression a around r in
    expression e around r ≡ a_place (kind_at around x.after) (arrow around (kind_at around x.after) x name) e.place (past_kind x.after)
is_arrow e a name around r is = by_kind e (v.Arrow a name) around r _ is (arrow_at e.place a name around r)

pub is_cast : (e : Expr) (base : Base) (stars : ℕ) (a : Expr) (around : Around) (r : Reached) → e.kind ≡ v.Cast base stars a → let x = expression a around r in
    expression e around r ≡ no_place (kind_at around x.after) (cast_to (kind_at around x.after) x.type x.value) e.place (past_kind x.after)
is_cast e base stars a around r is = by_kind e (v.Cast base stars a) around r _ is (cast_at e.place base stars a around r)

pub is_size : (e : Expr) (base : Base) (stars : ℕ) (around : Around) (r : Reached) → e.kind ≡ v.SizeOfKind base stars → expression e around r ≡ no_place (kind_at around r) (size_word around (starred stars (based around base))) e.place (past_kind r)
is_size e base stars around r is = by_kind e (v.SizeOfKind base stars) around r _ is (size_at e.place base stars around r)

pub is_sizeof : (e a : Expr) (around : Around) (r : Reached) → e.kind ≡ v.SizeOfValue a → let x = expression a around r in
    expression e around r ≡ no_place (kind_at around x.after) (size_word around x.type) e.place (past_kind (without_literals r x.after))
is_sizeof e a around r is = by_kind e (v.SizeOfValue a) around r _ is (sizeof_at e.place a around r)
