-- What is seen of an expression by its form is what is seen in what it is elaborated to.
use Rattle.std.proofs.Common.{◌≡◌, ℕ, Bool, true, false, Option, None, Some, List, map, refl, sym, ap, ◌∙◌, Result, Ok, Err}
use Rattle.std.specs.Prelude.{not, slice_index_or, IfOk}
use Rattle.mx_base.specs.declared.numbers.IntKind.{IntKind}
use Rattle.mx_base.specs.declared.numbers.IntKind.TheVariants.{I32}
use Rattle.mx_base.specs.declared.operators.Arithmetic.{Arithmetic}
use Rattle.mx_base.specs.declared.places.Place.{Place}
use Rattle.c_types.specs.Types.{CType, StructType}
use Rattle.c_tree.specs.declared.tree.Base.{Base}
use Rattle.c_tree.specs.declared.tree.Expr.{Expr}
use Rattle.c_tree.specs.declared.tree.ExprKind.TheVariants as v
use Rattle.c_check_rules.specs.declared.predeclared.Bind.{Bind}
use Rattle.c_check_rules.specs.declared.predeclared.Bind.TheVariants.{Global, Local, Fun, Service, Builtin}
use Rattle.bounds_plan.specs.meaning.Core.{Word, Object}
use Rattle.bounds_plan.specs.elaboration.Types.{Value, sort_of, kind_of, given, pointer_in, size_in, step_in, number_in}
use Rattle.bounds_plan.specs.elaboration.Places.{Lvalue, InMemory, variable_of}
use Rattle.bounds_plan.specs.elaboration.Source.{Reached, Around, kind_at, bind_at, past_kind, past_name}
use Rattle.bounds_plan.specs.elaboration.Expressions.{Found, no_place, a_place, named, unary, assign_by, assigned, find_all, index, member, arrow, expression}
use Rattle.steps_facts.specs.declared.seen.Spot.TheVariants as sp
use Rattle.steps_facts.specs.Seen.{SeenOf, facts_of, is_number, spot_of, seen_in}
use Rattle.c_tree.specs.declared.operators.UnaryOp.{UnaryOp}
use Rattle.c_tree.specs.declared.operators.UnaryOp.TheVariants as u
use Rattle.c_tree.specs.declared.operators.BinaryOp.{BinaryOp}
use Rattle.steps_pieces.specs.Operators.{step_operator}
use Rattle.c_look.specs.Looks.{value_seen, place_seen, value_at, text_seen, named_seen, name_seen, part_seen, single_seen, joint_seen, changed_seen, choice_seen, cast_seen, size_seen, call_seen}
use Rattle.c_look.proofs.Expressions.{is_number as is_word, is_text, is_name, is_unary, is_binary, is_assign, is_step, is_cond, is_call, is_index, is_member, is_arrow, is_cast, is_size, is_sizeof}
use Rattle.c_look.proofs.Values.{read_number, written_number, changed_number, binary_number, chosen_number, cast_number, called_is_number}

placed : (structs : List StructType) (t : CType) (lv : Lvalue) (p : Place) (r : Reached) → seen_in structs (a_place t lv p r) ≡ place_seen (facts_of structs t) (spot_of lv) p r
placed structs t lv p r = ap (λ (n : Bool). record { facts = facts_of structs t; number = n; spot = spot_of lv; place = p; after = r }) (read_number (sort_of t) lv p)

valued : (structs : List StructType) (t : CType) (x : Value) (n : Bool) (p : Place) (r : Reached) → is_number x ≡ n → seen_in structs (no_place t x p r) ≡ value_seen (facts_of structs t) n p r
valued structs t x n p r h = ap (λ (z : Bool). value_seen (facts_of structs t) z p r) h

seen_single : (around : Around) (op : UnaryOp) (t : CType) (a : Found) (p : Place) (r : Reached) → t ≡ kind_at around r → seen_in around.structs (unary op t a p (past_kind r)) ≡ single_seen op around p r
seen_single around u.Neg t a p r h = ap (λ (z : CType). value_seen (facts_of around.structs z) true p (past_kind r)) h
seen_single around u.BitNot t a p r h = ap (λ (z : CType). value_seen (facts_of around.structs z) true p (past_kind r)) h
seen_single around u.Not t a p r h = ap (λ (z : CType). value_seen (facts_of around.structs z) true p (past_kind r)) h
seen_single around u.Deref t a p r h = placed around.structs t (InMemory (pointer_in a.value)) p (past_kind r) ∙ ap (λ (z : CType). place_seen (facts_of around.structs z) sp.Memory p (past_kind r)) h
seen_single around u.AddressOf t a p r h = ap (λ (z : CType). value_seen (facts_of around.structs z) false p (past_kind r)) h

seen_name : (around : Around) (t : CType) (b : Bind) (p : Place) (r : Reached) → seen_in around.structs (named around t b p r) ≡ named_seen around (facts_of around.structs t) b p r
seen_name around t (Global number) p r = placed around.structs t (InMemory (Object (slice_index_or around.layout.globals number 0) 0 (size_in around.structs t))) p r
seen_name around t (Local number) p r = placed around.structs t (variable_of around.structs around.variables around.stands 0 number) p r
seen_name around t (Fun number) p r = refl
seen_name around t (Service service) p r = refl
seen_name around t (Builtin builtin) p r = refl

seen_assigned : (op : Option Arithmetic) (around : Around) (a b : Found) (p : Place) (r : Reached) → seen_in around.structs (assign_by op around a b p (past_kind r)) ≡ changed_seen (seen_in around.structs a) p r
seen_assigned None around a b p r = valued around.structs a.type (assigned a b) _ p (past_kind r) (written_number (sort_of a.type) a.lvalue a.place (given a.type b.type b.value))
seen_assigned (Some op) around a b p r = valued around.structs a.type _ _ p (past_kind r)
    (changed_number (kind_of a.type) (sort_of a.type) a.lvalue a.place op (kind_of b.type) (step_in around.structs a.type) (number_in b.value) false)

-- ---- by form

pub word_law : (e : Expr) (n : ℕ) (k : IntKind) (around : Around) (r : Reached) (s : SeenOf) → e.kind ≡ v.Number n k → s ≡ value_at around true e.place r → s ≡ seen_in around.structs (expression e around r)
word_law e n k around r s is h = h ∙ sym (ap (λ (f : Found). seen_in around.structs f) (is_word e n k around r is))

pub text_law : (e : Expr) (bytes : List ℕ) (around : Around) (r : Reached) (s : SeenOf) → e.kind ≡ v.Text bytes → s ≡ text_seen around e.place r → s ≡ seen_in around.structs (expression e around r)
text_law e bytes around r s is h = h ∙ sym (ap (λ (f : Found). seen_in around.structs f) (is_text e bytes around r is))

pub name_law : (e : Expr) (name : List ℕ) (around : Around) (r : Reached) (s : SeenOf) → e.kind ≡ v.Var name → s ≡ name_seen around e.place r → s ≡ seen_in around.structs (expression e around r)
name_law e name around r s is h = h ∙ sym (ap (λ (f : Found). seen_in around.structs f) (is_name e name around r is) ∙ seen_name around (kind_at around r) (bind_at around r) e.place (past_name (past_kind r)))

pub single_law : (e : Expr) (op : UnaryOp) (a : Expr) (around : Around) (r : Reached) (x s : SeenOf) → e.kind ≡ v.Unary op a → x ≡ seen_in around.structs (expression a around r)
    → s ≡ single_seen op around e.place x.after → s ≡ seen_in around.structs (expression e around r)
single_law e op a around r x s is hx h = let f = expression a around r in
    h ∙ ap (λ (z : SeenOf). single_seen op around e.place z.after) hx
    ∙ sym (ap (λ (z : Found). seen_in around.structs z) (is_unary e op a around r is) ∙ seen_single around op (kind_at around f.after) f e.place f.after refl)

pub joint_law : (e : Expr) (op : BinaryOp) (a b : Expr) (around : Around) (r : Reached) (x y s : SeenOf) → e.kind ≡ v.Binary op a b → x ≡ seen_in around.structs (expression a around r)
    → y ≡ seen_in around.structs (expression b around x.after) → s ≡ joint_seen op around x y e.place → s ≡ seen_in around.structs (expression e around r)
joint_law e op a b around r x y s is hx hy h = let f = expression a around r in let g = expression b around f.after in
    h ∙ ap (λ (z : SeenOf). joint_seen op around x z e.place) hy ∙ ap (λ (z : SeenOf). joint_seen op around z (seen_in around.structs (expression b around z.after)) e.place) hx
    ∙ sym (ap (λ (z : Found). seen_in around.structs z) (is_binary e op a b around r is)
    ∙ valued around.structs (kind_at around g.after) _ _ e.place (past_kind g.after) (binary_number op around f g))

pub assign_law : (e : Expr) (op : Option Arithmetic) (a b : Expr) (around : Around) (r : Reached) (x y s : SeenOf) → e.kind ≡ v.Assign op a b → x ≡ seen_in around.structs (expression a around r) → y ≡ seen_in around.structs (expression b around x.after)
    → s ≡ changed_seen x e.place y.after → s ≡ seen_in around.structs (expression e around r)
assign_law e op a b around r x y s is hx hy h = let f = expression a around r in let g = expression b around f.after in
    h ∙ ap (λ (z : SeenOf). changed_seen x e.place z.after) hy ∙ ap (λ (z : SeenOf). changed_seen z e.place (expression b around z.after).after) hx
    ∙ sym (ap (λ (z : Found). seen_in around.structs z) (is_assign e op a b around r is) ∙ seen_assigned op around f g e.place g.after)

pub step_law : (e : Expr) (up before : Bool) (a : Expr) (around : Around) (r : Reached) (x s : SeenOf) → e.kind ≡ v.StepBy up before a → x ≡ seen_in around.structs (expression a around r) → s ≡ changed_seen x e.place x.after
    → s ≡ seen_in around.structs (expression e around r)
step_law e up before a around r x s is hx h = let f = expression a around r in
    h ∙ ap (λ (z : SeenOf). changed_seen z e.place z.after) hx
    ∙ sym (ap (λ (z : Found). seen_in around.structs z) (is_step e up before a around r is)
    ∙ valued around.structs f.type _ _ e.place (past_kind f.after) (changed_number (kind_of f.type) (sort_of f.type) f.lvalue f.place (step_operator up) I32 (step_in around.structs f.type) (Word 1) (not before)))

pub choice_law : (e c a b : Expr) (around : Around) (r : Reached) (x y z s : SeenOf) → e.kind ≡ v.Cond c a b → x ≡ seen_in around.structs (expression c around r) → y ≡ seen_in around.structs (expression a around x.after)
    → z ≡ seen_in around.structs (expression b around y.after) → s ≡ choice_seen around e.place z.after → s ≡ seen_in around.structs (expression e around r)
choice_law e c a b around r x y z s is hx hy hz h = let fc = expression c around r in let fa = expression a around fc.after in let fb = expression b around fa.after in
    h ∙ ap (λ (q : SeenOf). choice_seen around e.place q.after) hz ∙ ap (λ (q : SeenOf). choice_seen around e.place (expression b around q.after).after) hy
    ∙ ap (λ (q : SeenOf). choice_seen around e.place (expression b around (expression a around q.after).after).after) hx
    ∙ sym (ap (λ (q : Found). seen_in around.structs q) (is_cond e c a b around r is)
    ∙ valued around.structs (kind_at around fb.after) _ _ e.place (past_kind fb.after) (chosen_number (sort_of (kind_at around fb.after)) fc fa fb))

pub call_law : (e : Expr) (name : List ℕ) (es : List Expr) (around : Around) (r q : Reached) (s : SeenOf) → e.kind ≡ v.Call name es → q ≡ (find_all (map expression es) around r).after → s ≡ call_seen around e.place q
    → s ≡ seen_in around.structs (expression e around r)
call_law e name es around r q s is hq h = let xs = find_all (map expression es) around r in
    h ∙ ap (λ (z : Reached). call_seen around e.place z) hq
    ∙ sym (ap (λ (z : Found). seen_in around.structs z) (is_call e name es around r is)
    ∙ valued around.structs (kind_at around xs.after) _ _ e.place (past_name (past_kind xs.after)) (called_is_number around (kind_at around xs.after) (bind_at around xs.after) xs.all))

pub index_law : (e a i : Expr) (around : Around) (r : Reached) (x y s : SeenOf) → e.kind ≡ v.Index a i → x ≡ seen_in around.structs (expression a around r) → y ≡ seen_in around.structs (expression i around x.after)
    → s ≡ part_seen around e.place y.after → s ≡ seen_in around.structs (expression e around r)
index_law e a i around r x y s is hx hy h = let f = expression a around r in let g = expression i around f.after in
    h ∙ ap (λ (z : SeenOf). part_seen around e.place z.after) hy ∙ ap (λ (z : SeenOf). part_seen around e.place (expression i around z.after).after) hx
    ∙ sym (ap (λ (z : Found). seen_in around.structs z) (is_index e a i around r is) ∙ placed around.structs (kind_at around g.after) (index around (kind_at around g.after) f g) e.place (past_kind g.after))

pub member_law : (e a : Expr) (name : List ℕ) (around : Around) (r : Reached) (x s : SeenOf) → e.kind ≡ v.Member a name → x ≡ seen_in around.structs (expression a around r) → s ≡ part_seen around e.place x.after
    → s ≡ seen_in around.structs (expression e around r)
member_law e a name around r x s is hx h = let f = expression a around r in
    h ∙ ap (λ (z : SeenOf). part_seen around e.place z.after) hx
    ∙ sym (ap (λ (z : Found). seen_in around.structs z) (is_member e a name around r is) ∙ placed around.structs (kind_at around f.after) (member around (kind_at around f.after) f name) e.place (past_kind f.after))

pub arrow_law : (e a : Expr) (name : List ℕ) (around : Around) (r : Reached) (x s : SeenOf) → e.kind ≡ v.Arrow a name → x ≡ seen_in around.structs (expression a around r) → s ≡ part_seen around e.place x.after
    → s ≡ seen_in around.structs (expression e around r)
arrow_law e a name around r x s is hx h = let f = expression a around r in
    h ∙ ap (λ (z : SeenOf). part_seen around e.place z.after) hx
    ∙ sym (ap (λ (z : Found). seen_in around.structs z) (is_arrow e a name around r is) ∙ placed around.structs (kind_at around f.after) (arrow around (kind_at around f.after) f name) e.place (past_kind f.after))

pub cast_law : (e : Expr) (base : Base) (stars : ℕ) (a : Expr) (around : Around) (r : Reached) (x s : SeenOf) → e.kind ≡ v.Cast base stars a → x ≡ seen_in around.structs (expression a around r) → s ≡ cast_seen around x e.place
    → s ≡ seen_in around.structs (expression e around r)
cast_law e base stars a around r x s is hx h = let f = expression a around r in
    h ∙ ap (λ (z : SeenOf). cast_seen around z e.place) hx
    ∙ sym (ap (λ (z : Found). seen_in around.structs z) (is_cast e base stars a around r is)
    ∙ valued around.structs (kind_at around f.after) _ _ e.place (past_kind f.after) (cast_number (sort_of (kind_at around f.after)) f.type f.value))

pub size_law : (e : Expr) (base : Base) (stars : ℕ) (around : Around) (r : Reached) (s : SeenOf) → e.kind ≡ v.SizeOfKind base stars → s ≡ value_at around true e.place r → s ≡ seen_in around.structs (expression e around r)
size_law e base stars around r s is h = h ∙ sym (ap (λ (f : Found). seen_in around.structs f) (is_size e base stars around r is))

pub sizeof_law : (e a : Expr) (around : Around) (r : Reached) (x s : SeenOf) → e.kind ≡ v.SizeOfValue a → x ≡ seen_in around.structs (expression a around r) → s ≡ size_seen around x e.place r → s ≡ seen_in around.structs (expression e around r)
sizeof_law e a around r x s is hx h = h ∙ ap (λ (z : SeenOf). size_seen around z e.place r) hx ∙ sym (ap (λ (f : Found). seen_in around.structs f) (is_sizeof e a around r is))

-- what is said of a result is turned into what is wanted
pub if_ok : {T E : Type 0} (r : Result T E) (A B : T → Type 0) → ((x : T) → A x → B x) → IfOk r A → IfOk r B
if_ok (Ok x) A B f h = f x h
if_ok (Err x) A B f h = tt
