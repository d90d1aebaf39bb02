-- What expressions do as whole statements.
use Rattle.std.proofs.Common.{◌≡◌, ℕ, ◌+◌, Bool, true, false, true≢false, None, List, refl, sym, ap, ◌∙◌}
use Rattle.mx_base.specs.declared.numbers.IntKind.{IntKind}
use Rattle.mx_base.specs.declared.places.Place.{Place}
use Rattle.mx_base.specs.declared.operators.Arithmetic.{Arithmetic}
use Rattle.c_tree.specs.declared.operators.UnaryOp.{UnaryOp}
use Rattle.c_tree.specs.declared.operators.UnaryOp.TheVariants as u
use Rattle.c_tree.specs.declared.operators.BinaryOp.{BinaryOp}
use Rattle.c_tree.specs.declared.tree.Base.{Base}
use Rattle.c_tree.specs.declared.tree.Expr.{Expr}
use Rattle.c_tree.specs.declared.tree.ExprKind.TheVariants as v
use Rattle.c_types.specs.Types.{CType, Void, Int, Pointer, Array, Struct, StructType}
use Rattle.c_check_rules.specs.declared.predeclared.Bind.{Bind}
use Rattle.c_check_rules.specs.declared.predeclared.Bind.TheVariants.{Global, Local, Fun, Service, Builtin}
use Rattle.bounds_plan.specs.meaning.Core.{Effect, Scalar}
use Rattle.bounds_plan.specs.elaboration.Scalars.{scalars_of}
use Rattle.bounds_plan.specs.elaboration.Types.{Sort, ANumber, APointer, AWhole, NoValue, sort_of, is_array}
use Rattle.bounds_plan.specs.elaboration.Places.{struct_of}
use Rattle.bounds_plan.specs.elaboration.Source.{Reached, Around}
use Rattle.bounds_plan.specs.elaboration.Expressions.{Found, effect_of, named, unary, struct_copied, assigned, assignment_effect, expression}
use Rattle.steps_facts.specs.declared.seen.Sorted.{Sorted}
use Rattle.steps_facts.specs.declared.seen.Sorted.TheVariants as o
use Rattle.steps_facts.specs.Seen.{SeenOf, sorted, seen_in}
use Rattle.steps_pieces.specs.Own.{single_own}
use Rattle.steps_pieces.specs.Put.{Put, added, went}
use Rattle.steps_filling.specs.Effects.{went_effect}
use Rattle.steps_filling.specs.Parts.{copying}
use Rattle.c_look.proofs.Expressions.{is_number, is_text, is_name, is_unary, is_binary, is_assign, is_step, is_cond, is_call, is_index, is_member, is_arrow, is_cast, is_size, is_sizeof}
use Rattle.c_emit_initialisers.proofs.OneLemmas.{effect_value, place_address, copied_walk}
use Rattle.c_emit_statements.specs.Bodies.{IsEvaluated, whole_sort}

-- ---- by form

abbrev Evaluated : Found → Type 0
Evaluated f = f.effect ≡ effect_of f.value

by_form : (f g : Found) → f ≡ g → Evaluated g → Evaluated f
by_form f g is h = ap (λ (z : Found). z.effect) is ∙ h ∙ sym (ap (λ (z : Found). effect_of z.value) is)

pub does_number : (e : Expr) (n : ℕ) (k : IntKind) → e.kind ≡ v.Number n k → IsEvaluated e
does_number e n k is around r = by_form _ _ (is_number e n k around r is) refl

pub does_text : (e : Expr) (all : List ℕ) → e.kind ≡ v.Text all → IsEvaluated e
does_text e all is around r = by_form _ _ (is_text e all around r is) refl

named_does : (around : Around) (t : CType) (b : Bind) (p : Place) (r : Reached) → Evaluated (named around t b p r)
named_does around t (Global n) p r = refl
named_does around t (Local n) p r = refl
named_does around t (Fun n) p r = refl
named_does around t (Service n) p r = refl
named_does around t (Builtin n) p r = refl

pub does_name : (e : Expr) (name : List ℕ) → e.kind ≡ v.Var name → IsEvaluated e
does_name e name is around r = by_form _ _ (is_name e name around r is) (named_does around _ _ e.place _)

unary_does : (op : UnaryOp) (t : CType) (a : Found) (p : Place) (r : Reached) → Evaluated (unary op t a p r)
unary_does u.Neg t a p r = refl
unary_does u.BitNot t a p r = refl
unary_does u.Not t a p r = refl
unary_does u.Deref t a p r = refl
unary_does u.AddressOf t a p r = refl

pub does_unary : (e : Expr) (op : UnaryOp) (a : Expr) → e.kind ≡ v.Unary op a → IsEvaluated e
does_unary e op a is around r = by_form _ _ (is_unary e op a around r is) (unary_does op _ (expression a around r) e.place _)

pub does_binary : (e : Expr) (op : BinaryOp) (a b : Expr) → e.kind ≡ v.Binary op a b → IsEvaluated e
does_binary e op a b is around r = by_form _ _ (is_binary e op a b around r is) refl

pub does_step : (e : Expr) (up before : Bool) (a : Expr) → e.kind ≡ v.StepBy up before a → IsEvaluated e
does_step e up before a is around r = by_form _ _ (is_step e up before a around r is) refl

pub does_cond : (e c a b : Expr) → e.kind ≡ v.Cond c a b → IsEvaluated e
does_cond e c a b is around r = by_form _ _ (is_cond e c a b around r is) refl

pub does_call : (e : Expr) (name : List ℕ) (es : List Expr) → e.kind ≡ v.Call name es → IsEvaluated e
does_call e name es is around r = by_form _ _ (is_call e name es around r is) refl

pub does_index : (e a i : Expr) → e.kind ≡ v.Index a i → IsEvaluated e
does_index e a i is around r = by_form _ _ (is_index e a i around r is) refl

pub does_member : (e a : Expr) (name : List ℕ) → e.kind ≡ v.Member a name → IsEvaluated e
does_member e a name is around r = by_form _ _ (is_member e a name around r is) refl

pub does_arrow : (e a : Expr) (name : List ℕ) → e.kind ≡ v.Arrow a name → IsEvaluated e
does_arrow e a name is around r = by_form _ _ (is_arrow e a name around r is) refl

pub does_cast : (e : Expr) (base : Base) (stars : ℕ) (a : Expr) → e.kind ≡ v.Cast base stars a → IsEvaluated e
does_cast e base stars a is around r = by_form _ _ (is_cast e base stars a around r is) refl

pub does_size : (e : Expr) (base : Base) (stars : ℕ) → e.kind ≡ v.SizeOfKind base stars → IsEvaluated e
does_size e base stars is around r = by_form _ _ (is_size e base stars around r is) refl

pub does_sizeof : (e a : Expr) → e.kind ≡ v.SizeOfValue a → IsEvaluated e
does_sizeof e a is around r = by_form _ _ (is_sizeof e a around r is) refl

-- ---- what is evaluated, and what is copied

evaluated_went : (f : Found) (d : ℕ) (s : Put) → Evaluated f → went_effect f.effect d s ≡ went false f d s
unfolding went
evaluated_went f d s h = ap (λ (z : Effect). went_effect z d s) h ∙ effect_value f.value d s

pub evaluated_walk : (f : Found) (d : ℕ) (s0 s1 : Put) → f.effect ≡ effect_of f.value → s1 ≡ went false f d s0 → s1 ≡ went_effect f.effect d s0
evaluated_walk f d s0 s1 h g = g ∙ sym (evaluated_went f d s0 h)

assigned_effect : (k : Sort) (structs : List StructType) (a b : Found) → whole_sort (sorted k) ≡ false → assignment_effect k structs a b ≡ effect_of (assigned a b)
assigned_effect (ANumber kind) structs a b h = refl
assigned_effect APointer structs a b h = refl
assigned_effect AWhole structs a b h = absurd (true≢false h)
assigned_effect NoValue structs a b h = refl

-- an assignment of no struct
pub assigned_does : (e a b : Expr) (around : Around) (r : Reached) (k : Sorted) → e.kind ≡ v.Assign None a b → k ≡ sorted (sort_of (expression a around r).type) → whole_sort k ≡ false → (expression e around r).effect ≡ effect_of (expression e around r).value
assigned_does e a b around r k is hk h = let f = expression a around r in
    by_form _ _ (is_assign e None a b around r is) (assigned_effect (sort_of f.type) around.structs f (expression b around f.after) (ap whole_sort (sym hk) ∙ h))

-- a type of structs alone
whole_type : (t : CType) → sorted (sort_of t) ≡ o.Whole → is_array t ≡ false → Struct (struct_of t) ≡ t
whole_type Void h g = absurd (true≢false (sym (ap whole_sort h)))
whole_type (Int kind) h g = absurd (true≢false (sym (ap whole_sort h)))
whole_type (Pointer target) h g = absurd (true≢false (sym (ap whole_sort h)))
whole_type (Array element count) h g = absurd (true≢false g)
whole_type (Struct number) h g = refl

-- a struct at the place a is copied from the place b
pub copy_walk : (structs : List StructType) (a b : Found) (x y : SeenOf) (j k : Sorted) (w z : Bool) (p q : Place) (d : ℕ) (xs : List Scalar) (s0 s1 s2 s3 s4 s5 : Put)
    → sorted (sort_of a.type) ≡ o.Whole → x.facts.array ≡ false → x ≡ seen_in structs a → y ≡ seen_in structs b → xs ≡ scalars_of structs (Struct x.facts.owner)
    → s1 ≡ went true a d s0 → s2 ≡ added (single_own u.AddressOf x j w p d) s1 → s3 ≡ went true b (d + 2) s2 → s4 ≡ added (single_own u.AddressOf y k z q (d + 2)) s3
    → s5 ≡ added (copying x.facts.size xs x.place y.place d) s4 → s5 ≡ went_effect (struct_copied structs a.type a.lvalue a.place b) d s0
copy_walk structs a b x y j k w z p q d xs s0 s1 s2 s3 s4 s5 hw ha hx hy hs h1 h2 h3 h4 h5 =
    copied_walk structs a.type a.lvalue a.place b y k z q x.facts.size d xs s0 s2 s3 s4 s5 hy (ap (λ (z : SeenOf). z.facts.size) hx)
    (hs ∙ ap (λ (z : SeenOf). scalars_of structs (Struct z.facts.owner)) hx ∙ ap (λ (t : CType). scalars_of structs t) (whole_type a.type hw (sym (ap (λ (z : SeenOf). z.facts.array) hx) ∙ ha)))
    (place_address structs a x j w p d s0 s1 s2 hx h1 h2) h3 h4 (h5 ∙ ap (λ (z : SeenOf). added (copying x.facts.size xs z.place y.place d) s4) hx)

pub copy_all : (around : Around) (target source : Expr) (r : Reached) (x y : SeenOf) (j k : Sorted) (w z : Bool) (p q : Place) (d : ℕ) (xs : List Scalar) (s0 s1 s2 s3 s4 s5 : Put) → let a = expression target around r in
    sorted (sort_of a.type) ≡ o.Whole → x.facts.array ≡ false → x ≡ seen_in around.structs a → y ≡ seen_in around.structs (expression source around x.after) → xs ≡ scalars_of around.structs (Struct x.facts.owner)
    → s1 ≡ went true a d s0 → s2 ≡ added (single_own u.AddressOf x j w p d) s1 → s3 ≡ went true (expression source around x.after) (d + 2) s2 → s4 ≡ added (single_own u.AddressOf y k z q (d + 2)) s3
    → s5 ≡ added (copying x.facts.size xs x.place y.place d) s4 → s5 ≡ went_effect (struct_copied around.structs a.type a.lvalue a.place (expression source around a.after)) d s0
copy_all around target source r x y j k w z p q d xs s0 s1 s2 s3 s4 s5 hw ha hx hy hs h1 h2 h3 h4 h5 = let a = expression target around r in
    copy_walk around.structs a (expression source around x.after) x y j k w z p q d xs s0 s1 s2 s3 s4 s5 hw ha hx hy hs h1 h2 h3 h4 h5
    ∙ ap (λ (n : Reached). went_effect (struct_copied around.structs a.type a.lvalue a.place (expression source around n)) d s0) (ap (λ (n : SeenOf). n.after) hx)
