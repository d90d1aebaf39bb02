-- What is seen of each form of expression, by what is seen of its parts.
use Rattle.std.proofs.Common.{ℕ, ◌≡◌, sym, ◌∙◌, ap, subst, rules, Bool, false, List, map}
use Rattle.std.specs.Prelude.{Option, Result, Err}
use Rattle.mx_base.specs.declared.places.Place.{Place}
use Rattle.mx_base.specs.declared.numbers.IntKind.{IntKind}
use Rattle.mx_base.specs.declared.operators.Arithmetic.{Arithmetic}
use Rattle.c_tree.specs.declared.operators.UnaryOp.{UnaryOp}
use Rattle.c_tree.specs.declared.operators.BinaryOp.{BinaryOp}
use Rattle.c_tree.specs.declared.tree.Base.{Base}
use Rattle.c_tree.specs.declared.tree.Expr.{Expr, the_lemmas}
use Rattle.c_tree.specs.declared.tree.ExprKind.{ExprKind}
use Rattle.c_tree.specs.declared.tree.ExprKind.TheVariants as v
use Rattle.c_check_rules.specs.declared.names.Scope.{Scope}
use Rattle.c_check_rules.specs.declared.predeclared.Found.{Found}
use Rattle.c_check_rules.specs.Names.{found_in}
use Rattle.c_check_typing.specs.declared.typed.Typed.{Typed}
use Rattle.c_check_typing.specs.declared.typed.Notes.{Notes}
use Rattle.c_check_typing.specs.declared.fault.CheckFault.{CheckFault}
use Rattle.c_check_typing.specs.Notes.{Seen, leaf, one, two, three, unevaluated, with_typed, Reads}
use Rattle.c_check_typing.specs.Rules.{number_own, text_own, name_own, unary_own, binary_own, choice_own, assign_own, step_own, index_own, member_own, arrow_own, cast_own, size_own, size_of_kind_own}
use Rattle.c_check_typing.specs.Expressions.{seen, call}

pub reads_as : {s w : Seen} {old new : Notes} {r : Result Typed CheckFault} → w ≡ s → Reads s old r new → Reads w old r new
reads_as {old = old} {new = new} {r = r} e h = subst (λ (s : Seen). Reads s old r new) (sym e) h

-- what is answered for a part is answered for the whole, where that ends so
pub stops_as : {s w : Seen} {old new : Notes} {r : Result Typed CheckFault} {x : CheckFault} → w ≡ s → Reads s old (Err x) new → r ≡ Err x → Reads w old r new
stops_as {w = w} {old = old} {new = new} e h g = subst (λ (q : Result Typed CheckFault). Reads w old q new) (sym g) (reads_as e h)

abbrev at : Place → ExprKind → Expr
at place kind = record { place = place; kind = kind }

-- an expression of this form
of_form : (x : Expr) (k : ExprKind) (f : Bool) (s : Scope) → x.kind ≡ k → seen x f s ≡ seen (at x.place k) f s
of_form x k f s e = ap (λ (j : ExprKind). seen (at x.place j) f s) e

pub number_at : (p : Place) (n : ℕ) (k : IntKind) (f : Bool) (s : Scope) → seen (at p (v.Number n k)) f s ≡ leaf p (number_own n k)
number_at p n k f s = search (rules, the_lemmas)

pub number_is : (x : Expr) (n : ℕ) (k : IntKind) (f : Bool) (s : Scope) → x.kind ≡ v.Number n k → seen x f s ≡ leaf x.place (number_own n k)
number_is x n k f s e = of_form x (v.Number n k) f s e ∙ number_at x.place n k f s

pub text_at : (p : Place) (bytes : List ℕ) (f : Bool) (s : Scope) → seen (at p (v.Text bytes)) f s ≡ leaf p (text_own bytes)
text_at p bytes f s = search (rules, the_lemmas)

pub text_is : (x : Expr) (bytes : List ℕ) (f : Bool) (s : Scope) → x.kind ≡ v.Text bytes → seen x f s ≡ leaf x.place (text_own bytes)
text_is x bytes f s e = of_form x (v.Text bytes) f s e ∙ text_at x.place bytes f s

pub name_at : (p : Place) (name : List ℕ) (f : Bool) (s : Scope) → seen (at p (v.Var name)) f s ≡ leaf p (name_own f (found_in s name))
name_at p name f s = search (rules, the_lemmas)

pub name_is : (x : Expr) (name : List ℕ) (f : Bool) (s : Scope) → x.kind ≡ v.Var name → seen x f s ≡ leaf x.place (name_own f (found_in s name))
name_is x name f s e = of_form x (v.Var name) f s e ∙ name_at x.place name f s

pub size_of_kind_at : (p : Place) (base : Base) (stars : ℕ) (f : Bool) (s : Scope) → seen (at p (v.SizeOfKind base stars)) f s ≡ leaf p (size_of_kind_own s base stars)
size_of_kind_at p base stars f s = search (rules, the_lemmas)

pub size_of_kind_is : (x : Expr) (base : Base) (stars : ℕ) (f : Bool) (s : Scope) → x.kind ≡ v.SizeOfKind base stars → seen x f s ≡ leaf x.place (size_of_kind_own s base stars)
size_of_kind_is x base stars f s e = of_form x (v.SizeOfKind base stars) f s e ∙ size_of_kind_at x.place base stars f s

pub unary_at : (p : Place) (op : UnaryOp) (a : Expr) (f : Bool) (s : Scope) → seen (at p (v.Unary op a)) f s ≡ one p (seen a false s) (λ t. with_typed t (unary_own s.structs op))
unary_at p op a f s = search (rules, the_lemmas)

pub unary_is : (x : Expr) (op : UnaryOp) (a b : Expr) (f : Bool) (s : Scope) → x.kind ≡ v.Unary op a → b ≡ a → seen x f s ≡ one x.place (seen b false s) (λ t. with_typed t (unary_own s.structs op))
unary_is x op a b f s e g = of_form x (v.Unary op a) f s e ∙ (unary_at x.place op a f s ∙ ap (λ (a : Expr). one x.place (seen a false s) (λ t. with_typed t (unary_own s.structs op))) (sym g))

pub step_by_at : (p : Place) (up : Bool) (before : Bool) (a : Expr) (f : Bool) (s : Scope) → seen (at p (v.StepBy up before a)) f s ≡ one p (seen a false s) (λ t. with_typed t (step_own s.structs))
step_by_at p up before a f s = search (rules, the_lemmas)

pub step_by_is : (x : Expr) (up : Bool) (before : Bool) (a b : Expr) (f : Bool) (s : Scope) → x.kind ≡ v.StepBy up before a → b ≡ a → seen x f s ≡ one x.place (seen b false s) (λ t. with_typed t (step_own s.structs))
step_by_is x up before a b f s e g = of_form x (v.StepBy up before a) f s e ∙ (step_by_at x.place up before a f s ∙ ap (λ (a : Expr). one x.place (seen a false s) (λ t. with_typed t (step_own s.structs))) (sym g))

pub member_at : (p : Place) (name : List ℕ) (a : Expr) (f : Bool) (s : Scope) → seen (at p (v.Member a name)) f s ≡ one p (seen a false s) (λ t. with_typed t (member_own s.structs name))
member_at p name a f s = search (rules, the_lemmas)

pub member_is : (x : Expr) (name : List ℕ) (a b : Expr) (given : List ℕ) (f : Bool) (s : Scope) → x.kind ≡ v.Member a name → b ≡ a → given ≡ name
    → seen x f s ≡ one x.place (seen b false s) (λ t. with_typed t (member_own s.structs given))
member_is x name a b given f s e g h = of_form x (v.Member a name) f s e ∙ (member_at x.place name a f s
    ∙ (ap (λ (y : Expr). one x.place (seen y false s) (λ t. with_typed t (member_own s.structs name))) (sym g)
    ∙ ap (λ (n : List ℕ). one x.place (seen b false s) (λ t. with_typed t (member_own s.structs n))) (sym h)))

pub arrow_at : (p : Place) (name : List ℕ) (a : Expr) (f : Bool) (s : Scope) → seen (at p (v.Arrow a name)) f s ≡ one p (seen a false s) (λ t. with_typed t (arrow_own s.structs name))
arrow_at p name a f s = search (rules, the_lemmas)

pub arrow_is : (x : Expr) (name : List ℕ) (a b : Expr) (given : List ℕ) (f : Bool) (s : Scope) → x.kind ≡ v.Arrow a name → b ≡ a → given ≡ name
    → seen x f s ≡ one x.place (seen b false s) (λ t. with_typed t (arrow_own s.structs given))
arrow_is x name a b given f s e g h = of_form x (v.Arrow a name) f s e ∙ (arrow_at x.place name a f s
    ∙ (ap (λ (y : Expr). one x.place (seen y false s) (λ t. with_typed t (arrow_own s.structs name))) (sym g)
    ∙ ap (λ (n : List ℕ). one x.place (seen b false s) (λ t. with_typed t (arrow_own s.structs n))) (sym h)))

pub cast_at : (p : Place) (base : Base) (stars : ℕ) (a : Expr) (f : Bool) (s : Scope) → seen (at p (v.Cast base stars a)) f s ≡ one p (seen a false s) (cast_own s base stars)
cast_at p base stars a f s = search (rules, the_lemmas)

pub cast_is : (x : Expr) (base : Base) (stars : ℕ) (a b : Expr) (f : Bool) (s : Scope) → x.kind ≡ v.Cast base stars a → b ≡ a → seen x f s ≡ one x.place (seen b false s) (cast_own s base stars)
cast_is x base stars a b f s e g = of_form x (v.Cast base stars a) f s e ∙ (cast_at x.place base stars a f s ∙ ap (λ (a : Expr). one x.place (seen a false s) (cast_own s base stars)) (sym g))

pub size_of_value_at : (p : Place) (a : Expr) (f : Bool) (s : Scope) → seen (at p (v.SizeOfValue a)) f s ≡ one p (unevaluated (seen a false s)) (λ t. with_typed t (λ t. size_own s.structs t.kind))
size_of_value_at p a f s = search (rules, the_lemmas)

pub size_of_value_is : (x : Expr) (a b : Expr) (f : Bool) (s : Scope) → x.kind ≡ v.SizeOfValue a → b ≡ a → seen x f s ≡ one x.place (unevaluated (seen b false s)) (λ t. with_typed t (λ t. size_own s.structs t.kind))
size_of_value_is x a b f s e g = of_form x (v.SizeOfValue a) f s e ∙ (size_of_value_at x.place a f s ∙ ap (λ (a : Expr). one x.place (unevaluated (seen a false s)) (λ t. with_typed t (λ t. size_own s.structs t.kind))) (sym g))

pub binary_at : (p : Place) (op : BinaryOp) (a b : Expr) (f : Bool) (s : Scope) → seen (at p (v.Binary op a b)) f s ≡ two p (seen a false s) (seen b false s) (binary_own s.structs op)
binary_at p op a b f s = search (rules, the_lemmas)

pub binary_is : (x : Expr) (op : BinaryOp) (a b d e : Expr) (f : Bool) (s : Scope) → x.kind ≡ v.Binary op a b → d ≡ a → e ≡ b → seen x f s ≡ two x.place (seen d false s) (seen e false s) (binary_own s.structs op)
binary_is x op a b d e f s h g i = of_form x (v.Binary op a b) f s h ∙ (binary_at x.place op a b f s
    ∙ (ap (λ (y : Expr). two x.place (seen y false s) (seen b false s) (binary_own s.structs op)) (sym g) ∙ ap (λ (y : Expr). two x.place (seen d false s) (seen y false s) (binary_own s.structs op)) (sym i)))

pub assign_at : (p : Place) (op : Option Arithmetic) (a b : Expr) (f : Bool) (s : Scope) → seen (at p (v.Assign op a b)) f s ≡ two p (seen a false s) (seen b false s) (assign_own s.structs op)
assign_at p op a b f s = search (rules, the_lemmas)

pub assign_is : (x : Expr) (op : Option Arithmetic) (a b d e : Expr) (f : Bool) (s : Scope) → x.kind ≡ v.Assign op a b → d ≡ a → e ≡ b → seen x f s ≡ two x.place (seen d false s) (seen e false s) (assign_own s.structs op)
assign_is x op a b d e f s h g i = of_form x (v.Assign op a b) f s h ∙ (assign_at x.place op a b f s
    ∙ (ap (λ (y : Expr). two x.place (seen y false s) (seen b false s) (assign_own s.structs op)) (sym g) ∙ ap (λ (y : Expr). two x.place (seen d false s) (seen y false s) (assign_own s.structs op)) (sym i)))

pub index_at : (p : Place) (a b : Expr) (f : Bool) (s : Scope) → seen (at p (v.Index a b)) f s ≡ two p (seen a false s) (seen b false s) (index_own s.structs)
index_at p a b f s = search (rules, the_lemmas)

pub index_is : (x : Expr) (a b d e : Expr) (f : Bool) (s : Scope) → x.kind ≡ v.Index a b → d ≡ a → e ≡ b → seen x f s ≡ two x.place (seen d false s) (seen e false s) (index_own s.structs)
index_is x a b d e f s h g i = of_form x (v.Index a b) f s h ∙ (index_at x.place a b f s
    ∙ (ap (λ (y : Expr). two x.place (seen y false s) (seen b false s) (index_own s.structs)) (sym g) ∙ ap (λ (y : Expr). two x.place (seen d false s) (seen y false s) (index_own s.structs)) (sym i)))

pub cond_at : (p : Place) (a b c : Expr) (f : Bool) (s : Scope) → seen (at p (v.Cond a b c)) f s ≡ three p (seen a false s) (seen b false s) (seen c false s) choice_own
cond_at p a b c f s = search (rules, the_lemmas)

pub cond_is : (x a b c d e g : Expr) (f : Bool) (s : Scope) → x.kind ≡ v.Cond a b c → d ≡ a → e ≡ b → g ≡ c
    → seen x f s ≡ three x.place (seen d false s) (seen e false s) (seen g false s) choice_own
cond_is x a b c d e g f s h i j k = of_form x (v.Cond a b c) f s h ∙ (cond_at x.place a b c f s
    ∙ (ap (λ (y : Expr). three x.place (seen y false s) (seen b false s) (seen c false s) choice_own) (sym i)
    ∙ (ap (λ (y : Expr). three x.place (seen d false s) (seen y false s) (seen c false s) choice_own) (sym j)
    ∙ ap (λ (y : Expr). three x.place (seen d false s) (seen e false s) (seen y false s) choice_own) (sym k))))

pub call_at : (p : Place) (name : List ℕ) (all : List Expr) (f : Bool) (s : Scope) → seen (at p (v.Call name all)) f s ≡ call p s (found_in s name) (map seen all)
call_at p name all f s = search (rules, the_lemmas)

pub call_is : (x : Expr) (name : List ℕ) (all : List Expr) (given : List ℕ) (args : List Expr) (found : Found) (f : Bool) (s : Scope)
    → x.kind ≡ v.Call name all → given ≡ name → args ≡ all → found ≡ found_in s given → seen x f s ≡ call x.place s found (map seen args)
call_is x name all given args found f s e g h i = of_form x (v.Call name all) f s e ∙ (call_at x.place name all f s
    ∙ (ap (λ (n : List ℕ). call x.place s (found_in s n) (map seen all)) (sym g)
    ∙ (ap (λ (y : Found). call x.place s y (map seen all)) (sym i) ∙ ap (λ (ys : List Expr). call x.place s found (map seen ys)) (sym h))))
