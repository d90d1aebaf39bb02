-- What the grammar relates to tokens that stand and are named is formed.
use Rattle.std.proofs.Common.{◌≡◌, inl, inr, ℕ, zero, suc, ◌+◌, ◌≤◌, arith, Bool, true, false, ◌&&◌, not, List, [], ◌∷◌, ◌++◌, map, Option, Some, None, refl, sym, ◌∙◌, ap, subst}
use Rattle.std.specs.List.{All, list_all}
use Rattle.std.proofs.lemmas.Bool.Decides.{nat_tests}
use Rattle.std.proofs.lemmas.List.Elements.{All-nil, All-cons, All-head, All-tail}
use Rattle.std.proofs.lemmas.List.Folds.{list_all-append}
use Rattle.mx_base.specs.declared.places.Place.{Place}
use Rattle.mx_base.specs.declared.numbers.IntKind.TheVariants.{I8, I32}
use Rattle.mx_base.specs.Numbers.{extended}
use Rattle.c_tokens.specs.declared.class.Class.{Class}
use Rattle.c_tokens.specs.declared.class.Class.TheVariants as k
use Rattle.c_tokens.specs.declared.numbers.Number.{Number}
use Rattle.c_tokens.specs.Numbers.{number_of}
use Rattle.c_tokens.specs.Quotes.{text_of, character_of}
use Rattle.c_tree.specs.declared.operators.UnaryOp.TheVariants as u
use Rattle.c_tree.specs.declared.tree.Base.{Base}
use Rattle.c_tree.specs.declared.tree.Base.TheVariants as b
use Rattle.c_tree.specs.declared.tree.Decl.{Decl}
use Rattle.c_tree.specs.declared.tree.Expr.{Expr}
use Rattle.c_tree.specs.declared.tree.Init.{Init}
use Rattle.c_tree.specs.declared.tree.Stmt.{Stmt}
use Rattle.c_tree.specs.declared.tree.StmtKind.TheVariants as st
use Rattle.c_tree.specs.declared.tree.Item.{Item}
use Rattle.c_tree.specs.declared.tree.ItemKind.TheVariants as it
use Rattle.c_tree.specs.Names.{is_name}
use Rattle.c_tree.specs.Formed.{stands, every, few_stars, formed_base, formed_expr, maybe_expr, formed_decl, is_empty, formed_init, maybe_init, Seen, is_branch, maybe_branch, seen_stmt, without_counts, formed_body, formed_item}
use Rattle.c_grammar.specs.declared.parts.Mark.{Mark}
use Rattle.c_grammar.specs.declared.parts.Named.{Named}
use Rattle.c_grammar.specs.declared.parts.Operand.{Operand}
use Rattle.c_grammar.specs.declared.parts.Typed.{Typed}
use Rattle.c_grammar.specs.declared.parts.KindName.{KindName}
use Rattle.c_grammar.specs.declared.parts.Declarator.{Declarator}
use Rattle.c_grammar.specs.declared.parts.InitDeclarator.{InitDeclarator}
use Rattle.c_grammar.specs.declared.parts.Level.TheVariants as l
use Rattle.c_grammar.specs.Lexemes.{Lexeme, same, among}
use Rattle.c_grammar.specs.Rules as n
use Rattle.c_grammar.specs.Rules.{N, Of, Rx, eps, no_else, tok, seq, alt, map as maps, nest, scope, call, Reads_with}
use Rattle.c_grammar.specs.Grammar.{rule, Reads_within, Reads}
use Rattle.c_grammar.specs.Nodes as made
use Rattle.c_grammar.proofs.FormedNodes as node
use Rattle.c_grammar.proofs.Words.{nothing_is_int, numbers_are_words, bytes_are_words}

-- ---- properties that rules keep

-- a token that stands, and is a name where it is read as one
pub record Sound (t : Lexeme) : Type 0 where
  pub place : stands t.place ≡ true
  pub named : same t.class k.Name ≡ true → is_name t.text ≡ true

abbrev Property : Type 1
Property = (m : N) → Of m → Type 0

-- all that a rule reads has a property, where what its names read has theirs
abbrev pub Keeps : Property → {A : Type 0} → Rx A → (A → Type 0) → Type 0
Keeps Q eps P = P tt
Keeps Q no_else P = P tt
Keeps Q (tok f c cs) P = (t : Lexeme) → Sound t → among t.class (c ∷ cs) ≡ true → P (f t)
Keeps Q (seq r s) P = Keeps Q r (λ a. Keeps Q s (λ b. P (a, b)))
Keeps Q (alt r s) P = Keeps Q r P × Keeps Q s P
Keeps Q (maps f r) P = Keeps Q r (λ a. P (f a))
Keeps Q (nest r) P = Keeps Q r P
Keeps Q (scope f r) P = Keeps Q r P
Keeps Q (call m) P = (v : Of m) → Q m v → P v

abbrev Kept : Property → ((m : N) → List Lexeme → Of m → List Lexeme → Type 0) → Type 0
Kept Q R = (m : N) (ts : List Lexeme) (v : Of m) (rest : List Lexeme) → R m ts v rest → All Sound ts → Q m v × All Sound rest

keep : (Q : Property) (R : (m : N) → List Lexeme → Of m → List Lexeme → Type 0) → Kept Q R → {A : Type 0} (r : Rx A) (P : A → Type 0) → Keeps Q r P → (ts : List Lexeme) (v : A) (rest : List Lexeme) → Reads_with R r ts v rest → All Sound ts → P v × All Sound rest
keep Q R f eps P h ts v rest x s = (h, subst (All Sound) (sym x) s)
keep Q R f no_else P h ts v rest x s = (h, subst (All Sound) (sym x.0) s)
keep Q R f (tok g c cs) P h ts v rest x s =
    let s' : All Sound (x.0 ∷ rest) = subst (All Sound) x.1 s in
    (subst P x.3 (h x.0 (All-head Sound x.0 rest s') x.2), All-tail Sound x.0 rest s')
keep Q R f (seq {A} {B} r q) P h ts v rest x s =
    let one = keep Q R f r (λ a. Keeps Q q (λ b. P (a, b))) h ts v.0 x.0 x.1 s in
    keep Q R f q (λ b. P (v.0, b)) one.0 x.0 v.1 rest x.2 one.1
keep Q R f (alt r q) P h ts v rest (inl x) s = keep Q R f r P h.0 ts v rest x s
keep Q R f (alt r q) P h ts v rest (inr x) s = keep Q R f q P h.1 ts v rest x s
keep Q R f (maps g r) P h ts v rest x s =
    let one = keep Q R f r (λ a. P (g a)) h ts x.0 rest x.1 s in
    (subst P x.2 one.0, one.1)
keep Q R f (nest r) P h ts v rest x s = keep Q R f r P h ts v rest x s
keep Q R f (scope b r) P h ts v rest x s = keep Q R f r P h ts v rest x s
keep Q R f (call m) P h ts v rest x s = let one = f m ts v rest x s in (h v one.0, one.1)

keep_within : (Q : Property) → ((m : N) → Keeps Q (rule m) (Q m)) → (h : ℕ) → Kept Q (Reads_within h)
keep_within Q f zero m ts v rest x s = absurd x
keep_within Q f (suc h) m ts v rest x s = keep Q (Reads_within h) (keep_within Q f h) (rule m) (Q m) (f m) ts v rest x s

-- ---- what each rule gives is formed

abbrev T : Bool → Type 0
T b = b ≡ true

abbrev Sides : Operand → Type 0
Sides a = T (stands a.start) × T (formed_expr a.tree)

abbrev Based : Typed → Type 0
Based t = T (stands t.start) × T (formed_base t.base)

abbrev Kind : KindName → Type 0
Kind t = T (formed_base t.base) × T (few_stars t.stars)

abbrev Name : Named → Type 0
Name name = T (stands name.place) × T (is_name name.name)

pub record Declares (d : Declarator) : Type 0 where
  pub start : T (stands d.start)
  pub stars : T (few_stars d.stars)
  pub name : T (is_name d.name)
  pub counts : T (list_all formed_expr d.counts)

abbrev Initial : InitDeclarator → Type 0
Initial d = Declares d.declarator × T (maybe_init d.init)

abbrev maybe_seen : Option Stmt → Option Seen
maybe_seen None = None
maybe_seen (Some x) = Some (seen_stmt x)

abbrev Each : {A : Type 0} → (A → Type 0) → List A → Type 0
Each P = All P

abbrev pub Formed : Property
Formed n.Source v = T (list_all formed_item v)
Formed n.External v = T (list_all formed_item v)
Formed n.AfterTag v = (start : Place) (tag : List ℕ) → T (stands start) → T (is_name tag) → T (list_all formed_item (v start tag))
Formed n.AfterName v = (start : Place) (base : Base) (stars : ℕ) (name : Named) → T (stands start) → T (formed_base base) → T (few_stars stars) → Name name → T (list_all formed_item (v start base stars name))
Formed n.Ending v = T (formed_body v)
Formed n.Parameters v = T (list_all without_counts v)
Formed n.AfterVoid v = (start : Place) → T (stands start) → T (list_all without_counts (v start))
Formed n.Parameter v = T (without_counts v)
Formed n.MoreParameters v = T (list_all without_counts v)
Formed n.Width v = T (stands v.0)
Formed n.MaybeWidth v = Unit {0}
Formed n.Integer v = T (stands v.0)
Formed n.PlainBase v = Based v
Formed n.ObjectBase v = Based v
Formed n.AnyBase v = Based v
Formed n.TypeName v = Kind v
Formed (n.Stars most) v = v ≤ most
Formed n.Member v = T (list_all formed_decl v) × T (not (is_empty v))
Formed n.Members v = T (list_all formed_decl v)
Formed n.Declared v = Declares v
Formed n.MoreDeclared v = Each Declares v
Formed n.Counts v = T (list_all formed_expr v)
Formed n.Initialised v = Initial v
Formed n.MoreInitialised v = Each Initial v
Formed n.MaybeInit v = T (maybe_init v)
Formed n.Initialiser v = T (formed_init v)
Formed n.MoreInitialisers v = T (every (map formed_init v))
Formed n.Block v = T (formed_body (Some v)) × T (is_branch (seen_stmt v))
Formed n.Statements v = T (list_all (λ x. x.formed) (map seen_stmt v))
Formed n.Statement v = T (is_branch (seen_stmt v))
Formed n.Local v = T (stands v.0) × T (list_all (λ x. x.formed) (map seen_stmt v.1))
Formed n.Branch v = T (is_branch (seen_stmt v))
Formed n.Nested v = T (is_branch (seen_stmt v))
Formed n.Condition v = T (formed_expr v)
Formed n.IfElse v = T (is_branch (seen_stmt v))
Formed n.Otherwise v = T (maybe_branch (maybe_seen v))
Formed n.WhileDo v = T (is_branch (seen_stmt v))
Formed n.DoWhile v = T (is_branch (seen_stmt v))
Formed n.ForDo v = T (is_branch (seen_stmt v))
Formed n.Returned v = T (is_branch (seen_stmt v))
Formed n.Simple v = T (is_branch (seen_stmt v))
Formed n.MaybeExpression v = T (maybe_expr v)
Formed n.Assignment v = Sides v
Formed n.AssignmentTail v = (a : Operand) → Sides a → Sides (v a)
Formed n.Conditional v = Sides v
Formed n.ConditionalTail v = (a : Operand) → Sides a → Sides (v a)
Formed (n.Side level) v = Sides v
Formed (n.Binary level) v = Sides v
Formed (n.BinaryTail level) v = (a : Operand) → Sides a → Sides (v a)
Formed n.Unary v = Sides v
Formed n.Opened v = (start : Place) → T (stands start) → Sides (v start)
Formed n.Plain v = Sides v
Formed n.Sized v = (start : Place) → T (stands start) → Sides (v start)
Formed n.SizedOpened v = (start inner : Place) → T (stands start) → T (stands inner) → Sides (v start inner)
Formed n.Atom v = Sides v
Formed n.MaybeCall v = (name : Named) → Name name → Sides (v name)
Formed n.Arguments v = T (every (map formed_expr v))
Formed n.MoreArguments v = T (every (map formed_expr v))
Formed n.Part v = (a : Operand) → Sides a → Sides (v a)
Formed n.Parts v = (a : Operand) → Sides a → Sides (v a)

-- ---- nodes

and2 : {a b : Bool} → T a → T b → T (a && b)
and2 {a = true} {b = true} p q = refl
and2 {a = true} {b = false} p q = q
and2 {a = false} {b = b} p q = cc

and3 : {a b c : Bool} → T a → T b → T c → T (a && b && c)
and3 {a = true} {b = true} {c = true} p q r = refl
and3 {a = true} {b = true} {c = false} p q r = cc
and3 {a = true} {b = false} {c = c} p q r = cc
and3 {a = false} {b = b} {c = c} p q r = cc

and4 : {a b c d : Bool} → T a → T b → T c → T d → T (a && b && c && d)
and4 {a = true} {b = true} {c = true} {d = true} p q r s = refl
and4 {a = true} {b = true} {c = true} {d = false} p q r s = cc
and4 {a = true} {b = true} {c = false} {d = d} p q r s = cc
and4 {a = true} {b = false} {c = c} {d = d} p q r s = cc
and4 {a = false} {b = b} {c = c} {d = d} p q r s = cc

few : (stars : ℕ) → stars ≤ 255 → T (few_stars stars)
few stars h = grind (arith, nat_tests, h)

prefix_ok : (p : Place) (c : Class) (a : Expr) → T (stands p) → T (formed_expr a) → T (formed_expr (record { place = p; kind = made.prefix_kind c a }))
prefix_ok p k.Tilde a s f = node.unary p u.BitNot a ∙ and2 s f
prefix_ok p k.Not a s f = node.unary p u.Not a ∙ and2 s f
prefix_ok p k.Star a s f = node.unary p u.Deref a ∙ and2 s f
prefix_ok p k.And a s f = node.unary p u.AddressOf a ∙ and2 s f
prefix_ok p k.PlusPlus a s f = node.step_by p true true a ∙ and2 s f
prefix_ok p k.MinusMinus a s f = node.step_by p false true a ∙ and2 s f
prefix_ok p _ a s f = node.unary p u.Neg a ∙ and2 s f

joined_ok : (op : Mark) (a b : Operand) → Sides a → Sides b → Sides (made.joined op a b)
joined_ok op a b x y = (x.0, node.binary a.start (made.binary_op op.class) a.tree b.tree ∙ and2 x.0 (and2 x.1 y.1))

assigned_ok : (op : Mark) (a b : Operand) → Sides a → Sides b → Sides (made.assigned op a b)
assigned_ok op a b x y = (x.0, node.assign a.start (made.assign_op op.class) a.tree b.tree ∙ and2 x.0 (and2 x.1 y.1))

chosen_ok : (a b c : Operand) → Sides a → Sides b → Sides c → Sides (made.chosen a b c)
chosen_ok a b c x y z = (x.0, node.cond a.start a.tree b.tree c.tree ∙ and2 x.0 (and3 x.1 y.1 z.1))

cast_ok : (p : Place) (t : KindName) (a : Operand) → T (stands p) → Kind t → Sides a → Sides (made.cast_at p t a)
cast_ok p t a s f x = (s, node.cast p t.base t.stars a.tree ∙ and2 s (and3 f.0 f.1 x.1))

size_of_kind_ok : (p : Place) (t : KindName) → T (stands p) → Kind t → Sides (made.size_of_kind p t)
size_of_kind_ok p t s f = (s, node.size_of_kind p t.base t.stars ∙ and2 s (and2 f.0 f.1))

size_of_value_ok : (p : Place) (a : Operand) → T (stands p) → Sides a → Sides (made.size_of_value p a)
size_of_value_ok p a s x = (s, node.size_of_value p a.tree ∙ and2 s x.1)

variable_ok : (name : Named) → Name name → Sides (made.variable name)
variable_ok name x = (x.0, node.var name.place name.name ∙ and2 x.0 x.1)

called_ok : (name : Named) (args : List Expr) → Name name → T (every (map formed_expr args)) → Sides (made.called name args)
called_ok name args x a = (x.0, node.call name.place name.name args ∙ and2 x.0 (and2 x.1 a))

indexed_ok : (a b : Operand) → Sides a → Sides b → Sides (made.indexed a b)
indexed_ok a b x y = (x.0, node.index a.start a.tree b.tree ∙ and2 x.0 (and2 x.1 y.1))

member_ok : (a : Operand) (name : Named) → Sides a → Name name → Sides (made.member a name)
member_ok a name x y = (x.0, node.member a.start a.tree name.name ∙ and2 x.0 (and2 x.1 y.1))

pointed_ok : (a : Operand) (name : Named) → Sides a → Name name → Sides (made.pointed a name)
pointed_ok a name x y = (x.0, node.arrow a.start a.tree name.name ∙ and2 x.0 (and2 x.1 y.1))

stepped_ok : (up : Bool) (a : Operand) → Sides a → Sides (made.stepped up a)
stepped_ok up a x = (x.0, node.step_by a.start up false a.tree ∙ and2 x.0 x.1)

-- ---- declarations

decl_ok : (p : Place) (base : Base) (d : Declarator) → T (stands p) → T (formed_base base) → Declares d → T (formed_decl (made.decl_from p base d))
decl_ok p base d s f x = and2 (and4 s f x.stars x.name) x.counts

parameter_ok : (p : Place) (base : Base) (stars : ℕ) (name : Named) → T (stands p) → T (formed_base base) → T (few_stars stars) → Name name → T (without_counts (made.parameter p base stars name))
parameter_ok p base stars name s f u x = and2 (and2 (and4 s f u x.1) refl) refl

later_ok : (base : Base) → T (formed_base base) → (ds : List Declarator) → Each Declares ds → T (list_all formed_decl (map (made.later_decl base) ds))
later_ok base f [] x = refl
later_ok base f (d ∷ ds) x =
    let h = All-head Declares d ds x in
    and2 (decl_ok d.start base d h.start f h) (later_ok base f ds (All-tail Declares d ds x))

local_ok : (p : Place) (d : Decl) (init : Option Init) → T (stands p) → T (formed_decl d) → T (maybe_init init) → T ((seen_stmt (made.stmt p (st.Local d init))).formed)
local_ok p d init s f i = ap (λ z. z.formed) (node.local p d init) ∙ and2 s (and2 f i)

locals_ok : (base : Base) → T (formed_base base) → (ds : List InitDeclarator) → Each Initial ds → T (list_all (λ x. x.formed) (map seen_stmt (map (made.later_local base) ds)))
locals_ok base f [] x = refl
locals_ok base f (d ∷ ds) x =
    let h = All-head Initial d ds x in
    and2 (local_ok d.declarator.start (made.later_decl base d.declarator) d.init h.0.start (decl_ok d.declarator.start base d.declarator h.0.start f h.0) h.1) (locals_ok base f ds (All-tail Initial d ds x))

item_ok : (p : Place) (external : Bool) (d : Decl) (init : Option Init) → T (stands p) → T (formed_decl d) → T (maybe_init init) → T (formed_item (made.item p (it.Var external d init)))
item_ok p external d init s f i = and2 s (and2 f i)

later_items_ok : (external : Bool) (base : Base) → T (formed_base base) → (ds : List InitDeclarator) → Each Initial ds → T (list_all formed_item (map (made.later_global external base) ds))
later_items_ok external base f [] x = refl
later_items_ok external base f (d ∷ ds) x =
    let h = All-head Initial d ds x in
    and2 (item_ok d.declarator.start external (made.later_decl base d.declarator) d.init h.0.start (decl_ok d.declarator.start base d.declarator h.0.start f h.0) h.1) (later_items_ok external base f ds (All-tail Initial d ds x))

globals_ok : (start : Place) (external : Bool) (t : Typed) (first : InitDeclarator) (more : List InitDeclarator) → T (stands start) → Based t → Initial first → Each Initial more → T (list_all formed_item (made.globals_of start external t first more))
globals_ok start external t first more s x i m = and2 (item_ok start external (made.decl_from t.start t.base first.declarator) first.init s (decl_ok t.start t.base first.declarator x.0 x.1 i.0) i.1) (later_items_ok external t.base x.1 more m)

decls_ok : (t : Typed) (first : Declarator) (more : List Declarator) → Based t → Declares first → Each Declares more → T (list_all formed_decl (made.decls_of t first more))
decls_ok t first more x d m = and2 (decl_ok t.start t.base first x.0 x.1 d) (later_ok t.base x.1 more m)

append_ok : {A : Type 0} (p : A → Bool) (xs ys : List A) → T (list_all p xs) → T (list_all p ys) → T (list_all p (xs ++ ys))
append_ok p xs ys x y = list_all-append p xs ys ∙ and2 x y

function_ok : (start : Place) (base : Base) (stars : ℕ) (name : Named) (params : List Decl) (body : Option Stmt) → T (stands start) → T (formed_base base) → T (few_stars stars) → Name name → T (list_all without_counts params) → T (formed_body body) → T (list_all formed_item (made.function_item start base stars name params body))
function_ok start base stars name params body s f u x p b = and2 (and2 s (and3 (parameter_ok start base stars name s f u x) p b)) refl

struct_ok : (start : Place) (tag : List ℕ) (members : List Decl) → T (stands start) → T (is_name tag) → T (not (is_empty members)) → T (list_all formed_decl members) → T (list_all formed_item (made.struct_item start tag members))
struct_ok start tag members s t m f = and2 (and2 s (and3 t m f)) refl

some_left : {A : Type 0} (xs ys : List A) → T (not (is_empty xs)) → T (not (is_empty (xs ++ ys)))
some_left [] ys h = cc
some_left (x ∷ xs) ys h = refl

-- ---- statements

branch_of : (x : Stmt) (f : Bool) → seen_stmt x ≡ record { formed = f; declares = false; braces = false } → T f → T (is_branch (seen_stmt x))
branch_of x f e h = ap is_branch e ∙ and2 h refl

branch_formed : (x : Stmt) → T (is_branch (seen_stmt x)) → T ((seen_stmt x).formed)
branch_formed x h = left_of ((seen_stmt x).formed) (not ((seen_stmt x).declares)) h
  where
    left_of : (a b : Bool) → T (a && b) → T a
    left_of true b h = refl
    left_of false b h = h

block_seen : (p : Place) (all : List Stmt) → T (stands p) → T (list_all (λ x. x.formed) (map seen_stmt all)) → seen_stmt (made.stmt p (st.Block all)) ≡ record { formed = true; declares = false; braces = true }
block_seen p all s f = node.block p all ∙ ap (λ z. record { formed = z; declares = false; braces = true }) (and2 s f)

block_branch : (p : Place) (all : List Stmt) → T (stands p) → T (list_all (λ x. x.formed) (map seen_stmt all)) → T (is_branch (seen_stmt (made.stmt p (st.Block all))))
block_branch p all s f = ap is_branch (block_seen p all s f)

block_body : (p : Place) (all : List Stmt) → T (stands p) → T (list_all (λ x. x.formed) (map seen_stmt all)) → T (formed_body (Some (made.stmt p (st.Block all))))
block_body p all s f = and2 (ap (λ z. z.formed) (block_seen p all s f)) (ap (λ z. z.braces) (block_seen p all s f))

append_seen : (xs ys : List Stmt) → T (list_all (λ x. x.formed) (map seen_stmt xs)) → T (list_all (λ x. x.formed) (map seen_stmt ys)) → T (list_all (λ x. x.formed) (map seen_stmt (xs ++ ys)))
append_seen [] ys x y = y
append_seen (a ∷ xs) ys x y = and2 (left_of ((seen_stmt a).formed) _ x) (append_seen xs ys (right_of ((seen_stmt a).formed) _ x) y)
  where
    left_of : (a b : Bool) → T (a && b) → T a
    left_of true b h = refl
    left_of false b h = h

    right_of : (a b : Bool) → T (a && b) → T b
    right_of true b h = h
    right_of false b h = cc

if_ok : (p : Place) (test : Expr) (x : Stmt) (other : Option Stmt) → T (stands p) → T (formed_expr test) → T (is_branch (seen_stmt x)) → T (maybe_branch (maybe_seen other)) → T (is_branch (seen_stmt (made.stmt p (st.If test x other))))
if_ok p test x None s f t o = branch_of _ _ (node.if_none p test x) (and2 s (and3 f t refl))
if_ok p test x (Some other) s f t o = branch_of _ _ (node.if_some p test x other) (and2 s (and3 f t o))

-- ---- tokens

place_of : (t : Lexeme) → Sound t → T (stands t.place)
place_of t x = x.place

name_of : (t : Lexeme) → Sound t → among t.class (k.Name ∷ []) ≡ true → Name (made.named_of t)
name_of t x m = (x.place, x.named m)

text_ok : (t : Lexeme) → Sound t → Sides (made.text_at t)
text_ok t x = (x.place, by_text (text_of t.text))
  where
    by_text : (o : Option (List ℕ)) → T (formed_expr (record { place = t.place; kind = made.text_kind o }))
    by_text None = node.text t.place [] ∙ and2 x.place refl
    by_text (Some bytes) = node.text t.place bytes ∙ and2 x.place refl

number_ok : (t : Lexeme) → Sound t → Sides (made.number_at t)
number_ok t x = (x.place, by_number (number_of t.text) refl)
  where
    by_number : (o : Option Number) → number_of t.text ≡ o → T (formed_expr (record { place = t.place; kind = made.number_kind o }))
    by_number None e = node.number t.place 0 I32 ∙ and2 x.place nothing_is_int
    by_number (Some m) e = node.number t.place m.value m.kind ∙ and2 x.place (numbers_are_words t.text m e)

character_ok : (t : Lexeme) → Sound t → Sides (made.character_at t)
character_ok t x = (x.place, by_byte (character_of t.text))
  where
    by_byte : (o : Option ℕ) → T (formed_expr (record { place = t.place; kind = made.character_kind o }))
    by_byte None = node.number t.place 0 I32 ∙ and2 x.place nothing_is_int
    by_byte (Some byte) = node.number t.place (extended I8 byte) I32 ∙ and2 x.place (bytes_are_words byte)

-- ---- the rules

keeps : (m : N) → Keeps Formed (rule m) (Formed m)
keeps n.Source = (λ a x c y. append_ok formed_item a c x y, refl)
keeps n.External = (
  λ p sp mp t x f i g j q sq mq. globals_ok p.place true t f g sp.place x i j,
  (
    λ p sp mp q sq mq f x. x p.place q.text sp.place (sq.named mq),
    λ t x stars u q sq mq f y. y t.start t.base stars (made.named_of q) x.0 x.1 (few stars u) (name_of q sq mq),
  ),
)
keeps n.AfterTag = (
  λ p sp mp a x c y q sq mq r sr mr start tag ss st. struct_ok start tag (a ++ c) ss st (some_left a c x.1) (append_ok formed_decl a c x.0 y),
  λ stars u q sq mq f y start tag ss st. y start (b.Struct tag) stars (made.named_of q) ss st (few stars u) (name_of q sq mq),
)
keeps n.AfterName = (
  λ p sp mp a x q sq mq body y start base stars name ss sb sf sn. function_ok start base stars name a body ss sb sf sn x y,
  λ a x i y more z q sq mq start base stars name ss sb sf sn. globals_ok start false (made.typed_at start base) (made.initialised start stars name a i) more ss (ss, sb) (record { start = ss; stars = sf; name = sn.1; counts = x }, y) z,
)
keeps n.Ending = (λ p sp mp. refl, λ v x. x.0)
keeps n.Parameters = (
  λ p sp mp f x. x p.place sp.place,
  λ t x stars u q sq mq more y. and2 (parameter_ok t.start t.base stars (made.named_of q) x.0 x.1 (few stars u) (name_of q sq mq)) y,
)
keeps n.AfterVoid = (
  λ stars u q sq mq more y start ss. and2 (parameter_ok start b.Void stars (made.named_of q) ss refl (few stars u) (name_of q sq mq)) y,
  λ start ss. refl,
)
keeps n.Parameter = λ t x stars u q sq mq. parameter_ok t.start t.base stars (made.named_of q) x.0 x.1 (few stars u) (name_of q sq mq)
keeps n.MoreParameters = (λ p sp mp d x more y. and2 x y, refl)
keeps n.Width = λ p sp mp. sp.place
keeps n.MaybeWidth = (λ v x. tt, tt)
keeps n.Integer = (λ p sp mp v x. sp.place, (λ p sp mp v x. sp.place, λ v x. x))
keeps n.PlainBase = (λ p sp mp. (sp.place, refl), λ v x. (x, refl))
keeps n.ObjectBase = (λ p sp mp q sq mq. (sp.place, sq.named mq), λ v x. (x, refl))
keeps n.AnyBase = (λ p sp mp. (sp.place, refl), λ v x. x)
keeps n.TypeName = λ t x stars u. (x.1, few stars u)
keeps (n.Stars zero) = omega arith
keeps (n.Stars (suc most)) = (λ p sp mp v x. omega (arith, x), omega arith)
keeps n.Member = λ t x d y more z q sq mq. (decls_ok t d more x y z, refl)
keeps n.Members = (λ a x c y. append_ok formed_decl a c x.0 y, refl)
keeps n.Declared = (
  λ p sp mp stars u q sq mq a x. record { start = sp.place; stars = few (stars + 1) (omega (arith, u)); name = sq.named mq; counts = x },
  λ q sq mq a x. record { start = sq.place; stars = refl; name = sq.named mq; counts = x },
)
keeps n.MoreDeclared = (λ p sp mp d x more y. All-cons Declares d more x y, All-nil Declares)
keeps n.Counts = (λ p sp mp a x q sq mq more y. and2 x.1 y, refl)
keeps n.Initialised = λ d x i y. (x, y)
keeps n.MoreInitialised = (λ p sp mp d x more y. All-cons Initial d more x y, All-nil Initial)
keeps n.MaybeInit = (λ p sp mp v x. x, refl)
keeps n.Initialiser = (
  λ p sp mp a x more y q sq mq. node.many p.place a more ∙ and2 sp.place (and2 refl (and2 x y)),
  λ a x. node.one a.start a.tree ∙ and2 x.0 x.1,
)
keeps n.MoreInitialisers = (λ p sp mp a x more y. and2 x y, refl)
keeps n.Block = λ p sp mp all x q sq mq. (block_body p.place all sp.place x, block_branch p.place all sp.place x)
keeps n.Statements = (
  λ v x more y. append_seen v.1 more x.1 y,
  (
    λ v x more y. and2 (branch_formed v x) y,
    refl,
  ),
)
keeps n.Statement = (
  λ v x. x.1,
  (
    λ v x. x,
    (
      λ v x. x,
      (
        λ v x. x,
        (
          λ v x. x,
          (
            λ p sp mp q sq mq. branch_of _ _ (node.break_ p.place) (and2 sp.place refl),
            (
              λ p sp mp q sq mq. branch_of _ _ (node.continue_ p.place) (and2 sp.place refl),
              (
                λ v x. x,
                λ v x. x,
              ),
            ),
          ),
        ),
      ),
    ),
  ),
)
keeps n.Local = λ t x f i g j q sq mq. (x.0, and2 (local_ok t.start (made.decl_from t.start t.base f.declarator) f.init x.0 (decl_ok t.start t.base f.declarator x.0 x.1 i.0) i.1) (locals_ok t.base x.1 g j))
keeps n.Branch = (λ v x. block_branch v.0 v.1 x.0 x.1, λ v x. x)
keeps n.Nested = λ v x. x
keeps n.Condition = λ p sp mp a x q sq mq. x.1
keeps n.IfElse = λ p sp mp c x v y o z. if_ok p.place c v o sp.place x y z
keeps n.Otherwise = (λ p sp mp v x. x, refl)
keeps n.WhileDo = λ p sp mp c x v y. branch_of _ _ (node.while_ p.place c v) (and2 sp.place (and2 x y))
keeps n.DoWhile = λ p sp mp v y q sq mq c x r sr mr. branch_of _ _ (node.do_while p.place v c) (and2 sp.place (and2 y x))
keeps n.ForDo = λ p sp mp o so mo a x q sq mq c y r sr mr d z w sw mw v u. branch_of _ _ (node.for_ p.place a c d v) (and2 sp.place (and4 x y z u))
keeps n.Returned = λ p sp mp a x q sq mq. branch_of _ _ (node.return_ p.place a) (and2 sp.place x)
keeps n.Simple = (
  λ p sp mp. branch_of _ _ (node.value p.place None) (and2 sp.place refl),
  λ a x q sq mq. branch_of _ _ (node.value a.start (Some a.tree)) (and2 x.0 x.1),
)
keeps n.MaybeExpression = (λ a x. x.1, refl)
keeps n.Assignment = λ a x f g. g a x
keeps n.AssignmentTail = (λ p sp mp v x a y. assigned_ok (made.mark_of p) a v y x, λ a y. y)
keeps n.Conditional = λ a x f g. g a x
keeps n.ConditionalTail = (λ p sp mp v x q sq mq w z a y. chosen_ok a v w y x z, λ a y. y)
keeps (n.Side l.Product) = λ v x. x
keeps (n.Side l.Sum) = λ v x. x
keeps (n.Side l.Shift) = λ v x. x
keeps (n.Side l.Order) = λ v x. x
keeps (n.Side l.Equality) = λ v x. x
keeps (n.Side l.BitAnd) = λ v x. x
keeps (n.Side l.BitXor) = λ v x. x
keeps (n.Side l.BitOr) = λ v x. x
keeps (n.Side l.Both) = λ v x. x
keeps (n.Side l.Either) = λ v x. x
keeps (n.Binary level) = λ a x f g. g a x
keeps (n.BinaryTail level) = (λ p sp mp v x f g a y. g (made.joined (made.mark_of p) a v) (joined_ok (made.mark_of p) a v y x), λ a y. y)
keeps n.Unary = (λ p sp mp f x. x p.place sp.place, λ v x. x)
keeps n.Opened = (
  λ t x q sq mq v y start ss. cast_ok start t v ss x y,
  λ a x q sq mq f g start ss. g (made.enclosed start a) (ss, x.1),
)
keeps n.Plain = (
  λ p sp mp v x. (sp.place, prefix_ok p.place p.class v.tree sp.place x.1),
  (
    λ p sp mp f x. x p.place sp.place,
    λ a x f g. g a x,
  ),
)
keeps n.Sized = (λ p sp mp f x start ss. x start p.place ss sp.place, λ a x start ss. size_of_value_ok start a ss x)
keeps n.SizedOpened = (
  λ t x q sq mq start inner ss si. size_of_kind_ok start t ss x,
  λ a x q sq mq f g start inner ss si. size_of_value_ok start (f (made.enclosed inner a)) ss (g (made.enclosed inner a) (si, x.1)),
)
keeps n.Atom = (λ p sp mp. number_ok p sp, (λ p sp mp. character_ok p sp, (λ p sp mp. text_ok p sp, λ q sq mq f x. x (made.named_of q) (name_of q sq mq))))
keeps n.MaybeCall = (λ p sp mp args x q sq mq name y. called_ok name args y x, λ name y. variable_ok name y)
keeps n.Arguments = (λ a x more y. and2 x.1 y, refl)
keeps n.MoreArguments = (λ p sp mp a x more y. and2 x.1 y, refl)
keeps n.Part = (
  λ p sp mp v x q sq mq a y. indexed_ok a v y x,
  (
    λ p sp mp q sq mq a y. member_ok a (made.named_of q) y (name_of q sq mq),
    (
      λ p sp mp q sq mq a y. pointed_ok a (made.named_of q) y (name_of q sq mq),
      (
        λ p sp mp a y. stepped_ok true a y,
        λ p sp mp a y. stepped_ok false a y,
      ),
    ),
  ),
)
keeps n.Parts = (λ f x g y a z. y (f a) (x a z), λ a y. y)

-- the items that the grammar relates to sound tokens are formed
pub sources_are_formed : (ts : List Lexeme) (v : List Item) (rest : List Lexeme) → Reads n.Source ts v rest → All Sound ts → list_all formed_item v ≡ true
sources_are_formed ts v rest x s = (keep_within Formed keeps x.height n.Source ts v rest x.reads s).0
