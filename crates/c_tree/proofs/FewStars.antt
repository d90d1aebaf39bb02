-- A formed tree has at most 255 stars in each type that is written in it.
use Rattle.std.proofs.Common.{◌≡◌, ℕ, ◌≤◌, max, Bool, true, false, ◌&&◌, not, List, [], ◌∷◌, map, Option, None, Some, refl, subst, arith}
use Rattle.std.specs.List.{list_all}
use Rattle.std.proofs.lemmas.Bool.Decides.{nat_tests}
use Rattle.c_tree.specs.declared.tree.Tree.{Tree}
use Rattle.c_tree.specs.declared.tree.Item.{Item}
use Rattle.c_tree.specs.declared.tree.ItemKind.{ItemKind}
use Rattle.c_tree.specs.declared.tree.ItemKind.TheVariants as k
use Rattle.c_tree.specs.declared.tree.Decl.{Decl}
use Rattle.c_tree.specs.declared.tree.Expr.{Expr, Expr-F, fold-Expr}
use Rattle.c_tree.specs.declared.tree.ExprKind.{ExprKind-F}
use Rattle.c_tree.specs.declared.tree.ExprKind.TheFolds as ef
use Rattle.c_tree.specs.declared.tree.ExprKind.TheOpen as e
use Rattle.c_tree.specs.declared.tree.Init.{Init, Init-F, fold-Init}
use Rattle.c_tree.specs.declared.tree.InitKind.{InitKind-F}
use Rattle.c_tree.specs.declared.tree.InitKind.TheFolds as nf
use Rattle.c_tree.specs.declared.tree.InitKind.TheOpen as i
use Rattle.c_tree.specs.declared.tree.Stmt.{Stmt, Stmt-F, fold-Stmt}
use Rattle.c_tree.specs.declared.tree.StmtKind.{StmtKind-F}
use Rattle.c_tree.specs.declared.tree.StmtKind.TheFolds as sf
use Rattle.c_tree.specs.declared.tree.StmtKind.TheOpen as s
use Rattle.c_tree.specs.Formed as formed
use Rattle.c_tree.specs.Formed.{stands, every, few_stars, formed_base, formed_expr, formed_decl, formed_init, formed_stmt, seen_stmt, Seen, is_branch, maybe_branch, without_counts, formed_body, formed_kind, formed_item, is_formed, IsFormed}
use Rattle.c_tree.specs.Stars as star
use Rattle.c_tree.specs.Stars.{most, expr_stars, decl_stars, init_stars, stmt_stars, kind_stars, HasFewStars}
use Rattle.c_tree.proofs.Inductions.{exprs_fused, inits_fused, stmts_fused}

-- what holds says that so many stars are few
abbrev Few : Bool → ℕ → Type 0
Few b n = b ≡ true → n ≤ 255

none : (b : Bool) → Few b 0
none b h = omega arith

own : (n : ℕ) → Few (few_stars n) n
own n h = grind (arith, nat_tests, h)

first : (a b : Bool) (n : ℕ) → Few a n → Few (a && b) n
first true b n f h = f refl
first false b n f h = cc

second : (a b : Bool) (n : ℕ) → Few b n → Few (a && b) n
second true b n f h = f h
second false b n f h = cc

both : (a b : Bool) (m n : ℕ) → Few a m → Few b n → Few (a && b) (max m n)
both true b m n f g h = let one = f refl in let two = g h in omega (arith, one, two)
both false b m n f g h = cc

three : (a b c : Bool) (m n o : ℕ) → Few a m → Few b n → Few c o → Few (a && b && c) (max m (max n o))
three true true c m n o f g j h = let one = f refl in let two = g refl in let last = j h in omega (arith, one, two, last)
three true false c m n o f g j h = cc
three false b c m n o f g j h = cc

four : (a b c d : Bool) (m n o p : ℕ) → Few a m → Few b n → Few c o → Few d p → Few (a && b && c && d) (max m (max n (max o p)))
four true true true d m n o p f g j l h = let one = f refl in let two = g refl in let third = j refl in let last = l h in omega (arith, one, two, third, last)
four true true false d m n o p f g j l h = cc
four true false c d m n o p f g j l h = cc
four false b c d m n o p f g j l h = cc

all_few : {A : Type 0} (p : A → Bool) (n : A → ℕ) → ((x : A) → Few (p x) (n x)) → (xs : List A) → Few (list_all p xs) (most (map n xs))
all_few p n f [] = none true
all_few p n f (x ∷ xs) = both (p x) (list_all p xs) (n x) (most (map n xs)) (f x) (all_few p n f xs)

-- ---- expressions

-- what is tested of a part, and the most stars in it
record Tested : Type 0 where
  formed : Bool
  stars : ℕ
  few : formed ≡ true → stars ≤ 255

every_few : (all : List Tested) → Few (every (map (λ t. t.formed) all)) (most (map (λ t. t.stars) all))
every_few [] = none true
every_few (t ∷ all) = both t.formed (every (map (λ t. t.formed) all)) t.stars (most (map (λ t. t.stars) all)) t.few (every_few all)

same_few : (t : Tested) (b : Bool) (n : ℕ) → t.formed ≡ b → t.stars ≡ n → Few b n
same_few t b n p q = subst (Few b) q (subst (λ x. Few x t.stars) p t.few)

abbrev exprs_formed : ExprKind-F Tested Tested → Bool
exprs_formed y = formed.expr_step (ef.map-ExprKind Tested Tested Bool Bool (λ t. t.formed) (λ t. t.formed) y)

abbrev exprs_stars : ExprKind-F Tested Tested → ℕ
exprs_stars y = star.expr_step (ef.map-ExprKind Tested Tested ℕ ℕ (λ t. t.stars) (λ t. t.stars) y)

exprs_few : (y : ExprKind-F Tested Tested) → Few (exprs_formed y) (exprs_stars y)
exprs_few (e.Number n kind) = none _
exprs_few (e.Text bytes) = none _
exprs_few (e.Var name) = none _
exprs_few (e.Unary op a) = a.few
exprs_few (e.Binary op a c) = both a.formed c.formed a.stars c.stars a.few c.few
exprs_few (e.Assign op a c) = both a.formed c.formed a.stars c.stars a.few c.few
exprs_few (e.StepBy up before a) = a.few
exprs_few (e.Cond a c d) = three a.formed c.formed d.formed a.stars c.stars d.stars a.few c.few d.few
exprs_few (e.Call name all) = second _ _ _ (every_few all)
exprs_few (e.Index a c) = both a.formed c.formed a.stars c.stars a.few c.few
exprs_few (e.Member a name) = first a.formed _ a.stars a.few
exprs_few (e.Arrow a name) = first a.formed _ a.stars a.few
exprs_few (e.Cast base stars a) = both _ a.formed stars a.stars (second (formed_base base) (few_stars stars) stars (own stars)) a.few
exprs_few (e.SizeOfKind base stars) = second (formed_base base) (few_stars stars) stars (own stars)
exprs_few (e.SizeOfValue a) = a.few

abbrev exprs_tested : ExprKind-F Tested Tested → Tested
exprs_tested y = record { formed = exprs_formed y; stars = exprs_stars y; few = exprs_few y }

abbrev expr_tested : Expr-F Tested Tested → Tested
expr_tested y = record { formed = stands y.place && y.kind.formed; stars = y.kind.stars; few = second (stands y.place) y.kind.formed y.kind.stars y.kind.few }

expr_few : (x : Expr) → Few (formed_expr x) (expr_stars x)
expr_few x = same_few (fold-Expr Tested Tested exprs_tested expr_tested x) (formed_expr x) (expr_stars x)
    (exprs_fused Tested Tested Bool Bool exprs_tested expr_tested formed.expr_step (λ x. stands x.place && x.kind) (λ t. t.formed) (λ t. t.formed) (λ y. refl) (λ y. refl) x)
    (exprs_fused Tested Tested ℕ ℕ exprs_tested expr_tested star.expr_step (λ x. x.kind) (λ t. t.stars) (λ t. t.stars) (λ y. refl) (λ y. refl) x)

maybe_expr_few : (o : Option Expr) → Few (formed.maybe_expr o) (star.maybe_expr o)
maybe_expr_few None = none true
maybe_expr_few (Some x) = expr_few x

-- ---- declarations and initialisers

decl_few : (d : Decl) → Few (formed_decl d) (decl_stars d)
decl_few d = both _ (list_all formed_expr d.counts) d.stars (most (map expr_stars d.counts)) (first _ _ d.stars (second _ (few_stars d.stars) d.stars (own d.stars))) (all_few formed_expr expr_stars expr_few d.counts)

abbrev inits_formed : InitKind-F Tested Tested → Bool
inits_formed y = formed.init_step (nf.map-InitKind Tested Tested Bool Bool (λ t. t.formed) (λ t. t.formed) y)

abbrev inits_stars : InitKind-F Tested Tested → ℕ
inits_stars y = star.init_step (nf.map-InitKind Tested Tested ℕ ℕ (λ t. t.stars) (λ t. t.stars) y)

inits_few : (y : InitKind-F Tested Tested) → Few (inits_formed y) (inits_stars y)
inits_few (i.One x) = expr_few x
inits_few (i.Many all) = second _ _ _ (every_few all)

abbrev inits_tested : InitKind-F Tested Tested → Tested
inits_tested y = record { formed = inits_formed y; stars = inits_stars y; few = inits_few y }

abbrev init_tested : Init-F Tested Tested → Tested
init_tested y = record { formed = stands y.place && y.kind.formed; stars = y.kind.stars; few = second (stands y.place) y.kind.formed y.kind.stars y.kind.few }

init_few : (x : Init) → Few (formed_init x) (init_stars x)
init_few x = same_few (fold-Init Tested Tested inits_tested init_tested x) (formed_init x) (init_stars x)
    (inits_fused Tested Tested Bool Bool inits_tested init_tested formed.init_step (λ x. stands x.place && x.kind) (λ t. t.formed) (λ t. t.formed) (λ y. refl) (λ y. refl) x)
    (inits_fused Tested Tested ℕ ℕ inits_tested init_tested star.init_step (λ x. x.kind) (λ t. t.stars) (λ t. t.stars) (λ y. refl) (λ y. refl) x)

maybe_init_few : (o : Option Init) → Few (formed.maybe_init o) (star.maybe_init o)
maybe_init_few None = none true
maybe_init_few (Some x) = init_few x

-- ---- statements

record Told : Type 0 where
  seen : Seen
  stars : ℕ
  few : seen.formed ≡ true → stars ≤ 255

branch_few : (t : Told) → Few (is_branch t.seen) t.stars
branch_few t = first t.seen.formed (not t.seen.declares) t.stars t.few

told_few : (all : List Told) → Few (list_all (λ x. x.formed) (map (λ t. t.seen) all)) (most (map (λ t. t.stars) all))
told_few [] = none true
told_few (t ∷ all) = both t.seen.formed (list_all (λ x. x.formed) (map (λ t. t.seen) all)) t.stars (most (map (λ t. t.stars) all)) t.few (told_few all)

abbrev stmts_seen : StmtKind-F Told Told → Seen
stmts_seen y = formed.stmt_step (sf.map-StmtKind Told Told Seen Seen (λ t. t.seen) (λ t. t.seen) y)

abbrev stmts_stars : StmtKind-F Told Told → ℕ
stmts_stars y = star.stmt_step (sf.map-StmtKind Told Told ℕ ℕ (λ t. t.stars) (λ t. t.stars) y)

stmts_few : (y : StmtKind-F Told Told) → Few (stmts_seen y).formed (stmts_stars y)
stmts_few (s.Value value) = maybe_expr_few value
stmts_few (s.Local d init) = both (formed_decl d) (formed.maybe_init init) (decl_stars d) (star.maybe_init init) (decl_few d) (maybe_init_few init)
stmts_few (s.If test a None) = three (formed_expr test) (is_branch a.seen) true (expr_stars test) a.stars 0 (expr_few test) (branch_few a) (none true)
stmts_few (s.If test a (Some b)) = three (formed_expr test) (is_branch a.seen) (is_branch b.seen) (expr_stars test) a.stars b.stars (expr_few test) (branch_few a) (branch_few b)
stmts_few (s.While test body) = both (formed_expr test) (is_branch body.seen) (expr_stars test) body.stars (expr_few test) (branch_few body)
stmts_few (s.DoWhile body test) = both (is_branch body.seen) (formed_expr test) body.stars (expr_stars test) (branch_few body) (expr_few test)
stmts_few (s.For first test next body) = four (formed.maybe_expr first) (formed.maybe_expr test) (formed.maybe_expr next) (is_branch body.seen) (star.maybe_expr first) (star.maybe_expr test) (star.maybe_expr next) body.stars
    (maybe_expr_few first) (maybe_expr_few test) (maybe_expr_few next) (branch_few body)
stmts_few s.Break = none true
stmts_few s.Continue = none true
stmts_few (s.Return value) = maybe_expr_few value
stmts_few (s.Block all) = told_few all

abbrev stmts_told : StmtKind-F Told Told → Told
stmts_told y = record { seen = stmts_seen y; stars = stmts_stars y; few = stmts_few y }

abbrev stmt_told : Stmt-F Told Told → Told
stmt_told y = record { seen = record y.kind.seen { formed = stands y.place && y.kind.seen.formed }; stars = y.kind.stars; few = second (stands y.place) y.kind.seen.formed y.kind.stars y.kind.few }

same_told : (t : Told) (b : Seen) (n : ℕ) → t.seen ≡ b → t.stars ≡ n → Few b.formed n
same_told t b n p q = subst (Few b.formed) q (subst (λ x. Few x.formed t.stars) p t.few)

stmt_few : (x : Stmt) → Few (formed_stmt x) (stmt_stars x)
stmt_few x = same_told (fold-Stmt Told Told stmts_told stmt_told x) (seen_stmt x) (stmt_stars x)
    (stmts_fused Told Told Seen Seen stmts_told stmt_told formed.stmt_step (λ x. record x.kind { formed = stands x.place && x.kind.formed }) (λ t. t.seen) (λ t. t.seen) (λ y. refl) (λ y. refl) x)
    (stmts_fused Told Told ℕ ℕ stmts_told stmt_told star.stmt_step (λ x. x.kind) (λ t. t.stars) (λ t. t.stars) (λ y. refl) (λ y. refl) x)

-- ---- the outermost level

alone_few : (d : Decl) → Few (without_counts d) (decl_stars d)
alone_few d = first (formed_decl d) _ (decl_stars d) (decl_few d)

body_few : (o : Option Stmt) → Few (formed_body o) (star.maybe_stmt o)
body_few None = none true
body_few (Some x) = first (formed_stmt x) _ (stmt_stars x) (stmt_few x)

kind_few : (x : ItemKind) → Few (formed_kind x) (kind_stars x)
kind_few (k.Struct tag members) = second _ _ _ (all_few formed_decl decl_stars decl_few members)
kind_few (k.Var external d init) = both (formed_decl d) (formed.maybe_init init) (decl_stars d) (star.maybe_init init) (decl_few d) (maybe_init_few init)
kind_few (k.Fun d params body) = three (without_counts d) (list_all without_counts params) (formed_body body) (decl_stars d) (most (map decl_stars params)) (star.maybe_stmt body)
    (alone_few d) (all_few without_counts decl_stars alone_few params) (body_few body)

item_few : (x : Item) → Few (formed_item x) (kind_stars x.kind)
item_few x = second (stands x.place) (formed_kind x.kind) (kind_stars x.kind) (kind_few x.kind)

pub formed_has_few_stars : (tree : Tree) → IsFormed tree → HasFewStars tree
formed_has_few_stars tree h = all_few formed_item (λ x. kind_stars x.kind) item_few tree.items h
