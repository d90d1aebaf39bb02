-- All parts of a list are formed exactly where all that was found of them says so.
use Rattle.std.proofs.Common.{◌≡◌, Bool, List, [], ◌∷◌, map, ◌&&◌, refl, ap}
use Rattle.std.specs.List.{list_all}
use Rattle.c_tree.specs.declared.tree.Expr.{Expr}
use Rattle.c_tree.specs.declared.tree.Init.{Init}
use Rattle.c_tree.specs.declared.tree.Stmt.{Stmt}
use Rattle.c_tree.specs.Formed.{every, is_empty, formed_expr, formed_init, formed_stmt, seen_stmt}

pub every_formed_expr : (xs : List Expr) → every (map formed_expr xs) ≡ list_all formed_expr xs
every_formed_expr [] = refl
every_formed_expr (x ∷ xs) = ap (λ t. formed_expr x && t) (every_formed_expr xs)

pub every_formed_init : (xs : List Init) → every (map formed_init xs) ≡ list_all formed_init xs
every_formed_init [] = refl
every_formed_init (x ∷ xs) = ap (λ t. formed_init x && t) (every_formed_init xs)

pub all_formed_stmts : (xs : List Stmt) → list_all (λ x. x.formed) (map seen_stmt xs) ≡ list_all formed_stmt xs
all_formed_stmts [] = refl
all_formed_stmts (x ∷ xs) = ap (λ t. formed_stmt x && t) (all_formed_stmts xs)

pub empty_as_found : (f : Init → Bool) (xs : List Init) → is_empty (map f xs) ≡ is_empty xs
empty_as_found f [] = refl
empty_as_found f (x ∷ xs) = refl
