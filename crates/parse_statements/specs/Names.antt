-- What reading gives of the names of a declaration, where some of them were read before.
use Rattle.std.specs.Prelude.{ℕ, Bool, List, ◌++◌, map}
use Rattle.c_tree.specs.declared.tree.Base.{Base}
use Rattle.c_tree.specs.declared.tree.Decl.{Decl}
use Rattle.c_tree.specs.declared.tree.Item.{Item}
use Rattle.c_tree.specs.declared.tree.Stmt.{Stmt}
use Rattle.c_grammar.specs.declared.parts.Declarator.{Declarator}
use Rattle.c_grammar.specs.declared.parts.InitDeclarator.{InitDeclarator}
use Rattle.c_grammar.specs.Lexemes.{Lexeme}
use Rattle.c_grammar.specs.Nodes as made
use Rattle.c_grammar.specs.Rules as n
use Rattle.c_grammar.specs.Reading.{Out, parse, limit}
use Rattle.parse_expressions.specs.Gives.{through}

-- ---- later names

unfoldable pub later_decl : Base → Declarator → Decl
later_decl base d = made.later_decl base d

unfoldable pub later_global : Bool → Base → InitDeclarator → Item
later_global external base d = made.later_global external base d

unfoldable pub later_local : Base → InitDeclarator → Stmt
later_local base d = made.later_local base d

-- ---- names where some were read before

-- members
unfoldable pub decls_after : Base → List Decl → ℕ → List Lexeme → Out (List Decl)
decls_after base xs d ts = through (λ more. xs ++ map (later_decl base) more) (parse limit n.MoreDeclared d ts)

-- globals
unfoldable pub globals_after : Bool → Base → List Item → ℕ → List Lexeme → Out (List Item)
globals_after external base xs d ts = through (λ more. xs ++ map (later_global external base) more) (parse limit n.MoreInitialised d ts)

-- locals
unfoldable pub locals_after : Base → List Stmt → ℕ → List Lexeme → Out (List Stmt)
locals_after base xs d ts = through (λ more. xs ++ map (later_local base) more) (parse limit n.MoreInitialised d ts)
