-- Parts of rules that functions read by themselves.
use Rattle.std.specs.Prelude.{ℕ, [], ◌∷◌, ◌++◌, List, Option, Ok, if◌then◌else◌}
use Rattle.c_tokens.specs.declared.class.Class.TheVariants as k
use Rattle.c_tree.specs.declared.tree.Decl.{Decl}
use Rattle.c_tree.specs.declared.tree.Expr.{Expr}
use Rattle.c_tree.specs.declared.tree.Init.{Init}
use Rattle.c_tree.specs.declared.tree.Stmt.{Stmt}
use Rattle.c_tree.specs.declared.tree.StmtKind.TheVariants as s
use Rattle.c_grammar.specs.Nodes as made
use Rattle.parse_statements.specs.declared.statements.Head.{Head}
use Rattle.c_grammar.specs.Rules as n
use Rattle.c_grammar.specs.Rules.{Rx, call}
use Rattle.c_grammar.specs.Lexemes.{Lexeme, look, among}
use Rattle.c_grammar.specs.Reading.{Out, and_then, steps_of, base_begins}
use Rattle.c_grammar.specs.Grammar.{◌~◌, ◌=>◌, mark, bracketed, within}

-- a count of an array, in brackets
abbrev pub count : Rx Expr
count = bracketed k.OpenBracket (call n.Conditional) k.CloseBracket => (λ p. p.1.tree)

-- what stands in the braces of an initialiser
abbrev pub initialisers : Rx (List Init)
initialisers = call n.Initialiser ~ call n.MoreInitialisers => (λ p. p.0 ∷ p.1)

-- the three expressions of a `for`, in parentheses
abbrev pub head : Rx Head
head = bracketed k.OpenParen (call n.MaybeExpression ~ mark k.Semicolon ~ call n.MaybeExpression ~ mark k.Semicolon ~ call n.MaybeExpression) k.CloseParen => (λ p. record { first = p.1.0; test = p.1.1.1.0; next = p.1.1.1.1.1 })

-- a declaration as a statement within a block
abbrev pub local_within : Rx (List Stmt)
local_within = within (call n.Local) => (λ p. p.1)

-- another statement within a block
abbrev pub statement_within : Rx Stmt
statement_within = within (call n.Statement)

-- the members of a struct
abbrev pub members : Rx (List Decl)
members = call n.Member ~ call n.Members => (λ p. p.0 ++ p.1)

abbrev pub broken : Rx Stmt
broken = mark k.Break ~ mark k.Semicolon => (λ p. made.stmt p.0 s.Break)

abbrev pub continued : Rx Stmt
continued = mark k.Continue ~ mark k.Semicolon => (λ p. made.stmt p.0 s.Continue)

-- what is read of one statement of a block, or of one declaration
unfoldable pub entry : ℕ → List Lexeme → Out (List Stmt)
entry d ts = if among (look ts) base_begins then steps_of local_within d ts else and_then (steps_of statement_within d ts) (λ a rest d'. Ok (a ∷ [], rest, d'))
