-- Parts of rules that functions read by themselves.
use Rattle.std.specs.Prelude.{ℕ, true, false, [], ◌∷◌, ◌++◌, List, Option, Ok}
use Rattle.c_tokens.specs.declared.class.Class.TheVariants as k
use Rattle.c_tree.specs.declared.tree.Decl.{Decl}
use Rattle.c_tree.specs.declared.tree.Expr.{Expr}
use Rattle.c_tree.specs.declared.tree.Init.{Init}
use Rattle.c_tree.specs.declared.tree.Item.{Item}
use Rattle.c_tree.specs.declared.tree.ItemKind.TheVariants as it
use Rattle.c_tree.specs.declared.tree.Stmt.{Stmt}
use Rattle.c_grammar.specs.declared.parts.Named.{Named}
use Rattle.c_grammar.specs.declared.parts.Typed.{Typed}
use Rattle.c_grammar.specs.Lexemes.{Lexeme}
use Rattle.c_grammar.specs.Nodes as made
use Rattle.c_grammar.specs.Rules as n
use Rattle.c_grammar.specs.Rules.{Rx, call}
use Rattle.c_grammar.specs.Grammar.{◌~◌, ◌=>◌, mark, name, bracketed}
use Rattle.c_grammar.specs.Reading.{Out, and_then, take_tok, parse, limit}
use Rattle.parse_statements.specs.Names.{globals_after}

-- a parameter after its first part
abbrev pub named_parameter : Typed → Rx Decl
named_parameter typed = call (n.Stars 255) ~ name => (λ p. made.parameter typed.start typed.base p.0 p.1)

-- parameters, of the first of which the first part was read
abbrev pub named_parameters : Typed → Rx (List Decl)
named_parameters typed = call (n.Stars 255) ~ name ~ call n.MoreParameters => (λ p. made.parameter typed.start typed.base p.0 p.1.0 ∷ p.1.1)

-- the parameters of a function, in parentheses
abbrev pub enclosed_parameters : Rx (List Decl)
enclosed_parameters = bracketed k.OpenParen (call n.Parameters) k.CloseParen => (λ p. p.1)

-- the parameters of a function, and its body or what stands for it
abbrev pub function : Rx (List Decl × Option Stmt)
function = bracketed k.OpenParen (call n.Parameters) k.CloseParen ~ call n.Ending => (λ p. (p.0.1, p.1))

-- the members of a struct, in braces
abbrev pub braced_members : Rx (List Decl)
braced_members = bracketed k.OpenBrace (call n.Member ~ call n.Members) k.CloseBrace => (λ p. p.1.0 ++ p.1.1)

-- the same, and `;`
abbrev pub ended_members : Rx (List Decl)
ended_members = bracketed k.OpenBrace (call n.Member ~ call n.Members) k.CloseBrace ~ mark k.Semicolon => (λ p. p.0.1.0 ++ p.0.1.1)

-- a function or a global declaration after its first part
abbrev pub named_item : Typed → Rx (List Item)
named_item typed = call (n.Stars 255) ~ name ~ call n.AfterName => (λ p. p.1.1 typed.start typed.base p.0 p.1.0)

-- the first name of a global declaration
abbrev pub first_global : Typed → ℕ → Named → List Expr → Option Init → Item
first_global typed stars name counts init = made.item typed.start (it.Var false (made.decl_from typed.start typed.base (made.declarator typed.start stars name counts)) init)

-- what is read of a global declaration after its first name
abbrev pub globals : Typed → ℕ → Named → ℕ → List Lexeme → Out (List Item)
globals typed stars name d ts =
    and_then (parse limit n.Counts d ts) (λ counts mid d1.
    and_then (parse limit n.MaybeInit d1 mid) (λ init mid d2.
    and_then (globals_after false typed.base (first_global typed stars name counts init ∷ []) d2 mid) (λ all mid d3.
    and_then (take_tok made.place_of k.Semicolon [] d3 mid) (λ _ rest d4. Ok (all, rest, d4)))))

-- what is read of a declaration with `extern`
abbrev pub external : ℕ → List Lexeme → Out (List Item)
external d ts =
    and_then (take_tok made.place_of k.Extern [] d ts) (λ start mid d1.
    and_then (parse limit n.AnyBase d1 mid) (λ typed mid d2.
    and_then (parse limit n.Initialised d2 mid) (λ first mid d3.
    and_then (globals_after true typed.base (made.item start (it.Var true (made.decl_from typed.start typed.base first.declarator) first.init) ∷ []) d3 mid) (λ all mid d4.
    and_then (take_tok made.place_of k.Semicolon [] d4 mid) (λ _ rest d5. Ok (all, rest, d5))))))
