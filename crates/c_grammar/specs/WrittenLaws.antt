-- Rules as the grammar of the language is written, where the rules that read from left to right are cut differently.
use Rattle.std.specs.Prelude.{◌↔◌, true, false, List, [], ◌∷◌, ◌++◌}
use Rattle.c_tokens.specs.declared.class.Class.TheVariants as k
use Rattle.mx_base.specs.declared.numbers.IntKind.TheVariants.{I32}
use Rattle.c_tree.specs.declared.tree.Base.TheVariants as b
use Rattle.c_tree.specs.declared.tree.Item.{Item}
use Rattle.c_grammar.specs.declared.parts.Operand.{Operand}
use Rattle.c_grammar.specs.declared.parts.Level.{Level}
use Rattle.c_grammar.specs.declared.parts.Level.TheVariants as l
use Rattle.c_grammar.specs.Lexemes.{Lexeme}
use Rattle.c_grammar.specs.Rules as n
use Rattle.c_grammar.specs.Rules.{Rx, seq, alt, map, nest, call, Reads_with}
use Rattle.c_grammar.specs.Grammar.{◌~◌, ◌=>◌, ◌or◌, Reads, mark, name, one_of, closing, bracketed, first_of, others_of, other_prefixes, other_assigners}
use Rattle.c_grammar.specs.Nodes as made

-- two rules relate the same
abbrev pub ReadsAs : {A : Type 0} → Rx A → Rx A → Type 0
ReadsAs {A} r s = (ts : List Lexeme) (v : A) (rest : List Lexeme) → Reads_with Reads r ts v rest ↔ Reads_with Reads s ts v rest

-- an assignment is a conditional expression, or one with an operator and an assignment after it
abbrev pub AssignmentAsWritten : Type 0
AssignmentAsWritten = ReadsAs (call n.Assignment) ((call n.Conditional ~ nest (one_of k.Assign other_assigners) ~ call n.Assignment => (λ p. made.assigned p.1.0 p.0 p.1.1)) or call n.Conditional)

-- a conditional expression is a binary one, or one with `?`, an expression, `:` and a conditional expression after it
abbrev pub ConditionalAsWritten : Type 0
ConditionalAsWritten = ReadsAs (call n.Conditional) ((call (n.Binary l.Either) ~ nest (mark k.Question) ~ call n.Assignment ~ mark k.Colon ~ call n.Conditional => (λ p. made.chosen p.0 p.1.1.0 p.1.1.1.1)) or call (n.Binary l.Either))

-- the operators of a level bind from the left: as in C's grammar, an expression of the level is an operand, or one of the level with an operator and
-- an operand after it
abbrev pub BinaryAsWritten : Type 0
BinaryAsWritten = (m : Level) → ReadsAs (call (n.Binary m)) ((call (n.Binary m) ~ nest (one_of (first_of m) (others_of m)) ~ call (n.Side m) => (λ p. made.joined p.1.0 p.0 p.1.1)) or call (n.Side m))

-- the parameters of a function are the word `void`, or one parameter and more
abbrev pub ParametersAsWritten : Type 0
ParametersAsWritten = ReadsAs (call n.Parameters) ((mark k.Void => (λ _. [])) or (call n.Parameter ~ call n.MoreParameters => (λ p. p.0 ∷ p.1)))

-- the first part of a type is `void`, an integer type or a struct
abbrev pub BaseAsWritten : Type 0
BaseAsWritten = ReadsAs (call n.AnyBase) ((mark k.Void => (λ place. made.typed_at place b.Void)) or (mark k.Signed ~ call n.Width => (λ p. made.typed_at p.0 (b.Int p.1.1))) or (mark k.Unsigned ~ call n.Width => (λ p. made.typed_at p.0 (b.Int (made.unsigned_of p.1.1)))) or (call n.Width => (λ p. made.typed_at p.0 (b.Int p.1))) or (mark k.Unsigned => (λ place. made.typed_at place (b.Int (made.unsigned_of I32)))) or (mark k.Struct ~ name => (λ p. made.typed_at p.0 (b.Struct p.1.name))))

-- an expression in parentheses, which end the nesting that they open
abbrev pub enclosed : Rx Operand
enclosed = nest (mark k.OpenParen) ~ closing (call n.Assignment ~ mark k.CloseParen) => (λ p. made.enclosed p.0 p.1.0)

-- what is no operator: a number, a character, a text, a variable, a call or an expression in parentheses, with indexes, members and steps after it
abbrev pub postfix : Rx Operand
postfix = (call n.Atom or enclosed) ~ call n.Parts => (λ p. p.1 p.0)

-- a unary expression is one with an operator before it, a cast, `sizeof` of a type or of a unary expression that is no cast, or one without operators
abbrev pub UnaryAsWritten : Type 0
UnaryAsWritten = ReadsAs (call n.Unary) ((nest (one_of k.Minus other_prefixes) ~ call n.Unary => (λ p. made.prefixed p.0 p.1)) or (nest (mark k.OpenParen) ~ call n.TypeName ~ mark k.CloseParen ~ call n.Unary => (λ p. made.cast_at p.0 p.1.0 p.1.1.1)) or (nest (mark k.SizeOf) ~ nest (mark k.OpenParen) ~ closing (call n.TypeName ~ mark k.CloseParen) => (λ p. made.size_of_kind p.0 p.1.1.0)) or (nest (mark k.SizeOf) ~ (call n.Plain or (enclosed ~ call n.Parts => (λ p. p.1 p.0))) => (λ p. made.size_of_value p.0 p.1)) or postfix)

-- what stands at the outermost level is a struct, a global declaration or a function
abbrev pub struct_item : Rx (List Item)
struct_item = mark k.Struct ~ name ~ bracketed k.OpenBrace (call n.Member ~ call n.Members) k.CloseBrace ~ mark k.Semicolon => (λ p. made.struct_item p.0 p.1.0.name (p.1.1.0.1.0 ++ p.1.1.0.1.1))

abbrev pub external_declaration : Rx (List Item)
external_declaration = mark k.Extern ~ call n.AnyBase ~ call n.Initialised ~ call n.MoreInitialised ~ mark k.Semicolon => (λ p. made.globals_of p.0 true p.1.0 p.1.1.0 p.1.1.1.0)

abbrev pub function : Rx (List Item)
function = call n.AnyBase ~ call (n.Stars 255) ~ name ~ bracketed k.OpenParen (call n.Parameters) k.CloseParen ~ call n.Ending => (λ p. made.function_item p.0.start p.0.base p.1.0 p.1.1.0 p.1.1.1.0.1 p.1.1.1.1)

abbrev pub global_declaration : Rx (List Item)
global_declaration = call n.AnyBase ~ call (n.Stars 255) ~ name ~ call n.Counts ~ call n.MaybeInit ~ call n.MoreInitialised ~ mark k.Semicolon => (λ p. made.globals_of p.0.start false p.0 (made.initialised p.0.start p.1.0 p.1.1.0 p.1.1.1.0 p.1.1.1.1.0) p.1.1.1.1.1.0)

abbrev pub ExternalAsWritten : Type 0
ExternalAsWritten = ReadsAs (call n.External) (struct_item or external_declaration or global_declaration or function)
