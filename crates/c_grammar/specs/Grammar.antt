-- The grammar of the language.
use Rattle.std.specs.Prelude.{ℕ, zero, suc, ◌+◌, true, false, List, [], ◌∷◌, ◌++◌, Option, Some, None}
use Rattle.c_tokens.specs.declared.class.Class.{Class}
use Rattle.c_tokens.specs.declared.class.Class.TheVariants as k
use Rattle.mx_base.specs.declared.places.Place.{Place}
use Rattle.mx_base.specs.declared.numbers.IntKind.TheVariants.{I32}
use Rattle.c_tree.specs.declared.tree.Base.TheVariants as b
use Rattle.c_tree.specs.declared.tree.StmtKind.TheVariants as s
use Rattle.c_grammar.specs.declared.parts.Mark.{Mark}
use Rattle.c_grammar.specs.declared.parts.Named.{Named}
use Rattle.c_grammar.specs.declared.parts.Operand.{Operand}
use Rattle.c_grammar.specs.declared.parts.Level.{Level}
use Rattle.c_grammar.specs.declared.parts.Level.TheVariants as l
use Rattle.c_grammar.specs.Lexemes.{Lexeme}
use Rattle.c_grammar.specs.Rules as n
use Rattle.c_grammar.specs.Rules.{N, Of, Rx, eps, no_else, tok, seq, alt, map, nest, scope, call, Reads_with}
use Rattle.c_grammar.specs.Nodes as made

-- ---- shorthand

infixr 12 ◌~◌
abbrev pub ◌~◌ : {A B : Type 0} → Rx A → Rx B → Rx (A × B)
r ~ s = seq r s

infixr 11 ◌=>◌
abbrev pub ◌=>◌ : {A B : Type 0} → Rx A → (A → B) → Rx B
r => f = map f r

infixr 10 ◌or◌
abbrev pub ◌or◌ : {A : Type 0} → Rx A → Rx A → Rx A
r or s = alt r s

-- a word or mark
abbrev pub mark : Class → Rx Place
mark c = tok made.place_of c []

abbrev pub name : Rx Named
name = tok made.named_of k.Name []

-- one of these words or marks
abbrev pub one_of : Class → List Class → Rx Mark
one_of = tok made.mark_of

abbrev pub maybe : {A : Type 0} → Rx A → Rx (Option A)
maybe r = (r => (λ v. Some v)) or (eps => (λ _. None))

abbrev pub many : {A : Type 0} → Rx (A × List A) → Rx (List A)
many r = (r => (λ p. p.0 ∷ p.1)) or (eps => (λ _. []))

-- The nestings that open in it end with it.
abbrev pub level : {A : Type 0} → Rx A → Rx A
level r = scope false r

-- The nestings that open in it end with it, and so does the innermost one of those open where it begins.
abbrev pub closing : {A : Type 0} → Rx A → Rx A
closing r = scope true r

-- between brackets, of which the first opens a nesting that the second ends
abbrev pub bracketed : {A : Type 0} → Class → Rx A → Class → Rx (Place × A × Place)
bracketed first r last = level (nest (mark first) ~ r ~ mark last => (λ p. (p.0, p.1.0, p.1.1)))

-- a statement within a statement
abbrev pub within : {A : Type 0} → Rx A → Rx A
within r = level (nest r)

-- ---- the operators of each level

abbrev pub first_of : Level → Class
first_of l.Product = k.Star
first_of l.Sum = k.Plus
first_of l.Shift = k.ShiftLeft
first_of l.Order = k.Less
first_of l.Equality = k.EqualEqual
first_of l.BitAnd = k.And
first_of l.BitXor = k.Xor
first_of l.BitOr = k.Or
first_of l.Both = k.AndAnd
first_of l.Either = k.OrOr

abbrev pub others_of : Level → List Class
others_of l.Product = k.Slash ∷ k.Percent ∷ []
others_of l.Sum = k.Minus ∷ []
others_of l.Shift = k.ShiftRight ∷ []
others_of l.Order = k.LessEqual ∷ k.Greater ∷ k.GreaterEqual ∷ []
others_of l.Equality = k.NotEqual ∷ []
others_of l.BitAnd = []
others_of l.BitXor = []
others_of l.BitOr = []
others_of l.Both = []
others_of l.Either = []

-- the words for widths, after `char`
abbrev pub other_widths : List Class
other_widths = k.Short ∷ k.Int ∷ k.Long ∷ []

-- the operators before an operand, after `-`
abbrev pub other_prefixes : List Class
other_prefixes = k.Tilde ∷ k.Not ∷ k.Star ∷ k.And ∷ k.PlusPlus ∷ k.MinusMinus ∷ []

-- the operators of assignments, after `=`
abbrev pub other_assigners : List Class
other_assigners =
    k.PlusAssign ∷ k.MinusAssign ∷ k.StarAssign ∷ k.SlashAssign ∷ k.PercentAssign ∷ k.AndAssign ∷ k.OrAssign ∷ k.XorAssign ∷ k.ShiftLeftAssign ∷ k.ShiftRightAssign ∷ []

-- what the operators of a level stand between
abbrev pub side_of : Level → Rx Operand
side_of l.Product = call n.Unary
side_of l.Sum = call (n.Binary l.Product)
side_of l.Shift = call (n.Binary l.Sum)
side_of l.Order = call (n.Binary l.Shift)
side_of l.Equality = call (n.Binary l.Order)
side_of l.BitAnd = call (n.Binary l.Equality)
side_of l.BitXor = call (n.Binary l.BitAnd)
side_of l.BitOr = call (n.Binary l.BitXor)
side_of l.Both = call (n.Binary l.BitOr)
side_of l.Either = call (n.Binary l.Both)

-- ---- the rules

abbrev pub rule : (n : N) → Rx (Of n)
rule n.Source = (call n.External ~ call n.Source => (λ p. p.0 ++ p.1)) or (eps => (λ _. []))
rule n.External =
    (mark k.Extern ~ call n.AnyBase ~ call n.Initialised ~ call n.MoreInitialised ~ mark k.Semicolon => (λ p. made.globals_of p.0 true p.1.0 p.1.1.0 p.1.1.1.0))
    or (mark k.Struct ~ name ~ call n.AfterTag => (λ p. p.1.1 p.0 p.1.0.name))
    or (call n.PlainBase ~ call (n.Stars 255) ~ name ~ call n.AfterName => (λ p. p.1.1.1 p.0.start p.0.base p.1.0 p.1.1.0))
rule n.AfterTag =
    (bracketed k.OpenBrace (call n.Member ~ call n.Members) k.CloseBrace ~ mark k.Semicolon => (λ p. λ start tag. made.struct_item start tag (p.0.1.0 ++ p.0.1.1)))
    or (call (n.Stars 255) ~ name ~ call n.AfterName => (λ p. λ start tag. p.1.1 start (b.Struct tag) p.0 p.1.0))
rule n.AfterName =
    (bracketed k.OpenParen (call n.Parameters) k.CloseParen ~ call n.Ending => (λ p. λ start base stars name. made.function_item start base stars name p.0.1 p.1))
    or (call n.Counts ~ call n.MaybeInit ~ call n.MoreInitialised ~ mark k.Semicolon => (λ p. λ start base stars name. made.globals_of start false (made.typed_at start base) (made.initialised start stars name p.0 p.1.0) p.1.1.0))
rule n.Ending = (mark k.Semicolon => (λ _. None)) or (call n.Block => (λ v. Some v))
rule n.Parameters =
    (mark k.Void ~ call n.AfterVoid => (λ p. p.1 p.0))
    or (call n.ObjectBase ~ call (n.Stars 255) ~ name ~ call n.MoreParameters => (λ p. made.parameter p.0.start p.0.base p.1.0 p.1.1.0 ∷ p.1.1.1))
rule n.AfterVoid =
    (call (n.Stars 255) ~ name ~ call n.MoreParameters => (λ p. λ start. made.parameter start b.Void p.0 p.1.0 ∷ p.1.1))
    or (eps => (λ _. λ start. []))
rule n.Parameter = call n.AnyBase ~ call (n.Stars 255) ~ name => (λ p. made.parameter p.0.start p.0.base p.1.0 p.1.1)
rule n.MoreParameters = many (mark k.Comma ~ call n.Parameter ~ call n.MoreParameters => (λ p. p.1))
rule n.Width = tok made.width_at k.Char other_widths
rule n.MaybeWidth = (call n.Width => (λ p. made.unsigned_of p.1)) or (eps => (λ _. made.unsigned_of I32))
rule n.Integer =
    (mark k.Signed ~ call n.Width => (λ p. (p.0, p.1.1)))
    or (mark k.Unsigned ~ call n.MaybeWidth => (λ p. (p.0, p.1)))
    or call n.Width
rule n.PlainBase = (mark k.Void => (λ place. made.typed_at place b.Void)) or (call n.Integer => (λ p. made.typed_at p.0 (b.Int p.1)))
rule n.ObjectBase = (mark k.Struct ~ name => (λ p. made.typed_at p.0 (b.Struct p.1.name))) or (call n.Integer => (λ p. made.typed_at p.0 (b.Int p.1)))
rule n.AnyBase = (mark k.Void => (λ place. made.typed_at place b.Void)) or call n.ObjectBase
rule n.TypeName = call n.AnyBase ~ call (n.Stars 255) => (λ p. made.kind_name p.0 p.1)
rule (n.Stars zero) = eps => (λ _. 0)
rule (n.Stars (suc most)) = (mark k.Star ~ call (n.Stars most) => (λ p. p.1 + 1)) or (eps => (λ _. 0))
rule n.Member = call n.AnyBase ~ call n.Declared ~ call n.MoreDeclared ~ mark k.Semicolon => (λ p. made.decls_of p.0 p.1.0 p.1.1.0)
rule n.Members = (call n.Member ~ call n.Members => (λ p. p.0 ++ p.1)) or (eps => (λ _. []))
rule n.Declared =
    (mark k.Star ~ call (n.Stars 254) ~ name ~ call n.Counts => (λ p. made.declarator p.0 (p.1.0 + 1) p.1.1.0 p.1.1.1))
    or (name ~ call n.Counts => (λ p. made.declarator p.0.place 0 p.0 p.1))
rule n.MoreDeclared = many (mark k.Comma ~ call n.Declared ~ call n.MoreDeclared => (λ p. p.1))
rule n.Counts = many (bracketed k.OpenBracket (call n.Conditional) k.CloseBracket ~ call n.Counts => (λ p. (p.0.1.tree, p.1)))
rule n.Initialised = call n.Declared ~ call n.MaybeInit => (λ p. record { declarator = p.0; init = p.1 })
rule n.MoreInitialised = many (mark k.Comma ~ call n.Initialised ~ call n.MoreInitialised => (λ p. p.1))
rule n.MaybeInit = maybe (mark k.Assign ~ call n.Initialiser => (λ p. p.1))
rule n.Initialiser =
    (bracketed k.OpenBrace (call n.Initialiser ~ call n.MoreInitialisers) k.CloseBrace => (λ p. made.many_inits p.0 p.1.0 p.1.1))
    or (level (call n.Assignment) => (λ a. made.one_init a))
rule n.MoreInitialisers = many (mark k.Comma ~ call n.Initialiser ~ call n.MoreInitialisers => (λ p. p.1))
rule n.Block = bracketed k.OpenBrace (call n.Statements) k.CloseBrace => (λ p. made.stmt p.0 (s.Block p.1))
rule n.Statements =
    (within (call n.Local) ~ call n.Statements => (λ p. p.0.1 ++ p.1))
    or (within (call n.Statement) ~ call n.Statements => (λ p. p.0 ∷ p.1))
    or (eps => (λ _. []))
rule n.Statement =
    call n.Block
    or call n.IfElse
    or call n.WhileDo
    or call n.DoWhile
    or call n.ForDo
    or (mark k.Break ~ mark k.Semicolon => (λ p. made.stmt p.0 s.Break))
    or (mark k.Continue ~ mark k.Semicolon => (λ p. made.stmt p.0 s.Continue))
    or call n.Returned
    or call n.Simple
rule n.Local = call n.AnyBase ~ call n.Initialised ~ call n.MoreInitialised ~ mark k.Semicolon => (λ p. (p.0.start, made.locals_of p.0 p.1.0 p.1.1.0))
rule n.Branch = (call n.Local => (λ p. made.stmt p.0 (s.Block p.1))) or call n.Statement
rule n.Nested = within (call n.Branch)
rule n.Condition = bracketed k.OpenParen (call n.Assignment) k.CloseParen => (λ p. p.1.tree)
rule n.IfElse = mark k.If ~ call n.Condition ~ call n.Nested ~ call n.Otherwise => (λ p. made.stmt p.0 (s.If p.1.0 p.1.1.0 p.1.1.1))
rule n.Otherwise = (mark k.Else ~ call n.Nested => (λ p. Some p.1)) or (no_else => (λ _. None))
rule n.WhileDo = mark k.While ~ call n.Condition ~ call n.Nested => (λ p. made.stmt p.0 (s.While p.1.0 p.1.1))
rule n.DoWhile = mark k.Do ~ call n.Nested ~ mark k.While ~ call n.Condition ~ mark k.Semicolon => (λ p. made.stmt p.0 (s.DoWhile p.1.0 p.1.1.1.0))
rule n.ForDo =
    mark k.For ~ bracketed k.OpenParen (call n.MaybeExpression ~ mark k.Semicolon ~ call n.MaybeExpression ~ mark k.Semicolon ~ call n.MaybeExpression) k.CloseParen ~ call n.Nested
    => (λ p. made.stmt p.0 (s.For p.1.0.1.0 p.1.0.1.1.1.0 p.1.0.1.1.1.1.1 p.1.1))
rule n.Returned = mark k.Return ~ call n.MaybeExpression ~ mark k.Semicolon => (λ p. made.stmt p.0 (s.Return p.1.0))
rule n.Simple =
    (mark k.Semicolon => (λ place. made.stmt place (s.Value None)))
    or (level (call n.Assignment) ~ mark k.Semicolon => (λ p. made.value_of p.0))
rule n.MaybeExpression = (level (call n.Assignment) => (λ a. Some a.tree)) or (eps => (λ _. None))
rule n.Assignment = call n.Conditional ~ call n.AssignmentTail => (λ p. p.1 p.0)
rule n.AssignmentTail =
    (nest (one_of k.Assign other_assigners) ~ call n.Assignment => (λ p. λ left. made.assigned p.0 left p.1))
    or (eps => (λ _. λ left. left))
rule n.Conditional = call (n.Binary l.Either) ~ call n.ConditionalTail => (λ p. p.1 p.0)
rule n.ConditionalTail =
    (nest (mark k.Question) ~ call n.Assignment ~ mark k.Colon ~ call n.Conditional => (λ p. λ test. made.chosen test p.1.0 p.1.1.1))
    or (eps => (λ _. λ test. test))
rule (n.Side level) = side_of level
rule (n.Binary level) = call (n.Side level) ~ call (n.BinaryTail level) => (λ p. p.1 p.0)
rule (n.BinaryTail level) =
    (nest (one_of (first_of level) (others_of level)) ~ call (n.Side level) ~ call (n.BinaryTail level) => (λ p. λ left. p.1.1 (made.joined p.0 left p.1.0)))
    or (eps => (λ _. λ left. left))
rule n.Unary = (nest (mark k.OpenParen) ~ call n.Opened => (λ p. p.1 p.0)) or call n.Plain
rule n.Opened =
    (call n.TypeName ~ mark k.CloseParen ~ call n.Unary => (λ p. λ start. made.cast_at start p.0 p.1.1))
    or (closing (call n.Assignment ~ mark k.CloseParen) ~ call n.Parts => (λ p. λ start. p.1 (made.enclosed start p.0.0)))
rule n.Plain =
    (nest (one_of k.Minus other_prefixes) ~ call n.Unary => (λ p. made.prefixed p.0 p.1))
    or (nest (mark k.SizeOf) ~ call n.Sized => (λ p. p.1 p.0))
    or (call n.Atom ~ call n.Parts => (λ p. p.1 p.0))
rule n.Sized =
    (nest (mark k.OpenParen) ~ call n.SizedOpened => (λ p. λ start. p.1 start p.0))
    or (call n.Plain => (λ a. λ start. made.size_of_value start a))
rule n.SizedOpened =
    (closing (call n.TypeName ~ mark k.CloseParen) => (λ p. λ start inner. made.size_of_kind start p.0))
    or (closing (call n.Assignment ~ mark k.CloseParen) ~ call n.Parts => (λ p. λ start inner. made.size_of_value start (p.1 (made.enclosed inner p.0.0))))
rule n.Atom =
    tok made.number_at k.Number []
    or tok made.character_at k.Character []
    or tok made.text_at k.Text []
    or (name ~ call n.MaybeCall => (λ p. p.1 p.0))
rule n.MaybeCall =
    (bracketed k.OpenParen (call n.Arguments) k.CloseParen => (λ p. λ name. made.called name p.1))
    or (eps => (λ _. λ name. made.variable name))
rule n.Arguments = many (level (call n.Assignment) ~ call n.MoreArguments => (λ p. (p.0.tree, p.1)))
rule n.MoreArguments = many (mark k.Comma ~ level (call n.Assignment) ~ call n.MoreArguments => (λ p. (p.1.0.tree, p.1.1)))
rule n.Part =
    (nest (mark k.OpenBracket) ~ level (call n.Assignment) ~ mark k.CloseBracket => (λ p. λ left. made.indexed left p.1.0))
    or (nest (mark k.Dot) ~ name => (λ p. λ left. made.member left p.1))
    or (nest (mark k.Arrow) ~ name => (λ p. λ left. made.pointed left p.1))
    or (nest (mark k.PlusPlus) => (λ _. λ left. made.stepped true left))
    or (nest (mark k.MinusMinus) => (λ _. λ left. made.stepped false left))
rule n.Parts = (call n.Part ~ call n.Parts => (λ p. λ left. p.1 (p.0 left))) or (eps => (λ _. λ left. left))

-- ---- what the grammar relates

-- by derivations of at most this height
abbrev pub Reads_within : ℕ → (n : N) → List Lexeme → Of n → List Lexeme → Type 0
Reads_within zero n ts v rest = ⊥
Reads_within (suc h) n ts v rest = Reads_with (Reads_within h) (rule n) ts v rest

-- a rule at these tokens has this value and leaves these
pub record Reads (n : N) (ts : List Lexeme) (v : Of n) (rest : List Lexeme) : Type 0 where
  pub height : ℕ
  pub reads : Reads_within height n ts v rest
