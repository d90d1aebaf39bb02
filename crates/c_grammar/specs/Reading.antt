-- How a rule is read from left to right: an alternative is taken exactly where the next token begins it. At most so many nestings may be open.
use Rattle.std.specs.Prelude.{nat_lt, ℕ, zero, suc, ◌+◌, ◌*◌, Bool, true, false, ◌||◌, ◌&&◌, if◌then◌else◌, List, [], ◌∷◌, length, Result, Ok, Err}
use Rattle.c_tokens.specs.declared.class.Class.{Class}
use Rattle.c_tokens.specs.declared.class.Class.TheVariants as k
use Rattle.c_grammar.specs.declared.parts.Level.TheVariants as l
use Rattle.c_grammar.specs.Lexemes.{Lexeme, same, look, among}
use Rattle.c_grammar.specs.Rules as n
use Rattle.c_grammar.specs.Rules.{N, Of, Rx, eps, no_else, tok, seq, alt, map, nest, scope, call, after_scope}
use Rattle.c_grammar.specs.Grammar.{rule, first_of, others_of, other_prefixes}

-- where reading stops: the tokens from the one that does not fit, or from the one that opens one nesting too many
pub data Halt : Type 0 where
  unfit : List Lexeme → Halt
  too_deep : List Lexeme → Halt

-- a value, the tokens after it and how many nestings are open, or where it stops
abbrev pub Out : Type 0 → Type 0
Out A = Result (A × List Lexeme × ℕ) Halt

abbrev pub and_then : {A B : Type 0} → Out A → (A → List Lexeme → ℕ → Out B) → Out B
and_then (Ok p) f = f p.0 p.1 p.2
and_then (Err at) f = Err at

-- ---- the tokens that begin what a rule reads

abbrev pub width_begins : List Class
width_begins = k.Char ∷ k.Short ∷ k.Int ∷ k.Long ∷ []

abbrev pub integer_begins : List Class
integer_begins = k.Signed ∷ k.Unsigned ∷ width_begins

abbrev pub base_begins : List Class
base_begins = k.Void ∷ k.Struct ∷ integer_begins

abbrev pub expression_begins : List Class
expression_begins = k.OpenParen ∷ k.Minus ∷ k.Tilde ∷ k.Not ∷ k.Star ∷ k.And ∷ k.PlusPlus ∷ k.MinusMinus ∷ k.SizeOf ∷ k.Number ∷ k.Character ∷ k.Text ∷ k.Name ∷ []

abbrev pub prefix_begins : List Class
prefix_begins = k.Minus ∷ other_prefixes

abbrev pub statement_begins : List Class
statement_begins = k.OpenBrace ∷ k.If ∷ k.While ∷ k.Do ∷ k.For ∷ k.Break ∷ k.Continue ∷ k.Return ∷ k.Semicolon ∷ expression_begins

abbrev pub begins : N → List Class
begins n.Source = k.Extern ∷ base_begins
begins n.External = k.Extern ∷ base_begins
begins n.AfterTag = k.OpenBrace ∷ k.Star ∷ k.Name ∷ []
begins n.AfterName = k.OpenParen ∷ k.OpenBracket ∷ k.Assign ∷ k.Comma ∷ k.Semicolon ∷ []
begins n.Ending = k.Semicolon ∷ k.OpenBrace ∷ []
begins n.Parameters = base_begins
begins n.AfterVoid = k.Star ∷ k.Name ∷ []
begins n.Parameter = base_begins
begins n.MoreParameters = k.Comma ∷ []
begins n.Width = width_begins
begins n.MaybeWidth = width_begins
begins n.Integer = integer_begins
begins n.PlainBase = k.Void ∷ integer_begins
begins n.ObjectBase = k.Struct ∷ integer_begins
begins n.AnyBase = base_begins
begins n.TypeName = base_begins
begins (n.Stars zero) = []
begins (n.Stars (suc most)) = k.Star ∷ []
begins n.Member = base_begins
begins n.Members = base_begins
begins n.Declared = k.Star ∷ k.Name ∷ []
begins n.MoreDeclared = k.Comma ∷ []
begins n.Counts = k.OpenBracket ∷ []
begins n.Initialised = k.Star ∷ k.Name ∷ []
begins n.MoreInitialised = k.Comma ∷ []
begins n.MaybeInit = k.Assign ∷ []
begins n.Initialiser = k.OpenBrace ∷ expression_begins
begins n.MoreInitialisers = k.Comma ∷ []
begins n.Block = k.OpenBrace ∷ []
begins n.Statements = k.Void ∷ k.Char ∷ k.Short ∷ k.Int ∷ k.Long ∷ k.Signed ∷ k.Unsigned ∷ k.Struct ∷ statement_begins
begins n.Statement = statement_begins
begins n.Local = base_begins
begins n.Branch = k.Void ∷ k.Char ∷ k.Short ∷ k.Int ∷ k.Long ∷ k.Signed ∷ k.Unsigned ∷ k.Struct ∷ statement_begins
begins n.Nested = k.Void ∷ k.Char ∷ k.Short ∷ k.Int ∷ k.Long ∷ k.Signed ∷ k.Unsigned ∷ k.Struct ∷ statement_begins
begins n.Condition = k.OpenParen ∷ []
begins n.IfElse = k.If ∷ []
begins n.Otherwise = k.Else ∷ []
begins n.WhileDo = k.While ∷ []
begins n.DoWhile = k.Do ∷ []
begins n.ForDo = k.For ∷ []
begins n.Returned = k.Return ∷ []
begins n.Simple = k.Semicolon ∷ expression_begins
begins n.MaybeExpression = expression_begins
begins n.Assignment = expression_begins
begins n.AssignmentTail = k.Assign ∷ k.PlusAssign ∷ k.MinusAssign ∷ k.StarAssign ∷ k.SlashAssign ∷ k.PercentAssign ∷ k.AndAssign ∷ k.OrAssign ∷ k.XorAssign ∷ k.ShiftLeftAssign ∷ k.ShiftRightAssign ∷ []
begins n.Conditional = expression_begins
begins n.ConditionalTail = k.Question ∷ []
begins n.Unary = expression_begins
begins n.Opened = k.Void ∷ k.Char ∷ k.Short ∷ k.Int ∷ k.Long ∷ k.Signed ∷ k.Unsigned ∷ k.Struct ∷ expression_begins
begins n.Plain = k.Minus ∷ k.Tilde ∷ k.Not ∷ k.Star ∷ k.And ∷ k.PlusPlus ∷ k.MinusMinus ∷ k.SizeOf ∷ k.Number ∷ k.Character ∷ k.Text ∷ k.Name ∷ []
begins n.Sized = expression_begins
begins n.SizedOpened = k.Void ∷ k.Char ∷ k.Short ∷ k.Int ∷ k.Long ∷ k.Signed ∷ k.Unsigned ∷ k.Struct ∷ expression_begins
begins n.Atom = k.Number ∷ k.Character ∷ k.Text ∷ k.Name ∷ []
begins n.MaybeCall = k.OpenParen ∷ []
begins n.Arguments = expression_begins
begins n.MoreArguments = k.Comma ∷ []
begins n.Part = k.OpenBracket ∷ k.Dot ∷ k.Arrow ∷ k.PlusPlus ∷ k.MinusMinus ∷ []
begins n.Parts = k.OpenBracket ∷ k.Dot ∷ k.Arrow ∷ k.PlusPlus ∷ k.MinusMinus ∷ []
begins (n.Side level) = expression_begins
begins (n.Binary level) = expression_begins
begins (n.BinaryTail level) = first_of level ∷ others_of level

-- a rule that may read nothing
abbrev pub skips_of : N → Bool
skips_of n.External = false
skips_of n.AfterTag = false
skips_of n.AfterName = false
skips_of n.Ending = false
skips_of n.Parameters = false
skips_of n.Parameter = false
skips_of n.Width = false
skips_of n.Integer = false
skips_of n.PlainBase = false
skips_of n.ObjectBase = false
skips_of n.AnyBase = false
skips_of n.TypeName = false
skips_of n.Member = false
skips_of n.Declared = false
skips_of n.Initialised = false
skips_of n.Initialiser = false
skips_of n.Block = false
skips_of n.Statement = false
skips_of n.Local = false
skips_of n.Branch = false
skips_of n.Nested = false
skips_of n.Condition = false
skips_of n.IfElse = false
skips_of n.WhileDo = false
skips_of n.DoWhile = false
skips_of n.ForDo = false
skips_of n.Returned = false
skips_of n.Simple = false
skips_of n.Assignment = false
skips_of n.Conditional = false
skips_of n.Unary = false
skips_of n.Opened = false
skips_of n.Plain = false
skips_of n.Sized = false
skips_of n.SizedOpened = false
skips_of n.Atom = false
skips_of n.Part = false
skips_of (n.Side level) = false
skips_of (n.Binary level) = false
skips_of _ = true

abbrev pub skips : {A : Type 0} → Rx A → Bool
skips eps = true
skips no_else = true
skips (tok f c cs) = false
skips (seq r s) = skips r && skips s
skips (alt r s) = skips r || skips s
skips (map f r) = skips r
skips (nest r) = skips r
skips (scope f r) = skips r
skips (call n) = skips_of n

abbrev pub starts : {A : Type 0} → Rx A → Class → Bool
starts eps c = false
starts no_else c = false
starts (tok f d ds) c = among c (d ∷ ds)
starts (seq r s) c = if skips r then starts r c || starts s c else starts r c
starts (alt r s) c = starts r c || starts s c
starts (map f r) c = starts r c
starts (nest r) c = starts r c
starts (scope f r) c = starts r c
starts (call n) c = among c (begins n)

-- ---- reading

unfoldable pub take_tok : {A : Type 0} → (Lexeme → A) → Class → List Class → ℕ → List Lexeme → Out A
take_tok f c cs d [] = Err (unfit [])
take_tok f c cs d (t ∷ ts) = if among t.class (c ∷ cs) then Ok (f t, ts, d) else Err (unfit (t ∷ ts))

-- whether one nesting more may open where so many are open
abbrev pub Allow : Type 0
Allow = ℕ → Bool

-- what is read where one nesting more opens, if the next token opens it
abbrev pub deeper : {A : Type 0} → Bool → Bool → List Lexeme → Out A → Out A
deeper begun allowed ts deep = if begun then (if allowed then deep else Err (too_deep ts)) else Err (unfit ts)

abbrev pub parse_with : Allow → ((n : N) → ℕ → List Lexeme → Out (Of n)) → {A : Type 0} → Rx A → ℕ → List Lexeme → Out A
parse_with L P eps d ts = Ok (tt, ts, d)
parse_with L P no_else d ts = if same (look ts) k.Else then Err (unfit ts) else Ok (tt, ts, d)
parse_with L P (tok f c cs) d ts = take_tok f c cs d ts
parse_with L P (seq {A} {B} r s) d ts = and_then {B = A × B} (parse_with L P r d ts) (λ a mid d'. and_then {B = A × B} (parse_with L P s d' mid) (λ b rest d''. Ok ((a, b), rest, d'')))
parse_with L P (alt r s) d ts = if starts r (look ts) then parse_with L P r d ts else parse_with L P s d ts
parse_with L P (map {A} {B} f r) d ts = and_then {B = B} (parse_with L P r d ts) (λ a rest d'. Ok (f a, rest, d'))
parse_with L P (nest r) d ts = deeper (starts r (look ts)) (L d) ts (parse_with L P r (d + 1) ts)
parse_with L P (scope {A} f r) d ts = and_then {B = A} (parse_with L P r d ts) (λ a rest d'. Ok (a, rest, after_scope f d))
parse_with L P (call n) d ts = P n d ts

-- rules that call each other without reading a token go down
abbrev pub rank : N → ℕ
rank n.Source = 4
rank n.External = 3
rank n.AfterTag = 1
rank n.AfterName = 1
rank n.Ending = 1
rank n.Parameters = 3
rank n.AfterVoid = 1
rank n.Parameter = 4
rank n.MaybeWidth = 1
rank n.Integer = 1
rank n.PlainBase = 2
rank n.ObjectBase = 2
rank n.AnyBase = 3
rank n.TypeName = 4
rank n.Member = 4
rank n.Members = 5
rank n.Initialised = 1
rank n.Initialiser = 25
rank n.Statements = 27
rank n.Statement = 26
rank n.Local = 4
rank n.Branch = 27
rank n.Nested = 28
rank n.Simple = 25
rank n.MaybeExpression = 25
rank n.Assignment = 24
rank n.Conditional = 23
rank (n.Side l.Product) = 3
rank (n.Side l.Sum) = 5
rank (n.Side l.Shift) = 7
rank (n.Side l.Order) = 9
rank (n.Side l.Equality) = 11
rank (n.Side l.BitAnd) = 13
rank (n.Side l.BitXor) = 15
rank (n.Side l.BitOr) = 17
rank (n.Side l.Both) = 19
rank (n.Side l.Either) = 21
rank (n.Binary l.Product) = 4
rank (n.Binary l.Sum) = 6
rank (n.Binary l.Shift) = 8
rank (n.Binary l.Order) = 10
rank (n.Binary l.Equality) = 12
rank (n.Binary l.BitAnd) = 14
rank (n.Binary l.BitXor) = 16
rank (n.Binary l.BitOr) = 18
rank (n.Binary l.Both) = 20
rank (n.Binary l.Either) = 22
rank n.Unary = 2
rank n.Opened = 25
rank n.Plain = 1
rank n.Sized = 2
rank n.SizedOpened = 25
rank n.Arguments = 25
rank n.Parts = 1
rank _ = 0

abbrev pub size : N → List Lexeme → ℕ
size n ts = 32 * length ts + rank n

abbrev pub parse_within : Allow → ℕ → (n : N) → ℕ → List Lexeme → Out (Of n)
parse_within L zero n d ts = Err (unfit ts)
parse_within L (suc h) n d ts = parse_with L (parse_within L h) (rule n) d ts

unfoldable pub parse : Allow → (n : N) → ℕ → List Lexeme → Out (Of n)
parse L n d ts = parse_within L (suc (size n ts)) n d ts

-- the same with what comes after it, as a chain of steps
abbrev pub steps_with : Allow → ((n : N) → ℕ → List Lexeme → Out (Of n)) → {A B : Type 0} → Rx A → ℕ → List Lexeme → (A → List Lexeme → ℕ → Out B) → Out B
steps_with L P eps d ts f = f tt ts d
steps_with L P no_else d ts f = if same (look ts) k.Else then Err (unfit ts) else f tt ts d
steps_with L P (tok g c cs) d ts f = and_then (take_tok g c cs d ts) f
steps_with L P (seq r s) d ts f = steps_with L P r d ts (λ a mid d'. steps_with L P s d' mid (λ b rest d''. f (a, b) rest d''))
steps_with L P (alt r s) d ts f = if starts r (look ts) then steps_with L P r d ts f else steps_with L P s d ts f
steps_with L P (map g r) d ts f = steps_with L P r d ts (λ a rest d'. f (g a) rest d')
steps_with L P (nest r) d ts f = deeper (starts r (look ts)) (L d) ts (steps_with L P r (d + 1) ts f)
steps_with L P (scope g r) d ts f = steps_with L P r d ts (λ a rest d'. f a rest (after_scope g d))
steps_with L P (call n) d ts f = and_then (P n d ts) f

-- at most 200 nestings are open
abbrev pub limit : Allow
limit d = nat_lt d 200

-- what a rule reads
abbrev pub steps_of : {A : Type 0} → Rx A → ℕ → List Lexeme → Out A
steps_of r d ts = steps_with limit (parse limit) r d ts (λ v rest d'. Ok (v, rest, d'))

abbrev pub steps : (n : N) → ℕ → List Lexeme → Out (Of n)
steps n d ts = steps_of (rule n) d ts
