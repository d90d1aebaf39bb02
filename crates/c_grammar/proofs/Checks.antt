-- What makes a grammar readable from left to right, as tests that compute.
use Rattle.std.proofs.Common.{◌≡◌, ℕ, zero, suc, Bool, true, false, not, ◌||◌, ◌&&◌, if◌then◌else◌, List, [], ◌∷◌, refl, sym, nat_lt}
use Rattle.c_tokens.specs.declared.class.Class.{Class}
use Rattle.c_tokens.specs.declared.class.Class.TheVariants as k
use Rattle.c_grammar.specs.Lexemes.{same, among}
use Rattle.c_grammar.specs.declared.parts.Level.{Level}
use Rattle.c_grammar.specs.declared.parts.Level.TheVariants as l
use Rattle.c_grammar.specs.Rules as n
use Rattle.c_grammar.specs.Rules.{N, Of, Rx, eps, no_else, tok, seq, alt, map, nest, scope, call}
use Rattle.c_grammar.specs.Grammar.{rule}
use Rattle.c_grammar.specs.Reading.{width_begins, base_begins, statement_begins, begins, skips_of, skips, starts, rank}

-- ---- tests over all kinds

abbrev pub all_of : (Class → Bool) → List Class → Bool
all_of p [] = true
all_of p (c ∷ cs) = p c && all_of p cs

abbrev pub kinds : List Class
kinds = k.Name ∷ k.Number ∷ k.Character ∷ k.Text ∷ k.Void ∷ k.Char ∷ k.Short ∷ k.Int ∷ k.Long ∷ k.Signed ∷ k.Unsigned ∷ k.Struct ∷ k.Extern ∷ k.If ∷ k.Else ∷ k.While ∷ k.Do ∷ k.For ∷ k.Break ∷ k.Continue ∷ k.Return ∷ k.SizeOf ∷ k.OpenParen ∷ k.CloseParen ∷ k.OpenBrace ∷ k.CloseBrace ∷ k.OpenBracket ∷ k.CloseBracket ∷ k.Semicolon ∷ k.Comma ∷ k.Dot ∷ k.Arrow ∷ k.Question ∷ k.Colon ∷ k.Plus ∷ k.Minus ∷ k.Star ∷ k.Slash ∷ k.Percent ∷ k.PlusPlus ∷ k.MinusMinus ∷ k.ShiftLeft ∷ k.ShiftRight ∷ k.Less ∷ k.LessEqual ∷ k.Greater ∷ k.GreaterEqual ∷ k.EqualEqual ∷ k.NotEqual ∷ k.And ∷ k.Xor ∷ k.Or ∷ k.AndAnd ∷ k.OrOr ∷ k.Tilde ∷ k.Not ∷ k.Assign ∷ k.PlusAssign ∷ k.MinusAssign ∷ k.StarAssign ∷ k.SlashAssign ∷ k.PercentAssign ∷ k.ShiftLeftAssign ∷ k.ShiftRightAssign ∷ k.AndAssign ∷ k.XorAssign ∷ k.OrAssign ∷ k.End ∷ []

pub and_left : (a b : Bool) → (a && b) ≡ true → a ≡ true
and_left true b h = refl
and_left false b h = h

pub and_right : (a b : Bool) → (a && b) ≡ true → b ≡ true
and_right true b h = h
and_right false b h = elim b as (λ v. v ≡ true) [ true ↦ refl | false ↦ h ]

pub or_left : (a b : Bool) → (a || b) ≡ false → a ≡ false
or_left true b h = h
or_left false b h = refl

pub or_right : (a b : Bool) → (a || b) ≡ false → b ≡ false
or_right true b h = elim b as (λ v. v ≡ false) [ true ↦ h | false ↦ refl ]
or_right false b h = h

pub or_true : (a b : Bool) → a ≡ true → (a || b) ≡ true
or_true true b h = refl
or_true false b h = cc

pub or_true_right : (a b : Bool) → b ≡ true → (a || b) ≡ true
or_true_right true b h = refl
or_true_right false b h = h

pub not_both : (a b : Bool) → not (a && b) ≡ true → a ≡ true → b ≡ true → ⊥
not_both true true h p q = cc
not_both true false h p q = cc
not_both false b h p q = cc

pub is_false : (a : Bool) → (a ≡ true → ⊥) → a ≡ false
is_false true h = absurd (h refl)
is_false false h = refl

pub is_not : (a : Bool) → not a ≡ true → a ≡ false
is_not true h = sym h
is_not false h = refl

pub clash : {a : Bool} → a ≡ true → a ≡ false → ⊥
clash p q = cc

abbrev pub drop_kinds : ℕ → List Class → List Class
drop_kinds zero cs = cs
drop_kinds (suc n) [] = []
drop_kinds (suc n) (c ∷ cs) = drop_kinds n cs

all_drop : (p : Class → Bool) (n : ℕ) (cs : List Class) → all_of p cs ≡ true → all_of p (drop_kinds n cs) ≡ true
all_drop p zero cs h = h
all_drop p (suc n) [] h = h
all_drop p (suc n) (c ∷ cs) h = all_drop p n cs (and_right (p c) (all_of p cs) h)

all_head : (p : Class → Bool) (c : Class) (cs : List Class) → all_of p (c ∷ cs) ≡ true → p c ≡ true
all_head p c cs h = and_left (p c) (all_of p cs) h

-- what holds of each kind of the list holds of each kind
pub every : (p : Class → Bool) → all_of p kinds ≡ true → (c : Class) → p c ≡ true
every p h k.Name = all_head p k.Name (drop_kinds 1 kinds) (all_drop p 0 kinds h)
every p h k.Number = all_head p k.Number (drop_kinds 2 kinds) (all_drop p 1 kinds h)
every p h k.Character = all_head p k.Character (drop_kinds 3 kinds) (all_drop p 2 kinds h)
every p h k.Text = all_head p k.Text (drop_kinds 4 kinds) (all_drop p 3 kinds h)
every p h k.Void = all_head p k.Void (drop_kinds 5 kinds) (all_drop p 4 kinds h)
every p h k.Char = all_head p k.Char (drop_kinds 6 kinds) (all_drop p 5 kinds h)
every p h k.Short = all_head p k.Short (drop_kinds 7 kinds) (all_drop p 6 kinds h)
every p h k.Int = all_head p k.Int (drop_kinds 8 kinds) (all_drop p 7 kinds h)
every p h k.Long = all_head p k.Long (drop_kinds 9 kinds) (all_drop p 8 kinds h)
every p h k.Signed = all_head p k.Signed (drop_kinds 10 kinds) (all_drop p 9 kinds h)
every p h k.Unsigned = all_head p k.Unsigned (drop_kinds 11 kinds) (all_drop p 10 kinds h)
every p h k.Struct = all_head p k.Struct (drop_kinds 12 kinds) (all_drop p 11 kinds h)
every p h k.Extern = all_head p k.Extern (drop_kinds 13 kinds) (all_drop p 12 kinds h)
every p h k.If = all_head p k.If (drop_kinds 14 kinds) (all_drop p 13 kinds h)
every p h k.Else = all_head p k.Else (drop_kinds 15 kinds) (all_drop p 14 kinds h)
every p h k.While = all_head p k.While (drop_kinds 16 kinds) (all_drop p 15 kinds h)
every p h k.Do = all_head p k.Do (drop_kinds 17 kinds) (all_drop p 16 kinds h)
every p h k.For = all_head p k.For (drop_kinds 18 kinds) (all_drop p 17 kinds h)
every p h k.Break = all_head p k.Break (drop_kinds 19 kinds) (all_drop p 18 kinds h)
every p h k.Continue = all_head p k.Continue (drop_kinds 20 kinds) (all_drop p 19 kinds h)
every p h k.Return = all_head p k.Return (drop_kinds 21 kinds) (all_drop p 20 kinds h)
every p h k.SizeOf = all_head p k.SizeOf (drop_kinds 22 kinds) (all_drop p 21 kinds h)
every p h k.OpenParen = all_head p k.OpenParen (drop_kinds 23 kinds) (all_drop p 22 kinds h)
every p h k.CloseParen = all_head p k.CloseParen (drop_kinds 24 kinds) (all_drop p 23 kinds h)
every p h k.OpenBrace = all_head p k.OpenBrace (drop_kinds 25 kinds) (all_drop p 24 kinds h)
every p h k.CloseBrace = all_head p k.CloseBrace (drop_kinds 26 kinds) (all_drop p 25 kinds h)
every p h k.OpenBracket = all_head p k.OpenBracket (drop_kinds 27 kinds) (all_drop p 26 kinds h)
every p h k.CloseBracket = all_head p k.CloseBracket (drop_kinds 28 kinds) (all_drop p 27 kinds h)
every p h k.Semicolon = all_head p k.Semicolon (drop_kinds 29 kinds) (all_drop p 28 kinds h)
every p h k.Comma = all_head p k.Comma (drop_kinds 30 kinds) (all_drop p 29 kinds h)
every p h k.Dot = all_head p k.Dot (drop_kinds 31 kinds) (all_drop p 30 kinds h)
every p h k.Arrow = all_head p k.Arrow (drop_kinds 32 kinds) (all_drop p 31 kinds h)
every p h k.Question = all_head p k.Question (drop_kinds 33 kinds) (all_drop p 32 kinds h)
every p h k.Colon = all_head p k.Colon (drop_kinds 34 kinds) (all_drop p 33 kinds h)
every p h k.Plus = all_head p k.Plus (drop_kinds 35 kinds) (all_drop p 34 kinds h)
every p h k.Minus = all_head p k.Minus (drop_kinds 36 kinds) (all_drop p 35 kinds h)
every p h k.Star = all_head p k.Star (drop_kinds 37 kinds) (all_drop p 36 kinds h)
every p h k.Slash = all_head p k.Slash (drop_kinds 38 kinds) (all_drop p 37 kinds h)
every p h k.Percent = all_head p k.Percent (drop_kinds 39 kinds) (all_drop p 38 kinds h)
every p h k.PlusPlus = all_head p k.PlusPlus (drop_kinds 40 kinds) (all_drop p 39 kinds h)
every p h k.MinusMinus = all_head p k.MinusMinus (drop_kinds 41 kinds) (all_drop p 40 kinds h)
every p h k.ShiftLeft = all_head p k.ShiftLeft (drop_kinds 42 kinds) (all_drop p 41 kinds h)
every p h k.ShiftRight = all_head p k.ShiftRight (drop_kinds 43 kinds) (all_drop p 42 kinds h)
every p h k.Less = all_head p k.Less (drop_kinds 44 kinds) (all_drop p 43 kinds h)
every p h k.LessEqual = all_head p k.LessEqual (drop_kinds 45 kinds) (all_drop p 44 kinds h)
every p h k.Greater = all_head p k.Greater (drop_kinds 46 kinds) (all_drop p 45 kinds h)
every p h k.GreaterEqual = all_head p k.GreaterEqual (drop_kinds 47 kinds) (all_drop p 46 kinds h)
every p h k.EqualEqual = all_head p k.EqualEqual (drop_kinds 48 kinds) (all_drop p 47 kinds h)
every p h k.NotEqual = all_head p k.NotEqual (drop_kinds 49 kinds) (all_drop p 48 kinds h)
every p h k.And = all_head p k.And (drop_kinds 50 kinds) (all_drop p 49 kinds h)
every p h k.Xor = all_head p k.Xor (drop_kinds 51 kinds) (all_drop p 50 kinds h)
every p h k.Or = all_head p k.Or (drop_kinds 52 kinds) (all_drop p 51 kinds h)
every p h k.AndAnd = all_head p k.AndAnd (drop_kinds 53 kinds) (all_drop p 52 kinds h)
every p h k.OrOr = all_head p k.OrOr (drop_kinds 54 kinds) (all_drop p 53 kinds h)
every p h k.Tilde = all_head p k.Tilde (drop_kinds 55 kinds) (all_drop p 54 kinds h)
every p h k.Not = all_head p k.Not (drop_kinds 56 kinds) (all_drop p 55 kinds h)
every p h k.Assign = all_head p k.Assign (drop_kinds 57 kinds) (all_drop p 56 kinds h)
every p h k.PlusAssign = all_head p k.PlusAssign (drop_kinds 58 kinds) (all_drop p 57 kinds h)
every p h k.MinusAssign = all_head p k.MinusAssign (drop_kinds 59 kinds) (all_drop p 58 kinds h)
every p h k.StarAssign = all_head p k.StarAssign (drop_kinds 60 kinds) (all_drop p 59 kinds h)
every p h k.SlashAssign = all_head p k.SlashAssign (drop_kinds 61 kinds) (all_drop p 60 kinds h)
every p h k.PercentAssign = all_head p k.PercentAssign (drop_kinds 62 kinds) (all_drop p 61 kinds h)
every p h k.ShiftLeftAssign = all_head p k.ShiftLeftAssign (drop_kinds 63 kinds) (all_drop p 62 kinds h)
every p h k.ShiftRightAssign = all_head p k.ShiftRightAssign (drop_kinds 64 kinds) (all_drop p 63 kinds h)
every p h k.AndAssign = all_head p k.AndAssign (drop_kinds 65 kinds) (all_drop p 64 kinds h)
every p h k.XorAssign = all_head p k.XorAssign (drop_kinds 66 kinds) (all_drop p 65 kinds h)
every p h k.OrAssign = all_head p k.OrAssign (drop_kinds 67 kinds) (all_drop p 66 kinds h)
every p h k.End = all_head p k.End (drop_kinds 68 kinds) (all_drop p 67 kinds h)

-- ---- tests on rules

-- the kinds before which a rule may read nothing
abbrev pub nulls_of : N → Class → Bool
nulls_of n.Otherwise c = not (same c k.Else)
nulls_of m c = skips_of m

abbrev pub nulls : {A : Type 0} → Rx A → Class → Bool
nulls eps c = true
nulls no_else c = not (same c k.Else)
nulls (tok f d ds) c = false
nulls (seq r s) c = nulls r c && nulls s c
nulls (alt r s) c = nulls r c || nulls s c
nulls (map f r) c = nulls r c
nulls (nest r) c = nulls r c
nulls (scope f r) c = nulls r c
nulls (call n) c = nulls_of n c

abbrev pub unary_goes : List Class
unary_goes = k.OpenParen ∷ k.OpenBracket ∷ k.Dot ∷ k.Arrow ∷ k.PlusPlus ∷ k.MinusMinus ∷ []

abbrev pub product_goes : List Class
product_goes = k.Star ∷ k.Slash ∷ k.Percent ∷ unary_goes

abbrev pub sum_goes : List Class
sum_goes = k.Plus ∷ k.Minus ∷ product_goes

abbrev pub shift_goes : List Class
shift_goes = k.ShiftLeft ∷ k.ShiftRight ∷ sum_goes

abbrev pub order_goes : List Class
order_goes = k.Less ∷ k.LessEqual ∷ k.Greater ∷ k.GreaterEqual ∷ shift_goes

abbrev pub equality_goes : List Class
equality_goes = k.EqualEqual ∷ k.NotEqual ∷ order_goes

abbrev pub bitand_goes : List Class
bitand_goes = k.And ∷ equality_goes

abbrev pub bitxor_goes : List Class
bitxor_goes = k.Xor ∷ bitand_goes

abbrev pub bitor_goes : List Class
bitor_goes = k.Or ∷ bitxor_goes

abbrev pub both_goes : List Class
both_goes = k.AndAnd ∷ bitor_goes

abbrev pub either_goes : List Class
either_goes = k.OrOr ∷ both_goes

abbrev pub level_goes : Level → List Class
level_goes l.Product = product_goes
level_goes l.Sum = sum_goes
level_goes l.Shift = shift_goes
level_goes l.Order = order_goes
level_goes l.Equality = equality_goes
level_goes l.BitAnd = bitand_goes
level_goes l.BitXor = bitxor_goes
level_goes l.BitOr = bitor_goes
level_goes l.Both = both_goes
level_goes l.Either = either_goes

abbrev pub conditional_goes : List Class
conditional_goes = k.Question ∷ either_goes

abbrev pub assignment_goes : List Class
assignment_goes = k.Assign ∷ k.PlusAssign ∷ k.MinusAssign ∷ k.StarAssign ∷ k.SlashAssign ∷ k.PercentAssign ∷ k.ShiftLeftAssign ∷ k.ShiftRightAssign ∷ k.AndAssign ∷ k.XorAssign ∷ k.OrAssign ∷ conditional_goes

abbrev pub goes : N → List Class
goes n.Source = k.Void ∷ k.Char ∷ k.Short ∷ k.Int ∷ k.Long ∷ k.Signed ∷ k.Unsigned ∷ k.Struct ∷ k.Extern ∷ []
goes n.Parameters = k.Name ∷ k.Comma ∷ k.Star ∷ []
goes n.AfterVoid = k.Name ∷ k.Comma ∷ k.Star ∷ []
goes n.MoreParameters = k.Comma ∷ []
goes n.MaybeWidth = width_begins
goes n.Integer = width_begins
goes n.PlainBase = width_begins
goes n.ObjectBase = width_begins
goes n.AnyBase = width_begins
goes n.TypeName = k.Char ∷ k.Short ∷ k.Int ∷ k.Long ∷ k.Star ∷ []
goes (n.Stars most) = k.Star ∷ []
goes n.Members = base_begins
goes n.Declared = k.OpenBracket ∷ []
goes n.MoreDeclared = k.OpenBracket ∷ k.Comma ∷ []
goes n.Counts = k.OpenBracket ∷ []
goes n.Initialised = assignment_goes
goes n.MoreInitialised = k.Comma ∷ assignment_goes
goes n.MaybeInit = assignment_goes
goes n.Initialiser = assignment_goes
goes n.MoreInitialisers = k.Comma ∷ assignment_goes
goes n.Statements = k.Void ∷ k.Char ∷ k.Short ∷ k.Int ∷ k.Long ∷ k.Signed ∷ k.Unsigned ∷ k.Struct ∷ statement_begins
goes n.MaybeExpression = k.Name ∷ k.Number ∷ k.Character ∷ k.Text ∷ k.SizeOf ∷ k.Tilde ∷ k.Not ∷ assignment_goes
goes n.Assignment = assignment_goes
goes n.AssignmentTail = assignment_goes
goes n.Conditional = conditional_goes
goes n.ConditionalTail = conditional_goes
goes n.Unary = unary_goes
goes n.Opened = unary_goes
goes n.Plain = unary_goes
goes n.Sized = unary_goes
goes n.SizedOpened = k.OpenBracket ∷ k.Dot ∷ k.Arrow ∷ k.PlusPlus ∷ k.MinusMinus ∷ []
goes n.Atom = k.OpenParen ∷ []
goes n.MaybeCall = k.OpenParen ∷ []
goes n.Arguments = k.Name ∷ k.Number ∷ k.Character ∷ k.Text ∷ k.SizeOf ∷ k.Comma ∷ k.Tilde ∷ k.Not ∷ assignment_goes
goes n.MoreArguments = k.Comma ∷ assignment_goes
goes n.Parts = k.OpenBracket ∷ k.Dot ∷ k.Arrow ∷ k.PlusPlus ∷ k.MinusMinus ∷ []
goes (n.Side l.Product) = unary_goes
goes (n.Side l.Sum) = product_goes
goes (n.Side l.Shift) = sum_goes
goes (n.Side l.Order) = shift_goes
goes (n.Side l.Equality) = order_goes
goes (n.Side l.BitAnd) = equality_goes
goes (n.Side l.BitXor) = bitand_goes
goes (n.Side l.BitOr) = bitxor_goes
goes (n.Side l.Both) = bitor_goes
goes (n.Side l.Either) = both_goes
goes (n.Binary level) = level_goes level
goes (n.BinaryTail level) = level_goes level
goes _ = []

abbrev pub more : {A : Type 0} → Rx A → Class → Bool
more eps c = false
more no_else c = false
more (tok f d ds) c = false
more (seq r s) c = more s c || (nulls s c && more r c)
more (alt r s) c = (more r c || more s c) || (starts r c && nulls s c)
more (map f r) c = more r c
more (nest r) c = more r c
more (scope f r) c = more r c
more (call n) c = among c (goes n)

-- no word that completes it begins with `else`
abbrev pub calm : {A : Type 0} → Rx A → Bool
calm eps = true
calm no_else = true
calm (tok f c cs) = not (same c k.Else)
calm (seq r s) = calm r && calm s
calm (alt r s) = calm s
calm (map f r) = calm r
calm (nest r) = calm r
calm (scope f r) = calm r
calm (call n) = true

abbrev pub fine : {A : Type 0} → Rx A → Bool
fine eps = true
fine no_else = true
fine (tok f c cs) = not (among k.End (c ∷ cs))
fine (seq r s) = (fine r && fine s) && ((calm s && all_of (λ c. not (more r c && starts s c)) kinds) && all_of (λ c. not (skips r) || nulls r c) kinds)
fine (alt r s) = (fine r && fine s) && (not (skips r) && all_of (λ c. not (starts r c && starts s c)) kinds)
fine (map f r) = fine r
fine (nest r) = fine r && not (skips r)
fine (scope f r) = fine r && not (skips r)
fine (call n) = true

abbrev pub equal : Bool → Bool → Bool
equal true b = b
equal false b = not b

abbrev pub implies : Bool → Bool → Bool
implies true b = b
implies false b = true

-- the tables say what the rule says
abbrev pub tables : N → Bool
tables n = all_of (λ c. equal (starts (rule n) c) (among c (begins n))) kinds && (all_of (λ c. equal (nulls (rule n) c) (nulls_of n c)) kinds && all_of (λ c. implies (more (rule n) c) (among c (goes n))) kinds)

-- the rules that are called before a token is read have a lower rank
abbrev pub lower : {A : Type 0} → Rx A → ℕ → Bool
lower (seq r s) m = lower r m && (if skips r then lower s m else true)
lower (alt r s) m = lower r m && lower s m
lower (map f r) m = lower r m
lower (nest r) m = lower r m
lower (scope f r) m = lower r m
lower (call n) m = nat_lt (rank n) m
lower eps m = true
lower no_else m = true
lower (tok f c cs) m = true

abbrev pub ends_with : (N → Bool) → {A : Type 0} → Rx A → Bool
ends_with E eps = true
ends_with E no_else = true
ends_with E (tok f c cs) = true
ends_with E (seq r s) = ends_with E r && ends_with E s
ends_with E (alt r s) = ends_with E s
ends_with E (map f r) = ends_with E r
ends_with E (nest r) = ends_with E r
ends_with E (scope f r) = ends_with E r
ends_with E (call n) = E n

abbrev pub ends_within : ℕ → N → Bool
ends_within zero n = false
ends_within (suc h) n = ends_with (ends_within h) (rule n)

abbrev pub checked : N → Bool
checked n = (fine (rule n) && calm (rule n)) && (tables n && ((equal (skips (rule n)) (skips_of n) && lower (rule n) (rank n)) && ends_within 40 n))

pub all_checked : (m : N) → checked m ≡ true
unfolding same
all_checked n.Source = refl
all_checked n.External = refl
all_checked n.AfterTag = refl
all_checked n.AfterName = refl
all_checked n.Ending = refl
all_checked n.Parameters = refl
all_checked n.AfterVoid = refl
all_checked n.Parameter = refl
all_checked n.MoreParameters = refl
all_checked n.Width = refl
all_checked n.MaybeWidth = refl
all_checked n.Integer = refl
all_checked n.PlainBase = refl
all_checked n.ObjectBase = refl
all_checked n.AnyBase = refl
all_checked n.TypeName = refl
all_checked (n.Stars zero) = refl
all_checked (n.Stars (suc most)) = refl
all_checked n.Member = refl
all_checked n.Members = refl
all_checked n.Declared = refl
all_checked n.MoreDeclared = refl
all_checked n.Counts = refl
all_checked n.Initialised = refl
all_checked n.MoreInitialised = refl
all_checked n.MaybeInit = refl
all_checked n.Initialiser = refl
all_checked n.MoreInitialisers = refl
all_checked n.Block = refl
all_checked n.Statements = refl
all_checked n.Statement = refl
all_checked n.Local = refl
all_checked n.Branch = refl
all_checked n.Nested = refl
all_checked n.Condition = refl
all_checked n.IfElse = refl
all_checked n.Otherwise = refl
all_checked n.WhileDo = refl
all_checked n.DoWhile = refl
all_checked n.ForDo = refl
all_checked n.Returned = refl
all_checked n.Simple = refl
all_checked n.MaybeExpression = refl
all_checked n.Assignment = refl
all_checked n.AssignmentTail = refl
all_checked n.Conditional = refl
all_checked n.ConditionalTail = refl
all_checked (n.Side l.Product) = refl
all_checked (n.Side l.Sum) = refl
all_checked (n.Side l.Shift) = refl
all_checked (n.Side l.Order) = refl
all_checked (n.Side l.Equality) = refl
all_checked (n.Side l.BitAnd) = refl
all_checked (n.Side l.BitXor) = refl
all_checked (n.Side l.BitOr) = refl
all_checked (n.Side l.Both) = refl
all_checked (n.Side l.Either) = refl
all_checked (n.Binary l.Product) = refl
all_checked (n.Binary l.Sum) = refl
all_checked (n.Binary l.Shift) = refl
all_checked (n.Binary l.Order) = refl
all_checked (n.Binary l.Equality) = refl
all_checked (n.Binary l.BitAnd) = refl
all_checked (n.Binary l.BitXor) = refl
all_checked (n.Binary l.BitOr) = refl
all_checked (n.Binary l.Both) = refl
all_checked (n.Binary l.Either) = refl
all_checked (n.BinaryTail l.Product) = refl
all_checked (n.BinaryTail l.Sum) = refl
all_checked (n.BinaryTail l.Shift) = refl
all_checked (n.BinaryTail l.Order) = refl
all_checked (n.BinaryTail l.Equality) = refl
all_checked (n.BinaryTail l.BitAnd) = refl
all_checked (n.BinaryTail l.BitXor) = refl
all_checked (n.BinaryTail l.BitOr) = refl
all_checked (n.BinaryTail l.Both) = refl
all_checked (n.BinaryTail l.Either) = refl
all_checked n.Unary = refl
all_checked n.Opened = refl
all_checked n.Plain = refl
all_checked n.Sized = refl
all_checked n.SizedOpened = refl
all_checked n.Atom = refl
all_checked n.MaybeCall = refl
all_checked n.Arguments = refl
all_checked n.MoreArguments = refl
all_checked n.Part = refl
all_checked n.Parts = refl
