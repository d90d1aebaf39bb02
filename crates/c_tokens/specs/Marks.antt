-- The marks.
use Rattle.std.specs.Prelude.{ℕ, List, [], ◌∷◌, ◌==◌, ◌&&◌, if◌then◌else◌, Option, Some, None, codes, slice_index}
use Rattle.c_tokens.specs.declared.class.Class.{Class}
use Rattle.c_tokens.specs.declared.class.Class.TheVariants as c

abbrev pub marks_of_three : List (List ℕ × Class)
marks_of_three = (codes "<<=", c.ShiftLeftAssign) ∷ (codes ">>=", c.ShiftRightAssign) ∷ []

abbrev pub marks_of_two : List (List ℕ × Class)
marks_of_two =
    (codes "->", c.Arrow)
    ∷ (codes "++", c.PlusPlus)
    ∷ (codes "--", c.MinusMinus)
    ∷ (codes "<<", c.ShiftLeft)
    ∷ (codes ">>", c.ShiftRight)
    ∷ (codes "<=", c.LessEqual)
    ∷ (codes ">=", c.GreaterEqual)
    ∷ (codes "==", c.EqualEqual)
    ∷ (codes "!=", c.NotEqual)
    ∷ (codes "&&", c.AndAnd)
    ∷ (codes "||", c.OrOr)
    ∷ (codes "+=", c.PlusAssign)
    ∷ (codes "-=", c.MinusAssign)
    ∷ (codes "*=", c.StarAssign)
    ∷ (codes "/=", c.SlashAssign)
    ∷ (codes "%=", c.PercentAssign)
    ∷ (codes "&=", c.AndAssign)
    ∷ (codes "^=", c.XorAssign)
    ∷ (codes "|=", c.OrAssign)
    ∷ []

abbrev pub marks_of_one : List (List ℕ × Class)
marks_of_one =
    (codes "(", c.OpenParen)
    ∷ (codes ")", c.CloseParen)
    ∷ (codes "{", c.OpenBrace)
    ∷ (codes "}", c.CloseBrace)
    ∷ (codes "[", c.OpenBracket)
    ∷ (codes "]", c.CloseBracket)
    ∷ (codes ";", c.Semicolon)
    ∷ (codes ",", c.Comma)
    ∷ (codes ".", c.Dot)
    ∷ (codes "?", c.Question)
    ∷ (codes ":", c.Colon)
    ∷ (codes "+", c.Plus)
    ∷ (codes "-", c.Minus)
    ∷ (codes "*", c.Star)
    ∷ (codes "/", c.Slash)
    ∷ (codes "%", c.Percent)
    ∷ (codes "<", c.Less)
    ∷ (codes ">", c.Greater)
    ∷ (codes "&", c.And)
    ∷ (codes "^", c.Xor)
    ∷ (codes "|", c.Or)
    ∷ (codes "~", c.Tilde)
    ∷ (codes "!", c.Not)
    ∷ (codes "=", c.Assign)
    ∷ []

-- what a table of spellings of three bytes has for three bytes, and so on
abbrev pub three_in : List (List ℕ × Class) → ℕ → ℕ → ℕ → Option Class
three_in [] a b c = None
three_in ((spelling, class) ∷ rest) a b c =
    if a == slice_index spelling 0 && b == slice_index spelling 1 && c == slice_index spelling 2 then Some class else three_in rest a b c

abbrev pub two_in : List (List ℕ × Class) → ℕ → ℕ → Option Class
two_in [] a b = None
two_in ((spelling, class) ∷ rest) a b =
    if a == slice_index spelling 0 && b == slice_index spelling 1 then Some class else two_in rest a b

abbrev pub one_in : List (List ℕ × Class) → ℕ → Option Class
one_in [] a = None
one_in ((spelling, class) ∷ rest) a = if a == slice_index spelling 0 then Some class else one_in rest a

unfoldable pub mark_of_three : ℕ → ℕ → ℕ → Option Class
mark_of_three = three_in marks_of_three

unfoldable pub mark_of_two : ℕ → ℕ → Option Class
mark_of_two = two_in marks_of_two

unfoldable pub mark_of_one : ℕ → Option Class
mark_of_one = one_in marks_of_one
