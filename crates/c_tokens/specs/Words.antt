-- The reserved words. No other name is reserved.
use Rattle.std.specs.Prelude.{ℕ, List, [], ◌∷◌, if◌then◌else◌, Option, Some, None, codes}
use Rattle.std.specs.Str.{bytes_eq}
use Rattle.c_tokens.specs.declared.class.Class.{Class}
use Rattle.c_tokens.specs.declared.class.Class.TheVariants as c

-- what a table has for a text
abbrev pub found_in : List (List ℕ × Class) → List ℕ → Option Class
found_in [] text = None
found_in ((spelling, class) ∷ rest) text = if bytes_eq text spelling then Some class else found_in rest text

abbrev pub words : List (List ℕ × Class)
words =
    (codes "void", c.Void)
    ∷ (codes "char", c.Char)
    ∷ (codes "short", c.Short)
    ∷ (codes "int", c.Int)
    ∷ (codes "long", c.Long)
    ∷ (codes "signed", c.Signed)
    ∷ (codes "unsigned", c.Unsigned)
    ∷ (codes "struct", c.Struct)
    ∷ (codes "extern", c.Extern)
    ∷ (codes "if", c.If)
    ∷ (codes "else", c.Else)
    ∷ (codes "while", c.While)
    ∷ (codes "do", c.Do)
    ∷ (codes "for", c.For)
    ∷ (codes "break", c.Break)
    ∷ (codes "continue", c.Continue)
    ∷ (codes "return", c.Return)
    ∷ (codes "sizeof", c.SizeOf)
    ∷ []

unfoldable pub word_of : List ℕ → Option Class
word_of = found_in words
