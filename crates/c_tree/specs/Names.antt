-- A name: a letter or `_`, then letters, digits and `_`, 63 bytes at most, and no reserved word.
use Rattle.std.specs.Prelude.{ℕ, Bool, ◌&&◌, ◌||◌, ◌==◌, not, nat_le, List, [], ◌∷◌, length, codes, slice_index}
use Rattle.std.specs.List.{list_all, list_any}
use Rattle.std.specs.Char.{is_ascii_alphabetic, is_ascii_alphanumeric}
use Rattle.std.specs.Str.{bytes_eq}

abbrev pub begins_name : ℕ → Bool
begins_name b = is_ascii_alphabetic b || b == 95

abbrev pub is_word_byte : ℕ → Bool
is_word_byte b = is_ascii_alphanumeric b || b == 95

abbrev pub words : List (List ℕ)
words =
    codes "void"
    ∷ codes "char"
    ∷ codes "short"
    ∷ codes "int"
    ∷ codes "long"
    ∷ codes "signed"
    ∷ codes "unsigned"
    ∷ codes "struct"
    ∷ codes "extern"
    ∷ codes "if"
    ∷ codes "else"
    ∷ codes "while"
    ∷ codes "do"
    ∷ codes "for"
    ∷ codes "break"
    ∷ codes "continue"
    ∷ codes "return"
    ∷ codes "sizeof"
    ∷ []

unfoldable pub is_reserved : List ℕ → Bool
is_reserved name = list_any (bytes_eq name) words

unfoldable pub is_name : List ℕ → Bool
is_name name = begins_name (slice_index name 0) && list_all is_word_byte name && nat_le (length name) 63 && not (is_reserved name)
