-- Words that name files.
use Rattle.std.specs.Prelude.{ℕ, Bool, ◌&&◌, not, nat_eq, nat_le, List, length, codes}
use Rattle.std.specs.List.{starts_with, ends_with, list_all}

-- a word that names a file: 1 to 255 bytes that do not begin with `-`
abbrev pub is_file_word : List ℕ → Bool
is_file_word word = nat_le 1 (length word) && nat_le (length word) 255 && not (starts_with nat_eq word (codes "-"))

-- a word that names a C source
abbrev pub is_source_word : List ℕ → Bool
is_source_word word = is_file_word word && ends_with nat_eq word (codes ".c")

-- a word that names a text of assembly
abbrev pub is_assembly_word : List ℕ → Bool
is_assembly_word word = is_file_word word && ends_with nat_eq word (codes ".s")

-- words that name objects
abbrev pub is_object_word : List ℕ → Bool
is_object_word word = is_file_word word && ends_with nat_eq word (codes ".mxo")

abbrev pub are_objects : List (List ℕ) → Bool
are_objects words = list_all is_object_word words
