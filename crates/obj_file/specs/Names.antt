-- C names (6.4.2.1), and signatures of functions and data.
use Rattle.std.specs.Prelude.{ℕ, ◌-◌, Bool, ◌&&◌, ◌||◌, not, nat_eq, nat_le, List, length, drop, slice_index, slice_range, count_by}
use Rattle.std.specs.List.{list_all}
use Rattle.std.specs.Char.{is_ascii_alphabetic, is_ascii_alphanumeric, is_ascii_digit}

-- a letter or `_`
abbrev pub begins_name : ℕ → Bool
begins_name b = is_ascii_alphabetic b || nat_eq b 95

abbrev pub is_word_byte : ℕ → Bool
is_word_byte b = is_ascii_alphanumeric b || nat_eq b 95

-- a letter or `_`, and then letters, digits and `_`
unfoldable pub is_c_name : List ℕ → Bool
is_c_name name = begins_name (slice_index name 0) && list_all is_word_byte name

-- one of `c C h H i I l L`: integers of 8, 16, 32 and 64 bits, signed and unsigned
abbrev pub is_integer_letter : ℕ → Bool
is_integer_letter b =
    nat_eq b 99 || nat_eq b 67 || nat_eq b 104 || nat_eq b 72 || nat_eq b 105 || nat_eq b 73 || nat_eq b 108 || nat_eq b 76

-- `p`
abbrev pub is_pointer_letter : ℕ → Bool
is_pointer_letter b = nat_eq b 112

abbrev pub is_parameter : ℕ → Bool
is_parameter b = is_integer_letter b || is_pointer_letter b

-- a parameter's letter, or `v` for no result
abbrev pub is_result : ℕ → Bool
is_result b = is_parameter b || nat_eq b 118

-- at most six, of which at most four are pointers
unfoldable pub are_parameters : List ℕ → Bool
are_parameters params = nat_le (length params) 6 && list_all is_parameter params && nat_le (count_by is_pointer_letter params) 4

-- `f`, the letter of the result, `(`, those of the parameters, `)`
unfoldable pub is_function_sig : List ℕ → Bool
is_function_sig sig =
    nat_le 4 (length sig) && nat_eq (slice_index sig 0) 102 && is_result (slice_index sig 1) && nat_eq (slice_index sig 2) 40
    && nat_eq (slice_index sig (length sig - 1)) 41 && are_parameters (slice_range sig 3 (length sig - 1))

-- `d`, and a size in decimal without leading zeros
unfoldable pub is_data_sig : List ℕ → Bool
is_data_sig sig =
    nat_le 2 (length sig) && nat_eq (slice_index sig 0) 100 && list_all is_ascii_digit (drop 1 sig)
    && (nat_eq (length sig) 2 || not (nat_eq (slice_index sig 1) 48))
