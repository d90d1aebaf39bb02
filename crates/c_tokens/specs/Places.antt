-- Where a byte stands, by the bytes before it.
use Rattle.std.specs.Prelude.{ℕ, ◌+◌, Bool, not, ◌==◌, if◌then◌else◌, List, count_by}
use Rattle.std.specs.List.{suffix_len}
use Rattle.mx_base.specs.declared.places.Place.{Place}

abbrev pub is_line_feed : ℕ → Bool
is_line_feed b = b == 10

-- its line is one more than the line feeds before it, and its column one more than the bytes since the last of them
unfoldable pub place_after : ℕ → List ℕ → Place
place_after file before = record {
  file = file;
  line = count_by is_line_feed before + 1;
  col = suffix_len (λ b. not (is_line_feed b)) before + 1;
}

-- the place after one more byte
abbrev pub step : Place → ℕ → Place
step at b = if is_line_feed b then record { file = at.file; line = at.line + 1; col = 1 } else record { file = at.file; line = at.line; col = at.col + 1 }
