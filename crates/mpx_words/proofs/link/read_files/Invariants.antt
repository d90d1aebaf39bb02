use Rattle.std.proofs.Common.{◌≡◌, ℕ, ◌+◌, ◌≤◌, List, length}
use Rattle.std.specs.Prelude.{map, string_bytes}
use Rattle.mpx_words.specs.Linking.{AreShort}
use Rattle.mpx_words.proofs.Linking.{IsAhead}
use Rattle.mpx_words.proofs.link.read_files.Given as goal

abbrev pub invariant-loop-name : goal.invariant-loop-name
invariant-loop-name g l = record {
  ahead : IsAhead (g.F.Files.contents l.initial.files) (map string_bytes l.names) (map string_bytes l.rest) l.texts.items;
  short : AreShort (map string_bytes l.rest);
  contents : (n : List ℕ) → g.F.Files.contents l.files n ≡ g.F.Files.contents l.initial.files n;
  reads : g.F.Files.read_faults l.files ≡ g.F.Files.read_faults l.initial.files;
  writes : g.F.Files.write_faults l.files ≡ g.F.Files.write_faults l.initial.files;
  few : length l.texts.items + length l.rest ≤ length l.names;
}

abbrev pub decreases-loop-name : goal.decreases-loop-name
decreases-loop-name g l = length l.rest
