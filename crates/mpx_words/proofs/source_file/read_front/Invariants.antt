use Rattle.std.proofs.Common.{◌≡◌, ℕ, List, ◌-◌, ◌≤◌, vec_len}
use Rattle.mpx_words.specs.Sources.{IsReadFrom}
use Rattle.mpx_words.proofs.source_file.read_front.Given as goal

abbrev pub invariant-loop-chunk : goal.invariant-loop-chunk
invariant-loop-chunk g l = record {
  front : IsReadFrom (g.F.Files.contents l.initial.files l.name) l.bytes.items;
  contents : (n : List ℕ) → g.F.Files.contents l.files n ≡ g.F.Files.contents l.initial.files n;
  reads : g.F.Files.read_faults l.files ≡ g.F.Files.read_faults l.initial.files;
  writes : g.F.Files.write_faults l.files ≡ g.F.Files.write_faults l.initial.files;
  few : vec_len l.bytes ≤ l.most;
}

abbrev pub decreases-loop-chunk : goal.decreases-loop-chunk
decreases-loop-chunk g l = l.most - vec_len l.bytes
