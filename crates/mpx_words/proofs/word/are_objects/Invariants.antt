use Rattle.std.proofs.Common.{◌≡◌, map, string_bytes, length}
use Rattle.mpx_words.specs.Words.{are_objects as all_are_objects}
use Rattle.mpx_words.proofs.word.are_objects.Given as goal

abbrev pub invariant-loop-word : goal.invariant-loop-word
invariant-loop-word l = all_are_objects (map string_bytes l.words) ≡ all_are_objects (map string_bytes l.rest)

abbrev pub decreases-loop-word : goal.decreases-loop-word
decreases-loop-word l = length l.rest
