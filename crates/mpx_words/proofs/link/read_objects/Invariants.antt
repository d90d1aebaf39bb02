use Rattle.std.proofs.Common.{◌+◌, ◌≤◌, length}
use Rattle.std.specs.Prelude.{map, string_bytes}
use Rattle.std.specs.List.{All}
use Rattle.obj_file.specs.Object.{IsObject}
use Rattle.mpx_words.specs.Linking.{AreShort}
use Rattle.mpx_words.proofs.Linking.{OfRest}
use Rattle.mpx_words.proofs.link.read_objects.Given as goal

abbrev pub invariant-loop-bytes : goal.invariant-loop-bytes
invariant-loop-bytes l = record {
  so_far : OfRest (map string_bytes l.initial.names) l.texts (map string_bytes l.names) l.rest l.objects.items;
  short : AreShort (map string_bytes l.names);
  objects : All IsObject l.objects.items;
  few : length l.objects.items + length l.rest ≤ length l.texts;
}

abbrev pub decreases-loop-bytes : goal.decreases-loop-bytes
decreases-loop-bytes l = length l.rest
