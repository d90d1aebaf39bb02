use Rattle.std.proofs.Common.{◌∙◌, length, sym, ap, subst, arith}
use Rattle.std.specs.Prelude.{map, string_bytes}
use Rattle.std.specs.List.{All}
use Rattle.obj_file.specs.Object.{IsObject}
use Rattle.obj_file.specs.ObjectReading.{object_of}
use Rattle.mpx_words.specs.Linking.{AreShort}
use Rattle.mpx_words.proofs.Linking.{rest_next, rest_end, all_with}
use Rattle.mpx_words.proofs.link.read_objects.Goals as goal

pub loop-bytes-preserved : goal.loop-bytes-preserved
loop-bytes-preserved c = record {
  so_far = rest_next _ _ _ _ _ _ _ _ _ (ap (map string_bytes) c.in-Some-split_first.ensures.cases.0) c.in-Some.ensures.cases.0 c.loop-bytes.invariant.so_far _ _
      (ap object_of (sym c.as_slice.ensures) ∙ c.in-Ok.ensures.exact) c.in-Ok-push.ensures.items;
  short = (subst AreShort (ap (map string_bytes) c.in-Some-split_first.ensures.cases.0) c.loop-bytes.invariant.short).1;
  objects = subst (All IsObject) (sym c.in-Ok-push.ensures.items) (all_with IsObject _ _ c.loop-bytes.invariant.objects c.in-Ok.ensures.found.0);
  few = omega (arith, ap length c.in-Some.ensures.cases.0, ap length c.in-Ok-push.ensures.items, c.loop-bytes.invariant.few);
}

pub returns-clause-reads : goal.returns-clause-reads
returns-clause-reads c = rest_end _ _ _ _ _ c.in_default.ensures.cases c.loop-bytes.invariant.so_far
