use Rattle.std.proofs.Common.{◌∙◌, ◌++◌, ◌∷◌, [], ℕ, List, Err, length, sym, ap, subst, arith}
use Rattle.std.specs.Prelude.{map, string_bytes}
use Rattle.mx_base.specs.Outside.{FileFacts}
use Rattle.mpx_words.specs.Files.{MayHold, LoadsBytes}
use Rattle.mpx_words.specs.Linking.{AreShort}
use Rattle.mpx_words.proofs.Linking.{ahead_next, ahead_end, refused_read, none_mapped}
use Rattle.mpx_words.proofs.link.read_files.Goals as goal

pub returns-in-Err-clause-loads : goal.returns-in-Err-clause-loads
returns-in-Err-clause-loads g c =
    refused_read (g.F.Files.contents c.args.files.now) _ (map string_bytes c.loop-name.rest.now) (map string_bytes c.in-Some.after.now) c.as_str-file.result.now c.loop-name.texts.items c.in-Err.end
    (ap (map string_bytes) c.in-Some.ensures.cases.0 ∙ ap (λ (name : List ℕ). name ∷ map string_bytes c.in-Some.after.now) (sym c.as_str-file.ensures.value)) c.loop-name.invariant.ahead
    (subst (λ (f : FileFacts). LoadsBytes f (Err c.in-Err.end)) (c.loop-name.invariant.contents c.as_str-file.result.now) c.in-Err.ensures.loads)

pub loop-name-preserved : goal.loop-name-preserved
loop-name-preserved g c = record {
  ahead = ahead_next (g.F.Files.contents c.args.files.now) _ (map string_bytes c.loop-name.rest.now) (map string_bytes c.in-Some.after.now) c.as_str-file.result.now c.loop-name.texts.items c.in-Ok.bytes.items c.push.new.self.items
      (ap (map string_bytes) c.in-Some.ensures.cases.0 ∙ ap (λ (name : List ℕ). name ∷ map string_bytes c.in-Some.after.now) (sym c.as_str-file.ensures.value))
      (subst (λ (f : FileFacts). MayHold f c.in-Ok.bytes.items) (c.loop-name.invariant.contents c.as_str-file.result.now) c.in-Ok.ensures.loads)
      (c.in-Ok-push.ensures.items ∙ ap (λ (b : List ℕ). c.loop-name.texts.items ++ (b ∷ [])) c.from_vec.ensures) c.loop-name.invariant.ahead;
  short = (subst AreShort (ap (map string_bytes) c.in-Some.ensures.cases.0) c.loop-name.invariant.short).1;
  contents = λ n. c.in-Ok.ensures.contents n ∙ c.loop-name.invariant.contents n;
  reads = c.in-Ok.ensures.counts ∙ c.loop-name.invariant.reads;
  writes = c.in-Ok.ensures.write_faults ∙ c.loop-name.invariant.writes;
  few = omega (arith, ap length c.in-Some.ensures.cases.0, ap length c.in-Ok-push.ensures.items, c.loop-name.invariant.few);
}

pub returns-clause-loads : goal.returns-clause-loads
returns-clause-loads g c = ahead_end (g.F.Files.contents c.args.files.now) _ (map string_bytes c.loop-name.rest.now) c.loop-name.texts.items (none_mapped string_bytes c.loop-name.rest.now c.in_default.ensures.cases) c.loop-name.invariant.ahead
