use Rattle.std.proofs.Common.{arith, ◌≡◌, ◌∙◌, ◌++◌, ℕ, List, length, take, sym, ap, subst}
use Rattle.std.proofs.lemmas.Grind.{common_steps}
use Rattle.std.proofs.lemmas.List.{length-take, length-take-le, length-append}
use Rattle.mpx_words.specs.Sources.{IsReadFrom}
use Rattle.mpx_words.proofs.Fronts.{front_ended, front_more, front_full, chunk_fits}
use Rattle.mpx_words.proofs.source_file.read_front.Goals as goal

pub returns-in-Ok-Some-eq0-clause-bytes : goal.returns-in-Ok-Some-eq0-clause-bytes
returns-in-Ok-Some-eq0-clause-bytes g c =
    let at : c.len-in-loop-chunk-2.result ≡ length c.loop-chunk.bytes.items = omega (arith, c.loop-chunk.bytes.ok) in
    let room = length-take c.min.result c.loop-chunk.chunk in
    front_ended c.args.most _ _ _ _ _ _ _ (c.loop-chunk.invariant.contents c.args.name.now) c.in-Ok-Some-eq0.field-0-is c.in-Ok-Some-eq0.field-0-0-test c.in-Ok-Some-eq0.ensures.answer c.loop-chunk.invariant.front at (omega arith) (omega (arith, room))

pub loop-chunk-preserved : goal.loop-chunk-preserved
loop-chunk-preserved g c =
    let at : c.len-in-loop-chunk-2.result ≡ length c.loop-chunk.bytes.items = omega (arith, c.loop-chunk.bytes.ok) in
    let room = length-take c.min.result c.loop-chunk.chunk in
    let front = front_more _ _ _ _ _ _ _ (c.loop-chunk.invariant.contents c.args.name.now) c.in-Ok-Some.field-0-is c.in-Ok-Some.ensures.answer c.loop-chunk.invariant.front at in
    let fits = chunk_fits _ _ _ _ _ c.in-Ok-Some.field-0-is c.in-Ok-Some.ensures.answer in
    let items : c.extend_from_slice.new.self.items ≡ c.loop-chunk.bytes.items ++ take c.in-Ok-Some.n c.read_at.new.buf = grind (arith, common_steps) in
    record {
      front = subst (λ (xs : List ℕ). IsReadFrom (g.F.Files.contents c.args.files.now c.args.name.now) xs) (sym items) front;
      contents = λ n. c.in-Ok-Some.ensures.contents n ∙ c.loop-chunk.invariant.contents n;
      reads = c.in-Ok-Some.ensures.read_faults ∙ c.loop-chunk.invariant.reads;
      writes = c.in-Ok-Some.ensures.write_faults ∙ c.loop-chunk.invariant.writes;
      few = omega (arith, c.extend_from_slice.new.self.ok, ap length items, length-append c.loop-chunk.bytes.items (take c.in-Ok-Some.n c.read_at.new.buf), length-take-le c.in-Ok-Some.n c.read_at.new.buf fits, fits, room, c.loop-chunk.bytes.ok);
    }

pub returns-clause-bytes : goal.returns-clause-bytes
returns-clause-bytes g c =
    front_full c.args.most _ _ (omega arith) c.loop-chunk.invariant.front (omega (arith, c.loop-chunk.bytes.ok))
