use Rattle.std.proofs.Common.{◌≡◌, ◌++◌, drop}
use Rattle.steps_facts.specs.Seen.{reached_of}
use Rattle.steps_pieces.specs.Put.{put_of, went_all}
use Rattle.c_emit.specs.Argued.{places_of}
use Rattle.c_emit.proofs.emits.+emit.Given as goal

-- what is left of the arguments makes up what all of them are
abbrev pub invariant-emit_arguments-loop-e : goal.invariant-emit_arguments-loop-e
invariant-emit_arguments-loop-e g l =
    let around = g.K.Knows.around l.known in
    let rest = drop l.e-index l.all in
    record {
      put : went_all l.left rest around (reached_of l.at) l.to (put_of l.out) ≡ went_all l.sorts l.all around (reached_of l.fn.r) l.d (put_of l.initial.out);
      places : l.places ++ places_of l.left rest around (reached_of l.at) l.to ≡ places_of l.sorts l.all around (reached_of l.fn.r) l.d;
    }
