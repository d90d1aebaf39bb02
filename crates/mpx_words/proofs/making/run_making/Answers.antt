use Rattle.std.proofs.Common.{◌∙◌, ℕ, List, refl, subst}
use Rattle.std.specs.declared.vec.Vec.{Vec}
use Rattle.std.specs.Global.{Global}
use Rattle.mx_base.specs.Outside.{FileFacts, HoldsWhereTold, KeepsWhereTold, HasRisen}
use Rattle.mpx_words.specs.Makings.{made_by}
use Rattle.mpx_words.proofs.Choices.{refused_answers}
use Rattle.mpx_words.proofs.Formed.{same_counts}
use Rattle.mpx_words.proofs.Printing.{make_refused, make_serves, wrote_answers, unwritten_answers}
use Rattle.mpx_words.proofs.making.run_making.Goals as goal

pub returns-in-Err : goal.returns-in-Err
returns-in-Err g c = λ reads input out.
    refused_answers (made_by c.args.making) reads _ _ refl _ _ _ (make_refused reads c.args.making _ _ _) _ c.in-Err.ensures.yields (same_counts (Vec ℕ Global) (List ℕ) _ _ _ c.in-Err.ensures.counts)
    (record { files = c.in-Err.ensures.contents; writes = c.in-Err.ensures.write_faults; input = refl; out = refl }) c.report.ensures

pub returns-in-Ok-write_all : goal.returns-in-Ok-write_all
returns-in-Ok-write_all g c = λ reads input out.
    wrote_answers reads _ _ _ _ c.args.to.now c.in-Ok.bytes.items (make_serves reads c.args.making _ _ _ c.in-Ok.bytes c.in-Ok.ensures.yields)
    (λ n apart. subst (λ (f : FileFacts). KeepsWhereTold f (g.F.Files.contents c.write_all.new.self n)) (c.in-Ok.ensures.contents n) (c.in-Ok-write_all.ensures.others n apart))
    (c.in-Ok-write_all.ensures.read_faults ∙ c.in-Ok.ensures.counts) refl refl refl refl
    (subst (λ (b : List ℕ). HoldsWhereTold (g.F.Files.contents c.write_all.new.self c.args.to.now) b) c.as_slice.ensures.value c.in-Ok-write_all.ensures.written)
    (c.in-Ok-write_all.ensures.write_faults ∙ c.in-Ok.ensures.write_faults)

pub returns : goal.returns
returns g c = λ reads input out.
    unwritten_answers reads _ _ _ _ c.args.to.now c.in-Ok.bytes.items (make_serves reads c.args.making _ _ _ c.in-Ok.bytes c.in-Ok.ensures.yields)
    (λ n apart. subst (λ (f : FileFacts). KeepsWhereTold f (g.F.Files.contents c.write_all.new.self n)) (c.in-Ok.ensures.contents n) (c.in-Err-write_all.ensures.others n apart))
    (c.in-Err-write_all.ensures.read_faults ∙ c.in-Ok.ensures.counts) refl refl c.args.name.now c.in-Err-write_all.ensures.refused
    (subst (λ (n : ℕ). HasRisen n (g.F.Files.write_faults c.write_all.new.self)) c.in-Ok.ensures.write_faults c.in-Err-write_all.ensures.write_faults) c.report-in-Err-write_all.ensures
