use Rattle.std.proofs.Common.{◌++◌, ◌∷◌, [], append_assoc, ◌∙◌, ap, sym}
use Rattle.step_code.specs.Steps as spec
use Rattle.code_emit.specs.Plans.{plan_of}
use Rattle.code_emit.proofs.Loops.{map_ok}
use Rattle.code_emit.proofs.operators.load_two.Goals as goal

pub returns-in_ok-append-2 : goal.returns-in_ok-append-2
returns-in_ok-append-2 c rest =
    let p = plan_of c.args.p.now in
    let a = c.get.ensures ∙ ap (spec.get 0) c.home.ensures in
    let b = c.get-then-words.ensures ∙ ap (spec.get 1) c.home-then-words.ensures in
    let second = spec.widen c.args.kind 1 rest in
    let more = spec.get 1 (p.home c.args.b) ∷ second in
    map_ok c.widen-then-words.result (λ e. e
    ∙ (λ j. (c.in_ok-append-2.ensures ∙ (λ k. c.widen.new.out.items ++ (b k ∷ []))) j ++ second)
    ∙ append_assoc c.widen.new.out.items (spec.get 1 (p.home c.args.b) ∷ []) second
    ∙ c.in_ok-widen.ensures more
    ∙ (λ j. (c.in_ok-append.ensures ∙ (λ k. c.args.out.now.items ++ (a k ∷ []))) j ++ spec.widen c.args.kind 0 more)
    ∙ append_assoc c.args.out.now.items (spec.get 0 (p.home c.args.a) ∷ []) (spec.widen c.args.kind 0 more)
    ∙ (λ j. c.args.out.now.items ++ spec.load_two p (sym c.if-words.true j) c.args.kind c.args.a c.args.b rest)) (c.widen-then-words.ensures rest)
