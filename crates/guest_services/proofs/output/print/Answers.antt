use Rattle.std.specs.Fmt.{signed_decimal}
use Rattle.std.specs.Prelude.{length}
use Rattle.std.proofs.Common.{◌≡◌, ◌∙◌, ap, subst, refl, ℕ, List, [], ◌∷◌, ◌++◌, ◌<◌, ◌^◌, pos, arith, rules}
use Rattle.std.proofs.lemmas.Int.{to_z_pos, to_z-of_z}
use mir.Syntax.{w128}
use mir.Val.{hbits}
use Rattle.mx_base.specs.declared.numbers.IntKind.TheVariants.{I64}
use Rattle.mx_base.specs.Numbers.{wrapped, value_of, residue}
use Rattle.mx_base.specs.Outside.{AddsFront}
use Rattle.guest_services.specs.Streams.{PutsAll}
use Rattle.guest_services.proofs.Sinks.{puts_then, front_of_part, some_front}
use Rattle.guest_services.proofs.output.print.Goals as goal

wide : (n : ℕ) → n < 0x1_0000_0000_0000_0000 → n < 2 ^ hbits w128
wide n fits = omega arith

wrapped_is : (w : ℕ) → wrapped I64 (pos w) ≡ value_of I64 w
unfolding wrapped value_of residue
wrapped_is w = refl

pub returns-in-Ok : goal.returns-in-Ok
returns-in-Ok g c =
    let text = c.as_bytes.ensures.value ∙ c.format-text.ensures.text ∙ ap signed_decimal (to_z-of_z w128 c.wrap.result (search rules) ∙ c.wrap.ensures.value ∙ ap (wrapped I64) (to_z_pos w128 c.args.word (wide c.args.word c.ranges.word.fits)) ∙ wrapped_is c.args.word) in
    let first = c.in-Ok.ensures in
    subst (λ (xs : List ℕ). PutsAll (g.O.Sink.held c.args.out.now) (g.O.Sink.held c.put_all-in-Ok.new.out) (g.O.Sink.faults c.args.out.now) (g.O.Sink.faults c.put_all-in-Ok.new.out) (xs ++ 10 ∷ []) c.put_all-in-Ok.result) text
    (puts_then (g.O.Sink.held c.args.out.now) (g.O.Sink.held c.put_all.new.out) (g.O.Sink.held c.put_all-in-Ok.new.out) (g.O.Sink.faults c.args.out.now) (g.O.Sink.faults c.put_all.new.out) (g.O.Sink.faults c.put_all-in-Ok.new.out)
    c.as_bytes.result.now (10 ∷ []) c.put_all-in-Ok.result first.0 first.1 c.put_all-in-Ok.ensures)

pub returns-in-Err : goal.returns-in-Err
returns-in-Err g c =
    let text = c.as_bytes.ensures.value ∙ c.format-text.ensures.text ∙ ap signed_decimal (to_z-of_z w128 c.wrap.result (search rules) ∙ c.wrap.ensures.value ∙ ap (wrapped I64) (to_z_pos w128 c.args.word (wide c.args.word c.ranges.word.fits)) ∙ wrapped_is c.args.word) in
    let first = c.in-Err.ensures in (
      some_front (signed_decimal (value_of I64 c.args.word)) (10 ∷ []) (subst (λ (xs : List ℕ). 0 < length xs) text first.0),
      subst (λ (xs : List ℕ). AddsFront (g.O.Sink.held c.args.out.now) (g.O.Sink.held c.put_all.new.out) (xs ++ 10 ∷ [])) text
          (front_of_part (g.O.Sink.held c.args.out.now) (g.O.Sink.held c.put_all.new.out) c.as_bytes.result.now (10 ∷ []) first.1),
      first.2,
    )
