use Rattle.std.proofs.Common.{◌≡◌, ◌%◌, ◌^◌, ◌∙◌, ap}
use Rattle.std.specs.Int.{w128, cast_unsigned}
use Rattle.std.proofs.lemmas.Int.{to_z-of_z}
use Rattle.x86_forms.specs.Arithmetic.{low}
use Rattle.x86_alu.proofs.Widths.{low-of_z}
use Rattle.x86_alu.proofs.numbers.word_of.Goals as goal

pub returns-clause-value : goal.returns-clause-value
returns-clause-value c =
    let word : c.cast_unsigned.result ≡ cast_unsigned w128 c.args.n = c.cast_unsigned.ensures ∙ ap (cast_unsigned w128) (to_z-of_z w128 c.args.n c.ranges.n) in
    c.low.ensures.value ∙ ap (λ x. low c.args.w (x % 2 ^ 64)) word ∙ low-of_z c.args.w c.args.n c.requires c.ranges.n
