use Rattle.std.proofs.Common.{◌≤◌, ◌∙◌, sym, arith}
use Rattle.std.specs.Prelude.{slice_index}
use Rattle.mpx_core.proofs.Views.{twice}
use Rattle.mpx_core.proofs.registers.held_word.Goals as goal

pub returns : goal.returns
returns c =
    let fits : slice_index c.args.b.now.held c.args.k ≤ 0xffff_ffff_ffff_ffff = omega (arith, c.word_of.type_inv, c.word_of.ensures) in
    c.word_of.ensures ∙ sym (twice (slice_index c.args.b.now.held c.args.k) fits)
