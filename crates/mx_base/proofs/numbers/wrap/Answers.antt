use Rattle.std.proofs.Common.{◌≡◌, arith, rules, sym, ◌∙◌, pos, to_z, FitsSigned}
use Rattle.std.specs.Int.{w128}
use Rattle.std.proofs.lemmas.Int.{ints, to_z-of_z}
use Rattle.mx_base.proofs.NumbersLemmas.{is_wrapped-signed, is_wrapped-unsigned, IsNumberOf-wrapped, residue-is_wrapped}
use Rattle.mx_base.proofs.numbers.wrap.Goals as goal

pub returns-then-has_sign-clause-value : goal.returns-then-has_sign-clause-value
returns-then-has_sign-clause-value c =
    let fits : FitsSigned w128 c.signed_of.result = search rules in
    let same = to_z-of_z w128 c.args.n c.ranges.n in
    let low = rw same at c.residue_of-low.ensures.value in
    let signed = sym c.has_sign.ensures ∙ c.if-has_sign.true in
    to_z-of_z w128 c.signed_of.result fits ∙ is_wrapped-signed c.args.kind c.args.n c.signed_of.result c.half_of-half.result c.residue_of-low.result c.half_of-half.ensures.half signed low c.signed_of.ensures

pub returns-then-has_sign-clause-in_range : goal.returns-then-has_sign-clause-in_range
returns-then-has_sign-clause-in_range c = IsNumberOf-wrapped c.args.kind c.args.n _ (returns-then-has_sign-clause-value c)

pub returns-then-has_sign-clause-same : goal.returns-then-has_sign-clause-same
returns-then-has_sign-clause-same c = residue-is_wrapped c.args.kind c.args.n _ (returns-then-has_sign-clause-value c)

pub returns-else-has_sign-clause-value : goal.returns-else-has_sign-clause-value
returns-else-has_sign-clause-value c =
    let small : to_z w128 c.residue_of-low.result ≡ pos c.residue_of-low.result = omega (arith, ints) in
    let same = to_z-of_z w128 c.args.n c.ranges.n in
    let low = rw same at c.residue_of-low.ensures.value in
    let unsigned = sym c.has_sign.ensures ∙ c.if-has_sign.false in
    small ∙ is_wrapped-unsigned c.args.kind c.args.n c.half_of-half.result c.residue_of-low.result c.half_of-half.ensures.half unsigned low

pub returns-else-has_sign-clause-same : goal.returns-else-has_sign-clause-same
returns-else-has_sign-clause-same c = residue-is_wrapped c.args.kind c.args.n _ (returns-else-has_sign-clause-value c)
