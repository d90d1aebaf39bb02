-- Two ranges with the properties of a span share one.
use Rattle.std.proofs.Common.{ℕ, arith}
use Rattle.fat_ir.specs.declared.program.FatFun.{FatFun}
use Rattle.fat_ir.specs.Spans.{Range, Holds, shared, Spans}

both : (r s : Range) (i : ℕ) → Holds r i → Holds s i → Holds (shared r s) i
both r s i h g = (omega (arith, h.0, g.0), omega (arith, h.1, g.1))

left : (r s : Range) (i : ℕ) → Holds (shared r s) i → Holds r i
left r s i h = (omega (arith, h.0), omega (arith, h.1))

right : (r s : Range) (i : ℕ) → Holds (shared r s) i → Holds s i
right r s i h = (omega (arith, h.0), omega (arith, h.1))

pub spans_share : (f : FatFun) (v : ℕ) (r s : Range) → Spans f v r → Spans f v s → Spans f v (shared r s)
spans_share f v r s a b = record {
  names = λ i step stands has. both r s i (a.names i step stands has) (b.names i step stands has);
  first = λ lt. both r s 0 (a.first lt) (b.first lt);
  whole = λ label jump back from i low high h j low' high'. both r s j (a.whole label jump back (omega (arith, from)) i low high (left r s i h) j low' high') (b.whole label jump back (omega (arith, from)) i low high (right r s i h) j low' high');
}
