use Rattle.std.specs.Int.{w64, from_le_bytes}
use Rattle.std.proofs.Common.{◌≡◌, ◌∙◌, ap, arith, ℕ, ◌+◌, ◌-◌, take, drop, replicate, List, ◌++◌}
use Rattle.std.proofs.lemmas.List.{drop-replicate}
use Rattle.paged_memory.proofs.known.gathered.Goals as goal

pub returns : goal.returns
returns c =
    let long : c.args.at + c.args.n - c.args.at ≡ c.args.n = omega arith in
    let first = c.copy_from_slice.ensures.after ∙ ap (λ k. take k (drop c.args.at c.args.frames.now)) long in
    let rest : drop c.args.n (replicate 8 0) ≡ replicate (8 - c.args.n) 0 = drop-replicate c.args.n 8 0 in
    c.from_le_bytes.ensures ∙ ap (λ (xs : List ℕ). from_le_bytes w64 xs) (λ i. first i ++ rest i)
