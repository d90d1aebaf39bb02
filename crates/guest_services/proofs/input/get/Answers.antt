use Rattle.std.specs.Prelude.{length}
use Rattle.std.proofs.Common.{◌≡◌, ◌∙◌, sym, ap, arith, ℕ, ◌≤◌, take, drop, List, [], ◌∷◌, Option, None, Some, get_or}
use Rattle.mx_base.specs.Outside.{Takes}
use Rattle.mx_base.specs.declared.externals.Failed.{Failed}
use Rattle.std.proofs.Common.{Ok}
use Rattle.guest_services.specs.Streams.{MayTell, Leaves}
use Rattle.guest_services.proofs.input.get.Goals as goal

first_of_one : (bytes buf : List ℕ) → length buf ≡ 1 → 1 ≤ length bytes → take 1 buf ≡ take 1 bytes → bytes ≡ get_or buf 0 0 ∷ drop 1 bytes
first_of_one [] buf one some same = absurd (omega arith)
first_of_one (b ∷ bs) [] one some same = absurd (omega arith)
first_of_one (b ∷ bs) (x ∷ xs) one some same = (let e : x ≡ b = cc in ap (λ t. t ∷ bs) (sym e))

got : (old new : Option (List ℕ)) (buf : List ℕ) (n : ℕ) → length buf ≡ 1 → n ≡ 1 → Takes {E = Failed} old new buf (Ok n) → (rest : List ℕ) × MayTell old (get_or buf 0 0 ∷ rest) × Leaves old new rest
got None new buf n one is taken = ([], tt, tt)
got (Some bytes) new buf n one is taken =
    let some : 1 ≤ length bytes = (let w = taken.1.within in omega (arith, w, is)) in
    let same : take 1 buf ≡ take 1 bytes = ap (λ k. take k buf) (sym is) ∙ taken.1.same ∙ ap (λ k. take k bytes) is in
    (drop 1 bytes, first_of_one bytes buf one some same, taken.2 ∙ ap (λ k. Some (drop k bytes)) is)

most : (old new : Option (List ℕ)) (buf : List ℕ) (n : ℕ) → Takes {E = Failed} old new buf (Ok n) → n ≤ length buf
most None new buf n taken = taken.0
most (Some bytes) new buf n taken = taken.0

pub returns-else-n-eq0-clause-answer : goal.returns-else-n-eq0-clause-answer
returns-else-n-eq0-clause-answer g c =
    let one : length c.take.new.buf ≡ 1 = c.take.auto.buf in
    let up = most (g.I.Source.left c.args.input.now) (g.I.Source.left c.take.new.self) c.take.new.buf c.in_ok-n.n c.in_ok-n.ensures.answer in
    let some = c.if-n-eq0.false in
    got (g.I.Source.left c.args.input.now) (g.I.Source.left c.take.new.self) c.take.new.buf c.in_ok-n.n one (omega (arith, up, some, one)) c.in_ok-n.ensures.answer
