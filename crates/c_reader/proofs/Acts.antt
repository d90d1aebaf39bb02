-- The acts of a program, one more after those that are read.
use Rattle.std.proofs.Common.{◌≡◌, ℕ, zero, suc, ◌+◌, ◌-◌, ◌<◌, true, false, List, [], ◌∷◌, ◌++◌, Some, None, refl, sym, ◌∙◌, ap, append_assoc, append-nil, arith, sub-one}
use Rattle.std.specs.Prelude.{codes}
use Rattle.c_reader.specs.declared.early.Act.{Act}
use Rattle.c_reader.specs.EarlyReading.{Tokens, Front, and_then, sees, act_of, acts_of, before}

pub after_none : (more : Front (List Act)) → before [] more ≡ more
after_none None = refl
after_none (Some p) = refl

after_one : (front : List Act) (act : Act) (more : Front (List Act)) → before front (before (act ∷ []) more) ≡ before (front ++ act ∷ []) more
after_one front act None = refl
after_one front act (Some p) = ap (λ acts. Some (acts, p.1)) (sym (append_assoc front (act ∷ []) p.0))

pub no_more_acts : (front : List Act) (most : ℕ) (name : List ℕ) (ts : Tokens) → sees (codes "return") ts ≡ true → before front (acts_of most name ts) ≡ Some (front, ts)
unfolding acts_of
no_more_acts front zero name ts e = rw (e, append-nil) refl
no_more_acts front (suc most) name ts e = rw (e, append-nil) refl

pub too_many_acts : (front : List Act) (most : ℕ) (name : List ℕ) (ts : Tokens) → most ≡ 0 → sees (codes "return") ts ≡ false → before front (acts_of most name ts) ≡ None
unfolding acts_of
too_many_acts front zero name ts none e = rw e refl
too_many_acts front (suc most) name ts none e = absurd (omega arith)

one_act : (front : List Act) (most : ℕ) (name : List ℕ) (ts : Tokens) → 0 < most → sees (codes "return") ts ≡ false → before front (acts_of most name ts) ≡ and_then (act_of name ts) (λ act rest. before (front ++ act ∷ []) (acts_of (most - 1) name rest))
unfolding acts_of
one_act front zero name ts some e = absurd (omega arith)
one_act front (suc most) name ts some e = rw (e, sub-one) (go (act_of name ts))
  where
    go : (first : Front Act) → before front (and_then first (λ act rest. before (act ∷ []) (acts_of most name rest))) ≡ and_then first (λ act rest. before (front ++ act ∷ []) (acts_of most name rest))
    go None = refl
    go (Some p) = after_one front p.0 (acts_of most name p.1)

pub one_more_act : (front : List Act) (most read : ℕ) (name : List ℕ) (ts : Tokens) → read < most → sees (codes "return") ts ≡ false → before front (acts_of (most - read) name ts) ≡ and_then (act_of name ts) (λ act rest. before (front ++ act ∷ []) (acts_of (most - (read + 1)) name rest))
one_more_act front most read name ts some e =
    let same : most - read - 1 ≡ most - (read + 1) = omega arith in
    one_act front (most - read) name ts (omega arith) e ∙ ap (λ left. and_then (act_of name ts) (λ act rest. before (front ++ act ∷ []) (acts_of left name rest))) same
