use Rattle.std.proofs.Common.{◌≡◌, ◌/◌, true, false, ℕ, arith, nat_eq, refl, List, [], ◌∷◌, ◌++◌, subst, sym, ap, ◌∙◌, inl, inr}
use Rattle.std.specs.Prelude.{◌||◌, not, ◌⊎◌}
use Rattle.std.proofs.lemmas.Bool.{ne_eqb}
use Rattle.x86_forms.specs.Spelling.{prefix_bytes}
use Rattle.x86_decode.specs.declared.states.State.TheVariants.{Start, Rex, Escape}
use Rattle.x86_decode.specs.declared.states.Next.TheVariants.{Go}
use Rattle.x86_decode.specs.Steps.{step_of, after_prefix, escape_or_opcode, opcode_step, live_rex, rex_r}
use Rattle.x86_decode.proofs.Feed.{feed, next_of}
use Rattle.x86_decode.proofs.Parts.{rex_part}

abbrev pub IsPrefix : ℕ → Type 0
IsPrefix p = (p ≡ 0) ⊎ ((p ≡ 0x66) ⊎ ((p ≡ 0xF2) ⊎ (p ≡ 0xF3)))

-- neither a prefix nor REX
pub record Plain (c : ℕ) : Type 0 where
  pub operand : nat_eq c 0x66 ≡ false
  pub bnd : nat_eq c 0xF2 ≡ false
  pub rep : nat_eq c 0xF3 ≡ false

after_p : (p c : ℕ) (cs : List ℕ) → IsPrefix p → Plain c → feed (prefix_bytes p ++ (c ∷ cs)) (Go Start) ≡ feed cs (after_prefix p c)
unfolding prefix_bytes step_of
after_p p c cs (inl e) k = subst (λ q. feed (prefix_bytes q ++ (c ∷ cs)) (Go Start) ≡ feed cs (after_prefix q c)) (sym e) (ap (λ n. feed cs n) (simp (k.operand, k.bnd, k.rep)))
after_p p c cs (inr (inl e)) k = subst (λ q. feed (prefix_bytes q ++ (c ∷ cs)) (Go Start) ≡ feed cs (after_prefix q c)) (sym e) refl
after_p p c cs (inr (inr (inl e))) k = subst (λ q. feed (prefix_bytes q ++ (c ∷ cs)) (Go Start) ≡ feed cs (after_prefix q c)) (sym e) refl
after_p p c cs (inr (inr (inr e))) k = subst (λ q. feed (prefix_bytes q ++ (c ∷ cs)) (Go Start) ≡ feed cs (after_prefix q c)) (sym e) refl

-- REX as it may stand behind the prefix
abbrev pub IsRex : ℕ → ℕ → Type 0
IsRex p rex = (rex ≡ 0) ⊎ ((rex / 16 ≡ 4) × (live_rex p rex ≡ true))

rex_plain : (rex : ℕ) → rex / 16 ≡ 4 → Plain rex
rex_plain rex e = record { operand = ne_eqb _ _ (λ k. absurd (omega arith)); bnd = ne_eqb _ _ (λ k. absurd (omega arith)); rep = ne_eqb _ _ (λ k. absurd (omega arith)) }

none_after : (p c : ℕ) → nat_eq (c / 16) 4 ≡ false → after_prefix p c ≡ escape_or_opcode p 0 c
unfolding after_prefix
none_after p c e = simp e

rex_after : (p rex : ℕ) → rex / 16 ≡ 4 → live_rex p rex ≡ true → after_prefix p rex ≡ Go (Rex p rex)
unfolding after_prefix
rex_after p rex e l = simp (e, l)

rex_part_some : (rex : ℕ) → rex / 16 ≡ 4 → rex_part rex ≡ rex ∷ []
rex_part_some rex e = let k : nat_eq rex 0 ≡ false = ne_eqb _ _ (λ z. absurd (omega arith)) in simp k

after_r : (p rex c : ℕ) (cs : List ℕ) → IsPrefix p → IsRex p rex → Plain c → nat_eq (c / 16) 4 ≡ false
    → feed (prefix_bytes p ++ (rex_part rex ++ (c ∷ cs))) (Go Start) ≡ feed cs (escape_or_opcode p rex c)
unfolding step_of
after_r p rex c cs q (inl e) k n =
    subst (λ r. feed (prefix_bytes p ++ (rex_part r ++ (c ∷ cs))) (Go Start) ≡ feed cs (escape_or_opcode p r c)) (sym e)
    (after_p p c cs q k ∙ ap (λ m. feed cs m) (none_after p c n))
after_r p rex c cs q (inr e) k n =
    ap (λ xs. feed (prefix_bytes p ++ (xs ++ (c ∷ cs))) (Go Start)) (rex_part_some rex e.0)
    ∙ after_p p rex (c ∷ cs) q (rex_plain rex e.0) ∙ ap (λ m. feed cs (next_of c m)) (rex_after p rex e.0 e.1)

opcode_one : (p rex b : ℕ) → nat_eq b 0x0F ≡ false → escape_or_opcode p rex b ≡ opcode_step p rex false b
unfolding escape_or_opcode
opcode_one p rex b e = simp e

opcode_two : (p rex : ℕ) → (not (nat_eq p 0x66) || nat_eq (rex_r rex) 0) ≡ true → escape_or_opcode p rex 0x0F ≡ Go (Escape p rex)
unfolding escape_or_opcode
opcode_two p rex e = simp e

-- an opcode byte behind the prefix and REX
pub front_one : (p rex b : ℕ) (bs : List ℕ) → IsPrefix p → IsRex p rex → Plain b → nat_eq (b / 16) 4 ≡ false → nat_eq b 0x0F ≡ false
    → feed (prefix_bytes p ++ (rex_part rex ++ (b ∷ bs))) (Go Start) ≡ feed bs (opcode_step p rex false b)
front_one p rex b bs q r k n o = after_r p rex b bs q r k n ∙ ap (λ m. feed bs m) (opcode_one p rex b o)

-- behind 0F
pub front_two : (p rex b : ℕ) (bs : List ℕ) → IsPrefix p → IsRex p rex → (not (nat_eq p 0x66) || nat_eq (rex_r rex) 0) ≡ true
    → feed (prefix_bytes p ++ (rex_part rex ++ (0x0F ∷ b ∷ bs))) (Go Start) ≡ feed bs (opcode_step p rex true b)
unfolding step_of
front_two p rex b bs q r k =
    after_r p rex 0x0F (b ∷ bs) q r (record { operand = refl; bnd = refl; rep = refl }) refl ∙ ap (λ m. feed bs (next_of b m)) (opcode_two p rex k)
