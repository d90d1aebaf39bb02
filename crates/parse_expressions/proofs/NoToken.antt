-- The class `End` is that of no token.
use Rattle.std.proofs.Common.{◌≡◌, ◌≢◌, ℕ, zero, suc, true, false, Bool, [], ◌∷◌, sym, refl, rules}
use denote.Enum.Bare.{same_true}
use Rattle.c_tokens.specs.contracts.class.Class.{the_type}
use Rattle.c_tokens.specs.declared.class.Class.{Class}
use Rattle.c_tokens.specs.declared.class.Class.TheVariants as k
use Rattle.c_grammar.specs.Lexemes.{same, among}
use Rattle.c_grammar.specs.Grammar.{other_assigners}
use Rattle.c_grammar.specs.Reading.{prefix_begins}
use Rattle.parse_expressions.specs.Levels.{is_operator}

same_is : (c d : Class) → same c d ≡ true → c ≡ d
unfolding same
same_is c d e = same_true the_type (search rules) _ _ e

pub no_end : (c : Class) → c ≢ k.End → same k.End c ≡ false
no_end c n = not_true (same k.End c) (λ e. n (sym (same_is k.End c e)))
  where
    not_true : (b : Bool) → (b ≡ true → ⊥) → b ≡ false
    not_true true h = absurd (h refl)
    not_true false h = refl

pub no_prefix : among k.End prefix_begins ≡ false
unfolding same
no_prefix = refl

pub no_assigner : among k.End (k.Assign ∷ other_assigners) ≡ false
unfolding same
no_assigner = refl

pub no_operator : (level : ℕ) → is_operator level k.End ≡ false
unfolding same
no_operator zero = refl
no_operator (suc zero) = refl
no_operator (suc (suc zero)) = refl
no_operator (suc (suc (suc zero))) = refl
no_operator (suc (suc (suc (suc zero)))) = refl
no_operator (suc (suc (suc (suc (suc zero))))) = refl
no_operator (suc (suc (suc (suc (suc (suc zero)))))) = refl
no_operator (suc (suc (suc (suc (suc (suc (suc zero))))))) = refl
no_operator (suc (suc (suc (suc (suc (suc (suc (suc zero)))))))) = refl
no_operator (suc (suc (suc (suc (suc (suc (suc (suc (suc n))))))))) = refl
