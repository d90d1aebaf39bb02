-- The values of numbers.
use Rattle.std.proofs.Common.{◌≡◌, ℕ, ◌+◌, ◌*◌, ◌^◌, ◌<◌, ◌≤◌, Bool, true, false, List, [], ◌∷◌, length, drop, get_or, None, arith, nat_lt, ◌∙◌}
use Rattle.std.specs.Prelude.{fold, find}
use Rattle.std.proofs.Math.Nat.{mul-le-mul_left}
use Rattle.std.proofs.lemmas.List.{at_drop_more}
use Rattle.std.proofs.lemmas.Bool.Decides.{nat_tests}
use Rattle.c_tokens.specs.declared.numbers.Suffix.{Suffix}
use Rattle.c_tokens.specs.Numbers.{digit_of, kind_for, kinds_of, limit_of}

-- the value of digits in a base, after those whose value is n
abbrev pub value_after : ℕ → ℕ → List ℕ → ℕ
value_after base n ds = fold (λ n d. n * base + digit_of d) n ds

-- more digits make no smaller value
pub value_grows : (base n : ℕ) (ds : List ℕ) → 1 ≤ base → n ≤ value_after base n ds
value_grows base n [] positive = omega arith
value_grows base n (d ∷ ds) positive =
    let more : n * base + digit_of d ≤ value_after base n (d ∷ ds) = value_grows base (n * base + digit_of d) ds positive in
    omega (arith, more, mul-le-mul_left n positive)

-- once the value has passed a limit it stays beyond it
pub value_passed : (base n limit : ℕ) (ds : List ℕ) (i : ℕ) → 1 ≤ base → value_after base 0 ds ≡ value_after base n (drop i ds) → i < length ds → (n * base + digit_of (get_or ds i 0) < limit → ⊥) → value_after base 0 ds < limit → ⊥
value_passed base n limit ds i positive same within passed small =
    let whole = same ∙ at_drop_more (value_after base n) ds i 0 within in
    let more = value_grows base (n * base + digit_of (get_or ds i 0)) (drop (i + 1) ds) positive in
    passed (omega (arith, whole, more, small))

-- no type holds a number of 2^64 or more
no_kind_in : (value : ℕ) (hexadecimal unsigned long : Bool) → (value < 2 ^ 64 → ⊥) → find (λ kind. nat_lt value (limit_of kind)) (kinds_of hexadecimal unsigned long) ≡ None
no_kind_in value false false false large = grind (arith, nat_tests)
no_kind_in value true false false large = grind (arith, nat_tests)
no_kind_in value false false true large = grind (arith, nat_tests)
no_kind_in value true false true large = grind (arith, nat_tests)
no_kind_in value false true false large = grind (arith, nat_tests)
no_kind_in value true true false large = grind (arith, nat_tests)
no_kind_in value false true true large = grind (arith, nat_tests)
no_kind_in value true true true large = grind (arith, nat_tests)

pub no_kind : (value : ℕ) (hexadecimal : Bool) (suffix : Suffix) → (value < 2 ^ 64 → ⊥) → kind_for value hexadecimal suffix ≡ None
unfolding kind_for
no_kind value hexadecimal suffix large = no_kind_in value hexadecimal suffix.unsigned suffix.long large
