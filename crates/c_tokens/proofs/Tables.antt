-- What holds of each spelling of a table holds of what is found in it.
use Rattle.std.proofs.Common.{◌≡◌, ℕ, Bool, true, false, cond, ◌&&◌, ◌==◌, List, [], ◌∷◌, Option, Some, refl, ap, ◌∙◌}
use Rattle.std.specs.Prelude.{slice_index}
use Rattle.std.specs.Str.{bytes_eq}
use Rattle.std.proofs.lemmas.Bool.{and_parts, eqb-true}
use Rattle.std.proofs.lemmas.Slice.Eq.{bytes_eq-Decides}
use Rattle.c_tokens.specs.declared.class.Class.{Class}
use Rattle.c_tokens.specs.Words.{found_in}
use Rattle.c_tokens.specs.Marks.{one_in, two_in, three_in}

-- each spelling of a table passes a test
abbrev pub all_pass : (List ℕ → Bool) → List (List ℕ × Class) → Bool
all_pass test [] = true
all_pass test ((spelling, class) ∷ rest) = test spelling && all_pass test rest

-- what an entry gives, if its test holds, or the rest of the table
chosen : (P : Type 0) (b : Bool) (found class : Class) (rest : Option Class) → (b ≡ true → P) → (rest ≡ Some class → P) → cond b (Some found) rest ≡ Some class → P
chosen P true found class rest here there is = here refl
chosen P false found class rest here there is = there is

pub found_passes : (test : List ℕ → Bool) (table : List (List ℕ × Class)) (text : List ℕ) (class : Class) → all_pass test table ≡ true → found_in table text ≡ Some class → test text ≡ true
found_passes test [] text class all is = cc
found_passes test ((spelling, found) ∷ rest) text class all is =
    let both = and_parts (test spelling) (all_pass test rest) all in
    chosen (test text ≡ true) (bytes_eq text spelling) found class (found_in rest text) (λ same. ap test ((bytes_eq-Decides text spelling).0 same) ∙ both.0) (λ more. found_passes test rest text class both.1 more) is

-- the same for marks: a test on each byte
pub one_passes : (test : ℕ → Bool) (table : List (List ℕ × Class)) (a : ℕ) (class : Class) → all_pass (λ s. test (slice_index s 0)) table ≡ true → one_in table a ≡ Some class → test a ≡ true
one_passes test [] a class all is = cc
one_passes test ((spelling, found) ∷ rest) a class all is =
    let both = and_parts (test (slice_index spelling 0)) (all_pass (λ s. test (slice_index s 0)) rest) all in
    chosen (test a ≡ true) (a == slice_index spelling 0) found class (one_in rest a) (λ same. ap test (eqb-true a (slice_index spelling 0) same) ∙ both.0) (λ more. one_passes test rest a class both.1 more) is

pub two_passes : (test : ℕ → ℕ → Bool) (table : List (List ℕ × Class)) (a b : ℕ) (class : Class) → all_pass (λ s. test (slice_index s 0) (slice_index s 1)) table ≡ true → two_in table a b ≡ Some class → test a b ≡ true
two_passes test [] a b class all is = cc
two_passes test ((spelling, found) ∷ rest) a b class all is =
    let both = and_parts (test (slice_index spelling 0) (slice_index spelling 1)) (all_pass (λ s. test (slice_index s 0) (slice_index s 1)) rest) all in
    chosen (test a b ≡ true) (a == slice_index spelling 0 && b == slice_index spelling 1) found class (two_in rest a b)
    (λ same. let each = and_parts (a == slice_index spelling 0) (b == slice_index spelling 1) same in
    ap (λ x. test x b) (eqb-true a (slice_index spelling 0) each.0) ∙ ap (test (slice_index spelling 0)) (eqb-true b (slice_index spelling 1) each.1) ∙ both.0)
    (λ more. two_passes test rest a b class both.1 more) is

pub three_passes : (test : ℕ → ℕ → Bool) (table : List (List ℕ × Class)) (a b d : ℕ) (class : Class) → all_pass (λ s. test (slice_index s 0) (slice_index s 2)) table ≡ true → three_in table a b d ≡ Some class → test a d ≡ true
three_passes test [] a b d class all is = cc
three_passes test ((spelling, found) ∷ rest) a b d class all is =
    let both = and_parts (test (slice_index spelling 0) (slice_index spelling 2)) (all_pass (λ s. test (slice_index s 0) (slice_index s 2)) rest) all in
    chosen (test a d ≡ true) (a == slice_index spelling 0 && b == slice_index spelling 1 && d == slice_index spelling 2) found class (three_in rest a b d)
    (λ same. let outer = and_parts (a == slice_index spelling 0 && b == slice_index spelling 1) (d == slice_index spelling 2) same in
    let first = and_parts (a == slice_index spelling 0) (b == slice_index spelling 1) outer.0 in
    ap (λ x. test x d) (eqb-true a (slice_index spelling 0) first.0) ∙ ap (test (slice_index spelling 0)) (eqb-true d (slice_index spelling 2) outer.1) ∙ both.0)
    (λ more. three_passes test rest a b d class both.1 more) is
