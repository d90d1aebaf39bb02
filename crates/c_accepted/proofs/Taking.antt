-- Where each function has a symbol of its own, symbols can take as many arguments as the functions have parameters.
use Rattle.std.proofs.Common.{◌≡◌, ℕ, zero, suc, ◌≤◌, ◌<◌, ◌==◌, cond, ap, ◌∙◌, true, false, List, [], ◌∷◌, length, arith}
use Rattle.std.specs.Prelude.{◌≢◌, Some, slice_get, slice_index_or}
use Rattle.std.proofs.lemmas.Bool.Decides.{nat_tests}
use Rattle.mx_base.specs.declared.settings.Flags.{Flags}
use Rattle.c_tree.specs.declared.tree.Tree.{Tree}
use Rattle.c_check.specs.Accepted.{IsAccepted, after}
use Rattle.bounds_plan.specs.elaboration.Source.{Meanings, SourceLayout, Signature}
use Rattle.bounds_plan.specs.elaboration.Functions.{elaborated, signatures_of}
use Rattle.bounds_plan.specs.elaboration.Laws.{TakesParameters, AllAssignable}
use Rattle.c_accepted.specs.Frames.{AllPlanned}
use Rattle.c_accepted.specs.Symbols.{arguments_of, Lacks, AllDiffer, HaveSymbols}
use Rattle.c_accepted.proofs.Small.{values_assignable}

pub other_symbol : (f : ℕ) (fs : List ℕ) (n : ℕ) → n < length fs → Lacks f fs → f ≢ slice_index_or fs n 0
other_symbol f [] n lt h = absurd (omega (arith, lt))
other_symbol f (g ∷ fs) zero lt h = h.0
other_symbol f (g ∷ fs) (suc n) lt h = other_symbol f fs n (omega (arith, lt)) h.1

pub got_within : (xs : List Signature) (n : ℕ) (s : Signature) → slice_get xs n ≡ Some s → n < length xs
got_within [] n s e = cc
got_within (x ∷ xs) zero s e = omega arith
got_within (x ∷ xs) (suc n) s e = let h = got_within xs n s e in omega (arith, h)

taken : (fs : List ℕ) (signatures : List Signature) → length signatures ≤ length fs → AllDiffer fs → (number : ℕ) (s : Signature) → slice_get signatures number ≡ Some s → arguments_of fs signatures (slice_index_or fs number 0) ≡ length s.parameters
taken [] [] le h number s e = cc
taken [] (x ∷ more) le h number s e = absurd (omega (arith, le))
taken (f ∷ fs) [] le h number s e = cc
taken (f ∷ fs) (x ∷ more) le h zero s e =
    let here : (f == f) ≡ true = grind (arith, nat_tests) in
    let same : x ≡ s = cc in
    ap (λ b. cond b (length x.parameters) (arguments_of fs more f)) here ∙ ap (λ (y : Signature). length y.parameters) same
taken (f ∷ fs) (x ∷ more) le h (suc n) s e =
    let lt = got_within more n s e in
    let other = other_symbol f fs n (omega (arith, lt, le)) h.0 in
    let there : (f == slice_index_or fs n 0) ≡ false = grind (arith, nat_tests, other) in
    ap (λ b. cond b (length x.parameters) (arguments_of fs more (slice_index_or fs n 0))) there ∙ taken fs more (omega (arith, le)) h.1 n s e

pub symbols_take : (layout : SourceLayout) (signatures : List Signature) → HaveSymbols layout signatures → TakesParameters (arguments_of layout.functions signatures) layout signatures
symbols_take layout signatures h = taken layout.functions signatures h.enough h.differ

pub all_assignable : (tree : Tree) (room : ℕ) → IsAccepted tree room → (meanings : Meanings) (layout : SourceLayout) (flags : Flags) → AllPlanned (after tree).bodies layout.frames → HaveSymbols layout (signatures_of tree meanings layout flags) → AllAssignable (elaborated tree meanings layout flags)
all_assignable tree room h meanings layout flags planned symbols = values_assignable tree room h meanings layout flags planned (arguments_of layout.functions (signatures_of tree meanings layout flags)) (symbols_take layout (signatures_of tree meanings layout flags) symbols)
