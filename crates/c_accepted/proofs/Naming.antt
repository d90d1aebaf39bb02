-- The functions that the checker knows, and their signatures.
use Rattle.std.proofs.Common.{◌≡◌, ℕ, zero, suc, ◌+◌, ◌<◌, ◌≤◌, refl, sym, ap, ◌∙◌, subst, Bool, true, false, not, nat_lt, List, [], ◌∷◌, ◌++◌, map, length, if◌then◌else◌, length-append, arith}
use Rattle.std.specs.Prelude.{Option, None, Some, slice_get, slice_set}
use Rattle.std.proofs.lemmas.Bool.Decides.{nat_tests}
use Rattle.std.specs.Str.{bytes_eq}
use Rattle.c_tree.specs.declared.tree.Decl.{Decl}
use Rattle.c_check_rules.specs.declared.names.Scope.{Scope}
use Rattle.c_check_rules.specs.declared.names.Function.{Function}
use Rattle.c_check_rules.specs.Kinds.{same_kinds}
use Rattle.c_check_rules.specs.Names.{last_at, function_names, function_at, numbered}
use Rattle.c_check_statements.specs.Declarations.{param_kinds, same_lists, blocks_function, function_in, function_twice, put_function, number_in, function_number, is_reserved}
use Rattle.bounds_plan.specs.elaboration.Source.{Signature}
use Rattle.c_accepted.specs.Alike.{signature_seen, signatures_seen}
use Rattle.c_accepted.proofs.Empty.{neither}
use Rattle.c_accepted.proofs.Heads.{both_true, same_type, same_types}

-- ---- lists

within_or : (b : Bool) (found : Option ℕ) (at m : ℕ) → ((m : ℕ) → found ≡ Some m → m < at) → (if b then Some at else found) ≡ Some m → m < at + 1
within_or true found at m h e = let same : at ≡ m = cc in omega arith
within_or false found at m h e = let lt = h m e in omega (arith, lt)

last_within : (name : List ℕ) (ns : List (List ℕ)) (at : ℕ) (found : Option ℕ) (n : ℕ) → ((m : ℕ) → found ≡ Some m → m < at) → last_at name ns at found ≡ Some n → n < at + length ns
last_within name [] at found n h e = let lt = h n e in omega (arith, lt)
last_within name (x ∷ more) at found n h e = let lt = last_within name more (at + 1) (if bytes_eq x name then Some at else found) n (λ m k. within_or (bytes_eq x name) found at m h k) e in omega (arith, lt)

as_many : {X Y : Type 0} (f : X → Y) (xs : List X) → length (map f xs) ≡ length xs
as_many f [] = refl
as_many f (x ∷ xs) = ap suc (as_many f xs)

function_within : (scope : Scope) (name : List ℕ) (at : ℕ) → function_at scope name ≡ Some at → at < length scope.functions
function_within scope name at e = let lt = last_within name (function_names scope.functions) 0 None at (λ m k. absurd (cc)) e in omega (arith, lt, as_many (λ (f : Function). f.name) scope.functions)

map_last : {X Y : Type 0} (f : X → Y) (xs : List X) (x : X) → map f (xs ++ (x ∷ [])) ≡ map f xs ++ (f x ∷ [])
map_last f [] x = refl
map_last f (y ∷ xs) x = ap (λ l. f y ∷ l) (map_last f xs x)

get_last : {X : Type 0} (xs : List X) (x : X) → slice_get (xs ++ (x ∷ [])) (length xs) ≡ Some x
get_last [] x = refl
get_last (y ∷ xs) x = get_last xs x

record There {X : Type 0} (xs : List X) (n : ℕ) : Type 0 where
  got : X
  is : slice_get xs n ≡ Some got

there : {X : Type 0} (xs : List X) (n : ℕ) → n < length xs → There xs n
there [] n lt = absurd (omega arith)
there (x ∷ xs) zero lt = record { got = x; is = refl }
there (x ∷ xs) (suc n) lt = let t = there xs n (omega arith) in record { got = t.got; is = t.is }

set_same : (functions : List Function) (at : ℕ) (f old : Function) → slice_get functions at ≡ Some old → signature_seen f ≡ signature_seen old → signatures_seen (slice_set functions at f) ≡ signatures_seen functions
set_same [] at f old e s = cc
set_same (x ∷ more) zero f old e s = let same : old ≡ x = cc in ap (λ y. y ∷ signatures_seen more) (s ∙ ap signature_seen same)
set_same (x ∷ more) (suc n) f old e s = ap (λ l. signature_seen x ∷ l) (set_same more n f old e s)

seen_there : (functions : List Function) (at : ℕ) (f : Function) → slice_get functions at ≡ Some f → slice_get (signatures_seen functions) at ≡ Some (signature_seen f)
seen_there [] at f e = cc
seen_there (x ∷ more) zero f e = let same : x ≡ f = cc in ap (λ y. Some (signature_seen y)) same
seen_there (x ∷ more) (suc n) f e = seen_there more n f e

-- ---- one function more

-- its number, and the signatures with it
pub record Listed (signatures : List Signature) (functions : List Function) (number : ℕ) (s : Signature) : Type 0 where
  pub all : (if nat_lt number (length signatures) then signatures else signatures ++ (s ∷ [])) ≡ signatures_seen functions
  pub there : slice_get (signatures_seen functions) number ≡ Some s

numbered_same : (n : ℕ) → n < 4294967295 → numbered n ≡ n
numbered_same n lt = omega arith

listed_new : (functions : List Function) (f : Function) → length functions < 4294967295 → Listed (signatures_seen functions) (functions ++ (f ∷ [])) (numbered (length functions)) (signature_seen f)
listed_new functions f lt =
    let ss = signatures_seen functions in let same = numbered_same (length functions) lt in let many = as_many signature_seen functions in
    let none : nat_lt (numbered (length functions)) (length ss) ≡ false = grind (arith, nat_tests) in record {
      all = ap (λ b. if b then ss else ss ++ (signature_seen f ∷ [])) none ∙ sym (map_last signature_seen functions f);
      there = ap (λ l. slice_get l (numbered (length functions))) (map_last signature_seen functions f) ∙ (ap (slice_get (ss ++ (signature_seen f ∷ []))) (same ∙ sym many) ∙ get_last ss (signature_seen f));
    }

listed_old : (functions : List Function) (at : ℕ) (f old : Function) → at < length functions → length functions < 4294967295 → slice_get functions at ≡ Some old → signature_seen f ≡ signature_seen old → Listed (signatures_seen functions) (slice_set functions at f) (numbered at) (signature_seen f)
listed_old functions at f old in_list lt e same =
    let ss = signatures_seen functions in let number = numbered_same at (omega arith) in let many = as_many signature_seen functions in
    let has : nat_lt (numbered at) (length ss) ≡ true = grind (arith, nat_tests) in let all = set_same functions at f old e same in record {
      all = ap (λ b. if b then ss else ss ++ (signature_seen f ∷ [])) has ∙ sym all;
      there = ap (λ l. slice_get l (numbered at)) all ∙ (ap (slice_get ss) number ∙ (seen_there functions at old e ∙ ap Some (sym same)));
    }

pub untold : (b : Bool) → not b ≡ false → b ≡ true
untold true h = refl
untold false h = cc

-- a function that stands there already has the same types
same_signature : (f : Function) (old : Function) → blocks_function (Some old) (Some f.params) (Some f.result) ≡ false → signature_seen f ≡ signature_seen old
same_signature f old h =
    let pair = both_true (same_kinds old.result f.result) (same_lists old.params f.params) (untold _ (neither old.defined _ h).1) in
    let result = same_type old.result f.result pair.0 in let params = same_types old.params f.params pair.1 in
    (λ i. record { result = sym result i; parameters = sym params i })

by_place : (scope : Scope) (o : Option ℕ) (f : Function) → ((at : ℕ) → o ≡ Some at → at < length scope.functions) → length scope.functions < 4294967295 → blocks_function (function_in scope o) (Some f.params) (Some f.result) ≡ false
    → Listed (signatures_seen scope.functions) (put_function scope.functions o f) (number_in (length scope.functions) o) (signature_seen f)
by_place scope None f within lt h = listed_new scope.functions f lt
by_place scope (Some at) f within lt h = let in_list = within at refl in let old = there scope.functions at in_list in
    listed_old scope.functions at f old.got in_list lt old.is (same_signature f old.got (subst (λ o. blocks_function o (Some f.params) (Some f.result) ≡ false) old.is h))

pub function_listed : (scope : Scope) (name : List ℕ) (params : List Decl) (f : Function) → length scope.functions < 4294967295 → param_kinds scope params ≡ Some f.params → function_twice name params scope (Some f.result) ≡ false
    → Listed (signatures_seen scope.functions) (put_function scope.functions (function_at scope name) f) (function_number name scope) (signature_seen f)
function_listed scope name params f lt types once =
    let free = (neither _ _ (neither (is_reserved name) _ once).1).1 in
    by_place scope (function_at scope name) f (function_within scope name) lt (subst (λ o. blocks_function (function_in scope (function_at scope name)) o (Some f.result) ≡ false) types free)

-- ---- how many there are

set_many : {X : Type 0} (xs : List X) (n : ℕ) (x : X) → length (slice_set xs n x) ≡ length xs
set_many [] n x = refl
set_many (y ∷ xs) zero x = refl
set_many (y ∷ xs) (suc n) x = ap suc (set_many xs n x)

pub one_more : (functions : List Function) (o : Option ℕ) (f : Function) → length (put_function functions o f) ≤ length functions + 1
one_more functions None f = omega (arith, length-append functions (f ∷ []))
one_more functions (Some at) f = omega (arith, set_many functions at f)
