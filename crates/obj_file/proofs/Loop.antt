-- Reading values one after the other, as a loop does.
use Rattle.std.proofs.Common.{◌≡◌, ℕ, suc, ◌-◌, ◌+◌, ◌≤◌, ◌<◌, List, [], ◌∷◌, ◌++◌, Result, Ok, Err, refl, sym, ap, ◌∙◌, append_assoc, arith}
use Rattle.std.proofs.lemmas.List.{append-nil}
use Rattle.obj_file.specs.declared.fault.Unread.{Unread}
use Rattle.obj_file.specs.declared.fault.Unread.TheVariants as unread
use Rattle.obj_file.specs.Fields.{and_then, ◌>>=◌, Fails, many_at}

-- what was read before, and what is still read
abbrev pub with_front : {A : Type 0} → List A → Result (List A × List ℕ) ℕ → Result (List A × List ℕ) ℕ
with_front front read = read >>= λ x. Ok (front ++ x.0, x.1)

regroup : {A : Type 0} (front : List A) (n : A) (read : Result (List A × List ℕ) ℕ) → with_front front (read >>= λ x. Ok (n ∷ x.0, x.1)) ≡ with_front (front ++ n ∷ []) read
unfolding and_then
regroup {A} front n (Ok x) = ap (λ (ns : List A). Ok (ns, x.1)) (simp append_assoc)
regroup front n (Err f) = refl

pub goes_on : {S A : Type 0} (field : S → List ℕ → Result (A × List ℕ) ℕ) (next : S → A → S) (front : List A) (count i : ℕ) (s : S) (bytes : List ℕ) (n : A) (after : List ℕ) (total : Result (List A × List ℕ) ℕ) → i < count → field s bytes ≡ Ok (n, after)
    → with_front front (many_at field next (count - i) s bytes) ≡ total → with_front (front ++ n ∷ []) (many_at field next (count - (i + 1)) (next s n) after) ≡ total
unfolding many_at and_then
goes_on field next front count i s bytes n after total lt h so_far =
    let k : count - i ≡ suc (count - (i + 1)) = omega arith in
    let one : with_front front (many_at field next (count - i) s bytes) ≡ with_front (front ++ n ∷ []) (many_at field next (count - (i + 1)) (next s n) after) = rw (k, h) (regroup front n (many_at field next (count - (i + 1)) (next s n) after)) in
    sym one ∙ so_far

pub ends : {S A : Type 0} (field : S → List ℕ → Result (A × List ℕ) ℕ) (next : S → A → S) (e : Unread) (front : List A) (count i : ℕ) (s : S) (bytes : List ℕ) (total : Result (List A × List ℕ) ℕ) → i < count → Fails e (field s bytes)
    → with_front front (many_at field next (count - i) s bytes) ≡ total → Fails e total
unfolding many_at and_then
ends field next unread.OutOfMemory front count i s bytes total lt h so_far = tt
ends field next (unread.Left left) front count i s bytes total lt h so_far =
    let k : count - i ≡ suc (count - (i + 1)) = omega arith in
    let one : with_front front (many_at field next (count - i) s bytes) ≡ Err left = rw (k, h) refl in
    sym so_far ∙ one

pub is_done : {S A : Type 0} (field : S → List ℕ → Result (A × List ℕ) ℕ) (next : S → A → S) (front : List A) (count i : ℕ) (s : S) (bytes : List ℕ) (total : Result (List A × List ℕ) ℕ) → count ≤ i → with_front front (many_at field next (count - i) s bytes) ≡ total → total ≡ Ok (front, bytes)
unfolding many_at and_then
is_done {S} {A} field next front count i s bytes total le so_far =
    let k : count - i ≡ 0 = omega arith in
    let one : with_front front (many_at field next (count - i) s bytes) ≡ Ok (front, bytes) = rw k (ap (λ (ns : List A). Ok (ns, bytes)) (append-nil front)) in
    sym so_far ∙ one

no_front : {A : Type 0} (read : Result (List A × List ℕ) ℕ) → with_front [] read ≡ read
unfolding and_then
no_front (Ok x) = refl
no_front (Err e) = refl

-- before the first
pub begins : {S A : Type 0} (field : S → List ℕ → Result (A × List ℕ) ℕ) (next : S → A → S) (count : ℕ) (s : S) (bytes : List ℕ) → with_front [] (many_at field next (count - 0) s bytes) ≡ many_at field next count s bytes
begins field next count s bytes =
    let k : count - 0 ≡ count = omega arith in
    rw k (no_front (many_at field next count s bytes))
