-- Fields in which the two versions differ are read as they are written.
use Rattle.std.proofs.Common.{◌≡◌, ◌⊎◌, ℕ, ◌+◌, ◌^◌, ◌<◌, ◌≤◌, Bool, true, false, cond, List, [], ◌∷◌, ◌++◌, length, Result, Ok, Err, refl, ap, subst, ◌∙◌, append_assoc, arith, inl, inr, ⊎_elim}
use Rattle.std.specs.Prelude.{◌==◌}
use Rattle.std.specs.List.{All, AllByRecursion}
use Rattle.std.specs.Int.{w8, w32}
use Rattle.std.proofs.lemmas.Bool.Decides.{nat_tests}
use Rattle.std.proofs.lemmas.List.{take_at, drop_at}
use Rattle.std.proofs.lemmas.List.Elements.{All-from_get_or}
use Rattle.obj_file.specs.declared.parts.Version.{Version}
use Rattle.obj_file.specs.declared.parts.Version.TheVariants.{First, Second}
use Rattle.obj_file.specs.declared.parts.Access.{Access}
use Rattle.obj_file.specs.InTurn.{InTurn, le}
use Rattle.obj_file.specs.Fields.{and_then, ◌>>=◌, number_at, number_in}
use Rattle.obj_file.specs.Versions.{least_size, most_size, IsAccess, Shows, access_text, access_at, version_at}
use Rattle.obj_file.proofs.Agree.{IsBytes, IsBytes-take, IsBytes-drop, and_then_ok, ok_is, Takes, Takes-then, Agrees, wide8, wide32, number_agrees, number_in_agrees}

-- ---- accesses

-- an access that a version can tell
abbrev pub IsTold : Version → Access → Type 0
IsTold version a = IsAccess a.kind a.size × Shows version a.kind

most_fits : (kind : ℕ) → most_size kind + 1 ≤ 2 ^ 32
most_fits kind = grind (arith, nat_tests)

access_takes : (version : Version) (bytes : List ℕ) (x : Access × List ℕ) → IsBytes bytes → access_at version bytes ≡ Ok x → Takes bytes (access_text version x.0.kind x.0.size) x.1 × IsTold version x.0
unfolding access_at access_text
access_takes First bytes x fits e =
    let made : Access × List ℕ = (record { kind = 0; size = 0 }, bytes) in
    subst (λ (y : Access × List ℕ). Takes bytes [] y.1 × IsTold First y.0) (ok_is made x e)
    (record { parts = refl; rest_fits = fits }, (record { known = omega arith; least = omega arith; most = omega arith }, refl))
access_takes Second bytes x fits e =
    let rest1 = λ (kind : ℕ) (size : ℕ × List ℕ). let made : Result (Access × List ℕ) ℕ = Ok (record { kind = kind; size = size.0 }, size.1) in made in
    let rest0 = λ (kind : ℕ × List ℕ). number_in w32 (least_size kind.0) (most_size kind.0 + 1) kind.1 >>= rest1 kind.0 in
    let a = and_then_ok (number_in w8 0 3 bytes) rest0 x e in
    let b = and_then_ok (number_in w32 (least_size a.0.0) (most_size a.0.0 + 1) a.0.1) (rest1 a.0.0) x a.2 in
    let t0 = (number_in_agrees w8 256 wide8 0 3 (omega arith)).takes bytes a.0 fits a.1 in
    let t1 = (number_in_agrees w32 (2 ^ 32) wide32 (least_size a.0.0) (most_size a.0.0 + 1) (most_fits a.0.0)).takes a.0.1 b.0 t0.0.rest_fits b.1 in
    let both = Takes-then bytes (le w8 a.0.0) a.0.1 (le w32 b.0.0) b.0.1 t0.0 t1.0 in
    let made : Access × List ℕ = (record { kind = a.0.0; size = b.0.0 }, b.0.1) in
    let kind = t0.1.below in
    let size = t1.1.below in
    subst (λ (y : Access × List ℕ). Takes bytes (le w8 y.0.kind ++ le w32 y.0.size) y.1 × IsTold Second y.0) (ok_is made x b.2)
    (both, (record { known = omega arith; least = t1.1.from; most = omega arith }, tt))

no_size : (kind size : ℕ) → kind ≡ 0 → size ≤ most_size kind → size ≡ 0
no_size kind size none most = grind (arith, nat_tests)

untold : (kind size : ℕ) (rest : List ℕ) → kind ≡ 0 → size ≡ 0 → access_at First rest ≡ Ok (record { kind = kind; size = size }, rest)
unfolding access_at
untold kind size rest k s = rw (k, s) refl

access_again : (version : Version) (a : Access) (rest : List ℕ) → IsTold version a → access_at version (access_text version a.kind a.size ++ rest) ≡ Ok (a, rest)
unfolding access_at access_text and_then
access_again First a rest told = untold a.kind a.size rest told.1 (no_size a.kind a.size told.1 told.0.most)
access_again Second a rest told =
    let known = told.0.known in
    let most = told.0.most in
    let e0 = (number_in_agrees w8 256 wide8 0 3 (omega arith)).again a.kind (le w32 a.size ++ rest) (record { from = omega arith; below = omega arith }) in
    let e1 = (number_in_agrees w32 (2 ^ 32) wide32 (least_size a.kind) (most_size a.kind + 1) (most_fits a.kind)).again a.size rest (record { from = told.0.least; below = omega arith }) in
    ap (access_at Second) (append_assoc (le w8 a.kind) (le w32 a.size) rest) ∙ simp (e0, e1, and_then)

pub access_agrees : (version : Version) → Agrees (access_at version) (λ a. access_text version a.kind a.size) (IsTold version)
access_agrees version = record { takes = access_takes version; again = access_again version }

-- ---- magic numbers

-- the two magic numbers of a form
pub record AreMagic (magic : Version → ℕ) : Type 0 where
  pub fits : (version : Version) → magic version < 2 ^ 32
  pub first : (magic First == magic First) ≡ true
  pub other : (magic Second == magic First) ≡ false
  pub second : (magic Second == magic Second) ≡ true

picks : {A : Type 0} (b c : Bool) (left : ℕ) (p q x : A) → cond b (Ok p) (cond c (Ok q) (Err left)) ≡ Ok x → ((b ≡ true) × (p ≡ x)) ⊎ ((c ≡ true) × (q ≡ x))
picks true c left p q x e = inl (refl, cc)
picks false true left p q x e = inr (refl, cc)
picks false false left p q x e = absurd cc

is_equal : (a b : ℕ) → (a == b) ≡ true → a ≡ b
is_equal a b e = grind (arith, nat_tests)

version_takes : (magic : Version → ℕ) (bytes : List ℕ) (x : Version × List ℕ) → IsBytes bytes → version_at (magic First) (magic Second) bytes ≡ Ok x → Takes bytes (le w32 (magic x.0)) x.1 × Unit {0}
unfolding version_at
version_takes magic bytes x fits e =
    let a = and_then_ok (number_at w32 bytes) (λ n. cond (n.0 == magic First) (Ok (First, n.1)) (cond (n.0 == magic Second) (Ok (Second, n.1)) (Err (length bytes)))) x e in
    let t = (number_agrees w32 (2 ^ 32) wide32).takes bytes a.0 fits a.1 in
    let goes = λ (version : Version) (is : (a.0.0 == magic version) ≡ true) (made : (version, a.0.1) ≡ x).
    subst (λ (y : Version × List ℕ). Takes bytes (le w32 (magic y.0)) y.1 × Unit {0}) made (subst (λ (n : ℕ). Takes bytes (le w32 n) a.0.1) (is_equal a.0.0 (magic version) is) t.0, tt) in
    ⊎_elim (λ p. goes First p.0 p.1) (λ p. goes Second p.0 p.1) (picks (a.0.0 == magic First) (a.0.0 == magic Second) (length bytes) (First, a.0.1) (Second, a.0.1) x a.2)

version_again : (magic : Version → ℕ) → AreMagic magic → (version : Version) (rest : List ℕ) → Unit {0} → version_at (magic First) (magic Second) (le w32 (magic version) ++ rest) ≡ Ok (version, rest)
unfolding version_at and_then
version_again magic are First rest fits =
    let e = (number_agrees w32 (2 ^ 32) wide32).again (magic First) rest (are.fits First) in
    rw (e, are.first) refl
version_again magic are Second rest fits =
    let e = (number_agrees w32 (2 ^ 32) wide32).again (magic Second) rest (are.fits Second) in
    rw (e, are.other, are.second) refl

pub version_agrees : (magic : Version → ℕ) → AreMagic magic → Agrees (version_at (magic First) (magic Second)) (λ version. le w32 (magic version)) (λ version. Unit {0})
version_agrees magic are = record { takes = version_takes magic; again = version_again magic are }

-- ---- lists

-- each keeps two rules, of which the second knows nothing of the others
pub split_rules : {S A : Type 0} (R : S → A → Type 0) (P : A → Type 0) (next : S → A → S) (s : S) (xs : List A) → InTurn (λ t x. R t x × P x) next s xs → InTurn R next s xs × AllByRecursion P xs
split_rules R P next s [] h = (tt, tt)
split_rules R P next s (x ∷ xs) h = let rest = split_rules R P next (next s x) xs h.1 in ((h.0.0, rest.0), (h.0.1, rest.1))

pub join_rules : {S A : Type 0} (R : S → A → Type 0) (P : A → Type 0) (next : S → A → S) (s : S) (xs : List A) → InTurn R next s xs → AllByRecursion P xs → InTurn (λ t x. R t x × P x) next s xs
join_rules R P next s [] h all = tt
join_rules R P next s (x ∷ xs) h all = ((h.0, all.0), join_rules R P next (next s x) xs h.1 all.1)

-- what the second version tells
pub all_told : {A : Type 0} (xs : List A) → AllByRecursion (λ (x : A). Unit {0}) xs
all_told [] = tt
all_told (x ∷ xs) = (tt, all_told xs)

-- ---- bytes

pub front_bytes : (a b : List ℕ) → IsBytes (a ++ b) → IsBytes a
front_bytes a b h = subst IsBytes (take_at a b (length a) refl) (IsBytes-take (length a) (a ++ b) h)

pub back_bytes : (a b : List ℕ) → IsBytes (a ++ b) → IsBytes b
back_bytes a b h = subst IsBytes (drop_at a b (length a) refl) (IsBytes-drop (length a) (a ++ b) h)

pub are_bytes : (bytes : List ℕ) → IsBytes bytes → All (λ b. b < 256) bytes
are_bytes bytes h = All-from_get_or (λ b. b < 256) bytes 0 (λ i _. h i)
