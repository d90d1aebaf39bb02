-- The scalars of a copied struct lie within the bounds that hold the struct.
use Rattle.std.proofs.Common.{ℕ, ◌+◌, ◌-◌, ◌%◌, ◌≡◌, ◌≤◌, ◌<◌, min, refl, Bool, true, false, cond, Option, Some, None, not, arith}
use Rattle.std.specs.Option.{option_or}
use Rattle.std.proofs.lemmas.Bool.Decides.{nat_tests}
use Rattle.mx_base.specs.declared.limits.Bounds.{Bounds}
use Rattle.mx_base.specs.Bounds.{addresses, moved, last_byte, is_outside}
use Rattle.mx_base.specs.Regions.{is_sealed, is_open_to_read, is_open_to_write}
use Rattle.mx_base.specs.Memory.{first_refused, first_refused_around}
use Rattle.mx_base.specs.Access.{refused_at, refusal}
use Rattle.mx_base.proofs.MemoryLemmas.{first_refused-none}
use Rattle.mx_base.proofs.BoundsLemmas.{within-bounds}

-- what is open to C lies between these addresses
open-to-read : (a : ℕ) → is_open_to_read a ≡ true → (0x1200_0000 ≤ a) × (a < 0x6080_0000)
unfolding is_open_to_read
open-to-read a h = (grind (arith, nat_tests), grind (arith, nat_tests))

open-to-write : (a : ℕ) → is_open_to_write a ≡ true → (0x1200_0000 ≤ a) × (a < 0x6080_0000)
unfolding is_open_to_write
open-to-write a h = (grind (arith, nat_tests), grind (arith, nat_tests))

open-range : (write : Bool) (a : ℕ) → cond write (is_open_to_write a) (is_open_to_read a) ≡ true → (0x1200_0000 ≤ a) × (a < 0x6080_0000)
open-range true a h = open-to-write a h
open-range false a h = open-to-read a h

not-missing : (s m : Option ℕ) → refused_at s m ≡ None → m ≡ None
not-missing (Some x) m e = absurd (cc)
not-missing None (Some x) e = absurd (cc)
not-missing None None e = refl

first-none : (o p : Option ℕ) → option_or o p ≡ None → o ≡ None
first-none None p e = refl
first-none (Some x) p e = absurd (cc)

first-passes : (test : ℕ → Bool) (n a : ℕ) → 1 ≤ n → a < addresses → first_refused_around test n a ≡ None → test a ≡ true
unfolding first_refused_around
first-passes test n a some low e = first_refused-none test (min n (addresses - a)) a a (first-none (first_refused test (min n (addresses - a)) a) _ e) (omega arith) (omega arith)

-- the first byte of an access that is not refused
allowed-range : (write : Bool) (n a : ℕ) → 1 ≤ n → a < addresses → refusal write n a ≡ None → (0x1200_0000 ≤ a) × (a < 0x6080_0000)
unfolding refusal
allowed-range write n a some low e = open-range write a (first-passes (λ x. cond write (is_open_to_write x) (is_open_to_read x)) n a some low (not-missing (first_refused_around (λ x. not (is_sealed x)) n a) _ e))

from-ends : (p s : ℕ) (b : Bounds) → b.lb ≤ p → last_byte p s ≤ b.ub → is_outside p s b ≡ false
unfolding is_outside
from-ends p s b low high = grind (arith, nat_tests)

pub part-inside : (write : Bool) (t offset n size : ℕ) (b : Bounds) → size ≤ 16777216 → 1 ≤ n → offset + n ≤ size → is_outside (moved t 0) size b ≡ false → refusal write n (moved t offset) ≡ None → is_outside (moved t offset) n b ≡ false
unfolding moved last_byte
part-inside write t offset n size b small some fits whole e =
    let range = allowed-range write n ((t + offset) % addresses) some (omega arith) e in
    let ends = within-bounds ((t + 0) % addresses) size b whole in
    let r0 = range.0 in
    let r1 = range.1 in
    let e0 = ends.0 in
    let e1 = ends.1 in
    let low : b.lb ≤ (t + offset) % addresses = omega (arith, r0, r1, e0, small, some, fits) in
    let high : ((t + offset) % addresses + n - 1) % addresses ≤ b.ub = omega (arith, r0, r1, e1, small, some, fits) in
    from-ends ((t + offset) % addresses) n b low high
