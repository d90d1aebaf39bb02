-- What bounds that were met with others allow.
use Rattle.std.proofs.Common.{◌≡◌, ℕ, ◌≤◌, Bool, true, false, cond, ◌||◌, ◌&&◌, not, refl, ap, ◌∙◌, subst, arith}
use Rattle.std.proofs.lemmas.Bool.Decides.{nat_tests}
use Rattle.mx_base.specs.declared.limits.Bounds.{Bounds}
use Rattle.mx_base.specs.declared.settings.Flags.{Flags}
use Rattle.mx_base.specs.Bounds.{last_byte, is_outside, met, moved, bounds_at}
use Rattle.mx_base.proofs.BoundsLemmas.{within-bounds}
use Rattle.narrowing.specs.Member.{member_bounds, member_keeps, part_bytes}
use Rattle.narrowing.specs.Element.{element_bounds, element_meets}

inside : (q s : ℕ) (b : Bounds) → b.lb ≤ q → last_byte q s ≤ b.ub → is_outside q s b ≡ false
unfolding is_outside
inside q s b low high = grind (arith, nat_tests)

-- an access within bounds that were met lies in both
pub both-met : (q s : ℕ) (b d : Bounds) → is_outside q s (met b d) ≡ false → (is_outside q s b ≡ false) × (is_outside q s d ≡ false)
both-met q s b d h =
    let ends = within-bounds q s (met b d) h in
    let low = ends.0 in
    let high = ends.1 in
    (inside q s b (omega (arith, low)) (omega (arith, high)), inside q s d (omega (arith, low)) (omega (arith, high)))

-- and within the bytes of a part, of 1 at least, it lies in the part
part-holds : (offset size p q s : ℕ) (b : Bounds) → 1 ≤ size → is_outside q s (met b (part_bytes offset size p)) ≡ false → (moved p offset ≤ q) × (last_byte q s ≤ last_byte (moved p offset) size)
unfolding bounds_at last_byte
part-holds offset size p q s b some h =
    let ends = within-bounds q s (part_bytes offset size p) (both-met q s b (part_bytes offset size p) h).1 in
    let low = ends.0 in
    let high = ends.1 in
    (low, omega (arith, high))

pub member-within : (flags : Flags) (first trailing : Bool) (offset size p q s : ℕ) (b : Bounds) → is_outside q s (member_bounds flags first trailing offset size p b) ≡ false → is_outside q s b ≡ false
unfolding member_bounds
member-within flags first trailing offset size p q s b h = elim (member_keeps flags first trailing) as (λ t. is_outside q s (cond t b (met b (part_bytes offset size p))) ≡ false → is_outside q s b ≡ false) [
  | true ↦ λ e. e
  | false ↦ λ e. (both-met q s b (part_bytes offset size p) e).0
] h

pub member-narrowed : (flags : Flags) (first trailing : Bool) (offset size p q s : ℕ) (b : Bounds) → member_keeps flags first trailing ≡ false → 1 ≤ size → is_outside q s (member_bounds flags first trailing offset size p b) ≡ false → (moved p offset ≤ q) × (last_byte q s ≤ last_byte (moved p offset) size)
unfolding member_bounds
member-narrowed flags first trailing offset size p q s b meets some h =
    let P : Bool → Type 0 = λ t. is_outside q s (cond t b (met b (part_bytes offset size p))) ≡ false in
    part-holds offset size p q s b some (subst P meets h)

pub element-within : (flags : Flags) (nested : Bool) (offset size p q s : ℕ) (b : Bounds) → is_outside q s (element_bounds flags nested offset size p b) ≡ false → is_outside q s b ≡ false
unfolding element_bounds
element-within flags nested offset size p q s b h = elim (element_meets flags nested) as (λ t. is_outside q s (cond t (met b (part_bytes offset size p)) b) ≡ false → is_outside q s b ≡ false) [
  | true ↦ λ e. (both-met q s b (part_bytes offset size p) e).0
  | false ↦ λ e. e
] h

pub element-narrowed : (flags : Flags) (nested : Bool) (offset size p q s : ℕ) (b : Bounds) → element_meets flags nested ≡ true → 1 ≤ size → is_outside q s (element_bounds flags nested offset size p b) ≡ false → (moved p offset ≤ q) × (last_byte q s ≤ last_byte (moved p offset) size)
unfolding element_bounds
element-narrowed flags nested offset size p q s b meets some h =
    let P : Bool → Type 0 = λ t. is_outside q s (cond t (met b (part_bytes offset size p)) b) ≡ false in
    part-holds offset size p q s b some (subst P meets h)

-- without narrowing nothing is met
pub member-stays : (flags : Flags) (first trailing : Bool) (offset size p : ℕ) (b : Bounds) → flags.narrow ≡ false → member_bounds flags first trailing offset size p b ≡ b
unfolding member_bounds
member-stays flags first trailing offset size p b off =
    ap (λ (n : Bool). cond (not n || (first && not flags.first_own) || (trailing && flags.flexible)) b (met b (part_bytes offset size p))) off

pub element-stays : (flags : Flags) (nested : Bool) (offset size p : ℕ) (b : Bounds) → flags.narrow ≡ false → element_bounds flags nested offset size p b ≡ b
unfolding element_bounds
element-stays flags nested offset size p b off = ap (λ (n : Bool). cond (nested && n && flags.innermost) (met b (part_bytes offset size p)) b) off ∙ by_nested nested
  where
    by_nested : (t : Bool) → cond (t && false && flags.innermost) (met b (part_bytes offset size p)) b ≡ b
    by_nested true = refl
    by_nested false = refl
