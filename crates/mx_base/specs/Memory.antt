-- A memory: the byte at each address.
use Rattle.std.specs.Prelude.{ℕ, zero, suc, ◌+◌, ◌-◌, ◌*◌, ◌/◌, ◌%◌, ◌<◌, min, Bool, ◌==◌, if◌then◌else◌, Option, Some, None, List, [], ◌∷◌}
use Rattle.std.specs.Option.{option_or}
use Rattle.mx_base.specs.Bounds.{addresses}

abbrev pub Bytes : Type 0
Bytes = ℕ → ℕ

-- each byte is one
abbrev pub AreBytes : Bytes → Type 0
AreBytes m = (a : ℕ) → m a < 256

-- every byte is 0
abbrev pub no_bytes : Bytes
no_bytes = λ a. 0

-- one byte changed
abbrev pub with_byte : Bytes → ℕ → ℕ → Bytes
with_byte m a b = λ x. if x == a then b else m x

-- The four that follow do not come round at the last address: they are asked only of bytes that lie in regions, and no region has it.
-- the number of n bytes from a on, the lowest byte first
unfoldable pub number_at : ℕ → Bytes → ℕ → ℕ
number_at zero m a = 0
number_at (suc n) m a = m a + 256 * number_at n m (a + 1)

-- n bytes from a on replaced by those of v, the lowest byte first
unfoldable pub with_number : ℕ → Bytes → ℕ → ℕ → Bytes
with_number zero m a v = m
with_number (suc n) m a v = with_number n (with_byte m a (v % 256)) (a + 1) (v / 256)

-- n bytes from a on, in order
unfoldable pub list_at : ℕ → Bytes → ℕ → List ℕ
list_at zero m a = []
list_at (suc n) m a = m a ∷ list_at n m (a + 1)

-- these bytes in place of those from a on
unfoldable pub with_list : Bytes → ℕ → List ℕ → Bytes
with_list m a [] = m
with_list m a (b ∷ bs) = with_list (with_byte m a b) (a + 1) bs

-- the first of n addresses from a on at which the test fails
unfoldable pub first_refused : (ℕ → Bool) → ℕ → ℕ → Option ℕ
first_refused test zero a = None
first_refused test (suc n) a = if test a then first_refused test n (a + 1) else Some a

-- the same for n bytes that may go past the last address, and on from address 0
unfoldable pub first_refused_around : (ℕ → Bool) → ℕ → ℕ → Option ℕ
first_refused_around test n a = option_or (first_refused test (min n (addresses - a)) a) (first_refused test (n - (addresses - a)) 0)
