-- Bounds: a pair of addresses, both of them inside (Intel SDM, volume 1, bounds registers; volume 2, BNDCL and BNDCU).
use Rattle.std.specs.Prelude.{ℕ, ◌+◌, ◌-◌, ◌%◌, min, max, nat_lt, Bool, ◌||◌, Option, None, Some, if◌then◌else◌}
use Rattle.mx_base.specs.declared.limits.Bounds.{Bounds}

-- how many addresses there are
abbrev pub addresses : ℕ
addresses = 0x1_0000_0000_0000_0000

-- the address n bytes behind another
unfoldable pub moved : ℕ → ℕ → ℕ
moved a n = (a + n) % addresses

-- every address
abbrev pub full_bounds : Bounds
full_bounds = record { lb = 0; ub = 0xffff_ffff_ffff_ffff }

-- the addresses inside both
abbrev pub met : Bounds → Bounds → Bounds
met a b = record { lb = max a.lb b.lb; ub = min a.ub b.ub }

-- the last byte of s bytes at p, where s is at least 1
unfoldable pub last_byte : ℕ → ℕ → ℕ
last_byte p s = (p + s - 1) % addresses

-- the value by which an access of s bytes at p leaves the bounds: its first byte below them, or its last byte above them
unfoldable pub leaving_value : ℕ → ℕ → Bounds → Option ℕ
leaving_value p s b = if nat_lt p b.lb then Some p else if nat_lt b.ub (last_byte p s) then Some (last_byte p s) else None

-- whether an access of s bytes at p leaves the bounds
unfoldable pub is_outside : ℕ → ℕ → Bounds → Bool
is_outside p s b = nat_lt p b.lb || nat_lt b.ub (last_byte p s)

-- the bounds of n bytes at p: full for no bytes at 0, and nothing inside for no bytes elsewhere
unfoldable pub bounds_at : ℕ → ℕ → Bounds
bounds_at p n = record { lb = p; ub = (p + n + (addresses - 1)) % addresses }

-- an upper bound as a bounds register holds it, in one's complement form
abbrev pub complement : ℕ → ℕ
complement a = 0xffff_ffff_ffff_ffff - a
