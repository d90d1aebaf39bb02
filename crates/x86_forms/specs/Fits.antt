-- Which signed numbers a field holds.
use Rattle.std.specs.Prelude.{Bool, ℤ, pos, negsuc, nat_lt, ◌^◌, false}

-- the signed value of a field of 8 bits
abbrev pub fits_8 : ℤ → Bool
fits_8 (pos n) = nat_lt n 128
fits_8 (negsuc n) = nat_lt n 128

-- of 16 bits
abbrev pub fits_16 : ℤ → Bool
fits_16 (pos n) = nat_lt n 32768
fits_16 (negsuc n) = nat_lt n 32768

-- of 32 bits
abbrev pub fits_32 : ℤ → Bool
fits_32 (pos n) = nat_lt n (2 ^ 31)
fits_32 (negsuc n) = nat_lt n (2 ^ 31)

-- of 64 bits
abbrev pub fits_64 : ℤ → Bool
fits_64 (pos n) = nat_lt n (2 ^ 63)
fits_64 (negsuc n) = nat_lt n (2 ^ 63)

-- the unsigned value of a field of 8 bits, as the count of a shift
abbrev pub fits_count : ℤ → Bool
fits_count (pos n) = nat_lt n 256
fits_count (negsuc n) = false
