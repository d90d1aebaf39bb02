-- How far the region of an address reaches.
use Rattle.std.specs.Prelude.{ℕ, nat_le, nat_lt, Bool, ◌&&◌, if◌then◌else◌, List, [], ◌∷◌}
use Rattle.mx_base.specs.Regions.{Region, regions, is_in, region_end}

abbrev pub is_between : ℕ → ℕ → ℕ → Bool
is_between from end a = nat_le from a && nat_lt a end

-- the address after the first of these regions that passes the test and has the address; the address itself if none does
abbrev pub end_among : (Region → Bool) → List Region → ℕ → ℕ
end_among test [] a = a
end_among test (r ∷ rs) a = if test r && is_in r a then region_end r else end_among test rs a

-- the same among all regions
unfoldable pub run_end : (Region → Bool) → ℕ → ℕ
run_end test a = end_among test regions a
