-- The calls of an object in memory that can fail: the number of the next one, and those that are to fail.
use Rattle.std.specs.Prelude.{ℕ, ◌+◌, ◌==◌, Bool, false, Option, None, Some, if◌then◌else◌, List, nat_lt}
use Rattle.std.specs.List.{list_any}
use Rattle.std.specs.Option.{option_map_or, option_and_then}

-- the numbers, from 0, of the next call and of those that are to fail; no call has a number after 2^64 of them
pub record Planned : Type 0 where
  pub number : Option ℕ
  pub fails : List ℕ

-- before the first call
abbrev pub planned : List ℕ → Planned
planned fails = record { number = Some 0; fails = fails }

-- whether the next call is to fail
abbrev pub is_to_fail : Planned → Bool
is_to_fail p = option_map_or (λ n. list_any (λ k. k == n) p.fails) p.number false

-- the number after n, if a call has it
abbrev pub number_after : ℕ → Option ℕ
number_after n = if nat_lt (n + 1) 0x1_0000_0000_0000_0000 then Some (n + 1) else None

-- one call later
abbrev pub after_call : Planned → Planned
after_call p = record { number = option_and_then number_after p.number; fails = p.fails }
