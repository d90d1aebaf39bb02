-- The bounds registers, as the instruction table sees them.
use Rattle.std.specs.Prelude.{ℕ, ◌/◌, ◌%◌, Bool, ◌==◌, slice_index}
use Rattle.mx_base.specs.declared.limits.Bounds.{Bounds}
use Rattle.mx_base.specs.Bounds.{complement}
use Rattle.mpx_core.specs.declared.registers.BndRegs.{BndRegs}

abbrev pub held_bounds : ℕ → ℕ → Bounds
held_bounds lb held = record { lb = lb; ub = complement held }

abbrev pub bounds_of : BndRegs → ℕ → Bounds
bounds_of b = λ k. held_bounds (slice_index b.lb k) (slice_index b.held k)

-- BNDPRESERVE: bit 1 of the configuration register
abbrev pub preserves : ℕ → Bool
preserves cfg = cfg / 2 % 2 == 1

abbrev pub with_status : BndRegs → ℕ → BndRegs
with_status b status = record b { status = status }
