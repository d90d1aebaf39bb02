-- What the parts of the gates that touch registers alone make of them.
use Rattle.std.specs.Prelude.{ℕ, ◌+◌, nat_lt, if◌then◌else◌, Option, List, [], ◌∷◌}
use Rattle.mx_base.specs.declared.limits.Bounds.{Bounds}
use Rattle.mx_base.specs.declared.numbers.IntKind.{IntKind}
use Rattle.mx_base.specs.Bounds.{full_bounds}
use Rattle.x86_forms.specs.Processor.{with_reg}
use Rattle.call_sigs.specs.Signatures.{parameter_register}
use Rattle.call_gates.specs.Gates.{Code}
use Rattle.legacy_calls.specs.Legacy.{word_as}

-- the address behind code
abbrev pub end_of : ℕ → Code → ℕ
end_of a [] = a
end_of a (x ∷ rest) = end_of (a + x.1) rest

abbrev pub cleared : List ℕ → (ℕ → ℕ) → ℕ → ℕ
cleared [] regs = regs
cleared (r ∷ rs) regs = cleared rs (with_reg regs r 0)

abbrev pub arrived : (k : ℕ) → List (Option IntKind) → (ℕ → ℕ) → ℕ → ℕ
arrived k [] regs = regs
arrived k (p ∷ ps) regs = arrived (k + 1) ps (with_reg regs (parameter_register k) (word_as p (regs (parameter_register k))))

-- the bounds registers from one on are INIT
abbrev pub init_above : ℕ → (ℕ → Bounds) → ℕ → Bounds
init_above b bounds = λ x. if nat_lt x b then bounds x else full_bounds
