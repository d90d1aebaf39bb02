use Rattle.std.proofs.Common.{◌≡◌, ◌-◌}
use Rattle.std.specs.Str.{bytes_eq}
use Rattle.asm_names.specs.First.{first_from}
use Rattle.asm_names.specs.Registers.{bounds_text}
use Rattle.asm_names.proofs.register.bounds_of.Given as goal

-- none before is of this text
abbrev pub invariant-loop-b : goal.invariant-loop-b
invariant-loop-b l = first_from (λ b. bytes_eq (bounds_text b) l.text) (4 - l.b) l.b ≡ first_from (λ b. bytes_eq (bounds_text b) l.text) 4 0
