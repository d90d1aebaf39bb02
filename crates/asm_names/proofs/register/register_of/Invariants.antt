use Rattle.std.proofs.Common.{◌≡◌, ◌-◌}
use Rattle.std.specs.Str.{bytes_eq}
use Rattle.asm_names.specs.First.{first_from}
use Rattle.asm_names.specs.Registers.{register_text}
use Rattle.asm_names.proofs.register.register_of.Given as goal

-- none before is of this text
abbrev pub invariant-loop-r : goal.invariant-loop-r
invariant-loop-r l = first_from (λ r. bytes_eq (register_text l.w r) l.text) (16 - l.r) l.r ≡ first_from (λ r. bytes_eq (register_text l.w r) l.text) 16 0
