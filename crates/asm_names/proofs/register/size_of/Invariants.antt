use Rattle.std.proofs.Common.{◌≡◌, ◌-◌}
use Rattle.std.specs.Str.{bytes_eq}
use Rattle.asm_names.specs.First.{first_from}
use Rattle.asm_names.specs.Registers.{size_text, width_at}
use Rattle.asm_names.proofs.register.size_of.Given as goal

-- none before is of this text
abbrev pub invariant-loop-k : goal.invariant-loop-k
invariant-loop-k l = first_from (λ k. bytes_eq (size_text (width_at k)) l.text) (4 - l.k) l.k ≡ first_from (λ k. bytes_eq (size_text (width_at k)) l.text) 4 0
