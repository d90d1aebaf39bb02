use Rattle.std.proofs.Common.{◌≡◌, ◌-◌}
use Rattle.std.specs.Str.{bytes_eq}
use Rattle.asm_names.specs.First.{first_from}
use Rattle.asm_names.specs.Mnemonics.{mnemonic_at, mnemonic_text}
use Rattle.asm_names.proofs.mnemonic.mnemonic_of.Given as goal

-- none before is of this text
abbrev pub invariant-loop-k : goal.invariant-loop-k
invariant-loop-k l = first_from (λ k. bytes_eq (mnemonic_text (mnemonic_at k)) l.text) (65 - l.k) l.k ≡ first_from (λ k. bytes_eq (mnemonic_text (mnemonic_at k)) l.text) 65 0
