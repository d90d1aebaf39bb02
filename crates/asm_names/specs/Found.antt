-- Words are found by their texts.
use Rattle.std.specs.Prelude.{◌≡◌, ℕ, ◌<◌, Some}
use Rattle.asm_names.specs.Mnemonics.{mnemonic_at, mnemonic_text, mnemonic_of}
use Rattle.asm_names.specs.Registers.{register_text, register_of, bounds_text, bounds_of, width_at, size_text, size_of}

-- every mnemonic, register and size is found by its text
pub record WordsAreFound : Type 0 where
  pub mnemonics : (k : ℕ) → k < 65 → mnemonic_of (mnemonic_text (mnemonic_at k)) ≡ Some (mnemonic_at k)
  pub registers : (w r : ℕ) → r < 16 → register_of w (register_text w r) ≡ Some r
  pub bounds : (b : ℕ) → b < 4 → bounds_of (bounds_text b) ≡ Some b
  pub sizes : (k : ℕ) → k < 4 → size_of (size_text (width_at k)) ≡ Some (width_at k)
