-- What the writer of a layout needs: room in fifteen bytes, and bytes that don't wrap.
use Rattle.std.specs.Prelude.{ℕ, ◌≤◌, ◌<◌, ◌+◌, IsTrue, Bool, true, nat_lt, List, length}
use Rattle.std.specs.List.{All}
use Rattle.x86_forms.specs.declared.instr.Instr.{Instr}
use Rattle.x86_forms.specs.declared.layout.Layout.{Layout}
use Rattle.x86_forms.specs.declared.layout.Operands.{Operands}
use Rattle.x86_forms.specs.declared.layout.Operands.TheVariants.{Bare, InOpcode, InModrm}
use Rattle.x86_forms.specs.Spelling.{rex_bits, spelling}
use Rattle.x86_forms.specs.Validity.{valid_of}

-- no more bytes than that, the opcode among them
abbrev pub room_for : Operands → ℕ
room_for Bare = 1
room_for (InOpcode r) = 1
room_for (InModrm reg low_reg rm low_rm) = 7

abbrev pub opcode_fits : ℕ → Operands → Bool
opcode_fits opcode Bare = true
opcode_fits opcode (InOpcode r) = nat_lt opcode 249
opcode_fits opcode (InModrm reg low_reg rm low_rm) = true

pub record IsWritable (l : Layout) : Type 0 where
  pub room : room_for l.operands + l.imm_len ≤ 12
  pub opcode : IsTrue (opcode_fits l.opcode l.operands)
  pub rex : rex_bits l.wide l.operands < 16
  pub imm : l.imm_len ≤ 8

-- one to fifteen bytes
pub record IsShortCode (code : List ℕ) : Type 0 where
  pub some : 1 ≤ length code
  pub most : length code ≤ 15
  pub bytes : All (λ b. b < 256) code

-- every spelling has one to fifteen bytes
abbrev pub SpellingsAreShort : Type 0
SpellingsAreShort = (i : Instr) → IsTrue (valid_of i) → IsShortCode (spelling i)
