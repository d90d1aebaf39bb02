-- The texts of operands.
use Rattle.std.specs.Prelude.{ℕ, ◌==◌, if◌then◌else◌, List, [], ◌++◌, codes, decimal, Option, None, Some, ℤ, pos, negsuc}
use Rattle.std.specs.Fmt.{signed_decimal}
use Rattle.x86_forms.specs.declared.instr.Reg.{Reg}
use Rattle.x86_forms.specs.declared.instr.Base.{Base}
use Rattle.x86_forms.specs.declared.instr.Base.TheVariants.{None as NoBase, Reg as BaseReg, Rip}
use Rattle.x86_forms.specs.declared.instr.Mem.{Mem}
use Rattle.x86_forms.specs.Spelling.{is_zero}
use Rattle.asm_names.specs.Registers.{register_text, bounds_text, size_text}
use Rattle.disasm.specs.declared.operand.Operand.{Operand}
use Rattle.disasm.specs.declared.operand.Operand.TheVariants.{Nothing, Register, Bounds, Memory, Sized, Signed, Relative}

-- the whole name of a register
abbrev pub name_of : Reg → List ℕ
name_of r = register_text 64 r.0

-- a displacement behind something: its sign stands always
abbrev pub plus : ℤ → List ℕ
plus (pos n) = codes "+"
plus (negsuc n) = []

abbrev pub offset_text : ℤ → List ℕ
offset_text z = plus z ++ signed_decimal z

-- where it is 0 it is left out
abbrev pub disp_text : ℤ → List ℕ
disp_text z = if is_zero z then [] else offset_text z

-- an index register with its scale
abbrev pub scaled_text : Reg → ℕ → List ℕ
scaled_text r scale = name_of r ++ codes "*" ++ decimal scale

-- behind a base a scale of 1 is left out
abbrev pub index_text : Option (Reg × ℕ) → List ℕ
index_text None = []
index_text (Some x) = codes "+" ++ (if x.1 == 1 then name_of x.0 else scaled_text x.0 x.1)

-- what stands between the brackets
abbrev pub address_text : Base → Option (Reg × ℕ) → ℤ → List ℕ
address_text NoBase None disp = signed_decimal disp
address_text NoBase (Some x) disp = scaled_text x.0 x.1 ++ disp_text disp
address_text Rip index disp = codes "rip" ++ offset_text disp
address_text (BaseReg r) index disp = name_of r ++ index_text index ++ disp_text disp

-- memory, `[base+index*s+n]`
unfoldable pub memory_text : Mem → List ℕ
memory_text m = codes "[" ++ address_text m.base m.index m.disp ++ codes "]"

unfoldable pub operand_text : Operand → List ℕ
operand_text Nothing = []
operand_text (Register w r) = register_text w r.0
operand_text (Bounds b) = bounds_text b
operand_text (Memory m) = memory_text m
operand_text (Sized w m) = size_text w ++ codes " " ++ memory_text m
operand_text (Signed z) = signed_decimal z
operand_text (Relative z) = codes "rel " ++ signed_decimal z

-- an operand behind a mark, if there is one
unfoldable pub behind : List ℕ → Operand → List ℕ
behind mark Nothing = []
behind mark x = mark ++ operand_text x
