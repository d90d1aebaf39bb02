-- Examples of instructions on numbers (Intel SDM, volume 2: ADD, OR, AND, SUB, XOR, CMP, TEST, IMUL, NOT, NEG, DIV, IDIV,
-- SAL/SAR/SHL/SHR). `Flagged` gives carry, zero, sign and overflow.
use Rattle.std.specs.Prelude.{pos, negsuc, List, [], ◌∷◌}
use Rattle.x86_forms.specs.declared.instr.Rm.TheVariants.{Mem as InMem}
use Rattle.x86_forms.specs.declared.instr.Instr.TheVariants.{AluTo, AluFrom, AluImm, Test, Imul, One, ShiftCl, ShiftImm}
use Rattle.x86_forms.specs.Requests.{Divides}
use Rattle.x86_forms.specs.Examples.{Example, Holds, Flagged, Lies, done, fails, reg, in_reg, based}

abbrev pub examples_of_sums : List Example
examples_of_sums =
    -- add eax, ecx: a carry and 0; a signed overflow; neither, and the upper half is cleared
    done (Holds 0 0xffff_ffff ∷ Holds 1 1 ∷ []) (AluTo 0 32 (reg 1) (in_reg 0)) (Holds 0 0 ∷ Flagged 1 1 0 0 ∷ [])
    ∷ done (Holds 0 0x7fff_ffff ∷ Holds 1 1 ∷ []) (AluTo 0 32 (reg 1) (in_reg 0)) (Holds 0 0x8000_0000 ∷ Flagged 0 0 1 1 ∷ [])
    ∷ done (Holds 0 0xffff_ffff_0000_0002 ∷ Holds 1 3 ∷ []) (AluTo 0 32 (reg 1) (in_reg 0)) (Holds 0 5 ∷ Flagged 0 0 0 0 ∷ [])
    -- add [rdi], rax: a carry and a signed overflow
    ∷ done (Holds 7 0x2000 ∷ Holds 0 0x8000_0000_0000_0000 ∷ Lies 8 0x2000 0x8000_0000_0000_0001 ∷ []) (AluTo 0 64 (reg 0) (InMem (based 7 (pos 0)))) (Lies 8 0x2000 1 ∷ Flagged 1 0 0 1 ∷ [])
    -- sub rax, [rdi]: 3 - 5; sub eax, 1: a signed overflow; sub rax, -1: 5 + 1 with a borrow
    ∷ done (Holds 7 0x2000 ∷ Holds 0 3 ∷ Lies 8 0x2000 5 ∷ []) (AluFrom 3 64 (reg 0) (based 7 (pos 0))) (Holds 0 0xffff_ffff_ffff_fffe ∷ Flagged 1 0 1 0 ∷ [])
    ∷ done (Holds 0 0x8000_0000 ∷ []) (AluImm 3 32 (in_reg 0) (pos 1)) (Holds 0 0x7fff_ffff ∷ Flagged 0 0 0 1 ∷ [])
    ∷ done (Holds 0 5 ∷ []) (AluImm 3 64 (in_reg 0) (negsuc 0)) (Holds 0 6 ∷ Flagged 1 0 0 0 ∷ [])
    -- cmp eax, ecx; cmp eax, [rdi]; cmp dword [rdi], -1: only flags
    ∷ done (Holds 0 0xffff_ffff_0000_0001 ∷ Holds 1 0xffff_ffff ∷ []) (AluTo 5 32 (reg 1) (in_reg 0)) (Flagged 1 0 0 0 ∷ [])
    ∷ done (Holds 7 0x2000 ∷ Holds 0 0xffff_ffff_0000_0009 ∷ Lies 4 0x2000 9 ∷ []) (AluFrom 5 32 (reg 0) (based 7 (pos 0))) (Flagged 0 1 0 0 ∷ [])
    ∷ done (Holds 7 0x2000 ∷ Lies 4 0x2000 0x7fff_ffff ∷ []) (AluImm 5 32 (InMem (based 7 (pos 0))) (negsuc 0)) (Flagged 1 0 1 1 ∷ [])
    -- neg of 1, of 0 and of the least number
    ∷ done (Holds 0 1 ∷ []) (One 1 32 (in_reg 0)) (Holds 0 0xffff_ffff ∷ Flagged 1 0 1 0 ∷ [])
    ∷ done (Holds 0 0 ∷ []) (One 1 64 (in_reg 0)) (Holds 0 0 ∷ Flagged 0 1 0 0 ∷ [])
    ∷ done (Holds 7 0x2000 ∷ Lies 4 0x2000 0x8000_0000 ∷ []) (One 1 32 (InMem (based 7 (pos 0)))) (Lies 4 0x2000 0x8000_0000 ∷ Flagged 1 0 1 1 ∷ [])
    ∷ []

-- they clear carry and overflow
abbrev pub examples_of_logic : List Example
examples_of_logic =
    -- or eax, ecx; and rax, -16; xor eax, eax; or rax, [rdi]; xor [rdi], eax
    done (Holds 0 0xf0f0 ∷ Holds 1 0x0f0f ∷ []) (AluTo 1 32 (reg 1) (in_reg 0)) (Holds 0 0xffff ∷ Flagged 0 0 0 0 ∷ [])
    ∷ done (Holds 0 0x8000_0000_0000_123f ∷ []) (AluImm 2 64 (in_reg 0) (negsuc 15)) (Holds 0 0x8000_0000_0000_1230 ∷ Flagged 0 0 1 0 ∷ [])
    ∷ done (Holds 0 0xffff_ffff_1234_5678 ∷ []) (AluTo 4 32 (reg 0) (in_reg 0)) (Holds 0 0 ∷ Flagged 0 1 0 0 ∷ [])
    ∷ done (Holds 7 0x2000 ∷ Holds 0 1 ∷ Lies 8 0x2000 6 ∷ []) (AluFrom 1 64 (reg 0) (based 7 (pos 0))) (Holds 0 7 ∷ Flagged 0 0 0 0 ∷ [])
    ∷ done (Holds 7 0x2000 ∷ Holds 0 0xff ∷ Lies 8 0x2000 0x8000_00f0 ∷ []) (AluTo 4 32 (reg 0) (InMem (based 7 (pos 0)))) (Lies 8 0x2000 0x8000_000f ∷ Flagged 0 0 1 0 ∷ [])
    -- test eax, ecx; test [rdi], rax: only flags
    ∷ done (Holds 0 0xffff_ffff_0000_000f ∷ Holds 1 0xf0 ∷ []) (Test 32 (reg 1) (in_reg 0)) (Flagged 0 1 0 0 ∷ [])
    ∷ done (Holds 7 0x2000 ∷ Holds 0 0xc000_0000_0000_0000 ∷ Lies 8 0x2000 0x8000_0000_0000_0000 ∷ []) (Test 64 (reg 0) (InMem (based 7 (pos 0)))) (Flagged 0 0 1 0 ∷ [])
    -- not eax; not qword [rdi]: no flag changes
    ∷ done (Holds 0 0xffff_ffff_ffff_fff0 ∷ []) (One 0 32 (in_reg 0)) (Holds 0 0xf ∷ [])
    ∷ done (Holds 7 0x2000 ∷ Lies 8 0x2000 0xff ∷ []) (One 0 64 (InMem (based 7 (pos 0)))) (Lies 8 0x2000 0xffff_ffff_ffff_ff00 ∷ [])
    ∷ []

abbrev pub examples_of_products : List Example
examples_of_products =
    -- imul eax, ecx: a product that doesn't fit, and -3 * 5; imul rax, [rdi]: -2^63 * -1, and 3 * 4
    done (Holds 0 0x10000 ∷ Holds 1 0x10000 ∷ []) (Imul 32 (reg 0) (in_reg 1)) (Holds 0 0 ∷ Flagged 1 0 0 1 ∷ [])
    ∷ done (Holds 0 0xffff_fffd ∷ Holds 1 5 ∷ []) (Imul 32 (reg 0) (in_reg 1)) (Holds 0 0xffff_fff1 ∷ Flagged 0 0 0 0 ∷ [])
    ∷ done (Holds 7 0x2000 ∷ Holds 0 0x8000_0000_0000_0000 ∷ Lies 8 0x2000 0xffff_ffff_ffff_ffff ∷ []) (Imul 64 (reg 0) (InMem (based 7 (pos 0)))) (Holds 0 0x8000_0000_0000_0000 ∷ Flagged 1 0 0 1 ∷ [])
    ∷ done (Holds 7 0x2000 ∷ Holds 0 3 ∷ Lies 8 0x2000 4 ∷ []) (Imul 64 (reg 0) (InMem (based 7 (pos 0)))) (Holds 0 12 ∷ Flagged 0 0 0 0 ∷ [])
    -- div ecx: 2^32 / 2; 2^33 / 2, which 32 bits don't hold; by 0. div qword [rdi]: 100 / 7
    ∷ done (Holds 2 1 ∷ Holds 0 0 ∷ Holds 1 2 ∷ []) (One 2 32 (in_reg 1)) (Holds 0 0x8000_0000 ∷ Holds 2 0 ∷ Flagged 0 0 0 0 ∷ [])
    ∷ fails (Holds 2 2 ∷ Holds 0 0 ∷ Holds 1 2 ∷ []) (One 2 32 (in_reg 1)) Divides []
    ∷ fails (Holds 2 0 ∷ Holds 0 7 ∷ Holds 1 0 ∷ []) (One 2 64 (in_reg 1)) Divides []
    ∷ done (Holds 7 0x2000 ∷ Holds 2 0 ∷ Holds 0 100 ∷ Lies 8 0x2000 7 ∷ []) (One 2 64 (InMem (based 7 (pos 0)))) (Holds 0 14 ∷ Holds 2 2 ∷ Flagged 0 0 0 0 ∷ [])
    -- idiv ecx: -7 / 2 is -3 with rest -1; -2^31 / -1, which 32 bits don't hold; by 0. idiv rcx: 7 / -2 is -3 with rest 1, and
    -- -2^63 / -1
    ∷ done (Holds 2 0xffff_ffff ∷ Holds 0 0xffff_fff9 ∷ Holds 1 2 ∷ []) (One 3 32 (in_reg 1)) (Holds 0 0xffff_fffd ∷ Holds 2 0xffff_ffff ∷ Flagged 0 0 0 0 ∷ [])
    ∷ fails (Holds 2 0xffff_ffff ∷ Holds 0 0x8000_0000 ∷ Holds 1 0xffff_ffff ∷ []) (One 3 32 (in_reg 1)) Divides []
    ∷ fails (Holds 2 0 ∷ Holds 0 7 ∷ Holds 1 0x1_0000_0000 ∷ []) (One 3 32 (in_reg 1)) Divides []
    ∷ done (Holds 2 0 ∷ Holds 0 7 ∷ Holds 1 0xffff_ffff_ffff_fffe ∷ []) (One 3 64 (in_reg 1)) (Holds 0 0xffff_ffff_ffff_fffd ∷ Holds 2 1 ∷ Flagged 0 0 0 0 ∷ [])
    ∷ fails (Holds 2 0xffff_ffff_ffff_ffff ∷ Holds 0 0x8000_0000_0000_0000 ∷ Holds 1 0xffff_ffff_ffff_ffff ∷ []) (One 3 64 (in_reg 1)) Divides []
    ∷ []

abbrev pub examples_of_shifts : List Example
examples_of_shifts =
    -- shl eax, 1 out of the top bit; shl eax, 4; shr eax, 1; sar eax, 1; shr rax, 63; sar qword [rdi], 4
    done (Holds 0 0x8000_0000 ∷ []) (ShiftImm 0 32 (in_reg 0) (pos 1)) (Holds 0 0 ∷ Flagged 1 1 0 1 ∷ [])
    ∷ done (Holds 0 0x1800_0001 ∷ []) (ShiftImm 0 32 (in_reg 0) (pos 4)) (Holds 0 0x8000_0010 ∷ Flagged 1 0 1 0 ∷ [])
    ∷ done (Holds 0 0x8000_0001 ∷ []) (ShiftImm 1 32 (in_reg 0) (pos 1)) (Holds 0 0x4000_0000 ∷ Flagged 1 0 0 1 ∷ [])
    ∷ done (Holds 0 0x8000_0001 ∷ []) (ShiftImm 2 32 (in_reg 0) (pos 1)) (Holds 0 0xc000_0000 ∷ Flagged 1 0 1 0 ∷ [])
    ∷ done (Holds 0 0x8000_0000_0000_0000 ∷ []) (ShiftImm 1 64 (in_reg 0) (pos 63)) (Holds 0 1 ∷ Flagged 0 0 0 0 ∷ [])
    ∷ done (Holds 7 0x2000 ∷ Lies 8 0x2000 0xffff_ffff_ffff_ff80 ∷ []) (ShiftImm 2 64 (InMem (based 7 (pos 0))) (pos 4)) (Lies 8 0x2000 0xffff_ffff_ffff_fff8 ∷ Flagged 0 0 1 0 ∷ [])
    -- shl rax, cl by 64, which is 0: no flag changes; shl eax, cl by 0 clears the upper half; shr eax, cl by 33, which is 1;
    -- shl rax, cl by 33; sar dword [rdi], cl by 2
    ∷ done (Holds 0 5 ∷ Holds 1 64 ∷ []) (ShiftCl 0 64 (in_reg 0)) []
    ∷ done (Holds 0 0xffff_ffff_0000_0005 ∷ Holds 1 0 ∷ []) (ShiftCl 0 32 (in_reg 0)) (Holds 0 5 ∷ [])
    ∷ done (Holds 0 6 ∷ Holds 1 33 ∷ []) (ShiftCl 1 32 (in_reg 0)) (Holds 0 3 ∷ Flagged 0 0 0 0 ∷ [])
    ∷ done (Holds 0 1 ∷ Holds 1 0x121 ∷ []) (ShiftCl 0 64 (in_reg 0)) (Holds 0 0x2_0000_0000 ∷ Flagged 0 0 0 0 ∷ [])
    ∷ done (Holds 7 0x2000 ∷ Holds 1 2 ∷ Lies 4 0x2000 0xffff_fffe ∷ []) (ShiftCl 2 32 (InMem (based 7 (pos 0)))) (Lies 4 0x2000 0xffff_ffff ∷ Flagged 1 0 1 0 ∷ [])
    ∷ []
