-- Examples of instructions that move values (Intel SDM, volume 2: MOV, MOVSX/MOVSXD, MOVZX, LEA, SETcc, PUSH, POP, CWD/CDQ/CQO,
-- SYSCALL, UD, NOP).
use Rattle.std.specs.Prelude.{pos, negsuc, List, [], ◌∷◌}
use Rattle.x86_forms.specs.declared.instr.Rm.TheVariants.{Mem as InMem}
use Rattle.x86_forms.specs.declared.instr.Instr.TheVariants.{MovTo, MovFrom, MovMemImm, MovImm, Movsxd, Movzx, Movsx, Lea, Wide, Set, Push, Pop, Syscall, Ud2, Nop}
use Rattle.x86_forms.specs.Requests.{Undefines}
use Rattle.x86_forms.specs.Examples.{Example, Holds, Flagged, Preserving, Status, Lies, done, fails, reg, in_reg, based, indexed, scaled, by_rip}

-- 32 bits clear the upper half of a register; 8 and 16 bits leave the rest of it
abbrev pub examples_of_mov : List Example
examples_of_mov =
    -- mov eax, ecx; mov al, cl; mov ax, cx; mov r8, r9
    done (Holds 0 0xffff_ffff_ffff_ffff ∷ Holds 1 0x1122_3344_5566_7788 ∷ []) (MovTo 32 (reg 1) (in_reg 0)) (Holds 0 0x5566_7788 ∷ [])
    ∷ done (Holds 0 0x1111_1111_1111_1111 ∷ Holds 1 0x2222_2222_2222_2222 ∷ []) (MovTo 8 (reg 1) (in_reg 0)) (Holds 0 0x1111_1111_1111_1122 ∷ [])
    ∷ done (Holds 0 0x1111_1111_1111_1111 ∷ Holds 1 0x2222_2222_2222_2222 ∷ []) (MovTo 16 (reg 1) (in_reg 0)) (Holds 0 0x1111_1111_1111_2222 ∷ [])
    ∷ done (Holds 9 0x8000_0000_0000_0001 ∷ []) (MovTo 64 (reg 9) (in_reg 8)) (Holds 8 0x8000_0000_0000_0001 ∷ [])
    -- mov [rdi+4], rsi; mov [rdi], sil
    ∷ done (Holds 7 0x2000 ∷ Holds 6 0x1122_3344_5566_7788 ∷ Lies 4 0x2000 0xffff_ffff ∷ []) (MovTo 64 (reg 6) (InMem (based 7 (pos 4)))) (Lies 8 0x2004 0x1122_3344_5566_7788 ∷ [])
    ∷ done (Holds 7 0x2000 ∷ Holds 6 0x1122_3344_5566_7788 ∷ Lies 8 0x2000 0xffff_ffff_ffff_ffff ∷ []) (MovTo 8 (reg 6) (InMem (based 7 (pos 0)))) (Lies 8 0x2000 0xffff_ffff_ffff_ff88 ∷ [])
    -- mov eax, [rdi-8]; mov al, [rdi]; mov ax, [rdi]; mov rax, [rdi+rsi*2]
    ∷ done (Holds 7 0x2008 ∷ Lies 8 0x2000 0x1122_3344_8566_7788 ∷ []) (MovFrom 32 (reg 0) (based 7 (negsuc 7))) (Holds 0 0x8566_7788 ∷ [])
    ∷ done (Holds 0 0x1111_1111_1111_1111 ∷ Holds 7 0x2000 ∷ Lies 8 0x2000 0x1122_3344_5566_7788 ∷ []) (MovFrom 8 (reg 0) (based 7 (pos 0))) (Holds 0 0x1111_1111_1111_1188 ∷ [])
    ∷ done (Holds 0 0x1111_1111_1111_1111 ∷ Holds 7 0x2000 ∷ Lies 8 0x2000 0x1122_3344_5566_7788 ∷ []) (MovFrom 16 (reg 0) (based 7 (pos 0))) (Holds 0 0x1111_1111_1111_7788 ∷ [])
    ∷ done (Holds 7 0x2000 ∷ Holds 6 4 ∷ Lies 8 0x2008 0x1122_3344_5566_7788 ∷ []) (MovFrom 64 (reg 0) (indexed 7 6 2 (pos 0))) (Holds 0 0x1122_3344_5566_7788 ∷ [])
    -- mov word [rdi], -2; mov qword [rdi], -1; mov byte [rdi], 0x7f
    ∷ done (Holds 7 0x2000 ∷ Lies 4 0x2000 0x1111_1111 ∷ []) (MovMemImm 16 (based 7 (pos 0)) (negsuc 1)) (Lies 4 0x2000 0x1111_fffe ∷ [])
    ∷ done (Holds 7 0x2000 ∷ Lies 8 0x2000 0x1111_1111 ∷ []) (MovMemImm 64 (based 7 (pos 0)) (negsuc 0)) (Lies 8 0x2000 0xffff_ffff_ffff_ffff ∷ [])
    ∷ done (Holds 7 0x2000 ∷ Lies 4 0x2000 0x1111_1111 ∷ []) (MovMemImm 8 (based 7 (pos 0)) (pos 0x7f)) (Lies 4 0x2000 0x1111_117f ∷ [])
    -- mov ecx, -1; mov rcx, -1
    ∷ done [] (MovImm 32 (reg 1) (negsuc 0)) (Holds 1 0xffff_ffff ∷ [])
    ∷ done [] (MovImm 64 (reg 1) (negsuc 0)) (Holds 1 0xffff_ffff_ffff_ffff ∷ [])
    ∷ []

abbrev pub examples_of_extensions : List Example
examples_of_extensions =
    -- movsxd rax, ecx; movsxd rax, dword [rdi]
    done (Holds 1 0x8000_0000 ∷ []) (Movsxd (reg 0) (in_reg 1)) (Holds 0 0xffff_ffff_8000_0000 ∷ [])
    ∷ done (Holds 7 0x2000 ∷ Lies 8 0x2000 0xffff_ffff_7fff_ffff ∷ []) (Movsxd (reg 0) (InMem (based 7 (pos 0)))) (Holds 0 0x7fff_ffff ∷ [])
    -- movzx eax, cl; movzx eax, word [rdi]
    ∷ done (Holds 1 0x12ff ∷ []) (Movzx 8 (reg 0) (in_reg 1)) (Holds 0 0xff ∷ [])
    ∷ done (Holds 7 0x2000 ∷ Lies 4 0x2000 0x1234_fedc ∷ []) (Movzx 16 (reg 0) (InMem (based 7 (pos 0)))) (Holds 0 0xfedc ∷ [])
    -- movsx eax, cl; movsx rax, cx; movsx rax, byte [rdi]
    ∷ done (Holds 1 0x80 ∷ []) (Movsx 32 8 (reg 0) (in_reg 1)) (Holds 0 0xffff_ff80 ∷ [])
    ∷ done (Holds 1 0x8000 ∷ []) (Movsx 64 16 (reg 0) (in_reg 1)) (Holds 0 0xffff_ffff_ffff_8000 ∷ [])
    ∷ done (Holds 7 0x2000 ∷ Lies 2 0x2000 0xff7f ∷ []) (Movsx 64 8 (reg 0) (InMem (based 7 (pos 0)))) (Holds 0 0x7f ∷ [])
    -- cdq of a number below 0 and of another one, cqo likewise
    ∷ done (Holds 0 0x8000_0000 ∷ []) (Wide 32) (Holds 2 0xffff_ffff ∷ [])
    ∷ done (Holds 0 0xffff_ffff_7fff_ffff ∷ []) (Wide 32) (Holds 2 0 ∷ [])
    ∷ done (Holds 0 0x8000_0000_0000_0000 ∷ []) (Wide 64) (Holds 2 0xffff_ffff_ffff_ffff ∷ [])
    ∷ done (Holds 0 0x7fff_ffff_ffff_ffff ∷ []) (Wide 64) (Holds 2 0 ∷ [])
    ∷ []

abbrev pub examples_of_addresses : List Example
examples_of_addresses =
    -- lea rax, [rdi+rsi*4+16]; lea rax, [rip-5]; lea rax, [rdi+1] past the last address; lea rax, [rsi*8+1]
    done (Holds 7 0x2000 ∷ Holds 6 0x20 ∷ []) (Lea (reg 0) (indexed 7 6 4 (pos 16))) (Holds 0 0x2090 ∷ [])
    ∷ done [] (Lea (reg 0) (by_rip (negsuc 4))) (Holds 0 0x1000 ∷ [])
    ∷ done (Holds 7 0xffff_ffff_ffff_ffff ∷ []) (Lea (reg 0) (based 7 (pos 1))) (Holds 0 0 ∷ [])
    ∷ done (Holds 6 3 ∷ []) (Lea (reg 0) (scaled 6 8 (pos 1))) (Holds 0 25 ∷ [])
    -- push rax; push rsp, which pushes the value before
    ∷ done (Holds 0 0x1234 ∷ Holds 4 0x8000 ∷ []) (Push (reg 0)) (Holds 4 0x7ff8 ∷ Lies 8 0x7ff8 0x1234 ∷ [])
    ∷ done (Holds 4 0x8000 ∷ []) (Push (reg 4)) (Holds 4 0x7ff8 ∷ Lies 8 0x7ff8 0x8000 ∷ [])
    -- pop rax; pop rsp, where the stack pointer grows first
    ∷ done (Holds 4 0x8000 ∷ Lies 8 0x8000 0x1234 ∷ []) (Pop (reg 0)) (Holds 0 0x1234 ∷ Holds 4 0x8008 ∷ [])
    ∷ done (Holds 4 0x8000 ∷ Lies 8 0x8000 0x1234 ∷ []) (Pop (reg 4)) (Holds 4 0x1234 ∷ [])
    ∷ []

abbrev pub examples_of_others : List Example
examples_of_others =
    -- sete al; setne [rdi]; setl al; setbe al
    done (Holds 0 0x1111_1111 ∷ Flagged 0 1 0 0 ∷ []) (Set 4 (in_reg 0)) (Holds 0 0x1111_1101 ∷ [])
    ∷ done (Holds 7 0x2000 ∷ Lies 2 0x2000 0x1111 ∷ Flagged 0 1 0 0 ∷ []) (Set 5 (InMem (based 7 (pos 0)))) (Lies 2 0x2000 0x1100 ∷ [])
    ∷ done (Holds 0 0x1111_1111 ∷ Flagged 0 0 0 1 ∷ []) (Set 12 (in_reg 0)) (Holds 0 0x1111_1101 ∷ [])
    ∷ done (Holds 0 0x1111_1111 ∷ Flagged 0 0 1 0 ∷ []) (Set 6 (in_reg 0)) (Holds 0 0x1111_1100 ∷ [])
    -- nop; ud2; syscall
    ∷ done [] Nop []
    ∷ done (Preserving ∷ Flagged 0 0 0 0 ∷ []) Nop []
    ∷ fails [] Ud2 Undefines []
    ∷ fails (Status 1 ∷ []) Ud2 Undefines []
    ∷ done [] Syscall (Holds 1 0x1005 ∷ Holds 11 0 ∷ [])
    ∷ done (Holds 1 0 ∷ Holds 11 7 ∷ []) Syscall (Holds 1 0x1005 ∷ Holds 11 0 ∷ [])
    ∷ []
