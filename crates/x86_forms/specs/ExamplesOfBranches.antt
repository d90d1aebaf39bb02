-- Examples of near branches (Intel SDM, volume 2: CALL, RET, JMP, Jcc; volume 1, MPX and control flow). The instruction's last byte
-- stands before 0x1005.
use Rattle.std.specs.Prelude.{true, false, pos, negsuc, List, [], ◌∷◌}
use Rattle.x86_forms.specs.declared.instr.Rm.TheVariants.{Mem as InMem}
use Rattle.x86_forms.specs.declared.instr.Instr.TheVariants.{CallRel, JmpRel, CallRm, JmpRm, Jcc, Ret}
use Rattle.x86_forms.specs.Examples.{Example, Holds, Flagged, Next, Init, Preserving, Lies, done, in_reg, based, scaled}

-- without the BND prefix all bounds are INIT after a branch, taken or not, unless BNDPRESERVE is set
abbrev pub examples_of_calls : List Example
examples_of_calls =
    -- call 0x1015; bnd call 0xff5
    done (Holds 4 0x8000 ∷ []) (CallRel false (pos 0x10)) (Holds 4 0x7ff8 ∷ Lies 8 0x7ff8 0x1005 ∷ Next 0x1015 ∷ Init ∷ [])
    ∷ done (Holds 4 0x8000 ∷ []) (CallRel true (negsuc 0xf)) (Holds 4 0x7ff8 ∷ Lies 8 0x7ff8 0x1005 ∷ Next 0xff5 ∷ [])
    -- call rax where BNDPRESERVE is set; call rsp, whose target is read before the push
    ∷ done (Preserving ∷ Holds 4 0x8000 ∷ Holds 0 0x3000 ∷ []) (CallRm false (in_reg 0)) (Holds 4 0x7ff8 ∷ Lies 8 0x7ff8 0x1005 ∷ Next 0x3000 ∷ [])
    ∷ done (Holds 4 0x8000 ∷ []) (CallRm false (in_reg 4)) (Holds 4 0x7ff8 ∷ Lies 8 0x7ff8 0x1005 ∷ Next 0x8000 ∷ Init ∷ [])
    -- bnd call [rdi]; call [rsp-8], whose target is read before the push overwrites it
    ∷ done (Holds 4 0x8000 ∷ Holds 7 0x2000 ∷ Lies 8 0x2000 0x3000 ∷ []) (CallRm true (InMem (based 7 (pos 0)))) (Holds 4 0x7ff8 ∷ Lies 8 0x7ff8 0x1005 ∷ Next 0x3000 ∷ [])
    ∷ done (Holds 4 0x8000 ∷ Lies 8 0x7ff8 0x4000 ∷ []) (CallRm false (InMem (based 4 (negsuc 7)))) (Holds 4 0x7ff8 ∷ Lies 8 0x7ff8 0x1005 ∷ Next 0x4000 ∷ Init ∷ [])
    -- ret; bnd ret; ret where BNDPRESERVE is set
    ∷ done (Holds 4 0x7ff8 ∷ Lies 8 0x7ff8 0x3000 ∷ []) (Ret false) (Holds 4 0x8000 ∷ Next 0x3000 ∷ Init ∷ [])
    ∷ done (Holds 4 0x7ff8 ∷ Lies 8 0x7ff8 0x3000 ∷ []) (Ret true) (Holds 4 0x8000 ∷ Next 0x3000 ∷ [])
    ∷ done (Preserving ∷ Holds 4 0x7ff8 ∷ Lies 8 0x7ff8 0x3000 ∷ []) (Ret false) (Holds 4 0x8000 ∷ Next 0x3000 ∷ [])
    ∷ []

abbrev pub examples_of_jumps : List Example
examples_of_jumps =
    -- jmp 0x1004; bnd jmp 0x1015; jmp 0x1015 where BNDPRESERVE is set
    done [] (JmpRel false (negsuc 0)) (Next 0x1004 ∷ Init ∷ [])
    ∷ done [] (JmpRel true (pos 0x10)) (Next 0x1015 ∷ [])
    ∷ done (Preserving ∷ []) (JmpRel false (pos 0x10)) (Next 0x1015 ∷ [])
    -- jmp rax; bnd jmp rax; jmp [rsi*8+0x2000]
    ∷ done (Holds 0 0x3000 ∷ []) (JmpRm false (in_reg 0)) (Next 0x3000 ∷ Init ∷ [])
    ∷ done (Holds 0 0x3000 ∷ []) (JmpRm true (in_reg 0)) (Next 0x3000 ∷ [])
    ∷ done (Holds 6 2 ∷ Lies 8 0x2010 0x3000 ∷ []) (JmpRm false (InMem (scaled 6 8 (pos 0x2000)))) (Next 0x3000 ∷ Init ∷ [])
    -- je taken; je not taken; bnd je not taken; bnd jl taken; ja not taken where BNDPRESERVE is set; jg taken
    ∷ done (Flagged 0 1 0 0 ∷ []) (Jcc false 4 (pos 0x10)) (Next 0x1015 ∷ Init ∷ [])
    ∷ done (Flagged 0 0 0 0 ∷ []) (Jcc false 4 (pos 0x10)) (Init ∷ [])
    ∷ done (Flagged 0 0 0 0 ∷ []) (Jcc true 4 (pos 0x10)) []
    ∷ done (Flagged 0 0 1 0 ∷ []) (Jcc true 12 (negsuc 0xf)) (Next 0xff5 ∷ [])
    ∷ done (Preserving ∷ Flagged 1 0 0 0 ∷ []) (Jcc false 7 (pos 0x10)) []
    ∷ done (Flagged 0 0 1 1 ∷ []) (Jcc false 15 (pos 0x10)) (Next 0x1015 ∷ Init ∷ [])
    ∷ []
