-- Examples of the MPX instructions (Intel SDM, volume 2: BNDMK, BNDCL, BNDCU/BNDCN, BNDMOV, BNDLDX, BNDSTX).
use Rattle.std.specs.Prelude.{pos, negsuc, List, [], ◌∷◌}
use Rattle.x86_forms.specs.declared.instr.Rm.TheVariants.{Mem as InMem}
use Rattle.x86_forms.specs.declared.instr.Instr.TheVariants.{Bndmk, Bndcl, Bndcu, Bndcn, BndmovTo, BndmovFrom, Bndldx, Bndstx}
use Rattle.x86_forms.specs.Requests.{Violates}
use Rattle.x86_forms.specs.Examples.{Example, Holds, Bounded, Status, Lies, KeptAt, done, fails, in_reg, based, indexed, scaled}

-- a value that is in the bounds by one, and one that is out by one, which sets BNDSTATUS to 1
abbrev pub examples_of_checks : List Example
examples_of_checks =
    -- bndmk bnd0, [rdi+7]; bndmk bnd3, [rdi+rsi*4-1]; bndmk bnd1, [rsi*8+15] without base
    done (Holds 7 0x2000 ∷ []) (Bndmk 0 (based 7 (pos 7))) (Bounded 0 0x2000 0x2007 ∷ [])
    ∷ done (Holds 7 0x2000 ∷ Holds 6 0x10 ∷ []) (Bndmk 3 (indexed 7 6 4 (negsuc 0))) (Bounded 3 0x2000 0x203f ∷ [])
    ∷ done (Holds 6 2 ∷ []) (Bndmk 1 (scaled 6 8 (pos 15))) (Bounded 1 0 31 ∷ [])
    -- bndcl bnd1, rax; bndcl bnd1, [rdi+4], which takes the address
    ∷ done (Bounded 1 0x2000 0x2007 ∷ Holds 0 0x2000 ∷ []) (Bndcl 1 (in_reg 0)) []
    ∷ fails (Bounded 1 0x2000 0x2007 ∷ Holds 0 0x1fff ∷ []) (Bndcl 1 (in_reg 0)) (Violates 0x1fff (record { lb = 0x2000; ub = 0x2007 })) (Status 1 ∷ [])
    ∷ done (Bounded 1 0x2000 0x2007 ∷ Holds 7 0x1ffc ∷ []) (Bndcl 1 (InMem (based 7 (pos 4)))) []
    ∷ fails (Bounded 1 0x2000 0x2007 ∷ Holds 7 0x1ffc ∷ Lies 8 0x1fff 0x2000 ∷ []) (Bndcl 1 (InMem (based 7 (pos 3)))) (Violates 0x1fff (record { lb = 0x2000; ub = 0x2007 })) (Status 1 ∷ [])
    -- bndcu bnd1, rax; bndcu bnd1, [rdi+4]
    ∷ done (Bounded 1 0x2000 0x2007 ∷ Holds 0 0x2007 ∷ []) (Bndcu 1 (in_reg 0)) []
    ∷ fails (Bounded 1 0x2000 0x2007 ∷ Holds 0 0x2008 ∷ []) (Bndcu 1 (in_reg 0)) (Violates 0x2008 (record { lb = 0x2000; ub = 0x2007 })) (Status 1 ∷ [])
    ∷ done (Bounded 1 0x2000 0x2007 ∷ Holds 7 0x2003 ∷ []) (Bndcu 1 (InMem (based 7 (pos 4)))) []
    ∷ fails (Bounded 1 0x2000 0x2007 ∷ Holds 7 0x2004 ∷ []) (Bndcu 1 (InMem (based 7 (pos 4)))) (Violates 0x2008 (record { lb = 0x2000; ub = 0x2007 })) (Status 1 ∷ [])
    -- bndcn bnd1, rax: against the word that is held, here 0x2007
    ∷ done (Bounded 1 0x2000 0xffff_ffff_ffff_dff8 ∷ Holds 0 0x2007 ∷ []) (Bndcn 1 (in_reg 0)) []
    ∷ fails (Bounded 1 0x2000 0xffff_ffff_ffff_dff8 ∷ Holds 0 0x2008 ∷ []) (Bndcn 1 (in_reg 0)) (Violates 0x2008 (record { lb = 0x2000; ub = 0xffff_ffff_ffff_dff8 })) (Status 1 ∷ [])
    ∷ []

abbrev pub examples_of_bounds_moved : List Example
examples_of_bounds_moved =
    -- bndmov [rdi], bnd1: the lower bound, and the upper one in one's complement form; of INIT two words 0
    done (Bounded 1 0x2000 0x2007 ∷ Holds 7 0x3000 ∷ []) (BndmovTo 1 (based 7 (pos 0))) (Lies 8 0x3000 0x2000 ∷ Lies 8 0x3008 0xffff_ffff_ffff_dff8 ∷ [])
    ∷ done (Bounded 1 0 0xffff_ffff_ffff_ffff ∷ Holds 7 0x3000 ∷ Lies 8 0x3000 5 ∷ Lies 8 0x3008 5 ∷ []) (BndmovTo 1 (based 7 (pos 0))) (Lies 8 0x3000 0 ∷ Lies 8 0x3008 0 ∷ [])
    -- bndmov bnd2, [rdi]; bndmov bnd2, bnd1
    ∷ done (Holds 7 0x3000 ∷ Lies 8 0x3000 0x2000 ∷ Lies 8 0x3008 0xffff_ffff_ffff_dff8 ∷ []) (BndmovFrom 2 (InMem (based 7 (pos 0)))) (Bounded 2 0x2000 0x2007 ∷ [])
    ∷ done (Bounded 1 0x2000 0x2007 ∷ []) (BndmovFrom 2 (in_reg 1)) (Bounded 2 0x2000 0x2007 ∷ [])
    -- bndldx bnd0, [rdi+rsi]: the pointer's value is the one for which the bounds are kept; it isn't; the scale is ignored;
    -- without index the value is 0
    ∷ done (Holds 7 0x3000 ∷ Holds 6 0x2000 ∷ KeptAt 0x3000 0x2000 0x2000 0x2007 ∷ []) (Bndldx 0 (indexed 7 6 1 (pos 0))) (Bounded 0 0x2000 0x2007 ∷ [])
    ∷ done (Holds 7 0x3000 ∷ Holds 6 0x2001 ∷ KeptAt 0x3000 0x2000 0x2000 0x2007 ∷ []) (Bndldx 0 (indexed 7 6 1 (pos 0))) (Bounded 0 0 0xffff_ffff_ffff_ffff ∷ [])
    ∷ done (Holds 7 0x3000 ∷ Holds 6 0x2000 ∷ KeptAt 0x3008 0x2000 0x2000 0x2007 ∷ []) (Bndldx 0 (indexed 7 6 8 (pos 8))) (Bounded 0 0x2000 0x2007 ∷ [])
    ∷ done (Holds 7 0x3000 ∷ KeptAt 0x3000 0 0x2000 0x2007 ∷ []) (Bndldx 0 (based 7 (pos 0))) (Bounded 0 0x2000 0x2007 ∷ [])
    -- bndstx [rdi+rsi], bnd1; bndstx [rdi+8], bnd1
    ∷ done (Bounded 1 0x2000 0x2007 ∷ Holds 7 0x3000 ∷ Holds 6 0x2000 ∷ []) (Bndstx 1 (indexed 7 6 1 (pos 0))) (KeptAt 0x3000 0x2000 0x2000 0x2007 ∷ [])
    ∷ done (Bounded 1 0x2000 0x2007 ∷ Holds 7 0x3000 ∷ KeptAt 0x3008 0x2000 0x10 0x20 ∷ []) (Bndstx 1 (based 7 (pos 8))) (KeptAt 0x3008 0 0x2000 0x2007 ∷ [])
    ∷ []
