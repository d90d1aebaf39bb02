-- The reader as an automaton over bytes: what a byte makes of what has been read.
use Rattle.std.specs.Prelude.{ℕ, ◌+◌, ◌*◌, ◌/◌, ◌%◌, ◌&&◌, ◌||◌, not, Bool, true, false, nat_eq, nat_lt, if◌then◌else◌, Option, Some, None, List, [], ◌∷◌, ℤ, pos, slice_set, slice_index, is_none}
use Rattle.std.specs.Int.{cast_signed, from_le_bytes, w8, w16, w32, w64}
use Rattle.x86_forms.specs.Fits.{fits_8, fits_32}
use Rattle.x86_forms.specs.declared.instr.Reg.{Reg}
use Rattle.x86_forms.specs.declared.instr.Base.{Base}
use Rattle.x86_forms.specs.declared.instr.Base.TheVariants.{None as NoBase, Reg as BaseReg, Rip}
use Rattle.x86_forms.specs.declared.instr.Rm.{Rm}
use Rattle.x86_forms.specs.declared.instr.Rm.TheVariants.{Reg as InReg, Mem as InMem}
use Rattle.x86_forms.specs.Spelling.{is_low, is_zero}
use Rattle.x86_decode.specs.declared.rows.Row.{Row}
use Rattle.x86_decode.specs.declared.rows.Row.TheVariants.{AluImm, MovImm, ShiftImm, CallRel, JmpRel, Jcc}
use Rattle.x86_decode.specs.declared.states.Head.{Head}
use Rattle.x86_decode.specs.declared.states.State.{State}
use Rattle.x86_decode.specs.declared.states.State.TheVariants.{Start, Prefix, Rex, Escape, ModRm, Sib, Disp, Imm}
use Rattle.x86_decode.specs.declared.states.Next.{Next}
use Rattle.x86_decode.specs.declared.states.Next.TheVariants.{Dead, Go, End}
use Rattle.x86_decode.specs.Rows.{row_of, is_bare, is_in_opcode, imm_len, any_reg, takes, takes_reg, low_in_reg, low_in_rm, allows_rip, allows_no_base, build}

abbrev pub rex_w : ℕ → Bool
rex_w rex = nat_eq (rex / 8 % 2) 1

abbrev pub rex_r : ℕ → ℕ
rex_r rex = rex / 4 % 2

abbrev pub rex_x : ℕ → ℕ
rex_x rex = rex / 2 % 2

abbrev pub rex_b : ℕ → ℕ
rex_b rex = rex % 2

-- the opcode without the register that it holds
abbrev pub key_of : Bool → ℕ → ℕ
key_of escape op = if escape then op else if nat_eq (op / 8) 10 then 0x50 else if nat_eq (op / 8) 11 then 0x58 else if nat_eq (op / 8) 23 then 0xB8 else op

-- without REX there is no spl, bpl, sil or dil, and REX without a bit stands only for one
abbrev pub low_agrees : ℕ → Bool → Bool
low_agrees rex low = if nat_eq rex 0 then not low else if nat_eq rex 0x40 then low else true

abbrev pub register : ℕ → Reg
register n = record { 0 = n }

abbrev pub zeros_4 : List ℕ
zeros_4 = 0 ∷ 0 ∷ 0 ∷ 0 ∷ []

abbrev pub zeros_8 : List ℕ
zeros_8 = 0 ∷ 0 ∷ 0 ∷ 0 ∷ 0 ∷ 0 ∷ 0 ∷ 0 ∷ []

-- the operands have been read: an immediate follows, or the instruction is complete
unfoldable pub done : Head → Row → ℕ → Rm → Next
done head row reg rm = if nat_eq (imm_len row) 0 then End (build row reg rm (pos 0)) else Go (Imm head row reg rm 0 zeros_8)

abbrev pub mem : Base → Option (Reg × ℕ) → ℤ → Rm
mem base index disp = InMem (record { base = base; index = index; disp = disp })

-- over a base register, with the displacement that the mod field says
unfoldable pub over : Head → Row → ℕ → ℕ → ℕ → Option (Reg × ℕ) → Next
over head row reg mode r index =
    if nat_eq mode 0 then done head row reg (mem (BaseReg (register r)) index (pos 0))
    else Go (Disp head row reg mode (BaseReg (register r)) index (nat_eq mode 1 && nat_eq (r % 8) 5) 0 zeros_4)

-- no base register: 32 bits of displacement, which may be any
unfoldable pub no_base : Head → Row → ℕ → Base → Option (Reg × ℕ) → Next
no_base head row reg base index = Go (Disp head row reg 0 base index true 0 zeros_4)

-- a register operand: no REX.X
unfoldable pub modrm_reg : Head → Row → ℕ → ℕ → Next
modrm_reg head row reg r =
    if nat_eq (rex_x head.rex) 0 && takes_reg row r && low_agrees head.rex ((low_in_reg row && is_low reg) || (low_in_rm row && is_low r))
    then done head row reg (InReg (register r)) else Dead

-- a memory operand: REX.X asks for SIB
unfoldable pub modrm_mem : Head → Row → ℕ → ℕ → Next
modrm_mem head row reg modrm =
    if not (low_agrees head.rex (low_in_reg row && is_low reg)) then Dead
    else if nat_eq (modrm % 8) 4 then Go (Sib head row modrm)
    else if nat_eq (rex_x head.rex) 1 then Dead
    else if nat_eq (modrm / 64) 0 && nat_eq (modrm % 8) 5 then
    (if nat_eq (rex_b head.rex) 0 && allows_rip row then no_base head row reg Rip None else Dead)
    else over head row reg (modrm / 64) (modrm % 8 + 8 * rex_b head.rex) None

abbrev pub reg_field : Head → ℕ → ℕ
reg_field head modrm = modrm / 8 % 8 + 8 * rex_r head.rex

-- ModRM
unfoldable pub modrm_step : Head → Row → ℕ → Next
modrm_step head row b =
    if not (takes row (b / 8 % 8)) then Dead
    else if nat_eq (b / 64) 3 then modrm_reg head row (reg_field head b) (b % 8 + 8 * rex_b head.rex)
    else modrm_mem head row (reg_field head b) b

abbrev pub scale_of : ℕ → ℕ
scale_of code = if nat_eq code 0 then 1 else if nat_eq code 1 then 2 else if nat_eq code 2 then 4 else 8

-- the base field of SIB; SIB with no index stands only for a base whose low bits are 4
unfoldable pub sib_base : Head → Row → ℕ → ℕ → Option (Reg × ℕ) → Next
sib_base head row modrm low index =
    if nat_eq (modrm / 64) 0 && nat_eq low 5 then
    (if nat_eq (rex_b head.rex) 0 && allows_no_base row then no_base head row (reg_field head modrm) NoBase index else Dead)
    else if is_none index && not (nat_eq low 4) then Dead
    else over head row (reg_field head modrm) (modrm / 64) (low + 8 * rex_b head.rex) index

abbrev pub index_field : Head → ℕ → ℕ
index_field head b = b / 8 % 8 + 8 * rex_x head.rex

-- SIB
unfoldable pub sib_step : Head → Row → ℕ → ℕ → Next
sib_step head row modrm b =
    if not (nat_eq (index_field head b) 4) then sib_base head row modrm (b % 8) (Some (register (index_field head b), scale_of (b / 64)))
    else if nat_eq (b / 64) 0 then sib_base head row modrm (b % 8) None
    else Dead

-- a row begins, under its prefix and REX
unfoldable pub begin : Head → Row → Next
begin head row =
    if is_bare row then (if nat_eq head.rex 0 || nat_eq head.rex 0x48 then done head row 0 (InReg (register 0)) else Dead)
    else if is_in_opcode row then
    (if nat_eq (rex_r head.rex) 0 && nat_eq (rex_x head.rex) 0 && not (nat_eq head.rex 0x40)
    then done head row (head.opcode % 8 + 8 * rex_b head.rex) (InReg (register 0)) else Dead)
    else if (nat_eq (rex_r head.rex) 0 || any_reg row) && (not (nat_eq head.rex 0x40) || low_in_reg row || low_in_rm row) then Go (ModRm head row)
    else Dead

abbrev pub begins : Option Row → Head → Next
begins None head = Dead
begins (Some row) head = begin head row

-- an opcode byte
unfoldable pub opcode_step : ℕ → ℕ → Bool → ℕ → Next
opcode_step prefix rex escape b = begins (row_of prefix (rex_w rex) escape (key_of escape b)) (record { prefix = prefix; rex = rex; escape = escape; opcode = b })

-- 0F or an opcode byte; behind 66 and 0F only bounds registers stand in the reg field
unfoldable pub escape_or_opcode : ℕ → ℕ → ℕ → Next
escape_or_opcode prefix rex b =
    if nat_eq b 0x0F then (if not (nat_eq prefix 0x66) || nat_eq (rex_r rex) 0 then Go (Escape prefix rex) else Dead)
    else opcode_step prefix rex false b

-- some instruction has this REX byte behind the prefix
abbrev pub live_rex : ℕ → ℕ → Bool
live_rex prefix rex =
    if nat_eq prefix 0 then true
    else if nat_eq prefix 0x66 then nat_lt rex 0x48 && not (nat_eq rex 0x40)
    else nat_lt rex 0x44 && not (nat_eq rex 0x40)

-- REX, 0F or an opcode byte
unfoldable pub after_prefix : ℕ → ℕ → Next
after_prefix prefix b =
    if nat_eq (b / 16) 4 then (if live_rex prefix b then Go (Rex prefix b) else Dead)
    else escape_or_opcode prefix 0 b

unfoldable pub disp_value : ℕ → List ℕ → ℤ
disp_value mode bytes = if nat_eq mode 1 then cast_signed w8 (slice_index bytes 0) else cast_signed w32 (from_le_bytes w32 bytes)

-- no shorter form has this displacement
unfoldable pub disp_fine : Bool → ℕ → ℤ → Bool
disp_fine free mode d = if free then true else if nat_eq mode 1 then not (is_zero d) else not (fits_8 d)

-- n bytes as a signed number
unfoldable pub signed : ℕ → List ℕ → ℤ
signed n bytes =
    if nat_eq n 1 then cast_signed w8 (slice_index bytes 0)
    else if nat_eq n 2 then cast_signed w16 (from_le_bytes w16 bytes)
    else if nat_eq n 4 then cast_signed w32 (from_le_bytes w32 bytes)
    else cast_signed w64 (from_le_bytes w64 bytes)

abbrev pub rel_value : List ℕ → ℤ
rel_value bytes = cast_signed w32 (from_le_bytes w32 bytes)

unfoldable pub imm_value : Row → List ℕ → ℤ
imm_value (ShiftImm w) bytes = pos (slice_index bytes 0)
imm_value (CallRel b) bytes = rel_value bytes
imm_value (JmpRel b) bytes = rel_value bytes
imm_value (Jcc b c) bytes = rel_value bytes
imm_value row bytes = signed (imm_len row) bytes

-- no shorter form has this immediate
unfoldable pub imm_fine : Row → ℤ → Bool
imm_fine (AluImm w true) imm = not (fits_8 imm)
imm_fine (MovImm w) imm = if nat_eq w 64 then not (fits_32 imm) else true
imm_fine row imm = true

abbrev pub disp_len : ℕ → ℕ
disp_len mode = if nat_eq mode 1 then 1 else 4

unfoldable pub disp_end : Head → Row → ℕ → ℕ → Base → Option (Reg × ℕ) → Bool → List ℕ → Next
disp_end head row reg mode base index free bytes =
    if disp_fine free mode (disp_value mode bytes) then done head row reg (mem base index (disp_value mode bytes)) else Dead

unfoldable pub imm_end : Row → ℕ → Rm → List ℕ → Next
imm_end row reg rm bytes = if imm_fine row (imm_value row bytes) then End (build row reg rm (imm_value row bytes)) else Dead

unfoldable pub step_of : State → ℕ → Next
step_of Start b = if nat_eq b 0x66 || nat_eq b 0xF2 || nat_eq b 0xF3 then Go (Prefix b) else after_prefix 0 b
step_of (Prefix prefix) b = after_prefix prefix b
step_of (Rex prefix rex) b = escape_or_opcode prefix rex b
step_of (Escape prefix rex) b = opcode_step prefix rex true b
step_of (ModRm head row) b = modrm_step head row b
step_of (Sib head row modrm) b = sib_step head row modrm b
step_of (Disp head row reg mode base index free have bytes) b =
    if nat_eq (have + 1) (disp_len mode) then disp_end head row reg mode base index free (slice_set bytes have b)
    else Go (Disp head row reg mode base index free (have + 1) (slice_set bytes have b))
step_of (Imm head row reg rm have bytes) b =
    if nat_eq (have + 1) (imm_len row) then imm_end row reg rm (slice_set bytes have b)
    else Go (Imm head row reg rm (have + 1) (slice_set bytes have b))

-- what is read of a displacement or an immediate is less than the whole
abbrev pub is_partial : State → Bool
is_partial (Disp head row reg mode base index free have bytes) = nat_lt have (disp_len mode)
is_partial (Imm head row reg rm have bytes) = nat_lt have (imm_len row)
is_partial _ = true
