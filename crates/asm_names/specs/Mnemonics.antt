-- Mnemonics and their texts, in lower case (the names of the Intel manual, SDM volume 2).
use Rattle.std.specs.Prelude.{ℕ, ◌-◌, nat_eq, nat_le, if◌then◌else◌, List, Option, option_map, codes}
use Rattle.std.specs.Str.{bytes_eq}
use Rattle.asm_names.specs.First.{first_from}
use Rattle.asm_names.specs.declared.mnemonic.Mnemonic.{Mnemonic}
use Rattle.asm_names.specs.declared.mnemonic.Mnemonic.TheVariants as m

-- in the list `add or and sub xor cmp`
unfoldable pub alu_text : ℕ → List ℕ
alu_text op =
    if nat_eq op 0 then codes "add"
    else if nat_eq op 1 then codes "or"
    else if nat_eq op 2 then codes "and"
    else if nat_eq op 3 then codes "sub"
    else if nat_eq op 4 then codes "xor"
    else codes "cmp"

-- in the list `not neg div idiv`
unfoldable pub one_text : ℕ → List ℕ
one_text op =
    if nat_eq op 0 then codes "not"
    else if nat_eq op 1 then codes "neg"
    else if nat_eq op 2 then codes "div"
    else codes "idiv"

-- in the list `shl shr sar`
unfoldable pub shift_text : ℕ → List ℕ
shift_text op =
    if nat_eq op 0 then codes "shl"
    else if nat_eq op 1 then codes "shr"
    else codes "sar"

-- `set` and the name of a condition by its code
unfoldable pub set_text : ℕ → List ℕ
set_text op =
    if nat_eq op 0 then codes "seto"
    else if nat_eq op 1 then codes "setno"
    else if nat_eq op 2 then codes "setb"
    else if nat_eq op 3 then codes "setae"
    else if nat_eq op 4 then codes "sete"
    else if nat_eq op 5 then codes "setne"
    else if nat_eq op 6 then codes "setbe"
    else if nat_eq op 7 then codes "seta"
    else if nat_eq op 8 then codes "sets"
    else if nat_eq op 9 then codes "setns"
    else if nat_eq op 12 then codes "setl"
    else if nat_eq op 13 then codes "setge"
    else if nat_eq op 14 then codes "setle"
    else codes "setg"

-- `j` and the name of a condition by its code
unfoldable pub jump_text : ℕ → List ℕ
jump_text op =
    if nat_eq op 0 then codes "jo"
    else if nat_eq op 1 then codes "jno"
    else if nat_eq op 2 then codes "jb"
    else if nat_eq op 3 then codes "jae"
    else if nat_eq op 4 then codes "je"
    else if nat_eq op 5 then codes "jne"
    else if nat_eq op 6 then codes "jbe"
    else if nat_eq op 7 then codes "ja"
    else if nat_eq op 8 then codes "js"
    else if nat_eq op 9 then codes "jns"
    else if nat_eq op 12 then codes "jl"
    else if nat_eq op 13 then codes "jge"
    else if nat_eq op 14 then codes "jle"
    else codes "jg"

-- the text of a mnemonic
unfoldable pub mnemonic_text : Mnemonic → List ℕ
mnemonic_text m.Mov = codes "mov"
mnemonic_text m.Movsxd = codes "movsxd"
mnemonic_text m.Movzx = codes "movzx"
mnemonic_text m.Movsx = codes "movsx"
mnemonic_text m.Lea = codes "lea"
mnemonic_text (m.Alu op) = alu_text op
mnemonic_text m.Test = codes "test"
mnemonic_text m.Imul = codes "imul"
mnemonic_text (m.One op) = one_text op
mnemonic_text m.Cdq = codes "cdq"
mnemonic_text m.Cqo = codes "cqo"
mnemonic_text (m.Shift op) = shift_text op
mnemonic_text (m.Set op) = set_text op
mnemonic_text m.Push = codes "push"
mnemonic_text m.Pop = codes "pop"
mnemonic_text m.Call = codes "call"
mnemonic_text m.Jmp = codes "jmp"
mnemonic_text (m.JumpIf op) = jump_text op
mnemonic_text m.Ret = codes "ret"
mnemonic_text m.Syscall = codes "syscall"
mnemonic_text m.Ud2 = codes "ud2"
mnemonic_text m.Nop = codes "nop"
mnemonic_text m.Bndmk = codes "bndmk"
mnemonic_text m.Bndcl = codes "bndcl"
mnemonic_text m.Bndcu = codes "bndcu"
mnemonic_text m.Bndcn = codes "bndcn"
mnemonic_text m.Bndmov = codes "bndmov"
mnemonic_text m.Bndldx = codes "bndldx"
mnemonic_text m.Bndstx = codes "bndstx"

-- the mnemonic of so many places in the list of all
unfoldable pub mnemonic_at : ℕ → Mnemonic
mnemonic_at k =
    if nat_eq k 0 then m.Mov
    else if nat_eq k 1 then m.Movsxd
    else if nat_eq k 2 then m.Movzx
    else if nat_eq k 3 then m.Movsx
    else if nat_eq k 4 then m.Lea
    else if nat_eq k 5 then m.Test
    else if nat_eq k 6 then m.Imul
    else if nat_eq k 7 then m.Cdq
    else if nat_eq k 8 then m.Cqo
    else if nat_eq k 9 then m.Push
    else if nat_eq k 10 then m.Pop
    else if nat_eq k 11 then m.Call
    else if nat_eq k 12 then m.Jmp
    else if nat_eq k 13 then m.Ret
    else if nat_eq k 14 then m.Syscall
    else if nat_eq k 15 then m.Ud2
    else if nat_eq k 16 then m.Nop
    else if nat_eq k 17 then m.Bndmk
    else if nat_eq k 18 then m.Bndcl
    else if nat_eq k 19 then m.Bndcu
    else if nat_eq k 20 then m.Bndcn
    else if nat_eq k 21 then m.Bndmov
    else if nat_eq k 22 then m.Bndldx
    else if nat_eq k 23 then m.Bndstx
    else if nat_le k 29 then m.Alu (k - 24)
    else if nat_le k 33 then m.One (k - 30)
    else if nat_le k 36 then m.Shift (k - 34)
    else if nat_le k 46 then m.Set (k - 37)
    else if nat_le k 50 then m.Set (k - 35)
    else if nat_le k 60 then m.JumpIf (k - 51)
    else m.JumpIf (k - 49)

-- the mnemonic that a text is: there are 65
unfoldable pub mnemonic_of : List ℕ → Option Mnemonic
mnemonic_of text = option_map mnemonic_at (first_from (λ k. bytes_eq (mnemonic_text (mnemonic_at k)) text) 65 0)
