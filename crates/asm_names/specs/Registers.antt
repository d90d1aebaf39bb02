-- Registers and sizes, and their names (SDM volume 1, "General-purpose registers").
use Rattle.std.specs.Prelude.{ℕ, nat_eq, if◌then◌else◌, List, Option, option_map, codes}
use Rattle.std.specs.Str.{bytes_eq}
use Rattle.asm_names.specs.First.{first_from}

-- the names of the low 8 bits of the registers
unfoldable pub text_8 : ℕ → List ℕ
text_8 r =
    if nat_eq r 0 then codes "al"
    else if nat_eq r 1 then codes "cl"
    else if nat_eq r 2 then codes "dl"
    else if nat_eq r 3 then codes "bl"
    else if nat_eq r 4 then codes "spl"
    else if nat_eq r 5 then codes "bpl"
    else if nat_eq r 6 then codes "sil"
    else if nat_eq r 7 then codes "dil"
    else if nat_eq r 8 then codes "r8b"
    else if nat_eq r 9 then codes "r9b"
    else if nat_eq r 10 then codes "r10b"
    else if nat_eq r 11 then codes "r11b"
    else if nat_eq r 12 then codes "r12b"
    else if nat_eq r 13 then codes "r13b"
    else if nat_eq r 14 then codes "r14b"
    else codes "r15b"

-- the names of the low 16 bits of the registers
unfoldable pub text_16 : ℕ → List ℕ
text_16 r =
    if nat_eq r 0 then codes "ax"
    else if nat_eq r 1 then codes "cx"
    else if nat_eq r 2 then codes "dx"
    else if nat_eq r 3 then codes "bx"
    else if nat_eq r 4 then codes "sp"
    else if nat_eq r 5 then codes "bp"
    else if nat_eq r 6 then codes "si"
    else if nat_eq r 7 then codes "di"
    else if nat_eq r 8 then codes "r8w"
    else if nat_eq r 9 then codes "r9w"
    else if nat_eq r 10 then codes "r10w"
    else if nat_eq r 11 then codes "r11w"
    else if nat_eq r 12 then codes "r12w"
    else if nat_eq r 13 then codes "r13w"
    else if nat_eq r 14 then codes "r14w"
    else codes "r15w"

-- the names of the low 32 bits of the registers
unfoldable pub text_32 : ℕ → List ℕ
text_32 r =
    if nat_eq r 0 then codes "eax"
    else if nat_eq r 1 then codes "ecx"
    else if nat_eq r 2 then codes "edx"
    else if nat_eq r 3 then codes "ebx"
    else if nat_eq r 4 then codes "esp"
    else if nat_eq r 5 then codes "ebp"
    else if nat_eq r 6 then codes "esi"
    else if nat_eq r 7 then codes "edi"
    else if nat_eq r 8 then codes "r8d"
    else if nat_eq r 9 then codes "r9d"
    else if nat_eq r 10 then codes "r10d"
    else if nat_eq r 11 then codes "r11d"
    else if nat_eq r 12 then codes "r12d"
    else if nat_eq r 13 then codes "r13d"
    else if nat_eq r 14 then codes "r14d"
    else codes "r15d"

-- the names of the registers
unfoldable pub text_64 : ℕ → List ℕ
text_64 r =
    if nat_eq r 0 then codes "rax"
    else if nat_eq r 1 then codes "rcx"
    else if nat_eq r 2 then codes "rdx"
    else if nat_eq r 3 then codes "rbx"
    else if nat_eq r 4 then codes "rsp"
    else if nat_eq r 5 then codes "rbp"
    else if nat_eq r 6 then codes "rsi"
    else if nat_eq r 7 then codes "rdi"
    else if nat_eq r 8 then codes "r8"
    else if nat_eq r 9 then codes "r9"
    else if nat_eq r 10 then codes "r10"
    else if nat_eq r 11 then codes "r11"
    else if nat_eq r 12 then codes "r12"
    else if nat_eq r 13 then codes "r13"
    else if nat_eq r 14 then codes "r14"
    else codes "r15"

-- the name of the low w bits of a register
unfoldable pub register_text : ℕ → ℕ → List ℕ
register_text w r = if nat_eq w 8 then text_8 r else if nat_eq w 16 then text_16 r else if nat_eq w 32 then text_32 r else text_64 r

-- the register whose low w bits have this name
unfoldable pub register_of : ℕ → List ℕ → Option ℕ
register_of w text = first_from (λ r. bytes_eq (register_text w r) text) 16 0

-- the names of the bounds registers
unfoldable pub bounds_text : ℕ → List ℕ
bounds_text b =
    if nat_eq b 0 then codes "bnd0"
    else if nat_eq b 1 then codes "bnd1"
    else if nat_eq b 2 then codes "bnd2"
    else codes "bnd3"

-- the words for 8, 16, 32 and 64 bits
unfoldable pub size_text : ℕ → List ℕ
size_text w =
    if nat_eq w 8 then codes "byte"
    else if nat_eq w 16 then codes "word"
    else if nat_eq w 32 then codes "dword"
    else codes "qword"

-- the bounds register of this name
unfoldable pub bounds_of : List ℕ → Option ℕ
bounds_of text = first_from (λ b. bytes_eq (bounds_text b) text) 4 0

abbrev pub width_at : ℕ → ℕ
width_at k = if nat_eq k 0 then 8 else if nat_eq k 1 then 16 else if nat_eq k 2 then 32 else 64

-- the width in bits of which this is the word
unfoldable pub size_of : List ℕ → Option ℕ
size_of text = option_map width_at (first_from (λ k. bytes_eq (size_text (width_at k)) text) 4 0)
