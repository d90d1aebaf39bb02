-- How long the words of the instructions are.
use Rattle.std.proofs.Common.{◌≡◌, ℕ, ◌≤◌, ap, arith, Bool, true, false, cond, nat_eq, List, length, lit≤}
use Rattle.std.specs.Prelude.{codes}
use Rattle.asm_names.specs.Registers.{text_8, text_16, text_32, text_64, register_text, bounds_text, size_text}
use Rattle.asm_names.specs.Mnemonics.{alu_text, one_text, shift_text, set_text, jump_text, mnemonic_text}
use Rattle.asm_names.specs.declared.mnemonic.Mnemonic.{Mnemonic}
use Rattle.asm_names.specs.declared.mnemonic.Mnemonic.TheVariants as m

pub short_as : (text name : List ℕ) (n : ℕ) → text ≡ name → length name ≤ n → length text ≤ n
short_as text name n e h = omega (arith, ap length e)

-- a text of at most n bytes
record Short (n : ℕ) (text : List ℕ) : Type 0 where
  bound : length text ≤ n

fits : {n : ℕ} (text : List ℕ) → length text ≤ n → Short n text
fits text h = record { bound = h }

either : {n : ℕ} (b : Bool) (x y : List ℕ) → Short n x → Short n y → Short n (cond b x y)
either true x y h k = h
either false x y h k = k

short_text_8 : (r : ℕ) → Short 4 (text_8 r)
unfolding text_8
short_text_8 r =
    either (nat_eq r 0) _ _ (fits (codes "al") (lit≤ tt)) (
    either (nat_eq r 1) _ _ (fits (codes "cl") (lit≤ tt)) (
    either (nat_eq r 2) _ _ (fits (codes "dl") (lit≤ tt)) (
    either (nat_eq r 3) _ _ (fits (codes "bl") (lit≤ tt)) (
    either (nat_eq r 4) _ _ (fits (codes "spl") (lit≤ tt)) (
    either (nat_eq r 5) _ _ (fits (codes "bpl") (lit≤ tt)) (
    either (nat_eq r 6) _ _ (fits (codes "sil") (lit≤ tt)) (
    either (nat_eq r 7) _ _ (fits (codes "dil") (lit≤ tt)) (
    either (nat_eq r 8) _ _ (fits (codes "r8b") (lit≤ tt)) (
    either (nat_eq r 9) _ _ (fits (codes "r9b") (lit≤ tt)) (
    either (nat_eq r 10) _ _ (fits (codes "r10b") (lit≤ tt)) (
    either (nat_eq r 11) _ _ (fits (codes "r11b") (lit≤ tt)) (
    either (nat_eq r 12) _ _ (fits (codes "r12b") (lit≤ tt)) (
    either (nat_eq r 13) _ _ (fits (codes "r13b") (lit≤ tt)) (
    either (nat_eq r 14) _ _ (fits (codes "r14b") (lit≤ tt)) (
    fits (codes "r15b") (lit≤ tt))))))))))))))))

short_text_16 : (r : ℕ) → Short 4 (text_16 r)
unfolding text_16
short_text_16 r =
    either (nat_eq r 0) _ _ (fits (codes "ax") (lit≤ tt)) (
    either (nat_eq r 1) _ _ (fits (codes "cx") (lit≤ tt)) (
    either (nat_eq r 2) _ _ (fits (codes "dx") (lit≤ tt)) (
    either (nat_eq r 3) _ _ (fits (codes "bx") (lit≤ tt)) (
    either (nat_eq r 4) _ _ (fits (codes "sp") (lit≤ tt)) (
    either (nat_eq r 5) _ _ (fits (codes "bp") (lit≤ tt)) (
    either (nat_eq r 6) _ _ (fits (codes "si") (lit≤ tt)) (
    either (nat_eq r 7) _ _ (fits (codes "di") (lit≤ tt)) (
    either (nat_eq r 8) _ _ (fits (codes "r8w") (lit≤ tt)) (
    either (nat_eq r 9) _ _ (fits (codes "r9w") (lit≤ tt)) (
    either (nat_eq r 10) _ _ (fits (codes "r10w") (lit≤ tt)) (
    either (nat_eq r 11) _ _ (fits (codes "r11w") (lit≤ tt)) (
    either (nat_eq r 12) _ _ (fits (codes "r12w") (lit≤ tt)) (
    either (nat_eq r 13) _ _ (fits (codes "r13w") (lit≤ tt)) (
    either (nat_eq r 14) _ _ (fits (codes "r14w") (lit≤ tt)) (
    fits (codes "r15w") (lit≤ tt))))))))))))))))

short_text_32 : (r : ℕ) → Short 4 (text_32 r)
unfolding text_32
short_text_32 r =
    either (nat_eq r 0) _ _ (fits (codes "eax") (lit≤ tt)) (
    either (nat_eq r 1) _ _ (fits (codes "ecx") (lit≤ tt)) (
    either (nat_eq r 2) _ _ (fits (codes "edx") (lit≤ tt)) (
    either (nat_eq r 3) _ _ (fits (codes "ebx") (lit≤ tt)) (
    either (nat_eq r 4) _ _ (fits (codes "esp") (lit≤ tt)) (
    either (nat_eq r 5) _ _ (fits (codes "ebp") (lit≤ tt)) (
    either (nat_eq r 6) _ _ (fits (codes "esi") (lit≤ tt)) (
    either (nat_eq r 7) _ _ (fits (codes "edi") (lit≤ tt)) (
    either (nat_eq r 8) _ _ (fits (codes "r8d") (lit≤ tt)) (
    either (nat_eq r 9) _ _ (fits (codes "r9d") (lit≤ tt)) (
    either (nat_eq r 10) _ _ (fits (codes "r10d") (lit≤ tt)) (
    either (nat_eq r 11) _ _ (fits (codes "r11d") (lit≤ tt)) (
    either (nat_eq r 12) _ _ (fits (codes "r12d") (lit≤ tt)) (
    either (nat_eq r 13) _ _ (fits (codes "r13d") (lit≤ tt)) (
    either (nat_eq r 14) _ _ (fits (codes "r14d") (lit≤ tt)) (
    fits (codes "r15d") (lit≤ tt))))))))))))))))

short_text_64 : (r : ℕ) → Short 4 (text_64 r)
unfolding text_64
short_text_64 r =
    either (nat_eq r 0) _ _ (fits (codes "rax") (lit≤ tt)) (
    either (nat_eq r 1) _ _ (fits (codes "rcx") (lit≤ tt)) (
    either (nat_eq r 2) _ _ (fits (codes "rdx") (lit≤ tt)) (
    either (nat_eq r 3) _ _ (fits (codes "rbx") (lit≤ tt)) (
    either (nat_eq r 4) _ _ (fits (codes "rsp") (lit≤ tt)) (
    either (nat_eq r 5) _ _ (fits (codes "rbp") (lit≤ tt)) (
    either (nat_eq r 6) _ _ (fits (codes "rsi") (lit≤ tt)) (
    either (nat_eq r 7) _ _ (fits (codes "rdi") (lit≤ tt)) (
    either (nat_eq r 8) _ _ (fits (codes "r8") (lit≤ tt)) (
    either (nat_eq r 9) _ _ (fits (codes "r9") (lit≤ tt)) (
    either (nat_eq r 10) _ _ (fits (codes "r10") (lit≤ tt)) (
    either (nat_eq r 11) _ _ (fits (codes "r11") (lit≤ tt)) (
    either (nat_eq r 12) _ _ (fits (codes "r12") (lit≤ tt)) (
    either (nat_eq r 13) _ _ (fits (codes "r13") (lit≤ tt)) (
    either (nat_eq r 14) _ _ (fits (codes "r14") (lit≤ tt)) (
    fits (codes "r15") (lit≤ tt))))))))))))))))

pub length_register : (w r : ℕ) → length (register_text w r) ≤ 4
unfolding register_text
length_register w r =
    let found = either {n = 4} (nat_eq w 8) _ _ (short_text_8 r) (either (nat_eq w 16) _ _ (short_text_16 r) (either (nat_eq w 32) _ _ (short_text_32 r) (short_text_64 r))) in
    found.bound

short_bounds_text : (b : ℕ) → Short 4 (bounds_text b)
unfolding bounds_text
short_bounds_text b =
    either (nat_eq b 0) _ _ (fits (codes "bnd0") (lit≤ tt)) (
    either (nat_eq b 1) _ _ (fits (codes "bnd1") (lit≤ tt)) (
    either (nat_eq b 2) _ _ (fits (codes "bnd2") (lit≤ tt)) (
    fits (codes "bnd3") (lit≤ tt))))

pub length_bounds : (b : ℕ) → length (bounds_text b) ≤ 4
length_bounds b = (short_bounds_text b).bound

short_size_text : (w : ℕ) → Short 5 (size_text w)
unfolding size_text
short_size_text w =
    either (nat_eq w 8) _ _ (fits (codes "byte") (lit≤ tt)) (
    either (nat_eq w 16) _ _ (fits (codes "word") (lit≤ tt)) (
    either (nat_eq w 32) _ _ (fits (codes "dword") (lit≤ tt)) (
    fits (codes "qword") (lit≤ tt))))

pub length_size : (w : ℕ) → length (size_text w) ≤ 5
length_size w = (short_size_text w).bound

short_alu_text : (op : ℕ) → Short 7 (alu_text op)
unfolding alu_text
short_alu_text op =
    either (nat_eq op 0) _ _ (fits (codes "add") (lit≤ tt)) (
    either (nat_eq op 1) _ _ (fits (codes "or") (lit≤ tt)) (
    either (nat_eq op 2) _ _ (fits (codes "and") (lit≤ tt)) (
    either (nat_eq op 3) _ _ (fits (codes "sub") (lit≤ tt)) (
    either (nat_eq op 4) _ _ (fits (codes "xor") (lit≤ tt)) (
    fits (codes "cmp") (lit≤ tt))))))

short_one_text : (op : ℕ) → Short 7 (one_text op)
unfolding one_text
short_one_text op =
    either (nat_eq op 0) _ _ (fits (codes "not") (lit≤ tt)) (
    either (nat_eq op 1) _ _ (fits (codes "neg") (lit≤ tt)) (
    either (nat_eq op 2) _ _ (fits (codes "div") (lit≤ tt)) (
    fits (codes "idiv") (lit≤ tt))))

short_shift_text : (op : ℕ) → Short 7 (shift_text op)
unfolding shift_text
short_shift_text op =
    either (nat_eq op 0) _ _ (fits (codes "shl") (lit≤ tt)) (
    either (nat_eq op 1) _ _ (fits (codes "shr") (lit≤ tt)) (
    fits (codes "sar") (lit≤ tt)))

short_set_text : (op : ℕ) → Short 7 (set_text op)
unfolding set_text
short_set_text op =
    either (nat_eq op 0) _ _ (fits (codes "seto") (lit≤ tt)) (
    either (nat_eq op 1) _ _ (fits (codes "setno") (lit≤ tt)) (
    either (nat_eq op 2) _ _ (fits (codes "setb") (lit≤ tt)) (
    either (nat_eq op 3) _ _ (fits (codes "setae") (lit≤ tt)) (
    either (nat_eq op 4) _ _ (fits (codes "sete") (lit≤ tt)) (
    either (nat_eq op 5) _ _ (fits (codes "setne") (lit≤ tt)) (
    either (nat_eq op 6) _ _ (fits (codes "setbe") (lit≤ tt)) (
    either (nat_eq op 7) _ _ (fits (codes "seta") (lit≤ tt)) (
    either (nat_eq op 8) _ _ (fits (codes "sets") (lit≤ tt)) (
    either (nat_eq op 9) _ _ (fits (codes "setns") (lit≤ tt)) (
    either (nat_eq op 12) _ _ (fits (codes "setl") (lit≤ tt)) (
    either (nat_eq op 13) _ _ (fits (codes "setge") (lit≤ tt)) (
    either (nat_eq op 14) _ _ (fits (codes "setle") (lit≤ tt)) (
    fits (codes "setg") (lit≤ tt))))))))))))))

short_jump_text : (op : ℕ) → Short 7 (jump_text op)
unfolding jump_text
short_jump_text op =
    either (nat_eq op 0) _ _ (fits (codes "jo") (lit≤ tt)) (
    either (nat_eq op 1) _ _ (fits (codes "jno") (lit≤ tt)) (
    either (nat_eq op 2) _ _ (fits (codes "jb") (lit≤ tt)) (
    either (nat_eq op 3) _ _ (fits (codes "jae") (lit≤ tt)) (
    either (nat_eq op 4) _ _ (fits (codes "je") (lit≤ tt)) (
    either (nat_eq op 5) _ _ (fits (codes "jne") (lit≤ tt)) (
    either (nat_eq op 6) _ _ (fits (codes "jbe") (lit≤ tt)) (
    either (nat_eq op 7) _ _ (fits (codes "ja") (lit≤ tt)) (
    either (nat_eq op 8) _ _ (fits (codes "js") (lit≤ tt)) (
    either (nat_eq op 9) _ _ (fits (codes "jns") (lit≤ tt)) (
    either (nat_eq op 12) _ _ (fits (codes "jl") (lit≤ tt)) (
    either (nat_eq op 13) _ _ (fits (codes "jge") (lit≤ tt)) (
    either (nat_eq op 14) _ _ (fits (codes "jle") (lit≤ tt)) (
    fits (codes "jg") (lit≤ tt))))))))))))))

pub length_mnemonic : (m : Mnemonic) → length (mnemonic_text m) ≤ 7
unfolding mnemonic_text
length_mnemonic m.Mov = lit≤ tt
length_mnemonic m.Movsxd = lit≤ tt
length_mnemonic m.Movzx = lit≤ tt
length_mnemonic m.Movsx = lit≤ tt
length_mnemonic m.Lea = lit≤ tt
length_mnemonic (m.Alu op) = (short_alu_text op).bound
length_mnemonic m.Test = lit≤ tt
length_mnemonic m.Imul = lit≤ tt
length_mnemonic (m.One op) = (short_one_text op).bound
length_mnemonic m.Cdq = lit≤ tt
length_mnemonic m.Cqo = lit≤ tt
length_mnemonic (m.Shift op) = (short_shift_text op).bound
length_mnemonic (m.Set op) = (short_set_text op).bound
length_mnemonic m.Push = lit≤ tt
length_mnemonic m.Pop = lit≤ tt
length_mnemonic m.Call = lit≤ tt
length_mnemonic m.Jmp = lit≤ tt
length_mnemonic (m.JumpIf op) = (short_jump_text op).bound
length_mnemonic m.Ret = lit≤ tt
length_mnemonic m.Syscall = lit≤ tt
length_mnemonic m.Ud2 = lit≤ tt
length_mnemonic m.Nop = lit≤ tt
length_mnemonic m.Bndmk = lit≤ tt
length_mnemonic m.Bndcl = lit≤ tt
length_mnemonic m.Bndcu = lit≤ tt
length_mnemonic m.Bndcn = lit≤ tt
length_mnemonic m.Bndmov = lit≤ tt
length_mnemonic m.Bndldx = lit≤ tt
length_mnemonic m.Bndstx = lit≤ tt
