-- How long a listing is: a line has at most 32 bytes for each byte of code.
use Rattle.std.proofs.Common.{◌≡◌, ℕ, suc, ◌+◌, ◌-◌, ◌*◌, ◌%◌, ◌^◌, ◌<◌, ◌≤◌, Bool, true, false, true≢false, cond, IsTrue, List, [], ◌∷◌, ◌++◌, length, drop, Option, Some, None, refl, sym, ap, ◌∙◌, arith, nat_eq, nat_lt, lit≤}
use Rattle.std.specs.Prelude.{◌&&◌, not, codes, decimal, ℤ, pos, negsuc}
use Rattle.std.specs.Fmt.{signed_decimal}
use Rattle.std.specs.Int.{to_le_bytes, cast_unsigned, w64}
use Rattle.std.proofs.lemmas.Bool.{and_parts}
use Rattle.std.proofs.lemmas.Bool.Decides.{nat_tests}
use Rattle.std.proofs.lemmas.Fmt.{length_signed_le, length-decimal-le}
use Rattle.std.proofs.lemmas.List.{length-append, length-take-le, length-drop}
use Rattle.x86_forms.specs.declared.instr.Instr.{Instr}
use Rattle.x86_forms.specs.declared.instr.Instr.TheVariants as ins
use Rattle.x86_forms.specs.declared.instr.Reg.{Reg}
use Rattle.x86_forms.specs.declared.instr.Mem.{Mem}
use Rattle.x86_forms.specs.declared.instr.Base.{Base}
use Rattle.x86_forms.specs.declared.instr.Base.TheVariants.{None as NoBase, Reg as BaseReg, Rip}
use Rattle.x86_forms.specs.declared.instr.Rm.{Rm}
use Rattle.x86_forms.specs.declared.instr.Rm.TheVariants.{Reg as InReg, Mem as InMem}
use Rattle.x86_forms.specs.declared.layout.Layout.{Layout}
use Rattle.x86_forms.specs.declared.layout.Operands.{Operands}
use Rattle.x86_forms.specs.declared.layout.Operands.TheVariants.{Bare, InOpcode, InModrm}
use Rattle.x86_forms.specs.Fits.{fits_8, fits_32, fits_64}
use Rattle.x86_forms.specs.Layout.{layout_of, is_wide, one_byte, with_imm, operands, alu_digit, mov_imm, mov_imm_len, alu_imm}
use Rattle.x86_forms.specs.Spelling.{modrm, sib, low_bytes, is_zero, mod_of, disp_bytes, over_base, mem_bytes, rm_bytes, forces_rex, rex_bits, rex_bytes, prefix_bytes, escape_bytes, operand_bytes, bytes_of, spelling}
use Rattle.x86_forms.specs.Validity.{valid_of, width_ok, scale_ok, index_ok, base_ok, mem_ok}
use Rattle.x86_forms.proofs.Writable.{layout_of-IsWritable}
use Rattle.asm_names.specs.Registers.{size_text}
use Rattle.asm_names.specs.Mnemonics.{mnemonic_text}
use Rattle.disasm.specs.Operands.{name_of, offset_text, disp_text, scaled_text, index_text, address_text, memory_text, operand_text, behind}
use Rattle.disasm.specs.declared.operand.Operand.{Operand as Shown}
use Rattle.disasm.specs.declared.operand.Operand.TheVariants.{Nothing, Register, Bounds, Memory, Sized, Signed, Relative}
use Rattle.disasm.specs.declared.operand.Written.{Written}
use Rattle.disasm.specs.Written.{plain, sized, bounds_or_memory, written_of, text_of_written, text_of}
use Rattle.disasm.specs.Listing.{LineOf, Instruction, Byte, Lists, Empty, Line}
use Rattle.disasm.proofs.Lengths.{length_register, length_bounds, length_size, length_mnemonic}
use Rattle.listing_laws.proofs.Operands.{is_operand}
use Rattle.listing_laws.proofs.Lines.{AreOperands, NoOperands, OneOperand, TwoOperands}
use Rattle.listing_laws.proofs.Forms.{form}

-- ---- numbers and addresses

signed_long : (z : ℤ) → fits_64 z ≡ true → length (signed_decimal z) ≤ 20
signed_long (pos n) f = let h : n < 2 ^ 63 = grind (arith, nat_tests) in length_signed_le 19 (pos n) (omega arith) (omega arith)
signed_long (negsuc n) f = let h : n < 2 ^ 63 = grind (arith, nat_tests) in length_signed_le 19 (negsuc n) (omega arith) (omega arith)

signed_short : (z : ℤ) → fits_32 z ≡ true → length (signed_decimal z) ≤ 11
signed_short (pos n) f = let h : n < 2 ^ 31 = grind (arith, nat_tests) in length_signed_le 10 (pos n) (omega arith) (omega arith)
signed_short (negsuc n) f = let h : n < 2 ^ 31 = grind (arith, nat_tests) in length_signed_le 10 (negsuc n) (omega arith) (omega arith)

offset_size : (z : ℤ) → fits_32 z ≡ true → length (offset_text z) ≤ 12
offset_size (pos n) f = let h : length (decimal n) ≤ 11 = signed_short (pos n) f in omega arith
offset_size (negsuc n) f = let h : suc (length (decimal (suc n))) ≤ 11 = signed_short (negsuc n) f in omega arith

disp_size : (z : ℤ) → fits_32 z ≡ true → length (disp_text z) ≤ 12
disp_size z f = by (is_zero z)
  where
    by : (b : Bool) → length (cond b [] (offset_text z)) ≤ 12
    by true = lit≤ tt
    by false = offset_size z f

scaled_size : (r : Reg) (s : ℕ) → scale_ok s ≡ true → length (scaled_text r s) ≤ 6
scaled_size r s ok =
    let small : s < 10 = grind (arith, nat_tests) in
    let digit : length (decimal s) ≤ 1 = length-decimal-le 1 s (omega arith) (omega arith) (omega arith) in
    let name : length (name_of r) ≤ 4 = length_register 64 r.0 in
    let front : length (name_of r ++ 42 ∷ []) ≡ length (name_of r) + 1 = length-append (name_of r) (42 ∷ []) in
    let whole : length (scaled_text r s) ≡ length (name_of r ++ 42 ∷ []) + length (decimal s) = length-append (name_of r ++ 42 ∷ []) (decimal s) in
    omega arith

index_size : (index : Option (Reg × ℕ)) → index_ok index ≡ true → length (index_text index) ≤ 7
index_size None ok = lit≤ tt
index_size (Some x) ok = by (nat_eq x.1 1)
  where
    name : length (name_of x.0) ≤ 4
    name = length_register 64 x.0.0

    scaled : length (scaled_text x.0 x.1) ≤ 6
    scaled = scaled_size x.0 x.1 (and_parts (nat_lt x.0.0 16 && not (nat_eq x.0.0 4)) (scale_ok x.1) ok).1

    by : (b : Bool) → suc (length (cond b (name_of x.0) (scaled_text x.0 x.1))) ≤ 7
    by true = omega (arith, name)
    by false = omega (arith, scaled)

address_size : (base : Base) (index : Option (Reg × ℕ)) (z : ℤ) → index_ok index ≡ true → fits_32 z ≡ true → length (address_text base index z) ≤ 23
address_size NoBase None z ok f = let h = signed_short z f in omega arith
address_size NoBase (Some x) z ok f =
    let h = scaled_size x.0 x.1 (and_parts (nat_lt x.0.0 16 && not (nat_eq x.0.0 4)) (scale_ok x.1) ok).1 in
    let d = disp_size z f in
    let whole : length (address_text NoBase (Some x) z) ≡ length (scaled_text x.0 x.1) + length (disp_text z) = length-append (scaled_text x.0 x.1) (disp_text z) in
    omega arith
address_size Rip index z ok f = let d = offset_size z f in omega arith
address_size (BaseReg r) index z ok f =
    let name : length (name_of r) ≤ 4 = length_register 64 r.0 in
    let i = index_size index ok in
    let d = disp_size z f in
    let front : length (name_of r ++ index_text index) ≡ length (name_of r) + length (index_text index) = length-append (name_of r) (index_text index) in
    let whole : length (address_text (BaseReg r) index z) ≡ length (name_of r ++ index_text index) + length (disp_text z) = length-append (name_of r ++ index_text index) (disp_text z) in
    omega arith

memory_size : (x : Mem) → mem_ok x ≡ true → length (memory_text x) ≤ 25
unfolding memory_text
memory_size x ok =
    let p = and_parts (base_ok x.base x.index && index_ok x.index) (fits_32 x.disp) ok in
    let q = and_parts (base_ok x.base x.index) (index_ok x.index) p.0 in
    let inside = address_text x.base x.index x.disp in
    let h = address_size x.base x.index x.disp q.1 p.1 in
    let whole : length (inside ++ 93 ∷ []) ≡ length inside + 1 = length-append inside (93 ∷ []) in
    let text : length (memory_text x) ≡ suc (length (inside ++ 93 ∷ [])) = refl in
    omega arith

-- ---- operands and lines

-- the most bytes of an operand
abbrev most : Shown → ℕ
most Nothing = 0
most (Register w r) = 4
most (Bounds b) = 4
most (Memory x) = 25
most (Sized w x) = 31
most (Signed z) = 20
most (Relative z) = 15

operand_size : (x : Shown) → is_operand x ≡ true → length (operand_text x) ≤ most x
unfolding operand_text
operand_size Nothing ok = absurd (true≢false (sym ok))
operand_size (Register w r) ok = length_register w r.0
operand_size (Bounds b) ok = length_bounds b
operand_size (Memory x) ok = memory_size x ok
operand_size (Sized w x) ok =
    let m = memory_size x (and_parts (width_ok w) (mem_ok x) ok).1 in
    let s = length_size w in
    let front : length (size_text w ++ 32 ∷ []) ≡ length (size_text w) + 1 = length-append (size_text w) (32 ∷ []) in
    let whole : length (size_text w ++ codes " " ++ memory_text x) ≡ length (size_text w ++ 32 ∷ []) + length (memory_text x) = length-append (size_text w ++ 32 ∷ []) (memory_text x) in
    omega arith
operand_size (Signed z) ok = signed_long z ok
operand_size (Relative z) ok = let h = signed_short z ok in omega arith

nothing_size : (mark : List ℕ) → length (behind mark Nothing) ≤ length mark + 0
unfolding behind
nothing_size mark = omega arith

appended : (mark text : List ℕ) (n : ℕ) → length text ≤ n → length (mark ++ text) ≤ length mark + n
appended mark text n h = omega (arith, length-append mark text)

behind_size : (mark : List ℕ) (x : Shown) → is_operand x ≡ true → length (behind mark x) ≤ length mark + most x
unfolding behind
behind_size mark Nothing ok = absurd (true≢false (sym ok))
behind_size mark (Register w r) ok = appended mark (operand_text (Register w r)) 4 (operand_size (Register w r) ok)
behind_size mark (Bounds b) ok = appended mark (operand_text (Bounds b)) 4 (operand_size (Bounds b) ok)
behind_size mark (Memory x) ok = appended mark (operand_text (Memory x)) 25 (operand_size (Memory x) ok)
behind_size mark (Sized w x) ok = appended mark (operand_text (Sized w x)) 31 (operand_size (Sized w x) ok)
behind_size mark (Signed z) ok = appended mark (operand_text (Signed z)) 20 (operand_size (Signed z) ok)
behind_size mark (Relative z) ok = appended mark (operand_text (Relative z)) 15 (operand_size (Relative z) ok)

-- what two operands take, with their marks
record Take (a b : Shown) : Type 0 where
  first : length (behind (codes " ") a) ≤ 1 + most a
  second : length (behind (codes ", ") b) ≤ 2 + most b

take_up : (a b : Shown) → AreOperands a b → Take a b
take_up _ _ NoOperands = record { first = nothing_size (codes " "); second = nothing_size (codes ", ") }
take_up _ _ (OneOperand x ok) = record { first = behind_size (codes " ") x ok; second = nothing_size (codes ", ") }
take_up _ _ (TwoOperands x y ok also) = record { first = behind_size (codes " ") x ok; second = behind_size (codes ", ") y also }

prefix_size : (p : Bool) → length (cond p (codes "bnd ") []) ≤ 4
prefix_size true = lit≤ tt
prefix_size false = lit≤ tt

written_size : (w : Written) → AreOperands w.first w.second → length (text_of_written w) ≤ 14 + most w.first + most w.second
written_size w ok =
    let t = take_up w.first w.second ok in
    let first = t.first in
    let second = t.second in
    let m = length_mnemonic w.mnemonic in
    let p = prefix_size w.prefixed in
    let head = (cond w.prefixed (codes "bnd ") []) ++ mnemonic_text w.mnemonic in
    let a : length head ≡ length (cond w.prefixed (codes "bnd ") []) + length (mnemonic_text w.mnemonic) = length-append (cond w.prefixed (codes "bnd ") []) (mnemonic_text w.mnemonic) in
    let b : length (head ++ behind (codes " ") w.first) ≡ length head + length (behind (codes " ") w.first) = length-append head (behind (codes " ") w.first) in
    let c : length (text_of_written w) ≡ length (head ++ behind (codes " ") w.first) + length (behind (codes ", ") w.second) = length-append (head ++ behind (codes " ") w.first) (behind (codes ", ") w.second) in
    omega arith

-- ---- how many bytes an instruction has at least

abbrev least : Operands → ℕ
least Bare = 1
least (InOpcode r) = 1
least (InModrm reg low rm low_rm) = 2

over_some : (reg r : ℕ) (index : Option (Reg × ℕ)) (z : ℤ) → 1 ≤ length (over_base reg r index z)
unfolding over_base
over_some reg r None z = by (nat_eq (r % 8) 4)
  where
    by : (b : Bool) → 1 ≤ length (cond b (modrm (mod_of r z) reg 4 ∷ sib None r ∷ disp_bytes (mod_of r z) z) (modrm (mod_of r z) reg r ∷ disp_bytes (mod_of r z) z))
    by true = omega arith
    by false = omega arith
over_some reg r (Some x) z = omega arith

mem_some : (reg : ℕ) (base : Base) (index : Option (Reg × ℕ)) (z : ℤ) → 1 ≤ length (mem_bytes reg base index z)
unfolding mem_bytes
mem_some reg NoBase index z = omega arith
mem_some reg Rip index z = omega arith
mem_some reg (BaseReg r) index z = over_some reg r.0 index z

rm_some : (reg : ℕ) (rm : Rm) → 1 ≤ length (rm_bytes reg rm)
unfolding rm_bytes
rm_some reg (InReg r) = omega arith
rm_some reg (InMem x) = mem_some reg x.base x.index x.disp

operands_some : (opcode : ℕ) (x : Operands) → least x ≤ length (operand_bytes opcode x)
unfolding operand_bytes
operands_some opcode Bare = omega arith
operands_some opcode (InOpcode r) = omega arith
operands_some opcode (InModrm reg low rm low_rm) = omega (arith, rm_some reg rm)

eight : (n : ℕ) → length (to_le_bytes w64 n) ≡ 8
eight n = refl

low_size : (n : ℕ) (z : ℤ) → n ≤ 8 → length (low_bytes n z) ≡ n
unfolding low_bytes
low_size n z h = length-take-le n (to_le_bytes w64 (cast_unsigned w64 z)) (omega (arith, eight (cast_unsigned w64 z)))

behind_front : (xs ys : List ℕ) (n : ℕ) → n ≤ length ys → n ≤ length (xs ++ ys)
behind_front xs ys n h = omega (arith, length-append xs ys)

least_bytes : (l : Layout) → l.imm_len ≤ 8 → least l.operands + l.imm_len ≤ length (bytes_of l)
least_bytes l small =
    let code = operand_bytes l.opcode l.operands in
    let imm = low_bytes l.imm_len l.imm in
    let n = least l.operands + l.imm_len in
    let both : n ≤ length (code ++ imm) = omega (arith, length-append code imm, operands_some l.opcode l.operands, low_size l.imm_len l.imm small) in
    behind_front (prefix_bytes l.prefix) _ n (behind_front (rex_bytes (forces_rex l.operands) (rex_bits l.wide l.operands)) _ n (behind_front (escape_bytes l.escape) (code ++ imm) n both))

instr_least : (i : Instr) → IsTrue (valid_of i) → least (layout_of i).operands + (layout_of i).imm_len ≤ length (spelling i)
instr_least i v = least_bytes (layout_of i) (layout_of-IsWritable i v).imm

alu_imm_least : (op w : ℕ) (rm : Rm) (z : ℤ) → 3 ≤ length (bytes_of (alu_imm op w rm z))
alu_imm_least op w rm z = by (fits_8 z)
  where
    by : (b : Bool) → 3 ≤ length (bytes_of (cond b (with_imm (one_byte 0 (is_wide w) 0x83 (operands (alu_digit op) rm)) 1 z) (with_imm (one_byte 0 (is_wide w) 0x81 (operands (alu_digit op) rm)) 4 z)))
    by true = least_bytes (with_imm (one_byte 0 (is_wide w) 0x83 (operands (alu_digit op) rm)) 1 z) (lit≤ tt)
    by false = let h : 6 ≤ length (bytes_of (with_imm (one_byte 0 (is_wide w) 0x81 (operands (alu_digit op) rm)) 4 z)) = least_bytes (with_imm (one_byte 0 (is_wide w) 0x81 (operands (alu_digit op) rm)) 4 z) (lit≤ tt) in omega arith

more_than : (k n m : ℕ) → k ≤ n → n ≤ m → k ≤ m
more_than k n m h g = omega arith

mov_imm_least : (w r : ℕ) (z : ℤ) → 2 ≤ length (bytes_of (mov_imm w r z))
mov_imm_least w r z = by (is_wide w) (fits_32 z)
  where
    by : (x y : Bool) → 2 ≤ length (bytes_of (cond x (cond y (with_imm (one_byte 0 true 0xC7 (operands 0 (InReg (record { 0 = r })))) 4 z) (with_imm (one_byte 0 true 0xB8 (InOpcode r)) 8 z)) (with_imm (one_byte 0 false 0xB8 (InOpcode r)) 4 z)))
    by true true = more_than 2 6 _ (lit≤ tt) (least_bytes (with_imm (one_byte 0 true 0xC7 (operands 0 (InReg (record { 0 = r })))) 4 z) (lit≤ tt))
    by true false = more_than 2 9 _ (lit≤ tt) (least_bytes (with_imm (one_byte 0 true 0xB8 (InOpcode r)) 8 z) (lit≤ tt))
    by false y = more_than 2 5 _ (lit≤ tt) (least_bytes (with_imm (one_byte 0 false 0xB8 (InOpcode r)) 4 z) (lit≤ tt))

imm_some : (w : ℕ) → 1 ≤ mov_imm_len w
imm_some w = by (nat_eq w 8) (nat_eq w 16)
  where
    by : (x y : Bool) → 1 ≤ cond x 1 (cond y 2 4)
    by true y = lit≤ tt
    by false true = lit≤ tt
    by false false = lit≤ tt

-- ---- lines beside their instructions

plain_most : (w : ℕ) (rm : Rm) → most (plain w rm) ≤ 25
plain_most w (InReg r) = lit≤ tt
plain_most w (InMem x) = lit≤ tt

sized_most : (w : ℕ) (rm : Rm) → most (sized w rm) ≤ 31
sized_most w (InReg r) = lit≤ tt
sized_most w (InMem x) = lit≤ tt

bounds_most : (rm : Rm) → most (bounds_or_memory rm) ≤ 25
bounds_most (InReg r) = lit≤ tt
bounds_most (InMem x) = lit≤ tt

-- a line of these operands, beside so many bytes
abbrev Serves : Shown → Shown → ℕ → Type 0
Serves a b n = 15 + most a + most b ≤ 32 * n

first_serves : (k a b n : ℕ) → k ≤ n → 15 + a + b ≤ 32 * k → 15 + a + b ≤ 32 * n
first_serves k a b n h g = omega arith

serves : (i : Instr) → IsTrue (valid_of i) → Serves (written_of i).first (written_of i).second (length (spelling i))
unfolding written_of
serves (ins.MovTo w r rm) v = first_serves 2 (most (plain w rm)) 4 _ (instr_least (ins.MovTo w r rm) v) (omega (arith, plain_most w rm))
serves (ins.MovFrom w r x) v = first_serves 2 4 25 _ (instr_least (ins.MovFrom w r x) v) (lit≤ tt)
serves (ins.MovMemImm w x z) v = first_serves 3 31 20 _ (more_than 3 (2 + mov_imm_len w) _ (omega (arith, imm_some w)) (instr_least (ins.MovMemImm w x z) v)) (lit≤ tt)
serves (ins.MovImm w r z) v = first_serves 2 4 20 _ (mov_imm_least w r.0 z) (lit≤ tt)
serves (ins.Movsxd r rm) v = first_serves 2 4 (most (plain 32 rm)) _ (instr_least (ins.Movsxd r rm) v) (omega (arith, plain_most 32 rm))
serves (ins.Movzx from r rm) v = first_serves 2 4 (most (sized from rm)) _ (instr_least (ins.Movzx from r rm) v) (omega (arith, sized_most from rm))
serves (ins.Movsx w from r rm) v = first_serves 2 4 (most (sized from rm)) _ (instr_least (ins.Movsx w from r rm) v) (omega (arith, sized_most from rm))
serves (ins.Lea r x) v = first_serves 2 4 25 _ (instr_least (ins.Lea r x) v) (lit≤ tt)
serves (ins.AluTo op w r rm) v = first_serves 2 (most (plain w rm)) 4 _ (instr_least (ins.AluTo op w r rm) v) (omega (arith, plain_most w rm))
serves (ins.AluFrom op w r x) v = first_serves 2 4 25 _ (instr_least (ins.AluFrom op w r x) v) (lit≤ tt)
serves (ins.AluImm op w rm z) v = first_serves 3 (most (sized w rm)) 20 _ (alu_imm_least op w rm z) (omega (arith, sized_most w rm))
serves (ins.Test w r rm) v = first_serves 2 (most (plain w rm)) 4 _ (instr_least (ins.Test w r rm) v) (omega (arith, plain_most w rm))
serves (ins.Imul w r rm) v = first_serves 2 4 (most (plain w rm)) _ (instr_least (ins.Imul w r rm) v) (omega (arith, plain_most w rm))
serves (ins.One op w rm) v = first_serves 2 (most (sized w rm)) 0 _ (instr_least (ins.One op w rm) v) (omega (arith, sized_most w rm))
serves (ins.Wide w) v = first_serves 1 0 0 _ (instr_least (ins.Wide w) v) (lit≤ tt)
serves (ins.ShiftCl op w rm) v = first_serves 2 (most (sized w rm)) 4 _ (instr_least (ins.ShiftCl op w rm) v) (omega (arith, sized_most w rm))
serves (ins.ShiftImm op w rm z) v = first_serves 3 (most (sized w rm)) 20 _ (instr_least (ins.ShiftImm op w rm z) v) (omega (arith, sized_most w rm))
serves (ins.Set op rm) v = first_serves 2 (most (sized 8 rm)) 0 _ (instr_least (ins.Set op rm) v) (omega (arith, sized_most 8 rm))
serves (ins.Push r) v = first_serves 1 4 0 _ (instr_least (ins.Push r) v) (lit≤ tt)
serves (ins.Pop r) v = first_serves 1 4 0 _ (instr_least (ins.Pop r) v) (lit≤ tt)
serves (ins.CallRel p z) v = first_serves 5 15 0 _ (instr_least (ins.CallRel p z) v) (lit≤ tt)
serves (ins.JmpRel p z) v = first_serves 5 15 0 _ (instr_least (ins.JmpRel p z) v) (lit≤ tt)
serves (ins.CallRm p rm) v = first_serves 2 (most (plain 64 rm)) 0 _ (instr_least (ins.CallRm p rm) v) (omega (arith, plain_most 64 rm))
serves (ins.JmpRm p rm) v = first_serves 2 (most (plain 64 rm)) 0 _ (instr_least (ins.JmpRm p rm) v) (omega (arith, plain_most 64 rm))
serves (ins.Jcc p op z) v = first_serves 5 15 0 _ (instr_least (ins.Jcc p op z) v) (lit≤ tt)
serves (ins.Ret p) v = first_serves 1 0 0 _ (instr_least (ins.Ret p) v) (lit≤ tt)
serves ins.Syscall v = first_serves 1 0 0 _ (instr_least ins.Syscall v) (lit≤ tt)
serves ins.Ud2 v = first_serves 1 0 0 _ (instr_least ins.Ud2 v) (lit≤ tt)
serves ins.Nop v = first_serves 1 0 0 _ (instr_least ins.Nop v) (lit≤ tt)
serves (ins.Bndmk b x) v = first_serves 2 4 25 _ (instr_least (ins.Bndmk b x) v) (lit≤ tt)
serves (ins.Bndcl b rm) v = first_serves 2 4 (most (plain 64 rm)) _ (instr_least (ins.Bndcl b rm) v) (omega (arith, plain_most 64 rm))
serves (ins.Bndcu b rm) v = first_serves 2 4 (most (plain 64 rm)) _ (instr_least (ins.Bndcu b rm) v) (omega (arith, plain_most 64 rm))
serves (ins.Bndcn b rm) v = first_serves 2 4 (most (plain 64 rm)) _ (instr_least (ins.Bndcn b rm) v) (omega (arith, plain_most 64 rm))
serves (ins.BndmovTo b x) v = first_serves 2 25 4 _ (instr_least (ins.BndmovTo b x) v) (lit≤ tt)
serves (ins.BndmovFrom b rm) v = first_serves 2 4 (most (bounds_or_memory rm)) _ (instr_least (ins.BndmovFrom b rm) v) (omega (arith, bounds_most rm))
serves (ins.Bndldx b x) v = first_serves 2 4 25 _ (instr_least (ins.Bndldx b x) v) (lit≤ tt)
serves (ins.Bndstx b x) v = first_serves 2 25 4 _ (instr_least (ins.Bndstx b x) v) (lit≤ tt)

instr_line : (i : Instr) → IsTrue (valid_of i) → length (text_of i) + 1 ≤ 32 * length (spelling i)
instr_line i v =
    let t = written_size (written_of i) (form i v).operands in
    let s = serves i v in
    omega arith

line_size : (code line : List ℕ) (n : ℕ) → LineOf code line n → (length line + 1 ≤ 32 * n) × (n ≤ length code)
line_size code line n (Instruction i h e) =
    let size : n ≡ length (spelling i) = sym (length-take-le n code h.within) ∙ ap length h.spells.bytes in
    let short = instr_line i h.spells.valid in
    let text : length line ≡ length (text_of i) = ap length e in
    (omega arith, h.within)
line_size code line n (Byte some none e one) =
    let text : length line ≡ 10 = ap length e in
    (omega arith, omega arith)

-- a listing is at most 32 times as long as its code
pub listing_size : (code text : List ℕ) → Lists code text → length text ≤ 32 * length code
listing_size _ _ Empty = lit≤ tt
listing_size _ _ (Line code line rest n front more) =
    let s = line_size code line n front in
    let short = s.0 in
    let within = s.1 in
    let r = listing_size (drop n code) rest more in
    let left : length (drop n code) ≡ length code - n = length-drop n code in
    let head : length (line ++ codes "\n") ≡ length line + 1 = length-append line (codes "\n") in
    let whole : length ((line ++ codes "\n") ++ rest) ≡ length (line ++ codes "\n") + length rest = length-append (line ++ codes "\n") rest in
    omega arith
