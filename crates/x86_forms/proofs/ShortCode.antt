-- A spelling has one to fifteen bytes.
use Rattle.std.proofs.Common.{◌≤◌, ◌<◌, ◌+◌, ◌%◌, IsTrue, true, false, Bool, ℕ, suc, arith, nat_eq, ℤ, List, [], ◌∷◌, ◌++◌, length, length-append}
use Rattle.std.specs.Prelude.{Option, Some, None, ◌&&◌, not}
use Rattle.std.specs.Int.{cast_unsigned, to_le_bytes, w64}
use Rattle.std.specs.List.{All}
use Rattle.std.proofs.lemmas.Bool.{cond_both}
use Rattle.std.proofs.lemmas.Grind.{common_steps}
use Rattle.std.proofs.lemmas.List.{length-take}
use Rattle.std.proofs.lemmas.List.Elements.{All-append, All-cons, All-nil, All-take}
use Rattle.x86_forms.specs.declared.instr.Instr.{Instr}
use Rattle.x86_forms.specs.declared.instr.Instr.TheVariants.{MovTo, MovFrom, MovMemImm, MovImm, Movzx, Movsx, AluTo, AluFrom, AluImm, Set, CallRel, JmpRel, CallRm, JmpRm, Jcc, Ret}
use Rattle.x86_forms.specs.declared.instr.Reg.{Reg}
use Rattle.x86_forms.specs.declared.instr.Base.{Base}
use Rattle.x86_forms.specs.declared.instr.Base.TheVariants.{None as NoBase, Reg as BaseReg, Rip}
use Rattle.x86_forms.specs.declared.instr.Rm.{Rm}
use Rattle.x86_forms.specs.declared.instr.Rm.TheVariants.{Reg as InReg, Mem as InMem}
use Rattle.x86_forms.specs.declared.layout.Layout.{Layout}
use Rattle.x86_forms.specs.declared.layout.Operands.{Operands}
use Rattle.x86_forms.specs.declared.layout.Operands.TheVariants.{Bare, InOpcode, InModrm}
use Rattle.x86_forms.specs.Fits.{fits_8, fits_32}
use Rattle.x86_forms.specs.Layout.{layout_of, is_wide, alu_digit}
use Rattle.x86_forms.specs.Room.{IsWritable, IsShortCode, SpellingsAreShort, room_for, opcode_fits}
use Rattle.x86_forms.specs.Spelling.{bytes_of, low_bytes, mod_of, disp_bytes, is_zero, scale_code, modrm, sib, over_base, mem_bytes, rm_bytes, rex_bits, rex_bytes, forces_rex, prefix_bytes, escape_bytes, operand_bytes}
use Rattle.x86_forms.specs.Validity.{valid_of}
use Rattle.x86_forms.proofs.Writable.{layout_of-IsWritable}

-- at most n bytes
pub record Small (n : ℕ) (xs : List ℕ) : Type 0 where
  pub most : length xs ≤ n
  pub bytes : All (λ b. b < 256) xs

small_nil : (n : ℕ) → Small n []
small_nil n = record { most = omega arith; bytes = All-nil (λ b. b < 256) }

small_cons : (n x : ℕ) (xs : List ℕ) → x < 256 → Small n xs → Small (suc n) (x ∷ xs)
small_cons n x xs h k = record { most = let m = k.most in omega arith; bytes = All-cons (λ b. b < 256) x xs h k.bytes }

small_append : (n m : ℕ) (xs ys : List ℕ) → Small n xs → Small m ys → Small (n + m) (xs ++ ys)
small_append n m xs ys h k = record { most = omega (arith, length-append xs ys, h.most, k.most); bytes = All-append (λ b. b < 256) xs ys h.bytes k.bytes }

small_more : (n m : ℕ) (xs : List ℕ) → n ≤ m → Small n xs → Small m xs
small_more n m xs l k = record { most = let m = k.most in omega arith; bytes = k.bytes }

eight_bytes : (a b c d e f g i : ℕ) → a < 256 → b < 256 → c < 256 → d < 256 → e < 256 → f < 256 → g < 256 → i < 256 → Small 8 (a ∷ b ∷ c ∷ d ∷ e ∷ f ∷ g ∷ i ∷ [])
eight_bytes a b c d e f g i ha hb hc hd he hf hg hi =
    small_cons 7 a _ ha (small_cons 6 b _ hb (small_cons 5 c _ hc (small_cons 4 d _ hd (small_cons 3 e _ he (small_cons 2 f _ hf (small_cons 1 g _ hg (small_cons 0 i _ hi (small_nil 0))))))))

small_le_bytes : (n : ℕ) → Small 8 (to_le_bytes w64 n)
small_le_bytes n = eight_bytes _ _ _ _ _ _ _ _ (omega arith) (omega arith) (omega arith) (omega arith) (omega arith) (omega arith) (omega arith) (omega arith)

small_low : (n : ℕ) (z : ℤ) → Small n (low_bytes n z)
unfolding low_bytes
small_low n z = let k = small_le_bytes (cast_unsigned w64 z) in
    record { most = omega (arith, length-take n (to_le_bytes w64 (cast_unsigned w64 z))); bytes = All-take (λ b. b < 256) n (to_le_bytes w64 (cast_unsigned w64 z)) k.bytes }

-- the operands
small_disp : (mode : ℕ) (d : ℤ) → Small 4 (disp_bytes mode d)
unfolding disp_bytes
small_disp mode d =
    cond_both (nat_eq mode 0) _ _ (λ xs. Small 4 xs) (λ e. small_nil 4)
    (λ e. cond_both (nat_eq mode 1) _ _ (λ xs. Small 4 xs) (λ f. small_more 1 4 _ (omega arith) (small_low 1 d)) (λ f. small_low 4 d))

modrm-lt : (mode reg rm : ℕ) → mode < 4 → modrm mode reg rm < 256
unfolding modrm
modrm-lt mode reg rm h = omega arith

scale_code-lt : (s : ℕ) → scale_code s < 4
unfolding scale_code
scale_code-lt s = grind (arith, common_steps)

sib-lt : (x : Option (Reg × ℕ)) (base : ℕ) → sib x base < 256
unfolding sib
sib-lt None base = omega arith
sib-lt (Some x) base = omega (arith, scale_code-lt x.1)

mod_of-lt : (r : ℕ) (d : ℤ) → mod_of r d < 4
unfolding mod_of
mod_of-lt r d = cond_both (is_zero d && not (nat_eq (r % 8) 5)) _ _ (λ n. n < 4) (λ e. omega arith) (λ e. cond_both (fits_8 d) _ _ (λ n. n < 4) (λ f. omega arith) (λ f. omega arith))

small_over : (reg r : ℕ) (x : Option (Reg × ℕ)) (d : ℤ) → Small 6 (over_base reg r x d)
unfolding over_base
small_over reg r None d =
    cond_both (nat_eq (r % 8) 4) _ _ (λ xs. Small 6 xs)
    (λ e. small_cons 5 _ _ (modrm-lt _ reg 4 (mod_of-lt r d)) (small_cons 4 _ _ (sib-lt None r) (small_disp _ d)))
    (λ e. small_more 5 6 _ (omega arith) (small_cons 4 _ _ (modrm-lt _ reg r (mod_of-lt r d)) (small_disp _ d)))
small_over reg r (Some x) d = small_cons 5 _ _ (modrm-lt _ reg 4 (mod_of-lt r d)) (small_cons 4 _ _ (sib-lt (Some x) r) (small_disp _ d))

small_mem : (reg : ℕ) (b : Base) (x : Option (Reg × ℕ)) (d : ℤ) → Small 6 (mem_bytes reg b x d)
unfolding mem_bytes
small_mem reg NoBase x d = small_cons 5 _ _ (modrm-lt 0 reg 4 (omega arith)) (small_cons 4 _ _ (sib-lt x 5) (small_low 4 d))
small_mem reg (BaseReg r) x d = small_over reg r.0 x d
small_mem reg Rip x d = small_more 5 6 _ (omega arith) (small_cons 4 _ _ (modrm-lt 0 reg 5 (omega arith)) (small_low 4 d))

small_rm : (reg : ℕ) (rm : Rm) → Small 6 (rm_bytes reg rm)
unfolding rm_bytes
small_rm reg (InReg r) = small_more 1 6 _ (omega arith) (small_cons 0 _ _ (modrm-lt 3 reg r.0 (omega arith)) (small_nil 0))
small_rm reg (InMem m) = small_mem reg m.base m.index m.disp

small_operands : (op : ℕ) (ops : Operands) → op < 256 → IsTrue (opcode_fits op ops) → Small (room_for ops) (operand_bytes op ops)
unfolding operand_bytes
small_operands op Bare h k = small_cons 0 _ _ h (small_nil 0)
small_operands op (InOpcode r) h k = small_cons 0 _ _ (grind (arith, common_steps)) (small_nil 0)
small_operands op (InModrm reg a rm b) h k = small_cons 6 _ _ h (small_rm reg rm)

some_operands : (op : ℕ) (ops : Operands) → 1 ≤ length (operand_bytes op ops)
unfolding operand_bytes
some_operands op Bare = omega arith
some_operands op (InOpcode r) = omega arith
some_operands op (InModrm reg a rm b) = omega arith

-- what stands before them
small_prefix : (p : ℕ) → p < 256 → Small 1 (prefix_bytes p)
unfolding prefix_bytes
small_prefix p h = cond_both (nat_eq p 0) _ _ (λ xs. Small 1 xs) (λ e. small_nil 1) (λ e. small_cons 0 _ _ h (small_nil 0))

small_rex : (f : Bool) (bits : ℕ) → bits < 16 → Small 1 (rex_bytes f bits)
unfolding rex_bytes
small_rex f bits h = cond_both (nat_eq bits 0 && not f) _ _ (λ xs. Small 1 xs) (λ e. small_nil 1) (λ e. small_cons 0 _ _ (omega arith) (small_nil 0))

small_escape : (e : Bool) → Small 1 (escape_bytes e)
unfolding escape_bytes
small_escape true = small_cons 0 _ _ (omega arith) (small_nil 0)
small_escape false = small_nil 1

-- prefix and opcode are bytes
pub record Codes (l : Layout) : Type 0 where
  pub prefix : l.prefix < 256
  pub opcode : l.opcode < 256

alu_digit-lt : (op : ℕ) → alu_digit op < 8
alu_digit-lt op = grind (arith, common_steps)

codes_small : (p op : ℕ) (w e : Bool) (ops : Operands) (z : ℤ) (n : ℕ) → p < 256 → op < 256 → Codes (record { prefix = p; wide = w; escape = e; opcode = op; operands = ops; imm = z; imm_len = n })
codes_small p op w e ops z n h k = record { prefix = h; opcode = k }

codes : (i : Instr) → IsTrue (valid_of i) → Codes (layout_of i)
codes (MovTo w r rm) v = codes_small _ _ _ _ _ _ _ (grind (arith, common_steps)) (grind (arith, common_steps))
codes (MovFrom w r m) v = codes_small _ _ _ _ _ _ _ (grind (arith, common_steps)) (grind (arith, common_steps))
codes (MovMemImm w m imm) v = codes_small _ _ _ _ _ _ _ (grind (arith, common_steps)) (grind (arith, common_steps))
codes (MovImm w r imm) v =
    cond_both (is_wide w) _ _ (λ l. Codes l)
    (λ e. cond_both (fits_32 imm) _ _ (λ l. Codes l) (λ f. codes_small _ _ _ _ _ _ _ (omega arith) (omega arith)) (λ f. codes_small _ _ _ _ _ _ _ (omega arith) (omega arith)))
    (λ e. codes_small _ _ _ _ _ _ _ (omega arith) (omega arith))
codes (Movzx f r rm) v = codes_small _ _ _ _ _ _ _ (omega arith) (grind (arith, common_steps))
codes (Movsx w f r rm) v = codes_small _ _ _ _ _ _ _ (omega arith) (grind (arith, common_steps))
codes (AluTo op w r rm) v = codes_small _ _ _ _ _ _ _ (omega arith) (omega (arith, alu_digit-lt op))
codes (AluFrom op w r m) v = codes_small _ _ _ _ _ _ _ (omega arith) (omega (arith, alu_digit-lt op))
codes (AluImm op w rm imm) v =
    cond_both (fits_8 imm) _ _ (λ l. Codes l) (λ f. codes_small _ _ _ _ _ _ _ (omega arith) (omega arith)) (λ f. codes_small _ _ _ _ _ _ _ (omega arith) (omega arith))
codes (Set c rm) v = codes_small _ _ _ _ _ _ _ (omega arith) (grind (arith, common_steps))
codes (CallRel b rel) v = codes_small _ _ _ _ _ _ _ (grind (arith, common_steps)) (omega arith)
codes (JmpRel b rel) v = codes_small _ _ _ _ _ _ _ (grind (arith, common_steps)) (omega arith)
codes (CallRm b rm) v = codes_small _ _ _ _ _ _ _ (grind (arith, common_steps)) (omega arith)
codes (JmpRm b rm) v = codes_small _ _ _ _ _ _ _ (grind (arith, common_steps)) (omega arith)
codes (Jcc b c rel) v = codes_small _ _ _ _ _ _ _ (grind (arith, common_steps)) (grind (arith, common_steps))
codes (Ret b) v = codes_small _ _ _ _ _ _ _ (grind (arith, common_steps)) (omega arith)
codes i v = record { prefix = omega arith; opcode = omega arith }

tail-le : (a b c d : ℕ) → 1 ≤ c → 1 ≤ a + (b + (d + c))
tail-le a b c d h = omega arith

short_bytes : (l : Layout) → Codes l → IsWritable l → IsShortCode (bytes_of l)
short_bytes l c k =
    let o = small_operands l.opcode l.operands c.opcode k.opcode in
    let t = small_append (room_for l.operands) l.imm_len (operand_bytes l.opcode l.operands) (low_bytes l.imm_len l.imm) o (small_low l.imm_len l.imm) in
    let u = small_append 1 (room_for l.operands + l.imm_len) (escape_bytes l.escape) (operand_bytes l.opcode l.operands ++ low_bytes l.imm_len l.imm) (small_escape l.escape) t in
    let x = small_append 1 (1 + (room_for l.operands + l.imm_len)) (rex_bytes (forces_rex l.operands) (rex_bits l.wide l.operands)) (escape_bytes l.escape ++ (operand_bytes l.opcode l.operands ++ low_bytes l.imm_len l.imm)) (small_rex (forces_rex l.operands) (rex_bits l.wide l.operands) k.rex) u in
    let w = small_append 1 (1 + (1 + (room_for l.operands + l.imm_len))) (prefix_bytes l.prefix) (rex_bytes (forces_rex l.operands) (rex_bits l.wide l.operands) ++ (escape_bytes l.escape ++ (operand_bytes l.opcode l.operands ++ low_bytes l.imm_len l.imm))) (small_prefix l.prefix c.prefix) x in
    record {
      some = omega (arith, some_operands l.opcode l.operands, length-append (operand_bytes l.opcode l.operands) (low_bytes l.imm_len l.imm), length-append (escape_bytes l.escape) (operand_bytes l.opcode l.operands ++ low_bytes l.imm_len l.imm), length-append (rex_bytes (forces_rex l.operands) (rex_bits l.wide l.operands)) (escape_bytes l.escape ++ (operand_bytes l.opcode l.operands ++ low_bytes l.imm_len l.imm)), length-append (prefix_bytes l.prefix) (rex_bytes (forces_rex l.operands) (rex_bits l.wide l.operands) ++ (escape_bytes l.escape ++ (operand_bytes l.opcode l.operands ++ low_bytes l.imm_len l.imm))));
      most = let m = w.most in let r = k.room in omega arith;
      bytes = w.bytes;
    }

pub spelling-short : SpellingsAreShort
spelling-short i v = short_bytes (layout_of i) (codes i v) (layout_of-IsWritable i v)
