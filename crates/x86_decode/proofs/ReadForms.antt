-- The four ways in which a row with ModRM is reached: plain, behind 66, behind F2 or F3, and behind 66 and 0F.
use Rattle.std.proofs.Common.{◌≡◌, ◌<◌, ◌%◌, IsTrue, true, false, Bool, ℕ, arith, ℤ, refl, ◌∙◌, inl, inr}
use Rattle.std.specs.Prelude.{Some, ◌||◌}
use Rattle.std.proofs.lemmas.Grind.{common_steps}
use Rattle.x86_forms.specs.declared.instr.Instr.{Instr}
use Rattle.x86_forms.specs.declared.instr.Base.{Base}
use Rattle.x86_forms.specs.declared.instr.Base.TheVariants.{None as NoBase, Reg as BaseReg, Rip}
use Rattle.x86_forms.specs.declared.instr.Rm.{Rm}
use Rattle.x86_forms.specs.declared.instr.Rm.TheVariants.{Reg as InReg, Mem as InMem}
use Rattle.x86_forms.specs.Spelling.{bytes_of, spelling, low_bytes}
use Rattle.x86_forms.specs.Validity.{rm_ok}
use Rattle.x86_decode.specs.declared.rows.Row.{Row}
use Rattle.x86_decode.specs.declared.states.Head.{Head}
use Rattle.x86_decode.specs.declared.states.State.TheVariants.{Start}
use Rattle.x86_decode.specs.declared.states.Next.TheVariants.{Go, End}
use Rattle.x86_decode.specs.Rows.{row_of, build, is_bare, is_in_opcode, any_reg, takes, takes_reg, allows_rip, allows_no_base}
use Rattle.x86_decode.specs.Steps.{key_of, done}
use Rattle.x86_decode.proofs.Feed.{feed}
use Rattle.x86_decode.proofs.ReadOperands.{rm_form, base_form}
use Rattle.x86_decode.proofs.ReadRex.{Takes, forced}
use Rattle.x86_decode.proofs.ReadModrm.{is_opcode, layout_for, read_modrm, rex_plain, rex_66, rex_bnd, high_zero}

-- the spelling is read as the instruction
abbrev pub ReadsAgain : Instr → Type 0
ReadsAgain i = feed (spelling i) (Go Start) ≡ End i

-- behind the operands the immediate is read, and the row's instruction is complete
abbrev pub Completes : Row → ℕ → Rm → ℕ → ℤ → Type 0
Completes row g rm n imm = (h : Head) → feed (low_bytes n imm) (done h row g rm) ≡ End (build row g rm imm)

pub read_plain : (w e : Bool) (op : ℕ) (row : Row) (g : ℕ) (rm : Rm) (n : ℕ) (imm : ℤ) → (e || is_opcode op) ≡ true → row_of 0 w e (key_of e op) ≡ Some row → Takes row g rm
    → Completes row g rm n imm → feed (bytes_of (layout_for 0 w e op row g rm n imm)) (Go Start) ≡ End (build row g rm imm)
read_plain w true op row g rm n imm o b t c =
    read_modrm 0 w true op row g rm n imm (record { prefix = inl refl; opcode = refl; begins = b; takes = t; rex = rex_plain w row g rm t.small t.valid; high = refl }) ∙ c _
read_plain w false op row g rm n imm o b t c =
    read_modrm 0 w false op row g rm n imm (record { prefix = inl refl; opcode = o; begins = b; takes = t; rex = rex_plain w row g rm t.small t.valid; high = refl }) ∙ c _

pub read_66 : (op : ℕ) (row : Row) (g : ℕ) (rm : Rm) (n : ℕ) (imm : ℤ) → is_opcode op ≡ true → row_of 0x66 false false (key_of false op) ≡ Some row → Takes row g rm → forced row g rm ≡ false
    → Completes row g rm n imm → feed (bytes_of (layout_for 0x66 false false op row g rm n imm)) (Go Start) ≡ End (build row g rm imm)
read_66 op row g rm n imm o b t f c =
    read_modrm 0x66 false false op row g rm n imm (record { prefix = inr (inl refl); opcode = o; begins = b; takes = t; rex = rex_66 row g rm f t.small t.valid; high = refl }) ∙ c _

pub read_66_bnd : (op : ℕ) (row : Row) (g : ℕ) (rm : Rm) (n : ℕ) (imm : ℤ) → row_of 0x66 false true (key_of true op) ≡ Some row → Takes row g rm → forced row g rm ≡ false → g < 8
    → Completes row g rm n imm → feed (bytes_of (layout_for 0x66 false true op row g rm n imm)) (Go Start) ≡ End (build row g rm imm)
read_66_bnd op row g rm n imm b t f s c =
    read_modrm 0x66 false true op row g rm n imm (record { prefix = inr (inl refl); opcode = refl; begins = b; takes = t; rex = rex_66 row g rm f t.small t.valid; high = high_zero false row g rm s t.valid }) ∙ c _

pub read_f2 : (e : Bool) (op : ℕ) (row : Row) (g : ℕ) (rm : Rm) (n : ℕ) (imm : ℤ) → (e || is_opcode op) ≡ true → row_of 0xF2 false e (key_of e op) ≡ Some row → Takes row g rm → forced row g rm ≡ false → g < 8
    → Completes row g rm n imm → feed (bytes_of (layout_for 0xF2 false e op row g rm n imm)) (Go Start) ≡ End (build row g rm imm)
read_f2 true op row g rm n imm o b t f s c =
    read_modrm 0xF2 false true op row g rm n imm (record { prefix = inr (inr (inl refl)); opcode = o; begins = b; takes = t; rex = rex_bnd 0xF2 row g rm refl refl f s t.valid; high = refl }) ∙ c _
read_f2 false op row g rm n imm o b t f s c =
    read_modrm 0xF2 false false op row g rm n imm (record { prefix = inr (inr (inl refl)); opcode = o; begins = b; takes = t; rex = rex_bnd 0xF2 row g rm refl refl f s t.valid; high = refl }) ∙ c _

pub read_f3 : (op : ℕ) (row : Row) (g : ℕ) (rm : Rm) (n : ℕ) (imm : ℤ) → row_of 0xF3 false true (key_of true op) ≡ Some row → Takes row g rm → forced row g rm ≡ false → g < 8
    → Completes row g rm n imm → feed (bytes_of (layout_for 0xF3 false true op row g rm n imm)) (Go Start) ≡ End (build row g rm imm)
read_f3 op row g rm n imm b t f s c =
    read_modrm 0xF3 false true op row g rm n imm (record { prefix = inr (inr (inr refl)); opcode = refl; begins = b; takes = t; rex = rex_bnd 0xF3 row g rm refl refl f s t.valid; high = refl }) ∙ c _

-- a row that takes memory of any kind
pub any_base : (row : Row) (b : Base) → allows_rip row ≡ true → allows_no_base row ≡ true → base_form row b ≡ true
any_base row NoBase h k = k
any_base row (BaseReg r) h k = refl
any_base row Rip h k = h

-- a row that takes any register too
pub any_rm : (row : Row) (rm : Rm) → ((r : ℕ) → takes_reg row r ≡ true) → allows_rip row ≡ true → allows_no_base row ≡ true → rm_form row rm ≡ true
any_rm row (InReg r) f h k = f r.0
any_rm row (InMem m) f h k = any_base row m.base h k

-- a register in the reg field
pub takes_register : (row : Row) (g : ℕ) (rm : Rm) → is_bare row ≡ false → is_in_opcode row ≡ false → any_reg row ≡ true → takes row (g % 8) ≡ true → rm_form row rm ≡ true → g < 16 → IsTrue (rm_ok rm) → Takes row g rm
takes_register row g rm b i a c f s v = record { bare = b; inside = i; high = grind (arith, common_steps); code = c; form = f; small = s; valid = v }

-- a digit or a bounds register there
pub takes_digit : (row : Row) (g : ℕ) (rm : Rm) → is_bare row ≡ false → is_in_opcode row ≡ false → takes row (g % 8) ≡ true → rm_form row rm ≡ true → g < 8 → IsTrue (rm_ok rm) → Takes row g rm
takes_digit row g rm b i c f s v = record { bare = b; inside = i; high = grind (arith, common_steps); code = c; form = f; small = omega arith; valid = v }
