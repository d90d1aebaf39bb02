-- What is known of a state when these bytes have led to it.
use Rattle.std.proofs.Common.{◌≡◌, ◌<◌, ◌/◌, ◌%◌, true, false, Bool, ℕ, nat_eq, ℤ, refl, List, [], ◌∷◌, ◌++◌, length, take}
use Rattle.std.specs.Prelude.{Option, if◌then◌else◌, ◌⊎◌, ◌||◌, not}
use Rattle.std.specs.List.{All}
use Rattle.x86_forms.specs.declared.instr.Reg.{Reg}
use Rattle.x86_forms.specs.declared.instr.Base.{Base}
use Rattle.x86_forms.specs.declared.instr.Rm.{Rm}
use Rattle.x86_forms.specs.Fits.{fits_8, fits_32}
use Rattle.x86_forms.specs.Spelling.{Spells, prefix_bytes, rm_bytes, low_bytes}
use Rattle.x86_decode.specs.declared.rows.Row.{Row}
use Rattle.x86_decode.specs.declared.states.Head.{Head}
use Rattle.x86_decode.specs.declared.states.State.{State}
use Rattle.x86_decode.specs.declared.states.State.TheVariants.{Start, Prefix, Rex, Escape, ModRm, Sib, Disp, Imm}
use Rattle.x86_decode.specs.declared.states.Next.{Next}
use Rattle.x86_decode.specs.declared.states.Next.TheVariants.{Dead, Go, End}
use Rattle.x86_decode.specs.Rows.{build, imm_len}
use Rattle.x86_decode.specs.Steps.{live_rex, rex_r, opcode_step, reg_field, mem, disp_len, disp_fine, imm_fine}
use Rattle.x86_decode.proofs.Builds.{imm_fits}
use Rattle.x86_decode.proofs.Keys.{row_ok}
use Rattle.x86_decode.proofs.ModrmSteps.{FitsMem}
use Rattle.x86_decode.proofs.Parts.{rex_part}
use Rattle.x86_decode.proofs.ReadFront.{IsPrefix, IsRex}
use Rattle.x86_decode.proofs.ReadOperands.{FitsRm}
use Rattle.x86_decode.proofs.Written.{HeadOk, ModOk, head_bytes}

abbrev pub AreBytes : List ℕ → Type 0
AreBytes xs = All (λ b. b < 256) xs

-- 0F may follow
abbrev pub escapes : ℕ → ℕ → Bool
escapes p rex = not (nat_eq p 0x66) || nat_eq (rex_r rex) 0

pub record RexOk (p rex : ℕ) (read : List ℕ) : Type 0 where
  pub prefix : IsPrefix p
  pub rex_byte : rex / 16 ≡ 4
  pub live : live_rex p rex ≡ true
  pub bytes : read ≡ prefix_bytes p ++ (rex ∷ [])

pub record EscapeOk (p rex : ℕ) (read : List ℕ) : Type 0 where
  pub prefix : IsPrefix p
  pub rex_fits : IsRex p rex
  pub escape : escapes p rex ≡ true
  pub bytes : read ≡ prefix_bytes p ++ (rex_part rex ++ (0x0F ∷ []))

pub record ModrmOk (h : Head) (row : Row) (read : List ℕ) : Type 0 where
  pub head : HeadOk h row
  pub modrm : ModOk h row
  pub begins : opcode_step h.prefix h.rex h.escape h.opcode ≡ Go (ModRm h row)
  pub small : h.opcode < 256
  pub bytes : read ≡ head_bytes h

pub record SibOk (h : Head) (row : Row) (m : ℕ) (read : List ℕ) : Type 0 where
  pub head : HeadOk h row
  pub modrm : ModOk h row
  pub operands : FitsMem h row (reg_field h m)
  pub small : m < 256
  pub low : nat_eq (m % 8) 4 ≡ true
  pub memory : nat_eq (m / 64) 3 ≡ false
  pub bytes : read ≡ head_bytes h ++ (m ∷ [])

-- the operands have been read, and these bytes are theirs
pub record Spelled (h : Head) (row : Row) (reg : ℕ) (rm : Rm) (read : List ℕ) : Type 0 where
  pub fits : FitsRm h row reg rm
  pub bytes : read ≡ head_bytes h ++ rm_bytes reg rm

abbrev pub disp_fits : ℕ → ℤ → Bool
disp_fits mode d = if nat_eq mode 1 then fits_8 d else fits_32 d

pub record DispOk (h : Head) (row : Row) (reg mode : ℕ) (base : Base) (index : Option (Reg × ℕ)) (free : Bool) (have : ℕ) (cells read : List ℕ) : Type 0 where
  pub head : HeadOk h row
  pub modrm : ModOk h row
  pub front : List ℕ
  pub bytes : read ≡ front ++ take have cells
  pub four : length cells ≡ 4
  pub small : AreBytes cells
  pub part : have < disp_len mode
  pub free_mode : nat_eq mode 0 ≡ true → free ≡ true
  pub spelled : (d : ℤ) → disp_fits mode d ≡ true → disp_fine free mode d ≡ true → Spelled h row reg (mem base index d) (front ++ low_bytes (disp_len mode) d)

-- whatever immediate follows, the bytes with it are the spelling
abbrev pub Awaits : Row → ℕ → Rm → List ℕ → Type 0
Awaits row reg rm front = (z : ℤ) → imm_fits row z ≡ true → imm_fine row z ≡ true → Spells (front ++ low_bytes (imm_len row) z) (build row reg rm z)

pub record ImmOk (row : Row) (reg : ℕ) (rm : Rm) (have : ℕ) (cells read : List ℕ) : Type 0 where
  pub ok : row_ok row ≡ true
  pub front : List ℕ
  pub bytes : read ≡ front ++ take have cells
  pub eight : length cells ≡ 8
  pub small : AreBytes cells
  pub part : have < imm_len row
  pub awaits : Awaits row reg rm front

abbrev pub Reached : State → List ℕ → Type 0
Reached Start read = read ≡ []
Reached (Prefix p) read = ((p ≡ 0x66) ⊎ ((p ≡ 0xF2) ⊎ (p ≡ 0xF3))) × (read ≡ p ∷ [])
Reached (Rex p rex) read = RexOk p rex read
Reached (Escape p rex) read = EscapeOk p rex read
Reached (ModRm h row) read = ModrmOk h row read
Reached (Sib h row m) read = SibOk h row m read
Reached (Disp h row reg mode base index free have cells) read = DispOk h row reg mode base index free have cells read
Reached (Imm h row reg rm have cells) read = ImmOk row reg rm have cells read

abbrev pub LeadsTo : List ℕ → Next → Type 0
LeadsTo read Dead = Unit {0}
LeadsTo read (Go s) = Reached s read
LeadsTo read (End i) = Spells read i

-- these bytes lead there
pub record Leads (read : List ℕ) (x : Next) : Type 0 where
  pub leads : LeadsTo read x

pub leads-dead : (read : List ℕ) → Leads read Dead
leads-dead read = record { leads = tt }

pub both : (read : List ℕ) (b : Bool) (x y : Next) → (b ≡ true → Leads read x) → (b ≡ false → Leads read y) → Leads read (if b then x else y)
both read true x y h k = h refl
both read false x y h k = k refl
