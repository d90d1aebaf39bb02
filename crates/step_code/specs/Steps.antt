-- Each kind of step as pieces, by the homes of its values. Only rax, rcx, rdx, BND0 and BND1 are used beside the homes, and the registers of
-- arguments before calls and services.
use Rattle.std.specs.Prelude.{ℕ, zero, suc, ◌+◌, ◌^◌, Bool, true, false, if◌then◌else◌, Option, None, Some, ℤ, pos, negsuc, ◌-ℤ◌, List, [], ◌∷◌, ◌++◌}
use Rattle.mx_base.specs.declared.numbers.IntKind.{IntKind}
use Rattle.mx_base.specs.declared.numbers.IntKind.TheVariants.{I8, U8, I16, U16, I32, U32, I64, U64}
use Rattle.mx_base.specs.Numbers.{as_signed, is_signed}
use Rattle.mx_base.specs.declared.operators.Arithmetic.{Arithmetic}
use Rattle.mx_base.specs.declared.operators.Arithmetic.TheVariants.{Mul, Div, Rem, Add, Sub, Shl, Shr, BitAnd, BitXor, BitOr}
use Rattle.mx_base.specs.declared.operators.Comparison.{Comparison}
use Rattle.mx_base.specs.declared.operators.Comparison.TheVariants.{Less, LessOrEqual, Greater, GreaterOrEqual, Equal, NotEqual}
use Rattle.mx_base.specs.declared.services.CService.{CService}
use Rattle.mx_base.specs.declared.services.CService.TheVariants as in_c
use Rattle.x86_forms.specs.declared.instr.Instr.{Instr}
use Rattle.x86_forms.specs.declared.instr.Base.TheVariants.{None as NoBase}
use Rattle.x86_forms.specs.declared.instr.Rm.TheVariants.{Mem as InMem}
use Rattle.x86_forms.specs.declared.instr.Instr.TheVariants.{MovTo, MovImm, Movsxd, Movzx, Movsx, AluTo, Imul, One, Wide, ShiftCl, Set, Test, Nop, Lea, Bndmk, Bndcl, Bndcu, BndmovFrom}
use Rattle.x86_forms.specs.Examples.{reg, in_reg, based, indexed}
use Rattle.fat_ir.specs.declared.step.FatStep.{FatStep}
use Rattle.fat_ir.specs.declared.step.FatStep.TheVariants as s
use Rattle.fat_ir.specs.Step.{Located, ObjectAt, FunctionAt}
use Rattle.step_code.specs.declared.homes.Home.{Home}
use Rattle.step_code.specs.declared.homes.Home.TheVariants.{Reg, Slot, Bnd}
use Rattle.step_code.specs.declared.pieces.Piece.{Piece}
use Rattle.step_code.specs.declared.pieces.Piece.TheVariants.{Plain, LoadSlot, KeepSlot, LoadBounds, KeepBounds, LoadCell, Read, Write, LoadPair, KeepPair, Go, GoIf, Hop, Serve, CallTo}

-- ---- values from their homes and to them

abbrev pub get : ℕ → Home → Piece
get r (Reg q) = Plain (MovTo 64 (reg q) (in_reg r))
get r (Slot k) = LoadSlot r k
get r (Bnd b) = Plain Nop

abbrev pub put : Home → ℕ → Piece
put (Reg q) r = Plain (MovTo 64 (reg r) (in_reg q))
put (Slot k) r = KeepSlot k r
put (Bnd b) r = Plain Nop

abbrev pub get_bounds : ℕ → Home → Piece
get_bounds b (Reg q) = Plain Nop
get_bounds b (Slot k) = LoadBounds b k
get_bounds b (Bnd c) = Plain (BndmovFrom b (in_reg c))

abbrev pub put_bounds : Home → ℕ → Piece
put_bounds (Reg q) b = Plain Nop
put_bounds (Slot k) b = KeepBounds k b
put_bounds (Bnd c) b = Plain (BndmovFrom c (in_reg b))

-- ---- what a function's code goes by: the home of each value, and whether it is bounds; the first of four spare words of the frame; the label
-- of its end; whether it gives a pointer; and where symbols stand
pub record Plan : Type 0 where
  pub home : ℕ → Home
  pub is_bounds : ℕ → Bool
  pub spare : ℕ
  pub exit : ℕ
  pub pointer : Bool
  pub located : ℕ → Located

-- the machine's number of a service that C knows
abbrev pub service_number : CService → ℕ
service_number in_c.Print = 0x1002
service_number in_c.Put = 0x1003
service_number in_c.Get = 0x1004
service_number in_c.Alloc = 0x1000
service_number in_c.Free = 0x1001
service_number in_c.Exit = 60

-- a register made the number of a type that its low bits stand for
abbrev pub extend_instr : IntKind → ℕ → Instr
extend_instr I8 r = Movsx 64 8 (reg r) (in_reg r)
extend_instr U8 r = Movzx 8 (reg r) (in_reg r)
extend_instr I16 r = Movsx 64 16 (reg r) (in_reg r)
extend_instr U16 r = Movzx 16 (reg r) (in_reg r)
extend_instr I32 r = Movsxd (reg r) (in_reg r)
extend_instr U32 r = MovTo 32 (reg r) (in_reg r)
extend_instr I64 r = MovTo 64 (reg r) (in_reg r)
extend_instr U64 r = MovTo 64 (reg r) (in_reg r)

abbrev pub word_imm : ℕ → ℤ
word_imm n = as_signed (2 ^ 64) n

-- the registers of arguments, in order: rdi, rsi, rdx, rcx, r8, r9
abbrev pub arg_reg : ℕ → ℕ
arg_reg zero = 7
arg_reg (suc zero) = 6
arg_reg (suc (suc zero)) = 2
arg_reg (suc (suc (suc zero))) = 1
arg_reg (suc (suc (suc (suc zero)))) = 8
arg_reg (suc (suc (suc (suc (suc n))))) = 9

-- the greater of two words of the frame, in place of the first: it stays, by a jump over a move, if it is at least the second
abbrev pub greater_of : ℕ → ℕ → List Piece
greater_of j k = LoadSlot 0 j ∷ LoadSlot 1 k ∷ Plain (AluTo 5 64 (reg 1) (in_reg 0)) ∷ Hop 3 3 ∷ Plain (MovTo 64 (reg 1) (in_reg 0)) ∷ KeepSlot j 0 ∷ []

-- bounds that hold every address
abbrev pub full_instr : Instr
full_instr = Bndmk 0 (record { base = NoBase; index = None; disp = negsuc 0 })

abbrev pub located_piece : Located → Piece
located_piece (ObjectAt a) = Plain (MovImm 64 (reg 0) (pos a))
located_piece (FunctionAt a) = Plain (MovImm 64 (reg 0) (pos a))

abbrev pub located_bounds : Located → ℕ → Piece
located_bounds (ObjectAt a) size = Plain (Bndmk 0 (based 0 (pos size -ℤ pos 1)))
located_bounds (FunctionAt a) size = Plain full_instr

-- a function that ends without a value gives 0, with full bounds
abbrev pub end_pieces : List Piece
end_pieces = Plain (MovImm 64 (reg 0) (pos 0)) ∷ Plain full_instr ∷ []

-- ---- operators, on rax and rcx with the result in rax. Operands of a narrow type are first made words of 64 bits, so that an operation on
-- words of 64 bits serves all types, and its result is made a number of the type again

abbrev pub is_narrow : IntKind → Bool
is_narrow I64 = false
is_narrow U64 = false
is_narrow kind = true

abbrev pub widen : IntKind → ℕ → List Piece → List Piece
widen kind r rest = if is_narrow kind then Plain (extend_instr kind r) ∷ rest else rest

-- a shift by cl takes its count modulo the width of what it shifts, which is C's 32 for narrow types
abbrev pub shift_width : IntKind → ℕ
shift_width kind = if is_narrow kind then 32 else 64

-- sums and differences need no operands of the type: their low bits come from the low bits
abbrev pub needs_words : Arithmetic → Bool
needs_words Add = false
needs_words Sub = false
needs_words op = true

-- shl, sar or shr
abbrev pub right_shift : IntKind → ℕ
right_shift kind = if is_signed kind then 2 else 1

abbrev pub operation : Arithmetic → IntKind → List Piece → List Piece
operation Add kind rest = Plain (AluTo 0 64 (reg 1) (in_reg 0)) ∷ rest
operation Sub kind rest = Plain (AluTo 3 64 (reg 1) (in_reg 0)) ∷ rest
operation Mul kind rest = Plain (Imul 64 (reg 0) (in_reg 1)) ∷ rest
operation BitAnd kind rest = Plain (AluTo 2 64 (reg 1) (in_reg 0)) ∷ rest
operation BitOr kind rest = Plain (AluTo 1 64 (reg 1) (in_reg 0)) ∷ rest
operation BitXor kind rest = Plain (AluTo 4 64 (reg 1) (in_reg 0)) ∷ rest
operation Shl kind rest = Plain (ShiftCl 0 (shift_width kind) (in_reg 0)) ∷ rest
operation Shr kind rest = Plain (ShiftCl (right_shift kind) (shift_width kind) (in_reg 0)) ∷ rest
operation Div kind rest = if is_signed kind then Plain (Wide 64) ∷ Plain (One 3 64 (in_reg 1)) ∷ rest else Plain (MovImm 64 (reg 2) (pos 0)) ∷ Plain (One 2 64 (in_reg 1)) ∷ rest
operation Rem kind rest = if is_signed kind then Plain (Wide 64) ∷ Plain (One 3 64 (in_reg 1)) ∷ Plain (MovTo 64 (reg 2) (in_reg 0)) ∷ rest
    else Plain (MovImm 64 (reg 2) (pos 0)) ∷ Plain (One 2 64 (in_reg 1)) ∷ Plain (MovTo 64 (reg 2) (in_reg 0)) ∷ rest

-- the condition of a comparison: below, and for numbers with a sign less
abbrev pub condition : Comparison → Bool → ℕ
condition Less true = 12
condition Less false = 2
condition LessOrEqual true = 14
condition LessOrEqual false = 6
condition Greater true = 15
condition Greater false = 7
condition GreaterOrEqual true = 13
condition GreaterOrEqual false = 3
condition Equal s = 4
condition NotEqual s = 5

module _ (p : Plan) where
  abbrev pub load_arg : ℕ → Option ℕ → ℕ → ℕ → (ℕ → ℕ → List Piece) → List Piece
  load_arg a None i j rest = get (arg_reg i) (p.home a) ∷ rest (suc i) j
  load_arg a (Some b) i j rest = get (arg_reg i) (p.home a) ∷ get_bounds j (p.home b) ∷ rest (suc i) (suc j)

  -- two numbers in rax and rcx
  abbrev pub load_two : (words : Bool) → IntKind → (a b : ℕ) → List Piece → List Piece
  load_two true kind a b rest = get 0 (p.home a) ∷ widen kind 0 (get 1 (p.home b) ∷ widen kind 1 rest)
  load_two false kind a b rest = get 0 (p.home a) ∷ get 1 (p.home b) ∷ rest

  abbrev pub lower_arith : Arithmetic → IntKind → (to a b : ℕ) → List Piece
  lower_arith op kind to a b = load_two (needs_words op) kind a b (operation op kind (Plain (extend_instr kind 0) ∷ put (p.home to) 0 ∷ []))

  abbrev pub lower_compare : Comparison → IntKind → (to a b : ℕ) → List Piece
  lower_compare op kind to a b = load_two true kind a b (Plain (AluTo 5 64 (reg 1) (in_reg 0)) ∷ Plain (Set (condition op (is_signed kind)) (in_reg 0)) ∷ Plain (Movzx 8 (reg 0) (in_reg 0)) ∷ put (p.home to) 0 ∷ [])

  abbrev pub lower_give : Option ℕ → Option ℕ → List Piece
  lower_give (Some from) None = get 0 (p.home from) ∷ Go p.exit ∷ []
  lower_give (Some from) (Some b) = get 0 (p.home from) ∷ get_bounds 0 (p.home b) ∷ Go p.exit ∷ []
  lower_give None None = end_pieces ++ (Go p.exit ∷ [])
  lower_give None (Some b) = []

  -- arguments in their registers, and the bounds of the k-th pointer in BND(k-1)
  abbrev pub load_args : List (ℕ × Option ℕ) → (i j : ℕ) → List Piece
  load_args [] i j = []
  load_args (a ∷ rest) i j = load_arg a.0 a.1 i j (load_args rest)

  abbrev pub put_number_at : Option ℕ → List Piece → List Piece
  put_number_at None rest = rest
  put_number_at (Some v) rest = put (p.home v) 0 ∷ rest

  abbrev pub put_pair_at : Option ℕ → List Piece
  put_pair_at None = []
  put_pair_at (Some v) = put_bounds (p.home v) 0 ∷ []

  -- the address of a symbol, or of the data frame
  abbrev pub place_piece : Option ℕ → Piece
  place_piece None = LoadCell 0
  place_piece (Some symbol) = located_piece (p.located symbol)

  abbrev pub bounds_piece : Option ℕ → ℕ → Piece
  bounds_piece None size = Plain (Bndmk 0 (based 0 (pos size -ℤ pos 1)))
  bounds_piece (Some symbol) size = located_bounds (p.located symbol) size

  abbrev pub word_arg : Option ℕ → Piece
  word_arg None = Plain (MovImm 64 (reg 7) (pos 0))
  word_arg (Some v) = get 7 (p.home v)

  abbrev pub lower : FatStep → List Piece
  lower (s.Const to n) = Plain (MovImm 64 (reg 0) (word_imm n)) ∷ put (p.home to) 0 ∷ []
  lower (s.Copy to from) = if p.is_bounds to then get_bounds 0 (p.home from) ∷ put_bounds (p.home to) 0 ∷ [] else get 0 (p.home from) ∷ put (p.home to) 0 ∷ []
  lower (s.Arith to op kind a b) = lower_arith op kind to a b
  lower (s.Compare to op kind a b) = lower_compare op kind to a b
  lower (s.Extend to from kind) = get 0 (p.home from) ∷ Plain (extend_instr kind 0) ∷ put (p.home to) 0 ∷ []
  lower (s.Place to bounds symbol offset size) = place_piece symbol ∷ Plain (Lea (reg 0) (based 0 (pos offset))) ∷ put (p.home to) 0 ∷ bounds_piece symbol size ∷ put_bounds (p.home bounds) 0 ∷ []
  lower (s.Make to q n) = get 0 (p.home q) ∷ get 1 (p.home n) ∷ Plain (Bndmk 0 (indexed 0 1 1 (negsuc 0))) ∷ put_bounds (p.home to) 0 ∷ []
  lower (s.Meet to a b) = get_bounds 0 (p.home a) ∷ KeepBounds p.spare 0 ∷ get_bounds 0 (p.home b) ∷ KeepBounds (p.spare + 2) 0 ∷ (greater_of p.spare (p.spare + 2) ++ (greater_of (p.spare + 1) (p.spare + 3) ++ (LoadBounds 0 p.spare ∷ put_bounds (p.home to) 0 ∷ [])))
  lower (s.Bound to from upper) = get_bounds 0 (p.home from) ∷ KeepBounds p.spare 0 ∷ LoadSlot 0 (if upper then p.spare + 1 else p.spare) ∷ Plain (if upper then One 0 64 (in_reg 0) else Nop) ∷ put (p.home to) 0 ∷ []
  lower (s.Judge value size bounds write place) = get 0 (p.home value) ∷ get_bounds 0 (p.home bounds) ∷ Plain (Bndcl 0 (in_reg 0)) ∷ Plain (Bndcu 0 (InMem (based 0 (pos size -ℤ pos 1)))) ∷ []
  lower (s.Load q to kind) = get 0 (p.home q) ∷ Read kind 0 0 ∷ put (p.home to) 0 ∷ []
  lower (s.Store q from kind) = get 0 (p.home q) ∷ get 1 (p.home from) ∷ Write kind 0 1 ∷ []
  lower (s.LoadPtr q to bounds) = get 0 (p.home q) ∷ Read U64 1 0 ∷ LoadPair 0 0 1 ∷ put (p.home to) 1 ∷ put_bounds (p.home bounds) 0 ∷ []
  lower (s.StorePtr q from bounds) = get 0 (p.home q) ∷ get 1 (p.home from) ∷ Write U64 0 1 ∷ get_bounds 0 (p.home bounds) ∷ KeepPair 0 1 0 ∷ []
  lower (s.Label n) = []
  lower (s.Jump n) = Go n ∷ []
  lower (s.JumpIf from n) = get 0 (p.home from) ∷ Plain (Test 64 (reg 0) (in_reg 0)) ∷ GoIf 5 n ∷ []
  lower (s.Call symbol args to bounds) = load_args args 0 0 ++ (CallTo symbol ∷ put_number_at to (put_pair_at bounds))
  lower (s.Service service arg to) = word_arg arg ∷ Plain (MovImm 64 (reg 0) (pos (service_number service))) ∷ Serve ∷ put_number_at to []
  lower (s.Give from bounds) = lower_give from bounds
