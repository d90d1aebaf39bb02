-- Which pieces are instructions wherever they stand.
use Rattle.std.specs.Prelude.{IsTrue, pos, negsuc, ◌-ℤ◌, nat_lt}
use Rattle.std.specs.List.{AllByRecursion}
use Rattle.std.proofs.Common.{◌≡◌, refl, sym, subst, ℕ, zero, suc, ◌+◌, ◌-◌, ◌*◌, ◌^◌, ◌<◌, ◌&&◌, inl, inr, Bool, true, false, if◌then◌else◌, List, [], ◌∷◌, ◌++◌, arith}
use Rattle.std.proofs.lemmas.Bool.{cases_lt, lt-ltb, le-ltb}
use Rattle.std.proofs.lemmas.Int.{ints}
use Rattle.mx_base.specs.declared.numbers.IntKind.{IntKind}
use Rattle.mx_base.specs.declared.numbers.IntKind.TheVariants.{I8, U8, I16, U16, I32, U32, I64, U64}
use Rattle.mx_base.specs.declared.operators.Comparison.{Comparison}
use Rattle.mx_base.specs.declared.operators.Comparison.TheVariants.{Less, LessOrEqual, Greater, GreaterOrEqual, Equal, NotEqual}
use Rattle.mx_base.specs.declared.services.CService.{CService}
use Rattle.mx_base.specs.declared.services.CService.TheVariants as in_c
use Rattle.mx_base.specs.Numbers.{as_signed, is_signed}
use Rattle.x86_forms.specs.declared.instr.Instr.{Instr}
use Rattle.x86_forms.specs.declared.instr.Instr.TheVariants.{MovImm, ShiftCl, Set}
use Rattle.x86_forms.specs.Examples.{reg, in_reg}
use Rattle.x86_forms.specs.Fits.{fits_32, fits_64}
use Rattle.x86_forms.specs.Validity.{valid_of}
use Rattle.step_code.specs.declared.homes.Home.{Home}
use Rattle.step_code.specs.declared.homes.Home.TheVariants.{Reg, Slot, Bnd}
use Rattle.step_code.specs.declared.pieces.Piece.{Piece}
use Rattle.step_code.specs.declared.pieces.Piece.TheVariants.{Plain, LoadSlot, KeepSlot, LoadBounds, KeepBounds, Read, Write, Go, GoIf, CallTo}
use Rattle.step_code.specs.Bytes.{size_of_piece, size_of_pieces, AllValid}
use Rattle.step_code.specs.Pieces.{instr_of, relative}
use Rattle.step_code.specs.Steps.{get, put, get_bounds, put_bounds, extend_instr, word_imm, arg_reg, shift_width, right_shift, is_narrow, condition, service_number}
use Rattle.reg_assign.specs.Homes.{IsNamed}

-- ---- numbers

distance_fits : (a b : ℕ) → a < 2 ^ 31 → b < 2 ^ 31 → IsTrue (fits_32 (pos a -ℤ pos b))
distance_fits a b low also = elim (cases_lt a b) [
  | inl less ↦ let e : pos a -ℤ pos b ≡ negsuc (b - a - 1) = omega (arith, ints) in
      subst (λ z. IsTrue (fits_32 z)) (sym e) (lt-ltb (b - a - 1) (2 ^ 31) (omega (arith, also)))
  | inr more ↦ let e : pos a -ℤ pos b ≡ pos (a - b) = omega (arith, ints) in
      subst (λ z. IsTrue (fits_32 z)) (sym e) (lt-ltb (a - b) (2 ^ 31) (omega (arith, low)))
]

pub near : (a b : ℕ) → a < 2 ^ 31 → b < 2 ^ 31 → IsTrue (fits_32 (relative a b))
near a b low also = distance_fits a b low also

pub size_fits : (size : ℕ) → size < 2 ^ 31 → IsTrue (fits_32 (pos size -ℤ pos 1))
size_fits size low = distance_fits size 1 low (omega arith)

pub word_fits : (n : ℕ) → n < 2 ^ 64 → IsTrue (fits_64 (word_imm n))
unfolding as_signed
word_fits n low = elim (cases_lt n (2 ^ 63)) [
  | inl less ↦ subst (λ b. IsTrue (fits_64 (if b then pos n else negsuc (2 ^ 64 - 1 - n)))) (sym (lt-ltb n (2 ^ 63) less)) (lt-ltb n (2 ^ 63) less)
  | inr more ↦ subst (λ b. IsTrue (fits_64 (if b then pos n else negsuc (2 ^ 64 - 1 - n)))) (sym (le-ltb n (2 ^ 63) more)) (lt-ltb (2 ^ 64 - 1 - n) (2 ^ 63) (omega (arith, more)))
]

-- ---- instructions

pub extend_valid : (kind : IntKind) (r : ℕ) → nat_lt r 16 ≡ true → IsTrue (valid_of (extend_instr kind r))
extend_valid I8 r few = λ i. few i && few i
extend_valid U8 r few = λ i. few i && few i
extend_valid I16 r few = λ i. few i && few i
extend_valid U16 r few = λ i. few i && few i
extend_valid I32 r few = λ i. few i && few i
extend_valid U32 r few = λ i. few i && few i
extend_valid I64 r few = λ i. few i && few i
extend_valid U64 r few = λ i. few i && few i

shift_by : (op : ℕ) (narrow : Bool) → nat_lt op 3 ≡ true → IsTrue (valid_of (ShiftCl op (if narrow then 32 else 64) (in_reg 0)))
shift_by op true few = λ i. few i && true && true
shift_by op false few = λ i. few i && true && true

pub left_valid : (kind : IntKind) → IsTrue (valid_of (ShiftCl 0 (shift_width kind) (in_reg 0)))
left_valid kind = shift_by 0 (is_narrow kind) refl

right_by : (signed narrow : Bool) → IsTrue (valid_of (ShiftCl (if signed then 2 else 1) (if narrow then 32 else 64) (in_reg 0)))
right_by true narrow = shift_by 2 narrow refl
right_by false narrow = shift_by 1 narrow refl

pub right_valid : (kind : IntKind) → IsTrue (valid_of (ShiftCl (right_shift kind) (shift_width kind) (in_reg 0)))
right_valid kind = right_by (is_signed kind) (is_narrow kind)

pub set_valid : (op : Comparison) (signed : Bool) → IsTrue (valid_of (Set (condition op signed) (in_reg 0)))
set_valid Less true = refl
set_valid Less false = refl
set_valid LessOrEqual true = refl
set_valid LessOrEqual false = refl
set_valid Greater true = refl
set_valid Greater false = refl
set_valid GreaterOrEqual true = refl
set_valid GreaterOrEqual false = refl
set_valid Equal signed = refl
set_valid NotEqual signed = refl

pub service_valid : (service : CService) → IsTrue (valid_of (MovImm 64 (reg 0) (pos (service_number service))))
service_valid in_c.Print = refl
service_valid in_c.Put = refl
service_valid in_c.Get = refl
service_valid in_c.Alloc = refl
service_valid in_c.Free = refl
service_valid in_c.Exit = refl

pub argument_few : (i : ℕ) → nat_lt (arg_reg i) 16 ≡ true
argument_few zero = refl
argument_few (suc zero) = refl
argument_few (suc (suc zero)) = refl
argument_few (suc (suc (suc zero))) = refl
argument_few (suc (suc (suc (suc zero)))) = refl
argument_few (suc (suc (suc (suc (suc n))))) = refl

-- ---- pieces

module _ (label_at entry_at : ℕ → ℕ) where
  -- below 2^31 a piece is an instruction
  abbrev pub IsSound : Piece → Type 0
  IsSound p = (next : ℕ) → next < 2 ^ 31 → IsTrue (valid_of (instr_of label_at entry_at next p))

  abbrev pub AreSound : List Piece → Type 0
  AreSound ps = AllByRecursion IsSound ps

  pub all_valid : (ps : List Piece) (at : ℕ) → AreSound ps → at + size_of_pieces ps < 2 ^ 31 → AllValid label_at entry_at at ps
  all_valid [] at sound low = tt
  all_valid (p ∷ ps) at sound low = (sound.0 (at + size_of_piece p) (omega (arith, low)), all_valid ps (at + size_of_piece p) sound.1 (omega (arith, low)))

  pub both_sound : (ps qs : List Piece) → AreSound ps → AreSound qs → AreSound (ps ++ qs)
  both_sound [] qs sound more = more
  both_sound (p ∷ ps) qs sound more = (sound.0, both_sound ps qs sound.1 more)

  pub if_sound : (b : Bool) (ps qs : List Piece) → AreSound ps → AreSound qs → AreSound (if b then ps else qs)
  if_sound true ps qs sound more = sound
  if_sound false ps qs sound more = more

  pub plain_sound : (i : Instr) → IsTrue (valid_of i) → IsSound (Plain i)
  plain_sound i valid = λ next low. valid

  -- ---- words of the frame

  pub load_slot : (r k : ℕ) → nat_lt r 16 ≡ true → k < 1024 → IsSound (LoadSlot r k)
  load_slot r k few low = λ next less. (let word = lt-ltb (8 * k) (2 ^ 31) (omega (arith, low)) in λ i. few i && word i)

  pub keep_slot : (k r : ℕ) → k < 1024 → nat_lt r 16 ≡ true → IsSound (KeepSlot k r)
  keep_slot k r low few = λ next less. (let word = lt-ltb (8 * k) (2 ^ 31) (omega (arith, low)) in λ i. few i && word i)

  pub load_bounds : (b k : ℕ) → nat_lt b 4 ≡ true → k < 1024 → IsSound (LoadBounds b k)
  load_bounds b k few low = λ next less. (let word = lt-ltb (8 * k) (2 ^ 31) (omega (arith, low)) in λ i. few i && word i)

  pub keep_bounds : (k b : ℕ) → k < 1024 → nat_lt b 4 ≡ true → IsSound (KeepBounds k b)
  keep_bounds k b low few = λ next less. (let word = lt-ltb (8 * k) (2 ^ 31) (omega (arith, low)) in λ i. few i && word i)

  -- ---- homes

  pub get_sound : (r : ℕ) → nat_lt r 16 ≡ true → (h : Home) → IsNamed h → IsSound (get r h)
  get_sound r few (Reg q) named = λ next low. (let also = lt-ltb q 16 named in λ i. also i && few i)
  get_sound r few (Slot k) named = load_slot r k few (omega (arith, named))
  get_sound r few (Bnd b) named = λ next low. refl

  pub put_sound : (h : Home) → IsNamed h → (r : ℕ) → nat_lt r 16 ≡ true → IsSound (put h r)
  put_sound (Reg q) named r few = λ next low. (let also = lt-ltb q 16 named in λ i. few i && also i)
  put_sound (Slot k) named r few = keep_slot k r (omega (arith, named)) few
  put_sound (Bnd b) named r few = λ next low. refl

  pub get_bounds_sound : (b : ℕ) → nat_lt b 4 ≡ true → (h : Home) → IsNamed h → IsSound (get_bounds b h)
  get_bounds_sound b few (Reg q) named = λ next low. refl
  get_bounds_sound b few (Slot k) named = load_bounds b k few (omega (arith, named))
  get_bounds_sound b few (Bnd c) named = λ next low. (let also = lt-ltb c 4 named in λ i. few i && also i)

  pub put_bounds_sound : (h : Home) → IsNamed h → (b : ℕ) → nat_lt b 4 ≡ true → IsSound (put_bounds h b)
  put_bounds_sound (Reg q) named b few = λ next low. refl
  put_bounds_sound (Slot k) named b few = keep_bounds k b (omega (arith, named)) few
  put_bounds_sound (Bnd c) named b few = λ next low. (let also = lt-ltb c 4 named in λ i. also i && few i)

  -- ---- memory

  pub read_sound : (kind : IntKind) → IsSound (Read kind 0 0)
  read_sound I8 = λ next low. refl
  read_sound U8 = λ next low. refl
  read_sound I16 = λ next low. refl
  read_sound U16 = λ next low. refl
  read_sound I32 = λ next low. refl
  read_sound U32 = λ next low. refl
  read_sound I64 = λ next low. refl
  read_sound U64 = λ next low. refl

  pub write_sound : (kind : IntKind) → IsSound (Write kind 0 1)
  write_sound I8 = λ next low. refl
  write_sound U8 = λ next low. refl
  write_sound I16 = λ next low. refl
  write_sound U16 = λ next low. refl
  write_sound I32 = λ next low. refl
  write_sound U32 = λ next low. refl
  write_sound I64 = λ next low. refl
  write_sound U64 = λ next low. refl

  -- ---- jumps and calls

  pub go_sound : (n : ℕ) → label_at n < 2 ^ 31 → IsSound (Go n)
  go_sound n low = λ next less. near (label_at n) next low less

  pub go_if_sound : (n : ℕ) → label_at n < 2 ^ 31 → IsSound (GoIf 5 n)
  go_if_sound n low = λ next less. near (label_at n) next low less

  pub call_sound : (symbol : ℕ) → entry_at symbol < 2 ^ 31 → IsSound (CallTo symbol)
  call_sound symbol low = λ next less. near (entry_at symbol) next low less
