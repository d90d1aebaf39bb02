-- How arguments come into the homes of values, and how private variables begin.
use Rattle.mx_base.specs.declared.numbers.IntKind.{IntKind}
use Rattle.std.specs.Prelude.{◌≡◌, ◌≤◌, ◌<◌, nat_eq, Option, Some, ℕ, zero, suc, ◌+◌, ◌-◌, Bool, true, false, if◌then◌else◌, pos, negsuc, None, List, [], ◌∷◌}
use Rattle.x86_forms.specs.declared.instr.Base.TheVariants.{None as NoBase}
use Rattle.x86_forms.specs.declared.instr.Instr.TheVariants.{MovImm, Bndmk}
use Rattle.x86_forms.specs.Examples.{reg}
use Rattle.fat_ir.specs.Functions.{Parameter}
use Rattle.step_code.specs.Steps.{Plan, put, put_bounds, arg_reg}
use Rattle.step_code.specs.declared.homes.Home.{Home}
use Rattle.step_code.specs.declared.homes.Home.TheVariants.{Reg, Slot, Bnd}
use Rattle.step_code.specs.declared.pieces.Piece.{Piece}
use Rattle.step_code.specs.declared.pieces.Piece.TheVariants.{Plain, KeepSlot}

-- a private variable begins as 0, from rax, or with full bounds, whose two words are 0
abbrev pub unset_home : Bool → Home → List Piece → List Piece
unset_home false h rest = put h 0 ∷ rest
unset_home true (Slot k) rest = KeepSlot k 0 ∷ KeepSlot (k + 1) 0 ∷ rest
unset_home true (Bnd b) rest = Plain (Bndmk b (record { base = NoBase; index = None; disp = negsuc 0 })) ∷ rest
unset_home true (Reg r) rest = rest

abbrev pub unset_from : Plan → (x n : ℕ) → List Piece → List Piece
unset_from p x zero rest = rest
unset_from p x (suc n) rest = unset_home (p.is_bounds x) (p.home x) (unset_from p (suc x) n rest)

-- an argument comes from its register, and a pointer's bounds from theirs
abbrev pub home_argument : Plan → (x i b : ℕ) → (pointer : Bool) → List Piece → List Piece
home_argument p x i b true rest = put (p.home x) (arg_reg i) ∷ put_bounds (p.home (x + 1)) b ∷ rest
home_argument p x i b false rest = put (p.home x) (arg_reg i) ∷ rest

abbrev pub next_pair : Bool → ℕ → ℕ
next_pair true b = b + 1
next_pair false b = b

abbrev pub width_of : Bool → ℕ
width_of true = 2
width_of false = 1

-- the last argument comes first: so a home in the register of a later argument, as one in BND2 or BND3, holds none that is still to come
abbrev pub home_arguments : Plan → (home temp i b : ℕ) → List Parameter → List Piece → List Piece
home_arguments p home temp i b [] rest = rest
home_arguments p home temp i b (q ∷ qs) rest =
    if q.private then home_arguments p (home + width_of q.pointer) temp (i + 1) (next_pair q.pointer b) qs (home_argument p home i b q.pointer rest)
    else home_arguments p home (temp + width_of q.pointer) (i + 1) (next_pair q.pointer b) qs (home_argument p temp i b q.pointer rest)

-- how many values the private ones of parameters have: the first
abbrev pub taken : List Parameter → ℕ
taken [] = 0
taken (q ∷ qs) = if q.private then width_of q.pointer + taken qs else taken qs

-- the arguments first, and then private variables that are no parameters
abbrev pub homing : Plan → (private : ℕ) → List Parameter → List Piece
homing p private parameters =
    home_arguments p 0 private 0 0 parameters (Plain (MovImm 64 (reg 0) (pos 0)) ∷ unset_from p (taken parameters) (private - taken parameters) [])

-- ---- what is asked of homes of parameters

module _ (p : Plan) (first : ℕ → ℕ) where
  -- a home that holds no argument before the i-th, and no bounds before the b-th
  abbrev pub Clear : (i b : ℕ) → Home → Type 0
  Clear i b (Reg r) = (j : ℕ) → j < i → nat_eq (arg_reg j) r ≡ false
  Clear i b (Slot k) = Unit {0}
  Clear i b (Bnd x) = (t : ℕ) → t < b → nat_eq t x ≡ false

  abbrev pub FineNumber : (x i b : ℕ) → Type 0
  FineNumber x i b = (first x ≤ 0) × (p.is_bounds x ≡ false) × Clear i b (p.home x)

  abbrev pub FinePair : (x i b : ℕ) → Type 0
  FinePair x i b = (first x ≤ 0) × (p.is_bounds x ≡ true) × Clear i b (p.home x)

  abbrev pub FineArgument : (x i b : ℕ) → Bool → Option IntKind → Type 0
  FineArgument x i b true None = FineNumber x i b × FinePair (x + 1) i b
  FineArgument x i b true (Some kind) = ⊥
  FineArgument x i b false None = ⊥
  FineArgument x i b false (Some kind) = FineNumber x i b

  abbrev pub FineOne : Bool → (home temp i b : ℕ) → Bool → Option IntKind → Type 0
  FineOne true home temp i b pointer s = FineArgument home i b pointer s
  FineOne false home temp i b pointer s = FineArgument temp i b pointer s

  -- what is asked of the homes of parameters: none holds an argument that is still to come
  abbrev pub FineArguments : (home temp i b : ℕ) → List Parameter → List (Option IntKind) → Type 0
  FineArguments home temp i b [] [] = Unit {0}
  FineArguments home temp i b [] (s ∷ ps) = ⊥
  FineArguments home temp i b (q ∷ qs) [] = ⊥
  FineArguments home temp i b (q ∷ qs) (s ∷ ps) =
      FineOne q.private home temp i b q.pointer s
      × FineArguments (if q.private then home + width_of q.pointer else home) (if q.private then temp else temp + width_of q.pointer) (i + 1) (next_pair q.pointer b) qs ps
