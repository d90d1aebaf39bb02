-- A step within the limits has few pieces, and so few bytes.
use Rattle.std.proofs.Common.{ℕ, suc, ◌+◌, ◌*◌, ◌≤◌, Bool, true, false, Option, None, Some, List, [], ◌∷◌, length, arith, pos, if◌then◌else◌}
use Rattle.std.proofs.lemmas.List.{length-append}
use Rattle.mx_base.specs.declared.numbers.IntKind.{IntKind}
use Rattle.mx_base.specs.Numbers.{is_signed}
use Rattle.mx_base.specs.declared.operators.Arithmetic.{Arithmetic}
use Rattle.mx_base.specs.declared.operators.Arithmetic.TheVariants.{Mul, Div, Rem, Add, Sub, Shl, Shr, BitAnd, BitXor, BitOr}
use Rattle.x86_forms.specs.declared.instr.Instr.TheVariants.{MovTo, MovImm, Movzx, AluTo, Set, One, Wide}
use Rattle.x86_forms.specs.Examples.{reg, in_reg}
use Rattle.x86_forms.proofs.ShortCode.{spelling-short}
use Rattle.fat_ir.specs.declared.step.FatStep.{FatStep}
use Rattle.fat_ir.specs.declared.step.FatStep.TheVariants as s
use Rattle.fat_ir.specs.Step.{Located}
use Rattle.step_code.specs.declared.pieces.Piece.{Piece}
use Rattle.step_code.specs.declared.pieces.Piece.TheVariants.{Plain, CallTo}
use Rattle.step_code.specs.Pieces.{instr_of}
use Rattle.step_code.specs.Steps.{Plan, get, put, get_bounds, put_bounds, condition, lower, widen, is_narrow, extend_instr, operation, needs_words, load_two, load_args, put_number_at, put_pair_at}
use Rattle.step_code.specs.Bytes.{AllValid, AllStepsValid, size_of_piece, size_of_pieces, size_of_steps, places_of_step, places_of_steps}
use Rattle.step_code.proofs.Sizes.{piece_size}
use Rattle.asked_steps.specs.Alone.{IsLimited, AllLimited}

widen_few : (kind : IntKind) (r : ℕ) (rest : List Piece) → length (widen kind r rest) ≤ 1 + length rest
widen_few kind r rest = elim (is_narrow kind) as (λ b. length (if b then Plain (extend_instr kind r) ∷ rest else rest) ≤ 1 + length rest) [ true ↦ omega arith | false ↦ omega arith ]

operation_few : (op : Arithmetic) (kind : IntKind) (rest : List Piece) → length (operation op kind rest) ≤ 3 + length rest
operation_few Add kind rest = omega arith
operation_few Sub kind rest = omega arith
operation_few Mul kind rest = omega arith
operation_few BitAnd kind rest = omega arith
operation_few BitOr kind rest = omega arith
operation_few BitXor kind rest = omega arith
operation_few Shl kind rest = omega arith
operation_few Shr kind rest = omega arith
operation_few Div kind rest = elim (is_signed kind) as (λ b. length (if b then Plain (Wide 64) ∷ Plain (One 3 64 (in_reg 1)) ∷ rest
    else Plain (MovImm 64 (reg 2) (pos 0)) ∷ Plain (One 2 64 (in_reg 1)) ∷ rest) ≤ 3 + length rest) [ true ↦ omega arith | false ↦ omega arith ]
operation_few Rem kind rest = elim (is_signed kind) as (λ b. length (if b then Plain (Wide 64) ∷ Plain (One 3 64 (in_reg 1)) ∷ Plain (MovTo 64 (reg 2) (in_reg 0)) ∷ rest
    else Plain (MovImm 64 (reg 2) (pos 0)) ∷ Plain (One 2 64 (in_reg 1)) ∷ Plain (MovTo 64 (reg 2) (in_reg 0)) ∷ rest) ≤ 3 + length rest) [ true ↦ omega arith | false ↦ omega arith ]

module _ (p : Plan) where
  two_few : (words : Bool) (kind : IntKind) (a b : ℕ) (rest : List Piece) → length (load_two p words kind a b rest) ≤ 4 + length rest
  two_few true kind a b rest = let k = widen_few kind 1 rest in let h = widen_few kind 0 (get 1 (p.home b) ∷ widen kind 1 rest) in omega arith
  two_few false kind a b rest = omega arith

  args_few : (args : List (ℕ × Option ℕ)) (i j : ℕ) → length (load_args p args i j) ≤ 2 * length args
  args_few [] i j = omega arith
  args_few ((a, None) ∷ rest) i j = let h = args_few rest (suc i) j in omega arith
  args_few ((a, Some b) ∷ rest) i j = let h = args_few rest (suc i) (suc j) in omega arith

  pair_few : (bounds : Option ℕ) → length (put_pair_at p bounds) ≤ 1
  pair_few None = omega arith
  pair_few (Some v) = omega arith

  number_few : (to : Option ℕ) (rest : List Piece) → length (put_number_at p to rest) ≤ 1 + length rest
  number_few None rest = omega arith
  number_few (Some v) rest = omega arith

  module _ (located : ℕ → Located) (pointer : Bool) (returns : ℕ → Bool) (takes : ℕ → List (ℕ × Option ℕ) → Bool) where
    pieces_few : (step : FatStep) → IsLimited located pointer returns takes step → length (lower p step) ≤ 18
    pieces_few (s.Const to n) h = omega arith
    pieces_few (s.Copy to from) h = elim (p.is_bounds to) as (λ b. length (if b then get_bounds 0 (p.home from) ∷ put_bounds (p.home to) 0 ∷ [] else get 0 (p.home from) ∷ put (p.home to) 0 ∷ []) ≤ 18) [
      | true ↦ omega arith
      | false ↦ omega arith
    ]
    pieces_few (s.Arith to op kind a b) h = let last = Plain (extend_instr kind 0) ∷ put (p.home to) 0 ∷ [] in
        let k = operation_few op kind last in let t = two_few (needs_words op) kind a b (operation op kind last) in omega arith
    pieces_few (s.Compare to op kind a b) h =
        let t = two_few true kind a b (Plain (AluTo 5 64 (reg 1) (in_reg 0)) ∷ Plain (Set (condition op (is_signed kind)) (in_reg 0)) ∷ Plain (Movzx 8 (reg 0) (in_reg 0)) ∷ put (p.home to) 0 ∷ []) in omega arith
    pieces_few (s.Extend to from kind) h = omega arith
    pieces_few (s.Place to bounds symbol offset size) h = omega arith
    pieces_few (s.Make to q n) h = omega arith
    pieces_few (s.Meet to a b) h = omega arith
    pieces_few (s.Bound to from upper) h = omega arith
    pieces_few (s.Judge value size bounds write place) h = omega arith
    pieces_few (s.Load q to kind) h = omega arith
    pieces_few (s.Store q from kind) h = omega arith
    pieces_few (s.LoadPtr q to bounds) h = omega arith
    pieces_few (s.StorePtr q from bounds) h = omega arith
    pieces_few (s.Label n) h = omega arith
    pieces_few (s.Jump n) h = omega arith
    pieces_few (s.JumpIf from n) h = omega arith
    pieces_few (s.Call symbol args to bounds) h = let few = h.0 in let k = args_few args 0 0 in let m = pair_few bounds in let n = number_few to (put_pair_at p bounds) in
        let e = length-append (load_args p args 0 0) (CallTo symbol ∷ put_number_at p to (put_pair_at p bounds)) in omega arith
    pieces_few (s.Service service arg to) h = let n = number_few to [] in omega arith
    pieces_few (s.Give None None) h = omega arith
    pieces_few (s.Give None (Some b)) h = omega arith
    pieces_few (s.Give (Some from) None) h = omega arith
    pieces_few (s.Give (Some from) (Some b)) h = omega arith

    piece_short : (label_at entry_at : ℕ → ℕ) (at : ℕ) (ps : List Piece) → AllValid label_at entry_at at ps → size_of_pieces ps ≤ 15 * length ps
    piece_short label_at entry_at at [] v = omega arith
    piece_short label_at entry_at at (x ∷ ps) v = let e = piece_size label_at entry_at (at + size_of_piece x) x in
        let m = (spelling-short (instr_of label_at entry_at (at + size_of_piece x) x) v.0).most in
        let h = piece_short label_at entry_at (at + size_of_piece x) ps v.1 in omega arith

    pub steps_short : (label_at entry_at : ℕ → ℕ) (at : ℕ) (steps : List FatStep) → AllStepsValid p label_at entry_at at steps → AllLimited located pointer returns takes steps → size_of_steps p steps ≤ 270 * length steps
    steps_short label_at entry_at at [] v l = omega arith
    steps_short label_at entry_at at (step ∷ steps) v l = let a = piece_short label_at entry_at at (lower p step) v.0 in let b = pieces_few step l.0 in
        let h = steps_short label_at entry_at (at + size_of_pieces (lower p step)) steps v.1 l.1 in omega arith

  step_places : (at : ℕ) (step : FatStep) → length (places_of_step p at step) ≤ 2
  step_places at (s.Judge value size bounds write place) = omega arith
  step_places at _ = omega arith

  pub few_places : (at : ℕ) (steps : List FatStep) → length (places_of_steps p at steps) ≤ 2 * length steps
  few_places at [] = omega arith
  few_places at (step ∷ steps) = let a = step_places at step in let h = few_places (at + size_of_pieces (lower p step)) steps in
      let e = length-append (places_of_step p at step) (places_of_steps p (at + size_of_pieces (lower p step)) steps) in omega arith
