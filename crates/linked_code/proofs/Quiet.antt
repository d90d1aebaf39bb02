-- Pieces that call nothing: their bytes are the same before the link and after it.
use Rattle.std.specs.Prelude.{ℤ, if◌then◌else◌}
use Rattle.std.proofs.Common.{◌≡◌, ℕ, zero, suc, ◌+◌, ◌-◌, Bool, true, false, Option, None, Some, List, [], ◌∷◌, ◌++◌, refl, arith, ap, ◌∙◌, sym, append_assoc}
use Rattle.std.proofs.lemmas.Int.{ints}
use Rattle.mx_base.specs.declared.numbers.IntKind.{IntKind}
use Rattle.mx_base.specs.declared.operators.Arithmetic.{Arithmetic}
use Rattle.mx_base.specs.declared.operators.Arithmetic.TheVariants.{Mul, Div, Rem, Add, Sub, Shl, Shr, BitAnd, BitXor, BitOr}
use Rattle.mx_base.specs.Numbers.{is_signed}
use Rattle.x86_forms.specs.declared.instr.Instr.{Instr}
use Rattle.x86_forms.specs.declared.instr.Instr.TheVariants.{JmpRel, Jcc}
use Rattle.x86_forms.specs.Spelling.{spelling}
use Rattle.fat_ir.specs.Functions.{Parameter}
use Rattle.step_code.specs.declared.homes.Home.{Home}
use Rattle.step_code.specs.declared.homes.Home.TheVariants.{Reg, Slot, Bnd}
use Rattle.step_code.specs.declared.pieces.Piece.{Piece}
use Rattle.step_code.specs.declared.pieces.Piece.TheVariants.{Plain, LoadSlot, KeepSlot, LoadBounds, KeepBounds, LoadCell, Read, Write, LoadPair, KeepPair, Go, GoIf, Hop, Serve, CallTo}
use Rattle.step_code.specs.Pieces.{instr_of, relative}
use Rattle.step_code.specs.Steps.{Plan, get, put, get_bounds, put_bounds, widen, is_narrow, operation, load_args, load_two, put_number_at, put_pair_at, word_arg}
use Rattle.step_code.specs.Homing.{unset_home, unset_from, home_argument, home_arguments, next_pair, width_of, taken, homing}
use Rattle.step_code.specs.Functions.{plain}
use Rattle.step_code.specs.Bytes.{size_of_piece, size_of_pieces, bytes_of_pieces}
use Rattle.code_emit.specs.Unlinked.{label_at, blank, unlinked_piece, unlinked_pieces}

abbrev pub CallsNone : Piece → Type 0
CallsNone (CallTo symbol) = ⊥
CallsNone p = Unit {0}

abbrev pub Quiet : List Piece → Type 0
Quiet [] = Unit {0}
Quiet (p ∷ ps) = CallsNone p × Quiet ps

-- ---- bytes, where labels have offsets in a part before the link, and addresses after it

module _ (labels : List ℕ) (code : ℕ) (entry_at : ℕ → ℕ) where
  abbrev pub linked_labels : ℕ → ℕ
  linked_labels k = code + label_at labels k

  distance : (target next end : ℕ) → end ≡ code + next → relative target next ≡ relative (code + target) end
  distance target next end is = omega (arith, ints)

  quiet_piece : (p : Piece) → CallsNone p → (next end : ℕ) → end ≡ code + next
      → spelling (instr_of (label_at labels) (λ symbol. 0) next (blank p)) ≡ spelling (instr_of linked_labels entry_at end p)
  quiet_piece (Plain i) quiet next end is = refl
  quiet_piece (LoadSlot r k) quiet next end is = refl
  quiet_piece (KeepSlot k r) quiet next end is = refl
  quiet_piece (LoadBounds b k) quiet next end is = refl
  quiet_piece (KeepBounds k b) quiet next end is = refl
  quiet_piece (LoadCell r) quiet next end is = refl
  quiet_piece (Read kind r p) quiet next end is = refl
  quiet_piece (Write kind p r) quiet next end is = refl
  quiet_piece (LoadPair b p v) quiet next end is = refl
  quiet_piece (KeepPair p v b) quiet next end is = refl
  quiet_piece (Go label) quiet next end is = ap (λ (z : ℤ). spelling (JmpRel true z)) (distance (label_at labels label) next end is)
  quiet_piece (GoIf code label) quiet next end is = ap (λ (z : ℤ). spelling (Jcc true code z)) (distance (label_at labels label) next end is)
  quiet_piece (Hop code skip) quiet next end is = refl
  quiet_piece Serve quiet next end is = refl
  quiet_piece (CallTo symbol) quiet next end is = absurd quiet

  pub quiet_bytes : (ps : List Piece) → Quiet ps → (at there : ℕ) → there ≡ code + at → unlinked_pieces labels at ps ≡ bytes_of_pieces linked_labels entry_at there ps
  quiet_bytes [] quiet at there is = refl
  quiet_bytes (p ∷ ps) quiet at there is =
      let next : there + size_of_piece p ≡ code + (at + size_of_piece p) = omega (arith, is) in
      λ i. quiet_piece p quiet.0 (at + size_of_piece p) (there + size_of_piece p) next i ++ quiet_bytes ps quiet.1 (at + size_of_piece p) (there + size_of_piece p) next i

pub unlinked_append : (labels : List ℕ) (at : ℕ) (ps qs : List Piece) → unlinked_pieces labels at (ps ++ qs) ≡ unlinked_pieces labels at ps ++ unlinked_pieces labels (at + size_of_pieces ps) qs
unlinked_append labels at [] qs = let none : at ≡ at + 0 = omega arith in ap (λ (n : ℕ). unlinked_pieces labels n qs) none
unlinked_append labels at (p ∷ ps) qs =
    let there : at + size_of_piece p + size_of_pieces ps ≡ at + (size_of_piece p + size_of_pieces ps) = omega arith in
    ap (λ (l : List ℕ). unlinked_piece labels at p ++ l) (unlinked_append labels (at + size_of_piece p) ps qs ∙ ap (λ (n : ℕ). unlinked_pieces labels (at + size_of_piece p) ps ++ unlinked_pieces labels n qs) there)
    ∙ sym (append_assoc (unlinked_piece labels at p) (unlinked_pieces labels (at + size_of_piece p) ps) (unlinked_pieces labels (at + (size_of_piece p + size_of_pieces ps)) qs))

pub bytes_append : (labels entry_at : ℕ → ℕ) (at : ℕ) (ps qs : List Piece) → bytes_of_pieces labels entry_at at (ps ++ qs) ≡ bytes_of_pieces labels entry_at at ps ++ bytes_of_pieces labels entry_at (at + size_of_pieces ps) qs
bytes_append labels entry_at at [] qs = let none : at ≡ at + 0 = omega arith in ap (λ (n : ℕ). bytes_of_pieces labels entry_at n qs) none
bytes_append labels entry_at at (p ∷ ps) qs =
    let there : at + size_of_piece p + size_of_pieces ps ≡ at + (size_of_piece p + size_of_pieces ps) = omega arith in
    let one = spelling (instr_of labels entry_at (at + size_of_piece p) p) in
    ap (λ (l : List ℕ). one ++ l) (bytes_append labels entry_at (at + size_of_piece p) ps qs ∙ ap (λ (n : ℕ). bytes_of_pieces labels entry_at (at + size_of_piece p) ps ++ bytes_of_pieces labels entry_at n qs) there)
    ∙ sym (append_assoc one (bytes_of_pieces labels entry_at (at + size_of_piece p) ps) (bytes_of_pieces labels entry_at (at + (size_of_piece p + size_of_pieces ps)) qs))

-- ---- which pieces are so

pub quiet_get : (r : ℕ) (h : Home) → CallsNone (get r h)
quiet_get r (Reg q) = tt
quiet_get r (Slot k) = tt
quiet_get r (Bnd b) = tt

pub quiet_put : (h : Home) (r : ℕ) → CallsNone (put h r)
quiet_put (Reg q) r = tt
quiet_put (Slot k) r = tt
quiet_put (Bnd b) r = tt

pub quiet_get_bounds : (b : ℕ) (h : Home) → CallsNone (get_bounds b h)
quiet_get_bounds b (Reg q) = tt
quiet_get_bounds b (Slot k) = tt
quiet_get_bounds b (Bnd c) = tt

pub quiet_put_bounds : (h : Home) (b : ℕ) → CallsNone (put_bounds h b)
quiet_put_bounds (Reg q) b = tt
quiet_put_bounds (Slot k) b = tt
quiet_put_bounds (Bnd c) b = tt

pub quiet_if : (b : Bool) (ps qs : List Piece) → Quiet ps → Quiet qs → Quiet (if b then ps else qs)
quiet_if true ps qs h k = h
quiet_if false ps qs h k = k

pub quiet_widen : (kind : IntKind) (r : ℕ) (rest : List Piece) → Quiet rest → Quiet (widen kind r rest)
quiet_widen kind r rest quiet = quiet_if (is_narrow kind) _ rest (tt, quiet) quiet

pub quiet_operation : (op : Arithmetic) (kind : IntKind) (rest : List Piece) → Quiet rest → Quiet (operation op kind rest)
quiet_operation Add kind rest quiet = (tt, quiet)
quiet_operation Sub kind rest quiet = (tt, quiet)
quiet_operation Mul kind rest quiet = (tt, quiet)
quiet_operation BitAnd kind rest quiet = (tt, quiet)
quiet_operation BitOr kind rest quiet = (tt, quiet)
quiet_operation BitXor kind rest quiet = (tt, quiet)
quiet_operation Shl kind rest quiet = (tt, quiet)
quiet_operation Shr kind rest quiet = (tt, quiet)
quiet_operation Div kind rest quiet = quiet_if (is_signed kind) _ _ (tt, (tt, quiet)) (tt, (tt, quiet))
quiet_operation Rem kind rest quiet = quiet_if (is_signed kind) _ _ (tt, (tt, (tt, quiet))) (tt, (tt, (tt, quiet)))

module _ (p : Plan) where
  pub quiet_two : (words : Bool) (kind : IntKind) (a b : ℕ) (rest : List Piece) → Quiet rest → Quiet (load_two p words kind a b rest)
  quiet_two true kind a b rest quiet = (quiet_get 0 (p.home a), quiet_widen kind 0 _ (quiet_get 1 (p.home b), quiet_widen kind 1 rest quiet))
  quiet_two false kind a b rest quiet = (quiet_get 0 (p.home a), (quiet_get 1 (p.home b), quiet))

  pub quiet_args : (args : List (ℕ × Option ℕ)) (i j : ℕ) → Quiet (load_args p args i j)
  quiet_args [] i j = tt
  quiet_args ((a, None) ∷ rest) i j = (quiet_get _ (p.home a), quiet_args rest (suc i) j)
  quiet_args ((a, Some b) ∷ rest) i j = (quiet_get _ (p.home a), (quiet_get_bounds j (p.home b), quiet_args rest (suc i) (suc j)))

  pub quiet_pair_at : (bounds : Option ℕ) → Quiet (put_pair_at p bounds)
  quiet_pair_at None = tt
  quiet_pair_at (Some v) = (quiet_put_bounds (p.home v) 0, tt)

  pub quiet_number_at : (to : Option ℕ) (rest : List Piece) → Quiet rest → Quiet (put_number_at p to rest)
  quiet_number_at None rest quiet = quiet
  quiet_number_at (Some v) rest quiet = (quiet_put (p.home v) 0, quiet)

  pub quiet_word_arg : (arg : Option ℕ) → CallsNone (word_arg p arg)
  quiet_word_arg None = tt
  quiet_word_arg (Some v) = quiet_get 7 (p.home v)

  -- ---- homing

  quiet_unset : (bounds : Bool) (h : Home) (rest : List Piece) → Quiet rest → Quiet (unset_home bounds h rest)
  quiet_unset false h rest quiet = (quiet_put h 0, quiet)
  quiet_unset true (Slot k) rest quiet = (tt, (tt, quiet))
  quiet_unset true (Bnd b) rest quiet = (tt, quiet)
  quiet_unset true (Reg r) rest quiet = quiet

  quiet_unset_from : (x n : ℕ) (rest : List Piece) → Quiet rest → Quiet (unset_from p x n rest)
  quiet_unset_from x zero rest quiet = quiet
  quiet_unset_from x (suc n) rest quiet = quiet_unset (p.is_bounds x) (p.home x) (unset_from p (suc x) n rest) (quiet_unset_from (suc x) n rest quiet)

  quiet_argument : (x i b : ℕ) (pointer : Bool) (rest : List Piece) → Quiet rest → Quiet (home_argument p x i b pointer rest)
  quiet_argument x i b true rest quiet = (quiet_put (p.home x) _, (quiet_put_bounds (p.home (x + 1)) b, quiet))
  quiet_argument x i b false rest quiet = (quiet_put (p.home x) _, quiet)

  quiet_arguments : (qs : List Parameter) (home temp i b : ℕ) (rest : List Piece) → Quiet rest → Quiet (home_arguments p home temp i b qs rest)
  quiet_arguments [] home temp i b rest quiet = quiet
  quiet_arguments (q ∷ qs) home temp i b rest quiet =
      quiet_if q.private _ _
      (quiet_arguments qs (home + width_of q.pointer) temp (i + 1) (next_pair q.pointer b) (home_argument p home i b q.pointer rest) (quiet_argument home i b q.pointer rest quiet))
      (quiet_arguments qs home (temp + width_of q.pointer) (i + 1) (next_pair q.pointer b) (home_argument p temp i b q.pointer rest) (quiet_argument temp i b q.pointer rest quiet))

  pub quiet_homing : (private : ℕ) (qs : List Parameter) → Quiet (homing p private qs)
  quiet_homing private qs = quiet_arguments qs 0 private 0 0 _ (tt, quiet_unset_from (taken qs) (private - taken qs) [] tt)

pub quiet_plain : (is : List Instr) → Quiet (plain is)
quiet_plain [] = tt
quiet_plain (i ∷ is) = (tt, quiet_plain is)
