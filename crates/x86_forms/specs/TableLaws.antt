-- Laws of the instruction table: what every row keeps.
use Rattle.std.specs.Prelude.{◌≡◌, ℕ, Bool, true, false, nat_eq, not, ◌||◌, Result, Ok, Err, List, [], ◌∷◌, ⊤}
use Rattle.mx_base.specs.declared.limits.Bounds.{Bounds}
use Rattle.mx_base.specs.Walk.{violation_status}
use Rattle.x86_forms.specs.declared.instr.Instr.{Instr}
use Rattle.x86_forms.specs.declared.instr.Instr.TheVariants.{CallRel, JmpRel, CallRm, JmpRm, Jcc, Ret, Bndmk, BndmovFrom, Bndldx}
use Rattle.x86_forms.specs.declared.spans.Span.{Span}
use Rattle.x86_forms.specs.Processor.{Processor}
use Rattle.x86_forms.specs.Requests.{Program, Ends, Fails, Reads, Writes, Loads, Keeps, Fault, Divides, Undefines, Violates, Store, Outcome, Done, Failed, Refused, refused_with}
use Rattle.x86_forms.specs.Table.{init_bounds}

-- ---- accesses

abbrev pub read_span : ℕ → ℕ → Bool → Span
read_span at size implicit = record { at = at; size = size; write = false; implicit = implicit }

abbrev pub write_span : ℕ → ℕ → Bool → Span
write_span at size implicit = record { at = at; size = size; write = true; implicit = implicit }

-- a program asks memory for these accesses and no others, in order, whatever memory answers
abbrev pub AsksFor : Program → List Span → Type 0
AsksFor (Ends after) [] = ⊤
AsksFor (Ends after) (s ∷ rest) = ⊥
AsksFor (Fails fault left) [] = ⊤
AsksFor (Fails fault left) (s ∷ rest) = ⊥
AsksFor (Reads at size implicit next) [] = ⊥
AsksFor (Reads at size implicit next) (s ∷ rest) = (s ≡ read_span at size implicit) × ((v : ℕ) → AsksFor (next v) rest)
AsksFor (Writes at size value implicit next) [] = ⊥
AsksFor (Writes at size value implicit next) (s ∷ rest) = (s ≡ write_span at size implicit) × AsksFor next rest
AsksFor (Loads at value next) spans = (b : Bounds) → AsksFor (next b) spans
AsksFor (Keeps at value b next) spans = AsksFor next spans

-- ---- two memories

abbrev pub SameAnswer : {X Y O : Type 0} → (X → Y → Type 0) → Result X O → Result Y O → Type 0
SameAnswer R (Ok x) (Ok y) = R x y
SameAnswer R (Ok x) (Err p) = ⊥
SameAnswer R (Err o) (Ok y) = ⊥
SameAnswer R (Err o) (Err p) = o ≡ p

abbrev pub SameBounds : {X Y O : Type 0} → (X → Y → Type 0) → Result (Bounds × X) O → Result (Bounds × Y) O → Type 0
SameBounds R (Ok p) (Ok q) = (p.0 ≡ q.0) × R p.1 q.1
SameBounds R (Ok p) (Err o) = ⊥
SameBounds R (Err o) (Ok q) = ⊥
SameBounds R (Err o) (Err p) = o ≡ p

-- two memories with stores of bounds answer alike wherever R holds between them, and it holds again after each answer
pub record AnswerAlike {X Y O : Type 0} (R : X → Y → Type 0) (m : Store X O) (n : Store Y O) : Type 0 where
  pub read : (x : X) (y : Y) (at size : ℕ) → R x y → m.read x at size ≡ n.read y at size
  pub write : (x : X) (y : Y) (at size value : ℕ) → R x y → SameAnswer R (m.write x at size value) (n.write y at size value)
  pub load : (x : X) (y : Y) (at value : ℕ) → R x y → SameBounds R (m.load x at value) (n.load y at value)
  pub keep : (x : X) (y : Y) (at value : ℕ) (b : Bounds) → R x y → SameAnswer R (m.keep x at value b) (n.keep y at value b)
  pub status : (o : O) (before : ℕ) → m.status o before ≡ n.status o before

-- two instructions ended alike, and left memories between which R holds
abbrev pub SameOutcome : {X Y O : Type 0} → (X → Y → Type 0) → Outcome X O → Outcome Y O → Type 0
SameOutcome R (Done a x) (Done b y) = (a ≡ b) × R x y
SameOutcome R (Failed f a x) (Failed g b y) = (f ≡ g) × (a ≡ b) × R x y
SameOutcome R (Refused o a x) (Refused p b y) = (o ≡ p) × (a ≡ b) × R x y
SameOutcome R _ _ = ⊥

-- ---- rows that aren't done

-- BNDSTATUS after a fault of the row's own
abbrev pub status_after : Fault → ℕ → ℕ
status_after Divides before = before
status_after Undefines before = before
status_after (Violates value b) before = violation_status

-- where the instruction isn't done, it leaves the memory, and the processor but for BNDSTATUS
abbrev pub LeavesAll : {X O : Type 0} → Store X O → Processor → X → Outcome X O → Type 0
LeavesAll s before x (Done after y) = ⊤
LeavesAll s before x (Failed fault left y) = (left ≡ refused_with (status_after fault before.status) before) × (y ≡ x)
LeavesAll s before x (Refused o left y) = (left ≡ refused_with (s.status o before.status) before) × (y ≡ x)

-- ---- bounds registers

-- a near branch without the BND prefix, where BNDPRESERVE is clear
abbrev pub widens : Instr → Bool → Bool
widens (CallRel prefixed rel) preserve = not (prefixed || preserve)
widens (JmpRel prefixed rel) preserve = not (prefixed || preserve)
widens (CallRm prefixed rm) preserve = not (prefixed || preserve)
widens (JmpRm prefixed rm) preserve = not (prefixed || preserve)
widens (Jcc prefixed op rel) preserve = not (prefixed || preserve)
widens (Ret prefixed) preserve = not (prefixed || preserve)
widens i preserve = false

-- BNDMK, a loading BNDMOV and BNDLDX set the bounds register that they name
abbrev pub sets_register : Instr → ℕ → Bool
sets_register (Bndmk b m) k = nat_eq k b
sets_register (BndmovFrom b rm) k = nat_eq k b
sets_register (Bndldx b m) k = nat_eq k b
sets_register i k = false

-- the bounds registers after an instruction: all are INIT after a widening branch, and else each that the instruction doesn't set is left
pub record BoundsAfter (i : Instr) (before after : Processor) : Type 0 where
  pub widened : widens i before.preserve ≡ true → after.bounds ≡ init_bounds
  pub left : (k : ℕ) → widens i before.preserve ≡ false → sets_register i k ≡ false → after.bounds k ≡ before.bounds k

abbrev pub WhereDone : {X O : Type 0} → (Processor → Type 0) → Outcome X O → Type 0
WhereDone P (Done after y) = P after
WhereDone P (Failed fault left y) = ⊤
WhereDone P (Refused o left y) = ⊤
