-- What the loops that put bytes at the end of code keep.
use Rattle.std.specs.Prelude.{Result, Ok, Err, OnOk, IfOk}
use Rattle.std.proofs.Common.{◌≡◌, ℕ, suc, ◌+◌, ◌-◌, ◌<◌, arith, List, [], ◌∷◌, ◌++◌, length, drop, get_or, append_assoc, length-append, refl, ap, ◌∙◌, sym}
use Rattle.std.proofs.lemmas.List.{at_drop_more}
use Rattle.fat_ir.specs.declared.step.FatStep.{FatStep}
use Rattle.step_code.specs.declared.pieces.Piece.{Piece}
use Rattle.step_code.specs.Steps.{Plan, lower}
use Rattle.step_code.specs.Homing.{unset_home, unset_from}
use Rattle.step_code.specs.Bytes.{size_of_piece, size_of_pieces, size_of_steps}
use Rattle.code_emit.specs.Unlinked.{unlinked_piece, unlinked_pieces, unlinked_steps}
use Rattle.code_emit.proofs.Sized.{blank_size}

-- what holds of a good answer, from what was shown of it
pub map_ok : {T E P Q : Type 0} → (r : Result T E) → (P → Q) → OnOk r P → OnOk r Q
map_ok (Ok v) f p = f p
map_ok (Err e) f p = p

-- what holds of a good answer's value, from what was shown of it
pub map_if : {T E : Type 0} → (r : Result T E) → (P Q : T → Type 0) → ((v : T) → P v → Q v) → IfOk r P → IfOk r Q
map_if (Ok v) P Q f p = f v p
map_if (Err e) P Q f p = p

pub length_unlinked : (labels : List ℕ) (at : ℕ) (ps : List Piece) → length (unlinked_pieces labels at ps) ≡ size_of_pieces ps
length_unlinked labels at [] = refl
length_unlinked labels at (p ∷ ps) =
    length-append (unlinked_piece labels at p) (unlinked_pieces labels (at + size_of_piece p) ps)
    ∙ (λ i. blank_size labels (at + size_of_piece p) p i + length_unlinked labels (at + size_of_piece p) ps i)

pub next_piece : (labels code new old : List ℕ) (pieces : List Piece) (i : ℕ) (d : Piece) → i < length pieces
    → code ++ unlinked_pieces labels (length code) (drop i pieces) ≡ old ++ unlinked_pieces labels (length old) pieces
    → new ≡ code ++ unlinked_piece labels (length code) (get_or pieces i d)
    → new ++ unlinked_pieces labels (length new) (drop (i + 1) pieces) ≡ old ++ unlinked_pieces labels (length old) pieces
next_piece labels code new old pieces i d low same is =
    let p = get_or pieces i d in
    let longer : length new ≡ length code + size_of_piece p = ap length is ∙ length-append code (unlinked_piece labels (length code) p) ∙ ap (λ (n : ℕ). length code + n) (blank_size labels (length code + size_of_piece p) p) in
    (λ j. is j ++ unlinked_pieces labels (longer j) (drop (i + 1) pieces))
    ∙ append_assoc code (unlinked_piece labels (length code) p) (unlinked_pieces labels (length code + size_of_piece p) (drop (i + 1) pieces))
    ∙ ap (λ (l : List ℕ). code ++ l) (sym (at_drop_more (unlinked_pieces labels (length code)) pieces i d low))
    ∙ same

pub next_step : (plan : Plan) (labels code new old : List ℕ) (steps rest : List FatStep) (i : ℕ) (step : FatStep) → drop i steps ≡ step ∷ rest → drop (i + 1) steps ≡ rest
    → code ++ unlinked_steps plan labels (length code) (drop i steps) ≡ old ++ unlinked_steps plan labels (length old) steps
    → new ≡ code ++ unlinked_pieces labels (length code) (lower plan step)
    → new ++ unlinked_steps plan labels (length new) (drop (i + 1) steps) ≡ old ++ unlinked_steps plan labels (length old) steps
next_step plan labels code new old steps rest i step here there same is =
    let ps = lower plan step in
    let longer : length new ≡ length code + size_of_pieces ps = ap length is ∙ length-append code (unlinked_pieces labels (length code) ps) ∙ ap (λ (n : ℕ). length code + n) (length_unlinked labels (length code) ps) in
    (λ j. is j ++ unlinked_steps plan labels (longer j) (there j))
    ∙ append_assoc code (unlinked_pieces labels (length code) ps) (unlinked_steps plan labels (length code + size_of_pieces ps) rest)
    ∙ ap (λ (l : List FatStep). code ++ unlinked_steps plan labels (length code) l) (sym here)
    ∙ same

pub next_unset : (plan : Plan) (out new start : List Piece) (x private : ℕ) → x < private → ((rest : List Piece) → new ++ rest ≡ out ++ unset_home (plan.is_bounds x) (plan.home x) rest)
    → out ++ unset_from plan x (private - x) [] ≡ start → new ++ unset_from plan (x + 1) (private - (x + 1)) [] ≡ start
next_unset plan out new start x private low is same =
    let left : suc (private - (x + 1)) ≡ private - x = omega arith in
    let one : x + 1 ≡ suc x = omega arith in
    ap (λ (y : ℕ). new ++ unset_from plan y (private - (x + 1)) []) one
    ∙ is (unset_from plan (suc x) (private - (x + 1)) [])
    ∙ ap (λ (n : ℕ). out ++ unset_from plan x n []) left
    ∙ same

pub length_steps : (plan : Plan) (labels : List ℕ) (at : ℕ) (steps : List FatStep) → length (unlinked_steps plan labels at steps) ≡ size_of_steps plan steps
length_steps plan labels at [] = refl
length_steps plan labels at (step ∷ steps) =
    length-append (unlinked_pieces labels at (lower plan step)) (unlinked_steps plan labels (at + size_of_pieces (lower plan step)) steps)
    ∙ (λ i. length_unlinked labels at (lower plan step) i + length_steps plan labels (at + size_of_pieces (lower plan step)) steps i)

-- bytes behind bytes, and what comes behind both
then_more : (code next end more : List ℕ) (size : ℕ) (rest : ℕ → List ℕ) → next ≡ code ++ more → length more ≡ size → end ≡ next ++ rest (length next) → end ≡ code ++ (more ++ rest (length code + size))
then_more code next end more size rest is long all =
    let longer : length next ≡ length code + size = ap length is ∙ length-append code more ∙ ap (λ (n : ℕ). length code + n) long in
    all
    ∙ (λ j. is j ++ rest (longer j))
    ∙ append_assoc code more (rest (length code + size))

pub five_parts : (plan : Plan) (labels c0 c1 c2 c3 c4 c5 : List ℕ) (entry home : List Piece) (steps : List FatStep) (end return : List Piece)
    → c1 ≡ c0 ++ unlinked_pieces labels (length c0) entry → c2 ≡ c1 ++ unlinked_pieces labels (length c1) home → c3 ≡ c2 ++ unlinked_steps plan labels (length c2) steps
    → c4 ≡ c3 ++ unlinked_pieces labels (length c3) end → c5 ≡ c4 ++ unlinked_pieces labels (length c4) return
    → c5 ≡ c0 ++ (unlinked_pieces labels (length c0) entry
    ++ (unlinked_pieces labels (length c0 + size_of_pieces entry) home
    ++ (unlinked_steps plan labels (length c0 + size_of_pieces entry + size_of_pieces home) steps
    ++ (unlinked_pieces labels (length c0 + size_of_pieces entry + size_of_pieces home + size_of_steps plan steps) end
    ++ unlinked_pieces labels (length c0 + size_of_pieces entry + size_of_pieces home + size_of_steps plan steps + size_of_pieces end) return))))
five_parts plan labels c0 c1 c2 c3 c4 c5 entry home steps end return e1 e2 e3 e4 e5 =
    let at_return : ℕ → List ℕ = λ n. unlinked_pieces labels n return in
    let at_end : ℕ → List ℕ = λ n. unlinked_pieces labels n end ++ at_return (n + size_of_pieces end) in
    let at_steps : ℕ → List ℕ = λ n. unlinked_steps plan labels n steps ++ at_end (n + size_of_steps plan steps) in
    let at_home : ℕ → List ℕ = λ n. unlinked_pieces labels n home ++ at_steps (n + size_of_pieces home) in
    then_more c0 c1 c5 (unlinked_pieces labels (length c0) entry) (size_of_pieces entry) at_home e1 (length_unlinked labels (length c0) entry)
    (then_more c1 c2 c5 (unlinked_pieces labels (length c1) home) (size_of_pieces home) at_steps e2 (length_unlinked labels (length c1) home)
    (then_more c2 c3 c5 (unlinked_steps plan labels (length c2) steps) (size_of_steps plan steps) at_end e3 (length_steps plan labels (length c2) steps)
    (then_more c3 c4 c5 (unlinked_pieces labels (length c3) end) (size_of_pieces end) at_return e4 (length_unlinked labels (length c3) end) e5)))
