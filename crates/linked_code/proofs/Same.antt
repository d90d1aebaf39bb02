-- Of plans that differ in nothing but the addresses of symbols the pieces are the same, but for the moves of these addresses.
use Rattle.std.specs.Prelude.{if◌then◌else◌, pos}
use Rattle.std.proofs.Common.{◌≡◌, ℕ, zero, suc, ◌+◌, ◌-◌, Bool, true, false, Option, None, Some, List, [], ◌∷◌, refl, ap, ◌∙◌}
use Rattle.mx_base.specs.declared.numbers.IntKind.{IntKind}
use Rattle.x86_forms.specs.declared.instr.Instr.TheVariants.{MovImm}
use Rattle.x86_forms.specs.Examples.{reg}
use Rattle.fat_ir.specs.Functions.{Parameter}
use Rattle.step_code.specs.declared.pieces.Piece.{Piece}
use Rattle.step_code.specs.declared.pieces.Piece.TheVariants.{Plain}
use Rattle.step_code.specs.Steps.{Plan, get, get_bounds, arg_reg, load_args, load_two, put_number_at, put_pair_at, word_arg, lower_give}
use Rattle.step_code.specs.Homing.{unset_home, unset_from, home_argument, home_arguments, next_pair, width_of, taken, homing}
use Rattle.linked_code.specs.Filled.{with_symbols}

module _ (p : Plan) (is_function : ℕ → Bool) (old new : ℕ → ℕ) where
  abbrev before : Plan
  before = with_symbols p is_function old

  abbrev after : Plan
  after = with_symbols p is_function new

  pub same_two : (words : Bool) (kind : IntKind) (a b : ℕ) (rest : List Piece) → load_two before words kind a b rest ≡ load_two after words kind a b rest
  same_two true kind a b rest = refl
  same_two false kind a b rest = refl

  pub same_args : (args : List (ℕ × Option ℕ)) (i j : ℕ) → load_args before args i j ≡ load_args after args i j
  same_args [] i j = refl
  same_args ((a, None) ∷ rest) i j = ap (λ (l : List Piece). get (arg_reg i) (p.home a) ∷ l) (same_args rest (suc i) j)
  same_args ((a, Some b) ∷ rest) i j = ap (λ (l : List Piece). get (arg_reg i) (p.home a) ∷ get_bounds j (p.home b) ∷ l) (same_args rest (suc i) (suc j))

  pub same_pair_at : (bounds : Option ℕ) → put_pair_at before bounds ≡ put_pair_at after bounds
  same_pair_at None = refl
  same_pair_at (Some v) = refl

  pub same_number_at : (to : Option ℕ) (rest : List Piece) → put_number_at before to rest ≡ put_number_at after to rest
  same_number_at None rest = refl
  same_number_at (Some v) rest = refl

  pub same_word_arg : (arg : Option ℕ) → word_arg before arg ≡ word_arg after arg
  same_word_arg None = refl
  same_word_arg (Some v) = refl

  pub same_give : (from bounds : Option ℕ) → lower_give before from bounds ≡ lower_give after from bounds
  same_give (Some a) None = refl
  same_give (Some a) (Some b) = refl
  same_give None None = refl
  same_give None (Some b) = refl

  -- ---- homing

  same_unset_from : (x n : ℕ) (rest : List Piece) → unset_from before x n rest ≡ unset_from after x n rest
  same_unset_from x zero rest = refl
  same_unset_from x (suc n) rest = ap (λ (l : List Piece). unset_home (p.is_bounds x) (p.home x) l) (same_unset_from (suc x) n rest)

  same_argument : (x i b : ℕ) (pointer : Bool) (rest : List Piece) → home_argument before x i b pointer rest ≡ home_argument after x i b pointer rest
  same_argument x i b true rest = refl
  same_argument x i b false rest = refl

  same_arguments : (qs : List Parameter) (home temp i b : ℕ) (rest : List Piece) → home_arguments before home temp i b qs rest ≡ home_arguments after home temp i b qs rest
  same_arguments [] home temp i b rest = refl
  same_arguments (q ∷ qs) home temp i b rest =
      let kept = same_arguments qs (home + width_of q.pointer) temp (i + 1) (next_pair q.pointer b) (home_argument before home i b q.pointer rest)
      ∙ ap (λ (l : List Piece). home_arguments after (home + width_of q.pointer) temp (i + 1) (next_pair q.pointer b) qs l) (same_argument home i b q.pointer rest) in
      let arrived = same_arguments qs home (temp + width_of q.pointer) (i + 1) (next_pair q.pointer b) (home_argument before temp i b q.pointer rest)
      ∙ ap (λ (l : List Piece). home_arguments after home (temp + width_of q.pointer) (i + 1) (next_pair q.pointer b) qs l) (same_argument temp i b q.pointer rest) in
      λ j. if q.private then kept j else arrived j

  pub same_homing : (private : ℕ) (qs : List Parameter) → homing before private qs ≡ homing after private qs
  same_homing private qs =
      ap (λ (l : List Piece). home_arguments before 0 private 0 0 qs (Plain (MovImm 64 (reg 0) (pos 0)) ∷ l)) (same_unset_from (taken qs) (private - taken qs) [])
      ∙ same_arguments qs 0 private 0 0 _
