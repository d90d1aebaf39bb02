-- Ways back among steps, and how far a range goes that reaches into loops.
use Rattle.std.specs.Prelude.{ℕ, ◌+◌, nat_eq, nat_lt, nat_le, if◌then◌else◌, List, [], ◌∷◌, ◌++◌, map}
use Rattle.std.specs.Option.{unwrap_or}
use Rattle.std.specs.Ordering.{nat_cmp}
use Rattle.std.specs.BTreeMap.{BTreeMap, get}
use Rattle.fat_ir.specs.declared.step.FatStep.{FatStep}
use Rattle.fat_ir.specs.declared.step.FatStep.TheVariants.{Label, Jump, JumpIf}
use Rattle.reg_assign.specs.declared.loops.Loop.{Loop}
use Rattle.reg_assign.specs.declared.lives.LiveRange.{LiveRange}
use Rattle.reg_assign.specs.declared.lives.Lives.{Lives}

-- what a map has at a label, or 0
abbrev pub past_in : BTreeMap ℕ ℕ → ℕ → ℕ
past_in m n = unwrap_or (get nat_cmp m n) 0

-- the place behind the last jump to a label, where so far it was `before`: a step at a place may be one
abbrev pub past_jump : (label before at : ℕ) → FatStep → ℕ
past_jump label before at (Jump n) = if nat_eq n label then at + 1 else before
past_jump label before at (JumpIf from n) = if nat_eq n label then at + 1 else before
past_jump label before at _ = before

abbrev pub jumps_noted : (label before at : ℕ) → List FatStep → ℕ
jumps_noted label before at [] = before
jumps_noted label before at (step ∷ steps) = jumps_noted label (past_jump label before at step) (at + 1) steps

-- a label with a later jump to it
abbrev pub loop_at : (past : ℕ → ℕ) → (at : ℕ) → FatStep → List Loop
loop_at past at (Label n) = if nat_lt at (past n) then record { label = at; past = past n } ∷ [] else []
loop_at past at _ = []

abbrev pub loops_from : (past : ℕ → ℕ) → (at : ℕ) → List FatStep → List Loop
loops_from past at [] = []
loops_from past at (step ∷ steps) = loop_at past at step ++ loops_from past (at + 1) steps

abbrev pub loops_in : List FatStep → List Loop
loops_in steps = loops_from (λ n. jumps_noted n 0 0 steps) 0 steps

-- how far a range goes that so far goes up to `past`
abbrev pub farther : (from past : ℕ) → Loop → ℕ
farther from past l =
    if nat_le from l.label then (if nat_lt l.label past then (if nat_lt past l.past then l.past else past) else past) else past

abbrev pub extended : (from past : ℕ) → List Loop → ℕ
extended from past [] = past
extended from past (l ∷ ls) = extended from (farther from past l) ls

abbrev pub extended_range : List Loop → LiveRange → LiveRange
extended_range loops r = record { from = r.from; past = extended r.from r.past loops }

abbrev pub extended_all : List Loop → Lives → Lives
extended_all loops l = record { ranges = map (extended_range loops) l.ranges; order = l.order }
