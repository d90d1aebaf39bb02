-- Where the arguments of a call stand.
use Rattle.std.specs.Prelude.{ℕ, ◌+◌, true, Option, List, [], ◌∷◌}
use Rattle.c_tree.specs.declared.tree.Expr.{Expr}
use Rattle.bounds_plan.specs.elaboration.Source.{Reached, Around}
use Rattle.bounds_plan.specs.elaboration.Expressions.{expression}
use Rattle.steps_facts.specs.declared.seen.Sorted.{Sorted}
use Rattle.steps_facts.specs.Seen.{is_number}
use Rattle.steps_pieces.specs.Own.{place_of}

-- one for each sort that is wanted; where no argument is given, which `check` refuses, it is the number 0
abbrev pub places_of : List Sorted → List Expr → Around → Reached → (d : ℕ) → List (ℕ × Option ℕ)
places_of [] es around r d = []
places_of (t ∷ ts) [] around r d = place_of t true d ∷ places_of ts [] around r (d + 2)
places_of (t ∷ ts) (e ∷ es) around r d = place_of t (is_number (expression e around r).value) d
    ∷ places_of ts es around (expression e around r).after (d + 2)
