-- Where the values of a function live: from the first step that names a value up to the last one, and on to the ends of loops.
use Rattle.std.specs.Prelude.{ℕ, zero, suc, ◌+◌, nat_eq, if◌then◌else◌, Option, None, Some, List, [], ◌∷◌, ◌++◌, length, replicate, slice_get, slice_index_or, slice_set}
use Rattle.fat_ir.specs.declared.step.FatStep.{FatStep}
use Rattle.fat_ir.specs.declared.step.FatStep.TheVariants.{Call}
use Rattle.fat_ir.specs.declared.program.FatFun.{FatFun}
use Rattle.fat_ir.specs.Spans.{named}
use Rattle.reg_assign.specs.declared.lives.LiveRange.{LiveRange}
use Rattle.reg_assign.specs.declared.lives.Lives.{Lives}
use Rattle.reg_assign.specs.Loops.{loops_in, extended_all}

-- the values that a step names that is no call
abbrev pub plain_named : FatStep → List ℕ
plain_named (Call symbol args to bounds) = []
plain_named step = named step

-- a range up to a further step, which may be its first
abbrev pub up_to : ℕ → LiveRange → LiveRange
up_to at r = record { from = if nat_eq r.past 0 then at else r.from; past = at + 1 }

abbrev pub nowhere : ℕ → Lives
nowhere count = record { ranges = replicate count record { from = 0; past = 0 }; order = [] }

abbrev pub touched_at : (at v : ℕ) → Option LiveRange → Lives → Lives
touched_at at v None l = l
touched_at at v (Some r) l = record {
  ranges = slice_set l.ranges v (up_to at r);
  order = if nat_eq r.past 0 then l.order ++ v ∷ [] else l.order;
}

-- a value lives at a step
abbrev pub touched : (at v : ℕ) → Lives → Lives
touched at v l = touched_at at v (slice_get l.ranges v) l

abbrev pub all_touched : (at : ℕ) → List ℕ → Lives → Lives
all_touched at [] l = l
all_touched at (v ∷ vs) l = all_touched at vs (touched at v l)

abbrev pub steps_touched : (at : ℕ) → List FatStep → Lives → Lives
steps_touched at [] l = l
steps_touched at (step ∷ steps) l = steps_touched (at + 1) steps (all_touched at (named step) l)

-- so many numbers from v on
abbrev pub from_on : (v count : ℕ) → List ℕ
from_on v zero = []
from_on v (suc n) = v ∷ from_on (v + 1) n

-- some values live at the first step, in this order, and then the first ones of all
abbrev pub entered : (ahead : List ℕ) → (count : ℕ) → Lives → Lives
entered ahead count l = all_touched 0 (from_on 0 count) (all_touched 0 ahead l)

-- where the values of a function live, of which some stand ahead in the order
abbrev pub lives : (ahead : List ℕ) → FatFun → Lives
lives ahead f = extended_all (loops_in f.steps)
    (steps_touched 0 f.steps (entered ahead (f.private + f.arrived) (nowhere (length f.bounds))))

-- the range of a value, empty where there is none
abbrev pub range_in : List LiveRange → ℕ → LiveRange
range_in ranges v = slice_index_or ranges v record { from = 0; past = 0 }

abbrev pub from_of : Lives → ℕ → ℕ
from_of l v = (range_in l.ranges v).from

abbrev pub past_of : Lives → ℕ → ℕ
past_of l v = (range_in l.ranges v).past
