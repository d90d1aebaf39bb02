-- Where the variables of a function stand, by the sorts of their types.
use Rattle.std.specs.Prelude.{ℕ, ◌+◌, List, [], ◌∷◌}
use Rattle.c_types.specs.Types.{CType, StructType}
use Rattle.bounds_plan.specs.elaboration.Types.{sort_of, size_in}
use Rattle.bounds_plan.specs.elaboration.Source.{Stand, Private, Frame}
use Rattle.steps_facts.specs.declared.knows.Standing.{Standing}
use Rattle.steps_facts.specs.declared.knows.Standing.TheVariants as t
use Rattle.steps_facts.specs.declared.seen.Sorted.{Sorted}
use Rattle.steps_facts.specs.declared.seen.Sorted.TheVariants as o
use Rattle.steps_facts.specs.Seen.{sorted}

-- a variable of this sort and size; its first private value is x, if it has one
abbrev pub standing : Sorted → Stand → (x size : ℕ) → Standing
standing (o.Number kind) Private x size = t.Number x
standing o.Pointer Private x size = t.Pointer x
standing o.Whole Private x size = t.Frame 0 size
standing o.Nothing Private x size = t.Frame 0 size
standing (o.Number kind) (Frame offset) x size = t.Frame offset size
standing o.Pointer (Frame offset) x size = t.Frame offset size
standing o.Whole (Frame offset) x size = t.Frame offset size
standing o.Nothing (Frame offset) x size = t.Frame offset size

-- how many private values it has
abbrev pub values : Sorted → Stand → ℕ
values (o.Number kind) Private = 1
values o.Pointer Private = 2
values o.Whole Private = 0
values o.Nothing Private = 0
values (o.Number kind) (Frame offset) = 0
values o.Pointer (Frame offset) = 0
values o.Whole (Frame offset) = 0
values o.Nothing (Frame offset) = 0

-- variables one after another, of which the first has its private values from x on
abbrev pub standings_from : List StructType → (x : ℕ) → List CType → List Stand → List Standing
standings_from structs x [] stands = []
standings_from structs x (t ∷ ts) [] = []
standings_from structs x (t ∷ ts) (s ∷ ss) = standing (sorted (sort_of t)) s x (size_in structs t) ∷ standings_from structs (x + values (sorted (sort_of t)) s) ts ss
