-- What is known of a type or an expression before steps are put down stands for what the definition finds of it.
use Rattle.std.specs.Prelude.{Bool, true, false, List}
use Rattle.mx_base.specs.declared.numbers.IntKind.{IntKind}
use Rattle.mx_base.specs.declared.numbers.IntKind.TheVariants.{U64}
use Rattle.mx_base.specs.declared.places.Place.{Place}
use Rattle.c_types.specs.Types.{CType, StructType}
use Rattle.bounds_plan.specs.elaboration.Types.{Value, Numeric, Address, Sort, ANumber, APointer, AWhole, NoValue, sort_of, is_array, size_in, step_in, target_of}
use Rattle.bounds_plan.specs.elaboration.Places.{Lvalue, NumberVariable, PointerVariable, InMemory, struct_of}
use Rattle.bounds_plan.specs.elaboration.Source.{Reached as ReachedOf}
use Rattle.bounds_plan.specs.elaboration.Expressions.{Found}
use Rattle.steps_facts.specs.declared.seen.Sorted.{Sorted}
use Rattle.steps_facts.specs.declared.seen.Sorted.TheVariants as o
use Rattle.steps_facts.specs.declared.seen.Facts.{Facts}
use Rattle.steps_facts.specs.declared.seen.Spot.{Spot}
use Rattle.steps_facts.specs.declared.seen.Spot.TheVariants as p
use Rattle.steps_facts.specs.declared.seen.Reached.{Reached}
use Rattle.steps_facts.specs.declared.seen.Seen.{Seen}

abbrev pub sorted : Sort → Sorted
sorted (ANumber kind) = o.Number kind
sorted APointer = o.Pointer
sorted AWhole = o.Whole
sorted NoValue = o.Nothing

-- the type in which a value of a sort is a number
abbrev pub kind_in : Sorted → IntKind
kind_in (o.Number kind) = kind
kind_in o.Pointer = U64
kind_in o.Whole = U64
kind_in o.Nothing = U64

abbrev pub facts_of : List StructType → CType → Facts
facts_of structs t = record { sort = sorted (sort_of t); array = is_array t; size = size_in structs t; step = step_in structs t; owner = struct_of t; target = struct_of (target_of t) }

abbrev pub is_number : Value → Bool
is_number (Numeric e) = true
is_number (Address p) = false

abbrev pub spot_of : Lvalue → Spot
spot_of (NumberVariable x) = p.Number x
spot_of (PointerVariable x) = p.Pointer x
spot_of (InMemory q) = p.Memory

abbrev pub reached_of : Reached → ReachedOf
reached_of r = record { kind = r.kind; name = r.name; declaration = r.declaration; literal = r.literal; body = r.body }

-- what is seen of an expression
pub record SeenOf : Type 0 where
  pub facts : Facts
  pub number : Bool
  pub spot : Spot
  pub place : Place
  pub after : ReachedOf

abbrev pub seen_in : List StructType → Found → SeenOf
seen_in structs f = record { facts = facts_of structs f.type; number = is_number f.value; spot = spot_of f.lvalue; place = f.place; after = f.after }

abbrev pub view_of : Seen → SeenOf
view_of s = record { facts = s.facts; number = s.number; spot = s.spot; place = s.place; after = reached_of s.after }
