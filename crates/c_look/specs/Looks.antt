-- What is seen of an expression by its form and what is seen of its parts.
use Rattle.std.specs.Prelude.{Bool, true, false, Option, None, Some, List}
use Rattle.mx_base.specs.declared.places.Place.{Place}
use Rattle.mx_base.specs.declared.services.CService.{CService}
use Rattle.mx_base.specs.declared.services.CService.TheVariants as in_c
use Rattle.c_check_rules.specs.declared.predeclared.Bind.{Bind}
use Rattle.c_check_rules.specs.declared.predeclared.Bind.TheVariants.{Global, Local, Fun, Service, Builtin}
use Rattle.bounds_plan.specs.elaboration.Places.{variable_of}
use Rattle.bounds_plan.specs.elaboration.Source.{Reached, Around, kind_at, bind_at, past_kind, past_name, past_literal}
use Rattle.bounds_plan.specs.elaboration.Expressions.{without_literals}
use Rattle.steps_facts.specs.declared.seen.Facts.{Facts}
use Rattle.steps_facts.specs.declared.seen.Sorted.{Sorted}
use Rattle.steps_facts.specs.declared.seen.Sorted.TheVariants as o
use Rattle.steps_facts.specs.declared.seen.Spot.{Spot}
use Rattle.steps_facts.specs.declared.seen.Spot.TheVariants as p
use Rattle.steps_facts.specs.Seen.{SeenOf, facts_of, spot_of}
use Rattle.steps_facts.specs.declared.knows.Standing.{Standing}
use Rattle.steps_facts.specs.Around.{parameters_at, standing_at}
use Rattle.c_tree.specs.declared.operators.UnaryOp.{UnaryOp}
use Rattle.c_tree.specs.declared.operators.UnaryOp.TheVariants as u
use Rattle.c_tree.specs.declared.operators.BinaryOp.{BinaryOp}
use Rattle.steps_pieces.specs.Operators.{gives_number}
use Rattle.steps_pieces.specs.Wanted.{loads_number, reads_number, given_number}

-- what is asked of the type of the next expression
abbrev pub facts_at : Around → Reached → Facts
facts_at around r = facts_of around.structs (kind_at around r)

-- what is no place
abbrev pub value_seen : Facts → (number : Bool) → Place → Reached → SeenOf
value_seen facts number place after = record { facts = facts; number = number; spot = p.Memory; place = place; after = after }

-- a place, whose value is read
abbrev pub place_seen : Facts → Spot → Place → Reached → SeenOf
place_seen facts spot place after =
    record { facts = facts; number = reads_number spot facts.sort; spot = spot; place = place; after = after }

-- a value of the next type
abbrev pub value_at : Around → (number : Bool) → Place → Reached → SeenOf
value_at around number place r = value_seen (facts_at around r) number place (past_kind r)

abbrev pub text_seen : Around → Place → Reached → SeenOf
text_seen around place r = value_seen (facts_at around r) false place (past_literal (past_kind r))

abbrev pub named_seen : Around → Facts → Bind → Place → Reached → SeenOf
named_seen around facts (Global number) place after = place_seen facts p.Memory place after
named_seen around facts (Local number) place after =
    place_seen facts (spot_of (variable_of around.structs around.variables around.stands 0 number)) place after
named_seen around facts (Fun number) place after = value_seen facts false place after
named_seen around facts (Service service) place after = value_seen facts true place after
named_seen around facts (Builtin builtin) place after = value_seen facts true place after

abbrev pub name_seen : Around → Place → Reached → SeenOf
name_seen around place r = named_seen around (facts_at around r) (bind_at around r) place (past_name (past_kind r))

-- where a variable stands
abbrev pub spot_at : Standing → Spot
spot_at at = spot_of (standing_at at)

-- an element, a member, and what a pointer points to
abbrev pub part_seen : Around → Place → Reached → SeenOf
part_seen around place r = place_seen (facts_at around r) p.Memory place (past_kind r)

abbrev pub single_seen : UnaryOp → Around → Place → Reached → SeenOf
single_seen u.Neg around place r = value_at around true place r
single_seen u.BitNot around place r = value_at around true place r
single_seen u.Not around place r = value_at around true place r
single_seen u.Deref around place r = part_seen around place r
single_seen u.AddressOf around place r = value_at around false place r

abbrev pub joint_seen : BinaryOp → Around → (x y : SeenOf) → Place → SeenOf
joint_seen joint around x y place = value_at around (gives_number joint x.number y.number) place y.after

-- an assignment to the place x that is gone through up to r
abbrev pub changed_seen : (x : SeenOf) → Place → Reached → SeenOf
changed_seen x place r = value_seen x.facts (reads_number x.spot x.facts.sort) place (past_kind r)

abbrev pub choice_seen : Around → Place → Reached → SeenOf
choice_seen around place r = value_at around (loads_number (facts_at around r).sort) place r

abbrev pub cast_seen : Around → (x : SeenOf) → Place → SeenOf
cast_seen around x place = value_at around (given_number (facts_at around x.after).sort x.number) place x.after

-- `sizeof` of an expression: what stands under it is gone through without its literals
abbrev pub size_seen : Around → (x : SeenOf) → Place → Reached → SeenOf
size_seen around x place r = value_seen (facts_at around x.after) true place (past_kind (without_literals r x.after))

-- ---- calls

-- whether what a function gives is a number
abbrev pub result_number : Sorted → Bool
result_number (o.Number kind) = true
result_number o.Pointer = false
result_number o.Whole = true
result_number o.Nothing = true

abbrev pub function_number : Option (List Sorted) → Sorted → Bool
function_number None sort = true
function_number (Some sorts) sort = result_number sort

abbrev pub service_number : CService → Bool
service_number in_c.Print = true
service_number in_c.Put = true
service_number in_c.Get = true
service_number in_c.Alloc = false
service_number in_c.Free = true
service_number in_c.Exit = true

abbrev pub called_number : Around → Sorted → Bind → Bool
called_number around sort (Fun number) = function_number (parameters_at around number) sort
called_number around sort (Service service) = service_number service
called_number around sort (Builtin builtin) = false
called_number around sort (Global number) = true
called_number around sort (Local number) = true

-- a call whose arguments are gone through up to r
abbrev pub call_seen : Around → Place → Reached → SeenOf
call_seen around place r =
    value_seen (facts_at around r) (called_number around (facts_at around r).sort (bind_at around r)) place (past_name (past_kind r))
