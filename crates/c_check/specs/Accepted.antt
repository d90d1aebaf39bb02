-- When a source is accepted: the list of all broken rules is empty. A source with more nodes than there is room for is told first, then what its
-- items break in their order, and last a source whose data is too large. The first and the last are told at the place of the first item.
use Rattle.std.specs.Prelude.{◌≡◌, ℕ, ◌+◌, nat_lt, Bool, true, if◌then◌else◌, List, [], ◌∷◌, ◌++◌, length, Option, None, Some, Result, Ok, Err}
use Rattle.c_tree.specs.declared.tree.Tree.{Tree}
use Rattle.c_tree.specs.declared.tree.Item.{Item}
use Rattle.c_tree.specs.Count.{tree_nodes}
use Rattle.c_check_rules.specs.declared.names.StructInfo.{StructInfo}
use Rattle.c_check_rules.specs.declared.names.Variable.{Variable}
use Rattle.c_check_rules.specs.Sizes.{limit}
use Rattle.c_check_typing.specs.declared.fault.CheckKind.{CheckKind}
use Rattle.c_check_typing.specs.declared.fault.CheckKind.TheVariants.{TooLarge, LargeData}
use Rattle.c_check_typing.specs.declared.fault.Broken.{Broken}
use Rattle.c_check_typing.specs.declared.fault.CheckFault.{CheckFault}
use Rattle.c_check_typing.specs.declared.fault.CheckFault.TheVariants.{Refused, OutOfMemory}
use Rattle.c_check_typing.specs.Refusals.{breaks, broken_at, all_at, FirstIs}
use Rattle.c_check_statements.specs.declared.state.State.{State}
use Rattle.c_check_statements.specs.Placing.{kind_placed, from_start}
use Rattle.c_check_statements.specs.Sources.{items, at_start}

-- a rule of the whole source, at its first item; a source without items breaks none
abbrev pub at_first : List Item → List CheckKind → List Broken
at_first [] kinds = []
at_first (x ∷ more) kinds = all_at x.place kinds

abbrev pub is_too_large : Tree → (room : ℕ) → Bool
is_too_large tree room = nat_lt room (tree_nodes tree)

-- ---- the data

-- the first byte after the variables that the source defines, in the order of their first declarations; None where that is over the limit
abbrev pub variables_placed : List StructInfo → Option ℕ → List Variable → Option ℕ
variables_placed structs free [] = free
variables_placed structs free (v ∷ more) = variables_placed structs (if v.defined then kind_placed limit structs free v.kind else free) more

-- the text literals stand behind them
abbrev pub is_over : Option ℕ → (texts : ℕ) → Bool
is_over None texts = true
is_over (Some free) texts = nat_lt limit (free + texts)

abbrev pub is_data_large : State → Bool
is_data_large state = is_over (variables_placed state.scope.structs from_start state.scope.variables) (length state.notes.literals)

-- ---- the source

-- what is known after all items
abbrev pub after : Tree → State
after tree = (items tree.items at_start).state

-- all broken rules, each with the place of its node, in order
abbrev pub broken : Tree → (room : ℕ) → List Broken
broken tree room = at_first tree.items (breaks TooLarge (is_too_large tree room))
    ++ ((items tree.items at_start).broken ++ at_first tree.items (breaks LargeData (is_data_large (after tree))))

-- an accepted source
abbrev pub IsAccepted : Tree → (room : ℕ) → Type 0
IsAccepted tree room = broken tree room ≡ []

-- what is answered: all that is known of an accepted source, or the first broken rule
abbrev pub decides : Tree → (room : ℕ) → Result State CheckFault → Type 0
decides tree room (Ok state) = IsAccepted tree room × (state ≡ after tree)
decides tree room (Err (Refused kind place)) = FirstIs (broken tree room) (broken_at place kind)
decides tree room (Err OutOfMemory) = Unit {0}

pub record Decides (tree : Tree) (room : ℕ) (result : Result State CheckFault) : Type 0 where
  pub is : decides tree room result

-- a rule of the whole source is tested
abbrev pub refuses_first : List Item → CheckKind → Bool → Result (Unit {0}) CheckFault → Type 0
refuses_first all kind is_broken (Ok done) = at_first all (breaks kind is_broken) ≡ []
refuses_first all kind is_broken (Err (Refused k place)) = FirstIs (at_first all (breaks kind is_broken)) (broken_at place k)
refuses_first all kind is_broken (Err OutOfMemory) = ⊥

pub record RefusesFirst (all : List Item) (kind : CheckKind) (is_broken : Bool) (result : Result (Unit {0}) CheckFault) : Type 0 where
  pub is : refuses_first all kind is_broken result
