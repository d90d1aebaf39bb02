-- What a linked function of an accepted source names was made before the program started.
use Rattle.std.specs.Prelude.{◌≡◌, ℕ, Some, List, ◌++◌, slice_get, slice_index, slice_index_or}
use Rattle.mx_base.specs.declared.limits.Bounds.{Bounds}
use Rattle.c_tree.specs.declared.tree.Item.{Item}
use Rattle.c_types.specs.Types.{CType}
use Rattle.c_check.specs.Accepted.{after}
use Rattle.c_check.specs.Standing.{structs_seen}
use Rattle.bounds_plan.specs.meaning.Functions.{Linked}
use Rattle.bounds_plan.specs.laws.Roots.{NamesStatement, ObjectMade}
use Rattle.bounds_plan.specs.elaboration.Types.{size_in}
use Rattle.bounds_plan.specs.elaboration.Source.{SourceLayout}
use Rattle.bounds_plan.specs.elaboration.Laws.{IsFunction}
use Rattle.c_accepted.specs.Alike.{meanings_of}
use Rattle.c_accepted.specs.Frames.{AllPlanned}
use Rattle.c_accepted.specs.Linked.{Source, IsLinked}
use Rattle.c_accepted.specs.SourceLiterals.{literal_sizes}
use Rattle.c_accepted.specs.Wholes.{known_behind, HasNumber}

-- each global of the source was made with the size of its type, wherever it is known
abbrev pub GlobalsMade : List Bounds → Source → Linked → Type 0
GlobalsMade start source l = (before others : List Item) → source.tree.items ≡ before ++ others → (number : ℕ) (type : CType) → HasNumber (known_behind before).variables number type
    → ObjectMade start (l.located (slice_index_or source.layout.globals number 0)) 0 (size_in (structs_seen (known_behind before).structs) type)

-- each literal of the source was made at its offset, with the size of its text
abbrev pub LiteralsMade : List Bounds → Source → Linked → Type 0
LiteralsMade start source l = (number size : ℕ) → slice_get (literal_sizes source.tree (meanings_of (after source.tree).notes) source.layout source.flags) number ≡ Some size
    → ObjectMade start (l.located source.layout.texts) (slice_index source.layout.literals number) size

-- and so was each function that the function names, if it has bounds at all
abbrev pub FunctionsMade : List Bounds → Source → Linked → Type 0
FunctionsMade start source l = NamesStatement (λ symbol offset size. IsFunction source.layout symbol offset size → ObjectMade start (l.located symbol) offset size) (λ offset size. Unit {0}) (λ x. Unit {0}) l.fun.body

-- no global has the symbol of the literals
abbrev pub TextsApart : SourceLayout → Type 0
TextsApart layout = (number : ℕ) → slice_index_or layout.globals number 0 ≡ layout.texts → ⊥

-- in a layout that is planned by what is known of the source
pub record IsMadeFor (start : List Bounds) (source : Source) (l : Linked) : Type 0 where
  pub planned : AllPlanned (after source.tree).bodies source.layout.frames
  pub apart : TextsApart source.layout
  pub globals : GlobalsMade start source l
  pub literals : LiteralsMade start source l
  pub functions : FunctionsMade start source l

-- for each function of a program
abbrev pub IsMade : List Bounds → (takes_outside : ℕ → ℕ) (program : ℕ → Linked) → IsLinked takes_outside program → Type 0
IsMade start takes_outside program linked = (f : ℕ) → IsMadeFor start (linked f).source (program f)
