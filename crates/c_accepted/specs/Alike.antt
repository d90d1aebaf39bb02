-- The elaboration and the checker go through a tree alike: how far the elaboration has gone, by what the checker has noted of the tree; and what both
-- know of it.
use Rattle.std.specs.Prelude.{◌≡◌, ℕ, ◌≤◌, Some, List, [], ◌∷◌, map, length, slice_get}
use Rattle.c_check_rules.specs.declared.names.Function.{Function}
use Rattle.c_check_rules.specs.declared.predeclared.Bind.{Bind}
use Rattle.c_check_rules.specs.declared.predeclared.Found.{Found}
use Rattle.c_check_rules.specs.declared.predeclared.Found.TheVariants as f
use Rattle.c_check_rules.specs.Names.{tags, member_names}
use Rattle.c_check_typing.specs.declared.typed.Typed.{Typed}
use Rattle.c_check_typing.specs.declared.typed.Notes.{Notes}
use Rattle.c_check_typing.specs.Notes.{Seen}
use Rattle.c_check_statements.specs.declared.state.State.{State}
use Rattle.c_check.specs.Standing.{structs_seen}
use Rattle.bounds_plan.specs.meaning.Core.{Scalar}
use Rattle.bounds_plan.specs.laws.Laws.{OfCopies, most_bytes}
use Rattle.bounds_plan.specs.laws.Roots.{Begins}
use Rattle.bounds_plan.specs.elaboration.Functions.{Defined, Gone}
use Rattle.bounds_plan.specs.elaboration.Source.{Meanings, Reached, Around, Signature}
use Rattle.bounds_plan.specs.elaboration.Expressions.{Reading}

-- what the elaboration takes from the notes on a tree
abbrev pub meanings_of : Notes → Meanings
meanings_of notes = record { kinds = notes.kinds; binds = notes.binds; declared = notes.declared }

-- the tree was gone through as far as these were noted
pub record IsAt (r : Reached) (m : Meanings) : Type 0 where
  pub kind : r.kind ≡ length m.kinds
  pub name : r.name ≡ length m.binds
  pub declaration : r.declaration ≡ length m.declared

-- these were noted in front of those
pub record Front (m whole : Meanings) : Type 0 where
  pub kinds : Begins m.kinds whole.kinds
  pub binds : Begins m.binds whole.binds
  pub declared : Begins m.declared whole.declared

-- an expression without broken rules: its type is known; the notes grow, and nothing is declared; and where they are among the meanings by which it is
-- elaborated, the elaboration goes through it as far as they grow, and finds that type
pub record FoundAlike (s : Seen) (read : Reading) : Type 0 where
  pub typed : Typed
  pub is : s.typed ≡ Some typed
  pub on : (n : Notes) → Front (meanings_of n) (meanings_of (s.after n))
  pub still : (n : Notes) → (s.after n).declared ≡ n.declared
  pub at : (n : Notes) (around : Around) (r : Reached) → Front (meanings_of (s.after n)) around.meanings → IsAt r (meanings_of n) → IsAt (read around r).after (meanings_of (s.after n))
  pub type : (n : Notes) (around : Around) (r : Reached) → Front (meanings_of (s.after n)) around.meanings → IsAt r (meanings_of n) → (read around r).type ≡ typed.kind

-- what the checker finds by a name is bound to this
abbrev pub MeansIt : Found → Bind → Type 0
MeansIt f.Missing bind = ⊥
MeansIt (f.Variable b kind) bind = bind ≡ b
MeansIt (f.Callable b result params) bind = bind ≡ b

-- ---- a whole source

-- what a function that the checker knows takes and gives
abbrev pub signature_seen : Function → Signature
signature_seen f = record { result = f.result; parameters = f.params }

abbrev pub signatures_seen : List Function → List Signature
signatures_seen = map signature_seen

-- by what is noted of it, a source is gone through to its end, and both know the same structs, with the same tags and names of members, and the same
-- functions
pub record GoneAlike (state : State) (gone : Gone) : Type 0 where
  pub at : IsAt gone.after (meanings_of state.notes)
  pub structs : gone.around.structs ≡ structs_seen state.scope.structs
  pub tags_same : gone.around.tags ≡ tags state.scope.structs
  pub members : gone.around.members ≡ map (λ s. member_names s.members) state.scope.structs
  pub signatures : gone.around.signatures ≡ signatures_seen state.scope.functions

-- ---- functions that are defined

-- a function takes as many arguments where it is called as it has parameters where it is defined
pub record TakesWhatItHas (signatures : List Signature) (d : Defined) : Type 0 where
  pub signature : Signature
  pub known : slice_get signatures d.number ≡ Some signature
  pub takes : length d.function.parameters ≡ length signature.parameters

abbrev pub AllTakeWhatTheyHave : List Signature → List Defined → Type 0
AllTakeWhatTheyHave signatures [] = Unit {0}
AllTakeWhatTheyHave signatures (d ∷ more) = TakesWhatItHas signatures d × AllTakeWhatTheyHave signatures more

-- no struct that a function copies is larger than may be
abbrev pub IsSmall : ℕ → List Scalar → Type 0
IsSmall size scalars = size ≤ most_bytes

abbrev pub AllCopySmall : List Defined → Type 0
AllCopySmall [] = Unit {0}
AllCopySmall (d ∷ more) = OfCopies IsSmall d.function.body × AllCopySmall more
