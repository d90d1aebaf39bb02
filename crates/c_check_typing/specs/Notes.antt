-- What is seen of an expression: its type and what else is known of its value, what it adds to the notes on the tree, and the rules that are
-- broken in it. Notes have the type of each expression, the meaning of each name and the type of each
-- declaration, in tree order: children before their parent, from left to right; what the names outside of `sizeof` mean; the locals that `&` is
-- applied to; the words of the constants of globals; and the bytes of the literals.
use Rattle.std.specs.Prelude.{◌≡◌, ℕ, true, false, List, [], ◌∷◌, ◌++◌, length, take, Option, None, Some, Result, Ok, Err}
use Rattle.mx_base.specs.declared.places.Place.{Place}
use Rattle.c_types.specs.Types.{CType}
use Rattle.c_check_rules.specs.declared.constants.Constant.{Constant}
use Rattle.c_check_rules.specs.declared.constants.Constant.TheVariants as c
use Rattle.c_check_rules.specs.declared.predeclared.Bind.{Bind}
use Rattle.c_check_typing.specs.declared.typed.Typed.{Typed}
use Rattle.c_check_typing.specs.declared.typed.Notes.{Notes}
use Rattle.c_check_typing.specs.declared.fault.CheckKind.{CheckKind}
use Rattle.c_check_typing.specs.declared.fault.Broken.{Broken}
use Rattle.c_check_typing.specs.declared.fault.CheckFault.{CheckFault}
use Rattle.c_check_typing.specs.declared.fault.CheckFault.TheVariants.{Refused, OutOfMemory}
use Rattle.c_check_typing.specs.Refusals.{broken_at, all_at, FirstIs}

-- ---- what is known of a value

-- a value of this type that is no place
abbrev pub value : CType → Constant → Typed
value kind constant = record { kind = kind; is_place = false; is_zero = false; constant = constant; text = None; local = None }

-- a place of this type
abbrev pub place : CType → Typed
place kind = record (value kind c.No) { is_place = true }

-- ---- notes

abbrev pub no_notes : Notes
no_notes = record { kinds = []; binds = []; used = []; declared = []; taken = []; constants = []; literals = [] }

abbrev pub with_kind : CType → Notes → Notes
with_kind kind notes = record notes { kinds = notes.kinds ++ kind ∷ [] }

abbrev pub with_bind : Bind → Notes → Notes
with_bind bind notes = record notes { binds = notes.binds ++ bind ∷ [] }

-- a name in an expression
abbrev pub with_use : Bind → Notes → Notes
with_use bind notes = record notes { binds = notes.binds ++ bind ∷ []; used = notes.used ++ bind ∷ [] }

abbrev pub with_declared : CType → Notes → Notes
with_declared kind notes = record notes { declared = notes.declared ++ kind ∷ [] }

-- `&` is applied to this local, if it is one
abbrev pub with_taken : Option ℕ → Notes → Notes
with_taken None notes = notes
with_taken (Some local) notes = record notes { taken = notes.taken ++ local ∷ [] }

-- an integer of a global begins with this word, if it is one
abbrev pub with_constant : Option ℕ → Notes → Notes
with_constant None notes = notes
with_constant (Some word) notes = record notes { constants = notes.constants ++ word ∷ [] }

-- a text literal of these bytes, with the byte 0 at its end
abbrev pub with_text : List ℕ → Notes → Notes
with_text bytes notes = record notes { literals = notes.literals ++ (bytes ++ 0 ∷ []) }

-- of the bytes of literals and of what is used the first alone
abbrev pub first_evaluated : (literals used : ℕ) → Notes → Notes
first_evaluated literals used notes = record notes { literals = take literals notes.literals; used = take used notes.used }

abbrev pub unchanged : Notes → Notes
unchanged notes = notes

-- ---- what a node is by itself

-- what is known of a node's value, what it adds to the notes, and the rules that it breaks, in the order of their kinds
pub record Own : Type 0 where
  pub typed : Option Typed
  pub noted : Notes → Notes
  pub broken : List CheckKind

-- a node that breaks no rule
abbrev pub fine : Typed → Own
fine t = record { typed = Some t; noted = with_kind t.kind; broken = [] }

-- a node that breaks these rules
abbrev pub wrong : List CheckKind → Own
wrong kinds = record { typed = None; noted = unchanged; broken = kinds }

-- a node whose parts break rules: nothing is known of it
abbrev pub nothing : Own
nothing = wrong []

-- a node that breaks these rules, or has a value of which this is known
abbrev pub judged : List CheckKind → Typed → Own
judged [] t = fine t
judged (kind ∷ more) t = wrong (kind ∷ more)

-- where nothing is known of a part, nothing is known of the node
abbrev pub with_typed : Option Typed → (Typed → Own) → Own
with_typed None own = nothing
with_typed (Some t) own = own t

-- ---- what is seen of an expression

pub record Seen : Type 0 where
  pub typed : Option Typed
  pub after : Notes → Notes
  pub broken : List Broken

-- a node behind its parts
abbrev pub node : Place → List Broken → (Notes → Notes) → Own → Seen
node place broken after own = record { typed = own.typed; after = λ notes. own.noted (after notes); broken = broken ++ all_at place own.broken }

-- what stands under `sizeof`, and a text that initialises an array of `char`, is not evaluated: its texts are no literals, its names are not used,
-- and only those that were noted before it stay
unfoldable pub unevaluated : Seen → Seen
unevaluated a = record a { after = λ notes. first_evaluated (length notes.literals) (length notes.used) (a.after notes) }

-- a node without parts, and with one, two or three of them
unfoldable pub leaf : Place → Own → Seen
leaf place own = node place [] unchanged own

unfoldable pub one : Place → Seen → (Option Typed → Own) → Seen
one place a own = node place a.broken a.after (own a.typed)

unfoldable pub two : Place → Seen → Seen → (Typed → Typed → Own) → Seen
two place a b own = node place (a.broken ++ b.broken) (λ notes. b.after (a.after notes)) (with_typed a.typed (λ t. with_typed b.typed (own t)))

unfoldable pub three : Place → Seen → Seen → Seen → (Typed → Typed → Typed → Own) → Seen
three place a b d own = node place (a.broken ++ (b.broken ++ d.broken)) (λ notes. d.after (b.after (a.after notes)))
    (with_typed a.typed (λ t. with_typed b.typed (λ u. with_typed d.typed (own t u))))

-- ---- what is answered where the first broken rule ends a walk

-- the end of a node: its value and the notes after it, or its first broken rule
abbrev pub ends : Own → Place → (old : Notes) → Result Typed CheckFault → (new : Notes) → Type 0
ends own place old (Ok t) new = (own.broken ≡ []) × (own.typed ≡ Some t) × (new ≡ own.noted old)
ends own place old (Err (Refused kind at)) new = FirstIs (all_at place own.broken) (broken_at at kind)
ends own place old (Err OutOfMemory) new = Unit {0}

pub record Ends (own : Own) (place : Place) (old : Notes) (result : Result Typed CheckFault) (new : Notes) : Type 0 where
  pub is : ends own place old result new

-- the walk through an expression: its value and the notes after it, or the first rule that is broken in it
abbrev pub reads : Seen → (old : Notes) → Result Typed CheckFault → (new : Notes) → Type 0
reads s old (Ok t) new = (s.broken ≡ []) × (s.typed ≡ Some t) × (new ≡ s.after old)
reads s old (Err (Refused kind at)) new = FirstIs s.broken (broken_at at kind)
reads s old (Err OutOfMemory) new = Unit {0}

pub record Reads (s : Seen) (old : Notes) (result : Result Typed CheckFault) (new : Notes) : Type 0 where
  pub is : reads s old result new

-- a local to which `&` is applied is noted
abbrev pub took_note : (local : Option ℕ) → (old : Notes) → Result (Unit {0}) CheckFault → (new : Notes) → Type 0
took_note local old (Ok done) new = new ≡ with_taken local old
took_note local old (Err (Refused kind at)) new = ⊥
took_note local old (Err OutOfMemory) new = Unit {0}
