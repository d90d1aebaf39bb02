-- The counts of a declaration: constant integers from 1 to 16,777,216.
use Rattle.std.specs.Prelude.{◌≡◌, ℕ, nat_le, Bool, true, false, not, ◌&&◌, ◌||◌, List, [], ◌∷◌, ◌++◌, Option, None, Some, Result, Ok, Err}
use Rattle.c_tree.specs.declared.tree.Expr.{Expr}
use Rattle.c_types.specs.Types.{CType, Array}
use Rattle.c_check_rules.specs.declared.kinds.Outer.{Outer}
use Rattle.c_check_rules.specs.declared.constants.Constant.{Constant}
use Rattle.c_check_rules.specs.declared.constants.Constant.TheVariants as c
use Rattle.c_check_rules.specs.declared.names.Scope.{Scope}
use Rattle.c_check_rules.specs.Kinds.{outer_of}
use Rattle.c_check_rules.specs.Sizes.{limit}
use Rattle.c_check_rules.specs.Conversions.{is_integer_form}
use Rattle.c_check_typing.specs.declared.typed.Typed.{Typed}
use Rattle.c_check_typing.specs.declared.typed.Notes.{Notes}
use Rattle.c_check_typing.specs.declared.fault.Broken.{Broken}
use Rattle.c_check_typing.specs.declared.fault.CheckFault.{CheckFault}
use Rattle.c_check_typing.specs.declared.fault.CheckFault.TheVariants.{Refused, OutOfMemory}
use Rattle.c_check_typing.specs.Refusals.{FirstIs, broken_at}
use Rattle.c_check_typing.specs.Notes.{Seen, unchanged}
use Rattle.c_check_typing.specs.Expressions.{seen}
use Rattle.c_check_statements.specs.declared.counts.Counts.{Counts}

abbrev pub no_counts : Counts
no_counts = record { values = []; is_out = false; is_open = false; is_odd = false }

-- a count that is no constant, or a division that has no quotient, is open
abbrev pub open_constant : Constant → Bool
open_constant (c.Value w) = false
open_constant c.Stops = true
open_constant c.No = true

abbrev pub is_in_range : ℕ → Bool
is_in_range n = nat_le 1 n && nat_le n limit

-- a constant integer outside the limits
abbrev pub out_constant : Outer → Constant → Bool
out_constant form (c.Value w) = is_integer_form form && not (is_in_range w)
out_constant form c.Stops = false
out_constant form c.No = false

abbrev pub values_after : List ℕ → Constant → List ℕ
values_after values (c.Value w) = values ++ w ∷ []
values_after values c.Stops = values
values_after values c.No = values

-- one count more; what is no integer is odd
abbrev pub count_after : Counts → Typed → Counts
count_after counts t = record {
  values = values_after counts.values t.constant;
  is_out = counts.is_out || out_constant (outer_of t.kind) t.constant;
  is_open = counts.is_open || open_constant t.constant;
  is_odd = counts.is_odd || not (is_integer_form (outer_of t.kind));
}

-- counts that make a type
abbrev pub is_plain : Counts → Bool
is_plain counts = not counts.is_out && (not counts.is_open && not counts.is_odd)

-- arrays of so many, the first outermost
abbrev pub arrayed : List ℕ → CType → CType
arrayed [] kind = kind
arrayed (n ∷ more) kind = Array (arrayed more kind) n

-- ---- counts from the left

-- counts as far as they are known, what they add to the notes, and the rules that are broken in them
pub record Counted : Type 0 where
  pub counts : Option Counts
  pub after : Notes → Notes
  pub broken : List Broken

abbrev pub next_counts : Option Counts → Option Typed → Option Counts
next_counts None t = None
next_counts (Some counts) None = None
next_counts (Some counts) (Some t) = Some (count_after counts t)

abbrev pub count_before : Seen → Counted → Counted
count_before x rest = record { counts = rest.counts; after = λ notes. rest.after (x.after notes); broken = x.broken ++ rest.broken }

abbrev pub counted : Scope → Option Counts → List Expr → Counted
counted scope counts [] = record { counts = counts; after = unchanged; broken = [] }
counted scope counts (x ∷ more) = count_before (seen x false scope) (counted scope (next_counts counts (seen x false scope).typed) more)

abbrev pub reads_counts : Counted → (old : Notes) → Result Counts CheckFault → (new : Notes) → Type 0
reads_counts w old (Ok counts) new = (w.broken ≡ []) × (w.counts ≡ Some counts) × (new ≡ w.after old)
reads_counts w old (Err (Refused kind at)) new = FirstIs w.broken (broken_at at kind)
reads_counts w old (Err OutOfMemory) new = Unit {0}

pub record ReadsCounts (w : Counted) (old : Notes) (result : Result Counts CheckFault) (new : Notes) : Type 0 where
  pub is : reads_counts w old result new
