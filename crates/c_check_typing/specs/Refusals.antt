-- Broken rules with the places of their nodes, and the first of a list of them.
use Rattle.std.specs.Prelude.{◌≡◌, ℕ, nat_lt, Bool, true, false, ◌&&◌, List, [], ◌∷◌}
use Rattle.mx_base.specs.declared.places.Place.{Place}
use Rattle.c_check_typing.specs.declared.fault.CheckKind.{CheckKind}
use Rattle.c_check_typing.specs.declared.fault.CheckKind.TheVariants as k
use Rattle.c_check_typing.specs.declared.fault.Broken.{Broken}

-- a rule that is broken or not
abbrev pub breaks : CheckKind → Bool → List CheckKind
breaks kind true = kind ∷ []
breaks kind false = []

-- a broken rule of the node at a place
abbrev pub broken_at : Place → CheckKind → Broken
broken_at place kind = record { kind = kind; place = place }

abbrev pub all_at : Place → List CheckKind → List Broken
all_at place [] = []
all_at place (kind ∷ more) = broken_at place kind ∷ all_at place more

-- the list has this one first
pub record FirstIs (broken : List Broken) (first : Broken) : Type 0 where
  pub more : List Broken
  pub is : broken ≡ first ∷ more

-- ---- the order of the rules of one node

abbrev pub rank : CheckKind → ℕ
rank k.TooLarge = 0
rank k.Unknown = 1
rank k.Twice = 2
rank k.BadCount = 3
rank k.NotConst = 4
rank k.NotPlace = 5
rank k.BadType = 6
rank k.ManyParams = 7
rank k.ManyPointers = 8
rank k.LargeCopy = 9
rank k.FrameLarge = 10
rank k.LargeData = 11

abbrev pub comes_before : CheckKind → List CheckKind → Bool
comes_before kind [] = true
comes_before kind (next ∷ more) = nat_lt (rank kind) (rank next)

abbrev pub in_order : List CheckKind → Bool
in_order [] = true
in_order (kind ∷ more) = comes_before kind more && in_order more

abbrev pub InOrder : List CheckKind → Type 0
InOrder kinds = in_order kinds ≡ true
