-- What a check of a list of faults answers.
use Rattle.std.specs.Prelude.{◌≡◌, Option, None, Some, Result, Ok, Err, List, [], ◌∷◌}
use Rattle.obj_linker.specs.declared.fault.LinkFault.{LinkFault}
use Rattle.obj_linker.specs.declared.fault.LinkFault.TheVariants.{OutOfMemory, Twice, Missing, Clash, NoMain, ManyFunctions, CodeLarge, LegacyLarge, GlobalsLarge, ImageLarge, FarFix}

abbrev pub first : List LinkFault → Option LinkFault
first [] = None
first (fault ∷ later) = Some fault

abbrev pub IsFirst : LinkFault → List LinkFault → Type 0
IsFirst OutOfMemory faults = Unit {0}
IsFirst (Twice name) faults = first faults ≡ Some (Twice name)
IsFirst (Missing name) faults = first faults ≡ Some (Missing name)
IsFirst (Clash name) faults = first faults ≡ Some (Clash name)
IsFirst NoMain faults = first faults ≡ Some NoMain
IsFirst (ManyFunctions n) faults = first faults ≡ Some (ManyFunctions n)
IsFirst (CodeLarge n) faults = first faults ≡ Some (CodeLarge n)
IsFirst (LegacyLarge n) faults = first faults ≡ Some (LegacyLarge n)
IsFirst (GlobalsLarge n) faults = first faults ≡ Some (GlobalsLarge n)
IsFirst (ImageLarge n) faults = first faults ≡ Some (ImageLarge n)
IsFirst (FarFix object fix) faults = first faults ≡ Some (FarFix object fix)

-- it passes where there are none, and else answers the first, unless memory is wanting
abbrev pub Passes : {A : Type 0} → Result A LinkFault → List LinkFault → Type 0
Passes (Ok x) faults = faults ≡ []
Passes (Err fault) faults = IsFirst fault faults
