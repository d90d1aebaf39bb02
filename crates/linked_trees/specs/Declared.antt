-- What a source says of the symbols of its functions, and what a link has for them.
use Rattle.std.specs.Prelude.{◌≡◌, ℕ, ◌==◌, not, ◌&&◌, if◌then◌else◌, Bool, true, false}
use Rattle.std.specs.Prelude.{Option, None, Some, List, [], ◌∷◌, map, slice_get, slice_index_or}
use Rattle.c_types.specs.Types.{CType}
use Rattle.fat_ir.specs.Functions.{Linked}
use Rattle.bounds_plan.specs.elaboration.Functions.{kind_in}
use Rattle.bounds_plan.specs.elaboration.Source.{SourceLayout, Signature}
use Rattle.bounds_plan.specs.elaboration.Types.{sort_of}
use Rattle.legacy_calls.specs.Legacy.{Linkage}
use Rattle.accepted_trees.specs.Limits.{AreScalars, gives_pointer}
use Rattle.program_laws.specs.Functions.{is_pointer_result, is_there, signature_of}

-- arguments of these types: of pointers with bounds, and of all else without
abbrev pub are_of_types : List CType → List (ℕ × Option ℕ) → Bool
are_of_types [] [] = true
are_of_types [] (a ∷ rest) = false
are_of_types (t ∷ ts) [] = false
are_of_types (t ∷ ts) ((a, None) ∷ rest) = not (gives_pointer (sort_of t)) && are_of_types ts rest
are_of_types (t ∷ ts) ((a, Some b) ∷ rest) = gives_pointer (sort_of t) && are_of_types ts rest

-- whether the function of a symbol takes arguments, and whether it gives a pointer, as it is declared
abbrev pub takes_declared : (symbols : List ℕ) → List Signature → (symbol : ℕ) → List (ℕ × Option ℕ) → Bool
takes_declared [] signatures symbol args = false
takes_declared (f ∷ fs) [] symbol args = false
takes_declared (f ∷ fs) (s ∷ more) symbol args = if f == symbol then are_of_types s.parameters args else takes_declared fs more symbol args

abbrev pub returns_declared : (symbols : List ℕ) → List Signature → (symbol : ℕ) → Bool
returns_declared [] signatures symbol = false
returns_declared (f ∷ fs) [] symbol = false
returns_declared (f ∷ fs) (s ∷ more) symbol = if f == symbol then gives_pointer (sort_of s.result) else returns_declared fs more symbol

-- a symbol is that of a function that the source declares, and the link has a function of this signature for it
pub record IsLinkedTo (k : Linkage) (l : Linked) (layout : SourceLayout) (signatures : List Signature) (symbol : ℕ) : Type 0 where
  pub number : ℕ
  pub signature : Signature
  pub known : slice_get signatures number ≡ Some signature
  pub is : slice_index_or layout.functions number 0 ≡ symbol
  pub scalars : AreScalars signature.parameters
  pub there : is_there k (l.targets symbol) ≡ true
  pub parameters : (signature_of k (l.targets symbol)).parameters ≡ map (λ t. kind_in (sort_of t)) signature.parameters
  pub pointer : gives_pointer (sort_of signature.result) ≡ true → is_pointer_result (signature_of k (l.targets symbol)).result ≡ true
