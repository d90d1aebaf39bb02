-- Objects that differ in their instrumented code alone.
use Rattle.std.specs.Prelude.{◌≡◌, ◌==◌, ◌&&◌, not, Bool, true, false, List, [], ◌∷◌}
use Rattle.std.specs.List.{AllByRecursion, filter}
use Rattle.obj_file.specs.declared.object.Object.{Object}
use Rattle.obj_file.specs.declared.object.Fix.{Fix}
use Rattle.obj_file.specs.declared.object.Symbol.{Symbol}
use Rattle.obj_linker.specs.Placement.{is_call}

-- a symbol of the same name, signature and part; at the same offset, unless that is one of instrumented code
pub record IsSameSymbol (legacy : Bool) (s t : Symbol) : Type 0 where
  pub part : t.part ≡ s.part
  pub name : t.name ≡ s.name
  pub sig : t.sig ≡ s.sig
  pub offset : (not legacy && (s.part == 1)) ≡ false → t.offset ≡ s.offset

abbrev pub AreSameSymbols : Bool → List Symbol → List Symbol → Type 0
AreSameSymbols legacy [] [] = Unit {0}
AreSameSymbols legacy [] (t ∷ ts) = ⊥
AreSameSymbols legacy (s ∷ ss) [] = ⊥
AreSameSymbols legacy (s ∷ ss) (t ∷ ts) = IsSameSymbol legacy s t × AreSameSymbols legacy ss ts

-- the field of a fix-up is in data
abbrev pub is_in_data : Fix → Bool
is_in_data f = f.part == 2

-- the same legacy object; or an instrumented object of the same data, symbols and fix-ups in data, of which none is relative
pub record IsSameOutside (o p : Object) : Type 0 where
  pub legacy : p.legacy ≡ o.legacy
  pub same : o.legacy ≡ true → p ≡ o
  pub stored : p.stored ≡ o.stored
  pub symbols : AreSameSymbols o.legacy o.symbols p.symbols
  pub fixes : filter is_in_data p.fixes ≡ filter is_in_data o.fixes
  pub absolute : AllByRecursion (λ f. is_call o f ≡ false) (filter is_in_data o.fixes)

abbrev pub AreSameOutside : List Object → List Object → Type 0
AreSameOutside [] [] = Unit {0}
AreSameOutside [] (p ∷ ps) = ⊥
AreSameOutside (o ∷ os) [] = ⊥
AreSameOutside (o ∷ os) (p ∷ ps) = IsSameOutside o p × AreSameOutside os ps
