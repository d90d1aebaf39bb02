-- The names of an image's files, and the places of its instructions.
use Rattle.std.proofs.Common.{◌≡◌, ℕ, zero, suc, ◌≤◌, Option, None, Some, List, [], ◌∷◌, length, ap, ◌∙◌, arith}
use Rattle.std.specs.Prelude.{slice_get}
use Rattle.std.specs.List.{AllByRecursion}
use Rattle.obj_file.specs.declared.image.Spot4.{Spot4}
use Rattle.obj_file.specs.Image.{IsFileName}
use Rattle.fault_text.specs.Explain.{spot_in, code_text, named_text, spot_text}

pub name_short : (files : List (List ℕ)) (k : ℕ) (name : List ℕ) → AllByRecursion IsFileName files → slice_get files k ≡ Some name → length name ≤ 255
name_short [] k name h e = absurd (cc)
name_short (x ∷ files) zero name h e = let same : x ≡ name = cc in omega (arith, h.0.short, ap length same)
name_short (x ∷ files) (suc k) name h e = name_short files k name h.1 e

-- the text of a place by what is found
pub placed : (rip : ℕ) (files : List (List ℕ)) (o : Option Spot4) (spot : Spot4) (name : List ℕ) → o ≡ Some spot → slice_get files spot.file ≡ Some name → spot_text rip files o ≡ spot_in name spot
placed rip files o spot name e h = ap (spot_text rip files) e ∙ ap (named_text rip spot) h

pub nameless : (rip : ℕ) (files : List (List ℕ)) (o : Option Spot4) (spot : Spot4) → o ≡ Some spot → slice_get files spot.file ≡ None → spot_text rip files o ≡ code_text rip
nameless rip files o spot e h = ap (spot_text rip files) e ∙ ap (named_text rip spot) h

pub placeless : (rip : ℕ) (files : List (List ℕ)) (o : Option Spot4) → o ≡ None → spot_text rip files o ≡ code_text rip
placeless rip files o e = ap (spot_text rip files) e
