-- The accesses that an image tells by its places.
use Rattle.std.specs.Prelude.{◌≡◌, ℕ, ◌==◌, Option, List, length, find, take}
use Rattle.std.specs.List.{AllByRecursion}
use Rattle.std.specs.Option.{option_map}
use Rattle.mx_base.specs.StopOfC.{AccessOfC}
use Rattle.obj_file.specs.declared.image.Image.{Image}
use Rattle.obj_file.specs.declared.image.Spot4.{Spot4}
use Rattle.obj_file.specs.declared.object.Object.{Object}
use Rattle.fat_ir.specs.declared.step.FatStep.{FatStep}
use Rattle.fat_ir.specs.declared.step.FatStep.TheVariants as s
use Rattle.obj_linker.specs.Image.{files}

-- a place of an image as an access, where the image's files have numbers among the sources; kind 2 is a write
abbrev pub access_of : (number : ℕ → ℕ) → Spot4 → AccessOfC
access_of number p = record { place = record { file = number p.file; line = p.line; col = p.col }; write = p.kind == 2; size = p.size }

-- the access that is told at an address of code
abbrev pub accesses_of : (number : ℕ → ℕ) → Image → ℕ → Option AccessOfC
accesses_of number v at = option_map (access_of number) (find (λ (p : Spot4). p.at == at) v.places)

-- the number that the file of an object has in their image
abbrev pub file_in : List Object → (object : ℕ) → ℕ
file_in os object = length (files (take object os))

-- what a step judges stands in a file
abbrev pub StandsIn : (file : ℕ) → FatStep → Type 0
StandsIn file (s.Judge value size bounds write place) = place.file ≡ file
StandsIn file step = Unit {0}

abbrev pub AllStandIn : (file : ℕ) → List FatStep → Type 0
AllStandIn file steps = AllByRecursion (StandsIn file) steps
