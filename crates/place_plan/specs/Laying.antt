-- How far the constants and the declarations of globals were gone through.
use Rattle.std.specs.Prelude.{ℕ, List, drop}
use Rattle.c_check.specs.declared.checked.Checked.{Checked}
use Rattle.place_plan.specs.declared.image.Reached.{Reached}
use Rattle.place_plan.specs.Initialisers.{filled}
use Rattle.place_plan.specs.Image.{Laid, laid}

abbrev pub reached_laid : Checked → (bytes : List ℕ) → Reached → Laid
reached_laid checked bytes r = laid (filled bytes (drop r.constant checked.constants)) (drop r.number checked.global_items)
