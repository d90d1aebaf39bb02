-- One run from both sides: as the code of a function sees it, and as a moment at the border of calls.
use Rattle.std.specs.Prelude.{ℕ}
use Rattle.mx_base.specs.Memory.{Bytes}
use Rattle.obj_file.specs.Stored.{Stored}
use Rattle.code_laws.specs.Seen.{Setting, state_of}
use Rattle.code_laws.specs.Views.{View}
use Rattle.gate_laws.specs.Moments.{Moment}
use Rattle.legacy_calls.specs.Legacy.{Linkage}

-- the moment of a view, with a memory behind it, after so many steps
abbrev pub moment_of : View → Stored → ℕ → Moment
moment_of v y n = record { state = state_of v y n; turns = v.world.turns; accesses = v.world.accesses }

-- the setting of a function in an image, above the control stack as it is
abbrev pub setting_of : Linkage → Bytes → (frozen : Bytes) → (sp units depth : ℕ) → (label_at entry_at : ℕ → ℕ) → Setting
setting_of k image frozen sp units depth label_at entry_at = record {
  reads = k.reads;
  outers = k.outers;
  preserve = k.preserve;
  code = image;
  frozen = frozen;
  sp = sp;
  units = units;
  depth = depth;
  label_at = label_at;
  entry_at = entry_at;
}
