use Rattle.std.proofs.Common.{◌≡◌, drop, length}
use Rattle.c_types.specs.Types.{structs_of}
use Rattle.place_plan.specs.Globals.{globals_of}
use Rattle.place_plan.specs.Initialisers.{filled}
use Rattle.place_plan.specs.Image.{laid, items_laid}
use Rattle.place_plan.specs.Laying.{reached_laid}
use Rattle.place_plan.proofs.image.lay_items.Given as goal

abbrev pub invariant-items : goal.invariant-items
invariant-items l = record {
  value : items_laid (structs_of l.checked.types) (globals_of l.checked.types l.checked.variables) l.offsets (drop l.item-index l.items) (reached_laid l.checked l.bytes l.reached)
      ≡ items_laid (structs_of l.checked.types) (globals_of l.checked.types l.checked.variables) l.offsets l.items (laid (filled l.initial.bytes l.checked.constants) l.checked.global_items);
  length : length l.bytes ≡ length l.initial.bytes;
}
