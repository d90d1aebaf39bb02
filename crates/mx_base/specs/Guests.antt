-- What a guest is that services leave so: an input of bytes, and a heap whose ranges lie in its region.
use Rattle.std.specs.Prelude.{ℕ, ◌<◌, ◌≤◌, Option, None, Some, List}
use Rattle.std.specs.List.{AllByRecursion}
use Rattle.mx_base.specs.Bounds.{addresses}
use Rattle.mx_base.specs.Heap.{Range, range_end}
use Rattle.mx_base.specs.Regions.{heap_region, region_end}
use Rattle.mx_base.specs.Services.{Guest, Served, Answers, Exits, Overflows, Refused}

abbrev pub RangeFits : Range → Type 0
RangeFits r = (heap_region.from ≤ r.from) × (range_end r ≤ region_end heap_region)

abbrev pub RangesFit : List Range → Type 0
RangesFit rs = AllByRecursion RangeFits rs

abbrev pub InputFits : List ℕ → Type 0
InputFits bytes = AllByRecursion (λ b. b < 256) bytes

pub record GuestFits (g : Guest) : Type 0 where
  pub free : RangesFit g.heap.free
  pub live : RangesFit g.heap.live
  pub input : InputFits g.input

-- a service that answers does so by a word, and leaves such a guest
abbrev pub AnswerFits : {R : Type 0} → Served R → Type 0
AnswerFits (Answers word g) = (word < addresses) × GuestFits g
AnswerFits (Exits code) = Unit {0}
AnswerFits Overflows = Unit {0}
AnswerFits (Refused why) = Unit {0}

-- what a source tells is bytes, where it tells
abbrev pub TellsBytes : Option (List ℕ) → Type 0
TellsBytes None = Unit {0}
TellsBytes (Some bytes) = InputFits bytes
