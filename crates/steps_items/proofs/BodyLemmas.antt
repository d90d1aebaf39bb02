-- The types that a body declares, by their numbers.
use Rattle.std.proofs.Common.{◌≡◌, ℕ, sym, ap, ◌∙◌, List, map, take, drop}
use Rattle.std.specs.List.{take-map, drop-map}
use Rattle.c_types.specs.declared.shape.TypeId.{TypeId}
use Rattle.c_types.specs.Types.{CType}

pub next_known : (at : TypeId → CType) (declared : List TypeId) (whole : List CType) (from count : ℕ) → map at declared ≡ whole → map at (take count (drop from declared)) ≡ take count (drop from whole)
next_known at declared whole from count e = sym (take-map at count (drop from declared)) ∙ ap (take count) (sym (drop-map at from declared)) ∙ ap (λ (ts : List CType). take count (drop from ts)) e
