use Rattle.std.proofs.Common.{◌≡◌, vec_len}
use Rattle.std.specs.List.{All}
use Rattle.mx_base.proofs.shelf.Shelf.make.Given as goal

abbrev pub invariant-loop-made : goal.invariant-loop-made
invariant-loop-made l = All (λ t. t.each ≡ l.each) l.slots.items × (vec_len l.slots ≡ l._made)
