use Rattle.std.proofs.Common.{ℕ, List, ◌++◌, length}
use Rattle.disasm.specs.Listing.{Lists}
use Rattle.disasm.proofs.listing.all.Given as goal

abbrev pub invariant-loop-rest : goal.invariant-loop-rest
invariant-loop-rest l = (lines : List ℕ) → Lists l.rest lines → Lists l.code (l.out.items ++ lines)

abbrev pub decreases-loop-rest : goal.decreases-loop-rest
decreases-loop-rest l = length l.rest
