use Rattle.std.proofs.Common.{◌≡◌, ◌++◌, ◌-◌, ℕ, []}
use Rattle.c_check.specs.declared.symbols.Subject.{Subject}
use Rattle.steps_source.specs.Symbols.{placed_from}
use Rattle.steps_source.proofs.symbols.numbers_behind.Given as goal

abbrev pub invariant-numbers : goal.invariant-numbers
invariant-numbers l = (subject : ℕ → Subject) (at : ℕ) → l.all ++ placed_from subject [] at l.behind l.first (l.count - l.first) ≡ placed_from subject [] at l.behind 0 l.count
