-- The numbers of the symbols of a source.
use Rattle.std.specs.Prelude.{ℕ, zero, suc, ◌+◌, List, [], ◌∷◌, length}
use Rattle.c_check.specs.declared.symbols.Subject.{Subject}
use Rattle.c_check.specs.declared.symbols.Subject.TheVariants.{Global, Function, Literals}
use Rattle.c_check.specs.declared.symbols.Symbol.{Symbol}
use Rattle.c_check.specs.Symbols.{place_from}
use Rattle.c_accepted.specs.Planned.{number_or, numbers_from}
use Rattle.steps_source.specs.declared.symbols.SymbolNumbers.{SymbolNumbers}

-- a global or function that symbols name, and what they name behind it
abbrev pub before_literals : Subject → List Subject → List Subject
before_literals (Global n) more = Global n ∷ more
before_literals (Function n) more = Function n ∷ more
before_literals Literals more = []

-- the globals and functions that these symbols name, up to the literals
abbrev pub named_in : List Symbol → List Subject
named_in [] = []
named_in (x ∷ more) = before_literals x.subject (named_in more)

-- the numbers of these subjects, of which the first has the number `at`; and behind those of all symbols the numbers of what has none
abbrev pub placed_from : (ℕ → Subject) → List Subject → (at behind first count : ℕ) → List ℕ
placed_from subject named at behind first zero = []
placed_from subject named at behind first (suc n) = number_or (behind + first) (place_from at (subject first) named) ∷ placed_from subject named at behind (first + 1) n

-- the numbers of so many globals and functions, by what symbols name
abbrev pub numbered : List Subject → (globals functions : ℕ) → SymbolNumbers
numbered named globals functions = record {
  globals = numbers_from Global named (length named + 1) 0 globals;
  functions = numbers_from Function named (length named + 1 + globals) 0 functions;
  texts = length named;
}
